-- One more component: somebody is in the way of one of its tails, or the first stands behind it.
use Rattle.std.proofs.Common.{◌≡◌, ℕ, ◌+◌, ◌-◌, ◌*◌, List, Option, Some, map, sym, ap, subst, ◌∙◌, arith}
use Rattle.std.specs.Prelude.{option_map}
use Rattle.std.specs.Option.{option_or}
use Rattle.flr_base.specs.declared.reply.Range.{Range}
use Rattle.extent_lock.specs.declared.lock.Lock.{Lock}
use Rattle.mirror_select.specs.Tails.{StripeObject, stripes_in, stripes_above, tail_in}
use Rattle.mirror_select.proofs.TailWalk.{end_at, mirror_at, turn_at}
use Rattle.client_write.specs.Truncates.{first_blocker}
use Rattle.client_write.proofs.Unlisted.{asked_all, asked_both, asked_for, first_own, none_told, own_then, some_told}
use Rattle.client_write.proofs.tails.first_in_the_way.Goals as goal

pub loop-index-smaller : goal.loop-index-smaller
loop-index-smaller c =
    let turn =
    turn_at c.args.layout.now c.components-components.result.now (Some c.in-Some.mirror) c.args.from c.loop-index.id c.in-Some-next_component.index c.index-components-index.result c.components-components.ensures.valid
    c.components-components.ensures.same (sym c.next_component.ensures ∙ c.in-Some-next_component.is) c.index-components-index.is in
    let a = turn.from_id in
    let b = turn.below in
    let d = c.from-id.ensures in
    omega (arith, a, b, d)

pub loop-index-preserved : goal.loop-index-preserved
loop-index-preserved c =
    let x = c.index-components-index.result in
    let l = c.args.layout.now in
    let o = Some c.in-Some.mirror in
    let held = c.args.locks.now in
    let rest : ℕ → List StripeObject = λ n. stripes_above l.components o c.args.from n (l.next_mirror * 65536 - n) in
    let turn =
    turn_at l c.components-components.result.now o c.args.from c.loop-index.id c.in-Some-next_component.index x c.components-components.ensures.valid c.components-components.ensures.same (sym c.next_component.ensures ∙ c.in-Some-next_component.is)
    c.index-components-index.is in
    let told = sym c.in_default-in_the_way_in.is ∙ c.in_the_way_in.ensures.first in
    let none = sym (first_own c.args.client (map (tail_in c.args.from) (stripes_in x)) held c.loop-index.locks c.loop-index.invariant.own) ∙ none_told (first_blocker (asked_for c.args.client c.args.from (stripes_in x)) c.loop-index.locks) told in
    let first =
    c.loop-index.invariant.first ∙ asked_both c.args.client c.args.from (stripes_in x) (rest (x.id + 1)) (rest c.loop-index.id) held turn.stripes
    ∙ ap (λ (p : Option (ℕ × Range)). option_or p (first_blocker (asked_for c.args.client c.args.from (rest (x.id + 1))) held)) none in
    record {
      first =
          subst (λ (n : ℕ). first_blocker (asked_for c.args.client c.args.from (stripes_above l.components o c.args.from 0 (l.next_mirror * 65536))) held ≡ first_blocker (asked_for c.args.client c.args.from (rest (n + 1))) held)
          (sym c.from-id.ensures) first;
      own = own_then c.args.client held c.loop-index.locks c.in_the_way_in.new.locks c.loop-index.invariant.own c.in_the_way_in.ensures.own;
    }

pub returns-in-Some-in_the_way_in-clause-first : goal.returns-in-Some-in_the_way_in-clause-first
returns-in-Some-in_the_way_in-clause-first c =
    let x = c.index-components-index.result in
    let l = c.args.layout.now in
    let o = Some c.in-Some.mirror in
    let held = c.args.locks.now in
    let rest : ℕ → List StripeObject = λ n. stripes_above l.components o c.args.from n (l.next_mirror * 65536 - n) in
    let turn =
    turn_at l c.components-components.result.now o c.args.from c.loop-index.id c.in-Some-next_component.index x c.components-components.ensures.valid c.components-components.ensures.same (sym c.next_component.ensures ∙ c.in-Some-next_component.is)
    c.index-components-index.is in
    let is = mirror_at l c.components-components.result.now c.args.from c.ready_mirror.result c.components-components.ensures.same c.ready_mirror.ensures.first ∙ c.in-Some.is in
    let told =
    sym c.in-Some-in_the_way_in.is ∙ c.in_the_way_in.ensures.first ∙ ap (option_map (λ (t : ℕ × Range). t.0)) (first_own c.args.client (map (tail_in c.args.from) (stripes_in x)) held c.loop-index.locks c.loop-index.invariant.own) in
    let all =
    ap (λ (ls : List Lock). first_blocker ls held) (asked_all c.args.client c.args.from c.in-Some.mirror l is) ∙ c.loop-index.invariant.first
    ∙ asked_both c.args.client c.args.from (stripes_in x) (rest (x.id + 1)) (rest c.loop-index.id) held turn.stripes in
    some_told (first_blocker (asked_for c.args.client c.args.from (stripes_in x)) held) (first_blocker (asked_for c.args.client c.args.from (rest (x.id + 1))) held) c.in-Some-in_the_way_in.holder told
    ∙ ap (option_map (λ (t : ℕ × Range). t.0)) (sym all)

pub returns-clause-first : goal.returns-clause-first
returns-clause-first c =
    let l = c.args.layout.now in
    let held = c.args.locks.now in
    let is = mirror_at l c.components-components.result.now c.args.from c.ready_mirror.result c.components-components.ensures.same c.ready_mirror.ensures.first ∙ c.in-Some.is in
    let none = end_at l c.components-components.result.now (Some c.in-Some.mirror) c.args.from c.loop-index.id c.components-components.ensures.valid c.components-components.ensures.same (sym c.next_component.ensures ∙ c.in_default-next_component.is) in
    let all =
    ap (λ (ls : List Lock). first_blocker ls held) (asked_all c.args.client c.args.from c.in-Some.mirror l is) ∙ c.loop-index.invariant.first
    ∙ ap (λ (ss : List StripeObject). first_blocker (asked_for c.args.client c.args.from ss) held) none in
    ap (option_map (λ (t : ℕ × Range). t.0)) (sym all)
