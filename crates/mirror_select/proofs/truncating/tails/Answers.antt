-- Each turn puts the tails of the component with the next id.
use Rattle.std.proofs.Common.{◌≡◌, ◌++◌, ◌*◌, ◌-◌, ◌+◌, ℕ, Some, List, map, sym, ap, subst, ◌∙◌, arith}
use Rattle.mirror_select.specs.Tails.{StripeObject, stripes_in, stripes_above, tail_in, tail_mirror}
use Rattle.mirror_select.proofs.TailWalk.{mirror_at, turn_at, end_at, put_stripes, tails_whole}
use Rattle.mirror_select.proofs.Writable.{ready_there}
use Rattle.mirror_select.proofs.truncating.tails.Goals as goal

pub unreachable-requires : goal.unreachable-requires
unreachable-requires c =
    let there = ready_there c.args.layout.now (record { start = c.args.from; end = 18446744073709551615 }) c.requires.ready in
    let same : tail_mirror c.args.layout.now c.args.from ≡ c.ready_mirror.result = mirror_at c.args.layout.now c.components-components.result.now c.args.from c.ready_mirror.result c.components-components.ensures.same c.ready_mirror.ensures.first in
    c.in_default.not-Some there.0 (sym same ∙ there.1)

pub loop-index-smaller : goal.loop-index-smaller
loop-index-smaller c =
    let turn = turn_at c.args.layout.now c.components-components.result.now (Some c.in-Some.mirror) c.args.from c.loop-index.id c.in-Some-next_component.index c.index-components-index.result c.components-components.ensures.valid c.components-components.ensures.same (sym c.next_component.ensures ∙ c.in-Some-next_component.is) c.index-components-index.is in
    let a = turn.from_id in
    let b = turn.below in
    let d = c.from-id.ensures in
    omega (arith, a, b, d)

pub loop-index-preserved : goal.loop-index-preserved
loop-index-preserved c =
    let x = c.index-components-index.result in
    let turn = turn_at c.args.layout.now c.components-components.result.now (Some c.in-Some.mirror) c.args.from c.loop-index.id c.in-Some-next_component.index x c.components-components.ensures.valid c.components-components.ensures.same (sym c.next_component.ensures ∙ c.in-Some-next_component.is) c.index-components-index.is in
    let l = c.args.layout.now in
    let o = Some c.in-Some.mirror in
    let rest : ℕ → List StripeObject = λ n. stripes_above l.components o c.args.from n (l.next_mirror * 65536 - n) in
    let whole = map (tail_in c.args.from) (stripes_above l.components o c.args.from 0 (l.next_mirror * 65536)) in
    let put = put_stripes (tail_in c.args.from) c.loop-index.tails c.push_tails.new.tails whole (stripes_in x) (rest (x.id + 1)) (rest c.loop-index.id) c.in_ok-push_tails.ensures.pushed turn.stripes c.loop-index.invariant in
    subst (λ (n : ℕ). c.push_tails.new.tails ++ map (tail_in c.args.from) (rest (n + 1)) ≡ whole) (sym c.from-id.ensures) put

pub returns : goal.returns
returns c =
    let l = c.args.layout.now in
    let none = end_at l c.components-components.result.now (Some c.in-Some.mirror) c.args.from c.loop-index.id c.components-components.ensures.valid c.components-components.ensures.same (sym c.next_component.ensures ∙ c.in_default-next_component.is) in
    let is = mirror_at l c.components-components.result.now c.args.from c.ready_mirror.result c.components-components.ensures.same c.ready_mirror.ensures.first ∙ c.in-Some.is in
    let whole = ap (λ (ss : List StripeObject). c.loop-index.tails ++ map (tail_in c.args.from) ss) (sym none) ∙ c.loop-index.invariant in
    record { tails = tails_whole l c.args.from c.in-Some.mirror c.loop-index.tails is whole }
