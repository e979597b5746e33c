-- Where a layout is ready for a write of all bytes from one on, each of these bytes has a tail.
use Rattle.std.proofs.Common.{◌≡◌, ℕ, ◌/◌, ◌<◌, ◌≤◌, true, eqb, ltb, List, length, Option, Some, refl, sym, subst, ◌∙◌, arith}
use Rattle.std.specs.Prelude.{Contains, slice_get}
use Rattle.std.proofs.Math.Nat.{mod-lt}
use Rattle.std.proofs.lemmas.Bool.{and_from, and_parts, cond-true, eqb-true, eq-eqb, lt-ltb}
use Rattle.std.proofs.lemmas.Option.{slice_get-get_or}
use Rattle.flr_base.specs.declared.reply.Range.{Range}
use Rattle.stripe_map.specs.Places.{place_of}
use Rattle.composite_layout.specs.declared.component.Component.{Component}
use Rattle.composite_layout.specs.Choices.{is_ready}
use Rattle.composite_layout.specs.Layouts.{Composite, IsValid, eof}
use Rattle.composite_layout.specs.LookUps.{covers}
use Rattle.mirror_select.specs.Candidates.{has_byte}
use Rattle.mirror_select.specs.Tails.{StripeObject, ends_above, tail_mirror, tail_stripes}
use Rattle.mirror_select.proofs.Least.{some_in, to_contains}
use Rattle.mirror_select.proofs.Sound.{are_good, has_parts, striped}
use Rattle.mirror_select.proofs.TailLaws.{are_all}
use Rattle.mirror_select.proofs.Writable.{opens, overlapping, own_parts, ready_there}
use Rattle.flr_honest.proofs.Closing.Lists.{some_there}
use Rattle.flr_honest.proofs.Closing.Tails.{has_stripe}

-- a stripe with a tail that has the byte
pub record IsTailOver (l : Composite) (size x : ℕ) : Type 0 where
  pub place : ℕ
  pub stripe : StripeObject
  pub there : slice_get (tail_stripes l size) place ≡ Some stripe
  pub over : has_stripe x stripe ≡ true

at_place : {X : Type 0} (xs : List X) (x : X) → Contains xs x → (place : ℕ) × (slice_get xs place ≡ Some x)
at_place xs x h = (h.0, slice_get-get_or xs h.0 x h.1 ∙ (λ j. Some (h.2 j)))

-- each byte of the file from there on has one
pub ready_tail : (l : Composite) (size x : ℕ) → IsValid l → is_ready l (record { start = size; end = eof }) ≡ true → size ≤ x → x < eof → IsTailOver l size x
ready_tail l size x valid ready low high =
    let range : Range = record { start = size; end = eof } in
    let mirror = ready_there l range ready in
    let good = are_good l valid in
    let some = some_in (covers mirror.0 x) l.components (good.covered mirror.0 x mirror.2.there high) in
    let c : Component = some.0 in
    let parts = and_parts (eqb c.mirror mirror.0) (has_byte x c) some.2 in
    let mine = eqb-true c.mirror mirror.0 parts.0 in
    let bytes = has_parts x c parts.1 in
    let flags = own_parts mirror.0 c (opens l.components range mirror.0 c mirror.2.ready some.1 (overlapping range x c low high parts.1)) mine in
    let shape = good.each c some.1 in
    let stripes = striped c shape in
    let count : length c.objects ≡ c.stripe.count = shape.shaped.one_each ∙ cond-true c.flags.init c.stripe.count 0 flags.1 in
    let index : (place_of x c.stripe).index < c.stripe.count = mod-lt (x / c.stripe.size) stripes.least_count in
    let object = some_there c.objects (place_of x c.stripe).index (omega (arith, count, index)) in
    let s : StripeObject = record { component = c; index = (place_of x c.stripe).index; object = object.0 } in
    let past = bytes.1 in
    let above : ends_above (Some mirror.0) size c ≡ true = and_from (eqb c.mirror mirror.0) (ltb size c.extent.end) (eq-eqb c.mirror mirror.0 mine) (lt-ltb size c.extent.end (omega (arith, past, low))) in
    let ends : ends_above (tail_mirror l size) size c ≡ true = subst (λ (o : Option ℕ). ends_above o size c ≡ true) (sym mirror.1) above in
    let listed : Contains (tail_stripes l size) s = (are_all l size s valid).1 (record { there = to_contains l.components c some.1; ends = ends; object = object.1 }) in
    let at = at_place (tail_stripes l size) s listed in
    record {
      place = at.0;
      stripe = s;
      there = at.1;
      over = and_from (has_byte x c) (eqb (place_of x c.stripe).index (place_of x c.stripe).index) parts.1 (eq-eqb (place_of x c.stripe).index (place_of x c.stripe).index refl);
    }
