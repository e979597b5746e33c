use Rattle.std.proofs.Common.{◌≡◌, ℕ, ◌+◌, ◌-◌, ◌<◌, Bool, false, not, if◌then◌else◌, Some, ap, sym, eq-eqb, ◌∙◌, arith}
use Rattle.std.specs.Prelude.{find, nat_eq}
use Rattle.std.specs.List.{range_with_len}
use Rattle.resync_copy.specs.Merges.{byte_at}
use Rattle.resync_copy.proofs.Sources.{first_more}
use Rattle.resync_copy.proofs.pairs.first_difference.Goals as goal

pub loop-place-preserved : goal.loop-place-preserved
loop-place-preserved c =
    let place : ℕ = c.loop-place.place in
    let n : ℕ = c.args.length in
    let p : ℕ → Bool = λ k. not (nat_eq (byte_at c.args.ours.now k) (byte_at c.args.theirs.now k)) in
    let lt : place < n = omega arith in
    let e : p place ≡ false = ap not (eq-eqb (byte_at c.args.ours.now place) (byte_at c.args.theirs.now place) (sym c.byte_at.ensures ∙ c.if-byte_at.false ∙ c.byte_at-in-loop-place.ensures)) in
    c.loop-place.invariant ∙ first_more p place n lt ∙ ap (λ (b : Bool). if b then Some place else find p (range_with_len (place + 1) (n - (place + 1)))) e
