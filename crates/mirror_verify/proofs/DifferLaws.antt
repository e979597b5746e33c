-- Where bytes differ.
use Rattle.std.proofs.Common.{◌≡◌, ℕ, List, [], ◌∷◌, None, refl, sym, subst}
use Rattle.std.specs.Prelude.{find, max, not, nat_eq, length, slice_index}
use Rattle.std.specs.List.{range_with_len}
use Rattle.std.proofs.lemmas.Bool.{eq-eqb}
use Rattle.mirror_verify.specs.Findings.{lowest_difference}

same_nowhere : (bytes places : List ℕ) → find (λ place. not (nat_eq (slice_index bytes place) (slice_index bytes place))) places ≡ None
same_nowhere bytes [] = refl
same_nowhere bytes (place ∷ places) = rw (eq-eqb (slice_index bytes place) (slice_index bytes place) refl) (same_nowhere bytes places)

-- the same bytes differ nowhere
pub no_difference : (ours theirs : List ℕ) → ours ≡ theirs → None ≡ lowest_difference ours theirs
no_difference ours theirs same =
    let P : List ℕ → Type 0 = λ (xs : List ℕ). None ≡ lowest_difference ours xs in
    subst P same (sym (same_nowhere ours (range_with_len 0 (max (length ours) (length ours)))))
