-- Targets once one of them was called.
use Rattle.std.proofs.Common.{◌≡◌, ℕ, List, Some, sym, ap, ◌∙◌}
use Rattle.std.specs.Prelude.{slice_get}
use Rattle.std.proofs.Math.ListN.{set}
use Rattle.std.proofs.lemmas.List.{set-get_or}
use Rattle.std.proofs.lemmas.Option.{get_or_from_slice_get}

-- a target that is put back as it was
pub put_back : {X : Type 0} (xs : List X) (i : ℕ) (x y : X) → slice_get xs i ≡ Some x → y ≡ x → set xs i y ≡ xs
put_back xs i x y e same = ap (set xs i) (same ∙ sym (get_or_from_slice_get xs i x x e)) ∙ set-get_or xs i x
