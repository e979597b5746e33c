-- The bytes of a file that is split off.
use Rattle.std.proofs.Common.{◌≡◌, ◌+◌, ℕ, Bool, true, false, cond, List, [], ◌∷◌, ◌++◌, length, refl, ap, ◌∙◌, arith}
use Rattle.std.specs.Prelude.{Some, None}
use Rattle.std.specs.Str.{bytes_eq}
use Rattle.std.proofs.lemmas.Slice.Eq.{bytes_eq-Decides}
use Rattle.plain_files.specs.Files.{Plain, bytes_of, bytes_at, plain_at, plain_from}
use Rattle.flr_claims.specs.Meanings.{SplitFilesHaveTheBytes}

module _ (f : Plain) (same : bytes_eq f.name f.name ≡ true) where
  -- a file that comes last, under a name that no other has, is found behind all others
  found : (n : ℕ) (store : List Plain) → plain_from n f.name store ≡ None → plain_from n f.name (store ++ f ∷ []) ≡ Some (n + length store)
  found n [] none = ap (λ (b : Bool). cond b (Some n) (plain_from (n + 1) f.name [])) same ∙ ap (λ k. Some k) (omega arith)
  found n (g ∷ gs) none = by n g gs (bytes_eq g.name f.name) refl none (found (n + 1) gs)
    where
      by : (n : ℕ) (g : Plain) (gs : List Plain) (b : Bool) → bytes_eq g.name f.name ≡ b → cond b (Some n) (plain_from (n + 1) f.name gs) ≡ None
          → (plain_from (n + 1) f.name gs ≡ None → plain_from (n + 1) f.name (gs ++ f ∷ []) ≡ Some (n + 1 + length gs)) → plain_from n f.name ((g ∷ gs) ++ f ∷ []) ≡ Some (n + length (g ∷ gs))
      by n g gs true is e rest = absurd cc
      by n g gs false is e rest = ap (λ (b : Bool). cond b (Some n) (plain_from (n + 1) f.name (gs ++ f ∷ []))) is ∙ rest e ∙ ap (λ k. Some k) (omega arith)

  last : (store : List Plain) → plain_at (store ++ f ∷ []) (length store) ≡ f
  last [] = refl
  last (g ∷ gs) = last gs

  bytes_last : (store : List Plain) → plain_from 0 f.name store ≡ None → bytes_of (store ++ f ∷ []) f.name ≡ f.bytes
  bytes_last store none = ap (bytes_at (store ++ f ∷ [])) (found 0 store none ∙ ap (λ k. Some k) (omega arith)) ∙ ap (λ (p : Plain). p.bytes) (last store)

pub split_files_have_the_bytes : SplitFilesHaveTheBytes
split_files_have_the_bytes name new mirror to store none = bytes_last (record { name = new; bytes = bytes_of store name }) ((bytes_eq-Decides new new).1 refl) store none
