-- Which word is the name that a split makes by default, and whether a file has it.
use Rattle.std.proofs.Common.{◌≡◌, ℕ, ◌<◌, List, [], ◌∷◌, ◌++◌, length, drop, zero, suc, Bool, true, false, cond, refl, sym, ap, ◌∙◌, arith}
use Rattle.std.proofs.Math.Seq.{drop-append_seam}
use Rattle.std.specs.Prelude.{◌≢◌, ◌↔◌, IsTrue, is_some, Some}
use Rattle.std.specs.Cmp.Lexicographic.{bytes_decides}
use Rattle.meta_server.specs.Files.{File, file_at, file_named, same_name}

-- a word that doesn't begin with the front is another
pub other_front : (word front rest : List ℕ) → ((others : List ℕ) → word ≢ front ++ others) → IsTrue false ↔ (word ≡ front ++ rest)
other_front word front rest none = ((λ t. absurd (cc)), λ e. absurd (none rest e))

-- a word that begins with the front is the one where the rest is right
pub right_rest : (b : Bool) (word front rest wanted : List ℕ) → word ≡ front ++ rest → IsTrue b ↔ (rest ≡ wanted) → IsTrue b ↔ (word ≡ front ++ wanted)
right_rest b word front rest wanted begins says =
    ((λ t. begins ∙ ap (λ (xs : List ℕ). front ++ xs) (says.0 t)), λ e. says.1 (sym (drop-append_seam front rest) ∙ ap (drop (length front)) (sym begins ∙ e) ∙ drop-append_seam front wanted))

-- a file with the name is found
pub found : (name : List ℕ) (files : List File) (place : ℕ) → place < length files → (file_at files place).name ≡ name → is_some (file_named name files) ≡ true
found name [] place h e = absurd (omega arith)
found name (f ∷ fs) zero h e = ap (λ (b : Bool). is_some (cond b (Some f) (file_named name fs))) ((bytes_decides name f.name).1 (sym e))
found name (f ∷ fs) (suc place) h e = by (same_name name f.name) (found name fs place (omega arith) e)
  where
    by : (b : Bool) → is_some (file_named name fs) ≡ true → is_some (cond b (Some f) (file_named name fs)) ≡ true
    by true more = refl
    by false more = more

-- where none has the name none is found
pub not_found : (name : List ℕ) (files : List File) → ((place : ℕ) → place < length files → (file_at files place).name ≢ name) → is_some (file_named name files) ≡ false
not_found name [] none = refl
not_found name (f ∷ fs) none = by (same_name name f.name) refl (not_found name fs (λ place h. none (suc place) (omega arith)))
  where
    by : (b : Bool) → same_name name f.name ≡ b → is_some (file_named name fs) ≡ false → is_some (cond b (Some f) (file_named name fs)) ≡ false
    by true e more = absurd (none 0 (omega arith) (sym ((bytes_decides name f.name).0 e)))
    by false e more = more
