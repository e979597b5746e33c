-- The spelling of bytes is one word, and it spells them.
use Rattle.std.proofs.Common.{◌≡◌, ℕ, zero, suc, ◌/◌, ◌%◌, ◌<◌, ◌≤◌, ◌^◌, Bool, true, false, cond, eqb, List, [], ◌∷◌, ◌++◌, length, replicate, Option, Some, None, refl, sym, ap, subst, ◌∙◌, arith}
use Rattle.std.specs.List.{flat_map, AllByRecursion}
use Rattle.std.specs.Fmt.{decimal, digit_glyph}
use Rattle.std.proofs.lemmas.Bool.{and_from, eqb-true, eqb-false}
use Rattle.std.proofs.lemmas.Bool.Decides.{nat_tests}
use Rattle.std.proofs.lemmas.List.{length-append, length-replicate}
use Rattle.std.proofs.lemmas.List.Concat.{flat_map-cons}
use Rattle.flr_base.specs.declared.runs.run.Run.{Run}
use Rattle.flr_base.specs.Runs.{run_text, runs_text, bytes_of, AreRunsAfter, AreRuns, Spells, onto_run, runs_of, text_of_bytes}
use Rattle.flr_base.proofs.RunLaws.{one_value}
use Rattle.flr_base.proofs.RunLists.{runs_spell}
use Rattle.text_words.specs.Words.{is_graphic, IsGraphic, IsWord}
use Rattle.text_words.proofs.WordTexts.{graphic_append, word_graphic, word_append, decimal_word}

abbrev pub AreAllBytes : List ℕ → Type 0
AreAllBytes bytes = AllByRecursion (λ byte. byte < 256) bytes

-- ---- the text is one word

pub glyph_is_graphic : (d : ℕ) → d < 16 → is_graphic (digit_glyph false d) ≡ true
glyph_is_graphic d lt = grind (arith, nat_tests)

run_word : (r : Run) → r.byte < 256 → IsWord (run_text r)
run_word r lt =
    and_from (is_graphic (digit_glyph false (r.byte / 16))) _ (glyph_is_graphic (r.byte / 16) (omega arith))
    (and_from (is_graphic (digit_glyph false (r.byte % 16))) _ (glyph_is_graphic (r.byte % 16) (omega arith)) (word_graphic (decimal r.count) (decimal_word r.count)))

others_graphic : (last : Option ℕ) (rs : List Run) → AreRunsAfter last rs → IsGraphic (flat_map (λ x. 43 ∷ run_text x) rs)
others_graphic last [] h = refl
others_graphic last (r ∷ rs) h =
    subst IsGraphic (sym (flat_map-cons (λ (x : Run). 43 ∷ run_text x) r rs))
    (graphic_append (43 ∷ run_text r) (flat_map (λ x. 43 ∷ run_text x) rs) (word_graphic (run_text r) (run_word r h.0)) (others_graphic (Some r.byte) rs h.4))

runs_word : (rs : List Run) → AreRuns rs → IsWord (runs_text rs)
runs_word [] h = refl
runs_word (r ∷ rs) h = word_append (run_text r) (flat_map (λ x. 43 ∷ run_text x) rs) (run_word r h.0) (others_graphic (Some r.byte) rs h.4)

-- ---- the runs of bytes stand for them

abbrev StandsFor : List ℕ → List Run → Type 0
StandsFor bytes rs = AreRuns rs × (bytes ≡ bytes_of rs)

abbrev run_at : ℕ → ℕ → Run
run_at b n = record { byte = b; count = n }

bytes-cons : (r : Run) (rs : List Run) → bytes_of (r ∷ rs) ≡ replicate r.count r.byte ++ bytes_of rs
bytes-cons r rs = flat_map-cons (λ (x : Run). replicate x.count x.byte) r rs

onto_by : (b : ℕ) (bytes : List ℕ) (r : Run) (rs : List Run) (t : Bool) → eqb b r.byte ≡ t → b < 256 → suc (length bytes) < 2 ^ 32 → StandsFor bytes (r ∷ rs)
    → StandsFor (b ∷ bytes) (cond t (run_at b (suc r.count) ∷ rs) (run_at b 1 ∷ r ∷ rs))
onto_by b bytes r rs true e lt fits h =
    let same : b ≡ r.byte = eqb-true b r.byte e in
    let parts : bytes ≡ replicate r.count r.byte ++ bytes_of rs = h.1 ∙ bytes-cons r rs in
    let few : r.count ≤ length bytes = omega (arith, ap (λ (xs : List ℕ). length xs) parts, length-append (replicate r.count r.byte) (bytes_of rs), length-replicate r.count r.byte) in (
      (lt, omega arith, omega arith, (λ f. absurd cc), subst (λ x. AreRunsAfter (Some x) rs) (sym same) h.0.4),
      ap (λ xs. b ∷ xs) (parts ∙ ap (λ x. replicate r.count x ++ bytes_of rs) (sym same)) ∙ sym (bytes-cons (run_at b (suc r.count)) rs),
    )
onto_by b bytes r rs false e lt fits h =
    let other = eqb-false b r.byte e in (
      (lt, omega arith, omega arith, (λ f. absurd cc), (h.0.0, h.0.1, h.0.2, (λ f. let g : b ≡ r.byte = cc in other g), h.0.4)),
      ap (λ xs. b ∷ xs) h.1 ∙ sym (bytes-cons (run_at b 1) (r ∷ rs)),
    )

onto_stands : (b : ℕ) (bytes : List ℕ) (rs : List Run) → b < 256 → suc (length bytes) < 2 ^ 32 → StandsFor bytes rs → StandsFor (b ∷ bytes) (onto_run b rs)
onto_stands b bytes [] lt fits h = ((lt, omega arith, omega arith, (λ f. absurd cc), tt), ap (λ xs. b ∷ xs) h.1)
onto_stands b bytes (r ∷ rs) lt fits h = onto_by b bytes r rs (eqb b r.byte) refl lt fits h

runs_stand : (bytes : List ℕ) → AreAllBytes bytes → length bytes < 2 ^ 32 → StandsFor bytes (runs_of bytes)
runs_stand [] h fits = (tt, refl)
runs_stand (b ∷ bytes) h fits = onto_stands b bytes (runs_of bytes) h.0 (omega arith) (runs_stand bytes h.1 (omega arith))

-- the text of bytes spells them
pub spells_them : (bytes : List ℕ) → AreAllBytes bytes → length bytes < 2 ^ 32 → Spells (text_of_bytes bytes) bytes
spells_them bytes h fits = let s = runs_stand bytes h fits in (runs_of bytes, s.0, refl, s.1)

-- and no others
pub one_list : (a b : List ℕ) → AreAllBytes a → AreAllBytes b → length a < 2 ^ 32 → length b < 2 ^ 32 → text_of_bytes a ≡ text_of_bytes b → a ≡ b
one_list a b h k fits_a fits_b e =
    one_value (text_of_bytes a) a b (spells_them a h fits_a) (subst (λ (t : List ℕ). Spells t b) (sym e) (spells_them b k fits_b))

pub bytes_word : (bytes : List ℕ) → AreAllBytes bytes → length bytes < 2 ^ 32 → IsWord (text_of_bytes bytes)
bytes_word bytes h fits = runs_word (runs_of bytes) (runs_stand bytes h fits).0

-- ---- what is spelled is bytes

AllByRecursion-append : (P : ℕ → Type 0) (xs ys : List ℕ) → AllByRecursion P xs → AllByRecursion P ys → AllByRecursion P (xs ++ ys)
AllByRecursion-append P [] ys h k = k
AllByRecursion-append P (x ∷ xs) ys h k = (h.0, AllByRecursion-append P xs ys h.1 k)

pub all_one : (n b : ℕ) → b < 256 → AreAllBytes (replicate n b)
all_one zero b lt = tt
all_one (suc n) b lt = (lt, all_one n b lt)

of_runs : (last : Option ℕ) (rs : List Run) → AreRunsAfter last rs → AreAllBytes (bytes_of rs)
of_runs last [] h = tt
of_runs last (r ∷ rs) h =
    subst AreAllBytes (sym (bytes-cons r rs)) (AllByRecursion-append (λ byte. byte < 256) (replicate r.count r.byte) (bytes_of rs) (all_one r.count r.byte h.0) (of_runs (Some r.byte) rs h.4))

pub spelled_bytes : (text bytes : List ℕ) → Spells text bytes → AreAllBytes bytes × (text ≡ text_of_bytes bytes)
spelled_bytes text bytes s = (subst AreAllBytes (sym s.3) (of_runs None s.0 s.1), runs_spell text bytes s)
