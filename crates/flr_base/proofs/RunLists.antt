-- The runs of a list of bytes are the only ones that stand for it.
use Rattle.std.proofs.Common.{◌≡◌, ◌≢◌, ℕ, zero, suc, ◌<◌, List, [], ◌∷◌, ◌++◌, replicate, Option, Some, None, refl, sym, ap, ◌∙◌, arith}
use Rattle.std.proofs.lemmas.Bool.{eq-eqb, ne_eqb}
use Rattle.std.proofs.lemmas.List.Concat.{flat_map-cons}
use Rattle.flr_base.specs.declared.runs.run.Run.{Run}
use Rattle.flr_base.specs.Runs.{AreRuns, AreRunsAfter, bytes_of, runs_text, onto_run, runs_of, Spells, text_of_bytes}
use Rattle.flr_base.proofs.RunLaws.{run_of}

-- these runs don't begin with the byte
abbrev BeginsOther : ℕ → List Run → Type 0
BeginsOther b [] = Unit {0}
BeginsOther b (r ∷ rs) = b ≢ r.byte

onto_other : (b : ℕ) (rs : List Run) → BeginsOther b rs → onto_run b rs ≡ run_of b 1 ∷ rs
onto_other b [] h = refl
onto_other b (r ∷ rs) h = rw (ne_eqb b r.byte h) refl

onto_same : (b n : ℕ) (rs : List Run) → onto_run b (run_of b n ∷ rs) ≡ run_of b (suc n) ∷ rs
onto_same b n rs = rw (eq-eqb b b refl) refl

-- a stretch of one byte before others is one run
stretch : (b n : ℕ) (bytes : List ℕ) → BeginsOther b (runs_of bytes) → runs_of (replicate (suc n) b ++ bytes) ≡ run_of b (suc n) ∷ runs_of bytes
stretch b zero bytes h = onto_other b (runs_of bytes) h
stretch b (suc n) bytes h = ap (onto_run b) (stretch b n bytes h) ∙ onto_same b (suc n) (runs_of bytes)

other_next : (last : Option ℕ) (b : ℕ) (rs : List Run) → last ≡ Some b → AreRunsAfter last rs → BeginsOther b rs
other_next last b [] e h = tt
other_next last b (r ∷ rs) e h = λ same. h.3 (e ∙ ap (λ x. Some x) same)

of_stretch : (r : Run) (n : ℕ) (bytes : List ℕ) → r.count ≡ n → 0 < n → BeginsOther r.byte (runs_of bytes) → runs_of (replicate r.count r.byte ++ bytes) ≡ r ∷ runs_of bytes
of_stretch r zero bytes e pos h = absurd (omega arith)
of_stretch r (suc n) bytes e pos h =
    ap (λ k. runs_of (replicate k r.byte ++ bytes)) e ∙ stretch r.byte n bytes h ∙ ap (λ k. run_of r.byte k ∷ runs_of bytes) (sym e)

pub runs_of-bytes_of : (last : Option ℕ) (rs : List Run) → AreRunsAfter last rs → runs_of (bytes_of rs) ≡ rs
runs_of-bytes_of last [] h = refl
runs_of-bytes_of last (r ∷ rs) h =
    let rest : runs_of (bytes_of rs) ≡ rs = runs_of-bytes_of (Some r.byte) rs h.4 in
    let other : BeginsOther r.byte (runs_of (bytes_of rs)) = rw rest (other_next (Some r.byte) r.byte rs refl h.4) in
    ap runs_of (flat_map-cons (λ (x : Run). replicate x.count x.byte) r rs) ∙ of_stretch r r.count (bytes_of rs) refl h.1 other ∙ ap (λ (xs : List Run). r ∷ xs) rest

-- runs that stand for the bytes are theirs
pub group_is : (runs : List Run) (bytes : List ℕ) → AreRuns runs → bytes ≡ bytes_of runs → runs ≡ runs_of bytes
group_is runs bytes h e = sym (ap runs_of e ∙ runs_of-bytes_of None runs h)

-- a spelling of the bytes is the one of their runs
pub runs_spell : (text bytes : List ℕ) → Spells text bytes → text ≡ text_of_bytes bytes
runs_spell text bytes s = s.2 ∙ ap runs_text (group_is s.0 bytes s.1 s.3)
