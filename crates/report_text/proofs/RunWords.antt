-- The words of a schedule, one after another.
use Rattle.std.proofs.Common.{◌≡◌, ◌≢◌, ℕ, zero, suc, ◌+◌, ◌<◌, eqb, List, [], ◌∷◌, ◌++◌, length, get_or, take, drop, replicate, refl, sym, ap, subst, ◌∙◌, append_assoc, arith}
use Rattle.std.specs.List.{flat_map}
use Rattle.std.proofs.lemmas.Bool.{eq-eqb, ne_eqb, cond_both}
use Rattle.std.proofs.lemmas.List.{take-append-drop, length-drop, get_or-drop}
use Rattle.std.proofs.lemmas.List.Concat.{flat_map-cons}
use Rattle.flr_base.specs.declared.runs.run.Run.{Run}
use Rattle.flr_base.specs.Runs.{onto_run, runs_of}
use Rattle.report_text.specs.Texts.{run_word, runs_words}

abbrev run : ℕ → ℕ → Run
run client count = record { byte = client; count = count }

-- the places don't begin with the client
abbrev BeginsOther : ℕ → List ℕ → Type 0
BeginsOther client [] = Unit {0}
BeginsOther client (c ∷ cs) = client ≢ c

-- the first run is of the first client
first_run : (c : ℕ) (rs : List Run) → (n : ℕ) × (more : List Run) × (onto_run c rs ≡ run c n ∷ more)
first_run c [] = (1, [], refl)
first_run c (r ∷ rs) = cond_both (eqb c r.byte) (run c (suc r.count) ∷ rs) (run c 1 ∷ r ∷ rs) (λ xs. (n : ℕ) × (more : List Run) × (xs ≡ run c n ∷ more)) (λ t. (suc r.count, rs, refl)) (λ f. (1, r ∷ rs, refl))

onto_other : (client c : ℕ) (rs : List Run) → client ≢ c → onto_run client (onto_run c rs) ≡ run client 1 ∷ onto_run c rs
onto_other client c rs ne =
    let f = first_run c rs in
    subst (λ (xs : List Run). onto_run client xs ≡ run client 1 ∷ xs) (sym f.2) (rw (ne_eqb client c ne) refl)

onto_runs : (client : ℕ) (schedule : List ℕ) → BeginsOther client schedule → onto_run client (runs_of schedule) ≡ run client 1 ∷ runs_of schedule
onto_runs client [] h = refl
onto_runs client (c ∷ cs) h = onto_other client c (runs_of cs) h

onto_same : (client n : ℕ) (rs : List Run) → onto_run client (run client n ∷ rs) ≡ run client (suc n) ∷ rs
onto_same client n rs = rw (eq-eqb client client refl) refl

-- a stretch of one client is one run
stretch : (client n : ℕ) (rest : List ℕ) → BeginsOther client rest → runs_of (replicate (suc n) client ++ rest) ≡ run client (suc n) ∷ runs_of rest
stretch client zero rest h = onto_runs client rest h
stretch client (suc n) rest h = ap (onto_run client) (stretch client n rest h) ∙ onto_same client (suc n) (runs_of rest)

of_stretch : (client n : ℕ) (rest : List ℕ) → 0 < n → BeginsOther client rest → runs_of (replicate n client ++ rest) ≡ run client n ∷ runs_of rest
of_stretch client zero rest some h = absurd (omega arith)
of_stretch client (suc n) rest some h = stretch client n rest h

begins_other : (client : ℕ) (schedule : List ℕ) → (0 < length schedule → get_or schedule 0 0 ≢ client) → BeginsOther client schedule
begins_other client [] h = tt
begins_other client (c ∷ cs) h = λ e. h (omega arith) (sym e)

first_left : (client n : ℕ) (schedule : List ℕ) → (n < length schedule → get_or schedule n 0 ≢ client) → BeginsOther client (drop n schedule)
first_left client n schedule h = begins_other client (drop n schedule) (λ some e. let size = length-drop n schedule in let place : n ≡ n + 0 = omega arith in h (omega (arith, size)) (ap (λ (k : ℕ). get_or schedule k 0) place ∙ sym (get_or-drop n schedule 0 0) ∙ e))

-- the first stretch of one client is the first word
pub first_word : (client n : ℕ) (schedule : List ℕ) → 0 < n → take n schedule ≡ replicate n client → (n < length schedule → get_or schedule n 0 ≢ client)
    → runs_words schedule ≡ run_word (run client n) ++ runs_words (drop n schedule)
first_word client n schedule some same next =
    let parts : schedule ≡ replicate n client ++ drop n schedule = sym (take-append-drop n schedule) ∙ ap (λ (xs : List ℕ). xs ++ drop n schedule) same in
    let rest = drop n schedule in
    ap runs_words parts ∙ ap (flat_map run_word) (of_stretch client n rest some (first_left client n schedule next)) ∙ flat_map-cons run_word (run client n) (runs_of rest)

-- the word of the first clients goes over to the piece
pub one_more : (all piece rest longer after : List ℕ) (client n : ℕ) → client ≡ get_or rest 0 0 → 0 < length rest → all ≡ piece ++ runs_words rest → take n rest ≡ replicate n client → (n < length rest → get_or rest n 0 ≢ client) → longer ≡ piece ++ run_word (run client n) → after ≡ drop n rest
    → all ≡ longer ++ runs_words after
one_more all piece rest longer after client zero is some e same next p a = absurd (next some (sym is))
one_more all piece rest longer after client (suc n) is some e same next p a =
    let word : List ℕ = run_word (run client (suc n)) in
    let left : List ℕ = runs_words (drop (suc n) rest) in
    e ∙ ap (λ (xs : List ℕ). piece ++ xs) (first_word client (suc n) rest (omega arith) same next) ∙ sym (append_assoc piece word left) ∙ ap (λ (xs : List ℕ). xs ++ left) (sym p) ∙ ap (λ (xs : List ℕ). longer ++ runs_words xs) (sym a)
