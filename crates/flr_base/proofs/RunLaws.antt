-- The scan reads each spelling, and each state of it stands for the bytes that lead to it.
use Rattle.std.proofs.Common.{◌≡◌, ◌≢◌, ℕ, zero, suc, ◌+◌, ◌*◌, ◌-◌, ◌/◌, ◌%◌, ◌^◌, ◌<◌, ◌≤◌, true, false, cond, eqb, ltb, leb, not, ◌&&◌, List, [], ◌∷◌, ◌++◌, length, replicate, Option, Some, None, refl, sym, ap, subst, ◌∙◌, append_assoc, arith, inl, inr}
use Rattle.std.specs.Prelude.{MatchOption, MatchResult, option_and_then, Result, Ok, Err, get_or, take, drop}
use Rattle.std.proofs.lemmas.Grind.{common_steps}
use Rattle.std.proofs.lemmas.List.Folds.{length-flat_map-take}
use Rattle.std.proofs.lemmas.List.{length-replicate}
use Rattle.std.proofs.lemmas.List.Concat.{flat_map-cons}
use Rattle.std.proofs.lemmas.Grind.{flat_map-append}
use Rattle.std.proofs.lemmas.List.{take_more, get_or-drop, length-drop}
use Rattle.std.proofs.Math.Seq.{take-add}
use Rattle.std.specs.Option.{option_eq}
use Rattle.std.specs.List.{flat_map}
use Rattle.std.specs.Fmt.{decimal, digit_glyph}
use Rattle.std.proofs.lemmas.Bool.{not-true, cond_both, eqb-true, eqb-false, leb-true, and_parts, cases_eq, ne_eqb, lt-ltb, le-leb}
use Rattle.std.proofs.lemmas.Bool.Decides.{nat_tests}
use Rattle.std.proofs.lemmas.Fmt.{decimal_digit, decimal_step, decimal_by_steps}
use Rattle.std.proofs.lemmas.List.{append-nil}
use Rattle.flr_base.specs.Faults.{Begins, IsFirstFault}
use Rattle.flr_base.proofs.Machine.{run, run-append_some, Reads, reached, fault_inside, fault_at_end}
use Rattle.flr_base.specs.declared.runs.run.Run.{Run}
use Rattle.flr_base.specs.declared.runs.scan.Phase.{Phase}
use Rattle.flr_base.specs.declared.runs.scan.Phase.TheVariants.{Start, Dash, High, Low, Star, First, Count}
use Rattle.flr_base.specs.declared.runs.scan.Move.{Move}
use Rattle.flr_base.specs.declared.runs.scan.Move.TheVariants.{Go, Close, Stop}
use Rattle.flr_base.specs.Runs.{hex, run_text, runs_text, bytes_of, AreRunsAfter, AreRuns, IsSpelling, Spells}
use Rattle.flr_base.specs.declared.runs.fault.RunsError.{RunsError}
use Rattle.flr_base.specs.declared.runs.fault.RunsError.TheVariants.{Bad, TooLong, NoMemory}
use Rattle.flr_base.specs.RunsAnswers.{IsRunsFault, IsNoMemory}
use Rattle.flr_base.specs.Scan.{hex_value, high_of, low_of, next, last_after, State, moved, step}

abbrev pub run_of : ℕ → ℕ → Run
run_of b n = record { byte = b; count = n }

-- runs, each with a plus behind it
abbrev pub closed : List Run → List ℕ
closed [] = []
closed (r ∷ rs) = run_text r ++ 43 ∷ closed rs

-- the bytes that lead to a state
abbrev pub shown : State → List ℕ
shown (ended, Start) = []
shown (ended, Dash) = 45 ∷ []
shown (ended, High) = closed ended
shown (ended, Low h) = closed ended ++ digit_glyph false h ∷ []
shown (ended, Star b) = closed ended ++ hex b
shown (ended, First b) = closed ended ++ (hex b ++ 42 ∷ [])
shown (ended, Count b n) = closed ended ++ run_text (run_of b n)

abbrev pub IsNew : List Run → ℕ → Type 0
IsNew ended b = (b < 256) × (last_after None ended ≢ Some b)

abbrev pub Good : State → Type 0
Good (ended, Start) = ended ≡ []
Good (ended, Dash) = ended ≡ []
Good (ended, High) = AreRuns ended
Good (ended, Low h) = AreRuns ended × (h < 16)
Good (ended, Star b) = AreRuns ended × IsNew ended b
Good (ended, First b) = AreRuns ended × IsNew ended b
Good (ended, Count b n) = AreRuns ended × IsNew ended b × (0 < n) × (n < 2 ^ 32)

-- ---- digits

pub hex_is : (c : ℕ) → MatchOption (hex_value c) (Unit {0}) (λ h. (h < 16) × (c ≡ digit_glyph false h))
hex_is c = cond_both (leb 48 c && leb c 57) (Some (c - 48)) (cond (leb 97 c && leb c 102) (Some (c - 87)) None) (λ o. MatchOption o (Unit {0}) (λ h. (h < 16) × (c ≡ digit_glyph false h)))
    (λ e. let p = and_parts (leb 48 c) (leb c 57) e in let low = leb-true 48 c p.0 in let high = leb-true c 57 p.1 in (omega arith, grind (arith, nat_tests)))
    (λ e. cond_both (leb 97 c && leb c 102) (Some (c - 87)) None (λ o. MatchOption o (Unit {0}) (λ h. (h < 16) × (c ≡ digit_glyph false h)))
    (λ f. let p = and_parts (leb 97 c) (leb c 102) f in let low = leb-true 97 c p.0 in let high = leb-true c 102 p.1 in (omega arith, grind (arith, nat_tests)))
    (λ f. tt))

pub hex_again : (h : ℕ) → h < 16 → hex_value (digit_glyph false h) ≡ Some h
hex_again h lt = grind (arith, nat_tests)

pub digit_more : (n d : ℕ) → 0 < n → d < 10 → n * 10 + d < 2 ^ 64 → decimal (n * 10 + d) ≡ decimal n ++ (48 + d) ∷ []
digit_more n d pos lt fits =
    let q : (n * 10 + d) / 10 ≡ n = omega arith in
    let r : (n * 10 + d) % 10 ≡ d = omega arith in
    decimal_step (n * 10 + d) (omega arith) fits ∙ rw (q, r) refl

-- ---- lists of runs

pub last_after-push : (last : Option ℕ) (rs : List Run) (r : Run) → last_after last (rs ++ r ∷ []) ≡ Some r.byte
last_after-push last [] r = refl
last_after-push last (x ∷ rs) r = last_after-push (Some x.byte) rs r

AreRuns-push : (last : Option ℕ) (rs : List Run) (r : Run) → AreRunsAfter last rs → r.byte < 256 → 0 < r.count → r.count < 2 ^ 32 → last_after last rs ≢ Some r.byte → AreRunsAfter last (rs ++ r ∷ [])
AreRuns-push last [] r h b pos fits new = (b, pos, fits, new, tt)
AreRuns-push last (x ∷ rs) r h b pos fits new = (h.0, h.1, h.2, h.3, AreRuns-push (Some x.byte) rs r h.4 b pos fits new)

closed-push : (rs : List Run) (r : Run) → closed (rs ++ r ∷ []) ≡ closed rs ++ run_text r ++ 43 ∷ []
closed-push [] r = refl
closed-push (x ∷ rs) r =
    ap (λ t. run_text x ++ 43 ∷ t) (closed-push rs r)
    ∙ sym (ap (λ t. t ++ 43 ∷ []) (append_assoc (run_text x) (43 ∷ closed rs) (run_text r)) ∙ append_assoc (run_text x) (43 ∷ (closed rs ++ run_text r)) (43 ∷ []))

-- ---- a step

abbrev AtMove : Move → (Phase → Type 0) → (Run → Type 0) → Type 0
AtMove (Go p) P Q = P p
AtMove (Close r) P Q = Q r
AtMove Stop P Q = Unit {0}

-- the state after a step is good, and stands for one byte more
abbrev Goes : List Run → List ℕ → ℕ → Move → Type 0
Goes ended so_far c m = AtMove m
    (λ p. Good (ended, p) × (shown (ended, p) ≡ so_far ++ c ∷ []))
    (λ r. AreRuns (ended ++ r ∷ []) × (closed (ended ++ r ∷ []) ≡ so_far ++ c ∷ []))

high_goes : (ended : List Run) (c : ℕ) (o : Option ℕ) → AreRuns ended → MatchOption o (Unit {0}) (λ h. (h < 16) × (c ≡ digit_glyph false h)) → Goes ended (closed ended) c (high_of o)
high_goes ended c None h e = tt
high_goes ended c (Some g) h e = ((h, e.0), ap (λ x. closed ended ++ x ∷ []) (sym e.1))

other : (last : Option ℕ) (b : ℕ) → option_eq eqb last (Some b) ≡ false → last ≢ Some b
other None b e h = absurd cc
other (Some x) b e h = let same : x ≡ b = cc in eqb-false x b e same

low_goes : (ended : List Run) (high c : ℕ) (o : Option ℕ) → AreRuns ended → high < 16 → MatchOption o (Unit {0}) (λ h. (h < 16) × (c ≡ digit_glyph false h)) → Goes ended (closed ended ++ digit_glyph false high ∷ []) c (low_of (last_after None ended) high o)
low_goes ended high c None h lt e = tt
low_goes ended high c (Some low) h lt e =
    cond_both (ltb high 16 && not (option_eq eqb (last_after None ended) (Some (high * 16 + low)))) (Go (Star (high * 16 + low))) Stop (Goes ended (closed ended ++ digit_glyph false high ∷ []) c)
    (λ t. let p = and_parts (ltb high 16) (not (option_eq eqb (last_after None ended) (Some (high * 16 + low)))) t in
    let q : (high * 16 + low) / 16 ≡ high = omega (arith, e.0) in
    let r : (high * 16 + low) % 16 ≡ low = omega (arith, e.0) in
    ((h, (omega (arith, e.0), other _ _ (not-true _ p.1))), rw (q, r, ← e.1) (sym (append_assoc (closed ended) (digit_glyph false high ∷ []) (c ∷ [])))))
    (λ t. tt)

start_goes : (c : ℕ) → Goes [] [] c (next None Start c)
start_goes c =
    cond_both (eqb c 45) (Go Dash) (high_of (hex_value c)) (Goes [] [] c)
    (λ t. (refl, ap (λ x. x ∷ []) (sym (eqb-true c 45 t))))
    (λ t. high_goes [] c (hex_value c) tt (hex_is c))

star_goes : (ended : List Run) (b c : ℕ) → AreRuns ended → IsNew ended b → Goes ended (closed ended ++ hex b) c (next (last_after None ended) (Star b) c)
star_goes ended b c h new =
    cond_both (eqb c 42) (Go (First b)) Stop (Goes ended (closed ended ++ hex b) c)
    (λ t. ((h, new), rw (eqb-true c 42 t) (sym (append_assoc (closed ended) (hex b) (42 ∷ [])))))
    (λ t. tt)

first_goes : (ended : List Run) (b c : ℕ) → AreRuns ended → IsNew ended b → Goes ended (closed ended ++ (hex b ++ 42 ∷ [])) c (next (last_after None ended) (First b) c)
first_goes ended b c h new =
    cond_both (leb 49 c && leb c 57) (Go (Count b (c - 48))) Stop (Goes ended (closed ended ++ (hex b ++ 42 ∷ [])) c)
    (λ t. let p = and_parts (leb 49 c) (leb c 57) t in let low = leb-true 49 c p.0 in let high = leb-true c 57 p.1 in
    let digit : decimal (c - 48) ≡ c ∷ [] = decimal_digit (c - 48) (omega arith) ∙ ap (λ x. x ∷ []) (let e : 48 + (c - 48) ≡ c = omega arith in e) in
    ((h, new, omega arith, omega arith), rw digit (sym (append_assoc (closed ended) (hex b ++ 42 ∷ []) (c ∷ [])))))
    (λ t. tt)

count_goes : (ended : List Run) (b n c : ℕ) → AreRuns ended → IsNew ended b → 0 < n → n < 2 ^ 32 → Goes ended (closed ended ++ run_text (run_of b n)) c (next (last_after None ended) (Count b n) c)
count_goes ended b n c h new pos fits =
    cond_both (eqb c 43) (Close (run_of b n)) (cond ((leb 48 c && leb c 57) && leb (n * 10 + (c - 48)) 4294967295) (Go (Count b (n * 10 + (c - 48)))) Stop) (Goes ended (closed ended ++ run_text (run_of b n)) c)
    (λ t. (AreRuns-push None ended (run_of b n) h new.0 pos fits new.1, rw (eqb-true c 43 t) (closed-push ended (run_of b n))))
    (λ t. cond_both ((leb 48 c && leb c 57) && leb (n * 10 + (c - 48)) 4294967295) (Go (Count b (n * 10 + (c - 48)))) Stop (Goes ended (closed ended ++ run_text (run_of b n)) c)
    (λ u. let p = and_parts (leb 48 c && leb c 57) (leb (n * 10 + (c - 48)) 4294967295) u in
    let q = and_parts (leb 48 c) (leb c 57) p.0 in
    let low = leb-true 48 c q.0 in let high = leb-true c 57 q.1 in let small = leb-true (n * 10 + (c - 48)) 4294967295 p.1 in
    let digit : decimal (n * 10 + (c - 48)) ≡ decimal n ++ c ∷ [] = digit_more n (c - 48) pos (omega arith) (omega arith) ∙ ap (λ x. decimal n ++ x ∷ []) (let e : 48 + (c - 48) ≡ c = omega arith in e) in
    ((h, new, omega arith, omega arith), rw digit (sym (append_assoc (closed ended) (run_text (run_of b n)) (c ∷ [])))))
    (λ u. tt))

goes : (ended : List Run) (p : Phase) (c : ℕ) → Good (ended, p) → Goes ended (shown (ended, p)) c (next (last_after None ended) p c)
goes ended Start c g = subst (λ (rs : List Run). Goes rs [] c (next (last_after None rs) Start c)) (sym g) (start_goes c)
goes ended Dash c g = tt
goes ended High c g = high_goes ended c (hex_value c) g (hex_is c)
goes ended (Low h) c g = low_goes ended h c (hex_value c) g.0 g.1 (hex_is c)
goes ended (Star b) c g = star_goes ended b c g.0 g.1
goes ended (First b) c g = first_goes ended b c g.0 g.1
goes ended (Count b n) c g = count_goes ended b n c g.0 g.1 g.2 g.3

after_move : (ended : List Run) (so_far : List ℕ) (c : ℕ) (m : Move) (t : State) → Goes ended so_far c m → moved ended m ≡ Some t → Good t × (shown t ≡ so_far ++ c ∷ [])
after_move ended so_far c (Go p) t g e = let same : (ended, p) ≡ t = cc in subst (λ (u : State). Good u × (shown u ≡ so_far ++ c ∷ [])) same g
after_move ended so_far c (Close r) t g e = let same : (ended ++ r ∷ [], High) ≡ t = cc in subst (λ (u : State). Good u × (shown u ≡ so_far ++ c ∷ [])) same g
after_move ended so_far c Stop t g e = absurd cc

-- ---- each state goes on to a spelling

abbrev plus : Run → List ℕ
plus r = 43 ∷ run_text r

plus-closed : (rs : List Run) (r : Run) → flat_map plus (rs ++ r ∷ []) ≡ 43 ∷ (closed rs ++ run_text r)
plus-closed [] r = flat_map-cons plus r [] ∙ append-nil (plus r)
plus-closed (x ∷ rs) r =
    flat_map-cons plus x (rs ++ r ∷ []) ∙ ap (λ t. plus x ++ t) (plus-closed rs r) ∙ ap (λ t. 43 ∷ t) (sym (append_assoc (run_text x) (43 ∷ closed rs) (run_text r)))

text-closed : (rs : List Run) (r : Run) → runs_text (rs ++ r ∷ []) ≡ closed rs ++ run_text r
text-closed [] r = append-nil (run_text r)
text-closed (x ∷ rs) r = ap (λ t. run_text x ++ t) (plus-closed rs r) ∙ sym (append_assoc (run_text x) (43 ∷ closed rs) (run_text r))

ends_so : (ended : List Run) (b n : ℕ) → AreRuns ended → IsNew ended b → 0 < n → n < 2 ^ 32 → IsSpelling (closed ended ++ run_text (run_of b n))
ends_so ended b n h new pos fits = (ended ++ run_of b n ∷ [], AreRuns-push None ended (run_of b n) h new.0 pos fits new.1, sym (text-closed ended (run_of b n)))

-- a second digit that makes another byte than the last one
another : (o : Option ℕ) (h : ℕ) → h < 16 → (l : ℕ) × (l < 16) × (h * 16 + l < 256) × (o ≢ Some (h * 16 + l))
another None h lt = (0, omega arith, omega arith, λ e. absurd cc)
another (Some x) h lt =
    elim (cases_eq x (h * 16)) [
      | inl e ↦ (1, omega arith, omega arith, λ f. let g : x ≡ h * 16 + 1 = cc in omega arith)
      | inr e ↦ (0, omega arith, omega arith, λ f. let g : x ≡ h * 16 + 0 = cc in e (omega arith))
    ]

goes_on : (ended : List Run) (p : Phase) → Good (ended, p) → Begins IsSpelling (shown (ended, p))
goes_on ended Start g = (45 ∷ [], ([], tt, refl))
goes_on ended Dash g = ([], ([], tt, refl))
goes_on ended High g =
    let l = another (last_after None ended) 0 (omega arith) in
    (run_text (run_of (0 * 16 + l.0) 1), ends_so ended (0 * 16 + l.0) 1 g (l.2, l.3) (omega arith) (omega arith))
goes_on ended (Low h) g =
    let l = another (last_after None ended) h g.1 in
    let q : (h * 16 + l.0) / 16 ≡ h = omega (arith, l.1) in
    let whole : IsSpelling (closed ended ++ run_text (run_of (h * 16 + l.0) 1)) = ends_so ended (h * 16 + l.0) 1 g.0 (l.2, l.3) (omega arith) (omega arith) in
    let split : closed ended ++ run_text (run_of (h * 16 + l.0) 1) ≡ (closed ended ++ digit_glyph false h ∷ []) ++ (digit_glyph false ((h * 16 + l.0) % 16) ∷ 42 ∷ decimal 1) =
    ap (λ k. closed ended ++ digit_glyph false k ∷ digit_glyph false ((h * 16 + l.0) % 16) ∷ 42 ∷ decimal 1) q ∙ sym (append_assoc (closed ended) (digit_glyph false h ∷ []) _) in
    (_, subst IsSpelling split whole)
goes_on ended (Star b) g = (42 ∷ decimal 1, rw append_assoc (ends_so ended b 1 g.0 g.1 (omega arith) (omega arith)))
goes_on ended (First b) g = (decimal 1, rw append_assoc (ends_so ended b 1 g.0 g.1 (omega arith) (omega arith)))
goes_on ended (Count b n) g = ([], rw append-nil (ends_so ended b n g.0 g.1 g.2 g.3))

-- ---- each spelling is read

at_high : (ended : List Run) (h : ℕ) → h < 16 → step (ended, High) (digit_glyph false h) ≡ Some (ended, Low h)
at_high ended h lt = ap (λ o. moved ended (high_of o)) (hex_again h lt)

new_eq : (o : Option ℕ) (b : ℕ) → o ≢ Some b → option_eq eqb o (Some b) ≡ false
new_eq None b h = refl
new_eq (Some x) b h = ne_eqb x b (λ e. h (ap (λ y. Some y) e))

at_low : (ended : List Run) (b : ℕ) → IsNew ended b → step (ended, Low (b / 16)) (digit_glyph false (b % 16)) ≡ Some (ended, Star b)
at_low ended b new =
    let whole : b / 16 * 16 + b % 16 ≡ b = omega arith in
    let small : ltb (b / 16) 16 ≡ true = lt-ltb (b / 16) 16 (omega (arith, new.0)) in
    ap (λ o. moved ended (low_of (last_after None ended) (b / 16) o)) (hex_again (b % 16) (omega arith)) ∙ rw (whole, small, new_eq (last_after None ended) b new.1) refl

first_digit : (ended : List Run) (b c : ℕ) → 0 < c → c < 10 → step (ended, First b) (48 + c) ≡ Some (ended, Count b c)
first_digit ended b c pos lt =
    let low : leb 49 (48 + c) ≡ true = le-leb 49 (48 + c) (omega arith) in
    let high : leb (48 + c) 57 ≡ true = le-leb (48 + c) 57 (omega arith) in
    let d : (48 + c) - 48 ≡ c = omega arith in
    rw (low, high, d) refl

more_digit : (ended : List Run) (b n d : ℕ) → d < 10 → n * 10 + d < 2 ^ 32 → step (ended, Count b n) (48 + d) ≡ Some (ended, Count b (n * 10 + d))
more_digit ended b n d lt fits =
    let plus : eqb (48 + d) 43 ≡ false = ne_eqb (48 + d) 43 (λ e. omega arith) in
    let low : leb 48 (48 + d) ≡ true = le-leb 48 (48 + d) (omega arith) in
    let high : leb (48 + d) 57 ≡ true = le-leb (48 + d) 57 (omega arith) in
    let same : (48 + d) - 48 ≡ d = omega arith in
    let small : leb (n * 10 + d) 4294967295 ≡ true = le-leb (n * 10 + d) 4294967295 (omega arith) in
    rw (plus, low, high, same, small) refl

reads_count : (ended : List Run) (b n : ℕ) → 0 < n → n < 2 ^ 32 → run step (ended, First b) (decimal n) ≡ Some (ended, Count b n)
reads_count ended b n pos fits =
    decimal_by_steps (λ m ds. 0 < m → m < 2 ^ 32 → run step (ended, First b) ds ≡ Some (ended, Count b m))
    (λ m lt p f. ap (λ (o : Option State). option_and_then (λ u. run step u []) o) (first_digit ended b m p lt))
    (λ m ds ge ih p f.
    let parts : m / 10 * 10 + m % 10 ≡ m = omega arith in
    run-append_some step (ended, First b) (ended, Count b (m / 10)) ds ((48 + m % 10) ∷ []) (ih (omega arith) (omega arith))
    ∙ ap (λ (o : Option State). option_and_then (λ u. run step u []) o) (more_digit ended b (m / 10) (m % 10) (omega arith) (omega arith))
    ∙ ap (λ k. Some (ended, Count b k)) parts)
    n (omega arith) pos fits

high_reads : (ended : List Run) (b n : ℕ) (rest : List ℕ) → IsNew ended b → 0 < n → n < 2 ^ 32 → run step (ended, High) (run_text (run_of b n) ++ rest) ≡ run step (ended, Count b n) rest
high_reads ended b n rest new pos fits =
    ap (λ (o : Option State). option_and_then (λ t. run step t (digit_glyph false (b % 16) ∷ 42 ∷ (decimal n ++ rest))) o) (at_high ended (b / 16) (omega (arith, new.0)))
    ∙ ap (λ (o : Option State). option_and_then (λ t. run step t (42 ∷ (decimal n ++ rest))) o) (at_low ended b new)
    ∙ run-append_some step (ended, First b) (ended, Count b n) (decimal n) rest (reads_count ended b n pos fits)

-- the state after these runs
reads_runs : (ended : List Run) (r : Run) (rs : List Run) → AreRunsAfter (last_after None ended) (r ∷ rs)
    → (done : List Run) × (x : Run) × (run step (ended, High) (run_text r ++ flat_map plus rs) ≡ Some (done, Count x.byte x.count)) × (done ++ x ∷ [] ≡ ended ++ r ∷ rs)
reads_runs ended r [] h = (ended, r, high_reads ended r.byte r.count [] (h.0, h.3) h.1 h.2, refl)
reads_runs ended r (s ∷ rs) h =
    let first = high_reads ended r.byte r.count (43 ∷ (run_text s ++ flat_map plus rs)) (h.0, h.3) h.1 h.2 in
    let rest = reads_runs (ended ++ r ∷ []) s rs (rw (last_after-push None ended r) h.4) in
    (rest.0, rest.1, ap (λ t. run step (ended, High) (run_text r ++ t)) (flat_map-cons plus s rs) ∙ first ∙ rest.2, rest.3 ∙ append_assoc ended (r ∷ []) (s ∷ rs))

-- a spelling of a byte doesn't begin with the dash
starts_high : (r : Run) (rest : List ℕ) → r.byte < 256 → run step ([], Start) (run_text r ++ rest) ≡ run step ([], High) (run_text r ++ rest)
starts_high r rest lt =
    let g : eqb (digit_glyph false (r.byte / 16)) 45 ≡ false = grind (arith, nat_tests) in
    rw g refl

-- what a scan ends with
abbrev pub finished : State → Option (List Run)
finished (ended, Start) = None
finished (ended, Dash) = Some ended
finished (ended, High) = None
finished (ended, Low h) = None
finished (ended, Star b) = None
finished (ended, First b) = None
finished (ended, Count b n) = Some (ended ++ run_of b n ∷ [])

pub reads_text : (rs : List Run) → AreRuns rs → (s : State) × (run step ([], Start) (runs_text rs) ≡ Some s) × (finished s ≡ Some rs)
reads_text [] h = (([], Dash), refl, refl)
reads_text (r ∷ rs) h =
    let all = reads_runs [] r rs h in
    ((all.0, Count all.1.byte all.1.count), starts_high r (flat_map plus rs) h.0 ∙ all.2, ap (λ (x : List Run). Some x) all.3)

abbrev pub Stands : State → List ℕ → Type 0
Stands s bytes = Good s × (shown s ≡ bytes)

pub scan_reads : Reads step ([], Start) IsSpelling Stands
scan_reads = record {
  first = (refl, refl);
  next = λ s t bytes c g e. let h = after_move s.0 (shown s) c (next (last_after None s.0) s.1 c) t (goes s.0 s.1 c g.0) e in (h.0, h.1 ∙ ap (λ xs. xs ++ c ∷ []) g.1);
  goes_on = λ s bytes g. subst (λ xs. Begins IsSpelling xs) g.1 (goes_on s.0 s.1 g.0);
  all = λ xs h. let r = reads_text h.0 h.1 in (r.0, ap (λ t. run step ([], Start) t) h.2 ∙ r.1);
}

pub accepted : (ended : List Run) (p : Phase) (rs : List Run) → Good (ended, p) → finished (ended, p) ≡ Some rs → AreRuns rs × (shown (ended, p) ≡ runs_text rs)
accepted ended Start rs g e = absurd cc
accepted ended Dash rs g e = let nil : rs ≡ [] = cc in rw nil (tt, refl)
accepted ended High rs g e = absurd cc
accepted ended (Low h) rs g e = absurd cc
accepted ended (Star b) rs g e = absurd cc
accepted ended (First b) rs g e = absurd cc
accepted ended (Count b n) rs g e =
    let same : ended ++ run_of b n ∷ [] ≡ rs = cc in
    rw (← same) (AreRuns-push None ended (run_of b n) g.0 g.1.0 g.2 g.3 g.1.1, sym (text-closed ended (run_of b n)))

-- a text spells one list of runs
pub one_reading : (rs ss : List Run) → AreRuns rs → AreRuns ss → runs_text rs ≡ runs_text ss → rs ≡ ss
one_reading rs ss h k e =
    let a = reads_text rs h in
    let b = reads_text ss k in
    let same : Some a.0 ≡ Some b.0 = sym a.1 ∙ ap (λ t. run step ([], Start) t) e ∙ b.1 in
    let states : a.0 ≡ b.0 = cc in
    let found : Some rs ≡ Some ss = sym a.2 ∙ ap finished states ∙ b.2 in cc

-- ---- the loop

pub stop_fault : (text : List ℕ) (i : ℕ) (ended : List Run) (last : Option ℕ) (p : Phase) → i < length text → run step ([], Start) (take i text) ≡ Some (ended, p) → last ≡ last_after None ended
    → next last p (get_or text i 0) ≡ Stop → IsFirstFault IsSpelling text i
stop_fault text i ended last p lt so_far is stop =
    fault_inside scan_reads (ended, p) text i 0 lt so_far (ap (moved ended) (ap (λ o. next o p (get_or text i 0)) (sym is) ∙ stop))

pub one_more : (text : List ℕ) (i : ℕ) (ended : List Run) (last : Option ℕ) (p : Phase) (m : Move) (t : State) → i < length text → run step ([], Start) (take i text) ≡ Some (ended, p) → last ≡ last_after None ended
    → next last p (get_or text i 0) ≡ m → moved ended m ≡ Some t → run step ([], Start) (take (i + 1) text) ≡ Some t
one_more text i ended last p m t lt so_far is e f =
    let now : step (ended, p) (get_or text i 0) ≡ Some t = ap (moved ended) (ap (λ o. next o p (get_or text i 0)) (sym is) ∙ e) ∙ f in
    ap (λ xs. run step ([], Start) xs) (take_more text i 0 lt) ∙ run-append_some step ([], Start) (ended, p) (take i text) (get_or text i 0 ∷ []) so_far
    ∙ ap (λ (o : Option State). option_and_then (λ u. run step u []) o) now

pub all_read : (text : List ℕ) (i : ℕ) (ended : List Run) (p : Phase) (rs : List Run) → length text ≤ i → run step ([], Start) (take i text) ≡ Some (ended, p) → finished (ended, p) ≡ Some rs → AreRuns rs × (text ≡ runs_text rs)
all_read text i ended p rs le so_far fin =
    let at = reached scan_reads (ended, p) (take i text) so_far in
    let a = accepted ended p rs at.0 fin in
    let whole : take i text ≡ text = grind (arith, common_steps) in
    (a.0, sym whole ∙ sym at.1 ∙ a.1)

pub ends_early : (text : List ℕ) (i : ℕ) (ended : List Run) (p : Phase) → length text ≤ i → run step ([], Start) (take i text) ≡ Some (ended, p) → finished (ended, p) ≡ None → IsFirstFault IsSpelling text (length text)
ends_early text i ended p le so_far fin =
    let whole : take i text ≡ text = grind (arith, common_steps) in
    let all : run step ([], Start) text ≡ Some (ended, p) = ap (λ xs. run step ([], Start) xs) (sym whole) ∙ so_far in
    fault_at_end scan_reads (ended, p) text all (λ h.
    let r = reads_text h.0 h.1 in
    let same : Some r.0 ≡ Some (ended, p) = sym r.1 ∙ ap (λ xs. run step ([], Start) xs) (sym h.2) ∙ all in
    let states : r.0 ≡ (ended, p) = cc in
    let clash : Some h.0 ≡ None = sym r.2 ∙ ap finished states ∙ fin in absurd cc)

pub one_value : (text a b : List ℕ) → Spells text a → Spells text b → a ≡ b
one_value text a b h k =
    let same = one_reading h.0 k.0 h.1 k.1 (sym h.2 ∙ k.2) in
    h.3 ∙ ap bytes_of same ∙ sym k.3

pub again : (text : List ℕ) (most : ℕ) (r : Result (List ℕ) RunsError) → MatchResult r (λ bytes. Spells text bytes × (length bytes ≤ most)) (IsRunsFault text most)
    → (bytes : List ℕ) → Spells text bytes → length bytes ≤ most → MatchResult r (λ found. found ≡ bytes) IsNoMemory
again text most (Ok found) h bytes s le = one_value text found bytes h.0 s
again text most (Err (Bad at)) h bytes s le = h.none (s.0, s.1, s.2)
again text most (Err TooLong) h bytes s le =
    let same = one_value text h.0 bytes h.1 s in
    omega (arith, h.2, ap (λ (xs : List ℕ). length xs) same)
again text most (Err NoMemory) h bytes s le = tt

pub not_finished : (ended : List Run) (p : Phase) → (p ≡ Dash → ⊥) → ((b n : ℕ) → p ≡ Count b n → ⊥) → finished (ended, p) ≡ None
not_finished ended Start h k = refl
not_finished ended Dash h k = absurd (h refl)
not_finished ended High h k = refl
not_finished ended (Low a) h k = refl
not_finished ended (Star b) h k = refl
not_finished ended (First b) h k = refl
not_finished ended (Count b n) h k = absurd (k b n refl)

-- ---- how many bytes

pub more_bytes : (rs : List Run) (i : ℕ) (r : Run) → i < length rs → length (bytes_of (take i rs)) + (get_or rs i r).count ≤ length (bytes_of rs)
more_bytes rs i r lt = omega (arith, length-flat_map-take (λ x. replicate x.count x.byte) rs i r lt, length-replicate (get_or rs i r).count (get_or rs i r).byte)

-- ---- grouping

bytes-push : (rs : List Run) (r : Run) → bytes_of (rs ++ r ∷ []) ≡ bytes_of rs ++ replicate r.count r.byte
bytes-push rs r = flat_map-append (λ x. replicate x.count x.byte) rs (r ∷ []) ∙ ap (λ t. bytes_of rs ++ t) (flat_map-cons (λ x. replicate x.count x.byte) r [] ∙ append-nil _)

-- the runs of the first bytes, and the next byte begins another
pub record Grouped (bytes : List ℕ) (i : ℕ) (rs : List Run) : Type 0 where
  pub within : i ≤ length bytes
  pub runs : AreRuns rs
  pub bytes_are : take i bytes ≡ bytes_of rs
  pub next : i < length bytes → last_after None rs ≢ Some (get_or bytes i 0)

-- a stretch that ends before another byte has one at least
some_of : (bytes : List ℕ) (i n : ℕ) → i < length bytes → (n < length (drop i bytes) → get_or (drop i bytes) n 0 ≢ get_or bytes i 0) → 0 < n
some_of bytes i zero lt end = absurd (end (omega (arith, length-drop i bytes)) (get_or-drop i bytes 0 0 ∙ ap (λ k. get_or bytes k 0) (let e : i + 0 ≡ i = omega arith in e)))
some_of bytes i (suc n) lt end = omega arith

-- a stretch of the next byte is one more run
pub group_step : (bytes : List ℕ) (i n : ℕ) (rs : List Run) → i < length bytes → get_or bytes i 0 < 256 → n < 2 ^ 32 → n ≤ length (drop i bytes) → take n (drop i bytes) ≡ replicate n (get_or bytes i 0)
    → (n < length (drop i bytes) → get_or (drop i bytes) n 0 ≢ get_or bytes i 0) → Grouped bytes i rs → Grouped bytes (i + n) (rs ++ run_of (get_or bytes i 0) n ∷ [])
group_step bytes i n rs lt small fits within same end g =
    let b : ℕ = get_or bytes i 0 in record {
      within = omega (arith, length-drop i bytes);
      runs = AreRuns-push None rs (run_of b n) g.runs small (some_of bytes i n lt end) fits (g.next lt);
      bytes_are = take-add i n bytes ∙ ap (λ (xs : List ℕ). xs ++ take n (drop i bytes)) g.bytes_are ∙ ap (λ (xs : List ℕ). bytes_of rs ++ xs) same ∙ sym (bytes-push rs (run_of b n));
      next = λ more e.
          let f : Some b ≡ Some (get_or bytes (i + n) 0) = sym (last_after-push None rs (run_of b n)) ∙ e in
          let same_byte : get_or bytes (i + n) 0 ≡ b = cc in
          end (omega (arith, length-drop i bytes)) (get_or-drop i bytes n 0 ∙ same_byte);
    }
