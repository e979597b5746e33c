-- A line is read as that of a schedule where it is one.
use Rattle.std.proofs.Common.{◌≡◌, ◌≢◌, ℕ, suc, ◌≤◌, Bool, true, false, cond, eqb, List, [], ◌∷◌, ◌++◌, map, replicate, Option, Some, None, Result, Ok, Err, refl, sym, ap, subst, ◌∙◌, arith}
use Rattle.std.specs.Prelude.{codes, IfOk, ◌↔◌, option_and_then}
use Rattle.std.specs.Option.{option_map}
use Rattle.std.specs.List.{AllByRecursion, flat_map}
use Rattle.std.specs.Fmt.{decimal}
use Rattle.std.specs.Str.{bytes_eq}
use Rattle.std.proofs.lemmas.Bool.{cond_both, eqb-true, ne_eqb, eq-eqb}
use Rattle.std.proofs.lemmas.List.Splits.{join_with_byte-slice_split}
use Rattle.flr_base.specs.Runs.{AreRunsAfter, bytes_of, onto_run, runs_of}
use Rattle.flr_base.specs.declared.runs.run.Run.{Run}
use Rattle.flr_base.proofs.RunLists.{runs_of-bytes_of}
use Rattle.text_words.specs.Cuts.{cut_of}
use Rattle.text_words.specs.Numbers.{number_from}
use Rattle.text_words.specs.Pieces.{Lacks, parts_of}
use Rattle.text_words.specs.Words.{AreWords, IsWord, spaced}
use Rattle.text_words.proofs.CutLaws.{cut_takes, cut_again}
use Rattle.text_words.proofs.Spellings.{from_takes, from_again}
use Rattle.text_words.proofs.Splits.{decimal_lacks}
use Rattle.text_words.proofs.WordTexts.{decimal_word, word_append, word_graphic, parts_of-spaced, spaced-first, spaced_lacks}
use Rattle.layout_text.specs.LineWords.{behind}
use Rattle.report_text.specs.Texts.{run_word}
use Rattle.reply_read.proofs.WordLaws.{found, mapped, same_word}
use Rattle.report_read.specs.Schedules.{schedule_line, IsClientRun, IsSchedule, run_made, run_in, onto_last, runs_in, schedule_words, schedule_of}

-- ---- a run

-- its word
abbrev word_of : Run → List ℕ
word_of r = decimal r.byte ++ 42 ∷ decimal r.count

-- one of 16 clients steps, at least once
abbrev IsSome : Run → Type 0
IsSome r = (1 ≤ r.byte) × (r.byte ≤ 16) × (1 ≤ r.count) × (r.count ≤ 4294967295)

run_takes : (word : List ℕ) (r : Run) → run_in word ≡ Some r → IsSome r × (word ≡ word_of r)
unfolding run_in
run_takes word r e =
    let cut = found _ (cut_of 42 word) r e in
    let client = found _ (number_from 1 16 cut.0.0) r cut.2 in
    let times = mapped (run_made client.0) (number_from 1 4294967295 cut.0.1) r client.2 in
    let one = from_takes 1 16 cut.0.0 client.0 client.1 in
    let last = from_takes 1 4294967295 cut.0.1 times.0 times.1 in
    let whole = cut_takes 42 word cut.0.0 cut.0.1 cut.1 in
    let text : word ≡ word_of (run_made client.0 times.0) = whole.0 ∙ ap (λ (xs : List ℕ). xs ++ 42 ∷ cut.0.1) one.2 ∙ ap (λ (xs : List ℕ). decimal client.0 ++ 42 ∷ xs) last.2 in
    subst (λ (x : Run). IsSome x × (word ≡ word_of x)) times.2 ((one.0, one.1, last.0, last.1), text)

run_again : (r : Run) → IsSome r → run_in (word_of r) ≡ Some r
unfolding run_in
run_again r h =
    let few = h.1 in
    let cut = cut_again 42 (decimal r.byte) (decimal r.count) (decimal_lacks 42 r.byte (omega arith) (omega (arith, few))) in
    rw (cut, from_again 1 16 r.byte (omega arith) h.0 h.1, from_again 1 4294967295 r.count (omega arith) h.2 h.3) refl

run_is_word : (r : Run) → IsWord (word_of r)
run_is_word r = word_append (decimal r.byte) (42 ∷ decimal r.count) (decimal_word r.byte) (word_graphic (decimal r.count) (decimal_word r.count))

-- ---- runs

-- runs of clients, of which none follows itself
abbrev AreApart : ℕ → List Run → Type 0
AreApart last [] = Unit {0}
AreApart last (r ∷ rs) = IsSome r × (r.byte ≢ last) × AreApart r.byte rs

runs_takes : (last : ℕ) (words : List (List ℕ)) (rs : List Run) → runs_in last words ≡ Some rs → AreApart last rs × (words ≡ map word_of rs)
runs_takes last [] rs e =
    let same : [] ≡ rs = cc in
    subst (λ (xs : List Run). AreApart last xs × ([] ≡ map word_of xs)) same (tt, refl)
runs_takes last (word ∷ words) rs e =
    let first = found (λ (r : Run). onto_last last r (runs_in r.byte words)) (run_in word) rs e in
    let r : Run = first.0 in
    cond_both (eqb r.byte last) None (option_map (λ (xs : List Run). r ∷ xs) (runs_in r.byte words)) (λ o. o ≡ Some rs → AreApart last rs × (word ∷ words ≡ map word_of rs))
    (λ t f. absurd cc)
    (λ t f.
    let m = mapped (λ (xs : List Run). r ∷ xs) (runs_in r.byte words) rs f in
    let ih = runs_takes r.byte words m.0 m.1 in
    let one = run_takes word r first.1 in
    let other : r.byte ≢ last = λ same. (let yes = eq-eqb r.byte last same in let clash : true ≡ false = sym yes ∙ t in absurd cc) in
    subst (λ (xs : List Run). AreApart last xs × (word ∷ words ≡ map word_of xs)) m.2 ((one.0, other, ih.0), ap (λ (w : List ℕ). w ∷ words) one.1 ∙ ap (λ (ws : List (List ℕ)). word_of r ∷ ws) ih.1)) first.2

runs_again : (last : ℕ) (rs : List Run) → AreApart last rs → runs_in last (map word_of rs) ≡ Some rs
runs_again last [] h = refl
runs_again last (r ∷ rs) h =
    ap (λ (o : Option Run). option_and_then (λ (x : Run). onto_last last x (runs_in x.byte (map word_of rs))) o) (run_again r h.0)
    ∙ ap (λ (b : Bool). cond b None (option_map (λ (xs : List Run). r ∷ xs) (runs_in r.byte (map word_of rs)))) (ne_eqb r.byte last h.1)
    ∙ ap (λ (o : Option (List Run)). option_map (λ (xs : List Run). r ∷ xs) o) (runs_again r.byte rs h.2)

-- they are the runs of their places
are_runs : (o : Option ℕ) (last : ℕ) (rs : List Run) → ((b : ℕ) → b ≢ last → o ≢ Some b) → AreApart last rs → AreRunsAfter o rs
are_runs o last [] k h = tt
are_runs o last (r ∷ rs) k h =
    let some = h.0 in
    let small = some.1 in
    let once = some.2 in
    let most = some.3 in
    (omega (arith, small), omega (arith, once), omega (arith, most), k r.byte h.1, are_runs (Some r.byte) r.byte rs (λ b ne e. (let same : r.byte ≡ b = cc in ne (sym same))) h.2)

runs_back : (rs : List Run) → AreApart 0 rs → runs_of (bytes_of rs) ≡ rs
runs_back rs h = runs_of-bytes_of None rs (are_runs None 0 rs (λ b ne e. absurd cc) h)

all_clients : (last : ℕ) (rs : List Run) → AreApart last rs → AllByRecursion IsClientRun rs
all_clients last [] h = tt
all_clients last (r ∷ rs) h = (((h.0.0, h.0.1), h.0.3), all_clients r.byte rs h.2)

-- ---- the runs of places

-- each is of at least one place, and neighbours have different clients
abbrev AreOther : ℕ → List Run → Type 0
AreOther last [] = Unit {0}
AreOther last (r ∷ rs) = (1 ≤ r.count) × (r.byte ≢ last) × AreOther r.byte rs

abbrev Differ : List Run → Type 0
Differ [] = Unit {0}
Differ (r ∷ rs) = (1 ≤ r.count) × AreOther r.byte rs

onto_differ : (b : ℕ) (rs : List Run) → Differ rs → Differ (onto_run b rs)
onto_differ b [] h = (omega arith, tt)
onto_differ b (r ∷ rs) h = cond_both (eqb b r.byte) (run_made b (suc r.count) ∷ rs) (run_made b 1 ∷ r ∷ rs) Differ
    (λ t. (omega arith, subst (λ (c : ℕ). AreOther c rs) (sym (eqb-true b r.byte t)) h.1))
    (λ f. (omega arith, (h.0, (λ same. (let yes = eq-eqb b r.byte (sym same) in let clash : true ≡ false = sym yes ∙ f in absurd cc)), h.1)))

runs_differ : (schedule : List ℕ) → Differ (runs_of schedule)
runs_differ [] = tt
runs_differ (b ∷ bytes) = onto_differ b (runs_of bytes) (runs_differ bytes)

onto_bytes : (b : ℕ) (rs : List Run) → bytes_of (onto_run b rs) ≡ b ∷ bytes_of rs
onto_bytes b [] = refl
onto_bytes b (r ∷ rs) = cond_both (eqb b r.byte) (run_made b (suc r.count) ∷ rs) (run_made b 1 ∷ r ∷ rs) (λ xs. bytes_of xs ≡ b ∷ bytes_of (r ∷ rs))
    (λ t. ap (λ (c : ℕ). b ∷ (replicate r.count c ++ bytes_of rs)) (eqb-true b r.byte t))
    (λ f. refl)

bytes_back : (schedule : List ℕ) → bytes_of (runs_of schedule) ≡ schedule
bytes_back [] = refl
bytes_back (b ∷ bytes) = onto_bytes b (runs_of bytes) ∙ ap (λ (xs : List ℕ). b ∷ xs) (bytes_back bytes)

apart_by : (last : ℕ) (rs : List Run) → AreOther last rs → AllByRecursion IsClientRun rs → AreApart last rs
apart_by last [] h k = tt
apart_by last (r ∷ rs) h k = ((k.0.0.0, k.0.0.1, h.0, k.0.1), h.1, apart_by r.byte rs h.2 k.1)

apart_first : (rs : List Run) → Differ rs → AllByRecursion IsClientRun rs → AreApart 0 rs
apart_first [] h k = tt
apart_first (r ∷ rs) h k = let some = k.0.0.0 in ((k.0.0.0, k.0.0.1, h.0, k.0.1), (λ e. omega (arith, some, e)), apart_by r.byte rs h.1 k.1)

-- ---- the line

words_are : (rs : List Run) → flat_map (λ next. 32 ∷ next) (map word_of rs) ≡ flat_map run_word rs
words_are [] = refl
words_are (r ∷ rs) = ap (λ (xs : List ℕ). run_word r ++ xs) (words_are rs)

all_words : (rs : List Run) → AreWords (map word_of rs)
all_words [] = tt
all_words (r ∷ rs) = (run_is_word r, all_words rs)

-- the text of the words
line_text : (rs : List Run) → spaced (codes "schedule" ∷ map word_of rs) ≡ codes "schedule" ++ flat_map run_word rs
line_text rs = spaced-first (codes "schedule") (map word_of rs) ∙ ap (λ (xs : List ℕ). codes "schedule" ++ xs) (words_are rs)

pub schedule_lacks : (schedule : List ℕ) → Lacks 10 (schedule_line schedule)
schedule_lacks schedule = subst (Lacks 10) (line_text (runs_of schedule)) (spaced_lacks (codes "schedule" ∷ map word_of (runs_of schedule)) (refl, all_words (runs_of schedule)))

behind_takes : (key : List ℕ) (words rest : List (List ℕ)) → behind key words ≡ Some rest → words ≡ key ∷ rest
behind_takes key [] rest e = absurd cc
behind_takes key (first ∷ words) rest e = cond_both (bytes_eq first key) (Some words) None (λ o. o ≡ Some rest → first ∷ words ≡ key ∷ rest)
    (λ t f. let same : words ≡ rest = cc in ap (λ (w : List ℕ). w ∷ words) (same_word first key t) ∙ ap (λ (ws : List (List ℕ)). key ∷ ws) same)
    (λ t f. absurd cc) e

schedule_takes : (line schedule : List ℕ) → schedule_of line ≡ Some schedule → IsSchedule schedule × (line ≡ schedule_line schedule)
unfolding schedule_of
schedule_takes line schedule e =
    let rest = found (λ (ws : List (List ℕ)). option_map bytes_of (runs_in 0 ws)) (behind (codes "schedule") (parts_of 32 line)) schedule e in
    let runs = mapped bytes_of (runs_in 0 rest.0) schedule rest.2 in
    let t = runs_takes 0 rest.0 runs.0 runs.1 in
    let words : parts_of 32 line ≡ codes "schedule" ∷ map word_of runs.0 = behind_takes (codes "schedule") (parts_of 32 line) rest.0 rest.1 ∙ ap (λ (ws : List (List ℕ)). codes "schedule" ∷ ws) t.1 in
    let text : line ≡ codes "schedule" ++ flat_map run_word runs.0 = sym (join_with_byte-slice_split 32 line) ∙ ap spaced words ∙ line_text runs.0 in
    let back : runs_of (bytes_of runs.0) ≡ runs.0 = runs_back runs.0 t.0 in
    subst (λ (s : List ℕ). IsSchedule s × (line ≡ schedule_line s)) runs.2
    (subst (AllByRecursion IsClientRun) (sym back) (all_clients 0 runs.0 t.0), text ∙ ap (λ (rs : List Run). codes "schedule" ++ flat_map run_word rs) (sym back))

schedule_again : (schedule : List ℕ) → IsSchedule schedule → schedule_of (schedule_line schedule) ≡ Some schedule
unfolding schedule_of
schedule_again schedule h =
    let rs : List Run = runs_of schedule in
    let apart : AreApart 0 rs = apart_first rs (runs_differ schedule) h in
    let words : parts_of 32 (schedule_line schedule) ≡ codes "schedule" ∷ map word_of rs = ap (parts_of 32) (sym (line_text rs)) ∙ parts_of-spaced (codes "schedule") (map word_of rs) (refl, all_words rs) in
    ap schedule_words words ∙ ap (λ (o : Option (List Run)). option_map bytes_of o) (runs_again 0 rs apart) ∙ ap (λ (s : List ℕ). Some s) (bytes_back schedule)

-- ---- for the code

pub schedule_spelled : {E : Type 0} (line : List ℕ) (r : Result (Option (List ℕ)) E) → IfOk r (λ found. found ≡ schedule_of line) → IfOk r (λ found. (schedule : List ℕ) → ((found ≡ Some schedule) ↔ (IsSchedule schedule × (line ≡ schedule_line schedule))))
schedule_spelled line (Err e) h = tt
schedule_spelled line (Ok found) h = λ schedule. (λ e. schedule_takes line schedule (sym h ∙ e), λ k. h ∙ ap schedule_of k.1 ∙ schedule_again schedule k.0)

-- a line is that of one schedule
pub one_schedule : (schedule other : List ℕ) → IsSchedule schedule → IsSchedule other → schedule_line schedule ≡ schedule_line other → schedule ≡ other
one_schedule schedule other good fine e = let both : Some schedule ≡ Some other = sym (schedule_again schedule good) ∙ ap schedule_of e ∙ schedule_again other fine in cc
