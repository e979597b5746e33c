-- The bytes that a word spells by runs are found, and no others.
use Rattle.std.proofs.Common.{◌≡◌, ℕ, ◌+◌, ◌*◌, ◌/◌, ◌%◌, ◌^◌, ◌<◌, ◌≤◌, Bool, true, false, cond, ◌&&◌, eqb, ltb, leb, List, [], ◌∷◌, ◌++◌, length, map, Option, Some, None, Result, Ok, Err, refl, sym, ap, subst, ◌∙◌, arith}
use Rattle.std.specs.Prelude.{codes, MatchResult}
use Rattle.std.specs.List.{list_all, join_with_byte}
use Rattle.std.specs.Str.{bytes_eq}
use Rattle.std.specs.Fmt.{digit_glyph}
use Rattle.std.proofs.lemmas.Bool.{and_parts, and_from, ltb-true, leb-true, lt-ltb, le-leb, false_from_ne_true}
use Rattle.std.proofs.lemmas.Bool.Decides.{nat_tests}
use Rattle.std.proofs.lemmas.List.{append-nil}
use Rattle.std.proofs.lemmas.Slice.Eq.{bytes_eq-Decides}
use Rattle.flr_base.specs.Runs.{hex, run_text, runs_text, bytes_of, AreRuns, AreRunsAfter, Spells, text_of_bytes}
use Rattle.flr_base.specs.declared.runs.run.Run.{Run}
use Rattle.flr_base.specs.declared.runs.fault.RunsError.{RunsError}
use Rattle.flr_base.specs.declared.runs.fault.RunsError.TheVariants as errors
use Rattle.flr_base.specs.RunsAnswers.{IsRunsFault}
use Rattle.flr_base.proofs.RunLaws.{one_value}
use Rattle.text_words.specs.Bytes.{hex_digit, hex_byte}
use Rattle.text_words.specs.Pieces.{Lacks, AllLack, parts_of}
use Rattle.text_words.proofs.Decimals.{number_again}
use Rattle.text_words.proofs.Splits.{parts-joined, decimal_lacks}
use Rattle.script_values.specs.RunWords.{run_of, bytes_by_runs, is_text_of, bytes_from}
use Rattle.script_values.proofs.RunTexts.{AreAllBytes, spells_them, spelled_bytes}

-- ---- a run

digit_again : (d : ℕ) → d < 16 → hex_digit (digit_glyph false d) ≡ Some d
digit_again d lt = grind (arith, nat_tests)

pub hex_again : (b : ℕ) → b < 256 → hex_byte (hex b) ≡ Some b
hex_again b lt =
    let whole : b / 16 * 16 + b % 16 ≡ b = omega arith in
    rw (digit_again (b / 16) (omega arith), digit_again (b % 16) (omega arith), whole) refl

glyph_lacks : (d : ℕ) → d < 16 → eqb (digit_glyph false d) 43 ≡ false
glyph_lacks d lt = grind (arith, nat_tests)

run_again : (r : Run) → r.byte < 256 → r.count < 2 ^ 32 → run_of (run_text r) ≡ r
run_again r lt few = rw (hex_again r.byte lt, number_again r.count (omega arith)) refl

run_lacks : (r : Run) → r.byte < 256 → r.count < 2 ^ 32 → Lacks 43 (run_text r)
run_lacks r lt few = (glyph_lacks (r.byte / 16) (omega arith), (glyph_lacks (r.byte % 16) (omega arith), (refl, decimal_lacks 43 r.count (omega arith) (omega arith))))

-- ---- runs

runs_again : (last : Option ℕ) (rs : List Run) → AreRunsAfter last rs → map run_of (map run_text rs) ≡ rs
runs_again last [] h = refl
runs_again last (r ∷ rs) h = rw (run_again r h.0 h.2, runs_again (Some r.byte) rs h.4) refl

runs_lack : (last : Option ℕ) (rs : List Run) → AreRunsAfter last rs → AllLack 43 (map run_text rs)
runs_lack last [] h = tt
runs_lack last (r ∷ rs) h = (run_lacks r h.0 h.2, runs_lack (Some r.byte) rs h.4)

joined : (r : Run) (rs : List Run) → join_with_byte 43 (map run_text (r ∷ rs)) ≡ runs_text (r ∷ rs)
joined r [] = sym (append-nil (run_text r))
joined r (s ∷ rs) = ap (λ (text : List ℕ). run_text r ++ 43 ∷ text) (joined s rs)

parts_again : (r : Run) (rs : List Run) → AreRuns (r ∷ rs) → parts_of 43 (runs_text (r ∷ rs)) ≡ map run_text (r ∷ rs)
parts_again r rs h =
    let lack = runs_lack None (r ∷ rs) h in
    ap (parts_of 43) (sym (joined r rs)) ∙ parts-joined 43 (run_text r) (map run_text rs) lack.0 lack.1

no_dash : (r : Run) (rs : List Run) → bytes_eq (runs_text (r ∷ rs)) (codes "-") ≡ false
no_dash r rs = false_from_ne_true _ (λ t. let e : runs_text (r ∷ rs) ≡ codes "-" = (bytes_eq-Decides (runs_text (r ∷ rs)) (codes "-")).0 t in absurd cc)

by_runs_again : (rs : List Run) → AreRuns rs → bytes_by_runs (runs_text rs) ≡ bytes_of rs
unfolding bytes_by_runs
by_runs_again [] h = refl
by_runs_again (r ∷ rs) h =
    ap (λ (b : Bool). cond b [] (bytes_of (map run_of (parts_of 43 (runs_text (r ∷ rs)))))) (no_dash r rs)
    ∙ ap (λ (parts : List (List ℕ)). bytes_of (map run_of parts)) (parts_again r rs h) ∙ ap bytes_of (runs_again None (r ∷ rs) h)

-- ---- bytes

all_bytes : (bytes : List ℕ) → list_all (λ byte. ltb byte 256) bytes ≡ true → AreAllBytes bytes
all_bytes [] h = tt
all_bytes (b ∷ bytes) h = let p = and_parts (ltb b 256) _ h in (ltb-true b 256 p.0, all_bytes bytes p.1)

are_bytes : (bytes : List ℕ) → AreAllBytes bytes → list_all (λ byte. ltb byte 256) bytes ≡ true
are_bytes [] h = refl
are_bytes (b ∷ bytes) h = and_from (ltb b 256) _ (lt-ltb b 256 h.0) (are_bytes bytes h.1)

-- these are the bytes that the word spells, so many as may be
pub record IsFound (least most : ℕ) (word bytes : List ℕ) : Type 0 where
  pub low : least ≤ length bytes
  pub high : length bytes ≤ most
  pub bytes_are : AreAllBytes bytes
  pub text : word ≡ text_of_bytes bytes

test_takes : (least most : ℕ) (word bytes : List ℕ) → is_text_of least most word bytes ≡ true → IsFound least most word bytes
unfolding is_text_of
test_takes least most word bytes t =
    let p = and_parts (bytes_eq (text_of_bytes bytes) word) _ t in
    let q = and_parts (leb least (length bytes) && leb (length bytes) most) _ p.1 in
    let r = and_parts (leb least (length bytes)) _ q.0 in
    record { low = leb-true least (length bytes) r.0; high = leb-true (length bytes) most r.1; bytes_are = all_bytes bytes q.1; text = sym ((bytes_eq-Decides (text_of_bytes bytes) word).0 p.0) }

test_again : (least most : ℕ) (word bytes : List ℕ) → IsFound least most word bytes → is_text_of least most word bytes ≡ true
unfolding is_text_of
test_again least most word bytes h =
    and_from (bytes_eq (text_of_bytes bytes) word) _ ((bytes_eq-Decides (text_of_bytes bytes) word).1 (sym h.text))
    (and_from (leb least (length bytes) && leb (length bytes) most) _ (and_from (leb least (length bytes)) _ (le-leb least (length bytes) h.low) (le-leb (length bytes) most h.high)) (are_bytes bytes h.bytes_are))

from_takes_by : (least most : ℕ) (word bytes made : List ℕ) (b : Bool) → is_text_of least most word made ≡ b → cond b (Some made) None ≡ Some bytes → IsFound least most word bytes
from_takes_by least most word bytes made true t e = let same : made ≡ bytes = cc in subst (IsFound least most word) same (test_takes least most word made t)
from_takes_by least most word bytes made false t e = absurd cc

pub from_takes : (least most : ℕ) (word bytes : List ℕ) → bytes_from least most word ≡ Some bytes → IsFound least most word bytes
unfolding bytes_from
from_takes least most word bytes e = from_takes_by least most word bytes (bytes_by_runs word) (is_text_of least most word (bytes_by_runs word)) refl e

pub from_again : (least most : ℕ) (word bytes : List ℕ) → Spells word bytes → least ≤ length bytes → length bytes ≤ most → bytes_from least most word ≡ Some bytes
unfolding bytes_from
from_again least most word bytes s low high =
    let made : bytes_by_runs word ≡ bytes = ap bytes_by_runs s.2 ∙ by_runs_again s.0 s.1 ∙ sym s.3 in
    let are = spelled_bytes word bytes s in
    let found : is_text_of least most word bytes ≡ true = test_again least most word bytes (record { low = low; high = high; bytes_are = are.0; text = are.1 }) in
    rw (made, found) refl

-- the spelling of bytes is read
pub text_again : (least most : ℕ) (bytes : List ℕ) → AreAllBytes bytes → least ≤ length bytes → length bytes ≤ most → most < 2 ^ 32 → bytes_from least most (text_of_bytes bytes) ≡ Some bytes
text_again least most bytes h low high few = from_again least most (text_of_bytes bytes) bytes (spells_them bytes h (omega arith)) low high

-- a word that spells nothing, too little or too much is none
pub from_none : (least most : ℕ) (word : List ℕ) → most < 2 ^ 32 → ((bytes : List ℕ) → Spells word bytes → least ≤ length bytes → length bytes ≤ most → ⊥) → bytes_from least most word ≡ None
from_none least most word few h = by_option (bytes_from least most word) refl
  where
    by_option : (o : Option (List ℕ)) → bytes_from least most word ≡ o → o ≡ None
    by_option None e = refl
    by_option (Some bytes) e =
        let f = from_takes least most word bytes e in
        let high = f.high in
        absurd (h bytes (subst (λ (w : List ℕ). Spells w bytes) (sym f.text) (spells_them bytes f.bytes_are (omega arith))) f.low f.high)

-- ---- for the reader

-- what isn't read spells nothing, or too much
pub refused_is_none : (least most : ℕ) (word : List ℕ) (r : Result (List ℕ) RunsError) (e : RunsError) → most < 2 ^ 32 → MatchResult r (λ bytes. Spells word bytes × (length bytes ≤ most)) (IsRunsFault word most) → r ≡ Err e → (e ≡ errors.NoMemory → ⊥)
    → None ≡ bytes_from least most word
refused_is_none least most word (Ok bytes) e few h is other = absurd cc
refused_is_none least most word (Err (errors.Bad at)) e few h is other = sym (from_none least most word few (λ bytes s low high. h.none (s.0, s.1, s.2)))
refused_is_none least most word (Err errors.TooLong) e few h is other =
    sym (from_none least most word few (λ bytes s low high. let same = one_value word h.0 bytes h.1 s in omega (arith, h.2, ap (λ (xs : List ℕ). length xs) same)))
refused_is_none least most word (Err errors.NoMemory) e few h is other = absurd (other (let same : errors.NoMemory ≡ e = cc in sym same))

-- what is read is found, unless it is too little
pub read_is_found : (least most : ℕ) (word bytes : List ℕ) (r : Result (List ℕ) RunsError) → MatchResult r (λ bytes. Spells word bytes × (length bytes ≤ most)) (IsRunsFault word most) → r ≡ Ok bytes → least ≤ length bytes
    → Some bytes ≡ bytes_from least most word
read_is_found least most word bytes (Ok found) h is low =
    let same : found ≡ bytes = cc in
    sym (from_again least most word bytes (subst (Spells word) same h.0) low (subst (λ (xs : List ℕ). length xs ≤ most) same h.1))
read_is_found least most word bytes (Err e) h is low = absurd cc

pub too_few_is_none : (least most : ℕ) (word bytes : List ℕ) (r : Result (List ℕ) RunsError) → most < 2 ^ 32 → MatchResult r (λ bytes. Spells word bytes × (length bytes ≤ most)) (IsRunsFault word most) → r ≡ Ok bytes → length bytes < least
    → None ≡ bytes_from least most word
too_few_is_none least most word bytes (Ok found) few h is less =
    let same : found ≡ bytes = cc in
    sym (from_none least most word few (λ others s low high.
    let one = one_value word found others h.0 s in
    let equal : length bytes ≡ length others = ap (λ (xs : List ℕ). length xs) (sym same ∙ one) in omega arith))
too_few_is_none least most word bytes (Err e) few h is less = absurd cc
