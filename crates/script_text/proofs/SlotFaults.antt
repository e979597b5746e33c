-- First faults of words that each have to be of a form of their own.
use Rattle.std.proofs.Common.{◌≡◌, ℕ, suc, ◌^◌, ◌<◌, ◌≤◌, Bool, true, false, cond, List, [], ◌∷◌, Option, Some, None, Result, Err, refl, sym, ap, subst, ◌∙◌, arith, inl, inr}
use Rattle.std.specs.Prelude.{codes, option_and_then}
use Rattle.std.specs.Fmt.{decimal}
use Rattle.std.specs.List.{AllByRecursion}
use Rattle.flr_base.specs.Runs.{hex, text_of_bytes}
use Rattle.flr_base.specs.declared.reply.ObjectId.{ObjectId}
use Rattle.text_words.specs.Bytes.{hex_byte}
use Rattle.text_words.specs.Items.{object_of, object_text}
use Rattle.text_words.specs.Names.{is_name}
use Rattle.text_words.specs.Numbers.{number_from}
use Rattle.text_words.proofs.Spellings.{from_takes, from_again}
use Rattle.lfs_values.specs.declared.cause.Cause.{Cause}
use Rattle.lfs_values.specs.declared.cause.Cause.TheVariants as causes
use Rattle.lfs_words.specs.Parts.{◌>>=◌}
use Rattle.object_target.specs.declared.fail.FailKind.TheVariants as kinds
use Rattle.script_values.specs.RunWords.{bytes_from}
use Rattle.script_values.specs.Texts.{kind_word}
use Rattle.script_values.proofs.RunWordLaws.{text_again, hex_again, from_takes as bytes_take}
use Rattle.script_text.specs.declared.error.LineError.{LineError}
use Rattle.script_text.specs.declared.error.LineError.TheVariants as faults
use Rattle.script_text.specs.HeadLines.{kind_of}
use Rattle.script_text.specs.Slots.{first_in, name_of, kept_object, nothing_in, object_in}
use Rattle.script_text.proofs.SlotLaws.{first_takes, first_again, object_again, object_takes}
use Rattle.script_text.proofs.Agains.{kind_again}
use Rattle.script_text.proofs.Founds.{kind_chain}
use Rattle.script_text.proofs.CommandLaws.{byte_takes}
use Rattle.script_text.specs.Causes.{IsTold}
use Rattle.script_text.specs.Forms.{Slot, Name, Number, Runs, Byte, Object, Kind, IsWordOf, Fit}
use Rattle.script_text.proofs.FirstFaults.{Words, here, told_behind, Blames, next_told}

-- ---- words that are as they have to be

-- some word is as it has to be
abbrev pub IsOpen : Slot → Type 0
IsOpen (Number least most) = (least ≤ most) × (most < 2 ^ 64)
IsOpen (Object targets) = (1 ≤ targets) × (targets ≤ 64)
IsOpen slot = Unit {0}

some_byte : (byte : ℕ) → byte < 256 → AllByRecursion (λ (b : ℕ). b < 256) (byte ∷ [])
some_byte byte h = (h, tt)

is_first : (targets : ℕ) → 1 ≤ targets → (0 < targets) × (1 ≤ 1) × (1 < 2 ^ 32)
is_first targets some = (omega arith, omega arith, omega arith)

some_object : (targets : ℕ) → 1 ≤ targets → (word : List ℕ) × IsWordOf (Object targets) word
some_object targets some = (object_text (record { target = 0; number = 1 }), (record { target = 0; number = 1 }, is_first targets some, refl))

one_byte : (1 ≤ 1) × (1 ≤ 1048576)
one_byte = (omega arith, omega arith)

some_name : is_name (codes "/a") ≡ true
unfolding is_name
some_name = refl

pub some_word : (slot : Slot) → IsOpen slot → (word : List ℕ) × IsWordOf slot word
some_word Name h = (codes "/a", some_name)
some_word (Number least most) h = (decimal least, (least, omega arith, h.0, refl))
some_word Runs h = (text_of_bytes (0 ∷ []), (0 ∷ [], one_byte, some_byte 0 (omega arith), refl))
some_word Byte h = (hex 0, (0, omega arith, refl))
some_word (Object targets) h = some_object targets h.0
some_word Kind h = (kind_word kinds.Lost, (kinds.Lost, refl))

pub some_words : (slots : List Slot) → AllByRecursion IsOpen slots → (words : Words) × Fit slots words
some_words [] h = ([], refl)
some_words (slot ∷ slots) h =
    let word = some_word slot h.0 in
    let rest = some_words slots h.1 in
    (word.0 ∷ rest.0, (word.0, rest.0, refl, word.1, rest.1))

-- ---- the form behind a word

pub head_same : {A : Type 0} (x y : A) (xs ys : List A) → x ∷ xs ≡ y ∷ ys → (x ≡ y) × (xs ≡ ys)
head_same x y xs ys e = (cc, cc)

pub fit_first : (slot : Slot) (slots : List Slot) (word : List ℕ) (rest : Words) → Fit (slot ∷ slots) (word ∷ rest) → IsWordOf slot word × Fit slots rest
fit_first slot slots word rest h =
    let same = head_same word h.0 rest h.1 h.2 in
    (subst (IsWordOf slot) (sym same.0) h.3, subst (Fit slots) (sym same.1) h.4)

pub fit_more : (slot : Slot) (slots : List Slot) (word : List ℕ) (rest : Words) → IsWordOf slot word → Fit slots rest → Fit (slot ∷ slots) (word ∷ rest)
fit_more slot slots word rest h k = (word, rest, refl, h, k)

no_fit : (slot : Slot) (slots : List Slot) → Fit (slot ∷ slots) [] → ⊥
no_fit slot slots h = let e : [] ≡ h.0 ∷ h.1 = h.2 in absurd cc

-- how a word is read that has to be so
pub record IsReader {A : Type 0} (slot : Slot) (read : List ℕ → Option A) : Type 0 where
  pub takes : (word : List ℕ) (x : A) → read word ≡ Some x → IsWordOf slot word
  pub again : (word : List ℕ) → IsWordOf slot word → read word ≡ None → ⊥

-- the next word, and what stands behind it
pub slot_told : {A B : Type 0} (slot : Slot) (slots : List Slot) (from : ℕ) (cause : Cause) (read : List ℕ → Option A) (words : Words) (f : A × Words → Result B LineError) (error : LineError) → AllByRecursion IsOpen (slot ∷ slots) → IsReader slot read
    → Blames (Fit (slot ∷ slots)) from (faults.Bad cause) → first_in cause read words >>= f ≡ Err error → ((x : A) (rest : Words) → f (x, rest) ≡ Err error → IsTold (Fit slots) (suc from) rest error) → IsTold (Fit (slot ∷ slots)) from words error
slot_told slot slots from cause read words f error opens reader blames e k =
    let some = some_words (slot ∷ slots) opens in
    elim (next_told ⊥ (Fit (slot ∷ slots)) from cause read words f error some (no_fit slot slots) (λ word none more h. reader.again word (fit_first slot slots word more h).0 none) blames e
    (λ word x rest whole is g. inl (told_behind (Fit (slot ∷ slots)) (Fit slots) from word rest error (λ ys h. fit_more slot slots word ys (reader.takes word x is) h) (λ ys h. (fit_first slot slots word ys h).1) (k x rest g))))
    as (λ _. IsTold (Fit (slot ∷ slots)) from words error) [ inl h ↦ h | inr h ↦ absurd h ]

-- no word is left
pub end_told : (from place : ℕ) (words : Words) (error : LineError) → Blames (Fit []) from (faults.Bad (causes.Extra place)) → nothing_in place words ≡ Err error → IsTold (Fit []) from words error
end_told from place [] error blames e = absurd cc
end_told from place (word ∷ rest) error blames e =
    let same : faults.Bad (causes.Extra place) ≡ error = cc in
    subst (λ (x : LineError). IsTold (Fit []) from (word ∷ rest) x) same (blames (word ∷ rest) (here (Fit []) word rest ([], refl) (λ more h. absurd cc)))

-- ---- the readers

pub some_none : {A : Type 0} (x : A) (o : Option A) → o ≡ Some x → o ≡ None → ⊥
some_none x o e f = absurd cc

pub number_reader : (least most : ℕ) → most < 2 ^ 64 → IsReader (Number least most) (number_from least most)
number_reader least most fits =
    record {
      takes = λ word n e. (let t = from_takes least most word n e in (n, t.0, t.1, t.2));
      again = λ word h e. some_none h.0 (number_from least most word) (ap (number_from least most) h.3 ∙ from_again least most h.0 fits h.1 h.2) e;
    }

name_by : (word name : List ℕ) (b : Bool) → is_name word ≡ b → cond b (Some word) None ≡ Some name → is_name word ≡ true
name_by word name true t e = t
name_by word name false t e = absurd cc

name_not : (word : List ℕ) → is_name word ≡ true → name_of word ≡ None → ⊥
name_not word t e = let some : name_of word ≡ Some word = rw t refl in some_none word (name_of word) some e

pub name_reader : IsReader Name name_of
name_reader = record { takes = λ word name e. name_by word name (is_name word) refl e; again = name_not }

pub runs_reader : IsReader Runs (bytes_from 1 1048576)
runs_reader =
    record {
      takes = λ word bytes e. (let t = bytes_take 1 1048576 word bytes e in (bytes, (t.low, t.high), t.bytes_are, t.text));
      again = λ word h e. some_none h.0 (bytes_from 1 1048576 word) (ap (bytes_from 1 1048576) h.3 ∙ text_again 1 1048576 h.0 h.2 h.1.0 h.1.1 (omega arith)) e;
    }

pub byte_reader : IsReader Byte hex_byte
byte_reader =
    record {
      takes = λ word byte e. (let t = byte_takes word byte e in (byte, t.0, t.1));
      again = λ word h e. some_none h.0 (hex_byte word) (ap hex_byte h.2 ∙ hex_again h.0 h.1) e;
    }

abbrev pub read_object : ℕ → List ℕ → Option ObjectId
read_object targets word = option_and_then (kept_object targets) (object_of word)

pub object_reader : (targets : ℕ) → targets ≤ 64 → IsReader (Object targets) (read_object targets)
object_reader targets few =
    record {
      takes = λ word object e.
          (let t = object_takes 2 targets (word ∷ []) (object, []) (first_again (causes.BadNumber 2) (read_object targets) word [] object e) in
          (object, (t.target, t.some, t.few), (head_same word (object_text object) [] [] t.words_are).0));
      again = λ word h e.
          (let f = first_takes (causes.BadNumber 2) (read_object targets) (word ∷ []) (h.0, []) (ap (λ (w : List ℕ). object_in 2 targets (w ∷ [])) h.2 ∙ object_again 2 targets h.0 [] few h.1.0 h.1.1 h.1.2) in
          some_none h.0 (read_object targets word) (ap (read_object targets) (head_same word f.0 [] [] f.1).0 ∙ f.2) e);
    }

pub kind_reader : IsReader Kind kind_of
kind_reader =
    record {
      takes = λ word kind e. (kind, kind_chain word kind e);
      again = λ word h e. some_none h.0 (kind_of word) (ap kind_of h.1 ∙ kind_again h.0) e;
    }
