-- What the words of a line were, where they were taken.
use Rattle.std.proofs.Common.{◌≡◌, ℕ, suc, ◌^◌, ◌<◌, ◌≤◌, Bool, true, false, cond, ◌&&◌, eqb, ltb, List, [], ◌∷◌, length, Option, Some, None, Result, Ok, Err, refl, sym, ap, subst, ◌∙◌, arith}
use Rattle.std.specs.Prelude.{option_and_then}
use Rattle.std.specs.Fmt.{decimal}
use Rattle.std.proofs.lemmas.Bool.{cond_both, and_parts, ltb-true, lt-ltb, eqb-true}
use Rattle.flr_base.specs.Runs.{Spells}
use Rattle.flr_base.proofs.RunLaws.{one_value}
use Rattle.flr_base.specs.declared.reply.ObjectId.{ObjectId}
use Rattle.text_words.specs.Items.{object_of, object_text}
use Rattle.text_words.specs.Names.{is_name}
use Rattle.text_words.specs.Numbers.{number_from}
use Rattle.text_words.proofs.OneWords.{object_one_word}
use Rattle.text_words.proofs.Spellings.{from_takes, from_again}
use Rattle.lfs_values.specs.declared.cause.Cause.{Cause}
use Rattle.lfs_values.specs.declared.cause.Cause.TheVariants as causes
use Rattle.lfs_words.specs.Parts.{◌>>=◌}
use Rattle.script_values.specs.RunWords.{bytes_from}
use Rattle.script_values.proofs.RunWordLaws.{from_again as bytes_again, from_none}
use Rattle.script_text.specs.Slots.{value_or, first_in, name_of, name_in, number_in, kept_object, object_in, nothing_in}

-- what went on, and how
pub bound : {E A B : Type 0} (r : Result A E) (f : A → Result B E) (y : B) → r >>= f ≡ Ok y → (x : A) × (r ≡ Ok x) × (f x ≡ Ok y)
bound (Ok x) f y e = (x, refl, e)
bound (Err error) f y e = absurd cc

-- the same, for what follows from it
pub through : {E A B P : Type 0} (r : Result A E) (f : A → Result B E) (y : B) → r >>= f ≡ Ok y → ((x : A) → r ≡ Ok x → f x ≡ Ok y → P) → P
through (Ok x) f y e k = k x refl e
through (Err error) f y e k = absurd cc

pub bind : {E A B : Type 0} (r : Result A E) (f : A → Result B E) (x : A) (q : Result B E) → r ≡ Ok x → f x ≡ q → r >>= f ≡ q
bind {E = E} {A = A} r f x q e h = ap (λ (s : Result A E). s >>= f) e ∙ h

-- ---- the first word

value_by : {A : Type 0} (cause : Cause) (o : Option A) (words : List (List ℕ)) (p : A × List (List ℕ)) → value_or cause o words ≡ Ok p → (o ≡ Some p.0) × (words ≡ p.1)
value_by cause None words p e = absurd cc
value_by {A} cause (Some x) words p e =
    let found : A × List (List ℕ) = (x, words) in
    let same : found ≡ p = cc in
    (ap (λ (q : A × List (List ℕ)). Some q.0) same, ap (λ (q : A × List (List ℕ)). q.1) same)

pub first_takes : {A : Type 0} (cause : Cause) (read : List ℕ → Option A) (words : List (List ℕ)) (p : A × List (List ℕ)) → first_in cause read words ≡ Ok p → (word : List ℕ) × (words ≡ word ∷ p.1) × (read word ≡ Some p.0)
first_takes cause read [] p e = absurd cc
first_takes cause read (word ∷ words) p e = let v = value_by cause (read word) words p e in (word, ap (λ (ws : List (List ℕ)). word ∷ ws) v.1, v.0)

pub first_again : {A : Type 0} (cause : Cause) (read : List ℕ → Option A) (word : List ℕ) (words : List (List ℕ)) (x : A) → read word ≡ Some x → first_in cause read (word ∷ words) ≡ Ok (x, words)
first_again {A} cause read word words x e = ap (λ (o : Option A). value_or cause o words) e

pub nothing_takes : (place : ℕ) (words : List (List ℕ)) (u : Unit {0}) → nothing_in place words ≡ Ok u → words ≡ []
nothing_takes place [] u e = refl
nothing_takes place (word ∷ words) u e = absurd cc

-- ---- names, numbers and objects

name_by : (word name : List ℕ) (b : Bool) → is_name word ≡ b → cond b (Some word) None ≡ Some name → (word ≡ name) × (is_name word ≡ true)
name_by word name true t e = (cc, t)
name_by word name false t e = absurd cc

pub name_takes : (place : ℕ) (words : List (List ℕ)) (p : List ℕ × List (List ℕ)) → name_in place words ≡ Ok p → (words ≡ p.0 ∷ p.1) × (is_name p.0 ≡ true)
name_takes place words p e =
    let f = first_takes (causes.BadName place) name_of words p e in
    let n = name_by f.0 p.0 (is_name f.0) refl f.2 in
    (f.1 ∙ ap (λ (w : List ℕ). w ∷ p.1) n.0, ap is_name (sym n.0) ∙ n.1)

pub name_again : (place : ℕ) (name : List ℕ) (words : List (List ℕ)) → is_name name ≡ true → name_in place (name ∷ words) ≡ Ok (name, words)
name_again place name words t = first_again (causes.BadName place) name_of name words name (rw t refl)

pub record IsNumber (least most : ℕ) (words : List (List ℕ)) (p : ℕ × List (List ℕ)) : Type 0 where
  pub low : least ≤ p.0
  pub high : p.0 ≤ most
  pub words_are : words ≡ decimal p.0 ∷ p.1

pub number_takes : (place least most : ℕ) (words : List (List ℕ)) (p : ℕ × List (List ℕ)) → number_in place least most words ≡ Ok p → IsNumber least most words p
number_takes place least most words p e =
    let f = first_takes (causes.BadNumber place) (number_from least most) words p e in
    let n = from_takes least most f.0 p.0 f.2 in
    record { low = n.0; high = n.1; words_are = f.1 ∙ ap (λ (w : List ℕ). w ∷ p.1) n.2 }

pub number_again : (place least most n : ℕ) (words : List (List ℕ)) → most < 2 ^ 64 → least ≤ n → n ≤ most → number_in place least most (decimal n ∷ words) ≡ Ok (n, words)
number_again place least most n words fits low high = first_again (causes.BadNumber place) (number_from least most) (decimal n) words n (from_again least most n fits low high)

pub record IsObjectOf (targets : ℕ) (words : List (List ℕ)) (p : ObjectId × List (List ℕ)) : Type 0 where
  pub target : p.0.target < targets
  pub some : 1 ≤ p.0.number
  pub few : p.0.number < 2 ^ 32
  pub words_are : words ≡ object_text p.0 ∷ p.1

kept_by : (targets : ℕ) (o : Option ObjectId) (object : ObjectId) → option_and_then (kept_object targets) o ≡ Some object → (o ≡ Some object) × (object.target < targets) × (1 ≤ object.number)
kept_by targets None object e = absurd cc
kept_by targets (Some found) object e =
    cond_both (ltb found.target targets && ltb 0 found.number) (Some found) None (λ o. o ≡ Some object → (Some found ≡ Some object) × (object.target < targets) × (1 ≤ object.number))
    (λ t f.
    let p = and_parts (ltb found.target targets) (ltb 0 found.number) t in
    let same : found ≡ object = cc in
    (ap (λ x. Some x) same, subst (λ (x : ObjectId). x.target < targets) same (ltb-true found.target targets p.0), subst (λ (x : ObjectId). 1 ≤ x.number) same (ltb-true 0 found.number p.1)))
    (λ t f. absurd cc) e

pub object_takes : (place targets : ℕ) (words : List (List ℕ)) (p : ObjectId × List (List ℕ)) → object_in place targets words ≡ Ok p → IsObjectOf targets words p
object_takes place targets words p e =
    let f = first_takes (causes.BadNumber place) (λ word. option_and_then (kept_object targets) (object_of word)) words p e in
    let k = kept_by targets (object_of f.0) p.0 f.2 in
    let o = object_one_word.takes f.0 p.0 k.0 in
    record { target = k.1; some = k.2; few = o.0.1; words_are = f.1 ∙ ap (λ (w : List ℕ). w ∷ p.1) o.1 }

pub object_again : (place targets : ℕ) (object : ObjectId) (words : List (List ℕ)) → targets ≤ 64 → object.target < targets → 1 ≤ object.number → object.number < 2 ^ 32
    → object_in place targets (object_text object ∷ words) ≡ Ok (object, words)
object_again place targets object words few target some small =
    let read : object_of (object_text object) ≡ Some object = object_one_word.again object (omega arith, small) in
    first_again (causes.BadNumber place) (λ word. option_and_then (kept_object targets) (object_of word)) (object_text object) words object
    (ap (option_and_then (kept_object targets)) read ∙ rw (lt-ltb object.target targets target, lt-ltb 0 object.number some) refl)

-- ---- the bytes of a write

pub bad_bytes : (word : List ℕ) → ((bytes : List ℕ) → Spells word bytes → length bytes ≤ 1048576 → ⊥) → None ≡ bytes_from 1 1048576 word
bad_bytes word h = sym (from_none 1 1048576 word (omega arith) (λ bytes s low high. h bytes s high))

pub some_bytes : (word bytes : List ℕ) → eqb (length bytes) 0 ≡ false → Spells word bytes → length bytes ≤ 1048576 → Some bytes ≡ bytes_from 1 1048576 word
some_bytes word [] some s high = absurd cc
some_bytes word (b ∷ bs) some s high = sym (bytes_again 1 1048576 word (b ∷ bs) s (omega arith) high)

pub no_bytes : (word bytes : List ℕ) → eqb (length bytes) 0 ≡ true → Spells word bytes → None ≡ bytes_from 1 1048576 word
no_bytes word (b ∷ bs) none s = let e = eqb-true (suc (length bs)) 0 none in absurd (omega arith)
no_bytes word [] none s =
    sym (from_none 1 1048576 word (omega arith) (λ bytes t low high.
    let same : [] ≡ bytes = one_value word [] bytes s t in
    let nil : 0 ≡ length bytes = ap (λ (bs : List ℕ). length bs) same in omega arith))
