-- First faults in the words behind the first of a line.
use Rattle.std.proofs.Common.{◌≡◌, ℕ, suc, ◌-◌, ◌^◌, ◌<◌, ◌≤◌, true, false, eqb, ltb, List, [], ◌∷◌, ◌++◌, length, Some, None, Result, Ok, Err, refl, sym, ap, subst, ◌∙◌, arith, inl, inr}
use Rattle.std.specs.Prelude.{◌⊎◌}
use Rattle.std.specs.Fmt.{decimal}
use Rattle.std.proofs.lemmas.Bool.{cond_both, ltb-true, ltb-false, eqb-true, eq-eqb}
use Rattle.flr_base.specs.Faults.{Begins}
use Rattle.text_words.specs.Bytes.{hex_byte}
use Rattle.text_words.specs.Numbers.{number_of, number_from}
use Rattle.text_words.proofs.Decimals.{number_again}
use Rattle.text_words.proofs.Spellings.{from_takes, from_again}
use Rattle.lfs_values.specs.declared.cause.Cause.TheVariants as causes
use Rattle.lfs_words.specs.Parts.{◌>>=◌}
use Rattle.object_target.specs.declared.fail.Fail.{Fail}
use Rattle.object_target.specs.declared.fail.FailKind.{FailKind}
use Rattle.object_target.specs.declared.fail.FailKind.TheVariants as kinds
use Rattle.script_values.specs.RunWords.{bytes_from}
use Rattle.script_values.specs.Texts.{kind_word}
use Rattle.script_values.specs.declared.what.What.TheVariants as what
use Rattle.script_text.specs.declared.error.LineError.{LineError}
use Rattle.script_text.specs.declared.error.LineError.TheVariants as faults
use Rattle.script_text.specs.CommandLines.{read_line, write_line, truncate_line, evict_line, rot_line}
use Rattle.script_text.specs.HeadLines.{version_line, targets_line, mirrors_line, client_line, is_listed, unlisted, kind_of, kind_in, fails_from}
use Rattle.script_text.specs.Slots.{name_of, number_in, nothing_in}
use Rattle.script_text.specs.Causes.{IsTold}
use Rattle.script_text.specs.Forms.{Name, Number, Runs, Byte, Object, Kind, Fit, IsOneFail}
use Rattle.script_text.proofs.FirstFaults.{Words, here, told_behind, Blames, next_told}
use Rattle.script_text.proofs.FreeCalls.{free_call}
use Rattle.script_text.proofs.SlotFaults.{some_words, fit_first, fit_more, slot_told, end_told, number_reader, name_reader, runs_reader, byte_reader, read_object, object_reader, kind_reader, head_same, some_none}

-- the last word has stood
pub last_told : {B : Type 0} (from place : ℕ) (words : Words) (y : B) (error : LineError) → Blames (Fit []) from (faults.Bad (causes.Extra place)) → (nothing_in place words >>= λ _. Ok y) ≡ Err error → IsTold (Fit []) from words error
last_told from place [] y error blames e = absurd cc
last_told from place (word ∷ rest) y error blames e =
    let same : faults.Bad (causes.Extra place) ≡ error = cc in
    end_told from place (word ∷ rest) error blames (ap (λ (x : LineError). Err x) same)

-- ---- numbers

-- a word is one number
pub one_number : (word : List ℕ) (m n : ℕ) → m < 2 ^ 64 → n < 2 ^ 64 → word ≡ decimal m → word ≡ decimal n → m ≡ n
one_number word m n small few e f = let same : Some m ≡ Some n = sym (ap number_of e ∙ number_again m small) ∙ (ap number_of f ∙ number_again n few) in cc

-- a number in the range is read
pub not_read : (least most : ℕ) (word : List ℕ) (n : ℕ) → most < 2 ^ 64 → least ≤ n → n ≤ most → word ≡ decimal n → number_from least most word ≡ None → ⊥
not_read least most word n fits low high e none = some_none n (number_from least most word) (ap (number_from least most) e ∙ from_again least most n fits low high) none

-- ---- lines before the clients

pub version_told : (words : Words) (error : LineError) → version_line words ≡ Err error → IsTold (Fit (Number 1 2 ∷ [])) 1 words error
version_told words error e =
    slot_told (Number 1 2) [] 1 (causes.BadNumber 2) (number_from 1 2) words _ error ((omega arith, omega arith), tt) (number_reader 1 2 (omega arith)) (λ ws f. (0, refl, f)) e
    (λ x rest g. last_told 2 3 rest _ error (λ ws f. (0, refl, f)) g)

pub mirrors_told : (words : Words) (error : LineError) → mirrors_line words ≡ Err error → IsTold (Fit (Number 1 32 ∷ [])) 1 words error
mirrors_told words error e =
    slot_told (Number 1 32) [] 1 (causes.BadNumber 2) (number_from 1 32) words _ error ((omega arith, omega arith), tt) (number_reader 1 32 (omega arith)) (λ ws f. (0, refl, f)) e
    (λ x rest g. last_told 2 3 rest _ error (λ ws f. (0, refl, f)) g)

-- the words behind a number that is right, or wrong by what is asked of it
abbrev NumberOnly : ℕ → ℕ → Words → Type 0
NumberOnly least most words = Fit (Number least most ∷ []) words

some_number : (least most : ℕ) → least ≤ most → most < 2 ^ 64 → Begins (NumberOnly least most) []
some_number least most h k = some_words (Number least most ∷ []) ((h, k), tt)

no_number : (least most : ℕ) → NumberOnly least most [] → ⊥
no_number least most h = let e : [] ≡ h.0 ∷ h.1 = h.2 in absurd cc

other_number : (least most n : ℕ) (word : List ℕ) (more : Words) → most < 2 ^ 64 → n < 2 ^ 64 → word ≡ decimal n → ((least ≤ n) × (n ≤ most) → ⊥) → NumberOnly least most (word ∷ more) → ⊥
other_number least most n word more fits small e never h =
    let w = (fit_first (Number least most) [] word more h).0 in
    let high = w.2 in
    let same = one_number word w.0 n (omega (arith, high)) small w.3 e in
    never (subst (λ (m : ℕ). (least ≤ m) × (m ≤ most)) same (w.1, w.2))

not_number : (least most low high : ℕ) (word : List ℕ) (more : Words) → most < 2 ^ 64 → high < 2 ^ 64 → low ≤ least → most ≤ high → number_from low high word ≡ None → NumberOnly least most (word ∷ more) → ⊥
not_number least most low high word more fits small a b none h =
    let w = (fit_first (Number least most) [] word more h).0 in
    let below = w.1 in
    let above = w.2 in
    not_read low high word w.0 small (omega (arith, below)) (omega (arith, above)) w.3 none

behind_number : (least most n : ℕ) (word : List ℕ) (rest : Words) (error : LineError) → least ≤ n → n ≤ most → word ≡ decimal n → IsTold (Fit []) 2 rest error → IsTold (NumberOnly least most) 1 (word ∷ rest) error
behind_number least most n word rest error low high e h =
    told_behind (NumberOnly least most) (Fit []) 1 word rest error (λ ys k. fit_more (Number least most) [] word ys (n, low, high, e) k) (λ ys k. (fit_first (Number least most) [] word ys k).1) h

pub told_only : {P : Type 0} → P ⊎ ⊥ → P
told_only (inl h) = h
told_only (inr h) = absurd h

pub targets_told : (words : Words) (error : LineError) → targets_line words ≡ Err error → IsTold (Fit (Number 1 64 ∷ [])) 1 words error
targets_told words error e =
    told_only
    (next_told ⊥ (NumberOnly 1 64) 1 (causes.BadNumber 2) (number_from 1 (2 ^ 64 - 1)) words _ error (some_number 1 64 (omega arith) (omega arith)) (no_number 1 64)
    (λ word none more h. not_number 1 64 1 (2 ^ 64 - 1) word more (omega arith) (omega arith) (omega arith) (omega arith) none h) (λ ws f. (0, refl, f)) e
    (λ word n rest whole is g.
    let t = from_takes 1 (2 ^ 64 - 1) word n is in
    let most = t.1 in
    cond_both {A = Result (Unit {0}) LineError} (ltb 64 n) (Err (faults.TooMany what.Targets)) (Ok tt) (λ r. (r >>= λ _. nothing_in 3 rest >>= λ _. Ok n) ≡ Err error → IsTold (NumberOnly 1 64) 1 (word ∷ rest) error ⊎ ⊥)
    (λ b f.
    let many = ltb-true 64 n b in
    let same : faults.TooMany what.Targets ≡ error = cc in
    inl (subst (λ (x : LineError). IsTold (NumberOnly 1 64) 1 (word ∷ rest) x) same
    (0, refl, here (NumberOnly 1 64) word rest (some_number 1 64 (omega arith) (omega arith)) (λ more h. other_number 1 64 n word more (omega arith) (omega (arith, most)) t.2 (λ w. let high = w.1 in omega (arith, high, many)) h))))
    (λ b f. inl (behind_number 1 64 n word rest error t.0 (ltb-false 64 n b) t.2 (last_told 2 3 rest n error (λ ws f. (0, refl, f)) f))) g))

pub client_told : (next : ℕ) (words : Words) (error : LineError) → next < 2 ^ 64 → client_line next words ≡ Err error → IsTold (Fit (Number next next ∷ [])) 1 words error
client_told next words error small e =
    let some = some_number next next (omega arith) small in
    told_only
    (next_told ⊥ (NumberOnly next next) 1 (causes.BadNumber 2) (number_from 0 (2 ^ 64 - 1)) words _ error some (no_number next next)
    (λ word none more h. not_number next next 0 (2 ^ 64 - 1) word more small (omega arith) (omega arith) (omega (arith, small)) none h) (λ ws f. (0, refl, f)) e
    (λ word n rest whole is g.
    let t = from_takes 0 (2 ^ 64 - 1) word n is in
    let most = t.1 in
    cond_both {A = Result (Unit {0}) LineError} (eqb n next) (Ok tt) (Err (faults.Bad causes.Misplaced)) (λ r. (r >>= λ _. nothing_in 3 rest) ≡ Err error → IsTold (NumberOnly next next) 1 (word ∷ rest) error ⊎ ⊥)
    (λ b f. let is_next = eqb-true n next b in inl (behind_number next next n word rest error (omega (arith, is_next)) (omega (arith, is_next)) t.2 (end_told 2 3 rest error (λ ws f. (0, refl, f)) f)))
    (λ b f.
    let same : faults.Bad causes.Misplaced ≡ error = cc in
    let other : n ≡ next → ⊥ = λ q. (let clash : true ≡ false = sym (eq-eqb n next q) ∙ b in absurd cc) in
    inl (subst (λ (x : LineError). IsTold (NumberOnly next next) 1 (word ∷ rest) x) same
    (inr (0, refl, here (NumberOnly next next) word rest some (λ more h. other_number next next n word more small (omega (arith, most)) t.2 (λ w. let low = w.0 in let high = w.1 in other (omega (arith, low, high))) h))))) g))

-- ---- commands

pub read_told : (words : Words) (error : LineError) → read_line words ≡ Err error → IsTold (Fit (Name ∷ Number 0 268435456 ∷ Number 1 1048576 ∷ [])) 1 words error
read_told words error e =
    slot_told Name (Number 0 268435456 ∷ Number 1 1048576 ∷ []) 1 (causes.BadName 2) name_of words _ error (tt, ((omega arith, omega arith), ((omega arith, omega arith), tt))) name_reader (λ ws f. (0, refl, f)) e (λ x rest g.
    slot_told (Number 0 268435456) (Number 1 1048576 ∷ []) 2 (causes.BadNumber 3) (number_from 0 268435456) rest _ error ((omega arith, omega arith), ((omega arith, omega arith), tt)) (number_reader 0 268435456 (omega arith)) (λ ws f. (0, refl, f)) g (λ y more h.
    slot_told (Number 1 1048576) [] 3 (causes.BadNumber 4) (number_from 1 1048576) more _ error ((omega arith, omega arith), tt) (number_reader 1 1048576 (omega arith)) (λ ws f. (0, refl, f)) h (λ z last k.
    last_told 4 5 last _ error (λ ws f. (0, refl, f)) k)))

pub write_told : (words : Words) (error : LineError) → write_line words ≡ Err error → IsTold (Fit (Name ∷ Number 0 (2 ^ 40) ∷ Runs ∷ [])) 1 words error
write_told words error e =
    slot_told Name (Number 0 (2 ^ 40) ∷ Runs ∷ []) 1 (causes.BadName 2) name_of words _ error (tt, ((omega arith, omega arith), (tt, tt))) name_reader (λ ws f. (0, refl, f)) e (λ x rest g.
    slot_told (Number 0 (2 ^ 40)) (Runs ∷ []) 2 (causes.BadNumber 3) (number_from 0 (2 ^ 40)) rest _ error ((omega arith, omega arith), (tt, tt)) (number_reader 0 (2 ^ 40) (omega arith)) (λ ws f. (0, refl, f)) g (λ y more h.
    slot_told Runs [] 3 (causes.BadBytes 4) (bytes_from 1 1048576) more _ error (tt, tt) runs_reader (λ ws f. (0, refl, f)) h (λ z last k.
    last_told 4 5 last _ error (λ ws f. (0, refl, f)) k)))

pub truncate_told : (words : Words) (error : LineError) → truncate_line words ≡ Err error → IsTold (Fit (Name ∷ Number 0 (2 ^ 40) ∷ [])) 1 words error
truncate_told words error e =
    slot_told Name (Number 0 (2 ^ 40) ∷ []) 1 (causes.BadName 2) name_of words _ error (tt, ((omega arith, omega arith), tt)) name_reader (λ ws f. (0, refl, f)) e (λ x rest g.
    slot_told (Number 0 (2 ^ 40)) [] 2 (causes.BadNumber 3) (number_from 0 (2 ^ 40)) rest _ error ((omega arith, omega arith), tt) (number_reader 0 (2 ^ 40) (omega arith)) (λ ws f. (0, refl, f)) g (λ y last k.
    last_told 3 4 last _ error (λ ws f. (0, refl, f)) k))

pub evict_told : (words : Words) (error : LineError) → evict_line words ≡ Err error → IsTold (Fit (Number 0 (2 ^ 64 - 1) ∷ [])) 1 words error
evict_told words error e =
    slot_told (Number 0 (2 ^ 64 - 1)) [] 1 (causes.BadNumber 2) (number_from 0 (2 ^ 64 - 1)) words _ error ((omega arith, omega arith), tt) (number_reader 0 (2 ^ 64 - 1) (omega arith)) (λ ws f. (0, refl, f)) e
    (λ y last k. last_told 2 3 last _ error (λ ws f. (0, refl, f)) k)

pub rot_told : (targets : ℕ) (words : Words) (error : LineError) → 1 ≤ targets → targets ≤ 64 → rot_line targets words ≡ Err error → IsTold (Fit (Object targets ∷ Number 0 268435455 ∷ Byte ∷ [])) 1 words error
rot_told targets words error some few e =
    slot_told (Object targets) (Number 0 268435455 ∷ Byte ∷ []) 1 (causes.BadNumber 2) (read_object targets) words _ error ((some, few), ((omega arith, omega arith), (tt, tt))) (object_reader targets few) (λ ws f. (0, refl, f)) e (λ x rest g.
    slot_told (Number 0 268435455) (Byte ∷ []) 2 (causes.BadNumber 3) (number_from 0 268435455) rest _ error ((omega arith, omega arith), (tt, tt)) (number_reader 0 268435455 (omega arith)) (λ ws f. (0, refl, f)) g (λ y more h.
    slot_told Byte [] 3 (causes.BadBytes 4) hex_byte more _ error (tt, tt) byte_reader (λ ws f. (0, refl, f)) h (λ z last k.
    last_told 4 5 last _ error (λ ws f. (0, refl, f)) k)))

-- ---- calls that fail

-- a kind and no more words
pub kind_told : (from place : ℕ) {B : Type 0} (words : Words) (f : FailKind × Words → Result B LineError) (error : LineError) → Blames (Fit (Kind ∷ [])) from (faults.Bad (causes.UnknownWord place)) → kind_in place words >>= f ≡ Err error
    → ((kind : FailKind) (rest : Words) → f (kind, rest) ≡ Err error → IsTold (Fit []) (suc from) rest error) → IsTold (Fit (Kind ∷ [])) from words error
kind_told from place words f error blames e k = slot_told Kind [] from (causes.UnknownWord place) kind_of words f error (tt, tt) kind_reader blames e k

pub fit_kind : (words : Words) → Fit (Kind ∷ []) words → (kind : FailKind) × (words ≡ kind_word kind ∷ [])
fit_kind words h = (h.3.0, h.2 ∙ ap (λ (ws : Words). h.0 ∷ ws) h.4 ∙ ap (λ (w : List ℕ). w ∷ []) h.3.1)

pub kind_fits : (kind : FailKind) (words : Words) → words ≡ kind_word kind ∷ [] → Fit (Kind ∷ []) words
kind_fits kind words e = (kind_word kind, [], e, (kind, refl), refl)

-- CALL KIND
abbrev CallKind : ℕ → List Fail → Words → Type 0
CallKind target fails words = (call : ℕ) × (kind : FailKind) × (1 ≤ call) × (call < 2 ^ 32) × (is_listed fails target call call ≡ false) × (words ≡ decimal call ∷ kind_word kind ∷ [])

some_call : (target : ℕ) (fails : List Fail) → length fails ≤ 4096 → Begins (CallKind target fails) []
some_call target fails few =
    let free = free_call target 4097 fails (omega arith) in
    let high = free.high in
    (decimal free.call ∷ kind_word kinds.Lost ∷ [], (free.call, kinds.Lost, free.low, omega (arith, high), free.free, refl))

some_fail : (targets : ℕ) (fails : List Fail) → 1 ≤ targets → length fails ≤ 4096 → Begins (IsOneFail targets fails) []
some_fail targets fails some few =
    let c = some_call 0 fails few in
    let k : CallKind 0 fails c.0 = c.1 in
    (decimal 0 ∷ c.0, (0, k.0, k.1, omega arith, k.2, k.3, k.4, ap (λ (ws : Words). decimal 0 ∷ ws) k.5))

no_fail : (targets : ℕ) (fails : List Fail) → IsOneFail targets fails [] → ⊥
no_fail targets fails h = let e : [] ≡ decimal h.0 ∷ decimal h.1 ∷ kind_word h.2 ∷ [] = h.7 in absurd cc

no_call : (target : ℕ) (fails : List Fail) → CallKind target fails [] → ⊥
no_call target fails h = let e : [] ≡ decimal h.0 ∷ kind_word h.1 ∷ [] = h.5 in absurd cc

not_target : (targets : ℕ) (fails : List Fail) (word : List ℕ) (more : Words) → targets ≤ 64 → number_from 0 (targets - 1) word ≡ None → IsOneFail targets fails (word ∷ more) → ⊥
not_target targets fails word more few none h =
    let lt = h.3 in
    not_read 0 (targets - 1) word h.0 (omega arith) (omega arith) (omega (arith, lt)) (head_same word (decimal h.0) more _ h.7).0 none

not_call : (target : ℕ) (fails : List Fail) (word : List ℕ) (more : Words) → number_from 1 (2 ^ 32 - 1) word ≡ None → CallKind target fails (word ∷ more) → ⊥
not_call target fails word more none h =
    let high = h.3 in
    not_read 1 (2 ^ 32 - 1) word h.0 (omega arith) h.2 (omega (arith, high)) (head_same word (decimal h.0) more _ h.5).0 none

fail_behind : (targets target : ℕ) (fails : List Fail) (word : List ℕ) (ys : Words) → targets ≤ 64 → target < targets → word ≡ decimal target → IsOneFail targets fails (word ∷ ys) → CallKind target fails ys
fail_behind targets target fails word ys few lt e h =
    let parts = head_same word (decimal h.0) ys _ h.7 in
    let below = h.3 in
    let same = one_number word h.0 target (omega (arith, below)) (omega (arith, lt)) parts.0 e in
    (h.1, h.2, h.4, h.5, subst (λ (t : ℕ). is_listed fails t h.1 h.1 ≡ false) same h.6, parts.1)

fail_on : (targets target : ℕ) (fails : List Fail) (word : List ℕ) (ys : Words) → target < targets → word ≡ decimal target → CallKind target fails ys → IsOneFail targets fails (word ∷ ys)
fail_on targets target fails word ys lt e h =
    (target, h.0, h.1, lt, h.2, h.3, h.4, ap (λ (w : List ℕ). w ∷ ys) e ∙ ap (λ (ws : Words). decimal target ∷ ws) h.5)

other_call : (target call : ℕ) (fails : List Fail) (word : List ℕ) (more : Words) → call < 2 ^ 64 → word ≡ decimal call → is_listed fails target call call ≡ true → CallKind target fails (word ∷ more) → ⊥
other_call target call fails word more small e listed h =
    let parts = head_same word (decimal h.0) more _ h.5 in
    let high = h.3 in
    let same = one_number word h.0 call (omega (arith, high)) small parts.0 e in
    let free : is_listed fails target call call ≡ false = subst (λ (c : ℕ). is_listed fails target c c ≡ false) same h.4 in
    let clash : true ≡ false = sym listed ∙ free in absurd cc

call_on : (target call : ℕ) (fails : List Fail) (word : List ℕ) (ys : Words) → 1 ≤ call → call < 2 ^ 32 → word ≡ decimal call → is_listed fails target call call ≡ false → Fit (Kind ∷ []) ys → CallKind target fails (word ∷ ys)
call_on target call fails word ys low high e free h =
    let k = fit_kind ys h in
    (call, k.0, low, high, free, ap (λ (w : List ℕ). w ∷ ys) e ∙ ap (λ (ws : Words). decimal call ∷ ws) k.1)

call_behind : (target : ℕ) (fails : List Fail) (word : List ℕ) (ys : Words) → CallKind target fails (word ∷ ys) → Fit (Kind ∷ []) ys
call_behind target fails word ys h = kind_fits h.1 ys (head_same word (decimal h.0) ys _ h.5).1

-- the words behind `fail` of version 1, where one more call may be listed
abbrev pub one_rest : ℕ → List Fail → Words → Result (List Fail) LineError
one_rest targets fails words =
    number_in 2 0 (targets - 1) words >>= λ target. number_in 3 1 (2 ^ 32 - 1) target.1 >>= λ call.
    unlisted fails target.0 call.0 call.0 >>= λ _. kind_in 4 call.1 >>= λ kind.
    nothing_in 5 kind.1 >>= λ _. Ok (fails ++ fails_from target.0 call.0 kind.0 1)

call_told : (target : ℕ) (fails : List Fail) (words : Words) (error : LineError) → length fails ≤ 4096
    → (number_in 3 1 (2 ^ 32 - 1) words >>= λ call. unlisted fails target call.0 call.0 >>= λ _. kind_in 4 call.1 >>= λ kind. nothing_in 5 kind.1 >>= λ _. Ok (fails ++ fails_from target call.0 kind.0 1)) ≡ Err error → IsTold (CallKind target fails) 2 words error
call_told target fails words error few e =
    let some = some_call target fails few in
    told_only
    (next_told ⊥ (CallKind target fails) 2 (causes.BadNumber 3) (number_from 1 (2 ^ 32 - 1)) words _ error some (no_call target fails) (λ word none more h. not_call target fails word more none h) (λ ws f. (0, refl, f)) e
    (λ word call rest whole is g.
    let t = from_takes 1 (2 ^ 32 - 1) word call is in
    let high = t.1 in
    cond_both {A = Result (Unit {0}) LineError} (is_listed fails target call call) (Err (faults.Bad (causes.Repeated 3))) (Ok tt)
    (λ r. (r >>= λ _. kind_in 4 rest >>= λ kind. nothing_in 5 kind.1 >>= λ _. Ok (fails ++ fails_from target call kind.0 1)) ≡ Err error → IsTold (CallKind target fails) 2 (word ∷ rest) error ⊎ ⊥)
    (λ b f.
    let same : faults.Bad (causes.Repeated 3) ≡ error = cc in
    inl (subst (λ (x : LineError). IsTold (CallKind target fails) 2 (word ∷ rest) x) same (0, refl, here (CallKind target fails) word rest some (λ more h. other_call target call fails word more (omega (arith, high)) t.2 b h))))
    (λ b f. inl (told_behind (CallKind target fails) (Fit (Kind ∷ [])) 2 word rest error (λ ys h. call_on target call fails word ys t.0 (omega (arith, high)) t.2 b h) (λ ys h. call_behind target fails word ys h)
    (kind_told 3 4 rest _ error (λ ws f. (0, refl, f)) f (λ kind last k. last_told 4 5 last _ error (λ ws f. (0, refl, f)) k)))) g))

pub one_told : (targets : ℕ) (fails : List Fail) (words : Words) (error : LineError) → 1 ≤ targets → targets ≤ 64 → length fails ≤ 4096 → one_rest targets fails words ≡ Err error → IsTold (IsOneFail targets fails) 1 words error
one_told targets fails words error low high few e =
    told_only
    (next_told ⊥ (IsOneFail targets fails) 1 (causes.BadNumber 2) (number_from 0 (targets - 1)) words _ error (some_fail targets fails low few) (no_fail targets fails) (λ word none more h. not_target targets fails word more high none h) (λ ws f. (0, refl, f)) e
    (λ word target rest whole is g.
    let t = from_takes 0 (targets - 1) word target is in
    let below = t.1 in
    let lt : target < targets = omega (arith, below, low) in
    inl (told_behind (IsOneFail targets fails) (CallKind target fails) 1 word rest error (λ ys h. fail_on targets target fails word ys lt t.2 h) (λ ys h. fail_behind targets target fails word ys high lt t.2 h) (call_told target fails rest error few g))))
