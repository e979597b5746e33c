-- First faults in the words behind `fail` of version 2.
use Rattle.std.proofs.Common.{◌≡◌, ℕ, suc, ◌+◌, ◌-◌, ◌^◌, ◌<◌, ◌≤◌, true, false, ◌&&◌, eqb, leb, ltb, List, [], ◌∷◌, ◌++◌, length, None, Result, Ok, Err, refl, sym, ap, subst, ◌∙◌, arith, inl, inr}
use Rattle.std.specs.Prelude.{◌⊎◌}
use Rattle.std.specs.Fmt.{decimal}
use Rattle.std.proofs.lemmas.Bool.{cond_both, and_parts, and_from, leb-true, le-leb, ltb-true, false_from_ne_true}
use Rattle.flr_base.specs.Faults.{Begins}
use Rattle.text_words.specs.Numbers.{number_from}
use Rattle.text_words.proofs.Spellings.{from_takes}
use Rattle.lfs_values.specs.declared.cause.Cause.TheVariants as causes
use Rattle.lfs_words.specs.Parts.{◌>>=◌}
use Rattle.object_target.specs.declared.fail.Fail.{Fail}
use Rattle.object_target.specs.declared.fail.FailKind.{FailKind}
use Rattle.object_target.specs.declared.fail.FailKind.TheVariants as kinds
use Rattle.script_values.specs.Texts.{kind_word}
use Rattle.script_values.specs.declared.what.What.TheVariants as what
use Rattle.script_text.specs.declared.error.LineError.{LineError}
use Rattle.script_text.specs.declared.error.LineError.TheVariants as faults
use Rattle.script_text.specs.declared.state.Head.{Head}
use Rattle.script_text.specs.Grammar.{FailRange}
use Rattle.script_text.specs.HeadLines.{is_listed, unlisted, few_fails, kind_in, fails_from, fail_range_line}
use Rattle.script_text.specs.Slots.{number_in, nothing_in}
use Rattle.script_text.specs.Causes.{IsAt, IsTold, PassesFails}
use Rattle.script_text.specs.Forms.{Kind, Fit, IsFailsRange}
use Rattle.script_text.proofs.Agains.{or_false}
use Rattle.script_text.proofs.FailLists.{or_false as or_parts}
use Rattle.script_text.proofs.FirstFaults.{Words, here, at_behind, told_behind, next_told}
use Rattle.script_text.proofs.FreeCalls.{true_false, free_call}
use Rattle.script_text.proofs.SlotFaults.{head_same}
use Rattle.script_text.proofs.LineFaults.{last_told, one_number, not_read, kind_told, fit_kind, kind_fits}

-- ---- the words behind each

-- LAST KIND
abbrev LastKind : ℕ → ℕ → List Fail → Words → Type 0
LastKind target first fails words = (last : ℕ) × (kind : FailKind) × (first ≤ last) × (last < 2 ^ 32) × (is_listed fails target first last ≡ false) × (words ≡ decimal last ∷ kind_word kind ∷ [])

-- FIRST LAST KIND
abbrev FirstLastKind : ℕ → List Fail → Words → Type 0
FirstLastKind target fails words = (first : ℕ) × (1 ≤ first) × (rest : Words) × (words ≡ decimal first ∷ rest) × LastKind target first fails rest

-- none of a range is listed, so its first isn't
first_free : (fails : List Fail) (target first last : ℕ) → first ≤ last → is_listed fails target first last ≡ false → is_listed fails target first first ≡ false
first_free [] target first last le e = refl
first_free (x ∷ xs) target first last le e =
    let parts = or_parts (eqb x.target target && (leb first x.call && leb x.call last)) (is_listed xs target first last) e in
    let one : (eqb x.target target && (leb first x.call && leb x.call first)) ≡ false = false_from_ne_true _ (λ t.
    let p = and_parts (eqb x.target target) (leb first x.call && leb x.call first) t in
    let q = and_parts (leb first x.call) (leb x.call first) p.1 in
    let high = leb-true x.call first q.1 in
    let yes : (eqb x.target target && (leb first x.call && leb x.call last)) ≡ true = and_from (eqb x.target target) _ p.0 (and_from (leb first x.call) _ q.0 (le-leb x.call last (omega (arith, high, le)))) in
    true_false _ yes parts.0) in
    or_false one (first_free xs target first last le parts.1)

range_of : (targets target : ℕ) (fails : List Fail) (words : Words) → target < targets → FirstLastKind target fails words → IsFailsRange targets fails (decimal target ∷ words)
range_of targets target fails words lt h =
    let r : FailRange = record { target = target; first = h.0; last = h.4.0; kind = h.4.1 } in
    (r, lt, h.1, h.4.2, h.4.3, h.4.4, ap (λ (ws : Words). decimal target ∷ ws) (h.3 ∙ ap (λ (ws : Words). decimal h.0 ∷ ws) h.4.5))

of_range : (targets target : ℕ) (fails : List Fail) (words : Words) → targets ≤ 64 → target < targets → IsFailsRange targets fails (decimal target ∷ words) → FirstLastKind target fails words
of_range targets target fails words few lt h =
    let r = h.0 in
    let parts = head_same (decimal target) (decimal r.target) words _ h.6 in
    let below = h.1 in
    let same = one_number (decimal target) r.target target (omega (arith, below)) (omega (arith, lt)) parts.0 refl in
    (r.first, h.2, decimal r.last ∷ kind_word r.kind ∷ [], parts.1, (r.last, r.kind, h.3, h.4, subst (λ (t : ℕ). is_listed fails t r.first r.last ≡ false) same h.5, refl))

-- ---- there are such words

some_last : (target first : ℕ) (fails : List Fail) → first < 2 ^ 32 → is_listed fails target first first ≡ false → Begins (LastKind target first fails) []
some_last target first fails high free = (decimal first ∷ kind_word kinds.Lost ∷ [], (first, kinds.Lost, omega arith, high, free, refl))

some_first : (target : ℕ) (fails : List Fail) → length fails ≤ 4096 → Begins (FirstLastKind target fails) []
some_first target fails few =
    let free = free_call target 4097 fails (omega arith) in
    let high = free.high in
    let rest = some_last target free.call fails (omega (arith, high)) free.free in
    (decimal free.call ∷ rest.0, (free.call, free.low, rest.0, refl, rest.1))

some_range : (targets : ℕ) (fails : List Fail) → 1 ≤ targets → length fails ≤ 4096 → Begins (IsFailsRange targets fails) []
some_range targets fails some few = let f = some_first 0 fails few in (decimal 0 ∷ f.0, range_of targets 0 fails f.0 (omega arith) f.1)

no_last : (target first : ℕ) (fails : List Fail) → LastKind target first fails [] → ⊥
no_last target first fails h = let e : [] ≡ decimal h.0 ∷ kind_word h.1 ∷ [] = h.5 in absurd cc

no_first : (target : ℕ) (fails : List Fail) → FirstLastKind target fails [] → ⊥
no_first target fails h = let e : [] ≡ decimal h.0 ∷ h.2 = h.3 in absurd cc

no_range : (targets : ℕ) (fails : List Fail) → IsFailsRange targets fails [] → ⊥
no_range targets fails h = let r = h.0 in let e : [] ≡ decimal r.target ∷ decimal r.first ∷ decimal r.last ∷ kind_word r.kind ∷ [] = h.6 in absurd cc

-- ---- words that are none

not_target : (targets : ℕ) (fails : List Fail) (word : List ℕ) (more : Words) → targets ≤ 64 → number_from 0 (targets - 1) word ≡ None → IsFailsRange targets fails (word ∷ more) → ⊥
not_target targets fails word more few none h =
    let r = h.0 in
    let lt = h.1 in
    not_read 0 (targets - 1) word r.target (omega arith) (omega arith) (omega (arith, lt)) (head_same word (decimal r.target) more _ h.6).0 none

not_first : (target : ℕ) (fails : List Fail) (word : List ℕ) (more : Words) → number_from 1 (2 ^ 32 - 1) word ≡ None → FirstLastKind target fails (word ∷ more) → ⊥
not_first target fails word more none h =
    let order = h.4.2 in
    let high = h.4.3 in
    not_read 1 (2 ^ 32 - 1) word h.0 (omega arith) h.1 (omega (arith, order, high)) (head_same word (decimal h.0) more _ h.3).0 none

not_last : (target first : ℕ) (fails : List Fail) (word : List ℕ) (more : Words) → number_from first (2 ^ 32 - 1) word ≡ None → LastKind target first fails (word ∷ more) → ⊥
not_last target first fails word more none h =
    let high = h.3 in
    not_read first (2 ^ 32 - 1) word h.0 (omega arith) h.2 (omega (arith, high)) (head_same word (decimal h.0) more _ h.5).0 none

-- FIRST is listed already
other_first : (target first : ℕ) (fails : List Fail) (word : List ℕ) (more : Words) → first < 2 ^ 64 → word ≡ decimal first → is_listed fails target first first ≡ true → FirstLastKind target fails (word ∷ more) → ⊥
other_first target first fails word more small e listed h =
    let parts = head_same word (decimal h.0) more _ h.3 in
    let order = h.4.2 in
    let high = h.4.3 in
    let same = one_number word h.0 first (omega (arith, order, high)) small parts.0 e in
    let free : is_listed fails target first first ≡ false = subst (λ (c : ℕ). is_listed fails target c c ≡ false) same (first_free fails target h.0 h.4.0 h.4.2 h.4.4) in
    true_false (is_listed fails target first first) listed free

-- a call up to LAST is listed already
other_last : (target first last : ℕ) (fails : List Fail) (word : List ℕ) (more : Words) → last < 2 ^ 64 → word ≡ decimal last → is_listed fails target first last ≡ true → LastKind target first fails (word ∷ more) → ⊥
other_last target first last fails word more small e listed h =
    let parts = head_same word (decimal h.0) more _ h.5 in
    let high = h.3 in
    let same = one_number word h.0 last (omega (arith, high)) small parts.0 e in
    true_false (is_listed fails target first last) listed (subst (λ (l : ℕ). is_listed fails target first l ≡ false) same h.4)

-- ---- from word to word

last_on : (target first last : ℕ) (fails : List Fail) (word : List ℕ) (ys : Words) → first ≤ last → last < 2 ^ 32 → word ≡ decimal last → is_listed fails target first last ≡ false → Fit (Kind ∷ []) ys → LastKind target first fails (word ∷ ys)
last_on target first last fails word ys low high e free h =
    let k = fit_kind ys h in
    (last, k.0, low, high, free, ap (λ (w : List ℕ). w ∷ ys) e ∙ ap (λ (ws : Words). decimal last ∷ ws) k.1)

last_behind : (target first : ℕ) (fails : List Fail) (word : List ℕ) (ys : Words) → LastKind target first fails (word ∷ ys) → Fit (Kind ∷ []) ys
last_behind target first fails word ys h = kind_fits h.1 ys (head_same word (decimal h.0) ys _ h.5).1

first_on : (target first : ℕ) (fails : List Fail) (word : List ℕ) (ys : Words) → 1 ≤ first → word ≡ decimal first → LastKind target first fails ys → FirstLastKind target fails (word ∷ ys)
first_on target first fails word ys low e h = (first, low, ys, ap (λ (w : List ℕ). w ∷ ys) e, h)

first_behind : (target first : ℕ) (fails : List Fail) (word : List ℕ) (ys : Words) → first < 2 ^ 64 → word ≡ decimal first → FirstLastKind target fails (word ∷ ys) → LastKind target first fails ys
first_behind target first fails word ys small e h =
    let parts = head_same word (decimal h.0) ys h.2 h.3 in
    let order = h.4.2 in
    let high = h.4.3 in
    let same = one_number word h.0 first (omega (arith, order, high)) small parts.0 e in
    subst (λ (ws : Words). LastKind target first fails ws) (sym parts.1) (subst (λ (f : ℕ). LastKind target f fails h.2) same h.4)

or_behind : (Sp : Type 0) (L M : Words → Type 0) (from : ℕ) (word : List ℕ) (rest : Words) (error : LineError) → ((ys : Words) → M ys → L (word ∷ ys)) → ((ys : Words) → L (word ∷ ys) → M ys) → IsTold M (suc from) rest error ⊎ Sp → IsTold L from (word ∷ rest) error ⊎ Sp
or_behind Sp L M from word rest error on back (inl h) = inl (told_behind L M from word rest error on back h)
or_behind Sp L M from word rest error on back (inr h) = inr h

-- ---- the line

-- there are too many
abbrev pub Passes : Head → Words → LineError → Type 0
Passes head words error = (error ≡ faults.TooMany what.Fails) × PassesFails head words

-- a call behind FIRST is listed already
abbrev pub Repeats : Head → Words → LineError → Type 0
Repeats head words error = (error ≡ faults.Bad (causes.Repeated 3)) × IsAt (IsFailsRange head.targets head.fails) 1 words 4

abbrev pub Otherwise : Head → Words → LineError → Type 0
Otherwise head words error = Repeats head words error ⊎ Passes head words error

abbrev last_rest : ℕ → ℕ → List Fail → Words → Result (List Fail) LineError
last_rest target first fails words =
    number_in 4 first (2 ^ 32 - 1) words >>= λ last.
    few_fails (length fails + (last.0 + 1 - first)) >>= λ _. unlisted fails target first last.0 >>= λ _. kind_in 5 last.1 >>= λ kind.
    nothing_in 6 kind.1 >>= λ _. Ok (fails ++ fails_from target first kind.0 (last.0 + 1 - first))

abbrev kind_rest : ℕ → ℕ → ℕ → List Fail → Words → Result (List Fail) LineError
kind_rest target first last fails words = kind_in 5 words >>= λ kind. nothing_in 6 kind.1 >>= λ _. Ok (fails ++ fails_from target first kind.0 (last + 1 - first))

last_by : (Sp : Type 0) (target first last : ℕ) (fails : List Fail) (word : List ℕ) (rest : Words) (error : LineError) → (IsAt (LastKind target first fails) 3 (word ∷ rest) 4 → error ≡ faults.Bad (causes.Repeated 3) → Sp) → first < 2 ^ 32 → is_listed fails target first first ≡ false → first ≤ last → last < 2 ^ 32 → word ≡ decimal last
    → (unlisted fails target first last >>= λ _. kind_rest target first last fails rest) ≡ Err error → IsTold (LastKind target first fails) 3 (word ∷ rest) error ⊎ Sp
last_by Sp target first last fails word rest error late small free low high e g =
    cond_both {A = Result (Unit {0}) LineError} (is_listed fails target first last) (Err (faults.Bad (causes.Repeated 3))) (Ok tt) (λ r. (r >>= λ _. kind_rest target first last fails rest) ≡ Err error → IsTold (LastKind target first fails) 3 (word ∷ rest) error ⊎ Sp)
    (λ b f.
    let same : faults.Bad (causes.Repeated 3) ≡ error = cc in
    inr (late (0, refl, here (LastKind target first fails) word rest (some_last target first fails small free) (λ more h. other_last target first last fails word more (omega (arith, high)) e b h)) (sym same)))
    (λ b f. inl (told_behind (LastKind target first fails) (Fit (Kind ∷ [])) 3 word rest error (λ ys h. last_on target first last fails word ys low high e b h) (λ ys h. last_behind target first fails word ys h)
    (kind_told 4 5 rest _ error (λ ws k. (0, refl, k)) f (λ kind last k. last_told 5 6 last _ error (λ ws m. (0, refl, m)) k)))) g

last_told_so : (Sp : Type 0) (target first : ℕ) (fails : List Fail) (words : Words) (error : LineError) → (IsAt (LastKind target first fails) 3 words 4 → error ≡ faults.Bad (causes.Repeated 3) → Sp) → first < 2 ^ 32 → is_listed fails target first first ≡ false
    → ((last : ℕ) (rest : Words) → first ≤ last → last < 2 ^ 32 → words ≡ decimal last ∷ rest → 4096 < length fails + (last + 1 - first) → error ≡ faults.TooMany what.Fails → Sp) → last_rest target first fails words ≡ Err error → IsTold (LastKind target first fails) 3 words error ⊎ Sp
last_told_so Sp target first fails words error late small free many e =
    next_told Sp (LastKind target first fails) 3 (causes.BadNumber 4) (number_from first (2 ^ 32 - 1)) words _ error (some_last target first fails small free) (no_last target first fails) (λ word none more h. not_last target first fails word more none h) (λ ws f. (0, refl, f)) e
    (λ word last rest whole is g.
    let t = from_takes first (2 ^ 32 - 1) word last is in
    let top = t.1 in
    let high : last < 2 ^ 32 = omega (arith, top) in
    cond_both {A = Result (Unit {0}) LineError} (ltb 4096 (length fails + (last + 1 - first))) (Err (faults.TooMany what.Fails)) (Ok tt) (λ r. (r >>= λ _. unlisted fails target first last >>= λ _. kind_rest target first last fails rest) ≡ Err error → IsTold (LastKind target first fails) 3 (word ∷ rest) error ⊎ Sp)
    (λ b f.
    let same : faults.TooMany what.Fails ≡ error = cc in
    inr (many last rest t.0 high (whole ∙ ap (λ (w : List ℕ). w ∷ rest) t.2) (ltb-true 4096 (length fails + (last + 1 - first)) b) (sym same)))
    (λ b f. last_by Sp target first last fails word rest error (λ h is_error. late (subst (λ (ws : Words). IsAt (LastKind target first fails) 3 ws 4) (sym whole) h) is_error) small free t.0 high t.2 f) g)

abbrev first_rest : ℕ → List Fail → Words → Result (List Fail) LineError
first_rest target fails words = number_in 3 1 (2 ^ 32 - 1) words >>= λ first. unlisted fails target first.0 first.0 >>= λ _. last_rest target first.0 fails first.1

first_told_so : (Sp : Type 0) (target : ℕ) (fails : List Fail) (words : Words) (error : LineError) → (IsAt (FirstLastKind target fails) 2 words 4 → error ≡ faults.Bad (causes.Repeated 3) → Sp) → length fails ≤ 4096
    → ((first last : ℕ) (rest : Words) → 1 ≤ first → first ≤ last → last < 2 ^ 32 → is_listed fails target first first ≡ false → words ≡ decimal first ∷ decimal last ∷ rest → 4096 < length fails + (last + 1 - first) → error ≡ faults.TooMany what.Fails → Sp)
    → first_rest target fails words ≡ Err error → IsTold (FirstLastKind target fails) 2 words error ⊎ Sp
first_told_so Sp target fails words error late few many e =
    let some = some_first target fails few in
    next_told Sp (FirstLastKind target fails) 2 (causes.BadNumber 3) (number_from 1 (2 ^ 32 - 1)) words _ error some (no_first target fails) (λ word none more h. not_first target fails word more none h) (λ ws f. (0, refl, f)) e
    (λ word first rest whole is g.
    let t = from_takes 1 (2 ^ 32 - 1) word first is in
    let top = t.1 in
    let high : first < 2 ^ 32 = omega (arith, top) in
    cond_both {A = Result (Unit {0}) LineError} (is_listed fails target first first) (Err (faults.Bad (causes.Repeated 3))) (Ok tt) (λ r. (r >>= λ _. last_rest target first fails rest) ≡ Err error → IsTold (FirstLastKind target fails) 2 (word ∷ rest) error ⊎ Sp)
    (λ b f.
    let same : faults.Bad (causes.Repeated 3) ≡ error = cc in
    inl (subst (λ (x : LineError). IsTold (FirstLastKind target fails) 2 (word ∷ rest) x) same
    (0, refl, here (FirstLastKind target fails) word rest some (λ more h. other_first target first fails word more (omega (arith, high)) t.2 b h))))
    (λ b f. or_behind Sp (FirstLastKind target fails) (LastKind target first fails) 2 word rest error (λ ys h. first_on target first fails word ys t.0 t.2 h) (λ ys h. first_behind target first fails word ys (omega (arith, high)) t.2 h)
    (last_told_so Sp target first fails rest error
    (λ h is_error.
    late (subst (λ (ws : Words). IsAt (FirstLastKind target fails) 2 ws 4) (sym whole)
    (at_behind (FirstLastKind target fails) (LastKind target first fails) 2 word rest 4 (λ ys k. first_on target first fails word ys t.0 t.2 k) (λ ys k. first_behind target first fails word ys (omega (arith, high)) t.2 k) h)) is_error)
    high b
    (λ last more low top same_words count is_error.
    many first last more t.0 low top b (whole ∙ ap (λ (w : List ℕ). w ∷ rest) t.2 ∙ ap (λ (ws : Words). decimal first ∷ ws) same_words) count is_error) f)) g)

-- a line `fail` of version 2
pub range_told : (head : Head) (words : Words) (error : LineError) → 1 ≤ head.targets → head.targets ≤ 64 → length head.fails ≤ 4096 → fail_range_line head.targets head.fails words ≡ Err error
    → IsTold (IsFailsRange head.targets head.fails) 1 words error ⊎ Otherwise head words error
range_told head words error some few short e =
    next_told (Otherwise head words error) (IsFailsRange head.targets head.fails) 1 (causes.BadNumber 2) (number_from 0 (head.targets - 1)) words _ error (some_range head.targets head.fails some short) (no_range head.targets head.fails)
    (λ word none more h. not_target head.targets head.fails word more few none h) (λ ws f. (0, refl, f)) e
    (λ word target rest whole is g.
    let t = from_takes 0 (head.targets - 1) word target is in
    let top = t.1 in
    let lt : target < head.targets = omega (arith, top, some) in
    or_behind (Otherwise head words error) (IsFailsRange head.targets head.fails) (FirstLastKind target head.fails) 1 word rest error
    (λ ys h. subst (λ (w : List ℕ). IsFailsRange head.targets head.fails (w ∷ ys)) (sym t.2) (range_of head.targets target head.fails ys lt h))
    (λ ys h. of_range head.targets target head.fails ys few lt (subst (λ (w : List ℕ). IsFailsRange head.targets head.fails (w ∷ ys)) t.2 h))
    (first_told_so (Otherwise head words error) target head.fails rest error
    (λ h is_error.
    inl (
      is_error,
      subst (λ (ws : Words). IsAt (IsFailsRange head.targets head.fails) 1 ws 4) (sym whole)
          (at_behind (IsFailsRange head.targets head.fails) (FirstLastKind target head.fails) 1 word rest 4
          (λ ys k. subst (λ (w : List ℕ). IsFailsRange head.targets head.fails (w ∷ ys)) (sym t.2) (range_of head.targets target head.fails ys lt k))
          (λ ys k. of_range head.targets target head.fails ys few lt (subst (λ (w : List ℕ). IsFailsRange head.targets head.fails (w ∷ ys)) t.2 k)) h),
    ))
    short
    (λ first last more low order high free same_words count is_error.
    inr (
      is_error,
      record {
        target = target;
        first = first;
        last = last;
        rest = more;
        words_are = whole ∙ ap (λ (w : List ℕ). w ∷ rest) t.2 ∙ ap (λ (ws : Words). decimal target ∷ ws) same_words;
        target_is = lt;
        some = low;
        order = order;
        call_is = high;
        free = free;
        many = count;
      },
    )) g))
