-- Lines that say a script are read as that script.
use Rattle.std.proofs.Common.{◌≡◌, ℕ, zero, suc, ◌+◌, ◌-◌, ◌^◌, ◌<◌, ◌≤◌, Bool, true, false, cond, ◌&&◌, ◌||◌, eqb, leb, List, [], ◌∷◌, ◌++◌, length, map, Some, Result, Ok, Err, refl, sym, ap, subst, ◌∙◌, arith, append_assoc, add-zero}
use Rattle.std.specs.Prelude.{codes, min}
use Rattle.std.specs.Fmt.{decimal}
use Rattle.std.specs.List.{flat_map, AllByRecursion, IsDistinct}
use Rattle.std.proofs.lemmas.Bool.{lt-ltb, le-ltb, eq-eqb, eqb-true, and_parts, and_from, leb-true, false_from_ne_true}
use Rattle.std.proofs.lemmas.List.{length-append, append-nil}
use Rattle.flr_base.specs.Reading.{after, reads}
use Rattle.flr_base.specs.Runs.{hex, text_of_bytes}
use Rattle.text_words.specs.Pieces.{words_of}
use Rattle.text_words.proofs.Spellings.{from_again}
use Rattle.text_words.specs.Items.{object_text}
use Rattle.lfs_words.specs.declared.command.LfsCommand.{LfsCommand}
use Rattle.lfs_words.specs.Grammar as lfs
use Rattle.lfs_words.specs.Grammar.{Form, SetStripe, GetStripe, Create, Extend, Split, Delete, Resync, Verify, form_words}
use Rattle.lfs_words.specs.Parts.{◌>>=◌}
use Rattle.lfs_words.specs.Reading.{read_of}
use Rattle.lfs_words.proofs.Answering.{again}
use Rattle.object_target.specs.declared.fail.Fail.{Fail}
use Rattle.object_target.specs.declared.fail.FailKind.{FailKind}
use Rattle.object_target.specs.declared.fail.FailKind.TheVariants as kinds
use Rattle.script_values.specs.declared.command.Command.{Command}
use Rattle.script_values.specs.declared.command.Command.TheVariants as commands
use Rattle.script_values.specs.Scripts.{IsFail, is_same_call, all_commands}
use Rattle.script_values.specs.Texts as texts
use Rattle.script_values.proofs.RunWordLaws.{text_again, hex_again}
use Rattle.script_text.specs.declared.error.LineError.{LineError}
use Rattle.script_text.specs.declared.lead.Verb.{Verb}
use Rattle.script_text.specs.declared.lead.Verb.TheVariants as verbs
use Rattle.script_text.specs.declared.lead.Lead.{Lead}
use Rattle.script_text.specs.declared.lead.Lead.TheVariants as leads
use Rattle.script_text.specs.declared.state.Version.{Version}
use Rattle.script_text.specs.declared.state.Version.TheVariants as versions
use Rattle.script_text.specs.declared.state.Head.{Head}
use Rattle.script_text.specs.declared.state.Body.{Body}
use Rattle.script_text.specs.declared.state.Part.{Part}
use Rattle.script_text.specs.declared.state.State.{State}
use Rattle.script_text.specs.declared.state.State.TheVariants as state
use Rattle.script_text.specs.CommandLines.{lfs_by, command_by}
use Rattle.script_text.specs.Grammar.{AreLinesOf, number_words, AreClientLines, FailRange, IsFailRange, calls_of, range_words, fail_words, onto_said, said_in, AreText}
use Rattle.script_text.specs.HeadLines.{client_line, is_listed, unlisted, few_fails, kind_of, fails_from, fail_one_line, fail_range_line}
use Rattle.script_text.specs.Leads.{lead_of, is_comment}
use Rattle.script_text.specs.Slots.{number_in, object_in, byte_in, nothing_in}
use Rattle.script_text.specs.SoFar.{Heard}
use Rattle.script_text.specs.Step.{first_client, next_client, with_command, count_of, few_clients, few_commands, said, words_line, as_text, line_of}
use Rattle.script_text.specs.TextLines.{Line}
use Rattle.script_text.specs.Wholes.{all_of}
use Rattle.script_text.proofs.Together.{all_front, all_back}
use Rattle.script_text.proofs.FailLists.{length-fails_from, all_weaker}
use Rattle.script_text.proofs.Founds.{Words, one_fail, one_from}
use Rattle.script_text.proofs.Keeps.{okay}
use Rattle.script_text.proofs.LeadLaws.{verb_text, verb_again, lead_words}
use Rattle.script_text.proofs.SlotLaws.{bind, object_again}

-- ---- lines of words, one after the other

-- one line that says something
abbrev pub says_one : State → Words → Result State LineError
says_one s [] = Ok s
says_one s (word ∷ words) = said s (lead_of word) (word ∷ words) words

abbrev pub says : State → List Words → Result State LineError
says s [] = Ok s
says s (words ∷ lines) = says_one s words >>= λ t. says t lines

says_bound : (xs ys : List Words) (r : Result State LineError) → ((t : State) → says t (xs ++ ys) ≡ (says t xs >>= λ u. says u ys)) → (r >>= λ t. says t (xs ++ ys)) ≡ (r >>= λ t. says t xs) >>= λ u. says u ys
says_bound xs ys (Ok t) h = h t
says_bound xs ys (Err error) h = refl

says-append : (s : State) (xs ys : List Words) → says s (xs ++ ys) ≡ (says s xs >>= λ t. says t ys)
says-append s [] ys = refl
says-append s (x ∷ xs) ys = says_bound xs ys (says_one s x) (λ t. says-append t xs ys)

pub says_both : (s t u : State) (xs ys : List Words) → says s xs ≡ Ok t → says t ys ≡ Ok u → says s (xs ++ ys) ≡ Ok u
says_both s t u xs ys a b = says-append s xs ys ∙ bind (says s xs) (λ v. says v ys) t (Ok u) a b

pub says_first : (s t u : State) (x : Words) (xs : List Words) → says_one s x ≡ Ok t → says t xs ≡ Ok u → says s (x ∷ xs) ≡ Ok u
says_first s t u x xs a b = bind (says_one s x) (λ v. says v xs) t (Ok u) a b

-- ---- the lines of a text

abbrev placed : State → Result State (ℕ × LineError)
placed s = Ok s

by_said : (at : ℕ) (t : State) (lines : List Line) (rest : List Words) (r : Result State LineError) → ((u : State) → says u rest ≡ Ok t → reads line_of (at + 1) u lines ≡ Ok t) → (r >>= λ u. says u rest) ≡ Ok t
    → after r at (λ u. reads line_of (at + 1) u lines) ≡ Ok t
by_said at t lines rest (Ok u) k e = k u e
by_said at t lines rest (Err error) k e = absurd cc

by_comment : (at : ℕ) (s t : State) (word : List ℕ) (words : Words) (lines : List Line) (rest : List Words) (b : Bool) → ((u : State) → says u rest ≡ Ok t → reads line_of (at + 1) u lines ≡ Ok t)
    → says s (cond {A = List Words} b rest ((word ∷ words) ∷ rest)) ≡ Ok t → after (cond {A = Result State LineError} b (Ok s) (said s (lead_of word) (word ∷ words) words)) at (λ u. reads line_of (at + 1) u lines) ≡ Ok t
by_comment at s t word words lines rest true k e = k s e
by_comment at s t word words lines rest false k e = by_said at t lines rest (said s (lead_of word) (word ∷ words) words) k e

words_read : (at : ℕ) (s t : State) (words : Words) (lines : List Line) (rest : List Words) → ((u : State) → says u rest ≡ Ok t → reads line_of (at + 1) u lines ≡ Ok t) → says s (onto_said words rest) ≡ Ok t
    → after (words_line s words) at (λ u. reads line_of (at + 1) u lines) ≡ Ok t
words_read at s t [] lines rest k e = k s e
words_read at s t (word ∷ words) lines rest k e = by_comment at s t word words lines rest (is_comment word) k e

line_read : (at : ℕ) (s t : State) (line : Line) (lines : List Line) (rest : List Words) → as_text line ≡ Ok tt → ((u : State) → says u rest ≡ Ok t → reads line_of (at + 1) u lines ≡ Ok t) → says s (onto_said (words_of line.text) rest) ≡ Ok t
    → reads line_of at s (line ∷ lines) ≡ Ok t
unfolding line_of
line_read at s t line lines rest text k e =
    ap (λ (r : Result (Unit {0}) LineError). after (r >>= λ _. words_line s (words_of line.text)) at (λ u. reads line_of (at + 1) u lines)) text ∙ words_read at s t (words_of line.text) lines rest k e

ap_ok : (s t : State) → okay s ≡ okay t → placed s ≡ placed t
ap_ok s t e = let same : s ≡ t = cc in ap placed same

-- lines are read by what they say
pub all_read : (at : ℕ) (s t : State) (lines : List Line) → AreText lines → says s (said_in lines) ≡ Ok t → reads line_of at s lines ≡ Ok t
all_read at s t [] text e = ap_ok s t e
all_read at s t (line ∷ lines) text e = line_read at s t line lines (said_in lines) text.0 (λ u f. all_read (at + 1) u t lines text.1 f) e

-- ---- commands

abbrev ok_command : Command → Result Command LineError
ok_command command = Ok command

pub lfs_begins : (form : Form) (rest line : Words) → line ≡ form_words form ++ rest → (behind : Words) × (line ≡ codes "lfs" ∷ behind)
lfs_begins SetStripe rest line e = (codes "setstripe" ∷ rest, e)
lfs_begins GetStripe rest line e = (codes "getstripe" ∷ rest, e)
lfs_begins Create rest line e = (codes "mirror" ∷ codes "create" ∷ rest, e)
lfs_begins Extend rest line e = (codes "mirror" ∷ codes "extend" ∷ rest, e)
lfs_begins Split rest line e = (codes "mirror" ∷ codes "split" ∷ rest, e)
lfs_begins Delete rest line e = (codes "mirror" ∷ codes "delete" ∷ rest, e)
lfs_begins Resync rest line e = (codes "mirror" ∷ codes "resync" ∷ rest, e)
lfs_begins Verify rest line e = (codes "mirror" ∷ codes "verify" ∷ rest, e)

lfs_again : (targets most : ℕ) (line : Words) (command : LfsCommand) → lfs.Spells most line command
    → (verb : Verb) × (behind : Words) × (line ≡ verb_text verb ∷ behind) × (command_by targets most verb (verb_text verb ∷ behind) behind ≡ Ok (commands.Lfs command))
lfs_again targets most line command h =
    let read = again most line command h in
    let first = lfs_begins h.2.form h.2.rest line h.2.stand in
    (verbs.Lfs, first.0, first.1, ap lfs_by (ap (read_of most) (sym first.1) ∙ read))

evict_again : (targets most n : ℕ) (line : Words) (client : ℕ) → n < 2 ^ 64 → line ≡ codes "evict" ∷ decimal n ∷ [] → client ≡ min n 255
    → (verb : Verb) × (behind : Words) × (line ≡ verb_text verb ∷ behind) × (command_by targets most verb (verb_text verb ∷ behind) behind ≡ Ok (commands.Evict client))
evict_again targets most n line client small l c =
    (verbs.Evict, decimal n ∷ [], l, rw (from_again 0 (2 ^ 64 - 1) n (omega arith) (omega arith) (omega arith)) (ap (λ (m : ℕ). ok_command (commands.Evict m)) (sym c)))

pub command_again : (targets most : ℕ) (line : Words) (command : Command) → targets ≤ 64 → Heard targets most line command
    → (verb : Verb) × (behind : Words) × (line ≡ verb_text verb ∷ behind) × (command_by targets most verb (verb_text verb ∷ behind) behind ≡ Ok command)
command_again targets most line (commands.Read name offset len) few h =
    let c = h.1 in
    (verbs.Read, name ∷ decimal offset ∷ decimal len ∷ [], h.0, rw (c.0, from_again 0 268435456 offset (omega arith) (omega arith) c.1, from_again 1 1048576 len (omega arith) c.2.0 c.2.1) refl)
command_again targets most line (commands.Write name offset bytes) few h =
    let c = h.1 in
    (verbs.Write, name ∷ decimal offset ∷ text_of_bytes bytes ∷ [], h.0, rw (c.0, from_again 0 (2 ^ 40) offset (omega arith) (omega arith) c.1, text_again 1 1048576 bytes c.3 c.2.0 c.2.1 (omega arith)) refl)
command_again targets most line (commands.Truncate name size) few h =
    let c = h.1 in
    (verbs.Truncate, name ∷ decimal size ∷ [], h.0, rw (c.0, from_again 0 (2 ^ 40) size (omega arith) (omega arith) c.1) refl)
command_again targets most line (commands.Lfs command) few h = lfs_again targets most line command h.0
command_again targets most line (commands.Evict client) few h = evict_again targets most h.0 line client h.1 h.2 h.3
command_again targets most line (commands.Rot object offset byte) few h =
    let c = h.1 in
    let high = c.1 in (
      verbs.Rot,
      object_text object ∷ decimal offset ∷ hex byte ∷ [],
      h.0,
      bind (object_in 2 targets (object_text object ∷ decimal offset ∷ hex byte ∷ [])) (λ o. number_in 3 0 268435455 o.1 >>= λ p. byte_in 4 p.1 >>= λ b. nothing_in 5 b.1 >>= λ u. ok_command (commands.Rot o.0 p.0 b.0)) (object, decimal offset ∷ hex byte ∷ [])
          (Ok (commands.Rot object offset byte)) (object_again 2 targets object (decimal offset ∷ hex byte ∷ []) few c.0.0 c.0.1 c.0.2)
          (rw (from_again 0 268435455 offset (omega arith) (omega arith) (omega arith), hex_again byte c.2) refl),
    )

-- ---- calls that fail

abbrev pub ok_state : State → Result State LineError
ok_state s = Ok s

abbrev ok_fails : List Fail → Result (List Fail) LineError
ok_fails fails = Ok fails

abbrev make_part : Head → List (List Command) → Part
make_part head clients = record { head = head; clients = clients }

part_same : (part : Part) (head : Head) (clients : List (List Command)) → part.head ≡ head → part.clients ≡ clients → part ≡ record { head = head; clients = clients }
part_same part head clients e f = ap (λ (h : Head). make_part h part.clients) e ∙ ap (make_part head) f

pub or_false : {a b : Bool} → a ≡ false → b ≡ false → (a || b) ≡ false
or_false {a} {b} e f = rw (e, f) refl

other_number : (a b : ℕ) → eqb a b ≡ false → a ≡ b → ⊥
other_number a b f e = let t : true ≡ false = sym (eq-eqb a b e) ∙ f in absurd cc

pub kind_again : (kind : FailKind) → kind_of (texts.kind_word kind) ≡ Some kind
kind_again kinds.Refused = refl
kind_again kinds.Lost = refl

-- what is in no later place
distinct_apart : (xs ys : List Fail) → IsDistinct is_same_call (xs ++ ys) → AllByRecursion (λ x. AllByRecursion (λ y. is_same_call x y ≡ false) ys) xs
unfolding IsDistinct
distinct_apart [] ys d = tt
distinct_apart (x ∷ xs) ys d = (all_back (λ y. is_same_call x y ≡ false) xs ys d.0, distinct_apart xs ys d.1)

same_call : (x y : Fail) → x.target ≡ y.target → x.call ≡ y.call → is_same_call x y ≡ true
same_call x y t c = and_from (eqb x.target y.target) (eqb x.call y.call) (eq-eqb x.target y.target t) (eq-eqb x.call y.call c)

-- a call of the range is one of those listed by it
by_last : (x : Fail) (target first : ℕ) (kind : FailKind) (n : ℕ) → AllByRecursion (λ y. is_same_call x y ≡ false) (fails_from target first kind (suc n)) → x.target ≡ target → first ≤ x.call → (b : Bool) → eqb x.call (first + n) ≡ b
    → (AllByRecursion (λ y. is_same_call x y ≡ false) (fails_from target first kind n) → x.call < first + n → ⊥) → x.call < first + suc n → ⊥
by_last x target first kind n h t low true e k high =
    let last = (all_back (λ y. is_same_call x y ≡ false) (fails_from target first kind n) (one_fail target (first + n) kind ∷ []) h).0 in
    let clash : true ≡ false = sym (same_call x (record { target = target; call = first + n; kind = kind }) t (eqb-true x.call (first + n) e)) ∙ last in absurd cc
by_last x target first kind n h t low false e k high =
    k (all_front (λ y. is_same_call x y ≡ false) (fails_from target first kind n) (one_fail target (first + n) kind ∷ []) h) (let ne = other_number x.call (first + n) e in omega (arith, ne))

not_there : (x : Fail) (target first : ℕ) (kind : FailKind) (n : ℕ) → AllByRecursion (λ y. is_same_call x y ≡ false) (fails_from target first kind n) → x.target ≡ target → first ≤ x.call → x.call < first + n → ⊥
not_there x target first kind zero h t low high = omega arith
not_there x target first kind (suc n) h t low high = by_last x target first kind n h t low (eqb x.call (first + n)) refl (λ g less. not_there x target first kind n g t low less) high

unlisted_by : (before : List Fail) (target first last : ℕ) (kind : FailKind) (n : ℕ) → AllByRecursion (λ x. AllByRecursion (λ y. is_same_call x y ≡ false) (fails_from target first kind n)) before → last < first + n → is_listed before target first last ≡ false
unlisted_by [] target first last kind n h within = refl
unlisted_by (x ∷ xs) target first last kind n h within =
    let one : (eqb x.target target && (leb first x.call && leb x.call last)) ≡ false = false_from_ne_true _ (λ t.
    let p = and_parts (eqb x.target target) (leb first x.call && leb x.call last) t in
    let q = and_parts (leb first x.call) (leb x.call last) p.1 in
    let low = leb-true first x.call q.0 in
    let high = leb-true x.call last q.1 in
    not_there x target first kind n h.0 (eqb-true x.target target p.0) low (omega arith)) in
    or_false one (unlisted_by xs target first last kind n h.1 within)

-- calls that are listed once aren't listed before
pub unlisted_again : (before rest : List Fail) (target first last : ℕ) (kind : FailKind) (n : ℕ) → IsDistinct is_same_call (before ++ (fails_from target first kind n ++ rest)) → last < first + n → unlisted before target first last ≡ Ok tt
unlisted_again before rest target first last kind n d within =
    let apart = distinct_apart before (fails_from target first kind n ++ rest) d in
    let none = unlisted_by before target first last kind n (all_weaker _ _ before (λ x g. all_front (λ y. is_same_call x y ≡ false) (fails_from target first kind n) rest g) apart) within in
    rw none refl

few_again : (n : ℕ) → n ≤ 4096 → few_fails n ≡ Ok tt
few_again n h = rw (le-ltb 4096 n h) refl

-- the first and the last call of a range
first_of : (P : Fail → Type 0) (target first : ℕ) (kind : FailKind) (n : ℕ) → AllByRecursion P (fails_from target first kind (suc n)) → P (record { target = target; call = first + 0; kind = kind })
first_of P target first kind zero h = h.0
first_of P target first kind (suc n) h = first_of P target first kind n (all_front P (fails_from target first kind (suc n)) (one_fail target (first + suc n) kind ∷ []) h)

last_of : (P : Fail → Type 0) (target first : ℕ) (kind : FailKind) (n : ℕ) → AllByRecursion P (fails_from target first kind (suc n)) → P (record { target = target; call = first + n; kind = kind })
last_of P target first kind n h = (all_back P (fails_from target first kind n) (one_fail target (first + n) kind ∷ []) h).0

-- the head of a script
abbrev pub head_with : Version → ℕ → ℕ → List Fail → Head
head_with version targets most fails = record { version = version; targets = targets; most = most; fails = fails }

-- what is known of all calls that are listed
pub record AreListed (targets : ℕ) (fails : List Fail) : Type 0 where
  pub targets_few : targets ≤ 64
  pub few : length fails ≤ 4096
  pub each : AllByRecursion (IsFail targets) fails
  pub differ : IsDistinct is_same_call fails

range_line_again : (targets : ℕ) (before rest : List Fail) (r : FailRange) → r.first ≤ r.last → AreListed targets (before ++ (calls_of r ++ rest))
    → fail_range_line targets before (decimal r.target ∷ decimal r.first ∷ decimal r.last ∷ texts.kind_word r.kind ∷ []) ≡ Ok (before ++ calls_of r)
range_line_again targets before rest r some h =
    let m = r.last - r.first in
    let n_is : r.last + 1 - r.first ≡ suc m = omega arith in
    let each = all_front (IsFail targets) (calls_of r) rest (all_back (IsFail targets) before (calls_of r ++ rest) h.each) in
    let by_count : AllByRecursion (IsFail targets) (fails_from r.target r.first r.kind (suc m)) = subst (λ (n : ℕ). AllByRecursion (IsFail targets) (fails_from r.target r.first r.kind n)) n_is each in
    let one = first_of (IsFail targets) r.target r.first r.kind m by_count in
    let other = last_of (IsFail targets) r.target r.first r.kind m by_count in
    let low = one.1 in
    let high = other.2 in
    let target = one.0 in
    let count = length-append before (calls_of r ++ rest) in
    let count_too = length-append (calls_of r) rest in
    let made = length-fails_from r.target r.first r.kind (r.last + 1 - r.first) in
    let few = h.few in
    let small = h.targets_few in
    rw (
      from_again 0 (targets - 1) r.target (omega arith) (omega arith) (omega arith),
      from_again 1 (2 ^ 32 - 1) r.first (omega arith) (omega arith) (omega arith),
      unlisted_again before rest r.target r.first r.first r.kind (r.last + 1 - r.first) h.differ (omega arith),
      from_again r.first (2 ^ 32 - 1) r.last (omega arith) (omega arith) (omega arith),
      few_again (length before + (r.last + 1 - r.first)) (omega (arith, count, count_too, made)),
      unlisted_again before rest r.target r.first r.last r.kind (r.last + 1 - r.first) h.differ (omega arith),
      kind_again r.kind,
    ) refl

one_line_again : (targets : ℕ) (before rest : List Fail) (f : Fail) → AreListed targets (before ++ f ∷ rest) → fail_one_line targets before (decimal f.target ∷ decimal f.call ∷ texts.kind_word f.kind ∷ []) ≡ Ok (before ++ f ∷ [])
one_line_again targets before rest f h =
    let is = (all_back (IsFail targets) before (f ∷ rest) h.each).0 in
    let target = is.0 in
    let low = is.1 in
    let high = is.2 in
    let count = length-append before (f ∷ rest) in
    let few = h.few in
    let small = h.targets_few in
    let once : IsDistinct is_same_call (before ++ (fails_from f.target f.call f.kind 1 ++ rest)) = subst (λ (fs : List Fail). IsDistinct is_same_call (before ++ (fs ++ rest))) (sym (one_from f.target f.call f.kind)) h.differ in
    rw (
      few_again (length before + 1) (omega (arith, count)),
      from_again 0 (targets - 1) f.target (omega arith) (omega arith) (omega arith),
      from_again 1 (2 ^ 32 - 1) f.call (omega arith) (omega arith) (omega arith),
      unlisted_again before rest f.target f.call f.call f.kind 1 once (omega arith),
      kind_again f.kind,
    ) (ap (λ (fs : List Fail). ok_fails (before ++ fs)) (one_from f.target f.call f.kind))

-- a line by what its first word begins
pub lead_says : (s t : State) (lead : Lead) (word : List ℕ) (behind : Words) → lead_of word ≡ lead → said s lead (word ∷ behind) behind ≡ Ok t → says_one s (word ∷ behind) ≡ Ok t
lead_says s t lead word behind l e = ap (λ (x : Lead). said s x (word ∷ behind) behind) l ∙ e

pub ones_again : (targets most : ℕ) (before rest : List Fail) → AreListed targets (before ++ rest) → says (state.Fails (head_with versions.One targets most before)) (map fail_words rest) ≡ Ok (state.Fails (head_with versions.One targets most (before ++ rest)))
ones_again targets most before [] h = ap (λ (fs : List Fail). ok_state (state.Fails (head_with versions.One targets most fs))) (sym (append-nil before))
ones_again targets most before (f ∷ rest) h =
    let assoc : (before ++ f ∷ []) ++ rest ≡ before ++ f ∷ rest = append_assoc before (f ∷ []) rest in
    let line = one_line_again targets before rest f h in
    let s = state.Fails (head_with versions.One targets most before) in
    let u = state.Fails (head_with versions.One targets most (before ++ f ∷ [])) in
    says_first s u (state.Fails (head_with versions.One targets most (before ++ f ∷ rest))) (fail_words f) (map fail_words rest)
    (lead_says s u leads.Fail (codes "fail") (decimal f.target ∷ decimal f.call ∷ texts.kind_word f.kind ∷ []) lead_words.3 (ap (λ (r : Result (List Fail) LineError). r >>= λ fs. ok_state (state.Fails (head_with versions.One targets most fs))) line))
    (ones_again targets most (before ++ f ∷ []) rest (subst (AreListed targets) (sym assoc) h) ∙ ap (λ (fs : List Fail). ok_state (state.Fails (head_with versions.One targets most fs))) assoc)

pub ranges_again : (targets most : ℕ) (before : List Fail) (rs : List FailRange) → AllByRecursion IsFailRange rs → AreListed targets (before ++ flat_map calls_of rs)
    → says (state.Fails (head_with versions.Two targets most before)) (map range_words rs) ≡ Ok (state.Fails (head_with versions.Two targets most (before ++ flat_map calls_of rs)))
ranges_again targets most before [] some h = ap (λ (fs : List Fail). ok_state (state.Fails (head_with versions.Two targets most fs))) (sym (append-nil before))
ranges_again targets most before (r ∷ rs) some h =
    let assoc : (before ++ calls_of r) ++ flat_map calls_of rs ≡ before ++ (calls_of r ++ flat_map calls_of rs) = append_assoc before (calls_of r) (flat_map calls_of rs) in
    let line = range_line_again targets before (flat_map calls_of rs) r some.0 h in
    let s = state.Fails (head_with versions.Two targets most before) in
    let u = state.Fails (head_with versions.Two targets most (before ++ calls_of r)) in
    says_first s u (state.Fails (head_with versions.Two targets most (before ++ (calls_of r ++ flat_map calls_of rs)))) (range_words r) (map range_words rs)
    (lead_says s u leads.Fail (codes "fail") (decimal r.target ∷ decimal r.first ∷ decimal r.last ∷ texts.kind_word r.kind ∷ []) lead_words.3 (ap (λ (q : Result (List Fail) LineError). q >>= λ fs. ok_state (state.Fails (head_with versions.Two targets most fs))) line))
    (ranges_again targets most (before ++ calls_of r) rs some.1 (subst (AreListed targets) (sym assoc) h) ∙ ap (λ (fs : List Fail). ok_state (state.Fails (head_with versions.Two targets most fs))) assoc)

-- ---- clients

commands_room : (n : ℕ) → n < 4096 → few_commands n ≡ Ok tt
commands_room n h = rw (lt-ltb n 4096 h) refl

clients_room : (n : ℕ) → n < 16 → few_clients n ≡ Ok tt
clients_room n h = rw (lt-ltb n 16 h) refl

client_line_again : (next : ℕ) → next < 2 ^ 64 → client_line next (decimal next ∷ []) ≡ Ok tt
client_line_again next small = rw (from_again 0 (2 ^ 64 - 1) next (omega arith) (omega arith) (omega arith), eq-eqb next next refl) refl

abbrev pub with_commands : Body → List Command → Body
with_commands body cs = record { head = body.head; done = body.done; own = body.own ++ cs; commands = body.commands + length cs }

body_same : (body : Body) (own : List Command) (n : ℕ) → own ≡ body.own → n ≡ body.commands → ok_state (state.Commands body) ≡ ok_state (state.Commands (record { head = body.head; done = body.done; own = own; commands = n }))
body_same body own n e f = rw (e, f) refl

command_line_again : (body : Body) (line : Words) (command : Command) → body.head.targets ≤ 64 → Heard body.head.targets body.head.most line command → body.commands < 4096 → says_one (state.Commands body) line ≡ Ok (state.Commands (with_command body command))
command_line_again body line command few h room =
    let k = command_again body.head.targets body.head.most line command few h in
    let s = state.Commands body in
    let t = state.Commands (with_command body command) in
    let one : says_one s (verb_text k.0 ∷ k.1) ≡ Ok t =
    lead_says s t (leads.Command k.0) (verb_text k.0) k.1 (verb_again k.0)
    (ap (λ (r : Result (Unit {0}) LineError). r >>= λ _. command_by body.head.targets body.head.most k.0 (verb_text k.0 ∷ k.1) k.1 >>= λ x. ok_state (state.Commands (with_command body x))) (commands_room body.commands room)
    ∙ ap (λ (r : Result Command LineError). r >>= λ x. ok_state (state.Commands (with_command body x))) k.3) in
    ap (says_one s) k.2 ∙ one

commands_again : (body : Body) (lines : List Words) (cs : List Command) → body.head.targets ≤ 64 → AreLinesOf (Heard body.head.targets body.head.most) lines cs → body.commands + length cs ≤ 4096 → says (state.Commands body) lines ≡ Ok (state.Commands (with_commands body cs))
commands_again body lines [] few l room =
    ap (says (state.Commands body)) l ∙ body_same body (body.own ++ []) (body.commands + 0) (append-nil body.own) (add-zero body.commands)
commands_again body lines (command ∷ cs) few l room =
    let t = state.Commands (with_commands body (command ∷ cs)) in
    let own : (body.own ++ command ∷ []) ++ cs ≡ body.own ++ command ∷ cs = append_assoc body.own (command ∷ []) cs in
    let count : (body.commands + 1) + length cs ≡ body.commands + length (command ∷ cs) = omega arith in
    let rest = commands_again (with_command body command) l.1 cs few l.4 (omega arith) in
    ap (says (state.Commands body)) l.2 ∙ says_first (state.Commands body) (state.Commands (with_command body command)) t l.0 l.1 (command_line_again body l.0 command few l.3 (omega arith))
    (rest ∙ ap (λ (os : List Command). ok_state (state.Commands (record { head = body.head; done = body.done; own = os; commands = (body.commands + 1) + length cs }))) own
    ∙ ap (λ (n : ℕ). ok_state (state.Commands (record { head = body.head; done = body.done; own = body.own ++ command ∷ cs; commands = n }))) count)

abbrev pub with_clients : Body → List (List Command) → Body
with_clients body [] = body
with_clients body (own ∷ clients) = with_clients (with_commands (next_client body) own) clients

next_again : (body : Body) → count_of body < 16 → says_one (state.Commands body) (number_words (codes "client") (count_of body + 1)) ≡ Ok (state.Commands (next_client body))
next_again body room =
    lead_says (state.Commands body) (state.Commands (next_client body)) leads.Client (codes "client") (decimal (count_of body + 1) ∷ []) lead_words.4
    (ap (λ (r : Result (Unit {0}) LineError). r >>= λ _. client_line (count_of body + 1) (decimal (count_of body + 1) ∷ []) >>= λ _. ok_state (state.Commands (next_client body))) (clients_room (count_of body) room)
    ∙ ap (λ (r : Result (Unit {0}) LineError). r >>= λ _. ok_state (state.Commands (next_client body))) (client_line_again (count_of body + 1) (omega arith)))

more_again : (body : Body) (number : ℕ) (lines : List Words) (rest : List (List Command)) → body.head.targets ≤ 64 → number ≡ count_of body + 1 → count_of body + length rest ≤ 16 → AreClientLines (Heard body.head.targets body.head.most) number lines rest
    → body.commands + length (all_commands rest) ≤ 4096 → says (state.Commands body) lines ≡ Ok (state.Commands (with_clients body rest))
more_again body number lines [] few n room l total = ap (says (state.Commands body)) l
more_again body number lines (own ∷ rest) few n room l total =
    let count = length-append own (all_commands rest) in
    let done = length-append body.done (body.own ∷ []) in
    let next = next_client body in
    let after_own = with_commands next own in
    let first : number_words (codes "client") number ≡ number_words (codes "client") (count_of body + 1) = ap (number_words (codes "client")) n in
    let whole : lines ≡ number_words (codes "client") (count_of body + 1) ∷ (l.0 ++ l.1) = l.2 ∙ ap (λ (w : Words). w ∷ (l.0 ++ l.1)) first in
    ap (says (state.Commands body)) whole
    ∙ says_first (state.Commands body) (state.Commands next) (state.Commands (with_clients after_own rest)) (number_words (codes "client") (count_of body + 1)) (l.0 ++ l.1) (next_again body (omega arith))
    (says_both (state.Commands next) (state.Commands after_own) (state.Commands (with_clients after_own rest)) l.0 l.1 (commands_again next l.0 own few l.3 (omega (arith, count)))
    (more_again after_own (number + 1) l.1 rest few (omega (arith, done)) (omega (arith, done)) l.4 (omega (arith, count))))

with_all : (body : Body) (rest : List (List Command)) → (with_clients body rest).done ++ (with_clients body rest).own ∷ [] ≡ (body.done ++ body.own ∷ []) ++ rest
with_all body [] = sym (append-nil (body.done ++ body.own ∷ []))
with_all body (own ∷ rest) = with_all (with_commands (next_client body) own) rest ∙ append_assoc (body.done ++ body.own ∷ []) (own ∷ []) rest

with_head : (body : Body) (rest : List (List Command)) → (with_clients body rest).head ≡ body.head
with_head body [] = refl
with_head body (own ∷ rest) = with_head (with_commands (next_client body) own) rest

-- the clients behind a head
pub clients_again : (head : Head) (lines : List Words) (clients : List (List Command)) → head.targets ≤ 64 → length clients ≤ 16 → 1 ≤ length clients → AreClientLines (Heard head.targets head.most) 1 lines clients → length (all_commands clients) ≤ 4096
    → (body : Body) × (says (state.Fails head) lines ≡ Ok (state.Commands body)) × (all_of body ≡ record { head = head; clients = clients })
clients_again head lines [] few small some l total = absurd (omega arith)
clients_again head lines (own ∷ rest) few small some l total =
    let count = length-append own (all_commands rest) in
    let start = first_client head in
    let after_own = with_commands start own in
    let body = with_clients after_own rest in
    let all : body.done ++ body.own ∷ [] ≡ own ∷ rest = with_all after_own rest in
    let same : body.head ≡ head = with_head after_own rest in (
      body,
      ap (says (state.Fails head)) l.2
          ∙ says_first (state.Fails head) (state.Commands start) (state.Commands body) (number_words (codes "client") 1) (l.0 ++ l.1)
          (lead_says (state.Fails head) (state.Commands start) leads.Client (codes "client") (decimal 1 ∷ []) lead_words.4 (ap (λ (r : Result (Unit {0}) LineError). r >>= λ _. ok_state (state.Commands start)) (client_line_again 1 (omega arith))))
          (says_both (state.Commands start) (state.Commands after_own) (state.Commands body) l.0 l.1 (commands_again start l.0 own few l.3 (omega (arith, count)))
          (more_again after_own 2 l.1 rest few refl (omega arith) l.4 (omega (arith, count)))),
      part_same (all_of body) head (own ∷ rest) same all,
    )
