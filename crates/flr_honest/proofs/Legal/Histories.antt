-- A legal history stays legal with one more call that is allowed, and where a call of it ends.
use Rattle.std.proofs.Common.{◌≡◌, ℕ, Bool, true, false, cond, List, [], ◌∷◌, ◌++◌, length, map, Option, Some, None, refl, sym, ap, ◌∙◌, subst, arith}
use Rattle.std.specs.Prelude.{◌==◌, ◌&&◌}
use Rattle.std.specs.List.{AllByRecursion}
use Rattle.std.proofs.lemmas.List.{append-nil, append_assoc}
use Rattle.flr_base.proofs.Lists.{all_append}
use Rattle.flr_base.specs.declared.reply.Entry.{Entry}
use Rattle.flr_base.specs.declared.reply.Reply.{Reply}
use Rattle.script_values.specs.declared.command.Command.{Command}
use Rattle.script_values.specs.Scripts.{ScriptView}
use Rattle.flr_steps.specs.Reports.{command_of}
use Rattle.flr_steps.specs.States.{closed}
use Rattle.flr_steps.specs.Traces.{Past}
use Rattle.plain_files.specs.Effects.{Allows, effect}
use Rattle.plain_files.specs.Files.{Plain}
use Rattle.plain_files.specs.Histories.{Answered, AnswersIts, IsLegal, store_after, store_by}
use Rattle.flr_claims.specs.Runs.{answered_calls, with_command}
use Rattle.flr_claims.specs.Sending.{sent_of}

-- ---- two parts of a history

legal_joined : (xs ys : List Answered) (store : List Plain) → IsLegal store xs → IsLegal (store_after store xs) ys → IsLegal store (xs ++ ys)
legal_joined [] ys store a b = b
legal_joined (x ∷ xs) ys store a b = (a.0, legal_joined xs ys (store_by x store) a.1 b)

legal_parts : (xs ys : List Answered) (store : List Plain) → IsLegal store (xs ++ ys) → IsLegal store xs × IsLegal (store_after store xs) ys
legal_parts [] ys store h = (tt, h)
legal_parts (x ∷ xs) ys store h = (let rest = legal_parts xs ys (store_by x store) h.1 in ((h.0, rest.0), rest.1))

-- ---- one more call

-- the new call comes behind the others, where there is a past for each entry
calls_pushed : (script : ScriptView) (e : Entry) (p : Past) (es : List Entry) (ps : List Past) → length ps ≡ length es → answered_calls script (es ++ e ∷ []) (ps ++ p ∷ []) ≡ answered_calls script es ps ++ with_command script e p (command_of script e)
calls_pushed script e p [] [] same = append-nil (with_command script e p (command_of script e))
calls_pushed script e p [] (q ∷ ps) same = absurd (cc same)
calls_pushed script e p (x ∷ es) [] same = absurd (cc same)
calls_pushed script e p (x ∷ es) (q ∷ ps) same =
    let front : List Answered = with_command script x q (command_of script x) in
    ap (λ (rest : List Answered). front ++ rest) (calls_pushed script e p es ps (omega (arith, same)))
    ∙ sym (append_assoc front (answered_calls script es ps) (with_command script e p (command_of script e)))

-- a call that is allowed by what those before it left
pub legal_pushed : (script : ScriptView) (e : Entry) (p : Past) (asked : Command) (es : List Entry) (ps : List Past) → length ps ≡ length es → command_of script e ≡ Some asked → Allows asked (store_after [] (answered_calls script es ps)) e.reply
    → IsLegal [] (answered_calls script es ps) → IsLegal [] (answered_calls script (es ++ e ∷ []) (ps ++ p ∷ []))
legal_pushed script e p asked es ps same commanded allowed h =
    let store : List Plain = store_after [] (answered_calls script es ps) in
    let last : IsLegal store (with_command script e p (command_of script e)) = subst (λ (o : Option Command). IsLegal store (with_command script e p o)) (sym commanded) (allowed, tt) in
    subst (IsLegal []) (sym (calls_pushed script e p es ps same)) (legal_joined (answered_calls script es ps) (with_command script e p (command_of script e)) [] h last)

-- ---- a call ends

same_reply : (c place : ℕ) (e : Entry) → (closed c place e).reply ≡ e.reply
same_reply c place e = by ((e.client == c) && (e.last == 0))
  where
    by : (b : Bool) → (cond b (record e { last = place }) e).reply ≡ e.reply
    by true = refl
    by false = refl

same_command : (script : ScriptView) (c place : ℕ) (e : Entry) → command_of script (closed c place e) ≡ command_of script e
same_command script c place e = by ((e.client == c) && (e.last == 0))
  where
    by : (b : Bool) → command_of script (cond b (record e { last = place }) e) ≡ command_of script e
    by true = refl
    by false = refl

-- a call is judged by its answer
one_legal : (script : ScriptView) (e f : Entry) (p : Past) (o : Option Command) (store : List Plain) → e.reply ≡ f.reply → IsLegal store (with_command script e p o) → IsLegal store (with_command script f p o)
one_legal script e f p None store same h = tt
one_legal script e f p (Some asked) store same h = (subst (Allows asked store) same h.0, tt)

one_left : (script : ScriptView) (e f : Entry) (p : Past) (o : Option Command) (store : List Plain) → e.reply ≡ f.reply → store_after store (with_command script e p o) ≡ store_after store (with_command script f p o)
one_left script e f p None store same = refl
one_left script e f p (Some asked) store same = ap (λ (answer : Reply). effect asked (sent_of script.fails p) answer store) same

pub legal_closed : (script : ScriptView) (c place : ℕ) (es : List Entry) (ps : List Past) (store : List Plain) → IsLegal store (answered_calls script es ps) → IsLegal store (answered_calls script (map (closed c place) es) ps)
legal_closed script c place [] ps store h = h
legal_closed script c place (e ∷ es) [] store h = h
legal_closed script c place (e ∷ es) (p ∷ ps) store h =
    let f : Entry = closed c place e in
    let old : List Answered = with_command script e p (command_of script e) in
    let new : List Answered = with_command script f p (command_of script f) in
    let parts = legal_parts old (answered_calls script es ps) store h in
    let same : f.reply ≡ e.reply = same_reply c place e in
    let again : command_of script f ≡ command_of script e = same_command script c place e in
    let here : IsLegal store new = subst (λ (o : Option Command). IsLegal store (with_command script f p o)) (sym again) (one_legal script e f p (command_of script e) store (sym same) parts.0) in
    let left : store_after store new ≡ store_after store old = ap (λ (o : Option Command). store_after store (with_command script f p o)) again ∙ one_left script f e p (command_of script e) store same in
    legal_joined new (answered_calls script (map (closed c place) es) ps) store here
    (subst (λ (st : List Plain). IsLegal st (answered_calls script (map (closed c place) es) ps)) (sym left) (legal_closed script c place es ps (store_after store old) parts.1))

-- ---- each entry is a call

-- the entry answers a command of the script
abbrev pub HasIts : ScriptView → Entry → Type 0
HasIts script e = (asked : Command) × (command_of script e ≡ Some asked)

pub its_pushed : (script : ScriptView) (e : Entry) (es : List Entry) → AllByRecursion (HasIts script) es → HasIts script e → AllByRecursion (HasIts script) (es ++ e ∷ [])
its_pushed script e es all one = all_append (HasIts script) es (e ∷ []) all (one, tt)

pub its_closed : (script : ScriptView) (c place : ℕ) (es : List Entry) → AllByRecursion (HasIts script) es → AllByRecursion (HasIts script) (map (closed c place) es)
its_closed script c place [] all = tt
its_closed script c place (e ∷ es) all = ((all.0.0, same_command script c place e ∙ all.0.1), its_closed script c place es all.1)

-- none is lost
pub entries_are : (script : ScriptView) (es : List Entry) (ps : List Past) → length ps ≡ length es → AllByRecursion (HasIts script) es → map (λ (a : Answered). a.entry) (answered_calls script es ps) ≡ es
entries_are script [] [] same all = refl
entries_are script [] (p ∷ ps) same all = absurd (cc same)
entries_are script (e ∷ es) [] same all = absurd (cc same)
entries_are script (e ∷ es) (p ∷ ps) same all =
    ap (λ (o : Option Command). map (λ (a : Answered). a.entry) (with_command script e p o ++ answered_calls script es ps)) all.0.1
    ∙ ap (λ (rest : List Entry). e ∷ rest) (entries_are script es ps (omega (arith, same)) all.1)

-- and each answers its command
one_answers : (script : ScriptView) (e : Entry) (p : Past) (o : Option Command) → command_of script e ≡ o → AllByRecursion (AnswersIts script) (with_command script e p o)
one_answers script e p None is = tt
one_answers script e p (Some asked) is = (is, tt)

pub all_answer : (script : ScriptView) (es : List Entry) (ps : List Past) → AllByRecursion (AnswersIts script) (answered_calls script es ps)
all_answer script [] ps = tt
all_answer script (e ∷ es) [] = tt
all_answer script (e ∷ es) (p ∷ ps) =
    all_append (AnswersIts script) (with_command script e p (command_of script e)) (answered_calls script es ps) (one_answers script e p (command_of script e) refl) (all_answer script es ps)

-- what holds of the images of all items
pub all_unmapped : {A B : Type 0} (f : A → B) (P : B → Type 0) (xs : List A) → AllByRecursion P (map f xs) → AllByRecursion (λ (x : A). P (f x)) xs
all_unmapped f P [] all = tt
all_unmapped f P (x ∷ xs) all = (all.0, all_unmapped f P xs all.1)
