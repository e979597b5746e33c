-- The plain files after a step are those before, changed by the answer that it fixes.
use Rattle.std.proofs.Common.{◌≡◌, ℕ, ◌+◌, ◌-◌, Bool, true, false, List, [], ◌∷◌, ◌++◌, length, map, Option, Some, None, refl, sym, ap, ◌∙◌, subst, arith}
use Rattle.std.specs.Prelude.{◌==◌, ◌&&◌, if◌then◌else◌}
use Rattle.flr_base.specs.declared.reply.Entry.{Entry}
use Rattle.flr_base.specs.declared.reply.Reply.{Reply}
use Rattle.flr_base.specs.declared.reply.Take.{Take}
use Rattle.script_values.specs.declared.command.Command.{Command}
use Rattle.script_values.specs.Scripts.{ScriptView, command_after}
use Rattle.call_steps.specs.Steps.{Outcome, Going, Fixed, Ended, Answered, Blocked}
use Rattle.flr_steps.specs.declared.client.Client.{Client}
use Rattle.flr_steps.specs.declared.client.Running.{Running}
use Rattle.flr_steps.specs.Clients.{call_now, entry, first_now}
use Rattle.flr_steps.specs.Reports.{command_of}
use Rattle.flr_steps.specs.Runs.{doing_after}
use Rattle.flr_steps.specs.States.{State, closed, place_in}
use Rattle.flr_steps.specs.Steps.{LeavesState}
use Rattle.flr_steps.specs.Traces.{Doing, Past, Trace, traced_by}
use Rattle.flr_steps.proofs.TraceLaws.{steps_are_traced}
use Rattle.plain_files.specs.Effects.{effect}
use Rattle.plain_files.specs.Files.{Plain}
use Rattle.plain_files.specs.Histories.{store_after}
use Rattle.plain_files.specs.Histories as histories
use Rattle.flr_claims.specs.Runs.{answered_calls, store_of, with_command}
use Rattle.flr_claims.specs.Sending.{sent_by}
use Rattle.flr_bytes.specs.Laws.{StepsKeepStore, StoreBy}

-- ---- one more answered call

-- the calls behind others work on what those leave
store_appended : (xs ys : List histories.Answered) (store : List Plain) → store_after store (xs ++ ys) ≡ store_after (store_after store xs) ys
store_appended [] ys store = refl
store_appended (x ∷ xs) ys store = store_appended xs ys (histories.store_by x store)

-- the new call comes behind the others, where there is a past for each entry
calls_pushed : (script : ScriptView) (e : Entry) (p : Past) (es : List Entry) (ps : List Past) (store : List Plain) → length ps ≡ length es
    → store_after store (answered_calls script (es ++ e ∷ []) (ps ++ p ∷ [])) ≡ store_after (store_after store (answered_calls script es ps)) (with_command script e p (command_of script e))
calls_pushed script e p [] [] store same = store_appended (with_command script e p (command_of script e)) [] store
calls_pushed script e p [] (q ∷ ps) store same = absurd (cc same)
calls_pushed script e p (x ∷ es) [] store same = absurd (cc same)
calls_pushed script e p (x ∷ es) (q ∷ ps) store same =
    let front : List histories.Answered = with_command script x q (command_of script x) in
    store_appended front (answered_calls script (es ++ e ∷ []) (ps ++ p ∷ [])) store
    ∙ calls_pushed script e p es ps (store_after store front) (omega (arith, same))
    ∙ ap (λ (st : List Plain). store_after st (with_command script e p (command_of script e))) (sym (store_appended front (answered_calls script es ps) store))

-- ---- an answered call ends

-- what a call leaves doesn't change by its end
one_closed : (script : ScriptView) (c place : ℕ) (e : Entry) (p : Past) (b : Bool) (o : Option Command) (store : List Plain) → ((e.client == c) && (e.last == 0)) ≡ b
    → store_after store (with_command script (closed c place e) p o) ≡ store_after store (with_command script e p o)
one_closed script c place e p b None store is = refl
one_closed script c place e p true (Some asked) store is = ap (λ (x : Bool). effect asked (sent_by script.fails p.call p.doing) (if x then record e { last = place } else e).reply store) is
one_closed script c place e p false (Some asked) store is = ap (λ (x : Bool). effect asked (sent_by script.fails p.call p.doing) (if x then record e { last = place } else e).reply store) is

command_closed : (script : ScriptView) (c place : ℕ) (e : Entry) (b : Bool) → ((e.client == c) && (e.last == 0)) ≡ b → command_of script (closed c place e) ≡ command_of script e
command_closed script c place e true is = ap (λ (x : Bool). command_of script (if x then record e { last = place } else e)) is
command_closed script c place e false is = ap (λ (x : Bool). command_of script (if x then record e { last = place } else e)) is

calls_closed : (script : ScriptView) (c place : ℕ) (es : List Entry) (ps : List Past) (store : List Plain) → store_after store (answered_calls script (map (closed c place) es) ps) ≡ store_after store (answered_calls script es ps)
calls_closed script c place [] ps store = refl
calls_closed script c place (e ∷ es) [] store = refl
calls_closed script c place (e ∷ es) (p ∷ ps) store =
    let b : Bool = (e.client == c) && (e.last == 0) in
    let old : List histories.Answered = with_command script e p (command_of script e) in
    let new : List histories.Answered = with_command script (closed c place e) p (command_of script (closed c place e)) in
    let same : store_after store new ≡ store_after store old =
    ap (λ (o : Option Command). store_after store (with_command script (closed c place e) p o)) (command_closed script c place e b refl) ∙ one_closed script c place e p b (command_of script e) store refl in
    store_appended new (answered_calls script (map (closed c place) es) ps) store
    ∙ ap (λ (st : List Plain). store_after st (answered_calls script (map (closed c place) es) ps)) same
    ∙ calls_closed script c place es ps (store_after store old)
    ∙ sym (store_appended old (answered_calls script es ps) store)

-- ---- one step

-- the new entry answers the command that was asked
new_command : (script : ScriptView) (c : ℕ) (client : Client) (asked : Command) (first at last : ℕ) (reply : Reply) (takes : List Take) → command_after script c client.done ≡ Some asked
    → command_of script (entry c client first at last reply takes) ≡ Some asked
new_command script c client asked first at last reply takes e = ap (command_after script c) (let z : client.done + 1 - 1 ≡ client.done = omega arith in z) ∙ e

-- the plain files with one more answered call
store_pushed : (s : State) (old : Trace) (c : ℕ) (client : Client) (asked : Command) (first last : ℕ) (reply : Reply) (takes : List Take) (call : Running) (d : Doing) → length old.answered ≡ length s.entries
    → command_after s.script c client.done ≡ Some asked
    → store_after [] (answered_calls s.script (s.entries ++ entry c client first (place_in s) last reply takes ∷ []) (old.answered ++ record { call = call; doing = d } ∷ [])) ≡ effect asked (sent_by s.script.fails call d) reply (store_of s old)
store_pushed s old c client asked first last reply takes call d beside commanded =
    let e : Entry = entry c client first (place_in s) last reply takes in
    let p : Past = record { call = call; doing = d } in
    calls_pushed s.script e p s.entries old.answered [] beside
    ∙ ap (λ (o : Option Command). store_after (store_of s old) (with_command s.script e p o)) (new_command s.script c client asked first (place_in s) last reply takes commanded)

by_outcome : (s t : State) (old : Trace) (c : ℕ) (client : Client) (asked : Command) (call : Running) (d : Doing) (came : Outcome Running) → length old.answered ≡ length s.entries → command_after s.script c client.done ≡ Some asked
    → LeavesState s c client (first_now client.call (place_in s) client.first) came t → StoreBy s t old (traced_by old c call d came) asked (sent_by s.script.fails call d) came
by_outcome s t old c client asked call d (Going next after) beside commanded left = ap (λ (x : State). store_of x (traced_by old c call d (Going next after))) left
by_outcome s t old c client asked call d (Fixed next reply takes after) beside commanded left =
    ap (λ (x : State). store_of x (traced_by old c call d (Fixed next reply takes after))) left
    ∙ store_pushed s old c client asked (first_now client.call (place_in s) client.first) 0 reply takes call d beside commanded
by_outcome s t old c client asked call d (Ended after) beside commanded left = ap (λ (x : State). store_of x (traced_by old c call d (Ended after))) left ∙ calls_closed s.script c (place_in s) s.entries old.answered []
by_outcome s t old c client asked call d (Answered reply takes after) beside commanded left =
    ap (λ (x : State). store_of x (traced_by old c call d (Answered reply takes after))) left
    ∙ store_pushed s old c client asked (first_now client.call (place_in s) client.first) (place_in s) reply takes call d beside commanded
by_outcome s t old c client asked call d (Blocked holder) beside commanded left = absurd left

-- the plain files after a step are those before it, changed by the answer that is fixed at it
pub steps_keep_store : StepsKeepStore
steps_keep_store s t old new c is traced_so =
    let call : Running = call_now c is.step.client.call is.step.asked in
    let d : Doing = doing_after s t old c is.step.client is.step.asked in
    let same : new ≡ traced_by old c call d is.step.came = traced_so ∙ steps_are_traced s t old c is.step in
    subst (λ (x : Trace). StoreBy s t old x is.step.asked (sent_by s.script.fails call d) is.step.came) (sym same)
    (by_outcome s t old c is.step.client is.step.asked call d is.step.came is.before.beside.entries is.step.commanded is.step.left)
