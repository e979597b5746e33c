-- Each step leaves each copy the key of the file that it was told.
use Rattle.std.proofs.Common.{◌≡◌, ℕ, Some, List, length, inl, inr, sym, ap, ◌∙◌, subst, arith}
use Rattle.std.proofs.lemmas.Bool.{cases_eq}
use Rattle.script_values.specs.declared.command.Command.{Command}
use Rattle.script_values.specs.Commands.{IsCommand}
use Rattle.layout_lease.specs.Leases.{KeyView}
use Rattle.meta_server.specs.declared.answers.CopyWhat.{CopyWhat}
use Rattle.meta_server.specs.Files.{MetaView}
use Rattle.meta_server.specs.Outcomes.{Gives, Refuses, Waits}
use Rattle.meta_server.specs.Outcomes as meta
use Rattle.meta_server.specs.Sound.{IsSound}
use Rattle.flr_base.specs.declared.reply.Reply.{Reply}
use Rattle.mirror_admin.specs.OneStep.{one_step}
use Rattle.script_values.specs.declared.command.Command.TheVariants as command
use Rattle.call_steps.specs.Servers.{Servers}
use Rattle.call_steps.specs.Steps.{Outcome, Going, Fixed, Ended, Answered, Blocked, widen}
use Rattle.client_read.specs.Reads.{read_step}
use Rattle.client_write.specs.Truncates.{truncate_step}
use Rattle.client_write.specs.Writes.{write_step}
use Rattle.mirror_verify.specs.Verifies.{verify_step}
use Rattle.resync_copy.specs.declared.phase.CopyAt.{CopyAt}
use Rattle.resync_copy.specs.declared.phase.CopyAt.TheVariants as at
use Rattle.resync_copy.specs.Calls.{CopyView}
use Rattle.resync_copy.specs.Steps.{copy_step}
use Rattle.flr_steps.specs.declared.client.Client.{Client}
use Rattle.flr_steps.specs.declared.client.Note.{Note}
use Rattle.flr_steps.specs.declared.client.Note.TheVariants.{Nothing, Adds, Closes}
use Rattle.flr_steps.specs.declared.client.Running.{Running}
use Rattle.flr_steps.specs.declared.client.Running.TheVariants as running
use Rattle.flr_steps.specs.Clients.{call_now, entry, first_now, going, over}
use Rattle.flr_steps.specs.Commands.{answered_by, at_once, step_of}
use Rattle.flr_steps.specs.States.{State, client_at, place_in, start, stepped}
use Rattle.flr_steps.specs.Steps.{LeavesState}
use Rattle.flr_steps.proofs.Inversion.{step_is}
use Rattle.flr_numbers.specs.Sentences.{IsCallOf}
use Rattle.flr_numbers.proofs.Clients.{is_now}
use Rattle.flr_numbers.proofs.Commands.{is_command}
use Rattle.flr_locks.proofs.Runs.{keep_always}
use Rattle.flr_places.proofs.Keeping.{new_other, new_same, some_same}
use Rattle.flr_places.proofs.Runs.{new_at}
use Rattle.flr_behind.proofs.Calls.{both_up, call_follows}
use Rattle.flr_behind.proofs.Commands.{step_leaves}
use Rattle.flr_behind.proofs.Following.{Follows, same}
use Rattle.flr_behind.proofs.Steps.{OnMeta}
use Rattle.flr_bytes.specs.Victims.{IsNamed}
use Rattle.flr_honest.proofs.Stores.Begun.{AtFirst, now_so}
use Rattle.flr_honest.specs.Legal.Laws.{RunsKnowFiles, StartKnowsFiles, StepsKnowFiles}
use Rattle.flr_honest.specs.Legal.Sentences.{CopiesKnowFiles, IsOfItsFile, KnowsItsFile, key_of, our_key}
use Rattle.flr_honest.proofs.Legal.Keys.{OnItsFile, copy_knows}

-- ---- the calls of others

module _ (m new : MetaView) (h : Follows m new) where
  -- a file keeps its name while it is there
  named_still : (name : List ℕ) (key : KeyView) → IsNamed m name key → IsNamed new name key
  named_still name key k = record {
    given = omega (arith, h.next, k.given);
    named = λ f e. (let w = h.files key.file f k.given e in w.name ∙ k.named w.before w.there);
  }

  copy_still : (name : List ℕ) (what : CopyWhat) (a : CopyAt) → IsOfItsFile m name what a → IsOfItsFile new name what a
  copy_still name what at.Begin k = tt
  copy_still name what (at.Copy next) k = (named_still name (key_of next) k.0, k.1)
  copy_still name what (at.Merge next) k = (named_still name (our_key next) k.0, k.1)

  knows_still : (call : Running) → KnowsItsFile m call → KnowsItsFile new call
  knows_still running.Idle k = tt
  knows_still (running.Read r) k = tt
  knows_still (running.Write w) k = tt
  knows_still (running.Truncate t) k = tt
  knows_still (running.Copy c) k = copy_still c.name c.what c.at k
  knows_still (running.Verify v) k = tt

-- ---- its own step

-- the call that goes on knows its file
abbrev pub OnKnown : Outcome Running → Type 0
OnKnown (Going next after) = KnowsItsFile after.meta next
OnKnown (Fixed next answer takes after) = KnowsItsFile after.meta next
OnKnown (Ended after) = Unit {0}
OnKnown (Answered answer takes after) = Unit {0}
OnKnown (Blocked holder) = Unit {0}

known_any : {C : Type 0} (f : C → Running) (o : Outcome C) → ((m : MetaView) (x : C) → KnowsItsFile m (f x)) → OnKnown (widen f o)
known_any f (Going next after) any = any after.meta next
known_any f (Fixed next answer takes after) any = any after.meta next
known_any f (Ended after) any = tt
known_any f (Answered answer takes after) any = tt
known_any f (Blocked holder) any = tt

known_copy : (o : Outcome CopyView) → OnItsFile o → OnKnown (widen running.Copy o)
known_copy (Going next after) k = k
known_copy (Fixed next answer takes after) k = k
known_copy (Ended after) k = tt
known_copy (Answered answer takes after) k = tt
known_copy (Blocked holder) k = tt

-- a command of one step leaves no call
answers : (s : Servers) (o : meta.Outcome Reply) → OnKnown (answered_by s o)
answers s (Gives given after) = tt
answers s (Refuses refusal) = tt
answers s (Waits holder) = tt

once_known : (c place : ℕ) (s : Servers) (asked : Command) → OnKnown (at_once c asked place s)
once_known c place s (command.Read name offset len) = tt
once_known c place s (command.Write name offset bytes) = tt
once_known c place s (command.Truncate name size) = tt
once_known c place s (command.Lfs of) = answers s (one_step c of place s.meta)
once_known c place s (command.Evict other) = tt
once_known c place s (command.Rot object offset byte) = tt

step_known : (c place : ℕ) (s : Servers) → IsSound s.meta → (call : Running) (asked : Command) → KnowsItsFile s.meta call → OnKnown (step_of call c asked place s)
step_known c place s h running.Idle asked k = once_known c place s asked
step_known c place s h (running.Read r) asked k = known_any running.Read (read_step r place s) (λ m x. tt)
step_known c place s h (running.Write w) asked k = known_any running.Write (write_step w place s) (λ m x. tt)
step_known c place s h (running.Truncate t) asked k = known_any running.Truncate (truncate_step t place s) (λ m x. tt)
step_known c place s h (running.Verify v) asked k = known_any running.Verify (verify_step v place s) (λ m x. tt)
step_known c place s h (running.Copy x) asked k = known_copy (copy_step x place s) (copy_knows x s h x.at k)

-- ---- the clients

module _ (s : State) (c : ℕ) (client : Client) (all : CopiesKnowFiles s) (here : client_at s.clients c ≡ Some client) where
  stepped_knows : (new : Client) (after : Servers) (note : Note) → Follows s.shared.meta after.meta → KnowsItsFile after.meta new.call → CopiesKnowFiles (stepped s c new after note)
  stepped_knows new after note follows own d found there = elim (cases_eq d c) as (λ _. KnowsItsFile after.meta found.call) [
    | inl one ↦ (
        let at_c : client_at (stepped s c new after note).clients c ≡ Some found = ap (client_at (stepped s c new after note).clients) (sym one) ∙ there in
        subst (λ (x : Client). KnowsItsFile after.meta x.call) (some_same new found (sym (new_same s.clients c client new here) ∙ at_c)) own
        )
    | inr apart ↦ knows_still s.shared.meta after.meta follows found.call (all d found (sym (new_other s.clients c d client new here apart) ∙ there))
  ]

  left_knows : (first : ℕ) (came : Outcome Running) (t : State) → OnMeta (Follows s.shared.meta) came → OnKnown came → LeavesState s c client first came t → CopiesKnowFiles t
  left_knows first (Going next after) t follows own left = subst CopiesKnowFiles (sym left) (stepped_knows (going client first next) after Nothing follows own)
  left_knows first (Fixed next answer takes after) t follows own left = subst CopiesKnowFiles (sym left) (stepped_knows (going client first next) after (Adds (entry c client first (place_in s) 0 answer takes)) follows own)
  left_knows first (Ended after) t follows own left = subst CopiesKnowFiles (sym left) (stepped_knows (over client first) after Closes follows tt)
  left_knows first (Answered answer takes after) t follows own left = subst CopiesKnowFiles (sym left) (stepped_knows (over client first) after (Adds (entry c client first (place_in s) (place_in s) answer takes)) follows tt)
  left_knows first (Blocked holder) t follows own left = absurd left

-- before its first step no call is a copy that has a key
pub none_at_first : (m : MetaView) (c : ℕ) → AtFirst (KnowsItsFile m) c
none_at_first m c = record { idle = tt; read = λ name offset len. tt; write = λ name offset bytes. tt; truncate = λ name size. tt; copy = λ name what. tt; verify = λ name. tt }

pub steps_know : StepsKnowFiles
steps_know s t c h room all step =
    let client : Client = step.client in
    let m : MetaView = s.shared.meta in
    let good : IsCommand s.script.most s.script.targets (length s.script.clients) step.asked = is_command s.script c client.done step.asked h.script step.commanded in
    let call : Running = call_now c client.call step.asked in
    let is : IsCallOf c call = is_now c s.shared step.asked s.script.most s.script.targets (length s.script.clients) h.script.form.few_mirrors h.script.form.few_clients good client.call (h.clients c client step.here).call in
    let follows = step_leaves (Follows m) c (place_in s) s.shared (record { same = same m; calls = call_follows m h.servers.sound }) (both_up m) call step.asked is in
    let own = now_so (KnowsItsFile m) c step.asked client.call (none_at_first m c) (all c client step.here) in
    left_knows s c client all step.here (first_now client.call (place_in s) client.first) step.came t
    (subst (λ (o : Outcome Running). OnMeta (Follows m) o) step.made follows)
    (subst OnKnown step.made (step_known c (place_in s) s.shared h.servers.sound call step.asked own)) step.left

-- before any step
pub start_knows : StartKnowsFiles
start_knows script c client e = subst (λ (x : Client). KnowsItsFile (start script).shared.meta x.call) (sym (new_at (length script.clients) c client e)) tt

-- every run for whose steps there is room
pub runs_know : RunsKnowFiles
runs_know s run leave = keep_always CopiesKnowFiles (λ s t c h room all is. steps_know s t c h room all (step_is s t c is)) s run leave (start_knows s.script)
