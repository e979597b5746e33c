-- Only a verify answers as one that compared its file.
use Rattle.std.proofs.Common.{◌≡◌, ℕ, ◌-◌, Bool, true, false, Option, Some, None, List, [], ◌∷◌, ◌++◌, length, subst, ◌∙◌, ◌⊎◌, inl, inr}
use Rattle.std.specs.List.{AllByRecursion}
use Rattle.flr_base.specs.declared.reply.Entry.{Entry}
use Rattle.flr_base.specs.declared.reply.Reply.{Reply}
use Rattle.flr_base.specs.declared.reply.Take.{Take}
use Rattle.lfs_words.specs.declared.command.LfsCommand.{LfsCommand}
use Rattle.lfs_words.specs.declared.command.LfsCommand.TheVariants as lfs
use Rattle.lfs_words.specs.declared.command.SplitTo.{SplitTo}
use Rattle.lfs_words.specs.declared.command.SplitTo.TheVariants as split
use Rattle.script_values.specs.declared.command.Command.{Command}
use Rattle.script_values.specs.declared.command.Command.TheVariants as command
use Rattle.meta_server.specs.declared.answers.CopyWhat.{CopyWhat}
use Rattle.meta_server.specs.Files.{File, MetaView, file_named}
use Rattle.meta_server.specs.Outcomes.{Gives, Refuses, Waits}
use Rattle.meta_server.specs.Outcomes as meta
use Rattle.call_steps.specs.Runs.{CallStep}
use Rattle.call_steps.specs.Servers.{Servers}
use Rattle.call_steps.specs.Steps.{Outcome, Going, Fixed, Ended, Answered, Blocked}
use Rattle.client_read.specs.Reads.{read_step}
use Rattle.client_write.specs.Truncates.{truncate_step}
use Rattle.client_write.specs.Writes.{write_step}
use Rattle.mirror_verify.specs.declared.phase.VerifyAt.TheVariants as verify
use Rattle.mirror_verify.specs.Views.{VerifyView}
use Rattle.resync_copy.specs.declared.phase.CopyAt.{CopyAt}
use Rattle.resync_copy.specs.declared.phase.CopyAt.TheVariants as copy
use Rattle.resync_copy.specs.Steps.{copy_step}
use Rattle.flr_steps.specs.declared.client.Running.{Running}
use Rattle.flr_steps.specs.declared.client.Running.TheVariants as running
use Rattle.flr_steps.specs.Clients.{call_now}
use Rattle.flr_steps.specs.Commands.{answered_by, at_once, begun, step_of}
use Rattle.flr_steps.specs.States as states
use Rattle.flr_steps.specs.States.{State, place_in}
use Rattle.flr_steps.proofs.Fronts.{fronts_are_runs}
use Rattle.flr_claims.specs.Calls.{Call}
use Rattle.flr_claims.specs.Claims.{IsVerifiedBy}
use Rattle.flr_asked.specs.CallRuns.{FixesAnswer, StandsIn}
use Rattle.flr_bytes.specs.Runs.{Ground}
use Rattle.flr_runs.proofs.Runs as runs
use Rattle.flr_honest.specs.Entries.{IsEntryOf, claimed}
use Rattle.flr_honest.specs.Legal.Sentences.{IfFixed, IsOfItsFile, KnowsItsFile}
use Rattle.flr_honest.proofs.Grounds.{runs_ground}
use Rattle.flr_honest.proofs.Legal.Keeping.{runs_know}
use Rattle.flr_honest.proofs.Legal.Outcomes.{widened}
use Rattle.flr_honest.specs.VerifyCauses.Sentences.{EachIsVerified, IsLfsVerify, IsVerify}
use Rattle.flr_honest.proofs.VerifyCauses.Answers.{verifies_are_told}
use Rattle.flr_base.specs.declared.reply.Reply.TheVariants as reply
use Rattle.lfs_words.specs.Naming.{default_name}
use Rattle.meta_server.specs.Naming.{creates, removes, sets}
use Rattle.mirror_admin.specs.OneStep.{answered, one_step, shows}
use Rattle.mirror_admin.specs.Rotting.{is_kept, rot_reply}
use Rattle.flr_asked.specs.Sentences.{at_start}
use Rattle.flr_steps.specs.Traces.{Past, trace_after}
use Rattle.flr_honest.proofs.Legal.Keeping.{none_at_first}
use Rattle.flr_honest.proofs.Stores.Begun.{now_of, now_so}
use Rattle.flr_honest.proofs.VerifyCauses.Refusing.{ComparesNone, RefusesPlainly, go_plain, make_plain, set_plain}
use Rattle.flr_honest.proofs.VerifyCauses.Others.{KeepsNone, copy_none, cut_none, read_none, write_none}

-- ---- commands of one step

module _ (c place : ℕ) (s : Servers) where
  by_answer : (success : Reply) → ComparesNone success → (o : meta.Outcome (Unit {0})) → RefusesPlainly o → IfFixed ComparesNone (answered_by s (answered success o))
  by_answer success h (Gives given after) k = h
  by_answer success h (Refuses refusal) k = k
  by_answer success h (Waits holder) k = tt

  by_shown : (name : List ℕ) (o : Option File) → IfFixed ComparesNone (answered_by s (shows name s.meta o))
  by_shown name None = tt
  by_shown name (Some f) = tt

  by_split : (name : List ℕ) (mirror : ℕ) (to : SplitTo) → IfFixed ComparesNone (answered_by s (one_step c (lfs.Split name mirror to) place s.meta))
  by_split name mirror split.Default =
      let new = default_name name mirror in by_answer (reply.Split new) tt (removes c name mirror (Some new) place s.meta) (go_plain c mirror place s.meta name (Some new))
  by_split name mirror (split.Named new) = by_answer (reply.Split new) tt (removes c name mirror (Some new) place s.meta) (go_plain c mirror place s.meta name (Some new))
  by_split name mirror split.Destroy = by_answer (reply.Removed mirror) tt (removes c name mirror None place s.meta) (go_plain c mirror place s.meta name None)

  lfs_none : (of : LfsCommand) → IfFixed ComparesNone (answered_by s (one_step c of place s.meta))
  lfs_none (lfs.SetStripe name spec) = by_answer reply.Created tt (creates name spec s.meta) (make_plain name spec s.meta)
  lfs_none (lfs.Create name spec) = by_answer reply.Created tt (creates name spec s.meta) (make_plain name spec s.meta)
  lfs_none (lfs.GetStripe name) = by_shown name (file_named name s.meta.files)
  lfs_none (lfs.CompSet name id change) = by_answer reply.Set tt (sets c name id change place s.meta) (set_plain c id change place s.meta name)
  lfs_none (lfs.Split name mirror to) = by_split name mirror to
  lfs_none (lfs.Delete name mirror) = by_answer (reply.Removed mirror) tt (removes c name mirror None place s.meta) (go_plain c mirror place s.meta name None)
  lfs_none (lfs.Extend name spec) = tt
  lfs_none (lfs.ExtendBy name victim) = tt
  lfs_none (lfs.Resync name only) = tt
  lfs_none (lfs.Verify name) = tt

  rot_none : (b : Bool) → ComparesNone (rot_reply b)
  rot_none true = tt
  rot_none false = tt

  once_none : (asked : Command) → IfFixed ComparesNone (at_once c asked place s)
  once_none (command.Read name offset len) = tt
  once_none (command.Write name offset bytes) = tt
  once_none (command.Truncate name size) = tt
  once_none (command.Lfs of) = lfs_none of
  once_none (command.Evict other) = tt
  once_none (command.Rot object offset byte) = rot_none (is_kept object s.targets)

-- ---- each step

-- a merge that knows its file keeps no comparison
keeps_none : (m : MetaView) (name : List ℕ) (what : CopyWhat) (a : CopyAt) → IsOfItsFile m name what a → KeepsNone a
keeps_none m name what copy.Begin k = tt
keeps_none m name what (copy.Copy next) k = tt
keeps_none m name what (copy.Merge next) k = k.1

-- no other command begins a verify
no_lfs : (c : ℕ) (of : LfsCommand) (v : VerifyView) → (IsLfsVerify of → ⊥) → running.Verify v ≡ begun c (command.Lfs of) → ⊥
no_lfs c (lfs.SetStripe name spec) v other e = absurd (cc)
no_lfs c (lfs.GetStripe name) v other e = absurd (cc)
no_lfs c (lfs.CompSet name id change) v other e = absurd (cc)
no_lfs c (lfs.Create name spec) v other e = absurd (cc)
no_lfs c (lfs.Extend name spec) v other e = absurd (cc)
no_lfs c (lfs.ExtendBy name victim) v other e = absurd (cc)
no_lfs c (lfs.Split name mirror to) v other e = absurd (cc)
no_lfs c (lfs.Delete name mirror) v other e = absurd (cc)
no_lfs c (lfs.Resync name only) v other e = absurd (cc)
no_lfs c (lfs.Verify name) v other e = other tt

no_verify : (c : ℕ) (asked : Command) (v : VerifyView) → (IsVerify asked → ⊥) → running.Verify v ≡ begun c asked → ⊥
no_verify c (command.Read name offset len) v other e = absurd (cc)
no_verify c (command.Write name offset bytes) v other e = absurd (cc)
no_verify c (command.Truncate name size) v other e = absurd (cc)
no_verify c (command.Lfs of) v other e = no_lfs c of v other e
no_verify c (command.Evict client) v other e = absurd (cc)
no_verify c (command.Rot object offset byte) v other e = absurd (cc)

-- the step of any call but a verify
step_none : (c place : ℕ) (s : Servers) (asked : Command) (r : Running) → (IsVerify asked → ⊥) → at_start r ≡ begun c asked → KnowsItsFile s.meta r → IfFixed ComparesNone (step_of r c asked place s)
step_none c place s asked running.Idle other same knows = once_none c place s asked
step_none c place s asked (running.Read r) other same knows = widened ComparesNone running.Read (read_step r place s) (read_none r s r.at)
step_none c place s asked (running.Write w) other same knows = widened ComparesNone running.Write (write_step w place s) (write_none w s w.at place)
step_none c place s asked (running.Truncate t) other same knows = widened ComparesNone running.Truncate (truncate_step t place s) (cut_none t s t.at place)
step_none c place s asked (running.Copy x) other same knows = widened ComparesNone running.Copy (copy_step x place s) (copy_none x s x.at (keeps_none s.meta x.name x.what x.at knows))
step_none c place s asked (running.Verify v) other same knows = absurd (no_verify c asked (record v { at = verify.Open }) other same)

-- ---- entries

fixed_none : (o : Outcome Running) (answer : Reply) (from : List Take) → FixesAnswer o answer from → IfFixed ComparesNone o → ComparesNone answer
fixed_none (Going next after) answer from h k = absurd h
fixed_none (Fixed next given takes after) answer from h k = subst ComparesNone h.0 k
fixed_none (Ended after) answer from h k = absurd h
fixed_none (Answered given takes after) answer from h k = subst ComparesNone h.0 k
fixed_none (Blocked holder) answer from h k = absurd h

all_last : {X : Type 0} (P : X → Type 0) (front : List X) (last : X) → AllByRecursion P (front ++ last ∷ []) → P last
all_last P [] last all = all.0
all_last P (x ∷ front) last all = all_last P front last all.1

-- the answer of an entry that isn't a verify's
other_none : (s : State) (e : Entry) (p : Past) (is : IsEntryOf s e p) → (IsVerify is.asked → ⊥) → ComparesNone e.reply
other_none s e p is other =
    let last : CallStep Running = is.call.last in
    let at : StandsIn s.script s.schedule e.client is.asked last = all_last (StandsIn s.script s.schedule e.client is.asked) is.call.front last is.call.stand in
    let run : states.IsRun at.old = fronts_are_runs s at.old (last.place - 1) is.run at.old_is in
    let g : Ground at.old (trace_after at.old.script at.old.schedule) = runs_ground at.old run in
    let step = at.step in
    let not : IsVerify step.asked → ⊥ = λ v. other (subst IsVerify at.asked_is v) in
    let call : Running = call_now e.client step.client.call step.asked in
    let of : at_start call ≡ begun e.client step.asked = now_of e.client step.asked step.client.call (g.asked e.client step.client step.asked step.here step.commanded) in
    let m : MetaView = at.old.shared.meta in
    let knows : KnowsItsFile m call = now_so (KnowsItsFile m) e.client step.asked step.client.call (none_at_first m e.client) (runs_know at.old run (runs.runs_leave (length at.old.schedule)) e.client step.client step.here) in
    fixed_none last.came e.reply e.takes is.call.fixes
    (subst (IfFixed ComparesNone) (step.made ∙ at.came_is) (step_none e.client (place_in at.old) at.old.shared step.asked call not of knows))

compared_by : (k : Call) (answer : Reply) → ComparesNone answer → IsVerifiedBy k answer
compared_by k (reply.Same count) h = absurd h
compared_by k (reply.Differ entries) h = absurd h
compared_by k other h = tt

-- a command is a verify, or it isn't
lfs_case : (of : LfsCommand) → IsLfsVerify of ⊎ (IsLfsVerify of → ⊥)
lfs_case (lfs.Verify name) = inl tt
lfs_case other = inr (λ h. h)

verify_case : (asked : Command) → IsVerify asked ⊎ (IsVerify asked → ⊥)
verify_case (command.Lfs of) = lfs_case of
verify_case other = inr (λ h. h)

pub each_is_verified : EachIsVerified
each_is_verified s e p is = by (verify_case is.asked)
  where
    by : IsVerify is.asked ⊎ (IsVerify is.asked → ⊥) → IsVerifiedBy (claimed is) e.reply
    by (inl verify) = verifies_are_told s e p is verify
    by (inr other) = compared_by (claimed is) e.reply (other_none s e p is other)
