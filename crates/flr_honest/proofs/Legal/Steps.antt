-- Each step that fixes an answer fixes one that plain files allow.
use Rattle.std.proofs.Common.{◌≡◌, ℕ, List, subst}
use Rattle.flr_base.specs.declared.reply.Reply.{Reply}
use Rattle.script_values.specs.declared.command.Command.{Command}
use Rattle.script_values.specs.declared.command.Command.TheVariants as command
use Rattle.lfs_words.specs.declared.command.LfsCommand.TheVariants as lfs
use Rattle.meta_server.specs.declared.answers.CopyWhat.{CopyWhat}
use Rattle.meta_server.specs.declared.answers.CopyWhat.TheVariants.{Resync, Extend, Victim}
use Rattle.meta_server.specs.Files.{MetaView}
use Rattle.meta_server.specs.Sound.{IsSound}
use Rattle.call_steps.specs.Servers.{Servers}
use Rattle.call_steps.specs.Steps.{Outcome}
use Rattle.client_read.specs.Reads.{read_step}
use Rattle.client_write.specs.Truncates.{truncate_step}
use Rattle.client_write.specs.Writes.{write_step}
use Rattle.mirror_verify.specs.Verifies.{verify_step}
use Rattle.resync_copy.specs.Steps.{copy_step}
use Rattle.flr_steps.specs.declared.client.Running.{Running}
use Rattle.flr_steps.specs.declared.client.Running.TheVariants as running
use Rattle.flr_steps.specs.Clients.{call_now}
use Rattle.flr_steps.specs.Commands.{begun, step_of}
use Rattle.flr_steps.specs.States.{place_in}
use Rattle.plain_files.specs.Effects.{Allows}
use Rattle.plain_files.specs.Files.{Plain}
use Rattle.flr_claims.specs.Runs.{store_of}
use Rattle.flr_numbers.specs.Sentences.{IsCallOf}
use Rattle.flr_asked.specs.Sentences.{at_start}
use Rattle.flr_behind.specs.Sentences.{Knows}
use Rattle.flr_bytes.specs.Calls.{Says}
use Rattle.flr_bytes.specs.Files.{AreSized}
use Rattle.flr_bytes.specs.Pieces.{Has}
use Rattle.flr_bytes.specs.Sentences.{byte_in, byte_of}
use Rattle.flr_bytes.specs.Victims.{HasVictim}
use Rattle.flr_honest.proofs.Knowing.Own.{its_has, its_own}
use Rattle.flr_honest.proofs.Stores.Begun.{now_of, now_so}
use Rattle.flr_honest.proofs.Stores.Commanded.{cut_command, write_command}
use Rattle.flr_honest.specs.Legal.Laws.{StepsAnswerSo}
use Rattle.flr_honest.specs.Legal.Sentences.{IfFixed, IsAllowed, KnowsItsFile}
use Rattle.flr_honest.proofs.Legal.Asked.{copy_command, lfs_for, read_command, verify_command}
use Rattle.flr_honest.proofs.Legal.Commands.{once_allowed}
use Rattle.flr_honest.proofs.Legal.Copying.{AllowsFor, copy_allowed, may_copy}
use Rattle.flr_honest.proofs.Legal.Keeping.{none_at_first}
use Rattle.flr_honest.proofs.Legal.Outcomes.{weaker, widened}
use Rattle.flr_honest.proofs.Legal.Reading.{read_allowed}
use Rattle.flr_honest.proofs.Legal.Verifying.{verify_allowed}
use Rattle.flr_honest.proofs.Legal.Writing.{cut_allowed, write_allowed}

-- what is known of the call of a step
record IsReady (c : ℕ) (s : Servers) (store : List Plain) (call : Running) : Type 0 where
  own : IsCallOf c call
  knows : Knows s.meta call
  has : Has call
  victim : HasVictim s.meta call
  file : KnowsItsFile s.meta call
  says : Says s (byte_of s.meta.files store) call

-- what plain files allow a copy they allow its command
copy_may : (name : List ℕ) (what : CopyWhat) (store : List Plain) (answer : Reply) → AllowsFor name what store answer → Allows (command.Lfs (lfs_for name what)) store answer
copy_may name (Resync only) store answer h = h
copy_may name (Extend mirrors) store answer h = h
copy_may name (Victim victim) store answer h = h

module _ (c place : ℕ) (s : Servers) (store : List Plain) (h : AreSized s.meta.files store) (sound : IsSound s.meta) where
  -- an answer of the call, by its own command
  asked_so : {C : Type 0} (f : C → Running) (o : Outcome C) (own asked : Command) → own ≡ asked → IfFixed (Allows own store) o → IfFixed (Allows asked store) o
  asked_so f o own asked same k = subst (λ (x : Command). IfFixed (Allows x store) o) same k

  step_allowed : (call : Running) (asked : Command) → at_start call ≡ begun c asked → IsReady c s store call → IsAllowed asked store (step_of call c asked place s)
  step_allowed running.Idle asked e k = once_allowed s store h sound c place asked e
  step_allowed (running.Read r) asked e k =
      widened (Allows asked store) running.Read (read_step r place s)
      (asked_so running.Read (read_step r place s) (command.Read r.name r.range.start _) asked (read_command c r asked e) (read_allowed s store h sound r k.has.0 r.at k.has.1 k.says k.knows))
  step_allowed (running.Write w) asked e k =
      widened (Allows asked store) running.Write (write_step w place s)
      (asked_so running.Write (write_step w place s) (command.Write w.name w.offset w.bytes) asked (write_command c w asked e) (write_allowed s store h sound w w.at place k.own.2 k.knows))
  step_allowed (running.Truncate t) asked e k =
      widened (Allows asked store) running.Truncate (truncate_step t place s)
      (asked_so running.Truncate (truncate_step t place s) (command.Truncate t.name t.size) asked (cut_command c t asked e) (cut_allowed s store h sound t t.at place k.own.1 k.knows))
  step_allowed (running.Verify v) asked e k =
      widened (Allows asked store) running.Verify (verify_step v place s)
      (asked_so running.Verify (verify_step v place s) (command.Lfs (lfs.Verify v.name)) asked (verify_command c v asked e) (verify_allowed s store h sound v v.at k.knows))
  step_allowed (running.Copy x) asked e k =
      widened (Allows asked store) running.Copy (copy_step x place s)
      (asked_so running.Copy (copy_step x place s) (command.Lfs (lfs_for x.name x.what)) asked (copy_command c x asked e)
      (weaker (may_copy x s store h sound) (Allows (command.Lfs (lfs_for x.name x.what)) store) (copy_step x place s) (copy_may x.name x.what store) (copy_allowed x s store h sound x.at k.file k.victim k.says)))

pub steps_answer : StepsAnswerSo
steps_answer s t old new c is all honest =
    let step = is.step in
    let m : MetaView = s.shared.meta in
    let call : Running = call_now c step.client.call step.asked in
    let of = now_of c step.asked step.client.call (is.before.asked c step.client step.asked step.here step.commanded) in
    let ready : IsReady c s.shared (store_of s old) call = record {
      own = its_own s t old new c is;
      knows = now_so (Knows m) c step.asked step.client.call (record { idle = tt; read = λ name offset len. tt; write = λ name offset bytes. tt; truncate = λ name size. tt; copy = λ name what. tt; verify = λ name. tt }) (is.before.known.calls c step.client step.here);
      has = its_has s t old new c is is.before.pieces;
      victim = now_so (HasVictim m) c step.asked step.client.call (record { idle = tt; read = λ name offset len. tt; write = λ name offset bytes. tt; truncate = λ name size. tt; copy = λ name what. tt; verify = λ name. tt }) (is.before.victims c step.client step.here);
      file = now_so (KnowsItsFile m) c step.asked step.client.call (none_at_first m c) (all c step.client step.here);
      says = now_so (Says s.shared (byte_in s old)) c step.asked step.client.call (record { idle = tt; read = λ name offset len. tt; write = λ name offset bytes. tt; truncate = λ name size. tt; copy = λ name what. tt; verify = λ name. tt }) (honest.calls c step.client step.here);
    } in
    subst (IsAllowed step.asked (store_of s old)) step.made (step_allowed c (place_in s) s.shared (store_of s old) honest.sized is.before.holds.servers.sound call step.asked of ready)
