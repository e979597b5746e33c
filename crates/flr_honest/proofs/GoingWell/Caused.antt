-- In a quiet script a call whose answer has its cause is answered well.
use Rattle.std.proofs.Common.{◌≡◌, ℕ, ◌+◌, ◌-◌, ◌<◌, ◌≤◌, Some, List, [], ◌∷◌, length, take, nat_lt, inl, inr, refl, sym, subst, arith}
use Rattle.std.specs.Prelude.{Contains}
use Rattle.std.specs.List.{AllByRecursion}
use Rattle.flr_base.specs.declared.reply.Entry.{Entry}
use Rattle.flr_base.specs.declared.reply.FailedCall.{FailedCall}
use Rattle.flr_base.specs.declared.reply.Left.{Left}
use Rattle.flr_base.specs.declared.reply.Reply.{Reply}
use Rattle.flr_base.specs.declared.reply.Reply.TheVariants as reply
use Rattle.flr_base.specs.Limits.{most_bytes}
use Rattle.composite_layout.specs.Layouts.{eof}
use Rattle.lfs_words.specs.declared.command.LfsCommand.{LfsCommand}
use Rattle.lfs_words.specs.declared.command.LfsCommand.TheVariants as lfs
use Rattle.mirror_select.proofs.Least.{from_contains}
use Rattle.object_target.specs.declared.fail.Fail.{Fail}
use Rattle.script_values.specs.declared.command.Command.{Command}
use Rattle.script_values.specs.declared.command.Command.TheVariants as command
use Rattle.script_values.specs.Commands.{IsCommand}
use Rattle.meta_server.specs.Files.{File, file_named}
use Rattle.meta_server.specs.Sound.{IsSound}
use Rattle.flr_steps.specs.Reports.{command_of}
use Rattle.flr_steps.specs.States.{IsRun, State, start}
use Rattle.flr_steps.specs.Traces.{Past}
use Rattle.flr_steps.proofs.Fronts.{each_run_keeps, fronts_are_runs}
use Rattle.flr_numbers.proofs.Commands.{is_command}
use Rattle.flr_runs.proofs.Runs as runs
use Rattle.flr_claims.specs.Calls.{Call}
use Rattle.flr_claims.specs.Causes.{CopiesFile, IsCaused, IsCopyOfOne, OfNothing, OfSome, ReadsBytes, TruncatesFile, WritesBytes}
use Rattle.flr_claims.specs.Completeness.{IsAnsweredWell, IsCopiedWell, IsQuiet, IsReadWell, IsTruncatedWell, IsWrittenWell}
use Rattle.flr_claims.specs.Copies.{IsRightlyLeft}
use Rattle.flr_claims.specs.Failures.{IsListed}
use Rattle.flr_claims.specs.Runs.{call_before}
use Rattle.flr_claims.specs.Writing.{IsEvictedAt}
use Rattle.flr_honest.specs.Entries.{IsEntryOf}
use Rattle.flr_honest.specs.GoingWell.Wells.{CausedGoWell}
use Rattle.flr_honest.proofs.GoingWell.Quiet.{AreFilesOnline, none_evicted, runs_online}
use Rattle.flr_honest.proofs.GoingWell.Refused.{change_refused, read_refused, resync_refused}

-- where no call is listed to fail none is
pub none_listed : (fails : List Fail) → fails ≡ [] → (call : FailedCall) → IsListed fails call → ⊥
none_listed fails none call h = from_contains [] h.0 (subst (λ (xs : List Fail). Contains xs h.0) none h.1)

-- ---- answers of a call that isn't refused

module _ (k : Call) (run : IsRun k.before) (quiet : IsQuiet k.before.script) where
  -- no call is listed to fail
  never_listed : (call : FailedCall) → IsListed k.before.script.fails call → ⊥
  never_listed = none_listed k.before.script.fails quiet.fails

  -- the client was never evicted
  never_evicted : (place : ℕ) → IsEvictedAt k place → ⊥
  never_evicted place h = none_evicted k.before run quiet place k.client h.0 h.1

  -- some calls, each listed
  some_listed : (calls : List FailedCall) → 0 < length calls → AllByRecursion (IsListed k.before.script.fails) calls → ⊥
  some_listed [] some all = omega (arith, some)
  some_listed (call ∷ calls) some all = never_listed call all.0

  -- the answer of a read
  read_well : (offset len : ℕ) (answer : Reply) → ReadsBytes k offset len answer → IsReadWell answer
  read_well offset len (reply.Bytes bytes) h = tt
  read_well offset len (reply.Fault byte calls) h = absurd (some_listed calls h.1.some h.1.listed)
  read_well offset len other h = absurd h

  -- of a write
  written_well : (answer : Reply) → WritesBytes k answer → IsWrittenWell answer
  written_well reply.Written h = tt
  written_well (reply.WriteFault call) h = absurd (never_listed call h.1.failed.listed)
  written_well (reply.Evicted place) h = absurd (never_evicted place h.1.evicted)
  written_well other h = absurd h

  -- of a truncate
  truncated_well : (answer : Reply) → TruncatesFile k answer → IsTruncatedWell answer
  truncated_well reply.Truncated h = tt
  truncated_well (reply.WriteFault call) h = absurd (never_listed call h.1.failed.listed)
  truncated_well (reply.Evicted place) h = absurd (never_evicted place h.1.evicted)
  truncated_well other h = absurd h

  -- nothing is left
  none_left : (f : File) (ids cleared : List ℕ) (left : List Left) → AllByRecursion (IsRightlyLeft k f ids cleared) left → left ≡ []
  none_left f ids cleared [] all = refl
  none_left f ids cleared (l ∷ left) all = absurd (never_listed l.call all.0.counted.1)

  -- so a copy of one file leaves nothing
  left_none : (cleared : List ℕ) (left : List Left) → IsCopyOfOne k cleared left → left ≡ []
  left_none cleared left (OfNothing granted selected none is) = is
  left_none cleared left (OfSome f ids later some right) = none_left f ids cleared left right.lefts

  -- the answer of a copy
  copied_well : (answer : Reply) → CopiesFile k answer → IsCopiedWell answer
  copied_well (reply.Copied cleared left) h = left_none cleared left h
  copied_well (reply.Broken place) h = tt
  copied_well other h = absurd h

-- ---- each command

module _ (s : State) (e : Entry) (p : Past) (is : IsEntryOf s e p) (quiet : IsQuiet s.script) where
  -- the state before the point is of a run
  before_run : IsRun is.before
  before_run = fronts_are_runs s is.before (e.at - 1) is.run is.before_is

  -- of the same script
  quiet_before : IsQuiet is.before.script
  quiet_before = subst IsQuiet (sym (each_run_keeps (start s.script) is.before (take (e.at - 1) s.schedule) is.before_is).script) quiet

  -- no component is offline there
  online : AreFilesOnline is.before.shared.meta.files
  online = runs_online is.before before_run quiet_before

  -- and what the metadata server keeps is sound
  sound : IsSound is.before.shared.meta
  sound = (runs.all_hold is.before before_run).servers.sound

  -- a read ends below EOF
  low_end : (name : List ℕ) (offset len : ℕ) → command_of s.script e ≡ Some (command.Read name offset len) → offset + len ≤ eof
  low_end name offset len commanded =
      let good : IsCommand s.script.most s.script.targets (length s.script.clients) (command.Read name offset len) = is_command s.script e.client (e.number - 1) (command.Read name offset len) is.run.limits commanded in
      omega (arith, good.1, good.2.1)

  -- a command of `lfs`
  lfs_well : (of : LfsCommand) → IsCaused (call_before is.before e (command.Lfs of) p) e.reply → IsAnsweredWell (command.Lfs of) e.reply
  lfs_well (lfs.Resync name only) (inl refused) = resync_refused name only is.before.shared.meta (file_named name is.before.shared.meta.files) e.reply refused.1
  lfs_well (lfs.Resync name only) (inr answers) =
      copied_well (call_before is.before e (command.Lfs (lfs.Resync name only)) p) before_run quiet_before e.reply answers
  lfs_well other caused = tt

  -- each command
  each_well : (asked : Command) → command_of s.script e ≡ Some asked → IsCaused (call_before is.before e asked p) e.reply → IsAnsweredWell asked e.reply
  each_well (command.Read name offset len) commanded (inl refused) =
      read_refused is.before.shared.meta sound online name (record { start = offset; end = offset + len }) e.reply (low_end name offset len commanded) refused.1
  each_well (command.Read name offset len) commanded (inr answers) =
      read_well (call_before is.before e (command.Read name offset len) p) before_run quiet_before offset len e.reply answers
  each_well (command.Write name offset bytes) commanded (inl refused) =
      change_refused is.before.shared.meta sound online IsWrittenWell name (record { start = offset; end = offset + length bytes }) (nat_lt most_bytes (offset + length bytes)) e.reply tt tt refused.1
  each_well (command.Write name offset bytes) commanded (inr answers) =
      written_well (call_before is.before e (command.Write name offset bytes) p) before_run quiet_before e.reply answers
  each_well (command.Truncate name size) commanded (inl refused) =
      change_refused is.before.shared.meta sound online IsTruncatedWell name (record { start = size; end = eof }) (nat_lt most_bytes size) e.reply tt tt refused.1
  each_well (command.Truncate name size) commanded (inr answers) =
      truncated_well (call_before is.before e (command.Truncate name size) p) before_run quiet_before e.reply answers
  each_well (command.Lfs of) commanded caused = lfs_well of caused
  each_well (command.Evict client) commanded caused = tt
  each_well (command.Rot object offset byte) commanded caused = tt

-- so it is with each entry of each run
pub caused_go_well : CausedGoWell
caused_go_well s e p is quiet caused = each_well s e p is quiet is.asked is.commanded caused
