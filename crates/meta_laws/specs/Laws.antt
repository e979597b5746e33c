-- What is claimed of every run of calls.
use Rattle.std.specs.Prelude.{◌≡◌, ℕ, true, List, Result, ◌⊎◌}
use Rattle.std.specs.List.{AllByRecursion}
use Rattle.layout_state.specs.Choosing.{has_fresh}
use Rattle.layout_lease.specs.Leases.{KeyView}
use Rattle.meta_server.specs.declared.answers.Begun.{Begun}
use Rattle.meta_server.specs.declared.answers.DoneStop.{DoneStop}
use Rattle.meta_server.specs.declared.answers.MergeStop.{MergeStop}
use Rattle.meta_server.specs.declared.answers.MetaStop.{MetaStop}
use Rattle.meta_server.specs.declared.answers.Opened.{Opened}
use Rattle.meta_server.specs.Files.{File, MetaView, new_meta}
use Rattle.meta_server.specs.Outcomes.{Completes, Ending, Meets, Outcome, TakesIn}
use Rattle.meta_server.specs.Sound.{IsSound}
use Rattle.meta_laws.specs.Layouts.{AreExplained}
use Rattle.meta_laws.specs.Numbers.{AreObjectsOnce, NoneFalls}
use Rattle.meta_laws.specs.Calls.{Call, IsStart, MayCall, MayRun, after_call, after_calls, left_at, left_by}

-- a new server is sound
abbrev pub NewIsSound : Type 0
NewIsSound = (targets most : ℕ) → IsStart targets most → IsSound (new_meta targets most)

-- each call that may be made leaves a sound server sound
abbrev pub CallsKeepSound : Type 0
CallsKeepSound = (call : Call) (m : MetaView) → IsSound m → MayCall call m → IsSound (after_call call m)

-- so does each run
abbrev pub RunsKeepSound : Type 0
RunsKeepSound = (calls : List Call) (m : MetaView) → IsSound m → MayRun calls m → IsSound (after_calls calls m)

-- each file of a sound server has a wholly fresh mirror
abbrev pub FilesAreFresh : Type 0
FilesAreFresh = (m : MetaView) → IsSound m → AllByRecursion (λ (f : File). has_fresh f.layout.components ≡ true) m.files

-- each call that may be made explains the layout of each file that it leaves
abbrev pub CallsExplainLayouts : Type 0
CallsExplainLayouts = (call : Call) (m : MetaView) → IsSound m → MayCall call m → AreExplained m (after_call call m).files

-- no next number falls through a call
abbrev pub CallsDrawOn : Type 0
CallsDrawOn = (call : Call) (m : MetaView) → IsSound m → NoneFalls m (after_call call m)

-- nor through a run
abbrev pub RunsDrawOn : Type 0
RunsDrawOn = (calls : List Call) (m : MetaView) → IsSound m → MayRun calls m → NoneFalls m (after_calls calls m)

-- a new server has each object once
abbrev pub NewHasObjectsOnce : Type 0
NewHasObjectsOnce = (targets most : ℕ) → AreObjectsOnce (new_meta targets most)

-- each call that may be made to a sound server keeps it so
abbrev pub CallsKeepObjectsOnce : Type 0
CallsKeepObjectsOnce = (call : Call) (m : MetaView) → IsSound m → MayCall call m → AreObjectsOnce m → AreObjectsOnce (after_call call m)

-- so does each run
abbrev pub RunsKeepObjectsOnce : Type 0
RunsKeepObjectsOnce = (calls : List Call) (m : MetaView) → IsSound m → MayRun calls m → AreObjectsOnce m → AreObjectsOnce (after_calls calls m)

-- a call whose answer and server meet this outcome left what the outcome leaves, or all as it was
abbrev pub OpensLeave : Type 0
OpensLeave = (wanted : Outcome Opened) (old new : MetaView) (result : Result Opened MetaStop) → Meets wanted old result new → (new ≡ left_by wanted old) ⊎ (new ≡ old)

abbrev pub BeginsLeave : Type 0
BeginsLeave = (wanted : Outcome Begun) (old new : MetaView) (result : Result Begun MetaStop) → Meets wanted old result new → (new ≡ left_by wanted old) ⊎ (new ≡ old)

abbrev pub CommandsLeave : Type 0
CommandsLeave = (wanted : Outcome (Unit {0})) (old new : MetaView) (result : Result (Unit {0}) MetaStop) → Meets wanted old result new → (new ≡ left_by wanted old) ⊎ (new ≡ old)

-- the same for the ends of copies
abbrev pub EndsLeave : Type 0
EndsLeave = (wanted : Ending (Unit {0})) (key : KeyView) (old new : MetaView) (result : Result (Unit {0}) DoneStop) → Completes wanted key old result new → new ≡ left_at wanted old

abbrev pub MergesLeave : Type 0
MergesLeave = (wanted : Ending (List ℕ)) (ours theirs : KeyView) (old new : MetaView) (result : Result (List ℕ) MergeStop) → TakesIn wanted ours theirs old result new → (new ≡ left_at wanted old) ⊎ (new ≡ old)
