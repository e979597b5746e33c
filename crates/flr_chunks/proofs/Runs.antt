-- Every run for whose steps there is room.
use Rattle.std.proofs.Common.{◌≡◌, ℕ, zero, suc, ◌-◌, ◌*◌, ◌≤◌, Option, Some, None, List, [], ◌∷◌, ◌++◌, length, replicate, option_map, length-append, refl, sym, ap, subst, ◌∙◌, arith, mul-le-mul, mul-le-mul_left, mul_assoc}
use Rattle.std.specs.List.{AllByRecursion}
use Rattle.script_values.specs.Scripts.{IsScript, ScriptView}
use Rattle.meta_server.specs.Closing.{size_of}
use Rattle.meta_server.specs.Files.{File, file_of}
use Rattle.meta_laws.proofs.Finding.{found_keeps}
use Rattle.call_steps.specs.Servers.{Servers}
use Rattle.resync_copy.specs.declared.merge_phase.MergeStage.{MergeStage}
use Rattle.resync_copy.specs.declared.merge_phase.MergeStage.TheVariants as merge
use Rattle.resync_copy.specs.declared.phase.CopyAt.{CopyAt}
use Rattle.resync_copy.specs.declared.phase.CopyAt.TheVariants as copy
use Rattle.resync_copy.specs.declared.phase.CopyStage.{CopyStage}
use Rattle.resync_copy.specs.declared.phase.CopyStage.TheVariants as stage
use Rattle.resync_copy.specs.Chunks.{chunks_below}
use Rattle.flr_steps.specs.declared.client.Client.{Client}
use Rattle.flr_steps.specs.declared.client.Running.{Running}
use Rattle.flr_steps.specs.declared.client.Running.TheVariants as running
use Rattle.flr_steps.specs.States.{IsRun, State, Stepped, after, new_client, next, start}
use Rattle.flr_steps.proofs.Fronts.{each_run_keeps, goes_on}
use Rattle.flr_steps.proofs.Inversion.{step_is}
use Rattle.flr_steps.proofs.Runs.{after_more}
use Rattle.flr_numbers.specs.Laws.{LeaveRoom}
use Rattle.flr_numbers.specs.Sentences.{HasRoom, Holds}
use Rattle.flr_numbers.proofs.Keeping.{step_holds}
use Rattle.flr_locks.proofs.Runs.{keep_always}
use Rattle.flr_sizes.specs.Laws.{AreShort, end_of_script}
use Rattle.flr_sizes.proofs.Runs.{runs_short}
use Rattle.flr_sizes.proofs.Steps.{got_at}
use Rattle.flr_work.specs.Known.{blocks_of_script, chunk_room}
use Rattle.flr_chunks.specs.Laws.{RunsHaveFewMirrors, RunsSettleWithin}
use Rattle.flr_chunks.specs.Sentences.{CopySettlesWithin, MergeSettlesWithin, SettlesWithin, SettlesWithinAt}
use Rattle.flr_chunks.proofs.Keeping.{AllKnow, Knows, all_know}
use Rattle.flr_chunks.proofs.Stages.{KnowsAt, KnowsStage}

-- ---- what calls know

all_idle : (most n : ℕ) → AllByRecursion (λ (client : Client). Knows most client.call) (replicate n new_client)
all_idle most zero = tt
all_idle most (suc n) = (tt, all_idle most n)

-- a state of a run, whose calls know what they have to where the run had room
record RunKnows (s : State) : Type 0 where
  run : IsRun s
  knows : LeaveRoom (length s.schedule) → AllKnow s

start_run_knows : (script : ScriptView) → IsScript script → RunKnows (start script)
start_run_knows script limits = record { run = record { limits = limits; run = refl }; knows = λ leave. all_idle script.most (length script.clients) }

step_run_knows : RunsHaveFewMirrors → (s t : State) (c : ℕ) → Holds s → HasRoom s.shared → RunKnows s → next s c ≡ Stepped t → RunKnows t
step_run_knows mirrors s t c h room g is =
    let kept = each_run_keeps s t (c ∷ []) (goes_on s t c [] t is refl) in
    let made = after_more (start s.script) s t s.schedule c g.run.run is in
    let run : IsRun t = record { limits = subst IsScript (sym kept.script) g.run.limits; run = (λ j. after (start (kept.script j)) (kept.places j)) ∙ made } in
    let more : length t.schedule ≡ length (s.schedule ++ c ∷ []) = ap (λ (cs : List ℕ). length cs) kept.places in
    let long = length-append s.schedule (c ∷ []) in
    let holds : Holds t = step_holds s t c h room (step_is s t c is) in
    record {
      run = run;
      knows = λ leave. all_know s t c h.servers.sound (g.knows (λ u r few. leave u r (omega (arith, few, more, long)))) (step_is s t c is) holds.servers.sound (mirrors t run leave);
    }

run_knows : RunsHaveFewMirrors → (s : State) → IsRun s → LeaveRoom (length s.schedule) → AllKnow s
run_knows mirrors s run leave = (keep_always RunKnows (step_run_knows mirrors) s run leave (start_run_knows s.script run.limits)).knows leave

-- ---- the room that there is

module _ (script : ScriptView) (s : Servers) (short : AreShort (end_of_script script) s.meta.files) where
  -- a file has no more chunks than the longest one has blocks
  few_chunks : (file size : ℕ) → size_of file s.meta ≡ Some size → chunks_below size ≤ blocks_of_script script
  few_chunks file size e = by (file_of file s.meta.files) refl e
    where
      by : (o : Option File) → file_of file s.meta.files ≡ o → option_map (λ (f : File). f.size) o ≡ Some size → chunks_below size ≤ blocks_of_script script
      by None there e = absurd (cc)
      by (Some f) there e =
          let same : f.size ≡ size = cc in
          let low : f.size ≤ end_of_script script = found_keeps _ (λ (g : File). g.size ≤ end_of_script script) s.meta.files f there short in
          omega (arith, same, low)

  copy_within : (next : CopyStage) → KnowsStage script.most next → CopySettlesWithin (chunk_room script) s next
  copy_within (stage.Fence x next) h = tt
  copy_within (stage.Reset x next) h = tt
  copy_within (stage.Settle x) h = λ size e. (
      let few = h size in
      let up : (script.most - 1) * chunks_below size ≤ (script.most - 1) * blocks_of_script script = mul-le-mul_left (script.most - 1) (few_chunks x.side.file size e) in
      let same : (2 * (script.most - 1)) * blocks_of_script script ≡ 2 * ((script.most - 1) * blocks_of_script script) = mul_assoc 2 (script.most - 1) (blocks_of_script script) in
      omega (arith, few, up, same)
      )
  copy_within (stage.Take k) h = tt
  copy_within (stage.Put k bytes) h = tt
  copy_within (stage.Done key cleared left) h = tt

  merge_within : (next : MergeStage) → 2 ≤ script.most → MergeSettlesWithin (chunk_room script) s next
  merge_within (merge.Fence x next) h = tt
  merge_within (merge.Settle x) h = λ size e. mul-le-mul (omega (arith, h)) (few_chunks x.ours.file size e)
  merge_within (merge.TakeOurs p) h = tt
  merge_within (merge.TakeTheirs p bytes) h = tt
  merge_within (merge.Done ours theirs refusal) h = tt

  at_within : (a : CopyAt) → KnowsAt script.most a → SettlesWithinAt (chunk_room script) s a
  at_within copy.Begin h = tt
  at_within (copy.Copy next) h = copy_within next h
  at_within (copy.Merge next) h = merge_within next h

  call_within : (call : Running) → Knows script.most call → SettlesWithin (chunk_room script) s call
  call_within running.Idle h = tt
  call_within (running.Read call) h = tt
  call_within (running.Write call) h = tt
  call_within (running.Truncate call) h = tt
  call_within (running.Copy call) h = at_within call.at h
  call_within (running.Verify call) h = tt

-- after each such run
pub runs_settle : RunsSettleWithin
runs_settle mirrors s run leave =
    record { each = λ c client e. call_within s.script s.shared (runs_short s run leave) client.call (got_at (λ (x : Client). Knows s.script.most x.call) s.clients c client (run_knows mirrors s run leave) e) }
