-- A step that stands in a run makes just the call of a target that its phase says.
use Rattle.std.proofs.Common.{◌≡◌, ℕ, zero, suc, ◌+◌, ◌<◌, Bool, true, false, List, [], ◌∷◌, ◌++◌, length, drop, map, refl, sym, ◌∙◌, ap, subst}
use Rattle.std.specs.Prelude.{if◌then◌else◌, slice_get, unwrap_or}
use Rattle.std.specs.List.{flat_map, range_with_len}
use Rattle.std.proofs.Math.ListN.{set}
use Rattle.flr_base.specs.declared.reply.ObjectId.{ObjectId}
use Rattle.flr_base.specs.declared.reply.Reply.{Reply}
use Rattle.script_values.specs.declared.command.Command.{Command}
use Rattle.script_values.specs.declared.command.Command.TheVariants as command
use Rattle.object_target.specs.declared.call.CallEntry.{CallEntry}
use Rattle.object_target.specs.Calls.{after_rot}
use Rattle.object_target.specs.TargetState.{TargetState, new_target}
use Rattle.meta_server.specs.Outcomes.{Gives, Refuses, Waits}
use Rattle.meta_server.specs.Outcomes as meta
use Rattle.mirror_admin.specs.OneStep.{one_step}
use Rattle.mirror_admin.specs.Rotting.{is_kept, with_rot}
use Rattle.call_steps.specs.Runs.{CallStep, Leaves}
use Rattle.call_steps.specs.Servers.{Servers, target_at}
use Rattle.call_steps.specs.Steps.{Outcome, Going, Fixed, Ended, Answered, Blocked}
use Rattle.client_read.specs.Reads.{read_step}
use Rattle.client_write.specs.Truncates.{truncate_step}
use Rattle.client_write.specs.Writes.{range_of, write_step}
use Rattle.mirror_verify.specs.Verifies.{verify_step}
use Rattle.resync_copy.specs.Steps.{copy_step}
use Rattle.flr_numbers.specs.Hands.{AreServers, Has}
use Rattle.flr_numbers.specs.Sentences.{IsCallOf, hand_of}
use Rattle.flr_steps.specs.declared.client.Client.{Client}
use Rattle.flr_steps.specs.declared.client.Running.{Running}
use Rattle.flr_steps.specs.declared.client.Running.TheVariants as running
use Rattle.flr_steps.specs.Clients.{first_now}
use Rattle.flr_steps.specs.Commands.{answered_by, at_once, step_of}
use Rattle.flr_steps.specs.States.{IsRun, State, place_in}
use Rattle.flr_steps.specs.Steps.{LeavesState}
use Rattle.flr_steps.specs.Traces.{Made, made_by, made_from, made_on}
use Rattle.flr_asked.specs.CallRuns.{StandsIn, made_in, of_kind, own_step}
use Rattle.flr_bytes.specs.Pieces as pieces
use Rattle.flr_sole.proofs.Making.{made_none}
use Rattle.flr_honest.specs.CallSteps.StepMakes.{makes}
use Rattle.flr_honest.specs.CallSteps.TypedCalls.{AllStandAs}
use Rattle.flr_honest.proofs.CallSteps.CalledThere.{copy_there, cut_there, read_there, verify_there, write_there}
use Rattle.flr_honest.proofs.CallSteps.CopyMakes.{copy_made}
use Rattle.flr_honest.proofs.CallSteps.EachMakes.{cut_made, read_made, verify_made, write_made}
use Rattle.flr_honest.proofs.CallSteps.Making.{Makes, made_left, makes_widened}
use Rattle.flr_honest.proofs.CallSteps.Standing.{before_servers, call_has, call_of, call_pieces, came_as, some_target}

-- ---- commands of one step

-- a target that is changed, but not called
set_calls : (xs : List TargetState) (i k : ℕ) (t d : TargetState) → t.calls ≡ (unwrap_or (slice_get xs i) d).calls → (j : TargetState) → (unwrap_or (slice_get (set xs i t) k) j).calls ≡ (unwrap_or (slice_get xs k) j).calls
set_calls [] i k t d same j = refl
set_calls (x ∷ xs) zero zero t d same j = same
set_calls (x ∷ xs) zero (suc k) t d same j = refl
set_calls (x ∷ xs) (suc i) zero t d same j = refl
set_calls (x ∷ xs) (suc i) (suc k) t d same j = set_calls xs i k t d same j

drop_all : {X : Type 0} (xs : List X) → drop (length xs) xs ≡ []
drop_all [] = refl
drop_all (x ∷ xs) = drop_all xs

made_nothing : (place : ℕ) (old new : List TargetState) (id : ℕ) → (target_at new id).calls ≡ (target_at old id).calls → made_on place old new id ≡ []
made_nothing place old new id same =
    ap (λ (es : List CallEntry). made_from place id (target_at old id) (length (target_at old id).calls + 1) (drop (length (target_at old id).calls) es)) same
    ∙ ap (λ (es : List CallEntry). made_from place id (target_at old id) (length (target_at old id).calls + 1) es) (drop_all (target_at old id).calls)

none_each : (f : ℕ → List Made) (xs : List ℕ) → ((x : ℕ) → f x ≡ []) → flat_map f xs ≡ []
none_each f [] none = refl
none_each f (x ∷ xs) none = (λ j. none x j ++ flat_map f xs) ∙ none_each f xs none

module _ (place : ℕ) (s : Servers) where
  -- a byte that rots is no call
  rot_none : (object : ObjectId) (offset byte : ℕ) (b : Bool) → made_by place s.targets (if b then with_rot object offset byte s.targets else s.targets) ≡ []
  rot_none object offset byte true =
      none_each (made_on place s.targets (with_rot object offset byte s.targets)) (range_with_len 0 (length (with_rot object offset byte s.targets)))
      (λ id. made_nothing place s.targets (with_rot object offset byte s.targets) id
      (set_calls s.targets object.target id (after_rot (target_at s.targets object.target) object.number offset byte) (new_target object.target []) refl (new_target id [])))
  rot_none object offset byte false = made_none place s.targets

  by_answer : (o : meta.Outcome Reply) → Makes place s [] (answered_by s o)
  by_answer (Gives answer after) = made_none place s.targets
  by_answer (Refuses answer) = made_none place s.targets
  by_answer (Waits holder) = tt

  once_made : (c : ℕ) (asked : Command) → Makes place s [] (at_once c asked place s)
  once_made c (command.Lfs of) = by_answer (one_step c of place s.meta)
  once_made c (command.Evict other) = made_none place s.targets
  once_made c (command.Rot object offset byte) = rot_none object offset byte (is_kept object s.targets)
  once_made c (command.Read name offset len) = tt
  once_made c (command.Write name offset bytes) = tt
  once_made c (command.Truncate name size) = tt

  -- each step of each call
  pub step_makes : (c : ℕ) (asked : Command) (call : Running) → AreServers s.meta s.targets → 0 < length s.targets → IsCallOf c call → Has c s.meta s.locks (hand_of call) → pieces.Has call → Makes place s (makes place call s) (step_of call c asked place s)
  step_makes c asked running.Idle h some of has piece = once_made c asked
  step_makes c asked (running.Read r) h some of has piece = makes_widened running.Read place s (makes place (running.Read r) s) (read_step r place s) (read_made place s r r.at (read_there s c h some r.client r.range r.at piece.0 piece.1 has))
  step_makes c asked (running.Write w) h some of has piece = makes_widened running.Write place s (makes place (running.Write w) s) (write_step w place s) (write_made place s w w.at (write_there s c h some (range_of w) w.at of.1 of.2 has))
  step_makes c asked (running.Truncate t) h some of has piece = makes_widened running.Truncate place s (makes place (running.Truncate t) s) (truncate_step t place s) (cut_made place s t t.at (cut_there s c h some t.size t.at of.1 has))
  step_makes c asked (running.Verify v) h some of has piece = makes_widened running.Verify place s (makes place (running.Verify v) s) (verify_step v place s) (verify_made place s v v.at (verify_there s c h some v.client v.at piece has))
  step_makes c asked (running.Copy k) h some of has piece = makes_widened running.Copy place s (makes place (running.Copy k) s) (copy_step k place s) (copy_made place s k k.at (copy_there s c h some k.at of.3 has))

-- ---- steps that stand in a run

-- what a step of a state leaves its outcome leaves
left_of : (s : State) (c : ℕ) (client : Client) (first : ℕ) (came : Outcome Running) (t : State) → LeavesState s c client first came t → Leaves came t.shared
left_of s c client first (Going next after) t h = ap (λ (u : State). u.shared) h
left_of s c client first (Fixed next reply takes after) t h = ap (λ (u : State). u.shared) h
left_of s c client first (Ended after) t h = ap (λ (u : State). u.shared) h
left_of s c client first (Answered reply takes after) t h = ap (λ (u : State). u.shared) h
left_of s c client first (Blocked holder) t h = absurd h

module _ (s : State) (run : IsRun s) (c : ℕ) (asked : Command) (x : CallStep Running) (st : StandsIn s.script s.schedule c asked x) where
  -- it leaves the servers behind it
  pub leaves_after : Leaves x.came x.after
  leaves_after =
      let left : Leaves st.step.came st.new.shared = left_of st.old c st.step.client (first_now st.step.client.call (place_in st.old) st.step.client.first) st.step.came st.new st.step.left in
      subst (λ (o : Outcome Running). Leaves o x.after) st.came_is (subst (λ (u : Servers). Leaves st.step.came u) (sym st.after_is) left)

  -- what it made is what its phase makes
  pub made_as : made_in x ≡ makes x.place x.call x.before
  made_as =
      made_left x.place x.before x.after (makes x.place x.call x.before) (own_step c asked x.call x.place x.before)
      (step_makes x.place x.before c asked x.call (before_servers s run c asked x st) (some_target s run c asked x st) (call_of s run c asked x st) (call_has s run c asked x st) (call_pieces s run c asked x st))
      (subst (λ (o : Outcome Running). Leaves o x.after) (came_as s.script s.schedule c asked x st) leaves_after)

-- ---- the calls of all steps

-- calls of one kind are calls
pub made_typed : {C : Type 0} (f : C → Running) (steps : List (CallStep C)) → flat_map made_in (map (of_kind f) steps) ≡ flat_map made_in steps
made_typed f [] = refl
made_typed f (x ∷ xs) = ap (λ (ms : List Made). made_in x ++ ms) (made_typed f xs)

-- what steps of one kind made is what their phases make
pub all_made : {C : Type 0} (f : C → Running) (s : State) → IsRun s → (c : ℕ) (asked : Command) (steps : List (CallStep C)) → AllStandAs f s.script s.schedule c asked steps
    → flat_map made_in steps ≡ flat_map (λ (x : CallStep C). makes x.place (f x.call) x.before) steps
all_made f s run c asked [] st = refl
all_made f s run c asked (x ∷ xs) st = (λ j. made_as s run c asked (of_kind f x) st.0 j ++ all_made f s run c asked xs st.1 j)
