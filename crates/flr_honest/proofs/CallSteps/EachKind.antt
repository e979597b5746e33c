-- The call of an entry, by its command: a read, a write, a truncate, a verify, a copy, or a command of one step.
use Rattle.std.proofs.Common.{◌≡◌, ℕ, List, [], ◌∷◌, ◌++◌, Option, None, refl, sym, ◌∙◌, ap, subst}
use Rattle.flr_base.specs.declared.reply.Entry.{Entry}
use Rattle.flr_base.specs.declared.reply.Reply.{Reply}
use Rattle.lfs_words.specs.declared.command.LfsCommand.TheVariants as lfs
use Rattle.composite_layout.specs.declared.spec.MirrorSpec.{MirrorSpec}
use Rattle.script_values.specs.declared.command.Command.{Command}
use Rattle.script_values.specs.declared.command.Command.TheVariants as command
use Rattle.script_values.specs.Scripts.{ScriptView}
use Rattle.meta_server.specs.declared.answers.CopyWhat.TheVariants as what
use Rattle.meta_server.specs.Outcomes.{Gives, Refuses, Waits}
use Rattle.meta_server.specs.Outcomes as meta
use Rattle.mirror_admin.specs.OneStep.{one_step}
use Rattle.call_steps.specs.Runs.{CallStep, IsRun, IsRunOf, goes_on}
use Rattle.call_steps.specs.Servers.{Servers}
use Rattle.call_steps.specs.Steps.{Outcome}
use Rattle.client_read.specs.Reads.{new_read, read_step}
use Rattle.client_write.specs.Truncates.{new_truncate, truncate_step}
use Rattle.client_write.specs.Writes.{new_write, write_step}
use Rattle.mirror_verify.specs.Verifies.{new_verify, verify_step}
use Rattle.resync_copy.specs.Copies.{new_copy}
use Rattle.resync_copy.specs.Steps.{copy_step}
use Rattle.flr_steps.specs.declared.client.Running.{Running}
use Rattle.flr_steps.specs.declared.client.Running.TheVariants as running
use Rattle.flr_steps.specs.Commands.{answered_by, at_once, begun}
use Rattle.flr_steps.specs.Traces.{Past}
use Rattle.flr_asked.specs.CallRuns.{IsCallTo, AllStand, own_step, done_in}
use Rattle.flr_honest.specs.CallSteps.TypedCalls.{IsStepTo, IsTypedCallTo}
use Rattle.flr_honest.proofs.CallSteps.Narrowed.{typed_call}

module _ (script : ScriptView) (schedule : List ℕ) (e : Entry) (p : Past) where
  pub read_call : (name : List ℕ) (offset len : ℕ) → IsCallTo script schedule (command.Read name offset len) e p → IsTypedCallTo running.Read read_step (new_read e.client name offset len) script schedule (command.Read name offset len) e p
  read_call name offset len is = typed_call running.Read read_step (new_read e.client name offset len) script schedule (command.Read name offset len) e p (λ x place s. refl) refl is

  pub write_call : (name : List ℕ) (offset : ℕ) (bytes : List ℕ) → IsCallTo script schedule (command.Write name offset bytes) e p → IsTypedCallTo running.Write write_step (new_write e.client name offset bytes) script schedule (command.Write name offset bytes) e p
  write_call name offset bytes is = typed_call running.Write write_step (new_write e.client name offset bytes) script schedule (command.Write name offset bytes) e p (λ x place s. refl) refl is

  pub truncate_call : (name : List ℕ) (size : ℕ) → IsCallTo script schedule (command.Truncate name size) e p → IsTypedCallTo running.Truncate truncate_step (new_truncate e.client name size) script schedule (command.Truncate name size) e p
  truncate_call name size is = typed_call running.Truncate truncate_step (new_truncate e.client name size) script schedule (command.Truncate name size) e p (λ x place s. refl) refl is

  pub verify_call : (name : List ℕ) → IsCallTo script schedule (command.Lfs (lfs.Verify name)) e p → IsTypedCallTo running.Verify verify_step (new_verify e.client name) script schedule (command.Lfs (lfs.Verify name)) e p
  verify_call name is = typed_call running.Verify verify_step (new_verify e.client name) script schedule (command.Lfs (lfs.Verify name)) e p (λ x place s. refl) refl is

  pub resync_call : (name : List ℕ) (only : Option (List ℕ)) → IsCallTo script schedule (command.Lfs (lfs.Resync name only)) e p
      → IsTypedCallTo running.Copy copy_step (new_copy e.client name (what.Resync only)) script schedule (command.Lfs (lfs.Resync name only)) e p
  resync_call name only is = typed_call running.Copy copy_step (new_copy e.client name (what.Resync only)) script schedule (command.Lfs (lfs.Resync name only)) e p (λ x place s. refl) refl is

  pub extend_call : (name : List ℕ) (spec : List MirrorSpec) → IsCallTo script schedule (command.Lfs (lfs.Extend name spec)) e p
      → IsTypedCallTo running.Copy copy_step (new_copy e.client name (what.Extend spec)) script schedule (command.Lfs (lfs.Extend name spec)) e p
  extend_call name spec is = typed_call running.Copy copy_step (new_copy e.client name (what.Extend spec)) script schedule (command.Lfs (lfs.Extend name spec)) e p (λ x place s. refl) refl is

  pub victim_call : (name victim : List ℕ) → IsCallTo script schedule (command.Lfs (lfs.ExtendBy name victim)) e p
      → IsTypedCallTo running.Copy copy_step (new_copy e.client name (what.Victim victim)) script schedule (command.Lfs (lfs.ExtendBy name victim)) e p
  victim_call name victim is = typed_call running.Copy copy_step (new_copy e.client name (what.Victim victim)) script schedule (command.Lfs (lfs.ExtendBy name victim)) e p (λ x place s. refl) refl is

-- ---- commands of one step

by_answer : (s : Servers) (o : meta.Outcome Reply) → goes_on (answered_by s o) ≡ None
by_answer s (Gives answer after) = refl
by_answer s (Refuses answer) = refl
by_answer s (Waits holder) = refl

-- none goes on
none_goes_on : (c : ℕ) (asked : Command) (place : ℕ) (s : Servers) → goes_on (at_once c asked place s) ≡ None
none_goes_on c (command.Lfs of) place s = by_answer s (one_step c of place s.meta)
none_goes_on c (command.Evict other) place s = refl
none_goes_on c (command.Rot object offset byte) place s = refl
none_goes_on c (command.Read name offset len) place s = refl
none_goes_on c (command.Write name offset bytes) place s = refl
none_goes_on c (command.Truncate name size) place s = refl

nothing_then : (step : Running → ℕ → Servers → Outcome Running) (front : List (CallStep Running)) (last : CallStep Running) (place : ℕ) → IsRunOf step (front ++ last ∷ []) None place → ⊥
nothing_then step [] last place run = run
nothing_then step (x ∷ xs) last place run = run

module _ (script : ScriptView) (schedule : List ℕ) (asked : Command) (e : Entry) (p : Past) (none : begun e.client asked ≡ running.Idle) (is : IsCallTo script schedule asked e p) where
  single : (front : List (CallStep Running)) → front ≡ is.front → IsRun (own_step e.client asked) running.Idle (front ++ is.last ∷ []) → front ≡ []
  single [] same run = refl
  single (x ∷ xs) same run =
      let came = run.0.came ∙ ap (λ (call : Running). own_step e.client asked call x.place x.before) (sym run.0.same) in
      absurd (nothing_then (own_step e.client asked) xs is.last x.place (subst (λ (o : Option Running). IsRunOf (own_step e.client asked) (xs ++ is.last ∷ []) o x.place) (ap (λ o. goes_on o) run.0.came ∙ none_goes_on e.client asked x.place x.before) run.1))

  run_idle : IsRun (own_step e.client asked) running.Idle (is.front ++ is.last ∷ [])
  run_idle = subst (λ (call : Running). IsRun (own_step e.client asked) call (is.front ++ is.last ∷ [])) none is.run

  alone : is.front ≡ []
  alone = single is.front refl run_idle

  steps_are : is.front ++ is.last ∷ [] ≡ is.last ∷ []
  steps_are = ap (λ (xs : List (CallStep Running)). xs ++ is.last ∷ []) alone

  -- the call of a command of one step is that step
  pub step_call : IsStepTo script schedule asked e p
  step_call =
      let run : IsRun (own_step e.client asked) running.Idle (is.last ∷ []) = subst (λ (xs : List (CallStep Running)). IsRun (own_step e.client asked) running.Idle xs) steps_are run_idle in
      record {
        step = is.last;
        stand = (subst (λ (xs : List (CallStep Running)). AllStand script schedule e.client asked xs) steps_are is.stand).0;
        idle = run.0.same;
        came = run.0.came;
        left = run.0.left;
        begins = is.begins is.last [] steps_are;
        call_is = sym is.call_is ∙ run.0.same;
        place_is = is.place_is;
        fixes = is.fixes;
        did_is = is.did_is ∙ ap (λ (xs : List (CallStep Running)). done_in xs) steps_are;
      }
