-- Where the fresh components of files come from after each step.
use Rattle.std.proofs.Common.{ℕ, length, refl, sym, subst}
use Rattle.script_values.specs.Commands.{IsCommand}
use Rattle.meta_server.specs.Ending.{both_given}
use Rattle.meta_server.specs.Files.{MetaView}
use Rattle.call_steps.specs.Steps.{Outcome, Going, Fixed, Ended, Answered, Blocked}
use Rattle.flr_steps.specs.declared.client.Client.{Client}
use Rattle.flr_steps.specs.declared.client.Running.{Running}
use Rattle.flr_steps.specs.Clients.{call_now, first_now}
use Rattle.flr_steps.specs.States.{State, place_in}
use Rattle.flr_steps.specs.Steps.{LeavesState, StepIs}
use Rattle.flr_numbers.specs.Sentences.{Holds, IsCallOf}
use Rattle.flr_numbers.proofs.Clients.{is_now}
use Rattle.flr_numbers.proofs.Commands.{is_command}
use Rattle.flr_behind.proofs.Steps.{OnMeta}
use Rattle.flr_bytes.specs.Laws.{StepsBring}
use Rattle.flr_honest.proofs.Origins.Calls.{Brings, call_brings, stays}
use Rattle.flr_honest.proofs.Origins.Commands.{step_leaves}
use Rattle.flr_honest.proofs.Origins.Files.{kept, same}

-- what a step leaves of the metadata server is what it came to
left_so : (P : MetaView → Type 0) (s : State) (c : ℕ) (client : Client) (first : ℕ) (came : Outcome Running) (t : State) → OnMeta P came → LeavesState s c client first came t → P t.shared.meta
left_so P s c client first (Going next after) t so left = subst (λ (x : State). P x.shared.meta) (sym left) so
left_so P s c client first (Fixed next reply takes after) t so left = subst (λ (x : State). P x.shared.meta) (sym left) so
left_so P s c client first (Ended after) t so left = subst (λ (x : State). P x.shared.meta) (sym left) so
left_so P s c client first (Answered reply takes after) t so left = subst (λ (x : State). P x.shared.meta) (sym left) so
left_so P s c client first (Blocked holder) t so left = absurd left

-- each fresh component that is there after a step comes from somewhere
pub step_from : (s t : State) (c : ℕ) → Holds s → (step : StepIs s c t) → Brings s step.asked (call_now c step.client.call step.asked) t.shared.meta
step_from s t c h step =
    let client : Client = step.client in
    let of = h.clients c client step.here in
    let good : IsCommand s.script.most s.script.targets (length s.script.clients) step.asked = is_command s.script c client.done step.asked h.script step.commanded in
    let call : Running = call_now c client.call step.asked in
    let is : IsCallOf c call = is_now c s.shared step.asked s.script.most s.script.targets (length s.script.clients) h.script.form.few_mirrors h.script.form.few_clients good client.call of.call in
    let m : MetaView = s.shared.meta in
    let P : MetaView → Type 0 = Brings s step.asked call in
    let came = step_leaves P step.asked c (place_in s) s.shared call (record { same = stays s step.asked call m (same m); calls = call_brings s step.asked call h.servers.sound }) (λ ours theirs. stays s step.asked call (both_given ours theirs m) (kept m (both_given ours theirs m) refl)) is in
    left_so P s c client (first_now client.call (place_in s) client.first) step.came t (subst (λ (o : Outcome Running). OnMeta P o) step.made came) step.left

-- so it is at each step of a run
pub step_brings : StepsBring
step_brings s t old new c is n f d there listed fresh = step_from s t c is.before.holds is.step n f there d listed fresh
