-- A step of a client: what it leaves of its call, of the files, and of the bytes of others.
use Rattle.std.proofs.Common.{◌≡◌, ℕ, None, Some, ◌⊎◌, inl, inr, sym, ap, subst, ◌∙◌}
use Rattle.script_values.specs.declared.command.Command.{Command}
use Rattle.script_values.specs.declared.command.Command.TheVariants as command
use Rattle.flr_base.specs.declared.reply.Reply.{Reply}
use Rattle.meta_server.specs.Files.{File, file_of}
use Rattle.meta_server.specs.Outcomes.{Gives, Refuses, Waits}
use Rattle.meta_server.specs.Outcomes as meta
use Rattle.mirror_admin.specs.OneStep.{one_step}
use Rattle.call_steps.specs.Servers.{Servers}
use Rattle.call_steps.specs.Steps.{Outcome, Going, Fixed, Ended, Answered, Blocked, widen}
use Rattle.flr_steps.specs.declared.client.Client.{Client}
use Rattle.flr_steps.specs.declared.client.Running.{Running}
use Rattle.flr_steps.specs.declared.client.Running.TheVariants as running
use Rattle.flr_steps.specs.Clients.{call_now, first_now, going, over}
use Rattle.flr_steps.specs.Commands.{answered_by, at_once}
use Rattle.flr_steps.specs.States.{State, client_at, place_in}
use Rattle.flr_steps.specs.Steps.{LeavesState, StepIs}
use Rattle.flr_steps.specs.Traces.{Trace, traced}
use Rattle.flr_claims.specs.Honesty.{IsOpen}
use Rattle.flr_claims.specs.Sending.{attempt_of}
use Rattle.flr_numbers.specs.Frames.{Leaves}
use Rattle.flr_numbers.specs.Hands.{Fine}
use Rattle.flr_numbers.specs.Sentences.{HasRoom, Holds, IsCallOf, hand_of}
use Rattle.flr_numbers.proofs.Keeping.{came_fine}
use Rattle.flr_places.proofs.Keeping.{new_same}
use Rattle.flr_sole.proofs.Keeping.{now_attempts}
use Rattle.flr_bytes.specs.Files.{Closes, HasLandedOver}
use Rattle.flr_bytes.specs.Laws.{StepsKeepBytes}
use Rattle.flr_bytes.specs.Runs.{Honest, IsStep}
use Rattle.flr_bytes.specs.Sentences.{byte_in}
use Rattle.flr_honest.proofs.Knowing.Closed.{none_attempts, one_client}
use Rattle.flr_honest.proofs.Knowing.Reading.{OnNext}

-- ---- the call afterwards

-- what holds of a kind of call holds of any
pub widened : {C : Type 0} (P : C → Servers → Type 0) (Q : Running → Servers → Type 0) (f : C → Running) → ((x : C) (s : Servers) → P x s → Q (f x) s) → (o : Outcome C) → OnNext P o → OnNext Q (widen f o)
widened P Q f to (Going next after) h = to next after h
widened P Q f to (Fixed next reply takes after) h = to next after h
widened P Q f to (Ended after) h = tt
widened P Q f to (Answered reply takes after) h = tt
widened P Q f to (Blocked holder) h = tt

-- what holds of each call of a kind
pub any_next : {C : Type 0} (Q : Running → Servers → Type 0) (f : C → Running) → ((x : C) (s : Servers) → Q (f x) s) → (o : Outcome C) → OnNext Q (widen f o)
any_next Q f each (Going next after) = each next after
any_next Q f each (Fixed next reply takes after) = each next after
any_next Q f each (Ended after) = tt
any_next Q f each (Answered reply takes after) = tt
any_next Q f each (Blocked holder) = tt

answered_next : (Q : Running → Servers → Type 0) (s : Servers) (o : meta.Outcome Reply) → OnNext Q (answered_by s o)
answered_next Q s (Gives answer after) = tt
answered_next Q s (Refuses answer) = tt
answered_next Q s (Waits holder) = tt

-- a command of one step leaves no call
pub once_next : (Q : Running → Servers → Type 0) (c place : ℕ) (s : Servers) (asked : Command) → OnNext Q (at_once c asked place s)
once_next Q c place s (command.Lfs of) = answered_next Q s (one_step c of place s.meta)
once_next Q c place s (command.Evict other) = tt
once_next Q c place s (command.Rot object offset byte) = tt
once_next Q c place s (command.Read name offset len) = tt
once_next Q c place s (command.Write name offset bytes) = tt
once_next Q c place s (command.Truncate name size) = tt

module _ (Q : Running → Servers → Type 0) (none : (s : Servers) → Q running.Idle s) (s : State) (c : ℕ) (client : Client) (first : ℕ) (here : client_at s.clients c ≡ Some client) where
  own_left : (came : Outcome Running) (t : State) → OnNext Q came → LeavesState s c client first came t → (now : Client) → client_at t.clients c ≡ Some now → Q now.call t.shared
  own_left (Going next after) t h left now there =
      let same : going client first next ≡ now = one_client t.clients c (going client first next) now (ap (λ (x : State). client_at x.clients c) left ∙ new_same s.clients c client (going client first next) here) there in
      subst (λ (x : Client). Q x.call t.shared) same (subst (λ (x : State). Q next x.shared) (sym left) h)
  own_left (Fixed next reply takes after) t h left now there =
      let same : going client first next ≡ now = one_client t.clients c (going client first next) now (ap (λ (x : State). client_at x.clients c) left ∙ new_same s.clients c client (going client first next) here) there in
      subst (λ (x : Client). Q x.call t.shared) same (subst (λ (x : State). Q next x.shared) (sym left) h)
  own_left (Ended after) t h left now there =
      let same : over client first ≡ now = one_client t.clients c (over client first) now (ap (λ (x : State). client_at x.clients c) left ∙ new_same s.clients c client (over client first) here) there in
      subst (λ (x : Client). Q x.call t.shared) same (none t.shared)
  own_left (Answered reply takes after) t h left now there =
      let same : over client first ≡ now = one_client t.clients c (over client first) now (ap (λ (x : State). client_at x.clients c) left ∙ new_same s.clients c client (over client first) here) there in
      subst (λ (x : Client). Q x.call t.shared) same (none t.shared)
  own_left (Blocked holder) t h left now there = absurd left

-- what a step comes to holds of the call that its client has afterwards
pub own_next : (Q : Running → Servers → Type 0) → ((s : Servers) → Q running.Idle s) → (s t : State) (c : ℕ) (step : StepIs s c t) → OnNext Q step.came → (now : Client) → client_at t.clients c ≡ Some now → Q now.call t.shared
own_next Q none s t c step h now there = own_left Q none s c step.client (first_now step.client.call (place_in s) step.client.first) step.here step.came t h step.left now there

-- ---- what it leaves to others

left_leaves : (s : State) (c : ℕ) (client : Client) (first : ℕ) (came : Outcome Running) (t : State) → Fine c hand_of (IsCallOf c) s.shared came → LeavesState s c client first came t → Leaves c s.shared.meta t.shared.meta
left_leaves s c client first (Going next after) t fine left = subst (λ (x : State). Leaves c s.shared.meta x.shared.meta) (sym left) fine.0.changes.meta
left_leaves s c client first (Fixed next reply takes after) t fine left = subst (λ (x : State). Leaves c s.shared.meta x.shared.meta) (sym left) fine.0.changes.meta
left_leaves s c client first (Ended after) t fine left = subst (λ (x : State). Leaves c s.shared.meta x.shared.meta) (sym left) fine.changes.meta
left_leaves s c client first (Answered reply takes after) t fine left = subst (λ (x : State). Leaves c s.shared.meta x.shared.meta) (sym left) fine.changes.meta
left_leaves s c client first (Blocked holder) t fine left = absurd left

pub step_leaves : (s t : State) (c : ℕ) → Holds s → HasRoom s.shared → StepIs s c t → Leaves c s.shared.meta t.shared.meta
step_leaves s t c h room step = left_leaves s c step.client (first_now step.client.call (place_in s) step.client.first) step.came t (came_fine s t c h room step) step.left

-- ---- bytes

module _ (keep : StepsKeepBytes) (s t : State) (old new : Trace) (c : ℕ) (is : IsStep s t old new c) (e : new ≡ traced s t old c) (honest : Honest s old) (n x : ℕ) (f g : File) (found : file_of n s.shared.meta.files ≡ Some f) (there : file_of n t.shared.meta.files ≡ Some g) where
  -- a byte that isn't open stays
  pub shut_stays : (IsOpen s old n x → ⊥) → byte_in t new n x ≡ byte_in s old n x
  shut_stays shut = by (keep s t old new c is e honest.sized n x f g found there)
    where
      by : (byte_in t new n x ≡ byte_in s old n x) ⊎ Closes s t old new c n x → byte_in t new n x ≡ byte_in s old n x
      by (inl same) = same
      by (inr closes) =
          let w : HasLandedOver s old c n x = closes.was in
          absurd (shut (record { client = c; attempt = w.attempt; attempting = w.attempting; same = w.same; place = w.place; part = w.part; landed = w.landed; over = w.over }))

  -- and so does each byte at a step of a call that doesn't write
  pub quiet_stays : attempt_of (call_now c is.step.client.call is.step.asked) ≡ None → byte_in t new n x ≡ byte_in s old n x
  quiet_stays none = by (keep s t old new c is e honest.sized n x f g found there)
    where
      by : (byte_in t new n x ≡ byte_in s old n x) ⊎ Closes s t old new c n x → byte_in t new n x ≡ byte_in s old n x
      by (inl same) = same
      by (inr closes) = absurd (none_attempts s c closes.was.attempt is.step.client closes.was.attempting is.step.here (sym (now_attempts c is.step.asked is.step.client.call) ∙ none))
