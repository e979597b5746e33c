-- The logs of targets grow along a run.
use Rattle.std.proofs.Common.{◌≡◌, ℕ, ◌≤◌, ◌-◌, suc, zero, Some, List, [], ◌∷◌, length, take, sym, subst, arith}
use Rattle.object_target.specs.TargetState.{next_call}
use Rattle.call_steps.specs.Servers.{Servers, target_at}
use Rattle.call_steps.specs.Steps.{Outcome, Going, Fixed, Ended, Answered, Blocked}
use Rattle.flr_steps.specs.declared.client.Client.{Client}
use Rattle.flr_steps.specs.declared.client.Running.{Running}
use Rattle.flr_steps.specs.Clients.{first_now}
use Rattle.flr_steps.specs.States.{State, after, next, place_in}
use Rattle.flr_steps.specs.Steps.{LeavesState, StepIs}
use Rattle.flr_steps.proofs.Fronts.{begins_with}
use Rattle.flr_steps.proofs.Induction.{always}
use Rattle.flr_steps.proofs.Inversion.{step_is}
use Rattle.flr_bound.proofs.Runs.{IsHeld, all_got, at_place, step_held}
use Rattle.flr_honest.proofs.OnlyAnswers.Rising.Commands.{IsBegun, stripes_now, step_does}
use Rattle.flr_honest.proofs.OnlyAnswers.Rising.Outcomes.{Does, OnLeft}

-- no target has a shorter log behind
abbrev pub AreLonger : Servers → Servers → Type 0
AreLonger old new = (id : ℕ) → next_call (target_at old.targets id) ≤ next_call (target_at new.targets id)

module _ (s t : State) (c stripes first : ℕ) (client : Client) where
  by_outcome : (came : Outcome Running) → OnLeft (Does stripes s.shared) came → LeavesState s c client first came t → AreLonger s.shared t.shared
  by_outcome (Going next after) does left = subst (λ (u : State). AreLonger s.shared u.shared) (sym left) does.calls
  by_outcome (Fixed next reply takes after) does left = subst (λ (u : State). AreLonger s.shared u.shared) (sym left) does.calls
  by_outcome (Ended after) does left = subst (λ (u : State). AreLonger s.shared u.shared) (sym left) does.calls
  by_outcome (Answered reply takes after) does left = subst (λ (u : State). AreLonger s.shared u.shared) (sym left) does.calls
  by_outcome (Blocked holder) does left = absurd left

-- so it is with each step of a run
pub step_rises : (s t : State) (c : ℕ) → IsHeld s → StepIs s c t → AreLonger s.shared t.shared
step_rises s t c held st =
    let begun : IsBegun st.client.call = all_got (λ (x : Client). IsBegun x.call) s.clients (c - 1) st.client held.begun (at_place s.clients c st.client st.here) in
    by_outcome s t c (stripes_now (length s.shared.meta.nexts) st.client.call st.asked) (first_now st.client.call (place_in s) st.client.first) st.client st.came
    (subst (OnLeft (Does (stripes_now (length s.shared.meta.nexts) st.client.call st.asked) s.shared)) st.made (step_does c (place_in s) s.shared st.client.call st.asked begun)) st.left

-- and with all steps from one state on
along_rises : (cs : List ℕ) (s t : State) → IsHeld s → after s cs ≡ Some t → AreLonger s.shared t.shared
along_rises cs s t held e = (always (λ (u : State). IsHeld u × AreLonger s.shared u.shared) more cs s t (held, λ id. (omega arith)) e).1
  where
    more : (u w : State) (c : ℕ) → IsHeld u × AreLonger s.shared u.shared → StepIs u c w → IsHeld w × AreLonger s.shared w.shared
    more u w c h st = (step_held u w c h.0 st, λ id. (let one = h.1 id in let two = step_rises u w c h.0 st id in omega (arith, one, two)))

-- of two states of a run the later one has the longer logs
pub between_rises : (cs : List ℕ) (i j : ℕ) (s a b : State) → i ≤ j → IsHeld s → after s (take i cs) ≡ Some a → after s (take j cs) ≡ Some b → AreLonger a.shared b.shared
between_rises cs zero j s a b le held e u =
    let same : s ≡ a = cc in
    subst (λ (x : State). AreLonger x.shared b.shared) same (along_rises (take j cs) s b held u)
between_rises cs (suc i) zero s a b le held e u = absurd (omega (arith, le))
between_rises [] (suc i) (suc j) s a b le held e u =
    let same : s ≡ a = cc in
    subst (λ (x : State). AreLonger x.shared b.shared) same (along_rises [] s b held u)
between_rises (c ∷ cs) (suc i) (suc j) s a b le held e u =
    let one = begins_with s c (take i cs) a e in
    let two = begins_with s c (take j cs) b u in
    let first = one.made in
    let second = two.made in
    let same : one.mid ≡ two.mid = cc in
    between_rises cs i j one.mid a b (omega (arith, le)) (step_held s one.mid c held (step_is s one.mid c one.made)) one.rest (subst (λ (x : State). after x (take j cs) ≡ Some b) (sym same) two.rest)
