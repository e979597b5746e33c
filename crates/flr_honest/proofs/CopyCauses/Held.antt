-- Where the lease of a copy stands at its end, its last step before met no call that was too old, and found its file.
use Rattle.std.proofs.Common.{◌≡◌, ℕ, zero, suc, ◌+◌, ◌-◌, ◌<◌, ◌≤◌, List, [], ◌∷◌, ◌++◌, length, Option, None, Some, inl, inr, refl, sym, ap, subst, ◌∙◌, arith, append_assoc}
use Rattle.std.specs.Prelude.{slice_get, slice_index}
use Rattle.std.proofs.lemmas.Option.{slice_get-get_or}
use Rattle.flr_base.specs.declared.reply.Entry.{Entry}
use Rattle.layout_lease.specs.declared.lease.KeyState.TheVariants.{Held}
use Rattle.layout_lease.specs.Leases.{KeyView, state_of}
use Rattle.mirror_select.proofs.Sound.{every_in, in_append, in_left, in_right}
use Rattle.mirror_select.proofs.Least.{In, from_contains}
use Rattle.call_steps.specs.Runs.{CallStep, IsRun, IsRunOf, goes_on}
use Rattle.call_steps.specs.Servers.{Servers}
use Rattle.resync_copy.specs.Calls.{CopyView}
use Rattle.resync_copy.specs.Steps.{copy_step}
use Rattle.flr_steps.specs.States.{State, Stepped, next, start, state_at}
use Rattle.flr_steps.specs.States as states
use Rattle.flr_steps.specs.Traces.{Past}
use Rattle.flr_steps.proofs.Fronts.{each_place_is, fronts_are_runs}
use Rattle.flr_steps.proofs.Inversion.{step_is}
use Rattle.flr_sole.proofs.Others.{held_before}
use Rattle.flr_honest.proofs.Grounds.{runs_ground}
use Rattle.flr_honest.proofs.Knowing.Steps.{step_leaves}
use Rattle.flr_steps.specs.declared.client.Running.TheVariants as running
use Rattle.flr_asked.specs.CallRuns.{of_kind}
use Rattle.flr_honest.specs.CopyCauses.Sentences.{IsCopyOf}
use Rattle.flr_honest.proofs.CallSteps.Standing.{place_within}
use Rattle.flr_honest.proofs.CopyCauses.Ended.{first_call}
use Rattle.flr_honest.proofs.CopyCauses.Made.{Stands}
use Rattle.flr_honest.proofs.CopyCauses.Once.{last_stands}

-- ---- while others make steps

same_state : (a b : State) → Some a ≡ Some b → a ≡ b
same_state a b e = cc

-- a lease of this client that stands stood already before steps of others
pub held_back : (s : State) (run : states.IsRun s) (key : KeyView) (n place : ℕ) (a b : State) → state_at s.script s.schedule place ≡ Some a → state_at s.script s.schedule (place + n) ≡ Some b → place + n ≤ length s.schedule
    → ((q : ℕ) → place ≤ q → q < place + n → slice_get s.schedule q ≡ Some key.client → ⊥) → state_of b.shared.meta.leases key ≡ Held → state_of a.shared.meta.leases key ≡ Held
held_back s run key zero place a b at_a at_b within others held =
    let same : place + 0 ≡ place = omega arith in
    subst (λ (x : State). state_of x.shared.meta.leases key ≡ Held) (same_state b a (sym at_b ∙ ap (state_at s.script s.schedule) same ∙ at_a)) held
held_back s run key (suc n) place a b at_a at_b within others held =
    let lt : place + n < length s.schedule = omega (arith, within) in
    let d : ℕ = slice_index s.schedule (place + n) in
    let at_d : slice_get s.schedule (place + n) ≡ Some d = slice_get-get_or s.schedule (place + n) _ lt in
    let p = each_place_is (start s.script) s s.schedule (place + n) d run.run at_d in
    let one : place + suc n ≡ (place + n) + 1 = omega arith in
    let same : p.new ≡ b = same_state p.new b (sym p.new_is ∙ ap (state_at s.script s.schedule) (sym one) ∙ at_b) in
    let run_mid : states.IsRun p.old = fronts_are_runs s p.old (place + n) run p.old_is in
    let run_new : states.IsRun p.new = fronts_are_runs s p.new ((place + n) + 1) run p.new_is in
    let mid = runs_ground p.old run_mid in
    let leaves = step_leaves p.old p.new d mid.holds mid.room (step_is p.old p.new d p.made) in
    let apart : key.client ≡ d → ⊥ = λ e. others (place + n) (omega arith) (omega arith) (at_d ∙ ap (λ (x : ℕ). Some x) (sym e)) in
    let held_new : state_of p.new.shared.meta.leases key ≡ Held = subst (λ (x : State). state_of x.shared.meta.leases key ≡ Held) (sym same) held in
    let held_mid = held_before p.old.shared.meta p.new.shared.meta key (runs_ground p.new run_new).holds.servers.sound (λ l. leaves.leases key l apart) held_new in
    held_back s run key n place a p.old at_a p.old_is (omega (arith, lt)) (λ q low high. others q low (omega (arith, high))) held_mid

-- ---- the places of the steps

behind : (xs : List (CallStep CopyView)) (x : CallStep CopyView) (rest : List (CallStep CopyView)) (call : Option CopyView) (last : ℕ) → IsRunOf copy_step (xs ++ x ∷ rest) call last → last < x.place
behind [] x rest None last run = absurd run
behind [] x rest (Some v) last run = run.0.later
behind (y ∷ xs) x rest None last run = absurd run
behind (y ∷ xs) x rest (Some v) last run = let more = behind xs x rest (goes_on y.came) y.place run.1 in let here = run.0.later in omega (arith, more, here)

-- the steps before one have places before it
pub before_place : (xs : List (CallStep CopyView)) (x : CallStep CopyView) (rest : List (CallStep CopyView)) (call : Option CopyView) (last : ℕ) → IsRunOf copy_step (xs ++ x ∷ rest) call last → (y : CallStep CopyView) → In y xs → y.place < x.place
before_place [] x rest call last run y i = absurd i
before_place (z ∷ xs) x rest None last run y i = absurd run
before_place (z ∷ xs) x rest (Some v) last run y (inl e) = let lt = behind xs x rest (goes_on z.came) z.place run.1 in subst (λ (w : CallStep CopyView). w.place < x.place) e lt
before_place (z ∷ xs) x rest (Some v) last run y (inr i) = before_place xs x rest (goes_on z.came) z.place run.1 y i

-- ---- the last step before the end

module _ {s : State} {e : Entry} {p : Past} (c : IsCopyOf s e p) (pre : List (CallStep CopyView)) (x : CallStep CopyView) (front : c.call.front ≡ pre ++ x ∷ []) where
  abbrev steps : List (CallStep CopyView)
  steps = c.call.front ++ c.call.last ∷ []

  steps_are : steps ≡ pre ++ x ∷ c.call.last ∷ []
  steps_are = ap (λ (xs : List (CallStep CopyView)). xs ++ c.call.last ∷ []) front ∙ append_assoc pre (x ∷ []) (c.call.last ∷ [])

  run_so : IsRun copy_step (first_call c) (pre ++ x ∷ c.call.last ∷ [])
  run_so = subst (IsRun copy_step (first_call c)) steps_are c.call.run

  pub x_stands : Stands s e.client c.is.asked x
  x_stands = every_in (Stands s e.client c.is.asked) steps x c.call.stand (in_left x c.call.front (c.call.last ∷ []) (subst (In x) (sym front) (in_right x pre (x ∷ []) (inl refl))))

  -- it is before the last, and behind all others
  two_last : (xs : List (CallStep CopyView)) (y z : CallStep CopyView) (call : Option CopyView) (last : ℕ) → IsRunOf copy_step (xs ++ y ∷ z ∷ []) call last → y.place < z.place
  two_last [] y z None last run = absurd run
  two_last [] y z (Some v) last run = by (goes_on y.came) run.1
    where
      by : (o : Option CopyView) → IsRunOf copy_step (z ∷ []) o y.place → y.place < z.place
      by None r = absurd r
      by (Some w) r = r.0.later
  two_last (w ∷ xs) y z None last run = absurd run
  two_last (w ∷ xs) y z (Some v) last run = two_last xs y z (goes_on w.came) w.place run.1

  later : x.place < c.call.last.place
  later = two_last pre x c.call.last (Some (first_call c)) 0 run_so

  -- none of the client's steps is between them
  none_between : (q : ℕ) → x.place ≤ q → q < x.place + ((e.at - 1) - x.place) → slice_get s.schedule q ≡ Some e.client → ⊥
  none_between q low high own =
      let lt = later in
      let at = c.call.place_is in
      let first : e.first ≤ x.place = first_low in
      let there = c.call.all (q + 1) (omega (arith, first, low)) (omega (arith, high, lt, at)) (ap (slice_get s.schedule) (let same : q + 1 - 1 ≡ q = omega arith in same) ∙ own) in
      by there.0 (from_contains steps there.0 there.1) there.2
    where
      first_low : e.first ≤ x.place
      first_low = low_by pre refl
        where
          low_by : (ps : List (CallStep CopyView)) → pre ≡ ps → e.first ≤ x.place
          low_by [] same = let one = c.call.begins x (c.call.last ∷ []) (steps_are ∙ ap (λ (zs : List (CallStep CopyView)). zs ++ x ∷ c.call.last ∷ []) same) in omega (arith, one)
          low_by (z ∷ zs) same =
              let one = c.call.begins z (zs ++ x ∷ c.call.last ∷ []) (steps_are ∙ ap (λ (ws : List (CallStep CopyView)). ws ++ x ∷ c.call.last ∷ []) same) in
              let less = before_place pre x (c.call.last ∷ []) (Some (first_call c)) 0 run_so z (subst (In z) (sym same) (inl refl)) in
              omega (arith, one, less)

      by : (y : CallStep CopyView) → In y steps → y.place ≡ q + 1 → ⊥
      by y i is = elim (in_append y c.call.front (c.call.last ∷ []) i) as (λ _. ⊥) [
        | inl j ↦ elim (in_append y pre (x ∷ []) (subst (In y) front j)) as (λ _. ⊥) [
          | inl k ↦ (let less = before_place pre x (c.call.last ∷ []) (Some (first_call c)) 0 run_so y k in omega (arith, less, is, low))
          | inr k ↦ only k
        ]
        | inr j ↦ final j
      ]
        where
          only : In y (x ∷ []) → ⊥
          only (inl same) = let here : x.place ≡ y.place = ap (λ (w : CallStep CopyView). w.place) same in omega (arith, here, is, low)
          only (inr none) = none

          final : In y (c.call.last ∷ []) → ⊥
          final (inl same) = let here : c.call.last.place ≡ y.place = ap (λ (w : CallStep CopyView). w.place) same in let at = c.call.place_is in let lt = later in omega (arith, here, is, at, high, lt)
          final (inr none) = none

  -- a lease of the client that stands at the end stood behind that step
  pub held_behind : (key : KeyView) → key.client ≡ e.client → state_of c.call.last.before.meta.leases key ≡ Held → state_of x.after.meta.leases key ≡ Held
  held_behind key own held =
      let lt = later in
      let at = c.call.place_is in
      let within = place_within s.script s.schedule e.client c.is.asked (of_kind running.Copy c.call.last) (last_stands c) in
      let gap : x.place + ((e.at - 1) - x.place) ≡ c.call.last.place - 1 = omega (arith, lt, at) in
      let b : State = (last_stands c).old in
      let back = held_back s c.is.run key ((e.at - 1) - x.place) x.place x_stands.new b x_stands.new_is (ap (state_at s.script s.schedule) gap ∙ (last_stands c).old_is) (omega (arith, within, gap))
      (λ q low high mine. none_between q low high (mine ∙ ap (λ (n : ℕ). Some n) own)) (subst (λ (v : Servers). state_of v.meta.leases key ≡ Held) (last_stands c).before_is held) in
      subst (λ (v : Servers). state_of v.meta.leases key ≡ Held) (sym x_stands.after_is) back
