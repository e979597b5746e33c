-- A key of a call that is broken before its point was broken on its way, by a step that breaks leases, at the place that it tells.
use Rattle.std.proofs.Common.{◌≡◌, ◌⊎◌, inl, inr, ℕ, ◌+◌, ◌-◌, ◌<◌, ◌≤◌, true, List, length, Some, sym, ap, ◌∙◌, subst, arith}
use Rattle.std.proofs.lemmas.Bool.{true≢false}
use Rattle.std.proofs.Math.Seq.{take-length}
use Rattle.layout_lease.specs.declared.lease.KeyState.TheVariants.{Broken}
use Rattle.layout_lease.specs.declared.lease.Lease.{Lease}
use Rattle.layout_lease.specs.Leases.{KeyView, holder_of, is_unbroken}
use Rattle.mirror_select.proofs.Least.{In}
use Rattle.flr_steps.specs.States.{IsRun, State, after, place_in, start, state_at}
use Rattle.flr_claims.specs.Calls.{Call, HasLease, IsBrokenAt, IsLeased, IsStepAt, breaks_leases}
use Rattle.flr_honest.proofs.Changes.Evictions.{runs_take_theirs}
use Rattle.flr_honest.proofs.BrokenLeases.Origins.{ComesFrom, of_all}
use Rattle.flr_honest.proofs.BrokenLeases.Tables.{HasStanding, holder_stands, one_numbered, one_stands, standing_holder}
use Rattle.flr_honest.proofs.BrokenLeases.Walking.{IsThereAt, IsTurnedAt, IsTurnedSince, back, keys_come, new_runs, old_runs, sound_in, stood_since}

-- the state behind the whole run
whole : (last : State) → IsRun last → state_at last.script last.schedule (length last.schedule) ≡ Some last
whole last run = ap (λ (xs : List ℕ). after (start last.script) xs) (take-length last.schedule) ∙ run.run

-- the call's own steps on its way leave the leases
abbrev pub KeepsLeasesOnItsWay : Call → Type 0
KeepsLeasesOnItsWay k = (place : ℕ) → k.did.opened < place → place ≤ length k.before.schedule → (at : IsStepAt k.before place) → at.client ≡ k.client → at.new.shared.meta.leases ≡ at.old.shared.meta.leases

module _ (k : Call) (run : IsRun k.before) (long : k.at ≡ length k.before.schedule + 1) (own : KeepsLeasesOnItsWay k) (lease : Lease) (mine : lease.client ≡ k.client) where
  module _ (place : ℕ) (behind : k.did.opened < place) (within : place ≤ length k.before.schedule) (is : IsTurnedAt k.before k.client place lease) where
    abbrev old : State
    old = is.at.old

    file_same : is.turned.old.file ≡ lease.file
    file_same = ap (λ (key : KeyView). key.file) is.turned.key

    stood : HasLease old k.client lease.file
    stood =
        ap (holder_of old.shared.meta.leases) (sym file_same)
        ∙ standing_holder old.shared.meta.leases (sound_in k.before run old (old_runs k.before run place is.at)) is.turned.old is.turned.there (ap is_unbroken is.turned.held)
        ∙ ap (λ (n : ℕ). Some n) (ap (λ (key : KeyView). key.client) is.turned.key ∙ mine)

    broken : HasLease is.at.new k.client lease.file → ⊥
    broken has =
        let w : HasStanding is.at.new.shared.meta.leases.keys k.client lease.file = holder_stands is.at.new.shared.meta.leases lease.file k.client has in
        from w (of_all (ComesFrom old.shared.meta.leases.keys is.at.client (place_in old)) is.at.new.shared.meta.leases.keys w.lease (keys_come old is.at.new is.at.client (old_runs k.before run place is.at) is.at.step) w.there)
      where
        from : (w : HasStanding is.at.new.shared.meta.leases.keys k.client lease.file) → ComesFrom old.shared.meta.leases.keys is.at.client (place_in old) w.lease → ⊥
        from w (inl was) =
            let one : w.lease ≡ is.turned.old =
            one_stands old.shared.meta.leases (sound_in k.before run old (old_runs k.before run place is.at)) w.lease is.turned.old was is.turned.there w.unbroken (ap is_unbroken is.turned.held) (w.of ∙ sym file_same) in
            let number : w.lease.number ≡ lease.number = ap (λ (x : Lease). x.number) one ∙ ap (λ (key : KeyView). key.number) is.turned.key in
            let same : w.lease ≡ lease = one_numbered is.at.new.shared.meta.leases (sound_in k.before run is.at.new (new_runs k.before run place is.at)) w.lease lease w.there is.there number in
            true≢false (sym w.unbroken ∙ ap (λ (x : Lease). is_unbroken x.state) same ∙ ap is_unbroken is.turned.now)
        from w (inr (inl turned)) = true≢false (sym w.unbroken ∙ ap is_unbroken turned.now)
        from w (inr (inr its)) = is.other (sym its ∙ w.own)

    breaks : breaks_leases is.at.step.asked ≡ true
    breaks = by (((runs_take_theirs k.before run).1 place is.at).leases k.client lease.file stood broken)
      where
        by : (k.client ≡ is.at.client) ⊎ (breaks_leases is.at.step.asked ≡ true) → breaks_leases is.at.step.asked ≡ true
        by (inl same) = absurd (is.other (sym same))
        by (inr so) = so

    gone : IsLeased k lease.file → ⊥
    gone leased =
        let rest : place + (length k.before.schedule - place) ≡ length k.before.schedule = omega (arith, within) in
        broken (stood_since k.before run k.client k.did.opened own lease.file (length k.before.schedule - place) place (omega (arith, behind)) (omega (arith, rest)) is.at.new k.before is.at.new_is
        (ap (λ (n : ℕ). state_at k.before.script k.before.schedule n) rest ∙ whole k.before run) leased)

    pub broken_there : IsBrokenAt k lease.file place
    broken_there = record { since = (behind, omega (arith, long, within)); at = is.at; breaks = breaks; stood = stood; broken = broken; gone = gone }

  -- the key is broken before the point, and wasn't when the call began
  pub broken_on_its_way : (place : ℕ) → In lease k.before.shared.meta.leases.keys → lease.state ≡ Broken place → k.did.opened ≤ length k.before.schedule
      → ((y : State) → state_at k.before.script k.before.schedule k.did.opened ≡ Some y → In lease y.shared.meta.leases.keys → ⊥) → IsBrokenAt k lease.file place
  broken_on_its_way place there state low fresh =
      let rest : k.did.opened + (length k.before.schedule - k.did.opened) ≡ length k.before.schedule = omega (arith, low) in
      by (back k.before run k.client k.did.opened own lease mine (length k.before.schedule - k.did.opened) (omega (arith, rest))
      (record { state = k.before; state_is = ap (λ (n : ℕ). state_at k.before.script k.before.schedule n) rest ∙ whole k.before run; there = there }))
    where
      by : IsThereAt k.before k.did.opened lease ⊎ IsTurnedSince k.before k.client k.did.opened (k.did.opened + (length k.before.schedule - k.did.opened)) lease → IsBrokenAt k lease.file place
      by (inl first) = absurd (fresh first.state first.state_is first.there)
      by (inr since) =
          let now = sym since.is.turned.now ∙ state in
          let same : since.place ≡ place = cc now in
          subst (IsBrokenAt k lease.file) same (broken_there since.place since.behind (let w = since.within in omega (arith, w, low)) since.is)
