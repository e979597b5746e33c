-- On a copy's way the lease of its file is broken once at most.
use Rattle.std.proofs.Common.{◌≡◌, ◌⊎◌, inl, inr, ℕ, ◌+◌, ◌-◌, ◌<◌, ◌≤◌, length, List, true, sym, ap, ◌∙◌, refl, arith, subst}
use Rattle.std.proofs.lemmas.Bool.{cases_lt}
use Rattle.lfs_words.specs.declared.command.LfsCommand.{LfsCommand}
use Rattle.lfs_words.specs.declared.command.LfsCommand.TheVariants as lfs
use Rattle.script_values.specs.declared.command.Command.{Command}
use Rattle.script_values.specs.declared.command.Command.TheVariants as command
use Rattle.flr_base.specs.declared.reply.Entry.{Entry}
use Rattle.flr_steps.specs.States.{IsRun, State, state_at}
use Rattle.meta_server.specs.declared.answers.CopyWhat.TheVariants as what
use Rattle.resync_copy.specs.Calls.{CopyView}
use Rattle.resync_copy.specs.Copies.{new_copy}
use Rattle.resync_copy.specs.Steps.{copy_step}
use Rattle.flr_steps.specs.declared.client.Running.TheVariants as running
use Rattle.flr_steps.specs.Traces.{Past, copy_begins}
use Rattle.flr_asked.specs.CallRuns.{IsCallTo}
use Rattle.flr_claims.specs.Calls.{Call, IsBrokenAt}
use Rattle.flr_honest.specs.Entries.{IsEntryOf, claimed}
use Rattle.flr_honest.specs.OnlyAnswers.Alone.{BreaksOnce, IsCopying}
use Rattle.flr_honest.specs.CallSteps.TypedCalls.{IsTypedCallTo}
use Rattle.flr_honest.proofs.CallRuns.Before.{point_within}
use Rattle.flr_honest.proofs.CallSteps.Before.{before_run}
use Rattle.flr_honest.proofs.CallSteps.EachKind.{extend_call, resync_call, victim_call}
use Rattle.flr_honest.proofs.BrokenLeases.Breaking.{KeepsLeasesOnItsWay}
use Rattle.flr_honest.proofs.BrokenLeases.Owning.{before_long, keeps_on_its_way}
use Rattle.flr_honest.proofs.BrokenLeases.Walking.{stood_since}

module _ (k : Call) (run : IsRun k.before) (long : k.at ≡ length k.before.schedule + 1) (own : KeepsLeasesOnItsWay k) where
  -- what was broken isn't there to be broken later
  never_later : (number place other : ℕ) → IsBrokenAt k number place → IsBrokenAt k number other → place < other → ⊥
  never_later number place other a b less =
      let low = a.since.0 in
      let high = b.since.1 in
      let rest : place + (other - 1 - place) ≡ other - 1 = omega (arith, less) in
      a.broken (stood_since k.before run k.client k.did.opened own number (other - 1 - place) place (omega (arith, low)) (omega (arith, rest, high, long)) a.at.new b.at.old a.at.new_is
      (ap (λ (n : ℕ). state_at k.before.script k.before.schedule n) rest ∙ b.at.old_is) b.stood)

  pub breaks_once : BreaksOnce k
  breaks_once number place other a b = by (cases_lt place other) (cases_lt other place)
    where
      by : (place < other) ⊎ (other ≤ place) → (other < place) ⊎ (place ≤ other) → other ≡ place
      by (inl less) rest = absurd (never_later number place other a b less)
      by (inr most) (inl more) = absurd (never_later number other place b a more)
      by (inr most) (inr least) = omega (arith, most, least)

module _ {s : State} {e : Entry} {p : Past} (is : IsEntryOf s e p) where
  copy_once : (k : CopyView) → copy_begins k.at ≡ true → IsTypedCallTo running.Copy copy_step k s.script s.schedule is.asked e p → BreaksOnce (claimed is)
  copy_once k begins call =
      let long = before_long is k begins call in
      let some = (point_within s e p is).0 in
      breaks_once (claimed is) (before_run is) (omega (arith, long, some)) (keeps_on_its_way is k begins call)

  lfs_once : (of : LfsCommand) → IsCopying (command.Lfs of) → is.asked ≡ command.Lfs of → BreaksOnce (claimed is)
  lfs_once (lfs.Resync name only) so asked =
      let call : IsCallTo s.script s.schedule (command.Lfs (lfs.Resync name only)) e p = subst (λ (a : Command). IsCallTo s.script s.schedule a e p) asked is.call in
      copy_once (new_copy e.client name (what.Resync only)) refl
      (subst (λ (a : Command). IsTypedCallTo running.Copy copy_step (new_copy e.client name (what.Resync only)) s.script s.schedule a e p) (sym asked) (resync_call s.script s.schedule e p name only call))
  lfs_once (lfs.Extend name spec) so asked =
      let call : IsCallTo s.script s.schedule (command.Lfs (lfs.Extend name spec)) e p = subst (λ (a : Command). IsCallTo s.script s.schedule a e p) asked is.call in
      copy_once (new_copy e.client name (what.Extend spec)) refl
      (subst (λ (a : Command). IsTypedCallTo running.Copy copy_step (new_copy e.client name (what.Extend spec)) s.script s.schedule a e p) (sym asked) (extend_call s.script s.schedule e p name spec call))
  lfs_once other so asked = absurd so

  -- the leases of an extend by a victim are broken once at most each
  pub merges_break_once : (name victim : List ℕ) → is.asked ≡ command.Lfs (lfs.ExtendBy name victim) → BreaksOnce (claimed is)
  merges_break_once name victim asked =
      let call : IsCallTo s.script s.schedule (command.Lfs (lfs.ExtendBy name victim)) e p = subst (λ (a : Command). IsCallTo s.script s.schedule a e p) asked is.call in
      copy_once (new_copy e.client name (what.Victim victim)) refl
      (subst (λ (a : Command). IsTypedCallTo running.Copy copy_step (new_copy e.client name (what.Victim victim)) s.script s.schedule a e p) (sym asked) (victim_call s.script s.schedule e p name victim call))

  command_once : (asked : Command) → IsCopying asked → is.asked ≡ asked → BreaksOnce (claimed is)
  command_once (command.Lfs of) so e = lfs_once of so e
  command_once other so e = absurd so

  -- a copy's lease is broken once at most
  pub copies_break_once : IsCopying is.asked → BreaksOnce (claimed is)
  copies_break_once so = command_once is.asked so refl
