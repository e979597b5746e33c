-- Where a copy of one file tells its lease broken it was broken at that place.
use Rattle.std.proofs.Common.{◌≡◌, inl, ℕ, List, [], ◌∷◌, Some, None, Option, refl, sym, ap, ◌∙◌, subst}
use Rattle.flr_base.specs.declared.reply.Left.{Left}
use Rattle.flr_base.specs.declared.reply.Reply.{Reply}
use Rattle.flr_base.specs.declared.reply.Reply.TheVariants as reply
use Rattle.flr_base.specs.declared.reply.Take.{Take}
use Rattle.layout_lease.specs.declared.lease.KeyState.{KeyState}
use Rattle.layout_lease.specs.declared.lease.KeyState.TheVariants.{Held, Broken}
use Rattle.layout_lease.specs.Leases.{KeyView, state_of}
use Rattle.layout_lease.specs.Shares.{lowest_but}
use Rattle.meta_server.specs.Ending.{copy_ends_alone, copy_ends_by, copy_ends_file}
use Rattle.meta_server.specs.Files.{File, file_of}
use Rattle.meta_server.specs.Sound.{IsSound}
use Rattle.call_steps.specs.Servers.{Servers}
use Rattle.call_steps.specs.Steps.{Outcome}
use Rattle.resync_copy.specs.Calls.{CopyView}
use Rattle.resync_copy.specs.Copies.{ends_copy, new_copy}
use Rattle.resync_copy.specs.declared.phase.CopyAt.{CopyAt}
use Rattle.resync_copy.specs.declared.phase.CopyAt.TheVariants as at
use Rattle.resync_copy.specs.declared.phase.CopyStage.TheVariants as stage
use Rattle.resync_copy.specs.Steps.{copy_at, copy_step}
use Rattle.flr_numbers.proofs.Holding.{covered_there}
use Rattle.flr_numbers.specs.Copies.{copy_hand}
use Rattle.flr_numbers.specs.Sentences.{hand_of}
use Rattle.mirror_select.proofs.Least.{In}
use Rattle.flr_steps.specs.declared.client.Running.TheVariants as running
use Rattle.flr_asked.specs.CallRuns.{FixesAnswer}
use Rattle.flr_claims.specs.Calls.{IsBrokenAt}
use Rattle.flr_honest.specs.Entries.{IsEntryOf, claimed}
use Rattle.flr_runs.proofs.Runs as runs
use Rattle.flr_honest.specs.CopyCauses.Sentences.{BrokenAreRight}
use Rattle.flr_honest.proofs.CallSteps.Before.{before_run, last_before}
use Rattle.flr_honest.proofs.BrokenLeases.Keys.{key_broken}
use Rattle.flr_honest.proofs.BrokenLeases.Lasts.{last_came}

module _ (k : CopyView) (s : Servers) (sound : IsSound s.meta) (key : KeyView) (cleared : List ℕ) (left : List Left) (place : ℕ) (takes : List Take) where
  abbrev Tells : Outcome CopyView → Type 0
  Tells o = FixesAnswer o (reply.Broken place) takes

  by_alone : (f : File) (o : Option ℕ) → Tells (ends_copy k s cleared left (copy_ends_alone key cleared s.meta f o)) → ⊥
  by_alone f (Some holder) told = told
  by_alone f None told = absurd (cc told.0)

  by_file : (o : Option File) → file_of key.file s.meta.files ≡ o → state_of s.meta.leases key ≡ Held → Tells (ends_copy k s cleared left (copy_ends_file key cleared s.meta o)) → ⊥
  by_file None is held told = (let w = covered_there s.meta.files s.meta.leases key sound.covered held in let both = sym is ∙ w.1 in cc both)
  by_file (Some f) is held told = by_alone f (lowest_but key.client f.lock) told

  -- a done that tells the lease broken found its key broken at that place
  by_state : (state : KeyState) → state_of s.meta.leases key ≡ state → Tells (ends_copy k s cleared left (copy_ends_by key cleared s.meta state)) → (state_of s.meta.leases key ≡ Broken place) × (takes ≡ [])
  by_state (Broken step) is told = (is ∙ ap Broken (let same : step ≡ place = cc told.0 in same), sym told.1)
  by_state Held is told = absurd (by_file (file_of key.file s.meta.files) refl is told)

  pub done_tells : Tells (copy_at (at.Copy (stage.Done key cleared left)) k s) → (state_of s.meta.leases key ≡ Broken place) × (takes ≡ [])
  done_tells told = by_state (state_of s.meta.leases key) refl told

pub broken_are_right : BrokenAreRight
broken_are_right s e p c f side ids cleared left place ended answer =
    let k : CopyView = new_copy e.client c.name c.what in
    let is : IsEntryOf s e p = c.is in
    let shared : c.call.last.before ≡ is.before.shared = last_before running.Copy copy_step k is is.asked c.call in
    let sound : IsSound is.before.shared.meta = (runs.all_hold is.before (before_run is)).servers.sound in
    let came : c.call.last.came ≡ copy_at c.call.last.call.at c.call.last.call c.call.last.before = last_came copy_step k c.call.front c.call.last c.call.run in
    let at_done : c.call.last.came ≡ copy_at (at.Copy (stage.Done ended.key cleared left)) c.call.last.call is.before.shared = came ∙ (λ j. copy_at (ended.done j) c.call.last.call (shared j)) in
    let told = done_tells c.call.last.call is.before.shared sound ended.key cleared left place e.takes (subst (λ (r : Reply). FixesAnswer (copy_at (at.Copy (stage.Done ended.key cleared left)) c.call.last.call is.before.shared) r e.takes) answer
    (subst (λ (o : Outcome CopyView). FixesAnswer o e.reply e.takes) at_done c.call.fixes)) in
    let hand : (hand_of (running.Copy c.call.last.call)).keys ≡ ended.key ∷ [] = ap (λ (a : CopyAt). (copy_hand a).keys) ended.done in
    let broken : IsBrokenAt (claimed is) ended.key.file place = key_broken is k refl c.call ended.key place (subst (λ (keys : List KeyView). In ended.key keys) (sym hand) (inl refl)) told.0 in
    (f, told.1, ended.file.opened, subst (λ (n : ℕ). IsBrokenAt (claimed is) n place) (ap (λ (x : KeyView). x.file) (sym ended.key_is) ∙ sym ended.number) broken)
