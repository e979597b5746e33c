-- What a copy knows at a step of its own, and that the step leaves all bytes where it resets nothing and puts nothing.
use Rattle.std.proofs.Common.{◌≡◌, ℕ, Some, inl, inr, ◌⊎◌, sym, ap, subst, ◌∙◌}
use Rattle.meta_server.specs.Files.{File, file_of}
use Rattle.resync_copy.specs.declared.phase.CopyAt.{CopyAt}
use Rattle.resync_copy.specs.declared.phase.CopyAt.TheVariants as at
use Rattle.resync_copy.specs.declared.phase.CopyStage.TheVariants as stage
use Rattle.resync_copy.specs.Calls.{CopyView}
use Rattle.flr_steps.specs.declared.client.Running.{Running}
use Rattle.flr_steps.specs.declared.client.Running.TheVariants as running
use Rattle.flr_steps.specs.Clients.{call_now}
use Rattle.flr_steps.specs.States.{State}
use Rattle.flr_steps.specs.Traces.{Trace, traced}
use Rattle.flr_claims.specs.Sending.{Part}
use Rattle.flr_sole.specs.Copies as copies
use Rattle.flr_sole.specs.Copies.{HasLandedOn}
use Rattle.flr_bytes.specs.Calls.{CopySays, Says}
use Rattle.flr_bytes.specs.Files.{Closes}
use Rattle.flr_bytes.specs.Laws.{StepsKeepBytes, StepsWrite}
use Rattle.flr_bytes.specs.Runs.{Honest, IsStep}
use Rattle.flr_bytes.specs.Sentences.{byte_in}
use Rattle.flr_bytes.specs.Writing.{HoldsStill, Writes}
use Rattle.flr_honest.proofs.Held.Kept.{none_copies}

-- it neither resets nor puts
abbrev pub WritesNone : CopyAt → Type 0
WritesNone at.Begin = Unit {0}
WritesNone (at.Copy (stage.Reset x next)) = ⊥
WritesNone (at.Copy (stage.Put h bytes)) = ⊥
WritesNone (at.Copy other) = Unit {0}
WritesNone (at.Merge next) = Unit {0}

module _ (write : StepsWrite) (s t : State) (old new : Trace) (c : ℕ) (is : IsStep s t old new c) (e : new ≡ traced s t old c) (k : CopyView) (is_copy : call_now c is.step.client.call is.step.asked ≡ running.Copy k) where
  -- what it knows of bytes, and who may still write there, where it was under way
  module _ (honest : Honest s old) (was : is.step.client.call ≡ running.Copy k) (a : CopyAt) (stands : k.at ≡ a) where
    pub said : CopySays s.shared (byte_in s old) a
    said =
        let own : CopySays s.shared (byte_in s old) k.at = subst (λ (r : Running). Says s.shared (byte_in s old) r) was (honest.calls c is.step.client is.step.here) in
        subst (λ (b : CopyAt). CopySays s.shared (byte_in s old) b) stands own

    pub kept_out : copies.CopySays s.shared.meta s.shared.targets (λ n p. HasLandedOn s old n p) a
    kept_out =
        let lands : ℕ → Part → Type 0 = (λ n p. HasLandedOn s old n p) in
        let own : copies.CopySays s.shared.meta s.shared.targets lands k.at = subst (λ (r : Running). copies.Says s.shared.meta s.shared.targets lands r) was (is.before.sole.copies c is.step.client is.step.here) in
        subst (λ (b : CopyAt). copies.CopySays s.shared.meta s.shared.targets lands b) stands own

  -- the objects hold what they held
  pub copy_still : (a : CopyAt) → k.at ≡ a → WritesNone a → HoldsStill s.shared t.shared
  copy_still a stands none = by (write s t old new c is e)
    where
      other : (j : CopyView) → call_now c is.step.client.call is.step.asked ≡ running.Copy j → j.at ≡ a
      other j e = let one : k ≡ j = (let both = sym is_copy ∙ e in cc) in ap (λ (y : CopyView). y.at) (sym one) ∙ stands

      by : Writes s.shared t.shared (call_now c is.step.client.call is.step.asked) → HoldsStill s.shared t.shared
      by (inl still) = still
      by (inr (inl sends)) = absurd (let both = sym is_copy ∙ sends.writes in cc)
      by (inr (inr (inl punches))) = absurd (let both = sym is_copy ∙ punches.truncates in cc)
      by (inr (inr (inr (inl resets)))) = absurd (subst WritesNone (sym (other resets.asked resets.copies) ∙ resets.at) none)
      by (inr (inr (inr (inr puts)))) = absurd (subst WritesNone (sym (other puts.asked puts.copies) ∙ puts.at) none)

  -- and plain files their bytes, where the copy was under way
  pub bytes_still : Honest s old → StepsKeepBytes → is.step.client.call ≡ running.Copy k → (n x : ℕ) (f g : File) → file_of n s.shared.meta.files ≡ Some f → file_of n t.shared.meta.files ≡ Some g → byte_in t new n x ≡ byte_in s old n x
  bytes_still honest keep was n x f g there found = by (keep s t old new c is e honest.sized n x f g there found)
    where
      by : (byte_in t new n x ≡ byte_in s old n x) ⊎ Closes s t old new c n x → byte_in t new n x ≡ byte_in s old n x
      by (inl same) = same
      by (inr closes) = absurd (none_copies s c closes.was.attempt is.step.client k closes.was.attempting is.step.here was)
