-- A component that was taken in from another file holds the bytes of the plain file, which are those of that file's.
use Rattle.std.proofs.Common.{◌≡◌, ℕ, ◌<◌, ◌≤◌, Some, None, refl, sym, ap, subst, ◌∙◌}
use Rattle.flr_base.specs.declared.reply.Range.{Range}
use Rattle.composite_layout.specs.declared.component.Component.{Component}
use Rattle.layout_lease.specs.declared.lease.KeyState.TheVariants.{Held}
use Rattle.layout_lease.specs.Leases.{KeyView, state_of}
use Rattle.mirror_select.specs.Held.{held}
use Rattle.meta_server.specs.Files.{File, file_of}
use Rattle.resync_copy.specs.declared.merge_phase.MergeStage.TheVariants as merge
use Rattle.resync_copy.specs.declared.phase.CopyAt.TheVariants as at
use Rattle.flr_steps.specs.declared.client.Running.TheVariants as running
use Rattle.flr_steps.specs.Clients.{call_now}
use Rattle.flr_steps.specs.States.{State}
use Rattle.flr_steps.specs.Traces.{Trace, copy_begins, traced}
use Rattle.flr_claims.specs.Honesty.{IsOf, IsOpen, content}
use Rattle.flr_sole.specs.Copies as copies
use Rattle.flr_sole.specs.Copies.{HasLandedOn}
use Rattle.flr_sole.proofs.Others.{held_there}
use Rattle.flr_bytes.specs.Calls.{AreEqual}
use Rattle.flr_bytes.specs.Laws.{StepsKeepBytes, StepsWrite}
use Rattle.flr_bytes.specs.Origins.{IsTakenIn}
use Rattle.flr_bytes.specs.Runs.{Honest, IsStep}
use Rattle.flr_bytes.specs.Sentences.{byte_in}
use Rattle.flr_bytes.proofs.Clients.{under_way}
use Rattle.flr_honest.proofs.Held.Ends.{bytes_still, copy_still, kept_out, said}
use Rattle.flr_honest.proofs.Held.Staying.{same_held, still_held}

module _ (write : StepsWrite) (keep : StepsKeepBytes) (s t : State) (old new : Trace) (c : ℕ) (is : IsStep s t old new c) (e : new ≡ traced s t old c) (honest : Honest s old) (n x : ℕ) (f : File) (d : Component) (found : file_of n t.shared.meta.files ≡ Some f) (own : IsOf d x)
    (w : IsTakenIn s (call_now c is.step.client.call is.step.asked) n d) where
  abbrev b : Component
  b = w.was.was.component

  -- the merge was under way
  was : is.step.client.call ≡ running.Copy w.asked
  was = under_way c is.step.asked is.step.client.call (running.Copy w.asked) w.copies (ap copy_begins w.at)

  -- the plain files of both had the same bytes
  equal : AreEqual s.shared.meta (byte_in s old) w.ours w.theirs
  equal = said write s t old new c is e w.asked w.copies honest was (at.Merge (merge.Done w.ours w.theirs None)) w.at

  -- nothing had landed on the other file
  closed : IsOpen s old w.theirs.file x → ⊥
  closed was_open =
      let says : copies.MergeSays s.shared.meta s.shared.targets (λ k p. HasLandedOn s old k p) (merge.Done w.ours w.theirs None) = kept_out write s t old new c is e w.asked w.copies honest was (at.Merge (merge.Done w.ours w.theirs None)) w.at in
      let key : says.0.theirs.key ≡ w.theirs = says.2 in
      says.3.4 (subst (λ (k : KeyView). state_of s.shared.meta.leases k ≡ Held) (sym key) w.theirs_held) was_open.part
      (subst (λ (k : KeyView). HasLandedOn s old k.file was_open.part) (sym key) (record { client = was_open.client; attempt = was_open.attempt; attempting = was_open.attempting; same = was_open.same; place = was_open.place; landed = was_open.landed })) refl

  pub taken_held : held (content t.shared) d x ≡ byte_in t new n x
  taken_held =
      let from : b.extent.start ≤ x = subst (λ (r : Range). r.start ≤ x) w.was.was.same.extent own.0 in
      let to : x < b.extent.end = subst (λ (r : Range). x < r.end) w.was.was.same.extent own.1 in
      let there = held_there s.shared.meta w.ours is.before.holds.servers.sound w.ours_held in
      let here : file_of n s.shared.meta.files ≡ Some there.0 = ap (λ k. file_of k s.shared.meta.files) (sym w.same) ∙ there.1 in
      still_held s t (copy_still write s t old new c is e w.asked w.copies (at.Merge (merge.Done w.ours w.theirs None)) w.at tt) d x
      ∙ same_held (content s.shared) b d x w.was.was.same
      ∙ honest.holds w.theirs.file w.was.was.file b x w.was.was.there w.was.was.listed w.was.fresh (from, to, own.2) closed
      ∙ sym (equal w.ours_held w.theirs_held x)
      ∙ ap (λ k. byte_in s old k x) w.same
      ∙ sym (bytes_still write s t old new c is e w.asked w.copies honest keep was n x there.0 f here found)
