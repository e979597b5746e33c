-- A component that a copy cleared at its end holds the bytes of the plain file.
use Rattle.std.proofs.Common.{◌≡◌, ℕ, ◌<◌, ◌≤◌, true, nat_eq, Some, List, [], inl, inr, ◌⊎◌, sym, ap, subst, ◌∙◌}
use Rattle.std.specs.Prelude.{Contains}
use Rattle.std.proofs.lemmas.Bool.{eqb-true, false≢true}
use Rattle.flr_base.specs.declared.reply.Range.{Range}
use Rattle.composite_layout.specs.declared.component.Component.{Component}
use Rattle.composite_layout.specs.Layouts.{Composite}
use Rattle.layout_state.specs.Marking.{is_named}
use Rattle.mirror_select.specs.Held.{held}
use Rattle.mirror_select.proofs.Least.{some_in}
use Rattle.meta_server.specs.Files.{File, file_of}
use Rattle.copy_laws.proofs.Less.{cleared_place}
use Rattle.resync_copy.specs.declared.phase.CopyAt.TheVariants as at
use Rattle.resync_copy.specs.declared.phase.CopyStage.TheVariants as stage
use Rattle.resync_copy.specs.Parts.{cleared_of}
use Rattle.resync_copy.specs.Views.{CopyingView}
use Rattle.flr_numbers.specs.Frames.{Leases}
use Rattle.flr_steps.specs.declared.client.Running.TheVariants as running
use Rattle.flr_steps.specs.Clients.{call_now}
use Rattle.flr_steps.specs.States.{State}
use Rattle.flr_steps.specs.Traces.{Trace, traced}
use Rattle.flr_claims.specs.Honesty.{IsOf, content}
use Rattle.flr_bytes.specs.Calls.{ClearsCopied, HoldsFile, IsKeptDestination}
use Rattle.flr_bytes.specs.Laws.{StepsKeepBytes, StepsWrite}
use Rattle.flr_bytes.specs.Origins.{IsClearedBy}
use Rattle.flr_bytes.specs.Runs.{Honest, IsStep}
use Rattle.flr_bytes.specs.Sentences.{byte_in}
use Rattle.flr_honest.proofs.Held.Ends.{bytes_still, copy_still}
use Rattle.flr_honest.proofs.Held.Staying.{same_held, still_held}

-- a component of the copy's layout that is to be cleared is a destination that isn't left
pub is_destination : (x : CopyingView) (d : Component) → Contains x.side.layout.components d → is_named (cleared_of x.destinations) d ≡ true → (place : ℕ) × IsKeptDestination x place d
is_destination x d listed named =
    let found = some_in (nat_eq d.id) (cleared_of x.destinations) named in
    let at = cleared_place x.destinations found.0 found.1 in
    (at.0, record { within = at.1.there; kept = at.1.kept; listed = listed; same = eqb-true d.id found.0 found.2 ∙ sym at.1.same })

module _ (write : StepsWrite) (keep : StepsKeepBytes) (s t : State) (old new : Trace) (c : ℕ) (is : IsStep s t old new c) (e : new ≡ traced s t old c) (honest : Honest s old) (n x : ℕ) (f : File) (d : Component) (found : file_of n t.shared.meta.files ≡ Some f) (own : IsOf d x)
    (w : IsClearedBy s (call_now c is.step.client.call is.step.asked) n d) (clears : ClearsCopied s.shared (byte_in s old) w.key w.cleared) where
  abbrev g : File
  g = w.was.file

  abbrev b : Component
  b = w.was.component

  -- it had copied the component
  copied : HoldsFile s.shared (byte_in s old w.key.file) b
  copied = by (clears w.held)
    where
      by : (w.cleared ≡ []) ⊎ ((y : CopyingView) × (y.side.key ≡ w.key) × Leases s.shared.meta w.key y.side.layout × (w.cleared ≡ cleared_of y.destinations) × ((place : ℕ) (a : Component) → IsKeptDestination y place a → HoldsFile s.shared (byte_in s old w.key.file) a)) → HoldsFile s.shared (byte_in s old w.key.file) b
      by (inl none) = absurd (false≢true (ap (λ (ids : List ℕ). is_named ids b) (sym none) ∙ w.named))
      by (inr r) =
          let there : file_of w.key.file s.shared.meta.files ≡ Some g = ap (λ k. file_of k s.shared.meta.files) w.same ∙ w.was.there in
          let layout : g.layout ≡ r.0.side.layout = r.2 w.held g there in
          let listed : Contains r.0.side.layout.components b = subst (λ (l : Composite). Contains l.components b) layout w.was.listed in
          let at = is_destination r.0 b listed (ap (λ (ids : List ℕ). is_named ids b) (sym r.3) ∙ w.named) in
          r.4 at.0 b at.1

  pub cleared_held : is.step.client.call ≡ running.Copy w.asked → held (content t.shared) d x ≡ byte_in t new n x
  cleared_held was =
      let from : b.extent.start ≤ x = subst (λ (r : Range). r.start ≤ x) w.was.same.extent own.0 in
      let to : x < b.extent.end = subst (λ (r : Range). x < r.end) w.was.same.extent own.1 in
      still_held s t (copy_still write s t old new c is e w.asked w.copies (at.Copy (stage.Done w.key w.cleared w.left)) w.at tt) d x
      ∙ same_held (content s.shared) b d x w.was.same
      ∙ copied x (from, to, own.2)
      ∙ ap (λ k. byte_in s old k x) w.same
      ∙ sym (bytes_still write s t old new c is e w.asked w.copies honest keep was n x g f w.was.there found)
