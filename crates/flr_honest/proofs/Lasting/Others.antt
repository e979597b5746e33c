-- What a copy knows of bytes stays at the step of another client.
use Rattle.std.proofs.Common.{◌≡◌, ℕ, ◌≤◌, true, Some, List, [], length, get_or, inl, inr, ◌⊎◌, refl, sym, ap, subst, ◌∙◌, arith, eq-eqb}
use Rattle.std.specs.Prelude.{slice_index}
use Rattle.std.proofs.lemmas.Bool.{false≢true}
use Rattle.flr_base.specs.declared.reply.ObjectId.{ObjectId}
use Rattle.stripe_map.specs.Places.{place_of}
use Rattle.composite_layout.specs.declared.component.Component.{Component}
use Rattle.composite_layout.specs.Layouts.{Composite}
use Rattle.layout_lease.specs.declared.lease.KeyState.TheVariants.{Held}
use Rattle.layout_lease.specs.Leases.{KeyView, state_of}
use Rattle.mirror_select.specs.Held.{held}
use Rattle.mirror_select.proofs.Least.{In, get_there, to_contains}
use Rattle.meta_server.specs.Files.{File}
use Rattle.call_steps.specs.Steps.{Outcome, Going, Fixed, Ended, Answered, Blocked}
use Rattle.resync_copy.specs.declared.parts.CopyObject.{CopyObject}
use Rattle.resync_copy.specs.declared.phase.Chunk.{Chunk}
use Rattle.resync_copy.specs.Copies.{object_at}
use Rattle.resync_copy.specs.Parts.{destination_at, is_open, overlaps_kept}
use Rattle.resync_copy.specs.Views.{CopyingView, fences_of, resets_of}
use Rattle.copy_laws.proofs.Less.{kept_open}
use Rattle.copy_laws.proofs.Places.{reset_place}
use Rattle.flr_numbers.specs.Frames.{Leaves}
use Rattle.flr_numbers.specs.Hands.{Fine, version_on}
use Rattle.flr_numbers.specs.Sentences.{IsCallOf, hand_of}
use Rattle.flr_numbers.proofs.Keeping.{came_fine}
use Rattle.flr_steps.specs.declared.client.Running.{Running}
use Rattle.flr_steps.specs.Clients.{first_now}
use Rattle.flr_steps.specs.States.{State, place_in}
use Rattle.flr_steps.specs.Steps.{LeavesState}
use Rattle.flr_steps.specs.Traces.{Trace, traced}
use Rattle.flr_claims.specs.Honesty.{IsOf, content}
use Rattle.flr_claims.specs.Sending.{Part, is_over, reach_of}
use Rattle.flr_shut.specs.Sentences.{AreStale}
use Rattle.flr_shut.proofs.Beginning.{reset_in}
use Rattle.flr_sole.specs.Copies.{AreFenced, AreReset, HasLandedOn, IsBegun, IsReady}
use Rattle.flr_sole.specs.Copies as sole
use Rattle.flr_sole.proofs.Excluding.{none_may_reach}
use Rattle.flr_sole.proofs.Others.{held_before, held_there}
use Rattle.flr_bytes.specs.Calls.{AreEmptied, CopiedSoFar, IsKeptDestination}
use Rattle.flr_bytes.specs.Files as plain
use Rattle.flr_bytes.specs.Laws.{StepsKeepBytes, StepsWrite}
use Rattle.flr_bytes.specs.Runs.{Honest, IsStep}
use Rattle.flr_bytes.specs.Sentences.{byte_in}
use Rattle.flr_bytes.proofs.Held.{held_same}
use Rattle.flr_bytes.specs.Fitting.{CopiesFit}
use Rattle.flr_honest.proofs.Lasting.Destinations.{destination_found, destination_in, destination_over, destination_there}
use Rattle.flr_honest.proofs.Lasting.Keeping.{from_amid, still_amid, to_amid}
use Rattle.flr_honest.proofs.Lasting.Objects.{listed_at}
use Rattle.flr_honest.proofs.Lasting.Sourced.{over_reach}
use Rattle.flr_honest.proofs.Lasting.Untouched.{untouched}

module _ (write : StepsWrite) (keep : StepsKeepBytes) (s t : State) (old new : Trace) (c : ℕ) (is : IsStep s t old new c) (e : new ≡ traced s t old c) (planned : CopiesFit s) (honest : Honest s old) where
  left_changes : (first : ℕ) (came : Outcome Running) → Fine c hand_of (IsCallOf c) s.shared came → LeavesState s c is.step.client first came t → Leaves c s.shared.meta t.shared.meta
  left_changes first (Going next after) fine left = subst (λ (x : State). Leaves c s.shared.meta x.shared.meta) (sym left) fine.0.changes.meta
  left_changes first (Fixed next reply takes after) fine left = subst (λ (x : State). Leaves c s.shared.meta x.shared.meta) (sym left) fine.0.changes.meta
  left_changes first (Ended after) fine left = subst (λ (x : State). Leaves c s.shared.meta x.shared.meta) (sym left) fine.changes.meta
  left_changes first (Answered reply takes after) fine left = subst (λ (x : State). Leaves c s.shared.meta x.shared.meta) (sym left) fine.changes.meta
  left_changes first (Blocked holder) fine left = absurd left

  pub changes : Leaves c s.shared.meta t.shared.meta
  changes = left_changes (first_now is.step.client.call (place_in s) is.step.client.first) is.step.came (came_fine s t c is.before.holds is.before.room is.step) is.step.left

  module _ (key : KeyView) (others : key.client ≡ c → ⊥) where
    -- a lease that stands stood
    pub back : state_of t.shared.meta.leases key ≡ Held → state_of s.shared.meta.leases key ≡ Held
    back stands = held_before s.shared.meta t.shared.meta key is.after.holds.servers.sound (λ l. changes.leases key l others) stands

    -- where nothing has landed the file keeps its byte
    pub byte_same : state_of t.shared.meta.leases key ≡ Held → (y : ℕ) → ((p : Part) → HasLandedOn s old key.file p → is_over y p ≡ true → ⊥) → byte_in t new key.file y ≡ byte_in s old key.file y
    byte_same stands y none =
        let before = held_there s.shared.meta key is.before.holds.servers.sound (back stands) in
        let after = held_there t.shared.meta key is.after.holds.servers.sound stands in
        by (keep s t old new c is e honest.sized key.file y before.0 after.0 before.1 after.1)
      where
        by : (byte_in t new key.file y ≡ byte_in s old key.file y) ⊎ plain.Closes s t old new c key.file y → byte_in t new key.file y ≡ byte_in s old key.file y
        by (inl same) = same
        by (inr w) = absurd (none w.was.part (record { client = c; attempt = w.was.attempt; attempting = w.was.attempting; same = w.was.same; place = w.was.place; landed = w.was.landed }) w.was.over)

  module _ (x : CopyingView) (others : x.side.key.client ≡ c → ⊥) (begun : IsBegun s.shared.meta x) where
    -- an object that is reset stays, where its destination is stale
    pub emptied_stays : AreStale x → (count : ℕ) → count ≤ length (resets_of x) → AreReset s.shared.targets x count → AreEmptied s.shared x count → AreEmptied t.shared x count
    emptied_stays stale count within reset says stands i less opened =
        let stood = back x.side.key others stands in
        let f = held_there s.shared.meta x.side.key is.before.holds.servers.sound stood in
        let layout : f.0.layout ≡ x.side.layout = begun.0.1 stood f.0 f.1 in
        let o : ObjectId = (object_at (resets_of x) i).object in
        let w = reset_in x o (i, omega (arith, less, within), refl) in
        let level : f.0.layout.generation ≡ x.side.layout.generation = ap (λ (l : Composite). l.generation) layout in
        let low = reset i less opened in
        let is_stale : w.0.flags.stale ≡ true = stale w.0 (to_contains x.side.layout.components w.0 w.1) (to_contains x.ids w.0.id w.2) in
        untouched s t old new c is planned honest x.side.key others stood f.0 f.1 w.0 (subst (λ (l : Composite). In w.0 l.components) (sym layout) w.1)
        (λ p g same alone one may. false≢true (sym alone.fresh ∙ ap (λ (k : Component). k.flags.stale) (sym one) ∙ is_stale))
        o w.3 (omega (arith, level, low)) (write s t old new c is e)
        ∙ says stood i less opened

    module _ (fenced : AreFenced s.shared.targets x (length (fences_of x))) (reset : AreReset s.shared.targets x (length (resets_of x))) (none : sole.NoneLands s.shared.meta (λ n p. HasLandedOn s old n p) x.side.key (overlaps_kept x.destinations)) (stands : state_of t.shared.meta.leases x.side.key ≡ Held) where
      -- an object of a destination that isn't left stays
      pub object_same : (place : ℕ) (d : Component) → IsKeptDestination x place d → (o : ObjectId) → In o d.objects → content t.shared o ≡ content s.shared o
      object_same place d to o has =
          let stood = back x.side.key others stands in
          let f = held_there s.shared.meta x.side.key is.before.holds.servers.sound stood in
          let layout : f.0.layout ≡ x.side.layout = begun.0.1 stood f.0 f.1 in
          let i : In d x.side.layout.components = destination_in x begun.0.2 begun.1 place d to in
          let level : f.0.layout.generation ≡ x.side.layout.generation = ap (λ (l : Composite). l.generation) layout in
          let w = reset_place x.side.layout.components x.ids (slice_index x.ids place) d o (object_at [] 0) (get_there x.ids place 0 (destination_there x begun.0.2 begun.1 place d to)) (destination_found x begun.0.2 begun.1 place d to) has in
          let opened : is_open x.destinations d.id ≡ true = kept_open x.destinations place d.id to.within to.kept (eq-eqb (destination_at x.destinations place).component d.id (sym to.same)) in
          let low : x.side.layout.generation ≤ version_on s.shared.targets o = subst (λ (k : CopyObject). x.side.layout.generation ≤ version_on s.shared.targets k.object) w.2 (reset w.0 w.1 (ap (λ (k : CopyObject). is_open x.destinations k.component) w.2 ∙ opened)) in
          untouched s t old new c is planned honest x.side.key others stood f.0 f.1 d (subst (λ (l : Composite). In d l.components) (sym layout) i)
          (λ p g same alone one may. (
          let start : d.extent.start ≤ (reach_of p).start = subst (λ (k : Component). k.extent.start ≤ (reach_of p).start) (sym one) alone.start in
          let end : (reach_of p).end ≤ d.extent.end = subst (λ (k : Component). (reach_of p).end ≤ k.extent.end) (sym one) alone.end in
          let some = alone.some in
          none_may_reach s.shared.meta s.shared.targets x begun fenced stood p (record { file = g; there = f.1 ∙ ap (λ (k : File). Some k) same; alone = alone }) may
          (destination_over x begun.0.2 begun.1 place d to (reach_of p).start (reach_of p) start (omega (arith, some, end)) (omega arith) some)
          ))
          o has (omega (arith, level, low)) (write s t old new c is e)

      pub same : (place : ℕ) (d : Component) (y : ℕ) → IsKeptDestination x place d → IsOf d y → held (content t.shared) d y ≡ held (content s.shared) d y
      same place d y to own = held_same (content s.shared) (content t.shared) d y (λ o at. ap (λ (bs : List ℕ). get_or bs (place_of y d.stripe).offset 0) (object_same place d to o (listed_at d.objects (place_of y d.stripe).index o at)))

      pub kept : (place : ℕ) (d : Component) (y : ℕ) → IsKeptDestination x place d → IsOf d y → byte_in t new x.side.key.file y ≡ byte_in s old x.side.key.file y
      kept place d y to own = byte_same x.side.key others stands y (λ p landed over. (let r = over_reach p y over in none (back x.side.key others stands) p landed (destination_over x begun.0.2 begun.1 place d to y (reach_of p) own.0 own.1 r.0 r.1)))

  -- a chunk
  pub copied_stays : (h : Chunk) → (h.copying.side.key.client ≡ c → ⊥) → IsReady s.shared.meta s.shared.targets (λ n p. HasLandedOn s old n p) h.copying → CopiedSoFar s.shared (byte_in s old) h → CopiedSoFar t.shared (byte_in t new) h
  copied_stays h others r says stands =
      from_amid t.shared (byte_in t new) h
      (still_amid s.shared t.shared (byte_in s old) (byte_in t new) h.copying (same h.copying others r.0 r.1 r.2 r.3 stands) (kept h.copying others r.0 r.1 r.2 r.3 stands) h.size h.place h.number
      (to_amid s.shared (byte_in s old) h (says (back h.copying.side.key others stands))))
