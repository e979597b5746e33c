-- At each stage of a copy what it knows of bytes stays at the step of another client.
use Rattle.std.proofs.Common.{◌≡◌, ℕ, zero, suc, map, filter, ◌∷◌, ◌+◌, ◌<◌, ◌≤◌, true, false, cond, nat_lt, Bool, List, [], length, get_or, inl, inr, ◌⊎◌, refl, sym, ap, subst, ◌∙◌, arith}
use Rattle.std.specs.List.{AllByRecursion}
use Rattle.std.specs.Prelude.{Contains}
use Rattle.std.proofs.lemmas.Bool.{cases_lt, le-ltb}
use Rattle.composite_layout.specs.declared.component.Component.{Component}
use Rattle.composite_layout.specs.Layouts.{Composite}
use Rattle.layout_lease.specs.declared.lease.KeyState.TheVariants.{Held}
use Rattle.layout_lease.specs.Leases.{KeyView, state_of}
use Rattle.mirror_select.proofs.Least.{In}
use Rattle.meta_server.specs.Files.{file_of}
use Rattle.resync_copy.specs.declared.phase.Chunk.{Chunk}
use Rattle.resync_copy.specs.declared.phase.CopyStage.{CopyStage}
use Rattle.resync_copy.specs.declared.phase.CopyStage.TheVariants as stage
use Rattle.resync_copy.specs.Chunks.{chunk_start}
use Rattle.resync_copy.specs.Copies.{bytes_of}
use Rattle.resync_copy.specs.Parts.{destination_at}
use Rattle.resync_copy.specs.Views.{CopyingView, resets_of}
use Rattle.flr_numbers.specs.Copies.{stage_hand}
use Rattle.flr_numbers.specs.Frames.{Leases}
use Rattle.flr_numbers.specs.Sentences.{IsCallOf, hand_of}
use Rattle.flr_steps.specs.declared.client.Running.{Running}
use Rattle.flr_steps.specs.States.{State}
use Rattle.flr_steps.specs.Traces.{Trace, traced}
use Rattle.flr_claims.specs.Sending.{Part, reach_of}
use Rattle.flr_shut.specs.Sentences.{AreStale, IsKeptOff, OnCopying}
use Rattle.flr_sole.specs.Copies.{AreFenced, AreReset, HasLandedOn, IsBegun, IsReady}
use Rattle.flr_sole.specs.Copies as sole
use Rattle.flr_sole.proofs.Others.{held_there}
use Rattle.flr_bytes.specs.Calls.{IsKeptDestination, IsInHand, StageSays}
use Rattle.flr_bytes.specs.Laws.{StepsKeepBytes, StepsWrite}
use Rattle.flr_bytes.specs.Runs.{Honest, IsStep}
use Rattle.flr_bytes.specs.Sentences.{byte_in}
use Rattle.flr_bytes.specs.Fitting.{CopiesFit, IsChunkFit, IsFitStage}
use Rattle.flr_honest.proofs.Lasting.Destinations.{destination_over}
use Rattle.flr_honest.proofs.Lasting.Own.{side_holds}
use Rattle.flr_honest.proofs.Lasting.Puts as puts
use Rattle.flr_honest.proofs.Lasting.Sourced.{IsClear, over_reach}
use Rattle.flr_honest.proofs.Lasting.Others.{back, byte_same, changes, copied_stays, emptied_stays, kept, same}
use Rattle.flr_honest.specs.Lasting.{OthersCopyFollows}
use Rattle.resync_copy.specs.declared.parts.Destination.{Destination}
use Rattle.resync_copy.specs.declared.phase.CopyAt.{CopyAt}
use Rattle.resync_copy.specs.declared.phase.CopyAt.TheVariants as at
use Rattle.resync_copy.specs.Parts.{cleared_of, is_kept}
use Rattle.copy_laws.proofs.Less.{cleared_place}
use Rattle.flr_base.specs.declared.reply.Left.{Left}
use Rattle.flr_numbers.specs.Copies.{IsListed, IsListedAt, copy_hand}
use Rattle.flr_shut.specs.Sentences.{CopyShut, IsShut}
use Rattle.flr_bytes.specs.Calls.{ClearsCopied, CopySays, HoldsFile, Says}
use Rattle.flr_bytes.specs.Fitting.{IsFitAt, IsFit}

-- a destination that isn't left is to be cleared
in_cleared : (ds : List Destination) (p : ℕ) → p < length ds → is_kept (destination_at ds p) ≡ true → In (destination_at ds p).component (cleared_of ds)
in_cleared [] p h k = absurd (omega (arith, h))
in_cleared (d ∷ ds) zero h k = subst (λ (b : Bool). In d.component (map (λ (x : Destination). x.component) (cond b (d ∷ filter is_kept ds) (filter is_kept ds)))) (sym k) (inl refl)
in_cleared (d ∷ ds) (suc p) h k = by (is_kept d) (in_cleared ds p (omega (arith, h)) k)
  where
    by : (b : Bool) → In (destination_at ds p).component (cleared_of ds) → In (destination_at ds p).component (map (λ (x : Destination). x.component) (cond b (d ∷ filter is_kept ds) (filter is_kept ds)))
    by true i = inr i
    by false i = i

module _ (write : StepsWrite) (keep : StepsKeepBytes) (s t : State) (old new : Trace) (c : ℕ) (is : IsStep s t old new c) (e : new ≡ traced s t old c) (planned : CopiesFit s) (honest : Honest s old) where
  -- the bytes in hand
  hand_stays : (h : Chunk) (bytes : List ℕ) → (h.copying.side.key.client ≡ c → ⊥) → IsReady s.shared.meta s.shared.targets (λ n p. HasLandedOn s old n p) h.copying → AreStale h.copying → IsChunkFit h → IsInHand s.shared (byte_in s old) h bytes → IsInHand t.shared (byte_in t new) h bytes
  hand_stays h bytes others r stale own hand stands i = by (cases_lt (chunk_start h.number + i) (bytes_of h).end)
    where
      stood : state_of s.shared.meta.leases h.copying.side.key ≡ Held
      stood = back write keep s t old new c is e planned honest h.copying.side.key others stands

      clear : IsClear s.shared (λ n p. HasLandedOn s old n p) (byte_in s old) h.copying
      clear = (r.0, r.3, side_holds s old honest is.before.holds.servers.sound h.copying.side r.0.0)

      by : (chunk_start h.number + i < (bytes_of h).end) ⊎ ((bytes_of h).end ≤ chunk_start h.number + i) → get_or bytes i 0 ≡ cond (nat_lt (chunk_start h.number + i) (bytes_of h).end) (byte_in t new h.copying.side.key.file (chunk_start h.number + i)) 0
      by (inr past) =
          let test = le-ltb (chunk_start h.number + i) (bytes_of h).end past in
          hand stood i ∙ ap (λ (b : Bool). cond b (byte_in s old h.copying.side.key.file (chunk_start h.number + i)) 0) test ∙ sym (ap (λ (b : Bool). cond b (byte_in t new h.copying.side.key.file (chunk_start h.number + i)) 0) test)
      by (inl less) =
          let sound = is.before.holds.servers.sound in
          let once = is.before.holds.servers.once in
          let lands : ℕ → Part → Type 0 = (λ n p. HasLandedOn s old n p) in
          let low : chunk_start h.number ≤ chunk_start h.number + i = omega arith in
          let at = puts.covered s.shared h sound once lands (byte_in s old) clear stale own (chunk_start h.number + i) low less in
          let to = puts.is s.shared h sound once lands (byte_in s old) clear stale own in
          let one = byte_same write keep s t old new c is e planned honest h.copying.side.key others stands (chunk_start h.number + i)
          (λ p landed over. (let reach = over_reach p (chunk_start h.number + i) over in r.3 stood p landed (destination_over h.copying r.0.0.2 r.0.1 h.place (puts.d s.shared h sound once lands (byte_in s old) clear stale own) to (chunk_start h.number + i) (reach_of p) at.0 at.1 reach.0 reach.1))) in
          hand stood i ∙ ap (λ (b : ℕ). cond (nat_lt (chunk_start h.number + i) (bytes_of h).end) b 0) (sym one)

  -- what is to be cleared
  cleared_stays : (key : KeyView) (cleared : List ℕ) (left : List Left) → (key.client ≡ c → ⊥) → sole.StageSays s.shared.meta s.shared.targets (λ n p. HasLandedOn s old n p) (stage.Done key cleared left) → ClearsCopied s.shared (byte_in s old) key cleared → ClearsCopied t.shared (byte_in t new) key cleared
  cleared_stays key cleared left others (inl none) says stands = inl none
  cleared_stays key cleared left others (inr q) says stands = by (says stood)
    where
      stood : state_of s.shared.meta.leases key ≡ Held
      stood = back write keep s t old new c is e planned honest key others stands

      by : (cleared ≡ []) ⊎ ((x : CopyingView) × (x.side.key ≡ key) × Leases s.shared.meta key x.side.layout × (cleared ≡ cleared_of x.destinations) × ((place : ℕ) (d : Component) → IsKeptDestination x place d → HoldsFile s.shared (byte_in s old key.file) d))
          → (cleared ≡ []) ⊎ ((x : CopyingView) × (x.side.key ≡ key) × Leases t.shared.meta key x.side.layout × (cleared ≡ cleared_of x.destinations) × ((place : ℕ) (d : Component) → IsKeptDestination x place d → HoldsFile t.shared (byte_in t new key.file) d))
      by (inl none) = inl none
      by (inr r) = inr (
        r.0,
        r.1,
        (changes write keep s t old new c is e planned honest).leases key r.0.side.layout others r.2,
        r.3,
        λ place d to y own. (
            let f = held_there s.shared.meta key is.before.holds.servers.sound stood in
            let mine : f.0.layout ≡ r.0.side.layout = r.2 stood f.0 f.1 in
            let theirs : f.0.layout ≡ q.0.side.layout = q.3.0.0.1 (ap (state_of s.shared.meta.leases) q.1 ∙ stood) f.0 (ap (λ (k : KeyView). file_of k.file s.shared.meta.files) q.1 ∙ f.1) in
            let listed : Contains q.0.side.layout.components d = subst (λ (l : Composite). Contains l.components d) (sym mine ∙ theirs) to.listed in
            let w = cleared_place q.0.destinations (destination_at r.0.destinations place).component (subst (λ (ids : List ℕ). In (destination_at r.0.destinations place).component ids) (sym r.3 ∙ q.2) (in_cleared r.0.destinations place to.within to.kept)) in
            let too : IsKeptDestination q.0 w.0 d = record { within = w.1.there; kept = w.1.kept; listed = listed; same = to.same ∙ sym w.1.same } in
            let apart : q.0.side.key.client ≡ c → ⊥ = (λ one. others (ap (λ (k : KeyView). k.client) (sym q.1) ∙ one)) in
            let standing : state_of t.shared.meta.leases q.0.side.key ≡ Held = ap (state_of t.shared.meta.leases) q.1 ∙ stands in
            same write keep s t old new c is e planned honest q.0 apart q.3.0 q.3.1 q.3.2 q.3.3 standing w.0 d y too own
            ∙ r.4 place d to y own
            ∙ sym (subst (λ (k : KeyView). byte_in t new k.file y ≡ byte_in s old k.file y) q.1 (kept write keep s t old new c is e planned honest q.0 apart q.3.0 q.3.1 q.3.2 q.3.3 standing w.0 d y too own))
            ),
      )

  stage_stays : (next : CopyStage) → AllByRecursion (λ (key : KeyView). key.client ≡ c → ⊥) (stage_hand next).keys → IsFitStage next → IsListed next → sole.StageSays s.shared.meta s.shared.targets (λ n p. HasLandedOn s old n p) next → OnCopying (IsKeptOff s.shared.meta s.shared.targets) next
      → StageSays s.shared (byte_in s old) next → StageSays t.shared (byte_in t new) next
  stage_stays (stage.Fence x next) others plan listed ready off says = tt
  stage_stays (stage.Reset x next) others plan listed ready off says = emptied_stays write keep s t old new c is e planned honest x others.0 ready.0 off.2 next (omega (arith, listed)) ready.2 says
  stage_stays (stage.Settle x) others plan listed ready off says = emptied_stays write keep s t old new c is e planned honest x others.0 ready.0 off.2 (length (resets_of x)) (omega arith) ready.2 says
  stage_stays (stage.Take h) others plan listed ready off says = copied_stays write keep s t old new c is e planned honest h others.0 ready says
  stage_stays (stage.Put h bytes) others plan listed ready off says = (copied_stays write keep s t old new c is e planned honest h others.0 ready says.0, hand_stays h bytes others.0 ready off.2 plan.0 says.1)
  stage_stays (stage.Done key cleared left) others plan listed ready off says = cleared_stays key cleared left others.0 ready says

pub apart_keys : (c d : ℕ) → (d ≡ c → ⊥) → (keys : List KeyView) → AllByRecursion (λ (key : KeyView). key.client ≡ d) keys → AllByRecursion (λ (key : KeyView). key.client ≡ c → ⊥) keys
apart_keys c d apart [] own = tt
apart_keys c d apart (k ∷ ks) own = ((λ same. apart (sym own.0 ∙ same)), apart_keys c d apart ks own.1)

pub others_copy_follows : OthersCopyFollows
others_copy_follows write keep s t old new c d is e honest apart client k next here copies stands =
    let lands : ℕ → Part → Type 0 = (λ n p. HasLandedOn s old n p) in
    let of = is.before.holds.clients d client here in
    let own : AllByRecursion (λ (key : KeyView). key.client ≡ d) (copy_hand (at.Copy next)).keys = subst (λ (a : CopyAt). AllByRecursion (λ (key : KeyView). key.client ≡ d) (copy_hand a).keys) stands (subst (λ (r : Running). AllByRecursion (λ (key : KeyView). key.client ≡ d) (hand_of r).keys) copies of.has.own) in
    let listed : IsListedAt (at.Copy next) = subst IsListedAt stands (subst (IsCallOf d) copies of.call).3 in
    let plan : IsFitAt (at.Copy next) = subst IsFitAt stands (subst IsFit copies (is.before.fit d client here)) in
    let ready : sole.CopySays s.shared.meta s.shared.targets lands (at.Copy next) = subst (sole.CopySays s.shared.meta s.shared.targets lands) stands (subst (sole.Says s.shared.meta s.shared.targets lands) copies (is.before.sole.copies d client here)) in
    let off : CopyShut s.shared.meta s.shared.targets (at.Copy next) = subst (CopyShut s.shared.meta s.shared.targets) stands (subst (IsShut s.shared.meta s.shared.targets) copies (is.before.shut.calls d client here)) in
    let says : CopySays s.shared (byte_in s old) (at.Copy next) = subst (CopySays s.shared (byte_in s old)) stands (subst (Says s.shared (byte_in s old)) copies (honest.calls d client here)) in
    stage_stays write keep s t old new c is e is.before.fit honest next (apart_keys c d apart (stage_hand next).keys own) plan listed ready off says
