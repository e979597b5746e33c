-- Which puts and resets of copies are too old, after every run for whose steps there is room.
use Rattle.std.proofs.Common.{◌≡◌, ℕ, Option, Some, List, [], ◌<◌, length, get_or, refl, sym, ap, subst, arith}
use Rattle.std.specs.Prelude.{Contains, slice_index}
use Rattle.std.proofs.lemmas.Bool.{lt-ltb}
use Rattle.composite_layout.specs.declared.component.Component.{Component}
use Rattle.meta_server.specs.Files.{MetaView}
use Rattle.mirror_select.specs.declared.types.Piece.{Piece}
use Rattle.mirror_select.specs.Pieces.{piece_at}
use Rattle.mirror_select.proofs.Least.{In, from_contains, get_there}
use Rattle.mirror_select.proofs.Sound.{every_in}
use Rattle.object_target.specs.TargetState.{TargetState}
use Rattle.call_steps.specs.Pieces.{object_of}
use Rattle.resync_copy.specs.declared.parts.CopyObject.{CopyObject}
use Rattle.resync_copy.specs.declared.phase.Chunk.{Chunk}
use Rattle.resync_copy.specs.declared.phase.CopyAt.{CopyAt}
use Rattle.resync_copy.specs.declared.phase.CopyStage.{CopyStage}
use Rattle.resync_copy.specs.declared.phase.CopyStage.TheVariants as stage
use Rattle.resync_copy.specs.Chunks.{piece_in}
use Rattle.resync_copy.specs.Copies.{bytes_of, object_at, piece_to}
use Rattle.resync_copy.specs.Fitting.{HasItsObjects, IsSoundStage}
use Rattle.resync_copy.specs.Views.{CopyingView, resets_of}
use Rattle.resync_copy.proofs.PartLaws.{shaped, with_id_in}
use Rattle.copy_laws.proofs.Log.{piece_listed, piece_there}
use Rattle.copy_laws.proofs.Places.{reset_place}
use Rattle.flr_numbers.specs.Copies.{IsListed, IsListedAt}
use Rattle.flr_numbers.specs.Sentences.{IsCallOf}
use Rattle.flr_numbers.proofs.Runs.{runs_hold}
use Rattle.flr_steps.specs.declared.client.Running.{Running}
use Rattle.flr_shut.specs.Laws.{CopiesAreOld, DestinationsAreStale, PutsAreOld, ResetsAreOld, copying_of}
use Rattle.flr_shut.specs.Sentences.{CopyShut, IsKeptOff, IsReset, IsShut, OnCopying}
use Rattle.flr_shut.proofs.Runs.{runs_shut}
use Rattle.composite_layout.specs.Layouts.{Composite}
use Rattle.flr_steps.specs.States.{IsRun, State}
use Rattle.flr_steps.specs.Traces.{trace_after}
use Rattle.flr_claims.specs.Sending.{Part}
use Rattle.flr_numbers.specs.Laws.{LeaveRoom}
use Rattle.flr_sole.specs.Laws.{IsCopyAt}
use Rattle.flr_sole.specs.Copies.{CopySays, HasLandedOn, IsBegun, Says, StageSays}
use Rattle.flr_sole.proofs.Runs.{runs_sole}

stage_kept : (m : MetaView) (targets : List TargetState) (next : CopyStage) (x : CopyingView) → copying_of next ≡ Some x → OnCopying (IsKeptOff m targets) next → IsKeptOff m targets x
stage_kept m targets (stage.Fence y next) x e kept = let one : y ≡ x = cc in subst (IsKeptOff m targets) one kept
stage_kept m targets (stage.Reset y next) x e kept = let one : y ≡ x = cc in subst (IsKeptOff m targets) one kept
stage_kept m targets (stage.Settle y) x e kept = let one : y ≡ x = cc in subst (IsKeptOff m targets) one kept
stage_kept m targets (stage.Take h) x e kept = let one : h.copying ≡ x = cc in subst (IsKeptOff m targets) one kept
stage_kept m targets (stage.Put h bytes) x e kept = let one : h.copying ≡ x = cc in subst (IsKeptOff m targets) one kept
stage_kept m targets (stage.Done key cleared left) x e kept = absurd (cc)

on_stage : (s : State) (c : ℕ) (next : CopyStage) (x : CopyingView) → IsRun s → LeaveRoom (length s.schedule) → IsCopyAt s c next → copying_of next ≡ Some x → IsKeptOff s.shared.meta s.shared.targets x
on_stage s c next x run leave is copying =
    let m : MetaView = s.shared.meta in
    let shut : IsShut m s.shared.targets is.client.call = (runs_shut s run leave).calls c is.client is.here in
    let kept : CopyShut m s.shared.targets is.call.at = subst (λ (r : Running). IsShut m s.shared.targets r) is.copies shut in
    let on : OnCopying (IsKeptOff m s.shared.targets) next = subst (λ (a : CopyAt). CopyShut m s.shared.targets a) is.stage kept in
    stage_kept m s.shared.targets next x copying on

pub copies_old : CopiesAreOld
copies_old s c next x o run leave is copying reset at fresh = lt-ltb x.side.layout.generation _ ((on_stage s c next x run leave is copying).0 o at fresh reset)

-- ---- a reset

pub resets_old : ResetsAreOld
resets_old s c x next run leave is at fresh =
    let own : IsCallOf c is.client.call = ((runs_hold s run leave).clients c is.client is.here).call in
    let copies = subst (λ (r : Running). IsCallOf c r) is.copies own in
    let listed : IsListed (stage.Reset x next) = subst (λ (a : CopyAt). IsListedAt a) is.stage copies.3 in
    copies_old s c (stage.Reset x next) x (object_at (resets_of x) next).object run leave is refl (next, listed, refl) at fresh

-- ---- a put

-- what a put goes to is reset by its copy
put_reset : (h : Chunk) (bytes : List ℕ) → IsSoundStage (stage.Put h bytes) → IsReset h.copying (object_of (piece_to h))
put_reset h bytes sound =
    let cs : List Component = h.copying.side.layout.components in
    let ids : List ℕ = h.copying.ids in
    let within : h.place < length ids = omega (arith, sound.0.place, sound.0.copying.as_many) in
    let listed : In (slice_index ids h.place) ids = get_there ids h.place 0 within in
    let d : HasItsObjects cs (slice_index ids h.place) = every_in (HasItsObjects cs) ids (get_or ids h.place 0) sound.0.copying.each listed in
    let i = with_id_in cs (slice_index ids h.place) d.0 d.1 in
    let same : piece_to h ≡ piece_at d.0 (bytes_of h).start (bytes_of h).end = ap (λ (o : Option Component). piece_in o (bytes_of h)) d.1 in
    let whole = piece_there d.0 (bytes_of h).start (bytes_of h).end (shaped h.copying.side.layout sound.0.copying.valid d.0 i) d.2 in
    let has = subst (λ (q : Piece). In (object_of q) d.0.objects) (sym same) (from_contains d.0.objects (object_of (piece_at d.0 (bytes_of h).start (bytes_of h).end)) (piece_listed d.0 (bytes_of h).start (bytes_of h).end whole)) in
    let p = reset_place cs ids (slice_index ids h.place) d.0 (object_of (piece_to h)) (object_at [] 0) listed d.1 has in
    (p.0, p.1, ap (λ (y : CopyObject). y.object) p.2)

pub puts_old : PutsAreOld
puts_old s c h bytes run leave is sound at fresh = copies_old s c (stage.Put h bytes) h.copying (object_of (piece_to h)) run leave is refl (put_reset h bytes sound) at fresh

-- ---- destinations

stage_begun : (m : MetaView) (targets : List TargetState) (lands : ℕ → Part → Type 0) (next : CopyStage) (x : CopyingView) → copying_of next ≡ Some x → StageSays m targets lands next → IsBegun m x
stage_begun m targets lands (stage.Fence y next) x e says = let one : y ≡ x = cc in subst (IsBegun m) one says.0
stage_begun m targets lands (stage.Reset y next) x e says = let one : y ≡ x = cc in subst (IsBegun m) one says.0
stage_begun m targets lands (stage.Settle y) x e says = let one : y ≡ x = cc in subst (IsBegun m) one says.0
stage_begun m targets lands (stage.Take h) x e says = let one : h.copying ≡ x = cc in subst (IsBegun m) one says.0
stage_begun m targets lands (stage.Put h bytes) x e says = let one : h.copying ≡ x = cc in subst (IsBegun m) one says.0
stage_begun m targets lands (stage.Done key cleared left) x e says = absurd (cc)

pub destinations_stale : DestinationsAreStale
destinations_stale s c next x f d run leave is copying held there listed own =
    let m : MetaView = s.shared.meta in
    let lands : ℕ → Part → Type 0 = (λ n p. HasLandedOn s (trace_after s.script s.schedule) n p) in
    let said : Says m s.shared.targets lands is.client.call = (runs_sole s run leave).copies c is.client is.here in
    let at_call : CopySays m s.shared.targets lands is.call.at = subst (λ (r : Running). Says m s.shared.targets lands r) is.copies said in
    let says : StageSays m s.shared.targets lands next = subst (λ (a : CopyAt). CopySays m s.shared.targets lands a) is.stage at_call in
    let layout : f.layout ≡ x.side.layout = (stage_begun m s.shared.targets lands next x copying says).0.1 held f there in
    (on_stage s c next x run leave is copying).2 d (subst (λ (l : Composite). Contains l.components d) layout listed) own
