-- Where the lease of a copy stands, none of its calls is too old, and its file is there.
use Rattle.std.proofs.Common.{◌≡◌, ℕ, ◌<◌, ◌≤◌, Bool, true, false, List, Option, None, Some, refl, sym, ap, subst, ◌∙◌, arith}
use Rattle.std.specs.Prelude.{Contains, slice_index}
use Rattle.std.proofs.lemmas.Bool.{ltb-true}
use Rattle.std.specs.Option.{option_map}
use Rattle.flr_base.specs.declared.reply.ObjectId.{ObjectId}
use Rattle.composite_layout.specs.declared.component.Component.{Component}
use Rattle.composite_layout.specs.Layouts.{Composite}
use Rattle.layout_lease.specs.declared.lease.KeyState.TheVariants.{Held}
use Rattle.layout_lease.specs.Leases.{state_of}
use Rattle.mirror_select.specs.declared.types.Piece.{Piece}
use Rattle.mirror_select.specs.Pieces.{piece_at}
use Rattle.mirror_select.proofs.Least.{to_contains}
use Rattle.object_target.specs.declared.call.CallAnswer.TheVariants as answer
use Rattle.object_target.specs.declared.fail.FailKind.{FailKind}
use Rattle.object_target.specs.Calls.{answer_by, is_old, next_fail}
use Rattle.meta_server.specs.declared.answers.Side.{Side}
use Rattle.meta_server.specs.Closing.{size_of}
use Rattle.meta_server.specs.Files.{File, file_of}
use Rattle.call_steps.specs.Pieces.{IsNamed, object_of}
use Rattle.call_steps.specs.Servers.{Servers}
use Rattle.resync_copy.specs.declared.phase.Chunk.{Chunk}
use Rattle.resync_copy.specs.declared.phase.CopyStage.{CopyStage}
use Rattle.resync_copy.specs.declared.phase.CopyStage.TheVariants as stage
use Rattle.resync_copy.specs.Chunks.{piece_in}
use Rattle.resync_copy.specs.Copies.{bytes_of, object_at, piece_to, target_of}
use Rattle.resync_copy.specs.Fitting.{HasItsObjects, IsSoundStage}
use Rattle.resync_copy.specs.Views.{CopyingView, resets_of}
use Rattle.resync_copy.proofs.PartLaws.{named, shaped, with_id_in}
use Rattle.mirror_select.proofs.Least.{get_there}
use Rattle.mirror_select.proofs.Sound.{every_in}
use Rattle.copy_laws.proofs.Log.{piece_listed, piece_there}
use Rattle.copy_left.specs.Nothing.{HasLostStage}
use Rattle.flr_numbers.specs.Frames.{Stands}
use Rattle.flr_numbers.specs.Hands.{AreServers, version_on}
use Rattle.flr_numbers.proofs.Objects.{named_stands}
use Rattle.flr_shut.specs.Laws.{copying_of}
use Rattle.flr_sole.specs.Copies.{IsSideOf}
use Rattle.flr_sole.proofs.Others.{held_there}

-- ---- an object of a leased file

-- an answer that tells a version is of an old call
old_so : (o : Option FailKind) (b : Bool) (kept told : ℕ) → answer_by o b kept ≡ answer.Old told → b ≡ true
old_so (Some fail) b kept told e = absurd (cc e)
old_so None true kept told e = refl
old_so None false kept told e = absurd (cc e)

module _ (s : Servers) (h : AreServers s.meta s.targets) (side : Side) (is : IsSideOf s.meta side) (held : state_of s.meta.leases side.key ≡ Held) where
  -- no object of its layout keeps a version above the generation of begin
  version_low : (o : ObjectId) → IsNamed side.layout.components o → version_on s.targets o ≤ side.layout.generation
  version_low o n =
      let f = held_there s.meta side.key h.sound held in
      let same : f.0.layout ≡ side.layout = is.1 held f.0 f.1 in
      let low = h.versions side.key.file f.0 o f.1 (subst (λ (l : Composite). Stands o l) (sym same) (named_stands o side.layout.components n)) in
      subst (λ (l : Composite). version_on s.targets o ≤ l.generation) same low

  not_old : (o : ObjectId) → IsNamed side.layout.components o → is_old (target_of s o) o.number side.layout.generation ≡ true → ⊥
  not_old o n e = let lt : side.layout.generation < version_on s.targets o = ltb-true side.layout.generation (version_on s.targets o) e in let le = version_low o n in omega (arith, lt, le)

  file_there : size_of side.file s.meta ≡ None → ⊥
  file_there e =
      let f = held_there s.meta side.key h.sound held in
      let found : file_of side.file s.meta.files ≡ Some f.0 = ap (λ (n : ℕ). file_of n s.meta.files) is.0 ∙ f.1 in
      let none : Some f.0.size ≡ None = sym (ap (option_map (λ (x : File). x.size)) found) ∙ e in
      cc none

-- the object to which a chunk is put is one of the layout
put_named : (h : Chunk) (bytes : List ℕ) → IsSoundStage (stage.Put h bytes) → IsNamed h.copying.side.layout.components (object_of (piece_to h))
put_named h bytes sound =
    let cs : List Component = h.copying.side.layout.components in
    let lt = sound.0.place in
    let many = sound.0.copying.as_many in
    let own : HasItsObjects cs (slice_index h.copying.ids h.place) = every_in (HasItsObjects cs) h.copying.ids (slice_index h.copying.ids h.place) sound.0.copying.each (get_there h.copying.ids h.place _ (omega (arith, lt, many))) in
    let d : Component = own.0 in
    let r = bytes_of h in
    let same : piece_to h ≡ piece_at d r.start r.end = ap (λ (o : Option Component). piece_in o r) own.1 in
    let listed = with_id_in cs (slice_index h.copying.ids h.place) d own.1 in
    let whole = piece_there d r.start r.end (shaped h.copying.side.layout sound.0.copying.valid d listed) own.2 in
    (d, to_contains cs d listed, subst (λ (q : Piece). Contains d.objects (object_of q)) (sym same) (piece_listed d r.start r.end whole))

-- at a stage of a copy whose lease stands nothing is lost
pub not_lost : (s : Servers) → AreServers s.meta s.targets → (next : CopyStage) (x : CopyingView) → copying_of next ≡ Some x → IsSoundStage next → IsSideOf s.meta x.side → state_of s.meta.leases x.side.key ≡ Held → HasLostStage next s → ⊥
not_lost s h (stage.Fence y next) x e sound is held lost = lost
not_lost s h (stage.Reset y next) x e sound is held lost =
    let same : y ≡ x = cc e in
    let o : ObjectId = (object_at (resets_of y) next).object in
    let is_y : IsSideOf s.meta y.side = subst (λ (v : CopyingView). IsSideOf s.meta v.side) (sym same) is in
    let held_y : state_of s.meta.leases y.side.key ≡ Held = ap (λ (v : CopyingView). state_of s.meta.leases v.side.key) same ∙ held in
    not_old s h y.side is_y held_y o (named y.side.layout.components y.ids next _ sound.1) (old_so (next_fail (target_of s o)) (is_old (target_of s o) o.number y.side.layout.generation) _ lost.0 lost.1)
not_lost s h (stage.Settle y) x e sound is held lost =
    let same : y ≡ x = cc e in
    file_there s h y.side (subst (λ (v : CopyingView). IsSideOf s.meta v.side) (sym same) is) (ap (λ (v : CopyingView). state_of s.meta.leases v.side.key) same ∙ held) lost
not_lost s h (stage.Take t) x e sound is held lost = lost
not_lost s h (stage.Put t bytes) x e sound is held lost =
    let same : t.copying ≡ x = cc e in
    let o : ObjectId = object_of (piece_to t) in
    let side : Side = t.copying.side in
    not_old s h side (subst (λ (v : CopyingView). IsSideOf s.meta v.side) (sym same) is) (ap (λ (v : CopyingView). state_of s.meta.leases v.side.key) same ∙ held) o (put_named t bytes sound)
    (old_so (next_fail (target_of s o)) (is_old (target_of s o) o.number side.layout.generation) _ lost.0 lost.1)
not_lost s h (stage.Done key cleared left) x e sound is held lost = lost
