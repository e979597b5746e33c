-- Each step of a copy leaves it with what its next stage knows of bytes.
use Rattle.std.proofs.Common.{◌≡◌, ℕ, ◌+◌, ◌<◌, ◌≤◌, Bool, true, false, cond, Option, Some, None, List, [], ◌∷◌, length, get_or, ◌⊎◌, inl, inr, refl, sym, ap, ◌∙◌, arith, eq-eqb}
use Rattle.std.specs.List.{AllByRecursion}
use Rattle.std.specs.Prelude.{slice_get, ◌++◌}
use Rattle.std.proofs.lemmas.Bool.{cases_Bool}
use Rattle.flr_base.specs.declared.reply.FailedCall.{FailedCall}
use Rattle.flr_base.specs.declared.reply.Left.{Left}
use Rattle.flr_base.specs.declared.reply.ObjectId.{ObjectId}
use Rattle.flr_base.specs.declared.reply.Range.{Range}
use Rattle.stripe_map.specs.Places.{place_of}
use Rattle.composite_layout.specs.declared.component.Component.{Component}
use Rattle.composite_layout.specs.Layouts.{Composite}
use Rattle.extent_lock.specs.Extents.{writer_but}
use Rattle.layout_lease.specs.declared.lease.KeyState.TheVariants.{Held}
use Rattle.layout_lease.specs.Leases.{state_of}
use Rattle.mirror_select.specs.declared.types.Piece.{Piece}
use Rattle.mirror_select.specs.Held.{byte_at, held}
use Rattle.mirror_select.proofs.Least.{get_there, to_contains}
use Rattle.object_target.specs.declared.call.CallAnswer.{CallAnswer}
use Rattle.object_target.specs.declared.call.CallAnswer.TheVariants as answer
use Rattle.object_target.specs.Calls.{after_read, after_write, fence_answer, is_old, next_fail, read_answer, reset_answer, write_answer}
use Rattle.object_target.specs.TargetState.{version_at}
use Rattle.meta_server.specs.Closing.{size_of}
use Rattle.meta_server.specs.Files.{File, MetaView, file_of}
use Rattle.meta_server.specs.Outcomes.{Breaks, Ending, Ends, Holds}
use Rattle.meta_server.specs.Ending.{copy_ends}
use Rattle.call_steps.specs.Pieces.{length_of, object_of}
use Rattle.call_steps.specs.Servers.{AreThere, Servers, next_call_on}
use Rattle.call_steps.specs.Steps.{Outcome, Going, Fixed, Ended, Answered, Blocked}
use Rattle.resync_copy.specs.declared.parts.CopyObject.{CopyObject}
use Rattle.resync_copy.specs.declared.phase.Chunk.{Chunk}
use Rattle.resync_copy.specs.declared.phase.CopyAt.TheVariants as at
use Rattle.resync_copy.specs.declared.phase.CopyStage.{CopyStage}
use Rattle.resync_copy.specs.declared.phase.CopyStage.TheVariants as stage
use Rattle.resync_copy.specs.Calls.{CopyView}
use Rattle.resync_copy.specs.Chunks.{chunk_start}
use Rattle.resync_copy.specs.Copies.{again, emptied, ends_copy, fenced, fences_object, first_writer, leaves_at, leaves_over, leaves_with, object_at, piece_from, piece_put, piece_read, piece_to, puts_chunk, resets_object, settled_objects, settles, stage_at, takes_chunk, target_of}
use Rattle.resync_copy.specs.Fitting as fitting
use Rattle.resync_copy.specs.Parts.{destination_at, is_open, left_at, overlaps_kept}
use Rattle.resync_copy.specs.Views.{CopyingView, fences_of, resets_of}
use Rattle.resync_copy.proofs.PartLaws.{named}
use Rattle.copy_laws.proofs.Less.{kept_open, less_at}
use Rattle.copy_laws.proofs.Places.{reset_place}
use Rattle.flr_numbers.specs.Copies.{IsListed, stage_hand}
use Rattle.flr_steps.specs.States.{State}
use Rattle.flr_steps.specs.Traces.{Trace}
use Rattle.flr_claims.specs.Honesty.{content}
use Rattle.flr_claims.specs.Sending.{Part, part_object}
use Rattle.flr_sole.specs.Copies.{HasLandedOn, IsBegun, NoneLands}
use Rattle.flr_sole.specs.Copies as sole
use Rattle.flr_sole.specs.Sentences.{StandsAlone}
use Rattle.flr_sole.proofs.Others.{held_there}
use Rattle.flr_sole.proofs.Readying.{begun_less}
use Rattle.flr_bytes.specs.Calls.{AreCopied, AreEmptied, CopiedSoFar, CopySays, HoldsFile, IsCopiedTo, IsKeptDestination, IsInHand, StageSays}
use Rattle.flr_bytes.specs.Runs.{Ground, Honest}
use Rattle.flr_bytes.specs.Sentences.{byte_in}
use Rattle.flr_bytes.specs.Writing.{HoldsStill}
use Rattle.flr_bytes.proofs.Contents.{other_content, same_content, write_others}
use Rattle.flr_bytes.proofs.Held.{held_made, held_same, held_unmade, write_lands}
use Rattle.flr_bytes.specs.Fitting.{IsChunkFit, IsFitStage}
use Rattle.flr_honest.proofs.Copied.Destinations.{id_there, kept_before, with_there}
use Rattle.flr_honest.proofs.Copied.Emptying.{fences_say, fewer_emptied, more_emptied, ok_effect, resets_say}
use Rattle.flr_honest.proofs.Copied.Following.{HolesAreZero, chunks_from_say, copies_say}
use Rattle.flr_honest.proofs.Copied.Putting as put
use Rattle.flr_honest.proofs.Copied.Putting.{copied_still, listed_at, copied_to_still, put_copied}
use Rattle.flr_honest.proofs.Copied.Standing.{fresh_hold, none_lands, past_size}
use Rattle.flr_honest.proofs.Copied.Taking.{holes_zero, taken}

-- where a step is made the copy knows of bytes what its next stage says
abbrev pub OnBytes : (ℕ → ℕ → ℕ) → Outcome CopyView → Type 0
OnBytes byte (Going next after) = CopySays after byte next.at
OnBytes byte (Fixed next reply takes after) = CopySays after byte next.at
OnBytes byte (Ended after) = Unit {0}
OnBytes byte (Answered reply takes after) = Unit {0}
OnBytes byte (Blocked holder) = Unit {0}

-- what a component holds where all objects hold what they held
pub held_content : (s after : Servers) → HoldsStill s after → (d : Component) (y : ℕ) → held (content after) d y ≡ held (content s) d y
held_content s after still d y = held_same (content s) (content after) d y (λ o there. ap (λ (bs : List ℕ). get_or bs (place_of y d.stripe).offset 0) (still o))

-- a copy's destinations hold what they held
pub so_far_still : (s after : Servers) (byte : ℕ → ℕ → ℕ) (h : Chunk) → HoldsStill s after → AreCopied s byte h → AreCopied after byte h
so_far_still s after byte h still c = record {
  past = c.past;
  before = λ p d is less y own. held_content s after still d y ∙ c.before p d is less y own;
  here = λ d is y own. ((λ low. held_content s after still d y ∙ (c.here d is y own).0 low), (λ high. held_content s after still d y ∙ (c.here d is y own).1 high));
  behind = λ p d is more y own. ((λ low. held_content s after still d y ∙ (c.behind p d is more y own).0 low), (λ high. held_content s after still d y ∙ (c.behind p d is more y own).1 high));
}

-- a read leaves all bytes
pub read_still : (s : Servers) (p : Piece) → HoldsStill s (piece_read s p)
read_still s p o = same_content s (object_of p).target (after_read (target_of s (object_of p)) (object_of p).number p.offset (length_of p)) (λ n. refl) o

module _ (s : State) (tr : Trace) (g : Ground s tr) (honest : Honest s tr) (k : CopyView) where
  abbrev m : MetaView
  m = s.shared.meta

  abbrev lands : ℕ → Part → Type 0
  lands n p = HasLandedOn s tr n p

  abbrev byte : ℕ → ℕ → ℕ
  byte = byte_in s tr

  -- ---- fences and resets

  fencing : (x : CopyingView) (next : ℕ) (o : CopyObject) (a : CallAnswer) → OnBytes byte (fences_object k s.shared x next o a)
  fencing x next o answer.Ok = fences_say (fenced s.shared x o.object) byte x (next + 1)
  fencing x next o (answer.Old kept) = fences_say (fenced s.shared x o.object) byte (leaves_over x o.extent (next_call_on s.shared.targets o.object.target)) (next + 1)
  fencing x next o answer.Failed = fences_say (fenced s.shared x o.object) byte (leaves_over x o.extent (next_call_on s.shared.targets o.object.target)) (next + 1)

  resetting : (x : CopyingView) (next : ℕ) → next < length (resets_of x) → AreThere s.shared.targets x.side.layout.components → AreEmptied s.shared x next
      → (a : CallAnswer) → reset_answer (target_of s.shared (object_at (resets_of x) next).object) (object_at (resets_of x) next).object.number x.side.layout.generation ≡ a → OnBytes byte (resets_object k s.shared x next (object_at (resets_of x) next) a)
  resetting x next within there r answer.Ok e =
      let n = named x.side.layout.components x.ids next (object_at [] 0) within in
      resets_say (emptied s.shared x (object_at (resets_of x) next).object) byte x (next + 1) (more_emptied s.shared byte x next (there n.0 (object_at (resets_of x) next).object n.1 n.2) r e)
  resetting x next within there r (answer.Old kept) e = λ stands. inl refl
  resetting x next within there r answer.Failed e =
      let call = next_call_on s.shared.targets (object_at (resets_of x) next).object.target in
      resets_say (emptied s.shared x (object_at (resets_of x) next).object) byte (leaves_with x (object_at (resets_of x) next).component call) (next + 1) (fewer_emptied s.shared byte x next call r)

  -- ---- settle

  -- each destination that isn't left is empty
  empty : (x : CopyingView) → IsBegun m x → AreEmptied s.shared x (length (resets_of x)) → state_of m.leases x.side.key ≡ Held → (p : ℕ) (d : Component) → IsKeptDestination x p d → (y : ℕ) → held (content s.shared) d y ≡ 0
  empty x b r stands p d is y = by (cases_Bool d.flags.init) (slice_get d.objects (place_of y d.stripe).index) refl
    where
      at_object : (o : ObjectId) → slice_get d.objects (place_of y d.stripe).index ≡ Some o → content s.shared o ≡ []
      at_object o there =
          let w = reset_place x.side.layout.components x.ids (get_or x.ids p 0) d o (object_at [] 0) (get_there x.ids p 0 (id_there x b.0.2 b.1 p d is)) (with_there x b.0.2 b.1 p d is) (listed_at d.objects (place_of y d.stripe).index o there) in
          let opened : is_open x.destinations (object_at (resets_of x) w.0).component ≡ true = ap (λ (q : CopyObject). is_open x.destinations q.component) w.2 ∙ kept_open x.destinations p d.id is.within is.kept (eq-eqb (destination_at x.destinations p).component d.id (sym is.same)) in
          ap (content s.shared) (ap (λ (q : CopyObject). q.object) (sym w.2)) ∙ r stands w.0 w.1 opened

      by : (d.flags.init ≡ true) ⊎ (d.flags.init ≡ false) → (o : Option ObjectId) → slice_get d.objects (place_of y d.stripe).index ≡ o → held (content s.shared) d y ≡ 0
      by (inr none) o there = held_unmade (content s.shared) d y none
      by (inl made) (Some o) there = held_made (content s.shared) d y o made there ∙ ap (λ (bs : List ℕ). get_or bs (place_of y d.stripe).offset 0) (at_object o there)
      by (inl made) None there = ap (λ (b : Bool). cond b (byte_at (content s.shared) (slice_get d.objects (place_of y d.stripe).index) (place_of y d.stripe).offset) 0) made ∙ ap (λ (q : Option ObjectId). byte_at (content s.shared) q (place_of y d.stripe).offset) there

  settling : (x : CopyingView) → IsBegun m x → AreEmptied s.shared x (length (resets_of x)) → (first_writer s.shared.locks k.client (settled_objects x) ≡ None → NoneLands m lands x.side.key (overlaps_kept x.destinations))
      → (o : Option (ℕ × Range)) (size : Option ℕ) → first_writer s.shared.locks k.client (settled_objects x) ≡ o → size_of x.side.file m ≡ size → OnBytes byte (settles k s.shared x o size)
  settling x b r none (Some told) size e f = tt
  settling x b r none None None e f = λ stands. inl refl
  settling x b r none None (Some size) e f = copies_say s.shared byte size 0 x (
    b,
    λ stands. (
      record {
        past = λ p d y is own past. past_size s tr g.holds.servers.sound honest.sized x.side.key.file size (ap (λ n. size_of n m) (sym b.0.0) ∙ f) y past;
        before = λ p d is less. absurd (omega (arith, less));
        behind = λ p d is more y own. ((λ low. absurd (omega (arith, low))), (λ high. empty x b r stands p d is y));
      },
      holes_zero s.shared (byte x.side.key.file) x (fresh_hold s tr g honest x b (none e) stands),
    ),
  )

  -- ---- takes and puts

  module _ (h : Chunk) (fit : IsChunkFit h) (r : sole.IsReady m s.shared.targets lands h.copying) where
    b : IsBegun m h.copying
    b = r.0

    holes : state_of m.leases h.copying.side.key ≡ Held → HolesAreZero (byte h.copying.side.key.file) h.copying
    holes stands = holes_zero s.shared (byte h.copying.side.key.file) h.copying (fresh_hold s tr g honest h.copying r.0 r.3 stands)

    taking : fitting.HasSource h → CopiedSoFar s.shared byte h → (a : CallAnswer) → OnBytes byte (takes_chunk k s.shared h (piece_from h) a)
    taking source so_far a = by a
      where
        p : Piece
        p = piece_from h

        once_more : (q : Piece) → OnBytes byte (Going (record k { at = at.Copy (again h q.component (next_call_on s.shared.targets (object_of q).target)) }) (piece_read s.shared q))
        once_more q = chunks_from_say (piece_read s.shared q) byte h.size h.place (h.failed ++ q.component ∷ []) (Some (next_call_on s.shared.targets (object_of q).target)) h.number h.copying (r.0, λ stands. (let c = so_far_still s.shared (piece_read s.shared q) byte h (read_still s.shared q) (so_far stands) in (record { past = c.past; before = c.before; here = c.here; behind = c.behind }, holes stands)))

        by : (a : CallAnswer) → OnBytes byte (takes_chunk k s.shared h (piece_from h) a)
        by answer.Ok = (λ stands. so_far_still s.shared (piece_read s.shared (piece_from h)) byte h (read_still s.shared (piece_from h)) (so_far stands), λ stands. taken m h r.0 fit s.shared (byte h.copying.side.key.file) source (fresh_hold s tr g honest h.copying r.0 r.3 stands))
        by (answer.Old kept) = once_more (piece_from h)
        by answer.Failed = once_more (piece_from h)

    module _ (bytes : List ℕ) (few : length bytes ≤ 65536) (there : AreThere s.shared.targets h.copying.side.layout.components) (so_far : CopiedSoFar s.shared byte h) (hand : IsInHand s.shared byte h bytes) where
      others : (q : ObjectId) → (q ≡ object_of (piece_to h) → ⊥) → content (piece_put s.shared h (piece_to h) bytes) q ≡ content s.shared q
      others q other = other_content s.shared (object_of (piece_to h)) q (after_write (target_of s.shared (object_of (piece_to h))) (object_of (piece_to h)).number (piece_to h).offset bytes h.copying.side.layout.generation) (write_others (target_of s.shared (object_of (piece_to h))) (object_of (piece_to h)).number h.copying.side.layout.generation (piece_to h).offset bytes) other

      module _ (stands : state_of m.leases h.copying.side.key ≡ Held) where
        w : (f : File) × (file_of h.copying.side.key.file m.files ≡ Some f)
        w = held_there m h.copying.side.key g.holds.servers.sound stands

        layout : w.0.layout ≡ h.copying.side.layout
        layout = r.0.0.1 stands w.0 w.1

        copied : (p : ℕ) (d : Component) → IsKeptDestination h.copying p d → (p ≡ h.place → ⊥) → HoldsFile s.shared (byte h.copying.side.key.file) d → HoldsFile (piece_put s.shared h (piece_to h) bytes) (byte h.copying.side.key.file) d
        copied p d is other c = copied_still m g.holds.servers.once h r.0 fit.copying w.0 w.1 layout s.shared (piece_put s.shared h (piece_to h) bytes) others (byte h.copying.side.key.file) p d is other c

        copied_to : (end p : ℕ) (d : Component) → IsKeptDestination h.copying p d → (p ≡ h.place → ⊥) → IsCopiedTo s.shared (byte h.copying.side.key.file) d end → IsCopiedTo (piece_put s.shared h (piece_to h) bytes) (byte h.copying.side.key.file) d end
        copied_to end p d is other c = copied_to_still m g.holds.servers.once h r.0 fit.copying w.0 w.1 layout s.shared (piece_put s.shared h (piece_to h) bytes) others (byte h.copying.side.key.file) end p d is other c

        here : write_answer (target_of s.shared (object_of (piece_to h))) (object_of (piece_to h)).number h.copying.side.layout.generation ≡ answer.Ok → (d : Component) → IsKeptDestination h.copying h.place d → IsCopiedTo (piece_put s.shared h (piece_to h) bytes) (byte h.copying.side.key.file) d (chunk_start (h.number + 1))
        here ok d is =
            let spot = put.at m g.holds.servers.once h r.0 fit.copying w.0 w.1 layout d is in
            let on = there d (object_of (piece_to h)) is.listed (to_contains d.objects (object_of (piece_to h)) (listed_at d.objects (place_of (chunk_start h.number) d.stripe).index (object_of (piece_to h)) spot)) in
            let effect = ok_effect (next_fail (target_of s.shared (object_of (piece_to h)))) (is_old (target_of s.shared (object_of (piece_to h))) (object_of (piece_to h)).number h.copying.side.layout.generation) (version_at (target_of s.shared (object_of (piece_to h))) (object_of (piece_to h)).number) ok in
            put_copied m g.holds.servers.once h r.0 fit.copying w.0 w.1 layout d is s.shared (piece_put s.shared h (piece_to h) bytes) (byte h.copying.side.key.file) bytes few
            (write_lands s.shared (object_of (piece_to h)) h.copying.side.layout.generation on effect (piece_to h).offset bytes) (hand stands) (λ y own past. (so_far stands).past h.place d y is own past) ((so_far stands).here d is)

      putting : (a : CallAnswer) → write_answer (target_of s.shared (object_of (piece_to h))) (object_of (piece_to h)).number h.copying.side.layout.generation ≡ a → OnBytes byte (puts_chunk k s.shared h bytes (piece_to h) a)
      putting answer.Ok ok = chunks_from_say (piece_put s.shared h (piece_to h) bytes) byte h.size h.place h.failed h.last (h.number + 1) h.copying (
        r.0,
        λ stands. (let c = so_far stands in (
          record {
            past = c.past;
            before = λ p d is less. copied stands p d is (λ same. omega (arith, less, same)) (c.before p d is less);
            here = here stands ok;
            behind = λ p d is more. copied_to stands 0 p d is (λ same. omega (arith, more, same)) (c.behind p d is more);
          },
          holes stands,
        )),
      )
      putting (answer.Old kept) e = λ stands. inl refl
      putting answer.Failed e =
          let call : FailedCall = next_call_on s.shared.targets (object_of (piece_to h)).target in
          copies_say (piece_put s.shared h (piece_to h) bytes) byte h.size (h.place + 1) (leaves_at h.copying h.place call) (
            begun_less s.shared.targets h.copying (left_at h.place call h.copying.destinations) (less_at h.place call h.copying.destinations) m r.0,
            λ stands. (let c = so_far stands in (
              record {
                past = λ p d y is. c.past p d y (kept_before h.copying h.place call p d is).1;
                before = λ p d is low. (let q = kept_before h.copying h.place call p d is in copied stands p d q.1 q.0 (c.before p d q.1 (let other = q.0 in omega (arith, low, other))));
                behind = λ p d is high. (let q = kept_before h.copying h.place call p d is in copied_to stands 0 p d q.1 q.0 (c.behind p d q.1 (omega (arith, high))));
              },
              λ e i fresh none p d is. holes stands e i fresh none p d (kept_before h.copying h.place call p d is).1,
            )),
          )

  -- ---- the end

  ends : (cleared : List ℕ) (left : List Left) (o : Ending (Unit {0})) → OnBytes byte (ends_copy k s.shared cleared left o)
  ends cleared left (Ends done after) = tt
  ends cleared left (Breaks step after) = tt
  ends cleared left (Holds holder) = tt

  -- ---- each stage

  module _ (alone : (n : ℕ) (p : Part) → lands n p → StandsAlone m.files n p) (writes : (n : ℕ) (p : Part) → lands n p → writer_but s.shared.locks k.client (part_object p) ≡ None → ⊥) where
    pub by_stage : (next : CopyStage) → IsFitStage next → AllByRecursion (λ (l : Composite). AreThere s.shared.targets l.components) (stage_hand next).copied → IsListed next → sole.StageSays m s.shared.targets lands next → StageSays s.shared byte next → OnBytes byte (stage_at next k s.shared)
    by_stage (stage.Fence x next) fit there listed is says = fencing x next (object_at (fences_of x) next) (fence_answer (target_of s.shared (object_at (fences_of x) next).object))
    by_stage (stage.Reset x next) fit there listed is says = resetting x next listed there.0 says (reset_answer (target_of s.shared (object_at (resets_of x) next).object) (object_at (resets_of x) next).object.number x.side.layout.generation) refl
    by_stage (stage.Settle x) fit there listed is says = settling x is.0 says (λ e. none_lands m s.shared.locks k.client lands alone writes x is.0 e) (first_writer s.shared.locks k.client (settled_objects x)) (size_of x.side.file m) refl refl
    by_stage (stage.Take h) fit there listed is says = taking h fit.0 is fit.1 says (read_answer (target_of s.shared (object_of (piece_from h))))
    by_stage (stage.Put h bytes) fit there listed is says = putting h fit.0 is bytes fit.1 there.0 says.0 says.1 (write_answer (target_of s.shared (object_of (piece_to h))) (object_of (piece_to h)).number h.copying.side.layout.generation) refl
    by_stage (stage.Done key cleared left) fit there listed is says = ends cleared left (copy_ends key cleared m)
