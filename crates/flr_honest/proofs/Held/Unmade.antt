-- Objects that weren't made before a step hold nothing after it.
use Rattle.std.proofs.Common.{◌≡◌, ℕ, Bool, true, false, cond, Option, Some, None, List, [], get_or, inl, inr, refl, sym, ap, subst, ◌∙◌, arith}
use Rattle.std.specs.Prelude.{Contains, slice_get}
use Rattle.std.proofs.lemmas.Option.{get_or_from_slice_get}
use Rattle.flr_base.specs.declared.reply.ObjectId.{ObjectId}
use Rattle.stripe_map.specs.Places.{place_of}
use Rattle.composite_layout.specs.declared.component.Component.{Component}
use Rattle.composite_layout.specs.Layouts.{Composite}
use Rattle.layout_state.specs.Making.{AreNext}
use Rattle.mirror_select.specs.declared.types.Piece.{Piece}
use Rattle.mirror_select.specs.Held.{byte_at, held}
use Rattle.mirror_select.specs.Laws.{HasTail}
use Rattle.mirror_select.specs.Tails.{tail_stripes}
use Rattle.mirror_select.proofs.Least.{to_contains}
use Rattle.mirror_select.proofs.TailLaws.{are_all}
use Rattle.meta_server.specs.Files.{MetaView}
use Rattle.call_steps.specs.Pieces.{object_of, piece_at}
use Rattle.client_write.specs.declared.phase.CutAt.{CutAt}
use Rattle.client_write.specs.declared.phase.CutAt.TheVariants as cut
use Rattle.client_write.specs.declared.phase.WriteAt.{WriteAt}
use Rattle.client_write.specs.declared.phase.WriteAt.TheVariants as write
use Rattle.client_write.specs.CutFitting.{IsSoundCutAt}
use Rattle.client_write.specs.Fitting.{IsSoundAt}
use Rattle.client_write.specs.Writes.{range_of}
use Rattle.resync_copy.specs.declared.phase.CopyAt.{CopyAt}
use Rattle.resync_copy.specs.declared.phase.CopyAt.TheVariants as at
use Rattle.resync_copy.specs.declared.phase.CopyStage.TheVariants as stage
use Rattle.resync_copy.specs.Copies.{object_at, piece_to}
use Rattle.resync_copy.specs.Views.{resets_of}
use Rattle.flr_numbers.specs.Calls.{cut_hand, write_hand}
use Rattle.flr_numbers.specs.Copies.{copy_hand}
use Rattle.flr_numbers.specs.Frames.{IsUnmade}
use Rattle.flr_numbers.specs.Hands.{Has}
use Rattle.flr_numbers.specs.Sentences.{IsCallOf, hand_of}
use Rattle.flr_numbers.proofs.Objects.{named_stands}
use Rattle.flr_unmade.proofs.Pieces.{put_made, reset_made, written_made}
use Rattle.flr_unmade.proofs.Targets.{IsMade}
use Rattle.flr_steps.specs.declared.client.Running.{Running}
use Rattle.flr_steps.specs.declared.client.Running.TheVariants as running
use Rattle.flr_steps.specs.Clients.{call_now}
use Rattle.flr_steps.specs.States.{State}
use Rattle.flr_steps.specs.Traces.{Trace, copy_begins, cut_opens, traced, write_opens}
use Rattle.flr_claims.specs.Honesty.{content}
use Rattle.flr_bytes.specs.Laws.{StepsWrite}
use Rattle.flr_bytes.specs.Runs.{IsStep}
use Rattle.flr_bytes.specs.Writing.{PunchesTail, PutsChunk, ResetsObject, SendsPiece, Writes}
use Rattle.flr_bytes.proofs.Alone.{listed_at}
use Rattle.flr_bytes.proofs.Clients.{under_way}

module _ (writes : StepsWrite) (s t : State) (old new : Trace) (c : ℕ) (is : IsStep s t old new c) (e : new ≡ traced s t old c) where
  abbrev call : Running
  call = call_now c is.step.client.call is.step.asked

  abbrev m : MetaView
  m = s.shared.meta

  nexts : AreNext m.nexts
  nexts = is.before.holds.servers.sound.nexts

  -- what the call has in hand, and what it knows of itself
  has : (now : Running) → is.step.client.call ≡ now → Has c m s.shared.locks (hand_of now)
  has now same = subst (λ (r : Running). Has c m s.shared.locks (hand_of r)) same (is.before.holds.clients c is.step.client is.step.here).has

  knows : (now : Running) → is.step.client.call ≡ now → IsCallOf c now
  knows now same = subst (IsCallOf c) same (is.before.holds.clients c is.step.client is.step.here).call

  -- what the step writes to was made
  sent_made : (sends : SendsPiece s.shared t.shared call) → IsMade m (object_of sends.piece)
  sent_made sends =
      let was : is.step.client.call ≡ running.Write sends.asked = under_way c is.step.asked is.step.client.call (running.Write sends.asked) sends.writes (ap write_opens sends.at) in
      let own = knows (running.Write sends.asked) was in
      let sound : IsSoundAt (write.Send sends.writing sends.next) (range_of sends.asked) = subst (λ (a : WriteAt). IsSoundAt a (range_of sends.asked)) sends.at own.2 in
      let holds : Has c m s.shared.locks (write_hand (write.Send sends.writing sends.next)) = subst (λ (a : WriteAt). Has c m s.shared.locks (write_hand a)) sends.at (has (running.Write sends.asked) was) in
      let same : piece_at sends.writing.pieces sends.next ≡ sends.piece = get_or_from_slice_get sends.writing.pieces sends.next sends.piece _ sends.there in
      subst (λ (p : Piece). IsMade m (object_of p)) same (written_made m (range_of sends.asked) sends.writing sends.next nexts (holds.opened sends.writing.opened refl) own.1 sound.0 sound.1)

  punched_made : (punches : PunchesTail s.shared t.shared call) → IsMade m punches.stripe.object
  punched_made punches =
      let was : is.step.client.call ≡ running.Truncate punches.asked = under_way c is.step.asked is.step.client.call (running.Truncate punches.asked) punches.truncates (ap cut_opens punches.at) in
      let own = knows (running.Truncate punches.asked) was in
      let sound : IsSoundCutAt (cut.Punch punches.cutting punches.next) punches.asked.size = subst (λ (a : CutAt). IsSoundCutAt a punches.asked.size) punches.at own.1 in
      let holds : Has c m s.shared.locks (cut_hand (cut.Punch punches.cutting punches.next)) = subst (λ (a : CutAt). Has c m s.shared.locks (cut_hand a)) punches.at (has (running.Truncate punches.asked) was) in
      let l : Composite = punches.cutting.opened.layout in
      let stripes = tail_stripes l punches.asked.size in
      let tail : HasTail l punches.asked.size punches.stripe = (are_all l punches.asked.size punches.stripe sound.0.valid).0 (to_contains stripes punches.stripe (listed_at stripes punches.next punches.stripe punches.there)) in
      let d : Component = punches.stripe.component in
      holds.opened punches.cutting.opened refl punches.stripe.object (named_stands punches.stripe.object l.components (d, tail.there, to_contains d.objects punches.stripe.object (listed_at d.objects punches.stripe.index punches.stripe.object tail.object)))

  reset_was_made : (resets : ResetsObject s.shared t.shared call) → IsMade m (object_at (resets_of resets.copying) resets.next).object
  reset_was_made resets =
      let was : is.step.client.call ≡ running.Copy resets.asked = under_way c is.step.asked is.step.client.call (running.Copy resets.asked) resets.copies (ap copy_begins resets.at) in
      let holds : Has c m s.shared.locks (copy_hand (at.Copy (stage.Reset resets.copying resets.next))) = subst (λ (a : CopyAt). Has c m s.shared.locks (copy_hand a)) resets.at (has (running.Copy resets.asked) was) in
      reset_made m resets.copying resets.next holds.made.0 resets.within

  put_was_made : (puts : PutsChunk s.shared t.shared call) → IsMade m (object_of (piece_to puts.chunk))
  put_was_made puts =
      let was : is.step.client.call ≡ running.Copy puts.asked = under_way c is.step.asked is.step.client.call (running.Copy puts.asked) puts.copies (ap copy_begins puts.at) in
      let holds : Has c m s.shared.locks (copy_hand (at.Copy (stage.Put puts.chunk puts.bytes))) = subst (λ (a : CopyAt). Has c m s.shared.locks (copy_hand a)) puts.at (has (running.Copy puts.asked) was) in
      put_made m puts.chunk nexts holds.made.0

  other : (o p : ObjectId) → IsUnmade m o → IsMade m p → o ≡ p → ⊥
  other o p unmade made same = let made_too : IsMade m o = subst (IsMade m) (sym same) made in omega (arith, unmade, made_too)

  -- an object that wasn't made has no bytes then
  pub unmade_empty : (o : ObjectId) → IsUnmade m o → content t.shared o ≡ []
  unmade_empty o unmade = by (writes s t old new c is e) ∙ is.before.spared.bytes o unmade
    where
      by : Writes s.shared t.shared call → content t.shared o ≡ content s.shared o
      by (inl still) = still o
      by (inr (inl sends)) = sends.new.others o (other o (object_of sends.piece) unmade (sent_made sends))
      by (inr (inr (inl punches))) = punches.new.others o (other o punches.stripe.object unmade (punched_made punches))
      by (inr (inr (inr (inl resets)))) = resets.new.others o (other o (object_at (resets_of resets.copying) resets.next).object unmade (reset_was_made resets))
      by (inr (inr (inr (inr puts)))) = puts.new.others o (other o (object_of (piece_to puts.chunk)) unmade (put_was_made puts))

  -- so a component of such objects holds zeros
  pub unmade_held : (d : Component) (x : ℕ) → ((o : ObjectId) → Contains d.objects o → IsUnmade m o) → held (content t.shared) d x ≡ 0
  unmade_held d x unmade = ap (λ k. cond d.flags.init k 0) (at_place (slice_get d.objects (place_of x d.stripe).index) refl) ∙ either d.flags.init
    where
      at_place : (o : Option ObjectId) → slice_get d.objects (place_of x d.stripe).index ≡ o → byte_at (content t.shared) o (place_of x d.stripe).offset ≡ 0
      at_place None there = refl
      at_place (Some o) there = ap (λ (bs : List ℕ). get_or bs (place_of x d.stripe).offset 0) (unmade_empty o (unmade o (to_contains d.objects o (listed_at d.objects (place_of x d.stripe).index o there))))

      either : (b : Bool) → cond {A = ℕ} b 0 0 ≡ 0
      either true = refl
      either false = refl
