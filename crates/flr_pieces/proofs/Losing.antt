-- What is too old for a write or a truncate has lost its cookie; and their pieces are few.
use Rattle.std.proofs.Common.{◌≡◌, ℕ, ◌<◌, ◌≤◌, Bool, true, false, true≢false, Option, Some, None, List, length, refl, sym, ap, subst, ◌∙◌, arith}
use Rattle.std.specs.Prelude.{All, is_some, unwrap_or}
use Rattle.std.specs.Option.{option_map_or}
use Rattle.std.proofs.lemmas.List.Elements.{All-contains_itself, All-map}
use Rattle.std.proofs.lemmas.Option.{get_or_from_slice_get, slice_get_within}
use Rattle.flr_base.specs.declared.reply.FailedCall.{FailedCall}
use Rattle.flr_base.specs.declared.reply.ObjectId.{ObjectId}
use Rattle.flr_base.specs.declared.reply.Range.{Range}
use Rattle.composite_layout.specs.Layouts.{Composite, IsValid}
use Rattle.composite_layout.specs.LookUps.{covers}
use Rattle.layout_lease.specs.declared.shared.Share.{Share}
use Rattle.layout_lease.specs.Shares.{is_held}
use Rattle.mirror_select.specs.declared.types.Piece.{Piece}
use Rattle.mirror_select.specs.declared.types.Tail.{Tail}
use Rattle.mirror_select.specs.Laws.{ArePieces, HasTail}
use Rattle.mirror_select.specs.Pieces.{component_of, write_pieces_of}
use Rattle.mirror_select.specs.Tails.{StripeObject, tail_in, tail_stripes, tails_of}
use Rattle.mirror_select.proofs.ChoiceLaws.{write_pieces}
use Rattle.mirror_select.proofs.Least.{found_in, to_contains}
use Rattle.mirror_select.proofs.TailLaws.{are_all}
use Rattle.stripe_map.specs.Cutting.{units_of}
use Rattle.object_target.specs.declared.call.CallAnswer.TheVariants as answer
use Rattle.object_target.specs.Calls.{write_answer}
use Rattle.meta_server.specs.declared.answers.Opened.{Opened}
use Rattle.meta_server.specs.Closing.{holds}
use Rattle.meta_server.specs.Files.{File, MetaView, file_of}
use Rattle.call_steps.specs.Pieces.{IsNamed, object_of, piece_at}
use Rattle.call_steps.specs.Servers.{Servers, target_at}
use Rattle.call_steps.proofs.PieceLaws.{named}
use Rattle.script_values.specs.Work.{blocks_of}
use Rattle.client_read.specs.declared.phase.ReadAt.{ReadAt}
use Rattle.client_read.specs.declared.phase.ReadAt.TheVariants as read
use Rattle.client_write.specs.declared.phase.CutAt.{CutAt}
use Rattle.client_write.specs.declared.phase.CutAt.TheVariants as cut
use Rattle.client_write.specs.declared.phase.WriteAt.{WriteAt}
use Rattle.client_write.specs.declared.phase.WriteAt.TheVariants as write
use Rattle.client_write.specs.CutFitting.{HasTails, IsSoundCutAt}
use Rattle.client_write.specs.Fitting.{HasPieces, IsAsked, IsSoundAt}
use Rattle.client_write.specs.Parts.{came_of}
use Rattle.client_write.specs.Truncates.{tail_at}
use Rattle.client_write.specs.Views.{CuttingView, WritingView}
use Rattle.client_write.specs.Writes.{range_of}
use Rattle.client_write.proofs.Writable.{has_object}
use Rattle.flr_steps.specs.declared.client.Running.{Running}
use Rattle.flr_steps.specs.declared.client.Running.TheVariants as running
use Rattle.flr_numbers.specs.Calls.{cut_hand, write_hand}
use Rattle.flr_numbers.specs.Frames.{IsShared, Stands}
use Rattle.flr_numbers.specs.Hands.{AreServers, Has, holding}
use Rattle.flr_numbers.specs.Sentences.{IsCallOf, hand_of}
use Rattle.flr_numbers.proofs.Objects.{named_stands}
use Rattle.flr_numbers.proofs.WriteSteps.{none_old}
use Rattle.flr_pieces.specs.Sentences.{IsFew, IsFewRead, IsFewWrite, IsLost, IsLostCut, IsLostWrite}
use Rattle.flr_pieces.proofs.Keeping.{Knows}
use Rattle.flr_pieces.proofs.Reading.{KnowsRead, few_units}
use Rattle.flr_pieces.proofs.Writing.{OwnsCut, OwnsWrite}

-- ---- few pieces

few_written : (range : Range) (x : WritingView) → IsAsked range → HasPieces range x → length x.pieces ≤ blocks_of range.start range.end
few_written range x asked has =
    let law = write_pieces x.opened.layout range has.valid has.ready (omega (arith, asked.some)) (omega (arith, has.below)) in
    let few : length (write_pieces_of x.opened.layout range) ≤ length (units_of range 65536) = law.2.few in
    let most : length (units_of range 65536) ≤ blocks_of range.start range.end = few_units range.start range.end in
    let same : length x.pieces ≡ length (write_pieces_of x.opened.layout range) = ap (λ (ps : List Piece). length ps) has.are in
    omega (arith, few, most, same)

few_read : (range : Range) (a : ReadAt) → KnowsRead range a → IsFewRead range a
few_read range read.Open h = tt
few_read range (read.Lock x next) h = h.few
few_read range (read.Take x next) h = h.few
few_read range (read.Again x) h = tt
few_read range (read.Confirm x) h = tt
few_read range read.UnlockAgain h = tt
few_read range read.Unlock h = tt

few_write : (range : Range) (a : WriteAt) → IsAsked range → IsSoundAt a range → IsFewWrite range a
few_write range write.Open asked h = tt
few_write range (write.Lock x next) asked h = (h.1, few_written range x asked h.0)
few_write range (write.Send x next) asked h = (h.1, few_written range x asked h.0)
few_write range (write.Commit x end came) asked h = few_written range x asked h.0
few_write range write.UnlockAgain asked h = tt
few_write range write.Unlock asked h = tt

pub few : (c : ℕ) (call : Running) → IsCallOf c call → Knows call → IsFew call
few c running.Idle is knows = tt
few c (running.Read call) is knows = few_read call.range call.at knows.1
few c (running.Write call) is knows = few_write (range_of call) call.at is.1 is.2
few c (running.Truncate call) is knows = tt
few c (running.Copy call) is knows = tt
few c (running.Verify call) is knows = tt

-- ---- objects of pieces and tails

-- the object of a piece stands in the layout
piece_stands : (range : Range) (x : WritingView) (place : ℕ) → IsAsked range → HasPieces range x → place < length x.pieces → Stands (object_of (piece_at x.pieces place)) x.opened.layout
piece_stands range x place asked has within = by (piece_at x.pieces place).object refl (has_object range x place asked has within)
  where
    one : (o : ObjectId) → (piece_at x.pieces place).object ≡ Some o → IsNamed x.opened.layout.components o
    one o e =
        let law = write_pieces x.opened.layout range has.valid has.ready (omega (arith, asked.some)) (omega (arith, has.below)) in
        let are : ArePieces (component_of x.opened.layout.components (Some law.0)) range x.pieces = subst (λ (ps : List Piece). ArePieces (component_of x.opened.layout.components (Some law.0)) range ps) (sym has.are) law.2 in
        named (component_of x.opened.layout.components (Some law.0)) range x.opened.layout.components x.pieces
        (λ y c is. to_contains x.opened.layout.components c (found_in (covers law.0 y) x.opened.layout.components c is).0) are place _ within o e

    by : (o : Option ObjectId) → (piece_at x.pieces place).object ≡ o → is_some o ≡ true → Stands (unwrap_or o (record { target = 0; number = 0 })) x.opened.layout
    by (Some o) e some = named_stands o x.opened.layout.components (one o e)
    by None e some = absurd (cc)

stripe_stands : (l : Composite) (size : ℕ) (s : StripeObject) → HasTail l size s → Stands s.object l
stripe_stands l size s has =
    named_stands s.object l.components (s.component, has.there, (s.index, slice_get_within s.component.objects s.index s.object has.object, get_or_from_slice_get s.component.objects s.index s.object s.object has.object))

tails_stand : (l : Composite) (size : ℕ) → IsValid l → All (λ (t : Tail). Stands t.object l) (tails_of l size)
tails_stand l size valid =
    All-map (λ (t : Tail). Stands t.object l) (tail_in size) (tail_stripes l size)
    (λ k d h. stripe_stands l size _ ((are_all l size _ valid).0 (All-contains_itself (tail_stripes l size) k d h)))

-- the object of a tail stands in the layout
tail_stands : (size : ℕ) (x : CuttingView) (place : ℕ) → HasTails size x → place < length x.tails → Stands (tail_at x.tails place).object x.opened.layout
tail_stands size x place has within =
    subst (λ (ts : List Tail). All (λ (t : Tail). Stands t.object x.opened.layout) ts) (sym has.are) (tails_stand x.opened.layout size has.valid) place _ within

-- ---- too old

-- a cookie that is held is shared, of the layout that its file has
shared_in : (m : MetaView) (number : ℕ) (cookie : Share) → holds number cookie m ≡ true → (l : Composite) × IsShared m number cookie l
shared_in m number cookie h = by (file_of number m.files) refl
  where
    held_by : (o : Option File) → file_of number m.files ≡ o → option_map_or (λ (f : File). is_held f.lock cookie) o false ≡ true
    held_by o e = sym (ap (λ (x : Option File). option_map_or (λ (f : File). is_held f.lock cookie) x false) e) ∙ h

    by : (o : Option File) → file_of number m.files ≡ o → (l : Composite) × IsShared m number cookie l
    by None e = absurd (true≢false (sym (held_by None e)))
    by (Some f) e = (f.layout, record { file = f; there = e; held = held_by (Some f) e; layout = refl })

-- whichever call it is by
some_call : FailedCall
some_call = record { target = 0; call = 0 }

module _ (c : ℕ) (s : Servers) (h : AreServers s.meta s.targets) where
  -- an object of the layout that keeps a greater version than the generation got at open
  old_lost : (o : Opened) (q : ObjectId) (kept : ℕ) → Has c s.meta s.locks (holding true o) → o.cookie.client ≡ c → Stands q o.layout → write_answer (target_at s.targets q.target) q.number o.layout.generation ≡ answer.Old kept
      → holds o.file o.cookie s.meta ≡ false
  old_lost o q kept has own stands old = by (holds o.file o.cookie s.meta) refl
    where
      by : (b : Bool) → holds o.file o.cookie s.meta ≡ b → holds o.file o.cookie s.meta ≡ false
      by false e = e
      by true e =
          let is = shared_in s.meta o.file o.cookie e in
          absurd (none_old c s.meta s.targets s.locks true o q some_call h has stands (ap (came_of some_call) old) o.file o.cookie is.0 own is.1)

  write_lost : (client : ℕ) (range : Range) (a : WriteAt) → client ≡ c → Has c s.meta s.locks (write_hand a) → IsAsked range → IsSoundAt a range → OwnsWrite client a → IsLostWrite s a
  write_lost client range write.Open of has asked sound own = tt
  write_lost client range (write.Lock x next) of has asked sound own = tt
  write_lost client range (write.Send x next) of has asked sound own = λ kept old. old_lost x.opened (object_of (piece_at x.pieces next)) kept has (own ∙ of) (piece_stands range x next asked sound.0 sound.1) old
  write_lost client range (write.Commit x end came) of has asked sound own = tt
  write_lost client range write.UnlockAgain of has asked sound own = tt
  write_lost client range write.Unlock of has asked sound own = tt

  cut_lost : (client size : ℕ) (a : CutAt) → client ≡ c → Has c s.meta s.locks (cut_hand a) → IsSoundCutAt a size → OwnsCut client a → IsLostCut s a
  cut_lost client size cut.Open of has sound own = tt
  cut_lost client size (cut.Lock x) of has sound own = tt
  cut_lost client size (cut.Punch x next) of has sound own = λ kept old. old_lost x.opened (tail_at x.tails next).object kept has (own ∙ of) (tail_stands size x next sound.0 sound.1) old
  cut_lost client size (cut.Commit x came) of has sound own = tt
  cut_lost client size cut.UnlockAgain of has sound own = tt
  cut_lost client size cut.Unlock of has sound own = tt

  pub lost : (call : Running) → Has c s.meta s.locks (hand_of call) → IsCallOf c call → Knows call → IsLost s call
  lost running.Idle has is knows = tt
  lost (running.Read call) has is knows = tt
  lost (running.Write call) has is knows = write_lost call.client (range_of call) call.at is.0 has is.1 is.2 knows
  lost (running.Truncate call) has is knows = cut_lost call.client call.size call.at is.0 has is.1 knows
  lost (running.Copy call) has is knows = tt
  lost (running.Verify call) has is knows = tt
