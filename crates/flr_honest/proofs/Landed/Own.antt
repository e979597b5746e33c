-- What a step of a call does to the bytes of its own parts.
use Rattle.std.proofs.Common.{◌≡◌, ℕ, zero, suc, ◌+◌, ◌-◌, ◌<◌, ◌≤◌, true, ◌&&◌, ltb, nat_eq, nat_le, Some, None, List, [], ◌∷◌, length, map, drop, ◌⊎◌, inl, inr, sym, ap, subst, ◌∙◌, arith, get_or}
use Rattle.std.specs.Prelude.{slice_get}
use Rattle.std.proofs.lemmas.Bool.{and_from, and_parts, cases_lt, eqb-true, le-leb, leb-true, lt-ltb, ltb-true}
use Rattle.std.proofs.lemmas.List.{get_or-drop, get_or-take}
use Rattle.std.proofs.lemmas.Option.{get_or_from_slice_get, slice_get_within}
use Rattle.flr_base.specs.declared.reply.ObjectId.{ObjectId}
use Rattle.stripe_map.specs.Cutting.{Tile}
use Rattle.stripe_map.specs.Places.{place_of}
use Rattle.stripe_map.proofs.PlaceLaws.{places_apart}
use Rattle.mirror_select.specs.declared.types.Piece.{Piece}
use Rattle.mirror_select.specs.Laws.{HasTail}
use Rattle.mirror_select.specs.Tails.{StripeObject, tail_in, tail_stripes}
use Rattle.mirror_select.proofs.ChoiceLaws.{write_pieces}
use Rattle.mirror_select.proofs.Least.{to_contains}
use Rattle.mirror_select.proofs.TailLaws.{are_all, covers_from}
use Rattle.call_steps.specs.Pieces.{IsWithin, length_of, object_of, piece_at}
use Rattle.call_steps.specs.Servers.{Servers}
use Rattle.client_write.specs.declared.phase.CutAt.{CutAt}
use Rattle.client_write.specs.declared.phase.CutAt.TheVariants as cut
use Rattle.client_write.specs.declared.phase.WriteAt.{WriteAt}
use Rattle.client_write.specs.declared.phase.WriteAt.TheVariants as write
use Rattle.client_write.specs.Calls.{WriteView}
use Rattle.client_write.specs.CutFitting.{IsSoundCutAt}
use Rattle.client_write.specs.Fitting.{HasPieces, IsAsked, IsSoundAt}
use Rattle.client_write.specs.Writes.{bytes_of, range_of}
use Rattle.client_write.proofs.Writable.{lies}
use Rattle.flr_numbers.specs.Sentences.{IsCallOf}
use Rattle.flr_steps.specs.declared.client.Running.{Running}
use Rattle.flr_steps.specs.declared.client.Running.TheVariants as running
use Rattle.flr_steps.specs.States.{State}
use Rattle.flr_steps.specs.Traces.{Trace, doing_of, sent_calls}
use Rattle.flr_claims.specs.Honesty.{IsAttempting, content}
use Rattle.flr_claims.specs.Sending.{Attempt, HasLanded, OfTruncate, OfWrite, Part, attempt_of, is_over, part_object}
use Rattle.flr_sole.specs.Sentences.{HasSent, HasSentPieces}
use Rattle.flr_bytes.specs.Runs.{Ground}
use Rattle.flr_bytes.specs.Sentences.{new_byte, offset_in}
use Rattle.flr_bytes.specs.Writing.{IsThisPart, PunchesTail, SendsPiece, Writes}
use Rattle.flr_honest.proofs.Landed.Lists.{got_back, got_in, map_got}
use Rattle.flr_bytes.proofs.Once.{one_index}
use Rattle.flr_bytes.proofs.Parts.{Lies, part_lies}
use Rattle.flr_honest.proofs.Landed.Untouched.{among_file, its_byte, its_index, stands}
use Rattle.flr_bytes.proofs.Landing.{decide}

-- ---- pieces of one write are apart

from_on : (ps : List Piece) (start end : ℕ) → Tile (map (λ (p : Piece). p.range) ps) start end → (j : ℕ) (q : Piece) → slice_get ps j ≡ Some q → start ≤ q.range.start
from_on [] start end t j q e = absurd (cc)
from_on (p ∷ ps) start end t zero q e = let same : p ≡ q = cc in subst (λ (r : Piece). start ≤ r.range.start) same (omega (arith, t.0))
from_on (p ∷ ps) start end t (suc j) q e = let rest = from_on ps p.range.end end t.2 j q e in omega (arith, t.1, rest)

pieces_apart : (ps : List Piece) (start end : ℕ) → Tile (map (λ (p : Piece). p.range) ps) start end → (i j : ℕ) (p q : Piece) → slice_get ps i ≡ Some p → slice_get ps j ≡ Some q → i < j → p.range.end ≤ q.range.start
pieces_apart [] start end t i j p q e f less = absurd (cc)
pieces_apart (r ∷ rs) start end t i zero p q e f less = absurd (omega (arith, less))
pieces_apart (r ∷ rs) start end t zero (suc j) p q e f less = let same : r ≡ p = cc in subst (λ (k : Piece). k.range.end ≤ q.range.start) same (from_on rs r.range.end end t.2 j q f)
pieces_apart (r ∷ rs) start end t (suc i) (suc j) p q e f less = pieces_apart rs r.range.end end t.2 i j p q e f (omega (arith, less))

-- ---- the part that is sent

module _ (s after : Servers) (c : ℕ) (call : Running) (of : IsCallOf c call) where
  -- what a send knows
  pub send_sound : (sends : SendsPiece s after call) → IsAsked (range_of sends.asked) × IsSoundAt (write.Send sends.writing sends.next) (range_of sends.asked)
  send_sound sends =
      let own : IsCallOf c (running.Write sends.asked) = subst (IsCallOf c) sends.writes of in
      (own.1, subst (λ (a : WriteAt). IsSoundAt a (range_of sends.asked)) sends.at own.2)

  -- and what a punch knows
  pub punch_sound : (punches : PunchesTail s after call) → IsSoundCutAt (cut.Punch punches.cutting punches.next) punches.asked.size
  punch_sound punches =
      let own : IsCallOf c (running.Truncate punches.asked) = subst (IsCallOf c) punches.truncates of in
      subst (λ (a : CutAt). IsSoundCutAt a punches.asked.size) punches.at own.1

  -- each byte of the piece is the write's
  sent_byte : (sends : SendsPiece s after call) (x : ℕ) → is_over x (OfWrite sends.piece) ≡ true → get_or (content after (object_of sends.piece)) (offset_in (OfWrite sends.piece) x) 0 ≡ new_byte call x
  sent_byte sends x over =
      let q : Piece = sends.piece in
      let w : WriteView = sends.asked in
      let sound = send_sound sends in
      let is : piece_at sends.writing.pieces sends.next ≡ q = get_or_from_slice_get sends.writing.pieces sends.next q _ sends.there in
      let within : IsWithin (range_of w) q = subst (IsWithin (range_of w)) is (lies (range_of w) sends.writing sends.next sound.0 sound.1.0 sound.1.1) in
      let first = within.low in
      let parts = and_parts (nat_le q.range.start x) (ltb x q.range.end) over in
      let low = leb-true q.range.start x parts.0 in
      let high = ltb-true x q.range.end parts.1 in
      let long = sends.long in
      let y : ℕ = q.offset + (x - q.range.start) in
      let back : y - q.offset ≡ x - q.range.start = omega arith in
      let behind : (q.range.start - w.offset) + (x - q.range.start) ≡ x - w.offset = omega (arith, first, low) in
      sends.new.over y (omega arith) (omega (arith, low, high, long))
      ∙ ap (λ i. get_or (bytes_of w q) i 0) back
      ∙ get_or-take (length_of q) (drop (q.range.start - w.offset) w.bytes) (x - q.range.start) 0 (omega (arith, low, high))
      ∙ get_or-drop (q.range.start - w.offset) w.bytes (x - q.range.start) 0
      ∙ ap (λ i. get_or w.bytes i 0) behind
      ∙ ap (λ (r : Running). new_byte r x) (sym sends.writes)

  -- each byte of the tail is gone
  cut_byte : (punches : PunchesTail s after call) (x : ℕ) → is_over x (OfTruncate punches.asked.size punches.stripe) ≡ true → get_or (content after punches.stripe.object) (offset_in (OfTruncate punches.asked.size punches.stripe) x) 0 ≡ new_byte call x
  cut_byte punches x over =
      let size : ℕ = punches.asked.size in
      let q : StripeObject = punches.stripe in
      let sound = punch_sound punches in
      let first = and_parts (nat_le size x) (nat_le q.component.extent.start x && ltb x q.component.extent.end && nat_eq (place_of x q.component.stripe).index q.index) over in
      let last = and_parts (nat_le q.component.extent.start x && ltb x q.component.extent.end) (nat_eq (place_of x q.component.stripe).index q.index) first.1 in
      let index : (place_of x q.component.stripe).index ≡ q.index = eqb-true (place_of x q.component.stripe).index q.index last.1 in
      let l = punches.cutting.opened.layout in
      let tail : HasTail l size q = (are_all l size q sound.0.valid).0 (to_contains (tail_stripes l size) q (got_in (tail_stripes l size) punches.next q punches.there)) in
      punches.new.over (place_of x q.component.stripe).offset ((covers_from l size q x sound.0.valid tail index).1 (leb-true size x first.0))
      ∙ ap (λ (r : Running). new_byte r x) (sym punches.truncates)

  -- each byte of the part that is sent here is what the call leaves there
  pub this_byte : (p : Part) → IsThisPart s after call p → (x : ℕ) → is_over x p ≡ true → get_or (content after (part_object p)) (offset_in p x) 0 ≡ new_byte call x
  this_byte (OfWrite q) this x over =
      subst (λ (z : Piece). is_over x (OfWrite z) ≡ true → get_or (content after (object_of z)) (offset_in (OfWrite z) x) 0 ≡ new_byte call x) this.1 (sent_byte this.0 x) over
  this_byte (OfTruncate size q) this x over =
      subst (λ (z : StripeObject). is_over x (OfTruncate size z) ≡ true → get_or (content after z.object) (offset_in (OfTruncate size z) x) 0 ≡ new_byte call x) this.2
      (subst (λ k. is_over x (OfTruncate k this.0.stripe) ≡ true → get_or (content after this.0.stripe.object) (offset_in (OfTruncate k this.0.stripe) x) 0 ≡ new_byte call x) this.1 (cut_byte this.0 x)) over

-- ---- a part that has landed before

module _ (s : State) (old : Trace) (g : Ground s old) (c : ℕ) (a : Attempt) (place : ℕ) (p : Part) (own : IsAttempting s c a) (l : HasLanded s.script.fails a (doing_of old c) place p) (x : ℕ) (over : is_over x p ≡ true) (t : State)
    (was : get_or (content s.shared (part_object p)) (offset_in p x) 0 ≡ new_byte own.client.call x) where
  abbrev call : Running
  call = own.client.call

  abbrev stays : Type 0
  stays = get_or (content t.shared (part_object p)) (offset_in p x) 0 ≡ new_byte call x

  elsewhere : (o : ObjectId) → ((q : ObjectId) → (q ≡ o → ⊥) → content t.shared q ≡ content s.shared q) → (part_object p ≡ o → ⊥) → stays
  elsewhere o others apart = ap (λ (bs : List ℕ). get_or bs (offset_in p x) 0) (others (part_object p) apart) ∙ was

  is_of : IsCallOf c call
  is_of = (g.holds.clients c own.client own.here).call

  -- another piece of the same write
  by_piece : (sends : SendsPiece s.shared t.shared call) → stays
  by_piece sends = at (decide (part_object p) o)
    where
      o : ObjectId
      o = object_of sends.piece

      sound : IsAsked (range_of sends.asked) × IsSoundAt (write.Send sends.writing sends.next) (range_of sends.asked)
      sound = send_sound s.shared t.shared c call is_of sends

      mine : attempt_of call ≡ Some (record { opened = sends.writing.opened; parts = map OfWrite sends.writing.pieces })
      mine = ap attempt_of sends.writes ∙ ap (λ (b : WriteAt). attempt_of (running.Write (record sends.asked { at = b }))) sends.at

      parts : a.parts ≡ map OfWrite sends.writing.pieces
      parts = let e : Some a ≡ Some (record { opened = sends.writing.opened; parts = map OfWrite sends.writing.pieces }) = sym own.attempt ∙ mine in let one : a ≡ record { opened = sends.writing.opened; parts = map OfWrite sends.writing.pieces } = cc in ap (λ (b : Attempt). b.parts) one

      next_there : slice_get a.parts sends.next ≡ Some (OfWrite sends.piece)
      next_there = ap (λ (ps : List Part). slice_get ps sends.next) parts ∙ map_got OfWrite sends.writing.pieces sends.next sends.piece sends.there

      piece : (q : Piece) × (slice_get sends.writing.pieces place ≡ Some q) × (OfWrite q ≡ p)
      piece = got_back OfWrite sends.writing.pieces place p (ap (λ (ps : List Part). slice_get ps place) (sym parts) ∙ l.there)

      -- it was sent before
      earlier : place < sends.next
      earlier =
          let sent : HasSent (running.Write sends.asked) (doing_of old c) = subst (λ (r : Running). HasSent r (doing_of old c)) sends.writes (g.sole.sent c own.client own.here) in
          let count : HasSentPieces (write.Send sends.writing sends.next) (doing_of old c) = subst (λ (b : WriteAt). HasSentPieces b (doing_of old c)) sends.at sent in
          let within = slice_get_within (sent_calls (doing_of old c)) place l.made l.sent in
          omega (arith, count, within)

      tiles : Tile (map (λ (q : Piece). q.range) sends.writing.pieces) (range_of sends.asked).start (range_of sends.asked).end
      tiles =
          let has : HasPieces (range_of sends.asked) sends.writing = sound.1.0 in
          let some = sound.0.some in
          let end = has.below in
          let law = write_pieces sends.writing.opened.layout (range_of sends.asked) has.valid has.ready (omega (arith, some)) (omega (arith, end)) in
          subst (λ (ps : List Piece). Tile (map (λ (q : Piece). q.range) ps) (range_of sends.asked).start (range_of sends.asked).end) (sym has.are) law.2.tile

      ends : x < sends.piece.range.start
      ends =
          let before = pieces_apart sends.writing.pieces (range_of sends.asked).start (range_of sends.asked).end tiles place sends.next piece.0 sends.piece piece.1 sends.there earlier in
          let on : is_over x (OfWrite piece.0) ≡ true = ap (is_over x) piece.2 ∙ over in
          let high = ltb-true x piece.0.range.end (and_parts (nat_le piece.0.range.start x) (ltb x piece.0.range.end) on).1 in
          omega (arith, before, high)

      -- so no byte of it is among those that are sent now
      out : part_object p ≡ o → sends.piece.offset ≤ offset_in p x → offset_in p x < sends.piece.offset + length (bytes_of sends.asked sends.piece) → ⊥
      out same low high =
          let q : Piece = sends.piece in
          let long = sends.long in
          let y : ℕ = q.range.start + (offset_in p x - q.offset) in
          let from : q.range.start ≤ y = omega arith in
          let to : y < q.range.end = omega (arith, low, high, long) in
          let on : is_over y (OfWrite q) ≡ true = and_from (nat_le q.range.start y) (ltb y q.range.end) (le-leb q.range.start y from) (lt-ltb y q.range.end to) in
          let st = stands s old g c a place p own l in
          let at = its_index s old g c a place p own l in
          let mine = its_byte s old g c a place p own l x over in
          let theirs : Lies st.alone.component (OfWrite q) y = part_lies s g.holds g.shaped c a sends.next (OfWrite q) own next_there a.opened.file st.file st.alone.component at.0 st.there (among_file s old g c a place p own l) (at.1 ∙ ap (λ (k : ObjectId). Some k) same) y on in
          let index = one_index s.shared.meta a.opened.file st.file (part_object p) st.alone.component (place_of x st.alone.component.stripe).index (place_of y st.alone.component.stripe).index g.holds.servers.once st.there (among_file s old g c a place p own l) mine.object (theirs.object ∙ ap (λ (k : ObjectId). Some k) (sym same)) in
          let level : q.offset + (y - q.range.start) ≡ offset_in p x = omega (arith, low) in
          let offset : (place_of x st.alone.component.stripe).offset ≡ (place_of y st.alone.component.stripe).offset = mine.offset ∙ sym (theirs.offset ∙ level) in
          let one : x ≡ y = places_apart st.alone.component.stripe x y (λ j. record { index = index j; offset = offset j }) in
          let before = ends in
          absurd (omega (arith, one, before, from))

      at : (part_object p ≡ o) ⊎ (part_object p ≡ o → ⊥) → stays
      at (inr apart) = elsewhere o sends.new.others apart
      at (inl same) = ap (λ (q : ObjectId). get_or (content t.shared q) (offset_in p x) 0) same ∙ sends.new.beside (offset_in p x) (out same) ∙ ap (λ (q : ObjectId). get_or (content s.shared q) (offset_in p x) 0) (sym same) ∙ was

  -- another tail of the same truncate
  by_tail : (punches : PunchesTail s.shared t.shared call) → stays
  by_tail punches = at (decide (part_object p) punches.stripe.object)
    where
      gone : new_byte call x ≡ 0
      gone = ap (λ (r : Running). new_byte r x) punches.truncates

      at : (part_object p ≡ punches.stripe.object) ⊎ (part_object p ≡ punches.stripe.object → ⊥) → stays
      at (inr apart) = elsewhere punches.stripe.object punches.new.others apart
      at (inl same) = elim (cases_lt (offset_in p x) (tail_in punches.asked.size punches.stripe).offset) as (λ _. stays) [
        | inl less ↦ ap (λ (q : ObjectId). get_or (content t.shared q) (offset_in p x) 0) same ∙ punches.new.below (offset_in p x) less ∙ ap (λ (q : ObjectId). get_or (content s.shared q) (offset_in p x) 0) (sym same) ∙ was
        | inr past ↦ ap (λ (q : ObjectId). get_or (content t.shared q) (offset_in p x) 0) same ∙ punches.new.over (offset_in p x) past ∙ sym gone
      ]

  -- a step of the call itself leaves it
  pub own_keeps : Writes s.shared t.shared call → stays
  own_keeps (inl still) = ap (λ (bs : List ℕ). get_or bs (offset_in p x) 0) (still (part_object p)) ∙ was
  own_keeps (inr (inl sends)) = by_piece sends
  own_keeps (inr (inr (inl punches))) = by_tail punches
  own_keeps (inr (inr (inr (inl resets)))) = absurd (let no : Some a ≡ None = sym own.attempt ∙ ap attempt_of resets.copies in cc)
  own_keeps (inr (inr (inr (inr puts)))) = absurd (let no : Some a ≡ None = sym own.attempt ∙ ap attempt_of puts.copies in cc)
