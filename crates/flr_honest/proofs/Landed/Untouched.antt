-- A step of another client leaves each byte of a part that has landed.
use Rattle.std.proofs.Common.{◌≡◌, ℕ, ◌+◌, ◌*◌, ◌/◌, ◌<◌, ◌≤◌, true, false, Option, Some, List, length, ◌⊎◌, inl, inr, sym, ap, subst, ◌∙◌, arith, get_or}
use Rattle.std.specs.Prelude.{Contains, slice_get}
use Rattle.std.specs.Option.{option_map_or}
use Rattle.std.proofs.Math.Nat.{div-div-eq-div-mul, div-le_self, mul-le-mul_right}
use Rattle.std.proofs.lemmas.Bool.{cases_lt}
use Rattle.std.proofs.lemmas.Nat.{div-add-mod'}
use Rattle.flr_base.specs.declared.reply.ObjectId.{ObjectId}
use Rattle.flr_base.specs.declared.reply.Stripe.{Stripe}
use Rattle.stripe_map.specs.Places.{place_of}
use Rattle.extent_lock.specs.Extents.{locks_of}
use Rattle.composite_layout.specs.Layouts.{eof}
use Rattle.mirror_select.specs.Tails.{tail_in, tail_stripes}
use Rattle.mirror_select.proofs.Least.{In, from_contains}
use Rattle.mirror_select.proofs.Sound.{are_good}
use Rattle.meta_server.specs.Files.{MetaView}
use Rattle.call_steps.specs.Pieces.{object_of}
use Rattle.client_write.specs.declared.phase.CutAt.{CutAt}
use Rattle.client_write.specs.declared.phase.CutAt.TheVariants as cut
use Rattle.client_write.specs.declared.phase.WriteAt.{WriteAt}
use Rattle.client_write.specs.declared.phase.WriteAt.TheVariants as write
use Rattle.client_write.specs.CutFitting.{IsSoundCutAt}
use Rattle.client_write.specs.Writes.{bytes_of}
use Rattle.resync_copy.specs.Copies.{object_at, piece_to}
use Rattle.resync_copy.specs.Views.{resets_of}
use Rattle.flr_locks.specs.Phases.{AreCutLocks, AreLocksOf, AreWriteLocks}
use Rattle.flr_numbers.specs.Sentences.{IsCallOf}
use Rattle.flr_steps.specs.declared.client.Client.{Client}
use Rattle.flr_steps.specs.declared.client.Running.{Running}
use Rattle.flr_steps.specs.declared.client.Running.TheVariants as running
use Rattle.flr_steps.specs.States.{State, client_at}
use Rattle.flr_steps.specs.Traces.{Trace, doing_of}
use Rattle.flr_claims.specs.Honesty.{IsAttempting, content}
use Rattle.flr_claims.specs.Sending.{Attempt, HasLanded, Part, is_over, part_object}
use Rattle.flr_sole.specs.Sentences.{StandsAlone}
use Rattle.flr_shut.specs.Sentences.{Place}
use Rattle.flr_bytes.specs.Runs.{Ground}
use Rattle.flr_bytes.specs.Sentences.{offset_in}
use Rattle.flr_bytes.specs.Writing.{PunchesTail, PutsChunk, ResetsObject, SendsPiece, Writes}
use Rattle.flr_bytes.proofs.Landing.{decide}
use Rattle.flr_bytes.proofs.Alone.{placed, valid_file}
use Rattle.flr_honest.proofs.Landed.Locking.{IsHeldOver, cut_over, landed_over, never_both, write_over}
use Rattle.flr_bytes.proofs.Parts.{Lies, part_lies}
use Rattle.flr_bytes.proofs.ShutOut.{no_put, no_reset}

-- a byte lies no further behind in its object than in the file
offset_below : (stripe : Stripe) (x : ℕ) → (place_of x stripe).offset ≤ x
offset_below stripe x =
    let row : x / (stripe.size * stripe.count) ≤ x / stripe.size = rw (← div-div-eq-div-mul x stripe.size stripe.count) (div-le_self (x / stripe.size) stripe.count) in
    omega (arith, mul-le-mul_right stripe.size row, div-add-mod' x stripe.size)

-- a place of an object is one of any that is the same
moved_place : (m : MetaView) (o q : ObjectId) → o ≡ q → (at : Place m o) → at.component.flags.stale ≡ false → (there : Place m q) × (there.component.flags.stale ≡ false)
moved_place m o q same at fresh = (record { number = at.number; file = at.file; there = at.there; component = at.component; listed = at.listed; has = subst (Contains at.component.objects) same at.has }, fresh)

-- ---- a part that has landed

module _ (s : State) (old : Trace) (g : Ground s old) (k : ℕ) (a : Attempt) (place : ℕ) (p : Part) (own : IsAttempting s k a) (l : HasLanded s.script.fails a (doing_of old k) place p) where
  -- it lies in the only fresh components
  pub stands : StandsAlone s.shared.meta.files a.opened.file p
  stands = g.sole.parts k a place p own (inr l)

  -- where its object stands, in a fresh component
  its_place : (at : Place s.shared.meta (part_object p)) × (at.component.flags.stale ≡ false)
  its_place = (record { number = a.opened.file; file = stands.file; there = stands.there; component = stands.alone.component; listed = stands.alone.listed; has = stands.alone.object }, stands.alone.fresh)

  -- its object is this stripe of the component
  pub its_index : (j : ℕ) × (slice_get stands.alone.component.objects j ≡ Some (part_object p))
  its_index = placed stands.alone.component.objects (part_object p) (from_contains stands.alone.component.objects (part_object p) stands.alone.object)

  -- which is one of the file
  pub among_file : In stands.alone.component stands.file.layout.components
  among_file = from_contains stands.file.layout.components stands.alone.component stands.alone.listed

  module _ (x : ℕ) (over : is_over x p ≡ true) where
    -- where the byte lies
    pub its_byte : Lies stands.alone.component p x
    its_byte = part_lies s g.holds g.shaped k a place p own l.there a.opened.file stands.file stands.alone.component its_index.0 stands.there among_file its_index.1 x over

    below : offset_in p x < eof
    below =
        let e = its_byte.offset in
        let low = offset_below stands.alone.component.stripe x in
        let high = its_byte.covered.1 in
        let end : stands.alone.component.extent.end ≤ eof = elim ((are_good stands.file.layout (valid_file s.shared.meta g.holds.servers.sound a.opened.file stands.file stands.there)).each stands.alone.component among_file).ends as (λ _. stands.alone.component.extent.end ≤ eof) [
          | inl last ↦ omega (arith, last)
          | inr before ↦ (let less = before.1 in omega (arith, less))
        ] in
        omega (arith, e, low, high, end)

    call_locks : AreLocksOf own.client.call (locks_of k s.shared.locks)
    call_locks = subst (λ (o : Option Client). AreLocksOf (option_map_or (λ (y : Client). y.call) o running.Idle) (locks_of k s.shared.locks)) own.here (g.locked.own k)

    -- each of its bytes is under a PW of its call
    pub under : IsHeldOver k s.shared.locks (part_object p) (offset_in p x)
    under = landed_over s.script.fails s.shared.locks k (doing_of old k) a place p l x over below own.client.call (g.holds.clients k own.client own.here).call call_locks own.attempt (g.sole.sent k own.client own.here)

    -- ---- a step of another client

    module _ (t : State) (c : ℕ) (other : k ≡ c → ⊥) (client : Client) (here : client_at s.clients c ≡ Some client) where
      -- what the byte is afterwards
      abbrev stays : Type 0
      stays = get_or (content t.shared (part_object p)) (offset_in p x) 0 ≡ get_or (content s.shared (part_object p)) (offset_in p x) 0

      -- any other object holds what it held
      elsewhere : (o : ObjectId) → ((q : ObjectId) → (q ≡ o → ⊥) → content t.shared q ≡ content s.shared q) → (part_object p ≡ o → ⊥) → stays
      elsewhere o others apart = ap (λ (bs : List ℕ). get_or bs (offset_in p x) 0) (others (part_object p) apart)

      their_locks : AreLocksOf client.call (locks_of c s.shared.locks)
      their_locks = subst (λ (o : Option Client). AreLocksOf (option_map_or (λ (y : Client). y.call) o running.Idle) (locks_of c s.shared.locks)) here (g.locked.own c)

      their_call : IsCallOf c client.call
      their_call = (g.holds.clients c client here).call

      -- nobody else has a PW on the byte
      never : (o : ObjectId) → part_object p ≡ o → IsHeldOver c s.shared.locks o (offset_in p x) → ⊥
      never o same theirs = never_both s.shared.locks g.locked.apart c k o (offset_in p x) other theirs (subst (λ (q : ObjectId). IsHeldOver k s.shared.locks q (offset_in p x)) same under)

      -- a piece that is sent
      by_piece : (sends : SendsPiece s.shared t.shared client.call) → stays
      by_piece sends = at (decide (part_object p) (object_of sends.piece))
        where
          o : ObjectId
          o = object_of sends.piece

          locks : AreWriteLocks sends.asked (write.Send sends.writing sends.next) (locks_of c s.shared.locks)
          locks = subst (λ (b : WriteAt). AreWriteLocks sends.asked b (locks_of c s.shared.locks)) sends.at (subst (λ (r : Running). AreLocksOf r (locks_of c s.shared.locks)) sends.writes their_locks)

          mine : IsCallOf c (running.Write sends.asked)
          mine = subst (IsCallOf c) sends.writes their_call

          out : part_object p ≡ o → sends.piece.offset ≤ offset_in p x → offset_in p x < sends.piece.offset + length (bytes_of sends.asked sends.piece) → ⊥
          out same low high =
              let long = sends.long in
              never o same (write_over s.shared.locks c sends.asked sends.writing.pieces mine.0 locks sends.next sends.piece sends.there (offset_in p x) low (omega (arith, high, long)))

          at : (part_object p ≡ o) ⊎ (part_object p ≡ o → ⊥) → stays
          at (inr apart) = elsewhere o sends.new.others apart
          at (inl same) =
              ap (λ (q : ObjectId). get_or (content t.shared q) (offset_in p x) 0) same ∙ sends.new.beside (offset_in p x) (out same)
              ∙ ap (λ (q : ObjectId). get_or (content s.shared q) (offset_in p x) 0) (sym same)

      -- a tail that is punched
      by_tail : (punches : PunchesTail s.shared t.shared client.call) → stays
      by_tail punches = at (decide (part_object p) punches.stripe.object)
        where
          o : ObjectId
          o = punches.stripe.object

          locks : AreCutLocks punches.asked (cut.Punch punches.cutting punches.next) (locks_of c s.shared.locks)
          locks = subst (λ (b : CutAt). AreCutLocks punches.asked b (locks_of c s.shared.locks)) punches.at (subst (λ (r : Running). AreLocksOf r (locks_of c s.shared.locks)) punches.truncates their_locks)

          mine : IsCallOf c (running.Truncate punches.asked)
          mine = subst (IsCallOf c) punches.truncates their_call

          sound : IsSoundCutAt (cut.Punch punches.cutting punches.next) punches.asked.size
          sound = subst (λ (b : CutAt). IsSoundCutAt b punches.asked.size) punches.at mine.1

          out : part_object p ≡ o → (tail_in punches.asked.size punches.stripe).offset ≤ offset_in p x → ⊥
          out same low = never o same (cut_over s.shared.locks c punches.asked punches.cutting.tails (tail_stripes punches.cutting.opened.layout punches.asked.size) mine.0 locks sound.0.are punches.next punches.stripe punches.there (offset_in p x) low below)

          at : (part_object p ≡ o) ⊎ (part_object p ≡ o → ⊥) → stays
          at (inr apart) = elsewhere o punches.new.others apart
          at (inl same) = elim (cases_lt (offset_in p x) (tail_in punches.asked.size punches.stripe).offset) as (λ _. stays) [
            | inl less ↦ ap (λ (q : ObjectId). get_or (content t.shared q) (offset_in p x) 0) same ∙ punches.new.below (offset_in p x) less ∙ ap (λ (q : ObjectId). get_or (content s.shared q) (offset_in p x) 0) (sym same)
            | inr past ↦ absurd (out same past)
          ]

      -- an object that a copy empties
      by_reset : (resets : ResetsObject s.shared t.shared client.call) → stays
      by_reset resets = at (decide (part_object p) (object_at (resets_of resets.copying) resets.next).object)
        where
          o : ObjectId
          o = (object_at (resets_of resets.copying) resets.next).object

          at : (part_object p ≡ o) ⊎ (part_object p ≡ o → ⊥) → stays
          at (inr apart) = elsewhere o resets.new.others apart
          at (inl same) =
              let moved = moved_place s.shared.meta (part_object p) o same its_place.0 its_place.1 in
              absurd (no_reset s old g.sole g.shut c client here resets.asked resets.copies resets.copying resets.next resets.at resets.within moved.0 moved.1 resets.admitted)

      -- a chunk that a copy puts
      by_put : (puts : PutsChunk s.shared t.shared client.call) → stays
      by_put puts = at (decide (part_object p) (object_of (piece_to puts.chunk)))
        where
          o : ObjectId
          o = object_of (piece_to puts.chunk)

          at : (part_object p ≡ o) ⊎ (part_object p ≡ o → ⊥) → stays
          at (inr apart) = elsewhere o puts.new.others apart
          at (inl same) =
              let moved = moved_place s.shared.meta (part_object p) o same its_place.0 its_place.1 in
              absurd (no_put s old g.sole g.shut c client here puts.asked puts.copies g.holds.servers.sound puts.chunk puts.bytes puts.at moved.0 moved.1 puts.admitted)

      -- whatever the step does
      pub other_keeps : Writes s.shared t.shared client.call → stays
      other_keeps (inl still) = ap (λ (bs : List ℕ). get_or bs (offset_in p x) 0) (still (part_object p))
      other_keeps (inr (inl sends)) = by_piece sends
      other_keeps (inr (inr (inl punches))) = by_tail punches
      other_keeps (inr (inr (inr (inl resets)))) = by_reset resets
      other_keeps (inr (inr (inr (inr puts)))) = by_put puts
