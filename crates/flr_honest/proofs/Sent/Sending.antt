-- What a step of a write has sent of its pieces.
use Rattle.std.proofs.Common.{◌≡◌, ℕ, zero, suc, ◌+◌, ◌-◌, ◌<◌, Bool, true, false, cond, nat_eq, nat_lt, Option, Some, None, List, [], ◌∷◌, length, map, drop, refl, sym, ap, subst, ◌∙◌, arith}
use Rattle.std.specs.Prelude.{slice_get, slice_index_or, unwrap_or}
use Rattle.std.proofs.lemmas.List.{length-drop, length-take-le}
use Rattle.flr_base.specs.declared.reply.FailedCall.{FailedCall}
use Rattle.flr_base.specs.declared.reply.ObjectId.{ObjectId}
use Rattle.flr_base.specs.declared.reply.Range.{Range}
use Rattle.mirror_select.specs.declared.types.Piece.{Piece}
use Rattle.object_target.specs.declared.call.CallAnswer.{CallAnswer}
use Rattle.object_target.specs.declared.call.CallAnswer.TheVariants as answer
use Rattle.object_target.specs.declared.call.CallEntry.{CallEntry}
use Rattle.object_target.specs.declared.call.CallKind.TheVariants as kind
use Rattle.object_target.specs.declared.fail.Fail.{Fail}
use Rattle.object_target.specs.Calls.{after_write, write_answer}
use Rattle.object_target.specs.TargetState.{bytes_at, version_at}
use Rattle.extent_lock.specs.Extents.{blocker}
use Rattle.meta_server.specs.declared.answers.Opened.{Opened}
use Rattle.meta_server.specs.Closing.{is_there, last_eviction}
use Rattle.meta_server.specs.Files.{MetaView}
use Rattle.meta_server.specs.Opening.{write_opens}
use Rattle.meta_server.specs.Outcomes.{Gives, Refuses, Waits}
use Rattle.meta_server.specs.Outcomes as meta
use Rattle.call_steps.specs.Pieces.{IsWithin, length_of, object_of, piece_at}
use Rattle.call_steps.specs.Servers.{AreThere, Servers, next_call_on}
use Rattle.call_steps.specs.Steps.{Outcome}
use Rattle.client_write.specs.declared.phase.Sent.{Sent}
use Rattle.client_write.specs.declared.phase.Sent.TheVariants as sent
use Rattle.client_write.specs.declared.phase.WriteAt.{WriteAt}
use Rattle.client_write.specs.declared.phase.WriteAt.TheVariants as write
use Rattle.client_write.specs.Calls.{WriteView}
use Rattle.client_write.specs.Fitting.{IsAsked, IsSoundAt}
use Rattle.client_write.specs.Parts.{came_of}
use Rattle.client_write.specs.Views.{WritingView}
use Rattle.client_write.specs.Writes.{after_send, bytes_of, commits_to, commits_write, locks_piece, lock_for, opens, piece_sent, range_of, target_of, write_at}
use Rattle.client_write.proofs.Writable.{lies, object_there}
use Rattle.flr_numbers.specs.Calls.{write_hand}
use Rattle.flr_steps.specs.Traces.{Doing, Made, has_landed, is_accepted, made_by, sent_calls}
use Rattle.flr_steps.specs.Traces as traces
use Rattle.flr_claims.specs.Sending.{OfWrite}
use Rattle.flr_work.specs.Paying.{AreListed}
use Rattle.flr_sole.proofs.Making.{made_one}
use Rattle.flr_sole.proofs.Sending.{with_made}
use Rattle.flr_bytes.specs.Sent.{IsSentFor, WriteSent}
use Rattle.flr_honest.proofs.Sent.Parts.{OnSent, SentAs, SentSoFar, all_sent, behind, nothing_sent, ok_lands, one_fails, one_lands, one_old}

got_there : {X Y : Type 0} (f : X → Y) (xs : List X) (i : ℕ) (d : X) → i < length xs → slice_get (map f xs) i ≡ Some (f (slice_index_or xs i d))
got_there f [] i d h = absurd (omega (arith, h))
got_there f (x ∷ xs) zero d h = refl
got_there f (x ∷ xs) (suc i) d h = got_there f xs i d (omega (arith, h))

-- a piece has all its bytes
whole_piece : (w : WriteView) (p : Piece) → IsWithin (range_of w) p → length (bytes_of w p) ≡ length_of p
whole_piece w p within =
    let left = length-drop (p.range.start - w.offset) w.bytes in
    let low = within.low in
    let high = within.high in
    length-take-le (length_of p) (drop (p.range.start - w.offset) w.bytes) (omega (arith, left, low, high))

module _ (fails : List Fail) (place : ℕ) (s : Servers) (listed : AreListed fails s.targets) (d : Doing) (w : WriteView) where
  -- what a step of the write leaves, with what the call has done by then
  abbrev pub OnWrite : (Servers → Doing) → Outcome WriteView → Type 0
  OnWrite then o = OnSent (λ (x : WriteView) (made : List Made). WriteSent fails x.at made) then o

  -- a write that opens its file has sent nothing since
  opened : (then : Servers → Doing) → ((m : MetaView) → sent_calls (then (record s { meta = m })) ≡ []) → (o : meta.Outcome Opened) → OnWrite then (opens w s o)
  opened then none (Gives o after) = none after
  opened then none (Refuses reply) = tt
  opened then none (Waits holder) = tt

  locks : (x : WritingView) (next : ℕ) → sent_calls d ≡ [] → (o : Option (ℕ × Range)) → OnWrite (behind place s d) (locks_piece w s x next o)
  locks x next none (Some told) = tt
  locks x next none None = has_sent (nat_lt (next + 1) (length x.pieces))
    where
      has_sent : (b : Bool) → WriteSent fails (cond b (write.Lock x (next + 1)) (write.Send x 0)) (sent_calls (behind place s d s))
      has_sent true = nothing_sent place s d ∙ none
      has_sent false = subst (SentSoFar fails (map OfWrite x.pieces) 0) (sym (nothing_sent place s d ∙ none)) (refl, tt, tt)

  -- ---- a send

  module _ (x : WritingView) (next : ℕ) (past : d.opened < place) (so_far : SentSoFar fails (map OfWrite x.pieces) next (sent_calls d)) (within : next < length x.pieces) (lying : IsWithin (range_of w) (piece_at x.pieces next))
      (there : (object_of (piece_at x.pieces next)).target < length s.targets) where
    abbrev p : Piece
    p = piece_at x.pieces next

    abbrev o : ObjectId
    o = object_of p

    abbrev g : ℕ
    g = x.opened.layout.generation

    abbrev entry : CallEntry
    entry = record { kind = kind.Write; object = o.number; offset = p.offset; length = length (bytes_of w p); version = g; answer = write_answer (target_of s p) o.number g }

    abbrev m : Made
    m = record { place = place; target = o.target; call = length (target_of s p).calls + 1; entry = entry; kept = version_at (target_of s p) o.number; bytes = bytes_at (target_of s p) o.number }

    abbrev left : Servers
    left = piece_sent w s x p

    made : made_by place s.targets left.targets ≡ m ∷ []
    made = made_one place s.targets o.target (after_write (target_of s p) o.number p.offset (bytes_of w p) g) entry there refl

    is_for : IsSentFor (OfWrite p) m
    is_for = (record { kind = refl; target = refl; object = refl }, whole_piece w p lying)

    found : slice_get (map OfWrite x.pieces) next ≡ Some (OfWrite p)
    found = got_there OfWrite x.pieces next _ within

    -- what holds of the calls with this one holds of those behind the step
    then_so : (P : List Made → Type 0) → P (sent_calls (with_made d (m ∷ []))) → P (sent_calls (behind place s d left))
    then_so P h = subst (λ (ms : List Made). P (sent_calls (with_made d ms))) (sym made) h

    abbrev OnSend : WriteAt → Type 0
    OnSend at = WriteSent fails at (sent_calls (behind place s d left))

    goes_on : write_answer (target_of s p) o.number g ≡ answer.Ok → SentSoFar fails (map OfWrite x.pieces) (next + 1) (sent_calls (behind place s d left))
    goes_on e = then_so (SentSoFar fails (map OfWrite x.pieces) (next + 1)) (one_lands fails d m past refl (map OfWrite x.pieces) (OfWrite p) next so_far found is_for (ap is_accepted e) (ok_lands fails s.targets listed o.target o.number g there e))

    sends_next : write_answer (target_of s p) o.number g ≡ answer.Ok → (b : Bool) → nat_lt (next + 1) (length x.pieces) ≡ b → OnSend (cond b (write.Send x (next + 1)) (commits_to w x sent.All))
    sends_next e true more = goes_on e
    sends_next e false last = all_sent fails (map OfWrite x.pieces) next (length x.pieces) (sent_calls (behind place s d left)) within last (goes_on e)

    old_next : is_accepted (write_answer (target_of s p) o.number g) ≡ false → (evicted : Option ℕ) (b : Bool) → OnSend (cond b write.UnlockAgain (commits_to w x (sent.Old next (unwrap_or evicted 0))))
    old_next refused evicted true = tt
    old_next refused evicted false =
        then_so (SentAs fails (map OfWrite x.pieces) (length x.pieces) (sent.Old next (unwrap_or evicted 0))) (one_old fails d m past refl (map OfWrite x.pieces) (OfWrite p) next so_far found is_for (length x.pieces) (unwrap_or evicted 0) refused)

    sent_next : (evicted : Option ℕ) (call : FailedCall) (a : CallAnswer) → write_answer (target_of s p) o.number g ≡ a → OnSend (after_send w evicted x next (came_of call a))
    sent_next evicted call answer.Ok e = sends_next e (nat_lt (next + 1) (length x.pieces)) refl
    sent_next evicted call (answer.Old kept) e = old_next (ap is_accepted e) evicted (nat_eq next 0)
    sent_next evicted call answer.Failed e =
        then_so (SentAs fails (map OfWrite x.pieces) (length x.pieces) (sent.Failed next call)) (one_fails fails d m past refl (map OfWrite x.pieces) (OfWrite p) next so_far found is_for (length x.pieces) call (ap is_accepted e))

  commits : (x : WritingView) (end : ℕ) (came : Sent) (b : Bool) → OnWrite (behind place s d) (commits_write w s x end came b)
  commits x end came true = tt
  commits x end came false = tt

  -- ---- each step

  -- the step that opens the file
  pub write_opened : (then : Servers → Doing) → ((m : MetaView) → sent_calls (then (record s { meta = m })) ≡ []) → (at : WriteAt) → traces.write_opens at ≡ true → OnWrite then (write_at at w place s)
  write_opened then none write.Open e = opened then none (write_opens w.client w.name (range_of w) place s.meta)
  write_opened then none (write.Lock x next) e = absurd (cc)
  write_opened then none (write.Send x next) e = absurd (cc)
  write_opened then none (write.Commit x end came) e = absurd (cc)
  write_opened then none write.UnlockAgain e = absurd (cc)
  write_opened then none write.Unlock e = absurd (cc)

  -- any other
  pub write_sent : (at : WriteAt) → d.opened < place → traces.write_opens at ≡ false → IsAsked (range_of w) → IsSoundAt at (range_of w) → ((x : Opened) → (write_hand at).opened ≡ Some x → AreThere s.targets x.layout.components) → WriteSent fails at (sent_calls d)
      → OnWrite (behind place s d) (write_at at w place s)
  write_sent write.Open past busy asked sound there sent = absurd (cc)
  write_sent (write.Lock x next) past busy asked sound there sent = locks x next sent (blocker s.locks (lock_for w (piece_at x.pieces next)))
  write_sent (write.Send x next) past busy asked sound there sent =
      sent_next x next past sent sound.1 (lies (range_of w) x next asked sound.0 sound.1) (object_there (range_of w) x next s.targets asked sound.0 sound.1 (there x.opened refl)) (last_eviction w.client s.meta)
      (next_call_on s.targets (object_of (piece_at x.pieces next)).target) (write_answer (target_of s (piece_at x.pieces next)) (object_of (piece_at x.pieces next)).number x.opened.layout.generation) refl
  write_sent (write.Commit x end came) past busy asked sound there sent = commits x end came (is_there x.opened.file s.meta)
  write_sent write.UnlockAgain past busy asked sound there sent = tt
  write_sent write.Unlock past busy asked sound there sent = tt
