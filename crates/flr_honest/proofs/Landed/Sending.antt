-- What each step of a writing call sends, and what of it lands.
use Rattle.std.proofs.Common.{◌≡◌, ℕ, ◌+◌, ◌<◌, Bool, true, false, cond, nat_eq, nat_lt, Option, Some, None, List, [], ◌∷◌, ◌++◌, length, map, ◌⊎◌, inl, inr, refl, sym, ap, subst, ◌∙◌}
use Rattle.std.specs.Prelude.{slice_get, unwrap_or}
use Rattle.std.specs.Option.{option_map}
use Rattle.flr_base.specs.declared.reply.FailedCall.{FailedCall}
use Rattle.flr_base.specs.declared.reply.ObjectId.{ObjectId}
use Rattle.flr_base.specs.declared.reply.Range.{Range}
use Rattle.extent_lock.specs.Extents.{blocker}
use Rattle.mirror_select.specs.declared.types.Piece.{Piece}
use Rattle.mirror_select.specs.declared.types.Tail.{Tail}
use Rattle.mirror_select.specs.Tails.{StripeObject, tail_in, tail_stripes}
use Rattle.object_target.specs.declared.call.CallAnswer.{CallAnswer}
use Rattle.object_target.specs.declared.call.CallAnswer.TheVariants as answer
use Rattle.object_target.specs.declared.call.CallEntry.{CallEntry}
use Rattle.object_target.specs.declared.call.CallKind.TheVariants as kind
use Rattle.object_target.specs.declared.fail.Fail.{Fail}
use Rattle.object_target.specs.Calls.{after_punch, after_write, has_effect, is_old, next_fail, punch_answer, write_answer}
use Rattle.object_target.specs.Fails.{fails_on, kind_of}
use Rattle.object_target.specs.TargetState.{TargetState, bytes_at, next_call, version_at}
use Rattle.meta_server.specs.declared.answers.Opened.{Opened}
use Rattle.meta_server.specs.Closing.{is_there, last_eviction}
use Rattle.meta_server.specs.Files.{MetaView}
use Rattle.meta_server.specs.Opening.{cut_opens, write_opens}
use Rattle.meta_server.specs.Outcomes.{Gives, Refuses, Waits}
use Rattle.meta_server.specs.Outcomes as meta
use Rattle.call_steps.specs.Pieces.{object_of, piece_at}
use Rattle.call_steps.specs.Servers.{AreThere, Servers, next_call_on, target_at, with_lock}
use Rattle.call_steps.specs.Steps.{Outcome, Going, Fixed, Ended, Answered, Blocked, widen}
use Rattle.client_write.specs.declared.phase.CutAt.{CutAt}
use Rattle.client_write.specs.declared.phase.CutAt.TheVariants as cut
use Rattle.client_write.specs.declared.phase.Sent.{Sent}
use Rattle.client_write.specs.declared.phase.Sent.TheVariants as sent
use Rattle.client_write.specs.declared.phase.WriteAt.{WriteAt}
use Rattle.client_write.specs.declared.phase.WriteAt.TheVariants as write
use Rattle.client_write.specs.Calls.{TruncateView, WriteView}
use Rattle.client_write.specs.CutFitting.{IsSoundCutAt}
use Rattle.client_write.specs.Fitting.{HasPieces, IsAsked, IsSoundAt}
use Rattle.client_write.specs.Parts.{came_of}
use Rattle.client_write.specs.Truncates as cuts
use Rattle.client_write.specs.Views.{CuttingView, WritingView}
use Rattle.client_write.specs.Writes as writes
use Rattle.client_write.proofs.Cuttable.{tail_there}
use Rattle.client_write.proofs.Writable.{object_there}
use Rattle.flr_steps.specs.declared.client.Running.{Running}
use Rattle.flr_steps.specs.declared.client.Running.TheVariants as running
use Rattle.flr_steps.specs.Traces.{Doing, Made, has_landed, made_by, sent_calls}
use Rattle.flr_claims.specs.Sending.{Attempt, OfTruncate, OfWrite, Part, attempt_of, part_object}
use Rattle.flr_work.specs.Paying.{AreListed}
use Rattle.flr_sole.proofs.Making.{made_none, made_one, sent_more}
use Rattle.flr_sole.proofs.Sending.{with_made}
use Rattle.flr_bytes.specs.Writing.{Admits}
use Rattle.flr_honest.specs.Landed.{MayPass}
use Rattle.flr_honest.proofs.Landed.Lists.{got, map_got, nothing_behind, some_same}
use Rattle.flr_honest.proofs.Landed.Writing.{piece_lands, piece_stays, tail_lands, tail_stays, tail_stripe}
use Rattle.flr_honest.proofs.Landed.Parting.{IsQuiet, cut_generation, cut_next, next_part, none_next, this_admitted, this_next, write_generation, write_next}
use Rattle.flr_honest.proofs.Landed.Landing.{Begins, Rests, Turn, effect_accepted, old_none, one_turn, same_turn}

-- what holds after a step, by what it came to
abbrev pub OnTurn : {C : Type 0} → List Fail → Servers → Running → Doing → (C → Option Attempt) → (Servers → Doing) → Outcome C → Type 0
OnTurn fails s call d attempt then (Going next after) = Turn fails s after call d (attempt next) (then after)
OnTurn fails s call d attempt then (Fixed next reply takes after) = Turn fails s after call d (attempt next) (then after)
OnTurn fails s call d attempt then (Ended after) = Turn fails s after call d None (then after)
OnTurn fails s call d attempt then (Answered reply takes after) = Turn fails s after call d None (then after)
OnTurn fails s call d attempt then (Blocked holder) = Unit {0}

-- so it is with all calls
pub widened : {C : Type 0} (f : C → Running) (fails : List Fail) (s : Servers) (call : Running) (d : Doing) (then : Servers → Doing) (o : Outcome C) → OnTurn fails s call d (λ (x : C). attempt_of (f x)) then o → OnTurn fails s call d attempt_of then (widen f o)
widened f fails s call d then (Going next after) h = h
widened f fails s call d then (Fixed next reply takes after) h = h
widened f fails s call d then (Ended after) h = h
widened f fails s call d then (Answered reply takes after) h = h
widened f fails s call d then (Blocked holder) h = tt

-- a call that has no attempt and sends no part
pub plain : {C : Type 0} (f : C → Running) → ((x : C) → attempt_of (f x) ≡ None) → (fails : List Fail) (s : Servers) (call : Running) (d : Doing) (then : Servers → Doing) (o : Outcome C) → ((after : Servers) → IsQuiet s after call) → OnTurn fails s call d attempt_of then (widen f o)
plain f none fails s call d then (Going next after) quiet = Rests (none next) (quiet after)
plain f none fails s call d then (Fixed next reply takes after) quiet = Rests (none next) (quiet after)
plain f none fails s call d then (Ended after) quiet = Rests refl (quiet after)
plain f none fails s call d then (Answered reply takes after) quiet = Rests refl (quiet after)
plain f none fails s call d then (Blocked holder) quiet = tt

module _ (fails : List Fail) (place : ℕ) (s : Servers) (listed : AreListed fails s.targets) (d : Doing) where
  -- what a call has done with a step that opens no file
  abbrev pub behind : Servers → Doing
  behind after = with_made d (made_by place s.targets after.targets)

  -- a step that calls no target sends nothing
  nothing_sent : sent_calls (behind s) ≡ sent_calls d
  nothing_sent = ap (λ (ms : List Made). sent_calls (with_made d ms)) (made_none place s.targets) ∙ sent_more d.opened d.made [] ∙ nothing_behind (sent_calls d)

  -- a call lands exactly where it has effect
  landed_is : (id object version : ℕ) (m : Made) → id < length s.targets → m.target ≡ id → m.call ≡ next_call (target_at s.targets id) → m.entry.version ≡ version → m.kept ≡ version_at (target_at s.targets id) object → has_landed fails m ≡ has_effect (next_fail (target_at s.targets id)) (is_old (target_at s.targets id) object version)
  landed_is id object version m within target number level kept =
      (λ j. has_effect (kind_of (fails_on (target j) fails) (number j)) (nat_lt (level j) (kept j)))
      ∙ ap (λ (fs : List Fail). has_effect (kind_of fs (next_call (target_at s.targets id))) (is_old (target_at s.targets id) object version)) (sym (listed id within))

  -- ---- writes

  module _ (w : WriteView) (asked : IsAsked (writes.range_of w)) where
    abbrev pub call : Running
    call = running.Write w

    abbrev pub OnWrite : (Servers → Doing) → Outcome WriteView → Type 0
    OnWrite then o = OnTurn fails s call d (λ (x : WriteView). attempt_of (running.Write x)) then o

    opened : next_part call ≡ None → (then : Servers → Doing) → ((m : MetaView) → sent_calls (then (record s { meta = m })) ≡ []) → (o : meta.Outcome Opened) → OnWrite then (writes.opens w s o)
    opened quiet then none (Gives o after) = Begins (none after) (none_next s _ call quiet)
    opened quiet then none (Refuses reply) = Rests refl (none_next s s call quiet)
    opened quiet then none (Waits holder) = tt

    module _ (x : WritingView) where
      abbrev pub attempt_in : Attempt
      attempt_in = record { opened = x.opened; parts = map OfWrite x.pieces }

      locks : next_part call ≡ None → (next : ℕ) → attempt_of call ≡ Some attempt_in → (o : Option (ℕ × Range)) → OnWrite behind (writes.locks_piece w s x next o)
      locks quiet next has (Some told) = tt
      locks quiet next has None = same_turn fails s (with_lock s (writes.lock_for w (piece_at x.pieces next))) call d (behind s) _ nothing_sent (none_next s _ call quiet) (inl (same (nat_lt (next + 1) (length x.pieces)) ∙ sym has))
        where
          same : (b : Bool) → attempt_of (running.Write (writes.write_on w (cond b (write.Lock x (next + 1)) (write.Send x 0)))) ≡ Some attempt_in
          same true = refl
          same false = refl

      -- ---- a send

      module _ (next : ℕ) (at : w.at ≡ write.Send x next) (past : d.opened < place) (count : length (sent_calls d) ≡ next) (has : HasPieces (writes.range_of w) x) (within : next < length x.pieces) (there : AreThere s.targets x.opened.layout.components) where
        abbrev p : Piece
        p = piece_at x.pieces next

        abbrev o : ObjectId
        o = object_of p

        abbrev g : ℕ
        g = x.opened.layout.generation

        abbrev target : TargetState
        target = target_at s.targets o.target

        abbrev entry : CallEntry
        entry = record { kind = kind.Write; object = o.number; offset = p.offset; length = length (writes.bytes_of w p); version = g; answer = write_answer target o.number g }

        abbrev m : Made
        m = record { place = place; target = o.target; call = length target.calls + 1; entry = entry; kept = version_at target o.number; bytes = bytes_at target o.number }

        abbrev left : Servers
        left = writes.piece_sent w s x p

        on : o.target < length s.targets
        on = object_there (writes.range_of w) x next s.targets asked has within there

        made : made_by place s.targets left.targets ≡ m ∷ []
        made = made_one place s.targets o.target (after_write target o.number p.offset (writes.bytes_of w p) g) entry on refl

        abbrev effect : Bool
        effect = has_effect (next_fail target) (is_old target o.number g)

        owns : attempt_of call ≡ Some attempt_in
        owns = ap (λ (a : WriteAt). attempt_of (running.Write (record w { at = a }))) at

        -- where it doesn't land, it is refused
        refused : effect ≡ false → IsQuiet s left call
        refused e q this = (
          piece_stays s w asked x next at has within there e,
          λ may. (
              let same : OfWrite p ≡ q = some_same (OfWrite p) q (sym (ap write_next at ∙ ap (option_map OfWrite) (got x.pieces next _ within)) ∙ this_next s left call q this) in
              let admitted : Admits s o g = subst (λ (z : Part). Admits s (part_object z) g) (sym same) (subst (Admits s (part_object q)) (ap write_generation at) (this_admitted s left call q this)) in
              let passes : has_effect (next_fail target) false ≡ true = subst (λ (z : Part). MayPass s (part_object z)) (sym same) may in
              let no : true ≡ false = sym passes ∙ ap (has_effect (next_fail target)) (sym admitted) ∙ e in
              absurd (cc)
              ),
        )

        turn : (is : Option Attempt) → (is ≡ attempt_of call) ⊎ ((is ≡ None) × (effect ≡ false)) → Turn fails s left call d is (behind left)
        turn is goes =
            subst (λ (ms : List Made). Turn fails s left call d is (with_made d ms)) (sym made)
            (one_turn fails s left call d m past refl attempt_in owns (OfWrite p) (ap (slice_get (map OfWrite x.pieces)) count ∙ map_got OfWrite x.pieces next p (got x.pieces next _ within)) effect
            (landed_is o.target o.number g m on refl refl refl refl) (λ e. piece_lands s w asked x next at has within there e) refused (effect_accepted (next_fail target) (is_old target o.number g) (version_at target o.number)) is goes)

        goes_on : (evicted : Option ℕ) (failed : FailedCall) (a : CallAnswer) → write_answer target o.number g ≡ a
            → (attempt_of (running.Write (writes.write_on w (writes.after_send w evicted x next (came_of failed a)))) ≡ attempt_of call) ⊎ ((attempt_of (running.Write (writes.write_on w (writes.after_send w evicted x next (came_of failed a)))) ≡ None) × (effect ≡ false))
        goes_on evicted failed answer.Ok e = inl (next_one (nat_lt (next + 1) (length x.pieces)) ∙ sym owns)
          where
            next_one : (b : Bool) → attempt_of (running.Write (writes.write_on w (cond b (write.Send x (next + 1)) (writes.commits_to w x sent.All)))) ≡ Some attempt_in
            next_one true = refl
            next_one false = refl
        goes_on evicted failed (answer.Old kept) e = by (nat_eq next 0)
          where
            by : (b : Bool) → (attempt_of (running.Write (writes.write_on w (cond b write.UnlockAgain (writes.commits_to w x (sent.Old next (unwrap_or evicted 0)))))) ≡ attempt_of call) ⊎ ((attempt_of (running.Write (writes.write_on w (cond b write.UnlockAgain (writes.commits_to w x (sent.Old next (unwrap_or evicted 0)))))) ≡ None) × (effect ≡ false))
            by true = inr (refl, old_none (next_fail target) (is_old target o.number g) kept (version_at target o.number) e)
            by false = inl (sym owns)
        goes_on evicted failed answer.Failed e = inl (sym owns)

        -- the step that sends the piece
        pub sent_turn : OnWrite behind (writes.send_step w s x next)
        sent_turn = turn _ (goes_on (last_eviction w.client s.meta) (next_call_on s.targets o.target) (write_answer target o.number g) refl)

    commits : next_part call ≡ None → (x : WritingView) (end : ℕ) (came : Sent) (b : Bool) → OnWrite behind (writes.commits_write w s x end came b)
    commits quiet x end came true = Rests refl (none_next s _ call quiet)
    commits quiet x end came false = Rests refl (none_next s _ call quiet)

    -- ---- each step

    -- the step that opens the file
    pub write_opened : next_part call ≡ None → (then : Servers → Doing) → ((m : MetaView) → sent_calls (then (record s { meta = m })) ≡ []) → OnWrite then (writes.write_at write.Open w place s)
    write_opened quiet then none = opened quiet then none (write_opens w.client w.name (writes.range_of w) place s.meta)

    -- any other
    pub write_turn : (a : WriteAt) → w.at ≡ a → (a ≡ write.Open → ⊥) → d.opened < place → IsSoundAt a (writes.range_of w) → ((x : WritingView) (next : ℕ) → a ≡ write.Send x next → (length (sent_calls d) ≡ next) × AreThere s.targets x.opened.layout.components) → OnWrite behind (writes.write_at a w place s)
    write_turn write.Open at busy past sound sending = absurd (busy refl)
    write_turn (write.Lock x next) at busy past sound sending = locks x (ap write_next at) next (ap (λ (k : WriteAt). attempt_of (running.Write (record w { at = k }))) at) (blocker s.locks (writes.lock_for w (piece_at x.pieces next)))
    write_turn (write.Send x next) at busy past sound sending = sent_turn x next at past (sending x next refl).0 sound.0 sound.1 (sending x next refl).1
    write_turn (write.Commit x end came) at busy past sound sending = commits (ap write_next at) x end came (is_there x.opened.file s.meta)
    write_turn write.UnlockAgain at busy past sound sending = Rests refl (none_next s _ call (ap write_next at))
    write_turn write.Unlock at busy past sound sending = Rests refl (none_next s _ call (ap write_next at))

  -- ---- truncates

  module _ (t : TruncateView) where
    abbrev pub cutter : Running
    cutter = running.Truncate t

    abbrev pub OnCut : (Servers → Doing) → Outcome TruncateView → Type 0
    OnCut then o = OnTurn fails s cutter d (λ (x : TruncateView). attempt_of (running.Truncate x)) then o

    opened_cut : next_part cutter ≡ None → (then : Servers → Doing) → ((m : MetaView) → sent_calls (then (record s { meta = m })) ≡ []) → (o : meta.Outcome Opened) → OnCut then (cuts.opens_cut t s o)
    opened_cut quiet then none (Gives o after) = Begins (none after) (none_next s _ cutter quiet)
    opened_cut quiet then none (Refuses reply) = Rests refl (none_next s s cutter quiet)
    opened_cut quiet then none (Waits holder) = tt

    module _ (x : CuttingView) where
      abbrev pub cut_in : Attempt
      cut_in = record { opened = x.opened; parts = map (OfTruncate t.size) (tail_stripes x.opened.layout t.size) }

      locks_tails : next_part cutter ≡ None → attempt_of cutter ≡ Some cut_in → (o : Option (ℕ × Range)) → OnCut behind (cuts.locks_tails t s x o)
      locks_tails quiet has (Some told) = tt
      locks_tails quiet has None = same_turn fails s (record s { locks = s.locks ++ cuts.locks_for t x }) cutter d (behind s) _ nothing_sent (none_next s _ cutter quiet) (inl (same (nat_lt 0 (length x.tails)) ∙ sym has))
        where
          same : (b : Bool) → attempt_of (running.Truncate (cuts.truncate_on t (cond b (cut.Punch x 0) (cut.Commit x sent.All)))) ≡ Some cut_in
          same true = refl
          same false = refl

      -- ---- a punch

      module _ (next : ℕ) (at : t.at ≡ cut.Punch x next) (past : d.opened < place) (count : length (sent_calls d) ≡ next) (sound : IsSoundCutAt (cut.Punch x next) t.size) (there : AreThere s.targets x.opened.layout.components) where
        abbrev tail : Tail
        tail = cuts.tail_at x.tails next

        abbrev cut_g : ℕ
        cut_g = x.opened.layout.generation

        abbrev cut_target : TargetState
        cut_target = target_at s.targets tail.object.target

        abbrev cut_entry : CallEntry
        cut_entry = record { kind = kind.Punch; object = tail.object.number; offset = tail.offset; length = 0; version = cut_g; answer = punch_answer cut_target tail.object.number cut_g }

        abbrev cut_made : Made
        cut_made = record { place = place; target = tail.object.target; call = length cut_target.calls + 1; entry = cut_entry; kept = version_at cut_target tail.object.number; bytes = bytes_at cut_target tail.object.number }

        abbrev punched : Servers
        punched = cuts.tail_punched s x tail

        on_cut : tail.object.target < length s.targets
        on_cut = tail_there t.size x next s.targets sound.0 sound.1 there

        is_made : made_by place s.targets punched.targets ≡ cut_made ∷ []
        is_made = made_one place s.targets tail.object.target (after_punch cut_target tail.object.number tail.offset cut_g) cut_entry on_cut refl

        abbrev cut_effect : Bool
        cut_effect = has_effect (next_fail cut_target) (is_old cut_target tail.object.number cut_g)

        abbrev from : (stripe : StripeObject) × (slice_get (tail_stripes x.opened.layout t.size) next ≡ Some stripe) × (tail ≡ tail_in t.size stripe)
        from = tail_stripe s t x next at sound there

        owns_cut : attempt_of cutter ≡ Some cut_in
        owns_cut = ap (λ (a : CutAt). attempt_of (running.Truncate (record t { at = a }))) at

        -- where it doesn't land, it is refused
        refused_cut : cut_effect ≡ false → IsQuiet s punched cutter
        refused_cut e q this = (
          tail_stays s t x next at sound there e,
          λ may. (
              let same : OfTruncate t.size from.0 ≡ q = some_same (OfTruncate t.size from.0) q (sym (ap (cut_next t.size) at ∙ ap (option_map (OfTruncate t.size)) from.1) ∙ this_next s punched cutter q this) in
              let own : Admits s from.0.object cut_g = subst (λ (z : Part). Admits s (part_object z) cut_g) (sym same) (subst (Admits s (part_object q)) (ap cut_generation at) (this_admitted s punched cutter q this)) in
              let object : from.0.object ≡ tail.object = ap (λ (k : Tail). k.object) (sym from.2) in
              let admitted : Admits s tail.object cut_g = subst (λ (k : ObjectId). Admits s k cut_g) object own in
              let passes : has_effect (next_fail cut_target) false ≡ true = subst (MayPass s) object (subst (λ (z : Part). MayPass s (part_object z)) (sym same) may) in
              let no : true ≡ false = sym passes ∙ ap (has_effect (next_fail cut_target)) (sym admitted) ∙ e in
              absurd (cc)
              ),
        )

        turn_cut : (is : Option Attempt) → (is ≡ attempt_of cutter) ⊎ ((is ≡ None) × (cut_effect ≡ false)) → Turn fails s punched cutter d is (behind punched)
        turn_cut is goes =
            subst (λ (ms : List Made). Turn fails s punched cutter d is (with_made d ms)) (sym is_made)
            (one_turn fails s punched cutter d cut_made past refl cut_in owns_cut (OfTruncate t.size from.0) (ap (slice_get (map (OfTruncate t.size) (tail_stripes x.opened.layout t.size))) count ∙ map_got (OfTruncate t.size) (tail_stripes x.opened.layout t.size) next from.0 from.1) cut_effect
            (landed_is tail.object.target tail.object.number cut_g cut_made on_cut refl refl refl refl) (λ e. tail_lands s t x next at sound there e) refused_cut (effect_accepted (next_fail cut_target) (is_old cut_target tail.object.number cut_g) (version_at cut_target tail.object.number)) is goes)

        cut_goes_on : (evicted : Option ℕ) (failed : FailedCall) (a : CallAnswer) → punch_answer cut_target tail.object.number cut_g ≡ a
            → (attempt_of (running.Truncate (cuts.truncate_on t (cuts.after_punches evicted x next (came_of failed a)))) ≡ attempt_of cutter) ⊎ ((attempt_of (running.Truncate (cuts.truncate_on t (cuts.after_punches evicted x next (came_of failed a)))) ≡ None) × (cut_effect ≡ false))
        cut_goes_on evicted failed answer.Ok e = inl (next_one (nat_lt (next + 1) (length x.tails)) ∙ sym owns_cut)
          where
            next_one : (b : Bool) → attempt_of (running.Truncate (cuts.truncate_on t (cond b (cut.Punch x (next + 1)) (cut.Commit x sent.All)))) ≡ Some cut_in
            next_one true = refl
            next_one false = refl
        cut_goes_on evicted failed (answer.Old kept) e = by (nat_eq next 0)
          where
            by : (b : Bool) → (attempt_of (running.Truncate (cuts.truncate_on t (cond b cut.UnlockAgain (cut.Commit x (sent.Old next (unwrap_or evicted 0)))))) ≡ attempt_of cutter) ⊎ ((attempt_of (running.Truncate (cuts.truncate_on t (cond b cut.UnlockAgain (cut.Commit x (sent.Old next (unwrap_or evicted 0)))))) ≡ None) × (cut_effect ≡ false))
            by true = inr (refl, old_none (next_fail cut_target) (is_old cut_target tail.object.number cut_g) kept (version_at cut_target tail.object.number) e)
            by false = inl (sym owns_cut)
        cut_goes_on evicted failed answer.Failed e = inl (sym owns_cut)

        -- the step that punches the tail
        pub punched_turn : OnCut behind (cuts.punch_step t s x next)
        punched_turn = turn_cut _ (cut_goes_on (last_eviction t.client s.meta) (next_call_on s.targets tail.object.target) (punch_answer cut_target tail.object.number cut_g) refl)

    commits_cut : next_part cutter ≡ None → (x : CuttingView) (came : Sent) (b : Bool) → OnCut behind (cuts.commits_cut t s x came b)
    commits_cut quiet x sent.All true = Rests refl (none_next s _ cutter quiet)
    commits_cut quiet x (sent.Failed accepted failed) true = Rests refl (none_next s _ cutter quiet)
    commits_cut quiet x (sent.Old accepted step) true = Rests refl (none_next s _ cutter quiet)
    commits_cut quiet x came false = Rests refl (none_next s _ cutter quiet)

    -- ---- each step

    -- the step that opens the file
    pub cut_opened : next_part cutter ≡ None → (then : Servers → Doing) → ((m : MetaView) → sent_calls (then (record s { meta = m })) ≡ []) → OnCut then (cuts.truncate_at cut.Open t place s)
    cut_opened quiet then none = opened_cut quiet then none (cut_opens t.client t.name t.size place s.meta)

    -- any other
    pub cut_turn : (a : CutAt) → t.at ≡ a → (a ≡ cut.Open → ⊥) → d.opened < place → IsSoundCutAt a t.size → ((x : CuttingView) (next : ℕ) → a ≡ cut.Punch x next → (length (sent_calls d) ≡ next) × AreThere s.targets x.opened.layout.components) → OnCut behind (cuts.truncate_at a t place s)
    cut_turn cut.Open at busy past sound sending = absurd (busy refl)
    cut_turn (cut.Lock x) at busy past sound sending = locks_tails x (ap (cut_next t.size) at) (ap (λ (k : CutAt). attempt_of (running.Truncate (record t { at = k }))) at) (cuts.first_blocker (cuts.locks_for t x) s.locks)
    cut_turn (cut.Punch x next) at busy past sound sending = punched_turn x next at past (sending x next refl).0 sound (sending x next refl).1
    cut_turn (cut.Commit x came) at busy past sound sending = commits_cut (ap (cut_next t.size) at) x came (is_there x.opened.file s.meta)
    cut_turn cut.UnlockAgain at busy past sound sending = Rests refl (none_next s _ cutter (ap (cut_next t.size) at))
    cut_turn cut.Unlock at busy past sound sending = Rests refl (none_next s _ cutter (ap (cut_next t.size) at))
