-- What each step of a write has done for its pieces.
use Rattle.std.proofs.Common.{◌≡◌, ℕ, zero, suc, ◌+◌, ◌-◌, ◌<◌, ◌≤◌, Bool, true, false, cond, nat_eq, nat_lt, Option, Some, None, List, [], ◌∷◌, ◌++◌, length, map, refl, sym, ap, subst, ◌∙◌, arith}
use Rattle.std.specs.Prelude.{slice_get, slice_index_or, unwrap_or, drop, ◌&&◌}
use Rattle.std.specs.List.{AllByRecursion}
use Rattle.std.proofs.lemmas.Bool.{eq-eqb}
use Rattle.std.proofs.lemmas.Bool.Decides.{nat_tests}
use Rattle.std.proofs.lemmas.List.{length-drop, length-map, length-take-le}
use Rattle.flr_base.specs.declared.reply.ObjectId.{ObjectId}
use Rattle.flr_base.specs.declared.reply.Range.{Range}
use Rattle.mirror_select.specs.declared.types.Piece.{Piece}
use Rattle.object_target.specs.declared.call.CallAnswer.{CallAnswer}
use Rattle.object_target.specs.declared.call.CallAnswer.TheVariants as answer
use Rattle.object_target.specs.declared.call.CallEntry.{CallEntry}
use Rattle.object_target.specs.declared.call.CallKind.TheVariants as kind
use Rattle.object_target.specs.Calls.{after_write, write_answer}
use Rattle.object_target.specs.TargetState.{bytes_at, version_at}
use Rattle.extent_lock.specs.Extents.{blocker}
use Rattle.meta_server.specs.declared.answers.Opened.{Opened}
use Rattle.meta_server.specs.Closing.{holds, is_there, last_eviction}
use Rattle.meta_server.specs.Files.{MetaView}
use Rattle.meta_server.specs.Opening.{write_opens}
use Rattle.meta_server.specs.Outcomes.{Gives, Refuses, Waits}
use Rattle.meta_server.specs.Outcomes as meta
use Rattle.script_values.specs.declared.command.Command.{Command}
use Rattle.script_values.specs.declared.command.Command.TheVariants as command
use Rattle.script_values.specs.Scripts.{ScriptView}
use Rattle.call_steps.specs.Pieces.{IsWithin, length_of, object_of, piece_at}
use Rattle.call_steps.specs.Servers.{AreThere, Servers, next_call_on}
use Rattle.call_steps.specs.Steps.{Outcome, Going, Fixed, Ended, Answered, Blocked}
use Rattle.client_write.specs.declared.phase.Sent.{Sent}
use Rattle.client_write.specs.declared.phase.Sent.TheVariants as sent
use Rattle.client_write.specs.declared.phase.WriteAt.{WriteAt}
use Rattle.client_write.specs.declared.phase.WriteAt.TheVariants as write
use Rattle.client_write.specs.Calls.{WriteView}
use Rattle.client_write.specs.Fitting.{IsAsked, IsSoundAt}
use Rattle.client_write.specs.Parts.{came_of}
use Rattle.client_write.specs.Views.{WritingView}
use Rattle.client_write.specs.Writes.{after_send, bytes_of, commits_to, commits_write, locks_piece, lock_for, opens, piece_sent, range_of, target_of, write_at}
use Rattle.client_write.proofs.Writable.{lies, object_there}
use Rattle.flr_numbers.specs.Calls.{write_hand}
use Rattle.flr_steps.specs.Traces.{Doing, Made, made_by, made_since_open}
use Rattle.flr_steps.specs.Traces as traces
use Rattle.flr_asked.specs.CallRuns.{place_if}
use Rattle.flr_pieces.specs.Sentences.{IsLostWrite}
use Rattle.flr_sole.proofs.Making.{made_none, made_one}
use Rattle.flr_sole.proofs.Sending.{with_made}
use Rattle.flr_work.specs.Paying.{AreListed}
use Rattle.flr_claims.specs.Failures.{IsListedFailure, is_failed}
use Rattle.flr_claims.specs.Sending.{OfWrite, Part}
use Rattle.flr_claims.specs.Writing.{AreCallsOf, IsCallOf, parts_of}
use Rattle.flr_honest.specs.WriteCauses.Stages.{EndsFailed, EndsOld, HasDone, IsLatestEviction, IsOpenedAt, SentSoFar, write_stage}
use Rattle.flr_honest.proofs.WriteCauses.Calling.{none_left, one_fails, one_goes, one_old}
use Rattle.flr_honest.proofs.WriteCauses.Failing.{failed_listed}
use Rattle.flr_honest.proofs.WriteCauses.Parts.{none_since, nothing_more}

-- what is found at a place of the images
got_there : {X Y : Type 0} (f : X → Y) (xs : List X) (i : ℕ) (d : X) → i < length xs → slice_get (map f xs) i ≡ Some (f (slice_index_or xs i d))
got_there f [] i d h = absurd (omega (arith, h))
got_there f (x ∷ xs) zero d h = refl
got_there f (x ∷ xs) (suc i) d h = got_there f xs i d (omega (arith, h))

-- a piece has all its bytes
whole_piece : (w : WriteView) (p : Piece) → IsWithin (range_of w) p → length (bytes_of w p) ≡ length_of p
whole_piece w p within =
    let left = length-drop (p.range.start - w.offset) w.bytes in
    let low = within.low in
    let high = within.high in
    length-take-le (length_of p) (drop (p.range.start - w.offset) w.bytes) (omega (arith, left, low, high))

module _ (script : ScriptView) (schedule : List ℕ) (c first : ℕ) (name : List ℕ) (offset : ℕ) (bytes : List ℕ) where
  abbrev asked : Command
  asked = command.Write name offset bytes

  -- the write that the command is, with this to do next
  abbrev pub write_so : WriteAt → WriteView
  write_so a = record { client = c; name = name; offset = offset; bytes = bytes; at = a }

  -- the eviction that took the cookie of the open file
  abbrev pub IsTaken : ℕ → ℕ → MetaView → Type 0
  IsTaken opened place m = (step : ℕ) × (last_eviction c m ≡ Some step) × IsLatestEviction script schedule c first asked opened place step

  -- what a step at this place finds, by what the call has done before
  pub record Finds (place : ℕ) (s : Servers) (d : Doing) (a : WriteAt) : Type 0 where
    pub behind : d.opened < place
    pub past : AllByRecursion (λ (m : Made). m.place ≤ place) d.made
    pub listed : AreListed script.fails s.targets
    pub within : IsAsked (range_of (write_so a))
    pub sound : IsSoundAt a (range_of (write_so a))
    pub there : (o : Opened) → (write_hand a).opened ≡ Some o → AreThere s.targets o.layout.components
    pub lost : IsLostWrite s a
    pub taken : (o : Opened) → (write_hand a).opened ≡ Some o → holds o.file o.cookie s.meta ≡ false → IsTaken d.opened place s.meta
    pub opens : a ≡ write.Open → (o : Opened) (after : MetaView) → write_opens c name (range_of (write_so a)) place s.meta ≡ Gives o after
        → IsOpenedAt script schedule c first asked place o

  module _ (place : ℕ) (s : Servers) (d : Doing) where
    -- what the call has done once the step left these servers
    abbrev pub done : Bool → Servers → Doing
    done opens after = record { opened = place_if opens place d.opened; made = d.made ++ made_by place s.targets after.targets }

    abbrev DoneAt : Doing → WriteAt → Type 0
    DoneAt e a = HasDone script schedule c first asked e (write_stage a)

    -- the write that goes on is the same, and has done what its stage says
    abbrev pub OnWrite : Bool → Outcome WriteView → Type 0
    OnWrite opens (Going next after) = (next ≡ write_so next.at) × DoneAt (done opens after) next.at
    OnWrite opens (Fixed next reply takes after) = (next ≡ write_so next.at) × DoneAt (done opens after) next.at
    OnWrite opens (Ended after) = Unit {0}
    OnWrite opens (Answered reply takes after) = Unit {0}
    OnWrite opens (Blocked holder) = Unit {0}

    -- a step that calls no target adds nothing
    quiet : (opens : Bool) (after : Servers) → after.targets ≡ s.targets
        → made_since_open (done opens after) ≡ made_since_open (record { opened = place_if opens place d.opened; made = d.made })
    quiet opens after same =
        let none : made_by place s.targets after.targets ≡ [] = ap (made_by place s.targets) same ∙ made_none place s.targets in
        ap (λ (ms : List Made). made_since_open (record { opened = place_if opens place d.opened; made = d.made ++ ms })) none ∙ nothing_more (record { opened = place_if opens place d.opened; made = d.made })

    -- ---- open

    opened : (a : WriteAt) → Finds place s d a → a ≡ write.Open → (o : meta.Outcome Opened) → write_opens c name (range_of (write_so a)) place s.meta ≡ o
        → OnWrite true (opens (write_so a) s o)
    opened a f is (Gives o after) e = (refl, (f.opens is o after e, quiet true (record s { meta = after }) refl ∙ none_since place d.made f.past))
    opened a f is (Refuses reply) e = tt
    opened a f is (Waits holder) e = tt

    -- ---- a lock

    locks : (x : WritingView) (next : ℕ) → IsOpenedAt script schedule c first asked d.opened x.opened → made_since_open d ≡ [] → (o : Option (ℕ × Range))
        → OnWrite false (locks_piece (write_so (write.Lock x next)) s x next o)
    locks x next at none (Some told) = tt
    locks x next at none None = (refl, by (nat_lt (next + 1) (length x.pieces)))
      where
        nothing : made_since_open (done false s) ≡ []
        nothing = quiet false s refl ∙ none

        by : (b : Bool) → DoneAt (done false s) (cond b (write.Lock x (next + 1)) (write.Send x 0))
        by true = (at, nothing)
        by false = (at, subst (SentSoFar script schedule c first asked x.opened.layout.generation (parts_of asked x.opened.layout) 0) (sym nothing) (refl, tt, tt))

    -- ---- a send

    module _ (x : WritingView) (next : ℕ) (f : Finds place s d (write.Send x next)) (at : IsOpenedAt script schedule c first asked d.opened x.opened)
        (so_far : SentSoFar script schedule c first asked x.opened.layout.generation (parts_of asked x.opened.layout) next (made_since_open d)) where
      abbrev w : WriteView
      w = write_so (write.Send x next)

      abbrev p : Piece
      p = piece_at x.pieces next

      abbrev o : ObjectId
      o = object_of p

      abbrev g : ℕ
      g = x.opened.layout.generation

      abbrev parts : List Part
      parts = parts_of asked x.opened.layout

      abbrev entry : CallEntry
      entry = record { kind = kind.Write; object = o.number; offset = p.offset; length = length (bytes_of w p); version = g; answer = write_answer (target_of s p) o.number g }

      abbrev m : Made
      m = record { place = place; target = o.target; call = length (target_of s p).calls + 1; entry = entry; kept = version_at (target_of s p) o.number; bytes = bytes_at (target_of s p) o.number }

      abbrev left : Servers
      left = piece_sent w s x p

      within : next < length x.pieces
      within = f.sound.1

      there : o.target < length s.targets
      there = object_there (range_of w) x next s.targets f.within f.sound.0 f.sound.1 (f.there x.opened refl)

      made : made_by place s.targets left.targets ≡ m ∷ []
      made = made_one place s.targets o.target (after_write (target_of s p) o.number p.offset (bytes_of w p) g) entry there refl

      many : length x.pieces ≡ length parts
      many = ap (λ (ps : List Piece). length ps) f.sound.0.are ∙ sym (length-map _ OfWrite)

      found : slice_get parts next ≡ Some (OfWrite p)
      found = ap (λ (ps : List Piece). slice_get (map OfWrite ps) next) (sym f.sound.0.are) ∙ got_there OfWrite x.pieces next _ within

      is_for : IsCallOf g (OfWrite p) m
      is_for =
          let one : nat_eq o.target o.target ≡ true = eq-eqb o.target o.target refl in
          let two : nat_eq o.number o.number ≡ true = eq-eqb o.number o.number refl in
          ((refl, refl, whole_piece w p (lies (range_of w) x next f.within f.sound.0 f.sound.1)), (λ j. one j && two j), refl)

      -- what holds of the calls with this one holds of those behind the step
      then_so : (P : List Made → Type 0) → P (made_since_open (with_made d (m ∷ []))) → P (made_since_open (done false left))
      then_so P h = subst (λ (ms : List Made). P (made_since_open (with_made d ms))) (sym made) h

      abbrev OnSend : WriteAt → Type 0
      OnSend a = DoneAt (done false left) a

      goes_on : write_answer (target_of s p) o.number g ≡ answer.Ok → SentSoFar script schedule c first asked g parts (next + 1) (made_since_open (done false left))
      goes_on e = then_so (SentSoFar script schedule c first asked g parts (next + 1)) (one_goes script schedule c first asked d m f.behind g parts (OfWrite p) next so_far found is_for e)

      sends_next : write_answer (target_of s p) o.number g ≡ answer.Ok → (b : Bool) → nat_lt (next + 1) (length x.pieces) ≡ b
          → OnSend (cond b (write.Send x (next + 1)) (commits_to w x sent.All))
      sends_next e true more = (at, goes_on e)
      sends_next e false last =
          let so = goes_on e in
          let same = many in
          let less = within in
          (at, (so.2, (none_left next (length parts) _ so.0 (omega (arith, same, less)) (ap (nat_lt (next + 1)) (sym many) ∙ last), so.1)))

      old_next : (kept : ℕ) → write_answer (target_of s p) o.number g ≡ answer.Old kept → (b : Bool) → nat_eq next 0 ≡ b
          → OnSend (cond b write.UnlockAgain (commits_to w x (sent.Old next (unwrap_or (last_eviction c s.meta) 0))))
      old_next kept e true none = tt
      old_next kept e false some =
          let taken = f.taken x.opened refl (f.lost kept e) in
          let evicted : IsLatestEviction script schedule c first asked d.opened place (unwrap_or (last_eviction c s.meta) 0) = subst (λ (y : Option ℕ). IsLatestEviction script schedule c first asked d.opened place (unwrap_or y 0)) (sym taken.1) taken.2 in (
            at,
            then_so (λ (ms : List Made). AreCallsOf g parts ms × EndsOld script schedule c first asked d.opened ms (unwrap_or (last_eviction c s.meta) 0))
                (one_old script schedule c first asked d m f.behind g parts (OfWrite p) next so_far found is_for kept (unwrap_or (last_eviction c s.meta) 0) e positive evicted),
          )
        where
          positive : 0 < next
          positive = grind (arith, nat_tests)

      failed : write_answer (target_of s p) o.number g ≡ answer.Failed → IsListedFailure script.fails m (next_call_on s.targets o.target)
      failed e = record { named = refl; failed = (λ j. is_failed (e j)); listed = failed_listed script.fails s.targets f.listed o.target o.number g there e }

      sent_next : (a : CallAnswer) → write_answer (target_of s p) o.number g ≡ a
          → OnSend (after_send w (last_eviction c s.meta) x next (came_of (next_call_on s.targets o.target) a))
      sent_next answer.Ok e = sends_next e (nat_lt (next + 1) (length x.pieces)) refl
      sent_next (answer.Old kept) e = old_next kept e (nat_eq next 0) refl
      sent_next answer.Failed e = (
        at,
        then_so (λ (ms : List Made). AreCallsOf g parts ms × EndsFailed script schedule c first asked ms (next_call_on s.targets o.target))
            (one_fails script schedule c first asked d m f.behind g parts (OfWrite p) next so_far found is_for (next_call_on s.targets o.target) (failed e)),
      )

    commits : (x : WritingView) (end : ℕ) (came : Sent) (b : Bool) → OnWrite false (commits_write (write_so (write.Commit x end came)) s x end came b)
    commits x end came true = (refl, tt)
    commits x end came false = (refl, tt)

    -- ---- each step

    pub write_does : (a : WriteAt) → Finds place s d a → HasDone script schedule c first asked d (write_stage a)
        → OnWrite (traces.write_opens a) (write_at a (write_so a) place s)
    write_does write.Open f h = opened write.Open f refl (write_opens c name (range_of (write_so write.Open)) place s.meta) refl
    write_does (write.Lock x next) f h = locks x next h.0 h.1 (blocker s.locks (lock_for (write_so (write.Lock x next)) (piece_at x.pieces next)))
    write_does (write.Send x next) f h =
        (refl, sent_next x next f h.0 h.1 (write_answer (target_of s (piece_at x.pieces next)) (object_of (piece_at x.pieces next)).number x.opened.layout.generation) refl)
    write_does (write.Commit x end came) f h = commits x end came (is_there x.opened.file s.meta)
    write_does write.UnlockAgain f h = (refl, tt)
    write_does write.Unlock f h = tt
