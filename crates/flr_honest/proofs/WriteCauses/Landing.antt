-- What went through of a write or a truncate has landed.
use Rattle.std.proofs.Common.{◌≡◌, ℕ, ◌+◌, ◌<◌, ◌≤◌, Bool, true, false, Option, Some, None, List, [], ◌∷◌, ◌++◌, length, refl, sym, ap, subst, ◌∙◌, arith}
use Rattle.std.specs.List.{AllByRecursion}
use Rattle.flr_base.specs.declared.reply.ObjectId.{ObjectId}
use Rattle.flr_base.specs.declared.reply.Range.{Range}
use Rattle.flr_base.specs.declared.reply.Reply.{Reply}
use Rattle.mirror_select.specs.declared.types.Piece.{Piece}
use Rattle.mirror_select.specs.declared.types.Tail.{Tail}
use Rattle.object_target.specs.declared.call.CallEntry.{CallEntry}
use Rattle.object_target.specs.declared.call.CallKind.TheVariants as kind
use Rattle.object_target.specs.declared.fail.Fail.{Fail}
use Rattle.object_target.specs.Calls.{after_punch, after_write, punch_answer, write_answer}
use Rattle.object_target.specs.TargetState.{bytes_at, version_at}
use Rattle.extent_lock.specs.Extents.{blocker}
use Rattle.meta_server.specs.declared.answers.Opened.{Opened}
use Rattle.meta_server.specs.Closing.{is_there}
use Rattle.meta_server.specs.Files.{MetaView}
use Rattle.meta_server.specs.Opening.{cut_opens, write_opens}
use Rattle.meta_server.specs.Outcomes.{Gives, Refuses, Waits}
use Rattle.meta_server.specs.Outcomes as meta
use Rattle.mirror_admin.specs.OneStep.{one_step}
use Rattle.script_values.specs.declared.command.Command.{Command}
use Rattle.script_values.specs.declared.command.Command.TheVariants as command
use Rattle.script_values.specs.Scripts.{ScriptView}
use Rattle.call_steps.specs.Pieces.{object_of, piece_at}
use Rattle.call_steps.specs.Servers.{Servers}
use Rattle.call_steps.specs.Steps.{Outcome, Going, Fixed, Ended, Answered, Blocked, widen}
use Rattle.client_read.specs.Reads.{new_read, read_step}
use Rattle.client_write.specs.declared.phase.CutAt.{CutAt}
use Rattle.client_write.specs.declared.phase.CutAt.TheVariants as cut
use Rattle.client_write.specs.declared.phase.Sent.{Sent}
use Rattle.client_write.specs.declared.phase.Sent.TheVariants as sent
use Rattle.client_write.specs.declared.phase.WriteAt.{WriteAt}
use Rattle.client_write.specs.declared.phase.WriteAt.TheVariants as write
use Rattle.client_write.specs.Calls.{TruncateView, WriteView}
use Rattle.client_write.specs.Truncates.{commits_cut, first_blocker, locks_for, locks_tails, new_truncate, opens_cut, tail_at, tail_punched, target_of_tail, truncate_at, truncate_on}
use Rattle.client_write.specs.Writes.{bytes_of, commits_write, locks_piece, lock_for, new_write, opens, piece_sent, range_of, target_of, write_at, write_on}
use Rattle.client_write.proofs.Cuttable.{tail_there}
use Rattle.client_write.proofs.Writable.{object_there}
use Rattle.mirror_verify.specs.Verifies.{new_verify, verify_step}
use Rattle.resync_copy.specs.Copies.{new_copy}
use Rattle.resync_copy.specs.Steps.{copy_step}
use Rattle.flr_steps.specs.declared.client.Client.{Client}
use Rattle.flr_steps.specs.declared.client.Running.{Running}
use Rattle.flr_steps.specs.declared.client.Running.TheVariants as running
use Rattle.flr_steps.specs.Clients.{call_now}
use Rattle.flr_steps.specs.Commands.{answered_by, at_once, begun, step_of}
use Rattle.flr_steps.specs.States.{State, Stepped, after, client_at, next, place_in, start}
use Rattle.flr_steps.specs.Steps.{StepIs}
use Rattle.flr_steps.specs.Traces.{Doing, Made, Trace, doing_of, done_with, has_landed, is_accepted, is_idle, is_opening, is_sending, made_by, made_since_open, trace_after, traced}
use Rattle.flr_steps.specs.Traces as traces
use Rattle.flr_numbers.specs.Hands.{Has}
use Rattle.flr_numbers.specs.Sentences.{HasRoom, Holds, IsCallOf, hand_of}
use Rattle.flr_numbers.proofs.CallFits.{are_there}
use Rattle.flr_sole.proofs.Making.{all_joined, made_none, made_one, past_later}
use Rattle.flr_sole.proofs.Sending.{with_made}
use Rattle.flr_bytes.specs.Runs.{Ground}
use Rattle.flr_honest.proofs.Sent.Parts.{behind, ok_lands}
use Rattle.flr_honest.proofs.Stores.Begun.{begun_so}
use Rattle.flr_honest.proofs.Grounds.{runs_ground}
use Rattle.flr_locks.proofs.Runs.{keep_always}
use Rattle.flr_places.proofs.Runs.{new_at}
use Rattle.flr_runs.proofs.Runs as runs
use Rattle.flr_steps.proofs.Inversion.{step_is}
use Rattle.flr_steps.proofs.Runs.{after_more}
use Rattle.flr_steps.proofs.StepLaws.{each_step_leaves}
use Rattle.flr_steps.proofs.TraceLaws.{trace_goes_on}
use Rattle.flr_honest.specs.WriteCauses.Again.{AreLanding, IsLanding, LandsAll, RunsLandWhatGoesThrough}
use Rattle.flr_honest.proofs.WriteCauses.Parts.{none_since, nothing_more, one_more}
use Rattle.flr_honest.proofs.WriteCauses.EachCall.{EachHas, OnCall, step_each}

module _ (fails : List Fail) where
  abbrev pub Lands : Running → Doing → Type 0
  Lands call d = LandsAll fails call (made_since_open d)

  pub idle_lands : (d : Doing) → Lands running.Idle d
  idle_lands d = tt

  abbrev pub On : (Servers → Doing) → Outcome Running → Type 0
  On then o = OnCall Lands idle_lands then o

  abbrev All : Doing → Type 0
  All e = AllByRecursion (IsLanding fails) (made_since_open e)

  -- of a call of another kind nothing is said
  other_lands : {C : Type 0} (f : C → Running) → ((x : C) (d : Doing) → Lands (f x) d) → (then : Servers → Doing) (o : Outcome C) → On then (widen f o)
  other_lands f any then (Going next after) = any next (then after)
  other_lands f any then (Fixed next reply takes after) = any next (then after)
  other_lands f any then (Ended after) = tt
  other_lands f any then (Answered reply takes after) = tt
  other_lands f any then (Blocked holder) = tt

  answers : (then : Servers → Doing) (s : Servers) (o : meta.Outcome Reply) → On then (answered_by s o)
  answers then s (Gives answer after) = tt
  answers then s (Refuses answer) = tt
  answers then s (Waits holder) = tt

  once : (then : Servers → Doing) (client place : ℕ) (s : Servers) (asked : Command) → On then (at_once client asked place s)
  once then client place s (command.Read name offset len) = tt
  once then client place s (command.Write name offset bytes) = tt
  once then client place s (command.Truncate name size) = tt
  once then client place s (command.Lfs of) = answers then s (one_step client of place s.meta)
  once then client place s (command.Evict other) = tt
  once then client place s (command.Rot object offset byte) = tt

  -- who opens a file has made no call since
  write_opened : (then : Servers → Doing) (s : Servers) (w : WriteView) → ((m : MetaView) → All (then (record s { meta = m }))) → (o : meta.Outcome Opened)
      → On then (widen running.Write (opens w s o))
  write_opened then s w all (Gives o after) = all after
  write_opened then s w all (Refuses reply) = tt
  write_opened then s w all (Waits holder) = tt

  cut_opened : (then : Servers → Doing) (s : Servers) (t : TruncateView) → ((m : MetaView) → All (then (record s { meta = m }))) → (o : meta.Outcome Opened)
      → On then (widen running.Truncate (opens_cut t s o))
  cut_opened then s t all (Gives o after) = all after
  cut_opened then s t all (Refuses reply) = tt
  cut_opened then s t all (Waits holder) = tt

  -- a step that opens makes no call
  open_all : (idle : Bool) (place : ℕ) (s : Servers) (d : Doing) → AllByRecursion (λ (m : Made). m.place ≤ place) d.made
      → All (done_with idle true place (made_by place s.targets s.targets) d)
  open_all true place s d past = subst (λ (ms : List Made). All (record { opened = place; made = ms })) (sym (made_none place s.targets)) tt
  open_all false place s d past =
      subst (λ (ms : List Made). All (record { opened = place; made = d.made ++ ms })) (sym (made_none place s.targets))
      (subst (AllByRecursion (IsLanding fails)) (sym (nothing_more (record { opened = place; made = d.made }) ∙ none_since place d.made past)) tt)

module _ (s : State) (c : ℕ) (tr : Trace) (g : Ground s tr) (client : Client) (here : client_at s.clients c ≡ Some client) where
  abbrev fails : List Fail
  fails = s.script.fails

  abbrev d : Doing
  d = doing_of tr c

  abbrev place : ℕ
  place = place_in s

  abbrev sh : Servers
  sh = s.shared

  abbrev OnStep : (Servers → Doing) → Outcome Running → Type 0
  OnStep then o = OnCall (Lands fails) (idle_lands fails) then o

  abbrev Each : Doing → Type 0
  Each e = AllByRecursion (IsLanding fails) (made_since_open e)

  before : d.opened < place
  before = let low = (g.sole.past c client here).opened in omega (arith, low)

  past : AllByRecursion (λ (m : Made). m.place ≤ place) d.made
  past = (past_later (length s.schedule) place d (omega arith) (g.sole.past c client here)).made

  -- a step that calls no target
  quiet : Each d → Each (behind place sh d sh)
  quiet all = subst (λ (ms : List Made). Each (with_made d ms)) (sym (made_none place sh.targets)) (subst (AllByRecursion (IsLanding fails)) (sym (nothing_more d)) all)

  -- a step that makes this call
  one_each : (m : Made) → m.place ≡ place → IsLanding fails m → Each d → Each (with_made d (m ∷ []))
  one_each m is lands all = subst (AllByRecursion (IsLanding fails)) (sym (one_more d m (let low = before in omega (arith, low, is)))) (all_joined (IsLanding fails) (made_since_open d) (m ∷ []) all (lands, tt))

  write_lands : (w : WriteView) (a : WriteAt) → client.call ≡ running.Write (write_on w a) → Each d
      → OnStep (λ after. done_with false (traces.write_opens a) place (made_by place sh.targets after.targets) d) (widen running.Write (write_at a (write_on w a) place sh))
  write_lands w write.Open is all = write_opened fails (λ after. done_with false true place (made_by place sh.targets after.targets) d) sh (write_on w write.Open) (λ m. open_all fails false place sh d past) (write_opens w.client w.name (range_of w) place sh.meta)
  write_lands w (write.Lock x next) is all = by (blocker sh.locks (lock_for (write_on w (write.Lock x next)) (piece_at x.pieces next)))
    where
      by : (o : Option (ℕ × Range)) → OnStep (behind place sh d) (widen running.Write (locks_piece (write_on w (write.Lock x next)) sh x next o))
      by (Some told) = tt
      by None = quiet all
  write_lands w (write.Send x next) is all =
      let v : WriteView = write_on w (write.Send x next) in
      let p : Piece = piece_at x.pieces next in
      let o : ObjectId = object_of p in
      let own : IsCallOf c (running.Write v) = subst (IsCallOf c) is (g.holds.clients c client here).call in
      let has : Has c sh.meta sh.locks (hand_of (running.Write v)) = subst (λ (r : Running). Has c sh.meta sh.locks (hand_of r)) is (g.holds.clients c client here).has in
      let there : o.target < length sh.targets = object_there (range_of v) x next sh.targets own.1 own.2.0 own.2.1 (are_there sh.meta sh.targets x.opened.layout g.holds.servers (has.opened x.opened refl)) in
      let version : ℕ = x.opened.layout.generation in
      let entry : CallEntry = record { kind = kind.Write; object = o.number; offset = p.offset; length = length (bytes_of v p); version = version; answer = write_answer (target_of sh p) o.number version } in
      let m : Made = record { place = place; target = o.target; call = length (target_of sh p).calls + 1; entry = entry; kept = version_at (target_of sh p) o.number; bytes = bytes_at (target_of sh p) o.number } in
      let made : made_by place sh.targets (piece_sent v sh x p).targets ≡ m ∷ [] = made_one place sh.targets o.target (after_write (target_of sh p) o.number p.offset (bytes_of v p) version) entry there refl in
      subst (λ (ms : List Made). Each (with_made d ms)) (sym made) (one_each m refl (λ ok. (refl, ok_lands fails sh.targets g.listed o.target o.number version there ok)) all)
  write_lands w (write.Commit x end came) is all = by (is_there x.opened.file sh.meta)
    where
      by : (b : Bool) → OnStep (behind place sh d) (widen running.Write (commits_write (write_on w (write.Commit x end came)) sh x end came b))
      by true = quiet all
      by false = quiet all
  write_lands w write.UnlockAgain is all = quiet all
  write_lands w write.Unlock is all = tt

  cut_lands : (t : TruncateView) (a : CutAt) → client.call ≡ running.Truncate (truncate_on t a) → Each d
      → OnStep (λ after. done_with false (traces.cut_opens a) place (made_by place sh.targets after.targets) d) (widen running.Truncate (truncate_at a (truncate_on t a) place sh))
  cut_lands t cut.Open is all = cut_opened fails (λ after. done_with false true place (made_by place sh.targets after.targets) d) sh (truncate_on t cut.Open) (λ m. open_all fails false place sh d past) (cut_opens t.client t.name t.size place sh.meta)
  cut_lands t (cut.Lock x) is all = by (first_blocker (locks_for (truncate_on t (cut.Lock x)) x) sh.locks)
    where
      by : (o : Option (ℕ × Range)) → OnStep (behind place sh d) (widen running.Truncate (locks_tails (truncate_on t (cut.Lock x)) sh x o))
      by (Some told) = tt
      by None = quiet all
  cut_lands t (cut.Punch x next) is all =
      let v : TruncateView = truncate_on t (cut.Punch x next) in
      let tail : Tail = tail_at x.tails next in
      let o : ObjectId = tail.object in
      let own : IsCallOf c (running.Truncate v) = subst (IsCallOf c) is (g.holds.clients c client here).call in
      let has : Has c sh.meta sh.locks (hand_of (running.Truncate v)) = subst (λ (r : Running). Has c sh.meta sh.locks (hand_of r)) is (g.holds.clients c client here).has in
      let there : o.target < length sh.targets = tail_there t.size x next sh.targets own.1.0 own.1.1 (are_there sh.meta sh.targets x.opened.layout g.holds.servers (has.opened x.opened refl)) in
      let version : ℕ = x.opened.layout.generation in
      let entry : CallEntry = record { kind = kind.Punch; object = o.number; offset = tail.offset; length = 0; version = version; answer = punch_answer (target_of_tail sh tail) o.number version } in
      let m : Made = record { place = place; target = o.target; call = length (target_of_tail sh tail).calls + 1; entry = entry; kept = version_at (target_of_tail sh tail) o.number; bytes = bytes_at (target_of_tail sh tail) o.number } in
      let made : made_by place sh.targets (tail_punched sh x tail).targets ≡ m ∷ [] = made_one place sh.targets o.target (after_punch (target_of_tail sh tail) o.number tail.offset version) entry there refl in
      subst (λ (ms : List Made). Each (with_made d ms)) (sym made) (one_each m refl (λ ok. (refl, ok_lands fails sh.targets g.listed o.target o.number version there ok)) all)
  cut_lands t (cut.Commit x came) is all = by (is_there x.opened.file sh.meta) came
    where
      by : (b : Bool) (how : Sent) → OnStep (behind place sh d) (widen running.Truncate (commits_cut (truncate_on t (cut.Commit x came)) sh x how b))
      by true sent.All = quiet all
      by true (sent.Failed accepted call) = quiet all
      by true (sent.Old accepted step) = quiet all
      by false how = quiet all
  cut_lands t cut.UnlockAgain is all = quiet all
  cut_lands t cut.Unlock is all = tt

  module _ (asked : Command) where
    -- what the call has done once the step left these servers
    abbrev done : Bool → Bool → Servers → Doing
    done idle opens after = done_with idle opens place (made_by place sh.targets after.targets) d

    -- a step of this call, begun or under way, leaves one of which what went through has landed
    abbrev pub Goal : Bool → Running → Type 0
    Goal idle call = OnCall (Lands s.script.fails) (idle_lands s.script.fails) (λ after. done_with idle (is_opening call) (place_in s) (made_by (place_in s) s.shared.targets after.targets) (doing_of tr c)) (step_of call c asked (place_in s) s.shared)

    begun_goal : Goal true (begun c asked)
    begun_goal = begun_so (Goal true) c asked (record {
      idle = once fails (done true true) c place sh asked;
      read = λ name offset len. other_lands fails running.Read (λ x e. tt) (done true true) (read_step (new_read c name offset len) place sh);
      write = λ name offset bytes. write_opened fails (done true true) sh (new_write c name offset bytes) (λ m. open_all fails true place sh d past) (write_opens c name (range_of (new_write c name offset bytes)) place sh.meta);
      truncate = λ name size. cut_opened fails (done true true) sh (new_truncate c name size) (λ m. open_all fails true place sh d past) (cut_opens c name size place sh.meta);
      copy = λ name what. other_lands fails running.Copy (λ x e. tt) (done true true) (copy_step (new_copy c name what) place sh);
      verify = λ name. other_lands fails running.Verify (λ x e. tt) (done true true) (verify_step (new_verify c name) place sh);
    })

    pub by_call : (call : Running) → client.call ≡ call → Lands fails call d → Goal (is_idle call) (call_now c call asked)
    by_call running.Idle is all = begun_goal
    by_call (running.Read r) is all = other_lands fails running.Read (λ x e. tt) (done false (is_opening (running.Read r))) (read_step r place sh)
    by_call (running.Write w) is all = write_lands w w.at is all
    by_call (running.Truncate t) is all = cut_lands t t.at is all
    by_call (running.Copy k) is all = other_lands fails running.Copy (λ x e. tt) (done false (is_opening (running.Copy k))) (copy_step k place sh)
    by_call (running.Verify v) is all = other_lands fails running.Verify (λ x e. tt) (done false (is_opening (running.Verify v))) (verify_step v place sh)

-- each step keeps it
step_lands : (s t : State) (c : ℕ) (tr : Trace) → Ground s tr → AreLanding s tr → StepIs s c t → AreLanding t (traced s t tr c)
step_lands s t c tr g each step =
    let script : t.script ≡ s.script = ap (λ (x : State). x.script) (each_step_leaves s t c step).is in
    let on : Goal s c tr g step.client step.here step.asked (is_idle step.client.call) (call_now c step.client.call step.asked) = by_call s c tr g step.client step.here step.asked step.client.call refl (each c step.client step.here) in
    subst (λ (x : ScriptView). EachHas (Lands x.fails) (idle_lands x.fails) t (traced s t tr c)) (sym script)
    (step_each (Lands s.script.fails) (idle_lands s.script.fails) s t c tr g.beside each step (subst (λ (o : Outcome Running). OnCall (Lands s.script.fails) (idle_lands s.script.fails) (λ after. done_with (is_idle step.client.call) (is_opening (call_now c step.client.call step.asked)) (place_in s) (made_by (place_in s) s.shared.targets after.targets) (doing_of tr c)) o) step.made on))

-- a state that its schedule leads to, and what is kept of it
record Kept (s : State) : Type 0 where
  pub run : after (start s.script) s.schedule ≡ Some s
  pub lands : AreLanding s (trace_after s.script s.schedule)

step_kept : (s t : State) (c : ℕ) → Holds s → HasRoom s.shared → Kept s → next s c ≡ Stepped t → Kept t
step_kept s t c h room k made =
    let step : StepIs s c t = step_is s t c made in
    let left = each_step_leaves s t c step in
    let script : t.script ≡ s.script = ap (λ (x : State). x.script) left.is in
    let schedule : t.schedule ≡ s.schedule ++ c ∷ [] = ap (λ (x : State). x.schedule) left.is in
    let trace : trace_after t.script t.schedule ≡ traced s t (trace_after s.script s.schedule) c = (λ j. trace_after (script j) (schedule j)) ∙ trace_goes_on s.script s.schedule s t c k.run made in
    record {
      run = (λ j. after (start (script j)) (schedule j)) ∙ after_more (start s.script) s t s.schedule c k.run made;
      lands = subst (AreLanding t) (sym trace) (step_lands s t c (trace_after s.script s.schedule) (runs_ground s (record { limits = h.script; run = k.run })) k.lands step);
    }

start_kept : (script : ScriptView) → Kept (start script)
start_kept script = record { run = refl; lands = λ c client e. subst (λ (x : Client). LandsAll script.fails x.call (made_since_open (doing_of (trace_after script []) c))) (sym (new_at (length script.clients) c client e)) tt }

-- in every run what went through of a write or a truncate since it opened its file has landed
pub runs_land : RunsLandWhatGoesThrough
runs_land s run = (keep_always Kept step_kept s run (runs.runs_leave (length s.schedule)) (start_kept s.script)).lands
