-- Each step leaves the files with the names and sizes of the plain files.
use Rattle.std.proofs.Common.{◌≡◌, ℕ, Bool, true, false, IfSome, List, ◌++◌, length, map, refl, sym, ap, ◌∙◌, subst}
use Rattle.std.specs.List.{flat_map}
use Rattle.std.proofs.lemmas.List.{append-nil}
use Rattle.flr_base.specs.declared.reply.Reply.{Reply}
use Rattle.script_values.specs.declared.command.Command.{Command}
use Rattle.object_target.specs.declared.fail.Fail.{Fail}
use Rattle.object_target.specs.TargetState.{TargetState}
use Rattle.meta_server.specs.Closing.{is_there}
use Rattle.meta_server.specs.Files.{MetaView}
use Rattle.meta_server.specs.Sound.{IsSound}
use Rattle.call_steps.specs.Servers.{Servers}
use Rattle.call_steps.specs.Steps.{Outcome, Going, Fixed, Ended, Answered, Blocked, widen}
use Rattle.client_read.specs.Reads.{read_step}
use Rattle.client_write.specs.declared.phase.CutAt.{CutAt}
use Rattle.client_write.specs.declared.phase.CutAt.TheVariants as cut
use Rattle.client_write.specs.declared.phase.WriteAt.{WriteAt}
use Rattle.client_write.specs.declared.phase.WriteAt.TheVariants as write
use Rattle.client_write.specs.Calls.{TruncateView, WriteView}
use Rattle.client_write.specs.Fitting.{IsSoundAt}
use Rattle.client_write.specs.Truncates.{truncate_step}
use Rattle.client_write.specs.declared.phase.Sent.{Sent as SentOf}
use Rattle.client_write.specs.Views.{WritingView}
use Rattle.client_write.specs.Writes.{commit_step, commits_write, range_of, write_at, write_step}
use Rattle.mirror_verify.specs.Verifies.{verify_step}
use Rattle.resync_copy.specs.Steps.{copy_step}
use Rattle.flr_steps.specs.declared.client.Client.{Client}
use Rattle.flr_steps.specs.declared.client.Running.{Running}
use Rattle.flr_steps.specs.declared.client.Running.TheVariants as running
use Rattle.flr_steps.specs.Clients.{call_now, first_now}
use Rattle.flr_steps.specs.Commands.{begun, step_of}
use Rattle.flr_steps.specs.Runs.{doing_after}
use Rattle.flr_steps.specs.States.{State, place_in}
use Rattle.flr_steps.specs.Steps.{LeavesState}
use Rattle.flr_steps.specs.Traces.{Doing, Made, Trace, doing_of, done_with, is_idle, is_opening, made_by, sent_calls, write_opens}
use Rattle.plain_files.specs.Effects.{effect}
use Rattle.plain_files.specs.Files.{Plain, Sent, SentRange, SentTail, end_of}
use Rattle.flr_claims.specs.Runs.{store_of}
use Rattle.flr_claims.specs.Sending.{OfWrite, components_for, cutting_of, ranges_from, sent_by, tail_for}
use Rattle.flr_numbers.specs.Calls.{IsWriteOf, cut_hand, write_hand}
use Rattle.flr_numbers.specs.Sentences.{IsCallOf}
use Rattle.flr_behind.specs.Sentences.{IsWritten, Knows}
use Rattle.flr_sole.proofs.Making.{made_none}
use Rattle.flr_bytes.specs.Files.{AreSized}
use Rattle.flr_bytes.specs.Laws.{StepsKeepSizes, StoreBy}
use Rattle.flr_bytes.specs.Runs.{IsStep}
use Rattle.flr_bytes.specs.Sent.{AreSentFor, AreSentTo, CallSent, WriteSent}
use Rattle.flr_asked.specs.Sentences.{at_start}
use Rattle.flr_bytes.specs.Victims.{HasVictim}
use Rattle.flr_honest.proofs.Stores.Answering.{steps_keep_store}
use Rattle.flr_honest.proofs.Stores.Begun.{now_of, now_so}
use Rattle.flr_honest.proofs.Stores.Commanded.{copy_left, cut_command, read_left, verify_left, write_command}
use Rattle.flr_honest.proofs.Stores.Commanding.{once_sized}
use Rattle.flr_honest.proofs.Stores.Copying.{copy_sized, taken_by}
use Rattle.flr_honest.proofs.Stores.Ends.{EndsWhere, ends_there}
use Rattle.flr_honest.proofs.Stores.Outcomes.{OnFiles, same_left, still_sized, widened}
use Rattle.flr_honest.proofs.Stores.Reading.{read_alike, verify_alike}
use Rattle.flr_honest.proofs.Stores.Writing.{CutCommits, WriteCommits, cut_sized, write_sized}

-- ---- each step

-- a write that is to commit gets to where what it sent does
abbrev pub EndsAt : List Fail → WriteView → WriteAt → Doing → Type 0
EndsAt fails w (write.Commit x end came) d = EndsWhere (range_of w) end came (end_of (ranges_from fails w.offset (sent_calls d)))
EndsAt fails w other d = Unit {0}

-- so it is with the call, if it is a write
abbrev pub EndsWell : List Fail → Running → Doing → Type 0
EndsWell fails (running.Write w) d = EndsAt fails w w.at d
EndsWell fails other d = Unit {0}

module _ (c place : ℕ) (s : Servers) (fails : List Fail) (store : List Plain) (h : AreSized s.meta.files store) (sound : IsSound s.meta) (d : Doing) where
  -- the ranges that a write has sent
  abbrev ranges_of : WriteView → List SentRange
  ranges_of w = ranges_from fails w.offset (sent_calls d)

  -- the tails that a truncate has sent
  abbrev tails_of : TruncateView → List SentTail
  tails_of t = flat_map (tail_for fails (components_for (cutting_of t.at))) (sent_calls d)

  write_to : (w : WriteView) (a : WriteAt) → IfSome (write_hand a).opened (IsWritten s.meta w.name) → EndsAt fails w a d → WriteCommits s store h sound w (ranges_of w) a
  write_to w (write.Commit x end came) k e = (k.0, e)
  write_to w write.Open k e = tt
  write_to w (write.Lock x next) k e = tt
  write_to w (write.Send x next) k e = tt
  write_to w write.UnlockAgain k e = tt
  write_to w write.Unlock k e = tt

  cut_to : (t : TruncateView) (a : CutAt) → IfSome (cut_hand a).opened (IsWritten s.meta t.name) → CutCommits s store h sound t (tails_of t) a
  cut_to t (cut.Commit x came) k = k.0
  cut_to t cut.Open k = tt
  cut_to t (cut.Lock x) k = tt
  cut_to t (cut.Punch x next) k = tt
  cut_to t cut.UnlockAgain k = tt
  cut_to t cut.Unlock k = tt

  -- what an answer to the call leaves
  abbrev left_by : Command → Running → Reply → List Plain
  left_by asked call answer = effect asked (sent_by fails call d) answer store

  -- each step of a call of this command
  pub step_sized : (call : Running) (asked : Command) → at_start call ≡ begun c asked → Knows s.meta call → HasVictim s.meta call → EndsWell fails call d → OnFiles (left_by asked call) store (step_of call c asked place s)
  step_sized running.Idle asked e k v ends = once_sized s store h c place (sent_by fails running.Idle d) asked
  step_sized (running.Read r) asked e k v ends =
      widened (left_by asked (running.Read r)) store running.Read (read_step r place s) (still_sized s.meta (left_by asked (running.Read r)) store (read_step r place s) (read_left c (sent_by fails (running.Read r) d) store _ asked e) h (read_alike s r r.at))
  step_sized (running.Verify v) asked e k victim ends =
      widened (left_by asked (running.Verify v)) store running.Verify (verify_step v place s) (still_sized s.meta (left_by asked (running.Verify v)) store (verify_step v place s) (verify_left c (sent_by fails (running.Verify v) d) store _ asked e) h (verify_alike s v v.at))
  step_sized (running.Write w) asked e k v ends =
      widened (left_by asked (running.Write w)) store running.Write (write_step w place s)
      (subst (λ (x : Command). OnFiles (left_by x (running.Write w)) store (write_step w place s)) (write_command c w asked e) (write_sized s store h sound w (ranges_of w) w.at place (write_to w w.at k ends)))
  step_sized (running.Truncate t) asked e k v ends =
      widened (left_by asked (running.Truncate t)) store running.Truncate (truncate_step t place s)
      (subst (λ (x : Command). OnFiles (left_by x (running.Truncate t)) store (truncate_step t place s)) (cut_command c t asked e) (cut_sized s store h sound t (tails_of t) t.at place (cut_to t t.at k)))
  step_sized (running.Copy p) asked e k v ends =
      widened (left_by asked (running.Copy p)) store running.Copy (copy_step p place s)
      (same_left (λ answer. taken_by p.what answer store) (left_by asked (running.Copy p)) store (copy_step p place s) (copy_left c (sent_by fails (running.Copy p) d) store _ asked e) (copy_sized p s store h sound p.at v))

-- ---- what was sent by then

-- a step of a commit makes no call of a target
commit_leaves : (s t : State) (c : ℕ) (client : Client) (first : ℕ) (w : WriteView) (x : WritingView) (end : ℕ) (came : SentOf) (b : Bool) → LeavesState s c client first (widen running.Write (commits_write w s.shared x end came b)) t → t.shared.targets ≡ s.shared.targets
commit_leaves s t c client first w x end came true left = ap (λ (u : State). u.shared.targets) left
commit_leaves s t c client first w x end came false left = ap (λ (u : State). u.shared.targets) left

-- so what was sent since the open is what was sent before
sent_still : (place : ℕ) (old new : List TargetState) (d : Doing) → new ≡ old → sent_calls (done_with false false place (made_by place old new) d) ≡ sent_calls d
sent_still place old new d same =
    ap (λ (ts : List TargetState). sent_calls (done_with false false place (made_by place old ts) d)) same
    ∙ ap (λ (ms : List Made). sent_calls (record { opened = d.opened; made = d.made ++ ms })) (made_none place old)
    ∙ ap (λ (ms : List Made). sent_calls (record { opened = d.opened; made = ms })) (append-nil d.made)

module _ (s t : State) (old new : Trace) (c : ℕ) (is : IsStep s t old new c) where
  -- the client of the step
  abbrev own : Client
  own = is.step.client

  -- which calls of targets fail
  abbrev failures : List Fail
  failures = s.script.fails

  -- what the call has done with this step
  abbrev done : Doing
  done = doing_after s t old c own is.step.asked

  -- what it had sent before
  abbrev before : List Made
  before = sent_calls (doing_of old c)

  module _ (w : WriteView) (x : WritingView) (end : ℕ) (came : SentOf) (call : own.call ≡ running.Write w) (phase : w.at ≡ write.Commit x end came) where
    commit_left : LeavesState s c own (first_now own.call (place_in s) own.first) (widen running.Write (commit_step w s.shared x end came)) t
    commit_left =
        let one = subst (λ (o : Outcome Running). LeavesState s c own (first_now own.call (place_in s) own.first) o t) (sym is.step.made) is.step.left in
        let two = subst (λ (k : Running). LeavesState s c own (first_now own.call (place_in s) own.first) (step_of (call_now c k is.step.asked) c is.step.asked (place_in s) s.shared) t) call one in
        subst (λ (a : WriteAt). LeavesState s c own (first_now own.call (place_in s) own.first) (widen running.Write (write_at a w (place_in s) s.shared)) t) phase two

    none_more : sent_calls done ≡ before
    none_more =
        let same = commit_leaves s t c own (first_now own.call (place_in s) own.first) w x end came (is_there x.opened.file s.shared.meta) commit_left in
        let made : List Made = made_by (place_in s) s.shared.targets t.shared.targets in
        ap (λ (k : Running). sent_calls (done_with (is_idle k) (is_opening (call_now c k is.step.asked)) (place_in s) made (doing_of old c))) call
        ∙ ap (λ (a : WriteAt). sent_calls (done_with false (write_opens a) (place_in s) made (doing_of old c))) phase
        ∙ sent_still (place_in s) s.shared.targets t.shared.targets (doing_of old c) same

    commit_sound : IsWriteOf c w
    commit_sound = subst (IsCallOf c) call (is.before.holds.clients c own is.step.here).call

    commit_sent : AreSentTo failures (length x.pieces) came before × AreSentFor (map OfWrite x.pieces) before
    commit_sent = subst (λ (a : WriteAt). WriteSent failures a before) phase (subst (λ (k : Running). CallSent failures k before) call (is.before.sent c own is.step.here))

    commit_ends : EndsWhere (range_of w) end came (end_of (ranges_from failures w.offset (sent_calls done)))
    commit_ends =
        let sound = subst (λ (a : WriteAt). IsSoundAt a (range_of w)) phase commit_sound.2 in
        let there = ends_there failures (range_of w) x came before commit_sound.1 sound.0 sound.1 commit_sent.0 commit_sent.1 in
        subst (λ (ms : List Made). EndsWhere (range_of w) end came (end_of (ranges_from failures w.offset ms))) (sym none_more)
        (subst (λ (n : ℕ). EndsWhere (range_of w) n came (end_of (ranges_from failures w.offset before))) (sym sound.2) there)

  -- a write that commits gets to where what it sent does
  write_ends : (w : WriteView) (a : WriteAt) → own.call ≡ running.Write w → w.at ≡ a → EndsAt failures w a done
  write_ends w (write.Commit x end came) call phase = commit_ends w x end came call phase
  write_ends w write.Open call phase = tt
  write_ends w (write.Lock x next) call phase = tt
  write_ends w (write.Send x next) call phase = tt
  write_ends w write.UnlockAgain call phase = tt
  write_ends w write.Unlock call phase = tt

  call_ends : (call : Running) → own.call ≡ call → EndsWell failures call done
  call_ends (running.Write w) e = write_ends w w.at e refl
  call_ends running.Idle e = tt
  call_ends (running.Read r) e = tt
  call_ends (running.Truncate k) e = tt
  call_ends (running.Copy k) e = tt
  call_ends (running.Verify v) e = tt

-- ---- each step

by_outcome : (s t : State) (old new : Trace) (c : ℕ) (client : Client) (asked : Command) (first : ℕ) (sent : Sent) (came : Outcome Running) → LeavesState s c client first came t → StoreBy s t old new asked sent came
    → OnFiles (λ answer. effect asked sent answer (store_of s old)) (store_of s old) came → AreSized t.shared.meta.files (store_of t new)
by_outcome s t old new c client asked first sent (Going next after) left store h = subst (λ (u : State). AreSized u.shared.meta.files (store_of t new)) (sym left) (subst (AreSized after.meta.files) (sym store) h)
by_outcome s t old new c client asked first sent (Fixed next reply takes after) left store h = subst (λ (u : State). AreSized u.shared.meta.files (store_of t new)) (sym left) (subst (AreSized after.meta.files) (sym store) h)
by_outcome s t old new c client asked first sent (Ended after) left store h = subst (λ (u : State). AreSized u.shared.meta.files (store_of t new)) (sym left) (subst (AreSized after.meta.files) (sym store) h)
by_outcome s t old new c client asked first sent (Answered reply takes after) left store h = subst (λ (u : State). AreSized u.shared.meta.files (store_of t new)) (sym left) (subst (AreSized after.meta.files) (sym store) h)
by_outcome s t old new c client asked first sent (Blocked holder) left store h = absurd left

-- where each copy that takes in a file has the key of its victim, names and sizes of files stay those of the plain files
pub steps_keep_sizes : StepsKeepSizes
steps_keep_sizes s t old new c is traced_so h =
    let step = is.step in
    let m : MetaView = s.shared.meta in
    let d : Doing = doing_after s t old c step.client step.asked in
    let call : Running = call_now c step.client.call step.asked in
    let sent : Sent = sent_by s.script.fails call d in
    let of = now_of c step.asked step.client.call (is.before.asked c step.client step.asked step.here step.commanded) in
    let knows = now_so (Knows m) c step.asked step.client.call (record { idle = tt; read = λ name offset len. tt; write = λ name offset bytes. tt; truncate = λ name size. tt; copy = λ name what. tt; verify = λ name. tt }) (is.before.known.calls c step.client step.here) in
    let victim = now_so (HasVictim m) c step.asked step.client.call (record { idle = tt; read = λ name offset len. tt; write = λ name offset bytes. tt; truncate = λ name size. tt; copy = λ name what. tt; verify = λ name. tt }) (is.before.victims c step.client step.here) in
    let ends = now_so (λ (x : Running). EndsWell s.script.fails x d) c step.asked step.client.call (record { idle = tt; read = λ name offset len. tt; write = λ name offset bytes. tt; truncate = λ name size. tt; copy = λ name what. tt; verify = λ name. tt }) (call_ends s t old new c is step.client.call refl) in
    let sized = step_sized c (place_in s) s.shared s.script.fails (store_of s old) h is.before.holds.servers.sound d call step.asked of knows victim ends in
    by_outcome s t old new c step.client step.asked (first_now step.client.call (place_in s) step.client.first) sent step.came step.left (steps_keep_store s t old new c is traced_so)
    (subst (λ (o : Outcome Running). OnFiles (λ answer. effect step.asked sent answer (store_of s old)) (store_of s old) o) step.made sized)
