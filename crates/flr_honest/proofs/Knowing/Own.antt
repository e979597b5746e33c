-- What a read knows after a step of its client.
use Rattle.std.proofs.Common.{◌≡◌, ℕ, ◌+◌, false, Some, length, arith, refl, sym, ap, subst, ◌∙◌}
use Rattle.script_values.specs.Commands.{IsCommand}
use Rattle.lfs_words.specs.declared.command.LfsCommand.{LfsCommand}
use Rattle.lfs_words.specs.declared.command.LfsCommand.TheVariants as lfs
use Rattle.script_values.specs.declared.command.Command.{Command}
use Rattle.script_values.specs.declared.command.Command.TheVariants as command
use Rattle.call_steps.specs.Servers.{Servers}
use Rattle.client_read.specs.declared.phase.ReadAt.{ReadAt}
use Rattle.client_read.specs.declared.phase.ReadAt.TheVariants as at
use Rattle.client_read.specs.declared.phase.Reading.{Reading}
use Rattle.client_read.specs.Reads.{read_step}
use Rattle.client_read.specs.Views.{ReadView}
use Rattle.client_write.specs.Truncates.{truncate_step}
use Rattle.client_write.specs.Writes.{write_step}
use Rattle.mirror_verify.specs.Verifies.{verify_step}
use Rattle.resync_copy.specs.Steps.{copy_step}
use Rattle.flr_steps.specs.declared.client.Client.{Client}
use Rattle.flr_steps.specs.declared.client.Running.{Running}
use Rattle.flr_steps.specs.declared.client.Running.TheVariants as running
use Rattle.flr_steps.specs.Clients.{call_now}
use Rattle.flr_steps.specs.Commands.{begun, begun_lfs, step_of}
use Rattle.flr_steps.specs.States.{State, client_at, place_in}
use Rattle.flr_steps.specs.Traces.{Trace, is_opening, read_opens, traced}
use Rattle.flr_claims.specs.Sending.{attempt_of}
use Rattle.flr_numbers.specs.Sentences.{IsCallOf}
use Rattle.flr_numbers.proofs.Clients.{is_now}
use Rattle.flr_numbers.proofs.Commands.{is_command}
use Rattle.flr_bytes.specs.Calls.{ReadSays, Says}
use Rattle.flr_bytes.specs.Laws.{StepsKeepBytes}
use Rattle.flr_bytes.specs.Runs.{Honest, IsStep}
use Rattle.flr_bytes.specs.Sentences.{byte_in}
use Rattle.flr_bytes.proofs.Clients.{under_way}
use Rattle.flr_honest.specs.Knowing.{OwnReadsSay}
use Rattle.flr_bytes.specs.Pieces.{Has, HavePieces}
use Rattle.flr_honest.proofs.Knowing.Pieces.{held_there}
use Rattle.flr_honest.proofs.Knowing.Reading.{IsGotSo, OnNext, SaysSo, read_says}
use Rattle.flr_honest.proofs.Knowing.Steps.{any_next, once_next, own_next, quiet_stays, widened}

-- ---- a call that begins

lfs_has : (c : ℕ) (of : LfsCommand) → Has (begun_lfs c of)
lfs_has c (lfs.Resync name only) = tt
lfs_has c (lfs.Extend name spec) = tt
lfs_has c (lfs.ExtendBy name victim) = tt
lfs_has c (lfs.Verify name) = tt
lfs_has c (lfs.SetStripe name spec) = tt
lfs_has c (lfs.GetStripe name) = tt
lfs_has c (lfs.CompSet name id change) = tt
lfs_has c (lfs.Create name spec) = tt
lfs_has c (lfs.Split name mirror to) = tt
lfs_has c (lfs.Delete name mirror) = tt

begun_has : (c most targets clients : ℕ) (asked : Command) → IsCommand most targets clients asked → Has (begun c asked)
begun_has c most targets clients (command.Read name offset len) h = (record { some = omega (arith, h.2.0); most = omega (arith, h.2.1); below = h.1 }, tt)
begun_has c most targets clients (command.Write name offset bytes) h = tt
begun_has c most targets clients (command.Truncate name size) h = tt
begun_has c most targets clients (command.Lfs of) h = lfs_has c of
begun_has c most targets clients (command.Evict other) h = tt
begun_has c most targets clients (command.Rot object offset byte) h = tt

-- what the call has that a step is of
pub now_has : (c most targets clients : ℕ) (asked : Command) (call : Running) → IsCommand most targets clients asked → Has call → Has (call_now c call asked)
now_has c most targets clients asked running.Idle h k = begun_has c most targets clients asked h
now_has c most targets clients asked (running.Read call) h k = k
now_has c most targets clients asked (running.Write call) h k = k
now_has c most targets clients asked (running.Truncate call) h k = k
now_has c most targets clients asked (running.Copy call) h k = k
now_has c most targets clients asked (running.Verify call) h k = k

-- ---- a step

module _ (s t : State) (old new : Trace) (c : ℕ) (is : IsStep s t old new c) where
  abbrev its_call : Running
  its_call = call_now c is.step.client.call is.step.asked

  pub good : IsCommand s.script.most s.script.targets (length s.script.clients) is.step.asked
  good = is_command s.script c is.step.client.done is.step.asked is.before.holds.script is.step.commanded

  -- it is its client's
  pub its_own : IsCallOf c its_call
  its_own =
      let h = is.before.holds in
      let le = h.script.form.few_mirrors in
      let few = h.script.form.few_clients in
      is_now c s.shared is.step.asked s.script.most s.script.targets (length s.script.clients) le few good is.step.client.call (h.clients c is.step.client is.step.here).call

  -- and has what it is to have
  pub its_has : HavePieces s → Has its_call
  its_has have = now_has c s.script.most s.script.targets (length s.script.clients) is.step.asked is.step.client.call good (have c is.step.client is.step.here)

  -- what the step of the call came to
  pub moved : (now : Running) → its_call ≡ now → step_of now c is.step.asked (place_in s) s.shared ≡ is.step.came
  moved now u = ap (λ (k : Running). step_of k c is.step.asked (place_in s) s.shared) (sym u) ∙ is.step.made

  -- a call of another kind than those of which this is said leaves none of them
  pub never_next : (Q : Running → Servers → Type 0) (now : Running) → its_call ≡ now → OnNext Q (step_of now c is.step.asked (place_in s) s.shared) → OnNext Q is.step.came
  never_next Q now u h = subst (OnNext Q) (moved now u) h

module _ (keep : StepsKeepBytes) (s t : State) (old new : Trace) (c : ℕ) (is : IsStep s t old new c) (e : new ≡ traced s t old c) (have : HavePieces s) (honest : Honest s old) where
  -- what a call that is under way knew
  module _ (r : ReadView) (u : call_now c is.step.client.call is.step.asked ≡ running.Read r) where
    was : is_opening (running.Read r) ≡ false → is.step.client.call ≡ running.Read r
    was past = under_way c is.step.asked is.step.client.call (running.Read r) u past

    knew : is_opening (running.Read r) ≡ false → ReadSays s.shared.meta (byte_in s old) r.range.start r.at
    knew past = subst (λ (x : Running). Says s.shared (byte_in s old) x) (was past) (honest.calls c is.step.client is.step.here)

    known : (a : ReadAt) → r.at ≡ a → ReadSays s.shared.meta (byte_in s old) r.range.start a
    known at.Open at_it = tt
    known (at.Lock x next) at_it = subst (ReadSays s.shared.meta (byte_in s old) r.range.start) at_it (knew (ap read_opens at_it))
    known (at.Take x next) at_it = subst (ReadSays s.shared.meta (byte_in s old) r.range.start) at_it (knew (ap read_opens at_it))
    known (at.Again x) at_it = tt
    known (at.Confirm x) at_it = subst (ReadSays s.shared.meta (byte_in s old) r.range.start) at_it (knew (ap read_opens at_it))
    known at.UnlockAgain at_it = tt
    known at.Unlock at_it = tt

    abbrev Then : Running → Servers → Type 0
    Then x after = (q : ReadView) → x ≡ running.Read q → SaysSo s.shared.meta after.meta (byte_in s old) q.range.start q.at

    -- by the bytes before the step
    read_then : OnNext Then is.step.came
    read_then =
        let has : Has (running.Read r) = subst Has u (its_has s t old new c is have) in
        let mine : r.client ≡ c = subst (IsCallOf c) u (its_own s t old new c is) in
        subst (OnNext Then) (moved s t old new c is (running.Read r) u)
        (widened (λ next after. SaysSo s.shared.meta after.meta (byte_in s old) next.range.start next.at) Then running.Read
        (λ x after says q same. (let one : x ≡ q = cc in subst (λ (y : ReadView). SaysSo s.shared.meta after.meta (byte_in s old) y.range.start y.at) one says))
        (read_step r (place_in s) s.shared) (read_says s old is.before honest.holds r has.0 c is.step.client is.step.here mine r.at refl was has.1 (known r.at refl)))

    -- and by those afterwards
    got_then : (start : ℕ) (x : Reading) → IsGotSo s.shared.meta t.shared.meta (byte_in s old) start x → ReadSays t.shared.meta (byte_in t new) start (at.Confirm x)
    got_then start x so h i less =
        let known = so h in
        let there = held_there t.shared.meta x.opened h in
        known.1 i less ∙ sym (quiet_stays keep s t old new c is e honest x.opened.file (start + i) known.0.0 there.file known.0.1 there.there (ap attempt_of u))

    pub says_then : (start : ℕ) (a : ReadAt) → SaysSo s.shared.meta t.shared.meta (byte_in s old) start a → ReadSays t.shared.meta (byte_in t new) start a
    says_then start at.Open so = tt
    says_then start (at.Lock x next) so = got_then start x so
    says_then start (at.Take x next) so = got_then start x so
    says_then start (at.Again x) so = tt
    says_then start (at.Confirm x) so = got_then start x so
    says_then start at.UnlockAgain so = tt
    says_then start at.Unlock so = tt

    pub read_knows : (client : Client) (q : ReadView) → client_at t.clients c ≡ Some client → client.call ≡ running.Read q → ReadSays t.shared.meta (byte_in t new) q.range.start q.at
    read_knows client q there reads = says_then q.range.start q.at (own_next Then (λ after p same. absurd (cc)) s t c is.step read_then client there q reads)

-- no call reads
abbrev Never : Running → Servers → Type 0
Never x after = (q : ReadView) → x ≡ running.Read q → ⊥

pub own_reads : StepsKeepBytes → OwnReadsSay
own_reads keep s t old new c is e honest client call there reads = by (call_now c is.step.client.call is.step.asked) refl
  where
    never : OnNext Never is.step.came → ReadSays t.shared.meta (byte_in t new) call.range.start call.at
    never h = absurd (own_next Never (λ after q same. cc) s t c is.step h client there call reads)

    by : (now : Running) → call_now c is.step.client.call is.step.asked ≡ now → ReadSays t.shared.meta (byte_in t new) call.range.start call.at
    by running.Idle u = never (never_next s t old new c is Never running.Idle u (once_next Never c (place_in s) s.shared is.step.asked))
    by (running.Read r) u = read_knows keep s t old new c is e is.before.pieces honest r u client call there reads
    by (running.Write w) u = never (never_next s t old new c is Never (running.Write w) u (any_next Never running.Write (λ x after q same. cc) (write_step w (place_in s) s.shared)))
    by (running.Truncate w) u = never (never_next s t old new c is Never (running.Truncate w) u (any_next Never running.Truncate (λ x after q same. cc) (truncate_step w (place_in s) s.shared)))
    by (running.Copy w) u = never (never_next s t old new c is Never (running.Copy w) u (any_next Never running.Copy (λ x after q same. cc) (copy_step w (place_in s) s.shared)))
    by (running.Verify w) u = never (never_next s t old new c is Never (running.Verify w) u (any_next Never running.Verify (λ x after q same. cc) (verify_step w (place_in s) s.shared)))
