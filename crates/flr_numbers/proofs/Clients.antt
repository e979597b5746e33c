-- The step of a client.
use Rattle.std.proofs.Common.{◌≡◌, ℕ, ◌≤◌, refl, sym, subst, arith}
use Rattle.layout_lease.specs.Clients.{IsClient}
use Rattle.lfs_words.specs.declared.command.LfsCommand.{LfsCommand}
use Rattle.lfs_words.specs.declared.command.LfsCommand.TheVariants as lfs
use Rattle.lfs_words.specs.Facts.{IsSound}
use Rattle.script_values.specs.declared.command.Command.{Command}
use Rattle.script_values.specs.declared.command.Command.TheVariants as command
use Rattle.script_values.specs.Commands.{IsCommand}
use Rattle.call_steps.specs.Servers.{Servers}
use Rattle.call_steps.specs.Steps.{Outcome, Going, Fixed, Ended, Answered, Blocked, widen}
use Rattle.client_read.specs.Reads.{read_step}
use Rattle.client_write.specs.Truncates.{truncate_step}
use Rattle.client_write.specs.Writes.{write_step}
use Rattle.mirror_verify.specs.Verifies.{verify_step}
use Rattle.resync_copy.specs.Steps.{copy_step}
use Rattle.client_read.specs.Views.{ReadView}
use Rattle.client_write.specs.Calls.{TruncateView, WriteView}
use Rattle.mirror_verify.specs.Views.{VerifyView}
use Rattle.resync_copy.specs.Calls.{CopyView}
use Rattle.flr_numbers.specs.Calls.{IsReadOf, IsTruncateOf, IsVerifyOf, IsWriteOf, hand_of_read, hand_of_truncate, hand_of_verify, hand_of_write}
use Rattle.flr_numbers.specs.Hands.{AreServers, Fine, Good, Hand, Has, HasRoom, nothing}
use Rattle.flr_numbers.proofs.ReadSteps.{read_fine}
use Rattle.flr_numbers.proofs.CutSteps.{truncate_fine}
use Rattle.flr_numbers.proofs.VerifySteps.{verify_fine}
use Rattle.flr_numbers.proofs.WriteSteps.{write_fine}
use Rattle.flr_numbers.specs.Copies.{IsCopyOfClient, hand_of_copy}
use Rattle.flr_numbers.proofs.CopySteps.{copy_fine}
use Rattle.flr_steps.specs.Conditions.{IsAskable}
use Rattle.flr_steps.specs.declared.client.Running.{Running}
use Rattle.flr_steps.specs.declared.client.Running.TheVariants as running
use Rattle.flr_steps.specs.Clients.{call_now}
use Rattle.flr_steps.specs.Commands.{begun, begun_lfs, step_of}
use Rattle.flr_numbers.specs.Sentences.{IsCallOf, hand_of}
use Rattle.flr_numbers.proofs.Alone.{at_once_fine}
use Rattle.flr_numbers.proofs.Commands.{askable, lfs_sound}

-- a call of one kind as a call
wider : {C : Type 0} (f : C → Running) (c : ℕ) (hand : C → Hand) (Sound : C → Type 0) (s : Servers) → ((x : C) → hand_of (f x) ≡ hand x) → ((x : C) → Sound x → IsCallOf c (f x)) → (o : Outcome C) → Fine c hand Sound s o → Fine c hand_of (IsCallOf c) s (widen f o)
wider f c hand Sound s same sound (Going next after) fine = (subst (λ (h : Hand). Good c s h after) (sym (same next)) fine.0, sound next fine.1)
wider f c hand Sound s same sound (Fixed next reply takes after) fine = (subst (λ (h : Hand). Good c s h after) (sym (same next)) fine.0, sound next fine.1)
wider f c hand Sound s same sound (Ended after) fine = fine
wider f c hand Sound s same sound (Answered reply takes after) fine = fine
wider f c hand Sound s same sound (Blocked holder) fine = tt

-- ---- a call that begins

begun_lfs_of : (c most : ℕ) (of : LfsCommand) → IsSound most of → IsAskable (command.Lfs of) → IsCallOf c (begun_lfs c of)
begun_lfs_of c most (lfs.Resync name only) sound may = (refl, may, tt, tt)
begun_lfs_of c most (lfs.Extend name spec) sound may = (refl, tt, sound.1.0, tt)
begun_lfs_of c most (lfs.ExtendBy name victim) sound may = (refl, may, tt, tt)
begun_lfs_of c most (lfs.Verify name) sound may = refl
begun_lfs_of c most (lfs.SetStripe name spec) sound may = tt
begun_lfs_of c most (lfs.GetStripe name) sound may = tt
begun_lfs_of c most (lfs.CompSet name id change) sound may = tt
begun_lfs_of c most (lfs.Create name spec) sound may = tt
begun_lfs_of c most (lfs.Split name mirror to) sound may = tt
begun_lfs_of c most (lfs.Delete name mirror) sound may = tt

begun_of : (c most targets clients : ℕ) (asked : Command) → most ≤ 32 → clients ≤ 16 → IsCommand most targets clients asked → IsCallOf c (begun c asked)
begun_of c most targets clients (command.Read name offset len) le few h = refl
begun_of c most targets clients (command.Write name offset bytes) le few h = (refl, record { some = omega (arith, h.2.0); most = omega (arith, h.2.1); below = h.1 }, tt)
begun_of c most targets clients (command.Truncate name size) le few h = (refl, tt)
begun_of c most targets clients (command.Lfs of) le few h = begun_lfs_of c most of (lfs_sound most of le h) (askable most targets clients (command.Lfs of) le few h)
begun_of c most targets clients (command.Evict other) le few h = tt
begun_of c most targets clients (command.Rot object offset byte) le few h = tt

lfs_nothing : (c : ℕ) (of : LfsCommand) → hand_of (begun_lfs c of) ≡ nothing
lfs_nothing c (lfs.Resync name only) = refl
lfs_nothing c (lfs.Extend name spec) = refl
lfs_nothing c (lfs.ExtendBy name victim) = refl
lfs_nothing c (lfs.Verify name) = refl
lfs_nothing c (lfs.SetStripe name spec) = refl
lfs_nothing c (lfs.GetStripe name) = refl
lfs_nothing c (lfs.CompSet name id change) = refl
lfs_nothing c (lfs.Create name spec) = refl
lfs_nothing c (lfs.Split name mirror to) = refl
lfs_nothing c (lfs.Delete name mirror) = refl

begun_nothing : (c : ℕ) (asked : Command) → hand_of (begun c asked) ≡ nothing
begun_nothing c (command.Read name offset len) = refl
begun_nothing c (command.Write name offset bytes) = refl
begun_nothing c (command.Truncate name size) = refl
begun_nothing c (command.Lfs of) = lfs_nothing c of
begun_nothing c (command.Evict other) = refl
begun_nothing c (command.Rot object offset byte) = refl

-- ---- the call that the client's step is of

module _ (c : ℕ) (s : Servers) (asked : Command) (most targets clients : ℕ) (le : most ≤ 32) (few : clients ≤ 16) (good : IsCommand most targets clients asked) where
  -- it has in hand what the client's call has, and is the client's own
  pub has_now : (call : Running) → Has c s.meta s.locks (hand_of call) → Has c s.meta s.locks (hand_of (call_now c call asked))
  has_now running.Idle has = subst (λ (h : Hand). Has c s.meta s.locks h) (sym (begun_nothing c asked)) has
  has_now (running.Read call) has = has
  has_now (running.Write call) has = has
  has_now (running.Truncate call) has = has
  has_now (running.Copy call) has = has
  has_now (running.Verify call) has = has

  pub is_now : (call : Running) → IsCallOf c call → IsCallOf c (call_now c call asked)
  is_now running.Idle is = begun_of c most targets clients asked le few good
  is_now (running.Read call) is = is
  is_now (running.Write call) is = is
  is_now (running.Truncate call) is = is
  is_now (running.Copy call) is = is
  is_now (running.Verify call) is = is

  module _ (is : IsClient c) (room : HasRoom s.meta) (h : AreServers s.meta s.targets) (place : ℕ) where
    -- its step is fine
    read_of : (r : ReadView) → r.client ≡ c → Has c s.meta s.locks (hand_of_read r) → Fine c hand_of_read (IsReadOf c) s (read_step r place s)
    read_of r own has =
        subst (λ n. Fine n hand_of_read (IsReadOf n) s (read_step r place s)) own
        (read_fine r s (subst IsClient (sym own) is) room h r.at (subst (λ n. Has n s.meta s.locks (hand_of_read r)) (sym own) has))

    write_of : (w : WriteView) → IsWriteOf c w → Has c s.meta s.locks (hand_of_write w) → Fine c hand_of_write (IsWriteOf c) s (write_step w place s)
    write_of w of has =
        subst (λ n. Fine n hand_of_write (IsWriteOf n) s (write_step w place s)) of.0
        (write_fine w s (subst IsClient (sym of.0) is) room h of.1 w.at place (subst (λ n. Has n s.meta s.locks (hand_of_write w)) (sym of.0) has) of.2)

    truncate_of : (t : TruncateView) → IsTruncateOf c t → Has c s.meta s.locks (hand_of_truncate t) → Fine c hand_of_truncate (IsTruncateOf c) s (truncate_step t place s)
    truncate_of t of has =
        subst (λ n. Fine n hand_of_truncate (IsTruncateOf n) s (truncate_step t place s)) of.0
        (truncate_fine t s (subst IsClient (sym of.0) is) room h t.at place (subst (λ n. Has n s.meta s.locks (hand_of_truncate t)) (sym of.0) has) of.1)

    verify_of : (v : VerifyView) → v.client ≡ c → Has c s.meta s.locks (hand_of_verify v) → Fine c hand_of_verify (IsVerifyOf c) s (verify_step v place s)
    verify_of v own has =
        subst (λ n. Fine n hand_of_verify (IsVerifyOf n) s (verify_step v place s)) own
        (verify_fine v s (subst IsClient (sym own) is) room h v.at (subst (λ n. Has n s.meta s.locks (hand_of_verify v)) (sym own) has))

    copy_of : (k : CopyView) → IsCopyOfClient c k → Has c s.meta s.locks (hand_of_copy k) → Fine c hand_of_copy (IsCopyOfClient c) s (copy_step k place s)
    copy_of k of has =
        subst (λ n. Fine n hand_of_copy (IsCopyOfClient n) s (copy_step k place s)) of.0
        (copy_fine k s (subst IsClient (sym of.0) is) room h of.1 of.2 k.at (subst (λ n. Has n s.meta s.locks (hand_of_copy k)) (sym of.0) has) of.3)

    pub step_fine : (call : Running) → Has c s.meta s.locks (hand_of call) → IsCallOf c call → Fine c hand_of (IsCallOf c) s (step_of call c asked place s)
    step_fine running.Idle has of = at_once_fine c s is room h has most targets clients asked place le few good
    step_fine (running.Read call) has of = wider running.Read c hand_of_read (IsReadOf c) s (λ x. refl) (λ x k. k) (read_step call place s) (read_of call of has)
    step_fine (running.Write call) has of = wider running.Write c hand_of_write (IsWriteOf c) s (λ x. refl) (λ x k. k) (write_step call place s) (write_of call of has)
    step_fine (running.Truncate call) has of = wider running.Truncate c hand_of_truncate (IsTruncateOf c) s (λ x. refl) (λ x k. k) (truncate_step call place s) (truncate_of call of has)
    step_fine (running.Copy call) has of = wider running.Copy c hand_of_copy (IsCopyOfClient c) s (λ x. refl) (λ x k. k) (copy_step call place s) (copy_of call of has)
    step_fine (running.Verify call) has of = wider running.Verify c hand_of_verify (IsVerifyOf c) s (λ x. refl) (λ x k. k) (verify_step call place s) (verify_of call of has)
