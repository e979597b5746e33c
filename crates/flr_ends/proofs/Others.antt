-- What the calls of other clients have left, once the metadata server has changed.
use Rattle.std.proofs.Common.{◌≡◌, ℕ, ◌+◌, ◌≤◌, Bool, true, false, true≢false, refl, sym, arith}
use Rattle.meta_server.specs.declared.answers.Opened.{Opened}
use Rattle.meta_server.specs.Files.{MetaView}
use Rattle.client_read.specs.declared.phase.ReadAt.{ReadAt}
use Rattle.client_read.specs.declared.phase.ReadAt.TheVariants as read
use Rattle.client_write.specs.declared.phase.CutAt.{CutAt}
use Rattle.client_write.specs.declared.phase.CutAt.TheVariants as cut
use Rattle.client_write.specs.declared.phase.WriteAt.{WriteAt}
use Rattle.client_write.specs.declared.phase.WriteAt.TheVariants as write
use Rattle.mirror_verify.specs.declared.phase.VerifyAt.{VerifyAt}
use Rattle.mirror_verify.specs.declared.phase.VerifyAt.TheVariants as verify
use Rattle.script_values.specs.Scripts.{ScriptView}
use Rattle.flr_steps.specs.declared.client.Running.{Running}
use Rattle.flr_steps.specs.declared.client.Running.TheVariants as running
use Rattle.flr_work.specs.Left.{OwnsCutting, OwnsReading, OwnsVerifying, OwnsWriting, again, cut_left, has_cookie, read_left, verify_left, write_left}
use Rattle.flr_ends.proofs.Calls.{OwnsCall, call_left}

-- a cookie that stays costs nothing
pub again_stays : (base : ℕ) (a b : Bool) → (a ≡ true → b ≡ true) → again base b ≤ again base a
again_stays base true true stays = omega arith
again_stays base true false stays = absurd (true≢false (sym (stays refl)))
again_stays base false true stays = omega arith
again_stays base false false stays = omega arith

-- whatever becomes of it costs one base at most
pub again_costs : (base : ℕ) (a b : Bool) → again base b ≤ again base a + base
again_costs base true true = omega arith
again_costs base true false = omega arith
again_costs base false true = omega arith
again_costs base false false = omega arith

module _ (script : ScriptView) (c base d : ℕ) (old new : MetaView) (stays : (o : Opened) → o.cookie.client ≡ c → again base (has_cookie o new) ≤ again base (has_cookie o old) + d) where
  read_stays : (at : ReadAt) → OwnsReading c at → read_left base at new ≤ read_left base at old + d
  read_stays read.Open own = omega arith
  read_stays (read.Lock x next) own = let k = stays x.opened own.0 in omega (arith, k)
  read_stays (read.Take x next) own = let k = stays x.opened own.0 in omega (arith, k)
  read_stays (read.Again x) own = let k = stays x.opened own in omega (arith, k)
  read_stays (read.Confirm x) own = let k = stays x.opened own in omega (arith, k)
  read_stays read.UnlockAgain own = omega arith
  read_stays read.Unlock own = omega arith

  write_stays : (at : WriteAt) → OwnsWriting c at → write_left base at new ≤ write_left base at old + d
  write_stays write.Open own = omega arith
  write_stays (write.Lock x next) own = let k = stays x.opened own in omega (arith, k)
  write_stays (write.Send x next) own = let k = stays x.opened own.0 in omega (arith, k)
  write_stays (write.Commit x end came) own = let k = stays x.opened own in omega (arith, k)
  write_stays write.UnlockAgain own = omega arith
  write_stays write.Unlock own = omega arith

  cut_stays : (at : CutAt) → OwnsCutting c at → cut_left base at new ≤ cut_left base at old + d
  cut_stays cut.Open own = omega arith
  cut_stays (cut.Lock x) own = let k = stays x.opened own in omega (arith, k)
  cut_stays (cut.Punch x next) own = let k = stays x.opened own.0 in omega (arith, k)
  cut_stays (cut.Commit x came) own = let k = stays x.opened own in omega (arith, k)
  cut_stays cut.UnlockAgain own = omega arith
  cut_stays cut.Unlock own = omega arith

  verify_stays : (at : VerifyAt) → OwnsVerifying c at → verify_left base at new ≤ verify_left base at old + d
  verify_stays verify.Open own = omega arith
  verify_stays (verify.Take x next) own = let k = stays x.opened own.0 in omega (arith, k)
  verify_stays (verify.Close x fault) own = let k = stays x.opened own in omega (arith, k)

  pub call_stays : (call : Running) → OwnsCall script c base call → call_left script base call new ≤ call_left script base call old + d
  call_stays running.Idle own = omega arith
  call_stays (running.Read call) own = read_stays call.at own.0.phase
  call_stays (running.Write call) own = write_stays call.at own.0.phase
  call_stays (running.Truncate call) own = cut_stays call.at own.0.phase
  call_stays (running.Copy call) own = omega arith
  call_stays (running.Verify call) own = verify_stays call.at own.0.phase
