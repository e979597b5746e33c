-- Calls whose answer is fixed.
use Rattle.std.specs.Prelude.{◌≡◌, Bool, true, false}
use Rattle.call_steps.specs.Steps.{Outcome, Going, Fixed, Ended, Answered, Blocked}
use Rattle.client_read.specs.declared.phase.ReadAt.{ReadAt}
use Rattle.client_read.specs.declared.phase.ReadAt.TheVariants as read
use Rattle.client_write.specs.declared.phase.CutAt.{CutAt}
use Rattle.client_write.specs.declared.phase.CutAt.TheVariants as cut
use Rattle.client_write.specs.declared.phase.WriteAt.{WriteAt}
use Rattle.client_write.specs.declared.phase.WriteAt.TheVariants as write
use Rattle.flr_steps.specs.declared.client.Running.{Running}
use Rattle.flr_steps.specs.declared.client.Running.TheVariants as running
use Rattle.flr_steps.specs.Traces.{is_idle}

-- ---- calls

-- a read, a write or a truncate is to give its extent locks back, and then ends
abbrev pub read_is_fixed : ReadAt → Bool
read_is_fixed read.Unlock = true
read_is_fixed other = false

abbrev pub write_is_fixed : WriteAt → Bool
write_is_fixed write.Unlock = true
write_is_fixed other = false

abbrev pub cut_is_fixed : CutAt → Bool
cut_is_fixed cut.Unlock = true
cut_is_fixed other = false

-- the answer of the call is fixed. Copies and verifies, and commands of one step, end with their answer
abbrev pub is_fixed : Running → Bool
is_fixed running.Idle = false
is_fixed (running.Read call) = read_is_fixed call.at
is_fixed (running.Write call) = write_is_fixed call.at
is_fixed (running.Truncate call) = cut_is_fixed call.at
is_fixed (running.Copy call) = false
is_fixed (running.Verify call) = false

-- ---- steps

-- what a step may come to of a call whose answer is open, or is fixed: an open answer stays open or is fixed here, and with a fixed one the call ends
abbrev pub FixesOnce : Bool → Outcome Running → Type 0
FixesOnce false (Going next after) = (is_idle next ≡ false) × (is_fixed next ≡ false)
FixesOnce false (Fixed next reply takes after) = (is_idle next ≡ false) × (is_fixed next ≡ true)
FixesOnce false (Ended after) = ⊥
FixesOnce false (Answered reply takes after) = Unit {0}
FixesOnce false (Blocked holder) = Unit {0}
FixesOnce true (Ended after) = Unit {0}
FixesOnce true other = ⊥

-- the step fixes an answer
abbrev pub FixesAnswer : Outcome Running → Type 0
FixesAnswer (Going next after) = ⊥
FixesAnswer (Fixed next reply takes after) = Unit {0}
FixesAnswer (Ended after) = ⊥
FixesAnswer (Answered reply takes after) = Unit {0}
FixesAnswer (Blocked holder) = ⊥
