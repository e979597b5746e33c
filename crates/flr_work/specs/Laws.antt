-- What is claimed of each step of a call: it lowers what the call has left by one at least, but where a call of a target is met that is listed to fail.
use Rattle.std.specs.Prelude.{ℕ, ◌+◌, ◌*◌, ◌≤◌, List}
use Rattle.object_target.specs.declared.fail.Fail.{Fail}
use Rattle.meta_growth.specs.Growth.{AreNumbered}
use Rattle.call_steps.specs.Servers.{Servers}
use Rattle.script_values.specs.Work.{blocks_of}
use Rattle.client_read.specs.Reads.{read_step}
use Rattle.client_read.specs.Views.{ReadView}
use Rattle.client_write.specs.Calls.{TruncateView, WriteView}
use Rattle.client_write.specs.Truncates.{truncate_step}
use Rattle.client_write.specs.Writes.{range_of, write_step}
use Rattle.mirror_verify.specs.Verifies.{verify_step}
use Rattle.mirror_verify.specs.Views.{VerifyView}
use Rattle.resync_copy.specs.Calls.{CopyView}
use Rattle.resync_copy.specs.Steps.{copy_step}
use Rattle.flr_work.specs.Known.{KnownCopy, KnownCut, KnownRead, KnownVerify, KnownWrite}
use Rattle.flr_work.specs.Left.{OwnsCopy, OwnsRead, OwnsTruncate, OwnsVerify, OwnsWrite, copy_left, cut_left, read_left, verify_left, write_left}
use Rattle.flr_work.specs.Paying.{AreListed, Fares}

-- a read, of two steps for each block and three more
abbrev pub ReadsPay : Type 0
ReadsPay =
    (c cost : ℕ) (fails : List Fail) (r : ReadView) (place : ℕ) (s : Servers) (base : ℕ) →
    OwnsRead c r → AreListed fails s.targets → AreNumbered s.meta → 2 * blocks_of r.range.start r.range.end + 3 ≤ base → base ≤ cost →
    Fares ReadView (OwnsRead c) (λ next after. KnownRead next next.at) (λ next m. read_left base next.at m) c cost fails s (read_left base r.at s.meta) (read_step r place s)

-- a write, of as many
abbrev pub WritesPay : Type 0
WritesPay =
    (c cost : ℕ) (fails : List Fail) (w : WriteView) (place : ℕ) (s : Servers) (base : ℕ) →
    OwnsWrite c w → KnownWrite s w w.at → AreNumbered s.meta → 2 * blocks_of (range_of w).start (range_of w).end + 3 ≤ base →
    Fares WriteView (OwnsWrite c) (λ next after. KnownWrite after next next.at) (λ next m. write_left base next.at m) c cost fails s (write_left base w.at s.meta) (write_step w place s)

-- a truncate, of a step for each stripe and four more
abbrev pub TruncatesPay : Type 0
TruncatesPay =
    (c cost : ℕ) (fails : List Fail) (t : TruncateView) (place : ℕ) (s : Servers) (base stripes : ℕ) →
    OwnsTruncate c t → KnownCut stripes s t.at → AreNumbered s.meta → 4 + stripes ≤ base →
    Fares TruncateView (OwnsTruncate c) (λ next after. KnownCut stripes after next.at) (λ next m. cut_left base next.at m) c cost fails s (cut_left base t.at s.meta) (truncate_step t place s)

-- a verify, of so many takes and two steps more
abbrev pub VerifiesPay : Type 0
VerifiesPay =
    (c cost : ℕ) (fails : List Fail) (v : VerifyView) (place : ℕ) (s : Servers) (base takes : ℕ) →
    OwnsVerify c v → AreNumbered s.meta → 2 + takes ≤ base →
    Fares VerifyView (OwnsVerify c) (λ next after. KnownVerify takes next.at) (λ next m. verify_left base next.at m) c cost fails s (verify_left base v.at s.meta) (verify_step v place s)

-- a resync or an extend, of a step for each stripe, so many takes and puts, and three steps more
abbrev pub CopiesPay : Type 0
CopiesPay =
    (c cost : ℕ) (fails : List Fail) (v : CopyView) (place : ℕ) (s : Servers) (base stripes room : ℕ) →
    OwnsCopy c v → KnownCopy stripes room s v.at → AreListed fails s.targets → 1 ≤ cost → (3 + stripes) + room ≤ base →
    Fares CopyView (OwnsCopy c) (λ next after. KnownCopy stripes room after next.at) (λ next m. copy_left base room next.at) c cost fails s (copy_left base room v.at) (copy_step v place s)
