-- What reads, writes, truncates and verifies have in hand, by what they do next, and what they know of themselves.
use Rattle.std.specs.Prelude.{◌≡◌, ℕ, true, false}
use Rattle.client_read.specs.declared.phase.ReadAt.{ReadAt}
use Rattle.client_read.specs.declared.phase.ReadAt.TheVariants as read
use Rattle.client_read.specs.Views.{ReadView}
use Rattle.client_write.specs.declared.phase.CutAt.{CutAt}
use Rattle.client_write.specs.declared.phase.CutAt.TheVariants as cut
use Rattle.client_write.specs.declared.phase.WriteAt.{WriteAt}
use Rattle.client_write.specs.declared.phase.WriteAt.TheVariants as write
use Rattle.client_write.specs.Calls.{TruncateView, WriteView}
use Rattle.client_write.specs.CutFitting.{IsSoundCutAt}
use Rattle.client_write.specs.Fitting.{IsAsked, IsSoundAt}
use Rattle.client_write.specs.Writes.{range_of}
use Rattle.mirror_verify.specs.declared.phase.VerifyAt.{VerifyAt}
use Rattle.mirror_verify.specs.declared.phase.VerifyAt.TheVariants as verify
use Rattle.mirror_verify.specs.Views.{VerifyView}
use Rattle.flr_numbers.specs.Hands.{Hand, holding, locked, nothing}

-- ---- reads

abbrev pub read_hand : ReadAt → Hand
read_hand read.Open = nothing
read_hand (read.Lock x next) = holding true x.opened
read_hand (read.Take x next) = holding true x.opened
read_hand (read.Again x) = holding true x.opened
read_hand (read.Confirm x) = holding true x.opened
read_hand read.UnlockAgain = locked
read_hand read.Unlock = locked

abbrev pub hand_of_read : ReadView → Hand
hand_of_read r = read_hand r.at

-- the read is this client's
abbrev pub IsReadOf : ℕ → ReadView → Type 0
IsReadOf client r = r.client ≡ client

-- ---- writes

abbrev pub write_hand : WriteAt → Hand
write_hand write.Open = nothing
write_hand (write.Lock x next) = holding true x.opened
write_hand (write.Send x next) = holding true x.opened
write_hand (write.Commit x end came) = holding true x.opened
write_hand write.UnlockAgain = locked
write_hand write.Unlock = locked

abbrev pub hand_of_write : WriteView → Hand
hand_of_write w = write_hand w.at

-- the write is this client's, it asks for what it may, and its phase is sound
abbrev pub IsWriteOf : ℕ → WriteView → Type 0
IsWriteOf client w = (w.client ≡ client) × IsAsked (range_of w) × IsSoundAt w.at (range_of w)

-- ---- truncates, which hold no extent lock before they hold all

abbrev pub cut_hand : CutAt → Hand
cut_hand cut.Open = nothing
cut_hand (cut.Lock x) = holding false x.opened
cut_hand (cut.Punch x next) = holding true x.opened
cut_hand (cut.Commit x came) = holding true x.opened
cut_hand cut.UnlockAgain = locked
cut_hand cut.Unlock = locked

abbrev pub hand_of_truncate : TruncateView → Hand
hand_of_truncate t = cut_hand t.at

-- the truncate is this client's, and its phase is sound
abbrev pub IsTruncateOf : ℕ → TruncateView → Type 0
IsTruncateOf client t = (t.client ≡ client) × IsSoundCutAt t.at t.size

-- ---- verifies, which hold no extent lock

abbrev pub verify_hand : VerifyAt → Hand
verify_hand verify.Open = nothing
verify_hand (verify.Take x next) = holding false x.opened
verify_hand (verify.Close x fault) = holding false x.opened

abbrev pub hand_of_verify : VerifyView → Hand
hand_of_verify v = verify_hand v.at

-- the verify is this client's
abbrev pub IsVerifyOf : ℕ → VerifyView → Type 0
IsVerifyOf client v = v.client ≡ client
