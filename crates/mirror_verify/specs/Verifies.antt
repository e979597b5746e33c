-- The steps of a verify: open, a take for each copy that isn't a hole, close.
use Rattle.std.specs.Prelude.{ℕ, ◌+◌, Bool, true, false, nat_lt, List, [], ◌∷◌, length, drop, Option, None, Some, if◌then◌else◌}
use Rattle.flr_base.specs.Bytes.{piece}
use Rattle.flr_base.specs.declared.reply.Diff.{Diff}
use Rattle.flr_base.specs.declared.reply.FailedCall.{FailedCall}
use Rattle.flr_base.specs.declared.reply.Reply.{Reply}
use Rattle.flr_base.specs.declared.reply.Reply.TheVariants.{NoFile, Same, Differ, VerifyFault}
use Rattle.mirror_select.specs.declared.types.Piece.{Piece}
use Rattle.object_target.specs.declared.call.CallAnswer.{CallAnswer}
use Rattle.object_target.specs.declared.call.CallAnswer.TheVariants as answer
use Rattle.object_target.specs.TargetState.{TargetState, bytes_at}
use Rattle.object_target.specs.Calls.{read_answer, after_read}
use Rattle.meta_server.specs.declared.answers.Opened.{Opened}
use Rattle.meta_server.specs.Files.{File, file_named, with_change, with_share}
use Rattle.meta_server.specs.Opening.{opened}
use Rattle.meta_server.specs.Closing.{frees, holds}
use Rattle.call_steps.specs.Pieces.{length_of, object_of}
use Rattle.call_steps.specs.Servers.{Servers, target_at, with_target, next_call_on}
use Rattle.call_steps.specs.Steps.{Outcome, Going, Answered}
use Rattle.mirror_verify.specs.declared.copies.BlockCopy.{BlockCopy}
use Rattle.mirror_verify.specs.declared.phase.Asked.{Asked}
use Rattle.mirror_verify.specs.declared.phase.VerifyAt.{VerifyAt}
use Rattle.mirror_verify.specs.declared.phase.VerifyAt.TheVariants as at
use Rattle.mirror_verify.specs.declared.phase.Verifying.{Verifying}
use Rattle.mirror_verify.specs.Blocks.{blocks_in, copies_of, copy_at, next_object}
use Rattle.mirror_verify.specs.Findings.{no_finding, with_copy, with_holes}
use Rattle.mirror_verify.specs.Views.{VerifyView}

-- a verify before its first step
abbrev pub new_verify : ℕ → List ℕ → VerifyView
new_verify client name = record { client = client; name = name; at = at.Open }

-- what is asked, as a verify with this to do next
abbrev pub verify_by : Asked → VerifyAt → VerifyView
verify_by a next = record { client = a.client; name = a.name; at = next }

-- the verify, with this to do next
abbrev pub verify_on : VerifyView → VerifyAt → VerifyView
verify_on v next = record v { at = next }

-- ---- open: the file has to be there

-- these copies of the opened file are to be compared; the holes that stand first are
abbrev pub verifying : Opened → List BlockCopy → Verifying
verifying o copies = record { opened = o; copies = copies; found = with_holes copies no_finding }

-- what comes next with the copies up to this one compared: the take of this one; behind the last close
abbrev pub takes_from : Verifying → ℕ → VerifyAt
takes_from x next = if nat_lt next (length x.copies) then at.Take x next else at.Close x None

-- the verify begins with these copies
abbrev pub begins_with : VerifyView → Opened → List BlockCopy → VerifyView
begins_with v o copies = verify_on v (takes_from (verifying o copies) (next_object copies 0))

abbrev pub opens_file : VerifyView → Servers → Option File → Outcome VerifyView
opens_file v s None = Answered (NoFile v.name) [] s
opens_file v s (Some f) = Going (begins_with v (opened v.client f) (copies_of f.layout.components f.size)) (record s { meta = with_change f.number (with_share v.client) s.meta })

-- ---- take: the copy's bytes from its object

-- the target that has the copy
abbrev pub target_of : Servers → Piece → TargetState
target_of s p = target_at s.targets (object_of p).target

-- the bytes that the object holds there
abbrev pub bytes_of : Servers → Piece → List ℕ
bytes_of s p = piece (bytes_at (target_of s p) (object_of p).number) p.offset (length_of p)

-- the servers once the copy is read
abbrev pub copy_read : Servers → Piece → Servers
copy_read s p = with_target s (object_of p).target (after_read (target_of s p) (object_of p).number p.offset (length_of p))

-- what the verify has once it has got the copy: its bytes are compared, and the holes behind it
abbrev pub with_answer : Servers → Verifying → ℕ → Verifying
with_answer s x next = record x {
  found = with_holes (drop (next + 1) x.copies) (with_copy (copy_at x.copies next) (bytes_of s (copy_at x.copies next).piece) x.found);
}

-- after a failed take the verify closes
abbrev pub takes_copy : VerifyView → Servers → Verifying → ℕ → Piece → CallAnswer → Outcome VerifyView
takes_copy v s x next p answer.Ok = Going (verify_on v (takes_from (with_answer s x next) (next_object x.copies (next + 1)))) (copy_read s p)
takes_copy v s x next p other = Going (verify_on v (at.Close x (Some (next_call_on s.targets (object_of p).target)))) (copy_read s p)

-- ---- close, the point: the differences, unless a take failed

-- the answer of a verify that compared these copies
abbrev pub compared : List BlockCopy → List Diff → Reply
compared copies [] = Same (blocks_in copies)
compared copies (diff ∷ diffs) = Differ (diff ∷ diffs)

abbrev pub reply_of : Verifying → Option FailedCall → Reply
reply_of x None = compared x.copies x.found.diffs
reply_of x (Some call) = VerifyFault call

-- a verify whose cookie was lost opens its file again
abbrev pub closes : VerifyView → Servers → Verifying → Option FailedCall → Bool → Outcome VerifyView
closes v s x fault false = Going (verify_on v at.Open) s
closes v s x fault true = Answered (reply_of x fault) [] (record s { meta = frees x.opened.file x.opened.cookie s.meta })

-- ---- each step

abbrev pub verify_at : VerifyAt → VerifyView → Servers → Outcome VerifyView
verify_at at.Open v s = opens_file v s (file_named v.name s.meta.files)
verify_at (at.Take x next) v s = takes_copy v s x next (copy_at x.copies next).piece (read_answer (target_of s (copy_at x.copies next).piece))
verify_at (at.Close x fault) v s = closes v s x fault (holds x.opened.file x.opened.cookie s.meta)

-- a step of a verify, at whatever place
abbrev pub verify_step : VerifyView → ℕ → Servers → Outcome VerifyView
verify_step v place s = verify_at v.at v s
