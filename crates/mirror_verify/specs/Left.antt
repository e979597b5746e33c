-- How many steps a verify has left where no take fails and its cookie stays.
use Rattle.std.specs.Prelude.{◌≡◌, ℕ, ◌+◌, true, List, [], ◌∷◌, drop, Option, if◌then◌else◌}
use Rattle.flr_base.specs.declared.reply.FailedCall.{FailedCall}
use Rattle.object_target.specs.declared.call.CallAnswer.TheVariants as answer
use Rattle.object_target.specs.Calls.{read_answer}
use Rattle.meta_server.specs.declared.answers.Opened.{Opened}
use Rattle.meta_server.specs.Closing.{holds}
use Rattle.call_steps.specs.Servers.{Servers}
use Rattle.call_steps.specs.Steps.{Answered, Lowers}
use Rattle.mirror_verify.specs.declared.copies.BlockCopy.{BlockCopy}
use Rattle.mirror_verify.specs.declared.phase.VerifyAt.{VerifyAt}
use Rattle.mirror_verify.specs.declared.phase.VerifyAt.TheVariants as at
use Rattle.mirror_verify.specs.declared.phase.Verifying.{Verifying}
use Rattle.mirror_verify.specs.Blocks.{copies_of, copy_at, is_hole}
use Rattle.mirror_verify.specs.Fitting.{IsSoundVerify}
use Rattle.mirror_verify.specs.Verifies.{begins_with, reply_of, target_of, verify_at}
use Rattle.mirror_verify.specs.Views.{VerifyView}

-- how many copies aren't holes
abbrev pub takes_in : List BlockCopy → ℕ
takes_in [] = 0
takes_in (copy ∷ copies) = if is_hole copy then takes_in copies else takes_in copies + 1

-- a take for each copy that isn't a hole, and close; a verify that opens doesn't know
abbrev pub left_at : VerifyAt → ℕ
left_at at.Open = 0
left_at (at.Take x next) = takes_in (drop next x.copies) + 1
left_at (at.Close x fault) = 1

abbrev pub verify_left : VerifyView → ℕ
verify_left v = left_at v.at

-- a take that doesn't fail lowers the number by one
abbrev pub TakeLowers : Type 0
TakeLowers =
    (v : VerifyView) (s : Servers) (x : Verifying) (next : ℕ) → IsSoundVerify v → v.at ≡ at.Take x next →
    read_answer (target_of s (copy_at x.copies next).piece) ≡ answer.Ok → Lowers verify_left (verify_left v) (verify_at v.at v s)

-- at a close one is left, and where the cookie is held the close is the last step
abbrev pub CloseIsLast : Type 0
CloseIsLast =
    (v : VerifyView) (s : Servers) (x : Verifying) (fault : Option FailedCall) → v.at ≡ at.Close x fault →
    holds x.opened.file x.opened.cookie s.meta ≡ true →
    (verify_left v ≡ 1) × ((after : Servers) × (verify_at v.at v s ≡ Answered (reply_of x fault) [] after))

-- after open it is one for each copy that isn't a hole, and one
abbrev pub OpenLeaves : Type 0
OpenLeaves = (v : VerifyView) (o : Opened) → verify_left (begins_with v o (copies_of o.layout.components o.size)) ≡ takes_in (copies_of o.layout.components o.size) + 1
