-- How many copies a verify takes, after each of its steps.
use Rattle.std.proofs.Common.{◌≡◌, ℕ, ◌+◌, ◌*◌, ◌≤◌, Bool, true, false, cond, nat_lt, Option, Some, None, refl, arith, length, mul-le-mul_left}
use Rattle.flr_base.specs.declared.reply.FailedCall.{FailedCall}
use Rattle.mirror_select.specs.declared.types.Piece.{Piece}
use Rattle.object_target.specs.declared.call.CallAnswer.{CallAnswer}
use Rattle.object_target.specs.declared.call.CallAnswer.TheVariants as answer
use Rattle.object_target.specs.Calls.{read_answer}
use Rattle.script_values.specs.Work.{blocks_of}
use Rattle.meta_server.specs.Closing.{holds}
use Rattle.meta_server.specs.Files.{File, file_named, same_name}
use Rattle.meta_server.specs.Opening.{opened}
use Rattle.meta_server.specs.Sound.{IsSound}
use Rattle.meta_laws.proofs.Finding.{found_keeps}
use Rattle.meta_laws.proofs.Whole.{sound_there}
use Rattle.call_steps.specs.Servers.{Servers}
use Rattle.mirror_verify.specs.declared.phase.VerifyAt.{VerifyAt}
use Rattle.mirror_verify.specs.declared.phase.VerifyAt.TheVariants as at
use Rattle.mirror_verify.specs.declared.phase.Verifying.{Verifying}
use Rattle.mirror_verify.specs.Blocks.{block_count, copies_of, copy_at, next_object}
use Rattle.mirror_verify.specs.Verifies.{closes, opens_file, takes_copy, takes_from, target_of, verify_at, verifying, with_answer}
use Rattle.mirror_verify.specs.Views.{VerifyView}
use Rattle.flr_pieces.proofs.Leading.{Leads}
use Rattle.flr_sizes.specs.Laws.{AreShort}
use Rattle.flr_work.specs.Known.{KnownVerify}
use Rattle.flr_mirrors.proofs.Copies.{copies_few}
use Rattle.flr_mirrors.proofs.Files.{HasFew}
use Rattle.flr_mirrors.proofs.Layouts.{mirrors_in}

-- a verify takes no more copies than that
abbrev pub TakesFew : ℕ → VerifyView → Type 0
TakesFew room v = KnownVerify room v.at

next_few : (room : ℕ) (x : Verifying) (next : ℕ) → length x.copies ≤ room → KnownVerify room (takes_from x next)
next_few room x next h = by (nat_lt next (length x.copies))
  where
    by : (b : Bool) → KnownVerify room (cond b (at.Take x next) (at.Close x None))
    by true = h
    by false = tt

module _ (most end : ℕ) (v : VerifyView) (s : Servers) (sound : IsSound s.meta) (few : HasFew most s.meta) (short : AreShort end s.meta.files) where
  abbrev room : ℕ
  room = most * blocks_of 0 end

  -- a file that is there has few copies
  file_few : (f : File) → file_named v.name s.meta.files ≡ Some f → length (copies_of f.layout.components f.size) ≤ room
  file_few f e =
      let mirrors : mirrors_in f.layout.components ≤ most = found_keeps (λ (x : File). same_name v.name x.name) (λ (x : File). mirrors_in x.layout.components ≤ most) s.meta.files f e few.files in
      let size : f.size ≤ end = found_keeps (λ (x : File). same_name v.name x.name) (λ (x : File). x.size ≤ end) s.meta.files f e short in
      let all = copies_few most f.layout f.size (sound_there (λ (x : File). same_name v.name x.name) s.meta f sound e).layout mirrors in
      let blocks : block_count f.size ≤ blocks_of 0 end = omega (arith, size) in
      let fewer : most * block_count f.size ≤ most * blocks_of 0 end = mul-le-mul_left most blocks in
      omega (arith, all, fewer)

  open_few : (o : Option File) → file_named v.name s.meta.files ≡ o → Leads (TakesFew room) (opens_file v s o)
  open_few None e = tt
  open_few (Some f) e = next_few room (verifying (opened v.client f) (copies_of f.layout.components f.size)) (next_object (copies_of f.layout.components f.size) 0) (file_few f e)

  take_few : (x : Verifying) (next : ℕ) (p : Piece) (a : CallAnswer) → length x.copies ≤ room → Leads (TakesFew room) (takes_copy v s x next p a)
  take_few x next p answer.Ok h = next_few room (with_answer s x next) (next_object x.copies (next + 1)) h
  take_few x next p (answer.Old kept) h = tt
  take_few x next p answer.Failed h = tt

  close_few : (x : Verifying) (fault : Option FailedCall) (b : Bool) → Leads (TakesFew room) (closes v s x fault b)
  close_few x fault false = tt
  close_few x fault true = tt

  -- each step of a verify
  pub verify_few : (a : VerifyAt) → KnownVerify room a → Leads (TakesFew room) (verify_at a v s)
  verify_few at.Open h = open_few (file_named v.name s.meta.files) refl
  verify_few (at.Take x next) h = take_few x next (copy_at x.copies next).piece (read_answer (target_of s (copy_at x.copies next).piece)) h
  verify_few (at.Close x fault) h = close_few x fault (holds x.opened.file x.opened.cookie s.meta)
