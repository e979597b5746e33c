-- What the steps of a verify pay.
use Rattle.std.proofs.Common.{◌≡◌, ℕ, ◌+◌, ◌-◌, ◌≤◌, ◌<◌, Bool, true, false, cond, nat_lt, Option, Some, None, List, length, refl, sym, ap, ◌∙◌, arith}
use Rattle.std.proofs.lemmas.Bool.Decides.{nat_tests}
use Rattle.flr_base.specs.declared.reply.FailedCall.{FailedCall}
use Rattle.mirror_select.specs.declared.types.Piece.{Piece}
use Rattle.object_target.specs.declared.call.CallAnswer.{CallAnswer}
use Rattle.object_target.specs.declared.call.CallAnswer.TheVariants as answer
use Rattle.object_target.specs.declared.fail.Fail.{Fail}
use Rattle.object_target.specs.Calls.{after_read, next_fail, read_answer}
use Rattle.meta_server.specs.Closing.{frees, holds}
use Rattle.meta_server.specs.Files.{File, MetaView, file_named, file_of, same_name, with_change, with_share}
use Rattle.meta_server.specs.Opening.{opened, read_opens_file}
use Rattle.meta_laws.specs.Calls.{Free, OpenRead, left_by}
use Rattle.meta_laws.proofs.Finding.{found_numbered}
use Rattle.meta_growth.specs.Growth.{AreNumbered}
use Rattle.call_steps.specs.Pieces.{length_of, object_of}
use Rattle.call_steps.specs.Servers.{Servers}
use Rattle.mirror_verify.specs.declared.copies.BlockCopy.{BlockCopy}
use Rattle.mirror_verify.specs.declared.phase.VerifyAt.{VerifyAt}
use Rattle.mirror_verify.specs.declared.phase.VerifyAt.TheVariants as at
use Rattle.mirror_verify.specs.declared.phase.Verifying.{Verifying}
use Rattle.mirror_verify.specs.Blocks.{copies_of, copy_at, next_object}
use Rattle.mirror_verify.specs.Verifies.{closes, copy_read, opens_file, takes_copy, takes_from, target_of, verify_at, verify_step, verifying, with_answer}
use Rattle.mirror_verify.specs.Views.{VerifyView}
use Rattle.flr_work.specs.Known.{KnownVerify}
use Rattle.flr_work.specs.Left.{OwnsVerify, OwnsVerifying, again, has_cookie, verify_left}
use Rattle.flr_work.specs.Paying.{Fares, Leaves, dues}
use Rattle.flr_work.proofs.Costs.{called_due, leaves_by, never_old}
use Rattle.flr_work.proofs.Held.{given_held_now}
use Rattle.flr_work.proofs.ReadSteps.{lost_cost, same_cost}

module _ (c cost : ℕ) (fails : List Fail) (v : VerifyView) (s : Servers) (base takes : ℕ) (client : v.client ≡ c) (numbered : AreNumbered s.meta) (low : 2 + takes ≤ base) where
  abbrev Known : VerifyView → Servers → Type 0
  Known next after = KnownVerify takes next.at

  abbrev Left : VerifyView → MetaView → ℕ
  Left next m = verify_left base next.at m

  stay : Leaves c s.meta s.meta
  stay number cookie other h = h

  takes_own : (x : Verifying) (next : ℕ) → x.opened.cookie.client ≡ c → OwnsVerifying c (takes_from x next)
  takes_own x next own = by (nat_lt next (length x.copies)) refl
    where
      by : (b : Bool) → nat_lt next (length x.copies) ≡ b → OwnsVerifying c (cond b (at.Take x next) (at.Close x None))
      by true e = (own, grind (arith, nat_tests))
      by false e = own

  opens : (o : Option File) → file_named v.name s.meta.files ≡ o → Fares VerifyView (OwnsVerify c) Known Left c cost fails s base (opens_file v s o)
  opens None e = record { leaves = stay; pays = omega (arith, low) }
  opens (Some f) e =
      let m : MetaView = with_change f.number (with_share v.client) s.meta in
      let there : file_of f.number s.meta.files ≡ Some f = found_numbered (λ (x : File). same_name v.name x.name) s.meta.files f numbered.ascending e in
      let held : has_cookie (opened v.client f) m ≡ true = given_held_now v.client f s.meta.files there in
      let free = same_cost base (has_cookie (opened v.client f) m) held in
      let copies : List BlockCopy = copies_of f.layout.components f.size in
      let x : Verifying = verifying (opened v.client f) copies in
      let first : ℕ = next_object copies 0 in
      let paid : (b : Bool) → KnownVerify takes (cond b (at.Take x first) (at.Close x None)) → (verify_left base (cond b (at.Take x first) (at.Close x None)) m + 1) + dues cost fails s.targets ≤ base + dues cost fails s.targets = λ b. elim b as (λ b. KnownVerify takes (cond b (at.Take x first) (at.Close x None)) → (verify_left base (cond b (at.Take x first) (at.Close x None)) m + 1) + dues cost fails s.targets ≤ base + dues cost fails s.targets) [
        | true ↦ λ known. omega (arith, known, free, low)
        | false ↦ λ known. omega (arith, free, low)
      ] in
      record {
        leaves = leaves_by c (OpenRead v.client v.name) s.meta m (sym (ap (λ (o : Option File). left_by (read_opens_file v.client v.name s.meta o) s.meta) e)) (λ number cookie other. tt);
        own = record { client = client; phase = takes_own x first client };
        pays = λ known. paid (nat_lt first (length copies)) known;
      }

  takes_one : (x : Verifying) (next : ℕ) (p : Piece) (a : CallAnswer) → read_answer (target_of s p) ≡ a → x.opened.cookie.client ≡ c → next < length x.copies
      → Fares VerifyView (OwnsVerify c) Known Left c cost fails s (((length x.copies - next) + 1) + again base (has_cookie x.opened s.meta)) (takes_copy v s x next p a)
  takes_one x next p a e own lt = by a e
    where
      due : dues cost fails (copy_read s p).targets ≤ dues cost fails s.targets
      due = called_due cost fails s (object_of p).target (after_read (target_of s p) (object_of p).number p.offset (length_of p)) _ refl

      got : Verifying
      got = with_answer s x next

      then : ℕ
      then = next_object x.copies (next + 1)

      paid : (b : Bool) → nat_lt then (length got.copies) ≡ b → verify_left base (cond b (at.Take got then) (at.Close got None)) s.meta + 1 ≤ ((length x.copies - next) + 1) + again base (has_cookie x.opened s.meta)
      paid true k = omega (arith, lt)
      paid false k = omega (arith, lt)

      by : (a : CallAnswer) → read_answer (target_of s p) ≡ a → Fares VerifyView (OwnsVerify c) Known Left c cost fails s (((length x.copies - next) + 1) + again base (has_cookie x.opened s.meta)) (takes_copy v s x next p a)
      by answer.Ok e = record {
        leaves = stay;
        own = record { client = client; phase = takes_own got then own };
        pays = λ known. (let most = paid (nat_lt then (length got.copies)) refl in omega (arith, most, due));
      }
      by (answer.Old kept) e = absurd (never_old (next_fail (target_of s p)) kept e)
      by answer.Failed e = record { leaves = stay; own = record { client = client; phase = own }; pays = λ known. omega (arith, due, lt) }

  ends : (x : Verifying) (fault : Option FailedCall) (b : Bool) → has_cookie x.opened s.meta ≡ b → x.opened.cookie.client ≡ c
      → Fares VerifyView (OwnsVerify c) Known Left c cost fails s (1 + again base (has_cookie x.opened s.meta)) (closes v s x fault b)
  ends x fault false e own = record {
    leaves = stay;
    own = record { client = client; phase = tt };
    pays = λ known. (let all = lost_cost base (has_cookie x.opened s.meta) e in omega (arith, all));
  }
  ends x fault true e own = record {
    leaves = leaves_by c (Free x.opened.file x.opened.cookie) s.meta (frees x.opened.file x.opened.cookie s.meta) refl (λ number cookie other k. other (k ∙ own));
    pays = omega arith;
  }

  by_phase : (at : VerifyAt) → OwnsVerifying c at → Fares VerifyView (OwnsVerify c) Known Left c cost fails s (verify_left base at s.meta) (verify_at at v s)
  by_phase at.Open own = opens (file_named v.name s.meta.files) refl
  by_phase (at.Take x next) own = takes_one x next (copy_at x.copies next).piece (read_answer (target_of s (copy_at x.copies next).piece)) refl own.0 own.1
  by_phase (at.Close x fault) own = ends x fault (holds x.opened.file x.opened.cookie s.meta) refl own

-- each step of a verify
pub verify_fares : (c cost : ℕ) (fails : List Fail) (v : VerifyView) (place : ℕ) (s : Servers) (base takes : ℕ) → OwnsVerify c v → AreNumbered s.meta → 2 + takes ≤ base
    → Fares VerifyView (OwnsVerify c) (λ next after. KnownVerify takes next.at) (λ next m. verify_left base next.at m) c cost fails s (verify_left base v.at s.meta) (verify_step v place s)
verify_fares c cost fails v place s base takes own numbered low = by_phase c cost fails v s base takes own.client numbered low v.at own.phase
