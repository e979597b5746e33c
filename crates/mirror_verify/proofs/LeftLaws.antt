-- The number of steps that a verify has left.
use Rattle.std.proofs.Common.{◌≡◌, ℕ, suc, ◌+◌, ◌<◌, ◌≤◌, Bool, true, false, if◌then◌else◌, nat_lt, List, [], ◌∷◌, length, drop, Option, Some, None, refl, sym, ap, subst, ◌∙◌, arith, add-one}
use Rattle.std.specs.Prelude.{is_some, is_none}
use Rattle.std.proofs.Math.ListN.{drop_of_length-le}
use Rattle.std.proofs.Math.Seq.{drop-cons}
use Rattle.std.proofs.lemmas.Bool.Decides.{nat_tests}
use Rattle.std.proofs.lemmas.List.{drop-drop}
use Rattle.flr_base.specs.declared.reply.ObjectId.{ObjectId}
use Rattle.object_target.specs.declared.call.CallAnswer.{CallAnswer}
use Rattle.call_steps.specs.Steps.{Lowers}
use Rattle.mirror_verify.specs.declared.copies.BlockCopy.{BlockCopy}
use Rattle.mirror_verify.specs.declared.phase.VerifyAt.{VerifyAt}
use Rattle.mirror_verify.specs.declared.phase.VerifyAt.TheVariants as at
use Rattle.mirror_verify.specs.declared.phase.Verifying.{Verifying}
use Rattle.mirror_verify.specs.Blocks.{copies_of, copy_at, holes_first, is_hole, next_object}
use Rattle.mirror_verify.specs.Fitting.{IsSoundAt}
use Rattle.mirror_verify.specs.Left.{CloseIsLast, OpenLeaves, TakeLowers, left_at, takes_in, verify_left}
use Rattle.mirror_verify.specs.Verifies.{closes, takes_copy, takes_from, verify_at, verifying, with_answer}

-- behind the holes that stand first as many takes are left as before
takes_behind : (copies : List BlockCopy) → takes_in (drop (holes_first copies) copies) ≡ takes_in copies
takes_behind [] = refl
takes_behind (copy ∷ copies) = by (is_hole copy) refl (takes_behind copies)
  where
    by : (b : Bool) → is_hole copy ≡ b → takes_in (drop (holes_first copies) copies) ≡ takes_in copies → takes_in (drop (if b then holes_first copies + 1 else 0) (copy ∷ copies)) ≡ (if b then takes_in copies else takes_in copies + 1)
    by true e ih = ap (λ (k : ℕ). takes_in (drop k (copy ∷ copies))) (add-one (holes_first copies)) ∙ ih
    by false e ih = ap (λ (b : Bool). if b then takes_in copies else takes_in copies + 1) e

-- from a place on as many takes are left as from the next one on
skipped : (copies : List BlockCopy) (i : ℕ) → takes_in (drop (next_object copies i) copies) ≡ takes_in (drop i copies)
skipped copies i = ap takes_in (sym (drop-drop (holes_first (drop i copies)) i copies)) ∙ takes_behind (drop i copies)

-- none where there is no next one
none_left : (copies : List BlockCopy) (i : ℕ) → length copies ≤ next_object copies i → takes_in (drop i copies) ≡ 0
none_left copies i h = sym (skipped copies i) ∙ ap takes_in (drop_of_length-le copies h)

not_hole : (o : Option ObjectId) → is_some o ≡ true → is_none o ≡ false
not_hole (Some o) e = refl
not_hole None e = absurd (cc)

-- one fewer behind a copy that isn't a hole
one_less : (copies : List BlockCopy) (i : ℕ) → i < length copies → is_some (copy_at copies i).piece.object ≡ true → takes_in (drop i copies) ≡ takes_in (drop (i + 1) copies) + 1
one_less copies i h e =
    ap takes_in (drop-cons copies i _ h)
    ∙ ap (λ (b : Bool). if b then takes_in (drop (suc i) copies) else takes_in (drop (suc i) copies) + 1) (not_hole (copy_at copies i).piece.object e)
    ∙ ap (λ (k : ℕ). takes_in (drop k copies) + 1) (sym (add-one i))

-- what is left with the copies up to a place compared
after_takes : (x : Verifying) (i : ℕ) → left_at (takes_from x (next_object x.copies i)) ≡ takes_in (drop i x.copies) + 1
after_takes x i = by (nat_lt (next_object x.copies i) (length x.copies)) refl
  where
    by : (b : Bool) → nat_lt (next_object x.copies i) (length x.copies) ≡ b → left_at (if b then at.Take x (next_object x.copies i) else at.Close x None) ≡ takes_in (drop i x.copies) + 1
    by true e = ap (λ (n : ℕ). n + 1) (skipped x.copies i)
    by false e = let h : length x.copies ≤ next_object x.copies i = grind (arith, nat_tests) in ap (λ (n : ℕ). n + 1) (sym (none_left x.copies i h))

pub take_lowers : TakeLowers
take_lowers v s x next sound is well =
    subst (λ (a : VerifyAt). Lowers verify_left (left_at a) (verify_at a v s)) (sym is)
    (subst (λ (came : CallAnswer). Lowers verify_left (takes_in (drop next x.copies) + 1) (takes_copy v s x next (copy_at x.copies next).piece came)) (sym well)
    (omega (arith, after_takes (with_answer s x next) (next + 1), one_less x.copies next phase.1.there phase.1.object)))
  where
    phase : IsSoundAt (at.Take x next)
    phase = subst IsSoundAt is sound.phase

pub close_is_last : CloseIsLast
close_is_last v s x fault is held =
    (ap left_at is, (_, ap (λ (a : VerifyAt). verify_at a v s) is ∙ ap (closes v s x fault) held))

pub open_leaves : OpenLeaves
open_leaves v o = after_takes (verifying o (copies_of o.layout.components o.size)) 0
