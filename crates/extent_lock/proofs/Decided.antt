-- The tests of the code say what the facts say.
use Rattle.std.proofs.Common.{◌≡◌, ℕ, ◌<◌, min, max, true, not, ◌&&◌, ◌||◌, ◌==◌, ◌⊎◌, inl, inr, refl, ap, ◌∙◌, arith}
use Rattle.std.proofs.lemmas.Bool.{and_parts, or_cases, and_from, or_left, or_right, not-true, not_from_false, eqb-false, ne_eqb, lt-ltb, ltb-true}
use Rattle.std.proofs.lemmas.Bool.Decides.{nat_tests}
use Rattle.flr_base.specs.declared.reply.ObjectId.{ObjectId}
use Rattle.extent_lock.specs.declared.lock.Lock.{Lock}
use Rattle.extent_lock.specs.declared.lock.Mode.{Mode}
use Rattle.extent_lock.specs.declared.lock.Mode.TheVariants.{PR, PW}
use Rattle.extent_lock.specs.Conflicts.{Conflict, is_pw, same_object, overlaps, conflicts}
use Rattle.extent_lock.specs.Writers.{is_write_but, IsWriteBut}

is_pw_true : (mode : Mode) → is_pw mode ≡ true → mode ≡ PW
is_pw_true PR h = absurd (cc)
is_pw_true PW h = refl

same_object_true : (a b : ObjectId) → same_object a b ≡ true → a ≡ b
same_object_true a b h =
    let target : a.target ≡ b.target = grind (arith, nat_tests) in
    let number : a.number ≡ b.number = grind (arith, nat_tests) in
    let with_target : ℕ → ObjectId = λ t. record { target = t; number = a.number } in
    let with_number : ℕ → ObjectId = λ n. record { target = b.target; number = n } in
    ap with_target target ∙ ap with_number number

same_object_from : (a b : ObjectId) → a ≡ b → same_object a b ≡ true
same_object_from a b h =
    let target : a.target ≡ b.target = ap (λ (o : ObjectId). o.target) h in
    let number : a.number ≡ b.number = ap (λ (o : ObjectId). o.number) h in
    grind (arith, nat_tests)

exclusive_from_test : (a b : Mode) → is_pw a || is_pw b ≡ true → (a ≡ PW) ⊎ (b ≡ PW)
exclusive_from_test a b h =
    elim (or_cases (is_pw a) (is_pw b) h) [ inl e ↦ inl (is_pw_true a e) | inr e ↦ inr (is_pw_true b e) ]

test_from_exclusive : (a b : Mode) → (a ≡ PW) ⊎ (b ≡ PW) → is_pw a || is_pw b ≡ true
test_from_exclusive a b (inl e) = or_left (is_pw a) (is_pw b) (ap is_pw e)
test_from_exclusive a b (inr e) = or_right (is_pw a) (is_pw b) (ap is_pw e)

-- what the test finds is a conflict
pub Conflict-from_test : (a b : Lock) → conflicts a b ≡ true → Conflict a b
Conflict-from_test a b h =
    let object = and_parts (same_object a.object b.object) (not (a.holder == b.holder) && (overlaps a.range b.range && (is_pw a.mode || is_pw b.mode))) h in
    let clients = and_parts (not (a.holder == b.holder)) (overlaps a.range b.range && (is_pw a.mode || is_pw b.mode)) object.1 in
    let bytes = and_parts (overlaps a.range b.range) (is_pw a.mode || is_pw b.mode) clients.1 in
    let common : max a.range.start b.range.start < min a.range.end b.range.end = ltb-true _ _ bytes.0 in
    record {
      clients = eqb-false a.holder b.holder (not-true _ clients.0);
      on = same_object_true a.object b.object object.0;
      byte = max a.range.start b.range.start;
      ours = record { from = omega arith; below = omega arith };
      theirs = record { from = omega arith; below = omega arith };
      exclusive = exclusive_from_test a.mode b.mode bytes.1;
    }

-- and the other way round
pub test_from_Conflict : (a b : Lock) → Conflict a b → conflicts a b ≡ true
test_from_Conflict a b h =
    let common : max a.range.start b.range.start < min a.range.end b.range.end = omega (arith, h.ours.from, h.ours.below, h.theirs.from, h.theirs.below) in
    and_from _ _ (same_object_from a.object b.object h.on) (and_from _ _ (not_from_false _ (ne_eqb a.holder b.holder h.clients)) (and_from _ _ (lt-ltb _ _ common) (test_from_exclusive a.mode b.mode h.exclusive)))

-- what the test of writers finds, and the other way round
pub IsWriteBut-from_test : (asker : ℕ) (object : ObjectId) (lock : Lock) → is_write_but asker object lock ≡ true → IsWriteBut asker object lock
IsWriteBut-from_test asker object lock h =
    let mode = and_parts (is_pw lock.mode) (same_object lock.object object && not (lock.holder == asker)) h in
    let on = and_parts (same_object lock.object object) (not (lock.holder == asker)) mode.1 in
    record {
      mode = is_pw_true lock.mode mode.0;
      on = same_object_true lock.object object on.0;
      another = eqb-false lock.holder asker (not-true _ on.1);
    }

pub test_from_IsWriteBut : (asker : ℕ) (object : ObjectId) (lock : Lock) → IsWriteBut asker object lock → is_write_but asker object lock ≡ true
test_from_IsWriteBut asker object lock h =
    and_from _ _ (ap is_pw h.mode) (and_from _ _ (same_object_from lock.object object h.on) (not_from_false _ (ne_eqb lock.holder asker h.another)))
