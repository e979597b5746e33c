-- A run of a verify keeps what it has got.
use Rattle.std.proofs.Common.{◌≡◌, ℕ, zero, suc, ◌+◌, ◌-◌, ◌<◌, ◌≤◌, Bool, true, false, nat_lt, if◌then◌else◌, List, [], ◌∷◌, ◌++◌, length, take, Option, Some, None, refl, sym, ap, subst, ◌∙◌, inl, inr, arith, append_assoc, length-append, cond}
use Rattle.std.specs.Prelude.{All, slice_get, slice_set, unwrap_or, is_some, is_none, nat_eq, not, max, find, slice_index, ◌⊎◌}
use Rattle.std.specs.List.{range_with_len}
use Rattle.std.proofs.Math.Seq.{get_or-append_seam}
use Rattle.std.proofs.lemmas.Bool.{cases_lt}
use Rattle.std.proofs.lemmas.Bool.Decides.{nat_tests}
use Rattle.std.proofs.lemmas.List.{append-nil, get_or_past, take_all}
use Rattle.std.proofs.lemmas.List.Elements.{Contains-append_right}
use Rattle.flr_base.specs.declared.reply.ObjectId.{ObjectId}
use Rattle.mirror_select.specs.declared.types.Piece.{Piece}
use Rattle.object_target.specs.declared.call.CallAnswer.{CallAnswer}
use Rattle.object_target.specs.declared.call.CallAnswer.TheVariants as answer
use Rattle.object_target.specs.declared.call.CallEntry.{CallEntry}
use Rattle.object_target.specs.declared.call.CallKind.TheVariants as kind
use Rattle.object_target.specs.Calls.{after_read, read_answer}
use Rattle.object_target.specs.TargetState.{TargetState, IsLogged, new_target, next_call}
use Rattle.call_steps.specs.Pieces.{length_of, object_of}
use Rattle.call_steps.specs.Runs.{CallStep, IsRunOf, Leaves, goes_on}
use Rattle.call_steps.specs.Servers.{Servers, AreThere, target_at}
use Rattle.call_steps.specs.Steps.{Outcome, Answered}
use Rattle.meta_server.specs.Closing.{holds}
use Rattle.meta_server.specs.Files.{File, file_named}
use Rattle.meta_server.specs.Opening.{opened}
use Rattle.mirror_verify.specs.declared.copies.BlockCopy.{BlockCopy}
use Rattle.mirror_verify.specs.declared.phase.VerifyAt.{VerifyAt}
use Rattle.mirror_verify.specs.declared.phase.VerifyAt.TheVariants as at
use Rattle.mirror_verify.specs.declared.phase.Verifying.{Verifying}
use Rattle.mirror_verify.specs.Blocks.{copies_of, copy_at, next_object}
use Rattle.mirror_verify.specs.Findings.{Finding, entry_at, lowest_difference, no_finding}
use Rattle.mirror_verify.specs.Fitting.{FitsAt, HasCopies, IsObjectAt, IsSoundAt}
use Rattle.mirror_verify.specs.Told.{HasBytes, HaveBytes, IsMade, IsReadBy, NoEntryWhereEqual, TellsWhatItCompared, entries_from}
use Rattle.mirror_verify.specs.Verifies.{bytes_of, closes, compared, copy_read, new_verify, opens_file, takes_copy, takes_from, target_of, verify_at, verify_step, verifying, with_answer}
use Rattle.mirror_verify.specs.Views.{VerifyView}
use Rattle.mirror_verify.proofs.CopyLaws.{is_there}
use Rattle.mirror_verify.proofs.ToldLaws.{IsGot, are_entries, got_copy, got_holes, got_more, nothing_got, with_all}

-- what a verify has got at what it does next, by the steps that it made
abbrev pub HoldsAt : List (CallStep VerifyView) → VerifyAt → Type 0
HoldsAt steps at.Open = Unit {0}
HoldsAt steps (at.Take x next) = IsGot steps x.copies next x.found
HoldsAt steps (at.Close x None) = IsGot steps x.copies (length x.copies) x.found
HoldsAt steps (at.Close x (Some call)) = Unit {0}

abbrev pub Holds : List (CallStep VerifyView) → Option VerifyView → Type 0
Holds steps None = Unit {0}
Holds steps (Some v) = HoldsAt steps v.at

-- what comes next behind the copies that are got
pub next_holds : (steps : List (CallStep VerifyView)) (x : Verifying) (next : ℕ) → IsGot steps x.copies next x.found → HoldsAt steps (takes_from x next)
next_holds steps x next got = by (nat_lt next (length x.copies)) refl
  where
    by : (b : Bool) → nat_lt next (length x.copies) ≡ b → HoldsAt steps (if b then at.Take x next else at.Close x None)
    by true e = got
    by false e =
        let past : length x.copies ≤ next = grind (arith, nat_tests) in
        let all : take next x.copies ≡ take (length x.copies) x.copies = take_all next x.copies past ∙ sym (take_all (length x.copies) x.copies (omega arith)) in
        record { all = got.all; have = subst (λ (cs : List BlockCopy). HaveBytes steps cs got.all) all got.have; is = got.is ∙ ap (λ (cs : List BlockCopy). with_all cs got.all no_finding) all }

-- ---- a take that is answered

set_there : (ts : List TargetState) (i : ℕ) (t : TargetState) → i < length ts → slice_get (slice_set ts i t) i ≡ Some t
set_there [] i t h = absurd (omega (arith, h))
set_there (x ∷ ts) zero t h = refl
set_there (x ∷ ts) (suc i) t h = set_there ts i t (omega (arith, h))

last_there : (xs : List CallEntry) (x : CallEntry) → slice_get (xs ++ x ∷ []) (length xs) ≡ Some x
last_there [] x = refl
last_there (y ∷ xs) x = last_there xs x

-- the call stands in the log
is_logged : (target : TargetState) (object offset count : ℕ) → read_answer target ≡ answer.Ok →
    IsLogged (after_read target object offset count) (next_call target) (record { kind = kind.Read; object = object; offset = offset; length = count; version = 0; answer = answer.Ok })
is_logged target object offset count ok =
    let last : (length target.calls + 1) - 1 ≡ length target.calls = omega arith in (
      omega arith,
      ap (slice_get (target.calls ++ record { kind = kind.Read; object = object; offset = offset; length = count; version = 0; answer = read_answer target } ∷ [])) last
          ∙ last_there target.calls _
          ∙ ap (λ (a : CallAnswer). Some (record { kind = kind.Read; object = object; offset = offset; length = count; version = 0; answer = a })) ok,
    )

not_hole : (o : Option ObjectId) → is_some o ≡ true → is_none o ≡ false
not_hole (Some o) e = refl
not_hole None e = absurd (cc)

object_is : (o : Option ObjectId) (d : ObjectId) → is_some o ≡ true → o ≡ Some (unwrap_or o d)
object_is (Some o) d e = refl
object_is None d e = absurd (cc)

has_read : (made : CallStep VerifyView) (x : Verifying) (next : ℕ) → HasCopies x → IsObjectAt x.copies next → AreThere made.before.targets x.opened.layout.components →
    read_answer (target_of made.before (copy_at x.copies next).piece) ≡ answer.Ok → made.after ≡ copy_read made.before (copy_at x.copies next).piece → IsReadBy made (copy_at x.copies next).piece (bytes_of made.before (copy_at x.copies next).piece)
has_read made x next has is there ok after = record {
  call = next_call (target_of made.before p);
  calls = record {
    next = refl;
    logged = subst (λ (t : TargetState). IsLogged t (next_call (target_of made.before p)) (record { kind = kind.Read; object = (object_of p).number; offset = p.offset; length = length_of p; version = 0; answer = answer.Ok })) (sym kept) (is_logged (target_of made.before p) (object_of p).number p.offset (length_of p) ok);
  };
  held = refl;
}
  where
    p : Piece
    p = (copy_at x.copies next).piece

    within : (object_of p).target < length made.before.targets
    within = is_there x next made.before.targets (object_of p) has is.there there (object_is p.object _ is.object)

    kept : target_at made.after.targets (object_of p).target ≡ after_read (target_of made.before p) (object_of p).number p.offset (length_of p)
    kept = ap (λ (s : Servers). target_at s.targets (object_of p).target) after ∙ ap (λ (o : Option TargetState). unwrap_or o (new_target (object_of p).target [])) (set_there made.before.targets (object_of p).target _ within)

-- ---- each step keeps what is got

keeps : (front : List (CallStep VerifyView)) (made : CallStep VerifyView) (a : VerifyAt) → IsSoundAt a → FitsAt a made.call made.before.meta made.before.targets → HoldsAt front a → made.came ≡ verify_at a made.call made.before → Leaves made.came made.after → Holds (front ++ made ∷ []) (goes_on made.came)
keeps front made at.Open sound fits held came left = subst (λ (c : Outcome VerifyView). Holds (front ++ made ∷ []) (goes_on c)) (sym came) (by (file_named made.call.name made.before.meta.files))
  where
    by : (f : Option File) → Holds (front ++ made ∷ []) (goes_on (opens_file made.call made.before f))
    by None = tt
    by (Some f) =
        let copies = copies_of f.layout.components f.size in
        next_holds (front ++ made ∷ []) (verifying (opened made.call.client f) copies) (next_object copies 0) (got_holes (front ++ made ∷ []) copies 0 no_finding (nothing_got (front ++ made ∷ []) copies))
keeps front made (at.Take x next) sound fits held came left = subst (λ (c : Outcome VerifyView). Holds (front ++ made ∷ []) (goes_on c)) (sym came) (by (read_answer (target_of made.before p)) refl)
  where
    p : Piece
    p = (copy_at x.copies next).piece

    by : (a : CallAnswer) → read_answer (target_of made.before p) ≡ a → Holds (front ++ made ∷ []) (goes_on (takes_copy made.call made.before x next p a))
    by answer.Ok ok =
        let after : made.after ≡ copy_read made.before p = subst (λ (c : Outcome VerifyView). Leaves c made.after) (came ∙ ap (takes_copy made.call made.before x next p) ok) left in
        let has : HasBytes (front ++ made ∷ []) (copy_at x.copies next) (bytes_of made.before p) =
        inr (not_hole p.object sound.1.object, (made, Contains-append_right front (made ∷ []) made (0, omega arith, refl), has_read made x next sound.0 sound.1 fits ok after)) in
        next_holds (front ++ made ∷ []) (with_answer made.before x next) (next_object x.copies (next + 1))
        (got_holes (front ++ made ∷ []) x.copies (next + 1) _ (got_copy (front ++ made ∷ []) x.copies next x.found (bytes_of made.before p) sound.1.there has (got_more front (made ∷ []) x.copies next x.found held)))
    by (answer.Old kept) e = tt
    by answer.Failed e = tt
keeps front made (at.Close x fault) sound fits held came left = subst (λ (c : Outcome VerifyView). Holds (front ++ made ∷ []) (goes_on c)) (sym came) (by (holds x.opened.file x.opened.cookie made.before.meta))
  where
    by : (b : Bool) → Holds (front ++ made ∷ []) (goes_on (closes made.call made.before x fault b))
    by true = tt
    by false = tt

-- the whole run up to a step, and that step
told : (rest front : List (CallStep VerifyView)) (made : CallStep VerifyView) (call : Option VerifyView) (last : ℕ) → Holds front call → IsRunOf verify_step (rest ++ made ∷ []) call last → All IsMade (rest ++ made ∷ []) →
    HoldsAt (front ++ rest) made.call.at × (made.came ≡ verify_at made.call.at made.call made.before)
told [] front made None last held run all = absurd run
told [] front made (Some call) last held run all = (
  subst (λ (steps : List (CallStep VerifyView)). HoldsAt steps made.call.at) (sym (append-nil front)) (subst (λ (v : VerifyView). HoldsAt front v.at) (sym run.0.same) held),
  run.0.came ∙ ap (λ (v : VerifyView). verify_at v.at v made.before) (sym run.0.same),
)
told (m ∷ rest) front made None last held run all = absurd run
told (m ∷ rest) front made (Some call) last held run all =
    let mine : IsMade m = all 0 m (omega arith) in
    let came : m.came ≡ verify_at m.call.at m.call m.before = run.0.came ∙ ap (λ (v : VerifyView). verify_at v.at v m.before) (sym run.0.same) in
    let here : HoldsAt front m.call.at = subst (λ (v : VerifyView). HoldsAt front v.at) (sym run.0.same) held in
    let kept : Holds (front ++ m ∷ []) (goes_on m.came) = keeps front m m.call.at mine.sound.phase mine.fits.phase here came run.0.left in
    let more = told rest (front ++ m ∷ []) made (goes_on m.came) m.place kept run.1 (λ i d h. all (suc i) d (omega (arith, h))) in
    (subst (λ (steps : List (CallStep VerifyView)). HoldsAt steps made.call.at) (append_assoc front (m ∷ []) rest) more.0, more.1)

pub tells : TellsWhatItCompared
tells client name steps made x reply takes after run all closing came = record {
  copies = subst IsSoundAt closing last.sound.phase;
  all = got.all;
  have = subst (λ (cs : List BlockCopy). HaveBytes steps cs got.all) whole got.have;
  told = answered ∙ ap (compared x.copies) (ap (λ (f : Finding). f.diffs) got.is ∙ are_entries (take (length x.copies) x.copies) got.all no_finding ∙ ap (λ (cs : List BlockCopy). entries_from [] cs got.all) whole);
}
  where
    both : HoldsAt steps made.call.at × (made.came ≡ verify_at made.call.at made.call made.before)
    both = told steps [] made (Some (new_verify client name)) 0 tt run all

    got : IsGot steps x.copies (length x.copies) x.found
    got = subst (HoldsAt steps) closing both.0

    whole : take (length x.copies) x.copies ≡ x.copies
    whole = take_all (length x.copies) x.copies (omega arith)

    last : IsMade made
    last = subst IsMade (get_or-append_seam steps made [] made) (all (length steps) made (simp length-append (omega arith)))

    by : (b : Bool) → closes made.call made.before x None b ≡ Answered reply takes after → reply ≡ compared x.copies x.found.diffs
    by true e = cc
    by false e = absurd (cc)

    answered : reply ≡ compared x.copies x.found.diffs
    answered = by (holds x.opened.file x.opened.cookie made.before.meta) (ap (λ (a : VerifyAt). verify_at a made.call made.before) (sym closing) ∙ sym both.1 ∙ came)

-- ---- where a later copy has no entry

eq_true : (a b : ℕ) → not (nat_eq a b) ≡ false → a ≡ b
eq_true a b e = grind (arith, nat_tests)

none_at : (p : ℕ → Bool) (a n k : ℕ) → find p (range_with_len a n) ≡ None → a ≤ k → k < a + n → p k ≡ false
none_at p a zero k none low high = absurd (omega (arith, low, high))
none_at p a (suc n) k none low high = by (p a) refl none (cases_lt a k) (λ left lt. none_at p (a + 1) n k left (omega (arith, lt)) (omega (arith, high)))
  where
    by : (b : Bool) → p a ≡ b → cond b (Some a) (find p (range_with_len (a + 1) n)) ≡ None → (a < k) ⊎ (k ≤ a) → (find p (range_with_len (a + 1) n) ≡ None → a < k → p k ≡ false) → p k ≡ false
    by true e none which more = absurd (cc)
    by false e none (inl lt) more = more none lt
    by false e none (inr le) more = let same : k ≡ a = omega (arith, le, low) in ap p same ∙ e

none_found : (p : ℕ → Bool) → ((k : ℕ) → p k ≡ false) → (a n : ℕ) → find p (range_with_len a n) ≡ None
none_found p none a zero = refl
none_found p none a (suc n) = ap (λ (b : Bool). cond b (Some a) (find p (range_with_len (a + 1) n))) (none a) ∙ none_found p none (a + 1) n

eq_refl : (a : ℕ) → not (nat_eq a a) ≡ false
eq_refl a = grind (arith, nat_tests)

no_lowest : (first : ℕ) (p : Piece) (ours theirs : List ℕ) (o : Option ℕ) → entry_at first p ours theirs o ≡ [] → o ≡ None
no_lowest first p ours theirs None e = refl
no_lowest first p ours theirs (Some place) e = absurd (cc)

pub no_entry : NoEntryWhereEqual
no_entry first p ours theirs = (λ e place. by place (no_lowest first p ours theirs (lowest_difference ours theirs) e) (cases_lt place (max (length ours) (length theirs))), λ same. ap (entry_at first p ours theirs) (none_found (λ (place : ℕ). not (nat_eq (slice_index ours place) (slice_index theirs place))) (λ k. ap (λ (n : ℕ). not (nat_eq (slice_index ours k) n)) (sym (same k)) ∙ eq_refl (slice_index ours k)) 0 (max (length ours) (length theirs))))
  where
    by : (place : ℕ) → lowest_difference ours theirs ≡ None → (place < max (length ours) (length theirs)) ⊎ (max (length ours) (length theirs) ≤ place) → slice_index ours place ≡ slice_index theirs place
    by place none (inl lt) = eq_true (slice_index ours place) (slice_index theirs place) (none_at (λ (place : ℕ). not (nat_eq (slice_index ours place) (slice_index theirs place))) 0 (max (length ours) (length theirs)) place none (omega arith) (omega (arith, lt)))
    by place none (inr le) = get_or_past ours place 0 (omega (arith, le)) ∙ sym (get_or_past theirs place 0 (omega (arith, le)))
