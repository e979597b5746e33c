-- What a verify has done that answers with what it compared.
use Rattle.std.proofs.Common.{◌≡◌, ℕ, suc, ◌+◌, ◌<◌, Bool, true, false, if◌then◌else◌, List, [], ◌∷◌, ◌++◌, length, take, drop, Option, Some, None, refl, sym, ap, subst, ◌∙◌, inl, inr, arith, append_assoc}
use Rattle.std.specs.Prelude.{replicate}
use Rattle.std.proofs.Math.Seq.{take-add}
use Rattle.std.proofs.lemmas.List.{append-nil, take_more}
use Rattle.std.proofs.lemmas.List.Elements.{Contains-append_left}
use Rattle.flr_base.specs.declared.reply.Diff.{Diff}
use Rattle.mirror_select.specs.declared.types.Piece.{Piece}
use Rattle.mirror_verify.specs.declared.copies.BlockCopy.{BlockCopy}
use Rattle.call_steps.specs.Runs.{CallStep}
use Rattle.mirror_verify.specs.Blocks.{copy_at, holes_first, is_hole, next_object}
use Rattle.mirror_verify.specs.Findings.{Finding, no_finding, with_bytes, with_copy, with_holes}
use Rattle.mirror_verify.specs.Told.{HasBytes, HaveBytes, entries_from, entry_by, first_of}
use Rattle.mirror_verify.specs.Views.{VerifyView}

-- what is found with these copies, by their bytes
abbrev pub with_all : List BlockCopy → List (List ℕ) → Finding → Finding
with_all [] all found = found
with_all (copy ∷ copies) [] found = found
with_all (copy ∷ copies) (bytes ∷ all) found = with_all copies all (with_copy copy bytes found)

-- the differences are the entries, behind those that were there
one_entry : (against : Option ℕ) (p : Piece) (bytes : List ℕ) (found : Finding) → ((with_bytes against p bytes found).diffs ≡ found.diffs ++ entry_by against p found.first bytes) × ((with_bytes against p bytes found).first ≡ first_of against bytes found.first)
one_entry None p bytes found = (sym (append-nil found.diffs), refl)
one_entry (Some id) p bytes found = (refl, refl)

pub are_entries : (copies : List BlockCopy) (all : List (List ℕ)) (found : Finding) → (with_all copies all found).diffs ≡ found.diffs ++ entries_from found.first copies all
are_entries [] all found = sym (append-nil found.diffs)
are_entries (copy ∷ copies) [] found = sym (append-nil found.diffs)
are_entries (copy ∷ copies) (bytes ∷ all) found =
    let one = one_entry copy.against copy.piece bytes found in
    are_entries copies all (with_copy copy bytes found)
    ∙ ap (λ (ds : List Diff). ds ++ entries_from (with_copy copy bytes found).first copies all) one.0
    ∙ ap (λ (first : List ℕ). (found.diffs ++ entry_by copy.against copy.piece found.first bytes) ++ entries_from first copies all) one.1
    ∙ append_assoc found.diffs (entry_by copy.against copy.piece found.first bytes) (entries_from (first_of copy.against bytes found.first) copies all)

-- ---- more copies, and more steps

pub have_append : (steps : List (CallStep VerifyView)) (cs ds : List BlockCopy) (all more : List (List ℕ)) → HaveBytes steps cs all → HaveBytes steps ds more → HaveBytes steps (cs ++ ds) (all ++ more)
have_append steps [] ds [] more h k = k
have_append steps [] ds (bytes ∷ all) more h k = absurd h
have_append steps (c ∷ cs) ds [] more h k = absurd h
have_append steps (c ∷ cs) ds (bytes ∷ all) more h k = (h.0, have_append steps cs ds all more h.1 k)

pub all_append : (steps : List (CallStep VerifyView)) (cs ds : List BlockCopy) (all more : List (List ℕ)) (found : Finding) → HaveBytes steps cs all → with_all (cs ++ ds) (all ++ more) found ≡ with_all ds more (with_all cs all found)
all_append steps [] ds [] more found h = refl
all_append steps [] ds (bytes ∷ all) more found h = absurd h
all_append steps (c ∷ cs) ds [] more found h = absurd h
all_append steps (c ∷ cs) ds (bytes ∷ all) more found h = all_append steps cs ds all more (with_copy c bytes found) h.1

has_more : (steps more : List (CallStep VerifyView)) (c : BlockCopy) (bytes : List ℕ) → HasBytes steps c bytes → HasBytes (steps ++ more) c bytes
has_more steps more c bytes (inl h) = inl h
has_more steps more c bytes (inr h) = inr (h.0, (h.1.0, Contains-append_left steps more h.1.0 h.1.1, h.1.2))

pub have_more : (steps more : List (CallStep VerifyView)) (cs : List BlockCopy) (all : List (List ℕ)) → HaveBytes steps cs all → HaveBytes (steps ++ more) cs all
have_more steps more [] [] h = tt
have_more steps more [] (bytes ∷ all) h = absurd h
have_more steps more (c ∷ cs) [] h = absurd h
have_more steps more (c ∷ cs) (bytes ∷ all) h = (has_more steps more c bytes h.0, have_more steps more cs all h.1)

-- ---- holes

-- the holes that stand first have no bytes
pub holes_have : (steps : List (CallStep VerifyView)) (cs : List BlockCopy) → HaveBytes steps (take (holes_first cs) cs) (replicate (holes_first cs) [])
holes_have steps [] = tt
holes_have steps (c ∷ cs) = by (is_hole c) refl (holes_have steps cs)
  where
    by : (b : Bool) → is_hole c ≡ b → HaveBytes steps (take (holes_first cs) cs) (replicate (holes_first cs) []) → HaveBytes steps (take (if b then holes_first cs + 1 else 0) (c ∷ cs)) (replicate (if b then holes_first cs + 1 else 0) [])
    by true e more = let one : holes_first cs + 1 ≡ suc (holes_first cs) = omega arith in subst (λ (n : ℕ). HaveBytes steps (take n (c ∷ cs)) (replicate n [])) (sym one) (inl (e, refl), more)
    by false e more = tt

pub holes_found : (cs : List BlockCopy) (found : Finding) → with_holes cs found ≡ with_all (take (holes_first cs) cs) (replicate (holes_first cs) []) found
holes_found [] found = refl
holes_found (c ∷ cs) found = by (is_hole c) (holes_found cs (with_copy c [] found))
  where
    by : (b : Bool) → with_holes cs (with_copy c [] found) ≡ with_all (take (holes_first cs) cs) (replicate (holes_first cs) []) (with_copy c [] found) → (if b then with_holes cs (with_copy c [] found) else found) ≡ with_all (take (if b then holes_first cs + 1 else 0) (c ∷ cs)) (replicate (if b then holes_first cs + 1 else 0) []) found
    by true more = let one : holes_first cs + 1 ≡ suc (holes_first cs) = omega arith in subst (λ (n : ℕ). with_holes cs (with_copy c [] found) ≡ with_all (take n (c ∷ cs)) (replicate n []) found) (sym one) more
    by false more = refl

-- ---- what is got of the first copies

pub record IsGot (steps : List (CallStep VerifyView)) (copies : List BlockCopy) (n : ℕ) (found : Finding) : Type 0 where
  pub all : List (List ℕ)
  pub have : HaveBytes steps (take n copies) all
  pub is : found ≡ with_all (take n copies) all no_finding

pub nothing_got : (steps : List (CallStep VerifyView)) (copies : List BlockCopy) → IsGot steps copies 0 no_finding
nothing_got steps copies = record { all = []; have = tt; is = refl }

-- with the holes behind them
pub got_holes : (steps : List (CallStep VerifyView)) (copies : List BlockCopy) (n : ℕ) (found : Finding) → IsGot steps copies n found → IsGot steps copies (next_object copies n) (with_holes (drop n copies) found)
got_holes steps copies n found got =
    let k = holes_first (drop n copies) in
    let parts : take (n + k) copies ≡ take n copies ++ take k (drop n copies) = take-add n k copies in
    record {
      all = got.all ++ replicate k [];
      have = subst (λ (cs : List BlockCopy). HaveBytes steps cs (got.all ++ replicate k [])) (sym parts) (have_append steps (take n copies) (take k (drop n copies)) got.all (replicate k []) got.have (holes_have steps (drop n copies)));
      is = holes_found (drop n copies) found ∙ ap (with_all (take k (drop n copies)) (replicate k [])) got.is
          ∙ sym (all_append steps (take n copies) (take k (drop n copies)) got.all (replicate k []) no_finding got.have)
          ∙ ap (λ (cs : List BlockCopy). with_all cs (got.all ++ replicate k []) no_finding) (sym parts);
    }

-- with one more copy
pub got_copy : (steps : List (CallStep VerifyView)) (copies : List BlockCopy) (n : ℕ) (found : Finding) (bytes : List ℕ) → n < length copies → HasBytes steps (copy_at copies n) bytes → IsGot steps copies n found → IsGot steps copies (n + 1) (with_copy (copy_at copies n) bytes found)
got_copy steps copies n found bytes lt has got =
    let parts : take (n + 1) copies ≡ take n copies ++ copy_at copies n ∷ [] = take_more copies n _ lt in
    record {
      all = got.all ++ bytes ∷ [];
      have = subst (λ (cs : List BlockCopy). HaveBytes steps cs (got.all ++ bytes ∷ [])) (sym parts) (have_append steps (take n copies) (copy_at copies n ∷ []) got.all (bytes ∷ []) got.have (has, tt));
      is = ap (with_copy (copy_at copies n) bytes) got.is
          ∙ sym (all_append steps (take n copies) (copy_at copies n ∷ []) got.all (bytes ∷ []) no_finding got.have)
          ∙ ap (λ (cs : List BlockCopy). with_all cs (got.all ++ bytes ∷ []) no_finding) (sym parts);
    }

-- with more steps made
pub got_more : (steps more : List (CallStep VerifyView)) (copies : List BlockCopy) (n : ℕ) (found : Finding) → IsGot steps copies n found → IsGot (steps ++ more) copies n found
got_more steps more copies n found got = record { all = got.all; have = have_more steps more (take n copies) got.all got.have; is = got.is }
