-- The bytes of the copies that a verify compares, by the calls of targets that it made.
use Rattle.std.proofs.Common.{◌≡◌, ℕ, suc, ◌+◌, ◌<◌, Bool, true, false, if◌then◌else◌, List, [], ◌∷◌, ◌++◌, length, take, drop, refl, sym, ap, subst, ◌∙◌, ◌⊎◌, inl, inr, arith}
use Rattle.std.specs.Prelude.{Contains, replicate}
use Rattle.std.proofs.Math.Seq.{take-add}
use Rattle.std.proofs.lemmas.List.{take_more}
use Rattle.std.proofs.lemmas.List.Elements.{Contains-append_left}
use Rattle.flr_base.specs.Bytes.{piece}
use Rattle.mirror_select.specs.declared.types.Piece.{Piece}
use Rattle.object_target.specs.declared.call.CallAnswer.TheVariants as answer
use Rattle.object_target.specs.declared.call.CallKind.TheVariants as kind
use Rattle.call_steps.specs.Pieces.{length_of, object_of}
use Rattle.mirror_verify.specs.declared.copies.BlockCopy.{BlockCopy}
use Rattle.mirror_verify.specs.Blocks.{copy_at, holes_first, is_hole, next_object}
use Rattle.mirror_verify.specs.Findings.{Finding, no_finding, with_copy, with_holes}
use Rattle.mirror_verify.specs.Told.{entries_from, entry_by, first_of}
use Rattle.mirror_verify.proofs.ToldLaws.{with_all}
use Rattle.flr_base.specs.declared.reply.Diff.{Diff}
use Rattle.flr_steps.specs.Traces.{Made}

-- the call read the piece from its object, and these are the bytes that the object held there
pub record IsReadOf (m : Made) (p : Piece) (bytes : List ℕ) : Type 0 where
  pub read : m.entry.kind ≡ kind.Read
  pub ok : m.entry.answer ≡ answer.Ok
  pub target : m.target ≡ (object_of p).target
  pub object : m.entry.object ≡ (object_of p).number
  pub offset : m.entry.offset ≡ p.offset
  pub long : m.entry.length ≡ length_of p
  pub held : bytes ≡ piece m.bytes p.offset (length_of p)

-- the copy has these bytes: none, and so zeros, where it is a hole, else those that one of these calls read
abbrev pub HasRead : List Made → BlockCopy → List ℕ → Type 0
HasRead made copy bytes = ((is_hole copy ≡ true) × (bytes ≡ [])) ⊎ ((is_hole copy ≡ false) × ((m : Made) × Contains made m × IsReadOf m copy.piece bytes))

-- the copies have these bytes, one by one
abbrev pub HaveRead : List Made → List BlockCopy → List (List ℕ) → Type 0
HaveRead made [] [] = Unit {0}
HaveRead made [] (bytes ∷ all) = ⊥
HaveRead made (copy ∷ copies) [] = ⊥
HaveRead made (copy ∷ copies) (bytes ∷ all) = HasRead made copy bytes × HaveRead made copies all

-- ---- more copies, and more calls

have_append : (made : List Made) (cs ds : List BlockCopy) (all more : List (List ℕ)) → HaveRead made cs all → HaveRead made ds more → HaveRead made (cs ++ ds) (all ++ more)
have_append made [] ds [] more h k = k
have_append made [] ds (bytes ∷ all) more h k = absurd h
have_append made (c ∷ cs) ds [] more h k = absurd h
have_append made (c ∷ cs) ds (bytes ∷ all) more h k = (h.0, have_append made cs ds all more h.1 k)

all_append : (made : List Made) (cs ds : List BlockCopy) (all more : List (List ℕ)) (found : Finding) → HaveRead made cs all → with_all (cs ++ ds) (all ++ more) found ≡ with_all ds more (with_all cs all found)
all_append made [] ds [] more found h = refl
all_append made [] ds (bytes ∷ all) more found h = absurd h
all_append made (c ∷ cs) ds [] more found h = absurd h
all_append made (c ∷ cs) ds (bytes ∷ all) more found h = all_append made cs ds all more (with_copy c bytes found) h.1

has_more : (made more : List Made) (c : BlockCopy) (bytes : List ℕ) → HasRead made c bytes → HasRead (made ++ more) c bytes
has_more made more c bytes (inl h) = inl h
has_more made more c bytes (inr h) = inr (h.0, (h.1.0, Contains-append_left made more h.1.0 h.1.1, h.1.2))

have_more : (made more : List Made) (cs : List BlockCopy) (all : List (List ℕ)) → HaveRead made cs all → HaveRead (made ++ more) cs all
have_more made more [] [] h = tt
have_more made more [] (bytes ∷ all) h = absurd h
have_more made more (c ∷ cs) [] h = absurd h
have_more made more (c ∷ cs) (bytes ∷ all) h = (has_more made more c bytes h.0, have_more made more cs all h.1)

-- ---- holes

holes_have : (made : List Made) (cs : List BlockCopy) → HaveRead made (take (holes_first cs) cs) (replicate (holes_first cs) [])
holes_have made [] = tt
holes_have made (c ∷ cs) = by (is_hole c) refl (holes_have made cs)
  where
    by : (b : Bool) → is_hole c ≡ b → HaveRead made (take (holes_first cs) cs) (replicate (holes_first cs) []) → HaveRead made (take (if b then holes_first cs + 1 else 0) (c ∷ cs)) (replicate (if b then holes_first cs + 1 else 0) [])
    by true e more = let one : holes_first cs + 1 ≡ suc (holes_first cs) = omega arith in subst (λ (n : ℕ). HaveRead made (take n (c ∷ cs)) (replicate n [])) (sym one) (inl (e, refl), more)
    by false e more = tt

holes_found : (cs : List BlockCopy) (found : Finding) → with_holes cs found ≡ with_all (take (holes_first cs) cs) (replicate (holes_first cs) []) found
holes_found [] found = refl
holes_found (c ∷ cs) found = by (is_hole c) (holes_found cs (with_copy c [] found))
  where
    by : (b : Bool) → with_holes cs (with_copy c [] found) ≡ with_all (take (holes_first cs) cs) (replicate (holes_first cs) []) (with_copy c [] found) → (if b then with_holes cs (with_copy c [] found) else found) ≡ with_all (take (if b then holes_first cs + 1 else 0) (c ∷ cs)) (replicate (if b then holes_first cs + 1 else 0) []) found
    by true more = let one : holes_first cs + 1 ≡ suc (holes_first cs) = omega arith in subst (λ (n : ℕ). with_holes cs (with_copy c [] found) ≡ with_all (take n (c ∷ cs)) (replicate n []) found) (sym one) more
    by false more = refl

-- ---- what is got of the first copies

pub record IsGot (made : List Made) (copies : List BlockCopy) (n : ℕ) (found : Finding) : Type 0 where
  pub all : List (List ℕ)
  pub have : HaveRead made (take n copies) all
  pub is : found ≡ with_all (take n copies) all no_finding

pub nothing_got : (made : List Made) (copies : List BlockCopy) → IsGot made copies 0 no_finding
nothing_got made copies = record { all = []; have = tt; is = refl }

-- with the holes behind them
pub got_holes : (made : List Made) (copies : List BlockCopy) (n : ℕ) (found : Finding) → IsGot made copies n found → IsGot made copies (next_object copies n) (with_holes (drop n copies) found)
got_holes made copies n found got =
    let k = holes_first (drop n copies) in
    let parts : take (n + k) copies ≡ take n copies ++ take k (drop n copies) = take-add n k copies in
    record {
      all = got.all ++ replicate k [];
      have = subst (λ (cs : List BlockCopy). HaveRead made cs (got.all ++ replicate k [])) (sym parts) (have_append made (take n copies) (take k (drop n copies)) got.all (replicate k []) got.have (holes_have made (drop n copies)));
      is = holes_found (drop n copies) found ∙ ap (with_all (take k (drop n copies)) (replicate k [])) got.is
          ∙ sym (all_append made (take n copies) (take k (drop n copies)) got.all (replicate k []) no_finding got.have)
          ∙ ap (λ (cs : List BlockCopy). with_all cs (got.all ++ replicate k []) no_finding) (sym parts);
    }

-- with one more copy
pub got_copy : (made : List Made) (copies : List BlockCopy) (n : ℕ) (found : Finding) (bytes : List ℕ) → n < length copies → HasRead made (copy_at copies n) bytes → IsGot made copies n found → IsGot made copies (n + 1) (with_copy (copy_at copies n) bytes found)
got_copy made copies n found bytes lt has got =
    let parts : take (n + 1) copies ≡ take n copies ++ copy_at copies n ∷ [] = take_more copies n _ lt in
    record {
      all = got.all ++ bytes ∷ [];
      have = subst (λ (cs : List BlockCopy). HaveRead made cs (got.all ++ bytes ∷ [])) (sym parts) (have_append made (take n copies) (copy_at copies n ∷ []) got.all (bytes ∷ []) got.have (has, tt));
      is = ap (with_copy (copy_at copies n) bytes) got.is
          ∙ sym (all_append made (take n copies) (copy_at copies n ∷ []) got.all (bytes ∷ []) no_finding got.have)
          ∙ ap (λ (cs : List BlockCopy). with_all cs (got.all ++ bytes ∷ []) no_finding) (sym parts);
    }

-- with more calls made
pub got_more : (made more : List Made) (copies : List BlockCopy) (n : ℕ) (found : Finding) → IsGot made copies n found → IsGot (made ++ more) copies n found
got_more made more copies n found got = record { all = got.all; have = have_more made more (take n copies) got.all got.have; is = got.is }

-- ---- copies in two parts

-- the bytes of both parts, and the entries of both
pub record IsSplit (made : List Made) (cs ds : List BlockCopy) (all : List (List ℕ)) (first : List ℕ) : Type 0 where
  pub front : List (List ℕ)
  pub back : List (List ℕ)
  pub again : List ℕ
  pub have_front : HaveRead made cs front
  pub have_back : HaveRead made ds back
  pub is : entries_from first (cs ++ ds) all ≡ entries_from first cs front ++ entries_from again ds back

pub split : (made : List Made) (cs ds : List BlockCopy) (all : List (List ℕ)) (first : List ℕ) → HaveRead made (cs ++ ds) all → IsSplit made cs ds all first
split made [] ds all first h = record { front = []; back = all; again = first; have_front = tt; have_back = h; is = refl }
split made (c ∷ cs) ds [] first h = absurd h
split made (c ∷ cs) ds (bytes ∷ all) first h =
    let rest : IsSplit made cs ds all (first_of c.against bytes first) = split made cs ds all (first_of c.against bytes first) h.1 in
    record {
      front = bytes ∷ rest.front;
      back = rest.back;
      again = rest.again;
      have_front = (h.0, rest.have_front);
      have_back = rest.have_back;
      is = ap (λ (es : List Diff). entry_by c.against c.piece first bytes ++ es) rest.is ∙ sym (joined (entry_by c.against c.piece first bytes) (entries_from (first_of c.against bytes first) cs rest.front) (entries_from rest.again ds rest.back));
    }
  where
    joined : (xs ys zs : List Diff) → (xs ++ ys) ++ zs ≡ xs ++ (ys ++ zs)
    joined [] ys zs = refl
    joined (x ∷ xs) ys zs = ap (λ (es : List Diff). x ∷ es) (joined xs ys zs)
