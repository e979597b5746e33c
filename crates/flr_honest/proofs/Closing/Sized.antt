-- The plain files of the files of the metadata server, one for each, by name and size.
use Rattle.std.proofs.Common.{◌≡◌, ℕ, suc, ◌+◌, Bool, true, false, cond, nat_eq, Option, Some, None, List, [], ◌∷◌, length, inl, inr, refl, sym, ap, subst, ◌∙◌, arith, get_or}
use Rattle.std.specs.Str.{bytes_eq}
use Rattle.std.specs.List.{AllByRecursion}
use Rattle.std.specs.Option.{option_map_or}
use Rattle.std.proofs.lemmas.Bool.{cases_Bool}
use Rattle.std.proofs.lemmas.Slice.Eq.{bytes_eq-Decides}
use Rattle.meta_laws.proofs.Finding.{found_keeps, numbered}
use Rattle.meta_server.specs.Files.{File, file_of}
use Rattle.meta_server.specs.Sound.{AreNamedApart}
use Rattle.plain_files.specs.Effects.{with_file, without_file}
use Rattle.plain_files.specs.Files.{Plain, bytes_at, bytes_of, plain_at, plain_from, plain_of}
use Rattle.flr_bytes.specs.Files.{AreSized}
use Rattle.flr_bytes.specs.Sentences.{byte_of}
use Rattle.flr_bytes.proofs.StoreEffects.{bytes_first, dropped, first_bytes, without_dropped}

-- the plain file of the file's name is there, and as long as the file
pub record IsSizedAt (f : File) (ps : List Plain) : Type 0 where
  pub place : ℕ
  pub named : (from : ℕ) → plain_from from f.name ps ≡ Some (from + place)
  pub long : f.size ≡ length (plain_at ps place).bytes

same_name : (a b : List ℕ) → a ≡ b → bytes_eq b a ≡ true
same_name a b same = (bytes_eq-Decides b a).1 (sym same)

other_name : (a b : List ℕ) → (a ≡ b → ⊥) → bytes_eq a b ≡ false
other_name a b apart = elim (cases_Bool (bytes_eq a b)) as (λ _. bytes_eq a b ≡ false) [
  | inl is ↦ absurd (apart ((bytes_eq-Decides a b).0 is))
  | inr isnt ↦ isnt
]

-- so it is with each file that is found, where no two have one name
pub found_sized : (n : ℕ) (fs : List File) (ps : List Plain) (f : File) → AreNamedApart fs → AreSized fs ps → file_of n fs ≡ Some f → IsSizedAt f ps
found_sized n [] [] f apart h e = absurd (cc)
found_sized n [] (p ∷ ps) f apart h e = absurd h
found_sized n (g ∷ fs) [] f apart h e = absurd h
found_sized n (g ∷ fs) (p ∷ ps) f apart h e = by (nat_eq g.number n) e (λ e. found_sized n fs ps f apart.1 h.2 e)
  where
    by : (b : Bool) → cond b (Some g) (file_of n fs) ≡ Some f → (file_of n fs ≡ Some f → IsSizedAt f ps) → IsSizedAt f (p ∷ ps)
    by true e rest =
        let same : g ≡ f = cc in
        let is : bytes_eq p.name f.name ≡ true = same_name f.name p.name (sym (ap (λ (x : File). x.name) same) ∙ h.0) in
        record {
          place = 0;
          named = λ from. ap (λ (b : Bool). cond b (Some from) (plain_from (from + 1) f.name ps)) is ∙ ap (λ k. Some k) (omega arith);
          long = sym (ap (λ (x : File). x.size) same) ∙ h.1;
        }
    by false e rest =
        let found = rest e in
        let isnt : bytes_eq p.name f.name ≡ false = other_name p.name f.name (λ same. found_keeps (λ (x : File). nat_eq x.number n) (λ (x : File). g.name ≡ x.name → ⊥) fs f e apart.0 (h.0 ∙ same)) in
        record {
          place = suc found.place;
          named = λ from. ap (λ (b : Bool). cond b (Some from) (plain_from (from + 1) f.name ps)) isnt ∙ found.named (from + 1) ∙ ap (λ k. Some k) (omega arith);
          long = found.long;
        }

-- its place in the store
pub sized_place : (f : File) (ps : List Plain) (h : IsSizedAt f ps) → plain_of f.name ps ≡ Some h.place
sized_place f ps h = h.named 0 ∙ ap (λ k. Some k) (let same : 0 + h.place ≡ h.place = omega arith in same)

-- and its length
pub sized_long : (f : File) (ps : List Plain) (h : IsSizedAt f ps) → length (bytes_of ps f.name) ≡ f.size
sized_long f ps h = ap (λ (o : Option ℕ). length (bytes_at ps o)) (sized_place f ps h) ∙ sym h.long

-- files of one name have one number
pub one_number : (n k : ℕ) (fs : List File) (f g : File) → AreNamedApart fs → file_of n fs ≡ Some f → file_of k fs ≡ Some g → f.name ≡ g.name → n ≡ k
one_number n k fs f g apart e d same = sym (numbered n fs f e) ∙ ap (λ (x : File). x.number) (one fs apart e d) ∙ numbered k fs g d
  where
    one : (fs : List File) → AreNamedApart fs → file_of n fs ≡ Some f → file_of k fs ≡ Some g → f ≡ g
    one [] apart e d = absurd (cc)
    one (h ∷ hs) apart e d = by (nat_eq h.number n) (nat_eq h.number k) e d (one hs apart.1)
      where
        by : (a b : Bool) → cond a (Some h) (file_of n hs) ≡ Some f → cond b (Some h) (file_of k hs) ≡ Some g → (file_of n hs ≡ Some f → file_of k hs ≡ Some g → f ≡ g) → f ≡ g
        by true true e d rest = cc
        by true false e d rest = let is : h ≡ f = cc in absurd (found_keeps (λ (x : File). nat_eq x.number k) (λ (x : File). h.name ≡ x.name → ⊥) hs g d apart.0 (ap (λ (x : File). x.name) is ∙ same))
        by false true e d rest = let is : h ≡ g = cc in absurd (found_keeps (λ (x : File). nat_eq x.number n) (λ (x : File). h.name ≡ x.name → ⊥) hs f e apart.0 (ap (λ (x : File). x.name) is ∙ sym same))
        by false false e d rest = rest e d

-- the byte of the plain file of a file that is found
pub named_byte : (fs : List File) (ps : List Plain) (n x : ℕ) (f : File) → file_of n fs ≡ Some f → byte_of fs ps n x ≡ get_or (bytes_of ps f.name) x 0
named_byte fs ps n x f e = ap (λ (o : Option File). get_or (option_map_or (λ (g : File). bytes_of ps g.name) o []) x 0) e

-- ---- files that come and go

-- a file that is there keeps its bytes where another comes behind it
pub there_kept : (name other bytes : List ℕ) (ps : List Plain) (place : ℕ) → plain_of other ps ≡ Some place → bytes_of (with_file name bytes ps) other ≡ bytes_of ps other
there_kept name other bytes ps place e = bytes_first other (with_file name bytes ps) ∙ first 0 ps e ∙ sym (bytes_first other ps)
  where
    first : (from : ℕ) (ps : List Plain) → plain_from from other ps ≡ Some place → first_bytes other (with_file name bytes ps) ≡ first_bytes other ps
    first from [] e = absurd (cc e)
    first from (p ∷ ps) e = by (bytes_eq p.name other) e (first (from + 1) ps)
      where
        by : (b : Bool) → cond b (Some from) (plain_from (from + 1) other ps) ≡ Some place → (plain_from (from + 1) other ps ≡ Some place → first_bytes other (with_file name bytes ps) ≡ first_bytes other ps)
            → cond b p.bytes (first_bytes other (with_file name bytes ps)) ≡ cond b p.bytes (first_bytes other ps)
        by true e rest = refl
        by false e rest = rest e

none_named : (from : ℕ) (name : List ℕ) (fs : List File) (ps : List Plain) → AllByRecursion (λ (g : File). name ≡ g.name → ⊥) fs → AreSized fs ps → plain_from from name ps ≡ None
none_named from name [] [] others h = refl
none_named from name [] (p ∷ ps) others h = absurd h
none_named from name (g ∷ fs) [] others h = absurd h
none_named from name (g ∷ fs) (p ∷ ps) others h =
    let isnt : bytes_eq p.name name ≡ false = other_name p.name name (λ same. others.0 (sym same ∙ sym h.0)) in
    ap (λ (b : Bool). cond b (Some from) (plain_from (from + 1) name ps)) isnt ∙ none_named (from + 1) name fs ps others.1 h.2

-- once the file of a name is gone there is none of that name
pub none_left : (name : List ℕ) (fs : List File) (ps : List Plain) → AreNamedApart fs → AreSized fs ps → plain_of name (without_file name ps) ≡ None
none_left name fs ps apart h = ap (plain_from 0 name) (without_dropped name ps) ∙ left 0 fs ps apart h
  where
    left : (from : ℕ) (fs : List File) (ps : List Plain) → AreNamedApart fs → AreSized fs ps → plain_from from name (dropped name ps) ≡ None
    left from [] [] apart h = refl
    left from [] (p ∷ ps) apart h = absurd h
    left from (g ∷ fs) [] apart h = absurd h
    left from (g ∷ fs) (p ∷ ps) apart h = by (bytes_eq p.name name) refl (left (from + 1) fs ps apart.1 h.2)
      where
        by : (b : Bool) → bytes_eq p.name name ≡ b → plain_from (from + 1) name (dropped name ps) ≡ None → plain_from from name (cond b ps (p ∷ dropped name ps)) ≡ None
        by true is rest =
            let own : g.name ≡ name = h.0 ∙ (bytes_eq-Decides p.name name).0 is in
            none_named from name fs ps (subst (λ (k : List ℕ). AllByRecursion (λ (x : File). k ≡ x.name → ⊥) fs) own apart.0) h.2
        by false is rest = ap (λ (b : Bool). cond b (Some from) (plain_from (from + 1) name (dropped name ps))) is ∙ rest
