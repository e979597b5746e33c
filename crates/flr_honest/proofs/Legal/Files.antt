-- Which plain files there are, by the files of the metadata server.
use Rattle.std.proofs.Common.{◌≡◌, ℕ, ◌+◌, Bool, true, false, cond, Some, None, List, [], ◌∷◌, length, inl, inr, refl, sym, ap, subst, ◌∙◌, arith, get_or}
use Rattle.std.specs.Str.{bytes_eq}
use Rattle.std.specs.Cmp.Lexicographic.{other_text, same_text}
use Rattle.std.proofs.lemmas.Bool.{cases_Bool}
use Rattle.std.proofs.lemmas.Slice.Eq.{bytes_eq-Decides}
use Rattle.layout_lease.specs.declared.lease.KeyState.TheVariants.{Held}
use Rattle.layout_lease.specs.Leases.{KeyView, state_of}
use Rattle.meta_server.specs.Files.{File, MetaView, file_named, file_of, same_name}
use Rattle.meta_server.specs.Sound.{IsSound}
use Rattle.plain_files.specs.Files.{IsAbsent, IsPresent, Plain, bytes_of, plain_from}
use Rattle.flr_numbers.proofs.Holding.{covered_there}
use Rattle.flr_bytes.specs.Files.{AreSized}
use Rattle.flr_bytes.specs.Sentences.{byte_of}
use Rattle.flr_bytes.specs.Victims.{IsNamed}
use Rattle.flr_honest.proofs.Closing.Sized.{IsSizedAt, found_sized, named_byte, sized_long, sized_place}

-- two names that differ, told by the test of plain files
pub differ : (a b : List ℕ) → (a ≡ b → ⊥) → bytes_eq a b ≡ false
differ a b apart = elim (cases_Bool (bytes_eq a b)) as (λ _. bytes_eq a b ≡ false) [
  | inl is ↦ absurd (apart ((bytes_eq-Decides a b).0 is))
  | inr isnt ↦ isnt
]

-- ---- by their names

-- there is a plain file of the name, whatever place the first one has
abbrev IsThere : List ℕ → List Plain → Type 0
IsThere name store = (from : ℕ) → (place : ℕ) × (plain_from from name store ≡ Some place)

named_there : (name : List ℕ) (fs : List File) (store : List Plain) (f : File) → AreSized fs store → file_named name fs ≡ Some f → IsThere name store
named_there name [] [] f h e from = absurd (cc e)
named_there name [] (p ∷ ps) f h e from = absurd h
named_there name (x ∷ fs) [] f h e from = absurd h
named_there name (x ∷ fs) (p ∷ ps) f h e from = by (same_name name x.name) refl e (λ k. named_there name fs ps f h.2 k (from + 1))
  where
    by : (b : Bool) → same_name name x.name ≡ b → cond b (Some x) (file_named name fs) ≡ Some f → (file_named name fs ≡ Some f → (place : ℕ) × (plain_from (from + 1) name ps ≡ Some place)) → (place : ℕ) × (plain_from from name (p ∷ ps) ≡ Some place)
    by true is e rest =
        let own : bytes_eq p.name name ≡ true = (bytes_eq-Decides p.name name).1 (sym h.0 ∙ sym (same_text name x.name (sym is))) in
        (from, ap (λ (b : Bool). cond b (Some from) (plain_from (from + 1) name ps)) own)
    by false isnt e rest =
        let other : bytes_eq p.name name ≡ false = differ p.name name (λ same. other_text name x.name (sym isnt) (sym same ∙ sym h.0)) in
        let r = rest e in
        (r.0, ap (λ (b : Bool). cond b (Some from) (plain_from (from + 1) name ps)) other ∙ r.1)

-- the plain file of a file that is found by its name
pub present : (name : List ℕ) (fs : List File) (store : List Plain) (f : File) → AreSized fs store → file_named name fs ≡ Some f → IsPresent store name
present name fs store f h e = named_there name fs store f h e 0

none_there : (name : List ℕ) (fs : List File) (store : List Plain) (from : ℕ) → AreSized fs store → file_named name fs ≡ None → plain_from from name store ≡ None
none_there name [] [] from h e = refl
none_there name [] (p ∷ ps) from h e = absurd h
none_there name (x ∷ fs) [] from h e = absurd h
none_there name (x ∷ fs) (p ∷ ps) from h e = by (same_name name x.name) refl e (λ k. none_there name fs ps (from + 1) h.2 k)
  where
    by : (b : Bool) → same_name name x.name ≡ b → cond b (Some x) (file_named name fs) ≡ None → (file_named name fs ≡ None → plain_from (from + 1) name ps ≡ None) → plain_from from name (p ∷ ps) ≡ None
    by true is e rest = absurd (cc e)
    by false isnt e rest =
        let other : bytes_eq p.name name ≡ false = differ p.name name (λ same. other_text name x.name (sym isnt) (sym same ∙ sym h.0)) in
        ap (λ (b : Bool). cond b (Some from) (plain_from (from + 1) name ps)) other ∙ rest e

-- where no file has a name, no plain file has it
pub absent : (name : List ℕ) (fs : List File) (store : List Plain) → AreSized fs store → file_named name fs ≡ None → IsAbsent store name
absent name fs store h e = none_there name fs store 0 h e

-- there are as many plain files as files
pub as_many : (fs : List File) (store : List Plain) → AreSized fs store → length fs ≡ length store
as_many [] [] h = refl
as_many [] (p ∷ ps) h = absurd h
as_many (f ∷ fs) [] h = absurd h
as_many (f ∷ fs) (p ∷ ps) h = (let rest = as_many fs ps h.2 in omega (arith, rest))

-- ---- by their numbers

module _ (m : MetaView) (store : List Plain) (sound : IsSound m) (h : AreSized m.files store) where
  -- the plain file of a file that is there, which has the name
  pub numbered_present : (n : ℕ) (name : List ℕ) (f : File) → file_of n m.files ≡ Some f → f.name ≡ name → IsPresent store name
  numbered_present n name f e named =
      let at : IsSizedAt f store = found_sized n m.files store f sound.named h e in
      subst (IsPresent store) named (at.place, sized_place f store at)

  -- and as long as the file
  pub numbered_long : (n : ℕ) (name : List ℕ) (f : File) → file_of n m.files ≡ Some f → f.name ≡ name → length (bytes_of store name) ≡ f.size
  numbered_long n name f e named =
      let at : IsSizedAt f store = found_sized n m.files store f sound.named h e in
      subst (λ (k : List ℕ). length (bytes_of store k) ≡ f.size) named (sized_long f store at)

  -- with the bytes that it has by the file's number
  pub numbered_byte : (n : ℕ) (name : List ℕ) (f : File) (x : ℕ) → file_of n m.files ≡ Some f → f.name ≡ name → byte_of m.files store n x ≡ get_or (bytes_of store name) x 0
  numbered_byte n name f x e named = named_byte m.files store n x f e ∙ ap (λ (k : List ℕ). get_or (bytes_of store k) x 0) named

  -- ---- by keys

  -- while a lease stands, its plain file is there
  pub held_present : (name : List ℕ) (key : KeyView) → IsNamed m name key → state_of m.leases key ≡ Held → IsPresent store name
  held_present name key k held =
      let f = covered_there m.files m.leases key sound.covered held in
      numbered_present key.file name f.0 f.1 (k.named f.0 f.1)
