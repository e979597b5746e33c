-- What is left of each plain file by each effect on a store.
use Rattle.std.proofs.Common.{◌≡◌, ℕ, suc, ◌+◌, ◌-◌, ◌≤◌, Bool, true, false, cond, Option, Some, None, List, [], ◌∷◌, ◌++◌, remove, inl, inr, refl, sym, ap, ◌∙◌, arith}
use Rattle.std.specs.Str.{bytes_eq}
use Rattle.std.proofs.Math.ListN.{set}
use Rattle.std.proofs.lemmas.Bool.{cases_Bool}
use Rattle.std.proofs.lemmas.Slice.Eq.{bytes_eq-Decides}
use Rattle.plain_files.specs.Effects.{with_bytes, with_bytes_at, with_file, without_file, without_file_at}
use Rattle.plain_files.specs.Files.{Plain, bytes_at, bytes_of, plain_at, plain_from, plain_of}

-- the bytes of the first file of a name
abbrev pub first_bytes : List ℕ → List Plain → List ℕ
first_bytes name [] = []
first_bytes name (f ∷ fs) = cond (bytes_eq f.name name) f.bytes (first_bytes name fs)

-- the place that is found for a name, where the first of the list has the place n
pub record IsFirst (n place : ℕ) (name : List ℕ) (store : List Plain) : Type 0 where
  pub behind : n ≤ place
  pub bytes : (plain_at store (place - n)).bytes ≡ first_bytes name store

found_first : (n : ℕ) (name : List ℕ) (store : List Plain) (place : ℕ) → plain_from n name store ≡ Some place → IsFirst n place name store
found_first n name [] place e = absurd (cc e)
found_first n name (f ∷ fs) place e = elim (cases_Bool (bytes_eq f.name name)) as (λ _. IsFirst n place name (f ∷ fs)) [
  | inl is ↦ (
      let here : Some n ≡ Some place = sym (ap (λ (b : Bool). cond b (Some n) (plain_from (n + 1) name fs)) is) ∙ e in
      let same : n ≡ place = cc here in
      record {
        behind = omega (arith, same);
        bytes = ap (λ k. (plain_at (f ∷ fs) k).bytes) (let z : place - n ≡ 0 = omega (arith, same) in z) ∙ sym (ap (λ (b : Bool). cond b f.bytes (first_bytes name fs)) is);
      }
      )
  | inr isnt ↦ (
      let rest = found_first (n + 1) name fs place (sym (ap (λ (b : Bool). cond b (Some n) (plain_from (n + 1) name fs)) isnt) ∙ e) in
      let behind = rest.behind in
      record {
        behind = omega (arith, behind);
        bytes = ap (λ k. (plain_at (f ∷ fs) k).bytes) (let z : place - n ≡ suc (place - (n + 1)) = omega (arith, behind) in z) ∙ rest.bytes ∙ sym (ap (λ (b : Bool). cond b f.bytes (first_bytes name fs)) isnt);
      }
      )
]

found_none : (n : ℕ) (name : List ℕ) (store : List Plain) → plain_from n name store ≡ None → first_bytes name store ≡ []
found_none n name [] e = refl
found_none n name (f ∷ fs) e = elim (cases_Bool (bytes_eq f.name name)) as (λ _. first_bytes name (f ∷ fs) ≡ []) [
  | inl is ↦ absurd (cc (sym (ap (λ (b : Bool). cond b (Some n) (plain_from (n + 1) name fs)) is) ∙ e))
  | inr isnt ↦ ap (λ (b : Bool). cond b f.bytes (first_bytes name fs)) isnt ∙ found_none (n + 1) name fs (sym (ap (λ (b : Bool). cond b (Some n) (plain_from (n + 1) name fs)) isnt) ∙ e)
]

-- the bytes of the file of a name are those
pub bytes_first : (name : List ℕ) (store : List Plain) → bytes_of store name ≡ first_bytes name store
bytes_first name store = by (plain_of name store) refl
  where
    by : (o : Option ℕ) → plain_from 0 name store ≡ o → bytes_at store o ≡ first_bytes name store
    by None e = sym (found_none 0 name store e)
    by (Some place) e = ap (λ k. (plain_at store k).bytes) (let z : place ≡ place - 0 = omega arith in z) ∙ (found_first 0 name store place e).bytes

-- ---- new bytes

-- the store with new bytes of the first file of a name
abbrev pub renewed : List ℕ → (List ℕ → List ℕ) → List Plain → List Plain
renewed name new [] = []
renewed name new (f ∷ fs) = cond (bytes_eq f.name name) (record { name = f.name; bytes = new f.bytes } ∷ fs) (f ∷ renewed name new fs)

abbrev set_at : (List ℕ → List ℕ) → List Plain → ℕ → List Plain
set_at new store k = set store k (record { name = (plain_at store k).name; bytes = new (plain_at store k).bytes })

renews : (n : ℕ) (name : List ℕ) (new : List ℕ → List ℕ) (store : List Plain) (place : ℕ) → plain_from n name store ≡ Some place → (n ≤ place) × (set_at new store (place - n) ≡ renewed name new store)
renews n name new [] place e = absurd (cc e)
renews n name new (f ∷ fs) place e = elim (cases_Bool (bytes_eq f.name name)) as (λ _. (n ≤ place) × (set_at new (f ∷ fs) (place - n) ≡ renewed name new (f ∷ fs))) [
  | inl is ↦ (
      let here : Some n ≡ Some place = sym (ap (λ (b : Bool). cond b (Some n) (plain_from (n + 1) name fs)) is) ∙ e in
      let same : n ≡ place = cc here in (
        omega (arith, same),
        ap (set_at new (f ∷ fs)) (let z : place - n ≡ 0 = omega (arith, same) in z) ∙ sym (ap (λ (b : Bool). cond b (record { name = f.name; bytes = new f.bytes } ∷ fs) (f ∷ renewed name new fs)) is),
      )
      )
  | inr isnt ↦ (
      let rest = renews (n + 1) name new fs place (sym (ap (λ (b : Bool). cond b (Some n) (plain_from (n + 1) name fs)) isnt) ∙ e) in
      let behind = rest.0 in (
        omega (arith, behind),
        ap (set_at new (f ∷ fs)) (let z : place - n ≡ suc (place - (n + 1)) = omega (arith, behind) in z) ∙ ap (λ (xs : List Plain). f ∷ xs) rest.1 ∙ sym (ap (λ (b : Bool). cond b (record { name = f.name; bytes = new f.bytes } ∷ fs) (f ∷ renewed name new fs)) isnt),
      )
      )
]

renews_none : (n : ℕ) (name : List ℕ) (new : List ℕ → List ℕ) (store : List Plain) → plain_from n name store ≡ None → store ≡ renewed name new store
renews_none n name new [] e = refl
renews_none n name new (f ∷ fs) e = elim (cases_Bool (bytes_eq f.name name)) as (λ _. f ∷ fs ≡ renewed name new (f ∷ fs)) [
  | inl is ↦ absurd (cc (sym (ap (λ (b : Bool). cond b (Some n) (plain_from (n + 1) name fs)) is) ∙ e))
  | inr isnt ↦ ap (λ (xs : List Plain). f ∷ xs) (renews_none (n + 1) name new fs (sym (ap (λ (b : Bool). cond b (Some n) (plain_from (n + 1) name fs)) isnt) ∙ e)) ∙ sym (ap (λ (b : Bool). cond b (record { name = f.name; bytes = new f.bytes } ∷ fs) (f ∷ renewed name new fs)) isnt)
]

pub bytes_renewed : (name : List ℕ) (new : List ℕ → List ℕ) (store : List Plain) → with_bytes name new store ≡ renewed name new store
bytes_renewed name new store = by (plain_of name store) refl
  where
    by : (o : Option ℕ) → plain_from 0 name store ≡ o → with_bytes_at o new store ≡ renewed name new store
    by None e = renews_none 0 name new store e
    by (Some place) e = ap (set_at new store) (let z : place ≡ place - 0 = omega arith in z) ∙ (renews 0 name new store place e).1

-- a name that isn't the other
differs : (a b : List ℕ) → (a ≡ b → ⊥) → bytes_eq a b ≡ false
differs a b apart = elim (cases_Bool (bytes_eq a b)) as (λ _. bytes_eq a b ≡ false) [
  | inl is ↦ absurd (apart ((bytes_eq-Decides a b).0 is))
  | inr isnt ↦ isnt
]

other_first : (name other : List ℕ) (new : List ℕ → List ℕ) (store : List Plain) → (name ≡ other → ⊥) → first_bytes other (renewed name new store) ≡ first_bytes other store
other_first name other new [] apart = refl
other_first name other new (f ∷ fs) apart = by (bytes_eq f.name name) refl (other_first name other new fs apart)
  where
    by : (b : Bool) → bytes_eq f.name name ≡ b → first_bytes other (renewed name new fs) ≡ first_bytes other fs → first_bytes other (cond b (record { name = f.name; bytes = new f.bytes } ∷ fs) (f ∷ renewed name new fs)) ≡ first_bytes other (f ∷ fs)
    by true e rest =
        let isnt : bytes_eq f.name other ≡ false = differs f.name other (λ same. apart (sym ((bytes_eq-Decides f.name name).0 e) ∙ same)) in
        ap (λ (b : Bool). cond b (new f.bytes) (first_bytes other fs)) isnt ∙ sym (ap (λ (b : Bool). cond b f.bytes (first_bytes other fs)) isnt)
    by false e rest = ap (λ (bs : List ℕ). cond (bytes_eq f.name other) f.bytes bs) rest

-- files of other names keep their bytes
pub other_kept : (name other : List ℕ) (new : List ℕ → List ℕ) (store : List Plain) → (name ≡ other → ⊥) → bytes_of (with_bytes name new store) other ≡ bytes_of store other
other_kept name other new store apart =
    bytes_first other (with_bytes name new store) ∙ ap (first_bytes other) (bytes_renewed name new store) ∙ other_first name other new store apart ∙ sym (bytes_first other store)

own_first : (n : ℕ) (name : List ℕ) (new : List ℕ → List ℕ) (store : List Plain) (place : ℕ) → plain_from n name store ≡ Some place → first_bytes name (renewed name new store) ≡ new (first_bytes name store)
own_first n name new [] place e = absurd (cc e)
own_first n name new (f ∷ fs) place e = by (bytes_eq f.name name) refl e (λ e. own_first (n + 1) name new fs place e)
  where
    by : (b : Bool) → bytes_eq f.name name ≡ b → cond b (Some n) (plain_from (n + 1) name fs) ≡ Some place → (plain_from (n + 1) name fs ≡ Some place → first_bytes name (renewed name new fs) ≡ new (first_bytes name fs))
        → first_bytes name (cond b (record { name = f.name; bytes = new f.bytes } ∷ fs) (f ∷ renewed name new fs)) ≡ new (cond b f.bytes (first_bytes name fs))
    by true is e rest = ap (λ (b : Bool). cond b (new f.bytes) (first_bytes name fs)) is
    by false isnt e rest = ap (λ (b : Bool). cond b f.bytes (first_bytes name (renewed name new fs))) isnt ∙ rest e

-- and the file of this one has the new ones
pub own_new : (name : List ℕ) (new : List ℕ → List ℕ) (store : List Plain) (place : ℕ) → plain_of name store ≡ Some place → bytes_of (with_bytes name new store) name ≡ new (bytes_of store name)
own_new name new store place e =
    bytes_first name (with_bytes name new store) ∙ ap (first_bytes name) (bytes_renewed name new store) ∙ own_first 0 name new store place e ∙ ap new (sym (bytes_first name store))

-- ---- a file comes

added_first : (name other bytes : List ℕ) (store : List Plain) → (name ≡ other → ⊥) → first_bytes other (store ++ record { name = name; bytes = bytes } ∷ []) ≡ first_bytes other store
added_first name other bytes [] apart = ap (λ (b : Bool). cond b bytes []) (differs name other apart)
added_first name other bytes (f ∷ fs) apart = ap (λ (bs : List ℕ). cond (bytes_eq f.name other) f.bytes bs) (added_first name other bytes fs apart)

pub added_kept : (name other bytes : List ℕ) (store : List Plain) → (name ≡ other → ⊥) → bytes_of (with_file name bytes store) other ≡ bytes_of store other
added_kept name other bytes store apart = bytes_first other (with_file name bytes store) ∙ added_first name other bytes store apart ∙ sym (bytes_first other store)

new_first : (n : ℕ) (name bytes : List ℕ) (store : List Plain) → plain_from n name store ≡ None → first_bytes name (store ++ record { name = name; bytes = bytes } ∷ []) ≡ bytes
new_first n name bytes [] e = ap (λ (b : Bool). cond b bytes []) ((bytes_eq-Decides name name).1 refl)
new_first n name bytes (f ∷ fs) e = by (bytes_eq f.name name) e (λ e. new_first (n + 1) name bytes fs e)
  where
    by : (b : Bool) → cond b (Some n) (plain_from (n + 1) name fs) ≡ None → (plain_from (n + 1) name fs ≡ None → first_bytes name (fs ++ record { name = name; bytes = bytes } ∷ []) ≡ bytes) → cond b f.bytes (first_bytes name (fs ++ record { name = name; bytes = bytes } ∷ [])) ≡ bytes
    by true e rest = absurd (cc e)
    by false e rest = rest e

-- the new one has its bytes, where there was none of its name
pub added_new : (name bytes : List ℕ) (store : List Plain) → plain_of name store ≡ None → bytes_of (with_file name bytes store) name ≡ bytes
added_new name bytes store absent = bytes_first name (with_file name bytes store) ∙ new_first 0 name bytes store absent

-- ---- a file goes

-- the store without the first file of a name
abbrev pub dropped : List ℕ → List Plain → List Plain
dropped name [] = []
dropped name (f ∷ fs) = cond (bytes_eq f.name name) fs (f ∷ dropped name fs)

drops : (n : ℕ) (name : List ℕ) (store : List Plain) (place : ℕ) → plain_from n name store ≡ Some place → (n ≤ place) × (remove store (place - n) ≡ dropped name store)
drops n name [] place e = absurd (cc e)
drops n name (f ∷ fs) place e = elim (cases_Bool (bytes_eq f.name name)) as (λ _. (n ≤ place) × (remove (f ∷ fs) (place - n) ≡ dropped name (f ∷ fs))) [
  | inl is ↦ (
      let here : Some n ≡ Some place = sym (ap (λ (b : Bool). cond b (Some n) (plain_from (n + 1) name fs)) is) ∙ e in
      let same : n ≡ place = cc here in
      (omega (arith, same), ap (remove (f ∷ fs)) (let z : place - n ≡ 0 = omega (arith, same) in z) ∙ sym (ap (λ (b : Bool). cond b fs (f ∷ dropped name fs)) is))
      )
  | inr isnt ↦ (
      let rest = drops (n + 1) name fs place (sym (ap (λ (b : Bool). cond b (Some n) (plain_from (n + 1) name fs)) isnt) ∙ e) in
      let behind = rest.0 in
      (omega (arith, behind), ap (remove (f ∷ fs)) (let z : place - n ≡ suc (place - (n + 1)) = omega (arith, behind) in z) ∙ ap (λ (xs : List Plain). f ∷ xs) rest.1 ∙ sym (ap (λ (b : Bool). cond b fs (f ∷ dropped name fs)) isnt))
      )
]

drops_none : (n : ℕ) (name : List ℕ) (store : List Plain) → plain_from n name store ≡ None → store ≡ dropped name store
drops_none n name [] e = refl
drops_none n name (f ∷ fs) e = elim (cases_Bool (bytes_eq f.name name)) as (λ _. f ∷ fs ≡ dropped name (f ∷ fs)) [
  | inl is ↦ absurd (cc (sym (ap (λ (b : Bool). cond b (Some n) (plain_from (n + 1) name fs)) is) ∙ e))
  | inr isnt ↦ ap (λ (xs : List Plain). f ∷ xs) (drops_none (n + 1) name fs (sym (ap (λ (b : Bool). cond b (Some n) (plain_from (n + 1) name fs)) isnt) ∙ e)) ∙ sym (ap (λ (b : Bool). cond b fs (f ∷ dropped name fs)) isnt)
]

pub without_dropped : (name : List ℕ) (store : List Plain) → without_file name store ≡ dropped name store
without_dropped name store = by (plain_of name store) refl
  where
    by : (o : Option ℕ) → plain_from 0 name store ≡ o → without_file_at o store ≡ dropped name store
    by None e = drops_none 0 name store e
    by (Some place) e = ap (remove store) (let z : place ≡ place - 0 = omega arith in z) ∙ (drops 0 name store place e).1

dropped_first : (name other : List ℕ) (store : List Plain) → (name ≡ other → ⊥) → first_bytes other (dropped name store) ≡ first_bytes other store
dropped_first name other [] apart = refl
dropped_first name other (f ∷ fs) apart = by (bytes_eq f.name name) refl (dropped_first name other fs apart)
  where
    by : (b : Bool) → bytes_eq f.name name ≡ b → first_bytes other (dropped name fs) ≡ first_bytes other fs → first_bytes other (cond b fs (f ∷ dropped name fs)) ≡ first_bytes other (f ∷ fs)
    by true e rest = sym (ap (λ (b : Bool). cond b f.bytes (first_bytes other fs)) (differs f.name other (λ same. apart (sym ((bytes_eq-Decides f.name name).0 e) ∙ same))))
    by false e rest = ap (λ (bs : List ℕ). cond (bytes_eq f.name other) f.bytes bs) rest

-- the others keep their bytes
pub taken_kept : (name other : List ℕ) (store : List Plain) → (name ≡ other → ⊥) → bytes_of (without_file name store) other ≡ bytes_of store other
taken_kept name other store apart = bytes_first other (without_file name store) ∙ ap (first_bytes other) (without_dropped name store) ∙ dropped_first name other store apart ∙ sym (bytes_first other store)
