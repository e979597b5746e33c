-- Laws of the objects of a target.
use Rattle.std.proofs.Common.{◌≡◌, ◌≢◌, ℕ, ◌<◌, true, false, cond, List, [], ◌∷◌, Option, Some, None, refl, ap, ◌∙◌, sym, length, get_or, inl, inr, arith}
use Rattle.std.specs.Prelude.{IsSome, is_some, unwrap_or}
use Rattle.std.specs.BTreeMap.{insert_entry, is_at}
use Rattle.std.specs.Cmp.{nat_cmp_is}
use Rattle.std.specs.List.{AllByRecursion}
use Rattle.std.specs.List.Sorted.{IsStrictlySortedBy}
use Rattle.std.specs.Map.{set_value, keys_of}
use Rattle.std.specs.Ordering.{nat_cmp, is_eq, match_ordering}
use Rattle.std.specs.declared.cmp.Ordering.{Ordering}
use Rattle.std.specs.declared.cmp.Ordering.TheVariants.{Less, Equal, Greater}
use Rattle.std.proofs.lemmas.Bool.{cases_lt, cases_eq, false≢true}
use Rattle.std.proofs.lemmas.Map.Steps.{set_value_same}
use Rattle.std.specs.Prelude.{take}
use Rattle.flr_base.specs.Bytes.{piece}
use Rattle.flr_base.proofs.Bytes.{is_piece}
use Rattle.object_target.specs.declared.objects.Object.{Object}
use Rattle.object_target.specs.Objects.{kept_object, object_in, bytes_in, version_in, put, with_cut}

-- less, equal or greater
pub by_order : (P : Type 0) (x y : ℕ) → (x < y → nat_cmp x y ≡ Less → P) → (x ≡ y → nat_cmp x y ≡ Equal → P) → (y < x → nat_cmp x y ≡ Greater → P) → P
by_order P x y less equal greater =
    elim (cases_lt x y) [
      | inl low ↦ less low (sym (nat_cmp_is x y Less low))
      | inr high ↦ elim (cases_eq x y) [
        | inl same ↦ equal same (sym (nat_cmp_is x y Equal same))
        | inr apart ↦ let over : y < x = omega arith in greater over (sym (nat_cmp_is x y Greater over))
      ]
    ]

-- what is less
below_from_less : (x y : ℕ) → nat_cmp x y ≡ Less → x < y
below_from_less x y is_less = by_order (x < y) x y (λ low e. low) (λ same e. absurd (cc)) (λ high e. absurd (cc))

-- below all keys there is no object
none_below : (k low : ℕ) → k < low → (es : List (ℕ × Object)) → AllByRecursion (λ y. nat_cmp low y ≡ Less) (keys_of es) → kept_object es k ≡ None
none_below k low below [] above = refl
none_below k low below (e ∷ es) above =
    let far : low < e.0 = below_from_less low e.0 above.0 in
    let less : nat_cmp k e.0 ≡ Less = sym (nat_cmp_is k e.0 Less (omega arith)) in
    ap (λ o. cond (is_eq o) (Some e.1) (kept_object es k)) less ∙ none_below k low below es above.1

module _ (k : ℕ) (w : Object) where
  -- the value of a key that is there, set, is the entry put
  pub set_value-put : (es : List (ℕ × Object)) → IsStrictlySortedBy nat_cmp (keys_of es) → IsSome (kept_object es k) → set_value (is_at (nat_cmp k)) es w ≡ put es k w
  unfolding put IsStrictlySortedBy
  set_value-put [] sorted found = absurd (false≢true found)
  set_value-put (e ∷ es) sorted found =
      let set : Ordering → List (ℕ × Object) = λ o. cond (is_eq o) ((e.0, w) ∷ es) (e ∷ set_value (is_at (nat_cmp k)) es w) in
      let ins : Ordering → List (ℕ × Object) = λ o. match_ordering o ((k, w) ∷ e ∷ es) ((e.0, w) ∷ es) (e ∷ insert_entry nat_cmp es k w) in
      let seen : Ordering → Option Object = λ o. cond (is_eq o) (Some e.1) (kept_object es k) in
      by_order (set (nat_cmp k e.0) ≡ ins (nat_cmp k e.0)) k e.0
      (λ low less. absurd (false≢true (sym (ap is_some (ap seen less ∙ none_below k e.0 low es sorted.0)) ∙ found)))
      (λ same equal. ap set equal ∙ sym (ap ins equal))
      (λ high greater. ap set greater ∙ ap (λ rest. e ∷ rest) (set_value-put es sorted.1 (sym (ap is_some (ap seen greater)) ∙ found)) ∙ sym (ap ins greater))

  -- an object that was put is kept
  pub kept-put_same : (es : List (ℕ × Object)) → kept_object (put es k w) k ≡ Some w
  unfolding put
  kept-put_same [] = by_order (cond (is_eq (nat_cmp k k)) (Some w) None ≡ Some w) k k (λ low e. absurd (omega arith)) (λ same e. ap (λ o. cond (is_eq o) (Some w) None) e) (λ high e. absurd (omega arith))
  kept-put_same (e ∷ es) =
      let ins : Ordering → List (ℕ × Object) = λ o. match_ordering o ((k, w) ∷ e ∷ es) ((e.0, w) ∷ es) (e ∷ insert_entry nat_cmp es k w) in
      let itself : nat_cmp k k ≡ Equal = sym (nat_cmp_is k k Equal refl) in
      by_order (kept_object (ins (nat_cmp k e.0)) k ≡ Some w) k e.0
      (λ low less. ap (λ o. kept_object (ins o) k) less ∙ ap (λ o. cond (is_eq o) (Some w) (kept_object (e ∷ es) k)) itself)
      (λ same equal. ap (λ o. kept_object (ins o) k) equal ∙ ap (λ o. cond (is_eq o) (Some w) (kept_object es k)) equal)
      (λ high greater. ap (λ o. kept_object (ins o) k) greater ∙ ap (λ o. cond (is_eq o) (Some e.1) (kept_object (insert_entry nat_cmp es k w) k)) greater ∙ kept-put_same es)

  -- and every other object is as it was
  pub kept-put_other : (q : ℕ) → q ≢ k → (es : List (ℕ × Object)) → kept_object (put es k w) q ≡ kept_object es q
  unfolding put
  kept-put_other q apart [] = by_order (cond (is_eq (nat_cmp q k)) (Some w) None ≡ None) q k (λ low e. ap (λ o. cond (is_eq o) (Some w) None) e) (λ same e. absurd (apart same)) (λ high e. ap (λ o. cond (is_eq o) (Some w) None) e)
  kept-put_other q apart (e ∷ es) =
      let ins : Ordering → List (ℕ × Object) = λ o. match_ordering o ((k, w) ∷ e ∷ es) ((e.0, w) ∷ es) (e ∷ insert_entry nat_cmp es k w) in
      let other : is_eq (nat_cmp q k) ≡ false = by_order (is_eq (nat_cmp q k) ≡ false) q k (λ low o. ap is_eq o) (λ same o. absurd (apart same)) (λ high o. ap is_eq o) in
      by_order (kept_object (ins (nat_cmp k e.0)) q ≡ kept_object (e ∷ es) q) k e.0
      (λ low less. ap (λ o. kept_object (ins o) q) less ∙ ap (λ b. cond b (Some w) (kept_object (e ∷ es) q)) other)
      (λ same equal. ap (λ o. kept_object (ins o) q) equal
      ∙ ap (λ b. cond b (Some w) (kept_object es q)) (ap (λ n. is_eq (nat_cmp q n)) (sym same) ∙ other)
      ∙ sym (ap (λ b. cond b (Some e.1) (kept_object es q)) (ap (λ n. is_eq (nat_cmp q n)) (sym same) ∙ other)))
      (λ high greater. ap (λ o. kept_object (ins o) q) greater
      ∙ ap (λ found. cond (is_eq (nat_cmp q e.0)) (Some e.1) found) (kept-put_other q apart es))

-- the object that was put, and every other
pub object-put_same : (es : List (ℕ × Object)) (k : ℕ) (w : Object) → object_in (put es k w) k ≡ w
object-put_same es k w = ap (λ o. unwrap_or o (record { content = []; version = 0 })) (kept-put_same k w es)

pub object-put_other : (es : List (ℕ × Object)) (k : ℕ) (w : Object) (q : ℕ) → q ≢ k → object_in (put es k w) q ≡ object_in es q
object-put_other es k w q apart = ap (λ o. unwrap_or o (record { content = []; version = 0 })) (kept-put_other k w q apart es)

-- an object that is kept, changed in its place
pub set_value-changed : (f : Object → Object) (es objects : List (ℕ × Object)) (number : ℕ) (was w : Object) → es ≡ objects → IsStrictlySortedBy nat_cmp (keys_of es) → Some was ≡ kept_object es number → w ≡ f was → set_value (is_at (nat_cmp number)) es w ≡ put objects number (f (object_in objects number))
set_value-changed f es objects number was w same sorted found changed =
    let there : IsSome (kept_object es number) = ap is_some (sym found) in
    let it : was ≡ object_in es number = ap (λ o. unwrap_or o (record { content = []; version = 0 })) found in
    set_value-put number w es sorted there
    ∙ ap (put es number) (changed ∙ ap f it)
    ∙ ap (λ os. put os number (f (object_in os number))) same

-- an object that is written back as it was
pub set_value-unchanged : (es objects : List (ℕ × Object)) (number : ℕ) (was w : Object) → es ≡ objects → Some was ≡ kept_object es number → w ≡ was → set_value (is_at (nat_cmp number)) es w ≡ objects
set_value-unchanged es objects number was w same found unchanged =
    set_value_same (is_at (nat_cmp number)) es w (sym found ∙ ap (λ o. Some o) (sym unchanged)) ∙ same

-- zeros are a piece of an object without bytes
pub zeros-piece : (zeros : List ℕ) (offset n : ℕ) → length zeros ≡ n → ((k : ℕ) → get_or zeros k 0 ≡ 0) → zeros ≡ piece [] offset n
zeros-piece zeros offset n long each = is_piece zeros [] offset n long (λ k below. each k)

-- a cut of an object that is kept
pub with_cut_kept : (objects : List (ℕ × Object)) (number offset : ℕ) → is_some (kept_object objects number) ≡ true → with_cut objects number offset ≡ put objects number (record { content = take offset (bytes_in objects number); version = version_in objects number })
with_cut_kept objects number offset there =
    ap (λ b. cond b (put objects number (record { content = take offset (bytes_in objects number); version = version_in objects number })) objects) there

-- a cut of one that isn't
pub with_cut_absent : (objects : List (ℕ × Object)) (number offset : ℕ) → is_some (kept_object objects number) ≡ false → with_cut objects number offset ≡ objects
with_cut_absent objects number offset absent =
    ap (λ b. cond b (put objects number (record { content = take offset (bytes_in objects number); version = version_in objects number })) objects) absent
