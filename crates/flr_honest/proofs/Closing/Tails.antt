-- The tails that were punched for a truncate are the stripes whose calls landed.
use Rattle.std.proofs.Common.{◌≡◌, ℕ, zero, suc, ◌+◌, ◌-◌, ◌≤◌, Bool, true, false, ◌&&◌, eqb, List, [], ◌∷◌, ◌++◌, map, find, Option, Some, None, inl, inr, refl, sym, ap, subst, ◌∙◌, arith, ◌⊎◌}
use Rattle.std.specs.Prelude.{slice_get}
use Rattle.std.specs.List.{flat_map, list_any}
use Rattle.std.specs.Option.{option_map_or}
use Rattle.std.proofs.lemmas.Bool.{and_from, and_parts, eqb-true, eq-eqb}
use Rattle.flr_base.specs.declared.reply.ObjectId.{ObjectId}
use Rattle.stripe_map.specs.Places.{place_of}
use Rattle.composite_layout.specs.declared.component.Component.{Component}
use Rattle.mirror_select.specs.Tails.{StripeObject, stripes_from, stripes_in}
use Rattle.mirror_select.proofs.Least.{In, any_in, found_in, found_none}
use Rattle.object_target.specs.declared.call.CallKind.TheVariants as kind
use Rattle.object_target.specs.declared.fail.Fail.{Fail}
use Rattle.flr_steps.specs.Traces.{Made, has_landed}
use Rattle.plain_files.specs.Files.{SentTail, is_in, is_punched}
use Rattle.flr_claims.specs.Sending.{OfTruncate, is_stripe_of, tail_for}
use Rattle.flr_shapes.specs.Sentences.{IsStripeIn, Shape}
use Rattle.flr_bytes.specs.Sent.{AreSentFor, IsCallOn}
use Rattle.flr_honest.proofs.Closing.Lists.{either, first_passes, second_passes}

-- whether a stripe has the byte
abbrev pub has_stripe : ℕ → StripeObject → Bool
has_stripe x s = is_in x s.component.extent && eqb (place_of x s.component.stripe).index s.index

-- a stripe has this byte, and its call landed
pub record IsLandedTail (fails : List Fail) (ss : List StripeObject) (ms : List Made) (x : ℕ) : Type 0 where
  pub place : ℕ
  pub stripe : StripeObject
  pub there : slice_get ss place ≡ Some stripe
  pub made : Made
  pub sent : slice_get ms place ≡ Some made
  pub landed : has_landed fails made ≡ true
  pub over : has_stripe x stripe ≡ true

-- what a call punched of a stripe
abbrev pub tail_sent : List Fail → StripeObject → Made → SentTail
tail_sent fails s m = record { extent = s.component.extent; stripe = s.component.stripe; index = s.index; is_new = has_landed fails m }

module _ (fails : List Fail) (size : ℕ) (cs : List Component) where
  -- each call that was sent for one of these stripes punched that
  abbrev pub PunchEach : List StripeObject → Type 0
  PunchEach ss = (s : StripeObject) → In s ss → (m : Made) → IsCallOn kind.Punch s.object m → tail_for fails cs m ≡ tail_sent fails s m ∷ []

  module _ (x : ℕ) where
    -- a byte that is punched is one of a stripe whose call landed
    pub punched_landed : (ss : List StripeObject) (ms : List Made) → PunchEach ss → AreSentFor (map (OfTruncate size) ss) ms → is_punched (flat_map (tail_for fails cs) ms) x ≡ true → IsLandedTail fails ss ms x
    punched_landed ss [] each sent e = absurd (cc)
    punched_landed [] (m ∷ ms) each sent e = absurd sent
    punched_landed (s ∷ ss) (m ∷ ms) each sent e =
        let one = each s (inl refl) m sent.0 in
        let rest : List SentTail = flat_map (tail_for fails cs) ms in
        elim (either (has_landed fails m && has_stripe x s) (is_punched rest x) (subst (λ (ts : List SentTail). is_punched (ts ++ rest) x ≡ true) one e)) as (λ _. IsLandedTail fails (s ∷ ss) (m ∷ ms) x) [
          | inl here ↦ (let parts = and_parts (has_landed fails m) (has_stripe x s) here in record { place = 0; stripe = s; there = refl; made = m; sent = refl; landed = parts.0; over = parts.1 })
          | inr later ↦ (
              let found = punched_landed ss ms (λ k i. each k (inr i)) sent.1 later in
              record { place = suc found.place; stripe = found.stripe; there = found.there; made = found.made; sent = found.sent; landed = found.landed; over = found.over }
              )
        ]

    -- and each byte of a stripe whose call landed is punched
    pub landed_punched : (ss : List StripeObject) (ms : List Made) → PunchEach ss → AreSentFor (map (OfTruncate size) ss) ms → (place : ℕ) (s : StripeObject) (m : Made) → slice_get ss place ≡ Some s → slice_get ms place ≡ Some m
        → has_landed fails m ≡ true → has_stripe x s ≡ true → is_punched (flat_map (tail_for fails cs) ms) x ≡ true
    landed_punched ss [] each sent place s m e d landed over = absurd (cc)
    landed_punched [] (n ∷ ms) each sent place s m e d landed over = absurd sent
    landed_punched (r ∷ ss) (n ∷ ms) each sent zero s m e d landed over =
        let one = each r (inl refl) n sent.0 in
        let rest : List SentTail = flat_map (tail_for fails cs) ms in
        let mine : n ≡ m = cc in
        let same : r ≡ s = cc in
        subst (λ (ts : List SentTail). is_punched (ts ++ rest) x ≡ true) (sym one)
        (first_passes (has_landed fails n && has_stripe x r) (is_punched rest x) (and_from (has_landed fails n) (has_stripe x r) (ap (has_landed fails) mine ∙ landed) (ap (has_stripe x) same ∙ over)))
    landed_punched (r ∷ ss) (n ∷ ms) each sent (suc place) s m e d landed over =
        let one = each r (inl refl) n sent.0 in
        let rest : List SentTail = flat_map (tail_for fails cs) ms in
        subst (λ (ts : List SentTail). is_punched (ts ++ rest) x ≡ true) (sym one)
        (second_passes (has_landed fails n && has_stripe x r) (is_punched rest x) (landed_punched ss ms (λ k i. each k (inr i)) sent.1 place s m e d landed over))

-- ---- the stripe of a punched object

-- a stripe of a component
stripe_of : (c : Component) (i : ℕ) (os : List ObjectId) (s : StripeObject) → In s (stripes_from c i os) → (s.component ≡ c) × (i ≤ s.index) × (slice_get os (s.index - i) ≡ Some s.object)
stripe_of c i [] s h = absurd h
stripe_of c i (o ∷ os) s (inl same) =
    let index : i ≡ s.index = ap (λ (k : StripeObject). k.index) same in
    let none : s.index - i ≡ 0 = omega (arith, index) in
    (sym (ap (λ (k : StripeObject). k.component) same), omega (arith, index), ap (slice_get (o ∷ os)) none ∙ ap (λ (k : StripeObject). Some k.object) same)
stripe_of c i (o ∷ os) s (inr more) =
    let rest = stripe_of c (i + 1) os s more in
    let low = rest.1 in
    let one : s.index - i ≡ suc (s.index - (i + 1)) = omega (arith, low) in
    (rest.0, omega (arith, low), ap (slice_get (o ∷ os)) one ∙ rest.2)

is_stripe : (c : Component) (i : ℕ) (os : List ObjectId) (k : ℕ) (o : ObjectId) → slice_get os k ≡ Some o → In (record { component = c; index = i + k; object = o }) (stripes_from c i os)
is_stripe c i [] k o e = absurd (cc)
is_stripe c i (p ∷ os) zero o e =
    let same : p ≡ o = cc in
    let none : i ≡ i + 0 = omega arith in
    inl (λ j. record { component = c; index = none j; object = same j })
is_stripe c i (p ∷ os) (suc k) o e =
    let more : (i + 1) + k ≡ i + suc k = omega arith in
    inr (subst (λ n. In (record { component = c; index = n; object = o }) (stripes_from c (i + 1) os)) more (is_stripe c (i + 1) os k o e))

in_left : {X : Type 0} (x : X) (xs ys : List X) → In x xs → In x (xs ++ ys)
in_left x [] ys h = absurd h
in_left x (z ∷ xs) ys (inl same) = inl same
in_left x (z ∷ xs) ys (inr more) = inr (in_left x xs ys more)

in_right : {X : Type 0} (x : X) (xs ys : List X) → In x ys → In x (xs ++ ys)
in_right x [] ys h = h
in_right x (z ∷ xs) ys h = inr (in_right x xs ys h)

in_either : {X : Type 0} (x : X) (xs ys : List X) → In x (xs ++ ys) → In x xs ⊎ In x ys
in_either x [] ys h = inr h
in_either x (z ∷ xs) ys (inl same) = inl (inl same)
in_either x (z ∷ xs) ys (inr more) = elim (in_either x xs ys more) as (λ _. In x (z ∷ xs) ⊎ In x ys) [ inl l ↦ inl (inr l) | inr r ↦ inr r ]

has_shape : (cs : List Component) (s : StripeObject) → In s (flat_map stripes_in cs) → IsStripeIn s.object (record { extent = s.component.extent; stripe = s.component.stripe; index = s.index }) cs
has_shape [] s h = absurd h
has_shape (c ∷ cs) s h = elim (in_either s (stripes_in c) (flat_map stripes_in cs) h) as (λ _. IsStripeIn s.object (record { extent = s.component.extent; stripe = s.component.stripe; index = s.index }) (c ∷ cs)) [
  | inl here ↦ (
      let is = stripe_of c 0 c.objects s here in
      let none : s.index ≡ s.index - 0 = omega arith in
      inl (sym (ap (λ (k : Component). k.extent) is.0), sym (ap (λ (k : Component). k.stripe) is.0), ap (slice_get c.objects) none ∙ is.2)
      )
  | inr later ↦ inr (has_shape cs s later)
]

-- a stripe of a listed component stands among them
pub stands_among : (cs : List Component) (s : StripeObject) → In s.component cs → slice_get s.component.objects s.index ≡ Some s.object → In s (flat_map stripes_in cs)
stands_among [] s listed e = absurd listed
stands_among (c ∷ cs) s (inl same) e =
    in_left s (stripes_in c) (flat_map stripes_in cs) (subst (λ (k : Component). In s (stripes_in k)) (sym same) (subst (λ n. In (record { component = s.component; index = n; object = s.object }) (stripes_in s.component)) (let none : 0 + s.index ≡ s.index = omega arith in none) (is_stripe s.component 0 s.component.objects s.index s.object e)))
stands_among (c ∷ cs) s (inr more) e = in_right s (stripes_in c) (flat_map stripes_in cs) (stands_among cs s more e)

-- where an object has one shape, the call on the object of a stripe punched that stripe
pub punches_own : (fails : List Fail) (cs : List Component) → ((o : ObjectId) (a b : Shape) → IsStripeIn o a cs → IsStripeIn o b cs → a ≡ b) → (s : StripeObject) (m : Made) → In s (flat_map stripes_in cs) → IsCallOn kind.Punch s.object m
    → tail_for fails cs m ≡ tail_sent fails s m ∷ []
punches_own fails cs shapes s m listed on = by (find test (flat_map stripes_in cs)) refl
  where
    test : StripeObject → Bool
    test k = is_stripe_of m.target m.entry.object k

    is_it : test s ≡ true
    is_it = and_from (eqb s.object.target m.target) (eqb s.object.number m.entry.object) (eq-eqb s.object.target m.target (sym on.target)) (eq-eqb s.object.number m.entry.object (sym on.object))

    by : (o : Option StripeObject) → find test (flat_map stripes_in cs) ≡ o
        → option_map_or (λ (k : StripeObject). record { extent = k.component.extent; stripe = k.component.stripe; index = k.index; is_new = has_landed fails m } ∷ []) o [] ≡ tail_sent fails s m ∷ []
    by None e = let no : list_any test (flat_map stripes_in cs) ≡ false = found_none test (flat_map stripes_in cs) e in let yes = any_in test (flat_map stripes_in cs) s listed is_it in absurd (cc)
    by (Some k) e =
        let found = found_in test (flat_map stripes_in cs) k e in
        let parts = and_parts (eqb k.object.target m.target) (eqb k.object.number m.entry.object) found.1 in
        let target : k.object.target ≡ s.object.target = eqb-true k.object.target m.target parts.0 ∙ on.target in
        let number : k.object.number ≡ s.object.number = eqb-true k.object.number m.entry.object parts.1 ∙ on.object in
        let same : k.object ≡ s.object = λ j. record { target = target j; number = number j } in
        let theirs = subst (λ (o : ObjectId). IsStripeIn o (record { extent = k.component.extent; stripe = k.component.stripe; index = k.index }) cs) same (has_shape cs k found.0) in
        let one = shapes s.object (record { extent = k.component.extent; stripe = k.component.stripe; index = k.index }) (record { extent = s.component.extent; stripe = s.component.stripe; index = s.index }) theirs (has_shape cs s listed) in
        ap (λ (h : Shape). record { extent = h.extent; stripe = h.stripe; index = h.index; is_new = has_landed fails m } ∷ []) one
