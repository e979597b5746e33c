-- The calls of an attempt, one after another.
use Rattle.std.proofs.Common.{◌≡◌, ℕ, zero, suc, ◌+◌, ◌<◌, ◌≤◌, Bool, true, false, ◌||◌, List, [], ◌∷◌, ◌++◌, length, map, take, get_or, Option, Some, refl, sym, ap, subst, ◌∙◌, length-append, arith}
use Rattle.std.specs.List.{list_any}
use Rattle.std.proofs.lemmas.List.{length-map, length-take-le, map-append, take-map, take_more}
use Rattle.meta_server.specs.declared.answers.Opened.{Opened}
use Rattle.client_write.specs.Attempts.{AreFirstOf, Attempt, CallsTarget, IsInOrder, TargetCall, as_accepted, has_accepted, is_accepted, with_deed}

module _ {P : Type 0} (f : P → TargetCall) (same : (p : P) → as_accepted (f p) ≡ f p) where
  -- accepted calls are as they are
  all_accepted : (ps : List P) → map as_accepted (map f ps) ≡ map f ps
  all_accepted [] = refl
  all_accepted (p ∷ ps) = let here = same p in let rest = all_accepted ps in cc

  -- the first so many parts
  first_count : (ps : List P) (n : ℕ) → n ≤ length ps → length (map f (take n ps)) ≡ n
  first_count ps n h = length-map (take n ps) f ∙ length-take-le n ps h

  -- one more is accepted
  pub grown : (ps : List P) (n : ℕ) (d : P) → n < length ps → map f (take n ps) ++ f (get_or ps n d) ∷ [] ≡ map f (take (n + 1) ps)
  grown ps n d h = sym (map-append f (take n ps) (get_or ps n d ∷ [])) ∙ ap (map f) (sym (take_more ps n d h))

  -- the calls of the first so many parts are the first of all
  pub first_accepted : (ps : List P) (n : ℕ) → n ≤ length ps → map as_accepted (map f (take n ps)) ≡ take (length (map f (take n ps))) (map f ps)
  first_accepted ps n h = all_accepted (take n ps) ∙ sym (take-map f n ps) ∙ ap (λ k. take k (map f ps)) (sym (first_count ps n h))

  -- so they are with a call of the next part, whatever it was answered
  pub first_and_next : (ps : List P) (n : ℕ) (d : P) (call : TargetCall) → n < length ps → as_accepted call ≡ f (get_or ps n d) →
      map as_accepted (map f (take n ps) ++ call ∷ []) ≡ take (length (map f (take n ps) ++ call ∷ [])) (map f ps)
  first_and_next ps n d call h e =
      let count : length (map f (take n ps) ++ call ∷ []) ≡ n + 1 = omega (arith, length-append (map f (take n ps)) (call ∷ []), first_count ps n (omega (arith, h))) in
      map-append as_accepted (map f (take n ps)) (call ∷ [])
      ∙ ap (λ (l : List TargetCall). l ++ as_accepted call ∷ []) (all_accepted (take n ps))
      ∙ ap (λ (c : TargetCall). map f (take n ps) ++ c ∷ []) e
      ∙ grown ps n d h
      ∙ sym (take-map f (n + 1) ps)
      ∙ ap (λ k. take k (map f ps)) (sym count)

  -- an accepted part is among them
  pub one_accepted : ((p : P) → is_accepted (f p).entry.answer ≡ true) → (ps : List P) (n : ℕ) (rest : List TargetCall) → 0 < n → n < length ps →
      list_any (λ (call : TargetCall). is_accepted call.entry.answer) (map f (take n ps) ++ rest) ≡ true
  one_accepted ok [] n rest some h = absurd (omega (arith, h))
  one_accepted ok (p ∷ ps) zero rest some h = absurd (omega (arith, some))
  one_accepted ok (p ∷ ps) (suc n) rest some h =
      ap (λ b. b || list_any (λ (call : TargetCall). is_accepted call.entry.answer) (map f (take n ps) ++ rest)) (ok p)

-- the attempt made these calls, by this open, whose parts are those of this list
pub record HasMade {P : Type 0} (f : Opened → P → TargetCall) (parts_of : Opened → List P) (o : Opened) (ps : List P) (count : ℕ) (a : Attempt) : Type 0 where
  pub opened : a.opened ≡ Some o
  pub parts : ps ≡ parts_of o
  pub few : count ≤ length ps
  pub calls : a.calls ≡ map (f o) (take count ps)

module _ {P : Type 0} (f : Opened → P → TargetCall) (same : (o : Opened) (p : P) → as_accepted (f o p) ≡ f o p) (parts_of : Opened → List P) where
  -- the calls that an open wants
  abbrev wanted : Opened → List TargetCall
  wanted o = map (f o) (parts_of o)

  -- an attempt whose calls were all accepted is in order
  pub made_in_order : (o : Opened) (parts : List P) (count : ℕ) (a : Attempt) → HasMade f parts_of o parts count a → IsInOrder (λ o. map (f o) (parts_of o)) a
  made_in_order o parts count a h =
      subst (λ (opened : Option Opened). AreFirstOf wanted opened a.calls) (sym h.opened)
      (subst (λ (calls : List TargetCall). map as_accepted calls ≡ take (length calls) (wanted o)) (sym h.calls)
      (subst (λ (ps : List P). map as_accepted (map (f o) (take count parts)) ≡ take (length (map (f o) (take count parts))) (map (f o) ps)) h.parts
      (first_accepted (f o) (same o) parts count h.few)))

  -- it stays so with the next call, whatever it is answered
  pub next_in_order : (o : Opened) (parts : List P) (count : ℕ) (d : P) (call : TargetCall) (a : Attempt) → HasMade f parts_of o parts count a → count < length parts →
      as_accepted call ≡ f o (get_or parts count d) → IsInOrder (λ o. map (f o) (parts_of o)) (with_deed a (CallsTarget call))
  next_in_order o parts count d call a h more e =
      subst (λ (opened : Option Opened). AreFirstOf wanted opened (a.calls ++ call ∷ [])) (sym h.opened)
      (subst (λ (calls : List TargetCall). map as_accepted (calls ++ call ∷ []) ≡ take (length (calls ++ call ∷ [])) (wanted o)) (sym h.calls)
      (subst (λ (ps : List P). map as_accepted (map (f o) (take count parts) ++ call ∷ []) ≡ take (length (map (f o) (take count parts) ++ call ∷ [])) (map (f o) ps)) h.parts
      (first_and_next (f o) (same o) parts count d call more e)))

  -- one more was accepted
  pub made_more : (o : Opened) (parts : List P) (count : ℕ) (d : P) (a : Attempt) → HasMade f parts_of o parts count a → count < length parts →
      HasMade f parts_of o parts (count + 1) (with_deed a (CallsTarget (f o (get_or parts count d))))
  made_more o parts count d a h more = record {
    opened = h.opened;
    parts = h.parts;
    few = omega (arith, more);
    calls = ap (λ (calls : List TargetCall). calls ++ f o (get_or parts count d) ∷ []) h.calls ∙ grown (f o) (same o) parts count d more;
  }

  -- with a part accepted before the next call, one is accepted
  pub made_some : ((o : Opened) (p : P) → is_accepted (f o p).entry.answer ≡ true) → (o : Opened) (parts : List P) (count : ℕ) (call : TargetCall) (a : Attempt) →
      HasMade f parts_of o parts count a → 0 < count → count < length parts → has_accepted (with_deed a (CallsTarget call)) ≡ true
  made_some ok o parts count call a h some more =
      ap (λ (calls : List TargetCall). list_any (λ (c : TargetCall). is_accepted c.entry.answer) (calls ++ call ∷ [])) h.calls
      ∙ one_accepted (f o) (same o) (ok o) parts count (call ∷ []) some more

  -- with none accepted before the next call, and that one neither, none is
  pub made_none : (o : Opened) (parts : List P) (call : TargetCall) (a : Attempt) → HasMade f parts_of o parts 0 a → is_accepted call.entry.answer ≡ false →
      has_accepted (with_deed a (CallsTarget call)) ≡ false
  made_none o parts call a h refused =
      ap (λ (calls : List TargetCall). list_any (λ (c : TargetCall). is_accepted c.entry.answer) (calls ++ call ∷ [])) h.calls
      ∙ ap (λ b. b || false) refused

-- a file that is there where a part was accepted, and isn't: none was
pub none_where_gone : (has there : Bool) → (has ≡ true → there ≡ true) → there ≡ false → has ≡ false
none_where_gone false there keeps gone = refl
none_where_gone true there keeps gone = let is = keeps refl in absurd (cc)
