-- One text put behind another.
use Rattle.std.proofs.Common.{◌≡◌, ℕ, ◌+◌, ◌<◌, List, [], ◌∷◌, ◌++◌, length, get_or, take, drop, refl, sym, ap, subst, ◌∙◌, append_assoc}
use Rattle.std.specs.List.{flat_map}
use Rattle.std.proofs.lemmas.List.{append-nil, take-append-drop, at_drop_more, drop_at}
use Rattle.std.proofs.lemmas.List.Concat.{flat_map-append}
use Rattle.std.specs.Prelude.{Result, Ok, Err, IsErr}
use Rattle.flr_base.specs.Puts.{PutsFront, Puts}

-- nothing is put
pub front_none : (old text : List ℕ) → PutsFront old old text
unfolding PutsFront
front_none old text = ([], text, sym (append-nil old), refl)

-- all is put
pub front_whole : (old text : List ℕ) → PutsFront old (old ++ text) text
unfolding PutsFront
front_whole old text = (text, [], refl, sym (append-nil text))

-- a front of the first text is one of both
pub front_more : (old new text more : List ℕ) → PutsFront old new text → PutsFront old new (text ++ more)
unfolding PutsFront
front_more old new text more p = (p.0, p.1 ++ more, p.2, ap (λ (t : List ℕ). t ++ more) p.3 ∙ append_assoc p.0 p.1 more)

-- the same where the second is what is left of the text
pub front_begin : (old new first text : List ℕ) → PutsFront old new first → text ≡ first ++ drop (length first) text → PutsFront old new text
front_begin old new first text p e = subst (PutsFront old new) (sym e) (front_more old new first (drop (length first) text) p)

-- the first text is put whole, and a front of the second
pub front_join : (old new text more : List ℕ) → PutsFront (old ++ text) new more → PutsFront old new (text ++ more)
unfolding PutsFront
front_join old new text more p = (text ++ p.0, p.1, p.2 ∙ append_assoc old text p.0, ap (λ (x : List ℕ). text ++ x) p.3 ∙ sym (append_assoc text p.0 p.1))

-- the same for one byte
pub front_byte : (old mid new : List ℕ) (byte : ℕ) (more : List ℕ) → mid ≡ old ++ byte ∷ [] → PutsFront mid new more → PutsFront old new (byte ∷ more)
front_byte old mid new byte more m p = front_join old new (byte ∷ []) more (subst (λ (xs : List ℕ). PutsFront xs new more) m p)

-- ---- for answers by hand

-- after a failure
pub puts_err : {T E : Type 0} (old new : List ℕ) (result : Result T E) (text : List ℕ) → IsErr result → PutsFront old new text → Puts old new result text
puts_err old new (Ok done) text h p = absurd cc
puts_err old new (Err cause) text h p = p

-- one text is put whole, and then another
pub puts_then : {T E : Type 0} (old mid new : List ℕ) (result : Result T E) (text more : List ℕ) → mid ≡ old ++ text → Puts mid new result more → Puts old new result (text ++ more)
puts_then old mid new (Ok done) text more m p = p ∙ ap (λ (xs : List ℕ). xs ++ more) m ∙ append_assoc old text more
puts_then old mid new (Err cause) text more m p = front_join old new text more (subst (λ (xs : List ℕ). PutsFront xs new more) m p)

-- a front of a text is put, as far as it is told
pub front_at : (old text more : List ℕ) → PutsFront old (old ++ text) (text ++ more)
front_at old text more = front_more old (old ++ text) text more (front_whole old text)

-- ---- items one after another

flat_map_at : {A : Type 0} (f : A → List ℕ) (items : List A) (i : ℕ) (d : A) → i < length items → flat_map f items ≡ flat_map f (take i items) ++ f (get_or items i d) ++ flat_map f (drop (i + 1) items)
flat_map_at {A} f items i d lt =
    let parts : take i items ++ drop i items ≡ items = take-append-drop i items in
    let one : drop i items ≡ get_or items i d ∷ drop (i + 1) items = at_drop_more (λ (xs : List A). xs) items i d lt in
    ap (flat_map f) (sym parts ∙ ap (λ (xs : List A). take i items ++ xs) one) ∙ flat_map-append f (take i items) (get_or items i d ∷ drop (i + 1) items) ∙ sym (append_assoc (flat_map f (take i items)) (f (get_or items i d)) (flat_map f (drop (i + 1) items)))

-- the first items are put whole
pub front_items : {A : Type 0} (f : A → List ℕ) (items : List A) (i : ℕ) (old : List ℕ) → PutsFront old (old ++ flat_map f (take i items)) (flat_map f items)
front_items {A} f items i old =
    let parts : flat_map f (take i items) ++ flat_map f (drop i items) ≡ flat_map f items = sym (flat_map-append f (take i items) (drop i items)) ∙ ap (flat_map f) (take-append-drop i items) in
    subst (PutsFront old (old ++ flat_map f (take i items))) parts (front_more old _ _ (flat_map f (drop i items)) (front_whole old (flat_map f (take i items))))

-- and a front of the next one
pub front_item : {A : Type 0} (f : A → List ℕ) (items : List A) (i : ℕ) (d : A) (old new : List ℕ) → i < length items → PutsFront (old ++ flat_map f (take i items)) new (f (get_or items i d)) → PutsFront old new (flat_map f items)
front_item f items i d old new lt p =
    subst (PutsFront old new) (sym (flat_map_at f items i d lt))
    (front_more old new (flat_map f (take i items) ++ f (get_or items i d)) (flat_map f (drop (i + 1) items)) (front_join old new (flat_map f (take i items)) (f (get_or items i d)) p))

-- for a function that puts one text after another
pub ruleset puts = (append_assoc, drop_at, front_none, front_more, front_begin, front_join, front_byte)
