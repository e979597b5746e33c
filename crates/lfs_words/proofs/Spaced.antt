-- Words that are put behind words.
use Rattle.std.proofs.Common.{◌≡◌, ℕ, ◌<◌, List, [], ◌∷◌, ◌++◌, length, take, get_or, refl, sym, ap, subst, ◌∙◌}
use Rattle.std.specs.Prelude.{Result, IsErr}
use Rattle.std.specs.List.{flat_map}
use Rattle.std.proofs.lemmas.List.{append_assoc, append-nil}
use Rattle.std.proofs.lemmas.Grind.{flat_map-append}
use Rattle.flr_base.specs.Puts.{PutsFront, Puts}
use Rattle.flr_base.proofs.Puts.{puts_err, puts_then, front_at, front_more, front_join, front_item}
use Rattle.lfs_words.specs.Printing.{after_spaces}

joined : (a b : List (List ℕ)) → after_spaces (a ++ b) ≡ after_spaces a ++ after_spaces b
joined a b = flat_map-append (λ (word : List ℕ). 32 ∷ word) a b

pub words_behind : (start mid now : List ℕ) (a b : List (List ℕ)) → mid ≡ start ++ after_spaces a → now ≡ mid ++ after_spaces b → now ≡ start ++ after_spaces (a ++ b)
words_behind start mid now a b was put =
    put ∙ ap (λ l. l ++ after_spaces b) was ∙ append_assoc start (after_spaces a) (after_spaces b) ∙ ap (λ l. start ++ l) (sym (joined a b))

-- the last words
pub put_words : {T E : Type 0} (r : Result T E) (start mid now : List ℕ) (a b : List (List ℕ)) → mid ≡ start ++ after_spaces a → Puts mid now r (after_spaces b) → Puts start now r (after_spaces (a ++ b))
put_words r start mid now a b was put = subst (λ (t : List ℕ). Puts start now r t) (sym (joined a b)) (puts_then start mid now r (after_spaces a) (after_spaces b) was put)

-- a front of the first words
pub first_words : (start now : List ℕ) (a more : List (List ℕ)) → PutsFront start now (after_spaces a) → PutsFront start now (after_spaces (a ++ more))
first_words start now a more put = subst (PutsFront start now) (sym (joined a more)) (front_more start now (after_spaces a) (after_spaces more) put)

-- a front of words behind others
pub more_words : (start mid now : List ℕ) (a b more : List (List ℕ)) → mid ≡ start ++ after_spaces a → PutsFront mid now (after_spaces b) → PutsFront start now (after_spaces ((a ++ b) ++ more))
more_words start mid now a b more was put =
    first_words start now (a ++ b) more (subst (PutsFront start now) (sym (joined a b)) (front_join start now (after_spaces a) (after_spaces b) (subst (λ (xs : List ℕ). PutsFront xs now (after_spaces b)) was put)))

-- a failure behind the first words
pub some_err : {T E : Type 0} (r : Result T E) (start mid now : List ℕ) (a b more : List (List ℕ)) → IsErr r → mid ≡ start ++ after_spaces a → PutsFront mid now (after_spaces b) → Puts start now r (after_spaces ((a ++ b) ++ more))
some_err r start mid now a b more err was put = puts_err start now r (after_spaces ((a ++ b) ++ more)) err (more_words start mid now a b more was put)

-- ---- words of items one after another

each : {A : Type 0} (f : A → List (List ℕ)) (xs : List A) → after_spaces (flat_map f xs) ≡ flat_map (λ x. after_spaces (f x)) xs
each f [] = refl
each f (x ∷ xs) = joined (f x) (flat_map f xs) ∙ ap (λ t. after_spaces (f x) ++ t) (each f xs)

-- the words of the first items, and a front of those of the next one
pub next_front : {A : Type 0} (f : A → List (List ℕ)) (items : List A) (i : ℕ) (d : A) (old new : List ℕ) → i < length items → PutsFront (old ++ after_spaces (flat_map f (take i items))) new (after_spaces (f (get_or items i d))) → PutsFront old new (after_spaces (flat_map f items))
next_front {A} f items i d old new lt put =
    let so_far = each f (take i items) in
    subst (PutsFront old new) (sym (each f items)) (front_item (λ (x : A). after_spaces (f x)) items i d old new lt (subst (λ (t : List ℕ). PutsFront (old ++ t) new (after_spaces (f (get_or items i d)))) so_far put))

pub next_err : {A T E : Type 0} (f : A → List (List ℕ)) (items : List A) (i : ℕ) (x : A) (r : Result T E) (old mid new : List ℕ) → IsErr r → i < length items → x ≡ get_or items i x → mid ≡ old ++ after_spaces (flat_map f (take i items)) → PutsFront mid new (after_spaces (f x)) → Puts old new r (after_spaces (flat_map f items))
next_err {A} f items i x r old mid new err lt is was put =
    let there : PutsFront (old ++ after_spaces (flat_map f (take i items))) new (after_spaces (f (get_or items i x))) = subst (λ (y : A). PutsFront (old ++ after_spaces (flat_map f (take i items))) new (after_spaces (f y))) is (subst (λ (m : List ℕ). PutsFront m new (after_spaces (f x))) was put) in
    puts_err old new r (after_spaces (flat_map f items)) err (next_front f items i x old new lt there)

-- ---- a word and its value

-- a front of both
pub late_front : (start mid now text more : List ℕ) → now ≡ mid → mid ≡ start ++ text → PutsFront start now (text ++ more)
late_front start mid now text more same was = subst (λ (n : List ℕ). PutsFront start n (text ++ more)) (sym (same ∙ was)) (front_at start text more)

pub put_value : {T E : Type 0} (r : Result T E) (start mid gap now word value : List ℕ) → mid ≡ start ++ 32 ∷ word → gap ≡ mid ++ 32 ∷ [] → Puts gap now r value → Puts start now r (after_spaces (word ∷ value ∷ []))
put_value r start mid gap now word value was space put =
    let front : gap ≡ start ++ (32 ∷ word ++ 32 ∷ []) = space ∙ ap (λ l. l ++ 32 ∷ []) was ∙ append_assoc start (32 ∷ word) (32 ∷ []) in
    let both : (32 ∷ word ++ 32 ∷ []) ++ value ≡ after_spaces (word ∷ value ∷ []) = append_assoc (32 ∷ word) (32 ∷ []) value ∙ ap (λ l. 32 ∷ word ++ 32 ∷ l) (sym (append-nil value)) in
    subst (λ (t : List ℕ). Puts start now r t) both (puts_then start gap now r (32 ∷ word ++ 32 ∷ []) value front put)

-- a word in two pieces
pub put_in_word : {T E : Type 0} (r : Result T E) (start mid now front text : List ℕ) → mid ≡ start ++ 32 ∷ front → Puts mid now r text → Puts start now r (after_spaces ((front ++ text) ∷ []))
put_in_word r start mid now front text was put = subst (λ (t : List ℕ). Puts start now r (32 ∷ t)) (sym (append-nil (front ++ text))) (puts_then start mid now r (32 ∷ front) text was put)

pub ruleset spaced = (append-nil)
