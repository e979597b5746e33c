-- A line is put together from its words, and what stands there where memory runs out.
use Rattle.std.proofs.Common.{◌≡◌, ℕ, List, [], ◌∷◌, ◌++◌, sym, ap, subst, ◌∙◌}
use Rattle.std.specs.Prelude.{Result, IsErr}
use Rattle.std.proofs.lemmas.List.{append_assoc, append-nil}
use Rattle.std.proofs.lemmas.Grind.{flat_map-append}
use Rattle.flr_base.specs.Puts.{PutsFront, Puts}
use Rattle.flr_base.proofs.Puts.{puts_err, puts_then, front_at, front_more, front_join}
use Rattle.text_words.specs.Words.{spaced}
use Rattle.layout_text.specs.Appending.{text_behind}

-- a space stands between each two words where one stands before each further word
pub spaced_first : (word : List ℕ) (words : List (List ℕ)) → spaced (word ∷ words) ≡ word ++ text_behind words
spaced_first word [] = sym (append-nil word)
spaced_first word (next ∷ words) = ap (λ l. word ++ 32 ∷ l) (spaced_first next words)

joined : (a b : List (List ℕ)) → text_behind (a ++ b) ≡ text_behind a ++ text_behind b
joined a b = flat_map-append (λ (word : List ℕ). 32 ∷ word) a b

-- ---- words behind a word

-- further words behind those that stand there
pub follow : (start mid now : List ℕ) (a b : List (List ℕ)) → mid ≡ start ++ text_behind a → now ≡ mid ++ text_behind b → now ≡ start ++ text_behind (a ++ b)
follow start mid now a b was put =
    put ∙ ap (λ l. l ++ text_behind b) was ∙ append_assoc start (text_behind a) (text_behind b) ∙ ap (λ l. start ++ l) (sym (joined a b))

-- the last words
pub put_last : {T E : Type 0} (r : Result T E) (start mid now : List ℕ) (a b : List (List ℕ)) → mid ≡ start ++ text_behind a → Puts mid now r (text_behind b) → Puts start now r (text_behind (a ++ b))
put_last r start mid now a b was put = subst (λ (t : List ℕ). Puts start now r t) (sym (joined a b)) (puts_then start mid now r (text_behind a) (text_behind b) was put)

-- a front of the first words
pub first_front : (start now : List ℕ) (a more : List (List ℕ)) → PutsFront start now (text_behind a) → PutsFront start now (text_behind (a ++ more))
first_front start now a more put = subst (PutsFront start now) (sym (joined a more)) (front_more start now (text_behind a) (text_behind more) put)

-- a front of words behind others
next_front : (start mid now : List ℕ) (a b : List (List ℕ)) → mid ≡ start ++ text_behind a → PutsFront mid now (text_behind b) → PutsFront start now (text_behind (a ++ b))
next_front start mid now a b was put =
    subst (PutsFront start now) (sym (joined a b)) (front_join start now (text_behind a) (text_behind b) (subst (λ (xs : List ℕ). PutsFront xs now (text_behind b)) was put))

pub next_err : {T E : Type 0} (r : Result T E) (start mid now : List ℕ) (a b more : List (List ℕ)) → IsErr r → mid ≡ start ++ text_behind a → PutsFront mid now (text_behind b) → Puts start now r (text_behind ((a ++ b) ++ more))
next_err r start mid now a b more err was put = puts_err start now r (text_behind ((a ++ b) ++ more)) err (first_front start now (a ++ b) more (next_front start mid now a b was put))

-- a word and its value
pub late_front : (start mid now text more : List ℕ) → now ≡ mid → mid ≡ start ++ text → PutsFront start now (text ++ more)
late_front start mid now text more same was = subst (λ (n : List ℕ). PutsFront start n (text ++ more)) (sym (same ∙ was)) (front_at start text more)

pub put_value : {T E : Type 0} (r : Result T E) (start mid gap now word value : List ℕ) → mid ≡ start ++ 32 ∷ word → gap ≡ mid ++ 32 ∷ [] → Puts gap now r value → Puts start now r (text_behind (word ∷ value ∷ []))
put_value r start mid gap now word value was space put =
    let front : gap ≡ start ++ (32 ∷ word ++ 32 ∷ []) = space ∙ ap (λ l. l ++ 32 ∷ []) was ∙ append_assoc start (32 ∷ word) (32 ∷ []) in
    let both : (32 ∷ word ++ 32 ∷ []) ++ value ≡ text_behind (word ∷ value ∷ []) = append_assoc (32 ∷ word) (32 ∷ []) value ∙ ap (λ l. 32 ∷ word ++ 32 ∷ l) (sym (append-nil value)) in
    subst (λ (t : List ℕ). Puts start now r t) both (puts_then start gap now r (32 ∷ word ++ 32 ∷ []) value front put)

-- ---- a line

-- it ends behind its last word
pub line_end : (old start last now word : List ℕ) (words : List (List ℕ)) → now ≡ last ++ 10 ∷ [] → start ≡ old ++ word → last ≡ start ++ text_behind words → now ≡ old ++ (spaced (word ∷ words) ++ 10 ∷ [])
line_end old start last now word words put first was =
    put ∙ ap (λ l. l ++ 10 ∷ []) (was ∙ ap (λ l. l ++ text_behind words) first ∙ append_assoc old word (text_behind words) ∙ ap (λ l. old ++ l) (sym (spaced_first word words)))
    ∙ append_assoc old (spaced (word ∷ words)) (10 ∷ [])

-- a front of the words behind its first word
line_front : (old start now word : List ℕ) (words : List (List ℕ)) → start ≡ old ++ word → PutsFront start now (text_behind words) → PutsFront old now (spaced (word ∷ words) ++ 10 ∷ [])
line_front old start now word words first put =
    let behind_it : PutsFront old now (word ++ text_behind words) = front_join old now word (text_behind words) (subst (λ (xs : List ℕ). PutsFront xs now (text_behind words)) first put) in
    front_more old now (spaced (word ∷ words)) (10 ∷ []) (subst (PutsFront old now) (sym (spaced_first word words)) behind_it)

pub first_line_err : {T E : Type 0} (r : Result T E) (old start now word : List ℕ) (a more : List (List ℕ)) → IsErr r → start ≡ old ++ word → PutsFront start now (text_behind a) → Puts old now r (spaced (word ∷ (a ++ more)) ++ 10 ∷ [])
first_line_err r old start now word a more err first put = puts_err old now r (spaced (word ∷ (a ++ more)) ++ 10 ∷ []) err (line_front old start now word (a ++ more) first (first_front start now a more put))

pub next_line_err : {T E : Type 0} (r : Result T E) (old start mid now word : List ℕ) (a b : List (List ℕ)) → IsErr r → start ≡ old ++ word → mid ≡ start ++ text_behind a → PutsFront mid now (text_behind b) → Puts old now r (spaced (word ∷ (a ++ b)) ++ 10 ∷ [])
next_line_err r old start mid now word a b err first was put = puts_err old now r (spaced (word ∷ (a ++ b)) ++ 10 ∷ []) err (line_front old start now word (a ++ b) first (next_front start mid now a b was put))

pub last_line_err : {T E : Type 0} (r : Result T E) (old start mid now word : List ℕ) (words : List (List ℕ)) → IsErr r → start ≡ old ++ word → mid ≡ start ++ text_behind words → now ≡ mid → Puts old now r (spaced (word ∷ words) ++ 10 ∷ [])
last_line_err r old start mid now word words err first was same =
    let there : mid ≡ old ++ spaced (word ∷ words) = was ∙ ap (λ l. l ++ text_behind words) first ∙ append_assoc old word (text_behind words) ∙ ap (λ l. old ++ l) (sym (spaced_first word words)) in
    puts_err old now r (spaced (word ∷ words) ++ 10 ∷ []) err (late_front old mid now (spaced (word ∷ words)) (10 ∷ []) same there)

pub ruleset behind = (append-nil)
