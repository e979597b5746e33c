-- Which texts are words, and how a line of words comes apart.
use Rattle.std.proofs.Common.{◌≡◌, ℕ, zero, suc, ℤ, pos, negsuc, ◌+◌, ◌<◌, ◌/◌, ◌%◌, true, false, not, eqb, ltb, List, [], ◌∷◌, ◌++◌, length, refl, sym, ap, ◌∙◌, arith}
use Rattle.std.specs.List.{flat_map, list_all, filter, AllByRecursion}
use Rattle.std.specs.Fmt.{decimal, signed_decimal, digits, digits_onto, digit_glyph}
use Rattle.std.proofs.lemmas.Bool.{cond_both, and_parts, and_from, lt-ltb, le-leb, eqb-true, ne_eqb, false_from_ne_true}
use Rattle.std.proofs.lemmas.Bool.Decides.{nat_tests}
use Rattle.std.proofs.lemmas.List.{append-nil}
use Rattle.std.proofs.lemmas.List.Folds.{list_all-append}
use Rattle.flr_base.proofs.Lists.{all_append}
use Rattle.text_words.specs.Lists.{list_text}
use Rattle.text_words.specs.Names.{may_stand, is_name}
use Rattle.text_words.specs.Pieces.{Lacks, AllLack, parts_of, words_of}
use Rattle.text_words.specs.Sizes.{end_text}
use Rattle.text_words.specs.Words.{is_graphic, IsGraphic, IsWord, AreWords, spaced}
use Rattle.text_words.proofs.Splits.{parts-joined, filter-full, Lacks-append}

-- ---- texts of graphic bytes

pub graphic_append : (xs ys : List ℕ) → IsGraphic xs → IsGraphic ys → IsGraphic (xs ++ ys)
graphic_append xs ys h k = rw (list_all-append is_graphic xs ys, h) k

pub word_graphic : (word : List ℕ) → IsWord word → IsGraphic word
word_graphic [] h = refl
word_graphic (c ∷ cs) h = h

-- a word with graphic bytes behind it is a word
pub word_append : (word text : List ℕ) → IsWord word → IsGraphic text → IsWord (word ++ text)
word_append [] text h k = absurd cc
word_append (c ∷ cs) text h k = graphic_append (c ∷ cs) text h k

pub words_append : (xs ys : List (List ℕ)) → AreWords xs → AreWords ys → AreWords (xs ++ ys)
words_append xs ys h k = all_append IsWord xs ys h k

-- ---- which texts are words

digit_is_graphic : (n : ℕ) → n < 10 → is_graphic (digit_glyph false n) ≡ true
digit_is_graphic n lt = rw (lt-ltb n 10 lt, le-leb 33 (48 + n) (omega arith), le-leb (48 + n) 126 (omega arith)) refl

-- one more digit in front
digit_onto : (n : ℕ) (after : List ℕ) → IsGraphic after → IsWord (digit_glyph false (n % 10) ∷ after)
digit_onto n after h = rw (digit_is_graphic (n % 10) (omega arith)) h

digits_word : (k n : ℕ) (after : List ℕ) → IsWord after → IsWord (digits_onto k 10 false n after)
digits_word zero n after h = h
digits_word (suc k) n after h =
    let more = digit_onto n after (word_graphic after h) in
    cond_both (eqb (n / 10) 0) (digit_glyph false (n % 10) ∷ after) (digits_onto k 10 false (n / 10) (digit_glyph false (n % 10) ∷ after)) IsWord (λ t. more) (λ f. digits_word k (n / 10) (digit_glyph false (n % 10) ∷ after) more)

pub decimal_word : (n : ℕ) → IsWord (decimal n)
unfolding digits
decimal_word n =
    let last = digit_onto n [] refl in
    cond_both (eqb (n / 10) 0) (digit_glyph false (n % 10) ∷ []) (digits_onto 63 10 false (n / 10) (digit_glyph false (n % 10) ∷ [])) IsWord (λ t. last) (λ f. digits_word 63 (n / 10) (digit_glyph false (n % 10) ∷ []) last)

pub signed_word : (z : ℤ) → IsWord (signed_decimal z)
signed_word (pos n) = decimal_word n
signed_word (negsuc n) = word_graphic (decimal (suc n)) (decimal_word (suc n))

pub end_word : (eof : List ℕ) (end : ℕ) → IsWord eof → IsWord (end_text eof end)
end_word eof end h = cond_both (eqb end 18446744073709551615) eof (decimal end) IsWord (λ t. h) (λ f. decimal_word end)

-- the bytes of a name are graphic
name_byte : (byte : ℕ) → may_stand byte ≡ true → is_graphic byte ≡ true
name_byte byte h = grind (arith, nat_tests)

name_bytes : (bytes : List ℕ) → list_all may_stand bytes ≡ true → IsGraphic bytes
name_bytes [] h = refl
name_bytes (c ∷ cs) h =
    let p = and_parts (may_stand c) (list_all may_stand cs) h in
    and_from (is_graphic c) (list_all is_graphic cs) (name_byte c p.0) (name_bytes cs p.1)

pub name_word : (name : List ℕ) → is_name name ≡ true → IsWord name
unfolding is_name
name_word [] h = absurd cc
name_word (c ∷ cs) h =
    let p = and_parts (eqb c 47) _ h in
    let q = and_parts (ltb 0 (length cs)) _ p.1 in
    let r = and_parts (ltb (length cs) 128) (list_all may_stand cs) q.1 in
    let slash : 47 ≡ c = sym (eqb-true c 47 p.0) in
    and_from (is_graphic c) (list_all is_graphic cs) (ap is_graphic (sym slash)) (name_bytes cs r.1)

-- items with commas between them

more_items : {A : Type 0} (print : A → List ℕ) (items : List A) → ((item : A) → IsWord (print item)) → IsGraphic (flat_map (λ next. 44 ∷ print next) items)
more_items print [] h = refl
more_items print (item ∷ items) h = graphic_append (44 ∷ print item) (flat_map (λ next. 44 ∷ print next) items) (word_graphic (print item) (h item)) (more_items print items h)

pub list_word : {A : Type 0} (print : A → List ℕ) (items : List A) → ((item : A) → IsWord (print item)) → IsWord (list_text print items)
list_word print [] h = refl
list_word print (item ∷ items) h = word_append (print item) (flat_map (λ next. 44 ∷ print next) items) (h item) (more_items print items h)

-- ---- a line comes apart into its words

graphic_is_other : (sep byte : ℕ) → is_graphic sep ≡ false → is_graphic byte ≡ true → eqb byte sep ≡ false
graphic_is_other sep byte other is = false_from_ne_true (eqb byte sep) (λ t.
    let same : byte ≡ sep = eqb-true byte sep t in
    let clash : false ≡ true = sym other ∙ ap is_graphic (sym same) ∙ is in absurd cc)

graphic_lacks : (sep : ℕ) (text : List ℕ) → is_graphic sep ≡ false → IsGraphic text → Lacks sep text
graphic_lacks sep [] other h = tt
graphic_lacks sep (c ∷ cs) other h = let p = and_parts (is_graphic c) (list_all is_graphic cs) h in (graphic_is_other sep c other p.0, graphic_lacks sep cs other p.1)

-- a word has no byte that may not stand in one
pub word_lacks : (sep : ℕ) (word : List ℕ) → is_graphic sep ≡ false → IsWord word → Lacks sep word
word_lacks sep word other h = graphic_lacks sep word other (word_graphic word h)

words_lack : (sep : ℕ) (words : List (List ℕ)) → is_graphic sep ≡ false → AreWords words → AllLack sep words
words_lack sep [] other h = tt
words_lack sep (word ∷ words) other h = (word_lacks sep word other h.0, words_lack sep words other h.1)

-- words with one space between each two come apart
pub parts_of-spaced : (word : List ℕ) (words : List (List ℕ)) → AreWords (word ∷ words) → parts_of 32 (spaced (word ∷ words)) ≡ word ∷ words
parts_of-spaced word words h = parts-joined 32 word words (word_lacks 32 word refl h.0) (words_lack 32 words refl h.1)

word_some : (word : List ℕ) → IsWord word → eqb (length word) 0 ≡ false
word_some [] h = absurd cc
word_some (c ∷ cs) h = ne_eqb (suc (length cs)) 0 (λ e. omega arith)

words_some : (words : List (List ℕ)) → AreWords words → AllByRecursion (λ word. eqb (length word) 0 ≡ false) words
words_some [] h = tt
words_some (word ∷ words) h = (word_some word h.0, words_some words h.1)

pub words_of-spaced : (words : List (List ℕ)) → AreWords words → words_of (spaced words) ≡ words
words_of-spaced [] h = refl
words_of-spaced (word ∷ words) h = ap (filter (λ w. not (eqb (length w) 0))) (parts_of-spaced word words h) ∙ filter-full (word ∷ words) (words_some (word ∷ words) h)

pub spaced_lacks : (words : List (List ℕ)) → AreWords words → Lacks 10 (spaced words)
spaced_lacks [] h = tt
spaced_lacks (word ∷ []) h = word_lacks 10 word refl h.0
spaced_lacks (word ∷ next ∷ words) h = Lacks-append 10 word (32 ∷ spaced (next ∷ words)) (word_lacks 10 word refl h.0) (refl, spaced_lacks (next ∷ words) h.1)

-- each word behind the first has a space before it
pub spaced-first : (word : List ℕ) (words : List (List ℕ)) → spaced (word ∷ words) ≡ word ++ flat_map (λ next. 32 ∷ next) words
spaced-first word [] = sym (append-nil word)
spaced-first word (next ∷ words) = ap (λ (text : List ℕ). word ++ 32 ∷ text) (spaced-first next words)
