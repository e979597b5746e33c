-- Texts that are joined come apart again.
use Rattle.std.proofs.Common.{◌≡◌, ℕ, ◌+◌, ◌<◌, ◌^◌, ◌%◌, false, eqb, not, List, [], ◌∷◌, ◌++◌, length, get_or, take, refl, ap, ◌∙◌, arith}
use Rattle.std.specs.List.{onto_first, join_with_byte, filter, AllByRecursion}
use Rattle.std.specs.Fmt.{decimal}
use Rattle.flr_base.proofs.Lists.{all_append}
use Rattle.text_words.specs.Pieces.{parts_of, Lacks, AllLack}
use Rattle.std.proofs.lemmas.Bool.{ne_eqb, eq-eqb}
use Rattle.std.proofs.lemmas.Fmt.{decimal_by_steps}
use Rattle.std.proofs.lemmas.List.{take_more}

pub parts-one : (sep : ℕ) (text : List ℕ) → Lacks sep text → parts_of sep text ≡ text ∷ []
parts-one sep [] h = refl
parts-one sep (c ∷ cs) h = rw h.0 (ap (onto_first c) (parts-one sep cs h.1))

pub parts-first : (sep : ℕ) (text rest : List ℕ) → Lacks sep text → parts_of sep (text ++ sep ∷ rest) ≡ text ∷ parts_of sep rest
parts-first sep [] rest h = rw (eq-eqb sep sep refl) refl
parts-first sep (c ∷ cs) rest h = rw h.0 (ap (onto_first c) (parts-first sep cs rest h.1))

-- what was joined comes apart
pub parts-joined : (sep : ℕ) (text : List ℕ) (texts : List (List ℕ)) → Lacks sep text → AllLack sep texts → parts_of sep (join_with_byte sep (text ∷ texts)) ≡ text ∷ texts
parts-joined sep text [] h k = parts-one sep text h
parts-joined sep text (next ∷ texts) h k = parts-first sep text (join_with_byte sep (next ∷ texts)) h ∙ ap (λ xs. text ∷ xs) (parts-joined sep next texts k.0 k.1)

pub Lacks-append : (sep : ℕ) (xs ys : List ℕ) → Lacks sep xs → Lacks sep ys → Lacks sep (xs ++ ys)
Lacks-append sep xs ys h k = all_append (λ (byte : ℕ). eqb byte sep ≡ false) xs ys h k

-- a number has digits alone
pub digits_lack : (sep n : ℕ) → ((d : ℕ) → d < 10 → 48 + d ≡ sep → ⊥) → n < 2 ^ 64 → Lacks sep (decimal n)
digits_lack sep n none lt =
    decimal_by_steps (λ m ds. Lacks sep ds) (λ m h. (ne_eqb (48 + m) sep (none m h), tt))
    (λ m ds h ih. Lacks-append sep ds ((48 + m % 10) ∷ []) ih (ne_eqb (48 + m % 10) sep (none (m % 10) (omega arith)), tt)) n lt

pub decimal_lacks : (sep n : ℕ) → sep < 48 → n < 2 ^ 64 → Lacks sep (decimal n)
decimal_lacks sep n low lt = digits_lack sep n (λ d h e. omega arith) lt

-- where no word is empty, none is dropped
pub filter-full : (texts : List (List ℕ)) → AllByRecursion (λ text. eqb (length text) 0 ≡ false) texts → filter (λ text. not (eqb (length text) 0)) texts ≡ texts
filter-full [] h = refl
filter-full (t ∷ ts) h = rw h.0 (ap (λ xs. t ∷ xs) (filter-full ts h.1))

pub lacks_more : (sep : ℕ) (text : List ℕ) (i d : ℕ) → Lacks sep (take i text) → i < length text → eqb (get_or text i d) sep ≡ false → Lacks sep (take (i + 1) text)
lacks_more sep text i d h lt e = rw (take_more text i d lt) (Lacks-append sep (take i text) (get_or text i d ∷ []) h (e, tt))
