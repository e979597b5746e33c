-- Each word of a line spells one thing, both ways.
use Rattle.std.proofs.Common.{◌≡◌, ℕ, ◌^◌, ◌<◌, ◌≤◌, Bool, true, false, cond, eqb, List, [], ◌∷◌, ◌++◌, length, Some, None, refl, sym, ap, subst, ◌∙◌, append_assoc, arith}
use Rattle.std.specs.Prelude.{codes}
use Rattle.std.specs.List.{join_with_byte, AllByRecursion}
use Rattle.std.specs.Str.{bytes_eq}
use Rattle.std.specs.Fmt.{decimal}
use Rattle.std.proofs.lemmas.Bool.{cond_both, eqb-true, eqb-false, eq-eqb, ne_eqb, false_from_ne_true}
use Rattle.std.proofs.lemmas.List.{append-nil}
use Rattle.std.proofs.lemmas.List.Splits.{join_with_byte-slice_split, length-slice_split}
use Rattle.std.proofs.lemmas.Slice.Eq.{bytes_eq-Decides}
use Rattle.flr_base.specs.declared.reply.ObjectId.{ObjectId}
use Rattle.text_words.specs.Items.{object_text, object_of, IsObjectItem}
use Rattle.text_words.specs.Lists.{list_of, list_text}
use Rattle.text_words.specs.Numbers.{number_from}
use Rattle.text_words.specs.Pieces.{Lacks, parts_of}
use Rattle.text_words.specs.Sizes.{end_text}
use Rattle.text_words.proofs.ListTexts.{list_spelled}
use Rattle.text_words.proofs.OneWords.{object_one_word}
use Rattle.text_words.proofs.Spellings.{from_takes, from_again}
use Rattle.text_words.proofs.Splits.{digits_lack}
use Rattle.composite_layout.specs.declared.component.Flags.{Flags}
use Rattle.composite_layout.specs.declared.component.State.{State}
use Rattle.composite_layout.specs.declared.component.State.TheVariants as states
use Rattle.layout_text.specs.Texts.{state_word, named, flag_names, names_word, flags_word}
use Rattle.layout_text.specs.LineWords.{state_of, after_name, flags_of_names, flags_of, end_of, number_32}

same_bytes : (xs ys : List ℕ) → bytes_eq xs ys ≡ true → xs ≡ ys
same_bytes xs ys e = (bytes_eq-Decides xs ys).0 e

-- ---- numbers

pub number_32_takes : (word : List ℕ) (n : ℕ) → number_32 word ≡ Some n → word ≡ decimal n
number_32_takes word n e = (from_takes 0 4294967295 word n e).2

pub number_32_again : (n : ℕ) → n < 2 ^ 32 → number_32 (decimal n) ≡ Some n
number_32_again n h = from_again 0 4294967295 n (omega arith) (omega arith) (omega (arith, h))

pub number_takes : (most : ℕ) (word : List ℕ) (n : ℕ) → number_from 0 most word ≡ Some n → word ≡ decimal n
number_takes most word n e = (from_takes 0 most word n e).2

-- ---- ends

pub end_takes : (word : List ℕ) (n : ℕ) → end_of word ≡ Some n → word ≡ end_text (codes "EOF") n
unfolding end_of
end_takes word n e =
    cond_both (bytes_eq word (codes "EOF")) (Some 18446744073709551615) (number_from 0 18446744073709551614 word) (λ o. o ≡ Some n → word ≡ end_text (codes "EOF") n)
    (λ t f. let same : 18446744073709551615 ≡ n = cc in same_bytes word (codes "EOF") t ∙ rw (eq-eqb n 18446744073709551615 (sym same)) refl)
    (λ t f. let k = from_takes 0 18446744073709551614 word n f in let high = k.1 in k.2 ∙ rw (ne_eqb n 18446744073709551615 (λ x. omega (arith, x, high))) refl)
    e

not_eof : (n : ℕ) → n < 2 ^ 64 → bytes_eq (decimal n) (codes "EOF") ≡ false
not_eof n lt = false_from_ne_true (bytes_eq (decimal n) (codes "EOF")) (λ t.
    let lacks : Lacks 69 (codes "EOF") = subst (Lacks 69) (same_bytes (decimal n) (codes "EOF") t) (digits_lack 69 n (λ d lt e. omega arith) lt) in
    let clash : true ≡ false = lacks.0 in absurd cc)

pub end_again : (n : ℕ) → n ≤ 18446744073709551615 → end_of (end_text (codes "EOF") n) ≡ Some n
unfolding end_of
end_again n le =
    cond_both (eqb n 18446744073709551615) (codes "EOF") (decimal n) (λ w. end_of w ≡ Some n)
    (λ t. ap (λ (m : ℕ). Some m) (sym (eqb-true n 18446744073709551615 t)))
    (λ t. let other = eqb-false n 18446744073709551615 t in rw (not_eof n (omega (arith, le))) (from_again 0 18446744073709551614 n (omega arith) (omega arith) (omega (arith, le, other))))

-- ---- states

pub state_takes : (word : List ℕ) (s : State) → state_of word ≡ Some s → word ≡ state_word s
unfolding state_of
state_takes word s e =
    cond_both (bytes_eq word (codes "0")) (Some states.Single) _ (λ o. o ≡ Some s → word ≡ state_word s)
    (λ t f. same_bytes word (codes "0") t ∙ ap state_word (let same : states.Single ≡ s = cc in same))
    (λ _. cond_both (bytes_eq word (codes "ro")) (Some states.ReadOnly) _ (λ o. o ≡ Some s → word ≡ state_word s)
    (λ t f. same_bytes word (codes "ro") t ∙ ap state_word (let same : states.ReadOnly ≡ s = cc in same))
    (λ _. cond_both (bytes_eq word (codes "wp")) (Some states.WritePending) _ (λ o. o ≡ Some s → word ≡ state_word s)
    (λ t f. same_bytes word (codes "wp") t ∙ ap state_word (let same : states.WritePending ≡ s = cc in same))
    (λ _. cond_both (bytes_eq word (codes "sp")) (Some states.SyncPending) None (λ o. o ≡ Some s → word ≡ state_word s)
    (λ t f. same_bytes word (codes "sp") t ∙ ap state_word (let same : states.SyncPending ≡ s = cc in same))
    (λ _ f. absurd cc))))
    e

pub state_again : (s : State) → state_of (state_word s) ≡ Some s
unfolding state_of
state_again states.Single = refl
state_again states.ReadOnly = refl
state_again states.WritePending = refl
state_again states.SyncPending = refl

-- ---- flags

name_by : (name first : List ℕ) (names : List (List ℕ)) (b : Bool) → bytes_eq first name ≡ b
    → first ∷ names ≡ named (cond {A = Bool × List (List ℕ)} b (true, names) (false, first ∷ names)).0 name ++ (cond {A = Bool × List (List ℕ)} b (true, names) (false, first ∷ names)).1
name_by name first names true e = ap (λ (x : List ℕ). x ∷ names) (same_bytes first name e)
name_by name first names false e = refl

-- the names are this one, where it is the first of them, and those behind it
name_parts : (name : List ℕ) (names : List (List ℕ)) → names ≡ named (after_name name names).0 name ++ (after_name name names).1
name_parts name [] = refl
name_parts name (first ∷ names) = name_by name first names (bytes_eq first name) refl

next_name : (name : List ℕ) (all front rest : List (List ℕ)) → all ≡ front ++ rest → all ≡ (front ++ named (after_name name rest).0 name) ++ (after_name name rest).1
next_name name all front rest e = e ∙ ap (λ (xs : List (List ℕ)). front ++ xs) (name_parts name rest) ∙ sym (append_assoc front (named (after_name name rest).0 name) (after_name name rest).1)

pub no_more : {A : Type 0} (xs : List A) → eqb (length xs) 0 ≡ true → xs ≡ []
no_more [] e = refl
no_more (x ∷ xs) e = let none = eqb-true (length (x ∷ xs)) 0 e in absurd (omega (arith, none))

-- names that are read as flags are theirs
names_take : (names : List (List ℕ)) (f : Flags) → flags_of_names names ≡ Some f → names ≡ flag_names f
unfolding flags_of_names
names_take names f e =
    let one = after_name (codes "init") names in
    let two = after_name (codes "stale") one.1 in
    let three = after_name (codes "prefer") two.1 in
    let four = after_name (codes "offline") three.1 in
    let five = after_name (codes "nosync") four.1 in
    let found : Flags = record { init = one.0; stale = two.0; prefer = three.0; offline = four.0; nosync = five.0 } in
    let all : names ≡ flag_names found ++ five.1 = next_name (codes "nosync") names _ four.1 (next_name (codes "offline") names _ three.1 (next_name (codes "prefer") names _ two.1 (next_name (codes "stale") names _ one.1 (name_parts (codes "init") names)))) in
    cond_both (eqb (length five.1) 0) (Some found) None (λ o. o ≡ Some f → names ≡ flag_names f)
    (λ t g.
    let same : found ≡ f = cc in
    all ∙ ap (λ (xs : List (List ℕ)). flag_names found ++ xs) (no_more five.1 t) ∙ append-nil (flag_names found) ∙ ap flag_names same)
    (λ t g. absurd cc)
    e

some_part : (sep : ℕ) (word : List ℕ) → parts_of sep word ≡ [] → ⊥
some_part sep word e = let many = length-slice_split (λ b. eqb b sep) word in let none = ap (λ (xs : List (List ℕ)). length xs) e in omega (arith, many, none)

joined_names : (word : List ℕ) (names : List (List ℕ)) → parts_of 44 word ≡ names → word ≡ names_word names
joined_names word [] e = absurd (some_part 44 word e)
joined_names word (name ∷ names) e = sym (join_with_byte-slice_split 44 word) ∙ ap (join_with_byte 44) e

pub flags_take : (word : List ℕ) (f : Flags) → flags_of word ≡ Some f → word ≡ flags_word f
flags_take word f e =
    let none : Flags = record { init = false; stale = false; prefer = false; offline = false; nosync = false } in
    cond_both (bytes_eq word (codes "0")) (Some none) (flags_of_names (parts_of 44 word)) (λ o. o ≡ Some f → word ≡ flags_word f)
    (λ t g. same_bytes word (codes "0") t ∙ ap flags_word (let same : none ≡ f = cc in same))
    (λ t g. joined_names word (flag_names f) (names_take (parts_of 44 word) f g))
    e

flags_by : (a b c d e : Bool) → flags_of (flags_word (record { init = a; stale = b; prefer = c; offline = d; nosync = e })) ≡ Some (record { init = a; stale = b; prefer = c; offline = d; nosync = e })
unfolding flags_of_names
flags_by true true true true true = refl
flags_by true true true true false = refl
flags_by true true true false true = refl
flags_by true true true false false = refl
flags_by true true false true true = refl
flags_by true true false true false = refl
flags_by true true false false true = refl
flags_by true true false false false = refl
flags_by true false true true true = refl
flags_by true false true true false = refl
flags_by true false true false true = refl
flags_by true false true false false = refl
flags_by true false false true true = refl
flags_by true false false true false = refl
flags_by true false false false true = refl
flags_by true false false false false = refl
flags_by false true true true true = refl
flags_by false true true true false = refl
flags_by false true true false true = refl
flags_by false true true false false = refl
flags_by false true false true true = refl
flags_by false true false true false = refl
flags_by false true false false true = refl
flags_by false true false false false = refl
flags_by false false true true true = refl
flags_by false false true true false = refl
flags_by false false true false true = refl
flags_by false false true false false = refl
flags_by false false false true true = refl
flags_by false false false true false = refl
flags_by false false false false true = refl
flags_by false false false false false = refl

pub flags_again : (f : Flags) → flags_of (flags_word f) ≡ Some f
flags_again f = flags_by f.init f.stale f.prefer f.offline f.nosync

-- ---- objects

pub objects_take : (word : List ℕ) (objects : List ObjectId) → list_of object_of word ≡ Some objects → word ≡ list_text object_text objects
objects_take word objects e = ((list_spelled object_one_word word objects).0 e).1

pub objects_again : (objects : List ObjectId) → AllByRecursion IsObjectItem objects → list_of object_of (list_text object_text objects) ≡ Some objects
objects_again objects all = (list_spelled object_one_word (list_text object_text objects) objects).1 (all, refl)
