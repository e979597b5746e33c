-- Each item of a list has one word.
use Rattle.std.proofs.Common.{◌≡◌, ℕ, ◌-◌, ◌^◌, ◌<◌, true, false, List, ◌∷◌, ◌++◌, Option, Some, None, refl, ap, subst, ◌∙◌, arith}
use Rattle.std.specs.Prelude.{codes, option_and_then}
use Rattle.std.specs.Option.{option_map}
use Rattle.std.specs.Fmt.{decimal}
use Rattle.std.proofs.lemmas.Bool.{ne_eqb}
use Rattle.std.proofs.lemmas.Option.{option_and_then_some}
use Rattle.flr_base.specs.declared.reply.FailedCall.{FailedCall}
use Rattle.flr_base.specs.declared.reply.Left.{Left}
use Rattle.text_words.specs.Pieces.{Lacks}
use Rattle.text_words.specs.Cuts.{cut_of}
use Rattle.text_words.specs.Numbers.{number_of, number_from}
use Rattle.text_words.specs.Lists.{HasOneWord}
use Rattle.text_words.specs.Items.{two_text, two_of, object_text, object_of, call_text, call_of, left_text, left_of, IsObjectItem, IsCallItem, IsLeftItem}
use Rattle.text_words.proofs.CutLaws.{cut_takes, cut_again}
use Rattle.text_words.proofs.Decimals.{number_takes, number_again}
use Rattle.text_words.proofs.Spellings.{from_takes, from_again}
use Rattle.text_words.proofs.Splits.{decimal_lacks, digits_lack, Lacks-append}

-- a text that lacks the dash isn't the dash
no_dash : (text : List ℕ) → Lacks 45 text → text ≡ codes "-" → ⊥
no_dash text h e = let dash : Lacks 45 (codes "-") = subst (Lacks 45) e h in let clash : true ≡ false = dash.0 in absurd cc

-- ---- numbers

pub number_one_word : HasOneWord decimal number_of (λ n. n < 2 ^ 64)
number_one_word = record {
  takes = number_takes;
  again = number_again;
  apart = λ n h. decimal_lacks 44 n (omega arith) h;
  other = λ n h e. no_dash (decimal n) (decimal_lacks 45 n (omega arith) h) e;
}

pub small_one_word : HasOneWord decimal (number_from 0 (2 ^ 32 - 1)) (λ n. n < 2 ^ 32)
small_one_word = record {
  takes = λ word n e. let t = from_takes 0 (2 ^ 32 - 1) word n e in (omega (arith, t.1), t.2);
  again = λ n h. from_again 0 (2 ^ 32 - 1) n (omega arith) (omega arith) (omega (arith, h));
  apart = λ n h. decimal_lacks 44 n (omega arith) (omega (arith, h));
  other = λ n h e. no_dash (decimal n) (decimal_lacks 45 n (omega arith) (omega (arith, h))) e;
}

-- ---- two numbers

two_lacks : (sep target number : ℕ) → (46 ≡ sep → ⊥) → sep < 48 → target < 2 ^ 8 → number < 2 ^ 32 → Lacks sep (two_text target number)
two_lacks sep target number other low a b =
    Lacks-append sep (decimal target) (46 ∷ decimal number) (decimal_lacks sep target low (omega (arith, a))) (ne_eqb 46 sep other, decimal_lacks sep number low (omega (arith, b)))

found : {A B C : Type 0} (f : A → B → C) (o : Option A) (p : Option B) (y : C) → option_and_then (λ a. option_map (λ b. f a b) p) o ≡ Some y → (a : A) × (b : B) × (o ≡ Some a) × (p ≡ Some b) × (f a b ≡ y)
found f None p y e = absurd cc
found f (Some a) None y e = absurd cc
found f (Some a) (Some b) y e = (a, b, refl, refl, cc)

join_same : (sep : ℕ) (a b c d : List ℕ) → a ≡ b → c ≡ d → a ++ sep ∷ c ≡ b ++ sep ∷ d
join_same sep a b c d e f = rw (e, f) refl

abbrev IsTwo : ℕ × ℕ → Type 0
IsTwo two = (two.0 < 2 ^ 8) × (two.1 < 2 ^ 32)

two_takes : (word : List ℕ) (two : ℕ × ℕ) → two_of word ≡ Some two → IsTwo two × (word ≡ two_text two.0 two.1)
unfolding two_of
two_takes word two e =
    option_and_then_some _ (cut_of 46 word) two e (λ parts c f.
    let both = found (λ (a b : ℕ). (a, b)) (number_from 0 255 parts.0) (number_from 0 (2 ^ 32 - 1) parts.1) two f in
    let front = from_takes 0 255 parts.0 both.0 both.2 in
    let back = from_takes 0 (2 ^ 32 - 1) parts.1 both.1 both.3 in
    let whole = cut_takes 46 word parts.0 parts.1 c in
    let text : word ≡ two_text both.0 both.1 = whole.0 ∙ join_same 46 parts.0 (decimal both.0) parts.1 (decimal both.1) front.2 back.2 in
    subst (λ (t : ℕ × ℕ). IsTwo t × (word ≡ two_text t.0 t.1)) both.4 ((omega (arith, front.1), omega (arith, back.1)), text))

two_again : (target number : ℕ) → target < 2 ^ 8 → number < 2 ^ 32 → two_of (two_text target number) ≡ Some (target, number)
unfolding two_of
two_again target number a b =
    rw (cut_again 46 (decimal target) (decimal number) (decimal_lacks 46 target (omega arith) (omega (arith, a)))) (
    rw (from_again 0 255 target (omega arith) (omega arith) (omega (arith, a)), from_again 0 (2 ^ 32 - 1) number (omega arith) (omega arith) (omega (arith, b))) refl)

made_takes : {A : Type 0} (make : ℕ × ℕ → A) (target number : A → ℕ) → ((t : ℕ × ℕ) → (target (make t) ≡ t.0) × (number (make t) ≡ t.1)) → (word : List ℕ) (a : A) (o : Option (ℕ × ℕ)) → two_of word ≡ o → option_map make o ≡ Some a
    → IsTwo (target a, number a) × (word ≡ two_text (target a) (number a))
made_takes make target number parts word a None r e = absurd cc
made_takes make target number parts word a (Some two) r e =
    let same : make two ≡ a = cc in
    let t = two_takes word two r in
    let p = parts two in
    subst (λ x. IsTwo (target x, number x) × (word ≡ two_text (target x) (number x))) same (rw (p.0, p.1) t)

-- what is written as two numbers, and read so
two_one_word : {A : Type 0} (make : ℕ × ℕ → A) (target number : A → ℕ) → ((t : ℕ × ℕ) → (target (make t) ≡ t.0) × (number (make t) ≡ t.1)) → ((a : A) → make (target a, number a) ≡ a)
    → HasOneWord (λ a. two_text (target a) (number a)) (λ word. option_map make (two_of word)) (λ a. IsTwo (target a, number a))
two_one_word {A} make target number parts back = record {
  takes = λ word a e. made_takes make target number parts word a (two_of word) refl e;
  again = λ a h. ap (option_map make) (two_again (target a) (number a) h.0 h.1) ∙ ap (λ x. Some x) (back a);
  apart = λ a h. two_lacks 44 (target a) (number a) (λ e. omega arith) (omega arith) h.0 h.1;
  other = λ a h e. no_dash (two_text (target a) (number a)) (two_lacks 45 (target a) (number a) (λ e. omega arith) (omega arith) h.0 h.1) e;
}

pub object_one_word : HasOneWord object_text object_of IsObjectItem
object_one_word = two_one_word (λ two. record { target = two.0; number = two.1 }) (λ o. o.target) (λ o. o.number) (λ t. (refl, refl)) (λ o. refl)

pub call_one_word : HasOneWord call_text call_of IsCallItem
call_one_word = two_one_word (λ two. record { target = two.0; call = two.1 }) (λ c. c.target) (λ c. c.call) (λ t. (refl, refl)) (λ c. refl)

-- ---- components that were left

left_takes : (word : List ℕ) (left : Left) → left_of word ≡ Some left → IsLeftItem left × (word ≡ left_text left)
left_takes word left e =
    option_and_then_some _ (cut_of 64 word) left e (λ parts c f.
    let both = found (λ (component : ℕ) (failed : FailedCall). record { component = component; call = failed }) (number_from 0 (2 ^ 32 - 1) parts.0) (call_of parts.1) left f in
    let front = from_takes 0 (2 ^ 32 - 1) parts.0 both.0 both.2 in
    let back = call_one_word.takes parts.1 both.1 both.3 in
    let whole = cut_takes 64 word parts.0 parts.1 c in
    let made : Left = record { component = both.0; call = both.1 } in
    let text : word ≡ left_text made = whole.0 ∙ join_same 64 parts.0 (decimal both.0) parts.1 (call_text both.1) front.2 back.1 in
    subst (λ l. IsLeftItem l × (word ≡ left_text l)) both.4 ((omega (arith, front.1), back.0), text))

left_lacks : (sep : ℕ) (left : Left) → (64 ≡ sep → ⊥) → (46 ≡ sep → ⊥) → sep < 48 → IsLeftItem left → Lacks sep (left_text left)
left_lacks sep left other dot low h =
    Lacks-append sep (decimal left.component) (64 ∷ call_text left.call) (decimal_lacks sep left.component low (omega (arith, h.0)))
    (ne_eqb 64 sep other, two_lacks sep left.call.target left.call.call dot low h.1.0 h.1.1)

pub left_one_word : HasOneWord left_text left_of IsLeftItem
left_one_word = record {
  takes = left_takes;
  again = λ left h.
      rw (cut_again 64 (decimal left.component) (call_text left.call) (digits_lack 64 left.component (λ d lt e. omega arith) (omega (arith, h.0)))) (
      rw (from_again 0 (2 ^ 32 - 1) left.component (omega arith) (omega arith) (omega (arith, h.0)), call_one_word.again left.call h.1) refl);
  apart = λ left h. left_lacks 44 left (λ e. omega arith) (λ e. omega arith) (omega arith) h;
  other = λ left h e. no_dash (left_text left) (left_lacks 45 left (λ e. omega arith) (λ e. omega arith) (omega arith) h) e;
}
