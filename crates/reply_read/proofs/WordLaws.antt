-- Each word is read as what it is printed for, and no other word is.
use Rattle.std.proofs.Common.{◌≡◌, ℕ, ◌+◌, ◌/◌, ◌%◌, ◌^◌, ◌<◌, ◌≤◌, Bool, true, false, cond, eqb, ltb, List, [], ◌∷◌, ◌++◌, length, Option, Some, None, refl, sym, ap, subst, ◌∙◌, arith}
use Rattle.std.specs.Prelude.{codes, option_and_then}
use Rattle.std.specs.Option.{option_map}
use Rattle.std.specs.List.{list_all, AllByRecursion}
use Rattle.std.specs.Str.{bytes_eq}
use Rattle.std.specs.Fmt.{decimal, digit_glyph}
use Rattle.std.proofs.lemmas.Bool.{cond_both, and_parts, and_from, eqb-true, ltb-true, lt-ltb, false_from_ne_true}
use Rattle.std.proofs.lemmas.Bool.Decides.{nat_tests}
use Rattle.std.proofs.lemmas.Slice.Eq.{bytes_eq-Decides}
use Rattle.flr_base.specs.declared.reply.Left.{Left}
use Rattle.flr_base.specs.declared.reply.ObjectId.{ObjectId}
use Rattle.flr_base.specs.declared.reply.TakeFrom.{TakeFrom}
use Rattle.flr_base.specs.declared.reply.TakeFrom.TheVariants.{Hole, Object}
use Rattle.flr_base.specs.Runs.{hex, text_of_bytes}
use Rattle.text_words.specs.Bytes.{hex_byte}
use Rattle.text_words.specs.Cuts.{cut_of}
use Rattle.text_words.specs.Items.{two_text, call_text, call_of, left_text, left_of, object_text, object_of, IsCallItem, IsLeftItem, IsObjectItem}
use Rattle.text_words.specs.Lists.{list_of, list_text, HasOneWord}
use Rattle.text_words.specs.Names.{may_stand, is_name_to}
use Rattle.text_words.specs.Numbers.{number_from}
use Rattle.text_words.specs.Pieces.{Lacks}
use Rattle.text_words.specs.Sizes.{end_text}
use Rattle.text_words.specs.Words.{is_graphic, IsGraphic, IsWord}
use Rattle.text_words.proofs.CutLaws.{cut_takes, cut_again}
use Rattle.text_words.proofs.ListTexts.{list_spelled}
use Rattle.text_words.proofs.OneWords.{small_one_word, object_one_word, call_one_word, left_one_word}
use Rattle.text_words.proofs.Spellings.{from_takes, from_again}
use Rattle.text_words.proofs.Splits.{digits_lack, Lacks-append}
use Rattle.text_words.proofs.WordTexts.{decimal_word, end_word, list_word, word_append, word_graphic}
use Rattle.script_values.proofs.CommandLaws.{hex_takes}
use Rattle.script_values.proofs.RunTexts.{bytes_word, glyph_is_graphic}
use Rattle.script_values.proofs.RunWordLaws as runs
use Rattle.script_values.proofs.RunWordLaws.{hex_again}
use Rattle.report_text.specs.Answers.{from_text}
use Rattle.reply_read.specs.Limits.{Has16, Has32, Has64, IsClient, IsCall, AreCalls, AreIds, AreLefts, AreBytes, IsByte, IsFrom}
use Rattle.reply_read.specs.Values.{where_true, number_16, number_32, number_64, client_in, end_in, name_in, bytes_in, is_call, call_in, object_in, ascend, ids_in, are_lefts, lefts_in, calls_in, from_parts, from_in}

-- a value has one word, which is a word: it is read from there, and from no other
pub record OneWord {A : Type 0} (print : A → List ℕ) (read : List ℕ → Option A) (Is : A → Type 0) : Type 0 where
  pub takes : (word : List ℕ) (x : A) → read word ≡ Some x → Is x × (word ≡ print x)
  pub again : (x : A) → Is x → read (print x) ≡ Some x
  pub word : (x : A) → Is x → IsWord (print x)

-- ---- options that are gone on with

pub found : {A B : Type 0} (f : A → Option B) (o : Option A) (y : B) → option_and_then f o ≡ Some y → (x : A) × (o ≡ Some x) × (f x ≡ Some y)
found f None y e = absurd cc
found f (Some x) y e = (x, refl, e)

pub mapped : {A B : Type 0} (f : A → B) (o : Option A) (y : B) → option_map f o ≡ Some y → (x : A) × (o ≡ Some x) × (f x ≡ y)
mapped f None y e = absurd cc
mapped f (Some x) y e = (x, refl, cc)

pub same_word : (word text : List ℕ) → bytes_eq word text ≡ true → word ≡ text
same_word word text e = (bytes_eq-Decides word text).0 e

test_takes : {A : Type 0} (test : A → Bool) (x y : A) (b : Bool) → test x ≡ b → cond b (Some x) None ≡ Some y → (x ≡ y) × (test y ≡ true)
test_takes test x y true t e = let same : x ≡ y = cc in (same, ap test (sym same) ∙ t)
test_takes test x y false t e = absurd cc

pub where_takes : {A : Type 0} (test : A → Bool) (o : Option A) (y : A) → where_true test o ≡ Some y → (o ≡ Some y) × (test y ≡ true)
where_takes test None y e = absurd cc
where_takes test (Some x) y e = let t = test_takes test x y (test x) refl e in (ap (λ z. Some z) t.0, t.1)

pub where_again : {A : Type 0} (test : A → Bool) (o : Option A) (y : A) → o ≡ Some y → test y ≡ true → where_true test o ≡ Some y
where_again {A} test o y is t = ap (where_true test) is ∙ ap (λ (b : Bool). cond b (Some y) None) t

-- ---- numbers

pub word_16 : OneWord decimal number_16 Has16
unfolding number_16
word_16 = record {
  takes = λ word n e. let t = from_takes 0 65535 word n e in (t.1, t.2);
  again = λ n h. from_again 0 65535 n (omega arith) (omega arith) h;
  word = λ n h. decimal_word n;
}

pub word_32 : OneWord decimal number_32 Has32
unfolding number_32
word_32 = record {
  takes = λ word n e. let t = from_takes 0 4294967295 word n e in (t.1, t.2);
  again = λ n h. from_again 0 4294967295 n (omega arith) (omega arith) h;
  word = λ n h. decimal_word n;
}

pub word_64 : OneWord decimal number_64 Has64
unfolding number_64
word_64 = record {
  takes = λ word n e. let t = from_takes 0 18446744073709551615 word n e in (t.1, t.2);
  again = λ n h. from_again 0 18446744073709551615 n (omega arith) (omega arith) h;
  word = λ n h. decimal_word n;
}

pub word_client : OneWord decimal client_in IsClient
unfolding client_in
word_client = record {
  takes = λ word n e. let t = from_takes 1 16 word n e in ((t.0, t.1), t.2);
  again = λ n h. from_again 1 16 n (omega arith) h.0 h.1;
  word = λ n h. decimal_word n;
}

pub word_byte : OneWord hex hex_byte IsByte
word_byte = record {
  takes = hex_takes;
  again = hex_again;
  word = λ byte lt.
      and_from (is_graphic (digit_glyph false (byte / 16))) _ (glyph_is_graphic (byte / 16) (omega (arith, lt)))
      (and_from (is_graphic (digit_glyph false (byte % 16))) true (glyph_is_graphic (byte % 16) (omega (arith, lt))) refl);
}

-- ---- ends

end_not_eof : (n : ℕ) → n ≤ 18446744073709551614 → bytes_eq (decimal n) (codes "EOF") ≡ false
end_not_eof n le = false_from_ne_true (bytes_eq (decimal n) (codes "EOF")) (λ t.
    let lacks = digits_lack 69 n (λ d lt e. omega (arith, lt, e)) (omega (arith, le)) in
    let same : decimal n ≡ codes "EOF" = same_word (decimal n) (codes "EOF") t in
    let first : Lacks 69 (codes "EOF") = subst (Lacks 69) same lacks in
    let clash : true ≡ false = first.0 in absurd cc)

end_takes : (word : List ℕ) (n : ℕ) → end_in word ≡ Some n → Has64 n × (word ≡ end_text (codes "EOF") n)
unfolding end_in
end_takes word n e = cond_both (bytes_eq word (codes "EOF")) (Some 18446744073709551615) (number_from 0 18446744073709551614 word) (λ o. o ≡ Some n → Has64 n × (word ≡ end_text (codes "EOF") n))
    (λ t f. let same : 18446744073709551615 ≡ n = cc in subst (λ (m : ℕ). Has64 m × (word ≡ end_text (codes "EOF") m)) same (omega arith, same_word word (codes "EOF") t))
    (λ t f.
    let k = from_takes 0 18446744073709551614 word n f in
    let le = k.1 in
    let below : eqb n 18446744073709551615 ≡ false = ne_eof n le in
    (omega (arith, le), k.2 ∙ sym (ap (λ (b : Bool). cond b (codes "EOF") (decimal n)) below))) e
  where
    ne_eof : (n : ℕ) → n ≤ 18446744073709551614 → eqb n 18446744073709551615 ≡ false
    ne_eof n le = false_from_ne_true (eqb n 18446744073709551615) (λ t. let is = eqb-true n 18446744073709551615 t in omega (arith, is, le))

end_by : (n : ℕ) (b : Bool) → Has64 n → eqb n 18446744073709551615 ≡ b → end_in (cond b (codes "EOF") (decimal n)) ≡ Some n
unfolding end_in
end_by n true h e = let is : n ≡ 18446744073709551615 = eqb-true n 18446744073709551615 e in ap (λ (m : ℕ). Some m) (sym is)
end_by n false h e =
    let other : n ≡ 18446744073709551615 → ⊥ = λ is. (let clash : true ≡ false = sym (ap (λ (m : ℕ). eqb m 18446744073709551615) is) ∙ e in absurd cc) in
    let le : n ≤ 18446744073709551614 = omega (arith, h, other) in
    rw (end_not_eof n le) (from_again 0 18446744073709551614 n (omega arith) (omega arith) le)

pub word_end : OneWord (end_text (codes "EOF")) end_in Has64
word_end = record {
  takes = end_takes;
  again = λ n h. end_by n (eqb n 18446744073709551615) h refl;
  word = λ n h. end_word (codes "EOF") n refl;
}

-- ---- names

name_byte : (byte : ℕ) → may_stand byte ≡ true → is_graphic byte ≡ true
name_byte byte h = grind (arith, nat_tests)

name_bytes : (bytes : List ℕ) → list_all may_stand bytes ≡ true → IsGraphic bytes
name_bytes [] h = refl
name_bytes (c ∷ cs) h =
    let p = and_parts (may_stand c) (list_all may_stand cs) h in
    and_from (is_graphic c) (list_all is_graphic cs) (name_byte c p.0) (name_bytes cs p.1)

name_word : (most : ℕ) (name : List ℕ) → is_name_to most name ≡ true → IsWord name
name_word most [] h = absurd cc
name_word most (c ∷ cs) h =
    let p = and_parts (eqb c 47) _ h in
    let q = and_parts (ltb 0 (length cs)) _ p.1 in
    let r = and_parts (ltb (length cs) most) (list_all may_stand cs) q.1 in
    let slash : 47 ≡ c = sym (eqb-true c 47 p.0) in
    and_from (is_graphic c) (list_all is_graphic cs) (ap is_graphic (sym slash)) (name_bytes cs r.1)

pub word_name : (most : ℕ) → OneWord (λ (name : List ℕ). name) (name_in most) (λ name. is_name_to most name ≡ true)
unfolding name_in
word_name most = record {
  takes = λ word name e. let t = test_takes (is_name_to most) word name (is_name_to most word) refl e in (t.1, t.0);
  again = λ name h. ap (λ (b : Bool). cond b (Some name) None) h;
  word = λ name h. name_word most name h;
}

-- ---- bytes

pub word_bytes : OneWord text_of_bytes bytes_in AreBytes
word_bytes = record {
  takes = λ word bytes e. let t = runs.from_takes 0 4294967295 word bytes e in ((t.high, t.bytes_are), t.text);
  again = λ bytes h. runs.text_again 0 4294967295 bytes h.1 (omega arith) h.0 (omega arith);
  word = λ bytes h. let few = h.0 in bytes_word bytes h.1 (omega (arith, few));
}

-- ---- calls and objects

two_word : (target number : ℕ) → IsWord (two_text target number)
two_word target number = word_append (decimal target) (46 ∷ decimal number) (decimal_word target) (word_graphic (decimal number) (decimal_word number))

pub word_call : OneWord call_text call_in IsCall
unfolding call_in
word_call = record {
  takes = λ word failed e.
      let w = where_takes is_call (call_of word) failed e in
      let t = call_one_word.takes word failed w.0 in
      ((t.0, w.1), t.1);
  again = λ failed h. where_again is_call (call_of (call_text failed)) failed (call_one_word.again failed h.0) h.1;
  word = λ failed h. two_word failed.target failed.call;
}

abbrev IsObject : ObjectId → Type 0
IsObject object = IsObjectItem object × (ltb object.target 64 ≡ true)

word_object : OneWord object_text object_in IsObject
unfolding object_in
word_object = record {
  takes = λ word object e.
      let w = where_takes (λ (o : ObjectId). ltb o.target 64) (object_of word) object e in
      let t = object_one_word.takes word object w.0 in
      ((t.0, w.1), t.1);
  again = λ object h. where_again (λ (o : ObjectId). ltb o.target 64) (object_of (object_text object)) object (object_one_word.again object h.0) h.1;
  word = λ object h. two_word object.target object.number;
}

-- ---- lists

-- a list of items that have one word each, and pass a test together
listed : {A : Type 0} (print : A → List ℕ) (read : List ℕ → Option A) (IsItem : A → Type 0) (test : List A → Bool) → HasOneWord print read IsItem → ((item : A) → IsWord (print item))
    → OneWord (list_text print) (λ word. where_true test (list_of read word)) (λ items. AllByRecursion IsItem items × (test items ≡ true))
listed print read IsItem test o words = record {
  takes = λ word items e.
      let w = where_takes test (list_of read word) items e in
      let t = (list_spelled o word items).0 w.0 in
      ((t.0, w.1), t.1);
  again = λ items h. where_again test (list_of read (list_text print items)) items ((list_spelled o (list_text print items) items).1 (h.0, refl)) h.1;
  word = λ items h. list_word print items words;
}

left_word : (left : Left) → IsWord (left_text left)
left_word left = word_append (decimal left.component) (64 ∷ call_text left.call) (decimal_word left.component) (word_graphic (call_text left.call) (two_word left.call.target left.call.call))

pub word_ids : OneWord (list_text decimal) ids_in AreIds
unfolding ids_in
word_ids = listed decimal (number_from 0 4294967295) (λ n. n < 2 ^ 32) (ascend 0) small_one_word decimal_word

pub word_lefts : OneWord (list_text left_text) lefts_in AreLefts
unfolding lefts_in
word_lefts = listed left_text left_of IsLeftItem are_lefts left_one_word left_word

pub word_calls : OneWord (list_text call_text) calls_in AreCalls
unfolding calls_in
word_calls = listed call_text call_of IsCallItem (list_all is_call) call_one_word (λ failed. two_word failed.target failed.call)

-- ---- where bytes came from

from_parts_takes : (word : List ℕ) (from : TakeFrom) → from_parts word ≡ Some from → IsFrom from × (word ≡ from_text from)
unfolding from_parts
from_parts_takes word from e =
    let c = found _ (cut_of 64 word) from e in
    let o = found _ (object_in c.0.0) from c.2 in
    let n = mapped (λ (call : ℕ). Object o.0 call) (number_32 c.0.1) from o.2 in
    let front = word_object.takes c.0.0 o.0 o.1 in
    let back = word_32.takes c.0.1 n.0 n.1 in
    let cut = cut_takes 64 word c.0.0 c.0.1 c.1 in
    let text : word ≡ object_text o.0 ++ 64 ∷ decimal n.0 = cut.0 ∙ ap (λ (xs : List ℕ). xs ++ 64 ∷ c.0.1) front.1 ∙ ap (λ (xs : List ℕ). object_text o.0 ++ 64 ∷ xs) back.1 in
    subst (λ f. IsFrom f × (word ≡ from_text f)) n.2 ((front.0.0, ltb-true o.0.target 64 front.0.1, back.0), text)

from_takes_word : (word : List ℕ) (from : TakeFrom) → from_in word ≡ Some from → IsFrom from × (word ≡ from_text from)
unfolding from_in
from_takes_word word from e = cond_both (bytes_eq word (codes "hole")) (Some Hole) (from_parts word) (λ o. o ≡ Some from → IsFrom from × (word ≡ from_text from))
    (λ t f. let same : Hole ≡ from = cc in subst (λ g. IsFrom g × (word ≡ from_text g)) same (tt, same_word word (codes "hole") t))
    (λ t f. from_parts_takes word from f) e

object_lacks : (sep : ℕ) (object : ObjectId) → ((d : ℕ) → d < 10 → 48 + d ≡ sep → ⊥) → eqb 46 sep ≡ false → IsObjectItem object → Lacks sep (object_text object)
object_lacks sep object digit dot h =
    let target = h.0 in
    let number = h.1 in
    Lacks-append sep (decimal object.target) (46 ∷ decimal object.number) (digits_lack sep object.target digit (omega (arith, target))) (dot, digits_lack sep object.number digit (omega (arith, number)))

-- an object and a call isn't the word for a hole
not_hole : (object : ObjectId) (call : ℕ) → IsObjectItem object → Has32 call → bytes_eq (object_text object ++ 64 ∷ decimal call) (codes "hole") ≡ false
not_hole object call h few = false_from_ne_true (bytes_eq (object_text object ++ 64 ∷ decimal call) (codes "hole")) (λ t.
    let same : object_text object ++ 64 ∷ decimal call ≡ codes "hole" = same_word (object_text object ++ 64 ∷ decimal call) (codes "hole") t in
    let digit : (d : ℕ) → d < 10 → 48 + d ≡ 104 → ⊥ = λ d lt e. omega (arith, lt, e) in
    let lacks : Lacks 104 (object_text object ++ 64 ∷ decimal call) = Lacks-append 104 (object_text object) (64 ∷ decimal call) (object_lacks 104 object digit refl h) (refl, digits_lack 104 call digit (omega (arith, few))) in
    let first : Lacks 104 (codes "hole") = subst (Lacks 104) same lacks in
    let clash : true ≡ false = first.0 in absurd cc)

from_again_word : (from : TakeFrom) → IsFrom from → from_in (from_text from) ≡ Some from
unfolding from_in from_parts
from_again_word Hole h = refl
from_again_word (Object object call) h =
    let cut = cut_again 64 (object_text object) (decimal call) (object_lacks 64 object (λ d lt e. omega (arith, lt, e)) refl h.0) in
    rw (not_hole object call h.0 h.2, cut, word_object.again object (h.0, lt-ltb object.target 64 h.1), word_32.again call h.2) refl

from_word : (from : TakeFrom) → IsWord (from_text from)
from_word Hole = refl
from_word (Object object call) = word_append (object_text object) (64 ∷ decimal call) (two_word object.target object.number) (word_graphic (decimal call) (decimal_word call))

pub word_from : OneWord from_text from_in IsFrom
word_from = record { takes = from_takes_word; again = from_again_word; word = λ from h. from_word from }
