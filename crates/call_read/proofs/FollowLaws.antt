-- The lines behind a call's own: as many as there are, and the first with which they don't go on.
use Rattle.std.proofs.Common.{◌≡◌, ℕ, zero, suc, ◌+◌, ◌-◌, ◌^◌, ◌<◌, List, [], ◌∷◌, ◌++◌, length, map, take, Option, Some, None, refl, sym, ap, subst, ◌∙◌, append_assoc, arith}
use Rattle.std.specs.Prelude.{◌↔◌}
use Rattle.std.specs.List.{AllByRecursion}
use Rattle.std.proofs.lemmas.Grind.{flat_map-append}
use Rattle.std.proofs.lemmas.List.{append-nil, map-append, length-append}
use Rattle.std.proofs.Math.Seq.{take-append_seam}
use Rattle.flr_base.specs.declared.reply.Diff.{Diff}
use Rattle.flr_base.specs.declared.reply.Reply.TheVariants as reply
use Rattle.flr_base.specs.declared.reply.Take.{Take}
use Rattle.text_words.specs.Lines.{onto_line, lines_of, text_of, unended}
use Rattle.text_words.specs.Pieces.{Lacks}
use Rattle.composite_layout.specs.Layouts.{Composite}
use Rattle.layout_text.specs.Spelling.{IsSpellable, IsFrontFault}
use Rattle.layout_text.specs.Texts.{text_of_layout}
use Rattle.layout_text.specs.declared.error.TextError.{TextError}
use Rattle.layout_text.specs.declared.error.TextError.TheVariants.{Bad, NoMemory}
use Rattle.report_text.specs.Answers.{take_line, diff_line}
use Rattle.reply_read.specs.declared.answer.Answer.TheVariants as answers
use Rattle.reply_read.specs.Limits.{IsTake, IsDiff}
use Rattle.reply_read.proofs.LineLaws.{take_lacks}
use Rattle.call_read.specs.Following.{Lines, ended, IsStop, StopsAt, AreDiffLines, Follow, TakesFirst, StandsFirst}
use Rattle.call_read.proofs.Stops.{Leaves, stop_behind, stop_here}

-- ---- lines of texts

pub lines_first : (line rest : List ℕ) → Lacks 10 line → lines_of (line ++ 10 ∷ rest) ≡ Some line ∷ lines_of rest
lines_first [] rest h = refl
lines_first (c ∷ cs) rest h = rw h.0 (ap (onto_line c) (lines_first cs rest h.1))

-- one item more
pub item_more : {A : Type 0} (f : A → List ℕ) (xs : List A) (x : A) (text rest more : List ℕ) → text ≡ text_of (map f xs) ++ rest → rest ≡ f x ++ 10 ∷ more → text ≡ text_of (map f (xs ++ x ∷ [])) ++ more
item_more {A} f xs x text rest more is one =
    let line : List ℕ = f x ++ 10 ∷ [] in
    let split : text_of (map f (xs ++ x ∷ [])) ≡ text_of (map f xs) ++ (line ++ []) = ap text_of (map-append f xs (x ∷ [])) ∙ flat_map-append (λ (l : List ℕ). l ++ 10 ∷ []) (map f xs) (f x ∷ []) in
    let whole : line ++ more ≡ f x ++ 10 ∷ more = append_assoc (f x) (10 ∷ []) more in
    is ∙ ap (λ (ys : List ℕ). text_of (map f xs) ++ ys) (one ∙ sym whole) ∙ sym (append_assoc (text_of (map f xs)) line more)
    ∙ ap (λ (ys : List ℕ). (text_of (map f xs) ++ ys) ++ more) (sym (append-nil line)) ∙ ap (λ (ys : List ℕ). ys ++ more) (sym split)

all_push : {A : Type 0} (P : A → Type 0) (xs : List A) (x : A) → AllByRecursion P xs → P x → AllByRecursion P (xs ++ x ∷ [])
all_push P [] x all h = (h, tt)
all_push P (y ∷ ys) x all h = (all.0, all_push P ys x all.1 h)

length_push : {A : Type 0} (xs : List A) (x : A) (n : ℕ) → length xs ≡ n → length (xs ++ x ∷ []) ≡ n + 1
length_push xs x n h = let sum = length-append xs (x ∷ []) in omega (arith, sum, h)

-- ---- pieces of a read

pub record TakesSoFar (text : List ℕ) (ts : List Take) (rest : List ℕ) : Type 0 where
  pub all : AllByRecursion IsTake ts
  pub parts : text ≡ text_of (map take_line ts) ++ rest

pub takes_start : (text : List ℕ) → TakesSoFar text [] text
takes_start text = record { all = tt; parts = refl }

pub takes_more : (text rest more line : List ℕ) (ts : List Take) (found : Option Take) (t : Take) → TakesSoFar text ts rest → rest ≡ line ++ 10 ∷ more → ((piece : Take) → ((found ≡ Some piece) ↔ (IsTake piece × (line ≡ take_line piece)))) → found ≡ Some t
    → TakesSoFar text (ts ++ t ∷ []) more
takes_more text rest more line ts found t so_far cut spelled is =
    let said = (spelled t).0 is in
    record { all = all_push IsTake ts t so_far.all said.0; parts = item_more take_line ts t text rest more so_far.parts (cut ∙ ap (λ (xs : List ℕ). xs ++ 10 ∷ more) said.1) }

-- the next line is no piece's
pub takes_stop : (text rest more line : List ℕ) (ts : List Take) (found : Option Take) → TakesSoFar text ts rest → lines_of rest ≡ Some line ∷ lines_of more → ((piece : Take) → ((found ≡ Some piece) ↔ (IsTake piece × (line ≡ take_line piece)))) → found ≡ None → TakesFirst text ts rest
takes_stop text rest more line ts found so_far first spelled is = record {
  all = so_far.all;
  parts = so_far.parts;
  longest = λ piece after good e.
      let lines : Some line ∷ lines_of more ≡ Some (take_line piece) ∷ lines_of after = sym first ∙ ap lines_of e ∙ lines_first (take_line piece) after (take_lacks piece good) in
      let same : line ≡ take_line piece = cc in
      let clash : None ≡ Some piece = sym is ∙ (spelled piece).1 (good, same) in
      absurd cc;
}

pub not_unended : (rest : List ℕ) (line : List ℕ) (ls : Lines) → unended rest ≡ Some line ∷ ls → ⊥
not_unended [] line ls e = cc
not_unended (c ∷ cs) line ls e = cc

-- there is no further line
pub takes_end : (text rest : List ℕ) (ts : List Take) → TakesSoFar text ts rest → lines_of rest ≡ unended rest → TakesFirst text ts rest
takes_end text rest ts so_far none = record {
  all = so_far.all;
  parts = so_far.parts;
  longest = λ piece after good e. not_unended rest (take_line piece) (lines_of after) (sym none ∙ ap lines_of e ∙ lines_first (take_line piece) after (take_lacks piece good));
}

pub with_takes : (text bytes rest : List ℕ) (ts : List Take) → TakesFirst text ts rest → StandsFirst (answers.Bytes bytes) text (reply.Bytes bytes) ts rest
with_takes text bytes rest ts t = record { becomes = (refl, t.all); parts = t.parts; longest = t.longest }

-- ---- differences

-- lines of differences, one after another
diff_leaves : (n : ℕ) (d : Diff) → IsDiff d → Leaves (AreDiffLines (suc n)) (Some (diff_line d) ∷ []) (AreDiffLines n)
diff_leaves n d good tail = (forth tail, λ h. (d ∷ h.0, ap suc h.1, (good, h.2), ap (λ (ys : Lines). Some (diff_line d) ∷ ys) h.3))
  where
    by : (ds : List Diff) (tail : Lines) → length ds ≡ suc n → AllByRecursion IsDiff ds → Some (diff_line d) ∷ tail ≡ ended (map diff_line ds) → AreDiffLines n tail
    by [] tail size all e = absurd cc
    by (x ∷ ds) tail size all e = (ds, omega (arith, size), all.1, cc)

    forth : (tail : Lines) → AreDiffLines (suc n) (Some (diff_line d) ∷ tail) → AreDiffLines n tail
    forth tail h = by h.0 tail h.1 h.2 h.3

no_diffs : (n : ℕ) → AreDiffLines (suc n) [] → ⊥
no_diffs n h = by h.0 h.1 h.3
  where
    by : (ds : List Diff) → length ds ≡ suc n → [] ≡ ended (map diff_line ds) → ⊥
    by [] size e = omega (arith, size)
    by (x ∷ ds) size e = cc

first_diff : (n : ℕ) (y : Option (List ℕ)) (more : Lines) → AreDiffLines (suc n) (y ∷ more) → (d : Diff) × IsDiff d × (y ≡ Some (diff_line d))
first_diff n y more h = by h.0 h.1 h.2 h.3
  where
    by : (ds : List Diff) → length ds ≡ suc n → AllByRecursion IsDiff ds → y ∷ more ≡ ended (map diff_line ds) → (d : Diff) × IsDiff d × (y ≡ Some (diff_line d))
    by [] size all e = absurd cc
    by (x ∷ ds) size all e = (x, all.0, cc)

abbrev some_diff : Diff
some_diff = record { first = 0; second = 0; offset = 0; ours = 0; theirs = 0 }

some_diffs : (n : ℕ) → (ys : Lines) × AreDiffLines n ys
some_diffs zero = ([], ([], refl, tt, refl))
some_diffs (suc n) = let m = some_diffs n in (Some (diff_line some_diff) ∷ m.0, (diff_leaves n some_diff (omega arith, omega arith, omega arith, omega arith, omega arith) m.0).1 m.1)

pub record DiffsSoFar (count : ℕ) (text : List ℕ) (taken : ℕ) (ds : List Diff) (rest : List ℕ) : Type 0 where
  pub all : AllByRecursion IsDiff ds
  pub size : length ds ≡ taken
  pub parts : text ≡ text_of (map diff_line ds) ++ rest
  pub goes : (left at : ℕ) → taken + left ≡ count → IsStop (AreDiffLines left) (lines_of rest) at → IsStop (AreDiffLines count) (lines_of text) (taken + at)

pub diffs_start : (count : ℕ) (text : List ℕ) → DiffsSoFar count text 0 [] text
diffs_start count text = record {
  all = tt;
  size = refl;
  parts = refl;
  goes = λ left at e s.
      let whole : left ≡ count = omega (arith, e) in
      let place : at ≡ 0 + at = omega arith in
      subst (λ (k : ℕ). IsStop (AreDiffLines count) (lines_of text) k) place (subst (λ (n : ℕ). IsStop (AreDiffLines n) (lines_of text) at) whole s);
}

pub diffs_more : (count : ℕ) (text rest more line : List ℕ) (taken : ℕ) (ds : List Diff) (found : Option Diff) (d : Diff) → taken < count → DiffsSoFar count text taken ds rest → lines_of rest ≡ Some line ∷ lines_of more → rest ≡ line ++ 10 ∷ more
    → ((x : Diff) → ((found ≡ Some x) ↔ (IsDiff x × (line ≡ diff_line x)))) → found ≡ Some d → DiffsSoFar count text (taken + 1) (ds ++ d ∷ []) more
diffs_more count text rest more line taken ds found d lt so_far first cut spelled is =
    let said = (spelled d).0 is in
    record {
      all = all_push IsDiff ds d so_far.all said.0;
      size = length_push ds d taken so_far.size;
      parts = item_more diff_line ds d text rest more so_far.parts (cut ∙ ap (λ (xs : List ℕ). xs ++ 10 ∷ more) said.1);
      goes = λ left at e s.
          let behind : IsStop (AreDiffLines (suc left)) (Some (diff_line d) ∷ lines_of more) (suc at) = stop_behind (AreDiffLines (suc left)) (AreDiffLines left) (Some (diff_line d)) (lines_of more) at (diff_leaves left d said.0) (no_diffs left) s in
          let lines : Some (diff_line d) ∷ lines_of more ≡ lines_of rest = ap (λ (l : List ℕ). Some l ∷ lines_of more) (sym said.1) ∙ sym first in
          let place : taken + suc at ≡ taken + 1 + at = omega arith in
          subst (λ (k : ℕ). IsStop (AreDiffLines count) (lines_of text) k) place (so_far.goes (suc left) (suc at) (omega (arith, e)) (subst (λ (ys : Lines). IsStop (AreDiffLines (suc left)) ys (suc at)) lines behind));
    }

-- the line isn't one of a difference, or there is none
diffs_stop_by : (count : ℕ) (text rest : List ℕ) (taken left : ℕ) (ds : List Diff) → taken + suc left ≡ count → count < 2 ^ 32 → DiffsSoFar count text taken ds rest → ((d : Diff) (tail : Lines) → IsDiff d → lines_of rest ≡ Some (diff_line d) ∷ tail → ⊥)
    → StopsAt (Follow (answers.Differ count)) text (Bad (taken + 1))
diffs_stop_by count text rest taken left ds e few so_far none =
    let m = some_diffs (suc left) in
    let here : IsStop (AreDiffLines (suc left)) (lines_of rest) 0 = stop_here (AreDiffLines (suc left)) (lines_of rest) (m.0, m.1) (no_diffs left) (λ y tail more is h.
    let f = first_diff left y more h in none f.0 tail f.1 (is ∙ ap (λ (z : Option (List ℕ)). z ∷ tail) f.2)) in
    (taken + 0, so_far.goes (suc left) 0 e here, omega (arith, e, few))

pub diffs_stop : (count : ℕ) (text rest more line : List ℕ) (taken : ℕ) (ds : List Diff) (found : Option Diff) → taken < count → count < 2 ^ 32 → DiffsSoFar count text taken ds rest → lines_of rest ≡ Some line ∷ lines_of more → ((x : Diff) → ((found ≡ Some x) ↔ (IsDiff x × (line ≡ diff_line x))))
    → found ≡ None → StopsAt (Follow (answers.Differ count)) text (Bad (taken + 1))
diffs_stop count text rest more line taken ds found lt few so_far first spelled is =
    diffs_stop_by count text rest taken (count - taken - 1) ds (omega arith) few so_far (λ d tail good e.
    let lines : Some line ∷ lines_of more ≡ Some (diff_line d) ∷ tail = sym first ∙ e in
    let same : line ≡ diff_line d = cc in
    let clash : None ≡ Some d = sym is ∙ (spelled d).1 (good, same) in
    absurd cc)

pub diffs_short : (count : ℕ) (text rest : List ℕ) (taken : ℕ) (ds : List Diff) → taken < count → count < 2 ^ 32 → DiffsSoFar count text taken ds rest → lines_of rest ≡ unended rest → StopsAt (Follow (answers.Differ count)) text (Bad (taken + 1))
diffs_short count text rest taken ds lt few so_far none =
    diffs_stop_by count text rest taken (count - taken - 1) ds (omega arith) few so_far (λ d tail good e. not_unended rest (diff_line d) tail (sym none ∙ e))

pub diffs_end : (count : ℕ) (text rest : List ℕ) (taken : ℕ) (ds : List Diff) → taken ≡ count → DiffsSoFar count text taken ds rest → StandsFirst (answers.Differ count) text (reply.Differ ds) [] rest
diffs_end count text rest taken ds e so_far = record { becomes = ((ds, so_far.size ∙ e, so_far.all, refl), refl); parts = so_far.parts; longest = tt }

-- ---- layouts

pub layout_stop : (text : List ℕ) (error : TextError) → ((line : ℕ) → error ≡ Bad line → line < 2 ^ 32) → IsFrontFault text error → StopsAt (Follow answers.Layout) text error
layout_stop text (Bad line) few h = let some = h.0 in let fits = few line refl in (line - 1, record { fault = h.1.fault; whole = h.1.whole }, omega (arith, some, fits))
layout_stop text NoMemory few h = tt

pub layout_stands : (text front rest octets : List ℕ) (l : Composite) → IsSpellable l → text ≡ text_of_layout l ++ rest → front ≡ take (length text - length rest) text → octets ≡ front → StandsFirst answers.Layout text (reply.Layout octets) [] rest
layout_stands text front rest octets l good parts cut copy =
    let size : length text - length rest ≡ length (text_of_layout l) = let sum = length-append (text_of_layout l) rest in let whole : length text ≡ length (text_of_layout l ++ rest) = ap (λ (xs : List ℕ). length xs) parts in omega (arith, sum, whole) in
    let is : octets ≡ text_of_layout l = copy ∙ cut ∙ ap (λ (n : ℕ). take n text) size ∙ ap (take (length (text_of_layout l))) parts ∙ take-append_seam (text_of_layout l) rest in
    record { becomes = ((l, good, ap (λ (t : List ℕ). reply.Layout t) is), refl); parts = parts ∙ ap (λ (t : List ℕ). t ++ rest) (sym is); longest = tt }
