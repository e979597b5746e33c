-- Lists of different items, both ways, and the first fault.
use Rattle.std.proofs.Common.{◌≡◌, ℕ, ◌+◌, ◌<◌, ◌≤◌, get_or, Bool, true, false, not, List, [], ◌∷◌, ◌++◌, length, map, Option, Some, None, Result, Ok, Err, refl, sym, ap, subst, ◌∙◌, append_assoc, inl, inr}
use Rattle.std.specs.List.{list_any, IsDistinct, AllByRecursion}
use Rattle.std.specs.Cmp.{IsEquivalence}
use Rattle.std.proofs.lemmas.Bool.{cond_both}
use Rattle.std.proofs.lemmas.List.{append-nil, length-map}
use Rattle.std.proofs.lemmas.List.Folds.{list_any-append}
use Rattle.std.proofs.lemmas.Map.Keys.{IsDistinct-push, IsDistinct-head, IsDistinct-tail}
use Rattle.flr_base.specs.Reading.{after, reads}
use Rattle.flr_base.proofs.Reader.{SoFar, piece_more, piece_fault, so_far_end}
use denote.Ref.{Bor}
use Rattle.text_words.specs.Pieces.{Lacks, AllLack}
use Rattle.lfs_values.specs.DistinctItems.{with_found, with_item, placeless, items_of, IsItemFault, IsFirstItemFault}
use Rattle.lfs_values.specs.declared.cause.Fault.{Fault}
use Rattle.lfs_values.specs.declared.cause.Fault.TheVariants as faults

-- the items of the words after those before them: what was read, and what it was read of
abbrev pub Read : {A : Type 0} → (A → A → Bool) → (List ℕ → Option A) → List A → List (List ℕ) → List A → Type 0
Read {A} same read before words all = (more : List A) × (all ≡ before ++ more) × IsDistinct same all × (map read words ≡ map (λ item. Some item) more)

-- the fault among the words after the items before them
pub record Faulty {A : Type 0} (same : A → A → Bool) (bad : Fault) (read : List ℕ → Option A) (earlier : List A) (words : List (List ℕ)) (fault : Fault) : Type 0 where
  pub front : List (List ℕ)
  pub word : List ℕ
  pub behind : List (List ℕ)
  pub more : List A
  pub whole : words ≡ front ++ word ∷ behind
  pub items : map read front ≡ map (λ item. Some item) more
  pub differ : IsDistinct same (earlier ++ more)
  pub first : IsItemFault same bad read (earlier ++ more) word fault

abbrev step : {A : Type 0} → (A → A → Bool) → Fault → (List ℕ → Option A) → List A → List ℕ → Result (List A) Fault
step same bad read = with_item same bad read

-- the words that the slices are
abbrev pub plain : List (Bor (List ℕ)) → List (List ℕ)
plain xs = map (λ (x : Bor (List ℕ)). x.now) xs

-- ---- a loop over the words

module _ {A : Type 0} (same : A → A → Bool) (bad : Fault) (read : List ℕ → Option A) where
  pub item_none : (xs : List (Bor (List ℕ))) (at : ℕ) (d : Bor (List ℕ)) (items : List A) → SoFar (step same bad read) [] (plain xs) at items → at < length xs → read (get_or xs at d).now ≡ None → items_of same bad read (plain xs) ≡ Err bad
  item_none xs at d items h lt e = ap placeless (piece_fault (step same bad read) [] items xs at d bad h lt (ap (with_found same bad items) e))

  pub item_twice : (xs : List (Bor (List ℕ))) (at : ℕ) (d : Bor (List ℕ)) (items : List A) (item : A) → SoFar (step same bad read) [] (plain xs) at items → at < length xs → read (get_or xs at d).now ≡ Some item → list_any (same item) items ≡ true
      → items_of same bad read (plain xs) ≡ Err faults.Repeated
  item_twice xs at d items item h lt e f = ap placeless (piece_fault (step same bad read) [] items xs at d faults.Repeated h lt (ap (with_found same bad items) e ∙ rw f refl))

  pub item_more : (xs : List (Bor (List ℕ))) (at : ℕ) (d : Bor (List ℕ)) (items : List A) (item : A) → SoFar (step same bad read) [] (plain xs) at items → at < length xs → read (get_or xs at d).now ≡ Some item → list_any (same item) items ≡ false
      → SoFar (step same bad read) [] (plain xs) (at + 1) (items ++ item ∷ [])
  item_more xs at d items item h lt e f = piece_more (step same bad read) [] items (items ++ item ∷ []) xs at d h lt (ap (with_found same bad items) e ∙ rw f refl)

  pub items_end : (xs : List (Bor (List ℕ))) (at : ℕ) (items : List A) → SoFar (step same bad read) [] (plain xs) at items → length xs ≤ at → items_of same bad read (plain xs) ≡ Ok items
  items_end xs at items h le = ap placeless (so_far_end (step same bad read) [] items (plain xs) at h (rw length-map le))

pub none_same : {A : Type 0} (same : A → A → Bool) → IsDistinct same []
unfolding IsDistinct
none_same same = tt

-- each item of the rest differs from all those before
abbrev pub Apart : {A : Type 0} → (A → A → Bool) → List A → List A → Type 0
Apart same before rest = AllByRecursion (λ item. list_any (same item) before ≡ false) rest

pub apart_push : {A : Type 0} (same : A → A → Bool) → IsEquivalence same → (before : List A) (x : A) (rest : List A) → Apart same before rest → AllByRecursion (λ y. same x y ≡ false) rest → Apart same (before ++ x ∷ []) rest
apart_push same laws before x [] a h = tt
apart_push same laws before x (y ∷ ys) a h = (list_any-append (same y) before (x ∷ []) ∙ rw (a.0, laws.symm y x, h.0) refl, apart_push same laws before x ys a.1 h.1)

pub apart_none : {A : Type 0} (same : A → A → Bool) (rest : List A) → Apart same [] rest
apart_none same [] = tt
apart_none same (x ∷ xs) = (refl, apart_none same xs)

module _ {A : Type 0} (same : A → A → Bool) (laws : IsEquivalence same) (bad : Fault) (read : List ℕ → Option A) where
  found_ok : (items : List A) (word : List ℕ) (next : List A) (o : Option A) → read word ≡ o → with_found same bad items o ≡ Ok next
      → (item : A) × (read word ≡ Some item) × (list_any (same item) items ≡ false) × (next ≡ items ++ item ∷ [])
  found_ok items word next None e f = absurd cc
  found_ok items word next (Some item) e f =
      cond_both (list_any (same item) items) (Err faults.Repeated) (Ok (items ++ item ∷ [])) (λ r. r ≡ Ok next → (x : A) × (read word ≡ Some x) × (list_any (same x) items ≡ false) × (next ≡ items ++ x ∷ []))
      (λ t g. absurd cc)
      (λ t g. let is : items ++ item ∷ [] ≡ next = cc in (item, e, t, sym is)) f

  found_err : (items : List A) (word : List ℕ) (fault : Fault) (o : Option A) → read word ≡ o → with_found same bad items o ≡ Err fault → IsItemFault same bad read items word fault
  found_err items word fault None e f = let is : bad ≡ fault = cc in inl (sym is, e)
  found_err items word fault (Some item) e f =
      cond_both (list_any (same item) items) (Err faults.Repeated) (Ok (items ++ item ∷ [])) (λ r. r ≡ Err fault → IsItemFault same bad read items word fault)
      (λ t g. let is : faults.Repeated ≡ fault = cc in inr (sym is, (item, e, t)))
      (λ t g. absurd cc) f

  -- ---- what is read

  one_item : (word : List ℕ) (item : A) (words : List (List ℕ)) (items : List A) → read word ≡ Some item → map read words ≡ map (λ x. Some x) items → map read (word ∷ words) ≡ map (λ x. Some x) (item ∷ items)
  one_item word item words items e f = rw (e, f) refl

  more_read : (before : List A) (item : A) (word : List ℕ) (words : List (List ℕ)) (all : List A) → read word ≡ Some item → Read same read (before ++ item ∷ []) words all → Read same read before (word ∷ words) all
  more_read before item word words all e h =
      (item ∷ h.0, h.1 ∙ append_assoc before (item ∷ []) h.0, h.2, one_item word item words h.0 e h.3)

  one_read : (at : ℕ) (before : List A) (word : List ℕ) (words : List (List ℕ)) (all : List A) (r : Result (List A) Fault) → step same bad read before word ≡ r → after r at (λ t. reads (step same bad read) (at + 1) t words) ≡ Ok all
      → IsDistinct same before → ((t : List A) → reads (step same bad read) (at + 1) t words ≡ Ok all → IsDistinct same t → Read same read t words all) → Read same read before (word ∷ words) all
  one_read at before word words all (Err fault) e h d k = absurd cc
  one_read at before word words all (Ok t) e h d k =
      let m = found_ok before word t (read word) refl e in
      let next = IsDistinct-push laws before m.0 d m.2 in
      more_read before m.0 word words all m.1 (subst (λ (u : List A). Read same read u words all) m.3 (k t h (subst (IsDistinct same) (sym m.3) next)))

  ran : (at : ℕ) (before : List A) (words : List (List ℕ)) (all : List A) → reads (step same bad read) at before words ≡ Ok all → IsDistinct same before → Read same read before words all
  ran at before [] all e d = let is : before ≡ all = cc in ([], sym is ∙ sym (append-nil before), subst (IsDistinct same) is d, refl)
  ran at before (word ∷ words) all e d = one_read at before word words all (step same bad read before word) refl e d (λ t f g. ran (at + 1) t words all f g)

  -- ---- the first fault

  one_faulty : (at place : ℕ) (before : List A) (word : List ℕ) (words : List (List ℕ)) (fault : Fault) (r : Result (List A) Fault) → step same bad read before word ≡ r → after r at (λ t. reads (step same bad read) (at + 1) t words) ≡ Err (place, fault)
      → IsDistinct same before → ((t : List A) → reads (step same bad read) (at + 1) t words ≡ Err (place, fault) → IsDistinct same t → Faulty same bad read t words fault) → Faulty same bad read before (word ∷ words) fault
  one_faulty at place before word words fault (Err found) e h d k =
      let there : ℕ × Fault = (at, found) in
      let here : ℕ × Fault = (place, fault) in
      let is : there ≡ here = cc in
      let found_is : found ≡ fault = ap (λ (p : ℕ × Fault). p.1) is in
      record {
        front = [];
        word = word;
        behind = words;
        more = [];
        whole = refl;
        items = refl;
        differ = rw append-nil d;
        first = rw append-nil (found_err before word fault (read word) refl (e ∙ ap (λ (f : Fault). Err f) found_is));
      }
  one_faulty at place before word words fault (Ok t) e h d k =
      let m = found_ok before word t (read word) refl e in
      let f = k t h (subst (IsDistinct same) (sym m.3) (IsDistinct-push laws before m.0 d m.2)) in
      let same_items : t ++ f.more ≡ before ++ m.0 ∷ f.more = ap (λ (u : List A). u ++ f.more) m.3 ∙ append_assoc before (m.0 ∷ []) f.more in
      record {
        front = word ∷ f.front;
        word = f.word;
        behind = f.behind;
        more = m.0 ∷ f.more;
        whole = ap (λ (ws : List (List ℕ)). word ∷ ws) f.whole;
        items = one_item word m.0 f.front f.more m.1 f.items;
        differ = subst (IsDistinct same) same_items f.differ;
        first = subst (λ (u : List A). IsItemFault same bad read u f.word fault) same_items f.first;
      }

  faulty : (at place : ℕ) (before : List A) (words : List (List ℕ)) (fault : Fault) → reads (step same bad read) at before words ≡ Err (place, fault) → IsDistinct same before → Faulty same bad read before words fault
  faulty at place before [] fault e d = absurd cc
  faulty at place before (word ∷ words) fault e d = one_faulty at place before word words fault (step same bad read before word) refl e d (λ t f g. faulty (at + 1) place t words fault f g)

  -- ---- what is spelled is read

  runs : (at : ℕ) (before rest : List A) (words : List (List ℕ)) → IsDistinct same rest → Apart same before rest → map read words ≡ map (λ item. Some item) rest → reads (step same bad read) at before words ≡ Ok (before ++ rest)
  runs at before [] [] d a e = ap (λ (u : List A). Ok u) (sym (append-nil before))
  runs at before [] (w ∷ ws) d a e = absurd cc
  runs at before (x ∷ xs) [] d a e = absurd cc
  runs at before (x ∷ xs) (w ∷ ws) d a e =
      let one : read w ≡ Some x = cc in
      let rest : map read ws ≡ map (λ item. Some item) xs = cc in
      rw (one, a.0) (runs (at + 1) (before ++ x ∷ []) xs ws (IsDistinct-tail same x xs d) (apart_push same laws before x xs a.1 (IsDistinct-head same x xs d)) rest ∙ ap (λ (u : List A). Ok u) (append_assoc before (x ∷ []) xs))

  -- ---- the three laws

  ok_of : (r : Result (List A) (ℕ × Fault)) (all : List A) → placeless r ≡ Ok all → r ≡ Ok all
  ok_of (Ok x) all e = let is : x ≡ all = cc in ap (λ (u : List A). Ok u) is
  ok_of (Err f) all e = absurd cc

  err_of : (r : Result (List A) (ℕ × Fault)) (fault : Fault) → placeless r ≡ Err fault → (place : ℕ) × (r ≡ Err (place, fault))
  err_of (Ok x) fault e = absurd cc
  err_of (Err f) fault e = let is : f.1 ≡ fault = cc in (f.0, ap (λ (g : Fault). Err (f.0, g)) is)

  pub items_takes : (words : List (List ℕ)) (all : List A) → items_of same bad read words ≡ Ok all → IsDistinct same all × (map read words ≡ map (λ item. Some item) all)
  items_takes words all e =
      let r = ran 0 [] words all (ok_of (reads (step same bad read) 0 [] words) all e) (none_same same) in
      (r.2, r.3 ∙ ap (map (λ (item : A). Some item)) (sym r.1))

  pub items_again : (words : List (List ℕ)) (all : List A) → IsDistinct same all → map read words ≡ map (λ item. Some item) all → items_of same bad read words ≡ Ok all
  items_again words all d e = ap placeless (runs 0 [] all words d (apart_none same all) e)

  pub items_fault : (words : List (List ℕ)) (fault : Fault) → items_of same bad read words ≡ Err fault → IsFirstItemFault same bad read words fault
  items_fault words fault e =
      let p = err_of (reads (step same bad read) 0 [] words) fault e in
      let f = faulty 0 p.0 [] words fault p.1 (none_same same) in
      record {
        front = f.front;
        word = f.word;
        behind = f.behind;
        before = f.more;
        whole = f.whole;
        items = f.items;
        differ = f.differ;
        first = f.first;
      }

-- ---- the words of the items

module _ {A : Type 0} (read : List ℕ → Option A) (print : A → List ℕ) where
  pub printed : ((word : List ℕ) (item : A) → read word ≡ Some item → word ≡ print item) → (words : List (List ℕ)) (all : List A) → map read words ≡ map (λ item. Some item) all → words ≡ map print all
  printed takes [] [] e = refl
  printed takes [] (x ∷ xs) e = absurd cc
  printed takes (w ∷ ws) [] e = absurd cc
  printed takes (w ∷ ws) (x ∷ xs) e =
      let one : read w ≡ Some x = cc in
      let rest : map read ws ≡ map (λ item. Some item) xs = cc in
      rw (← takes w x one) (ap (λ (us : List (List ℕ)). w ∷ us) (printed takes ws xs rest))

  pub each_is : (P : A → Type 0) → ((word : List ℕ) (item : A) → read word ≡ Some item → P item) → (words : List (List ℕ)) (all : List A) → map read words ≡ map (λ item. Some item) all → AllByRecursion P all
  each_is P takes words [] e = tt
  each_is P takes [] (x ∷ xs) e = absurd cc
  each_is P takes (w ∷ ws) (x ∷ xs) e =
      let one : read w ≡ Some x = cc in
      let rest : map read ws ≡ map (λ item. Some item) xs = cc in
      (takes w x one, each_is P takes ws xs rest)

  pub reread : (P : A → Type 0) → ((item : A) → P item → read (print item) ≡ Some item) → (all : List A) → AllByRecursion P all → map read (map print all) ≡ map (λ item. Some item) all
  reread P again [] h = refl
  reread P again (x ∷ xs) h = rw (again x h.0, reread P again xs h.1) refl

  pub all_lack : (P : A → Type 0) → ((item : A) → P item → Lacks 44 (print item)) → (all : List A) → AllByRecursion P all → AllLack 44 (map print all)
  all_lack P lacks [] h = tt
  all_lack P lacks (x ∷ xs) h = (lacks x h.0, all_lack P lacks xs h.1)

-- ---- what an insert into a set says

pub was_there : (added there : Bool) → added ≡ not there → added ≡ false → there ≡ true
was_there added true e f = refl
was_there true false e f = absurd cc
was_there false false e f = absurd cc

pub was_new : (added there : Bool) → added ≡ not there → added ≡ true → there ≡ false
was_new added false e f = refl
was_new true true e f = absurd cc
was_new false true e f = absurd cc
