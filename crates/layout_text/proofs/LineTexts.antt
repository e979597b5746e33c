-- Each line spells one record, both ways.
use Rattle.std.proofs.Common.{◌≡◌, ℕ, ◌^◌, ◌<◌, eqb, List, [], ◌∷◌, ◌++◌, length, Option, Some, None, refl, sym, ap, ◌∙◌, append_assoc, arith}
use Rattle.std.specs.Prelude.{codes, option_and_then}
use Rattle.std.specs.Option.{option_map}
use Rattle.std.specs.List.{join_with_byte, AllByRecursion}
use Rattle.std.specs.Str.{bytes_eq}
use Rattle.std.specs.Fmt.{decimal}
use Rattle.std.proofs.lemmas.Bool.{cond_both}
use Rattle.std.proofs.lemmas.List.Splits.{join_with_byte-slice_split}
use Rattle.std.proofs.lemmas.Slice.Eq.{bytes_eq-Decides}
use Rattle.std.proofs.lemmas.Option.{option_and_then_some}
use Rattle.flr_base.specs.declared.reply.ObjectId.{ObjectId}
use Rattle.flr_base.specs.declared.reply.Range.{Range}
use Rattle.flr_base.specs.declared.reply.Stripe.{Stripe}
use Rattle.flr_base.proofs.Spelled.{OneSpelling}
use Rattle.text_words.specs.Items.{object_text, object_of, IsObjectItem}
use Rattle.text_words.specs.Lists.{list_of, list_text}
use Rattle.text_words.specs.Numbers.{number_from}
use Rattle.text_words.specs.Pieces.{parts_of}
use Rattle.text_words.specs.Sizes.{end_text}
use Rattle.text_words.proofs.Spellings.{from_again}
use Rattle.text_words.specs.Words.{AreWords, spaced}
use Rattle.text_words.proofs.WordTexts.{parts_of-spaced}
use Rattle.composite_layout.specs.declared.component.Component.{Component}
use Rattle.composite_layout.specs.declared.component.Flags.{Flags}
use Rattle.composite_layout.specs.declared.component.State.{State}
use Rattle.layout_text.specs.declared.line.Head.{Head}
use Rattle.layout_text.specs.declared.line.Line.{Line}
use Rattle.layout_text.specs.declared.line.Line.TheVariants as lines
use Rattle.layout_text.specs.Texts.{state_word, flags_word, component_words}
use Rattle.layout_text.specs.LineWords.{state_of, flags_of, end_of, number_32, value, behind, field, front_of, numbers_of, counts_of, head_from, head_of_words, ids_of, extent_of, stripe_of, shape_of, last_of, objects_of, component_from, component_of, line_from, line_of}
use Rattle.layout_text.proofs.WordLaws.{head_words_by, component_words_words}
use Rattle.layout_text.proofs.OneSpellings.{number_32_takes, number_32_again, number_takes, end_takes, end_again, state_takes, state_again, flags_take, flags_again, objects_take, objects_again, no_more}

-- the words of the head line
abbrev pub head_line_words : Head → List (List ℕ)
head_line_words h = codes "layout" ∷ codes "generation" ∷ decimal h.generation ∷ codes "state" ∷ state_word h.state ∷ codes "next" ∷ decimal h.next_mirror ∷ decimal h.next_counter ∷ codes "components" ∷ decimal h.count ∷ []

abbrev pub line_words : Line → List (List ℕ)
line_words (lines.Head h) = head_line_words h
line_words (lines.Component c) = component_words c

-- the line as a symbol of a text
abbrev pub print : Line → Option (List ℕ)
print line = Some (spaced (line_words line))

-- the numbers have the bits of their types
pub record IsHeldHead (h : Head) : Type 0 where
  pub generation : h.generation < 2 ^ 32
  pub mirror : h.next_mirror < 2 ^ 32
  pub counter : h.next_counter < 2 ^ 32
  pub count : h.count < 2 ^ 32

pub record IsHeld (c : Component) : Type 0 where
  pub id : c.id < 2 ^ 32
  pub mirror : c.mirror < 2 ^ 16
  pub start : c.extent.start < 2 ^ 64
  pub end : c.extent.end < 2 ^ 64
  pub size : c.stripe.size < 2 ^ 64
  pub count : c.stripe.count < 2 ^ 32
  pub objects : AllByRecursion IsObjectItem c.objects

abbrev pub IsHeldLine : Line → Type 0
IsHeldLine (lines.Head h) = IsHeldHead h
IsHeldLine (lines.Component c) = IsHeld c

-- ---- one field

abbrev Words : Type 0
Words = List (List ℕ)

value_by : {A : Type 0} (words : Words) (found : A × Words) (o : Option A) → option_map (λ x. (x, words)) o ≡ Some found → (o ≡ Some found.0) × (words ≡ found.1)
value_by {A} words found None e = absurd cc
value_by {A} words found (Some x) e =
    let made : A × Words = (x, words) in
    let same : made ≡ found = cc in
    (ap (λ (p : A × Words). Some p.0) same, ap (λ (p : A × Words). p.1) same)

value_takes : {A : Type 0} (read : List ℕ → Option A) (print : A → List ℕ) → ((word : List ℕ) (x : A) → read word ≡ Some x → word ≡ print x) → (words : Words) (found : A × Words) → value read words ≡ Some found → words ≡ (print found.0 ∷ []) ++ found.1
value_takes read print takes [] found e = absurd cc
value_takes read print takes (word ∷ words) found e =
    let k = value_by words found (read word) e in
    ap (λ (x : List ℕ). x ∷ words) (takes word found.0 k.0) ∙ ap (λ (xs : Words). print found.0 ∷ xs) k.1

behind_takes : (key : List ℕ) (words rest : Words) → behind key words ≡ Some rest → words ≡ key ∷ rest
behind_takes key [] rest e = absurd cc
behind_takes key (first ∷ words) rest e =
    cond_both (bytes_eq first key) (Some words) None (λ o. o ≡ Some rest → first ∷ words ≡ key ∷ rest)
    (λ t f. let same : words ≡ rest = cc in ap (λ (x : List ℕ). x ∷ words) ((bytes_eq-Decides first key).0 t) ∙ ap (λ (xs : Words). key ∷ xs) same)
    (λ t f. absurd cc)
    e

field_takes : {A : Type 0} (key : List ℕ) (read : List ℕ → Option A) (print : A → List ℕ) → ((word : List ℕ) (x : A) → read word ≡ Some x → word ≡ print x) → (words : Words) (found : A × Words) → field key read words ≡ Some found
    → words ≡ (key ∷ print found.0 ∷ []) ++ found.1
field_takes key read print takes words found e =
    option_and_then_some (value read) (behind key words) found e (λ rest b f. behind_takes key words rest b ∙ ap (λ (xs : Words). key ∷ xs) (value_takes read print takes rest found f))

behind_again : (key : List ℕ) (rest : Words) → behind key (key ∷ rest) ≡ Some rest
behind_again key rest = rw ((bytes_eq-Decides key key).1 refl) refl

value_again : {A : Type 0} (read : List ℕ → Option A) (word : List ℕ) (x : A) (rest : Words) → read word ≡ Some x → value read (word ∷ rest) ≡ Some (x, rest)
value_again read word x rest e = rw e refl

field_again : {A : Type 0} (key : List ℕ) (read : List ℕ → Option A) (word : List ℕ) (x : A) (rest : Words) → read word ≡ Some x → field key read (key ∷ word ∷ rest) ≡ Some (x, rest)
field_again key read word x rest e = ap (option_and_then (value read)) (behind_again key (word ∷ rest)) ∙ value_again read word x rest e

-- ---- two parts, one behind the other

abbrev Part : Type 0 → Type 0
Part A = Words → Option (A × Words)

abbrev Takes : {A : Type 0} → Part A → (A → Words) → Type 0
Takes {A} p print = (words : Words) (found : A × Words) → p words ≡ Some found → words ≡ print found.0 ++ found.1

abbrev both : {A B C : Type 0} → Part A → Part B → (A → B → C) → Part C
both p q make words = option_and_then (λ a. option_map (λ b. (make a.0 b.0, b.1)) (q a.1)) (p words)

both_by : {A B C : Type 0} (p : Part A) (q : Part B) (make : A → B → C) (first : A → Words) (second : B → Words) (whole : C → Words) → Takes q second → ((a : A) (b : B) → whole (make a b) ≡ first a ++ second b)
    → (words : Words) (a : A × Words) (found : C × Words) → words ≡ first a.0 ++ a.1 → (o : Option (B × Words)) → q a.1 ≡ o → option_map (λ b. (make a.0 b.0, b.1)) o ≡ Some found → words ≡ whole found.0 ++ found.1
both_by p q make first second whole qt join words a found e None is f = absurd cc
both_by {C = C} p q make first second whole qt join words a found e (Some b) is f =
    let made : C × Words = (make a.0 b.0, b.1) in
    let same : made ≡ found = cc in
    e ∙ ap (λ (xs : Words). first a.0 ++ xs) (qt a.1 b is) ∙ sym (append_assoc (first a.0) (second b.0) b.1) ∙ ap (λ (xs : Words). xs ++ b.1) (sym (join a.0 b.0)) ∙ ap (λ (f : C × Words). whole f.0 ++ f.1) same

both_takes : {A B C : Type 0} (p : Part A) (q : Part B) (make : A → B → C) (first : A → Words) (second : B → Words) (whole : C → Words) → Takes p first → Takes q second → ((a : A) (b : B) → whole (make a b) ≡ first a ++ second b) → Takes (both p q make) whole
both_takes p q make first second whole pt qt join words found e =
    option_and_then_some _ (p words) found e (λ a is f. both_by p q make first second whole qt join words a found (pt words a is) (q a.1) refl f)

both_again : {A B C : Type 0} (p : Part A) (q : Part B) (make : A → B → C) (words more rest : Words) (a : A) (b : B) → p words ≡ Some (a, more) → q more ≡ Some (b, rest) → both p q make words ≡ Some (make a b, rest)
both_again p q make words more rest a b e f = ap (option_and_then (λ a. option_map (λ b. (make a.0 b.0, b.1)) (q a.1))) e ∙ ap (option_map (λ b. (make a b.0, b.1))) f

-- ---- the head line

abbrev generation_words : ℕ × State → Words
generation_words front = codes "generation" ∷ decimal front.0 ∷ codes "state" ∷ state_word front.1 ∷ []

front_takes : Takes front_of generation_words
front_takes =
    both_takes (field (codes "generation") number_32) (field (codes "state") state_of) (λ g s. (g, s)) (λ g. codes "generation" ∷ decimal g ∷ []) (λ s. codes "state" ∷ state_word s ∷ []) generation_words
    (field_takes (codes "generation") number_32 decimal number_32_takes) (field_takes (codes "state") state_of state_word state_takes) (λ g s. refl)

front_again : (g : ℕ) (s : State) (rest : Words) → g < 2 ^ 32 → front_of (generation_words (g, s) ++ rest) ≡ Some ((g, s), rest)
front_again g s rest lt =
    both_again (field (codes "generation") number_32) (field (codes "state") state_of) (λ g s. (g, s)) (generation_words (g, s) ++ rest) (codes "state" ∷ state_word s ∷ rest) rest g s
    (field_again (codes "generation") number_32 (decimal g) g _ (number_32_again g lt)) (field_again (codes "state") state_of (state_word s) s rest (state_again s))

abbrev counts_words : ℕ × ℕ × ℕ → Words
counts_words c = codes "next" ∷ decimal c.0 ∷ decimal c.1 ∷ codes "components" ∷ decimal c.2 ∷ []

abbrev numbers_words : ℕ × ℕ → Words
numbers_words t = decimal t.0 ∷ codes "components" ∷ decimal t.1 ∷ []

numbers_takes : Takes numbers_of numbers_words
numbers_takes =
    both_takes (value number_32) (field (codes "components") number_32) (λ q n. (q, n)) (λ q. decimal q ∷ []) (λ n. codes "components" ∷ decimal n ∷ []) numbers_words
    (value_takes number_32 decimal number_32_takes) (field_takes (codes "components") number_32 decimal number_32_takes) (λ q n. refl)

counts_takes : Takes counts_of counts_words
counts_takes =
    both_takes (field (codes "next") number_32) numbers_of (λ m t. (m, t.0, t.1)) (λ m. codes "next" ∷ decimal m ∷ []) numbers_words counts_words
    (field_takes (codes "next") number_32 decimal number_32_takes) numbers_takes (λ m t. refl)

counts_again : (m q n : ℕ) (rest : Words) → m < 2 ^ 32 → q < 2 ^ 32 → n < 2 ^ 32 → counts_of (counts_words (m, q, n) ++ rest) ≡ Some ((m, q, n), rest)
counts_again m q n rest a b c =
    both_again (field (codes "next") number_32) numbers_of (λ m t. (m, t.0, t.1)) (counts_words (m, q, n) ++ rest) (numbers_words (q, n) ++ rest) rest m (q, n)
    (field_again (codes "next") number_32 (decimal m) m _ (number_32_again m a))
    (both_again (value number_32) (field (codes "components") number_32) (λ q n. (q, n)) (numbers_words (q, n) ++ rest) (codes "components" ∷ decimal n ∷ rest) rest q n
    (value_again number_32 (decimal q) q _ (number_32_again q b)) (field_again (codes "components") number_32 (decimal n) n rest (number_32_again n c)))

head_by : (front : ℕ × State) (words : Words) (h : Head) (o : Option ((ℕ × ℕ × ℕ) × Words)) → counts_of words ≡ o → head_from front o ≡ Some h
    → (front.0 ≡ h.generation) × (front.1 ≡ h.state) × (words ≡ counts_words (h.next_mirror, h.next_counter, h.count))
head_by front words h None is e = absurd cc
head_by front words h (Some found) is e =
    let made : Head = record { generation = front.0; state = front.1; next_mirror = found.0.0; next_counter = found.0.1; count = found.0.2 } in
    cond_both (eqb (length found.1) 0) (Some made) None (λ o. o ≡ Some h → (front.0 ≡ h.generation) × (front.1 ≡ h.state) × (words ≡ counts_words (h.next_mirror, h.next_counter, h.count)))
    (λ t f.
    let same : made ≡ h = cc in
    let last : words ≡ counts_words found.0 = counts_takes words found is ∙ ap (λ (xs : Words). counts_words found.0 ++ xs) (no_more found.1 t) in
    (ap (λ (k : Head). k.generation) same, ap (λ (k : Head). k.state) same, last ∙ ap (λ (k : Head). counts_words (k.next_mirror, k.next_counter, k.count)) same))
    (λ t f. absurd cc)
    e

head_takes : (words : Words) (h : Head) → head_of_words words ≡ Some h → words ≡ head_line_words h
unfolding head_of_words
head_takes words h e =
    option_and_then_some _ (behind (codes "layout") words) h e (λ rest b f.
    option_and_then_some _ (front_of rest) h f (λ front is g.
    let k = head_by front.0 front.1 h (counts_of front.1) refl g in
    let front_is : generation_words front.0 ≡ generation_words (h.generation, h.state) = ap (λ (x : ℕ). generation_words (x, front.0.1)) k.0 ∙ ap (λ (x : State). generation_words (h.generation, x)) k.1 in
    behind_takes (codes "layout") words rest b ∙ ap (λ (xs : Words). codes "layout" ∷ xs) (front_takes rest front is ∙ ap (λ (xs : Words). xs ++ front.1) front_is ∙ ap (λ (xs : Words). generation_words (h.generation, h.state) ++ xs) k.2)))

head_again : (h : Head) → IsHeldHead h → head_of_words (head_line_words h) ≡ Some h
unfolding head_of_words
head_again h k =
    ap (option_and_then (λ rest. option_and_then (λ front. head_from front.0 (counts_of front.1)) (front_of rest))) (behind_again (codes "layout") (generation_words (h.generation, h.state) ++ counts_words (h.next_mirror, h.next_counter, h.count)))
    ∙ ap (option_and_then (λ front. head_from front.0 (counts_of front.1))) (front_again h.generation h.state (counts_words (h.next_mirror, h.next_counter, h.count)) k.generation)
    ∙ ap (head_from (h.generation, h.state)) (counts_again h.next_mirror h.next_counter h.count [] k.mirror k.counter k.count)

-- ---- a component's line

abbrev ids_words : ℕ × ℕ → Words
ids_words ids = codes "component" ∷ decimal ids.0 ∷ codes "mirror" ∷ decimal ids.1 ∷ []

ids_takes : Takes ids_of ids_words
ids_takes =
    both_takes (field (codes "component") number_32) (field (codes "mirror") (number_from 0 65535)) (λ i m. (i, m)) (λ i. codes "component" ∷ decimal i ∷ []) (λ m. codes "mirror" ∷ decimal m ∷ []) ids_words
    (field_takes (codes "component") number_32 decimal number_32_takes) (field_takes (codes "mirror") (number_from 0 65535) decimal (number_takes 65535)) (λ i m. refl)

ids_again : (i m : ℕ) (rest : Words) → i < 2 ^ 32 → m < 2 ^ 16 → ids_of (ids_words (i, m) ++ rest) ≡ Some ((i, m), rest)
ids_again i m rest a b =
    both_again (field (codes "component") number_32) (field (codes "mirror") (number_from 0 65535)) (λ i m. (i, m)) (ids_words (i, m) ++ rest) (codes "mirror" ∷ decimal m ∷ rest) rest i m
    (field_again (codes "component") number_32 (decimal i) i _ (number_32_again i a)) (field_again (codes "mirror") (number_from 0 65535) (decimal m) m rest (from_again 0 65535 m (omega arith) (omega arith) (omega (arith, b))))

abbrev number_64 : List ℕ → Option ℕ
number_64 word = number_from 0 18446744073709551615 word

number_64_again : (n : ℕ) → n < 2 ^ 64 → number_64 (decimal n) ≡ Some n
number_64_again n lt = from_again 0 18446744073709551615 n (omega arith) (omega arith) (omega (arith, lt))

abbrev range : ℕ → ℕ → Range
range start end = record { start = start; end = end }

abbrev extent_words : Range → Words
extent_words r = codes "extent" ∷ decimal r.start ∷ end_text (codes "EOF") r.end ∷ []

extent_takes : Takes extent_of extent_words
extent_takes =
    both_takes (field (codes "extent") number_64) (value end_of) range (λ s. codes "extent" ∷ decimal s ∷ []) (λ e. end_text (codes "EOF") e ∷ []) extent_words
    (field_takes (codes "extent") number_64 decimal (number_takes 18446744073709551615)) (value_takes end_of (λ e. end_text (codes "EOF") e) end_takes) (λ s e. refl)

extent_again : (r : Range) (rest : Words) → r.start < 2 ^ 64 → r.end < 2 ^ 64 → extent_of (extent_words r ++ rest) ≡ Some (r, rest)
extent_again r rest a b =
    both_again (field (codes "extent") number_64) (value end_of) range (extent_words r ++ rest) (end_text (codes "EOF") r.end ∷ rest) rest r.start r.end
    (field_again (codes "extent") number_64 (decimal r.start) r.start _ (number_64_again r.start a)) (value_again end_of (end_text (codes "EOF") r.end) r.end rest (end_again r.end (omega (arith, b))))

abbrev stripes : ℕ → ℕ → Stripe
stripes size count = record { size = size; count = count }

abbrev stripe_words : Stripe → Words
stripe_words s = codes "size" ∷ decimal s.size ∷ codes "count" ∷ decimal s.count ∷ []

stripe_takes : Takes stripe_of stripe_words
stripe_takes =
    both_takes (field (codes "size") number_64) (field (codes "count") number_32) stripes (λ s. codes "size" ∷ decimal s ∷ []) (λ n. codes "count" ∷ decimal n ∷ []) stripe_words
    (field_takes (codes "size") number_64 decimal (number_takes 18446744073709551615)) (field_takes (codes "count") number_32 decimal number_32_takes) (λ s n. refl)

stripe_again : (s : Stripe) (rest : Words) → s.size < 2 ^ 64 → s.count < 2 ^ 32 → stripe_of (stripe_words s ++ rest) ≡ Some (s, rest)
stripe_again s rest a b =
    both_again (field (codes "size") number_64) (field (codes "count") number_32) stripes (stripe_words s ++ rest) (codes "count" ∷ decimal s.count ∷ rest) rest s.size s.count
    (field_again (codes "size") number_64 (decimal s.size) s.size _ (number_64_again s.size a)) (field_again (codes "count") number_32 (decimal s.count) s.count rest (number_32_again s.count b))

abbrev shape_words : Range × Stripe → Words
shape_words s = extent_words s.0 ++ stripe_words s.1

shape_takes : Takes shape_of shape_words
shape_takes = both_takes extent_of stripe_of (λ r s. (r, s)) extent_words stripe_words shape_words extent_takes stripe_takes (λ r s. refl)

shape_again : (r : Range) (s : Stripe) (rest : Words) → r.start < 2 ^ 64 → r.end < 2 ^ 64 → s.size < 2 ^ 64 → s.count < 2 ^ 32 → shape_of (shape_words (r, s) ++ rest) ≡ Some ((r, s), rest)
shape_again r s rest a b c d = both_again extent_of stripe_of (λ r s. (r, s)) (shape_words (r, s) ++ rest) (stripe_words s ++ rest) rest r s (extent_again r (stripe_words s ++ rest) a b) (stripe_again s rest c d)

objects_by : (words : Words) (objects : List ObjectId) (o : Option (List ObjectId × Words)) → field (codes "objects") (list_of object_of) words ≡ o → last_of o ≡ Some objects → words ≡ codes "objects" ∷ list_text object_text objects ∷ []
objects_by words objects None is e = absurd cc
objects_by words objects (Some found) is e =
    cond_both (eqb (length found.1) 0) (Some found.0) None (λ o. o ≡ Some objects → words ≡ codes "objects" ∷ list_text object_text objects ∷ [])
    (λ t f.
    let same : found.0 ≡ objects = cc in
    field_takes (codes "objects") (list_of object_of) (list_text object_text) objects_take words found is
    ∙ ap (λ (xs : Words). codes "objects" ∷ list_text object_text found.0 ∷ xs) (no_more found.1 t)
    ∙ ap (λ (os : List ObjectId). codes "objects" ∷ list_text object_text os ∷ []) same)
    (λ t f. absurd cc)
    e

last_again : (objects : List ObjectId) → AllByRecursion IsObjectItem objects → objects_of (codes "objects" ∷ list_text object_text objects ∷ []) ≡ Some objects
last_again objects all = ap last_of (field_again (codes "objects") (list_of object_of) (list_text object_text objects) objects [] (objects_again objects all))

-- a component of these parts
abbrev whole : ℕ × ℕ → Flags → Range × Stripe → List ObjectId → Component
whole ids flags shape objects = record { id = ids.0; mirror = ids.1; flags = flags; extent = shape.0; stripe = shape.1; objects = objects }

component_by : (ids : ℕ × ℕ) (flags : Flags) (shape : Range × Stripe) (words : Words) (c : Component) (o : Option (List ObjectId)) → objects_of words ≡ o → component_from ids flags shape o ≡ Some c
    → (objects : List ObjectId) × (whole ids flags shape objects ≡ c) × (words ≡ codes "objects" ∷ list_text object_text objects ∷ [])
component_by ids flags shape words c None is e = absurd cc
component_by ids flags shape words c (Some objects) is e =
    let same : whole ids flags shape objects ≡ c = cc in
    (objects, same, objects_by words objects (field (codes "objects") (list_of object_of) words) refl is)

component_takes : (words : Words) (c : Component) → component_of words ≡ Some c → words ≡ component_words c
unfolding component_of
component_takes words c e =
    option_and_then_some _ (ids_of words) c e (λ ids a f.
    option_and_then_some _ (field (codes "flags") flags_of ids.1) c f (λ flags b g.
    option_and_then_some _ (shape_of flags.1) c g (λ shape d h.
    let k = component_by ids.0 flags.0 shape.0 shape.1 c (objects_of shape.1) refl h in
    ids_takes words ids a
    ∙ ap (λ (xs : Words). ids_words ids.0 ++ xs) (field_takes (codes "flags") flags_of flags_word flags_take ids.1 flags b)
    ∙ ap (λ (xs : Words). ids_words ids.0 ++ codes "flags" ∷ flags_word flags.0 ∷ xs) (shape_takes flags.1 shape d)
    ∙ ap (λ (xs : Words). ids_words ids.0 ++ codes "flags" ∷ flags_word flags.0 ∷ shape_words shape.0 ++ xs) k.2
    ∙ ap component_words k.1)))

component_again : (c : Component) → IsHeld c → component_of (component_words c) ≡ Some c
unfolding component_of
component_again c k =
    let last : Words = codes "objects" ∷ list_text object_text c.objects ∷ [] in
    let shape : Words = shape_words (c.extent, c.stripe) ++ last in
    ap (option_and_then (λ ids. option_and_then (λ flags. option_and_then (λ shape. component_from ids.0 flags.0 shape.0 (objects_of shape.1)) (shape_of flags.1)) (field (codes "flags") flags_of ids.1)))
    (ids_again c.id c.mirror (codes "flags" ∷ flags_word c.flags ∷ shape) k.id k.mirror)
    ∙ ap (option_and_then (λ flags. option_and_then (λ shape. component_from (c.id, c.mirror) flags.0 shape.0 (objects_of shape.1)) (shape_of flags.1))) (field_again (codes "flags") flags_of (flags_word c.flags) c.flags shape (flags_again c.flags))
    ∙ ap (option_and_then (λ shape. component_from (c.id, c.mirror) c.flags shape.0 (objects_of shape.1))) (shape_again c.extent c.stripe last k.start k.end k.size k.count)
    ∙ ap (component_from (c.id, c.mirror) c.flags (c.extent, c.stripe)) (last_again c.objects k.objects)

-- ---- lines

line_by : (words : Words) (x : Line) (o : Option Head) → head_of_words words ≡ o → line_from o words ≡ Some x → words ≡ line_words x
line_by words x (Some h) is e = let same : lines.Head h ≡ x = cc in head_takes words h is ∙ ap line_words same
line_by words x None is e = component_line_by words x (component_of words) refl e
  where
    component_line_by : (words : Words) (x : Line) (o : Option Component) → component_of words ≡ o → option_map (λ c. lines.Component c) o ≡ Some x → words ≡ line_words x
    component_line_by words x None is e = absurd cc
    component_line_by words x (Some c) is e = let same : lines.Component c ≡ x = cc in component_takes words c is ∙ ap line_words same

line_takes : (x : Line) (y : Option (List ℕ)) → line_of y ≡ Some x → y ≡ print x
line_takes x None e = absurd cc
line_takes x (Some text) e =
    ap (λ (t : List ℕ). Some t) (sym (join_with_byte-slice_split 32 text) ∙ ap (join_with_byte 32) (line_by (parts_of 32 text) x (head_of_words (parts_of 32 text)) refl e))

line_words_words : (x : Line) → AreWords (line_words x)
line_words_words (lines.Head h) = head_words_by h.generation h.state h.next_mirror h.next_counter h.count
line_words_words (lines.Component c) = component_words_words c

-- the words come apart again
line_parts : (x : Line) → parts_of 32 (spaced (line_words x)) ≡ line_words x
line_parts (lines.Head h) = parts_of-spaced _ _ (line_words_words (lines.Head h))
line_parts (lines.Component c) = parts_of-spaced _ _ (line_words_words (lines.Component c))

-- no component's line is a head line
no_head : (c : Component) → head_of_words (component_words c) ≡ None
unfolding head_of_words
no_head c = refl

component_line_again : (words : Words) (c : Component) → head_of_words words ≡ None → component_of words ≡ Some c → line_from (head_of_words words) words ≡ Some (lines.Component c)
component_line_again words c e f = ap (λ (o : Option Head). line_from o words) e ∙ ap (option_map (λ c. lines.Component c)) f

words_again : (x : Line) → IsHeldLine x → line_from (head_of_words (line_words x)) (line_words x) ≡ Some x
words_again (lines.Head h) k = ap (λ (o : Option Head). line_from o (head_line_words h)) (head_again h k)
words_again (lines.Component c) k = component_line_again (component_words c) c (no_head c) (component_again c k)

line_again : (x : Line) → IsHeldLine x → line_of (print x) ≡ Some x
line_again x k = ap (λ (ws : Words). line_from (head_of_words ws) ws) (line_parts x) ∙ words_again x k

pub one_spelling : OneSpelling line_of print IsHeldLine
one_spelling = record { takes = line_takes; again = line_again }
