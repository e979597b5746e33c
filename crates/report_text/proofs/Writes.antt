-- One text written after another.
use Rattle.std.proofs.Common.{◌≡◌, ℕ, ◌+◌, ◌<◌, List, [], ◌∷◌, ◌++◌, length, get_or, take, drop, Option, Result, Ok, Err, refl, sym, ap, subst, ◌∙◌, append_assoc}
use Rattle.std.specs.Result.{IsErr}
use Rattle.std.specs.List.{flat_map}
use Rattle.std.specs.Io.KnownBytes.{Appends}
use Rattle.std.proofs.lemmas.List.{append-nil, take-append-drop, at_drop_more, take_more}
use Rattle.std.proofs.lemmas.Grind.{flat_map-append}
use Rattle.flr_base.specs.Streams.{WritesFront}
use Rattle.flr_base.proofs.Ends.{Appends-none, Appends-then}

-- a text that is written whole is taken
pub taken_whole : {E : Type 0} (old new : Option (List ℕ)) (done : Unit {0}) (text : List ℕ) → WritesFront {E = E} old new (Ok done) text → Appends old new text
taken_whole old new done text w = subst (λ (xs : List ℕ). Appends old new xs) (sym (w.parts ∙ ap (λ (r : List ℕ). w.front ++ r) w.whole ∙ append-nil w.front)) w.taken

-- nothing of it is written
pub writes_none : {E : Type 0} (old : Option (List ℕ)) (cause : E) (text : List ℕ) → WritesFront old old (Err cause) text
writes_none old cause text = record { front = []; rest = text; parts = refl; taken = Appends-none old; whole = tt }

-- it is written whole
pub writes_whole : {E : Type 0} (old new : Option (List ℕ)) (done : Unit {0}) (text : List ℕ) → Appends old new text → WritesFront {E = E} old new (Ok done) text
writes_whole old new done text h = record { front = text; rest = []; parts = sym (append-nil text); taken = h; whole = refl }

-- one text is written whole, and then another as it goes
pub writes_then : {E : Type 0} (old mid new : Option (List ℕ)) (result : Result (Unit {0}) E) (text more : List ℕ) → Appends old mid text → WritesFront mid new result more → WritesFront old new result (text ++ more)
writes_then old mid new result text more h w =
    record { front = text ++ w.front; rest = w.rest; parts = ap (λ (xs : List ℕ). text ++ xs) w.parts ∙ sym (append_assoc text w.front w.rest); taken = Appends-then old mid new text w.front h w.taken; whole = w.whole }

-- a failure within a text is one within a longer text, whatever it is called
pub writes_more : {E F : Type 0} (old new : Option (List ℕ)) (cause : E) (result : Result (Unit {0}) F) (text more : List ℕ) → IsErr result → WritesFront {E = E} old new (Err cause) text → WritesFront {E = F} old new result (text ++ more)
writes_more old new cause (Ok done) text more failed w = absurd cc
writes_more old new cause (Err named) text more failed w =
    record { front = w.front; rest = w.rest ++ more; parts = ap (λ (xs : List ℕ). xs ++ more) w.parts ∙ append_assoc w.front w.rest more; taken = w.taken; whole = tt }

-- ---- parts one after another

-- one part more is written whole
pub so_far_then : {E : Type 0} (old mid new : Option (List ℕ)) (done : Unit {0}) (before part : List ℕ) → Appends old mid before → WritesFront {E = E} mid new (Ok done) part → Appends old new (before ++ part)
so_far_then old mid new done before part h w = Appends-then old mid new before part h (taken_whole mid new done part w)

-- a failure within a part that isn't the last
pub so_far_cut : {E F : Type 0} (old mid new : Option (List ℕ)) (cause : E) (result : Result (Unit {0}) F) (before part rest whole : List ℕ) → whole ≡ (before ++ part) ++ rest → IsErr result → Appends old mid before → WritesFront {E = E} mid new (Err cause) part
    → WritesFront {E = F} old new result whole
so_far_cut {E} {F} old mid new cause result before part rest whole is failed h w =
    subst (λ (xs : List ℕ). WritesFront {E = F} old new result xs) (sym (is ∙ append_assoc before part rest)) (writes_then old mid new result before (part ++ rest) h (writes_more mid new cause result part rest failed w))

-- the last part
pub so_far_end : {E : Type 0} (old mid new : Option (List ℕ)) (result : Result (Unit {0}) E) (before part whole : List ℕ) → whole ≡ before ++ part → Appends old mid before → WritesFront {E = E} mid new result part → WritesFront {E = E} old new result whole
so_far_end {E} old mid new result before part whole is h w = subst (λ (xs : List ℕ). WritesFront {E = E} old new result xs) (sym is) (writes_then old mid new result before part h w)

-- the same for two parts, which are told by equations
pub two_cut : {E F : Type 0} (old new : Option (List ℕ)) (cause : E) (result : Result (Unit {0}) F) (first rest whole text : List ℕ) → whole ≡ first ++ rest → text ≡ first → IsErr result → WritesFront {E = E} old new (Err cause) text → WritesFront {E = F} old new result whole
two_cut {E} {F} old new cause result first rest whole text is same failed w =
    subst (λ (xs : List ℕ). WritesFront {E = F} old new result xs) (sym is) (writes_more old new cause result first rest failed (subst (λ (xs : List ℕ). WritesFront {E = E} old new (Err cause) xs) same w))

pub two_whole : {E : Type 0} (old mid new : Option (List ℕ)) (done : Unit {0}) (result : Result (Unit {0}) E) (first rest whole text more : List ℕ) → whole ≡ first ++ rest → text ≡ first → more ≡ rest → WritesFront {E = E} old mid (Ok done) text → WritesFront {E = E} mid new result more
    → WritesFront {E = E} old new result whole
two_whole {E} old mid new done result first rest whole text more is same others v w =
    let front : Appends old mid first = subst (λ (xs : List ℕ). Appends old mid xs) same (taken_whole old mid done text v) in
    so_far_end old mid new result first rest whole is front (subst (λ (xs : List ℕ). WritesFront {E = E} mid new result xs) others w)

-- ---- items one after another

-- a failure before the last item is written whole
pub writes_item : {A E F : Type 0} (f : A → List ℕ) (items : List A) (i : ℕ) (x : A) (old mid new : Option (List ℕ)) (cause : E) (result : Result (Unit {0}) F) → i < length items → x ≡ get_or items i x → IsErr result
    → Appends old mid (flat_map f (take i items)) → WritesFront {E = E} mid new (Err cause) (f x) → WritesFront {E = F} old new result (flat_map f items)
writes_item {A} {E} {F} f items i x old mid new cause result lt is failed h w =
    let parts : items ≡ take i items ++ (x ∷ drop (i + 1) items) = sym (take-append-drop i items) ∙ ap (λ (xs : List A). take i items ++ xs) (at_drop_more (λ (xs : List A). xs) items i x lt ∙ ap (λ (y : A). y ∷ drop (i + 1) items) (sym is)) in
    let one : flat_map f items ≡ flat_map f (take i items) ++ (f x ++ flat_map f (drop (i + 1) items)) = ap (flat_map f) parts ∙ flat_map-append f (take i items) (x ∷ drop (i + 1) items) in
    subst (λ (xs : List ℕ). WritesFront {E = F} old new result xs) (sym one)
    (writes_then old mid new result (flat_map f (take i items)) (f x ++ flat_map f (drop (i + 1) items)) h (writes_more mid new cause result (f x) (flat_map f (drop (i + 1) items)) failed w))

-- one item more is written
pub taken_item : {A E : Type 0} (f : A → List ℕ) (items : List A) (i : ℕ) (x : A) (old mid new : Option (List ℕ)) (done : Unit {0}) → i < length items → x ≡ get_or items i x → Appends old mid (flat_map f (take i items)) → WritesFront {E = E} mid new (Ok done) (f x)
    → Appends old new (flat_map f (take (i + 1) items))
taken_item {A} {E} f items i x old mid new done lt is h w =
    let one : flat_map f (take (i + 1) items) ≡ flat_map f (take i items) ++ f x = ap (flat_map f) (take_more items i x lt ∙ ap (λ (y : A). take i items ++ y ∷ []) (sym is)) ∙ flat_map-append f (take i items) (x ∷ []) ∙ ap (λ (xs : List ℕ). flat_map f (take i items) ++ xs) (append-nil (f x)) in
    subst (λ (xs : List ℕ). Appends old new xs) (sym one) (Appends-then old mid new (flat_map f (take i items)) (f x) h (taken_whole mid new done (f x) w))
