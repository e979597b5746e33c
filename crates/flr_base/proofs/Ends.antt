-- One piece after another, through a source or a sink.
use Rattle.std.proofs.Common.{◌≡◌, ℕ, ◌+◌, ◌<◌, ◌≤◌, List, [], ◌++◌, length, take, drop, Option, Some, None, refl, sym, ap, ◌∙◌, append_assoc, arith}
use Rattle.std.specs.Io.KnownBytes.{Appends, Keeps, Consumes}
use Rattle.std.proofs.lemmas.List.{append-nil, take-append-drop, length-append, length-take-le}
use Rattle.flr_base.specs.Streams.{ReadsSome, IsLonger}

-- nothing is taken
pub Appends-none : (o : Option (List ℕ)) → Appends o o []
Appends-none None = tt
Appends-none (Some xs) = sym (append-nil xs)

-- one piece and then another are both together
pub Appends-then : (a b c : Option (List ℕ)) (x y : List ℕ) → Appends a b x → Appends b c y → Appends a c (x ++ y)
Appends-then None b c x y h k = tt
Appends-then (Some xs) None c x y h k = absurd h
Appends-then (Some xs) (Some ys) None x y h k = absurd k
Appends-then (Some xs) (Some ys) (Some zs) x y h k = k ∙ ap (λ t. t ++ y) h ∙ append_assoc xs x y

-- a failure takes nothing more
pub Appends-stay : (a b c : Option (List ℕ)) (x : List ℕ) → Appends a b x → Keeps b c → Appends a c x
Appends-stay None b c x h k = tt
Appends-stay (Some xs) None c x h k = absurd h
Appends-stay (Some xs) (Some ys) None x h k = absurd k
Appends-stay (Some xs) (Some ys) (Some zs) x h k = k ∙ h

-- nothing is read
pub Consumes-none : (o : Option (List ℕ)) → Consumes o o []
Consumes-none None = tt
Consumes-none (Some xs) = refl

-- one piece and then another are both together
pub Consumes-then : (a b c : Option (List ℕ)) (x y : List ℕ) → Consumes a b x → Consumes b c y → Consumes a c (x ++ y)
Consumes-then None b c x y h k = tt
Consumes-then (Some xs) None c x y h k = absurd h
Consumes-then (Some xs) (Some ys) None x y h k = absurd k
Consumes-then (Some xs) (Some ys) (Some zs) x y h k = h ∙ ap (λ t. x ++ t) k ∙ sym (append_assoc x y zs)

-- a source that gave more than this had more left than this
pub longer : (a b : Option (List ℕ)) (x : List ℕ) (most : ℕ) → Consumes a b x → most < length x → IsLonger a most
longer None b x most h lt = tt
longer (Some xs) None x most h lt = absurd h
longer (Some xs) (Some ys) x most h lt = omega (arith, ap (λ (t : List ℕ). length t) h, length-append x ys)

-- one more piece is read, and both together are no more than this
pub read_some : (start old new : Option (List ℕ)) (had buffer : List ℕ) (count most : ℕ) → Consumes start old had → Consumes old new (take count buffer) → 0 < count → count ≤ length buffer → length had + count ≤ most
    → ReadsSome start new most
read_some start old new had buffer count most h k some fits few =
    let n : length (take count buffer) ≡ count = length-take-le count buffer fits in
    let m : length (had ++ take count buffer) ≡ length had + count = length-append had (take count buffer) ∙ ap (λ (i : ℕ). length had + i) n in
    (had ++ take count buffer, Consumes-then start old new had (take count buffer) h k, omega arith, omega arith)

-- one more front of the text is taken
pub taken_more : (start old new : Option (List ℕ)) (bytes rest after : List ℕ) (n : ℕ) → ((x : List ℕ) × (bytes ≡ x ++ rest) × Appends start old x) → Appends old new (take n rest) → after ≡ drop n rest
    → (x : List ℕ) × (bytes ≡ x ++ after) × Appends start new x
taken_more start old new bytes rest after n h k e =
    (h.0 ++ take n rest, h.1 ∙ ap (λ t. h.0 ++ t) (sym (take-append-drop n rest)) ∙ sym (append_assoc h.0 (take n rest) (drop n rest)) ∙ ap (λ t. (h.0 ++ take n rest) ++ t) (sym e), Appends-then start old new h.0 (take n rest) h.2 k)
