-- Greatest values over lists of lists.
use Rattle.std.proofs.Common.{◌≡◌, ℕ, ◌+◌, ◌<◌, List, [], ◌∷◌, ◌++◌, length, get_or, take, max, sym, ap, ◌∙◌, arith}
use Rattle.std.specs.List.{fold}
use Rattle.std.proofs.lemmas.Grind.{flat_map-append}
use Rattle.std.proofs.lemmas.List.{take_more, append-nil}
use Rattle.script_values.specs.declared.command.Command.{Command}
use Rattle.script_values.specs.Scripts.{all_commands}
use Rattle.script_values.specs.Work.{greatest_by, capped}

-- the greatest from a number on
greatest_from : {A : Type 0} (f : A → ℕ) (a : ℕ) (xs : List A) → fold (λ most x. max most (f x)) a xs ≡ max a (greatest_by f xs)
greatest_from f a [] = omega arith
greatest_from f a (x ∷ xs) =
    let one = greatest_from f (max a (f x)) xs in
    let other = greatest_from f (max 0 (f x)) xs in omega (arith, one, other)

pub greatest-cons : {A : Type 0} (f : A → ℕ) (x : A) (xs : List A) → greatest_by f (x ∷ xs) ≡ max (f x) (greatest_by f xs)
greatest-cons f x xs = let one = greatest_from f (max 0 (f x)) xs in omega (arith, one)

pub greatest-append : {A : Type 0} (f : A → ℕ) (xs ys : List A) → greatest_by f (xs ++ ys) ≡ max (greatest_by f xs) (greatest_by f ys)
greatest-append {A = A} f xs ys = from 0 xs
  where
    from : (a : ℕ) (zs : List A) → fold (λ most x. max most (f x)) a (zs ++ ys) ≡ max (fold (λ most x. max most (f x)) a zs) (greatest_by f ys)
    from a [] = greatest_from f a ys
    from a (z ∷ zs) = from (max a (f z)) zs

all_more : (clients : List (List Command)) (i : ℕ) (own : List Command) → i < length clients → own ≡ get_or clients i own → all_commands (take (i + 1) clients) ≡ all_commands (take i clients) ++ own
all_more clients i own lt is =
    ap all_commands (take_more clients i own lt) ∙ flat_map-append (λ (cs : List Command). cs) (take i clients) (get_or clients i own ∷ [])
    ∙ ap (λ (cs : List Command). all_commands (take i clients) ++ cs) (append-nil (get_or clients i own) ∙ sym is)

pub greatest_step : (f : Command → ℕ) (clients : List (List Command)) (i : ℕ) (own slice : List Command) (most next : ℕ) → i < length clients → own ≡ get_or clients i own → slice ≡ own → most ≡ capped (greatest_by f (all_commands (take i clients)))
    → next ≡ max most (capped (greatest_by f slice)) → next ≡ capped (greatest_by f (all_commands (take (i + 1) clients)))
greatest_step f clients i own slice most next lt is same was now =
    let more : greatest_by f (all_commands (take (i + 1) clients)) ≡ max (greatest_by f (all_commands (take i clients))) (greatest_by f own) =
    ap (greatest_by f) (all_more clients i own lt is) ∙ greatest-append f (all_commands (take i clients)) own in
    let value : greatest_by f slice ≡ greatest_by f own = ap (greatest_by f) same in
    omega (arith, more, value, was, now)
