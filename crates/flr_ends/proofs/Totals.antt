-- What all clients have left, as one sum.
use Rattle.std.proofs.Common.{◌≡◌, ℕ, zero, suc, ◌+◌, ◌≤◌, Some, List, [], ◌∷◌, length, set, refl, ap, arith}
use Rattle.std.specs.Prelude.{slice_get, slice_index_or}
use Rattle.script_values.specs.declared.command.Command.{Command}
use Rattle.flr_steps.specs.declared.client.Client.{Client}

-- what the clients have, each with its commands
abbrev pub total : (List Command → Client → ℕ) → List (List Command) → List Client → ℕ
total f [] clients = 0
total f (own ∷ more) [] = 0
total f (own ∷ more) (x ∷ xs) = f own x + total f more xs

-- so much for each of so many clients
abbrev pub tolls : (ℕ → ℕ) → ℕ → ℕ
tolls toll zero = 0
tolls toll (suc n) = toll 0 + tolls (λ k. toll (suc k)) n

-- one client changes
pub total_set : (f : List Command → Client → ℕ) (owns : List (List Command)) (clients : List Client) (i done : ℕ) (client new : Client) (asked : Command) → slice_get clients i ≡ Some client → slice_get (slice_index_or owns i []) done ≡ Some asked
    → total f owns (set clients i new) + f (slice_index_or owns i []) client ≡ total f owns clients + f (slice_index_or owns i []) new
total_set f [] clients i done client new asked e k = absurd (cc k)
total_set f (own ∷ more) [] i done client new asked e k = absurd (cc e)
total_set f (own ∷ more) (x ∷ xs) zero done client new asked e k =
    let same : x ≡ client = cc e in
    let one : f own x ≡ f own client = ap (f own) same in
    omega (arith, one)
total_set f (own ∷ more) (x ∷ xs) (suc i) done client new asked e k = let rest = total_set f more xs i done client new asked e k in omega (arith, rest)

-- each client has at most so much more
pub total_all : (f g : List Command → Client → ℕ) (owns : List (List Command)) (clients : List Client) (toll : ℕ → ℕ)
    → ((k : ℕ) (x : Client) → slice_get clients k ≡ Some x → g (slice_index_or owns k []) x ≤ f (slice_index_or owns k []) x + toll k) → total g owns clients ≤ total f owns clients + tolls toll (length clients)
total_all f g [] clients toll each = omega arith
total_all f g (own ∷ more) [] toll each = omega arith
total_all f g (own ∷ more) (x ∷ xs) toll each =
    let here : g own x ≤ f own x + toll 0 = each 0 x refl in
    let rest = total_all f g more xs (λ k. toll (suc k)) (λ k y e. each (suc k) y e) in
    omega (arith, here, rest)

-- each client but one has at most so much more
pub total_but : (f g : List Command → Client → ℕ) (owns : List (List Command)) (clients : List Client) (toll : ℕ → ℕ) (i done : ℕ) (client : Client) (asked : Command) → slice_get clients i ≡ Some client → slice_get (slice_index_or owns i []) done ≡ Some asked
    → ((k : ℕ) (x : Client) → slice_get clients k ≡ Some x → (k ≡ i → ⊥) → g (slice_index_or owns k []) x ≤ f (slice_index_or owns k []) x + toll k)
    → total g owns clients + f (slice_index_or owns i []) client ≤ total f owns clients + g (slice_index_or owns i []) client + tolls toll (length clients)
total_but f g [] clients toll i done client asked e k each = absurd (cc k)
total_but f g (own ∷ more) [] toll i done client asked e k each = absurd (cc e)
total_but f g (own ∷ more) (x ∷ xs) toll zero done client asked e k each =
    let same : x ≡ client = cc e in
    let one : f own x ≡ f own client = ap (f own) same in
    let two : g own x ≡ g own client = ap (g own) same in
    let rest = total_all f g more xs (λ k. toll (suc k)) (λ k y there. each (suc k) y there (λ z. cc z)) in
    omega (arith, one, two, rest)
total_but f g (own ∷ more) (x ∷ xs) toll (suc i) done client asked e k each =
    let here : g own x ≤ f own x + toll 0 = each 0 x refl (λ z. cc z) in
    let rest = total_but f g more xs (λ k. toll (suc k)) i done client asked e k (λ k y there other. each (suc k) y there (λ z. other (omega (arith, z)))) in
    omega (arith, here, rest)

-- ---- one client pays

-- so much for this one, nothing for others
abbrev pub toll_for : ℕ → ℕ → ℕ → ℕ
toll_for cost zero zero = cost
toll_for cost zero (suc k) = 0
toll_for cost (suc e) zero = 0
toll_for cost (suc e) (suc k) = toll_for cost e k

pub toll_there : (cost e : ℕ) → toll_for cost e e ≡ cost
toll_there cost zero = refl
toll_there cost (suc e) = toll_there cost e

pub no_tolls : (n : ℕ) → tolls (λ k. 0) n ≡ 0
no_tolls zero = refl
no_tolls (suc n) = let rest = no_tolls n in omega (arith, rest)

pub one_toll : (cost e n : ℕ) → tolls (toll_for cost e) n ≤ cost
one_toll cost e zero = omega arith
one_toll cost zero (suc n) = let none = no_tolls n in omega (arith, none)
one_toll cost (suc e) (suc n) = let rest = one_toll cost e n in omega (arith, rest)
