-- Which keys a client has in hand after each change, and whether their leases stand.
use Rattle.std.proofs.Common.{◌≡◌, ◌≢◌, ℕ, ◌<◌, Bool, true, false, cond, not, ◌==◌, ◌&&◌, List, [], ◌∷◌, ◌++◌, map, find, Option, Some, None, option_map, refl, sym, ap, ◌∙◌, arith}
use Rattle.std.specs.Option.{option_map_or, option_or}
use Rattle.std.proofs.lemmas.Bool.{eq-eqb, ne_eqb, and_from, and_left, and_right}
use Rattle.std.proofs.lemmas.Bool.Decides.{nat_tests}
use Rattle.std.proofs.lemmas.List.{append-nil, map-append}
use Rattle.std.proofs.lemmas.List.Elements.{All-weaker, filter-append}
use Rattle.std.proofs.lemmas.List.Folds.{find-append}
use Rattle.layout_lease.specs.declared.lease.Lease.{Lease}
use Rattle.layout_lease.specs.declared.lease.KeyState.{KeyState}
use Rattle.layout_lease.specs.declared.lease.KeyState.TheVariants.{Held, Broken}
use Rattle.layout_lease.specs.Leases.{TableView, IsSoundTable, KeyView, broken_at, broken_by, broken_if, broken_of_client, broken_of_file, evicted_by, given, hand_but, hand_of, holder_of, is_key, is_lease_of, is_unbroken, key_for, key_of, keys_of, lease_for, same_key, state_of, taken}
use Rattle.layout_lease.proofs.Lists.{filter_mapped, filter_none, filter_swap, filter_taken_out, filter_unseen, find-filter_none, find_kept, find_mapped, find_mapped_none, find_passes}

-- ---- in hand

-- a client that takes a lease has its key too
pub taken_hand : (client file : ℕ) (table : TableView) → hand_of client (taken client file table) ≡ hand_of client table ++ key_for client file table ∷ []
taken_hand client file table =
    ap (map key_of) (filter-append (λ (lease : Lease). lease.client == client) table.keys (lease_for client file table ∷ []))
    ∙ ap (λ b. map key_of (keys_of client table.keys ++ cond b (lease_for client file table ∷ []) [])) (eq-eqb client client refl)
    ∙ map-append key_of (keys_of client table.keys) (lease_for client file table ∷ [])

-- and the others have what they had
pub taken_others : (client file : ℕ) (table : TableView) (other : ℕ) → other ≢ client → hand_of other (taken client file table) ≡ hand_of other table
taken_others client file table other apart =
    ap (map key_of) (filter-append (λ (lease : Lease). lease.client == other) table.keys (lease_for client file table ∷ []))
    ∙ ap (λ b. map key_of (keys_of other table.keys ++ cond b (lease_for client file table ∷ []) [])) (ne_eqb client other (λ e. apart (sym e)))
    ∙ ap (map key_of) (append-nil (keys_of other table.keys))

-- a key that is given back is in nobody's hand
pub given_hand : (key : KeyView) (table : TableView) (client : ℕ) → hand_of client (given key table) ≡ hand_but key (hand_of client table)
given_hand key table client =
    ap (map key_of) (filter_swap (λ (lease : Lease). lease.client == client) (λ lease. not (is_key key lease)) table.keys)
    ∙ sym (filter_mapped (λ other. not (same_key key other)) key_of (keys_of client table.keys))

is_itself : (key : KeyView) → same_key key key ≡ true
is_itself key = grind (arith, nat_tests)

-- one that gives back its only key has none
pub given_last : (key : KeyView) (table : TableView) → hand_of key.client table ≡ key ∷ [] → hand_of key.client (given key table) ≡ []
given_last key table one =
    given_hand key table key.client ∙ ap (hand_but key) one ∙ ap (λ b. cond (not b) (key ∷ []) []) (is_itself key)

-- a break and an eviction take no key out of a hand
pub broken_hand : (file step : ℕ) (table : TableView) (client : ℕ) → hand_of client (broken_by file step table) ≡ hand_of client table
broken_hand file step table client =
    filter_unseen (λ (lease : Lease). lease.client == client) key_of (broken_of_file file step) (λ lease. refl) (λ lease. refl) table.keys

pub evicted_hand : (client step : ℕ) (table : TableView) (other : ℕ) → hand_of other (evicted_by client step table) ≡ hand_of other table
evicted_hand client step table other =
    filter_unseen (λ (lease : Lease). lease.client == other) key_of (broken_of_client client step) (λ lease. refl) (λ lease. refl) table.keys

-- ---- whether a lease stands

or_none : {X : Type 0} (o : Option X) → option_or o None ≡ o
or_none None = refl
or_none (Some x) = refl

not_drawn : (key : KeyView) (lease : Lease) → lease.number < key.number → is_key key lease ≡ false
not_drawn key lease h = grind (arith, nat_tests)

not_next : (client file : ℕ) (table : TableView) (key : KeyView) → key.number < table.next → is_key key (lease_for client file table) ≡ false
not_next client file table key h = grind (arith, nat_tests)

-- a lease that is taken stands
pub taken_state : (client file : ℕ) (table : TableView) → IsSoundTable table → state_of (taken client file table) (key_for client file table) ≡ Held
taken_state client file table sound =
    let key : KeyView = key_for client file table in
    let before : find (is_key key) table.keys ≡ None
    = find-filter_none (is_key key) table.keys (filter_none (is_key key) table.keys (All-weaker (λ (lease : Lease). lease.number < table.next) (λ lease. is_key key lease ≡ false) (λ lease h. not_drawn key lease h) table.keys sound.below)) in
    let state : Option Lease → KeyState = λ found. option_map_or (λ (lease : Lease). lease.state) found (Broken 0) in
    ap state (find-append (is_key key) table.keys (lease_for client file table ∷ []))
    ∙ ap (λ o. state (option_or o (find (is_key key) (lease_for client file table ∷ [])))) before
    ∙ ap (λ b. state (cond b (Some (lease_for client file table)) None)) (is_itself key)

-- and the keys that were there before have theirs as they were
pub taken_before : (client file : ℕ) (table : TableView) (key : KeyView) → key.number < table.next → state_of (taken client file table) key ≡ state_of table key
taken_before client file table key drawn =
    let state : Option Lease → KeyState = λ found. option_map_or (λ (lease : Lease). lease.state) found (Broken 0) in
    ap state (find-append (is_key key) table.keys (lease_for client file table ∷ []))
    ∙ ap (λ b. state (option_or (find (is_key key) table.keys) (cond b (Some (lease_for client file table)) None))) (not_next client file table key drawn)
    ∙ ap state (or_none (find (is_key key) table.keys))

another : (one key : KeyView) (lease : Lease) → same_key one key ≡ false → is_key key lease ≡ true → not (is_key one lease) ≡ true
another one key lease apart h = grind (arith, nat_tests)

-- giving a key back leaves the leases of all others
pub given_state : (one key : KeyView) (table : TableView) → same_key one key ≡ false → state_of (given one table) key ≡ state_of table key
given_state one key table apart =
    ap (λ found. option_map_or (λ (lease : Lease). lease.state) found (Broken 0)) (find_kept (is_key key) (λ lease. not (is_key one lease)) (λ lease h. another one key lease apart h) table.keys)

never_held : (step : ℕ) (b : Bool) → Broken 0 ≡ broken_if b step (Broken 0)
never_held step true = refl
never_held step false = refl

state_by : (meant : Lease → Bool) (b : Bool) (step : ℕ) (found : Option Lease) → ((lease : Lease) → found ≡ Some lease → meant lease ≡ b) → option_map_or (λ (lease : Lease). lease.state) (option_map (λ (lease : Lease). record lease { state = broken_if (meant lease) step lease.state }) found) (Broken 0) ≡ broken_if b step (option_map_or (λ (lease : Lease). lease.state) found (Broken 0))
state_by meant b step None h = never_held step b
state_by meant b step (Some lease) h = ap (λ t. broken_if t step lease.state) (h lease refl)

same_file : (key : KeyView) (lease : Lease) → is_key key lease ≡ true → lease.file ≡ key.file
same_file key lease h = grind (arith, nat_tests)

same_client : (key : KeyView) (lease : Lease) → is_key key lease ≡ true → lease.client ≡ key.client
same_client key lease h = grind (arith, nat_tests)

-- a break breaks the lease of its file, where it stands
pub broken_state : (file step : ℕ) (table : TableView) (key : KeyView) → state_of (broken_by file step table) key ≡ broken_if (key.file == file) step (state_of table key)
broken_state file step table key =
    ap (λ found. option_map_or (λ (lease : Lease). lease.state) found (Broken 0)) (find_mapped (is_key key) (broken_of_file file step) (λ lease. refl) table.keys)
    ∙ state_by (λ lease. lease.file == file) (key.file == file) step (find (is_key key) table.keys) (λ lease h. ap (λ k. k == file) (same_file key lease (find_passes (is_key key) table.keys lease h)))

-- an eviction breaks the leases of its client, where they stand
pub evicted_state : (client step : ℕ) (table : TableView) (key : KeyView) → state_of (evicted_by client step table) key ≡ broken_if (key.client == client) step (state_of table key)
evicted_state client step table key =
    ap (λ found. option_map_or (λ (lease : Lease). lease.state) found (Broken 0)) (find_mapped (is_key key) (broken_of_client client step) (λ lease. refl) table.keys)
    ∙ state_by (λ lease. lease.client == client) (key.client == client) step (find (is_key key) table.keys) (λ lease h. ap (λ k. k == client) (same_client key lease (find_passes (is_key key) table.keys lease h)))

-- ---- who has the lease of a file

held_found : (found : Option Lease) → option_map_or (λ (lease : Lease). lease.state) found (Broken 0) ≡ Held → (lease : Lease) × (found ≡ Some lease) × (lease.state ≡ Held)
held_found None h = absurd (cc)
held_found (Some lease) h = (lease, refl, h)

-- once the key of the lease that stands is given back, nobody has the lease of its file
pub given_free : (key : KeyView) (table : TableView) → IsSoundTable table → state_of table key ≡ Held → holder_of (given key table) key.file ≡ None
given_free key table sound held =
    let found = held_found (find (is_key key) table.keys) held in
    let file = eq-eqb found.0.file key.file (same_file key found.0 (find_passes (is_key key) table.keys found.0 found.1)) in
    let passes : is_lease_of key.file found.0 ≡ true = and_from (is_unbroken found.0.state) (found.0.file == key.file) (ap is_unbroken found.2) file in
    ap (λ o. option_map (λ (lease : Lease). lease.client) o)
    (find-filter_none (is_lease_of key.file) (given key table).keys (filter_taken_out (is_lease_of key.file) (is_key key) table.keys found.0 passes found.1 (sound.once key.file)))

no_longer : (step : ℕ) (state : KeyState) → is_unbroken (broken_at step state) ≡ false
no_longer step Held = refl
no_longer step (Broken earlier) = refl

broken_each : (step : ℕ) (state : KeyState) (b : Bool) → is_unbroken (broken_if b step state) && b ≡ false
broken_each step state true = and_left (is_unbroken (broken_at step state)) true (no_longer step state)
broken_each step state false = and_right (is_unbroken state) false refl

-- nobody has the lease of a file after its break
pub broken_free : (file step : ℕ) (table : TableView) → holder_of (broken_by file step table) file ≡ None
broken_free file step table =
    ap (λ o. option_map (λ (lease : Lease). lease.client) o) (find_mapped_none (is_lease_of file) (broken_of_file file step) (λ lease. broken_each step lease.state (lease.file == file)) table.keys)

evicted_at : (client step file : ℕ) (lease : Lease) (rest : Option Lease) (b : Bool) → is_lease_of file (broken_of_client client step lease) ≡ b → (option_map (λ (other : Lease). other.client) rest ≡ Some client → ⊥) → option_map (λ (other : Lease). other.client) (cond b (Some (broken_of_client client step lease)) rest) ≡ Some client → ⊥
evicted_at client step file lease rest true is k h =
    let same : lease.client ≡ client = cc in
    let broken : is_unbroken (broken_if (lease.client == client) step lease.state) ≡ false
    = ap (λ b. is_unbroken (broken_if b step lease.state)) (eq-eqb lease.client client same) ∙ no_longer step lease.state in
    let no = and_left (is_unbroken (broken_if (lease.client == client) step lease.state)) (lease.file == file) broken in
    let both : true ≡ false = sym is ∙ no in
    absurd (cc)
evicted_at client step file lease rest false is k h = k h

evicted_each : (client step file : ℕ) (keys : List Lease) → option_map (λ (lease : Lease). lease.client) (find (is_lease_of file) (map (broken_of_client client step) keys)) ≡ Some client → ⊥
evicted_each client step file [] h = absurd (cc)
evicted_each client step file (lease ∷ keys) h =
    evicted_at client step file lease (find (is_lease_of file) (map (broken_of_client client step) keys)) (is_lease_of file (broken_of_client client step lease)) refl (λ k. evicted_each client step file keys k) h

-- a client that is evicted has the lease of no file
pub evicted_leases : (client step : ℕ) (table : TableView) (file : ℕ) → holder_of (evicted_by client step table) file ≢ Some client
evicted_leases client step table file = evicted_each client step file table.keys
