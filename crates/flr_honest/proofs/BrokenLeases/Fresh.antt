-- A key that is broken before a copy's point was taken with its begin, and broken since.
use Rattle.std.proofs.Common.{◌≡◌, ◌⊎◌, inl, inr, ℕ, ◌==◌, Bool, true, false, cond, List, [], ◌∷◌, map, filter, find, Some, None, Option, refl, sym, ap, ◌∙◌, subst, arith}
use Rattle.std.specs.List.{AllByRecursion}
use Rattle.std.specs.Option.{option_map_or}
use Rattle.std.proofs.lemmas.Bool.{true≢false}
use Rattle.std.proofs.lemmas.Bool.Decides.{nat_tests}
use Rattle.layout_lease.specs.declared.lease.KeyState.TheVariants.{Held, Broken}
use Rattle.layout_lease.specs.declared.lease.Lease.{Lease}
use Rattle.layout_lease.specs.Leases.{IsSoundTable, KeyView, TableView, hand_of, is_key, key_of, lease_for, state_of, taken}
use Rattle.mirror_select.proofs.Least.{In, found_in}
use Rattle.meta_server.specs.Beginning.{copy_begins}
use Rattle.meta_server.specs.declared.answers.CopyWhat.{CopyWhat}
use Rattle.meta_server.specs.Files.{MetaView}
use Rattle.meta_laws.specs.Calls.{left_by}
use Rattle.meta_laws.proofs.Cases.{begin_cases}
use Rattle.meta_laws.proofs.Covering.{all_push}
use Rattle.flr_honest.proofs.BrokenLeases.Origins.{all_of}
use Rattle.flr_honest.proofs.BrokenLeases.Tables.{one_numbered}

-- ---- the begin of a copy

-- each key there was there before, or stands
abbrev pub AreNew : MetaView → MetaView → Type 0
AreNew m new = AllByRecursion (λ (lease : Lease). In lease m.leases.keys ⊎ (lease.state ≡ Held)) new.leases.keys

module _ (m : MetaView) (client : ℕ) where
  stays : AreNew m m
  stays = all_of (λ (lease : Lease). In lease m.leases.keys ⊎ (lease.state ≡ Held)) m.leases.keys (λ lease there. inl there)

  takes : (file : ℕ) (t : TableView) → AllByRecursion (λ (lease : Lease). In lease m.leases.keys ⊎ (lease.state ≡ Held)) t.keys
      → AllByRecursion (λ (lease : Lease). In lease m.leases.keys ⊎ (lease.state ≡ Held)) (taken client file t).keys
  takes file t all = all_push (λ (lease : Lease). In lease m.leases.keys ⊎ (lease.state ≡ Held)) t.keys (lease_for client file t) all (inr refl)

  -- the begin of a copy takes keys that stand
  pub begin_new : (name : List ℕ) (what : CopyWhat) → AreNew m (left_by (copy_begins client name what m) m)
  begin_new name what = begin_cases (AreNew m) client name what m (record {
    same = stays;
    begins = λ ids f e free. takes f.number m.leases stays;
    adds = λ mirrors f is e free within. stays;
    extends = λ mirrors ids f is e free within. takes f.number m.leases stays;
    both = λ victim f v is e k free free_too. takes v.number (taken client f.number m.leases) (takes f.number m.leases stays);
  })

-- ---- keys in hand

-- the key of a hand is of a lease that is there
pub in_hand : (p : Lease → Bool) (keys : List Lease) (key : KeyView) → In key (map key_of (filter p keys)) → (lease : Lease) × In lease keys × (key_of lease ≡ key)
in_hand p [] key there = absurd there
in_hand p (x ∷ keys) key there = by (p x) (in_hand p keys key) there
  where
    by : (b : Bool) → (In key (map key_of (filter p keys)) → (lease : Lease) × In lease keys × (key_of lease ≡ key)) → In key (map key_of (cond b (x ∷ filter p keys) (filter p keys))) → (lease : Lease) × In lease (x ∷ keys) × (key_of lease ≡ key)
    by true rest (inl same) = (x, inl refl, same)
    by true rest (inr more) = (let w = rest more in (w.0, inr w.1, w.2))
    by false rest h = (let w = rest h in (w.0, inr w.1, w.2))

-- a lease of a client is in its hand
held_there : (client : ℕ) (keys : List Lease) (lease : Lease) → In lease keys → lease.client ≡ client → In (key_of lease) (map key_of (filter (λ (x : Lease). x.client == client) keys))
held_there client [] lease there own = absurd there
held_there client (x ∷ keys) lease there own = by (x.client == client) refl there (held_there client keys lease)
  where
    by : (b : Bool) → (x.client == client) ≡ b → In lease (x ∷ keys) → (In lease keys → lease.client ≡ client → In (key_of lease) (map key_of (filter (λ (y : Lease). y.client == client) keys)))
        → In (key_of lease) (map key_of (cond b (x ∷ filter (λ (y : Lease). y.client == client) keys) (filter (λ (y : Lease). y.client == client) keys)))
    by true is (inl same) rest = inl (ap key_of same)
    by true is (inr more) rest = inr (rest more own)
    by false is (inl same) rest = absurd (let one : x.client ≡ client = ap (λ (y : Lease). y.client) same ∙ own in let no : (x.client == client) ≡ false = is in let yes : (x.client == client) ≡ true = grind (arith, nat_tests) in true≢false (sym yes ∙ no))
    by false is (inr more) rest = rest more own

-- who has nothing in hand has no lease
pub none_of_none : (client : ℕ) (t : TableView) (lease : Lease) → hand_of client t ≡ [] → lease.client ≡ client → In lease t.keys → ⊥
none_of_none client t lease none own there = subst (λ (keys : List KeyView). In (key_of lease) keys) none (held_there client t.keys lease there own)

key_found : (key : KeyView) (lease : Lease) → key_of lease ≡ key → is_key key lease ≡ true
key_found key lease same =
    let number : lease.number ≡ key.number = ap (λ (x : KeyView). x.number) same in
    let client : lease.client ≡ key.client = ap (λ (x : KeyView). x.client) same in
    let file : lease.file ≡ key.file = ap (λ (x : KeyView). x.file) same in
    grind (arith, nat_tests)

key_number : (key : KeyView) (lease : Lease) → is_key key lease ≡ true → lease.number ≡ key.number
key_number key lease is = grind (arith, nat_tests)

-- the lease of a key in hand has the state that is told of the key
pub state_there : (t : TableView) (sound : IsSoundTable t) (key : KeyView) (lease : Lease) → In lease t.keys → key_of lease ≡ key → lease.state ≡ state_of t key
state_there t sound key lease there same = by (find (is_key key) t.keys) refl
  where
    by : (o : Option Lease) → find (is_key key) t.keys ≡ o → lease.state ≡ option_map_or (λ (x : Lease). x.state) o (Broken 0)
    by None is = absurd (none_found t.keys is there)
      where
        none_found : (keys : List Lease) → find (is_key key) keys ≡ None → In lease keys → ⊥
        none_found [] none within = within
        none_found (x ∷ keys) none within = at (is_key key x) refl none within (none_found keys)
          where
            at : (b : Bool) → is_key key x ≡ b → cond b (Some x) (find (is_key key) keys) ≡ None → In lease (x ∷ keys) → (find (is_key key) keys ≡ None → In lease keys → ⊥) → ⊥
            at true k e w rest = cc e
            at false k e (inl one) rest = true≢false (sym (key_found key x (ap key_of one ∙ same)) ∙ k)
            at false k e (inr more) rest = rest e more
    by (Some found) is =
        let w = found_in (is_key key) t.keys found is in
        ap (λ (x : Lease). x.state) (one_numbered t sound lease found there w.0 (ap (λ (x : KeyView). x.number) same ∙ sym (key_number key found w.1)))
