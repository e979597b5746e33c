-- What a change of the metadata server leaves of the files that were there: their names, and generations that don't fall.
use Rattle.std.proofs.Common.{◌≡◌, ℕ, ◌<◌, ◌≤◌, Bool, true, false, cond, not, Option, Some, None, List, [], ◌∷◌, ◌++◌, filter, find, ◌⊎◌, inl, inr, refl, sym, ap, subst, ◌∙◌, arith}
use Rattle.std.specs.Option.{option_map_or, option_or}
use Rattle.std.proofs.lemmas.Bool.Decides.{nat_tests}
use Rattle.std.proofs.lemmas.List.Folds.{find-append}
use Rattle.composite_layout.specs.Layouts.{Composite}
use Rattle.layout_lease.specs.declared.lease.KeyState.{KeyState}
use Rattle.layout_lease.specs.declared.lease.KeyState.TheVariants.{Held, Broken}
use Rattle.layout_lease.specs.declared.lease.Lease.{Lease}
use Rattle.layout_lease.specs.Leases.{KeyView, TableView, given, is_key, lease_for, same_key, state_of, taken}
use Rattle.layout_lease.proofs.Hands.{given_state}
use Rattle.meta_server.specs.Files.{File, MetaView, changed, file_of, with_change, with_eviction, with_file, with_layout}
use Rattle.meta_server.proofs.Placing.{number_found}
use Rattle.meta_laws.proofs.Opens.{one_file}
use Rattle.flr_numbers.proofs.Holding.{evicted_held}
use Rattle.flr_numbers.proofs.Inverting.{WasFound, was_evicted, was_found, was_pushed}

-- ---- what a change leaves

-- a file that is there after a change was there before, by the same name and with no greater generation; and where a lease of it stands that didn't stand before, with a lower one
pub record WasThere (m new : MetaView) (n : ℕ) (f : File) : Type 0 where
  pub before : File
  pub there : file_of n m.files ≡ Some before
  pub name : f.name ≡ before.name
  pub grows : before.layout.generation ≤ f.layout.generation
  pub leases : (key : KeyView) → key.file ≡ n → state_of new.leases key ≡ Held → (state_of m.leases key ≡ Held) ⊎ (before.layout.generation < f.layout.generation)

-- so it is for each file whose number was given before, and no number is given back
pub record Follows (m new : MetaView) : Type 0 where
  pub next : m.next_file ≤ new.next_file
  pub files : (n : ℕ) (f : File) → n < m.next_file → file_of n new.files ≡ Some f → WasThere m new n f

-- ---- one change after another

then_there : (a b c : MetaView) (n : ℕ) (f : File) (late : WasThere b c n f) → WasThere a b n late.before → WasThere a c n f
then_there a b c n f late early = record {
  before = early.before;
  there = early.there;
  name = late.name ∙ early.name;
  grows = omega (arith, late.grows, early.grows);
  leases = λ key same held. by key same (late.leases key same held);
}
  where
    first : (key : KeyView) → (state_of a.leases key ≡ Held) ⊎ (early.before.layout.generation < late.before.layout.generation) → (state_of a.leases key ≡ Held) ⊎ (early.before.layout.generation < f.layout.generation)
    first key (inl stood) = inl stood
    first key (inr less) = inr (omega (arith, less, late.grows))

    by : (key : KeyView) → key.file ≡ n → (state_of b.leases key ≡ Held) ⊎ (late.before.layout.generation < f.layout.generation) → (state_of a.leases key ≡ Held) ⊎ (early.before.layout.generation < f.layout.generation)
    by key same (inl stood) = first key (early.leases key same stood)
    by key same (inr less) = inr (omega (arith, less, early.grows))

pub then : (a b c : MetaView) → Follows a b → Follows b c → Follows a c
then a b c h k = record {
  next = omega (arith, h.next, k.next);
  files = λ n f given e. (let late = k.files n f (omega (arith, given, h.next)) e in then_there a b c n f late (h.files n late.before given late.there));
}

-- ---- leases

pub same_file : (key : KeyView) (lease : Lease) → is_key key lease ≡ true → lease.file ≡ key.file
same_file key lease h = grind (arith, nat_tests)

or_none : {X : Type 0} (o : Option X) → option_or o None ≡ o
or_none None = refl
or_none (Some x) = refl

-- a lease that stands once one is taken is of its file, or stood
pub taken_held : (client file : ℕ) (table : TableView) (key : KeyView) → state_of (taken client file table) key ≡ Held → (key.file ≡ file) ⊎ (state_of table key ≡ Held)
taken_held client file table key h = by (is_key key one) refl (sym (ap state (find-append (is_key key) table.keys (one ∷ []))) ∙ h)
  where
    one : Lease
    one = lease_for client file table

    state : Option Lease → KeyState
    state found = option_map_or (λ (lease : Lease). lease.state) found (Broken 0)

    by : (b : Bool) → is_key key one ≡ b → state (option_or (find (is_key key) table.keys) (cond b (Some one) None)) ≡ Held → (key.file ≡ file) ⊎ (state_of table key ≡ Held)
    by true is k = inl (sym (same_file key one is))
    by false is k = inr (sym (ap state (or_none (find (is_key key) table.keys))) ∙ k)

not_key : (one key : KeyView) (lease : Lease) → same_key one key ≡ true → is_key one lease ≡ false → is_key key lease ≡ false
not_key one key lease same e = grind (arith, nat_tests)

-- a key that is given back is found no more
given_none : (one key : KeyView) → same_key one key ≡ true → (leases : List Lease) → find (is_key key) (filter (λ lease. not (is_key one lease)) leases) ≡ None
given_none one key same [] = refl
given_none one key same (l ∷ ls) = by (is_key one l) refl (given_none one key same ls)
  where
    rest : List Lease
    rest = filter (λ lease. not (is_key one lease)) ls

    by : (b : Bool) → is_key one l ≡ b → find (is_key key) rest ≡ None → find (is_key key) (cond (not b) (l ∷ rest) rest) ≡ None
    by true e none = none
    by false e none = (λ j. cond (not_key one key l same e j) (Some l) (find (is_key key) rest)) ∙ none

-- one that stands once a key is given back stood
pub given_held : (one key : KeyView) (table : TableView) → state_of (given one table) key ≡ Held → state_of table key ≡ Held
given_held one key table h = by (same_key one key) refl
  where
    by : (b : Bool) → same_key one key ≡ b → state_of table key ≡ Held
    by true is =
        let none : state_of (given one table) key ≡ Broken 0 = ap (λ found. option_map_or (λ (lease : Lease). lease.state) found (Broken 0)) (given_none one key is table.keys) in
        let never : Broken 0 ≡ Held = sym none ∙ h in
        absurd (cc)
    by false is = sym (given_state one key table is) ∙ h

-- ---- single changes

-- files stay, and no lease comes to stand
pub kept : (m new : MetaView) → m.next_file ≤ new.next_file → ((n : ℕ) (f : File) → file_of n new.files ≡ Some f → file_of n m.files ≡ Some f) → ((key : KeyView) → state_of new.leases key ≡ Held → state_of m.leases key ≡ Held) → Follows m new
kept m new next files leases = record {
  next = next;
  files = λ n f given e. record { before = f; there = files n f e; name = refl; grows = omega arith; leases = λ key same held. inl (leases key held) };
}

pub same : (m : MetaView) → Follows m m
same m = kept m m (omega arith) (λ n f e. e) (λ key h. h)

-- a file changes in what is no name and no layout
pub locked : (m : MetaView) (n : ℕ) (g : File → File) → ((x : File) → (g x).number ≡ x.number) → ((x : File) → (g x).name ≡ x.name) → ((x : File) → (g x).layout ≡ x.layout) → Follows m (with_change n g m)
locked m n g number name layout = record { next = omega arith; files = λ k f given e. by k f (was_found k n g m.files f number e) }
  where
    by : (k : ℕ) (f : File) → WasFound k n g m.files f → WasThere m (with_change n g m) k f
    by k f w = elim w.is [
      | inl here ↦ (
          let same : f.layout ≡ w.before.layout = ap (λ (x : File). x.layout) here.1 ∙ layout w.before in
          let level : f.layout.generation ≡ w.before.layout.generation = ap (λ (l : Composite). l.generation) same in
          record { before = w.before; there = w.there; name = ap (λ (x : File). x.name) here.1 ∙ name w.before; grows = omega (arith, level); leases = λ key own held. inl held }
          )
      | inr there ↦ (
          let level : f.layout.generation ≡ w.before.layout.generation = ap (λ (x : File). x.layout.generation) there.1 in
          record { before = w.before; there = w.there; name = ap (λ (x : File). x.name) there.1; grows = omega (arith, level); leases = λ key own held. inl held }
          )
    ]

-- a file gets another layout, whose generation is no less; and greater where a lease of the file comes to stand
pub laid : (m new : MetaView) (x : File) (l : Composite) → file_of x.number m.files ≡ Some x → new.files ≡ changed x.number (with_layout l) m.files → m.next_file ≤ new.next_file → x.layout.generation ≤ l.generation
    → ((key : KeyView) → state_of new.leases key ≡ Held → (state_of m.leases key ≡ Held) ⊎ ((key.file ≡ x.number) × (x.layout.generation < l.generation))) → Follows m new
laid m new x l here files next grows leases = record {
  next = next;
  files = λ n f given e. by n f (was_found n x.number (with_layout l) m.files f (λ y. refl) (subst (λ fs. file_of n fs ≡ Some f) files e));
}
  where
    other : (n : ℕ) (p : Type 0) (key : KeyView) → key.file ≡ n → (n ≡ x.number → ⊥) → (state_of m.leases key ≡ Held) ⊎ ((key.file ≡ x.number) × (x.layout.generation < l.generation)) → (state_of m.leases key ≡ Held) ⊎ p
    other n p key own apart (inl stood) = inl stood
    other n p key own apart (inr new) = absurd (apart (sym own ∙ new.0))

    mine : (p : Type 0) (key : KeyView) → ((x.layout.generation < l.generation) → p) → (state_of m.leases key ≡ Held) ⊎ ((key.file ≡ x.number) × (x.layout.generation < l.generation)) → (state_of m.leases key ≡ Held) ⊎ p
    mine p key to (inl stood) = inl stood
    mine p key to (inr new) = inr (to new.1)

    by : (n : ℕ) (f : File) → WasFound n x.number (with_layout l) m.files f → WasThere m new n f
    by n f w = elim w.is [
      | inl own ↦ (
          let one : w.before ≡ x = one_file (file_of x.number m.files) w.before x (subst (λ k. file_of k m.files ≡ Some w.before) own.0 w.there) here in
          let low : w.before.layout.generation ≡ x.layout.generation = ap (λ (y : File). y.layout.generation) one in
          let high : f.layout.generation ≡ l.generation = ap (λ (y : File). y.layout.generation) own.1 in
          record {
            before = w.before;
            there = w.there;
            name = ap (λ (y : File). y.name) own.1;
            grows = omega (arith, low, high, grows);
            leases = λ key is held. mine (w.before.layout.generation < f.layout.generation) key (λ less. omega (arith, low, high, less)) (leases key held);
          }
          )
      | inr apart ↦ (
          let level : f.layout.generation ≡ w.before.layout.generation = ap (λ (y : File). y.layout.generation) apart.1 in
          record {
            before = w.before;
            there = w.there;
            name = ap (λ (y : File). y.name) apart.1;
            grows = omega (arith, level);
            leases = λ key is held. other n (w.before.layout.generation < f.layout.generation) key is apart.0 (leases key held);
          }
          )
    ]

-- a file comes
pub pushed : (m : MetaView) (name : List ℕ) (size : ℕ) (l : Composite) → Follows m (with_file name size l m)
pushed m name size l = record { next = omega arith; files = λ n f given e. by n f given e (was_pushed n m.files x f e) }
  where
    x : File
    x = record { number = m.next_file; name = name; size = size; layout = l; lock = record { cookies = []; next = 1 } }

    by : (n : ℕ) (f : File) → n < m.next_file → file_of n (m.files ++ x ∷ []) ≡ Some f → (file_of n m.files ≡ Some f) ⊎ (f ≡ x) → WasThere m (with_file name size l m) n f
    by n f given e (inl before) = record { before = f; there = before; name = refl; grows = omega arith; leases = λ key own held. inl held }
    by n f given e (inr new) =
        let own : f.number ≡ n = number_found n (m.files ++ x ∷ []) f e in
        let late : f.number ≡ m.next_file = ap (λ (y : File). y.number) new in
        absurd (omega (arith, own, late, given))

-- a client is evicted
pub evicted : (m : MetaView) (client step : ℕ) → Follows m (with_eviction client step m)
evicted m client step = record {
  next = omega arith;
  files = λ n f given e. (
      let w = was_evicted n client m.files f e in
      let level : f.layout.generation ≡ w.before.layout.generation = ap (λ (y : File). y.layout.generation) w.is in
      record { before = w.before; there = w.there; name = ap (λ (y : File). y.name) w.is; grows = omega (arith, level); leases = λ key own held. inl (evicted_held client step m.leases key held) }
      );
}
