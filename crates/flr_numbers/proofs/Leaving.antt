-- What each change of the server leaves to all clients but the one that makes it.
use Rattle.std.proofs.Common.{◌≡◌, ◌≢◌, ℕ, ◌≤◌, true, Some, None, List, [], ◌∷◌, ◌++◌, ◌⊎◌, inl, inr, refl, sym, ap, subst, ◌∙◌, arith, get_or}
use Rattle.flr_base.specs.declared.reply.ObjectId.{ObjectId}
use Rattle.composite_layout.specs.Layouts.{Composite}
use Rattle.layout_lease.specs.declared.lease.KeyState.TheVariants.{Held}
use Rattle.layout_lease.specs.declared.shared.Share.{Share}
use Rattle.layout_lease.specs.Leases.{IsSoundTable, KeyView, TableView, broken_by, given, hand_of, holder_of, state_of, taken}
use Rattle.layout_lease.specs.Shares.{is_held, lowest_but}
use Rattle.layout_lease.proofs.Hands.{broken_hand, evicted_hand, given_free, given_state, taken_others}
use Rattle.meta_server.specs.Ending.{with_merge}
use Rattle.meta_server.specs.Files.{File, MetaView, changed, file_of, with_change, with_eviction, with_given, with_layout}
use Rattle.meta_server.specs.Layouts.{merged}
use Rattle.meta_server.proofs.Placing.{number_found}
use Rattle.meta_laws.proofs.Opens.{one_file}
use Rattle.flr_numbers.specs.Frames.{IsShared, IsUnmade, Leases, Leaves, Stands, StandsBelow}
use Rattle.flr_numbers.proofs.Cookies.{held_evicted, held_own}
use Rattle.flr_numbers.proofs.Holding.{apart_clients, broken_held, evicted_held, given_others, not_free, taken_other}
use Rattle.flr_numbers.proofs.Inverting.{WasFound, still_pushed, was_evicted, was_found, was_pushed, was_without}
use Rattle.flr_numbers.proofs.Standing.{RisesFrom, merged_stands}

-- the file had this layout before
pub record LaidBefore (k : ℕ) (files : List File) (f : File) : Type 0 where
  pub before : File
  pub there : file_of k files ≡ Some before
  pub layout : f.layout ≡ before.layout

stands_at : (m : MetaView) (k : ℕ) (f x : File) (o : ObjectId) → file_of k m.files ≡ Some x → f.layout ≡ x.layout → Stands o f.layout → StandsBelow m o f.layout.generation
stands_at m k f x o there same s =
    let generation : x.layout.generation ≡ f.layout.generation = ap (λ (l : Composite). l.generation) (sym same) in
    record { number = k; file = x; there = there; stands = subst (Stands o) same s; below = omega (arith, generation) }

-- a lease that stands stood, and its file had its layout
leases_by : (old new : MetaView) (key : KeyView) (l : Composite) → (state_of new.leases key ≡ Held → state_of old.leases key ≡ Held) → (state_of new.leases key ≡ Held → (f : File) → file_of key.file new.files ≡ Some f → LaidBefore key.file old.files f) → Leases old key l → Leases new key l
leases_by old new key l stood laid h = λ held f e. (let b = laid held f e in b.layout ∙ h (stood held) b.before b.there)

-- ---- nothing, and one thing after another

pub nothing : (client : ℕ) (m : MetaView) → Leaves client m m
nothing client m = record {
  rises = λ k f o e s. inr (record { number = k; file = f; there = e; stands = s; below = omega arith });
  cookies = λ k cookie l apart h. h;
  hands = λ other apart. refl;
  leases = λ key l apart h. h;
  most = refl;
}

pub then : (client : ℕ) (a b c : MetaView) → ((target : ℕ) → get_or a.nexts target 0 ≤ get_or b.nexts target 0) → Leaves client a b → Leaves client b c → Leaves client a c
then client a b c grow h k = record {
  rises = λ n f o e s. by o f.layout.generation (k.rises n f o e s);
  cookies = λ n cookie l apart is. h.cookies n cookie l apart (k.cookies n cookie l apart is);
  hands = λ other apart. k.hands other apart ∙ h.hands other apart;
  leases = λ key l apart is. k.leases key l apart (h.leases key l apart is);
  most = k.most ∙ h.most;
}
  where
    first : (o : ObjectId) (g : ℕ) (s : StandsBelow b o g) → IsUnmade a o ⊎ StandsBelow a o s.file.layout.generation → IsUnmade a o ⊎ StandsBelow a o g
    first o g s (inl late) = inl late
    first o g s (inr up) = inr (record { number = up.number; file = up.file; there = up.there; stands = up.stands; below = omega (arith, up.below, s.below) })

    by : (o : ObjectId) (g : ℕ) → IsUnmade b o ⊎ StandsBelow b o g → IsUnmade a o ⊎ StandsBelow a o g
    by o g (inl late) = inl (let less = grow o.target in omega (arith, less, late))
    by o g (inr s) = first o g s (h.rises s.number s.file o s.there s.stands)

-- ---- a layout lock changes

pub lock_changes : (client : ℕ) (m : MetaView) (n : ℕ) (g : File → File) → ((x : File) → (g x).number ≡ x.number) → ((x : File) → (g x).layout ≡ x.layout) → ((x : File) (cookie : Share) → cookie.client ≢ client → is_held (g x).lock cookie ≡ true → is_held x.lock cookie ≡ true)
    → Leaves client m (with_change n g m)
lock_changes client m n g keeps layout held = record {
  rises = λ k f o e s. inr (let b = laid k f e in stands_at m k f b.before o b.there b.layout s);
  cookies = λ k cookie l apart h. cookie_by k cookie l apart h (was_found k n g m.files h.file keeps h.there);
  hands = λ other apart. refl;
  leases = λ key l apart h. leases_by m (with_change n g m) key l (λ k. k) (λ k f e. laid key.file f e) h;
  most = refl;
}
  where
    laid_by : (k : ℕ) (f : File) → WasFound k n g m.files f → LaidBefore k m.files f
    laid_by k f w = elim w.is [
      | inl here ↦ record { before = w.before; there = w.there; layout = ap (λ (x : File). x.layout) here.1 ∙ layout w.before }
      | inr there ↦ record { before = w.before; there = w.there; layout = ap (λ (x : File). x.layout) there.1 }
    ]

    laid : (k : ℕ) (f : File) → file_of k (changed n g m.files) ≡ Some f → LaidBefore k m.files f
    laid k f e = laid_by k f (was_found k n g m.files f keeps e)

    cookie_by : (k : ℕ) (cookie : Share) (l : Composite) → cookie.client ≢ client → (h : IsShared (with_change n g m) k cookie l) → WasFound k n g m.files h.file → IsShared m k cookie l
    cookie_by k cookie l apart h w = elim w.is [
      | inl here ↦ record { file = w.before; there = w.there; held = held w.before cookie apart (subst (λ (x : File). is_held x.lock cookie ≡ true) here.1 h.held); layout = sym (ap (λ (x : File). x.layout) here.1 ∙ layout w.before) ∙ h.layout }
      | inr there ↦ record { file = w.before; there = w.there; held = subst (λ (x : File). is_held x.lock cookie ≡ true) there.1 h.held; layout = sym (ap (λ (x : File). x.layout) there.1) ∙ h.layout }
    ]

-- ---- a layout changes

-- the leases change so that all other clients have the keys that they had, and a lease of theirs that stands stood, and is of another file
pub record LeaseChange (client n : ℕ) (old new : TableView) : Type 0 where
  pub hands : (other : ℕ) → other ≢ client → hand_of other new ≡ hand_of other old
  pub states : (key : KeyView) → key.client ≢ client → state_of new key ≡ Held → (key.file ≡ n → ⊥) × (state_of old key ≡ Held)

pub broken_change : (client n step : ℕ) (table : TableView) → LeaseChange client n table (broken_by n step table)
broken_change client n step table = record { hands = λ other apart. broken_hand n step table other; states = λ key apart h. broken_held n step table key h }

free_file : (table : TableView) (n : ℕ) (key : KeyView) → holder_of table n ≡ None → state_of table key ≡ Held → key.file ≡ n → ⊥
free_file table n key free held same = not_free table key (subst (λ k. holder_of table k ≡ None) (sym same) free) held

pub same_change : (client n : ℕ) (table : TableView) → holder_of table n ≡ None → LeaseChange client n table table
same_change client n table free = record { hands = λ other apart. refl; states = λ key apart h. (free_file table n key free h, h) }

pub taken_change : (client n : ℕ) (table : TableView) → holder_of table n ≡ None → LeaseChange client n table (taken client n table)
taken_change client n table free = record {
  hands = λ other apart. taken_others client n table other apart;
  states = λ key apart h. (let before : state_of table key ≡ Held = sym (taken_other client n table key apart) ∙ h in (free_file table n key free before, before));
}

given_before : (key other : KeyView) (table : TableView) → other.client ≢ key.client → state_of (given key table) other ≡ Held → state_of table other ≡ Held
given_before key other table apart h = sym (given_state key other table (apart_clients key other apart)) ∙ h

pub given_change : (key : KeyView) (table : TableView) → IsSoundTable table → state_of table key ≡ Held → LeaseChange key.client key.file table (given key table)
given_change key table sound held = record {
  hands = λ other apart. given_others key table other apart;
  states = λ other apart h. (free_file (given key table) key.file other (given_free key table sound held) h, given_before key other table apart h);
}

pub laid : (client : ℕ) (m : MetaView) (n : ℕ) (x : File) (l : Composite) (leases : TableView) (nexts : List ℕ) → file_of n m.files ≡ Some x → lowest_but client x.lock ≡ None → RisesFrom m.nexts x.layout l → LeaseChange client n m.leases leases
    → Leaves client m (record m { files = changed n (with_layout l) m.files; leases = leases; nexts = nexts })
laid client m n x l leases nexts here alone rises change = record {
  rises = λ k f o e s. rises_by k f o s (found k f e);
  cookies = λ k cookie l' apart h. cookie_by k cookie l' apart h (found k h.file h.there);
  hands = change.hands;
  leases = λ key l' apart h. leases_by m new key l' (λ held. (change.states key apart held).1) (λ held f e. laid_by key.file f (change.states key apart held).0 (found key.file f e)) h;
  most = refl;
}
  where
    new : MetaView
    new = record m { files = changed n (with_layout l) m.files; leases = leases; nexts = nexts }

    found : (k : ℕ) (f : File) → file_of k (changed n (with_layout l) m.files) ≡ Some f → WasFound k n (with_layout l) m.files f
    found k f e = was_found k n (with_layout l) m.files f (λ y. refl) e

    -- the changed file is this one
    one : (k : ℕ) (y : File) → k ≡ n → file_of k m.files ≡ Some y → y ≡ x
    one k y same e = one_file (file_of n m.files) y x (subst (λ j. file_of j m.files ≡ Some y) same e) here

    stands_by : (o : ObjectId) (f : File) → f.layout ≡ l → (get_or m.nexts o.target 0 ≤ o.number) ⊎ Stands o x.layout → IsUnmade m o ⊎ StandsBelow m o f.layout.generation
    stands_by o f same (inl late) = inl late
    stands_by o f same (inr s) = inr (let generation : l.generation ≡ f.layout.generation = ap (λ (y : Composite). y.generation) (sym same) in record { number = n; file = x; there = here; stands = s; below = omega (arith, rises.grows, generation) })

    rises_by : (k : ℕ) (f : File) (o : ObjectId) → Stands o f.layout → WasFound k n (with_layout l) m.files f → IsUnmade m o ⊎ StandsBelow m o f.layout.generation
    rises_by k f o s w = elim w.is [
      | inl mine ↦ (let same : f.layout ≡ l = ap (λ (y : File). y.layout) mine.1 in stands_by o f same (rises.stands o (subst (Stands o) same s)))
      | inr other ↦ inr (stands_at m k f w.before o w.there (ap (λ (y : File). y.layout) other.1) s)
    ]

    cookie_by : (k : ℕ) (cookie : Share) (l' : Composite) → cookie.client ≢ client → (h : IsShared new k cookie l') → WasFound k n (with_layout l) m.files h.file → IsShared m k cookie l'
    cookie_by k cookie l' apart h w = elim w.is [
      | inl mine ↦ (
          let held : is_held w.before.lock cookie ≡ true = subst (λ (y : File). is_held y.lock cookie ≡ true) mine.1 h.held in
          absurd (apart (held_own client x.lock cookie alone (subst (λ (y : File). is_held y.lock cookie ≡ true) (one k w.before mine.0 w.there) held)))
          )
      | inr other ↦ record { file = w.before; there = w.there; held = subst (λ (y : File). is_held y.lock cookie ≡ true) other.1 h.held; layout = sym (ap (λ (y : File). y.layout) other.1) ∙ h.layout }
    ]

    laid_by : (k : ℕ) (f : File) → (k ≡ n → ⊥) → WasFound k n (with_layout l) m.files f → LaidBefore k m.files f
    laid_by k f apart w = elim w.is [ inl mine ↦ absurd (apart mine.0) | inr other ↦ record { before = w.before; there = w.there; layout = ap (λ (y : File). y.layout) other.1 } ]

-- ---- keys are given back

pub given_leaves : (key : KeyView) (m : MetaView) → Leaves key.client m (with_given key m)
given_leaves key m = record {
  rises = λ k f o e s. inr (record { number = k; file = f; there = e; stands = s; below = omega arith });
  cookies = λ k cookie l apart h. record { file = h.file; there = h.there; held = h.held; layout = h.layout };
  hands = λ other apart. given_others key m.leases other apart;
  leases = λ other l apart h. λ held f e. h (given_before key other m.leases apart held) f e;
  most = refl;
}

-- ---- a file is taken in

pub merged_leaves : (ours theirs : KeyView) (m : MetaView) (f v : File) → IsSoundTable m.leases → ours.client ≡ theirs.client → file_of ours.file m.files ≡ Some f → file_of theirs.file m.files ≡ Some v → lowest_but ours.client f.lock ≡ None → state_of m.leases ours ≡ Held
    → Leaves ours.client m (with_merge ours theirs m f v)
merged_leaves ours theirs m f v sound client e k alone held = record {
  rises = λ n y o h s. (let w = was_without n v.number after y h in rises_by n y o s (found n y w.1));
  cookies = λ n cookie l apart h. (let w = was_without n v.number after h.file h.there in cookie_by n cookie l apart h (found n h.file w.1));
  hands = λ other apart. given_others theirs (given ours m.leases) other (λ same. apart (same ∙ sym client)) ∙ given_others ours m.leases other apart;
  leases = λ key l apart h.
      leases_by m (with_merge ours theirs m f v) key l (λ stands. before key apart stands)
      (λ stands y there. (let w = was_without key.file v.number after y there in laid_by key.file y (other_file key apart stands) (found key.file y w.1))) h;
  most = refl;
}
  where
    l' : Composite
    l' = merged v.layout f.layout

    after : List File
    after = changed f.number (with_layout l') m.files

    ours_is : f.number ≡ ours.file
    ours_is = number_found ours.file m.files f e

    found : (n : ℕ) (y : File) → file_of n after ≡ Some y → WasFound n f.number (with_layout l') m.files y
    found n y h = was_found n f.number (with_layout l') m.files y (λ z. refl) h

    middle : (key : KeyView) → key.client ≢ ours.client → state_of (with_merge ours theirs m f v).leases key ≡ Held → state_of (given ours m.leases) key ≡ Held
    middle key apart h = given_before theirs key (given ours m.leases) (λ same. apart (same ∙ sym client)) h

    before : (key : KeyView) → key.client ≢ ours.client → state_of (with_merge ours theirs m f v).leases key ≡ Held → state_of m.leases key ≡ Held
    before key apart h = given_before ours key m.leases apart (middle key apart h)

    other_file : (key : KeyView) → key.client ≢ ours.client → state_of (with_merge ours theirs m f v).leases key ≡ Held → key.file ≡ f.number → ⊥
    other_file key apart h same = free_file (given ours m.leases) ours.file key (given_free ours m.leases sound held) (middle key apart h) (same ∙ ours_is)

    stands_by : (o : ObjectId) (y : File) → y.layout ≡ l' → Stands o f.layout ⊎ Stands o v.layout → StandsBelow m o y.layout.generation
    stands_by o y same (inl s) = let generation : l'.generation ≡ y.layout.generation = ap (λ (z : Composite). z.generation) (sym same) in record { number = ours.file; file = f; there = e; stands = s; below = omega (arith, generation) }
    stands_by o y same (inr s) = let generation : l'.generation ≡ y.layout.generation = ap (λ (z : Composite). z.generation) (sym same) in record { number = theirs.file; file = v; there = k; stands = s; below = omega (arith, generation) }

    rises_by : (n : ℕ) (y : File) (o : ObjectId) → Stands o y.layout → WasFound n f.number (with_layout l') m.files y → IsUnmade m o ⊎ StandsBelow m o y.layout.generation
    rises_by n y o s w = elim w.is [
      | inl mine ↦ (let same : y.layout ≡ l' = ap (λ (z : File). z.layout) mine.1 in inr (stands_by o y same (merged_stands o v.layout f.layout (subst (Stands o) same s))))
      | inr other ↦ inr (stands_at m n y w.before o w.there (ap (λ (z : File). z.layout) other.1) s)
    ]

    cookie_by : (n : ℕ) (cookie : Share) (l : Composite) → cookie.client ≢ ours.client → (h : IsShared (with_merge ours theirs m f v) n cookie l) → WasFound n f.number (with_layout l') m.files h.file → IsShared m n cookie l
    cookie_by n cookie l apart h w = elim w.is [
      | inl mine ↦ (
          let same : w.before ≡ f = one_file (file_of ours.file m.files) w.before f (subst (λ j. file_of j m.files ≡ Some w.before) (mine.0 ∙ ours_is) w.there) e in
          let held : is_held w.before.lock cookie ≡ true = subst (λ (y : File). is_held y.lock cookie ≡ true) mine.1 h.held in
          absurd (apart (held_own ours.client f.lock cookie alone (subst (λ (y : File). is_held y.lock cookie ≡ true) same held)))
          )
      | inr other ↦ record { file = w.before; there = w.there; held = subst (λ (y : File). is_held y.lock cookie ≡ true) other.1 h.held; layout = sym (ap (λ (y : File). y.layout) other.1) ∙ h.layout }
    ]

    laid_by : (n : ℕ) (y : File) → (n ≡ f.number → ⊥) → WasFound n f.number (with_layout l') m.files y → LaidBefore n m.files y
    laid_by n y apart w = elim w.is [ inl mine ↦ absurd (apart mine.0) | inr other ↦ record { before = w.before; there = w.there; layout = ap (λ (z : File). z.layout) other.1 } ]

-- ---- a file comes

pub pushed : (client : ℕ) (m mid : MetaView) (x : File) (next : ℕ) → Leaves client m mid → ((o : ObjectId) → Stands o x.layout → StandsBelow m o x.layout.generation) → ((cookie : Share) → is_held x.lock cookie ≡ true → ⊥) → ((key : KeyView) → state_of mid.leases key ≡ Held → (y : File) × (file_of key.file mid.files ≡ Some y))
    → Leaves client m (record mid { files = mid.files ++ x ∷ []; next_file = next })
pushed client m mid x next h rises nobody there = record {
  rises = λ k f o e s. rises_by k f o s (was_pushed k mid.files x f e);
  cookies = λ k cookie l apart is. cookie_by k cookie l apart is (was_pushed k mid.files x is.file is.there);
  hands = h.hands;
  leases = λ key l apart is. λ held f e. (
      let y = there key held in
      let same : y.0 ≡ f = one_file (file_of key.file (mid.files ++ x ∷ [])) y.0 f (still_pushed key.file mid.files x y.0 y.1) e in
      h.leases key l apart is held f (y.1 ∙ ap Some same)
      );
  most = h.most;
}
  where
    rises_by : (k : ℕ) (f : File) (o : ObjectId) → Stands o f.layout → (file_of k mid.files ≡ Some f) ⊎ (f ≡ x) → IsUnmade m o ⊎ StandsBelow m o f.layout.generation
    rises_by k f o s (inl before) = h.rises k f o before s
    rises_by k f o s (inr new) = inr (subst (λ (y : File). StandsBelow m o y.layout.generation) (sym new) (rises o (subst (λ (y : File). Stands o y.layout) new s)))

    cookie_by : (k : ℕ) (cookie : Share) (l : Composite) → cookie.client ≢ client → (is : IsShared (record mid { files = mid.files ++ x ∷ []; next_file = next }) k cookie l) → (file_of k mid.files ≡ Some is.file) ⊎ (is.file ≡ x) → IsShared m k cookie l
    cookie_by k cookie l apart is (inl before) = h.cookies k cookie l apart (record { file = is.file; there = before; held = is.held; layout = is.layout })
    cookie_by k cookie l apart is (inr new) = absurd (nobody cookie (subst (λ (y : File). is_held y.lock cookie ≡ true) new is.held))

-- ---- a client is evicted, by this one

pub evicted_leaves : (client other step : ℕ) (m : MetaView) → Leaves client m (with_eviction other step m)
evicted_leaves client other step m = record {
  rises = λ k f o e s. inr (let w = was_evicted k other m.files f e in stands_at m k f w.before o w.there (ap (λ (x : File). x.layout) w.is) s);
  cookies = λ k cookie l apart h. (
      let w = was_evicted k other m.files h.file h.there in
      record { file = w.before; there = w.there; held = held_evicted other w.before.lock cookie (subst (λ (x : File). is_held x.lock cookie ≡ true) w.is h.held); layout = sym (ap (λ (x : File). x.layout) w.is) ∙ h.layout }
      );
  hands = λ others apart. evicted_hand other step m.leases others;
  leases = λ key l apart h. leases_by m (with_eviction other step m) key l (λ held. evicted_held other step m.leases key held) (λ held f e. (let w = was_evicted key.file other m.files f e in record { before = w.before; there = w.there; layout = ap (λ (x : File). x.layout) w.is })) h;
  most = refl;
}
