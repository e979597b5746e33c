-- Who is in the way of a step holds what it needs.
use Rattle.std.proofs.Common.{◌≡◌, ℕ, ◌<◌, ◌≤◌, min, true, not, ◌==◌, Option, Some, None, List, [], ◌∷◌, map, Contains, ◌⊎◌, inl, inr, refl, sym, ap, subst, ◌∙◌, arith}
use Rattle.std.specs.List.{AllByRecursion}
use Rattle.std.specs.Option.{option_map_or, option_or}
use Rattle.std.proofs.lemmas.Bool.{cases_lt, eq-eqb}
use Rattle.flr_base.specs.declared.reply.ObjectId.{ObjectId}
use Rattle.flr_base.specs.declared.reply.Range.{Range}
use Rattle.extent_lock.specs.declared.lock.Lock.{Lock}
use Rattle.extent_lock.specs.Conflicts.{Conflict}
use Rattle.extent_lock.specs.Extents.{TellsFirst, blocker, locks_of, writer_but}
use Rattle.extent_lock.specs.Writers.{IsWriteBut}
use Rattle.extent_lock.proofs.LockLaws.{blocker_tells, writer_tells}
use Rattle.extent_lock.proofs.Members.{Contains-filter, Contains-filter_parts, Contains-head, Contains-tail}
use Rattle.layout_lease.specs.declared.shared.Share.{Share}
use Rattle.layout_lease.specs.Shares.{LockView, cookies_but, is_held, lowest, lowest_but}
use Rattle.layout_lease.proofs.Cookies.{is_held-listed}
use Rattle.composite_layout.specs.Layouts.{Composite}
use Rattle.meta_server.specs.Files.{File, MetaView}
use Rattle.flr_numbers.specs.Frames.{IsShared}
use Rattle.flr_claims.specs.Blocking.{first_in_way, first_writer, holder_told, sharer}
use Rattle.flr_live.proofs.Needing.{IsFileOf}
use Rattle.flr_live.proofs.Pieces.{in_map}

-- ---- extent locks

-- the client holds such a lock
pub record HoldsLock (held : List Lock) (holder : ℕ) (Kind : Lock → Type 0) : Type 0 where
  pub lock : Lock
  pub there : Contains (locks_of holder held) lock
  pub kind : Kind lock

module _ (held : List Lock) (holder : ℕ) where
  told : (Kind : Lock → Type 0) (o : Option (ℕ × Range)) → TellsFirst o held Kind → holder_told o ≡ Some holder → HoldsLock held holder Kind
  told Kind None h e = absurd (cc)
  told Kind (Some t) h e =
      let one : t.0 ≡ holder = cc e in
      let own : h.0.holder ≡ holder = ap (λ (p : ℕ × Range). p.0) (sym h.1) ∙ one in
      record { lock = h.0; there = Contains-filter (λ (l : Lock). l.holder == holder) held h.0 h.2.held (eq-eqb h.0.holder holder own); kind = h.2.kind }

  -- who is in the way of a lock holds one that conflicts with it
  pub in_way : (asked : Lock) → holder_told (first_in_way held (asked ∷ [])) ≡ Some holder → HoldsLock held holder (Conflict asked)
  in_way asked e = by (blocker held asked) (blocker_tells held asked) e
    where
      by : (o : Option (ℕ × Range)) → TellsFirst o held (Conflict asked) → holder_told (option_or o None) ≡ Some holder → HoldsLock held holder (Conflict asked)
      by None h e = absurd (cc)
      by (Some t) h e = told (Conflict asked) (Some t) h e

  any : (Kind : Lock → Type 0) → HoldsLock held holder Kind → HoldsLock held holder (λ (lock : Lock). Unit {0})
  any Kind h = record { lock = h.lock; there = h.there; kind = tt }

  -- who is in the way of some locks holds one
  pub in_way_of_some : (locks : List Lock) → holder_told (first_in_way held locks) ≡ Some holder → HoldsLock held holder (λ (lock : Lock). Unit {0})
  in_way_of_some [] e = absurd (cc)
  in_way_of_some (asked ∷ locks) e = by (blocker held asked) (blocker_tells held asked) e (in_way_of_some locks)
    where
      by : (o : Option (ℕ × Range)) → TellsFirst o held (Conflict asked) → holder_told (option_or o (first_in_way held locks)) ≡ Some holder
          → (holder_told (first_in_way held locks) ≡ Some holder → HoldsLock held holder (λ (lock : Lock). Unit {0})) → HoldsLock held holder (λ (lock : Lock). Unit {0})
      by None h e rest = rest e
      by (Some t) h e rest = any (Conflict asked) (told (Conflict asked) (Some t) h e)

  -- who writes to some of these objects holds one
  pub writes : (client : ℕ) (objects : List ObjectId) → holder_told (first_writer held client objects) ≡ Some holder → HoldsLock held holder (λ (lock : Lock). Unit {0})
  writes client [] e = absurd (cc)
  writes client (o ∷ os) e = by (writer_but held client o) (writer_tells held client o) e (writes client os)
    where
      by : (w : Option (ℕ × Range)) → TellsFirst w held (IsWriteBut client o) → holder_told (option_or w (first_writer held client os)) ≡ Some holder
          → (holder_told (first_writer held client os) ≡ Some holder → HoldsLock held holder (λ (lock : Lock). Unit {0})) → HoldsLock held holder (λ (lock : Lock). Unit {0})
      by None h e rest = rest e
      by (Some t) h e rest = any (IsWriteBut client o) (told (IsWriteBut client o) (Some t) h e)

-- ---- layout locks

lowest_in : (xs : List ℕ) (x : ℕ) → lowest xs ≡ Some x → Contains xs x
lowest_in [] x e = absurd (cc)
lowest_in (y ∷ ys) x e = by (lowest ys) refl e (lowest_in ys x)
  where
    least : (z : ℕ) → min y z ≡ x → ((z ≡ x) → Contains ys x) → (y < z) ⊎ (z ≤ y) → Contains (y ∷ ys) x
    least z e rest (inl less) = let same : y ≡ x = omega (arith, less, e) in subst (Contains (y ∷ ys)) same (Contains-head y ys)
    least z e rest (inr low) = let same : z ≡ x = omega (arith, low, e) in Contains-tail y ys x (rest same)

    by : (o : Option ℕ) → lowest ys ≡ o → Some (option_map_or (min y) o y) ≡ Some x → (lowest ys ≡ Some x → Contains ys x) → Contains (y ∷ ys) x
    by None is e rest = let same : y ≡ x = cc in subst (Contains (y ∷ ys)) same (Contains-head y ys)
    by (Some z) is e rest = let same : min y z ≡ x = cc in least z same (λ one. rest (is ∙ ap (λ (n : ℕ). Some n) one)) (cases_lt y z)

-- the lowest other client that holds a layout lock has a cookie of it
lowest_holds : (client : ℕ) (lock : LockView) (holder : ℕ) → lowest_but client lock ≡ Some holder → (cookie : Share) × (is_held lock cookie ≡ true) × (cookie.client ≡ holder)
lowest_holds client lock holder e =
    let m = in_map (λ (share : Share). share.client) (cookies_but client lock.cookies) holder (lowest_in (map (λ (share : Share). share.client) (cookies_but client lock.cookies)) holder e) in
    (m.0, (is_held-listed lock m.0).1 (Contains-filter_parts (λ (share : Share). not (share.client == client)) lock.cookies m.0 m.1).0, m.2)

-- the client has a cookie of a file
pub record HoldsCookie (m : MetaView) (holder : ℕ) : Type 0 where
  pub number : ℕ
  pub cookie : Share
  pub layout : Composite
  pub shared : IsShared m number cookie layout
  pub own : cookie.client ≡ holder

-- who shares some of these files has one
pub shares : (m : MetaView) (client holder : ℕ) (files : List File) → AllByRecursion (IsFileOf m) files → sharer client files ≡ Some holder → HoldsCookie m holder
shares m client holder [] of e = absurd (cc)
shares m client holder (f ∷ fs) of e = by (lowest_but client f.lock) refl e (shares m client holder fs of.1)
  where
    here : lowest_but client f.lock ≡ Some holder → HoldsCookie m holder
    here e =
        let h = lowest_holds client f.lock holder e in
        record { number = of.0.0; cookie = h.0; layout = f.layout; shared = record { file = f; there = of.0.1; held = h.1; layout = refl }; own = h.2 }

    by : (o : Option ℕ) → lowest_but client f.lock ≡ o → option_or o (sharer client fs) ≡ Some holder → (sharer client fs ≡ Some holder → HoldsCookie m holder) → HoldsCookie m holder
    by None is e rest = rest e
    by (Some other) is e rest = here (is ∙ e)
