-- The list of calls, as it learns of steps.
use Rattle.std.proofs.Common.{◌≡◌, ℕ, ◌<◌, ◌≤◌, Bool, true, false, List, [], ◌∷◌, ◌++◌, length, map, set, refl, sym, ap, ◌∙◌, arith, inl, inr}
use Rattle.std.specs.Prelude.{Some, slice_get, ◌==◌, ◌&&◌, if◌then◌else◌, ◌⊎◌}
use Rattle.std.proofs.lemmas.Bool.{and_parts, eq-eqb, eqb-true}
use Rattle.flr_base.specs.declared.reply.Entry.{Entry}
use Rattle.flr_steps.specs.declared.client.Note.{Note}
use Rattle.flr_steps.specs.declared.client.Note.TheVariants.{Nothing, Adds, Closes}
use Rattle.flr_steps.specs.States.{closed, noted}
use Rattle.flr_world.specs.Worlds.{IsOnlyPending, pending_after}
use Rattle.flr_world.proofs.Lists.{last_at, map_changes_one, map_leaves, mapped_at, pushed_at, within}

-- what is noted is of this client
abbrev pub IsNoteOf : ℕ → Note → Type 0
IsNoteOf c Nothing = Unit {0}
IsNoteOf c (Adds e) = e.client ≡ c
IsNoteOf c Closes = Unit {0}

-- of each client one call at most has yet to end
abbrev pub IsOnePending : List Entry → Type 0
IsOnePending entries = (i j : ℕ) (a b : Entry) → slice_get entries i ≡ Some a → slice_get entries j ≡ Some b → a.client ≡ b.client → a.last ≡ 0 → b.last ≡ 0 → i ≡ j

-- ---- calls that end

left_by : (c place : ℕ) (e : Entry) (b : Bool) → ((e.client == c) && (e.last == 0)) ≡ b → ((e.client ≡ c) × (e.last ≡ 0) → ⊥) → (if b then record e { last = place } else e) ≡ e
left_by c place e true is not = let p = and_parts (e.client == c) (e.last == 0) is in absurd (not (eqb-true e.client c p.0, eqb-true e.last 0 p.1))
left_by c place e false is not = refl

-- an entry that isn't an pending one of the client stays
closed_leaves : (c place : ℕ) (e : Entry) → ((e.client ≡ c) × (e.last ≡ 0) → ⊥) → closed c place e ≡ e
closed_leaves c place e not = left_by c place e ((e.client == c) && (e.last == 0)) refl not

-- the calls end, where none but the one at this place is pending
pub closes_one : (c place pending : ℕ) (es : List Entry) (e : Entry) → IsOnlyPending c pending es → slice_get es pending ≡ Some e → map (closed c place) es ≡ set es pending (closed c place e)
closes_one c place pending es e only at = map_changes_one (closed c place) es pending e at (λ j x there other. closed_leaves c place x (λ is. other (only j x there is.0 is.1)))

pub closes_none : (c place pending : ℕ) (es : List Entry) → IsOnlyPending c pending es → length es ≤ pending → map (closed c place) es ≡ es
closes_none c place pending es only far =
    map_leaves (closed c place) es (λ j x there. closed_leaves c place x (λ is. (let same = only j x there is.0 is.1 in let less = within es j x there in absurd (omega (arith, same, less, far)))))

-- ---- who is pending, after a step

closed_by : (c place : ℕ) (x y : Entry) (b : Bool) → ((x.client == c) && (x.last == 0)) ≡ b → (if b then record x { last = place } else x) ≡ y → y.last ≡ 0 → 0 < place → (x ≡ y) × ((x.client ≡ c → ⊥))
closed_by c place x y true is same last pos = absurd (let e : place ≡ 0 = ap (λ (z : Entry). z.last) same ∙ last in omega (arith, e, pos))
closed_by c place x y false is same last pos =
    (same, λ mine. (let both : ((x.client == c) && (x.last == 0)) ≡ true = rw (eq-eqb x.client c mine, eq-eqb x.last 0 (ap (λ (z : Entry). z.last) same ∙ last)) refl in absurd (let clash : true ≡ false = sym both ∙ is in cc)))

-- an entry that is still pending after the client's calls ended was pending before, and is of another client
still_open : (c place : ℕ) (es : List Entry) (j : ℕ) (y : Entry) → 0 < place → slice_get (map (closed c place) es) j ≡ Some y → y.last ≡ 0 → (slice_get es j ≡ Some y) × ((y.client ≡ c) → ⊥)
still_open c place es j y pos at last =
    let found = mapped_at (closed c place) es j y at in
    let kept = closed_by c place found.0 y ((found.0.client == c) && (found.0.last == 0)) refl found.2 last pos in
    (found.1 ∙ ap (λ (z : Entry). Some z) kept.0, λ mine. kept.1 (ap (λ (z : Entry). z.client) kept.0 ∙ mine))

pub others_open : (c d place pending : ℕ) (es : List Entry) (note : Note) → (d ≡ c → ⊥) → 0 < place → IsNoteOf c note → IsOnlyPending d pending es → IsOnlyPending d pending (noted c place es note)
others_open c d place pending es Nothing other pos of only = only
others_open c d place pending es (Adds new) other pos of only = λ j e at mine last. by j e mine last (pushed_at es new j e at)
  where
    by : (j : ℕ) (e : Entry) → e.client ≡ d → e.last ≡ 0 → (slice_get es j ≡ Some e) ⊎ ((j ≡ length es) × (new ≡ e)) → j ≡ pending
    by j e mine last (inl at) = only j e at mine last
    by j e mine last (inr is) = absurd (other (sym mine ∙ sym (ap (λ (z : Entry). z.client) is.1) ∙ of))
others_open c d place pending es Closes other pos of only = λ j e at mine last. only j e (still_open c place es j e pos at last).0 mine last

own_by : (c pending : ℕ) (es : List Entry) (new : Entry) (b : Bool) → (new.last == 0) ≡ b → IsOnePending (es ++ new ∷ []) → new.client ≡ c → IsOnlyPending c pending es → IsOnlyPending c (if b then length es else pending) (es ++ new ∷ [])
own_by c pending es new true is one of only = λ j e at mine last. one j (length es) e new at (last_at es new) (mine ∙ sym of) last (eqb-true new.last 0 is)
own_by c pending es new false is one of only = λ j e at mine last. by j e mine last (pushed_at es new j e at)
  where
    by : (j : ℕ) (e : Entry) → e.client ≡ c → e.last ≡ 0 → (slice_get es j ≡ Some e) ⊎ ((j ≡ length es) × (new ≡ e)) → j ≡ pending
    by j e mine last (inl at) = only j e at mine last
    by j e mine last (inr same) = absurd (let yes : (new.last == 0) ≡ true = eq-eqb new.last 0 (ap (λ (z : Entry). z.last) same.1 ∙ last) in let clash : true ≡ false = sym yes ∙ is in cc)

pub own_open : (c place pending : ℕ) (es : List Entry) (note : Note) → 0 < place → IsNoteOf c note → IsOnePending (noted c place es note) → IsOnlyPending c pending es → IsOnlyPending c (pending_after pending (length es) note) (noted c place es note)
own_open c place pending es Nothing pos of one only = only
own_open c place pending es (Adds new) pos of one only = own_by c pending es new (new.last == 0) refl one of only
own_open c place pending es Closes pos of one only = λ j e at mine last. absurd ((still_open c place es j e pos at last).1 mine)
