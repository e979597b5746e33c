-- The entries of one client, as one more step is made.
use Rattle.std.proofs.Common.{◌≡◌, ℕ, zero, suc, Bool, true, false, cond, List, [], ◌∷◌, ◌++◌, map, append-nil, Some, refl, sym, ap, ◌∙◌, subst, arith, eq-eqb, eqb-true, ne_eqb}
use Rattle.std.specs.Prelude.{◌==◌, ◌&&◌, if◌then◌else◌, slice_get}
use Rattle.std.specs.List.{AllByRecursion}
use Rattle.std.proofs.ByRecursion.{kept_by_passes}
use Rattle.std.proofs.lemmas.Bool.{and_from, and_left, and_right}
use Rattle.std.proofs.lemmas.List.Elements.{filter-append, filter_agree}
use Rattle.layout_lease.proofs.Lists.{filter_mapped}
use Rattle.flr_base.specs.declared.reply.Entry.{Entry}
use Rattle.flr_steps.specs.States.{closed}
use Rattle.plain_files.specs.Histories.{entries_of}
use Rattle.flr_past.specs.Sentences.{IsOver}
use Rattle.flr_past.proofs.Lists.{all_got}

-- ---- one more entry

pub own_push : (c : ℕ) (es : List Entry) (e : Entry) → e.client ≡ c → entries_of c (es ++ e ∷ []) ≡ entries_of c es ++ e ∷ []
own_push c es e own = filter-append (λ (x : Entry). x.client == c) es (e ∷ []) ∙ ap (λ (b : Bool). entries_of c es ++ cond b (e ∷ []) []) (eq-eqb e.client c own)

pub other_push : (c : ℕ) (es : List Entry) (e : Entry) → (e.client ≡ c → ⊥) → entries_of c (es ++ e ∷ []) ≡ entries_of c es
other_push c es e other =
    filter-append (λ (x : Entry). x.client == c) es (e ∷ []) ∙ ap (λ (b : Bool). entries_of c es ++ cond b (e ∷ []) []) (ne_eqb e.client c other) ∙ append-nil (entries_of c es)

-- ---- an entry that ends

pub ends_open : (c place : ℕ) (e : Entry) → e.client ≡ c → e.last ≡ 0 → closed c place e ≡ record e { last = place }
ends_open c place e own not_over = ap (λ (b : Bool). if b then record e { last = place } else e) (and_from (e.client == c) (e.last == 0) (eq-eqb e.client c own) (eq-eqb e.last 0 not_over))

pub stays_over : (c place : ℕ) (e : Entry) → IsOver e → closed c place e ≡ e
stays_over c place e over = ap (λ (b : Bool). if b then record e { last = place } else e) (and_right (e.client == c) (e.last == 0) (ne_eqb e.last 0 (λ z. omega (arith, z, over))))

pub stays_other : (c place : ℕ) (e : Entry) → (e.client ≡ c → ⊥) → closed c place e ≡ e
stays_other c place e other = ap (λ (b : Bool). if b then record e { last = place } else e) (and_left (e.client == c) (e.last == 0) (ne_eqb e.client c other))

client_by : (place : ℕ) (e : Entry) (b : Bool) → (if b then record e { last = place } else e).client ≡ e.client
client_by place e true = refl
client_by place e false = refl

-- it is its client's as before
pub same_client : (c place : ℕ) (e : Entry) → (closed c place e).client ≡ e.client
same_client c place e = client_by place e ((e.client == c) && (e.last == 0))

own_mapped : (c d place : ℕ) (es : List Entry) → entries_of d (map (closed c place) es) ≡ map (closed c place) (entries_of d es)
own_mapped c d place es =
    filter_mapped (λ (x : Entry). x.client == d) (closed c place) es
    ∙ ap (λ (xs : List Entry). map (closed c place) xs)
    (filter_agree (λ (x : Entry). (closed c place x).client == d) (λ (x : Entry). x.client == d) (λ x. ap (λ (k : ℕ). k == d) (same_client c place x)) es)

last_mapped : (c place : ℕ) (front : List Entry) (last : Entry) → AllByRecursion IsOver front → last.client ≡ c → last.last ≡ 0 → map (closed c place) (front ++ last ∷ []) ≡ front ++ record last { last = place } ∷ []
last_mapped c place [] last over own not_over = ap (λ (e : Entry). e ∷ []) (ends_open c place last own not_over)
last_mapped c place (x ∷ front) last over own not_over =
    ap (λ (e : Entry). e ∷ map (closed c place) (front ++ last ∷ [])) (stays_over c place x over.0) ∙ ap (λ (es : List Entry). x ∷ es) (last_mapped c place front last over.1 own not_over)

-- of the client's own entries the last one ends
pub own_closed : (c place : ℕ) (es front : List Entry) (last : Entry) → entries_of c es ≡ front ++ last ∷ [] → AllByRecursion IsOver front → last.client ≡ c → last.last ≡ 0
    → entries_of c (map (closed c place) es) ≡ front ++ record last { last = place } ∷ []
own_closed c place es front last are over own not_over = own_mapped c c place es ∙ ap (λ (xs : List Entry). map (closed c place) xs) are ∙ last_mapped c place front last over own not_over

others_mapped : (c d place : ℕ) (own : List Entry) → (d ≡ c → ⊥) → AllByRecursion (λ (e : Entry). (e.client == d) ≡ true) own → map (closed c place) own ≡ own
others_mapped c d place [] other h = refl
others_mapped c d place (x ∷ own) other h =
    ap (λ (e : Entry). e ∷ map (closed c place) own) (stays_other c place x (λ same. other (sym (eqb-true x.client d h.0) ∙ same))) ∙ ap (λ (es : List Entry). x ∷ es) (others_mapped c d place own other h.1)

-- those of another stay
pub other_closed : (c d place : ℕ) (es : List Entry) → (d ≡ c → ⊥) → entries_of d (map (closed c place) es) ≡ entries_of d es
other_closed c d place es other = own_mapped c d place es ∙ others_mapped c d place (entries_of d es) other (kept_by_passes (λ (x : Entry). x.client == d) es)

-- ---- an entry of the list, and of its client

first_kept : (P : Entry → Type 0) (x : Entry) (own : List Entry) (b : Bool) → b ≡ true → AllByRecursion P (cond b (x ∷ own) own) → P x
first_kept P x own true is h = h.0
first_kept P x own false is h = absurd (cc is)

rest_kept : (P : Entry → Type 0) (x : Entry) (own : List Entry) (b : Bool) → AllByRecursion P (cond b (x ∷ own) own) → AllByRecursion P own
rest_kept P x own true h = h.1
rest_kept P x own false h = h

-- what is so of each of a client's entries is so of the entry at a place, where it is one of these
pub own_got : (P : Entry → Type 0) (c : ℕ) (es : List Entry) (place : ℕ) (e : Entry) → AllByRecursion P (entries_of c es) → slice_get es place ≡ Some e → e.client ≡ c → P e
own_got P c [] place e h here own = absurd (cc here)
own_got P c (x ∷ es) zero e h here own =
    let same : x ≡ e = cc here in
    subst P same (first_kept P x (entries_of c es) (x.client == c) (eq-eqb x.client c (ap (λ (y : Entry). y.client) same ∙ own)) h)
own_got P c (x ∷ es) (suc place) e h here own = own_got P c es place e (rest_kept P x (entries_of c es) (x.client == c) h) here own

place_by : (e x : Entry) (own es : List Entry) (b : Bool) (k : ℕ) → ((i : ℕ) → slice_get own i ≡ Some e → (place : ℕ) × (slice_get es place ≡ Some e)) → slice_get (cond b (x ∷ own) own) k ≡ Some e → (place : ℕ) × (slice_get (x ∷ es) place ≡ Some e)
place_by e x own es true zero rest there = (0, there)
place_by e x own es true (suc k) rest there = let r = rest k there in (suc r.0, r.1)
place_by e x own es false k rest there = let r = rest k there in (suc r.0, r.1)

-- a client's entry has a place in the list
pub own_place : (c : ℕ) (es : List Entry) (k : ℕ) (e : Entry) → slice_get (entries_of c es) k ≡ Some e → (place : ℕ) × (slice_get es place ≡ Some e)
own_place c [] k e there = absurd (cc there)
own_place c (x ∷ es) k e there = place_by e x (entries_of c es) es (x.client == c) k (λ i at. own_place c es i e at) there

pub own_client : (c : ℕ) (es : List Entry) (k : ℕ) (e : Entry) → slice_get (entries_of c es) k ≡ Some e → e.client ≡ c
own_client c es k e there = eqb-true e.client c (all_got (λ (x : Entry). (x.client == c) ≡ true) (entries_of c es) k e (kept_by_passes (λ (x : Entry). x.client == c) es) there)
