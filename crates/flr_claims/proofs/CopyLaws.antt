-- What was put into a destination that was copied whole.
use Rattle.std.proofs.Common.{◌≡◌, ◌⊎◌, ℕ, Bool, true, false, cond, ◌||◌, List, [], ◌∷◌, ◌++◌, filter, Contains, refl, sym, subst, inl, inr}
use Rattle.std.specs.List.{list_any}
use Rattle.std.proofs.lemmas.List.Elements.{Contains-append_left, Contains-append_right}
use Rattle.extent_lock.proofs.Members.{Contains-filter_parts, Contains-head}
use Rattle.composite_layout.specs.declared.component.Component.{Component}
use Rattle.meta_server.specs.Files.{File}
use Rattle.flr_steps.specs.Destinations.{is_made_for}
use Rattle.flr_steps.specs.Traces.{Made}
use Rattle.flr_claims.specs.Calls.{Call}
use Rattle.flr_claims.specs.Copies.{ByCalls, ByHole, HaveFailed, IsChunkCopied, IsCopiedWhole, IsHole, chunk_calls, chunk_start}
use Rattle.flr_claims.specs.Failures.{is_failed_take}
use Rattle.flr_claims.specs.Meanings.{HasPut, WholeIsPut}

or_kept : (a b c : Bool) → (b ≡ true → c ≡ true) → (a || b) ≡ true → (a || c) ≡ true
or_kept true b c f e = refl
or_kept false b c f e = f e

or_behind : (a b : Bool) → b ≡ true → (a || b) ≡ true
or_behind true b e = refl
or_behind false b e = e

module _ (p : Made → Bool) where
  any_kept : (q : Made → Bool) (x : Made) (xs : List Made) (b : Bool) → (list_any p (filter q xs) ≡ true → list_any p xs ≡ true) → list_any p (cond b (x ∷ filter q xs) (filter q xs)) ≡ true → list_any p (x ∷ xs) ≡ true
  any_kept q x xs true rest e = or_kept (p x) (list_any p (filter q xs)) (list_any p xs) rest e
  any_kept q x xs false rest e = or_behind (p x) (list_any p xs) (rest e)

  any_filtered : (q : Made → Bool) (xs : List Made) → list_any p (filter q xs) ≡ true → list_any p xs ≡ true
  any_filtered q [] e = e
  any_filtered q (x ∷ xs) e = any_kept q x xs (q x) (any_filtered q xs) e

-- what failed among some calls failed among more
more_failed : (cs : List Component) (made more : List Made) → ((p : Made → Bool) → list_any p made ≡ true → list_any p more ≡ true) → (ids : List ℕ) → HaveFailed cs made ids → HaveFailed cs more ids
more_failed cs made more k [] h = tt
more_failed cs made more k (id ∷ ids) h = let one = h.0 in ((one.0, one.1, one.2, k (is_failed_take one.0) one.3), more_failed cs made more k ids h.1)

module _ (k : Call) (f : File) (d : Component) (whole : IsCopiedWhole k f d) where
  abbrev own : List Made
  own = chunk_calls k d

  -- a call for the destination is one of the copy's
  of_copy : (m : Made) → Contains own m → Contains k.did.made m
  of_copy m h = (Contains-filter_parts (is_made_for k.before k.client d.id) k.did.made m h).0

  any_of_copy : (p : Made → Bool) → list_any p own ≡ true → list_any p k.did.made ≡ true
  any_of_copy p e = any_filtered p (is_made_for k.before k.client d.id) k.did.made e

  put_by : (number : ℕ) → IsChunkCopied k f d whole.size number → HasPut k.before f.layout k.did.made d whole.size number ⊎ IsHole f.layout.components k.did.made (chunk_start number)
  put_by number (ByCalls bytes before between after taken put split all took wrote) =
      let first : Contains own taken =
      subst (λ (xs : List Made). Contains xs taken) (sym split)
      (Contains-append_left (before ++ taken ∷ between) (put ∷ after) taken (Contains-append_right before (taken ∷ between) taken (Contains-head taken between))) in
      let second : Contains own put = subst (λ (xs : List Made). Contains xs put) (sym split) (Contains-append_right (before ++ taken ∷ between) (put ∷ after) put (Contains-head put after)) in
      inl (record { bytes = bytes; all = all; taken = taken; taken_there = of_copy taken first; took = took; put = put; put_there = of_copy put second; wrote = wrote })
  put_by number (ByHole hole) =
      inr (record { failed = hole.failed; have = more_failed f.layout.components own k.did.made any_of_copy hole.failed hole.have; source = hole.source; chosen_is = hole.chosen_is; none = hole.none })

pub whole_is_put : WholeIsPut
whole_is_put k f d whole number chunk = put_by k f d whole number (whole.copied number chunk)
