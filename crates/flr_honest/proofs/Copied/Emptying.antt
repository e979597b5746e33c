-- What resets leave of the bytes of destinations, and what a copy knows of that up to its settle.
use Rattle.std.proofs.Common.{◌≡◌, ℕ, ◌+◌, ◌-◌, ◌<◌, ◌≤◌, Bool, true, false, cond, nat_lt, Option, Some, None, List, [], ◌∷◌, length, drop, get_or, ◌⊎◌, inl, inr, refl, sym, ap, subst, ◌∙◌, arith, length-drop}
use Rattle.std.specs.Prelude.{option_map, position}
use Rattle.std.proofs.lemmas.Bool.{cases_eq, cases_lt, false≢true}
use Rattle.std.proofs.lemmas.List.{get_or-drop}
use Rattle.std.proofs.lemmas.List.Quantifiers.{position-Some}
use Rattle.flr_base.specs.declared.reply.FailedCall.{FailedCall}
use Rattle.flr_base.specs.declared.reply.ObjectId.{ObjectId}
use Rattle.mirror_select.proofs.Least.{In, get_there, none_in, position_none}
use Rattle.object_target.specs.declared.call.CallAnswer.TheVariants as answer
use Rattle.object_target.specs.declared.fail.FailKind.{FailKind}
use Rattle.object_target.specs.Calls.{after_reset, answer_by, has_effect, is_old, next_fail, reset_answer}
use Rattle.object_target.specs.TargetState.{bytes_at, version_at}
use Rattle.call_steps.specs.Servers.{Servers, target_at}
use Rattle.resync_copy.specs.declared.parts.CopyObject.{CopyObject}
use Rattle.resync_copy.specs.declared.parts.Destination.{Destination}
use Rattle.resync_copy.specs.declared.phase.CopyStage.TheVariants as stage
use Rattle.resync_copy.specs.Copies.{clears, emptied, fences_from, leaves_with, object_at, resets_at, resets_from, settles_from, target_of}
use Rattle.resync_copy.specs.Parts.{all_left, cleared_of, is_open, left_with}
use Rattle.resync_copy.specs.Views.{CopyingView, fences_of, resets_of}
use Rattle.copy_laws.proofs.Less.{IsLess, cleared_place, less_with, none_kept, none_open}
use Rattle.flr_claims.specs.Honesty.{content}
use Rattle.flr_bytes.specs.Calls.{AreEmptied, StageSays}
use Rattle.flr_bytes.proofs.Contents.{own_content, reset_none, reset_others, reset_own, set_content}

-- with every destination left nothing is cleared
none_cleared : (ds : List Destination) → all_left ds ≡ true → cleared_of ds ≡ []
none_cleared ds all = by (cleared_of ds) refl
  where
    by : (ids : List ℕ) → cleared_of ds ≡ ids → cleared_of ds ≡ []
    by [] e = e
    by (id ∷ ids) e = let at = cleared_place ds id (subst (λ (xs : List ℕ). In id xs) (sym e) (inl refl)) in absurd (none_kept ds at.0 all at.1.there at.1.kept)

-- a call that is answered by Ok has effect
pub ok_effect : (fail : Option FailKind) (old : Bool) (kept : ℕ) → answer_by fail old kept ≡ answer.Ok → has_effect fail old ≡ true
ok_effect (Some f) old kept e = absurd (cc)
ok_effect None true kept e = absurd (cc)
ok_effect None false kept e = refl

-- ---- the stages up to settle

module _ (s : Servers) (byte : ℕ → ℕ → ℕ) where
  settles_say : (x : CopyingView) → AreEmptied s x (length (resets_of x)) → StageSays s byte (settles_from x)
  settles_say x all = by (all_left x.destinations) refl
    where
      by : (t : Bool) → all_left x.destinations ≡ t → StageSays s byte (cond t (clears x) (stage.Settle x))
      by true every = λ stands. inl (none_cleared x.destinations every)
      by false some = all

  -- resets of destinations that are left are passed over
  pub resets_say : (x : CopyingView) (place : ℕ) → AreEmptied s x place → StageSays s byte (resets_from x place)
  resets_say x place r = by (position is_opened (drop place (resets_of x))) refl
    where
      is_opened : CopyObject → Bool
      is_opened o = is_open x.destinations o.component

      -- those between that place and another aren't open
      further : (next : ℕ) → next ≤ length (resets_of x) → ((j : ℕ) → place + j < next → is_opened (get_or (drop place (resets_of x)) j (object_at [] 0)) ≡ false) → AreEmptied s x next
      further next within shut stands i less opened = at (cases_lt i place)
        where
          at : (i < place) ⊎ (place ≤ i) → content s (object_at (resets_of x) i).object ≡ []
          at (inl low) = r stands i low opened
          at (inr high) =
              let back : place + (i - place) ≡ i = omega (arith, high) in
              let isnt = shut (i - place) (omega (arith, back, less)) in
              absurd (false≢true (sym isnt ∙ ap is_opened (get_or-drop place (resets_of x) (i - place) (object_at [] 0)) ∙ ap (λ (j : ℕ). is_opened (object_at (resets_of x) j)) back ∙ opened))

      by : (o : Option ℕ) → position is_opened (drop place (resets_of x)) ≡ o → StageSays s byte (resets_at x (option_map (λ i. place + i) o))
      by None e =
          settles_say x (further (length (resets_of x)) (omega arith) (λ j less.
          none_in is_opened (drop place (resets_of x)) (get_or (drop place (resets_of x)) j (object_at [] 0)) (position_none is_opened (drop place (resets_of x)) e)
          (get_there (drop place (resets_of x)) j (object_at [] 0) (omega (arith, less, length-drop place (resets_of x))))))
      by (Some j) e =
          let found = position-Some is_opened (drop place (resets_of x)) j (object_at [] 0) e in
          let within = found.0 in
          further (place + j) (omega (arith, within, length-drop place (resets_of x))) (λ i less. found.2 i (omega (arith, less)))

  pub fences_say : (x : CopyingView) (next : ℕ) → StageSays s byte (fences_from x next)
  fences_say x next = by (nat_lt next (length (fences_of x)))
    where
      by : (t : Bool) → StageSays s byte (cond t (stage.Fence x next) (resets_from x 0))
      by true = tt
      by false = resets_say x 0 (λ stands i less. absurd (omega (arith, less)))

-- ---- a reset

module _ (s : Servers) (x : CopyingView) (o : ObjectId) where
  abbrev g : ℕ
  g = x.side.layout.generation

  -- it leaves each object as it is, or with no bytes
  emptied_or : (p : ObjectId) → (content (emptied s x o) p ≡ content s p) ⊎ (content (emptied s x o) p ≡ [])
  emptied_or p = by (set_content s o.target (after_reset (target_of s o) o.number g) p)
    where
      on : p.target ≡ o.target → bytes_at (target_of s o) p.number ≡ content s p
      on same = ap (λ k. bytes_at (target_at s.targets k) p.number) (sym same)

      reset_as : (b : Bool) → has_effect (next_fail (target_of s o)) (is_old (target_of s o) o.number g) ≡ b → p.target ≡ o.target → p.number ≡ o.number → (bytes_at (after_reset (target_of s o) o.number g) p.number ≡ content s p) ⊎ (bytes_at (after_reset (target_of s o) o.number g) p.number ≡ [])
      reset_as true e same number = inr (ap (λ k. bytes_at (after_reset (target_of s o) o.number g) k) number ∙ reset_own (target_of s o) o.number g e)
      reset_as false e same number = inl (reset_none (target_of s o) o.number g e p.number ∙ on same)

      by : ((p.target ≡ o.target) × (content (emptied s x o) p ≡ bytes_at (after_reset (target_of s o) o.number g) p.number)) ⊎ (content (emptied s x o) p ≡ content s p) → (content (emptied s x o) p ≡ content s p) ⊎ (content (emptied s x o) p ≡ [])
      by (inr stays) = inl stays
      by (inl set) = at (cases_eq p.number o.number)
        where
          after : (bytes_at (after_reset (target_of s o) o.number g) p.number ≡ content s p) ⊎ (bytes_at (after_reset (target_of s o) o.number g) p.number ≡ []) → (content (emptied s x o) p ≡ content s p) ⊎ (content (emptied s x o) p ≡ [])
          after (inl e) = inl (set.1 ∙ e)
          after (inr e) = inr (set.1 ∙ e)

          at : (p.number ≡ o.number) ⊎ (p.number ≡ o.number → ⊥) → (content (emptied s x o) p ≡ content s p) ⊎ (content (emptied s x o) p ≡ [])
          at (inl same) = after (reset_as (has_effect (next_fail (target_of s o)) (is_old (target_of s o) o.number g)) refl set.0 same)
          at (inr apart) = after (inl (reset_others (target_of s o) o.number g p.number apart ∙ on set.0))

  -- so who was empty is
  pub emptied_still : (p : ObjectId) → content s p ≡ [] → content (emptied s x o) p ≡ []
  emptied_still p e = by (emptied_or p)
    where
      by : (content (emptied s x o) p ≡ content s p) ⊎ (content (emptied s x o) p ≡ []) → content (emptied s x o) p ≡ []
      by (inl same) = same ∙ e
      by (inr none) = none

  -- and the object is empty where the reset is answered by Ok
  pub emptied_own : o.target < length s.targets → reset_answer (target_of s o) o.number g ≡ answer.Ok → content (emptied s x o) o ≡ []
  emptied_own there ok = own_content s o (after_reset (target_of s o) o.number g) there ∙ reset_own (target_of s o) o.number g (ok_effect (next_fail (target_of s o)) (is_old (target_of s o) o.number g) (version_at (target_of s o) o.number) ok)

-- ---- the step

module _ (s : Servers) (byte : ℕ → ℕ → ℕ) (x : CopyingView) (next : ℕ) where
  abbrev o : CopyObject
  o = object_at (resets_of x) next

  -- one more is empty
  pub more_emptied : o.object.target < length s.targets → AreEmptied s x next → reset_answer (target_of s o.object) o.object.number x.side.layout.generation ≡ answer.Ok → AreEmptied (emptied s x o.object) x (next + 1)
  more_emptied there r ok stands i less opened = at (cases_lt i next)
    where
      at : (i < next) ⊎ (next ≤ i) → content (emptied s x o.object) (object_at (resets_of x) i).object ≡ []
      at (inl low) = emptied_still s x o.object (object_at (resets_of x) i).object (r stands i low opened)
      at (inr high) = let one : i ≡ next = omega (arith, less, high) in subst (λ k. content (emptied s x o.object) (object_at (resets_of x) k).object ≡ []) (sym one) (emptied_own s x o.object there ok)

  -- or it is left
  pub fewer_emptied : (call : FailedCall) → AreEmptied s x next → AreEmptied (emptied s x o.object) (leaves_with x o.component call) (next + 1)
  fewer_emptied call r stands i less opened = at (cases_lt i next)
    where
      less_kept : IsLess x.destinations (left_with o.component call x.destinations)
      less_kept = less_with o.component call x.destinations

      at : (i < next) ⊎ (next ≤ i) → content (emptied s x o.object) (object_at (resets_of x) i).object ≡ []
      at (inl low) = emptied_still s x o.object (object_at (resets_of x) i).object (r stands i low (less_kept.opens (object_at (resets_of x) i).component opened))
      at (inr high) =
          let one : i ≡ next = omega (arith, less, high) in
          absurd (false≢true (sym (none_open o.component call x.destinations) ∙ ap (λ k. is_open (left_with o.component call x.destinations) (object_at (resets_of x) k).component) (sym one) ∙ opened))
