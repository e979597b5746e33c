-- A call that a step logged is one that it made; so takes that tell where their bytes come from are right.
use Rattle.std.proofs.Common.{◌≡◌, ℕ, zero, suc, ◌+◌, ◌-◌, ◌<◌, ◌≤◌, List, [], ◌∷◌, length, map, drop, Some, inl, inr, refl, sym, ap, subst, ◌∙◌, arith}
use Rattle.std.specs.Prelude.{Contains, slice_get, unwrap_or}
use Rattle.std.specs.List.{AllZip, flat_map, range_with_len}
use Rattle.std.proofs.lemmas.Bool.{cases_eq}
use Rattle.flr_base.specs.declared.reply.ObjectId.{ObjectId}
use Rattle.flr_base.specs.declared.reply.Take.{Take}
use Rattle.flr_base.specs.declared.reply.TakeFrom.{TakeFrom}
use Rattle.flr_base.specs.declared.reply.TakeFrom.TheVariants.{Hole, Object}
use Rattle.stripe_map.specs.Cutting.{Tile}
use Rattle.stripe_map.specs.Places.{place_of}
use Rattle.composite_layout.specs.declared.component.Component.{Component}
use Rattle.mirror_select.proofs.Least.{In, from_contains, to_contains}
use Rattle.mirror_select.proofs.Sound.{in_left, in_right}
use Rattle.object_target.specs.declared.call.CallAnswer.TheVariants as answer
use Rattle.object_target.specs.declared.call.CallEntry.{CallEntry}
use Rattle.object_target.specs.declared.call.CallKind.TheVariants as kind
use Rattle.object_target.specs.TargetState.{TargetState, bytes_at, next_call, new_target, version_at}
use Rattle.call_steps.specs.Runs.{CallStep}
use Rattle.call_steps.specs.Servers.{target_at}
use Rattle.client_read.specs.Told.{ComeFrom, IsReadBy, TellsItsSource}
use Rattle.client_read.specs.Views.{ReadView}
use Rattle.flr_steps.specs.Traces.{Made, made_by, made_from, made_on}
use Rattle.flr_asked.specs.CallRuns.{made_in}
use Rattle.flr_claims.specs.Takes.{AreRightTakes, IsAnsweredBy, IsFrom, IsRightTake}
use Rattle.flr_honest.proofs.ReadCauses.Counting.{made_of}

-- ---- lists

-- what is in a part is in the whole
in_flat : {A B : Type 0} (f : A → List B) (xs : List A) (x : A) (y : B) → In x xs → In y (f x) → In y (flat_map f xs)
in_flat f [] x y i j = absurd i
in_flat f (a ∷ as') x y (inl same) j = in_left y (f a) (flat_map f as') (subst (λ b. In y (f b)) (sym same) j)
in_flat f (a ∷ as') x y (inr more) j = in_right y (f a) (flat_map f as') (in_flat f as' x y more j)

in_range : (a n k : ℕ) → a ≤ k → k < a + n → In k (range_with_len a n)
in_range a zero k low high = absurd (omega (arith, low, high))
in_range a (suc n) k low high = elim (cases_eq a k) as (λ _. In k (range_with_len a (suc n))) [ inl same ↦ inl same | inr apart ↦ inr (in_range (a + 1) n k (omega (arith, low, apart)) (omega (arith, high))) ]

-- what stands at a place is the first of the rest
first_of : {A : Type 0} (xs : List A) (n : ℕ) (x : A) → slice_get xs n ≡ Some x → (rest : List A) × (drop n xs ≡ x ∷ rest)
first_of [] n x e = absurd (cc)
first_of (y ∷ ys) zero x e = (ys, ap (λ z. z ∷ ys) (cc))
first_of (y ∷ ys) (suc n) x e = first_of ys n x e

-- ---- calls

-- the call that a target logs next
abbrev pub made_as : (place : ℕ) → List TargetState → ℕ → CallEntry → Made
made_as place old id entry = record { place = place; target = id; call = next_call (target_at old id); entry = entry; kept = version_at (target_at old id) entry.object; bytes = bytes_at (target_at old id) entry.object }

-- a target that isn't there has logged nothing
within_log : (new : List TargetState) (id n : ℕ) (absent : TargetState) (entry : CallEntry) → absent.calls ≡ [] → slice_get (unwrap_or (slice_get new id) absent).calls n ≡ Some entry → id < length new
within_log [] id n absent entry none e = let empty : slice_get [] n ≡ Some entry = ap (λ (es : List CallEntry). slice_get es n) (sym none) ∙ e in absurd (cc empty)
within_log (t ∷ ts) zero n absent entry none e = omega arith
within_log (t ∷ ts) (suc id) n absent entry none e = let more = within_log ts id n absent entry none e in omega (arith, more)

-- what a target logged at the next place is a call that the step made
made_logged : (place : ℕ) (old new : List TargetState) (id : ℕ) (entry : CallEntry) → slice_get (target_at new id).calls (length (target_at old id).calls) ≡ Some entry → In (made_as place old id entry) (made_by place old new)
made_logged place old new id entry e =
    let count : ℕ = length (target_at old id).calls in
    let first = first_of (target_at new id).calls count entry e in
    let own : In (made_as place old id entry) (made_on place old new id) =
    subst (λ (es : List CallEntry). In (made_as place old id entry) (made_from place id (target_at old id) (count + 1) es)) (sym first.1) (inl refl) in
    in_flat (made_on place old new) (range_with_len 0 (length new)) id (made_as place old id entry) (in_range 0 (length new) id (omega arith) (let less = within_log new id count (new_target id []) entry refl e in omega (arith, less))) own

-- ---- takes

module _ (since : List (CallStep ReadView)) where
  -- a read that a step made answered the take
  answered_by : (c : Component) (t : Take) (object : ObjectId) (offset call : ℕ) (bytes : List ℕ) (made : CallStep ReadView) → Contains since made → (place_of t.range.start c.stripe).offset ≡ offset
      → ((x : ℕ) → t.range.start ≤ x → x < t.range.end → (slice_get c.objects (place_of x c.stripe).index ≡ Some object) × ((place_of x c.stripe).offset ≡ offset + (x - t.range.start)))
      → IsReadBy made object offset (t.range.end - t.range.start) call bytes → IsAnsweredBy (made_of since) c t object.target object.number call bytes
  answered_by c t object offset call bytes made there first stripe h =
      let entry : CallEntry = record { kind = kind.Read; object = object.number; offset = offset; length = t.range.end - t.range.start; version = 0; answer = answer.Ok } in
      let count : ℕ = length (target_at made.before.targets object.target).calls in
      let at : call - 1 ≡ count = (let next = h.calls.next in omega (arith, next)) in
      let logged : slice_get (target_at made.after.targets object.target).calls count ≡ Some entry = ap (slice_get (target_at made.after.targets object.target).calls) (sym at) ∙ h.calls.logged.1 in
      record {
        by = made_as made.place made.before.targets object.target entry;
        listed = to_contains (made_of since) (made_as made.place made.before.targets object.target entry)
            (in_flat made_in since made (made_as made.place made.before.targets object.target entry) (from_contains since made there) (made_logged made.place made.before.targets made.after.targets object.target entry logged));
        target_is = refl;
        call_is = sym h.calls.next;
        read = refl;
        went = refl;
        object = refl;
        length = refl;
        striped = stripe;
        bytes_are = h.held;
      }

  -- bytes come from a hole, or from a call of the read
  comes_from : (c : Component) (t : Take) (bytes : List ℕ) (from : TakeFrom) → ComeFrom since c t.range bytes from → IsFrom (made_of since) c t bytes from
  comes_from c t bytes Hole h = h
  comes_from c t bytes (Object object call) h = answered_by c t object (place_of t.range.start c.stripe).offset call bytes h.2.0 h.2.1 refl h.1 h.2.2

  -- a take that tells where its bytes come from is right
  right_take : (cs : List Component) (t : Take) (bytes : List ℕ) → t.range.start < t.range.end → TellsItsSource since cs t bytes → IsRightTake cs (made_of since) t bytes
  right_take cs t bytes some h = record {
    some = some;
    component = h.component;
    listed = h.there;
    same = sym h.id;
    fresh = h.fresh;
    online = h.online;
    low = h.low;
    high = h.high;
    from = comes_from h.component t bytes t.from h.source;
  }

  -- takes that tile a range, and tell where their bytes come from, are right
  pub right_takes : (cs : List Component) (ts : List Take) (parts : List (List ℕ)) (start end : ℕ) → Tile (map (λ (t : Take). t.range) ts) start end → AllZip (TellsItsSource since cs) ts parts → AreRightTakes cs (made_of since) start end ts parts
  right_takes cs [] [] start end tile all = tile
  right_takes cs [] (b ∷ bs) start end tile all = absurd all
  right_takes cs (t ∷ ts) [] start end tile all = absurd all
  right_takes cs (t ∷ ts) (b ∷ bs) start end tile all = (tile.0, right_take cs t b (let first = tile.0 in let some = tile.1 in omega (arith, first, some)) all.0, right_takes cs ts bs t.range.end end tile.2 all.1)
