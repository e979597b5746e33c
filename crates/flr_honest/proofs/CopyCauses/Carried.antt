-- A copy of one file carries from its begin to its end the key, the layout and the destinations of its begin; and it hands over to be cleared those that aren't left, unless its last step met a call that was too old, or found its file gone.
use Rattle.std.proofs.Common.{◌≡◌, ℕ, ◌+◌, nat_lt, Bool, true, false, cond, List, [], ◌∷◌, ◌++◌, length, map, Option, None, Some, inl, inr, ◌⊎◌, refl, sym, ap, subst, ◌∙◌}
use Rattle.flr_base.specs.declared.reply.FailedCall.{FailedCall}
use Rattle.flr_base.specs.declared.reply.Left.{Left}
use Rattle.flr_base.specs.declared.reply.Range.{Range}
use Rattle.composite_layout.specs.declared.component.Component.{Component}
use Rattle.object_target.specs.declared.call.CallAnswer.{CallAnswer}
use Rattle.object_target.specs.declared.call.CallAnswer.TheVariants as answer
use Rattle.object_target.specs.Calls.{fence_answer, read_answer, reset_answer, write_answer}
use Rattle.meta_server.specs.declared.answers.Begun.{Begun}
use Rattle.meta_server.specs.declared.answers.Begun.TheVariants as begun_as
use Rattle.meta_server.specs.declared.answers.Side.{Side}
use Rattle.meta_server.specs.Beginning.{copy_begins}
use Rattle.meta_server.specs.Closing.{size_of}
use Rattle.meta_server.specs.Ending.{copy_ends}
use Rattle.meta_server.specs.Outcomes.{Ending, Ends, Breaks, Holds, Gives, Refuses, Waits}
use Rattle.meta_server.specs.Outcomes as meta
use Rattle.call_steps.specs.Pieces.{object_of}
use Rattle.call_steps.specs.Runs.{CallStep, Leaves, goes_on}
use Rattle.call_steps.specs.Servers.{Servers, next_call_on}
use Rattle.call_steps.specs.Steps.{Outcome}
use Rattle.resync_copy.specs.declared.parts.Destination.{Destination}
use Rattle.resync_copy.specs.declared.phase.CopyAt.{CopyAt}
use Rattle.resync_copy.specs.declared.phase.CopyAt.TheVariants as at
use Rattle.resync_copy.specs.declared.phase.CopyStage.{CopyStage}
use Rattle.resync_copy.specs.declared.phase.CopyStage.TheVariants as stage
use Rattle.resync_copy.specs.Calls.{CopyView}
use Rattle.resync_copy.specs.Copies.{clears, clears_none, copies_from, chunks_from, ends_copy, fences_from, fences_object, first_writer, leaves_at, leaves_over, leaves_with, next_reset, object_at, piece_from, piece_to, puts_chunk, resets_at, resets_from, resets_object, settled_objects, settles, settles_from, stage_at, takes_chunk, target_of}
use Rattle.resync_copy.specs.Parts.{all_left, cleared_of, destination_with, destinations_in, left_at, lefts_of}
use Rattle.resync_copy.specs.Steps.{begins}
use Rattle.resync_copy.specs.Views.{CopyingView, begun_copy, fences_of, resets_of, with_destinations}
use Rattle.copy_laws.proofs.Less.{IsLess, less_at, less_over, less_with, unleft}
use Rattle.copy_laws.proofs.Runs.{IsKept, Stands, merge_goes, with_at}
use Rattle.copy_left.specs.Nothing.{HasLost, HasLostAt}
use Rattle.flr_shut.specs.Laws.{copying_of}
use Rattle.flr_honest.proofs.Lasting.Going.{Goes, chunks_from_go, copies_go}

-- the copy has the key, the layout and the destinations of its begin
pub record IsCarried (side : Side) (ids : List ℕ) (x : CopyingView) : Type 0 where
  pub side_is : x.side ≡ side
  pub ids_are : x.ids ≡ ids
  pub same : map unleft x.destinations ≡ destinations_in side.layout.components ids

-- the copy that goes on
abbrev pub copying_at : CopyAt → Option CopyingView
copying_at (at.Copy next) = copying_of next
copying_at other = None

-- the last of these steps met a call that was too old, or found its file gone
pub record IsLostLast (side : Side) (ids : List ℕ) (steps : List (CallStep CopyView)) : Type 0 where
  pub front : List (CallStep CopyView)
  pub lost : CallStep CopyView
  pub in_order : steps ≡ front ++ lost ∷ []
  pub has : HasLost lost
  pub copying : CopyingView
  pub copies : copying_at lost.call.at ≡ Some copying
  pub carried : IsCarried side ids copying

-- what the end hands over: those of these destinations that aren't left, and those that are
pub record IsHandedOver (side : Side) (ids : List ℕ) (cleared : List ℕ) (left : List Left) (steps : List (CallStep CopyView)) : Type 0 where
  pub copying : CopyingView
  pub carried : IsCarried side ids copying
  pub lefts : left ≡ lefts_of copying.destinations
  pub clears : (cleared ≡ cleared_of copying.destinations) ⊎ ((cleared ≡ []) × IsLostLast side ids steps)

abbrev pub Carries : Side → List ℕ → List (CallStep CopyView) → CopyStage → Type 0
Carries side ids steps (stage.Fence x next) = IsCarried side ids x
Carries side ids steps (stage.Reset x next) = IsCarried side ids x
Carries side ids steps (stage.Settle x) = IsCarried side ids x
Carries side ids steps (stage.Take h) = IsCarried side ids h.copying
Carries side ids steps (stage.Put h bytes) = IsCarried side ids h.copying
Carries side ids steps (stage.Done key cleared left) = (side.key ≡ key) × IsHandedOver side ids cleared left steps

-- it began so with the first of its steps, and carries that
pub record CarriesOn (c : CopyView) (steps : List (CallStep CopyView)) (next : CopyStage) : Type 0 where
  pub side : Side
  pub ids : List ℕ
  pub begin : CallStep CopyView
  pub rest : List (CallStep CopyView)
  pub in_order : steps ≡ begin ∷ rest
  pub begun : copy_begins c.client c.name c.what begin.before.meta ≡ Gives (begun_as.Copy side ids) begin.after.meta
  pub carries : Carries side ids steps next

abbrev pub CarriesAt : CopyView → List (CallStep CopyView) → CopyAt → Type 0
CarriesAt c steps at.Begin = steps ≡ []
CarriesAt c steps (at.Copy next) = CarriesOn c steps next
CarriesAt c steps (at.Merge next) = Unit {0}

-- ---- what comes next

module _ (side : Side) (ids : List ℕ) (steps : List (CallStep CopyView)) where
  less_carried : (x : CopyingView) (ds : List Destination) → IsLess x.destinations ds → IsCarried side ids x → IsCarried side ids (with_destinations x ds)
  less_carried x ds less k = record { side_is = k.side_is; ids_are = k.ids_are; same = less.same ∙ k.same }

  clears_carry : (x : CopyingView) → IsCarried side ids x → Carries side ids steps (clears x)
  clears_carry x k = (ap (λ (s : Side). s.key) (sym k.side_is), record { copying = x; carried = k; lefts = refl; clears = inl refl })

  none_carries : (x : CopyingView) → IsCarried side ids x → IsLostLast side ids steps → Carries side ids steps (clears_none x)
  none_carries x k lost = (ap (λ (s : Side). s.key) (sym k.side_is), record { copying = x; carried = k; lefts = refl; clears = inr (refl, lost) })

  settles_carry : (x : CopyingView) → IsCarried side ids x → Carries side ids steps (settles_from x)
  settles_carry x k = by (all_left x.destinations)
    where
      by : (b : Bool) → Carries side ids steps (cond b (clears x) (stage.Settle x))
      by true = clears_carry x k
      by false = k

  resets_carry : (x : CopyingView) (place : ℕ) → IsCarried side ids x → Carries side ids steps (resets_from x place)
  resets_carry x place k = by (next_reset x place)
    where
      by : (o : Option ℕ) → Carries side ids steps (resets_at x o)
      by (Some next) = k
      by None = settles_carry x k

  fences_carry : (x : CopyingView) (next : ℕ) → IsCarried side ids x → Carries side ids steps (fences_from x next)
  fences_carry x next k = by (nat_lt next (length (fences_of x)))
    where
      by : (b : Bool) → Carries side ids steps (cond b (stage.Fence x next) (resets_from x 0))
      by true = k
      by false = resets_carry x 0 k

  abbrev Ready : CopyingView → ℕ → Type 0
  Ready x place = IsCarried side ids x

  abbrev At : CopyingView → ℕ → ℕ → Type 0
  At x place number = IsCarried side ids x

  goes : (size : ℕ) → Goes (Carries side ids steps) size Ready At
  goes size = record {
    skips = λ x place number next failed k holes up. k;
    ends = λ x place number failed k holes. k;
    leaves = λ x place number call k. less_carried x (left_at place call x.destinations) (less_at place call x.destinations) k;
    passes = λ x place k isnt. k;
    starts = λ x place k within is. k;
    clears = λ x place k all. clears_carry x k;
    takes = λ x place number failed last k c is init. k;
  }

  copies_carry : (size place : ℕ) (x : CopyingView) → IsCarried side ids x → Carries side ids steps (copies_from size place x)
  copies_carry size place x k = copies_go (Carries side ids steps) size Ready At (goes size) place x k

  from_carries : (size place : ℕ) (failed : List ℕ) (last : Option FailedCall) (number : ℕ) (x : CopyingView) → IsCarried side ids x → Carries side ids steps (chunks_from size place failed last number x)
  from_carries size place failed last number x k = chunks_from_go (Carries side ids steps) size Ready At (goes size) x place number failed last k

-- ---- each step

module _ (c : CopyView) (front : List (CallStep CopyView)) (made : CallStep CopyView) where
  abbrev now : List (CallStep CopyView)
  now = front ++ made ∷ []

  abbrev Ok : Option CopyView → Type 0
  Ok o = Stands c (CarriesAt c) now o

  -- the copy goes on from the same begin
  on : (next : CopyStage) (o : CarriesOn c front next) (after : CopyStage) → Carries o.side o.ids now after → CarriesOn c now after
  on next o after k = record { side = o.side; ids = o.ids; begin = o.begin; rest = o.rest ++ made ∷ []; in_order = ap (λ (xs : List (CallStep CopyView)). xs ++ made ∷ []) o.in_order; begun = o.begun; carries = k }

  lost_last : (a : CopyAt) → made.call ≡ with_at c a → HasLostAt a made.before → (x : CopyingView) → copying_at a ≡ Some x → (side : Side) (ids : List ℕ) → IsCarried side ids x → IsLostLast side ids now
  lost_last a is has x copies side ids k = record {
    front = front;
    lost = made;
    in_order = refl;
    has = subst (λ (v : CopyView). HasLostAt v.at made.before) (sym is) has;
    copying = x;
    copies = ap (λ (v : CopyView). copying_at v.at) is ∙ copies;
    carried = k;
  }

  begun_carries : front ≡ [] → Leaves made.came made.after → (o : meta.Outcome Begun) → copy_begins c.client c.name c.what made.before.meta ≡ o → made.came ≡ begins (with_at c at.Begin) made.before o → Ok (goes_on (begins (with_at c at.Begin) made.before o))
  begun_carries none left (Gives begun_as.Nothing after) e came = tt
  begun_carries none left (Gives (begun_as.Copy side ids) after) e came =
      let leaves : made.after ≡ record made.before { meta = after } = subst (λ (o : Outcome CopyView). Leaves o made.after) came left in (
        refl,
        record {
          side = side;
          ids = ids;
          begin = made;
          rest = [];
          in_order = ap (λ (xs : List (CallStep CopyView)). xs ++ made ∷ []) none;
          begun = e ∙ ap (λ (s : Servers). Gives (begun_as.Copy side ids) s.meta) (sym leaves);
          carries = fences_carry side ids now (begun_copy side ids) 0 (record { side_is = refl; ids_are = refl; same = none_left side.layout.components ids });
        },
      )
    where
      none_left : (cs : List Component) (is : List ℕ) → map unleft (destinations_in cs is) ≡ destinations_in cs is
      none_left cs [] = refl
      none_left cs (id ∷ is) = ap (λ (ds : List Destination). destination_with cs id ∷ ds) (none_left cs is)
  begun_carries none left (Gives (begun_as.Merge ours theirs) after) e came = (refl, tt)
  begun_carries none left (Refuses refusal) e came = tt
  begun_carries none left (Waits holder) e came = tt

  stage_carries : (next : CopyStage) → made.call ≡ with_at c (at.Copy next) → CarriesOn c front next → Ok (goes_on (stage_at next (with_at c (at.Copy next)) made.before))
  stage_carries (stage.Fence x next) is o = by (fence_answer (target_of made.before (object_at (fences_of x) next).object))
    where
      less : CopyingView
      less = leaves_over x (object_at (fences_of x) next).extent (next_call_on made.before.targets (object_at (fences_of x) next).object.target)

      failed : CarriesOn c now (fences_from less (next + 1))
      failed = on (stage.Fence x next) o (fences_from less (next + 1)) (fences_carry o.side o.ids now less (next + 1) (less_carried o.side o.ids now x less.destinations (less_over (object_at (fences_of x) next).extent (next_call_on made.before.targets (object_at (fences_of x) next).object.target) x.destinations) o.carries))

      by : (a : CallAnswer) → Ok (goes_on (fences_object (with_at c (at.Copy (stage.Fence x next))) made.before x next (object_at (fences_of x) next) a))
      by answer.Ok = (refl, on (stage.Fence x next) o (fences_from x (next + 1)) (fences_carry o.side o.ids now x (next + 1) o.carries))
      by (answer.Old kept) = (refl, failed)
      by answer.Failed = (refl, failed)
  stage_carries (stage.Reset x next) is o = by (reset_answer (target_of made.before (object_at (resets_of x) next).object) (object_at (resets_of x) next).object.number x.side.layout.generation) refl
    where
      less : CopyingView
      less = leaves_with x (object_at (resets_of x) next).component (next_call_on made.before.targets (object_at (resets_of x) next).object.target)

      by : (a : CallAnswer) → reset_answer (target_of made.before (object_at (resets_of x) next).object) (object_at (resets_of x) next).object.number x.side.layout.generation ≡ a → Ok (goes_on (resets_object (with_at c (at.Copy (stage.Reset x next))) made.before x next (object_at (resets_of x) next) a))
      by answer.Ok e = (refl, on (stage.Reset x next) o (resets_from x (next + 1)) (resets_carry o.side o.ids now x (next + 1) o.carries))
      by (answer.Old kept) e = (refl, on (stage.Reset x next) o (clears_none x) (none_carries o.side o.ids now x o.carries (lost_last (at.Copy (stage.Reset x next)) is (kept, e) x refl o.side o.ids o.carries)))
      by answer.Failed e =
          (refl, on (stage.Reset x next) o (resets_from less (next + 1)) (resets_carry o.side o.ids now less (next + 1) (less_carried o.side o.ids now x less.destinations (less_with (object_at (resets_of x) next).component (next_call_on made.before.targets (object_at (resets_of x) next).object.target) x.destinations) o.carries)))
  stage_carries (stage.Settle x) is o = by (first_writer made.before.locks c.client (settled_objects x)) (size_of x.side.file made.before.meta) refl
    where
      by : (w : Option (ℕ × Range)) (size : Option ℕ) → size_of x.side.file made.before.meta ≡ size → Ok (goes_on (settles (with_at c (at.Copy (stage.Settle x))) made.before x w size))
      by (Some told) size e = tt
      by None (Some size) e = (refl, on (stage.Settle x) o (copies_from size 0 x) (copies_carry o.side o.ids now size 0 x o.carries))
      by None None e = (refl, on (stage.Settle x) o (clears_none x) (none_carries o.side o.ids now x o.carries (lost_last (at.Copy (stage.Settle x)) is e x refl o.side o.ids o.carries)))
  stage_carries (stage.Take h) is o = by (read_answer (target_of made.before (object_of (piece_from h))))
    where
      more : CarriesOn c now (chunks_from h.size h.place (h.failed ++ (piece_from h).component ∷ []) (Some (next_call_on made.before.targets (object_of (piece_from h)).target)) h.number h.copying)
      more = on (stage.Take h) o _ (from_carries o.side o.ids now h.size h.place (h.failed ++ (piece_from h).component ∷ []) (Some (next_call_on made.before.targets (object_of (piece_from h)).target)) h.number h.copying o.carries)

      by : (a : CallAnswer) → Ok (goes_on (takes_chunk (with_at c (at.Copy (stage.Take h))) made.before h (piece_from h) a))
      by answer.Ok = (refl, on (stage.Take h) o (stage.Put h _) o.carries)
      by (answer.Old kept) = (refl, more)
      by answer.Failed = (refl, more)
  stage_carries (stage.Put h bytes) is o = by (write_answer (target_of made.before (object_of (piece_to h))) (object_of (piece_to h)).number h.copying.side.layout.generation) refl
    where
      less : CopyingView
      less = leaves_at h.copying h.place (next_call_on made.before.targets (object_of (piece_to h)).target)

      by : (a : CallAnswer) → write_answer (target_of made.before (object_of (piece_to h))) (object_of (piece_to h)).number h.copying.side.layout.generation ≡ a → Ok (goes_on (puts_chunk (with_at c (at.Copy (stage.Put h bytes))) made.before h bytes (piece_to h) a))
      by answer.Ok e = (refl, on (stage.Put h bytes) o _ (from_carries o.side o.ids now h.size h.place h.failed h.last (h.number + 1) h.copying o.carries))
      by (answer.Old kept) e = (refl, on (stage.Put h bytes) o (clears_none h.copying) (none_carries o.side o.ids now h.copying o.carries (lost_last (at.Copy (stage.Put h bytes)) is (kept, e) h.copying refl o.side o.ids o.carries)))
      by answer.Failed e =
          (refl, on (stage.Put h bytes) o _ (copies_carry o.side o.ids now h.size (h.place + 1) less (less_carried o.side o.ids now h.copying less.destinations (less_at h.place (next_call_on made.before.targets (object_of (piece_to h)).target) h.copying.destinations) o.carries)))
  stage_carries (stage.Done key cleared left) is o = by (copy_ends key cleared made.before.meta)
    where
      by : (o : Ending (Unit {0})) → Ok (goes_on (ends_copy (with_at c (at.Copy (stage.Done key cleared left))) made.before cleared left o))
      by (Ends done after) = tt
      by (Breaks step after) = tt
      by (Holds holder) = tt

-- each step leaves it so
pub carried_on : (c : CopyView) → IsKept c (CarriesAt c)
carried_on c front made at.Begin is sound fits held came left =
    subst (λ (o : Outcome CopyView). Stands c (CarriesAt c) (front ++ made ∷ []) (goes_on o)) (sym came) (begun_carries c front made held left (copy_begins c.client c.name c.what made.before.meta) refl came)
carried_on c front made (at.Copy next) is sound fits held came left = subst (λ (o : Outcome CopyView). Stands c (CarriesAt c) (front ++ made ∷ []) (goes_on o)) (sym came) (stage_carries c front made next is held)
carried_on c front made (at.Merge next) is sound fits held came left = subst (λ (o : Outcome CopyView). Stands c (CarriesAt c) (front ++ made ∷ []) (goes_on o)) (sym came) (merge_goes c (CarriesAt c) (λ steps n. tt) front made next)
