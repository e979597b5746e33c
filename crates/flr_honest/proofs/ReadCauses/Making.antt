-- What each step of a read makes: a take calls one target, and no other step calls any.
use Rattle.std.proofs.Common.{◌≡◌, ℕ, true, false, List, [], ◌∷◌, Option, Some, None, refl, ap, subst, ◌∙◌, arith}
use Rattle.std.specs.List.{AllByRecursion}
use Rattle.flr_base.specs.declared.reply.ObjectId.{ObjectId}
use Rattle.flr_base.specs.declared.reply.Range.{Range}
use Rattle.stripe_map.specs.Places.{place_of}
use Rattle.composite_layout.specs.declared.component.Component.{Component}
use Rattle.mirror_select.specs.declared.types.Piece.{Piece}
use Rattle.mirror_select.proofs.Least.{In, from_contains}
use Rattle.object_target.specs.declared.call.CallAnswer.{CallAnswer}
use Rattle.object_target.specs.declared.call.CallAnswer.TheVariants as answer
use Rattle.object_target.specs.declared.call.CallKind.TheVariants as kind
use Rattle.object_target.specs.declared.fail.Fail.{Fail}
use Rattle.object_target.specs.declared.fail.FailKind.{FailKind}
use Rattle.object_target.specs.Calls.{answer_by, read_answer}
use Rattle.object_target.specs.Fails.{kind_of}
use Rattle.object_target.specs.TargetState.{TargetState, next_call}
use Rattle.call_steps.specs.Pieces.{object_of, piece_at}
use Rattle.call_steps.specs.Runs.{CallStep}
use Rattle.call_steps.specs.Servers.{Servers}
use Rattle.client_read.specs.declared.phase.ReadAt.{ReadAt}
use Rattle.client_read.specs.declared.phase.ReadAt.TheVariants as at
use Rattle.client_read.specs.declared.phase.Reading.{Reading}
use Rattle.client_read.specs.Faults.{failed_at, failed_if}
use Rattle.client_read.specs.Fitting.{HasPieces, IsAsked, IsObjectAt}
use Rattle.client_read.specs.Reads.{ids_of, target_of}
use Rattle.client_read.specs.Views.{ReadView}
use Rattle.client_read.proofs.RightTakes.{IsGiven, given}
use Rattle.client_read.proofs.UnderWay.{some_object}
use Rattle.flr_steps.specs.Traces.{Made}
use Rattle.flr_asked.specs.CallRuns.{made_in}
use Rattle.flr_claims.specs.Failures.{IsListed, call_of, has_failed, is_failed}
use Rattle.flr_honest.proofs.Lasting.Objects.{listed_at}
use Rattle.flr_honest.specs.CallSteps.StepMakes.{read_makes, take_made}
use Rattle.flr_honest.proofs.CallSteps.Failing.{FailsListed}

-- the object of a call of a target
abbrev pub object_in : Made → ObjectId
object_in m = record { target = m.target; number = m.entry.object }

-- the step calls no target; or it reads an object of one of these components, with success or without, and the script lists a call that fails
pub data Makes (fails : List Fail) (cs : List Component) (x : CallStep ReadView) : Type 0 where
  Quiet : made_in x ≡ [] → failed_at x.call.at x.before ≡ [] → Makes fails cs x
  Takes : (c : Component) (m : Made) → In c cs → In (object_in m) c.objects → made_in x ≡ m ∷ [] → has_failed m ≡ false → failed_at x.call.at x.before ≡ [] → Makes fails cs x
  Fails : (c : Component) (m : Made) → In c cs → In (object_in m) c.objects → made_in x ≡ m ∷ [] → m.entry.kind ≡ kind.Read → has_failed m ≡ true → failed_at x.call.at x.before ≡ record { component = c.id; call = call_of m } ∷ [] → IsListed fails (call_of m) → Makes fails cs x

-- ---- a take

-- a read is never refused as too old
never_old : (o : Option FailKind) (kept : ℕ) → answer_by o false 0 ≡ answer.Old kept → ⊥
never_old None kept e = absurd (cc)
never_old (Some k) kept e = absurd (cc)

-- the step takes a piece
abbrev pub IsTake : ReadAt → Type 0
IsTake (at.Take x next) = Unit {0}
IsTake other = ⊥

-- every other step makes no call
pub none_made : (place : ℕ) (s : Servers) (a : ReadAt) → (IsTake a → ⊥) → read_makes place a s ≡ []
none_made place s at.Open other = refl
none_made place s (at.Lock x next) other = refl
none_made place s (at.Take x next) other = absurd (other tt)
none_made place s (at.Again x) other = refl
none_made place s (at.Confirm x) other = refl
none_made place s at.UnlockAgain other = refl
none_made place s at.Unlock other = refl

-- what a take knows of its pieces
pub record IsReadable (range : Range) (x : Reading) (next : ℕ) : Type 0 where
  pub asked : IsAsked range
  pub pieces : HasPieces range x.opened.layout (ids_of x.failed) x.pieces
  pub object : IsObjectAt x.pieces next

-- what a step made, as its phase says, of which the script lists each call that failed
pub record MadeWell (fails : List Fail) (x : CallStep ReadView) : Type 0 where
  pub made : made_in x ≡ read_makes x.place x.call.at x.before
  pub listed : AllByRecursion (FailsListed fails) (made_in x)

module _ (fails : List Fail) (range : Range) (x : CallStep ReadView) (well : MadeWell fails x) (y : Reading) (next : ℕ) (phase : x.call.at ≡ at.Take y next) (w : IsReadable range y next) where
  abbrev own : Piece
  own = piece_at y.pieces next

  abbrev o : ObjectId
  o = object_of (piece_at y.pieces next)

  abbrev target : TargetState
  target = target_of x.before (piece_at y.pieces next)

  abbrev m : Made
  m = take_made x.place x.before (piece_at y.pieces next)

  its : IsGiven y.opened.layout.components (ids_of y.failed) own
  its = given range y.opened.layout (ids_of y.failed) y.pieces w.asked w.pieces next w.object.there

  listed_here : In its.component y.opened.layout.components
  listed_here = from_contains y.opened.layout.components its.component its.there

  has_object : In o its.component.objects
  has_object =
      let l = its.whole.bytes own.range.start (omega arith) its.some in
      listed_at its.component.objects (place_of own.range.start its.component.stripe).index o (l.object ∙ some_object own.object (record { target = 0; number = 0 }) w.object.object)

  reads : made_in x ≡ m ∷ []
  reads = well.made ∙ ap (λ (a : ReadAt). read_makes x.place a x.before) phase

  -- it makes just that call
  makes_take : Makes fails y.opened.layout.components x
  makes_take = by (read_answer target) refl
    where
      failing : (came : CallAnswer) → read_answer target ≡ came → failed_at x.call.at x.before ≡ failed_if x.before own came
      failing came e = ap (λ (a : ReadAt). failed_at a x.before) phase ∙ ap (failed_if x.before own) e

      by : (came : CallAnswer) → read_answer target ≡ came → Makes fails y.opened.layout.components x
      by answer.Ok e = Takes its.component m listed_here has_object reads (ap is_failed e) (failing answer.Ok e)
      by (answer.Old kept) e = absurd (never_old (kind_of target.fails (next_call target)) kept e)
      by answer.Failed e =
          Fails its.component m listed_here has_object reads refl (ap is_failed e)
          (failing answer.Failed e ∙ ap (λ (id : ℕ). record { component = id; call = call_of m } ∷ []) its.whole.id)
          ((subst (λ (ms : List Made). AllByRecursion (FailsListed fails) ms) reads well.listed).0 (ap is_failed e))

-- what a take knows, where the step is one
abbrev pub IsReadableAt : Range → ReadAt → Type 0
IsReadableAt range (at.Take y next) = IsReadable range y next
IsReadableAt range other = Unit {0}

-- the components of the layout that is open
abbrev pub IsOver : List Component → ReadAt → Type 0
IsOver cs (at.Take y next) = y.opened.layout.components ≡ cs
IsOver cs other = Unit {0}

-- each step makes that
pub makes : (fails : List Fail) (range : Range) (cs : List Component) (x : CallStep ReadView) → MadeWell fails x → IsReadableAt range x.call.at → IsOver cs x.call.at → Makes fails cs x
makes fails range cs x well w over = by x.call.at refl w over
  where
    still : (a : ReadAt) → x.call.at ≡ a → (IsTake a → ⊥) → failed_at a x.before ≡ [] → Makes fails cs x
    still a e other none = Quiet (well.made ∙ ap (λ (b : ReadAt). read_makes x.place b x.before) e ∙ none_made x.place x.before a other) (ap (λ (b : ReadAt). failed_at b x.before) e ∙ none)

    by : (a : ReadAt) → x.call.at ≡ a → IsReadableAt range a → IsOver cs a → Makes fails cs x
    by at.Open e w over = still at.Open e (λ h. h) refl
    by (at.Lock y next) e w over = still (at.Lock y next) e (λ h. h) refl
    by (at.Take y next) e w over = subst (λ (ds : List Component). Makes fails ds x) over (makes_take fails range x well y next e w)
    by (at.Again y) e w over = still (at.Again y) e (λ h. h) refl
    by (at.Confirm y) e w over = still (at.Confirm y) e (λ h. h) refl
    by at.UnlockAgain e w over = still at.UnlockAgain e (λ h. h) refl
    by at.Unlock e w over = still at.Unlock e (λ h. h) refl
