-- The call that a step made stands in the log of its target.
use Rattle.std.proofs.Common.{◌≡◌, ℕ, ◌<◌, ◌%◌, ◌/◌, Bool, true, List, length, get_or, Option, None, Some, refl, sym, ap, subst, ◌∙◌, arith, if◌then◌else◌}
use Rattle.std.specs.Prelude.{Contains, slice_get, unwrap_or}
use Rattle.std.proofs.Math.ListN.{set}
use Rattle.std.proofs.Math.Nat.{mod-lt}
use Rattle.std.proofs.lemmas.List.{get_or-set_same}
use Rattle.std.proofs.lemmas.Option.{get_or_from_slice_get, slice_get-get_or, slice_get_within, unwrap_or-slice_get}
use Rattle.flr_base.specs.declared.reply.ObjectId.{ObjectId}
use Rattle.stripe_map.specs.Places.{place_of}
use Rattle.composite_layout.specs.declared.component.Component.{Component}
use Rattle.composite_layout.specs.Layouts.{IsShaped}
use Rattle.mirror_select.specs.Pieces.{piece_at}
use Rattle.object_target.specs.declared.call.CallEntry.{CallEntry}
use Rattle.object_target.specs.declared.objects.Object.{Object}
use Rattle.object_target.specs.Calls.{after_call}
use Rattle.object_target.specs.TargetState.{IsLogged, TargetState, next_call}
use Rattle.object_target.proofs.CallsLaws.{logged_new}
use Rattle.call_steps.specs.Pieces.{object_of}
use Rattle.call_steps.specs.Runs.{CallStep}
use Rattle.call_steps.specs.Servers.{Servers, target_at, with_target}
use Rattle.resync_copy.specs.Calls.{CopyView}
use Rattle.resync_copy.specs.Copies.{target_of}
use Rattle.copy_laws.specs.Did.{CallsObject}

pub called : (made : CallStep CopyView) (o : ObjectId) (effect : Bool) (objects : List (ℕ × Object)) (entry wanted : CallEntry) → o.target < length made.before.targets →
    made.after ≡ with_target made.before o.target (after_call (target_of made.before o) effect objects entry) → entry ≡ wanted → CallsObject made o wanted
called made o effect objects entry wanted there after same =
    let t : TargetState = target_of made.before o in
    let new : TargetState = after_call t effect objects entry in
    let kept : target_at made.after.targets o.target ≡ new =
    ap (λ (s : Servers). target_at s.targets o.target) after ∙ unwrap_or-slice_get (set made.before.targets o.target new) o.target _ ∙ get_or-set_same made.before.targets o.target new _ there in (
      next_call t,
      record {
        next = refl;
        logged = subst (λ (left : TargetState). IsLogged left (next_call t) wanted) (sym kept) (subst (λ (e : CallEntry). IsLogged new (next_call t) e) same (logged_new t effect objects entry));
      },
    )

-- ---- a component with objects has one for each byte

some_there : (o : Option ObjectId) (x d : ObjectId) → o ≡ Some x → o ≡ Some (unwrap_or o d)
some_there None x d e = absurd (cc)
some_there (Some y) x d e = refl

pub piece_there : (c : Component) (start end : ℕ) → IsShaped c → c.flags.init ≡ true → (piece_at c start end).object ≡ Some (object_of (piece_at c start end))
piece_there c start end s init =
    let index : ℕ = (start / c.stripe.size) % c.stripe.count in
    let count : length c.objects ≡ c.stripe.count = s.one_each ∙ ap (λ b. if b then c.stripe.count else 0) init in
    let least : 0 < c.stripe.count = s.stripe.least_count in
    let low : index < c.stripe.count = mod-lt (start / c.stripe.size) least in
    let within : index < length c.objects = omega (arith, count, low) in
    some_there (slice_get c.objects index) (get_or c.objects index (record { target = 0; number = 0 })) (record { target = 0; number = 0 }) (slice_get-get_or c.objects index (record { target = 0; number = 0 }) within)

pub piece_listed : (c : Component) (start end : ℕ) → (piece_at c start end).object ≡ Some (object_of (piece_at c start end)) → Contains c.objects (object_of (piece_at c start end))
piece_listed c start end e =
    let index : ℕ = (place_of start c.stripe).index in
    let o : ObjectId = object_of (piece_at c start end) in
    (index, slice_get_within c.objects index o e, get_or_from_slice_get c.objects index o o e)
