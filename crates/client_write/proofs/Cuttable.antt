-- What a truncate may rely on of its tails.
use Rattle.std.proofs.Common.{ℕ, ◌<◌, List, length, sym, subst}
use Rattle.std.specs.Prelude.{All}
use Rattle.std.proofs.lemmas.List.Elements.{All-contains_itself, All-map}
use Rattle.std.proofs.lemmas.Option.{get_or_from_slice_get, slice_get_within}
use Rattle.composite_layout.specs.Layouts.{Composite, IsValid}
use Rattle.mirror_select.specs.declared.types.Tail.{Tail}
use Rattle.mirror_select.specs.Laws.{HasTail}
use Rattle.mirror_select.specs.Tails.{StripeObject, tail_in, tail_stripes, tails_of}
use Rattle.mirror_select.proofs.TailLaws.{are_all}
use Rattle.object_target.specs.TargetState.{TargetState}
use Rattle.call_steps.specs.Servers.{AreThere}
use Rattle.client_write.specs.CutFitting.{HasTails}
use Rattle.client_write.specs.Truncates.{tail_at}
use Rattle.client_write.specs.Views.{CuttingView}

-- the object of a stripe that has a tail is on a target that is there
stripe_there : (l : Composite) (size : ℕ) (targets : List TargetState) (s : StripeObject) → AreThere targets l.components → HasTail l size s → s.object.target < length targets
stripe_there l size targets s are has =
    are s.component s.object has.there (s.index, slice_get_within s.component.objects s.index s.object has.object, get_or_from_slice_get s.component.objects s.index s.object s.object has.object)

tails_there : (l : Composite) (size : ℕ) (targets : List TargetState) → IsValid l → AreThere targets l.components → All (λ (t : Tail). t.object.target < length targets) (tails_of l size)
tails_there l size targets valid are =
    All-map (λ (t : Tail). t.object.target < length targets) (tail_in size) (tail_stripes l size)
    (λ k d h. stripe_there l size targets _ are ((are_all l size _ valid).0 (All-contains_itself (tail_stripes l size) k d h)))

-- the object of a tail is on a target that is there
pub tail_there : (size : ℕ) (x : CuttingView) (place : ℕ) (targets : List TargetState) → HasTails size x → place < length x.tails → AreThere targets x.opened.layout.components →
    (tail_at x.tails place).object.target < length targets
tail_there size x place targets has h are =
    subst (λ (ts : List Tail). All (λ (t : Tail). t.object.target < length targets) ts) (sym has.are) (tails_there x.opened.layout size targets has.valid are) place _ h
