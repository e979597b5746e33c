-- Each step makes the one call of a target that its phase says, or none.
use Rattle.std.proofs.Common.{◌≡◌, ℕ, ◌<◌, List, length, Option, Some, None, refl, ◌∙◌, ap}
use Rattle.std.specs.Prelude.{Contains, slice_get, unwrap_or}
use Rattle.std.proofs.lemmas.Option.{slice_get_within, get_or_from_slice_get}
use Rattle.flr_base.specs.declared.reply.ObjectId.{ObjectId}
use Rattle.flr_base.specs.declared.reply.Range.{Range}
use Rattle.stripe_map.specs.Places.{place_of}
use Rattle.composite_layout.specs.declared.component.Component.{Component}
use Rattle.mirror_select.proofs.Least.{In, to_contains}
use Rattle.object_target.specs.TargetState.{TargetState}
use Rattle.call_steps.specs.Pieces.{object_of}
use Rattle.call_steps.specs.Runs.{Leaves}
use Rattle.call_steps.specs.Servers.{AreThere, Servers}
use Rattle.call_steps.specs.Steps.{Outcome, Going, Fixed, Ended, Answered, Blocked, widen}
use Rattle.resync_copy.specs.Chunks.{piece_in}
use Rattle.flr_steps.specs.Traces.{Made, made_by}

-- what is made on the way to an outcome
abbrev pub Makes : {C : Type 0} → ℕ → Servers → List Made → Outcome C → Type 0
Makes place s made (Going next after) = made_by place s.targets after.targets ≡ made
Makes place s made (Fixed next reply takes after) = made_by place s.targets after.targets ≡ made
Makes place s made (Ended after) = made_by place s.targets after.targets ≡ made
Makes place s made (Answered reply takes after) = made_by place s.targets after.targets ≡ made
Makes place s made (Blocked holder) = Unit {0}

-- a step that left the servers of its outcome made what is made on the way to it
pub made_left : {C : Type 0} (place : ℕ) (s after : Servers) (made : List Made) (o : Outcome C) → Makes place s made o → Leaves o after → made_by place s.targets after.targets ≡ made
made_left place s after made (Going next left) m same = ap (λ (u : Servers). made_by place s.targets u.targets) same ∙ m
made_left place s after made (Fixed next reply takes left) m same = ap (λ (u : Servers). made_by place s.targets u.targets) same ∙ m
made_left place s after made (Ended left) m same = ap (λ (u : Servers). made_by place s.targets u.targets) same ∙ m
made_left place s after made (Answered reply takes left) m same = ap (λ (u : Servers). made_by place s.targets u.targets) same ∙ m
made_left place s after made (Blocked holder) m same = absurd same

-- so it is with an outcome of a wider type of calls
pub makes_widened : {C D : Type 0} (f : C → D) (place : ℕ) (s : Servers) (made : List Made) (o : Outcome C) → Makes place s made o → Makes place s made (widen f o)
makes_widened f place s made (Going next after) m = m
makes_widened f place s made (Fixed next reply takes after) m = m
makes_widened f place s made (Ended after) m = m
makes_widened f place s made (Answered reply takes after) m = m
makes_widened f place s made (Blocked holder) m = tt

-- ---- objects on targets that are there

in_objects : (os : List ObjectId) (i : ℕ) (o : ObjectId) → slice_get os i ≡ Some o → Contains os o
in_objects os i o e = (i, slice_get_within os i o e, get_or_from_slice_get os i o o e)

-- the object of a piece, or the first target where nobody has it
pub some_there : (targets : List TargetState) (o : Option ObjectId) → 0 < length targets → ((x : ObjectId) → o ≡ Some x → x.target < length targets) → (unwrap_or o (record { target = 0; number = 0 })).target < length targets
some_there targets (Some x) some f = f x refl
some_there targets None some f = some

-- the piece of who answers, where that is one of the components
pub source_there : (targets : List TargetState) (cs : List Component) → AreThere targets cs → 0 < length targets → (range : Range) (d : Option Component) → ((c : Component) → d ≡ Some c → In c cs) → (object_of (piece_in d range)).target < length targets
source_there targets cs there some range (Some c) among =
    some_there targets (slice_get c.objects (place_of range.start c.stripe).index) some (λ o e. there c o (to_contains cs c (among c refl)) (in_objects c.objects (place_of range.start c.stripe).index o e))
source_there targets cs there some range None among = some
