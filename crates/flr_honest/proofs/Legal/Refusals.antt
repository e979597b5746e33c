-- Why changes of layouts are refused: never for want of memory.
use Rattle.std.proofs.Common.{◌≡◌, ℕ, ◌+◌, Bool, true, false, cond, nat_lt, Option, Some, None, List, length, map, subst}
use Rattle.composite_layout.specs.declared.component.Component.{Component}
use Rattle.composite_layout.specs.FlagChanges.{FlagSets}
use Rattle.composite_layout.specs.Layouts.{Composite}
use Rattle.composite_layout.specs.LookUps.{has_mirror, mirror_ids}
use Rattle.layout_state.specs.declared.error.StateError.{StateError}
use Rattle.layout_state.specs.declared.error.StateError.TheVariants as errors
use Rattle.layout_state.specs.Choosing.{has_fresh}
use Rattle.layout_state.specs.Marking.{changed_if_named, flags_refusal, mirror_of}
use Rattle.layout_state.specs.Mirroring.{excess, keeping, without}

-- the change isn't refused for want of memory
abbrev pub IsPlain : StateError → Type 0
IsPlain (errors.NoPrimary range) = Unit {0}
IsPlain (errors.LastFresh mirror) = Unit {0}
IsPlain (errors.NoMirrorId id) = Unit {0}
IsPlain (errors.NoComponent id) = Unit {0}
IsPlain errors.TooManyMirrors = Unit {0}
IsPlain errors.TooManyComponents = Unit {0}
IsPlain errors.NoMemory = ⊥

-- the error that was given is this one
given : (one error : StateError) → IsPlain one → Some one ≡ Some error → IsPlain error
given one error plain e = subst IsPlain (let same : one ≡ error = cc e in same) plain

pub plain_excess : (l : Composite) (mirrors components most : ℕ) (error : StateError) → excess l mirrors components most ≡ Some error → IsPlain error
plain_excess l mirrors components most error e = by (nat_lt most (length (mirror_ids l.components) + mirrors)) (nat_lt 65536 (l.next_counter + components)) e
  where
    by : (a b : Bool) → cond a (Some errors.TooManyMirrors) (cond b (Some errors.TooManyComponents) None) ≡ Some error → IsPlain error
    by true b e = given errors.TooManyMirrors error tt e
    by false true e = given errors.TooManyComponents error tt e
    by false false e = absurd (cc e)

pub plain_keeping : (mirror : ℕ) (cs : List Component) (error : StateError) → keeping mirror cs ≡ Some error → IsPlain error
plain_keeping mirror cs error e = by (has_mirror mirror cs) (has_fresh (without mirror cs)) e
  where
    by : (there fresh : Bool) → cond there (cond fresh None (Some (errors.LastFresh mirror))) (Some (errors.NoMirrorId mirror)) ≡ Some error → IsPlain error
    by true true e = absurd (cc e)
    by true false e = given (errors.LastFresh mirror) error tt e
    by false fresh e = given (errors.NoMirrorId mirror) error tt e

pub plain_flags : (id : ℕ) (change : FlagSets) (cs : List Component) (error : StateError) → flags_refusal id change cs ≡ Some error → IsPlain error
plain_flags id change cs error e = at (mirror_of id cs) e
  where
    why : Option ℕ → Option StateError
    why None = Some (errors.NoComponent id)
    why (Some mirror) = cond (has_fresh (map (changed_if_named id change) cs)) None (Some (errors.LastFresh mirror))

    last : (mirror : ℕ) (b : Bool) → cond b None (Some (errors.LastFresh mirror)) ≡ Some error → IsPlain error
    last mirror true e = absurd (cc e)
    last mirror false e = given (errors.LastFresh mirror) error tt e

    at : (o : Option ℕ) → why o ≡ Some error → IsPlain error
    at None e = given (errors.NoComponent id) error tt e
    at (Some mirror) e = last mirror (has_fresh (map (changed_if_named id change) cs)) e
