-- What is told of the bytes of an input.
use Rattle.std.proofs.Common.{◌≡◌, ℕ, ◌<◌, List, ◌++◌, length, sym, ap, subst, ◌∙◌, inl, inr}
use Rattle.std.specs.Prelude.{Option, Some, None, IfSome, ◌⊎◌}
use Rattle.std.specs.Io.KnownBytes.{Appends}
use Rattle.std.proofs.lemmas.List.{append-nil}
use Rattle.flr_base.specs.Streams.{IsLonger, ReadsWhole}
use Rattle.flr_statuses.specs.Statuses.{IsReadFault, LeavesFront, TakesFront, Tells, TellsFront}

pub whole_is : (b : List ℕ) (now : Option (List ℕ)) (bytes : List ℕ) → ReadsWhole (Some b) now bytes → bytes ≡ b
whole_is b None bytes h = absurd h.0
whole_is b (Some rest) bytes h = sym (h.0 ∙ ap (λ (l : List ℕ). bytes ++ l) h.1 ∙ append-nil bytes)

-- the text was written
pub tells : (Is : List ℕ → List ℕ → Type 0) (left now told new : Option (List ℕ)) (bytes text : List ℕ) → ReadsWhole left now bytes → Is bytes text → Appends told new text → IfSome left (λ b. Tells Is b told new)
tells Is None now told new bytes text h is taken = tt
tells Is (Some b) now told new bytes text h is taken = record { text = text; is = subst (λ (l : List ℕ). Is l text) (whole_is b now bytes h) is; taken = taken }

-- a front of it was
pub tells_front : (IsDone IsRefusal : List ℕ → List ℕ → Type 0) (left now told new : Option (List ℕ)) (before later : ℕ) (bytes text : List ℕ) → ReadsWhole left now bytes → IsDone bytes text ⊎ (IsRefusal bytes text ⊎ IsReadFault before later text) → TakesFront told new text → IfSome left (λ b. TellsFront IsDone IsRefusal b before later told new)
tells_front IsDone IsRefusal None now told new before later bytes text h is taken = tt
tells_front IsDone IsRefusal (Some b) now told new before later bytes text h is taken =
    record { text = text; is = subst (λ (l : List ℕ). IsDone l text ⊎ (IsRefusal l text ⊎ IsReadFault before later text)) (whole_is b now bytes h) is; taken = taken }

-- as much of it as there was memory for
pub leaves_front : (Is : List ℕ → List ℕ → Type 0) (left now told new : Option (List ℕ)) (bytes text : List ℕ) → ReadsWhole left now bytes → Is bytes text → TakesFront told new text → IfSome left (λ b. LeavesFront Is b told new)
leaves_front Is None now told new bytes text h is taken = tt
leaves_front Is (Some b) now told new bytes text h is taken = inr (record { text = text; is = subst (λ (l : List ℕ). Is l text) (whole_is b now bytes h) is; taken = taken })

-- ---- an input that is too long

module _ (IsRefusal : List ℕ → List ℕ → Type 0) (most : ℕ) (line : List ℕ) (is_long : (b : List ℕ) → most < length b → IsRefusal b line) where
  -- its line was written
  pub tells_long : (left told new : Option (List ℕ)) → IsLonger left most → Appends told new line → IfSome left (λ b. Tells IsRefusal b told new)
  tells_long None told new long taken = tt
  tells_long (Some b) told new long taken = record { text = line; is = is_long b long; taken = taken }

  -- a front of it was
  pub tells_long_front : (IsDone : List ℕ → List ℕ → Type 0) (left told new : Option (List ℕ)) (before now : ℕ) → IsLonger left most → TakesFront told new line → IfSome left (λ b. TellsFront IsDone IsRefusal b before now told new)
  tells_long_front IsDone None told new before now long taken = tt
  tells_long_front IsDone (Some b) told new before now long taken = record { text = line; is = inr (inl (is_long b long)); taken = taken }
