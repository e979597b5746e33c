-- The parts of a mirror, as their options come.
use Rattle.std.specs.Prelude.{ℕ, pos, Bool, ◌-◌, ◌^◌, ◌&&◌, ◌||◌, if◌then◌else◌, List, [], ◌∷◌, ◌++◌, Option, Some, None, is_some, is_none, unwrap_or, Result, Ok, Err}
use Rattle.composite_layout.specs.declared.spec.Part.{Part}
use Rattle.text_words.specs.Sizes.{end_of}
use Rattle.lfs_values.specs.Values.{stripe_size_of, stripe_count_of}
use Rattle.lfs_values.specs.declared.cause.Fault.{Fault}
use Rattle.lfs_values.specs.declared.cause.Fault.TheVariants as faults
use Rattle.lfs_values.specs.declared.keys.Key.{Key}
use Rattle.lfs_values.specs.declared.keys.Key.TheVariants as keys
use Rattle.lfs_words.specs.declared.parts.Draft.{Draft}

-- goes on with what was found
infixl 10 ◌>>=◌
abbrev pub ◌>>=◌ : {E A B : Type 0} → Result A E → (A → Result B E) → Result B E
(Ok x) >>= f = f x
(Err e) >>= f = Err e

-- a value that is there, or a bad number
abbrev pub number_or : {A : Type 0} → Option A → Result A Fault
number_or None = Err faults.BadNumber
number_or (Some x) = Ok x

-- nothing stands
abbrev pub no_parts : Draft
no_parts = record { done = []; end = None; size = None; count = None }

-- an option that stands at most once
abbrev pub once : Bool → Result (Unit {0}) Fault
once stood = if stood then Err faults.Repeated else Ok tt

-- whether an option may stand: -E not behind an -S or a -c of a part that has none, -S and -c once in each part
abbrev pub part_stands : Draft → Key → Result (Unit {0}) Fault
part_stands d keys.End = if is_none d.end && (is_some d.size || is_some d.count) then Err faults.Conflict else Ok tt
part_stands d keys.Size = once (is_some d.size)
part_stands d keys.Count = once (is_some d.count)
part_stands d _ = Err faults.UnknownWord

-- the last part, with what doesn't stand left open
abbrev pub ended_part : Draft → Part
ended_part d = record { end = unwrap_or d.end (2 ^ 64 - 1); size = unwrap_or d.size 0; count = unwrap_or d.count (pos 0) }

-- all parts, with the last one
abbrev pub parts_of : Draft → List Part
parts_of d = d.done ++ ended_part d ∷ []

-- the parts before a new one: the last one too, where it has an end
abbrev pub parts_before : Draft → List Part
parts_before d = if is_some d.end then parts_of d else d.done

-- the parts with one more option: -E begins a new part
abbrev pub part_value : Draft → Key → List ℕ → Result Draft Fault
part_value d keys.End word = number_or (end_of word) >>= λ end. Ok (record { done = parts_before d; end = Some end; size = None; count = None })
part_value d keys.Size word = number_or (stripe_size_of word) >>= λ size. Ok (record d { size = Some size })
part_value d keys.Count word = number_or (stripe_count_of word) >>= λ count. Ok (record d { count = Some count })
part_value d _ word = Err faults.UnknownWord
