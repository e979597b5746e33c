-- Ids of mirrors as one word.
use Rattle.std.specs.Prelude.{ℕ, ◌<◌, ◌≤◌, nat_eq, List, length, Result}
use Rattle.std.specs.List.{AllByRecursion, IsDistinct}
use Rattle.std.specs.Fmt.{decimal}
use Rattle.text_words.specs.Numbers.{number_from}
use Rattle.text_words.specs.Lists.{list_text}
use Rattle.text_words.specs.Pieces.{parts_of}
use Rattle.lfs_values.specs.DistinctItems.{items_of, IsFirstItemFault}
use Rattle.lfs_values.specs.declared.cause.Fault.{Fault}
use Rattle.lfs_values.specs.declared.cause.Fault.TheVariants as faults

-- the id of a mirror
abbrev pub IsMirrorId : ℕ → Type 0
IsMirrorId id = (1 ≤ id) × (id ≤ 65535)

-- one or more ids, none of which stands twice
pub record AreMirrorIds (ids : List ℕ) : Type 0 where
  pub some : 0 < length ids
  pub each : AllByRecursion IsMirrorId ids
  pub differ : IsDistinct nat_eq ids

-- the ids joined by commas
abbrev pub ids_text : List ℕ → List ℕ
ids_text ids = list_text decimal ids

-- the ids that a word spells, or what is wrong with the first item that is no id or stood before
abbrev pub ids_of : List ℕ → Result (List ℕ) Fault
ids_of word = items_of nat_eq faults.BadNumber (number_from 1 65535) (parts_of 44 word)

abbrev pub IsIdsFault : List ℕ → Fault → Type 0
IsIdsFault word fault = IsFirstItemFault nat_eq faults.BadNumber (number_from 1 65535) (parts_of 44 word) fault
