-- What is known of all that options ask for: each value is within its range.
use Rattle.std.specs.Prelude.{◌<◌, length, Option, Some, None}
use Rattle.std.specs.List.{AllByRecursion}
use Rattle.composite_layout.specs.Specs.{IsAskedPart}
use Rattle.lfs_words.specs.declared.parts.Draft.{Draft}
use Rattle.lfs_words.specs.declared.asked.MirrorAsk.{MirrorAsk}
use Rattle.lfs_words.specs.declared.asked.OpenMirror.{OpenMirror}
use Rattle.lfs_words.specs.declared.asked.Mirrors.{Mirrors}
use Rattle.lfs_words.specs.declared.asked.Asked.{Asked}
use Rattle.lfs_words.specs.declared.asked.Asked.TheVariants as asks
use Rattle.lfs_words.specs.declared.step.State.{State}
use Rattle.lfs_words.specs.declared.step.State.TheVariants as state
use Rattle.lfs_words.specs.Parts.{ended_part}

-- the parts that are ended, and the last one, have sizes and counts that may be asked for
pub record IsGoodDraft (d : Draft) : Type 0 where
  pub done : AllByRecursion IsAskedPart d.done
  pub last : IsAskedPart (ended_part d)

-- the same of a mirror that is ended, which has a part
abbrev pub IsGoodAsk : MirrorAsk → Type 0
IsGoodAsk m = (0 < length m.parts) × AllByRecursion IsAskedPart m.parts

abbrev pub IsGoodLast : Option OpenMirror → Type 0
IsGoodLast None = Unit {0}
IsGoodLast (Some m) = IsGoodDraft m.parts

pub record AreGood (ms : Mirrors) : Type 0 where
  pub done : AllByRecursion IsGoodAsk ms.done
  pub last : IsGoodLast ms.last

abbrev pub IsGood : Asked → Type 0
IsGood (asks.SetStripe d) = IsGoodDraft d
IsGood (asks.Create ms) = AreGood ms
IsGood (asks.Extend ms) = AreGood ms
IsGood _ = Unit {0}

abbrev pub IsGoodState : State → Type 0
IsGoodState (state.Done a name) = IsGood a
IsGoodState _ = Unit {0}
