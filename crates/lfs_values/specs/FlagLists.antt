-- Changes of flags as one word.
use Rattle.std.specs.Prelude.{◌≡◌, ℕ, ◌<◌, Bool, true, false, ◌||◌, List, [], ◌∷◌, ◌++◌, length, if◌then◌else◌, Option, Some, None, Result, Ok, Err, codes}
use Rattle.std.specs.List.{list_any, IsDistinct}
use Rattle.std.specs.Str.{bytes_eq}
use Rattle.composite_layout.specs.FlagChanges.{FlagSets}
use Rattle.text_words.specs.Lists.{list_text}
use Rattle.text_words.specs.Pieces.{parts_of}
use Rattle.lfs_values.specs.DistinctItems.{items_of, IsFirstItemFault}
use Rattle.lfs_values.specs.declared.cause.Fault.{Fault}
use Rattle.lfs_values.specs.declared.cause.Fault.TheVariants as faults
use Rattle.lfs_values.specs.declared.flags.FlagWord.{FlagWord}
use Rattle.lfs_values.specs.declared.flags.FlagWord.TheVariants.{SetPrefer, ClearPrefer, SetOffline, ClearOffline, SetNosync, ClearNosync, SetStale}

-- the word that sets or clears a flag
abbrev pub flag_text : FlagWord → List ℕ
flag_text SetPrefer = codes "prefer"
flag_text ClearPrefer = codes "^prefer"
flag_text SetOffline = codes "offline"
flag_text ClearOffline = codes "^offline"
flag_text SetNosync = codes "nosync"
flag_text ClearNosync = codes "^nosync"
flag_text SetStale = codes "stale"

-- what a word sets or clears
unfoldable pub flag_word_of : List ℕ → Option FlagWord
flag_word_of word =
    if bytes_eq word (codes "prefer") then Some SetPrefer else
    (if bytes_eq word (codes "^prefer") then Some ClearPrefer else
    (if bytes_eq word (codes "offline") then Some SetOffline else
    (if bytes_eq word (codes "^offline") then Some ClearOffline else
    (if bytes_eq word (codes "nosync") then Some SetNosync else
    (if bytes_eq word (codes "^nosync") then Some ClearNosync else
    (if bytes_eq word (codes "stale") then Some SetStale else None))))))

-- the name of the flag, whether it is set or cleared
abbrev pub name_of : FlagWord → List ℕ
name_of SetPrefer = codes "prefer"
name_of ClearPrefer = codes "prefer"
name_of SetOffline = codes "offline"
name_of ClearOffline = codes "offline"
name_of SetNosync = codes "nosync"
name_of ClearNosync = codes "nosync"
name_of SetStale = codes "stale"

-- both name the same flag
abbrev pub same_flag : FlagWord → FlagWord → Bool
same_flag a b = bytes_eq (name_of a) (name_of b)

-- this one is among them
abbrev pub has : FlagWord → List FlagWord → Bool
has word words = list_any (λ other. bytes_eq (flag_text word) (flag_text other)) words

-- the change that the words make: flags are set that stand plainly, and cleared that stand with ^
abbrev pub change_of : List FlagWord → FlagSets
change_of words =
    record {
      set = record { init = false; stale = has SetStale words; prefer = has SetPrefer words; offline = has SetOffline words; nosync = has SetNosync words };
      clear = record { init = false; stale = false; prefer = has ClearPrefer words; offline = has ClearOffline words; nosync = has ClearNosync words };
    }

-- the change is spelled by one or more flags joined by commas, of which no two name the same flag
pub record SpellsFlags (word : List ℕ) (change : FlagSets) : Type 0 where
  pub words : List FlagWord
  pub some : 0 < length words
  pub differ : IsDistinct same_flag words
  pub text : word ≡ list_text flag_text words
  pub change_is : change ≡ change_of words

-- the change that the words make, if they are flags
abbrev pub changed : Result (List FlagWord) Fault → Result FlagSets Fault
changed (Ok words) = Ok (change_of words)
changed (Err fault) = Err fault

-- the change that words spell, or what is wrong with the first that is no flag or names one that stood before
abbrev pub change_by : List (List ℕ) → Result FlagSets Fault
change_by words = changed (items_of same_flag faults.UnknownWord flag_word_of words)

-- the change that a word spells, or what is wrong with its first bad item
abbrev pub flags_of : List ℕ → Result FlagSets Fault
flags_of word = change_by (parts_of 44 word)

abbrev pub IsFlagsFault : List ℕ → Fault → Type 0
IsFlagsFault word fault = IsFirstItemFault same_flag faults.UnknownWord flag_word_of (parts_of 44 word) fault

-- the flag of this word is set or cleared
abbrev pub is_named : FlagSets → FlagWord → Bool
is_named c SetPrefer = c.set.prefer || c.clear.prefer
is_named c ClearPrefer = c.set.prefer || c.clear.prefer
is_named c SetOffline = c.set.offline || c.clear.offline
is_named c ClearOffline = c.set.offline || c.clear.offline
is_named c SetNosync = c.set.nosync || c.clear.nosync
is_named c ClearNosync = c.set.nosync || c.clear.nosync
is_named c SetStale = c.set.stale

-- the change, and what this word sets or clears
abbrev pub with_word : FlagSets → FlagWord → FlagSets
with_word c SetPrefer = record { set = record c.set { prefer = true }; clear = c.clear }
with_word c ClearPrefer = record { set = c.set; clear = record c.clear { prefer = true } }
with_word c SetOffline = record { set = record c.set { offline = true }; clear = c.clear }
with_word c ClearOffline = record { set = c.set; clear = record c.clear { offline = true } }
with_word c SetNosync = record { set = record c.set { nosync = true }; clear = c.clear }
with_word c ClearNosync = record { set = c.set; clear = record c.clear { nosync = true } }
with_word c SetStale = record { set = record c.set { stale = true }; clear = c.clear }

-- no flag is set or cleared
abbrev pub no_change : FlagSets
no_change = change_of []

abbrev pub only : Bool → FlagWord → List FlagWord
only wanted word = if wanted then word ∷ [] else []

-- the words of a change, in the order in which they are printed
abbrev pub words_of : FlagSets → List FlagWord
words_of c =
    only c.set.prefer SetPrefer ++ only c.clear.prefer ClearPrefer ++ only c.set.offline SetOffline ++ only c.clear.offline ClearOffline ++ only c.set.nosync SetNosync ++ only c.clear.nosync ClearNosync ++ only c.set.stale SetStale

-- a change as one word
abbrev pub flags_text : FlagSets → List ℕ
flags_text c = list_text flag_text (words_of c)
