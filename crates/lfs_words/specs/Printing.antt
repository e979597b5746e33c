-- The words that a command is printed as, and their text.
use Rattle.std.specs.Prelude.{ℕ, ℤ, Bool, if◌then◌else◌, List, [], ◌∷◌, ◌++◌, Option, Some, None, codes}
use Rattle.std.specs.Fmt.{decimal, signed_decimal}
use Rattle.std.specs.List.{flat_map}
use Rattle.text_words.specs.Sizes.{end_text}
use Rattle.text_words.specs.Words.{spaced}
use Rattle.lfs_values.specs.MirrorIds.{ids_text}
use Rattle.lfs_values.specs.FlagLists.{flags_text}
use Rattle.composite_layout.specs.FlagChanges.{FlagSets}
use Rattle.composite_layout.specs.declared.spec.Part.{Part}
use Rattle.composite_layout.specs.declared.spec.MirrorSpec.{MirrorSpec}
use Rattle.lfs_words.specs.declared.command.SplitTo.{SplitTo}
use Rattle.lfs_words.specs.declared.command.SplitTo.TheVariants as places
use Rattle.lfs_words.specs.declared.command.LfsCommand.{LfsCommand}
use Rattle.lfs_words.specs.declared.command.LfsCommand.TheVariants as commands

-- where a part ends, in bytes or -1
abbrev pub end_words : ℕ → List (List ℕ)
end_words end = codes "-E" ∷ end_text (codes "-1") end ∷ []

-- the bytes of a stripe unit
abbrev pub size_words : ℕ → List (List ℕ)
size_words size = codes "-S" ∷ decimal size ∷ []

-- the number of stripes, -1 for all targets
abbrev pub count_words : ℤ → List (List ℕ)
count_words count = codes "-c" ∷ signed_decimal count ∷ []

-- a part: -E END -S SIZE -c COUNT
abbrev pub part_words : Part → List (List ℕ)
part_words p = (end_words p.end ++ size_words p.size) ++ count_words p.count

abbrev pub prefer_words : Bool → List (List ℕ)
prefer_words prefer = if prefer then codes "--flags=prefer" ∷ [] else []

-- a mirror: -N, its flag where it has it, and its parts
abbrev pub mirror_words : MirrorSpec → List (List ℕ)
mirror_words m = (codes "-N" ∷ [] ++ prefer_words m.prefer) ++ flat_map part_words m.parts

-- the parts alone, mirror by mirror
abbrev pub parts_words : List MirrorSpec → List (List ℕ)
parts_words ms = flat_map (λ m. flat_map part_words m.parts) ms

-- where a mirror goes that is split off
abbrev pub to_words : SplitTo → List (List ℕ)
to_words places.Default = []
to_words (places.Named name) = codes "-f" ∷ name ∷ []
to_words places.Destroy = codes "-d" ∷ []

-- the mirrors that a resync is for
abbrev pub only_words : Option (List ℕ) → List (List ℕ)
only_words None = []
only_words (Some ids) = codes "--only" ∷ ids_text ids ∷ []

-- the flags that are set and cleared, in the order prefer, offline, nosync, stale
abbrev pub comp_flags_word : FlagSets → List ℕ
comp_flags_word change = codes "--comp-flags=" ++ flags_text change

-- the table of the printed forms, behind `lfs`
abbrev pub words_after_lfs : LfsCommand → List (List ℕ)
words_after_lfs (commands.SetStripe name spec) = (codes "setstripe" ∷ [] ++ parts_words spec) ++ name ∷ []
words_after_lfs (commands.GetStripe name) = codes "getstripe" ∷ name ∷ []
words_after_lfs (commands.CompSet name id change) = codes "setstripe" ∷ codes "--comp-set" ∷ codes "-I" ∷ decimal id ∷ comp_flags_word change ∷ name ∷ []
words_after_lfs (commands.Create name spec) = (codes "mirror" ∷ codes "create" ∷ [] ++ flat_map mirror_words spec) ++ name ∷ []
words_after_lfs (commands.Extend name spec) = (codes "mirror" ∷ codes "extend" ∷ [] ++ flat_map mirror_words spec) ++ name ∷ []
words_after_lfs (commands.ExtendBy name victim) = codes "mirror" ∷ codes "extend" ∷ codes "-N" ∷ codes "-f" ∷ victim ∷ name ∷ []
words_after_lfs (commands.Split name mirror to) = (codes "mirror" ∷ codes "split" ∷ codes "--mirror-id" ∷ decimal mirror ∷ [] ++ to_words to) ++ name ∷ []
words_after_lfs (commands.Delete name mirror) = codes "mirror" ∷ codes "delete" ∷ codes "--mirror-id" ∷ decimal mirror ∷ name ∷ []
words_after_lfs (commands.Resync name only) = (codes "mirror" ∷ codes "resync" ∷ [] ++ only_words only) ++ name ∷ []
words_after_lfs (commands.Verify name) = codes "mirror" ∷ codes "verify" ∷ name ∷ []

abbrev pub words_of_command : LfsCommand → List (List ℕ)
words_of_command command = codes "lfs" ∷ words_after_lfs command

-- each word behind a space
abbrev pub after_spaces : List (List ℕ) → List ℕ
after_spaces words = flat_map (λ word. 32 ∷ word) words

-- the printed text of a command
abbrev pub text_of_command : LfsCommand → List ℕ
text_of_command command = spaced (words_of_command command)
