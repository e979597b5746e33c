-- The printed text of a command comes apart into the words that it is printed as.
use Rattle.std.proofs.Common.{◌≡◌, ℕ, Bool, true, false, List, [], ◌∷◌, Option, Some, None, refl}
use Rattle.std.specs.Prelude.{codes, IfOk}
use Rattle.std.specs.List.{flat_map}
use Rattle.std.specs.Fmt.{decimal}
use Rattle.composite_layout.specs.FlagChanges.{FlagSets}
use Rattle.composite_layout.specs.declared.spec.Part.{Part}
use Rattle.composite_layout.specs.declared.spec.MirrorSpec.{MirrorSpec}
use Rattle.text_words.specs.Names.{is_name}
use Rattle.text_words.specs.Pieces.{words_of}
use Rattle.text_words.specs.Words.{IsWord, AreWords}
use Rattle.text_words.proofs.WordTexts.{word_graphic, word_append, words_append, decimal_word, signed_word, end_word, name_word, list_word, words_of-spaced}
use Rattle.lfs_values.specs.FlagLists.{flags_text}
use Rattle.lfs_values.proofs.FlagLaws.{flags_word}
use Rattle.lfs_words.specs.declared.command.SplitTo.{SplitTo}
use Rattle.lfs_words.specs.declared.command.SplitTo.TheVariants as places
use Rattle.lfs_words.specs.declared.command.LfsCommand.{LfsCommand}
use Rattle.lfs_words.specs.declared.command.LfsCommand.TheVariants as commands
use Rattle.lfs_words.specs.declared.asked.Asked.{Asked}
use Rattle.lfs_words.specs.declared.asked.Asked.TheVariants as asks
use Rattle.lfs_words.specs.Options.{ended_mirrors}
use Rattle.lfs_words.specs.Checking.{alone, spec_of, other_file, checked_to, checked_split, checked_delete, checked_change, checked_extend_by, checked}
use Rattle.lfs_words.specs.Printing.{part_words, prefer_words, mirror_words, parts_words, to_words, only_words, comp_flags_word, words_of_command, text_of_command}
use Rattle.lfs_words.specs.Grammar.{bare, Spells}
use Rattle.lfs_words.proofs.Binding.{if_any, if_bound, if_ok_at}
use Rattle.lfs_words.proofs.Saying.{Said, SaidTo, said_items, said_bare}

-- ---- the names in a command

abbrev pub IsName : List ℕ → Type 0
IsName name = is_name name ≡ true

-- where a name stands, there is one
abbrev pub AreNamed : LfsCommand → Type 0
AreNamed (commands.SetStripe name spec) = IsName name
AreNamed (commands.GetStripe name) = IsName name
AreNamed (commands.CompSet name id change) = IsName name
AreNamed (commands.Create name spec) = IsName name
AreNamed (commands.Extend name spec) = IsName name
AreNamed (commands.ExtendBy name victim) = IsName name × IsName victim
AreNamed (commands.Split name mirror to) = IsName name × SaidTo to
AreNamed (commands.Delete name mirror) = IsName name
AreNamed (commands.Resync name only) = IsName name
AreNamed (commands.Verify name) = IsName name

change_named : (id : Option ℕ) (change : Option FlagSets) (name : List ℕ) → IsName name → IfOk (checked_change id change name) AreNamed
change_named None change name named = tt
change_named (Some id) None name named = tt
change_named (Some id) (Some change) name named = named

extend_by_named : (mirror : Bool) (victim name : List ℕ) → IsName victim → IsName name → IfOk (checked_extend_by mirror victim name) AreNamed
extend_by_named true victim name h named = if_any (other_file victim name) (λ _. commands.ExtendBy name victim) AreNamed (λ _. (named, h))
extend_by_named false victim name h named = if_bound (other_file victim name) _ AreNamed (λ _ _. tt)

split_named : (mirror : Option ℕ) (to : SplitTo) (name : List ℕ) → SaidTo to → IsName name → IfOk (checked_split mirror to name) AreNamed
split_named None to name h named = tt
split_named (Some id) to name h named = if_any (checked_to to name) (λ _. commands.Split name id to) AreNamed (λ _. (named, h))

delete_named : (mirror : Option ℕ) (name : List ℕ) → IsName name → IfOk (checked_delete mirror name) AreNamed
delete_named None name named = tt
delete_named (Some id) name named = named

checked_named : (most : ℕ) (a : Asked) (name : List ℕ) → Said a → IsName name → IfOk (checked most a name) AreNamed
checked_named most asks.GetStripe name said named = named
checked_named most asks.Verify name said named = named
checked_named most (asks.SetStripe d) name said named = if_any (spec_of most (alone d)) (λ spec. commands.SetStripe name spec) AreNamed (λ _. named)
checked_named most (asks.CompSet c) name said named = change_named c.id c.change name named
checked_named most (asks.Create ms) name said named = if_any (spec_of most (ended_mirrors ms)) (λ spec. commands.Create name spec) AreNamed (λ _. named)
checked_named most (asks.Extend ms) name said named = if_any (spec_of most (ended_mirrors ms)) (λ spec. commands.Extend name spec) AreNamed (λ _. named)
checked_named most (asks.ExtendBy mirror victim) name said named = extend_by_named mirror victim name said named
checked_named most (asks.Split mirror to) name said named = split_named mirror to name said.1 named
checked_named most (asks.Delete mirror) name said named = delete_named mirror name named
checked_named most (asks.Resync only) name said named = named

pub spelled_named : (most : ℕ) (words : List (List ℕ)) (command : LfsCommand) → Spells most words command → AreNamed command
spelled_named most words command (a, name, asked, right) =
    let said = said_items most (bare asked.form) a asked.behind.options asked.behind.asked (said_bare asked.form) in
    if_ok_at (checked most a name) AreNamed command (checked_named most a name said asked.behind.named) right

-- ---- the words of a command

flat_words : {A : Type 0} (f : A → List (List ℕ)) → ((x : A) → AreWords (f x)) → (xs : List A) → AreWords (flat_map f xs)
flat_words f h [] = tt
flat_words f h (x ∷ xs) = words_append (f x) (flat_map f xs) (h x) (flat_words f h xs)

part_is_words : (p : Part) → AreWords (part_words p)
part_is_words p = (refl, (end_word (codes "-1") p.end refl, (refl, (decimal_word p.size, (refl, (signed_word p.count, tt))))))

prefer_is_words : (prefer : Bool) → AreWords (prefer_words prefer)
prefer_is_words true = (refl, tt)
prefer_is_words false = tt

mirror_is_words : (m : MirrorSpec) → AreWords (mirror_words m)
mirror_is_words m = words_append (codes "-N" ∷ prefer_words m.prefer) (flat_map part_words m.parts) (refl, prefer_is_words m.prefer) (flat_words part_words part_is_words m.parts)

to_is_words : (to : SplitTo) → SaidTo to → AreWords (to_words to)
to_is_words places.Default h = tt
to_is_words (places.Named name) h = (refl, (name_word name h, tt))
to_is_words places.Destroy h = (refl, tt)

only_is_words : (only : Option (List ℕ)) → AreWords (only_words only)
only_is_words None = tt
only_is_words (Some ids) = (refl, (list_word decimal ids decimal_word, tt))

comp_flags_is_word : (change : FlagSets) → IsWord (comp_flags_word change)
comp_flags_is_word change = word_append (codes "--comp-flags=") (flags_text change) refl (word_graphic (flags_text change) (flags_word change))

one_name : (name : List ℕ) → IsName name → AreWords (name ∷ [])
one_name name h = (name_word name h, tt)

pub all_words : (command : LfsCommand) → AreNamed command → AreWords (words_of_command command)
all_words (commands.SetStripe name spec) h = (refl, (refl, words_append (parts_words spec) (name ∷ []) (flat_words (λ m. flat_map part_words m.parts) (λ m. flat_words part_words part_is_words m.parts) spec) (one_name name h)))
all_words (commands.GetStripe name) h = (refl, (refl, one_name name h))
all_words (commands.CompSet name id change) h = (refl, (refl, (refl, (refl, (decimal_word id, (comp_flags_is_word change, one_name name h))))))
all_words (commands.Create name spec) h = (refl, (refl, (refl, words_append (flat_map mirror_words spec) (name ∷ []) (flat_words mirror_words mirror_is_words spec) (one_name name h))))
all_words (commands.Extend name spec) h = (refl, (refl, (refl, words_append (flat_map mirror_words spec) (name ∷ []) (flat_words mirror_words mirror_is_words spec) (one_name name h))))
all_words (commands.ExtendBy name victim) h = (refl, (refl, (refl, (refl, (refl, (name_word victim h.1, one_name name h.0))))))
all_words (commands.Split name mirror to) h = (refl, (refl, (refl, (refl, (decimal_word mirror, words_append (to_words to) (name ∷ []) (to_is_words to h.1) (one_name name h.0))))))
all_words (commands.Delete name mirror) h = (refl, (refl, (refl, (refl, (decimal_word mirror, one_name name h)))))
all_words (commands.Resync name only) h = (refl, (refl, (refl, words_append (only_words only) (name ∷ []) (only_is_words only) (one_name name h))))
all_words (commands.Verify name) h = (refl, (refl, (refl, one_name name h)))

-- the printed text comes apart into the words
pub printed_apart : (most : ℕ) (words : List (List ℕ)) (command : LfsCommand) → Spells most words command → words_of (text_of_command command) ≡ words_of_command command
printed_apart most words command spells = words_of-spaced (words_of_command command) (all_words command (spelled_named most words command spells))
