-- The grammar: a command as it stands, its words, and what it asks for.
use Rattle.std.specs.Prelude.{◌≡◌, ℕ, List, [], ◌∷◌, ◌++◌, true, None, Result, Ok, Err, codes, length}
use Rattle.std.specs.List.{flat_map}
use Rattle.text_words.specs.Names.{is_name}
use Rattle.flr_base.specs.Faults.{IsFirstFault}
use Rattle.lfs_values.specs.declared.cause.Cause.{Cause}
use Rattle.lfs_values.specs.declared.cause.Cause.TheVariants as causes
use Rattle.lfs_values.specs.declared.cause.Fault.{Fault}
use Rattle.lfs_values.specs.declared.keys.Key.{Key}
use Rattle.lfs_values.specs.declared.keys.Key.TheVariants as keys
use Rattle.lfs_words.specs.declared.command.SplitTo.TheVariants as places
use Rattle.lfs_words.specs.declared.command.LfsCommand.{LfsCommand}
use Rattle.lfs_words.specs.declared.asked.Asked.{Asked}
use Rattle.lfs_words.specs.declared.asked.Asked.TheVariants as asks
use Rattle.lfs_words.specs.Parts.{◌>>=◌, no_parts}
use Rattle.lfs_words.specs.Options.{may_stand, take, is_complete, no_mirrors}
use Rattle.lfs_words.specs.Checking.{checked}
use Rattle.lfs_words.specs.Reading.{place_at}

-- the forms of commands, by their first words
pub data Form : Type 0 where
  SetStripe : Form
  GetStripe : Form
  Create : Form
  Extend : Form
  Split : Form
  Delete : Form
  Resync : Form
  Verify : Form

-- the words with which a form begins
abbrev pub form_words : Form → List (List ℕ)
form_words SetStripe = codes "lfs" ∷ codes "setstripe" ∷ []
form_words GetStripe = codes "lfs" ∷ codes "getstripe" ∷ []
form_words Create = codes "lfs" ∷ codes "mirror" ∷ codes "create" ∷ []
form_words Extend = codes "lfs" ∷ codes "mirror" ∷ codes "extend" ∷ []
form_words Split = codes "lfs" ∷ codes "mirror" ∷ codes "split" ∷ []
form_words Delete = codes "lfs" ∷ codes "mirror" ∷ codes "delete" ∷ []
form_words Resync = codes "lfs" ∷ codes "mirror" ∷ codes "resync" ∷ []
form_words Verify = codes "lfs" ∷ codes "mirror" ∷ codes "verify" ∷ []

-- what a form asks for where no option stands
abbrev pub bare : Form → Asked
bare SetStripe = asks.SetStripe no_parts
bare GetStripe = asks.GetStripe
bare Create = asks.Create no_mirrors
bare Extend = asks.Extend no_mirrors
bare Split = asks.Split None places.Default
bare Delete = asks.Delete None
bare Resync = asks.Resync None
bare Verify = asks.Verify

-- an option as it stands: which one, and its value
pub record Item : Type 0 where
  pub key : Key
  pub value : List ℕ

-- the words of each option: its value is the next word, or ends its own, or there is none
abbrev pub option_words : Key → List ℕ → List (List ℕ)
option_words keys.End value = codes "-E" ∷ value ∷ []
option_words keys.Size value = codes "-S" ∷ value ∷ []
option_words keys.Count value = codes "-c" ∷ value ∷ []
option_words keys.Mirror value = codes "-N" ∷ []
option_words keys.Mirrors value = (codes "-N" ++ value) ∷ []
option_words keys.Prefer value = codes "--flags=prefer" ∷ []
option_words keys.File value = codes "-f" ∷ value ∷ []
option_words keys.Destroy value = codes "-d" ∷ []
option_words keys.Id value = codes "-I" ∷ value ∷ []
option_words keys.CompSet value = codes "--comp-set" ∷ []
option_words keys.CompFlags value = (codes "--comp-flags=" ++ value) ∷ []
option_words keys.MirrorId value = codes "--mirror-id" ∷ value ∷ []
option_words keys.MirrorIdIs value = (codes "--mirror-id=" ++ value) ∷ []
option_words keys.Only value = codes "--only" ∷ value ∷ []
option_words keys.OnlyIs value = (codes "--only=" ++ value) ∷ []
option_words keys.Dash value = []
option_words keys.Plain value = []

abbrev pub item_words : Item → List (List ℕ)
item_words i = option_words i.key i.value

-- what is asked for with one more option, where it may stand behind those before it
abbrev pub with_item : ℕ → Asked → Item → Result Asked Fault
with_item most a i = may_stand a i.key >>= λ _. take most a i.key i.value

-- what the options ask for, one behind the other
abbrev pub with_items : ℕ → Asked → List Item → Result Asked Fault
with_items most a [] = Ok a
with_items most a (i ∷ items) = with_item most a i >>= λ next. with_items most next items

-- options and a file, behind what asks for this: they ask for that in all
pub record IsRest (most : ℕ) (before after : Asked) (name : List ℕ) (words : List (List ℕ)) : Type 0 where
  pub options : List Item
  pub asked : with_items most before options ≡ Ok after
  pub complete : is_complete after ≡ true
  pub named : is_name name ≡ true
  pub stand : words ≡ flat_map item_words options ++ name ∷ []

-- a command as it stands: the words of its form, options in the order that they have, and the file
pub record IsAsked (most : ℕ) (words : List (List ℕ)) (asked : Asked) (name : List ℕ) : Type 0 where
  pub form : Form
  pub rest : List (List ℕ)
  pub behind : IsRest most (bare form) asked name rest
  pub stand : words ≡ form_words form ++ rest

-- the words have the form of a command
abbrev pub IsLine : ℕ → List (List ℕ) → Type 0
IsLine most words = (asked : Asked) × (name : List ℕ) × IsAsked most words asked name

-- the words spell the command
abbrev pub Spells : ℕ → List (List ℕ) → LfsCommand → Type 0
Spells most words command = (asked : Asked) × (name : List ℕ) × IsAsked most words asked name × (checked most asked name ≡ Ok command)

-- the word at this place is the first with which the words begin no line
abbrev pub IsFaultAt : ℕ → List (List ℕ) → ℕ → Type 0
IsFaultAt most words place = (at : ℕ) × (place ≡ place_at at) × IsFirstFault (IsLine most) words at

-- the words have the form of a command, and this is wrong with the whole
abbrev pub IsRefused : ℕ → List (List ℕ) → Cause → Type 0
IsRefused most words cause = (asked : Asked) × (name : List ℕ) × IsAsked most words asked name × (checked most asked name ≡ Err cause)

-- a word stands behind those of a form: before that no memory is taken
abbrev pub IsBehindForm : List (List ℕ) → Type 0
IsBehindForm words = (form : Form) × (word : List ℕ) × (more : List (List ℕ)) × (words ≡ form_words form ++ word ∷ more)

abbrev pub IsCause : ℕ → List (List ℕ) → Cause → Type 0
IsCause most words (causes.UnknownWord place) = IsFaultAt most words place
IsCause most words causes.Missing = IsFirstFault (IsLine most) words (length words)
IsCause most words (causes.Extra place) = IsFaultAt most words place
IsCause most words (causes.BadNumber place) = IsFaultAt most words place
IsCause most words (causes.BadName place) = IsFaultAt most words place
IsCause most words (causes.Repeated place) = IsFaultAt most words place
IsCause most words (causes.Conflict place) = IsFaultAt most words place
IsCause most words causes.SameFile = IsRefused most words causes.SameFile
IsCause most words causes.NoMirror = IsRefused most words causes.NoMirror
IsCause most words causes.TooManyMirrors = IsRefused most words causes.TooManyMirrors
IsCause most words causes.TooManyParts = IsRefused most words causes.TooManyParts
IsCause most words (causes.Unaligned at) = IsRefused most words (causes.Unaligned at)
IsCause most words (causes.Gap at) = IsRefused most words (causes.Gap at)
IsCause most words causes.NoNewline = ⊥
IsCause most words causes.NotText = ⊥
IsCause most words causes.Misplaced = ⊥
IsCause most words (causes.BadBytes place) = ⊥
IsCause most words causes.Memory = IsBehindForm words
