-- What the words of a command mean together, and what may be wrong with the whole.
use Rattle.std.specs.Prelude.{ℕ, Bool, false, if◌then◌else◌, List, [], ◌∷◌, map, replicate, Option, Some, None, Result, Ok, Err}
use Rattle.std.specs.List.{flat_map}
use Rattle.std.specs.Str.{bytes_eq}
use Rattle.composite_layout.specs.declared.spec.MirrorSpec.{MirrorSpec}
use Rattle.composite_layout.specs.declared.spec.SpecError.{SpecError}
use Rattle.composite_layout.specs.declared.spec.SpecError.TheVariants as errors
use Rattle.composite_layout.specs.Specs.{refusal_of, normal_mirror}
use Rattle.lfs_values.specs.declared.cause.Cause.{Cause}
use Rattle.lfs_values.specs.declared.cause.Cause.TheVariants as causes
use Rattle.lfs_words.specs.declared.command.SplitTo.{SplitTo}
use Rattle.lfs_words.specs.declared.command.SplitTo.TheVariants as places
use Rattle.lfs_words.specs.declared.command.LfsCommand.{LfsCommand}
use Rattle.lfs_words.specs.declared.command.LfsCommand.TheVariants as commands
use Rattle.composite_layout.specs.FlagChanges.{FlagSets}
use Rattle.lfs_words.specs.declared.asked.MirrorAsk.{MirrorAsk}
use Rattle.lfs_words.specs.declared.asked.Asked.{Asked}
use Rattle.lfs_words.specs.declared.asked.Asked.TheVariants as asks
use Rattle.lfs_words.specs.declared.parts.Draft.{Draft}
use Rattle.lfs_words.specs.Parts.{◌>>=◌, parts_of}
use Rattle.lfs_words.specs.Options.{ended_mirrors}

-- a mirror of these parts
abbrev pub mirror_of : MirrorAsk → MirrorSpec
mirror_of ask = record { parts = ask.parts; prefer = ask.prefer }

-- the mirrors, each as often as its count says
abbrev pub expanded : List MirrorAsk → List MirrorSpec
expanded mirrors = flat_map (λ m. replicate m.count (mirror_of m)) mirrors

abbrev pub cause_of : SpecError → Cause
cause_of errors.NoMirror = causes.NoMirror
cause_of errors.TooManyMirrors = causes.TooManyMirrors
cause_of errors.TooManyParts = causes.TooManyParts
cause_of (errors.Unaligned at) = causes.Unaligned at
cause_of (errors.Gap at) = causes.Gap at
cause_of errors.NoMemory = causes.Memory

abbrev pub unless : {A : Type 0} → Option SpecError → A → Result A Cause
unless None x = Ok x
unless (Some refusal) x = Err (cause_of refusal)

-- the spec that is asked for, with what was left open put in
abbrev pub spec_of : ℕ → List MirrorAsk → Result (List MirrorSpec) Cause
spec_of most mirrors = unless (refusal_of (expanded mirrors) most) (map normal_mirror (expanded mirrors))

-- one mirror of these parts
abbrev pub alone : Draft → List MirrorAsk
alone d = record { count = 1; prefer = false; parts = parts_of d } ∷ []

-- another file than this one
abbrev pub other_file : List ℕ → List ℕ → Result (Unit {0}) Cause
other_file other name = if bytes_eq other name then Err causes.SameFile else Ok tt

-- a mirror is split off to another file
abbrev pub checked_to : SplitTo → List ℕ → Result (Unit {0}) Cause
checked_to (places.Named new) name = other_file new name
checked_to _ name = Ok tt

abbrev pub checked_split : Option ℕ → SplitTo → List ℕ → Result LfsCommand Cause
checked_split None to name = Err causes.Missing
checked_split (Some mirror) to name = checked_to to name >>= λ _. Ok (commands.Split name mirror to)

abbrev pub checked_delete : Option ℕ → List ℕ → Result LfsCommand Cause
checked_delete None name = Err causes.Missing
checked_delete (Some mirror) name = Ok (commands.Delete name mirror)

abbrev pub checked_change : Option ℕ → Option FlagSets → List ℕ → Result LfsCommand Cause
checked_change (Some id) (Some change) name = Ok (commands.CompSet name id change)
checked_change _ _ name = Err causes.Missing

abbrev pub checked_extend_by : Bool → List ℕ → List ℕ → Result LfsCommand Cause
checked_extend_by mirror victim name = other_file victim name >>= λ _. (if mirror then Ok (commands.ExtendBy name victim) else Err causes.NoMirror)

-- the command that is asked for, with this file
abbrev pub checked : ℕ → Asked → List ℕ → Result LfsCommand Cause
checked most asks.GetStripe name = Ok (commands.GetStripe name)
checked most asks.Verify name = Ok (commands.Verify name)
checked most (asks.SetStripe d) name = spec_of most (alone d) >>= λ spec. Ok (commands.SetStripe name spec)
checked most (asks.CompSet c) name = checked_change c.id c.change name
checked most (asks.Create ms) name = spec_of most (ended_mirrors ms) >>= λ spec. Ok (commands.Create name spec)
checked most (asks.Extend ms) name = spec_of most (ended_mirrors ms) >>= λ spec. Ok (commands.Extend name spec)
checked most (asks.ExtendBy mirror victim) name = checked_extend_by mirror victim name
checked most (asks.Split mirror to) name = checked_split mirror to name
checked most (asks.Delete mirror) name = checked_delete mirror name
checked most (asks.Resync only) name = Ok (commands.Resync name only)
