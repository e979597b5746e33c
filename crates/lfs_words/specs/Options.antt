-- The options of a command: which may stand behind those that stand, and what each adds to what is asked for.
use Rattle.std.specs.Prelude.{ℕ, ◌^◌, ◌-◌, Bool, true, false, not, ◌&&◌, ◌==◌, if◌then◌else◌, List, [], ◌∷◌, ◌++◌, Option, Some, None, is_some, is_none, unwrap_or, Result, Ok, Err}
use Rattle.text_words.specs.Numbers.{number_from}
use Rattle.text_words.specs.Names.{is_name}
use Rattle.lfs_values.specs.MirrorIds.{ids_of}
use Rattle.lfs_values.specs.FlagLists.{flags_of}
use Rattle.lfs_values.specs.declared.cause.Fault.{Fault}
use Rattle.lfs_values.specs.declared.cause.Fault.TheVariants as faults
use Rattle.lfs_values.specs.declared.keys.Key.{Key}
use Rattle.lfs_values.specs.declared.keys.Key.TheVariants as keys
use Rattle.lfs_words.specs.declared.command.SplitTo.{SplitTo}
use Rattle.lfs_words.specs.declared.command.SplitTo.TheVariants as places
use Rattle.lfs_words.specs.declared.parts.Draft.{Draft}
use Rattle.lfs_words.specs.declared.asked.MirrorAsk.{MirrorAsk}
use Rattle.lfs_words.specs.declared.asked.OpenMirror.{OpenMirror}
use Rattle.lfs_words.specs.declared.asked.Mirrors.{Mirrors}
use Rattle.lfs_words.specs.declared.asked.Changed.{Changed}
use Rattle.lfs_words.specs.declared.asked.Asked.{Asked}
use Rattle.lfs_words.specs.declared.asked.Asked.TheVariants as asks
use Rattle.lfs_words.specs.Parts.{◌>>=◌, number_or, no_parts, once, part_stands, part_value, parts_of}

-- ---- which option may stand

-- no option of a part has stood
abbrev pub is_fresh : Draft → Bool
is_fresh d = is_none d.end && (is_none d.size && is_none d.count)

-- setstripe: the options of a part, or in their place those of a change of flags
abbrev pub may_set : Draft → Key → Result (Unit {0}) Fault
may_set d keys.CompSet = if is_fresh d then Ok tt else Err faults.UnknownWord
may_set d keys.Id = if is_fresh d then Ok tt else Err faults.UnknownWord
may_set d keys.CompFlags = if is_fresh d then Ok tt else Err faults.UnknownWord
may_set d k = part_stands d k

-- setstripe --comp-set: each of the three once
abbrev pub may_change : Changed → Key → Result (Unit {0}) Fault
may_change c keys.CompSet = once c.named
may_change c keys.Id = once (is_some c.id)
may_change c keys.CompFlags = once (is_some c.change)
may_change c _ = Err faults.UnknownWord

-- in a mirror: --flags=prefer right behind -N, and the options of its parts
abbrev pub may_open : OpenMirror → Key → Result (Unit {0}) Fault
may_open m keys.Prefer = if m.prefer then Err faults.Repeated else (if is_fresh m.parts then Ok tt else Err faults.UnknownWord)
may_open m k = part_stands m.parts k

abbrev pub may_last : Option OpenMirror → Key → Result (Unit {0}) Fault
may_last None k = Err faults.UnknownWord
may_last (Some m) k = may_open m k

-- create: another mirror, or the options of the last one
abbrev pub may_mirrors : Mirrors → Key → Result (Unit {0}) Fault
may_mirrors ms keys.Mirror = Ok tt
may_mirrors ms keys.Mirrors = Ok tt
may_mirrors ms k = may_last ms.last k

abbrev pub is_empty : List MirrorAsk → Bool
is_empty [] = true
is_empty (m ∷ ms) = false

abbrev pub is_bare_mirror : Option OpenMirror → Bool
is_bare_mirror None = true
is_bare_mirror (Some m) = is_none m.count && (not m.prefer && is_fresh m.parts)

-- nothing stands but at most a plain -N
abbrev pub is_bare : Mirrors → Bool
is_bare ms = is_empty ms.done && is_bare_mirror ms.last

-- extend: the same, or -f where nothing else but -N stands
abbrev pub may_extend : Mirrors → Key → Result (Unit {0}) Fault
may_extend ms keys.File = if is_bare ms then Ok tt else Err faults.Conflict
may_extend ms k = may_mirrors ms k

-- extend -f: nothing else but one plain -N
abbrev pub may_extend_by : Bool → Key → Result (Unit {0}) Fault
may_extend_by mirror keys.File = Err faults.Repeated
may_extend_by mirror keys.Mirror = if mirror then Err faults.Conflict else Ok tt
may_extend_by mirror keys.Mirrors = Err faults.Conflict
may_extend_by mirror keys.Prefer = Err faults.Conflict
may_extend_by mirror keys.End = Err faults.Conflict
may_extend_by mirror keys.Size = Err faults.Conflict
may_extend_by mirror keys.Count = Err faults.Conflict
may_extend_by mirror _ = Err faults.UnknownWord

-- -d once and not beside -f
abbrev pub may_destroy : SplitTo → Result (Unit {0}) Fault
may_destroy places.Default = Ok tt
may_destroy (places.Named name) = Err faults.Conflict
may_destroy places.Destroy = Err faults.Repeated

-- -f once and not beside -d
abbrev pub may_name : SplitTo → Result (Unit {0}) Fault
may_name places.Default = Ok tt
may_name (places.Named name) = Err faults.Repeated
may_name places.Destroy = Err faults.Conflict

-- split: the mirror's id, -d or -f, each once
abbrev pub may_split : Option ℕ → SplitTo → Key → Result (Unit {0}) Fault
may_split mirror to keys.MirrorId = once (is_some mirror)
may_split mirror to keys.MirrorIdIs = once (is_some mirror)
may_split mirror to keys.Destroy = may_destroy to
may_split mirror to keys.File = may_name to
may_split mirror to _ = Err faults.UnknownWord

-- delete: the mirror's id once
abbrev pub may_delete : Option ℕ → Key → Result (Unit {0}) Fault
may_delete mirror keys.MirrorId = once (is_some mirror)
may_delete mirror keys.MirrorIdIs = once (is_some mirror)
may_delete mirror _ = Err faults.UnknownWord

-- resync: the mirrors once
abbrev pub may_resync : Bool → Key → Result (Unit {0}) Fault
may_resync stood keys.Only = once stood
may_resync stood keys.OnlyIs = once stood
may_resync stood _ = Err faults.UnknownWord

-- whether the option may stand behind those that stand
abbrev pub may_stand : Asked → Key → Result (Unit {0}) Fault
may_stand asks.GetStripe k = Err faults.UnknownWord
may_stand asks.Verify k = Err faults.UnknownWord
may_stand (asks.SetStripe d) k = may_set d k
may_stand (asks.CompSet c) k = may_change c k
may_stand (asks.Create ms) k = may_mirrors ms k
may_stand (asks.Extend ms) k = may_extend ms k
may_stand (asks.ExtendBy mirror victim) k = may_extend_by mirror k
may_stand (asks.Split mirror to) k = may_split mirror to k
may_stand (asks.Delete mirror) k = may_delete mirror k
may_stand (asks.Resync only) k = may_resync (is_some only) k

-- ---- what an option adds

-- the name that a word is
abbrev pub name_of : List ℕ → Result (List ℕ) Fault
name_of word = if is_name word then Ok word else Err faults.BadName

-- the id of a mirror that a word is
abbrev pub id_of : List ℕ → Result ℕ Fault
id_of word = number_or (number_from 1 65535 word)

abbrev pub take_change : Changed → Key → List ℕ → Result Asked Fault
take_change c keys.CompSet word = Ok (asks.CompSet (record c { named = true }))
take_change c keys.Id word = number_or (number_from 1 (2 ^ 32 - 1) word) >>= λ id. Ok (asks.CompSet (record c { id = Some id }))
take_change c keys.CompFlags word = flags_of word >>= λ change. Ok (asks.CompSet (record c { change = Some change }))
take_change c _ word = Err faults.UnknownWord

-- no option of a change of flags stands
abbrev pub no_change : Changed
no_change = record { named = false; id = None; change = None }

abbrev pub take_set : Draft → Key → List ℕ → Result Asked Fault
take_set d keys.CompSet word = take_change no_change keys.CompSet word
take_set d keys.Id word = take_change no_change keys.Id word
take_set d keys.CompFlags word = take_change no_change keys.CompFlags word
take_set d k word = part_value d k word >>= λ next. Ok (asks.SetStripe next)

-- the mirror with nothing left open: -N alone stands for one
abbrev pub ended_mirror : OpenMirror → MirrorAsk
ended_mirror m = record { count = unwrap_or m.count 1; prefer = m.prefer; parts = parts_of m.parts }

abbrev pub with_last : List MirrorAsk → Option OpenMirror → List MirrorAsk
with_last done None = done
with_last done (Some m) = done ++ ended_mirror m ∷ []

-- all mirrors, the last one ended
abbrev pub ended_mirrors : Mirrors → List MirrorAsk
ended_mirrors ms = with_last ms.done ms.last

-- the mirrors and a new one
abbrev pub next_mirror : Mirrors → Option ℕ → Mirrors
next_mirror ms count = record { done = ended_mirrors ms; last = Some (record { count = count; prefer = false; parts = no_parts }) }

abbrev pub no_mirrors : Mirrors
no_mirrors = record { done = []; last = None }

abbrev pub take_open : OpenMirror → Key → List ℕ → Result OpenMirror Fault
take_open m keys.Prefer word = Ok (record m { prefer = true })
take_open m k word = part_value m.parts k word >>= λ parts. Ok (record m { parts = parts })

abbrev pub take_last_of : List MirrorAsk → Option OpenMirror → Key → List ℕ → Result Mirrors Fault
take_last_of done None k word = Err faults.UnknownWord
take_last_of done (Some m) k word = take_open m k word >>= λ next. Ok (record { done = done; last = Some next })

abbrev pub take_last : Mirrors → Key → List ℕ → Result Mirrors Fault
take_last ms k word = take_last_of ms.done ms.last k word

abbrev pub take_mirrors : ℕ → Mirrors → Key → List ℕ → Result Mirrors Fault
take_mirrors most ms keys.Mirror word = Ok (next_mirror ms None)
take_mirrors most ms keys.Mirrors word = number_or (number_from 1 most word) >>= λ count. Ok (next_mirror ms (Some count))
take_mirrors most ms k word = take_last ms k word

abbrev pub take_extend : ℕ → Mirrors → Key → List ℕ → Result Asked Fault
take_extend most ms keys.File word = name_of word >>= λ victim. Ok (asks.ExtendBy (is_some ms.last) victim)
take_extend most ms k word = take_mirrors most ms k word >>= λ next. Ok (asks.Extend next)

abbrev pub take_split : Option ℕ → SplitTo → Key → List ℕ → Result Asked Fault
take_split mirror to keys.MirrorId word = id_of word >>= λ id. Ok (asks.Split (Some id) to)
take_split mirror to keys.MirrorIdIs word = id_of word >>= λ id. Ok (asks.Split (Some id) to)
take_split mirror to keys.Destroy word = Ok (asks.Split mirror places.Destroy)
take_split mirror to keys.File word = name_of word >>= λ name. Ok (asks.Split mirror (places.Named name))
take_split mirror to _ word = Err faults.UnknownWord

abbrev pub take_value : ℕ → Asked → Key → List ℕ → Result Asked Fault
take_value most asks.GetStripe k word = Err faults.UnknownWord
take_value most asks.Verify k word = Err faults.UnknownWord
take_value most (asks.SetStripe d) k word = take_set d k word
take_value most (asks.CompSet c) k word = take_change c k word
take_value most (asks.Create ms) k word = take_mirrors most ms k word >>= λ next. Ok (asks.Create next)
take_value most (asks.Extend ms) k word = take_extend most ms k word
take_value most (asks.ExtendBy mirror victim) k word = Ok (asks.ExtendBy true victim)
take_value most (asks.Split mirror to) k word = take_split mirror to k word
take_value most (asks.Delete mirror) k word = id_of word >>= λ id. Ok (asks.Delete (Some id))
take_value most (asks.Resync only) k word = ids_of word >>= λ ids. Ok (asks.Resync (Some ids))

-- whether a word that begins with a dash is no value of the option, but another option
abbrev pub bars_dash : Key → Bool
bars_dash keys.Size = true
bars_dash keys.Id = true
bars_dash keys.File = true
bars_dash keys.MirrorId = true
bars_dash keys.Only = true
bars_dash _ = false

abbrev pub begins_with_dash : List ℕ → Bool
begins_with_dash [] = false
begins_with_dash (byte ∷ rest) = byte == 45

-- what is asked for with one more option, that has this value
abbrev pub take : ℕ → Asked → Key → List ℕ → Result Asked Fault
take most a k word = if bars_dash k && begins_with_dash word then Err faults.UnknownWord else take_value most a k word

-- ---- where a value stands, and when the file may come

-- the value of the option is the next word
abbrev pub is_apart : Key → Bool
is_apart keys.End = true
is_apart keys.Size = true
is_apart keys.Count = true
is_apart keys.File = true
is_apart keys.Id = true
is_apart keys.MirrorId = true
is_apart keys.Only = true
is_apart _ = false

-- no option is missing
abbrev pub is_complete : Asked → Bool
is_complete (asks.CompSet c) = c.named && (is_some c.id && is_some c.change)
is_complete (asks.Split mirror to) = is_some mirror
is_complete (asks.Delete mirror) = is_some mirror
is_complete _ = true
