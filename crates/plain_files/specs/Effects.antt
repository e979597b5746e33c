-- What each command may answer where the store is this, and what it leaves of it.
use Rattle.std.specs.Prelude.{◌≡◌, ◌⊎◌, ℕ, ◌+◌, ◌≤◌, ◌<◌, List, [], ◌∷◌, ◌++◌, length, take, drop, Option, None, Some, slice_set}
use Rattle.std.specs.List.{remove}
use Rattle.flr_base.specs.Bytes.{overlay}
use Rattle.flr_base.specs.Limits.{most_bytes}
use Rattle.flr_base.specs.declared.reply.Reply.{Reply}
use Rattle.flr_base.specs.declared.reply.Reply.TheVariants as reply
use Rattle.lfs_words.specs.Naming.{default_name}
use Rattle.lfs_words.specs.declared.command.LfsCommand.{LfsCommand}
use Rattle.lfs_words.specs.declared.command.LfsCommand.TheVariants as lfs
use Rattle.lfs_words.specs.declared.command.SplitTo.{SplitTo}
use Rattle.lfs_words.specs.declared.command.SplitTo.TheVariants as split
use Rattle.script_values.specs.declared.command.Command.{Command}
use Rattle.script_values.specs.declared.command.Command.TheVariants as command
use Rattle.plain_files.specs.Files.{Plain, Sent, Ranges, Tails, IsPresent, IsAbsent, AreSameBytes, plain_of, plain_at, bytes_of, land, fit, wipe}

-- how many files there may be
abbrev pub most_files : ℕ
most_files = 16

-- ---- what a command may answer

-- any command of a file: that the file isn't there, which then is so; else whatever it answers, the file is there
abbrev pub AllowsOf : List ℕ → List Plain → Reply → Type 0
AllowsOf name store (reply.NoFile other) = (other ≡ name) × IsAbsent store name
AllowsOf name store other = IsPresent store name

-- a read answers the bytes from the offset on, at most so many, cut at the file's end
abbrev pub AllowsRead : List ℕ → ℕ → ℕ → List Plain → Reply → Type 0
AllowsRead name offset len store (reply.Bytes bytes) = IsPresent store name × (bytes ≡ take len (drop offset (bytes_of store name)))
AllowsRead name offset len store other = AllowsOf name store other

-- a write that goes past the greatest size is too big, and no other is
abbrev pub AllowsWrite : List ℕ → ℕ → List Plain → Reply → Type 0
AllowsWrite name end store reply.Written = IsPresent store name × (end ≤ most_bytes)
AllowsWrite name end store (reply.WriteFault call) = IsPresent store name × (end ≤ most_bytes)
AllowsWrite name end store (reply.Evicted place) = IsPresent store name × (end ≤ most_bytes)
AllowsWrite name end store reply.TooBig = IsPresent store name × (most_bytes < end)
AllowsWrite name end store other = AllowsOf name store other

-- and so it is with the size of a truncate
abbrev pub AllowsTruncate : List ℕ → ℕ → List Plain → Reply → Type 0
AllowsTruncate name size store reply.Truncated = IsPresent store name × (size ≤ most_bytes)
AllowsTruncate name size store (reply.WriteFault call) = IsPresent store name × (size ≤ most_bytes)
AllowsTruncate name size store (reply.Evicted place) = IsPresent store name × (size ≤ most_bytes)
AllowsTruncate name size store reply.TooBig = IsPresent store name × (most_bytes < size)
AllowsTruncate name size store other = AllowsOf name store other

-- a file is made where there is none of its name, and room for one more
abbrev pub AllowsMaking : List ℕ → List Plain → Reply → Type 0
AllowsMaking name store reply.Created = IsAbsent store name × (length store < most_files)
AllowsMaking name store (reply.Exists other) = (other ≡ name) × IsPresent store name
AllowsMaking name store reply.TooManyFiles = IsAbsent store name × (length store ≡ most_files)
AllowsMaking name store other = AllowsOf name store other

-- a mirror is split off to a new file, under the same rules
abbrev pub AllowsSplit : List ℕ → List ℕ → List Plain → Reply → Type 0
AllowsSplit name new store (reply.Split other) = (other ≡ new) × IsPresent store name × IsAbsent store new × (length store < most_files)
AllowsSplit name new store (reply.Exists other) = (other ≡ new) × IsPresent store name × IsPresent store new
AllowsSplit name new store reply.TooManyFiles = IsPresent store name × IsAbsent store new × (length store ≡ most_files)
AllowsSplit name new store other = AllowsOf name store other

-- a file takes in another that has the same bytes
abbrev pub AllowsMerge : List ℕ → List ℕ → List Plain → Reply → Type 0
AllowsMerge name victim store (reply.Merged ids) = IsPresent store name × IsPresent store victim × AreSameBytes (bytes_of store name) (bytes_of store victim)
AllowsMerge name victim store (reply.NoFile other) = ((other ≡ name) × IsAbsent store name) ⊎ ((other ≡ victim) × IsPresent store name × IsAbsent store victim)
AllowsMerge name victim store (reply.Broken place) = Unit {0}
AllowsMerge name victim store other = IsPresent store name × IsPresent store victim

-- a copy whose lease was broken says nothing of the file: it may be gone
abbrev pub AllowsCopy : List ℕ → List Plain → Reply → Type 0
AllowsCopy name store (reply.Broken place) = Unit {0}
AllowsCopy name store other = AllowsOf name store other

abbrev pub AllowsSplitTo : List ℕ → ℕ → SplitTo → List Plain → Reply → Type 0
AllowsSplitTo name mirror split.Default store answer = AllowsSplit name (default_name name mirror) store answer
AllowsSplitTo name mirror (split.Named new) store answer = AllowsSplit name new store answer
AllowsSplitTo name mirror split.Destroy store answer = AllowsOf name store answer

abbrev pub AllowsLfs : LfsCommand → List Plain → Reply → Type 0
AllowsLfs (lfs.SetStripe name spec) store answer = AllowsMaking name store answer
AllowsLfs (lfs.Create name spec) store answer = AllowsMaking name store answer
AllowsLfs (lfs.GetStripe name) store answer = AllowsOf name store answer
AllowsLfs (lfs.CompSet name id change) store answer = AllowsOf name store answer
AllowsLfs (lfs.Extend name spec) store answer = AllowsCopy name store answer
AllowsLfs (lfs.ExtendBy name victim) store answer = AllowsMerge name victim store answer
AllowsLfs (lfs.Split name mirror to) store answer = AllowsSplitTo name mirror to store answer
AllowsLfs (lfs.Delete name mirror) store answer = AllowsOf name store answer
AllowsLfs (lfs.Resync name only) store answer = AllowsCopy name store answer
AllowsLfs (lfs.Verify name) store answer = AllowsOf name store answer

-- what a command may answer, where the store is this. An eviction and rot say nothing of files
abbrev pub Allows : Command → List Plain → Reply → Type 0
Allows (command.Read name offset len) store answer = AllowsRead name offset len store answer
Allows (command.Write name offset bytes) store answer = AllowsWrite name (offset + length bytes) store answer
Allows (command.Truncate name size) store answer = AllowsTruncate name size store answer
Allows (command.Lfs command) store answer = AllowsLfs command store answer
Allows (command.Evict client) store answer = Unit {0}
Allows (command.Rot object offset byte) store answer = Unit {0}

-- ---- what it leaves

-- the store in which the file of this name has these bytes, made of those that it had
abbrev pub with_bytes_at : Option ℕ → (List ℕ → List ℕ) → List Plain → List Plain
with_bytes_at None new store = store
with_bytes_at (Some place) new store = slice_set store place (record { name = (plain_at store place).name; bytes = new (plain_at store place).bytes })

abbrev pub with_bytes : List ℕ → (List ℕ → List ℕ) → List Plain → List Plain
with_bytes name new store = with_bytes_at (plain_of name store) new store

-- the store with one more file
abbrev pub with_file : List ℕ → List ℕ → List Plain → List Plain
with_file name bytes store = store ++ record { name = name; bytes = bytes } ∷ []

-- the store without the file of this name
abbrev pub without_file_at : Option ℕ → List Plain → List Plain
without_file_at None store = store
without_file_at (Some place) store = remove store place

abbrev pub without_file : List ℕ → List Plain → List Plain
without_file name store = without_file_at (plain_of name store) store

-- a write that went through has all its bytes; one that failed or was evicted those that were sent and landed
abbrev pub wrote : List ℕ → ℕ → List ℕ → Sent → Reply → List Plain → List Plain
wrote name offset bytes sent reply.Written store = with_bytes name (λ old. overlay old offset bytes) store
wrote name offset bytes (Ranges ranges) (reply.WriteFault call) store = with_bytes name (λ old. land old offset bytes ranges) store
wrote name offset bytes (Ranges ranges) (reply.Evicted place) store = with_bytes name (λ old. land old offset bytes ranges) store
wrote name offset bytes sent other store = store

-- and so has a truncate its size
abbrev pub truncated : List ℕ → ℕ → Sent → Reply → List Plain → List Plain
truncated name size sent reply.Truncated store = with_bytes name (λ old. fit old size) store
truncated name size (Tails tails) (reply.WriteFault call) store = with_bytes name (λ old. wipe old size tails) store
truncated name size (Tails tails) (reply.Evicted place) store = with_bytes name (λ old. wipe old size tails) store
truncated name size sent other store = store

abbrev pub made : List ℕ → Reply → List Plain → List Plain
made name reply.Created store = with_file name [] store
made name other store = store

-- a file that is split off has the bytes of the other
abbrev pub split_off : List ℕ → Reply → List Plain → List Plain
split_off name (reply.Split new) store = with_file new (bytes_of store name) store
split_off name other store = store

abbrev pub taken_in : List ℕ → Reply → List Plain → List Plain
taken_in victim (reply.Merged ids) store = without_file victim store
taken_in victim other store = store

abbrev pub lfs_effect : LfsCommand → Reply → List Plain → List Plain
lfs_effect (lfs.SetStripe name spec) answer store = made name answer store
lfs_effect (lfs.Create name spec) answer store = made name answer store
lfs_effect (lfs.Split name mirror to) answer store = split_off name answer store
lfs_effect (lfs.ExtendBy name victim) answer store = taken_in victim answer store
lfs_effect other answer store = store

-- the effect of an answered command on the store, by what was sent for it; what isn't named leaves it as it is
abbrev pub effect : Command → Sent → Reply → List Plain → List Plain
effect (command.Write name offset bytes) sent answer store = wrote name offset bytes sent answer store
effect (command.Truncate name size) sent answer store = truncated name size sent answer store
effect (command.Lfs command) sent answer store = lfs_effect command answer store
effect other sent answer store = store
