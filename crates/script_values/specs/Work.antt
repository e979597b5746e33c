-- The work of a script: a bound on the steps of its runs, by its commands.
use Rattle.std.specs.Prelude.{ℕ, ◌+◌, ◌-◌, ◌*◌, ◌/◌, ◌^◌, min, max, List, length}
use Rattle.std.specs.List.{fold, sum_by}
use Rattle.composite_layout.specs.declared.spec.Part.{Part}
use Rattle.composite_layout.specs.declared.spec.MirrorSpec.{MirrorSpec}
use Rattle.composite_layout.specs.Making.{stripes_of}
use Rattle.lfs_words.specs.declared.command.LfsCommand.{LfsCommand}
use Rattle.lfs_words.specs.declared.command.LfsCommand.TheVariants as lfs
use Rattle.script_values.specs.declared.command.Command.{Command}
use Rattle.script_values.specs.declared.command.Command.TheVariants as commands
use Rattle.script_values.specs.declared.bases.Reach.{Reach}

-- the greatest of these numbers, 0 for none
abbrev pub greatest_by : {A : Type 0} → (A → ℕ) → List A → ℕ
greatest_by f xs = fold (λ most x. max most (f x)) 0 xs

-- how many blocks of 65536 bytes the range from start to end touches
abbrev pub blocks_of : ℕ → ℕ → ℕ
blocks_of start end = (end + 65535) / 65536 - start / 65536

-- where a command makes a file end, at least
abbrev pub end_of : Command → ℕ
end_of (commands.Write name offset bytes) = offset + length bytes
end_of (commands.Truncate name size) = size
end_of _ = 0

-- where a file ends at most
abbrev pub greatest_end : List Command → ℕ
greatest_end cs = min (greatest_by end_of cs) 268435456

-- the stripes of the components of such mirrors over so many targets
abbrev pub stripes_of_parts : ℕ → List Part → ℕ
stripes_of_parts targets parts = sum_by (λ part. stripes_of targets part.count) parts

abbrev pub stripes_of_mirrors : ℕ → List MirrorSpec → ℕ
stripes_of_mirrors targets mirrors = sum_by (λ mirror. stripes_of_parts targets mirror.parts) mirrors

-- the stripes of the components that a command names
abbrev pub stripes_of_lfs : ℕ → LfsCommand → ℕ
stripes_of_lfs targets (lfs.SetStripe name spec) = stripes_of_mirrors targets spec
stripes_of_lfs targets (lfs.Create name spec) = stripes_of_mirrors targets spec
stripes_of_lfs targets (lfs.Extend name spec) = stripes_of_mirrors targets spec
stripes_of_lfs targets _ = 0

abbrev pub stripes_of_command : ℕ → Command → ℕ
stripes_of_command targets (commands.Lfs command) = stripes_of_lfs targets command
stripes_of_command targets _ = 0

-- how far the files of a script reach: their mirrors at most, the stripes of all components, the blocks of the longest file
abbrev pub reach_of : ℕ → ℕ → List Command → Reach
reach_of most targets cs = record { mirrors = most; stripes = sum_by (stripes_of_command targets) cs; blocks = blocks_of 0 (greatest_end cs) }

-- the steps of a read or write that nothing disturbs, at most: two for each block, and three more
abbrev pub base_of_range : ℕ → ℕ → ℕ
base_of_range offset len = 2 * blocks_of offset (offset + len) + 3

-- a copy fences or resets each object once, and takes and puts each block for each mirror but one
abbrev pub base_of_copy : Reach → ℕ
base_of_copy r = (3 + r.stripes) + (2 * (r.mirrors - 1)) * r.blocks

-- a verify takes each block of each mirror
abbrev pub base_of_verify : Reach → ℕ
base_of_verify r = 2 + r.mirrors * r.blocks

abbrev pub base_of_lfs : Reach → LfsCommand → ℕ
base_of_lfs r (lfs.Resync name only) = base_of_copy r
base_of_lfs r (lfs.Extend name spec) = base_of_copy r
base_of_lfs r (lfs.ExtendBy name victim) = base_of_copy r
base_of_lfs r (lfs.Verify name) = base_of_verify r
base_of_lfs r _ = 1

-- the base of a command: the steps that it has at most where no call fails and nobody is evicted
abbrev pub base_of : Reach → Command → ℕ
base_of r (commands.Read name offset len) = base_of_range offset len
base_of r (commands.Write name offset bytes) = base_of_range offset (length bytes)
base_of r (commands.Truncate name size) = 4 + r.stripes
base_of r (commands.Lfs command) = base_of_lfs r command
base_of r _ = 1

-- a command evicts somebody
abbrev pub evictions_of : Command → ℕ
evictions_of (commands.Evict client) = 1
evictions_of _ = 0

-- all bases, and the greatest once more for each failure and each eviction
abbrev pub work_by : Reach → ℕ → List Command → ℕ
work_by r fails cs = sum_by (base_of r) cs + (fails + sum_by evictions_of cs) * greatest_by (base_of r) cs

abbrev pub work_of_parts : ℕ → ℕ → ℕ → List Command → ℕ
work_of_parts most targets fails cs = work_by (reach_of most targets cs) fails cs

-- a number that stands still at the end of 64 bits
abbrev pub capped : ℕ → ℕ
capped n = min n (2 ^ 64 - 1)

abbrev pub capped_reach : Reach → Reach
capped_reach r = record { mirrors = r.mirrors; stripes = capped r.stripes; blocks = r.blocks }
