-- The command of a read, a verify or a copy.
use Rattle.std.proofs.Common.{◌≡◌, ℕ, ◌+◌, ◌-◌, Bool, true, false, true≢false, List, refl, ap, ◌∙◌, arith}
use Rattle.lfs_words.specs.declared.command.LfsCommand.{LfsCommand}
use Rattle.lfs_words.specs.declared.command.LfsCommand.TheVariants as lfs
use Rattle.script_values.specs.declared.command.Command.{Command}
use Rattle.script_values.specs.declared.command.Command.TheVariants as command
use Rattle.meta_server.specs.declared.answers.CopyWhat.{CopyWhat}
use Rattle.meta_server.specs.declared.answers.CopyWhat.TheVariants.{Resync, Extend, Victim}
use Rattle.client_read.specs.declared.phase.ReadAt.TheVariants as read
use Rattle.client_read.specs.Reads.{new_read}
use Rattle.client_read.specs.Views.{ReadView}
use Rattle.mirror_verify.specs.declared.phase.VerifyAt.TheVariants as verify
use Rattle.mirror_verify.specs.Verifies.{new_verify}
use Rattle.mirror_verify.specs.Views.{VerifyView}
use Rattle.resync_copy.specs.declared.phase.CopyAt.TheVariants as copy
use Rattle.resync_copy.specs.Calls.{CopyView}
use Rattle.resync_copy.specs.Copies.{new_copy}
use Rattle.flr_steps.specs.declared.client.Running.{Running}
use Rattle.flr_steps.specs.declared.client.Running.TheVariants as running
use Rattle.flr_steps.specs.Commands.{begun, begun_lfs}
use Rattle.flr_asked.specs.Sentences.{at_start}

-- ---- reads

-- a read is begun by no command of lfs
abbrev is_read : Running → Bool
is_read (running.Read call) = true
is_read other = false

lfs_no_read : (c : ℕ) (of : LfsCommand) → is_read (begun_lfs c of) ≡ false
lfs_no_read c (lfs.Resync name only) = refl
lfs_no_read c (lfs.Extend name spec) = refl
lfs_no_read c (lfs.ExtendBy name victim) = refl
lfs_no_read c (lfs.Verify name) = refl
lfs_no_read c (lfs.SetStripe name spec) = refl
lfs_no_read c (lfs.GetStripe name) = refl
lfs_no_read c (lfs.CompSet name id change) = refl
lfs_no_read c (lfs.Create name spec) = refl
lfs_no_read c (lfs.Split name mirror to) = refl
lfs_no_read c (lfs.Delete name mirror) = refl

pub read_command : (c : ℕ) (r : ReadView) (asked : Command) → at_start (running.Read r) ≡ begun c asked → command.Read r.name r.range.start (r.range.end - r.range.start) ≡ asked
read_command c r (command.Read name offset len) e =
    let same : record r { at = read.Open } ≡ new_read c name offset len = cc e in
    let n : r.name ≡ name = ap (λ (x : ReadView). x.name) same in
    let o : r.range.start ≡ offset = ap (λ (x : ReadView). x.range.start) same in
    let z : r.range.end ≡ offset + len = ap (λ (x : ReadView). x.range.end) same in
    let l : r.range.end - r.range.start ≡ len = omega (arith, o, z) in
    ap (λ (x : List ℕ). command.Read x r.range.start (r.range.end - r.range.start)) n ∙ ap (λ (x : ℕ). command.Read name x (r.range.end - r.range.start)) o ∙ ap (λ (x : ℕ). command.Read name offset x) l
read_command c r (command.Write name offset bytes) e = absurd (cc e)
read_command c r (command.Truncate name size) e = absurd (cc e)
read_command c r (command.Lfs of) e = absurd (true≢false (ap is_read e ∙ lfs_no_read c of))
read_command c r (command.Evict other) e = absurd (cc e)
read_command c r (command.Rot object offset byte) e = absurd (cc e)

-- ---- verifies

verify_lfs : (c : ℕ) (v : VerifyView) (of : LfsCommand) → at_start (running.Verify v) ≡ begun_lfs c of → lfs.Verify v.name ≡ of
verify_lfs c v (lfs.Verify name) e =
    let same : record v { at = verify.Open } ≡ new_verify c name = cc e in
    ap (λ (x : VerifyView). lfs.Verify x.name) same
verify_lfs c v (lfs.Resync name only) e = absurd (cc e)
verify_lfs c v (lfs.Extend name spec) e = absurd (cc e)
verify_lfs c v (lfs.ExtendBy name victim) e = absurd (cc e)
verify_lfs c v (lfs.SetStripe name spec) e = absurd (cc e)
verify_lfs c v (lfs.GetStripe name) e = absurd (cc e)
verify_lfs c v (lfs.CompSet name id change) e = absurd (cc e)
verify_lfs c v (lfs.Create name spec) e = absurd (cc e)
verify_lfs c v (lfs.Split name mirror to) e = absurd (cc e)
verify_lfs c v (lfs.Delete name mirror) e = absurd (cc e)

pub verify_command : (c : ℕ) (v : VerifyView) (asked : Command) → at_start (running.Verify v) ≡ begun c asked → command.Lfs (lfs.Verify v.name) ≡ asked
verify_command c v (command.Lfs of) e = ap (λ (x : LfsCommand). command.Lfs x) (verify_lfs c v of e)
verify_command c v (command.Read name offset len) e = absurd (cc e)
verify_command c v (command.Write name offset bytes) e = absurd (cc e)
verify_command c v (command.Truncate name size) e = absurd (cc e)
verify_command c v (command.Evict other) e = absurd (cc e)
verify_command c v (command.Rot object offset byte) e = absurd (cc e)

-- ---- copies

-- the command of a copy, by what it is for
abbrev pub lfs_for : List ℕ → CopyWhat → LfsCommand
lfs_for name (Resync only) = lfs.Resync name only
lfs_for name (Extend mirrors) = lfs.Extend name mirrors
lfs_for name (Victim victim) = lfs.ExtendBy name victim

copy_lfs : (c : ℕ) (k : CopyView) (of : LfsCommand) → at_start (running.Copy k) ≡ begun_lfs c of → lfs_for k.name k.what ≡ of
copy_lfs c k (lfs.Resync name only) e =
    let same : record k { at = copy.Begin } ≡ new_copy c name (Resync only) = cc e in
    ap (λ (x : CopyView). lfs_for x.name x.what) same
copy_lfs c k (lfs.Extend name spec) e =
    let same : record k { at = copy.Begin } ≡ new_copy c name (Extend spec) = cc e in
    ap (λ (x : CopyView). lfs_for x.name x.what) same
copy_lfs c k (lfs.ExtendBy name victim) e =
    let same : record k { at = copy.Begin } ≡ new_copy c name (Victim victim) = cc e in
    ap (λ (x : CopyView). lfs_for x.name x.what) same
copy_lfs c k (lfs.Verify name) e = absurd (cc e)
copy_lfs c k (lfs.SetStripe name spec) e = absurd (cc e)
copy_lfs c k (lfs.GetStripe name) e = absurd (cc e)
copy_lfs c k (lfs.CompSet name id change) e = absurd (cc e)
copy_lfs c k (lfs.Create name spec) e = absurd (cc e)
copy_lfs c k (lfs.Split name mirror to) e = absurd (cc e)
copy_lfs c k (lfs.Delete name mirror) e = absurd (cc e)

pub copy_command : (c : ℕ) (k : CopyView) (asked : Command) → at_start (running.Copy k) ≡ begun c asked → command.Lfs (lfs_for k.name k.what) ≡ asked
copy_command c k (command.Lfs of) e = ap (λ (x : LfsCommand). command.Lfs x) (copy_lfs c k of e)
copy_command c k (command.Read name offset len) e = absurd (cc e)
copy_command c k (command.Write name offset bytes) e = absurd (cc e)
copy_command c k (command.Truncate name size) e = absurd (cc e)
copy_command c k (command.Evict other) e = absurd (cc e)
copy_command c k (command.Rot object offset byte) e = absurd (cc e)
