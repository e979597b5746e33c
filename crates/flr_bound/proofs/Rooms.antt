-- How many stripes a script names, and what room is left in every state of a short run.
use Rattle.std.proofs.Common.{ℕ, ◌+◌, ◌-◌, ◌*◌, ◌^◌, ◌≤◌, ◌<◌, ℤ, pos, negsuc, List, [], ◌∷◌, length, arith, length-append}
use Rattle.std.specs.List.{AllByRecursion, sum_by}
use Rattle.std.proofs.lemmas.List.Sums.{sum_by-append, sum_by-cons}
use Rattle.composite_layout.specs.declared.spec.MirrorSpec.{MirrorSpec}
use Rattle.composite_layout.specs.declared.spec.Part.{Part}
use Rattle.composite_layout.specs.Making.{part_count, stripes_of}
use Rattle.composite_layout.specs.Specs.{IsSpec}
use Rattle.composite_layout.proofs.New.{few_parts}
use Rattle.lfs_words.specs.declared.command.LfsCommand.{LfsCommand}
use Rattle.lfs_words.specs.declared.command.LfsCommand.TheVariants as lfs
use Rattle.lfs_words.specs.Facts.{IsSound}
use Rattle.lfs_words.proofs.FactLaws.{spelled_sound}
use Rattle.script_values.specs.declared.command.Command.{Command}
use Rattle.script_values.specs.declared.command.Command.TheVariants as command
use Rattle.script_values.specs.Commands.{IsCommand}
use Rattle.script_values.specs.Scripts.{IsScript, ScriptView, all_commands}
use Rattle.script_values.specs.Work.{stripes_of_command, stripes_of_lfs, stripes_of_mirrors, stripes_of_parts}
use Rattle.meta_server.specs.Conditions.{IsRoom}
use Rattle.meta_server.specs.Files.{File}
use Rattle.meta_growth.specs.Growth.{IsUpTo}
use Rattle.meta_growth.proofs.Files.{each_weaker}
use Rattle.flr_steps.specs.States.{State, IsRun}
use Rattle.flr_bound.specs.Numbers.{HasRoom, stripes_named}
use Rattle.flr_bound.proofs.Runs.{run_within}

-- ---- stripes of a script

part_few : (targets : ℕ) (count : ℤ) → targets ≤ 64 → stripes_of targets count ≤ 64
part_few targets (pos n) few = omega arith
part_few targets (negsuc n) few = omega arith

parts_few : (targets : ℕ) (ps : List Part) → targets ≤ 64 → stripes_of_parts targets ps ≤ 64 * length ps
parts_few targets [] few = omega arith
parts_few targets (p ∷ ps) few =
    let more = sum_by-cons (λ (part : Part). stripes_of targets part.count) p ps in
    let here = part_few targets p.count few in
    let rest = parts_few targets ps few in
    omega (arith, more, here, rest)

mirrors_few : (targets : ℕ) (ms : List MirrorSpec) → targets ≤ 64 → stripes_of_mirrors targets ms ≤ 64 * part_count ms
mirrors_few targets [] few = omega arith
mirrors_few targets (m ∷ ms) few =
    let more = sum_by-cons (λ (mirror : MirrorSpec). stripes_of_parts targets mirror.parts) m ms in
    let here = parts_few targets m.parts few in
    let rest = mirrors_few targets ms few in
    omega (arith, more, here, rest)

spec_few : (targets : ℕ) (ms : List MirrorSpec) → targets ≤ 64 → IsSpec ms → stripes_of_mirrors targets ms ≤ 131072
spec_few targets ms few spec = let a = mirrors_few targets ms few in let b = few_parts ms spec in omega (arith, a, b)

lfs_few : (most targets : ℕ) (of : LfsCommand) → targets ≤ 64 → IsSound most of → stripes_of_lfs targets of ≤ 131072
lfs_few most targets (lfs.SetStripe name spec) few sound = spec_few targets spec few sound.1.0
lfs_few most targets (lfs.Create name spec) few sound = spec_few targets spec few sound.1.0
lfs_few most targets (lfs.Extend name spec) few sound = spec_few targets spec few sound.1.0
lfs_few most targets (lfs.GetStripe name) few sound = omega arith
lfs_few most targets (lfs.CompSet name id change) few sound = omega arith
lfs_few most targets (lfs.ExtendBy name victim) few sound = omega arith
lfs_few most targets (lfs.Split name mirror to) few sound = omega arith
lfs_few most targets (lfs.Delete name mirror) few sound = omega arith
lfs_few most targets (lfs.Resync name only) few sound = omega arith
lfs_few most targets (lfs.Verify name) few sound = omega arith

module _ (most targets clients : ℕ) (low : most ≤ 32) (few : targets ≤ 64) where
  command_few : (c : Command) → IsCommand most targets clients c → stripes_of_command targets c ≤ 131072
  command_few (command.Read name offset len) h = omega arith
  command_few (command.Write name offset bytes) h = omega arith
  command_few (command.Truncate name size) h = omega arith
  command_few (command.Lfs of) h = lfs_few most targets of few (spelled_sound most h.0 of low h.1)
  command_few (command.Evict client) h = omega arith
  command_few (command.Rot object offset byte) h = omega arith

  own_few : (own : List Command) → AllByRecursion (IsCommand most targets clients) own → sum_by (stripes_of_command targets) own ≤ 131072 * length own
  own_few [] h = omega arith
  own_few (c ∷ cs) h =
      let more = sum_by-cons (stripes_of_command targets) c cs in
      let here = command_few c h.0 in
      let rest = own_few cs h.1 in
      omega (arith, more, here, rest)

  all_few : (owns : List (List Command)) → AllByRecursion (AllByRecursion (IsCommand most targets clients)) owns → sum_by (stripes_of_command targets) (all_commands owns) ≤ 131072 * length (all_commands owns)
  all_few [] h = omega arith
  all_few (own ∷ more) h =
      let sums = sum_by-append (stripes_of_command targets) own (all_commands more) in
      let counts = length-append own (all_commands more) in
      let here = own_few own h.0 in
      let rest = all_few more h.1 in
      omega (arith, sums, counts, here, rest)

pub script_few : (script : ScriptView) → IsScript script → stripes_named script ≤ 536870912
script_few script h =
    let all = all_few script.most script.targets (length script.clients) h.form.few_mirrors h.form.few_targets script.clients h.form.commands in
    let few = h.form.few_commands in
    omega (arith, all, few)

-- ---- room

pub run_room : (s : State) → IsRun s → length s.schedule ≤ 8388609 → HasRoom s.shared
run_room s run short =
    let n : ℕ = length s.schedule in
    let w = run_within s run in
    let named = script_few s.script run.limits in
    let few = run.limits.form.few_targets in
    record {
      files = omega (arith, w.files, short);
      keys = omega (arith, w.keys, short);
      cookies = each_weaker (IsUpTo (3 * n + 1) (n + 1)) (λ (f : File). IsRoom f.lock.next) s.shared.meta.files (λ f u. omega (arith, u.cookie, short)) w.each;
      generations = each_weaker (IsUpTo (3 * n + 1) (n + 1)) (λ (f : File). f.layout.generation < 2 ^ 32 - 65536) s.shared.meta.files (λ f u. omega (arith, u.generation, short)) w.each;
      objects = λ target. (let low = w.objects target in omega (arith, low, named, few));
      calls = λ id. (let low = w.calls id in omega (arith, low, short));
    }
