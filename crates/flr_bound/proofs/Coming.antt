-- The stripes that commands name which aren't begun.
use Rattle.std.proofs.Common.{◌≡◌, ℕ, zero, suc, ◌+◌, ◌<◌, Some, List, [], ◌∷◌, length, set, get_or, refl, ap, arith}
use Rattle.std.specs.Prelude.{replicate, slice_get, slice_index_or}
use Rattle.std.specs.List.{sum_by}
use Rattle.std.proofs.Math.Seq.{drop-nil}
use Rattle.std.proofs.lemmas.List.Sums.{sum_by-append, sum_by-drop_more}
use Rattle.std.proofs.lemmas.Option.{get_or_from_slice_get, slice_get_within}
use Rattle.script_values.specs.declared.command.Command.{Command}
use Rattle.script_values.specs.Scripts.{all_commands}
use Rattle.script_values.specs.Work.{stripes_of_command}
use Rattle.flr_steps.specs.declared.client.Client.{Client}
use Rattle.flr_steps.specs.declared.client.Running.{Running}
use Rattle.flr_steps.specs.declared.client.Running.TheVariants as running
use Rattle.flr_steps.specs.States.{new_client}
use Rattle.flr_bound.specs.Numbers.{begun_count, stripes_after, stripes_to_come}
use Rattle.flr_bound.proofs.Commands.{stripes_now}

none_after : (targets count : ℕ) → stripes_after targets [] count ≡ 0
none_after targets count = ap (λ (cs : List Command). sum_by (stripes_of_command targets) cs) (drop-nil count)

-- one client changes
pub come_set : (targets : ℕ) (owns : List (List Command)) (clients : List Client) (i : ℕ) (client new : Client) → slice_get clients i ≡ Some client
    → stripes_to_come targets owns (set clients i new) + stripes_after targets (slice_index_or owns i []) (begun_count client.call client.done)
    ≡ stripes_to_come targets owns clients + stripes_after targets (slice_index_or owns i []) (begun_count new.call new.done)
come_set targets [] clients i client new e =
    let a = none_after targets (begun_count client.call client.done) in
    let b = none_after targets (begun_count new.call new.done) in
    omega (arith, a, b)
come_set targets (own ∷ more) [] i client new e = absurd (cc)
come_set targets (own ∷ more) (x ∷ xs) zero client new e =
    let same : x ≡ client = cc in
    let one : stripes_after targets own (begun_count x.call x.done) ≡ stripes_after targets own (begun_count client.call client.done) = ap (λ (y : Client). stripes_after targets own (begun_count y.call y.done)) same in
    omega (arith, one)
come_set targets (own ∷ more) (x ∷ xs) (suc i) client new e = let rest = come_set targets more xs i client new e in omega (arith, rest)

-- the next command of a client names its own stripes
pub come_next : (targets : ℕ) (own : List Command) (call : Running) (done : ℕ) (asked : Command) → slice_get own done ≡ Some asked
    → stripes_after targets own (done + 1) + stripes_now targets call asked ≡ stripes_after targets own (begun_count call done)
come_next targets own running.Idle done asked e =
    let within : done < length own = slice_get_within own done asked e in
    let one : get_or own done asked ≡ asked = get_or_from_slice_get own done asked asked e in
    let here : stripes_of_command targets (get_or own done asked) ≡ stripes_of_command targets asked = ap (stripes_of_command targets) one in
    let more = sum_by-drop_more (stripes_of_command targets) own done asked within in
    omega (arith, here, more)
come_next targets own (running.Read call) done asked e = omega arith
come_next targets own (running.Write call) done asked e = omega arith
come_next targets own (running.Truncate call) done asked e = omega arith
come_next targets own (running.Copy call) done asked e = omega arith
come_next targets own (running.Verify call) done asked e = omega arith

-- before any step all are to come
pub come_all : (targets : ℕ) (owns : List (List Command)) → stripes_to_come targets owns (replicate (length owns) new_client) ≡ sum_by (stripes_of_command targets) (all_commands owns)
come_all targets [] = refl
come_all targets (own ∷ more) =
    let rest = come_all targets more in
    let both = sum_by-append (stripes_of_command targets) own (all_commands more) in
    omega (arith, rest, both)
