-- What commands cost, and what they cost in all.
use Rattle.std.proofs.Common.{◌≡◌, ℕ, zero, suc, ◌+◌, ◌*◌, ◌≤◌, ◌<◌, Bool, true, false, nat_le, cond, Option, Some, None, List, [], ◌∷◌, length, get_or, refl, ap, arith}
use Rattle.std.specs.Prelude.{replicate, slice_get, slice_index_or}
use Rattle.std.specs.List.{sum_by}
use Rattle.std.proofs.Math.Nat.{add-mul}
use Rattle.std.proofs.lemmas.List.Sums.{sum_by-append, sum_by-cons, sum_by-drop_more}
use Rattle.std.proofs.lemmas.Option.{get_or_from_slice_get, slice_get_within}
use Rattle.object_target.specs.declared.fail.Fail.{Fail}
use Rattle.meta_server.specs.Files.{MetaView}
use Rattle.script_values.specs.declared.command.Command.{Command}
use Rattle.script_values.specs.Scripts.{ScriptView, all_commands, work_of}
use Rattle.script_values.specs.Work.{evictions_of, greatest_by}
use Rattle.script_values.proofs.Measures.{greatest-append, greatest-cons}
use Rattle.object_target.specs.TargetState.{TargetState, next_call}
use Rattle.call_steps.specs.Servers.{target_at}
use Rattle.flr_steps.specs.declared.client.Running.{Running}
use Rattle.flr_steps.specs.declared.client.Running.TheVariants as running
use Rattle.flr_steps.specs.States.{new_client}
use Rattle.flr_bound.specs.Numbers.{begun_count}
use Rattle.flr_work.specs.Paying.{dues, dues_by}
use Rattle.flr_ends.proofs.Calls.{base_at, call_left, client_left, base_for, most_base, price, prices_after}
use Rattle.flr_ends.proofs.Fares.{budget}
use Rattle.flr_ends.proofs.Totals.{total}

-- ---- the greatest

greatest_got : (f : Command → ℕ) (cs : List Command) (i : ℕ) (x : Command) → slice_get cs i ≡ Some x → f x ≤ greatest_by f cs
greatest_got f [] i x e = absurd (cc e)
greatest_got f (y ∷ ys) zero x e =
    let same : y ≡ x = cc e in
    let one : f y ≡ f x = ap f same in
    let more = greatest-cons f y ys in
    omega (arith, more, one)
greatest_got f (y ∷ ys) (suc i) x e = let rest = greatest_got f ys i x e in let more = greatest-cons f y ys in omega (arith, rest, more)

greatest_all : (f : Command → ℕ) (owns : List (List Command)) (i done : ℕ) (asked : Command) → slice_get (slice_index_or owns i []) done ≡ Some asked → f asked ≤ greatest_by f (all_commands owns)
greatest_all f [] i done asked e = absurd (cc e)
greatest_all f (own ∷ more) zero done asked e = let here = greatest_got f own done asked e in let both = greatest-append f own (all_commands more) in omega (arith, here, both)
greatest_all f (own ∷ more) (suc i) done asked e = let rest = greatest_all f more i done asked e in let both = greatest-append f own (all_commands more) in omega (arith, rest, both)

-- no command of a client has a base above the greatest
pub base_most : (script : ScriptView) (i done : ℕ) (o : Option Command) → slice_get (slice_index_or script.clients i []) done ≡ o → base_at script o ≤ most_base script
base_most script i done None e = omega arith
base_most script i done (Some asked) e = greatest_all (base_for script) script.clients i done asked e

-- ---- the next command

pub next_price : (script : ScriptView) (own : List Command) (done : ℕ) (asked : Command) → slice_get own done ≡ Some asked → price script asked + prices_after script own (done + 1) ≡ prices_after script own done
next_price script own done asked e =
    let within : done < length own = slice_get_within own done asked e in
    let one : get_or own done asked ≡ asked = get_or_from_slice_get own done asked asked e in
    let here : price script (get_or own done asked) ≡ price script asked = ap (price script) one in
    let more : prices_after script own done ≡ price script (get_or own done asked) + prices_after script own (done + 1) = sum_by-drop_more (price script) own done asked within in
    omega (arith, here, more)

-- a client has what its call has, with the commands after it
pub budget_in : (script : ScriptView) (m : MetaView) (own : List Command) (call : Running) (done : ℕ) (asked : Command) → slice_get own done ≡ Some asked
    → budget script (base_at script (slice_get own done)) call m + prices_after script own (done + 1) ≤ call_left script (base_at script (slice_get own done)) call m + prices_after script own (begun_count call done)
budget_in script m own running.Idle done asked e =
    let base : base_at script (slice_get own done) ≡ base_for script asked = ap (base_at script) e in
    let next = next_price script own done asked e in
    omega (arith, base, next)
budget_in script m own (running.Read call) done asked e = omega arith
budget_in script m own (running.Write call) done asked e = omega arith
budget_in script m own (running.Truncate call) done asked e = omega arith
budget_in script m own (running.Copy call) done asked e = omega arith
budget_in script m own (running.Verify call) done asked e = omega arith

-- ---- the start

total_start : (script : ScriptView) (m : MetaView) (owns : List (List Command)) → total (client_left script m) owns (replicate (length owns) new_client) ≡ sum_by (price script) (all_commands owns)
total_start script m [] = refl
total_start script m (own ∷ more) =
    let rest = total_start script m more in
    let both = sum_by-append (price script) own (all_commands more) in
    omega (arith, rest, both)

sum_price : (script : ScriptView) (cs : List Command) → sum_by (price script) cs ≡ sum_by (base_for script) cs + sum_by evictions_of cs * most_base script
sum_price script [] = let none : 0 * most_base script ≡ 0 = omega arith in omega (arith, none)
sum_price script (x ∷ xs) =
    let rest = sum_price script xs in
    let prices = sum_by-cons (price script) x xs in
    let bases = sum_by-cons (base_for script) x xs in
    let evicts : sum_by evictions_of (x ∷ xs) * most_base script ≡ (evictions_of x + sum_by evictions_of xs) * most_base script = ap (λ (n : ℕ). n * most_base script) (sum_by-cons evictions_of x xs) in
    let both = add-mul (evictions_of x) (sum_by evictions_of xs) (most_base script) in
    omega (arith, rest, prices, bases, evicts, both)

due_most : (cost next call : ℕ) (b : Bool) → cond {A = ℕ} b cost 0 ≤ cost
due_most cost next call true = omega arith
due_most cost next call false = omega arith

dues_most : (cost : ℕ) (fails : List Fail) (next : ℕ → ℕ) → dues_by cost fails next ≤ length fails * cost
dues_most cost [] next = omega arith
dues_most cost (f ∷ fs) next =
    let here = due_most cost (next f.target) f.call (nat_le (next f.target) f.call) in
    let rest = dues_most cost fs next in
    let long : length (f ∷ fs) ≡ 1 + length fs = omega arith in
    let many : length (f ∷ fs) * cost ≡ (1 + length fs) * cost = ap (λ (n : ℕ). n * cost) long in
    let both = add-mul 1 (length fs) cost in
    omega (arith, here, rest, many, both)

-- before any step no more is left than the script's work
pub start_within : (script : ScriptView) (m : MetaView) (targets : List TargetState) → total (client_left script m) script.clients (replicate (length script.clients) new_client) + dues (most_base script) script.fails targets ≤ work_of script
start_within script m targets =
    let all = total_start script m script.clients in
    let prices = sum_price script (all_commands script.clients) in
    let owed = dues_most (most_base script) script.fails (λ id. next_call (target_at targets id)) in
    let both = add-mul (length script.fails) (sum_by evictions_of (all_commands script.clients)) (most_base script) in
    omega (arith, all, prices, owed, both)
