use Rattle.std.proofs.Common.{◌≡◌, ◌↔◌, Bool, true, nat_lt, subst, sym, rules}
use Rattle.std.specs.List.{list_all}
use Rattle.object_target.specs.TargetState.{TargetState, next_call}
use Rattle.call_steps.specs.Servers.{CanCall}
use Rattle.call_steps.proofs.Questions.{callable}
use Rattle.call_steps.proofs.asking.can_call.Goals as goal

pub returns : goal.returns
returns c =
    let is : c.are_below.result ≡ list_all (λ (t : TargetState). nat_lt (next_call t) 4278190080) c.args.targets.now = search rules in
    record { says = subst (λ (b : Bool). (b ≡ true) ↔ CanCall c.args.targets.now) (sym is) (callable c.args.targets.now) }
