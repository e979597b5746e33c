use Rattle.std.proofs.Common.{◌≡◌, Bool, true, sym, subst}
use Rattle.meta_server.specs.Closing.{holds}
use Rattle.call_steps.specs.Servers.{servers}
use Rattle.call_steps.specs.Steps.{Steps}
use Rattle.client_read.specs.Reads.{looks_again, read_by}
use Rattle.client_read.specs.declared.phase.ReadAt.TheVariants as at
use Rattle.client_read.proofs.phase.Asked.again.Goals as goal

pub returns-then-holds-clause-step : goal.returns-then-holds-clause-step
returns-then-holds-clause-step c = λ targets.
    let held : holds c.args.reading.opened.file c.args.reading.opened.cookie c.args.meta.now ≡ true = cc in
    subst (λ (b : Bool). Steps (read_by c.args.self (at.Again c.args.reading)) (servers c.args.meta.now targets c.args.locks.now) c.others.result (servers c.others.new.meta targets c.others.new.locks) (looks_again (read_by c.args.self (at.Again c.args.reading)) (servers c.args.meta.now targets c.args.locks.now) c.args.reading b)) (sym held) (c.others.ensures.step targets)
