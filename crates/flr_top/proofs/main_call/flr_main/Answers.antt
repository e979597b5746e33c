use Rattle.std.proofs.Common.{ℕ, List, subst}
use Rattle.std.specs.Prelude.{IfSome}
use Rattle.flr_statuses.specs.Statuses.{LeavesFront, Tells, TellsFront, Told, TookFront}
use Rattle.flr_migrate.specs.Migrations.{IsNoScript}
use Rattle.flr_soak.specs.Drawn.{IsReport}
use Rattle.flr_soak.specs.Counts.{IsSoakLine}
use Rattle.flr_words.specs.declared.words.Words.{Words}
use Rattle.flr_words.specs.Words.{AsksFor}
use Rattle.flr_top.specs.Forms.{AsksRandom, AsksSoak}
use Rattle.flr_top.proofs.Soaks.{at_numbers, at_seed}
use Rattle.flr_top.proofs.main_call.flr_main.Goals as goal

pub returns-in-Ok-Soak-clause-soaked : goal.returns-in-Ok-Soak-clause-soaked
returns-in-Ok-Soak-clause-soaked g c seed clients calls e asks =
    let found : AsksSoak c.in-Ok-Soak.seed c.in-Ok-Soak.clients c.in-Ok-Soak.calls c.args.words.now = subst (λ (w : Words). AsksFor c.args.words.now w) c.in-Ok-Soak.field-0-is c.in-Ok-Soak.ensures in
    at_numbers (λ (s n k : ℕ). Told (IsSoakLine s n k) (g.K.Sink.taken c.args.out.now) (g.K.Sink.taken c.soak_main.new.out)) c.args.words.now c.in-Ok-Soak.seed c.in-Ok-Soak.clients c.in-Ok-Soak.calls seed clients calls found asks (c.soak_main.ensures.done e)

pub returns-in-Ok-Soak-clause-soak_front : goal.returns-in-Ok-Soak-clause-soak_front
returns-in-Ok-Soak-clause-soak_front g c seed clients calls e asks =
    let found : AsksSoak c.in-Ok-Soak.seed c.in-Ok-Soak.clients c.in-Ok-Soak.calls c.args.words.now = subst (λ (w : Words). AsksFor c.args.words.now w) c.in-Ok-Soak.field-0-is c.in-Ok-Soak.ensures in
    at_numbers (λ (s n k : ℕ). TookFront (IsSoakLine s n k) (g.K.Sink.taken c.args.out.now) (g.K.Sink.taken c.soak_main.new.out)) c.args.words.now c.in-Ok-Soak.seed c.in-Ok-Soak.clients c.in-Ok-Soak.calls seed clients calls found asks (c.soak_main.ensures.write_front e)

pub returns-in-Ok-Random-clause-drew : goal.returns-in-Ok-Random-clause-drew
returns-in-Ok-Random-clause-drew g c seed e asks =
    let found : AsksRandom c.in-Ok-Random.seed c.args.words.now = subst (λ (w : Words). AsksFor c.args.words.now w) c.in-Ok-Random.field-0-is c.in-Ok-Random.ensures in
    at_seed (λ (n : ℕ). IfSome (g.S.Source.left c.args.input.now) (λ (bytes : List ℕ). Tells (IsReport n) bytes (g.K.Sink.taken c.args.out.now) (g.K.Sink.taken c.random_main.new.out))) c.args.words.now c.in-Ok-Random.seed seed found asks (c.random_main.ensures.done e)

pub returns-in-Ok-Random-clause-random_front : goal.returns-in-Ok-Random-clause-random_front
returns-in-Ok-Random-clause-random_front g c seed e asks =
    let found : AsksRandom c.in-Ok-Random.seed c.args.words.now = subst (λ (w : Words). AsksFor c.args.words.now w) c.in-Ok-Random.field-0-is c.in-Ok-Random.ensures in
    at_seed (λ (n : ℕ). IfSome (g.S.Source.left c.args.input.now) (λ (bytes : List ℕ). TellsFront (IsReport n) IsNoScript bytes (g.S.Source.faults c.args.input.now) (g.S.Source.faults c.random_main.new.input) (g.K.Sink.taken c.args.out.now) (g.K.Sink.taken c.random_main.new.out))) c.args.words.now c.in-Ok-Random.seed seed found asks (c.random_main.ensures.write_front e)

pub returns-in-Ok-Random-clause-random_left : goal.returns-in-Ok-Random-clause-random_left
returns-in-Ok-Random-clause-random_left g c seed e asks =
    let found : AsksRandom c.in-Ok-Random.seed c.args.words.now = subst (λ (w : Words). AsksFor c.args.words.now w) c.in-Ok-Random.field-0-is c.in-Ok-Random.ensures in
    at_seed (λ (n : ℕ). IfSome (g.S.Source.left c.args.input.now) (λ (bytes : List ℕ). LeavesFront (IsReport n) bytes (g.K.Sink.taken c.args.out.now) (g.K.Sink.taken c.random_main.new.out))) c.args.words.now c.in-Ok-Random.seed seed found asks (c.random_main.ensures.memory e)
