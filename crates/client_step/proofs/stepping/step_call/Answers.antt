use Rattle.std.proofs.Common.{refl}
use Rattle.call_steps.specs.Servers.{Servers, servers}
use Rattle.client_read.specs.Reads.{read_step}
use Rattle.client_write.specs.Truncates.{truncate_step}
use Rattle.client_write.specs.Writes.{write_step}
use Rattle.mirror_verify.specs.Verifies.{verify_step}
use Rattle.resync_copy.specs.Steps.{copy_step}
use Rattle.flr_steps.specs.declared.client.Running.{Running}
use Rattle.flr_steps.specs.declared.client.Running.TheVariants as running
use Rattle.flr_steps.specs.Commands.{step_of}
use Rattle.client_step.specs.Free.{CallIsFree}
use Rattle.client_step.proofs.WiderLaws.{free_as, steps_as}
use Rattle.client_step.proofs.stepping.step_call.Goals as goal

pub returns-in-Read : goal.returns-in-Read
returns-in-Read c =
    let old : Servers = servers c.args.meta.now c.args.targets.now c.args.locks.now in
    let new : Servers = servers c.step.new.meta c.step.new.targets c.step.new.locks in
    record {
      step = steps_as running.Read c.args.call c.in-Read.call old new c.step.result c.widened.result (read_step c.in-Read.call c.args.place old) (λ (call : Running). step_of call c.args.client c.args.command.now c.args.place old) c.in-Read.is c.widened.ensures refl (c.step.ensures.step);
      free = free_as running.Read (λ (call : Running). CallIsFree call c.args.client c.args.command.now c.args.place old) c.args.call c.in-Read.call c.step.result c.widened.result c.in-Read.is c.widened.ensures c.step.ensures.free;
    }

pub returns-in-Write : goal.returns-in-Write
returns-in-Write c =
    let old : Servers = servers c.args.meta.now c.args.targets.now c.args.locks.now in
    let new : Servers = servers c.step-in-Write.new.meta c.step-in-Write.new.targets c.step-in-Write.new.locks in
    record {
      step = steps_as running.Write c.args.call c.in-Write.call old new c.step-in-Write.result c.widened-in-Write.result (write_step c.in-Write.call c.args.place old) (λ (call : Running). step_of call c.args.client c.args.command.now c.args.place old) c.in-Write.is c.widened-in-Write.ensures refl (c.step-in-Write.ensures.step);
      free = free_as running.Write (λ (call : Running). CallIsFree call c.args.client c.args.command.now c.args.place old) c.args.call c.in-Write.call c.step-in-Write.result c.widened-in-Write.result c.in-Write.is c.widened-in-Write.ensures c.step-in-Write.ensures.free;
    }

pub returns-in-Truncate : goal.returns-in-Truncate
returns-in-Truncate c =
    let old : Servers = servers c.args.meta.now c.args.targets.now c.args.locks.now in
    let new : Servers = servers c.step-in-Truncate.new.meta c.step-in-Truncate.new.targets c.step-in-Truncate.new.locks in
    record {
      step = steps_as running.Truncate c.args.call c.in-Truncate.call old new c.step-in-Truncate.result c.widened-in-Truncate.result (truncate_step c.in-Truncate.call c.args.place old) (λ (call : Running). step_of call c.args.client c.args.command.now c.args.place old) c.in-Truncate.is c.widened-in-Truncate.ensures refl (c.step-in-Truncate.ensures.step);
      free = free_as running.Truncate (λ (call : Running). CallIsFree call c.args.client c.args.command.now c.args.place old) c.args.call c.in-Truncate.call c.step-in-Truncate.result c.widened-in-Truncate.result c.in-Truncate.is c.widened-in-Truncate.ensures c.step-in-Truncate.ensures.free;
    }

pub returns-in-Copy : goal.returns-in-Copy
returns-in-Copy c =
    let old : Servers = servers c.args.meta.now c.args.targets.now c.args.locks.now in
    let new : Servers = servers c.step-in-Copy.new.meta c.step-in-Copy.new.targets c.step-in-Copy.new.locks in
    record {
      step = steps_as running.Copy c.args.call c.in-Copy.call old new c.step-in-Copy.result c.widened-in-Copy.result (copy_step c.in-Copy.call c.args.place old) (λ (call : Running). step_of call c.args.client c.args.command.now c.args.place old) c.in-Copy.is c.widened-in-Copy.ensures refl (c.step-in-Copy.ensures.step);
      free = free_as running.Copy (λ (call : Running). CallIsFree call c.args.client c.args.command.now c.args.place old) c.args.call c.in-Copy.call c.step-in-Copy.result c.widened-in-Copy.result c.in-Copy.is c.widened-in-Copy.ensures c.step-in-Copy.ensures.free;
    }

pub returns-in-Verify : goal.returns-in-Verify
returns-in-Verify c =
    let old : Servers = servers c.args.meta.now c.args.targets.now c.args.locks.now in
    let new : Servers = servers c.step-in-Verify.new.meta c.step-in-Verify.new.targets c.args.locks.now in
    record {
      step = steps_as running.Verify c.args.call c.in-Verify.call old new c.step-in-Verify.result c.widened-in-Verify.result (verify_step c.in-Verify.call c.args.place old) (λ (call : Running). step_of call c.args.client c.args.command.now c.args.place old) c.in-Verify.is c.widened-in-Verify.ensures refl (c.step-in-Verify.ensures.step c.args.locks.now);
      free = free_as running.Verify (λ (call : Running). CallIsFree call c.args.client c.args.command.now c.args.place old) c.args.call c.in-Verify.call c.step-in-Verify.result c.widened-in-Verify.result c.in-Verify.is c.widened-in-Verify.ensures c.step-in-Verify.ensures.free;
    }
