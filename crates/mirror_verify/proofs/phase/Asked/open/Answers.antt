use Rattle.std.proofs.Common.{Option, ap, ◌∙◌}
use Rattle.composite_layout.specs.Layouts.{Composite}
use Rattle.meta_server.specs.Files.{File, file_at}
use Rattle.meta_server.specs.Opening.{read_opens_file}
use Rattle.call_steps.specs.Servers.{servers}
use Rattle.mirror_verify.specs.declared.phase.VerifyAt.TheVariants as at
use Rattle.mirror_verify.specs.Blocks.{copies_of}
use Rattle.mirror_verify.specs.Verifies.{verify_by}
use Rattle.mirror_verify.proofs.FileLaws.{opens}
use Rattle.mirror_verify.proofs.phase.Asked.open.Goals as goal

pub returns-in-Ok-open_read-clause-step : goal.returns-in-Ok-open_read-clause-step
returns-in-Ok-open_read-clause-step c = λ targets locks.
    opens (verify_by c.args.self at.Open) (servers c.args.meta.now targets locks) (file_at c.args.meta.now.files c.in-Some.place) c.in-Ok-open_read.opened c.open_read.new.self c.in-Ok.copies c.new-found.result c.takes_from.result c.call-in-Ok-open_read.result
    c.in-Some.ensures.found (ap (λ (o : Option File). read_opens_file c.args.self.client c.args.self.name c.args.meta.now o) c.in-Some.ensures.found ∙ c.in-Ok-open_read.ensures.opened)
    (c.in-Ok.ensures ∙ ap (λ (l : Composite). copies_of l.components c.file_at-size.result.1) c.file_at-size.ensures.layout ∙ ap (copies_of (file_at c.args.meta.now.files c.in-Some.place).layout.components) c.file_at-size.ensures.size)
    c.new-found.ensures.none c.takes_from.ensures.next c.call-in-Ok-open_read.ensures.same
