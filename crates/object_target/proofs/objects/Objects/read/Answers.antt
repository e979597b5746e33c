use Rattle.std.proofs.Common.{◌≡◌, ◌∙◌, ℕ, [], length, get_or, ap}
use Rattle.std.specs.Prelude.{Option, unwrap_or}
use Rattle.object_target.specs.declared.objects.Object.{Object}
use Rattle.flr_base.specs.Bytes.{piece}
use Rattle.object_pages.proofs.BytesLaws.{get_or-zeros}
use Rattle.object_target.specs.Objects.{bytes_in}
use Rattle.object_target.proofs.ObjectsLaws.{zeros-piece}
use Rattle.object_target.proofs.objects.Objects.read.Goals as goal

pub returns-in-None : goal.returns-in-None
returns-in-None c =
    let zeros : (k : ℕ) → get_or c.fill.new.self k 0 ≡ 0 = get_or-zeros _ c.fill.new.self (c.fill.ensures.after (λ y same. same)) in
    let none : [] ≡ bytes_in c.args.self.now c.args.number =
    ap (λ (o : Option Object). (unwrap_or {T = Object} o (record { content = []; version = 0 })).content) c.in-None.ensures.value ∙ ap (λ objects. bytes_in objects c.args.number) c.self.view_is in
    record {
      filled = zeros-piece c.fill.new.self c.args.offset (length c.args.buf.now) c.fill.ensures.len zeros
          ∙ ap (λ bytes. piece bytes c.args.offset (length c.args.buf.now)) none;
    }
