-- The layout is what its fields say.
use Rattle.std.proofs.Common.{◌≡◌, Option, Some, None, IfSome}
use Rattle.composite_layout.specs.Layouts.{Composite}
use Rattle.layout_state.specs.Breaking.{unleased}
use Rattle.layout_state.specs.Mirroring.{Off}
use Rattle.meta_server.specs.Layouts.{split_off}
use Rattle.meta_server.proofs.Fields.{lessened_is, split_off_is}
use Rattle.meta_server.proofs.shapes.lessen.Goals as goal

pub returns-in-Ok-clause-lessened : goal.returns-in-Ok-clause-lessened
returns-in-Ok-clause-lessened c = lessened_is c.args.layout.now c.in-Ok.ensures.removed

pub returns-in-Ok-clause-part : goal.returns-in-Ok-clause-part
returns-in-Ok-clause-part c = by c.in-Ok.part c.in-Ok.ensures.off
  where
    by : (part : Option Composite) → IfSome part (Off c.args.mirror (unleased c.args.layout.now)) → IfSome part (λ l. l ≡ split_off c.args.mirror c.args.layout.now)
    by None h = tt
    by (Some l) h = split_off_is c.args.layout.now h
