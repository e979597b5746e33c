use Rattle.std.proofs.Common.{sym, ap, ◌∙◌}
use Rattle.layout_lease.specs.Leases.{TableView, hand_of}
use Rattle.layout_lease.proofs.Hands.{taken_hand}
use Rattle.layout_lease.proofs.SoundTable.{no_lease}
use Rattle.layout_lease.proofs.lease.LeaseTable.take.Goals as goal

pub add-requires-clause-none : goal.add-requires-clause-none
add-requires-clause-none c = no_lease c.args.self.now c.args.file (sym c.holder.ensures.holder ∙ c.in-None.is)

pub returns-in-None-clause-hand : goal.returns-in-None-clause-hand
returns-in-None-clause-hand c = ap (λ (table : TableView). hand_of c.args.client table) c.add.ensures.taken ∙ taken_hand c.args.client c.args.file c.args.self.now
