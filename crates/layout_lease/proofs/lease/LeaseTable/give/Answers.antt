use Rattle.std.proofs.Common.{ap, ◌∙◌, subst, arith, rules}
use Rattle.layout_lease.specs.Leases.{TableView, IsSoundTable, hand_of, holder_of}
use Rattle.layout_lease.proofs.Hands.{given_hand, given_last, given_free}
use Rattle.layout_lease.proofs.SoundTable.{IsSoundTable-kept}
use Rattle.layout_lease.proofs.lease.LeaseTable.give.Goals as goal

pub invariant_of-self : goal.invariant_of-self
invariant_of-self c =
    (omega (arith, c.self.invariant.0), omega (arith, c.self.invariant.1), IsSoundTable-kept _ _ _ _ c.keep_but-self-inside.ensures.kept c.self.invariant.2)

pub returns-clause-sound : goal.returns-clause-sound
returns-clause-sound c = IsSoundTable-kept _ _ _ _ c.keep_but-self-inside.ensures.kept c.self.invariant.2

pub returns-clause-given : goal.returns-clause-given
returns-clause-given c = search rules

pub returns-clause-hand : goal.returns-clause-hand
returns-clause-hand c client = ap (λ (table : TableView). hand_of client table) (returns-clause-given c) ∙ given_hand c.args.key c.args.self.now client

pub returns-clause-last : goal.returns-clause-last
returns-clause-last c one = ap (λ (table : TableView). hand_of c.args.key.client table) (returns-clause-given c) ∙ given_last c.args.key c.args.self.now one

pub returns-clause-free : goal.returns-clause-free
returns-clause-free c held =
    let sound = subst IsSoundTable c.self.view_is c.self.invariant.2 in
    ap (λ (table : TableView). holder_of table c.args.key.file) (returns-clause-given c) ∙ given_free c.args.key c.args.self.now sound held
