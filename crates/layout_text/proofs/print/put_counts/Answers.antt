use Rattle.std.proofs.Common.{arith, [], ◌∷◌}
use Rattle.std.specs.Prelude.{codes}
use Rattle.std.specs.Fmt.{decimal}
use Rattle.layout_text.proofs.PrintLaws.{first_front, put_last}
use Rattle.layout_text.proofs.print.put_counts.Goals as goal

pub returns-in_err-put_next : goal.returns-in_err-put_next
returns-in_err-put_next c =
    grind (arith, first_front c.args.out.now.items c.put_next.new.out.items (codes "next" ∷ decimal c.args.mirror ∷ decimal c.args.counter ∷ []) (codes "components" ∷ decimal c.args.count ∷ []) c.in_err-put_next.ensures)

pub returns : goal.returns
returns c = put_last c.put_field.result _ _ _ (codes "next" ∷ decimal c.args.mirror ∷ decimal c.args.counter ∷ []) (codes "components" ∷ decimal c.args.count ∷ []) c.in_ok-put_next.ensures c.put_field.ensures
