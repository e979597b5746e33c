use Rattle.std.proofs.Common.{arith, [], ◌∷◌}
use Rattle.std.specs.Prelude.{codes}
use Rattle.std.specs.Fmt.{decimal}
use Rattle.layout_text.specs.Texts.{flags_word}
use Rattle.layout_text.proofs.PrintLaws.{first_front, put_last}
use Rattle.layout_text.proofs.print.put_marks.Goals as goal

pub returns-in_err-put_ids : goal.returns-in_err-put_ids
returns-in_err-put_ids c =
    let k = c.args.component.now in
    grind (arith, first_front c.args.out.now.items c.put_ids.new.out.items (decimal k.id ∷ codes "mirror" ∷ decimal k.mirror ∷ []) (codes "flags" ∷ flags_word k.flags ∷ []) c.in_err-put_ids.ensures)

pub returns : goal.returns
returns c =
    let k = c.args.component.now in
    put_last c.put_flags.result _ _ _ (decimal k.id ∷ codes "mirror" ∷ decimal k.mirror ∷ []) (codes "flags" ∷ flags_word k.flags ∷ []) c.in_ok-put_ids.ensures c.put_flags.ensures
