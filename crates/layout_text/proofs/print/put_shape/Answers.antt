use Rattle.std.proofs.Common.{arith, [], ◌∷◌, ◌++◌}
use Rattle.std.specs.Prelude.{codes}
use Rattle.std.specs.Fmt.{decimal}
use Rattle.text_words.specs.Sizes.{end_text}
use Rattle.layout_text.specs.Appending.{objects_words}
use Rattle.layout_text.proofs.PrintLaws.{first_front, follow, put_last, next_err}
use Rattle.layout_text.proofs.print.put_shape.Goals as goal

pub returns-in_err-put_extent : goal.returns-in_err-put_extent
returns-in_err-put_extent c =
    let k = c.args.component.now in
    let extent = codes "extent" ∷ decimal k.extent.start ∷ end_text (codes "EOF") k.extent.end ∷ [] in
    let stripe = codes "size" ∷ decimal k.stripe.size ∷ codes "count" ∷ decimal k.stripe.count ∷ [] in
    grind (arith, first_front c.args.out.now.items c.put_extent.new.out.items extent (stripe ++ objects_words k) c.in_err-put_extent.ensures)

pub returns-in_err-put_stripe : goal.returns-in_err-put_stripe
returns-in_err-put_stripe c =
    let k = c.args.component.now in
    let extent = codes "extent" ∷ decimal k.extent.start ∷ end_text (codes "EOF") k.extent.end ∷ [] in
    let stripe = codes "size" ∷ decimal k.stripe.size ∷ codes "count" ∷ decimal k.stripe.count ∷ [] in
    next_err c.from_residual-in_err-put_stripe.result _ _ _ extent stripe (objects_words k) c.from_residual-in_err-put_stripe.ensures.0 c.in_ok-put_extent.ensures c.in_err-put_stripe.ensures

pub returns : goal.returns
returns c =
    let k = c.args.component.now in
    let extent = codes "extent" ∷ decimal k.extent.start ∷ end_text (codes "EOF") k.extent.end ∷ [] in
    let stripe = codes "size" ∷ decimal k.stripe.size ∷ codes "count" ∷ decimal k.stripe.count ∷ [] in
    put_last c.put_objects_of.result _ _ _ (extent ++ stripe) (objects_words k) (follow _ _ _ extent stripe c.in_ok-put_extent.ensures c.in_ok-put_stripe.ensures) c.put_objects_of.ensures
