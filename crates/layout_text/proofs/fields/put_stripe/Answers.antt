use Rattle.std.proofs.Common.{[], ◌∷◌, ◌++◌, subst}
use Rattle.std.specs.Prelude.{codes, ℕ}
use Rattle.std.specs.Fmt.{decimal}
use Rattle.flr_base.specs.Puts.{Puts}
use Rattle.layout_text.specs.Appending.{text_behind}
use Rattle.layout_text.proofs.PrintLaws.{put_last}
use Rattle.layout_text.proofs.fields.put_stripe.Goals as goal

pub returns : goal.returns
returns c =
    let size = codes "size" ∷ decimal c.args.stripe.size ∷ [] in
    subst (λ (n : ℕ). Puts c.args.out.now.items c.put_field-2.new.out.items c.put_field-2.result (text_behind (size ++ codes "count" ∷ decimal n ∷ []))) c.from.ensures
    (put_last c.put_field-2.result _ _ _ size (codes "count" ∷ decimal c.from.result ∷ []) c.in_ok-put_field.ensures c.put_field-2.ensures)
