use Rattle.std.proofs.Common.{◌≡◌, ◌∷◌, ◌-◌, length, take, drop, sym, ap, subst, ◌∙◌, arith}
use Rattle.flr_base.specs.Puts.{Puts}
use Rattle.flr_base.proofs.Lists.{first_others}
use Rattle.flr_base.proofs.Puts.{puts_then}
use Rattle.text_words.specs.Lists.{list_text}
use Rattle.text_words.proofs.lists.put_list.Goals as goal

pub returns-in_ok-put-in-len1-up : goal.returns-in_ok-put-in-len1-up
returns-in_ok-put-in-len1-up g c =
    let items = c.args.items.now in
    let first = c.first-item.result in
    let others = take (length items - 1) (drop 1 items) in
    let parts : items ≡ first ∷ others = first_others items first (omega arith) ∙ ap (λ item. item ∷ others) (sym c.first-item.is) in
    record {
      appended = subst (λ list. Puts c.args.out.now.items c.put_more.new.out.items c.put_more.result (list_text g.T.Item.text list)) (sym parts)
          (puts_then _ _ _ _ (g.T.Item.text first) _ c.in_ok-put-in-len1-up.ensures.appended c.put_more.ensures);
    }
