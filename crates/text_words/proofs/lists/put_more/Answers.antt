use Rattle.std.proofs.Common.{◌∷◌, arith}
use Rattle.flr_base.proofs.Puts.{puts, front_items, front_item}
use Rattle.text_words.proofs.lists.put_more.Goals as goal

pub returns-in_err-push : goal.returns-in_err-push
returns-in_err-push g c = grind (arith, front_items (λ next. 44 ∷ g.T.Item.text next) c.args.items.now c.loop-item.item-index c.args.out.now.items)

pub returns-in_err-put : goal.returns-in_err-put
returns-in_err-put g c = grind (arith, puts, front_item (λ next. 44 ∷ g.T.Item.text next) c.args.items.now c.loop-item.item-index c.item-item.result c.args.out.now.items c.put.new.out.items)
