use Rattle.std.proofs.Common.{map}
use Rattle.text_words.proofs.ListLaws.{ItemsSoFar}
use Rattle.text_words.proofs.lists.read_items.Given as goal

abbrev pub invariant-loop-word : goal.invariant-loop-word
invariant-loop-word g l = ItemsSoFar g.T.Item.item_of (map (λ w. w.now) l.words) l.word-index l.items.items
