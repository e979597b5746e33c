use Rattle.std.proofs.Common.{sym, arith}
use denote.Ref.{Bor}
use Rattle.std.proofs.Common.{ℕ, List, []}
use Rattle.text_words.proofs.ListLaws.{items_none, items_more}
use Rattle.text_words.proofs.lists.read_items.Goals as goal

abbrev nothing : Bor (List ℕ)
nothing = record { ref_ptr = (0, 0); now = [] }

pub returns-in-None : goal.returns-in-None
returns-in-None g c = items_none g.T.Item.item_of c.args.words.now c.loop-word.word-index nothing c.loop-word.items.items c.loop-word.invariant (omega arith) (sym c.in-None.ensures.value)

pub loop-word-preserved : goal.loop-word-preserved
loop-word-preserved g c =
    let more = items_more g.T.Item.item_of c.args.words.now c.loop-word.word-index nothing c.loop-word.items.items c.in-Some.item c.loop-word.invariant (omega arith) (sym c.in-Some.ensures.value) in
    rw c.in_ok-push-in-Some.ensures.items more
