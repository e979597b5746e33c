use Rattle.std.proofs.lemmas.Result.{IfOk-weaker}
use Rattle.text_words.proofs.ListTexts.{found_spelled}
use Rattle.text_words.proofs.OneWords.{object_one_word}
use Rattle.text_words.proofs.lists.object_list.Goals as goal

-- what is found is what the word spells
pub returns : goal.returns
returns c = record { spelled = IfOk-weaker c.list.result _ _ (λ found e. found_spelled object_one_word c.args.word.now _ e) c.list.ensures.value }
