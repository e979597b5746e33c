use Rattle.std.proofs.Common.{◌≡◌, ◌++◌, arith}
use Rattle.std.proofs.lemmas.Grind.{common_steps}
use Rattle.text_words.proofs.Firsts.{skips_word, spaced_rest}
use Rattle.text_words.proofs.cursor.next_word.Goals as goal

pub loop-rest-preserved : goal.loop-rest-preserved
loop-rest-preserved c = record { words = grind (arith, common_steps); spaces = spaced_rest _ c.loop-rest.rest.now _ c.loop-rest.invariant.spaces (omega arith) (grind arith) (grind (arith, common_steps)) }

pub returns-clause-rest : goal.returns-clause-rest
returns-clause-rest c =
    let parts : c.loop-rest.rest.now ≡ c.split_at.result.0.now ++ c.split_at.result.1.now = grind (arith, common_steps) in
    skips_word _ c.loop-rest.rest.now _ _ c.loop-rest.invariant.spaces parts
