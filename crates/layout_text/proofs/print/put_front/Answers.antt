use Rattle.std.proofs.Common.{[], ◌∷◌}
use Rattle.std.specs.Prelude.{codes}
use Rattle.std.specs.Fmt.{decimal}
use Rattle.layout_text.specs.Texts.{state_word}
use Rattle.layout_text.proofs.PrintLaws.{put_last}
use Rattle.layout_text.proofs.print.put_front.Goals as goal

pub returns : goal.returns
returns c = put_last c.put_state.result _ _ _ (codes "generation" ∷ decimal c.args.generation ∷ []) (codes "state" ∷ state_word c.args.state ∷ []) c.in_ok-put_generation.ensures c.put_state.ensures
