use Rattle.std.proofs.Common.{◌≡◌, ℕ, List, map, sym, ap, subst, ◌∙◌}
use Rattle.text_words.specs.Pieces.{words_of}
use Rattle.lfs_words.specs.Printing.{words_of_command}
use Rattle.lfs_words.specs.Grammar.{Spells}
use Rattle.lfs_words.proofs.PrintedSpecs.{printed_again}
use Rattle.lfs_words.proofs.Apart.{printed_apart}
use Rattle.lfs_words.proofs.round_trip.through_text.Goals as goal

pub returns : goal.returns
returns c = record {
  same = λ words spells.
      let most = c.args.most in
      let command = c.args.command.now in
      let apart = printed_apart most words command spells in
      let found : map (λ word. word.now) c.deref.result.now ≡ words_of_command command =
      ap (map (λ word. word.now)) c.deref.ensures.value ∙ c.in-Ok-line_words.ensures.words ∙ ap words_of (c.as_slice.ensures.same ∙ c.in-Ok.ensures.form) ∙ apart in
      c.read_lfs.ensures.again command (subst (λ (ws : List (List ℕ)). Spells most ws command) (sym found) (printed_again most words command spells));
}
