use Rattle.std.proofs.Common.{◌++◌, sym, ap, ◌∙◌}
use Rattle.std.specs.Prelude.{codes}
use Rattle.text_words.proofs.WordTexts.{spaced-first}
use Rattle.lfs_words.specs.Printing.{after_spaces, words_after_lfs}
use Rattle.lfs_words.proofs.print.print_lfs.Goals as goal

pub returns : goal.returns
returns c =
    let words = words_after_lfs c.args.command.now in
    record { form = c.from_vec.ensures.same ∙ c.in_ok-put_command.ensures ∙ ap (λ text. text ++ after_spaces words) c.in_ok-out.ensures.items ∙ sym (spaced-first (codes "lfs") words) }
