use Rattle.std.specs.Prelude.{codes}
use Rattle.lfs_values.specs.FlagLists.{flags_text}
use Rattle.lfs_words.proofs.Spaced.{put_in_word}
use Rattle.lfs_words.proofs.options.put_change.Goals as goal

pub returns : goal.returns
returns c = put_in_word c.put_flags.result _ _ _ (codes "--comp-flags=") (flags_text c.args.change) c.in_ok-put_word.ensures.appended c.put_flags.ensures.appended
