use Rattle.std.proofs.Common.{◌∷◌, []}
use Rattle.std.specs.Prelude.{codes}
use Rattle.lfs_words.proofs.Spaced.{put_words}
use Rattle.lfs_words.proofs.print.put_getstripe.Goals as goal

pub returns : goal.returns
returns c =
    put_words c.put_file.result _ _ _ (codes "getstripe" ∷ []) (c.args.name.now ∷ []) c.in_ok-put_word.ensures.appended c.put_file.ensures
