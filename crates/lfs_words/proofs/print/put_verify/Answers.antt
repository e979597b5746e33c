use Rattle.std.proofs.Common.{◌∷◌, []}
use Rattle.std.specs.Prelude.{codes}
use Rattle.lfs_words.proofs.Spaced.{put_words}
use Rattle.lfs_words.proofs.print.put_verify.Goals as goal

pub returns : goal.returns
returns c =
    put_words c.put_file.result _ _ _ (codes "mirror" ∷ codes "verify" ∷ []) (c.args.name.now ∷ []) c.in_ok-put_words.ensures c.put_file.ensures
