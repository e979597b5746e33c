use Rattle.std.proofs.Common.{◌++◌, ◌∷◌, []}
use Rattle.std.specs.Prelude.{codes}
use Rattle.std.specs.List.{flat_map}
use Rattle.lfs_words.specs.Printing.{part_words, prefer_words}
use Rattle.lfs_words.proofs.Spaced.{words_behind, put_words}
use Rattle.lfs_words.proofs.options.put_mirror.Goals as goal

pub returns : goal.returns
returns c =
    let start = codes "-N" ∷ [] in
    let prefer = prefer_words c.args.mirror.now.prefer in
    put_words c.put_parts_of.result _ _ _ (start ++ prefer) (flat_map part_words c.args.mirror.now.parts)
    (words_behind _ _ _ start prefer c.in_ok-put_word.ensures.appended c.in_ok-put_prefer.ensures) c.put_parts_of.ensures
