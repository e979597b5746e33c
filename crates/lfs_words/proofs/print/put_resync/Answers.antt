use Rattle.std.proofs.Common.{◌++◌, ◌∷◌, []}
use Rattle.std.specs.Prelude.{codes}
use Rattle.lfs_words.specs.Printing.{only_words}
use Rattle.lfs_words.proofs.Spaced.{words_behind, put_words, some_err}
use Rattle.lfs_words.proofs.print.put_resync.Goals as goal

pub returns-in_err-put_only : goal.returns-in_err-put_only
returns-in_err-put_only c =
    some_err c.from_residual-in_err-put_only.result _ _ _ (codes "mirror" ∷ codes "resync" ∷ []) (only_words c.args.only.now) (c.args.name.now ∷ []) c.from_residual-in_err-put_only.ensures.0
    (c.in_ok-put_words.ensures) c.in_err-put_only.ensures

pub returns : goal.returns
returns c =
    let start = codes "mirror" ∷ codes "resync" ∷ [] in
    let only = only_words c.args.only.now in
    put_words c.put_file.result _ _ _ (start ++ only) (c.args.name.now ∷ [])
    (words_behind _ _ _ start only c.in_ok-put_words.ensures c.in_ok-put_only.ensures) c.put_file.ensures
