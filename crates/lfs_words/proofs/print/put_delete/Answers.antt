use Rattle.std.proofs.Common.{◌++◌, ◌∷◌, []}
use Rattle.std.specs.Prelude.{codes}
use Rattle.std.specs.Fmt.{decimal}
use Rattle.lfs_words.proofs.Spaced.{words_behind, put_words, some_err}
use Rattle.lfs_words.proofs.print.put_delete.Goals as goal

pub returns-in_err-put_option : goal.returns-in_err-put_option
returns-in_err-put_option c =
    some_err c.from_residual-in_err-put_option.result _ _ _ (codes "mirror" ∷ codes "delete" ∷ []) (codes "--mirror-id" ∷ decimal c.args.mirror ∷ []) (c.args.name.now ∷ []) c.from_residual-in_err-put_option.ensures.0
    (c.in_ok-put_words.ensures) c.in_err-put_option.ensures

pub returns : goal.returns
returns c =
    let start = codes "mirror" ∷ codes "delete" ∷ [] in
    let id = codes "--mirror-id" ∷ decimal c.args.mirror ∷ [] in
    put_words c.put_file.result _ _ _ (start ++ id) (c.args.name.now ∷ [])
    (words_behind _ _ _ start id c.in_ok-put_words.ensures c.in_ok-put_option.ensures) c.put_file.ensures
