use Rattle.std.proofs.Common.{◌++◌, ◌∷◌, []}
use Rattle.std.specs.Prelude.{codes}
use Rattle.std.specs.Fmt.{decimal}
use Rattle.lfs_words.specs.Printing.{to_words}
use Rattle.lfs_words.proofs.Spaced.{words_behind, put_words, some_err}
use Rattle.lfs_words.proofs.print.put_split.Goals as goal

pub returns-in_err-put_option : goal.returns-in_err-put_option
returns-in_err-put_option c =
    some_err c.from_residual-in_err-put_option.result _ _ _ (codes "mirror" ∷ codes "split" ∷ []) (codes "--mirror-id" ∷ decimal c.args.mirror ∷ []) (to_words c.args.to.now ++ c.args.name.now ∷ []) c.from_residual-in_err-put_option.ensures.0
    (c.in_ok-put_words.ensures) c.in_err-put_option.ensures

pub returns-in_err-put_to : goal.returns-in_err-put_to
returns-in_err-put_to c =
    some_err c.from_residual-in_err-put_to.result _ _ _ ((codes "mirror" ∷ codes "split" ∷ []) ++ codes "--mirror-id" ∷ decimal c.args.mirror ∷ []) (to_words c.args.to.now) (c.args.name.now ∷ []) c.from_residual-in_err-put_to.ensures.0
    (words_behind _ _ _ (codes "mirror" ∷ codes "split" ∷ []) (codes "--mirror-id" ∷ decimal c.args.mirror ∷ []) c.in_ok-put_words.ensures c.in_ok-put_option.ensures) c.in_err-put_to.ensures

pub returns : goal.returns
returns c =
    let start = codes "mirror" ∷ codes "split" ∷ [] in
    let id = codes "--mirror-id" ∷ decimal c.args.mirror ∷ [] in
    let to = to_words c.args.to.now in
    put_words c.put_file.result _ _ _ ((start ++ id) ++ to) (c.args.name.now ∷ [])
    (words_behind _ _ _ (start ++ id) to (words_behind _ _ _ start id c.in_ok-put_words.ensures c.in_ok-put_option.ensures) c.in_ok-put_to.ensures) c.put_file.ensures
