use Rattle.std.proofs.Common.{◌++◌, ◌∷◌, []}
use Rattle.std.specs.Prelude.{codes}
use Rattle.std.specs.List.{flat_map}
use Rattle.lfs_words.specs.Printing.{mirror_words}
use Rattle.lfs_words.proofs.Spaced.{words_behind, put_words, some_err}
use Rattle.lfs_words.proofs.print.put_create.Goals as goal

pub returns-in_err-put_mirrors : goal.returns-in_err-put_mirrors
returns-in_err-put_mirrors c =
    some_err c.from_residual-in_err-put_mirrors.result _ _ _ (codes "mirror" ∷ codes "create" ∷ []) (flat_map mirror_words c.args.spec.now) (c.args.name.now ∷ []) c.from_residual-in_err-put_mirrors.ensures.0
    (c.in_ok-put_words.ensures) c.in_err-put_mirrors.ensures

pub returns : goal.returns
returns c =
    let start = codes "mirror" ∷ codes "create" ∷ [] in
    let mirrors = flat_map mirror_words c.args.spec.now in
    put_words c.put_file.result _ _ _ (start ++ mirrors) (c.args.name.now ∷ [])
    (words_behind _ _ _ start mirrors c.in_ok-put_words.ensures c.in_ok-put_mirrors.ensures) c.put_file.ensures
