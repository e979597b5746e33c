use Rattle.std.proofs.Common.{◌++◌, ◌∷◌, []}
use Rattle.std.specs.Prelude.{codes}
use Rattle.lfs_words.specs.Printing.{parts_words}
use Rattle.lfs_words.proofs.Spaced.{words_behind, put_words, some_err}
use Rattle.lfs_words.proofs.print.put_setstripe.Goals as goal

pub returns-in_err-put_all_parts : goal.returns-in_err-put_all_parts
returns-in_err-put_all_parts c =
    some_err c.from_residual-in_err-put_all_parts.result _ _ _ (codes "setstripe" ∷ []) (parts_words c.args.spec.now) (c.args.name.now ∷ []) c.from_residual-in_err-put_all_parts.ensures.0
    (c.in_ok-put_word.ensures.appended) c.in_err-put_all_parts.ensures

pub returns : goal.returns
returns c =
    let start = codes "setstripe" ∷ [] in
    let parts = parts_words c.args.spec.now in
    put_words c.put_file.result _ _ _ (start ++ parts) (c.args.name.now ∷ [])
    (words_behind _ _ _ start parts c.in_ok-put_word.ensures.appended c.in_ok-put_all_parts.ensures) c.put_file.ensures
