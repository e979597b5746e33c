use Rattle.std.proofs.Common.{◌++◌, ◌∷◌, []}
use Rattle.std.specs.Prelude.{codes}
use Rattle.std.specs.Fmt.{decimal}
use Rattle.lfs_words.specs.Printing.{comp_flags_word}
use Rattle.lfs_words.proofs.Spaced.{words_behind, put_words, some_err}
use Rattle.lfs_words.proofs.print.put_comp_set.Goals as goal

pub returns-in_err-put_option : goal.returns-in_err-put_option
returns-in_err-put_option c =
    some_err c.from_residual-in_err-put_option.result _ _ _ (codes "setstripe" ∷ codes "--comp-set" ∷ []) (codes "-I" ∷ decimal c.args.id ∷ []) (comp_flags_word c.args.change ∷ [] ++ c.args.name.now ∷ []) c.from_residual-in_err-put_option.ensures.0
    (c.in_ok-put_words.ensures) c.in_err-put_option.ensures

pub returns-in_err-put_change : goal.returns-in_err-put_change
returns-in_err-put_change c =
    some_err c.from_residual-in_err-put_change.result _ _ _ ((codes "setstripe" ∷ codes "--comp-set" ∷ []) ++ codes "-I" ∷ decimal c.args.id ∷ []) (comp_flags_word c.args.change ∷ []) (c.args.name.now ∷ []) c.from_residual-in_err-put_change.ensures.0
    (words_behind _ _ _ (codes "setstripe" ∷ codes "--comp-set" ∷ []) (codes "-I" ∷ decimal c.args.id ∷ []) c.in_ok-put_words.ensures c.in_ok-put_option.ensures) c.in_err-put_change.ensures

pub returns : goal.returns
returns c =
    let start = codes "setstripe" ∷ codes "--comp-set" ∷ [] in
    let id = codes "-I" ∷ decimal c.args.id ∷ [] in
    let change = comp_flags_word c.args.change ∷ [] in
    put_words c.put_file.result _ _ _ ((start ++ id) ++ change) (c.args.name.now ∷ [])
    (words_behind _ _ _ (start ++ id) change (words_behind _ _ _ start id c.in_ok-put_words.ensures c.in_ok-put_option.ensures) c.in_ok-put_change.ensures) c.put_file.ensures
