use Rattle.std.proofs.Common.{◌++◌, ◌∷◌, []}
use Rattle.std.specs.Prelude.{codes}
use Rattle.lfs_words.proofs.Spaced.{words_behind, put_words, some_err}
use Rattle.lfs_words.proofs.print.put_extend_by.Goals as goal

pub returns-in_err-put_words-2 : goal.returns-in_err-put_words-2
returns-in_err-put_words-2 c =
    some_err c.from_residual-in_err-put_words-2.result _ _ _ (codes "mirror" ∷ codes "extend" ∷ []) (codes "-N" ∷ codes "-f" ∷ []) (c.args.victim.now ∷ [] ++ c.args.name.now ∷ []) c.from_residual-in_err-put_words-2.ensures.0
    (c.in_ok-put_words.ensures) c.in_err-put_words-2.ensures

pub returns-in_err-put_file : goal.returns-in_err-put_file
returns-in_err-put_file c =
    some_err c.from_residual-in_err-put_file.result _ _ _ ((codes "mirror" ∷ codes "extend" ∷ []) ++ codes "-N" ∷ codes "-f" ∷ []) (c.args.victim.now ∷ []) (c.args.name.now ∷ []) c.from_residual-in_err-put_file.ensures.0
    (words_behind _ _ _ (codes "mirror" ∷ codes "extend" ∷ []) (codes "-N" ∷ codes "-f" ∷ []) c.in_ok-put_words.ensures c.in_ok-put_words-2.ensures) c.in_err-put_file.ensures

pub returns : goal.returns
returns c =
    let start = codes "mirror" ∷ codes "extend" ∷ [] in
    let by = codes "-N" ∷ codes "-f" ∷ [] in
    put_words c.put_file-2.result _ _ _ ((start ++ by) ++ c.args.victim.now ∷ []) (c.args.name.now ∷ [])
    (words_behind _ _ _ (start ++ by) (c.args.victim.now ∷ []) (words_behind _ _ _ start by c.in_ok-put_words.ensures c.in_ok-put_words-2.ensures) c.in_ok-put_file.ensures) c.put_file-2.ensures
