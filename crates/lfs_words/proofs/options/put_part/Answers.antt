use Rattle.std.proofs.Common.{◌++◌, rules}
use Rattle.flr_base.specs.Puts.{Puts}
use Rattle.lfs_words.specs.Printing.{after_spaces, end_words, size_words, count_words}
use Rattle.lfs_words.proofs.Spaced.{words_behind, put_words, some_err}
use Rattle.lfs_words.proofs.options.put_part.Goals as goal

pub returns-in_err-put_option : goal.returns-in_err-put_option
returns-in_err-put_option c =
    some_err c.from_residual-in_err-put_option.result _ _ _ (end_words c.args.part.end) (size_words c.args.part.size) (count_words c.args.part.count) c.from_residual-in_err-put_option.ensures.0
    (c.in_ok-put_end.ensures) c.in_err-put_option.ensures

pub returns : goal.returns
returns c =
    let count : Puts c.put_option.new.out.items c.put_count.new.out.items c.put_count.result (after_spaces (count_words c.args.part.count)) = search rules in
    put_words c.put_count.result _ _ _ (end_words c.args.part.end ++ size_words c.args.part.size) (count_words c.args.part.count)
    (words_behind _ _ _ (end_words c.args.part.end) (size_words c.args.part.size) c.in_ok-put_end.ensures c.in_ok-put_option.ensures) count
