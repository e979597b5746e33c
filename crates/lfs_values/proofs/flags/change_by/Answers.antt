use Rattle.std.proofs.Common.{ℕ, List, [], sym, ◌∙◌, arith}
use denote.Ref.{Bor}
use Rattle.lfs_values.proofs.FlagLaws.{flag_none, flag_twice, flag_more}
use Rattle.lfs_values.proofs.flags.change_by.Goals as goal

abbrev nothing : Bor (List ℕ)
nothing = record { ref_ptr = (0, 0); now = [] }

pub returns-in_default : goal.returns-in_default
returns-in_default c = flag_none c.args.words.now c.loop-word.word-index nothing c.loop-word.change c.loop-word.invariant (omega arith) (sym c.flag_word.ensures ∙ c.in_default.is)

pub returns-then-is_named : goal.returns-then-is_named
returns-then-is_named c = flag_twice c.args.words.now c.loop-word.word-index nothing c.loop-word.change c.in-Some.flag c.loop-word.invariant (omega arith) (sym c.in-Some.ensures) (sym c.is_named.ensures ∙ c.if-is_named.true)

pub loop-word-preserved : goal.loop-word-preserved
loop-word-preserved c = flag_more c.args.words.now c.loop-word.word-index nothing c.loop-word.change c.with_word-change.result c.in-Some.flag c.loop-word.invariant (omega arith) (sym c.in-Some.ensures) (sym c.is_named.ensures ∙ c.if-is_named.false) c.with_word-change.ensures
