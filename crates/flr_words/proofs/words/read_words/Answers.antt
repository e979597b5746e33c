use Rattle.std.proofs.Common.{◌∙◌, sym}
use Rattle.clap.specs.Words.{subcommand_rows_of}
use Rattle.flr_words.proofs.Answered.{passed_asks, refused_is_other}
use Rattle.flr_words.proofs.words.read_words.Goals as goal

pub returns-then-has_flag : goal.returns-then-has_flag
returns-then-has_flag c = refused_is_other _ (λ plain passes. cc)

pub returns-in-Some : goal.returns-in-Some
returns-in-Some c =
    let h = rw c.in-Some.is at c.in_ok-matches.ensures in
    passed_asks _ (subcommand_rows_of c.in-Some.matches) _ (sym c.has_flag.ensures ∙ c.if-has_flag.false) h.0 h.1 c.asked.ensures.run c.asked.ensures.replay c.asked.ensures.migrate c.asked.ensures.soak c.asked.ensures.random

pub returns-in-None : goal.returns-in-None
returns-in-None c =
    let h = rw c.in-None.is at c.in_ok-matches.ensures in
    refused_is_other _ (λ plain passes. h passes)
