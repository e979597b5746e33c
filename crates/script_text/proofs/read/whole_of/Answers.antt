use Rattle.std.proofs.Common.{◌≡◌, ℕ, Ok, sym, subst}
use Rattle.script_text.proofs.Together.{well_formed}
use Rattle.script_text.specs.TextLines.{lines_in}
use Rattle.script_text.specs.Wholes.{evictions_in}
use Rattle.script_text.proofs.read.whole_of.Goals as goal

pub of-requires : goal.of-requires
of-requires c =
    well_formed (lines_in c.args.text.now) c.args.part c.in_ok-evictions_in.field-0 c.requires.part c.requires.good
    (subst (λ (n : ℕ). evictions_in n 0 (lines_in c.args.text.now) ≡ Ok c.in_ok-evictions_in.field-0) c.len.ensures.count (sym c.in_ok-evictions_in.ensures))
