-- The primary is the least mirror that may be it.
use Rattle.std.proofs.Common.{◌≡◌, rules, subst, sym}
use Rattle.layout_state.specs.Choosing.{IsPrimary, primary_of}
use Rattle.layout_state.proofs.ChoiceLaws.{primary_least, primary_fresh}
use Rattle.layout_state.proofs.choices.primary.Goals as goal

is_least : (c : goal.After-or_else) → IsPrimary c.args.range c.args.layout.now.components c.or_else.result
is_least c =
    let says : c.or_else.result ≡ primary_of c.args.range c.args.layout.now.components = search rules in
    subst (IsPrimary c.args.range c.args.layout.now.components) (sym says) (primary_least c.args.layout.now c.components-components.ensures.valid c.args.range)

pub returns-clause-least : goal.returns-clause-least
returns-clause-least c = is_least c

pub returns-clause-fresh : goal.returns-clause-fresh
returns-clause-fresh c = primary_fresh c.args.range c.args.layout.now.components c.or_else.result (is_least c)
