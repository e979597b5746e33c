use Rattle.resync_copy.proofs.asking.are_both_there.Goals as goal

pub returns-then-are_there : goal.returns-then-are_there
returns-then-are_there c =
    (λ e. (c.are_there.ensures.says.0 c.if-are_there.true, c.are_there-then-are_there.ensures.says.0 e), λ h. c.are_there-then-are_there.ensures.says.1 h.1)
