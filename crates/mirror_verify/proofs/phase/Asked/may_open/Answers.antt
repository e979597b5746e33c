use Rattle.mirror_verify.proofs.phase.Asked.may_open.Goals as goal

pub returns-then-may_share : goal.returns-then-may_share
returns-then-may_share c =
    (λ e. (c.may_share.ensures.says.0 c.if-may_share.true, c.is_small.ensures.0 e), λ h. c.is_small.ensures.1 h.1)
