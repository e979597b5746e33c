use Rattle.resync_copy.proofs.asking.is_merge_there.Goals as goal

pub returns-then-is_ours_there : goal.returns-then-is_ours_there
returns-then-is_ours_there c =
    (λ e. (c.is_ours_there.ensures.0 c.if-is_ours_there.true, c.is_theirs_there.ensures.0 e), λ h. c.is_theirs_there.ensures.1 h.1)
