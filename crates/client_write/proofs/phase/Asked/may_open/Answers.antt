use Rattle.client_write.proofs.phase.Asked.may_open.Goals as goal

pub returns-then-may_share : goal.returns-then-may_share
returns-then-may_share c =
    (λ e. let room = c.has_room.ensures.0 e in (c.may_share.ensures.says.0 c.if-may_share.true, room.0, room.1), λ h. c.has_room.ensures.1 (h.1, h.2))
