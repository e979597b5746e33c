use Rattle.client_write.proofs.asking.has_room.Goals as goal

pub returns-then-has_generation_room : goal.returns-then-has_generation_room
returns-then-has_generation_room c =
    (λ e. (c.has_generation_room.ensures.says.0 c.if-has_generation_room.true, c.has_object_room.ensures.says.0 e), λ h. c.has_object_room.ensures.says.1 h.1)
