-- The objects of a change are new.
use Rattle.layout_state.proofs.NameLaws.{objects_in_order, objects_between, objects_apart, numbers_grow}
use Rattle.layout_state.proofs.mark_laws.objects_are_new.Goals as goal

pub returns : goal.returns
returns c = record { in_order = objects_in_order; between = objects_between; apart = objects_apart; grow = numbers_grow }
