use Rattle.std.proofs.Common.{◌≡◌, true, take}
use Rattle.std.specs.List.{list_all}
use Rattle.layout_text.specs.Viable.{is_object}
use Rattle.layout_text.proofs.place.are_objects.Given as goal

abbrev pub invariant-loop-object : goal.invariant-loop-object
invariant-loop-object l = list_all is_object (take l.object-index l.objects) ≡ true
