-- A file of one mirror is valid.
use Rattle.std.proofs.Common.{◌≡◌, List, [], ◌∷◌, ◌++◌, true, false, refl, ap, ◌∙◌, arith}
use Rattle.flr_base.specs.declared.reply.ObjectId.{ObjectId}
use Rattle.composite_layout.specs.declared.component.Component.{Component}
use Rattle.composite_layout.specs.declared.component.State.TheVariants as states
use Rattle.composite_layout.specs.Layouts.{eof, IsValid}
use Rattle.tests_layouts.proofs.look_ups.used_up_to.Goals as goal

-- the component of the file's mirror
abbrev whole_file : List ObjectId → Component
whole_file objects = record {
  id = 65537;
  mirror = 1;
  flags = record { init = true; stale = false; prefer = false; offline = false; nosync = false };
  extent = record { start = 0; end = eof };
  stripe = record { size = 1048576; count = 1 };
  objects = objects;
}

file_valid : IsValid (record { generation = 2; state = states.Single; next_mirror = 2; next_counter = 65535; components = whole_file (record { target = 0; number = 1 } ∷ []) ∷ [] })
file_valid = record {
  mirrors = record { id = 1; parts = whole_file (record { target = 0; number = 1 } ∷ []) ∷ [] } ∷ [];
  whole = refl;
  ascend = (omega arith, omega arith, (refl, tt), (refl, omega arith, refl, refl), tt);
  numbered = (omega arith, omega arith, refl, tt);
  shaped = (record { id = refl; stripe = record { aligned = refl; least_size = omega arith; most_size = omega arith; least_count = omega arith; most_count = omega arith }; one_each = refl; objects = ((omega arith, omega arith), tt) }, tt);
  fresh = refl;
  low = omega arith;
  high = omega arith;
  generation = omega arith;
  below = omega arith;
  few = omega arith;
}

file_is : (none objects : List ObjectId) (empty cs : List Component) → none ≡ [] → objects ≡ none ++ record { target = 0; number = 1 } ∷ [] → empty ≡ [] → cs ≡ empty ++ whole_file objects ∷ []
    → IsValid (record { generation = 2; state = states.Single; next_mirror = 2; next_counter = 65535; components = cs })
file_is none objects empty cs is_none is is_empty all = rw (all, is_empty, is, is_none) file_valid

pub of-requires : goal.of-requires
of-requires c = file_is c.new-objects.result c.push.new.self c.new-components.result.items c.push-2.new.self.items c.new-objects.ensures.empty c.in_ok-push.ensures.appended c.new-components.ensures.items c.in_ok-push-2.ensures.items
