-- The objects of the stripes so far are made.
use Rattle.std.proofs.Common.{◌≡◌, ℕ, ◌+◌, ◌<◌, ◌++◌, length, drop, get_or}
use Rattle.layout_state.specs.Making.{nexts_after, objects_on, targets_of}
use Rattle.layout_state.proofs.objects.make_objects.Given as goal

abbrev pub invariant-loop-stripe : goal.invariant-loop-stripe
invariant-loop-stripe l = record {
  same_length : length l.next.items ≡ length l.initial.next.items;
  room : (target : ℕ) → get_or l.next.items target 0 < 4294967232 + l.stripe;
  made : l.objects ++ objects_on l.next.items (drop l.stripe (targets_of (length l.initial.next.items) l.file l.component)) ≡ objects_on l.initial.next.items (targets_of (length l.initial.next.items) l.file l.component);
  past : nexts_after l.next.items (drop l.stripe (targets_of (length l.initial.next.items) l.file l.component)) ≡ nexts_after l.initial.next.items (targets_of (length l.initial.next.items) l.file l.component);
}
