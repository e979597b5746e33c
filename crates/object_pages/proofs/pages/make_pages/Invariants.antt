use Rattle.std.proofs.Common.{◌≡◌, ℕ, ◌-◌, ◌≤◌, length, take}
use Rattle.object_pages.specs.Pages.{byte_at, HasRoom, AreFull}
use Rattle.object_pages.proofs.pages.make_pages.Given as goal

abbrev pub invariant-loop-done : goal.invariant-loop-done
invariant-loop-done l = record {
  in_range : l.done ≤ length l.bytes;
  full : AreFull l.pages;
  same : (x : ℕ) → byte_at l.pages x ≡ byte_at l.initial.pages x;
  room : HasRoom l.pages l.offset (take l.done l.bytes);
}

abbrev pub decreases-loop-done : goal.decreases-loop-done
decreases-loop-done l = length l.bytes - l.done
