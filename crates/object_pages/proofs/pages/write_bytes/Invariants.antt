use Rattle.std.proofs.Common.{◌≡◌, ℕ, ◌-◌, ◌≤◌, length, take}
use Rattle.object_pages.specs.Bytes.{overlaid}
use Rattle.object_pages.specs.Pages.{byte_at, HasRoom, AreFull}
use Rattle.object_pages.proofs.pages.write_bytes.Given as goal

abbrev pub invariant-loop-done : goal.invariant-loop-done
invariant-loop-done l = record {
  in_range : l.done ≤ length l.bytes;
  full : AreFull l.pages;
  room : HasRoom l.pages l.offset l.bytes;
  bytes : (x : ℕ) → byte_at l.pages x ≡ overlaid (byte_at l.initial.pages) l.offset (take l.done l.bytes) x;
}

abbrev pub decreases-loop-done : goal.decreases-loop-done
decreases-loop-done l = length l.bytes - l.done
