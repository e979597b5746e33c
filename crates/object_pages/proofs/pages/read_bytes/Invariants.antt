use Rattle.std.proofs.Common.{◌≡◌, ℕ, ◌+◌, ◌-◌, ◌<◌, ◌≤◌, length, get_or}
use Rattle.object_pages.specs.Pages.{byte_at}
use Rattle.object_pages.proofs.pages.read_bytes.Given as goal

abbrev pub invariant-loop-done : goal.invariant-loop-done
invariant-loop-done l = record {
  in_range : l.done ≤ length l.buf;
  so_far : (k : ℕ) → k < l.done → get_or l.buf k 0 ≡ byte_at l.pages (l.offset + k);
}

abbrev pub decreases-loop-done : goal.decreases-loop-done
decreases-loop-done l = length l.initial.buf - l.done
