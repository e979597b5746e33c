use Rattle.std.proofs.Common.{◌≡◌, ℕ, ◌<◌}
use Rattle.std.specs.BTreeMap.{get, btree_map_len}
use Rattle.std.specs.Ordering.{nat_cmp}
use Rattle.object_pages.specs.Pages.{AreFull}
use Rattle.object_pages.proofs.pages.drop_pages.Given as goal

abbrev pub invariant-loop-pages : goal.invariant-loop-pages
invariant-loop-pages l = record {
  full : AreFull l.pages;
  front : (q : ℕ) → q < l.first → get nat_cmp l.pages q ≡ get nat_cmp l.initial.pages q;
}

abbrev pub decreases-loop-pages : goal.decreases-loop-pages
decreases-loop-pages l = btree_map_len l.pages
