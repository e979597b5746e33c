-- The files so far are without the client's cookies.
use Rattle.std.proofs.Common.{◌≡◌}
use Rattle.meta_server.specs.Listing.{without_cookies}
use Rattle.meta_server.proofs.files.evict_all.Given as goal

abbrev pub invariant-loop-place : goal.invariant-loop-place
invariant-loop-place l = l.entries.entries ≡ without_cookies l.client l.place l.initial.entries.entries
