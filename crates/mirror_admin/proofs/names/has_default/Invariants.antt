use Rattle.std.proofs.Common.{ℕ, ◌<◌}
use Rattle.std.specs.Prelude.{◌≢◌}
use Rattle.meta_server.specs.Files.{file_at}
use Rattle.lfs_words.specs.Naming.{default_name}
use Rattle.mirror_admin.proofs.names.has_default.Given as goal

abbrev pub invariant-loop-place : goal.invariant-loop-place
invariant-loop-place l = (k : ℕ) → k < l.place → (file_at l.meta.files k).name ≢ default_name l.name l.mirror
