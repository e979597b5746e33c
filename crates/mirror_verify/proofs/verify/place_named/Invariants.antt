use Rattle.std.proofs.Common.{◌≡◌, drop}
use Rattle.meta_server.specs.Files.{file_named}
use Rattle.mirror_verify.proofs.verify.place_named.Given as goal

abbrev pub invariant-loop-place : goal.invariant-loop-place
invariant-loop-place l = file_named l.name l.meta.files ≡ file_named l.name (drop l.place l.meta.files)
