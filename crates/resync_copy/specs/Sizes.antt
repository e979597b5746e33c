-- How big a file may be that is copied.
use Rattle.std.specs.Prelude.{ℕ, ◌≤◌}
use Rattle.std.specs.Option.{ForSome}
use Rattle.meta_server.specs.Closing.{size_of}
use Rattle.meta_server.specs.Files.{MetaView}
use Rattle.flr_base.specs.Limits.{most_bytes}

-- the file isn't too big
abbrev pub IsSmall : ℕ → MetaView → Type 0
IsSmall file m = ForSome (size_of file m) (λ size. size ≤ most_bytes)
