-- What contracts see of a copy's call.
use Rattle.std.specs.Prelude.{ℕ, List}
use Rattle.meta_server.specs.declared.answers.CopyWhat.{CopyWhat}
use Rattle.resync_copy.specs.declared.phase.CopyAt.{CopyAt}

-- a copy that runs: whose it is, which file it is of, what it is for, and what it does next
pub record CopyView : Type 0 where
  pub client : ℕ
  pub name : List ℕ
  pub what : CopyWhat
  pub at : CopyAt
