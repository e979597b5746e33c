-- What contracts see of a write and of a truncate.
use Rattle.std.specs.Prelude.{ℕ, List}
use Rattle.client_write.specs.declared.phase.WriteAt.{WriteAt}
use Rattle.client_write.specs.declared.phase.CutAt.{CutAt}

-- a write that runs: whose it is, which bytes go to which offset of which file, and what it does next
pub record WriteView : Type 0 where
  pub client : ℕ
  pub name : List ℕ
  pub offset : ℕ
  pub bytes : List ℕ
  pub at : WriteAt

-- a truncate that runs: whose it is, which size which file is to have, and what it does next
pub record TruncateView : Type 0 where
  pub client : ℕ
  pub name : List ℕ
  pub size : ℕ
  pub at : CutAt
