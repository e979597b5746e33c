-- What contracts see of a read.
use Rattle.std.specs.Prelude.{ℕ, List}
use Rattle.flr_base.specs.declared.reply.Range.{Range}
use Rattle.client_read.specs.declared.phase.ReadAt.{ReadAt}

-- a read that runs: whose it is, which bytes of which file it asks for, and what it does next
pub record ReadView : Type 0 where
  pub client : ℕ
  pub name : List ℕ
  pub range : Range
  pub at : ReadAt
