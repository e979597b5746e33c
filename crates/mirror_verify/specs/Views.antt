-- What contracts see of a verify.
use Rattle.std.specs.Prelude.{ℕ, List}
use Rattle.mirror_verify.specs.declared.phase.VerifyAt.{VerifyAt}

-- a verify that runs: whose it is, which file it compares, and what it does next
pub record VerifyView : Type 0 where
  pub client : ℕ
  pub name : List ℕ
  pub at : VerifyAt
