-- Which layouts of files are sound.
use Rattle.std.specs.Prelude.{◌≡◌, ℕ, true}
use Rattle.composite_layout.specs.Layouts.{Composite, IsValid}
use Rattle.composite_layout.specs.LookUps.{wholly_fresh}

-- the layout is valid, and this mirror of it is there, and wholly fresh
pub record IsSoundLayout (l : Composite) : Type 0 where
  pub valid : IsValid l
  pub mirror : ℕ
  pub fresh : wholly_fresh mirror l.components ≡ true
