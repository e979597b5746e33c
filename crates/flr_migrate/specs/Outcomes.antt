-- What the migration of these bytes comes to.
use Rattle.std.specs.Prelude.{List, ℕ}
use Rattle.flr_migrate.specs.declared.migrate.Outcome.{Outcome}
use Rattle.flr_migrate.specs.declared.migrate.Outcome.TheVariants as outcome
use Rattle.flr_migrate.specs.Migrations.{IsMigrated, IsRefusal}

abbrev pub IsOutcome : List ℕ → Outcome → Type 0
IsOutcome bytes (outcome.Script text) = IsMigrated bytes text
IsOutcome bytes (outcome.Refusal text) = IsRefusal bytes text
