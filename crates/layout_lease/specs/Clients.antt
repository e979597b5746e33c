-- What both tables say of clients and numbers.
use Rattle.std.specs.Prelude.{ℕ, ◌≤◌}

-- clients are numbered from 1 to 16
abbrev pub IsClient : ℕ → Type 0
IsClient client = (1 ≤ client) × (client ≤ 16)
