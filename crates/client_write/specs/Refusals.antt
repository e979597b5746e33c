-- Which refusals take no memory.
use Rattle.std.specs.Prelude.{◌≡◌, false}
use Rattle.meta_server.specs.Outcomes.{Outcome, Gives, Refuses, Waits, names_file}

-- it is refused with an answer that names no file
abbrev pub IsPlainRefusal : {A : Type 0} → Outcome A → Type 0
IsPlainRefusal (Gives given after) = ⊥
IsPlainRefusal (Refuses reply) = names_file reply ≡ false
IsPlainRefusal (Waits holder) = ⊥
