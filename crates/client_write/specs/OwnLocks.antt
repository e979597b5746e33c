-- Locks that a client was granted in the meantime.
use Rattle.std.specs.Prelude.{◌≡◌, ◌++◌, ℕ, List, All}
use Rattle.extent_lock.specs.declared.lock.Lock.{Lock}

-- these locks and some of the client are held
abbrev pub HoldsOwn : ℕ → List Lock → List Lock → Type 0
HoldsOwn client held now = (own : List Lock) × All (λ (lock : Lock). lock.holder ≡ client) own × (now ≡ held ++ own)
