-- Who else writes to an object.
use Rattle.std.specs.Prelude.{◌≡◌, ◌≢◌, ℕ, Bool, ◌&&◌, ◌==◌, not}
use Rattle.flr_base.specs.declared.reply.ObjectId.{ObjectId}
use Rattle.extent_lock.specs.declared.lock.Lock.{Lock}
use Rattle.extent_lock.specs.declared.lock.Mode.TheVariants.{PW}
use Rattle.extent_lock.specs.Conflicts.{is_pw, same_object}

-- the lock is another client's PW on the object
pub record IsWriteBut (asker : ℕ) (object : ObjectId) (lock : Lock) : Type 0 where
  pub mode : lock.mode ≡ PW
  pub on : lock.object ≡ object
  pub another : lock.holder ≢ asker

-- the test of `IsWriteBut`
abbrev pub is_write_but : ℕ → ObjectId → Lock → Bool
is_write_but asker object lock = is_pw lock.mode && (same_object lock.object object && not (lock.holder == asker))
