-- What a read has got so far.
use Rattle.std.specs.Prelude.{◌≡◌, ℕ, List, length, take}
use Rattle.flr_base.specs.declared.reply.Take.{Take}

-- the bytes of the first pieces, joined, and who answered each piece
pub record GotView : Type 0 where
  pub bytes : List ℕ
  pub takes : List Take

-- what a read had is still in front of what it has
pub record Extends (old new : GotView) : Type 0 where
  pub bytes : take (length old.bytes) new.bytes ≡ old.bytes
  pub takes : take (length old.takes) new.takes ≡ old.takes
