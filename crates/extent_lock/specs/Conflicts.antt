-- When two extent locks conflict.
use Rattle.std.specs.Prelude.{◌≡◌, ◌≢◌, ℕ, ◌≤◌, ◌<◌, min, max, Bool, true, false, ◌&&◌, ◌||◌, ◌==◌, nat_lt, not, ◌⊎◌, List, Contains}
use Rattle.flr_base.specs.declared.reply.Range.{Range}
use Rattle.flr_base.specs.declared.reply.ObjectId.{ObjectId}
use Rattle.extent_lock.specs.declared.lock.Lock.{Lock}
use Rattle.extent_lock.specs.declared.lock.Mode.{Mode}
use Rattle.extent_lock.specs.declared.lock.Mode.TheVariants.{PR, PW}

-- the byte at x lies in the range
pub record Covers (range : Range) (x : ℕ) : Type 0 where
  pub from : range.start ≤ x
  pub below : x < range.end

-- the locks may not be held at once: of different clients, on one object, with a byte in common, at least one of them PW
pub record Conflict (a b : Lock) : Type 0 where
  pub clients : a.holder ≢ b.holder
  pub on : a.object ≡ b.object
  pub byte : ℕ
  pub ours : Covers a.range byte
  pub theirs : Covers b.range byte
  pub exclusive : (a.mode ≡ PW) ⊎ (b.mode ≡ PW)

-- no two of these locks conflict
abbrev pub AreApart : List Lock → Type 0
AreApart locks = (a b : Lock) → Contains locks a → Contains locks b → ¬ Conflict a b

-- the lock conflicts with none of these
abbrev pub ConflictsWithNone : List Lock → Lock → Type 0
ConflictsWithNone locks asked = (lock : Lock) → Contains locks lock → ¬ Conflict asked lock

abbrev pub is_pw : Mode → Bool
is_pw PR = false
is_pw PW = true

-- the objects are the same
abbrev pub same_object : ObjectId → ObjectId → Bool
same_object a b = (a.target == b.target) && (a.number == b.number)

-- the ranges have a byte in common
abbrev pub overlaps : Range → Range → Bool
overlaps a b = nat_lt (max a.start b.start) (min a.end b.end)

-- the test of `Conflict`
abbrev pub conflicts : Lock → Lock → Bool
conflicts a b =
    same_object a.object b.object && (not (a.holder == b.holder) && (overlaps a.range b.range && (is_pw a.mode || is_pw b.mode)))
