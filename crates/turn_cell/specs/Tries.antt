-- What a try for the turn does to the view of its seat.
use Rattle.std.specs.Prelude.{◌≡◌, ℕ, ◌*◌, ◌^◌, ◌<◌, true, false, List, length, Some}
use Rattle.turn_cell.specs.declared.view.View.{View}
use Rattle.turn_cell.specs.Schedules.{IsFront}

-- the try found another seat with the turn, and the view is as it was else
pub record IsViewOfBusy {O : Type 0} (old new : View O) : Type 0 where
  pub origin : new.origin ≡ old.origin
  pub seen : new.seen ≡ old.seen
  pub mine : new.mine ≡ old.mine
  pub busy : old.busy < new.busy
  pub has_turn : new.has_turn ≡ false

-- the try got the turn at this word, and with it a value whose schedule begins with what the seat had seen
pub record IsViewOfTurn {W O : Type 0} (schedule : W → List ℕ) (origin : W → O) (old : View O) (value : W) (word : ℕ) (new : View O) : Type 0 where
  pub word_is : word ≡ 2 * length (schedule value)
  pub few : length (schedule value) < 2 ^ 32
  pub front : IsFront old.seen (schedule value)
  pub same : old.origin ≡ Some (origin value)
  pub origin_is : new.origin ≡ old.origin
  pub seen : new.seen ≡ schedule value
  pub mine : new.mine ≡ old.mine
  pub busy : new.busy ≡ old.busy
  pub has_turn : new.has_turn ≡ true
