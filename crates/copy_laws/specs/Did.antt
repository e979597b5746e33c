-- What single steps of a copy did.
use Rattle.std.specs.Prelude.{◌≡◌, ℕ, List, Some, Contains, length}
use Rattle.flr_base.specs.declared.reply.ObjectId.{ObjectId}
use Rattle.mirror_select.specs.declared.types.Piece.{Piece}
use Rattle.object_target.specs.declared.call.CallAnswer.{CallAnswer}
use Rattle.object_target.specs.declared.call.CallAnswer.TheVariants as answer
use Rattle.object_target.specs.declared.call.CallEntry.{CallEntry}
use Rattle.object_target.specs.declared.call.CallKind.TheVariants as kind
use Rattle.object_target.specs.Calls.{after_write}
use Rattle.call_steps.specs.Pieces.{length_of, object_of}
use Rattle.call_steps.specs.Runs.{CallStep, Calls}
use Rattle.call_steps.specs.Servers.{with_target}
use Rattle.resync_copy.specs.Calls.{CopyView}
use Rattle.resync_copy.specs.Copies.{bytes_in, target_of}
use Rattle.resync_copy.specs.Fitting.{CopyFits, IsSoundCopy}

-- a step of a copy that its caller may make
pub record IsMade (made : CallStep CopyView) : Type 0 where
  pub sound : IsSoundCopy made.call
  pub fits : CopyFits made.call made.before

-- one of these steps is such a one
abbrev pub HasStep : (CallStep CopyView → Type 0) → List (CallStep CopyView) → Type 0
HasStep P steps = (made : CallStep CopyView) × Contains steps made × P made

-- the step called the object's target so, which has that in its log
abbrev pub CallsObject : CallStep CopyView → ObjectId → CallEntry → Type 0
CallsObject made o entry = (call : ℕ) × Calls made o.target call entry

-- the entry of a fence of an object with this generation
abbrev pub fence_of : ObjectId → ℕ → CallAnswer → CallEntry
fence_of o generation came = record { kind = kind.Fence; object = o.number; offset = 0; length = 0; version = generation; answer = came }

-- the entry of a reset
abbrev pub reset_of : ObjectId → ℕ → CallAnswer → CallEntry
reset_of o generation came = record { kind = kind.Reset; object = o.number; offset = 0; length = 0; version = generation; answer = came }

-- the entry of a take of a piece
abbrev pub take_of : Piece → CallAnswer → CallEntry
take_of p came = record { kind = kind.Read; object = (object_of p).number; offset = p.offset; length = length_of p; version = 0; answer = came }

-- the entry of a put of these bytes as a piece
abbrev pub put_of : Piece → List ℕ → ℕ → CallAnswer → CallEntry
put_of p bytes generation came = record { kind = kind.Write; object = (object_of p).number; offset = p.offset; length = length bytes; version = generation; answer = came }

-- an Ok fence of the object with this generation
abbrev pub IsFence : ObjectId → ℕ → CallStep CopyView → Type 0
IsFence o generation made = CallsObject made o (fence_of o generation answer.Ok)

-- an Ok reset of the object
abbrev pub IsReset : ObjectId → ℕ → CallStep CopyView → Type 0
IsReset o generation made = CallsObject made o (reset_of o generation answer.Ok)

-- an Ok take of the piece, which had these bytes
pub record IsTake (p : Piece) (bytes : List ℕ) (made : CallStep CopyView) : Type 0 where
  pub there : p.object ≡ Some (object_of p)
  pub called : CallsObject made (object_of p) (take_of p answer.Ok)
  pub held : bytes ≡ bytes_in made.before p

-- an Ok put of these bytes as the piece, with this generation
pub record IsOkPut (p : Piece) (generation : ℕ) (bytes : List ℕ) (made : CallStep CopyView) : Type 0 where
  pub there : p.object ≡ Some (object_of p)
  pub called : CallsObject made (object_of p) (put_of p bytes generation answer.Ok)
  pub wrote : made.after ≡ with_target made.before (object_of p).target (after_write (target_of made.before (object_of p)) (object_of p).number p.offset bytes generation)
