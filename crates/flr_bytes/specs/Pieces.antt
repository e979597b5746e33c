-- What reads have in hand of their ranges, and verifies of their files.
use Rattle.std.specs.Prelude.{◌≡◌, ℕ, ◌+◌, List, [], ◌∷◌, length, take, Some}
use Rattle.flr_base.specs.declared.reply.Range.{Range}
use Rattle.composite_layout.specs.Layouts.{IsValid}
use Rattle.mirror_select.specs.declared.types.Piece.{Piece}
use Rattle.call_steps.specs.Pieces.{length_of}
use Rattle.client_read.specs.declared.phase.ReadAt.{ReadAt}
use Rattle.client_read.specs.declared.phase.ReadAt.TheVariants as read
use Rattle.client_read.specs.declared.phase.Reading.{Reading}
use Rattle.client_read.specs.Fitting.{HasPieces, IsAsked, IsObjectAt}
use Rattle.client_read.specs.Pieces.{next_object}
use Rattle.client_read.specs.Reads.{ids_of}
use Rattle.mirror_verify.specs.declared.phase.VerifyAt.{VerifyAt}
use Rattle.mirror_verify.specs.declared.phase.VerifyAt.TheVariants as verify
use Rattle.mirror_verify.specs.Fitting.{HasCopies}
use Rattle.mirror_verify.specs.Fitting as copies
use Rattle.flr_steps.specs.declared.client.Client.{Client}
use Rattle.flr_steps.specs.declared.client.Running.{Running}
use Rattle.flr_steps.specs.declared.client.Running.TheVariants as running
use Rattle.flr_steps.specs.States.{State, client_at}

-- how many bytes these pieces have
abbrev pub bytes_in : List Piece → ℕ
bytes_in [] = 0
bytes_in (p ∷ ps) = length_of p + bytes_in ps

-- the pieces are those of the range, by the layout that was opened, whose cookie is this client's, and so many bytes were got as the first so many pieces have
pub record HasGot (client : ℕ) (range : Range) (x : Reading) (count : ℕ) : Type 0 where
  pub own : x.opened.cookie.client ≡ client
  pub pieces : HasPieces range x.opened.layout (ids_of x.failed) x.pieces
  pub got : length x.got.bytes ≡ bytes_in (take count x.pieces)

-- what a read has, by its phase: while it asks for locks it has got the holes that stand first
abbrev pub ReadHas : ℕ → Range → ReadAt → Type 0
ReadHas client range (read.Lock x next) = HasGot client range x (next_object x.pieces 0) × IsObjectAt x.pieces (next_object x.pieces 0)
ReadHas client range (read.Take x next) = HasGot client range x next × IsObjectAt x.pieces next
ReadHas client range (read.Again x) = (x.opened.cookie.client ≡ client) × IsValid x.opened.layout
ReadHas client range (read.Confirm x) = HasGot client range x (length x.pieces)
ReadHas client range other = Unit {0}

-- what a verify has, by its phase: the copies of its file, while it takes
abbrev pub VerifyHas : ℕ → VerifyAt → Type 0
VerifyHas client verify.Open = Unit {0}
VerifyHas client (verify.Take x next) = (x.opened.cookie.client ≡ client) × HasCopies x × copies.IsObjectAt x.copies next
VerifyHas client (verify.Close x fault) = x.opened.cookie.client ≡ client

abbrev pub Has : Running → Type 0
Has (running.Read call) = IsAsked call.range × ReadHas call.client call.range call.at
Has (running.Verify call) = VerifyHas call.client call.at
Has other = Unit {0}

-- so it is with the call of each client
abbrev pub HavePieces : State → Type 0
HavePieces s = (c : ℕ) (client : Client) → client_at s.clients c ≡ Some client → Has client.call
