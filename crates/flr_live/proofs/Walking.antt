-- Calls that ask for the extent locks of their pieces one after another.
use Rattle.std.proofs.Common.{◌≡◌, ℕ, ◌<◌, ◌≤◌, false, Option, Some, List, [], ◌∷◌, length, Contains, inl, inr, sym, ap, subst, ◌∙◌, arith}
use Rattle.std.specs.Prelude.{is_some}
use Rattle.flr_base.specs.declared.reply.ObjectId.{ObjectId}
use Rattle.flr_base.specs.declared.reply.Range.{Range}
use Rattle.composite_layout.specs.declared.component.Component.{Component}
use Rattle.composite_layout.specs.Layouts.{Composite, eof}
use Rattle.composite_layout.specs.LookUps.{covers}
use Rattle.mirror_select.specs.declared.types.Piece.{Piece}
use Rattle.mirror_select.specs.Candidates.{chosen}
use Rattle.mirror_select.specs.Laws.{ArePieces}
use Rattle.mirror_select.specs.Pieces.{component_of}
use Rattle.mirror_select.proofs.ChoiceLaws.{chosen_least, read_pieces, write_pieces}
use Rattle.mirror_select.proofs.Least.{found_in, to_contains}
use Rattle.extent_lock.specs.declared.lock.Lock.{Lock}
use Rattle.extent_lock.specs.declared.lock.Mode.TheVariants.{PR, PW}
use Rattle.extent_lock.specs.Conflicts.{Conflict}
use Rattle.extent_lock.specs.Extents.{locks_of}
use Rattle.call_steps.specs.Pieces.{piece_at}
use Rattle.call_steps.proofs.PieceLaws.{within}
use Rattle.client_read.specs.declared.phase.ReadAt.{ReadAt}
use Rattle.client_read.specs.declared.phase.ReadAt.TheVariants as read
use Rattle.client_read.specs.declared.phase.Reading.{Reading}
use Rattle.client_read.specs.Fitting as read_fitting
use Rattle.client_read.specs.Reads.{ids_of}
use Rattle.client_read.specs.Reads as reads
use Rattle.client_read.specs.Views.{ReadView}
use Rattle.client_write.specs.declared.phase.WriteAt.{WriteAt}
use Rattle.client_write.specs.declared.phase.WriteAt.TheVariants as write
use Rattle.client_write.specs.Calls.{WriteView}
use Rattle.client_write.specs.Fitting as write_fitting
use Rattle.client_write.specs.Views.{WritingView}
use Rattle.client_write.specs.Writes.{range_of}
use Rattle.client_write.specs.Writes as writes
use Rattle.client_write.proofs.Writable.{has_object}
use Rattle.script_values.specs.declared.command.Command.{Command}
use Rattle.flr_steps.specs.declared.client.Client.{Client}
use Rattle.flr_steps.specs.declared.client.Running.{Running}
use Rattle.flr_steps.specs.declared.client.Running.TheVariants as running
use Rattle.flr_steps.specs.Clients.{call_now}
use Rattle.flr_steps.specs.States.{State, client_at}
use Rattle.flr_steps.specs.Traces.{is_idle}
use Rattle.flr_numbers.specs.Calls.{read_hand, write_hand}
use Rattle.flr_locks.specs.Phases.{AreReadLocks, AreWriteLocks}
use Rattle.flr_pieces.proofs.Reading.{IsRange}
use Rattle.flr_shapes.specs.Sentences.{HasShape, HasShapeAmong, HaveOneShape, IsShapeIn, Shape, layout_of, layouts_of}
use Rattle.flr_claims.specs.Blocking.{Extents, needs_of, read_needs, write_needs}
use Rattle.flr_live.proofs.Bytes.{IsByteOf, LiesIn, byte_of, one_byte, piece_lies}
use Rattle.flr_live.proofs.Holders.{HoldsLock}
use Rattle.flr_live.proofs.Pieces.{IsLockBefore, IsLockOf, ascend, before, before_of, is_lock, no_piece}

-- ---- pieces of a range

-- the pieces lie in their objects by the layout, they ascend, and none begins at the end of all files
pub record AreInRow (l : Composite) (pieces : List Piece) : Type 0 where
  pub lie : (i : ℕ) → i < length pieces → LiesIn l (piece_at pieces i)
  pub ascend : (i j : ℕ) → i < j → j < length pieces → (piece_at pieces i).range.end ≤ (piece_at pieces j).range.start
  pub below : (i : ℕ) → i < length pieces → (piece_at pieces i).range.start < eof

in_row : (l : Composite) (whose : ℕ → Option Component) (range : Range) (pieces : List Piece) → ((x : ℕ) (c : Component) → whose x ≡ Some c → Contains l.components c) → range.end < eof → ArePieces whose range pieces → AreInRow l pieces
in_row l whose range pieces among end are = record {
  lie = λ i h. piece_lies l whose (piece_at pieces i) among (are.each i no_piece h);
  ascend = λ i j lt h. ascend pieces range.start range.end are.tile i j no_piece lt h;
  below = λ i h. (let w = within whose range pieces are i no_piece h in let some = w.some in let high = w.high in omega (arith, some, high, end));
}

read_row : (range : Range) (l : Composite) (failed : List ℕ) (pieces : List Piece) → IsRange range → read_fitting.HasPieces range l failed pieces → AreInRow l pieces
read_row range l failed pieces is has =
    in_row l (chosen l.components failed) range pieces (λ x c e. ((chosen_least l failed x c has.valid).0 e).there) is.high
    (subst (λ (ps : List Piece). ArePieces (chosen l.components failed) range ps) (sym has.are) (read_pieces l range failed has.valid is.low is.high has.answered))

write_row : (range : Range) (x : WritingView) → write_fitting.IsAsked range → write_fitting.HasPieces range x → AreInRow x.opened.layout x.pieces
write_row range x asked has =
    let l : Composite = x.opened.layout in
    let low : range.start ≤ range.end = omega (arith, asked.some) in
    let high : range.end < eof = omega (arith, has.below) in
    let law = write_pieces l range has.valid has.ready low high in
    in_row l (component_of l.components (Some law.0)) range x.pieces (λ y c e. to_contains l.components c (found_in (covers law.0 y) l.components c e).0) high
    (subst (λ (ps : List Piece). ArePieces (component_of l.components (Some law.0)) range ps) (sym has.are) law.2)

-- ---- a call at one of its pieces

-- the client's call asks for the lock of this piece, and holds none but those of pieces before it; it has the layout of the pieces in hand
pub record Walks (s : State) (c : ℕ) : Type 0 where
  pub client : Client
  pub here : client_at s.clients c ≡ Some client
  pub busy : is_idle client.call ≡ false
  pub layout : Composite
  pub in_hand : (o : ObjectId) (shape : Shape) → HasShape o shape layout → HasShapeAmong o shape (layouts_of client.call)
  pub pieces : List Piece
  pub row : AreInRow layout pieces
  pub next : ℕ
  pub there : next < length pieces
  pub asks : Lock
  pub of : IsLockOf (piece_at pieces next) asks
  pub needs : (asked : Command) → needs_of (call_now c client.call asked) asked s.shared ≡ Extents (asks ∷ [])
  pub held : (lock : Lock) → Contains (locks_of c s.shared.locks) lock → IsLockBefore pieces next lock

-- where the piece begins
abbrev pub start_of : {s : State} {c : ℕ} → Walks s c → ℕ
start_of w = (piece_at w.pieces w.next).range.start

module _ (s : State) (c : ℕ) (client : Client) (here : client_at s.clients c ≡ Some client) where
  pub read_walks : (r : ReadView) (x : Reading) (next : ℕ) → client.call ≡ running.Read r → r.at ≡ read.Lock x next → IsRange r.range → read_fitting.HasPieces r.range x.opened.layout (ids_of x.failed) x.pieces
      → AreReadLocks r (read.Lock x next) (locks_of c s.shared.locks) → Walks s c
  read_walks r x next is at range has own = record {
    client = client;
    here = here;
    busy = ap is_idle is;
    layout = x.opened.layout;
    in_hand = λ o shape h. subst (λ (call : Running). HasShapeAmong o shape (layouts_of call)) (sym is) (subst (λ (a : ReadAt). HasShapeAmong o shape (layout_of (read_hand a).opened)) (sym at) (inl h));
    pieces = x.pieces;
    row = read_row r.range x.opened.layout (ids_of x.failed) x.pieces range has;
    next = next;
    there = own.1.there;
    asks = reads.lock_for r (piece_at x.pieces next);
    of = is_lock r.client PR (piece_at x.pieces next) own.1.object;
    needs = λ asked. ap (λ (call : Running). needs_of (call_now c call asked) asked s.shared) is ∙ ap (read_needs r) at;
    held = λ lock h. before_of (reads.lock_for r) x.pieces next lock (λ (p : Piece). is_some p.object) (λ p e. is_lock r.client PR p e) (subst (λ (ls : List Lock). Contains ls lock) own.0 h);
  }

  pub write_walks : (w : WriteView) (x : WritingView) (next : ℕ) → client.call ≡ running.Write w → w.at ≡ write.Lock x next → write_fitting.IsAsked (range_of w) → write_fitting.HasPieces (range_of w) x → next < length x.pieces
      → AreWriteLocks w (write.Lock x next) (locks_of c s.shared.locks) → Walks s c
  write_walks w x next is at asked has there own = record {
    client = client;
    here = here;
    busy = ap is_idle is;
    layout = x.opened.layout;
    in_hand = λ o shape h. subst (λ (call : Running). HasShapeAmong o shape (layouts_of call)) (sym is) (subst (λ (a : WriteAt). HasShapeAmong o shape (layout_of (write_hand a).opened)) (sym at) (inl h));
    pieces = x.pieces;
    row = write_row (range_of w) x asked has;
    next = next;
    there = there;
    asks = writes.lock_for w (piece_at x.pieces next);
    of = locked next there;
    needs = λ asked. ap (λ (call : Running). needs_of (call_now c call asked) asked s.shared) is ∙ ap (λ (a : WriteAt). write_needs w a s.shared) at;
    held = λ lock h. before (writes.lock_for w) x.pieces next lock locked (subst (λ (ls : List Lock). Contains ls lock) own h);
  }
    where
      locked : (i : ℕ) → i < length x.pieces → IsLockOf (piece_at x.pieces i) (writes.lock_for w (piece_at x.pieces i))
      locked i h = is_lock w.client PW (piece_at x.pieces i) (has_object (range_of w) x i asked has h)

-- ---- one call that waits for another

-- a call that asks for a lock of another one, which asks for a lock itself, asks for that of an earlier piece of the file
pub rises : (s : State) (c holder : ℕ) → HaveOneShape s → (w : Walks s c) (v : Walks s holder) → HoldsLock s.shared.locks holder (Conflict w.asks) → start_of w < start_of v
rises s c holder one w v held =
    let conflict = held.kind in
    let earlier = v.held held.lock held.there in
    let mine : IsByteOf w.layout (piece_at w.pieces w.next) w.asks.object conflict.byte = byte_of w.layout (piece_at w.pieces w.next) w.asks conflict.byte (w.row.lie w.next w.there) w.of conflict.ours in
    let found : IsByteOf v.layout (piece_at v.pieces earlier.0) held.lock.object conflict.byte = byte_of v.layout (piece_at v.pieces earlier.0) held.lock conflict.byte (v.row.lie earlier.0 earlier.2) earlier.3 conflict.theirs in
    let theirs : IsByteOf v.layout (piece_at v.pieces earlier.0) w.asks.object conflict.byte = subst (λ (o : ObjectId). IsByteOf v.layout (piece_at v.pieces earlier.0) o conflict.byte) (sym conflict.on) found in
    let shaped : IsShapeIn s w.asks.object mine.shape = inr (record { number = c; client = w.client; here = w.here; has = w.in_hand w.asks.object mine.shape mine.is.has }) in
    let shaped_too : IsShapeIn s w.asks.object theirs.shape = inr (record { number = holder; client = v.client; here = v.here; has = v.in_hand w.asks.object theirs.shape theirs.is.has }) in
    let same : mine.byte ≡ theirs.byte = one_byte w.layout v.layout w.asks.object mine.shape theirs.shape mine.byte theirs.byte conflict.byte (one w.asks.object mine.shape theirs.shape shaped shaped_too) mine.is theirs.is in
    let low = mine.low in
    let high = theirs.high in
    let up = v.row.ascend earlier.0 v.next earlier.1 v.there in
    omega (arith, same, low, high, up)
