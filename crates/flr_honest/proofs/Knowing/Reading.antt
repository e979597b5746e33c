-- What a read knows after each of its steps, by the bytes that the plain file had before it.
use Rattle.std.proofs.Common.{◌≡◌, ℕ, zero, suc, ◌==◌, length-append, ◌+◌, ◌-◌, ◌^◌, ◌<◌, ◌≤◌, Bool, true, false, cond, nat_lt, Option, Some, None, List, [], ◌∷◌, ◌++◌, length, take, drop, get_or, inl, inr, refl, sym, ap, subst, ◌∙◌, lit<, arith}
use Rattle.std.specs.Prelude.{Contains, is_none, is_some}
use Rattle.std.specs.List.{AllByRecursion}
use Rattle.std.specs.Option.{option_map_or}
use Rattle.std.proofs.lemmas.List.{take_more}
use Rattle.flr_base.proofs.Bytes.{length-piece}
use Rattle.flr_base.specs.declared.reply.ObjectId.{ObjectId}
use Rattle.flr_base.specs.declared.reply.Range.{Range}
use Rattle.flr_base.specs.declared.reply.TakeFrom.TheVariants.{Object}
use Rattle.flr_base.specs.declared.reply.TakeFrom.{TakeFrom}
use Rattle.composite_layout.specs.Layouts.{Composite, IsValid}
use Rattle.extent_lock.specs.declared.lock.Lock.{Lock}
use Rattle.extent_lock.specs.Extents.{blocker, locks_of}
use Rattle.extent_lock.proofs.Members.{Contains-filter_parts}
use Rattle.stripe_map.specs.Cutting.{Tile}
use Rattle.mirror_select.specs.declared.types.Piece.{Piece}
use Rattle.mirror_select.specs.Pieces.{pieces_of}
use Rattle.mirror_select.proofs.Least.{In}
use Rattle.mirror_select.proofs.Sound.{every_in}
use Rattle.object_target.specs.declared.call.CallAnswer.{CallAnswer}
use Rattle.object_target.specs.declared.call.CallAnswer.TheVariants as answer
use Rattle.object_target.specs.Calls.{read_answer}
use Rattle.object_target.specs.TargetState.{bytes_at, next_call}
use Rattle.meta_server.specs.declared.answers.Opened.{Opened}
use Rattle.meta_server.specs.Closing.{confirms, holds}
use Rattle.meta_server.specs.Files.{File, MetaView, file_named, file_of, with_change, with_share}
use Rattle.meta_server.specs.Opening.{opened}
use Rattle.meta_laws.proofs.Copies.{there_named}
use Rattle.call_steps.specs.Pieces.{length_of, object_of, piece_at}
use Rattle.call_steps.specs.Servers.{Servers, unlocked}
use Rattle.call_steps.specs.Steps.{Outcome, Going, Fixed}
use Rattle.client_read.specs.declared.phase.FailedTake.{FailedTake}
use Rattle.client_read.specs.declared.phase.ReadAt.{ReadAt}
use Rattle.client_read.specs.declared.phase.ReadAt.TheVariants as at
use Rattle.client_read.specs.declared.phase.Reading.{Reading}
use Rattle.client_read.specs.Fitting.{HasPieces, IsAsked, IsObjectAt}
use Rattle.client_read.specs.Got.{GotView}
use Rattle.client_read.specs.Pieces.{is_hole, next_object, nothing_got, with_holes, with_piece}
use Rattle.client_read.specs.Reads.{begins_with, bytes_of, confirms_read, ids_of, lock_for, locks_from, locks_piece, looks_again, opens_file, others_answer, read_at, reading, shares_file, takes_from, takes_piece, target_of, unanswered, with_answer}
use Rattle.client_read.specs.Views.{ReadView}
use Rattle.client_read.proofs.Readable.{are_pieces, lies}
use Rattle.client_read.proofs.RightTakes.{IsGiven, all_given, given}
use Rattle.flr_steps.specs.declared.client.Client.{Client}
use Rattle.flr_steps.specs.declared.client.Running.{Running}
use Rattle.flr_steps.specs.declared.client.Running.TheVariants as running
use Rattle.flr_steps.specs.States.{State, client_at}
use Rattle.flr_steps.specs.Traces.{Trace, is_opening, read_opens}
use Rattle.flr_claims.specs.Honesty.{IsOpen}
use Rattle.flr_claims.specs.Sending.{attempt_of}
use Rattle.flr_numbers.specs.Calls.{read_hand}
use Rattle.flr_numbers.specs.Sentences.{hand_of}
use Rattle.flr_locks.specs.Phases.{AreLocksOf, AreReadLocks, read_locks}
use Rattle.flr_bytes.specs.Calls.{IsGot, ReadSays}
use Rattle.flr_bytes.specs.Files.{HoldBytes}
use Rattle.flr_bytes.specs.Runs.{Ground}
use Rattle.flr_bytes.specs.Sentences.{byte_in}
use Rattle.flr_bytes.specs.Pieces.{HasGot, ReadHas, bytes_in}
use Rattle.flr_honest.proofs.Knowing.Lists.{AreFrom, bytes_append, from_both, holes_right, ranges, starts_at, tile_drop}
use Rattle.flr_honest.proofs.Knowing.Closed.{file_valid}
use Rattle.flr_honest.proofs.Knowing.Pieces.{IsThere, held_layout, held_there, hole_byte, lock_held, lock_shut, taken_byte}

-- where a call goes on, this holds of it and of the servers
abbrev pub OnNext : {C : Type 0} → (C → Servers → Type 0) → Outcome C → Type 0
OnNext P (Going next after) = P next after
OnNext P (Fixed next reply takes after) = P next after
OnNext P other = Unit {0}

-- while the cookie is held, the file was there before the step, and what is got are the bytes that it had then
abbrev pub IsGotSo : MetaView → MetaView → (ℕ → ℕ → ℕ) → ℕ → Reading → Type 0
IsGotSo old m byte start x = holds x.opened.file x.opened.cookie m ≡ true → ((f : File) × (file_of x.opened.file old.files ≡ Some f)) × AreFrom (byte x.opened.file) start x.got.bytes

abbrev pub SaysSo : MetaView → MetaView → (ℕ → ℕ → ℕ) → ℕ → ReadAt → Type 0
SaysSo old m byte start (at.Lock x next) = IsGotSo old m byte start x
SaysSo old m byte start (at.Take x next) = IsGotSo old m byte start x
SaysSo old m byte start (at.Confirm x) = IsGotSo old m byte start x
SaysSo old m byte start other = Unit {0}

module _ (old m : MetaView) (byte : ℕ → ℕ → ℕ) (start : ℕ) where
  takes_say : (x : Reading) (next : ℕ) → IsGotSo old m byte start x → SaysSo old m byte start (takes_from x next)
  takes_say x next h = by (nat_lt next (length x.pieces))
    where
      by : (b : Bool) → SaysSo old m byte start (cond b (at.Take x next) (at.Confirm x))
      by true = h
      by false = h

  locks_say : (x : Reading) (next : ℕ) → IsGotSo old m byte start x → SaysSo old m byte start (locks_from x next)
  locks_say x next h = by (nat_lt next (length x.pieces))
    where
      by : (b : Bool) → SaysSo old m byte start (cond b (at.Lock x next) (takes_from x (next_object x.pieces 0)))
      by true = h
      by false = takes_say x (next_object x.pieces 0) h

-- the bytes that a read may ask for are those that a file may have
pub asked_small : (range : Range) → IsAsked range → (y : ℕ) → y < range.end → y < 2 ^ 40
asked_small range asked y less = let a = asked.most in let b = asked.below in let c : 268435456 + 1048576 < 2 ^ 40 = lit< tt in omega (arith, a, b, c, less)

-- what is in the rest of a list is in it
drop_in : {X : Type 0} (n : ℕ) (xs : List X) (x : X) → In x (drop n xs) → In x xs
drop_in zero xs x i = i
drop_in (suc n) [] x i = i
drop_in (suc n) (y ∷ ys) x i = inr (drop_in n ys x i)

module _ (s : State) (tr : Trace) (g : Ground s tr) (hold : HoldBytes s tr) (r : ReadView) (asked : IsAsked r.range) where
  abbrev byte : ℕ → ℕ → ℕ
  byte = byte_in s tr

  -- pieces of a range end where it ends
  tile_most : (ps : List Piece) (start end : ℕ) → Tile (ranges ps) start end → start ≤ end
  tile_most [] start end t = omega (arith, t)
  tile_most (p ∷ ps) start end t = let rest = tile_most ps p.range.end end t.2 in let some = t.1 in omega (arith, rest, some)

  tile_in : (ps : List Piece) (start end : ℕ) → Tile (ranges ps) start end → (p : Piece) → In p ps → p.range.end ≤ end
  tile_in [] start end t p i = absurd i
  tile_in (q ∷ qs) start end t p (inl same) = let rest = tile_most qs q.range.end end t.2 in let one : q.range.end ≡ p.range.end = ap (λ (z : Piece). z.range.end) same in omega (arith, rest, one)
  tile_in (q ∷ qs) start end t p (inr more) = tile_in qs q.range.end end t.2 p more

  module _ (o : Opened) (failed : List FailedTake) (f : File) (found : file_of o.file s.shared.meta.files ≡ Some f) (same : o.layout ≡ f.layout) (ps : List Piece) (has : HasPieces r.range o.layout (ids_of failed) ps) where
    tile : Tile (ranges ps) r.range.start r.range.end
    tile = (are_pieces r.range o.layout (ids_of failed) ps asked has).tile

    each : AllByRecursion (IsGiven f.layout.components (ids_of failed)) ps
    each = subst (λ (l : Composite). AllByRecursion (IsGiven l.components (ids_of failed)) ps) same (all_given r.range o.layout (ids_of failed) ps asked has)

    -- a hole among the pieces has zeros
    pub hole_zero : (p : Piece) → In p ps → is_hole p ≡ true → (y : ℕ) → p.range.start ≤ y → y < p.range.end → byte o.file y ≡ 0
    hole_zero p i none y low high =
        let inside = tile_in ps r.range.start r.range.end tile p i in
        hole_byte s tr g o.file f found (ids_of failed) p (every_in (IsGiven f.layout.components (ids_of failed)) ps p each i) y low high hold (asked_small r.range asked y (omega (arith, inside, high))) none

    -- the holes that stand first are right
    pub first_holes : AreFrom (byte o.file) r.range.start (reading r.range o failed ps).got.bytes
    first_holes = holes_right (byte o.file) r.range.start r.range.end ps nothing_got (subst (λ n. Tile (ranges ps) n r.range.end) (let z : r.range.start ≡ r.range.start + 0 = omega arith in z) tile) hole_zero (λ i h. absurd (omega (arith, h)))

    -- so are those behind a piece, with what is taken of it
    module _ (got : GotView) (next : ℕ) (object : IsObjectAt ps next) (long : length got.bytes ≡ bytes_in (take next ps)) (right : AreFrom (byte o.file) r.range.start got.bytes) where
      abbrev p : Piece
      p = piece_at ps next

      some : is_hole p ≡ false
      some = by p.object object.object
        where
          by : (q : Option ObjectId) → is_some q ≡ true → is_none q ≡ false
          by None e = absurd (cc)
          by (Some x) e = refl

      its : IsGiven f.layout.components (ids_of failed) p
      its = subst (λ (l : Composite). IsGiven l.components (ids_of failed) p) same (given r.range o.layout (ids_of failed) ps asked has next object.there)

      first : p.range.start ≡ r.range.start + bytes_in (take next ps)
      first = starts_at ps r.range.start r.range.end next _ tile object.there

      abbrev bytes : List ℕ
      bytes = bytes_of s.shared p

      long_bytes : length bytes ≡ length_of p
      long_bytes = length-piece (bytes_at (target_of s.shared p) (object_of p).number) p.offset (length_of p)

      taken : ((y : ℕ) → p.range.start ≤ y → y < p.range.end → IsOpen s tr o.file y → ⊥) → AreFrom (byte o.file) (r.range.start + length got.bytes) bytes
      taken shut i h =
          let begins = first in
          let len = long_bytes in
          let here : r.range.start + length got.bytes + i ≡ p.range.start + i = omega (arith, begins, long) in
          let low : p.range.start ≤ p.range.start + i = omega arith in
          let high : p.range.start + i < p.range.end = omega (arith, h, len) in
          let far : p.range.start + i - p.range.start ≡ i = omega arith in
          let small : p.range.start + i < 2 ^ 40 = asked_small r.range asked (p.range.start + i) (omega (arith, high, last)) in
          ap (λ k. get_or bytes k 0) (sym far) ∙ taken_byte s tr g o.file f found (ids_of failed) p its (p.range.start + i) low high hold small some (shut (p.range.start + i) low high) ∙ ap (byte o.file) (sym here)
        where
          last : p.range.end ≤ r.range.end
          last = (lies r.range o.layout (ids_of failed) ps next asked has object.there).high

      front : r.range.start + bytes_in (take (next + 1) ps) ≡ r.range.start + length (got.bytes ++ bytes)
      front =
          let more : bytes_in (take (next + 1) ps) ≡ bytes_in (take next ps) + (length_of p + 0) = ap bytes_in (take_more ps next _ object.there) ∙ bytes_append (take next ps) (p ∷ []) in
          let both = length-append got.bytes bytes in
          let len = long_bytes in
          omega (arith, more, both, len, long)

      -- with it, and the holes behind it
      pub one_more : (source : TakeFrom) → ((y : ℕ) → p.range.start ≤ y → y < p.range.end → IsOpen s tr o.file y → ⊥) → AreFrom (byte o.file) r.range.start (with_holes (drop (next + 1) ps) (with_piece p bytes source got)).bytes
      one_more source shut =
          let less = object.there in
          holes_right (byte o.file) r.range.start r.range.end (drop (next + 1) ps) (with_piece p bytes source got) (subst (λ n. Tile (ranges (drop (next + 1) ps)) n r.range.end) front (tile_drop ps r.range.start r.range.end (next + 1) tile (omega (arith, less))))
          (λ q i. hole_zero q (drop_in (next + 1) ps q i)) (from_both (byte o.file) r.range.start got.bytes bytes right (taken shut))

  -- ---- each step

  abbrev Says : ReadView → Servers → Type 0
  Says next after = SaysSo s.shared.meta after.meta byte next.range.start next.at

  begins_say : (o : Opened) (failed : List FailedTake) (f : File) (after : Servers) → file_of o.file s.shared.meta.files ≡ Some f → o.layout ≡ f.layout → unanswered o.layout r.range (ids_of failed) ≡ None → Says (begins_with r o failed) after
  begins_say o failed f after found same none =
      let ps : List Piece = pieces_of o.layout.components r.range (ids_of failed) in
      let has : HasPieces r.range o.layout (ids_of failed) ps = record { valid = subst IsValid (sym same) (file_valid s tr g o.file f found); answered = none; are = refl } in
      locks_say s.shared.meta after.meta byte r.range.start (reading r.range o failed ps) (next_object ps 0) (λ h. ((f, found), first_holes o failed f found same ps has))

  shares_say : (f : File) → file_of f.number s.shared.meta.files ≡ Some f → (o : Option ℕ) → unanswered f.layout r.range [] ≡ o → OnNext Says (shares_file r s.shared f o)
  shares_say f found (Some byte) e = tt
  shares_say f found None e = begins_say (opened r.client f) [] f (record s.shared { meta = with_change f.number (with_share r.client) s.shared.meta }) found refl e

  opens_say : (o : Option File) → file_named r.name s.shared.meta.files ≡ o → OnNext Says (opens_file r s.shared o)
  opens_say None e = tt
  opens_say (Some f) e = shares_say f (there_named s.shared.meta g.holds.servers.sound r.name f e) (unanswered f.layout r.range []) refl

  -- what was known, while the file is there
  so : (x : Reading) → IsGot s.shared.meta byte r.range.start x → IsGotSo s.shared.meta s.shared.meta byte r.range.start x
  so x known h = let is = held_there s.shared.meta x.opened h in ((is.file, is.there), known h)

  lock_says : (x : Reading) (next : ℕ) (b : Option (ℕ × Range)) → IsGot s.shared.meta byte r.range.start x → OnNext Says (locks_piece r s.shared x next b)
  lock_says x next (Some told) known = tt
  lock_says x next None known = locks_say s.shared.meta s.shared.meta byte r.range.start x (next_object x.pieces (next + 1)) (so x known)

  confirm_says : (x : Reading) (o : Option ℕ) → OnNext Says (confirms_read r s.shared x o)
  confirm_says x None = tt
  confirm_says x (Some size) = tt

  module _ (k : ℕ) (client : Client) (here : client_at s.clients k ≡ Some client) (mine : r.client ≡ k) where
    -- the file of a cookie that is held has the layout that was got
    pub layout_now : (a : ReadAt) (o : Opened) → client.call ≡ running.Read r → r.at ≡ a → (read_hand a).opened ≡ Some o → o.cookie.client ≡ r.client → (is : IsThere s.shared.meta o) → o.layout ≡ is.file.layout
    layout_now a o call e hand own is =
        held_layout s g.holds k client here o (ap (λ (c : Running). (hand_of c).opened) call ∙ ap (λ (b : ReadAt). (read_hand b).opened) e ∙ hand) (own ∙ mine) is

    -- each lock that the read lists is held
    pub listed_locks : (ps : List Piece) → locks_of k s.shared.locks ≡ read_locks r ps → (j : ℕ) (d : Piece) → j < length ps → is_hole (get_or ps j d) ≡ false → Contains s.shared.locks (lock_for r (get_or ps j d))
    listed_locks ps own j d less some =
        (Contains-filter_parts (λ (l : Lock). l.holder == k) s.shared.locks (lock_for r (get_or ps j d)) (subst (λ (ls : List Lock). Contains ls (lock_for r (get_or ps j d))) (sym own) (lock_held r ps j d less some))).0

    pub own_locks : (a : ReadAt) → client.call ≡ running.Read r → r.at ≡ a → AreReadLocks r a (locks_of k s.shared.locks)
    own_locks a call e =
        subst (λ (b : ReadAt). AreReadLocks r b (locks_of k s.shared.locks)) e
        (subst (λ (c : Running). AreLocksOf c (locks_of k s.shared.locks)) (ap (λ o. option_map_or (λ (client : Client). client.call) o running.Idle) here ∙ call) (g.locked.own k))

    -- who reads has no attempt
    pub reads_only : client.call ≡ running.Read r → attempt_of client.call ≡ None
    reads_only call = ap attempt_of call

    took_says : (x : Reading) (next : ℕ) → client.call ≡ running.Read r → r.at ≡ at.Take x next → HasGot r.client r.range x next → IsObjectAt x.pieces next → IsGot s.shared.meta byte r.range.start x
        → IsGotSo s.shared.meta s.shared.meta byte r.range.start (with_answer s.shared x next (piece_at x.pieces next))
    took_says x next call e has object known h =
        let is = held_there s.shared.meta x.opened h in
        let same : x.opened.layout ≡ is.file.layout = layout_now (at.Take x next) x.opened call e refl has.own is in
        let some = some x.opened x.failed is.file is.there same x.pieces has.pieces x.got next object has.got (known h) in
        let its = its x.opened x.failed is.file is.there same x.pieces has.pieces x.got next object has.got (known h) in
        let inside = (lies r.range x.opened.layout (ids_of x.failed) x.pieces next asked has.pieces object.there).high in
        let lock = listed_locks x.pieces (own_locks (at.Take x next) call e) next _ object.there some in (
          (is.file, is.there),
          one_more x.opened x.failed is.file is.there same x.pieces has.pieces x.got next object has.got (known h) (Object (object_of (piece_at x.pieces next)) (next_call (target_of s.shared (piece_at x.pieces next))))
              (λ y low high. lock_shut s tr g x.opened.file is.file is.there (ids_of x.failed) (piece_at x.pieces next) its y low high k client r here (reads_only call) mine lock some (asked_small r.range asked y (omega (arith, inside, high)))),
        )

    take_says : (x : Reading) (next : ℕ) (a : CallAnswer) → client.call ≡ running.Read r → r.at ≡ at.Take x next → HasGot r.client r.range x next → IsObjectAt x.pieces next → IsGot s.shared.meta byte r.range.start x
        → OnNext Says (takes_piece r s.shared x next (piece_at x.pieces next) a)
    take_says x next answer.Ok call e has object known = takes_say s.shared.meta s.shared.meta byte r.range.start (with_answer s.shared x next (piece_at x.pieces next)) (next_object x.pieces (next + 1)) (took_says x next call e has object known)
    take_says x next (answer.Old kept) call e has object known = tt
    take_says x next answer.Failed call e has object known = tt

    others_say : (x : Reading) → client.call ≡ running.Read r → r.at ≡ at.Again x → x.opened.cookie.client ≡ r.client → holds x.opened.file x.opened.cookie s.shared.meta ≡ true → (o : Option ℕ) → unanswered x.opened.layout r.range (ids_of x.failed) ≡ o → OnNext Says (others_answer r s.shared x o)
    others_say x call e own h (Some byte) none = tt
    others_say x call e own h None none =
        let is = held_there s.shared.meta x.opened h in
        begins_say x.opened x.failed is.file (unlocked r.client s.shared) is.there (layout_now (at.Again x) x.opened call e refl own is) none

    again_says : (x : Reading) → client.call ≡ running.Read r → r.at ≡ at.Again x → x.opened.cookie.client ≡ r.client → (b : Bool) → holds x.opened.file x.opened.cookie s.shared.meta ≡ b → OnNext Says (looks_again r s.shared x b)
    again_says x call e own false h = tt
    again_says x call e own true h = others_say x call e own h (unanswered x.opened.layout r.range (ids_of x.failed)) refl

    -- each step of a read
    pub read_says : (a : ReadAt) → r.at ≡ a → (is_opening (running.Read r) ≡ false → client.call ≡ running.Read r) → ReadHas r.client r.range a → ReadSays s.shared.meta byte r.range.start a → OnNext Says (read_at a r s.shared)
    read_says at.Open e was has known = opens_say (file_named r.name s.shared.meta.files) refl
    read_says (at.Lock x next) e was has known = lock_says x next (blocker s.shared.locks (lock_for r (piece_at x.pieces next))) known
    read_says (at.Take x next) e was has known = take_says x next (read_answer (target_of s.shared (piece_at x.pieces next))) (was (ap read_opens e)) e has.0 has.1 known
    read_says (at.Again x) e was has known = again_says x (was (ap read_opens e)) e has.0 (holds x.opened.file x.opened.cookie s.shared.meta) refl
    read_says (at.Confirm x) e was has known = confirm_says x (confirms x.opened.file x.opened.cookie s.shared.meta)
    read_says at.UnlockAgain e was has known = tt
    read_says at.Unlock e was has known = tt
