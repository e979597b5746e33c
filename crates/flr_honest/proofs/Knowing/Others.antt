-- What a read knows after a step of another client.
use Rattle.std.proofs.Common.{◌≡◌, ◌≢◌, ℕ, ◌+◌, ◌<◌, true, false, Option, Some, None, length, get_or, ◌⊎◌, inl, inr, refl, sym, ap, subst, ◌∙◌, arith}
use Rattle.std.specs.Prelude.{Contains}
use Rattle.std.specs.Option.{option_map_or}
use Rattle.std.proofs.lemmas.Bool.{cases_Bool}
use Rattle.composite_layout.specs.Layouts.{Composite}
use Rattle.layout_lease.specs.Shares.{is_held}
use Rattle.mirror_select.specs.declared.types.Piece.{Piece}
use Rattle.meta_server.specs.declared.answers.Opened.{Opened}
use Rattle.meta_server.specs.Closing.{holds}
use Rattle.meta_server.specs.Files.{File}
use Rattle.client_read.specs.declared.phase.ReadAt.{ReadAt}
use Rattle.client_read.specs.declared.phase.ReadAt.TheVariants as at
use Rattle.client_read.specs.declared.phase.Reading.{Reading}
use Rattle.client_read.specs.Fitting.{IsAsked}
use Rattle.client_read.specs.Pieces.{is_hole, next_object}
use Rattle.client_read.specs.Reads.{ids_of, lock_for}
use Rattle.client_read.specs.Views.{ReadView}
use Rattle.client_read.proofs.Readable.{are_pieces, lies}
use Rattle.client_read.proofs.RightTakes.{IsGiven, given}
use Rattle.flr_steps.specs.declared.client.Client.{Client}
use Rattle.flr_steps.specs.declared.client.Running.{Running}
use Rattle.flr_steps.specs.declared.client.Running.TheVariants as running
use Rattle.flr_steps.specs.States.{State, client_at}
use Rattle.flr_steps.specs.Traces.{Trace, traced}
use Rattle.flr_claims.specs.Honesty.{IsOpen}
use Rattle.flr_numbers.specs.Calls.{read_hand}
use Rattle.flr_numbers.specs.Frames.{IsShared}
use Rattle.flr_numbers.specs.Sentences.{IsCallOf}
use Rattle.flr_bytes.specs.Calls.{IsGot, ReadSays, Says}
use Rattle.flr_bytes.specs.Files.{HoldBytes}
use Rattle.flr_bytes.specs.Laws.{StepsKeepBytes}
use Rattle.flr_bytes.specs.Runs.{Ground, Honest, IsStep}
use Rattle.flr_bytes.specs.Sentences.{byte_in}
use Rattle.flr_honest.specs.Knowing.{OtherReadsSay}
use Rattle.flr_bytes.specs.Pieces.{Has, HasGot, HavePieces, ReadHas}
use Rattle.flr_honest.proofs.Knowing.Lists.{hole_before, in_front}
use Rattle.flr_honest.proofs.Knowing.Pieces.{IsThere, held_there, hole_shut, lock_shut}
use Rattle.flr_honest.proofs.Knowing.Reading.{asked_small, layout_now, listed_locks, own_locks, reads_only}
use Rattle.flr_honest.proofs.Knowing.Steps.{shut_stays, step_leaves}

-- what stands behind the last piece
abbrev nothing : Piece
nothing = record { range = record { start = 0; end = 0 }; component = 0; object = None; offset = 0 }

-- ---- a cookie that is held after a step of another client

-- it was held before it, in the layout lock of the file that has the same layout
pub record WasHeld (s t : State) (o : Opened) : Type 0 where
  pub before : IsThere s.shared.meta o
  pub after : IsThere t.shared.meta o
  pub holding : holds o.file o.cookie s.shared.meta ≡ true

pub was_held : (s t : State) (old new : Trace) (c : ℕ) → IsStep s t old new c → (o : Opened) → o.cookie.client ≢ c → holds o.file o.cookie t.shared.meta ≡ true → WasHeld s t o
was_held s t old new c is o other h =
    let after = held_there t.shared.meta o h in
    let shared : IsShared s.shared.meta o.file o.cookie after.file.layout = (step_leaves s t c is.before.holds is.before.room is.step).cookies o.file o.cookie after.file.layout other (record { file = after.file; there = after.there; held = after.held; layout = refl }) in
    record {
      before = record { file = shared.file; there = shared.there; held = shared.held };
      after = after;
      holding = ap (λ (f : Option File). option_map_or (λ (f : File). is_held f.lock o.cookie) f false) shared.there ∙ shared.held;
    }

-- ---- what was got isn't open

module _ (s : State) (tr : Trace) (g : Ground s tr) (hold : HoldBytes s tr) (r : ReadView) (asked : IsAsked r.range) (k : ℕ) (client : Client) (here : client_at s.clients k ≡ Some client) (mine : r.client ≡ k) (reads : client.call ≡ running.Read r) where
  -- no byte of the first pieces is open, where each of them is a hole or its lock is held
  got_shut : (a : ReadAt) → r.at ≡ a → (x : Reading) (count : ℕ) → HasGot r.client r.range x count → (read_hand a).opened ≡ Some x.opened → (is : IsThere s.shared.meta x.opened)
      → ((j : ℕ) → j < count → j < length x.pieces → is_hole (get_or x.pieces j nothing) ≡ false → Contains s.shared.locks (lock_for r (get_or x.pieces j nothing)))
      → (i : ℕ) → i < length x.got.bytes → IsOpen s tr x.opened.file (r.range.start + i) → ⊥
  got_shut a at_it x count has hand is locked i less open_there =
      let same : x.opened.layout ≡ is.file.layout = layout_now s tr g hold r asked k client here mine a x.opened reads at_it hand has.own is in
      let tile = (are_pieces r.range x.opened.layout (ids_of x.failed) x.pieces asked has.pieces).tile in
      let long = has.got in
      let y : ℕ = r.range.start + i in
      let at = in_front x.pieces r.range.start r.range.end count y nothing tile (omega arith) (omega (arith, less, long)) in
      let p : Piece = get_or x.pieces at.place nothing in
      let its : IsGiven is.file.layout.components (ids_of x.failed) p = subst (λ (l : Composite). IsGiven l.components (ids_of x.failed) p) same (given r.range x.opened.layout (ids_of x.failed) x.pieces asked has.pieces at.place at.there) in
      let inside = (lies r.range x.opened.layout (ids_of x.failed) x.pieces at.place asked has.pieces at.there).high in
      let high = at.high in
      elim (cases_Bool (is_hole p)) as (λ _. ⊥) [
        | inl hole ↦ hole_shut s tr g x.opened.file is.file is.there (ids_of x.failed) p its y at.low at.high hole open_there
        | inr some ↦ lock_shut s tr g x.opened.file is.file is.there (ids_of x.failed) p its y at.low at.high k client r here (reads_only s tr g hold r asked k client here mine reads) mine (locked at.place at.before at.there some) some (asked_small r.range asked y (omega (arith, inside, high))) open_there
      ]

  -- the pieces that stand before the first that isn't a hole are holes
  first_locked : (x : Reading) (j : ℕ) → j < next_object x.pieces 0 → is_hole (get_or x.pieces j nothing) ≡ false → Contains s.shared.locks (lock_for r (get_or x.pieces j nothing))
  first_locked x j before some =
      let hole : is_hole (get_or x.pieces j nothing) ≡ true = hole_before x.pieces j nothing (omega (arith, before)) in
      absurd (let no : true ≡ false = sym hole ∙ some in cc)

  -- so it is by the phases
  pub phase_shut : (a : ReadAt) → r.at ≡ a → (x : Reading) → (read_hand a).opened ≡ Some x.opened → ReadHas r.client r.range a → (is : IsThere s.shared.meta x.opened) → (i : ℕ) → i < length x.got.bytes
      → (a ≡ at.Confirm x) ⊎ (((next : ℕ) × (a ≡ at.Take x next)) ⊎ ((next : ℕ) × (a ≡ at.Lock x next))) → IsOpen s tr x.opened.file (r.range.start + i) → ⊥
  phase_shut a at_it x hand has is i less (inl same) =
      let h : ReadHas r.client r.range (at.Confirm x) = subst (ReadHas r.client r.range) same has in
      got_shut a at_it x (length x.pieces) h hand is (λ j before there some. listed_locks s tr g hold r asked k client here mine x.pieces (own_locks s tr g hold r asked k client here mine (at.Confirm x) reads (at_it ∙ same)) j nothing there some) i less
  phase_shut a at_it x hand has is i less (inr (inl same)) =
      let h : ReadHas r.client r.range (at.Take x same.0) = subst (ReadHas r.client r.range) same.1 has in
      got_shut a at_it x same.0 h.0 hand is (λ j before there some. listed_locks s tr g hold r asked k client here mine x.pieces (own_locks s tr g hold r asked k client here mine (at.Take x same.0) reads (at_it ∙ same.1)) j nothing there some) i less
  phase_shut a at_it x hand has is i less (inr (inr same)) =
      let h : ReadHas r.client r.range (at.Lock x same.0) = subst (ReadHas r.client r.range) same.1 has in
      got_shut a at_it x (next_object x.pieces 0) h.0 hand is (λ j before there some. first_locked x j before some) i less

-- ---- a step of another client

module _ (keep : StepsKeepBytes) (s t : State) (old new : Trace) (c d : ℕ) (is : IsStep s t old new c) (e : new ≡ traced s t old c) (have : HavePieces s) (honest : Honest s old) (apart : d ≡ c → ⊥) (client : Client) (r : ReadView) (here : client_at s.clients d ≡ Some client) (reads : client.call ≡ running.Read r) where
  mine : r.client ≡ d
  mine = subst (IsCallOf d) reads (is.before.holds.clients d client here).call

  has : Has (running.Read r)
  has = subst Has reads (have d client here)

  known : ReadSays s.shared.meta (byte_in s old) r.range.start r.at
  known = subst (λ (x : Running). Says s.shared (byte_in s old) x) reads (honest.calls d client here)

  got_still : (a : ReadAt) → r.at ≡ a → (x : Reading) → (read_hand a).opened ≡ Some x.opened → x.opened.cookie.client ≡ r.client → (a ≡ at.Confirm x) ⊎ (((next : ℕ) × (a ≡ at.Take x next)) ⊎ ((next : ℕ) × (a ≡ at.Lock x next)))
      → IsGot s.shared.meta (byte_in s old) r.range.start x → IsGot t.shared.meta (byte_in t new) r.range.start x
  got_still a at_it x hand own phase got h i less =
      let w = was_held s t old new c is x.opened (λ same. apart (sym (own ∙ mine) ∙ same)) h in
      got w.holding i less
      ∙ sym (shut_stays keep s t old new c is e honest x.opened.file (r.range.start + i) w.before.file w.after.file w.before.there w.after.there
      (phase_shut s old is.before honest.holds r has.0 d client here mine reads a at_it x hand (subst (ReadHas r.client r.range) at_it has.1) w.before i less phase))

  pub still_says : (a : ReadAt) → r.at ≡ a → ReadHas r.client r.range a → ReadSays s.shared.meta (byte_in s old) r.range.start a → ReadSays t.shared.meta (byte_in t new) r.range.start a
  still_says at.Open at_it h k = tt
  still_says (at.Lock x next) at_it h k = got_still (at.Lock x next) at_it x refl h.0.own (inr (inr (next, refl))) k
  still_says (at.Take x next) at_it h k = got_still (at.Take x next) at_it x refl h.0.own (inr (inl (next, refl))) k
  still_says (at.Again x) at_it h k = tt
  still_says (at.Confirm x) at_it h k = got_still (at.Confirm x) at_it x refl h.own (inl refl) k
  still_says at.UnlockAgain at_it h k = tt
  still_says at.Unlock at_it h k = tt

  pub other_says : ReadSays t.shared.meta (byte_in t new) r.range.start r.at
  other_says = still_says r.at refl has.1 known

pub other_reads : StepsKeepBytes → OtherReadsSay
other_reads keep s t old new c d is e honest apart client call here reads = other_says keep s t old new c d is e is.before.pieces honest apart client call here reads
