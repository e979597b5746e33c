-- What the steps of a read pay.
use Rattle.std.proofs.Common.{◌≡◌, ℕ, ◌+◌, ◌-◌, ◌*◌, ◌≤◌, ◌<◌, Bool, true, false, cond, nat_lt, Option, Some, None, List, [], length, refl, sym, ap, ◌∙◌, arith}
use Rattle.std.specs.Option.{option_map, option_map_or}
use Rattle.std.proofs.lemmas.Bool.Decides.{nat_tests}
use Rattle.flr_base.specs.declared.reply.Range.{Range}
use Rattle.layout_lease.specs.declared.shared.Share.{Share}
use Rattle.layout_lease.specs.Shares.{is_held}
use Rattle.mirror_select.specs.declared.types.Piece.{Piece}
use Rattle.mirror_select.specs.Pieces.{pieces_of}
use Rattle.object_target.specs.declared.call.CallAnswer.{CallAnswer}
use Rattle.object_target.specs.declared.call.CallAnswer.TheVariants as answer
use Rattle.object_target.specs.declared.fail.Fail.{Fail}
use Rattle.object_target.specs.Calls.{after_read, next_fail, read_answer}
use Rattle.extent_lock.specs.Extents.{blocker}
use Rattle.meta_server.specs.declared.answers.Opened.{Opened}
use Rattle.meta_server.specs.Closing.{confirms, frees, holds}
use Rattle.meta_server.specs.Files.{File, MetaView, file_named, file_of, same_name, with_change, with_share}
use Rattle.meta_server.specs.Opening.{opened, read_opens_file}
use Rattle.meta_laws.specs.Calls.{Free, OpenRead, left_by}
use Rattle.meta_laws.proofs.Finding.{found_numbered}
use Rattle.meta_growth.specs.Growth.{AreNumbered}
use Rattle.call_steps.specs.Pieces.{length_of, object_of, piece_at}
use Rattle.call_steps.specs.Servers.{Servers}
use Rattle.script_values.specs.Work.{blocks_of}
use Rattle.client_read.specs.declared.phase.FailedTake.{FailedTake}
use Rattle.client_read.specs.declared.phase.ReadAt.{ReadAt}
use Rattle.client_read.specs.declared.phase.ReadAt.TheVariants as at
use Rattle.client_read.specs.declared.phase.Reading.{Reading}
use Rattle.client_read.specs.Pieces.{next_object}
use Rattle.client_read.specs.Reads.{begins_with, confirms_read, ids_of, lock_for, locks_from, locks_piece, looks_again, opens_file, others_answer, piece_read, read_at, read_step, reading, shares_file, takes_from, takes_piece, target_of, unanswered, with_answer}
use Rattle.client_read.specs.Views.{ReadView}
use Rattle.flr_work.specs.Known.{KnownRead}
use Rattle.flr_work.specs.Left.{OwnsRead, OwnsReading, again, has_cookie, read_left}
use Rattle.flr_work.specs.Paying.{AreListed, Fares, Leaves, dues}
use Rattle.flr_work.proofs.Costs.{called_due, failed_due, leaves_by, never_old}
use Rattle.flr_work.proofs.Held.{given_held_now}

-- a call that stays where it is has as much left
pub same_cost : (base : ℕ) (b : Bool) → b ≡ true → again base b ≡ 0
same_cost base b e = ap (again base) e

pub lost_cost : (base : ℕ) (b : Bool) → b ≡ false → again base b ≡ base
lost_cost base b e = ap (again base) e

-- a cookie that isn't confirmed is lost
pub unconfirmed : (number : ℕ) (cookie : Share) (m : MetaView) → confirms number cookie m ≡ None → holds number cookie m ≡ false
unconfirmed number cookie m e = by (file_of number m.files) refl e
  where
    held : (f : File) (b : Bool) → is_held f.lock cookie ≡ b → cond b (Some f.size) None ≡ None → b ≡ false
    held f true is k = absurd (cc)
    held f false is k = refl

    by : (o : Option File) → file_of number m.files ≡ o → cond (option_map_or (λ (f : File). is_held f.lock cookie) o false) (option_map (λ (f : File). f.size) o) None ≡ None → holds number cookie m ≡ false
    by None is k = ap (λ (o : Option File). option_map_or (λ (f : File). is_held f.lock cookie) o false) is
    by (Some f) is k = ap (λ (o : Option File). option_map_or (λ (x : File). is_held x.lock cookie) o false) is ∙ held f (is_held f.lock cookie) refl k

module _ (c cost : ℕ) (fails : List Fail) (r : ReadView) (s : Servers) (base : ℕ) (client : r.client ≡ c) (listed : AreListed fails s.targets) (numbered : AreNumbered s.meta) (low : 2 * blocks_of r.range.start r.range.end + 3 ≤ base) (within : base ≤ cost) where
  -- a read of the same range with this to do next
  abbrev Known : ReadView → Servers → Type 0
  Known next after = KnownRead next next.at

  abbrev Left : ReadView → MetaView → ℕ
  Left next m = read_left base next.at m

  -- ---- nothing of the metadata server changes

  stay : Leaves c s.meta s.meta
  stay number cookie other h = h

  freed : (x : Opened) → x.cookie.client ≡ c → Leaves c s.meta (frees x.file x.cookie s.meta)
  freed x own = leaves_by c (Free x.file x.cookie) s.meta (frees x.file x.cookie s.meta) refl (λ number cookie other e. other (e ∙ own))

  -- ---- what comes next

  beyond : (pieces : List Piece) (next : ℕ) → next ≤ next_object pieces next
  beyond pieces next = omega arith

  -- the takes from this piece on
  takes_own : (x : Reading) (next : ℕ) → x.opened.cookie.client ≡ c → OwnsReading c (takes_from x next)
  takes_own x next own = by (nat_lt next (length x.pieces)) refl
    where
      by : (b : Bool) → nat_lt next (length x.pieces) ≡ b → OwnsReading c (cond b (at.Take x next) (at.Confirm x))
      by true e = (own, grind (arith, nat_tests))
      by false e = own

  takes_left : (x : Reading) (next room : ℕ) (m : MetaView) → 2 ≤ room → (next < length x.pieces → (length x.pieces - next) + 2 ≤ room) → read_left base (takes_from x next) m ≤ room + again base (has_cookie x.opened m)
  takes_left x next room m two h = by (nat_lt next (length x.pieces)) refl
    where
      by : (b : Bool) → nat_lt next (length x.pieces) ≡ b → read_left base (cond b (at.Take x next) (at.Confirm x)) m ≤ room + again base (has_cookie x.opened m)
      by true e = let le = h (grind (arith, nat_tests)) in omega (arith, le)
      by false e = omega (arith, two)

  -- the locks from this piece on
  locks_own : (x : Reading) (next : ℕ) → x.opened.cookie.client ≡ c → OwnsReading c (locks_from x next)
  locks_own x next own = by (nat_lt next (length x.pieces)) refl
    where
      by : (b : Bool) → nat_lt next (length x.pieces) ≡ b → OwnsReading c (cond b (at.Lock x next) (takes_from x (next_object x.pieces 0)))
      by true e = (own, grind (arith, nat_tests))
      by false e = takes_own x (next_object x.pieces 0) own

  locks_left : (x : Reading) (next room : ℕ) (m : MetaView) → 2 ≤ room → (next < length x.pieces → (2 * length x.pieces - next) + 2 ≤ room) → (0 < length x.pieces → length x.pieces + 2 ≤ room) → read_left base (locks_from x next) m ≤ room + again base (has_cookie x.opened m)
  locks_left x next room m two h k = by (nat_lt next (length x.pieces)) refl
    where
      by : (b : Bool) → nat_lt next (length x.pieces) ≡ b → read_left base (cond b (at.Lock x next) (takes_from x (next_object x.pieces 0))) m ≤ room + again base (has_cookie x.opened m)
      by true e = let le = h (grind (arith, nat_tests)) in omega (arith, le)
      by false e = takes_left x (next_object x.pieces 0) room m two (λ lt. (let le = k (omega (arith, lt)) in omega (arith, le)))

  -- a read that begins with its pieces has at most two steps for each block, and two
  begins_left : (o : Opened) (failed : List FailedTake) (m : MetaView) → KnownRead r (begins_with r o failed).at → read_left base (begins_with r o failed).at m + 1 ≤ base + again base (has_cookie o m)
  begins_left o failed m known = by (nat_lt first (length x.pieces)) refl (nat_lt first (length x.pieces)) refl known
    where
      x : Reading
      x = reading r.range o failed (pieces_of o.layout.components r.range (ids_of failed))

      first : ℕ
      first = next_object (pieces_of o.layout.components r.range (ids_of failed)) 0

      by : (a : Bool) → nat_lt first (length x.pieces) ≡ a → (b : Bool) → nat_lt first (length x.pieces) ≡ b → KnownRead r (cond a (at.Lock x first) (cond b (at.Take x first) (at.Confirm x)))
          → read_left base (cond a (at.Lock x first) (cond b (at.Take x first) (at.Confirm x))) m + 1 ≤ base + again base (has_cookie o m)
      by true e b k known = omega (arith, known, low)
      by false e true k known = omega (arith, known, low)
      by false e false k known = omega (arith, low)

  -- ---- each phase

  shares : (f : File) (o : Option ℕ) → file_named r.name s.meta.files ≡ Some f → Fares ReadView (OwnsRead c) Known Left c cost fails s base (shares_file r s f o)
  shares f (Some byte) e = record { leaves = stay; pays = omega (arith, low) }
  shares f None e =
      let m : MetaView = with_change f.number (with_share r.client) s.meta in
      let there : file_of f.number s.meta.files ≡ Some f = found_numbered (λ (x : File). same_name r.name x.name) s.meta.files f numbered.ascending e in
      let held : has_cookie (opened r.client f) m ≡ true = given_held_now r.client f s.meta.files there in
      record {
        leaves = leaves_by c (OpenRead r.client r.name) s.meta m (sym (ap (λ (o : Option File). left_by (read_opens_file r.client r.name s.meta o) s.meta) e)) (λ number cookie other. tt);
        own = record { client = client; phase = locks_own (reading r.range (opened r.client f) [] (pieces_of f.layout.components r.range [])) (next_object (pieces_of f.layout.components r.range []) 0) client };
        pays = λ known. (let most = begins_left (opened r.client f) [] m known in let free = same_cost base (has_cookie (opened r.client f) m) held in omega (arith, most, free));
      }

  opens : (o : Option File) → file_named r.name s.meta.files ≡ o → Fares ReadView (OwnsRead c) Known Left c cost fails s base (opens_file r s o)
  opens None e = record { leaves = stay; pays = omega (arith, low) }
  opens (Some f) e = shares f (unanswered f.layout r.range []) e

  locks : (x : Reading) (next : ℕ) (o : Option (ℕ × Range)) → x.opened.cookie.client ≡ c → next < length x.pieces
      → Fares ReadView (OwnsRead c) Known Left c cost fails s (((2 * length x.pieces - next) + 2) + again base (has_cookie x.opened s.meta)) (locks_piece r s x next o)
  locks x next (Some told) own lt = tt
  locks x next None own lt =
      let then : ℕ = next_object x.pieces (next + 1) in
      let past : next + 1 ≤ then = beyond x.pieces (next + 1) in
      let room : ℕ = (2 * length x.pieces - next) + 1 in
      let most = locks_left x then room s.meta (omega (arith, lt)) (λ k. omega (arith, k, past, lt)) (λ k. omega (arith, lt)) in
      record {
        leaves = stay;
        own = record { client = client; phase = locks_own x then own };
        pays = λ known. omega (arith, most);
      }

  -- the piece is read
  read_due : (p : Piece) → dues cost fails (piece_read s p).targets ≤ dues cost fails s.targets
  read_due p = called_due cost fails s (object_of p).target (after_read (target_of s p) (object_of p).number p.offset (length_of p)) _ refl

  fails_due : (p : Piece) → read_answer (target_of s p) ≡ answer.Failed → dues cost fails (piece_read s p).targets + cost ≤ dues cost fails s.targets
  fails_due p e = failed_due cost fails s (object_of p).target (after_read (target_of s p) (object_of p).number p.offset (length_of p)) _ refl listed false 0 e

  takes : (x : Reading) (next : ℕ) (p : Piece) (a : CallAnswer) → read_answer (target_of s p) ≡ a → x.opened.cookie.client ≡ c → next < length x.pieces
      → Fares ReadView (OwnsRead c) Known Left c cost fails s (((length x.pieces - next) + 2) + again base (has_cookie x.opened s.meta)) (takes_piece r s x next p a)
  takes x next p answer.Ok e own lt =
      let got : Reading = with_answer s x next p in
      let then : ℕ = next_object x.pieces (next + 1) in
      let past : next + 1 ≤ then = beyond x.pieces (next + 1) in
      let room : ℕ = (length x.pieces - next) + 1 in
      let most = takes_left got then room s.meta (omega (arith, lt)) (λ k. omega (arith, k, past, lt)) in
      let due = read_due p in
      record {
        leaves = stay;
        own = record { client = client; phase = takes_own got then own };
        pays = λ known. omega (arith, most, due);
      }
  takes x next p (answer.Old kept) e own lt = absurd (never_old (next_fail (target_of s p)) kept e)
  takes x next p answer.Failed e own lt =
      let due = fails_due p e in
      record {
        leaves = stay;
        own = record { client = client; phase = own };
        pays = λ known. omega (arith, due, within, lt);
      }

  others : (x : Reading) (o : Option ℕ) → x.opened.cookie.client ≡ c → has_cookie x.opened s.meta ≡ true → Fares ReadView (OwnsRead c) Known Left c cost fails s (base + again base (has_cookie x.opened s.meta)) (others_answer r s x o)
  others x (Some byte) own held = record { leaves = freed x.opened own; pays = omega (arith, low) }
  others x None own held = record {
    leaves = stay;
    own = record { client = client; phase = locks_own (reading r.range x.opened x.failed (pieces_of x.opened.layout.components r.range (ids_of x.failed))) (next_object (pieces_of x.opened.layout.components r.range (ids_of x.failed)) 0) own };
    pays = λ known. (let most = begins_left x.opened x.failed s.meta known in omega (arith, most));
  }

  looks : (x : Reading) (b : Bool) → has_cookie x.opened s.meta ≡ b → x.opened.cookie.client ≡ c → Fares ReadView (OwnsRead c) Known Left c cost fails s (base + again base (has_cookie x.opened s.meta)) (looks_again r s x b)
  looks x false e own = record {
    leaves = stay;
    own = record { client = client; phase = tt };
    pays = λ known. (let all = lost_cost base (has_cookie x.opened s.meta) e in omega (arith, all, low));
  }
  looks x true e own = others x (unanswered x.opened.layout r.range (ids_of x.failed)) own e

  ends : (x : Reading) (o : Option ℕ) → confirms x.opened.file x.opened.cookie s.meta ≡ o → x.opened.cookie.client ≡ c → Fares ReadView (OwnsRead c) Known Left c cost fails s (2 + again base (has_cookie x.opened s.meta)) (confirms_read r s x o)
  ends x None e own = record {
    leaves = stay;
    own = record { client = client; phase = tt };
    pays = λ known. (let all = lost_cost base (has_cookie x.opened s.meta) (unconfirmed x.opened.file x.opened.cookie s.meta e) in omega (arith, all));
  }
  ends x (Some size) e own = record {
    leaves = freed x.opened own;
    own = record { client = client; phase = tt };
    pays = λ known. omega arith;
  }

  by_phase : (at : ReadAt) → OwnsReading c at → Fares ReadView (OwnsRead c) Known Left c cost fails s (read_left base at s.meta) (read_at at r s)
  by_phase at.Open own = opens (file_named r.name s.meta.files) refl
  by_phase (at.Lock x next) own = locks x next (blocker s.locks (lock_for r (piece_at x.pieces next))) own.0 own.1
  by_phase (at.Take x next) own = takes x next (piece_at x.pieces next) (read_answer (target_of s (piece_at x.pieces next))) refl own.0 own.1
  by_phase (at.Again x) own = looks x (holds x.opened.file x.opened.cookie s.meta) refl own
  by_phase (at.Confirm x) own = ends x (confirms x.opened.file x.opened.cookie s.meta) refl own
  by_phase at.UnlockAgain own = record { leaves = stay; own = record { client = client; phase = tt }; pays = λ known. omega arith }
  by_phase at.Unlock own = record { leaves = stay; pays = omega arith }

-- each step of a read
pub read_fares : (c cost : ℕ) (fails : List Fail) (r : ReadView) (place : ℕ) (s : Servers) (base : ℕ) → OwnsRead c r → AreListed fails s.targets → AreNumbered s.meta → 2 * blocks_of r.range.start r.range.end + 3 ≤ base → base ≤ cost
    → Fares ReadView (OwnsRead c) (λ next after. KnownRead next next.at) (λ next m. read_left base next.at m) c cost fails s (read_left base r.at s.meta) (read_step r place s)
read_fares c cost fails r place s base own listed numbered low within = by_phase c cost fails r s base own.client listed numbered low within r.at own.phase
