-- What the steps of a write and of a truncate pay.
use Rattle.std.proofs.Common.{◌≡◌, ℕ, ◌+◌, ◌-◌, ◌*◌, ◌≤◌, ◌<◌, Bool, true, false, cond, nat_eq, nat_lt, true≢false, Option, Some, None, is_some, List, length, refl, sym, ap, ◌∙◌, arith}
use Rattle.std.specs.Prelude.{unwrap_or}
use Rattle.std.specs.Option.{option_map_or}
use Rattle.std.proofs.lemmas.Bool.Decides.{nat_tests}
use Rattle.flr_base.specs.declared.reply.Range.{Range}
use Rattle.composite_layout.specs.Choices.{is_ready}
use Rattle.composite_layout.specs.Layouts.{Composite, eof}
use Rattle.layout_lease.specs.declared.shared.Share.{Share}
use Rattle.layout_lease.specs.Shares.{is_held, lowest_but}
use Rattle.layout_state.specs.Choosing.{primary_of}
use Rattle.mirror_select.specs.declared.types.Piece.{Piece}
use Rattle.mirror_select.specs.declared.types.Tail.{Tail}
use Rattle.object_target.specs.declared.call.CallAnswer.{CallAnswer}
use Rattle.object_target.specs.declared.call.CallAnswer.TheVariants as answer
use Rattle.object_target.specs.declared.fail.Fail.{Fail}
use Rattle.object_target.specs.Calls.{after_punch, after_write, punch_answer, write_answer}
use Rattle.extent_lock.specs.Extents.{blocker}
use Rattle.meta_server.specs.declared.answers.Opened.{Opened}
use Rattle.meta_server.specs.Closing.{commits, cuts, holds, is_there, last_eviction}
use Rattle.meta_server.specs.Files.{File, MetaView, changed, file_named, file_of, same_name, with_layout}
use Rattle.meta_server.specs.Layouts.{intended}
use Rattle.flr_base.specs.Limits.{most_bytes}
use Rattle.meta_server.specs.Opening.{change_opens_file, cut_opens, intends, intends_to, limits, readies, with_intent, write_opens}
use Rattle.meta_server.specs.Outcomes.{Gives, Refuses, Waits}
use Rattle.meta_server.specs.Outcomes as meta
use Rattle.meta_laws.specs.Calls.{Commit, Cut, OpenCut, OpenWrite, left_by}
use Rattle.meta_laws.proofs.Finding.{found_numbered, same_found}
use Rattle.meta_growth.specs.Growth.{AreNumbered}
use Rattle.call_steps.specs.Pieces.{object_of, piece_at}
use Rattle.call_steps.specs.Servers.{Servers, next_call_on}
use Rattle.script_values.specs.Work.{blocks_of}
use Rattle.client_write.specs.declared.phase.CutAt.{CutAt}
use Rattle.client_write.specs.declared.phase.CutAt.TheVariants as cut
use Rattle.client_write.specs.declared.phase.Sent.{Sent}
use Rattle.client_write.specs.declared.phase.Sent.TheVariants as sent
use Rattle.client_write.specs.declared.phase.WriteAt.{WriteAt}
use Rattle.client_write.specs.declared.phase.WriteAt.TheVariants as at
use Rattle.client_write.specs.Calls.{TruncateView, WriteView}
use Rattle.client_write.specs.Parts.{came_of}
use Rattle.client_write.specs.Truncates.{after_punches, commits_cut, cut_committed, first_blocker, locks_for, locks_tails, opens_cut, tail_at, tail_punched, target_of_tail, truncate_at, truncate_on, truncate_step}
use Rattle.client_write.specs.Views.{CuttingView, WritingView}
use Rattle.client_write.specs.Writes.{after_send, bytes_of, commits_to, commits_write, lock_for, locks_piece, opens, piece_sent, range_of, target_of, write_at, write_on, write_step}
use Rattle.flr_work.specs.Known.{KnownCut, KnownWrite}
use Rattle.flr_work.specs.Left.{OwnsCutting, OwnsTruncate, OwnsWrite, OwnsWriting, again, cut_left, has_cookie, write_left}
use Rattle.flr_work.specs.Paying.{Fares, Goes, Leaves, dues}
use Rattle.flr_work.proofs.Costs.{called_due, leaves_by}
use Rattle.flr_work.proofs.Held.{given_held_now}
use Rattle.flr_work.proofs.ReadSteps.{lost_cost, same_cost}

-- ---- opens

-- where the file is opened, its cookie is the client's and is held
abbrev pub OpensHeld : ℕ → meta.Outcome Opened → Type 0
OpensHeld client (Gives o after) = (o.cookie.client ≡ client) × (has_cookie o after ≡ true)
OpensHeld client (Refuses reply) = Unit {0}
OpensHeld client (Waits holder) = Unit {0}

module _ (client : ℕ) (range : Range) (step : ℕ) (m : MetaView) (numbered : AreNumbered m) where
  module _ (f : File) (there : file_of f.number m.files ≡ Some f) where
    intends_held : (mirror : ℕ) (o : Option ℕ) → OpensHeld client (intends client range step m f mirror o)
    intends_held mirror (Some holder) = tt
    intends_held mirror None =
        let l : Composite = intended range mirror f.number m.nexts f.layout in
        let now : file_of f.number (changed f.number (with_layout l) m.files) ≡ Some (with_layout l f) = same_found f.number (with_layout l) m.files f (λ x. refl) there in
        (refl, given_held_now client (with_layout l f) (with_intent range mirror step f m).files now)

    intends_to_held : (o : Option ℕ) → OpensHeld client (intends_to client range step m f o)
    intends_to_held None = tt
    intends_to_held (Some mirror) = intends_held mirror (lowest_but client f.lock)

    readies_held : (b : Bool) → OpensHeld client (readies client range step m f b)
    readies_held true = (refl, given_held_now client f m.files there)
    readies_held false = intends_to_held (primary_of range f.layout.components)

    limits_held : (b : Bool) → OpensHeld client (limits client range step m f b)
    limits_held true = tt
    limits_held false = readies_held (is_ready f.layout range)

  opens_held : (name : List ℕ) (b : Bool) → OpensHeld client (change_opens_file client range step m name b (file_named name m.files))
  opens_held name b = by (file_named name m.files) refl
    where
      by : (o : Option File) → file_named name m.files ≡ o → OpensHeld client (change_opens_file client range step m name b o)
      by None e = tt
      by (Some f) e = limits_held f (found_numbered (λ (x : File). same_name name x.name) m.files f numbered.ascending e) b

-- a file that is gone has no cookies
gone_lost : (number : ℕ) (cookie : Share) (m : MetaView) → is_there number m ≡ false → holds number cookie m ≡ false
gone_lost number cookie m e = by (file_of number m.files) refl e
  where
    by : (o : Option File) → file_of number m.files ≡ o → is_some o ≡ false → holds number cookie m ≡ false
    by None is k = ap (λ (o : Option File). option_map_or (λ (f : File). is_held f.lock cookie) o false) is
    by (Some f) is k = absurd (true≢false k)

-- ---- writes

module _ (c cost : ℕ) (fails : List Fail) (w : WriteView) (place : ℕ) (s : Servers) (base : ℕ) (client : w.client ≡ c) (numbered : AreNumbered s.meta) (low : 2 * blocks_of (range_of w).start (range_of w).end + 3 ≤ base) where
  abbrev Known : WriteView → Servers → Type 0
  Known next after = KnownWrite after next next.at

  abbrev Left : WriteView → MetaView → ℕ
  Left next m = write_left base next.at m

  stay : Leaves c s.meta s.meta
  stay number cookie other h = h

  opened_by : (o : meta.Outcome Opened) → write_opens w.client w.name (range_of w) place s.meta ≡ o → OpensHeld w.client o → Fares WriteView (OwnsWrite c) Known Left c cost fails s base (opens w s o)
  opened_by (Gives o after) e held = record {
    leaves = leaves_by c (OpenWrite w.client w.name (range_of w) place) s.meta after (sym (ap (λ (o : meta.Outcome Opened). left_by o s.meta) e)) (λ number cookie other. tt);
    own = record { client = client; phase = held.0 ∙ client };
    pays = λ known. (let free = same_cost base (has_cookie o after) held.1 in omega (arith, known.0, known.1, free, low));
  }
  opened_by (Refuses reply) e held = record { leaves = stay; pays = omega (arith, low) }
  opened_by (Waits holder) e held = tt

  locks : (x : WritingView) (next : ℕ) (o : Option (ℕ × Range)) → x.opened.cookie.client ≡ c → next < length x.pieces
      → Fares WriteView (OwnsWrite c) Known Left c cost fails s (((2 * length x.pieces - next) + 2) + again base (has_cookie x.opened s.meta)) (locks_piece w s x next o)
  locks x next (Some told) own lt = tt
  locks x next None own lt = record { leaves = stay; own = record { client = client; phase = owned (nat_lt (next + 1) (length x.pieces)) }; pays = λ known. paid (nat_lt (next + 1) (length x.pieces)) refl }
    where
      owned : (b : Bool) → OwnsWriting c (cond b (at.Lock x (next + 1)) (at.Send x 0))
      owned true = own
      owned false = (own, omega (arith, lt))

      paid : (b : Bool) → nat_lt (next + 1) (length x.pieces) ≡ b
          → (write_left base (cond b (at.Lock x (next + 1)) (at.Send x 0)) s.meta + 1) + dues cost fails s.targets ≤ (((2 * length x.pieces - next) + 2) + again base (has_cookie x.opened s.meta)) + dues cost fails s.targets
      paid true e = omega (arith, lt)
      paid false e = omega (arith, lt)

  sends : (x : WritingView) (next : ℕ) (p : Piece) (a : CallAnswer) → x.opened.cookie.client ≡ c → next < length x.pieces → ((kept : ℕ) → a ≡ answer.Old kept → has_cookie x.opened s.meta ≡ false)
      → Goes WriteView (OwnsWrite c) Known Left c cost fails s (((length x.pieces - next) + 2) + again base (has_cookie x.opened s.meta))
      (write_on w (after_send w (last_eviction w.client s.meta) x next (came_of (next_call_on s.targets (object_of p).target) a))) (piece_sent w s x p)
  sends x next p a own lt lost = record { leaves = stay; own = record { client = client; phase = owned a }; pays = λ known. paid a lost }
    where
      due : dues cost fails (piece_sent w s x p).targets ≤ dues cost fails s.targets
      due = called_due cost fails s (object_of p).target (after_write (target_of s p) (object_of p).number p.offset (bytes_of w p) x.opened.layout.generation) _ refl

      owns_more : (b : Bool) → nat_lt (next + 1) (length x.pieces) ≡ b → OwnsWriting c (cond b (at.Send x (next + 1)) (commits_to w x sent.All))
      owns_more true e = (own, grind (arith, nat_tests))
      owns_more false e = own

      owns_old : (step : ℕ) (b : Bool) → OwnsWriting c (cond b at.UnlockAgain (commits_to w x (sent.Old next step)))
      owns_old step true = tt
      owns_old step false = own

      owned : (a : CallAnswer) → OwnsWriting c (after_send w (last_eviction w.client s.meta) x next (came_of (next_call_on s.targets (object_of p).target) a))
      owned answer.Ok = owns_more (nat_lt (next + 1) (length x.pieces)) refl
      owned (answer.Old kept) = owns_old (unwrap_or (last_eviction w.client s.meta) 0) (nat_eq next 0)
      owned answer.Failed = own

      pays_more : (b : Bool) → nat_lt (next + 1) (length x.pieces) ≡ b → write_left base (cond b (at.Send x (next + 1)) (commits_to w x sent.All)) s.meta + 1 ≤ ((length x.pieces - next) + 2) + again base (has_cookie x.opened s.meta)
      pays_more true e = omega (arith, lt)
      pays_more false e = omega (arith, lt)

      pays_old : (step : ℕ) (b : Bool) → has_cookie x.opened s.meta ≡ false → write_left base (cond b at.UnlockAgain (commits_to w x (sent.Old next step))) s.meta + 1 ≤ ((length x.pieces - next) + 2) + again base (has_cookie x.opened s.meta)
      pays_old step true e = let all = lost_cost base (has_cookie x.opened s.meta) e in omega (arith, all, lt)
      pays_old step false e = omega (arith, lt)

      paid : (a : CallAnswer) → ((kept : ℕ) → a ≡ answer.Old kept → has_cookie x.opened s.meta ≡ false)
          → (write_left base (after_send w (last_eviction w.client s.meta) x next (came_of (next_call_on s.targets (object_of p).target) a)) s.meta + 1) + dues cost fails (piece_sent w s x p).targets
          ≤ (((length x.pieces - next) + 2) + again base (has_cookie x.opened s.meta)) + dues cost fails s.targets
      paid answer.Ok lost = let most = pays_more (nat_lt (next + 1) (length x.pieces)) refl in omega (arith, most, due)
      paid (answer.Old kept) lost = let most = pays_old (unwrap_or (last_eviction w.client s.meta) 0) (nat_eq next 0) (lost kept refl) in omega (arith, most, due)
      paid answer.Failed lost = omega (arith, lt, due)

  commits_by : (x : WritingView) (end : ℕ) (came : Sent) (b : Bool) → is_there x.opened.file s.meta ≡ b → x.opened.cookie.client ≡ c
      → Fares WriteView (OwnsWrite c) Known Left c cost fails s (2 + again base (has_cookie x.opened s.meta)) (commits_write w s x end came b)
  commits_by x end came true e own = record {
    leaves = leaves_by c (Commit x.opened.file x.opened.cookie end) s.meta (commits x.opened.file x.opened.cookie end s.meta) refl (λ number cookie other k. other (k ∙ own));
    own = record { client = client; phase = tt };
    pays = λ known. omega arith;
  }
  commits_by x end came false e own = record {
    leaves = stay;
    own = record { client = client; phase = tt };
    pays = λ known. (let all = lost_cost base (has_cookie x.opened s.meta) (gone_lost x.opened.file x.opened.cookie s.meta e) in omega (arith, all));
  }

  by_phase : (at : WriteAt) → OwnsWriting c at → KnownWrite s w at → Fares WriteView (OwnsWrite c) Known Left c cost fails s (write_left base at s.meta) (write_at at w place s)
  by_phase at.Open own known = opened_by (write_opens w.client w.name (range_of w) place s.meta) refl (opens_held w.client (range_of w) place s.meta numbered w.name (nat_lt most_bytes (range_of w).end))
  by_phase (at.Lock x next) own known = locks x next (blocker s.locks (lock_for w (piece_at x.pieces next))) own known.0
  by_phase (at.Send x next) own known =
      let p : Piece = piece_at x.pieces next in sends x next p (write_answer (target_of s p) (object_of p).number x.opened.layout.generation) own.0 own.1 known
  by_phase (at.Commit x end came) own known = commits_by x end came (is_there x.opened.file s.meta) refl own
  by_phase at.UnlockAgain own known = record { leaves = stay; own = record { client = client; phase = tt }; pays = λ known. omega arith }
  by_phase at.Unlock own known = record { leaves = stay; pays = omega arith }

-- each step of a write
pub write_fares : (c cost : ℕ) (fails : List Fail) (w : WriteView) (place : ℕ) (s : Servers) (base : ℕ) → OwnsWrite c w → KnownWrite s w w.at → AreNumbered s.meta → 2 * blocks_of (range_of w).start (range_of w).end + 3 ≤ base
    → Fares WriteView (OwnsWrite c) (λ next after. KnownWrite after next next.at) (λ next m. write_left base next.at m) c cost fails s (write_left base w.at s.meta) (write_step w place s)
write_fares c cost fails w place s base own known numbered low = by_phase c cost fails w place s base own.client numbered low w.at own.phase known

-- ---- truncates

module _ (c cost : ℕ) (fails : List Fail) (t : TruncateView) (place : ℕ) (s : Servers) (base stripes : ℕ) (client : t.client ≡ c) (numbered : AreNumbered s.meta) (low : 4 + stripes ≤ base) where
  abbrev CutKnown : TruncateView → Servers → Type 0
  CutKnown next after = KnownCut stripes after next.at

  abbrev CutLeft : TruncateView → MetaView → ℕ
  CutLeft next m = cut_left base next.at m

  cut_stay : Leaves c s.meta s.meta
  cut_stay number cookie other h = h

  cut_by : (o : meta.Outcome Opened) → cut_opens t.client t.name t.size place s.meta ≡ o → OpensHeld t.client o → Fares TruncateView (OwnsTruncate c) CutKnown CutLeft c cost fails s base (opens_cut t s o)
  cut_by (Gives o after) e held = record {
    leaves = leaves_by c (OpenCut t.client t.name t.size place) s.meta after (sym (ap (λ (o : meta.Outcome Opened). left_by o s.meta) e)) (λ number cookie other. tt);
    own = record { client = client; phase = held.0 ∙ client };
    pays = λ known. (let free = same_cost base (has_cookie o after) held.1 in omega (arith, known, free, low));
  }
  cut_by (Refuses reply) e held = record { leaves = cut_stay; pays = omega (arith, low) }
  cut_by (Waits holder) e held = tt

  cut_locks : (x : CuttingView) (o : Option (ℕ × Range)) → x.opened.cookie.client ≡ c
      → Fares TruncateView (OwnsTruncate c) CutKnown CutLeft c cost fails s ((length x.tails + 3) + again base (has_cookie x.opened s.meta)) (locks_tails t s x o)
  cut_locks x (Some told) own = tt
  cut_locks x None own = record { leaves = cut_stay; own = record { client = client; phase = owned (nat_lt 0 (length x.tails)) refl }; pays = λ known. paid (nat_lt 0 (length x.tails)) }
    where
      owned : (b : Bool) → nat_lt 0 (length x.tails) ≡ b → OwnsCutting c (cond b (cut.Punch x 0) (cut.Commit x sent.All))
      owned true e = (own, grind (arith, nat_tests))
      owned false e = own

      paid : (b : Bool) → (cut_left base (cond b (cut.Punch x 0) (cut.Commit x sent.All)) s.meta + 1) + dues cost fails s.targets ≤ ((length x.tails + 3) + again base (has_cookie x.opened s.meta)) + dues cost fails s.targets
      paid true = omega arith
      paid false = omega arith

  punches : (x : CuttingView) (next : ℕ) (tail : Tail) (a : CallAnswer) → x.opened.cookie.client ≡ c → next < length x.tails → ((kept : ℕ) → a ≡ answer.Old kept → has_cookie x.opened s.meta ≡ false)
      → Goes TruncateView (OwnsTruncate c) CutKnown CutLeft c cost fails s (((length x.tails - next) + 2) + again base (has_cookie x.opened s.meta))
      (truncate_on t (after_punches (last_eviction t.client s.meta) x next (came_of (next_call_on s.targets tail.object.target) a))) (tail_punched s x tail)
  punches x next tail a own lt lost = record { leaves = cut_stay; own = record { client = client; phase = owned a }; pays = λ known. paid a lost }
    where
      due : dues cost fails (tail_punched s x tail).targets ≤ dues cost fails s.targets
      due = called_due cost fails s tail.object.target (after_punch (target_of_tail s tail) tail.object.number tail.offset x.opened.layout.generation) _ refl

      owns_more : (b : Bool) → nat_lt (next + 1) (length x.tails) ≡ b → OwnsCutting c (cond b (cut.Punch x (next + 1)) (cut.Commit x sent.All))
      owns_more true e = (own, grind (arith, nat_tests))
      owns_more false e = own

      owns_old : (step : ℕ) (b : Bool) → OwnsCutting c (cond b cut.UnlockAgain (cut.Commit x (sent.Old next step)))
      owns_old step true = tt
      owns_old step false = own

      owned : (a : CallAnswer) → OwnsCutting c (after_punches (last_eviction t.client s.meta) x next (came_of (next_call_on s.targets tail.object.target) a))
      owned answer.Ok = owns_more (nat_lt (next + 1) (length x.tails)) refl
      owned (answer.Old kept) = owns_old (unwrap_or (last_eviction t.client s.meta) 0) (nat_eq next 0)
      owned answer.Failed = own

      pays_more : (b : Bool) → cut_left base (cond b (cut.Punch x (next + 1)) (cut.Commit x sent.All)) s.meta + 1 ≤ ((length x.tails - next) + 2) + again base (has_cookie x.opened s.meta)
      pays_more true = omega (arith, lt)
      pays_more false = omega (arith, lt)

      pays_old : (step : ℕ) (b : Bool) → has_cookie x.opened s.meta ≡ false → cut_left base (cond b cut.UnlockAgain (cut.Commit x (sent.Old next step))) s.meta + 1 ≤ ((length x.tails - next) + 2) + again base (has_cookie x.opened s.meta)
      pays_old step true e = let all = lost_cost base (has_cookie x.opened s.meta) e in omega (arith, all, lt)
      pays_old step false e = omega (arith, lt)

      paid : (a : CallAnswer) → ((kept : ℕ) → a ≡ answer.Old kept → has_cookie x.opened s.meta ≡ false)
          → (cut_left base (after_punches (last_eviction t.client s.meta) x next (came_of (next_call_on s.targets tail.object.target) a)) s.meta + 1) + dues cost fails (tail_punched s x tail).targets
          ≤ (((length x.tails - next) + 2) + again base (has_cookie x.opened s.meta)) + dues cost fails s.targets
      paid answer.Ok lost = let most = pays_more (nat_lt (next + 1) (length x.tails)) in omega (arith, most, due)
      paid (answer.Old kept) lost = let most = pays_old (unwrap_or (last_eviction t.client s.meta) 0) (nat_eq next 0) (lost kept refl) in omega (arith, most, due)
      paid answer.Failed lost = omega (arith, lt, due)

  committed : (x : CuttingView) (came : Sent) → x.opened.cookie.client ≡ c → Leaves c s.meta (cut_committed t s x came).meta
  committed x sent.All own = leaves_by c (Cut x.opened.file x.opened.cookie t.size) s.meta (cuts x.opened.file x.opened.cookie t.size s.meta) refl (λ number cookie other k. other (k ∙ own))
  committed x (sent.Failed accepted call) own = leaves_by c (Commit x.opened.file x.opened.cookie 0) s.meta (commits x.opened.file x.opened.cookie 0 s.meta) refl (λ number cookie other k. other (k ∙ own))
  committed x (sent.Old accepted step) own = leaves_by c (Commit x.opened.file x.opened.cookie 0) s.meta (commits x.opened.file x.opened.cookie 0 s.meta) refl (λ number cookie other k. other (k ∙ own))

  same_targets : (x : CuttingView) (came : Sent) → (cut_committed t s x came).targets ≡ s.targets
  same_targets x sent.All = refl
  same_targets x (sent.Failed accepted call) = refl
  same_targets x (sent.Old accepted step) = refl

  cut_commits : (x : CuttingView) (came : Sent) (b : Bool) → is_there x.opened.file s.meta ≡ b → x.opened.cookie.client ≡ c
      → Fares TruncateView (OwnsTruncate c) CutKnown CutLeft c cost fails s (2 + again base (has_cookie x.opened s.meta)) (commits_cut t s x came b)
  cut_commits x came true e own = record {
    leaves = committed x came own;
    own = record { client = client; phase = tt };
    pays = λ known. (let same : dues cost fails (cut_committed t s x came).targets ≡ dues cost fails s.targets = ap (dues cost fails) (same_targets x came) in omega (arith, same));
  }
  cut_commits x came false e own = record {
    leaves = cut_stay;
    own = record { client = client; phase = tt };
    pays = λ known. (let all = lost_cost base (has_cookie x.opened s.meta) (gone_lost x.opened.file x.opened.cookie s.meta e) in omega (arith, all));
  }

  cut_phase : (at : CutAt) → OwnsCutting c at → KnownCut stripes s at → Fares TruncateView (OwnsTruncate c) CutKnown CutLeft c cost fails s (cut_left base at s.meta) (truncate_at at t place s)
  cut_phase cut.Open own known = cut_by (cut_opens t.client t.name t.size place s.meta) refl (opens_held t.client (record { start = t.size; end = eof }) place s.meta numbered t.name (nat_lt most_bytes t.size))
  cut_phase (cut.Lock x) own known = cut_locks x (first_blocker (locks_for t x) s.locks) own
  cut_phase (cut.Punch x next) own known =
      let tail : Tail = tail_at x.tails next in punches x next tail (punch_answer (target_of_tail s tail) tail.object.number x.opened.layout.generation) own.0 own.1 known
  cut_phase (cut.Commit x came) own known = cut_commits x came (is_there x.opened.file s.meta) refl own
  cut_phase cut.UnlockAgain own known = record { leaves = cut_stay; own = record { client = client; phase = tt }; pays = λ known. omega arith }
  cut_phase cut.Unlock own known = record { leaves = cut_stay; pays = omega arith }

-- each step of a truncate
pub truncate_fares : (c cost : ℕ) (fails : List Fail) (t : TruncateView) (place : ℕ) (s : Servers) (base stripes : ℕ) → OwnsTruncate c t → KnownCut stripes s t.at → AreNumbered s.meta → 4 + stripes ≤ base
    → Fares TruncateView (OwnsTruncate c) (λ next after. KnownCut stripes after next.at) (λ next m. cut_left base next.at m) c cost fails s (cut_left base t.at s.meta) (truncate_step t place s)
truncate_fares c cost fails t place s base stripes own known numbered low = cut_phase c cost fails t place s base stripes own.client numbered low t.at own.phase known
