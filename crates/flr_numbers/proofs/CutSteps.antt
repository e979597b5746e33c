-- Each step of a truncate.
use Rattle.std.proofs.Common.{◌≡◌, ℕ, ◌+◌, ◌<◌, ◌≤◌, Bool, true, false, cond, nat_eq, nat_lt, Option, Some, None, List, [], ◌∷◌, ◌++◌, length, map, refl, sym, subst, arith}
use Rattle.std.specs.Prelude.{All, unwrap_or}
use Rattle.std.specs.List.{AllByRecursion}
use Rattle.std.proofs.lemmas.Bool.Decides.{nat_tests}
use Rattle.std.proofs.lemmas.List.Elements.{All-contains_itself, All-map}
use Rattle.std.proofs.lemmas.Option.{get_or_from_slice_get, slice_get_within}
use Rattle.flr_base.specs.declared.reply.Range.{Range}
use Rattle.composite_layout.specs.Layouts.{Composite, IsValid, eof}
use Rattle.extent_lock.specs.declared.lock.Lock.{Lock}
use Rattle.extent_lock.specs.Extents.{locks_but}
use Rattle.layout_lease.specs.Clients.{IsClient}
use Rattle.mirror_select.specs.declared.types.Tail.{Tail}
use Rattle.mirror_select.specs.Laws.{HasTail}
use Rattle.mirror_select.specs.Tails.{StripeObject, tail_in, tail_stripes, tails_of}
use Rattle.mirror_select.proofs.TailLaws.{are_all}
use Rattle.object_target.specs.Calls.{after_punch}
use Rattle.meta_server.specs.declared.answers.Opened.{Opened}
use Rattle.meta_server.specs.Closing.{commits, cuts, grown, is_there, last_eviction, shortened}
use Rattle.flr_base.specs.Limits.{most_bytes}
use Rattle.meta_server.specs.Opening.{cut_opens}
use Rattle.meta_server.specs.Outcomes.{Gives, Refuses, Waits}
use Rattle.meta_server.specs.Outcomes as meta
use Rattle.meta_laws.specs.Calls.{Commit, Cut, OpenCut}
use Rattle.flr_numbers.specs.Frames.{Stands}
use Rattle.flr_numbers.proofs.Cookies.{held_freed}
use Rattle.flr_numbers.proofs.Leaving.{lock_changes}
use Rattle.call_steps.specs.Servers.{Servers, next_call_on}
use Rattle.call_steps.specs.Steps.{Going}
use Rattle.client_write.specs.declared.phase.Came.{Came}
use Rattle.client_write.specs.declared.phase.Came.TheVariants as came
use Rattle.client_write.specs.declared.phase.CutAt.{CutAt}
use Rattle.client_write.specs.declared.phase.CutAt.TheVariants as at
use Rattle.client_write.specs.declared.phase.Sent.{Sent}
use Rattle.client_write.specs.declared.phase.Sent.TheVariants as sent
use Rattle.client_write.specs.Calls.{TruncateView}
use Rattle.client_write.specs.CutFitting.{HasTails, IsSoundCutAt}
use Rattle.client_write.specs.Truncates.{after_punches, came_of_tail, commits_cut, cut_committed, first_blocker, locks_for, locks_tails, opens_cut, punches_from, tail_at, tail_lock, tail_punched, target_of_tail, truncate_at, truncate_on}
use Rattle.client_write.specs.Views.{CuttingView}
use Rattle.flr_numbers.specs.Calls.{IsTruncateOf, cut_hand, hand_of_truncate}
use Rattle.flr_numbers.specs.Hands.{AreServers, Fine, Good, Hand, Has, HasRoom, holding, locked, nothing}
use Rattle.flr_numbers.proofs.Handing.{freed_has, held_has, lost_has, more_locked, others_locked}
use Rattle.flr_numbers.proofs.Metas.{called, good_locks, good_meta, good_same, good_targets, may_share, none_there, unlocked_has}
use Rattle.flr_numbers.proofs.Objects.{named_stands, punch_version}
use Rattle.flr_numbers.proofs.Opens.{OpensWell, opens_well}
use Rattle.flr_numbers.proofs.Serving.{kept_by}
use Rattle.flr_numbers.proofs.WriteSteps.{none_old}

-- ---- tails

stripe_stands : (l : Composite) (size : ℕ) (s : StripeObject) → HasTail l size s → Stands s.object l
stripe_stands l size s has =
    named_stands s.object l.components (s.component, has.there, (s.index, slice_get_within s.component.objects s.index s.object has.object, get_or_from_slice_get s.component.objects s.index s.object s.object has.object))

tails_stand : (l : Composite) (size : ℕ) → IsValid l → All (λ (t : Tail). Stands t.object l) (tails_of l size)
tails_stand l size valid =
    All-map (λ (t : Tail). Stands t.object l) (tail_in size) (tail_stripes l size)
    (λ k d h. stripe_stands l size _ ((are_all l size _ valid).0 (All-contains_itself (tail_stripes l size) k d h)))

-- the object of a tail stands in the layout
tail_stands : (size : ℕ) (x : CuttingView) (place : ℕ) → HasTails size x → place < length x.tails → Stands (tail_at x.tails place).object x.opened.layout
tail_stands size x place has within =
    subst (λ (ts : List Tail). All (λ (t : Tail). Stands t.object x.opened.layout) ts) (sym has.are) (tails_stand x.opened.layout size has.valid) place _ within

-- the locks of tails are the client's
all_own : (client : ℕ) (tails : List Tail) → AllByRecursion (λ (lock : Lock). lock.holder ≡ client) (map (tail_lock client) tails)
all_own client [] = tt
all_own client (t ∷ ts) = (refl, all_own client ts)

punches_next : (x : CuttingView) (next size : ℕ) → HasTails size x → (cut_hand (punches_from x next) ≡ holding true x.opened) × IsSoundCutAt (punches_from x next) size
punches_next x next size has = by (nat_lt next (length x.tails)) refl
  where
    by : (b : Bool) → nat_lt next (length x.tails) ≡ b → (cut_hand (cond b (at.Punch x next) (at.Commit x sent.All)) ≡ holding true x.opened) × IsSoundCutAt (cond b (at.Punch x next) (at.Commit x sent.All)) size
    by true e = let less : next < length x.tails = grind (arith, nat_tests) in (refl, (has, less))
    by false e = (refl, (has, tt))

module _ (t : TruncateView) (s : Servers) (is : IsClient t.client) (room : HasRoom s.meta) (h : AreServers s.meta s.targets) where
  opens_by : (o : meta.Outcome Opened) → Has t.client s.meta s.locks nothing → OpensWell t.client s false (record { start = t.size; end = eof }) (nat_lt most_bytes t.size) o → Fine t.client hand_of_truncate (IsTruncateOf t.client) s (opens_cut t s o)
  opens_by (Gives o after) has well =
      let below : t.size ≤ most_bytes = (let big = well.3 in grind (arith, nat_tests)) in
      (well.0, (refl, record { valid = well.1; are = refl; below = below }))
  opens_by (Refuses answer) has well = good_same t.client s nothing h has
  opens_by (Waits holder) has well = tt

  opens_fine : (place : ℕ) → Has t.client s.meta s.locks nothing → Fine t.client hand_of_truncate (IsTruncateOf t.client) s (opens_cut t s (cut_opens t.client t.name t.size place s.meta))
  opens_fine place has =
      opens_by (cut_opens t.client t.name t.size place s.meta) has
      (opens_well t.client s h has false t.name (record { start = t.size; end = eof }) place (nat_lt most_bytes t.size)
      (kept_by (OpenCut t.client t.name t.size place) s.meta h.sound h.once (record { known = is; share = may_share t.client t.name s.meta s.locks h.sound room has; generations = room.generations; objects = room.objects })))

  locks_fine : (x : CuttingView) (b : Option (ℕ × Range)) → Has t.client s.meta s.locks (holding false x.opened) → HasTails t.size x → Fine t.client hand_of_truncate (IsTruncateOf t.client) s (locks_tails t s x b)
  locks_fine x (Some told) has tails = tt
  locks_fine x None has tails =
      let left : List Lock = s.locks ++ locks_for t x in
      let after = punches_next x 0 t.size tails in (
        subst (λ (k : Hand). Good t.client s k (record s { locks = left })) (sym after.0)
            (good_locks t.client s (holding true x.opened) left (λ other apart. more_locked t.client other s.locks (locks_for t x) apart (all_own t.client x.tails)) h (held_has t.client s.meta s.locks left false x.opened has true (λ no. absurd (cc)))),
        (refl, after.1),
      )

  module _ (x : CuttingView) (next : ℕ) (has : Has t.client s.meta s.locks (holding true x.opened)) (tails : HasTails t.size x) (within : next < length x.tails) where
    abbrev tail : Tail
    tail = tail_at x.tails next

    punched_good : (k : Hand) → Has t.client s.meta s.locks k → Good t.client s k (tail_punched s x tail)
    punched_good k has =
        good_targets t.client s k (tail_punched s x tail).targets
        (called s tail.object.target (after_punch (target_of_tail s tail) tail.object.number tail.offset x.opened.layout.generation) (λ n. punch_version (target_of_tail s tail) tail.object.number tail.offset x.opened.layout.generation n) h) has

    old_fine : (b : Bool) → nat_eq next 0 ≡ b → came_of_tail s x tail ≡ came.TooOld
        → Good t.client s (cut_hand (cond b at.UnlockAgain (at.Commit x (sent.Old next (unwrap_or (last_eviction t.client s.meta) 0))))) (tail_punched s x tail)
        × IsSoundCutAt (cond b at.UnlockAgain (at.Commit x (sent.Old next (unwrap_or (last_eviction t.client s.meta) 0)))) t.size
    old_fine true e old = (
      punched_good locked (lost_has t.client s.meta s.locks true x.opened has
          (none_old t.client s.meta s.targets s.locks true x.opened tail.object (next_call_on s.targets tail.object.target) h has (tail_stands t.size x next tails within) old)),
      tt,
    )
    old_fine false e old = let some : 0 < next = grind (arith, nat_tests) in (punched_good (holding true x.opened) has, (tails, (some, within)))

    punches_fine : (k : Came) → came_of_tail s x tail ≡ k → Fine t.client hand_of_truncate (IsTruncateOf t.client) s (Going (truncate_on t (after_punches (last_eviction t.client s.meta) x next k)) (tail_punched s x tail))
    punches_fine came.Accepted e =
        let after = punches_next x (next + 1) t.size tails in
        (subst (λ (k : Hand). Good t.client s k (tail_punched s x tail)) (sym after.0) (punched_good (holding true x.opened) has), (refl, after.1))
    punches_fine came.TooOld e = let k = old_fine (nat_eq next 0) refl e in (k.0, (refl, k.1))
    punches_fine (came.Failed call) e = (punched_good (holding true x.opened) has, (refl, (tails, within)))

  committed : (x : CuttingView) (end : ℕ) → end ≤ most_bytes → Has t.client s.meta s.locks (holding true x.opened) → Good t.client s locked (record s { meta = commits x.opened.file x.opened.cookie end s.meta })
  committed x end few has =
      good_meta t.client s locked (commits x.opened.file x.opened.cookie end s.meta) (kept_by (Commit x.opened.file x.opened.cookie end) s.meta h.sound h.once few)
      (lock_changes t.client s.meta x.opened.file (grown x.opened.cookie end) (λ y. refl) (λ y. refl) (λ y cookie apart held. (held_freed x.opened.cookie y.lock cookie held).0)) h
      (freed_has t.client s.meta s.locks true x.opened (grown x.opened.cookie end) (λ y. refl) (λ y cookie held. held_freed x.opened.cookie y.lock cookie held) has)

  cut_good : (x : CuttingView) (k : Sent) → Has t.client s.meta s.locks (holding true x.opened) → HasTails t.size x → Good t.client s locked (cut_committed t s x k)
  cut_good x sent.All has tails =
      good_meta t.client s locked (cuts x.opened.file x.opened.cookie t.size s.meta) (kept_by (Cut x.opened.file x.opened.cookie t.size) s.meta h.sound h.once tails.below)
      (lock_changes t.client s.meta x.opened.file (shortened x.opened.cookie t.size) (λ y. refl) (λ y. refl) (λ y cookie apart held. (held_freed x.opened.cookie y.lock cookie held).0)) h
      (freed_has t.client s.meta s.locks true x.opened (shortened x.opened.cookie t.size) (λ y. refl) (λ y cookie held. held_freed x.opened.cookie y.lock cookie held) has)
  cut_good x (sent.Failed accepted call) has tails = committed x 0 (omega arith) has
  cut_good x (sent.Old accepted step) has tails = committed x 0 (omega arith) has

  commits_fine : (x : CuttingView) (k : Sent) (b : Bool) → is_there x.opened.file s.meta ≡ b → Has t.client s.meta s.locks (holding true x.opened) → HasTails t.size x → Fine t.client hand_of_truncate (IsTruncateOf t.client) s (commits_cut t s x k b)
  commits_fine x k true there has tails = (cut_good x k has tails, (refl, tt))
  commits_fine x k false gone has tails = (good_same t.client s locked h (lost_has t.client s.meta s.locks true x.opened has (none_there t.client s.meta s.locks true x.opened has gone)), (refl, tt))

  unlocks : Has t.client s.meta s.locks locked → Good t.client s nothing (record s { locks = locks_but t.client s.locks })
  unlocks has = good_locks t.client s nothing (locks_but t.client s.locks) (λ other apart. others_locked t.client other s.locks apart) h (unlocked_has t.client s.meta s.locks has)

  -- each step of a truncate is fine
  pub truncate_fine : (a : CutAt) (place : ℕ) → Has t.client s.meta s.locks (cut_hand a) → IsSoundCutAt a t.size → Fine t.client hand_of_truncate (IsTruncateOf t.client) s (truncate_at a t place s)
  truncate_fine at.Open place has sound = opens_fine place has
  truncate_fine (at.Lock x) place has sound = locks_fine x (first_blocker (locks_for t x) s.locks) has sound
  truncate_fine (at.Punch x next) place has sound = punches_fine x next has sound.0 sound.1 (came_of_tail s x (tail_at x.tails next)) refl
  truncate_fine (at.Commit x k) place has sound = commits_fine x k (is_there x.opened.file s.meta) refl has sound.0
  truncate_fine at.UnlockAgain place has sound = (unlocks has, (refl, tt))
  truncate_fine at.Unlock place has sound = unlocks has
