-- What a step of a client leaves of the cookies of all others, and of the evictions that are noted.
use Rattle.std.proofs.Common.{◌≡◌, ◌≢◌, ℕ, ◌<◌, ◌≤◌, Bool, true, false, cond, nat_eq, nat_lt, if◌then◌else◌, Option, Some, None, List, length, ◌⊎◌, inl, inr, refl, sym, ap, subst, ◌∙◌, arith, get_or-set_other, get_or-set_same}
use Rattle.std.proofs.lemmas.Bool.{cases_eq, cases_lt}
use Rattle.std.proofs.lemmas.Bool.Decides.{nat_tests}
use Rattle.std.proofs.lemmas.List.{set_past}
use Rattle.flr_base.specs.declared.reply.Range.{Range}
use Rattle.composite_layout.specs.Layouts.{eof}
use Rattle.layout_lease.specs.declared.shared.Share.{Share}
use Rattle.layout_lease.specs.Clients.{IsClient}
use Rattle.layout_lease.specs.Leases.{KeyView}
use Rattle.meta_server.specs.Closing.{holds, last_eviction}
use Rattle.meta_server.specs.Ending.{both_given}
use Rattle.meta_server.specs.Files.{MetaView, file_named, with_eviction}
use Rattle.flr_base.specs.Limits.{most_bytes}
use Rattle.meta_server.specs.Opening.{change_opens_file}
use Rattle.meta_laws.specs.Calls.{Call, OpenRead, OpenWrite, OpenCut, Free, Confirm, Commit, Cut, BeginCopy, CopyDone, MergeDone, GiveUp, Create, Remove, Set, Evict, after_call, confirmed, left_by}
use Rattle.meta_laws.proofs.Cases.{begin_cases, create_cases, end_cases, merge_cases, open_cases, read_cases, remove_cases, set_cases}
use Rattle.script_values.specs.declared.command.Command.{Command}
use Rattle.script_values.specs.declared.command.Command.TheVariants as command
use Rattle.flr_work.proofs.Held.{Spares, call_held}
use Rattle.flr_places.proofs.Steps.{IsAskedAt}

-- a cookie of another client that is held stays held, or its client is evicted at this place; and what is noted of a client stays, or the eviction that is asked for is noted, at this place
pub record LeavesOthers (asked : Command) (c place : ℕ) (m new : MetaView) : Type 0 where
  pub held : (number : ℕ) (cookie : Share) → IsClient cookie.client → cookie.client ≢ c → holds number cookie m ≡ true → (holds number cookie new ≡ true) ⊎ (last_eviction cookie.client new ≡ Some place)
  pub noted : (k : ℕ) → (last_eviction k new ≡ last_eviction k m) ⊎ ((last_eviction k new ≡ Some place) × (asked ≡ command.Evict k))

-- ---- what is noted

-- the place that is noted, if one is
abbrev pub place_of : ℕ → Option ℕ
place_of place = if nat_eq place 0 then None else Some place

some_place : (place : ℕ) → 0 < place → place_of place ≡ Some place
some_place place some = let none : nat_eq place 0 ≡ false = grind (arith, nat_tests) in λ j. cond (none j) None (Some place)

same_noted : (k : ℕ) (m new : MetaView) → new.evicted ≡ m.evicted → last_eviction k new ≡ last_eviction k m
same_noted k m new same = ap (λ (places : List ℕ). last_eviction k (record m { evicted = places })) same

-- ---- each call

module _ (asked : Command) (c place : ℕ) (some : 0 < place) (m : MetaView) (long : length m.evicted ≡ 17) where
  -- nothing happens
  pub same_others : (new : MetaView) → new.files ≡ m.files → new.evicted ≡ m.evicted → LeavesOthers asked c place m new
  same_others new files evicted = record {
    held = λ number cookie is apart h. inl (subst (λ fs. holds number cookie (record m { files = fs }) ≡ true) (sym files) h);
    noted = λ k. inl (same_noted k m new evicted);
  }

  -- a call that evicts nobody, and takes no cookie of another client
  kept : (call : Call) → ((number : ℕ) (cookie : Share) → cookie.client ≢ c → Spares number cookie call) → (after_call call m).evicted ≡ m.evicted → LeavesOthers asked c place m (after_call call m)
  kept call spares same = record {
    held = λ number cookie is apart h. inl (call_held number cookie call m (spares number cookie apart) h);
    noted = λ k. inl (same_noted k m (after_call call m) same);
  }

  -- a client is evicted
  pub evicted_here : (k : ℕ) → k < length m.evicted → last_eviction k (with_eviction k place m) ≡ Some place
  evicted_here k within = ap place_of (get_or-set_same m.evicted k place 0 within) ∙ some_place place some

  evicts : (other : ℕ) → asked ≡ command.Evict other → LeavesOthers asked c place m (with_eviction other place m)
  evicts other is = record {
    held = λ number cookie known apart h. by number cookie known h (cases_eq cookie.client other);
    noted = λ k. note k (cases_eq k other);
  }
    where
      by : (number : ℕ) (cookie : Share) → IsClient cookie.client → holds number cookie m ≡ true → (cookie.client ≡ other) ⊎ (cookie.client ≡ other → ⊥) → (holds number cookie (with_eviction other place m) ≡ true) ⊎ (last_eviction cookie.client (with_eviction other place m) ≡ Some place)
      by number cookie known h (inl same) = let few = known.1 in inr (subst (λ n. last_eviction cookie.client (with_eviction n place m) ≡ Some place) same (evicted_here cookie.client (omega (arith, few, long))))
      by number cookie known h (inr apart) = inl (call_held number cookie (Evict other place) m apart h)

      mine : (k : ℕ) → k ≡ other → (k < length m.evicted) ⊎ (length m.evicted ≤ k) → (last_eviction k (with_eviction other place m) ≡ last_eviction k m) ⊎ ((last_eviction k (with_eviction other place m) ≡ Some place) × (asked ≡ command.Evict k))
      mine k same (inl within) = inr (subst (λ n. last_eviction k (with_eviction n place m) ≡ Some place) same (evicted_here k within), is ∙ ap command.Evict (sym same))
      mine k same (inr past) = inl (same_noted k m (with_eviction other place m) (set_past m.evicted other place (omega (arith, past, same))))

      note : (k : ℕ) → (k ≡ other) ⊎ (k ≡ other → ⊥) → (last_eviction k (with_eviction other place m) ≡ last_eviction k m) ⊎ ((last_eviction k (with_eviction other place m) ≡ Some place) × (asked ≡ command.Evict k))
      note k (inl same) = mine k same (cases_lt k (length m.evicted))
      note k (inr apart) = inl (ap place_of (get_or-set_other m.evicted other k place 0 apart))

  -- the evictions stay as they were noted
  abbrev Same : MetaView → Type 0
  Same new = new.evicted ≡ m.evicted

  opened : (client : ℕ) (name : List ℕ) (range : Range) (step : ℕ) (b : Bool) → Same (left_by (change_opens_file client range step m name b (file_named name m.files)) m)
  opened client name range step b = open_cases Same client name range step m (record { same = refl; shared = λ f e. refl; intended = λ f mirror e primary. refl }) b

  confirms : (file : ℕ) (cookie : Share) (b : Bool) → Same (confirmed file cookie b m)
  confirms file cookie true = refl
  confirms file cookie false = refl

  -- each call of the client at the place
  pub call_leaves : (call : Call) → IsAskedAt asked c place call → LeavesOthers asked c place m (after_call call m)
  call_leaves (OpenRead client name) well = kept (OpenRead client name) (λ number cookie apart. tt) (read_cases Same client name m (record { same = refl; shared = λ f e. refl }))
  call_leaves (OpenWrite client name range step) well = kept (OpenWrite client name range step) (λ number cookie apart. tt) (opened client name range step (nat_lt most_bytes range.end))
  call_leaves (OpenCut client name size step) well = kept (OpenCut client name size step) (λ number cookie apart. tt) (opened client name (record { start = size; end = eof }) step (nat_lt most_bytes size))
  call_leaves (Free file given) well = kept (Free file given) (λ number cookie apart same. apart (same ∙ well)) refl
  call_leaves (Confirm file given) well = kept (Confirm file given) (λ number cookie apart same. apart (same ∙ well)) (confirms file given (holds file given m))
  call_leaves (Commit file given end) well = kept (Commit file given end) (λ number cookie apart same. apart (same ∙ well)) refl
  call_leaves (Cut file given size) well = kept (Cut file given size) (λ number cookie apart same. apart (same ∙ well)) refl
  call_leaves (BeginCopy client name what) well = kept (BeginCopy client name what) (λ number cookie apart. tt) (begin_cases Same client name what m (record {
    same = refl;
    begins = λ ids f e free. refl;
    adds = λ mirrors f is e free within. refl;
    extends = λ mirrors ids f is e free within. refl;
    both = λ victim f v is e k free free_too. refl;
  }))
  call_leaves (CopyDone key cleared) well = kept (CopyDone key cleared) (λ number cookie apart. tt) (end_cases Same key cleared m (record { same = refl; given = refl; done = λ f held e. refl }))
  call_leaves (MergeDone ours theirs) well = kept (MergeDone ours theirs) (λ number cookie apart same. apart (same ∙ well)) (merge_cases Same ours theirs m (record { same = refl; given = refl; merges = λ f v held held_too e k. refl }))
  call_leaves (GiveUp key) well = kept (GiveUp key) (λ number cookie apart. tt) refl
  call_leaves (Create name mirrors) well = kept (Create name mirrors) (λ number cookie apart. tt) (create_cases Same name mirrors m (record { same = refl; comes = λ absent room. refl }))
  call_leaves (Remove client name mirror to step) well = kept (Remove client name mirror to step) (λ number cookie apart. tt) (remove_cases Same client name mirror step m (record { same = refl; goes = λ f e kept. refl; splits = λ new f e kept fresh absent room. refl }) to)
  call_leaves (Set client name id change step) well = kept (Set client name id change step) (λ number cookie apart. tt) (set_cases Same client name id change step m (record { same = refl; marks = λ f e kept. refl }))
  call_leaves (Evict other step) well = subst (λ n. LeavesOthers asked c place m (with_eviction other n m)) (sym well.0) (evicts other well.1)

  -- two keys are given back
  pub both_up : (ours theirs : KeyView) → LeavesOthers asked c place m (both_given ours theirs m)
  both_up ours theirs = same_others (both_given ours theirs m) refl refl
