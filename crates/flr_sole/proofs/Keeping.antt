-- Each step keeps who may still write, what was sent, and what copies know.
use Rattle.std.proofs.Common.{◌≡◌, ◌≢◌, ℕ, ◌≤◌, true, Option, Some, None, List, [], ◌∷◌, length, ◌⊎◌, inl, inr, refl, sym, ap, subst, ◌∙◌, arith, length-append}
use Rattle.std.specs.List.{AllByRecursion}
use Rattle.std.specs.Option.{IfSome, option_map_or}
use Rattle.std.proofs.lemmas.Bool.{cases_eq, false≢true}
use Rattle.extent_lock.specs.Extents.{locks_of, writer_but}
use Rattle.layout_lease.specs.Leases.{KeyView}
use Rattle.lfs_words.specs.declared.command.LfsCommand.{LfsCommand}
use Rattle.lfs_words.specs.declared.command.LfsCommand.TheVariants as lfs
use Rattle.script_values.specs.declared.command.Command.{Command}
use Rattle.script_values.specs.declared.command.Command.TheVariants as command
use Rattle.object_target.specs.TargetState.{TargetState}
use Rattle.meta_server.specs.Files.{MetaView}
use Rattle.meta_server.specs.Sound.{IsSound}
use Rattle.client_write.specs.declared.phase.CutAt.{CutAt}
use Rattle.client_write.specs.declared.phase.CutAt.TheVariants as cut
use Rattle.client_write.specs.declared.phase.WriteAt.{WriteAt}
use Rattle.client_write.specs.declared.phase.WriteAt.TheVariants as write
use Rattle.call_steps.specs.Servers.{Servers}
use Rattle.flr_behind.specs.Sentences.{IsPassed, IsWritten, Known, Knows}
use Rattle.flr_locks.specs.Phases.{AreLocksOf}
use Rattle.flr_locks.specs.Sentences.{Locked}
use Rattle.flr_numbers.specs.Calls.{cut_hand, write_hand}
use Rattle.flr_numbers.specs.Copies.{copy_hand}
use Rattle.flr_numbers.specs.Frames.{Leaves}
use Rattle.flr_numbers.specs.Sentences.{Holds, hand_of}
use Rattle.flr_places.proofs.Keeping.{new_other, new_same, some_same}
use Rattle.flr_steps.specs.declared.client.Client.{Client}
use Rattle.flr_steps.specs.declared.client.Note.{Note}
use Rattle.flr_steps.specs.declared.client.Running.{Running}
use Rattle.flr_steps.specs.declared.client.Running.TheVariants as running
use Rattle.flr_steps.specs.Clients.{call_now}
use Rattle.flr_steps.specs.Commands.{begun, begun_lfs}
use Rattle.flr_steps.specs.States.{State, client_at, place_in, stepped}
use Rattle.flr_steps.specs.Traces.{Doing, Trace, doing_of, is_idle, is_opening, sent_calls}
use Rattle.flr_claims.specs.Honesty.{IsAttempting}
use Rattle.flr_claims.specs.Sending.{Attempt, HasLanded, IsAdmitted, Part, attempt_of, cut_attempt, part_object, write_attempt}
use Rattle.flr_sole.specs.Copies.{HasLandedOn, Says}
use Rattle.flr_sole.specs.Runs.{Sole}
use Rattle.flr_sole.specs.Sentences.{Counts, HasSent, IsPast, StandsAlone}
use Rattle.flr_sole.proofs.Calm.{IsSparing}
use Rattle.flr_sole.proofs.Ending.{counting}
use Rattle.flr_sole.proofs.Excluding.{MayLand}
use Rattle.flr_sole.proofs.Holding.{IsUnderLock, call_holds, is_written, nothing_sent}
use Rattle.flr_sole.proofs.Making.{past_later}
use Rattle.flr_sole.proofs.Others.{held_before, says_fewer, says_still}
use Rattle.flr_sole.proofs.Sending.{Begins, GivesUp, GoesOn, Turns}

-- ---- a call that begins

lfs_opens : (c : ℕ) (of : LfsCommand) → is_opening (begun_lfs c of) ≡ true
lfs_opens c (lfs.Resync name only) = refl
lfs_opens c (lfs.Extend name spec) = refl
lfs_opens c (lfs.ExtendBy name victim) = refl
lfs_opens c (lfs.Verify name) = refl
lfs_opens c (lfs.SetStripe name spec) = refl
lfs_opens c (lfs.GetStripe name) = refl
lfs_opens c (lfs.CompSet name id change) = refl
lfs_opens c (lfs.Create name spec) = refl
lfs_opens c (lfs.Split name mirror to) = refl
lfs_opens c (lfs.Delete name mirror) = refl

begun_opens : (c : ℕ) (asked : Command) → is_opening (begun c asked) ≡ true
begun_opens c (command.Read name offset len) = refl
begun_opens c (command.Write name offset bytes) = refl
begun_opens c (command.Truncate name size) = refl
begun_opens c (command.Lfs of) = lfs_opens c of
begun_opens c (command.Evict other) = refl
begun_opens c (command.Rot object offset byte) = refl

pub now_opens : (c : ℕ) (asked : Command) (call : Running) → is_idle call ≡ true → is_opening (call_now c call asked) ≡ true
now_opens c asked running.Idle e = begun_opens c asked
now_opens c asked (running.Read call) e = absurd (false≢true e)
now_opens c asked (running.Write call) e = absurd (false≢true e)
now_opens c asked (running.Truncate call) e = absurd (false≢true e)
now_opens c asked (running.Copy call) e = absurd (false≢true e)
now_opens c asked (running.Verify call) e = absurd (false≢true e)

-- it has no attempt, has sent nothing and knows nothing
lfs_attempts : (c : ℕ) (of : LfsCommand) → attempt_of (begun_lfs c of) ≡ None
lfs_attempts c (lfs.Resync name only) = refl
lfs_attempts c (lfs.Extend name spec) = refl
lfs_attempts c (lfs.ExtendBy name victim) = refl
lfs_attempts c (lfs.Verify name) = refl
lfs_attempts c (lfs.SetStripe name spec) = refl
lfs_attempts c (lfs.GetStripe name) = refl
lfs_attempts c (lfs.CompSet name id change) = refl
lfs_attempts c (lfs.Create name spec) = refl
lfs_attempts c (lfs.Split name mirror to) = refl
lfs_attempts c (lfs.Delete name mirror) = refl

begun_attempts : (c : ℕ) (asked : Command) → attempt_of (begun c asked) ≡ None
begun_attempts c (command.Read name offset len) = refl
begun_attempts c (command.Write name offset bytes) = refl
begun_attempts c (command.Truncate name size) = refl
begun_attempts c (command.Lfs of) = lfs_attempts c of
begun_attempts c (command.Evict other) = refl
begun_attempts c (command.Rot object offset byte) = refl

pub now_attempts : (c : ℕ) (asked : Command) (call : Running) → attempt_of (call_now c call asked) ≡ attempt_of call
now_attempts c asked running.Idle = begun_attempts c asked
now_attempts c asked (running.Read call) = refl
now_attempts c asked (running.Write call) = refl
now_attempts c asked (running.Truncate call) = refl
now_attempts c asked (running.Copy call) = refl
now_attempts c asked (running.Verify call) = refl

lfs_sent : (c : ℕ) (of : LfsCommand) (d : Doing) → HasSent (begun_lfs c of) d
lfs_sent c (lfs.Resync name only) d = tt
lfs_sent c (lfs.Extend name spec) d = tt
lfs_sent c (lfs.ExtendBy name victim) d = tt
lfs_sent c (lfs.Verify name) d = tt
lfs_sent c (lfs.SetStripe name spec) d = tt
lfs_sent c (lfs.GetStripe name) d = tt
lfs_sent c (lfs.CompSet name id change) d = tt
lfs_sent c (lfs.Create name spec) d = tt
lfs_sent c (lfs.Split name mirror to) d = tt
lfs_sent c (lfs.Delete name mirror) d = tt

begun_sent : (c : ℕ) (asked : Command) (d : Doing) → HasSent (begun c asked) d
begun_sent c (command.Read name offset len) d = tt
begun_sent c (command.Write name offset bytes) d = tt
begun_sent c (command.Truncate name size) d = tt
begun_sent c (command.Lfs of) d = lfs_sent c of d
begun_sent c (command.Evict other) d = tt
begun_sent c (command.Rot object offset byte) d = tt

pub now_sent : (c : ℕ) (asked : Command) (call : Running) (d : Doing) → HasSent call d → HasSent (call_now c call asked) d
now_sent c asked running.Idle d sent = begun_sent c asked d
now_sent c asked (running.Read call) d sent = sent
now_sent c asked (running.Write call) d sent = sent
now_sent c asked (running.Truncate call) d sent = sent
now_sent c asked (running.Copy call) d sent = sent
now_sent c asked (running.Verify call) d sent = sent

module _ (m : MetaView) (targets : List TargetState) (lands : ℕ → Part → Type 0) where
  lfs_says : (c : ℕ) (of : LfsCommand) → Says m targets lands (begun_lfs c of)
  lfs_says c (lfs.Resync name only) = tt
  lfs_says c (lfs.Extend name spec) = tt
  lfs_says c (lfs.ExtendBy name victim) = tt
  lfs_says c (lfs.Verify name) = tt
  lfs_says c (lfs.SetStripe name spec) = tt
  lfs_says c (lfs.GetStripe name) = tt
  lfs_says c (lfs.CompSet name id change) = tt
  lfs_says c (lfs.Create name spec) = tt
  lfs_says c (lfs.Split name mirror to) = tt
  lfs_says c (lfs.Delete name mirror) = tt

  begun_says : (c : ℕ) (asked : Command) → Says m targets lands (begun c asked)
  begun_says c (command.Read name offset len) = tt
  begun_says c (command.Write name offset bytes) = tt
  begun_says c (command.Truncate name size) = tt
  begun_says c (command.Lfs of) = lfs_says c of
  begun_says c (command.Evict other) = tt
  begun_says c (command.Rot object offset byte) = tt

  pub now_says : (c : ℕ) (asked : Command) (call : Running) → Says m targets lands call → Says m targets lands (call_now c call asked)
  now_says c asked running.Idle says = begun_says c asked
  now_says c asked (running.Read call) says = tt
  now_says c asked (running.Write call) says = tt
  now_says c asked (running.Truncate call) says = tt
  now_says c asked (running.Copy call) says = says
  now_says c asked (running.Verify call) says = tt

-- ---- the generation that an attempt got

write_passed : (m : MetaView) (name : List ℕ) (at : WriteAt) (a : Attempt) → write_attempt at ≡ Some a → IfSome (write_hand at).opened (IsWritten m name) → IsPassed m a.opened
write_passed m name write.Open a e k = absurd (cc)
write_passed m name (write.Lock x next) a e k = let one : x.opened ≡ a.opened = cc in subst (IsPassed m) one k.1
write_passed m name (write.Send x next) a e k = let one : x.opened ≡ a.opened = cc in subst (IsPassed m) one k.1
write_passed m name (write.Commit x end came) a e k = let one : x.opened ≡ a.opened = cc in subst (IsPassed m) one k.1
write_passed m name write.UnlockAgain a e k = absurd (cc)
write_passed m name write.Unlock a e k = absurd (cc)

cut_passed : (m : MetaView) (name : List ℕ) (size : ℕ) (at : CutAt) (a : Attempt) → cut_attempt size at ≡ Some a → IfSome (cut_hand at).opened (IsWritten m name) → IsPassed m a.opened
cut_passed m name size cut.Open a e k = absurd (cc)
cut_passed m name size (cut.Lock x) a e k = let one : x.opened ≡ a.opened = cc in subst (IsPassed m) one k.1
cut_passed m name size (cut.Punch x next) a e k = let one : x.opened ≡ a.opened = cc in subst (IsPassed m) one k.1
cut_passed m name size (cut.Commit x came) a e k = let one : x.opened ≡ a.opened = cc in subst (IsPassed m) one k.1
cut_passed m name size cut.UnlockAgain a e k = absurd (cc)
cut_passed m name size cut.Unlock a e k = absurd (cc)

passed : (m : MetaView) (call : Running) (a : Attempt) → attempt_of call ≡ Some a → Knows m call → IsPassed m a.opened
passed m running.Idle a e k = absurd (cc)
passed m (running.Read call) a e k = absurd (cc)
passed m (running.Write call) a e k = write_passed m call.name call.at a e k
passed m (running.Truncate call) a e k = cut_passed m call.name call.size call.at a e k
passed m (running.Copy call) a e k = absurd (cc)
passed m (running.Verify call) a e k = absurd (cc)

-- ---- a step

none_some : {X : Type 0} (o : Option X) (x : X) → o ≡ None → o ≡ Some x → ⊥
none_some o x none some = let both : None ≡ Some x = sym none ∙ some in cc

module _ (s : State) (c : ℕ) (tr : Trace) (h : Holds s) (known : Known s) (locked : Locked s) (sole : Sole s tr) where
  abbrev pub lands : ℕ → Part → Type 0
  lands n p = HasLandedOn s tr n p

  abbrev counts : ℕ → Part → Type 0
  counts = counting s.shared.meta s.shared.targets lands

  pub may_land : (k : ℕ) (a : Attempt) (i : ℕ) (p : Part) → IsAttempting s k a → IsAdmitted s.shared a (doing_of tr k) i p → MayLand s.shared.meta s.shared.targets a.opened.file p
  may_land k a i p is admitted = record {
    generation = a.opened.layout.generation;
    current = admitted.current;
    passed = λ f key there own held. passed s.shared.meta is.client.call a is.attempt (known.calls k is.client is.here) f key there own held;
  }

  counted : (k : ℕ) (a : Attempt) (i : ℕ) (p : Part) → IsAttempting s k a → Counts s tr k a i p → counts a.opened.file p
  counted k a i p is (inl admitted) = inr (may_land k a i p is admitted)
  counted k a i p is (inr landed) = inl (record { client = k; attempt = a; attempting = is; same = refl; place = i; landed = landed })

  pub alone : (n : ℕ) (p : Part) → lands n p → StandsAlone s.shared.meta.files n p
  alone n p l = subst (λ k. StandsAlone s.shared.meta.files k p) l.same (sole.parts l.client l.attempt l.place p l.attempting (inr l.landed))

  -- what has landed for another client is under its PW
  pub written : (client : Client) → client_at s.clients c ≡ Some client → attempt_of client.call ≡ None → (n : ℕ) (p : Part) → lands n p → writer_but s.shared.locks c (part_object p) ≡ None → ⊥
  written client here none n p l free = is_written s.shared.locks l.client c p apart under free
    where
      apart : l.client ≡ c → ⊥
      apart same =
          let one : l.attempting.client ≡ client = some_same l.attempting.client client (sym l.attempting.here ∙ ap (client_at s.clients) same ∙ here) in
          none_some (attempt_of client.call) l.attempt none (ap (λ (x : Client). attempt_of x.call) (sym one) ∙ l.attempting.attempt)

      own : AreLocksOf l.attempting.client.call (locks_of l.client s.shared.locks)
      own = subst (λ (o : Option Client). AreLocksOf (option_map_or (λ (x : Client). x.call) o running.Idle) (locks_of l.client s.shared.locks)) l.attempting.here (locked.own l.client)

      under : IsUnderLock l.client (locks_of l.client s.shared.locks) p
      under = call_holds s.script.fails l.client (locks_of l.client s.shared.locks) (doing_of tr l.client) l.attempt l.place p l.landed l.attempting.client.call (h.clients l.client l.attempting.client l.attempting.here).call own l.attempting.attempt (sole.sent l.client l.attempting.client l.attempting.here)

  -- ---- what the step leaves

  module _ (client : Client) (here : client_at s.clients c ≡ Some client) (new : Client) (after : Servers) (note : Note) (trace : Trace) (d : Doing) (turn : Turns s.script.fails s.shared (attempt_of client.call) (doing_of tr c) (attempt_of new.call) after d) (sent : HasSent new.call d)
      (says : Says after.meta after.targets lands new.call) (spares : IsSparing counts s.shared after) (leaves : Leaves c s.shared.meta after.meta) (past : IsPast (place_in s) d) (sound : IsSound after.meta) (mine : doing_of trace c ≡ d)
      (theirs : (k : ℕ) (other : Client) → client_at s.clients k ≡ Some other → k ≢ c → doing_of trace k ≡ doing_of tr k) where
    abbrev u : State
    u = stepped s c new after note

    -- who is there then
    was : (k : ℕ) (other : Client) → client_at u.clients k ≡ Some other → ((k ≡ c) × (other ≡ new)) ⊎ ((k ≢ c) × (client_at s.clients k ≡ Some other))
    was k other e = by (cases_eq k c)
      where
        by : (k ≡ c) ⊎ (k ≡ c → ⊥) → ((k ≡ c) × (other ≡ new)) ⊎ ((k ≢ c) × (client_at s.clients k ≡ Some other))
        by (inl same) = inl (same, some_same other new (sym e ∙ ap (client_at u.clients) same ∙ new_same s.clients c client new here))
        by (inr apart) = inr (apart, sym (new_other s.clients c k client new here apart) ∙ e)

    -- what has landed then had landed, or could land
    back : (k : ℕ) (a : Attempt) (i : ℕ) (p : Part) → IsAttempting u k a → HasLanded s.script.fails a (doing_of trace k) i p → lands a.opened.file p ⊎ (MayLand s.shared.meta s.shared.targets a.opened.file p × StandsAlone s.shared.meta.files a.opened.file p)
    back k a i p is l = by (was k is.client is.here)
      where
        own : k ≡ c → attempt_of new.call ≡ Some a → HasLanded s.script.fails a d i p → Turns s.script.fails s.shared (attempt_of client.call) (doing_of tr c) (attempt_of new.call) after d → lands a.opened.file p ⊎ (MayLand s.shared.meta s.shared.targets a.opened.file p × StandsAlone s.shared.meta.files a.opened.file p)
        own same some landed (GivesUp none) = absurd (none_some (attempt_of new.call) a none some)
        own same some landed (Begins stands none) = absurd (nothing_sent (sent_calls d) i landed.made none landed.sent)
        own same some landed (GoesOn still goes) = at (goes.lands a i p (sym still ∙ some) landed)
          where
            before : IsAttempting s c a
            before = record { client = client; here = here; attempt = sym still ∙ some }

            at : HasLanded s.script.fails a (doing_of tr c) i p ⊎ IsAdmitted s.shared a (doing_of tr c) i p → lands a.opened.file p ⊎ (MayLand s.shared.meta s.shared.targets a.opened.file p × StandsAlone s.shared.meta.files a.opened.file p)
            at (inl had) = inl (record { client = c; attempt = a; attempting = before; same = refl; place = i; landed = had })
            at (inr could) = inr (may_land c a i p before could, sole.parts c a i p before (inl could))

        by : ((k ≡ c) × (is.client ≡ new)) ⊎ ((k ≢ c) × (client_at s.clients k ≡ Some is.client)) → lands a.opened.file p ⊎ (MayLand s.shared.meta s.shared.targets a.opened.file p × StandsAlone s.shared.meta.files a.opened.file p)
        by (inl same) = own same.0 (ap (λ (x : Client). attempt_of x.call) (sym same.1) ∙ is.attempt) (subst (λ (x : Doing). HasLanded s.script.fails a x i p) (ap (doing_of trace) same.0 ∙ mine) l) turn
        by (inr other) = inl (record { client = k; attempt = a; attempting = record { client = is.client; here = other.1; attempt = is.attempt }; same = refl; place = i; landed = subst (λ (x : Doing). HasLanded s.script.fails a x i p) (theirs k is.client other.1 other.0) l })

    -- each part that counts then lies in the only fresh components
    parts : (k : ℕ) (a : Attempt) (i : ℕ) (p : Part) → IsAttempting u k a → Counts u trace k a i p → StandsAlone after.meta.files a.opened.file p
    parts k a i p is count = by (was k is.client is.here)
      where
        still_counts : (k : ℕ) → IsAttempting s k a → Counts s tr k a i p → StandsAlone after.meta.files a.opened.file p
        still_counts k before counts_then = spares.0 a.opened.file p (counted k a i p before counts_then) (sole.parts k a i p before counts_then)

        own : attempt_of new.call ≡ Some a → IsAdmitted after a d i p ⊎ HasLanded s.script.fails a d i p → Turns s.script.fails s.shared (attempt_of client.call) (doing_of tr c) (attempt_of new.call) after d → StandsAlone after.meta.files a.opened.file p
        own some counted_now (GivesUp none) = absurd (none_some (attempt_of new.call) a none some)
        own some (inl admitted) (Begins stands none) = stands a i p some admitted.there
        own some (inr landed) (Begins stands none) = stands a i p some landed.there
        own some (inl admitted) (GoesOn still goes) =
            let more = goes.longer in
            let unsent = admitted.unsent in
            let current = admitted.current in
            let low = spares.1 (part_object p) in
            still_counts c (record { client = client; here = here; attempt = sym still ∙ some }) (inl (record { there = admitted.there; unsent = omega (arith, more, unsent); current = omega (arith, current, low) }))
        own some (inr landed) (GoesOn still goes) =
            let before : IsAttempting s c a = record { client = client; here = here; attempt = sym still ∙ some } in
            still_counts c before (at (goes.lands a i p (sym still ∙ some) landed))
          where
            at : HasLanded s.script.fails a (doing_of tr c) i p ⊎ IsAdmitted s.shared a (doing_of tr c) i p → Counts s tr c a i p
            at (inl had) = inr had
            at (inr could) = inl could

        other_counts : (other : Client) → client_at s.clients k ≡ Some other → k ≢ c → attempt_of other.call ≡ Some a → IsAdmitted after a (doing_of trace k) i p ⊎ HasLanded s.script.fails a (doing_of trace k) i p → StandsAlone after.meta.files a.opened.file p
        other_counts other there apart some (inl admitted) =
            let e = theirs k other there apart in
            let low = spares.1 (part_object p) in
            let current = admitted.current in
            still_counts k (record { client = other; here = there; attempt = some }) (inl (record { there = admitted.there; unsent = subst (λ (x : Doing). length (sent_calls x) ≤ i) e admitted.unsent; current = omega (arith, current, low) }))
        other_counts other there apart some (inr landed) =
            still_counts k (record { client = other; here = there; attempt = some }) (inr (subst (λ (x : Doing). HasLanded s.script.fails a x i p) (theirs k other there apart) landed))

        by : ((k ≡ c) × (is.client ≡ new)) ⊎ ((k ≢ c) × (client_at s.clients k ≡ Some is.client)) → StandsAlone after.meta.files a.opened.file p
        by (inl same) = own (ap (λ (x : Client). attempt_of x.call) (sym same.1) ∙ is.attempt) (subst (λ (x : Doing). IsAdmitted after a x i p ⊎ HasLanded s.script.fails a x i p) (ap (doing_of trace) same.0 ∙ mine) count) turn
        by (inr other) = other_counts is.client other.1 other.0 is.attempt count

    long : length u.schedule ≡ place_in s
    long = length-append s.schedule (c ∷ [])

    landed_before : (n : ℕ) (p : Part) → HasLandedOn u trace n p → lands n p ⊎ (MayLand s.shared.meta s.shared.targets n p × StandsAlone s.shared.meta.files n p)
    landed_before n p l = subst (λ k. lands k p ⊎ (MayLand s.shared.meta s.shared.targets k p × StandsAlone s.shared.meta.files k p)) l.same (back l.client l.attempt l.place p l.attempting l.landed)

    other_says : (k : ℕ) (call : Running) → k ≢ c → AllByRecursion (λ (key : KeyView). key.client ≡ k) (hand_of call).keys → Says s.shared.meta s.shared.targets lands call → Says after.meta after.targets (λ n p. HasLandedOn u trace n p) call
    other_says k running.Idle apart own says_then = tt
    other_says k (running.Read call) apart own says_then = tt
    other_says k (running.Write call) apart own says_then = tt
    other_says k (running.Truncate call) apart own says_then = tt
    other_says k (running.Copy call) apart own says_then =
        says_still s.shared.meta after.meta s.shared.targets after.targets lands (λ n p. HasLandedOn u trace n p) (λ (key : KeyView). key.client ≢ c) spares.1 (λ key l apart_too stood. leaves.leases key l apart_too stood)
        (λ key apart_too held. held_before s.shared.meta after.meta key sound (λ l stood. leaves.leases key l apart_too stood) held) landed_before call.at (others (copy_hand call.at).keys own) says_then
      where
        others : (keys : List KeyView) → AllByRecursion (λ (key : KeyView). key.client ≡ k) keys → AllByRecursion (λ (key : KeyView). key.client ≢ c) keys
        others [] all = tt
        others (key ∷ keys) all = ((λ same. apart (sym all.0 ∙ same)), others keys all.1)
    other_says k (running.Verify call) apart own says_then = tt

    -- who copies has no attempt, so that nothing lands by its step
    own_says : (call : Running) → attempt_of call ≡ attempt_of new.call → call ≡ new.call → Says after.meta after.targets lands call → Says after.meta after.targets (λ n p. HasLandedOn u trace n p) call
    own_says running.Idle e is says_now = tt
    own_says (running.Read call) e is says_now = tt
    own_says (running.Write call) e is says_now = tt
    own_says (running.Truncate call) e is says_now = tt
    own_says (running.Copy call) e is says_now = says_fewer after.meta after.targets lands (λ n p. HasLandedOn u trace n p) fewer call.at says_now
      where
        fewer : (n : ℕ) (p : Part) → HasLandedOn u trace n p → lands n p
        fewer n p l = by (was l.client l.attempting.client l.attempting.here)
          where
            by : ((l.client ≡ c) × (l.attempting.client ≡ new)) ⊎ ((l.client ≢ c) × (client_at s.clients l.client ≡ Some l.attempting.client)) → lands n p
            by (inl same) = absurd (none_some (attempt_of new.call) l.attempt (sym e) (ap (λ (x : Client). attempt_of x.call) (sym same.1) ∙ l.attempting.attempt))
            by (inr other) = record {
              client = l.client;
              attempt = l.attempt;
              attempting = record { client = l.attempting.client; here = other.1; attempt = l.attempting.attempt };
              same = l.same;
              place = l.place;
              landed = subst (λ (x : Doing). HasLanded s.script.fails l.attempt x l.place p) (theirs l.client l.attempting.client other.1 other.0) l.landed;
            }
    own_says (running.Verify call) e is says_now = tt

    pub stepped_sole : Sole u trace
    stepped_sole = record {
      parts = parts;
      sent = λ k other e. sent_by k other (was k other e);
      past = λ k other e. past_by k other (was k other e);
      copies = λ k other e. copies_by k other (was k other e);
    }
      where
        sent_by : (k : ℕ) (other : Client) → ((k ≡ c) × (other ≡ new)) ⊎ ((k ≢ c) × (client_at s.clients k ≡ Some other)) → HasSent other.call (doing_of trace k)
        sent_by k other (inl same) = subst (λ (x : Client). HasSent x.call (doing_of trace k)) (sym same.1) (subst (HasSent new.call) (sym (ap (doing_of trace) same.0 ∙ mine)) sent)
        sent_by k other (inr apart) = subst (HasSent other.call) (sym (theirs k other apart.1 apart.0)) (sole.sent k other apart.1)

        past_by : (k : ℕ) (other : Client) → ((k ≡ c) × (other ≡ new)) ⊎ ((k ≢ c) × (client_at s.clients k ≡ Some other)) → IsPast (length u.schedule) (doing_of trace k)
        past_by k other (inl same) = subst (IsPast (length u.schedule)) (sym (ap (doing_of trace) same.0 ∙ mine)) (subst (λ n. IsPast n d) (sym long) past)
        past_by k other (inr apart) = subst (IsPast (length u.schedule)) (sym (theirs k other apart.1 apart.0)) (past_later (length s.schedule) (length u.schedule) (doing_of tr k) (omega (arith, long)) (sole.past k other apart.1))

        copies_by : (k : ℕ) (other : Client) → ((k ≡ c) × (other ≡ new)) ⊎ ((k ≢ c) × (client_at s.clients k ≡ Some other)) → Says after.meta after.targets (λ n p. HasLandedOn u trace n p) other.call
        copies_by k other (inl same) = subst (λ (x : Client). Says after.meta after.targets (λ n p. HasLandedOn u trace n p) x.call) (sym same.1) (own_says new.call refl refl says)
        copies_by k other (inr apart) = other_says k other.call apart.0 (h.clients k other apart.1).has.own (sole.copies k other apart.1)
