-- Each step leaves lost cookies explained.
use Rattle.std.proofs.Common.{◌≡◌, ◌≢◌, ℕ, ◌-◌, ◌<◌, ◌≤◌, Bool, true, false, true≢false, Option, Some, None, IfSome, List, [], ◌∷◌, ◌++◌, length, set, ◌⊎◌, inl, inr, refl, sym, ap, subst, ◌∙◌, arith, take_all}
use Rattle.std.proofs.lemmas.Bool.{cases_eq}
use Rattle.std.proofs.lemmas.List.{length-append}
use Rattle.layout_lease.specs.Clients.{IsClient}
use Rattle.script_values.specs.declared.command.Command.TheVariants as command
use Rattle.script_values.specs.Commands.{IsCommand}
use Rattle.meta_server.specs.declared.answers.Opened.{Opened}
use Rattle.meta_server.specs.Closing.{holds, last_eviction}
use Rattle.meta_server.specs.Files.{MetaView}
use Rattle.call_steps.specs.Servers.{Servers}
use Rattle.call_steps.specs.Steps.{Outcome, Going, Fixed, Ended, Answered, Blocked}
use Rattle.flr_steps.specs.declared.client.Client.{Client}
use Rattle.flr_steps.specs.declared.client.Note.{Note}
use Rattle.flr_steps.specs.declared.client.Note.TheVariants.{Nothing, Adds, Closes}
use Rattle.flr_steps.specs.declared.client.Running.{Running}
use Rattle.flr_steps.specs.Clients.{call_now, entry, first_now, going, over}
use Rattle.flr_steps.specs.Owners.{AreOwn}
use Rattle.flr_steps.specs.Runs.{doing_after}
use Rattle.flr_steps.specs.States.{State, Stepped, after, client_at, next, place_in, start, state_at, stepped}
use Rattle.flr_steps.specs.Steps.{LeavesState, StepIs}
use Rattle.flr_steps.specs.Traces.{doing_of, made_by, trace_after}
use Rattle.flr_steps.proofs.Inversion.{step_is}
use Rattle.flr_steps.proofs.Runs.{after_more, state_stays}
use Rattle.flr_numbers.specs.Sentences.{HasRoom, Holds, IsCallOf, hand_of}
use Rattle.flr_numbers.proofs.Clients.{has_now, is_now}
use Rattle.flr_numbers.proofs.Commands.{is_command}
use Rattle.flr_numbers.proofs.Keeping.{is_client}
use Rattle.flr_work.proofs.Held.{given_held_now}
use Rattle.flr_places.specs.Sentences.{IsCookieOf, Placed}
use Rattle.flr_places.proofs.Commands.{step_leaves}
use Rattle.flr_places.proofs.Keeping.{new_other, new_same, some_same, step_places}
use Rattle.flr_places.proofs.Opened.{OfOpen, OnOpen, now_open, step_on}
use Rattle.flr_places.proofs.Steps.{OnMeta}
use Rattle.flr_evicted.specs.Sentences.{IsEvictedAt, opened_at}
use Rattle.flr_evicted.proofs.Sparing.{LeavesOthers, both_up, call_leaves, same_others}
use Rattle.flr_evicted.proofs.Tracing.{opened_between, opened_elsewhere, opened_here, still_opened}

-- the client's latest eviction is behind this place
abbrev pub WasEvicted : MetaView → ℕ → ℕ → Type 0
WasEvicted m c since = (place : ℕ) × (last_eviction c m ≡ Some place) × (since < place)

-- the cookie is held, or it was taken since
abbrev pub IsKept : MetaView → ℕ → ℕ → Opened → Type 0
IsKept m c since o = holds o.file o.cookie m ≡ false → WasEvicted m c since

-- what is known of each state: it is that of its schedule, its keys and cookies are those of their clients, each eviction is where it is noted, each call opened its file last between its first step and now, and since then its cookie is held or was taken
pub record Kept (s : State) : Type 0 where
  pub run : after (start s.script) s.schedule ≡ Some s
  pub placed : Placed s
  pub noted : (c place : ℕ) → last_eviction c s.shared.meta ≡ Some place → IsEvictedAt s c place
  pub opened : (c : ℕ) (client : Client) → client_at s.clients c ≡ Some client → (client.first ≤ opened_at s c) × (opened_at s c ≤ length s.schedule)
  pub lost : (c : ℕ) (client : Client) → client_at s.clients c ≡ Some client → OfOpen (IsKept s.shared.meta c (opened_at s c)) client.call

-- ---- places of a schedule

-- the state after all places
pub last_state : (s : State) → after (start s.script) s.schedule ≡ Some s → state_at s.script s.schedule (length s.schedule) ≡ Some s
last_state s run = ap (λ (cs : List ℕ). after (start s.script) cs) (take_all (length s.schedule) s.schedule (omega arith)) ∙ run

-- what holds of a value holds with what is known of it
with_equation : {X : Type 0} (o : Option X) (P Q : X → Type 0) → ((x : X) → o ≡ Some x → P x → Q x) → IfSome o P → IfSome o Q
with_equation None P Q to h = tt
with_equation (Some x) P Q to h = to x refl h

-- a step, by what the metadata server is after it
after_meta : (P : MetaView → Type 0) (s t : State) (c : ℕ) (client : Client) (first : ℕ) (came : Outcome Running) → OnMeta P came → LeavesState s c client first came t → P t.shared.meta
after_meta P s t c client first (Going next after) h left = subst (λ (x : State). P x.shared.meta) (sym left) h
after_meta P s t c client first (Fixed next reply takes after) h left = subst (λ (x : State). P x.shared.meta) (sym left) h
after_meta P s t c client first (Ended after) h left = subst (λ (x : State). P x.shared.meta) (sym left) h
after_meta P s t c client first (Answered reply takes after) h left = subst (λ (x : State). P x.shared.meta) (sym left) h
after_meta P s t c client first (Blocked holder) h left = absurd left

-- ---- a step

module _ (s t : State) (c : ℕ) (h : Holds s) (room : HasRoom s.shared) (k : Kept s) (made : next s c ≡ Stepped t) where
  abbrev step : StepIs s c t
  step = step_is s t c made

  abbrev client : Client
  client = step.client

  abbrev call : Running
  call = call_now c client.call step.asked

  abbrev first : ℕ
  first = first_now client.call (place_in s) client.first

  -- the place at which the call last opened its file, once it made this step
  abbrev since : ℕ
  since = (doing_after s t (trace_after s.script s.schedule) c client step.asked).opened

  good : IsCommand s.script.most s.script.targets (length s.script.clients) step.asked
  good = is_command s.script c client.done step.asked h.script step.commanded

  of_call : IsCallOf c call
  of_call = is_now c s.shared step.asked s.script.most s.script.targets (length s.script.clients) h.script.form.few_mirrors h.script.form.few_clients good client.call (h.clients c client step.here).call

  own_keys : AreOwn c (hand_of call).keys
  own_keys = (has_now c s.shared step.asked s.script.most s.script.targets (length s.script.clients) h.script.form.few_mirrors h.script.form.few_clients good client.call (h.clients c client step.here).has).own

  -- all others keep their cookies, or are evicted
  pub others : LeavesOthers step.asked c (place_in s) s.shared.meta t.shared.meta
  others =
      let m : MetaView = s.shared.meta in
      let P : MetaView → Type 0 = LeavesOthers step.asked c (place_in s) m in
      let evicted : length m.evicted ≡ 17 = h.servers.sound.evicted in
      let left = step_leaves P step.asked c (place_in s) s.shared
      (record { same = same_others step.asked c (place_in s) (omega arith) m evicted m refl refl; calls = call_leaves step.asked c (place_in s) (omega arith) m evicted })
      (both_up step.asked c (place_in s) (omega arith) m evicted) call of_call (now_open (IsCookieOf c) c step.asked client.call (k.placed.cookies c client step.here)) own_keys in
      after_meta P s t c client first step.came (subst (λ (o : Outcome Running). OnMeta P o) step.made left) step.left

  -- the client's own cookie is held, or was taken since
  own : OnOpen (λ m. IsKept m c since) (λ (x : Running). x) step.came
  own =
      let K : MetaView → Opened → Type 0 = λ m. IsKept m c since in
      let still = with_equation (hand_of client.call).opened (IsKept s.shared.meta c (opened_at s c)) (K s.shared.meta)
      (λ o e kept. subst (λ i. IsKept s.shared.meta c i o) (sym (still_opened c step.asked (place_in s) (made_by (place_in s) s.shared.targets t.shared.targets) (doing_of (trace_after s.script s.schedule) c) client.call o e)) kept)
      (k.lost c client step.here) in
      subst (λ (o : Outcome Running). OnOpen K (λ (x : Running). x) o) step.made
      (step_on K c s.shared h.servers.sound (λ other m f same there lost. absurd (true≢false (sym (given_held_now other f m.files there) ∙ lost))) (place_in s) call step.asked of_call (now_open (K s.shared.meta) c step.asked client.call still))

  module _ (new : Client) (shared : Servers) (note : Note) (is : t ≡ stepped s c new shared note) where
    script : t.script ≡ s.script
    script = ap (λ (x : State). x.script) is

    schedule : t.schedule ≡ s.schedule ++ c ∷ []
    schedule = ap (λ (x : State). x.schedule) is

    long : length t.schedule ≡ place_in s
    long = ap (λ (cs : List ℕ). length cs) schedule ∙ length-append s.schedule (c ∷ [])

    run : after (start t.script) t.schedule ≡ Some t
    run = (λ j. after (start (script j)) (schedule j)) ∙ after_more (start s.script) s t s.schedule c k.run made

    -- the state at a place that was there
    stays : (place : ℕ) (old : State) → place ≤ length s.schedule → state_at s.script s.schedule place ≡ Some old → state_at t.script t.schedule place ≡ Some old
    stays place old within e = (λ j. state_at (script j) (schedule j) place) ∙ state_stays s.script s.schedule (c ∷ []) place old e within

    was_there : (n place : ℕ) → IsEvictedAt s n place → IsEvictedAt t n place
    was_there n place e = record {
      some = e.some;
      within = (let old = e.within in omega (arith, old, long));
      old = e.old;
      old_is = stays (place - 1) e.old (let old = e.within in omega (arith, old)) e.old_is;
      new = e.new;
      new_is = stays place e.new e.within e.new_is;
      by = e.by;
      step = e.step;
      evicts = e.evicts;
    }

    is_here : (n : ℕ) → step.asked ≡ command.Evict n → IsEvictedAt t n (place_in s)
    is_here n asked =
        let low : place_in s - 1 ≡ length s.schedule = omega arith in
        record {
          some = omega arith;
          within = omega (arith, long);
          old = s;
          old_is = ap (λ (i : ℕ). state_at t.script t.schedule i) low ∙ stays (length s.schedule) s (omega arith) (last_state s k.run);
          new = t;
          new_is = ap (λ (i : ℕ). state_at t.script t.schedule i) (sym long) ∙ last_state t run;
          by = c;
          step = step;
          evicts = asked;
        }

    noted : (n place : ℕ) → last_eviction n t.shared.meta ≡ Some place → IsEvictedAt t n place
    noted n place e = by (others.noted n)
      where
        by : (last_eviction n t.shared.meta ≡ last_eviction n s.shared.meta) ⊎ ((last_eviction n t.shared.meta ≡ Some (place_in s)) × (step.asked ≡ command.Evict n)) → IsEvictedAt t n place
        by (inl same) = was_there n place (k.noted n place (sym same ∙ e))
        by (inr here) = let one : place_in s ≡ place = (let two : Some (place_in s) ≡ Some place = sym here.0 ∙ e in cc) in subst (IsEvictedAt t n) one (is_here n here.1)

    -- ---- another client

    module _ (n : ℕ) (other : Client) (there : client_at s.clients n ≡ Some other) (apart : n ≢ c) where
      same_opened : opened_at t n ≡ opened_at s n
      same_opened = opened_elsewhere s t c k.run made script schedule step n other there apart

      low : opened_at s n ≤ length s.schedule
      low = (k.opened n other there).1

      other_kept : (o : Opened) → IsCookieOf n o → IsKept s.shared.meta n (opened_at s n) o → IsKept t.shared.meta n (opened_at t n) o
      other_kept o mine kept = subst (λ i. IsKept t.shared.meta n i o) (sym same_opened) (λ lost. by lost (holds o.file o.cookie s.shared.meta) refl)
        where
          now : last_eviction n t.shared.meta ≡ Some (place_in s) → WasEvicted t.shared.meta n (opened_at s n)
          now e = (place_in s, e, omega (arith, low))

          taken : holds o.file o.cookie t.shared.meta ≡ false → (holds o.file o.cookie t.shared.meta ≡ true) ⊎ (last_eviction o.cookie.client t.shared.meta ≡ Some (place_in s)) → WasEvicted t.shared.meta n (opened_at s n)
          taken lost (inl held) = absurd (true≢false (sym held ∙ lost))
          taken lost (inr here) = now (subst (λ i. last_eviction i t.shared.meta ≡ Some (place_in s)) mine here)

          before : WasEvicted s.shared.meta n (opened_at s n) → (last_eviction n t.shared.meta ≡ last_eviction n s.shared.meta) ⊎ ((last_eviction n t.shared.meta ≡ Some (place_in s)) × (step.asked ≡ command.Evict n)) → WasEvicted t.shared.meta n (opened_at s n)
          before was (inl same) = (was.0, same ∙ was.1, was.2)
          before was (inr here) = now here.0

          by : holds o.file o.cookie t.shared.meta ≡ false → (b : Bool) → holds o.file o.cookie s.shared.meta ≡ b → WasEvicted t.shared.meta n (opened_at s n)
          by lost true e = taken lost (others.held o.file o.cookie (subst IsClient (sym mine) (is_client s n other h there)) (λ same. apart (sym mine ∙ same)) e)
          by lost false e = before (kept e) (others.noted n)

      other_open : OfOpen (IsKept t.shared.meta n (opened_at t n)) other.call
      other_open = both (hand_of other.call).opened (k.placed.cookies n other there) (k.lost n other there)
        where
          both : (o : Option Opened) → IfSome o (IsCookieOf n) → IfSome o (IsKept s.shared.meta n (opened_at s n)) → IfSome o (IsKept t.shared.meta n (opened_at t n))
          both None mine kept = tt
          both (Some o) mine kept = other_kept o mine kept

      other_between : (other.first ≤ opened_at t n) × (opened_at t n ≤ length t.schedule)
      other_between = let old = k.opened n other there in let a = old.0 in (omega (arith, a, same_opened), omega (arith, low, same_opened, long))

    -- ---- the client that stepped

    module _ (begins : new.first ≡ first) (opens : OfOpen (IsKept shared.meta c since) new.call) where
      here_opened : opened_at t c ≡ since
      here_opened = opened_here s t c k.run made script schedule step

      mine_open : OfOpen (IsKept t.shared.meta c (opened_at t c)) new.call
      mine_open =
          let meta : t.shared.meta ≡ shared.meta = ap (λ (x : State). x.shared.meta) is in
          subst (λ i. OfOpen (IsKept t.shared.meta c i) new.call) (sym here_opened) (subst (λ m. OfOpen (IsKept m c since) new.call) (sym meta) opens)

      mine_between : (new.first ≤ opened_at t c) × (opened_at t c ≤ length t.schedule)
      mine_between =
          let old = k.opened c client step.here in
          let a = old.0 in
          let b = old.1 in
          let now = opened_between c step.asked (place_in s) (made_by (place_in s) s.shared.targets t.shared.targets) (doing_of (trace_after s.script s.schedule) c) client.first a (omega (arith, b)) client.call in
          let low = now.0 in
          let high = now.1 in
          (omega (arith, low, begins, here_opened), omega (arith, high, here_opened, long))

      -- who is there after the step
      was : (n : ℕ) (other : Client) → client_at t.clients n ≡ Some other → (n ≡ c) ⊎ (n ≡ c → ⊥) → ((n ≡ c) × (other ≡ new)) ⊎ ((n ≡ c → ⊥) × (client_at s.clients n ≡ Some other))
      was n other e (inl same) =
          let found : client_at (set s.clients (c - 1) new) n ≡ Some other = ap (λ (x : State). client_at x.clients n) (sym is) ∙ e in
          let one : client_at (set s.clients (c - 1) new) n ≡ Some new = subst (λ i. client_at (set s.clients (c - 1) new) i ≡ Some new) (sym same) (new_same s.clients c client new step.here) in
          inl (same, some_same other new (sym found ∙ one))
      was n other e (inr apart) =
          let found : client_at (set s.clients (c - 1) new) n ≡ Some other = ap (λ (x : State). client_at x.clients n) (sym is) ∙ e in
          inr (apart, sym (new_other s.clients c n client new step.here apart) ∙ found)

      by_client : (n : ℕ) (other : Client) → ((n ≡ c) × (other ≡ new)) ⊎ ((n ≡ c → ⊥) × (client_at s.clients n ≡ Some other))
          → ((other.first ≤ opened_at t n) × (opened_at t n ≤ length t.schedule)) × OfOpen (IsKept t.shared.meta n (opened_at t n)) other.call
      by_client n other (inl same) =
          let Q : ℕ → Client → Type 0 = λ i x. ((x.first ≤ opened_at t i) × (opened_at t i ≤ length t.schedule)) × OfOpen (IsKept t.shared.meta i (opened_at t i)) x.call in
          subst (λ i. Q i other) (sym same.0) (subst (Q c) (sym same.1) (mine_between, mine_open))
      by_client n other (inr apart) = (other_between n other apart.1 apart.0, other_open n other apart.1 apart.0)

      stepped_kept : Kept t
      stepped_kept = record {
        run = run;
        placed = step_places s t c h room k.placed step;
        noted = noted;
        opened = λ n other e. (by_client n other (was n other e (cases_eq n c))).0;
        lost = λ n other e. (by_client n other (was n other e (cases_eq n c))).1;
      }

  left_kept : (came : Outcome Running) → OnOpen (λ m. IsKept m c since) (λ (x : Running). x) came → LeavesState s c client first came t → Kept t
  left_kept (Going next after) opens left = stepped_kept (going client first next) after Nothing left refl opens
  left_kept (Fixed next reply takes after) opens left = stepped_kept (going client first next) after (Adds (entry c client first (place_in s) 0 reply takes)) left refl opens
  left_kept (Ended after) opens left = stepped_kept (over client first) after Closes left refl tt
  left_kept (Answered reply takes after) opens left = stepped_kept (over client first) after (Adds (entry c client first (place_in s) (place_in s) reply takes)) left refl tt
  left_kept (Blocked holder) opens left = absurd left

  pub step_kept : Kept t
  step_kept = left_kept step.came own step.left
