-- Each step leaves each eviction noted, or a later one.
use Rattle.std.proofs.Common.{◌≡◌, ℕ, ◌-◌, ◌<◌, ◌≤◌, Some, List, [], ◌∷◌, ◌++◌, length, set, ◌⊎◌, inl, inr, refl, sym, ap, subst, ◌∙◌, arith}
use Rattle.std.proofs.lemmas.Bool.{cases_eq, cases_lt}
use Rattle.std.proofs.lemmas.List.{length-append, take-append-le}
use Rattle.flr_base.specs.declared.reply.Reply.{Reply}
use Rattle.flr_base.specs.declared.reply.Reply.TheVariants as reply
use Rattle.flr_base.specs.declared.reply.Take.{Take}
use Rattle.layout_lease.specs.Clients.{IsClient}
use Rattle.script_values.specs.declared.command.Command.{Command}
use Rattle.script_values.specs.declared.command.Command.TheVariants as command
use Rattle.script_values.specs.Scripts.{command_after}
use Rattle.meta_server.specs.Closing.{last_eviction}
use Rattle.meta_server.specs.Files.{MetaView, with_eviction}
use Rattle.call_steps.specs.Servers.{Servers}
use Rattle.call_steps.specs.Steps.{Outcome, Going, Fixed, Ended, Answered, Blocked}
use Rattle.flr_steps.specs.declared.client.Client.{Client}
use Rattle.flr_steps.specs.declared.client.Note.{Note}
use Rattle.flr_steps.specs.declared.client.Note.TheVariants.{Nothing, Adds, Closes}
use Rattle.flr_steps.specs.declared.client.Running.{Running}
use Rattle.flr_steps.specs.declared.client.Running.TheVariants as running
use Rattle.flr_steps.specs.Clients.{call_now, entry, first_now, going, over}
use Rattle.flr_steps.specs.Commands.{step_of}
use Rattle.flr_steps.specs.States.{State, Stepped, after, client_at, next, place_in, start, state_at, stepped}
use Rattle.flr_steps.specs.Steps.{LeavesState, StepIs}
use Rattle.flr_steps.proofs.Inversion.{step_is}
use Rattle.flr_numbers.specs.Sentences.{HasRoom, Holds}
use Rattle.flr_places.proofs.Keeping.{new_other, new_same, some_same}
use Rattle.flr_evicted.specs.Sentences.{IsEvictedAt, IsNotedFrom}
use Rattle.flr_evicted.proofs.Keeping.{Kept, last_state, others}
use Rattle.flr_evicted.proofs.Sparing.{evicted_here}

-- a client whose command is an eviction makes its only step with that; and each eviction of a client is noted, or a later one
pub record Last (s : State) : Type 0 where
  pub idle : (n : ℕ) (client : Client) (k : ℕ) → client_at s.clients n ≡ Some client → command_after s.script n client.done ≡ Some (command.Evict k) → client.call ≡ running.Idle
  pub noted : (n later : ℕ) → IsClient n → IsEvictedAt s n later → IsNotedFrom s.shared.meta n later

same_command : (a b : Command) → Some a ≡ Some b → a ≡ b
same_command a b e = cc

same_state : (a b : State) → Some a ≡ Some b → a ≡ b
same_state a b e = cc

-- ---- the step of an eviction

module _ (c place : ℕ) (s : Servers) (call : Running) (asked : Command) (k : ℕ) (idle : call ≡ running.Idle) (is : asked ≡ command.Evict k) where
  -- what it comes to
  comes_to : step_of (call_now c call asked) c asked place s ≡ Answered (reply.EvictedClient k) [] (record s { meta = with_eviction k place s.meta })
  comes_to = λ j. step_of (call_now c (idle j) (is j)) c (is j) place s

  never_goes : (next : Running) (new : Servers) → step_of (call_now c call asked) c asked place s ≡ Going next new → ⊥
  never_goes next new e = let both : Answered (reply.EvictedClient k) [] (record s { meta = with_eviction k place s.meta }) ≡ Going next new = sym comes_to ∙ e in absurd (cc)

  never_fixes : (next : Running) (answer : Reply) (takes : List Take) (new : Servers) → step_of (call_now c call asked) c asked place s ≡ Fixed next answer takes new → ⊥
  never_fixes next answer takes new e = let both : Answered (reply.EvictedClient k) [] (record s { meta = with_eviction k place s.meta }) ≡ Fixed next answer takes new = sym comes_to ∙ e in absurd (cc)

-- a step from one state to the next that evicts a client
record Evicting (old new : State) (n : ℕ) : Type 0 where
  pub by : ℕ
  pub step : StepIs old by new
  pub evicts : step.asked ≡ command.Evict n

-- it notes the eviction here
notes_here : (s t : State) (n : ℕ) → Last s → length s.shared.meta.evicted ≡ 17 → IsClient n → Evicting s t n → last_eviction n t.shared.meta ≡ Some (place_in s)
notes_here s t n last long known e =
    let step : StepIs s e.by t = e.step in
    let idle : step.client.call ≡ running.Idle = last.idle e.by step.client n step.here (step.commanded ∙ ap (λ (asked : Command). Some asked) e.evicts) in
    let m : MetaView = s.shared.meta in
    let came : step.came ≡ Answered (reply.EvictedClient n) [] (record s.shared { meta = with_eviction n (place_in s) m }) = sym step.made ∙ comes_to e.by (place_in s) s.shared step.client.call step.asked n idle e.evicts in
    let left = subst (λ (o : Outcome Running). LeavesState s e.by step.client (first_now step.client.call (place_in s) step.client.first) o t) came step.left in
    let few = known.1 in
    ap (λ (x : State). last_eviction n x.shared.meta) left ∙ evicted_here step.asked e.by (place_in s) (omega arith) m long n (omega (arith, few, long))

-- ---- each step

module _ (s t : State) (c : ℕ) (h : Holds s) (room : HasRoom s.shared) (k : Kept s) (now : Kept t) (last : Last s) (made : next s c ≡ Stepped t) where
  abbrev step : StepIs s c t
  step = step_is s t c made

  abbrev client : Client
  client = step.client

  module _ (new : Client) (shared : Servers) (note : Note) (is : t ≡ stepped s c new shared note) (quiet : (e : ℕ) → command_after s.script c new.done ≡ Some (command.Evict e) → new.call ≡ running.Idle) where
    script : t.script ≡ s.script
    script = ap (λ (x : State). x.script) is

    schedule : t.schedule ≡ s.schedule ++ c ∷ []
    schedule = ap (λ (x : State). x.schedule) is

    long : length t.schedule ≡ place_in s
    long = ap (λ (cs : List ℕ). length cs) schedule ∙ length-append s.schedule (c ∷ [])

    idle : (n : ℕ) (other : Client) (e : ℕ) → client_at t.clients n ≡ Some other → command_after t.script n other.done ≡ Some (command.Evict e) → other.call ≡ running.Idle
    idle n other e there asked = by (cases_eq n c)
      where
        found : client_at (set s.clients (c - 1) new) n ≡ Some other
        found = ap (λ (x : State). client_at x.clients n) (sym is) ∙ there

        commanded : command_after s.script n other.done ≡ Some (command.Evict e)
        commanded = ap (λ x. command_after x n other.done) (sym script) ∙ asked

        by : (n ≡ c) ⊎ (n ≡ c → ⊥) → other.call ≡ running.Idle
        by (inl same) =
            let one : client_at (set s.clients (c - 1) new) n ≡ Some new = subst (λ i. client_at (set s.clients (c - 1) new) i ≡ Some new) (sym same) (new_same s.clients c client new step.here) in
            let it : other ≡ new = some_same other new (sym found ∙ one) in
            ap (λ (x : Client). x.call) it ∙ quiet e (ap (λ (x : Client). command_after s.script c x.done) (sym it) ∙ subst (λ i. command_after s.script i other.done ≡ Some (command.Evict e)) same commanded)
        by (inr apart) = last.idle n other e (sym (new_other s.clients c n client new step.here apart) ∙ found) commanded

    -- the state at a place that was there
    was : (place : ℕ) → place ≤ length s.schedule → state_at s.script s.schedule place ≡ state_at t.script t.schedule place
    was place within = ap (λ (cs : List ℕ). after (start s.script) cs) (sym (take-append-le place s.schedule (c ∷ []) within)) ∙ (λ j. state_at (sym script j) (sym schedule j) place)

    noted : (n later : ℕ) → IsClient n → IsEvictedAt t n later → IsNotedFrom t.shared.meta n later
    noted n later known e = by (cases_lt later (place_in s))
      where
        earlier : later < place_in s → IsEvictedAt s n later
        earlier less = record {
          some = e.some;
          within = omega (arith, less);
          old = e.old;
          old_is = was (later - 1) (omega (arith, less)) ∙ e.old_is;
          new = e.new;
          new_is = was later (omega (arith, less)) ∙ e.new_is;
          by = e.by;
          step = e.step;
          evicts = e.evicts;
        }

        -- what was noted of it, or the one that is noted here
        after_it : later < place_in s → IsNotedFrom s.shared.meta n later → (last_eviction n t.shared.meta ≡ last_eviction n s.shared.meta) ⊎ ((last_eviction n t.shared.meta ≡ Some (place_in s)) × (step.asked ≡ command.Evict n)) → IsNotedFrom t.shared.meta n later
        after_it less it (inl same) = record { place = it.place; latest = same ∙ it.latest; from = it.from }
        after_it less it (inr here) = record { place = place_in s; latest = here.0; from = omega (arith, less) }

        here : later ≡ place_in s → IsNotedFrom t.shared.meta n later
        here same =
            let low : later - 1 ≡ length s.schedule = omega (arith, same) in
            let old : e.old ≡ s = same_state e.old s (sym e.old_is ∙ ap (λ (i : ℕ). state_at t.script t.schedule i) low ∙ sym (was (length s.schedule) (omega arith)) ∙ last_state s k.run) in
            let new : e.new ≡ t = same_state e.new t (sym e.new_is ∙ ap (λ (i : ℕ). state_at t.script t.schedule i) (same ∙ sym long) ∙ last_state t now.run) in
            let one : Evicting e.old e.new n = record { by = e.by; step = e.step; evicts = e.evicts } in
            let it : Evicting s t n = subst (λ (x : State). Evicting s x n) new (subst (λ (x : State). Evicting x e.new n) old one) in
            record { place = place_in s; latest = notes_here s t n last h.servers.sound.evicted known it; from = omega (arith, same) }

        by : (later < place_in s) ⊎ (place_in s ≤ later) → IsNotedFrom t.shared.meta n later
        by (inl less) = after_it less (last.noted n later known (earlier less)) ((others s t c h room k made).noted n)
        by (inr past) = let within = e.within in here (omega (arith, past, within, long))

    now_last : Last t
    now_last = record { idle = idle; noted = noted }

  abbrev first : ℕ
  first = first_now client.call (place_in s) client.first

  -- a call that goes on is no eviction
  evicting : (e : ℕ) → command_after s.script c client.done ≡ Some (command.Evict e) → (client.call ≡ running.Idle) × (step.asked ≡ command.Evict e)
  evicting e asked = (last.idle c client e step.here asked, same_command step.asked (command.Evict e) (sym step.commanded ∙ asked))

  left_last : (came : Outcome Running) → step_of (call_now c client.call step.asked) c step.asked (place_in s) s.shared ≡ came → LeavesState s c client first came t → Last t
  left_last (Going next new) is left = now_last (going client first next) new Nothing left (λ e asked. (let it = evicting e asked in absurd (never_goes c (place_in s) s.shared client.call step.asked e it.0 it.1 next new is)))
  left_last (Fixed next answer takes new) is left =
      now_last (going client first next) new (Adds (entry c client first (place_in s) 0 answer takes)) left (λ e asked. (let it = evicting e asked in absurd (never_fixes c (place_in s) s.shared client.call step.asked e it.0 it.1 next answer takes new is)))
  left_last (Ended new) is left = now_last (over client first) new Closes left (λ e asked. refl)
  left_last (Answered answer takes new) is left = now_last (over client first) new (Adds (entry c client first (place_in s) (place_in s) answer takes)) left (λ e asked. refl)
  left_last (Blocked holder) is left = absurd left

  pub step_last : Last t
  step_last = left_last step.came step.made step.left
