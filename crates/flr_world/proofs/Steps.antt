-- What a world is after a try to step, by what its parts were.
use Rattle.std.proofs.Common.{◌≡◌, ℕ, zero, suc, ◌+◌, ◌-◌, ◌<◌, ◌≤◌, List, [], ◌∷◌, ◌++◌, length, map, set, refl, sym, ap, subst, ◌∙◌, arith, inl, inr}
use Rattle.std.specs.Prelude.{Some, None, slice_get, ◌⊎◌}
use Rattle.std.proofs.lemmas.List.{length-map, length-replicate}
use Rattle.std.proofs.lemmas.Option.{slice_get_past}
use Rattle.flr_base.specs.declared.reply.Entry.{Entry}
use Rattle.extent_lock.specs.declared.lock.Lock.{Lock}
use Rattle.object_target.specs.TargetState.{TargetState}
use Rattle.meta_server.specs.Files.{MetaView}
use Rattle.call_steps.specs.Servers.{Servers, servers}
use Rattle.script_values.specs.declared.command.Command.{Command}
use Rattle.script_values.specs.Scripts.{IsScript, ScriptView, command_after}
use Rattle.flr_steps.specs.declared.client.Client.{Client}
use Rattle.flr_steps.specs.declared.client.Note.{Note}
use Rattle.flr_steps.specs.declared.client.Running.TheVariants as running
use Rattle.flr_steps.specs.Clients.{Ends, Moves, client_next}
use Rattle.flr_steps.specs.Clients as clients
use Rattle.flr_steps.specs.Conditions.{StepFits}
use Rattle.flr_steps.specs.Runs.{HasCommand}
use Rattle.flr_steps.specs.States.{Blocked, Finished, IsRun, State, Stepped, Unknown, after, client_at, next, noted, place_in, start, stepped}
use Rattle.flr_steps.proofs.Fronts.{each_run_keeps}
use Rattle.flr_steps.proofs.Runs.{after_more}
use Rattle.client_step.specs.Callers.{IsAside}
use Rattle.flr_world.specs.declared.member.Member.{Member}
use Rattle.flr_world.specs.Worlds.{AreKept, IsOnlyPending, IsWorld, client_of, pending_after, shown}
use Rattle.flr_world.proofs.Known.{one_pending, run_short, step_fits}
use Rattle.flr_world.proofs.Lists.{image_at, map_set}
use Rattle.flr_world.proofs.Nexts.{next_is, note_is, unknown_is}
use Rattle.flr_world.proofs.Noting.{IsOnePending}
use Rattle.flr_world.proofs.Worlds.{no_aside, stepped_kept, tried_kept}

-- ---- numbers and places

-- what is so of each number and the place one below it is so of this number, which isn't 0
pub placed : (P : ℕ → ℕ → Type 0) (n i : ℕ) → (n ≡ 0 → ⊥) → i ≡ n → ((k : ℕ) → P (suc k) k) → P n (i - 1)
placed P zero i some same h = absurd (some refl)
placed P (suc n) i some same h = let less : n ≡ i - 1 = omega (arith, same) in subst (P (suc n)) less (h n)

none_at : (xs : List Client) (n : ℕ) → length xs < n → client_at xs n ≡ None
none_at xs zero less = refl
none_at xs (suc n) less = slice_get_past xs n (omega (arith, less))

-- ---- runs go on

run_more : (s t : State) (c : ℕ) → IsRun s → next s c ≡ Stepped t → t.script ≡ s.script → t.schedule ≡ s.schedule ++ c ∷ [] → IsRun t
run_more s t c run is same more = record {
  limits = subst IsScript (sym same) run.limits;
  run = ap (λ (v : ScriptView). after (start v) t.schedule) same ∙ ap (λ (cs : List ℕ). after (start s.script) cs) more ∙ after_more (start s.script) s t s.schedule c run.run is;
}

module _ (script : ScriptView) (meta : MetaView) (targets : List TargetState) (locks : List Lock) (members : List Member) (entries : List Entry) (schedule : List ℕ) (w : IsWorld script meta targets locks members entries schedule) where
  abbrev s : State
  s = shown script meta targets locks members entries schedule

  -- there is a member for each client of the script
  pub counted : length members ≡ length script.clients
  counted = sym (length-map members client_of) ∙ (each_run_keeps (start script) s schedule w.run.run).clients ∙ length-replicate (length script.clients) _

  -- who isn't there is unknown
  pub unknown : (n : ℕ) → (n ≡ 0) ⊎ (length script.clients < n) → next s n ≡ Unknown
  unknown n (inl none) = unknown_is s n (subst (λ (k : ℕ). client_at s.clients k ≡ None) (sym none) refl)
  unknown n (inr far) = let many = length-map members client_of in unknown_is s n (none_at s.clients n (omega (arith, far, counted, many)))

  pub short : length schedule ≤ 8388608
  short = run_short s w.run

  module _ (k : ℕ) (m : Member) (at : slice_get members k ≡ Some m) where
    here : client_at s.clients (suc k) ≡ Some (client_of m)
    here = image_at client_of members k m at

    pub finished : command_after script (suc k) m.caller.client.done ≡ None → next s (suc k) ≡ Finished
    finished none = next_is s (suc k) (client_of m) None Ends here none refl

    module _ (asked : Command) (commanded : command_after script (suc k) m.caller.client.done ≡ Some asked) where
      pub has_command : HasCommand s (suc k)
      has_command = record { client = client_of m; here = here; asked = asked; left = commanded }

      pub fits : StepFits (suc k) (client_of m) asked (servers meta targets locks)
      fits = step_fits s (suc k) (client_of m) asked w.run here commanded

      pub aside : IsAside (suc k) asked m.caller.client m.caller.aside
      aside = (w.kept k m at).aside asked commanded

      pub blocked : (holder place : ℕ) → place ≡ length schedule + 1 → client_next (suc k) place (client_of m) (servers meta targets locks) (Some asked) ≡ clients.Waits holder → next s (suc k) ≡ Blocked holder
      blocked holder place counted is = next_is s (suc k) (client_of m) (Some asked) (clients.Waits holder) here commanded (ap (λ (p : ℕ). client_next (suc k) p (client_of m) (servers meta targets locks) (Some asked)) (sym counted) ∙ is)

  -- the state that is shown and what is kept, where a try changed nothing but what is aside
  pub stays : (k : ℕ) (m new : Member) (meta2 : MetaView) (targets2 : List TargetState) (locks2 : List Lock) (entries2 : List Entry) (schedule2 : List ℕ) → slice_get members k ≡ Some m → client_of new ≡ client_of m → servers meta2 targets2 locks2 ≡ servers meta targets locks → entries2 ≡ entries → schedule2 ≡ schedule
      → shown script meta2 targets2 locks2 (set members k new) entries2 schedule2 ≡ s
  stays k m new meta2 targets2 locks2 entries2 schedule2 at same servers_same entries_same schedule_same =
      ap (λ (v : Servers). record { script = script; shared = v; clients = map client_of (set members k new); entries = entries2; schedule = schedule2 }) servers_same
      ∙ ap (λ (cs : List Client). record { script = script; shared = servers meta targets locks; clients = cs; entries = entries2; schedule = schedule2 }) (map_set client_of members k new ∙ ap (set (map client_of members) k) same ∙ set_same (map client_of members) k (client_of m) (image_at client_of members k m at))
      ∙ ap (λ (es : List Entry). record { script = script; shared = servers meta targets locks; clients = map client_of members; entries = es; schedule = schedule2 }) entries_same
      ∙ ap (λ (cs : List ℕ). record { script = script; shared = servers meta targets locks; clients = map client_of members; entries = entries; schedule = cs }) schedule_same
    where
      set_same : (xs : List Client) (i : ℕ) (x : Client) → slice_get xs i ≡ Some x → set xs i x ≡ xs
      set_same [] i x e = refl
      set_same (y ∷ ys) zero x e = let here : y ≡ x = cc e in ap (λ z. z ∷ ys) (sym here)
      set_same (y ∷ ys) (suc i) x e = ap (λ zs. y ∷ zs) (set_same ys i x e)

  pub tried : (k : ℕ) (m new : Member) (asked : Command) (meta2 : MetaView) (targets2 : List TargetState) (locks2 : List Lock) (entries2 : List Entry) (schedule2 : List ℕ) → slice_get members k ≡ Some m → command_after script (suc k) m.caller.client.done ≡ Some asked → client_of new ≡ client_of m → new.pending ≡ m.pending
      → IsAside (suc k) asked new.caller.client new.caller.aside → servers meta2 targets2 locks2 ≡ servers meta targets locks → entries2 ≡ entries → schedule2 ≡ schedule → IsWorld script meta2 targets2 locks2 (set members k new) entries2 schedule2
  tried k m new asked meta2 targets2 locks2 entries2 schedule2 at commanded same pending aside2 servers_same entries_same schedule_same = record {
    run = subst IsRun (sym (stays k m new meta2 targets2 locks2 entries2 schedule2 at same servers_same entries_same schedule_same)) w.run;
    kept = subst (λ (es : List Entry). AreKept script es (set members k new)) (sym entries_same) (tried_kept script entries members k new w.kept (record {
      aside = λ x e. (let one : asked ≡ x = cc (sym (subst (λ (c : Client). command_after script (suc k) c.done ≡ Some asked) (sym same) commanded) ∙ e) in subst (λ (a : Command). IsAside (suc k) a new.caller.client new.caller.aside) one aside2);
      pending = subst (λ (n : ℕ). IsOnlyPending (suc k) n entries) (sym pending) (w.kept k m at).pending;
    }));
  }

  -- a client's step
  pub moved : (k : ℕ) (m new : Member) (asked : Command) (meta2 : MetaView) (targets2 : List TargetState) (locks2 : List Lock) (entries2 : List Entry) (schedule2 : List ℕ) (note : Note) (place : ℕ) → slice_get members k ≡ Some m → command_after script (suc k) m.caller.client.done ≡ Some asked → place ≡ length schedule + 1
      → client_next (suc k) place (client_of m) (servers meta targets locks) (Some asked) ≡ Moves (client_of new) (servers meta2 targets2 locks2) note → entries2 ≡ noted (suc k) place entries note → schedule2 ≡ schedule ++ suc k ∷ [] → new.caller.aside ≡ running.Idle → new.pending ≡ pending_after m.pending (length entries) note
      → (next s (suc k) ≡ Stepped (shown script meta2 targets2 locks2 (set members k new) entries2 schedule2)) × IsWorld script meta2 targets2 locks2 (set members k new) entries2 schedule2
  moved k m new asked meta2 targets2 locks2 entries2 schedule2 note place at commanded counted_place is entries_are schedule_is nothing pending =
      let t : State = shown script meta2 targets2 locks2 (set members k new) entries2 schedule2 in
      let here_is : client_next (suc k) (place_in s) (client_of m) s.shared (Some asked) ≡ Moves (client_of new) (servers meta2 targets2 locks2) note =
      ap (λ (p : ℕ). client_next (suc k) p (client_of m) (servers meta targets locks) (Some asked)) (sym counted_place) ∙ is in
      let was : stepped s (suc k) (client_of new) (servers meta2 targets2 locks2) note ≡ t =
      ap (λ (cs : List Client). record { script = script; shared = servers meta2 targets2 locks2; clients = cs; entries = noted (suc k) (place_in s) entries note; schedule = schedule ++ suc k ∷ [] }) (set_at k ∙ sym (map_set client_of members k new))
      ∙ ap (λ (es : List Entry). record { script = script; shared = servers meta2 targets2 locks2; clients = map client_of (set members k new); entries = es; schedule = schedule ++ suc k ∷ [] }) (ap (λ (p : ℕ). noted (suc k) p entries note) (sym counted_place) ∙ sym entries_are)
      ∙ ap (λ (cs : List ℕ). record { script = script; shared = servers meta2 targets2 locks2; clients = map client_of (set members k new); entries = entries2; schedule = cs }) (sym schedule_is) in
      let made : next s (suc k) ≡ Stepped t = next_is s (suc k) (client_of m) (Some asked) (Moves (client_of new) (servers meta2 targets2 locks2) note) (here k m at) commanded here_is ∙ ap (λ (x : State). Stepped x) was in
      let then : IsRun t = run_more s t (suc k) w.run made refl schedule_is in
      let positive : 0 < place = omega (arith, counted_place) in (
        made,
        record {
          run = then;
          kept = subst (λ (es : List Entry). AreKept script es (set members k new)) (sym entries_are)
              (stepped_kept script entries members k place note m new w.kept at positive (note_is (suc k) place (client_of m) (servers meta targets locks) asked (client_of new) (servers meta2 targets2 locks2) note is) (subst IsOnePending entries_are (one_pending t then))
              (no_aside script (suc k) new (λ a. inl nothing)) pending);
        },
      )
    where
      set_at : (k : ℕ) → set s.clients (suc k - 1) (client_of new) ≡ set (map client_of members) k (client_of new)
      set_at k = let same : suc k - 1 ≡ k = omega arith in ap (λ (i : ℕ). set (map client_of members) i (client_of new)) same

-- what is shown has a client for each of the script
pub shown_count : (script : ScriptView) (meta : MetaView) (targets : List TargetState) (locks : List Lock) (members : List Member) (entries : List Entry) (schedule : List ℕ) (now : State) → IsWorld script meta targets locks members entries schedule → shown script meta targets locks members entries schedule ≡ now → length now.clients ≡ length script.clients
shown_count script meta targets locks members entries schedule now w same = ap (λ (s : State). length s.clients) (sym same) ∙ length-map members client_of ∙ counted script meta targets locks members entries schedule w
