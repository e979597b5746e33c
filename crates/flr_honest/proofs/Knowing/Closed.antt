-- Which bytes of a file can't be open: those of a hole, those that two fresh components have, and those on which a read holds a lock.
use Rattle.std.proofs.Common.{◌≡◌, ◌≢◌, ℕ, ◌^◌, ◌<◌, ◌≤◌, false, Some, None, List, ◌==◌, inr, sym, ap, subst, ◌∙◌}
use Rattle.std.specs.Prelude.{Contains, slice_get}
use Rattle.std.specs.Option.{option_map_or}
use Rattle.std.proofs.lemmas.Bool.{false≢true}
use Rattle.stripe_map.specs.Places.{place_of}
use Rattle.composite_layout.specs.declared.component.Component.{Component}
use Rattle.composite_layout.specs.Layouts.{IsValid}
use Rattle.extent_lock.specs.declared.lock.Lock.{Lock}
use Rattle.extent_lock.specs.Conflicts.{Covers}
use Rattle.extent_lock.specs.Extents.{locks_of}
use Rattle.extent_lock.proofs.Members.{Contains-filter_parts}
use Rattle.mirror_select.proofs.Least.{In, to_contains}
use Rattle.meta_server.specs.Files.{File, file_of}
use Rattle.meta_server.specs.Sound.{IsSound}
use Rattle.meta_laws.proofs.Opens.{one_file}
use Rattle.flr_steps.specs.declared.client.Client.{Client}
use Rattle.flr_steps.specs.declared.client.Running.{Running}
use Rattle.flr_steps.specs.declared.client.Running.TheVariants as running
use Rattle.flr_steps.specs.States.{State, client_at}
use Rattle.flr_steps.specs.Traces.{Trace, doing_of}
use Rattle.flr_claims.specs.Honesty.{IsAttempting, IsOpen}
use Rattle.flr_claims.specs.Sending.{Attempt, attempt_of, part_object}
use Rattle.flr_locks.specs.Phases.{AreLocksOf}
use Rattle.flr_sole.specs.Sentences.{IsAlone, StandsAlone}
use Rattle.flr_bytes.specs.Runs.{Ground}
use Rattle.flr_bytes.proofs.Alone.{alone_same, open_in, valid_file}
use Rattle.flr_bytes.proofs.Parts.{Lies, part_lies}
use Rattle.flr_honest.proofs.Knowing.Covering.{IsCovered, call_covers}

-- what is found twice is one
pub one_client : (clients : List Client) (k : ℕ) (a b : Client) → client_at clients k ≡ Some a → client_at clients k ≡ Some b → a ≡ b
one_client clients k a b e u = let both : Some a ≡ Some b = sym e ∙ u in cc

-- who reads or verifies has no attempt
pub none_attempts : (s : State) (k : ℕ) (a : Attempt) (client : Client) → IsAttempting s k a → client_at s.clients k ≡ Some client → attempt_of client.call ≡ None → ⊥
none_attempts s k a client is here none =
    let same : is.client ≡ client = one_client s.clients k is.client client is.here here in
    let some : attempt_of client.call ≡ Some a = ap (λ (x : Client). attempt_of x.call) (sym same) ∙ is.attempt in
    let no : None ≡ Some a = sym none ∙ some in
    cc

module _ (s : State) (tr : Trace) (g : Ground s tr) (n : ℕ) (f : File) (found : file_of n s.shared.meta.files ≡ Some f) where
  sound : IsSound s.shared.meta
  sound = g.holds.servers.sound

  -- the layout is valid
  pub file_valid : IsValid f.layout
  file_valid = valid_file s.shared.meta sound n f found

  -- the part that has landed over an open byte lies in the only fresh components there
  alone : (x : ℕ) (w : IsOpen s tr n x) → IsAlone f.layout.components w.part
  alone x w =
      let stands : StandsAlone s.shared.meta.files n w.part = subst (λ k. StandsAlone s.shared.meta.files k w.part) w.same (g.sole.parts w.client w.attempt w.place w.part w.attempting (inr w.landed)) in
      let one : stands.file ≡ f = one_file (file_of n s.shared.meta.files) stands.file f stands.there found in
      subst (λ (h : File). IsAlone h.layout.components w.part) one stands.alone

  -- no byte of a fresh component without objects is open
  pub hole_closed : (c : Component) → In c f.layout.components → c.flags.stale ≡ false → c.flags.init ≡ false → (x : ℕ) → c.extent.start ≤ x → x < c.extent.end → IsOpen s tr n x → ⊥
  hole_closed c i fresh none x low high w = let o = open_in s tr sound g.sole n x w f c found i fresh low high in absurd (false≢true (sym none ∙ o.0))

  -- no byte that two fresh components have
  pub twice_closed : (c d : Component) → In c f.layout.components → In d f.layout.components → c.flags.stale ≡ false → d.flags.stale ≡ false → (c ≡ d → ⊥) → (x : ℕ) → c.extent.start ≤ x → x < c.extent.end → d.extent.start ≤ x → x < d.extent.end → IsOpen s tr n x → ⊥
  twice_closed c d i j fresh fresh_too apart x low high low_too high_too w =
      let a = alone x w in
      let one : c ≡ a.component = alone_same f.layout file_valid w.part a c i fresh x w.over low high in
      let two : d ≡ a.component = alone_same f.layout file_valid w.part a d j fresh_too x w.over low_too high_too in
      apart (one ∙ sym two)

  -- no byte of a fresh component on which a client that has no attempt holds a lock
  pub read_closed : (k : ℕ) (client : Client) → client_at s.clients k ≡ Some client → attempt_of client.call ≡ None → (lock : Lock) → Contains s.shared.locks lock → lock.holder ≡ k
      → (c : Component) → In c f.layout.components → c.flags.stale ≡ false → (x : ℕ) → c.extent.start ≤ x → x < c.extent.end → x < 2 ^ 40
      → slice_get c.objects (place_of x c.stripe).index ≡ Some lock.object → Covers lock.range (place_of x c.stripe).offset → IsOpen s tr n x → ⊥
  read_closed k client here none lock held holder c i fresh x low high small object covers w =
      let at = (open_in s tr sound g.sole n x w f c found i fresh low high).1 in
      let lies : Lies c w.part x = part_lies s g.holds g.shaped w.client w.attempt w.place w.part w.attempting w.landed.there n f c at.0 found i at.1 x w.over in
      let both : Some lock.object ≡ Some (part_object w.part) = sym object ∙ lies.object in
      let same : lock.object ≡ part_object w.part = cc in
      let writer : Client = w.attempting.client in
      let mine = g.holds.clients w.client writer w.attempting.here in
      let call = ap (λ o. option_map_or (λ (client : Client). client.call) o running.Idle) w.attempting.here in
      let locks : AreLocksOf writer.call (locks_of w.client s.shared.locks) = subst (λ (r : Running). AreLocksOf r (locks_of w.client s.shared.locks)) call (g.locked.own w.client) in
      let covered : IsCovered w.client (locks_of w.client s.shared.locks) w.part x = call_covers s.script.fails w.client (locks_of w.client s.shared.locks) (doing_of tr w.client) w.attempt w.place w.part w.landed x small w.over writer.call mine.call locks w.attempting.attempt (g.sole.sent w.client writer w.attempting.here) in
      let there : Contains s.shared.locks covered.lock = (Contains-filter_parts (λ (l : Lock). l.holder == w.client) s.shared.locks covered.lock (to_contains (locks_of w.client s.shared.locks) covered.lock covered.held)).0 in
      let apart : lock.holder ≢ covered.lock.holder = (λ e. none_attempts s k w.attempt client (subst (λ j. IsAttempting s j w.attempt) (sym covered.holder ∙ sym e ∙ holder) w.attempting) here none) in
      g.locked.apart lock covered.lock held there (record {
        clients = apart;
        on = same ∙ sym covered.object;
        byte = (place_of x c.stripe).offset;
        ours = covers;
        theirs = subst (Covers covered.lock.range) (sym lies.offset) covered.covers;
        exclusive = inr covered.mode;
      })
