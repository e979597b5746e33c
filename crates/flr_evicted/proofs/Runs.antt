-- Every run for whose steps there is room.
use Rattle.std.proofs.Common.{◌≡◌, ℕ, zero, suc, false, Some, None, IfSome, length, replicate, get_or, ◌-◌, refl, sym, ap, subst, ◌∙◌, arith}
use Rattle.script_values.specs.Scripts.{ScriptView}
use Rattle.meta_server.specs.declared.answers.Opened.{Opened}
use Rattle.meta_server.specs.Closing.{holds, last_eviction}
use Rattle.flr_steps.specs.declared.client.Client.{Client}
use Rattle.flr_steps.specs.States.{IsRun, State, Stepped, client_at, next, start}
use Rattle.flr_steps.specs.Traces.{Doing, nothing_done}
use Rattle.flr_numbers.specs.Laws.{LeaveRoom}
use Rattle.flr_numbers.specs.Sentences.{HasRoom, Holds, hand_of}
use Rattle.flr_locks.proofs.Runs.{keep_always}
use Rattle.flr_places.proofs.Opened.{OfOpen}
use Rattle.flr_places.proofs.Runs.{new_at, start_places}
use Rattle.flr_evicted.specs.Sentences.{Explained, IsEvictedSince, opened_at}
use Rattle.flr_evicted.proofs.Keeping.{IsKept, Kept, step_kept}
use Rattle.flr_evicted.proofs.Latest.{Last, step_last}
use Rattle.flr_evicted.proofs.Sparing.{place_of}

-- both are known of a state
record Known (s : State) : Type 0 where
  pub kept : Kept s
  pub last : Last s

step_known : (s t : State) (c : ℕ) → Holds s → HasRoom s.shared → Known s → next s c ≡ Stepped t → Known t
step_known s t c h room k made = let now = step_kept s t c h room k.kept made in record { kept = now; last = step_last s t c h room k.kept now k.last made }

-- whatever place is asked for, nothing else is there
all_same : {X : Type 0} (n i : ℕ) (x : X) → get_or (replicate n x) i x ≡ x
all_same zero i x = refl
all_same (suc n) zero x = refl
all_same (suc n) (suc i) x = all_same n i x

-- before any step nobody was evicted, and no call has a file open
start_kept : (script : ScriptView) → Kept (start script)
start_kept script = record {
  run = refl;
  placed = start_places script;
  noted = λ c place e. absurd (never c place e);
  opened = λ c client e. (
      let none : opened_at (start script) c ≡ 0 = ap (λ (d : Doing). d.opened) (all_same (length script.clients) (c - 1) nothing_done) in
      let first : client.first ≡ 0 = ap (λ (x : Client). x.first) (new_at (length script.clients) c client e) in
      (omega (arith, none, first), omega (arith, none))
      );
  lost = λ c client e. subst (λ (x : Client). OfOpen (IsKept (start script).shared.meta c (opened_at (start script) c)) x.call) (sym (new_at (length script.clients) c client e)) tt;
}
  where
    never : (c place : ℕ) → last_eviction c (start script).shared.meta ≡ Some place → ⊥
    never c place e = let none : last_eviction c (start script).shared.meta ≡ None = ap place_of (all_same 17 c 0) in let both : None ≡ Some place = sym none ∙ e in absurd (cc)

start_last : (script : ScriptView) → Last (start script)
start_last script = record {
  idle = λ n client k e asked. ap (λ (x : Client). x.call) (new_at (length script.clients) n client e);
  noted = λ n later known e. (let some = e.some in let none = e.within in absurd (omega (arith, some, none)));
}

pub runs_explain : (s : State) → IsRun s → LeaveRoom (length s.schedule) → Explained s
runs_explain s run leave = record { noted = kept.noted; latest = known.last.noted; lost = lost }
  where
    known : Known s
    known = keep_always Known step_known s run leave (record { kept = start_kept s.script; last = start_last s.script })

    kept : Kept s
    kept = known.kept

    lost : (c : ℕ) (client : Client) (o : Opened) → client_at s.clients c ≡ Some client → (hand_of client.call).opened ≡ Some o → holds o.file o.cookie s.shared.meta ≡ false → IsEvictedSince s c client
    lost c client o here opens gone =
        let was = subst (λ x. IfSome x (IsKept s.shared.meta c (opened_at s c))) opens (kept.lost c client here) gone in
        record { place = was.0; latest = was.1; at = kept.noted c was.0 was.1; began = (kept.opened c client here).0; since = was.2 }
