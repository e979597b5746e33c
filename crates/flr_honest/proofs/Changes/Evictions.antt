-- In every run evictions take what their client holds and nothing else, and nobody loses a lock or a lease in another way.
use Rattle.std.proofs.Common.{◌≡◌, ◌≢◌, ℕ, true, false, true≢false, nat_eq, ◌&&◌, Option, Some, [], ◌⊎◌, inl, inr, refl, sym, ap, subst, ◌∙◌}
use Rattle.std.specs.Option.{option_map_or}
use Rattle.std.proofs.lemmas.Bool.{and_parts, cases_eq, eqb-true}
use Rattle.flr_base.specs.declared.reply.Reply.TheVariants as reply
use Rattle.layout_lease.specs.declared.shared.Share.{Share}
use Rattle.layout_lease.specs.Shares.{is_held, same_cookie}
use Rattle.script_values.specs.declared.command.Command.TheVariants as command
use Rattle.mirror_select.proofs.Least.{any_in, some_in}
use Rattle.meta_server.specs.Closing.{holds}
use Rattle.meta_server.specs.Files.{File, MetaView, file_of, with_eviction}
use Rattle.meta_server.proofs.Placing.{nat_eq_same}
use Rattle.call_steps.specs.Servers.{Servers}
use Rattle.call_steps.specs.Steps.{Outcome, Answered}
use Rattle.flr_steps.specs.declared.client.Running.{Running}
use Rattle.flr_steps.specs.declared.client.Running.TheVariants as running
use Rattle.flr_steps.specs.Clients.{call_now, first_now}
use Rattle.flr_steps.specs.Commands.{begun, step_of}
use Rattle.flr_steps.specs.States.{IsRun, State, place_in}
use Rattle.flr_steps.specs.Steps.{LeavesState, StepIs}
use Rattle.flr_asked.specs.Sentences.{at_start}
use Rattle.flr_claims.specs.Calls.{HasLease, breaks_leases, shares_lock}
use Rattle.flr_claims.specs.Steps.{LosesOnlySo, TakesOnlyItsOwn}
use Rattle.flr_honest.specs.Changes.Laws.{RunsTakeTheirs}
use Rattle.flr_honest.proofs.Changes.Losing.{KeepsCookies, KeepsLeases, gives_both, keeps_cookies, keeps_leases}
use Rattle.flr_honest.proofs.Changes.Steps.{after_step, call_asked, each_step}

-- ---- what an eviction does

-- a call that began as none is none
idle_now : (call : Running) → at_start call ≡ running.Idle → call ≡ running.Idle
idle_now running.Idle e = refl
idle_now (running.Read call) e = absurd (cc e)
idle_now (running.Write call) e = absurd (cc e)
idle_now (running.Truncate call) e = absurd (cc e)
idle_now (running.Copy call) e = absurd (cc e)
idle_now (running.Verify call) e = absurd (cc e)

-- a step that evicts a client takes what the client holds, and changes nothing else
takes_only : (s t : State) (c : ℕ) → IsRun s → (step : StepIs s c t) → TakesOnlyItsOwn s c t step
takes_only s t c run step client evicts =
    let call : Running = call_now c step.client.call step.asked in
    let after : Servers = record s.shared { meta = with_eviction client (place_in s) s.shared.meta } in
    let idle : call ≡ running.Idle = idle_now call (call_asked s t c run step ∙ ap (begun c) evicts) in
    let came : step.came ≡ Answered (reply.EvictedClient client) [] after = sym step.made ∙ (λ j. step_of (idle j) c (evicts j) (place_in s) s.shared) in
    ap (λ (x : State). x.shared) (subst (λ (o : Outcome Running). LeavesState s c step.client (first_now step.client.call (place_in s) step.client.first) o t) came step.left)

-- ---- locks

-- a cookie is the same as itself
same_itself : (a : Share) → same_cookie a a ≡ true
same_itself a = let one : nat_eq a.client a.client ≡ true = nat_eq_same a.client in let two : nat_eq a.number a.number ≡ true = nat_eq_same a.number in λ j. one j && two j

-- a client that shares a lock has a cookie of it
cookie_there : (d : ℕ) (f : File) → shares_lock d f ≡ true → (cookie : Share) × (cookie.client ≡ d) × (is_held f.lock cookie ≡ true)
cookie_there d f shares =
    let w = some_in (λ (share : Share). nat_eq share.client d) f.lock.cookies shares in
    let own : w.0.client ≡ d = eqb-true w.0.client d w.2 in
    (w.0, own, any_in (λ (share : Share). same_cookie share w.0) f.lock.cookies w.0 w.1 (same_itself w.0))

-- and one that has a cookie shares it
there_shared : (d : ℕ) (f : File) (cookie : Share) → cookie.client ≡ d → is_held f.lock cookie ≡ true → shares_lock d f ≡ true
there_shared d f cookie own held =
    let w = some_in (λ (share : Share). same_cookie share cookie) f.lock.cookies held in
    let one : w.0.client ≡ cookie.client = eqb-true w.0.client cookie.client (and_parts (nat_eq w.0.client cookie.client) (nat_eq w.0.number cookie.number) w.2).0 in
    any_in (λ (share : Share). nat_eq share.client d) f.lock.cookies w.0 w.1 (ap (λ (n : ℕ). nat_eq n d) (one ∙ own) ∙ nat_eq_same d)

-- a cookie of a file that is found is held of its number
held_of : (m : MetaView) (number : ℕ) (f : File) (cookie : Share) → file_of number m.files ≡ Some f → holds number cookie m ≡ is_held f.lock cookie
held_of m number f cookie there = ap (λ (o : Option File). option_map_or (λ (x : File). is_held x.lock cookie) o false) there

module _ (s t : State) (c : ℕ) (run : IsRun s) (step : StepIs s c t) where
  -- cookies of others stay held
  cookies_stay : KeepsCookies step.asked c s.shared.meta t.shared.meta
  cookies_stay = after_step s t c run step (KeepsCookies step.asked c s.shared.meta)
      (record { same = λ number cookie apart h. inl h; calls = keeps_cookies step.asked c (place_in s) (call_now c step.client.call step.asked) s.shared.meta }) (λ ours theirs own own_too number cookie apart h. inl h)

  -- and leases of others stand
  leases_stay : KeepsLeases step.asked c s.shared.meta.leases t.shared.meta.leases
  leases_stay = after_step s t c run step (λ (x : MetaView). KeepsLeases step.asked c s.shared.meta.leases x.leases)
      (record { same = λ d number apart h. inl h; calls = keeps_leases step.asked c s.shared.meta (place_in s) (call_now c step.client.call step.asked) })
      (λ ours theirs own own_too. gives_both step.asked c s.shared.meta ours theirs own own_too)

  -- another client loses a lock by an eviction alone
  locks_lost : (d number : ℕ) (f g : File) → file_of number s.shared.meta.files ≡ Some f → file_of number t.shared.meta.files ≡ Some g → shares_lock d f ≡ true → shares_lock d g ≡ false → (d ≢ c) → step.asked ≡ command.Evict d
  locks_lost d number f g here there shares lost apart =
      let w = cookie_there d f shares in
      let held : holds number w.0 s.shared.meta ≡ true = held_of s.shared.meta number f w.0 here ∙ w.2 in
      elim (cookies_stay number w.0 (λ same. apart (sym w.1 ∙ same)) held) as (λ _. step.asked ≡ command.Evict d) [
        | inl still ↦ absurd (true≢false (sym (there_shared d g w.0 w.1 (sym (held_of t.shared.meta number g w.0 there) ∙ still)) ∙ lost))
        | inr evicts ↦ evicts ∙ ap command.Evict w.1
      ]

  -- and a lease by a command that breaks leases
  leases_lost : (d number : ℕ) → HasLease s d number → (HasLease t d number → ⊥) → (d ≢ c) → breaks_leases step.asked ≡ true
  leases_lost d number has lost apart = elim (leases_stay d number apart has) as (λ _. breaks_leases step.asked ≡ true) [
    | inl still ↦ absurd (lost still)
    | inr breaks ↦ breaks
  ]

  -- nobody loses a lock or a lease in another way
  loses_only : LosesOnlySo s c t step
  loses_only = record {
    locks = λ d number f g here there shares lost. elim (cases_eq d c) as (λ _. (d ≡ c) ⊎ (step.asked ≡ command.Evict d)) [
      | inl own ↦ inl own
      | inr apart ↦ inr (locks_lost d number f g here there shares lost apart)
    ];
    leases = λ d number has lost. elim (cases_eq d c) as (λ _. (d ≡ c) ⊎ (breaks_leases step.asked ≡ true)) [
      | inl own ↦ inl own
      | inr apart ↦ inr (leases_lost d number has lost apart)
    ];
  }

pub runs_take_theirs : RunsTakeTheirs
runs_take_theirs s run = (each_step TakesOnlyItsOwn (λ old new c before after step. takes_only old new c before step) s run, each_step LosesOnlySo (λ old new c before after step. loses_only old new c before step) s run)
