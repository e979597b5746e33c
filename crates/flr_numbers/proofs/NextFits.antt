-- What the next step of a client asks for is there.
use Rattle.std.proofs.Common.{◌≡◌, ℕ, Some, length, sym, subst, arith}
use Rattle.script_values.specs.declared.command.Command.{Command}
use Rattle.script_values.specs.declared.command.Command.TheVariants as command
use Rattle.script_values.specs.Commands.{IsCommand}
use Rattle.script_values.specs.Scripts.{command_after}
use Rattle.call_steps.specs.Servers.{Servers}
use Rattle.flr_numbers.specs.Calls.{hand_of_read, hand_of_truncate, hand_of_verify, hand_of_write}
use Rattle.flr_numbers.specs.Hands.{AreServers, Has}
use Rattle.flr_numbers.proofs.CallFits.{read_fits, truncate_fits, verify_fits, write_fits}
use Rattle.flr_numbers.specs.Copies.{hand_of_copy}
use Rattle.flr_numbers.proofs.CopyFits.{copy_fits}
use Rattle.flr_steps.specs.declared.client.Client.{Client}
use Rattle.flr_steps.specs.declared.client.Running.{Running}
use Rattle.flr_steps.specs.declared.client.Running.TheVariants as running
use Rattle.flr_steps.specs.Clients.{call_now}
use Rattle.flr_steps.specs.Conditions.{AtOnceFits, CallFits, NextFits, StepFits}
use Rattle.flr_steps.specs.States.{State, client_at}
use Rattle.flr_numbers.specs.Sentences.{HasRoom, Holds, IsCallOf, hand_of}
use Rattle.flr_numbers.proofs.Clients.{has_now, is_now}
use Rattle.flr_numbers.proofs.Commands.{askable, few_done, is_command}
use Rattle.flr_numbers.proofs.Keeping.{is_client}

module _ (c : ℕ) (s : Servers) (h : AreServers s.meta s.targets) (room : HasRoom s) where
  at_once_fits : (most targets clients : ℕ) (asked : Command) → length s.meta.nexts ≡ targets → IsCommand most targets clients asked → AtOnceFits asked s.meta s.targets
  at_once_fits most targets clients (command.Lfs of) many good = (room.meta.files, room.meta.generations)
  at_once_fits most targets clients (command.Rot object offset byte) many good = let there = good.0.0 in let as_many = h.as_many in omega (arith, there, many, as_many)
  at_once_fits most targets clients (command.Read name offset len) many good = tt
  at_once_fits most targets clients (command.Write name offset bytes) many good = tt
  at_once_fits most targets clients (command.Truncate name size) many good = tt
  at_once_fits most targets clients (command.Evict other) many good = tt

  call_fits : (most targets clients : ℕ) (asked : Command) → length s.meta.nexts ≡ targets → IsCommand most targets clients asked → (call : Running) → Has c s.meta s.locks (hand_of call) → IsCallOf c call → CallFits call asked s
  call_fits most targets clients asked many good running.Idle has of = at_once_fits most targets clients asked many good
  call_fits most targets clients asked many good (running.Read r) has of = read_fits s h room.meta room.calls r (subst (λ n. Has n s.meta s.locks (hand_of_read r)) (sym of) has)
  call_fits most targets clients asked many good (running.Write w) has of = write_fits s h room.meta room.calls w (subst (λ n. Has n s.meta s.locks (hand_of_write w)) (sym of.0) has)
  call_fits most targets clients asked many good (running.Truncate t) has of = truncate_fits s h room.meta room.calls t (subst (λ n. Has n s.meta s.locks (hand_of_truncate t)) (sym of.0) has)
  call_fits most targets clients asked many good (running.Copy k) has of = copy_fits s h room.meta room.calls k (subst (λ n. Has n s.meta s.locks (hand_of_copy k)) (sym of.0) has)
  call_fits most targets clients asked many good (running.Verify v) has of = verify_fits s h room.meta room.calls v (subst (λ n. Has n s.meta s.locks (hand_of_verify v)) (sym of) has)

-- the client's next step finds what it asks for
pub next_fits : (s : State) → Holds s → HasRoom s.shared → (c : ℕ) → NextFits s c
next_fits s h room c = λ client here asked commanded. by client here asked commanded
  where
    by : (client : Client) → client_at s.clients c ≡ Some client → (asked : Command) → command_after s.script c client.done ≡ Some asked → StepFits c client asked s.shared
    by client here asked commanded =
        let of = h.clients c client here in
        let le = h.script.form.few_mirrors in
        let few = h.script.form.few_clients in
        let good : IsCommand s.script.most s.script.targets (length s.script.clients) asked = is_command s.script c client.done asked h.script commanded in
        record {
          number = is_client s c client h here;
          few = few_done s.script c client.done asked h.script commanded;
          askable = askable s.script.most s.script.targets (length s.script.clients) asked le few good;
          call = call_fits c s.shared h.servers room s.script.most s.script.targets (length s.script.clients) asked h.targets good (call_now c client.call asked)
              (has_now c s.shared asked s.script.most s.script.targets (length s.script.clients) le few good client.call of.has)
              (is_now c s.shared asked s.script.most s.script.targets (length s.script.clients) le few good client.call of.call);
        }
