-- A world before any step.
use Rattle.std.proofs.Common.{◌≡◌, ℕ, zero, suc, List, [], ◌∷◌, length, map, replicate, refl, sym, ap, subst, ◌∙◌}
use Rattle.flr_base.specs.declared.reply.Entry.{Entry}
use Rattle.extent_lock.specs.declared.lock.Lock.{Lock}
use Rattle.object_target.specs.TargetState.{TargetState, new_targets}
use Rattle.meta_server.specs.Files.{MetaView, new_meta}
use Rattle.call_steps.specs.Servers.{servers}
use Rattle.script_values.specs.Scripts.{IsScript, ScriptView}
use Rattle.flr_steps.specs.declared.client.Client.{Client}
use Rattle.flr_steps.specs.States.{IsRun, new_client, start}
use Rattle.flr_world.specs.declared.member.Member.{Member}
use Rattle.flr_world.specs.Worlds.{AreKept, IsWorld, client_of, new_member, shown}
use Rattle.flr_world.proofs.Worlds.{start_kept}

new_clients : (n : ℕ) → map client_of (replicate n new_member) ≡ replicate n new_client
new_clients zero = refl
new_clients (suc n) = ap (λ (cs : List Client). new_client ∷ cs) (new_clients n)

module _ (script : ScriptView) (meta : MetaView) (targets : List TargetState) (locks : List Lock) (members : List Member) (entries : List Entry) (schedule : List ℕ) (limits : IsScript script)
    (meta_is : meta ≡ new_meta script.targets script.most) (targets_are : targets ≡ new_targets script.targets script.fails) (locks_are : locks ≡ []) (members_are : members ≡ replicate (length script.clients) new_member) (entries_are : entries ≡ []) (schedule_is : schedule ≡ []) where
  pub is_start : shown script meta targets locks members entries schedule ≡ start script
  is_start =
      ap (λ (m : MetaView). shown script m targets locks members entries schedule) meta_is
      ∙ ap (λ (ts : List TargetState). shown script (new_meta script.targets script.most) ts locks members entries schedule) targets_are
      ∙ ap (λ (ls : List Lock). shown script (new_meta script.targets script.most) (new_targets script.targets script.fails) ls members entries schedule) locks_are
      ∙ ap (λ (ms : List Member). shown script (new_meta script.targets script.most) (new_targets script.targets script.fails) [] ms entries schedule) members_are
      ∙ ap (λ (es : List Entry). shown script (new_meta script.targets script.most) (new_targets script.targets script.fails) [] (replicate (length script.clients) new_member) es schedule) entries_are
      ∙ ap (λ (cs : List ℕ). shown script (new_meta script.targets script.most) (new_targets script.targets script.fails) [] (replicate (length script.clients) new_member) [] cs) schedule_is
      ∙ ap (λ (cs : List Client). record { script = script; shared = servers (new_meta script.targets script.most) (new_targets script.targets script.fails) []; clients = cs; entries = []; schedule = [] }) (new_clients (length script.clients))

  pub start_world : IsWorld script meta targets locks members entries schedule
  start_world = record {
    run = subst IsRun (sym is_start) (record { limits = limits; run = refl });
    kept = subst (λ (es : List Entry). AreKept script es members) (sym entries_are) (subst (AreKept script []) (sym members_are) (start_kept script (length script.clients)));
  }
