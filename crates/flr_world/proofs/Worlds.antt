-- What a world keeps, step by step.
use Rattle.std.proofs.Common.{◌≡◌, ℕ, zero, suc, ◌<◌, List, [], length, set, replicate, refl, sym, subst, inl}
use Rattle.std.specs.Prelude.{Option, Some, slice_get}
use Rattle.std.specs.Option.{ForSome}
use Rattle.flr_base.specs.declared.reply.Entry.{Entry}
use Rattle.script_values.specs.declared.command.Command.{Command}
use Rattle.script_values.specs.Scripts.{ScriptView, command_after}
use Rattle.flr_steps.specs.declared.client.Note.{Note}
use Rattle.flr_steps.specs.States.{noted}
use Rattle.client_step.specs.Callers.{IsAside}
use Rattle.flr_world.specs.declared.member.Member.{Member}
use Rattle.flr_world.specs.Worlds.{AreKept, IsKept, IsOnlyPending, new_member, pending_after}
use Rattle.flr_world.proofs.Lists.{put_at}
use Rattle.flr_world.proofs.Noting.{IsNoteOf, IsOnePending, others_open, own_open}

-- ---- before any step

new_at : (n k : ℕ) (m : Member) → slice_get (replicate n new_member) k ≡ Some m → new_member ≡ m
new_at zero k m e = absurd (cc e)
new_at (suc n) zero m e = cc e
new_at (suc n) (suc k) m e = new_at n k m e

for_all : {A : Type 0} (o : Option A) (P : A → Type 0) → ((x : A) → P x) → ForSome o P
for_all o P h = λ x e. h x

new_kept : (script : ScriptView) (c : ℕ) → IsKept script [] c new_member
new_kept script c = record {
  aside = for_all (command_after script c 0) (λ asked. IsAside c asked new_member.caller.client new_member.caller.aside) (λ asked. inl refl);
  pending = λ j e at mine last. absurd (cc at);
}

pub start_kept : (script : ScriptView) (n : ℕ) → AreKept script [] (replicate n new_member)
start_kept script n k m at = subst (IsKept script [] (suc k)) (new_at n k m at) (new_kept script (suc k))

-- ---- a client's try that left its call as it was

pub tried_kept : (script : ScriptView) (entries : List Entry) (members : List Member) (k : ℕ) (new : Member) → AreKept script entries members → IsKept script entries (suc k) new → AreKept script entries (set members k new)
tried_kept script entries members k new kept one j m at = put_at (λ i x. IsKept script entries (suc i) x) members k j new m (λ i x there other. kept i x there) one at

-- ---- a client's step

-- what is kept of the others stays so
others_kept : (script : ScriptView) (c d place : ℕ) (entries : List Entry) (note : Note) (m : Member) → (d ≡ c → ⊥) → 0 < place → IsNoteOf c note → IsKept script entries d m → IsKept script (noted c place entries note) d m
others_kept script c d place entries note m other pos of kept = record { aside = kept.aside; pending = others_open c d place m.pending entries note other pos of kept.pending }

pub stepped_kept : (script : ScriptView) (entries : List Entry) (members : List Member) (k place : ℕ) (note : Note) (old new : Member) → AreKept script entries members → slice_get members k ≡ Some old → 0 < place → IsNoteOf (suc k) note → IsOnePending (noted (suc k) place entries note)
    → ForSome (command_after script (suc k) new.caller.client.done) (λ asked. IsAside (suc k) asked new.caller.client new.caller.aside) → new.pending ≡ pending_after old.pending (length entries) note
    → AreKept script (noted (suc k) place entries note) (set members k new)
stepped_kept script entries members k place note old new kept there pos of one aside pending j m at =
    put_at (λ i x. IsKept script (noted (suc k) place entries note) (suc i) x) members k j new m
    (λ i x at other. others_kept script (suc k) (suc i) place entries note x (λ same. other (cc)) pos of (kept i x at))
    (record { aside = aside; pending = subst (λ (n : ℕ). IsOnlyPending (suc k) n (noted (suc k) place entries note)) (sym pending) (own_open (suc k) place old.pending entries note pos of one (kept k old there).pending) }) at

-- a call of nobody is aside
pub no_aside : (script : ScriptView) (c : ℕ) (m : Member) → ((asked : Command) → IsAside c asked m.caller.client m.caller.aside) → ForSome (command_after script c m.caller.client.done) (λ asked. IsAside c asked m.caller.client m.caller.aside)
no_aside script c m h = for_all (command_after script c m.caller.client.done) (λ asked. IsAside c asked m.caller.client m.caller.aside) h
