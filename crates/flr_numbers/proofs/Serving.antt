-- What holds of the servers holds after each call.
use Rattle.std.proofs.Common.{◌≡◌, ℕ, ◌<◌, ◌≤◌, List, length, ◌⊎◌, inl, inr, sym, subst, ◌∙◌, arith, get_or, Some}
use Rattle.flr_base.specs.declared.reply.ObjectId.{ObjectId}
use Rattle.object_target.specs.TargetState.{TargetState}
use Rattle.meta_server.specs.Files.{File, MetaView, file_of}
use Rattle.meta_server.specs.Sound.{IsSound}
use Rattle.meta_laws.specs.Calls.{Call, MayCall, after_call}
use Rattle.meta_laws.specs.Layouts.{AreExplained}
use Rattle.meta_laws.specs.Numbers.{AreObjectsOnce, NoneFalls}
use Rattle.meta_laws.proofs.Explained.{call_explained}
use Rattle.meta_laws.proofs.Falling.{call_draws}
use Rattle.meta_laws.proofs.Runs.{call_sound}
use Rattle.meta_laws.proofs.Single.{call_once}
use Rattle.flr_numbers.specs.Frames.{IsUnmade, Leaves, Stands, StandsBelow}
use Rattle.flr_numbers.specs.Hands.{AreServers, version_on}
use Rattle.flr_numbers.proofs.Objects.{Raises}

-- ---- targets

-- targets that keep the versions that they kept
pub kept_servers : (m : MetaView) (old new : List TargetState) → length new ≡ length old → ((o : ObjectId) → version_on new o ≡ version_on old o) → AreServers m old → AreServers m new
kept_servers m old new many same h = record {
  sound = h.sound;
  once = h.once;
  as_many = many ∙ h.as_many;
  versions = λ number f o e s. (let before = h.versions number f o e s in let k = same o in omega (arith, before, k));
  unmade = λ o late. same o ∙ h.unmade o late;
}

-- targets of which one raised the version of an object that was made, to no more than the generation of its file
pub raised_servers : (m : MetaView) (old new : List TargetState) (p : ObjectId) (g : ℕ) → length new ≡ length old → Raises old new p g → p.number < get_or m.nexts p.target 0 → ((number : ℕ) (f : File) → file_of number m.files ≡ Some f → Stands p f.layout → g ≤ f.layout.generation) → AreServers m old → AreServers m new
raised_servers m old new p g many raises made behind h = record {
  sound = h.sound;
  once = h.once;
  as_many = many ∙ h.as_many;
  versions = λ number f o e s. version_by number f o e s (raises o);
  unmade = λ o late. unmade_by o late (raises o);
}
  where
    version_by : (number : ℕ) (f : File) (o : ObjectId) → file_of number m.files ≡ Some f → Stands o f.layout → (version_on new o ≤ version_on old o) ⊎ ((o ≡ p) × (version_on new o ≤ g)) → version_on new o ≤ f.layout.generation
    version_by number f o e s (inl less) = let before = h.versions number f o e s in omega (arith, before, less)
    version_by number f o e s (inr up) = let most = behind number f e (subst (λ (q : ObjectId). Stands q f.layout) up.0 s) in omega (arith, most, up.1)

    unmade_by : (o : ObjectId) → IsUnmade m o → (version_on new o ≤ version_on old o) ⊎ ((o ≡ p) × (version_on new o ≤ g)) → version_on new o ≡ 0
    unmade_by o late (inl less) = let none = h.unmade o late in omega (arith, none, less)
    unmade_by o late (inr up) = let low : get_or m.nexts p.target 0 ≤ p.number = subst (λ (q : ObjectId). get_or m.nexts q.target 0 ≤ q.number) up.0 late in absurd (omega (arith, low, made))

-- ---- the metadata server

-- what a call keeps of it, and what each layout comes from
pub record Kept (m new : MetaView) : Type 0 where
  pub sound : IsSound new
  pub once : AreObjectsOnce new
  pub falls : NoneFalls m new
  pub layouts : AreExplained m new.files

pub kept_by : (call : Call) (m : MetaView) → IsSound m → AreObjectsOnce m → MayCall call m → Kept m (after_call call m)
kept_by call m h k may = record { sound = call_sound call m h may; once = call_once call m h may k; falls = call_draws m h call; layouts = call_explained call m h may }

-- two calls, of which the second leaves the files
pub kept_then : (a b c : MetaView) → Kept a b → Kept b c → c.files ≡ b.files → Kept a c
kept_then a b c h k same = record {
  sound = k.sound;
  once = k.once;
  falls = record { files = omega (arith, h.falls.files, k.falls.files); keys = omega (arith, h.falls.keys, k.falls.keys); objects = λ target. omega (arith, h.falls.objects target, k.falls.objects target); targets = k.falls.targets ∙ h.falls.targets };
  layouts = subst (λ (files : List File). AreExplained a files) (sym same) h.layouts;
}

pub meta_servers : (client : ℕ) (m new : MetaView) (targets : List TargetState) → Kept m new → Leaves client m new → AreServers m targets → AreServers new targets
meta_servers client m new targets kept leaves h = record {
  sound = kept.sound;
  once = kept.once;
  as_many = h.as_many ∙ sym kept.falls.targets;
  versions = λ number f o e s. version_by o f.layout.generation (leaves.rises number f o e s);
  unmade = λ o late. h.unmade o (let grow = kept.falls.objects o.target in omega (arith, grow, late));
}
  where
    version_by : (o : ObjectId) (g : ℕ) → IsUnmade m o ⊎ StandsBelow m o g → version_on targets o ≤ g
    version_by o g (inl late) = let none = h.unmade o late in omega (arith, none)
    version_by o g (inr s) = let most = h.versions s.number s.file o s.there s.stands in omega (arith, most, s.below)
