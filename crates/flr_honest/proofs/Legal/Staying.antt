-- A plain file stays as it is where an answered command doesn't write to it.
use Rattle.std.proofs.Common.{◌≡◌, ℕ, ◌+◌, Bool, true, false, cond, Option, Some, List, [], ◌∷◌, ◌++◌, refl, sym, ap, ◌∙◌, subst}
use Rattle.std.specs.Str.{bytes_eq}
use Rattle.std.proofs.lemmas.Slice.Eq.{bytes_eq-Decides}
use Rattle.flr_base.specs.Bytes.{overlay}
use Rattle.flr_base.specs.declared.reply.Reply.{Reply}
use Rattle.flr_base.specs.declared.reply.Reply.TheVariants as reply
use Rattle.lfs_words.specs.declared.command.LfsCommand.{LfsCommand}
use Rattle.lfs_words.specs.declared.command.LfsCommand.TheVariants as lfs
use Rattle.script_values.specs.declared.command.Command.{Command}
use Rattle.script_values.specs.declared.command.Command.TheVariants as command
use Rattle.plain_files.specs.Effects.{effect, lfs_effect, made, split_off, taken_in, truncated, with_bytes, with_file, without_file, wrote}
use Rattle.plain_files.specs.Files.{IsPresent, Plain, Ranges, Sent, Tails, bytes_of, fit, land, plain_from, plain_of, wipe}
use Rattle.flr_bytes.proofs.StoreEffects.{bytes_renewed, dropped, other_kept, renewed, taken_kept, without_dropped}
use Rattle.flr_honest.proofs.Closing.Sized.{there_kept}
use Rattle.flr_honest.specs.Legal.Seeing.{WritesTo}
use Rattle.flr_honest.proofs.Legal.Files.{differ}

-- the plain file of the name is there, and has these bytes
pub record HasBytes (name bytes : List ℕ) (store : List Plain) : Type 0 where
  pub present : IsPresent store name
  pub are : bytes_of store name ≡ bytes

-- ---- where a file is

-- new bytes of one file leave the place of each
renewed_place : (n : ℕ) (name other : List ℕ) (new : List ℕ → List ℕ) (store : List Plain) → plain_from n name (renewed other new store) ≡ plain_from n name store
renewed_place n name other new [] = refl
renewed_place n name other new (f ∷ fs) = by (bytes_eq f.name other) (renewed_place (n + 1) name other new fs)
  where
    by : (b : Bool) → plain_from (n + 1) name (renewed other new fs) ≡ plain_from (n + 1) name fs → plain_from n name (cond b (record { name = f.name; bytes = new f.bytes } ∷ fs) (f ∷ renewed other new fs)) ≡ plain_from n name (f ∷ fs)
    by true rest = refl
    by false rest = ap (λ (o : Option ℕ). cond (bytes_eq f.name name) (Some n) o) rest

pub with_present : (name other : List ℕ) (new : List ℕ → List ℕ) (store : List Plain) → IsPresent store name → IsPresent (with_bytes other new store) name
with_present name other new store h = (h.0, ap (plain_of name) (bytes_renewed other new store) ∙ renewed_place 0 name other new store ∙ h.1)

-- a file that comes behind leaves those before it
pushed_place : (n : ℕ) (name : List ℕ) (store more : List Plain) (place : ℕ) → plain_from n name store ≡ Some place → plain_from n name (store ++ more) ≡ Some place
pushed_place n name [] more place e = absurd (cc e)
pushed_place n name (f ∷ fs) more place e = by (bytes_eq f.name name) e (λ k. pushed_place (n + 1) name fs more place k)
  where
    by : (b : Bool) → cond b (Some n) (plain_from (n + 1) name fs) ≡ Some place → (plain_from (n + 1) name fs ≡ Some place → plain_from (n + 1) name (fs ++ more) ≡ Some place) → cond b (Some n) (plain_from (n + 1) name (fs ++ more)) ≡ Some place
    by true e rest = e
    by false e rest = rest e

-- a file that is there is there from whatever place on the list is counted
recounted : (n k : ℕ) (name : List ℕ) (store : List Plain) → (place : ℕ) × (plain_from n name store ≡ Some place) → (place : ℕ) × (plain_from k name store ≡ Some place)
recounted n k name [] h = absurd (let e = h.1 in cc e)
recounted n k name (f ∷ fs) h = by (bytes_eq f.name name) h.1 (λ e. recounted (n + 1) (k + 1) name fs (h.0, e))
  where
    by : (b : Bool) → cond b (Some n) (plain_from (n + 1) name fs) ≡ Some h.0 → (plain_from (n + 1) name fs ≡ Some h.0 → (place : ℕ) × (plain_from (k + 1) name fs ≡ Some place)) → (place : ℕ) × (cond b (Some k) (plain_from (k + 1) name fs) ≡ Some place)
    by true e rest = (k, refl)
    by false e rest = rest e

-- a file of another name that goes leaves it
dropped_place : (n : ℕ) (name victim : List ℕ) (store : List Plain) → (victim ≡ name → ⊥) → (place : ℕ) × (plain_from n name store ≡ Some place) → (place : ℕ) × (plain_from n name (dropped victim store) ≡ Some place)
dropped_place n name victim [] apart h = absurd (let e = h.1 in cc e)
dropped_place n name victim (f ∷ fs) apart h = by (bytes_eq f.name victim) refl (λ k. dropped_place (n + 1) name victim fs apart k)
  where
    keeps : (b : Bool) → cond b (Some n) (plain_from (n + 1) name fs) ≡ Some h.0 → ((place : ℕ) × (plain_from (n + 1) name fs ≡ Some place) → (place : ℕ) × (plain_from (n + 1) name (dropped victim fs) ≡ Some place)) → (place : ℕ) × (cond b (Some n) (plain_from (n + 1) name (dropped victim fs)) ≡ Some place)
    keeps true e rest = (n, refl)
    keeps false e rest = rest (h.0, e)

    by : (b : Bool) → bytes_eq f.name victim ≡ b → ((place : ℕ) × (plain_from (n + 1) name fs ≡ Some place) → (place : ℕ) × (plain_from (n + 1) name (dropped victim fs) ≡ Some place)) → (place : ℕ) × (plain_from n name (cond b fs (f ∷ dropped victim fs)) ≡ Some place)
    by true is rest =
        let other : bytes_eq f.name name ≡ false = differ f.name name (λ same. apart (sym ((bytes_eq-Decides f.name victim).0 is) ∙ same)) in
        let e : plain_from (n + 1) name fs ≡ Some h.0 = sym (ap (λ (b : Bool). cond b (Some n) (plain_from (n + 1) name fs)) other) ∙ h.1 in
        recounted (n + 1) n name fs (h.0, e)
    by false isnt rest = keeps (bytes_eq f.name name) h.1 rest

-- ---- what an answer leaves

module _ (name bytes : List ℕ) (store : List Plain) (h : HasBytes name bytes store) where
  -- another file gets new bytes
  renews : (other : List ℕ) (new : List ℕ → List ℕ) → (other ≡ name → ⊥) → HasBytes name bytes (with_bytes other new store)
  renews other new apart = record { present = with_present name other new store h.present; are = other_kept other name new store apart ∙ h.are }

  -- a file comes
  comes : (other others : List ℕ) → HasBytes name bytes (with_file other others store)
  comes other others = record {
    present = (h.present.0, pushed_place 0 name store (record { name = other; bytes = others } ∷ []) h.present.0 h.present.1);
    are = there_kept other name others store h.present.0 h.present.1 ∙ h.are;
  }

  -- another file goes
  goes : (victim : List ℕ) → (victim ≡ name → ⊥) → HasBytes name bytes (without_file victim store)
  goes victim apart = record {
    present = subst (λ (ps : List Plain). IsPresent ps name) (sym (without_dropped victim store)) (dropped_place 0 name victim store apart h.present);
    are = taken_kept victim name store apart ∙ h.are;
  }

  module _ (other : List ℕ) (apart : other ≡ name → ⊥) where
    write_stays : (offset : ℕ) (new : List ℕ) (sent : Sent) (answer : Reply) → HasBytes name bytes (wrote other offset new sent answer store)
    write_stays offset new sent reply.Written = renews other (λ old. overlay old offset new) apart
    write_stays offset new (Ranges ranges) (reply.WriteFault call) = renews other (λ old. land old offset new ranges) apart
    write_stays offset new (Tails tails) (reply.WriteFault call) = h
    write_stays offset new (Ranges ranges) (reply.Evicted place) = renews other (λ old. land old offset new ranges) apart
    write_stays offset new (Tails tails) (reply.Evicted place) = h
    write_stays offset new sent answer = h

    cut_stays : (size : ℕ) (sent : Sent) (answer : Reply) → HasBytes name bytes (truncated other size sent answer store)
    cut_stays size sent reply.Truncated = renews other (λ old. fit old size) apart
    cut_stays size (Tails tails) (reply.WriteFault call) = renews other (λ old. wipe old size tails) apart
    cut_stays size (Ranges ranges) (reply.WriteFault call) = h
    cut_stays size (Tails tails) (reply.Evicted place) = renews other (λ old. wipe old size tails) apart
    cut_stays size (Ranges ranges) (reply.Evicted place) = h
    cut_stays size sent answer = h

    taken_stays : (answer : Reply) → HasBytes name bytes (taken_in other answer store)
    taken_stays (reply.Merged ids) = goes other apart
    taken_stays answer = h

  made_stays : (other : List ℕ) (answer : Reply) → HasBytes name bytes (made other answer store)
  made_stays other reply.Created = comes other []
  made_stays other answer = h

  split_stays : (other : List ℕ) (answer : Reply) → HasBytes name bytes (split_off other answer store)
  split_stays other (reply.Split new) = comes new (bytes_of store other)
  split_stays other answer = h

  lfs_stays : (of : LfsCommand) (answer : Reply) → (WritesTo (command.Lfs of) name → ⊥) → HasBytes name bytes (lfs_effect of answer store)
  lfs_stays (lfs.SetStripe other spec) answer apart = made_stays other answer
  lfs_stays (lfs.Create other spec) answer apart = made_stays other answer
  lfs_stays (lfs.Split other mirror to) answer apart = split_stays other answer
  lfs_stays (lfs.ExtendBy other victim) answer apart = taken_stays victim apart answer
  lfs_stays (lfs.GetStripe other) answer apart = h
  lfs_stays (lfs.CompSet other id change) answer apart = h
  lfs_stays (lfs.Extend other spec) answer apart = h
  lfs_stays (lfs.Delete other mirror) answer apart = h
  lfs_stays (lfs.Resync other only) answer apart = h
  lfs_stays (lfs.Verify other) answer apart = h

  -- a command that doesn't write to the file
  pub effect_stays : (asked : Command) (sent : Sent) (answer : Reply) → (WritesTo asked name → ⊥) → HasBytes name bytes (effect asked sent answer store)
  effect_stays (command.Read other offset len) sent answer apart = h
  effect_stays (command.Write other offset new) sent answer apart = write_stays other apart offset new sent answer
  effect_stays (command.Truncate other size) sent answer apart = cut_stays other apart size sent answer
  effect_stays (command.Lfs of) sent answer apart = lfs_stays of answer apart
  effect_stays (command.Evict other) sent answer apart = h
  effect_stays (command.Rot object offset byte) sent answer apart = h
