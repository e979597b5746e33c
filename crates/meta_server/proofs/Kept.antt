-- What the code keeps true of the metadata server, after each change.
use Rattle.std.proofs.Common.{◌≡◌, ℕ, List, [], ◌∷◌, None, length, refl, ap, sym, ◌∙◌}
use Rattle.std.proofs.Common.{length-set}
use Rattle.flr_base.specs.declared.reply.Range.{Range}
use Rattle.composite_layout.specs.Layouts.{Composite}
use Rattle.layout_state.specs.Choosing.{is_over}
use Rattle.layout_state.specs.Making.{new_targets, next_after, nexts_after}
use Rattle.layout_state.specs.Marking.{IsBegin, IsIntent, is_named}
use Rattle.meta_server.specs.Files.{File, MetaView, AreBelow, file_of, with_change}
use Rattle.meta_server.specs.Keeping.{IsKept}
use Rattle.meta_server.specs.Layouts.{nexts_over}
use Rattle.meta_server.proofs.Leasing.{nexts_none}
use Rattle.meta_server.proofs.Placing.{changed_absent}

-- other files, with numbers below the next one
pub kept_files : {files : List File} {next : ℕ} {nexts : List ℕ} {targets most : ℕ} {evicted : List ℕ} → IsKept files next nexts targets most evicted → (new : List File) → AreBelow next new → IsKept new next nexts targets most evicted
kept_files h new below = record {
  below = below;
  numbers = h.numbers;
  some_targets = h.some_targets;
  few_targets = h.few_targets;
  some_mirrors = h.some_mirrors;
  few_mirrors = h.few_mirrors;
  clients = h.clients;
}

-- other object numbers, one for each target as before
pub kept_numbers : {files : List File} {next : ℕ} {nexts : List ℕ} {targets most : ℕ} {evicted : List ℕ} → IsKept files next nexts targets most evicted → (new : List ℕ) → length new ≡ length nexts → IsKept files next new targets most evicted
kept_numbers h new same = record {
  below = h.below;
  numbers = same ∙ h.numbers;
  some_targets = h.some_targets;
  few_targets = h.few_targets;
  some_mirrors = h.some_mirrors;
  few_mirrors = h.few_mirrors;
  clients = h.clients;
}

-- other evictions, one for each client as before
pub kept_evictions : {files : List File} {next : ℕ} {nexts : List ℕ} {targets most : ℕ} {evicted : List ℕ} → IsKept files next nexts targets most evicted → (new : List ℕ) → length new ≡ length evicted → IsKept files next nexts targets most new
kept_evictions h new same = record {
  below = h.below;
  numbers = h.numbers;
  some_targets = h.some_targets;
  few_targets = h.few_targets;
  some_mirrors = h.some_mirrors;
  few_mirrors = h.few_mirrors;
  clients = same ∙ h.clients;
}

-- another next number of files, and files below it
pub kept_next : {files : List File} {next : ℕ} {nexts : List ℕ} {targets most : ℕ} {evicted : List ℕ} → IsKept files next nexts targets most evicted → (new : List File) (later : ℕ) → AreBelow later new → IsKept new later nexts targets most evicted
kept_next h new later below = record {
  below = below;
  numbers = h.numbers;
  some_targets = h.some_targets;
  few_targets = h.few_targets;
  some_mirrors = h.some_mirrors;
  few_mirrors = h.few_mirrors;
  clients = h.clients;
}

-- the targets stay as many
pub length-nexts_after : (nexts ts : List ℕ) → length (nexts_after nexts ts) ≡ length nexts
length-nexts_after nexts [] = refl
length-nexts_after nexts (t ∷ ts) = length-nexts_after (next_after nexts t) ts ∙ length-set nexts t _

-- so they do after an intent and a begin
pub intent_numbers : {range : Range} {mirror file : ℕ} {nexts : List ℕ} {old new : Composite} {after : List ℕ} → IsIntent range mirror file nexts old new after → length after ≡ length nexts
intent_numbers {range = range} {mirror = mirror} {file = file} {nexts = nexts} {old = old} h = ap (λ (ns : List ℕ). length ns) h.past ∙ length-nexts_after nexts (new_targets (is_over range mirror) (length nexts) file old.components)

pub begin_numbers : {ids : List ℕ} {file : ℕ} {nexts : List ℕ} {old new : Composite} {after : List ℕ} → IsBegin ids file nexts old new after → length after ≡ length nexts
begin_numbers {ids = ids} {file = file} {nexts = nexts} {old = old} h = ap (λ (ns : List ℕ). length ns) h.past ∙ length-nexts_after nexts (new_targets (is_named ids) (length nexts) file old.components)

-- a copy to no component makes no object
pub begin_none : {ids : List ℕ} {file : ℕ} {nexts : List ℕ} {old new : Composite} {after : List ℕ} → IsBegin ids file nexts old new after → ids ≡ [] → after ≡ nexts
begin_none {file = file} {nexts = nexts} {old = old} h none =
    h.past ∙ ap (λ (is : List ℕ). nexts_over (is_named is) file nexts old) none ∙ nexts_none file nexts old

-- where no file has the number nothing changes
pub change_absent : (number : ℕ) (change : File → File) (m : MetaView) → file_of number m.files ≡ None → m ≡ with_change number change m
change_absent number change m none = ap (λ (fs : List File). record m { files = fs }) (sym (changed_absent number change m.files none))
