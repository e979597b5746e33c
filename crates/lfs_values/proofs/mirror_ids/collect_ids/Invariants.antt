use Rattle.std.proofs.Common.{◌≡◌, ℕ, [], eqb, map}
use Rattle.std.specs.List.{list_any}
use Rattle.std.specs.HashSet.{contains}
use Rattle.flr_base.proofs.Reader.{SoFar}
use Rattle.text_words.specs.Numbers.{number_from}
use Rattle.lfs_values.specs.DistinctItems.{with_item}
use Rattle.lfs_values.specs.declared.cause.Fault.TheVariants as faults
use Rattle.lfs_values.proofs.mirror_ids.collect_ids.Given as goal

abbrev pub invariant-loop-word : goal.invariant-loop-word
invariant-loop-word l = record {
  so_far : SoFar (with_item eqb faults.BadNumber (number_from 1 65535)) [] (map (λ w. w.now) l.words) l.word-index l.ids;
  among : (q : ℕ) → contains eqb l.seen q ≡ list_any (eqb q) l.ids;
}
