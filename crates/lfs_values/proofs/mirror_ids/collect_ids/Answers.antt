use Rattle.std.proofs.Common.{ℕ, List, [], Some, eqb, sym, ap, ◌∙◌, arith}
use denote.Ref.{Bor}
use Rattle.std.proofs.lemmas.Grind.{common_steps}
use Rattle.std.proofs.lemmas.List.Folds.{list_any-append}
use Rattle.text_words.specs.Numbers.{number_from}
use Rattle.lfs_values.specs.declared.cause.Fault.TheVariants as faults
use Rattle.lfs_values.proofs.ItemLaws.{item_none, item_twice, item_more, was_there, was_new}
use Rattle.lfs_values.proofs.mirror_ids.collect_ids.Goals as goal

abbrev nothing : Bor (List ℕ)
nothing = record { ref_ptr = (0, 0); now = [] }

pub returns-in_default : goal.returns-in_default
returns-in_default c = item_none eqb faults.BadNumber (number_from 1 65535) c.args.words.now c.loop-word.word-index nothing c.loop-word.ids c.loop-word.invariant.so_far (omega arith) (sym c.mirror_id.ensures.value ∙ c.in_default.is)

pub returns-then-not-branch : goal.returns-then-not-branch
returns-then-not-branch c =
    let found = sym c.in-Some.ensures.value ∙ ap (λ (n : ℕ). Some n) (sym c.from-id.ensures) in
    let stands = sym (c.loop-word.invariant.among c.from-id.result) ∙ was_there _ _ c.in_ok-insert.ensures.added c.if-not-branch.true in
    item_twice eqb faults.BadNumber (number_from 1 65535) c.args.words.now c.loop-word.word-index nothing c.loop-word.ids c.from-id.result c.loop-word.invariant.so_far (omega arith) found stands

pub loop-word-preserved : goal.loop-word-preserved
loop-word-preserved c =
    let found = sym c.in-Some.ensures.value ∙ ap (λ (n : ℕ). Some n) (sym c.from-id.ensures) in
    let is_new = sym (c.loop-word.invariant.among c.from-id.result) ∙ was_new _ _ c.in_ok-insert.ensures.added c.if-not-branch.false in
    record {
      so_far = rw c.in_ok-push.ensures.appended (item_more eqb faults.BadNumber (number_from 1 65535) c.args.words.now c.loop-word.word-index nothing c.loop-word.ids c.from-id.result c.loop-word.invariant.so_far (omega arith) found is_new);
      among = λ q. grind (arith, common_steps, list_any-append, c.loop-word.invariant.among q);
    }
