use Rattle.std.proofs.Common.{◌≡◌, ◌↔◌, ℕ, Option, None, option_map, subst, sym, ◌∙◌, ap}
use Rattle.flr_base.specs.declared.reply.Range.{Range}
use Rattle.extent_lock.specs.Conflicts.{Conflict, ConflictsWithNone}
use Rattle.extent_lock.specs.Extents.{told_of, TellsFirst}
use Rattle.extent_lock.proofs.LockLaws.{blocker_tells, blocker_none}
use Rattle.extent_lock.proofs.extents.blocker.Goals as goal

pub returns-clause-free : goal.returns-clause-free
returns-clause-free c =
    subst (λ (told : Option (ℕ × Range)). (told ≡ None) ↔ ConflictsWithNone c.args.held.now c.args.asked) (sym (c.told.ensures ∙ ap (option_map told_of) c.first_conflict.ensures)) (blocker_none c.args.held.now c.args.asked)

pub returns-clause-first : goal.returns-clause-first
returns-clause-first c =
    subst (λ (told : Option (ℕ × Range)). TellsFirst told c.args.held.now (Conflict c.args.asked)) (sym (c.told.ensures ∙ ap (option_map told_of) c.first_conflict.ensures)) (blocker_tells c.args.held.now c.args.asked)
