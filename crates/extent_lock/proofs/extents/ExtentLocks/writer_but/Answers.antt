use Rattle.std.proofs.Common.{ℕ, List, Option, option_map, filter, subst, sym, ◌∙◌, ap}
use Rattle.flr_base.specs.declared.reply.Range.{Range}
use Rattle.extent_lock.specs.declared.lock.Lock.{Lock}
use Rattle.extent_lock.specs.Writers.{is_write_but, IsWriteBut}
use Rattle.extent_lock.specs.Order.{first_of}
use Rattle.extent_lock.specs.Extents.{told_of, TellsFirst}
use Rattle.extent_lock.proofs.LockLaws.{writer_tells}
use Rattle.extent_lock.proofs.extents.ExtentLocks.writer_but.Goals as goal

pub returns-clause-first : goal.returns-clause-first
returns-clause-first c =
    let found = λ (held : List Lock). option_map told_of (first_of (filter (is_write_but c.args.asker c.args.object) held)) in
    let is = c.told.ensures ∙ ap (option_map told_of) c.first_write_but.ensures ∙ ap found (c.as_slice.ensures.value ∙ c.self.view_is) in
    subst (λ (told : Option (ℕ × Range)). TellsFirst told c.args.self.now (IsWriteBut c.args.asker c.args.object)) (sym is) (writer_tells c.args.self.now c.args.asker c.args.object)
