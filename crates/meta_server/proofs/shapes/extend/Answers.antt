-- The layout is what its fields say, and the new ids fit.
use Rattle.std.proofs.Common.{◌+◌, ◌≤◌, ℕ, zero, suc, List, subst, sym, length, arith}
use Rattle.composite_layout.specs.Layouts.{IsValid}
use Rattle.std.specs.List.{AllByRecursion, range_with_len}
use Rattle.meta_server.proofs.Added.{none_absent}
use Rattle.meta_server.proofs.Fields.{extended_is, unleased_next}
use Rattle.meta_server.proofs.shapes.extend.Goals as goal

pub returns-in-Ok-clause-extended : goal.returns-in-Ok-clause-extended
returns-in-Ok-clause-extended c = extended_is c.args.layout.now c.in-Ok.ensures.added

small : (n first : ℕ) → first + n ≤ 65536 → AllByRecursion (λ id. id ≤ 65535) (range_with_len first n)
small zero first h = tt
small (suc n) first h = (omega arith, small n (first + 1) (omega arith))

pub returns-in-Ok-clause-small : goal.returns-in-Ok-clause-small
returns-in-Ok-clause-small c =
    let valid : IsValid c.add_mirrors.new.layout = c.components-valid.ensures.valid in
    let next = c.in-Ok.ensures.added.next_mirror in
    let fits : c.args.layout.now.next_mirror + length c.args.spec.now ≤ 65536 = omega (arith, valid.below, valid.few, next, unleased_next c.args.layout.now) in
    subst (λ (ids : List ℕ). AllByRecursion (λ id. id ≤ 65535) ids) (sym c.in-Ok.ensures.ids) (small (length c.args.spec.now) c.args.layout.now.next_mirror fits)

pub returns-in-Ok-clause-there : goal.returns-in-Ok-clause-there
returns-in-Ok-clause-there c = none_absent c.args.layout.now c.mirrors-good.ensures.good c.in-Ok.ensures.added c.in-Ok.ensures.ids
