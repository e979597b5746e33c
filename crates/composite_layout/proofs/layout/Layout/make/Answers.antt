-- A new layout is valid.
use Rattle.std.proofs.Common.{subst, sym, arith}
use Rattle.composite_layout.specs.Layouts.{IsValid}
use Rattle.composite_layout.proofs.New.{few_parts, new_valid, count_new, is_new}
use Rattle.composite_layout.proofs.layout.Layout.make.Goals as goal

pub new_mirrors-requires-clause-counters : goal.new_mirrors-requires-clause-counters
new_mirrors-requires-clause-counters c = let le = few_parts c.args.spec.now c.mirrors.ensures.good in omega (arith, le)

pub overflow_cast-count : goal.overflow_cast-count
overflow_cast-count c =
    let le = few_parts c.args.spec.now c.mirrors.ensures.good in
    let count = count_new c.args.spec.now c.args.targets _ _ c.as_slice.ensures.value c.in_ok-components.ensures.made in
    omega (arith, le, count)

pub overflow_add-result-2 : goal.overflow_add-result-2
overflow_add-result-2 c =
    let le = few_parts c.args.spec.now c.mirrors.ensures.good in
    let count = count_new c.args.spec.now c.args.targets _ _ c.as_slice.ensures.value c.in_ok-components.ensures.made in
    omega (arith, le, count)

pub invariant_of-result : goal.invariant_of-result
invariant_of-result c =
    let new = is_new c.args.spec.now _ c.args.targets _ _ _ c.mirrors.ensures.same c.new_state.ensures c.as_slice.ensures.value c.in_ok-components.ensures.made in
    subst IsValid (sym new) (new_valid c.args.spec.now c.args.targets c.mirrors.ensures.good c.requires.0 c.requires.1)

pub returns : goal.returns
returns c =
    record { made = is_new c.args.spec.now _ c.args.targets _ _ _ c.mirrors.ensures.same c.new_state.ensures c.as_slice.ensures.value c.in_ok-components.ensures.made }
