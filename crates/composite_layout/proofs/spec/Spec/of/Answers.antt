-- What isn't refused is good.
use Rattle.std.proofs.Common.{◌≡◌, List, None, Some, map, ap, sym, ◌∙◌}
use Rattle.composite_layout.specs.declared.spec.MirrorSpec.{MirrorSpec}
use Rattle.composite_layout.specs.Specs.{normal_mirror, refusal_of}
use Rattle.composite_layout.proofs.Good.{called_for, good}
use Rattle.composite_layout.proofs.spec.Spec.of.Goals as goal

pub invariant_of-result : goal.invariant_of-result
invariant_of-result c =
    let none : refusal_of c.args.mirrors c.args.most ≡ None = ap (λ (ms : List MirrorSpec). refusal_of ms c.args.most) (sym c.as_slice-asked.ensures.same) ∙ sym c.in-None.ensures in
    rw (c.in_ok-mirrors-in-None.ensures.normal ∙ ap (λ (ms : List MirrorSpec). map normal_mirror ms) c.as_slice-asked.ensures.same) (good c.args.mirrors c.args.most c.requires.most.1 c.requires.asked none)

pub returns-in-Some-clause-refused : goal.returns-in-Some-clause-refused
returns-in-Some-clause-refused c =
    let some : refusal_of c.args.mirrors c.args.most ≡ Some c.in-Some.refusal = ap (λ (ms : List MirrorSpec). refusal_of ms c.args.most) (sym c.as_slice-asked.ensures.same) ∙ sym c.in-Some.ensures in
    called_for c.args.mirrors c.args.most c.in-Some.refusal some
