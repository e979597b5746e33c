-- The pieces are those of a read, and each byte has a candidate.
use Rattle.std.proofs.Common.{ap, subst, sym, ◌∙◌, arith, List, []}
use Rattle.composite_layout.specs.declared.component.Component.{Component}
use Rattle.mirror_select.specs.Pieces.{Lacks, pieces_of}
use Rattle.mirror_select.proofs.Sound.{are_good}
use Rattle.mirror_select.proofs.Writable.{write_pieces_read, write_refused}
use Rattle.mirror_select.proofs.writing.write_pieces.Goals as goal

pub returns-in-Ok : goal.returns-in-Ok
returns-in-Ok c =
    let l = c.args.layout.now in
    let same = ap (λ (cs : List Component). pieces_of cs c.args.range []) c.components.ensures.same in
    record { pieces = c.in-Ok.ensures.pieces ∙ same ∙ write_pieces_read l c.args.range (are_good l c.components.ensures.valid) c.requires.ready (omega (arith, c.requires.below)) }

pub unreachable-requires : goal.unreachable-requires
unreachable-requires c =
    let l = c.args.layout.now in
    let lacks = subst (λ (cs : List Component). Lacks cs c.args.range [] c.in-Err-AllOffline.field-0) c.components.ensures.same c.in-Err-AllOffline.ensures.refused in
    let memory = write_refused l c.args.range c.in-Err-AllOffline.field-0 (are_good l c.components.ensures.valid) c.requires.ready (omega (arith, c.requires.below)) lacks in
    let other = c.in-Err-AllOffline.field-0-is in
    absurd (let k = sym memory ∙ other in cc)

pub unreachable-requires-in-Err-AllFailed : goal.unreachable-requires-in-Err-AllFailed
unreachable-requires-in-Err-AllFailed c =
    let l = c.args.layout.now in
    let lacks = subst (λ (cs : List Component). Lacks cs c.args.range [] c.in-Err-AllFailed.field-0) c.components.ensures.same c.in-Err-AllFailed.ensures.refused in
    let memory = write_refused l c.args.range c.in-Err-AllFailed.field-0 (are_good l c.components.ensures.valid) c.requires.ready (omega (arith, c.requires.below)) lacks in
    let other = c.in-Err-AllFailed.field-0-is in
    absurd (let k = sym memory ∙ other in cc)
