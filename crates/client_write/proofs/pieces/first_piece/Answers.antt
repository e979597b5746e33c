-- The component that has the first byte has the first piece.
use Rattle.std.proofs.Common.{◌≡◌, ◌<◌, ◌∷◌, List, Some, None, option_copied, sym, ap, subst, ◌∙◌, arith}
use Rattle.composite_layout.specs.declared.component.Component.{Component}
use Rattle.composite_layout.specs.LookUps.{covers}
use Rattle.mirror_select.specs.declared.types.Piece.{Piece}
use Rattle.mirror_select.specs.Pieces.{component_of, pieces_by}
use Rattle.mirror_select.proofs.Least.{found_in}
use Rattle.mirror_select.proofs.Sound.{are_good, striped}
use Rattle.client_write.proofs.PieceWalk.{first, further, has_each}
use Rattle.client_write.proofs.pieces.first_piece.Goals as goal

pub piece_in-requires-clause-striped : goal.piece_in-requires-clause-striped
piece_in-requires-clause-striped c =
    let l = c.args.layout.now in
    let x = c.in-Some.component.now in
    let here = subst (λ (cs : List Component). component_of cs (Some c.args.mirror) c.args.start ≡ Some x) c.components.ensures.same (sym c.component_of.ensures ∙ ap option_copied c.in-Some.is) in
    striped x ((are_good l c.components.ensures.valid).each x (found_in (covers c.args.mirror c.args.start) l.components x here).0)

pub unreachable-requires : goal.unreachable-requires
unreachable-requires c =
    let l = c.args.layout.now in
    let none = subst (λ (cs : List Component). component_of cs (Some c.args.mirror) c.args.start ≡ None) c.components.ensures.same (sym c.component_of.ensures ∙ ap option_copied c.in-None.is) in
    let has = has_each l c.args.range c.args.mirror c.args.start c.components.ensures.valid c.requires.ready c.requires.mirror c.requires.from c.requires.some (omega (arith, c.requires.some, c.requires.below)) in
    absurd (let k = sym has.1 ∙ none in cc)

pub returns-clause-first : goal.returns-clause-first
returns-clause-first c =
    let l = c.args.layout.now in
    let x = c.in-Some.component.now in
    let here = subst (λ (cs : List Component). component_of cs (Some c.args.mirror) c.args.start ≡ Some x) c.components.ensures.same (sym c.component_of.ensures ∙ ap option_copied c.in-Some.is) in
    subst (λ (p : Piece). pieces_by (component_of l.components (Some c.args.mirror)) c.args.start c.args.range.end ≡ p ∷ pieces_by (component_of l.components (Some c.args.mirror)) p.range.end c.args.range.end)
    (sym c.piece_in.ensures) (first l.components (are_good l c.components.ensures.valid) c.args.mirror x c.args.start c.args.range.end here c.requires.some)

pub returns-clause-further : goal.returns-clause-further
returns-clause-further c =
    let l = c.args.layout.now in
    let x = c.in-Some.component.now in
    let here = subst (λ (cs : List Component). component_of cs (Some c.args.mirror) c.args.start ≡ Some x) c.components.ensures.same (sym c.component_of.ensures ∙ ap option_copied c.in-Some.is) in
    subst (λ (p : Piece). c.args.start < p.range.end) (sym c.piece_in.ensures) (further l.components (are_good l c.components.ensures.valid) c.args.mirror x c.args.start c.args.range.end here c.requires.some)
