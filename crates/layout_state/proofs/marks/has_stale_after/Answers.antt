-- A mirror has a stale component after the change where one is stale after it.
use Rattle.std.proofs.Common.{◌≡◌, ◌&&◌, ◌∙◌, eqb, sym, rules, tests}
use Rattle.std.proofs.lemmas.Iterator.{YieldsList-from_slice}
use Rattle.std.proofs.lemmas.Iterator.Search.{any_from_yields_List}
use Rattle.std.specs.List.{list_any}
use Rattle.composite_layout.specs.declared.component.Component.{Component}
use Rattle.layout_state.specs.Marking.{changed_if_named}
use Rattle.layout_state.proofs.MarkLaws.{flags_frame, has_stale_map}
use Rattle.layout_state.proofs.marks.has_stale_after.Goals as goal

pub returns : goal.returns
returns c =
    let any : c.any.result ≡ list_any (λ (x : Component). eqb x.mirror c.args.mirror && (changed_if_named c.args.id c.args.change x).flags.stale) c.args.components.now =
    any_from_yields_List (λ (x : Component). eqb x.mirror c.args.mirror && (changed_if_named c.args.id c.args.change x).flags.stale) _ _ c.any.result c.any.ensures.ran (YieldsList-from_slice c.args.components.now cc) (λ x b q k. search (rules, tests)) in
    any ∙ sym (has_stale_map c.args.mirror (changed_if_named c.args.id c.args.change) (flags_frame c.args.id c.args.change) c.args.components.now)
