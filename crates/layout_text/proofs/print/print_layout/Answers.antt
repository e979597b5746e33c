use Rattle.std.proofs.Common.{◌≡◌, ℕ, List, [], ◌∷◌, ◌++◌, ap, sym, subst, ◌∙◌}
use Rattle.std.specs.List.{flat_map, AllPass}
use Rattle.std.proofs.lemmas.List.Folds.{flat_map-map}
use Rattle.composite_layout.specs.declared.component.Component.{Component}
use Rattle.text_words.specs.Lines.{lines_of}
use Rattle.layout_text.specs.Texts.{is_textual, component_line, text_of_layout}
use Rattle.layout_text.specs.Appending.{head_text, component_text}
use Rattle.layout_text.proofs.WordLaws.{lines_of-layout, layout_textual}
use Rattle.layout_text.proofs.print.print_layout.Goals as goal

exactly : (c : goal.After-from_vec) → c.from_vec.result ≡ text_of_layout c.args.layout.now
unfolding head_text component_text
exactly c =
    let l = c.args.layout.now in
    let components = ap (λ (cs : List Component). flat_map component_text cs) c.components.ensures.same ∙ sym (flat_map-map (λ line. line ++ 10 ∷ []) component_line l.components) in
    c.from_vec.ensures.same ∙ c.in_ok-put_components.ensures ∙ ap (λ t. t ++ flat_map component_text c.components.result.now) (c.in_ok-put_head.ensures ∙ ap (λ t. t ++ head_text l) c.new-out.ensures.items)
    ∙ ap (λ t. head_text l ++ t) components

pub returns : goal.returns
returns c =
    let l = c.args.layout.now in
    record {
      exact = exactly c;
      lines = ap (λ (text : List ℕ). lines_of text) (exactly c) ∙ lines_of-layout l;
      bytes = subst (λ (text : List ℕ). AllPass is_textual text) (sym (exactly c)) (layout_textual l);
    }
