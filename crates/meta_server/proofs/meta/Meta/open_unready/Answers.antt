-- The numbers stay when a range is readied.
use Rattle.std.proofs.Common.{◌≡◌, ℕ, List, length, true, ap, sym, subst, ◌∙◌}
use Rattle.composite_layout.specs.Choices.{is_ready}
use Rattle.composite_layout.specs.Layouts.{Composite, IsValid}
use Rattle.meta_server.proofs.Kept.{intent_numbers, kept_files, kept_numbers}
use Rattle.meta_server.proofs.meta.Meta.open_unready.Goals as goal

pub invariant_of-self : goal.invariant_of-self
invariant_of-self c =
    let put = c.put_layout.ensures.below c.self.inside.next_file c.self.invariant.below in
    let files = kept_files c.self.invariant c.share.new.self (c.share.ensures.below c.self.inside.next_file put) in
    let as_many : length c.intent.new.maker ≡ length c.self.inside.maker = intent_numbers c.in-Ok.ensures.intended ∙ ap (λ (ns : List ℕ). length ns) c.in_ok-maker.ensures.same in
    kept_numbers files c.intent.new.maker as_many

pub returns-clause-ready : goal.returns-clause-ready
returns-clause-ready c =
    let valid : IsValid c.in_ok-layout.layout = subst IsValid c.layout-2.view_is c.layout-2.invariant in
    let after : is_ready c.intent.new.layout c.args.range ≡ true =
    c.intent_readies.ensures.ready c.args.range c.in-Ok.field-0 c.number-file.result c.in_ok-maker.maker c.in_ok-layout.layout c.intent.new.layout c.intent.new.maker valid c.in-Ok.ensures.primary c.in-Ok.ensures.intended in
    subst (λ (l : Composite). is_ready l c.args.range ≡ true) (sym c.in_ok-opened.ensures.same) after
