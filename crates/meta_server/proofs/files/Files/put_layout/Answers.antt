-- The layout changes at its place.
use Rattle.std.proofs.Common.{List, refl, ap, sym, length, ◌∙◌}
use Rattle.meta_server.specs.declared.files.Kept.{Kept}
use Rattle.meta_server.specs.Files.{File, file_at}
use Rattle.meta_server.specs.Listing.{file_of_entry}
use Rattle.meta_server.specs.Files.{with_layout}
use Rattle.meta_server.proofs.Going.{numbers_at}
use Rattle.meta_server.proofs.Placing.{at_changed, length-changed, written}
use Rattle.meta_server.proofs.files.Files.put_layout.Goals as goal

pub invariant_of-self : goal.invariant_of-self
invariant_of-self c = (written c.self.inside.entries.entries c.args.self.now c.args.place c.index_mut.result.now c.put_layout.new.self (with_layout c.args.layout) c.self.view_is c.self.invariant c.index_mut.ensures.value
    (λ name. ap (λ (k : Kept). file_of_entry (name, k)) (sym (c.put_layout.ensures.kept))) (λ f. refl)).ascending

pub returns-clause-put : goal.returns-clause-put
returns-clause-put c = (written c.self.inside.entries.entries c.args.self.now c.args.place c.index_mut.result.now c.put_layout.new.self (with_layout c.args.layout) c.self.view_is c.self.invariant c.index_mut.ensures.value
    (λ name. ap (λ (k : Kept). file_of_entry (name, k)) (sym (c.put_layout.ensures.kept))) (λ f. refl)).after

pub returns-clause-there : goal.returns-clause-there
returns-clause-there c = ap (λ (fs : List File). file_at fs c.args.place) ((written c.self.inside.entries.entries c.args.self.now c.args.place c.index_mut.result.now c.put_layout.new.self (with_layout c.args.layout) c.self.view_is c.self.invariant c.index_mut.ensures.value
    (λ name. ap (λ (k : Kept). file_of_entry (name, k)) (sym (c.put_layout.ensures.kept))) (λ f. refl)).after) ∙ at_changed (with_layout c.args.layout) c.args.self.now c.args.place c.requires

pub returns-clause-below : goal.returns-clause-below
returns-clause-below c = (written c.self.inside.entries.entries c.args.self.now c.args.place c.index_mut.result.now c.put_layout.new.self (with_layout c.args.layout) c.self.view_is c.self.invariant c.index_mut.ensures.value
    (λ name. ap (λ (k : Kept). file_of_entry (name, k)) (sym (c.put_layout.ensures.kept))) (λ f. refl)).below

pub returns-clause-count : goal.returns-clause-count
returns-clause-count c = ap length ((written c.self.inside.entries.entries c.args.self.now c.args.place c.index_mut.result.now c.put_layout.new.self (with_layout c.args.layout) c.self.view_is c.self.invariant c.index_mut.ensures.value
    (λ name. ap (λ (k : Kept). file_of_entry (name, k)) (sym (c.put_layout.ensures.kept))) (λ f. refl)).after) ∙ length-changed (file_at c.args.self.now c.args.place).number (with_layout c.args.layout) c.args.self.now

pub returns-clause-numbers : goal.returns-clause-numbers
returns-clause-numbers c = λ i. ap (λ (fs : List File). (file_at fs i).number) ((written c.self.inside.entries.entries c.args.self.now c.args.place c.index_mut.result.now c.put_layout.new.self (with_layout c.args.layout) c.self.view_is c.self.invariant c.index_mut.ensures.value
    (λ name. ap (λ (k : Kept). file_of_entry (name, k)) (sym (c.put_layout.ensures.kept))) (λ f. refl)).after) ∙ numbers_at (file_at c.args.self.now c.args.place).number (with_layout c.args.layout) c.args.self.now (λ f. refl) i
