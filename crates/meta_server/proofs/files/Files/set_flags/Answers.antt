-- The flags change at their place.
use Rattle.std.proofs.Common.{◌≡◌, ◌<◌, ◌+◌, None, refl, ap, sym, subst, ◌∙◌}
use Rattle.meta_server.specs.declared.files.Kept.{Kept}
use Rattle.meta_server.specs.Files.{File, file_at, with_layout}
use Rattle.meta_server.specs.Listing.{file_of_entry}
use Rattle.meta_server.specs.Layouts.{flagged}
use Rattle.layout_state.specs.Marking.{flags_refusal}
use Rattle.meta_server.proofs.Placing.{found_at, written}
use Rattle.meta_server.proofs.files.Files.set_flags.Goals as goal

pub invariant_of-self : goal.invariant_of-self
invariant_of-self c = (written c.self.inside.entries.entries c.args.self.now c.args.place c.index_mut.result.now c.set_flags.new.self (with_layout (flagged c.args.id c.args.change (file_at c.args.self.now c.args.place).layout)) c.self.view_is c.self.invariant c.index_mut.ensures.value
    (λ name. ap (λ (f : File). file_of_entry (name, record c.index_mut.result.now { layout = flagged c.args.id c.args.change f.layout })) (found_at c.self.inside.entries.entries c.args.self.now c.args.place c.index_mut.result.now c.self.view_is c.index_mut.ensures.value) ∙ ap (λ (k : Kept). file_of_entry (name, k)) (sym c.set_flags.ensures.kept)) (λ f. refl)).ascending

pub returns-clause-changed : goal.returns-clause-changed
returns-clause-changed c = (written c.self.inside.entries.entries c.args.self.now c.args.place c.index_mut.result.now c.set_flags.new.self (with_layout (flagged c.args.id c.args.change (file_at c.args.self.now c.args.place).layout)) c.self.view_is c.self.invariant c.index_mut.ensures.value
    (λ name. ap (λ (f : File). file_of_entry (name, record c.index_mut.result.now { layout = flagged c.args.id c.args.change f.layout })) (found_at c.self.inside.entries.entries c.args.self.now c.args.place c.index_mut.result.now c.self.view_is c.index_mut.ensures.value) ∙ ap (λ (k : Kept). file_of_entry (name, k)) (sym c.set_flags.ensures.kept)) (λ f. refl)).after

pub returns-clause-below : goal.returns-clause-below
returns-clause-below c = (written c.self.inside.entries.entries c.args.self.now c.args.place c.index_mut.result.now c.set_flags.new.self (with_layout (flagged c.args.id c.args.change (file_at c.args.self.now c.args.place).layout)) c.self.view_is c.self.invariant c.index_mut.ensures.value
    (λ name. ap (λ (f : File). file_of_entry (name, record c.index_mut.result.now { layout = flagged c.args.id c.args.change f.layout })) (found_at c.self.inside.entries.entries c.args.self.now c.args.place c.index_mut.result.now c.self.view_is c.index_mut.ensures.value) ∙ ap (λ (k : Kept). file_of_entry (name, k)) (sym c.set_flags.ensures.kept)) (λ f. refl)).below

pub set_flags-requires-clause-generation : goal.set_flags-requires-clause-generation
set_flags-requires-clause-generation c = subst (λ (f : File). f.layout.generation + 2 < 4294967296) (found_at c.self.inside.entries.entries c.args.self.now c.args.place c.index_mut.result.now c.self.view_is c.index_mut.ensures.value) c.requires.generation

pub set_flags-requires-clause-fresh : goal.set_flags-requires-clause-fresh
set_flags-requires-clause-fresh c = subst (λ (f : File). flags_refusal c.args.id c.args.change f.layout.components ≡ None) (found_at c.self.inside.entries.entries c.args.self.now c.args.place c.index_mut.result.now c.self.view_is c.index_mut.ensures.value) c.requires.fresh
