-- The size rises at its place.
use Rattle.std.proofs.Common.{refl, ap, sym}
use Rattle.meta_server.specs.declared.files.Kept.{Kept}
use Rattle.meta_server.specs.Listing.{file_of_entry}
use Rattle.meta_server.specs.Closing.{grown}
use Rattle.meta_server.proofs.Placing.{written}
use Rattle.meta_server.proofs.files.Files.grow.Goals as goal

pub invariant_of-self : goal.invariant_of-self
invariant_of-self c = (written c.self.inside.entries.entries c.args.self.now c.args.place c.index_mut.result.now c.grow.new.self (grown c.args.cookie c.args.end) c.self.view_is c.self.invariant c.index_mut.ensures.value
    (λ name. ap (λ (k : Kept). file_of_entry (name, k)) (sym (c.grow.ensures.kept))) (λ f. refl)).ascending

pub returns-clause-changed : goal.returns-clause-changed
returns-clause-changed c = (written c.self.inside.entries.entries c.args.self.now c.args.place c.index_mut.result.now c.grow.new.self (grown c.args.cookie c.args.end) c.self.view_is c.self.invariant c.index_mut.ensures.value
    (λ name. ap (λ (k : Kept). file_of_entry (name, k)) (sym (c.grow.ensures.kept))) (λ f. refl)).after

pub returns-clause-below : goal.returns-clause-below
returns-clause-below c = (written c.self.inside.entries.entries c.args.self.now c.args.place c.index_mut.result.now c.grow.new.self (grown c.args.cookie c.args.end) c.self.view_is c.self.invariant c.index_mut.ensures.value
    (λ name. ap (λ (k : Kept). file_of_entry (name, k)) (sym (c.grow.ensures.kept))) (λ f. refl)).below
