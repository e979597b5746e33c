-- The file at its place goes.
use Rattle.meta_server.proofs.Going.{gone}
use Rattle.meta_server.proofs.files.Files.remove.Goals as goal

pub invariant_of-self : goal.invariant_of-self
invariant_of-self c = (gone c.self.inside.entries.entries c.args.self.now c.args.place c.shift_remove_index.new.self.entries c.self.view_is c.self.invariant c.requires c.shift_remove_index.ensures.entries).ascending

pub returns-clause-removed : goal.returns-clause-removed
returns-clause-removed c = (gone c.self.inside.entries.entries c.args.self.now c.args.place c.shift_remove_index.new.self.entries c.self.view_is c.self.invariant c.requires c.shift_remove_index.ensures.entries).after

pub returns-clause-below : goal.returns-clause-below
returns-clause-below c = (gone c.self.inside.entries.entries c.args.self.now c.args.place c.shift_remove_index.new.self.entries c.self.view_is c.self.invariant c.requires c.shift_remove_index.ensures.entries).below
