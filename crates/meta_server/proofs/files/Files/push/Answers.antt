-- The new file comes last.
use Rattle.std.proofs.Common.{sym, subst}
use Rattle.meta_server.specs.Files.{AreBelow}
use Rattle.meta_server.specs.Listing.{file_of_entry}
use Rattle.meta_server.proofs.Placing.{below_push, pushed}
use Rattle.meta_server.proofs.files.Files.push.Goals as goal

pub invariant_of-self : goal.invariant_of-self
invariant_of-self c = (pushed c.self.inside.entries.entries c.args.self.now c.args.name c.args.file c.insert.new.self.entries c.self.view_is c.self.invariant c.requires.absent c.requires.below c.in-Ok.ensures.entries).ascending

pub returns-in-Ok-clause-pushed : goal.returns-in-Ok-clause-pushed
returns-in-Ok-clause-pushed c = (pushed c.self.inside.entries.entries c.args.self.now c.args.name c.args.file c.insert.new.self.entries c.self.view_is c.self.invariant c.requires.absent c.requires.below c.in-Ok.ensures.entries).after

pub returns-in-Ok-clause-below : goal.returns-in-Ok-clause-below
returns-in-Ok-clause-below c =
    let is = (pushed c.self.inside.entries.entries c.args.self.now c.args.name c.args.file c.insert.new.self.entries c.self.view_is c.self.invariant c.requires.absent c.requires.below c.in-Ok.ensures.entries).after in
    λ next h. subst (AreBelow next) (sym is) (below_push next c.args.self.now (file_of_entry (c.args.name, c.args.file)) c.requires.below h)
