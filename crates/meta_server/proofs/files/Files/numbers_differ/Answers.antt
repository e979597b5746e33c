-- Numbers ascend.
use Rattle.std.proofs.Common.{subst}
use Rattle.meta_server.specs.Files.{AreAscending}
use Rattle.meta_server.proofs.Going.{one_place}
use Rattle.meta_server.proofs.files.Files.numbers_differ.Goals as goal

pub returns : goal.returns
returns c = one_place c.args.self.now (subst AreAscending c.self.view_is c.self.invariant)
