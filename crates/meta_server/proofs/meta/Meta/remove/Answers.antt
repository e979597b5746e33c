-- The file is the one that has the name.
use Rattle.std.proofs.Common.{◌≡◌, Option, Some, subst}
use Rattle.std.specs.Option.{option_copied}
use Rattle.meta_server.specs.Files.{File, MetaView, file_at, file_named}
use Rattle.meta_server.specs.Naming.{removes_file}
use Rattle.meta_server.specs.Outcomes.{Meets}
use Rattle.meta_server.proofs.meta.Meta.remove.Goals as goal

pub returns-in-Some : goal.returns-in-Some
returns-in-Some c =
    let found : Some (file_at c.args.self.now.files c.in-Some.place) ≡ file_named c.args.name.now c.args.self.now.files =
    subst (λ (m : MetaView). Some (file_at m.files c.in-Some.place) ≡ file_named c.args.name.now m.files) c.self.view_is c.in-Some.ensures.found in
    record { removed = subst (λ (o : Option File). Meets (removes_file c.args.client c.args.mirror c.args.step c.args.self.now c.args.name.now (option_copied c.args.to) o) c.args.self.now c.remove_from.result c.remove_from.new.self) found c.remove_from.ensures.removed }
