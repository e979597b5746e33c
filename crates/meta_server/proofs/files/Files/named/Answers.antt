-- The file with the key that is the name.
use Rattle.std.proofs.Common.{ap, ◌∙◌, option_map}
use Rattle.meta_server.specs.Files.{file_at, same_name}
use Rattle.meta_server.proofs.Going.{name_placed}
use Rattle.meta_server.proofs.Placing.{named_at}
use Rattle.meta_server.proofs.files.Files.named.Goals as goal

pub returns-clause-found : goal.returns-clause-found
returns-clause-found c =
    ap (option_map (file_at c.args.self.now)) c.get_index_of.ensures.index ∙ named_at (same_name c.args.name.now) c.self.inside.entries.entries c.args.self.now c.self.view_is

pub returns-clause-name : goal.returns-clause-name
returns-clause-name c =
    name_placed c.args.name.now c.args.self.now c.get_index_of.result
    (ap (option_map (file_at c.args.self.now)) c.get_index_of.ensures.index ∙ named_at (same_name c.args.name.now) c.self.inside.entries.entries c.args.self.now c.self.view_is)
