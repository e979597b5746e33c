-- The file with the number.
use Rattle.std.proofs.Common.{ap, ◌∙◌, nat_eq, option_map}
use Rattle.meta_server.specs.Files.{file_at}
use Rattle.meta_server.proofs.Placing.{number_placed, numbered_at}
use Rattle.meta_server.proofs.files.Files.numbered.Goals as goal

pub returns-clause-found : goal.returns-clause-found
returns-clause-found c =
    ap (option_map (file_at c.args.self.now)) c.first_numbered.ensures.found ∙ numbered_at (λ n. nat_eq n c.args.number) c.self.inside.entries.entries c.args.self.now c.self.view_is

pub returns-clause-number : goal.returns-clause-number
returns-clause-number c = number_placed c.args.number c.args.self.now c.first_numbered.result (ap (option_map (file_at c.args.self.now)) c.first_numbered.ensures.found ∙ numbered_at (λ n. nat_eq n c.args.number) c.self.inside.entries.entries c.args.self.now c.self.view_is)
