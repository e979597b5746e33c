use Rattle.std.proofs.Common.{length, ◌∙◌, sym, ap}
use Rattle.object_pages.proofs.PagesLaws.{length-bytes_of}
use Rattle.object_pages.proofs.content.Content.len.Goals as goal

pub returns : goal.returns
returns c = record { count = sym (length-bytes_of c.self.inside.pages c.self.inside.len) ∙ ap length c.self.view_is }
