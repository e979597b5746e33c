use Rattle.std.proofs.Common.{◌≡◌, replicate, rules}
use Rattle.object_pages.proofs.BytesLaws.{get_or-zeros}
use Rattle.object_pages.proofs.pages.zero_page.Goals as goal

pub returns-clause-zeros : goal.returns-clause-zeros
returns-clause-zeros c =
    let zeros : c.in_ok-page.page.items ≡ replicate 4096 0 = search rules in get_or-zeros 4096 c.in_ok-page.page.items zeros
