use Rattle.std.proofs.Common.{◌+◌, ◌/◌, ◌%◌, ◌<◌, ◌≤◌, take, sym, ap, ◌∙◌, arith}
use Rattle.object_pages.proofs.PagesLaws.{byte-cut_before, cut-bytes_of, take-bytes_of}
use Rattle.object_pages.proofs.content.Content.cut.Goals as goal
use Rattle.object_pages.proofs.content.Content.cut.Goals.{then-start-eq0, else-start-eq0}

pub returns-after-start-eq0 : goal.returns-after-start-eq0
returns-after-start-eq0 c =
    let old = c.self.inside.pages in
    let first = c.if-start-eq0.drop_pages in
    let n = c.args.len in
    let low : c.args.len / 4096 ≤ c.if-start-eq0.drop_pages = elim c.if-start-eq0.branch [ then-start-eq0 w ↦ omega arith | else-start-eq0 w ↦ omega arith ] in
    let high : c.if-start-eq0.drop_pages ≤ c.args.len / 4096 + 1 = elim c.if-start-eq0.branch [ then-start-eq0 w ↦ omega arith | else-start-eq0 w ↦ omega arith ] in
    let inner : 0 < c.args.len % 4096 → c.args.len / 4096 < c.if-start-eq0.drop_pages = elim c.if-start-eq0.branch [ then-start-eq0 w ↦ λ positive. omega arith | else-start-eq0 w ↦ λ positive. omega arith ] in
    record {
      cut = cut-bytes_of old c.wipe_page.new.pages c.self.inside.len n (omega arith)
          (byte-cut_before old c.drop_pages.new.pages c.wipe_page.new.pages n first low high inner c.drop_pages.ensures.front c.drop_pages.ensures.rest c.wipe_page.ensures.others c.wipe_page.ensures.bytes)
          ∙ ap (take n) c.self.view_is;
    }

pub returns-else-len-self : goal.returns-else-len-self
returns-else-len-self c = record {
  cut = sym c.self.view_is ∙ take-bytes_of c.self.inside.pages c.self.inside.len c.args.len (omega arith) ∙ ap (take c.args.len) c.self.view_is;
}
