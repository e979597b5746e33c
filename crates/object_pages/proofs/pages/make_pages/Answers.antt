use Rattle.std.proofs.Common.{◌+◌, ◌/◌, ◌%◌, ◌∙◌, arith}
use Rattle.object_pages.proofs.PagesLaws.{room_more}
use Rattle.object_pages.proofs.pages.make_pages.Goals as goal

pub loop-done-preserved : goal.loop-done-preserved
loop-done-preserved c =
    record {
      in_range = omega arith;
      full = c.make_page.ensures.full;
      same = λ x. c.make_page.ensures.same (x / 4096) (x % 4096) ∙ c.loop-done.invariant.same x;
      room = room_more c.loop-done.pages c.make_page.new.pages c.args.offset c.args.bytes.now c.loop-done.done (c.loop-done.done + c.share-count.result) (omega arith) (omega arith) (omega arith) c.loop-done.invariant.room c.make_page.ensures.kept c.in_ok-make_page.ensures.room;
    }
