use Rattle.std.proofs.Common.{ℕ, ◌+◌, ◌-◌, ◌≤◌, ◌%◌, length, take, drop, arith}
use Rattle.std.proofs.lemmas.List.{length-take}
use Rattle.object_pages.proofs.PagesLaws.{byte-write_page, byte-write_more}
use Rattle.object_pages.proofs.pages.write_bytes.Goals as goal

pub loop-done-preserved : goal.loop-done-preserved
loop-done-preserved c =
    let stop : ℕ = c.loop-done.done + c.share-count.result in
    let rest = drop c.loop-done.done c.args.bytes.now in
    let within : (c.args.offset + c.loop-done.done) % 4096 + length (take (stop - c.loop-done.done) rest) ≤ 4096 = omega (arith, length-take {A = ℕ} (stop - c.loop-done.done) rest) in
    record {
      in_range = omega arith;
      full = c.write_page.ensures.full;
      room = λ k absent. c.loop-done.invariant.room k (c.write_page.ensures.kept _ absent);
      bytes = byte-write_more c.args.pages.now c.loop-done.pages c.write_page.new.pages c.args.offset c.args.bytes.now c.loop-done.done stop (omega arith) (omega arith) c.loop-done.invariant.bytes
          (byte-write_page c.loop-done.pages c.write_page.new.pages (c.args.offset + c.loop-done.done) _ within c.write_page.ensures.others c.write_page.ensures.bytes);
    }
