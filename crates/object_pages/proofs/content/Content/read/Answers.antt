use Rattle.std.proofs.Common.{◌≡◌, ℕ, ◌+◌, ◌-◌, length, get_or, ap, ◌∙◌, arith}
use Rattle.std.specs.Prelude.{min}
use Rattle.flr_base.specs.Bytes.{piece}
use Rattle.object_pages.proofs.BytesLaws.{get_or-zeros}
use Rattle.object_pages.proofs.PagesLaws.{piece-bytes_of}
use Rattle.object_pages.proofs.content.Content.read.Goals as goal

pub returns : goal.returns
returns c =
    let all : length c.read_bytes.new.buf + length c.fill.new.self ≡ length c.args.buf.now = omega (arith, c.fill.ensures.len) in
    let short : length c.read_bytes.new.buf ≡ min (c.self.inside.len - c.args.offset) (length c.args.buf.now) = omega arith in
    let zeros : (k : ℕ) → get_or c.fill.new.self k 0 ≡ 0 = get_or-zeros _ c.fill.new.self (c.fill.ensures.after (λ y same. same)) in
    record {
      filled = piece-bytes_of c.self.inside.pages c.self.inside.len c.args.offset (length c.args.buf.now) c.read_bytes.new.buf c.fill.new.self c.self.invariant all short (λ k below. c.read_bytes.ensures.bytes k (omega arith)) zeros
          ∙ ap (λ bytes. piece bytes c.args.offset (length c.args.buf.now)) c.self.view_is;
    }
