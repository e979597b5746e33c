use Rattle.std.proofs.Common.{◌≡◌, ℕ, ap, ◌∙◌}
use Rattle.flr_base.specs.Bytes.{overlay}
use Rattle.object_pages.specs.Bytes.{overlaid}
use Rattle.object_pages.specs.Pages.{byte_at, bytes_of}
use Rattle.object_pages.proofs.BytesLaws.{overlaid_same}
use Rattle.object_pages.proofs.PagesLaws.{overlay-bytes_of}
use Rattle.object_pages.proofs.content.Content.write.Goals as goal

pub returns-clause-written : goal.returns-clause-written
returns-clause-written c =
    let old = c.self.inside.pages in
    let mid = c.make_pages.new.pages in
    let new = c.write_bytes.new.pages in
    let written : (x : ℕ) → byte_at c.write_bytes.new.pages x ≡ overlaid (byte_at c.self.inside.pages) c.args.offset c.args.piece.now x =
    λ x. c.write_bytes.ensures.bytes x ∙ overlaid_same (byte_at mid) (byte_at old) c.args.offset c.args.piece.now x (c.make_pages.ensures.same x) in
    ap (bytes_of new) c.max-self-inside.ensures
    ∙ overlay-bytes_of old new c.self.inside.len c.args.offset c.args.piece.now c.self.invariant written
    ∙ ap (λ bytes. overlay bytes c.args.offset c.args.piece.now) c.self.view_is
