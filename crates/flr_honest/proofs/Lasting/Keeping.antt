-- What a copy knows of bytes stays where its destinations hold what they held, and the file has the bytes that it had.
use Rattle.std.proofs.Common.{◌≡◌, ℕ, sym, ◌∙◌}
use Rattle.composite_layout.specs.declared.component.Component.{Component}
use Rattle.mirror_select.specs.Held.{held}
use Rattle.call_steps.specs.Servers.{Servers}
use Rattle.resync_copy.specs.declared.phase.Chunk.{Chunk}
use Rattle.resync_copy.specs.Chunks.{chunk_start}
use Rattle.resync_copy.specs.Views.{CopyingView}
use Rattle.flr_claims.specs.Honesty.{IsOf, content}
use Rattle.flr_bytes.specs.Calls.{AreCopied, HoldsFile, IsCopiedTo, IsKeptDestination}
use Rattle.flr_honest.proofs.Lasting.Chunks.{AreAmid}

module _ (s after : Servers) (byte new : ℕ → ℕ → ℕ) (x : CopyingView) (same : (place : ℕ) (d : Component) (y : ℕ) → IsKeptDestination x place d → IsOf d y → held (content after) d y ≡ held (content s) d y) (kept : (place : ℕ) (d : Component) (y : ℕ) → IsKeptDestination x place d → IsOf d y → new x.side.key.file y ≡ byte x.side.key.file y) where
  pub still_copied : (place : ℕ) (d : Component) → IsKeptDestination x place d → HoldsFile s (byte x.side.key.file) d → HoldsFile after (new x.side.key.file) d
  still_copied place d is was y own = same place d y is own ∙ was y own ∙ sym (kept place d y is own)

  pub still_copied_to : (place : ℕ) (d : Component) (end : ℕ) → IsKeptDestination x place d → IsCopiedTo s (byte x.side.key.file) d end → IsCopiedTo after (new x.side.key.file) d end
  still_copied_to place d end is was y own = ((λ less. same place d y is own ∙ (was y own).0 less ∙ sym (kept place d y is own)), λ past. same place d y is own ∙ (was y own).1 past)

  pub still_amid : (size place number : ℕ) → AreAmid s byte size x place number → AreAmid after new size x place number
  still_amid size place number a = record {
    past = λ p d y is own past. kept p d y is own ∙ a.past p d y is own past;
    before = λ p d is less. still_copied p d is (a.before p d is less);
    here = λ d is. still_copied_to place d (chunk_start number) is (a.here d is);
    behind = λ p d is more. still_copied_to p d 0 is (a.behind p d is more);
  }

pub to_amid : (s : Servers) (byte : ℕ → ℕ → ℕ) (h : Chunk) → AreCopied s byte h → AreAmid s byte h.size h.copying h.place h.number
to_amid s byte h a = record { past = a.past; before = a.before; here = a.here; behind = a.behind }

pub from_amid : (s : Servers) (byte : ℕ → ℕ → ℕ) (h : Chunk) → AreAmid s byte h.size h.copying h.place h.number → AreCopied s byte h
from_amid s byte h a = record { past = a.past; before = a.before; here = a.here; behind = a.behind }
