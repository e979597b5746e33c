use Rattle.std.proofs.Common.{List, ℕ, ap, ◌∙◌, sym, arith}
use Rattle.lfs_words.specs.Naming.{default_name}
use Rattle.mirror_admin.proofs.DefaultNames.{found, not_found}
use Rattle.mirror_admin.proofs.names.has_default.Goals as goal

pub returns-then-is_default : goal.returns-then-is_default
returns-then-is_default c =
    sym (found (default_name c.args.name.now c.args.mirror) c.args.meta.now.files c.loop-place.place (omega arith)
    (sym c.file_at.ensures.name ∙ sym c.as_slice.ensures.same ∙ c.is_default.ensures.0 c.if-is_default.true ∙ ap (λ (n : List ℕ). default_name n c.args.mirror) c.as_slice-in-loop-place.ensures.same))

pub returns : goal.returns
returns c = sym (not_found (default_name c.args.name.now c.args.mirror) c.args.meta.now.files (λ k h. c.loop-place.invariant k (omega arith)))
