use Rattle.std.proofs.Common.{List, sym, subst, ◌<◌, length}
use Rattle.resync_copy.specs.declared.parts.CopyObject.{CopyObject}
use Rattle.resync_copy.specs.Copies.{object_at}
use Rattle.resync_copy.proofs.MergeLaws.{fence_there}
use Rattle.resync_copy.proofs.comparing.Comparing.fence_at.Goals as goal

pub returns-clause-there : goal.returns-clause-there
returns-clause-there c = λ targets ours theirs.
    subst (λ (os : List CopyObject). (object_at os c.args.place).object.target < length targets) (sym c.fences.ensures.same)
    (fence_there targets c.args.self.now c.args.place _ ours theirs c.requires)
