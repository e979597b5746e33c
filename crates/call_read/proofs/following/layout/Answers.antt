use Rattle.std.proofs.Common.{◌∙◌}
use Rattle.call_read.proofs.FollowLaws.{layout_stands}
use Rattle.call_read.proofs.following.layout.Goals as goal

pub returns : goal.returns
returns c =
    rw c.new.ensures.empty
    (layout_stands c.args.text.now c.split_at.result.0.now c.in_ok-_layout.rest.now c.from_vec-text.result c.in_ok-_layout._layout c.in_ok-_layout.ensures.read.0 c.in_ok-_layout.ensures.read.1 c.split_at.ensures.front (c.from_vec-text.ensures.same ∙ c.in_ok-from_slice.ensures.items))
