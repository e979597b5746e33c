-- One more id, and all of them.
use Rattle.std.proofs.Common.{◌≡◌, ◌+◌, [], ◌∷◌, ◌++◌, ap, ◌∙◌, arith}
use Rattle.std.specs.List.{range_with_len}
use Rattle.layout_state.proofs.MirrorLaws.{range_more}
use Rattle.layout_state.proofs.add.ids_from.Goals as goal

pub loop-place-preserved : goal.loop-place-preserved
loop-place-preserved c =
    c.in_ok-push.ensures.items ∙ ap (λ ids. ids ++ (c.args.first + c.loop-place.place) ∷ []) c.loop-place.invariant ∙ range_more c.args.first c.loop-place.place

pub returns : goal.returns
returns c =
    let all : c.loop-place.place ≡ c.args.count = omega arith in
    c.from_vec.ensures.same ∙ c.loop-place.invariant ∙ ap (range_with_len c.args.first) all
