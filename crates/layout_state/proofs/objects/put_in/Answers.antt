-- One more component has what was made for it, and at the end all have.
use Rattle.std.proofs.Common.{◌<◌, ◌++◌, length, List, Option, take, drop, sym, ap, ◌∙◌, arith}
use Rattle.std.proofs.lemmas.List.{set-get_or}
use Rattle.flr_base.specs.declared.reply.ObjectId.{ObjectId}
use Rattle.composite_layout.specs.declared.component.Component.{Component}
use Rattle.layout_state.specs.Making.{all_with_made}
use Rattle.layout_state.proofs.ObjectLaws.{put_more, put_rest}
use Rattle.layout_state.proofs.objects.put_in.Goals as goal
use Rattle.layout_state.proofs.objects.put_in.Goals.{in-Some, in-None}

pub loop-component-preserved : goal.loop-component-preserved
loop-component-preserved c =
    let cs : List Component = c.loop-component.component-items in
    let i = c.loop-component.component-index in
    let lt : i < length cs = omega arith in
    elim c.match-pop_front.branch [
      | in-Some w ↦ (
          let more = put_more cs i c.component-item.result w.in-Some.objects c.pop_front.new.self.items lt c.component-item.is in
          rw (w.component-items-is, w.put.ensures, ← c.component-item.is) (more ∙ ap (λ (os : List (Option (List ObjectId))). take i cs ++ all_with_made (drop i cs) os) (sym w.in-Some.ensures.items) ∙ c.loop-component.invariant)
          )
      | in-None w ↦ (
          let rest = put_rest cs i c.pop_front.new.self.items lt (w.in-None.ensures.rest ∙ ap (λ (os : List (Option (List ObjectId))). drop 1 os) w.in-None.ensures.items) in
          rw (w.component-items-is, set-get_or cs i c.component-item.result) (rest ∙ ap (λ (os : List (Option (List ObjectId))). take i cs ++ all_with_made (drop i cs) os) (sym w.in-None.ensures.items) ∙ c.loop-component.invariant)
          )
    ]
