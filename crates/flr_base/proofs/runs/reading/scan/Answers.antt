use Rattle.std.proofs.Common.{refl, sym, ap, ◌∙◌, arith, Some, None, [], ◌++◌, ◌∷◌}
use Rattle.flr_base.specs.declared.runs.scan.Move.TheVariants.{Go, Close}
use Rattle.flr_base.specs.declared.runs.scan.Phase.TheVariants.{High}
use Rattle.flr_base.proofs.RunLaws.{stop_fault, one_more, all_read, ends_early, finished, last_after-push, not_finished}
use Rattle.flr_base.proofs.runs.reading.scan.Goals as goal
use Rattle.flr_base.proofs.runs.reading.scan.Goals.{in-Go, in-Close+in_ok-push-in-Close}

pub returns-in-Stop : goal.returns-in-Stop
returns-in-Stop c = stop_fault c.args.text.now c.loop-at.at c.loop-at.runs.items c.loop-at.last c.loop-at.phase (omega arith) c.loop-at.invariant.state c.loop-at.invariant.last cc

pub loop-at-preserved : goal.loop-at-preserved
loop-at-preserved c =
    let l = c.loop-at in
    elim c.match-next.branch [
      | in-Go w ↦
          let h = one_more c.args.text.now l.at l.runs.items l.last l.phase (Go w.in-Go.after) (l.runs.items, w.in-Go.after) (omega arith) l.invariant.state l.invariant.last (sym w.in-Go.ensures) refl in
          record { state = cc; last = cc }
      | in-Close+in_ok-push-in-Close w ↦
          let h = one_more c.args.text.now l.at l.runs.items l.last l.phase (Close w.in-Close.run') (l.runs.items ++ w.in-Close.run' ∷ [], High) (omega arith) l.invariant.state l.invariant.last (sym w.in-Close.ensures) refl in
          let items = w.in_ok-push-in-Close.ensures.items in
          let pushed = last_after-push None l.runs.items w.in-Close.run' in
          record { state = cc; last = cc }
    ]

pub returns-in-Dash : goal.returns-in-Dash
returns-in-Dash c = all_read c.args.text.now c.loop-at.at c.loop-at.runs.items c.loop-at.phase c.loop-at.runs.items (omega arith) c.loop-at.invariant.state (ap (λ p. finished (c.loop-at.runs.items, p)) c.in-Dash.is)

pub returns-in_ok-push-in-Count : goal.returns-in_ok-push-in-Count
returns-in_ok-push-in-Count c = all_read c.args.text.now c.loop-at.at c.loop-at.runs.items c.loop-at.phase c.push-in-Count.new.self.items (omega arith) c.loop-at.invariant.state
    (ap (λ p. finished (c.loop-at.runs.items, p)) c.in-Count.is ∙ ap (λ rs. Some rs) (sym c.in_ok-push-in-Count.ensures.items))

pub returns-in_default : goal.returns-in_default
returns-in_default c = ends_early c.args.text.now c.loop-at.at c.loop-at.runs.items c.loop-at.phase (omega arith) c.loop-at.invariant.state (not_finished c.loop-at.runs.items c.loop-at.phase c.in_default.not-Dash c.in_default.not-Count)
