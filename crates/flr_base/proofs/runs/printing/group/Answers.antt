use Rattle.std.proofs.Common.{◌≡◌, ◌≢◌, ℕ, ◌+◌, ◌-◌, ◌<◌, ◌≤◌, List, length, get_or, take, drop, replicate, sym, subst, arith}
use Rattle.std.proofs.lemmas.List.{length-drop, take_all}
use Rattle.flr_base.specs.declared.runs.run.Run.{Run}
use Rattle.flr_base.proofs.RunLaws.{Grouped, group_step}
use Rattle.flr_base.proofs.runs.printing.group.Goals as goal

-- so many bytes at the front are this byte, and the next one isn't
abbrev IsStretch : ℕ → ℕ → List ℕ → Type 0
IsStretch byte n bytes = (n ≤ length bytes) × (take n bytes ≡ replicate n byte) × (n < length bytes → get_or bytes n 0 ≢ byte)

pub loop-done-preserved : goal.loop-done-preserved
loop-done-preserved c =
    let l = c.loop-done in
    let bytes : List ℕ = c.args.bytes.now in
    let whole : take (length c.args.bytes.now - c.loop-done.done) (drop c.loop-done.done c.args.bytes.now) ≡ drop c.loop-done.done c.args.bytes.now =
    take_all (length c.args.bytes.now - c.loop-done.done) (drop c.loop-done.done c.args.bytes.now) (omega (arith, length-drop c.loop-done.done c.args.bytes.now)) in
    let found : IsStretch (get_or c.args.bytes.now c.loop-done.done 0) c.stretch-count.result (drop c.loop-done.done c.args.bytes.now) =
    subst (IsStretch (get_or c.args.bytes.now c.loop-done.done 0) c.stretch-count.result) whole (c.stretch-count.ensures.within, c.stretch-count.ensures.same, c.stretch-count.ensures.end) in
    subst (λ (rs : List Run). Grouped c.args.bytes.now (l.done + c.stretch-count.result) rs) (sym c.in_ok-push.ensures.items)
    (group_step bytes l.done c.stretch-count.result l.runs.items (omega arith) (omega (arith, c.type_inv.bytes l.done)) (omega (arith, found.0, length-drop c.loop-done.done c.args.bytes.now)) found.0 found.1 found.2 l.invariant)
