-- Each byte so far has a component that answers it.
use Rattle.std.proofs.Common.{◌<◌, ◌-◌, ℕ, [], refl, sym, ◌∙◌, arith}
use Rattle.composite_layout.specs.Layouts.{eof}
use Rattle.mirror_select.proofs.Grouping.{without_here, without_none, without_step}
use Rattle.meta_server.proofs.offline.offline_byte.Goals as goal

nearer : (end at next : ℕ) → at < next → at < end → end - next < end - at
nearer end at next h k = omega arith

pub loop-at-smaller : goal.loop-at-smaller
loop-at-smaller c = nearer eof c.loop-at.at c.min-at.result (let h : c.loop-at.at < c.in-Some.end = c.in-Some.ensures.farther.0 in let t : c.loop-at.at < 18446744073709551615 = c.loop-at-test.true in omega arith) c.loop-at-test.true

pub loop-at-preserved : goal.loop-at-preserved
loop-at-preserved c =
    let h : c.loop-at.at < c.in-Some.end = c.in-Some.ensures.farther.0 in
    let t : c.loop-at.at < 18446744073709551615 = c.loop-at-test.true in
    c.loop-at.invariant ∙ without_step c.args.layout.now.components [] c.loop-at.at c.min-at.result eof (omega arith) (omega arith) (λ x low high. c.in-Some.ensures.farther.1 x low (omega arith))

pub returns-in-None : goal.returns-in-None
returns-in-None c = sym (c.loop-at.invariant ∙ without_here c.args.layout.now.components [] c.loop-at.at eof c.loop-at-test.true (c.in-None.ensures.nobody refl))

pub returns : goal.returns
returns c = sym (c.loop-at.invariant ∙ without_none c.args.layout.now.components [] c.loop-at.at eof c.loop-at-test.false)
