use Rattle.std.proofs.Common.{set, length, refl, sym, ap, ◌∙◌, arith}
use Rattle.std.proofs.lemmas.Option.{slice_get_read}
use Rattle.flr_steps.specs.States.{noted}
use Rattle.flr_world.proofs.Noting.{closes_none, closes_one}
use Rattle.flr_world.proofs.notes.put_note.Goals as goal

pub returns-then-pending-len-clause-entries : goal.returns-then-pending-len-clause-entries
returns-then-pending-len-clause-entries c =
    let at = slice_get_read c.args.entries.now.items (length c.args.entries.now.items) c.args.pending.now c.index_mut.result.now refl (let near = c.if-pending-len.true in let many = c.len-in-Closes.ensures in omega (arith, near, many)) c.index_mut.ensures.value in
    ap (set c.args.entries.now.items c.args.pending.now) c.close.ensures ∙ sym (closes_one c.args.client c.args.place c.args.pending.now c.args.entries.now.items c.index_mut.result.now c.requires.pending at)
    ∙ ap (noted c.args.client c.args.place c.args.entries.now.items) (sym c.in-Closes.is)

pub returns-else-pending-len-clause-entries : goal.returns-else-pending-len-clause-entries
returns-else-pending-len-clause-entries c =
    sym (closes_none c.args.client c.args.place c.args.pending.now c.args.entries.now.items c.requires.pending (let far = c.if-pending-len.false in let many = c.len-in-Closes.ensures in omega (arith, far, many))) ∙ ap (noted c.args.client c.args.place c.args.entries.now.items) (sym c.in-Closes.is)
