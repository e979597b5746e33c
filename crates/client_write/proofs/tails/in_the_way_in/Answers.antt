-- One more stripe: somebody is in the way, or the first stands behind it.
use Rattle.std.proofs.Common.{◌<◌, List, length, Some, None, sym, ap, subst, ◌∙◌}
use Rattle.std.specs.Prelude.{option_map, slice_index_or}
use Rattle.std.proofs.lemmas.List.{get_or_default}
use Rattle.flr_base.specs.declared.reply.ObjectId.{ObjectId}
use Rattle.client_write.specs.OwnLocks.{HoldsOwn}
use Rattle.client_write.proofs.TailLocks.{one_more}
use Rattle.client_write.proofs.Unlisted.{first_on, tail_for}
use Rattle.client_write.proofs.tails.in_the_way_in.Goals as goal
use Rattle.client_write.proofs.tails.in_the_way_in.Goals.{in-Ok, in-Err-NoMemory}

pub returns-in-Err-Blocked-clause-first : goal.returns-in-Err-Blocked-clause-first
returns-in-Err-Blocked-clause-first c =
    let os = c.args.component.now.objects in
    let i = c.loop-index.index in
    let o = slice_index_or os i (record { target = 0; number = 0 }) in
    let lt : i < length os = subst (λ (xs : List ObjectId). i < length xs) c.as_slice-object-items.ensures.same c.loop-index-test.true in
    let on =
    first_on c.args.client c.args.from c.args.component.now i os o c.args.locks.now c.loop-index.locks (Some (c.in-Err-Blocked.holder, c.in-Err-Blocked.field-0-1)) lt (get_or_default os i o _ lt) c.loop-index.invariant.own
    (rw (c.in-Err-Blocked.field-0-is, c.tail_offset.ensures, c.as_slice-object-items.ensures.same) at c.in-Err-Blocked.ensures.blocked) in
    sym (ap (option_map (λ told. told.0)) (c.loop-index.invariant.first ∙ on))

pub loop-index-preserved : goal.loop-index-preserved
loop-index-preserved c =
    let os = c.args.component.now.objects in
    let i = c.loop-index.index in
    let o = slice_index_or os i (record { target = 0; number = 0 }) in
    let lt : i < length os = subst (λ (xs : List ObjectId). i < length xs) c.as_slice-object-items.ensures.same c.loop-index-test.true in
    let same = get_or_default os i o _ lt in
    elim c.match-try_lock.branch [
      | in-Ok w ↦ record {
        first =
            c.loop-index.invariant.first
            ∙ first_on c.args.client c.args.from c.args.component.now i os o c.args.locks.now c.loop-index.locks None lt same c.loop-index.invariant.own
            (rw (c.tail_offset.ensures, c.as_slice-object-items.ensures.same) at w.in-Ok.ensures.blocked);
        own =
            subst (HoldsOwn c.args.client c.args.locks.now) (sym (rw (c.tail_offset.ensures, c.as_slice-object-items.ensures.same) at w.in-Ok.ensures.granted))
            (one_more c.args.client (tail_for c.args.from c.args.component.now i o) c.args.locks.now c.loop-index.locks c.loop-index.invariant.own);
      }
      | in-Err-NoMemory w ↦ record {
        first =
            c.loop-index.invariant.first
            ∙ first_on c.args.client c.args.from c.args.component.now i os o c.args.locks.now c.loop-index.locks None lt same c.loop-index.invariant.own
            (rw (w.in-Err-NoMemory.field-0-is, c.tail_offset.ensures, c.as_slice-object-items.ensures.same) at w.in-Err-NoMemory.ensures.blocked);
        own = subst (HoldsOwn c.args.client c.args.locks.now) (sym w.in-Err-NoMemory.ensures.unchanged) c.loop-index.invariant.own;
      }
    ]
