-- One more file is without the client's cookies.
use Rattle.std.proofs.Common.{◌≡◌, ap, ◌∙◌, length, arith}
use Rattle.meta_server.proofs.Placing.{evicted_more, evicted_none, length-without_cookies}
use Rattle.meta_server.proofs.files.evict_all.Goals as goal

pub loop-place-init : goal.loop-place-init
loop-place-init c = evicted_none c.args.client c.args.entries.now.entries

pub index_mut-requires : goal.index_mut-requires
index_mut-requires c =
    let same : length c.loop-place.entries.entries ≡ length c.args.entries.now.entries = ap length c.loop-place.invariant ∙ length-without_cookies c.args.client c.loop-place.place c.args.entries.now.entries in
    omega (arith, same)

pub loop-place-preserved : goal.loop-place-preserved
loop-place-preserved c =
    evicted_more c.args.client c.loop-place.place c.args.entries.now.entries c.loop-place.entries.entries c.index_mut.result.now c.evict.new.self c.loop-place.invariant c.index_mut.ensures.value c.evict.ensures.kept
