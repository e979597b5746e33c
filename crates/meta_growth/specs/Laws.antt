-- What is claimed of every call.
use Rattle.std.specs.Prelude.{length}
use Rattle.meta_server.specs.Files.{MetaView}
use Rattle.meta_laws.specs.Calls.{Call, after_call}
use Rattle.meta_growth.specs.Growth.{AreNumbered, Grows, most_by_call, stripes_of_call}

-- no call raises a number further than this
abbrev pub CallsGrow : Type 0
CallsGrow = (call : Call) (m : MetaView) → AreNumbered m → Grows (most_by_call (stripes_of_call (length m.nexts) call)) m (after_call call m)
