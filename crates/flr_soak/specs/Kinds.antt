-- The kinds of calls that are counted.
use Rattle.std.specs.Prelude.{Bool}
use Rattle.flr_base.specs.declared.reply.Reply.{Reply}
use Rattle.flr_soak.specs.declared.counting.Kind.{Kind}
use Rattle.flr_soak.specs.declared.counting.Kind.TheVariants as kind
use Rattle.flr_soak.specs.Counts.{is_copy, is_read, is_verify, is_write}

-- the answer is one of this kind
abbrev pub is_of : Kind → Reply → Bool
is_of kind.Read answer = is_read answer
is_of kind.Write answer = is_write answer
is_of kind.Copy answer = is_copy answer
is_of kind.Verify answer = is_verify answer
