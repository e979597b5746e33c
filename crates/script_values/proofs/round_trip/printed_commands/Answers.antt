use Rattle.std.proofs.Common.{arith}
use Rattle.script_values.specs.declared.command.Command.TheVariants.{Evict}
use Rattle.script_values.proofs.CommandLaws.{words_are, parts_are, one_line, alone_of}
use Rattle.script_values.proofs.Ends.{words_others}
use Rattle.script_values.proofs.round_trip.printed_commands.Goals as goal

pub returns : goal.returns
returns c = record { words = words_are; apart = parts_are; one_line = one_line; ends = words_others; some = λ most. (Evict 1, (omega arith, omega arith)); alone = alone_of }
