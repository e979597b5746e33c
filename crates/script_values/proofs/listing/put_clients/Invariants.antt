use Rattle.std.proofs.Common.{◌≡◌, ◌+◌, ◌++◌, drop}
use Rattle.text_words.specs.Lines.{text_of}
use Rattle.script_values.specs.Texts.{client_lines}
use Rattle.script_values.proofs.listing.put_clients.Given as goal

abbrev pub invariant-loop-at : goal.invariant-loop-at
invariant-loop-at l = l.out.items ++ text_of (client_lines (l.at + 1) (drop l.at l.clients)) ≡ l.initial.out.items ++ text_of (client_lines 1 l.clients)
