use Rattle.std.proofs.Common.{◌≡◌, ◌==◌, ℕ, List, not, length, map, take}
use Rattle.std.specs.List.{filter}
use Rattle.text_words.proofs.pieces.line_words.Given as goal

abbrev pub invariant-loop-part : goal.invariant-loop-part
invariant-loop-part l = map (λ w. w.now) l.words.items ≡ filter (λ (word : List ℕ). not (length word == 0)) (map (λ w. w.now) (take l.part-index l.part-items))
