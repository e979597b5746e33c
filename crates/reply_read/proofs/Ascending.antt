-- For the loop over numbers that ascend.
use Rattle.std.proofs.Common.{◌≡◌, ℕ, ◌+◌, ◌<◌, ◌≤◌, true, false, List, length, get_or, drop, refl, sym, ap, ◌∙◌}
use Rattle.std.proofs.lemmas.Bool.{le-leb, lt-leb}
use Rattle.std.proofs.lemmas.List.{at_drop_more, at_drop_all}
use Rattle.reply_read.specs.Values.{ascend}

pub ascend_more : (ns : List ℕ) (i least d after : ℕ) → ascend least (drop i ns) ≡ ascend 0 ns → i < length ns → least ≤ get_or ns i d → after ≡ get_or ns i d + 1 → ascend after (drop (i + 1) ns) ≡ ascend 0 ns
ascend_more ns i least d after h lt le is =
    ap (λ (k : ℕ). ascend k (drop (i + 1) ns)) is ∙ sym (at_drop_more (ascend least) ns i d lt ∙ rw (le-leb least (get_or ns i d) le) refl) ∙ h

pub ascend_stop : (ns : List ℕ) (i least d : ℕ) → ascend least (drop i ns) ≡ ascend 0 ns → i < length ns → get_or ns i d < least → false ≡ ascend 0 ns
ascend_stop ns i least d h lt less = sym (at_drop_more (ascend least) ns i d lt ∙ rw (lt-leb least (get_or ns i d) less) refl) ∙ h

pub ascend_end : (ns : List ℕ) (i least : ℕ) → ascend least (drop i ns) ≡ ascend 0 ns → length ns ≤ i → true ≡ ascend 0 ns
ascend_end ns i least h le = sym (at_drop_all (ascend least) ns i le) ∙ h

pub ruleset ascending = (ascend_more, ascend_stop, ascend_end)
