-- Ids of mirrors as one word, both ways.
use Rattle.std.proofs.Common.{◌≡◌, ℕ, eqb, List, map, Result, Ok, Err, sym, ap, ◌∙◌, arith}
use Rattle.std.specs.Prelude.{MatchResult}
use Rattle.std.specs.Cmp.{nat_eq_equiv}
use Rattle.std.specs.Fmt.{decimal}
use Rattle.text_words.specs.Numbers.{number_from}
use Rattle.text_words.specs.Pieces.{parts_of}
use Rattle.text_words.proofs.Spellings.{from_takes, from_again}
use Rattle.text_words.proofs.Splits.{decimal_lacks}
use Rattle.text_words.proofs.ListTexts.{parts_text, text_parts}
use Rattle.lfs_values.specs.Answers.{Gives, IsNoMemory, IfWord}
use Rattle.lfs_values.specs.MirrorIds.{IsMirrorId, AreMirrorIds, ids_text, ids_of, IsIdsFault}
use Rattle.lfs_values.specs.declared.cause.Fault.TheVariants as faults
use Rattle.lfs_values.specs.declared.cause.Stop.{Stop}
use Rattle.lfs_values.specs.declared.cause.Stop.TheVariants as stops
use Rattle.lfs_values.proofs.ItemLaws.{items_takes, items_again, items_fault, printed, each_is, reread, all_lack}

-- what is read is spelled so
pub ids_takes : (word : List ℕ) (ids : List ℕ) → ids_of word ≡ Ok ids → AreMirrorIds ids × (word ≡ ids_text ids)
ids_takes word ids e =
    let k = items_takes eqb nat_eq_equiv faults.BadNumber (number_from 1 65535) (parts_of 44 word) ids e in
    let words = printed (number_from 1 65535) decimal (λ w n f. (from_takes 1 65535 w n f).2) (parts_of 44 word) ids k.1 in
    let each = each_is (number_from 1 65535) decimal IsMirrorId (λ w n f. let t = from_takes 1 65535 w n f in (t.0, t.1)) (parts_of 44 word) ids k.1 in
    let t = text_parts decimal word ids words in
    (record { some = t.0; each = each; differ = k.0 }, t.1)

-- what is spelled so is read
pub ids_again : (ids : List ℕ) → AreMirrorIds ids → ids_of (ids_text ids) ≡ Ok ids
ids_again ids h =
    let lack = all_lack (number_from 1 65535) decimal IsMirrorId (λ n b. let le = b.1 in decimal_lacks 44 n (omega arith) (omega arith)) ids h.each in
    let words = parts_text decimal ids h.some lack in
    let read = reread (number_from 1 65535) decimal IsMirrorId (λ n b. from_again 1 65535 n (omega arith) b.0 b.1) ids h.each in
    items_again eqb nat_eq_equiv faults.BadNumber (number_from 1 65535) (parts_of 44 (ids_text ids)) ids h.differ (ap (map (number_from 1 65535)) words ∙ read)

pub answer_read : (word : List ℕ) (r : Result (List ℕ) Stop) → Gives r (ids_of word) → MatchResult r (λ ids. AreMirrorIds ids × (word ≡ ids_text ids)) (λ stop. IfWord stop (IsIdsFault word))
answer_read word (Ok ids) e = ids_takes word ids e
answer_read word (Err stops.NoMemory) e = tt
answer_read word (Err (stops.Word fault)) e = items_fault eqb nat_eq_equiv faults.BadNumber (number_from 1 65535) (parts_of 44 word) fault e

pub answer_again : (word : List ℕ) (r : Result (List ℕ) Stop) → Gives r (ids_of word) → (ids : List ℕ) → AreMirrorIds ids → word ≡ ids_text ids → MatchResult r (λ found. found ≡ ids) IsNoMemory
answer_again word (Ok found) e ids h is = let one : Ok found ≡ Ok ids = sym e ∙ ap ids_of is ∙ ids_again ids h in cc
answer_again word (Err stops.NoMemory) e ids h is = tt
answer_again word (Err (stops.Word fault)) e ids h is = let one : Err fault ≡ Ok ids = sym e ∙ ap ids_of is ∙ ids_again ids h in absurd cc
