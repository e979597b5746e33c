-- The last line of a report.
use Rattle.std.proofs.Common.{◌≡◌, ℕ, ◌<◌, ◌≤◌, Bool, true, eqb, List, [], ◌∷◌, ◌++◌, length, Option, Some, None, refl, sym, ap, subst, ◌∙◌, arith}
use Rattle.std.specs.Prelude.{◌↔◌}
use Rattle.std.proofs.lemmas.Bool.{eqb-true}
use Rattle.flr_base.specs.Faults.{IsFirstFault}
use Rattle.text_words.specs.Lines.{lines_of, unended}
use Rattle.layout_text.specs.declared.error.TextError.TheVariants.{Bad}
use Rattle.reply_read.specs.Limits.{Has32}
use Rattle.call_read.specs.Following.{Lines}
use Rattle.call_read.proofs.FollowLaws.{not_unended}
use Rattle.call_read.proofs.Stops.{Leaves, stop_here}
use Rattle.report_read.specs.Schedules.{IsSchedule, schedule_line}
use Rattle.whole_report.specs.Coming.{ScheduleComes}
use Rattle.whole_report.specs.Fronts.{IsLastLine}
use Rattle.whole_report.specs.Reports.{FaultsAt}
use Rattle.whole_report.proofs.CallTexts.{schedule_whole}
use Rattle.whole_report.proofs.Comings.{schedule_begins}
use Rattle.whole_report.proofs.Counts.{lines_some}
use Rattle.whole_report.proofs.Faults.{fault_behind}

stop_first : (top : ℕ) (text : List ℕ) → Has32 top → ((schedule : List ℕ) (tail : Lines) → IsSchedule schedule → top ≤ length schedule → lines_of text ≡ Some (schedule_line schedule) ∷ tail → ⊥) → FaultsAt (ScheduleComes top) text (Bad 1)
stop_first top text few none =
    let stop = stop_here (ScheduleComes top) (lines_of text) (schedule_begins top few)
    (λ s. let lines : [] ≡ Some (schedule_line s.0) ∷ [] = s.3 in absurd cc)
    (λ y tail more first s. let line : y ∷ more ≡ Some (schedule_line s.0) ∷ [] = s.3 in let same : y ≡ Some (schedule_line s.0) = cc in none s.0 tail s.1 s.2 (first ∙ ap (λ (l : Option (List ℕ)). l ∷ tail) same)) in
    (0, stop.fault, omega arith)

pub no_line : (top : ℕ) (text : List ℕ) → Has32 top → lines_of text ≡ unended text → FaultsAt (ScheduleComes top) text (Bad 1)
no_line top text few none = stop_first top text few (λ s tail good long e. not_unended text (schedule_line s) tail (sym none ∙ e))

pub no_schedule : (top : ℕ) (text line rest : List ℕ) (found : Option (List ℕ)) → Has32 top → lines_of text ≡ Some line ∷ lines_of rest → ((schedule : List ℕ) → ((found ≡ Some schedule) ↔ (IsSchedule schedule × (line ≡ schedule_line schedule)))) → found ≡ None → FaultsAt (ScheduleComes top) text (Bad 1)
no_schedule top text line rest found few first spelled is = stop_first top text few (λ s tail good long e.
    let lines : Some line ∷ lines_of rest ≡ Some (schedule_line s) ∷ tail = sym first ∙ e in
    let same : line ≡ schedule_line s = cc in
    let clash : None ≡ Some s = sym is ∙ (spelled s).1 (good, same) in
    absurd cc)

-- it has too few places
pub too_short : (top : ℕ) (text line rest : List ℕ) (found : Option (List ℕ)) (schedule : List ℕ) → Has32 top → lines_of text ≡ Some line ∷ lines_of rest → ((s : List ℕ) → ((found ≡ Some s) ↔ (IsSchedule s × (line ≡ schedule_line s)))) → found ≡ Some schedule → length schedule < top
    → FaultsAt (ScheduleComes top) text (Bad 1)
too_short top text line rest found schedule few first spelled is short = stop_first top text few (λ s tail good long e.
    let lines : Some line ∷ lines_of rest ≡ Some (schedule_line s) ∷ tail = sym first ∙ e in
    let same : line ≡ schedule_line s = cc in
    let both : Some schedule ≡ Some s = sym is ∙ (spelled s).1 (good, same) in
    let one : schedule ≡ s = cc in
    let size : length schedule ≡ length s = ap length one in
    omega (arith, short, long, size))

-- nothing comes behind it
abbrev Done : Lines → Type 0
Done ys = ys ≡ []

done_fault : (ys : Lines) → (ys ≡ [] → ⊥) → IsFirstFault Done ys 0
done_fault [] some = absurd (some refl)
done_fault (y ∷ ys) some = record {
  within = omega arith;
  begins = ([], refl);
  stops = λ lt h. (let clash : y ∷ h.0 ≡ [] = h.1 in absurd cc);
  none = some;
}

last_leaves : (top : ℕ) (schedule : List ℕ) → IsSchedule schedule → top ≤ length schedule → Leaves (ScheduleComes top) (Some (schedule_line schedule) ∷ []) Done
last_leaves top schedule good long tail = ((λ s. let lines : Some (schedule_line schedule) ∷ tail ≡ Some (schedule_line s.0) ∷ [] = s.3 in cc), λ e. (schedule, good, long, ap (λ (zs : Lines). Some (schedule_line schedule) ∷ zs) e))

pub too_long : (top : ℕ) (text line rest : List ℕ) (found : Option (List ℕ)) (schedule : List ℕ) → lines_of text ≡ Some line ∷ lines_of rest → ((s : List ℕ) → ((found ≡ Some s) ↔ (IsSchedule s × (line ≡ schedule_line s)))) → found ≡ Some schedule → top ≤ length schedule → (rest ≡ [] → ⊥)
    → FaultsAt (ScheduleComes top) text (Bad 2)
too_long top text line rest found schedule first spelled is long more =
    let said = (spelled schedule).0 is in
    let some : lines_of rest ≡ [] → ⊥ = by rest more in
    let whole = fault_behind (ScheduleComes top) Done (Some (schedule_line schedule) ∷ []) (lines_of rest) 0 (last_leaves top schedule said.0 long) (done_fault (lines_of rest) some) in
    let lines : Some (schedule_line schedule) ∷ lines_of rest ≡ lines_of text = ap (λ (l : List ℕ). Some l ∷ lines_of rest) (sym said.1) ∙ sym first in
    (1, subst (λ (ys : Lines). IsFirstFault (ScheduleComes top) ys 1) lines whole, omega arith)
  where
    by : (xs : List ℕ) → (xs ≡ [] → ⊥) → lines_of xs ≡ [] → ⊥
    by [] some e = some refl
    by (x ∷ xs) some e = lines_some x xs e

pub no_bytes : (xs : List ℕ) (b : Bool) → b ≡ eqb (length xs) 0 → b ≡ true → xs ≡ []
no_bytes [] b e t = refl
no_bytes (x ∷ xs) b e t = let size = eqb-true (length (x ∷ xs)) 0 (sym e ∙ t) in absurd (omega (arith, size))

pub last_found : (top : ℕ) (text line rest : List ℕ) (found : Option (List ℕ)) (schedule : List ℕ) → text ≡ line ++ 10 ∷ rest → ((s : List ℕ) → ((found ≡ Some s) ↔ (IsSchedule s × (line ≡ schedule_line s)))) → found ≡ Some schedule → top ≤ length schedule → rest ≡ [] → IsLastLine top text schedule
last_found top text line rest found schedule cut spelled is long none =
    let said = (spelled schedule).0 is in
    (said.0, long, cut ∙ ap (λ (xs : List ℕ). line ++ 10 ∷ xs) none ∙ ap (λ (xs : List ℕ). xs ++ 10 ∷ []) said.1 ∙ sym (schedule_whole schedule))
