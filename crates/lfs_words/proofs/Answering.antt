-- Why the answer of reading is right.
use Rattle.std.proofs.Common.{◌≡◌, ◌≢◌, ℕ, Bool, true, ◌&&◌, List, [], Result, Ok, Err, Option, Some, None, refl, sym, ap, subst, ◌∙◌, inl, inr}
use Rattle.std.specs.Prelude.{MatchResult, IfErr, ◌⊎◌, is_some}
use Rattle.std.specs.Str.{bytes_eq}
use Rattle.std.proofs.lemmas.Bool.{cond_both, and_parts}
use Rattle.flr_base.specs.Faults.{IsFirstFault}
use Rattle.flr_base.specs.Reading.{reads}
use Rattle.flr_base.proofs.Reader.{first_fault, read_stands, run_ok, ends_early}
use Rattle.composite_layout.specs.FlagChanges.{FlagSets}
use Rattle.composite_layout.specs.declared.spec.MirrorSpec.{MirrorSpec}
use Rattle.composite_layout.specs.declared.spec.SpecError.{SpecError}
use Rattle.composite_layout.specs.declared.spec.SpecError.TheVariants as errors
use Rattle.composite_layout.specs.Specs.{refusal_of}
use Rattle.composite_layout.proofs.Good.{called_for}
use Rattle.lfs_values.specs.Causes.{cause_at}
use Rattle.lfs_values.specs.declared.cause.Cause.{Cause}
use Rattle.lfs_values.specs.declared.cause.Cause.TheVariants as causes
use Rattle.lfs_values.specs.declared.cause.Fault.{Fault}
use Rattle.lfs_values.specs.declared.cause.Fault.TheVariants as faults
use Rattle.lfs_words.specs.declared.command.SplitTo.{SplitTo}
use Rattle.lfs_words.specs.declared.command.SplitTo.TheVariants as places
use Rattle.lfs_words.specs.declared.command.LfsCommand.{LfsCommand}
use Rattle.lfs_words.specs.declared.command.LfsCommand.TheVariants as commands
use Rattle.lfs_words.specs.declared.asked.MirrorAsk.{MirrorAsk}
use Rattle.lfs_words.specs.declared.asked.Asked.{Asked}
use Rattle.lfs_words.specs.declared.asked.Asked.TheVariants as asks
use Rattle.lfs_words.specs.declared.step.State.{State}
use Rattle.lfs_words.specs.declared.step.State.TheVariants as state
use Rattle.lfs_words.specs.Parts.{◌>>=◌}
use Rattle.lfs_words.specs.Options.{is_complete, ended_mirrors}
use Rattle.lfs_words.specs.Checking.{expanded, unless, spec_of, alone, other_file, checked_to, checked_split, checked_delete, checked_change, checked_extend_by, checked}
use Rattle.lfs_words.specs.Goodness.{IsGoodState}
use Rattle.lfs_words.specs.Reading.{step, place_at, ends, command_of, read_of, Answers}
use Rattle.lfs_words.specs.Grammar.{IsAsked, IsLine, Spells, IsRefused, IsBehindForm, IsCause}
use Rattle.lfs_words.proofs.Lines.{Stands, asked_reads, asked_of}
use Rattle.lfs_words.proofs.Completing.{lfs_reads}
use Rattle.lfs_words.proofs.Wanting.{no_want}

-- ---- what may be wrong with the whole

abbrev pub IsWhole : Cause → Type 0
IsWhole causes.SameFile = Unit {0}
IsWhole causes.NoMirror = Unit {0}
IsWhole causes.TooManyMirrors = Unit {0}
IsWhole causes.TooManyParts = Unit {0}
IsWhole (causes.Unaligned at) = Unit {0}
IsWhole (causes.Gap at) = Unit {0}
IsWhole _ = ⊥

if_err_bound : {A B : Type 0} (r : Result A Cause) (f : A → Result B Cause) → IfErr r IsWhole → ((x : A) → IfErr (f x) IsWhole) → IfErr (r >>= f) IsWhole
if_err_bound (Ok x) f h k = k x
if_err_bound (Err c) f h k = h

-- the mirrors aren't refused for want of memory
refusal_whole : {A : Type 0} (ms : List MirrorSpec) (most : ℕ) (refusal : Option SpecError) (x : A) → refusal_of ms most ≡ refusal → IfErr (unless refusal x) IsWhole
refusal_whole ms most None x e = tt
refusal_whole ms most (Some errors.NoMirror) x e = tt
refusal_whole ms most (Some errors.TooManyMirrors) x e = tt
refusal_whole ms most (Some errors.TooManyParts) x e = tt
refusal_whole ms most (Some (errors.Unaligned at)) x e = tt
refusal_whole ms most (Some (errors.Gap at)) x e = tt
refusal_whole ms most (Some errors.NoMemory) x e = let none : refusal_of ms most ≡ None = called_for ms most errors.NoMemory e in absurd cc

spec_whole : (most : ℕ) (asked : List MirrorAsk) (f : List MirrorSpec → LfsCommand) → IfErr (spec_of most asked >>= λ spec. Ok (f spec)) IsWhole
spec_whole most asked f = if_err_bound (spec_of most asked) (λ spec. Ok (f spec)) (refusal_whole (expanded asked) most (refusal_of (expanded asked) most) _ refl) (λ spec. tt)

other_whole : (other name : List ℕ) → IfErr (other_file other name) IsWhole
other_whole other name = cond_both (bytes_eq other name) _ _ (λ r. IfErr r IsWhole) (λ _. tt) (λ _. tt)

to_whole : (to : SplitTo) (name : List ℕ) → IfErr (checked_to to name) IsWhole
to_whole (places.Named new) name = other_whole new name
to_whole to name = tt

split_whole : (mirror : Option ℕ) (to : SplitTo) (name : List ℕ) → is_some mirror ≡ true → IfErr (checked_split mirror to name) IsWhole
split_whole None to name h = absurd cc
split_whole (Some id) to name h = if_err_bound (checked_to to name) _ (to_whole to name) (λ _. tt)

delete_whole : (mirror : Option ℕ) (name : List ℕ) → is_some mirror ≡ true → IfErr (checked_delete mirror name) IsWhole
delete_whole None name h = absurd cc
delete_whole (Some id) name h = tt

change_whole : (id : Option ℕ) (change : Option FlagSets) (name : List ℕ) → is_some id ≡ true → is_some change ≡ true → IfErr (checked_change id change name) IsWhole
change_whole (Some id) (Some change) name h k = tt
change_whole None change name h k = absurd cc
change_whole (Some id) None name h k = absurd cc

by_whole : (mirror : Bool) (victim name : List ℕ) → IfErr (checked_extend_by mirror victim name) IsWhole
by_whole mirror victim name =
    if_err_bound (other_file victim name) _ (other_whole victim name) (λ _. cond_both mirror _ _ (λ r. IfErr r IsWhole) (λ _. tt) (λ _. tt))

whole : (most : ℕ) (a : Asked) (name : List ℕ) → is_complete a ≡ true → IfErr (checked most a name) IsWhole
whole most (asks.SetStripe d) name h = spec_whole most (alone d) (λ spec. commands.SetStripe name spec)
whole most (asks.Create ms) name h = spec_whole most (ended_mirrors ms) (λ spec. commands.Create name spec)
whole most (asks.Extend ms) name h = spec_whole most (ended_mirrors ms) (λ spec. commands.Extend name spec)
whole most (asks.CompSet c) name h = let rest = and_parts (is_some c.id) (is_some c.change) (and_parts c.named (is_some c.id && is_some c.change) h).1 in change_whole c.id c.change name rest.0 rest.1
whole most (asks.ExtendBy mirror victim) name h = by_whole mirror victim name
whole most (asks.Split mirror to) name h = split_whole mirror to name h
whole most (asks.Delete mirror) name h = delete_whole mirror name h
whole most asks.GetStripe name h = tt
whole most asks.Verify name h = tt
whole most (asks.Resync only) name h = tt

err_at : {A : Type 0} (r : Result A Cause) (cause : Cause) → IfErr r IsWhole → r ≡ Err cause → IsWhole cause
err_at (Ok x) cause h e = absurd cc
err_at (Err c) cause h e = let same : c ≡ cause = cc in subst IsWhole same h

whole_cause : (most : ℕ) (words : List (List ℕ)) (cause : Cause) → IsWhole cause → IsRefused most words cause → IsCause most words cause
whole_cause most words causes.SameFile h r = r
whole_cause most words causes.NoMirror h r = r
whole_cause most words causes.TooManyMirrors h r = r
whole_cause most words causes.TooManyParts h r = r
whole_cause most words (causes.Unaligned at) h r = r
whole_cause most words (causes.Gap at) h r = r
whole_cause most words cause h r = absurd h

-- ---- the laws of reading

found_at : (most : ℕ) (words : List (List ℕ)) (command : LfsCommand) (r : Result State (ℕ × Fault)) → reads (step most) 0 state.Start words ≡ r → command_of most r ≡ Ok command → Spells most words command
found_at most words command (Err fault) is e = absurd cc
found_at most words command (Ok (state.Done a name)) is e = (a, name, asked_of most a name words (read_stands (step most) (lfs_reads most) words (state.Done a name) is), e)
found_at most words command (Ok s) is e = absurd cc

pub found : (most : ℕ) (words : List (List ℕ)) (command : LfsCommand) → read_of most words ≡ Ok command → Spells most words command
unfolding read_of
found most words command e = found_at most words command (reads (step most) 0 state.Start words) refl e

line_read : (most : ℕ) (words : List (List ℕ)) (a : Asked) (name : List ℕ) → IsAsked most words a name → reads (step most) 0 state.Start words ≡ Ok (state.Done a name)
line_read most words a name h = run_ok (step most) 0 state.Start (state.Done a name) words (asked_reads most words a name h)

pub again : (most : ℕ) (words : List (List ℕ)) (command : LfsCommand) → Spells most words command → read_of most words ≡ Ok command
unfolding read_of
again most words command h = ap (command_of most) (line_read most words h.0 h.1 h.2) ∙ h.3

good_state : (most : ℕ) (words : List (List ℕ)) (s : State) → Stands most s words → IsGoodState s
good_state most words (state.Done a name) h = h.leads.good
good_state most words s h = tt

pub good_end : (most : ℕ) (words : List (List ℕ)) (s : State) → Ok s ≡ reads (step most) 0 state.Start words → IsGoodState s
good_end most words s e = good_state most words s (read_stands (step most) (lfs_reads most) words s (sym e))

pub read_to : (most : ℕ) (words : List (List ℕ)) (s : State) (r : Result LfsCommand Cause) → Ok s ≡ reads (step most) 0 state.Start words → Answers r (ends most s) → Answers r (read_of most words)
unfolding read_of
read_to most words s r e h = subst (Answers r) (ap (command_of most) e) h

pub read_not : (most : ℕ) (words : List (List ℕ)) (at : ℕ) (fault : Fault) → Err (at, fault) ≡ reads (step most) 0 state.Start words → read_of most words ≡ Err (cause_at fault (place_at at))
unfolding read_of
read_not most words at fault e = sym (ap (command_of most) e)

fault_cause : (most : ℕ) (words : List (List ℕ)) (at : ℕ) (fault : Fault) → IsFirstFault (IsLine most) words at → IsCause most words (cause_at fault (place_at at))
fault_cause most words at faults.UnknownWord h = (at, refl, h)
fault_cause most words at faults.Extra h = (at, refl, h)
fault_cause most words at faults.BadNumber h = (at, refl, h)
fault_cause most words at faults.BadName h = (at, refl, h)
fault_cause most words at faults.Repeated h = (at, refl, h)
fault_cause most words at faults.Conflict h = (at, refl, h)

abbrev IsEnd : State → Type 0
IsEnd (state.Done a name) = Unit {0}
IsEnd _ = ⊥

missing_at : (most : ℕ) (words : List (List ℕ)) (s : State) (cause : Cause) → reads (step most) 0 state.Start words ≡ Ok s → (IsEnd s → ⊥) → causes.Missing ≡ cause → IsCause most words cause
missing_at most words s cause is no_end same =
    subst (IsCause most words) same (ends_early (step most) (lfs_reads most) words s is
    (λ line. no_end (let other = line_read most words line.0 line.1 line.2 in let ends_so : state.Done line.0 line.1 ≡ s = cc in subst IsEnd ends_so tt)))

first_at : (most : ℕ) (words : List (List ℕ)) (cause : Cause) (r : Result State (ℕ × Fault)) → reads (step most) 0 state.Start words ≡ r → command_of most r ≡ Err cause → IsCause most words cause
first_at most words cause (Err fault) is e =
    let same : cause_at fault.1 (place_at fault.0) ≡ cause = cc in
    subst (IsCause most words) same (fault_cause most words fault.0 fault.1 (first_fault (step most) (lfs_reads most) words [] fault.0 fault.1 is))
first_at most words cause (Ok (state.Done a name)) is e =
    let led = read_stands (step most) (lfs_reads most) words (state.Done a name) is in
    whole_cause most words cause (err_at (checked most a name) cause (whole most a name led.complete) e) (a, name, asked_of most a name words led, e)
first_at most words cause (Ok s) is e = missing_at most words s cause is (λ h. h) cc

pub first : (most : ℕ) (words : List (List ℕ)) (cause : Cause) → read_of most words ≡ Err cause → IsCause most words cause
unfolding read_of
first most words cause e = first_at most words cause (reads (step most) 0 state.Start words) refl e

not_wanting : (most : ℕ) (words : List (List ℕ)) (cause : Cause) (r : Result State (ℕ × Fault)) → reads (step most) 0 state.Start words ≡ r → command_of most r ≡ Err cause → cause ≡ causes.Memory → ⊥
not_wanting most words cause (Err fault) is e m =
    let same : cause_at fault.1 (place_at fault.0) ≡ cause = cc in
    no_want fault.1 (place_at fault.0) (same ∙ m)
not_wanting most words cause (Ok (state.Done a name)) is e m =
    let led = read_stands (step most) (lfs_reads most) words (state.Done a name) is in
    subst IsWhole m (err_at (checked most a name) cause (whole most a name led.complete) e)
not_wanting most words cause (Ok s) is e m = let same : causes.Missing ≡ cause = cc in let clash : causes.Missing ≡ causes.Memory = same ∙ m in absurd cc

-- what words are no command for is never want of memory
pub no_memory : (most : ℕ) (words : List (List ℕ)) (cause : Cause) → read_of most words ≡ Err cause → cause ≢ causes.Memory
unfolding read_of
no_memory most words cause e = λ m. not_wanting most words cause (reads (step most) 0 state.Start words) refl e m

-- ---- answers

is_memory : (cause : Cause) → (cause ≡ causes.Memory) ⊎ (cause ≢ causes.Memory)
is_memory causes.Memory = inl refl
is_memory cause = inr (λ e. absurd cc)

pub answer_read : (most : ℕ) (words : List (List ℕ)) (r : Result LfsCommand Cause) → Answers r (read_of most words) → (r ≡ Err causes.Memory → IsBehindForm words) → MatchResult r (λ command. Spells most words command) (IsCause most words)
answer_read most words (Ok command) h m = found most words command h
answer_read most words (Err cause) h m =
    elim (is_memory cause) [
      | inl e ↦ subst (IsCause most words) (sym e) (m (ap (λ (c : Cause). Err c) e))
      | inr n ↦ first most words cause (h n)
    ]

pub answer_again : (most : ℕ) (words : List (List ℕ)) (r : Result LfsCommand Cause) → Answers r (read_of most words) → (command : LfsCommand) → Spells most words command → MatchResult r (λ found. found ≡ command) (λ cause. cause ≡ causes.Memory)
answer_again most words (Ok c) h command s = let e : Ok c ≡ Ok command = sym h ∙ again most words command s in cc
answer_again most words (Err cause) h command s =
    elim (is_memory cause) [
      | inl e ↦ e
      | inr n ↦ absurd (let e : Err cause ≡ Ok command = sym (h n) ∙ again most words command s in cc)
    ]
