-- Each answer with bytes is right, and each fault, by a walk over the run of the read.
use Rattle.std.proofs.Common.{◌≡◌, ℕ, ◌+◌, ◌-◌, ◌<◌, Bool, true, false, List, [], ◌∷◌, ◌++◌, length, map, take, Option, Some, None, refl, sym, ap, subst, ◌∙◌, append_assoc, append-nil, arith}
use Rattle.std.specs.List.{AllByRecursion}
use Rattle.std.proofs.lemmas.List.{take_all}
use Rattle.std.proofs.lemmas.List.Elements.{All-contains, All-from_recursion}
use Rattle.flr_base.specs.declared.reply.Range.{Range}
use Rattle.flr_base.specs.declared.reply.Reply.TheVariants.{Bytes}
use Rattle.stripe_map.specs.Cutting.{Tile}
use Rattle.composite_layout.specs.Layouts.{IsValid}
use Rattle.mirror_select.specs.declared.types.Piece.{Piece}
use Rattle.mirror_select.proofs.Least.{found_in, to_contains}
use Rattle.object_target.specs.declared.call.CallAnswer.{CallAnswer}
use Rattle.object_target.specs.declared.call.CallAnswer.TheVariants as answer
use Rattle.object_target.specs.Calls.{read_answer}
use Rattle.extent_lock.specs.Extents.{blocker}
use Rattle.meta_server.specs.Closing.{confirms, holds}
use Rattle.meta_server.specs.Files.{File, file_named, same_name}
use Rattle.meta_server.specs.Opening.{opened}
use Rattle.call_steps.specs.Pieces.{object_of, piece_at}
use Rattle.call_steps.specs.Runs.{CallStep, IsRunOf, IsStepOf, Leaves, goes_on}
use Rattle.call_steps.specs.Servers.{AreThere}
use Rattle.call_steps.specs.Steps.{Outcome, Going, Fixed, Ended, Answered, Blocked}
use Rattle.client_read.specs.declared.phase.FailedTake.{FailedTake}
use Rattle.client_read.specs.declared.phase.ReadAt.{ReadAt}
use Rattle.client_read.specs.declared.phase.ReadAt.TheVariants as at
use Rattle.client_read.specs.declared.phase.Reading.{Reading}
use Rattle.client_read.specs.Fitting.{FitsAt, IsAsked, IsObjectAt}
use Rattle.client_read.specs.Pieces.{next_object}
use Rattle.client_read.specs.Reads.{confirms_read, ids_of, locks_from, locks_piece, lock_for, looks_again, new_read, opens_file, others_answer, piece_read, read_at, read_on, read_step, shares_file, takes_from, takes_piece, target_of, unanswered, with_answer, with_failed, failed_take, calls_over}
use Rattle.client_read.specs.Faults.{FaultsAreTold, IsFaulted, failed_at, failed_if}
use Rattle.client_read.specs.Told.{IsFair, IsTold, OpensNone, TellsWhatItTook}
use Rattle.client_read.specs.Views.{ReadView}
use Rattle.client_read.proofs.Readable.{are_pieces, there}
use Rattle.client_read.proofs.UnderWay.{IsAfter, IsGoing, IsOpened, IsUnderWay, begun, locks_next, opened_more, opened_quietly, reads_piece, some_object, took, under_way_more}

-- what a step leaves
abbrev IsLeft : ReadView → List (CallStep ReadView) → CallStep ReadView → Outcome ReadView → Type 0
IsLeft r steps made (Going next after) = IsGoing r (steps ++ made ∷ []) next
IsLeft r steps made (Fixed next reply takes after) = IsTold r steps made reply takes × IsGoing r (steps ++ made ∷ []) next
IsLeft r steps made (Ended after) = Unit {0}
IsLeft r steps made (Answered reply takes after) = IsFaulted r steps made reply
IsLeft r steps made (Blocked holder) = Unit {0}

-- the answer that a confirm fixes is right
told : (r : ReadView) (steps : List (CallStep ReadView)) (made : CallStep ReadView) (x : Reading) (size : ℕ) → IsAsked r.range → made.call ≡ read_on r (at.Confirm x) → confirms x.opened.file x.opened.cookie made.before.meta ≡ Some size →
    IsUnderWay r steps x (length x.pieces) → IsTold r steps made (Bytes (take (size - r.range.start) x.got.bytes)) x.got.takes
told r steps made x size asked same held h = record {
  reading = x;
  phase = ap (λ (c : ReadView). c.at) same;
  size = size;
  held = held;
  since = h.opened.since;
  opening = h.opened.opening;
  tile = subst (λ (rs : List Range). Tile rs r.range.start r.range.end) (sym (h.got.ranges ∙ ap (λ (ps : List Piece). map (λ (p : Piece). p.range) ps) (take_all (length x.pieces) x.pieces (omega arith)))) (are_pieces r.range x.opened.layout (ids_of x.failed) x.pieces asked h.has).tile;
  parts = h.got.parts;
  right = h.got.takes;
  joined = ap (λ (bytes : List ℕ). Bytes (take (size - r.range.start) bytes)) h.got.bytes;
}

module _ (r : ReadView) (steps : List (CallStep ReadView)) (made : CallStep ReadView) (asked : IsAsked r.range) (fair : IsFair made) where
  -- the take of the step, if it failed
  failed_by : (a : ReadAt) → made.call ≡ read_on r a → failed_at made.call.at made.before ≡ failed_at a made.before
  failed_by a same = ap (λ (c : ReadView). failed_at c.at made.before) same

  later : (a : ReadAt) → made.call ≡ read_on r a → (a ≡ at.Open → ⊥) → OpensNone made
  later a same other = λ e. other (sym (ap (λ (c : ReadView). c.at) same) ∙ e)

  -- a file is found whose bytes are all answered
  opens : made.call ≡ read_on r at.Open → IsLeft r steps made (read_at at.Open (read_on r at.Open) made.before)
  opens same = by (file_named r.name made.before.meta.files) refl
    where
      shares : (f : File) → file_named r.name made.before.meta.files ≡ Some f → (o : Option ℕ) → unanswered f.layout r.range [] ≡ o → IsLeft r steps made (shares_file (read_on r at.Open) made.before f o)
      shares f e (Some byte) none = tt
      shares f e None none =
          begun r (steps ++ made ∷ []) (opened r.client f) [] asked
          (record {
            since = [];
            opening = record { front = steps; opening = made; split = refl; last = tt; opens = record { phase = ap (λ (c : ReadView). c.at) same; file = f; named = e; got = refl } };
            failing = refl;
            valid = All-contains (λ (f : File). IsValid f.layout) made.before.meta.files f (All-from_recursion (λ (f : File). IsValid f.layout) made.before.meta.files fair.layouts) (to_contains made.before.meta.files f (found_in (λ (f : File). same_name r.name f.name) made.before.meta.files f e).0);
          }) none

      by : (found : Option File) → file_named r.name made.before.meta.files ≡ found → IsLeft r steps made (opens_file (read_on r at.Open) made.before found)
      by None e = tt
      by (Some f) e = shares f e (unanswered f.layout r.range []) refl

  locks : (x : Reading) (next : ℕ) → made.call ≡ read_on r (at.Lock x next) → IsUnderWay r steps x (next_object x.pieces 0) → IsLeft r steps made (read_at (at.Lock x next) (read_on r (at.Lock x next)) made.before)
  locks x next same h = by (blocker made.before.locks (lock_for r (piece_at x.pieces next)))
    where
      by : (b : Option (ℕ × Range)) → IsLeft r steps made (locks_piece (read_on r (at.Lock x next)) made.before x next b)
      by (Some told) = tt
      by None = (locks_from x (next_object x.pieces (next + 1)), refl, locks_next r (steps ++ made ∷ []) x (next_object x.pieces (next + 1)) (under_way_more r steps made x (next_object x.pieces 0) (failed_by (at.Lock x next) same) (later (at.Lock x next) same (λ (e : at.Lock x next ≡ at.Open). cc)) h))

  takes : (x : Reading) (next : ℕ) → made.call ≡ read_on r (at.Take x next) → IsUnderWay r steps x next → IsObjectAt x.pieces next →
      Leaves (read_at (at.Take x next) (read_on r (at.Take x next)) made.before) made.after → IsLeft r steps made (read_at (at.Take x next) (read_on r (at.Take x next)) made.before)
  takes x next same h object left = by (read_answer (target_of made.before p)) refl left
    where
      p : Piece
      p = piece_at x.pieces next

      fits : AreThere made.before.targets x.opened.layout.components
      fits = subst (λ (c : ReadView). FitsAt c.at c made.before) same fair.fits.phase

      within : (object_of p).target < length made.before.targets
      within = there r.range x.opened.layout (ids_of x.failed) x.pieces next made.before.targets (object_of p) asked h.has object.there fits (some_object p.object _ object.object)

      failed : failed_at (at.Take x next) made.before ≡ failed_take made.before p ∷ [] → IsLeft r steps made (Going (read_on r (at.Again (with_failed made.before x p))) (piece_read made.before p))
      failed fails = (at.Again (with_failed made.before x p), refl, opened_more r steps made x.opened x.failed (x.failed ++ failed_take made.before p ∷ []) (ap (λ (fs : List FailedTake). x.failed ++ fs) (failed_by (at.Take x next) same ∙ fails)) (later (at.Take x next) same (λ (e : at.Take x next ≡ at.Open). cc)) h.opened)

      by : (came : CallAnswer) → read_answer (target_of made.before p) ≡ came → Leaves (takes_piece (read_on r (at.Take x next)) made.before x next p came) made.after → IsLeft r steps made (takes_piece (read_on r (at.Take x next)) made.before x next p came)
      by answer.Ok ok left = (takes_from (with_answer made.before x next p) (next_object x.pieces (next + 1)), refl, took r steps made x next asked (failed_by (at.Take x next) same ∙ ap (failed_if made.before p) ok) (later (at.Take x next) same (λ (e : at.Take x next ≡ at.Open). cc)) h object (reads_piece made p left within ok))
      by (answer.Old kept) old left = failed (ap (failed_if made.before p) old)
      by answer.Failed fails left = failed (ap (failed_if made.before p) fails)

  looks : (x : Reading) → made.call ≡ read_on r (at.Again x) → IsOpened r steps x.opened x.failed → IsLeft r steps made (read_at (at.Again x) (read_on r (at.Again x)) made.before)
  looks x same h = by (holds x.opened.file x.opened.cookie made.before.meta) refl
    where
      others : holds x.opened.file x.opened.cookie made.before.meta ≡ true → (o : Option ℕ) → unanswered x.opened.layout r.range (ids_of x.failed) ≡ o → IsLeft r steps made (others_answer (read_on r (at.Again x)) made.before x o)
      others held (Some byte) lowest = record {
        reading = x;
        phase = ap (λ (c : ReadView). c.at) same;
        held = held;
        since = h.since;
        opening = h.opening;
        lowest = ap (λ (fs : List FailedTake). unanswered x.opened.layout r.range (ids_of fs)) h.failing ∙ lowest;
        named = ap (calls_over x.opened.layout.components byte) (sym h.failing);
      }
      others held None lowest = begun r (steps ++ made ∷ []) x.opened x.failed asked (opened_quietly r steps made x.opened x.failed (failed_by (at.Again x) same) (later (at.Again x) same (λ (e : at.Again x ≡ at.Open). cc)) h) lowest

      by : (b : Bool) → holds x.opened.file x.opened.cookie made.before.meta ≡ b → IsLeft r steps made (looks_again (read_on r (at.Again x)) made.before x b)
      by false lost = (at.Open, refl, tt)
      by true held = others held (unanswered x.opened.layout r.range (ids_of x.failed)) refl

  confirming : (x : Reading) → made.call ≡ read_on r (at.Confirm x) → IsUnderWay r steps x (length x.pieces) → IsLeft r steps made (read_at (at.Confirm x) (read_on r (at.Confirm x)) made.before)
  confirming x same h = by (confirms x.opened.file x.opened.cookie made.before.meta) refl
    where
      by : (o : Option ℕ) → confirms x.opened.file x.opened.cookie made.before.meta ≡ o → IsLeft r steps made (confirms_read (read_on r (at.Confirm x)) made.before x o)
      by None held = (at.UnlockAgain, refl, tt)
      by (Some size) held = (told r steps made x size asked same held h, (at.Unlock, refl, tt))

  each : (a : ReadAt) → made.call ≡ read_on r a → Leaves (read_at a (read_on r a) made.before) made.after → IsAfter r steps a → IsLeft r steps made (read_at a (read_on r a) made.before)
  each at.Open same left h = opens same
  each (at.Lock x next) same left h = locks x next same h
  each (at.Take x next) same left h = takes x next same h.0 h.1 left
  each (at.Again x) same left h = looks x same h
  each (at.Confirm x) same left h = confirming x same h
  each at.UnlockAgain same left h = (at.Open, refl, tt)
  each at.Unlock same left h = tt

-- what any step of a run leaves
leaves : (r : ReadView) (steps : List (CallStep ReadView)) (made : CallStep ReadView) (last : ℕ) (a : ReadAt) → IsAsked r.range → IsFair made → IsStepOf read_step (read_on r a) last made → IsAfter r steps a → IsLeft r steps made made.came
leaves r steps made last a asked fair step h =
    subst (IsLeft r steps made) (sym step.came)
    (each r steps made asked fair a step.same (subst (λ (o : Outcome ReadView). Leaves o made.after) step.came step.left) h)

-- ---- the run

-- no step follows where the call has ended
none_follows : (rest : List (CallStep ReadView)) (made : CallStep ReadView) (last : ℕ) → IsRunOf read_step (rest ++ made ∷ []) None last → ⊥
none_follows [] made last run = run
none_follows (k ∷ rest) made last run = run

-- what the last step of a run leaves
walk : (r : ReadView) (rest front : List (CallStep ReadView)) (made : CallStep ReadView) (last : ℕ) (a : ReadAt) →
    IsAsked r.range → IsAfter r front a → IsRunOf read_step (rest ++ made ∷ []) (Some (read_on r a)) last → AllByRecursion IsFair (rest ++ made ∷ []) → IsLeft r (front ++ rest) made made.came
walk r [] front made last a asked h run fair =
    subst (λ (steps : List (CallStep ReadView)). IsLeft r steps made made.came) (sym (append-nil front)) (leaves r front made last a asked fair.0 run.0 h)
walk r (k ∷ rest) front made last a asked h run fair =
    subst (λ (steps : List (CallStep ReadView)). IsLeft r steps made made.came) (append_assoc front (k ∷ []) rest)
    (by k.came (leaves r front k last a asked fair.0 run.0 h) run.1
    (λ (b : ReadAt) (g : IsAfter r (front ++ k ∷ []) b) (more : IsRunOf read_step (rest ++ made ∷ []) (Some (read_on r b)) k.place). walk r rest (front ++ k ∷ []) made k.place b asked g more fair.1))
  where
    Goes : Type 0
    Goes = (b : ReadAt) → IsAfter r (front ++ k ∷ []) b → IsRunOf read_step (rest ++ made ∷ []) (Some (read_on r b)) k.place → IsLeft r ((front ++ k ∷ []) ++ rest) made made.came

    going : (to : ReadView) → IsGoing r (front ++ k ∷ []) to → IsRunOf read_step (rest ++ made ∷ []) (Some to) k.place → Goes → IsLeft r ((front ++ k ∷ []) ++ rest) made made.came
    going to g more goes = goes g.0 g.2 (subst (λ (c : ReadView). IsRunOf read_step (rest ++ made ∷ []) (Some c) k.place) g.1 more)

    by : (o : Outcome ReadView) → IsLeft r front k o → IsRunOf read_step (rest ++ made ∷ []) (goes_on o) k.place → Goes → IsLeft r ((front ++ k ∷ []) ++ rest) made made.came
    by (Going to left) g more goes = going to g more goes
    by (Fixed to reply takes left) g more goes = going to g.1 more goes
    by (Ended left) g more goes = absurd (none_follows rest made k.place more)
    by (Answered reply takes left) g more goes = absurd (none_follows rest made k.place more)
    by (Blocked holder) g more goes = absurd (none_follows rest made k.place more)

pub tells_what_it_took : TellsWhatItTook
tells_what_it_took client name offset count steps made next reply takes after asked run fair came =
    let r : ReadView = new_read client name offset count in
    (subst (IsLeft r steps made) came (walk r steps [] made 0 at.Open asked tt run fair)).0

pub faults_are_told : FaultsAreTold
faults_are_told client name offset count steps made reply takes after asked run fair came =
    let r : ReadView = new_read client name offset count in
    subst (IsLeft r steps made) came (walk r steps [] made 0 at.Open asked tt run fair)
