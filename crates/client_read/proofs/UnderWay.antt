-- What is known of a read between its steps.
use Rattle.std.proofs.Common.{◌≡◌, ℕ, ◌+◌, ◌-◌, ◌<◌, ◌≤◌, Bool, true, false, if◌then◌else◌, nat_lt, List, [], ◌∷◌, ◌++◌, length, take, drop, get_or, Option, Some, None, refl, sym, ap, subst, ◌∙◌, append_assoc, append-nil, add-one, zero-add, get_or-set_same, length-append, length-drop, arith}
use Rattle.std.specs.Prelude.{is_some, is_none, slice_get, slice_set, unwrap_or}
use Rattle.std.specs.List.{AllByRecursion}
use Rattle.std.proofs.lemmas.Bool.Decides.{nat_tests}
use Rattle.std.proofs.lemmas.List.{get_or-drop, take_all, take_more}
use Rattle.std.proofs.lemmas.Grind.{flat_map-append}
use Rattle.std.proofs.lemmas.Option.{slice_get-get_or, unwrap_or-slice_get}
use Rattle.std.proofs.lemmas.List.Elements.{All-drop, All-from_recursion, All-push, Contains-push, recursion_from_All}
use Rattle.std.proofs.Math.Seq.{get_or-append_seam, take-add}
use Rattle.flr_base.specs.declared.reply.ObjectId.{ObjectId}
use Rattle.flr_base.specs.declared.reply.TakeFrom.TheVariants.{Object}
use Rattle.composite_layout.specs.declared.component.Component.{Component}
use Rattle.composite_layout.specs.Layouts.{IsValid}
use Rattle.mirror_select.specs.declared.types.Piece.{Piece}
use Rattle.mirror_select.specs.Pieces.{pieces_of}
use Rattle.object_target.specs.declared.call.CallAnswer.{CallAnswer}
use Rattle.object_target.specs.declared.call.CallAnswer.TheVariants as answer
use Rattle.object_target.specs.declared.call.CallEntry.{CallEntry}
use Rattle.object_target.specs.declared.call.CallKind.TheVariants as kind
use Rattle.object_target.specs.TargetState.{IsLogged, TargetState, next_call}
use Rattle.object_target.specs.Calls.{after_read, read_answer}
use Rattle.meta_server.specs.declared.answers.Opened.{Opened}
use Rattle.call_steps.specs.Pieces.{length_of, object_of, piece_at}
use Rattle.call_steps.specs.Runs.{CallStep}
use Rattle.call_steps.specs.Servers.{Servers, target_at}
use Rattle.client_read.specs.declared.phase.FailedTake.{FailedTake}
use Rattle.client_read.specs.declared.phase.ReadAt.{ReadAt}
use Rattle.client_read.specs.declared.phase.ReadAt.TheVariants as at
use Rattle.client_read.specs.declared.phase.Reading.{Reading}
use Rattle.client_read.specs.Fitting.{HasPieces, IsAsked, IsObjectAt}
use Rattle.client_read.specs.Pieces.{holes_first, is_hole, next_object, nothing_got, with_piece}
use Rattle.client_read.specs.Reads.{begins_with, bytes_of, ids_of, locks_from, piece_read, read_on, reading, takes_from, target_of, unanswered, with_answer}
use Rattle.client_read.specs.Faults.{failed_at, failed_takes}
use Rattle.client_read.specs.Told.{AreSince, IsReadBy, OpensNone}
use Rattle.client_read.specs.Views.{ReadView}
use Rattle.client_read.proofs.Readable.{there}
use Rattle.client_read.proofs.RightTakes.{IsGiven, IsGot, all_given, given, got_holes, got_more, got_nothing, got_piece, read_right}

-- ---- what is known of a read between its steps

-- the read has opened its file, and these are the takes that failed since
pub record IsOpened (r : ReadView) (steps : List (CallStep ReadView)) (o : Opened) (failed : List FailedTake) : Type 0 where
  pub since : List (CallStep ReadView)
  pub opening : AreSince r steps o since
  pub valid : IsValid o.layout
  pub failing : failed_takes since ≡ failed

-- it has the right takes of so many pieces
pub record IsUnderWay (r : ReadView) (steps : List (CallStep ReadView)) (x : Reading) (count : ℕ) : Type 0 where
  pub opened : IsOpened r steps x.opened x.failed
  pub has : HasPieces r.range x.opened.layout (ids_of x.failed) x.pieces
  pub got : IsGot opened.since x.opened.layout.components x.got (take count x.pieces)

abbrev pub IsAfter : ReadView → List (CallStep ReadView) → ReadAt → Type 0
IsAfter r steps at.Open = Unit {0}
IsAfter r steps (at.Lock x next) = IsUnderWay r steps x (next_object x.pieces 0)
IsAfter r steps (at.Take x next) = IsUnderWay r steps x next × IsObjectAt x.pieces next
IsAfter r steps (at.Again x) = IsOpened r steps x.opened x.failed
IsAfter r steps (at.Confirm x) = IsUnderWay r steps x (length x.pieces)
IsAfter r steps at.UnlockAgain = Unit {0}
IsAfter r steps at.Unlock = Unit {0}

abbrev pub IsGoing : ReadView → List (CallStep ReadView) → ReadView → Type 0
IsGoing r steps next = (a : ReadAt) × (next ≡ read_on r a) × IsAfter r steps a

-- ---- one more step

-- the step's take, if it failed, is one more of them
abbrev pub opened_more : (r : ReadView) (steps : List (CallStep ReadView)) (made : CallStep ReadView) (o : Opened) (failed all : List FailedTake) → failed ++ failed_at made.call.at made.before ≡ all → OpensNone made → IsOpened r steps o failed → IsOpened r (steps ++ made ∷ []) o all
opened_more r steps made o failed all more later h = record {
  since = h.since ++ made ∷ [];
  opening = record {
    front = h.opening.front;
    opening = h.opening.opening;
    split = ap (λ (s : List (CallStep ReadView)). s ++ made ∷ []) h.opening.split ∙ append_assoc h.opening.front (h.opening.opening ∷ h.since) (made ∷ []);
    opens = h.opening.opens;
    last = recursion_from_All OpensNone (h.since ++ made ∷ []) (All-push OpensNone h.since made (All-from_recursion OpensNone h.since h.opening.last) later);
  };
  valid = h.valid;
  failing =
      flat_map-append (λ (m : CallStep ReadView). failed_at m.call.at m.before) h.since (made ∷ [])
      ∙ ap (λ (fs : List FailedTake). failed_takes h.since ++ fs) (append-nil (failed_at made.call.at made.before))
      ∙ ap (λ (fs : List FailedTake). fs ++ failed_at made.call.at made.before) h.failing ∙ more;
}

-- no take failed
abbrev pub opened_quietly : (r : ReadView) (steps : List (CallStep ReadView)) (made : CallStep ReadView) (o : Opened) (failed : List FailedTake) → failed_at made.call.at made.before ≡ [] → OpensNone made → IsOpened r steps o failed → IsOpened r (steps ++ made ∷ []) o failed
opened_quietly r steps made o failed quiet later h = opened_more r steps made o failed failed (ap (λ (fs : List FailedTake). failed ++ fs) quiet ∙ append-nil failed) later h

pub under_way_more : (r : ReadView) (steps : List (CallStep ReadView)) (made : CallStep ReadView) (x : Reading) (count : ℕ) → failed_at made.call.at made.before ≡ [] → OpensNone made → IsUnderWay r steps x count → IsUnderWay r (steps ++ made ∷ []) x count
under_way_more r steps made x count quiet later h = record {
  opened = opened_quietly r steps made x.opened x.failed quiet later h.opened;
  has = h.has;
  got = got_more h.opened.since made x.opened.layout.components x.got (take count x.pieces) h.got;
}

-- ---- what comes next

first_object : (ps : List Piece) (d : Piece) → holes_first ps < length ps → is_some (get_or ps (holes_first ps) d).object ≡ true
first_object [] d h = absurd (omega arith)
first_object (p ∷ ps) d h = by (is_hole p) refl h (first_object ps d)
  where
    no_hole : (o : Option ObjectId) → is_none o ≡ false → is_some o ≡ true
    no_hole None e = absurd (cc)
    no_hole (Some o) e = refl

    by : (b : Bool) → is_hole p ≡ b → (if b then holes_first ps + 1 else 0) < length (p ∷ ps) → (holes_first ps < length ps → is_some (get_or ps (holes_first ps) d).object ≡ true) → is_some (get_or (p ∷ ps) (if b then holes_first ps + 1 else 0) d).object ≡ true
    by true e h more = rw add-one (more (omega arith))
    by false e h more = no_hole p.object e

next_is_object : (ps : List Piece) (place : ℕ) → next_object ps place < length ps → IsObjectAt ps (next_object ps place)
next_is_object ps place h = record {
  there = h;
  object = ap (λ (p : Piece). is_some p.object) (sym (get_or-drop place ps (holes_first (drop place ps)) _)) ∙ first_object (drop place ps) _ (omega (arith, length-drop place ps));
}

pub takes_next : (r : ReadView) (steps : List (CallStep ReadView)) (x : Reading) (place : ℕ) → IsUnderWay r steps x (next_object x.pieces place) → IsAfter r steps (takes_from x (next_object x.pieces place))
takes_next r steps x place h = by (nat_lt (next_object x.pieces place) (length x.pieces)) refl
  where
    by : (b : Bool) → nat_lt (next_object x.pieces place) (length x.pieces) ≡ b → IsAfter r steps (if b then at.Take x (next_object x.pieces place) else at.Confirm x)
    by true e = (h, next_is_object x.pieces place (grind (arith, nat_tests)))
    by false e =
        let past : length x.pieces ≤ next_object x.pieces place = grind (arith, nat_tests) in
        record {
          opened = h.opened;
          has = h.has;
          got = subst (IsGot h.opened.since x.opened.layout.components x.got) (take_all (next_object x.pieces place) x.pieces past ∙ sym (take_all (length x.pieces) x.pieces (omega arith))) h.got;
        }

pub locks_next : (r : ReadView) (steps : List (CallStep ReadView)) (x : Reading) (next : ℕ) → IsUnderWay r steps x (next_object x.pieces 0) → IsAfter r steps (locks_from x next)
locks_next r steps x next h = by (nat_lt next (length x.pieces))
  where
    by : (b : Bool) → IsAfter r steps (if b then at.Lock x next else takes_from x (next_object x.pieces 0))
    by true = h
    by false = takes_next r steps x 0 h

-- the read goes on with these bytes of the opened file
pub begun : (r : ReadView) (steps : List (CallStep ReadView)) (o : Opened) (failed : List FailedTake) → IsAsked r.range → IsOpened r steps o failed → unanswered o.layout r.range (ids_of failed) ≡ None → IsGoing r steps (begins_with r o failed)
begun r steps o failed asked h none = (locks_from x (next_object ps 0), refl, locks_next r steps x (next_object ps 0) under_way)
  where
    ps : List Piece
    ps = pieces_of o.layout.components r.range (ids_of failed)

    x : Reading
    x = reading r.range o failed ps

    has : HasPieces r.range o.layout (ids_of failed) ps
    has = record { valid = h.valid; answered = none; are = refl }

    under_way : IsUnderWay r steps x (next_object ps 0)
    under_way = record {
      opened = h;
      has = has;
      got = subst (IsGot h.since o.layout.components x.got) (ap (λ (n : ℕ). take n ps) (sym (zero-add (holes_first ps))))
          (got_holes h.since o.layout.components (ids_of failed) ps [] nothing_got (all_given r.range o.layout (ids_of failed) ps asked has) (got_nothing h.since o.layout.components));
    }

-- ---- a take

pub some_object : (o : Option ObjectId) (d : ObjectId) → is_some o ≡ true → o ≡ Some (unwrap_or o d)
some_object None d e = absurd (cc)
some_object (Some o) d e = refl

-- the last entry of a log
logged_last : (calls : List CallEntry) (e f : CallEntry) → e ≡ f → slice_get (calls ++ e ∷ []) (length calls + 1 - 1) ≡ Some f
logged_last calls e f same =
    let last : length calls + 1 - 1 ≡ length calls = omega arith in
    ap (slice_get (calls ++ e ∷ [])) last
    ∙ slice_get-get_or (calls ++ e ∷ []) (length calls) e (omega (arith, length-append calls (e ∷ [])))
    ∙ ap Some (get_or-append_seam calls e [] e ∙ same)

put_there : (ts : List TargetState) (id : ℕ) (t : TargetState) → id < length ts → target_at (slice_set ts id t) id ≡ t
put_there ts id t h = unwrap_or-slice_get (slice_set ts id t) id _ ∙ get_or-set_same ts id t _ h

-- the step reads the piece
pub reads_piece : (made : CallStep ReadView) (p : Piece) → made.after ≡ piece_read made.before p → (object_of p).target < length made.before.targets → read_answer (target_of made.before p) ≡ answer.Ok →
    IsReadBy made (object_of p) p.offset (length_of p) (next_call (target_of made.before p)) (bytes_of made.before p)
reads_piece made p left there ok = record {
  calls = record {
    next = refl;
    logged =
        subst (λ (t : TargetState). IsLogged t (next_call (target_of made.before p)) entry) (sym after)
        (omega arith, logged_last (target_of made.before p).calls (record entry { answer = read_answer (target_of made.before p) }) entry (ap (λ (a : CallAnswer). let e : CallEntry = record entry { answer = a } in e) ok));
  };
  held = refl;
}
  where
    entry : CallEntry
    entry = record { kind = kind.Read; object = (object_of p).number; offset = p.offset; length = length_of p; version = 0; answer = answer.Ok }

    read : TargetState
    read = after_read (target_of made.before p) (object_of p).number p.offset (length_of p)

    after : target_at made.after.targets (object_of p).target ≡ read
    after = ap (λ (s : Servers). target_at s.targets (object_of p).target) left ∙ put_there made.before.targets (object_of p).target read there

pub took : (r : ReadView) (steps : List (CallStep ReadView)) (made : CallStep ReadView) (x : Reading) (next : ℕ) → IsAsked r.range → failed_at made.call.at made.before ≡ [] → OpensNone made → IsUnderWay r steps x next → IsObjectAt x.pieces next →
    IsReadBy made (object_of (piece_at x.pieces next)) (piece_at x.pieces next).offset (length_of (piece_at x.pieces next)) (next_call (target_of made.before (piece_at x.pieces next))) (bytes_of made.before (piece_at x.pieces next)) →
    IsAfter r (steps ++ made ∷ []) (takes_from (with_answer made.before x next (piece_at x.pieces next)) (next_object x.pieces (next + 1)))
took r steps made x next asked quiet later h object reads = takes_next r (steps ++ made ∷ []) y (next + 1) under_way
  where
    ps : List Piece
    ps = x.pieces

    p : Piece
    p = piece_at ps next

    y : Reading
    y = with_answer made.before x next p

    failed : List ℕ
    failed = ids_of x.failed

    cs : List Component
    cs = x.opened.layout.components

    since : List (CallStep ReadView)
    since = h.opened.since ++ made ∷ []

    one : IsGot since cs (with_piece p (bytes_of made.before p) (Object (object_of p) (next_call (target_of made.before p))) x.got) (take next ps ++ p ∷ [])
    one = got_piece since cs x.got (take next ps) p (bytes_of made.before p) (Object (object_of p) (next_call (target_of made.before p))) (got_more h.opened.since made cs x.got (take next ps) h.got)
        (read_right cs failed p (given r.range x.opened.layout failed ps asked h.has next object.there) since made (next_call (target_of made.before p)) (bytes_of made.before p)
        (some_object p.object _ object.object) (Contains-push h.opened.since made) reads)

    behind : AllByRecursion (IsGiven cs failed) (drop (next + 1) ps)
    behind = recursion_from_All (IsGiven cs failed) (drop (next + 1) ps) (All-drop (IsGiven cs failed) (next + 1) ps (All-from_recursion (IsGiven cs failed) ps (all_given r.range x.opened.layout failed ps asked h.has)))

    front : (take next ps ++ p ∷ []) ++ take (holes_first (drop (next + 1) ps)) (drop (next + 1) ps) ≡ take (next_object ps (next + 1)) ps
    front =
        ap (λ (qs : List Piece). qs ++ take (holes_first (drop (next + 1) ps)) (drop (next + 1) ps)) (sym (take_more ps next _ object.there))
        ∙ sym (take-add (next + 1) (holes_first (drop (next + 1) ps)) ps)

    under_way : IsUnderWay r (steps ++ made ∷ []) y (next_object ps (next + 1))
    under_way = record {
      opened = opened_quietly r steps made x.opened x.failed quiet later h.opened;
      has = h.has;
      got = subst (IsGot since cs y.got) front (got_holes since cs failed (drop (next + 1) ps) (take next ps ++ p ∷ []) (with_piece p (bytes_of made.before p) (Object (object_of p) (next_call (target_of made.before p))) x.got) behind one);
    }
