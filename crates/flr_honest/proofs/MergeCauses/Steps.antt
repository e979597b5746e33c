-- Each step of an extend by a victim leaves what its next phase knows of the files.
use Rattle.std.proofs.Common.{◌≡◌, ℕ, ◌+◌, ◌-◌, ◌<◌, ◌≤◌, ◌==◌, Bool, true, false, cond, nat_eq, List, [], ◌∷◌, ◌++◌, length, Option, None, Some, inl, inr, ◌⊎◌, refl, sym, ap, subst, ◌∙◌, arith, append-nil}
use Rattle.std.specs.Prelude.{Contains, option_map}
use Rattle.std.specs.List.{AllByRecursion}
use Rattle.std.proofs.lemmas.Bool.{cases_lt, eqb-true, eq-eqb, false≢true}
use Rattle.std.proofs.lemmas.List.Elements.{Contains-push}
use Rattle.flr_base.specs.declared.reply.ObjectId.{ObjectId}
use Rattle.flr_base.specs.declared.reply.Range.{Range}
use Rattle.flr_base.specs.declared.reply.Reply.TheVariants as reply
use Rattle.flr_base.specs.Limits.{most_bytes}
use Rattle.composite_layout.specs.declared.component.Component.{Component}
use Rattle.composite_layout.specs.Layouts.{Composite, IsValid}
use Rattle.extent_lock.specs.Extents.{writer_but}
use Rattle.layout_lease.specs.Leases.{KeyView}
use Rattle.mirror_select.proofs.Least.{found_in, get_there}
use Rattle.mirror_select.proofs.Sound.{every_in}
use Rattle.object_target.specs.declared.call.CallAnswer.{CallAnswer}
use Rattle.object_target.specs.declared.call.CallAnswer.TheVariants as answer
use Rattle.object_target.specs.declared.call.CallKind.TheVariants as kind
use Rattle.object_target.specs.Calls.{fence_answer}
use Rattle.meta_server.specs.Closing.{size_of}
use Rattle.meta_server.specs.Files.{File, MetaView, file_of}
use Rattle.meta_server.specs.Sound.{IsSound, IsSoundFile}
use Rattle.call_steps.specs.Runs.{CallStep}
use Rattle.call_steps.specs.Servers.{AreThere, Servers, next_call_on}
use Rattle.call_steps.specs.Steps.{Outcome, Going, Fixed, Ended}
use Rattle.resync_copy.specs.declared.merge_phase.MergeStage.{MergeStage}
use Rattle.resync_copy.specs.declared.merge_phase.MergeStage.TheVariants as merge
use Rattle.resync_copy.specs.Calls.{CopyView}
use Rattle.resync_copy.specs.Comparing.{ComparingView, merge_fences, version_at}
use Rattle.resync_copy.specs.Copies.{first_writer, object_at, target_of}
use Rattle.resync_copy.specs.Merges.{faults, first_pair, merge_done, merge_fenced, merge_fences_from, merge_fences_object, merge_settled, merge_settles, pairs_from}
use Rattle.resync_copy.proofs.MergeLaws.{fence_there}
use Rattle.copy_laws.proofs.Keeping.{no_writer}
use Rattle.flr_steps.specs.States.{State, state_at}
use Rattle.flr_steps.specs.Traces.{Made, made_by}
use Rattle.flr_numbers.specs.Copies.{IsCompared, merge_hand}
use Rattle.flr_work.specs.Paying.{AreListed}
use Rattle.flr_sole.proofs.Making.{made_none}
use Rattle.plain_files.specs.Histories.{IsStepOf}
use Rattle.flr_claims.specs.Copies.{HasCall, HoldsBytes}
use Rattle.flr_claims.specs.Failures.{is_failed}
use Rattle.flr_bytes.specs.Fitting.{IsFitMerge}
use Rattle.flr_honest.proofs.MergeCauses.Going.{fences_know, pairs_know}
use Rattle.flr_honest.proofs.MergeCauses.Growing.{call_more}
use Rattle.flr_honest.proofs.MergeCauses.Known.{AreFenced, CopyKnows, IsFencing, IsGone, IsSettled, IsShut, IsSideFile, MergeKnows, Way}
use Rattle.flr_honest.proofs.MergeCauses.Made.{failed_is_listed, fence_is_made, fence_made, never_old}
use Rattle.flr_honest.proofs.MergeCauses.Objects.{our_objects, their_objects}
use Rattle.flr_honest.proofs.MergeCauses.Reading.{is_own}

-- what is known of a step of an extend that has begun, before its point: it comes behind this last place, from a state of the run
pub record IsMergeStep (w : Way) (last : ℕ) (x : CallStep CopyView) (next : MergeStage) : Type 0 where
  pub client : x.call.client ≡ w.client
  pub later : last < x.place
  pub since : w.opened ≤ last
  pub early : x.place < w.at
  pub own : IsStepOf w.schedule w.client x.place
  pub old : State
  pub old_is : state_at w.script w.schedule (x.place - 1) ≡ Some old
  pub before_is : x.before ≡ old.shared
  pub listed : AreListed w.script.fails x.before.targets
  pub sound : IsSound x.before.meta
  pub there : AllByRecursion (λ (l : Composite). AreThere x.before.targets l.components) (merge_hand next).copied
  pub compared : IsCompared next
  pub fit : IsFitMerge next
  pub given : AllByRecursion (λ (key : KeyView). key.file < x.before.meta.next_file) (merge_hand next).keys

-- the size of a file isn't too big
pub small_size : (m : MetaView) → IsSound m → (i size : ℕ) → size_of i m ≡ Some size → size ≤ most_bytes
small_size m sound i size e = by (file_of i m.files) refl e
  where
    by : (o : Option File) → file_of i m.files ≡ o → option_map (λ (f : File). f.size) o ≡ Some size → size ≤ most_bytes
    by None there e = absurd (cc)
    by (Some f) there e =
        let same : f.size ≡ size = cc in
        let low = (every_in IsSoundFile m.files f sound.files (found_in (λ (q : File). nat_eq q.number i) m.files f there).0).size in
        omega (arith, same, low)

-- a file without a size is gone
no_size : (o : Option File) → option_map (λ (f : File). f.size) o ≡ None → o ≡ None
no_size None e = refl
no_size (Some f) e = absurd (cc)

module _ (w : Way) (last : ℕ) (x : CallStep CopyView) (made : List Made) (past : AllByRecursion (λ (m : Made). m.place ≤ last) made) where
  -- the servers before the step
  abbrev s : Servers
  s = x.before

  -- with one more call, or with none, the next phase knows what it has to
  abbrev pub Onward : Outcome CopyView → Type 0
  Onward (Going next after) = CopyKnows w x.place (made ++ made_by x.place s.targets after.targets) next.at
  Onward (Fixed next reply takes after) = ⊥
  Onward (Ended after) = ⊥
  Onward other = Unit {0}

  -- with the one call that the step made
  pub with_one : (m : Made) (after : Servers) (next : MergeStage) → made_by x.place s.targets after.targets ≡ m ∷ [] → MergeKnows w x.place (made ++ m ∷ []) next → MergeKnows w x.place (made ++ made_by x.place s.targets after.targets) next
  with_one m after next is h = subst (λ (ms : List Made). MergeKnows w x.place (made ++ ms) next) (sym is) h

  -- with none
  pub with_none : (next : MergeStage) → MergeKnows w x.place made next → MergeKnows w x.place (made ++ made_by x.place s.targets s.targets) next
  with_none next h = subst (λ (ms : List Made). MergeKnows w x.place ms next) (sym (ap (λ (ms : List Made). made ++ ms) (made_none x.place s.targets) ∙ append-nil made)) h

  -- ---- fences

  module _ (y : ComparingView) (next : ℕ) (is : IsMergeStep w last x (merge.Fence y next)) (k : IsFencing w made y next) where
    -- the object to fence
    abbrev o : ObjectId
    o = (object_at (merge_fences y) next).object

    -- its fence
    abbrev fence : Made
    fence = fence_made x.place s o (version_at y next)

    -- its target is there
    on_target : o.target < length s.targets
    on_target = fence_there s.targets y next _ is.there.0 is.there.1.0 is.compared

    -- one more is fenced
    fenced : fence_answer (target_of s o) ≡ answer.Ok → AreFenced y (next + 1) (made ++ fence ∷ [])
    fenced ok i lt within = by (cases_lt i next)
      where
        by : (i < next) ⊎ (next ≤ i) → HasCall (made ++ fence ∷ []) kind.Fence (object_at (merge_fences y) i).object (version_at y i)
        by (inl low) = call_more made (fence ∷ []) kind.Fence _ _ (k.fenced i low within)
        by (inr high) =
            let same : next ≡ i = omega (arith, lt, high) in
            subst (λ (j : ℕ). HasCall (made ++ fence ∷ []) kind.Fence (object_at (merge_fences y) j).object (version_at y j)) same
            (record { by = fence; listed = Contains-push made fence; went = record { kind_is = refl; object = is_own o fence refl refl; version = refl; ok = ok } })

    -- a fence
    pub fences : (a : CallAnswer) → fence_answer (target_of s o) ≡ a → Onward (merge_fences_object x.call s y next o a)
    fences answer.Ok e =
        with_one fence (merge_fenced s o (version_at y next)) (merge_fences_from y (next + 1)) (fence_is_made x.place s o (version_at y next) on_target)
        (fences_know w x.place (made ++ fence ∷ []) y (next + 1) (record { f = k.f; v = k.v; begun = k.begun; fenced = fenced e }))
    fences (answer.Old kept) e = absurd (never_old (target_of s o) kept e)
    fences answer.Failed e =
        with_one fence (merge_fenced s o (version_at y next)) (faults y (next_call_on s.targets o.target)) (fence_is_made x.place s o (version_at y next) on_target)
        (inl (record {
          x = y;
          keys = (refl, refl);
          f = k.f;
          v = k.v;
          begun = k.begun;
          front = made;
          last = fence;
          in_order = refl;
          fence = refl;
          failed = record { named = refl; failed = ap is_failed e; listed = failed_is_listed w.script.fails s is.listed o.target on_target e };
        }))

  -- ---- settle

  module _ (y : ComparingView) (is : IsMergeStep w last x (merge.Settle y)) (k : IsFencing w made y (length (merge_fences y))) where
    -- what the extend got of the files
    our_side : IsSideFile w y.ours k.f
    our_side = k.begun.ours

    their_side : IsSideFile w y.theirs k.v
    their_side = k.begun.theirs

    module _ (free : first_writer s.locks x.call.client (merge_fences y) ≡ None) where
      alone : (i : ℕ) → i < length (merge_fences y) → writer_but is.old.shared.locks w.client (object_at (merge_fences y) i).object ≡ None
      alone i lt =
          subst (λ (c : ℕ). writer_but is.old.shared.locks c (object_at (merge_fences y) i).object ≡ None) is.client
          (subst (λ (u : Servers). writer_but u.locks x.call.client (object_at (merge_fences y) i).object ≡ None) is.before_is (no_writer x.call [] x s.locks x.call.client (merge_fences y) (object_at (merge_fences y) i) free (get_there (merge_fences y) i _ lt)))

      our_shut : IsShut w.client made k.f is.old
      our_shut = record {
        fenced = subst (λ (l : Composite). (c : Component) (o : ObjectId) → HoldsBytes l.components c → Contains c.objects o → HasCall made kind.Fence o l.generation) our_side.layout
            (our_objects y (λ o g. HasCall made kind.Fence o g) (λ i lt. k.fenced i lt lt) (subst IsValid (sym our_side.layout) our_side.valid));
        alone = subst (λ (l : Composite). (c : Component) (o : ObjectId) → HoldsBytes l.components c → Contains c.objects o → writer_but is.old.shared.locks w.client o ≡ None) our_side.layout
            (our_objects y (λ o g. writer_but is.old.shared.locks w.client o ≡ None) alone (subst IsValid (sym our_side.layout) our_side.valid));
      }

      their_shut : IsShut w.client made k.v is.old
      their_shut = record {
        fenced = subst (λ (l : Composite). (c : Component) (o : ObjectId) → HoldsBytes l.components c → Contains c.objects o → HasCall made kind.Fence o l.generation) their_side.layout
            (their_objects y (λ o g. HasCall made kind.Fence o g) (λ i lt. k.fenced i lt lt) (subst IsValid (sym their_side.layout) their_side.valid));
        alone = subst (λ (l : Composite). (c : Component) (o : ObjectId) → HoldsBytes l.components c → Contains c.objects o → writer_but is.old.shared.locks w.client o ≡ None) their_side.layout
            (their_objects y (λ o g. writer_but is.old.shared.locks w.client o ≡ None) alone (subst IsValid (sym their_side.layout) their_side.valid));
      }

      apart : (ms : List Made) → AllByRecursion (λ (m : Made). m.place ≤ last) ms → AllByRecursion (λ (m : Made). m.place ≡ x.place → ⊥) ms
      apart [] h = tt
      apart (m ∷ ms) h = (λ e. absurd (let later = is.later in omega (arith, e, later, h.0)), apart ms h.1)

      has_settled : (a b : ℕ) → size_of y.ours.file s.meta ≡ Some a → size_of y.theirs.file s.meta ≡ Some b → IsSettled w x.place made y k.f k.v a b
      has_settled a b mine its = record {
        begun = k.begun;
        place = x.place;
        settled = is.old;
        since = let since = is.since in let later = is.later in omega (arith, since, later);
        early = is.early;
        past = omega arith;
        own = is.own;
        no_call = apart made past;
        before = is.old_is;
        our_file = our_shut;
        their_file = their_shut;
        our_size = subst (λ (u : Servers). size_of k.f.number u.meta ≡ Some a) is.before_is (ap (λ (n : ℕ). size_of n s.meta) (sym our_side.file) ∙ mine);
        their_size = subst (λ (u : Servers). size_of k.v.number u.meta ≡ Some b) is.before_is (ap (λ (n : ℕ). size_of n s.meta) (sym their_side.file) ∙ its);
      }

      gone : (number : ℕ) → number < s.meta.next_file → file_of number s.meta.files ≡ None → IsGone w x.place number
      gone number given none = record {
        place = x.place;
        settled = is.old;
        past = omega arith;
        before = is.old_is;
        given = subst (λ (u : Servers). number < u.meta.next_file) is.before_is given;
        none = subst (λ (u : Servers). file_of number u.meta.files ≡ None) is.before_is none;
      }

      sized : (a b : Option ℕ) → size_of y.ours.file s.meta ≡ a → size_of y.theirs.file s.meta ≡ b → MergeKnows w x.place made (merge_settled y a b)
      sized (Some a) (Some b) mine its = by (a == b) refl
        where
          by : (t : Bool) → (a == b) ≡ t → MergeKnows w x.place made (cond t (pairs_from (first_pair y a)) (merge_done y (Some (reply.Sizes a b))))
          by true equal =
              let same : a ≡ b = eqb-true a b equal in
              pairs_know w x.place made (first_pair y a) (record {
                f = k.f;
                v = k.v;
                settled = has_settled a a mine (its ∙ ap (λ (n : ℕ). Some n) (sym same));
                small = small_size s.meta is.sound y.ours.file a mine;
                our_were = tt;
                their_were = tt;
                failed = (refl, refl);
                same = λ z less within. absurd (omega (arith, less));
              })
          by false differ = record { x = y; keys = (refl, refl); f = k.f; v = k.v; settled = has_settled a b mine its; differ = λ same. false≢true (sym differ ∙ eq-eqb a b same) }
      sized (Some a) None mine its =
          inr (inr (gone y.theirs.key.file is.given.1.0 (ap (λ (n : ℕ). file_of n s.meta.files) (their_side.key ∙ sym their_side.file) ∙ no_size (file_of y.theirs.file s.meta.files) its)))
      sized None b mine its = inr (inl (gone y.ours.key.file is.given.0 (ap (λ (n : ℕ). file_of n s.meta.files) (our_side.key ∙ sym our_side.file) ∙ no_size (file_of y.ours.file s.meta.files) mine)))

    -- a settle
    pub settles : (o : Option (ℕ × Range)) → first_writer s.locks x.call.client (merge_fences y) ≡ o → Onward (merge_settles x.call s y o (merge_settled y (size_of y.ours.file s.meta) (size_of y.theirs.file s.meta)))
    settles (Some told) e = tt
    settles None e = with_none (merge_settled y (size_of y.ours.file s.meta) (size_of y.theirs.file s.meta)) (sized e (size_of y.ours.file s.meta) (size_of y.theirs.file s.meta) refl refl)
