-- Each step of a copy leaves it the key of the file that it was told, and a merge keeps only answers that tell of both files.
use Rattle.std.proofs.Common.{◌≡◌, ℕ, ◌+◌, ◌-◌, ◌==◌, Bool, true, false, cond, nat_lt, Option, Some, None, List, [], ◌∷◌, ◌++◌, length, inl, inr, refl, sym, ap, subst, ◌∙◌, slice_get}
use Rattle.flr_base.specs.declared.reply.Left.{Left}
use Rattle.flr_base.specs.declared.reply.ObjectId.{ObjectId}
use Rattle.flr_base.specs.declared.reply.Range.{Range}
use Rattle.flr_base.specs.declared.reply.Reply.{Reply}
use Rattle.flr_base.specs.declared.reply.Reply.TheVariants as reply
use Rattle.composite_layout.specs.declared.spec.MirrorSpec.{MirrorSpec}
use Rattle.composite_layout.specs.Layouts.{Composite}
use Rattle.composite_layout.specs.LookUps.{mirror_ids}
use Rattle.composite_layout.specs.Making.{part_count}
use Rattle.layout_lease.specs.Leases.{KeyView, holder_of, key_for}
use Rattle.layout_lease.specs.Shares.{lowest_but}
use Rattle.layout_state.specs.declared.error.StateError.{StateError}
use Rattle.layout_state.specs.Mirroring.{excess}
use Rattle.layout_state.specs.Selecting.{absent_of, selected_of}
use Rattle.mirror_select.specs.declared.types.Piece.{Piece}
use Rattle.object_target.specs.declared.call.CallAnswer.{CallAnswer}
use Rattle.object_target.specs.declared.call.CallAnswer.TheVariants as answer
use Rattle.object_target.specs.Calls.{fence_answer, read_answer, reset_answer, write_answer}
use Rattle.meta_server.specs.declared.answers.Begun.{Begun}
use Rattle.meta_server.specs.declared.answers.Begun.TheVariants as begun_as
use Rattle.meta_server.specs.declared.answers.CopyWhat.{CopyWhat}
use Rattle.meta_server.specs.declared.answers.CopyWhat.TheVariants.{Resync, Extend, Victim}
use Rattle.meta_server.specs.Beginning.{copy_begins, copy_begins_file, copy_begins_on, extend_alone, extend_begins, extend_leased, extend_wanted, merge_alone, merge_begins, merge_fits, merge_leased, merge_readable, resync_alone, resync_begins, resync_leased, resync_wanted, with_begin}
use Rattle.meta_server.specs.Closing.{size_of}
use Rattle.meta_server.specs.Ending.{copy_ends, merge_ends}
use Rattle.meta_server.specs.Files.{File, MetaView, changed, file_named, file_of, with_layout}
use Rattle.meta_server.specs.Layouts.{begun, extended, new_ids, offline_byte}
use Rattle.meta_server.specs.Outcomes.{Breaks, Ending, Ends, Gives, Holds, Refuses, Waits}
use Rattle.meta_server.specs.Outcomes as meta
use Rattle.meta_server.specs.Sound.{IsSound}
use Rattle.meta_server.proofs.Going.{name_found}
use Rattle.meta_laws.proofs.Copies.{there_named}
use Rattle.meta_laws.proofs.Opens.{one_file}
use Rattle.call_steps.specs.Pieces.{object_of}
use Rattle.call_steps.specs.Servers.{Servers, next_call_on}
use Rattle.call_steps.specs.Steps.{Outcome, Going, Fixed}
use Rattle.resync_copy.specs.declared.merge_phase.MergeStage.{MergeStage}
use Rattle.resync_copy.specs.declared.merge_phase.MergeStage.TheVariants as merge
use Rattle.resync_copy.specs.declared.merge_phase.Pair.{Pair}
use Rattle.resync_copy.specs.declared.parts.CopyObject.{CopyObject}
use Rattle.resync_copy.specs.declared.phase.Chunk.{Chunk}
use Rattle.resync_copy.specs.declared.phase.CopyAt.{CopyAt}
use Rattle.resync_copy.specs.declared.phase.CopyAt.TheVariants as at
use Rattle.resync_copy.specs.declared.phase.CopyStage.{CopyStage}
use Rattle.resync_copy.specs.declared.phase.CopyStage.TheVariants as stage
use Rattle.resync_copy.specs.Calls.{CopyView}
use Rattle.resync_copy.specs.Comparing.{ComparingView, comparing_of, merge_fences}
use Rattle.resync_copy.specs.Copies.{bytes_in, clears_none, ends_copy, fences_object, first_writer, leaves_at, leaves_over, leaves_with, object_at, piece_from, piece_to, puts_chunk, resets_object, settled_from, settled_objects, settles, stage_at, takes_chunk, target_of}
use Rattle.resync_copy.specs.Merges.{compares, differs, ends_merge, first_difference, first_pair, is_solid, merge_done, merge_ends_with, merge_fences_from, merge_fences_object, merge_settled, merge_settles, merge_stage_at, next_pair, our_again, our_piece, our_source, pair_at, pairs_at, pairs_from, range_of, starts_pair, starts_theirs, takes_ours, takes_theirs, their_again, their_piece, their_source, theirs_by, theirs_from}
use Rattle.resync_copy.specs.Steps.{begins, copy_at}
use Rattle.resync_copy.specs.Views.{CopyingView, begun_copy, fences_of, resets_of}
use Rattle.flr_numbers.specs.Copies.{merge_hand, stage_hand}
use Rattle.flr_numbers.specs.Hands.{Hand}
use Rattle.flr_numbers.proofs.Inverting.{WasFound, was_found}
use Rattle.flr_numbers.proofs.Nexts.{IsNext, IsNextOf, chunk_next, compares_next, copies_next, fences_next, merge_fences_next, merge_settled_next, none_next, pairs_next, resets_next, settled_next, theirs_next}
use Rattle.flr_behind.proofs.Opening.{given_named}
use Rattle.flr_bytes.specs.Victims.{IsNamed}
use Rattle.flr_honest.specs.Legal.Sentences.{IsOfItsFile, KeepsAt, TakesInNone, key_of, our_key}

-- ---- the keys of what comes next

-- the key that a stage has in hand
stage_key : (next : CopyStage) → slice_get (stage_hand next).keys 0 ≡ Some (key_of next)
stage_key (stage.Fence x next) = refl
stage_key (stage.Reset x next) = refl
stage_key (stage.Settle x) = refl
stage_key (stage.Take h) = refl
stage_key (stage.Put h bytes) = refl
stage_key (stage.Done key cleared left) = refl

one_key : (a b : KeyView) → Some a ≡ Some b → a ≡ b
one_key a b e = cc e

-- what comes next of a copy has its key
next_key : (x : CopyingView) (next : CopyStage) → IsNext x next → key_of next ≡ x.side.key
next_key x next is = elim is.0 [
  | inl e ↦ one_key (key_of next) x.side.key (sym (stage_key next) ∙ ap (λ (h : Hand). slice_get h.keys 0) e)
  | inr e ↦ one_key (key_of next) x.side.key (sym (stage_key next) ∙ ap (λ (h : Hand). slice_get h.keys 0) e)
]

merge_key : (next : MergeStage) → slice_get (merge_hand next).keys 0 ≡ Some (our_key next)
merge_key (merge.Fence x next) = refl
merge_key (merge.Settle x) = refl
merge_key (merge.TakeOurs p) = refl
merge_key (merge.TakeTheirs p ours) = refl
merge_key (merge.Done ours theirs refusal) = refl

next_ours : (x : ComparingView) (next : MergeStage) → IsNextOf x next → our_key next ≡ x.ours.key
next_ours x next is = elim is.0 [
  | inl e ↦ one_key (our_key next) x.ours.key (sym (merge_key next) ∙ ap (λ (h : Hand). slice_get h.keys 0) e)
  | inr e ↦ one_key (our_key next) x.ours.key (sym (merge_key next) ∙ ap (λ (h : Hand). slice_get h.keys 0) e)
]

-- ---- what a merge keeps

fences_keep : (x : ComparingView) (next : ℕ) → KeepsAt (merge_fences_from x next)
fences_keep x next = by (nat_lt next (length (merge_fences x)))
  where
    by : (b : Bool) → KeepsAt (cond b (merge.Fence x next) (merge.Settle x))
    by true = tt
    by false = tt

theirs_start : (p : Pair) (o : Option Bool) → KeepsAt (starts_theirs p o)
theirs_start p None = tt
theirs_start p (Some solid) = tt

pair_start : (p : Pair) (ours theirs : Option Bool) → KeepsAt (starts_pair p ours theirs)
pair_start p None theirs = tt
pair_start p (Some true) theirs = tt
pair_start p (Some false) theirs = theirs_start p theirs

pairs_by : (p : Pair) (o : Option ℕ) → KeepsAt (pairs_at p o)
pairs_by p (Some number) = pair_start (pair_at p number) (is_solid (our_source (pair_at p number))) (is_solid (their_source (pair_at p number)))
pairs_by p None = tt

pairs_keep : (p : Pair) → KeepsAt (pairs_from p)
pairs_keep p = pairs_by p (next_pair p)

compares_keep : (p : Pair) (ours theirs : Option (List ℕ)) → KeepsAt (compares p ours theirs)
compares_keep p ours theirs = by (first_difference ((range_of p).end - (range_of p).start) ours theirs)
  where
    by : (o : Option ℕ) → KeepsAt (differs p ours theirs o)
    by (Some place) = tt
    by None = pairs_keep (pair_at p (p.number + 1))

theirs_keep : (p : Pair) (ours : Option (List ℕ)) → KeepsAt (theirs_from p ours)
theirs_keep p ours = by (is_solid (their_source p))
  where
    by : (o : Option Bool) → KeepsAt (theirs_by p ours o)
    by None = tt
    by (Some true) = tt
    by (Some false) = compares_keep p ours None

settled_keep : (x : ComparingView) (ours theirs : Option ℕ) → KeepsAt (merge_settled x ours theirs)
settled_keep x (Some a) (Some b) = by (a == b)
  where
    by : (same : Bool) → KeepsAt (cond same (pairs_from (first_pair x a)) (merge_done x (Some (reply.Sizes a b))))
    by true = pairs_keep (first_pair x a)
    by false = tt
settled_keep x (Some a) None = tt
settled_keep x None theirs = tt

-- ---- begin

-- a copy that begins takes the lease of the file that it was told, and a merge that of the one that takes in the other
abbrev OnBegun : List ℕ → CopyWhat → meta.Outcome Begun → Type 0
OnBegun name what (Gives begun_as.Nothing after) = Unit {0}
OnBegun name what (Gives (begun_as.Copy side ids) after) = IsNamed after name side.key × TakesInNone what
OnBegun name what (Gives (begun_as.Merge ours theirs) after) = IsNamed after name ours.key
OnBegun name what (Refuses answer) = Unit {0}
OnBegun name what (Waits holder) = Unit {0}

-- a new layout leaves the name
same_named : (k n : ℕ) (l : Composite) (files : List File) (g : File) (w : WasFound k n (with_layout l) files g) → g.name ≡ w.before.name
same_named k n l files g w = elim w.is [ inl own ↦ ap (λ (x : File). x.name) own.1 | inr other ↦ ap (λ (x : File). x.name) other.1 ]

module _ (client : ℕ) (m : MetaView) (h : IsSound m) (name : List ℕ) (f : File) (e : file_named name m.files ≡ Some f) where
  -- the file under a new layout keeps the name
  laid_named : (l : Composite) (g : File) → file_of f.number (changed f.number (with_layout l) m.files) ≡ Some g → g.name ≡ name
  laid_named l g there =
      let w = was_found f.number f.number (with_layout l) m.files g (λ x. refl) there in
      same_named f.number f.number l m.files g w ∙ ap (λ (x : File). x.name) (one_file (file_of f.number m.files) w.before f w.there (there_named m h name f e)) ∙ name_found name m.files f e

  -- ---- a copy of one file

  -- the copy begins on the file, which may have got mirrors first
  begins_named : (ids : List ℕ) (l : Composite) → IsNamed (with_begin client ids (with_layout l f) m) name (key_for client f.number m.leases)
  begins_named ids l = record { given = given_named m h name f e; named = laid_named (begun ids f.number m.nexts l) }

  resync_alone_by : (only : Option (List ℕ)) (ids : List ℕ) (o : Option ℕ) → OnBegun name (Resync only) (resync_alone client m f ids o)
  resync_alone_by only ids (Some holder) = tt
  resync_alone_by only ids None = (begins_named ids f.layout, tt)

  resync_wanted_by : (only : Option (List ℕ)) (ids : List ℕ) (b : Bool) → OnBegun name (Resync only) (resync_wanted client m f ids b)
  resync_wanted_by only ids true = tt
  resync_wanted_by only ids false = resync_alone_by only ids (lowest_but client f.lock)

  resync_leased_by : (only : Option (List ℕ)) (o : Option ℕ) → OnBegun name (Resync only) (resync_leased client m only f o)
  resync_leased_by only (Some holder) = tt
  resync_leased_by only None = let ids = selected_of only f.layout.components in resync_wanted_by only ids (length ids == 0)

  resync_by : (only : Option (List ℕ)) (o : Option ℕ) → OnBegun name (Resync only) (resync_begins client m only f o)
  resync_by only (Some id) = tt
  resync_by only None = resync_leased_by only (holder_of m.leases f.number)

  extend_wanted_by : (mirrors : List MirrorSpec) (l : Composite) (ids : List ℕ) (b : Bool) → OnBegun name (Extend mirrors) (extend_wanted client m (with_layout l f) ids b)
  extend_wanted_by mirrors l ids true = tt
  extend_wanted_by mirrors l ids false = (begins_named ids l, tt)

  extend_alone_by : (mirrors : List MirrorSpec) (o : Option ℕ) → OnBegun name (Extend mirrors) (extend_alone client m mirrors f o)
  extend_alone_by mirrors (Some holder) = tt
  extend_alone_by mirrors None =
      let l = extended mirrors (length m.nexts) f.layout in
      let ids : List ℕ = selected_of (Some (new_ids mirrors f.layout)) l.components in
      extend_wanted_by mirrors l ids (length ids == 0)

  extend_leased_by : (mirrors : List MirrorSpec) (o : Option ℕ) → OnBegun name (Extend mirrors) (extend_leased client m mirrors f o)
  extend_leased_by mirrors (Some holder) = tt
  extend_leased_by mirrors None = extend_alone_by mirrors (lowest_but client f.lock)

  extend_by : (mirrors : List MirrorSpec) (o : Option StateError) → OnBegun name (Extend mirrors) (extend_begins client m mirrors f o)
  extend_by mirrors (Some error) = tt
  extend_by mirrors None = extend_leased_by mirrors (holder_of m.leases f.number)

  -- ---- a merge

  module _ (victim : List ℕ) (v : File) where
    -- the server once the first lease is taken
    abbrev mid : MetaView
    mid = with_begin client [] f m

    merge_named : IsNamed (with_begin client [] v mid) name (key_for client f.number m.leases)
    merge_named = record {
      given = given_named m h name f e;
      named = λ g there. (let late = was_found f.number v.number (with_layout (begun [] v.number mid.nexts v.layout)) mid.files g (λ x. refl) there in
          same_named f.number v.number (begun [] v.number mid.nexts v.layout) mid.files g late ∙ laid_named (begun [] f.number m.nexts f.layout) late.before late.there);
    }

    merge_alone_by : (a b : Option ℕ) → OnBegun name (Victim victim) (merge_alone client m f v a b)
    merge_alone_by (Some holder) b = tt
    merge_alone_by None (Some holder) = tt
    merge_alone_by None None = merge_named

    merge_readable_by : (a b : Option ℕ) → OnBegun name (Victim victim) (merge_readable client m f v a b)
    merge_readable_by (Some byte) b = tt
    merge_readable_by None (Some byte) = tt
    merge_readable_by None None = merge_alone_by (lowest_but client f.lock) (lowest_but client v.lock)

    merge_leased_by : (a b : Option ℕ) → OnBegun name (Victim victim) (merge_leased client m f v a b)
    merge_leased_by (Some holder) b = tt
    merge_leased_by None (Some holder) = tt
    merge_leased_by None None = merge_readable_by (offline_byte f.layout) (offline_byte v.layout)

    merge_fits_by : (o : Option StateError) → OnBegun name (Victim victim) (merge_fits client m f v o)
    merge_fits_by (Some error) = tt
    merge_fits_by None = merge_leased_by (holder_of m.leases f.number) (holder_of m.leases v.number)

  merge_by : (victim : List ℕ) (o : Option File) → OnBegun name (Victim victim) (merge_begins client m victim f o)
  merge_by victim None = tt
  merge_by victim (Some v) = merge_fits_by victim v (excess f.layout (length (mirror_ids v.layout.components)) (length v.layout.components) m.most)

  begin_on : (what : CopyWhat) → OnBegun name what (copy_begins_on client m f what)
  begin_on (Resync only) = resync_by only (absent_of only f.layout.components)
  begin_on (Extend mirrors) = extend_by mirrors (excess f.layout (length mirrors) (part_count mirrors) m.most)
  begin_on (Victim victim) = merge_by victim (file_named victim m.files)

begin_by : (client : ℕ) (m : MetaView) (h : IsSound m) (name : List ℕ) (what : CopyWhat) (o : Option File) → file_named name m.files ≡ o → OnBegun name what (copy_begins_file client m name what o)
begin_by client m h name what None e = tt
begin_by client m h name what (Some f) e = begin_on client m h name f e what

-- ---- each step

-- the call that goes on is of its file
abbrev pub OnItsFile : Outcome CopyView → Type 0
OnItsFile (Going next after) = IsOfItsFile after.meta next.name next.what next.at
OnItsFile (Fixed next answer takes after) = IsOfItsFile after.meta next.name next.what next.at
OnItsFile other = Unit {0}

module _ (c : CopyView) (s : Servers) (h : IsSound s.meta) where
  begun_by : (o : meta.Outcome Begun) → OnBegun c.name c.what o → OnItsFile (begins c s o)
  begun_by (Gives begun_as.Nothing after) k = tt
  begun_by (Gives (begun_as.Copy side ids) after) k =
      let x : CopyingView = begun_copy side ids in
      (subst (IsNamed after c.name) (sym (next_key x _ (fences_next x 0))) k.0, k.1)
  begun_by (Gives (begun_as.Merge ours theirs) after) k =
      let x : ComparingView = comparing_of ours theirs in
      (subst (IsNamed after c.name) (sym (next_ours x _ (merge_fences_next x 0))) k, fences_keep x 0)
  begun_by (Refuses refusal) k = tt
  begun_by (Waits holder) k = tt

  -- ---- a copy

  -- what the copy of this key knows, and its next stage too
  abbrev Knows : CopyingView → Type 0
  Knows x = IsNamed s.meta c.name x.side.key × TakesInNone c.what

  goes : (x : CopyingView) (next : CopyStage) → IsNext x next → Knows x → IsOfItsFile s.meta c.name c.what (at.Copy next)
  goes x next is k = (subst (IsNamed s.meta c.name) (sym (next_key x next is)) k.0, k.1)

  fences : (x : CopyingView) (next : ℕ) (o : CopyObject) (a : CallAnswer) → Knows x → OnItsFile (fences_object c s x next o a)
  fences x next o answer.Ok k = goes x _ (fences_next x (next + 1)) k
  fences x next o (answer.Old kept) k = let y : CopyingView = leaves_over x o.extent (next_call_on s.targets o.object.target) in goes y _ (fences_next y (next + 1)) k
  fences x next o answer.Failed k = let y : CopyingView = leaves_over x o.extent (next_call_on s.targets o.object.target) in goes y _ (fences_next y (next + 1)) k

  resets : (x : CopyingView) (next : ℕ) (o : CopyObject) (a : CallAnswer) → Knows x → OnItsFile (resets_object c s x next o a)
  resets x next o answer.Ok k = goes x _ (resets_next x (next + 1)) k
  resets x next o (answer.Old kept) k = goes x (clears_none x) (none_next x) k
  resets x next o answer.Failed k = let y : CopyingView = leaves_with x o.component (next_call_on s.targets o.object.target) in goes y _ (resets_next y (next + 1)) k

  settling : (x : CopyingView) (o : Option (ℕ × Range)) (size : Option ℕ) → Knows x → OnItsFile (settles c s x o size)
  settling x (Some told) size k = tt
  settling x None size k = goes x (settled_from x size) (settled_next x size) k

  takes : (t : Chunk) (p : Piece) (a : CallAnswer) → Knows t.copying → OnItsFile (takes_chunk c s t p a)
  takes t p answer.Ok k = k
  takes t p (answer.Old kept) k = goes t.copying _ (chunk_next t.size t.place (t.failed ++ p.component ∷ []) (Some (next_call_on s.targets (object_of p).target)) t.number t.copying) k
  takes t p answer.Failed k = goes t.copying _ (chunk_next t.size t.place (t.failed ++ p.component ∷ []) (Some (next_call_on s.targets (object_of p).target)) t.number t.copying) k

  puts : (t : Chunk) (bytes : List ℕ) (p : Piece) (a : CallAnswer) → Knows t.copying → OnItsFile (puts_chunk c s t bytes p a)
  puts t bytes p answer.Ok k = goes t.copying _ (chunk_next t.size t.place t.failed t.last (t.number + 1) t.copying) k
  puts t bytes p (answer.Old kept) k = goes t.copying (clears_none t.copying) (none_next t.copying) k
  puts t bytes p answer.Failed k = let y : CopyingView = leaves_at t.copying t.place (next_call_on s.targets (object_of p).target) in goes y _ (copies_next t.size (t.place + 1) y) k

  ends : (cleared : List ℕ) (left : List Left) (o : Ending (Unit {0})) → OnItsFile (ends_copy c s cleared left o)
  ends cleared left (Ends done after) = tt
  ends cleared left (Breaks step after) = tt
  ends cleared left (Holds holder) = tt

  by_stage : (next : CopyStage) → IsOfItsFile s.meta c.name c.what (at.Copy next) → OnItsFile (stage_at next c s)
  by_stage (stage.Fence x next) k = fences x next (object_at (fences_of x) next) (fence_answer (target_of s (object_at (fences_of x) next).object)) k
  by_stage (stage.Reset x next) k = resets x next (object_at (resets_of x) next) (reset_answer (target_of s (object_at (resets_of x) next).object) (object_at (resets_of x) next).object.number x.side.layout.generation) k
  by_stage (stage.Settle x) k = settling x (first_writer s.locks c.client (settled_objects x)) (size_of x.side.file s.meta) k
  by_stage (stage.Take t) k = takes t (piece_from t) (read_answer (target_of s (object_of (piece_from t)))) k
  by_stage (stage.Put t bytes) k = puts t bytes (piece_to t) (write_answer (target_of s (object_of (piece_to t))) (object_of (piece_to t)).number t.copying.side.layout.generation) k
  by_stage (stage.Done key cleared left) k = ends cleared left (copy_ends key cleared s.meta)

  -- ---- a merge

  merges : (x : ComparingView) (next : MergeStage) → IsNextOf x next → KeepsAt next → IsNamed s.meta c.name x.ours.key → IsOfItsFile s.meta c.name c.what (at.Merge next)
  merges x next is keeps k = (subst (IsNamed s.meta c.name) (sym (next_ours x next is)) k, keeps)

  merge_fencing : (x : ComparingView) (next : ℕ) (o : ObjectId) (a : CallAnswer) → IsNamed s.meta c.name x.ours.key → OnItsFile (merge_fences_object c s x next o a)
  merge_fencing x next o answer.Ok k = merges x _ (merge_fences_next x (next + 1)) (fences_keep x (next + 1)) k
  merge_fencing x next o (answer.Old kept) k = (k, tt)
  merge_fencing x next o answer.Failed k = (k, tt)

  merge_settling : (x : ComparingView) (o : Option (ℕ × Range)) (ours theirs : Option ℕ) → IsNamed s.meta c.name x.ours.key → OnItsFile (merge_settles c s x o (merge_settled x ours theirs))
  merge_settling x (Some told) ours theirs k = tt
  merge_settling x None ours theirs k = merges x (merge_settled x ours theirs) (merge_settled_next x ours theirs) (settled_keep x ours theirs) k

  taking_ours : (p : Pair) (q : Piece) (a : CallAnswer) → IsNamed s.meta c.name p.comparing.ours.key → OnItsFile (takes_ours c s p q a)
  taking_ours p q answer.Ok k = merges p.comparing _ (theirs_next p (Some (bytes_in s q))) (theirs_keep p (Some (bytes_in s q))) k
  taking_ours p q (answer.Old kept) k = let n : Pair = our_again p q.component (next_call_on s.targets (object_of q).target) in merges p.comparing (pairs_from n) (pairs_next n) (pairs_keep n) k
  taking_ours p q answer.Failed k = let n : Pair = our_again p q.component (next_call_on s.targets (object_of q).target) in merges p.comparing (pairs_from n) (pairs_next n) (pairs_keep n) k

  taking_theirs : (p : Pair) (ours : Option (List ℕ)) (q : Piece) (a : CallAnswer) → IsNamed s.meta c.name p.comparing.ours.key → OnItsFile (takes_theirs c s p ours q a)
  taking_theirs p ours q answer.Ok k = merges p.comparing _ (compares_next p ours (Some (bytes_in s q))) (compares_keep p ours (Some (bytes_in s q))) k
  taking_theirs p ours q (answer.Old kept) k = let n : Pair = their_again p q.component (next_call_on s.targets (object_of q).target) in merges p.comparing (theirs_from n ours) (theirs_next n ours) (theirs_keep n ours) k
  taking_theirs p ours q answer.Failed k = let n : Pair = their_again p q.component (next_call_on s.targets (object_of q).target) in merges p.comparing (theirs_from n ours) (theirs_next n ours) (theirs_keep n ours) k

  merge_ending : (o : Ending (List ℕ)) → OnItsFile (ends_merge c s o)
  merge_ending (Ends ids after) = tt
  merge_ending (Breaks step after) = tt
  merge_ending (Holds holder) = tt

  merge_ends_by : (ours theirs : KeyView) (refusal : Option Reply) → OnItsFile (merge_ends_with c s ours theirs refusal)
  merge_ends_by ours theirs (Some kept) = tt
  merge_ends_by ours theirs None = merge_ending (merge_ends ours theirs s.meta)

  by_merge : (next : MergeStage) → IsOfItsFile s.meta c.name c.what (at.Merge next) → OnItsFile (merge_stage_at next c s)
  by_merge (merge.Fence x next) k = merge_fencing x next (object_at (merge_fences x) next).object (fence_answer (target_of s (object_at (merge_fences x) next).object)) k.0
  by_merge (merge.Settle x) k = merge_settling x (first_writer s.locks c.client (merge_fences x)) (size_of x.ours.file s.meta) (size_of x.theirs.file s.meta) k.0
  by_merge (merge.TakeOurs p) k = taking_ours p (our_piece p) (read_answer (target_of s (object_of (our_piece p)))) k.0
  by_merge (merge.TakeTheirs p ours) k = taking_theirs p ours (their_piece p) (read_answer (target_of s (object_of (their_piece p)))) k.0
  by_merge (merge.Done ours theirs refusal) k = merge_ends_by ours theirs refusal

  -- each step of a copy
  pub copy_knows : (a : CopyAt) → IsOfItsFile s.meta c.name c.what a → OnItsFile (copy_at a c s)
  copy_knows at.Begin k = begun_by (copy_begins c.client c.name c.what s.meta) (begin_by c.client s.meta h c.name c.what (file_named c.name s.meta.files) refl)
  copy_knows (at.Copy next) k = by_stage next k
  copy_knows (at.Merge next) k = by_merge next k
