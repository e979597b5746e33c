-- What each call of the metadata server leaves of the parts that lie in the only fresh components, but the ends of copies.
use Rattle.std.proofs.Common.{◌≡◌, ℕ, Bool, true, false, nat_eq, nat_lt, Some, None, List, [], length, ◌⊎◌, inl, inr, refl, sym, ap, subst, ◌∙◌}
use Rattle.std.specs.Option.{option_map}
use Rattle.std.proofs.lemmas.Bool.{cases_eq}
use Rattle.flr_base.specs.declared.reply.Range.{Range}
use Rattle.composite_layout.specs.declared.spec.MirrorSpec.{MirrorSpec}
use Rattle.composite_layout.specs.Layouts.{Composite, IsValid, eof}
use Rattle.composite_layout.specs.Making.{new_layout, part_count}
use Rattle.layout_lease.specs.declared.shared.Share.{Share}
use Rattle.layout_lease.proofs.Lists.{find_mapped}
use Rattle.layout_state.specs.Making.{AreNext}
use Rattle.layout_state.specs.Marking.{is_named}
use Rattle.layout_state.specs.Mirroring.{excess, keeping}
use Rattle.meta_server.specs.declared.answers.CopyWhat.{CopyWhat}
use Rattle.meta_server.specs.declared.answers.CopyWhat.TheVariants.{Extend, Victim}
use Rattle.meta_server.specs.Beginning.{with_begin}
use Rattle.meta_server.specs.Closing.{grown, holds, shortened}
use Rattle.meta_server.specs.Conditions.{IsCopyOf}
use Rattle.meta_server.specs.Files.{File, MetaView, changed, file_named, file_of, with_break, with_change, with_evicted, with_eviction, with_file, with_freed, with_layout, with_share}
use Rattle.meta_server.specs.Layouts.{begun, extended, flagged, intended, lessened, split_off}
use Rattle.flr_base.specs.Limits.{most_bytes}
use Rattle.meta_server.specs.Opening.{change_opens_file, with_intent}
use Rattle.meta_server.specs.Sound.{IsSound}
use Rattle.meta_server.proofs.Going.{name_found}
use Rattle.meta_laws.specs.Calls.{Call, OpenRead, OpenWrite, OpenCut, Free, Confirm, Commit, Cut, BeginCopy, CopyDone, MergeDone, GiveUp, Create, Remove, Set, Evict, IsCopyable, after_call, confirmed, left_by}
use Rattle.meta_laws.proofs.Cases.{begin_cases, create_cases, open_cases, read_cases, remove_cases, set_cases}
use Rattle.meta_laws.proofs.Changing.{begun_valid, extended_valid, flagged_valid, intended_valid, lessened_valid, over_AreNext}
use Rattle.meta_laws.proofs.Copies.{sound_named, there_named}
use Rattle.meta_laws.proofs.Finding.{other_found, same_found}
use Rattle.meta_laws.proofs.Opens.{one_file}
use Rattle.flr_numbers.proofs.Inverting.{still_pushed}
use Rattle.flr_claims.specs.Sending.{Part}
use Rattle.flr_sole.specs.Sentences.{IsAlone, StandsAlone}
use Rattle.flr_sole.proofs.Layouts.{begun_marks, extended_marks, flagged_marks, intended_marks, lessened_marks, marks_none}

-- each part that lies in the only fresh components of a file still does
abbrev pub Spares : MetaView → MetaView → Type 0
Spares m new = (n : ℕ) (p : Part) → StandsAlone m.files n p → StandsAlone new.files n p

-- a call that ends no copy; a copy that begins may be asked for
abbrev pub IsPlain : Call → Type 0
IsPlain (BeginCopy client name what) = IsCopyOf name what × IsCopyable what
IsPlain (CopyDone key cleared) = ⊥
IsPlain (MergeDone ours theirs) = ⊥
IsPlain other = Unit {0}

pub same : (m : MetaView) → Spares m m
same m n p a = a

-- ---- single changes

-- one file is changed, in which a part of it stays in the only fresh components
pub altered : (m new : MetaView) (k : ℕ) (g : File → File) → new.files ≡ changed k g m.files → ((x : File) → (g x).number ≡ x.number) → ((x : File) (p : Part) → file_of k m.files ≡ Some x → IsAlone x.layout.components p → IsAlone (g x).layout.components p) → Spares m new
altered m new k g files number keeps n p a = subst (λ fs. StandsAlone fs n p) (sym files) (by (cases_eq n k))
  where
    by : (n ≡ k) ⊎ (n ≡ k → ⊥) → StandsAlone (changed k g m.files) n p
    by (inl own) =
        let here : file_of k m.files ≡ Some a.file = ap (λ i. file_of i m.files) (sym own) ∙ a.there in
        record { file = g a.file; there = ap (λ i. file_of i (changed k g m.files)) own ∙ same_found k g m.files a.file number here; alone = keeps a.file p here a.alone }
    by (inr apart) = record { file = a.file; there = other_found n k g m.files number apart ∙ a.there; alone = a.alone }

-- it is changed in what is no layout
pub locked : (m : MetaView) (k : ℕ) (g : File → File) → ((x : File) → (g x).number ≡ x.number) → ((x : File) → (g x).layout ≡ x.layout) → Spares m (with_change k g m)
locked m k g number layout = altered m (with_change k g m) k g refl number (λ x p here alone. subst (λ (l : Composite). IsAlone l.components p) (sym (layout x)) alone)

-- it gets another layout
pub laid : (m new : MetaView) (x : File) (l : Composite) → file_of x.number m.files ≡ Some x → new.files ≡ changed x.number (with_layout l) m.files → ((p : Part) → IsAlone x.layout.components p → IsAlone l.components p) → Spares m new
laid m new x l here files keeps = altered m new x.number (with_layout l) files (λ y. refl) (λ y p found alone. keeps p (subst (λ (z : File). IsAlone z.layout.components p) (one_file (file_of x.number m.files) y x found here) alone))

-- a file comes
pub pushed : (m : MetaView) (name : List ℕ) (size : ℕ) (l : Composite) → Spares m (with_file name size l m)
pushed m name size l n p a = record { file = a.file; there = still_pushed n m.files (record { number = m.next_file; name = name; size = size; layout = l; lock = record { cookies = []; next = 1 } }) a.file a.there; alone = a.alone }

-- a client is evicted
pub evicted : (m : MetaView) (client step : ℕ) → Spares m (with_eviction client step m)
evicted m client step n p a = record {
  file = with_evicted client a.file;
  there = find_mapped (λ (f : File). nat_eq f.number n) (with_evicted client) (λ x. refl) m.files ∙ ap (option_map (with_evicted client)) a.there;
  alone = a.alone;
}

-- ---- each call

module _ (m : MetaView) (h : IsSound m) where
  module _ (name : List ℕ) (f : File) (e : file_named name m.files ≡ Some f) where
    valid : IsValid f.layout
    valid = (sound_named m h name f e).layout

    -- the file of a name gets a layout in which no component has become fresh
    relaid : (new : MetaView) (l : Composite) → new.files ≡ changed f.number (with_layout l) m.files → ((p : Part) → IsAlone f.layout.components p → IsAlone l.components p) → Spares m new
    relaid new l files keeps = laid m new f l (there_named m h name f e) files keeps

    begun_keeps : (ids : List ℕ) (l : Composite) → IsValid l → (p : Part) → IsAlone l.components p → IsAlone (begun ids f.number m.nexts l).components p
    begun_keeps ids l v = marks_none l (begun ids f.number m.nexts l) v (begun_valid ids f.number m.nexts l h.nexts v) (begun_marks ids f.number m.nexts l)

  opened : (client : ℕ) (name : List ℕ) (range : Range) (step : ℕ) (b : Bool) → Spares m (left_by (change_opens_file client range step m name b (file_named name m.files)) m)
  opened client name range step = open_cases (Spares m) client name range step m (record {
    same = same m;
    shared = λ f e. locked m f.number (with_share client) (λ x. refl) (λ x. refl);
    intended = λ f mirror e primary. (
        let mid : MetaView = with_intent range mirror step f m in
        let l : Composite = intended range mirror f.number m.nexts f.layout in
        let first = relaid name f e mid l refl (marks_none f.layout l (valid name f e) (intended_valid range mirror f.number m.nexts f.layout h.nexts primary (valid name f e)) (intended_marks range mirror f.number m.nexts f.layout)) in
        λ n p a. locked mid f.number (with_share client) (λ x. refl) (λ x. refl) n p (first n p a)
        );
  })

  begun_copy : (client : ℕ) (name : List ℕ) (what : CopyWhat) → IsCopyOf name what → IsCopyable what → Spares m (after_call (BeginCopy client name what) m)
  begun_copy client name what copy able = begin_cases (Spares m) client name what m (record {
    same = same m;
    begins = λ ids f e free. relaid name f e (with_begin client ids f m) (begun ids f.number m.nexts f.layout) refl (begun_keeps name f e ids f.layout (valid name f e));
    adds = λ mirrors f is e free within. relaid name f e (with_change f.number (with_layout (extended mirrors (length m.nexts) f.layout)) m) (extended mirrors (length m.nexts) f.layout) refl (added mirrors f is e within);
    extends = λ mirrors ids f is e free within. (
        let l : Composite = extended mirrors (length m.nexts) f.layout in
        relaid name f e (with_begin client ids (with_layout l f) m) (begun ids f.number m.nexts l) refl (λ p a. begun_keeps name f e ids l (added_valid mirrors f is e within) p (added mirrors f is e within p a))
        );
    both = λ victim f v is e k free free_too. (
        let mid : MetaView = with_begin client [] f m in
        let first = relaid name f e mid (begun [] f.number m.nexts f.layout) refl (begun_keeps name f e [] f.layout (valid name f e)) in
        let beside : file_of v.number mid.files ≡ Some v = other_found v.number f.number (with_layout (begun [] f.number m.nexts f.layout)) m.files (λ y. refl) (apart victim f v is e k) ∙ there_named m h victim v k in
        let second = laid mid (with_begin client [] v mid) v (begun [] v.number mid.nexts v.layout) beside refl (λ p a. begun_next victim f v k p a) in
        λ n p a. second n p (first n p a)
        );
  })
    where
      added_valid : (mirrors : List MirrorSpec) (f : File) → what ≡ Extend mirrors → file_named name m.files ≡ Some f → excess f.layout (length mirrors) (part_count mirrors) m.most ≡ None → IsValid (extended mirrors (length m.nexts) f.layout)
      added_valid mirrors f is e within = extended_valid mirrors (length m.nexts) m.most f.layout (subst IsCopyable is able) h.nexts.some h.nexts.few h.most within (valid name f e)

      added : (mirrors : List MirrorSpec) (f : File) → what ≡ Extend mirrors → file_named name m.files ≡ Some f → excess f.layout (length mirrors) (part_count mirrors) m.most ≡ None → (p : Part) → IsAlone f.layout.components p → IsAlone (extended mirrors (length m.nexts) f.layout).components p
      added mirrors f is e within = marks_none f.layout (extended mirrors (length m.nexts) f.layout) (valid name f e) (added_valid mirrors f is e within) (extended_marks mirrors (length m.nexts) f.layout)

      apart : (victim : List ℕ) (f v : File) → what ≡ Victim victim → file_named name m.files ≡ Some f → file_named victim m.files ≡ Some v → v.number ≡ f.number → ⊥
      apart victim f v is e k same =
          let found : file_of f.number m.files ≡ Some v = ap (λ n. file_of n m.files) (sym same) ∙ there_named m h victim v k in
          let one : f ≡ v = one_file (file_of f.number m.files) f v (there_named m h name f e) found in
          let two : IsCopyOf name (Victim victim) = subst (IsCopyOf name) is copy in
          two (sym (name_found name m.files f e) ∙ ap (λ (y : File). y.name) one ∙ name_found victim m.files v k)

      -- the numbers of the next objects that the first begin left
      begun_next : (victim : List ℕ) (f v : File) → file_named victim m.files ≡ Some v → (p : Part) → IsAlone v.layout.components p → IsAlone (begun [] v.number (with_begin client [] f m).nexts v.layout).components p
      begun_next victim f v k =
          let nexts : List ℕ = (with_begin client [] f m).nexts in
          let good : AreNext nexts = over_AreNext (is_named []) f.number m.nexts f.layout h.nexts in
          marks_none v.layout (begun [] v.number nexts v.layout) (valid victim v k) (begun_valid [] v.number nexts v.layout good (valid victim v k)) (begun_marks [] v.number nexts v.layout)

  confirms : (file : ℕ) (cookie : Share) (b : Bool) → Spares m (confirmed file cookie b m)
  confirms file cookie true = locked m file (with_freed cookie) (λ x. refl) (λ x. refl)
  confirms file cookie false = same m

  lessens : (name : List ℕ) (mirror step : ℕ) (f : File) → file_named name m.files ≡ Some f → keeping mirror f.layout.components ≡ None → Spares m (with_break f.number step (lessened mirror f.layout) m)
  lessens name mirror step f e kept =
      let l : Composite = lessened mirror f.layout in
      relaid name f e (with_break f.number step l m) l refl (marks_none f.layout l (valid name f e) (lessened_valid mirror f.layout kept (valid name f e)) (lessened_marks mirror f.layout))

  -- each call but the ends of copies
  pub call_spares : (call : Call) → IsPlain call → Spares m (after_call call m)
  call_spares (OpenRead client name) plain = read_cases (Spares m) client name m (record { same = same m; shared = λ f e. locked m f.number (with_share client) (λ x. refl) (λ x. refl) })
  call_spares (OpenWrite client name range step) plain = opened client name range step (nat_lt most_bytes range.end)
  call_spares (OpenCut client name size step) plain = opened client name (record { start = size; end = eof }) step (nat_lt most_bytes size)
  call_spares (Free file cookie) plain = locked m file (with_freed cookie) (λ x. refl) (λ x. refl)
  call_spares (Confirm file cookie) plain = confirms file cookie (holds file cookie m)
  call_spares (Commit file cookie end) plain = locked m file (grown cookie end) (λ x. refl) (λ x. refl)
  call_spares (Cut file cookie size) plain = locked m file (shortened cookie size) (λ x. refl) (λ x. refl)
  call_spares (BeginCopy client name what) plain = begun_copy client name what plain.0 plain.1
  call_spares (CopyDone key cleared) plain = absurd plain
  call_spares (MergeDone ours theirs) plain = absurd plain
  call_spares (GiveUp key) plain = same m
  call_spares (Create name mirrors) plain = create_cases (Spares m) name mirrors m (record { same = same m; comes = λ absent room. pushed m name 0 (new_layout mirrors (length m.nexts)) })
  call_spares (Remove client name mirror to step) plain = remove_cases (Spares m) client name mirror step m (record {
    same = same m;
    goes = λ f e kept. lessens name mirror step f e kept;
    splits = λ new f e kept fresh absent room. (
        let mid : MetaView = with_break f.number step (lessened mirror f.layout) m in
        let first = lessens name mirror step f e kept in
        λ n p a. pushed mid new f.size (split_off mirror f.layout) n p (first n p a)
        );
  }) to
  call_spares (Set client name id change step) plain = set_cases (Spares m) client name id change step m (record {
    same = same m;
    marks = λ f e kept. (
        let l : Composite = flagged id change f.layout in
        relaid name f e (with_break f.number step l m) l refl (marks_none f.layout l (valid name f e) (flagged_valid id change f.layout kept (valid name f e)) (flagged_marks id change f.layout))
        );
  })
  call_spares (Evict client step) plain = evicted m client step
