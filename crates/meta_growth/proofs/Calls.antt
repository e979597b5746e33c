-- What each call raises.
use Rattle.std.proofs.Common.{◌≡◌, ℕ, ◌+◌, ◌≤◌, Bool, true, false, nat_eq, nat_lt, find, not, Option, Some, List, [], ◌∷◌, ◌++◌, length, ◌⊎◌, inl, inr, refl, sym, ap, subst, ◌∙◌, arith}
use Rattle.std.specs.List.{AllByRecursion}
use Rattle.std.proofs.lemmas.Bool.{cases_eq}
use Rattle.flr_base.specs.declared.reply.Range.{Range}
use Rattle.composite_layout.specs.declared.component.Component.{Component}
use Rattle.composite_layout.specs.declared.spec.MirrorSpec.{MirrorSpec}
use Rattle.composite_layout.specs.FlagChanges.{FlagSets}
use Rattle.composite_layout.specs.Layouts.{Composite, eof}
use Rattle.composite_layout.specs.Making.{new_layout}
use Rattle.layout_lease.specs.declared.shared.Share.{Share}
use Rattle.layout_lease.specs.Leases.{KeyView, broken_by, given}
use Rattle.layout_state.specs.Breaking.{unleased}
use Rattle.layout_state.specs.Choosing.{is_over}
use Rattle.layout_state.specs.Making.{new_targets}
use Rattle.meta_server.specs.declared.answers.CopyWhat.{CopyWhat}
use Rattle.meta_server.specs.declared.answers.CopyWhat.TheVariants.{Extend}
use Rattle.meta_server.specs.Beginning.{with_begin}
use Rattle.meta_server.specs.Closing.{grown, holds, shortened}
use Rattle.meta_server.specs.Ending.{both_given, with_merge}
use Rattle.meta_server.specs.Files.{File, MetaView, changed, file_named, file_of, new_file, same_name, with_break, with_change, with_file, with_freed, with_layout, with_share, without_file}
use Rattle.meta_server.specs.Layouts.{begun, extended, finished, flagged, intended, lessened, merged, split_off}
use Rattle.flr_base.specs.Limits.{most_bytes}
use Rattle.meta_server.specs.Opening.{change_opens_file, with_intent}
use Rattle.meta_server.proofs.Going.{ascending_filter, below_filter}
use Rattle.meta_server.proofs.Kept.{length-nexts_after}
use Rattle.meta_laws.specs.Calls.{Call, OpenRead, OpenWrite, OpenCut, Free, Confirm, Commit, Cut, BeginCopy, CopyDone, MergeDone, GiveUp, Create, Remove, Set, Evict, after_call, confirmed, left_by}
use Rattle.meta_laws.proofs.Cases.{begin_cases, create_cases, end_cases, merge_cases, open_cases, read_cases, remove_cases, set_cases}
use Rattle.meta_laws.proofs.Opens.{one_file}
use Rattle.meta_laws.proofs.Finding.{found_keeps, found_numbered, other_found, same_found}
use Rattle.script_values.specs.Work.{stripes_of_mirrors}
use Rattle.meta_growth.specs.Growth.{AreNumbered, Growth, Grows, IsUpTo, most_by_call, stripes_at, stripes_of_call, stripes_of_what, stripes_to_make, total_in, total_of}
use Rattle.meta_growth.proofs.Files.{each_kept, each_pushed, gone, pushed, relaid}
use Rattle.meta_growth.proofs.Layouts.{broken_once, extended_total, finished_total, flagged_total, intended_drawn, intended_whole, merged_total, split_total}
use Rattle.meta_growth.proofs.Stripes.{Counts, all_counts, to_make_counts, total_mirrors, total_none}
use Rattle.meta_growth.proofs.Steps.{Within, all_up_to, begins_grow, both, comes_grow, comes_numbered, evicts_grow, growth, leases_grow, lays_grow, locks_grow, nothing_grows, shares_grow, wider}

-- the growth of a call is within the most
fits : (by : Growth) (stripes : ℕ) → by.files ≤ 1 → by.keys ≤ 2 → by.generations ≤ 3 → by.cookies ≤ 1 → by.stripes ≤ stripes → Within by (most_by_call stripes)
fits by stripes files keys generations cookies within = record { files = files; keys = keys; generations = generations; cookies = cookies; stripes = within }

module _ (m : MetaView) (h : AreNumbered m) where
  -- no further than a call may
  most : (stripes : ℕ) (by : Growth) (new : MetaView) → by.files ≤ 1 → by.keys ≤ 2 → by.generations ≤ 3 → by.cookies ≤ 1 → by.stripes ≤ stripes → Grows by m new → Grows (most_by_call stripes) m new
  most stripes by new files keys generations cookies within g = wider by (most_by_call stripes) m new (fits by stripes files keys generations cookies within) g

  pub nothing_most : (stripes : ℕ) → Grows (most_by_call stripes) m m
  nothing_most stripes = most stripes (growth 0 0 0 0 0) m (omega arith) (omega arith) (omega arith) (omega arith) (omega arith) (nothing_grows m h)

  locked : (n : ℕ) (g : File → File) → ((f : File) → (g f).number ≡ f.number) → ((f : File) → (g f).layout ≡ f.layout) → ((f : File) → (g f).lock.next ≤ f.lock.next + 0) → Grows (most_by_call 0) m (with_change n g m)
  locked n g number layout next = most 0 (growth 0 0 0 0 0) (with_change n g m) (omega arith) (omega arith) (omega arith) (omega arith) (omega arith) (locks_grow m h n 0 g number layout next)

  keyed : (key : KeyView) → Grows (most_by_call 0) m (record m { leases = given key m.leases })
  keyed key = most 0 (growth 0 0 0 0 0) (record m { leases = given key m.leases }) (omega arith) (omega arith) (omega arith) (omega arith) (omega arith) (leases_grow m h (given key m.leases) refl)

  -- two keys are given back
  pub keys_grow : (ours theirs : KeyView) → Grows (most_by_call 0) m (both_given ours theirs m)
  keys_grow ours theirs =
      most 0 (growth 0 0 0 0 0) (both_given ours theirs m) (omega arith) (omega arith) (omega arith) (omega arith) (omega arith) (leases_grow m h (given theirs (given ours m.leases)) refl)

  -- ---- a file that is found

  module _ (p : File → Bool) (f : File) (e : find p m.files ≡ Some f) where
    there : file_of f.number m.files ≡ Some f
    there = found_numbered p m.files f h.ascending e

    -- its generation is one of those of all
    low : (g k : ℕ) → AllByRecursion (IsUpTo g k) m.files → f.layout.generation ≤ g
    low g k all = (found_keeps p (IsUpTo g k) m.files f e all).generation

    broken_low : (g k : ℕ) → AllByRecursion (IsUpTo g k) m.files → (unleased f.layout).generation ≤ g + 1
    broken_low g k all = let one = broken_once f.layout in let two = low g k all in omega (arith, one, two)

    -- its layout changes, and no object is made
    laid : (l : Composite) (step : ℕ) → ((g k : ℕ) → AllByRecursion (IsUpTo g k) m.files → l.generation ≤ g + 2) → ((w : Component → ℕ) → Counts w → total_in w l.components ≤ total_in w f.layout.components) → Grows (growth 0 0 2 0 0) m (with_break f.number step l m)
    laid l step generation stripes = lays_grow m h f l (broken_by f.number step m.leases) m.nexts 2 0 0 (omega arith) (record {
      there = there;
      generation = generation;
      stripes = (let few = stripes stripes_to_make to_make_counts in omega (arith, few));
      whole = (let few = stripes stripes_at all_counts in omega (arith, few));
      targets = refl;
    })

    -- an intent, and a share
    intent_grows : (client : ℕ) (range : Range) (mirror step : ℕ) → Grows (most_by_call 0) m (with_change f.number (with_share client) (with_intent range mirror step f m))
    intent_grows client range mirror step =
        let made : MetaView = with_intent range mirror step f m in
        let first : Grows (growth 0 0 2 0 0) m made = lays_grow m h f (intended range mirror f.number m.nexts f.layout) made.leases made.nexts 2 0 0 (omega arith) (record {
          there = there;
          generation = λ g k all. (let one = broken_low g k all in omega (arith, one));
          stripes = (let drawn = intended_drawn range mirror f.number m.nexts f.layout in omega (arith, drawn));
          whole = (let same = intended_whole range mirror f.number m.nexts f.layout in omega (arith, same));
          targets = length-nexts_after m.nexts (new_targets (is_over range mirror) (length m.nexts) f.number f.layout.components);
        }) in
        let last : MetaView = with_change f.number (with_share client) made in
        most 0 (growth 0 0 2 1 0) last (omega arith) (omega arith) (omega arith) (omega arith) (omega arith)
        (both (growth 0 0 2 0 0) (growth 0 0 0 1 0) m made last first (shares_grow made first.numbered f.number client))

  abbrev named : List ℕ → File → Bool
  named name f = same_name name f.name

  -- ---- opens

  shared : (n client : ℕ) → Grows (most_by_call 0) m (with_change n (with_share client) m)
  shared n client = most 0 (growth 0 0 0 1 0) (with_change n (with_share client) m) (omega arith) (omega arith) (omega arith) (omega arith) (omega arith) (shares_grow m h n client)

  read_grows : (client : ℕ) (name : List ℕ) → Grows (most_by_call 0) m (after_call (OpenRead client name) m)
  read_grows client name = read_cases (Grows (most_by_call 0) m) client name m (record { same = nothing_most 0; shared = λ f e. shared f.number client })

  open_grows : (client : ℕ) (name : List ℕ) (range : Range) (step : ℕ) (b : Bool) → Grows (most_by_call 0) m (left_by (change_opens_file client range step m name b (file_named name m.files)) m)
  open_grows client name range step = open_cases (Grows (most_by_call 0) m) client name range step m (record {
    same = nothing_most 0;
    shared = λ f e. shared f.number client;
    intended = λ f mirror e primary. intent_grows (named name) f e client range mirror step;
  })

  -- ---- copies

  begun_plain : (client : ℕ) (ids : List ℕ) (name : List ℕ) (f : File) → file_named name m.files ≡ Some f → Grows (growth 0 1 1 0 0) m (with_begin client ids f m)
  begun_plain client ids name f e = begins_grow m h client ids f f.layout 0 0 (there (named name) f e) (λ g k all. (let one = low (named name) f e g k all in omega (arith, one))) (λ w counts. omega arith)

  -- the generation and the stripes of a file to which mirrors come
  module _ (mirrors : List MirrorSpec) (name : List ℕ) (f : File) (e : file_named name m.files ≡ Some f) where
    abbrev l : Composite
    l = extended mirrors (length m.nexts) f.layout

    grown_low : (g k : ℕ) → AllByRecursion (IsUpTo g k) m.files → l.generation ≤ g + 2
    grown_low g k all = let one = broken_low (named name) f e g k all in omega (arith, one)

    grown_stripes : (w : Component → ℕ) → Counts w → total_in w l.components ≤ total_in w f.layout.components + stripes_of_mirrors (length m.nexts) mirrors
    grown_stripes w counts = let sum = extended_total w counts mirrors (length m.nexts) f.layout in omega (arith, sum)

    added_grows : Grows (most_by_call (stripes_of_mirrors (length m.nexts) mirrors)) m (with_change f.number (with_layout l) m)
    added_grows =
        let e0 : ℕ = stripes_of_mirrors (length m.nexts) mirrors in
        most e0 (growth 0 0 2 0 e0) (with_change f.number (with_layout l) m) (omega arith) (omega arith) (omega arith) (omega arith) (omega arith)
        (lays_grow m h f l m.leases m.nexts 2 0 e0 (omega arith) (record {
          there = there (named name) f e;
          generation = grown_low;
          stripes = (let more = grown_stripes stripes_to_make to_make_counts in omega (arith, more));
          whole = (let more = grown_stripes stripes_at all_counts in omega (arith, more));
          targets = refl;
        }))

    extended_grows : (client : ℕ) (ids : List ℕ) → Grows (most_by_call (stripes_of_mirrors (length m.nexts) mirrors)) m (with_begin client ids (with_layout l f) m)
    extended_grows client ids =
        let e0 : ℕ = stripes_of_mirrors (length m.nexts) mirrors in
        most e0 (growth 0 1 3 0 e0) (with_begin client ids (with_layout l f) m) (omega arith) (omega arith) (omega arith) (omega arith) (omega arith)
        (begins_grow m h client ids f l 2 e0 (there (named name) f e) grown_low grown_stripes)

  -- two leases are taken, one after the other
  both_begun : (client : ℕ) (name victim : List ℕ) (f v : File) → file_named name m.files ≡ Some f → file_named victim m.files ≡ Some v → Grows (most_by_call 0) m (with_begin client [] v (with_begin client [] f m))
  both_begun client name victim f v e k =
      most 0 (growth 0 2 2 0 0) last (omega arith) (omega arith) (omega arith) (omega arith) (omega arith)
      (both (growth 0 1 1 0 0) (growth 0 1 1 0 0) m mid last first (second (cases_eq v.number f.number)))
    where
      mid : MetaView
      mid = with_begin client [] f m

      last : MetaView
      last = with_begin client [] v mid

      first : Grows (growth 0 1 1 0 0) m mid
      first = begun_plain client [] name f e

      l : Composite
      l = begun [] f.number m.nexts f.layout

      here : file_of f.number m.files ≡ Some f
      here = there (named name) f e

      beside : file_of v.number m.files ≡ Some v
      beside = there (named victim) v k

      -- it is the same file
      twice : v ≡ f → Grows (growth 0 1 1 0 0) mid last
      twice one =
          let found : file_of f.number mid.files ≡ Some (with_layout l f) = same_found f.number (with_layout l) m.files f (λ x. refl) here in
          let again : Grows (growth 0 1 1 0 0) mid (with_begin client [] f mid) =
          begins_grow mid first.numbered client [] (with_layout l f) f.layout 0 0 found
          (λ g c all. (let now = (found_keeps (λ (y : File). nat_eq y.number f.number) (IsUpTo g c) mid.files (with_layout l f) found all).generation in omega (arith, now)))
          (λ w counts. (let same = total_none w f.number m.nexts f.layout.components in omega (arith, same))) in
          subst (λ (x : File). Grows (growth 0 1 1 0 0) mid (with_begin client [] x mid)) (sym one) again

      second : (v.number ≡ f.number) ⊎ (v.number ≡ f.number → ⊥) → Grows (growth 0 1 1 0 0) mid last
      second (inl same) = twice (one_file (file_of f.number m.files) v f (ap (λ n. file_of n m.files) (sym same) ∙ beside) here)
      second (inr apart) =
          let found : file_of v.number mid.files ≡ Some v = other_found v.number f.number (with_layout l) m.files (λ x. refl) apart ∙ beside in
          begins_grow mid first.numbered client [] v v.layout 0 0 found
          (λ g c all. (let now = (found_keeps (λ (y : File). nat_eq y.number v.number) (IsUpTo g c) mid.files v found all).generation in omega (arith, now)))
          (λ w counts. omega arith)

  begin_grows : (client : ℕ) (name : List ℕ) (what : CopyWhat) → Grows (most_by_call (stripes_of_what (length m.nexts) what)) m (after_call (BeginCopy client name what) m)
  begin_grows client name what = begin_cases (Grows (most_by_call e) m) client name what m (record {
    same = nothing_most e;
    begins = λ ids f found free. most e (growth 0 1 1 0 0) (with_begin client ids f m) (omega arith) (omega arith) (omega arith) (omega arith) (omega arith) (begun_plain client ids name f found);
    adds = λ mirrors f is found free within. named_so mirrors is (with_change f.number (with_layout (extended mirrors (length m.nexts) f.layout)) m) (added_grows mirrors name f found);
    extends = λ mirrors ids f is found free within. named_so mirrors is (with_begin client ids (with_layout (extended mirrors (length m.nexts) f.layout) f) m) (extended_grows mirrors name f found client ids);
    both = λ victim f v is found beside free free_too. wider (most_by_call 0) (most_by_call e) m (with_begin client [] v (with_begin client [] f m)) (fits (most_by_call 0) e (omega arith) (omega arith) (omega arith) (omega arith) (omega arith)) (both_begun client name victim f v found beside);
  })
    where
      e : ℕ
      e = stripes_of_what (length m.nexts) what

      named_so : (mirrors : List MirrorSpec) → what ≡ Extend mirrors → (new : MetaView) → Grows (most_by_call (stripes_of_mirrors (length m.nexts) mirrors)) m new → Grows (most_by_call e) m new
      named_so mirrors is new g = subst (λ (w : CopyWhat). Grows (most_by_call (stripes_of_what (length m.nexts) w)) m new) (sym is) g

  end_grows : (key : KeyView) (cleared : List ℕ) → Grows (most_by_call 0) m (after_call (CopyDone key cleared) m)
  end_grows key cleared = end_cases (Grows (most_by_call 0) m) key cleared m (record {
    same = nothing_most 0;
    given = keyed key;
    done = λ f held e.
        let p : File → Bool = λ y. nat_eq y.number key.file in
        let l : Composite = finished cleared f.layout in
        let new : MetaView = record m { files = changed f.number (with_layout l) m.files; leases = given key m.leases } in
        most 0 (growth 0 0 1 0 0) new (omega arith) (omega arith) (omega arith) (omega arith) (omega arith)
        (lays_grow m h f l (given key m.leases) m.nexts 1 0 0 (omega arith) (record {
          there = there p f e;
          generation = λ g k all. (let one = low p f e g k all in omega (arith, one));
          stripes = (let same = finished_total stripes_to_make to_make_counts cleared f.layout in omega (arith, same));
          whole = (let same = finished_total stripes_at all_counts cleared f.layout in omega (arith, same));
          targets = refl;
        }));
  })

  -- a file takes in another, which goes
  merged_grows : (ours theirs : KeyView) (f v : File) → file_of ours.file m.files ≡ Some f → file_of theirs.file m.files ≡ Some v → Grows (most_by_call 0) m (with_merge ours theirs m f v)
  merged_grows ours theirs f v e k = record {
    files = omega arith;
    keys = omega arith;
    each = λ g c all. each_kept (IsUpTo (g + 3) (c + 1)) (λ (x : File). not (nat_eq x.number v.number)) after (all_up_to (g + 1) (c + 0) (g + 3) (c + 1) after (omega arith) (omega arith) (laid_in.each g c all));
    stripes = (let sums = total stripes_to_make to_make_counts (cases_eq v.number f.number) in omega (arith, sums));
    whole = (let sums = total stripes_at all_counts (cases_eq v.number f.number) in omega (arith, sums));
    targets = refl;
    numbered = record { ascending = ascending_filter (λ (x : File). not (nat_eq x.number v.number)) after laid_in.numbered.ascending; below = below_filter (λ (x : File). not (nat_eq x.number v.number)) m.next_file after laid_in.numbered.below };
  }
    where
      p : File → Bool
      p y = nat_eq y.number ours.file

      q : File → Bool
      q y = nat_eq y.number theirs.file

      l : Composite
      l = merged v.layout f.layout

      after : List File
      after = changed f.number (with_layout l) m.files

      here : file_of f.number m.files ≡ Some f
      here = there p f e

      beside : file_of v.number m.files ≡ Some v
      beside = there q v k

      -- the stripes that come
      more : ℕ
      more = total_in stripes_to_make v.layout.components + total_in stripes_at v.layout.components

      laid_in : Grows (growth 0 0 1 0 more) m (record m { files = after })
      laid_in = lays_grow m h f l m.leases m.nexts 1 0 more (omega arith) (record {
        there = here;
        generation = λ g c all. (let one = low p f e g c all in let two = low q v k g c all in omega (arith, one, two));
        stripes = (let sum = merged_total stripes_to_make to_make_counts v.layout f.layout in omega (arith, sum));
        whole = (let sum = merged_total stripes_at all_counts v.layout f.layout in omega (arith, sum));
        targets = refl;
      })

      total : (w : Component → ℕ) → Counts w → (v.number ≡ f.number) ⊎ (v.number ≡ f.number → ⊥) → total_of w (without_file v.number after) ≤ total_of w m.files
      total w counts (inl same) =
          let found : file_of v.number after ≡ Some (with_layout l f) = ap (λ n. file_of n after) same ∙ same_found f.number (with_layout l) m.files f (λ x. refl) here in
          let less = gone w v.number after (with_layout l f) found in
          let sum = relaid w f.number l m.files f h.ascending here in
          omega (arith, less, sum)
      total w counts (inr apart) =
          let found : file_of v.number after ≡ Some v = other_found v.number f.number (with_layout l) m.files (λ x. refl) apart ∙ beside in
          let less = gone w v.number after v found in
          let sum = relaid w f.number l m.files f h.ascending here in
          let two = merged_total w counts v.layout f.layout in
          omega (arith, less, sum, two)

  merge_grows : (ours theirs : KeyView) → Grows (most_by_call 0) m (after_call (MergeDone ours theirs) m)
  merge_grows ours theirs = merge_cases (Grows (most_by_call 0) m) ours theirs m (record {
    same = nothing_most 0;
    given = keys_grow ours theirs;
    merges = λ f v held held_too e k. merged_grows ours theirs f v e k;
  })

  -- ---- commands of one step

  create_grows : (name : List ℕ) (mirrors : List MirrorSpec) → Grows (most_by_call (stripes_of_mirrors (length m.nexts) mirrors)) m (after_call (Create name mirrors) m)
  create_grows name mirrors = create_cases (Grows (most_by_call e) m) name mirrors m (record {
    same = nothing_most e;
    comes = λ absent room.
        most e (growth 1 0 1 1 e) (with_file name 0 (new_layout mirrors (length m.nexts)) m) (omega arith) (omega arith) (omega arith) (omega arith) (omega arith)
        (comes_grow m h name 0 (new_layout mirrors (length m.nexts)) 1 e (λ g k all. omega arith) (λ w counts. (let sum = total_mirrors w counts false (length m.nexts) 1 1 mirrors in omega (arith, sum))));
  })
    where
      e : ℕ
      e = stripes_of_mirrors (length m.nexts) mirrors

  remove_grows : (client : ℕ) (name : List ℕ) (mirror : ℕ) (to : Option (List ℕ)) (step : ℕ) → Grows (most_by_call 0) m (after_call (Remove client name mirror to step) m)
  remove_grows client name mirror to step = remove_cases (Grows (most_by_call 0) m) client name mirror step m (record {
    same = nothing_most 0;
    goes = λ f e kept. most 0 (growth 0 0 2 0 0) (with_break f.number step (lessened mirror f.layout) m) (omega arith) (omega arith) (omega arith) (omega arith) (omega arith) (goes f e);
    splits = λ name_to f e kept fresh absent room. splits name_to f e;
  }) to
    where
      goes : (f : File) → file_named name m.files ≡ Some f → Grows (growth 0 0 2 0 0) m (with_break f.number step (lessened mirror f.layout) m)
      goes f e =
          laid (named name) f e (lessened mirror f.layout) step (λ g k all. (let one = broken_low (named name) f e g k all in omega (arith, one)))
          (λ w counts. (let sum = split_total w counts mirror f.layout in omega (arith, sum)))

      splits : (name_to : List ℕ) (f : File) → file_named name m.files ≡ Some f → Grows (most_by_call 0) m (with_file name_to f.size (split_off mirror f.layout) (with_break f.number step (lessened mirror f.layout) m))
      splits name_to f e =
          let part : Composite = split_off mirror f.layout in
          let mid : MetaView = with_break f.number step (lessened mirror f.layout) m in
          let first : Grows (growth 0 0 2 0 0) m mid = goes f e in
          let total : (w : Component → ℕ) → Counts w → total_of w (mid.files ++ new_file m.next_file name_to f.size part ∷ []) ≡ total_of w m.files = λ w counts. (
          let sum = relaid w f.number (lessened mirror f.layout) m.files f h.ascending (there (named name) f e) in
          let parts = split_total w counts mirror f.layout in
          let more = pushed w mid.files (new_file m.next_file name_to f.size part) in
          omega (arith, sum, parts, more)) in
          record {
            files = omega arith;
            keys = omega arith;
            each = λ g k all.
                each_pushed (IsUpTo (g + 3) (k + 1)) mid.files (new_file m.next_file name_to f.size part) (all_up_to (g + 2) (k + 0) (g + 3) (k + 1) mid.files (omega arith) (omega arith) (first.each g k all))
                (record { generation = (let one = broken_low (named name) f e g k all in omega (arith, one)); cookie = omega arith });
            stripes = (let same = total stripes_to_make to_make_counts in omega (arith, same));
            whole = (let same = total stripes_at all_counts in omega (arith, same));
            targets = refl;
            numbered = comes_numbered mid first.numbered name_to f.size part;
          }

  set_grows : (client : ℕ) (name : List ℕ) (id : ℕ) (change : FlagSets) (step : ℕ) → Grows (most_by_call 0) m (after_call (Set client name id change step) m)
  set_grows client name id change step = set_cases (Grows (most_by_call 0) m) client name id change step m (record {
    same = nothing_most 0;
    marks = λ f e kept.
        most 0 (growth 0 0 2 0 0) (with_break f.number step (flagged id change f.layout) m) (omega arith) (omega arith) (omega arith) (omega arith) (omega arith)
        (laid (named name) f e (flagged id change f.layout) step (λ g k all. (let one = broken_low (named name) f e g k all in omega (arith, one))) (λ w counts. (let same = flagged_total w counts id change f.layout in omega (arith, same))));
  })

  confirm_grows : (file : ℕ) (cookie : Share) (b : Bool) → Grows (most_by_call 0) m (confirmed file cookie b m)
  confirm_grows file cookie true = locked file (with_freed cookie) (λ f. refl) (λ f. refl) (λ f. omega arith)
  confirm_grows file cookie false = nothing_most 0

-- each call
pub call_grows : (call : Call) (m : MetaView) → AreNumbered m → Grows (most_by_call (stripes_of_call (length m.nexts) call)) m (after_call call m)
call_grows (OpenRead client name) m h = read_grows m h client name
call_grows (OpenWrite client name range step) m h = open_grows m h client name range step (nat_lt most_bytes range.end)
call_grows (OpenCut client name size step) m h = open_grows m h client name (record { start = size; end = eof }) step (nat_lt most_bytes size)
call_grows (Free file cookie) m h = locked m h file (with_freed cookie) (λ f. refl) (λ f. refl) (λ f. omega arith)
call_grows (Confirm file cookie) m h = confirm_grows m h file cookie (holds file cookie m)
call_grows (Commit file cookie end) m h = locked m h file (grown cookie end) (λ f. refl) (λ f. refl) (λ f. omega arith)
call_grows (Cut file cookie size) m h = locked m h file (shortened cookie size) (λ f. refl) (λ f. refl) (λ f. omega arith)
call_grows (BeginCopy client name what) m h = begin_grows m h client name what
call_grows (CopyDone key cleared) m h = end_grows m h key cleared
call_grows (MergeDone ours theirs) m h = merge_grows m h ours theirs
call_grows (GiveUp key) m h = keyed m h key
call_grows (Create name mirrors) m h = create_grows m h name mirrors
call_grows (Remove client name mirror to step) m h = remove_grows m h client name mirror to step
call_grows (Set client name id change step) m h = set_grows m h client name id change step
call_grows (Evict client step) m h = most m h 0 (growth 0 0 0 0 0) (after_call (Evict client step) m) (omega arith) (omega arith) (omega arith) (omega arith) (omega arith) (evicts_grow m h client step)
