-- What each single thing that happens to the server raises.
use Rattle.std.proofs.Common.{◌≡◌, ℕ, ◌+◌, ◌≤◌, ◌<◌, Some, List, [], ◌∷◌, ◌++◌, length, refl, ap, ◌∙◌, arith}
use Rattle.std.specs.List.{AllByRecursion, sum}
use Rattle.composite_layout.specs.declared.component.Component.{Component}
use Rattle.composite_layout.specs.Layouts.{Composite}
use Rattle.layout_lease.specs.Leases.{TableView}
use Rattle.layout_state.specs.Making.{new_targets}
use Rattle.layout_state.specs.Marking.{is_named}
use Rattle.meta_server.specs.Beginning.{with_begin}
use Rattle.meta_server.specs.Files.{File, MetaView, AreAscending, AreBelow, changed, file_of, new_file, with_change, with_eviction, with_evicted, with_file, with_layout, with_share}
use Rattle.meta_server.specs.Layouts.{begun}
use Rattle.meta_server.proofs.Kept.{length-nexts_after}
use Rattle.meta_server.proofs.Placing.{ascending_changed, ascending_mapped, below_changed, below_mapped}
use Rattle.meta_growth.specs.Growth.{AreNumbered, Growth, Grows, IsUpTo, stripes_at, stripes_to_make, total_in}
use Rattle.meta_growth.proofs.Files.{each_changed, each_mapped, each_pushed, each_weaker, pushed, relaid, same_layouts, same_mapped}
use Rattle.meta_growth.proofs.Layouts.{begun_drawn, begun_whole}
use Rattle.meta_growth.proofs.Stripes.{Counts, all_counts, to_make_counts}

-- ---- growths

abbrev pub growth : ℕ → ℕ → ℕ → ℕ → ℕ → Growth
growth files keys generations cookies stripes = record { files = files; keys = keys; generations = generations; cookies = cookies; stripes = stripes }

-- a file with lower numbers
up_to : (a b c d : ℕ) → a ≤ c → b ≤ d → (f : File) → IsUpTo a b f → IsUpTo c d f
up_to a b c d h k f u = record { generation = omega (arith, u.generation); cookie = omega (arith, u.cookie) }

pub all_up_to : (a b c d : ℕ) (files : List File) → a ≤ c → b ≤ d → AllByRecursion (IsUpTo a b) files → AllByRecursion (IsUpTo c d) files
all_up_to a b c d files h k all = each_weaker (IsUpTo a b) (IsUpTo c d) files (up_to a b c d h k) all

-- what grows so far grows no further than that
pub record Within (by most : Growth) : Type 0 where
  pub files : by.files ≤ most.files
  pub keys : by.keys ≤ most.keys
  pub generations : by.generations ≤ most.generations
  pub cookies : by.cookies ≤ most.cookies
  pub stripes : by.stripes ≤ most.stripes

pub wider : (by most : Growth) (old new : MetaView) → Within by most → Grows by old new → Grows most old new
wider by most old new w h = record {
  files = omega (arith, h.files, w.files);
  keys = omega (arith, h.keys, w.keys);
  each = λ g k all. all_up_to (g + by.generations) (k + by.cookies) (g + most.generations) (k + most.cookies) new.files (omega (arith, w.generations)) (omega (arith, w.cookies)) (h.each g k all);
  stripes = omega (arith, h.stripes, w.stripes);
  whole = omega (arith, h.whole, w.stripes);
  targets = h.targets;
  numbered = h.numbered;
}

-- first one, then the other
pub both : (a b : Growth) (x y z : MetaView) → Grows a x y → Grows b y z → Grows (growth (a.files + b.files) (a.keys + b.keys) (a.generations + b.generations) (a.cookies + b.cookies) (a.stripes + b.stripes)) x z
both a b x y z h k = record {
  files = omega (arith, h.files, k.files);
  keys = omega (arith, h.keys, k.keys);
  each = λ g c all.
      all_up_to ((g + a.generations) + b.generations) ((c + a.cookies) + b.cookies) (g + (a.generations + b.generations)) (c + (a.cookies + b.cookies)) z.files (omega arith) (omega arith)
      (k.each (g + a.generations) (c + a.cookies) (h.each g c all));
  stripes = omega (arith, h.stripes, k.stripes);
  whole = omega (arith, h.whole, k.whole);
  targets = k.targets ∙ h.targets;
  numbered = k.numbered;
}

module _ (m : MetaView) (h : AreNumbered m) where
  -- ---- nothing, keys and cookies

  same_files : (g k a b : ℕ) → AllByRecursion (IsUpTo g k) m.files → AllByRecursion (IsUpTo (g + a) (k + b)) m.files
  same_files g k a b all = all_up_to g k (g + a) (k + b) m.files (omega arith) (omega arith) all

  -- the leases alone change
  pub leases_grow : (leases : TableView) → leases.next ≡ m.leases.next → Grows (growth 0 0 0 0 0) m (record m { leases = leases })
  leases_grow leases same = record {
    files = omega arith;
    keys = omega (arith, same);
    each = λ g k all. same_files g k 0 0 all;
    stripes = omega arith;
    whole = omega arith;
    targets = refl;
    numbered = record { ascending = h.ascending; below = h.below };
  }

  pub nothing_grows : Grows (growth 0 0 0 0 0) m m
  nothing_grows = leases_grow m.leases refl

  -- a file changes, and not its number and its layout; its cookies so far
  pub locks_grow : (n b : ℕ) (g : File → File) → ((f : File) → (g f).number ≡ f.number) → ((f : File) → (g f).layout ≡ f.layout) → ((f : File) → (g f).lock.next ≤ f.lock.next + b) → Grows (growth 0 0 0 b 0) m (with_change n g m)
  locks_grow n b g number layout next = record {
    files = omega arith;
    keys = omega arith;
    each = λ a k all.
        each_changed (IsUpTo a k) (IsUpTo (a + 0) (k + b)) n g m.files
        (λ f u. record { generation = (let same : (g f).layout.generation ≡ f.layout.generation = ap (λ (l : Composite). l.generation) (layout f) in omega (arith, same, u.generation)); cookie = (let low = next f in omega (arith, low, u.cookie)) })
        (up_to a k (a + 0) (k + b) (omega arith) (omega arith)) all;
    stripes = (let same = same_layouts stripes_to_make n g m.files layout in omega (arith, same));
    whole = (let same = same_layouts stripes_at n g m.files layout in omega (arith, same));
    targets = refl;
    numbered = record { ascending = ascending_changed n g m.files number h.ascending; below = below_changed m.next_file n g m.files number h.below };
  }

  pub shares_grow : (n client : ℕ) → Grows (growth 0 0 0 1 0) m (with_change n (with_share client) m)
  shares_grow n client = locks_grow n 1 (with_share client) (λ f. refl) (λ f. refl) (λ f. omega arith)

  pub evicts_grow : (client step : ℕ) → Grows (growth 0 0 0 0 0) m (with_eviction client step m)
  evicts_grow client step = record {
    files = omega arith;
    keys = omega arith;
    each = λ a k all. each_mapped (IsUpTo a k) (IsUpTo (a + 0) (k + 0)) (with_evicted client) m.files (λ f u. record { generation = omega (arith, u.generation); cookie = omega (arith, u.cookie) }) all;
    stripes = (let same = same_mapped stripes_to_make (with_evicted client) m.files (λ f. refl) in omega (arith, same));
    whole = (let same = same_mapped stripes_at (with_evicted client) m.files (λ f. refl) in omega (arith, same));
    targets = refl;
    numbered = record { ascending = ascending_mapped (with_evicted client) m.files (λ f. refl) h.ascending; below = below_mapped m.next_file (with_evicted client) m.files (λ f. refl) h.below };
  }

  -- ---- layouts

  -- a file that is there gets this layout, whose generation is so far above those of all files, and new objects get numbers
  pub record IsLaid (f : File) (l : Composite) (nexts : List ℕ) (a e : ℕ) : Type 0 where
    pub there : file_of f.number m.files ≡ Some f
    pub generation : (g k : ℕ) → AllByRecursion (IsUpTo g k) m.files → l.generation ≤ g + a
    pub stripes : sum nexts + total_in stripes_to_make l.components ≤ sum m.nexts + (total_in stripes_to_make f.layout.components + e)
    pub whole : total_in stripes_at l.components ≤ total_in stripes_at f.layout.components + e
    pub targets : length nexts ≡ length m.nexts

  pub lays_grow : (f : File) (l : Composite) (leases : TableView) (nexts : List ℕ) (a b e : ℕ) → leases.next ≤ m.leases.next + b → IsLaid f l nexts a e
      → Grows (growth 0 b a 0 e) m (record m { files = changed f.number (with_layout l) m.files; leases = leases; nexts = nexts })
  lays_grow f l leases nexts a b e keys laid = record {
    files = omega arith;
    keys = keys;
    each = λ g k all.
        each_changed (IsUpTo g k) (IsUpTo (g + a) (k + 0)) f.number (with_layout l) m.files
        (λ x u. record { generation = laid.generation g k all; cookie = omega (arith, u.cookie) })
        (up_to g k (g + a) (k + 0) (omega arith) (omega arith)) all;
    stripes = (let sums = relaid stripes_to_make f.number l m.files f h.ascending laid.there in let made = laid.stripes in omega (arith, sums, made));
    whole = (let sums = relaid stripes_at f.number l m.files f h.ascending laid.there in let made = laid.whole in omega (arith, sums, made));
    targets = laid.targets;
    numbered = record { ascending = ascending_changed f.number (with_layout l) m.files (λ x. refl) h.ascending; below = below_changed m.next_file f.number (with_layout l) m.files (λ x. refl) h.below };
  }

  -- a file comes
  pub comes_numbered : (name : List ℕ) (size : ℕ) (l : Composite) → AreNumbered (with_file name size l m)
  comes_numbered name size l = record { ascending = ascending m.files h.ascending h.below; below = below m.files h.below }
    where
      last : File
      last = new_file m.next_file name size l

      above : (n : ℕ) (fs : List File) → AllByRecursion (λ (f : File). n < f.number) fs → n < m.next_file → AllByRecursion (λ (f : File). n < f.number) (fs ++ last ∷ [])
      above n [] all less = (less, tt)
      above n (f ∷ fs) all less = (all.0, above n fs all.1 less)

      ascending : (fs : List File) → AreAscending fs → AreBelow m.next_file fs → AreAscending (fs ++ last ∷ [])
      ascending [] a b = (tt, tt)
      ascending (f ∷ fs) a b = (above f.number fs a.0 b.0, ascending fs a.1 b.1)

      below : (fs : List File) → AreBelow m.next_file fs → AreBelow (m.next_file + 1) (fs ++ last ∷ [])
      below [] b = (omega arith, tt)
      below (f ∷ fs) b = (omega (arith, b.0), below fs b.1)

  pub comes_grow : (name : List ℕ) (size : ℕ) (l : Composite) (a e : ℕ) → ((g k : ℕ) → AllByRecursion (IsUpTo g k) m.files → l.generation ≤ g + a) → ((w : Component → ℕ) → Counts w → total_in w l.components ≤ e) → Grows (growth 1 0 a 1 e) m (with_file name size l m)
  comes_grow name size l a e generation stripes = record {
    files = omega arith;
    keys = omega arith;
    each = λ g k all. each_pushed (IsUpTo (g + a) (k + 1)) m.files (new_file m.next_file name size l) (same_files g k a 1 all) (record { generation = generation g k all; cookie = omega arith });
    stripes = (let sum = pushed stripes_to_make m.files (new_file m.next_file name size l) in let few = stripes stripes_to_make to_make_counts in omega (arith, sum, few));
    whole = (let sum = pushed stripes_at m.files (new_file m.next_file name size l) in let few = stripes stripes_at all_counts in omega (arith, sum, few));
    targets = refl;
    numbered = comes_numbered name size l;
  }

  -- ---- a copy begins

  -- with a layout that is that of the file, or becomes it
  pub begins_grow : (client : ℕ) (ids : List ℕ) (f : File) (l : Composite) (a e : ℕ) → file_of f.number m.files ≡ Some f → ((g k : ℕ) → AllByRecursion (IsUpTo g k) m.files → l.generation ≤ g + a) → ((w : Component → ℕ) → Counts w → total_in w l.components ≤ total_in w f.layout.components + e)
      → Grows (growth 0 1 (a + 1) 0 e) m (with_begin client ids (with_layout l f) m)
  begins_grow client ids f l a e there generation stripes =
      lays_grow f (begun ids f.number m.nexts l) (with_begin client ids (with_layout l f) m).leases (with_begin client ids (with_layout l f) m).nexts (a + 1) 1 e (omega arith) (record {
        there = there;
        generation = λ g k all. (let low = generation g k all in omega (arith, low));
        stripes = (let made = begun_drawn ids f.number m.nexts l in let few = stripes stripes_to_make to_make_counts in omega (arith, made, few));
        whole = (let same = begun_whole ids f.number m.nexts l in let few = stripes stripes_at all_counts in omega (arith, same, few));
        targets = length-nexts_after m.nexts (new_targets (is_named ids) (length m.nexts) f.number l.components);
      })
