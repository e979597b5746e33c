-- The shapes of objects in files that changed.
use Rattle.std.proofs.Common.{◌≡◌, ℕ, ◌≤◌, Some, List, [], ◌∷◌, ◌++◌, ◌⊎◌, inl, inr, refl, ap, subst, ◌∙◌, arith, get_or}
use Rattle.flr_base.specs.declared.reply.ObjectId.{ObjectId}
use Rattle.composite_layout.specs.Layouts.{Composite}
use Rattle.meta_server.specs.Files.{File, MetaView, changed, file_of, with_change, with_eviction, with_layout}
use Rattle.flr_numbers.specs.Frames.{IsUnmade}
use Rattle.flr_numbers.proofs.Inverting.{WasFound, was_evicted, was_found, was_pushed}
use Rattle.flr_shapes.specs.Sentences.{HasShape, IsShapeOf, Keeps, Shape}

-- a shape in the layout of a file that is there
pub at_file : (m : MetaView) (o : ObjectId) (shape : Shape) (n : ℕ) (x y : File) → file_of n m.files ≡ Some x → y.layout ≡ x.layout → HasShape o shape y.layout → IsShapeOf m o shape
at_file m o shape n x y there same h = record { number = n; file = x; there = there; has = subst (HasShape o shape) same h }

-- ---- one change after another

pub same : (m : MetaView) → Keeps m m
same m o shape is = inr is

pub then : (a b c : MetaView) → ((target : ℕ) → get_or a.nexts target 0 ≤ get_or b.nexts target 0) → Keeps a b → Keeps b c → Keeps a c
then a b c grow h k o shape is = by (k o shape is)
  where
    by : IsUnmade b o ⊎ IsShapeOf b o shape → IsUnmade a o ⊎ IsShapeOf a o shape
    by (inl late) = inl (let less = grow o.target in omega (arith, less, late))
    by (inr was) = h o shape was

-- ---- single changes

-- the files stay
pub kept : (m new : MetaView) → new.files ≡ m.files → Keeps m new
kept m new files o shape is = inr (at_file m o shape is.number is.file is.file (subst (λ (fs : List File). file_of is.number fs ≡ Some is.file) files is.there) refl is.has)

-- a file changes in what is no layout
pub locked : (m : MetaView) (n : ℕ) (g : File → File) → ((x : File) → (g x).number ≡ x.number) → ((x : File) → (g x).layout ≡ x.layout) → Keeps m (with_change n g m)
locked m n g number layout o shape is = by (was_found is.number n g m.files is.file number is.there)
  where
    by : WasFound is.number n g m.files is.file → IsUnmade m o ⊎ IsShapeOf m o shape
    by w = elim w.is [
      | inl here ↦ inr (at_file m o shape is.number w.before is.file w.there (ap (λ (x : File). x.layout) here.1 ∙ layout w.before) is.has)
      | inr there ↦ inr (at_file m o shape is.number w.before is.file w.there (ap (λ (x : File). x.layout) there.1) is.has)
    ]

-- a file gets another layout
pub laid : (m new : MetaView) (x : File) (l : Composite) → file_of x.number m.files ≡ Some x → new.files ≡ changed x.number (with_layout l) m.files
    → ((o : ObjectId) (shape : Shape) → HasShape o shape l → (get_or m.nexts o.target 0 ≤ o.number) ⊎ HasShape o shape x.layout) → Keeps m new
laid m new x l here files had o shape is = by (was_found is.number x.number (with_layout l) m.files is.file (λ y. refl) (subst (λ (fs : List File). file_of is.number fs ≡ Some is.file) files is.there))
  where
    old : (get_or m.nexts o.target 0 ≤ o.number) ⊎ HasShape o shape x.layout → IsUnmade m o ⊎ IsShapeOf m o shape
    old (inl late) = inl late
    old (inr had) = inr (at_file m o shape x.number x x here refl had)

    by : WasFound is.number x.number (with_layout l) m.files is.file → IsUnmade m o ⊎ IsShapeOf m o shape
    by w = elim w.is [
      | inl mine ↦ old (had o shape (subst (HasShape o shape) (ap (λ (y : File). y.layout) mine.1) is.has))
      | inr other ↦ inr (at_file m o shape is.number w.before is.file w.there (ap (λ (y : File). y.layout) other.1) is.has)
    ]

-- a file comes, whose objects had their shapes
pub pushed : (m mid : MetaView) (x : File) (next : ℕ) → Keeps m mid → ((o : ObjectId) (shape : Shape) → HasShape o shape x.layout → IsShapeOf m o shape) → Keeps m (record mid { files = mid.files ++ x ∷ []; next_file = next })
pushed m mid x next h had o shape is = by (was_pushed is.number mid.files x is.file is.there)
  where
    by : (file_of is.number mid.files ≡ Some is.file) ⊎ (is.file ≡ x) → IsUnmade m o ⊎ IsShapeOf m o shape
    by (inl before) = h o shape (record { number = is.number; file = is.file; there = before; has = is.has })
    by (inr new) = inr (had o shape (subst (λ (y : File). HasShape o shape y.layout) new is.has))

-- a client is evicted
pub evicted : (m : MetaView) (client step : ℕ) → Keeps m (with_eviction client step m)
evicted m client step o shape is = let w = was_evicted is.number client m.files is.file is.there in inr (at_file m o shape is.number w.before is.file w.there (ap (λ (x : File). x.layout) w.is) is.has)
