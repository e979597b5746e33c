-- Where the fresh components of files come from in each change of one file.
use Rattle.std.proofs.Common.{◌≡◌, ℕ, ◌≤◌, false, Some, List, [], ◌∷◌, ◌++◌, ◌⊎◌, inl, inr, refl, sym, ap, subst, ◌∙◌, get_or}
use Rattle.std.specs.Prelude.{Contains}
use Rattle.composite_layout.specs.declared.component.Component.{Component}
use Rattle.composite_layout.specs.Layouts.{Composite}
use Rattle.meta_server.specs.Files.{File, MetaView, changed, file_of, with_change, with_eviction, with_layout}
use Rattle.mirror_select.proofs.Least.{from_contains, to_contains}
use Rattle.flr_numbers.proofs.Inverting.{WasFound, was_evicted, was_found, was_pushed}
use Rattle.flr_bytes.specs.Origins.{IsFilledIn, WasFreshIn}
use Rattle.flr_honest.proofs.Origins.Layouts.{AllStay, IsFilled, IsLate, WasFresh, all_earlier, all_stood, all_then}

-- the file with this number was there, and each fresh component of its layout was fresh in it, with the same objects or without any
pub record WasThere (m : MetaView) (n : ℕ) (l : Composite) : Type 0 where
  pub file : File
  pub there : file_of n m.files ≡ Some file
  pub stay : AllStay m.nexts file.layout.components l.components

-- so it is of each file that is there afterwards
abbrev pub Keeps : MetaView → MetaView → Type 0
Keeps m new = (n : ℕ) (f : File) → file_of n new.files ≡ Some f → WasThere m n f.layout

-- a file whose layout stays
pub still : (m : MetaView) (n : ℕ) (f g : File) → file_of n m.files ≡ Some g → f.layout ≡ g.layout → WasThere m n f.layout
still m n f g there is = record { file = g; there = there; stay = subst (λ (l : Composite). AllStay m.nexts g.layout.components l.components) (sym is) (all_stood m.nexts g.layout.components) }

-- ---- one change after another

-- nothing changes
pub same : (m : MetaView) → Keeps m m
same m n f there = still m n f f there refl

-- two changes, between which no next number falls
pub then : (a b c : MetaView) → ((target : ℕ) → get_or a.nexts target 0 ≤ get_or b.nexts target 0) → Keeps a b → Keeps b c → Keeps a c
then a b c grow h k n f there =
    let late = k n f there in
    let early = h n late.file late.there in
    record {
      file = early.file;
      there = early.there;
      stay = all_then a.nexts early.file.layout.components late.file.layout.components f.layout.components early.stay (all_earlier a.nexts b.nexts late.file.layout.components f.layout.components grow late.stay);
    }

-- ---- single changes

-- the files stay
pub kept : (m new : MetaView) → new.files ≡ m.files → Keeps m new
kept m new files n f there = still m n f f (subst (λ (fs : List File). file_of n fs ≡ Some f) files there) refl

-- a file changes in what is no layout
pub locked : (m : MetaView) (k : ℕ) (g : File → File) → ((x : File) → (g x).number ≡ x.number) → ((x : File) → (g x).layout ≡ x.layout) → Keeps m (with_change k g m)
locked m k g number layout n f there = by (was_found n k g m.files f number there)
  where
    by : WasFound n k g m.files f → WasThere m n f.layout
    by w = elim w.is [
      | inl here ↦ still m n f w.before w.there (ap (λ (x : File). x.layout) here.1 ∙ layout w.before)
      | inr other ↦ still m n f w.before w.there (ap (λ (x : File). x.layout) other.1)
    ]

-- a file gets another layout: what holds of each file that stays, and of that one, holds of each
pub relaid : (m new : MetaView) (x : File) (l : Composite) (P : ℕ → File → Type 0) → file_of x.number m.files ≡ Some x → new.files ≡ changed x.number (with_layout l) m.files
    → ((n : ℕ) (f : File) → WasThere m n f.layout → P n f) → ((f : File) → f.layout ≡ l → P x.number f) → (n : ℕ) (f : File) → file_of n new.files ≡ Some f → P n f
relaid m new x l P here files others own n f there = by (was_found n x.number (with_layout l) m.files f (λ y. refl) (subst (λ (fs : List File). file_of n fs ≡ Some f) files there))
  where
    by : WasFound n x.number (with_layout l) m.files f → P n f
    by w = elim w.is [
      | inl mine ↦ subst (λ (k : ℕ). P k f) (sym mine.0) (own f (ap (λ (y : File). y.layout) mine.1))
      | inr other ↦ others n f (still m n f w.before w.there (ap (λ (y : File). y.layout) other.1))
    ]

-- in which each fresh component was fresh before
pub laid : (m new : MetaView) (x : File) (l : Composite) → file_of x.number m.files ≡ Some x → new.files ≡ changed x.number (with_layout l) m.files → AllStay m.nexts x.layout.components l.components → Keeps m new
laid m new x l here files stay = relaid m new x l (λ n f. WasThere m n f.layout) here files (λ n f was. was) (λ f is. record { file = x; there = here; stay = subst (λ (k : Composite). AllStay m.nexts x.layout.components k.components) (sym is) stay })

-- a client is evicted
pub evicted : (m : MetaView) (client step : ℕ) → Keeps m (with_eviction client step m)
evicted m client step n f there = let w = was_evicted n client m.files f there in still m n f w.before w.there (ap (λ (x : File). x.layout) w.is)

-- a file comes: what holds of each that was there, and of the new one, holds of each
pub pushed : (m mid : MetaView) (x : File) (next : ℕ) (P : ℕ → File → Type 0) → ((n : ℕ) (f : File) → file_of n mid.files ≡ Some f → P n f) → ((n : ℕ) → file_of n (mid.files ++ x ∷ []) ≡ Some x → P n x) → (n : ℕ) (f : File) → file_of n (record mid { files = mid.files ++ x ∷ []; next_file = next }).files ≡ Some f → P n f
pushed m mid x next P old new n f there = by (was_pushed n mid.files x f there)
  where
    by : (file_of n mid.files ≡ Some f) ⊎ (f ≡ x) → P n f
    by (inl before) = old n f before
    by (inr is) = subst (P n) (sym is) (new n (subst (λ (y : File). file_of n (mid.files ++ x ∷ []) ≡ Some y) is there))

-- ---- a fresh component of a file

-- it was fresh among those of a file
pub fresh_in : (m : MetaView) (n : ℕ) (f : File) (d : Component) → file_of n m.files ≡ Some f → WasFresh f.layout.components d → WasFreshIn m n d
fresh_in m n f d there w = record { was = record { file = f; there = there; component = w.component; listed = to_contains f.layout.components w.component w.listed; same = w.same }; fresh = w.fresh }

-- it was fresh there, with the same objects or without any
pub stays_in : (m : MetaView) (n : ℕ) (l : Composite) (d : Component) → WasThere m n l → Contains l.components d → d.flags.stale ≡ false → WasFreshIn m n d ⊎ IsFilledIn m n d
stays_in m n l d was listed fresh = by (was.stay d (from_contains l.components d listed) fresh)
  where
    by : WasFresh was.file.layout.components d ⊎ IsFilled (IsLate m.nexts) was.file.layout.components d → WasFreshIn m n d ⊎ IsFilledIn m n d
    by (inl w) = inl (fresh_in m n was.file d was.there w)
    by (inr w) = inr (record {
      file = was.file;
      there = was.there;
      component = w.component;
      listed = to_contains was.file.layout.components w.component w.listed;
      fresh = w.fresh;
      none = w.none;
      extent = w.extent;
      unmade = λ o has. w.made o (from_contains d.objects o has);
    })
