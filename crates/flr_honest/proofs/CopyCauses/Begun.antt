-- What the begin of a copy of one file gives: nothing where nothing is selected; or a copy to what is selected, on the file as it leaves it; or a refusal.
use Rattle.std.proofs.Common.{◌≡◌, ℕ, ◌<◌, ◌==◌, Bool, true, false, List, [], ◌∷◌, length, Option, Some, None, refl, sym, ◌∙◌, arith}
use Rattle.std.proofs.lemmas.Bool.{eqb-true, false≢true}
use Rattle.composite_layout.specs.declared.spec.MirrorSpec.{MirrorSpec}
use Rattle.composite_layout.specs.Layouts.{Composite}
use Rattle.composite_layout.specs.Making.{part_count}
use Rattle.layout_lease.specs.Leases.{holder_of}
use Rattle.layout_lease.specs.Shares.{lowest_but}
use Rattle.layout_state.specs.declared.error.StateError.{StateError}
use Rattle.layout_state.specs.declared.error.StateError.TheVariants as errors
use Rattle.layout_state.specs.Mirroring.{excess}
use Rattle.layout_state.specs.Selecting.{absent_of, selected_of}
use Rattle.meta_server.specs.declared.answers.Begun.{Begun}
use Rattle.meta_server.specs.declared.answers.Begun.TheVariants as begun_as
use Rattle.meta_server.specs.declared.answers.CopyWhat.{CopyWhat}
use Rattle.meta_server.specs.declared.answers.CopyWhat.TheVariants.{Resync, Extend, Victim}
use Rattle.meta_server.specs.declared.answers.Side.{Side}
use Rattle.meta_server.specs.Beginning.{copy_begins, copy_begins_file, extend_alone, extend_begins, extend_leased, extend_wanted, resync_alone, resync_begins, resync_leased, resync_wanted, side_of, with_begin}
use Rattle.meta_server.specs.Files.{File, MetaView, file_named, with_layout}
use Rattle.meta_server.specs.Layouts.{extended, new_ids}
use Rattle.meta_server.specs.Outcomes.{Gives, Refuses, Waits, refusal_of}
use Rattle.meta_server.specs.Outcomes as meta
use Rattle.flr_claims.specs.Refusals.{IsSuccess}
use Rattle.flr_honest.specs.Legal.Sentences.{TakesInNone}

-- the layout with what a copy brings, on so many targets
abbrev pub brought : ℕ → CopyWhat → Composite → Composite
brought targets (Extend mirrors) l = extended mirrors targets l
brought targets other l = l

-- the ids of what it copies to
abbrev pub wanted : ℕ → CopyWhat → Composite → List ℕ
wanted targets (Resync only) l = selected_of only l.components
wanted targets (Extend mirrors) l = selected_of (Some (new_ids mirrors l)) (extended mirrors targets l).components
wanted targets (Victim victim) l = []

-- the copy began on this file of the name, to copy to what is selected, of which there is some
pub record HasBegunOn (client : ℕ) (m : MetaView) (name : List ℕ) (what : CopyWhat) (side : Side) (ids : List ℕ) (after : MetaView) : Type 0 where
  pub file : File
  pub there : file_named name m.files ≡ Some file
  pub grown : Composite
  pub ids_are : wanted (length m.nexts) what file.layout ≡ ids
  pub some : 0 < length ids
  pub free : holder_of m.leases file.number ≡ None
  pub side_is : side ≡ side_of client ids (with_layout grown file) m
  pub after_is : after ≡ with_begin client ids (with_layout grown file) m

abbrev pub BeginsSo : ℕ → MetaView → List ℕ → CopyWhat → meta.Outcome Begun → Type 0
BeginsSo client m name what (Gives begun_as.Nothing after) = (f : File) × (file_named name m.files ≡ Some f) × (wanted (length m.nexts) what f.layout ≡ [])
BeginsSo client m name what (Gives (begun_as.Copy side ids) after) = HasBegunOn client m name what side ids after
BeginsSo client m name what (Gives (begun_as.Merge ours theirs) after) = ⊥
BeginsSo client m name what (Refuses answer) = IsSuccess answer → ⊥
BeginsSo client m name what (Waits holder) = Unit {0}

none_of : (ids : List ℕ) → (length ids == 0) ≡ true → ids ≡ []
none_of [] e = refl
none_of (id ∷ ids) e = let no : length (id ∷ ids) ≡ 0 = eqb-true (length (id ∷ ids)) 0 e in absurd (omega (arith, no))

some_of : (ids : List ℕ) → (length ids == 0) ≡ false → 0 < length ids
some_of [] e = absurd (false≢true (sym e))
some_of (id ∷ ids) e = omega arith

-- no refusal of a change is a success
refusal_fails : (error : StateError) → IsSuccess (refusal_of error) → ⊥
refusal_fails (errors.NoPrimary range) h = h
refusal_fails (errors.LastFresh mirror) h = h
refusal_fails (errors.NoMirrorId id) h = h
refusal_fails (errors.NoComponent id) h = h
refusal_fails errors.TooManyMirrors h = h
refusal_fails errors.TooManyComponents h = h
refusal_fails errors.NoMemory h = h

module _ (client : ℕ) (m : MetaView) (name : List ℕ) (f : File) (there : file_named name m.files ≡ Some f) where
  abbrev Ends : CopyWhat → meta.Outcome Begun → Type 0
  Ends what o = BeginsSo client m name what o

  resync_alone_so : (only : Option (List ℕ)) (ids : List ℕ) (o : Option ℕ) → selected_of only f.layout.components ≡ ids → 0 < length ids → holder_of m.leases f.number ≡ None → Ends (Resync only) (resync_alone client m f ids o)
  resync_alone_so only ids (Some holder) e some free = tt
  resync_alone_so only ids None e some free = record { file = f; there = there; grown = f.layout; ids_are = e; some = some; free = free; side_is = refl; after_is = refl }

  resync_wanted_so : (only : Option (List ℕ)) (ids : List ℕ) (b : Bool) → selected_of only f.layout.components ≡ ids → (length ids == 0) ≡ b → holder_of m.leases f.number ≡ None → Ends (Resync only) (resync_wanted client m f ids b)
  resync_wanted_so only ids true e is free = (f, there, e ∙ none_of ids is)
  resync_wanted_so only ids false e is free = resync_alone_so only ids (lowest_but client f.lock) e (some_of ids is) free

  resync_leased_so : (only : Option (List ℕ)) (o : Option ℕ) → holder_of m.leases f.number ≡ o → Ends (Resync only) (resync_leased client m only f o)
  resync_leased_so only (Some holder) free = λ h. h
  resync_leased_so only None free = let ids = selected_of only f.layout.components in resync_wanted_so only ids (length ids == 0) refl refl free

  resync_so : (only : Option (List ℕ)) (o : Option ℕ) → Ends (Resync only) (resync_begins client m only f o)
  resync_so only (Some id) = λ h. h
  resync_so only None = resync_leased_so only (holder_of m.leases f.number) refl

  module _ (mirrors : List MirrorSpec) where
    abbrev more : Composite
    more = extended mirrors (length m.nexts) f.layout

    extend_wanted_so : (ids : List ℕ) (b : Bool) → selected_of (Some (new_ids mirrors f.layout)) more.components ≡ ids → (length ids == 0) ≡ b → holder_of m.leases f.number ≡ None → Ends (Extend mirrors) (extend_wanted client m (with_layout more f) ids b)
    extend_wanted_so ids true e is free = (f, there, e ∙ none_of ids is)
    extend_wanted_so ids false e is free = record { file = f; there = there; grown = more; ids_are = e; some = some_of ids is; free = free; side_is = refl; after_is = refl }

    extend_alone_so : (o : Option ℕ) → holder_of m.leases f.number ≡ None → Ends (Extend mirrors) (extend_alone client m mirrors f o)
    extend_alone_so (Some holder) free = tt
    extend_alone_so None free = let ids : List ℕ = selected_of (Some (new_ids mirrors f.layout)) more.components in extend_wanted_so ids (length ids == 0) refl refl free

    extend_leased_so : (o : Option ℕ) → holder_of m.leases f.number ≡ o → Ends (Extend mirrors) (extend_leased client m mirrors f o)
    extend_leased_so (Some holder) free = λ h. h
    extend_leased_so None free = extend_alone_so (lowest_but client f.lock) free

    extend_so : (o : Option StateError) → Ends (Extend mirrors) (extend_begins client m mirrors f o)
    extend_so (Some error) = refusal_fails error
    extend_so None = extend_leased_so (holder_of m.leases f.number) refl

-- each begin of a copy of one file
pub begins_so : (client : ℕ) (m : MetaView) (name : List ℕ) (what : CopyWhat) → TakesInNone what → BeginsSo client m name what (copy_begins client name what m)
begins_so client m name what none = by (file_named name m.files) refl what none
  where
    by : (o : Option File) → file_named name m.files ≡ o → (w : CopyWhat) → TakesInNone w → BeginsSo client m name w (copy_begins_file client m name w o)
    by None e w k = λ h. h
    by (Some f) e (Resync only) k = resync_so client m name f e only (absent_of only f.layout.components)
    by (Some f) e (Extend mirrors) k = extend_so client m name f e mirrors (excess f.layout (length mirrors) (part_count mirrors) m.most)
    by (Some f) e (Victim victim) k = absurd k
