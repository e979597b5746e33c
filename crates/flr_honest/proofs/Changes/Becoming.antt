-- What a call of the metadata server makes of each file is what its command is for, and stale stays but for the end of a copy.
use Rattle.std.proofs.Common.{◌≡◌, ℕ, ◌==◌, Bool, true, false, cond, nat_eq, Some, List, [], ◌∷◌, length, ◌⊎◌, inl, inr, refl, sym, ap, subst, ◌∙◌, arith}
use Rattle.std.specs.Prelude.{Contains}
use Rattle.std.specs.Cmp.Lexicographic.{other_text, same_text}
use Rattle.std.proofs.lemmas.Bool.{cases_Bool, eqb-true}
use Rattle.composite_layout.specs.declared.component.Component.{Component}
use Rattle.composite_layout.specs.declared.spec.MirrorSpec.{MirrorSpec}
use Rattle.composite_layout.specs.Layouts.{Composite}
use Rattle.layout_state.specs.Making.{with_new_objects}
use Rattle.layout_state.specs.Marking.{is_named}
use Rattle.script_values.specs.declared.command.Command.{Command}
use Rattle.meta_server.specs.Files.{File, MetaView, file_named, file_of, same_name}
use Rattle.meta_server.specs.Layouts.{begun, finished}
use Rattle.meta_server.specs.Sound.{AreNamedApart}
use Rattle.meta_laws.proofs.Finding.{found_keeps}
use Rattle.mirror_select.proofs.Least.{to_contains}
use Rattle.flr_steps.specs.declared.client.Running.{Running}
use Rattle.flr_claims.specs.Steps.{IsChangeBy, IsExtended, IsKeptOrChanged, IsMadeBy, IsTakenIn, files_of}
use Rattle.layout_lease.specs.Leases.{KeyView}
use Rattle.flr_honest.proofs.Changes.Asking.{EndsCopy}
use Rattle.flr_honest.proofs.Changes.Staying.{AllAsStale, StaysStale, all_stood}

-- ---- names

-- a name is the same as itself
same_itself : (name : List ℕ) → same_name name name ≡ true
same_itself name = elim (cases_Bool (same_name name name)) as (λ _. same_name name name ≡ true) [
  | inl is ↦ is
  | inr isnt ↦ absurd (other_text name name (sym isnt) refl)
]

-- a file that is found by its number is found by its name
pub named_numbered : (n : ℕ) (fs : List File) (f : File) → AreNamedApart fs → file_of n fs ≡ Some f → file_named f.name fs ≡ Some f
named_numbered n [] f apart e = absurd (cc e)
named_numbered n (x ∷ xs) f apart e = by (nat_eq x.number n) e (named_numbered n xs f apart.1)
  where
    other : (b : Bool) → same_name f.name x.name ≡ b → (x.name ≡ f.name → ⊥) → file_named f.name xs ≡ Some f → cond b (Some x) (file_named f.name xs) ≡ Some f
    other true is unlike rest = absurd (unlike (sym (same_text f.name x.name (sym is))))
    other false is unlike rest = rest

    by : (b : Bool) → cond b (Some x) (file_of n xs) ≡ Some f → (file_of n xs ≡ Some f → file_named f.name xs ≡ Some f) → cond (same_name f.name x.name) (Some x) (file_named f.name xs) ≡ Some f
    by true k rest =
        let same : x ≡ f = cc in
        let is : same_name f.name x.name ≡ true = ap (λ (y : File). same_name f.name y.name) same ∙ same_itself f.name in
        (λ j. cond (is j) (Some x) (file_named f.name xs)) ∙ ap (λ (y : File). Some y) same
    by false k rest = other (same_name f.name x.name) refl (found_keeps (λ (y : File). nat_eq y.number n) (λ (y : File). x.name ≡ y.name → ⊥) xs f k apart.0) (rest k)

-- the first of some names
pub first_of : (name other : List ℕ) (more : List (List ℕ)) → other ≡ name → Contains (name ∷ more) other
first_of name other more same = to_contains (name ∷ more) other (inl (sym same))

-- the second of two names
pub second_of : (name victim other : List ℕ) → other ≡ victim → Contains (name ∷ victim ∷ []) other
second_of name victim other same = to_contains (name ∷ victim ∷ []) other (inr (inl (sym same)))

-- ---- layouts

-- where nothing is to have objects, nothing gets any
none_filled : (file : ℕ) (nexts : List ℕ) (cs : List Component) → with_new_objects (is_named []) file nexts cs ≡ cs
none_filled file nexts [] = refl
none_filled file nexts (c ∷ cs) = ap (λ (xs : List Component). c ∷ xs) (none_filled file nexts cs)

-- so the begin of a copy to nothing is the same whatever the next numbers are
pub begun_none : (file : ℕ) (nexts others : List ℕ) (l : Composite) → begun [] file nexts l ≡ begun [] file others l
begun_none file nexts others l = ap (λ (cs : List Component). record (begun [] file others l) { components = cs }) (none_filled file nexts l.components ∙ sym (none_filled file others l.components))

-- where no component is selected the mirrors come alone
pub added_alone : (m : MetaView) (f : File) (new : Composite) (spec : List MirrorSpec) (added : Composite) (ids : List ℕ) → (length ids == 0) ≡ true → new ≡ added → IsExtended m f new spec added ids
added_alone m f new spec added [] none is = is
added_alone m f new spec added (id ∷ ids) none is = (let some : length (id ∷ ids) ≡ 0 = eqb-true (length (id ∷ ids)) 0 none in absurd (omega (arith, some)))

-- else a copy begins with them
pub added_begun : (m : MetaView) (f : File) (new : Composite) (spec : List MirrorSpec) (added : Composite) (ids : List ℕ) → (length ids == 0) ≡ false → new ≡ begun ids f.number m.nexts added → IsExtended m f new spec added ids
added_begun m f new spec added [] some is = absurd (cc some)
added_begun m f new spec added (id ∷ ids) some is = is

-- ---- what becomes of a file

module _ (m : MetaView) (asked : Command) (c : ℕ) (call : Running) where
  -- the copy ended that is told this file, and cleared these components
  pub record IsFinished (f g : File) : Type 0 where
    pub key : KeyView
    pub cleared : List ℕ
    pub ends : EndsCopy asked c call key cleared
    pub named : f.name ≡ ends.copy.name
    pub own : key.file ≡ f.number
    pub layout : g.layout ≡ finished cleared f.layout

  -- a file stays as the command is to leave it, and what was stale in it is so still, or a copy ended that cleared it
  pub record Becomes (f g : File) : Type 0 where
    pub named : g.name ≡ f.name
    pub kept : IsKeptOrChanged m asked f g
    pub stale : StaysStale f.layout.components g.layout.components ⊎ IsFinished f g

  -- one whose name and layout stay
  pub keeps : (f g : File) → g.name ≡ f.name → g.layout ≡ f.layout → Becomes f g
  keeps f g name layout = record {
    named = name;
    kept = inl layout;
    stale = inl (inl (subst (λ (l : Composite). AllAsStale f.layout.components l.components) (sym layout) (all_stood f.layout.components)));
  }

  -- and one that stays as it is
  pub idle : (f : File) → Becomes f f
  idle f = keeps f f refl refl

  -- one that the command changes
  pub becomes : (a : Command) → asked ≡ a → (f g : File) → g.name ≡ f.name → Contains (files_of a) f.name → IsChangeBy m f g.layout a → StaysStale f.layout.components g.layout.components → Becomes f g
  becomes a is f g name about change stale = record {
    named = name;
    kept = inr (subst (λ (x : Command). Contains (files_of x) f.name × IsChangeBy m f g.layout x) (sym is) (about, change));
    stale = inl stale;
  }

  -- one whose copy ends
  pub ends : (a : Command) → asked ≡ a → (f g : File) → g.name ≡ f.name → Contains (files_of a) f.name → IsChangeBy m f g.layout a → IsFinished f g → Becomes f g
  ends a is f g name about change finish = record {
    named = name;
    kept = inr (subst (λ (x : Command). Contains (files_of x) f.name × IsChangeBy m f g.layout x) (sym is) (about, change));
    stale = inr finish;
  }

  -- a file that comes is made by the command
  abbrev pub Made : File → Type 0
  Made g = IsMadeBy m g asked

  -- and one that goes is taken in by it
  abbrev pub Gone : File → Type 0
  Gone f = IsTakenIn asked f
