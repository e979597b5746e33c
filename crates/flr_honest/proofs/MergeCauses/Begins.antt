-- An extend by a victim that begins: the two files of that name, as they are right behind the step.
use Rattle.std.proofs.Common.{◌≡◌, ℕ, ◌-◌, ◌^◌, ◌<◌, Bool, true, false, cond, not, nat_eq, List, [], ◌∷◌, length, map, Option, None, Some, refl, sym, ap, ◌∙◌, arith}
use Rattle.std.specs.Prelude.{find, option_map}
use Rattle.std.specs.List.{list_any}
use Rattle.std.proofs.lemmas.Bool.{eqb-true, eq-eqb, false≢true}
use Rattle.composite_layout.specs.declared.component.Component.{Component}
use Rattle.composite_layout.specs.Layouts.{Composite, IsValid, eof}
use Rattle.composite_layout.specs.LookUps.{mirror_ids}
use Rattle.layout_lease.specs.Leases.{holder_of}
use Rattle.layout_lease.specs.Shares.{lowest_but}
use Rattle.layout_state.specs.declared.error.StateError.{StateError}
use Rattle.layout_state.specs.Making.{with_new_objects}
use Rattle.layout_state.specs.Marking.{is_named}
use Rattle.layout_state.specs.Mirroring.{excess}
use Rattle.mirror_select.specs.Candidates.{chosen, is_candidate}
use Rattle.mirror_select.specs.Pieces.{first_without}
use Rattle.mirror_select.proofs.Choices.{nobody_chosen}
use Rattle.meta_server.specs.declared.answers.Begun.TheVariants as begun_as
use Rattle.meta_server.specs.declared.answers.CopyWhat.TheVariants.{Victim}
use Rattle.meta_server.specs.declared.answers.Side.{Side}
use Rattle.meta_server.specs.Beginning.{copy_begins, copy_begins_file, merge_alone, merge_begins, merge_fits, merge_leased, merge_readable, side_of, with_begin}
use Rattle.meta_server.specs.Files.{File, MetaView, changed, file_named, file_of, same_name, with_layout}
use Rattle.meta_server.specs.Layouts.{begun, offline_byte}
use Rattle.meta_server.specs.Outcomes.{Gives}
use Rattle.meta_server.specs.Sound.{IsSound}
use Rattle.meta_server.proofs.Going.{name_found}
use Rattle.meta_laws.proofs.Copies.{sound_named, there_named}
use Rattle.meta_laws.proofs.Opens.{one_file}
use Rattle.flr_honest.proofs.Copied.Following.{none_passes}

-- ---- what a begin was

-- the two files of these names before, and what the begin gave; somebody may answer each byte of both
pub record HasBegunMerge (client : ℕ) (name victim : List ℕ) (m : MetaView) (ours theirs : Side) (after : MetaView) : Type 0 where
  pub f : File
  pub v : File
  pub file : file_named name m.files ≡ Some f
  pub victim_is : file_named victim m.files ≡ Some v
  pub ours_is : side_of client [] f m ≡ ours
  pub theirs_is : side_of client [] v (with_begin client [] f m) ≡ theirs
  pub after_is : with_begin client [] v (with_begin client [] f m) ≡ after
  pub our_bytes : offline_byte f.layout ≡ None
  pub their_bytes : offline_byte v.layout ≡ None

module _ (client : ℕ) (name victim : List ℕ) (m : MetaView) (ours theirs : Side) (after : MetaView) where
  -- what such a begin was
  abbrev Was : Type 0
  Was = HasBegunMerge client name victim m ours theirs after

  module _ (f v : File) (file : file_named name m.files ≡ Some f) (other : file_named victim m.files ≡ Some v) where
    -- nobody else shares a layout lock
    alone_by : (o p : Option ℕ) → offline_byte f.layout ≡ None → offline_byte v.layout ≡ None → merge_alone client m f v o p ≡ Gives (begun_as.Merge ours theirs) after → Was
    alone_by (Some holder) p a b e = absurd (cc)
    alone_by None (Some holder) a b e = absurd (cc)
    alone_by None None a b e =
        let one : side_of client [] f m ≡ ours = cc in
        let two : side_of client [] v (with_begin client [] f m) ≡ theirs = cc in
        let three : with_begin client [] v (with_begin client [] f m) ≡ after = cc in
        record { f = f; v = v; file = file; victim_is = other; ours_is = one; theirs_is = two; after_is = three; our_bytes = a; their_bytes = b }

    -- each byte has somebody to answer it
    readable_by : (o p : Option ℕ) → offline_byte f.layout ≡ o → offline_byte v.layout ≡ p → merge_readable client m f v o p ≡ Gives (begun_as.Merge ours theirs) after → Was
    readable_by (Some byte) p a b e = absurd (cc)
    readable_by None (Some byte) a b e = absurd (cc)
    readable_by None None a b e = alone_by (lowest_but client f.lock) (lowest_but client v.lock) a b e

    -- neither file is leased
    leased_by : (o p : Option ℕ) → merge_leased client m f v o p ≡ Gives (begun_as.Merge ours theirs) after → Was
    leased_by (Some holder) p e = absurd (cc)
    leased_by None (Some holder) e = absurd (cc)
    leased_by None None e = readable_by (offline_byte f.layout) (offline_byte v.layout) refl refl e

    -- the mirrors fit
    fits_by : (o : Option StateError) → merge_fits client m f v o ≡ Gives (begun_as.Merge ours theirs) after → Was
    fits_by (Some error) e = absurd (cc)
    fits_by None e = leased_by (holder_of m.leases f.number) (holder_of m.leases v.number) e

  -- the victim is there
  victim_by : (f : File) → file_named name m.files ≡ Some f → (o : Option File) → file_named victim m.files ≡ o → merge_begins client m victim f o ≡ Gives (begun_as.Merge ours theirs) after → Was
  victim_by f file None other e = absurd (cc)
  victim_by f file (Some v) other e = fits_by f v file other (excess f.layout (length (mirror_ids v.layout.components)) (length v.layout.components) m.most) e

  -- the file is there
  file_by : (o : Option File) → file_named name m.files ≡ o → copy_begins_file client m name (Victim victim) o ≡ Gives (begun_as.Merge ours theirs) after → Was
  file_by None file e = absurd (cc)
  file_by (Some f) file e = victim_by f file (file_named victim m.files) refl e

  -- a begin of two files was one
  pub has_begun : copy_begins client name (Victim victim) m ≡ Gives (begun_as.Merge ours theirs) after → Was
  has_begun e = file_by (file_named name m.files) refl e

-- ---- what it leaves

-- a change that leaves the test leaves what is found
find_mapped : (p : File → Bool) (g : File → File) → ((f : File) → p (g f) ≡ p f) → (fs : List File) → find p (map g fs) ≡ option_map g (find p fs)
find_mapped p g same [] = refl
find_mapped p g same (f ∷ fs) = (λ j. cond (same f j) (Some (g f)) (find_mapped p g same fs j)) ∙ by (p f)
  where
    by : (b : Bool) → cond b (Some (g f)) (option_map g (find p fs)) ≡ option_map g (cond b (Some f) (find p fs))
    by true = refl
    by false = refl

-- a file keeps its name under another layout
named_changed : (name : List ℕ) (n : ℕ) (l : Composite) (files : List File) → file_named name (changed n (with_layout l) files) ≡ option_map (λ (f : File). cond (nat_eq f.number n) (with_layout l f) f) (file_named name files)
named_changed name n l files = find_mapped (λ (f : File). same_name name f.name) (λ (f : File). cond (nat_eq f.number n) (with_layout l f) f) (λ f. kept f (nat_eq f.number n)) files
  where
    kept : (f : File) (b : Bool) → same_name name (cond b (with_layout l f) f).name ≡ same_name name f.name
    kept f true = refl
    kept f false = refl

-- the file of the name that gets the layout, and any other
own_changed : (name : List ℕ) (l : Composite) (files : List File) (f : File) → file_named name files ≡ Some f → file_named name (changed f.number (with_layout l) files) ≡ Some (with_layout l f)
own_changed name l files f e =
    named_changed name f.number l files ∙ ap (λ (o : Option File). option_map (λ (g : File). cond (nat_eq g.number f.number) (with_layout l g) g) o) e
    ∙ ap (λ (b : Bool). Some (cond b (with_layout l f) f)) (eq-eqb f.number f.number refl)

-- two numbers differ
not_same : (a b : ℕ) → (a ≡ b → ⊥) → nat_eq a b ≡ false
not_same a b apart = by (nat_eq a b) refl
  where
    by : (t : Bool) → nat_eq a b ≡ t → nat_eq a b ≡ false
    by true e = absurd (apart (eqb-true a b e))
    by false e = e

-- another file stays
other_changed : (name : List ℕ) (n : ℕ) (l : Composite) (files : List File) (f : File) → file_named name files ≡ Some f → (f.number ≡ n → ⊥) → file_named name (changed n (with_layout l) files) ≡ Some f
other_changed name n l files f e apart =
    named_changed name n l files ∙ ap (λ (o : Option File). option_map (λ (g : File). cond (nat_eq g.number n) (with_layout l g) g) o) e
    ∙ ap (λ (b : Bool). Some (cond b (with_layout l f) f)) (not_same f.number n apart)

-- a begin to no component makes no object
none_new : (file : ℕ) (nexts : List ℕ) (cs : List Component) → with_new_objects (is_named []) file nexts cs ≡ cs
none_new file nexts [] = refl
none_new file nexts (c ∷ cs) = ap (λ ds. c ∷ ds) (none_new file nexts cs)

-- where no byte is offline somebody may answer each
readable : (l : Composite) → offline_byte l ≡ None → (y : ℕ) → y < 2 ^ 40 → chosen l.components [] y ≡ None → ⊥
unfolding first_without
readable l none y small nobody =
    let wide : 2 ^ 40 < eof = omega arith in
    let some : not (list_any (is_candidate [] y) l.components) ≡ false = none_passes (λ (x : ℕ). not (list_any (is_candidate [] x) l.components)) 0 (eof - 0) y none (omega arith) (omega (arith, small, wide)) in
    false≢true (sym some ∙ ap not (nobody_chosen l.components [] y nobody))

module _ (client : ℕ) (name victim : List ℕ) (m : MetaView) (sound : IsSound m) (differ : name ≡ victim → ⊥) (ours theirs : Side) (after : MetaView) (after_sound : IsSound after) (h : HasBegunMerge client name victim m ours theirs after) where
  -- the server once the first lease is taken
  abbrev mid : MetaView
  mid = with_begin client [] h.f m

  -- the layouts that the begin gave
  abbrev our_layout : Composite
  our_layout = begun [] h.f.number m.nexts h.f.layout

  abbrev their_layout : Composite
  their_layout = begun [] h.v.number mid.nexts h.v.layout

  -- two files of two names have two numbers
  apart : h.f.number ≡ h.v.number → ⊥
  apart same =
      let found : file_of h.f.number m.files ≡ Some h.v = ap (λ n. file_of n m.files) same ∙ there_named m sound victim h.v h.victim_is in
      let one : h.f ≡ h.v = one_file (file_of h.f.number m.files) h.f h.v (there_named m sound name h.f h.file) found in
      differ (sym (name_found name m.files h.f h.file) ∙ ap (λ (y : File). y.name) one ∙ name_found victim m.files h.v h.victim_is)

  -- the two files as they are then
  abbrev pub our_new : File
  our_new = with_layout our_layout h.f

  abbrev pub their_new : File
  their_new = with_layout their_layout h.v

  -- they have their names
  pub our_named : file_named name after.files ≡ Some our_new
  our_named = ap (λ (x : MetaView). file_named name x.files) (sym h.after_is) ∙ other_changed name h.v.number their_layout mid.files our_new (own_changed name our_layout m.files h.f h.file) apart

  pub their_named : file_named victim after.files ≡ Some their_new
  their_named = ap (λ (x : MetaView). file_named victim x.files) (sym h.after_is) ∙ own_changed victim their_layout mid.files h.v (other_changed victim h.f.number our_layout m.files h.v h.victim_is (λ same. apart (sym same)))

  -- their layouts are valid
  pub our_valid : IsValid our_layout
  our_valid = (sound_named after after_sound name our_new our_named).layout

  pub their_valid : IsValid their_layout
  their_valid = (sound_named after after_sound victim their_new their_named).layout

  -- somebody may answer each byte of them
  pub our_answered : (y : ℕ) → y < 2 ^ 40 → chosen our_layout.components [] y ≡ None → ⊥
  our_answered y small none = readable h.f.layout h.our_bytes y small (ap (λ (cs : List Component). chosen cs [] y) (sym (none_new h.f.number m.nexts h.f.layout.components)) ∙ none)

  pub their_answered : (y : ℕ) → y < 2 ^ 40 → chosen their_layout.components [] y ≡ None → ⊥
  their_answered y small none = readable h.v.layout h.their_bytes y small (ap (λ (cs : List Component). chosen cs [] y) (sym (none_new h.v.number mid.nexts h.v.layout.components)) ∙ none)
