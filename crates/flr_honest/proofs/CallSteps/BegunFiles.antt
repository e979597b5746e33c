-- Right behind the step with which a copy began its files are those that were got, and its client has their leases.
use Rattle.std.proofs.Common.{◌≡◌, ℕ, Bool, true, false, cond, nat_eq, Option, Some, None, List, [], ◌∷◌, ◌++◌, find, length, inl, inr, refl, sym, ap, subst, ◌∙◌, ◌⊎◌}
use Rattle.std.specs.Prelude.{option_map}
use Rattle.layout_lease.specs.Leases.{TableView, holder_of, is_lease_of, lease_for, taken}
use Rattle.layout_lease.specs.declared.lease.Lease.{Lease}
use Rattle.call_steps.specs.Runs.{CallStep, Leaves, goes_on}
use Rattle.call_steps.specs.Servers.{Servers}
use Rattle.call_steps.specs.Steps.{Outcome, Going}
use Rattle.composite_layout.specs.Layouts.{Composite}
use Rattle.meta_server.specs.declared.answers.Begun.{Begun}
use Rattle.meta_server.specs.declared.answers.Begun.TheVariants as begun_as
use Rattle.meta_server.specs.declared.answers.CopyWhat.{CopyWhat}
use Rattle.meta_server.specs.declared.answers.CopyWhat.TheVariants.{Victim}
use Rattle.meta_server.specs.Beginning.{copy_begins, side_of, with_begin}
use Rattle.meta_server.specs.Conditions.{IsCopyOf}
use Rattle.meta_server.specs.Files.{File, MetaView, changed, file_named, file_of, same_name, with_layout}
use Rattle.meta_server.specs.Layouts.{begun, extended}
use Rattle.meta_server.specs.Outcomes.{Gives, Refuses, Waits}
use Rattle.meta_server.specs.Outcomes as meta
use Rattle.meta_server.specs.Sound.{IsSound}
use Rattle.meta_server.proofs.Going.{name_found}
use Rattle.meta_server.proofs.Leasing.{nat_eq_other}
use Rattle.meta_server.proofs.Placing.{nat_eq_same}
use Rattle.meta_laws.proofs.Finding.{found_numbered}
use Rattle.resync_copy.specs.declared.phase.CopyAt.{CopyAt}
use Rattle.resync_copy.specs.declared.phase.CopyAt.TheVariants as at
use Rattle.resync_copy.specs.Calls.{CopyView}
use Rattle.resync_copy.specs.Comparing.{comparing_of}
use Rattle.resync_copy.specs.Copies.{copy_on, fences_from}
use Rattle.resync_copy.specs.Merges.{merge_fences_from, merge_on}
use Rattle.resync_copy.specs.Steps.{begins, copy_at, copy_step}
use Rattle.resync_copy.specs.Views.{begun_copy}
use Rattle.flr_numbers.proofs.Coming.{begin_cases}
use Rattle.flr_honest.specs.CallSteps.BegunFiles.{AreBegunAs, HasBegunCopy, HasBegunMerge, IsBegunAs}
use Rattle.flr_honest.proofs.CallSteps.OpenedFiles.{named_changed}

-- ---- files

-- a file is found as before where another one is changed
named_other : (name : List ℕ) (n : ℕ) (g : File → File) (files : List File) (f : File) → ((x : File) → (g x).name ≡ x.name) → file_named name files ≡ Some f → (f.number ≡ n → ⊥) → file_named name (changed n g files) ≡ Some f
named_other name n g [] f keeps e apart = absurd (cc)
named_other name n g (x ∷ xs) f keeps e apart = by (same_name name x.name) refl e (λ more. named_other name n g xs f keeps more apart)
  where
    name_kept : (b : Bool) → same_name name (cond b (g x) x).name ≡ same_name name x.name
    name_kept true = ap (λ (k : List ℕ). same_name name k) (keeps x)
    name_kept false = refl

    by : (b : Bool) → same_name name x.name ≡ b → cond b (Some x) (file_named name xs) ≡ Some f → (file_named name xs ≡ Some f → file_named name (changed n g xs) ≡ Some f)
        → cond (same_name name (cond (nat_eq x.number n) (g x) x).name) (Some (cond (nat_eq x.number n) (g x) x)) (file_named name (changed n g xs)) ≡ Some f
    by true same e rest =
        let one : x ≡ f = cc in
        let here : nat_eq x.number n ≡ false = nat_eq_other x.number n (λ is. apart (ap (λ (y : File). y.number) (sym one) ∙ is)) in
        ap (λ (b : Bool). cond b (Some (cond (nat_eq x.number n) (g x) x)) (file_named name (changed n g xs))) (name_kept (nat_eq x.number n) ∙ same)
        ∙ ap (λ (b : Bool). Some (cond b (g x) x)) here ∙ ap (λ (y : File). Some y) one
    by false same e rest = ap (λ (b : Bool). cond b (Some (cond (nat_eq x.number n) (g x) x)) (file_named name (changed n g xs))) (name_kept (nat_eq x.number n) ∙ same) ∙ rest e

some_same : (x y : File) → Some x ≡ Some y → x ≡ y
some_same x y e = cc

-- files of two names have two numbers
apart_named : (m : MetaView) (name other : List ℕ) (f v : File) → IsSound m → (name ≡ other → ⊥) → file_named name m.files ≡ Some f → file_named other m.files ≡ Some v → f.number ≡ v.number → ⊥
apart_named m name other f v sound apart here there same =
    let ours : file_of f.number m.files ≡ Some f = found_numbered (λ (g : File). same_name name g.name) m.files f sound.ascending here in
    let theirs : file_of v.number m.files ≡ Some v = found_numbered (λ (g : File). same_name other g.name) m.files v sound.ascending there in
    let one : f ≡ v = some_same f v (sym ours ∙ ap (λ (n : ℕ). file_of n m.files) same ∙ theirs) in
    apart (sym (name_found name m.files f here) ∙ ap (λ (y : File). y.name) one ∙ name_found other m.files v there)

-- ---- leases

-- what isn't there is found behind, and what is there is found first
find_behind : (p : Lease → Bool) (xs ys : List Lease) → find p xs ≡ None → find p (xs ++ ys) ≡ find p ys
find_behind p [] ys e = refl
find_behind p (x ∷ xs) ys e = by (p x) e (λ more. find_behind p xs ys more)
  where
    by : (b : Bool) → cond b (Some x) (find p xs) ≡ None → (find p xs ≡ None → find p (xs ++ ys) ≡ find p ys) → cond b (Some x) (find p (xs ++ ys)) ≡ find p ys
    by true e rest = absurd (cc)
    by false e rest = rest e

find_front : (p : Lease → Bool) (xs ys : List Lease) (z : Lease) → find p xs ≡ Some z → find p (xs ++ ys) ≡ Some z
find_front p [] ys z e = absurd (cc)
find_front p (x ∷ xs) ys z e = by (p x) e (λ more. find_front p xs ys z more)
  where
    by : (b : Bool) → cond b (Some x) (find p xs) ≡ Some z → (find p xs ≡ Some z → find p (xs ++ ys) ≡ Some z) → cond b (Some x) (find p (xs ++ ys)) ≡ Some z
    by true e rest = e
    by false e rest = rest e

-- who takes a free lease has it
taken_holds : (client n : ℕ) (t : TableView) → holder_of t n ≡ None → holder_of (taken client n t) n ≡ Some client
taken_holds client n t free =
    ap (λ (o : Option Lease). option_map (λ (lease : Lease). lease.client) o)
    (find_behind (is_lease_of n) t.keys (lease_for client n t ∷ []) (none_there (find (is_lease_of n) t.keys) free) ∙ (λ j. cond (nat_eq_same n j) (Some (lease_for client n t)) None))
  where
    none_there : (o : Option Lease) → option_map (λ (lease : Lease). lease.client) o ≡ None → o ≡ None
    none_there None e = refl
    none_there (Some l) e = absurd (cc)

-- and has it while more are taken
still_holds : (client other n k : ℕ) (t : TableView) → holder_of t n ≡ Some other → holder_of (taken client k t) n ≡ Some other
still_holds client other n k t has = by (find (is_lease_of n) t.keys) refl has
  where
    by : (o : Option Lease) → find (is_lease_of n) t.keys ≡ o → option_map (λ (lease : Lease). lease.client) o ≡ Some other → holder_of (taken client k t) n ≡ Some other
    by None e has = absurd (cc)
    by (Some l) e has = ap (λ (o : Option Lease). option_map (λ (lease : Lease). lease.client) o) (find_front (is_lease_of n) t.keys (lease_for client k t ∷ []) l e) ∙ has

-- ---- begins

-- a copy begins on this file, which its layout may be given before
one_begun : (m : MetaView) (client : ℕ) (name ids : List ℕ) (f : File) (l : Composite) → file_named name m.files ≡ Some f → holder_of m.leases f.number ≡ None → IsSound (with_begin client ids (with_layout l f) m) → IsBegunAs (with_begin client ids (with_layout l f) m) client name (side_of client ids (with_layout l f) m)
one_begun m client name ids f l there free sound =
    let layout : Composite = begun ids f.number m.nexts l in
    let named : file_named name (changed f.number (with_layout layout) m.files) ≡ Some (with_layout layout f) = named_changed name f.number (with_layout layout) m.files f (λ x. refl) there refl in
    record {
      file = with_layout layout f;
      named = named;
      found = found_numbered (λ (g : File). same_name name g.name) (changed f.number (with_layout layout) m.files) (with_layout layout f) sound.ascending named;
      number = refl;
      layout = refl;
      key = refl;
      holder = taken_holds client f.number m.leases free;
    }

module _ (client : ℕ) (name : List ℕ) (what : CopyWhat) (m : MetaView) (old : IsSound m) (may : IsCopyOf name what) where
  abbrev BeginsAs : meta.Outcome Begun → Type 0
  BeginsAs (Gives begun_as.Nothing after) = Unit {0}
  BeginsAs (Gives (begun_as.Copy side ids) after) = IsSound after → IsBegunAs after client name side
  BeginsAs (Gives (begun_as.Merge ours theirs) after) = IsSound after → (victim : List ℕ) × (what ≡ Victim victim) × AreBegunAs after client name victim ours theirs
  BeginsAs (Refuses answer) = Unit {0}
  BeginsAs (Waits holder) = Unit {0}

  module _ (victim : List ℕ) (f v : File) (is : what ≡ Victim victim) (there : file_named name m.files ≡ Some f) (beside : file_named victim m.files ≡ Some v) (free : holder_of m.leases f.number ≡ None) (free_too : holder_of m.leases v.number ≡ None) where
    abbrev first : MetaView
    first = with_begin client [] f m

    abbrev both : MetaView
    both = with_begin client [] v first

    apart : f.number ≡ v.number → ⊥
    apart = apart_named m name victim f v old (subst (λ (w : CopyWhat). IsCopyOf name w) is may) there beside

    abbrev our_layout : Composite
    our_layout = begun [] f.number m.nexts f.layout

    abbrev their_layout : Composite
    their_layout = begun [] v.number first.nexts v.layout

    ours_first : file_named name first.files ≡ Some (with_layout our_layout f)
    ours_first = named_changed name f.number (with_layout our_layout) m.files f (λ x. refl) there refl

    theirs_first : file_named victim first.files ≡ Some v
    theirs_first = named_other victim f.number (with_layout our_layout) m.files v (λ x. refl) beside (λ same. apart (sym same))

    ours_both : file_named name both.files ≡ Some (with_layout our_layout f)
    ours_both = named_other name v.number (with_layout their_layout) first.files (with_layout our_layout f) (λ x. refl) ours_first apart

    theirs_both : file_named victim both.files ≡ Some (with_layout their_layout v)
    theirs_both = named_changed victim v.number (with_layout their_layout) first.files v (λ x. refl) theirs_first refl

    still_free : holder_of first.leases v.number ≡ None
    still_free = others_free (find (is_lease_of v.number) m.leases.keys) refl free_too
      where
        others_free : (o : Option Lease) → find (is_lease_of v.number) m.leases.keys ≡ o → option_map (λ (lease : Lease). lease.client) o ≡ None → holder_of first.leases v.number ≡ None
        others_free (Some l) e none = absurd (cc)
        others_free None e none =
            ap (λ (o : Option Lease). option_map (λ (lease : Lease). lease.client) o)
            (find_behind (is_lease_of v.number) m.leases.keys (lease_for client f.number m.leases ∷ []) e ∙ (λ j. cond (nat_eq_other f.number v.number apart j) (Some (lease_for client f.number m.leases)) None))

    merge_begun : IsSound both → AreBegunAs both client name victim (side_of client [] f m) (side_of client [] v first)
    merge_begun sound = record {
      apart = apart;
      ours_shown = record {
        file = with_layout our_layout f;
        named = ours_both;
        found = found_numbered (λ (g : File). same_name name g.name) both.files (with_layout our_layout f) sound.ascending ours_both;
        number = refl;
        layout = refl;
        key = refl;
        holder = still_holds client client f.number v.number first.leases (taken_holds client f.number m.leases free);
      };
      theirs_shown = record {
        file = with_layout their_layout v;
        named = theirs_both;
        found = found_numbered (λ (g : File). same_name victim g.name) both.files (with_layout their_layout v) sound.ascending theirs_both;
        number = refl;
        layout = refl;
        key = refl;
        holder = taken_holds client v.number first.leases still_free;
      };
    }

  begins_as : BeginsAs (copy_begins client name what m)
  begins_as = begin_cases BeginsAs client name what m (record {
    refuses = λ answer. tt;
    waits = λ holder. tt;
    same = tt;
    begins = λ ids f there free alone sound. one_begun m client name ids f f.layout there free sound;
    adds = λ mirrors f is there free alone within. tt;
    extends = λ mirrors ids f is there free alone within sound. one_begun m client name ids f (extended mirrors (length m.nexts) f.layout) there free sound;
    both = λ victim f v is there beside free free_too alone alone_too within sound. (victim, is, merge_begun victim f v is there beside free free_too sound);
  })

-- ---- steps

module _ (x : CallStep CopyView) (came : x.came ≡ copy_step x.call x.place x.before) (left : Leaves x.came x.after) (old : IsSound x.before.meta) (sound : IsSound x.after.meta) (may : IsCopyOf x.call.name x.call.what) (at : x.call.at ≡ at.Begin) where
  begin_came : x.came ≡ begins x.call x.before (copy_begins x.call.client x.call.name x.call.what x.before.meta)
  begin_came = came ∙ ap (λ (a : CopyAt). copy_at a x.call x.before) at

  -- a copy that goes on from its begin has begun on one file, or on two
  pub copy_begun : (next : CopyView) → goes_on x.came ≡ Some next → HasBegunCopy x ⊎ HasBegunMerge x
  copy_begun next goes =
      by (copy_begins x.call.client x.call.name x.call.what x.before.meta) refl
      (begins_as x.call.client x.call.name x.call.what x.before.meta old may) (ap (λ (o : Outcome CopyView). goes_on o) (sym begin_came) ∙ goes) (sym begin_came)
    where
      by : (o : meta.Outcome Begun) → copy_begins x.call.client x.call.name x.call.what x.before.meta ≡ o → BeginsAs x.call.client x.call.name x.call.what x.before.meta old may o → goes_on (begins x.call x.before o) ≡ Some next → begins x.call x.before o ≡ x.came → HasBegunCopy x ⊎ HasBegunMerge x
      by (Refuses answer) e found goes is = absurd (cc)
      by (Waits holder) e found goes is = absurd (cc)
      by (Gives begun_as.Nothing after) e found goes is = absurd (cc)
      by (Gives (begun_as.Copy side ids) after) e found goes is =
          let same : x.after ≡ record x.before { meta = after } = subst (λ (k : Outcome CopyView). Leaves k x.after) (sym is) left in
          let now : x.after.meta ≡ after = ap (λ (u : Servers). u.meta) same in
          inl (record {
            side = side;
            ids = ids;
            gives = e ∙ ap (λ (m : MetaView). Gives (begun_as.Copy side ids) m) (sym now);
            came = sym is ∙ ap (λ (u : Servers). Going (copy_on x.call (fences_from (begun_copy side ids) 0)) u) (sym same);
            shown = subst (λ (m : MetaView). IsBegunAs m x.call.client x.call.name side) (sym now) (found (subst IsSound now sound));
          })
      by (Gives (begun_as.Merge ours theirs) after) e found goes is =
          let same : x.after ≡ record x.before { meta = after } = subst (λ (k : Outcome CopyView). Leaves k x.after) (sym is) left in
          let now : x.after.meta ≡ after = ap (λ (u : Servers). u.meta) same in
          let r = found (subst IsSound now sound) in
          inr (record {
            victim = r.0;
            what = r.1;
            ours = ours;
            theirs = theirs;
            gives = e ∙ ap (λ (m : MetaView). Gives (begun_as.Merge ours theirs) m) (sym now);
            came = sym is ∙ ap (λ (u : Servers). Going (merge_on x.call (merge_fences_from (comparing_of ours theirs) 0)) u) (sym same);
            shown = subst (λ (m : MetaView). AreBegunAs m x.call.client x.call.name r.0 ours theirs) (sym now) r.2;
          })
