-- What a call knows of a file that it opens.
use Rattle.std.proofs.Common.{◌≡◌, ℕ, ◌<◌, Bool, true, false, ◌&&◌, Option, Some, None, List, [], ◌∷◌, refl, sym, ap, subst, ◌∙◌, arith, find, cond, true≢false}
use Rattle.std.specs.List.{AllByRecursion}
use Rattle.std.specs.Option.{option_map_or}
use Rattle.flr_base.specs.declared.reply.Range.{Range}
use Rattle.composite_layout.specs.declared.component.State.TheVariants as states
use Rattle.composite_layout.specs.Choices.{is_ready, takes_writes}
use Rattle.composite_layout.specs.Layouts.{Composite}
use Rattle.layout_lease.specs.declared.lease.KeyState.TheVariants.{Held, Broken}
use Rattle.layout_lease.specs.declared.lease.Lease.{Lease}
use Rattle.layout_lease.specs.Leases.{KeyView, is_key, is_unbroken, state_of}
use Rattle.layout_lease.proofs.Lists.{find_passes}
use Rattle.meta_server.specs.declared.answers.Opened.{Opened}
use Rattle.meta_server.specs.Files.{File, MetaView, file_named, file_of, same_name, with_change, with_layout, with_share}
use Rattle.meta_server.specs.Layouts.{intended}
use Rattle.meta_server.specs.Opening.{change_opens_file, opened, with_intent}
use Rattle.meta_server.specs.Outcomes.{Outcome, Gives, Refuses, Waits}
use Rattle.meta_server.specs.Sound.{IsUnderCopy, IsCovered, IsSound}
use Rattle.meta_server.proofs.Going.{name_found}
use Rattle.meta_laws.proofs.Copies.{there_named}
use Rattle.meta_laws.proofs.Finding.{found_keeps, same_found}
use Rattle.meta_laws.proofs.Opens.{one_file}
use Rattle.flr_numbers.proofs.Coming.{open_cases}
use Rattle.flr_numbers.proofs.Holding.{broken_held}
use Rattle.flr_behind.specs.Sentences.{IsKnown, IsWritten}
use Rattle.flr_behind.proofs.Following.{same_file}

-- ---- a lease that stands

first_of : (x y : Bool) → (x && y) ≡ true → x ≡ true
first_of true y e = refl
first_of false y e = absurd (cc)

found_holds : {X : Type 0} (p : X → Bool) (P : X → Type 0) (xs : List X) (x : X) → find p xs ≡ Some x → AllByRecursion P xs → P x
found_holds p P [] x e h = absurd (cc)
found_holds p P (y ∷ ys) x e h = by (p y) e (λ k. found_holds p P ys x k h.1)
  where
    by : (b : Bool) → cond b (Some y) (find p ys) ≡ Some x → (find p ys ≡ Some x → P x) → P x
    by true e rest = let same : y ≡ x = cc in subst P same h.0
    by false e rest = rest e

-- while the lease of a file stands a copy of it is under way
copied : (m : MetaView) (key : KeyView) → IsSound m → state_of m.leases key ≡ Held → IsUnderCopy (file_of key.file m.files)
copied m key h held = by (find (is_key key) m.leases.keys) refl held
  where
    by : (o : Option Lease) → find (is_key key) m.leases.keys ≡ o → option_map_or (λ (lease : Lease). lease.state) o (Broken 0) ≡ Held → IsUnderCopy (file_of key.file m.files)
    by None is e = absurd (cc)
    by (Some lease) is e =
        subst (λ n. IsUnderCopy (file_of n m.files)) (same_file key lease (find_passes (is_key key) m.leases.keys lease is))
        (found_holds (is_key key) (IsCovered m.files) m.leases.keys lease is h.covered (ap is_unbroken e))

-- so no range of it is ready for a write
unleased_ready : (m : MetaView) (f : File) (range : Range) (key : KeyView) → IsSound m → file_of f.number m.files ≡ Some f → is_ready f.layout range ≡ true → key.file ≡ f.number → state_of m.leases key ≡ Held → ⊥
unleased_ready m f range key h here ready own held =
    let state : f.layout.state ≡ states.SyncPending = subst IsUnderCopy (ap (λ n. file_of n m.files) own ∙ here) (copied m key h held) in
    let takes : takes_writes f.layout.state ≡ true = first_of (takes_writes f.layout.state) _ ready in
    true≢false (sym takes ∙ ap takes_writes state)

-- ---- a client shares the lock of a file that it opens

module _ (m : MetaView) (client : ℕ) (name : List ℕ) (f : File) (here : file_of f.number m.files ≡ Some f) (named : f.name ≡ name) (given : f.number < m.next_file) where
  shared : (x : File) → file_of f.number (with_change f.number (with_share client) m).files ≡ Some x → x ≡ with_share client f
  shared x e = one_file (file_of f.number (with_change f.number (with_share client) m).files) x (with_share client f) e (same_found f.number (with_share client) m.files f (λ y. refl) here)

  pub shared_known : IsKnown (with_change f.number (with_share client) m) name (opened client f)
  shared_known = record {
    given = given;
    named = λ x e. ap (λ (y : File). y.name) (shared x e) ∙ named;
    behind = λ x e. (let level : x.layout.generation ≡ f.layout.generation = ap (λ (y : File). y.layout.generation) (shared x e) in omega (arith, level));
  }

-- ---- what is found by its name

module _ (m : MetaView) (h : IsSound m) (name : List ℕ) (f : File) (e : file_named name m.files ≡ Some f) where
  pub given_named : f.number < m.next_file
  given_named = found_keeps (λ (y : File). same_name name y.name) (λ (y : File). y.number < m.next_file) m.files f e h.below

  -- a file that is opened to be read
  pub read_known : (client : ℕ) → IsKnown (with_change f.number (with_share client) m) name (opened client f)
  read_known client = shared_known m client name f (there_named m h name f e) (name_found name m.files f e) given_named

-- where a file is opened to be written, that is known of it
abbrev pub OpensKnown : List ℕ → Outcome Opened → Type 0
OpensKnown name (Gives o after) = IsWritten after name o
OpensKnown name (Refuses answer) = Unit {0}
OpensKnown name (Waits holder) = Unit {0}

pub opens_known : (m : MetaView) → IsSound m → (client : ℕ) (name : List ℕ) (range : Range) (step : ℕ) (too_big : Bool) → OpensKnown name (change_opens_file client range step m name too_big (file_named name m.files))
opens_known m h client name range step too_big = open_cases (OpensKnown name) client name range step m too_big (record {
  refuses = λ answer. tt;
  waits = λ holder. tt;
  shared = λ f big e ready. (read_known m h name f e client, λ x key found own held. absurd (unleased_ready m f range key h (there_named m h name f e) ready own held));
  intended = λ f mirror big e primary alone. (
      let l : Composite = intended range mirror f.number m.nexts f.layout in
      let mid : MetaView = with_intent range mirror step f m in
      let after = same_found f.number (with_layout l) m.files f (λ y. refl) (there_named m h name f e) in (
        shared_known mid client name (with_layout l f) after (name_found name m.files f e) (given_named m h name f e),
        λ x key found own held. absurd ((broken_held f.number step m.leases key held).0 own),
      )
      );
})
