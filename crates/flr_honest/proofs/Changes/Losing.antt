-- Which calls take a cookie or break a lease of another client.
use Rattle.std.proofs.Common.{◌≡◌, ◌≢◌, ℕ, Bool, true, false, true≢false, cond, not, Option, Some, None, List, [], ◌∷◌, ◌++◌, find, filter, ◌⊎◌, inl, inr, refl, sym, ap, ◌∙◌, arith}
use Rattle.std.specs.Option.{option_map}
use Rattle.std.proofs.lemmas.Bool.{cases_eq}
use Rattle.std.proofs.lemmas.Bool.Decides.{nat_tests}
use Rattle.layout_lease.specs.declared.lease.Lease.{Lease}
use Rattle.layout_lease.specs.declared.shared.Share.{Share}
use Rattle.layout_lease.specs.Leases.{KeyView, TableView, given, holder_of, is_key, is_lease_of, lease_for, taken}
use Rattle.script_values.specs.declared.command.Command.{Command}
use Rattle.script_values.specs.declared.command.Command.TheVariants as command
use Rattle.meta_server.specs.declared.answers.CopyWhat.{CopyWhat}
use Rattle.meta_server.specs.Closing.{holds}
use Rattle.meta_server.specs.Files.{MetaView}
use Rattle.meta_laws.specs.Calls.{Call, OpenRead, OpenWrite, OpenCut, Free, Confirm, Commit, Cut, BeginCopy, CopyDone, MergeDone, GiveUp, Create, Remove, Set, Evict, after_call, confirmed}
use Rattle.meta_laws.proofs.Cases.{begin_cases, create_cases, end_cases, merge_cases, read_cases}
use Rattle.flr_steps.specs.declared.client.Running.{Running}
use Rattle.flr_work.proofs.Held.{Spares, call_held}
use Rattle.flr_claims.specs.Calls.{breaks_leases}
use Rattle.flr_honest.proofs.Changes.Asking.{IsAskedFor, IsRemove}

-- ---- cookies

-- a cookie of another client that is held stays held, or its client is evicted by the command
abbrev pub KeepsCookies : Command → ℕ → MetaView → MetaView → Type 0
KeepsCookies asked c m new = (number : ℕ) (cookie : Share) → cookie.client ≢ c → holds number cookie m ≡ true → (holds number cookie new ≡ true) ⊎ (asked ≡ command.Evict cookie.client)

module _ (asked : Command) (c place : ℕ) (call : Running) (m : MetaView) where
  -- a call that takes no cookie of another client
  spares : (of : Call) → ((number : ℕ) (cookie : Share) → cookie.client ≢ c → Spares number cookie of) → KeepsCookies asked c m (after_call of m)
  spares of so number cookie apart h = inl (call_held number cookie of m (so number cookie apart) h)

  evicts : (other step : ℕ) → asked ≡ command.Evict other → KeepsCookies asked c m (after_call (Evict other step) m)
  evicts other step is number cookie apart h = elim (cases_eq cookie.client other) as (λ _. (holds number cookie (after_call (Evict other step) m) ≡ true) ⊎ (asked ≡ command.Evict cookie.client)) [
    | inl same ↦ inr (is ∙ ap command.Evict (sym same))
    | inr beside ↦ inl (call_held number cookie (Evict other step) m beside h)
  ]

  pub keeps_cookies : (of : Call) → IsAskedFor asked c place call of → KeepsCookies asked c m (after_call of m)
  keeps_cookies (OpenRead client name) may = spares (OpenRead client name) (λ number cookie apart. tt)
  keeps_cookies (OpenWrite client name range step) may = spares (OpenWrite client name range step) (λ number cookie apart. tt)
  keeps_cookies (OpenCut client name size step) may = spares (OpenCut client name size step) (λ number cookie apart. tt)
  keeps_cookies (Free file given) may = spares (Free file given) (λ number cookie apart same. apart (same ∙ may))
  keeps_cookies (Confirm file given) may = spares (Confirm file given) (λ number cookie apart same. apart (same ∙ may))
  keeps_cookies (Commit file given end) may = spares (Commit file given end) (λ number cookie apart same. apart (same ∙ may))
  keeps_cookies (Cut file given size) may = spares (Cut file given size) (λ number cookie apart same. apart (same ∙ may))
  keeps_cookies (BeginCopy client name what) may = spares (BeginCopy client name what) (λ number cookie apart. tt)
  keeps_cookies (CopyDone key cleared) may = spares (CopyDone key cleared) (λ number cookie apart. tt)
  keeps_cookies (MergeDone ours theirs) may = spares (MergeDone ours theirs) (λ number cookie apart same. apart (same ∙ may.own))
  keeps_cookies (GiveUp key) may = spares (GiveUp key) (λ number cookie apart. tt)
  keeps_cookies (Create name mirrors) may = spares (Create name mirrors) (λ number cookie apart. tt)
  keeps_cookies (Remove client name mirror to step) may = spares (Remove client name mirror to step) (λ number cookie apart. tt)
  keeps_cookies (Set client name id change step) may = spares (Set client name id change step) (λ number cookie apart. tt)
  keeps_cookies (Evict other step) may = evicts other step may.1

-- ---- leases

-- the client whose lease is found
holder_found : (o : Option Lease) (d : ℕ) → option_map (λ (lease : Lease). lease.client) o ≡ Some d → (lease : Lease) × (o ≡ Some lease) × (lease.client ≡ d)
holder_found None d e = absurd (cc e)
holder_found (Some lease) d e = (lease, refl, (cc e))

-- what is found is found with one more behind
found_more : (p : Lease → Bool) (leases more : List Lease) (lease : Lease) → find p leases ≡ Some lease → find p (leases ++ more) ≡ Some lease
found_more p [] more lease e = absurd (cc e)
found_more p (x ∷ xs) more lease e = by (p x) e (found_more p xs more lease)
  where
    by : (b : Bool) → cond b (Some x) (find p xs) ≡ Some lease → (find p xs ≡ Some lease → find p (xs ++ more) ≡ Some lease) → cond b (Some x) (find p (xs ++ more)) ≡ Some lease
    by true e rest = e
    by false e rest = rest e

-- and among those that stay, where it does
found_among : (p q : Lease → Bool) (leases : List Lease) (lease : Lease) → find p leases ≡ Some lease → q lease ≡ true → find p (filter q leases) ≡ Some lease
found_among p q [] lease e stays = absurd (cc e)
found_among p q (x ∷ xs) lease e stays = by (p x) refl e (found_among p q xs lease)
  where
    here : (b : Bool) → q x ≡ b → p x ≡ true → x ≡ lease → find p (cond b (x ∷ filter q xs) (filter q xs)) ≡ Some lease
    here true k first same = (λ j. cond (first j) (Some x) (find p (filter q xs))) ∙ ap (λ (l : Lease). Some l) same
    here false k first same = absurd (true≢false (sym stays ∙ ap q (sym same) ∙ k))

    behind : (b : Bool) → p x ≡ false → find p (filter q xs) ≡ Some lease → find p (cond b (x ∷ filter q xs) (filter q xs)) ≡ Some lease
    behind true first rest = (λ j. cond (first j) (Some x) (find p (filter q xs))) ∙ rest
    behind false first rest = rest

    by : (b : Bool) → p x ≡ b → cond b (Some x) (find p xs) ≡ Some lease → (find p xs ≡ Some lease → q lease ≡ true → find p (filter q xs) ≡ Some lease) → find p (cond (q x) (x ∷ filter q xs) (filter q xs)) ≡ Some lease
    by true first k rest = here (q x) refl first (cc k)
    by false first k rest = behind (q x) first (rest k stays)

-- a lease that stands stays so where another client takes one
pub taken_held : (client file number d : ℕ) (t : TableView) → holder_of t number ≡ Some d → holder_of (taken client file t) number ≡ Some d
taken_held client file number d t h =
    let w = holder_found (find (is_lease_of number) t.keys) d h in
    ap (option_map (λ (lease : Lease). lease.client)) (found_more (is_lease_of number) t.keys (lease_for client file t ∷ []) w.0 w.1) ∙ ap (λ (n : ℕ). Some n) w.2

-- or gives one back
pub given_held : (key : KeyView) (number d : ℕ) (t : TableView) → d ≢ key.client → holder_of t number ≡ Some d → holder_of (given key t) number ≡ Some d
given_held key number d t apart h =
    let w = holder_found (find (is_lease_of number) t.keys) d h in
    let other : is_key key w.0 ≡ false = unlike w.0 w.2 in
    ap (option_map (λ (lease : Lease). lease.client)) (found_among (is_lease_of number) (λ (lease : Lease). not (is_key key lease)) t.keys w.0 w.1 (ap not other)) ∙ ap (λ (n : ℕ). Some n) w.2
  where
    unlike : (lease : Lease) → lease.client ≡ d → is_key key lease ≡ false
    unlike lease own = (let no : lease.client ≢ key.client = (λ same. apart (sym own ∙ same)) in grind (arith, nat_tests))

-- a lease of another client stands still, or the command is one that breaks leases
abbrev pub KeepsLeases : Command → ℕ → TableView → TableView → Type 0
KeepsLeases asked c t new = (d number : ℕ) → d ≢ c → holder_of t number ≡ Some d → (holder_of new number ≡ Some d) ⊎ (breaks_leases asked ≡ true)

module _ (asked : Command) (c : ℕ) (m : MetaView) where
  abbrev Keeps : MetaView → Type 0
  Keeps new = KeepsLeases asked c m.leases new.leases

  same_leases : KeepsLeases asked c m.leases m.leases
  same_leases d number apart h = inl h

  breaks : (new : TableView) → breaks_leases asked ≡ true → KeepsLeases asked c m.leases new
  breaks new is d number apart h = inr is

  gives : (key : KeyView) → key.client ≡ c → KeepsLeases asked c m.leases (given key m.leases)
  gives key own d number apart h = inl (given_held key number d m.leases (λ same. apart (same ∙ own)) h)

  pub gives_both : (ours theirs : KeyView) → ours.client ≡ c → theirs.client ≡ c → KeepsLeases asked c m.leases (given theirs (given ours m.leases))
  gives_both ours theirs own own_too d number apart h =
      inl (given_held theirs number d (given ours m.leases) (λ same. apart (same ∙ own_too)) (given_held ours number d m.leases (λ same. apart (same ∙ own)) h))

  takes : (client file : ℕ) → KeepsLeases asked c m.leases (taken client file m.leases)
  takes client file d number apart h = inl (taken_held client file number d m.leases h)

  takes_both : (client file other : ℕ) → KeepsLeases asked c m.leases (taken client other (taken client file m.leases))
  takes_both client file other d number apart h = inl (taken_held client other number d (taken client file m.leases) (taken_held client file number d m.leases h))

  begins : (client : ℕ) (name : List ℕ) (what : CopyWhat) → Keeps (after_call (BeginCopy client name what) m)
  begins client name what = begin_cases Keeps client name what m (record {
    same = same_leases;
    begins = λ ids f e free. takes client f.number;
    adds = λ mirrors f is e free within. same_leases;
    extends = λ mirrors ids f is e free within. takes client f.number;
    both = λ victim f v is e k free free_too. takes_both client f.number v.number;
  })

  confirms : (file : ℕ) (cookie : Share) (b : Bool) → Keeps (confirmed file cookie b m)
  confirms file cookie true = same_leases
  confirms file cookie false = same_leases

  removes : (name : List ℕ) (mirror : ℕ) (to : Option (List ℕ)) → IsRemove asked name mirror to → breaks_leases asked ≡ true
  removes name mirror None (inl is) = ap breaks_leases is
  removes name mirror None (inr is) = ap breaks_leases is
  removes name mirror (Some to) (inl is) = ap breaks_leases is.0
  removes name mirror (Some to) (inr is) = ap breaks_leases is

  pub keeps_leases : (place : ℕ) (call : Running) (of : Call) → IsAskedFor asked c place call of → Keeps (after_call of m)
  keeps_leases place call (OpenRead client name) may = read_cases Keeps client name m (record { same = same_leases; shared = λ f e. same_leases })
  keeps_leases place call (OpenWrite client name range step) may = breaks (after_call (OpenWrite client name range step) m).leases (ap breaks_leases may.is)
  keeps_leases place call (OpenCut client name size step) may = breaks (after_call (OpenCut client name size step) m).leases (ap breaks_leases may)
  keeps_leases place call (Free file cookie) may = same_leases
  keeps_leases place call (Confirm file cookie) may = confirms file cookie (holds file cookie m)
  keeps_leases place call (Commit file cookie end) may = same_leases
  keeps_leases place call (Cut file cookie size) may = same_leases
  keeps_leases place call (BeginCopy client name what) may = begins client name what
  keeps_leases place call (CopyDone key cleared) may = end_cases Keeps key cleared m (record { same = same_leases; given = gives key may.own; done = λ f held e. gives key may.own })
  keeps_leases place call (MergeDone ours theirs) may = merge_cases Keeps ours theirs m (record {
    same = same_leases;
    given = gives_both ours theirs may.own may.own_too;
    merges = λ f v held held_too e k. gives_both ours theirs may.own may.own_too;
  })
  keeps_leases place call (GiveUp key) may = gives key may
  keeps_leases place call (Create name mirrors) may = create_cases Keeps name mirrors m (record { same = same_leases; comes = λ absent room. same_leases })
  keeps_leases place call (Remove client name mirror to step) may = breaks (after_call (Remove client name mirror to step) m).leases (removes name mirror to may)
  keeps_leases place call (Set client name id change step) may = breaks (after_call (Set client name id change step) m).leases (ap breaks_leases may)
  keeps_leases place call (Evict client step) may = breaks (after_call (Evict client step) m).leases (ap breaks_leases may.1)
