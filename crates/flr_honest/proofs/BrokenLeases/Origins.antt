-- Where the keys come from that are there behind a step: they were there, or were broken by it, or are of the client that made it.
use Rattle.std.proofs.Common.{◌≡◌, ◌⊎◌, inl, inr, ℕ, ◌==◌, Bool, true, false, nat_lt, not, List, [], ◌∷◌, map, refl, sym, subst}
use Rattle.std.specs.List.{AllByRecursion}
use Rattle.flr_base.specs.declared.reply.Range.{Range}
use Rattle.flr_base.specs.Limits.{most_bytes}
use Rattle.composite_layout.specs.Layouts.{eof}
use Rattle.layout_lease.specs.declared.lease.KeyState.{KeyState}
use Rattle.layout_lease.specs.declared.lease.KeyState.TheVariants.{Held, Broken}
use Rattle.layout_lease.specs.declared.lease.Lease.{Lease}
use Rattle.layout_lease.specs.declared.shared.Share.{Share}
use Rattle.layout_lease.specs.Leases.{KeyView, TableView, broken_by, broken_if, broken_of_client, broken_of_file, evicted_by, given, is_key, key_of, lease_for, taken}
use Rattle.meta_server.specs.Closing.{holds}
use Rattle.meta_server.specs.Ending.{both_given}
use Rattle.meta_server.specs.Files.{MetaView, file_named}
use Rattle.meta_server.specs.Opening.{change_opens_file}
use Rattle.meta_laws.specs.Calls.{Call, OpenRead, OpenWrite, OpenCut, Free, Confirm, Commit, Cut, BeginCopy, CopyDone, MergeDone, GiveUp, Create, Remove, Set, Evict, after_call, confirmed, left_by}
use Rattle.meta_laws.proofs.Cases.{begin_cases, create_cases, end_cases, merge_cases, open_cases, read_cases, remove_cases, set_cases}
use Rattle.meta_laws.proofs.Covering.{all_filter, all_push}
use Rattle.mirror_select.proofs.Least.{In}
use Rattle.script_values.specs.declared.command.Command.{Command}
use Rattle.flr_places.proofs.Steps.{IsAskedAt}

-- the lease stood, and this step broke it
pub record IsTurned (keys : List Lease) (place : ℕ) (new : Lease) : Type 0 where
  pub old : Lease
  pub there : In old keys
  pub key : key_of old ≡ key_of new
  pub held : old.state ≡ Held
  pub now : new.state ≡ Broken place

-- the lease was there so, or was broken by the step at this place, or is of this client
abbrev pub ComesFrom : List Lease → ℕ → ℕ → Lease → Type 0
ComesFrom keys c place new = In new keys ⊎ (IsTurned keys place new ⊎ (new.client ≡ c))

-- so it is with each of these
abbrev pub AllCome : List Lease → ℕ → ℕ → List Lease → Type 0
AllCome keys c place leases = AllByRecursion (ComesFrom keys c place) leases

-- ---- lists

-- what is so of each that is in a list is so of all
pub all_of : {X : Type 0} (P : X → Type 0) (xs : List X) → ((x : X) → In x xs → P x) → AllByRecursion P xs
all_of P [] so = tt
all_of P (x ∷ xs) so = (so x (inl refl), all_of P xs (λ y there. so y (inr there)))

pub of_all : {X : Type 0} (P : X → Type 0) (xs : List X) (x : X) → AllByRecursion P xs → In x xs → P x
of_all P [] x all there = absurd there
of_all P (y ∷ xs) x all (inl same) = subst P same all.0
of_all P (y ∷ xs) x all (inr more) = of_all P xs x all.1 more

all_mapped : {X : Type 0} (P : X → Type 0) (f : X → X) (xs ys : List X) → ((x : X) → In x ys → P (f x)) → ((x : X) → In x xs → In x ys) → AllByRecursion P (map f xs)
all_mapped P f [] ys so within = tt
all_mapped P f (x ∷ xs) ys so within = (so x (within x (inl refl)), all_mapped P f xs ys so (λ y there. within y (inr there)))

-- ---- each call

module _ (m : MetaView) (c place : ℕ) where
  abbrev Come : MetaView → Type 0
  Come new = AllCome m.leases.keys c place new.leases.keys

  pub all_stay : Come m
  all_stay = all_of (ComesFrom m.leases.keys c place) m.leases.keys (λ lease there. inl there)

  given_up : (key : KeyView) (t : TableView) → AllCome m.leases.keys c place t.keys → AllCome m.leases.keys c place (given key t).keys
  given_up key t all = all_filter (ComesFrom m.leases.keys c place) (λ lease. not (is_key key lease)) t.keys all

  pub both_up : (ours theirs : KeyView) → Come (both_given ours theirs m)
  both_up ours theirs = given_up theirs (given ours m.leases) (given_up ours m.leases all_stay)

  takes : (file : ℕ) (t : TableView) → AllCome m.leases.keys c place t.keys → AllCome m.leases.keys c place (taken c file t).keys
  takes file t all = all_push (ComesFrom m.leases.keys c place) t.keys (lease_for c file t) all (inr (inr refl))

  turns : (b : Bool) (lease : Lease) (state : KeyState) → lease.state ≡ state → In lease m.leases.keys → ComesFrom m.leases.keys c place (record lease { state = broken_if b place state })
  turns false lease state e there = inl (subst (λ (s : KeyState). In (record lease { state = s }) m.leases.keys) e there)
  turns true lease Held e there = inr (inl (record { old = lease; there = there; key = refl; held = e; now = refl }))
  turns true lease (Broken earlier) e there = inl (subst (λ (s : KeyState). In (record lease { state = s }) m.leases.keys) e there)

  of_file : (file step : ℕ) → step ≡ place → AllCome m.leases.keys c place (broken_by file step m.leases).keys
  of_file file step at =
      subst (λ n. AllCome m.leases.keys c place (broken_by file n m.leases).keys) (sym at)
      (all_mapped (ComesFrom m.leases.keys c place) (broken_of_file file place) m.leases.keys m.leases.keys (λ lease there. turns (lease.file == file) lease lease.state refl there) (λ lease there. there))

  of_client : (other step : ℕ) → step ≡ place → AllCome m.leases.keys c place (evicted_by other step m.leases).keys
  of_client other step at =
      subst (λ n. AllCome m.leases.keys c place (evicted_by other n m.leases).keys) (sym at)
      (all_mapped (ComesFrom m.leases.keys c place) (broken_of_client other place) m.leases.keys m.leases.keys (λ lease there. turns (lease.client == other) lease lease.state refl there) (λ lease there. there))

  opened : (other : ℕ) (name : List ℕ) (range : Range) (step : ℕ) (b : Bool) → step ≡ place → Come (left_by (change_opens_file other range step m name b (file_named name m.files)) m)
  opened other name range step b at = open_cases Come other name range step m (record { same = all_stay; shared = λ f e. all_stay; intended = λ f mirror e primary. of_file f.number step at }) b

  confirms : (file : ℕ) (cookie : Share) (b : Bool) → Come (confirmed file cookie b m)
  confirms file cookie true = all_stay
  confirms file cookie false = all_stay

  -- a call of this client at this place leaves only such keys
  pub all_come : (asked : Command) (call : Call) → IsAskedAt asked c place call → Come (after_call call m)
  all_come asked (OpenRead other name) well = read_cases Come other name m (record { same = all_stay; shared = λ f e. all_stay })
  all_come asked (OpenWrite other name range step) well = opened other name range step (nat_lt most_bytes range.end) well
  all_come asked (OpenCut other name size step) well = opened other name (record { start = size; end = eof }) step (nat_lt most_bytes size) well
  all_come asked (Free file cookie) well = all_stay
  all_come asked (Confirm file cookie) well = confirms file cookie (holds file cookie m)
  all_come asked (Commit file cookie end) well = all_stay
  all_come asked (Cut file cookie size) well = all_stay
  all_come asked (BeginCopy other name what) well = subst (λ k. Come (after_call (BeginCopy k name what) m)) (sym well.0) (begin_cases Come c name what m (record {
    same = all_stay;
    begins = λ ids f e free. takes f.number m.leases all_stay;
    adds = λ mirrors f is e free within. all_stay;
    extends = λ mirrors ids f is e free within. takes f.number m.leases all_stay;
    both = λ victim f v is e k free free_too. takes v.number (taken c f.number m.leases) (takes f.number m.leases all_stay);
  }))
  all_come asked (CopyDone key cleared) well = end_cases Come key cleared m (record { same = all_stay; given = given_up key m.leases all_stay; done = λ f held e. given_up key m.leases all_stay })
  all_come asked (MergeDone ours theirs) well = merge_cases Come ours theirs m (record { same = all_stay; given = both_up ours theirs; merges = λ f v held held_too e k. both_up ours theirs })
  all_come asked (GiveUp key) well = given_up key m.leases all_stay
  all_come asked (Create name mirrors) well = create_cases Come name mirrors m (record { same = all_stay; comes = λ absent room. all_stay })
  all_come asked (Remove other name mirror to step) well = remove_cases Come other name mirror step m (record {
    same = all_stay;
    goes = λ f e kept. of_file f.number step well;
    splits = λ new f e kept fresh absent room. of_file f.number step well;
  }) to
  all_come asked (Set other name id change step) well = set_cases Come other name id change step m (record { same = all_stay; marks = λ f e kept. of_file f.number step well })
  all_come asked (Evict other step) well = of_client other step well.0
