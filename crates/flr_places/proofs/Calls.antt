-- What each call of the metadata server leaves of the keys that were taken, and of their places.
use Rattle.std.proofs.Common.{◌≡◌, ℕ, ◌==◌, ◌<◌, ◌≤◌, Bool, true, false, nat_lt, not, Some, List, [], ◌∷◌, map, sym, subst, arith}
use Rattle.std.specs.List.{AllByRecursion}
use Rattle.flr_base.specs.declared.reply.Range.{Range}
use Rattle.composite_layout.specs.Layouts.{eof}
use Rattle.layout_lease.specs.declared.lease.KeyState.{KeyState}
use Rattle.layout_lease.specs.declared.lease.KeyState.TheVariants.{Held, Broken}
use Rattle.layout_lease.specs.declared.lease.Lease.{Lease}
use Rattle.layout_lease.specs.declared.shared.Share.{Share}
use Rattle.layout_lease.specs.Leases.{KeyView, TableView, broken_by, broken_if, broken_of_client, broken_of_file, evicted_by, given, is_key, lease_for, taken}
use Rattle.meta_server.specs.Closing.{holds}
use Rattle.meta_server.specs.Ending.{both_given}
use Rattle.meta_server.specs.Files.{MetaView, file_named}
use Rattle.flr_base.specs.Limits.{most_bytes}
use Rattle.meta_server.specs.Opening.{change_opens_file}
use Rattle.meta_laws.specs.Calls.{Call, OpenRead, OpenWrite, OpenCut, Free, Confirm, Commit, Cut, BeginCopy, CopyDone, MergeDone, GiveUp, Create, Remove, Set, Evict, after_call, confirmed, left_by}
use Rattle.meta_laws.proofs.Cases.{begin_cases, create_cases, end_cases, merge_cases, open_cases, read_cases, remove_cases, set_cases}
use Rattle.meta_laws.proofs.Covering.{all_filter, all_push}
use Rattle.script_values.specs.declared.command.Command.{Command}
use Rattle.flr_steps.specs.declared.client.Client.{Client}
use Rattle.flr_steps.specs.States.{client_at}
use Rattle.flr_places.specs.Sentences.{IsPlaced}
use Rattle.flr_places.proofs.Steps.{IsAskedAt}

-- ---- lists

all_to : {X : Type 0} (P Q : X → Type 0) (xs : List X) → ((x : X) → P x → Q x) → AllByRecursion P xs → AllByRecursion Q xs
all_to P Q [] to h = tt
all_to P Q (x ∷ xs) to h = (to x h.0, all_to P Q xs to h.1)

all_map : {X : Type 0} (P Q : X → Type 0) (f : X → X) (xs : List X) → ((x : X) → P x → Q (f x)) → AllByRecursion P xs → AllByRecursion Q (map f xs)
all_map P Q f [] to h = tt
all_map P Q f (x ∷ xs) to h = (to x h.0, all_map P Q f xs to h.1)

-- ---- one key

-- a key that may be broken now: it has its place, and its client's call began before now
pub record MayBreak (clients : List Client) (now : ℕ) (lease : Lease) : Type 0 where
  pub placed : IsPlaced clients now lease
  pub before : placed.client.first < now

broken_place : (first now : ℕ) (b : Bool) (state : KeyState) → first < now → ((place : ℕ) → state ≡ Broken place → (first < place) × (place ≤ now)) → (place : ℕ) → broken_if b now state ≡ Broken place → (first < place) × (place ≤ now)
broken_place first now false state less h place e = h place e
broken_place first now true (Broken earlier) less h place e = h place e
broken_place first now true Held less h place e = let same : now ≡ place = cc in (omega (arith, same, less), omega (arith, same))

-- what is broken now has this place
breaks : (clients : List Client) (now : ℕ) (b : Bool) (lease : Lease) → MayBreak clients now lease → IsPlaced clients now (record lease { state = broken_if b now lease.state })
breaks clients now b lease h = record {
  client = h.placed.client;
  here = h.placed.here;
  broken = broken_place h.placed.client.first now b lease.state h.before h.placed.broken;
}

-- ---- each call

-- each key of the table has its place
abbrev pub Keys : List Client → ℕ → MetaView → Type 0
Keys clients now m = AllByRecursion (IsPlaced clients now) m.leases.keys

module _ (clients : List Client) (now c : ℕ) (client : Client) (here : client_at clients c ≡ Some client) where
  pub given_up : (m : MetaView) (key : KeyView) → Keys clients now m → AllByRecursion (IsPlaced clients now) (given key m.leases).keys
  given_up m key h = all_filter (IsPlaced clients now) (λ lease. not (is_key key lease)) m.leases.keys h

  pub both_up : (m : MetaView) (ours theirs : KeyView) → Keys clients now m → Keys clients now (both_given ours theirs m)
  both_up m ours theirs h = all_filter (IsPlaced clients now) (λ lease. not (is_key theirs lease)) (given ours m.leases).keys (given_up m ours h)

  -- a lease is taken
  takes : (file : ℕ) (table : TableView) → AllByRecursion (IsPlaced clients now) table.keys → AllByRecursion (IsPlaced clients now) (taken c file table).keys
  takes file table h = all_push (IsPlaced clients now) table.keys (lease_for c file table) h (record { client = client; here = here; broken = λ place e. absurd (cc) })

  module _ (m : MetaView) (h : AllByRecursion (MayBreak clients now) m.leases.keys) where
    pub stays : Keys clients now m
    stays = all_to (MayBreak clients now) (IsPlaced clients now) m.leases.keys (λ lease k. k.placed) h

    of_file : (file step : ℕ) → step ≡ now → AllByRecursion (IsPlaced clients now) (broken_by file step m.leases).keys
    of_file file step at =
        subst (λ n. AllByRecursion (IsPlaced clients now) (broken_by file n m.leases).keys) (sym at)
        (all_map (MayBreak clients now) (IsPlaced clients now) (broken_of_file file now) m.leases.keys (λ lease k. breaks clients now (lease.file == file) lease k) h)

    of_client : (other step : ℕ) → step ≡ now → AllByRecursion (IsPlaced clients now) (evicted_by other step m.leases).keys
    of_client other step at =
        subst (λ n. AllByRecursion (IsPlaced clients now) (evicted_by other n m.leases).keys) (sym at)
        (all_map (MayBreak clients now) (IsPlaced clients now) (broken_of_client other now) m.leases.keys (λ lease k. breaks clients now (lease.client == other) lease k) h)

    opened : (other : ℕ) (name : List ℕ) (range : Range) (step : ℕ) (b : Bool) → step ≡ now → Keys clients now (left_by (change_opens_file other range step m name b (file_named name m.files)) m)
    opened other name range step b at = open_cases (Keys clients now) other name range step m (record { same = stays; shared = λ f e. stays; intended = λ f mirror e primary. of_file f.number step at }) b

    confirms : (file : ℕ) (cookie : Share) (b : Bool) → Keys clients now (confirmed file cookie b m)
    confirms file cookie true = stays
    confirms file cookie false = stays

    -- a call of this client at this place leaves each key with its place
    pub call_places : (asked : Command) (call : Call) → IsAskedAt asked c now call → Keys clients now (after_call call m)
    call_places asked (OpenRead other name) well = read_cases (Keys clients now) other name m (record { same = stays; shared = λ f e. stays })
    call_places asked (OpenWrite other name range step) well = opened other name range step (nat_lt most_bytes range.end) well
    call_places asked (OpenCut other name size step) well = opened other name (record { start = size; end = eof }) step (nat_lt most_bytes size) well
    call_places asked (Free file cookie) well = stays
    call_places asked (Confirm file cookie) well = confirms file cookie (holds file cookie m)
    call_places asked (Commit file cookie end) well = stays
    call_places asked (Cut file cookie size) well = stays
    call_places asked (BeginCopy other name what) well = subst (λ k. Keys clients now (after_call (BeginCopy k name what) m)) (sym well.0) (begin_cases (Keys clients now) c name what m (record {
      same = stays;
      begins = λ ids f e free. takes f.number m.leases stays;
      adds = λ mirrors f is e free within. stays;
      extends = λ mirrors ids f is e free within. takes f.number m.leases stays;
      both = λ victim f v is e k free free_too. takes v.number (taken c f.number m.leases) (takes f.number m.leases stays);
    }))
    call_places asked (CopyDone key cleared) well = end_cases (Keys clients now) key cleared m (record { same = stays; given = given_up m key stays; done = λ f held e. given_up m key stays })
    call_places asked (MergeDone ours theirs) well = merge_cases (Keys clients now) ours theirs m (record { same = stays; given = both_up m ours theirs stays; merges = λ f v held held_too e k. both_up m ours theirs stays })
    call_places asked (GiveUp key) well = given_up m key stays
    call_places asked (Create name mirrors) well = create_cases (Keys clients now) name mirrors m (record { same = stays; comes = λ absent room. stays })
    call_places asked (Remove other name mirror to step) well = remove_cases (Keys clients now) other name mirror step m (record {
      same = stays;
      goes = λ f e kept. of_file f.number step well;
      splits = λ new f e kept fresh absent room. of_file f.number step well;
    }) to
    call_places asked (Set other name id change step) well = set_cases (Keys clients now) other name id change step m (record { same = stays; marks = λ f e kept. of_file f.number step well })
    call_places asked (Evict other step) well = of_client other step well.0
