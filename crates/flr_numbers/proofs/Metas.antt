-- Steps that change one kind of server, and what calls of the metadata server ask for.
use Rattle.std.proofs.Common.{◌≡◌, ◌≢◌, ℕ, Bool, true, false, Option, Some, None, List, inl, inr, refl, sym, ap, ◌∙◌, arith, length-set}
use Rattle.std.specs.Prelude.{is_some, if◌then◌else◌}
use Rattle.std.specs.Option.{option_map, option_map_or}
use Rattle.std.proofs.Math.ListN.{set}
use Rattle.std.proofs.lemmas.Bool.{true≢false}
use Rattle.composite_layout.specs.Layouts.{Composite}
use Rattle.extent_lock.specs.declared.lock.Lock.{Lock}
use Rattle.extent_lock.specs.Extents.{locks_but, locks_of}
use Rattle.layout_lease.specs.declared.shared.Share.{Share}
use Rattle.layout_lease.specs.Shares.{is_held}
use Rattle.object_target.specs.TargetState.{TargetState, version_at}
use Rattle.meta_server.specs.declared.answers.Opened.{Opened}
use Rattle.meta_server.specs.Closing.{confirms, frees, holds, is_there, size_of}
use Rattle.meta_server.specs.Conditions.{IsRoom, MayShare}
use Rattle.meta_server.specs.Files.{File, MetaView, file_of, same_name, with_change, with_freed, with_share}
use Rattle.meta_server.specs.Sound.{IsSound}
use Rattle.meta_laws.proofs.Copies.{there_named}
use Rattle.meta_laws.proofs.Explaining.{explained_same}
use Rattle.meta_laws.proofs.Finding.{found_keeps}
use Rattle.flr_numbers.specs.Frames.{IsShared, Leaves}
use Rattle.flr_numbers.proofs.Cookies.{held_freed, held_shared, none_of}
use Rattle.flr_numbers.proofs.Leaving as leaving
use Rattle.call_steps.specs.Servers.{Servers, target_at}
use Rattle.flr_numbers.specs.Hands.{AreServers, Good, Hand, Has, HasRoom, holding, nothing, locked}
use Rattle.flr_numbers.proofs.Handing.{bare, bare_has, freed_has, none_locked, others_locked}
use Rattle.flr_numbers.proofs.Objects.{kept_versions}
use Rattle.flr_numbers.proofs.Serving.{Kept, kept_servers, meta_servers}

-- ---- good steps

module _ (c : ℕ) (s : Servers) (h : Hand) where
  -- nothing changes
  pub good_same : AreServers s.meta s.targets → Has c s.meta s.locks h → Good c s h s
  good_same servers has = record { servers = servers; has = has; changes = record { meta = leaving.nothing c s.meta; nexts = λ target. omega arith; many = refl; locks = λ other apart. refl }; layouts = explained_same s.meta }

  -- the targets alone change
  pub good_targets : (targets : List TargetState) → AreServers s.meta targets → Has c s.meta s.locks h → Good c s h (record s { targets = targets })
  good_targets targets servers has = record { servers = servers; has = has; changes = record { meta = leaving.nothing c s.meta; nexts = λ target. omega arith; many = refl; locks = λ other apart. refl }; layouts = explained_same s.meta }

  -- the client's extent locks alone change
  pub good_locks : (left : List Lock) → ((other : ℕ) → other ≢ c → locks_of other left ≡ locks_of other s.locks) → AreServers s.meta s.targets → Has c s.meta left h → Good c s h (record s { locks = left })
  good_locks left others servers has = record { servers = servers; has = has; changes = record { meta = leaving.nothing c s.meta; nexts = λ target. omega arith; many = refl; locks = others }; layouts = explained_same s.meta }

  -- the metadata server alone changes
  pub good_meta : (new : MetaView) → Kept s.meta new → Leaves c s.meta new → AreServers s.meta s.targets → Has c new s.locks h → Good c s h (record s { meta = new })
  good_meta new kept leaves servers has = record {
    servers = meta_servers c s.meta new s.targets kept leaves servers;
    has = has;
    changes = record { meta = leaves; nexts = kept.falls.objects; many = kept.falls.targets; locks = λ other apart. refl };
    layouts = kept.layouts;
  }

  -- the metadata server changes, and the client gives its extent locks back
  pub good_unlocked : (new : MetaView) → Kept s.meta new → Leaves c s.meta new → AreServers s.meta s.targets → Has c new (locks_but c s.locks) h → Good c s h (record s { meta = new; locks = locks_but c s.locks })
  good_unlocked new kept leaves servers has = record {
    servers = meta_servers c s.meta new s.targets kept leaves servers;
    has = has;
    changes = record { meta = leaves; nexts = kept.falls.objects; many = kept.falls.targets; locks = λ other apart. others_locked c other s.locks apart };
    layouts = kept.layouts;
  }

-- a target is called that keeps the versions that it kept
pub called : (s : Servers) (id : ℕ) (t : TargetState) → ((n : ℕ) → version_at t n ≡ version_at (target_at s.targets id) n) → AreServers s.meta s.targets → AreServers s.meta (set s.targets id t)
called s id t same h = kept_servers s.meta s.targets (set s.targets id t) (length-set s.targets id t) (kept_versions s.targets id t same) h

-- a client that has extent locks alone gives them back
pub unlocked_has : (c : ℕ) (m : MetaView) (held : List Lock) → Has c m held locked → Has c m (locks_but c held) nothing
unlocked_has c m held has = bare_has c m (locks_but c held) false has.cookies has.keys (λ no. none_locked c held)

-- ---- cookies

-- a cookie that stands is held
pub shared_holds : (m : MetaView) (number : ℕ) (cookie : Share) (l : Composite) → IsShared m number cookie l → holds number cookie m ≡ true
shared_holds m number cookie l h = ap (λ (o : Option File). option_map_or (λ (f : File). is_held f.lock cookie) o false) h.there ∙ h.held

module _ (c : ℕ) (m : MetaView) (held : List Lock) (b : Bool) (o : Opened) (has : Has c m held (holding b o)) where
  -- where the cookie of the open file isn't held, the client holds none
  pub none_held : holds o.file o.cookie m ≡ false → (number : ℕ) (cookie : Share) (l : Composite) → cookie.client ≡ c → IsShared m number cookie l → ⊥
  none_held lost number cookie l own h =
      let it_is = has.cookies number cookie l own h in
      let still : holds o.file o.cookie m ≡ true = (λ j. holds (it_is.0 j) (it_is.1 j) m) ∙ shared_holds m number cookie l h in
      true≢false (sym still ∙ lost)

  -- nor where the file is gone
  pub none_there : is_there o.file m ≡ false → (number : ℕ) (cookie : Share) (l : Composite) → cookie.client ≡ c → IsShared m number cookie l → ⊥
  none_there gone number cookie l own h =
      let it_is = has.cookies number cookie l own h in
      let there : file_of o.file m.files ≡ Some h.file = ap (λ n. file_of n m.files) it_is.0 ∙ h.there in
      true≢false (sym (ap (λ (x : Option File). is_some x) there) ∙ gone)

  -- nor where the file's size isn't told
  pub none_confirmed : confirms o.file o.cookie m ≡ None → (number : ℕ) (cookie : Share) (l : Composite) → cookie.client ≡ c → IsShared m number cookie l → ⊥
  none_confirmed lost number cookie l own h =
      let it_is = has.cookies number cookie l own h in
      let still : holds o.file o.cookie m ≡ true = (λ j. holds (it_is.0 j) (it_is.1 j) m) ∙ shared_holds m number cookie l h in
      let there : file_of o.file m.files ≡ Some h.file = ap (λ n. file_of n m.files) it_is.0 ∙ h.there in
      let told : confirms o.file o.cookie m ≡ Some h.file.size = ap (λ (b : Bool). if b then size_of o.file m else None) still ∙ ap (option_map (λ (f : File). f.size)) there in
      absurd (cc)

  -- the client gives the cookie back
  pub freed_leaves : Leaves c m (frees o.file o.cookie m)
  freed_leaves = leaving.lock_changes c m o.file (with_freed o.cookie) (λ x. refl) (λ x. refl) (λ x cookie apart h. (held_freed o.cookie x.lock cookie h).0)

  pub freed_bare : Has c (frees o.file o.cookie m) held (bare b)
  freed_bare = freed_has c m held b o (with_freed o.cookie) (λ x. refl) (λ x cookie h. held_freed o.cookie x.lock cookie h) has

-- a client that has nothing in hand may share the layout lock of any file
pub may_share : (c : ℕ) (name : List ℕ) (m : MetaView) (held : List Lock) → IsSound m → HasRoom m → Has c m held nothing → MayShare c name m
may_share c name m held h room has = λ f e. (
  none_of c f.lock (λ cookie own is. has.cookies f.number cookie f.layout own (record { file = f; there = there_named m h name f e; held = is; layout = refl })),
  found_keeps (λ (y : File). same_name name y.name) (λ (y : File). IsRoom y.lock.next) m.files f e room.cookies,
)

-- a client comes to share a lock
pub share_leaves : (c : ℕ) (m : MetaView) (n : ℕ) → Leaves c m (with_change n (with_share c) m)
share_leaves c m n = leaving.lock_changes c m n (with_share c) (λ x. refl) (λ x. refl) held
  where
    held : (x : File) (cookie : Share) → cookie.client ≢ c → is_held (with_share c x).lock cookie ≡ true → is_held x.lock cookie ≡ true
    held x cookie apart h = elim (held_shared c x.lock cookie h) [ inl before ↦ before | inr it ↦ absurd (apart (ap (λ (k : Share). k.client) it)) ]
