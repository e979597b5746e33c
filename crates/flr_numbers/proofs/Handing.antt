-- What clients have in hand after a step: all others what they had, and the one that steps by what it did.
use Rattle.std.proofs.Common.{◌≡◌, ◌≢◌, ℕ, ◌≤◌, Bool, true, false, cond, not, ◌==◌, Some, None, List, [], ◌∷◌, ◌++◌, length, ◌⊎◌, inl, inr, refl, sym, ap, subst, ◌∙◌, arith, get_or}
use Rattle.std.specs.List.{AllByRecursion}
use Rattle.std.proofs.lemmas.Bool.{ne_eqb, not_from_true}
use Rattle.std.proofs.lemmas.Bool.Decides.{nat_tests}
use Rattle.std.proofs.lemmas.List.{append-nil}
use Rattle.std.proofs.lemmas.List.Elements.{filter-append}
use Rattle.flr_base.specs.declared.reply.ObjectId.{ObjectId}
use Rattle.composite_layout.specs.Layouts.{Composite}
use Rattle.composite_layout.specs.LookUps.{mirror_ids}
use Rattle.extent_lock.specs.declared.lock.Lock.{Lock}
use Rattle.extent_lock.specs.Extents.{locks_but, locks_of}
use Rattle.layout_lease.specs.declared.shared.Share.{Share}
use Rattle.layout_lease.specs.Leases.{KeyView, hand_of}
use Rattle.layout_lease.specs.Shares.{cookie_for, is_held}
use Rattle.layout_lease.proofs.Lists.{filter_dropped, filter_kept}
use Rattle.layout_state.specs.Mirroring.{excess}
use Rattle.meta_server.specs.declared.answers.Opened.{Opened}
use Rattle.meta_server.specs.Files.{File, MetaView, changed, file_of, with_change, with_eviction, with_share, without_file}
use Rattle.meta_laws.proofs.Opens.{one_file}
use Rattle.flr_numbers.specs.Frames.{IsShared, IsUnmade, Leaves, Stands, StandsBelow}
use Rattle.flr_numbers.proofs.Cookies.{held_evicted, held_shared}
use Rattle.flr_numbers.proofs.Inverting.{WasFound, was_evicted, was_found, was_pushed, was_without}
use Rattle.flr_numbers.specs.Hands.{AreMade, Changes, Fit, Hand, Has, IsBehind, IsOpenAs, holding, nothing}

-- ---- all others

made_kept : (m new : MetaView) (l : Composite) → ((target : ℕ) → get_or m.nexts target 0 ≤ get_or new.nexts target 0) → AreMade m l → AreMade new l
made_kept m new l grow h = λ o s. (let before = h o s in let more = grow o.target in omega (arith, before, more))

behind_kept : (client : ℕ) (m new : MetaView) (l : Composite) → Leaves client m new → AreMade m l → IsBehind m l → IsBehind new l
behind_kept client m new l leaves made h = λ number f o e s t. by o f.layout.generation t (leaves.rises number f o e s)
  where
    by : (o : ObjectId) (g : ℕ) → Stands o l → IsUnmade m o ⊎ StandsBelow m o g → l.generation ≤ g
    by o g t (inl late) = let less = made o t in absurd (omega (arith, late, less))
    by o g t (inr s) = let low = h s.number s.file o s.there s.stands t in omega (arith, low, s.below)

all_made_kept : (m new : MetaView) (ls : List Composite) → ((target : ℕ) → get_or m.nexts target 0 ≤ get_or new.nexts target 0) → AllByRecursion (AreMade m) ls → AllByRecursion (AreMade new) ls
all_made_kept m new [] grow h = tt
all_made_kept m new (l ∷ ls) grow h = (made_kept m new l grow h.0, all_made_kept m new ls grow h.1)

all_behind_kept : (client : ℕ) (m new : MetaView) (ls : List Composite) → Leaves client m new → AllByRecursion (AreMade m) ls → AllByRecursion (IsBehind m) ls → AllByRecursion (IsBehind new) ls
all_behind_kept client m new [] leaves made h = tt
all_behind_kept client m new (l ∷ ls) leaves made h = (behind_kept client m new l leaves made.0 h.0, all_behind_kept client m new ls leaves made.1 h.1)

fit_kept : (client : ℕ) (m new : MetaView) (ours theirs : KeyView) → Leaves client m new → ours.client ≢ client → theirs.client ≢ client → Fit m ours theirs → Fit new ours theirs
fit_kept client m new ours theirs leaves apart apart_too h = record {
  apart = h.apart;
  our_layout = h.our_layout;
  their_layout = h.their_layout;
  our_lease = leaves.leases ours h.our_layout apart h.our_lease;
  their_lease = leaves.leases theirs h.their_layout apart_too h.their_lease;
  within = ap (excess h.our_layout (length (mirror_ids h.their_layout.components)) (length h.their_layout.components)) leaves.most ∙ h.within;
}

-- a step of another client leaves to this one what it has in hand
pub others_keep : (c k : ℕ) (m new : MetaView) (held left : List Lock) (h : Hand) → Changes c m held new left → k ≢ c → Has k m held h → Has k new left h
others_keep c k m new held left h changes apart has = record {
  cookies = λ number cookie l own shared. has.cookies number cookie l own (changes.meta.cookies number cookie l (λ same. apart (sym own ∙ same)) shared);
  keys = changes.meta.hands k apart ∙ has.keys;
  own = has.own;
  locks = λ free. changes.locks k apart ∙ has.locks free;
  opened = λ o e. made_kept m new o.layout changes.nexts (has.opened o e);
  made = all_made_kept m new h.copied changes.nexts has.made;
  behind = all_behind_kept c m new h.copied changes.meta has.made has.behind;
  merges = λ pair e. (
      let p = has.merges pair e in
      (p.0, p.1, fit_kept c m new pair.0 pair.1 changes.meta (λ same. apart (sym p.0 ∙ same)) (λ same. apart (sym p.1 ∙ same)) p.2)
      );
}

-- ---- extent locks

-- a client that gave its locks back has none, and all others have theirs
pub none_locked : (client : ℕ) (held : List Lock) → locks_of client (locks_but client held) ≡ []
none_locked client held = filter_dropped (λ (lock : Lock). lock.holder == client) (λ lock. not (lock.holder == client)) (λ lock h. not_from_true (lock.holder == client) h) held

not_client : (client other holder : ℕ) → other ≢ client → (holder == other) ≡ true → not (holder == client) ≡ true
not_client client other holder apart h = grind (arith, nat_tests)

pub others_locked : (client other : ℕ) (held : List Lock) → other ≢ client → locks_of other (locks_but client held) ≡ locks_of other held
others_locked client other held apart = filter_kept (λ (lock : Lock). lock.holder == other) (λ lock. not (lock.holder == client)) (λ lock h. not_client client other lock.holder apart h) held

-- locks of the client alone come
none_of_them : (client other : ℕ) (more : List Lock) → other ≢ client → AllByRecursion (λ (lock : Lock). lock.holder ≡ client) more → locks_of other more ≡ []
none_of_them client other [] apart h = refl
none_of_them client other (lock ∷ locks) apart h =
    ap (λ b. cond b (lock ∷ locks_of other locks) (locks_of other locks)) (ne_eqb lock.holder other (λ same. apart (sym same ∙ h.0))) ∙ none_of_them client other locks apart h.1

pub more_locked : (client other : ℕ) (held more : List Lock) → other ≢ client → AllByRecursion (λ (lock : Lock). lock.holder ≡ client) more → locks_of other (held ++ more) ≡ locks_of other held
more_locked client other held more apart h =
    filter-append (λ (lock : Lock). lock.holder == other) held more ∙ ap (λ ls. locks_of other held ++ ls) (none_of_them client other more apart h) ∙ append-nil (locks_of other held)

-- ---- the client that steps

-- an open file or none, with extent locks or without
abbrev pub bare : Bool → Hand
bare locks = record { opened = None; keys = []; locks = locks; copied = []; merges = None }

module _ (c : ℕ) (m : MetaView) (held : List Lock) where
  -- nothing, but maybe extent locks
  pub bare_has : (b : Bool) → ((number : ℕ) (cookie : Share) (l : Composite) → cookie.client ≡ c → IsShared m number cookie l → ⊥) → hand_of c m.leases ≡ [] → (b ≡ false → locks_of c held ≡ []) → Has c m held (bare b)
  bare_has b cookies keys locks = record { cookies = cookies; keys = keys; own = tt; locks = locks; opened = λ o e. absurd (cc); made = tt; behind = tt; merges = λ pair e. absurd (cc) }

  -- a cookie that was lost
  pub lost_has : (b : Bool) (o : Opened) → Has c m held (holding b o) → ((number : ℕ) (cookie : Share) (l : Composite) → cookie.client ≡ c → IsShared m number cookie l → ⊥) → Has c m held (bare b)
  lost_has b o has none = bare_has b none has.keys has.locks

  -- the same with other extent locks
  pub held_has : (left : List Lock) (b : Bool) (o : Opened) → Has c m held (holding b o) → (b' : Bool) → (b' ≡ false → locks_of c left ≡ []) → Has c m left (holding b' o)
  held_has left b o has b' locks = record { cookies = has.cookies; keys = has.keys; own = tt; locks = locks; opened = has.opened; made = tt; behind = tt; merges = λ pair e. absurd (cc) }

  -- a cookie that was given back, or that a commit takes
  pub freed_has : (b : Bool) (o : Opened) (g : File → File) → ((x : File) → (g x).number ≡ x.number) → ((x : File) (cookie : Share) → is_held (g x).lock cookie ≡ true → (is_held x.lock cookie ≡ true) × (cookie ≡ o.cookie → ⊥)) → Has c m held (holding b o)
      → Has c (with_change o.file g m) held (bare b)
  freed_has b o g keeps freed has = record {
    cookies = λ k cookie l own h. none k cookie l own h (was_found k o.file g m.files h.file keeps h.there);
    keys = has.keys;
    own = tt;
    locks = has.locks;
    opened = λ x e. absurd (cc);
    made = tt;
    behind = tt;
    merges = λ pair e. absurd (cc);
  }
    where
      none : (k : ℕ) (cookie : Share) (l : Composite) → cookie.client ≡ c → (h : IsShared (with_change o.file g m) k cookie l) → WasFound k o.file g m.files h.file → ⊥
      none k cookie l own h w = elim w.is [
        | inl here ↦ (
            let f = freed w.before cookie (subst (λ (x : File). is_held x.lock cookie ≡ true) here.1 h.held) in
            let it_is = has.cookies k cookie w.before.layout own (record { file = w.before; there = w.there; held = f.0; layout = refl }) in
            f.1 (sym it_is.1)
            )
        | inr there ↦ (
            let it_is = has.cookies k cookie w.before.layout own (record { file = w.before; there = w.there; held = subst (λ (x : File). is_held x.lock cookie ≡ true) there.1 h.held; layout = refl }) in
            there.0 (sym it_is.0)
            )
      ]

  -- a file that was opened
  pub shared_has : (b : Bool) (n : ℕ) (x : File) → (b ≡ false → locks_of c held ≡ []) → Has c m held nothing → file_of n m.files ≡ Some x → AreMade m x.layout
      → Has c (with_change n (with_share c) m) held (holding b (record { file = n; cookie = cookie_for c x.lock; layout = x.layout; size = x.size }))
  shared_has b n x locks has there made = record {
    cookies = λ k cookie l own h. open_as k cookie l own h (was_found k n (with_share c) m.files h.file (λ y. refl) h.there);
    keys = has.keys;
    own = tt;
    locks = locks;
    opened = λ o e. (let same : record { file = n; cookie = cookie_for c x.lock; layout = x.layout; size = x.size } ≡ o = cc in subst (λ (y : Opened). AreMade (with_change n (with_share c) m) y.layout) same made);
    made = tt;
    behind = tt;
    merges = λ pair e. absurd (cc);
  }
    where
      o : Opened
      o = record { file = n; cookie = cookie_for c x.lock; layout = x.layout; size = x.size }

      new : (k : ℕ) (cookie : Share) (l : Composite) → cookie.client ≡ c → (h : IsShared (with_change n (with_share c) m) k cookie l) → (y : File) → file_of k m.files ≡ Some y → k ≡ n → h.file ≡ with_share c y → (is_held y.lock cookie ≡ true) ⊎ (cookie ≡ cookie_for c y.lock) → IsOpenAs (Some o) k cookie l
      new k cookie l own h y e same is (inl before) = absurd (has.cookies k cookie y.layout own (record { file = y; there = e; held = before; layout = refl }))
      new k cookie l own h y e same is (inr it) =
          let one : y ≡ x = one_file (file_of n m.files) y x (subst (λ j. file_of j m.files ≡ Some y) same e) there in
          (sym same, ap (λ (z : File). cookie_for c z.lock) (sym one) ∙ sym it, ap (λ (z : File). z.layout) (sym one) ∙ sym (ap (λ (z : File). z.layout) is) ∙ h.layout)

      open_as : (k : ℕ) (cookie : Share) (l : Composite) → cookie.client ≡ c → (h : IsShared (with_change n (with_share c) m) k cookie l) → WasFound k n (with_share c) m.files h.file → IsOpenAs (Some o) k cookie l
      open_as k cookie l own h w = elim w.is [
        | inl here ↦ new k cookie l own h w.before w.there here.0 here.1 (held_shared c w.before.lock cookie (subst (λ (z : File). is_held z.lock cookie ≡ true) here.1 h.held))
        | inr other ↦ absurd (has.cookies k cookie w.before.layout own (record { file = w.before; there = w.there; held = subst (λ (z : File). is_held z.lock cookie ≡ true) other.1 h.held; layout = refl }))
      ]

-- ---- cookies that are held were held

-- each cookie that is held of the new files was held of the old ones
abbrev pub Backs : MetaView → MetaView → Type 0
Backs old new = (number : ℕ) (cookie : Share) (l : Composite) → IsShared new number cookie l → (before : Composite) × IsShared old number cookie before

pub changed_backs : (m new : MetaView) (n : ℕ) (g : File → File) → ((x : File) → (g x).number ≡ x.number) → ((x : File) (cookie : Share) → is_held (g x).lock cookie ≡ true → is_held x.lock cookie ≡ true) → new.files ≡ changed n g m.files → Backs m new
changed_backs m new n g keeps held files = λ k cookie l h. at k cookie l h (was_found k n g m.files h.file keeps (subst (λ (fs : List File). file_of k fs ≡ Some h.file) files h.there))
  where
    at : (k : ℕ) (cookie : Share) (l : Composite) → (h : IsShared new k cookie l) → WasFound k n g m.files h.file → (before : Composite) × IsShared m k cookie before
    at k cookie l h w = elim w.is [
      | inl here ↦ (w.before.layout, record { file = w.before; there = w.there; held = held w.before cookie (subst (λ (x : File). is_held x.lock cookie ≡ true) here.1 h.held); layout = refl })
      | inr there ↦ (w.before.layout, record { file = w.before; there = w.there; held = subst (λ (x : File). is_held x.lock cookie ≡ true) there.1 h.held; layout = refl })
    ]

pub evicted_backs : (m : MetaView) (client step : ℕ) → Backs m (with_eviction client step m)
evicted_backs m client step = λ k cookie l h. (
    let w = was_evicted k client m.files h.file h.there in
    (w.before.layout, record { file = w.before; there = w.there; held = held_evicted client w.before.lock cookie (subst (λ (x : File). is_held x.lock cookie ≡ true) w.is h.held); layout = refl })
    )

pub pushed_backs : (m mid new : MetaView) (x : File) → Backs m mid → ((cookie : Share) → is_held x.lock cookie ≡ true → ⊥) → new.files ≡ mid.files ++ x ∷ [] → Backs m new
pushed_backs m mid new x back nobody files = λ k cookie l h. at k cookie l h (was_pushed k mid.files x h.file (subst (λ (fs : List File). file_of k fs ≡ Some h.file) files h.there))
  where
    at : (k : ℕ) (cookie : Share) (l : Composite) → (h : IsShared new k cookie l) → (file_of k mid.files ≡ Some h.file) ⊎ (h.file ≡ x) → (before : Composite) × IsShared m k cookie before
    at k cookie l h (inl before) = back k cookie l (record { file = h.file; there = before; held = h.held; layout = h.layout })
    at k cookie l h (inr new) = absurd (nobody cookie (subst (λ (y : File). is_held y.lock cookie ≡ true) new h.held))

pub without_backs : (m mid new : MetaView) (n : ℕ) → Backs m mid → new.files ≡ without_file n mid.files → Backs m new
without_backs m mid new n back files = λ k cookie l h. (
    let w = was_without k n mid.files h.file (subst (λ (fs : List File). file_of k fs ≡ Some h.file) files h.there) in
    back k cookie l (record { file = h.file; there = w.1; held = h.held; layout = h.layout })
    )

pub backs_then : (a b c : MetaView) → Backs a b → Backs b c → Backs a c
backs_then a b c h k = λ number cookie l is. (let mid = k number cookie l is in h number cookie mid.0 mid.1)

-- the client holds no cookie still
pub still_none : (c : ℕ) (m new : MetaView) (held : List Lock) → Has c m held nothing → Backs m new → (number : ℕ) (cookie : Share) (l : Composite) → cookie.client ≡ c → IsShared new number cookie l → ⊥
still_none c m new held has back number cookie l own h = let before = back number cookie l h in has.cookies number cookie before.0 own before.1
