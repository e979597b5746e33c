-- What a step grants, and locks that stay apart.
use Rattle.std.proofs.Common.{◌≡◌, ◌≢◌, ℕ, Bool, cond, ◌==◌, Option, Some, None, List, [], ◌∷◌, ◌++◌, ◌⊎◌, inl, inr, refl, sym, ap, subst, ◌∙◌, Contains}
use Rattle.std.specs.Option.{option_or}
use Rattle.std.specs.List.{AllByRecursion}
use Rattle.std.proofs.lemmas.Bool.{cases_eq, eq-eqb}
use Rattle.std.proofs.lemmas.List.Elements.{Contains-append_cases, filter-append}
use Rattle.extent_lock.specs.Conflicts.{AreApart, ConflictsWithNone}
use Rattle.extent_lock.specs.declared.lock.Lock.{Lock}
use Rattle.extent_lock.specs.Extents.{blocker, locks_of}
use Rattle.extent_lock.proofs.LockLaws.{Conflict-sym, blocker_none}
use Rattle.extent_lock.proofs.Members.{Contains-cases, Contains-filter, Contains-filter_parts, Contains-nil}
use Rattle.call_steps.specs.Steps.{Outcome, Going, Fixed, Ended, Answered, Blocked, widen}
use Rattle.client_write.specs.Truncates.{first_blocker}
use Rattle.flr_steps.specs.declared.client.Running.{Running}
use Rattle.flr_locks.specs.Phases.{AreLocksOf}

-- ---- what a step grants

-- each of the locks that a client holds now was held before, or conflicts with none that was
abbrev pub AreFree : ℕ → List Lock → List Lock → Type 0
AreFree c held left = (lock : Lock) → Contains (locks_of c left) lock → Contains held lock ⊎ ConflictsWithNone held lock

-- the client holds what its call lists now, and nothing that conflicts with what was held
pub record Granted (c : ℕ) (held : List Lock) (call : Running) (left : List Lock) : Type 0 where
  pub own : AreLocksOf call (locks_of c left)
  pub free : AreFree c held left

-- where the call goes on
abbrev pub Grants : {C : Type 0} → (C → Running) → ℕ → List Lock → Outcome C → Type 0
Grants f c held (Going next after) = Granted c held (f next) after.locks
Grants f c held (Fixed next reply takes after) = Granted c held (f next) after.locks
Grants f c held (Ended after) = Unit {0}
Grants f c held (Answered reply takes after) = Unit {0}
Grants f c held (Blocked holder) = Unit {0}

pub widened : {C : Type 0} (f : C → Running) (c : ℕ) (held : List Lock) (o : Outcome C) → Grants f c held o → Grants (λ (x : Running). x) c held (widen f o)
widened f c held (Going next after) h = h
widened f c held (Fixed next reply takes after) h = h
widened f c held (Ended after) h = tt
widened f c held (Answered reply takes after) h = tt
widened f c held (Blocked holder) h = tt

-- ---- the ways of a step

-- nothing is granted
pub free_same : (c : ℕ) (held : List Lock) → AreFree c held held
free_same c held lock h = inl (Contains-filter_parts (λ (l : Lock). l.holder == c) held lock h).0

-- nothing is held
pub free_none : (c : ℕ) (held left : List Lock) → locks_of c left ≡ [] → AreFree c held left
free_none c held left none lock h = absurd (Contains-nil lock (subst (λ (ls : List Lock). Contains ls lock) none h))

-- locks are granted that nobody's are in the way of
pub free_more : (c : ℕ) (held more : List Lock) → ((lock : Lock) → Contains more lock → ConflictsWithNone held lock) → AreFree c held (held ++ more)
free_more c held more none lock h =
    elim (Contains-append_cases held more lock (Contains-filter_parts (λ (l : Lock). l.holder == c) (held ++ more) lock h).0) [ inl old ↦ inl old | inr new ↦ inr (none lock new) ]

pub free_one : (c : ℕ) (held : List Lock) (asked : Lock) → blocker held asked ≡ None → AreFree c held (held ++ asked ∷ [])
free_one c held asked e =
    free_more c held (asked ∷ []) (λ lock h. elim (Contains-cases asked [] lock h) [
      | inl same ↦ subst (λ (l : Lock). ConflictsWithNone held l) same ((blocker_none held asked).0 e)
      | inr none ↦ absurd (Contains-nil lock none)
    ])

or_parts : {X : Type 0} (a b : Option X) → option_or a b ≡ None → (a ≡ None) × (b ≡ None)
or_parts None b e = (refl, e)
or_parts (Some x) b e = absurd (cc)

none_first : (held asked : List Lock) → first_blocker asked held ≡ None → (lock : Lock) → Contains asked lock → ConflictsWithNone held lock
none_first held [] e lock h = absurd (Contains-nil lock h)
none_first held (one ∷ asked) e lock h =
    let parts = or_parts (blocker held one) (first_blocker asked held) e in
    elim (Contains-cases one asked lock h) [
      | inl same ↦ subst (λ (l : Lock). ConflictsWithNone held l) same ((blocker_none held one).0 parts.0)
      | inr more ↦ none_first held asked parts.1 lock more
    ]

pub free_all : (c : ℕ) (held asked : List Lock) → first_blocker asked held ≡ None → AreFree c held (held ++ asked)
free_all c held asked e = free_more c held asked (none_first held asked e)

-- the locks of a client with several more of its own
all_its : (c : ℕ) (asked : List Lock) → AllByRecursion (λ (lock : Lock). lock.holder ≡ c) asked → locks_of c asked ≡ asked
all_its c [] own = refl
all_its c (lock ∷ asked) own = ap (λ (b : Bool). cond b (lock ∷ locks_of c asked) (locks_of c asked)) (eq-eqb lock.holder c own.0) ∙ ap (λ (ls : List Lock). lock ∷ ls) (all_its c asked own.1)

pub own_more : (c : ℕ) (held asked : List Lock) → AllByRecursion (λ (lock : Lock). lock.holder ≡ c) asked → locks_of c (held ++ asked) ≡ locks_of c held ++ asked
own_more c held asked own = filter-append (λ (lock : Lock). lock.holder == c) held asked ∙ ap (λ (ls : List Lock). locks_of c held ++ ls) (all_its c asked own)

-- ---- apart

-- locks that are apart stay so where all others hold what they held, and this client nothing that conflicts with it
pub stays_apart : (c : ℕ) (held left : List Lock) → ((other : ℕ) → other ≢ c → locks_of other left ≡ locks_of other held) → AreFree c held left → AreApart held → AreApart left
stays_apart c held left same free apart a b ha hb conflict = by (cases_eq a.holder c) (cases_eq b.holder c)
  where
    own : (lock : Lock) → Contains left lock → lock.holder ≡ c → Contains (locks_of c left) lock
    own lock h is = Contains-filter (λ (l : Lock). l.holder == c) left lock h (eq-eqb lock.holder c is)

    old : (lock : Lock) → Contains left lock → lock.holder ≢ c → Contains held lock
    old lock h is =
        let mine : Contains (locks_of lock.holder left) lock = Contains-filter (λ (l : Lock). l.holder == lock.holder) left lock h (eq-eqb lock.holder lock.holder refl) in
        (Contains-filter_parts (λ (l : Lock). l.holder == lock.holder) held lock (subst (λ (ls : List Lock). Contains ls lock) (same lock.holder is) mine)).0

    by : (a.holder ≡ c) ⊎ (a.holder ≡ c → ⊥) → (b.holder ≡ c) ⊎ (b.holder ≡ c → ⊥) → ⊥
    by (inl ours) (inl theirs) = conflict.clients (ours ∙ sym theirs)
    by (inl ours) (inr theirs) = elim (free a (own a ha ours)) [ inl was ↦ apart a b was (old b hb theirs) conflict | inr none ↦ none b (old b hb theirs) conflict ]
    by (inr ours) (inl theirs) = elim (free b (own b hb theirs)) [ inl was ↦ apart a b (old a ha ours) was conflict | inr none ↦ none a (old a ha ours) (Conflict-sym a b conflict) ]
    by (inr ours) (inr theirs) = apart a b (old a ha ours) (old b hb theirs) conflict
