-- Laws of held locks that callers cite.
use Rattle.std.proofs.Common.{◌≡◌, ◌≢◌, ◌↔◌, ℕ, All, append-nil, Bool, true, false, cond, not, ◌==◌, List, [], ◌∷◌, ◌++◌, Option, Some, None, option_map, inl, inr, refl, sym, ap, ◌∙◌, subst, arith, filter, Contains}
use Rattle.std.proofs.lemmas.List.Elements.{Contains-push_cases, All-weaker, filter-append, filter_passes}
use Rattle.std.proofs.lemmas.Bool.{false_from_ne_true, not_from_true, not_from_false, not-true, eq-eqb, ne_eqb, eqb-true, both_ways}
use Rattle.flr_base.specs.declared.reply.ObjectId.{ObjectId}
use Rattle.flr_base.specs.declared.reply.Range.{Range}
use Rattle.extent_lock.specs.declared.lock.Lock.{Lock}
use Rattle.extent_lock.specs.Conflicts.{Conflict, AreApart, ConflictsWithNone, conflicts}
use Rattle.extent_lock.specs.Order.{first_of, StandsFirst}
use Rattle.extent_lock.specs.Writers.{is_write_but, IsWriteBut}
use Rattle.extent_lock.specs.Extents.{told_of, blocker, writer_but, locks_of, locks_but, Reaches, whole_of, TellsFirst}
use Rattle.extent_lock.proofs.Members.{Contains-filter_parts, Contains-filter, filter_none, filter_all, filter_same_on}
use Rattle.extent_lock.proofs.Firsts.{IsFirstOf, first_of_is}
use Rattle.extent_lock.proofs.Decided.{Conflict-from_test, test_from_Conflict, IsWriteBut-from_test, test_from_IsWriteBut}

-- a conflict is mutual
pub Conflict-sym : (a b : Lock) → Conflict a b → Conflict b a
Conflict-sym a b h = record {
  clients = λ e. h.clients (sym e);
  on = sym h.on;
  byte = h.byte;
  ours = h.theirs;
  theirs = h.ours;
  exclusive = elim h.exclusive [ inl e ↦ inr e | inr e ↦ inl e ];
}

-- locks of one client don't conflict
pub Conflict-own : (a b : Lock) → a.holder ≡ b.holder → Conflict a b → ⊥
Conflict-own a b e h = h.clients e

-- a lock that conflicts with none of the held locks can be added to them
pub AreApart-push : (locks : List Lock) (asked : Lock) → AreApart locks → ConflictsWithNone locks asked → AreApart (locks ++ asked ∷ [])
AreApart-push locks asked apart none a b ha hb =
    elim (Contains-push_cases locks asked a ha) [
      | inl ka ↦ elim (Contains-push_cases locks asked b hb) [ inl kb ↦ apart a b ka kb | inr eb ↦ λ h. none a ka (Conflict-sym a asked (subst (λ z. Conflict a z) (sym eb) h)) ]
      | inr ea ↦ elim (Contains-push_cases locks asked b hb) [ inl kb ↦ λ h. none b kb (subst (λ z. Conflict z b) (sym ea) h) | inr eb ↦ λ h. h.clients (ap (λ (z : Lock). z.holder) (sym ea ∙ eb)) ]
    ]

pub AreApart-push_if : (granted : Bool) (locks : List Lock) (asked : Lock) → AreApart locks → ConflictsWithNone locks asked → AreApart (cond granted (locks ++ asked ∷ []) locks)
AreApart-push_if true locks asked apart none = AreApart-push locks asked apart none
AreApart-push_if false locks asked apart none = apart

-- some of the locks that are apart are apart
pub AreApart-filter : (p : Lock → Bool) (locks : List Lock) → AreApart locks → AreApart (filter p locks)
AreApart-filter p locks apart a b ha hb = apart a b (Contains-filter_parts p locks a ha).0 (Contains-filter_parts p locks b hb).0

module _ (held : List Lock) (p : Lock → Bool) (Kind : Lock → Type 0) (from : (lock : Lock) → p lock ≡ true → Kind lock) (to : (lock : Lock) → Kind lock → p lock ≡ true) where
  stands_first : (first : Lock) → IsFirstOf (filter p held) (Some first) → StandsFirst held Kind first
  stands_first first h = record {
    held = (Contains-filter_parts p held first h.0).0;
    kind = from first (Contains-filter_parts p held first h.0).1;
    first = λ other k e. h.1 other (Contains-filter p held other k (to other e));
  }

  tells_at : (first : Option Lock) → IsFirstOf (filter p held) first → TellsFirst (option_map told_of first) held Kind
  tells_at None h = tt
  tells_at (Some first) h = (first, refl, stands_first first h)

  none_at : (first : Option Lock) → IsFirstOf (filter p held) first → (option_map told_of first ≡ None) ↔ ((lock : Lock) → Contains held lock → Kind lock → ⊥)
  none_at None h = (λ _ lock k e. h lock (Contains-filter p held lock k (to lock e)), λ _. refl)
  none_at (Some first) h =
      (λ e. absurd (cc), λ none. absurd (none first (Contains-filter_parts p held first h.0).0 (from first (Contains-filter_parts p held first h.0).1)))

-- who is in the way is the first of those that conflict
pub blocker_tells : (held : List Lock) (asked : Lock) → TellsFirst (blocker held asked) held (Conflict asked)
blocker_tells held asked =
    tells_at held (conflicts asked) (Conflict asked) (Conflict-from_test asked) (test_from_Conflict asked) (first_of (filter (conflicts asked) held)) (first_of_is (filter (conflicts asked) held))

-- nobody is in the way exactly where none conflicts
pub blocker_none : (held : List Lock) (asked : Lock) → (blocker held asked ≡ None) ↔ ConflictsWithNone held asked
blocker_none held asked =
    none_at held (conflicts asked) (Conflict asked) (Conflict-from_test asked) (test_from_Conflict asked) (first_of (filter (conflicts asked) held)) (first_of_is (filter (conflicts asked) held))

pub ConflictsWithNone-same : (xs ys : List Lock) (asked : Lock) → xs ≡ ys → ConflictsWithNone xs asked → ConflictsWithNone ys asked
ConflictsWithNone-same xs ys asked e h = subst (λ held. ConflictsWithNone held asked) e h

-- the same, told of a list that is this one
pub none_at_same : (told : Option (ℕ × Range)) (xs ys : List Lock) (asked : Lock) → xs ≡ ys → (told ≡ None) ↔ ConflictsWithNone xs asked → (told ≡ None) ↔ ConflictsWithNone ys asked
none_at_same told xs ys asked e h = subst (λ held. (told ≡ None) ↔ ConflictsWithNone held asked) e h

-- the writer told is the first of those that write
pub writer_tells : (held : List Lock) (asker : ℕ) (object : ObjectId) → TellsFirst (writer_but held asker object) held (IsWriteBut asker object)
writer_tells held asker object =
    tells_at held (is_write_but asker object) (IsWriteBut asker object) (IsWriteBut-from_test asker object) (test_from_IsWriteBut asker object) (first_of (filter (is_write_but asker object) held)) (first_of_is (filter (is_write_but asker object) held))

-- no writer is told exactly where nobody else writes
pub writer_none : (held : List Lock) (asker : ℕ) (object : ObjectId) → (writer_but held asker object ≡ None) ↔ ((lock : Lock) → Contains held lock → IsWriteBut asker object lock → ⊥)
writer_none held asker object =
    none_at held (is_write_but asker object) (IsWriteBut asker object) (IsWriteBut-from_test asker object) (test_from_IsWriteBut asker object) (first_of (filter (is_write_but asker object) held)) (first_of_is (filter (is_write_but asker object) held))

-- a client's own locks are never in its way
pub blocker-own : (held own : List Lock) (asked : Lock) → All (λ lock. lock.holder ≡ asked.holder) own → blocker (held ++ own) asked ≡ blocker held asked
blocker-own held own asked h =
    let none = filter_none (conflicts asked) own (All-weaker (λ lock. lock.holder ≡ asked.holder) (λ lock. conflicts asked lock ≡ false) (λ lock e. false_from_ne_true _ (λ t. Conflict-own asked lock (sym e) (Conflict-from_test asked lock t))) own h) in
    let same = filter-append (conflicts asked) held own ∙ ap (λ locks. filter (conflicts asked) held ++ locks) none ∙ append-nil (filter (conflicts asked) held) in
    ap (λ locks. option_map told_of (first_of locks)) same

-- what is left when a client gives back all that it asked for
pub locks_but-own : (held own : List Lock) (holder : ℕ) → All (λ lock. lock.holder ≢ holder) held → All (λ lock. lock.holder ≡ holder) own → locks_but holder (held ++ own) ≡ held
locks_but-own held own holder others h =
    let is_other : Lock → Bool = λ lock. not (lock.holder == holder) in
    let none = filter_none is_other own (All-weaker (λ lock. lock.holder ≡ holder) (λ lock. is_other lock ≡ false) (λ lock e. not_from_true _ (eq-eqb lock.holder holder e)) own h) in
    let all = filter_all is_other held (All-weaker (λ lock. lock.holder ≢ holder) (λ lock. is_other lock ≡ true) (λ lock e. not_from_false _ (ne_eqb lock.holder holder e)) held others) in
    filter-append is_other held own ∙ ap (λ locks. filter is_other held ++ locks) none ∙ append-nil (filter is_other held) ∙ all

writer_from_conflict : (asker : ℕ) (object : ObjectId) (lock : Lock) → Conflict (whole_of asker object) lock → IsWriteBut asker object lock
writer_from_conflict asker object lock h = record {
  mode = elim h.exclusive [ inl e ↦ absurd (cc) | inr e ↦ e ];
  on = sym h.on;
  another = λ e. h.clients (sym e);
}

conflict_from_writer : (asker : ℕ) (object : ObjectId) (lock : Lock) → Reaches lock → IsWriteBut asker object lock → Conflict (whole_of asker object) lock
conflict_from_writer asker object lock reach h = record {
  clients = λ e. h.another (sym e);
  on = sym h.on;
  byte = lock.range.start;
  ours = record { from = omega arith; below = omega (arith, reach) };
  theirs = record { from = omega arith; below = omega (arith, reach) };
  exclusive = inr h.mode;
}

same_tests : (p q : Bool) → (p ≡ true → q ≡ true) → (q ≡ true → p ≡ true) → p ≡ q
same_tests true q f g = sym (f refl)
same_tests false true f g = g refl
same_tests false false f g = refl

-- who writes to an object is who is in the way of a reader of the whole of it
pub blocker-whole : (held : List Lock) (asker : ℕ) (object : ObjectId) → All Reaches held → blocker held (whole_of asker object) ≡ writer_but held asker object
blocker-whole held asker object h =
    let agree = filter_same_on (conflicts (whole_of asker object)) (is_write_but asker object) held (All-weaker Reaches (λ lock. conflicts (whole_of asker object) lock ≡ is_write_but asker object lock) (λ lock reach. same_tests _ _ (λ t. test_from_IsWriteBut asker object lock (writer_from_conflict asker object lock (Conflict-from_test (whole_of asker object) lock t))) (λ t. test_from_Conflict (whole_of asker object) lock (conflict_from_writer asker object lock reach (IsWriteBut-from_test asker object lock t)))) held h) in
    ap (λ locks. option_map told_of (first_of locks)) agree

own_at : (holder : ℕ) (lock : Lock) (b : Bool) → (lock.holder == holder) ≡ b → cond b (lock ∷ []) [] ≡ cond (lock.holder == holder) (lock ∷ []) []
own_at holder lock b h = ap (λ (t : Bool). cond t (lock ∷ []) []) (sym h)

-- a lock granted to a client is the last of that client's, and no other client's
pub locks_of-push_own : (holder : ℕ) (held : List Lock) (lock : Lock) → lock.holder ≡ holder → locks_of holder (held ++ lock ∷ []) ≡ locks_of holder held ++ lock ∷ []
locks_of-push_own holder held lock e =
    filter-append (λ l. l.holder == holder) held (lock ∷ []) ∙ ap (λ locks. locks_of holder held ++ locks) (sym (own_at holder lock true (eq-eqb lock.holder holder e)))

pub locks_of-push_other : (holder : ℕ) (held : List Lock) (lock : Lock) → lock.holder ≢ holder → locks_of holder (held ++ lock ∷ []) ≡ locks_of holder held
locks_of-push_other holder held lock e =
    filter-append (λ l. l.holder == holder) held (lock ∷ []) ∙ ap (λ locks. locks_of holder held ++ locks) (sym (own_at holder lock false (ne_eqb lock.holder holder e))) ∙ append-nil (locks_of holder held)

kept_twice_at : (p q : Lock → Bool) (lock : Lock) (passed rest : List Lock) (bq bp : Bool) → q lock ≡ bq → p lock ≡ bp → (p lock ≡ true → q lock ≡ true) → filter p passed ≡ rest → filter p (cond bq (lock ∷ passed) passed) ≡ cond bp (lock ∷ rest) rest
kept_twice_at p q lock passed rest true bp hq hp h e = ap (λ (b : Bool). cond b (lock ∷ filter p passed) (filter p passed)) hp ∙ ap (λ locks. cond bp (lock ∷ locks) locks) e
kept_twice_at p q lock passed rest false true hq hp h e = absurd (both_ways (q lock) hq (h hp))
kept_twice_at p q lock passed rest false false hq hp h e = e

kept_twice : (p q : Lock → Bool) → ((lock : Lock) → p lock ≡ true → q lock ≡ true) → (held : List Lock) → filter p (filter q held) ≡ filter p held
kept_twice p q h [] = refl
kept_twice p q h (lock ∷ locks) = kept_twice_at p q lock (filter q locks) (filter p locks) (q lock) (p lock) refl refl (h lock) (kept_twice p q h locks)

-- giving back takes a client's locks, and leaves each other client's
pub locks_of-locks_but_own : (holder : ℕ) (held : List Lock) → locks_of holder (locks_but holder held) ≡ []
locks_of-locks_but_own holder held =
    filter_none (λ l. l.holder == holder) (locks_but holder held) (All-weaker (λ l. not (l.holder == holder) ≡ true) (λ l. (l.holder == holder) ≡ false) (λ l e. not-true _ e) (locks_but holder held) (filter_passes (λ l. not (l.holder == holder)) held))

pub locks_of-locks_but_other : (holder other : ℕ) (held : List Lock) → other ≢ holder → locks_of other (locks_but holder held) ≡ locks_of other held
locks_of-locks_but_other holder other held e =
    kept_twice (λ l. l.holder == other) (λ l. not (l.holder == holder)) (λ l h. not_from_false _ (ne_eqb l.holder holder (λ k. e (sym (eqb-true l.holder other h) ∙ k)))) held
