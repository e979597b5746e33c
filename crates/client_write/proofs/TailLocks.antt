-- The locks of the tails, one after another.
use Rattle.std.proofs.Common.{◌≡◌, ℕ, zero, suc, ◌+◌, ◌<◌, ◌≢◌, ◌==◌, if◌then◌else◌, Bool, true, false, List, [], ◌∷◌, ◌++◌, length, map, take, drop, get_or, Option, Some, None, Result, Ok, Err, refl, sym, ap, ◌∙◌, append-nil, append_assoc, add-one, arith}
use Rattle.std.specs.Prelude.{All, OnErr}
use Rattle.std.specs.Option.{option_or}
use Rattle.std.proofs.Math.Seq.{drop-cons}
use Rattle.std.proofs.lemmas.List.{map-append, take_more}
use Rattle.std.proofs.lemmas.Bool.{eq-eqb}
use Rattle.std.proofs.lemmas.List.Elements.{All-cons}
use Rattle.flr_base.specs.declared.reply.Range.{Range}
use Rattle.extent_lock.specs.declared.lock.Lock.{Lock}
use Rattle.extent_lock.specs.Extents.{blocker, locks_but, locks_of}
use Rattle.extent_lock.proofs.LockLaws.{blocker-own, locks_but-own}
use Rattle.mirror_select.specs.declared.types.Tail.{Tail}
use Rattle.client_write.specs.OwnLocks.{HoldsOwn}
use Rattle.client_write.specs.Truncates.{first_blocker, tail_lock}

-- the locks of tails are the client's
pub own_locks : (client : ℕ) (tails : List Tail) → All (λ (lock : Lock). lock.holder ≡ client) (map (tail_lock client) tails)
own_locks client [] k d h = absurd (omega (arith, h))
own_locks client (t ∷ ts) zero d h = refl
own_locks client (t ∷ ts) (suc k) d h = own_locks client ts k d (omega (arith, h))

-- own locks don't matter to who is in the way
pub in_the_way : (client : ℕ) (t : Tail) (held now : List Lock) → HoldsOwn client held now → blocker now (tail_lock client t) ≡ blocker held (tail_lock client t)
in_the_way client t held now own = ap (λ (l : List Lock). blocker l (tail_lock client t)) own.2 ∙ blocker-own held own.0 (tail_lock client t) own.1

-- the first of the locks from a place on
pub first_from : (client : ℕ) (tails : List Tail) (i : ℕ) (t : Tail) (held : List Lock) → i < length tails → get_or tails i t ≡ t →
    first_blocker (map (tail_lock client) (drop i tails)) held ≡ option_or (blocker held (tail_lock client t)) (first_blocker (map (tail_lock client) (drop (i + 1) tails)) held)
first_from client tails i t held h e =
    ap (λ (ts : List Tail). first_blocker (map (tail_lock client) ts) held) (drop-cons tails i t h)
    ∙ ap (λ (u : Tail). option_or (blocker held (tail_lock client u)) (first_blocker (map (tail_lock client) (drop (suc i) tails)) held)) e
    ∙ ap (λ (n : ℕ). option_or (blocker held (tail_lock client t)) (first_blocker (map (tail_lock client) (drop n tails)) held)) (sym (add-one i))

-- one more is granted
pub one_granted : (client : ℕ) (tails : List Tail) (i : ℕ) (t : Tail) (held now : List Lock) → i < length tails → get_or tails i t ≡ t → now ≡ held ++ map (tail_lock client) (take i tails) →
    now ++ tail_lock client t ∷ [] ≡ held ++ map (tail_lock client) (take (i + 1) tails)
one_granted client tails i t held now h e granted =
    ap (λ (l : List Lock). l ++ tail_lock client t ∷ []) granted ∙ append_assoc held (map (tail_lock client) (take i tails)) (tail_lock client t ∷ [])
    ∙ ap (λ (l : List Lock). held ++ l) (sym (map-append (tail_lock client) (take i tails) (t ∷ [])))
    ∙ ap (λ (ts : List Tail). held ++ map (tail_lock client) ts) (sym (take_more tails i t h ∙ ap (λ (u : Tail). take i tails ++ u ∷ []) e))

-- all locks are others' where the client holds none
others_hold : (client : ℕ) (held : List Lock) → locks_of client held ≡ [] → All (λ (lock : Lock). lock.holder ≢ client) held
others_hold client [] none = λ k d h. absurd (omega (arith, h))
others_hold client (l ∷ ls) none = by (l.holder == client) refl none (others_hold client ls)
  where
    by : (b : Bool) → (l.holder == client) ≡ b → (if b then l ∷ locks_of client ls else locks_of client ls) ≡ [] → (locks_of client ls ≡ [] → All (λ (lock : Lock). lock.holder ≢ client) ls) → All (λ (lock : Lock). lock.holder ≢ client) (l ∷ ls)
    by true e none rest = absurd (cc)
    by false e none rest = All-cons (λ (lock : Lock). lock.holder ≢ client) l ls (λ same. absurd (cc (eq-eqb l.holder client same))) (rest none)

-- where the client held none, giving all its locks back leaves what was held
pub others_left : (client : ℕ) (held own : List Lock) → locks_of client held ≡ [] → All (λ (lock : Lock). lock.holder ≡ client) own → locks_but client (held ++ own) ≡ held
others_left client held own none all = locks_but-own held own client (others_hold client held none) all

-- who is in the way of the lock of a tail, is in the way of the first lock from it on
at_tail : (client : ℕ) (tails : List Tail) (i : ℕ) (t : Tail) (held now : List Lock) (told : Option (ℕ × Range)) → i < length tails → get_or tails i t ≡ t → HoldsOwn client held now →
    first_blocker (map (tail_lock client) tails) held ≡ first_blocker (map (tail_lock client) (drop i tails)) held → told ≡ blocker now (tail_lock client t) →
    first_blocker (map (tail_lock client) tails) held ≡ option_or told (first_blocker (map (tail_lock client) (drop (i + 1) tails)) held)
at_tail client tails i t held now told h e own first is =
    first ∙ first_from client tails i t held h e
    ∙ ap (λ (o : Option (ℕ × Range)). option_or o (first_blocker (map (tail_lock client) (drop (i + 1) tails)) held)) (sym (is ∙ in_the_way client t held now own))

-- nobody is in the way of a tail's lock: the first that somebody is in the way of stands behind it
pub passed : (client : ℕ) (tails : List Tail) (i : ℕ) (t : Tail) (held now : List Lock) → i < length tails → get_or tails i t ≡ t → HoldsOwn client held now →
    first_blocker (map (tail_lock client) tails) held ≡ first_blocker (map (tail_lock client) (drop i tails)) held → None ≡ blocker now (tail_lock client t) →
    first_blocker (map (tail_lock client) tails) held ≡ first_blocker (map (tail_lock client) (drop (i + 1) tails)) held
passed client tails i t held now h e own first is = at_tail client tails i t held now None h e own first is

-- somebody is in the way of a tail's lock: it is the first
pub stopped : (client : ℕ) (tails : List Tail) (i : ℕ) (t : Tail) (held now : List Lock) (told : ℕ × Range) → i < length tails → get_or tails i t ≡ t → HoldsOwn client held now →
    first_blocker (map (tail_lock client) tails) held ≡ first_blocker (map (tail_lock client) (drop i tails)) held → Some told ≡ blocker now (tail_lock client t) →
    first_blocker (map (tail_lock client) tails) held ≡ Some told
stopped client tails i t held now told h e own first is = at_tail client tails i t held now (Some told) h e own first is

-- one more lock of the client
pub one_more : (client : ℕ) (t : Tail) (held now : List Lock) → HoldsOwn client held now → HoldsOwn client held (now ++ tail_lock client t ∷ [])
one_more client t held now own =
    (own.0 ++ tail_lock client t ∷ [], all_more own.0 own.1, ap (λ (l : List Lock). l ++ tail_lock client t ∷ []) own.2 ∙ append_assoc held own.0 (tail_lock client t ∷ []))
  where
    all_more : (own : List Lock) → All (λ (lock : Lock). lock.holder ≡ client) own → All (λ (lock : Lock). lock.holder ≡ client) (own ++ tail_lock client t ∷ [])
    all_more [] all zero d h = refl
    all_more [] all (suc k) d h = absurd (omega (arith, h))
    all_more (l ∷ ls) all zero d h = all 0 d (omega arith)
    all_more (l ∷ ls) all (suc k) d h = all_more ls (λ j x lt. all (suc j) x (omega (arith, lt))) k d (omega (arith, h))

-- nothing more is held
pub none_held : (client : ℕ) (held : List Lock) → HoldsOwn client held held
none_held client held = ([], λ k d h. absurd (omega (arith, h)), sym (append-nil held))

-- what holds whatever the error is
pub whatever_error : {T E P : Type 0} (r : Result T E) → P → OnErr r P
whatever_error (Ok x) p = tt
whatever_error (Err e) p = p
