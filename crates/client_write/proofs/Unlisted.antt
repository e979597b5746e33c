-- Who is in the way of the locks of the tails, component by component.
use Rattle.std.proofs.Common.{◌≡◌, ℕ, suc, ◌+◌, ◌*◌, ◌<◌, List, [], ◌∷◌, ◌++◌, length, map, drop, get_or, Option, Some, None, refl, sym, ap, ◌∙◌, append_assoc, add-one}
use Rattle.std.specs.Prelude.{option_map}
use Rattle.std.specs.Option.{option_or}
use Rattle.std.proofs.Math.Seq.{drop-cons}
use Rattle.std.proofs.lemmas.List.{map-append}
use Rattle.std.proofs.lemmas.List.Elements.{All-append}
use Rattle.flr_base.specs.declared.reply.ObjectId.{ObjectId}
use Rattle.flr_base.specs.declared.reply.Range.{Range}
use Rattle.composite_layout.specs.declared.component.Component.{Component}
use Rattle.extent_lock.specs.declared.lock.Lock.{Lock}
use Rattle.extent_lock.specs.Extents.{blocker}
use Rattle.mirror_select.specs.declared.types.Tail.{Tail}
use Rattle.composite_layout.specs.Layouts.{Composite}
use Rattle.mirror_select.specs.Tails.{StripeObject, stripes_above, stripes_from, tail_in, tail_mirror, tail_stripes, tails_of}
use Rattle.client_write.specs.OwnLocks.{HoldsOwn}
use Rattle.client_write.specs.Truncates.{first_blocker, tail_lock}
use Rattle.client_write.proofs.TailLocks.{in_the_way}

-- the locks of the tails of these stripes
abbrev pub asked_for : ℕ → ℕ → List StripeObject → List Lock
asked_for client from stripes = map (tail_lock client) (map (tail_in from) stripes)

or_assoc : {A : Type 0} (a b c : Option A) → option_or a (option_or b c) ≡ option_or (option_or a b) c
or_assoc None b c = refl
or_assoc (Some x) b c = refl

-- the first of two lists of locks
first_append : (xs ys : List Lock) (held : List Lock) → first_blocker (xs ++ ys) held ≡ option_or (first_blocker xs held) (first_blocker ys held)
first_append [] ys held = refl
first_append (x ∷ xs) ys held = ap (option_or (blocker held x)) (first_append xs ys held) ∙ or_assoc (blocker held x) (first_blocker xs held) (first_blocker ys held)

-- the locks of some stripes, and of others behind them
pub asked_both : (client from : ℕ) (some others all : List StripeObject) (held : List Lock) → all ≡ some ++ others →
    first_blocker (asked_for client from all) held ≡ option_or (first_blocker (asked_for client from some) held) (first_blocker (asked_for client from others) held)
asked_both client from some others all held split =
    ap (λ (ss : List StripeObject). first_blocker (asked_for client from ss) held) split
    ∙ ap (λ (ts : List Tail). first_blocker (map (tail_lock client) ts) held) (map-append (tail_in from) some others)
    ∙ ap (λ (ls : List Lock). first_blocker ls held) (map-append (tail_lock client) (map (tail_in from) some) (map (tail_in from) others))
    ∙ first_append (asked_for client from some) (asked_for client from others) held

-- own locks don't matter to the first of them
pub first_own : (client : ℕ) (ts : List Tail) (held now : List Lock) → HoldsOwn client held now → first_blocker (map (tail_lock client) ts) now ≡ first_blocker (map (tail_lock client) ts) held
first_own client [] held now own = refl
first_own client (t ∷ ts) held now own =
    ap (λ (o : Option (ℕ × Range)). option_or o (first_blocker (map (tail_lock client) ts) now)) (in_the_way client t held now own) ∙ ap (option_or (blocker held (tail_lock client t))) (first_own client ts held now own)

-- own locks come to own locks
pub own_then : (client : ℕ) (held mid now : List Lock) → HoldsOwn client held mid → HoldsOwn client mid now → HoldsOwn client held now
own_then client held mid now h k =
    (h.0 ++ k.0, All-append (λ (lock : Lock). lock.holder ≡ client) h.0 k.0 h.1 k.1, k.2 ∙ ap (λ (ls : List Lock). ls ++ k.0) h.2 ∙ append_assoc held h.0 k.0)

-- the tail of a component's object
abbrev pub tail_for : ℕ → Component → ℕ → ObjectId → Tail
tail_for from c index object = tail_in from (record { component = c; index = index; object = object })

-- the stripes from a place on are that of the object there, and those behind it
pub stripes_on : (c : Component) (i : ℕ) (objects : List ObjectId) (o : ObjectId) → i < length objects → get_or objects i o ≡ o →
    stripes_from c i (drop i objects) ≡ record { component = c; index = i; object = o } ∷ stripes_from c (i + 1) (drop (i + 1) objects)
stripes_on c i objects o h e =
    ap (stripes_from c i) (drop-cons objects i o h)
    ∙ ap (λ (x : ObjectId). record { component = c; index = i; object = x } ∷ stripes_from c (i + 1) (drop (suc i) objects)) e
    ∙ ap (λ (n : ℕ). record { component = c; index = i; object = o } ∷ stripes_from c (i + 1) (drop n objects)) (sym (add-one i))

-- the first of the locks from a place on
pub first_on : (client from : ℕ) (c : Component) (i : ℕ) (objects : List ObjectId) (o : ObjectId) (held now : List Lock) (told : Option (ℕ × Range)) → i < length objects → get_or objects i o ≡ o → HoldsOwn client held now →
    told ≡ blocker now (tail_lock client (tail_for from c i o)) →
    first_blocker (asked_for client from (stripes_from c i (drop i objects))) held ≡ option_or told (first_blocker (asked_for client from (stripes_from c (i + 1) (drop (i + 1) objects))) held)
first_on client from c i objects o held now told h e own is =
    ap (λ (ss : List StripeObject). first_blocker (asked_for client from ss) held) (stripes_on c i objects o h e)
    ∙ ap (λ (x : Option (ℕ × Range)). option_or x (first_blocker (asked_for client from (stripes_from c (i + 1) (drop (i + 1) objects))) held)) (sym (is ∙ in_the_way client (tail_for from c i o) held now own))

-- the locks of all tails are those of the stripes of all ids
pub asked_all : (client from mirror : ℕ) (l : Composite) → tail_mirror l from ≡ Some mirror → map (tail_lock client) (tails_of l from) ≡ asked_for client from (stripes_above l.components (Some mirror) from 0 (l.next_mirror * 65536))
unfolding tail_stripes
asked_all client from mirror l is = ap (λ (m : Option ℕ). asked_for client from (stripes_above l.components m from 0 (l.next_mirror * 65536))) is

-- nobody is told where nobody is in the way
pub none_told : (o : Option (ℕ × Range)) → None ≡ option_map (λ (told : ℕ × Range). told.0) o → o ≡ None
none_told None h = refl
none_told (Some told) h = absurd cc

-- who is in the way in front is the first
pub some_told : (o p : Option (ℕ × Range)) (holder : ℕ) → Some holder ≡ option_map (λ (told : ℕ × Range). told.0) o → Some holder ≡ option_map (λ (told : ℕ × Range). told.0) (option_or o p)
some_told None p holder h = absurd cc
some_told (Some told) p holder h = h
