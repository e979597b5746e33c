-- What is known of the files from the calls of an extend stays when it makes more calls.
use Rattle.std.proofs.Common.{◌≡◌, ℕ, ◌<◌, ◌||◌, Bool, true, false, cond, List, [], ◌∷◌, ◌++◌, map, Option, refl, ap, ◌∙◌, arith}
use Rattle.std.specs.Prelude.{filter}
use Rattle.std.specs.List.{list_any}
use Rattle.std.proofs.lemmas.Bool.{false≢true}
use Rattle.std.proofs.lemmas.List.Elements.{Contains-append_left}
use Rattle.flr_base.specs.declared.reply.FailedCall.{FailedCall}
use Rattle.flr_base.specs.declared.reply.ObjectId.{ObjectId}
use Rattle.composite_layout.specs.declared.component.Component.{Component}
use Rattle.meta_server.specs.Files.{File}
use Rattle.object_target.specs.declared.call.CallKind.{CallKind}
use Rattle.resync_copy.specs.Comparing.{ComparingView}
use Rattle.flr_steps.specs.States.{State}
use Rattle.flr_steps.specs.Traces.{Made}
use Rattle.flr_claims.specs.Copies.{HasCall, HaveFailed, IsHole}
use Rattle.flr_claims.specs.Failures.{call_of, failed_of, has_failed, is_failed_take}
use Rattle.flr_claims.specs.Merging.{AreSameAt, ByHole, ByRead, IsByteOf}
use Rattle.flr_sole.proofs.Making.{all_joined}
use Rattle.flr_honest.proofs.MergeCauses.Known.{HasChunk, IsSettled, IsShut, Way}

-- ---- of single calls

-- what is so of one of some is so of one of more
pub any_more : {A : Type 0} (p : A → Bool) (xs more : List A) → list_any p xs ≡ true → list_any p (xs ++ more) ≡ true
any_more p [] more e = absurd (false≢true e)
any_more p (x ∷ xs) more e = by (p x) e (any_more p xs more)
  where
    by : (b : Bool) → (b || list_any p xs) ≡ true → (list_any p xs ≡ true → list_any p (xs ++ more) ≡ true) → (b || list_any p (xs ++ more)) ≡ true
    by true h rest = refl
    by false h rest = rest h

-- a call that was made
pub call_more : (made more : List Made) (of : CallKind) (o : ObjectId) (generation : ℕ) → HasCall made of o generation → HasCall (made ++ more) of o generation
call_more made more of o generation h = record { by = h.by; listed = Contains-append_left made more h.by h.listed; went = h.went }

-- components of which a read failed
pub failed_more : (cs : List Component) (made more : List Made) (ids : List ℕ) → HaveFailed cs made ids → HaveFailed cs (made ++ more) ids
failed_more cs made more [] h = tt
failed_more cs made more (id ∷ ids) h = ((h.0.0, h.0.1, h.0.2, any_more (is_failed_take h.0.0) made more h.0.3), failed_more cs made more ids h.1)

-- a hole
pub hole_more : (cs : List Component) (made more : List Made) (y : ℕ) → IsHole cs made y → IsHole cs (made ++ more) y
hole_more cs made more y h = record { failed = h.failed; have = failed_more cs made more h.failed h.have; source = h.source; chosen_is = h.chosen_is; none = h.none }

-- a byte of a file
pub byte_more : (cs : List Component) (made more : List Made) (y byte : ℕ) → IsByteOf cs made y byte → IsByteOf cs (made ++ more) y byte
byte_more cs made more y byte (ByRead c listed fresh has r) = ByRead c listed fresh has (record {
  by = r.by;
  listed = Contains-append_left made more r.by r.listed;
  read = r.read;
  ok = r.ok;
  object = r.object;
  there = r.there;
  of = r.of;
  low = r.low;
  high = r.high;
  byte_is = r.byte_is;
})
byte_more cs made more y byte (ByHole hole zero) = ByHole (hole_more cs made more y hole) zero

-- a byte of both files
pub same_more : (cs ds : List Component) (made more : List Made) (y : ℕ) → AreSameAt cs ds made y → AreSameAt cs ds (made ++ more) y
same_more cs ds made more y h = (h.0, byte_more cs made more y h.0 h.1, byte_more ds made more y h.0 h.2)

-- ---- of phases

-- a file that is shut off
shut_more : (client : ℕ) (made more : List Made) (f : File) (settled : State) → IsShut client made f settled → IsShut client (made ++ more) f settled
shut_more client made more f settled h = record { fenced = λ c o holds has. call_more made more _ o f.layout.generation (h.fenced c o holds has); alone = h.alone }

-- another call at a later place
pub settled_more : (w : Way) (last : ℕ) (made : List Made) (m : Made) (x : ComparingView) (f v : File) (ours theirs : ℕ) → last < m.place → IsSettled w last made x f v ours theirs → IsSettled w m.place (made ++ m ∷ []) x f v ours theirs
settled_more w last made m x f v ours theirs later h = let past = h.past in record {
  begun = h.begun;
  place = h.place;
  settled = h.settled;
  since = h.since;
  early = h.early;
  past = omega (arith, past, later);
  own = h.own;
  no_call = all_joined (λ (n : Made). n.place ≡ h.place → ⊥) made (m ∷ []) h.no_call (λ e. absurd (omega (arith, past, later, e)), tt);
  before = h.before;
  our_file = shut_more w.client made (m ∷ []) f h.settled h.our_file;
  their_file = shut_more w.client made (m ∷ []) v h.settled h.their_file;
  our_size = h.our_size;
  their_size = h.their_size;
}

-- the kept ones of two lists
filter_joined : {A : Type 0} (p : A → Bool) (xs ys : List A) → filter p (xs ++ ys) ≡ filter p xs ++ filter p ys
filter_joined p [] ys = refl
filter_joined p (x ∷ xs) ys = by (p x) (filter_joined p xs ys)
  where
    by : (b : Bool) → filter p (xs ++ ys) ≡ filter p xs ++ filter p ys → cond b (x ∷ filter p (xs ++ ys)) (filter p (xs ++ ys)) ≡ cond b (x ∷ filter p xs) (filter p xs) ++ filter p ys
    by true rest = ap (λ zs. x ∷ zs) rest
    by false rest = rest

-- the names of the calls of two lists
mapped : (xs ys : List Made) → map call_of (xs ++ ys) ≡ map call_of xs ++ map call_of ys
mapped [] ys = refl
mapped (x ∷ xs) ys = ap (λ (zs : List FailedCall). call_of x ∷ zs) (mapped xs ys)

-- the name of one call
one_failed : (m : Made) (b : Bool) → map call_of (cond b (m ∷ []) []) ≡ cond b (call_of m ∷ []) []
one_failed m true = refl
one_failed m false = refl

-- those that failed, with one more call
pub failed_one : (made : List Made) (m : Made) (b : Bool) → has_failed m ≡ b → failed_of (made ++ m ∷ []) ≡ failed_of made ++ cond b (call_of m ∷ []) []
failed_one made m b e =
    ap (map call_of) (filter_joined has_failed made (m ∷ []))
    ∙ mapped (filter has_failed made) (filter has_failed (m ∷ []))
    ∙ ap (λ (ms : List FailedCall). failed_of made ++ ms) ((λ j. map call_of (cond (e j) (m ∷ []) [])) ∙ one_failed m b)

-- a chunk
pub chunk_more : (cs : List Component) (made more : List Made) (size number : ℕ) (bytes : Option (List ℕ)) → HasChunk cs made size number bytes → HasChunk cs (made ++ more) size number bytes
chunk_more cs made more size number bytes h = λ y low high. byte_more cs made more y _ (h y low high)
