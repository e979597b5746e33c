-- A world that makes the steps of a schedule, stretch by stretch.
use Rattle.std.proofs.Common.{◌≡◌, ℕ, zero, suc, ◌+◌, ◌<◌, List, [], ◌∷◌, ◌++◌, length, take, drop, get_or, replicate, refl, sym, ap, subst, ◌∙◌, arith}
use Rattle.std.specs.Prelude.{None, Some, slice_get}
use Rattle.std.proofs.lemmas.List.{append_assoc, append-nil, length-replicate, take-replicate, take-append-drop, take_more, at_drop_more}
use Rattle.std.proofs.lemmas.Option.{slice_get_past}
use Rattle.std.proofs.lemmas.Grind.{flat_map-append}
use Rattle.script_values.specs.declared.runs.ClientRun.{ClientRun}
use Rattle.flr_steps.specs.declared.client.Client.{Client}
use Rattle.flr_steps.specs.Schedules.{IsUnknown, Stops, places_of}
use Rattle.flr_steps.specs.States.{IsRun, Next, State, client_at, next, next_from, start}
use Rattle.flr_steps.proofs.Fronts.{each_run_keeps}
use Rattle.flr_replay.specs.declared.follow.Stop.{Stop}
use Rattle.flr_replay.specs.declared.follow.Why.{Why}
use Rattle.flr_replay.specs.Following.{StopsAt, cause_of}

-- ---- lists

one_more : (n c : ℕ) → replicate n c ++ c ∷ [] ≡ replicate (n + 1) c
one_more zero c = refl
one_more (suc n) c = ap (λ (xs : List ℕ). c ∷ xs) (one_more n c) ∙ ap (λ (k : ℕ). replicate k c) (let next : suc (n + 1) ≡ suc n + 1 = omega arith in next)

repeated_at : (c n k : ℕ) → k < n → slice_get (replicate n c) k ≡ Some c
repeated_at c zero k less = absurd (omega (arith, less))
repeated_at c (suc n) zero less = refl
repeated_at c (suc n) (suc k) less = repeated_at c n k (omega (arith, less))

take_behind : (a b : List ℕ) (k : ℕ) → take (length a + k) (a ++ b) ≡ a ++ take k b
take_behind [] b k = ap (λ (n : ℕ). take n b) (let same : 0 + k ≡ k = omega arith in same)
take_behind (x ∷ a) b k = ap (λ (n : ℕ). take n (x ∷ (a ++ b))) (let same : suc (length a) + k ≡ suc (length a + k) = omega arith in same) ∙ ap (λ (xs : List ℕ). x ∷ xs) (take_behind a b k)

get_behind : (a b : List ℕ) (k : ℕ) → slice_get (a ++ b) (length a + k) ≡ slice_get b k
get_behind [] b k = ap (slice_get b) (let same : 0 + k ≡ k = omega arith in same)
get_behind (x ∷ a) b k = ap (slice_get (x ∷ (a ++ b))) (let same : suc (length a) + k ≡ suc (length a + k) = omega arith in same) ∙ get_behind a b k

get_before : (b c : List ℕ) (k x : ℕ) → slice_get b k ≡ Some x → slice_get (b ++ c) k ≡ Some x
get_before [] c k x e = absurd (cc e)
get_before (y ∷ b) c zero x e = e
get_before (y ∷ b) c (suc k) x e = get_before b c k x e

take_before : (b c : List ℕ) (k x : ℕ) → slice_get b k ≡ Some x → take k (b ++ c) ≡ take k b
take_before [] c k x e = absurd (cc e)
take_before (y ∷ b) c zero x e = refl
take_before (y ∷ b) c (suc k) x e = ap (λ (xs : List ℕ). y ∷ xs) (take_before b c k x e)

-- ---- one stretch

-- nothing was made yet
pub none_yet : (schedule : List ℕ) → schedule ≡ schedule ++ []
none_yet schedule = sym (append-nil schedule)

-- one step more was made
pub made_more : (old mid new : List ℕ) (c n : ℕ) → mid ≡ old ++ replicate n c → new ≡ mid ++ c ∷ [] → new ≡ old ++ replicate (n + 1) c
made_more old mid new c n was more = more ∙ ap (λ (xs : List ℕ). xs ++ c ∷ []) was ∙ append_assoc old (replicate n c) (c ∷ []) ∙ ap (λ (xs : List ℕ). old ++ xs) (one_more n c)

-- the next one wasn't
pub stops_in_run : (old mid new : State) (c times n : ℕ) (why : Why) → n < times → mid.schedule ≡ old.schedule ++ replicate n c → new ≡ mid → Stops (next mid c) (cause_of why) → StopsAt (replicate times c) old new (record { client = c; why = why })
stops_in_run old mid new c times n why less made same stops = record {
  before = n;
  made = ap (λ (s : State). s.schedule) same ∙ made ∙ ap (λ (xs : List ℕ). old.schedule ++ xs) (sym (take-replicate n times c (omega (arith, less))));
  here = repeated_at c times n less;
  stops = subst (λ (s : State). Stops (next s c) (cause_of why)) (sym same) stops;
}

-- ---- one stretch after another

abbrev run_places : ClientRun → List ℕ
run_places r = replicate r.times r.client

places_more : (runs : List ClientRun) (i : ℕ) (r : ClientRun) → i < length runs → r ≡ get_or runs i r → places_of (take (i + 1) runs) ≡ places_of (take i runs) ++ run_places r
places_more runs i r less is =
    ap places_of (take_more runs i r less ∙ ap (λ (x : ClientRun). take i runs ++ x ∷ []) (sym is)) ∙ flat_map-append run_places (take i runs) (r ∷ []) ∙ ap (λ (xs : List ℕ). places_of (take i runs) ++ xs) (append-nil (run_places r))

places_parts : (runs : List ClientRun) (i : ℕ) (r : ClientRun) → i < length runs → r ≡ get_or runs i r → places_of runs ≡ places_of (take i runs) ++ (run_places r ++ places_of (drop (i + 1) runs))
places_parts runs i r less is =
    let parts : runs ≡ take i runs ++ (r ∷ drop (i + 1) runs) = sym (take-append-drop i runs) ∙ ap (λ (xs : List ClientRun). take i runs ++ xs) (at_drop_more (λ (xs : List ClientRun). xs) runs i r less ∙ ap (λ (x : ClientRun). x ∷ drop (i + 1) runs) (sym is)) in
    ap places_of parts ∙ flat_map-append run_places (take i runs) (r ∷ drop (i + 1) runs)

-- one stretch more was made
pub stretch_made : (old mid new : List ℕ) (runs : List ClientRun) (i : ℕ) (r : ClientRun) → i < length runs → r ≡ get_or runs i r → mid ≡ old ++ places_of (take i runs) → new ≡ mid ++ run_places r → new ≡ old ++ places_of (take (i + 1) runs)
stretch_made old mid new runs i r less is was more =
    more ∙ ap (λ (xs : List ℕ). xs ++ run_places r) was ∙ append_assoc old (places_of (take i runs)) (run_places r) ∙ ap (λ (xs : List ℕ). old ++ xs) (sym (places_more runs i r less is))

-- a stretch by its place, whatever stands behind the last
pub same_stretch : (runs : List ClientRun) (i : ℕ) (d e : ClientRun) → i < length runs → get_or runs i d ≡ get_or runs i e
same_stretch [] i d e less = absurd (omega (arith, less))
same_stretch (r ∷ rs) zero d e less = refl
same_stretch (r ∷ rs) (suc i) d e less = same_stretch rs i d e (omega (arith, less))

-- the next one wasn't made whole
pub stops_in_runs : (old mid new : State) (runs : List ClientRun) (i : ℕ) (r : ClientRun) (stop : Stop) → i < length runs → r ≡ get_or runs i r → mid.schedule ≡ old.schedule ++ places_of (take i runs) → StopsAt (run_places r) mid new stop → StopsAt (places_of runs) old new stop
stops_in_runs old mid new runs i r stop less is was st =
    let front : List ℕ = places_of (take i runs) in
    let rest : List ℕ = places_of (drop (i + 1) runs) in
    let parts : places_of runs ≡ front ++ (run_places r ++ rest) = places_parts runs i r less is in
    record {
      before = length front + st.before;
      made =
          st.made ∙ ap (λ (xs : List ℕ). xs ++ take st.before (run_places r)) was ∙ append_assoc old.schedule front (take st.before (run_places r))
          ∙ ap (λ (xs : List ℕ). old.schedule ++ xs) (sym (ap (take (length front + st.before)) parts ∙ take_behind front (run_places r ++ rest) st.before ∙ ap (λ (xs : List ℕ). front ++ xs) (take_before (run_places r) rest st.before stop.client st.here)));
      here = ap (λ (xs : List ℕ). slice_get xs (length front + st.before)) parts ∙ get_behind front (run_places r ++ rest) st.before ∙ get_before (run_places r) rest st.before stop.client st.here;
      stops = st.stops;
    }

-- ---- who isn't there

nobody_at : (xs : List Client) (n : ℕ) → length xs < n → client_at xs n ≡ None
nobody_at xs zero less = refl
nobody_at xs (suc n) less = slice_get_past xs n (omega (arith, less))

-- a number that no client can have
pub nobody : (s : State) (c : ℕ) → IsRun s → 255 < c → Stops (next s c) IsUnknown
nobody s c run far =
    let many : length s.clients ≡ length s.script.clients = (each_run_keeps (start s.script) s s.schedule run.run).clients ∙ length-replicate (length s.script.clients) _ in
    let few = run.limits.form.few_clients in
    subst (λ (n : Next). Stops n IsUnknown) (sym (ap (next_from s c) (nobody_at s.clients c (omega (arith, many, few, far))))) refl
