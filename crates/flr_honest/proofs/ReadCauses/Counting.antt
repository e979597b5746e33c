-- Which components of an open layout failed since the file was opened, by the reads of targets that were made since then.
use Rattle.std.proofs.Common.{◌≡◌, ℕ, ◌<◌, Bool, true, false, cond, not, ◌||◌, ◌&&◌, List, [], ◌∷◌, ◌++◌, length, map, filter, inl, inr, refl, sym, ap, subst, ◌∙◌, arith}
use Rattle.std.specs.Prelude.{nat_eq}
use Rattle.std.specs.List.{AllByRecursion, flat_map, list_any}
use Rattle.std.proofs.lemmas.Bool.{and_left, and_parts, and_right, both_ways, cases_Bool, eq-eqb, eqb-false, eqb-true}
use Rattle.flr_base.specs.declared.reply.FailedCall.{FailedCall}
use Rattle.flr_base.specs.declared.reply.ObjectId.{ObjectId}
use Rattle.composite_layout.specs.declared.component.Component.{Component}
use Rattle.mirror_select.specs.Candidates.{has_byte, is_candidate}
use Rattle.mirror_select.proofs.Least.{In, any_in, in_none, some_in}
use Rattle.object_target.specs.declared.call.CallKind.TheVariants as kind
use Rattle.object_target.specs.declared.fail.Fail.{Fail}
use Rattle.call_steps.specs.Runs.{CallStep}
use Rattle.client_read.specs.declared.phase.FailedTake.{FailedTake}
use Rattle.client_read.specs.Faults.{failed_at, failed_takes}
use Rattle.client_read.specs.Reads.{calls_over, ids_of}
use Rattle.client_read.specs.Views.{ReadView}
use Rattle.flr_steps.specs.Traces.{Made}
use Rattle.flr_asked.specs.CallRuns.{made_in}
use Rattle.flr_claims.specs.Failures.{IsListed, call_of, failed_over, has_failed, is_failed_take, is_of, is_on, is_reading, is_unanswered, may_answer}
use Rattle.flr_honest.proofs.ReadCauses.Lists.{any_same}
use Rattle.flr_honest.proofs.ReadCauses.Making.{Fails, Makes, Quiet, Takes, object_in}

-- an object stands in one of these components at most
abbrev pub StandOnce : List Component → Type 0
StandOnce cs = (o : ObjectId) (d e : Component) → In d cs → In e cs → In o d.objects → In o e.objects → d ≡ e

-- components with one id are one
abbrev pub AreApart : List Component → Type 0
AreApart cs = (d e : Component) → In d cs → In e cs → d.id ≡ e.id → d ≡ e

-- the calls that these steps made
abbrev pub made_of : List (CallStep ReadView) → List Made
made_of steps = flat_map made_in steps

-- a call that went through is no failed take
not_failed : (c : Component) (m : Made) → has_failed m ≡ false → is_failed_take c m ≡ false
not_failed c m e = and_right (is_reading m.entry.kind) (has_failed m && is_on c m) (and_left (has_failed m) (is_on c m) e)

module _ (fails : List Fail) (cs : List Component) (once : StandOnce cs) (apart : AreApart cs) where
  -- a call of an object of a component is on just that one
  on_is : (c d : Component) (m : Made) → In c cs → In d cs → In (object_in m) d.objects → is_on c m ≡ nat_eq d.id c.id
  on_is c d m i j has = elim (cases_Bool (nat_eq d.id c.id)) as (λ _. is_on c m ≡ nat_eq d.id c.id) [
    | inl same ↦
        let one : d ≡ c = apart d c j i (eqb-true d.id c.id same) in
        any_in (λ (o : ObjectId). is_of o m) c.objects (object_in m) (subst (λ (x : Component). In (object_in m) x.objects) one has) (λ k. eq-eqb m.target m.target refl k && eq-eqb m.entry.object m.entry.object refl k) ∙ sym same
    | inr other ↦ in_none (λ (o : ObjectId). is_of o m) c.objects (λ o k. none o k other) ∙ sym other
  ]
    where
      none : (o : ObjectId) → In o c.objects → nat_eq d.id c.id ≡ false → is_of o m ≡ false
      none o k other = elim (cases_Bool (is_of o m)) as (λ _. is_of o m ≡ false) [
        | inl holds ↦
            let parts = and_parts (nat_eq m.target o.target) (nat_eq m.entry.object o.number) holds in
            let same : object_in m ≡ o = λ l. record { target = eqb-true m.target o.target parts.0 l; number = eqb-true m.entry.object o.number parts.1 l } in
            absurd (eqb-false d.id c.id other (ap (λ (x : Component). x.id) (once o d c j i (subst (λ (q : ObjectId). In q d.objects) same has) k)))
        | inr fails_not ↦ fails_not
      ]

  -- a read of it that failed is a failed take of just that one
  failed_is : (c d : Component) (m : Made) → In c cs → In d cs → In (object_in m) d.objects → m.entry.kind ≡ kind.Read → has_failed m ≡ true → is_failed_take c m ≡ nat_eq d.id c.id
  failed_is c d m i j has read failed = (λ k. is_reading (read k) && (failed k && is_on c m)) ∙ on_is c d m i j has

  -- ---- the components that failed

  -- a component is among those whose takes failed just where some call is a failed take of it
  pub failed_on : (c : Component) → In c cs → (since : List (CallStep ReadView)) → AllByRecursion (Makes fails cs) since → list_any (is_failed_take c) (made_of since) ≡ list_any (λ (id : ℕ). nat_eq id c.id) (ids_of (failed_takes since))
  failed_on c i [] all = refl
  failed_on c i (x ∷ xs) all = by all.0 (failed_on c i xs all.1)
    where
      fs : List FailedTake
      fs = failed_takes xs

      Same : List Made → List FailedTake → Type 0
      Same ms gs = list_any (is_failed_take c) (ms ++ made_of xs) ≡ list_any (λ (id : ℕ). nat_eq id c.id) (ids_of (gs ++ failed_takes xs))

      so : (ms : List Made) (gs : List FailedTake) → made_in x ≡ ms → failed_at x.call.at x.before ≡ gs → Same ms gs → Same (made_in x) (failed_at x.call.at x.before)
      so ms gs e f same = ap (λ (k : List Made). list_any (is_failed_take c) (k ++ made_of xs)) e ∙ same ∙ sym (ap (λ (k : List FailedTake). list_any (λ (id : ℕ). nat_eq id c.id) (ids_of (k ++ failed_takes xs))) f)

      by : Makes fails cs x → list_any (is_failed_take c) (made_of xs) ≡ list_any (λ (id : ℕ). nat_eq id c.id) (ids_of (failed_takes xs)) → Same (made_in x) (failed_at x.call.at x.before)
      by (Quiet e f) rest = so [] [] e f rest
      by (Takes d m j has e went f) rest = so (m ∷ []) [] e f ((λ k. not_failed c m went k || list_any (is_failed_take c) (made_of xs)) ∙ rest)
      by (Fails d m j has e read failed f listed) rest = so (m ∷ []) (record { component = d.id; call = call_of m } ∷ []) e f (λ k. failed_is c d m i j has read failed k || rest k)

  -- so they may answer a byte just where they are candidates
  pub candidate_is : (c : Component) → In c cs → (since : List (CallStep ReadView)) → AllByRecursion (Makes fails cs) since → (byte : ℕ) → may_answer (made_of since) byte c ≡ is_candidate (ids_of (failed_takes since)) byte c
  candidate_is c i since all byte = ap (λ (b : Bool). has_byte byte c && (not c.flags.stale && (not c.flags.offline && not b))) (failed_on c i since all)

  -- and nobody may just where there is no candidate
  pub unanswered_is : (since : List (CallStep ReadView)) → AllByRecursion (Makes fails cs) since → (byte : ℕ) → is_unanswered cs (made_of since) byte ≡ not (list_any (is_candidate (ids_of (failed_takes since)) byte) cs)
  unanswered_is since all byte = ap not (any_same (may_answer (made_of since) byte) (is_candidate (ids_of (failed_takes since)) byte) cs (λ c i. candidate_is c i since all byte))

  -- ---- the calls that failed

  module _ (byte : ℕ) where
    -- whether a call is a failed take of a component that has the byte
    abbrev pub over : Made → Bool
    over m = list_any (λ (c : Component). has_byte byte c && is_failed_take c m) cs

    -- and so with the failed takes that the read keeps
    abbrev pub among : FailedTake → Bool
    among f = list_any (λ (c : Component). nat_eq c.id f.component && has_byte byte c) cs

    commutes : (x y : Bool) → (x && y) ≡ (y && x)
    commutes true true = refl
    commutes true false = refl
    commutes false true = refl
    commutes false false = refl

    symmetric : (a b : ℕ) → nat_eq a b ≡ nat_eq b a
    symmetric a b = elim (cases_Bool (nat_eq a b)) as (λ _. nat_eq a b ≡ nat_eq b a) [
      | inl same ↦ same ∙ sym (eq-eqb b a (sym (eqb-true a b same)))
      | inr other ↦ elim (cases_Bool (nat_eq b a)) as (λ _. nat_eq a b ≡ nat_eq b a) [ inl same ↦ absurd (eqb-false a b other (sym (eqb-true b a same))) | inr fails_not ↦ other ∙ sym fails_not ]
    ]

    over_none : (m : Made) → has_failed m ≡ false → over m ≡ false
    over_none m e = in_none (λ (c : Component). has_byte byte c && is_failed_take c m) cs (λ c i. and_right (has_byte byte c) (is_failed_take c m) (not_failed c m e))

    over_is : (d : Component) (m : Made) → In d cs → In (object_in m) d.objects → m.entry.kind ≡ kind.Read → has_failed m ≡ true → over m ≡ among (record { component = d.id; call = call_of m })
    over_is d m j has read failed = any_same (λ (c : Component). has_byte byte c && is_failed_take c m) (λ (c : Component). nat_eq c.id d.id && has_byte byte c) cs
        (λ c i. ap (λ (b : Bool). has_byte byte c && b) (failed_is c d m i j has read failed ∙ symmetric d.id c.id) ∙ commutes (has_byte byte c) (nat_eq c.id d.id))

    AreNamed : List Made → List FailedTake → Type 0
    AreNamed ms fs = map call_of (filter over ms) ≡ map (λ (f : FailedTake). f.call) (filter among fs)

    AreGood : List Made → Type 0
    AreGood ms = AllByRecursion (IsListed fails) (map call_of (filter over ms))

    -- they are those that the read names
    pub named_are : (since : List (CallStep ReadView)) → AllByRecursion (Makes fails cs) since → failed_over cs (made_of since) byte ≡ calls_over cs byte (failed_takes since)
    named_are [] all = refl
    named_are (x ∷ xs) all = by all.0 (named_are xs all.1)
      where
        Same : List Made → List FailedTake → Type 0
        Same ms gs = map call_of (filter over (ms ++ made_of xs)) ≡ map (λ (f : FailedTake). f.call) (filter among (gs ++ failed_takes xs))

        so : (ms : List Made) (gs : List FailedTake) → made_in x ≡ ms → failed_at x.call.at x.before ≡ gs → Same ms gs → Same (made_in x) (failed_at x.call.at x.before)
        so ms gs e f same = ap (λ (k : List Made). map call_of (filter over (k ++ made_of xs))) e ∙ same ∙ sym (ap (λ (k : List FailedTake). map (λ (f : FailedTake). f.call) (filter among (k ++ failed_takes xs))) f)

        both : (m : Made) (id : ℕ) (b : Bool) → Same [] [] → map call_of (cond b (m ∷ filter over (made_of xs)) (filter over (made_of xs))) ≡ map (λ (f : FailedTake). f.call) (cond b (record { component = id; call = call_of m } ∷ filter among (failed_takes xs)) (filter among (failed_takes xs)))
        both m id true rest = ap (λ (k : List FailedCall). call_of m ∷ k) rest
        both m id false rest = rest

        by : Makes fails cs x → Same [] [] → Same (made_in x) (failed_at x.call.at x.before)
        by (Quiet e f) rest = so [] [] e f rest
        by (Takes d m j has e went f) rest = so (m ∷ []) [] e f (ap (λ (b : Bool). map call_of (cond b (m ∷ filter over (made_of xs)) (filter over (made_of xs)))) (over_none m went) ∙ rest)
        by (Fails d m j has e read failed f listed) rest =
            so (m ∷ []) (record { component = d.id; call = call_of m } ∷ []) e f
            (ap (λ (b : Bool). map call_of (cond b (m ∷ filter over (made_of xs)) (filter over (made_of xs)))) (over_is d m j has read failed) ∙ both m d.id (among (record { component = d.id; call = call_of m })) rest)

    -- and the script lists each
    pub named_listed : (since : List (CallStep ReadView)) → AllByRecursion (Makes fails cs) since → AllByRecursion (IsListed fails) (failed_over cs (made_of since) byte)
    named_listed [] all = tt
    named_listed (x ∷ xs) all = by all.0 (named_listed xs all.1)
      where
        Good : List Made → Type 0
        Good ms = AllByRecursion (IsListed fails) (map call_of (filter over (ms ++ made_of xs)))

        more : (m : Made) (b : Bool) → IsListed fails (call_of m) → Good [] → AllByRecursion (IsListed fails) (map call_of (cond b (m ∷ filter over (made_of xs)) (filter over (made_of xs))))
        more m true listed rest = (listed, rest)
        more m false listed rest = rest

        by : Makes fails cs x → Good [] → Good (made_in x)
        by (Quiet e f) rest = subst Good (sym e) rest
        by (Takes d m j has e went f) rest = subst Good (sym e) (subst (λ (b : Bool). AllByRecursion (IsListed fails) (map call_of (cond b (m ∷ filter over (made_of xs)) (filter over (made_of xs))))) (sym (over_none m went)) rest)
        by (Fails d m j has e read failed f listed) rest = subst Good (sym e) (more m (over m) listed rest)

    -- where a component had the byte, and no other may answer it now, one failed at least
    one_failed : (c : Component) → In c cs → has_byte byte c ≡ true → (failed : List FailedTake) → list_any (λ (id : ℕ). nat_eq id c.id) (ids_of failed) ≡ true → 0 < length (calls_over cs byte failed)
    one_failed c i has [] h = absurd (cc)
    one_failed c i has (f ∷ fs) h = by (among f) refl (nat_eq f.component c.id) refl h (one_failed c i has fs)
      where
        by : (b : Bool) → among f ≡ b → (d : Bool) → nat_eq f.component c.id ≡ d → (d || list_any (λ (id : ℕ). nat_eq id c.id) (ids_of fs)) ≡ true → (list_any (λ (id : ℕ). nat_eq id c.id) (ids_of fs) ≡ true → 0 < length (calls_over cs byte fs))
            → 0 < length (map (λ (g : FailedTake). g.call) (cond b (f ∷ filter among fs) (filter among fs)))
        by true e d is h rest = omega arith
        by false e true is h rest =
            absurd (both_ways (among f) e (any_in (λ (k : Component). nat_eq k.id f.component && has_byte byte k) cs c i (λ l. (symmetric c.id f.component ∙ is) l && has l)))
        by false e false is h rest = rest h

    pub some_failed : (failed : List FailedTake) → list_any (is_candidate [] byte) cs ≡ true → list_any (is_candidate (ids_of failed) byte) cs ≡ false → 0 < length (calls_over cs byte failed)
    some_failed failed before now = by (some_in (is_candidate [] byte) cs before)
      where
        by : ((c : Component) × In c cs × (is_candidate [] byte c ≡ true)) → 0 < length (calls_over cs byte failed)
        by found = elim (cases_Bool (list_any (λ (id : ℕ). nat_eq id found.0.id) (ids_of failed))) as (λ _. 0 < length (calls_over cs byte failed)) [
          | inl holds ↦ one_failed found.0 found.1 (and_parts (has_byte byte found.0) _ found.2).0 failed holds
          | inr fails_not ↦
              let still : is_candidate (ids_of failed) byte found.0 ≡ true = ap (λ (b : Bool). has_byte byte found.0 && (not found.0.flags.stale && (not found.0.flags.offline && not b))) fails_not ∙ found.2 in
              absurd (both_ways (list_any (is_candidate (ids_of failed) byte) cs) now (any_in (is_candidate (ids_of failed) byte) cs found.0 found.1 still))
        ]
