-- Which word begins what.
use Rattle.std.proofs.Common.{◌≡◌, ℕ, true, cond, List, Option, Some, None, refl, ap, subst, ◌∙◌}
use Rattle.std.specs.Prelude.{codes}
use Rattle.std.specs.Str.{bytes_eq}
use Rattle.std.proofs.lemmas.Bool.{cond_both}
use Rattle.std.proofs.lemmas.Slice.Eq.{bytes_eq-Decides}
use Rattle.script_text.specs.declared.lead.Verb.{Verb}
use Rattle.script_text.specs.declared.lead.Verb.TheVariants as verbs
use Rattle.script_text.specs.declared.lead.Lead.{Lead}
use Rattle.script_text.specs.declared.lead.Lead.TheVariants as leads
use Rattle.script_text.specs.Leads.{verb_of, head_of, lead_by, lead_of}

abbrev pub verb_text : Verb → List ℕ
verb_text verbs.Read = codes "read"
verb_text verbs.Write = codes "write"
verb_text verbs.Truncate = codes "truncate"
verb_text verbs.Lfs = codes "lfs"
verb_text verbs.Evict = codes "evict"
verb_text verbs.Rot = codes "rot"

next_verb : (word : List ℕ) (x verb : Verb) (rest : Option Verb) → (rest ≡ Some verb → word ≡ verb_text verb) → cond (bytes_eq word (verb_text x)) (Some x) rest ≡ Some verb → word ≡ verb_text verb
next_verb word x verb rest k e =
    cond_both (bytes_eq word (verb_text x)) (Some x) rest (λ o. o ≡ Some verb → word ≡ verb_text verb)
    (λ t h. let same : x ≡ verb = cc in (bytes_eq-Decides word (verb_text x)).0 t ∙ ap verb_text same) (λ f h. k h) e

no_verb : (word : List ℕ) (verb : Verb) → None ≡ Some verb → word ≡ verb_text verb
no_verb word verb e = absurd cc

pub verb_takes : (word : List ℕ) (verb : Verb) → verb_of word ≡ Some verb → word ≡ verb_text verb
unfolding verb_of
verb_takes word verb e =
    next_verb word verbs.Read verb _ (next_verb word verbs.Write verb _ (next_verb word verbs.Truncate verb _ (next_verb word verbs.Lfs verb _ (next_verb word verbs.Evict verb _ (next_verb word verbs.Rot verb None (no_verb word verb)))))) e

pub verb_again : (verb : Verb) → lead_of (verb_text verb) ≡ leads.Command verb
unfolding verb_of head_of
verb_again verbs.Read = refl
verb_again verbs.Write = refl
verb_again verbs.Truncate = refl
verb_again verbs.Lfs = refl
verb_again verbs.Evict = refl
verb_again verbs.Rot = refl

-- the word that begins a line of this kind
abbrev pub IsLead : Lead → List ℕ → Type 0
IsLead leads.Script word = word ≡ codes "flr-script"
IsLead leads.Targets word = word ≡ codes "targets"
IsLead leads.Mirrors word = word ≡ codes "mirrors"
IsLead leads.Fail word = word ≡ codes "fail"
IsLead leads.Client word = word ≡ codes "client"
IsLead leads.Schedule word = word ≡ codes "schedule"
IsLead (leads.Command verb) word = word ≡ verb_text verb
IsLead leads.Other word = Unit {0}

subst_lead : (word : List ℕ) (x lead : Lead) → x ≡ lead → IsLead x word → IsLead lead word
subst_lead word x lead e h = subst (λ (l : Lead). IsLead l word) e h

next_lead : (word text : List ℕ) (x lead : Lead) (rest : Lead) → ((bytes_eq word text ≡ true) → IsLead x word) → (rest ≡ lead → IsLead lead word) → cond (bytes_eq word text) x rest ≡ lead → IsLead lead word
next_lead word text x lead rest is k e =
    cond_both (bytes_eq word text) x rest (λ o. o ≡ lead → IsLead lead word) (λ t h. subst_lead word x lead h (is t)) (λ f h. k h) e

other_lead : (word : List ℕ) (lead : Lead) → leads.Other ≡ lead → IsLead lead word
other_lead word lead e = subst_lead word leads.Other lead e tt

head_takes : (word : List ℕ) (lead : Lead) → head_of word ≡ lead → IsLead lead word
unfolding head_of
head_takes word lead e =
    next_lead word (codes "flr-script") leads.Script lead _ (bytes_eq-Decides word (codes "flr-script")).0
    (next_lead word (codes "targets") leads.Targets lead _ (bytes_eq-Decides word (codes "targets")).0
    (next_lead word (codes "mirrors") leads.Mirrors lead _ (bytes_eq-Decides word (codes "mirrors")).0
    (next_lead word (codes "fail") leads.Fail lead _ (bytes_eq-Decides word (codes "fail")).0
    (next_lead word (codes "client") leads.Client lead _ (bytes_eq-Decides word (codes "client")).0
    (next_lead word (codes "schedule") leads.Schedule lead leads.Other (bytes_eq-Decides word (codes "schedule")).0
    (other_lead word lead)))))) e

by_verb : (word : List ℕ) (lead : Lead) (o : Option Verb) → verb_of word ≡ o → lead_by word o ≡ lead → IsLead lead word
by_verb word lead (Some verb) v e = subst_lead word (leads.Command verb) lead e (verb_takes word verb v)
by_verb word lead None v e = head_takes word lead e

pub lead_takes : (word : List ℕ) (lead : Lead) → lead_of word ≡ lead → IsLead lead word
lead_takes word lead e = by_verb word lead (verb_of word) refl e

pub lead_words : (lead_of (codes "flr-script") ≡ leads.Script) × (lead_of (codes "targets") ≡ leads.Targets) × (lead_of (codes "mirrors") ≡ leads.Mirrors) × (lead_of (codes "fail") ≡ leads.Fail) × (lead_of (codes "client") ≡ leads.Client)
unfolding verb_of head_of
lead_words = (refl, refl, refl, refl, refl)
