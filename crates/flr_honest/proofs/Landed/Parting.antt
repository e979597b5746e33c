-- Which part a call sends at its next step.
use Rattle.std.proofs.Common.{◌≡◌, ℕ, Option, Some, None, sym, ap, subst, ◌∙◌}
use Rattle.std.specs.Prelude.{slice_get}
use Rattle.std.specs.Option.{option_map}
use Rattle.mirror_select.specs.declared.types.Piece.{Piece}
use Rattle.mirror_select.specs.Tails.{StripeObject, tail_stripes}
use Rattle.call_steps.specs.Pieces.{object_of}
use Rattle.call_steps.specs.Servers.{Servers}
use Rattle.client_write.specs.declared.phase.CutAt.{CutAt}
use Rattle.client_write.specs.declared.phase.CutAt.TheVariants as cut
use Rattle.client_write.specs.declared.phase.WriteAt.{WriteAt}
use Rattle.client_write.specs.declared.phase.WriteAt.TheVariants as write
use Rattle.flr_steps.specs.declared.client.Running.{Running}
use Rattle.flr_steps.specs.declared.client.Running.TheVariants as running
use Rattle.flr_claims.specs.Sending.{OfTruncate, OfWrite, Part, part_object}
use Rattle.flr_bytes.specs.Writing.{Admits, HoldsStill, IsThisPart}
use Rattle.flr_honest.specs.Landed.{MayPass}
use Rattle.flr_honest.proofs.Landed.Lists.{some_same}

-- the next part, and the generation with which it is sent
abbrev pub write_next : WriteAt → Option Part
write_next (write.Send x next) = option_map OfWrite (slice_get x.pieces next)
write_next other = None

abbrev pub write_generation : WriteAt → ℕ
write_generation (write.Send x next) = x.opened.layout.generation
write_generation other = 0

abbrev pub cut_next : ℕ → CutAt → Option Part
cut_next size (cut.Punch x next) = option_map (OfTruncate size) (slice_get (tail_stripes x.opened.layout size) next)
cut_next size other = None

abbrev pub cut_generation : CutAt → ℕ
cut_generation (cut.Punch x next) = x.opened.layout.generation
cut_generation other = 0

abbrev pub next_part : Running → Option Part
next_part (running.Write w) = write_next w.at
next_part (running.Truncate t) = cut_next t.size t.at
next_part other = None

abbrev pub next_generation : Running → ℕ
next_generation (running.Write w) = write_generation w.at
next_generation (running.Truncate t) = cut_generation t.at
next_generation other = 0

-- a part that is sent is the next one
pub this_next : (s after : Servers) (call : Running) (p : Part) → IsThisPart s after call p → next_part call ≡ Some p
this_next s after call (OfWrite q) this =
    ap next_part this.0.writes ∙ ap write_next this.0.at ∙ ap (option_map OfWrite) this.0.there ∙ ap (λ (z : Piece). Some (OfWrite z)) this.1
this_next s after call (OfTruncate size q) this =
    ap next_part this.0.truncates ∙ ap (cut_next this.0.asked.size) this.0.at ∙ ap (option_map (OfTruncate this.0.asked.size)) this.0.there ∙ ap (λ (z : StripeObject). Some (OfTruncate this.0.asked.size z)) this.2
    ∙ ap (λ k. Some (OfTruncate k q)) this.1

-- so of one call one part is sent at a step
pub same_part : (s after : Servers) (call : Running) (p q : Part) → IsThisPart s after call p → IsThisPart s after call q → p ≡ q
same_part s after call p q this that = some_same p q (sym (this_next s after call p this) ∙ this_next s after call q that)

-- its object keeps no version above that generation
pub this_admitted : (s after : Servers) (call : Running) (p : Part) → IsThisPart s after call p → Admits s (part_object p) (next_generation call)
this_admitted s after call (OfWrite q) this =
    subst (Admits s (object_of q)) (sym (ap next_generation this.0.writes ∙ ap write_generation this.0.at)) (subst (λ (z : Piece). Admits s (object_of z) this.0.writing.opened.layout.generation) this.1 this.0.admitted)
this_admitted s after call (OfTruncate size q) this =
    subst (Admits s q.object) (sym (ap next_generation this.0.truncates ∙ ap cut_generation this.0.at)) (subst (λ (z : StripeObject). Admits s z.object this.0.cutting.opened.layout.generation) this.2 this.0.admitted)

-- whatever was sent here, nothing changed, and the call was refused
abbrev pub IsQuiet : Servers → Servers → Running → Type 0
IsQuiet s after call = (p : Part) → IsThisPart s after call p → HoldsStill s after × (MayPass s (part_object p) → ⊥)

-- a call that sends no part
pub none_next : (s after : Servers) (call : Running) → next_part call ≡ None → IsQuiet s after call
none_next s after call none p this = absurd (let no : None ≡ Some p = sym none ∙ this_next s after call p this in cc)
