-- What is sent, what has landed, and which bytes a component holds.
use Rattle.std.proofs.Common.{◌≡◌, ℕ, ◌<◌, Bool, true, List, length, ap, ◌∙◌}
use Rattle.std.specs.Prelude.{Option, Some, slice_get, slice_index, if◌then◌else◌}
use Rattle.std.proofs.lemmas.Option.{slice_get_within}
use Rattle.flr_base.specs.declared.reply.ObjectId.{ObjectId}
use Rattle.composite_layout.specs.declared.component.Component.{Component}
use Rattle.mirror_select.specs.Held.{byte_at, held}
use Rattle.object_target.specs.declared.fail.Fail.{Fail}
use Rattle.stripe_map.specs.Places.{place_of}
use Rattle.flr_steps.specs.Traces.{Doing, sent_calls}
use Rattle.flr_claims.specs.Sending.{Attempt, HasLanded, Part}

pub landed_was_sent : (fails : List Fail) (a : Attempt) (d : Doing) (place : ℕ) (p : Part) → HasLanded fails a d place p → place < length (sent_calls d)
landed_was_sent fails a d place p h = slice_get_within (sent_calls d) place h.made h.sent

pub held_by_striping : (content : ObjectId → List ℕ) (c : Component) (x : ℕ) (o : ObjectId) → c.flags.init ≡ true → slice_get c.objects (place_of x c.stripe).index ≡ Some o
    → held content c x ≡ slice_index (content o) (place_of x c.stripe).offset
held_by_striping content c x o made there =
    ap (λ (b : Bool). if b then byte_at content (slice_get c.objects (place_of x c.stripe).index) (place_of x c.stripe).offset else 0) made ∙ ap (λ (found : Option ObjectId). byte_at content found (place_of x c.stripe).offset) there
