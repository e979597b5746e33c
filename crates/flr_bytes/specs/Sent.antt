-- What each writing call has sent of its parts, by its phase.
use Rattle.std.specs.Prelude.{◌≡◌, ℕ, ◌+◌, true, List, [], ◌∷◌, length, map, take, Some}
use Rattle.std.specs.List.{AllByRecursion}
use Rattle.flr_base.specs.declared.reply.ObjectId.{ObjectId}
use Rattle.mirror_select.specs.Tails.{tail_stripes}
use Rattle.object_target.specs.declared.call.CallKind.{CallKind}
use Rattle.object_target.specs.declared.call.CallKind.TheVariants as kind
use Rattle.object_target.specs.declared.fail.Fail.{Fail}
use Rattle.call_steps.specs.Pieces.{length_of}
use Rattle.client_write.specs.declared.phase.CutAt.{CutAt}
use Rattle.client_write.specs.declared.phase.CutAt.TheVariants as cut
use Rattle.client_write.specs.declared.phase.Sent.{Sent}
use Rattle.client_write.specs.declared.phase.Sent.TheVariants as sent
use Rattle.client_write.specs.declared.phase.WriteAt.{WriteAt}
use Rattle.client_write.specs.declared.phase.WriteAt.TheVariants as write
use Rattle.flr_steps.specs.declared.client.Client.{Client}
use Rattle.flr_steps.specs.declared.client.Running.{Running}
use Rattle.flr_steps.specs.declared.client.Running.TheVariants as running
use Rattle.flr_steps.specs.States.{State, client_at}
use Rattle.flr_steps.specs.Traces.{Made, Trace, doing_of, has_landed, sent_calls}
use Rattle.flr_claims.specs.Sending.{OfTruncate, OfWrite, Part, part_object}

-- ---- one call for each part

-- the call is of this kind, and of this object
pub record IsCallOn (k : CallKind) (o : ObjectId) (m : Made) : Type 0 where
  pub kind : m.entry.kind ≡ k
  pub target : m.target ≡ o.target
  pub object : m.entry.object ≡ o.number

-- the call was sent for the part: a write with all its bytes, or a punch
abbrev pub IsSentFor : Part → Made → Type 0
IsSentFor (OfWrite p) m = IsCallOn kind.Write (part_object (OfWrite p)) m × (m.entry.length ≡ length_of p)
IsSentFor (OfTruncate size s) m = IsCallOn kind.Punch s.object m

-- one call after the other was sent for one part after the other, from the first on
abbrev pub AreSentFor : List Part → List Made → Type 0
AreSentFor parts [] = Unit {0}
AreSentFor (p ∷ ps) (m ∷ ms) = IsSentFor p m × AreSentFor ps ms
AreSentFor [] (m ∷ ms) = ⊥

-- all of these landed
abbrev pub AllLanded : List Fail → List Made → Type 0
AllLanded fails made = AllByRecursion (λ (m : Made). has_landed fails m ≡ true) made

-- ---- how many, by what came of them

-- with so many parts: all were sent and landed; or so many landed, and one more failed; or so many landed, and the next one was too old
abbrev pub AreSentTo : List Fail → ℕ → Sent → List Made → Type 0
AreSentTo fails count sent.All made = (length made ≡ count) × AllLanded fails made
AreSentTo fails count (sent.Failed accepted call) made = (length made ≡ accepted + 1) × AllLanded fails (take accepted made)
AreSentTo fails count (sent.Old accepted step) made = (length made ≡ accepted) × AllLanded fails made

abbrev pub WriteSent : List Fail → WriteAt → List Made → Type 0
WriteSent fails (write.Lock x next) made = made ≡ []
WriteSent fails (write.Send x next) made = (length made ≡ next) × AllLanded fails made × AreSentFor (map OfWrite x.pieces) made
WriteSent fails (write.Commit x end came) made = AreSentTo fails (length x.pieces) came made × AreSentFor (map OfWrite x.pieces) made
WriteSent fails other made = Unit {0}

abbrev pub CutSent : List Fail → ℕ → CutAt → List Made → Type 0
CutSent fails size (cut.Lock x) made = made ≡ []
CutSent fails size (cut.Punch x next) made = (length made ≡ next) × AllLanded fails made × AreSentFor (map (OfTruncate size) (tail_stripes x.opened.layout size)) made
CutSent fails size (cut.Commit x came) made = AreSentTo fails (length (tail_stripes x.opened.layout size)) came made × AreSentFor (map (OfTruncate size) (tail_stripes x.opened.layout size)) made
CutSent fails size other made = Unit {0}

-- what a call has sent of its parts since it opened its file
abbrev pub CallSent : List Fail → Running → List Made → Type 0
CallSent fails (running.Write call) made = WriteSent fails call.at made
CallSent fails (running.Truncate call) made = CutSent fails call.size call.at made
CallSent fails other made = Unit {0}

-- so it is with the call of each client
abbrev pub AreSent : State → Trace → Type 0
AreSent s t = (c : ℕ) (client : Client) → client_at s.clients c ≡ Some client → CallSent s.script.fails client.call (sent_calls (doing_of t c))
