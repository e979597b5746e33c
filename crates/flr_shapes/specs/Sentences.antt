-- Which stripe of which bytes an object is.
use Rattle.std.specs.Prelude.{◌≡◌, ℕ, List, [], ◌∷◌, Option, None, Some, slice_get, ◌⊎◌}
use Rattle.flr_base.specs.declared.reply.ObjectId.{ObjectId}
use Rattle.flr_base.specs.declared.reply.Range.{Range}
use Rattle.flr_base.specs.declared.reply.Stripe.{Stripe}
use Rattle.composite_layout.specs.declared.component.Component.{Component}
use Rattle.composite_layout.specs.Layouts.{Composite}
use Rattle.meta_server.specs.declared.answers.Opened.{Opened}
use Rattle.meta_server.specs.Files.{File, MetaView, file_of}
use Rattle.flr_numbers.specs.Copies.{hand_of_copy}
use Rattle.flr_numbers.specs.Frames.{IsUnmade}
use Rattle.flr_numbers.specs.Sentences.{hand_of}
use Rattle.flr_steps.specs.declared.client.Client.{Client}
use Rattle.flr_steps.specs.declared.client.Running.{Running}
use Rattle.flr_steps.specs.declared.client.Running.TheVariants as running
use Rattle.flr_steps.specs.States.{State, client_at}

-- the extent of a component, the size and the count of its stripes, and the place of one of them
pub record Shape : Type 0 where
  pub extent : Range
  pub stripe : Stripe
  pub index : ℕ

-- the object is this stripe of the component, which has this extent and these stripes
abbrev pub IsStripe : ObjectId → Shape → Component → Type 0
IsStripe o shape c = (c.extent ≡ shape.extent) × (c.stripe ≡ shape.stripe) × (slice_get c.objects shape.index ≡ Some o)

-- it is so of one of the components
abbrev pub IsStripeIn : ObjectId → Shape → List Component → Type 0
IsStripeIn o shape [] = ⊥
IsStripeIn o shape (c ∷ cs) = IsStripe o shape c ⊎ IsStripeIn o shape cs

-- the object stands with this shape in a layout
abbrev pub HasShape : ObjectId → Shape → Composite → Type 0
HasShape o shape l = IsStripeIn o shape l.components

-- the object stands with this shape in the layout of a file
pub record IsShapeOf (m : MetaView) (o : ObjectId) (shape : Shape) : Type 0 where
  pub number : ℕ
  pub file : File
  pub there : file_of number m.files ≡ Some file
  pub has : HasShape o shape file.layout

-- whatever shape an object has in the layout of a file after a change, it had before, in that or another file; or it wasn't made yet
abbrev pub Keeps : MetaView → MetaView → Type 0
Keeps old new = (o : ObjectId) (shape : Shape) → IsShapeOf new o shape → IsUnmade old o ⊎ IsShapeOf old o shape

-- an object has the same shape wherever it stands in the files before and those after
abbrev pub Agree : MetaView → MetaView → Type 0
Agree old new = (o : ObjectId) (before after : Shape) → IsShapeOf old o before → IsShapeOf new o after → before ≡ after

-- an object has the same shape in this layout and wherever it stands in the files
abbrev pub AgreesWith : MetaView → Composite → Type 0
AgreesWith m l = (o : ObjectId) (ours theirs : Shape) → HasShape o ours l → IsShapeOf m o theirs → ours ≡ theirs

-- ---- layouts in hand

-- the layout of an open file, if one is open
abbrev pub layout_of : Option Opened → List Composite
layout_of None = []
layout_of (Some o) = o.layout ∷ []

-- the layouts that a call has in hand: a copy those of the files that it copies or compares, any other call that of the file that it has open
abbrev pub layouts_of : Running → List Composite
layouts_of (running.Copy call) = (hand_of_copy call).copied
layouts_of other = layout_of (hand_of other).opened

-- the object stands with this shape in one of these layouts
abbrev pub HasShapeAmong : ObjectId → Shape → List Composite → Type 0
HasShapeAmong o shape [] = ⊥
HasShapeAmong o shape (l ∷ ls) = HasShape o shape l ⊎ HasShapeAmong o shape ls

-- the object stands with this shape in a layout that a client's call has in hand
pub record IsShapeInHand (s : State) (o : ObjectId) (shape : Shape) : Type 0 where
  pub number : ℕ
  pub client : Client
  pub here : client_at s.clients number ≡ Some client
  pub has : HasShapeAmong o shape (layouts_of client.call)

-- it does so in the layout of a file, or in one that a call has in hand
abbrev pub IsShapeIn : State → ObjectId → Shape → Type 0
IsShapeIn s o shape = IsShapeOf s.shared.meta o shape ⊎ IsShapeInHand s o shape

-- an object has the same shape wherever it stands in the layout of a file or in one that a call has in hand
abbrev pub HaveOneShape : State → Type 0
HaveOneShape s = (o : ObjectId) (a b : Shape) → IsShapeIn s o a → IsShapeIn s o b → a ≡ b
