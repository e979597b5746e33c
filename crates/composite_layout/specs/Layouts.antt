-- Composite layouts, and which of them are valid.
use Rattle.std.specs.Prelude.{◌≡◌, ℕ, ◌+◌, ◌*◌, ◌%◌, ◌<◌, ◌≤◌, Bool, true, false, not, ◌&&◌, ◌||◌, nat_eq, nat_lt, List, [], ◌∷◌, ◌++◌, length, if◌then◌else◌}
use Rattle.std.specs.List.{flat_map, list_any, list_all, AllByRecursion}
use Rattle.flr_base.specs.declared.reply.ObjectId.{ObjectId}
use Rattle.flr_base.specs.Stripes.{IsStripe}
use Rattle.composite_layout.specs.declared.component.Component.{Component}
use Rattle.composite_layout.specs.declared.component.State.{State}
use Rattle.composite_layout.specs.declared.component.State.TheVariants as states

-- the end of the last component of each mirror
abbrev pub eof : ℕ
eof = 18446744073709551615

-- what a layout says
pub record Composite : Type 0 where
  pub generation : ℕ
  pub state : State
  pub next_mirror : ℕ
  pub next_counter : ℕ
  pub components : List Component

-- a mirror: its id, and its components in their order
pub record Mirror : Type 0 where
  pub id : ℕ
  pub parts : List Component

-- an end is a multiple of 65536 or EOF
abbrev pub is_end : ℕ → Bool
is_end e = nat_eq e eof || (nat_eq (e % 65536) 0 && nat_lt e eof)

-- the components follow each other from this byte up to EOF
abbrev pub Tiles : ℕ → List Component → Type 0
Tiles at [] = at ≡ eof
Tiles at (c ∷ cs) = (c.extent.start ≡ at) × (at < c.extent.end) × (is_end c.extent.end ≡ true) × Tiles c.extent.end cs

-- the components are of this mirror
abbrev pub AreOf : ℕ → List Component → Type 0
AreOf id cs = AllByRecursion (λ c. c.mirror ≡ id) cs

-- the mirrors stand in ascending order, after the last and below the next, and each tiles the file
abbrev pub Ascend : ℕ → ℕ → List Mirror → Type 0
Ascend last next [] = Unit {0}
Ascend last next (m ∷ ms) = (last < m.id) × (m.id < next) × AreOf m.id m.parts × Tiles 0 m.parts × Ascend m.id next ms

-- the components of the mirrors, one mirror after the other
abbrev pub parts_of : List Mirror → List Component
parts_of ms = flat_map (λ m. m.parts) ms

-- the number of a component in its file
abbrev pub counter_of : Component → ℕ
counter_of c = c.id % 65536

-- whether one of the components has this number
abbrev pub is_used : ℕ → List Component → Bool
is_used q seen = list_any (λ d. nat_eq q (counter_of d)) seen

-- each number is below the next one, and none of those before it
abbrev pub Numbered : ℕ → List Component → List Component → Type 0
Numbered next seen [] = Unit {0}
Numbered next seen (c ∷ cs) = (0 < counter_of c) × (counter_of c < next) × (is_used (counter_of c) seen ≡ false) × Numbered next (seen ++ c ∷ []) cs

-- an object is on one of at most 64 targets, and its number is at least 1
abbrev pub IsObject : ObjectId → Type 0
IsObject o = (o.target < 64) × (0 < o.number)

-- what holds of each component by itself
pub record IsShaped (c : Component) : Type 0 where
  -- the id is made of the mirror and the number
  pub id : c.id ≡ c.mirror * 65536 + counter_of c
  pub stripe : IsStripe c.stripe
  -- objects are there exactly where init is, one for each stripe
  pub one_each : length c.objects ≡ (if c.flags.init then c.stripe.count else 0)
  pub objects : AllByRecursion IsObject c.objects

-- none of the components is stale
abbrev pub all_fresh : List Component → Bool
all_fresh cs = list_all (λ c. not c.flags.stale) cs

-- one of the mirrors is wholly fresh
abbrev pub some_fresh : List Mirror → Bool
some_fresh ms = list_any (λ m. all_fresh m.parts) ms

-- with at least how many mirrors a state goes
abbrev pub least : State → ℕ
least states.Single = 1
least states.ReadOnly = 2
least states.WritePending = 2
least states.SyncPending = 1

-- with at most how many mirrors a state goes: there are 65535 ids
abbrev pub most : State → ℕ
most states.Single = 1
most states.ReadOnly = 65535
most states.WritePending = 65535
most states.SyncPending = 65535

-- a valid layout
pub record IsValid (l : Composite) : Type 0 where
  -- the components are those of some mirrors, in ascending order, each of which tiles the file
  pub mirrors : List Mirror
  pub whole : l.components ≡ parts_of mirrors
  pub ascend : Ascend 0 l.next_mirror mirrors
  -- no number of a component is used twice, and each is below the next one
  pub numbered : Numbered l.next_counter [] l.components
  -- each component has its id, its stripes and its objects
  pub shaped : AllByRecursion IsShaped l.components
  -- some mirror is wholly fresh
  pub fresh : some_fresh mirrors ≡ true
  -- the state goes with the number of mirrors
  pub low : least l.state ≤ length mirrors
  pub high : length mirrors ≤ most l.state
  -- generations begin at 1
  pub generation : 0 < l.generation
  -- mirror ids are used up no faster than numbers of components, of which there are 65535
  pub below : l.next_mirror ≤ l.next_counter
  pub few : l.next_counter ≤ 65536
