-- What a verify tells of the mirrors of a file, compared block by block.
use Rattle.std.specs.Prelude.{◌≡◌, ◌⊎◌, ℕ, ◌*◌, ◌+◌, ◌<◌, ◌≤◌, ◌/◌, true, false, nat_lt, List, [], ◌∷◌, ◌++◌, length, filter, Contains, Some}
use Rattle.std.specs.List.{AllByRecursion, count_by, list_any, range_with_len}
use Rattle.flr_base.specs.declared.reply.Diff.{Diff}
use Rattle.flr_base.specs.declared.reply.FailedCall.{FailedCall}
use Rattle.composite_layout.specs.declared.component.Component.{Component}
use Rattle.mirror_select.specs.Candidates.{is_candidate}
use Rattle.meta_server.specs.Files.{File, file_of}
use Rattle.flr_steps.specs.Traces.{Made, made_since_open}
use Rattle.flr_claims.specs.Calls.{Call, HasOpened, shares_lock}
use Rattle.flr_claims.specs.Failures.{IsListedFailure, has_failed}
use Rattle.flr_claims.specs.Merging.{IsReadFrom}

-- the block of 65536 bytes that has this byte
abbrev pub block_of : ℕ → ℕ
block_of x = x / 65536

-- the component has this byte, as a verify learnt it: it was read; or it is zero, since the component has no objects
abbrev pub HasByte : List Made → Component → ℕ → ℕ → Type 0
HasByte made c x byte = ((c.flags.init ≡ false) × (byte ≡ 0)) ⊎ ((c.flags.init ≡ true) × IsReadFrom made c x byte)

-- both components have the same byte
abbrev pub AreAlikeAt : List Made → Component → Component → ℕ → Type 0
AreAlikeAt made c d x = (byte : ℕ) × HasByte made c x byte × HasByte made d x byte

-- the components may answer the byte, and the first has the lowest id of those that may: so they are compared there
pub record AreCompared (cs : List Component) (x : ℕ) (c d : Component) : Type 0 where
  pub first : Contains cs c
  pub second : Contains cs d
  pub first_may : is_candidate [] x c ≡ true
  pub second_may : is_candidate [] x d ≡ true
  pub other : c.id < d.id
  pub lowest : (e : Component) → Contains cs e → is_candidate [] x e ≡ true → c.id ≤ e.id

-- a difference is right: two compared components have these bytes there, which differ, and none before it in its block does
pub record IsDifference (f : File) (made : List Made) (e : Diff) : Type 0 where
  pub within : e.offset < f.size
  pub c : Component
  pub d : Component
  pub compared : AreCompared f.layout.components e.offset c d
  pub first_is : c.id ≡ e.first
  pub second_is : d.id ≡ e.second
  pub differ : e.ours ≡ e.theirs → ⊥
  pub our_byte : HasByte made c e.offset e.ours
  pub their_byte : HasByte made d e.offset e.theirs
  pub lowest : (y : ℕ) → y < e.offset → block_of y ≡ block_of e.offset → AreAlikeAt made c d y

-- the difference is of this component, in this byte's block
abbrev pub IsEntryFor : List Diff → Component → ℕ → Type 0
IsEntryFor entries d x = (e : Diff) × Contains entries e × (e.second ≡ d.id) × (block_of e.offset ≡ block_of x)

-- of two entries the first is of an earlier block, or of the same one and a component with a lower id
abbrev pub ComesBefore : Diff → Diff → Type 0
ComesBefore e g = (block_of e.offset < block_of g.offset) ⊎ ((block_of e.offset ≡ block_of g.offset) × (e.second < g.second))

-- the entries stand in that order, so no component is named twice for a block
abbrev pub AreInOrder : List Diff → Type 0
AreInOrder [] = Unit {0}
AreInOrder (e ∷ es) = AllByRecursion (ComesBefore e) es × AreInOrder es

-- these are the differences of a file as it was opened: each is right, they stand in order, and where two compared components have none in a block, they are alike there
pub record AreDifferences (f : File) (made : List Made) (entries : List Diff) : Type 0 where
  pub right : AllByRecursion (IsDifference f made) entries
  pub in_order : AreInOrder entries
  pub all : (x : ℕ) (c d : Component) → x < f.size → AreCompared f.layout.components x c d → IsEntryFor entries d x ⊎ AreAlikeAt made c d x

-- how many components may answer the byte
abbrev pub answering : List Component → ℕ → ℕ
answering cs byte = length (filter (is_candidate [] byte) cs)

-- how many blocks of a file are compared: those that two components at least may answer
abbrev pub compared_blocks : File → ℕ
compared_blocks f = count_by (λ (block : ℕ). nat_lt 1 (answering f.layout.components (65536 * block))) (range_with_len 0 ((f.size + 65535) / 65536))

-- ---- what it answers

-- a verify opened the file as it is here, and before the point its client still shares the layout lock: nobody has evicted it since
pub record IsVerified (k : Call) (f : File) : Type 0 where
  pub opened : HasOpened k f
  pub now : File
  pub there : file_of f.number k.before.shared.meta.files ≡ Some now
  pub shares : shares_lock k.client now ≡ true

-- no call of the verify failed since it opened the file, and these are the file's differences
pub record HasDifferences (k : Call) (f : File) (entries : List Diff) : Type 0 where
  pub verified : IsVerified k f
  pub through : list_any has_failed (made_since_open k.did) ≡ false
  pub are : AreDifferences f (made_since_open k.did) entries

-- the last call of the verify since it opened its file failed
pub record HasFailedRead (k : Call) (call : FailedCall) : Type 0 where
  pub f : File
  pub verified : IsVerified k f
  pub front : List Made
  pub last : Made
  pub in_order : made_since_open k.did ≡ front ++ last ∷ []
  pub failed : IsListedFailure k.before.script.fails last call
