-- Honest states, and who may still write: what the servers keep against the plain files.
use Rattle.std.specs.Prelude.{◌≡◌, ◌⊎◌, ℕ, ◌<◌, ◌≤◌, ◌^◌, true, false, List, [], ◌∷◌, length, Contains, Some, get_or}
use Rattle.flr_base.specs.declared.reply.ObjectId.{ObjectId}
use Rattle.composite_layout.specs.declared.component.Component.{Component}
use Rattle.mirror_select.specs.Held.{held}
use Rattle.object_target.specs.TargetState.{bytes_at}
use Rattle.meta_server.specs.Files.{File, file_of}
use Rattle.call_steps.specs.Servers.{Servers, target_at}
use Rattle.flr_steps.specs.declared.client.Client.{Client}
use Rattle.flr_steps.specs.States.{State, client_at}
use Rattle.flr_steps.specs.Traces.{Trace, doing_of}
use Rattle.plain_files.specs.Files.{Plain}
use Rattle.flr_claims.specs.Runs.{store_of}
use Rattle.flr_claims.specs.Sending.{Attempt, HasLanded, IsAdmitted, Part, attempt_of, is_over, part_component, part_object, reaches}

-- what an object holds
abbrev pub content : Servers → ObjectId → List ℕ
content s o = bytes_at (target_at s.targets o.target) o.number

-- the client's call is this attempt of a writing call, before its point
pub record IsAttempting (s : State) (c : ℕ) (a : Attempt) : Type 0 where
  pub client : Client
  pub here : client_at s.clients c ≡ Some client
  pub attempt : attempt_of client.call ≡ Some a

-- a byte of the file is open: it lies in a part of a writing call that has landed, and that call is before its point
pub record IsOpen (s : State) (t : Trace) (file x : ℕ) : Type 0 where
  pub client : ℕ
  pub attempt : Attempt
  pub attempting : IsAttempting s client attempt
  pub same : attempt.opened.file ≡ file
  pub place : ℕ
  pub part : Part
  pub landed : HasLanded s.script.fails attempt (doing_of t client) place part
  pub over : is_over x part ≡ true

-- the byte is one of the component's extent, and within the greatest file
abbrev pub IsOf : Component → ℕ → Type 0
IsOf d x = (d.extent.start ≤ x) × (x < d.extent.end) × (x < 2 ^ 40)

-- the file's size is that of the plain file, and each fresh component holds the plain file's bytes, but where they are open, and zeros past its end
pub record IsHonestFile (s : State) (t : Trace) (f : File) (p : Plain) : Type 0 where
  pub name : f.name ≡ p.name
  pub size : f.size ≡ length p.bytes
  pub bytes : (d : Component) (x : ℕ) → Contains f.layout.components d → d.flags.stale ≡ false → IsOf d x → (IsOpen s t f.number x → ⊥) → held (content s.shared) d x ≡ get_or p.bytes x 0

-- one file after the other is honest, and there are as many
abbrev pub AreHonest : State → Trace → List File → List Plain → Type 0
AreHonest s t [] [] = Unit {0}
AreHonest s t (f ∷ fs) (p ∷ ps) = IsHonestFile s t f p × AreHonest s t fs ps
AreHonest s t fs ps = ⊥

-- an honest state: its files are the plain files that the calls so far leave
abbrev pub IsHonest : State → Trace → Type 0
IsHonest s t = AreHonest s t s.shared.meta.files (store_of s t)

-- ---- sole holder

-- a part of an attempt on a file lies in the only fresh components there: the file is there, the part's component is in its layout, fresh, with its objects, and every component of another mirror that the part reaches is stale
pub record IsHeldAlone (files : List File) (number : ℕ) (p : Part) : Type 0 where
  pub file : File
  pub there : file_of number files ≡ Some file
  pub component : Component
  pub listed : Contains file.layout.components component
  pub same : component.id ≡ part_component p
  pub fresh : component.flags.stale ≡ false
  pub made : component.flags.init ≡ true
  pub object : Contains component.objects (part_object p)
  pub others : (e : Component) → Contains file.layout.components e → (e.mirror ≡ component.mirror → ⊥) → reaches p e ≡ true → e.flags.stale ≡ true

-- each part of a writing call that may still land, or has landed before the call's point, lies in the only fresh components there
abbrev pub HasSoleHolder : State → Trace → Type 0
HasSoleHolder s t = (c : ℕ) (a : Attempt) (place : ℕ) (p : Part) → IsAttempting s c a
    → (IsAdmitted s.shared a (doing_of t c) place p ⊎ HasLanded s.script.fails a (doing_of t c) place p)
    → IsHeldAlone s.shared.meta.files a.opened.file p
