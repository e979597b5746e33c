-- What a call that has a file open knows of it, in every state of a run.
use Rattle.std.specs.Prelude.{◌≡◌, ℕ, ◌<◌, ◌≤◌, List, Some}
use Rattle.std.specs.Option.{IfSome}
use Rattle.layout_lease.specs.declared.lease.KeyState.TheVariants.{Held}
use Rattle.layout_lease.specs.Leases.{KeyView, state_of}
use Rattle.meta_server.specs.declared.answers.Opened.{Opened}
use Rattle.meta_server.specs.Files.{File, MetaView, file_of}
use Rattle.flr_numbers.specs.Calls.{hand_of_read, hand_of_truncate, hand_of_verify, hand_of_write}
use Rattle.flr_steps.specs.declared.client.Client.{Client}
use Rattle.flr_steps.specs.declared.client.Running.{Running}
use Rattle.flr_steps.specs.declared.client.Running.TheVariants as running
use Rattle.flr_steps.specs.States.{State, client_at}

-- the number of the open file was given; while the file is there, with the cookie or without, it has the name by which it was opened, and its generation is at least the one that was got
pub record IsKnown (m : MetaView) (name : List ℕ) (o : Opened) : Type 0 where
  pub given : o.file < m.next_file
  pub named : (f : File) → file_of o.file m.files ≡ Some f → f.name ≡ name
  pub behind : (f : File) → file_of o.file m.files ≡ Some f → o.layout.generation ≤ f.layout.generation

-- where a lease of the file stands, the generation that was got is less than the file's
abbrev pub IsPassed : MetaView → Opened → Type 0
IsPassed m o = (f : File) (key : KeyView) → file_of o.file m.files ≡ Some f → key.file ≡ o.file → state_of m.leases key ≡ Held → o.layout.generation < f.layout.generation

-- what a write or a truncate knows of its open file
abbrev pub IsWritten : MetaView → List ℕ → Opened → Type 0
IsWritten m name o = IsKnown m name o × IsPassed m o

-- from open on, and up to its point where it writes, each call knows that of its file
abbrev pub Knows : MetaView → Running → Type 0
Knows m running.Idle = Unit {0}
Knows m (running.Read call) = IfSome (hand_of_read call).opened (IsKnown m call.name)
Knows m (running.Write call) = IfSome (hand_of_write call).opened (IsWritten m call.name)
Knows m (running.Truncate call) = IfSome (hand_of_truncate call).opened (IsWritten m call.name)
Knows m (running.Copy call) = Unit {0}
Knows m (running.Verify call) = IfSome (hand_of_verify call).opened (IsKnown m call.name)

-- the call of each client does
pub record Known (s : State) : Type 0 where
  pub calls : (c : ℕ) (client : Client) → client_at s.clients c ≡ Some client → Knows s.shared.meta client.call
