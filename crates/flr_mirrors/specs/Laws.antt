-- What is claimed of every run.
use Rattle.std.specs.Prelude.{◌≡◌, ℕ, ◌≤◌, List, length, Some}
use Rattle.std.specs.List.{AllByRecursion}
use Rattle.composite_layout.specs.LookUps.{mirror_ids}
use Rattle.meta_server.specs.Files.{File}
use Rattle.mirror_verify.specs.Views.{VerifyView}
use Rattle.flr_steps.specs.declared.client.Client.{Client}
use Rattle.flr_steps.specs.declared.client.Running.TheVariants as running
use Rattle.flr_steps.specs.States.{IsRun, State, client_at}
use Rattle.flr_numbers.specs.Laws.{LeaveRoom}
use Rattle.flr_work.specs.Known.{KnownVerify, take_room}

-- no file has more mirrors than that
abbrev pub HaveFewMirrors : ℕ → List File → Type 0
HaveFewMirrors most files = AllByRecursion (λ (f : File). length (mirror_ids f.layout.components) ≤ most) files

-- after a run no file has more mirrors than the script lets it have, where no run that isn't longer wants room
abbrev pub FewMirrors : Type 0
FewMirrors = (s : State) → IsRun s → LeaveRoom (length s.schedule) → HaveFewMirrors s.script.most s.shared.meta.files

-- and the metadata server lets it have just as many
abbrev pub SameMost : Type 0
SameMost = (s : State) → IsRun s → LeaveRoom (length s.schedule) → s.shared.meta.most ≡ s.script.most

-- and a verify that takes copies has no more of them than the script makes room for
abbrev pub VerifiesAreShort : Type 0
VerifiesAreShort = (s : State) → IsRun s → LeaveRoom (length s.schedule) → (c : ℕ) (client : Client) (call : VerifyView) → client_at s.clients c ≡ Some client → client.call ≡ running.Verify call → KnownVerify (take_room s.script) call.at
