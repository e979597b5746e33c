-- The layouts of files after a run.
use Rattle.std.proofs.Common.{◌≡◌, ℕ, true, List, [], ◌∷◌, length}
use Rattle.std.specs.List.{AllByRecursion}
use Rattle.composite_layout.specs.LookUps.{mirror_ids, wholly_fresh}
use Rattle.layout_state.specs.Choosing.{has_fresh}
use Rattle.layout_state.proofs.MarkLaws.{passing}
use Rattle.meta_server.specs.Files.{File}
use Rattle.meta_server.specs.Sound.{IsSoundFile}
use Rattle.meta_laws.proofs.Runs.{fresh_files}
use Rattle.flr_steps.specs.States.{IsRun, State}
use Rattle.flr_numbers.specs.Laws.{LeaveRoom}
use Rattle.flr_numbers.proofs.Runs.{runs_hold}
use Rattle.flr_layouts.specs.Sentences.{IsSoundLayout}

-- a sound file that has a wholly fresh mirror has a sound layout
sound_layout : (f : File) → IsSoundFile f → has_fresh f.layout.components ≡ true → IsSoundLayout f.layout
sound_layout f sound fresh =
    let w = passing (λ (mirror : ℕ). wholly_fresh mirror f.layout.components) (mirror_ids f.layout.components) fresh in
    record { valid = sound.layout; mirror = w.0; fresh = w.2 }

sound_layouts : (files : List File) → AllByRecursion IsSoundFile files → AllByRecursion (λ (f : File). has_fresh f.layout.components ≡ true) files → AllByRecursion (λ (f : File). IsSoundLayout f.layout) files
sound_layouts [] sound fresh = tt
sound_layouts (f ∷ fs) sound fresh = (sound_layout f sound.0 fresh.0, sound_layouts fs sound.1 fresh.1)

pub runs_sound : (s : State) → IsRun s → LeaveRoom (length s.schedule) → AllByRecursion (λ (f : File). IsSoundLayout f.layout) s.shared.meta.files
runs_sound s run leave =
    let sound = (runs_hold s run leave).servers.sound in
    sound_layouts s.shared.meta.files sound.files (fresh_files s.shared.meta sound)
