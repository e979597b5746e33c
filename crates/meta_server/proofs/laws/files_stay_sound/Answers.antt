-- A change of one file, and the files beside it.
use Rattle.meta_server.proofs.SoundFiles.{copied_changed, files_changed}
use Rattle.meta_server.proofs.laws.files_stay_sound.Goals as goal

pub returns-clause-changed : goal.returns-clause-changed
returns-clause-changed c = files_changed

pub returns-clause-copied : goal.returns-clause-copied
returns-clause-copied c = copied_changed
