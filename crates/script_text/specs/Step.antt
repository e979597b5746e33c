-- One more line of a script: which lines may stand behind those before it, and what each adds.
use Rattle.std.specs.Prelude.{ℕ, ◌+◌, nat_lt, if◌then◌else◌, List, [], ◌∷◌, ◌++◌, length, Bool, true, false, Result, Ok, Err}
use Rattle.text_words.specs.Pieces.{words_of}
use Rattle.lfs_values.specs.declared.cause.Cause.TheVariants as causes
use Rattle.lfs_words.specs.Parts.{◌>>=◌}
use Rattle.object_target.specs.declared.fail.Fail.{Fail}
use Rattle.script_values.specs.declared.command.Command.{Command}
use Rattle.script_values.specs.declared.what.What.TheVariants as what
use Rattle.script_text.specs.declared.error.LineError.{LineError}
use Rattle.script_text.specs.declared.error.LineError.TheVariants as faults
use Rattle.script_text.specs.declared.lead.Verb.{Verb}
use Rattle.script_text.specs.declared.lead.Lead.{Lead}
use Rattle.script_text.specs.declared.lead.Lead.TheVariants as leads
use Rattle.script_text.specs.declared.state.Version.{Version}
use Rattle.script_text.specs.declared.state.Version.TheVariants as versions
use Rattle.script_text.specs.declared.state.Head.{Head}
use Rattle.script_text.specs.declared.state.Body.{Body}
use Rattle.script_text.specs.declared.state.State.{State}
use Rattle.script_text.specs.declared.state.State.TheVariants as state
use Rattle.script_text.specs.Answers.{bad}
use Rattle.script_text.specs.Leads.{lead_of, is_comment, unplaced}
use Rattle.script_text.specs.TextLines.{Line, is_text}
use Rattle.script_text.specs.CommandLines.{command_by}
use Rattle.script_text.specs.HeadLines.{version_line, targets_line, mirrors_line, client_line, fail_line}

-- the version has lines `mirrors`
abbrev pub knows_mirrors : Version → Bool
knows_mirrors versions.One = false
knows_mirrors versions.Two = true

-- the head before its first line `fail`
abbrev pub bare_head : Version → ℕ → ℕ → Head
bare_head version targets most = record { version = version; targets = targets; most = most; fails = [] }

-- what stands behind the line `targets`: in version 1 a file may have 16 mirrors, in version 2 the line `mirrors` says how many
abbrev pub counted : Version → ℕ → State
counted versions.One targets = state.Fails (bare_head versions.One targets 16)
counted versions.Two targets = state.Targets targets

abbrev pub with_fails : Head → List Fail → Head
with_fails head fails = record head { fails = fails }

-- the first client, without commands
abbrev pub first_client : Head → Body
first_client head = record { head = head; done = []; own = []; commands = 0 }

-- the next client, without commands
abbrev pub next_client : Body → Body
next_client body = record { head = body.head; done = body.done ++ body.own ∷ []; own = []; commands = body.commands }

-- one more command of the client
abbrev pub with_command : Body → Command → Body
with_command body command = record { head = body.head; done = body.done; own = body.own ++ command ∷ []; commands = body.commands + 1 }

-- how many clients there are
abbrev pub count_of : Body → ℕ
count_of body = length body.done + 1

abbrev pub few_clients : ℕ → Result (Unit {0}) LineError
few_clients before = if nat_lt before 16 then Ok tt else Err (faults.TooMany what.Clients)

abbrev pub few_commands : ℕ → Result (Unit {0}) LineError
few_commands before = if nat_lt before 4096 then Ok tt else Err (faults.TooMany what.Commands)

-- behind nothing
abbrev pub behind_start : Lead → List (List ℕ) → Result State LineError
behind_start leads.Script words = version_line words >>= λ version. Ok (state.Version version)
behind_start lead words = Err (unplaced true lead)

-- behind the line `flr-script`
abbrev pub behind_version : Version → Lead → List (List ℕ) → Result State LineError
behind_version version leads.Targets words = targets_line words >>= λ targets. Ok (counted version targets)
behind_version version lead words = Err (unplaced (knows_mirrors version) lead)

-- behind the line `targets` of version 2
abbrev pub behind_targets : ℕ → Lead → List (List ℕ) → Result State LineError
behind_targets targets leads.Mirrors words = mirrors_line words >>= λ most. Ok (state.Fails (bare_head versions.Two targets most))
behind_targets targets lead words = Err (unplaced true lead)

-- before the first line `client`
abbrev pub behind_head : Head → Lead → List (List ℕ) → Result State LineError
behind_head head leads.Fail words = fail_line head.version head.targets head.fails words >>= λ fails. Ok (state.Fails (with_fails head fails))
behind_head head leads.Client words = client_line 1 words >>= λ _. Ok (state.Commands (first_client head))
behind_head head lead words = Err (unplaced (knows_mirrors head.version) lead)

-- a line `client` behind another
abbrev pub client_behind : Body → List (List ℕ) → Result State LineError
client_behind body words = few_clients (count_of body) >>= λ _. client_line (count_of body + 1) words >>= λ _. Ok (state.Commands (next_client body))

-- a line of a command, of all these words
abbrev pub command_behind : Body → Verb → List (List ℕ) → List (List ℕ) → Result State LineError
command_behind body verb words behind =
    few_commands body.commands >>= λ _. command_by body.head.targets body.head.most verb words behind >>= λ command. Ok (state.Commands (with_command body command))

-- behind a line `client`
abbrev pub behind_client : Body → Lead → List (List ℕ) → List (List ℕ) → Result State LineError
behind_client body leads.Client words behind = client_behind body behind
behind_client body (leads.Command verb) words behind = command_behind body verb words behind
behind_client body lead words behind = Err (unplaced (knows_mirrors body.head.version) lead)

-- a line of words of which the first begins this
abbrev pub said : State → Lead → List (List ℕ) → List (List ℕ) → Result State LineError
said state.Start lead words behind = behind_start lead behind
said (state.Version version) lead words behind = behind_version version lead behind
said (state.Targets targets) lead words behind = behind_targets targets lead behind
said (state.Fails head) lead words behind = behind_head head lead behind
said (state.Commands body) lead words behind = behind_client body lead words behind

-- a line by its words: one of no words is skipped, and so is a comment
abbrev pub words_line : State → List (List ℕ) → Result State LineError
words_line s [] = Ok s
words_line s (word ∷ words) = if is_comment word then Ok s else said s (lead_of word) (word ∷ words) words

-- every line has an end and is text
abbrev pub as_text : Line → Result (Unit {0}) LineError
as_text line = if line.ended then (if is_text line.text then Ok tt else bad causes.NotText) else bad causes.NoNewline

-- one more line
unfoldable pub line_of : State → Line → Result State LineError
line_of s line = as_text line >>= λ _. words_line s (words_of line.text)
