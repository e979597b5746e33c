-- What lines have said so far, by their words.
use Rattle.std.specs.Prelude.{◌≡◌, ℕ, ◌<◌, ◌^◌, List, [], ◌∷◌, ◌++◌, codes, min}
use Rattle.std.specs.Fmt.{decimal}
use Rattle.script_values.specs.declared.command.Command.{Command}
use Rattle.script_values.specs.declared.command.Command.TheVariants as commands
use Rattle.script_values.specs.Commands.{IsCommand}
use Rattle.script_values.specs.Scripts.{ScriptView}
use Rattle.script_text.specs.declared.state.Version.{Version}
use Rattle.script_text.specs.declared.state.Version.TheVariants as versions
use Rattle.script_text.specs.declared.state.Head.{Head}
use Rattle.script_text.specs.declared.state.Body.{Body}
use Rattle.script_text.specs.declared.state.State.{State}
use Rattle.script_text.specs.declared.state.State.TheVariants as state
use Rattle.script_text.specs.Grammar.{IsCommandLine, number_words, AreClientLines, IsHeadOfOne, IsHeadOfTwo}

-- the words spell the command, and it is within its limits; which clients there are isn't known yet, so an eviction may be of any number
abbrev pub Heard : ℕ → ℕ → List (List ℕ) → Command → Type 0
Heard targets most words (commands.Evict client) = (n : ℕ) × (n < 2 ^ 64) × (words ≡ codes "evict" ∷ decimal n ∷ []) × (client ≡ min n 255)
Heard targets most words command = IsCommandLine most words command × IsCommand most targets 16 command

-- the number of a version
abbrev pub version_number : Version → ℕ
version_number versions.One = 1
version_number versions.Two = 2

-- a head, and no client
abbrev pub head_view : Head → ScriptView
head_view head = record { most = head.most; targets = head.targets; fails = head.fails; clients = [] }

-- the lines are those before the clients
abbrev pub HeadSaid : Version → Head → List (List (List ℕ)) → Type 0
HeadSaid versions.One head lines = IsHeadOfOne (head_view head) lines
HeadSaid versions.Two head lines = IsHeadOfTwo (head_view head) lines

-- the lines are a head and, behind it, those of one or more clients
pub record BodySaid (body : Body) (lines : List (List (List ℕ))) : Type 0 where
  pub front : List (List (List ℕ))
  pub back : List (List (List ℕ))
  pub whole : lines ≡ front ++ back
  pub head : HeadSaid body.head.version body.head front
  pub clients : AreClientLines (Heard body.head.targets body.head.most) 1 back (body.done ++ body.own ∷ [])

-- the lines say this and no more
abbrev pub Stands : State → List (List (List ℕ)) → Type 0
Stands state.Start lines = lines ≡ []
Stands (state.Version version) lines = lines ≡ number_words (codes "flr-script") (version_number version) ∷ []
Stands (state.Targets targets) lines = lines ≡ number_words (codes "flr-script") 2 ∷ number_words (codes "targets") targets ∷ []
Stands (state.Fails head) lines = HeadSaid head.version head lines
Stands (state.Commands body) lines = BodySaid body lines
