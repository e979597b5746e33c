-- The command line, as `clap` reads it.
use Rattle.std.specs.Prelude.{◌==◌, Bool, true, false, [], ◌∷◌, codes}
use Rattle.clap.specs.Walk.{Rule, Text}
use Rattle.clap.specs.Simple.{App, new_app, new_rule, new_shape, on_top, with_rule, with_subcommand}

-- the word begins with a hyphen
abbrev pub is_flag : Text → Bool
is_flag [] = false
is_flag (c ∷ cs) = c == 45

-- a word that has to be there
abbrev pub wanted : Text → Rule
wanted id = record (new_rule id) { required = true }

-- soak SEED CLIENTS CALLS
abbrev pub soak : App
soak = with_rule (with_rule (with_rule (new_app (codes "soak")) (wanted (codes "seed"))) (wanted (codes "clients"))) (wanted (codes "calls"))

-- random SEED
abbrev pub random : App
random = with_rule (new_app (codes "random")) (wanted (codes "seed"))

-- the words behind a program's name, of which the first names a form; nothing asks for help
abbrev pub bare : App
bare = on_top (λ s. record s {
  no_binary_name = true;
  disable_help_flag = true;
  disable_help_subcommand = true;
  subcommand_required = true;
}) (new_app (codes "flr"))

-- a form for each call
abbrev pub command_line : App
command_line = with_subcommand (with_subcommand (with_subcommand (with_subcommand (with_subcommand bare (new_shape (codes "run"))) (new_shape (codes "replay"))) (new_shape (codes "migrate"))) soak.top) random.top
