-- What the words of an answer, and of the lines that follow it, say.
use Rattle.std.specs.Prelude.{ℕ, if◌then◌else◌, List, [], ◌∷◌, Option, Some, None, option_and_then, codes}
use Rattle.std.specs.Option.{option_map}
use Rattle.std.specs.Str.{bytes_eq}
use Rattle.flr_base.specs.declared.reply.Diff.{Diff}
use Rattle.flr_base.specs.declared.reply.Range.{Range}
use Rattle.flr_base.specs.declared.reply.Reply.{Reply}
use Rattle.flr_base.specs.declared.reply.Reply.TheVariants as reply
use Rattle.flr_base.specs.declared.reply.Take.{Take}
use Rattle.text_words.specs.Bytes.{hex_byte}
use Rattle.text_words.specs.Pieces.{parts_of}
use Rattle.reply_read.specs.declared.answer.Answer.{Answer}
use Rattle.reply_read.specs.declared.answer.Answer.TheVariants as answers
use Rattle.reply_read.specs.Values.{number_16, number_32, number_64, client_in, end_in, name_in, bytes_in, call_in, ids_in, lefts_in, calls_in, from_in}

-- what the table says of the word, if anything
abbrev pub pick : {R : Type 0} → List ℕ → List (List ℕ × Option R) → Option R
pick verb [] = None
pick verb (entry ∷ table) = if bytes_eq verb entry.0 then entry.1 else pick verb table

-- the value behind the key
abbrev pub behind : {R : Type 0} → List ℕ → List ℕ → Option R → Option R
behind key word o = if bytes_eq word key then o else None

-- the first, or else the second
abbrev pub or_else : {R : Type 0} → Option R → Option R → Option R
or_else (Some x) o = Some x
or_else None o = o

abbrev pub whole : Option Reply → Option Answer
whole o = option_map (λ r. answers.Whole r) o

-- ---- answers of one word

abbrev pub one_table : List (List ℕ × Option Answer)
one_table =
    (codes "created", Some (answers.Whole reply.Created))
    ∷ (codes "layout", Some answers.Layout)
    ∷ (codes "set", Some (answers.Whole reply.Set))
    ∷ (codes "written", Some (answers.Whole reply.Written))
    ∷ (codes "truncated", Some (answers.Whole reply.Truncated))
    ∷ (codes "rotted", Some (answers.Whole reply.Rotted))
    ∷ (codes "toomanyfiles", Some (answers.Whole reply.TooManyFiles))
    ∷ (codes "toobig", Some (answers.Whole reply.TooBig))
    ∷ (codes "toomanymirrors", Some (answers.Whole reply.TooManyMirrors))
    ∷ (codes "toomanycomponents", Some (answers.Whole reply.TooManyComponents))
    ∷ (codes "noobject", Some (answers.Whole reply.NoObject))
    ∷ []

unfoldable pub one_of : List ℕ → Option Answer
one_of verb = pick verb one_table

-- ---- answers of two words

abbrev pub plain_table : List ℕ → List (List ℕ × Option Reply)
plain_table a =
    (codes "removed", option_map (λ n. reply.Removed n) (number_16 a))
    ∷ (codes "evicted", option_map (λ n. reply.EvictedClient n) (client_in a))
    ∷ (codes "same", option_map (λ n. reply.Same n) (number_32 a))
    ∷ (codes "alloffline", option_map (λ n. reply.AllOffline n) (number_64 a))
    ∷ (codes "failed", option_map (λ c. reply.WriteFault c) (call_in a))
    ∷ (codes "busy", option_map (λ n. reply.Busy n) (client_in a))
    ∷ (codes "lastfresh", option_map (λ n. reply.LastFresh n) (number_16 a))
    ∷ (codes "stalemirror", option_map (λ n. reply.StaleMirror n) (number_16 a))
    ∷ (codes "nomirror", option_map (λ n. reply.NoMirrorId n) (number_16 a))
    ∷ (codes "nocomponent", option_map (λ n. reply.NoComponent n) (number_32 a))
    ∷ (codes "copyfailed", option_map (λ c. reply.CopyFault c) (call_in a))
    ∷ (codes "verifyfailed", option_map (λ c. reply.VerifyFault c) (call_in a))
    ∷ []

unfoldable pub plain_two : List ℕ → List ℕ → Option Reply
plain_two verb a = pick verb (plain_table a)

abbrev pub owned_table : List ℕ → List (List ℕ × Option Answer)
owned_table a =
    (codes "split", option_map (λ n. answers.Whole (reply.Split n)) (name_in 141 a))
    ∷ (codes "exists", option_map (λ n. answers.Whole (reply.Exists n)) (name_in 141 a))
    ∷ (codes "nofile", option_map (λ n. answers.Whole (reply.NoFile n)) (name_in 128 a))
    ∷ (codes "merged", option_map (λ ids. answers.Whole (reply.Merged ids)) (ids_in a))
    ∷ (codes "bytes", option_map (λ bytes. answers.Bytes bytes) (bytes_in a))
    ∷ (codes "differ", option_map (λ n. answers.Differ n) (number_32 a))
    ∷ []

unfoldable pub owned_two : List ℕ → List ℕ → Option Answer
owned_two verb a = pick verb (owned_table a)

abbrev pub two_of : List ℕ → List ℕ → Option Answer
two_of verb a = or_else (whole (plain_two verb a)) (owned_two verb a)

-- ---- answers of more words

abbrev pub no_primary : List ℕ → List ℕ → Option Reply
no_primary a b = option_and_then (λ start. option_map (λ end. reply.NoPrimary (record { start = start; end = end })) (end_in b)) (number_64 a)

abbrev pub sizes : List ℕ → List ℕ → Option Reply
sizes a b = option_and_then (λ ours. option_map (λ theirs. reply.Sizes ours theirs) (number_64 b)) (number_64 a)

abbrev pub three_table : List ℕ → List ℕ → List (List ℕ × Option Reply)
three_table a b =
    (codes "noprimary", no_primary a b)
    ∷ (codes "evicted", behind (codes "at") a (option_map (λ n. reply.Evicted n) (number_32 b)))
    ∷ (codes "broken", behind (codes "at") a (option_map (λ n. reply.Broken n) (number_32 b)))
    ∷ (codes "sizes", sizes a b)
    ∷ []

unfoldable pub three_of : List ℕ → List ℕ → List ℕ → Option Reply
three_of verb a b = pick verb (three_table a b)

abbrev pub fault : List ℕ → List ℕ → Option Reply
fault a c = option_and_then (λ byte. option_map (λ calls. reply.Fault byte calls) (calls_in c)) (number_64 a)

abbrev pub four_of : List ℕ → List ℕ → List ℕ → List ℕ → Option Reply
four_of verb a b c = behind (codes "fault") verb (behind (codes "by") b (fault a c))

abbrev pub copied : List ℕ → List ℕ → Option Reply
copied b d = option_and_then (λ cleared. option_map (λ left. reply.Copied cleared left) (lefts_in d)) (ids_in b)

abbrev pub differ_at : List ℕ → List ℕ → List ℕ → Option Reply
differ_at b c d = option_and_then (λ offset. option_and_then (λ ours. option_map (λ theirs. reply.DifferAt offset ours theirs) (hex_byte d)) (hex_byte c)) (number_64 b)

abbrev pub five_table : List ℕ → List ℕ → List ℕ → List ℕ → List (List ℕ × Option Reply)
five_table a b c d =
    (codes "copied", behind (codes "cleared") a (behind (codes "left") c (copied b d)))
    ∷ (codes "differs", behind (codes "at") a (differ_at b c d))
    ∷ []

abbrev pub five_of : List ℕ → List ℕ → List ℕ → List ℕ → List ℕ → Option Reply
five_of verb a b c d = pick verb (five_table a b c d)

-- an answer of four words and what stands behind them
abbrev pub long_of : List ℕ → List ℕ → List ℕ → List ℕ → List (List ℕ) → Option Reply
long_of verb a b c [] = four_of verb a b c
long_of verb a b c (d ∷ []) = five_of verb a b c d
long_of verb a b c (d ∷ e ∷ more) = None

-- the answer that the words say
abbrev pub answer_of : List (List ℕ) → Option Answer
answer_of [] = None
answer_of (verb ∷ []) = one_of verb
answer_of (verb ∷ a ∷ []) = two_of verb a
answer_of (verb ∷ a ∷ b ∷ []) = whole (three_of verb a b)
answer_of (verb ∷ a ∷ b ∷ c ∷ more) = whole (long_of verb a b c more)

-- ---- lines that follow

abbrev pub range_in : List ℕ → List ℕ → Option Range
range_in a b = option_and_then (λ start. option_map (λ end. record { start = start; end = end }) (number_64 b)) (number_64 a)

unfoldable pub take_in : List ℕ → List ℕ → List ℕ → List ℕ → Option Take
take_in a b c d = option_and_then (λ range. option_and_then (λ component. option_map (λ from. record { range = range; component = component; from = from }) (from_in d)) (number_32 c)) (range_in a b)

abbrev pub take_words : List (List ℕ) → Option Take
take_words (verb ∷ a ∷ b ∷ c ∷ d ∷ []) = behind (codes "take") verb (take_in a b c d)
take_words _ = None

-- the piece of a read that the line says
unfoldable pub take_of : List ℕ → Option Take
take_of line = take_words (parts_of 32 line)

abbrev pub two_bytes : List ℕ → List ℕ → Option (ℕ × ℕ)
two_bytes a b = option_and_then (λ ours. option_map (λ theirs. (ours, theirs)) (hex_byte b)) (hex_byte a)

abbrev pub two_ids : List ℕ → List ℕ → Option (ℕ × ℕ)
two_ids a b = option_and_then (λ first. option_map (λ second. (first, second)) (number_32 b)) (number_32 a)

unfoldable pub diff_in : List ℕ → List ℕ → List ℕ → List ℕ → List ℕ → Option Diff
diff_in a b c d e = option_and_then (λ ids. option_and_then (λ offset. option_map (λ bytes. record { first = ids.0; second = ids.1; offset = offset; ours = bytes.0; theirs = bytes.1 }) (two_bytes d e)) (number_64 c)) (two_ids a b)

abbrev pub diff_words : List (List ℕ) → Option Diff
diff_words (verb ∷ a ∷ b ∷ c ∷ d ∷ e ∷ []) = behind (codes "differ") verb (diff_in a b c d e)
diff_words _ = None

-- the difference that the line says
unfoldable pub diff_of : List ℕ → Option Diff
diff_of line = diff_words (parts_of 32 line)
