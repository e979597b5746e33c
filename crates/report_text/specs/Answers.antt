-- The text of an answer: its words, and the lines that follow.
use Rattle.std.specs.Prelude.{ℕ, ◌<◌, ◌^◌, List, [], ◌∷◌, ◌++◌, length, map, codes}
use Rattle.std.specs.Fmt.{decimal}
use Rattle.flr_base.specs.Runs.{hex, text_of_bytes}
use Rattle.flr_base.specs.declared.reply.Diff.{Diff}
use Rattle.flr_base.specs.declared.reply.Reply.{Reply}
use Rattle.flr_base.specs.declared.reply.Reply.TheVariants as reply
use Rattle.flr_base.specs.declared.reply.Take.{Take}
use Rattle.flr_base.specs.declared.reply.TakeFrom.{TakeFrom}
use Rattle.flr_base.specs.declared.reply.TakeFrom.TheVariants.{Hole, Object}
use Rattle.text_words.specs.Items.{call_text, left_text, object_text}
use Rattle.text_words.specs.Lines.{text_of}
use Rattle.text_words.specs.Lists.{list_text}
use Rattle.text_words.specs.Sizes.{end_text}
use Rattle.text_words.specs.Words.{spaced}

-- the words of an answer
abbrev pub reply_words : Reply → List (List ℕ)
reply_words reply.Created = codes "created" ∷ []
reply_words (reply.Layout text) = codes "layout" ∷ []
reply_words reply.Set = codes "set" ∷ []
reply_words (reply.Split name) = codes "split" ∷ name ∷ []
reply_words (reply.Removed id) = codes "removed" ∷ decimal id ∷ []
reply_words (reply.EvictedClient client) = codes "evicted" ∷ decimal client ∷ []
reply_words (reply.Bytes bytes) = codes "bytes" ∷ text_of_bytes bytes ∷ []
reply_words reply.Written = codes "written" ∷ []
reply_words reply.Truncated = codes "truncated" ∷ []
reply_words (reply.Copied cleared left) = codes "copied" ∷ codes "cleared" ∷ list_text decimal cleared ∷ codes "left" ∷ list_text left_text left ∷ []
reply_words (reply.Merged ids) = codes "merged" ∷ list_text decimal ids ∷ []
reply_words (reply.Same blocks) = codes "same" ∷ decimal blocks ∷ []
reply_words (reply.Differ diffs) = codes "differ" ∷ decimal (length diffs) ∷ []
reply_words reply.Rotted = codes "rotted" ∷ []
reply_words (reply.NoFile name) = codes "nofile" ∷ name ∷ []
reply_words (reply.Exists name) = codes "exists" ∷ name ∷ []
reply_words reply.TooManyFiles = codes "toomanyfiles" ∷ []
reply_words reply.TooBig = codes "toobig" ∷ []
reply_words (reply.NoPrimary range) = codes "noprimary" ∷ decimal range.start ∷ end_text (codes "EOF") range.end ∷ []
reply_words (reply.AllOffline byte) = codes "alloffline" ∷ decimal byte ∷ []
reply_words (reply.Fault byte calls) = codes "fault" ∷ decimal byte ∷ codes "by" ∷ list_text call_text calls ∷ []
reply_words (reply.WriteFault call) = codes "failed" ∷ call_text call ∷ []
reply_words (reply.Evicted place) = codes "evicted" ∷ codes "at" ∷ decimal place ∷ []
reply_words (reply.Busy client) = codes "busy" ∷ decimal client ∷ []
reply_words (reply.Broken place) = codes "broken" ∷ codes "at" ∷ decimal place ∷ []
reply_words (reply.LastFresh id) = codes "lastfresh" ∷ decimal id ∷ []
reply_words (reply.StaleMirror id) = codes "stalemirror" ∷ decimal id ∷ []
reply_words (reply.NoMirrorId id) = codes "nomirror" ∷ decimal id ∷ []
reply_words (reply.NoComponent id) = codes "nocomponent" ∷ decimal id ∷ []
reply_words reply.TooManyMirrors = codes "toomanymirrors" ∷ []
reply_words reply.TooManyComponents = codes "toomanycomponents" ∷ []
reply_words (reply.DifferAt offset ours theirs) = codes "differs" ∷ codes "at" ∷ decimal offset ∷ hex ours ∷ hex theirs ∷ []
reply_words (reply.Sizes ours theirs) = codes "sizes" ∷ decimal ours ∷ decimal theirs ∷ []
reply_words (reply.CopyFault call) = codes "copyfailed" ∷ call_text call ∷ []
reply_words (reply.VerifyFault call) = codes "verifyfailed" ∷ call_text call ∷ []
reply_words reply.NoObject = codes "noobject" ∷ []

-- where the bytes of a piece came from: a hole, or a read of an object by its call
abbrev pub from_text : TakeFrom → List ℕ
from_text Hole = codes "hole"
from_text (Object object call) = object_text object ++ 64 ∷ decimal call

-- the line of a piece of a read, as it was asked for: before the cut at the size
abbrev pub take_line : Take → List ℕ
take_line t = spaced (codes "take" ∷ decimal t.range.start ∷ decimal t.range.end ∷ decimal t.component ∷ from_text t.from ∷ [])

-- the line of a difference
abbrev pub diff_line : Diff → List ℕ
diff_line d = spaced (codes "differ" ∷ decimal d.first ∷ decimal d.second ∷ decimal d.offset ∷ hex d.ours ∷ hex d.theirs ∷ [])

-- the lines that follow an answer: a layout's text, a read's takes, a verify's differences
abbrev pub following_text : Reply → List Take → List ℕ
following_text (reply.Layout text) takes = text
following_text (reply.Bytes bytes) takes = text_of (map take_line takes)
following_text (reply.Differ diffs) takes = text_of (map diff_line diffs)
following_text other takes = []

-- an answer is printed where its bytes are few enough to be spelled
abbrev pub IsPrintable : Reply → Type 0
IsPrintable (reply.Bytes bytes) = length bytes < 2 ^ 32
IsPrintable other = Unit {0}
