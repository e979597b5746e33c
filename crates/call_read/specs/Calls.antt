-- The lines of one call.
use Rattle.std.specs.Prelude.{◌≡◌, ℕ, List, [], ◌++◌, length}
use Rattle.std.specs.List.{AllByRecursion}
use Rattle.flr_base.specs.declared.reply.Entry.{Entry}
use Rattle.flr_base.specs.declared.reply.Reply.{Reply}
use Rattle.flr_base.specs.declared.reply.Reply.TheVariants as reply
use Rattle.flr_base.specs.declared.reply.Take.{Take}
use Rattle.text_words.specs.Lines.{lines_of}
use Rattle.composite_layout.specs.Layouts.{Composite}
use Rattle.layout_text.specs.Spelling.{Spells}
use Rattle.layout_text.specs.declared.error.TextError.{TextError}
use Rattle.layout_text.specs.declared.error.TextError.TheVariants.{Bad, NoMemory}
use Rattle.script_values.specs.Commands.{IsCommandAlone}
use Rattle.report_text.specs.declared.report.Call.{Call}
use Rattle.report_text.specs.Texts.{text_of_call}
use Rattle.reply_read.specs.declared.answer.Answer.{Answer}
use Rattle.reply_read.specs.declared.answer.Answer.TheVariants as answers
use Rattle.reply_read.specs.Limits.{Has32, AreBytes, IsShort, IsTake, IsDiff}
use Rattle.call_read.specs.declared.head.Head.{Head}
use Rattle.call_read.specs.declared.head.Places.{Places}
use Rattle.call_read.specs.Heads.{ArePlaces}
use Rattle.call_read.specs.Following.{Lines, HasNoMore}

-- what an answer says in its own line
abbrev pub answer_from : Reply → Answer
answer_from (reply.Layout text) = answers.Layout
answer_from (reply.Bytes bytes) = answers.Bytes bytes
answer_from (reply.Differ diffs) = answers.Differ (length diffs)
answer_from r = answers.Whole r

-- an answer and the pieces of a read, within the limits of a report: a layout's text is that of a valid layout, and
-- there are pieces behind bytes alone
abbrev pub IsReply : Reply → List Take → Type 0
IsReply (reply.Layout text) ts = ((l : Composite) × Spells text l) × (ts ≡ [])
IsReply (reply.Bytes bytes) ts = AreBytes bytes × AllByRecursion IsTake ts
IsReply (reply.Differ diffs) ts = (Has32 (length diffs) × AllByRecursion IsDiff diffs) × (ts ≡ [])
IsReply r ts = IsShort r × (ts ≡ [])

abbrev pub places_at : Entry → Places
places_at e = record { client = e.client; number = e.number; first = e.first; at = e.at; last = e.last }

-- a call within the limits of a report
pub record IsReadable (c : Call) : Type 0 where
  pub places : ArePlaces (places_at c.entry)
  pub command : IsCommandAlone 32 c.command
  pub reply : IsReply c.entry.reply c.entry.takes

-- the lines are those of a call
abbrev pub AreCallLines : Lines → Type 0
AreCallLines ys = (c : Call) × IsReadable c × (ys ≡ lines_of (text_of_call c.entry c.command))

-- the lines of the call stand first, as many as there are, and the rest behind them
pub record IsFront (text : List ℕ) (c : Call) (rest : List ℕ) : Type 0 where
  pub readable : IsReadable c
  pub parts : text ≡ text_of_call c.entry c.command ++ rest
  pub longest : HasNoMore (answer_from c.entry.reply) rest

abbrev pub IsNoMemory : TextError → Type 0
IsNoMemory (Bad line) = ⊥
IsNoMemory NoMemory = Unit {0}

-- a call with this head, and what its answer becomes
abbrev pub call_at : Head → Reply → List Take → Call
call_at h q ts = record {
  entry = record { client = h.places.client; number = h.places.number; first = h.places.first; at = h.places.at; last = h.places.last; reply = q; takes = ts };
  command = h.command;
}
