-- How a file is opened, for a read, a write or a truncate.
use Rattle.std.specs.Prelude.{ℕ, Bool, true, false, nat_lt, Option, Some, None, List}
use Rattle.flr_base.specs.Limits.{most_bytes}
use Rattle.flr_base.specs.declared.reply.Range.{Range}
use Rattle.flr_base.specs.declared.reply.Reply.TheVariants as reply
use Rattle.composite_layout.specs.Choices.{is_ready}
use Rattle.composite_layout.specs.Layouts.{eof}
use Rattle.layout_lease.specs.Shares.{cookie_for, lowest_but}
use Rattle.layout_state.specs.Choosing.{is_over, primary_of}
use Rattle.meta_server.specs.declared.answers.Opened.{Opened}
use Rattle.meta_server.specs.Files.{File, MetaView, file_named, with_break, with_change, with_layout, with_share}
use Rattle.meta_server.specs.Layouts.{intended, nexts_over}
use Rattle.meta_server.specs.Outcomes.{Outcome, Gives, Refuses, Waits}

-- what a client gets that shares the layout lock of a file
abbrev pub opened : ℕ → File → Opened
opened client f = record { file = f.number; cookie = cookie_for client f.lock; layout = f.layout; size = f.size }

-- the client shares the file's layout lock
abbrev pub shares : ℕ → File → MetaView → Outcome Opened
shares client f m = Gives (opened client f) (with_change f.number (with_share client) m)

-- a write's intent: the file's layout is readied for the range, its new objects are made, and its lease is broken
abbrev pub with_intent : Range → ℕ → ℕ → File → MetaView → MetaView
with_intent range mirror step f m = record (with_break f.number step (intended range mirror f.number m.nexts f.layout) m) { nexts = nexts_over (is_over range mirror) f.number m.nexts f.layout }

-- ---- a read

abbrev pub read_opens_file : ℕ → List ℕ → MetaView → Option File → Outcome Opened
read_opens_file client name m None = Refuses (reply.NoFile name)
read_opens_file client name m (Some f) = shares client f m

-- a client opens the file of this name for a read
abbrev pub read_opens : ℕ → List ℕ → MetaView → Outcome Opened
read_opens client name m = read_opens_file client name m (file_named name m.files)

-- ---- a write or a truncate of the range, at this step

module _ (client : ℕ) (range : Range) (step : ℕ) (m : MetaView) where
  -- the intent is made where nobody else holds the layout lock
  abbrev pub intends : File → ℕ → Option ℕ → Outcome Opened
  intends f mirror (Some holder) = Waits holder
  intends f mirror None =
      shares client (with_layout (intended range mirror f.number m.nexts f.layout) f) (with_intent range mirror step f m)

  -- an intent goes to the primary
  abbrev pub intends_to : File → Option ℕ → Outcome Opened
  intends_to f None = Refuses (reply.NoPrimary range)
  intends_to f (Some mirror) = intends f mirror (lowest_but client f.lock)

  -- a range that is ready needs no intent
  abbrev pub readies : File → Bool → Outcome Opened
  readies f true = shares client f m
  readies f false = intends_to f (primary_of range f.layout.components)

  -- no file may become too big
  abbrev pub limits : File → Bool → Outcome Opened
  limits f true = Refuses reply.TooBig
  limits f false = readies f (is_ready f.layout range)

  abbrev pub change_opens_file : List ℕ → Bool → Option File → Outcome Opened
  change_opens_file name too_big None = Refuses (reply.NoFile name)
  change_opens_file name too_big (Some f) = limits f too_big

-- a client opens the file of this name for a write of the range
abbrev pub write_opens : ℕ → List ℕ → Range → ℕ → MetaView → Outcome Opened
write_opens client name range step m = change_opens_file client range step m name (nat_lt most_bytes range.end) (file_named name m.files)

-- a client opens the file of this name to truncate it to this size
abbrev pub cut_opens : ℕ → List ℕ → ℕ → ℕ → MetaView → Outcome Opened
cut_opens client name size step m =
    change_opens_file client (record { start = size; end = eof }) step m name (nat_lt most_bytes size) (file_named name m.files)
