-- What a write or a truncate answers is what plain files allow.
use Rattle.std.proofs.Common.{◌≡◌, ℕ, ◌+◌, ◌≤◌, Bool, true, false, IfSome, Option, Some, None, List, length, refl}
use Rattle.std.specs.Prelude.{nat_lt}
use Rattle.std.proofs.lemmas.Bool.{ltb-true}
use Rattle.flr_base.specs.declared.reply.Range.{Range}
use Rattle.flr_base.specs.declared.reply.Reply.{Reply}
use Rattle.flr_base.specs.declared.reply.Reply.TheVariants as reply
use Rattle.composite_layout.specs.Choices.{is_ready}
use Rattle.composite_layout.specs.Layouts.{eof}
use Rattle.extent_lock.specs.Extents.{blocker}
use Rattle.layout_lease.specs.Shares.{lowest_but}
use Rattle.layout_state.specs.Choosing.{primary_of}
use Rattle.meta_server.specs.declared.answers.Opened.{Opened}
use Rattle.meta_server.specs.Closing.{is_there}
use Rattle.meta_server.specs.Files.{File, MetaView, file_named, file_of}
use Rattle.flr_base.specs.Limits.{most_bytes}
use Rattle.meta_server.specs.Opening.{change_opens_file, cut_opens, intends, intends_to, limits, readies, write_opens}
use Rattle.meta_server.specs.Outcomes.{Gives, Refuses, Waits}
use Rattle.meta_server.specs.Outcomes as meta
use Rattle.meta_server.specs.Sound.{IsSound}
use Rattle.call_steps.specs.Pieces.{piece_at}
use Rattle.call_steps.specs.Servers.{Servers}
use Rattle.client_write.specs.declared.phase.CutAt.{CutAt}
use Rattle.client_write.specs.declared.phase.CutAt.TheVariants as cut
use Rattle.client_write.specs.declared.phase.Sent.{Sent}
use Rattle.client_write.specs.declared.phase.Sent.TheVariants as sent
use Rattle.client_write.specs.declared.phase.WriteAt.{WriteAt}
use Rattle.client_write.specs.declared.phase.WriteAt.TheVariants as write
use Rattle.client_write.specs.Calls.{TruncateView, WriteView}
use Rattle.client_write.specs.CutFitting.{IsSoundCutAt}
use Rattle.client_write.specs.Fitting.{IsSoundAt}
use Rattle.client_write.specs.Truncates.{commits_cut, cut_reply, first_blocker, locks_for, locks_tails, opens_cut, truncate_at}
use Rattle.client_write.specs.Views.{CuttingView, WritingView}
use Rattle.client_write.specs.Writes as writes
use Rattle.client_write.specs.Writes.{commits_write, opens, range_of, write_at}
use Rattle.plain_files.specs.Effects.{AllowsTruncate, AllowsWrite}
use Rattle.plain_files.specs.Files.{IsPresent, Plain}
use Rattle.flr_numbers.specs.Calls.{cut_hand, write_hand}
use Rattle.flr_behind.specs.Sentences.{IsKnown, IsWritten}
use Rattle.flr_bytes.specs.Files.{AreSized}
use Rattle.flr_honest.proofs.Closing.Files.{some_file}
use Rattle.flr_honest.specs.Legal.Sentences.{IfFixed}
use Rattle.flr_honest.proofs.Legal.Files.{absent, numbered_present, present}

-- ---- opens

-- where an open is refused, the answer passes the test
abbrev MayOpen : (Reply → Type 0) → meta.Outcome Opened → Type 0
MayOpen may (Gives o after) = Unit {0}
MayOpen may (Refuses answer) = may answer
MayOpen may (Waits holder) = Unit {0}

-- the test allows each refusal of an open where it comes
record AllowsOpen (may : Reply → Type 0) (m : MetaView) (name : List ℕ) (range : Range) (big : Bool) : Type 0 where
  none : file_named name m.files ≡ None → may (reply.NoFile name)
  too_big : (f : File) → file_named name m.files ≡ Some f → big ≡ true → may reply.TooBig
  no_primary : (f : File) → file_named name m.files ≡ Some f → may (reply.NoPrimary range)

module _ (may : Reply → Type 0) (m : MetaView) (client : ℕ) (name : List ℕ) (range : Range) (step : ℕ) (big : Bool) (a : AllowsOpen may m name range big) where
  intends_by : (f : File) (mirror : ℕ) (o : Option ℕ) → MayOpen may (intends client range step m f mirror o)
  intends_by f mirror (Some holder) = tt
  intends_by f mirror None = tt

  intends_to_by : (f : File) (o : Option ℕ) → file_named name m.files ≡ Some f → MayOpen may (intends_to client range step m f o)
  intends_to_by f None e = a.no_primary f e
  intends_to_by f (Some mirror) e = intends_by f mirror (lowest_but client f.lock)

  readies_by : (f : File) (b : Bool) → file_named name m.files ≡ Some f → MayOpen may (readies client range step m f b)
  readies_by f true e = tt
  readies_by f false e = intends_to_by f (primary_of range f.layout.components) e

  limits_by : (f : File) (b : Bool) → big ≡ b → file_named name m.files ≡ Some f → MayOpen may (limits client range step m f b)
  limits_by f true is e = a.too_big f e is
  limits_by f false is e = readies_by f (is_ready f.layout range) e

  open_by : (b : Bool) (o : Option File) → big ≡ b → file_named name m.files ≡ o → MayOpen may (change_opens_file client range step m name b o)
  open_by b None is e = a.none e
  open_by b (Some f) is e = limits_by f b is e

module _ (s : Servers) (store : List Plain) (h : AreSized s.meta.files store) (sound : IsSound s.meta) where
  -- the file that is open, where it is there
  open_present : (name : List ℕ) (o : Opened) → IsKnown s.meta name o → is_there o.file s.meta ≡ true → IsPresent store name
  open_present name o k there =
      let f = some_file (file_of o.file s.meta.files) there in
      numbered_present s.meta store sound h o.file name f.0 f.1 (k.named f.0 f.1)

  -- ---- writes

  module _ (w : WriteView) where
    -- what plain files allow the write
    abbrev pub may_write : Reply → Type 0
    may_write answer = AllowsWrite w.name (w.offset + length w.bytes) store answer

    write_opens_so : AllowsOpen may_write s.meta w.name (range_of w) (nat_lt most_bytes (range_of w).end)
    write_opens_so = record {
      none = λ e. (refl, absent w.name s.meta.files store h e);
      too_big = λ f e big. (present w.name s.meta.files store f h e, ltb-true most_bytes (range_of w).end big);
      no_primary = λ f e. present w.name s.meta.files store f h e;
    }

    write_opened : (o : meta.Outcome Opened) → MayOpen may_write o → IfFixed may_write (opens w s o)
    write_opened (Gives o after) k = tt
    write_opened (Refuses answer) k = k
    write_opened (Waits holder) k = tt

    write_locks : (x : WritingView) (next : ℕ) (b : Option (ℕ × Range)) → IfFixed may_write (writes.locks_piece w s x next b)
    write_locks x next (Some told) = tt
    write_locks x next None = tt

    write_answers : (came : Sent) → IsPresent store w.name → w.offset + length w.bytes ≤ most_bytes → may_write (writes.reply_of came)
    write_answers sent.All there below = (there, below)
    write_answers (sent.Failed accepted call) there below = (there, below)
    write_answers (sent.Old accepted step) there below = (there, below)

    write_commits : (x : WritingView) (end : ℕ) (came : Sent) (b : Bool) → is_there x.opened.file s.meta ≡ b → IsKnown s.meta w.name x.opened → w.offset + length w.bytes ≤ most_bytes → IfFixed may_write (commits_write w s x end came b)
    write_commits x end came true there k below = write_answers came (open_present w.name x.opened k there) below
    write_commits x end came false there k below = tt

    -- each step of a write
    pub write_allowed : (a : WriteAt) (place : ℕ) → IsSoundAt a (range_of w) → IfSome (write_hand a).opened (IsWritten s.meta w.name) → IfFixed may_write (write_at a w place s)
    write_allowed write.Open place is k =
        write_opened (write_opens w.client w.name (range_of w) place s.meta)
        (open_by may_write s.meta w.client w.name (range_of w) place (nat_lt most_bytes (range_of w).end) write_opens_so (nat_lt most_bytes (range_of w).end) (file_named w.name s.meta.files) refl refl)
    write_allowed (write.Lock x next) place is k = write_locks x next (blocker s.locks (writes.lock_for w (piece_at x.pieces next)))
    write_allowed (write.Send x next) place is k = tt
    write_allowed (write.Commit x end came) place is k = write_commits x end came (is_there x.opened.file s.meta) refl k.0 is.0.below
    write_allowed write.UnlockAgain place is k = tt
    write_allowed write.Unlock place is k = tt

  -- ---- truncates

  module _ (t : TruncateView) where
    -- what plain files allow the truncate
    abbrev pub may_cut : Reply → Type 0
    may_cut answer = AllowsTruncate t.name t.size store answer

    -- what a truncate opens its file for
    abbrev cut_range : Range
    cut_range = record { start = t.size; end = eof }

    cut_opens_so : AllowsOpen may_cut s.meta t.name cut_range (nat_lt most_bytes t.size)
    cut_opens_so = record {
      none = λ e. (refl, absent t.name s.meta.files store h e);
      too_big = λ f e big. (present t.name s.meta.files store f h e, ltb-true most_bytes t.size big);
      no_primary = λ f e. present t.name s.meta.files store f h e;
    }

    cut_opened : (o : meta.Outcome Opened) → MayOpen may_cut o → IfFixed may_cut (opens_cut t s o)
    cut_opened (Gives o after) k = tt
    cut_opened (Refuses answer) k = k
    cut_opened (Waits holder) k = tt

    cut_locks : (x : CuttingView) (b : Option (ℕ × Range)) → IfFixed may_cut (locks_tails t s x b)
    cut_locks x (Some told) = tt
    cut_locks x None = tt

    cut_answers : (came : Sent) → IsPresent store t.name → t.size ≤ most_bytes → may_cut (cut_reply came)
    cut_answers sent.All there below = (there, below)
    cut_answers (sent.Failed accepted call) there below = (there, below)
    cut_answers (sent.Old accepted step) there below = (there, below)

    cut_commits : (x : CuttingView) (came : Sent) (b : Bool) → is_there x.opened.file s.meta ≡ b → IsKnown s.meta t.name x.opened → t.size ≤ most_bytes → IfFixed may_cut (commits_cut t s x came b)
    cut_commits x came true there k below = cut_answers came (open_present t.name x.opened k there) below
    cut_commits x came false there k below = tt

    -- each step of a truncate
    pub cut_allowed : (a : CutAt) (place : ℕ) → IsSoundCutAt a t.size → IfSome (cut_hand a).opened (IsWritten s.meta t.name) → IfFixed may_cut (truncate_at a t place s)
    cut_allowed cut.Open place is k =
        cut_opened (cut_opens t.client t.name t.size place s.meta)
        (open_by may_cut s.meta t.client t.name cut_range place (nat_lt most_bytes t.size) cut_opens_so (nat_lt most_bytes t.size) (file_named t.name s.meta.files) refl refl)
    cut_allowed (cut.Lock x) place is k = cut_locks x (first_blocker (locks_for t x) s.locks)
    cut_allowed (cut.Punch x next) place is k = tt
    cut_allowed (cut.Commit x came) place is k = cut_commits x came (is_there x.opened.file s.meta) refl k.0 is.0.below
    cut_allowed cut.UnlockAgain place is k = tt
    cut_allowed cut.Unlock place is k = tt
