-- Names and sizes of files after each step of a write or a truncate.
use Rattle.std.proofs.Common.{◌≡◌, ℕ, Bool, true, false, max, Option, Some, None, List, length, refl, sym, ap, ◌∙◌, subst, arith}
use Rattle.std.specs.Prelude.{if◌then◌else◌, is_some, nat_le, nat_lt, get_or, ◌&&◌, ◌-◌}
use Rattle.std.proofs.lemmas.List.FromFn.{length-map-range_with_len}
use Rattle.flr_base.specs.Bytes.{overlay}
use Rattle.flr_base.proofs.Bytes.{length-overlay}
use Rattle.flr_base.specs.declared.reply.Range.{Range}
use Rattle.flr_base.specs.declared.reply.Reply.{Reply}
use Rattle.flr_base.specs.declared.reply.Reply.TheVariants as reply
use Rattle.composite_layout.specs.Choices.{is_ready}
use Rattle.composite_layout.specs.Layouts.{eof}
use Rattle.layout_lease.specs.Shares.{lowest_but}
use Rattle.layout_state.specs.Choosing.{primary_of}
use Rattle.extent_lock.specs.Extents.{blocker}
use Rattle.meta_server.specs.declared.answers.Opened.{Opened}
use Rattle.meta_server.specs.Closing.{grown, is_there, shortened}
use Rattle.meta_server.specs.Files.{File, MetaView, changed, file_named, file_of, with_layout, with_share}
use Rattle.meta_server.specs.Layouts.{intended}
use Rattle.flr_base.specs.Limits.{most_bytes}
use Rattle.meta_server.specs.Opening.{change_opens_file, cut_opens, intends, intends_to, limits, readies, write_opens}
use Rattle.meta_server.specs.Outcomes.{Gives, Refuses, Waits}
use Rattle.meta_server.specs.Outcomes as meta
use Rattle.meta_server.specs.Sound.{IsSound}
use Rattle.call_steps.specs.Pieces.{piece_at}
use Rattle.call_steps.specs.Servers.{Servers}
use Rattle.client_write.specs.declared.phase.CutAt.{CutAt}
use Rattle.client_write.specs.declared.phase.CutAt.TheVariants as cut
use Rattle.client_write.specs.declared.phase.Sent.{Sent}
use Rattle.client_write.specs.declared.phase.Sent.TheVariants as sent
use Rattle.client_write.specs.declared.phase.WriteAt.{WriteAt}
use Rattle.client_write.specs.declared.phase.WriteAt.TheVariants as write
use Rattle.client_write.specs.Calls.{TruncateView, WriteView}
use Rattle.client_write.specs.Truncates.{commits_cut, first_blocker, locks_for, locks_tails, opens_cut, truncate_at}
use Rattle.client_write.specs.Views.{CuttingView, WritingView}
use Rattle.client_write.specs.Writes as writes
use Rattle.client_write.specs.Writes.{commits_write, opens, range_of, write_at}
use Rattle.plain_files.specs.Effects.{truncated, with_bytes, wrote}
use Rattle.plain_files.specs.Files.{Plain, SentRange, SentTail, Ranges, Tails, end_of, fit, is_punched, is_written, land, wipe}
use Rattle.flr_behind.specs.Sentences.{IsKnown}
use Rattle.flr_bytes.specs.Files.{AreSized}
use Rattle.flr_honest.proofs.Stores.Ends.{EndsWhere}
use Rattle.flr_honest.proofs.Stores.Outcomes.{OnFiles}
use Rattle.flr_honest.proofs.Stores.Sizing.{changed_alike, sized_alike, sized_with}

-- ---- opens

-- a file is opened, or refused with an answer that leaves the plain files
abbrev pub OnOpening : MetaView → (Reply → List Plain) → List Plain → meta.Outcome Opened → Type 0
OnOpening m left store (Gives o after) = AreSized after.files store
OnOpening m left store (Refuses answer) = left answer ≡ store
OnOpening m left store (Waits holder) = Unit {0}

module _ (left : Reply → List Plain) (store : List Plain) (m : MetaView) (h : AreSized m.files store) (client : ℕ) (name : List ℕ) (range : Range) (step : ℕ)
    (none : left (reply.NoFile name) ≡ store) (big : left reply.TooBig ≡ store) (no_primary : left (reply.NoPrimary range) ≡ store) where
  intends_by : (f : File) (mirror : ℕ) (o : Option ℕ) → OnOpening m left store (intends client range step m f mirror o)
  intends_by f mirror (Some holder) = tt
  intends_by f mirror None =
      let l = intended range mirror f.number m.nexts f.layout in
      sized_alike m.files (changed f.number (with_share client) (changed f.number (with_layout l) m.files)) store
      (changed_alike f.number (with_share client) (changed f.number (with_layout l) m.files) (λ x. refl) ∙ changed_alike f.number (with_layout l) m.files (λ x. refl)) h

  intends_to_by : (f : File) (o : Option ℕ) → OnOpening m left store (intends_to client range step m f o)
  intends_to_by f None = no_primary
  intends_to_by f (Some mirror) = intends_by f mirror (lowest_but client f.lock)

  readies_by : (f : File) (b : Bool) → OnOpening m left store (readies client range step m f b)
  readies_by f true = sized_alike m.files (changed f.number (with_share client) m.files) store (changed_alike f.number (with_share client) m.files (λ x. refl)) h
  readies_by f false = intends_to_by f (primary_of range f.layout.components)

  limits_by : (f : File) (b : Bool) → OnOpening m left store (limits client range step m f b)
  limits_by f true = big
  limits_by f false = readies_by f (is_ready f.layout range)

  open_by : (b : Bool) (o : Option File) → OnOpening m left store (change_opens_file client range step m name b o)
  open_by b None = none
  open_by b (Some f) = limits_by f b

-- ---- the file that a call has open

-- where the file is there, it is the one of the name by which it was opened
pub record IsOpenFile (m : MetaView) (name : List ℕ) (o : Opened) : Type 0 where
  pub file : File
  pub there : file_of o.file m.files ≡ Some file
  pub named : file.name ≡ name

open_file : (m : MetaView) (name : List ℕ) (o : Opened) → IsKnown m name o → is_there o.file m ≡ true → IsOpenFile m name o
open_file m name o k there = by (file_of o.file m.files) refl there
  where
    by : (x : Option File) → file_of o.file m.files ≡ x → is_there o.file m ≡ true → IsOpenFile m name o
    by None e there = (let no_one : false ≡ true = sym (ap (λ (y : Option File). is_some y) e) ∙ there in absurd (cc no_one))
    by (Some f) e there = record { file = f; there = e; named = k.named f e }

module _ (s : Servers) (store : List Plain) (h : AreSized s.meta.files store) (sound : IsSound s.meta) where
  -- ---- writes

  module _ (w : WriteView) (ranges : List SentRange) where
    -- what an answer to the write leaves
    abbrev wrote_so : Reply → List Plain
    wrote_so answer = wrote w.name w.offset w.bytes (Ranges ranges) answer store

    write_opens_by : (o : meta.Outcome Opened) → OnOpening s.meta wrote_so store o → OnFiles wrote_so store (opens w s o)
    write_opens_by (Gives o after) k = k
    write_opens_by (Refuses answer) k = subst (AreSized s.meta.files) (sym k) h
    write_opens_by (Waits holder) k = tt

    write_locks : (x : WritingView) (next : ℕ) (b : Option (ℕ × Range)) → OnFiles wrote_so store (writes.locks_piece w s x next b)
    write_locks x next (Some told) = tt
    write_locks x next None = h

    grows : (x : WritingView) (end : ℕ) (new : List ℕ → List ℕ) → IsOpenFile s.meta w.name x.opened → ((old : List ℕ) → length (new old) ≡ max (length old) end)
        → AreSized (changed x.opened.file (grown x.opened.cookie end) s.meta.files) (with_bytes w.name new store)
    grows x end new f long =
        sized_with x.opened.file w.name f.file f.named (grown x.opened.cookie end) new s.meta.files store (λ y. refl)
        (λ y old e. ap (λ (n : ℕ). max n end) e ∙ sym (long old)) sound.named sound.ascending f.there h

    landed_long : (old : List ℕ) → length (land old w.offset w.bytes ranges) ≡ max (length old) (end_of ranges)
    landed_long old = length-map-range_with_len (λ (x : ℕ). if is_written ranges x then get_or w.bytes (x - w.offset) 0 else get_or old x 0) 0 (max (length old) (end_of ranges))

    commit_by : (x : WritingView) (end : ℕ) (came : Sent) → IsOpenFile s.meta w.name x.opened → EndsWhere (range_of w) end came (end_of ranges)
        → AreSized (changed x.opened.file (grown x.opened.cookie end) s.meta.files) (wrote_so (writes.reply_of came))
    commit_by x end sent.All f ends = grows x end (λ old. overlay old w.offset w.bytes) f (λ old. length-overlay old w.offset w.bytes ∙ ap (λ (n : ℕ). max (length old) n) (sym ends))
    commit_by x end (sent.Failed accepted call) f ends = grows x end (λ old. land old w.offset w.bytes ranges) f (λ old. landed_long old ∙ ap (λ (n : ℕ). max (length old) n) (sym ends))
    commit_by x end (sent.Old accepted step) f ends = grows x end (λ old. land old w.offset w.bytes ranges) f (λ old. landed_long old ∙ ap (λ (n : ℕ). max (length old) n) (sym ends))

    write_commits : (x : WritingView) (end : ℕ) (came : Sent) (b : Bool) → is_there x.opened.file s.meta ≡ b → IsKnown s.meta w.name x.opened → EndsWhere (range_of w) end came (end_of ranges) → OnFiles wrote_so store (commits_write w s x end came b)
    write_commits x end came true there known ends = commit_by x end came (open_file s.meta w.name x.opened known there) ends
    write_commits x end came false there known ends = h

    -- what is known of a write that is to commit
    abbrev pub WriteCommits : WriteAt → Type 0
    WriteCommits (write.Commit x end came) = IsKnown s.meta w.name x.opened × EndsWhere (range_of w) end came (end_of ranges)
    WriteCommits other = Unit {0}

    -- each step of a write
    pub write_sized : (a : WriteAt) (place : ℕ) → WriteCommits a → OnFiles wrote_so store (write_at a w place s)
    write_sized write.Open place k = write_opens_by (write_opens w.client w.name (range_of w) place s.meta)
        (open_by wrote_so store s.meta h w.client w.name (range_of w) place refl refl refl (nat_lt most_bytes (range_of w).end) (file_named w.name s.meta.files))
    write_sized (write.Lock x next) place k = write_locks x next (blocker s.locks (writes.lock_for w (piece_at x.pieces next)))
    write_sized (write.Send x next) place k = h
    write_sized (write.Commit x end came) place k = write_commits x end came (is_there x.opened.file s.meta) refl k.0 k.1
    write_sized write.UnlockAgain place k = h
    write_sized write.Unlock place k = h

  -- ---- truncates

  module _ (t : TruncateView) (tails : List SentTail) where
    -- what an answer to the truncate leaves
    abbrev cut_so : Reply → List Plain
    cut_so answer = truncated t.name t.size (Tails tails) answer store

    cut_opens_by : (o : meta.Outcome Opened) → OnOpening s.meta cut_so store o → OnFiles cut_so store (opens_cut t s o)
    cut_opens_by (Gives o after) k = k
    cut_opens_by (Refuses answer) k = subst (AreSized s.meta.files) (sym k) h
    cut_opens_by (Waits holder) k = tt

    cut_locks : (x : CuttingView) (b : Option (ℕ × Range)) → OnFiles cut_so store (locks_tails t s x b)
    cut_locks x (Some told) = tt
    cut_locks x None = h

    -- a truncate that got only so far leaves the size
    wiped : (x : CuttingView) → IsOpenFile s.meta t.name x.opened → AreSized (changed x.opened.file (grown x.opened.cookie 0) s.meta.files) (with_bytes t.name (λ old. wipe old t.size tails) store)
    wiped x f =
        sized_with x.opened.file t.name f.file f.named (grown x.opened.cookie 0) (λ old. wipe old t.size tails) s.meta.files store (λ y. refl)
        (λ y old e. (let same : max y.size 0 ≡ y.size = omega arith in same) ∙ e ∙ sym (length-map-range_with_len (λ (x : ℕ). if nat_le t.size x && is_punched tails x then 0 else get_or old x 0) 0 (length old))) sound.named sound.ascending f.there h

    cut_to : (x : CuttingView) → IsOpenFile s.meta t.name x.opened → AreSized (changed x.opened.file (shortened x.opened.cookie t.size) s.meta.files) (with_bytes t.name (λ old. fit old t.size) store)
    cut_to x f =
        sized_with x.opened.file t.name f.file f.named (shortened x.opened.cookie t.size) (λ old. fit old t.size) s.meta.files store (λ y. refl)
        (λ y old e. sym (length-map-range_with_len (λ (x : ℕ). get_or old x 0) 0 t.size)) sound.named sound.ascending f.there h

    cut_commits : (x : CuttingView) (came : Sent) (b : Bool) → is_there x.opened.file s.meta ≡ b → IsKnown s.meta t.name x.opened → OnFiles cut_so store (commits_cut t s x came b)
    cut_commits x sent.All true there known = cut_to x (open_file s.meta t.name x.opened known there)
    cut_commits x (sent.Failed accepted call) true there known = wiped x (open_file s.meta t.name x.opened known there)
    cut_commits x (sent.Old accepted step) true there known = wiped x (open_file s.meta t.name x.opened known there)
    cut_commits x came false there known = h

    -- what is known of a truncate that is to commit
    abbrev pub CutCommits : CutAt → Type 0
    CutCommits (cut.Commit x came) = IsKnown s.meta t.name x.opened
    CutCommits other = Unit {0}

    -- each step of a truncate
    pub cut_sized : (a : CutAt) (place : ℕ) → CutCommits a → OnFiles cut_so store (truncate_at a t place s)
    cut_sized cut.Open place k = cut_opens_by (cut_opens t.client t.name t.size place s.meta)
        (open_by cut_so store s.meta h t.client t.name (record { start = t.size; end = eof }) place refl refl refl (nat_lt most_bytes t.size) (file_named t.name s.meta.files))
    cut_sized (cut.Lock x) place k = cut_locks x (first_blocker (locks_for t x) s.locks)
    cut_sized (cut.Punch x next) place k = h
    cut_sized (cut.Commit x came) place k = cut_commits x came (is_there x.opened.file s.meta) refl k
    cut_sized cut.UnlockAgain place k = h
    cut_sized cut.Unlock place k = h
