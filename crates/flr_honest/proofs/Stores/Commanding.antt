-- Names and sizes of files after the commands of one step.
use Rattle.std.proofs.Common.{◌≡◌, ℕ, Bool, true, false, Option, Some, None, List, [], length, refl, subst}
use Rattle.flr_base.specs.declared.reply.Reply.{Reply}
use Rattle.flr_base.specs.declared.reply.Reply.TheVariants as reply
use Rattle.composite_layout.specs.declared.spec.MirrorSpec.{MirrorSpec}
use Rattle.composite_layout.specs.FlagChanges.{FlagSets}
use Rattle.composite_layout.specs.LookUps.{wholly_fresh}
use Rattle.composite_layout.specs.Making.{new_layout}
use Rattle.layout_lease.specs.Shares.{lowest_but}
use Rattle.layout_state.specs.declared.error.StateError.{StateError}
use Rattle.layout_state.specs.declared.error.StateError.TheVariants as errors
use Rattle.layout_state.specs.Mirroring.{keeping}
use Rattle.lfs_words.specs.declared.command.LfsCommand.{LfsCommand}
use Rattle.lfs_words.specs.declared.command.LfsCommand.TheVariants as lfs
use Rattle.lfs_words.specs.declared.command.SplitTo.{SplitTo}
use Rattle.lfs_words.specs.declared.command.SplitTo.TheVariants as split
use Rattle.script_values.specs.declared.command.Command.{Command}
use Rattle.script_values.specs.declared.command.Command.TheVariants as command
use Rattle.meta_server.specs.Files.{File, MetaView, changed, file_named, is_full, new_file, with_layout}
use Rattle.meta_server.specs.Layouts.{flagged, lessened, split_off}
use Rattle.meta_server.specs.Naming.{creates_file, creates_within, removes_alone, removes_file, removes_from, sets, splits_fresh, splits_to, splits_within}
use Rattle.meta_server.specs.Outcomes.{Gives, Refuses, Waits, refusal_of}
use Rattle.meta_server.specs.Outcomes as meta
use Rattle.meta_laws.specs.Calls.{left_by}
use Rattle.meta_laws.proofs.Cases.{set_cases}
use Rattle.lfs_words.specs.Naming.{default_name}
use Rattle.mirror_admin.specs.OneStep.{answered, one_step, shows}
use Rattle.call_steps.specs.Servers.{Servers}
use Rattle.flr_steps.specs.declared.client.Running.{Running}
use Rattle.flr_steps.specs.Commands.{answered_by, at_once}
use Rattle.plain_files.specs.Effects.{effect, lfs_effect, made}
use Rattle.plain_files.specs.Effects as effects
use Rattle.plain_files.specs.Files.{Plain, Sent, bytes_of}
use Rattle.flr_bytes.specs.Files.{AreSized}
use Rattle.flr_honest.proofs.Stores.Outcomes.{AreAlike, OnFiles}
use Rattle.flr_honest.proofs.Stores.Sizing.{changed_alike, evicted_alike, found_sized, sized_alike, sized_pushed}

-- names and sizes after an answer, or a refusal, of the metadata server
abbrev pub OnAnswer : MetaView → (Reply → List Plain) → meta.Outcome Reply → Type 0
OnAnswer m left (Gives answer after) = AreSized after.files (left answer)
OnAnswer m left (Refuses answer) = AreSized m.files (left answer)
OnAnswer m left (Waits holder) = Unit {0}

module _ (s : Servers) (store : List Plain) (h : AreSized s.meta.files store) where
  on_answer : (left : Reply → List Plain) (o : meta.Outcome Reply) → OnAnswer s.meta left o → OnFiles {C = Running} left store (answered_by s o)
  on_answer left (Gives answer after) k = k
  on_answer left (Refuses answer) k = k
  on_answer left (Waits holder) k = tt

  -- a command of which no answer changes the plain files
  still_by : (o : meta.Outcome Reply) → AreAlike s.meta (left_by o s.meta) → OnAnswer s.meta (λ answer. store) o
  still_by (Gives answer after) alike = sized_alike s.meta.files after.files store alike h
  still_by (Refuses answer) alike = h
  still_by (Waits holder) alike = tt

  same_left : (answer : Reply) (o : meta.Outcome (Unit {0})) → left_by o s.meta ≡ left_by (answered answer o) s.meta
  same_left answer (Gives given after) = refl
  same_left answer (Refuses refusal) = refl
  same_left answer (Waits holder) = refl

  -- ---- a file is made

  module _ (name : List ℕ) (mirrors : List MirrorSpec) where
    -- what an answer to the command leaves
    abbrev made_so : Reply → List Plain
    made_so answer = made name answer store

    creates_within_by : (b : Bool) → OnAnswer s.meta made_so (answered reply.Created (creates_within name mirrors s.meta b))
    creates_within_by true = h
    creates_within_by false = sized_pushed s.meta.files store (new_file s.meta.next_file name 0 (new_layout mirrors (length s.meta.nexts))) [] refl h

    creates_by : (o : Option File) → OnAnswer s.meta made_so (answered reply.Created (creates_file name mirrors s.meta o))
    creates_by (Some f) = h
    creates_by None = creates_within_by (is_full s.meta.files)

  -- ---- a mirror goes

  module _ (client : ℕ) (name : List ℕ) (mirror step : ℕ) where
    broken_alike : (f : File) → AreAlike s.meta (record s.meta { files = changed f.number (with_layout (lessened mirror f.layout)) s.meta.files })
    broken_alike f = changed_alike f.number (with_layout (lessened mirror f.layout)) s.meta.files (λ x. refl)

    module _ (f : File) (there : file_named name s.meta.files ≡ Some f) where
      -- what an answer to a split leaves
      abbrev split_so : Reply → List Plain
      split_so answer = effects.split_off name answer store

      -- with a name for it
      split_alone : (to : List ℕ) (o : Option ℕ) → OnAnswer s.meta split_so (answered (reply.Split to) (removes_alone client mirror step s.meta f (Some to) o))
      split_alone to (Some holder) = tt
      split_alone to None =
          let gs : List File = changed f.number (with_layout (lessened mirror f.layout)) s.meta.files in
          sized_pushed gs store (new_file s.meta.next_file to f.size (split_off mirror f.layout)) (bytes_of store name) (found_sized name s.meta.files store f there h)
          (sized_alike s.meta.files gs store (broken_alike f) h)

      split_within : (to : List ℕ) (b : Bool) → OnAnswer s.meta split_so (answered (reply.Split to) (splits_within client mirror step s.meta f to b))
      split_within to true = h
      split_within to false = split_alone to (lowest_but client f.lock)

      split_to : (to : List ℕ) (o : Option File) → OnAnswer s.meta split_so (answered (reply.Split to) (splits_to client mirror step s.meta f to o))
      split_to to (Some other) = h
      split_to to None = split_within to (is_full s.meta.files)

      split_fresh : (to : List ℕ) (b : Bool) → OnAnswer s.meta split_so (answered (reply.Split to) (splits_fresh client mirror step s.meta f to b))
      split_fresh to false = h
      split_fresh to true = split_to to (file_named to s.meta.files)

      -- a refused change is answered so
      refused : (error : StateError) → AreSized s.meta.files (split_so (refusal_of error))
      refused (errors.NoPrimary range) = h
      refused (errors.LastFresh mirror) = h
      refused (errors.NoMirrorId id) = h
      refused (errors.NoComponent id) = h
      refused errors.TooManyMirrors = h
      refused errors.TooManyComponents = h
      refused errors.NoMemory = h

      split_from : (to : List ℕ) (o : Option StateError) → OnAnswer s.meta split_so (answered (reply.Split to) (removes_from client mirror step s.meta (Some to) f o))
      split_from to (Some error) = refused error
      split_from to None = split_fresh to (wholly_fresh mirror f.layout.components)

      -- for good
      gone_alone : (o : Option ℕ) → OnAnswer s.meta split_so (answered (reply.Removed mirror) (removes_alone client mirror step s.meta f None o))
      gone_alone (Some holder) = tt
      gone_alone None = sized_alike s.meta.files (changed f.number (with_layout (lessened mirror f.layout)) s.meta.files) store (broken_alike f) h

      gone_from : (o : Option StateError) → OnAnswer s.meta split_so (answered (reply.Removed mirror) (removes_from client mirror step s.meta None f o))
      gone_from (Some error) = refused error
      gone_from None = gone_alone (lowest_but client f.lock)

      -- so it is where the command is no split
      deleted_alone : (o : Option ℕ) → OnAnswer s.meta (λ answer. store) (answered (reply.Removed mirror) (removes_alone client mirror step s.meta f None o))
      deleted_alone (Some holder) = tt
      deleted_alone None = sized_alike s.meta.files (changed f.number (with_layout (lessened mirror f.layout)) s.meta.files) store (broken_alike f) h

      deleted_from : (o : Option StateError) → OnAnswer s.meta (λ answer. store) (answered (reply.Removed mirror) (removes_from client mirror step s.meta None f o))
      deleted_from (Some error) = h
      deleted_from None = deleted_alone (lowest_but client f.lock)

    split_by : (to : List ℕ) (o : Option File) → file_named name s.meta.files ≡ o → OnAnswer s.meta (λ answer. effects.split_off name answer store) (answered (reply.Split to) (removes_file client mirror step s.meta name (Some to) o))
    split_by to None e = h
    split_by to (Some f) e = split_from f e to (keeping mirror f.layout.components)

    gone_by : (o : Option File) → file_named name s.meta.files ≡ o → OnAnswer s.meta (λ answer. effects.split_off name answer store) (answered (reply.Removed mirror) (removes_file client mirror step s.meta name None o))
    gone_by None e = h
    gone_by (Some f) e = gone_from f e (keeping mirror f.layout.components)

    deleted_by : (o : Option File) → file_named name s.meta.files ≡ o → OnAnswer s.meta (λ answer. store) (answered (reply.Removed mirror) (removes_file client mirror step s.meta name None o))
    deleted_by None e = h
    deleted_by (Some f) e = deleted_from f e (keeping mirror f.layout.components)

  -- ---- each command

  module _ (client place : ℕ) (sent : Sent) where
    shown : (name : List ℕ) (o : Option File) → OnAnswer s.meta (λ answer. store) (shows name s.meta o)
    shown name None = h
    shown name (Some f) = h

    marked : (name : List ℕ) (id : ℕ) (change : FlagSets) → AreAlike s.meta (left_by (answered reply.Set (sets client name id change place s.meta)) s.meta)
    marked name id change = subst (AreAlike s.meta) (same_left reply.Set (sets client name id change place s.meta))
        (set_cases (AreAlike s.meta) client name id change place s.meta (record { same = refl; marks = λ f e kept. changed_alike f.number (with_layout (flagged id change f.layout)) s.meta.files (λ x. refl) }))

    splits_by : (name : List ℕ) (mirror : ℕ) (to : SplitTo) → OnAnswer s.meta (λ answer. effects.split_off name answer store) (one_step client (lfs.Split name mirror to) place s.meta)
    splits_by name mirror split.Default = split_by client name mirror place (default_name name mirror) (file_named name s.meta.files) refl
    splits_by name mirror (split.Named new) = split_by client name mirror place new (file_named name s.meta.files) refl
    splits_by name mirror split.Destroy = gone_by client name mirror place (file_named name s.meta.files) refl

    lfs_sized : (of : LfsCommand) → OnAnswer s.meta (λ answer. lfs_effect of answer store) (one_step client of place s.meta)
    lfs_sized (lfs.SetStripe name spec) = creates_by name spec (file_named name s.meta.files)
    lfs_sized (lfs.Create name spec) = creates_by name spec (file_named name s.meta.files)
    lfs_sized (lfs.GetStripe name) = shown name (file_named name s.meta.files)
    lfs_sized (lfs.CompSet name id change) = still_by (answered reply.Set (sets client name id change place s.meta)) (marked name id change)
    lfs_sized (lfs.Extend name spec) = h
    lfs_sized (lfs.ExtendBy name victim) = h
    lfs_sized (lfs.Split name mirror to) = splits_by name mirror to
    lfs_sized (lfs.Delete name mirror) = deleted_by client name mirror place (file_named name s.meta.files) refl
    lfs_sized (lfs.Resync name only) = h
    lfs_sized (lfs.Verify name) = h

    -- each command of one step
    pub once_sized : (asked : Command) → OnFiles (λ answer. effect asked sent answer store) store (at_once client asked place s)
    once_sized (command.Read name offset len) = tt
    once_sized (command.Write name offset bytes) = tt
    once_sized (command.Truncate name size) = tt
    once_sized (command.Lfs of) = on_answer (λ answer. lfs_effect of answer store) (one_step client of place s.meta) (lfs_sized of)
    once_sized (command.Evict other) = sized_alike s.meta.files _ store (evicted_alike other s.meta.files) h
    once_sized (command.Rot object offset byte) = h
