-- What the commands of one step answer is what plain files allow.
use Rattle.std.proofs.Common.{◌≡◌, ℕ, ◌<◌, ◌≤◌, Bool, true, false, Option, Some, None, List, length, refl, arith}
use Rattle.std.proofs.lemmas.Bool.Decides.{nat_tests}
use Rattle.flr_base.specs.declared.reply.Reply.{Reply}
use Rattle.flr_base.specs.declared.reply.Reply.TheVariants as reply
use Rattle.composite_layout.specs.declared.spec.MirrorSpec.{MirrorSpec}
use Rattle.composite_layout.specs.FlagChanges.{FlagSets}
use Rattle.composite_layout.specs.LookUps.{wholly_fresh}
use Rattle.layout_lease.specs.Shares.{lowest_but}
use Rattle.layout_state.specs.declared.error.StateError.{StateError}
use Rattle.layout_state.specs.declared.error.StateError.TheVariants as errors
use Rattle.layout_state.specs.Marking.{flags_refusal}
use Rattle.layout_state.specs.Mirroring.{keeping}
use Rattle.lfs_words.specs.declared.command.LfsCommand.{LfsCommand}
use Rattle.lfs_words.specs.declared.command.LfsCommand.TheVariants as lfs
use Rattle.lfs_words.specs.declared.command.SplitTo.{SplitTo}
use Rattle.lfs_words.specs.declared.command.SplitTo.TheVariants as split
use Rattle.script_values.specs.declared.command.Command.{Command}
use Rattle.script_values.specs.declared.command.Command.TheVariants as command
use Rattle.meta_server.specs.Files.{File, MetaView, file_named, is_full}
use Rattle.meta_server.specs.Naming.{creates_file, creates_within, removes_alone, removes_file, removes_from, sets_alone, sets_file, sets_on, splits_fresh, splits_to, splits_within}
use Rattle.meta_server.specs.Outcomes.{Gives, Refuses, Waits, refusal_of}
use Rattle.meta_server.specs.Outcomes as meta
use Rattle.meta_server.specs.Sound.{IsSound}
use Rattle.lfs_words.specs.Naming.{default_name}
use Rattle.mirror_admin.specs.OneStep.{answered, one_step, shows}
use Rattle.call_steps.specs.Servers.{Servers}
use Rattle.flr_steps.specs.declared.client.Running.{Running}
use Rattle.flr_steps.specs.declared.client.Running.TheVariants as running
use Rattle.flr_steps.specs.Commands.{answered_by, at_once, begun, begun_lfs}
use Rattle.plain_files.specs.Effects.{AllowsLfs, AllowsMaking, AllowsOf, AllowsSplit, AllowsSplitTo, most_files}
use Rattle.plain_files.specs.Files.{IsPresent, Plain}
use Rattle.flr_bytes.specs.Files.{AreSized}
use Rattle.flr_honest.specs.Legal.Sentences.{IfFixed, IsAllowed}
use Rattle.flr_honest.proofs.Legal.Files.{absent, as_many, present}
use Rattle.flr_honest.proofs.Legal.Refusals.{IsPlain, plain_flags, plain_keeping}

-- an answer, or a refusal, of the metadata server passes the test
abbrev pub MayAnswer : (Reply → Type 0) → meta.Outcome Reply → Type 0
MayAnswer may (Gives answer after) = may answer
MayAnswer may (Refuses answer) = may answer
MayAnswer may (Waits holder) = Unit {0}

on_answer : (may : Reply → Type 0) (s : Servers) (o : meta.Outcome Reply) → MayAnswer may o → IfFixed {C = Running} may (answered_by s o)
on_answer may s (Gives answer after) k = k
on_answer may s (Refuses answer) k = k
on_answer may s (Waits holder) k = tt

-- a refused change of a file that is there
pub refused_of : (name : List ℕ) (store : List Plain) (error : StateError) → IsPlain error → IsPresent store name → AllowsOf name store (refusal_of error)
refused_of name store (errors.NoPrimary range) plain there = there
refused_of name store (errors.LastFresh mirror) plain there = there
refused_of name store (errors.NoMirrorId id) plain there = there
refused_of name store (errors.NoComponent id) plain there = there
refused_of name store errors.TooManyMirrors plain there = there
refused_of name store errors.TooManyComponents plain there = there
refused_of name store errors.NoMemory plain there = absurd plain

refused_split : (name new : List ℕ) (store : List Plain) (error : StateError) → IsPlain error → IsPresent store name → AllowsSplit name new store (refusal_of error)
refused_split name new store (errors.NoPrimary range) plain there = there
refused_split name new store (errors.LastFresh mirror) plain there = there
refused_split name new store (errors.NoMirrorId id) plain there = there
refused_split name new store (errors.NoComponent id) plain there = there
refused_split name new store errors.TooManyMirrors plain there = there
refused_split name new store errors.TooManyComponents plain there = there
refused_split name new store errors.NoMemory plain there = absurd plain

module _ (m : MetaView) (store : List Plain) (h : AreSized m.files store) (sound : IsSound m) where
  -- ---- how many files there are

  full : is_full m.files ≡ true → length store ≡ most_files
  full is =
      let same = as_many m.files store h in
      let few = sound.few in
      let many : 16 ≤ length m.files = grind (arith, nat_tests) in
      omega (arith, same, few, many)

  not_full : is_full m.files ≡ false → length store < most_files
  not_full is =
      let same = as_many m.files store h in
      let less : length m.files < 16 = grind (arith, nat_tests) in
      omega (arith, same, less)

  -- ---- a file is made

  module _ (name : List ℕ) (mirrors : List MirrorSpec) where
    creates_by : (b : Bool) → is_full m.files ≡ b → file_named name m.files ≡ None → MayAnswer (AllowsMaking name store) (answered reply.Created (creates_within name mirrors m b))
    creates_by true is e = (absent name m.files store h e, full is)
    creates_by false is e = (absent name m.files store h e, not_full is)

    pub made_so : (o : Option File) → file_named name m.files ≡ o → MayAnswer (AllowsMaking name store) (answered reply.Created (creates_file name mirrors m o))
    made_so (Some f) e = (refl, present name m.files store f h e)
    made_so None e = creates_by (is_full m.files) refl e

  -- ---- a mirror goes

  module _ (client mirror step : ℕ) (name : List ℕ) where
    -- to a file of this name
    module _ (to : List ℕ) (f : File) (e : file_named name m.files ≡ Some f) where
      here : IsPresent store name
      here = present name m.files store f h e

      split_alone : (o : Option ℕ) → file_named to m.files ≡ None → is_full m.files ≡ false → MayAnswer (AllowsSplit name to store) (answered (reply.Split to) (removes_alone client mirror step m f (Some to) o))
      split_alone (Some holder) none room = tt
      split_alone None none room = (refl, here, absent to m.files store h none, not_full room)

      split_within : (b : Bool) → is_full m.files ≡ b → file_named to m.files ≡ None → MayAnswer (AllowsSplit name to store) (answered (reply.Split to) (splits_within client mirror step m f to b))
      split_within true is none = (here, absent to m.files store h none, full is)
      split_within false is none = split_alone (lowest_but client f.lock) none is

      split_to : (o : Option File) → file_named to m.files ≡ o → MayAnswer (AllowsSplit name to store) (answered (reply.Split to) (splits_to client mirror step m f to o))
      split_to (Some other) d = (refl, here, present to m.files store other h d)
      split_to None d = split_within (is_full m.files) refl d

      split_fresh : (b : Bool) → MayAnswer (AllowsSplit name to store) (answered (reply.Split to) (splits_fresh client mirror step m f to b))
      split_fresh false = here
      split_fresh true = split_to (file_named to m.files) refl

      split_from : (o : Option StateError) → keeping mirror f.layout.components ≡ o → MayAnswer (AllowsSplit name to store) (answered (reply.Split to) (removes_from client mirror step m (Some to) f o))
      split_from (Some error) k = refused_split name to store error (plain_keeping mirror f.layout.components error k) here
      split_from None k = split_fresh (wholly_fresh mirror f.layout.components)

    split_so : (to : List ℕ) (o : Option File) → file_named name m.files ≡ o → MayAnswer (AllowsSplit name to store) (answered (reply.Split to) (removes_file client mirror step m name (Some to) o))
    split_so to None e = (refl, absent name m.files store h e)
    split_so to (Some f) e = split_from to f e (keeping mirror f.layout.components) refl

    -- for good
    gone_alone : (f : File) (o : Option ℕ) → IsPresent store name → MayAnswer (AllowsOf name store) (answered (reply.Removed mirror) (removes_alone client mirror step m f None o))
    gone_alone f (Some holder) there = tt
    gone_alone f None there = there

    gone_from : (f : File) (o : Option StateError) → keeping mirror f.layout.components ≡ o → IsPresent store name → MayAnswer (AllowsOf name store) (answered (reply.Removed mirror) (removes_from client mirror step m None f o))
    gone_from f (Some error) k there = refused_of name store error (plain_keeping mirror f.layout.components error k) there
    gone_from f None k there = gone_alone f (lowest_but client f.lock) there

    gone_so : (o : Option File) → file_named name m.files ≡ o → MayAnswer (AllowsOf name store) (answered (reply.Removed mirror) (removes_file client mirror step m name None o))
    gone_so None e = (refl, absent name m.files store h e)
    gone_so (Some f) e = gone_from f (keeping mirror f.layout.components) refl (present name m.files store f h e)

  -- ---- flags change

  module _ (client id step : ℕ) (name : List ℕ) (change : FlagSets) where
    set_alone : (f : File) (o : Option ℕ) → IsPresent store name → MayAnswer (AllowsOf name store) (answered reply.Set (sets_alone client id change step m f o))
    set_alone f (Some holder) there = tt
    set_alone f None there = there

    set_on : (f : File) (o : Option StateError) → flags_refusal id change f.layout.components ≡ o → IsPresent store name → MayAnswer (AllowsOf name store) (answered reply.Set (sets_on client id change step m f o))
    set_on f (Some error) k there = refused_of name store error (plain_flags id change f.layout.components error k) there
    set_on f None k there = set_alone f (lowest_but client f.lock) there

    set_so : (o : Option File) → file_named name m.files ≡ o → MayAnswer (AllowsOf name store) (answered reply.Set (sets_file client id change step m name o))
    set_so None e = (refl, absent name m.files store h e)
    set_so (Some f) e = set_on f (flags_refusal id change f.layout.components) refl (present name m.files store f h e)

  shown : (name : List ℕ) (o : Option File) → file_named name m.files ≡ o → MayAnswer (AllowsOf name store) (shows name m o)
  shown name None e = (refl, absent name m.files store h e)
  shown name (Some f) e = present name m.files store f h e

  -- ---- each command

  module _ (c place : ℕ) where
    splits_so : (name : List ℕ) (mirror : ℕ) (to : SplitTo) → MayAnswer (AllowsSplitTo name mirror to store) (one_step c (lfs.Split name mirror to) place m)
    splits_so name mirror split.Default = split_so c mirror place name (default_name name mirror) (file_named name m.files) refl
    splits_so name mirror (split.Named new) = split_so c mirror place name new (file_named name m.files) refl
    splits_so name mirror split.Destroy = gone_so c mirror place name (file_named name m.files) refl

    lfs_allowed : (of : LfsCommand) → running.Idle ≡ begun_lfs c of → MayAnswer (AllowsLfs of store) (one_step c of place m)
    lfs_allowed (lfs.SetStripe name spec) e = made_so name spec (file_named name m.files) refl
    lfs_allowed (lfs.Create name spec) e = made_so name spec (file_named name m.files) refl
    lfs_allowed (lfs.GetStripe name) e = shown name (file_named name m.files) refl
    lfs_allowed (lfs.CompSet name id change) e = set_so c id place name change (file_named name m.files) refl
    lfs_allowed (lfs.Split name mirror to) e = splits_so name mirror to
    lfs_allowed (lfs.Delete name mirror) e = gone_so c mirror place name (file_named name m.files) refl
    lfs_allowed (lfs.Extend name spec) e = absurd (cc e)
    lfs_allowed (lfs.ExtendBy name victim) e = absurd (cc e)
    lfs_allowed (lfs.Resync name only) e = absurd (cc e)
    lfs_allowed (lfs.Verify name) e = absurd (cc e)

-- each command of one step
pub once_allowed : (s : Servers) (store : List Plain) → AreSized s.meta.files store → IsSound s.meta → (c place : ℕ) (asked : Command) → running.Idle ≡ begun c asked → IsAllowed asked store (at_once c asked place s)
once_allowed s store h sound c place (command.Read name offset len) e = tt
once_allowed s store h sound c place (command.Write name offset bytes) e = tt
once_allowed s store h sound c place (command.Truncate name size) e = tt
once_allowed s store h sound c place (command.Lfs of) e = on_answer (AllowsLfs of store) s (one_step c of place s.meta) (lfs_allowed s.meta store h sound c place of e)
once_allowed s store h sound c place (command.Evict other) e = tt
once_allowed s store h sound c place (command.Rot object offset byte) e = tt
