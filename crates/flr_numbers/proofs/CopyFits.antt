-- What the next step of a copy asks of the servers is there.
use Rattle.std.proofs.Common.{◌≡◌, ℕ, ◌≤◌, Option, Some, None, refl, subst}
use Rattle.std.specs.Option.{option_map}
use Rattle.flr_base.specs.declared.reply.Reply.{Reply}
use Rattle.layout_lease.specs.Leases.{KeyView, keys_of}
use Rattle.meta_server.specs.Files.{File, MetaView, file_of}
use Rattle.flr_base.specs.Limits.{most_bytes}
use Rattle.meta_server.specs.Sound.{IsSound}
use Rattle.meta_laws.proofs.Whole.{sound_there}
use Rattle.call_steps.specs.Servers.{CanCall, Servers}
use Rattle.resync_copy.specs.declared.merge_phase.MergeStage.{MergeStage}
use Rattle.resync_copy.specs.declared.merge_phase.MergeStage.TheVariants as merge
use Rattle.resync_copy.specs.declared.phase.CopyAt.{CopyAt}
use Rattle.resync_copy.specs.declared.phase.CopyAt.TheVariants as at
use Rattle.resync_copy.specs.declared.phase.CopyStage.{CopyStage}
use Rattle.resync_copy.specs.declared.phase.CopyStage.TheVariants as stage
use Rattle.resync_copy.specs.Calls.{CopyView}
use Rattle.resync_copy.specs.Fitting.{CopyFits, FitsAt, StageFits}
use Rattle.resync_copy.specs.MergeFitting.{MayEnd, MergeFits}
use Rattle.resync_copy.specs.Sizes.{IsSmall}
use Rattle.flr_numbers.specs.Hands.{AreServers, Has, HasRoom}
use Rattle.flr_numbers.proofs.CallFits.{are_there}
use Rattle.flr_numbers.specs.Copies.{copy_hand, hand_of_copy, merge_hand, merging, stage_hand}
use Rattle.flr_numbers.proofs.Begins.{unmapped}
use Rattle.flr_numbers.proofs.Merges.{may_merge}
use Rattle.std.proofs.Common.{nat_eq}

-- no file is too big
small : (m : MetaView) (number : ℕ) → IsSound m → IsSmall number m
small m number h = λ size e. by (file_of number m.files) refl size e
  where
    by : (o : Option File) → file_of number m.files ≡ o → (size : ℕ) → option_map (λ (f : File). f.size) o ≡ Some size → size ≤ most_bytes
    by None is size e = absurd (cc)
    by (Some f) is size e = let same : f.size ≡ size = cc in subst (λ n. n ≤ most_bytes) same (sound_there (λ (y : File). nat_eq y.number number) m f h is).size

module _ (s : Servers) (h : AreServers s.meta s.targets) (room : HasRoom s.meta) (calls : CanCall s.targets) (k : CopyView) where
  stage_fits : (a : CopyStage) → Has k.client s.meta s.locks (stage_hand a) → StageFits a k s
  stage_fits (stage.Fence x next) has = are_there s.meta s.targets x.side.layout h has.made.0
  stage_fits (stage.Reset x next) has = are_there s.meta s.targets x.side.layout h has.made.0
  stage_fits (stage.Settle x) has = (has.locks refl, small s.meta x.side.file h.sound)
  stage_fits (stage.Take g) has = are_there s.meta s.targets g.copying.side.layout h has.made.0
  stage_fits (stage.Put g bytes) has = are_there s.meta s.targets g.copying.side.layout h has.made.0
  stage_fits (stage.Done key cleared left) has = room.generations

  end_fits : (ours theirs : KeyView) (refusal : Option Reply) → Has k.client s.meta s.locks (merging ours theirs) → MayEnd ours theirs refusal s
  end_fits ours theirs None has = (may_merge k.client s.meta s.locks ours theirs has, room.generations)
  end_fits ours theirs (Some kept) has = tt

  merge_fits : (a : MergeStage) → Has k.client s.meta s.locks (merge_hand a) → MergeFits a k s
  merge_fits (merge.Fence x next) has = (are_there s.meta s.targets x.ours.layout h has.made.0, are_there s.meta s.targets x.theirs.layout h has.made.1.0)
  merge_fits (merge.Settle x) has = (has.locks refl, small s.meta x.ours.file h.sound)
  merge_fits (merge.TakeOurs p) has = are_there s.meta s.targets p.comparing.ours.layout h has.made.0
  merge_fits (merge.TakeTheirs p ours) has = are_there s.meta s.targets p.comparing.theirs.layout h has.made.1.0
  merge_fits (merge.Done ours theirs refusal) has = end_fits ours theirs refusal has

  fits_at : (a : CopyAt) → Has k.client s.meta s.locks (copy_hand a) → FitsAt a k s
  fits_at at.Begin has = record { none = has.locks refl; no_key = unmapped (keys_of k.client s.meta.leases.keys) has.keys; keys = room.keys; generations = room.generations; objects = room.objects }
  fits_at (at.Copy next) has = stage_fits next has
  fits_at (at.Merge next) has = merge_fits next has

  pub copy_fits : Has k.client s.meta s.locks (hand_of_copy k) → CopyFits k s
  copy_fits has = record { calls = calls; stage = fits_at k.at has }
