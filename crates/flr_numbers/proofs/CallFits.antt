-- What the next step of a read, a write, a truncate or a verify asks of the servers is there.
use Rattle.std.proofs.Common.{ℕ, ◌<◌, ◌≤◌, List, length, refl, arith, inl, inr, ◌⊎◌, get_or}
use Rattle.std.proofs.lemmas.Bool.{cases_lt}
use Rattle.std.proofs.lemmas.List.{get_or_past}
use Rattle.flr_base.specs.declared.reply.ObjectId.{ObjectId}
use Rattle.composite_layout.specs.Layouts.{Composite}
use Rattle.object_target.specs.TargetState.{TargetState}
use Rattle.meta_server.specs.Files.{MetaView}
use Rattle.meta_laws.proofs.Copies.{sound_named}
use Rattle.call_steps.specs.Servers.{AreThere, CanCall, Servers}
use Rattle.client_read.specs.declared.phase.ReadAt.{ReadAt}
use Rattle.client_read.specs.declared.phase.ReadAt.TheVariants as read
use Rattle.client_read.specs.Fitting as reads
use Rattle.client_read.specs.Views.{ReadView}
use Rattle.client_write.specs.declared.phase.CutAt.{CutAt}
use Rattle.client_write.specs.declared.phase.CutAt.TheVariants as cut
use Rattle.client_write.specs.declared.phase.WriteAt.{WriteAt}
use Rattle.client_write.specs.declared.phase.WriteAt.TheVariants as write
use Rattle.client_write.specs.Calls.{TruncateView, WriteView}
use Rattle.client_write.specs.CutFitting as cuts
use Rattle.client_write.specs.Fitting as writes
use Rattle.mirror_verify.specs.declared.phase.VerifyAt.{VerifyAt}
use Rattle.mirror_verify.specs.declared.phase.VerifyAt.TheVariants as verify
use Rattle.mirror_verify.specs.Fitting as verifies
use Rattle.mirror_verify.specs.Views.{VerifyView}
use Rattle.flr_numbers.specs.Calls.{cut_hand, hand_of_read, hand_of_truncate, hand_of_verify, hand_of_write, read_hand, verify_hand, write_hand}
use Rattle.flr_numbers.specs.Hands.{AreMade, AreServers, Has, HasRoom}
use Rattle.flr_numbers.proofs.Metas.{may_share}
use Rattle.flr_numbers.proofs.Objects.{named_stands}

-- an object that was made is on a target that is there
made_there : (nexts : List ℕ) (o : ObjectId) → o.number < get_or nexts o.target 0 → o.target < length nexts
made_there nexts o less = by (cases_lt o.target (length nexts))
  where
    by : (o.target < length nexts) ⊎ (length nexts ≤ o.target) → o.target < length nexts
    by (inl there) = there
    by (inr past) = let none = get_or_past nexts o.target 0 past in absurd (omega (arith, less, none))

pub are_there : (m : MetaView) (targets : List TargetState) (l : Composite) → AreServers m targets → AreMade m l → AreThere targets l.components
are_there m targets l h made = λ c o k i. (let many = h.as_many in let there = made_there m.nexts o (made o (named_stands o l.components (c, k, i))) in omega (arith, many, there))

module _ (s : Servers) (h : AreServers s.meta s.targets) (room : HasRoom s.meta) (calls : CanCall s.targets) where
  pub read_fits : (r : ReadView) → Has r.client s.meta s.locks (hand_of_read r) → reads.ReadFits r s
  read_fits r has = record { calls = calls; phase = by r.at has }
    where
      by : (a : ReadAt) → Has r.client s.meta s.locks (read_hand a) → reads.FitsAt a r s
      by read.Open has = may_share r.client r.name s.meta s.locks h.sound room has
      by (read.Lock x next) has = tt
      by (read.Take x next) has = are_there s.meta s.targets x.opened.layout h (has.opened x.opened refl)
      by (read.Again x) has = tt
      by (read.Confirm x) has = tt
      by read.UnlockAgain has = tt
      by read.Unlock has = tt

  pub write_fits : (w : WriteView) → Has w.client s.meta s.locks (hand_of_write w) → writes.WriteFits w s
  write_fits w has = record { calls = calls; phase = by w.at has }
    where
      by : (a : WriteAt) → Has w.client s.meta s.locks (write_hand a) → writes.FitsAt a w s
      by write.Open has = (may_share w.client w.name s.meta s.locks h.sound room has, room.generations, room.objects)
      by (write.Lock x next) has = tt
      by (write.Send x next) has = are_there s.meta s.targets x.opened.layout h (has.opened x.opened refl)
      by (write.Commit x end came) has = tt
      by write.UnlockAgain has = tt
      by write.Unlock has = tt

  pub truncate_fits : (t : TruncateView) → Has t.client s.meta s.locks (hand_of_truncate t) → cuts.TruncateFits t s
  truncate_fits t has = record { calls = calls; phase = by t.at has }
    where
      by : (a : CutAt) → Has t.client s.meta s.locks (cut_hand a) → cuts.CutFitsAt a t s
      by cut.Open has = (may_share t.client t.name s.meta s.locks h.sound room has, room.generations, room.objects)
      by (cut.Lock x) has = has.locks refl
      by (cut.Punch x next) has = are_there s.meta s.targets x.opened.layout h (has.opened x.opened refl)
      by (cut.Commit x came) has = tt
      by cut.UnlockAgain has = tt
      by cut.Unlock has = tt

  pub verify_fits : (v : VerifyView) → Has v.client s.meta s.locks (hand_of_verify v) → verifies.VerifyFits v s.meta s.targets
  verify_fits v has = record { calls = calls; phase = by v.at has }
    where
      by : (a : VerifyAt) → Has v.client s.meta s.locks (verify_hand a) → verifies.FitsAt a v s.meta s.targets
      by verify.Open has = (may_share v.client v.name s.meta s.locks h.sound room has, λ f e. (sound_named s.meta h.sound v.name f e).size)
      by (verify.Take x next) has = are_there s.meta s.targets x.opened.layout h (has.opened x.opened refl)
      by (verify.Close x fault) has = tt
