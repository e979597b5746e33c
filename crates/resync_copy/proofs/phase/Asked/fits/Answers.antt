use Rattle.std.proofs.Common.{◌≡◌, ◌↔◌, true, subst, sym}
use Rattle.call_steps.specs.Servers.{servers}
use Rattle.resync_copy.specs.declared.phase.CopyAt.TheVariants as at
use Rattle.resync_copy.specs.declared.phase.Phase.{Phase}
use Rattle.resync_copy.specs.Comparing.{comparing_of}
use Rattle.resync_copy.specs.Copies.{copy_by, fences_from}
use Rattle.resync_copy.specs.Fitting.{FitsAt, IsSoundPhase}
use Rattle.resync_copy.specs.Merges.{merge_fences_from}
use Rattle.resync_copy.specs.Steps.{at_of}
use Rattle.resync_copy.specs.Views.{begun_copy}
use Rattle.resync_copy.proofs.Wants.{begun_fits, compared_fits}
use Rattle.resync_copy.proofs.phase.Asked.fits.Goals as goal

pub returns-in-Begun : goal.returns-in-Begun
returns-in-Begun c =
    let sound = subst (λ (p : Phase). IsSoundPhase p) c.in-Begun.is c.requires.sound in
    let s = servers c.args.meta.now c.args.targets.now c.args.locks.now in
    let fits = begun_fits c.in-Begun.side c.in-Begun.ids sound.0 sound.1 (copy_by c.args.self.now (at.Copy (fences_from (begun_copy c.in-Begun.side c.in-Begun.ids) 0))) s in
    let says = c.are_there.ensures.says in
    record { says = subst (λ (p : Phase). (c.are_there.result ≡ true) ↔ FitsAt (at_of p) (copy_by c.args.self.now (at_of p)) s) (sym c.in-Begun.is) (λ e. fits.0 (says.0 e), λ h. says.1 (fits.1 h)) }

pub returns-in-Compared : goal.returns-in-Compared
returns-in-Compared c =
    let sound = subst (λ (p : Phase). IsSoundPhase p) c.in-Compared.is c.requires.sound in
    let s = servers c.args.meta.now c.args.targets.now c.args.locks.now in
    let fits = compared_fits c.in-Compared.ours c.in-Compared.theirs sound (copy_by c.args.self.now (at.Merge (merge_fences_from (comparing_of c.in-Compared.ours c.in-Compared.theirs) 0))) s in
    let says = c.are_both_there.ensures in
    record { says = subst (λ (p : Phase). (c.are_both_there.result ≡ true) ↔ FitsAt (at_of p) (copy_by c.args.self.now (at_of p)) s) (sym c.in-Compared.is) (λ e. fits.0 (says.0 e), λ h. says.1 (fits.1 h)) }

pub returns-in-Begin : goal.returns-in-Begin
returns-in-Begin c =
    record { says = subst (λ (p : Phase). (c.may_begin.result ≡ true) ↔ FitsAt (at_of p) (copy_by c.args.self.now (at_of p)) (servers c.args.meta.now c.args.targets.now c.args.locks.now)) (sym c.in-Begin.is) (c.may_begin.ensures c.args.targets.now) }
