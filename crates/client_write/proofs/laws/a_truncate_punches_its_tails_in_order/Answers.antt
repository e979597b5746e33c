use Rattle.client_write.proofs.CutRunLaws.{punches_in_order, truncated_is_whole}
use Rattle.client_write.proofs.DeedLaws.{cut_step_does_deed}
use Rattle.client_write.proofs.laws.a_truncate_punches_its_tails_in_order.Goals as goal

pub returns : goal.returns
returns c = record { order = punches_in_order; calls = cut_step_does_deed; whole = truncated_is_whole }
