use Rattle.client_write.proofs.DeedLaws.{step_does_deed}
use Rattle.client_write.proofs.WriteRunLaws.{sends_in_order, written_is_whole}
use Rattle.client_write.proofs.laws.a_write_sends_its_pieces_in_order.Goals as goal

pub returns : goal.returns
returns c = record { order = sends_in_order; calls = step_does_deed; whole = written_is_whole }
