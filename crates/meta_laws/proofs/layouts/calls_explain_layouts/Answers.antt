-- Each call explains the layouts that it leaves.
use Rattle.meta_laws.proofs.Explained.{call_explained}
use Rattle.meta_laws.proofs.layouts.calls_explain_layouts.Goals as goal

pub returns : goal.returns
returns c = record { explained = call_explained }
