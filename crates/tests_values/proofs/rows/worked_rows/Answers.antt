use Rattle.std.proofs.Common.{◌≡◌, ℕ, ap, refl}
use Rattle.tests_values.proofs.rows.worked_rows.Goals as goal

pub returns : goal.returns
returns c = record {
  plain = λ bytes e. rw e refl;
  mirrored = λ first second e f. rw (e, f) refl;
  more_mirrors = λ first second e f. rw (e, f) refl;
  cut = λ bytes e. rw e refl;
  disturbed = λ bytes e. rw e refl;
}
