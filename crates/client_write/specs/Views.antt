-- What contracts see of an attempt to write or to cut.
use Rattle.std.specs.Prelude.{List}
use Rattle.mirror_select.specs.declared.types.Piece.{Piece}
use Rattle.mirror_select.specs.declared.types.Tail.{Tail}
use Rattle.meta_server.specs.declared.answers.Opened.{Opened}

-- what a write has since it opened its file: the pieces are those that the layout cuts its range into
pub record WritingView : Type 0 where
  pub opened : Opened
  pub pieces : List Piece

-- what a truncate has since it opened its file: the tails are those that the layout has from its size on
pub record CuttingView : Type 0 where
  pub opened : Opened
  pub tails : List Tail
