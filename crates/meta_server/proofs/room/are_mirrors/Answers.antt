use Rattle.std.proofs.Common.{◌≡◌, ◌↔◌, ◌≤◌, true, List, ℕ, subst, sym}
use Rattle.std.specs.Prelude.{Option}
use Rattle.std.specs.List.{AllByRecursion}
use Rattle.std.specs.Option.{ForSome}
use Rattle.meta_server.proofs.Asking.{for_some}
use Rattle.meta_server.proofs.room.are_mirrors.Goals as goal

pub returns-in-Some : goal.returns-in-Some
returns-in-Some c =
    subst (λ (o : Option (List ℕ)). (c.are_small.result ≡ true) ↔ ForSome o (AllByRecursion (λ id. id ≤ 65535))) (sym c.in-Some.is)
    (for_some (AllByRecursion (λ id. id ≤ 65535)) c.in-Some.ids c.are_small.result c.are_small.ensures)
