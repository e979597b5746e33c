use Rattle.std.proofs.Common.{◌≡◌, ◌↔◌, ◌<◌, Bool, true, nat_lt, List, subst, sym}
use Rattle.std.specs.List.{AllByRecursion, list_all}
use Rattle.std.specs.Map.{values_of}
use Rattle.meta_server.specs.declared.files.Kept.{Kept}
use Rattle.meta_server.specs.Files.{File}
use Rattle.meta_server.proofs.Asking.{young}
use Rattle.meta_server.proofs.files.Files.have_generation_room.Goals as goal

pub returns : goal.returns
returns c =
    subst (λ (b : Bool). (b ≡ true) ↔ AllByRecursion (λ (f : File). f.layout.generation < 4294901760) c.args.self.now) (sym c.are_young.ensures)
    (subst (λ (fs : List File). (list_all (λ (k : Kept). nat_lt k.layout.generation 4294901760) (values_of c.self.inside.entries.entries) ≡ true) ↔ AllByRecursion (λ (f : File). f.layout.generation < 4294901760) fs) c.self.view_is (young 4294901760 c.self.inside.entries.entries))
