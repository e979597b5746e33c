use Rattle.std.proofs.Common.{◌≡◌, ◌↔◌, Bool, true, nat_lt, ap, subst, sym, ◌∙◌, arith}
use Rattle.std.specs.List.{list_all}
use Rattle.meta_server.specs.Conditions.{HasObjectRoom}
use Rattle.meta_server.specs.Files.{MetaView}
use Rattle.meta_server.proofs.Asking.{below_all}
use Rattle.meta_server.proofs.meta.Meta.has_object_room.Goals as goal

pub returns : goal.returns
returns c =
    let is = c.is_below.ensures.says ∙ ap (λ (m : MetaView). list_all (λ n. nat_lt n 4278190080) m.nexts) c.self.view_is in
    record { says = subst (λ (b : Bool). (b ≡ true) ↔ HasObjectRoom c.args.self.now) (sym is) (below_all 4278190080 c.args.self.now.nexts (omega arith)) }
