use Rattle.std.proofs.Common.{◌∙◌}
use Rattle.script_values.proofs.ScriptTexts.{script_put}
use Rattle.script_values.proofs.listing.print_script.Goals as goal

pub returns : goal.returns
returns c = record {
  form = c.from_vec.ensures.same
      ∙ script_put c.args.script.now c.from.result c.from-2.result c.fails.result.now c.all.result.now c.new-out.result.items c.put_number_line.new.out.items c.put_number_line-2.new.out.items c.put_number_line-3.new.out.items
      c.put_fails.new.out.items c.put_clients.new.out.items (c.from.ensures ∙ c.targets.ensures.targets) (c.from-2.ensures ∙ c.most.ensures.most) c.fails.ensures.fails c.all.ensures.all c.new-out.ensures.items
      c.in_ok-put_number_line.ensures c.in_ok-put_number_line-2.ensures c.in_ok-put_number_line-3.ensures c.in_ok-put_fails.ensures c.in_ok-put_clients.ensures;
}
