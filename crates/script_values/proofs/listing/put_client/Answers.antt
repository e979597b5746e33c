use Rattle.script_values.proofs.ScriptTexts.{block_put}
use Rattle.script_values.proofs.listing.put_client.Goals as goal

pub returns : goal.returns
returns c = block_put c.put_commands.result c.args.number c.args.commands.now c.args.out.now.items c.put_number_line.new.out.items c.put_commands.new.out.items c.in_ok-put_number_line.ensures c.put_commands.ensures
