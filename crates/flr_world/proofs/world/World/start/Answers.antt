use Rattle.std.proofs.Common.{replicate, ap, ◌∙◌}
use Rattle.object_target.specs.TargetState.{new_targets}
use Rattle.meta_server.specs.Files.{new_meta}
use Rattle.flr_world.specs.Worlds.{new_member}
use Rattle.flr_world.proofs.Starting.{is_start, start_world}
use Rattle.flr_world.proofs.world.World.start.Goals as goal

pub invariant_of-result : goal.invariant_of-result
invariant_of-result c =
    start_world c.args.script c.in_ok-meta.meta c.in_ok-targets.targets c.new-3.result c.in_ok-members.members.items c.new-4.result.items c.new-5.result.items c.targets.ensures.limits
    (c.in_ok-meta.ensures.new ∙ ap (λ n. new_meta n c.most.result) c.targets.ensures.targets ∙ ap (new_meta c.args.script.targets) c.most.ensures.most)
    (c.in_ok-targets.ensures.empty ∙ ap (λ n. new_targets n c.fails.result.now) c.targets-2.ensures.targets ∙ ap (new_targets c.args.script.targets) c.fails.ensures.fails)
    c.new-3.ensures.empty (c.in_ok-members.ensures ∙ ap (λ n. replicate n new_member) c.clients.ensures.clients) c.new-4.ensures.items c.new-5.ensures.items

pub returns-clause-start : goal.returns-clause-start
returns-clause-start c =
    is_start c.args.script c.in_ok-meta.meta c.in_ok-targets.targets c.new-3.result c.in_ok-members.members.items c.new-4.result.items c.new-5.result.items c.targets.ensures.limits
    (c.in_ok-meta.ensures.new ∙ ap (λ n. new_meta n c.most.result) c.targets.ensures.targets ∙ ap (new_meta c.args.script.targets) c.most.ensures.most)
    (c.in_ok-targets.ensures.empty ∙ ap (λ n. new_targets n c.fails.result.now) c.targets-2.ensures.targets ∙ ap (new_targets c.args.script.targets) c.fails.ensures.fails)
    c.new-3.ensures.empty (c.in_ok-members.ensures ∙ ap (λ n. replicate n new_member) c.clients.ensures.clients) c.new-4.ensures.items c.new-5.ensures.items

pub returns-clause-run : goal.returns-clause-run
returns-clause-run c =
    (start_world c.args.script c.in_ok-meta.meta c.in_ok-targets.targets c.new-3.result c.in_ok-members.members.items c.new-4.result.items c.new-5.result.items c.targets.ensures.limits
    (c.in_ok-meta.ensures.new ∙ ap (λ n. new_meta n c.most.result) c.targets.ensures.targets ∙ ap (new_meta c.args.script.targets) c.most.ensures.most)
    (c.in_ok-targets.ensures.empty ∙ ap (λ n. new_targets n c.fails.result.now) c.targets-2.ensures.targets ∙ ap (new_targets c.args.script.targets) c.fails.ensures.fails)
    c.new-3.ensures.empty (c.in_ok-members.ensures ∙ ap (λ n. replicate n new_member) c.clients.ensures.clients) c.new-4.ensures.items c.new-5.ensures.items).run
