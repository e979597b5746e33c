-- The file is taken in, and both keys are given back.
use Rattle.std.proofs.Common.{◌≡◌, Some, None, ap, sym, subst, ◌∙◌}
use Rattle.layout_lease.specs.Shares.{lowest_but}
use Rattle.meta_server.specs.Files.{MetaView, file_at, file_of}
use Rattle.meta_server.proofs.Coming.{merged_comes}
use Rattle.meta_server.proofs.meta.Meta.finish_merge.Goals as goal

pub returns-in-Ok : goal.returns-in-Ok
returns-in-Ok c =
    let m = c.args.self.now in
    let found : file_of c.args.ours.file m.files ≡ Some (file_at m.files c.in-Some.place) =
    ap (λ n. file_of n m.files) (sym c.file.ensures.same) ∙ sym (subst (λ (s : MetaView). Some (file_at s.files c.in-Some.place) ≡ file_of c.file.result s.files) c.self.view_is c.in-Some.ensures.found) in
    let there : file_of c.args.theirs.file m.files ≡ Some (file_at m.files c.in-Some-numbered.other) =
    ap (λ n. file_of n m.files) (sym c.file-2.ensures.same) ∙ sym (subst (λ (s : MetaView). Some (file_at s.files c.in-Some-numbered.other) ≡ file_of c.file-2.result s.files) c.self.view_is c.in-Some-numbered.ensures.found) in
    let free : lowest_but c.args.ours.client (file_at m.files c.in-Some.place).lock ≡ None =
    ap (λ k. lowest_but k (file_at m.files c.in-Some.place).lock) (sym c.client.ensures.same) ∙ sym (subst (λ (s : MetaView). None ≡ lowest_but c.client.result (file_at s.files c.in-Some.place).lock) c.self.view_is c.in_default-free_but.ensures) in
    let free_too : lowest_but c.args.ours.client (file_at m.files c.in-Some-numbered.other).lock ≡ None =
    ap (λ k. lowest_but k (file_at m.files c.in-Some-numbered.other).lock) (sym c.client-2.ensures.same) ∙ sym (subst (λ (s : MetaView). None ≡ lowest_but c.client-2.result (file_at s.files c.in-Some-numbered.other).lock) c.self.view_is c.in_default-free_but-2.ensures) in
    record { done = merged_comes c.args.ours c.args.theirs m c.take_in.new.self c.give_both-in-Ok.new.self (file_at m.files c.in-Some.place) (file_at m.files c.in-Some-numbered.other) c.in-Ok.ids found there free free_too c.in-Ok.ensures.ids c.in-Ok.ensures.taken c.give_both-in-Ok.ensures.given }
