-- The client shares the lock of the file at its place.
use Rattle.std.proofs.Common.{◌≡◌, refl, ap, sym, subst}
use Rattle.meta_server.specs.declared.files.Kept.{Kept}
use Rattle.meta_server.specs.Files.{File}
use Rattle.meta_server.specs.Listing.{file_of_entry}
use Rattle.meta_server.specs.Files.{with_share}
use Rattle.layout_lease.specs.Shares.{cookie_for, cookies_of}
use Rattle.std.proofs.Common.{◌<◌, [], ◌∙◌}
use Rattle.meta_server.proofs.Placing.{found_at}
use Rattle.meta_server.proofs.Placing.{written}
use Rattle.meta_server.proofs.files.Files.share.Goals as goal

pub invariant_of-self : goal.invariant_of-self
invariant_of-self c = (written c.self.inside.entries.entries c.args.self.now c.args.place c.index_mut.result.now c.share.new.self (with_share c.args.client) c.self.view_is c.self.invariant c.index_mut.ensures.value
    (λ name. ap (λ (k : Kept). file_of_entry (name, k)) (sym (c.share.ensures.kept))) (λ f. refl)).ascending

pub returns-clause-shared : goal.returns-clause-shared
returns-clause-shared c = (written c.self.inside.entries.entries c.args.self.now c.args.place c.index_mut.result.now c.share.new.self (with_share c.args.client) c.self.view_is c.self.invariant c.index_mut.ensures.value
    (λ name. ap (λ (k : Kept). file_of_entry (name, k)) (sym (c.share.ensures.kept))) (λ f. refl)).after

pub returns-clause-below : goal.returns-clause-below
returns-clause-below c = (written c.self.inside.entries.entries c.args.self.now c.args.place c.index_mut.result.now c.share.new.self (with_share c.args.client) c.self.view_is c.self.invariant c.index_mut.ensures.value
    (λ name. ap (λ (k : Kept). file_of_entry (name, k)) (sym (c.share.ensures.kept))) (λ f. refl)).below

pub share-requires-clause-not_held : goal.share-requires-clause-not_held
share-requires-clause-not_held c =
    subst (λ (f : File). cookies_of c.args.client f.lock.cookies ≡ []) (found_at c.self.inside.entries.entries c.args.self.now c.args.place c.index_mut.result.now c.self.view_is c.index_mut.ensures.value) c.requires.not_held

pub share-requires-clause-room : goal.share-requires-clause-room
share-requires-clause-room c =
    subst (λ (f : File). f.lock.next < 4286578688) (found_at c.self.inside.entries.entries c.args.self.now c.args.place c.index_mut.result.now c.self.view_is c.index_mut.ensures.value) c.requires.room

pub returns-clause-cookie : goal.returns-clause-cookie
returns-clause-cookie c =
    c.share.ensures.cookie ∙ ap (λ (f : File). cookie_for c.args.client f.lock) (sym (found_at c.self.inside.entries.entries c.args.self.now c.args.place c.index_mut.result.now c.self.view_is c.index_mut.ensures.value))
