-- The file that is opened is the one that has room for a cookie.
use Rattle.std.proofs.Common.{◌≡◌, Some, sym, subst}
use Rattle.meta_server.specs.Files.{MetaView, file_at, file_named}
use Rattle.meta_server.proofs.meta.Meta.open_read.Goals as goal

pub share-requires-clause-room : goal.share-requires-clause-room
share-requires-clause-room c =
    (c.requires.share (file_at c.args.self.now.files c.in-Some.place) (sym (subst (λ (m : MetaView). Some (file_at m.files c.in-Some.place) ≡ file_named c.args.name.now m.files) c.self.view_is c.in-Some.ensures.found))).1
