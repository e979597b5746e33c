-- What is kept at a place is that of the file there.
use Rattle.std.proofs.Common.{◌≡◌, List, sym, ap, subst}
use Rattle.meta_server.specs.Files.{File, file_at}
use Rattle.meta_server.proofs.Placing.{kept_at}
use Rattle.meta_server.proofs.files.Files.kept.Goals as goal

pub returns-clause-number : goal.returns-clause-number
returns-clause-number c =
    subst (λ (fs : List File). c.index.result.now.number ≡ (file_at fs c.args.place).number) c.self.view_is
    (sym (ap (λ (f : File). f.number) (kept_at c.self.inside.entries.entries c.args.place c.index.result.now c.index.ensures)))

pub returns-clause-size : goal.returns-clause-size
returns-clause-size c =
    subst (λ (fs : List File). c.index.result.now.size ≡ (file_at fs c.args.place).size) c.self.view_is
    (sym (ap (λ (f : File). f.size) (kept_at c.self.inside.entries.entries c.args.place c.index.result.now c.index.ensures)))

pub returns-clause-layout : goal.returns-clause-layout
returns-clause-layout c =
    subst (λ (fs : List File). c.index.result.now.layout ≡ (file_at fs c.args.place).layout) c.self.view_is
    (sym (ap (λ (f : File). f.layout) (kept_at c.self.inside.entries.entries c.args.place c.index.result.now c.index.ensures)))

pub returns-clause-lock : goal.returns-clause-lock
returns-clause-lock c =
    subst (λ (fs : List File). c.index.result.now.lock ≡ (file_at fs c.args.place).lock) c.self.view_is
    (sym (ap (λ (f : File). f.lock) (kept_at c.self.inside.entries.entries c.args.place c.index.result.now c.index.ensures)))
