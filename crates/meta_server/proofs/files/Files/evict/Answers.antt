-- The cookies of the client are gone from all files.
use Rattle.std.proofs.Common.{◌≡◌, refl, ap, sym, subst, ◌∙◌, List, map}
use Rattle.meta_server.specs.Files.{File, AreAscending, AreBelow, with_evicted}
use Rattle.meta_server.specs.Listing.{files_of}
use Rattle.meta_server.proofs.Placing.{below_mapped, ascending_mapped, evicted_files}
use Rattle.meta_server.proofs.files.Files.evict.Goals as goal

pub invariant_of-self : goal.invariant_of-self
invariant_of-self c =
    let is : files_of c.evict_all.new.entries.entries ≡ map (with_evicted c.args.client) (files_of c.self.inside.entries.entries) = ap files_of c.evict_all.ensures ∙ evicted_files c.args.client c.self.inside.entries.entries in
    subst AreAscending (sym is) (ascending_mapped (with_evicted c.args.client) (files_of c.self.inside.entries.entries) (λ f. refl) c.self.invariant)

pub returns-clause-below : goal.returns-clause-below
returns-clause-below c =
    let is : files_of c.evict_all.new.entries.entries ≡ map (with_evicted c.args.client) c.args.self.now =
    ap files_of c.evict_all.ensures ∙ evicted_files c.args.client c.self.inside.entries.entries ∙ ap (λ (fs : List File). map (with_evicted c.args.client) fs) c.self.view_is in
    λ next h. subst (AreBelow next) (sym is) (below_mapped next (with_evicted c.args.client) c.args.self.now (λ f. refl) h)

pub returns-clause-changed : goal.returns-clause-changed
returns-clause-changed c =
    ap files_of c.evict_all.ensures ∙ evicted_files c.args.client c.self.inside.entries.entries ∙ ap (λ (fs : List File). map (with_evicted c.args.client) fs) c.self.view_is
