use Rattle.std.proofs.Common.{◌≤◌, sym, ◌∙◌, subst}
use Rattle.composite_layout.specs.Layouts.{most}
use Rattle.layout_text.specs.Viable.{IsSmall}
use Rattle.layout_text.specs.declared.place.Place.{Place}
use Rattle.layout_text.proofs.Coming.{fits_left, moved_small}
use Rattle.layout_text.proofs.place.next.Goals as goal

pub moved-requires-clause-left : goal.moved-requires-clause-left
moved-requires-clause-left c = fits_left c.in-Going-Component.place c.args.seen.now c.in-Going-Component.component (sym c.fits.ensures ∙ c.if-fits.true)

pub going-requires-in-Going-Component : goal.going-requires-in-Going-Component
going-requires-in-Going-Component c =
    subst (λ (q : Place). q.begun ≤ most q.head.state) (sym c.moved.ensures)
    (moved_small c.in-Going-Component.place c.args.seen.now c.in-Going-Component.component (sym c.fits.ensures ∙ c.if-fits.true) (subst IsSmall c.in-Going-Component.is-0 c.requires))
