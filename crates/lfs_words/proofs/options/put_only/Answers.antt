use Rattle.std.proofs.Common.{ℕ, List, ◌++◌, ◌∷◌, [], Option, sym, subst}
use Rattle.std.specs.Prelude.{codes}
use Rattle.lfs_values.specs.MirrorIds.{ids_text}
use Rattle.flr_base.specs.Puts.{Puts}
use Rattle.flr_base.proofs.Puts.{puts_err}
use Rattle.lfs_words.specs.Printing.{after_spaces, only_words}
use Rattle.lfs_words.proofs.Spaced.{late_front, put_value}
use Rattle.lfs_words.proofs.options.put_only.Goals as goal

pub returns-in_err-push : goal.returns-in_err-push
returns-in_err-push c =
    subst (λ (only : Option (List ℕ)). Puts c.args.out.now.items c.push.new.self.items c.from_residual-in_err-push.result (after_spaces (only_words only))) (sym c.in-Some.is)
    (puts_err _ _ _ _ c.from_residual-in_err-push.ensures.0 (late_front _ _ _ (32 ∷ codes "--only") (32 ∷ (ids_text c.in-Some.ids ++ [])) c.in_err-push.ensures.items c.in_ok-put_word.ensures.appended))

pub returns : goal.returns
returns c =
    subst (λ (only : Option (List ℕ)). Puts c.args.out.now.items c.put_ids.new.out.items c.put_ids.result (after_spaces (only_words only))) (sym c.in-Some.is)
    (put_value c.put_ids.result _ _ _ _ (codes "--only") (ids_text c.in-Some.ids) c.in_ok-put_word.ensures.appended c.in_ok-push.ensures.items c.put_ids.ensures.appended)
