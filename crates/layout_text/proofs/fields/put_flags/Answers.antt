use Rattle.std.proofs.Common.{[], ◌∷◌, ◌++◌}
use Rattle.std.specs.Prelude.{codes}
use Rattle.flr_base.proofs.Puts.{puts_err}
use Rattle.layout_text.specs.Texts.{flags_word}
use Rattle.layout_text.proofs.PrintLaws.{late_front, put_value}
use Rattle.layout_text.proofs.fields.put_flags.Goals as goal

pub returns-in_err-push : goal.returns-in_err-push
returns-in_err-push c =
    puts_err _ _ _ _ c.from_residual-in_err-push.ensures.0
    (late_front _ _ _ (32 ∷ codes "flags") (32 ∷ (flags_word c.args.flags ++ [])) c.in_err-push.ensures.items c.in_ok-put_word.ensures.appended)

pub returns : goal.returns
returns c = put_value c.put_flag_names.result _ _ _ _ (codes "flags") (flags_word c.args.flags) c.in_ok-put_word.ensures.appended c.in_ok-push.ensures.items c.put_flag_names.ensures
