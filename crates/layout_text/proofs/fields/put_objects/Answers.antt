use Rattle.std.proofs.Common.{[], ◌∷◌, ◌++◌}
use Rattle.std.specs.Prelude.{codes}
use Rattle.text_words.specs.Items.{object_text}
use Rattle.text_words.specs.Lists.{list_text}
use Rattle.flr_base.proofs.Puts.{puts_err}
use Rattle.layout_text.proofs.PrintLaws.{late_front, put_value}
use Rattle.layout_text.proofs.fields.put_objects.Goals as goal

pub returns-in_err-push : goal.returns-in_err-push
returns-in_err-push c =
    puts_err _ _ _ _ c.from_residual-in_err-push.ensures.0
    (late_front _ _ _ (32 ∷ codes "objects") (32 ∷ (list_text object_text c.args.objects.now ++ [])) c.in_err-push.ensures.items c.in_ok-put_word.ensures.appended)

pub returns : goal.returns
returns c = put_value c.put_list.result _ _ _ _ (codes "objects") (list_text object_text c.args.objects.now) c.in_ok-put_word.ensures.appended c.in_ok-push.ensures.items c.put_list.ensures.appended
