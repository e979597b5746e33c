use Rattle.flr_base.proofs.Puts.{puts_err}
use Rattle.layout_text.proofs.FlagFronts.{after_init, after_stale, after_prefer, after_offline, after_nosync, at_flag}
use Rattle.layout_text.proofs.fields.put_flag_names.Goals as goal

pub returns-in_err-begun-2 : goal.returns-in_err-begun-2
returns-in_err-begun-2 c =
    puts_err _ _ _ _ c.from_residual-in_err-begun-2.ensures.0
    (after_init c.args.flags _ _ _ _ c.in_ok-begun.ensures.begun c.in_ok-begun.ensures.appended
    (at_flag _ _ _ _ c.in_err-begun-2.ensures.appended))

pub returns-in_err-begun-3 : goal.returns-in_err-begun-3
returns-in_err-begun-3 c =
    puts_err _ _ _ _ c.from_residual-in_err-begun-3.ensures.0
    (after_init c.args.flags _ _ _ _ c.in_ok-begun.ensures.begun c.in_ok-begun.ensures.appended
    (after_stale c.args.flags.stale c.args.flags.prefer c.args.flags.offline c.args.flags.nosync _ _ _ _ _ c.in_ok-begun-2.ensures.begun c.in_ok-begun-2.ensures.appended
    (at_flag _ _ _ _ c.in_err-begun-3.ensures.appended)))

pub returns-in_err-begun-4 : goal.returns-in_err-begun-4
returns-in_err-begun-4 c =
    puts_err _ _ _ _ c.from_residual-in_err-begun-4.ensures.0
    (after_init c.args.flags _ _ _ _ c.in_ok-begun.ensures.begun c.in_ok-begun.ensures.appended
    (after_stale c.args.flags.stale c.args.flags.prefer c.args.flags.offline c.args.flags.nosync _ _ _ _ _ c.in_ok-begun-2.ensures.begun c.in_ok-begun-2.ensures.appended
    (after_prefer c.args.flags.prefer c.args.flags.offline c.args.flags.nosync _ _ _ _ _ c.in_ok-begun-3.ensures.begun c.in_ok-begun-3.ensures.appended
    (at_flag _ _ _ _ c.in_err-begun-4.ensures.appended))))

pub returns-in_err-begun-5 : goal.returns-in_err-begun-5
returns-in_err-begun-5 c =
    puts_err _ _ _ _ c.from_residual-in_err-begun-5.ensures.0
    (after_init c.args.flags _ _ _ _ c.in_ok-begun.ensures.begun c.in_ok-begun.ensures.appended
    (after_stale c.args.flags.stale c.args.flags.prefer c.args.flags.offline c.args.flags.nosync _ _ _ _ _ c.in_ok-begun-2.ensures.begun c.in_ok-begun-2.ensures.appended
    (after_prefer c.args.flags.prefer c.args.flags.offline c.args.flags.nosync _ _ _ _ _ c.in_ok-begun-3.ensures.begun c.in_ok-begun-3.ensures.appended
    (after_offline c.args.flags.offline c.args.flags.nosync _ _ _ _ _ c.in_ok-begun-4.ensures.begun c.in_ok-begun-4.ensures.appended
    (at_flag _ _ _ _ c.in_err-begun-5.ensures.appended)))))

pub returns-in_err-push : goal.returns-in_err-push
returns-in_err-push c =
    puts_err _ _ _ _ c.from_residual-in_err-push.ensures.0
    (after_init c.args.flags _ _ _ _ c.in_ok-begun.ensures.begun c.in_ok-begun.ensures.appended
    (after_stale c.args.flags.stale c.args.flags.prefer c.args.flags.offline c.args.flags.nosync _ _ _ _ _ c.in_ok-begun-2.ensures.begun c.in_ok-begun-2.ensures.appended
    (after_prefer c.args.flags.prefer c.args.flags.offline c.args.flags.nosync _ _ _ _ _ c.in_ok-begun-3.ensures.begun c.in_ok-begun-3.ensures.appended
    (after_offline c.args.flags.offline c.args.flags.nosync _ _ _ _ _ c.in_ok-begun-4.ensures.begun c.in_ok-begun-4.ensures.appended
    (after_nosync c.args.flags.nosync _ _ _ _ c.in_err-push.ensures.items c.in_ok-begun-5.ensures.appended)))))
