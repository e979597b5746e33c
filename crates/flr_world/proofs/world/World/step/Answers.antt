use Rattle.std.proofs.Common.{◌≡◌, ℕ, ◌+◌, ◌-◌, ◌<◌, ◌≤◌, [], ◌∷◌, ◌++◌, length, set, refl, sym, ap, subst, ◌∙◌, arith, inl, inr}
use Rattle.std.specs.Prelude.{slice_get, Some, None, option_copied}
use Rattle.std.proofs.lemmas.Option.{slice_get_read}
use Rattle.call_steps.specs.Servers.{servers}
use Rattle.script_values.specs.Scripts.{command_after}
use Rattle.client_step.specs.Callers.{IsAside}
use Rattle.flr_steps.specs.Clients.{Moves, client_next}
use Rattle.flr_steps.specs.Clients as clients
use Rattle.flr_steps.specs.Conditions.{StepFits}
use Rattle.flr_steps.specs.Runs.{HasCommand}
use Rattle.flr_steps.specs.States.{Blocked, Finished, IsRun, State, Stepped, Unknown, next, noted}
use Rattle.flr_world.specs.Worlds.{IsOnlyPending, IsWorld, pending_after, shown}
use Rattle.flr_world.proofs.Claims.{runs_are_sound}
use Rattle.flr_world.proofs.Steps.{aside, blocked, counted, finished, fits, has_command, moved, placed, short, stays, tried, unknown}
use Rattle.flr_world.proofs.world.World.step.Goals as goal
use Rattle.flr_world.proofs.world.World.step.Goals.{then-client-eq0-via-then-client-eq0, then-client-eq0-via-else-client-eq0+then-client-clients, then-is_err-via-then-is_err, then-is_err-via-else-is_err+then-is_err-2}

pub returns-then-client-eq0-clause-step : goal.returns-then-client-eq0-clause-step
returns-then-client-eq0-clause-step c =
    let i = c.self.inside in
    elim c.then-client-eq0.branch [
      | then-client-eq0-via-then-client-eq0 w ↦ (subst (λ (t : State). next t c.args.client ≡ Unknown) c.self.view_is (unknown i.script i.meta i.targets i.locks i.members.items i.entries.items i.schedule.items c.self.invariant c.args.client (inl w.if-client-eq0.true)), refl)
      | then-client-eq0-via-else-client-eq0+then-client-clients w ↦ (subst (λ (t : State). next t c.args.client ≡ Unknown) c.self.view_is (unknown i.script i.meta i.targets i.locks i.members.items i.entries.items i.schedule.items c.self.invariant c.args.client (inr (omega (arith, w.if-client-clients.true, w.clients.ensures.clients)))), refl)
    ]

pub returns-then-client-eq0-clause-run : goal.returns-then-client-eq0-clause-run
returns-then-client-eq0-clause-run c = subst IsRun c.self.view_is c.self.invariant.run

pub index_mut-member-requires : goal.index_mut-member-requires
index_mut-member-requires c =
    let i = c.self.inside in
    let many = counted i.script i.meta i.targets i.locks i.members.items i.entries.items i.schedule.items c.self.invariant in
    let few = c.if-client-clients.false in
    let some = c.if-client-eq0.false in
    omega (arith, many, few, some, c.from.ensures, c.clients.ensures.clients)

pub returns-in_default-clause-step : goal.returns-in_default-clause-step
returns-in_default-clause-step c =
    let i = c.self.inside in
    let m = c.index_mut-member.result.now in
    let many = counted i.script i.meta i.targets i.locks i.members.items i.entries.items i.schedule.items c.self.invariant in
    let less : c.from.result - 1 < length i.members.items = (let few = c.if-client-clients.false in let known = c.clients.ensures.clients in let above = c.if-client-eq0.false in omega (arith, many, few, known, above, c.from.ensures)) in
    let at = slice_get_read i.members.items (length i.members.items) (c.from.result - 1) m refl less c.index_mut-member.ensures.value in
    let none : command_after i.script c.args.client m.caller.client.done ≡ None = sym c.next_command.ensures ∙ ap option_copied c.in_default.is in
    let end = placed (λ (n j : ℕ). slice_get i.members.items j ≡ Some m → command_after i.script n m.caller.client.done ≡ None → next (shown i.script i.meta i.targets i.locks i.members.items i.entries.items i.schedule.items) n ≡ Finished) c.args.client c.from.result c.if-client-eq0.false c.from.ensures (λ k. finished i.script i.meta i.targets i.locks i.members.items i.entries.items i.schedule.items c.self.invariant k m) at none in (
      subst (λ (t : State). next t c.args.client ≡ Finished) c.self.view_is end,
      stays i.script i.meta i.targets i.locks i.members.items i.entries.items i.schedule.items c.self.invariant (c.from.result - 1) m m i.meta i.targets i.locks i.entries.items i.schedule.items at refl refl refl refl ∙ c.self.view_is,
    )

pub returns-then-is_err-clause-step : goal.returns-then-is_err-clause-step
returns-then-is_err-clause-step c =
    let i = c.self.inside in
    let m = c.index_mut-member.result.now in
    let many = counted i.script i.meta i.targets i.locks i.members.items i.entries.items i.schedule.items c.self.invariant in
    let less : c.from.result - 1 < length i.members.items = (let few = c.if-client-clients.false in let known = c.clients.ensures.clients in let above = c.if-client-eq0.false in omega (arith, many, few, known, above, c.from.ensures)) in
    let at = slice_get_read i.members.items (length i.members.items) (c.from.result - 1) m refl less c.index_mut-member.ensures.value in
    let asked : command_after i.script c.args.client m.caller.client.done ≡ Some c.in-Some.command.now = sym c.next_command.ensures ∙ ap option_copied c.in-Some.is in
    let left = placed (λ (n j : ℕ). slice_get i.members.items j ≡ Some m → command_after i.script n m.caller.client.done ≡ Some c.in-Some.command.now → HasCommand (shown i.script i.meta i.targets i.locks i.members.items i.entries.items i.schedule.items) n) c.args.client c.from.result c.if-client-eq0.false c.from.ensures (λ k. λ here commanded. has_command i.script i.meta i.targets i.locks i.members.items i.entries.items i.schedule.items c.self.invariant k m here c.in-Some.command.now commanded) at asked in (
      subst (λ (t : State). HasCommand t c.args.client) c.self.view_is left,
      elim c.then-is_err.branch [
        | then-is_err-via-then-is_err w ↦ w.self-is ∙ stays i.script i.meta i.targets i.locks i.members.items i.entries.items i.schedule.items c.self.invariant (c.from.result - 1) m m i.meta i.targets i.locks i.entries.items c.reserve.new.self.items at refl refl refl c.reserve.ensures.items ∙ c.self.view_is
        | then-is_err-via-else-is_err+then-is_err-2 w ↦ w.self-is ∙ stays i.script i.meta i.targets i.locks i.members.items i.entries.items i.schedule.items c.self.invariant (c.from.result - 1) m m i.meta i.targets i.locks w.reserve-else-is_err.new.self.items c.reserve.new.self.items at refl refl w.reserve-else-is_err.ensures.items c.reserve.ensures.items ∙ c.self.view_is
      ],
    )

pub returns-then-is_err-clause-run : goal.returns-then-is_err-clause-run
returns-then-is_err-clause-run c =
    let i = c.self.inside in
    let m = c.index_mut-member.result.now in
    let many = counted i.script i.meta i.targets i.locks i.members.items i.entries.items i.schedule.items c.self.invariant in
    let less : c.from.result - 1 < length i.members.items = (let few = c.if-client-clients.false in let known = c.clients.ensures.clients in let above = c.if-client-eq0.false in omega (arith, many, few, known, above, c.from.ensures)) in
    let at = slice_get_read i.members.items (length i.members.items) (c.from.result - 1) m refl less c.index_mut-member.ensures.value in
    elim c.then-is_err.branch [
      | then-is_err-via-then-is_err w ↦ subst IsRun (sym (w.self-is ∙ stays i.script i.meta i.targets i.locks i.members.items i.entries.items i.schedule.items c.self.invariant (c.from.result - 1) m m i.meta i.targets i.locks i.entries.items c.reserve.new.self.items at refl refl refl c.reserve.ensures.items ∙ c.self.view_is)) (subst IsRun c.self.view_is c.self.invariant.run)
      | then-is_err-via-else-is_err+then-is_err-2 w ↦ subst IsRun (sym (w.self-is ∙ stays i.script i.meta i.targets i.locks i.members.items i.entries.items i.schedule.items c.self.invariant (c.from.result - 1) m m i.meta i.targets i.locks w.reserve-else-is_err.new.self.items c.reserve.new.self.items at refl refl w.reserve-else-is_err.ensures.items c.reserve.ensures.items ∙ c.self.view_is)) (subst IsRun c.self.view_is c.self.invariant.run)
    ]

pub overflow_cast-place : goal.overflow_cast-place
overflow_cast-place c =
    let i = c.self.inside in
    let few : length i.schedule.items ≤ 8388608 = short i.script i.meta i.targets i.locks i.members.items i.entries.items i.schedule.items c.self.invariant in
    omega arith

pub overflow_add-place : goal.overflow_add-place
overflow_add-place c =
    let i = c.self.inside in
    let few : length i.schedule.items ≤ 8388608 = short i.script i.meta i.targets i.locks i.members.items i.entries.items i.schedule.items c.self.invariant in
    omega arith

pub step-requires-clause-fits : goal.step-requires-clause-fits
step-requires-clause-fits c =
    let i = c.self.inside in
    let m = c.index_mut-member.result.now in
    let many = counted i.script i.meta i.targets i.locks i.members.items i.entries.items i.schedule.items c.self.invariant in
    let less : c.from.result - 1 < length i.members.items = (let few = c.if-client-clients.false in let known = c.clients.ensures.clients in let above = c.if-client-eq0.false in omega (arith, many, few, known, above, c.from.ensures)) in
    let at = slice_get_read i.members.items (length i.members.items) (c.from.result - 1) m refl less c.index_mut-member.ensures.value in
    let asked : command_after i.script c.args.client m.caller.client.done ≡ Some c.in-Some.command.now = sym c.next_command.ensures ∙ ap option_copied c.in-Some.is in
    placed (λ (n j : ℕ). slice_get i.members.items j ≡ Some m → command_after i.script n m.caller.client.done ≡ Some c.in-Some.command.now → StepFits n m.caller.client c.in-Some.command.now (servers i.meta i.targets i.locks)) c.args.client c.from.result c.if-client-eq0.false c.from.ensures (λ k. λ here commanded. fits i.script i.meta i.targets i.locks i.members.items i.entries.items i.schedule.items c.self.invariant k m here c.in-Some.command.now commanded) at asked

pub step-requires-clause-aside : goal.step-requires-clause-aside
step-requires-clause-aside c =
    let i = c.self.inside in
    let m = c.index_mut-member.result.now in
    let many = counted i.script i.meta i.targets i.locks i.members.items i.entries.items i.schedule.items c.self.invariant in
    let less : c.from.result - 1 < length i.members.items = (let few = c.if-client-clients.false in let known = c.clients.ensures.clients in let above = c.if-client-eq0.false in omega (arith, many, few, known, above, c.from.ensures)) in
    let at = slice_get_read i.members.items (length i.members.items) (c.from.result - 1) m refl less c.index_mut-member.ensures.value in
    let asked : command_after i.script c.args.client m.caller.client.done ≡ Some c.in-Some.command.now = sym c.next_command.ensures ∙ ap option_copied c.in-Some.is in
    placed (λ (n j : ℕ). slice_get i.members.items j ≡ Some m → command_after i.script n m.caller.client.done ≡ Some c.in-Some.command.now → IsAside n c.in-Some.command.now m.caller.client m.caller.aside) c.args.client c.from.result c.if-client-eq0.false c.from.ensures (λ k. λ here commanded. aside i.script i.meta i.targets i.locks i.members.items i.entries.items i.schedule.items c.self.invariant k m here c.in-Some.command.now commanded) at asked

pub put_note-requires-clause-pending : goal.put_note-requires-clause-pending
put_note-requires-clause-pending c =
    let i = c.self.inside in
    let m = c.index_mut-member.result.now in
    let many = counted i.script i.meta i.targets i.locks i.members.items i.entries.items i.schedule.items c.self.invariant in
    let less : c.from.result - 1 < length i.members.items = (let few = c.if-client-clients.false in let known = c.clients.ensures.clients in let above = c.if-client-eq0.false in omega (arith, many, few, known, above, c.from.ensures)) in
    let at = slice_get_read i.members.items (length i.members.items) (c.from.result - 1) m refl less c.index_mut-member.ensures.value in
    let own = placed (λ (n j : ℕ). slice_get i.members.items j ≡ Some m → IsOnlyPending n m.pending i.entries.items) c.args.client c.from.result c.if-client-eq0.false c.from.ensures (λ k. λ here. (c.self.invariant.kept k m here).pending) at in
    subst (IsOnlyPending c.args.client m.pending) (sym c.reserve-else-is_err.ensures.items) own

pub invariant_of-self-in-Moved : goal.invariant_of-self-in-Moved
invariant_of-self-in-Moved c =
    let i = c.self.inside in
    let m = c.index_mut-member.result.now in
    let many = counted i.script i.meta i.targets i.locks i.members.items i.entries.items i.schedule.items c.self.invariant in
    let less : c.from.result - 1 < length i.members.items = (let few = c.if-client-clients.false in let known = c.clients.ensures.clients in let above = c.if-client-eq0.false in omega (arith, many, few, known, above, c.from.ensures)) in
    let at = slice_get_read i.members.items (length i.members.items) (c.from.result - 1) m refl less c.index_mut-member.ensures.value in
    let asked : command_after i.script c.args.client m.caller.client.done ≡ Some c.in-Some.command.now = sym c.next_command.ensures ∙ ap option_copied c.in-Some.is in
    let place : c.len.result + 1 ≡ length i.schedule.items + 1 = omega arith in
    let entries : c.put_note.new.entries.items ≡ noted c.args.client (c.len.result + 1) i.entries.items c.in-Moved.note = c.put_note.ensures.entries ∙ ap (λ es. noted c.args.client (c.len.result + 1) es c.in-Moved.note) c.reserve-else-is_err.ensures.items in
    let schedule : c.put_place.new.schedule.items ≡ i.schedule.items ++ c.args.client ∷ [] = c.put_place.ensures ∙ ap (λ cs. cs ++ c.args.client ∷ []) c.reserve.ensures.items in
    let pending : c.put_note.new.pending ≡ pending_after m.pending (length i.entries.items) c.in-Moved.note = c.put_note.ensures.pending ∙ ap (λ es. pending_after m.pending (length es) c.in-Moved.note) c.reserve-else-is_err.ensures.items in
    let both =
    placed (λ (n j : ℕ). slice_get i.members.items j ≡ Some m → command_after i.script n m.caller.client.done ≡ Some c.in-Some.command.now
    → client_next n (c.len.result + 1) m.caller.client (servers i.meta i.targets i.locks) (Some c.in-Some.command.now) ≡ Moves c.step.new.self.client (servers c.step.new.meta c.step.new.targets c.step.new.locks) c.in-Moved.note
    → c.put_note.new.entries.items ≡ noted n (c.len.result + 1) i.entries.items c.in-Moved.note → c.put_place.new.schedule.items ≡ i.schedule.items ++ n ∷ []
    → (next (shown i.script i.meta i.targets i.locks i.members.items i.entries.items i.schedule.items) n ≡ Stepped (shown i.script c.step.new.meta c.step.new.targets c.step.new.locks (set i.members.items j (record { caller = c.step.new.self; pending = c.put_note.new.pending })) c.put_note.new.entries.items c.put_place.new.schedule.items))
    × IsWorld i.script c.step.new.meta c.step.new.targets c.step.new.locks (set i.members.items j (record { caller = c.step.new.self; pending = c.put_note.new.pending })) c.put_note.new.entries.items c.put_place.new.schedule.items)
    c.args.client c.from.result c.if-client-eq0.false c.from.ensures
    (λ k here commanded is es cs. moved i.script i.meta i.targets i.locks i.members.items i.entries.items i.schedule.items c.self.invariant k m (record { caller = c.step.new.self; pending = c.put_note.new.pending }) c.in-Some.command.now c.step.new.meta c.step.new.targets c.step.new.locks c.put_note.new.entries.items c.put_place.new.schedule.items c.in-Moved.note (c.len.result + 1) here commanded place is es cs (c.in-Moved.ensures.nothing tt) pending)
    at asked c.in-Moved.ensures.step entries schedule in
    both.1

pub invariant_of-self-in-Blocked : goal.invariant_of-self-in-Blocked
invariant_of-self-in-Blocked c =
    let i = c.self.inside in
    let m = c.index_mut-member.result.now in
    let many = counted i.script i.meta i.targets i.locks i.members.items i.entries.items i.schedule.items c.self.invariant in
    let less : c.from.result - 1 < length i.members.items = (let few = c.if-client-clients.false in let known = c.clients.ensures.clients in let above = c.if-client-eq0.false in omega (arith, many, few, known, above, c.from.ensures)) in
    let at = slice_get_read i.members.items (length i.members.items) (c.from.result - 1) m refl less c.index_mut-member.ensures.value in
    let asked : command_after i.script c.args.client m.caller.client.done ≡ Some c.in-Some.command.now = sym c.next_command.ensures ∙ ap option_copied c.in-Some.is in
    let world =
    placed (λ (n j : ℕ). slice_get i.members.items j ≡ Some m → command_after i.script n m.caller.client.done ≡ Some c.in-Some.command.now → IsAside n c.in-Some.command.now c.step.new.self.client c.step.new.self.aside
    → IsWorld i.script c.step.new.meta c.step.new.targets c.step.new.locks (set i.members.items j (record { caller = c.step.new.self; pending = m.pending })) c.reserve-else-is_err.new.self.items c.reserve.new.self.items)
    c.args.client c.from.result c.if-client-eq0.false c.from.ensures
    (λ k here commanded kept. tried i.script i.meta i.targets i.locks i.members.items i.entries.items i.schedule.items c.self.invariant k m (record { caller = c.step.new.self; pending = m.pending }) c.in-Some.command.now c.step.new.meta c.step.new.targets c.step.new.locks c.reserve-else-is_err.new.self.items c.reserve.new.self.items here commanded c.in-Blocked.ensures.step.1 refl kept c.in-Blocked.ensures.step.2 c.reserve-else-is_err.ensures.items c.reserve.ensures.items)
    at asked c.in-Blocked.ensures.aside in
    world

pub invariant_of-self-in-NoMemory : goal.invariant_of-self-in-NoMemory
invariant_of-self-in-NoMemory c =
    let i = c.self.inside in
    let m = c.index_mut-member.result.now in
    let many = counted i.script i.meta i.targets i.locks i.members.items i.entries.items i.schedule.items c.self.invariant in
    let less : c.from.result - 1 < length i.members.items = (let few = c.if-client-clients.false in let known = c.clients.ensures.clients in let above = c.if-client-eq0.false in omega (arith, many, few, known, above, c.from.ensures)) in
    let at = slice_get_read i.members.items (length i.members.items) (c.from.result - 1) m refl less c.index_mut-member.ensures.value in
    let asked : command_after i.script c.args.client m.caller.client.done ≡ Some c.in-Some.command.now = sym c.next_command.ensures ∙ ap option_copied c.in-Some.is in
    let world =
    placed (λ (n j : ℕ). slice_get i.members.items j ≡ Some m → command_after i.script n m.caller.client.done ≡ Some c.in-Some.command.now → IsAside n c.in-Some.command.now c.step.new.self.client c.step.new.self.aside
    → IsWorld i.script c.step.new.meta c.step.new.targets c.step.new.locks (set i.members.items j (record { caller = c.step.new.self; pending = m.pending })) c.reserve-else-is_err.new.self.items c.reserve.new.self.items)
    c.args.client c.from.result c.if-client-eq0.false c.from.ensures
    (λ k here commanded kept. tried i.script i.meta i.targets i.locks i.members.items i.entries.items i.schedule.items c.self.invariant k m (record { caller = c.step.new.self; pending = m.pending }) c.in-Some.command.now c.step.new.meta c.step.new.targets c.step.new.locks c.reserve-else-is_err.new.self.items c.reserve.new.self.items here commanded c.in-NoMemory.ensures.step.0 refl kept c.in-NoMemory.ensures.step.1 c.reserve-else-is_err.ensures.items c.reserve.ensures.items)
    at asked c.in-NoMemory.ensures.aside in
    world

pub returns-in-Moved-clause-step : goal.returns-in-Moved-clause-step
returns-in-Moved-clause-step c =
    let i = c.self.inside in
    let m = c.index_mut-member.result.now in
    let many = counted i.script i.meta i.targets i.locks i.members.items i.entries.items i.schedule.items c.self.invariant in
    let less : c.from.result - 1 < length i.members.items = (let few = c.if-client-clients.false in let known = c.clients.ensures.clients in let above = c.if-client-eq0.false in omega (arith, many, few, known, above, c.from.ensures)) in
    let at = slice_get_read i.members.items (length i.members.items) (c.from.result - 1) m refl less c.index_mut-member.ensures.value in
    let asked : command_after i.script c.args.client m.caller.client.done ≡ Some c.in-Some.command.now = sym c.next_command.ensures ∙ ap option_copied c.in-Some.is in
    let place : c.len.result + 1 ≡ length i.schedule.items + 1 = omega arith in
    let entries : c.put_note.new.entries.items ≡ noted c.args.client (c.len.result + 1) i.entries.items c.in-Moved.note = c.put_note.ensures.entries ∙ ap (λ es. noted c.args.client (c.len.result + 1) es c.in-Moved.note) c.reserve-else-is_err.ensures.items in
    let schedule : c.put_place.new.schedule.items ≡ i.schedule.items ++ c.args.client ∷ [] = c.put_place.ensures ∙ ap (λ cs. cs ++ c.args.client ∷ []) c.reserve.ensures.items in
    let pending : c.put_note.new.pending ≡ pending_after m.pending (length i.entries.items) c.in-Moved.note = c.put_note.ensures.pending ∙ ap (λ es. pending_after m.pending (length es) c.in-Moved.note) c.reserve-else-is_err.ensures.items in
    let both =
    placed (λ (n j : ℕ). slice_get i.members.items j ≡ Some m → command_after i.script n m.caller.client.done ≡ Some c.in-Some.command.now
    → client_next n (c.len.result + 1) m.caller.client (servers i.meta i.targets i.locks) (Some c.in-Some.command.now) ≡ Moves c.step.new.self.client (servers c.step.new.meta c.step.new.targets c.step.new.locks) c.in-Moved.note
    → c.put_note.new.entries.items ≡ noted n (c.len.result + 1) i.entries.items c.in-Moved.note → c.put_place.new.schedule.items ≡ i.schedule.items ++ n ∷ []
    → (next (shown i.script i.meta i.targets i.locks i.members.items i.entries.items i.schedule.items) n ≡ Stepped (shown i.script c.step.new.meta c.step.new.targets c.step.new.locks (set i.members.items j (record { caller = c.step.new.self; pending = c.put_note.new.pending })) c.put_note.new.entries.items c.put_place.new.schedule.items))
    × IsWorld i.script c.step.new.meta c.step.new.targets c.step.new.locks (set i.members.items j (record { caller = c.step.new.self; pending = c.put_note.new.pending })) c.put_note.new.entries.items c.put_place.new.schedule.items)
    c.args.client c.from.result c.if-client-eq0.false c.from.ensures
    (λ k here commanded is es cs. moved i.script i.meta i.targets i.locks i.members.items i.entries.items i.schedule.items c.self.invariant k m (record { caller = c.step.new.self; pending = c.put_note.new.pending }) c.in-Some.command.now c.step.new.meta c.step.new.targets c.step.new.locks c.put_note.new.entries.items c.put_place.new.schedule.items c.in-Moved.note (c.len.result + 1) here commanded place is es cs (c.in-Moved.ensures.nothing tt) pending)
    at asked c.in-Moved.ensures.step entries schedule in
    subst (λ (t : State). next t c.args.client ≡ Stepped (shown i.script c.step.new.meta c.step.new.targets c.step.new.locks (set i.members.items (c.from.result - 1) (record { caller = c.step.new.self; pending = c.put_note.new.pending })) c.put_note.new.entries.items c.put_place.new.schedule.items)) c.self.view_is both.0

pub returns-in-Moved-clause-run : goal.returns-in-Moved-clause-run
returns-in-Moved-clause-run c =
    let i = c.self.inside in
    let m = c.index_mut-member.result.now in
    let many = counted i.script i.meta i.targets i.locks i.members.items i.entries.items i.schedule.items c.self.invariant in
    let less : c.from.result - 1 < length i.members.items = (let few = c.if-client-clients.false in let known = c.clients.ensures.clients in let above = c.if-client-eq0.false in omega (arith, many, few, known, above, c.from.ensures)) in
    let at = slice_get_read i.members.items (length i.members.items) (c.from.result - 1) m refl less c.index_mut-member.ensures.value in
    let asked : command_after i.script c.args.client m.caller.client.done ≡ Some c.in-Some.command.now = sym c.next_command.ensures ∙ ap option_copied c.in-Some.is in
    let place : c.len.result + 1 ≡ length i.schedule.items + 1 = omega arith in
    let entries : c.put_note.new.entries.items ≡ noted c.args.client (c.len.result + 1) i.entries.items c.in-Moved.note = c.put_note.ensures.entries ∙ ap (λ es. noted c.args.client (c.len.result + 1) es c.in-Moved.note) c.reserve-else-is_err.ensures.items in
    let schedule : c.put_place.new.schedule.items ≡ i.schedule.items ++ c.args.client ∷ [] = c.put_place.ensures ∙ ap (λ cs. cs ++ c.args.client ∷ []) c.reserve.ensures.items in
    let pending : c.put_note.new.pending ≡ pending_after m.pending (length i.entries.items) c.in-Moved.note = c.put_note.ensures.pending ∙ ap (λ es. pending_after m.pending (length es) c.in-Moved.note) c.reserve-else-is_err.ensures.items in
    let both =
    placed (λ (n j : ℕ). slice_get i.members.items j ≡ Some m → command_after i.script n m.caller.client.done ≡ Some c.in-Some.command.now
    → client_next n (c.len.result + 1) m.caller.client (servers i.meta i.targets i.locks) (Some c.in-Some.command.now) ≡ Moves c.step.new.self.client (servers c.step.new.meta c.step.new.targets c.step.new.locks) c.in-Moved.note
    → c.put_note.new.entries.items ≡ noted n (c.len.result + 1) i.entries.items c.in-Moved.note → c.put_place.new.schedule.items ≡ i.schedule.items ++ n ∷ []
    → (next (shown i.script i.meta i.targets i.locks i.members.items i.entries.items i.schedule.items) n ≡ Stepped (shown i.script c.step.new.meta c.step.new.targets c.step.new.locks (set i.members.items j (record { caller = c.step.new.self; pending = c.put_note.new.pending })) c.put_note.new.entries.items c.put_place.new.schedule.items))
    × IsWorld i.script c.step.new.meta c.step.new.targets c.step.new.locks (set i.members.items j (record { caller = c.step.new.self; pending = c.put_note.new.pending })) c.put_note.new.entries.items c.put_place.new.schedule.items)
    c.args.client c.from.result c.if-client-eq0.false c.from.ensures
    (λ k here commanded is es cs. moved i.script i.meta i.targets i.locks i.members.items i.entries.items i.schedule.items c.self.invariant k m (record { caller = c.step.new.self; pending = c.put_note.new.pending }) c.in-Some.command.now c.step.new.meta c.step.new.targets c.step.new.locks c.put_note.new.entries.items c.put_place.new.schedule.items c.in-Moved.note (c.len.result + 1) here commanded place is es cs (c.in-Moved.ensures.nothing tt) pending)
    at asked c.in-Moved.ensures.step entries schedule in
    both.1.run

pub returns-in-Blocked-clause-step : goal.returns-in-Blocked-clause-step
returns-in-Blocked-clause-step c =
    let i = c.self.inside in
    let m = c.index_mut-member.result.now in
    let many = counted i.script i.meta i.targets i.locks i.members.items i.entries.items i.schedule.items c.self.invariant in
    let less : c.from.result - 1 < length i.members.items = (let few = c.if-client-clients.false in let known = c.clients.ensures.clients in let above = c.if-client-eq0.false in omega (arith, many, few, known, above, c.from.ensures)) in
    let at = slice_get_read i.members.items (length i.members.items) (c.from.result - 1) m refl less c.index_mut-member.ensures.value in
    let asked : command_after i.script c.args.client m.caller.client.done ≡ Some c.in-Some.command.now = sym c.next_command.ensures ∙ ap option_copied c.in-Some.is in
    let place : c.len.result + 1 ≡ length i.schedule.items + 1 = omega arith in
    let wait = placed (λ (n j : ℕ). slice_get i.members.items j ≡ Some m → command_after i.script n m.caller.client.done ≡ Some c.in-Some.command.now → client_next n (c.len.result + 1) m.caller.client (servers i.meta i.targets i.locks) (Some c.in-Some.command.now) ≡ clients.Waits c.in-Blocked.holder → next (shown i.script i.meta i.targets i.locks i.members.items i.entries.items i.schedule.items) n ≡ Blocked c.in-Blocked.holder) c.args.client c.from.result c.if-client-eq0.false c.from.ensures (λ k. λ here commanded is. blocked i.script i.meta i.targets i.locks i.members.items i.entries.items i.schedule.items c.self.invariant k m here c.in-Some.command.now commanded c.in-Blocked.holder (c.len.result + 1) place is) at asked c.in-Blocked.ensures.step.0 in (
      subst (λ (t : State). next t c.args.client ≡ Blocked c.in-Blocked.holder) c.self.view_is wait,
      stays i.script i.meta i.targets i.locks i.members.items i.entries.items i.schedule.items c.self.invariant (c.from.result - 1) m (record { caller = c.step.new.self; pending = m.pending }) c.step.new.meta c.step.new.targets c.step.new.locks c.reserve-else-is_err.new.self.items c.reserve.new.self.items at c.in-Blocked.ensures.step.1 c.in-Blocked.ensures.step.2 c.reserve-else-is_err.ensures.items c.reserve.ensures.items ∙ c.self.view_is,
    )

pub returns-in-Blocked-clause-run : goal.returns-in-Blocked-clause-run
returns-in-Blocked-clause-run c =
    let i = c.self.inside in
    let m = c.index_mut-member.result.now in
    let many = counted i.script i.meta i.targets i.locks i.members.items i.entries.items i.schedule.items c.self.invariant in
    let less : c.from.result - 1 < length i.members.items = (let few = c.if-client-clients.false in let known = c.clients.ensures.clients in let above = c.if-client-eq0.false in omega (arith, many, few, known, above, c.from.ensures)) in
    let at = slice_get_read i.members.items (length i.members.items) (c.from.result - 1) m refl less c.index_mut-member.ensures.value in
    let asked : command_after i.script c.args.client m.caller.client.done ≡ Some c.in-Some.command.now = sym c.next_command.ensures ∙ ap option_copied c.in-Some.is in
    let world =
    placed (λ (n j : ℕ). slice_get i.members.items j ≡ Some m → command_after i.script n m.caller.client.done ≡ Some c.in-Some.command.now → IsAside n c.in-Some.command.now c.step.new.self.client c.step.new.self.aside
    → IsWorld i.script c.step.new.meta c.step.new.targets c.step.new.locks (set i.members.items j (record { caller = c.step.new.self; pending = m.pending })) c.reserve-else-is_err.new.self.items c.reserve.new.self.items)
    c.args.client c.from.result c.if-client-eq0.false c.from.ensures
    (λ k here commanded kept. tried i.script i.meta i.targets i.locks i.members.items i.entries.items i.schedule.items c.self.invariant k m (record { caller = c.step.new.self; pending = m.pending }) c.in-Some.command.now c.step.new.meta c.step.new.targets c.step.new.locks c.reserve-else-is_err.new.self.items c.reserve.new.self.items here commanded c.in-Blocked.ensures.step.1 refl kept c.in-Blocked.ensures.step.2 c.reserve-else-is_err.ensures.items c.reserve.ensures.items)
    at asked c.in-Blocked.ensures.aside in
    world.run

pub returns-in-NoMemory-clause-step : goal.returns-in-NoMemory-clause-step
returns-in-NoMemory-clause-step c =
    let i = c.self.inside in
    let m = c.index_mut-member.result.now in
    let many = counted i.script i.meta i.targets i.locks i.members.items i.entries.items i.schedule.items c.self.invariant in
    let less : c.from.result - 1 < length i.members.items = (let few = c.if-client-clients.false in let known = c.clients.ensures.clients in let above = c.if-client-eq0.false in omega (arith, many, few, known, above, c.from.ensures)) in
    let at = slice_get_read i.members.items (length i.members.items) (c.from.result - 1) m refl less c.index_mut-member.ensures.value in
    let asked : command_after i.script c.args.client m.caller.client.done ≡ Some c.in-Some.command.now = sym c.next_command.ensures ∙ ap option_copied c.in-Some.is in
    let left = placed (λ (n j : ℕ). slice_get i.members.items j ≡ Some m → command_after i.script n m.caller.client.done ≡ Some c.in-Some.command.now → HasCommand (shown i.script i.meta i.targets i.locks i.members.items i.entries.items i.schedule.items) n) c.args.client c.from.result c.if-client-eq0.false c.from.ensures (λ k. λ here commanded. has_command i.script i.meta i.targets i.locks i.members.items i.entries.items i.schedule.items c.self.invariant k m here c.in-Some.command.now commanded) at asked in (
      subst (λ (t : State). HasCommand t c.args.client) c.self.view_is left,
      stays i.script i.meta i.targets i.locks i.members.items i.entries.items i.schedule.items c.self.invariant (c.from.result - 1) m (record { caller = c.step.new.self; pending = m.pending }) c.step.new.meta c.step.new.targets c.step.new.locks c.reserve-else-is_err.new.self.items c.reserve.new.self.items at c.in-NoMemory.ensures.step.0 c.in-NoMemory.ensures.step.1 c.reserve-else-is_err.ensures.items c.reserve.ensures.items ∙ c.self.view_is,
    )

pub returns-in-NoMemory-clause-run : goal.returns-in-NoMemory-clause-run
returns-in-NoMemory-clause-run c =
    let i = c.self.inside in
    let m = c.index_mut-member.result.now in
    let many = counted i.script i.meta i.targets i.locks i.members.items i.entries.items i.schedule.items c.self.invariant in
    let less : c.from.result - 1 < length i.members.items = (let few = c.if-client-clients.false in let known = c.clients.ensures.clients in let above = c.if-client-eq0.false in omega (arith, many, few, known, above, c.from.ensures)) in
    let at = slice_get_read i.members.items (length i.members.items) (c.from.result - 1) m refl less c.index_mut-member.ensures.value in
    let asked : command_after i.script c.args.client m.caller.client.done ≡ Some c.in-Some.command.now = sym c.next_command.ensures ∙ ap option_copied c.in-Some.is in
    let world =
    placed (λ (n j : ℕ). slice_get i.members.items j ≡ Some m → command_after i.script n m.caller.client.done ≡ Some c.in-Some.command.now → IsAside n c.in-Some.command.now c.step.new.self.client c.step.new.self.aside
    → IsWorld i.script c.step.new.meta c.step.new.targets c.step.new.locks (set i.members.items j (record { caller = c.step.new.self; pending = m.pending })) c.reserve-else-is_err.new.self.items c.reserve.new.self.items)
    c.args.client c.from.result c.if-client-eq0.false c.from.ensures
    (λ k here commanded kept. tried i.script i.meta i.targets i.locks i.members.items i.entries.items i.schedule.items c.self.invariant k m (record { caller = c.step.new.self; pending = m.pending }) c.in-Some.command.now c.step.new.meta c.step.new.targets c.step.new.locks c.reserve-else-is_err.new.self.items c.reserve.new.self.items here commanded c.in-NoMemory.ensures.step.0 refl kept c.in-NoMemory.ensures.step.1 c.reserve-else-is_err.ensures.items c.reserve.ensures.items)
    at asked c.in-NoMemory.ensures.aside in
    world.run

pub returns-then-client-eq0-clause-sound : goal.returns-then-client-eq0-clause-sound
returns-then-client-eq0-clause-sound c = runs_are_sound _ (returns-then-client-eq0-clause-run c)

pub returns-then-is_err-clause-sound : goal.returns-then-is_err-clause-sound
returns-then-is_err-clause-sound c = runs_are_sound _ (returns-then-is_err-clause-run c)

pub returns-in-Moved-clause-sound : goal.returns-in-Moved-clause-sound
returns-in-Moved-clause-sound c = runs_are_sound _ (returns-in-Moved-clause-run c)

pub returns-in-Blocked-clause-sound : goal.returns-in-Blocked-clause-sound
returns-in-Blocked-clause-sound c = runs_are_sound _ (returns-in-Blocked-clause-run c)

pub returns-in-NoMemory-clause-sound : goal.returns-in-NoMemory-clause-sound
returns-in-NoMemory-clause-sound c = runs_are_sound _ (returns-in-NoMemory-clause-run c)

pub returns-in_default-clause-sound : goal.returns-in_default-clause-sound
returns-in_default-clause-sound c = runs_are_sound _ (subst IsRun (sym (returns-in_default-clause-step c).1) (subst IsRun c.self.view_is c.self.invariant.run))
