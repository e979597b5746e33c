use Rattle.std.proofs.Common.{◌≡◌, ◌+◌, List, [], ◌∷◌, ap, ◌∙◌, sym, subst, arith}
use Rattle.std.proofs.Math.ListN.{length-set}
use Rattle.layout_lease.specs.Shares.{LockView, cookie_for, cookies_of, shared}
use Rattle.layout_lease.specs.declared.shared.Share.{Share}
use Rattle.layout_lease.proofs.SoundLock.{room_for_one, take_one_more, sound_one_more}
use Rattle.layout_lease.proofs.CookiesOf.{shared_only}
use Rattle.layout_lease.proofs.shared.LayoutLock.share.Goals as goal

pub bounds-self-inside-self-inside : goal.bounds-self-inside-self-inside
bounds-self-inside-self-inside c =
    let none = subst (λ (lock : LockView). cookies_of c.args.client lock.cookies ≡ []) (sym c.self.view_is) c.requires.not_held in
    room_for_one c.args.client c.self.inside.len c.self.inside.next c.self.inside.shares c.self.invariant.0 c.self.invariant.1 c.requires.client none c.self.invariant.2

pub invariant_of-self : goal.invariant_of-self
invariant_of-self c =
    let none = subst (λ (lock : LockView). cookies_of c.args.client lock.cookies ≡ []) (sym c.self.view_is) c.requires.not_held in
    let room = room_for_one c.args.client c.self.inside.len c.self.inside.next c.self.inside.shares c.self.invariant.0 c.self.invariant.1 c.requires.client none c.self.invariant.2 in
    (simp length-set c.self.invariant.0, omega (arith, room), sound_one_more c.args.client c.self.inside.len c.self.inside.next c.self.inside.shares c.self.invariant.0 c.self.invariant.1 c.requires.client none c.self.invariant.2)

pub returns-clause-shared : goal.returns-clause-shared
returns-clause-shared c =
    let none = subst (λ (lock : LockView). cookies_of c.args.client lock.cookies ≡ []) (sym c.self.view_is) c.requires.not_held in
    let more = take_one_more c.args.client c.self.inside.len c.self.inside.next c.self.inside.shares c.self.invariant.0 c.self.invariant.1 c.requires.client none c.self.invariant.2 (record { client = c.args.client; number = c.self.inside.next }) in
    let with_cookies : List Share → LockView = λ cookies. record { cookies = cookies; next = c.self.inside.next + 1 } in
    ap with_cookies more ∙ ap (shared c.args.client) c.self.view_is

pub returns-clause-sound : goal.returns-clause-sound
returns-clause-sound c =
    let none = subst (λ (lock : LockView). cookies_of c.args.client lock.cookies ≡ []) (sym c.self.view_is) c.requires.not_held in
    sound_one_more c.args.client c.self.inside.len c.self.inside.next c.self.inside.shares c.self.invariant.0 c.self.invariant.1 c.requires.client none c.self.invariant.2

pub returns-clause-only : goal.returns-clause-only
returns-clause-only c =
    ap (λ (lock : LockView). cookies_of c.args.client lock.cookies) (returns-clause-shared c)
    ∙ shared_only c.args.client c.args.self.now c.requires.not_held
    ∙ ap (λ (lock : LockView). cookie_for c.args.client lock ∷ []) (sym c.self.view_is)
