-- Names and sizes of files after a step, by what it came to.
use Rattle.std.proofs.Common.{◌≡◌, List, map, sym, subst}
use Rattle.flr_base.specs.declared.reply.Reply.{Reply}
use Rattle.meta_server.specs.Files.{MetaView}
use Rattle.call_steps.specs.Steps.{Outcome, Going, Fixed, Ended, Answered, Blocked, widen}
use Rattle.plain_files.specs.Files.{Plain}
use Rattle.flr_behind.proofs.Steps.{OnMeta}
use Rattle.flr_bytes.specs.Files.{AreSized}
use Rattle.flr_honest.proofs.Stores.Sizing.{shape_of, sized_alike}

-- the files have the names and sizes of the plain files, which an answer that is fixed leaves so
abbrev pub OnFiles : {C : Type 0} → (Reply → List Plain) → List Plain → Outcome C → Type 0
OnFiles left store (Going next after) = AreSized after.meta.files store
OnFiles left store (Fixed next reply takes after) = AreSized after.meta.files (left reply)
OnFiles left store (Ended after) = AreSized after.meta.files store
OnFiles left store (Answered reply takes after) = AreSized after.meta.files (left reply)
OnFiles left store (Blocked holder) = Unit {0}

-- a call's step is a step of its client
pub widened : {C D : Type 0} (left : Reply → List Plain) (store : List Plain) (f : C → D) (o : Outcome C) → OnFiles left store o → OnFiles left store (widen f o)
widened left store f (Going next after) h = h
widened left store f (Fixed next reply takes after) h = h
widened left store f (Ended after) h = h
widened left store f (Answered reply takes after) h = h
widened left store f (Blocked holder) h = tt

-- files of the same names and sizes
abbrev pub AreAlike : MetaView → MetaView → Type 0
AreAlike m new = map shape_of new.files ≡ map shape_of m.files

-- where neither files nor plain files change
pub still_sized : {C : Type 0} (m : MetaView) (left : Reply → List Plain) (store : List Plain) (o : Outcome C) → ((reply : Reply) → left reply ≡ store) → AreSized m.files store → OnMeta (AreAlike m) o → OnFiles left store o
still_sized m left store (Going next after) same h alike = sized_alike m.files after.meta.files store alike h
still_sized m left store (Fixed next reply takes after) same h alike = subst (AreSized after.meta.files) (sym (same reply)) (sized_alike m.files after.meta.files store alike h)
still_sized m left store (Ended after) same h alike = sized_alike m.files after.meta.files store alike h
still_sized m left store (Answered reply takes after) same h alike = subst (AreSized after.meta.files) (sym (same reply)) (sized_alike m.files after.meta.files store alike h)
still_sized m left store (Blocked holder) same h alike = tt

-- where answers leave the same
pub same_left : {C : Type 0} (left also : Reply → List Plain) (store : List Plain) (o : Outcome C) → ((answer : Reply) → left answer ≡ also answer) → OnFiles left store o → OnFiles also store o
same_left left also store (Going next after) same h = h
same_left left also store (Fixed next reply takes after) same h = subst (AreSized after.meta.files) (same reply) h
same_left left also store (Ended after) same h = h
same_left left also store (Answered reply takes after) same h = subst (AreSized after.meta.files) (same reply) h
same_left left also store (Blocked holder) same h = tt
