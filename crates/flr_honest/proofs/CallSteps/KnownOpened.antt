-- Behind its opening step each step of a read, a write, a truncate or a verify knows the file as that step got it.
use Rattle.std.proofs.Common.{◌≡◌, ℕ, ◌+◌, Bool, true, false, cond, nat_eq, nat_lt, Option, Some, None, List, [], ◌∷◌, length, refl, sym, ap, subst, ◌∙◌}
use Rattle.std.specs.Prelude.{unwrap_or}
use Rattle.std.specs.List.{AllByRecursion}
use Rattle.flr_base.specs.declared.reply.FailedCall.{FailedCall}
use Rattle.flr_base.specs.declared.reply.Range.{Range}
use Rattle.mirror_select.specs.declared.types.Piece.{Piece}
use Rattle.object_target.specs.declared.call.CallAnswer.{CallAnswer}
use Rattle.object_target.specs.declared.call.CallAnswer.TheVariants as answer
use Rattle.object_target.specs.Calls.{read_answer}
use Rattle.extent_lock.specs.Extents.{blocker}
use Rattle.meta_server.specs.declared.answers.Opened.{Opened}
use Rattle.meta_server.specs.Closing.{confirms, holds, is_there, last_eviction}
use Rattle.call_steps.specs.Pieces.{piece_at}
use Rattle.call_steps.specs.Runs.{CallStep, IsRunOf, goes_on}
use Rattle.call_steps.specs.Servers.{Servers}
use Rattle.call_steps.specs.Steps.{Outcome, Going, Fixed, Ended, Answered, Blocked}
use Rattle.client_read.specs.declared.phase.ReadAt.{ReadAt}
use Rattle.client_read.specs.declared.phase.ReadAt.TheVariants as read
use Rattle.client_read.specs.declared.phase.Reading.{Reading}
use Rattle.client_read.specs.declared.phase.FailedTake.{FailedTake}
use Rattle.mirror_select.specs.Pieces.{pieces_of}
use Rattle.mirror_verify.specs.declared.copies.BlockCopy.{BlockCopy}
use Rattle.meta_server.specs.Opening as opening
use Rattle.client_read.specs.Pieces as readings
use Rattle.client_read.specs.Reads as reads
use Rattle.client_read.specs.Views.{ReadView}
use Rattle.client_write.specs.declared.phase.Came.{Came}
use Rattle.client_write.specs.declared.phase.Came.TheVariants as came
use Rattle.client_write.specs.declared.phase.CutAt.{CutAt}
use Rattle.client_write.specs.declared.phase.CutAt.TheVariants as cut
use Rattle.client_write.specs.declared.phase.Sent.{Sent}
use Rattle.client_write.specs.declared.phase.Sent.TheVariants as sent
use Rattle.client_write.specs.declared.phase.WriteAt.{WriteAt}
use Rattle.client_write.specs.declared.phase.WriteAt.TheVariants as write
use Rattle.client_write.specs.Calls.{TruncateView, WriteView}
use Rattle.client_write.specs.Truncates as cuts
use Rattle.client_write.specs.Views.{CuttingView, WritingView}
use Rattle.client_write.specs.Writes as writes
use Rattle.mirror_verify.specs.declared.phase.VerifyAt.{VerifyAt}
use Rattle.mirror_verify.specs.declared.phase.VerifyAt.TheVariants as verify
use Rattle.mirror_verify.specs.declared.phase.Verifying.{Verifying}
use Rattle.mirror_verify.specs.Blocks as blocks
use Rattle.mirror_verify.specs.Verifies as verifies
use Rattle.mirror_verify.specs.Views.{VerifyView}
use Rattle.flr_numbers.specs.Calls.{cut_hand, read_hand, verify_hand, write_hand}
use Rattle.flr_numbers.specs.Hands.{Hand}
use Rattle.flr_steps.specs.declared.client.Running.TheVariants as running
use Rattle.flr_steps.specs.Traces as traces
use Rattle.flr_honest.specs.CallSteps.OpenedFiles.{HasOpenedCut, HasOpenedRead, HasOpenedVerify, HasOpenedWrite}
use Rattle.flr_honest.specs.CallSteps.SinceOpening.{NoneOpens}

-- what a call has open, if it has something open, is this
abbrev pub HasOpen : Opened → Hand → Type 0
HasOpen o h = (z : Opened) → h.opened ≡ Some z → z ≡ o

-- so it is with a call that goes on
abbrev pub GoesOnOpen : {C : Type 0} → (C → Hand) → Opened → Outcome C → Type 0
GoesOnOpen hand o (Going next after) = HasOpen o (hand next)
GoesOnOpen hand o (Fixed next reply takes after) = HasOpen o (hand next)
GoesOnOpen hand o (Ended after) = Unit {0}
GoesOnOpen hand o (Answered reply takes after) = Unit {0}
GoesOnOpen hand o (Blocked holder) = Unit {0}

same_some : (a b : Opened) → Some a ≡ Some b → a ≡ b
same_some a b e = cc

-- this one is open
its : (x o : Opened) → x ≡ o → (z : Opened) → Some x ≡ Some z → z ≡ o
its x o same z e = sym (same_some x z e) ∙ same

-- nothing is open
nothing : (o z : Opened) → None ≡ Some z → z ≡ o
nothing o z e = absurd (cc)

module _ (o : Opened) (s : Servers) where
  -- ---- a read

  module _ (r : ReadView) where
    read_takes_from : (x : Reading) (n : ℕ) (b : Bool) → x.opened ≡ o → HasOpen o (read_hand (cond b (read.Take x n) (read.Confirm x)))
    read_takes_from x n true same = its x.opened o same
    read_takes_from x n false same = its x.opened o same

    read_locks_from : (x : Reading) (n : ℕ) (b : Bool) → x.opened ≡ o → HasOpen o (read_hand (cond b (read.Lock x n) (reads.takes_from x (readings.next_object x.pieces 0))))
    read_locks_from x n true same = its x.opened o same
    read_locks_from x n false same = read_takes_from x (readings.next_object x.pieces 0) (nat_lt (readings.next_object x.pieces 0) (length x.pieces)) same

    read_locks : (x : Reading) (next : ℕ) (held : Option (ℕ × Range)) → x.opened ≡ o → GoesOnOpen (λ (k : ReadView). read_hand k.at) o (reads.locks_piece r s x next held)
    read_locks x next (Some told) same = tt
    read_locks x next None same = let n : ℕ = readings.next_object x.pieces (next + 1) in read_locks_from x n (nat_lt n (length x.pieces)) same

    read_takes : (x : Reading) (next : ℕ) (p : Piece) (a : CallAnswer) → x.opened ≡ o → GoesOnOpen (λ (k : ReadView). read_hand k.at) o (reads.takes_piece r s x next p a)
    read_takes x next p answer.Ok same = let n : ℕ = readings.next_object x.pieces (next + 1) in read_takes_from (reads.with_answer s x next p) n (nat_lt n (length x.pieces)) same
    read_takes x next p (answer.Old kept) same = its x.opened o same
    read_takes x next p answer.Failed same = its x.opened o same

    -- a read that begins with these bytes
    pub read_begins : (x : Opened) (failed : List FailedTake) → x ≡ o → HasOpen o (read_hand (reads.begins_with r x failed).at)
    read_begins x failed same = read_locks_from (reads.reading r.range x failed (pieces_of x.layout.components r.range (reads.ids_of failed))) (readings.next_object (pieces_of x.layout.components r.range (reads.ids_of failed)) 0) (nat_lt (readings.next_object (pieces_of x.layout.components r.range (reads.ids_of failed)) 0) (length (pieces_of x.layout.components r.range (reads.ids_of failed)))) same

    read_others : (x : Reading) (byte : Option ℕ) → x.opened ≡ o → GoesOnOpen (λ (k : ReadView). read_hand k.at) o (reads.others_answer r s x byte)
    read_others x (Some byte) same = tt
    read_others x None same = read_begins x.opened x.failed same

    read_again : (x : Reading) (b : Bool) → x.opened ≡ o → GoesOnOpen (λ (k : ReadView). read_hand k.at) o (reads.looks_again r s x b)
    read_again x false same = nothing o
    read_again x true same = read_others x (reads.unanswered x.opened.layout r.range (reads.ids_of x.failed)) same

    read_confirms : (x : Reading) (size : Option ℕ) → GoesOnOpen (λ (k : ReadView). read_hand k.at) o (reads.confirms_read r s x size)
    read_confirms x None = nothing o
    read_confirms x (Some size) = nothing o

    read_keeps : (a : ReadAt) → traces.read_opens a ≡ false → HasOpen o (read_hand a) → GoesOnOpen (λ (k : ReadView). read_hand k.at) o (reads.read_at a r s)
    read_keeps read.Open none h = absurd (cc)
    read_keeps (read.Lock x next) none h = read_locks x next (blocker s.locks (reads.lock_for r (piece_at x.pieces next))) (h x.opened refl)
    read_keeps (read.Take x next) none h = read_takes x next (piece_at x.pieces next) (read_answer (reads.target_of s (piece_at x.pieces next))) (h x.opened refl)
    read_keeps (read.Again x) none h = read_again x (holds x.opened.file x.opened.cookie s.meta) (h x.opened refl)
    read_keeps (read.Confirm x) none h = read_confirms x (confirms x.opened.file x.opened.cookie s.meta)
    read_keeps read.UnlockAgain none h = nothing o
    read_keeps read.Unlock none h = tt

  -- ---- a write

  module _ (w : WriteView) where
    write_locks_from : (x : WritingView) (n : ℕ) (b : Bool) → x.opened ≡ o → HasOpen o (write_hand (cond b (write.Lock x n) (write.Send x 0)))
    write_locks_from x n true same = its x.opened o same
    write_locks_from x n false same = its x.opened o same

    write_locks : (x : WritingView) (next : ℕ) (held : Option (ℕ × Range)) → x.opened ≡ o → GoesOnOpen (λ (k : WriteView). write_hand k.at) o (writes.locks_piece w s x next held)
    write_locks x next (Some told) same = tt
    write_locks x next None same = write_locks_from x (next + 1) (nat_lt (next + 1) (length x.pieces)) same

    write_sends_from : (x : WritingView) (n : ℕ) (b : Bool) → x.opened ≡ o → HasOpen o (write_hand (cond b (write.Send x n) (writes.commits_to w x sent.All)))
    write_sends_from x n true same = its x.opened o same
    write_sends_from x n false same = its x.opened o same

    write_old : (x : WritingView) (next : ℕ) (evicted : Option ℕ) (b : Bool) → x.opened ≡ o → HasOpen o (write_hand (cond b write.UnlockAgain (writes.commits_to w x (sent.Old next (unwrap_or evicted 0)))))
    write_old x next evicted true same = nothing o
    write_old x next evicted false same = its x.opened o same

    write_sends : (x : WritingView) (next : ℕ) (evicted : Option ℕ) (c : Came) → x.opened ≡ o → HasOpen o (write_hand (writes.after_send w evicted x next c))
    write_sends x next evicted came.Accepted same = write_sends_from x (next + 1) (nat_lt (next + 1) (length x.pieces)) same
    write_sends x next evicted came.TooOld same = write_old x next evicted (nat_eq next 0) same
    write_sends x next evicted (came.Failed call) same = its x.opened o same

    write_commits : (x : WritingView) (end : ℕ) (c : Sent) (b : Bool) → GoesOnOpen (λ (k : WriteView). write_hand k.at) o (writes.commits_write w s x end c b)
    write_commits x end c true = nothing o
    write_commits x end c false = nothing o

    write_keeps : (a : WriteAt) (place : ℕ) → traces.write_opens a ≡ false → HasOpen o (write_hand a) → GoesOnOpen (λ (k : WriteView). write_hand k.at) o (writes.write_at a w place s)
    write_keeps write.Open place none h = absurd (cc)
    write_keeps (write.Lock x next) place none h = write_locks x next (blocker s.locks (writes.lock_for w (piece_at x.pieces next))) (h x.opened refl)
    write_keeps (write.Send x next) place none h = write_sends x next (last_eviction w.client s.meta) (writes.came_of_piece s x (piece_at x.pieces next)) (h x.opened refl)
    write_keeps (write.Commit x end c) place none h = write_commits x end c (is_there x.opened.file s.meta)
    write_keeps write.UnlockAgain place none h = nothing o
    write_keeps write.Unlock place none h = tt

  -- ---- a truncate

  module _ (t : TruncateView) where
    cut_punches_from : (x : CuttingView) (n : ℕ) (b : Bool) → x.opened ≡ o → HasOpen o (cut_hand (cond b (cut.Punch x n) (cut.Commit x sent.All)))
    cut_punches_from x n true same = its x.opened o same
    cut_punches_from x n false same = its x.opened o same

    cut_locks : (x : CuttingView) (held : Option (ℕ × Range)) → x.opened ≡ o → GoesOnOpen (λ (k : TruncateView). cut_hand k.at) o (cuts.locks_tails t s x held)
    cut_locks x (Some told) same = tt
    cut_locks x None same = cut_punches_from x 0 (nat_lt 0 (length x.tails)) same

    cut_old : (x : CuttingView) (next : ℕ) (evicted : Option ℕ) (b : Bool) → x.opened ≡ o → HasOpen o (cut_hand (cond b cut.UnlockAgain (cut.Commit x (sent.Old next (unwrap_or evicted 0)))))
    cut_old x next evicted true same = nothing o
    cut_old x next evicted false same = its x.opened o same

    cut_punches : (x : CuttingView) (next : ℕ) (evicted : Option ℕ) (c : Came) → x.opened ≡ o → HasOpen o (cut_hand (cuts.after_punches evicted x next c))
    cut_punches x next evicted came.Accepted same = cut_punches_from x (next + 1) (nat_lt (next + 1) (length x.tails)) same
    cut_punches x next evicted came.TooOld same = cut_old x next evicted (nat_eq next 0) same
    cut_punches x next evicted (came.Failed call) same = its x.opened o same

    cut_commits : (x : CuttingView) (c : Sent) (b : Bool) → GoesOnOpen (λ (k : TruncateView). cut_hand k.at) o (cuts.commits_cut t s x c b)
    cut_commits x c true = nothing o
    cut_commits x c false = nothing o

    cut_keeps : (a : CutAt) (place : ℕ) → traces.cut_opens a ≡ false → HasOpen o (cut_hand a) → GoesOnOpen (λ (k : TruncateView). cut_hand k.at) o (cuts.truncate_at a t place s)
    cut_keeps cut.Open place none h = absurd (cc)
    cut_keeps (cut.Lock x) place none h = cut_locks x (cuts.first_blocker (cuts.locks_for t x) s.locks) (h x.opened refl)
    cut_keeps (cut.Punch x next) place none h = cut_punches x next (last_eviction t.client s.meta) (cuts.came_of_tail s x (cuts.tail_at x.tails next)) (h x.opened refl)
    cut_keeps (cut.Commit x c) place none h = cut_commits x c (is_there x.opened.file s.meta)
    cut_keeps cut.UnlockAgain place none h = nothing o
    cut_keeps cut.Unlock place none h = tt

  -- ---- a verify

  module _ (v : VerifyView) where
    verify_takes_from : (x : Verifying) (n : ℕ) (b : Bool) → x.opened ≡ o → HasOpen o (verify_hand (cond b (verify.Take x n) (verify.Close x None)))
    verify_takes_from x n true same = its x.opened o same
    verify_takes_from x n false same = its x.opened o same

    verify_takes : (x : Verifying) (next : ℕ) (p : Piece) (a : CallAnswer) → x.opened ≡ o → GoesOnOpen (λ (k : VerifyView). verify_hand k.at) o (verifies.takes_copy v s x next p a)
    verify_takes x next p answer.Ok same = let n : ℕ = blocks.next_object x.copies (next + 1) in verify_takes_from (verifies.with_answer s x next) n (nat_lt n (length x.copies)) same
    verify_takes x next p (answer.Old kept) same = its x.opened o same
    verify_takes x next p answer.Failed same = its x.opened o same

    verify_closes : (x : Verifying) (fault : Option FailedCall) (b : Bool) → GoesOnOpen (λ (k : VerifyView). verify_hand k.at) o (verifies.closes v s x fault b)
    verify_closes x fault false = nothing o
    verify_closes x fault true = tt

    verify_keeps : (a : VerifyAt) → traces.verify_opens a ≡ false → HasOpen o (verify_hand a) → GoesOnOpen (λ (k : VerifyView). verify_hand k.at) o (verifies.verify_at a v s)
    verify_keeps verify.Open none h = absurd (cc)
    verify_keeps (verify.Take x next) none h = verify_takes x next (blocks.copy_at x.copies next).piece (read_answer (verifies.target_of s (blocks.copy_at x.copies next).piece)) (h x.opened refl)
    verify_keeps (verify.Close x fault) none h = verify_closes x fault (holds x.opened.file x.opened.cookie s.meta)

-- ---- all steps of a run that doesn't open again

module _ {C : Type 0} (step : C → ℕ → Servers → Outcome C) (hand : C → Hand) (opens : C → Bool) (o : Opened) (keeps : (x : C) (place : ℕ) (s : Servers) → opens x ≡ false → HasOpen o (hand x) → GoesOnOpen hand o (step x place s)) where
  -- the step of a call that has this open leaves it so
  goes_so : (y : CallStep C) (next : C) → y.call ≡ next → y.came ≡ step next y.place y.before → opens y.call ≡ false → HasOpen o (hand next) → HasOpen o (hand y.call) × GoesOnOpen hand o y.came
  goes_so y next same came shut h =
      (subst (λ (k : C). HasOpen o (hand k)) (sym same) h, subst (λ (k : Outcome C). GoesOnOpen hand o k) (sym came) (keeps next y.place y.before (ap opens (sym same) ∙ shut) h))

  pub all_know : (steps : List (CallStep C)) (k : Outcome C) (last : ℕ) → GoesOnOpen hand o k → IsRunOf step steps (goes_on k) last → AllByRecursion (λ (y : CallStep C). opens y.call ≡ false) steps → AllByRecursion (λ (y : CallStep C). HasOpen o (hand y.call)) steps
  all_know [] k last h run none = tt
  all_know (y ∷ ys) (Going next after) last h run none = let g = goes_so y next run.0.same run.0.came none.0 h in (g.0, all_know ys y.came y.place g.1 run.1 none.1)
  all_know (y ∷ ys) (Fixed next reply takes after) last h run none = let g = goes_so y next run.0.same run.0.came none.0 h in (g.0, all_know ys y.came y.place g.1 run.1 none.1)
  all_know (y ∷ ys) (Ended after) last h run none = absurd run
  all_know (y ∷ ys) (Answered reply takes after) last h run none = absurd run
  all_know (y ∷ ys) (Blocked holder) last h run none = absurd run

-- each step of a read behind the one that opened knows this
pub reads_know : (x : CallStep ReadView) (rest : List (CallStep ReadView)) → (opened : HasOpenedRead x) → IsRunOf reads.read_step rest (goes_on x.came) x.place → NoneOpens running.Read rest
    → AllByRecursion (λ (y : CallStep ReadView). HasOpen (opening.opened x.call.client opened.was) (read_hand y.call.at)) rest
reads_know x rest h run none =
    let o : Opened = opening.opened x.call.client h.was in
    all_know reads.read_step (λ (k : ReadView). read_hand k.at) (λ (k : ReadView). traces.read_opens k.at) o (λ k place s shut has. read_keeps o s k k.at shut has) rest x.came x.place
    (subst (λ (k : Outcome ReadView). GoesOnOpen (λ (k : ReadView). read_hand k.at) o k) (sym h.came) (read_begins o x.before x.call o [] refl)) run none

pub writes_know : (x : CallStep WriteView) (rest : List (CallStep WriteView)) (opened : HasOpenedWrite x) → IsRunOf writes.write_step rest (goes_on x.came) x.place → NoneOpens running.Write rest
    → AllByRecursion (λ (y : CallStep WriteView). HasOpen opened.got (write_hand y.call.at)) rest
writes_know x rest h run none =
    all_know writes.write_step (λ (k : WriteView). write_hand k.at) (λ (k : WriteView). traces.write_opens k.at) h.got (λ k place s shut has. write_keeps h.got s k k.at place shut has) rest x.came x.place
    (subst (λ (k : Outcome WriteView). GoesOnOpen (λ (k : WriteView). write_hand k.at) h.got k) (sym h.came) (its h.got h.got refl)) run none

pub cuts_know : (x : CallStep TruncateView) (rest : List (CallStep TruncateView)) (opened : HasOpenedCut x) → IsRunOf cuts.truncate_step rest (goes_on x.came) x.place → NoneOpens running.Truncate rest
    → AllByRecursion (λ (y : CallStep TruncateView). HasOpen opened.got (cut_hand y.call.at)) rest
cuts_know x rest h run none =
    all_know cuts.truncate_step (λ (k : TruncateView). cut_hand k.at) (λ (k : TruncateView). traces.cut_opens k.at) h.got (λ k place s shut has. cut_keeps h.got s k k.at place shut has) rest x.came x.place
    (subst (λ (k : Outcome TruncateView). GoesOnOpen (λ (k : TruncateView). cut_hand k.at) h.got k) (sym h.came) (its h.got h.got refl)) run none

pub verifies_know : (x : CallStep VerifyView) (rest : List (CallStep VerifyView)) (opened : HasOpenedVerify x) → IsRunOf verifies.verify_step rest (goes_on x.came) x.place → NoneOpens running.Verify rest
    → AllByRecursion (λ (y : CallStep VerifyView). HasOpen (opening.opened x.call.client opened.was) (verify_hand y.call.at)) rest
verifies_know x rest h run none =
    let o : Opened = opening.opened x.call.client h.was in
    let copies : List BlockCopy = blocks.copies_of h.was.layout.components h.was.size in
    all_know verifies.verify_step (λ (k : VerifyView). verify_hand k.at) (λ (k : VerifyView). traces.verify_opens k.at) o (λ k place s shut has. verify_keeps o s k k.at shut has) rest x.came x.place
    (subst (λ (k : Outcome VerifyView). GoesOnOpen (λ (k : VerifyView). verify_hand k.at) o k) (sym h.came)
    (verify_takes_from o x.before x.call (verifies.verifying o copies) (blocks.next_object copies 0) (nat_lt (blocks.next_object copies 0) (length copies)) refl)) run none
