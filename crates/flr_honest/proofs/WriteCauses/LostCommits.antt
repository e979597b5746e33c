-- A write or a truncate that commits with its cookie lost changes the size of its file alone.
use Rattle.std.proofs.Common.{◌≡◌, ℕ, max, Bool, true, false, cond, not, ◌||◌, true≢false, nat_eq, Option, Some, None, List, [], ◌∷◌, filter, refl, sym, ap, subst, ◌∙◌, arith}
use Rattle.std.specs.List.{list_any}
use Rattle.std.specs.Option.{option_map, option_map_or}
use Rattle.std.proofs.lemmas.Bool.Decides.{nat_tests}
use Rattle.flr_base.specs.declared.reply.Reply.{Reply}
use Rattle.layout_lease.specs.declared.shared.Share.{Share}
use Rattle.layout_lease.specs.Shares.{LockView, freed, is_held, same_cookie}
use Rattle.meta_server.specs.Closing.{commits, holds}
use Rattle.meta_server.specs.Files.{File, MetaView, changed, file_of, with_change}
use Rattle.meta_server.proofs.SoundFiles.{file_of_changed}
use Rattle.meta_laws.proofs.Finding.{numbered}
use Rattle.call_steps.specs.Servers.{Servers}
use Rattle.call_steps.specs.Steps.{Outcome, Fixed, widen}
use Rattle.client_write.specs.declared.phase.CutAt.{CutAt}
use Rattle.client_write.specs.declared.phase.CutAt.TheVariants as cut
use Rattle.client_write.specs.declared.phase.Sent.{Sent}
use Rattle.client_write.specs.declared.phase.Sent.TheVariants as sent
use Rattle.client_write.specs.declared.phase.WriteAt.{WriteAt}
use Rattle.client_write.specs.declared.phase.WriteAt.TheVariants as write
use Rattle.client_write.specs.Calls.{TruncateView}
use Rattle.client_write.specs.Truncates.{commits_cut, cut_committed, cut_reply, truncate_at, truncate_on}
use Rattle.client_write.specs.Views.{CuttingView}
use Rattle.client_write.specs.Writes.{commits_write, reply_of, write_at, write_on}
use Rattle.flr_steps.specs.declared.client.Client.{Client}
use Rattle.flr_steps.specs.declared.client.Running.{Running}
use Rattle.flr_steps.specs.declared.client.Running.TheVariants as running
use Rattle.flr_steps.specs.Clients.{call_now, first_now}
use Rattle.flr_steps.specs.Commands.{step_of}
use Rattle.flr_steps.specs.States.{State, place_in}
use Rattle.flr_steps.specs.Steps.{LeavesState}
use Rattle.flr_honest.specs.WriteCauses.LostCommits.{AreAsBefore, ChangesSizeAlone, LostTruncatesChangeSizes, LostWritesChangeSizes, left_size}

-- ---- a cookie that isn't held

kept_cookies : (cookie : Share) (shares : List Share) → list_any (λ (share : Share). same_cookie share cookie) shares ≡ false
    → filter (λ (share : Share). not (same_cookie share cookie)) shares ≡ shares
kept_cookies cookie [] none = refl
kept_cookies cookie (share ∷ shares) none = by (same_cookie share cookie) none (kept_cookies cookie shares)
  where
    by : (b : Bool) → (b || list_any (λ (x : Share). same_cookie x cookie) shares) ≡ false
        → (list_any (λ (x : Share). same_cookie x cookie) shares ≡ false → filter (λ (x : Share). not (same_cookie x cookie)) shares ≡ shares)
        → cond (not b) (share ∷ filter (λ (x : Share). not (same_cookie x cookie)) shares) (filter (λ (x : Share). not (same_cookie x cookie)) shares) ≡ share ∷ shares
    by true is rest = absurd (true≢false is)
    by false is rest = ap (λ (xs : List Share). share ∷ xs) (rest is)

-- to give it back changes nothing
freed_same : (cookie : Share) (lock : LockView) → is_held lock cookie ≡ false → freed cookie lock ≡ lock
freed_same cookie lock none = ap (λ (cookies : List Share). record { cookies = cookies; next = lock.next }) (kept_cookies cookie lock.cookies none)

module _ (number : ℕ) (cookie : Share) (m : MetaView) (lost : holds number cookie m ≡ false) (size : ℕ → ℕ) where
  -- the file with its cookie given back and another size
  abbrev closed : File → File
  closed f = record f { lock = freed cookie f.lock; size = size f.size }

  abbrev sized : File → File
  sized f = record f { size = size f.size }

  lost_files : (n : ℕ) → file_of n (changed number closed m.files) ≡ option_map (λ (f : File). cond (nat_eq n number) (sized f) f) (file_of n m.files)
  lost_files n = file_of_changed n number closed m.files (λ f. refl) ∙ by (file_of n m.files) refl
    where
      at : (b : Bool) (f : File) → nat_eq f.number number ≡ b → file_of n m.files ≡ Some f → f.number ≡ n → cond b (closed f) f ≡ cond b (sized f) f
      at true f is there same =
          let one : f.number ≡ number = grind (arith, nat_tests) in
          let found : file_of number m.files ≡ Some f = ap (λ (k : ℕ). file_of k m.files) (sym one ∙ same) ∙ there in
          let none : is_held f.lock cookie ≡ false = sym (ap (λ (o : Option File). option_map_or (λ (x : File). is_held x.lock cookie) o false) found) ∙ lost in
          ap (λ (lock : LockView). record f { lock = lock; size = size f.size }) (freed_same cookie f.lock none)
      at false f is there same = refl

      by : (o : Option File) → file_of n m.files ≡ o
          → option_map (λ (f : File). cond (nat_eq f.number number) (closed f) f) o ≡ option_map (λ (f : File). cond (nat_eq n number) (sized f) f) o
      by None there = refl
      by (Some f) there =
          let same : f.number ≡ n = numbered n m.files f there in
          ap (λ (x : File). Some x) (at (nat_eq f.number number) f refl there same ∙ ap (λ (k : ℕ). cond (nat_eq k number) (sized f) f) same)

  lost_alone : ChangesSizeAlone number size m (with_change number closed m)
  lost_alone = record { rest = refl; files = lost_files }

-- ---- steps

shared_after : (s t : State) (c : ℕ) (client : Client) (first : ℕ) (next : Running) (reply : Reply) (after : Servers)
    → LeavesState s c client first (Fixed next reply [] after) t → t.shared ≡ after
shared_after s t c client first next reply after left = ap (λ (x : State). x.shared) left

-- a commit of a write
pub lost_writes : LostWritesChangeSizes
lost_writes s t c step w x end came is at there lost =
    let after : Servers = record s.shared { meta = commits x.opened.file x.opened.cookie end s.shared.meta } in
    let made : step.came ≡ widen running.Write (write_at w.at w (place_in s) s.shared) = sym step.made ∙ ap (λ (call : Running). step_of (call_now c call step.asked) c step.asked (place_in s) s.shared) is in
    let fixed : step.came ≡ Fixed (running.Write (write_on w write.Unlock)) (reply_of came) [] after =
    made ∙ ap (λ (a : WriteAt). widen running.Write (write_at a w (place_in s) s.shared)) at ∙ ap (λ (b : Bool). widen running.Write (commits_write w s.shared x end came b)) there in
    let left : t.shared ≡ after =
    shared_after s t c step.client (first_now step.client.call (place_in s) step.client.first) (running.Write (write_on w write.Unlock)) (reply_of came) after
    (subst (λ (o : Outcome Running). LeavesState s c step.client (first_now step.client.call (place_in s) step.client.first) o t) fixed step.left) in
    subst (AreAsBefore x.opened.file (λ old. max old end) s.shared) (sym left) (record { meta = lost_alone x.opened.file x.opened.cookie s.shared.meta lost (λ old. max old end); targets = refl; locks = refl })

cut_alone : (v : TruncateView) (s : Servers) (x : CuttingView) (came : Sent) → holds x.opened.file x.opened.cookie s.meta ≡ false
    → AreAsBefore x.opened.file (left_size v.size came) s (cut_committed v s x came)
cut_alone v s x sent.All lost = record { meta = lost_alone x.opened.file x.opened.cookie s.meta lost (λ old. v.size); targets = refl; locks = refl }
cut_alone v s x (sent.Failed accepted call) lost = record { meta = lost_alone x.opened.file x.opened.cookie s.meta lost (λ old. max old 0); targets = refl; locks = refl }
cut_alone v s x (sent.Old accepted step) lost = record { meta = lost_alone x.opened.file x.opened.cookie s.meta lost (λ old. max old 0); targets = refl; locks = refl }

-- a commit of a truncate
pub lost_truncates : LostTruncatesChangeSizes
lost_truncates s t c step v x came is at there lost =
    let after : Servers = cut_committed v s.shared x came in
    let made : step.came ≡ widen running.Truncate (truncate_at v.at v (place_in s) s.shared) = sym step.made ∙ ap (λ (call : Running). step_of (call_now c call step.asked) c step.asked (place_in s) s.shared) is in
    let fixed : step.came ≡ Fixed (running.Truncate (truncate_on v cut.Unlock)) (cut_reply came) [] after =
    made ∙ ap (λ (a : CutAt). widen running.Truncate (truncate_at a v (place_in s) s.shared)) at ∙ ap (λ (b : Bool). widen running.Truncate (commits_cut v s.shared x came b)) there in
    let left : t.shared ≡ after =
    shared_after s t c step.client (first_now step.client.call (place_in s) step.client.first) (running.Truncate (truncate_on v cut.Unlock)) (cut_reply came) after
    (subst (λ (o : Outcome Running). LeavesState s c step.client (first_now step.client.call (place_in s) step.client.first) o t) fixed step.left) in
    subst (AreAsBefore x.opened.file (left_size v.size came) s.shared) (sym left) (cut_alone v s.shared x came lost)
