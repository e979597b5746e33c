-- The server stays sound where files are opened and cookies are given back.
use Rattle.std.proofs.Common.{◌≡◌, ℕ, ◌≤◌, max, Bool, true, false, not, Option, Some, List, [], refl, sym, subst, ◌∙◌, arith}
use Rattle.flr_base.specs.declared.reply.Range.{Range}
use Rattle.composite_layout.specs.Layouts.{Composite}
use Rattle.layout_lease.specs.declared.shared.Share.{Share}
use Rattle.layout_lease.specs.Clients.{IsClient}
use Rattle.layout_lease.specs.Shares.{cookies_of, same_cookie}
use Rattle.layout_lease.proofs.SoundLock.{IsSoundLock-filter, IsSoundLock-shared}
use Rattle.layout_state.specs.Choosing.{is_over, primary_of}
use Rattle.meta_server.specs.Closing.{commits, cuts, frees, grown, shortened}
use Rattle.meta_server.specs.Conditions.{MayShare}
use Rattle.meta_server.specs.Files.{File, MetaView, changed, file_named, file_of, same_name, with_change, with_freed, with_layout, with_share}
use Rattle.meta_server.specs.Layouts.{intended, nexts_over}
use Rattle.flr_base.specs.Limits.{most_bytes}
use Rattle.meta_server.specs.Opening.{change_opens_file, read_opens, with_intent}
use Rattle.meta_server.specs.Sound.{IsSound}
use Rattle.meta_laws.specs.Calls.{confirmed, left_by}
use Rattle.meta_laws.proofs.Cases.{open_cases, read_cases}
use Rattle.meta_laws.proofs.Changing.{intended_valid, over_AreNext}
use Rattle.meta_laws.proofs.Finding.{found_numbered, same_found}
use Rattle.meta_laws.proofs.Whole.{broken_sound, change_sound, sound_there}

-- what is found is one file
pub one_file : (o : Option File) (x y : File) → o ≡ Some x → o ≡ Some y → x ≡ y
one_file o x y a b = let both : Some x ≡ Some y = sym a ∙ b in cc

-- ---- cookies

-- a client shares the layout lock of a file, and didn't before
pub share_sound : (m : MetaView) (n client : ℕ) → IsSound m → IsClient client → ((f : File) → file_of n m.files ≡ Some f → cookies_of client f.lock.cookies ≡ []) → IsSound (with_change n (with_share client) m)
share_sound m n client h is none =
    change_sound m n (with_share client) h
    (record { number = λ f. refl; name = λ f. refl; sound = λ f e k. record { layout = k.layout; lock = IsSoundLock-shared client f.lock is (none f e) k.lock; size = k.size } })
    (λ f. refl)

-- a cookie is given back
pub freed_sound : (m : MetaView) (n : ℕ) (cookie : Share) → IsSound m → IsSound (frees n cookie m)
freed_sound m n cookie h =
    change_sound m n (with_freed cookie) h
    (record { number = λ f. refl; name = λ f. refl; sound = λ f e k. record { layout = k.layout; lock = IsSoundLock-filter (λ (share : Share). not (same_cookie share cookie)) f.lock k.lock; size = k.size } })
    (λ f. refl)

pub confirmed_sound : (m : MetaView) (n : ℕ) (cookie : Share) (b : Bool) → IsSound m → IsSound (confirmed n cookie b m)
confirmed_sound m n cookie true h = freed_sound m n cookie h
confirmed_sound m n cookie false h = h

-- a write commits
pub committed_sound : (m : MetaView) (n : ℕ) (cookie : Share) (end : ℕ) → end ≤ most_bytes → IsSound m → IsSound (commits n cookie end m)
committed_sound m n cookie end few h =
    change_sound m n (grown cookie end) h
    (record { number = λ f. refl; name = λ f. refl; sound = λ f e k. record { layout = k.layout; lock = IsSoundLock-filter (λ (share : Share). not (same_cookie share cookie)) f.lock k.lock; size = larger f.size k.size } })
    (λ f. refl)
  where
    larger : (size : ℕ) → size ≤ most_bytes → max size end ≤ most_bytes
    larger size k = omega arith

-- a truncate commits
pub cut_sound : (m : MetaView) (n : ℕ) (cookie : Share) (size : ℕ) → size ≤ most_bytes → IsSound m → IsSound (cuts n cookie size m)
cut_sound m n cookie size few h =
    change_sound m n (shortened cookie size) h
    (record { number = λ f. refl; name = λ f. refl; sound = λ f e k. record { layout = k.layout; lock = IsSoundLock-filter (λ (share : Share). not (same_cookie share cookie)) f.lock k.lock; size = few } })
    (λ f. refl)

-- ---- opens

module _ (client : ℕ) (name : List ℕ) (m : MetaView) (h : IsSound m) (is : IsClient client) (may : MayShare client name m) where
  -- the client doesn't share the lock of the file
  none_held : (f : File) → file_named name m.files ≡ Some f → (x : File) → file_of f.number m.files ≡ Some x → cookies_of client x.lock.cookies ≡ []
  none_held f e x found =
      let there : file_of f.number m.files ≡ Some f = found_numbered (λ (y : File). same_name name y.name) m.files f h.ascending e in
      let same : f ≡ x = one_file (file_of f.number m.files) f x there found in
      subst (λ (y : File). cookies_of client y.lock.cookies ≡ []) same (may f e).0

  shared_sound : (f : File) → file_named name m.files ≡ Some f → IsSound (with_change f.number (with_share client) m)
  shared_sound f e = share_sound m f.number client h is (none_held f e)

  pub read_sound : IsSound (left_by (read_opens client name m) m)
  read_sound = read_cases IsSound client name m (record { same = h; shared = shared_sound })

  module _ (range : Range) (step : ℕ) where
    -- once the intent is made, the client shares the lock that it didn't
    none_after : (f : File) (l : Composite) → file_named name m.files ≡ Some f → (x : File) → file_of f.number (changed f.number (with_layout l) m.files) ≡ Some x → cookies_of client x.lock.cookies ≡ []
    none_after f l e x found =
        let there : file_of f.number m.files ≡ Some f = found_numbered (λ (y : File). same_name name y.name) m.files f h.ascending e in
        let after : file_of f.number (changed f.number (with_layout l) m.files) ≡ Some (with_layout l f) = same_found f.number (with_layout l) m.files f (λ y. refl) there in
        let same : with_layout l f ≡ x = one_file (file_of f.number (changed f.number (with_layout l) m.files)) (with_layout l f) x after found in
        subst (λ (y : File). cookies_of client y.lock.cookies ≡ []) same (may f e).0

    intended_sound : (f : File) (mirror : ℕ) → file_named name m.files ≡ Some f → primary_of range f.layout.components ≡ Some mirror → IsSound (with_change f.number (with_share client) (with_intent range mirror step f m))
    intended_sound f mirror e primary =
        let file = sound_there (λ (y : File). same_name name y.name) m f h e in
        let l : Composite = intended range mirror f.number m.nexts f.layout in
        share_sound (with_intent range mirror step f m) f.number client
        (broken_sound m f.number step l (nexts_over (is_over range mirror) f.number m.nexts f.layout) h (intended_valid range mirror f.number m.nexts f.layout h.nexts primary file.layout) (over_AreNext (is_over range mirror) f.number m.nexts f.layout h.nexts))
        is (none_after f l e)

    pub open_sound : (b : Bool) → IsSound (left_by (change_opens_file client range step m name b (file_named name m.files)) m)
    open_sound b = open_cases IsSound client name range step m (record { same = h; shared = shared_sound; intended = intended_sound }) b
