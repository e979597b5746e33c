-- While the cookie of an open file is held, or the lease of a copied one, the file is the one that the call knows.
use Rattle.std.proofs.Common.{◌≡◌, ℕ, Bool, true, false, cond, nat_eq, ◌&&◌, ◌||◌, Option, Some, None, List, [], ◌∷◌, refl, sym, ap, subst, ◌∙◌, arith}
use Rattle.std.specs.List.{list_any}
use Rattle.std.specs.Cmp.Lexicographic.{same_text}
use Rattle.std.specs.Option.{option_map_or}
use Rattle.std.proofs.lemmas.Bool.Decides.{nat_tests}
use Rattle.layout_lease.specs.declared.shared.Share.{Share}
use Rattle.layout_lease.specs.Shares.{same_cookie}
use Rattle.script_values.specs.declared.command.Command.{Command}
use Rattle.meta_server.specs.declared.answers.Opened.{Opened}
use Rattle.meta_server.specs.Closing.{holds}
use Rattle.meta_server.specs.Files.{File, MetaView, file_named, file_of, same_name}
use Rattle.meta_server.specs.Sound.{AreNamedApart}
use Rattle.meta_server.proofs.Placing.{nat_eq_same}
use Rattle.meta_laws.proofs.Finding.{found_keeps}
use Rattle.call_steps.specs.Runs.{CallStep}
use Rattle.flr_numbers.specs.Hands.{IsOpenAs}
use Rattle.flr_numbers.specs.Sentences.{hand_of}
use Rattle.flr_steps.specs.declared.client.Running.{Running}
use Rattle.flr_steps.specs.States.{IsRun, State}
use Rattle.flr_claims.specs.Calls.{shares_lock}
use Rattle.flr_asked.specs.CallRuns.{StandsIn}
use Rattle.flr_honest.proofs.Knowing.Pieces.{IsThere, held_there}
use Rattle.flr_honest.proofs.CallSteps.Standing.{call_has}

-- ---- names

name_same : (a : List ℕ) → same_name a a ≡ true
name_same [] = refl
name_same (x ∷ xs) = λ j. nat_eq_same x j && name_same xs j

-- a file that is there is the one of its name
pub named_found : (name : List ℕ) (n : ℕ) (files : List File) (f : File) → AreNamedApart files → file_of n files ≡ Some f → f.name ≡ name → file_named name files ≡ Some f
named_found name n [] f apart e is = absurd (cc)
named_found name n (x ∷ xs) f apart e is = by (nat_eq x.number n) e (λ more. named_found name n xs f apart.1 more is)
  where
    other : (b : Bool) → same_name name x.name ≡ b → file_of n xs ≡ Some f → b ≡ false
    other false s there = refl
    other true s there =
        let mine : name ≡ x.name = same_text name x.name (sym s) in
        absurd (found_keeps (λ (g : File). nat_eq g.number n) (λ (g : File). x.name ≡ g.name → ⊥) xs f there apart.0 (sym mine ∙ sym is))

    by : (b : Bool) → cond b (Some x) (file_of n xs) ≡ Some f → (file_of n xs ≡ Some f → file_named name xs ≡ Some f) → cond (same_name name x.name) (Some x) (file_named name xs) ≡ Some f
    by true e rest =
        let one : x ≡ f = cc in
        let here : same_name name x.name ≡ true = ap (λ (k : List ℕ). same_name name k) (ap (λ (g : File). g.name) one ∙ is) ∙ name_same name in
        ap (λ (b : Bool). cond b (Some x) (file_named name xs)) here ∙ ap (λ (g : File). Some g) one
    by false e rest = ap (λ (b : Bool). cond b (Some x) (file_named name xs)) (other (same_name name x.name) refl e) ∙ rest e

-- ---- shares

same_client : (a b : Share) → same_cookie a b ≡ true → nat_eq a.client b.client ≡ true
same_client a b e = by (nat_eq a.client b.client) (nat_eq a.number b.number) e
  where
    by : (u v : Bool) → (u && v) ≡ true → u ≡ true
    by true v e = refl
    by false v e = absurd (cc)

-- who holds a cookie shares the lock
held_shares : (cookie : Share) (shares : List Share) → list_any (λ (k : Share). same_cookie k cookie) shares ≡ true → list_any (λ (k : Share). nat_eq k.client cookie.client) shares ≡ true
held_shares cookie [] e = absurd (cc)
held_shares cookie (x ∷ xs) e = by (same_cookie x cookie) refl e (λ more. held_shares cookie xs more)
  where
    by : (b : Bool) → same_cookie x cookie ≡ b → (b || list_any (λ (k : Share). same_cookie k cookie) xs) ≡ true → (list_any (λ (k : Share). same_cookie k cookie) xs ≡ true → list_any (λ (k : Share). nat_eq k.client cookie.client) xs ≡ true)
        → (nat_eq x.client cookie.client || list_any (λ (k : Share). nat_eq k.client cookie.client) xs) ≡ true
    by true s e rest = ap (λ (b : Bool). b || list_any (λ (k : Share). nat_eq k.client cookie.client) xs) (same_client x cookie s)
    by false s e rest = second (nat_eq x.client cookie.client) (list_any (λ (k : Share). nat_eq k.client cookie.client) xs) (rest e)
      where
        second : (u v : Bool) → v ≡ true → (u || v) ≡ true
        second true v e = refl
        second false v e = e

cookie_same : (a : Share) → same_cookie a a ≡ true
cookie_same a = λ j. nat_eq_same a.client j && nat_eq_same a.number j

-- who shares the lock holds a cookie
shares_held : (client : ℕ) (shares : List Share) → list_any (λ (k : Share). nat_eq k.client client) shares ≡ true → (cookie : Share) × (cookie.client ≡ client) × (list_any (λ (k : Share). same_cookie k cookie) shares ≡ true)
shares_held client [] e = absurd (cc)
shares_held client (x ∷ xs) e = by (nat_eq x.client client) refl e (λ more. shares_held client xs more)
  where
    second : (u v : Bool) → v ≡ true → (u || v) ≡ true
    second true v e = refl
    second false v e = e

    by : (b : Bool) → nat_eq x.client client ≡ b → (b || list_any (λ (k : Share). nat_eq k.client client) xs) ≡ true
        → (list_any (λ (k : Share). nat_eq k.client client) xs ≡ true → (cookie : Share) × (cookie.client ≡ client) × (list_any (λ (k : Share). same_cookie k cookie) xs ≡ true))
        → (cookie : Share) × (cookie.client ≡ client) × (list_any (λ (k : Share). same_cookie k cookie) (x ∷ xs) ≡ true)
    by true s e rest = (x, grind (arith, nat_tests, s), ap (λ (b : Bool). b || list_any (λ (k : Share). same_cookie k x) xs) (cookie_same x))
    by false s e rest = let r = rest e in (r.0, r.1, second (same_cookie x r.0) (list_any (λ (k : Share). same_cookie k r.0) xs) r.2)

-- ---- a step that stands in a run

-- the open file is there, with the layout that was got, and the client shares its layout lock
pub record IsHeldAs (m : MetaView) (client : ℕ) (o : Opened) : Type 0 where
  pub file : File
  pub found : file_of o.file m.files ≡ Some file
  pub layout : file.layout ≡ o.layout
  pub shares : shares_lock client file ≡ true

module _ (s : State) (run : IsRun s) (c : ℕ) (asked : Command) (x : CallStep Running) (st : StandsIn s.script s.schedule c asked x) where
  -- while the cookie is held
  pub held_as : (o : Opened) → (hand_of x.call).opened ≡ Some o → o.cookie.client ≡ c → holds o.file o.cookie x.before.meta ≡ true → IsHeldAs x.before.meta c o
  held_as o hand own held =
      let is : IsThere x.before.meta o = held_there x.before.meta o held in
      let opens : IsOpenAs (hand_of x.call).opened o.file o.cookie is.file.layout = (call_has s run c asked x st).cookies o.file o.cookie is.file.layout own (record { file = is.file; there = is.there; held = is.held; layout = refl }) in
      let same : o.layout ≡ is.file.layout = (subst (λ (p : Option Opened). IsOpenAs p o.file o.cookie is.file.layout) hand opens).2 in
      record { file = is.file; found = is.there; layout = sym same; shares = subst (λ (k : ℕ). shares_lock k is.file ≡ true) own (held_shares o.cookie is.file.lock.cookies is.held) }

  -- where the client shares the lock of any file, that is the open one, whose cookie it holds
  pub shares_its_file : (n : ℕ) (f : File) → file_of n x.before.meta.files ≡ Some f → shares_lock c f ≡ true → (o : Opened) × ((hand_of x.call).opened ≡ Some o) × (o.file ≡ n) × (o.layout ≡ f.layout) × (holds o.file o.cookie x.before.meta ≡ true)
  shares_its_file n f there shares =
      let k = shares_held c f.lock.cookies shares in
      by (hand_of x.call).opened refl k.0 k.2 ((call_has s run c asked x st).cookies n k.0 f.layout k.1 (record { file = f; there = there; held = k.2; layout = refl }))
    where
      by : (p : Option Opened) → (hand_of x.call).opened ≡ p → (cookie : Share) → list_any (λ (k : Share). same_cookie k cookie) f.lock.cookies ≡ true → IsOpenAs p n cookie f.layout
          → (o : Opened) × ((hand_of x.call).opened ≡ Some o) × (o.file ≡ n) × (o.layout ≡ f.layout) × (holds o.file o.cookie x.before.meta ≡ true)
      by None e cookie held is = absurd is
      by (Some o) e cookie held is = (
        o,
        e,
        is.0,
        is.2,
        (λ j. holds (is.0 j) (is.1 j) x.before.meta)
            ∙ ap (λ (p : Option File). option_map_or (λ (g : File). list_any (λ (k : Share). same_cookie k cookie) g.lock.cookies) p false) there ∙ held,
      )
