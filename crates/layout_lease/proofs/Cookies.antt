-- Cookies by their test.
use Rattle.std.proofs.Common.{◌≡◌, ◌↔◌, ℕ, true, Contains, IsTrue, ap, ◌∙◌, arith}
use Rattle.std.proofs.lemmas.Bool.Decides.{nat_tests}
use Rattle.layout_lease.specs.declared.shared.Share.{Share}
use Rattle.layout_lease.specs.Shares.{LockView, same_cookie, is_held}
use Rattle.layout_lease.proofs.Lists.{Contains-from_any, any_from_Contains}

same_cookie_true : (wanted share : Share) → same_cookie share wanted ≡ true → share ≡ wanted
same_cookie_true wanted share h =
    let client : share.client ≡ wanted.client = grind (arith, nat_tests) in
    let number : share.number ≡ wanted.number = grind (arith, nat_tests) in
    let with_client : ℕ → Share = λ k. record { client = k; number = share.number } in
    let with_number : ℕ → Share = λ n. record { client = wanted.client; number = n } in
    ap with_client client ∙ ap with_number number

same_cookie_from : (wanted share : Share) → share ≡ wanted → same_cookie share wanted ≡ true
same_cookie_from wanted share h =
    let client : share.client ≡ wanted.client = ap (λ (s : Share). s.client) h in
    let number : share.number ≡ wanted.number = ap (λ (s : Share). s.number) h in
    grind (arith, nat_tests)

-- a cookie is held exactly where the list has it
pub is_held-listed : (lock : LockView) (cookie : Share) → IsTrue (is_held lock cookie) ↔ Contains lock.cookies cookie
is_held-listed lock cookie =
    (Contains-from_any (λ share. same_cookie share cookie) cookie (same_cookie_true cookie) (same_cookie_from cookie) lock.cookies, any_from_Contains (λ share. same_cookie share cookie) cookie (same_cookie_true cookie) (same_cookie_from cookie) lock.cookies)
