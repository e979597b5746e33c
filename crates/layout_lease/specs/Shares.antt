-- The layout lock of a file.
use Rattle.std.specs.Prelude.{ℕ, ◌+◌, ◌<◌, ◌≤◌, min, Bool, ◌&&◌, ◌==◌, not, Option, Some, None, List, [], ◌∷◌, ◌++◌, length, map, All}
use Rattle.std.specs.List.{filter, list_any}
use Rattle.std.specs.Option.{option_map_or}
use Rattle.layout_lease.specs.declared.shared.Share.{Share}
use Rattle.layout_lease.specs.Clients.{IsClient}

-- a layout lock: the cookies that clients hold, in the order in which they were given, and the number of the next one
pub record LockView : Type 0 where
  pub cookies : List Share
  pub next : ℕ

-- a lock that nobody holds, and that never gave a cookie
abbrev pub new_lock : LockView
new_lock = record { cookies = []; next = 1 }

-- the cookie that a client gets
abbrev pub cookie_for : ℕ → LockView → Share
cookie_for client lock = record { client = client; number = lock.next }

-- the lock once the client has got it
abbrev pub shared : ℕ → LockView → LockView
shared client lock = record { cookies = lock.cookies ++ cookie_for client lock ∷ []; next = lock.next + 1 }

-- two cookies are the same
abbrev pub same_cookie : Share → Share → Bool
same_cookie a b = (a.client == b.client) && (a.number == b.number)

-- the cookies of a client
abbrev pub cookies_of : ℕ → List Share → List Share
cookies_of client cookies = filter (λ share. share.client == client) cookies

-- the cookies of all others
abbrev pub cookies_but : ℕ → List Share → List Share
cookies_but client cookies = filter (λ share. not (share.client == client)) cookies

-- the cookie is held
abbrev pub is_held : LockView → Share → Bool
is_held lock cookie = list_any (λ share. same_cookie share cookie) lock.cookies

-- the lock without this cookie
abbrev pub freed : Share → LockView → LockView
freed cookie lock = record { cookies = filter (λ share. not (same_cookie share cookie)) lock.cookies; next = lock.next }

-- the lock without the cookies of this client
abbrev pub evicted : ℕ → LockView → LockView
evicted client lock = record { cookies = cookies_but client lock.cookies; next = lock.next }

-- the lowest of some numbers
abbrev pub lowest : List ℕ → Option ℕ
lowest [] = None
lowest (x ∷ xs) = Some (option_map_or (min x) (lowest xs) x)

-- the lowest of some numbers, if any, and of one more
abbrev pub with_lower : Option ℕ → ℕ → ℕ
with_lower found other = option_map_or (λ lower. min lower other) found other

-- the lowest other client that holds the lock
abbrev pub lowest_but : ℕ → LockView → Option ℕ
lowest_but client lock = lowest (map (λ (share : Share). share.client) (cookies_but client lock.cookies))

-- cookies are of clients, a client has at most one, and their numbers are below the next and differ
pub record IsSoundLock (lock : LockView) : Type 0 where
  pub clients : All (λ share. IsClient share.client) lock.cookies
  pub once : (client : ℕ) → length (cookies_of client lock.cookies) ≤ 1
  pub below : All (λ share. share.number < lock.next) lock.cookies
  pub distinct : (number : ℕ) → length (filter (λ share. share.number == number) lock.cookies) ≤ 1
