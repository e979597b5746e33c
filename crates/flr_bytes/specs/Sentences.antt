-- What holds of the bytes of files, and of those that writing calls have landed.
use Rattle.std.specs.Prelude.{◌≡◌, ℕ, ◌+◌, ◌-◌, true, nat_lt, List, Some, get_or, [], if◌then◌else◌}
use Rattle.std.specs.Option.{option_map_or}
use Rattle.flr_base.specs.declared.reply.Range.{Range}
use Rattle.stripe_map.specs.Places.{place_of}
use Rattle.meta_server.specs.Files.{File, file_of}
use Rattle.flr_steps.specs.declared.client.Client.{Client}
use Rattle.flr_steps.specs.declared.client.Running.{Running}
use Rattle.flr_steps.specs.declared.client.Running.TheVariants as running
use Rattle.flr_steps.specs.States.{State, client_at}
use Rattle.flr_steps.specs.Traces.{Trace, doing_of}
use Rattle.plain_files.specs.Files.{Plain, bytes_of}
use Rattle.flr_claims.specs.Honesty.{content}
use Rattle.flr_claims.specs.Runs.{store_of}
use Rattle.flr_claims.specs.Sending.{Attempt, HasLanded, OfTruncate, OfWrite, Part, attempt_of, is_over, part_object}

-- ---- plain files by the numbers of files

-- the bytes of the plain file that has the name of the file with this number; none where there is no such file
abbrev pub plain_bytes : List File → List Plain → ℕ → List ℕ
plain_bytes files store number = option_map_or (λ (f : File). bytes_of store f.name) (file_of number files) []

-- its byte at x, zero past its end
abbrev pub byte_of : List File → List Plain → ℕ → ℕ → ℕ
byte_of files store number x = get_or (plain_bytes files store number) x 0

-- so it is in a state, by what its calls so far leave
abbrev pub byte_in : State → Trace → ℕ → ℕ → ℕ
byte_in s t number x = byte_of s.shared.meta.files (store_of s t) number x

-- the list has these bytes of the file, and zeros behind them
abbrev pub AreBytes : (ℕ → ℕ) → Range → List ℕ → Type 0
AreBytes byte range bytes = (i : ℕ) → get_or bytes i 0 ≡ (if nat_lt (range.start + i) range.end then byte (range.start + i) else 0)

-- ---- what has landed is still there

-- the byte that a writing call leaves at x: that which it writes there, and zero where it cuts
abbrev pub new_byte : Running → ℕ → ℕ
new_byte (running.Write w) x = get_or w.bytes (x - w.offset) 0
new_byte other x = 0

-- where in the object of a part a byte of the file lies that the part has
abbrev pub offset_in : Part → ℕ → ℕ
offset_in (OfWrite p) x = p.offset + (x - p.range.start)
offset_in (OfTruncate size s) x = (place_of x s.component.stripe).offset

-- each byte of a part that has landed, before its call's point, is what the call leaves there
abbrev pub LandedStay : State → Trace → Type 0
LandedStay s t =
    (c : ℕ) (client : Client) (a : Attempt) (place : ℕ) (p : Part) (x : ℕ) → client_at s.clients c ≡ Some client → attempt_of client.call ≡ Some a →
    HasLanded s.script.fails a (doing_of t c) place p → is_over x p ≡ true → get_or (content s.shared (part_object p)) (offset_in p x) 0 ≡ new_byte client.call x
