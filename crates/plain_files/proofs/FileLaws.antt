-- What writes and truncates that got only so far leave, byte by byte.
use Rattle.std.proofs.Common.{◌≡◌, ℕ, ◌-◌, ◌<◌, max, if◌then◌else◌, List, length, get_or, refl, sym, ap, ◌∙◌, arith, inl, inr}
use Rattle.std.proofs.lemmas.Bool.{cases_Bool}
use Rattle.std.proofs.lemmas.List.{ext_get_or}
use Rattle.std.proofs.lemmas.List.FromFn.{get_or-map-range_with_len, length-map-range_with_len}
use Rattle.flr_base.specs.Bytes.{overlay}
use Rattle.flr_base.proofs.Bytes.{length-overlay, overlay_in, overlay_out}
use Rattle.plain_files.specs.Files.{made_by, is_written, end_of, LandsWhole, FitsItself}

-- a list made by a function is another where it is as long and each byte is the function's
made_is : (len : ℕ) (byte : ℕ → ℕ) (xs : List ℕ) → length xs ≡ len → ((x : ℕ) → x < len → byte x ≡ get_or xs x 0) → made_by len byte ≡ xs
made_is len byte xs long each =
    let l = length-map-range_with_len byte 0 len in
    ext_get_or 0 (made_by len byte) xs (l ∙ sym long) (λ i lt.
    let small : i < len = omega arith in
    get_or-map-range_with_len byte 0 len i i 0 small (omega arith) ∙ each i small)

pub fits_itself : FitsItself
fits_itself old = made_is (length old) (λ x. get_or old x 0) old refl (λ x lt. refl)

pub lands_whole : LandsWhole
lands_whole old offset bytes ranges ends new =
    let l = length-overlay old offset bytes in
    made_is (max (length old) (end_of ranges)) (λ x. if is_written ranges x then get_or bytes (x - offset) 0 else get_or old x 0) (overlay old offset bytes) (omega (arith, ends)) (λ x lt.
    elim (cases_Bool (is_written ranges x)) [
      | inl is ↦ let within = (new x).0 is in ap (λ b. if b then get_or bytes (x - offset) 0 else get_or old x 0) is ∙ sym (overlay_in old offset bytes x within.0 within.1)
      | inr isnt ↦ ap (λ b. if b then get_or bytes (x - offset) 0 else get_or old x 0) isnt ∙ sym (overlay_out old offset bytes x (λ low high. absurd (cc (sym isnt ∙ (new x).1 (low, high)))))
    ])
