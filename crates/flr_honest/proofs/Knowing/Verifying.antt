-- What a verify has in hand, and what it finds, after each of its steps, by the bytes that the plain file had before it.
use Rattle.std.proofs.Common.{◌≡◌, ℕ, suc, ◌+◌, ◌-◌, ◌<◌, ◌≤◌, Bool, true, false, cond, nat_lt, Option, Some, None, List, [], ◌∷◌, ◌++◌, length, drop, get_or, ◌⊎◌, inl, inr, refl, sym, ap, subst, ◌∙◌, add-one, append-nil, length-drop, arith}
use Rattle.std.specs.Prelude.{is_none, is_some, unwrap_or}
use Rattle.std.specs.List.{AllByRecursion}
use Rattle.std.proofs.lemmas.Bool.{ltb-true}
use Rattle.std.proofs.lemmas.Bool.Decides.{nat_tests}
use Rattle.std.proofs.lemmas.List.{get_or-drop, get_or_past}
use Rattle.flr_base.proofs.Bytes.{length-piece, piece_at}
use Rattle.flr_base.specs.declared.reply.Diff.{Diff}
use Rattle.flr_base.specs.declared.reply.FailedCall.{FailedCall}
use Rattle.flr_base.specs.declared.reply.ObjectId.{ObjectId}
use Rattle.flr_base.specs.declared.reply.Range.{Range}
use Rattle.mirror_select.specs.declared.types.Piece.{Piece}
use Rattle.mirror_select.specs.Held.{byte_at}
use Rattle.mirror_select.proofs.Least.{to_contains}
use Rattle.mirror_select.proofs.Sound.{has_parts}
use Rattle.object_target.specs.declared.call.CallAnswer.{CallAnswer}
use Rattle.object_target.specs.declared.call.CallAnswer.TheVariants as answer
use Rattle.object_target.specs.Calls.{read_answer}
use Rattle.meta_server.specs.Closing.{holds}
use Rattle.meta_server.specs.Files.{File, file_named, file_of}
use Rattle.meta_server.specs.Opening.{opened}
use Rattle.meta_server.specs.Sound.{IsSound}
use Rattle.meta_laws.proofs.Copies.{sound_named}
use Rattle.call_steps.specs.Pieces.{length_of, object_of}
use Rattle.call_steps.specs.Servers.{Servers}
use Rattle.mirror_verify.specs.declared.copies.BlockCopy.{BlockCopy}
use Rattle.mirror_verify.specs.declared.phase.VerifyAt.{VerifyAt}
use Rattle.mirror_verify.specs.declared.phase.VerifyAt.TheVariants as at
use Rattle.mirror_verify.specs.declared.phase.Verifying.{Verifying}
use Rattle.mirror_verify.specs.Blocks.{copies_of, copy_at, holes_first, is_first, is_hole, next_object}
use Rattle.mirror_verify.specs.Findings.{Finding, entry_of, with_copy, with_holes}
use Rattle.mirror_verify.specs.Fitting.{HasCopies, IsObjectAt}
use Rattle.mirror_verify.specs.Verifies.{bytes_of, closes, opens_file, takes_copy, takes_from, target_of, verify_at, verifying, with_answer}
use Rattle.mirror_verify.specs.Views.{VerifyView}
use Rattle.mirror_verify.proofs.ToldRun.{no_entry}
use Rattle.flr_steps.specs.States.{State}
use Rattle.flr_steps.specs.Traces.{Trace}
use Rattle.flr_claims.specs.Honesty.{IsOpen, content}
use Rattle.flr_pieces.proofs.Leading.{Leads}
use Rattle.flr_bytes.specs.Files.{HoldBytes}
use Rattle.flr_bytes.specs.Runs.{Ground}
use Rattle.flr_bytes.specs.Sentences.{AreBytes, byte_in}
use Rattle.flr_bytes.specs.Pieces.{VerifyHas}
use Rattle.flr_honest.proofs.Knowing.Closed.{twice_closed}
use Rattle.flr_honest.proofs.Knowing.Copies.{InRow, IsShared}

-- ---- the next copy that isn't a hole

first_object : (copies : List BlockCopy) (d : BlockCopy) → holes_first copies < length copies → is_some (get_or copies (holes_first copies) d).piece.object ≡ true
first_object [] d h = absurd (omega (arith, h))
first_object (copy ∷ copies) d h = by (is_hole copy) refl h (first_object copies d)
  where
    no_hole : (o : Option ObjectId) → is_none o ≡ false → is_some o ≡ true
    no_hole None e = absurd (cc)
    no_hole (Some o) e = refl

    by : (b : Bool) → is_hole copy ≡ b → cond b (holes_first copies + 1) 0 < length (copy ∷ copies) → (holes_first copies < length copies → is_some (get_or copies (holes_first copies) d).piece.object ≡ true) → is_some (get_or (copy ∷ copies) (cond b (holes_first copies + 1) 0) d).piece.object ≡ true
    by true e h more = rw add-one (more (omega (arith, h)))
    by false e h more = no_hole copy.piece.object e

next_is_object : (copies : List BlockCopy) (place : ℕ) → next_object copies place < length copies → IsObjectAt copies (next_object copies place)
next_is_object copies place h = record {
  there = h;
  object = ap (λ (c : BlockCopy). is_some c.piece.object) (sym (get_or-drop place copies (holes_first (drop place copies)) _)) ∙ first_object (drop place copies) _ (omega (arith, h, length-drop place copies));
}

-- ---- what it has in hand

abbrev pub IsInHand : VerifyView → Type 0
IsInHand v = VerifyHas v.client v.at

takes_have : (client : ℕ) (x : Verifying) (place : ℕ) → x.opened.cookie.client ≡ client → HasCopies x → VerifyHas client (takes_from x (next_object x.copies place))
takes_have client x place own has = by (nat_lt (next_object x.copies place) (length x.copies)) refl
  where
    by : (b : Bool) → nat_lt (next_object x.copies place) (length x.copies) ≡ b → VerifyHas client (cond b (at.Take x (next_object x.copies place)) (at.Close x None))
    by true e = (own, has, next_is_object x.copies place (ltb-true (next_object x.copies place) (length x.copies) e))
    by false e = own

module _ (v : VerifyView) (s : Servers) (sound : IsSound s.meta) where
  opens_have : (o : Option File) → file_named v.name s.meta.files ≡ o → Leads IsInHand (opens_file v s o)
  opens_have None e = tt
  opens_have (Some f) e =
      let good = sound_named s.meta sound v.name f e in
      let copies : List BlockCopy = copies_of f.layout.components f.size in
      takes_have v.client (verifying (opened v.client f) copies) 0 refl (record { valid = good.layout; size = good.size; are = refl })

  take_has : (x : Verifying) (next : ℕ) (p : Piece) (a : CallAnswer) → x.opened.cookie.client ≡ v.client → HasCopies x → Leads IsInHand (takes_copy v s x next p a)
  take_has x next p answer.Ok own has = takes_have v.client (with_answer s x next) (next + 1) own (record { valid = has.valid; size = has.size; are = has.are })
  take_has x next p (answer.Old kept) own has = own
  take_has x next p answer.Failed own has = own

  close_has : (x : Verifying) (fault : Option FailedCall) (b : Bool) → Leads IsInHand (closes v s x fault b)
  close_has x fault false = tt
  close_has x fault true = tt

  -- each step of a verify
  pub verify_has : (a : VerifyAt) → VerifyHas v.client a → Leads IsInHand (verify_at a v s)
  verify_has at.Open h = opens_have (file_named v.name s.meta.files) refl
  verify_has (at.Take x next) h = take_has x next (copy_at x.copies next).piece (read_answer (target_of s (copy_at x.copies next).piece)) h.0 h.1
  verify_has (at.Close x fault) h = close_has x fault (holds x.opened.file x.opened.cookie s.meta)

-- ---- what it finds

module _ (byte : ℕ → ℕ) where
  -- no difference, and the bytes of the first copy of this block, if one is in hand
  abbrev pub AreRight : Option Range → Finding → Type 0
  AreRight before found = (found.diffs ≡ []) × ((range : Range) → before ≡ Some range → AreBytes byte range found.first)

  -- and of the block of this copy, if it isn't the first there
  abbrev pub AreRightAt : BlockCopy → Finding → Type 0
  AreRightAt copy found = (found.diffs ≡ []) × (is_first copy ≡ false → AreBytes byte copy.piece.range found.first)

  same_entry : (first : ℕ) (p : Piece) (ours theirs : List ℕ) → AreBytes byte p.range ours → AreBytes byte p.range theirs → entry_of first p ours theirs ≡ []
  same_entry first p ours theirs a b = (no_entry first p ours theirs).1 (λ place. a place ∙ sym (b place))

  -- one more copy, whose bytes are right
  pub one_right : (copy : BlockCopy) (bytes : List ℕ) (found : Finding) → AreBytes byte copy.piece.range bytes → AreRightAt copy found → AreRight (Some copy.piece.range) (with_copy copy bytes found)
  one_right copy bytes found right h = by copy.against refl
    where
      over : (b : List ℕ) → AreBytes byte copy.piece.range b → (range : Range) → Some copy.piece.range ≡ Some range → AreBytes byte range b
      over b right range e = let same : copy.piece.range ≡ range = cc in subst (λ (r : Range). AreBytes byte r b) same right

      by : (against : Option ℕ) → copy.against ≡ against → AreRight (Some copy.piece.range) (with_copy (record copy { against = against }) bytes found)
      by None e = (h.0, over bytes right)
      by (Some first) e =
          let ours : AreBytes byte copy.piece.range found.first = h.1 (ap is_none e) in
          (ap (λ (ds : List Diff). found.diffs ++ ds) (same_entry first copy.piece found.first bytes ours right) ∙ append-nil found.diffs ∙ h.0, over found.first ours)

  -- a copy behind one of its block
  right_at : (copy : BlockCopy) (before : Option Range) (found : Finding) → (is_first copy ≡ true) ⊎ (before ≡ Some copy.piece.range) → AreRight before found → AreRightAt copy found
  right_at copy before found (inl first) h = (h.0, λ later. absurd (let no : true ≡ false = sym first ∙ later in cc))
  right_at copy before found (inr same) h = (h.0, λ later. h.1 copy.piece.range same)

  -- the holes that stand first, each of whose bytes is zero
  pub holes_right : (copies : List BlockCopy) (before : Option Range) (found : Finding) (d : BlockCopy) → is_first d ≡ true → InRow before copies → AllByRecursion (λ (copy : BlockCopy). is_hole copy ≡ true → AreBytes byte copy.piece.range []) copies → AreRight before found
      → AreRightAt (get_or copies (holes_first copies) d) (with_holes copies found)
  holes_right [] before found d first row zeros h = (h.0, λ later. absurd (let no : true ≡ false = sym first ∙ later in cc))
  holes_right (copy ∷ copies) before found d first row zeros h =
      by (is_hole copy) refl (λ e. holes_right copies (Some copy.piece.range) (with_copy copy [] found) d first row.1 zeros.1 (one_right copy [] found (zeros.0 e) (right_at copy before found row.0 h)))
    where
      by : (b : Bool) → is_hole copy ≡ b → (is_hole copy ≡ true → AreRightAt (get_or copies (holes_first copies) d) (with_holes copies (with_copy copy [] found)))
          → AreRightAt (get_or (copy ∷ copies) (cond b (holes_first copies + 1) 0) d) (cond b (with_holes copies (with_copy copy [] found)) found)
      by true e more = subst (λ n. AreRightAt (get_or (copy ∷ copies) n d) (with_holes copies (with_copy copy [] found))) (let one : suc (holes_first copies) ≡ holes_first copies + 1 = omega arith in one) (more e)
      by false e more = right_at copy before found row.0 h

-- ---- the bytes of the copies

module _ (s : State) (tr : Trace) (g : Ground s tr) (hold : HoldBytes s tr) (n : ℕ) (f : File) (found : file_of n s.shared.meta.files ≡ Some f) (copy : BlockCopy) (its : IsShared f.layout.components copy) where
  -- no byte of a copy is open
  pub copy_shut : (y : ℕ) → copy.piece.range.start ≤ y → y < copy.piece.range.end → IsOpen s tr n y → ⊥
  copy_shut y low high =
      let mine = has_parts y its.component (its.lies y low high).covered in
      let theirs = has_parts y its.other (its.both y low high) in
      twice_closed s tr g n f found its.component its.other its.listed its.other_listed its.fresh its.other_fresh its.apart y mine.0 mine.1 theirs.0 theirs.1

  copy_byte : (y : ℕ) → copy.piece.range.start ≤ y → y < copy.piece.range.end → byte_in s tr n y ≡ byte_at (content s.shared) copy.piece.object (copy.piece.offset + (y - copy.piece.range.start))
  copy_byte y low high =
      let lies = its.lies y low high in
      let mine = has_parts y its.component lies.covered in
      sym (hold n f its.component y found (to_contains f.layout.components its.component its.listed) its.fresh (mine.0, mine.1, its.small y high) (copy_shut y low high)) ∙ lies.held (content s.shared)

  -- what a copy has of a block
  by_test : (bytes : List ℕ) → ((i : ℕ) → copy.piece.range.start + i < copy.piece.range.end → get_or bytes i 0 ≡ byte_in s tr n (copy.piece.range.start + i)) → ((i : ℕ) → copy.piece.range.end ≤ copy.piece.range.start + i → get_or bytes i 0 ≡ 0)
      → AreBytes (byte_in s tr n) copy.piece.range bytes
  by_test bytes within past i = by (nat_lt (copy.piece.range.start + i) copy.piece.range.end) refl
    where
      by : (b : Bool) → nat_lt (copy.piece.range.start + i) copy.piece.range.end ≡ b → get_or bytes i 0 ≡ cond b (byte_in s tr n (copy.piece.range.start + i)) 0
      by true e = within i (ltb-true (copy.piece.range.start + i) copy.piece.range.end e)
      by false e = past i (grind (arith, nat_tests))

  -- a hole has zeros
  pub hole_bytes : is_hole copy ≡ true → AreBytes (byte_in s tr n) copy.piece.range []
  hole_bytes e = by_test [] (λ i high. sym (copy_byte (copy.piece.range.start + i) (omega arith) high ∙ ap (λ (o : Option ObjectId). byte_at (content s.shared) o (copy.piece.offset + (copy.piece.range.start + i - copy.piece.range.start))) (none copy.piece.object e))) (λ i past. refl)
    where
      none : (o : Option ObjectId) → is_none o ≡ true → o ≡ None
      none None e = refl
      none (Some x) e = absurd (cc)

  -- and any other what is read of it
  pub read_bytes : is_some copy.piece.object ≡ true → AreBytes (byte_in s tr n) copy.piece.range (bytes_of s.shared copy.piece)
  read_bytes e = by_test (bytes_of s.shared copy.piece)
      (λ i high.
      let less : i < length_of copy.piece = omega (arith, high) in
      let far : copy.piece.range.start + i - copy.piece.range.start ≡ i = omega arith in
      piece_at (content s.shared (object_of copy.piece)) copy.piece.offset (length_of copy.piece) i less
      ∙ sym (copy_byte (copy.piece.range.start + i) (omega arith) high ∙ ap (λ k. byte_at (content s.shared) copy.piece.object (copy.piece.offset + k)) far ∙ ap (λ (o : Option ObjectId). byte_at (content s.shared) o (copy.piece.offset + i)) (some copy.piece.object e)))
      (λ i past.
      let long = length-piece (content s.shared (object_of copy.piece)) copy.piece.offset (length_of copy.piece) in
      get_or_past (bytes_of s.shared copy.piece) i 0 (omega (arith, long, past)))
    where
      some : (o : Option ObjectId) → is_some o ≡ true → o ≡ Some (unwrap_or o (record { target = 0; number = 0 }))
      some None e = absurd (cc)
      some (Some x) e = refl
