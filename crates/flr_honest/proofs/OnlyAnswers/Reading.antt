-- A read has one answer, where each call of a target that it made has a number of its own.
use Rattle.std.proofs.Common.{◌≡◌, ℕ, ◌-◌, ◌+◌, ◌≤◌, ◌<◌, ◌⊎◌, Bool, true, false, List, [], ◌∷◌, inl, inr, refl, sym, ap, subst, ◌∙◌, arith}
use Rattle.std.proofs.lemmas.Bool.{cases_lt}
use Rattle.std.specs.Prelude.{take}
use Rattle.std.specs.List.{flat_map}
use Rattle.flr_base.specs.Bytes.{piece}
use Rattle.flr_base.specs.declared.reply.FailedCall.{FailedCall}
use Rattle.flr_base.specs.declared.reply.Range.{Range}
use Rattle.flr_base.specs.declared.reply.Reply.{Reply}
use Rattle.flr_base.specs.declared.reply.Reply.TheVariants as reply
use Rattle.flr_base.specs.declared.reply.Take.{Take}
use Rattle.flr_base.specs.declared.reply.TakeFrom.{TakeFrom}
use Rattle.flr_base.specs.declared.reply.TakeFrom.TheVariants as from
use Rattle.composite_layout.specs.declared.component.Component.{Component}
use Rattle.script_values.specs.declared.command.Command.{Command}
use Rattle.script_values.specs.declared.command.Command.TheVariants as command
use Rattle.meta_server.specs.Files.{File}
use Rattle.flr_steps.specs.Traces.{Made, made_since_open}
use Rattle.flr_claims.specs.Asked.{range_of}
use Rattle.flr_claims.specs.Calls.{Call}
use Rattle.flr_claims.specs.Causes as causes
use Rattle.flr_claims.specs.Causes.{Answers, IsCaused}
use Rattle.flr_claims.specs.Failures.{failed_over, is_unanswered}
use Rattle.flr_claims.specs.Takes.{AreRightTakes, HasNobodyLeft, HasRead, IsAnsweredBy, IsFrom, IsLowest}
use Rattle.flr_honest.specs.Entries.{claimed}
use Rattle.flr_honest.specs.OnlyAnswers.Alone.{AreAlone, AreMadeOnce, IsReading}
use Rattle.flr_honest.proofs.OnlyAnswers.MadeOnce.{calls_made_once}
use Rattle.flr_honest.proofs.OnlyAnswers.OneStep.{one_if_answered, one_named}

module _ (made : List Made) (once : AreMadeOnce made) where
  -- the bytes of a take are one
  answered_one : (c d : Component) (t : Take) (target number call : ℕ) (bytes others : List ℕ) → IsAnsweredBy made c t target number call bytes → IsAnsweredBy made d t target number call others → others ≡ bytes
  answered_one c d t target number call bytes others a b =
      let same : b.by ≡ a.by = once b.by a.by b.listed a.listed (b.target_is ∙ sym a.target_is) (b.call_is ∙ sym a.call_is) in
      b.bytes_are ∙ ap (λ (m : Made). piece m.bytes m.entry.offset m.entry.length) same ∙ sym a.bytes_are

  from_one : (c d : Component) (t : Take) (bytes others : List ℕ) (of : TakeFrom) → IsFrom made c t bytes of → IsFrom made d t others of → others ≡ bytes
  from_one c d t bytes others from.Hole a b = b.1 ∙ sym a.1
  from_one c d t bytes others (from.Object o call) a b = answered_one c d t o.target o.number call bytes others a b

  -- and so are those of all takes
  pub takes_one : (cs ds : List Component) (start end : ℕ) (ts : List Take) (pieces others : List (List ℕ)) → AreRightTakes cs made start end ts pieces → AreRightTakes ds made start end ts others → others ≡ pieces
  takes_one cs ds start end [] [] [] a b = refl
  takes_one cs ds start end [] [] (other ∷ others) a b = absurd b
  takes_one cs ds start end [] (bytes ∷ rest) others a b = absurd a
  takes_one cs ds start end (t ∷ ts) [] others a b = absurd a
  takes_one cs ds start end (t ∷ ts) (bytes ∷ rest) [] a b = absurd b
  takes_one cs ds start end (t ∷ ts) (bytes ∷ rest) (other ∷ others) a b =
      let head : other ≡ bytes = from_one a.1.component b.1.component t bytes other t.from a.1.from b.1.from in
      let tail : others ≡ rest = takes_one cs ds t.range.end end ts rest others a.2 b.2 in
      ap (λ (x : List ℕ). x ∷ others) head ∙ ap (λ (xs : List (List ℕ)). bytes ∷ xs) tail

-- the lowest byte that passes is one
pub lowest_one : (range : Range) (test : ℕ → Bool) (x y : ℕ) → IsLowest range test x → IsLowest range test y → y ≡ x
lowest_one range test x y a b = by (cases_lt x y) (cases_lt y x)
  where
    never : (n : ℕ) → test n ≡ true → test n ≡ false → ⊥
    never n passes fails = absurd (cc)

    by : (x < y) ⊎ (y ≤ x) → (y < x) ⊎ (x ≤ y) → y ≡ x
    by (inl less) other = absurd (never x a.passes (b.lowest x a.low less))
    by (inr most) (inl more) = absurd (never y b.passes (a.lowest y b.low more))
    by (inr most) (inr least) = omega (arith, most, least)

module _ (k : Call) (once : AreMadeOnce (made_since_open k.did)) where
  read_bytes_one : (offset len : ℕ) (bytes others : List ℕ) → HasRead k offset len bytes → HasRead k offset len others → others ≡ bytes
  read_bytes_one offset len bytes others a b =
      let file : b.now ≡ a.now = one_named k b.now a.now b.held.file a.held.file in
      let same = takes_one (made_since_open k.did) once a.now.layout.components b.now.layout.components offset (offset + len) k.takes a.takes.pieces b.takes.pieces a.takes.right b.takes.right in
      b.takes.joined ∙ ap (λ (f : File). take (f.size - offset) (flat_map (λ (p : List ℕ). p) b.takes.pieces)) file
      ∙ ap (λ (ps : List (List ℕ)). take (a.now.size - offset) (flat_map (λ (p : List ℕ). p) ps)) same ∙ sym a.takes.joined

  read_or_left : (name : List ℕ) (offset len byte : ℕ) (bytes : List ℕ) (calls : List FailedCall) → k.asked ≡ command.Read name offset len → HasRead k offset len bytes → HasNobodyLeft k byte calls → ⊥
  read_or_left name offset len byte bytes calls asked a b =
      let file : b.now ≡ a.now = one_named k b.now a.now b.held.file a.held.file in
      let range : range_of k.asked ≡ record { start = offset; end = offset + len } = ap range_of asked in
      let low : offset ≤ byte = subst (λ (r : Range). r.start ≤ byte) range b.lowest.low in
      let high : byte < offset + len = subst (λ (r : Range). byte < r.end) range b.lowest.high in
      let none : is_unanswered a.now.layout.components (made_since_open k.did) byte ≡ false = a.answerable byte low high in
      let left : is_unanswered a.now.layout.components (made_since_open k.did) byte ≡ true = subst (λ (f : File). is_unanswered f.layout.components (made_since_open k.did) byte ≡ true) file b.lowest.passes in
      absurd (cc)

  byte_one : (byte other : ℕ) (calls others : List FailedCall) → HasNobodyLeft k byte calls → HasNobodyLeft k other others → other ≡ byte
  byte_one byte other calls others a b =
      let file : b.now ≡ a.now = one_named k b.now a.now b.held.file a.held.file in
      lowest_one (range_of k.asked) (is_unanswered a.now.layout.components (made_since_open k.did)) byte other a.lowest
      (subst (λ (f : File). IsLowest (range_of k.asked) (is_unanswered f.layout.components (made_since_open k.did)) other) file b.lowest)

  calls_one : (byte other : ℕ) (calls others : List FailedCall) → HasNobodyLeft k byte calls → HasNobodyLeft k other others → others ≡ calls
  calls_one byte other calls others a b =
      let file : b.now ≡ a.now = one_named k b.now a.now b.held.file a.held.file in
      b.named ∙ ap (λ (f : File). failed_over f.layout.components (made_since_open k.did) other) file
      ∙ ap (failed_over a.now.layout.components (made_since_open k.did)) (byte_one byte other calls others a b) ∙ sym a.named

  left_one : (byte other : ℕ) (calls others : List FailedCall) → HasNobodyLeft k byte calls → HasNobodyLeft k other others → reply.Fault other others ≡ reply.Fault byte calls
  left_one byte other calls others a b = ap (λ (x : ℕ). reply.Fault x others) (byte_one byte other calls others a b) ∙ ap (reply.Fault byte) (calls_one byte other calls others a b)

  read_one : (name : List ℕ) (offset len : ℕ) → k.asked ≡ command.Read name offset len → (a b : Reply) → causes.ReadsBytes k offset len a → causes.ReadsBytes k offset len b → b ≡ a
  read_one name offset len asked (reply.Bytes bytes) (reply.Bytes others) h o = ap reply.Bytes (read_bytes_one offset len bytes others h o)
  read_one name offset len asked (reply.Bytes bytes) (reply.Fault byte calls) h o = absurd (read_or_left name offset len byte bytes calls asked h o.1)
  read_one name offset len asked (reply.Bytes bytes) other h o = absurd o
  read_one name offset len asked (reply.Fault byte calls) (reply.Bytes others) h o = absurd (read_or_left name offset len byte others calls asked o h.1)
  read_one name offset len asked (reply.Fault byte calls) (reply.Fault other others) h o = left_one byte other calls others h.1 o.1
  read_one name offset len asked (reply.Fault byte calls) other h o = absurd o
  read_one name offset len asked other b h o = absurd h

  reading_one : (asked : Command) → k.asked ≡ asked → IsReading asked → (a b : Reply) → Answers k asked a → Answers k asked b → b ≡ a
  reading_one (command.Read name offset len) e so a b h o = read_one name offset len e a b h o
  reading_one other e so a b h o = absurd so

  -- a read has one answer with its cause
  pub reads_have_one : IsReading k.asked → (a b : Reply) → IsCaused k a → IsCaused k b → b ≡ a
  reads_have_one so a b caused o = one_if_answered k a b (reading_one k.asked refl so a b) caused o

-- in each run the answer of a read is the only one that has its cause
pub reads_are_alone : AreAlone IsReading
reads_are_alone s e p is so caused other o = reads_have_one (claimed is) (calls_made_once is) so e.reply other caused o
