-- A read that began after a write of the same bytes had ended answers these, where no other write was under way meanwhile.
use Rattle.std.proofs.Common.{◌≡◌, ℕ, zero, suc, ◌+◌, ◌-◌, ◌<◌, ◌≤◌, List, [], ◌∷◌, length, map, take, drop, get_or, Some, inl, inr, refl, sym, ap, ◌∙◌, subst, arith}
use Rattle.std.specs.Prelude.{slice_get}
use Rattle.std.proofs.lemmas.Bool.{cases_lt}
use Rattle.std.proofs.lemmas.List.{ext_get_or, get_or-drop, get_or-take, length-drop, length-take}
use Rattle.flr_base.specs.Bytes.{overlay}
use Rattle.flr_base.proofs.Bytes.{length-overlay, overlay_in}
use Rattle.flr_base.specs.declared.reply.Entry.{Entry}
use Rattle.flr_base.specs.declared.reply.Reply.{Reply}
use Rattle.flr_base.specs.declared.reply.Reply.TheVariants as reply
use Rattle.script_values.specs.declared.command.Command.{Command}
use Rattle.script_values.specs.declared.command.Command.TheVariants as command
use Rattle.plain_files.specs.Effects.{Allows, effect, with_bytes}
use Rattle.plain_files.specs.Files.{Plain, bytes_of}
use Rattle.plain_files.specs.Histories.{Answered, ArePointsAfter, IsLegal, IsWithinInterval, store_by}
use Rattle.flr_past.proofs.Lists.{all_got}
use Rattle.flr_bytes.proofs.StoreEffects.{own_new}
use Rattle.flr_honest.specs.Legal.Laws.{LastWritesAreRead, RunsReadLastWrites}
use Rattle.flr_honest.specs.Legal.Seeing.{IsOutside, WritesTo}
use Rattle.flr_honest.proofs.Legal.Runs.{runs_are_linear}
use Rattle.flr_honest.proofs.Legal.Staying.{HasBytes, effect_stays, with_present}

-- ---- points

abbrev entry_of : Answered → Entry
entry_of a = a.entry

-- each point is behind the place
behind : (place : ℕ) (calls : List Answered) (j : ℕ) (b : Answered) → ArePointsAfter place (map entry_of calls) → slice_get calls j ≡ Some b → place < b.entry.at
behind place [] j b points there = absurd (cc there)
behind place (a ∷ calls) zero b points there = (let e : a ≡ b = cc there in subst (λ (x : Answered). place < x.entry.at) e points.0)
behind place (a ∷ calls) (suc j) b points there = (let rest = behind a.entry.at calls j b points.1 there in let first = points.0 in omega (arith, rest, first))

-- of two calls the one that stands later has the later point
ascend : (place : ℕ) (calls : List Answered) (i j : ℕ) (a b : Answered) → ArePointsAfter place (map entry_of calls) → slice_get calls i ≡ Some a → slice_get calls j ≡ Some b → i < j → a.entry.at < b.entry.at
ascend place [] i j a b points at_i at_j less = absurd (cc at_i)
ascend place (c ∷ calls) zero zero a b points at_i at_j less = absurd (omega (arith, less))
ascend place (c ∷ calls) zero (suc j) a b points at_i at_j less =
    let same : c ≡ a = cc at_i in subst (λ (x : Answered). x.entry.at < b.entry.at) same (behind c.entry.at calls j b points.1 at_j)
ascend place (c ∷ calls) (suc i) zero a b points at_i at_j less = absurd (omega (arith, less))
ascend place (c ∷ calls) (suc i) (suc j) a b points at_i at_j less = ascend c.entry.at calls i j a b points.1 at_i at_j (omega (arith, less))

-- a call that has ended did so at its point or later
ended_by : (schedule : List ℕ) (e : Entry) → IsWithinInterval schedule e → 0 < e.last → e.at ≤ e.last
ended_by schedule e w ended = elim w.ends [ inl none ↦ absurd (omega (arith, none, ended)) | inr later ↦ later.0 ]

-- the one whose point is earlier stands before
earlier : (calls : List Answered) (i j : ℕ) (a b : Answered) → ArePointsAfter 0 (map entry_of calls) → slice_get calls i ≡ Some a → slice_get calls j ≡ Some b → a.entry.at < b.entry.at → i < j
earlier calls i j a b points at_i at_j less = elim (cases_lt i j) as (λ _. i < j) [
  | inl lt ↦ lt
  | inr le ↦ elim (cases_lt j i) as (λ _. i < j) [
    | inl back ↦ (let later = ascend 0 calls j i b a points at_j at_i back in absurd (omega (arith, later, less)))
    | inr ge ↦ (
        let one : i ≡ j = omega (arith, le, ge) in
        let both : Some a ≡ Some b = sym at_i ∙ ap (slice_get calls) one ∙ at_j in
        let same : a ≡ b = cc both in
        let point : a.entry.at ≡ b.entry.at = ap (λ (x : Answered). x.entry.at) same in
        absurd (omega (arith, point, less))
        )
  ]
]

-- a call whose point lies between those of two others isn't outside of them
inside : (schedule : List ℕ) (o w r : Entry) → IsWithinInterval schedule o → IsWithinInterval schedule w → IsWithinInterval schedule r → w.at < o.at → o.at < r.at → IsOutside o w r → ⊥
inside schedule o w r in_o in_w in_r low high (inl before) =
    let end = ended_by schedule o in_o before.0 in
    let less = before.1 in
    let order = in_w.order in
    absurd (omega (arith, end, less, order, low))
inside schedule o w r in_o in_w in_r low high (inr after) =
    let end = ended_by schedule r in_r after.0 in
    let less = after.1 in
    let order = in_o.order in
    absurd (omega (arith, end, less, order, high))

-- ---- from the write to the read

-- the bytes that were written are read
read_back : (old : List ℕ) (offset : ℕ) (new : List ℕ) → take (length new) (drop offset (overlay old offset new)) ≡ new
read_back old offset new = ext_get_or 0 (take (length new) (drop offset b)) new long (λ i less.
    let small : i < length new = (let same = long in omega (arith, less, same)) in
    get_or-take (length new) (drop offset b) i 0 small ∙ get_or-drop offset b i 0 ∙ overlay_in old offset new (offset + i) (omega arith) (omega (arith, small))
    ∙ ap (λ (k : ℕ). get_or new k 0) (let same : offset + i - offset ≡ i = omega arith in same))
  where
    b : List ℕ
    b = overlay old offset new

    long : length (take (length new) (drop offset b)) ≡ length new
    long =
        let whole = length-overlay old offset new in
        let front = length-take (length new) (drop offset b) in
        let back = length-drop offset b in
        omega (arith, whole, front, back)

-- what the read is allowed, by the store before it, which has the bytes
record IsSeen (name bytes : List ℕ) (r : Answered) : Type 0 where
  pub store : List Plain
  pub allowed : Allows r.command store r.entry.reply
  pub has : HasBytes name bytes store

module _ (name bytes : List ℕ) (r : Answered) where
  -- up to the read no call writes to the file
  read_from : (calls : List Answered) (store : List Plain) (j : ℕ) → IsLegal store calls → slice_get calls j ≡ Some r → HasBytes name bytes store
      → ((k : ℕ) (other : Answered) → k < j → slice_get calls k ≡ Some other → WritesTo other.command name → ⊥) → IsSeen name bytes r
  read_from [] store j legal there h none = absurd (cc there)
  read_from (a ∷ calls) store zero legal there h none = (let same : a ≡ r = cc there in record { store = store; allowed = subst (λ (x : Answered). Allows x.command store x.entry.reply) same legal.0; has = h })
  read_from (a ∷ calls) store (suc j) legal there h none =
      read_from calls (store_by a store) j legal.1 there (effect_stays name bytes store h a.command a.sent a.entry.reply (none 0 a (omega arith) refl)) (λ k other less at. none (suc k) other (omega (arith, less)) at)

-- the file has the bytes of a write that went through
wrote_has : (name : List ℕ) (offset : ℕ) (bytes : List ℕ) (w : Answered) (store : List Plain) → w.command ≡ command.Write name offset bytes → w.entry.reply ≡ reply.Written → Allows w.command store w.entry.reply
    → HasBytes name (overlay (bytes_of store name) offset bytes) (store_by w store)
wrote_has name offset bytes w store asks wrote allowed =
    let new : List ℕ → List ℕ = λ old. overlay old offset bytes in
    let there : Allows (command.Write name offset bytes) store reply.Written = subst (λ (x : Command). Allows x store reply.Written) asks (subst (λ (x : Reply). Allows w.command store x) wrote allowed) in
    let left : store_by w store ≡ with_bytes name new store = ap (λ (x : Command). effect x w.sent w.entry.reply store) asks ∙ ap (λ (x : Reply). effect (command.Write name offset bytes) w.sent x store) wrote in
    subst (HasBytes name (overlay (bytes_of store name) offset bytes)) (sym left) (record { present = with_present name name new store there.0; are = own_new name new store there.0.0 there.0.1 })

module _ (name : List ℕ) (offset : ℕ) (bytes : List ℕ) (w r : Answered) (asks : w.command ≡ command.Write name offset bytes) (wrote : w.entry.reply ≡ reply.Written) where
  -- from the write on, up to which there may be any calls
  write_from : (calls : List Answered) (store : List Plain) (i j : ℕ) → IsLegal store calls → slice_get calls i ≡ Some w → slice_get calls j ≡ Some r → i < j
      → ((k : ℕ) (other : Answered) → i < k → k < j → slice_get calls k ≡ Some other → WritesTo other.command name → ⊥) → (old : List ℕ) × IsSeen name (overlay old offset bytes) r
  write_from [] store i j legal at_i at_j less none = absurd (cc at_i)
  write_from (a ∷ calls) store i zero legal at_i at_j less none = absurd (omega (arith, less))
  write_from (a ∷ calls) store zero (suc j) legal at_i at_j less none =
      let same : a ≡ w = cc at_i in
      let allowed : Allows w.command store w.entry.reply = subst (λ (x : Answered). Allows x.command store x.entry.reply) same legal.0 in
      let rest : IsLegal (store_by w store) calls = subst (λ (x : Answered). IsLegal (store_by x store) calls) same legal.1 in (
        bytes_of store name,
        read_from name (overlay (bytes_of store name) offset bytes) r calls (store_by w store) j rest at_j (wrote_has name offset bytes w store asks wrote allowed) (λ k other small at. none (suc k) other (omega arith) (omega (arith, small)) at),
      )
  write_from (a ∷ calls) store (suc i) (suc j) legal at_i at_j less none =
      write_from calls (store_by a store) i j legal.1 at_i at_j (omega (arith, less)) (λ k other low high at. none (suc k) other (omega (arith, low)) (omega (arith, high)) at)

-- what such a read answers
seen_bytes : (name : List ℕ) (offset : ℕ) (old bytes got : List ℕ) (r : Answered) → r.command ≡ command.Read name offset (length bytes) → r.entry.reply ≡ reply.Bytes got → IsSeen name (overlay old offset bytes) r → got ≡ bytes
seen_bytes name offset old bytes got r asks answers seen =
    let allowed : Allows (command.Read name offset (length bytes)) seen.store (reply.Bytes got) = subst (λ (x : Command). Allows x seen.store (reply.Bytes got)) asks (subst (λ (x : Reply). Allows r.command seen.store x) answers seen.allowed) in
    allowed.1 ∙ ap (λ (bs : List ℕ). take (length bytes) (drop offset bs)) seen.has.are ∙ read_back old offset bytes

-- in every linear history
pub last_writes_are_read : LastWritesAreRead
last_writes_are_read script schedule calls linear name offset bytes got w r back answers =
    let within = λ (i : ℕ) (a : Answered) (there : slice_get calls i ≡ Some a). all_got (λ (x : Answered). IsWithinInterval schedule x.entry) calls i a linear.within there in
    let less : back.place < back.later =
    earlier calls back.place back.later w r linear.points back.write back.read (
    let end = ended_by schedule w.entry (within back.place w back.write) back.ended in
    let apart = back.behind in
    let order = (within back.later r back.read).order in
    omega (arith, end, apart, order)
    ) in
    let none : (k : ℕ) (other : Answered) → back.place < k → k < back.later → slice_get calls k ≡ Some other → WritesTo other.command name → ⊥ = λ k other low high at writes.
    inside schedule other.entry w.entry r.entry (within k other at) (within back.place w back.write) (within back.later r back.read)
    (ascend 0 calls back.place k w other linear.points back.write at low) (ascend 0 calls k back.later other r linear.points at back.read high)
    (back.alone k other at (λ same. omega (arith, same, low)) writes) in
    let seen = write_from name offset bytes w r back.asks_write back.wrote calls [] back.place back.later linear.legal back.write back.read less none in
    seen_bytes name offset seen.0 bytes got r back.asks_read answers seen.1

-- and so in every run without rot
pub runs_read_last_writes : RunsReadLastWrites
runs_read_last_writes s run none = last_writes_are_read s.script s.schedule _ (runs_are_linear s run none)
