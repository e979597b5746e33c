-- A byte of a file that stays over a step, and how a call past its point closes it.
use Rattle.std.proofs.Common.{◌≡◌, ◌⊎◌, ℕ, ◌-◌, true, List, Option, Some, None, inl, inr, refl, sym, ap, subst, ◌∙◌, get_or}
use Rattle.std.specs.Prelude.{is_some, slice_set}
use Rattle.std.specs.Str.{bytes_eq}
use Rattle.std.proofs.lemmas.Bool.{cases_Bool, false≢true}
use Rattle.std.proofs.lemmas.Slice.Eq.{bytes_eq-Decides}
use Rattle.flr_base.specs.declared.reply.Reply.{Reply}
use Rattle.script_values.specs.declared.command.Command.{Command}
use Rattle.meta_server.specs.Files.{File, file_of}
use Rattle.call_steps.specs.Steps.{Outcome, Going, Fixed, Ended, Answered, Blocked}
use Rattle.flr_steps.specs.declared.client.Client.{Client}
use Rattle.flr_steps.specs.declared.client.Running.{Running}
use Rattle.flr_steps.specs.Clients.{call_now, going}
use Rattle.flr_steps.specs.Runs.{doing_after}
use Rattle.flr_steps.specs.States.{State}
use Rattle.flr_steps.specs.Traces.{Trace, traced}
use Rattle.plain_files.specs.Effects.{effect}
use Rattle.plain_files.specs.Files.{Plain, Sent, bytes_of, plain_of}
use Rattle.flr_claims.specs.Runs.{store_of}
use Rattle.flr_claims.specs.Sending.{Part, attempt_of, is_over, sent_by}
use Rattle.flr_bytes.specs.Files.{AreSized, Closes, HasLandedOver}
use Rattle.flr_bytes.specs.Laws.{StepsKeepStore, StoreBy}
use Rattle.flr_bytes.specs.Runs.{IsStep}
use Rattle.flr_bytes.specs.Sentences.{byte_in, new_byte}
use Rattle.flr_honest.proofs.Closing.Asking.{WritesNothing}
use Rattle.flr_honest.proofs.Closing.Effects.{effect_keeps}
use Rattle.flr_honest.proofs.Closing.Sized.{found_sized, named_byte, none_left, sized_place}
use Rattle.flr_honest.proofs.Closing.Steps.{goes_on, name_stays, own_client}

-- a look-up that has something has this
pub some_file : (o : Option File) → is_some o ≡ true → (h : File) × (o ≡ Some h)
some_file (Some h) e = (h, refl)
some_file None e = absurd (false≢true e)

-- two names are the same or aren't
pub decide_names : (a b : List ℕ) → (a ≡ b) ⊎ (a ≡ b → ⊥)
decide_names a b = elim (cases_Bool (bytes_eq a b)) as (λ _. (a ≡ b) ⊎ (a ≡ b → ⊥)) [
  | inl is ↦ inl ((bytes_eq-Decides a b).0 is)
  | inr isnt ↦ inr (λ same. false≢true (sym isnt ∙ (bytes_eq-Decides a b).1 same))
]

-- the same part has the same bytes
pub same_over : (x : ℕ) (p q : Part) → p ≡ q → is_over x q ≡ true → is_over x p ≡ true
same_over x p q same over = subst (λ (k : Part). is_over x k ≡ true) (sym same) over

-- the plain files stay, or an answer changes them
by_store : (s t : State) (old new : Trace) (asked : Command) (sent : Sent) (came : Outcome Running) → StoreBy s t old new asked sent came → (store_of t new ≡ store_of s old) ⊎ ((answer : Reply) × (store_of t new ≡ effect asked sent answer (store_of s old)))
by_store s t old new asked sent (Going next after) h = inl h
by_store s t old new asked sent (Fixed next answer takes after) h = inr (answer, h)
by_store s t old new asked sent (Ended after) h = inl h
by_store s t old new asked sent (Answered answer takes after) h = inr (answer, h)
by_store s t old new asked sent (Blocked holder) h = inl h

module _ (s t : State) (old new : Trace) (c : ℕ) (is : IsStep s t old new c) (traced_so : new ≡ traced s t old c) (sized : AreSized s.shared.meta.files (store_of s old)) (n x : ℕ) (f g : File)
    (e : file_of n s.shared.meta.files ≡ Some f) (d : file_of n t.shared.meta.files ≡ Some g) where
  -- the byte before and after the step
  abbrev pub before : ℕ
  before = get_or (bytes_of (store_of s old) f.name) x 0

  -- and after it
  abbrev pub after : ℕ
  after = get_or (bytes_of (store_of t new) f.name) x 0

  -- the byte of the file with this number stays, or the call closes it
  abbrev pub Stays : Type 0
  Stays = (byte_in t new n x ≡ byte_in s old n x) ⊎ Closes s t old new c n x

  name_same : g.name ≡ f.name
  name_same = name_stays s t old new c is traced_so n f g e d

  pub byte_after : byte_in t new n x ≡ after
  byte_after = named_byte t.shared.meta.files (store_of t new) n x g d ∙ ap (λ (k : List ℕ). get_or (bytes_of (store_of t new) k) x 0) name_same

  -- it stays where the plain file of that name has the same byte
  pub stays_same : after ≡ before → Stays
  stays_same h = inl (byte_after ∙ h ∙ sym (named_byte s.shared.meta.files (store_of s old) n x f e))

  -- and where all plain files are as they were
  pub store_stays : store_of t new ≡ store_of s old → Stays
  store_stays h = stays_same (ap (λ (ps : List Plain). get_or (bytes_of ps f.name) x 0) h)

  -- the plain file is there
  pub there : (place : ℕ) × (plain_of f.name (store_of s old) ≡ Some place)
  there = let h = found_sized n s.shared.meta.files (store_of s old) f is.before.holds.servers.sound.named sized e in (h.place, sized_place f (store_of s old) h)

  -- a call that is past its point closes where it had landed
  pub closes : (first : ℕ) (next call : Running) → t.clients ≡ slice_set s.clients (c - 1) (going is.step.client first next) → attempt_of next ≡ None → is.step.client.call ≡ call → HasLandedOver s old c n x → after ≡ new_byte call x → Closes s t old new c n x
  closes first next call clients none same was h = record {
    was = was;
    past = λ b at. (
        let one = at.here in
        let two = goes_on s t old new c is traced_so first next clients in
        let own : at.client ≡ going is.step.client first next = let both : Some at.client ≡ Some (going is.step.client first next) = sym one ∙ two in cc in
        let some : attempt_of next ≡ Some b = ap (λ (k : Client). attempt_of k.call) (sym own) ∙ at.attempt in
        let never : None ≡ Some b = sym none ∙ some in
        cc
        );
    leaves = byte_after ∙ h ∙ sym (ap (λ (k : Client). new_byte k.call x) (own_client s t old new c is traced_so was.attempt was.attempting) ∙ ap (λ (k : Running). new_byte k x) same);
  }

  -- a command that writes nothing leaves the byte
  module _ (keeps : StepsKeepStore) (later : AreSized t.shared.meta.files (store_of t new)) where
    still : (place : ℕ) × (plain_of f.name (store_of t new) ≡ Some place)
    still =
        let h = found_sized n t.shared.meta.files (store_of t new) g is.after.holds.servers.sound.named later d in
        (h.place, ap (λ (k : List ℕ). plain_of k (store_of t new)) (sym name_same) ∙ sized_place g (store_of t new) h)

    pub stays_nothing : WritesNothing is.step.asked → Stays
    stays_nothing nothing = elim (by_store s t old new is.step.asked (sent_by s.script.fails (call_now c is.step.client.call is.step.asked) (doing_after s t old c is.step.client is.step.asked)) is.step.came (keeps s t old new c is traced_so)) as (λ _. Stays) [
      | inl same ↦ store_stays same
      | inr by ↦ stays_same (
          let store = by.1 in
          ap (λ (ps : List Plain). get_or (bytes_of ps f.name) x 0) store
          ∙ ap (λ (bs : List ℕ). get_or bs x 0) (effect_keeps f.name (store_of s old) there.0 there.1 is.step.asked (sent_by s.script.fails (call_now c is.step.client.call is.step.asked) (doing_after s t old c is.step.client is.step.asked)) by.0 nothing
          (subst (λ (ps : List Plain). (place : ℕ) × (plain_of f.name ps ≡ Some place)) store still)
          (λ victim. none_left victim s.shared.meta.files (store_of s old) is.before.holds.servers.sound.named sized))
          )
    ]
