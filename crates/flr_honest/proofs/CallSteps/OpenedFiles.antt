-- Right behind the step that opened it the file is the one that was got.
use Rattle.std.proofs.Common.{◌≡◌, ℕ, Bool, true, false, cond, nat_eq, nat_lt, Option, Some, None, List, [], ◌∷◌, refl, sym, ap, subst, ◌∙◌}
use Rattle.flr_base.specs.Limits.{most_bytes}
use Rattle.flr_base.specs.declared.reply.Range.{Range}
use Rattle.composite_layout.specs.Layouts.{Composite, eof}
use Rattle.call_steps.specs.Runs.{CallStep, goes_on, Leaves}
use Rattle.call_steps.specs.Servers.{Servers}
use Rattle.call_steps.specs.Steps.{Outcome, Going}
use Rattle.client_read.specs.declared.phase.ReadAt.{ReadAt}
use Rattle.client_read.specs.declared.phase.ReadAt.TheVariants as read
use Rattle.client_read.specs.Reads.{begins_with, opens_file, read_at, read_step, shares_file, unanswered}
use Rattle.client_read.specs.Views.{ReadView}
use Rattle.client_write.specs.declared.phase.CutAt.{CutAt}
use Rattle.client_write.specs.declared.phase.CutAt.TheVariants as cut
use Rattle.client_write.specs.declared.phase.WriteAt.{WriteAt}
use Rattle.client_write.specs.declared.phase.WriteAt.TheVariants as write
use Rattle.client_write.specs.Calls.{TruncateView, WriteView}
use Rattle.client_write.specs.Truncates.{cutting, opens_cut, truncate_at, truncate_on, truncate_step}
use Rattle.client_write.specs.Writes.{opens, range_of, write_at, write_on, write_step, writing}
use Rattle.mirror_verify.specs.declared.phase.VerifyAt.{VerifyAt}
use Rattle.mirror_verify.specs.declared.phase.VerifyAt.TheVariants as verify
use Rattle.mirror_verify.specs.Blocks.{copies_of}
use Rattle.mirror_verify.specs.Verifies as verifies
use Rattle.mirror_verify.specs.Views.{VerifyView}
use Rattle.meta_server.specs.declared.answers.Opened.{Opened}
use Rattle.meta_server.specs.Files.{File, MetaView, changed, file_named, same_name, with_change, with_layout, with_share}
use Rattle.meta_server.specs.Layouts.{intended}
use Rattle.meta_server.specs.Opening.{change_opens_file, cut_opens, opened, with_intent, write_opens}
use Rattle.meta_server.specs.Outcomes.{Gives, Refuses, Waits}
use Rattle.meta_server.specs.Outcomes as meta
use Rattle.meta_server.specs.Sound.{IsSound}
use Rattle.meta_server.proofs.Placing.{nat_eq_same}
use Rattle.meta_laws.proofs.Finding.{found_numbered}
use Rattle.flr_numbers.proofs.Coming.{open_cases}
use Rattle.flr_honest.specs.CallSteps.OpenedFiles.{HasOpenedCut, HasOpenedRead, HasOpenedVerify, HasOpenedWrite, IsOpenedAs}

-- ---- the file of a name, once it is changed

pub named_changed : (name : List ℕ) (n : ℕ) (g : File → File) (files : List File) (f : File) → ((x : File) → (g x).name ≡ x.name) → file_named name files ≡ Some f → f.number ≡ n → file_named name (changed n g files) ≡ Some (g f)
named_changed name n g [] f keeps e is = absurd (cc)
named_changed name n g (x ∷ xs) f keeps e is = by (same_name name x.name) refl e (λ more. named_changed name n g xs f keeps more is)
  where
    name_kept : (b : Bool) → same_name name (cond b (g x) x).name ≡ same_name name x.name
    name_kept true = ap (λ (k : List ℕ). same_name name k) (keeps x)
    name_kept false = refl

    by : (b : Bool) → same_name name x.name ≡ b → cond b (Some x) (file_named name xs) ≡ Some f → (file_named name xs ≡ Some f → file_named name (changed n g xs) ≡ Some (g f))
        → cond (same_name name (cond (nat_eq x.number n) (g x) x).name) (Some (cond (nat_eq x.number n) (g x) x)) (file_named name (changed n g xs)) ≡ Some (g f)
    by true same e rest =
        let one : x ≡ f = cc in
        let here : nat_eq x.number n ≡ true = ap (nat_eq x.number) (sym is ∙ ap (λ (y : File). y.number) (sym one)) ∙ nat_eq_same x.number in
        ap (λ (b : Bool). cond b (Some (cond (nat_eq x.number n) (g x) x)) (file_named name (changed n g xs))) (name_kept (nat_eq x.number n) ∙ same)
        ∙ ap (λ (b : Bool). Some (cond b (g x) x)) here ∙ ap (λ (y : File). Some (g y)) one
    by false same e rest = ap (λ (b : Bool). cond b (Some (cond (nat_eq x.number n) (g x) x)) (file_named name (changed n g xs))) (name_kept (nat_eq x.number n) ∙ same) ∙ rest e

-- a file that is opened and shared is the one that was got
shared_as : (m new : MetaView) (client : ℕ) (name : List ℕ) (f : File) → file_named name m.files ≡ Some f → new.files ≡ changed f.number (with_share client) m.files → IsSound new → IsOpenedAs new name (opened client f)
shared_as m new client name f there is sound =
    let named : file_named name new.files ≡ Some (with_share client f) = ap (file_named name) is ∙ named_changed name f.number (with_share client) m.files f (λ x. refl) there refl in
    record { file = with_share client f; named = named; found = found_numbered (λ (g : File). same_name name g.name) new.files (with_share client f) sound.ascending named; number = refl; layout = refl; size = refl }

-- a write or a truncate
abbrev OpensAs : List ℕ → meta.Outcome Opened → Type 0
OpensAs name (Gives o after) = IsSound after → IsOpenedAs after name o
OpensAs name (Refuses answer) = Unit {0}
OpensAs name (Waits holder) = Unit {0}

module _ (client : ℕ) (name : List ℕ) (range : Range) (step : ℕ) (m : MetaView) (too_big : Bool) where
  opens_as : OpensAs name (change_opens_file client range step m name too_big (file_named name m.files))
  opens_as = open_cases (OpensAs name) client name range step m too_big (record {
    refuses = λ answer. tt;
    waits = λ holder. tt;
    shared = λ f small there ready sound. shared_as m (with_change f.number (with_share client) m) client name f there refl sound;
    intended = λ f mirror small there primary alone sound. (
        let layout : Composite = intended range mirror f.number m.nexts f.layout in
        let now : file_named name (changed f.number (with_layout layout) m.files) ≡ Some (with_layout layout f) = named_changed name f.number (with_layout layout) m.files f (λ x. refl) there refl in
        shared_as (with_intent range mirror step f m) (with_change f.number (with_share client) (with_intent range mirror step f m)) client name (with_layout layout f) now refl sound
        );
  })

-- ---- steps

module _ (x : CallStep ReadView) (came : x.came ≡ read_step x.call x.place x.before) (left : Leaves x.came x.after) (sound : IsSound x.after.meta) (at : x.call.at ≡ read.Open) where
  read_came : x.came ≡ opens_file x.call x.before (file_named x.call.name x.before.meta.files)
  read_came = came ∙ ap (λ (a : ReadAt). read_at a x.call x.before) at

  -- a read that goes on from its open has opened its file
  pub read_opened : (next : ReadView) → goes_on x.came ≡ Some next → HasOpenedRead x
  read_opened next goes = by (file_named x.call.name x.before.meta.files) refl (ap (λ (o : Outcome ReadView). goes_on o) (sym read_came) ∙ goes) (sym read_came)
    where
      shares_by : (f : File) → file_named x.call.name x.before.meta.files ≡ Some f → (o : Option ℕ) → unanswered f.layout x.call.range [] ≡ o → goes_on (shares_file x.call x.before f o) ≡ Some next → shares_file x.call x.before f o ≡ x.came → HasOpenedRead x
      shares_by f there (Some byte) e goes is = absurd (cc)
      shares_by f there None e goes is =
          let after : Servers = record x.before { meta = with_change f.number (with_share x.call.client) x.before.meta } in
          let same : x.after ≡ after = subst (λ (o : Outcome ReadView). Leaves o x.after) (sym is) left in
          record {
            was = f;
            there = there;
            answered = e;
            came = sym is ∙ ap (λ (u : Servers). Going (begins_with x.call (opened x.call.client f) []) u) (sym same);
            shown = shared_as x.before.meta x.after.meta x.call.client x.call.name f there (ap (λ (u : Servers). u.meta.files) same) sound;
          }

      by : (o : Option File) → file_named x.call.name x.before.meta.files ≡ o → goes_on (opens_file x.call x.before o) ≡ Some next → opens_file x.call x.before o ≡ x.came → HasOpenedRead x
      by None e goes is = absurd (cc)
      by (Some f) e goes is = shares_by f e (unanswered f.layout x.call.range []) refl goes is

module _ (x : CallStep WriteView) (came : x.came ≡ write_step x.call x.place x.before) (left : Leaves x.came x.after) (sound : IsSound x.after.meta) (at : x.call.at ≡ write.Open) where
  write_came : x.came ≡ opens x.call x.before (write_opens x.call.client x.call.name (range_of x.call) x.place x.before.meta)
  write_came = came ∙ ap (λ (a : WriteAt). write_at a x.call x.place x.before) at

  -- a write that goes on from its open has opened its file
  pub write_opened : (next : WriteView) → goes_on x.came ≡ Some next → HasOpenedWrite x
  write_opened next goes =
      by (write_opens x.call.client x.call.name (range_of x.call) x.place x.before.meta) refl
      (opens_as x.call.client x.call.name (range_of x.call) x.place x.before.meta (nat_lt most_bytes (range_of x.call).end)) (ap (λ (o : Outcome WriteView). goes_on o) (sym write_came) ∙ goes) (sym write_came)
    where
      by : (o : meta.Outcome Opened) → write_opens x.call.client x.call.name (range_of x.call) x.place x.before.meta ≡ o → OpensAs x.call.name o → goes_on (opens x.call x.before o) ≡ Some next → opens x.call x.before o ≡ x.came → HasOpenedWrite x
      by (Refuses answer) e found goes is = absurd (cc)
      by (Waits holder) e found goes is = absurd (cc)
      by (Gives o after) e found goes is =
          let same : x.after ≡ record x.before { meta = after } = subst (λ (k : Outcome WriteView). Leaves k x.after) (sym is) left in
          let now : x.after.meta ≡ after = ap (λ (u : Servers). u.meta) same in
          record {
            got = o;
            gives = e ∙ ap (λ (m : MetaView). Gives o m) (sym now);
            came = sym is ∙ ap (λ (u : Servers). Going (write_on x.call (write.Lock (writing x.call o) 0)) u) (sym same);
            shown = subst (λ (m : MetaView). IsOpenedAs m x.call.name o) (sym now) (found (subst IsSound now sound));
          }

module _ (x : CallStep TruncateView) (came : x.came ≡ truncate_step x.call x.place x.before) (left : Leaves x.came x.after) (sound : IsSound x.after.meta) (at : x.call.at ≡ cut.Open) where
  cut_came : x.came ≡ opens_cut x.call x.before (cut_opens x.call.client x.call.name x.call.size x.place x.before.meta)
  cut_came = came ∙ ap (λ (a : CutAt). truncate_at a x.call x.place x.before) at

  -- a truncate that goes on from its open has opened its file
  pub cut_opened : (next : TruncateView) → goes_on x.came ≡ Some next → HasOpenedCut x
  cut_opened next goes =
      by (cut_opens x.call.client x.call.name x.call.size x.place x.before.meta) refl
      (opens_as x.call.client x.call.name (record { start = x.call.size; end = eof }) x.place x.before.meta (nat_lt most_bytes x.call.size)) (ap (λ (o : Outcome TruncateView). goes_on o) (sym cut_came) ∙ goes) (sym cut_came)
    where
      by : (o : meta.Outcome Opened) → cut_opens x.call.client x.call.name x.call.size x.place x.before.meta ≡ o → OpensAs x.call.name o → goes_on (opens_cut x.call x.before o) ≡ Some next → opens_cut x.call x.before o ≡ x.came → HasOpenedCut x
      by (Refuses answer) e found goes is = absurd (cc)
      by (Waits holder) e found goes is = absurd (cc)
      by (Gives o after) e found goes is =
          let same : x.after ≡ record x.before { meta = after } = subst (λ (k : Outcome TruncateView). Leaves k x.after) (sym is) left in
          let now : x.after.meta ≡ after = ap (λ (u : Servers). u.meta) same in
          record {
            got = o;
            gives = e ∙ ap (λ (m : MetaView). Gives o m) (sym now);
            came = sym is ∙ ap (λ (u : Servers). Going (truncate_on x.call (cut.Lock (cutting x.call o))) u) (sym same);
            shown = subst (λ (m : MetaView). IsOpenedAs m x.call.name o) (sym now) (found (subst IsSound now sound));
          }

module _ (x : CallStep VerifyView) (came : x.came ≡ verifies.verify_step x.call x.place x.before) (left : Leaves x.came x.after) (sound : IsSound x.after.meta) (at : x.call.at ≡ verify.Open) where
  verify_came : x.came ≡ verifies.opens_file x.call x.before (file_named x.call.name x.before.meta.files)
  verify_came = came ∙ ap (λ (a : VerifyAt). verifies.verify_at a x.call x.before) at

  -- a verify that goes on from its open has opened its file
  pub verify_opened : (next : VerifyView) → goes_on x.came ≡ Some next → HasOpenedVerify x
  verify_opened next goes = by (file_named x.call.name x.before.meta.files) refl (ap (λ (o : Outcome VerifyView). goes_on o) (sym verify_came) ∙ goes) (sym verify_came)
    where
      by : (o : Option File) → file_named x.call.name x.before.meta.files ≡ o → goes_on (verifies.opens_file x.call x.before o) ≡ Some next → verifies.opens_file x.call x.before o ≡ x.came → HasOpenedVerify x
      by None e goes is = absurd (cc)
      by (Some f) e goes is =
          let after : Servers = record x.before { meta = with_change f.number (with_share x.call.client) x.before.meta } in
          let same : x.after ≡ after = subst (λ (o : Outcome VerifyView). Leaves o x.after) (sym is) left in
          record {
            was = f;
            there = e;
            came = sym is ∙ ap (λ (u : Servers). Going (verifies.begins_with x.call (opened x.call.client f) (copies_of f.layout.components f.size)) u) (sym same);
            shown = shared_as x.before.meta x.after.meta x.call.client x.call.name f e (ap (λ (u : Servers). u.meta.files) same) sound;
          }
