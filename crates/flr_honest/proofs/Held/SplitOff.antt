-- A component of a file that was split off holds the bytes of the plain file, which are those of the file from which it was split.
use Rattle.std.proofs.Common.{◌≡◌, ℕ, ◌<◌, ◌≤◌, Some, None, List, inl, inr, ◌⊎◌, sym, ap, subst, ◌∙◌}
use Rattle.std.specs.Prelude.{Contains, slice_get}
use Rattle.std.proofs.lemmas.Bool.{cases_eq}
use Rattle.flr_base.specs.declared.reply.ObjectId.{ObjectId}
use Rattle.flr_base.specs.declared.reply.Range.{Range}
use Rattle.composite_layout.specs.declared.component.Component.{Component}
use Rattle.mirror_select.specs.Held.{held}
use Rattle.mirror_select.proofs.Least.{from_contains}
use Rattle.meta_server.specs.Files.{File, file_of}
use Rattle.flr_places.proofs.Keeping.{some_same}
use Rattle.flr_steps.specs.declared.client.Client.{Client}
use Rattle.flr_steps.specs.States.{State, client_at}
use Rattle.flr_steps.specs.Traces.{Trace, doing_of, traced}
use Rattle.flr_claims.specs.Honesty.{IsOf, IsOpen, content}
use Rattle.flr_claims.specs.Sending.{Attempt, HasLanded, Part, attempt_of, part_object}
use Rattle.flr_sole.specs.Sentences.{StandsAlone}
use Rattle.flr_bytes.specs.Laws.{StepsCount, StepsGiveNew, StepsWrite}
use Rattle.flr_bytes.specs.Origins.{IsSplitOff}
use Rattle.flr_bytes.specs.Runs.{Honest, IsStep}
use Rattle.flr_bytes.specs.Sentences.{byte_in}
use Rattle.flr_honest.proofs.Held.Adding.{none_come}
use Rattle.flr_bytes.proofs.Alone.{one_number, open_in, placed}
use Rattle.flr_bytes.proofs.Clients.{attempting_stays, landed_stays}
use Rattle.flr_honest.proofs.Held.Staying.{fresh_stays, same_held}

module _ (s t : State) (old new : Trace) (c : ℕ) (is : IsStep s t old new c) (e : new ≡ traced s t old c) (honest : Honest s old) (n x : ℕ) (f : File) (d : Component) (found : file_of n t.shared.meta.files ≡ Some f) (listed : Contains f.layout.components d) (own : IsOf d x)
    (w : IsSplitOff s.shared.meta is.step.asked n d) where
  abbrev g : File
  g = w.was.was.file

  abbrev b : Component
  b = w.was.was.component

  from : b.extent.start ≤ x
  from = subst (λ (r : Range). r.start ≤ x) w.was.was.same.extent own.0

  to : x < b.extent.end
  to = subst (λ (r : Range). x < r.end) w.was.was.same.extent own.1

  -- nothing had landed there, since its component is in no other file then
  closed : IsOpen s old w.from x → ⊥
  closed was_open = by (cases_eq was_open.client c)
    where
      in_old : file_of n s.shared.meta.files ≡ None
      in_old = w.none

      -- the step is one of a writing call before its point, which makes no file
      mine : was_open.client ≡ c → ⊥
      mine same =
          let client : Client = was_open.attempting.client in
          let one : client ≡ is.step.client = some_same client is.step.client (sym was_open.attempting.here ∙ ap (client_at s.clients) same ∙ is.step.here) in
          let was = none_come s t c is.step was_open.attempt (ap (λ (k : Client). attempt_of k.call) (sym one) ∙ was_open.attempting.attempt) n f found in
          let both : None ≡ Some was.0 = sym in_old ∙ was.1 in
          cc

      -- the part that has landed stands in the old file then, and in the new one
      theirs : (was_open.client ≡ c → ⊥) → ⊥
      theirs apart =
          let a : Attempt = was_open.attempt in
          let p : Part = was_open.part in
          let o : ObjectId = part_object p in
          let landed : HasLanded t.script.fails a (doing_of new was_open.client) was_open.place p = subst (λ (tr : Trace). HasLanded t.script.fails a (doing_of tr was_open.client) was_open.place p) (sym e) (landed_stays s t c old is.step was_open.client a was_open.place p apart was_open.attempting was_open.landed) in
          let stands : StandsAlone t.shared.meta.files a.opened.file p = is.after.sole.parts was_open.client a was_open.place p (attempting_stays s t c old is.step was_open.client a apart was_open.attempting) (inr landed) in
          let there = placed stands.alone.component.objects o (from_contains stands.alone.component.objects o stands.alone.object) in
          let has = open_in s old is.before.holds.servers.sound is.before.sole w.from x was_open g b w.was.was.there (from_contains g.layout.components b w.was.was.listed) w.was.fresh from to in
          let at : slice_get d.objects has.1.0 ≡ Some o = ap (λ (os : List ObjectId). slice_get os has.1.0) w.was.was.same.objects ∙ has.1.1 in
          let same : a.opened.file ≡ n = one_number t.shared.meta is.after.holds.servers.once o a.opened.file n stands.file f stands.alone.component d there.0 has.1.0 stands.there found (from_contains stands.file.layout.components stands.alone.component stands.alone.listed) (from_contains f.layout.components d listed) there.1 at in
          let here : file_of n s.shared.meta.files ≡ Some g = subst (λ k. file_of k s.shared.meta.files ≡ Some g) (sym was_open.same ∙ same) w.was.was.there in
          let both : None ≡ Some g = sym in_old ∙ here in
          cc

      by : (was_open.client ≡ c) ⊎ (was_open.client ≡ c → ⊥) → ⊥
      by (inl same) = mine same
      by (inr apart) = theirs apart

  pub split_held : StepsWrite → StepsCount → StepsGiveNew → (IsOpen t new n x → ⊥) → held (content t.shared) d x ≡ byte_in t new n x
  split_held write count give still =
      fresh_stays write count s t old new c is e n f d found listed x still w.from g b w.was.was.there w.was.was.listed w.was.fresh w.was.was.same own.0 own.1
      ∙ same_held (content s.shared) b d x w.was.was.same
      ∙ honest.holds w.from g b x w.was.was.there w.was.was.listed w.was.fresh (from, to, own.2) closed
      ∙ sym ((give s t old new c is e honest.sized n f w.none found).1 w.from g w.was.was.there w.splits x)
