-- A file that is opened for a write or a truncate.
use Rattle.std.proofs.Common.{◌≡◌, ℕ, ◌≤◌, Bool, true, false, Some, None, List, refl, ◌∙◌, get_or}
use Rattle.flr_base.specs.declared.reply.Range.{Range}
use Rattle.composite_layout.specs.Choices.{is_ready}
use Rattle.composite_layout.specs.Layouts.{Composite, IsValid}
use Rattle.layout_lease.specs.Leases.{broken_by}
use Rattle.layout_lease.specs.Shares.{lowest_but}
use Rattle.layout_lease.proofs.Hands.{broken_hand}
use Rattle.layout_state.specs.Choosing.{is_over, primary_of}
use Rattle.layout_state.proofs.NameLaws.{numbers_grow}
use Rattle.layout_state.proofs.ReadyLaws.{intent_ready}
use Rattle.meta_server.specs.declared.answers.Opened.{Opened}
use Rattle.meta_server.specs.Files.{File, MetaView, file_named, file_of, with_change, with_layout, with_share}
use Rattle.meta_server.specs.Layouts.{intended, nexts_over}
use Rattle.meta_server.specs.Opening.{change_opens_file, opened, shares, with_intent}
use Rattle.meta_server.specs.Outcomes.{Gives, Refuses, Waits}
use Rattle.meta_server.specs.Outcomes as meta
use Rattle.meta_laws.specs.Calls.{left_by}
use Rattle.meta_laws.proofs.Changing.{intended_valid}
use Rattle.meta_laws.proofs.Copies.{sound_named, there_named}
use Rattle.meta_laws.proofs.Finding.{same_found}
use Rattle.flr_numbers.specs.Frames.{Leaves}
use Rattle.flr_numbers.proofs.Coming.{open_cases}
use Rattle.flr_numbers.proofs.Leaving.{broken_change, laid, then}
use Rattle.flr_numbers.proofs.Standing.{intended_rises}
use Rattle.call_steps.specs.Servers.{Servers}
use Rattle.flr_numbers.specs.Hands.{AreServers, Good, Has, holding, nothing}
use Rattle.flr_numbers.proofs.Handing.{bare_has, changed_backs, shared_has, still_none}
use Rattle.flr_numbers.proofs.Metas.{good_meta, share_leaves}
use Rattle.flr_numbers.proofs.Objects.{file_made}
use Rattle.flr_numbers.proofs.Serving.{Kept}

-- the file is open, and its layout is valid and ready for the range, which isn't too big
abbrev pub OpensWell : ℕ → Servers → Bool → Range → Bool → meta.Outcome Opened → Type 0
OpensWell c s b range too_big (Gives o after) = Good c s (holding b o) (record s { meta = after }) × IsValid o.layout × (is_ready o.layout range ≡ true) × (too_big ≡ false)
OpensWell c s b range too_big (Refuses answer) = Unit {0}
OpensWell c s b range too_big (Waits holder) = Unit {0}

module _ (c : ℕ) (s : Servers) (h : AreServers s.meta s.targets) (has : Has c s.meta s.locks nothing) (b : Bool) (name : List ℕ) (range : Range) (step : ℕ) (too_big : Bool) where
  shared_well : (f : File) → too_big ≡ false → file_named name s.meta.files ≡ Some f → is_ready f.layout range ≡ true → Kept s.meta (left_by (shares c f s.meta) s.meta) → OpensWell c s b range too_big (shares c f s.meta)
  shared_well f big e ready kept =
      let there = there_named s.meta h.sound name f e in (
        good_meta c s (holding b (opened c f)) (with_change f.number (with_share c) s.meta) kept (share_leaves c s.meta f.number) h
            (shared_has c s.meta s.locks b f.number f (λ no. has.locks refl) has there (file_made s.meta f.number f h.once there)),
        (sound_named s.meta h.sound name f e).layout,
        ready,
        big,
      )

  module _ (f : File) (mirror : ℕ) (big : too_big ≡ false) (e : file_named name s.meta.files ≡ Some f) (primary : primary_of range f.layout.components ≡ Some mirror) (alone : lowest_but c f.lock ≡ None) where
    abbrev l : Composite
    l = intended range mirror f.number s.meta.nexts f.layout

    abbrev mid : MetaView
    mid = with_intent range mirror step f s.meta

    there : file_of f.number s.meta.files ≡ Some f
    there = there_named s.meta h.sound name f e

    valid : IsValid f.layout
    valid = (sound_named s.meta h.sound name f e).layout

    after : file_of f.number mid.files ≡ Some (with_layout l f)
    after = same_found f.number (with_layout l) s.meta.files f (λ y. refl) there

    grows : (target : ℕ) → get_or s.meta.nexts target 0 ≤ get_or mid.nexts target 0
    grows target = numbers_grow (is_over range mirror) f.number s.meta.nexts f.layout.components h.sound.nexts.some target

    leaves : Leaves c s.meta (with_change f.number (with_share c) mid)
    leaves =
        then c s.meta mid (with_change f.number (with_share c) mid) grows
        (laid c s.meta f.number f l (broken_by f.number step s.meta.leases) (nexts_over (is_over range mirror) f.number s.meta.nexts f.layout) there alone
        (intended_rises s.meta.nexts f.layout range mirror f.number h.sound.nexts.some valid.shaped) (broken_change c f.number step s.meta.leases))
        (share_leaves c mid f.number)

    has_mid : Has c mid s.locks nothing
    has_mid =
        bare_has c mid s.locks false
        (still_none c s.meta mid s.locks has (changed_backs s.meta mid f.number (with_layout l) (λ y. refl) (λ y cookie held. held) refl))
        (broken_hand f.number step s.meta.leases c ∙ has.keys) has.locks

    intended_well : Kept s.meta (left_by (shares c (with_layout l f) mid) s.meta) → OpensWell c s b range too_big (shares c (with_layout l f) mid)
    intended_well kept =
        let made = file_made (with_change f.number (with_share c) mid) f.number (with_share c (with_layout l f)) kept.once (same_found f.number (with_share c) mid.files (with_layout l f) (λ y. refl) after) in (
          good_meta c s (holding b (opened c (with_layout l f))) (with_change f.number (with_share c) mid) kept leaves h
              (shared_has c mid s.locks b f.number (with_layout l f) (λ no. has.locks refl) has_mid after made),
          intended_valid range mirror f.number s.meta.nexts f.layout h.sound.nexts primary valid,
          intent_ready range mirror f.number s.meta.nexts f.layout l (nexts_over (is_over range mirror) f.number s.meta.nexts f.layout) valid primary (record { layout = refl; past = refl }),
          big,
        )

  -- whatever comes of the open
  pub opens_well : Kept s.meta (left_by (change_opens_file c range step s.meta name too_big (file_named name s.meta.files)) s.meta) → OpensWell c s b range too_big (change_opens_file c range step s.meta name too_big (file_named name s.meta.files))
  opens_well = open_cases (λ (o : meta.Outcome Opened). Kept s.meta (left_by o s.meta) → OpensWell c s b range too_big o) c name range step s.meta too_big (record {
    refuses = λ answer kept. tt;
    waits = λ holder kept. tt;
    shared = shared_well;
    intended = intended_well;
  })
