-- What a copy knows of its chunks when it begins, by the files and the most mirrors that there are then.
use Rattle.std.proofs.Common.{◌≡◌, ℕ, ◌≤◌, Some, None, List, [], length, refl, arith}
use Rattle.composite_layout.specs.Layouts.{Composite, IsValid}
use Rattle.composite_layout.specs.LookUps.{mirror_ids}
use Rattle.layout_state.specs.Mirroring.{excess}
use Rattle.layout_state.proofs.AppendLaws.{room}
use Rattle.layout_state.proofs.BreakLaws.{some_mirror}
use Rattle.layout_state.proofs.MirrorLaws.{count_ids}
use Rattle.meta_server.specs.declared.answers.Begun.{Begun}
use Rattle.meta_server.specs.declared.answers.Begun.TheVariants as begun_as
use Rattle.meta_server.specs.declared.answers.Side.{Side}
use Rattle.meta_server.specs.Beginning.{copy_begins, side_of, with_begin}
use Rattle.meta_server.specs.Files.{File, MetaView, file_named, file_of, with_layout}
use Rattle.meta_server.specs.Layouts.{begun, extended}
use Rattle.meta_server.specs.Outcomes.{Gives, Refuses, Waits}
use Rattle.meta_server.specs.Outcomes as meta
use Rattle.meta_server.specs.Sound.{IsSound, IsSoundFile}
use Rattle.meta_laws.proofs.Copies.{sound_named, there_named}
use Rattle.meta_laws.proofs.Finding.{found_keeps, same_found}
use Rattle.flr_numbers.proofs.Coming.{begin_cases}
use Rattle.call_steps.specs.Servers.{Servers}
use Rattle.resync_copy.specs.Calls.{CopyView}
use Rattle.resync_copy.specs.Steps.{begins}
use Rattle.resync_copy.specs.Views.{begun_copy}
use Rattle.copy_laws.proofs.Begins.{of_file}
use Rattle.flr_chunks.proofs.Leading.{Leads}
use Rattle.flr_chunks.proofs.Selected.{begun_within}
use Rattle.flr_chunks.proofs.Stages.{CopyWillKnow, fences_know}

-- a layout has a mirror
some_ids : (l : Composite) → IsValid l → 1 ≤ length (mirror_ids l.components)
some_ids l v = let some = some_mirror l v in let count = count_ids l v in omega (arith, some, count)

module _ (most : ℕ) (c : CopyView) (s : Servers) (sound : IsSound s.meta) where
  -- what the begin comes to
  abbrev came : meta.Outcome Begun
  came = copy_begins c.client c.name c.what s.meta

  -- a copy begins on the file, whose layout is this one or becomes it
  module _ (ids : List ℕ) (f : File) (l : Composite) (e : file_named c.name s.meta.files ≡ Some f) where
    abbrev new : Composite
    new = begun ids f.number s.meta.nexts l

    abbrev after : MetaView
    after = with_begin c.client ids (with_layout l f) s.meta

    abbrev side : Side
    side = side_of c.client ids (with_layout l f) s.meta

    there : file_of f.number after.files ≡ Some (with_layout new f)
    there = same_found f.number (with_layout new) s.meta.files f (λ y. refl) (there_named s.meta sound c.name f e)

    copying : came ≡ Gives (begun_as.Copy side ids) after → Leads (CopyWillKnow most) (begins c s (Gives (begun_as.Copy side ids) after))
    copying is = λ sound_after few. (
        let layout : IsValid new = (found_keeps _ IsSoundFile after.files (with_layout new f) there sound_after.files).layout in
        let mirrors : length (mirror_ids new.components) ≤ most = found_keeps _ (λ (g : File). length (mirror_ids g.layout.components) ≤ most) after.files (with_layout new f) there few.0 in
        fences_know most (begun_copy side ids) 0 (λ size. begun_within side ids (of_file c.client s.meta side ids after c.name c.what (file_named c.name s.meta.files) is) layout size most mirrors)
        )

  -- the leases of two files are taken
  module _ (victim : List ℕ) (f v : File) (e : file_named c.name s.meta.files ≡ Some f) (k : file_named victim s.meta.files ≡ Some v) where
    abbrev mid : MetaView
    mid = with_begin c.client [] f s.meta

    comparing : excess f.layout (length (mirror_ids v.layout.components)) (length v.layout.components) s.meta.most ≡ None → Leads (CopyWillKnow most) (begins c s (Gives (begun_as.Merge (side_of c.client [] f s.meta) (side_of c.client [] v mid)) (with_begin c.client [] v mid)))
    comparing within = λ sound_after few. (
        let fit = (room f.layout (length (mirror_ids v.layout.components)) (length v.layout.components) s.meta.most within).0 in
        let one = some_ids f.layout (sound_named s.meta sound c.name f e).layout in
        let two = some_ids v.layout (sound_named s.meta sound victim v k).layout in
        omega (arith, fit, one, two, few.1)
        )

  -- whatever comes of the begin
  pub begin_knows : Leads (CopyWillKnow most) (begins c s came)
  begin_knows = begin_cases (λ (o : meta.Outcome Begun). came ≡ o → Leads (CopyWillKnow most) (begins c s o)) c.client c.name c.what s.meta (record {
    refuses = λ answer is. tt;
    waits = λ holder is. tt;
    same = λ is. tt;
    begins = λ ids f e free alone is. copying ids f f.layout e is;
    adds = λ mirrors f what e free alone within is. tt;
    extends = λ mirrors ids f what e free alone within is. copying ids f (extended mirrors (length s.meta.nexts) f.layout) e is;
    both = λ victim f v what e k free free_too alone alone_too within is. comparing victim f v e k within;
  }) refl
