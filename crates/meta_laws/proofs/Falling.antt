-- No next number falls.
use Rattle.std.proofs.Common.{◌≡◌, ℕ, ◌≤◌, Bool, true, false, nat_lt, List, [], ◌∷◌, length, refl, ◌∙◌, arith}
use Rattle.std.proofs.Common.{get_or}
use Rattle.flr_base.specs.declared.reply.Range.{Range}
use Rattle.composite_layout.specs.declared.component.Component.{Component}
use Rattle.composite_layout.specs.Layouts.{Composite, eof}
use Rattle.layout_lease.specs.declared.shared.Share.{Share}
use Rattle.layout_state.specs.Choosing.{is_over}
use Rattle.layout_state.specs.Making.{AreNext, new_targets}
use Rattle.layout_state.specs.Marking.{is_named}
use Rattle.layout_state.proofs.NameLaws.{numbers_grow}
use Rattle.meta_server.specs.Beginning.{with_begin}
use Rattle.meta_server.specs.Closing.{holds}
use Rattle.meta_server.specs.Files.{File, MetaView, file_named, with_layout}
use Rattle.meta_server.specs.Layouts.{extended, nexts_over}
use Rattle.flr_base.specs.Limits.{most_bytes}
use Rattle.meta_server.specs.Opening.{change_opens_file}
use Rattle.meta_server.specs.Sound.{IsSound}
use Rattle.meta_server.proofs.Kept.{length-nexts_after}
use Rattle.meta_laws.specs.Calls.{Call, OpenRead, OpenWrite, OpenCut, Free, Confirm, Commit, Cut, BeginCopy, CopyDone, MergeDone, GiveUp, Create, Remove, Set, Evict, MayRun, after_call, after_calls, confirmed, left_by}
use Rattle.meta_laws.specs.Numbers.{NoneFalls}
use Rattle.meta_laws.proofs.Cases.{begin_cases, create_cases, end_cases, merge_cases, open_cases, read_cases, remove_cases, set_cases}
use Rattle.meta_laws.proofs.Changing.{over_AreNext}
use Rattle.meta_laws.proofs.Runs.{call_sound}

-- all numbers stay
stay : (m new : MetaView) → new.next_file ≡ m.next_file → new.leases.next ≡ m.leases.next → new.nexts ≡ m.nexts → NoneFalls m new
stay m new files keys nexts = record { files = omega arith; keys = omega arith; objects = λ target. let same : get_or new.nexts target 0 ≡ get_or m.nexts target 0 = λ j. get_or (nexts j) target 0 in omega arith; targets = λ j. length (nexts j) }

-- first one, then the other
then : (a b c : MetaView) → NoneFalls a b → NoneFalls b c → NoneFalls a c
then a b c h k = record { files = omega (arith, h.files, k.files); keys = omega (arith, h.keys, k.keys); objects = λ target. omega (arith, h.objects target, k.objects target); targets = k.targets ∙ h.targets }

-- objects are made, and maybe a file or a key comes
drawn : (m new : MetaView) (wanted : Component → Bool) (file : ℕ) (l : Composite) → AreNext m.nexts → m.next_file ≤ new.next_file → m.leases.next ≤ new.leases.next → new.nexts ≡ nexts_over wanted file m.nexts l → NoneFalls m new
drawn m new wanted file l next files keys nexts = record {
  files = files;
  keys = keys;
  objects = λ target.
      let grown = numbers_grow wanted file m.nexts l.components next.some target in
      let same : get_or new.nexts target 0 ≡ get_or (nexts_over wanted file m.nexts l) target 0 = λ j. get_or (nexts j) target 0 in
      omega (arith, grown, same);
  targets = (λ j. length (nexts j)) ∙ length-nexts_after m.nexts (new_targets wanted (length m.nexts) file l.components);
}

-- a copy begins
begun : (client : ℕ) (ids : List ℕ) (f : File) (m : MetaView) → AreNext m.nexts → NoneFalls m (with_begin client ids f m)
begun client ids f m next = drawn m (with_begin client ids f m) (is_named ids) f.number f.layout next (omega arith) (omega arith) refl

module _ (m : MetaView) (h : IsSound m) where
  opened : (client : ℕ) (name : List ℕ) (range : Range) (step : ℕ) (b : Bool) → NoneFalls m (left_by (change_opens_file client range step m name b (file_named name m.files)) m)
  opened client name range step = open_cases (NoneFalls m) client name range step m (record {
    same = stay m m refl refl refl;
    shared = λ f e. stay m _ refl refl refl;
    intended = λ f mirror e primary. drawn m _ (is_over range mirror) f.number f.layout h.nexts (omega arith) (omega arith) refl;
  })

  kept : (cookie : Share) (file : ℕ) (b : Bool) → NoneFalls m (confirmed file cookie b m)
  kept cookie file true = stay m _ refl refl refl
  kept cookie file false = stay m _ refl refl refl

  pub call_draws : (call : Call) → NoneFalls m (after_call call m)
  call_draws (OpenRead client name) = read_cases (NoneFalls m) client name m (record { same = stay m m refl refl refl; shared = λ f e. stay m _ refl refl refl })
  call_draws (OpenWrite client name range step) = opened client name range step (nat_lt most_bytes range.end)
  call_draws (OpenCut client name size step) = opened client name (record { start = size; end = eof }) step (nat_lt most_bytes size)
  call_draws (Free file cookie) = stay m _ refl refl refl
  call_draws (Confirm file cookie) = kept cookie file (holds file cookie m)
  call_draws (Commit file cookie end) = stay m _ refl refl refl
  call_draws (Cut file cookie size) = stay m _ refl refl refl
  call_draws (BeginCopy client name what) = begin_cases (NoneFalls m) client name what m (record {
    same = stay m m refl refl refl;
    begins = λ ids f e free. begun client ids f m h.nexts;
    adds = λ mirrors f is e free within. stay m _ refl refl refl;
    extends = λ mirrors ids f is e free within. begun client ids (with_layout (extended mirrors (length m.nexts) f.layout) f) m h.nexts;
    both = λ victim f v is e k free free_too.
        then m (with_begin client [] f m) (with_begin client [] v (with_begin client [] f m)) (begun client [] f m h.nexts) (begun client [] v (with_begin client [] f m) (over_AreNext (is_named []) f.number m.nexts f.layout h.nexts));
  })
  call_draws (CopyDone key cleared) = end_cases (NoneFalls m) key cleared m (record { same = stay m m refl refl refl; given = stay m _ refl refl refl; done = λ f held e. stay m _ refl refl refl })
  call_draws (MergeDone ours theirs) = merge_cases (NoneFalls m) ours theirs m (record { same = stay m m refl refl refl; given = stay m _ refl refl refl; merges = λ f v held held_too e k. stay m _ refl refl refl })
  call_draws (GiveUp key) = stay m _ refl refl refl
  call_draws (Create name mirrors) = create_cases (NoneFalls m) name mirrors m (record { same = stay m m refl refl refl; comes = λ absent room. record { files = omega arith; keys = omega arith; objects = λ target. omega arith; targets = refl } })
  call_draws (Remove client name mirror to step) = remove_cases (NoneFalls m) client name mirror step m (record {
    same = stay m m refl refl refl;
    goes = λ f e kept. stay m _ refl refl refl;
    splits = λ to f e kept fresh absent room. record { files = omega arith; keys = omega arith; objects = λ target. omega arith; targets = refl };
  }) to
  call_draws (Set client name id change step) = set_cases (NoneFalls m) client name id change step m (record { same = stay m m refl refl refl; marks = λ f e kept. stay m _ refl refl refl })
  call_draws (Evict client step) = stay m _ refl refl refl

pub run_draws : (calls : List Call) (m : MetaView) → IsSound m → MayRun calls m → NoneFalls m (after_calls calls m)
run_draws [] m h may = stay m m refl refl refl
run_draws (call ∷ calls) m h may = then m (after_call call m) (after_calls calls (after_call call m)) (call_draws m h call) (run_draws calls (after_call call m) (call_sound call m h may.0) may.1)
