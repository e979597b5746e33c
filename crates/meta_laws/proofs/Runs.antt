-- The server stays sound through each call, and so through all.
use Rattle.std.proofs.Common.{◌≡◌, ℕ, ◌<◌, ◌≤◌, true, not, nat_lt, List, [], ◌∷◌, sym, subst, ◌∙◌, arith}
use Rattle.std.specs.Prelude.{replicate}
use Rattle.std.specs.List.{AllByRecursion}
use Rattle.std.proofs.lemmas.List.{get_or-replicate, length-replicate}
use Rattle.composite_layout.specs.Layouts.{eof}
use Rattle.composite_layout.specs.LookUps.{has_stale, mirror_ids}
use Rattle.layout_lease.specs.Leases.{IsSoundTable, new_table}
use Rattle.layout_state.specs.Choosing.{has_fresh}
use Rattle.layout_state.specs.Making.{AreNext}
use Rattle.layout_state.proofs.MarkLaws.{fresh_there, passes, valid_fresh}
use Rattle.meta_server.specs.Closing.{holds}
use Rattle.meta_server.specs.Files.{File, MetaView, new_meta}
use Rattle.flr_base.specs.Limits.{most_bytes}
use Rattle.meta_server.specs.Sound.{IsSound, IsSoundFile}
use Rattle.meta_laws.specs.Calls.{Call, OpenRead, OpenWrite, OpenCut, Free, Confirm, Commit, Cut, BeginCopy, CopyDone, MergeDone, GiveUp, Create, Remove, Set, Evict, IsStart, MayCall, MayRun, after_call, after_calls}
use Rattle.meta_laws.proofs.Copies.{copy_sound}
use Rattle.meta_laws.proofs.Ends.{copy_ended, given_sound, merge_ended}
use Rattle.meta_laws.proofs.Names.{created_sound, evicted_sound, removed_sound, set_sound}
use Rattle.meta_laws.proofs.Opens.{committed_sound, confirmed_sound, cut_sound, freed_sound, open_sound, read_sound}

-- the first numbers of each target
first_numbers : (targets : ℕ) → 0 < targets → targets ≤ 64 → AreNext (replicate targets 1)
first_numbers targets some few = let n = length-replicate {A = ℕ} targets 1 in record {
  some = omega (arith, n);
  few = omega (arith, n);
  counted = λ target within. subst (λ k. 0 < k) (sym (get_or-replicate {A = ℕ} targets target 1 0 (omega (arith, n, within)))) (omega arith);
}

-- no key was given
no_keys : IsSoundTable new_table
no_keys = record { clients = λ k d h. absurd (omega arith); twice = λ client. omega arith; once = λ file. omega arith; below = λ k d h. absurd (omega arith); distinct = λ number. omega arith }

pub new_sound : (targets most : ℕ) → IsStart targets most → IsSound (new_meta targets most)
new_sound targets most h = record {
  files = tt;
  ascending = tt;
  below = tt;
  named = tt;
  few = omega arith;
  leases = no_keys;
  covered = tt;
  nexts = first_numbers targets h.some_targets h.few_targets;
  some = h.some_mirrors;
  most = h.few_mirrors;
  evicted = length-replicate {A = ℕ} 17 0;
}

pub call_sound : (call : Call) (m : MetaView) → IsSound m → MayCall call m → IsSound (after_call call m)
call_sound (OpenRead client name) m h may = read_sound client name m h may.0 may.1
call_sound (OpenWrite client name range step) m h may = open_sound client name m h may.known may.share range step (nat_lt most_bytes range.end)
call_sound (OpenCut client name size step) m h may = open_sound client name m h may.known may.share (record { start = size; end = eof }) step (nat_lt most_bytes size)
call_sound (Free file cookie) m h may = freed_sound m file cookie h
call_sound (Confirm file cookie) m h may = confirmed_sound m file cookie (holds file cookie m) h
call_sound (Commit file cookie end) m h may = committed_sound m file cookie end may h
call_sound (Cut file cookie size) m h may = cut_sound m file cookie size may h
call_sound (BeginCopy client name what) m h may = copy_sound client name what m h may
call_sound (CopyDone key cleared) m h may = copy_ended key cleared m h
call_sound (MergeDone ours theirs) m h may = merge_ended ours theirs m h may.0
call_sound (GiveUp key) m h may = given_sound m key h
call_sound (Create name mirrors) m h may = created_sound name mirrors m h may.1
call_sound (Remove client name mirror to step) m h may = removed_sound client name m h mirror step to
call_sound (Set client name id change step) m h may = set_sound client name m h id change step
call_sound (Evict client step) m h may = evicted_sound client step m h

pub run_sound : (calls : List Call) (m : MetaView) → IsSound m → MayRun calls m → IsSound (after_calls calls m)
run_sound [] m h may = h
run_sound (call ∷ calls) m h may = run_sound calls (after_call call m) (call_sound call m h may.0) may.1

-- each file has a wholly fresh mirror
pub fresh_files : (m : MetaView) → IsSound m → AllByRecursion (λ (f : File). has_fresh f.layout.components ≡ true) m.files
fresh_files m h = each m.files h.files
  where
    fresh : (f : File) → IsSoundFile f → has_fresh f.layout.components ≡ true
    fresh f k =
        let w = valid_fresh f.layout k.layout in
        let none : not (has_stale w.mirror f.layout.components) ≡ true = λ j. not (w.fresh j) in
        fresh_there f.layout.components ∙ passes (λ (mirror : ℕ). not (has_stale mirror f.layout.components)) (mirror_ids f.layout.components) w.mirror w.there none

    each : (files : List File) → AllByRecursion IsSoundFile files → AllByRecursion (λ (f : File). has_fresh f.layout.components ≡ true) files
    each [] k = tt
    each (f ∷ fs) k = (fresh f k.0, each fs k.1)
