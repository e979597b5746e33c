-- What an extend by a victim knows at its last step, as its answer is judged by.
use Rattle.std.proofs.Common.{◌≡◌, ℕ, true, Some, inl, inr, ◌⊎◌, sym, ap, subst, ◌∙◌, arith}
use Rattle.flr_base.specs.declared.reply.Entry.{Entry}
use Rattle.flr_base.specs.declared.reply.FailedCall.{FailedCall}
use Rattle.flr_base.specs.declared.reply.Reply.{Reply}
use Rattle.flr_base.specs.declared.reply.Reply.TheVariants as reply
use Rattle.layout_lease.specs.declared.lease.KeyState.TheVariants.{Held}
use Rattle.layout_lease.specs.Leases.{KeyView, holder_of, state_of}
use Rattle.script_values.specs.declared.command.Command.{Command}
use Rattle.meta_server.specs.Files.{File}
use Rattle.meta_server.specs.Sound.{IsSound}
use Rattle.resync_copy.specs.Chunks as chunks
use Rattle.resync_copy.specs.Comparing.{ComparingView}
use Rattle.flr_steps.specs.States.{State}
use Rattle.flr_steps.specs.Traces.{Past}
use Rattle.flr_claims.specs.Calls.{Call, HaveBegun}
use Rattle.flr_claims.specs.Causes.{IsLater, TakesFileIn}
use Rattle.flr_claims.specs.Copies.{chunk_start}
use Rattle.flr_claims.specs.Failures.{is_unanswered}
use Rattle.flr_claims.specs.Merging.{AreLeased, AreTheSame, DifferFirstAt, HasFenceFailed, HasNoSource, HaveOtherSizes, HaveSizes, IsShutOff}
use Rattle.flr_claims.specs.Runs.{call_before}
use Rattle.flr_honest.proofs.MergeCauses.Holders.{held_holder}
use Rattle.flr_honest.proofs.MergeCauses.Known.{AreAllSame, DifferAtFirst, FenceFailed, HasKeys, IsBegun, IsFound, IsSettled, IsShut, NobodyIsLeft, SizesDiffer, Way}

module _ (b : State) (e : Entry) (asked : Command) (p : Past) where
  -- the call before its point, and its way there
  abbrev pub call : Call
  call = call_before b e asked p

  abbrev pub way : Way
  way = record { script = b.script; schedule = b.schedule; client = e.client; asked = asked; opened = p.doing.opened; at = e.at }

  -- it began on these files
  begun : (x : ComparingView) (f v : File) → IsBegun way x f v → HaveBegun call f v
  begun x f v h = record { state = h.state; behind = h.behind; file = h.file; victim = h.victim; later = h.later }

  -- a file that it shut off
  shut : (f : File) (settled : State) → IsShut e.client p.doing.made f settled → IsShutOff call f settled
  shut f settled h = record { fenced = h.fenced; alone = h.alone }

  -- both leases stand
  module _ (sound : IsSound b.shared.meta) (ours theirs : KeyView) (held : state_of b.shared.meta.leases ours ≡ Held) (other : state_of b.shared.meta.leases theirs ≡ Held) where
    -- its client has the lease of the file
    holder : (key : KeyView) (number : ℕ) → state_of b.shared.meta.leases key ≡ Held → key.file ≡ number → key.client ≡ e.client → holder_of b.shared.meta.leases number ≡ Some e.client
    holder key number stands file client = ap (λ (n : ℕ). holder_of b.shared.meta.leases n) (sym file) ∙ held_holder b.shared.meta.leases key sound.leases stands ∙ ap (λ (n : ℕ). Some n) client

    -- both leases stand
    leased : (x : ComparingView) (f v : File) → HasKeys x ours theirs → IsBegun way x f v → AreLeased call f v
    leased x f v keys h = record {
      begun = begun x f v h;
      ours = holder x.ours.key f.number (subst (λ (k : KeyView). state_of b.shared.meta.leases k ≡ Held) (sym keys.0) held) h.ours.key h.ours.client;
      theirs = holder x.theirs.key v.number (subst (λ (k : KeyView). state_of b.shared.meta.leases k ≡ Held) (sym keys.1) other) h.theirs.key h.theirs.client;
    }

    -- and the files had these sizes
    sizes : (last : ℕ) (x : ComparingView) (f v : File) (a c : ℕ) → HasKeys x ours theirs → IsSettled way last p.doing.made x f v a c → HaveSizes call f v a c
    sizes last x f v a c keys h = record {
      leased = leased x f v keys h.begun;
      place = h.place;
      settled = h.settled;
      at = record { since = (h.since, h.early); own = h.own; no_call = h.no_call; before = h.before };
      our_file = shut f h.settled h.our_file;
      their_file = shut v h.settled h.their_file;
      our_size = h.our_size;
      their_size = h.their_size;
    }

    -- they are the same
    pub same_told : (last : ℕ) (h : AreAllSame way last p.doing.made ours theirs) → AreTheSame call h.f h.v
    same_told last h = record { size = h.size; sizes = sizes last h.x h.f h.v h.size h.size h.keys h.settled; same = h.same }

    -- they differ first there
    differ_told : (last offset a c : ℕ) → DifferAtFirst way last p.doing.made ours theirs offset a c → DifferFirstAt call offset a c
    differ_told last offset a c h = record {
      f = h.f;
      v = h.v;
      size = h.size;
      sizes = sizes last h.x h.f h.v h.size h.size h.keys h.settled;
      within = h.within;
      differ = h.differ;
      our_one = h.our_one;
      their_one = h.their_one;
      first = h.first;
    }

    -- their sizes differ
    sizes_told : (last a c : ℕ) → SizesDiffer way last p.doing.made ours theirs a c → HaveOtherSizes call a c
    sizes_told last a c h = record { f = h.f; v = h.v; sizes = sizes last h.x h.f h.v a c h.keys h.settled; differ = h.differ }

    -- a fence failed
    fence_told : (failed : FailedCall) → FenceFailed way p.doing.made ours theirs failed → HasFenceFailed call failed
    fence_told failed h = record { f = h.f; v = h.v; leased = leased h.x h.f h.v h.keys h.begun; front = h.front; last = h.last; in_order = h.in_order; fence = h.fence; failed = h.failed }

    -- nobody is left to answer
    nobody_told : (last : ℕ) (failed : FailedCall) → NobodyIsLeft way last p.doing.made ours theirs failed → HasNoSource call failed
    nobody_told last failed h =
        let start : chunks.chunk_start h.number ≡ chunk_start h.number = omega arith in
        let chunk = h.chunk in
        record {
          f = h.f;
          v = h.v;
          size = h.size;
          sizes = sizes last h.x h.f h.v h.size h.size h.keys h.settled;
          number = h.number;
          chunk = omega (arith, chunk);
          earlier = λ y less. h.earlier y (omega (arith, less));
          nobody = subst (λ (y : ℕ). (is_unanswered h.f.layout.components p.doing.made y ≡ true) ⊎ (is_unanswered h.v.layout.components p.doing.made y ≡ true)) start h.nobody;
          by = h.failed.1.0;
          listed = h.failed.1.1;
          failed = h.failed.1.2;
          last = h.failed.0;
        }

    -- what was found is what its answer is judged by
    pub found_told : (last : ℕ) (kept : Reply) → IsLater call → IsFound way last p.doing.made ours theirs kept → TakesFileIn call kept
    found_told last (reply.DifferAt offset a c) later h = (later, differ_told last offset a c h)
    found_told last (reply.Sizes a c) later h = (later, sizes_told last a c h)
    found_told last (reply.CopyFault failed) later (inl h) = (later, inl (fence_told failed h))
    found_told last (reply.CopyFault failed) later (inr h) = (later, inr (nobody_told last failed h))
    found_told last other later h = absurd h
