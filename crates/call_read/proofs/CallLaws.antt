-- The lines of a call are those of its head, and those that follow its answer.
use Rattle.std.proofs.Common.{◌≡◌, ℕ, suc, ◌-◌, List, [], ◌∷◌, ◌++◌, length, map, take, drop, Option, Some, None, refl, sym, ap, subst, ◌∙◌, append_assoc, arith}
use Rattle.std.specs.Prelude.{codes, ◌↔◌}
use Rattle.std.specs.List.{AllByRecursion}
use Rattle.std.proofs.lemmas.List.{append-nil, length-append}
use Rattle.flr_base.specs.Faults.{Begins}
use Rattle.flr_base.specs.declared.reply.Diff.{Diff}
use Rattle.flr_base.specs.declared.reply.Reply.{Reply}
use Rattle.flr_base.specs.declared.reply.Reply.TheVariants as reply
use Rattle.flr_base.specs.declared.reply.Take.{Take}
use Rattle.text_words.specs.Lines.{lines_of, text_of, unended}
use Rattle.text_words.specs.Pieces.{Lacks, AllLack}
use Rattle.text_words.specs.Words.{spaced}
use Rattle.text_words.proofs.LineLaws.{lines-text}
use Rattle.text_words.proofs.Splits.{Lacks-append}
use Rattle.text_words.proofs.WordTexts.{spaced_lacks}
use Rattle.layout_text.specs.Texts.{component_line, text_of_layout}
use Rattle.layout_text.specs.Texts as layouts
use Rattle.layout_text.specs.declared.error.TextError.{TextError}
use Rattle.layout_text.specs.declared.error.TextError.TheVariants.{Bad, NoMemory}
use Rattle.layout_text.proofs.WordLaws.{lines_of-layout, texts_lack}
use Rattle.std.proofs.Math.Seq.{take-append_seam, drop-append_seam}
use Rattle.script_values.specs.declared.command.Command.TheVariants as commands
use Rattle.script_values.specs.Texts.{command_text}
use Rattle.script_values.proofs.CommandLaws.{one_line}
use Rattle.script_values.proofs.ScriptTexts.{spellable}
use Rattle.report_text.specs.Answers.{IsPrintable, reply_words, take_line, diff_line, following_text}
use Rattle.report_text.specs.Texts.{IsWritable, call_line, text_of_call}
use Rattle.report_text.specs.declared.report.Call.{Call}
use Rattle.reply_read.specs.declared.answer.Answer.{Answer}
use Rattle.reply_read.specs.declared.answer.Answer.TheVariants as answers
use Rattle.reply_read.specs.Limits.{IsAnswer, IsShort, IsTake, IsDiff, answer_words}
use Rattle.reply_read.proofs.AnswerLaws.{answer_words_words}
use Rattle.reply_read.proofs.LineLaws.{take_lacks, diff_lacks}
use Rattle.call_read.specs.declared.head.Head.{Head}
use Rattle.call_read.specs.Heads.{place_words, head_line, IsHead, head_of}
use Rattle.call_read.specs.Following.{Lines, ended, IsStop, line_on, StopsAt, Follow, Becomes, text_behind, HasNoMore, StandsFirst}
use Rattle.call_read.specs.Calls.{answer_from, IsReply, places_at, IsReadable, AreCallLines, IsFront, IsNoMemory, call_at}
use Rattle.call_read.proofs.HeadLaws.{head_again, place_words_words}
use Rattle.call_read.proofs.Stops.{Leaves, stop_behind, stop_here}
use Rattle.call_read.proofs.FollowLaws.{lines_first, not_unended}

-- ---- the line of a call is that of its head

abbrev pub head_from_call : Call → Head
head_from_call c = record { places = places_at c.entry; command = c.command; answer = answer_from c.entry.reply }

words_from : (r : Reply) → answer_words (answer_from r) ≡ reply_words r
words_from reply.Created = refl
words_from (reply.Layout text) = refl
words_from reply.Set = refl
words_from (reply.Split name) = refl
words_from (reply.Removed id) = refl
words_from (reply.EvictedClient client) = refl
words_from (reply.Bytes bytes) = refl
words_from reply.Written = refl
words_from reply.Truncated = refl
words_from (reply.Copied cleared left) = refl
words_from (reply.Merged ids) = refl
words_from (reply.Same blocks) = refl
words_from (reply.Differ diffs) = refl
words_from reply.Rotted = refl
words_from (reply.NoFile name) = refl
words_from (reply.Exists name) = refl
words_from reply.TooManyFiles = refl
words_from reply.TooBig = refl
words_from (reply.NoPrimary range) = refl
words_from (reply.AllOffline byte) = refl
words_from (reply.Fault byte calls) = refl
words_from (reply.WriteFault failed) = refl
words_from (reply.Evicted place) = refl
words_from (reply.Busy client) = refl
words_from (reply.Broken place) = refl
words_from (reply.LastFresh id) = refl
words_from (reply.StaleMirror id) = refl
words_from (reply.NoMirrorId id) = refl
words_from (reply.NoComponent id) = refl
words_from reply.TooManyMirrors = refl
words_from reply.TooManyComponents = refl
words_from (reply.DifferAt offset ours theirs) = refl
words_from (reply.Sizes ours theirs) = refl
words_from (reply.CopyFault failed) = refl
words_from (reply.VerifyFault failed) = refl
words_from reply.NoObject = refl

pub line_from : (c : Call) → head_line (head_from_call c) ≡ call_line c.entry c.command
line_from c = ap (λ (words : List (List ℕ)). spaced (spaced (place_words (places_at c.entry)) ∷ command_text c.command ∷ codes "=" ∷ spaced words ∷ [])) (words_from c.entry.reply)

pub answer_good : (r : Reply) (ts : List Take) → IsReply r ts → IsAnswer (answer_from r)
answer_good reply.Created ts h = h.0
answer_good (reply.Layout text) ts h = tt
answer_good reply.Set ts h = h.0
answer_good (reply.Split name) ts h = h.0
answer_good (reply.Removed id) ts h = h.0
answer_good (reply.EvictedClient client) ts h = h.0
answer_good (reply.Bytes bytes) ts h = h.0
answer_good reply.Written ts h = h.0
answer_good reply.Truncated ts h = h.0
answer_good (reply.Copied cleared left) ts h = h.0
answer_good (reply.Merged ids) ts h = h.0
answer_good (reply.Same blocks) ts h = h.0
answer_good (reply.Differ diffs) ts h = h.0.0
answer_good reply.Rotted ts h = h.0
answer_good (reply.NoFile name) ts h = h.0
answer_good (reply.Exists name) ts h = h.0
answer_good reply.TooManyFiles ts h = h.0
answer_good reply.TooBig ts h = h.0
answer_good (reply.NoPrimary range) ts h = h.0
answer_good (reply.AllOffline byte) ts h = h.0
answer_good (reply.Fault byte calls) ts h = h.0
answer_good (reply.WriteFault failed) ts h = h.0
answer_good (reply.Evicted place) ts h = h.0
answer_good (reply.Busy client) ts h = h.0
answer_good (reply.Broken place) ts h = h.0
answer_good (reply.LastFresh id) ts h = h.0
answer_good (reply.StaleMirror id) ts h = h.0
answer_good (reply.NoMirrorId id) ts h = h.0
answer_good (reply.NoComponent id) ts h = h.0
answer_good reply.TooManyMirrors ts h = h.0
answer_good reply.TooManyComponents ts h = h.0
answer_good (reply.DifferAt offset ours theirs) ts h = h.0
answer_good (reply.Sizes ours theirs) ts h = h.0
answer_good (reply.CopyFault failed) ts h = h.0
answer_good (reply.VerifyFault failed) ts h = h.0
answer_good reply.NoObject ts h = h.0

pub head_good : (c : Call) → IsReadable c → IsHead (head_from_call c)
head_good c h = record { places = h.places; command = h.command; answer = answer_good c.entry.reply c.entry.takes h.reply }

-- no text follows an answer of one line
short_text : (r : Reply) (ts : List Take) → IsShort r → following_text r ts ≡ []
short_text reply.Created ts h = refl
short_text (reply.Layout text) ts h = absurd h
short_text reply.Set ts h = refl
short_text (reply.Split name) ts h = refl
short_text (reply.Removed id) ts h = refl
short_text (reply.EvictedClient client) ts h = refl
short_text (reply.Bytes bytes) ts h = absurd h
short_text reply.Written ts h = refl
short_text reply.Truncated ts h = refl
short_text (reply.Copied cleared left) ts h = refl
short_text (reply.Merged ids) ts h = refl
short_text (reply.Same blocks) ts h = refl
short_text (reply.Differ diffs) ts h = absurd h
short_text reply.Rotted ts h = refl
short_text (reply.NoFile name) ts h = refl
short_text (reply.Exists name) ts h = refl
short_text reply.TooManyFiles ts h = refl
short_text reply.TooBig ts h = refl
short_text (reply.NoPrimary range) ts h = refl
short_text (reply.AllOffline byte) ts h = refl
short_text (reply.Fault byte calls) ts h = refl
short_text (reply.WriteFault failed) ts h = refl
short_text (reply.Evicted place) ts h = refl
short_text (reply.Busy client) ts h = refl
short_text (reply.Broken place) ts h = refl
short_text (reply.LastFresh id) ts h = refl
short_text (reply.StaleMirror id) ts h = refl
short_text (reply.NoMirrorId id) ts h = refl
short_text (reply.NoComponent id) ts h = refl
short_text reply.TooManyMirrors ts h = refl
short_text reply.TooManyComponents ts h = refl
short_text (reply.DifferAt offset ours theirs) ts h = refl
short_text (reply.Sizes ours theirs) ts h = refl
short_text (reply.CopyFault failed) ts h = refl
short_text (reply.VerifyFault failed) ts h = refl
short_text reply.NoObject ts h = refl

short_reply : (r : Reply) → IsShort r → IsReply r []
short_reply reply.Created h = (h, refl)
short_reply (reply.Layout text) h = absurd h
short_reply reply.Set h = (h, refl)
short_reply (reply.Split name) h = (h, refl)
short_reply (reply.Removed id) h = (h, refl)
short_reply (reply.EvictedClient client) h = (h, refl)
short_reply (reply.Bytes bytes) h = absurd h
short_reply reply.Written h = (h, refl)
short_reply reply.Truncated h = (h, refl)
short_reply (reply.Copied cleared left) h = (h, refl)
short_reply (reply.Merged ids) h = (h, refl)
short_reply (reply.Same blocks) h = (h, refl)
short_reply (reply.Differ diffs) h = absurd h
short_reply reply.Rotted h = (h, refl)
short_reply (reply.NoFile name) h = (h, refl)
short_reply (reply.Exists name) h = (h, refl)
short_reply reply.TooManyFiles h = (h, refl)
short_reply reply.TooBig h = (h, refl)
short_reply (reply.NoPrimary range) h = (h, refl)
short_reply (reply.AllOffline byte) h = (h, refl)
short_reply (reply.Fault byte calls) h = (h, refl)
short_reply (reply.WriteFault failed) h = (h, refl)
short_reply (reply.Evicted place) h = (h, refl)
short_reply (reply.Busy client) h = (h, refl)
short_reply (reply.Broken place) h = (h, refl)
short_reply (reply.LastFresh id) h = (h, refl)
short_reply (reply.StaleMirror id) h = (h, refl)
short_reply (reply.NoMirrorId id) h = (h, refl)
short_reply (reply.NoComponent id) h = (h, refl)
short_reply reply.TooManyMirrors h = (h, refl)
short_reply reply.TooManyComponents h = (h, refl)
short_reply (reply.DifferAt offset ours theirs) h = (h, refl)
short_reply (reply.Sizes ours theirs) h = (h, refl)
short_reply (reply.CopyFault failed) h = (h, refl)
short_reply (reply.VerifyFault failed) h = (h, refl)
short_reply reply.NoObject h = (h, refl)

short_more : (r : Reply) (rest : List ℕ) → IsShort r → HasNoMore (answer_from r) rest
short_more reply.Created rest h = tt
short_more (reply.Layout text) rest h = absurd h
short_more reply.Set rest h = tt
short_more (reply.Split name) rest h = tt
short_more (reply.Removed id) rest h = tt
short_more (reply.EvictedClient client) rest h = tt
short_more (reply.Bytes bytes) rest h = absurd h
short_more reply.Written rest h = tt
short_more reply.Truncated rest h = tt
short_more (reply.Copied cleared left) rest h = tt
short_more (reply.Merged ids) rest h = tt
short_more (reply.Same blocks) rest h = tt
short_more (reply.Differ diffs) rest h = absurd h
short_more reply.Rotted rest h = tt
short_more (reply.NoFile name) rest h = tt
short_more (reply.Exists name) rest h = tt
short_more reply.TooManyFiles rest h = tt
short_more reply.TooBig rest h = tt
short_more (reply.NoPrimary range) rest h = tt
short_more (reply.AllOffline byte) rest h = tt
short_more (reply.Fault byte calls) rest h = tt
short_more (reply.WriteFault failed) rest h = tt
short_more (reply.Evicted place) rest h = tt
short_more (reply.Busy client) rest h = tt
short_more (reply.Broken place) rest h = tt
short_more (reply.LastFresh id) rest h = tt
short_more (reply.StaleMirror id) rest h = tt
short_more (reply.NoMirrorId id) rest h = tt
short_more (reply.NoComponent id) rest h = tt
short_more reply.TooManyMirrors rest h = tt
short_more reply.TooManyComponents rest h = tt
short_more (reply.DifferAt offset ours theirs) rest h = tt
short_more (reply.Sizes ours theirs) rest h = tt
short_more (reply.CopyFault failed) rest h = tt
short_more (reply.VerifyFault failed) rest h = tt
short_more reply.NoObject rest h = tt

-- ---- what the answer becomes

-- the words of what it becomes are its own
words_of_it : (a : Answer) (q : Reply) (ts : List Take) → Becomes a q ts → reply_words q ≡ answer_words a
words_of_it (answers.Whole r) q ts b = ap reply_words b.0
words_of_it answers.Layout q ts b = ap reply_words b.0.2
words_of_it (answers.Bytes bytes) q ts b = ap reply_words b.0
words_of_it (answers.Differ count) q ts b = ap reply_words b.0.3 ∙ ap (λ (n : ℕ). answer_words (answers.Differ n)) b.0.1

pub text_of_it : (a : Answer) (q : Reply) (ts : List Take) → IsAnswer a → Becomes a q ts → following_text q ts ≡ text_behind a q ts
text_of_it (answers.Whole r) q ts good b = ap (λ (x : Reply). following_text x ts) b.0 ∙ short_text r ts good
text_of_it answers.Layout q ts good b = refl
text_of_it (answers.Bytes bytes) q ts good b = refl
text_of_it (answers.Differ count) q ts good b = refl

reply_of_it : (a : Answer) (q : Reply) (ts : List Take) → IsAnswer a → Becomes a q ts → IsReply q ts
reply_of_it (answers.Whole r) q ts good b = subst (λ (x : Reply). IsReply x ts) (sym b.0) (subst (λ (xs : List Take). IsReply r xs) (sym b.1) (short_reply r good))
reply_of_it answers.Layout q ts good b = subst (λ (x : Reply). IsReply x ts) (sym b.0.2) ((b.0.0, (b.0.1, refl)), b.1)
reply_of_it (answers.Bytes bytes) q ts good b = subst (λ (x : Reply). IsReply x ts) (sym b.0) (good, b.1)
reply_of_it (answers.Differ count) q ts good b = subst (λ (x : Reply). IsReply x ts) (sym b.0.3) ((let size = b.0.1 in omega (arith, size, good), b.0.2), b.1)

more_of_it : (a : Answer) (q : Reply) (ts : List Take) (rest : List ℕ) → IsAnswer a → Becomes a q ts → HasNoMore a rest → HasNoMore (answer_from q) rest
more_of_it (answers.Whole r) q ts rest good b h = subst (λ (x : Reply). HasNoMore (answer_from x) rest) (sym b.0) (short_more r rest good)
more_of_it answers.Layout q ts rest good b h = subst (λ (x : Reply). HasNoMore (answer_from x) rest) (sym b.0.2) tt
more_of_it (answers.Bytes bytes) q ts rest good b h = subst (λ (x : Reply). HasNoMore (answer_from x) rest) (sym b.0) h
more_of_it (answers.Differ count) q ts rest good b h = subst (λ (x : Reply). HasNoMore (answer_from x) rest) (sym b.0.3) tt

-- ---- the call

line_of_it : (h : Head) (q : Reply) (ts : List Take) → Becomes h.answer q ts → call_line (call_at h q ts).entry h.command ≡ head_line h
line_of_it h q ts b = ap (λ (words : List (List ℕ)). spaced (spaced (place_words h.places) ∷ command_text h.command ∷ codes "=" ∷ spaced words ∷ [])) (words_of_it h.answer q ts b)

text_at : (h : Head) (q : Reply) (ts : List Take) → IsHead h → Becomes h.answer q ts → text_of_call (call_at h q ts).entry h.command ≡ head_line h ++ 10 ∷ text_behind h.answer q ts
unfolding text_of_call
text_at h q ts good b = ap (λ (xs : List ℕ). xs ++ 10 ∷ following_text q ts) (line_of_it h q ts b) ∙ ap (λ (xs : List ℕ). head_line h ++ 10 ∷ xs) (text_of_it h.answer q ts good.answer b)

-- its lines stand first
pub front_of : (text line rest behind : List ℕ) (h : Head) (q : Reply) (ts : List Take) → text ≡ line ++ 10 ∷ rest → IsHead h → line ≡ head_line h → StandsFirst h.answer rest q ts behind → IsFront text (call_at h q ts) behind
front_of text line rest behind h q ts cut good is s = record {
  readable = record { places = good.places; command = good.command; reply = reply_of_it h.answer q ts good.answer s.becomes };
  parts = cut ∙ ap (λ (xs : List ℕ). xs ++ 10 ∷ rest) is ∙ ap (λ (xs : List ℕ). head_line h ++ 10 ∷ xs) s.parts ∙ sym (append_assoc (head_line h) (10 ∷ text_behind h.answer q ts) behind)
      ∙ ap (λ (xs : List ℕ). xs ++ behind) (sym (text_at h q ts good s.becomes));
  longest = more_of_it h.answer q ts behind good.answer s.becomes s.longest;
}

-- ---- its lines

pub head_lacks : (h : Head) → IsHead h → Lacks 10 (head_line h)
head_lacks h good =
    let answer : Lacks 10 (spaced (answer_words h.answer)) = spaced_lacks (answer_words h.answer) (answer_words_words h.answer good.answer) in
    let command : Lacks 10 (command_text h.command) = one_line 32 h.command good.command in
    let places : Lacks 10 (spaced (place_words h.places)) = spaced_lacks (place_words h.places) (place_words_words h.places) in
    let last : List ℕ = 32 ∷ (codes "=" ++ 32 ∷ spaced (answer_words h.answer)) in
    let behind : Lacks 10 last = (refl, (refl, (refl, answer))) in
    let middle : Lacks 10 (32 ∷ (command_text h.command ++ last)) = (refl, Lacks-append 10 (command_text h.command) last command behind) in
    Lacks-append 10 (spaced (place_words h.places)) (32 ∷ (command_text h.command ++ last)) places middle

pub takes_lack : (ts : List Take) → AllByRecursion IsTake ts → AllLack 10 (map take_line ts)
takes_lack [] all = tt
takes_lack (t ∷ ts) all = (take_lacks t all.0, takes_lack ts all.1)

pub diffs_lack : (ds : List Diff) → AllByRecursion IsDiff ds → AllLack 10 (map diff_line ds)
diffs_lack [] all = tt
diffs_lack (d ∷ ds) all = (diff_lacks d all.0, diffs_lack ds all.1)

-- lines that may follow are those of something that the answer becomes
becomes_some : (a : Answer) (ys : Lines) → Follow a ys → (q : Reply) × (ts : List Take) × Becomes a q ts × (ys ≡ lines_of (text_behind a q ts))
becomes_some (answers.Whole r) ys f = (r, [], (refl, refl), f)
becomes_some answers.Layout ys f = (reply.Layout (text_of_layout f.0), [], ((f.0, f.1, refl), refl), f.2 ∙ sym (lines_of-layout f.0))
becomes_some (answers.Bytes bytes) ys f = (reply.Bytes bytes, f.0, (refl, f.1), f.2 ∙ sym (lines-text (map take_line f.0) (takes_lack f.0 f.1)))
becomes_some (answers.Differ count) ys f = (reply.Differ f.0, [], ((f.0, f.1, f.2, refl), refl), f.3 ∙ sym (lines-text (map diff_line f.0) (diffs_lack f.0 f.2)))

-- and the other way
pub follow_text : (r : Reply) (ts : List Take) → IsReply r ts → Follow (answer_from r) (lines_of (following_text r ts))
follow_text reply.Created ts h = refl
follow_text (reply.Layout text) ts h = (h.0.0, h.0.1.0, ap lines_of h.0.1.1 ∙ lines_of-layout h.0.0)
follow_text reply.Set ts h = refl
follow_text (reply.Split name) ts h = refl
follow_text (reply.Removed id) ts h = refl
follow_text (reply.EvictedClient client) ts h = refl
follow_text (reply.Bytes bytes) ts h = (ts, h.1, lines-text (map take_line ts) (takes_lack ts h.1))
follow_text reply.Written ts h = refl
follow_text reply.Truncated ts h = refl
follow_text (reply.Copied cleared left) ts h = refl
follow_text (reply.Merged ids) ts h = refl
follow_text (reply.Same blocks) ts h = refl
follow_text (reply.Differ diffs) ts h = (diffs, refl, h.0.1, lines-text (map diff_line diffs) (diffs_lack diffs h.0.1))
follow_text reply.Rotted ts h = refl
follow_text (reply.NoFile name) ts h = refl
follow_text (reply.Exists name) ts h = refl
follow_text reply.TooManyFiles ts h = refl
follow_text reply.TooBig ts h = refl
follow_text (reply.NoPrimary range) ts h = refl
follow_text (reply.AllOffline byte) ts h = refl
follow_text (reply.Fault byte calls) ts h = refl
follow_text (reply.WriteFault failed) ts h = refl
follow_text (reply.Evicted place) ts h = refl
follow_text (reply.Busy client) ts h = refl
follow_text (reply.Broken place) ts h = refl
follow_text (reply.LastFresh id) ts h = refl
follow_text (reply.StaleMirror id) ts h = refl
follow_text (reply.NoMirrorId id) ts h = refl
follow_text (reply.NoComponent id) ts h = refl
follow_text reply.TooManyMirrors ts h = refl
follow_text reply.TooManyComponents ts h = refl
follow_text (reply.DifferAt offset ours theirs) ts h = refl
follow_text (reply.Sizes ours theirs) ts h = refl
follow_text (reply.CopyFault failed) ts h = refl
follow_text (reply.VerifyFault failed) ts h = refl
follow_text reply.NoObject ts h = refl

call_lines : (c : Call) → IsReadable c → lines_of (text_of_call c.entry c.command) ≡ Some (head_line (head_from_call c)) ∷ lines_of (following_text c.entry.reply c.entry.takes)
unfolding text_of_call
call_lines c h =
    ap (λ (xs : List ℕ). lines_of (xs ++ 10 ∷ following_text c.entry.reply c.entry.takes)) (sym (line_from c))
    ∙ lines_first (head_line (head_from_call c)) (following_text c.entry.reply c.entry.takes) (head_lacks (head_from_call c) (head_good c h))

pub one_head : (h k : Head) → IsHead h → IsHead k → head_line h ≡ head_line k → h ≡ k
one_head h k a b e = let both : Some h ≡ Some k = sym (head_again h a) ∙ ap head_of e ∙ head_again k b in cc

-- lines that may follow are those of a call with this head
pub call_behind : (h : Head) (tail : Lines) → IsHead h → Follow h.answer tail → (q : Reply) × (ts : List Take) × IsReadable (call_at h q ts) × (lines_of (text_of_call (call_at h q ts).entry h.command) ≡ Some (head_line h) ∷ tail)
call_behind h tail good f =
    let b = becomes_some h.answer tail f in
    let readable : IsReadable (call_at h b.0 b.1) = record { places = good.places; command = good.command; reply = reply_of_it h.answer b.0 b.1 good.answer b.2 } in
    let lines : lines_of (text_of_call (call_at h b.0 b.1).entry h.command) ≡ Some (head_line h) ∷ lines_of (text_behind h.answer b.0 b.1) =
    ap lines_of (text_at h b.0 b.1 good b.2) ∙ lines_first (head_line h) (text_behind h.answer b.0 b.1) (head_lacks h good) in
    (b.0, b.1, readable, lines ∙ ap (λ (ys : Lines). Some (head_line h) ∷ ys) (sym b.3))

-- behind the line of a head comes what follows its answer
head_leaves : (h : Head) → IsHead h → Leaves AreCallLines (Some (head_line h) ∷ []) (Follow h.answer)
head_leaves h good tail = (forth, back)
  where
    forth : AreCallLines (Some (head_line h) ∷ tail) → Follow h.answer tail
    forth (c, readable, e) =
        let lines : Some (head_line h) ∷ tail ≡ Some (head_line (head_from_call c)) ∷ lines_of (following_text c.entry.reply c.entry.takes) = e ∙ call_lines c readable in
        let line : head_line h ≡ head_line (head_from_call c) = cc in
        let rest : tail ≡ lines_of (following_text c.entry.reply c.entry.takes) = cc in
        let same = one_head h (head_from_call c) good (head_good c readable) line in
        subst (Follow h.answer) (sym rest) (subst (λ (k : Head). Follow k.answer (lines_of (following_text c.entry.reply c.entry.takes))) (sym same) (follow_text c.entry.reply c.entry.takes readable.reply))

    back : Follow h.answer tail → AreCallLines (Some (head_line h) ∷ tail)
    back f = let b = call_behind h tail good f in (call_at h b.0 b.1, b.2, sym b.3)

-- there is a first line, that of a head
first_head : (y : Option (List ℕ)) (more : Lines) → AreCallLines (y ∷ more) → (h : Head) × IsHead h × (y ≡ Some (head_line h))
first_head y more (c, readable, e) =
    let lines : y ∷ more ≡ Some (head_line (head_from_call c)) ∷ lines_of (following_text c.entry.reply c.entry.takes) = e ∙ call_lines c readable in
    (head_from_call c, head_good c readable, cc)

no_lines : AreCallLines [] → ⊥
no_lines (c, readable, e) =
    let lines : [] ≡ Some (head_line (head_from_call c)) ∷ lines_of (following_text c.entry.reply c.entry.takes) = e ∙ call_lines c readable in
    absurd cc

abbrev some_call : Call
some_call = record {
  entry = record { client = 1; number = 1; first = 1; at = 1; last = 1; reply = reply.Set; takes = [] };
  command = commands.Evict 1;
}

some_readable : IsReadable some_call
some_readable = record {
  places = record { some_client = omega arith; client = omega arith; some_number = omega arith; number = omega arith; some_first = omega arith; first = omega arith; at = omega arith; last = omega arith };
  command = (omega arith, omega arith);
  reply = (tt, refl);
}

some_begins : Begins AreCallLines []
some_begins = (lines_of (text_of_call some_call.entry some_call.command), (some_call, some_readable, refl))

-- ---- for the code

-- where the first line isn't that of a head
stop_first : (text : List ℕ) → ((h : Head) (tail : Lines) → IsHead h → lines_of text ≡ Some (head_line h) ∷ tail → ⊥) → StopsAt AreCallLines text (Bad 1)
stop_first text none =
    (0, stop_here AreCallLines (lines_of text) some_begins no_lines (λ y tail more is l. let f = first_head y more l in none f.0 tail f.1 (is ∙ ap (λ (z : Option (List ℕ)). z ∷ tail) f.2)), omega arith)

pub no_line : (text : List ℕ) → lines_of text ≡ unended text → StopsAt AreCallLines text (Bad 1)
no_line text none = stop_first text (λ h tail good e. not_unended text (head_line h) tail (sym none ∙ e))

pub no_head : (text line rest : List ℕ) (found : Option Head) → lines_of text ≡ Some line ∷ lines_of rest → ((h : Head) → ((found ≡ Some h) ↔ (IsHead h × (line ≡ head_line h)))) → found ≡ None → StopsAt AreCallLines text (Bad 1)
no_head text line rest found first spelled is = stop_first text (λ h tail good e.
    let lines : Some line ∷ lines_of rest ≡ Some (head_line h) ∷ tail = sym first ∙ e in
    let same : line ≡ head_line h = cc in
    let clash : None ≡ Some h = sym is ∙ (spelled h).1 (good, same) in
    absurd cc)

-- where what follows doesn't go on
pub stop_on : (text line rest : List ℕ) (h : Head) (error : TextError) → lines_of text ≡ Some line ∷ lines_of rest → IsHead h → line ≡ head_line h → StopsAt (Follow h.answer) rest error → StopsAt AreCallLines text (line_on error)
stop_on text line rest h (Bad n) first good is s =
    let lines : Some (head_line h) ∷ lines_of rest ≡ lines_of text = ap (λ (l : List ℕ). Some l ∷ lines_of rest) (sym is) ∙ sym first in
    let number = s.2 in
    (suc s.0, subst (λ (ys : Lines). IsStop AreCallLines ys (suc s.0)) lines (stop_behind AreCallLines (Follow h.answer) (Some (head_line h)) (lines_of rest) s.0 (head_leaves h good) no_lines s.1), omega (arith, number))
stop_on text line rest h NoMemory first good is s = tt

-- the lines that follow an answer lack byte 10
pub following_ls : (r : Reply) (ts : List Take) → IsReply r ts → (ls : List (List ℕ)) × AllLack 10 ls × (following_text r ts ≡ text_of ls)
following_ls reply.Created ts h = ([], tt, refl)
following_ls (reply.Layout text) ts h = (layouts.head_line h.0.0 ∷ map component_line h.0.0.components, texts_lack h.0.0, h.0.1.1)
following_ls reply.Set ts h = ([], tt, refl)
following_ls (reply.Split name) ts h = ([], tt, refl)
following_ls (reply.Removed id) ts h = ([], tt, refl)
following_ls (reply.EvictedClient client) ts h = ([], tt, refl)
following_ls (reply.Bytes bytes) ts h = (map take_line ts, takes_lack ts h.1, refl)
following_ls reply.Written ts h = ([], tt, refl)
following_ls reply.Truncated ts h = ([], tt, refl)
following_ls (reply.Copied cleared left) ts h = ([], tt, refl)
following_ls (reply.Merged ids) ts h = ([], tt, refl)
following_ls (reply.Same blocks) ts h = ([], tt, refl)
following_ls (reply.Differ diffs) ts h = (map diff_line diffs, diffs_lack diffs h.0.1, refl)
following_ls reply.Rotted ts h = ([], tt, refl)
following_ls (reply.NoFile name) ts h = ([], tt, refl)
following_ls (reply.Exists name) ts h = ([], tt, refl)
following_ls reply.TooManyFiles ts h = ([], tt, refl)
following_ls reply.TooBig ts h = ([], tt, refl)
following_ls (reply.NoPrimary range) ts h = ([], tt, refl)
following_ls (reply.AllOffline byte) ts h = ([], tt, refl)
following_ls (reply.Fault byte calls) ts h = ([], tt, refl)
following_ls (reply.WriteFault failed) ts h = ([], tt, refl)
following_ls (reply.Evicted place) ts h = ([], tt, refl)
following_ls (reply.Busy client) ts h = ([], tt, refl)
following_ls (reply.Broken place) ts h = ([], tt, refl)
following_ls (reply.LastFresh id) ts h = ([], tt, refl)
following_ls (reply.StaleMirror id) ts h = ([], tt, refl)
following_ls (reply.NoMirrorId id) ts h = ([], tt, refl)
following_ls (reply.NoComponent id) ts h = ([], tt, refl)
following_ls reply.TooManyMirrors ts h = ([], tt, refl)
following_ls reply.TooManyComponents ts h = ([], tt, refl)
following_ls (reply.DifferAt offset ours theirs) ts h = ([], tt, refl)
following_ls (reply.Sizes ours theirs) ts h = ([], tt, refl)
following_ls (reply.CopyFault failed) ts h = ([], tt, refl)
following_ls (reply.VerifyFault failed) ts h = ([], tt, refl)
following_ls reply.NoObject ts h = ([], tt, refl)

lines_front : (ls : List (List ℕ)) (rest : List ℕ) → AllLack 10 ls → lines_of (text_of ls ++ rest) ≡ ended ls ++ lines_of rest
lines_front [] rest h = refl
lines_front (l ∷ ls) rest h =
    let joined : ((l ++ 10 ∷ []) ++ text_of ls) ++ rest ≡ l ++ 10 ∷ (text_of ls ++ rest) = append_assoc (l ++ 10 ∷ []) (text_of ls) rest ∙ append_assoc l (10 ∷ []) (text_of ls ++ rest) in
    ap lines_of joined ∙ lines_first l (text_of ls ++ rest) h.0 ∙ ap (λ (ys : Lines). Some l ∷ ys) (lines_front ls rest h.1)

-- the lines of a call, and those of a text that begins with it
lines_before : (c : Call) (rest : List ℕ) → IsReadable c → (ys : Lines) × (lines_of (text_of_call c.entry c.command ++ rest) ≡ ys ++ lines_of rest) × AreCallLines ys
unfolding text_of_call
lines_before c rest h =
    let f = following_ls c.entry.reply c.entry.takes h.reply in
    let line : List ℕ = call_line c.entry c.command in
    let lacks : Lacks 10 line = subst (Lacks 10) (line_from c) (head_lacks (head_from_call c) (head_good c h)) in
    let whole : (more : List ℕ) → lines_of ((line ++ 10 ∷ following_text c.entry.reply c.entry.takes) ++ more) ≡ (Some line ∷ ended f.0) ++ lines_of more =
    λ more. ap lines_of (append_assoc line (10 ∷ following_text c.entry.reply c.entry.takes) more) ∙ lines_first line (following_text c.entry.reply c.entry.takes ++ more) lacks
    ∙ ap (λ (t : List ℕ). Some line ∷ lines_of (t ++ more)) f.2 ∙ ap (λ (ys : Lines). Some line ∷ ys) (lines_front f.0 more f.1) in
    let own : lines_of (line ++ 10 ∷ following_text c.entry.reply c.entry.takes) ≡ Some line ∷ ended f.0 =
    ap lines_of (sym (append-nil (line ++ 10 ∷ following_text c.entry.reply c.entry.takes))) ∙ whole [] ∙ append-nil (Some line ∷ ended f.0) in
    (Some line ∷ ended f.0, whole rest, (c, h, sym own))

-- a text that begins with a call's lines is not refused
pub front_again : (text : List ℕ) (error : TextError) → StopsAt AreCallLines text error → (c : Call) (rest : List ℕ) → IsReadable c → text ≡ text_of_call c.entry c.command ++ rest → IsNoMemory error
front_again text (Bad line) s c rest readable e =
    let b = lines_before c rest readable in
    let front : take (length b.0) (lines_of text) ≡ b.0 = ap (λ (t : List ℕ). take (length b.0) (lines_of t)) e ∙ ap (take (length b.0)) b.1 ∙ take-append_seam b.0 (lines_of rest) in
    s.1.whole (length b.0) (subst AreCallLines (sym front) b.2)
front_again text NoMemory s c rest readable e = tt

-- what is left of the text behind the front
pub rest_is : (text front rest : List ℕ) → text ≡ front ++ rest → drop (length text - length rest) text ≡ rest
rest_is text front rest e =
    let sum = length-append front rest in
    let whole : length text ≡ length (front ++ rest) = ap (λ (xs : List ℕ). length xs) e in
    let size : length text - length rest ≡ length front = omega (arith, sum, whole) in
    ap (λ (n : ℕ). drop n text) size ∙ ap (drop (length front)) e ∙ drop-append_seam front rest

-- what is read has a text
pub printable : (r : Reply) (ts : List Take) → IsReply r ts → IsPrintable r
printable reply.Created ts h = tt
printable (reply.Layout text) ts h = tt
printable reply.Set ts h = tt
printable (reply.Split name) ts h = tt
printable (reply.Removed id) ts h = tt
printable (reply.EvictedClient client) ts h = tt
printable (reply.Bytes bytes) ts h = let few = h.0.0 in omega (arith, few)
printable reply.Written ts h = tt
printable reply.Truncated ts h = tt
printable (reply.Copied cleared left) ts h = tt
printable (reply.Merged ids) ts h = tt
printable (reply.Same blocks) ts h = tt
printable (reply.Differ diffs) ts h = tt
printable reply.Rotted ts h = tt
printable (reply.NoFile name) ts h = tt
printable (reply.Exists name) ts h = tt
printable reply.TooManyFiles ts h = tt
printable reply.TooBig ts h = tt
printable (reply.NoPrimary range) ts h = tt
printable (reply.AllOffline byte) ts h = tt
printable (reply.Fault byte calls) ts h = tt
printable (reply.WriteFault failed) ts h = tt
printable (reply.Evicted place) ts h = tt
printable (reply.Busy client) ts h = tt
printable (reply.Broken place) ts h = tt
printable (reply.LastFresh id) ts h = tt
printable (reply.StaleMirror id) ts h = tt
printable (reply.NoMirrorId id) ts h = tt
printable (reply.NoComponent id) ts h = tt
printable reply.TooManyMirrors ts h = tt
printable reply.TooManyComponents ts h = tt
printable (reply.DifferAt offset ours theirs) ts h = tt
printable (reply.Sizes ours theirs) ts h = tt
printable (reply.CopyFault failed) ts h = tt
printable (reply.VerifyFault failed) ts h = tt
printable reply.NoObject ts h = tt

pub writable : (text : List ℕ) (c : Call) (rest : List ℕ) → IsFront text c rest → IsWritable c
writable text c rest f = (spellable 32 64 16 c.command f.readable.command, printable c.entry.reply c.entry.takes f.readable.reply)

-- the same, told by what was found
pub front_found : (text line rest behind : List ℕ) (found : Option Head) (h : Head) (q : Reply) (ts : List Take) → text ≡ line ++ 10 ∷ rest → ((k : Head) → ((found ≡ Some k) ↔ (IsHead k × (line ≡ head_line k)))) → found ≡ Some h → StandsFirst h.answer rest q ts behind → IsFront text (call_at h q ts) behind
front_found text line rest behind found h q ts cut spelled is s = let said = (spelled h).0 is in front_of text line rest behind h q ts cut said.0 said.1 s

pub stop_found : (text line rest : List ℕ) (found : Option Head) (h : Head) (error told : TextError) → lines_of text ≡ Some line ∷ lines_of rest → ((k : Head) → ((found ≡ Some k) ↔ (IsHead k × (line ≡ head_line k)))) → found ≡ Some h → StopsAt (Follow h.answer) rest error → told ≡ line_on error → StopsAt AreCallLines text told
stop_found text line rest found h error told first spelled is s e = let said = (spelled h).0 is in subst (λ (x : TextError). StopsAt AreCallLines text x) (sym e) (stop_on text line rest h error first said.0 said.1 s)
