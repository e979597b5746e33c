-- A text is that of one report.
use Rattle.std.proofs.Common.{◌≡◌, ℕ, ◌<◌, List, [], ◌∷◌, ◌++◌, map, Option, Some, Result, Ok, Err, refl, sym, ap, subst, ◌∙◌, append_assoc, arith}
use Rattle.std.specs.Prelude.{MatchResult}
use Rattle.std.specs.List.{AllByRecursion}
use Rattle.std.proofs.lemmas.List.{append_cancel_left}
use Rattle.flr_base.specs.declared.reply.Diff.{Diff}
use Rattle.flr_base.specs.declared.reply.Reply.{Reply}
use Rattle.flr_base.specs.declared.reply.Reply.TheVariants as reply
use Rattle.flr_base.specs.declared.reply.Take.{Take}
use Rattle.text_words.specs.Lines.{lines_of, text_of}
use Rattle.text_words.proofs.LineLaws.{lines-text, text-lines}
use Rattle.composite_layout.specs.Layouts.{Composite}
use Rattle.layout_text.specs.Spelling.{IsNoMemory}
use Rattle.layout_text.specs.Texts.{component_line, text_of_layout}
use Rattle.layout_text.specs.Texts as layouts
use Rattle.layout_text.specs.declared.error.TextError.{TextError}
use Rattle.layout_text.specs.declared.error.TextError.TheVariants.{Bad, NoMemory}
use Rattle.layout_text.proofs.FrontLaws.{prefix_free}
use Rattle.layout_text.proofs.WordLaws.{lines_of-layout}
use Rattle.report_text.specs.Answers.{take_line, diff_line, following_text}
use Rattle.report_text.specs.Texts.{head_text, text_of_call, text_of_calls, text_of_file, text_of_files, text_of_schedule, text_of_report}
use Rattle.report_text.specs.declared.report.Call.{Call}
use Rattle.report_text.specs.declared.report.FileLine.{FileLine}
use Rattle.report_text.specs.declared.report.Report.{Report}
use Rattle.reply_read.specs.declared.answer.Answer.{Answer}
use Rattle.reply_read.specs.declared.answer.Answer.TheVariants as answers
use Rattle.reply_read.specs.Limits.{IsTake, IsDiff}
use Rattle.reply_read.specs.Replies.{take_of, diff_of}
use Rattle.reply_read.proofs.LineLaws.{take_spelled, diff_spelled}
use Rattle.call_read.specs.declared.head.Head.{Head}
use Rattle.call_read.specs.Calls.{answer_from, call_at, IsReadable, IsReply}
use Rattle.call_read.specs.Following.{Lines, ended, Becomes, Follow, text_behind}
use Rattle.call_read.specs.Heads.{head_line}
use Rattle.call_read.proofs.CallLaws.{answer_good, diffs_lack, head_from_call, head_good, one_head, takes_lack, text_of_it}
use Rattle.report_read.specs.Files.{IsFile}
use Rattle.report_read.specs.Schedules.{IsSchedule, schedule_line}
use Rattle.report_read.proofs.FileLaws.{one_file}
use Rattle.report_read.proofs.ScheduleLaws.{one_schedule}
use Rattle.whole_report.specs.Coming.{IsOrdered}
use Rattle.whole_report.specs.Reports.{IsReport, Spells, IsReportFault}
use Rattle.whole_report.proofs.CallTexts.{call_texts, call_first, file_first, schedule_own, report_parts}
use Rattle.whole_report.proofs.Comings.{whole_free, diffs_free}
use Rattle.whole_report.proofs.Counts.{first_byte}
use Rattle.whole_report.proofs.Faults.{free_split}

-- ---- lines behind an answer

one_take : (t u : Take) → IsTake t → IsTake u → take_line t ≡ take_line u → t ≡ u
one_take t u good fine e =
    let spelled = take_spelled {E = Unit {0}} (take_line t) (Ok (take_of (take_line t))) refl in
    let both : Some t ≡ Some u = sym ((spelled t).1 (good, refl)) ∙ (spelled u).1 (fine, e) in
    cc

one_diff : (d x : Diff) → IsDiff d → IsDiff x → diff_line d ≡ diff_line x → d ≡ x
one_diff d x good fine e =
    let spelled = diff_spelled {E = Unit {0}} (diff_line d) (Ok (diff_of (diff_line d))) refl in
    let both : Some d ≡ Some x = sym ((spelled d).1 (good, refl)) ∙ (spelled x).1 (fine, e) in
    cc

-- items whose lines are the same are the same
same_items : {A : Type 0} (P : A → Type 0) (line : A → List ℕ) → ((x y : A) → P x → P y → line x ≡ line y → x ≡ y) → (xs ys : List A) → AllByRecursion P xs → AllByRecursion P ys → ended (map line xs) ≡ ended (map line ys) → xs ≡ ys
same_items P line one [] [] all every e = refl
same_items P line one [] (y ∷ ys) all every e = absurd cc
same_items P line one (x ∷ xs) [] all every e = absurd cc
same_items {A} P line one (x ∷ xs) (y ∷ ys) all every e =
    let first : line x ≡ line y = cc in
    let others : ended (map line xs) ≡ ended (map line ys) = cc in
    ap (λ (z : A). z ∷ xs) (one x y all.0 every.0 first) ∙ ap (λ (zs : List A). y ∷ zs) (same_items P line one xs ys all.1 every.1 others)

-- pieces of a read, as many as there are
takes_split : (ts us : List Take) (more rest : Lines) → first_byte more < 116 → first_byte rest < 116 → ended (map take_line ts) ++ more ≡ ended (map take_line us) ++ rest → (ended (map take_line ts) ≡ ended (map take_line us)) × (more ≡ rest)
takes_split [] [] more rest low high e = (refl, e)
takes_split [] (u ∷ us) more rest low high e = let byte : first_byte more ≡ 116 = ap first_byte e in absurd (omega (arith, byte, low))
takes_split (t ∷ ts) [] more rest low high e = let byte : first_byte rest ≡ 116 = ap first_byte (sym e) in absurd (omega (arith, byte, high))
takes_split (t ∷ ts) (u ∷ us) more rest low high e =
    let first : Some (take_line t) ≡ Some (take_line u) = cc in
    let others : ended (map take_line ts) ++ more ≡ ended (map take_line us) ++ rest = cc in
    let s = takes_split ts us more rest low high others in
    (ap (λ (l : Option (List ℕ)). l ∷ ended (map take_line ts)) first ∙ ap (λ (ls : Lines). Some (take_line u) ∷ ls) s.0, s.1)

-- lines behind an answer end in one place
one_following : (a : Answer) (zs ws more rest : Lines) → Follow a zs → Follow a ws → first_byte more < 116 → first_byte rest < 116 → zs ++ more ≡ ws ++ rest → (zs ≡ ws) × (more ≡ rest)
one_following (answers.Whole r) zs ws more rest f g low high e = free_split (Follow (answers.Whole r)) whole_free zs more ws rest f g e
one_following answers.Layout zs ws more rest f g low high e = free_split (Follow answers.Layout) prefix_free zs more ws rest f g e
one_following (answers.Differ n) zs ws more rest f g low high e = free_split (Follow (answers.Differ n)) (diffs_free n) zs more ws rest f g e
one_following (answers.Bytes bytes) zs ws more rest f g low high e =
    let s = takes_split f.0 g.0 more rest low high (ap (λ (ls : Lines). ls ++ more) (sym f.2) ∙ e ∙ ap (λ (ls : Lines). ls ++ rest) g.2) in
    (f.2 ∙ s.0 ∙ sym g.2, s.1)

-- ---- replies

becomes_own : (r : Reply) (ts : List Take) → IsReply r ts → Becomes (answer_from r) r ts
becomes_own reply.Created ts h = (refl, h.1)
becomes_own (reply.Layout text) ts h = ((h.0.0, h.0.1.0, ap (λ (t : List ℕ). reply.Layout t) h.0.1.1), h.1)
becomes_own reply.Set ts h = (refl, h.1)
becomes_own (reply.Split name) ts h = (refl, h.1)
becomes_own (reply.Removed id) ts h = (refl, h.1)
becomes_own (reply.EvictedClient client) ts h = (refl, h.1)
becomes_own (reply.Bytes bytes) ts h = (refl, h.1)
becomes_own reply.Written ts h = (refl, h.1)
becomes_own reply.Truncated ts h = (refl, h.1)
becomes_own (reply.Copied cleared left) ts h = (refl, h.1)
becomes_own (reply.Merged ids) ts h = (refl, h.1)
becomes_own (reply.Same blocks) ts h = (refl, h.1)
becomes_own (reply.Differ diffs) ts h = ((diffs, refl, h.0.1, refl), h.1)
becomes_own reply.Rotted ts h = (refl, h.1)
becomes_own (reply.NoFile name) ts h = (refl, h.1)
becomes_own (reply.Exists name) ts h = (refl, h.1)
becomes_own reply.TooManyFiles ts h = (refl, h.1)
becomes_own reply.TooBig ts h = (refl, h.1)
becomes_own (reply.NoPrimary range) ts h = (refl, h.1)
becomes_own (reply.AllOffline byte) ts h = (refl, h.1)
becomes_own (reply.Fault byte calls) ts h = (refl, h.1)
becomes_own (reply.WriteFault failed) ts h = (refl, h.1)
becomes_own (reply.Evicted place) ts h = (refl, h.1)
becomes_own (reply.Busy client) ts h = (refl, h.1)
becomes_own (reply.Broken place) ts h = (refl, h.1)
becomes_own (reply.LastFresh id) ts h = (refl, h.1)
becomes_own (reply.StaleMirror id) ts h = (refl, h.1)
becomes_own (reply.NoMirrorId id) ts h = (refl, h.1)
becomes_own (reply.NoComponent id) ts h = (refl, h.1)
becomes_own reply.TooManyMirrors ts h = (refl, h.1)
becomes_own reply.TooManyComponents ts h = (refl, h.1)
becomes_own (reply.DifferAt offset ours theirs) ts h = (refl, h.1)
becomes_own (reply.Sizes ours theirs) ts h = (refl, h.1)
becomes_own (reply.CopyFault failed) ts h = (refl, h.1)
becomes_own (reply.VerifyFault failed) ts h = (refl, h.1)
becomes_own reply.NoObject ts h = (refl, h.1)

told : (a : Answer) (q : Reply) (ts : List Take) → IsReply q ts → answer_from q ≡ a → Becomes a q ts × (following_text q ts ≡ text_behind a q ts)
told a q ts h e = subst (λ (x : Answer). Becomes x q ts × (following_text q ts ≡ text_behind x q ts)) e (becomes_own q ts h, text_of_it (answer_from q) q ts (answer_good q ts h) (becomes_own q ts h))

-- an answer and the lines behind it are those of one reply
one_becomes : (a : Answer) (q p : Reply) (ts us : List Take) → Becomes a q ts → Becomes a p us → lines_of (text_behind a q ts) ≡ lines_of (text_behind a p us) → (q ≡ p) × (ts ≡ us)
one_becomes (answers.Whole r) q p ts us b d e = (b.0 ∙ sym d.0, b.1 ∙ sym d.1)
one_becomes answers.Layout q p ts us b d e =
    let l : Composite = b.0.0 in
    let m : Composite = d.0.0 in
    let lines : lines_of (text_of_layout l) ≡ lines_of (text_of_layout m) = ap (λ (x : Reply). lines_of (following_text x ts)) (sym b.0.2) ∙ e ∙ ap (λ (x : Reply). lines_of (following_text x us)) d.0.2 in
    let same : text_of_layout l ≡ text_of_layout m = text-lines (text_of_layout l) (layouts.head_line m ∷ map component_line m.components) (lines ∙ lines_of-layout m) in
    (b.0.2 ∙ ap (λ (t : List ℕ). reply.Layout t) same ∙ sym d.0.2, b.1 ∙ sym d.1)
one_becomes (answers.Bytes bytes) q p ts us b d e =
    let lines : lines_of (text_of (map take_line ts)) ≡ lines_of (text_of (map take_line us)) = ap (λ (x : Reply). lines_of (following_text x ts)) (sym b.0) ∙ e ∙ ap (λ (x : Reply). lines_of (following_text x us)) d.0 in
    let same : ended (map take_line ts) ≡ ended (map take_line us) = sym (lines-text (map take_line ts) (takes_lack ts b.1)) ∙ lines ∙ lines-text (map take_line us) (takes_lack us d.1) in
    (b.0 ∙ sym d.0, same_items IsTake take_line one_take ts us b.1 d.1 same)
one_becomes (answers.Differ n) q p ts us b d e =
    let ds : List Diff = b.0.0 in
    let xs : List Diff = d.0.0 in
    let lines : lines_of (text_of (map diff_line ds)) ≡ lines_of (text_of (map diff_line xs)) = ap (λ (x : Reply). lines_of (following_text x ts)) (sym b.0.3) ∙ e ∙ ap (λ (x : Reply). lines_of (following_text x us)) d.0.3 in
    let same : ended (map diff_line ds) ≡ ended (map diff_line xs) = sym (lines-text (map diff_line ds) (diffs_lack ds b.0.2)) ∙ lines ∙ lines-text (map diff_line xs) (diffs_lack xs d.0.2) in
    (b.0.3 ∙ ap (λ (ys : List Diff). reply.Differ ys) (same_items IsDiff diff_line one_diff ds xs b.0.2 d.0.2 same) ∙ sym d.0.3, b.1 ∙ sym d.1)

-- ---- calls

one_call : (c d : Call) (rest more : List ℕ) → IsReadable c → IsReadable d → first_byte (lines_of rest) < 116 → first_byte (lines_of more) < 116 → text_of_call c.entry c.command ++ rest ≡ text_of_call d.entry d.command ++ more → (c ≡ d) × (rest ≡ more)
one_call c d rest more good fine low high e =
    let t = call_texts c good in
    let u = call_texts d fine in
    let h : Head = head_from_call c in
    let k : Head = head_from_call d in
    let lines : Some (head_line h) ∷ (ended t.ls ++ lines_of rest) ≡ Some (head_line k) ∷ (ended u.ls ++ lines_of more) = sym (call_first c t rest) ∙ ap lines_of e ∙ call_first d u more in
    let line : head_line h ≡ head_line k = cc in
    let tails : ended t.ls ++ lines_of rest ≡ ended u.ls ++ lines_of more = cc in
    let heads : h ≡ k = one_head h k (head_good c good) (head_good d fine) line in
    let answer : answer_from d.entry.reply ≡ answer_from c.entry.reply = ap (λ (x : Head). x.answer) (sym heads) in
    let a : Answer = answer_from c.entry.reply in
    let split = one_following a (ended t.ls) (ended u.ls) (lines_of rest) (lines_of more) t.follows (subst (λ (x : Answer). Follow x (ended u.ls)) answer u.follows) low high tails in
    let one = told a c.entry.reply c.entry.takes good.reply refl in
    let other = told a d.entry.reply d.entry.takes fine.reply answer in
    let same = one_becomes a c.entry.reply d.entry.reply c.entry.takes d.entry.takes one.0 other.0 (ap lines_of (sym one.1) ∙ t.behind ∙ split.0 ∙ sym u.behind ∙ ap lines_of other.1) in
    let call : c ≡ d = ap (λ (x : Head). call_at x c.entry.reply c.entry.takes) heads ∙ ap (λ (x : Reply). call_at k x c.entry.takes) same.0 ∙ ap (λ (x : List Take). call_at k d.entry.reply x) same.1 in
    (call, append_cancel_left (text_of_call d.entry d.command) rest more (ap (λ (x : Call). text_of_call x.entry x.command ++ rest) (sym call) ∙ e))

-- lines behind calls begin with other bytes
abbrev Behind : List ℕ → Type 0
Behind text = (99 < first_byte (lines_of text)) × (first_byte (lines_of text) < 116)

first_call : (c : Call) (cs : List Call) (rest : List ℕ) → IsReadable c → first_byte (lines_of (text_of_calls (c ∷ cs) ++ rest)) ≡ 99
first_call c cs rest good = ap (λ (xs : List ℕ). first_byte (lines_of xs)) (append_assoc (text_of_call c.entry c.command) (text_of_calls cs) rest) ∙ ap first_byte (call_first c (call_texts c good) (text_of_calls cs ++ rest))

calls_low : (cs : List Call) (rest : List ℕ) → AllByRecursion IsOrdered cs → Behind rest → first_byte (lines_of (text_of_calls cs ++ rest)) < 116
calls_low [] rest all b = b.1
calls_low (c ∷ cs) rest all b = let byte = first_call c cs rest all.0.0 in omega (arith, byte)

one_calls : (cs ds : List Call) (rest more : List ℕ) → AllByRecursion IsOrdered cs → AllByRecursion IsOrdered ds → Behind rest → Behind more → text_of_calls cs ++ rest ≡ text_of_calls ds ++ more → (cs ≡ ds) × (rest ≡ more)
one_calls [] [] rest more all every b o e = (refl, e)
one_calls [] (d ∷ ds) rest more all every b o e = let byte : first_byte (lines_of rest) ≡ 99 = ap (λ (xs : List ℕ). first_byte (lines_of xs)) e ∙ first_call d ds more every.0.0 in let low = b.0 in absurd (omega (arith, byte, low))
one_calls (c ∷ cs) [] rest more all every b o e = let byte : first_byte (lines_of more) ≡ 99 = ap (λ (xs : List ℕ). first_byte (lines_of xs)) (sym e) ∙ first_call c cs rest all.0.0 in let low = o.0 in absurd (omega (arith, byte, low))
one_calls (c ∷ cs) (d ∷ ds) rest more all every b o e =
    let texts : text_of_call c.entry c.command ++ (text_of_calls cs ++ rest) ≡ text_of_call d.entry d.command ++ (text_of_calls ds ++ more) =
    sym (append_assoc (text_of_call c.entry c.command) (text_of_calls cs) rest) ∙ e ∙ append_assoc (text_of_call d.entry d.command) (text_of_calls ds) more in
    let first = one_call c d (text_of_calls cs ++ rest) (text_of_calls ds ++ more) all.0.0 every.0.0 (calls_low cs rest all.1 b) (calls_low ds more every.1 o) texts in
    let others = one_calls cs ds rest more all.1 every.1 b o first.1 in
    (ap (λ (x : Call). x ∷ cs) first.0 ∙ ap (λ (xs : List Call). d ∷ xs) others.0, others.1)

-- ---- files and the schedule

first_schedule : (schedule : List ℕ) → first_byte (lines_of (text_of_schedule schedule)) ≡ 115
first_schedule schedule = ap first_byte (schedule_own schedule)

first_file : (f : FileLine) (fs : List FileLine) (rest : List ℕ) → IsFile f → first_byte (lines_of (text_of_files (f ∷ fs) ++ rest)) ≡ 102
first_file f fs rest is = ap (λ (xs : List ℕ). first_byte (lines_of xs)) (append_assoc (text_of_file f.name f.size f.layout) (text_of_files fs) rest) ∙ ap first_byte (file_first f (text_of_files fs ++ rest) is)

files_behind : (fs : List FileLine) (schedule : List ℕ) → AllByRecursion IsFile fs → Behind (text_of_files fs ++ text_of_schedule schedule)
files_behind [] schedule all = let byte = first_schedule schedule in (omega (arith, byte), omega (arith, byte))
files_behind (f ∷ fs) schedule all = let byte = first_file f fs (text_of_schedule schedule) all.0 in (omega (arith, byte), omega (arith, byte))

one_files : (fs gs : List FileLine) (schedule other : List ℕ) → AllByRecursion IsFile fs → AllByRecursion IsFile gs → IsSchedule schedule → IsSchedule other → text_of_files fs ++ text_of_schedule schedule ≡ text_of_files gs ++ text_of_schedule other → (fs ≡ gs) × (schedule ≡ other)
one_files [] [] schedule other all every good fine e =
    let lines : Some (schedule_line schedule) ∷ [] ≡ Some (schedule_line other) ∷ [] = sym (schedule_own schedule) ∙ ap lines_of e ∙ schedule_own other in
    (refl, one_schedule schedule other good fine cc)
one_files [] (g ∷ gs) schedule other all every good fine e =
    let file = first_file g gs (text_of_schedule other) every.0 in
    let byte = first_schedule schedule in
    let same : first_byte (lines_of (text_of_schedule schedule)) ≡ first_byte (lines_of (text_of_files (g ∷ gs) ++ text_of_schedule other)) = ap (λ (xs : List ℕ). first_byte (lines_of xs)) e in
    absurd (omega (arith, file, byte, same))
one_files (f ∷ fs) [] schedule other all every good fine e =
    let file = first_file f fs (text_of_schedule schedule) all.0 in
    let byte = first_schedule other in
    let same : first_byte (lines_of (text_of_files (f ∷ fs) ++ text_of_schedule schedule)) ≡ first_byte (lines_of (text_of_schedule other)) = ap (λ (xs : List ℕ). first_byte (lines_of xs)) e in
    absurd (omega (arith, file, byte, same))
one_files (f ∷ fs) (g ∷ gs) schedule other all every good fine e =
    let one : List ℕ = text_of_files fs ++ text_of_schedule schedule in
    let two : List ℕ = text_of_files gs ++ text_of_schedule other in
    let texts : text_of_file f.name f.size f.layout ++ one ≡ text_of_file g.name g.size g.layout ++ two =
    sym (append_assoc (text_of_file f.name f.size f.layout) (text_of_files fs) (text_of_schedule schedule)) ∙ e ∙ append_assoc (text_of_file g.name g.size g.layout) (text_of_files gs) (text_of_schedule other) in
    let first = one_file (text_of_file f.name f.size f.layout ++ one) f g one two (all.0, refl) (every.0, texts) in
    let others = one_files fs gs schedule other all.1 every.1 good fine first.1 in
    (ap (λ (x : FileLine). x ∷ fs) first.0 ∙ ap (λ (xs : List FileLine). g ∷ xs) others.0, others.1)

-- ---- reports

abbrev made : List Call → List FileLine → List ℕ → Report
made calls files schedule = record { calls = calls; files = files; schedule = schedule }

pub one_report : (r s : Report) → IsReport r → IsReport s → text_of_report r ≡ text_of_report s → r ≡ s
one_report r s is too e =
    let one : List ℕ = text_of_files r.files ++ text_of_schedule r.schedule in
    let two : List ℕ = text_of_files s.files ++ text_of_schedule s.schedule in
    let behind : text_of_calls r.calls ++ one ≡ text_of_calls s.calls ++ two = append_cancel_left head_text (text_of_calls r.calls ++ one) (text_of_calls s.calls ++ two) (sym (report_parts r) ∙ e ∙ report_parts s) in
    let calls = one_calls r.calls s.calls one two is.calls too.calls (files_behind r.files r.schedule is.files) (files_behind s.files s.schedule too.files) behind in
    let files = one_files r.files s.files r.schedule s.schedule is.files too.files is.schedule too.schedule calls.1 in
    ap (λ (x : List Call). made x r.files r.schedule) calls.0 ∙ ap (λ (x : List FileLine). made s.calls x r.schedule) files.0 ∙ ap (λ (x : List ℕ). made s.calls s.files x) files.1

-- what is spelled is read
pub again_law : (text : List ℕ) (r : Result Report TextError) → MatchResult r (Spells text) (IsReportFault text) → (report : Report) → Spells text report → MatchResult r (λ found. found ≡ report) IsNoMemory
again_law text (Ok found) h report s = one_report found report h.0 s.0 (sym h.1 ∙ s.1)
again_law text (Err (Bad line)) h report s = h.1.none (report, s.0, ap lines_of s.1)
again_law text (Err NoMemory) h report s = tt
