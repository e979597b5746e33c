-- What comes behind a line of a report, and that something always does.
use Rattle.std.proofs.Common.{◌≡◌, ℕ, zero, suc, ◌+◌, ◌<◌, ◌≤◌, List, [], ◌∷◌, ◌++◌, length, map, max, replicate, Option, Some, None, refl, sym, ap, subst, ◌∙◌, append_assoc, arith}
use Rattle.std.specs.List.{AllByRecursion}
use Rattle.std.proofs.lemmas.List.{length-append, length-replicate, length-map}
use Rattle.flr_base.specs.Faults.{Begins, IsFirstFault}
use Rattle.flr_base.specs.Runs.{bytes_of, runs_of}
use Rattle.flr_base.specs.declared.runs.run.Run.{Run}
use Rattle.flr_base.proofs.RunLists.{runs_of-bytes_of}
use Rattle.flr_base.specs.declared.reply.Take.{Take}
use Rattle.text_words.specs.Lines.{lines_of}
use Rattle.layout_text.proofs.FrontLaws.{prefix_free}
use Rattle.report_text.specs.Answers.{take_line, diff_line}
use Rattle.report_text.specs.Texts.{text_of_call, text_of_file}
use Rattle.report_text.specs.declared.report.Call.{Call}
use Rattle.report_text.specs.declared.report.FileLine.{FileLine}
use Rattle.reply_read.specs.declared.answer.Answer.{Answer}
use Rattle.reply_read.specs.declared.answer.Answer.TheVariants as answers
use Rattle.reply_read.specs.Limits.{Has32, IsTake}
use Rattle.call_read.specs.declared.head.Head.{Head}
use Rattle.call_read.specs.Calls.{call_at}
use Rattle.call_read.specs.Following.{Lines, ended, AreDiffLines, Follow, HasNoMore, HasNoTake}
use Rattle.call_read.specs.Heads.{head_line, IsHead}
use Rattle.call_read.proofs.CallLaws.{head_from_call, head_good, one_head, call_behind}
use Rattle.call_read.proofs.Stops.{Leaves}
use Rattle.report_read.specs.Files.{AreFileLines, IsFile}
use Rattle.report_read.specs.Schedules.{IsClientRun, IsSchedule, schedule_line}
use Rattle.report_read.proofs.FileLaws.{file_leaves, first_head, no_lines}
use Rattle.whole_report.specs.Coming.{IsOrdered, Ascend, greatest, call_lines, file_lines, ScheduleComes, FilesCome, CallsCome}
use Rattle.whole_report.specs.Fronts.{MayCome}
use Rattle.whole_report.proofs.CallTexts.{CallTexts, call_texts, call_own, file_own}
use Rattle.whole_report.proofs.Counts.{first_byte, line_back}
use Rattle.whole_report.proofs.Faults.{Then, fault_behind, narrow, IsPrefixFree, free_split, free_leaves, leaves_more}

-- ---- something may come

abbrev clients : ℕ → List Run
clients zero = []
clients (suc n) = record { byte = 1; count = suc n } ∷ []

places : (top : ℕ) → Has32 top → IsSchedule (bytes_of (clients top)) × (top ≤ length (bytes_of (clients top)))
places zero few = (tt, omega arith)
places (suc n) few =
    let back : runs_of (bytes_of (clients (suc n))) ≡ clients (suc n) = runs_of-bytes_of None (clients (suc n)) (omega arith, omega arith, omega (arith, few), (λ e. absurd cc), tt) in
    let one : List ℕ = replicate (suc n) 1 in
    let size = length-append one [] in
    let many : length one ≡ suc n = length-replicate (suc n) 1 in
    (subst (AllByRecursion IsClientRun) (sym back) (((omega arith, omega arith), few), tt), omega (arith, size, many))

schedule_comes : (top : ℕ) → Has32 top → (ys : Lines) × ScheduleComes top ys
schedule_comes top few = let p = places top few in (Some (schedule_line (bytes_of (clients top))) ∷ [], (bytes_of (clients top), p.0, p.1, refl))

pub schedule_begins : (top : ℕ) → Has32 top → Begins (ScheduleComes top) []
schedule_begins top few = let s = schedule_comes top few in (s.0, s.1)

pub files_begin : (top : ℕ) → Has32 top → Begins (FilesCome top) []
files_begin top few = let s = schedule_comes top few in (s.0, ([], s.0, tt, s.1, refl))

pub calls_begin : (after top : ℕ) → Has32 top → Begins (CallsCome after top) []
calls_begin after top few = let s = schedule_comes top few in (s.0, ([], s.0, tt, tt, ([], s.0, tt, s.1, refl), refl))

-- ---- with which bytes lines begin

pub schedule_byte : (top : ℕ) (ys : Lines) → ScheduleComes top ys → first_byte ys ≡ 115
schedule_byte top ys s = ap first_byte s.3

file_byte : (f : FileLine) (more : Lines) → IsFile f → first_byte (lines_of (text_of_file f.name f.size f.layout) ++ more) ≡ 102
file_byte f more h = ap (λ (ys : Lines). first_byte (ys ++ more)) (file_own f h)

call_byte : (c : Call) (more : Lines) → CallTexts c → first_byte (lines_of (text_of_call c.entry c.command) ++ more) ≡ 99
call_byte c more t = ap (λ (ys : Lines). first_byte (ys ++ more)) (call_own c t)

pub files_byte : (top : ℕ) (ys : Lines) → FilesCome top ys → (99 < first_byte ys) × (first_byte ys < 116)
files_byte top ys (fs, more, all, s, e) = by fs all e
  where
    by : (gs : List FileLine) → AllByRecursion IsFile gs → ys ≡ file_lines gs ++ more → (99 < first_byte ys) × (first_byte ys < 116)
    by [] all e = let byte : first_byte ys ≡ 115 = ap first_byte e ∙ schedule_byte top more s in (omega (arith, byte), omega (arith, byte))
    by (g ∷ gs) all e =
        let byte : first_byte ys ≡ 102 = ap first_byte (e ∙ append_assoc (lines_of (text_of_file g.name g.size g.layout)) (file_lines gs) more) ∙ file_byte g (file_lines gs ++ more) all.0 in
        (omega (arith, byte), omega (arith, byte))

pub calls_byte : (after top : ℕ) (ys : Lines) → CallsCome after top ys → (98 < first_byte ys) × (first_byte ys < 116)
calls_byte after top ys (cs, more, points, all, f, e) = by cs all f e
  where
    by : (ds : List Call) → AllByRecursion IsOrdered ds → FilesCome (greatest top ds) more → ys ≡ call_lines ds ++ more → (98 < first_byte ys) × (first_byte ys < 116)
    by [] all f e =
        let same : first_byte ys ≡ first_byte more = ap first_byte e in
        let bytes = files_byte top more f in
        let low = bytes.0 in
        let high = bytes.1 in
        (omega (arith, same, low), omega (arith, same, high))
    by (d ∷ ds) all f e =
        let byte : first_byte ys ≡ 99 = ap first_byte (e ∙ append_assoc (lines_of (text_of_call d.entry d.command)) (call_lines ds) more) ∙ call_byte d (call_lines ds ++ more) (call_texts d all.0.0) in
        (omega (arith, byte), omega (arith, byte))

-- ---- a call's own line

-- the first call has this head
call_then : (h : Head) (after top : ℕ) (c : Call) (cs : List Call) (tail more : Lines) → IsHead h → Ascend after (c ∷ cs) → AllByRecursion IsOrdered (c ∷ cs) → FilesCome (greatest top (c ∷ cs)) more → Some (head_line h) ∷ tail ≡ call_lines (c ∷ cs) ++ more
    → Then (Follow h.answer) (CallsCome h.places.at (max top h.places.last)) tail
call_then h after top c cs tail more good points all files e =
    let t = call_texts c all.0.0 in
    let lines : Some (head_line h) ∷ tail ≡ Some (head_line (head_from_call c)) ∷ (ended t.ls ++ (call_lines cs ++ more)) =
    e ∙ ap (λ (ys : Lines). (ys ++ call_lines cs) ++ more) (call_own c t) ∙ append_assoc (Some (head_line (head_from_call c)) ∷ ended t.ls) (call_lines cs) more in
    let line : head_line h ≡ head_line (head_from_call c) = cc in
    let rest : tail ≡ ended t.ls ++ (call_lines cs ++ more) = cc in
    let same : head_from_call c ≡ h = sym (one_head h (head_from_call c) good (head_good c all.0.0) line) in
    let at : c.entry.at ≡ h.places.at = ap (λ (k : Head). k.places.at) same in
    let last : c.entry.last ≡ h.places.last = ap (λ (k : Head). k.places.last) same in
    let others : CallsCome h.places.at (max top h.places.last) (call_lines cs ++ more) =
    (cs, more, subst (λ (n : ℕ). Ascend n cs) at points.1, all.1, subst (λ (n : ℕ). FilesCome (greatest (max top n) cs) more) last files, refl) in
    (ended t.ls, call_lines cs ++ more, subst (λ (k : Head). Follow k.answer (ended t.ls)) same t.follows, others, rest)

-- behind a call's own line comes what follows its answer, and then what may come behind it
pub head_comes : (h : Head) (after top : ℕ) → IsHead h → MayCome after h.places → Leaves (CallsCome after top) (Some (head_line h) ∷ []) (Then (Follow h.answer) (CallsCome h.places.at (max top h.places.last)))
head_comes h after top good may tail = (forth, back)
  where
    forth_by : (cs : List Call) (more : Lines) → Ascend after cs → AllByRecursion IsOrdered cs → FilesCome (greatest top cs) more → Some (head_line h) ∷ tail ≡ call_lines cs ++ more → Then (Follow h.answer) (CallsCome h.places.at (max top h.places.last)) tail
    forth_by [] more points all files e = let byte : first_byte more ≡ 99 = ap first_byte (sym e) in let low = (files_byte top more files).0 in absurd (omega (arith, byte, low))
    forth_by (c ∷ cs) more points all files e = call_then h after top c cs tail more good points all files e

    forth : CallsCome after top (Some (head_line h) ∷ tail) → Then (Follow h.answer) (CallsCome h.places.at (max top h.places.last)) tail
    forth c = forth_by c.0 c.1 c.2 c.3 c.4 c.5

    back : Then (Follow h.answer) (CallsCome h.places.at (max top h.places.last)) tail → CallsCome after top (Some (head_line h) ∷ tail)
    back (ys, more, f, (cs, rest, points, all, files, e), is) =
        let b = call_behind h ys good f in
        let lines : Some (head_line h) ∷ tail ≡ (lines_of (text_of_call (call_at h b.0 b.1).entry h.command) ++ call_lines cs) ++ rest =
        ap (λ (zs : Lines). Some (head_line h) ∷ zs) (is ∙ ap (λ (zs : Lines). ys ++ zs) e ∙ sym (append_assoc ys (call_lines cs) rest)) ∙ ap (λ (zs : Lines). (zs ++ call_lines cs) ++ rest) (sym b.3) in
        (call_at h b.0 b.1 ∷ cs, rest, (may.0, points), ((b.2, may.1, may.2), all), files, lines)

-- ---- behind an answer

none_left : (ys : Lines) → length ys ≡ 0 → ys ≡ []
none_left [] e = refl
none_left (y ∷ ys) e = absurd (omega (arith, e))

pub whole_free : IsPrefixFree (λ (ys : Lines). ys ≡ [])
whole_free xs more f g = ap (λ (zs : Lines). zs ++ more) (sym f) ∙ g

diffs_size : (n : ℕ) (ys : Lines) → AreDiffLines n ys → length ys ≡ n
diffs_size n ys d = ap length d.3 ∙ length-map (map diff_line d.0) (λ (line : List ℕ). Some line) ∙ length-map d.0 diff_line ∙ d.1

pub diffs_free : (n : ℕ) → IsPrefixFree (AreDiffLines n)
diffs_free n xs more f g =
    let one = diffs_size n xs f in
    let all = diffs_size n (xs ++ more) g in
    let sum = length-append xs more in
    none_left more (omega (arith, one, all, sum))

-- a piece of a read comes first, and behind it further pieces may come
take_leaves : (bytes : List ℕ) (after top : ℕ) (t : Take) → IsTake t → Leaves (Then (Follow (answers.Bytes bytes)) (CallsCome after top)) (Some (take_line t) ∷ []) (Then (Follow (answers.Bytes bytes)) (CallsCome after top))
take_leaves bytes after top t good tail = (forth, back)
  where
    by : (us : List Take) (front more : Lines) → AllByRecursion IsTake us → front ≡ ended (map take_line us) → CallsCome after top more → Some (take_line t) ∷ tail ≡ front ++ more → Then (Follow (answers.Bytes bytes)) (CallsCome after top) tail
    by [] front more all is comes e =
        let byte : first_byte more ≡ 116 = ap first_byte (sym (e ∙ ap (λ (zs : Lines). zs ++ more) is)) in
        let high = (calls_byte after top more comes).1 in
        absurd (omega (arith, byte, high))
    by (u ∷ us) front more all is comes e =
        let lines : Some (take_line t) ∷ tail ≡ Some (take_line u) ∷ (ended (map take_line us) ++ more) = e ∙ ap (λ (zs : Lines). zs ++ more) is in
        (ended (map take_line us), more, (us, all.1, refl), comes, cc)

    forth : Then (Follow (answers.Bytes bytes)) (CallsCome after top) (Some (take_line t) ∷ tail) → Then (Follow (answers.Bytes bytes)) (CallsCome after top) tail
    forth (front, more, (us, all, is), comes, e) = by us front more all is comes e

    back : Then (Follow (answers.Bytes bytes)) (CallsCome after top) tail → Then (Follow (answers.Bytes bytes)) (CallsCome after top) (Some (take_line t) ∷ tail)
    back (front, more, (us, all, is), comes, e) =
        (Some (take_line t) ∷ front, more, (t ∷ us, (good, all), ap (λ (zs : Lines). Some (take_line t) ∷ zs) is), comes, ap (λ (zs : Lines). Some (take_line t) ∷ zs) e)

takes_leave : (bytes : List ℕ) (after top : ℕ) (ts : List Take) → AllByRecursion IsTake ts → Leaves (Then (Follow (answers.Bytes bytes)) (CallsCome after top)) (ended (map take_line ts)) (Then (Follow (answers.Bytes bytes)) (CallsCome after top))
takes_leave bytes after top [] all = λ tail. (λ h. h, λ h. h)
takes_leave bytes after top (t ∷ ts) all =
    let T : Lines → Type 0 = Then (Follow (answers.Bytes bytes)) (CallsCome after top) in
    leaves_more T T T (Some (take_line t)) (ended (map take_line ts)) (take_leaves bytes after top t all.0) (takes_leave bytes after top ts all.1)

-- no further piece comes
no_take : (bytes rest : List ℕ) (after top : ℕ) (y : Option (List ℕ)) (tail zs : Lines) → HasNoTake rest → lines_of rest ≡ y ∷ tail → Then (Follow (answers.Bytes bytes)) (CallsCome after top) (y ∷ zs) → CallsCome after top (y ∷ zs)
no_take bytes rest after top y tail zs none first (front, more, (us, all, is), comes, e) = by us all is
  where
    by : (vs : List Take) → AllByRecursion IsTake vs → front ≡ ended (map take_line vs) → CallsCome after top (y ∷ zs)
    by [] all is = subst (CallsCome after top) (sym (e ∙ ap (λ (ls : Lines). ls ++ more) is)) comes
    by (v ∷ vs) all is =
        let lines : y ∷ zs ≡ Some (take_line v) ∷ (ended (map take_line vs) ++ more) = e ∙ ap (λ (ls : Lines). ls ++ more) is in
        let same : y ≡ Some (take_line v) = cc in
        let b = line_back rest (take_line v) tail (first ∙ ap (λ (l : Option (List ℕ)). l ∷ tail) same) in
        absurd (none v b.0 all.0 b.1)

takes_never : (bytes : List ℕ) (after top : ℕ) → Then (Follow (answers.Bytes bytes)) (CallsCome after top) [] → ⊥
takes_never bytes after top (front, more, f, comes, e) = by front e
  where
    by : (ls : Lines) → [] ≡ ls ++ more → ⊥
    by [] e = let byte : first_byte more ≡ 0 = ap first_byte (sym e) in let low = (calls_byte after top more comes).0 in omega (arith, byte, low)
    by (l ∷ ls) e = cc

-- where all that follows the answer stands first, a fault behind it is one of both
pub behind_goes : (a : Answer) (after top : ℕ) (zs : Lines) (rest : List ℕ) (at : ℕ) → Follow a zs → HasNoMore a rest → IsFirstFault (CallsCome after top) (lines_of rest) at
    → IsFirstFault (Then (Follow a) (CallsCome after top)) (zs ++ lines_of rest) (length zs + at)
behind_goes (answers.Whole r) after top zs rest at f none fault =
    fault_behind (Then (Follow (answers.Whole r)) (CallsCome after top)) (CallsCome after top) zs (lines_of rest) at (free_leaves (Follow (answers.Whole r)) (CallsCome after top) zs whole_free f) fault
behind_goes answers.Layout after top zs rest at f none fault =
    fault_behind (Then (Follow answers.Layout) (CallsCome after top)) (CallsCome after top) zs (lines_of rest) at (free_leaves (Follow answers.Layout) (CallsCome after top) zs prefix_free f) fault
behind_goes (answers.Differ n) after top zs rest at f none fault =
    fault_behind (Then (Follow (answers.Differ n)) (CallsCome after top)) (CallsCome after top) zs (lines_of rest) at (free_leaves (Follow (answers.Differ n)) (CallsCome after top) zs (diffs_free n) f) fault
behind_goes (answers.Bytes bytes) after top zs rest at f none fault =
    let T : Lines → Type 0 = Then (Follow (answers.Bytes bytes)) (CallsCome after top) in
    let here : IsFirstFault T (lines_of rest) at =
    narrow T (CallsCome after top) (lines_of rest) at (λ ys c. ([], ys, ([], tt, refl), c, refl)) (λ y tail ys first h. no_take bytes rest after top y tail ys none first h) (takes_never bytes after top) fault in
    fault_behind T T zs (lines_of rest) at (subst (λ (ys : Lines). Leaves T ys T) (sym f.2) (takes_leave bytes after top f.0 f.1)) here

-- ---- files

pub file_free : IsPrefixFree AreFileLines
file_free [] more f g = absurd (no_lines f)
file_free (y ∷ ys) more f g =
    let h = first_head y ys f in
    prefix_free ys more ((file_leaves h.0 h.1 ys).0 (subst (λ (z : Option (List ℕ)). AreFileLines (z ∷ ys)) h.2 f)) ((file_leaves h.0 h.1 (ys ++ more)).0 (subst (λ (z : Option (List ℕ)). AreFileLines (z ∷ (ys ++ more))) h.2 g))

-- behind a file comes what may come before it
pub file_comes : (f : FileLine) (top : ℕ) → IsFile f → Leaves (FilesCome top) (lines_of (text_of_file f.name f.size f.layout)) (FilesCome top)
file_comes f top good tail = (forth, back)
  where
    by : (gs : List FileLine) (more : Lines) → AllByRecursion IsFile gs → ScheduleComes top more → lines_of (text_of_file f.name f.size f.layout) ++ tail ≡ file_lines gs ++ more → FilesCome top tail
    by [] more all s e =
        let byte : first_byte more ≡ 102 = ap first_byte (sym e) ∙ file_byte f tail good in
        let last = schedule_byte top more s in
        absurd (omega (arith, byte, last))
    by (g ∷ gs) more all s e =
        let other : Lines = lines_of (text_of_file g.name g.size g.layout) in
        let parts = free_split AreFileLines file_free (lines_of (text_of_file f.name f.size f.layout)) tail other (file_lines gs ++ more) (f, good, refl) (g, all.0, refl) (e ∙ append_assoc other (file_lines gs) more) in
        (gs, more, all.1, s, parts.1)

    forth : FilesCome top (lines_of (text_of_file f.name f.size f.layout) ++ tail) → FilesCome top tail
    forth h = by h.0 h.1 h.2 h.3 h.4

    back : FilesCome top tail → FilesCome top (lines_of (text_of_file f.name f.size f.layout) ++ tail)
    back (gs, more, all, s, e) =
        let other : Lines = lines_of (text_of_file f.name f.size f.layout) in
        (f ∷ gs, more, (good, all), s, ap (λ (zs : Lines). other ++ zs) e ∙ sym (append_assoc other (file_lines gs) more))
