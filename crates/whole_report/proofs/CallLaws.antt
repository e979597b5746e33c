-- Calls of a report, one after another.
use Rattle.std.proofs.Common.{◌≡◌, ℕ, suc, ◌+◌, ◌-◌, ◌<◌, Bool, true, false, eqb, List, [], ◌∷◌, ◌++◌, length, max, take, Option, Some, None, refl, sym, ap, subst, ◌∙◌, append_assoc, arith}
use Rattle.std.specs.Prelude.{◌↔◌, IsTrue}
use Rattle.std.specs.List.{AllByRecursion, flat_map}
use Rattle.std.proofs.lemmas.Bool.{eqb-true}
use Rattle.std.proofs.lemmas.Grind.{flat_map-append}
use Rattle.std.proofs.lemmas.List.{append-nil}
use Rattle.flr_base.specs.Faults.{IsFirstFault}
use Rattle.flr_base.specs.declared.reply.Reply.{Reply}
use Rattle.flr_base.specs.declared.reply.Take.{Take}
use Rattle.flr_base.proofs.Lists.{all_append}
use Rattle.text_words.specs.Lines.{lines_of, unended}
use Rattle.layout_text.specs.declared.error.TextError.{TextError}
use Rattle.layout_text.specs.declared.error.TextError.TheVariants.{Bad, NoMemory}
use Rattle.report_text.specs.Texts.{text_of_call, text_of_calls}
use Rattle.report_text.specs.declared.report.Call.{Call}
use Rattle.reply_read.specs.Limits.{Has32}
use Rattle.call_read.specs.declared.head.Head.{Head}
use Rattle.call_read.specs.Calls.{answer_from, call_at}
use Rattle.call_read.specs.Following.{Lines, ended, StopsAt, Follow, StandsFirst}
use Rattle.call_read.specs.Heads.{head_line, IsHead}
use Rattle.call_read.proofs.CallLaws.{head_from_call, head_good, front_of, head_lacks}
use Rattle.call_read.proofs.FollowLaws.{not_unended}
use Rattle.call_read.proofs.Stops.{stop_here}
use Rattle.whole_report.specs.Coming.{IsOrdered, Ascend, greatest, call_lines, FilesCome, CallsCome}
use Rattle.whole_report.specs.Fronts.{begins, ends, further, MayCome, SaysHead, CallStands, CallFault, CallsStand}
use Rattle.whole_report.specs.Reports.{FaultsAt}
use Rattle.whole_report.proofs.CallTexts.{call_texts, call_first, call_own, call_ends}
use Rattle.whole_report.proofs.Comings.{calls_begin, files_byte, calls_byte, head_comes, behind_goes}
use Rattle.whole_report.proofs.Counts.{ends_append, shorter, byte_of, first_byte, begins_first}
use Rattle.whole_report.proofs.Further.{fault_further, line_further}
use Rattle.whole_report.proofs.Faults.{Then, fault_behind, stop_then, narrow}

-- ---- the line of a call

-- its places may come after this one
pub may_say : (after : ℕ) (line : List ℕ) (found : Option Head) (h k : Head) (may : Bool) → ((x : Head) → ((found ≡ Some x) ↔ (IsHead x × (line ≡ head_line x)))) → found ≡ Some h → (IsTrue may ↔ MayCome after h.places) → may ≡ true → ((Some h ≡ Some k) ↔ SaysHead after line k)
may_say after line found h k may spelled is test can = (forth, λ s. sym is ∙ (spelled k).1 (s.0, s.2))
  where
    forth : Some h ≡ Some k → SaysHead after line k
    forth e =
        let said = (spelled h).0 is in
        let same : h ≡ k = cc in
        subst (SaysHead after line) same (said.0, test.0 can, said.1)

-- ---- the first call

-- where a text begins with c, calls come with the line of a call
call_heads : (after top : ℕ) (text : List ℕ) (y : Option (List ℕ)) (tail more : Lines) → begins 99 text ≡ true → lines_of text ≡ y ∷ tail → CallsCome after top (y ∷ more) → (h : Head) × IsHead h × MayCome after h.places × (y ≡ Some (head_line h))
call_heads after top text y tail more begin first (cs, rest, points, all, files, e) = by cs points all files e
  where
    by : (ds : List Call) → Ascend after ds → AllByRecursion IsOrdered ds → FilesCome (greatest top ds) rest → y ∷ more ≡ call_lines ds ++ rest → (h : Head) × IsHead h × MayCome after h.places × (y ≡ Some (head_line h))
    by [] points all files e =
        let bytes = files_byte top rest files in
        let low = bytes.0 in
        let here : first_byte rest ≡ byte_of y = ap first_byte (sym e) in
        let some : 0 < byte_of y = omega (arith, here, low) in
        let same : eqb (byte_of y) 99 ≡ true = sym (begins_first 99 (byte_of y) text (ap first_byte first) some) ∙ begin in
        let is : byte_of y ≡ 99 = eqb-true (byte_of y) 99 same in
        absurd (omega (arith, here, low, is))
    by (d ∷ ds) points all files e =
        let t = call_texts d all.0.0 in
        let lines : y ∷ more ≡ Some (head_line (head_from_call d)) ∷ ((ended t.ls ++ call_lines ds) ++ rest) = e ∙ ap (λ (ls : Lines). (ls ++ call_lines ds) ++ rest) (call_own d t) in
        (head_from_call d, head_good d all.0.0, (points.0, all.0.1, all.0.2), cc)

stop_first : (after : ℕ) (text : List ℕ) → begins 99 text ≡ true → ((h : Head) (tail : Lines) → IsHead h → MayCome after h.places → lines_of text ≡ Some (head_line h) ∷ tail → ⊥) → CallFault after text (Bad 1)
stop_first after text begin none = λ top few.
    let stop = stop_here (CallsCome after top) (lines_of text) (calls_begin after top few)
    (λ c. let low = (calls_byte after top [] c).0 in omega (arith, low))
    (λ y tail more first c. let h = call_heads after top text y tail more begin first c in none h.0 tail h.1 h.2 (first ∙ ap (λ (l : Option (List ℕ)). l ∷ tail) h.3)) in
    (0, stop.fault, omega arith)

pub no_line : (after : ℕ) (text : List ℕ) → begins 99 text ≡ true → lines_of text ≡ unended text → CallFault after text (Bad 1)
no_line after text begin none = stop_first after text begin (λ h tail good may e. not_unended text (head_line h) tail (sym none ∙ e))

pub no_head : (after : ℕ) (text line rest : List ℕ) (found : Option Head) → begins 99 text ≡ true → lines_of text ≡ Some line ∷ lines_of rest → ((h : Head) → ((found ≡ Some h) ↔ SaysHead after line h)) → found ≡ None → CallFault after text (Bad 1)
no_head after text line rest found begin first spelled is = stop_first after text begin (λ h tail good may e.
    let lines : Some line ∷ lines_of rest ≡ Some (head_line h) ∷ tail = sym first ∙ e in
    let same : line ≡ head_line h = cc in
    let clash : None ≡ Some h = sym is ∙ (spelled h).1 (good, may, same) in
    absurd cc)

-- what follows doesn't go on
pub stop_found : (after : ℕ) (text line rest : List ℕ) (found : Option Head) (h : Head) (error told : TextError) → text ≡ line ++ 10 ∷ rest → ((k : Head) → ((found ≡ Some k) ↔ SaysHead after line k)) → found ≡ Some h
    → StopsAt (Follow h.answer) rest error → told ≡ further (ends (take (length text - length rest) text)) error → CallFault after text told
stop_found after text line rest found h error told cut spelled is s e = subst (CallFault after text) (sym e) (by error s)
  where
    said : SaysHead after line h
    said = (spelled h).0 is

    by : (x : TextError) → StopsAt (Follow h.answer) rest x → CallFault after text (further (ends (take (length text - length rest) text)) x)
    by NoMemory s = tt
    by (Bad number) s = λ top few.
        let last = said.0.places.last in
        let behind : Lines → Type 0 = CallsCome h.places.at (max top h.places.last) in
        let fault = stop_then (Follow h.answer) behind (lines_of rest) s.0 (calls_begin h.places.at (max top h.places.last) (omega (arith, few, last))) s.1 in
        line_further (CallsCome after top) (Then (Follow h.answer) behind) text line rest (head_line h) number cut said.2 (head_lacks h said.0) (head_comes h after top said.0 said.1) (s.0, fault, s.2)

-- the call stands
pub call_found : (after : ℕ) (text line rest behind : List ℕ) (found : Option Head) (h : Head) (q : Reply) (ts : List Take) → text ≡ line ++ 10 ∷ rest → ((k : Head) → ((found ≡ Some k) ↔ SaysHead after line k)) → found ≡ Some h → StandsFirst h.answer rest q ts behind
    → CallStands after text (call_at h q ts) behind
call_found after text line rest behind found h q ts cut spelled is s =
    let said = (spelled h).0 is in
    (front_of text line rest behind h q ts cut said.0 said.2 s, said.1)

-- ---- behind a call

call_goes : (after : ℕ) (text : List ℕ) (c : Call) (rest : List ℕ) → CallStands after text c rest → (top at : ℕ) → IsFirstFault (CallsCome c.entry.at (max top c.entry.last)) (lines_of rest) at → IsFirstFault (CallsCome after top) (lines_of text) (ends (text_of_call c.entry c.command) + at)
call_goes after text c rest s top at fault =
    let readable = s.0.readable in
    let h : Head = head_from_call c in
    let t = call_texts c readable in
    let T : Lines → Type 0 = Then (Follow (answer_from c.entry.reply)) (CallsCome c.entry.at (max top c.entry.last)) in
    let behind : IsFirstFault T (ended t.ls ++ lines_of rest) (length (ended t.ls) + at) = behind_goes (answer_from c.entry.reply) c.entry.at (max top c.entry.last) (ended t.ls) rest at t.follows s.0.longest fault in
    let whole : IsFirstFault (CallsCome after top) (Some (head_line h) ∷ (ended t.ls ++ lines_of rest)) (1 + (length (ended t.ls) + at)) =
    fault_behind (CallsCome after top) T (Some (head_line h) ∷ []) (ended t.ls ++ lines_of rest) (length (ended t.ls) + at) (head_comes h after top (head_good c readable) s.1) behind in
    let count = call_ends c t in
    let place : 1 + (length (ended t.ls) + at) ≡ ends (text_of_call c.entry c.command) + at = omega (arith, count) in
    let lines : Some (head_line h) ∷ (ended t.ls ++ lines_of rest) ≡ lines_of text = sym (ap lines_of s.0.parts ∙ call_first c t rest) in
    subst (λ (n : ℕ). IsFirstFault (CallsCome after top) (lines_of text) n) place (subst (λ (ys : Lines). IsFirstFault (CallsCome after top) ys (1 + (length (ended t.ls) + at))) lines whole)

-- ---- calls, one after another

pub record CallsSoFar (text : List ℕ) (cs : List Call) (after top : ℕ) (rest : List ℕ) : Type 0 where
  pub all : AllByRecursion IsOrdered cs
  pub points : (more : List Call) → Ascend after more → Ascend 0 (cs ++ more)
  pub tops : (more : List Call) → greatest 0 (cs ++ more) ≡ greatest top more
  pub few : Has32 top
  pub parts : text ≡ text_of_calls cs ++ rest
  pub goes : (at : ℕ) → IsFirstFault (CallsCome after top) (lines_of rest) at → IsFirstFault (CallsCome 0 0) (lines_of text) (ends (text_of_calls cs) + at)

pub calls_start : (text : List ℕ) → CallsSoFar text [] 0 0 text
calls_start text = record {
  all = tt;
  points = λ more h. h;
  tops = λ more. refl;
  few = omega arith;
  parts = refl;
  goes = λ at f. let place : at ≡ 0 + at = omega arith in subst (λ (n : ℕ). IsFirstFault (CallsCome 0 0) (lines_of text) n) place f;
}

-- the text of one item more
pub items_more : {A : Type 0} (f : A → List ℕ) (xs : List A) (x : A) → flat_map f (xs ++ x ∷ []) ≡ flat_map f xs ++ f x
items_more f xs x = flat_map-append f xs (x ∷ []) ∙ ap (λ (ys : List ℕ). flat_map f xs ++ ys) (append-nil (f x))

pub calls_more : (text : List ℕ) (cs : List Call) (after top : ℕ) (rest : List ℕ) (c : Call) (more : List ℕ) → CallsSoFar text cs after top rest → CallStands after rest c more → CallsSoFar text (cs ++ c ∷ []) c.entry.at (max top c.entry.last) more
calls_more text cs after top rest c more so_far s =
    let own : List ℕ = text_of_call c.entry c.command in
    let longer : text_of_calls (cs ++ c ∷ []) ≡ text_of_calls cs ++ own = items_more (λ (d : Call). text_of_call d.entry d.command) cs c in
    record {
      all = all_append IsOrdered cs (c ∷ []) so_far.all ((s.0.readable, s.1.1, s.1.2), tt);
      points = λ others h. subst (Ascend 0) (sym (append_assoc cs (c ∷ []) others)) (so_far.points (c ∷ others) (s.1.0, h));
      tops = λ others. ap (greatest 0) (append_assoc cs (c ∷ []) others) ∙ so_far.tops (c ∷ others);
      few = (let before = so_far.few in let last = s.0.readable.places.last in omega (arith, before, last));
      parts = so_far.parts ∙ ap (λ (xs : List ℕ). text_of_calls cs ++ xs) s.0.parts ∙ sym (append_assoc (text_of_calls cs) own more) ∙ ap (λ (xs : List ℕ). xs ++ more) (sym longer);
      goes = λ at f.
          let count : ends (text_of_calls (cs ++ c ∷ [])) ≡ ends (text_of_calls cs) + ends own = ap ends longer ∙ ends_append (text_of_calls cs) own in
          let place : ends (text_of_calls cs) + (ends own + at) ≡ ends (text_of_calls (cs ++ c ∷ [])) + at = omega (arith, count) in
          subst (λ (n : ℕ). IsFirstFault (CallsCome 0 0) (lines_of text) n) place (so_far.goes (ends own + at) (call_goes after rest c more s top at f));
    }

-- less is left
pub calls_shorter : (after : ℕ) (text : List ℕ) (c : Call) (rest : List ℕ) → CallStands after text c rest → length rest < length text
calls_shorter after text c rest s =
    let t = call_texts c s.0.readable in
    shorter text (text_of_call c.entry c.command) rest s.0.parts (some (text_of_call c.entry c.command) (call_ends c t))
  where
    some : (xs : List ℕ) {n : ℕ} → ends xs ≡ suc n → 0 < length xs
    some [] e = absurd (omega (arith, e))
    some (x ∷ xs) e = omega arith

-- where no further call begins, files come
pub calls_end : (text : List ℕ) (cs : List Call) (after top : ℕ) (rest : List ℕ) → CallsSoFar text cs after top rest → begins 99 rest ≡ false → CallsStand text cs top rest
calls_end text cs after top rest so_far none = record {
  all = so_far.all;
  points = subst (Ascend 0) (append-nil cs) (so_far.points [] tt);
  most = sym (ap (greatest 0) (sym (append-nil cs)) ∙ so_far.tops []);
  few = so_far.few;
  parts = so_far.parts;
  goes = λ at f. so_far.goes at (narrow (CallsCome after top) (FilesCome top) (lines_of rest) at (λ zs g. ([], zs, tt, tt, g, refl)) thin (λ c. let low = (calls_byte after top [] c).0 in omega (arith, low)) f);
}
  where
    thin : (y : Option (List ℕ)) (tail zs : Lines) → lines_of rest ≡ y ∷ tail → CallsCome after top (y ∷ zs) → FilesCome top (y ∷ zs)
    thin y tail zs first (ds, more, points, all, files, e) = by ds all files e
      where
        by : (ks : List Call) → AllByRecursion IsOrdered ks → FilesCome (greatest top ks) more → y ∷ zs ≡ call_lines ks ++ more → FilesCome top (y ∷ zs)
        by [] all files e = subst (FilesCome top) (sym e) files
        by (k ∷ ks) all files e =
            let t = call_texts k all.0.0 in
            let lines : y ∷ zs ≡ Some (head_line (head_from_call k)) ∷ ((ended t.ls ++ call_lines ks) ++ more) = e ∙ ap (λ (ls : Lines). (ls ++ call_lines ks) ++ more) (call_own k t) in
            let byte : first_byte (lines_of rest) ≡ 99 = ap first_byte first ∙ ap first_byte lines in
            let clash : false ≡ true = sym none ∙ begins_first 99 99 rest byte (omega arith) in
            absurd cc

-- the first of what is left is wrong
pub calls_fault : (text : List ℕ) (cs : List Call) (after top : ℕ) (rest : List ℕ) (error told : TextError) → CallsSoFar text cs after top rest → CallFault after rest error → told ≡ further (ends (take (length text - length rest) text)) error → FaultsAt (CallsCome 0 0) text told
calls_fault text cs after top rest error told so_far h is = subst (FaultsAt (CallsCome 0 0) text) (sym is) (by error h)
  where
    by : (x : TextError) → CallFault after rest x → FaultsAt (CallsCome 0 0) text (further (ends (take (length text - length rest) text)) x)
    by NoMemory h = tt
    by (Bad line) h = fault_further (CallsCome 0 0) (CallsCome after top) text (text_of_calls cs) rest line so_far.parts so_far.goes (h top so_far.few)
