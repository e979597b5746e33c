-- What lines that were read say.
use Rattle.std.proofs.Common.{◌≡◌, ℕ, ◌+◌, ◌-◌, ◌^◌, ◌≤◌, Bool, true, false, cond, eqb, List, [], ◌∷◌, ◌++◌, length, map, Some, None, Result, Ok, Err, refl, sym, ap, subst, ◌∙◌, arith, append_assoc, add-zero}
use Rattle.std.specs.Prelude.{codes}
use Rattle.std.specs.Fmt.{decimal}
use Rattle.std.specs.List.{flat_map}
use Rattle.std.specs.Str.{bytes_eq}
use Rattle.std.proofs.lemmas.Bool.{cond_both, eqb-true, eq-eqb}
use Rattle.std.proofs.lemmas.Grind.{flat_map-append}
use Rattle.std.proofs.lemmas.List.{length-append, append-nil, map-append}
use Rattle.std.proofs.lemmas.Slice.Eq.{bytes_eq-Decides}
use Rattle.flr_base.specs.Reading.{after, reads}
use Rattle.text_words.specs.Pieces.{words_of}
use Rattle.lfs_values.specs.declared.cause.Cause.TheVariants as causes
use Rattle.object_target.specs.declared.fail.Fail.{Fail}
use Rattle.object_target.specs.declared.fail.FailKind.{FailKind}
use Rattle.object_target.specs.declared.fail.FailKind.TheVariants as kinds
use Rattle.script_values.specs.declared.command.Command.{Command}
use Rattle.script_values.specs.Texts as texts
use Rattle.script_text.specs.declared.error.LineError.{LineError}
use Rattle.script_text.specs.declared.lead.Lead.{Lead}
use Rattle.script_text.specs.declared.lead.Lead.TheVariants as leads
use Rattle.script_text.specs.declared.state.Version.{Version}
use Rattle.script_text.specs.declared.state.Version.TheVariants as versions
use Rattle.script_text.specs.declared.state.Head.{Head}
use Rattle.script_text.specs.declared.state.Body.{Body}
use Rattle.script_text.specs.declared.state.State.{State}
use Rattle.script_text.specs.declared.state.State.TheVariants as state
use Rattle.script_text.specs.CommandLines.{command_by}
use Rattle.script_text.specs.Grammar.{AreLinesOf, number_words, AreClientLines, FailRange, IsFailRange, calls_of, range_words, fail_words, IsHeadOfOne, IsHeadOfTwo, onto_said, said_in, AreText}
use Rattle.script_text.specs.HeadLines.{version_by, version_line, few_targets, targets_line, mirrors_line, is_next, client_line, unlisted, few_fails, kind_of, kind_in, fails_from, fail_one_line, fail_range_line, fail_line}
use Rattle.script_text.specs.Leads.{lead_of, is_comment}
use Rattle.script_text.specs.Slots.{number_in, nothing_in}
use Rattle.script_text.specs.SoFar.{Heard, version_number, head_view, HeadSaid, BodySaid, Stands}
use Rattle.script_text.specs.Step.{bare_head, counted, with_fails, first_client, next_client, with_command, count_of, few_clients, few_commands, behind_start, behind_version, behind_targets, behind_head, behind_client, said, words_line, as_text, line_of}
use Rattle.script_text.specs.TextLines.{Line}
use Rattle.script_text.proofs.CommandLaws.{heard, one_more, behind_word}
use Rattle.script_text.proofs.FailLists.{all_append}
use Rattle.script_text.proofs.Keeps.{okay, ok_same}
use Rattle.script_text.proofs.LeadLaws.{verb_text, lead_takes}
use Rattle.script_text.proofs.SlotLaws.{through, first_takes, number_takes, nothing_takes}

abbrev pub Words : Type 0
Words = List (List ℕ)

-- ---- lines of single forms

number_line_takes : (word : List ℕ) (place least most : ℕ) (words : Words) (p : ℕ × Words) (u : Unit {0}) → number_in 2 least most words ≡ Ok p → nothing_in place p.1 ≡ Ok u → word ∷ words ≡ number_words word p.0
number_line_takes word place least most words p u a b =
    let number = number_takes 2 least most words p a in
    behind_word word words _ (one_more (decimal p.0) words p.1 [] number.words_are (nothing_takes place p.1 u b))

ne_from : (n : ℕ) → eqb n 1 ≡ false → n ≡ 1 → ⊥
ne_from n f e = let t : true ≡ false = sym (eq-eqb n 1 e) ∙ f in absurd cc

version_by_number : (n : ℕ) → 1 ≤ n → n ≤ 2 → n ≡ version_number (version_by n)
version_by_number n low high = cond_both (eqb n 1) versions.One versions.Two (λ v. n ≡ version_number v) (λ t. eqb-true n 1 t) (λ f. let ne = ne_from n f in omega arith)

version_said : (words : Words) (version : Version) → version_line words ≡ Ok version → codes "flr-script" ∷ words ≡ number_words (codes "flr-script") (version_number version)
version_said words version e =
    through (number_in 2 1 2 words) _ version e (λ n is e1.
    through (nothing_in 3 n.1) _ version e1 (λ u none e2.
    let number = number_takes 2 1 2 words n is in
    let same : version_by n.0 ≡ version = cc in
    number_line_takes (codes "flr-script") 3 1 2 words n u is none ∙ ap (number_words (codes "flr-script")) (version_by_number n.0 number.low number.high ∙ ap version_number same)))

targets_said : (words : Words) (targets : ℕ) → targets_line words ≡ Ok targets → codes "targets" ∷ words ≡ number_words (codes "targets") targets
targets_said words targets e =
    through (number_in 2 1 (2 ^ 64 - 1) words) _ targets e (λ n is e1.
    through (few_targets n.0) _ targets e1 (λ f few e2.
    through (nothing_in 3 n.1) _ targets e2 (λ u none e3.
    let same : n.0 ≡ targets = cc in
    number_line_takes (codes "targets") 3 1 (2 ^ 64 - 1) words n u is none ∙ ap (number_words (codes "targets")) same)))

mirrors_said : (words : Words) (most : ℕ) → mirrors_line words ≡ Ok most → codes "mirrors" ∷ words ≡ number_words (codes "mirrors") most
mirrors_said words most e =
    through (number_in 2 1 32 words) _ most e (λ n is e1.
    through (nothing_in 3 n.1) _ most e1 (λ u none e2.
    let same : n.0 ≡ most = cc in
    number_line_takes (codes "mirrors") 3 1 32 words n u is none ∙ ap (number_words (codes "mirrors")) same))

next_is : (next number : ℕ) (u : Unit {0}) → is_next next number ≡ Ok u → number ≡ next
next_is next number u e = cond_both (eqb number next) (Ok tt) _ (λ r. r ≡ Ok u → number ≡ next) (λ t f. eqb-true number next t) (λ t f. absurd cc) e

client_said : (next : ℕ) (words : Words) (u : Unit {0}) → client_line next words ≡ Ok u → codes "client" ∷ words ≡ number_words (codes "client") next
client_said next words u e =
    through (number_in 2 0 (2 ^ 64 - 1) words) _ u e (λ n is e1.
    through (is_next next n.0) _ u e1 (λ f same e2.
    number_line_takes (codes "client") 3 0 (2 ^ 64 - 1) words n u is e2 ∙ ap (number_words (codes "client")) (next_is next n.0 f same)))

-- ---- lines of calls that fail

pub kind_chain : (word : List ℕ) (kind : FailKind) → kind_of word ≡ Some kind → word ≡ texts.kind_word kind
kind_chain word kind e =
    cond_both (bytes_eq word (codes "refused")) (Some kinds.Refused) _ (λ o. o ≡ Some kind → word ≡ texts.kind_word kind)
    (λ t f. let same : kinds.Refused ≡ kind = cc in (bytes_eq-Decides word (codes "refused")).0 t ∙ ap texts.kind_word same)
    (λ t f. cond_both (bytes_eq word (codes "lost")) (Some kinds.Lost) None (λ o. o ≡ Some kind → word ≡ texts.kind_word kind)
    (λ s g. let same : kinds.Lost ≡ kind = cc in (bytes_eq-Decides word (codes "lost")).0 s ∙ ap texts.kind_word same)
    (λ s g. absurd cc) f) e

kind_takes : (place : ℕ) (words : Words) (p : FailKind × Words) → kind_in place words ≡ Ok p → words ≡ texts.kind_word p.0 ∷ p.1
kind_takes place words p e =
    let f = first_takes (causes.UnknownWord place) kind_of words p e in
    f.1 ∙ ap (λ (w : List ℕ). w ∷ p.1) (kind_chain f.0 p.0 f.2)

-- one call
abbrev pub one_fail : ℕ → ℕ → FailKind → Fail
one_fail target call kind = record { target = target; call = call; kind = kind }

pub one_from : (target call : ℕ) (kind : FailKind) → fails_from target call kind 1 ≡ one_fail target call kind ∷ []
one_from target call kind = ap (λ (n : ℕ). one_fail target n kind ∷ []) (add-zero call)

pub record OneSaid (fails these : List Fail) (words : Words) : Type 0 where
  pub fail : Fail
  pub these_are : these ≡ fails ++ fail ∷ []
  pub words_are : words ≡ fail_words fail

ok_fails : (these those : List Fail) (r : Result (List Fail) LineError) → r ≡ Ok these → r ≡ Ok those → these ≡ those
ok_fails these those r e f = cc

one_said : (targets : ℕ) (fails these : List Fail) (words : Words) → fail_one_line targets fails words ≡ Ok these → OneSaid fails these (codes "fail" ∷ words)
one_said targets fails these words e =
    through (few_fails (length fails + 1)) _ these e (λ z zs e1.
    through (number_in 2 0 (targets - 1) words) _ these e1 (λ a as_ e2.
    through (number_in 3 1 (2 ^ 32 - 1) a.1) _ these e2 (λ b bs e3.
    through (unlisted fails a.0 b.0 b.0) _ these e3 (λ c cs e4.
    through (kind_in 4 b.1) _ these e4 (λ d ds e5.
    through (nothing_in 5 d.1) _ these e5 (λ f fs e6.
    let target = number_takes 2 0 (targets - 1) words a as_ in
    let call = number_takes 3 1 (2 ^ 32 - 1) a.1 b bs in
    let kind = kind_takes 4 b.1 d ds in
    record {
      fail = one_fail a.0 b.0 d.0;
      these_are = ok_fails these (fails ++ fails_from a.0 b.0 d.0 1) _ e6 refl ∙ ap (λ (xs : List Fail). fails ++ xs) (one_from a.0 b.0 d.0);
      words_are = behind_word (codes "fail") words _ (one_more (decimal a.0) words a.1 _ target.words_are (one_more (decimal b.0) a.1 b.1 _ call.words_are (one_more (texts.kind_word d.0) b.1 d.1 [] kind (nothing_takes 5 d.1 f fs))));
    }))))))

pub record RangeSaid (fails these : List Fail) (words : Words) : Type 0 where
  pub range : FailRange
  pub some : IsFailRange range
  pub these_are : these ≡ fails ++ calls_of range
  pub words_are : words ≡ range_words range

range_said : (targets : ℕ) (fails these : List Fail) (words : Words) → fail_range_line targets fails words ≡ Ok these → RangeSaid fails these (codes "fail" ∷ words)
range_said targets fails these words e =
    through (number_in 2 0 (targets - 1) words) _ these e (λ a as_ e1.
    through (number_in 3 1 (2 ^ 32 - 1) a.1) _ these e1 (λ b bs e2.
    through (unlisted fails a.0 b.0 b.0) _ these e2 (λ c cs e3.
    through (number_in 4 b.0 (2 ^ 32 - 1) b.1) _ these e3 (λ l ls e4.
    through (few_fails (length fails + (l.0 + 1 - b.0))) _ these e4 (λ z zs e5.
    through (unlisted fails a.0 b.0 l.0) _ these e5 (λ y ys e6.
    through (kind_in 5 l.1) _ these e6 (λ d ds e7.
    through (nothing_in 6 d.1) _ these e7 (λ f fs e8.
    let target = number_takes 2 0 (targets - 1) words a as_ in
    let first = number_takes 3 1 (2 ^ 32 - 1) a.1 b bs in
    let last = number_takes 4 b.0 (2 ^ 32 - 1) b.1 l ls in
    let kind = kind_takes 5 l.1 d ds in
    record {
      range = record { target = a.0; first = b.0; last = l.0; kind = d.0 };
      some = last.low;
      these_are = ok_fails these (fails ++ fails_from a.0 b.0 d.0 (l.0 + 1 - b.0)) _ e8 refl;
      words_are = behind_word (codes "fail") words _
          (one_more (decimal a.0) words a.1 _ target.words_are (one_more (decimal b.0) a.1 b.1 _ first.words_are (one_more (decimal l.0) b.1 l.1 _ last.words_are (one_more (texts.kind_word d.0) l.1 d.1 [] kind (nothing_takes 6 d.1 f fs)))));
    }))))))))

-- ---- heads

one_more_fail : (head : Head) (lines : List Words) (fails : List Fail) (words : Words) → IsHeadOfOne (head_view head) lines → OneSaid head.fails fails words → IsHeadOfOne (head_view (with_fails head fails)) (lines ++ words ∷ [])
one_more_fail head lines fails words h o =
    let mapped : map fail_words fails ≡ map fail_words head.fails ++ fail_words o.fail ∷ [] = ap (map fail_words) o.these_are ∙ map-append fail_words head.fails (o.fail ∷ []) in
    record {
      most = h.most;
      lines_are = ap (λ (ls : List Words). ls ++ words ∷ []) h.lines_are
          ∙ ap (λ (w : Words). number_words (codes "flr-script") 1 ∷ number_words (codes "targets") head.targets ∷ (map fail_words head.fails ++ w ∷ [])) o.words_are
          ∙ ap (λ (ls : List Words). number_words (codes "flr-script") 1 ∷ number_words (codes "targets") head.targets ∷ ls) (sym mapped);
    }

one_more_range : (head : Head) (lines : List Words) (fails : List Fail) (words : Words) → IsHeadOfTwo (head_view head) lines → RangeSaid head.fails fails words → IsHeadOfTwo (head_view (with_fails head fails)) (lines ++ words ∷ [])
one_more_range head lines fails words h o =
    let mapped : map range_words (h.ranges ++ o.range ∷ []) ≡ map range_words h.ranges ++ range_words o.range ∷ [] = map-append range_words h.ranges (o.range ∷ []) in
    let flat : flat_map calls_of (h.ranges ++ o.range ∷ []) ≡ flat_map calls_of h.ranges ++ (calls_of o.range ++ []) = flat_map-append calls_of h.ranges (o.range ∷ []) in
    record {
      ranges = h.ranges ++ o.range ∷ [];
      some = all_append IsFailRange h.ranges (o.range ∷ []) h.some (o.some, tt);
      fails = o.these_are ∙ ap (λ (fs : List Fail). fs ++ calls_of o.range) h.fails ∙ ap (λ (fs : List Fail). flat_map calls_of h.ranges ++ fs) (sym (append-nil (calls_of o.range))) ∙ sym flat;
      lines_are = ap (λ (ls : List Words). ls ++ words ∷ []) h.lines_are
          ∙ ap (λ (w : Words). number_words (codes "flr-script") 2 ∷ number_words (codes "targets") head.targets ∷ number_words (codes "mirrors") head.most ∷ (map range_words h.ranges ++ w ∷ [])) o.words_are
          ∙ ap (λ (ls : List Words). number_words (codes "flr-script") 2 ∷ number_words (codes "targets") head.targets ∷ number_words (codes "mirrors") head.most ∷ ls) (sym mapped);
    }

more_fails : (version : Version) (head : Head) (lines : List Words) (fails : List Fail) (words : Words) → HeadSaid version head lines → fail_line version head.targets head.fails words ≡ Ok fails
    → HeadSaid version (with_fails head fails) (lines ++ (codes "fail" ∷ words) ∷ [])
more_fails versions.One head lines fails words h e = one_more_fail head lines fails (codes "fail" ∷ words) h (one_said head.targets head.fails fails words e)
more_fails versions.Two head lines fails words h e = one_more_range head lines fails (codes "fail" ∷ words) h (range_said head.targets head.fails fails words e)

-- ---- clients

lines_more : (R : Words → Command → Type 0) (lines : List Words) (commands : List Command) (line : Words) (command : Command) → AreLinesOf R lines commands → R line command → AreLinesOf R (lines ++ line ∷ []) (commands ++ command ∷ [])
lines_more R lines [] line command h r = (line, [], ap (λ (ls : List Words). ls ++ line ∷ []) h, r, refl)
lines_more R lines (c ∷ cs) line command h r = (h.0, h.1 ++ line ∷ [], ap (λ (ls : List Words). ls ++ line ∷ []) h.2, h.3, lines_more R h.1 cs line command h.4 r)

-- one more command of the last client
pub last_more : (R : Words → Command → Type 0) (number : ℕ) (lines : List Words) (done : List (List Command)) (own : List Command) (line : Words) (command : Command) → AreClientLines R number lines (done ++ own ∷ []) → R line command
    → AreClientLines R number (lines ++ line ∷ []) (done ++ (own ++ command ∷ []) ∷ [])
last_more R number lines [] own line command h r =
    let rest_is : h.1 ≡ [] = h.4 in
    let whole : lines ++ line ∷ [] ≡ number_words (codes "client") number ∷ ((h.0 ++ line ∷ []) ++ []) =
    ap (λ (ls : List Words). ls ++ line ∷ []) (h.2 ∙ ap (λ (ls : List Words). number_words (codes "client") number ∷ (h.0 ++ ls)) rest_is ∙ ap (λ (ls : List Words). number_words (codes "client") number ∷ ls) (append-nil h.0))
    ∙ ap (λ (ls : List Words). number_words (codes "client") number ∷ ls) (sym (append-nil (h.0 ++ line ∷ []))) in
    (h.0 ++ line ∷ [], [], whole, lines_more R h.0 own line command h.3 r, refl)
last_more R number lines (d ∷ done) own line command h r =
    let whole : lines ++ line ∷ [] ≡ number_words (codes "client") number ∷ (h.0 ++ (h.1 ++ line ∷ [])) =
    ap (λ (ls : List Words). ls ++ line ∷ []) h.2 ∙ ap (λ (ls : List Words). number_words (codes "client") number ∷ ls) (append_assoc h.0 h.1 (line ∷ [])) in
    (h.0, h.1 ++ line ∷ [], whole, h.3, last_more R (number + 1) h.1 done own line command h.4 r)

-- one more client
pub clients_more : (R : Words → Command → Type 0) (number next : ℕ) (lines : List Words) (clients : List (List Command)) → next ≡ number + length clients → AreClientLines R number lines clients
    → AreClientLines R number (lines ++ number_words (codes "client") next ∷ []) (clients ++ [] ∷ [])
clients_more R number next lines [] n h =
    let same : next ≡ number = n ∙ add-zero number in
    ([], [], ap (λ (ls : List Words). ls ++ number_words (codes "client") next ∷ []) h ∙ ap (λ (m : ℕ). number_words (codes "client") m ∷ []) same, refl, refl)
clients_more R number next lines (own ∷ clients) n h =
    let whole : lines ++ number_words (codes "client") next ∷ [] ≡ number_words (codes "client") number ∷ (h.0 ++ (h.1 ++ number_words (codes "client") next ∷ [])) =
    ap (λ (ls : List Words). ls ++ number_words (codes "client") next ∷ []) h.2 ∙ ap (λ (ls : List Words). number_words (codes "client") number ∷ ls) (append_assoc h.0 h.1 (number_words (codes "client") next ∷ [])) in
    (h.0, h.1 ++ number_words (codes "client") next ∷ [], whole, h.3, clients_more R (number + 1) next h.1 clients (omega arith) h.4)

-- ---- states

onto_lines : (lines : List Words) (front : List Words) (line other : Words) → lines ≡ front → line ≡ other → lines ++ line ∷ [] ≡ front ++ other ∷ []
onto_lines lines front line other e f = rw (e, f) refl

moved : (s t : State) (lines : List Words) → okay s ≡ okay t → Stands s lines → Stands t lines
moved s t lines e h = subst (λ (u : State). Stands u lines) (ok_same s t e) h

start_stands : (lead : Lead) (word : List ℕ) (words : Words) (t : State) (lines : List Words) → lead_of word ≡ lead → lines ≡ [] → behind_start lead words ≡ Ok t → Stands t (lines ++ (word ∷ words) ∷ [])
start_stands leads.Script word words t lines l h e =
    through (version_line words) _ t e (λ version is e1.
    moved (state.Version version) t (lines ++ (word ∷ words) ∷ []) e1
    (onto_lines lines [] (word ∷ words) _ h (ap (λ (w : List ℕ). w ∷ words) (lead_takes word leads.Script l) ∙ version_said words version is)))
start_stands lead word words t lines l h e = absurd cc

counted_stands : (version : Version) (targets : ℕ) (lines : List Words) → lines ≡ number_words (codes "flr-script") (version_number version) ∷ number_words (codes "targets") targets ∷ [] → Stands (counted version targets) lines
counted_stands versions.One targets lines h = record { most = refl; lines_are = h }
counted_stands versions.Two targets lines h = h

version_stands : (version : Version) (lead : Lead) (word : List ℕ) (words : Words) (t : State) (lines : List Words) → lead_of word ≡ lead → lines ≡ number_words (codes "flr-script") (version_number version) ∷ [] → behind_version version lead words ≡ Ok t
    → Stands t (lines ++ (word ∷ words) ∷ [])
version_stands version leads.Targets word words t lines l h e =
    through (targets_line words) _ t e (λ targets is e1.
    moved (counted version targets) t (lines ++ (word ∷ words) ∷ []) e1
    (counted_stands version targets (lines ++ (word ∷ words) ∷ [])
    (onto_lines lines (number_words (codes "flr-script") (version_number version) ∷ []) (word ∷ words) _ h (ap (λ (w : List ℕ). w ∷ words) (lead_takes word leads.Targets l) ∙ targets_said words targets is))))
version_stands version lead word words t lines l h e = absurd cc

targets_stands : (targets : ℕ) (lead : Lead) (word : List ℕ) (words : Words) (t : State) (lines : List Words) → lead_of word ≡ lead → lines ≡ number_words (codes "flr-script") 2 ∷ number_words (codes "targets") targets ∷ []
    → behind_targets targets lead words ≡ Ok t → Stands t (lines ++ (word ∷ words) ∷ [])
targets_stands targets leads.Mirrors word words t lines l h e =
    through (mirrors_line words) _ t e (λ most is e1.
    moved (state.Fails (bare_head versions.Two targets most)) t (lines ++ (word ∷ words) ∷ []) e1
    (record {
      ranges = [];
      some = tt;
      fails = refl;
      lines_are = onto_lines lines (number_words (codes "flr-script") 2 ∷ number_words (codes "targets") targets ∷ []) (word ∷ words) _ h (ap (λ (w : List ℕ). w ∷ words) (lead_takes word leads.Mirrors l) ∙ mirrors_said words most is);
    }))
targets_stands targets lead word words t lines l h e = absurd cc

head_stands : (head : Head) (lead : Lead) (word : List ℕ) (words : Words) (t : State) (lines : List Words) → lead_of word ≡ lead → HeadSaid head.version head lines → behind_head head lead words ≡ Ok t → Stands t (lines ++ (word ∷ words) ∷ [])
head_stands head leads.Fail word words t lines l h e =
    through (fail_line head.version head.targets head.fails words) _ t e (λ fails is e1.
    moved (state.Fails (with_fails head fails)) t (lines ++ (word ∷ words) ∷ []) e1
    (subst (λ (w : List ℕ). HeadSaid head.version (with_fails head fails) (lines ++ (w ∷ words) ∷ [])) (sym (lead_takes word leads.Fail l)) (more_fails head.version head lines fails words h is)))
head_stands head leads.Client word words t lines l h e =
    through (client_line 1 words) _ t e (λ u is e1.
    moved (state.Commands (first_client head)) t (lines ++ (word ∷ words) ∷ []) e1
    (record {
      front = lines;
      back = (word ∷ words) ∷ [];
      whole = refl;
      head = h;
      clients = ([], [], ap (λ (w : Words). w ∷ []) (ap (λ (w : List ℕ). w ∷ words) (lead_takes word leads.Client l) ∙ client_said 1 words u is), refl, refl);
    }))
head_stands head lead word words t lines l h e = absurd cc

client_stands : (body : Body) (lead : Lead) (word : List ℕ) (words : Words) (t : State) (lines : List Words) → lead_of word ≡ lead → BodySaid body lines → behind_client body lead (word ∷ words) words ≡ Ok t → Stands t (lines ++ (word ∷ words) ∷ [])
client_stands body leads.Client word words t lines l h e =
    through (few_clients (count_of body)) _ t e (λ few fs e1.
    through (client_line (count_of body + 1) words) _ t e1 (λ u is e2.
    let line : word ∷ words ≡ number_words (codes "client") (count_of body + 1) = ap (λ (w : List ℕ). w ∷ words) (lead_takes word leads.Client l) ∙ client_said (count_of body + 1) words u is in
    let count = length-append body.done (body.own ∷ []) in
    let next : count_of body + 1 ≡ 1 + length (body.done ++ body.own ∷ []) = omega (arith, count) in
    let R = Heard body.head.targets body.head.most in
    moved (state.Commands (next_client body)) t (lines ++ (word ∷ words) ∷ []) e2
    (record {
      front = h.front;
      back = h.back ++ (word ∷ words) ∷ [];
      whole = ap (λ (ls : List Words). ls ++ (word ∷ words) ∷ []) h.whole ∙ append_assoc h.front h.back ((word ∷ words) ∷ []);
      head = h.head;
      clients = subst (λ (w : Words). AreClientLines R 1 (h.back ++ w ∷ []) ((body.done ++ body.own ∷ []) ++ [] ∷ [])) (sym line) (clients_more R 1 (count_of body + 1) h.back (body.done ++ body.own ∷ []) next h.clients);
    })))
client_stands body (leads.Command verb) word words t lines l h e =
    through (few_commands body.commands) _ t e (λ few fs e1.
    through (command_by body.head.targets body.head.most verb (word ∷ words) words) _ t e1 (λ command is e2.
    let verb_is : word ≡ verb_text verb = lead_takes word (leads.Command verb) l in
    let heard_so = heard body.head.targets body.head.most verb words command (subst (λ (w : List ℕ). command_by body.head.targets body.head.most verb (w ∷ words) words ≡ Ok command) verb_is is) in
    let R = Heard body.head.targets body.head.most in
    moved (state.Commands (with_command body command)) t (lines ++ (word ∷ words) ∷ []) e2
    (record {
      front = h.front;
      back = h.back ++ (word ∷ words) ∷ [];
      whole = ap (λ (ls : List Words). ls ++ (word ∷ words) ∷ []) h.whole ∙ append_assoc h.front h.back ((word ∷ words) ∷ []);
      head = h.head;
      clients = last_more R 1 h.back body.done body.own (word ∷ words) command h.clients (subst (λ (w : List ℕ). R (w ∷ words) command) (sym verb_is) heard_so);
    })))
client_stands body lead word words t lines l h e = absurd cc

said_stands : (s t : State) (lead : Lead) (word : List ℕ) (words : Words) (lines : List Words) → lead_of word ≡ lead → Stands s lines → said s lead (word ∷ words) words ≡ Ok t → Stands t (lines ++ (word ∷ words) ∷ [])
said_stands state.Start t lead word words lines l h e = start_stands lead word words t lines l h e
said_stands (state.Version version) t lead word words lines l h e = version_stands version lead word words t lines l h e
said_stands (state.Targets targets) t lead word words lines l h e = targets_stands targets lead word words t lines l h e
said_stands (state.Fails head) t lead word words lines l h e = head_stands head lead word words t lines l h e
said_stands (state.Commands body) t lead word words lines l h e = client_stands body lead word words t lines l h e

nothing_more : (s t : State) (lines : List Words) → okay s ≡ okay t → Stands s lines → Stands t (lines ++ [])
nothing_more s t lines e h = subst (Stands t) (sym (append-nil lines)) (moved s t lines e h)

by_comment : (s t : State) (word : List ℕ) (words : Words) (lines : List Words) (b : Bool) → Stands s lines → cond {A = Result State LineError} b (Ok s) (said s (lead_of word) (word ∷ words) words) ≡ Ok t
    → Stands t (lines ++ cond {A = List Words} b [] ((word ∷ words) ∷ []))
by_comment s t word words lines true h e = nothing_more s t lines e h
by_comment s t word words lines false h e = said_stands s t (lead_of word) word words lines refl h e

words_stand : (s t : State) (words : Words) (lines : List Words) → Stands s lines → words_line s words ≡ Ok t → Stands t (lines ++ onto_said words [])
words_stand s t [] lines h e = nothing_more s t lines e h
words_stand s t (word ∷ words) lines h e = by_comment s t word words lines (is_comment word) h e

onto_by : (b : Bool) (words : Words) (lines : List Words) → cond {A = List Words} b lines (words ∷ lines) ≡ cond {A = List Words} b [] (words ∷ []) ++ lines
onto_by true words lines = refl
onto_by false words lines = refl

-- one line and those behind it
pub onto_both : (words : Words) (lines : List Words) → onto_said words lines ≡ onto_said words [] ++ lines
onto_both [] lines = refl
onto_both (word ∷ words) lines = onto_by (is_comment word) (word ∷ words) lines

line_stands : (s u : State) (line : Line) (before : List Words) → Stands s before → line_of s line ≡ Ok u → Stands u (before ++ onto_said (words_of line.text) []) × (as_text line ≡ Ok tt)
unfolding line_of
line_stands s u line before h e = through (as_text line) _ u e (λ x is e1. (words_stand s u (words_of line.text) before h e1, is))

stand_by : (at : ℕ) (s t : State) (line : Line) (lines : List Line) (before : List Words) (r : Result State LineError) → line_of s line ≡ r → Stands s before → after r at (λ u. reads line_of (at + 1) u lines) ≡ Ok t
    → ((u : State) (more : List Words) → Stands u more → reads line_of (at + 1) u lines ≡ Ok t → Stands t (more ++ said_in lines) × AreText lines) → Stands t (before ++ said_in (line ∷ lines)) × AreText (line ∷ lines)
stand_by at s t line lines before (Err error) l h e k = absurd cc
stand_by at s t line lines before (Ok u) l h e k =
    let one = line_stands s u line before h l in
    let rest = k u (before ++ onto_said (words_of line.text) []) one.0 e in
    let same : (before ++ onto_said (words_of line.text) []) ++ said_in lines ≡ before ++ said_in (line ∷ lines) =
    append_assoc before (onto_said (words_of line.text) []) (said_in lines) ∙ ap (λ (ls : List Words). before ++ ls) (sym (onto_both (words_of line.text) (said_in lines))) in
    (subst (Stands t) same rest.0, (one.1, rest.1))

ended_stand : (s t : State) (before : List Words) → s ≡ t → Stands s before → Stands t (before ++ [])
ended_stand s t before e h = subst (Stands t) (sym (append-nil before)) (subst (λ (u : State). Stands u before) e h)

-- lines that were read say what the state stands for
pub all_stand : (at : ℕ) (s t : State) (lines : List Line) (before : List Words) → Stands s before → reads line_of at s lines ≡ Ok t → Stands t (before ++ said_in lines) × AreText lines
all_stand at s t [] before h e = let same : s ≡ t = cc in (ended_stand s t before same h, tt)
all_stand at s t (line ∷ lines) before h e = stand_by at s t line lines before (line_of s line) refl h e (λ u more g f. all_stand (at + 1) u t lines more g f)
