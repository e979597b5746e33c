-- What lines say together.
use Rattle.std.proofs.Common.{◌≡◌, ℕ, ◌+◌, ◌^◌, ◌<◌, ◌≤◌, Bool, true, false, cond, ◌||◌, ltb, eqb, List, [], ◌∷◌, ◌++◌, length, Some, Result, Ok, Err, refl, sym, ap, subst, ◌∙◌, arith, inl, inr}
use Rattle.std.specs.Prelude.{codes, min, ◌⊎◌}
use Rattle.std.specs.Fmt.{decimal}
use Rattle.std.specs.List.{AllByRecursion}
use Rattle.std.proofs.lemmas.Bool.{cond_both, ltb-false, eq-eqb}
use Rattle.flr_base.specs.Reading.{after, reads}
use Rattle.text_words.specs.Numbers.{number_of}
use Rattle.text_words.specs.Pieces.{words_of}
use Rattle.text_words.proofs.Decimals.{number_again}
use Rattle.script_values.specs.declared.command.Command.{Command}
use Rattle.script_values.specs.declared.command.Command.TheVariants as commands
use Rattle.script_values.specs.declared.what.What.{What}
use Rattle.script_values.specs.declared.what.What.TheVariants as what
use Rattle.script_values.specs.Commands.{IsCommand}
use Rattle.script_values.specs.Scripts.{ScriptView, IsWellFormed, limited, bytes_of_script, work_of}
use Rattle.script_text.specs.declared.error.LineError.{LineError}
use Rattle.script_text.specs.declared.error.ScriptError.{ScriptError}
use Rattle.script_text.specs.declared.state.Version.{Version}
use Rattle.script_text.specs.declared.state.Version.TheVariants as versions
use Rattle.script_text.specs.declared.state.Body.{Body}
use Rattle.script_text.specs.declared.state.Part.{Part}
use Rattle.script_text.specs.declared.state.State.{State}
use Rattle.script_text.specs.declared.state.State.TheVariants as state
use Rattle.script_text.specs.Grammar.{IsCommandLine, AreLinesOf, AreClientLines, IsHeadOfOne, IsHeadOfTwo, Says, onto_said, said_in, AreText, SpellsLines, Spells}
use Rattle.script_text.specs.Keeping.{IsGood, IsGoodPart}
use Rattle.script_text.specs.Leads.{is_comment}
use Rattle.script_text.specs.SoFar.{Heard, HeadSaid, BodySaid}
use Rattle.script_text.specs.Step.{line_of}
use Rattle.script_text.specs.TextLines.{Line, lines_in}
use Rattle.script_text.specs.Wholes.{all_of, ended, part_by, part_of, is_nobody, evicts_nobody_by, evicts_nobody, evictions_in, view_of, limited_by, whole_of, script_of}
use Rattle.script_text.proofs.Founds.{Words, all_stand}
use Rattle.script_text.proofs.Keeps.{good_step, good_all}
use Rattle.script_text.proofs.SlotLaws.{through}

-- ---- nobody is evicted who isn't there

-- the line evicts nobody who isn't there
abbrev pub IsFine : ℕ → Words → Type 0
IsFine clients words = evicts_nobody_by clients words ≡ false

onto_fine : (clients : ℕ) (b : Bool) (words : Words) (lines : List Words) → IsFine clients words → AllByRecursion (IsFine clients) lines → AllByRecursion (IsFine clients) (cond {A = List Words} b lines (words ∷ lines))
onto_fine clients true words lines h k = k
onto_fine clients false words lines h k = (h, k)

said_fine : (clients : ℕ) (words : Words) (lines : List Words) → IsFine clients words → AllByRecursion (IsFine clients) lines → AllByRecursion (IsFine clients) (onto_said words lines)
said_fine clients [] lines h k = k
said_fine clients (word ∷ words) lines h k = onto_fine clients (is_comment word) (word ∷ words) lines h k

pub all_fine : (clients at : ℕ) (lines : List Line) (u : Unit {0}) → evictions_in clients at lines ≡ Ok u → AllByRecursion (IsFine clients) (said_in lines)
all_fine clients at [] u e = tt
all_fine clients at (line ∷ lines) u e =
    cond_both (evicts_nobody clients line) (Err _) (evictions_in clients (at + 1) lines) (λ r. r ≡ Ok u → AllByRecursion (IsFine clients) (said_in (line ∷ lines))) (λ t f. absurd cc)
    (λ t f. said_fine clients (words_of line.text) (said_in lines) t (all_fine clients (at + 1) lines u f)) e

or_parts : (a b : Bool) → (a || b) ≡ false → (a ≡ false) × (b ≡ false)
or_parts true b e = absurd cc
or_parts false b e = (refl, e)

somebody : (clients n : ℕ) → is_nobody clients (Some n) ≡ false → (1 ≤ n) × (n ≤ clients)
somebody clients n e =
    let p = or_parts (eqb n 0) (ltb clients n) e in
    let some : n ≡ 0 → ⊥ = λ z. (let t : true ≡ false = sym (eq-eqb n 0 z) ∙ p.0 in absurd cc) in
    let few = ltb-false clients n p.1 in
    (omega (arith, some), omega arith)

-- a command by its line, within its limits where there are so many clients
pub record IsSaid (targets most clients : ℕ) (line : Words) (command : Command) : Type 0 where
  pub line_is : IsCommandLine most line command
  pub within : IsCommand most targets clients command

evict_said : (targets most clients client n : ℕ) (line : Words) → clients ≤ 16 → n < 2 ^ 64 → line ≡ codes "evict" ∷ decimal n ∷ [] → client ≡ min n 255 → IsFine clients line → IsSaid targets most clients line (commands.Evict client)
evict_said targets most clients client n line few small e c fine =
    let told : is_nobody clients (number_of (decimal n)) ≡ false = subst (IsFine clients) e fine in
    let there = somebody clients n (ap (is_nobody clients) (sym (number_again n small)) ∙ told) in
    let same : client ≡ n = omega (arith, c, there.1) in
    record { line_is = e ∙ ap (λ (m : ℕ). codes "evict" ∷ decimal m ∷ []) (sym same); within = (omega (arith, same, there.0), omega (arith, same, there.1)) }

pub heard_said : (targets most clients : ℕ) (line : Words) (command : Command) → clients ≤ 16 → Heard targets most line command → IsFine clients line → IsSaid targets most clients line command
heard_said targets most clients line (commands.Read name offset len) few h fine = record { line_is = h.0; within = h.1 }
heard_said targets most clients line (commands.Write name offset bytes) few h fine = record { line_is = h.0; within = h.1 }
heard_said targets most clients line (commands.Truncate name size) few h fine = record { line_is = h.0; within = h.1 }
heard_said targets most clients line (commands.Lfs command) few h fine = record { line_is = h.0; within = h.1 }
heard_said targets most clients line (commands.Evict client) few h fine = evict_said targets most clients client h.0 line few h.1 h.2 h.3 fine
heard_said targets most clients line (commands.Rot object offset byte) few h fine = record { line_is = h.0; within = h.1 }

-- ---- lines by another relation

pub all_front : {A : Type 0} (P : A → Type 0) (xs ys : List A) → AllByRecursion P (xs ++ ys) → AllByRecursion P xs
all_front P [] ys h = tt
all_front P (x ∷ xs) ys h = (h.0, all_front P xs ys h.1)

pub all_back : {A : Type 0} (P : A → Type 0) (xs ys : List A) → AllByRecursion P (xs ++ ys) → AllByRecursion P ys
all_back P [] ys h = h
all_back P (x ∷ xs) ys h = all_back P xs ys h.1

pub lines_by : (R S : Words → Command → Type 0) (Q : Words → Type 0) (lines : List Words) (cs : List Command) → ((line : Words) (c : Command) → R line c → Q line → S line c) → AllByRecursion Q lines → AreLinesOf R lines cs → AreLinesOf S lines cs
lines_by R S Q lines [] f q h = h
lines_by R S Q lines (c ∷ cs) f q h =
    let all = subst (AllByRecursion Q) h.2 q in
    (h.0, h.1, h.2, f h.0 c h.3 all.0, lines_by R S Q h.1 cs f all.1 h.4)

pub clients_by : (R S : Words → Command → Type 0) (Q : Words → Type 0) (number : ℕ) (lines : List Words) (clients : List (List Command)) → ((line : Words) (c : Command) → R line c → Q line → S line c) → AllByRecursion Q lines
    → AreClientLines R number lines clients → AreClientLines S number lines clients
clients_by R S Q number lines [] f q h = h
clients_by R S Q number lines (own ∷ clients) f q h =
    let all = subst (AllByRecursion Q) h.2 q in
    (h.0, h.1, h.2, lines_by R S Q h.0 own f (all_front Q h.0 h.1 all.1) h.3, clients_by R S Q (number + 1) h.1 clients f (all_back Q h.0 h.1 all.1) h.4)

pub lines_all : (R : Words → Command → Type 0) (P : Command → Type 0) (lines : List Words) (cs : List Command) → ((line : Words) (c : Command) → R line c → P c) → AreLinesOf R lines cs → AllByRecursion P cs
lines_all R P lines [] f h = tt
lines_all R P lines (c ∷ cs) f h = (f h.0 c h.3, lines_all R P h.1 cs f h.4)

pub clients_all : (R : Words → Command → Type 0) (P : Command → Type 0) (number : ℕ) (lines : List Words) (clients : List (List Command)) → ((line : Words) (c : Command) → R line c → P c) → AreClientLines R number lines clients → AllByRecursion (AllByRecursion P) clients
clients_all R P number lines [] f h = tt
clients_all R P number lines (own ∷ clients) f h = (lines_all R P h.0 own f h.3, clients_all R P (number + 1) h.1 clients f h.4)

any_line : (lines : List Words) → AllByRecursion (λ (line : Words). Unit {0}) lines
any_line [] = tt
any_line (line ∷ lines) = (tt, any_line lines)

-- ---- all lines together

pub record IsPartOf (lines : List Line) (part : Part) : Type 0 where
  pub text : AreText lines
  pub body : Body
  pub part_is : part ≡ all_of body
  pub said : BodySaid body (said_in lines)

ended_takes : (count : ℕ) (s : State) (part : Part) → ended count s ≡ Ok part → (body : Body) × (s ≡ state.Commands body) × (part ≡ all_of body)
ended_takes count state.Start part e = absurd cc
ended_takes count (state.Version version) part e = absurd cc
ended_takes count (state.Targets targets) part e = absurd cc
ended_takes count (state.Fails head) part e = absurd cc
ended_takes count (state.Commands body) part e = (body, refl, cc)

part_takes : (lines : List Line) (part : Part) (r : Result State (ℕ × LineError)) → reads line_of 0 state.Start lines ≡ r → part_by (length lines) r ≡ Ok part → IsPartOf lines part
part_takes lines part (Err fault) r e = absurd cc
part_takes lines part (Ok s) r e =
    let t = ended_takes (length lines) s part e in
    let all = all_stand 0 state.Start (state.Commands t.0) lines [] refl (r ∙ ap (λ (u : State). Ok u) t.1) in
    record { text = all.1; body = t.0; part_is = t.2; said = all.0 }

-- lines that come to a script say it
pub part_said : (lines : List Line) (part : Part) → part_of lines ≡ Ok part → IsPartOf lines part
part_said lines part e = part_takes lines part (reads line_of 0 state.Start lines) refl e

-- its clients, line by line
pub record PartClients (part : Part) (lines : List Line) : Type 0 where
  pub front : List Words
  pub back : List Words
  pub whole : said_in lines ≡ front ++ back
  pub head : HeadSaid part.head.version part.head front
  pub clients : AreClientLines (IsSaid part.head.targets part.head.most (length part.clients)) 1 back part.clients

body_clients : (body : Body) (lines : List Line) → BodySaid body (said_in lines) → length (all_of body).clients ≤ 16 → AllByRecursion (IsFine (length (all_of body).clients)) (said_in lines) → PartClients (all_of body) lines
body_clients body lines h few fine =
    let clients = length (body.done ++ body.own ∷ []) in
    let all = all_back (IsFine clients) h.front h.back (subst (AllByRecursion (IsFine clients)) h.whole fine) in
    record {
      front = h.front;
      back = h.back;
      whole = h.whole;
      head = h.head;
      clients = clients_by (Heard body.head.targets body.head.most) (IsSaid body.head.targets body.head.most clients) (IsFine clients) 1 h.back (body.done ++ body.own ∷ []) (λ line c r q. heard_said body.head.targets body.head.most clients line c few r q) all h.clients;
    }

pub part_clients : (lines : List Line) (part : Part) (u : Unit {0}) → part_of lines ≡ Ok part → IsGoodPart part → evictions_in (length part.clients) 0 lines ≡ Ok u → PartClients part lines
part_clients lines part u e good none =
    let p = part_said lines part e in
    let few = good.few_clients in
    let fine = all_fine (length part.clients) 0 lines u none in
    subst (λ (q : Part). PartClients q lines) (sym p.part_is)
    (body_clients p.body lines p.said (subst (λ (q : Part). length q.clients ≤ 16) p.part_is few) (subst (λ (q : Part). AllByRecursion (IsFine (length q.clients)) (said_in lines)) p.part_is fine))

-- what the lines came to is all that a script has to be but for its bytes and its work
pub well_formed : (lines : List Line) (part : Part) (u : Unit {0}) → part_of lines ≡ Ok part → IsGoodPart part → evictions_in (length part.clients) 0 lines ≡ Ok u → IsWellFormed (view_of part)
well_formed lines part u e good none =
    let c = part_clients lines part u e good none in
    let most = good.head.some_mirrors in
    record {
      some_mirrors = omega arith;
      few_mirrors = good.head.few_mirrors;
      some_targets = good.head.targets.0;
      few_targets = good.head.targets.1;
      few_fails = good.head.few_fails;
      fails = good.head.fails;
      calls_differ = good.head.differ;
      some_clients = good.some_clients;
      few_clients = good.few_clients;
      few_commands = good.few_commands;
      commands = clients_all (IsSaid part.head.targets part.head.most (length part.clients)) (IsCommand part.head.most part.head.targets (length part.clients)) 1 c.back part.clients (λ line d r. r.within) c.clients;
    }

-- ---- a script that was read is what its lines say

abbrev placed : State → Result State (ℕ × LineError)
placed s = Ok s

okay_good : (s t : State) → placed s ≡ placed t → IsGood s → IsGood t
okay_good s t e h = let same : s ≡ t = cc in subst IsGood same h

good_by : (at : ℕ) (s t : State) (line : Line) (lines : List Line) (r : Result State LineError) → line_of s line ≡ r → IsGood s → after r at (λ u. reads line_of (at + 1) u lines) ≡ Ok t
    → ((u : State) → IsGood u → reads line_of (at + 1) u lines ≡ Ok t → IsGood t) → IsGood t
good_by at s t line lines (Err error) l h e k = absurd cc
good_by at s t line lines (Ok u) l h e k = k u (good_step s u line h l) e

pub all_good : (at : ℕ) (s t : State) (lines : List Line) → IsGood s → reads line_of at s lines ≡ Ok t → IsGood t
all_good at s t [] h e = okay_good s t e h
all_good at s t (line ∷ lines) h e = good_by at s t line lines (line_of s line) refl h e (λ u g f. all_good (at + 1) u t lines g f)

good_takes : (lines : List Line) (part : Part) (r : Result State (ℕ × LineError)) → reads line_of 0 state.Start lines ≡ r → part_by (length lines) r ≡ Ok part → IsGoodPart part
good_takes lines part (Err fault) r e = absurd cc
good_takes lines part (Ok s) r e =
    let t = ended_takes (length lines) s part e in
    let good : IsGood (state.Commands t.0) = subst IsGood t.1 (all_good 0 state.Start s lines tt r) in
    subst IsGoodPart (sym t.2) (good_all t.0 good)

pub part_good : (lines : List Line) (part : Part) → part_of lines ≡ Ok part → IsGoodPart part
part_good lines part e = good_takes lines part (reads line_of 0 state.Start lines) refl e

pub head_says : (version : Version) (part : Part) (front : List Words) → HeadSaid version part.head front → IsHeadOfOne (view_of part) front ⊎ IsHeadOfTwo (view_of part) front
head_says versions.One part front h = inl (record { most = h.most; lines_are = h.lines_are })
head_says versions.Two part front h = inr (record { ranges = h.ranges; some = h.some; fails = h.fails; lines_are = h.lines_are })

pub part_says : (part : Part) (lines : List Line) → PartClients part lines → Says (view_of part) (said_in lines)
part_says part lines h =
    record {
      front = h.front;
      back = h.back;
      whole = h.whole;
      head = head_says part.head.version part h.front h.head;
      clients = clients_by (IsSaid part.head.targets part.head.most (length part.clients)) (IsCommandLine part.head.most) (λ line. Unit {0}) 1 h.back part.clients (λ line c r q. r.line_is) (any_line h.back) h.clients;
    }

pub record IsLimited (view script : ScriptView) : Type 0 where
  pub same : view ≡ script
  pub few_bytes : bytes_of_script view ≤ 67108864
  pub little_work : work_of view ≤ 8388608

by_bytes : (view script : ScriptView) (long heavy : Bool) → ltb 67108864 (bytes_of_script view) ≡ long → ltb 8388608 (work_of view) ≡ heavy
    → limited_by (cond {A = Result ScriptView What} long (Err what.Bytes) (cond {A = Result ScriptView What} heavy (Err what.Work) (Ok view))) ≡ Ok script → IsLimited view script
by_bytes view script true heavy b w e = absurd cc
by_bytes view script false true b w e = absurd cc
by_bytes view script false false b w e = record { same = cc; few_bytes = ltb-false 67108864 (bytes_of_script view) b; little_work = ltb-false 8388608 (work_of view) w }

limited_takes : (view script : ScriptView) → limited_by (limited view) ≡ Ok script → IsLimited view script
limited_takes view script e = by_bytes view script (ltb 67108864 (bytes_of_script view)) (ltb 8388608 (work_of view)) refl refl e

-- what lines come to that are right together
pub whole_says : (lines : List Line) (part : Part) (script : ScriptView) → part_of lines ≡ Ok part → whole_of lines part ≡ Ok script → SpellsLines lines script
whole_says lines part script is e =
    through (evictions_in (length part.clients) 0 lines) _ script e (λ u none f.
    let good = part_good lines part is in
    let l = limited_takes (view_of part) script f in
    let form = well_formed lines part u is good none in
    subst (SpellsLines lines) l.same
    (record {
      text = (part_said lines part is).text;
      says = part_says part lines (part_clients lines part u is good none);
      limits = record { form = form; few_bytes = l.few_bytes; little_work = l.little_work };
    }))

pub script_says : (text : List ℕ) (script : ScriptView) → script_of text ≡ Ok script → Spells text script
unfolding script_of
script_says text script e =
    cond_both {A = Result ScriptView ScriptError} (ltb 1048576 (length text)) _ _ (λ r. r ≡ Ok script → Spells text script) (λ t f. absurd cc)
    (λ t f. through (part_of (lines_in text)) _ script f (λ part is g. record { short = ltb-false 1048576 (length text) t; lines = whole_says (lines_in text) part script is g })) e
