-- A text that spells a script is read as that script.
use Rattle.std.proofs.Common.{◌≡◌, ◌≢◌, ℕ, ◌+◌, ◌-◌, ◌^◌, ◌≤◌, Bool, true, false, cond, List, [], ◌∷◌, ◌++◌, length, map, Some, Result, Ok, Err, refl, sym, ap, subst, ◌∙◌, arith, inl, inr}
use Rattle.std.specs.Prelude.{codes, min, MatchResult, ◌⊎◌}
use Rattle.std.specs.Fmt.{decimal}
use Rattle.std.specs.List.{flat_map, AllByRecursion}
use Rattle.std.proofs.lemmas.Bool.{le-ltb, ne_eqb, eqb-true}
use Rattle.text_words.specs.Numbers.{number_of}
use Rattle.text_words.specs.Pieces.{words_of}
use Rattle.text_words.proofs.Decimals.{number_again}
use Rattle.text_words.proofs.Spellings.{from_again}
use Rattle.lfs_words.specs.Parts.{◌>>=◌}
use Rattle.object_target.specs.declared.fail.Fail.{Fail}
use Rattle.script_values.specs.declared.command.Command.{Command}
use Rattle.script_values.specs.declared.command.Command.TheVariants as commands
use Rattle.script_values.specs.Commands.{IsCommand}
use Rattle.script_values.specs.Scripts.{ScriptView, IsWellFormed, IsScript, limited, bytes_of_script, work_of}
use Rattle.script_text.specs.declared.error.LineError.{LineError}
use Rattle.script_text.specs.declared.error.ScriptError.{ScriptError}
use Rattle.script_text.specs.declared.error.ScriptError.TheVariants as errors
use Rattle.script_text.specs.declared.lead.Lead.TheVariants as leads
use Rattle.script_text.specs.declared.state.Version.{Version}
use Rattle.script_text.specs.declared.state.Version.TheVariants as versions
use Rattle.script_text.specs.declared.state.Head.{Head}
use Rattle.script_text.specs.declared.state.Part.{Part}
use Rattle.script_text.specs.declared.state.State.TheVariants as state
use Rattle.script_text.specs.Answers.{Answers}
use Rattle.script_text.specs.Grammar.{IsCommandLine, AreLinesOf, number_words, AreClientLines, FailRange, calls_of, range_words, fail_words, IsHeadOfOne, IsHeadOfTwo, onto_said, said_in, SpellsLines, Spells}
use Rattle.script_text.specs.HeadLines.{version_line, targets_line, mirrors_line}
use Rattle.script_text.specs.Keeping.{IsGoodHead}
use Rattle.script_text.specs.Leads.{is_comment}
use Rattle.script_text.specs.SoFar.{Heard, head_view, HeadSaid}
use Rattle.script_text.specs.Step.{counted}
use Rattle.script_text.specs.TextLines.{Line, lines_in}
use Rattle.script_text.specs.Wholes.{all_of, part_by, part_of, is_nobody, evictions_in, view_of, limited_by, whole_of, script_of}
use Rattle.script_text.proofs.Agains.{says, says_one, says_first, says_both, all_read, lead_says, lfs_begins, AreListed, head_with, ones_again, ranges_again, clients_again, ok_state}
use Rattle.script_text.proofs.FailLists.{all_append}
use Rattle.script_text.proofs.Founds.{Words}
use Rattle.script_text.proofs.LeadLaws.{lead_words}
use Rattle.script_text.proofs.Together.{IsFine}

-- ---- heads

pub version_again : (version : Version) (n : ℕ) → version_line (decimal n ∷ []) ≡ Ok version → says_one state.Start (number_words (codes "flr-script") n) ≡ Ok (state.Version version)
version_again version n e =
    lead_says state.Start (state.Version version) leads.Script (codes "flr-script") (decimal n ∷ []) lead_words.0 (ap (λ (r : Result Version LineError). r >>= λ v. ok_state (state.Version v)) e)

pub one_again : version_line (decimal 1 ∷ []) ≡ Ok versions.One
one_again = rw (from_again 1 2 1 (omega arith) (omega arith) (omega arith)) refl

two_again : version_line (decimal 2 ∷ []) ≡ Ok versions.Two
two_again = rw (from_again 1 2 2 (omega arith) (omega arith) (omega arith)) refl

targets_again : (targets : ℕ) → 1 ≤ targets → targets ≤ 64 → targets_line (decimal targets ∷ []) ≡ Ok targets
targets_again targets low high = rw (from_again 1 (2 ^ 64 - 1) targets (omega arith) low (omega arith), le-ltb 64 targets high) refl

mirrors_again : (most : ℕ) → 1 ≤ most → most ≤ 32 → mirrors_line (decimal most ∷ []) ≡ Ok most
mirrors_again most low high = rw (from_again 1 32 most (omega arith) low high) refl

pub counted_again : (version : Version) (targets : ℕ) → 1 ≤ targets → targets ≤ 64 → says_one (state.Version version) (number_words (codes "targets") targets) ≡ Ok (counted version targets)
counted_again version targets low high =
    lead_says (state.Version version) (counted version targets) leads.Targets (codes "targets") (decimal targets ∷ []) lead_words.1 (ap (λ (r : Result ℕ LineError). r >>= λ t. ok_state (counted version t)) (targets_again targets low high))

pub most_again : (targets most : ℕ) → 1 ≤ most → most ≤ 32 → says_one (state.Targets targets) (number_words (codes "mirrors") most) ≡ Ok (state.Fails (head_with versions.Two targets most []))
most_again targets most low high =
    lead_says (state.Targets targets) (state.Fails (head_with versions.Two targets most [])) leads.Mirrors (codes "mirrors") (decimal most ∷ []) lead_words.2
    (ap (λ (r : Result ℕ LineError). r >>= λ m. ok_state (state.Fails (head_with versions.Two targets m []))) (mirrors_again most low high))

listed : (head : Head) → IsGoodHead head → AreListed head.targets head.fails
listed head h = record { targets_few = h.targets.1; few = h.few_fails; each = h.fails; differ = h.differ }

front_one : (targets most : ℕ) (fails : List Fail) (front : List Words) → IsGoodHead (head_with versions.One targets most fails) → IsHeadOfOne (head_view (head_with versions.One targets most fails)) front
    → says state.Start front ≡ Ok (state.Fails (head_with versions.One targets most fails))
front_one targets most fails front good h =
    let start = state.Version versions.One in
    let bare = state.Fails (head_with versions.One targets 16 []) in
    let all = state.Fails (head_with versions.One targets 16 fails) in
    let whole : says state.Start front ≡ Ok all =
    ap (says state.Start) h.lines_are
    ∙ says_first state.Start start all (number_words (codes "flr-script") 1) (number_words (codes "targets") targets ∷ map fail_words fails) (version_again versions.One 1 one_again)
    (says_first start bare all (number_words (codes "targets") targets) (map fail_words fails) (counted_again versions.One targets good.targets.0 good.targets.1) (ones_again targets 16 [] fails (listed (head_with versions.One targets most fails) good))) in
    whole ∙ ap (λ (m : ℕ). ok_state (state.Fails (head_with versions.One targets m fails))) (sym h.most)

front_two : (targets most : ℕ) (fails : List Fail) (front : List Words) → IsGoodHead (head_with versions.Two targets most fails) → IsHeadOfTwo (head_view (head_with versions.Two targets most fails)) front
    → says state.Start front ≡ Ok (state.Fails (head_with versions.Two targets most fails))
front_two targets most fails front good h =
    let start = state.Version versions.Two in
    let counted_so = state.Targets targets in
    let bare = state.Fails (head_with versions.Two targets most []) in
    let all = state.Fails (head_with versions.Two targets most (flat_map calls_of h.ranges)) in
    let known : AreListed targets ([] ++ flat_map calls_of h.ranges) = subst (AreListed targets) h.fails (listed (head_with versions.Two targets most fails) good) in
    let some = good.some_mirrors in
    let whole : says state.Start front ≡ Ok all =
    ap (says state.Start) h.lines_are
    ∙ says_first state.Start start all (number_words (codes "flr-script") 2) (number_words (codes "targets") targets ∷ number_words (codes "mirrors") most ∷ map range_words h.ranges) (version_again versions.Two 2 two_again)
    (says_first start counted_so all (number_words (codes "targets") targets) (number_words (codes "mirrors") most ∷ map range_words h.ranges) (counted_again versions.Two targets good.targets.0 good.targets.1)
    (says_first counted_so bare all (number_words (codes "mirrors") most) (map range_words h.ranges) (most_again targets most (omega arith) good.few_mirrors) (ranges_again targets most [] h.ranges h.some known))) in
    whole ∙ ap (λ (fs : List Fail). ok_state (state.Fails (head_with versions.Two targets most fs))) (sym h.fails)

-- the lines of a head are read as the head
pub front_again : (version : Version) (targets most : ℕ) (fails : List Fail) (front : List Words) → IsGoodHead (head_with version targets most fails) → HeadSaid version (head_with version targets most fails) front
    → says state.Start front ≡ Ok (state.Fails (head_with version targets most fails))
front_again versions.One targets most fails front good h = front_one targets most fails front good h
front_again versions.Two targets most fails front good h = front_two targets most fails front good h

pub record HeadRead (script : ScriptView) (front : List Words) : Type 0 where
  pub version : Version
  pub read : says state.Start front ≡ Ok (state.Fails (head_with version script.targets script.most script.fails))

head_good : (version : Version) (script : ScriptView) → IsWellFormed script → IsGoodHead (head_with version script.targets script.most script.fails)
head_good version script w =
    let some = w.some_mirrors in
    record { some_mirrors = omega arith; few_mirrors = w.few_mirrors; targets = (w.some_targets, w.few_targets); few_fails = w.few_fails; fails = w.fails; differ = w.calls_differ }

head_read : (script : ScriptView) (front : List Words) → IsWellFormed script → IsHeadOfOne script front ⊎ IsHeadOfTwo script front → HeadRead script front
head_read script front w (inl h) =
    record { version = versions.One; read = front_again versions.One script.targets script.most script.fails front (head_good versions.One script w) (record { most = h.most; lines_are = h.lines_are }) }
head_read script front w (inr h) =
    record { version = versions.Two; read = front_again versions.Two script.targets script.most script.fails front (head_good versions.Two script w) (record { ranges = h.ranges; some = h.some; fails = h.fails; lines_are = h.lines_are }) }

-- ---- commands within their limits

line_heard : (most targets clients : ℕ) (line : Words) (command : Command) → clients ≤ 16 → IsCommandLine most line command → IsCommand most targets clients command → Heard targets most line command
line_heard most targets clients line (commands.Read name offset len) few l c = (l, c)
line_heard most targets clients line (commands.Write name offset bytes) few l c = (l, c)
line_heard most targets clients line (commands.Truncate name size) few l c = (l, c)
line_heard most targets clients line (commands.Lfs command) few l c = (l, c)
line_heard most targets clients line (commands.Evict client) few l c =
    let high = c.1 in
    let kept : client ≡ min client 255 = omega arith in
    (client, omega arith, l, kept)
line_heard most targets clients line (commands.Rot object offset byte) few l c = (l, c)

lines_heard : (most targets clients : ℕ) (lines : List Words) (cs : List Command) → clients ≤ 16 → AreLinesOf (IsCommandLine most) lines cs → AllByRecursion (IsCommand most targets clients) cs → AreLinesOf (Heard targets most) lines cs
lines_heard most targets clients lines [] few l c = l
lines_heard most targets clients lines (command ∷ cs) few l c = (l.0, l.1, l.2, line_heard most targets clients l.0 command few l.3 c.0, lines_heard most targets clients l.1 cs few l.4 c.1)

clients_heard : (most targets clients number : ℕ) (lines : List Words) (rest : List (List Command)) → clients ≤ 16 → AreClientLines (IsCommandLine most) number lines rest → AllByRecursion (AllByRecursion (IsCommand most targets clients)) rest
    → AreClientLines (Heard targets most) number lines rest
clients_heard most targets clients number lines [] few l c = l
clients_heard most targets clients number lines (own ∷ rest) few l c =
    (l.0, l.1, l.2, lines_heard most targets clients l.0 own few l.3 c.0, clients_heard most targets clients (number + 1) l.1 rest few l.4 c.1)

-- ---- nobody is evicted who isn't there

lfs_fine : (clients : ℕ) (behind : Words) → IsFine clients (codes "lfs" ∷ behind)
lfs_fine clients [] = refl
lfs_fine clients (word ∷ words) = refl

there : (clients client : ℕ) → 1 ≤ client → client ≤ clients → is_nobody clients (Some client) ≡ false
there clients client low high = rw (ne_eqb client 0 (λ e. omega arith), le-ltb clients client high) refl

command_fine : (most targets clients : ℕ) (line : Words) (command : Command) → clients ≤ 16 → IsCommandLine most line command → IsCommand most targets clients command → IsFine clients line
command_fine most targets clients line (commands.Read name offset len) few l c = subst (IsFine clients) (sym l) refl
command_fine most targets clients line (commands.Write name offset bytes) few l c = subst (IsFine clients) (sym l) refl
command_fine most targets clients line (commands.Truncate name size) few l c = subst (IsFine clients) (sym l) refl
command_fine most targets clients line (commands.Lfs command) few l c =
    let first = lfs_begins l.2.form l.2.rest line l.2.stand in subst (IsFine clients) (sym first.1) (lfs_fine clients first.0)
command_fine most targets clients line (commands.Evict client) few l c =
    let high = c.1 in
    let read : is_nobody clients (number_of (decimal client)) ≡ false = ap (is_nobody clients) (number_again client (omega arith)) ∙ there clients client c.0 c.1 in
    subst (IsFine clients) (sym l) read
command_fine most targets clients line (commands.Rot object offset byte) few l c = subst (IsFine clients) (sym l) refl

lines_fine : (most targets clients : ℕ) (lines : List Words) (cs : List Command) → clients ≤ 16 → AreLinesOf (IsCommandLine most) lines cs → AllByRecursion (IsCommand most targets clients) cs → AllByRecursion (IsFine clients) lines
lines_fine most targets clients lines [] few l c = subst (AllByRecursion (IsFine clients)) (sym l) tt
lines_fine most targets clients lines (command ∷ cs) few l c =
    subst (AllByRecursion (IsFine clients)) (sym l.2) (command_fine most targets clients l.0 command few l.3 c.0, lines_fine most targets clients l.1 cs few l.4 c.1)

clients_fine : (most targets clients number : ℕ) (lines : List Words) (rest : List (List Command)) → clients ≤ 16 → AreClientLines (IsCommandLine most) number lines rest → AllByRecursion (AllByRecursion (IsCommand most targets clients)) rest
    → AllByRecursion (IsFine clients) lines
clients_fine most targets clients number lines [] few l c = subst (AllByRecursion (IsFine clients)) (sym l) tt
clients_fine most targets clients number lines (own ∷ rest) few l c =
    subst (AllByRecursion (IsFine clients)) (sym l.2)
    (refl, all_append (IsFine clients) l.0 l.1 (lines_fine most targets clients l.0 own few l.3 c.0) (clients_fine most targets clients (number + 1) l.1 rest few l.4 c.1))

fails_fine : (clients : ℕ) (fails : List Fail) → AllByRecursion (IsFine clients) (map fail_words fails)
fails_fine clients [] = tt
fails_fine clients (f ∷ fails) = (refl, fails_fine clients fails)

ranges_fine : (clients : ℕ) (rs : List FailRange) → AllByRecursion (IsFine clients) (map range_words rs)
ranges_fine clients [] = tt
ranges_fine clients (r ∷ rs) = (refl, ranges_fine clients rs)

front_fine : (clients : ℕ) (script : ScriptView) (front : List Words) → IsHeadOfOne script front ⊎ IsHeadOfTwo script front → AllByRecursion (IsFine clients) front
front_fine clients script front (inl h) = subst (AllByRecursion (IsFine clients)) (sym h.lines_are) (refl, (refl, fails_fine clients script.fails))
front_fine clients script front (inr h) = subst (AllByRecursion (IsFine clients)) (sym h.lines_are) (refl, (refl, (refl, ranges_fine clients h.ranges)))

-- a line that is skipped evicts nobody
comment_fine : (clients : ℕ) (word : List ℕ) (words : Words) → is_comment word ≡ true → IsFine clients (word ∷ words)
comment_fine clients [] words c = absurd cc
comment_fine clients (byte ∷ bytes) [] c = refl
comment_fine clients (byte ∷ bytes) (word ∷ words) c =
    let hash : byte ≡ 35 = eqb-true byte 35 c in
    subst (λ (b : ℕ). IsFine clients ((b ∷ bytes) ∷ word ∷ words)) (sym hash) refl

one_fine : (clients : ℕ) (word : List ℕ) (words : Words) (lines : List Words) (b : Bool) → is_comment word ≡ b → AllByRecursion (IsFine clients) (cond {A = List Words} b lines ((word ∷ words) ∷ lines)) → IsFine clients (word ∷ words) × AllByRecursion (IsFine clients) lines
one_fine clients word words lines true c h = (comment_fine clients word words c, h)
one_fine clients word words lines false c h = (h.0, h.1)

line_fine : (clients : ℕ) (words : Words) (lines : List Words) → AllByRecursion (IsFine clients) (onto_said words lines) → IsFine clients words × AllByRecursion (IsFine clients) lines
line_fine clients [] lines h = (refl, h)
line_fine clients (word ∷ words) lines h = one_fine clients word words lines (is_comment word) refl h

evictions_again : (clients at : ℕ) (lines : List Line) → AllByRecursion (IsFine clients) (said_in lines) → evictions_in clients at lines ≡ Ok tt
evictions_again clients at [] h = refl
evictions_again clients at (line ∷ lines) h =
    let f = line_fine clients (words_of line.text) (said_in lines) h in
    rw f.0 (evictions_again clients (at + 1) lines f.1)

-- ---- all lines

limited_again : (script : ScriptView) → IsScript script → limited_by (limited script) ≡ Ok script
limited_again script h = rw (le-ltb 67108864 (bytes_of_script script) h.few_bytes, le-ltb 8388608 (work_of script) h.little_work) refl

pub record PartRead (lines : List Line) (script : ScriptView) : Type 0 where
  pub part : Part
  pub read : part_of lines ≡ Ok part
  pub same : view_of part ≡ script

pub part_again : (lines : List Line) (script : ScriptView) → SpellsLines lines script → PartRead lines script
part_again lines script h =
    let w = h.limits.form in
    let says_so = h.says in
    let f = head_read script says_so.front w says_so.head in
    let head = head_with f.version script.targets script.most script.fails in
    let heard_so = clients_heard script.most script.targets (length script.clients) 1 says_so.back script.clients w.few_clients says_so.clients w.commands in
    let c = clients_again head says_so.back script.clients w.few_targets w.few_clients w.some_clients heard_so w.few_commands in
    let said_all : says state.Start (said_in lines) ≡ Ok (state.Commands c.0) =
    ap (says state.Start) says_so.whole ∙ says_both state.Start (state.Fails head) (state.Commands c.0) says_so.front says_so.back f.read c.1 in
    let all = all_read 0 state.Start (state.Commands c.0) lines h.text said_all in
    record { part = all_of c.0; read = ap (part_by (length lines)) all; same = ap view_of c.2 }

pub whole_again : (lines : List Line) (script : ScriptView) → SpellsLines lines script → (p : PartRead lines script) → whole_of lines p.part ≡ Ok script
whole_again lines script h p =
    let w = h.limits.form in
    let says_so = h.says in
    let few = w.few_clients in
    let clients = length script.clients in
    let count : length p.part.clients ≡ clients = ap (λ (v : ScriptView). length v.clients) p.same in
    let fine : AllByRecursion (IsFine clients) (said_in lines) =
    subst (AllByRecursion (IsFine clients)) (sym says_so.whole)
    (all_append (IsFine clients) says_so.front says_so.back (front_fine clients script says_so.front says_so.head) (clients_fine script.most script.targets clients 1 says_so.back script.clients few says_so.clients w.commands)) in
    let none : evictions_in (length p.part.clients) 0 lines ≡ Ok tt = ap (λ (n : ℕ). evictions_in n 0 lines) count ∙ evictions_again clients 0 lines fine in
    ap (λ (r : Result (Unit {0}) ScriptError). r >>= λ _. limited_by (limited (view_of p.part))) none ∙ ap (λ (v : ScriptView). limited_by (limited v)) p.same ∙ limited_again script h.limits

pub script_again : (text : List ℕ) (script : ScriptView) → Spells text script → script_of text ≡ Ok script
unfolding script_of
script_again text script h =
    let p = part_again (lines_in text) script h.lines in
    rw (le-ltb 1048576 (length text) h.short) (ap (λ (r : Result Part ScriptError). r >>= λ part. whole_of (lines_in text) part) p.read ∙ whole_again (lines_in text) script h.lines p)

-- ---- for the call

abbrev okay : ScriptView → Result ScriptView ScriptError
okay script = Ok script

other_error : (text : List ℕ) (script : ScriptView) (e : ScriptError) → script_of text ≡ Ok script → (e ≢ errors.NoMemory → script_of text ≡ Err e) → (e ≢ errors.NoMemory) → ⊥
other_error text script e ok h other = let clash : okay script ≡ Err e = sym ok ∙ h other in absurd cc

error_again : (text : List ℕ) (script : ScriptView) (e : ScriptError) → script_of text ≡ Ok script → (e ≢ errors.NoMemory → script_of text ≡ Err e) → e ≡ errors.NoMemory
error_again text script (errors.Bad line cause) ok h = absurd (other_error text script (errors.Bad line cause) ok h (λ e. absurd cc))
error_again text script errors.TooLong ok h = absurd (other_error text script errors.TooLong ok h (λ e. absurd cc))
error_again text script (errors.TooMany what) ok h = absurd (other_error text script (errors.TooMany what) ok h (λ e. absurd cc))
error_again text script errors.NoSchedule ok h = absurd (other_error text script errors.NoSchedule ok h (λ e. absurd cc))
error_again text script errors.NoMemory ok h = refl

pub read_again : (text : List ℕ) (r : Result ScriptView ScriptError) → Answers r (script_of text) → (script : ScriptView) → Spells text script → MatchResult r (λ found. found ≡ script) (λ e. e ≡ errors.NoMemory)
read_again text (Ok found) h script s = let same : okay found ≡ okay script = sym h ∙ script_again text script s in cc
read_again text (Err e) h script s = error_again text script e (script_again text script s) h
