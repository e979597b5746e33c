-- Whatever lines say is within the limits of single lines.
use Rattle.std.proofs.Common.{◌≡◌, ℕ, ◌+◌, ◌-◌, ◌^◌, ◌<◌, ◌≤◌, false, ltb, List, [], ◌∷◌, ◌++◌, length, Result, Ok, Err, refl, ap, subst, ◌∙◌, arith}
use Rattle.std.specs.List.{AllByRecursion, IsDistinct}
use Rattle.std.proofs.lemmas.Bool.{cond_both, ltb-true, ltb-false}
use Rattle.std.proofs.lemmas.Grind.{flat_map-append}
use Rattle.std.proofs.lemmas.List.{length-append, append-nil}
use Rattle.text_words.specs.Pieces.{words_of}
use Rattle.object_target.specs.declared.fail.Fail.{Fail}
use Rattle.script_values.specs.declared.command.Command.{Command}
use Rattle.script_values.specs.declared.command.Command.TheVariants as commands
use Rattle.script_values.specs.Scripts.{IsFail, all_commands}
use Rattle.script_text.specs.declared.error.LineError.{LineError}
use Rattle.script_text.specs.declared.lead.Lead.{Lead}
use Rattle.script_text.specs.declared.lead.Lead.TheVariants as leads
use Rattle.script_text.specs.declared.state.Version.{Version}
use Rattle.script_text.specs.declared.state.Version.TheVariants as versions
use Rattle.script_text.specs.declared.state.Head.{Head}
use Rattle.script_text.specs.declared.state.Body.{Body}
use Rattle.script_text.specs.declared.state.State.{State}
use Rattle.script_text.specs.declared.state.State.TheVariants as state
use Rattle.script_text.specs.HeadLines.{version_line, few_targets, targets_line, mirrors_line, client_line, is_listed, unlisted, few_fails, kind_in, fails_from, fail_one_line, fail_range_line, fail_line}
use Rattle.script_text.specs.CommandLines.{command_by}
use Rattle.script_text.specs.Keeping.{IsCountOfTargets, IsGoodHead, IsGoodCommand, IsGoodBody, IsGood, IsGoodPart}
use Rattle.script_text.specs.Leads.{lead_of, is_comment}
use Rattle.script_text.specs.Slots.{number_in, nothing_in}
use Rattle.script_text.specs.SoFar.{Heard}
use Rattle.script_text.specs.Step.{bare_head, counted, with_fails, first_client, next_client, with_command, count_of, few_clients, few_commands, behind_start, behind_version, behind_targets, behind_head, behind_client, said, words_line, as_text, line_of}
use Rattle.script_text.specs.TextLines.{Line}
use Rattle.script_text.specs.Wholes.{all_of}
use Rattle.script_text.proofs.CommandLaws.{heard}
use Rattle.script_text.proofs.FailLists.{length-fails_from, all_append, are_fails, distinct_range}
use Rattle.script_text.proofs.LeadLaws.{verb_text, lead_takes}
use Rattle.script_text.proofs.SlotLaws.{bound, through, number_takes}

-- ---- the tests

pub targets_few : (n : ℕ) (u : Unit {0}) → few_targets n ≡ Ok u → n ≤ 64
targets_few n u e = cond_both (ltb 64 n) (Err _) (Ok tt) (λ r. r ≡ Ok u → n ≤ 64) (λ t f. absurd cc) (λ t f. ltb-false 64 n t) e

pub fails_few : (n : ℕ) (u : Unit {0}) → few_fails n ≡ Ok u → n ≤ 4096
fails_few n u e = cond_both (ltb 4096 n) (Err _) (Ok tt) (λ r. r ≡ Ok u → n ≤ 4096) (λ t f. absurd cc) (λ t f. ltb-false 4096 n t) e

pub clients_few : (n : ℕ) (u : Unit {0}) → few_clients n ≡ Ok u → n < 16
clients_few n u e = cond_both (ltb n 16) (Ok tt) (Err _) (λ r. r ≡ Ok u → n < 16) (λ t f. ltb-true n 16 t) (λ t f. absurd cc) e

pub commands_few : (n : ℕ) (u : Unit {0}) → few_commands n ≡ Ok u → n < 4096
commands_few n u e = cond_both (ltb n 4096) (Ok tt) (Err _) (λ r. r ≡ Ok u → n < 4096) (λ t f. ltb-true n 4096 t) (λ t f. absurd cc) e

pub none_listed : (fails : List Fail) (target first last : ℕ) (u : Unit {0}) → unlisted fails target first last ≡ Ok u → is_listed fails target first last ≡ false
none_listed fails target first last u e = cond_both (is_listed fails target first last) (Err _) (Ok tt) (λ r. r ≡ Ok u → is_listed fails target first last ≡ false) (λ t f. absurd cc) (λ t f. t) e

-- ---- the head

pub good_targets : (words : List (List ℕ)) (targets : ℕ) → targets_line words ≡ Ok targets → IsCountOfTargets targets
good_targets words targets e =
    let a = bound (number_in 2 1 (2 ^ 64 - 1) words) _ targets e in
    let b = bound (few_targets a.0.0) _ targets a.2 in
    let c = bound (nothing_in 3 a.0.1) _ targets b.2 in
    let n = number_takes 2 1 (2 ^ 64 - 1) words a.0 a.1 in
    let low = n.low in
    let few = targets_few a.0.0 b.0 b.1 in
    let same : a.0.0 ≡ targets = cc in
    (omega arith, omega arith)

good_mirrors : (words : List (List ℕ)) (most : ℕ) → mirrors_line words ≡ Ok most → (0 < most) × (most ≤ 32)
good_mirrors words most e =
    let a = bound (number_in 2 1 32 words) _ most e in
    let c = bound (nothing_in 3 a.0.1) _ most a.2 in
    let n = number_takes 2 1 32 words a.0 a.1 in
    let low = n.low in
    let high = n.high in
    let same : a.0.0 ≡ most = cc in
    (omega arith, omega arith)

pub good_bare : (version : Version) (targets most : ℕ) → IsCountOfTargets targets → 0 < most → most ≤ 32 → IsGoodHead (bare_head version targets most)
unfolding IsDistinct
good_bare version targets most t low high = record { some_mirrors = low; few_mirrors = high; targets = t; few_fails = omega arith; fails = tt; differ = tt }

-- calls that aren't listed are listed
pub good_listed : (head : Head) (target first last n : ℕ) (kind : _) → IsGoodHead head → target ≤ head.targets - 1 → 1 ≤ first → last ≤ 2 ^ 32 - 1 → first + n ≤ last + 1 → length head.fails + n ≤ 4096
    → is_listed head.fails target first last ≡ false → IsGoodHead (with_fails head (head.fails ++ fails_from target first kind n))
good_listed head target first last n kind h t low high within few none =
    let some = h.targets.0 in
    let count = length-append head.fails (fails_from target first kind n) in
    let more = length-fails_from target first kind n in
    record {
      some_mirrors = h.some_mirrors;
      few_mirrors = h.few_mirrors;
      targets = h.targets;
      few_fails = omega (arith, count, more);
      fails = all_append (IsFail head.targets) head.fails (fails_from target first kind n) h.fails (are_fails head.targets target first kind n (omega arith) low (omega arith));
      differ = distinct_range head.fails target first last kind n h.differ none within;
    }

good_same : (head : Head) (these those : List Fail) → these ≡ those → IsGoodHead (with_fails head these) → IsGoodHead (with_fails head those)
good_same head these those e h = subst (λ (fs : List Fail). IsGoodHead (with_fails head fs)) e h

ok_fails : (these those : List Fail) (r : Result (List Fail) LineError) → r ≡ Ok these → r ≡ Ok those → these ≡ those
ok_fails these those r e f = cc

range_within : (first last : ℕ) → first ≤ last → first + (last + 1 - first) ≤ last + 1
range_within first last h = omega arith

good_one : (head : Head) (words : List (List ℕ)) (fails : List Fail) → IsGoodHead head → fail_one_line head.targets head.fails words ≡ Ok fails → IsGoodHead (with_fails head fails)
good_one head words fails h e =
    through (few_fails (length head.fails + 1)) _ fails e (λ z zs e1.
    through (number_in 2 0 (head.targets - 1) words) _ fails e1 (λ a as_ e2.
    through (number_in 3 1 (2 ^ 32 - 1) a.1) _ fails e2 (λ b bs e3.
    through (unlisted head.fails a.0 b.0 b.0) _ fails e3 (λ c cs e4.
    through (kind_in 4 b.1) _ fails e4 (λ d ds e5.
    through (nothing_in 5 d.1) _ fails e5 (λ f fs e6.
    let target = number_takes 2 0 (head.targets - 1) words a as_ in
    let call = number_takes 3 1 (2 ^ 32 - 1) a.1 b bs in
    good_same head (head.fails ++ fails_from a.0 b.0 d.0 1) fails (ok_fails _ fails _ refl e6)
    (good_listed head a.0 b.0 b.0 1 d.0 h target.high call.low call.high (omega arith) (fails_few (length head.fails + 1) z zs) (none_listed head.fails a.0 b.0 b.0 c cs))))))))

good_range : (head : Head) (words : List (List ℕ)) (fails : List Fail) → IsGoodHead head → fail_range_line head.targets head.fails words ≡ Ok fails → IsGoodHead (with_fails head fails)
good_range head words fails h e =
    through (number_in 2 0 (head.targets - 1) words) _ fails e (λ a as_ e1.
    through (number_in 3 1 (2 ^ 32 - 1) a.1) _ fails e1 (λ b bs e2.
    through (unlisted head.fails a.0 b.0 b.0) _ fails e2 (λ c cs e3.
    through (number_in 4 b.0 (2 ^ 32 - 1) b.1) _ fails e3 (λ l ls e4.
    through (few_fails (length head.fails + (l.0 + 1 - b.0))) _ fails e4 (λ z zs e5.
    through (unlisted head.fails a.0 b.0 l.0) _ fails e5 (λ y ys e6.
    through (kind_in 5 l.1) _ fails e6 (λ d ds e7.
    through (nothing_in 6 d.1) _ fails e7 (λ f fs e8.
    let target = number_takes 2 0 (head.targets - 1) words a as_ in
    let first = number_takes 3 1 (2 ^ 32 - 1) a.1 b bs in
    let last = number_takes 4 b.0 (2 ^ 32 - 1) b.1 l ls in
    good_same head (head.fails ++ fails_from a.0 b.0 d.0 (l.0 + 1 - b.0)) fails (ok_fails _ fails _ refl e8)
    (good_listed head a.0 b.0 l.0 (l.0 + 1 - b.0) d.0 h target.high first.low last.high (range_within b.0 l.0 last.low) (fails_few (length head.fails + (l.0 + 1 - b.0)) z zs) (none_listed head.fails a.0 b.0 l.0 y ys))))))))))

good_fails : (head : Head) (words : List (List ℕ)) (fails : List Fail) (version : Version) → head.version ≡ version → IsGoodHead head → fail_line version head.targets head.fails words ≡ Ok fails → IsGoodHead (with_fails head fails)
good_fails head words fails versions.One v h e = good_one head words fails h e
good_fails head words fails versions.Two v h e = good_range head words fails h e

-- ---- commands

pub good_command : (head : Head) (words : List (List ℕ)) (command : Command) → Heard head.targets head.most words command → IsGoodCommand head command
good_command head words (commands.Read name offset len) h = h.1
good_command head words (commands.Write name offset bytes) h = h.1
good_command head words (commands.Truncate name size) h = h.1
good_command head words (commands.Lfs command) h = h.1
good_command head words (commands.Evict client) h = tt
good_command head words (commands.Rot object offset byte) h = h.1

count_next : (done : List (List Command)) (own : List Command) → length (all_commands (done ++ own ∷ [])) ≡ length (all_commands done) + length own
count_next done own =
    let whole : all_commands (done ++ own ∷ []) ≡ all_commands done ++ (own ++ []) = flat_map-append (λ (cs : List Command). cs) done (own ∷ []) in
    let nil : own ++ [] ≡ own = append-nil own in
    let length_is = length-append (all_commands done) own in
    ap (λ (cs : List Command). length cs) (whole ∙ ap (λ (cs : List Command). all_commands done ++ cs) nil) ∙ length_is

good_next : (body : Body) → IsGoodBody body → length body.done + 1 < 16 → IsGoodBody (next_client body)
good_next body h few =
    let count = h.count in
    let more = length-append body.done (body.own ∷ []) in
    let sum = count_next body.done body.own in
    record {
      head = h.head;
      few_clients = omega (arith, more);
      done = all_append (AllByRecursion (IsGoodCommand body.head)) body.done (body.own ∷ []) h.done (h.own, tt);
      own = tt;
      count = omega (arith, count, sum);
      few_commands = h.few_commands;
    }

good_with : (body : Body) (command : Command) → IsGoodBody body → IsGoodCommand body.head command → body.commands < 4096 → IsGoodBody (with_command body command)
good_with body command h good few =
    let count = h.count in
    let more = length-append body.own (command ∷ []) in
    record {
      head = h.head;
      few_clients = h.few_clients;
      done = h.done;
      own = all_append (IsGoodCommand body.head) body.own (command ∷ []) h.own (good, tt);
      count = omega (arith, count, more);
      few_commands = omega arith;
    }

-- all clients together
pub good_all : (body : Body) → IsGoodBody body → IsGoodPart (all_of body)
good_all body h =
    let count = h.count in
    let few = h.few_clients in
    let all = h.few_commands in
    let more = length-append body.done (body.own ∷ []) in
    let sum = count_next body.done body.own in
    record {
      head = h.head;
      some_clients = omega (arith, more);
      few_clients = omega (arith, more, few);
      commands = all_append (AllByRecursion (IsGoodCommand body.head)) body.done (body.own ∷ []) h.done (h.own, tt);
      few_commands = omega (arith, count, sum, all);
    }

-- ---- one line

abbrev pub okay : State → Result State LineError
okay s = Ok s

pub ok_same : (s t : State) → okay s ≡ okay t → s ≡ t
ok_same s t e = cc

start_good : (lead : Lead) (words : List (List ℕ)) (t : State) → behind_start lead words ≡ Ok t → IsGood t
start_good leads.Script words t e = let a = bound (version_line words) _ t e in subst IsGood (ok_same (state.Version a.0) t a.2) tt
start_good lead words t e = absurd cc

counted_good : (version : Version) (targets : ℕ) → IsCountOfTargets targets → IsGood (counted version targets)
counted_good versions.One targets h = good_bare versions.One targets 16 h (omega arith) (omega arith)
counted_good versions.Two targets h = h

version_good : (version : Version) (lead : Lead) (words : List (List ℕ)) (t : State) → behind_version version lead words ≡ Ok t → IsGood t
version_good version leads.Targets words t e =
    let a = bound (targets_line words) _ t e in subst IsGood (ok_same (counted version a.0) t a.2) (counted_good version a.0 (good_targets words a.0 a.1))
version_good version lead words t e = absurd cc

targets_good : (targets : ℕ) (lead : Lead) (words : List (List ℕ)) (t : State) → IsCountOfTargets targets → behind_targets targets lead words ≡ Ok t → IsGood t
targets_good targets leads.Mirrors words t h e =
    let a = bound (mirrors_line words) _ t e in
    let m = good_mirrors words a.0 a.1 in subst IsGood (ok_same (state.Fails (bare_head versions.Two targets a.0)) t a.2) (good_bare versions.Two targets a.0 h m.0 m.1)
targets_good targets lead words t h e = absurd cc

head_good : (head : Head) (lead : Lead) (words : List (List ℕ)) (t : State) → IsGoodHead head → behind_head head lead words ≡ Ok t → IsGood t
head_good head leads.Fail words t h e =
    let a = bound (fail_line head.version head.targets head.fails words) _ t e in subst IsGood (ok_same (state.Fails (with_fails head a.0)) t a.2) (good_fails head words a.0 head.version refl h a.1)
head_good head leads.Client words t h e =
    let a = bound (client_line 1 words) _ t e in
    subst IsGood (ok_same (state.Commands (first_client head)) t a.2) (record { head = h; few_clients = omega arith; done = tt; own = tt; count = refl; few_commands = omega arith })
head_good head lead words t h e = absurd cc

client_good : (body : Body) (lead : Lead) (word : List ℕ) (behind : List (List ℕ)) (t : State) → lead_of word ≡ lead → IsGoodBody body → behind_client body lead (word ∷ behind) behind ≡ Ok t → IsGood t
client_good body leads.Client word behind t l h e =
    let a = bound (few_clients (count_of body)) _ t e in
    let b = bound (client_line (count_of body + 1) behind) _ t a.2 in
    subst IsGood (ok_same (state.Commands (next_client body)) t b.2) (good_next body h (clients_few (count_of body) a.0 a.1))
client_good body (leads.Command verb) word behind t l h e =
    let a = bound (few_commands body.commands) _ t e in
    let b = bound (command_by body.head.targets body.head.most verb (word ∷ behind) behind) _ t a.2 in
    let verb_is : word ≡ verb_text verb = lead_takes word (leads.Command verb) l in
    let said_so = heard body.head.targets body.head.most verb behind b.0 (subst (λ (w : List ℕ). command_by body.head.targets body.head.most verb (w ∷ behind) behind ≡ Ok b.0) verb_is b.1) in
    subst IsGood (ok_same (state.Commands (with_command body b.0)) t b.2) (good_with body b.0 h (good_command body.head (verb_text verb ∷ behind) b.0 said_so) (commands_few body.commands a.0 a.1))
client_good body lead word behind t l h e = absurd cc

said_good : (s t : State) (lead : Lead) (word : List ℕ) (behind : List (List ℕ)) → lead_of word ≡ lead → IsGood s → said s lead (word ∷ behind) behind ≡ Ok t → IsGood t
said_good state.Start t lead word behind l h e = start_good lead behind t e
said_good (state.Version version) t lead word behind l h e = version_good version lead behind t e
said_good (state.Targets targets) t lead word behind l h e = targets_good targets lead behind t h e
said_good (state.Fails head) t lead word behind l h e = head_good head lead behind t h e
said_good (state.Commands body) t lead word behind l h e = client_good body lead word behind t l h e

words_good : (s t : State) (words : List (List ℕ)) → IsGood s → words_line s words ≡ Ok t → IsGood t
words_good s t [] h e = subst IsGood (ok_same s t e) h
words_good s t (word ∷ words) h e =
    cond_both (is_comment word) (Ok s) (said s (lead_of word) (word ∷ words) words) (λ r. r ≡ Ok t → IsGood t) (λ c f. subst IsGood (ok_same s t f) h) (λ c f. said_good s t (lead_of word) word words refl h f) e

-- one more line keeps to the limits
pub good_step : (s t : State) (line : Line) → IsGood s → line_of s line ≡ Ok t → IsGood t
unfolding line_of
good_step s t line h e = let a = bound (as_text line) _ t e in words_good s t (words_of line.text) h a.2
