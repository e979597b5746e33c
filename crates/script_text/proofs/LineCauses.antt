-- The first line with which lines begin no script.
use Rattle.std.proofs.Common.{◌≡◌, ℕ, zero, suc, ◌<◌, Bool, true, false, cond, List, [], ◌∷◌, ◌++◌, length, take, drop, get_or, Option, Some, Result, Ok, Err, refl, sym, ap, subst, ◌∙◌, arith, append_assoc, inl, inr}
use Rattle.std.specs.Prelude.{◌⊎◌, codes, option_and_then}
use Rattle.std.proofs.lemmas.List.{append-nil, length-take-le}
use Rattle.flr_base.specs.Faults.{Begins, IsFirstFault}
use Rattle.flr_base.specs.Reading.{reads}
use Rattle.flr_base.proofs.Machine.{Reads}
use Rattle.flr_base.proofs.Reader.{ok_step, first_fault, ends_early, err_run, run_ok, ok_run, read_stands}
use Rattle.text_words.specs.Pieces.{words_of}
use Rattle.lfs_values.specs.declared.cause.Cause.TheVariants as causes
use Rattle.lfs_words.specs.Parts.{◌>>=◌}
use Rattle.script_text.specs.declared.error.LineError.{LineError}
use Rattle.script_text.specs.declared.error.LineError.TheVariants as faults
use Rattle.script_text.specs.declared.state.Version.{Version}
use Rattle.script_text.specs.declared.state.Version.TheVariants as versions
use Rattle.script_text.specs.declared.state.Head.{Head}
use Rattle.script_text.specs.declared.state.Body.{Body}
use Rattle.script_text.specs.declared.state.Part.{Part}
use Rattle.script_text.specs.declared.state.State.{State}
use Rattle.script_text.specs.declared.state.State.TheVariants as state
use Rattle.script_text.specs.Grammar.{number_words, onto_said, said_in, AreText}
use Rattle.script_text.specs.Keeping.{IsGoodHead, IsGood}
use Rattle.script_text.specs.SoFar.{BodySaid, Stands}
use Rattle.script_text.specs.Step.{counted, bare_head, as_text, words_line, line_of}
use Rattle.script_text.specs.TextLines.{Line, is_text}
use Rattle.script_text.specs.Wholes.{all_of}
use Rattle.script_text.proofs.Agains.{says, says_one, says_both, all_read, clients_again, head_with, ok_state}
use Rattle.script_text.proofs.FailLists.{all_append}
use Rattle.script_text.proofs.Founds.{Words, onto_both, all_stand}
use Rattle.script_text.proofs.Keeps.{good_all}
use Rattle.script_text.proofs.Printed.{IsPlain, line, plain_said, plain_are_text, number_plain}
use Rattle.script_text.proofs.Together.{all_good}
use Rattle.script_text.proofs.Wholly.{version_again, one_again, counted_again, most_again, front_again}
use Rattle.script_text.specs.Causes.{IsWordsCause, IsCauseOfLine, AreInForm, IsFaultyLine}
use Rattle.script_text.proofs.WordCauses.{words_cause}

-- ---- what lines say is added up

pub said-append : (xs ys : List Line) → said_in (xs ++ ys) ≡ said_in xs ++ said_in ys
said-append [] ys = refl
said-append (x ∷ xs) ys =
    ap (onto_said (words_of x.text)) (said-append xs ys)
    ∙ onto_both (words_of x.text) (said_in xs ++ said_in ys)
    ∙ sym (append_assoc (onto_said (words_of x.text) []) (said_in xs) (said_in ys))
    ∙ ap (λ (ls : List Words). ls ++ said_in ys) (sym (onto_both (words_of x.text) (said_in xs)))

-- the lines are text within the limits, and say this
pub record Leads (s : State) (lines : List Line) : Type 0 where
  pub said : Stands s (said_in lines)
  pub text : AreText lines
  pub good : IsGood s

pub leads_start : Leads state.Start []
leads_start = record { said = refl; text = tt; good = tt }

-- further lines are read
pub leads_more : (s t : State) (xs ys : List Line) → Leads s xs → reads line_of 0 s ys ≡ Ok t → Leads t (xs ++ ys)
leads_more s t xs ys h e =
    let more = all_stand 0 s t ys (said_in xs) h.said e in
    record {
      said = subst (Stands t) (sym (said-append xs ys)) more.0;
      text = all_append (λ (l : Line). as_text l ≡ Ok tt) xs ys h.text more.1;
      good = all_good 0 s t ys h.good e;
    }

one_line : (s t : State) (x : Line) → ok_step line_of s x ≡ Some t → reads line_of 0 s (x ∷ []) ≡ Ok t
one_line s t x e = run_ok line_of 0 s t (x ∷ []) (ap (λ (o : Option State). option_and_then (λ u. Some u) o) e)

-- ---- whole scripts in form

-- the lines are in form, and say this
pub record IsFormOf (lines : List Line) (part : Part) : Type 0 where
  pub form : AreInForm lines
  pub same : form.1.part ≡ part

complete : (body : Body) (lines : List Line) → Leads (state.Commands body) lines → IsFormOf lines (all_of body)
complete body lines h =
    let b : BodySaid body (said_in lines) = h.said in
    record { form = (h.text, record { part = all_of body; front = b.front; back = b.back; whole = b.whole; head = b.head; clients = b.clients; limits = good_all body h.good }); same = refl }

-- lines in form are read up to a client's commands
pub form_read : (lines : List Line) → AreInForm lines → (body : Body) × (reads line_of 0 state.Start lines ≡ Ok (state.Commands body))
form_read lines h =
    let f = h.1 in
    let head = f.part.head in
    let front = front_again head.version head.targets head.most head.fails f.front f.limits.head f.head in
    let c = clients_again head f.back f.part.clients f.limits.head.targets.1 f.limits.few_clients f.limits.some_clients f.clients f.limits.few_commands in
    let all : says state.Start (said_in lines) ≡ Ok (state.Commands c.0) = ap (says state.Start) f.whole ∙ says_both state.Start (state.Fails head) (state.Commands c.0) f.front f.back front c.1 in
    (c.0, all_read 0 state.Start (state.Commands c.0) lines h.0 all)

-- ---- some script goes on with lines that were read

plain_read : (s t : State) (words : Words) → IsPlain words → says_one s words ≡ Ok t → reads line_of 0 s (line words ∷ []) ≡ Ok t
plain_read s t words p e =
    let said : said_in (line words ∷ []) ≡ words ∷ [] = plain_said (words ∷ []) (p, tt) in
    all_read 0 s t (line words ∷ []) (plain_are_text (words ∷ []) (p, tt)) (ap (says s) said ∙ ap (λ (r : Result State LineError). r >>= ok_state) e)

begins_more : (xs ys : List Line) → Begins AreInForm (xs ++ ys) → Begins AreInForm xs
begins_more xs ys h = (ys ++ h.0, subst AreInForm (append_assoc xs ys h.0) h.1)

-- one line more, from which some script goes on
by_line : (s t : State) (words : Words) (xs : List Line) → Leads s xs → IsPlain words → says_one s words ≡ Ok t → (Leads t (xs ++ line words ∷ []) → Begins AreInForm (xs ++ line words ∷ [])) → Begins AreInForm xs
by_line s t words xs h p e k = begins_more xs (line words ∷ []) (k (leads_more s t xs (line words ∷ []) h (plain_read s t words p e)))

commands_go_on : (body : Body) (xs : List Line) → Leads (state.Commands body) xs → Begins AreInForm xs
commands_go_on body xs h = ([], subst AreInForm (sym (append-nil xs)) (complete body xs h).form)

client_plain : IsPlain (number_words (codes "client") 1)
client_plain = number_plain (codes "client") 1 refl (λ rest. refl)

fails_go_on : (head : Head) (xs : List Line) → Leads (state.Fails head) xs → Begins AreInForm xs
fails_go_on head xs h =
    let good : IsGoodHead head = h.good in
    let c = clients_again head (number_words (codes "client") 1 ∷ []) ([] ∷ []) good.targets.1 (omega arith) (omega arith) ([], [], refl, refl, refl) (omega arith) in
    let said : said_in (line (number_words (codes "client") 1) ∷ []) ≡ number_words (codes "client") 1 ∷ [] = plain_said (number_words (codes "client") 1 ∷ []) (client_plain, tt) in
    let read : reads line_of 0 (state.Fails head) (line (number_words (codes "client") 1) ∷ []) ≡ Ok (state.Commands c.0) =
    all_read 0 (state.Fails head) (state.Commands c.0) (line (number_words (codes "client") 1) ∷ []) (plain_are_text (number_words (codes "client") 1 ∷ []) (client_plain, tt)) (ap (says (state.Fails head)) said ∙ c.1) in
    begins_more xs (line (number_words (codes "client") 1) ∷ [])
    (commands_go_on c.0 (xs ++ line (number_words (codes "client") 1) ∷ []) (leads_more (state.Fails head) (state.Commands c.0) xs (line (number_words (codes "client") 1) ∷ []) h read))

targets_go_on : (targets : ℕ) (xs : List Line) → Leads (state.Targets targets) xs → Begins AreInForm xs
targets_go_on targets xs h =
    let next = state.Fails (head_with versions.Two targets 1 []) in
    by_line (state.Targets targets) next (number_words (codes "mirrors") 1) xs h (number_plain (codes "mirrors") 1 refl (λ rest. refl)) (most_again targets 1 (omega arith) (omega arith))
    (λ g. fails_go_on (head_with versions.Two targets 1 []) (xs ++ line (number_words (codes "mirrors") 1) ∷ []) g)

counted_go_on : (version : Version) (targets : ℕ) (xs : List Line) → Leads (counted version targets) xs → Begins AreInForm xs
counted_go_on versions.One targets xs h = fails_go_on (bare_head versions.One targets 16) xs h
counted_go_on versions.Two targets xs h = targets_go_on targets xs h

version_go_on : (version : Version) (xs : List Line) → Leads (state.Version version) xs → Begins AreInForm xs
version_go_on version xs h =
    by_line (state.Version version) (counted version 1) (number_words (codes "targets") 1) xs h (number_plain (codes "targets") 1 refl (λ rest. refl)) (counted_again version 1 (omega arith) (omega arith))
    (λ g. counted_go_on version 1 (xs ++ line (number_words (codes "targets") 1) ∷ []) g)

pub go_on : (s : State) (xs : List Line) → Leads s xs → Begins AreInForm xs
go_on state.Start xs h =
    by_line state.Start (state.Version versions.One) (number_words (codes "flr-script") 1) xs h (number_plain (codes "flr-script") 1 refl (λ rest. refl)) (version_again versions.One 1 one_again)
    (λ g. version_go_on versions.One (xs ++ line (number_words (codes "flr-script") 1) ∷ []) g)
go_on (state.Version version) xs h = version_go_on version xs h
go_on (state.Targets targets) xs h = targets_go_on targets xs h
go_on (state.Fails head) xs h = fails_go_on head xs h
go_on (state.Commands body) xs h = commands_go_on body xs h

-- ---- reading lines

pub lines_read : Reads (ok_step line_of) state.Start AreInForm Leads
lines_read =
    record {
      first = leads_start;
      next = λ s t xs x h e. leads_more s t xs (x ∷ []) h (one_line s t x e);
      goes_on = go_on;
      all = λ xs h. (let r = form_read xs h in (state.Commands r.0, ok_run line_of 0 state.Start (state.Commands r.0) xs r.1));
    }

-- ---- the cause of a line

ended_by : (s : State) (ended : Bool) (text : List ℕ) (error : LineError) (b : Bool) → is_text text ≡ b → IsGood s
    → (cond {A = Result (Unit {0}) LineError} ended (cond {A = Result (Unit {0}) LineError} b (Ok tt) (Err (faults.Bad causes.NotText))) (Err (faults.Bad causes.NoNewline)) >>= λ _. words_line s (words_of text)) ≡ Err error
    → ((error ≡ faults.Bad causes.NoNewline) × (ended ≡ false)) ⊎ (((error ≡ faults.Bad causes.NotText) × (ended ≡ true) × (b ≡ false)) ⊎ ((ended ≡ true) × (b ≡ true) × IsWordsCause s (words_of text) error))
ended_by s false text error b t good e = let same : error ≡ faults.Bad causes.NoNewline = cc in inl (same, refl)
ended_by s true text error false t good e = let same : error ≡ faults.Bad causes.NotText = cc in inr (inl (same, refl, refl))
ended_by s true text error true t good e = inr (inr (refl, refl, words_cause s (words_of text) error good e))

text_by : (l : Line) → l.ended ≡ true → is_text l.text ≡ true → as_text l ≡ Ok tt
text_by l e t = rw (e, t) refl

line_by : (s : State) (l : Line) (error : LineError)
    → ((error ≡ faults.Bad causes.NoNewline) × (l.ended ≡ false)) ⊎ (((error ≡ faults.Bad causes.NotText) × (l.ended ≡ true) × (is_text l.text ≡ false)) ⊎ ((l.ended ≡ true) × (is_text l.text ≡ true) × IsWordsCause s (words_of l.text) error)) → IsCauseOfLine s l error
line_by s l error (inl h) = inl h
line_by s l error (inr (inl h)) = inr (inl h)
line_by s l error (inr (inr h)) = inr (inr (text_by l h.0 h.1, h.2))

-- the cause of a line that isn't read
pub line_cause : (s : State) (l : Line) (error : LineError) → IsGood s → line_of s l ≡ Err error → IsCauseOfLine s l error
unfolding line_of
line_cause s l error good e = line_by s l error (ended_by s l.ended l.text error (is_text l.text) refl good e)

pub split_at : (lines : List Line) (i : ℕ) (d : Line) → i < length lines → lines ≡ take i lines ++ get_or lines i d ∷ drop (suc i) lines
split_at [] i d lt = absurd (omega arith)
split_at (x ∷ xs) zero d lt = refl
split_at (x ∷ xs) (suc i) d lt = ap (λ (ls : List Line). x ∷ ls) (split_at xs i d (omega arith))

pub no_line : Line
no_line = record { text = []; ended = false }

-- the line at which reading stops is the first with which the lines begin no script, and this is why
pub faulty : (lines : List Line) (at : ℕ) (error : LineError) → reads line_of 0 state.Start lines ≡ Err (at, error) → IsFaultyLine lines at error
faulty lines at error e =
    let f = err_run line_of 0 at state.Start lines error e in
    let from_start = f.1 in
    let same : at ≡ f.0 = omega (arith, from_start) in
    let before = run_ok line_of 0 state.Start f.2.before (take f.0 lines) f.2.reaches in
    let leads = leads_more state.Start f.2.before [] (take f.0 lines) leads_start before in
    record {
      first = first_fault line_of lines_read lines no_line at error e;
      before = take f.0 lines;
      line = get_or lines f.0 no_line;
      behind = drop (suc f.0) lines;
      parts = split_at lines f.0 no_line f.2.within;
      place = same ∙ sym (length-take-le f.0 lines (let within = f.2.within in omega (arith, within)));
      so_far = f.2.before;
      said = leads.said;
      cause = line_cause f.2.before (get_or lines f.0 no_line) error leads.good (f.2.stuck no_line);
    }

commands_or : (lines : List Line) (s : State) → reads line_of 0 state.Start lines ≡ Ok s → ((body : Body) → s ≡ state.Commands body → ⊥) → AreInForm lines → ⊥
commands_or lines s e never h =
    let r = form_read lines h in
    let other : Ok s ≡ Ok (state.Commands r.0) = sym e ∙ r.1 in
    never r.0 cc

-- the lines end early
pub unended : (lines : List Line) (s : State) → reads line_of 0 state.Start lines ≡ Ok s → ((body : Body) → s ≡ state.Commands body → ⊥) → IsFirstFault AreInForm lines (length lines)
unended lines s e never = ends_early line_of lines_read lines s e (commands_or lines s e never)

-- lines that were read are in form
pub in_form : (lines : List Line) (body : Body) → reads line_of 0 state.Start lines ≡ Ok (state.Commands body) → IsFormOf lines (all_of body)
in_form lines body e = complete body lines (read_stands line_of lines_read lines (state.Commands body) e)
