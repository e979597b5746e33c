-- The cause of a line of words, where it is known what has been said before.
use Rattle.std.proofs.Common.{◌≡◌, ◌≢◌, ℕ, zero, suc, ◌+◌, ◌<◌, Bool, true, false, ltb, List, [], ◌∷◌, ◌++◌, length, take, Result, Ok, Err, refl, sym, ap, subst, ◌∙◌, arith, inl, inr}
use Rattle.std.specs.Prelude.{◌⊎◌, codes}
use Rattle.std.proofs.lemmas.Bool.{cond_both, ltb-true, ltb-false}
use Rattle.flr_base.specs.Faults.{Begins, IsFirstFault}
use Rattle.lfs_values.specs.declared.cause.Cause.{Cause}
use Rattle.lfs_values.specs.declared.cause.Cause.TheVariants as causes
use Rattle.lfs_words.specs.declared.command.LfsCommand.{LfsCommand}
use Rattle.lfs_words.specs.Grammar.{IsLine, IsFaultAt, IsRefused, IsCause}
use Rattle.lfs_words.specs.Parts.{◌>>=◌}
use Rattle.lfs_words.specs.Reading.{place_at, read_of}
use Rattle.lfs_words.proofs.Answering.{first as lfs_cause, no_memory}
use Rattle.object_target.specs.declared.fail.Fail.{Fail}
use Rattle.script_values.specs.declared.what.What.TheVariants as what
use Rattle.script_text.specs.declared.error.LineError.{LineError}
use Rattle.script_text.specs.declared.error.LineError.TheVariants as faults
use Rattle.script_text.specs.declared.lead.Lead.{Lead}
use Rattle.script_text.specs.declared.lead.Lead.TheVariants as leads
use Rattle.script_text.specs.declared.lead.Verb.{Verb}
use Rattle.script_text.specs.declared.lead.Verb.TheVariants as verbs
use Rattle.script_text.specs.declared.state.Version.{Version}
use Rattle.script_text.specs.declared.state.Version.TheVariants as versions
use Rattle.script_text.specs.declared.state.Head.{Head}
use Rattle.script_text.specs.declared.state.Body.{Body}
use Rattle.script_text.specs.declared.state.State.{State}
use Rattle.script_text.specs.declared.state.State.TheVariants as state
use Rattle.script_text.specs.CommandLines.{lfs_by, command_by}
use Rattle.script_text.specs.HeadLines.{version_line, targets_line, mirrors_line, client_line, fail_one_line, fail_line}
use Rattle.script_text.specs.Keeping.{IsGoodHead, IsGoodBody, IsGood}
use Rattle.script_text.specs.Leads.{lead_of, is_comment, unplaced}
use Rattle.script_text.specs.Step.{knows_mirrors, next_client, with_command, count_of, behind_start, behind_version, behind_targets, behind_head, client_behind, command_behind, behind_client, said, words_line}
use Rattle.script_text.proofs.LeadLaws.{lead_takes}
use Rattle.script_text.specs.Causes.{IsAt, IsTold, IsWordsCause}
use Rattle.script_text.specs.Forms.{Number, Fit, IsOneFail, IsFailsRange, AreFailWords, AreCommandWords, Behind, Fits}
use Rattle.script_text.proofs.FirstFaults.{Words, here, at_behind, told_behind}
use Rattle.script_text.proofs.FreeCalls.{true_false}
use Rattle.script_text.proofs.LineFaults.{version_told, targets_told, mirrors_told, client_told, read_told, write_told, truncate_told, evict_told, rot_told, one_rest, one_told}
use Rattle.script_text.proofs.RangeFaults.{Otherwise, range_told}

-- ---- what goes on where

-- what fails is the one or the other
pub failed : {E A B P : Type 0} (r : Result A E) (f : A → Result B E) (e : E) → r >>= f ≡ Err e → (r ≡ Err e → P) → ((x : A) → r ≡ Ok x → f x ≡ Err e → P) → P
failed (Ok x) f e h stops on = on x refl h
failed (Err c) f e h stops on = stops (let same : c ≡ e = cc in ap (λ x. Err x) same)

-- a line that isn't skipped
into : (s : State) (lead : Lead) (word : List ℕ) (ys : Words) → lead_of word ≡ lead → Behind s lead ys → Fits s (word ∷ ys)
into s lead word ys l h = inr (subst (λ (x : Lead). Behind s x ys) (sym l) h)

out_of : (s : State) (lead : Lead) (word : List ℕ) (ys : Words) → lead_of word ≡ lead → is_comment word ≡ false → Fits s (word ∷ ys) → Behind s lead ys
out_of s lead word ys l c (inl t) = absurd (true_false (is_comment word) t c)
out_of s lead word ys l c (inr h) = subst (λ (x : Lead). Behind s x ys) l h

nothing : (s : State) → Begins (Fits s) []
nothing s = ([], tt)

-- the first word may not stand
first_at : (s : State) (lead : Lead) (word : List ℕ) (words : Words) → lead_of word ≡ lead → is_comment word ≡ false → ((ys : Words) → Behind s lead ys → ⊥) → IsAt (Fits s) 0 (word ∷ words) 1
first_at s lead word words l c never = (0, refl, here (Fits s) word words (nothing s) (λ more h. never more (out_of s lead word more l c h)))

-- it stands, and the words behind it go wrong
goes_on : (s : State) (lead : Lead) (word : List ℕ) (words : Words) (error : LineError) (M : Words → Type 0) → lead_of word ≡ lead → is_comment word ≡ false → ((ys : Words) → M ys → Behind s lead ys) → ((ys : Words) → Behind s lead ys → M ys)
    → IsTold M 1 words error → IsTold (Fits s) 0 (word ∷ words) error
goes_on s lead word words error M l c on back h =
    told_behind (Fits s) M 0 word words error (λ ys k. into s lead word ys l (on ys k)) (λ ys k. back ys (out_of s lead word ys l c k)) h

-- ---- a line that may not stand

unplaced_told : (s : State) (knows : Bool) (lead : Lead) (words : Words) (error : LineError) → IsAt (Fits s) 0 words 1 → unplaced knows lead ≡ error → IsTold (Fits s) 0 words error
unplaced_told s knows leads.Other words error h e = subst (λ (x : LineError). IsTold (Fits s) 0 words x) e h
unplaced_told s true leads.Mirrors words error h e = subst (λ (x : LineError). IsTold (Fits s) 0 words x) e (inl h)
unplaced_told s false leads.Mirrors words error h e = subst (λ (x : LineError). IsTold (Fits s) 0 words x) e h
unplaced_told s knows leads.Script words error h e = subst (λ (x : LineError). IsTold (Fits s) 0 words x) e (inl h)
unplaced_told s knows leads.Targets words error h e = subst (λ (x : LineError). IsTold (Fits s) 0 words x) e (inl h)
unplaced_told s knows leads.Fail words error h e = subst (λ (x : LineError). IsTold (Fits s) 0 words x) e (inl h)
unplaced_told s knows leads.Client words error h e = subst (λ (x : LineError). IsTold (Fits s) 0 words x) e (inl h)
unplaced_told s knows (leads.Command verb) words error h e = subst (λ (x : LineError). IsTold (Fits s) 0 words x) e (inl h)
unplaced_told s knows leads.Schedule words error h e = subst (λ (x : LineError). IsTold (Fits s) 0 words x) e (inl h)

abbrev wrong : LineError → Result State LineError
wrong error = Err error

misplaced : (s : State) (knows : Bool) (lead : Lead) (word : List ℕ) (words : Words) (error : LineError) → lead_of word ≡ lead → is_comment word ≡ false → ((ys : Words) → Behind s lead ys → ⊥) → wrong (unplaced knows lead) ≡ wrong error → IsWordsCause s (word ∷ words) error
misplaced s knows lead word words error l c never e = let same : unplaced knows lead ≡ error = cc in inl (unplaced_told s knows lead (word ∷ words) error (first_at s lead word words l c never) same)

-- ---- lines before the clients

start_cause : (lead : Lead) (word : List ℕ) (words : Words) (error : LineError) → lead_of word ≡ lead → is_comment word ≡ false → behind_start lead words ≡ Err error → IsWordsCause state.Start (word ∷ words) error
start_cause leads.Script word words error l c e =
    failed (version_line words) _ error e (λ f. inl (goes_on state.Start leads.Script word words error (Fit (Number 1 2 ∷ [])) l c (λ ys h. h) (λ ys h. h) (version_told words error f))) (λ x is g. absurd cc)
start_cause lead word words error l c e = misplaced state.Start true lead word words error l c (λ ys h. h) e

version_cause : (version : Version) (lead : Lead) (word : List ℕ) (words : Words) (error : LineError) → lead_of word ≡ lead → is_comment word ≡ false → behind_version version lead words ≡ Err error → IsWordsCause (state.Version version) (word ∷ words) error
version_cause version leads.Targets word words error l c e =
    failed (targets_line words) _ error e (λ f. inl (goes_on (state.Version version) leads.Targets word words error (Fit (Number 1 64 ∷ [])) l c (λ ys h. h) (λ ys h. h) (targets_told words error f))) (λ x is g. absurd cc)
version_cause version lead word words error l c e = misplaced (state.Version version) (knows_mirrors version) lead word words error l c (λ ys h. h) e

targets_cause : (targets : ℕ) (lead : Lead) (word : List ℕ) (words : Words) (error : LineError) → lead_of word ≡ lead → is_comment word ≡ false → behind_targets targets lead words ≡ Err error → IsWordsCause (state.Targets targets) (word ∷ words) error
targets_cause targets leads.Mirrors word words error l c e =
    failed (mirrors_line words) _ error e (λ f. inl (goes_on (state.Targets targets) leads.Mirrors word words error (Fit (Number 1 32 ∷ [])) l c (λ ys h. h) (λ ys h. h) (mirrors_told words error f))) (λ x is g. absurd cc)
targets_cause targets lead word words error l c e = misplaced (state.Targets targets) true lead word words error l c (λ ys h. h) e

-- ---- calls that fail

abbrev wrong_fails : LineError → Result (List Fail) LineError
wrong_fails error = Err error

one_cause : (head : Head) (word : List ℕ) (words : Words) (error : LineError) → head.version ≡ versions.One → lead_of word ≡ leads.Fail → is_comment word ≡ false → IsGoodHead head → fail_one_line head.targets head.fails words ≡ Err error
    → IsWordsCause (state.Fails head) (word ∷ words) error
one_cause head word words error v l c good e =
    let s = state.Fails head in
    cond_both {A = Result (Unit {0}) LineError} (ltb 4096 (length head.fails + 1)) (Err (faults.TooMany what.Fails)) (Ok tt) (λ r. (r >>= λ _. one_rest head.targets head.fails words) ≡ Err error → IsWordsCause s (word ∷ words) error)
    (λ b f.
    let many = ltb-true 4096 (length head.fails + 1) b in
    let same : faults.TooMany what.Fails ≡ error = cc in
    inl (subst (λ (x : LineError). IsTold (Fits s) 0 (word ∷ words) x) same
    (first_at s leads.Fail word words l c (λ ys h. let room = (subst (λ (w : Version). AreFailWords w head ys) v h).0 in omega (arith, many, room)))))
    (λ b f.
    let few = ltb-false 4096 (length head.fails + 1) b in
    let room : length head.fails < 4096 = omega (arith, few) in
    inl (goes_on s leads.Fail word words error (IsOneFail head.targets head.fails) l c (λ ys k. subst (λ (w : Version). AreFailWords w head ys) (sym v) (room, k)) (λ ys h. (subst (λ (w : Version). AreFailWords w head ys) v h).1)
    (one_told head.targets head.fails words error good.targets.0 good.targets.1 good.few_fails f))) e

range_on : (head : Head) (ys : Words) → head.version ≡ versions.Two → IsFailsRange head.targets head.fails ys → AreFailWords head.version head ys
range_on head ys v h = subst (λ (w : Version). AreFailWords w head ys) (sym v) h

range_back : (head : Head) (ys : Words) → head.version ≡ versions.Two → AreFailWords head.version head ys → IsFailsRange head.targets head.fails ys
range_back head ys v h = subst (λ (w : Version). AreFailWords w head ys) v h

range_by : (head : Head) (word : List ℕ) (words : Words) (error : LineError) → head.version ≡ versions.Two → lead_of word ≡ leads.Fail → is_comment word ≡ false → IsTold (IsFailsRange head.targets head.fails) 1 words error ⊎ Otherwise head words error
    → IsWordsCause (state.Fails head) (word ∷ words) error
range_by head word words error v l c (inl h) = inl (goes_on (state.Fails head) leads.Fail word words error (IsFailsRange head.targets head.fails) l c (λ ys k. range_on head ys v k) (λ ys k. range_back head ys v k) h)
range_by head word words error v l c (inr (inl h)) =
    let s = state.Fails head in
    inr (inl (
      h.0,
      head,
      refl,
      v,
      words,
      ap (λ (w : List ℕ). w ∷ words) (lead_takes word leads.Fail l),
      at_behind (Fits s) (IsFailsRange head.targets head.fails) 0 word words 4 (λ ys k. into s leads.Fail word ys l (range_on head ys v k)) (λ ys k. range_back head ys v (out_of s leads.Fail word ys l c k)) h.1,
    ))
range_by head word words error v l c (inr (inr h)) = inr (inr (inl (h.0, head, refl, v, words, ap (λ (w : List ℕ). w ∷ words) (lead_takes word leads.Fail l), h.1)))

fails_cause : (version : Version) (head : Head) (word : List ℕ) (words : Words) (error : LineError) → head.version ≡ version → lead_of word ≡ leads.Fail → is_comment word ≡ false → IsGoodHead head → fail_line version head.targets head.fails words ≡ Err error
    → IsWordsCause (state.Fails head) (word ∷ words) error
fails_cause versions.One head word words error v l c good e = one_cause head word words error v l c good e
fails_cause versions.Two head word words error v l c good e = range_by head word words error v l c (range_told head words error good.targets.0 good.targets.1 good.few_fails e)

head_cause : (head : Head) (lead : Lead) (word : List ℕ) (words : Words) (error : LineError) → lead_of word ≡ lead → is_comment word ≡ false → IsGoodHead head → behind_head head lead words ≡ Err error → IsWordsCause (state.Fails head) (word ∷ words) error
head_cause head leads.Fail word words error l c good e = failed (fail_line head.version head.targets head.fails words) _ error e (λ f. fails_cause head.version head word words error refl l c good f) (λ x is g. absurd cc)
head_cause head leads.Client word words error l c good e =
    failed (client_line 1 words) _ error e (λ f. inl (goes_on (state.Fails head) leads.Client word words error (Fit (Number 1 1 ∷ [])) l c (λ ys h. h) (λ ys h. h) (client_told 1 words error (omega arith) f))) (λ x is g. absurd cc)
head_cause head lead word words error l c good e = misplaced (state.Fails head) (knows_mirrors head.version) lead word words error l c (λ ys h. h) e

-- ---- clients

next_cause : (body : Body) (word : List ℕ) (words : Words) (error : LineError) → lead_of word ≡ leads.Client → is_comment word ≡ false → IsGoodBody body → client_behind body words ≡ Err error → IsWordsCause (state.Commands body) (word ∷ words) error
next_cause body word words error l c good e =
    let s = state.Commands body in
    let next = count_of body + 1 in
    cond_both {A = Result (Unit {0}) LineError} (ltb (count_of body) 16) (Ok tt) (Err (faults.TooMany what.Clients)) (λ r. (r >>= λ _. client_line next words >>= λ _. Ok (state.Commands (next_client body))) ≡ Err error → IsWordsCause s (word ∷ words) error)
    (λ b f.
    let few = ltb-true (count_of body) 16 b in
    failed (client_line next words) _ error f
    (λ g. inl (goes_on s leads.Client word words error (Fit (Number next next ∷ [])) l c (λ ys h. (few, h)) (λ ys h. h.1) (client_told next words error (omega (arith, few)) g)))
    (λ x is g. absurd cc))
    (λ b f.
    let many = ltb-false (count_of body) 16 b in
    let same : faults.TooMany what.Clients ≡ error = cc in
    inl (subst (λ (x : LineError). IsTold (Fits s) 0 (word ∷ words) x) same (first_at s leads.Client word words l c (λ ys h. let room = h.0 in omega (arith, many, room))))) e

-- ---- the words of `lfs`

abbrev lfs_word : List ℕ
lfs_word = codes "lfs"

lfs_begins : (s : State) (most : ℕ) (rest : Words) (at : ℕ) → ((ys : Words) → IsLine most (lfs_word ∷ ys) → Fits s (lfs_word ∷ ys)) → Begins (IsLine most) (take at (lfs_word ∷ rest)) → Begins (Fits s) (take at (lfs_word ∷ rest))
lfs_begins s most rest zero on h = nothing s
lfs_begins s most rest (suc at) on h = (h.0, on (take at rest ++ h.0) h.1)

lfs_stops : (s : State) (most : ℕ) (rest : Words) (at : ℕ) → ((ys : Words) → Fits s (lfs_word ∷ ys) → IsLine most (lfs_word ∷ ys)) → (Begins (IsLine most) (take (at + 1) (lfs_word ∷ rest)) → ⊥) → Begins (Fits s) (take (at + 1) (lfs_word ∷ rest)) → ⊥
lfs_stops s most rest zero back never h = never (h.0, back h.0 h.1)
lfs_stops s most rest (suc at) back never h =
    let moved : suc at + 1 ≡ suc (at + 1) = omega arith in
    let g = subst (λ (n : ℕ). Begins (Fits s) (take n (lfs_word ∷ rest))) moved h in
    never (subst (λ (n : ℕ). Begins (IsLine most) (take n (lfs_word ∷ rest))) (sym moved) (g.0, back (take (at + 1) rest ++ g.0) g.1))

lfs_fault : (s : State) (most : ℕ) (rest : Words) (at : ℕ) → ((ys : Words) → IsLine most (lfs_word ∷ ys) → Fits s (lfs_word ∷ ys)) → ((ys : Words) → Fits s (lfs_word ∷ ys) → IsLine most (lfs_word ∷ ys))
    → IsFirstFault (IsLine most) (lfs_word ∷ rest) at → IsFirstFault (Fits s) (lfs_word ∷ rest) at
lfs_fault s most rest at on back f =
    record { within = f.within; begins = lfs_begins s most rest at on f.begins; stops = λ lt h. lfs_stops s most rest at back (f.stops lt) h; none = λ h. f.none (back rest h) }

lfs_at : (s : State) (most : ℕ) (rest : Words) (place : ℕ) → ((ys : Words) → IsLine most (lfs_word ∷ ys) → Fits s (lfs_word ∷ ys)) → ((ys : Words) → Fits s (lfs_word ∷ ys) → IsLine most (lfs_word ∷ ys)) → IsFaultAt most (lfs_word ∷ rest) place
    → IsAt (Fits s) 0 (lfs_word ∷ rest) place
lfs_at s most rest place on back h =
    let from_start : h.0 ≡ 0 + h.0 = omega arith in
    (h.0, h.1 ∙ ap place_at from_start, lfs_fault s most rest h.0 on back h.2)

-- the words are those of a command, which is wrong as a whole
whole_cause : (body : Body) (words : Words) (cause : Cause) → IsRefused body.head.most words cause → IsWordsCause (state.Commands body) words (faults.Bad cause)
whole_cause body words cause h = inr (inr (inr (body, refl, cause, refl, h)))

lfs_told : (body : Body) (rest : Words) (cause : Cause) → ((ys : Words) → IsLine body.head.most (lfs_word ∷ ys) → Fits (state.Commands body) (lfs_word ∷ ys)) → ((ys : Words) → Fits (state.Commands body) (lfs_word ∷ ys) → IsLine body.head.most (lfs_word ∷ ys))
    → cause ≢ causes.Memory → IsCause body.head.most (lfs_word ∷ rest) cause → IsWordsCause (state.Commands body) (lfs_word ∷ rest) (faults.Bad cause)
lfs_told body rest (causes.UnknownWord place) on back n h = inl (lfs_at (state.Commands body) body.head.most rest place on back h)
lfs_told body rest causes.Missing on back n h = inl (lfs_fault (state.Commands body) body.head.most rest (length (lfs_word ∷ rest)) on back h)
lfs_told body rest (causes.Extra place) on back n h = inl (lfs_at (state.Commands body) body.head.most rest place on back h)
lfs_told body rest (causes.BadNumber place) on back n h = inl (lfs_at (state.Commands body) body.head.most rest place on back h)
lfs_told body rest (causes.BadName place) on back n h = inl (lfs_at (state.Commands body) body.head.most rest place on back h)
lfs_told body rest (causes.Repeated place) on back n h = inl (lfs_at (state.Commands body) body.head.most rest place on back h)
lfs_told body rest (causes.Conflict place) on back n h = inl (lfs_at (state.Commands body) body.head.most rest place on back h)
lfs_told body rest causes.SameFile on back n h = whole_cause body (lfs_word ∷ rest) causes.SameFile h
lfs_told body rest causes.NoMirror on back n h = whole_cause body (lfs_word ∷ rest) causes.NoMirror h
lfs_told body rest causes.TooManyMirrors on back n h = whole_cause body (lfs_word ∷ rest) causes.TooManyMirrors h
lfs_told body rest causes.TooManyParts on back n h = whole_cause body (lfs_word ∷ rest) causes.TooManyParts h
lfs_told body rest (causes.Unaligned at) on back n h = whole_cause body (lfs_word ∷ rest) (causes.Unaligned at) h
lfs_told body rest (causes.Gap at) on back n h = whole_cause body (lfs_word ∷ rest) (causes.Gap at) h
lfs_told body rest causes.Memory on back n h = absurd (n refl)
lfs_told body rest cause on back n h = absurd h

lfs_by_cause : (body : Body) (rest : Words) (error : LineError) (r : Result LfsCommand Cause) → read_of body.head.most (lfs_word ∷ rest) ≡ r → lead_of lfs_word ≡ leads.Command verbs.Lfs → body.commands < 4096 → lfs_by r ≡ Err error
    → IsWordsCause (state.Commands body) (lfs_word ∷ rest) error
lfs_by_cause body rest error (Ok command) r l room e = absurd cc
lfs_by_cause body rest error (Err cause) r l room e =
    let s = state.Commands body in
    let same : faults.Bad cause ≡ error = cc in
    subst (λ (x : LineError). IsWordsCause s (lfs_word ∷ rest) x) same
    (lfs_told body rest cause (λ ys h. into s (leads.Command verbs.Lfs) lfs_word ys l (room, h)) (λ ys h. (out_of s (leads.Command verbs.Lfs) lfs_word ys l refl h).1) (no_memory body.head.most (lfs_word ∷ rest) cause r) (lfs_cause body.head.most (lfs_word ∷ rest) cause r))

-- ---- commands

plain_cause : (body : Body) (verb : Verb) (word : List ℕ) (words : Words) (error : LineError) → lead_of word ≡ leads.Command verb → is_comment word ≡ false → body.commands < 4096 → IsTold (AreCommandWords body.head.targets body.head.most verb) 1 words error
    → IsWordsCause (state.Commands body) (word ∷ words) error
plain_cause body verb word words error l c room h =
    inl (goes_on (state.Commands body) (leads.Command verb) word words error (AreCommandWords body.head.targets body.head.most verb) l c (λ ys k. (room, k)) (λ ys k. k.1) h)

verb_cause : (body : Body) (verb : Verb) (word : List ℕ) (words : Words) (error : LineError) → lead_of word ≡ leads.Command verb → is_comment word ≡ false → IsGoodBody body → body.commands < 4096
    → command_by body.head.targets body.head.most verb (word ∷ words) words ≡ Err error → IsWordsCause (state.Commands body) (word ∷ words) error
verb_cause body verbs.Read word words error l c good room e = plain_cause body verbs.Read word words error l c room (read_told words error e)
verb_cause body verbs.Write word words error l c good room e = plain_cause body verbs.Write word words error l c room (write_told words error e)
verb_cause body verbs.Truncate word words error l c good room e = plain_cause body verbs.Truncate word words error l c room (truncate_told words error e)
verb_cause body verbs.Evict word words error l c good room e = plain_cause body verbs.Evict word words error l c room (evict_told words error e)
verb_cause body verbs.Rot word words error l c good room e = plain_cause body verbs.Rot word words error l c room (rot_told body.head.targets words error good.head.targets.0 good.head.targets.1 e)
verb_cause body verbs.Lfs word words error l c good room e =
    let is : word ≡ lfs_word = lead_takes word (leads.Command verbs.Lfs) l in
    let lead : lead_of lfs_word ≡ leads.Command verbs.Lfs = ap lead_of (sym is) ∙ l in
    let read : lfs_by (read_of body.head.most (lfs_word ∷ words)) ≡ Err error = ap (λ (w : List ℕ). lfs_by (read_of body.head.most (w ∷ words))) (sym is) ∙ e in
    subst (λ (w : List ℕ). IsWordsCause (state.Commands body) (w ∷ words) error) (sym is) (lfs_by_cause body words error (read_of body.head.most (lfs_word ∷ words)) refl lead room read)

command_cause : (body : Body) (verb : Verb) (word : List ℕ) (words : Words) (error : LineError) → lead_of word ≡ leads.Command verb → is_comment word ≡ false → IsGoodBody body → command_behind body verb (word ∷ words) words ≡ Err error
    → IsWordsCause (state.Commands body) (word ∷ words) error
command_cause body verb word words error l c good e =
    let s = state.Commands body in
    cond_both {A = Result (Unit {0}) LineError} (ltb body.commands 4096) (Ok tt) (Err (faults.TooMany what.Commands))
    (λ r. (r >>= λ _. command_by body.head.targets body.head.most verb (word ∷ words) words >>= λ command. Ok (state.Commands (with_command body command))) ≡ Err error → IsWordsCause s (word ∷ words) error)
    (λ b f. failed (command_by body.head.targets body.head.most verb (word ∷ words) words) _ error f (λ g. verb_cause body verb word words error l c good (ltb-true body.commands 4096 b) g) (λ x is g. absurd cc))
    (λ b f.
    let many = ltb-false body.commands 4096 b in
    let same : faults.TooMany what.Commands ≡ error = cc in
    inl (subst (λ (x : LineError). IsTold (Fits s) 0 (word ∷ words) x) same (first_at s (leads.Command verb) word words l c (λ ys h. let room = h.0 in omega (arith, many, room))))) e

body_cause : (body : Body) (lead : Lead) (word : List ℕ) (words : Words) (error : LineError) → lead_of word ≡ lead → is_comment word ≡ false → IsGoodBody body → behind_client body lead (word ∷ words) words ≡ Err error → IsWordsCause (state.Commands body) (word ∷ words) error
body_cause body leads.Client word words error l c good e = next_cause body word words error l c good e
body_cause body (leads.Command verb) word words error l c good e = command_cause body verb word words error l c good e
body_cause body lead word words error l c good e = misplaced (state.Commands body) (knows_mirrors body.head.version) lead word words error l c (λ ys h. h) e

-- ---- any line

said_cause : (s : State) (lead : Lead) (word : List ℕ) (words : Words) (error : LineError) → lead_of word ≡ lead → is_comment word ≡ false → IsGood s → said s lead (word ∷ words) words ≡ Err error → IsWordsCause s (word ∷ words) error
said_cause state.Start lead word words error l c good e = start_cause lead word words error l c e
said_cause (state.Version version) lead word words error l c good e = version_cause version lead word words error l c e
said_cause (state.Targets targets) lead word words error l c good e = targets_cause targets lead word words error l c e
said_cause (state.Fails head) lead word words error l c good e = head_cause head lead word words error l c good e
said_cause (state.Commands body) lead word words error l c good e = body_cause body lead word words error l c good e

-- the cause of the words of a line
pub words_cause : (s : State) (words : Words) (error : LineError) → IsGood s → words_line s words ≡ Err error → IsWordsCause s words error
words_cause s [] error good e = absurd cc
words_cause s (word ∷ words) error good e =
    cond_both (is_comment word) (Ok s) (said s (lead_of word) (word ∷ words) words) (λ r. r ≡ Err error → IsWordsCause s (word ∷ words) error) (λ b f. absurd cc) (λ b f. said_cause s (lead_of word) word words error refl b good f) e
