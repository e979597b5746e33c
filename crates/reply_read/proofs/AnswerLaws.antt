-- Words are read as the answer whose words they are, and no others are.
use Rattle.std.proofs.Common.{◌≡◌, ℕ, ◌≤◌, List, [], ◌∷◌, length, map, Option, Some, None, Result, Ok, Err, refl, sym, ap, subst, ◌∙◌, arith}
use denote.Ref.{Bor}
use Rattle.std.specs.Prelude.{codes, IfOk, ◌↔◌}
use Rattle.std.specs.Option.{option_map}
use Rattle.std.specs.List.{AllByRecursion}
use Rattle.std.specs.Str.{bytes_eq}
use Rattle.std.specs.Fmt.{decimal}
use Rattle.std.proofs.lemmas.Bool.{cond_both}
use Rattle.flr_base.specs.Runs.{hex}
use Rattle.flr_base.specs.declared.reply.Reply.{Reply}
use Rattle.flr_base.specs.declared.reply.Reply.TheVariants as reply
use Rattle.text_words.specs.Bytes.{hex_byte}
use Rattle.text_words.specs.Items.{call_text, left_text}
use Rattle.text_words.specs.Lists.{list_text}
use Rattle.text_words.specs.Sizes.{end_text}
use Rattle.text_words.specs.Words.{AreWords}
use Rattle.report_text.specs.Answers.{reply_words}
use Rattle.reply_read.specs.declared.answer.Answer.{Answer}
use Rattle.reply_read.specs.declared.answer.Answer.TheVariants as answers
use Rattle.reply_read.specs.Limits.{IsShort, IsAnswer, answer_words}
use Rattle.reply_read.specs.Values.{number_32, number_64, end_in, ids_in, lefts_in, calls_in}
use Rattle.reply_read.specs.Replies.{pick, behind, one_table, plain_table, owned_table, three_table, five_table, long_of, or_else, whole, one_of, plain_two, owned_two, no_primary, sizes, three_of, fault, four_of, copied, differ_at, five_of, answer_of}
use Rattle.reply_read.proofs.WordLaws.{OneWord, found, mapped, same_word, word_16, word_32, word_64, word_client, word_byte, word_end, word_name, word_bytes, word_call, word_ids, word_lefts, word_calls}

-- ---- tables

-- what the table says of a word, it says in one of its rows
pick_takes : {R : Type 0} (P : List ℕ → R → Type 0) (verb : List ℕ) (table : List (List ℕ × Option R)) (r : R) → AllByRecursion (λ (entry : List ℕ × Option R). entry.1 ≡ Some r → P entry.0 r) table → pick verb table ≡ Some r → P verb r
pick_takes P verb [] r all e = absurd cc
pick_takes {R} P verb (entry ∷ table) r all e = cond_both (bytes_eq verb entry.0) entry.1 (pick verb table) (λ o. o ≡ Some r → P verb r)
    (λ t f. subst (λ (v : List ℕ). P v r) (sym (same_word verb entry.0 t)) (all.0 f))
    (λ t f. pick_takes P verb table r all.1 f) e

pub behind_takes : {R : Type 0} (key word : List ℕ) (o : Option R) (r : R) → behind key word o ≡ Some r → (word ≡ key) × (o ≡ Some r)
behind_takes key word o r e = cond_both (bytes_eq word key) o None (λ p. p ≡ Some r → (word ≡ key) × (o ≡ Some r)) (λ t f. (same_word word key t, f)) (λ t f. absurd cc) e

-- ---- answers of one line

abbrev Says : List (List ℕ) → Reply → Type 0
Says words r = IsShort r × (words ≡ reply_words r)

abbrev Tells : List (List ℕ) → Answer → Type 0
Tells words a = IsAnswer a × (words ≡ answer_words a)

-- a row of a key and one value
row : {A R : Type 0} {print : A → List ℕ} {read : List ℕ → Option A} {Is : A → Type 0} → OneWord print read Is → (Good : List (List ℕ) → R → Type 0) (make : A → R) (key word : List ℕ)
    → ((x : A) → Is x → Good (key ∷ print x ∷ []) (make x)) → (r : R) → option_map make (read word) ≡ Some r → Good (key ∷ word ∷ []) r
row {print = print} {read = read} o Good make key word h r e =
    let m = mapped make (read word) r e in
    let t = o.takes word m.0 m.1 in
    subst (Good (key ∷ word ∷ [])) m.2 (subst (λ (w : List ℕ). Good (key ∷ w ∷ []) (make m.0)) (sym t.1) (h m.0 t.0))

plain_takes : (verb a : List ℕ) (r : Reply) → plain_two verb a ≡ Some r → Says (verb ∷ a ∷ []) r
unfolding plain_two
plain_takes verb a r e = pick_takes (λ (v : List ℕ) (r : Reply). Says (v ∷ a ∷ []) r) verb (plain_table a) r (
  row word_16 Says (λ n. reply.Removed n) (codes "removed") a (λ n h. (h, refl)) r,
  (
    row word_client Says (λ n. reply.EvictedClient n) (codes "evicted") a (λ n h. (h, refl)) r,
    (
      row word_32 Says (λ n. reply.Same n) (codes "same") a (λ n h. (h, refl)) r,
      (
        row word_64 Says (λ n. reply.AllOffline n) (codes "alloffline") a (λ n h. (h, refl)) r,
        (
          row word_call Says (λ c. reply.WriteFault c) (codes "failed") a (λ c h. (h, refl)) r,
          (
            row word_client Says (λ n. reply.Busy n) (codes "busy") a (λ n h. (h, refl)) r,
            (
              row word_16 Says (λ n. reply.LastFresh n) (codes "lastfresh") a (λ n h. (h, refl)) r,
              (
                row word_16 Says (λ n. reply.StaleMirror n) (codes "stalemirror") a (λ n h. (h, refl)) r,
                (
                  row word_16 Says (λ n. reply.NoMirrorId n) (codes "nomirror") a (λ n h. (h, refl)) r,
                  (
                    row word_32 Says (λ n. reply.NoComponent n) (codes "nocomponent") a (λ n h. (h, refl)) r,
                    (
                      row word_call Says (λ c. reply.CopyFault c) (codes "copyfailed") a (λ c h. (h, refl)) r,
                      (row word_call Says (λ c. reply.VerifyFault c) (codes "verifyfailed") a (λ c h. (h, refl)) r, tt),
                    ),
                  ),
                ),
              ),
            ),
          ),
        ),
      ),
    ),
  ),
) e

owned_takes : (verb word : List ℕ) (a : Answer) → owned_two verb word ≡ Some a → Tells (verb ∷ word ∷ []) a
unfolding owned_two
owned_takes verb word a e = pick_takes (λ (v : List ℕ) (a : Answer). Tells (v ∷ word ∷ []) a) verb (owned_table word) a (
  row (word_name 141) Tells (λ n. answers.Whole (reply.Split n)) (codes "split") word (λ n h. (h, refl)) a,
  (
    row (word_name 141) Tells (λ n. answers.Whole (reply.Exists n)) (codes "exists") word (λ n h. (h, refl)) a,
    (
      row (word_name 128) Tells (λ n. answers.Whole (reply.NoFile n)) (codes "nofile") word (λ n h. (h, refl)) a,
      (
        row word_ids Tells (λ ids. answers.Whole (reply.Merged ids)) (codes "merged") word (λ ids h. (h, refl)) a,
        (
          row word_bytes Tells (λ bytes. answers.Bytes bytes) (codes "bytes") word (λ bytes h. (h, refl)) a,
          (row word_32 Tells (λ n. answers.Differ n) (codes "differ") word (λ n h. (h, refl)) a, tt),
        ),
      ),
    ),
  ),
) e

one_takes : (verb : List ℕ) (a : Answer) → one_of verb ≡ Some a → Tells (verb ∷ []) a
unfolding one_of
one_takes verb a e = pick_takes (λ (v : List ℕ) (a : Answer). Tells (v ∷ []) a) verb one_table a (
  is (codes "created") (answers.Whole reply.Created) (tt, refl),
  (
    is (codes "layout") answers.Layout (tt, refl),
    (
      is (codes "set") (answers.Whole reply.Set) (tt, refl),
      (
        is (codes "written") (answers.Whole reply.Written) (tt, refl),
        (
          is (codes "truncated") (answers.Whole reply.Truncated) (tt, refl),
          (
            is (codes "rotted") (answers.Whole reply.Rotted) (tt, refl),
            (
              is (codes "toomanyfiles") (answers.Whole reply.TooManyFiles) (tt, refl),
              (
                is (codes "toobig") (answers.Whole reply.TooBig) (tt, refl),
                (
                  is (codes "toomanymirrors") (answers.Whole reply.TooManyMirrors) (tt, refl),
                  (
                    is (codes "toomanycomponents") (answers.Whole reply.TooManyComponents) (tt, refl),
                    (is (codes "noobject") (answers.Whole reply.NoObject) (tt, refl), tt),
                  ),
                ),
              ),
            ),
          ),
        ),
      ),
    ),
  ),
) e
  where
    is : (key : List ℕ) (x : Answer) → Tells (key ∷ []) x → Some x ≡ Some a → Tells (key ∷ []) a
    is key x h f = let same : x ≡ a = cc in subst (Tells (key ∷ [])) same h

whole_takes : (words : List (List ℕ)) (o : Option Reply) (a : Answer) → ((r : Reply) → o ≡ Some r → Says words r) → whole o ≡ Some a → Tells words a
whole_takes words o a h e =
    let m = mapped (λ (r : Reply). answers.Whole r) o a e in
    subst (Tells words) m.2 (h m.0 m.1)

two_by : (verb word : List ℕ) (a : Answer) (o : Option Reply) → plain_two verb word ≡ o → or_else (whole o) (owned_two verb word) ≡ Some a → Tells (verb ∷ word ∷ []) a
two_by verb word a None is e = owned_takes verb word a e
two_by verb word a (Some r) is e = whole_takes (verb ∷ word ∷ []) (Some r) a (λ q f. plain_takes verb word q (is ∙ f)) e

-- words that are the same one by one
three : (u v w x y z : List ℕ) → u ≡ x → v ≡ y → w ≡ z → u ∷ v ∷ w ∷ [] ≡ x ∷ y ∷ z ∷ []
three u v w x y z p q r = rw (p, q, r) refl

no_primary_takes : (a b : List ℕ) (r : Reply) → no_primary a b ≡ Some r → Says (codes "noprimary" ∷ a ∷ b ∷ []) r
no_primary_takes a b r e =
    let start = found _ (number_64 a) r e in
    let end = mapped (λ (n : ℕ). reply.NoPrimary (record { start = start.0; end = n })) (end_in b) r start.2 in
    let first = word_64.takes a start.0 start.1 in
    let last = word_end.takes b end.0 end.1 in
    subst (Says (codes "noprimary" ∷ a ∷ b ∷ [])) end.2 ((first.0, last.0), three (codes "noprimary") a b (codes "noprimary") (decimal start.0) (end_text (codes "EOF") end.0) refl first.1 last.1)

sizes_takes : (a b : List ℕ) (r : Reply) → sizes a b ≡ Some r → Says (codes "sizes" ∷ a ∷ b ∷ []) r
sizes_takes a b r e =
    let ours = found _ (number_64 a) r e in
    let theirs = mapped (λ (n : ℕ). reply.Sizes ours.0 n) (number_64 b) r ours.2 in
    let first = word_64.takes a ours.0 ours.1 in
    let last = word_64.takes b theirs.0 theirs.1 in
    subst (Says (codes "sizes" ∷ a ∷ b ∷ [])) theirs.2 ((first.0, last.0), three (codes "sizes") a b (codes "sizes") (decimal ours.0) (decimal theirs.0) refl first.1 last.1)

at_takes : (make : ℕ → Reply) (key a b : List ℕ) → ((n : ℕ) → n ≤ 4294967295 → Says (key ∷ codes "at" ∷ decimal n ∷ []) (make n)) → (r : Reply) → behind (codes "at") a (option_map make (number_32 b)) ≡ Some r → Says (key ∷ a ∷ b ∷ []) r
at_takes make key a b h r e =
    let k = behind_takes (codes "at") a (option_map make (number_32 b)) r e in
    let m = mapped make (number_32 b) r k.1 in
    let t = word_32.takes b m.0 m.1 in
    subst (Says (key ∷ a ∷ b ∷ [])) m.2 (subst (λ (words : List (List ℕ)). Says words (make m.0)) (sym (three key a b key (codes "at") (decimal m.0) refl k.0 t.1)) (h m.0 t.0))

three_takes : (verb a b : List ℕ) (r : Reply) → three_of verb a b ≡ Some r → Says (verb ∷ a ∷ b ∷ []) r
unfolding three_of
three_takes verb a b r e = pick_takes (λ (v : List ℕ) (r : Reply). Says (v ∷ a ∷ b ∷ []) r) verb (three_table a b) r (
  no_primary_takes a b r,
  (
    at_takes (λ n. reply.Evicted n) (codes "evicted") a b (λ n h. (h, refl)) r,
    (
      at_takes (λ n. reply.Broken n) (codes "broken") a b (λ n h. (h, refl)) r,
      (sizes_takes a b r, tt),
    ),
  ),
) e

four : (t u v w x y : List ℕ) (z : List ℕ) (k : List ℕ) → t ≡ x → u ≡ y → v ≡ z → w ≡ k → t ∷ u ∷ v ∷ w ∷ [] ≡ x ∷ y ∷ z ∷ k ∷ []
four t u v w x y z k p q r s = rw (p, q, r, s) refl

four_takes : (verb a b c : List ℕ) (r : Reply) → four_of verb a b c ≡ Some r → Says (verb ∷ a ∷ b ∷ c ∷ []) r
four_takes verb a b c r e =
    let one = behind_takes (codes "fault") verb (behind (codes "by") b (fault a c)) r e in
    let two = behind_takes (codes "by") b (fault a c) r one.1 in
    let byte = found _ (number_64 a) r two.1 in
    let calls = mapped (λ (cs : List _). reply.Fault byte.0 cs) (calls_in c) r byte.2 in
    let first = word_64.takes a byte.0 byte.1 in
    let last = word_calls.takes c calls.0 calls.1 in
    subst (Says (verb ∷ a ∷ b ∷ c ∷ [])) calls.2 ((first.0, last.0), four verb a b c (codes "fault") (decimal byte.0) (codes "by") (list_text call_text calls.0) one.0 first.1 two.0 last.1)

five : (s t u v w : List ℕ) (a b c d e : List ℕ) → s ≡ a → t ≡ b → u ≡ c → v ≡ d → w ≡ e → s ∷ t ∷ u ∷ v ∷ w ∷ [] ≡ a ∷ b ∷ c ∷ d ∷ e ∷ []
five s t u v w a b c d e g h i j k = rw (g, h, i, j, k) refl

copied_takes : (a b c d : List ℕ) (r : Reply) → behind (codes "cleared") a (behind (codes "left") c (copied b d)) ≡ Some r → Says (codes "copied" ∷ a ∷ b ∷ c ∷ d ∷ []) r
copied_takes a b c d r e =
    let one = behind_takes (codes "cleared") a (behind (codes "left") c (copied b d)) r e in
    let two = behind_takes (codes "left") c (copied b d) r one.1 in
    let ids = found _ (ids_in b) r two.1 in
    let lefts = mapped (λ ls. reply.Copied ids.0 ls) (lefts_in d) r ids.2 in
    let first = word_ids.takes b ids.0 ids.1 in
    let last = word_lefts.takes d lefts.0 lefts.1 in
    subst (Says (codes "copied" ∷ a ∷ b ∷ c ∷ d ∷ [])) lefts.2 ((first.0, last.0), five (codes "copied") a b c d (codes "copied") (codes "cleared") (list_text decimal ids.0) (codes "left") (list_text left_text lefts.0) refl one.0 first.1 two.0 last.1)

differ_takes : (a b c d : List ℕ) (r : Reply) → behind (codes "at") a (differ_at b c d) ≡ Some r → Says (codes "differs" ∷ a ∷ b ∷ c ∷ d ∷ []) r
differ_takes a b c d r e =
    let one = behind_takes (codes "at") a (differ_at b c d) r e in
    let offset = found _ (number_64 b) r one.1 in
    let ours = found _ (hex_byte c) r offset.2 in
    let theirs = mapped (λ (n : ℕ). reply.DifferAt offset.0 ours.0 n) (hex_byte d) r ours.2 in
    let first = word_64.takes b offset.0 offset.1 in
    let second = word_byte.takes c ours.0 ours.1 in
    let last = word_byte.takes d theirs.0 theirs.1 in
    subst (Says (codes "differs" ∷ a ∷ b ∷ c ∷ d ∷ [])) theirs.2 ((first.0, second.0, last.0), five (codes "differs") a b c d (codes "differs") (codes "at") (decimal offset.0) (hex ours.0) (hex theirs.0) refl one.0 first.1 second.1 last.1)

five_takes : (verb a b c d : List ℕ) (r : Reply) → five_of verb a b c d ≡ Some r → Says (verb ∷ a ∷ b ∷ c ∷ d ∷ []) r
five_takes verb a b c d r e = pick_takes (λ (v : List ℕ) (r : Reply). Says (v ∷ a ∷ b ∷ c ∷ d ∷ []) r) verb (five_table a b c d) r (copied_takes a b c d r, (differ_takes a b c d r, tt)) e

long_takes : (verb a b c : List ℕ) (more : List (List ℕ)) (r : Reply) → long_of verb a b c more ≡ Some r → Says (verb ∷ a ∷ b ∷ c ∷ more) r
long_takes verb a b c [] r e = four_takes verb a b c r e
long_takes verb a b c (d ∷ []) r e = five_takes verb a b c d r e
long_takes verb a b c (d ∷ f ∷ more) r e = absurd cc

pub answer_takes : (words : List (List ℕ)) (a : Answer) → answer_of words ≡ Some a → Tells words a
answer_takes [] a e = absurd cc
answer_takes (verb ∷ []) a e = one_takes verb a e
answer_takes (verb ∷ b ∷ []) a e = two_by verb b a (plain_two verb b) refl e
answer_takes (verb ∷ b ∷ c ∷ []) a e = whole_takes (verb ∷ b ∷ c ∷ []) (three_of verb b c) a (three_takes verb b c) e
answer_takes (verb ∷ b ∷ c ∷ d ∷ more) a e = whole_takes (verb ∷ b ∷ c ∷ d ∷ more) (long_of verb b c d more) a (long_takes verb b c d more) e

-- ---- the other way

short_again : (r : Reply) → IsShort r → answer_of (reply_words r) ≡ Some (answers.Whole r)
unfolding one_of plain_two owned_two three_of
short_again reply.Created h = refl
short_again (reply.Layout text) h = absurd h
short_again reply.Set h = refl
short_again (reply.Split name) h = rw ((word_name 141).again name h) refl
short_again (reply.Removed id) h = rw (word_16.again id h) refl
short_again (reply.EvictedClient client) h = rw (word_client.again client h) refl
short_again (reply.Bytes bytes) h = absurd h
short_again reply.Written h = refl
short_again reply.Truncated h = refl
short_again (reply.Copied cleared left) h = rw (word_ids.again cleared h.0, word_lefts.again left h.1) refl
short_again (reply.Merged ids) h = rw (word_ids.again ids h) refl
short_again (reply.Same blocks) h = rw (word_32.again blocks h) refl
short_again (reply.Differ diffs) h = absurd h
short_again reply.Rotted h = refl
short_again (reply.NoFile name) h = rw ((word_name 128).again name h) refl
short_again (reply.Exists name) h = rw ((word_name 141).again name h) refl
short_again reply.TooManyFiles h = refl
short_again reply.TooBig h = refl
short_again (reply.NoPrimary range) h = rw (word_64.again range.start h.0, word_end.again range.end h.1) refl
short_again (reply.AllOffline byte) h = rw (word_64.again byte h) refl
short_again (reply.Fault byte calls) h = rw (word_64.again byte h.0, word_calls.again calls h.1) refl
short_again (reply.WriteFault failed) h = rw (word_call.again failed h) refl
short_again (reply.Evicted place) h = rw (word_32.again place h) refl
short_again (reply.Busy client) h = rw (word_client.again client h) refl
short_again (reply.Broken place) h = rw (word_32.again place h) refl
short_again (reply.LastFresh id) h = rw (word_16.again id h) refl
short_again (reply.StaleMirror id) h = rw (word_16.again id h) refl
short_again (reply.NoMirrorId id) h = rw (word_16.again id h) refl
short_again (reply.NoComponent id) h = rw (word_32.again id h) refl
short_again reply.TooManyMirrors h = refl
short_again reply.TooManyComponents h = refl
short_again (reply.DifferAt offset ours theirs) h = rw (word_64.again offset h.0, word_byte.again ours h.1, word_byte.again theirs h.2) refl
short_again (reply.Sizes ours theirs) h = rw (word_64.again ours h.0, word_64.again theirs h.1) refl
short_again (reply.CopyFault failed) h = rw (word_call.again failed h) refl
short_again (reply.VerifyFault failed) h = rw (word_call.again failed h) refl
short_again reply.NoObject h = refl

pub answer_again : (a : Answer) → IsAnswer a → answer_of (answer_words a) ≡ Some a
unfolding one_of plain_two owned_two
answer_again (answers.Whole r) h = short_again r h
answer_again answers.Layout h = refl
answer_again (answers.Bytes bytes) h = rw (word_bytes.again bytes h) refl
answer_again (answers.Differ count) h = rw (word_32.again count h) refl

-- ---- the words are words

short_words : (r : Reply) → IsShort r → AreWords (reply_words r)
short_words reply.Created h = (refl, tt)
short_words (reply.Layout text) h = absurd h
short_words reply.Set h = (refl, tt)
short_words (reply.Split name) h = (refl, ((word_name 141).word name h, tt))
short_words (reply.Removed id) h = (refl, (word_16.word id h, tt))
short_words (reply.EvictedClient client) h = (refl, (word_client.word client h, tt))
short_words (reply.Bytes bytes) h = absurd h
short_words reply.Written h = (refl, tt)
short_words reply.Truncated h = (refl, tt)
short_words (reply.Copied cleared left) h = (refl, (refl, (word_ids.word cleared h.0, (refl, (word_lefts.word left h.1, tt)))))
short_words (reply.Merged ids) h = (refl, (word_ids.word ids h, tt))
short_words (reply.Same blocks) h = (refl, (word_32.word blocks h, tt))
short_words (reply.Differ diffs) h = absurd h
short_words reply.Rotted h = (refl, tt)
short_words (reply.NoFile name) h = (refl, ((word_name 128).word name h, tt))
short_words (reply.Exists name) h = (refl, ((word_name 141).word name h, tt))
short_words reply.TooManyFiles h = (refl, tt)
short_words reply.TooBig h = (refl, tt)
short_words (reply.NoPrimary range) h = (refl, (word_64.word range.start h.0, (word_end.word range.end h.1, tt)))
short_words (reply.AllOffline byte) h = (refl, (word_64.word byte h, tt))
short_words (reply.Fault byte calls) h = (refl, (word_64.word byte h.0, (refl, (word_calls.word calls h.1, tt))))
short_words (reply.WriteFault failed) h = (refl, (word_call.word failed h, tt))
short_words (reply.Evicted place) h = (refl, (refl, (word_32.word place h, tt)))
short_words (reply.Busy client) h = (refl, (word_client.word client h, tt))
short_words (reply.Broken place) h = (refl, (refl, (word_32.word place h, tt)))
short_words (reply.LastFresh id) h = (refl, (word_16.word id h, tt))
short_words (reply.StaleMirror id) h = (refl, (word_16.word id h, tt))
short_words (reply.NoMirrorId id) h = (refl, (word_16.word id h, tt))
short_words (reply.NoComponent id) h = (refl, (word_32.word id h, tt))
short_words reply.TooManyMirrors h = (refl, tt)
short_words reply.TooManyComponents h = (refl, tt)
short_words (reply.DifferAt offset ours theirs) h = (refl, (refl, (word_64.word offset h.0, (word_byte.word ours h.1, (word_byte.word theirs h.2, tt)))))
short_words (reply.Sizes ours theirs) h = (refl, (word_64.word ours h.0, (word_64.word theirs h.1, tt)))
short_words (reply.CopyFault failed) h = (refl, (word_call.word failed h, tt))
short_words (reply.VerifyFault failed) h = (refl, (word_call.word failed h, tt))
short_words reply.NoObject h = (refl, tt)

pub answer_words_words : (a : Answer) → IsAnswer a → AreWords (answer_words a)
answer_words_words (answers.Whole r) h = short_words r h
answer_words_words answers.Layout h = (refl, tt)
answer_words_words (answers.Bytes bytes) h = (refl, (word_bytes.word bytes h, tt))
answer_words_words (answers.Differ count) h = (refl, (word_32.word count h, tt))

-- ---- for the code

pub long_none : (verb a b c : List ℕ) (more : List (Bor (List ℕ))) → 2 ≤ length more → None ≡ long_of verb a b c (map (λ word. word.now) more)
long_none verb a b c [] le = absurd (omega arith)
long_none verb a b c (d ∷ []) le = absurd (omega arith)
long_none verb a b c (d ∷ e ∷ more) le = refl

pub answer_spelled : {E : Type 0} (words : List (List ℕ)) (r : Result (Option Answer) E) → IfOk r (λ found. found ≡ answer_of words)
    → IfOk r (λ found. (answer : Answer) → ((found ≡ Some answer) ↔ (IsAnswer answer × (words ≡ answer_words answer))))
answer_spelled words (Err e) h = tt
answer_spelled words (Ok found) h = λ answer. (λ e. answer_takes words answer (sym h ∙ e), λ k. h ∙ ap answer_of k.1 ∙ answer_again answer k.0)
