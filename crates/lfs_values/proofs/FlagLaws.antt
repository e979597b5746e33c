-- Changes of flags as one word, both ways.
use Rattle.std.proofs.Common.{◌≡◌, ℕ, ◌+◌, ◌<◌, ◌≤◌, Bool, true, false, cond, ◌&&◌, ◌||◌, List, [], ◌∷◌, ◌++◌, length, get_or, map, Option, Some, None, Result, Ok, Err, refl, sym, ap, subst, ◌∙◌, append_assoc, arith}
use Rattle.std.specs.Prelude.{◌≢◌, codes, MatchResult}
use Rattle.std.specs.List.{list_any, IsDistinct, AllByRecursion}
use Rattle.std.specs.Cmp.{IsEquivalence}
use Rattle.std.specs.Cmp.Lexicographic.{on_texts_equal}
use Rattle.std.specs.Str.{bytes_eq}
use Rattle.std.proofs.Math.Bool.{or-false, false-or, and-true, and-false}
use Rattle.std.proofs.lemmas.Bool.{cond_both, or_parts, and_left}
use Rattle.std.proofs.lemmas.List.{append-nil}
use Rattle.std.proofs.lemmas.List.Folds.{list_any-append}
use Rattle.std.proofs.lemmas.Map.Keys.{IsDistinct-push, IsDistinct-head, IsDistinct-tail}
use Rattle.std.proofs.lemmas.Slice.Eq.{bytes_eq-Decides}
use denote.Ref.{Bor}
use Rattle.composite_layout.specs.FlagChanges.{FlagSets, AreFlagSets}
use Rattle.flr_base.proofs.Reader.{SoFar}
use Rattle.text_words.specs.Lists.{list_text}
use Rattle.text_words.specs.Pieces.{parts_of, Lacks}
use Rattle.text_words.specs.Words.{IsWord}
use Rattle.text_words.proofs.ListTexts.{parts_text, text_parts}
use Rattle.text_words.proofs.WordTexts.{list_word}
use Rattle.lfs_values.specs.Answers.{Gives, IsNoMemory, IfWord}
use Rattle.lfs_values.specs.DistinctItems.{with_item, items_of}
use Rattle.lfs_values.specs.FlagLists.{flag_text, flag_word_of, name_of, same_flag, has, change_of, SpellsFlags, changed, change_by, flags_of, IsFlagsFault, is_named, with_word, no_change, only, words_of, flags_text}
use Rattle.lfs_values.specs.declared.cause.Fault.{Fault}
use Rattle.lfs_values.specs.declared.cause.Fault.TheVariants as faults
use Rattle.lfs_values.specs.declared.cause.Stop.{Stop}
use Rattle.lfs_values.specs.declared.cause.Stop.TheVariants as stops
use Rattle.lfs_values.specs.declared.flags.FlagWord.{FlagWord}
use Rattle.lfs_values.specs.declared.flags.FlagWord.TheVariants.{SetPrefer, ClearPrefer, SetOffline, ClearOffline, SetNosync, ClearNosync, SetStale}
use Rattle.lfs_values.proofs.ItemLaws.{plain, item_none, item_twice, item_more, items_end, items_takes, items_again, items_fault, Apart, apart_push, apart_none, none_same, printed, reread, all_lack}

pub same_laws : IsEquivalence same_flag
same_laws = on_texts_equal name_of

-- ---- words that are flags

abbrev On : Option FlagWord → List ℕ → Type 0
On None word = Unit {0}
On (Some flag) word = word ≡ flag_text flag

or_else : (flag : FlagWord) (o : Option FlagWord) (word : List ℕ) → On o word → On (cond (bytes_eq word (flag_text flag)) (Some flag) o) word
or_else flag o word k = cond_both (bytes_eq word (flag_text flag)) (Some flag) o (λ x. On x word) (λ e. (bytes_eq-Decides word (flag_text flag)).0 e) (λ _. k)

flag_is : (word : List ℕ) → On (flag_word_of word) word
unfolding flag_word_of
flag_is word =
    or_else SetPrefer _ word (
    or_else ClearPrefer _ word (
    or_else SetOffline _ word (
    or_else ClearOffline _ word (
    or_else SetNosync _ word (
    or_else ClearNosync _ word (
    or_else SetStale _ word tt))))))

flag_word_takes : (word : List ℕ) (flag : FlagWord) → flag_word_of word ≡ Some flag → word ≡ flag_text flag
flag_word_takes word flag e = let h : On (Some flag) word = subst (λ (o : Option FlagWord). On o word) e (flag_is word) in h

flag_word_again : (flag : FlagWord) → flag_word_of (flag_text flag) ≡ Some flag
unfolding flag_word_of
flag_word_again SetPrefer = refl
flag_word_again ClearPrefer = refl
flag_word_again SetOffline = refl
flag_word_again ClearOffline = refl
flag_word_again SetNosync = refl
flag_word_again ClearNosync = refl
flag_word_again SetStale = refl

flag_lacks : (flag : FlagWord) → Lacks 44 (flag_text flag)
flag_lacks SetPrefer = (refl, (refl, (refl, (refl, (refl, (refl, tt))))))
flag_lacks ClearPrefer = (refl, (refl, (refl, (refl, (refl, (refl, (refl, tt)))))))
flag_lacks SetOffline = (refl, (refl, (refl, (refl, (refl, (refl, (refl, tt)))))))
flag_lacks ClearOffline = (refl, (refl, (refl, (refl, (refl, (refl, (refl, (refl, tt))))))))
flag_lacks SetNosync = (refl, (refl, (refl, (refl, (refl, (refl, tt))))))
flag_lacks ClearNosync = (refl, (refl, (refl, (refl, (refl, (refl, (refl, tt)))))))
flag_lacks SetStale = (refl, (refl, (refl, (refl, (refl, tt)))))

-- ---- what the words set and clear

any_same : (p q : FlagWord → Bool) (words : List FlagWord) → ((word : FlagWord) → p word ≡ q word) → list_any p words ≡ list_any q words
any_same p q [] h = refl
any_same p q (w ∷ ws) h = rw (h w, any_same p q ws h) refl

or_four : (a b c d : Bool) → ((a || b) || (c || d)) ≡ ((a || c) || (b || d))
or_four true b c d = refl
or_four false true true d = refl
or_four false true false d = refl
or_four false false c d = refl

any_or : (p q r : FlagWord → Bool) (words : List FlagWord) → ((word : FlagWord) → (p word || q word) ≡ r word) → (list_any p words || list_any q words) ≡ list_any r words
any_or p q r [] h = refl
any_or p q r (w ∷ ws) h = or_four (p w) (list_any p ws) (q w) (list_any q ws) ∙ rw (h w, any_or p q r ws h) refl

abbrev is : FlagWord → FlagWord → Bool
is flag other = bytes_eq (flag_text flag) (flag_text other)

either_prefer : (word : FlagWord) → (is SetPrefer word || is ClearPrefer word) ≡ bytes_eq (codes "prefer") (name_of word)
either_prefer SetPrefer = refl
either_prefer ClearPrefer = refl
either_prefer SetOffline = refl
either_prefer ClearOffline = refl
either_prefer SetNosync = refl
either_prefer ClearNosync = refl
either_prefer SetStale = refl

either_offline : (word : FlagWord) → (is SetOffline word || is ClearOffline word) ≡ bytes_eq (codes "offline") (name_of word)
either_offline SetPrefer = refl
either_offline ClearPrefer = refl
either_offline SetOffline = refl
either_offline ClearOffline = refl
either_offline SetNosync = refl
either_offline ClearNosync = refl
either_offline SetStale = refl

either_nosync : (word : FlagWord) → (is SetNosync word || is ClearNosync word) ≡ bytes_eq (codes "nosync") (name_of word)
either_nosync SetPrefer = refl
either_nosync ClearPrefer = refl
either_nosync SetOffline = refl
either_nosync ClearOffline = refl
either_nosync SetNosync = refl
either_nosync ClearNosync = refl
either_nosync SetStale = refl

either_stale : (word : FlagWord) → is SetStale word ≡ bytes_eq (codes "stale") (name_of word)
either_stale SetPrefer = refl
either_stale ClearPrefer = refl
either_stale SetOffline = refl
either_stale ClearOffline = refl
either_stale SetNosync = refl
either_stale ClearNosync = refl
either_stale SetStale = refl

-- a flag is set or cleared exactly where one of the words names it
pub named_is : (flag : FlagWord) (words : List FlagWord) → is_named (change_of words) flag ≡ list_any (same_flag flag) words
named_is SetPrefer words = any_or (is SetPrefer) (is ClearPrefer) (same_flag SetPrefer) words either_prefer
named_is ClearPrefer words = any_or (is SetPrefer) (is ClearPrefer) (same_flag ClearPrefer) words either_prefer
named_is SetOffline words = any_or (is SetOffline) (is ClearOffline) (same_flag SetOffline) words either_offline
named_is ClearOffline words = any_or (is SetOffline) (is ClearOffline) (same_flag ClearOffline) words either_offline
named_is SetNosync words = any_or (is SetNosync) (is ClearNosync) (same_flag SetNosync) words either_nosync
named_is ClearNosync words = any_or (is SetNosync) (is ClearNosync) (same_flag ClearNosync) words either_nosync
named_is SetStale words = any_same (is SetStale) (same_flag SetStale) words either_stale

all_true : (b : Bool) → (b || true) ≡ true
all_true true = refl
all_true false = refl

hit : (flag : FlagWord) (words : List FlagWord) (last : FlagWord) → is flag last ≡ true → has flag (words ++ last ∷ []) ≡ true
hit flag words last e = list_any-append (is flag) words (last ∷ []) ∙ rw e (all_true (list_any (is flag) words))

miss : (flag : FlagWord) (words : List FlagWord) (last : FlagWord) → is flag last ≡ false → has flag (words ++ last ∷ []) ≡ has flag words
miss flag words last e = list_any-append (is flag) words (last ∷ []) ∙ rw e (or-false (list_any (is flag) words))

-- one word more changes what it names
pub with_is : (flag : FlagWord) (words : List FlagWord) → with_word (change_of words) flag ≡ change_of (words ++ flag ∷ [])
with_is SetPrefer words = rw (hit SetPrefer words SetPrefer refl, miss ClearPrefer words SetPrefer refl, miss SetOffline words SetPrefer refl, miss ClearOffline words SetPrefer refl, miss SetNosync words SetPrefer refl, miss ClearNosync words SetPrefer refl, miss SetStale words SetPrefer refl) refl
with_is ClearPrefer words = rw (miss SetPrefer words ClearPrefer refl, hit ClearPrefer words ClearPrefer refl, miss SetOffline words ClearPrefer refl, miss ClearOffline words ClearPrefer refl, miss SetNosync words ClearPrefer refl, miss ClearNosync words ClearPrefer refl, miss SetStale words ClearPrefer refl) refl
with_is SetOffline words = rw (miss SetPrefer words SetOffline refl, miss ClearPrefer words SetOffline refl, hit SetOffline words SetOffline refl, miss ClearOffline words SetOffline refl, miss SetNosync words SetOffline refl, miss ClearNosync words SetOffline refl, miss SetStale words SetOffline refl) refl
with_is ClearOffline words = rw (miss SetPrefer words ClearOffline refl, miss ClearPrefer words ClearOffline refl, miss SetOffline words ClearOffline refl, hit ClearOffline words ClearOffline refl, miss SetNosync words ClearOffline refl, miss ClearNosync words ClearOffline refl, miss SetStale words ClearOffline refl) refl
with_is SetNosync words = rw (miss SetPrefer words SetNosync refl, miss ClearPrefer words SetNosync refl, miss SetOffline words SetNosync refl, miss ClearOffline words SetNosync refl, hit SetNosync words SetNosync refl, miss ClearNosync words SetNosync refl, miss SetStale words SetNosync refl) refl
with_is ClearNosync words = rw (miss SetPrefer words ClearNosync refl, miss ClearPrefer words ClearNosync refl, miss SetOffline words ClearNosync refl, miss ClearOffline words ClearNosync refl, miss SetNosync words ClearNosync refl, hit ClearNosync words ClearNosync refl, miss SetStale words ClearNosync refl) refl
with_is SetStale words = rw (miss SetPrefer words SetStale refl, miss ClearPrefer words SetStale refl, miss SetOffline words SetStale refl, miss ClearOffline words SetStale refl, miss SetNosync words SetStale refl, miss ClearNosync words SetStale refl, hit SetStale words SetStale refl) refl

-- ---- a loop over the words

-- the flags seen so far, and the change that they make
pub record FlagsSoFar (words : List (List ℕ)) (at : ℕ) (change : FlagSets) : Type 0 where
  pub seen : List FlagWord
  pub so_far : SoFar (with_item same_flag faults.UnknownWord flag_word_of) [] words at seen
  pub change_is : change ≡ change_of seen

pub flags_start : (words : List (List ℕ)) → FlagsSoFar words 0 no_change
flags_start words = record { seen = []; so_far = refl; change_is = refl }

named_seen : (change : FlagSets) (flag : FlagWord) (seen : List FlagWord) (b : Bool) → change ≡ change_of seen → is_named change flag ≡ b → list_any (same_flag flag) seen ≡ b
named_seen change flag seen b e f = sym (named_is flag seen) ∙ ap (λ (c : FlagSets). is_named c flag) (sym e) ∙ f

pub flag_none : (xs : List (Bor (List ℕ))) (at : ℕ) (d : Bor (List ℕ)) (change : FlagSets) → FlagsSoFar (plain xs) at change → at < length xs → flag_word_of (get_or xs at d).now ≡ None → Err faults.UnknownWord ≡ change_by (plain xs)
flag_none xs at d change h lt e = sym (ap changed (item_none same_flag faults.UnknownWord flag_word_of xs at d h.seen h.so_far lt e))

pub flag_twice : (xs : List (Bor (List ℕ))) (at : ℕ) (d : Bor (List ℕ)) (change : FlagSets) (flag : FlagWord) → FlagsSoFar (plain xs) at change → at < length xs → flag_word_of (get_or xs at d).now ≡ Some flag → is_named change flag ≡ true
    → Err faults.Repeated ≡ change_by (plain xs)
flag_twice xs at d change flag h lt e f = sym (ap changed (item_twice same_flag faults.UnknownWord flag_word_of xs at d h.seen flag h.so_far lt e (named_seen change flag h.seen true h.change_is f)))

pub flag_more : (xs : List (Bor (List ℕ))) (at : ℕ) (d : Bor (List ℕ)) (change next : FlagSets) (flag : FlagWord) → FlagsSoFar (plain xs) at change → at < length xs → flag_word_of (get_or xs at d).now ≡ Some flag → is_named change flag ≡ false
    → next ≡ with_word change flag → FlagsSoFar (plain xs) (at + 1) next
flag_more xs at d change next flag h lt e f g =
    record {
      seen = h.seen ++ flag ∷ [];
      so_far = item_more same_flag faults.UnknownWord flag_word_of xs at d h.seen flag h.so_far lt e (named_seen change flag h.seen false h.change_is f);
      change_is = g ∙ ap (λ (c : FlagSets). with_word c flag) h.change_is ∙ with_is flag h.seen;
    }

pub flags_end : (xs : List (Bor (List ℕ))) (at : ℕ) (change : FlagSets) → FlagsSoFar (plain xs) at change → length xs ≤ at → Ok change ≡ change_by (plain xs)
flags_end xs at change h le = ap (λ (c : FlagSets). Ok c) h.change_is ∙ sym (ap changed (items_end same_flag faults.UnknownWord flag_word_of xs at h.seen h.so_far le))

-- ---- the laws

changed_ok : (r : Result (List FlagWord) Fault) (change : FlagSets) → changed r ≡ Ok change → (words : List FlagWord) × (r ≡ Ok words) × (change ≡ change_of words)
changed_ok (Ok words) change e = let same : change_of words ≡ change = cc in (words, refl, sym same)
changed_ok (Err fault) change e = absurd cc

changed_err : (r : Result (List FlagWord) Fault) (fault : Fault) → changed r ≡ Err fault → r ≡ Err fault
changed_err (Ok words) fault e = absurd cc
changed_err (Err found) fault e = let same : found ≡ fault = cc in ap (λ (f : Fault). Err f) same

-- what is read is spelled so
pub flags_takes : (word : List ℕ) (change : FlagSets) → flags_of word ≡ Ok change → SpellsFlags word change
flags_takes word change e =
    let m = changed_ok (items_of same_flag faults.UnknownWord flag_word_of (parts_of 44 word)) change e in
    let k = items_takes same_flag same_laws faults.UnknownWord flag_word_of (parts_of 44 word) m.0 m.1 in
    let t = text_parts flag_text word m.0 (printed flag_word_of flag_text flag_word_takes (parts_of 44 word) m.0 k.1) in
    record { words = m.0; some = t.0; differ = k.0; text = t.1; change_is = m.2 }

-- any flags are good in a list
abbrev IsAny : FlagWord → Type 0
IsAny flag = Unit {0}

any_flags : (words : List FlagWord) → AllByRecursion IsAny words
any_flags [] = tt
any_flags (w ∷ ws) = (tt, any_flags ws)

read_again : (words : List FlagWord) → 0 < length words → IsDistinct same_flag words → flags_of (list_text flag_text words) ≡ Ok (change_of words)
read_again words some differ =
    let lack = all_lack flag_word_of flag_text IsAny (λ flag _. flag_lacks flag) words (any_flags words) in
    let texts = parts_text flag_text words some lack in
    let read = reread flag_word_of flag_text IsAny (λ flag _. flag_word_again flag) words (any_flags words) in
    ap changed (items_again same_flag same_laws faults.UnknownWord flag_word_of (parts_of 44 (list_text flag_text words)) words differ (ap (map flag_word_of) texts ∙ read))

-- what is spelled so is read
pub flags_read : (word : List ℕ) (change : FlagSets) → SpellsFlags word change → flags_of word ≡ Ok change
flags_read word change h = ap flags_of h.text ∙ read_again h.words h.some h.differ ∙ ap (λ (c : FlagSets). Ok c) (sym h.change_is)

pub flags_fault : (word : List ℕ) (fault : Fault) → flags_of word ≡ Err fault → IsFlagsFault word fault
flags_fault word fault e = items_fault same_flag same_laws faults.UnknownWord flag_word_of (parts_of 44 word) fault (changed_err (items_of same_flag faults.UnknownWord flag_word_of (parts_of 44 word)) fault e)

pub answer_read : (word : List ℕ) (r : Result FlagSets Stop) → Gives r (flags_of word) → MatchResult r (SpellsFlags word) (λ stop. IfWord stop (IsFlagsFault word))
answer_read word (Ok change) e = flags_takes word change e
answer_read word (Err stops.NoMemory) e = tt
answer_read word (Err (stops.Word fault)) e = flags_fault word fault e

pub answer_again : (word : List ℕ) (r : Result FlagSets Stop) → Gives r (flags_of word) → (change : FlagSets) → SpellsFlags word change → MatchResult r (λ found. found ≡ change) IsNoMemory
answer_again word (Ok found) e change h = let one : Ok found ≡ Ok change = sym e ∙ flags_read word change h in cc
answer_again word (Err stops.NoMemory) e change h = tt
answer_again word (Err (stops.Word fault)) e change h = let one : Err fault ≡ Ok change = sym e ∙ flags_read word change h in absurd cc

-- ---- what words make is a good change

with_good : (change : FlagSets) (flag : FlagWord) → AreFlagSets change → is_named change flag ≡ false → AreFlagSets (with_word change flag)
with_good c SetPrefer h e = record {
  init_set = h.init_set;
  init_clear = h.init_clear;
  stale = h.stale;
  prefer = (or_parts c.set.prefer c.clear.prefer e).1;
  offline = h.offline;
  nosync = h.nosync;
}
with_good c ClearPrefer h e = record {
  init_set = h.init_set;
  init_clear = h.init_clear;
  stale = h.stale;
  prefer = and_left c.set.prefer true (or_parts c.set.prefer c.clear.prefer e).0;
  offline = h.offline;
  nosync = h.nosync;
}
with_good c SetOffline h e = record {
  init_set = h.init_set;
  init_clear = h.init_clear;
  stale = h.stale;
  prefer = h.prefer;
  offline = (or_parts c.set.offline c.clear.offline e).1;
  nosync = h.nosync;
}
with_good c ClearOffline h e = record {
  init_set = h.init_set;
  init_clear = h.init_clear;
  stale = h.stale;
  prefer = h.prefer;
  offline = and_left c.set.offline true (or_parts c.set.offline c.clear.offline e).0;
  nosync = h.nosync;
}
with_good c SetNosync h e = record {
  init_set = h.init_set;
  init_clear = h.init_clear;
  stale = h.stale;
  prefer = h.prefer;
  offline = h.offline;
  nosync = (or_parts c.set.nosync c.clear.nosync e).1;
}
with_good c ClearNosync h e = record {
  init_set = h.init_set;
  init_clear = h.init_clear;
  stale = h.stale;
  prefer = h.prefer;
  offline = h.offline;
  nosync = and_left c.set.nosync true (or_parts c.set.nosync c.clear.nosync e).0;
}
with_good c SetStale h e = record {
  init_set = h.init_set;
  init_clear = h.init_clear;
  stale = h.stale;
  prefer = h.prefer;
  offline = h.offline;
  nosync = h.nosync;
}

good_from : (before rest : List FlagWord) → AreFlagSets (change_of before) → Apart same_flag before rest → IsDistinct same_flag rest → AreFlagSets (change_of (before ++ rest))
good_from before [] good apart differ = rw append-nil good
good_from before (flag ∷ rest) good apart differ =
    let next = subst AreFlagSets (with_is flag before) (with_good (change_of before) flag good (named_is flag before ∙ apart.0)) in
    let others = apart_push same_flag same_laws before flag rest apart.1 (IsDistinct-head same_flag flag rest differ) in
    subst (λ (words : List FlagWord). AreFlagSets (change_of words)) (append_assoc before (flag ∷ []) rest) (good_from (before ++ flag ∷ []) rest next others (IsDistinct-tail same_flag flag rest differ))

pub change_good : (words : List FlagWord) → IsDistinct same_flag words → AreFlagSets (change_of words)
change_good words differ = good_from [] words (record { init_set = refl; init_clear = refl; stale = refl; prefer = refl; offline = refl; nosync = refl }) (apart_none same_flag words) differ

-- ---- the words of a change make it

any_only : (p : FlagWord → Bool) (wanted : Bool) (flag : FlagWord) → list_any p (only wanted flag) ≡ (wanted && p flag)
any_only p true flag = or-false (p flag)
any_only p false flag = refl

-- a test of the words of a change
any_of : (p : FlagWord → Bool) (c : FlagSets) → list_any p (words_of c)
    ≡ (((((((c.set.prefer && p SetPrefer) || (c.clear.prefer && p ClearPrefer)) || (c.set.offline && p SetOffline)) || (c.clear.offline && p ClearOffline)) || (c.set.nosync && p SetNosync)) || (c.clear.nosync && p ClearNosync)) || (c.set.stale && p SetStale))
any_of p c = simp (list_any-append, any_only) refl

-- what no word sets or clears is neither
filled : (c : FlagSets) → AreFlagSets c →
    record {
      set = record { init = false; stale = c.set.stale; prefer = c.set.prefer; offline = c.set.offline; nosync = c.set.nosync };
      clear = record { init = false; stale = false; prefer = c.clear.prefer; offline = c.clear.offline; nosync = c.clear.nosync };
    }
    ≡ c
filled c h =
    let whole : record {
      set = record { init = false; stale = c.set.stale; prefer = c.set.prefer; offline = c.set.offline; nosync = c.set.nosync };
      clear = record { init = false; stale = false; prefer = c.clear.prefer; offline = c.clear.offline; nosync = c.clear.nosync };
    }
    ≡ record {
      set = record { init = c.set.init; stale = c.set.stale; prefer = c.set.prefer; offline = c.set.offline; nosync = c.set.nosync };
      clear = record { init = c.clear.init; stale = c.clear.stale; prefer = c.clear.prefer; offline = c.clear.offline; nosync = c.clear.nosync };
    } = rw (h.init_set, h.init_clear, h.stale) refl in
    whole

words_back : (c : FlagSets) → AreFlagSets c → change_of (words_of c) ≡ c
words_back c h =
    let one : has SetPrefer (words_of c) ≡ c.set.prefer = any_of (is SetPrefer) c ∙ simp (and-true, and-false, or-false, false-or) refl in
    let two : has ClearPrefer (words_of c) ≡ c.clear.prefer = any_of (is ClearPrefer) c ∙ simp (and-true, and-false, or-false, false-or) refl in
    let three : has SetOffline (words_of c) ≡ c.set.offline = any_of (is SetOffline) c ∙ simp (and-true, and-false, or-false, false-or) refl in
    let four : has ClearOffline (words_of c) ≡ c.clear.offline = any_of (is ClearOffline) c ∙ simp (and-true, and-false, or-false, false-or) refl in
    let five : has SetNosync (words_of c) ≡ c.set.nosync = any_of (is SetNosync) c ∙ simp (and-true, and-false, or-false, false-or) refl in
    let six : has ClearNosync (words_of c) ≡ c.clear.nosync = any_of (is ClearNosync) c ∙ simp (and-true, and-false, or-false, false-or) refl in
    let seven : has SetStale (words_of c) ≡ c.set.stale = any_of (is SetStale) c ∙ simp (and-true, and-false, or-false, false-or) refl in
    rw (one, two, three, four, five, six, seven) (filled c h)

only_more : (words : List FlagWord) (wanted : Bool) (flag : FlagWord) → IsDistinct same_flag words → (wanted ≡ true → list_any (same_flag flag) words ≡ false) → IsDistinct same_flag (words ++ only wanted flag)
only_more words true flag differ new = IsDistinct-push same_laws words flag differ (new refl)
only_more words false flag differ new = rw append-nil differ

other_false : (a b : Bool) → (a && b) ≡ false → b ≡ true → a ≡ false
other_false true b e f = absurd cc
other_false false b e f = refl

-- no two of them name the same flag
words_differ : (c : FlagSets) → AreFlagSets c → IsDistinct same_flag (words_of c)
words_differ c h =
    let one = only_more [] c.set.prefer SetPrefer (none_same same_flag) (λ e. refl) in
    let two = only_more _ c.clear.prefer ClearPrefer one (λ e. simp (any_only, and-true) (other_false c.set.prefer c.clear.prefer h.prefer e)) in
    let three = only_more _ c.set.offline SetOffline two (λ e. simp (list_any-append, any_only, and-false) refl) in
    let four = only_more _ c.clear.offline ClearOffline three (λ e. simp (list_any-append, any_only, and-false, and-true) (other_false c.set.offline c.clear.offline h.offline e)) in
    let five = only_more _ c.set.nosync SetNosync four (λ e. simp (list_any-append, any_only, and-false) refl) in
    let six = only_more _ c.clear.nosync ClearNosync five (λ e. simp (list_any-append, any_only, and-false, and-true) (other_false c.set.nosync c.clear.nosync h.nosync e)) in
    only_more _ c.set.stale SetStale six (λ e. simp (list_any-append, any_only, and-false) refl)

some_words : (c : FlagSets) (words : List FlagWord) → AreFlagSets c → c ≢ no_change → words_of c ≡ words → 0 < length words
some_words c [] h other e = absurd (other (sym (words_back c h) ∙ ap change_of e))
some_words c (w ∷ ws) h other e = omega arith

-- a change that isn't empty is spelled as it is printed
pub printed_spells : (c : FlagSets) → AreFlagSets c → c ≢ no_change → SpellsFlags (flags_text c) c
printed_spells c h other = record { words = words_of c; some = some_words c (words_of c) h other refl; differ = words_differ c h; text = refl; change_is = sym (words_back c h) }

pub flags_again : (c : FlagSets) → AreFlagSets c → c ≢ no_change → flags_of (flags_text c) ≡ Ok c
flags_again c h other = flags_read (flags_text c) c (printed_spells c h other)

-- a change that a word spells
spelled_other : (c : FlagSets) (words : List FlagWord) → 0 < length words → c ≡ change_of words → c ≢ no_change
spelled_other c [] some e = λ _. absurd (omega arith)
spelled_other c (w ∷ ws) some e = λ z.
    let named : is_named c w ≡ true = ap (λ (d : FlagSets). is_named d w) e ∙ named_is w (w ∷ ws) ∙ rw (same_laws.refl w) refl in
    let none : is_named c w ≡ false = ap (λ (d : FlagSets). is_named d w) z ∙ named_is w [] in
    let clash : true ≡ false = sym named ∙ none in absurd cc

pub spelled_good : (word : List ℕ) (c : FlagSets) → SpellsFlags word c → AreFlagSets c × (c ≢ no_change)
spelled_good word c h = (subst AreFlagSets (sym h.change_is) (change_good h.words h.differ), spelled_other c h.words h.some h.change_is)

-- what is read is read again as it is printed
pub flags_printed : (word : List ℕ) (c : FlagSets) → flags_of word ≡ Ok c → flags_of (flags_text c) ≡ Ok c
flags_printed word c e = let g = spelled_good word c (flags_takes word c e) in flags_again c g.0 g.1

-- ---- a change is one word

flag_word : (flag : FlagWord) → IsWord (flag_text flag)
flag_word SetPrefer = refl
flag_word ClearPrefer = refl
flag_word SetOffline = refl
flag_word ClearOffline = refl
flag_word SetNosync = refl
flag_word ClearNosync = refl
flag_word SetStale = refl

pub flags_word : (c : FlagSets) → IsWord (flags_text c)
flags_word c = list_word flag_text (words_of c) flag_word
