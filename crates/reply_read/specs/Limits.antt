-- The limits of what a report says.
use Rattle.std.specs.Prelude.{◌≡◌, ◌<◌, ◌≤◌, ◌^◌, ℕ, true, List, [], ◌∷◌, length, codes}
use Rattle.std.specs.List.{list_all, AllByRecursion}
use Rattle.std.specs.Fmt.{decimal}
use Rattle.flr_base.specs.declared.reply.Diff.{Diff}
use Rattle.flr_base.specs.declared.reply.FailedCall.{FailedCall}
use Rattle.flr_base.specs.declared.reply.Left.{Left}
use Rattle.flr_base.specs.declared.reply.Reply.{Reply}
use Rattle.flr_base.specs.declared.reply.Reply.TheVariants as reply
use Rattle.flr_base.specs.declared.reply.Take.{Take}
use Rattle.flr_base.specs.declared.reply.TakeFrom.{TakeFrom}
use Rattle.flr_base.specs.declared.reply.TakeFrom.TheVariants.{Hole, Object}
use Rattle.flr_base.specs.Runs.{text_of_bytes}
use Rattle.text_words.specs.Items.{IsCallItem, IsLeftItem, IsObjectItem}
use Rattle.text_words.specs.Names.{is_name_to}
use Rattle.report_text.specs.Answers.{reply_words}
use Rattle.reply_read.specs.declared.answer.Answer.{Answer}
use Rattle.reply_read.specs.declared.answer.Answer.TheVariants as answers
use Rattle.reply_read.specs.Values.{ascend, are_lefts, is_call}

-- numbers of 16, 32 and 64 bits
abbrev pub Has16 : ℕ → Type 0
Has16 n = n ≤ 65535

abbrev pub Has32 : ℕ → Type 0
Has32 n = n ≤ 4294967295

abbrev pub Has64 : ℕ → Type 0
Has64 n = n ≤ 18446744073709551615

-- there are at most 16 clients
abbrev pub IsClient : ℕ → Type 0
IsClient n = (1 ≤ n) × (n ≤ 16)

-- a name that a command gives, and one that a split may make by default
abbrev pub IsGivenName : List ℕ → Type 0
IsGivenName name = is_name_to 128 name ≡ true

abbrev pub IsLongName : List ℕ → Type 0
IsLongName name = is_name_to 141 name ≡ true

-- a call of one of 64 targets
abbrev pub IsCall : FailedCall → Type 0
IsCall failed = IsCallItem failed × (is_call failed ≡ true)

-- calls of 64 targets
abbrev pub AreCalls : List FailedCall → Type 0
AreCalls calls = AllByRecursion IsCallItem calls × (list_all is_call calls ≡ true)

-- ids, each above the one before
abbrev pub AreIds : List ℕ → Type 0
AreIds ids = AllByRecursion (λ n. n < 2 ^ 32) ids × (ascend 0 ids ≡ true)

-- components that were left, each above the one before, for calls of 64 targets
abbrev pub AreLefts : List Left → Type 0
AreLefts lefts = AllByRecursion IsLeftItem lefts × (are_lefts lefts ≡ true)

-- bytes that have a text
abbrev pub AreBytes : List ℕ → Type 0
AreBytes bytes = (length bytes ≤ 4294967295) × AllByRecursion (λ byte. byte < 256) bytes

abbrev pub IsByte : ℕ → Type 0
IsByte byte = byte < 256

-- an answer that no lines follow
abbrev pub IsShort : Reply → Type 0
IsShort (reply.Layout text) = ⊥
IsShort (reply.Bytes bytes) = ⊥
IsShort (reply.Differ diffs) = ⊥
IsShort (reply.Split name) = IsLongName name
IsShort (reply.Removed id) = Has16 id
IsShort (reply.EvictedClient client) = IsClient client
IsShort (reply.Copied cleared left) = AreIds cleared × AreLefts left
IsShort (reply.Merged ids) = AreIds ids
IsShort (reply.Same blocks) = Has32 blocks
IsShort (reply.NoFile name) = IsGivenName name
IsShort (reply.Exists name) = IsLongName name
IsShort (reply.NoPrimary range) = Has64 range.start × Has64 range.end
IsShort (reply.AllOffline byte) = Has64 byte
IsShort (reply.Fault byte calls) = Has64 byte × AreCalls calls
IsShort (reply.WriteFault failed) = IsCall failed
IsShort (reply.Evicted place) = Has32 place
IsShort (reply.Busy client) = IsClient client
IsShort (reply.Broken place) = Has32 place
IsShort (reply.LastFresh id) = Has16 id
IsShort (reply.StaleMirror id) = Has16 id
IsShort (reply.NoMirrorId id) = Has16 id
IsShort (reply.NoComponent id) = Has32 id
IsShort (reply.DifferAt offset ours theirs) = Has64 offset × IsByte ours × IsByte theirs
IsShort (reply.Sizes ours theirs) = Has64 ours × Has64 theirs
IsShort (reply.CopyFault failed) = IsCall failed
IsShort (reply.VerifyFault failed) = IsCall failed
IsShort other = Unit {0}

-- ---- what the words of an answer say

-- the words
abbrev pub answer_words : Answer → List (List ℕ)
answer_words (answers.Whole r) = reply_words r
answer_words answers.Layout = codes "layout" ∷ []
answer_words (answers.Bytes bytes) = codes "bytes" ∷ text_of_bytes bytes ∷ []
answer_words (answers.Differ count) = codes "differ" ∷ decimal count ∷ []

-- within the limits
abbrev pub IsAnswer : Answer → Type 0
IsAnswer (answers.Whole r) = IsShort r
IsAnswer answers.Layout = Unit {0}
IsAnswer (answers.Bytes bytes) = AreBytes bytes
IsAnswer (answers.Differ count) = Has32 count

-- ---- the lines that follow

-- a piece of a read, from a hole or from an object of one of 64 targets
abbrev pub IsFrom : TakeFrom → Type 0
IsFrom Hole = Unit {0}
IsFrom (Object object call) = IsObjectItem object × (object.target < 64) × Has32 call

abbrev pub IsTake : Take → Type 0
IsTake t = Has64 t.range.start × Has64 t.range.end × Has32 t.component × IsFrom t.from

abbrev pub IsDiff : Diff → Type 0
IsDiff d = Has32 d.first × Has32 d.second × Has64 d.offset × IsByte d.ours × IsByte d.theirs
