-- The forms of lines: which words may stand behind which lines, word for word.
use Rattle.std.specs.Prelude.{◌≡◌, ℕ, ◌+◌, ◌-◌, ◌^◌, ◌<◌, ◌≤◌, List, [], ◌∷◌, length, codes, true, false, ◌⊎◌}
use Rattle.std.specs.Fmt.{decimal}
use Rattle.flr_base.specs.Runs.{hex, text_of_bytes}
use Rattle.flr_base.specs.declared.reply.ObjectId.{ObjectId}
use Rattle.text_words.specs.Items.{object_text}
use Rattle.text_words.specs.Names.{is_name}
use Rattle.lfs_words.specs.Grammar.{IsLine}
use Rattle.object_target.specs.declared.fail.Fail.{Fail}
use Rattle.object_target.specs.declared.fail.FailKind.{FailKind}
use Rattle.script_values.specs.Commands.{IsLength, AreBytes, IsObject}
use Rattle.script_values.specs.Texts.{kind_word}
use Rattle.script_text.specs.declared.lead.Lead.{Lead}
use Rattle.script_text.specs.declared.lead.Lead.TheVariants as leads
use Rattle.script_text.specs.declared.lead.Verb.{Verb}
use Rattle.script_text.specs.declared.lead.Verb.TheVariants as verbs
use Rattle.script_text.specs.declared.state.Version.{Version}
use Rattle.script_text.specs.declared.state.Version.TheVariants as versions
use Rattle.script_text.specs.declared.state.Head.{Head}
use Rattle.script_text.specs.declared.state.State.{State}
use Rattle.script_text.specs.declared.state.State.TheVariants as state
use Rattle.script_text.specs.Grammar.{FailRange}
use Rattle.script_text.specs.HeadLines.{is_listed}
use Rattle.script_text.specs.Leads.{lead_of, is_comment}
use Rattle.script_text.specs.Step.{count_of}

-- what a word may have to be: a number from the least to the most, the object of one of so many targets, and so on
pub data Slot : Type 0 where
  Name : Slot
  Number : ℕ → ℕ → Slot
  Runs : Slot
  Byte : Slot
  Object : ℕ → Slot
  Kind : Slot

-- the word is this
abbrev pub IsWordOf : Slot → List ℕ → Type 0
IsWordOf Name word = is_name word ≡ true
IsWordOf (Number least most) word = (n : ℕ) × (least ≤ n) × (n ≤ most) × (word ≡ decimal n)
IsWordOf Runs word = (bytes : List ℕ) × IsLength (length bytes) × AreBytes bytes × (word ≡ text_of_bytes bytes)
IsWordOf Byte word = (byte : ℕ) × (byte < 256) × (word ≡ hex byte)
IsWordOf (Object targets) word = (object : ObjectId) × IsObject targets object × (word ≡ object_text object)
IsWordOf Kind word = (kind : FailKind) × (word ≡ kind_word kind)

-- words one after the other, each as it has to be, and none behind them
abbrev pub Fit : List Slot → List (List ℕ) → Type 0
Fit [] words = words ≡ []
Fit (slot ∷ slots) words = (word : List ℕ) × (rest : List (List ℕ)) × (words ≡ word ∷ rest) × IsWordOf slot word × Fit slots rest

-- a call of a target that isn't listed yet: TARGET CALL KIND
abbrev pub IsOneFail : ℕ → List Fail → List (List ℕ) → Type 0
IsOneFail targets fails words =
    (target : ℕ) × (call : ℕ) × (kind : FailKind) × (target < targets) × (1 ≤ call) × (call < 2 ^ 32) × (is_listed fails target call call ≡ false) × (words ≡ decimal target ∷ decimal call ∷ kind_word kind ∷ [])

-- calls of a target, none of which is listed yet: TARGET FIRST LAST KIND
abbrev pub IsFailsRange : ℕ → List Fail → List (List ℕ) → Type 0
IsFailsRange targets fails words =
    (r : FailRange) × (r.target < targets) × (1 ≤ r.first) × (r.first ≤ r.last) × (r.last < 2 ^ 32) × (is_listed fails r.target r.first r.last ≡ false) × (words ≡ decimal r.target ∷ decimal r.first ∷ decimal r.last ∷ kind_word r.kind ∷ [])

-- the words behind `fail`. How many calls may be listed in all isn't asked of the words of version 2, since one line lists many.
abbrev pub AreFailWords : Version → Head → List (List ℕ) → Type 0
AreFailWords versions.One head words = (length head.fails < 4096) × IsOneFail head.targets head.fails words
AreFailWords versions.Two head words = IsFailsRange head.targets head.fails words

-- the words behind the one that begins a command. What has to hold of a command of `lfs` as a whole isn't asked of its words.
abbrev pub AreCommandWords : ℕ → ℕ → Verb → List (List ℕ) → Type 0
AreCommandWords targets most verbs.Read words = Fit (Name ∷ Number 0 268435456 ∷ Number 1 1048576 ∷ []) words
AreCommandWords targets most verbs.Write words = Fit (Name ∷ Number 0 (2 ^ 40) ∷ Runs ∷ []) words
AreCommandWords targets most verbs.Truncate words = Fit (Name ∷ Number 0 (2 ^ 40) ∷ []) words
AreCommandWords targets most verbs.Lfs words = IsLine most (codes "lfs" ∷ words)
AreCommandWords targets most verbs.Evict words = Fit (Number 0 (2 ^ 64 - 1) ∷ []) words
AreCommandWords targets most verbs.Rot words = Fit (Object targets ∷ Number 0 268435455 ∷ Byte ∷ []) words

-- the words behind the first of a line that begins so, where this has been said before
abbrev pub Behind : State → Lead → List (List ℕ) → Type 0
Behind state.Start leads.Script words = Fit (Number 1 2 ∷ []) words
Behind (state.Version version) leads.Targets words = Fit (Number 1 64 ∷ []) words
Behind (state.Targets targets) leads.Mirrors words = Fit (Number 1 32 ∷ []) words
Behind (state.Fails head) leads.Fail words = AreFailWords head.version head words
Behind (state.Fails head) leads.Client words = Fit (Number 1 1 ∷ []) words
Behind (state.Commands body) leads.Client words = (count_of body < 16) × Fit (Number (count_of body + 1) (count_of body + 1) ∷ []) words
Behind (state.Commands body) (leads.Command verb) words = (body.commands < 4096) × AreCommandWords body.head.targets body.head.most verb words
Behind s lead words = ⊥

-- the words of a line that may stand where this has been said before; one without words and a comment may stand anywhere
abbrev pub Fits : State → List (List ℕ) → Type 0
Fits s [] = Unit {0}
Fits s (word ∷ words) = (is_comment word ≡ true) ⊎ Behind s (lead_of word) words
