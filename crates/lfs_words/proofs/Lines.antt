-- Words that lead to a state, and why reading finds the first fault.
use Rattle.std.proofs.Common.{◌≡◌, ℕ, true, List, [], ◌∷◌, ◌++◌, Result, Ok, Err, Some, refl, sym, ap, subst, ◌∙◌, append_assoc}
use Rattle.std.specs.Prelude.{codes, IfOk}
use Rattle.std.specs.List.{flat_map}
use Rattle.std.specs.Str.{bytes_eq}
use Rattle.std.proofs.lemmas.List.{append-nil}
use Rattle.std.proofs.lemmas.Slice.Eq.{bytes_eq-Decides}
use Rattle.std.proofs.lemmas.Grind.{flat_map-append}
use Rattle.text_words.specs.Names.{is_name}
use Rattle.flr_base.proofs.Machine.{run}
use Rattle.flr_base.proofs.Reader.{ok_of, ok_step}
use Rattle.lfs_values.specs.declared.cause.Fault.{Fault}
use Rattle.lfs_values.specs.declared.cause.Fault.TheVariants as faults
use Rattle.lfs_values.specs.declared.keys.Key.{Key}
use Rattle.lfs_values.specs.declared.keys.Key.TheVariants as keys
use Rattle.lfs_values.specs.Keys.{key_of, value_of, IsOption, IsKey}
use Rattle.lfs_values.proofs.KeyLaws.{key_takes}
use Rattle.lfs_words.specs.declared.asked.Asked.{Asked}
use Rattle.lfs_words.specs.declared.step.State.{State}
use Rattle.lfs_words.specs.declared.step.State.TheVariants as state
use Rattle.lfs_words.specs.Options.{may_stand, take, is_apart, is_complete}
use Rattle.lfs_words.specs.Goodness.{IsGood}
use Rattle.lfs_words.specs.Reading.{start, after_lfs, after_mirror, file, given, opened, option, word_by, step}
use Rattle.lfs_words.specs.Grammar.{Form, SetStripe, GetStripe, Create, Extend, Split, Delete, Resync, Verify, form_words, bare, Item, option_words, item_words, with_items, IsAsked}
use Rattle.lfs_words.proofs.Binding.{if_bound, if_either, if_ok_at}
use Rattle.lfs_words.proofs.Good.{good_no_parts, good_take}
use Rattle.lfs_words.proofs.Items.{items_more, one_item, never_dash, items_read, one_word, two_words}

-- the words are a form and options, which ask for this
pub record Leads (most : ℕ) (a : Asked) (words : List (List ℕ)) : Type 0 where
  pub form : Form
  pub options : List Item
  pub asked : with_items most (bare form) options ≡ Ok a
  pub good : IsGood a
  pub stand : words ≡ form_words form ++ flat_map item_words options

pub record LeadsToValue (most : ℕ) (a : Asked) (k : Key) (words : List (List ℕ)) : Type 0 where
  pub front : List (List ℕ)
  pub word : List ℕ
  pub leads : Leads most a front
  pub may : may_stand a k ≡ Ok tt
  pub apart : is_apart k ≡ true
  pub spelt : IsOption k word
  pub stand : words ≡ front ++ word ∷ []

pub record LeadsToEnd (most : ℕ) (a : Asked) (name : List ℕ) (words : List (List ℕ)) : Type 0 where
  pub front : List (List ℕ)
  pub leads : Leads most a front
  pub complete : is_complete a ≡ true
  pub named : is_name name ≡ true
  pub stand : words ≡ front ++ name ∷ []

abbrev pub Stands : ℕ → State → List (List ℕ) → Type 0
Stands most state.Start words = words ≡ []
Stands most state.Lfs words = words ≡ codes "lfs" ∷ []
Stands most state.Mirror words = words ≡ codes "lfs" ∷ codes "mirror" ∷ []
Stands most (state.Options a) words = Leads most a words
Stands most (state.Value a k) words = LeadsToValue most a k words
Stands most (state.Done a name) words = LeadsToEnd most a name words

-- ---- one word more

same : (word text : List ℕ) → bytes_eq word text ≡ true → word ≡ text
same word text e = (bytes_eq-Decides word text).0 e

pub leads_form : (most : ℕ) (form : Form) (words : List (List ℕ)) → IsGood (bare form) → words ≡ form_words form → Leads most (bare form) words
leads_form most form words good is = record { form = form; options = []; asked = refl; good = good; stand = is ∙ sym (append-nil (form_words form)) }

goes_start : (most : ℕ) (word : List ℕ) (words : List (List ℕ)) → words ≡ [] → IfOk (start word) (λ t. Stands most t (words ++ word ∷ []))
unfolding start
goes_start most word words h =
    if_either (bytes_eq word (codes "lfs")) (Ok state.Lfs) (Err faults.UnknownWord) (λ t. Stands most t (words ++ word ∷ []))
    (λ e. ap (λ l. l ++ word ∷ []) h ∙ ap (λ w. w ∷ []) (same word (codes "lfs") e)) (λ e. tt)

behind : (word text : List ℕ) (front words : List (List ℕ)) → words ≡ front → bytes_eq word text ≡ true → words ++ word ∷ [] ≡ front ++ text ∷ []
behind word text front words h e = ap (λ l. l ++ word ∷ []) h ∙ ap (λ w. front ++ w ∷ []) (same word text e)

goes_lfs : (most : ℕ) (word : List ℕ) (words : List (List ℕ)) → words ≡ codes "lfs" ∷ [] → IfOk (after_lfs word) (λ t. Stands most t (words ++ word ∷ []))
unfolding after_lfs
goes_lfs most word words h =
    let lfs = codes "lfs" ∷ [] in
    if_either (bytes_eq word (codes "mirror")) _ _ (λ t. Stands most t (words ++ word ∷ [])) (λ e. behind word (codes "mirror") lfs words h e) (λ _.
    if_either (bytes_eq word (codes "setstripe")) _ _ (λ t. Stands most t (words ++ word ∷ [])) (λ e. leads_form most SetStripe _ good_no_parts (behind word (codes "setstripe") lfs words h e)) (λ _.
    if_either (bytes_eq word (codes "getstripe")) _ _ (λ t. Stands most t (words ++ word ∷ [])) (λ e. leads_form most GetStripe _ tt (behind word (codes "getstripe") lfs words h e)) (λ _. tt)))

goes_mirror : (most : ℕ) (word : List ℕ) (words : List (List ℕ)) → words ≡ codes "lfs" ∷ codes "mirror" ∷ [] → IfOk (after_mirror word) (λ t. Stands most t (words ++ word ∷ []))
unfolding after_mirror
goes_mirror most word words h =
    let two = codes "lfs" ∷ codes "mirror" ∷ [] in
    if_either (bytes_eq word (codes "create")) _ _ (λ t. Stands most t (words ++ word ∷ [])) (λ e. leads_form most Create _ (record { done = tt; last = tt }) (behind word (codes "create") two words h e)) (λ _.
    if_either (bytes_eq word (codes "extend")) _ _ (λ t. Stands most t (words ++ word ∷ [])) (λ e. leads_form most Extend _ (record { done = tt; last = tt }) (behind word (codes "extend") two words h e)) (λ _.
    if_either (bytes_eq word (codes "split")) _ _ (λ t. Stands most t (words ++ word ∷ [])) (λ e. leads_form most Split _ tt (behind word (codes "split") two words h e)) (λ _.
    if_either (bytes_eq word (codes "delete")) _ _ (λ t. Stands most t (words ++ word ∷ [])) (λ e. leads_form most Delete _ tt (behind word (codes "delete") two words h e)) (λ _.
    if_either (bytes_eq word (codes "resync")) _ _ (λ t. Stands most t (words ++ word ∷ [])) (λ e. leads_form most Resync _ tt (behind word (codes "resync") two words h e)) (λ _.
    if_either (bytes_eq word (codes "verify")) _ _ (λ t. Stands most t (words ++ word ∷ [])) (λ e. leads_form most Verify _ tt (behind word (codes "verify") two words h e)) (λ _. tt))))))

-- one option more
item_text : (options : List Item) (i : Item) → flat_map item_words (options ++ i ∷ []) ≡ flat_map item_words options ++ item_words i
item_text options i = flat_map-append item_words options (i ∷ []) ∙ ap (λ l. flat_map item_words options ++ l) (append-nil (item_words i))

pub leads_more : (most : ℕ) (a next : Asked) (k : Key) (value : List ℕ) (words : List (List ℕ)) → Leads most a words → may_stand a k ≡ Ok tt → take most a k value ≡ Ok next → Leads most next (words ++ option_words k value)
leads_more most a next k value words h may taken =
    let i : Item = record { key = k; value = value } in
    record {
      form = h.form;
      options = h.options ++ i ∷ [];
      asked = items_more most (bare h.form) a next h.options (i ∷ []) h.asked (one_item most a next k value may taken);
      good = if_ok_at (take most a k value) IsGood next (good_take most a k value h.good) taken;
      stand = ap (λ l. l ++ option_words k value) h.stand ∙ append_assoc (form_words h.form) (flat_map item_words h.options) (option_words k value) ∙ ap (λ l. form_words h.form ++ l) (sym (item_text h.options i));
    }

goes_file : (most : ℕ) (a : Asked) (word : List ℕ) (words : List (List ℕ)) → Leads most a words → IfOk (file a word) (λ t. Stands most t (words ++ word ∷ []))
goes_file most a word words h =
    if_either (is_complete a) _ _ (λ t. Stands most t (words ++ word ∷ []))
    (λ whole. if_either (is_name word) _ _ (λ t. Stands most t (words ++ word ∷ [])) (λ named. record { front = words; leads = h; complete = whole; named = named; stand = refl }) (λ _. tt))
    (λ _. tt)

goes_opened : (most : ℕ) (a : Asked) (k : Key) (word : List ℕ) (words : List (List ℕ)) → Leads most a words → IsOption k word → may_stand a k ≡ Ok tt → IfOk (opened most a k word) (λ t. Stands most t (words ++ word ∷ []))
goes_opened most a k word words h spelt may =
    if_either (is_apart k) _ _ (λ t. Stands most t (words ++ word ∷ []))
    (λ apart. record { front = words; word = word; leads = h; may = may; apart = apart; spelt = spelt; stand = refl })
    (λ alone.
    if_bound (take most a k (value_of word k)) (λ next. Ok (state.Options next)) (λ t. Stands most t (words ++ word ∷ []))
    (λ next taken. subst (λ l. Leads most next (words ++ l)) (one_word k word spelt alone) (leads_more most a next k (value_of word k) words h may taken)))

goes_option : (most : ℕ) (a : Asked) (k : Key) (word : List ℕ) (words : List (List ℕ)) → Leads most a words → IsOption k word → IfOk (option most a k word) (λ t. Stands most t (words ++ word ∷ []))
goes_option most a k word words h spelt =
    if_bound (may_stand a k) (λ _. opened most a k word) (λ t. Stands most t (words ++ word ∷ [])) (λ u may. goes_opened most a k word words h spelt may)

goes_by : (most : ℕ) (a : Asked) (word : List ℕ) (words : List (List ℕ)) (k : Key) → Leads most a words → IsKey k word → IfOk (word_by most a word k) (λ t. Stands most t (words ++ word ∷ []))
goes_by most a word words keys.Plain h spelt = goes_file most a word words h
goes_by most a word words keys.Dash h spelt = if_bound (may_stand a keys.Dash) (λ _. opened most a keys.Dash word) (λ t. Stands most t (words ++ word ∷ [])) (λ u may. absurd (never_dash a may))
goes_by most a word words k h spelt = goes_option most a k word words h spelt

goes_value : (most : ℕ) (a : Asked) (k : Key) (word : List ℕ) (words : List (List ℕ)) → LeadsToValue most a k words → IfOk (given most a k word) (λ t. Stands most t (words ++ word ∷ []))
goes_value most a k word words h =
    if_bound (take most a k word) (λ next. Ok (state.Options next)) (λ t. Stands most t (words ++ word ∷ []))
    (λ next taken.
    let text : h.front ++ option_words k word ≡ words ++ word ∷ [] =
    ap (λ l. h.front ++ l) (two_words k h.word word h.spelt h.apart) ∙ sym (append_assoc h.front (h.word ∷ []) (word ∷ [])) ∙ ap (λ l. l ++ word ∷ []) (sym h.stand) in
    subst (Leads most next) text (leads_more most a next k word h.front h.leads h.may taken))

pub goes : (most : ℕ) (s : State) (word : List ℕ) (words : List (List ℕ)) → Stands most s words → IfOk (step most s word) (λ t. Stands most t (words ++ word ∷ []))
goes most state.Start word words h = goes_start most word words h
goes most state.Lfs word words h = goes_lfs most word words h
goes most state.Mirror word words h = goes_mirror most word words h
goes most (state.Options a) word words h = goes_by most a word words (key_of word) h (key_takes word)
goes most (state.Value a k) word words h = goes_value most a k word words h
goes most (state.Done a name) word words h = tt

pub ok_is : (r : Result State Fault) (t : State) → ok_of r ≡ Some t → r ≡ Ok t
ok_is (Ok u) t e = let same_state : u ≡ t = cc in ap (λ x. Ok x) same_state
ok_is (Err fault) t e = absurd cc

-- ---- a line leads to its end

form_reads : (most : ℕ) (form : Form) (rest : List (List ℕ)) → run (ok_step (step most)) state.Start (form_words form ++ rest) ≡ run (ok_step (step most)) (state.Options (bare form)) rest
unfolding start after_lfs after_mirror
form_reads most SetStripe rest = refl
form_reads most GetStripe rest = refl
form_reads most Create rest = refl
form_reads most Extend rest = refl
form_reads most Split rest = refl
form_reads most Delete rest = refl
form_reads most Resync rest = refl
form_reads most Verify rest = refl

pub asked_reads : (most : ℕ) (words : List (List ℕ)) (a : Asked) (name : List ℕ) → IsAsked most words a name → run (ok_step (step most)) state.Start words ≡ Some (state.Done a name)
asked_reads most words a name h =
    ap (λ l. run (ok_step (step most)) state.Start l) (h.stand ∙ ap (λ l. form_words h.form ++ l) h.behind.stand)
    ∙ form_reads most h.form (flat_map item_words h.behind.options ++ name ∷ [])
    ∙ items_read most (bare h.form) a h.behind.options name h.behind.asked h.behind.complete h.behind.named

-- ---- what leads somewhere goes on

pub asked_of : (most : ℕ) (a : Asked) (name : List ℕ) (words : List (List ℕ)) → LeadsToEnd most a name words → IsAsked most words a name
asked_of most a name words h = record {
  form = h.leads.form;
  rest = flat_map item_words h.leads.options ++ name ∷ [];
  behind = record { options = h.leads.options; asked = h.leads.asked; complete = h.complete; named = h.named; stand = refl };
  stand = h.stand ∙ ap (λ l. l ++ name ∷ []) h.leads.stand ∙ append_assoc (form_words h.leads.form) (flat_map item_words h.leads.options) (name ∷ []);
}
