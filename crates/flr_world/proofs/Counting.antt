-- Who has a command left, client by client.
use Rattle.std.proofs.Common.{◌≡◌, ℕ, zero, suc, ◌+◌, ◌<◌, List, [], ◌∷◌, length, drop, get_or, if◌then◌else◌, is_some, refl, sym, ap, arith, Bool, ◌∙◌}
use Rattle.std.specs.Prelude.{Some, None}
use Rattle.script_values.specs.Scripts.{ScriptView, command_after}
use Rattle.flr_steps.specs.declared.client.Client.{Client}
use Rattle.flr_steps.specs.States.{new_client, unfinished_from}
use Rattle.flr_world.specs.Counts.{unfinished_count}

-- whether the client at this place has one
abbrev pub has_left : ScriptView → ℕ → List Client → ℕ → Bool
has_left script c clients k = is_some (command_after script c (get_or clients k new_client).done)

pub count_more : (script : ScriptView) (clients : List Client) (c k : ℕ) → k < length clients → unfinished_count script c (drop k clients) ≡ (if has_left script c clients k then 1 else 0) + unfinished_count script (c + 1) (drop (k + 1) clients)
count_more script [] c k less = absurd (omega (arith, less))
count_more script (x ∷ xs) c zero less = refl
count_more script (x ∷ xs) c (suc k) less = count_more script xs c k (omega (arith, less)) ∙ ap (λ (n : ℕ). (if has_left script c xs k then 1 else 0) + unfinished_count script (c + 1) (drop n (x ∷ xs))) (let next : suc (k + 1) ≡ suc k + 1 = omega arith in next)

pub count_end : (script : ScriptView) (clients : List Client) (c k : ℕ) → k ≡ length clients → unfinished_count script c (drop k clients) ≡ 0
count_end script [] c zero e = refl
count_end script [] c (suc k) e = absurd (omega (arith, e))
count_end script (x ∷ xs) c zero e = absurd (omega (arith, e))
count_end script (x ∷ xs) c (suc k) e = count_end script xs c k (omega (arith, e))

pub from_more : (script : ScriptView) (clients : List Client) (c k : ℕ) → k < length clients → unfinished_from script c (drop k clients) ≡ (if has_left script c clients k then Some c else unfinished_from script (c + 1) (drop (k + 1) clients))
from_more script [] c k less = absurd (omega (arith, less))
from_more script (x ∷ xs) c zero less = refl
from_more script (x ∷ xs) c (suc k) less = from_more script xs c k (omega (arith, less)) ∙ ap (λ (n : ℕ). if has_left script c xs k then Some c else unfinished_from script (c + 1) (drop n (x ∷ xs))) (let next : suc (k + 1) ≡ suc k + 1 = omega arith in next)

pub from_end : (script : ScriptView) (clients : List Client) (c k : ℕ) → k ≡ length clients → unfinished_from script c (drop k clients) ≡ None
from_end script [] c zero e = refl
from_end script [] c (suc k) e = absurd (omega (arith, e))
from_end script (x ∷ xs) c zero e = absurd (omega (arith, e))
from_end script (x ∷ xs) c (suc k) e = from_end script xs c k (omega (arith, e))

-- by what was asked of the client
pub count_by : (script : ScriptView) (clients : List Client) (c k : ℕ) (b : Bool) → k < length clients → b ≡ has_left script c clients k → unfinished_count script c (drop k clients) ≡ (if b then 1 else 0) + unfinished_count script (c + 1) (drop (k + 1) clients)
count_by script clients c k b less is = count_more script clients c k less ∙ ap (λ (x : Bool). (if x then 1 else 0) + unfinished_count script (c + 1) (drop (k + 1) clients)) (sym is)

pub from_by : (script : ScriptView) (clients : List Client) (c k : ℕ) (b : Bool) → k < length clients → b ≡ has_left script c clients k → unfinished_from script c (drop k clients) ≡ (if b then Some c else unfinished_from script (c + 1) (drop (k + 1) clients))
from_by script clients c k b less is = from_more script clients c k less ∙ ap (λ (x : Bool). if x then Some c else unfinished_from script (c + 1) (drop (k + 1) clients)) (sym is)
