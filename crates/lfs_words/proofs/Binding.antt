-- Results that are gone on with.
use Rattle.std.proofs.Common.{◌≡◌, Bool, true, false, cond, Result, Ok, Err, refl, subst}
use Rattle.std.specs.Prelude.{IfOk}
use Rattle.std.proofs.lemmas.Bool.{cond_both}
use Rattle.lfs_words.specs.Parts.{◌>>=◌}

-- what holds of whatever is gone on to
pub if_bound : {E A B : Type 0} (r : Result A E) (f : A → Result B E) (P : B → Type 0) → ((x : A) → r ≡ Ok x → IfOk (f x) P) → IfOk (r >>= f) P
if_bound (Ok x) f P h = h x refl
if_bound (Err e) f P h = tt

-- what holds of either
pub if_either : {E A : Type 0} (b : Bool) (x y : Result A E) (P : A → Type 0) → (b ≡ true → IfOk x P) → (b ≡ false → IfOk y P) → IfOk (cond b x y) P
if_either b x y P h k = cond_both b x y (λ r. IfOk r P) h k

pub record Bound {E A B : Type 0} (r : Result A E) (f : A → Result B E) (y : B) : Type 0 where
  pub found : A
  pub first : r ≡ Ok found
  pub then : f found ≡ Ok y

pub bound : {E A B : Type 0} (r : Result A E) (f : A → Result B E) (y : B) → r >>= f ≡ Ok y → Bound r f y
bound (Ok x) f y e = record { found = x; first = refl; then = e }
bound (Err c) f y e = absurd cc

-- what holds of whatever is there
pub if_ok_at : {E A : Type 0} (r : Result A E) (P : A → Type 0) (x : A) → IfOk r P → r ≡ Ok x → P x
if_ok_at (Ok y) P x h e = let same : y ≡ x = cc in subst P same h
if_ok_at (Err c) P x h e = absurd cc

-- what holds of what is made of it
pub if_map : {E A B : Type 0} (r : Result A E) (P : A → Type 0) (f : A → B) (Q : B → Type 0) → IfOk r P → ((x : A) → P x → Q (f x)) → IfOk (r >>= λ x. Ok (f x)) Q
if_map (Ok x) P f Q h k = k x h
if_map (Err e) P f Q h k = tt

pub if_any : {E A B : Type 0} (r : Result A E) (f : A → B) (Q : B → Type 0) → ((x : A) → Q (f x)) → IfOk (r >>= λ x. Ok (f x)) Q
if_any (Ok x) f Q k = k x
if_any (Err e) f Q k = tt
