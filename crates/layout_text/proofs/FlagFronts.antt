-- The names of flags, put one behind the other.
use Rattle.std.proofs.Common.{◌≡◌, ℕ, Bool, true, false, cond, List, [], ◌++◌, refl, sym, subst}
use Rattle.std.specs.Prelude.{◌||◌, codes}
use Rattle.flr_base.specs.Puts.{PutsFront}
use Rattle.flr_base.proofs.Puts.{front_none, front_more, front_join}
use Rattle.composite_layout.specs.declared.component.Flags.{Flags}
use Rattle.layout_text.specs.Texts.{flags_word}
use Rattle.layout_text.specs.Appending.{flag_part}

-- what is put behind the first flags, of which some are set or none
abbrev none_left : Bool → List ℕ
none_left b = cond b [] (codes "0")

abbrev behind_offline : Bool → Bool → List ℕ
behind_offline b n = flag_part b n (codes "nosync") ++ none_left (b || n)

abbrev behind_prefer : Bool → Bool → Bool → List ℕ
behind_prefer b o n = flag_part b o (codes "offline") ++ behind_offline (b || o) n

abbrev behind_stale : Bool → Bool → Bool → Bool → List ℕ
behind_stale b p o n = flag_part b p (codes "prefer") ++ behind_prefer (b || p) o n

abbrev behind_init : Bool → Bool → Bool → Bool → Bool → List ℕ
behind_init b s p o n = flag_part b s (codes "stale") ++ behind_stale (b || s) p o n

abbrev word : Bool → Bool → Bool → Bool → Bool → List ℕ
word i s p o n = flags_word (record { init = i; stale = s; prefer = p; offline = o; nosync = n })

whole : (i s p o n : Bool) → flag_part false i (codes "init") ++ behind_init (false || i) s p o n ≡ word i s p o n
whole true true true true true = refl
whole true true true true false = refl
whole true true true false true = refl
whole true true true false false = refl
whole true true false true true = refl
whole true true false true false = refl
whole true true false false true = refl
whole true true false false false = refl
whole true false true true true = refl
whole true false true true false = refl
whole true false true false true = refl
whole true false true false false = refl
whole true false false true true = refl
whole true false false true false = refl
whole true false false false true = refl
whole true false false false false = refl
whole false true true true true = refl
whole false true true true false = refl
whole false true true false true = refl
whole false true true false false = refl
whole false true false true true = refl
whole false true false true false = refl
whole false true false false true = refl
whole false true false false false = refl
whole false false true true true = refl
whole false false true true false = refl
whole false false true false true = refl
whole false false true false false = refl
whole false false false true true = refl
whole false false false true false = refl
whole false false false false true = refl
whole false false false false false = refl

join_at : (old mid new a more : List ℕ) → mid ≡ old ++ a → PutsFront mid new more → PutsFront old new (a ++ more)
join_at old mid new a more was put = front_join old new a more (subst (λ (m : List ℕ). PutsFront m new more) was put)

pub after_init : (f : Flags) (old mid new : List ℕ) (b : Bool) → b ≡ (false || f.init) → mid ≡ old ++ flag_part false f.init (codes "init") → PutsFront mid new (behind_init b f.stale f.prefer f.offline f.nosync) → PutsFront old new (flags_word f)
after_init f old mid new b is was put =
    subst (PutsFront old new) (whole f.init f.stale f.prefer f.offline f.nosync)
    (join_at old mid new (flag_part false f.init (codes "init")) (behind_init (false || f.init) f.stale f.prefer f.offline f.nosync) was
    (subst (λ (c : Bool). PutsFront mid new (behind_init c f.stale f.prefer f.offline f.nosync)) is put))

pub after_stale : (s p o n : Bool) (old mid new : List ℕ) (a b : Bool) → b ≡ (a || s) → mid ≡ old ++ flag_part a s (codes "stale") → PutsFront mid new (behind_stale b p o n) → PutsFront old new (behind_init a s p o n)
after_stale s p o n old mid new a b is was put = join_at old mid new (flag_part a s (codes "stale")) (behind_stale (a || s) p o n) was (subst (λ (c : Bool). PutsFront mid new (behind_stale c p o n)) is put)

pub after_prefer : (p o n : Bool) (old mid new : List ℕ) (a b : Bool) → b ≡ (a || p) → mid ≡ old ++ flag_part a p (codes "prefer") → PutsFront mid new (behind_prefer b o n) → PutsFront old new (behind_stale a p o n)
after_prefer p o n old mid new a b is was put = join_at old mid new (flag_part a p (codes "prefer")) (behind_prefer (a || p) o n) was (subst (λ (c : Bool). PutsFront mid new (behind_prefer c o n)) is put)

pub after_offline : (o n : Bool) (old mid new : List ℕ) (a b : Bool) → b ≡ (a || o) → mid ≡ old ++ flag_part a o (codes "offline") → PutsFront mid new (behind_offline b n) → PutsFront old new (behind_prefer a o n)
after_offline o n old mid new a b is was put = join_at old mid new (flag_part a o (codes "offline")) (behind_offline (a || o) n) was (subst (λ (c : Bool). PutsFront mid new (behind_offline c n)) is put)

pub after_nosync : (n : Bool) (old mid new : List ℕ) (a : Bool) → new ≡ mid → mid ≡ old ++ flag_part a n (codes "nosync") → PutsFront old new (behind_offline a n)
after_nosync n old mid new a same was =
    join_at old mid new (flag_part a n (codes "nosync")) (none_left (a || n)) was (subst (λ (m : List ℕ). PutsFront mid m (none_left (a || n))) (sym same) (front_none mid (none_left (a || n))))

-- a front of the name of the next flag
pub at_flag : (old new part more : List ℕ) → PutsFront old new part → PutsFront old new (part ++ more)
at_flag old new part more put = front_more old new part more put
