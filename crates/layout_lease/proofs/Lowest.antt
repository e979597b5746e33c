-- The lowest of some numbers.
use Rattle.std.proofs.Common.{◌≡◌, ℕ, ◌+◌, ◌<◌, min, Bool, true, false, cond, not, ◌==◌, List, [], ◌∷◌, ◌++◌, length, take, get_or, map, Option, Some, None, refl, ap, ◌∙◌, arith, append-nil}
use Rattle.std.specs.Option.{option_map_or}
use Rattle.std.proofs.lemmas.List.Elements.{filter_more}
use Rattle.layout_lease.specs.declared.shared.Share.{Share}
use Rattle.layout_lease.specs.Shares.{lowest, with_lower, cookies_but}

push_at : (y x : ℕ) (found : Option ℕ) → option_map_or (min y) (Some (with_lower found x)) y ≡ with_lower (Some (option_map_or (min y) found y)) x
push_at y x None = refl
push_at y x (Some found) = omega arith

-- the lowest, with one more number at the end of the list
pub lowest-push : (xs : List ℕ) (x : ℕ) → lowest (xs ++ x ∷ []) ≡ Some (with_lower (lowest xs) x)
lowest-push [] x = refl
lowest-push (y ∷ ys) x =
    ap (λ found. Some (option_map_or (min y) found y)) (lowest-push ys x) ∙ ap Some (push_at y x (lowest ys))

map-push : (xs : List Share) (x : Share) → map (λ (share : Share). share.client) (xs ++ x ∷ []) ≡ map (λ (share : Share). share.client) xs ++ x.client ∷ []
map-push [] x = refl
map-push (y ∷ ys) x = ap (λ zs. y.client ∷ zs) (map-push ys x)

more_at : (client : ℕ) (kept : List Share) (x : Share) (b : Bool) → not (x.client == client) ≡ b → lowest (map (λ (share : Share). share.client) (kept ++ cond (not (x.client == client)) (x ∷ []) [])) ≡ cond b (Some (with_lower (lowest (map (λ (share : Share). share.client) kept)) x.client)) (lowest (map (λ (share : Share). share.client) kept))
more_at client kept x true h =
    ap (λ t. lowest (map (λ (share : Share). share.client) (kept ++ cond t (x ∷ []) []))) h ∙ ap lowest (map-push kept x) ∙ lowest-push (map (λ (share : Share). share.client) kept) x.client
more_at client kept x false h =
    ap (λ t. lowest (map (λ (share : Share). share.client) (kept ++ cond t (x ∷ []) []))) h ∙ ap (λ zs. lowest (map (λ (share : Share). share.client) zs)) (append-nil kept)

-- a scan for the lowest other client: its step at one, and at a share of this client
pub lowest-more : (client : ℕ) (xs : List Share) (i : ℕ) (d : Share) (b : Bool) → i < length xs → not ((get_or xs i d).client == client) ≡ b → lowest (map (λ (share : Share). share.client) (cookies_but client (take (i + 1) xs))) ≡ cond b (Some (with_lower (lowest (map (λ (share : Share). share.client) (cookies_but client (take i xs)))) (get_or xs i d).client)) (lowest (map (λ (share : Share). share.client) (cookies_but client (take i xs))))
lowest-more client xs i d b within h =
    ap (λ zs. lowest (map (λ (share : Share). share.client) zs)) (filter_more (λ (share : Share). not (share.client == client)) xs i d within) ∙ more_at client (cookies_but client (take i xs)) (get_or xs i d) b h
