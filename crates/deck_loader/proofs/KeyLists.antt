-- A list of keys, one key at a time.
use Rattle.std.proofs.Common.{◌≡◌, ◌≢◌, ℕ, suc, ◌+◌, ◌<◌, Bool, true, false, cond, ◌||◌, Less, Equal, Greater, inl, inr, eqb, List, [], ◌∷◌, ◌++◌, length, get_or, take, drop, Option, Some, None, refl, sym, ◌∙◌, ap, arith, add-zero, length-take, ◌≤◌}
use Rattle.std.proofs.lemmas.Bool.Decides.{nat_tests}
use Rattle.std.proofs.lemmas.List.{at_drop_more, take_all, take_more}
use Rattle.std.specs.Option.{is_some, IfSome}
use Rattle.std.proofs.Math.ListN.{drop_of_length-le}
use Rattle.std.specs.Cmp.{nat_cmp_is}
use Rattle.std.proofs.lemmas.Bool.{cases_lt}
use Rattle.std.specs.List.{list_any}
use Rattle.std.specs.Ordering.{nat_cmp, is_eq}
use Rattle.deck_loader.specs.Keys.{is_key, first_at, stands_in, first_again, or_then}

push_step : (b : Bool) (n : ℕ) (r s : Option ℕ) (o : Option ℕ) → r ≡ or_then s o → cond b (Some n) r ≡ or_then (cond b (Some n) s) o
push_step true n r s o e = refl
push_step false n r s o e = e

pub first_at-push : (q n : ℕ) (ks : List (Option ℕ)) (k : Option ℕ) → first_at q n (ks ++ k ∷ []) ≡ or_then (first_at q n ks) (cond (is_key q k) (Some (n + length ks)) None)
first_at-push q n [] k = ap (λ m. cond (is_key q k) (Some m) None) (sym (add-zero n))
first_at-push q n (j ∷ ks) k =
    let r = first_at-push q (n + 1) ks k in
    let e : n + 1 + length ks ≡ n + suc (length ks) = omega arith in
    push_step (is_key q j) n (first_at q (n + 1) (ks ++ k ∷ [])) (first_at q (n + 1) ks) (cond (is_key q k) (Some (n + suc (length ks))) None)
    (r ∙ ap (λ m. or_then (first_at q (n + 1) ks) (cond (is_key q k) (Some m) None)) e)

any_step : (b c : Bool) (n : ℕ) (r : Option ℕ) → c ≡ is_some r → (b || c) ≡ is_some (cond b (Some n) r)
any_step true c n r e = refl
any_step false c n r e = e

-- a key stands in a list exactly where it has a first place
pub stands_is : (k n : ℕ) (ks : List (Option ℕ)) → list_any (is_key k) ks ≡ is_some (first_at k n ks)
stands_is k n [] = refl
stands_is k n (j ∷ ks) = any_step (is_key k j) (list_any (is_key k) ks) n (first_at k (n + 1) ks) (stands_is k (n + 1) ks)

pub again_step : (n i : ℕ) (ks : List (Option ℕ)) (k : Option ℕ) → i < length ks → get_or ks i None ≡ k → first_again n (take i ks) (drop i ks) ≡ cond (stands_in k (take i ks)) (Some n) (first_again (n + 1) (take i ks ++ k ∷ []) (drop (i + 1) ks))
again_step n i ks k h e = at_drop_more (first_again n (take i ks)) ks i None h ∙ ap (λ j. cond (stands_in j (take i ks)) (Some n) (first_again (n + 1) (take i ks ++ j ∷ []) (drop (i + 1) ks))) e

-- ---- one more key

or_none : (o : Option ℕ) → o ≡ or_then o None
or_none (Some n) = refl
or_none None = refl

pub by_case : (k q : ℕ) (b : Bool) → eqb k q ≡ b → is_eq (nat_cmp k q) ≡ b
by_case k q true e =
    let same : k ≡ q = grind (arith, nat_tests) in
    ap is_eq (sym (nat_cmp_is k q Equal same))
by_case k q false e =
    let apart : k ≢ q = grind (arith, nat_tests) in
    elim (cases_lt k q) [ inl l ↦ ap is_eq (sym (nat_cmp_is k q Less l)) | inr g ↦ ap is_eq (sym (nat_cmp_is k q Greater (let h : q < k = omega (arith, g, apart) in h))) ]

pub none_again : (n i : ℕ) (ks : List (Option ℕ)) → i < length ks → get_or ks i None ≡ None → first_again (n + 1) (take (i + 1) ks) (drop (i + 1) ks) ≡ first_again n (take i ks) (drop i ks)
none_again n i ks h e =
    ap (λ t. first_again (n + 1) t (drop (i + 1) ks)) (take_more ks i None h ∙ ap (λ k. take i ks ++ k ∷ []) e) ∙ sym (again_step n i ks None h e)

pub none_at : (q i : ℕ) (ks : List (Option ℕ)) → i < length ks → get_or ks i None ≡ None → first_at q 0 (take (i + 1) ks) ≡ first_at q 0 (take i ks)
none_at q i ks h e = ap (first_at q 0) (take_more ks i None h ∙ ap (λ k. take i ks ++ k ∷ []) e) ∙ (first_at-push q 0 (take i ks) None ∙ sym (or_none (first_at q 0 (take i ks))))

-- ---- one more key, which the map had or not

or_assoc : (d r : Option ℕ) (had : Bool) (i : ℕ) → or_then (or_then d (cond had (Some i) None)) r ≡ or_then d (cond had (Some i) r)
or_assoc (Some n) r had i = refl
or_assoc None r true i = refl
or_assoc None r false i = refl

pub or_inside : (d : Option ℕ) (had : Bool) (i n : ℕ) → IfSome d (λ k. k < n) → i < n → IfSome (or_then d (cond had (Some i) None)) (λ k. k < n)
or_inside (Some k) had i n h l = h
or_inside None true i n h l = l
or_inside None false i n h l = tt

pub key_at : (k q i : ℕ) (ks : List (Option ℕ)) (old new : Option ℕ) → i < length ks → get_or ks i None ≡ Some k → old ≡ first_at q 0 (take i ks) → new ≡ or_then old (cond (eqb k q) (Some i) None) → new ≡ first_at q 0 (take (i + 1) ks)
key_at k q i ks old new h e at u =
    let len : i ≡ 0 + length (take i ks) = omega (arith, length-take i ks) in
    let one : take (i + 1) ks ≡ take i ks ++ Some k ∷ [] = take_more ks i None h ∙ ap (λ j. take i ks ++ j ∷ []) e in
    u ∙ (ap (λ o. or_then o (cond (eqb k q) (Some i) None)) at ∙ (ap (λ m. or_then (first_at q 0 (take i ks)) (cond (eqb k q) (Some m) None)) len
    ∙ (sym (first_at-push q 0 (take i ks) (Some k)) ∙ ap (first_at q 0) (sym one))))

pub key_again : (k i : ℕ) (ks : List (Option ℕ)) (had : Bool) (old d new : Option ℕ) → i < length ks → get_or ks i None ≡ Some k → old ≡ first_at k 0 (take i ks) → had ≡ is_some old → new ≡ or_then d (cond had (Some i) None) → or_then new (first_again (i + 1) (take (i + 1) ks) (drop (i + 1) ks)) ≡ or_then d (first_again i (take i ks) (drop i ks))
key_again k i ks had old d new h e at s u =
    let one : take (i + 1) ks ≡ take i ks ++ Some k ∷ [] = take_more ks i None h ∙ ap (λ j. take i ks ++ j ∷ []) e in
    let stands : stands_in (Some k) (take i ks) ≡ had = stands_is k 0 (take i ks) ∙ (ap is_some (sym at) ∙ sym s) in
    let r : Option ℕ = first_again (i + 1) (take i ks ++ Some k ∷ []) (drop (i + 1) ks) in
    ap (λ o. or_then o (first_again (i + 1) (take (i + 1) ks) (drop (i + 1) ks))) u
    ∙ (ap (λ t. or_then (or_then d (cond had (Some i) None)) (first_again (i + 1) t (drop (i + 1) ks))) one
    ∙ (or_assoc d r had i ∙ (ap (λ b. or_then d (cond b (Some i) r)) (sym stands) ∙ ap (or_then d) (sym (again_step i i ks (Some k) h e)))))

pub key_end : (d : Option ℕ) (i : ℕ) (ks : List (Option ℕ)) → length ks ≤ i → or_then d (first_again i (take i ks) (drop i ks)) ≡ d
key_end d i ks h = ap (λ t. or_then d (first_again i (take i ks) t)) (drop_of_length-le ks h) ∙ sym (or_none d)

-- all keys are taken
pub keys_taken : (q i : ℕ) (ks : List (Option ℕ)) → length ks ≤ i → first_at q 0 (take i ks) ≡ first_at q 0 ks
keys_taken q i ks h = ap (first_at q 0) (take_all i ks h)
