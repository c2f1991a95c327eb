-- What is left of a schedule at a place in it.
use Rattle.std.proofs.Common.{◌≡◌, ℕ, zero, suc, ◌+◌, ◌-◌, ◌<◌, ◌≤◌, List, [], ◌∷◌, ◌++◌, length, take, drop, get_or, refl, sym, ap, ◌∙◌, arith, length-drop, drop_of_length-le}
use Rattle.std.specs.Prelude.{replicate}
use Rattle.std.specs.List.{flat_map}
use Rattle.std.proofs.lemmas.List.{drop_more, length-take, take_all}
use Rattle.run_model.specs.declared.schedules.Run.{Run}
use Rattle.run_model.specs.declared.schedules.RunKind.{RunKind}
use Rattle.run_model.specs.Schedule.{kinds_of}

-- ---- lists

take_step : (n : ℕ) (xs ys : List RunKind) (x : RunKind) → drop n xs ≡ x ∷ ys
    → take (suc n) xs ≡ take n xs ++ x ∷ []
take_step zero xs ys x e = ap (λ z. take 1 z) e
take_step (suc n) [] ys x e = absurd (cc e)
take_step (suc n) (z ∷ zs) ys x e = ap (λ q. z ∷ q) (take_step n zs ys x e)

drop_step : (n : ℕ) (xs ys : List RunKind) (x : RunKind) → drop n xs ≡ x ∷ ys
    → drop (suc n) xs ≡ ys
drop_step zero xs ys x e = ap (λ z. drop 1 z) e
drop_step (suc n) [] ys x e = absurd (cc e)
drop_step (suc n) (z ∷ zs) ys x e = drop_step n zs ys x e

pub take_next : (n : ℕ) (xs ys : List RunKind) (x : RunKind) → drop n xs ≡ x ∷ ys
    → take (n + 1) xs ≡ take n xs ++ x ∷ []
take_next n xs ys x e =
    let one : n + 1 ≡ suc n = omega arith in
    ap (λ q. take q xs) one ∙ take_step n xs ys x e

pub drop_next : (n : ℕ) (xs ys : List RunKind) (x : RunKind) → drop n xs ≡ x ∷ ys
    → drop (n + 1) xs ≡ ys
drop_next n xs ys x e =
    let one : n + 1 ≡ suc n = omega arith in
    ap (λ q. drop q xs) one ∙ drop_step n xs ys x e

-- where nothing is left, no more can be taken
none_more : (n m : ℕ) (xs : List RunKind) → drop n xs ≡ [] → n ≤ m → length xs ≤ n
none_more n m xs e le =
    let long : length (drop n xs) ≡ length xs - n = length-drop n xs in
    let none : length (drop n xs) ≡ 0 = ap length e in
    omega (arith, long, none)

pub take_whole : (n m : ℕ) (xs : List RunKind) → drop n xs ≡ [] → n ≤ m → take n xs ≡ take m xs
take_whole n m xs e le =
    let short = none_more n m xs e le in
    take_all n xs short ∙ sym (take_all m xs (omega (arith, short, le)))

pub drop_whole : (n m : ℕ) (xs : List RunKind) → drop n xs ≡ [] → n ≤ m → drop n xs ≡ drop m xs
drop_whole n m xs e le =
    let short = none_more n m xs e le in
    e ∙ sym (drop_of_length-le xs {i = m} (omega (arith, short, le)))

pub taken_few : (n : ℕ) (xs : List RunKind) → length (take n xs) ≤ n
taken_few n xs = let e = length-take n xs in omega (arith, e)

-- ---- the runs

passed : (n d : ℕ) (k : RunKind) (ks : List RunKind) → n ≤ d
    → drop d (replicate n k ++ ks) ≡ drop (d - n) ks
passed zero d k ks le = let e : d ≡ d - 0 = omega arith in ap (λ q. drop q ks) e
passed (suc n) zero k ks le = absurd (omega (arith, le))
passed (suc n) (suc d) k ks le =
    let e : d - n ≡ suc d - suc n = omega arith in
    passed n d k ks (omega (arith, le)) ∙ ap (λ q. drop q ks) e

inside : (n d : ℕ) (k : RunKind) (ks : List RunKind) → d < n
    → drop d (replicate n k ++ ks) ≡ k ∷ drop (suc d) (replicate n k ++ ks)
inside zero d k ks lt = absurd (omega (arith, lt))
inside (suc n) zero k ks lt = refl
inside (suc n) (suc d) k ks lt = inside n d k ks (omega (arith, lt))

kinds_from : (rs : List Run) (i : ℕ) (d : Run) → i < length rs
    → kinds_of (drop i rs)
    ≡ replicate (get_or rs i d).count (get_or rs i d).what ++ kinds_of (drop (i + 1) rs)
unfolding kinds_of
kinds_from rs i d lt = ap (flat_map (λ (r : Run). replicate r.count r.what)) (drop_more rs i d lt)

pub run_passed : (rs : List Run) (i done : ℕ) (d : Run) → i < length rs
    → (get_or rs i d).count ≤ done
    → drop done (kinds_of (drop i rs))
    ≡ drop (done - (get_or rs i d).count) (kinds_of (drop (i + 1) rs))
run_passed rs i done d lt le =
    let r : Run = get_or rs i d in
    ap (drop done) (kinds_from rs i d lt)
    ∙ passed r.count done r.what (kinds_of (drop (i + 1) rs)) le

pub run_next : (rs : List Run) (i done : ℕ) (d : Run) → i < length rs
    → done < (get_or rs i d).count
    → drop done (kinds_of (drop i rs))
    ≡ (get_or rs i d).what ∷ drop (done + 1) (kinds_of (drop i rs))
run_next rs i done d lt less =
    let r : Run = get_or rs i d in
    let from = kinds_from rs i d lt in
    let one : suc done ≡ done + 1 = omega arith in
    ap (drop done) from
    ∙ inside r.count done r.what (kinds_of (drop (i + 1) rs)) less
    ∙ ap (λ ks. r.what ∷ drop (suc done) ks) (sym from)
    ∙ ap (λ q. r.what ∷ drop q (kinds_of (drop i rs))) one

pub runs_end : (rs : List Run) (i done : ℕ) → length rs ≤ i
    → drop done (kinds_of (drop i rs)) ≡ []
unfolding kinds_of
runs_end rs i done le =
    ap (λ q. drop done (kinds_of q)) (drop_of_length-le rs {i = i} le)
    ∙ drop_of_length-le [] {i = done} (omega arith)
