-- A constant hits a mark exactly where it clashes.
use Rattle.std.proofs.Common.{◌≡◌, ◌≢◌, ℕ, zero, suc, ◌+◌, ◌-◌, ◌*◌, ◌<◌, ◌≤◌, Bool, true, false, cond, not, eqb, ltb, ◌&&◌, ◌||◌, List, [], ◌∷◌, length, get_or, set, replicate, Some, refl, sym, ◌∙◌, ap, subst, arith, inl, inr, ◌⊎◌, zero-add, length-set}
use Rattle.std.proofs.lemmas.Bool.Decides.{nat_tests}
use Rattle.std.proofs.lemmas.Bool.{cases_lt, cases_eq}
use Rattle.std.specs.List.{list_any}
use Rattle.deck_model.specs.Image.{bytes_from}
use Rattle.deck_loader.specs.Written.{stored}
use Rattle.deck_loader.proofs.Text.{stored_byte, length-bytes_from}
use Rattle.deck_link.specs.declared.constants.Constant.{Constant}
use Rattle.deck_cards.specs.TextCards.{reaches}
use Rattle.deck_link.specs.Constants.{ConstantsIn}
use Rattle.deck_link.specs.Marks.{tag, is_other, hits, overlap, clash, clash_in}
use Rattle.deck_cards.proofs.RunBytes.{reach_in, reach_true, reach_below, reach_above, byte_at}

-- ---- what the marks are

abbrev pub tag_at : List Constant → ℕ → ℕ
tag_at [] a = 0
tag_at (c ∷ cs) a = cond (reaches c.at c.width a) (tag c.width (a - c.at)) (tag_at cs a)

-- one by one
abbrev Each : List Constant → Type 0
Each [] = Unit {0}
Each (c ∷ cs) = (1 ≤ c.width) × (c.width ≤ 4) × (list_any (clash c) cs ≡ false) × Each cs

-- ---- one hit

-- the hits are the same where the marks are
hits_same : (f g : ℕ → ℕ) (at w i n : ℕ) → ((k : ℕ) → i ≤ k → k < i + n → f (at + k) ≡ g (at + k)) → hits f at w i n ≡ hits g at w i n
hits_same f g at w i zero h = refl
hits_same f g at w i (suc n) h =
    ap (λ x. is_other w i x || hits f at w (i + 1) n) (h i (omega arith) (omega arith))
    ∙ ap (λ b. is_other w i (g (at + i)) || b) (hits_same f g at w (i + 1) n (λ k l m. h k (omega arith) (omega arith)))

either_true : (b : Bool) → (b || true) ≡ true
either_true true = refl
either_true false = refl

hits_one : (f : ℕ → ℕ) (at w i n k : ℕ) → i ≤ k → k < i + n → is_other w k (f (at + k)) ≡ true → hits f at w i n ≡ true
hits_one f at w i zero k l m h = absurd (omega arith)
hits_one f at w i (suc n) k l m h = elim (cases_lt i k) [
  | inl x ↦ ap (λ b. is_other w i (f (at + i)) || b) (hits_one f at w (i + 1) n k (omega arith) (omega arith) h) ∙ either_true (is_other w i (f (at + i)))
  | inr y ↦ (let e : k ≡ i = omega arith in ap (λ b. b || hits f at w (i + 1) n) (subst (λ j. is_other w j (f (at + j)) ≡ true) e h))
]

hits_none : (f : ℕ → ℕ) (at w i n : ℕ) → ((k : ℕ) → i ≤ k → k < i + n → is_other w k (f (at + k)) ≡ false) → hits f at w i n ≡ false
hits_none f at w i zero h = refl
hits_none f at w i (suc n) h =
    ap (λ b. b || hits f at w (i + 1) n) (h i (omega arith) (omega arith)) ∙ hits_none f at w (i + 1) n (λ k l m. h k (omega arith) (omega arith))

-- a mark of another constant at byte k
other_tag : (w k x j : ℕ) → w ≤ 4 → k < w → x ≤ 4 → j < x → (w ≢ x) ⊎ (k ≢ j) → is_other w k (tag x j) ≡ true
other_tag w k x j a b c d (inl n) = let e : x * 4 + j + 1 ≢ w * 4 + k + 1 = omega arith in let z : x * 4 + j + 1 ≢ 0 = omega arith in grind (arith, nat_tests)
other_tag w k x j a b c d (inr n) = let e : x * 4 + j + 1 ≢ w * 4 + k + 1 = omega arith in let z : x * 4 + j + 1 ≢ 0 = omega arith in grind (arith, nat_tests)

own_tag : (w k : ℕ) → is_other w k (tag w k) ≡ false
own_tag w k = grind (arith, nat_tests)

-- ---- one constant more

abbrev Differs : ℕ → ℕ → ℕ → ℕ → Type 0
Differs a w b x = (a ≡ b → w ≡ x → ⊥) × (a < b + x) × (b < a + w)

apart_of : (a w b x : ℕ) → (ltb a (b + x) && ltb b (a + w)) ≡ false → (a + w ≤ b) ⊎ (b + x ≤ a)
apart_of a w b x h = elim (cases_lt b (a + w)) [ inl l ↦ inr (let k : ltb b (a + w) ≡ true = grind (arith, nat_tests) in grind (arith, nat_tests)) | inr g ↦ inl g ]

differs : (a w b x : ℕ) → overlap a w b x ≡ true → Differs a w b x
differs a w b x h = (λ e f. let p : eqb a b ≡ true = grind (arith, nat_tests) in let q : eqb w x ≡ true = grind (arith, nat_tests) in absurd (grind (arith, nat_tests)), grind (arith, nat_tests), grind (arith, nat_tests))

apart_cases : (p q : Bool) (a w b x : ℕ) → eqb a b ≡ p → eqb w x ≡ q → (not (p && q) && (ltb a (b + x) && ltb b (a + w))) ≡ false → ((a ≡ b) × (w ≡ x)) ⊎ ((a + w ≤ b) ⊎ (b + x ≤ a))
apart_cases true true a w b x e f h = inl (grind (arith, nat_tests), grind (arith, nat_tests))
apart_cases true false a w b x e f h = inr (apart_of a w b x h)
apart_cases false q a w b x e f h = inr (apart_of a w b x h)

other_byte : (a w b x : ℕ) → w ≤ 4 → x ≤ 4 → Differs a w b x → 1 ≤ w → 1 ≤ x → is_other w (b - a) (tag x (a + (b - a) - b)) ≡ true
other_byte a w b x p q d o z =
    let k : ℕ = b - a in
    let l1 = d.1 in
    let l2 = d.2 in
    let lk : k < w = omega arith in
    let lj : a + k - b < x = omega arith in
    other_tag w k x (a + k - b) p lk q lj
    (elim (cases_eq w x) [
      | inl s ↦ inr (λ t. let u : a ≡ b = omega arith in d.0 u s)
      | inr n ↦ inl n
    ])

tag_here : (c : Constant) (cs : List Constant) (a : ℕ) → reaches c.at c.width a ≡ true → tag_at (c ∷ cs) a ≡ tag c.width (a - c.at)
tag_here c cs a h = ap (λ b. cond b (tag c.width (a - c.at)) (tag_at cs a)) h

tag_later : (c : Constant) (cs : List Constant) (a : ℕ) → reaches c.at c.width a ≡ false → tag_at (c ∷ cs) a ≡ tag_at cs a
tag_later c cs a h = ap (λ b. cond b (tag c.width (a - c.at)) (tag_at cs a)) h

hit_true : (c : Constant) (cs : List Constant) (a w : ℕ) → 1 ≤ w → w ≤ 4 → 1 ≤ c.width → c.width ≤ 4 → Differs a w c.at c.width → hits (tag_at (c ∷ cs)) a w 0 w ≡ true
hit_true c cs a w o p z q d =
    let k : ℕ = c.at - a in
    let l1 = d.1 in
    let l2 = d.2 in
    let r : reaches c.at c.width (a + k) ≡ true = reach_true c.at c.width (a + k) (omega arith) (omega arith) in
    hits_one (tag_at (c ∷ cs)) a w 0 w k (omega arith) (omega arith) (ap (is_other w k) (tag_here c cs (a + k) r) ∙ other_byte a w c.at c.width p q d o z)

hit_later : (c : Constant) (cs : List Constant) (a w : ℕ) → (a + w ≤ c.at) ⊎ (c.at + c.width ≤ a) → hits (tag_at (c ∷ cs)) a w 0 w ≡ hits (tag_at cs) a w 0 w
hit_later c cs a w (inl d) = hits_same (tag_at (c ∷ cs)) (tag_at cs) a w 0 w (λ k l m. tag_later c cs (a + k) (reach_below c.at c.width (a + k) (omega arith)))
hit_later c cs a w (inr d) = hits_same (tag_at (c ∷ cs)) (tag_at cs) a w 0 w (λ k l m. tag_later c cs (a + k) (reach_above c.at c.width (a + k) (omega arith)))

hit_own : (c : Constant) (cs : List Constant) (a w : ℕ) → a ≡ c.at → w ≡ c.width → hits (tag_at (c ∷ cs)) a w 0 w ≡ false
hit_own c cs a w e f = hits_none (tag_at (c ∷ cs)) a w 0 w (λ k l m.
    let r : reaches c.at c.width (a + k) ≡ true = reach_true c.at c.width (a + k) (omega arith) (omega arith) in
    let g : tag c.width (a + k - c.at) ≡ tag w k = omega arith in
    ap (is_other w k) (tag_here c cs (a + k) r ∙ g) ∙ own_tag w k)

hit_case : (b : Bool) (c : Constant) (cs : List Constant) (a w : ℕ) → overlap a w c.at c.width ≡ b → 1 ≤ w → w ≤ 4 → 1 ≤ c.width → c.width ≤ 4 → list_any (clash c) cs ≡ false → hits (tag_at cs) a w 0 w ≡ list_any (λ (d : Constant). overlap a w d.at d.width) cs → hits (tag_at (c ∷ cs)) a w 0 w ≡ (b || list_any (λ (d : Constant). overlap a w d.at d.width) cs)
hit_case true c cs a w e o p z q n ih = hit_true c cs a w o p z q (differs a w c.at c.width e)
hit_case false c cs a w e o p z q n ih = elim (apart_cases (eqb a c.at) (eqb w c.width) a w c.at c.width refl refl e) [
  | inl s ↦ hit_own c cs a w s.0 s.1 ∙ sym (ap (λ x. list_any (λ (d : Constant). overlap x w d.at d.width) cs) s.0 ∙ (ap (λ x. list_any (λ (d : Constant). overlap c.at x d.at d.width) cs) s.1 ∙ n))
  | inr d ↦ hit_later c cs a w d ∙ ih
]

pub hit_is : (cs : List Constant) (a w : ℕ) → Each cs → 1 ≤ w → w ≤ 4 → hits (tag_at cs) a w 0 w ≡ list_any (λ (d : Constant). overlap a w d.at d.width) cs
hit_is [] a w h o p = hits_none (tag_at []) a w 0 w (λ k l m. refl)
hit_is (c ∷ cs) a w h o p = hit_case (overlap a w c.at c.width) c cs a w refl o p h.0 h.1 h.2 (hit_is cs a w h.3 o p)

-- ---- the pass

pub record Going (n : ℕ) (marks : List ℕ) (rest all : List Constant) : Type 0 where
  pub seen : List Constant
  pub marked : (a : ℕ) → a < n → get_or marks a 0 ≡ tag_at seen a
  pub each : Each seen
  pub so : clash_in seen rest ≡ clash_in [] all
  pub inside : ConstantsIn n rest
  pub long : length marks ≡ n

zero_at : (z n a : ℕ) → get_or (replicate n z) a z ≡ z
zero_at z zero a = refl
zero_at z (suc n) zero = refl
zero_at z (suc n) (suc a) = zero_at z n a

pub going_start : (n : ℕ) (marks : List ℕ) (all : List Constant) → marks ≡ replicate n 0 → length marks ≡ n → ConstantsIn n all → Going n marks all all
going_start n marks all e l h = record {
  seen = [];
  marked = λ a k. ap (λ xs. get_or xs a 0) e ∙ zero_at 0 n a;
  each = tt;
  so = refl;
  inside = h;
  long = l;
}

hits_marks : (n : ℕ) (marks : List ℕ) (seen : List Constant) (a w : ℕ) → ((b : ℕ) → b < n → get_or marks b 0 ≡ tag_at seen b) → a + w ≤ n → hits (λ k. get_or marks k 0) a w 0 w ≡ hits (tag_at seen) a w 0 w
hits_marks n marks seen a w h l = hits_same (λ k. get_or marks k 0) (tag_at seen) a w 0 w (λ k x y. h (a + k) (omega arith))

pub going_hit : (n : ℕ) (marks : List ℕ) (rest after all : List Constant) (c : Constant) → Going n marks rest all → rest ≡ c ∷ after → hits (λ k. get_or marks k 0) c.at c.width 0 c.width ≡ true → Some c.number ≡ clash_in [] all
going_hit n marks rest after all c g e h =
    let P : List Constant → Type 0 = λ xs. ConstantsIn n xs in
    let i = subst P e g.inside in
    let t : list_any (clash c) g.seen ≡ true = sym (hits_marks n marks g.seen c.at c.width g.marked i.2 ∙ hit_is g.seen c.at c.width g.each i.0 i.1) ∙ h in
    sym (sym g.so ∙ (ap (clash_in g.seen) e ∙ ap (λ b. cond b (Some c.number) (clash_in (c ∷ g.seen) after)) t))

mark_case : (b : Bool) (a w k x : ℕ) → reaches a w k ≡ b → cond b (get_or (bytes_from (tag w) 0 w) (k - a) 0) x ≡ cond b (tag w (k - a)) x
mark_case true a w k x h =
    let i = reach_in a w k h in
    byte_at (tag w) 0 w (k - a) (omega (arith, i.0, i.1)) ∙ ap (tag w) (zero-add (k - a))
mark_case false a w k x h = refl

pub going_next : (n : ℕ) (marks new : List ℕ) (rest after all : List Constant) (c : Constant) → Going n marks rest all → rest ≡ c ∷ after → hits (λ k. get_or marks k 0) c.at c.width 0 c.width ≡ false → new ≡ stored c.at (bytes_from (tag c.width) 0 c.width) marks → length new ≡ length marks → Going n new after all
going_next n marks new rest after all c g e h s l =
    let P : List Constant → Type 0 = λ xs. ConstantsIn n xs in
    let i = subst P e g.inside in
    let t : list_any (clash c) g.seen ≡ false = sym (hits_marks n marks g.seen c.at c.width g.marked i.2 ∙ hit_is g.seen c.at c.width g.each i.0 i.1) ∙ h in
    let w : ℕ = c.width in
    let ys = bytes_from (tag w) 0 w in
    let m : length ys ≡ w = length-bytes_from (tag w) 0 w in
    let long = g.long in
    record {
      seen = c ∷ g.seen;
      marked = λ a x.
          ap (λ xs. get_or xs a 0) s
          ∙ (stored_byte c.at ys marks a (let y = i.2 in omega (arith, m, y, long))
          ∙ (ap (λ k. cond (reaches c.at k a) (get_or ys (a - c.at) 0) (get_or marks a 0)) m
          ∙ (mark_case (reaches c.at w a) c.at w a (get_or marks a 0) refl
          ∙ ap (cond (reaches c.at w a) (tag w (a - c.at))) (g.marked a x))));
      each = (i.0, i.1, t, g.each);
      so = sym (ap (λ b. cond b (Some c.number) (clash_in (c ∷ g.seen) after)) t) ∙ (sym (ap (clash_in g.seen) e) ∙ g.so);
      inside = i.3;
      long = l ∙ g.long;
    }

-- ---- steps of the loops

pub hits_step : (f : ℕ → ℕ) (at w i n m : ℕ) → n ≡ m + 1 → is_other w i (f (at + i)) ≡ false → hits f at w i n ≡ hits f at w (i + 1) m
hits_step f at w i zero m e h = absurd (omega arith)
hits_step f at w i (suc n) m e h =
    let s : n ≡ m = omega arith in
    ap (λ b. b || hits f at w (i + 1) n) h ∙ ap (hits f at w (i + 1)) s

pub hits_here : (f : ℕ → ℕ) (at w i n m : ℕ) → n ≡ m + 1 → is_other w i (f (at + i)) ≡ true → hits f at w i n ≡ true
hits_here f at w i zero m e h = absurd (omega arith)
hits_here f at w i (suc n) m e h = ap (λ b. b || hits f at w (i + 1) n) h

pub stored_step : (f : ℕ → ℕ) (a b i n m y : ℕ) (xs : List ℕ) → n ≡ m + 1 → b ≡ a + 1 → y ≡ f i → stored a (bytes_from f i n) xs ≡ stored b (bytes_from f (i + 1) m) (set xs a y)
stored_step f a b i zero m y xs e g h = absurd (omega arith)
stored_step f a b i (suc n) m y xs e g h =
    let s : n ≡ m = omega arith in
    ap (λ k. stored (a + 1) (bytes_from f (i + 1) k) (set xs a (f i))) s
    ∙ (ap (λ k. stored k (bytes_from f (i + 1) m) (set xs a (f i))) (sym g) ∙ ap (λ z. stored b (bytes_from f (i + 1) m) (set xs a z)) (sym h))

pub stored_set : (f : ℕ → ℕ) (z a b i n m y : ℕ) (xs : List ℕ) → z ≡ a → n ≡ m + 1 → b ≡ a + 1 → y ≡ f i → stored a (bytes_from f i n) xs ≡ stored b (bytes_from f (i + 1) m) (set xs z y)
stored_set f z a b i n m y xs k e g h = stored_step f a b i n m y xs e g h ∙ ap (λ q. stored b (bytes_from f (i + 1) m) (set xs q y)) (sym k)

pub set_length : (xs : List ℕ) (a y : ℕ) → length (set xs a y) ≡ length xs
set_length xs a y = length-set xs a y
