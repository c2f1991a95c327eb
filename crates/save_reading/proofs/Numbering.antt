-- One number, or one part, more.
use Rattle.std.proofs.Common.{◌≡◌, ℕ, zero, suc, ◌+◌, ◌*◌, ◌<◌, ◌≤◌, List, [], ◌∷◌, ◌++◌, length, take, drop, replicate, refl, sym, ap, ◌∙◌, arith, add-one, slice_set}
use Rattle.std.proofs.lemmas.List.{take_more_set, take_all, length_push}
use Rattle.byteorder.specs.Endian.{big_number}
use Rattle.save_model.specs.declared.parts.SavedCore.{SavedCore}
use Rattle.save_model.specs.Fields.{numbers, behind, many, behind_many}
use Rattle.save_model.specs.Parts.{stored_widths, core_widths, core_of}

numbers_suc : (w i : ℕ) (bs : List ℕ) → numbers (replicate (suc i) w) bs ≡ numbers (replicate i w) bs ++ big_number w (behind (replicate i w) bs) ∷ []
numbers_suc w zero bs = refl
numbers_suc w (suc i) bs = ap (λ z. big_number w bs ∷ z) (numbers_suc w i (drop w bs))

behind_suc : (w i : ℕ) (bs : List ℕ) → behind (replicate (suc i) w) bs ≡ drop w (behind (replicate i w) bs)
behind_suc w zero bs = refl
behind_suc w (suc i) bs = behind_suc w i (drop w bs)

many_suc : {A : Type 0} (part : List ℕ → A) (ws : List ℕ) (n : ℕ) (bs : List ℕ) → many part ws (suc n) bs ≡ many part ws n bs ++ part (numbers ws (behind_many ws n bs)) ∷ []
many_suc part ws zero bs = refl
many_suc part ws (suc n) bs = ap (λ z. part (numbers ws bs) ∷ z) (many_suc part ws n (behind ws bs))

behind_many_suc : (ws : List ℕ) (n : ℕ) (bs : List ℕ) → behind_many ws (suc n) bs ≡ behind ws (behind_many ws n bs)
behind_many_suc ws zero bs = refl
behind_many_suc ws (suc n) bs = behind_many_suc ws n (behind ws bs)

set_long : {A : Type 0} (xs : List A) (k : ℕ) (x : A) → length (slice_set xs k x) ≡ length xs
set_long [] k x = refl
set_long (y ∷ xs) zero x = refl
set_long (y ∷ xs) (suc k) x = let e = set_long xs k x in omega (arith, e)

-- ---- a list of words is filled

pub record Filled (w n k : ℕ) (words start rest : List ℕ) : Type 0 where
  pub front : take k words ≡ numbers (replicate k w) start
  pub rest_is : rest ≡ behind (replicate k w) start
  pub long : length words ≡ n
  pub left : length rest + w * k ≡ length start

pub filled_start : (w : ℕ) (words start : List ℕ) → Filled w (length words) 0 words start start
filled_start w words start = record { front = refl; rest_is = refl; long = refl; left = omega arith }

pub filled_next : (w n k : ℕ) (words start rest after_it : List ℕ) (x : ℕ) → k < n → Filled w n k words start rest → x ≡ big_number w rest
    → after_it ≡ drop w rest → length after_it + w ≡ length rest → Filled w n (k + 1) (slice_set words k x) start after_it
filled_next w n k words start rest after_it x lt so value drops left = record {
  front =
      take_more_set words k x (omega (arith, lt, so.long))
      ∙ ap (λ z. z ++ x ∷ []) so.front
      ∙ ap (λ z. numbers (replicate k w) start ++ z ∷ []) (value ∙ ap (λ z. big_number w z) so.rest_is)
      ∙ sym (ap (λ j. numbers (replicate j w) start) (add-one k) ∙ numbers_suc w k start);
  rest_is = drops ∙ ap (λ z. drop w z) so.rest_is ∙ sym (ap (λ j. behind (replicate j w) start) (add-one k) ∙ behind_suc w k start);
  long = set_long words k x ∙ so.long;
  left = omega (arith, left, so.left);
}

pub filled_words : (w n k : ℕ) (words start rest : List ℕ) → n ≤ k → k ≤ n → Filled w n k words start rest → words ≡ numbers (replicate n w) start
filled_words w n k words start rest le ge so =
    let e : k ≡ n = omega (arith, le, ge) in
    sym (take_all k words (omega (arith, le, so.long))) ∙ so.front ∙ ap (λ j. numbers (replicate j w) start) e

pub filled_rest : (w n k : ℕ) (words start rest : List ℕ) → n ≤ k → k ≤ n → Filled w n k words start rest → rest ≡ behind (replicate n w) start
filled_rest w n k words start rest le ge so =
    let e : k ≡ n = omega (arith, le, ge) in
    so.rest_is ∙ ap (λ j. behind (replicate j w) start) e

-- ---- parts are read

-- where `k` parts were read, of `size` bytes each
pub record Parted {A : Type 0} (part : List ℕ → A) (ws : List ℕ) (size k : ℕ) (items : List A) (start rest : List ℕ) : Type 0 where
  pub items_are : items ≡ many part ws k start
  pub rest_is : rest ≡ behind_many ws k start
  pub left : length rest + size * k ≡ length start
  pub count : length items ≡ k

pub parted_start : {A : Type 0} (part : List ℕ → A) (ws : List ℕ) (size : ℕ) (start : List ℕ) → Parted part ws size 0 [] start start
parted_start part ws size start = record { items_are = refl; rest_is = refl; left = omega arith; count = refl }

pub parted_next : {A : Type 0} (part : List ℕ → A) (ws : List ℕ) (size k : ℕ) (items more : List A) (start rest after_it : List ℕ) (x : A) → Parted part ws size k items start rest
    → x ≡ part (numbers ws rest) → after_it ≡ behind ws rest → length after_it + size ≡ length rest → more ≡ items ++ x ∷ [] → Parted part ws size (k + 1) more start after_it
parted_next part ws size k items more start rest after_it x so value behind_it left pushed = record {
  items_are =
      pushed
      ∙ ap (λ z. z ++ x ∷ []) so.items_are
      ∙ ap (λ z. many part ws k start ++ z ∷ []) (value ∙ ap (λ z. part (numbers ws z)) so.rest_is)
      ∙ sym (ap (λ j. many part ws j start) (add-one k) ∙ many_suc part ws k start);
  rest_is = behind_it ∙ ap (λ z. behind ws z) so.rest_is ∙ sym (ap (λ j. behind_many ws j start) (add-one k) ∙ behind_many_suc ws k start);
  left = omega (arith, left, so.left);
  count = ap length pushed ∙ length_push items x ∙ ap (λ n. n + 1) so.count;
}

-- ---- a list of parts is filled

pub record Placed {A : Type 0} (part : List ℕ → A) (ws : List ℕ) (size n k : ℕ) (xs : List A) (start rest : List ℕ) : Type 0 where
  pub front : take k xs ≡ many part ws k start
  pub rest_is : rest ≡ behind_many ws k start
  pub long : length xs ≡ n
  pub left : length rest + size * k ≡ length start

pub placed_start : {A : Type 0} (part : List ℕ → A) (ws : List ℕ) (size n : ℕ) (xs : List A) (start : List ℕ) → length xs ≡ n → Placed part ws size n 0 xs start start
placed_start part ws size n xs start long = record { front = refl; rest_is = refl; long = long; left = omega arith }

pub placed_next : {A : Type 0} (part : List ℕ → A) (ws : List ℕ) (size n k : ℕ) (xs : List A) (start rest after_it : List ℕ) (x : A) → k < n → Placed part ws size n k xs start rest
    → x ≡ part (numbers ws rest) → after_it ≡ behind ws rest → length after_it + size ≡ length rest → Placed part ws size n (k + 1) (slice_set xs k x) start after_it
placed_next part ws size n k xs start rest after_it x lt so value behind_it left = record {
  front =
      take_more_set xs k x (omega (arith, lt, so.long))
      ∙ ap (λ z. z ++ x ∷ []) so.front
      ∙ ap (λ z. many part ws k start ++ z ∷ []) (value ∙ ap (λ z. part (numbers ws z)) so.rest_is)
      ∙ sym (ap (λ j. many part ws j start) (add-one k) ∙ many_suc part ws k start);
  rest_is = behind_it ∙ ap (λ z. behind ws z) so.rest_is ∙ sym (ap (λ j. behind_many ws j start) (add-one k) ∙ behind_many_suc ws k start);
  long = set_long xs k x ∙ so.long;
  left = omega (arith, left, so.left);
}

pub placed_parts : {A : Type 0} (part : List ℕ → A) (ws : List ℕ) (size n k : ℕ) (xs : List A) (start rest : List ℕ) → k ≡ n → Placed part ws size n k xs start rest → xs ≡ many part ws n start
placed_parts part ws size n k xs start rest e so =
    sym (take_all k xs (omega (arith, e, so.long))) ∙ so.front ∙ ap (λ j. many part ws j start) e

pub placed_rest : {A : Type 0} (part : List ℕ → A) (ws : List ℕ) (size n k : ℕ) (xs : List A) (start rest : List ℕ) → k ≡ n → Placed part ws size n k xs start rest → rest ≡ behind_many ws n start
placed_rest part ws size n k xs start rest e so = so.rest_is ∙ ap (λ j. behind_many ws j start) e

-- ---- bytes are their own numbers

pub ones_read : (n : ℕ) (bs : List ℕ) → n ≤ length bs → numbers (replicate n 1) bs ≡ take n bs
ones_read zero bs le = refl
ones_read (suc n) [] le = absurd (omega (arith, le))
ones_read (suc n) (b ∷ bs) le =
    let one : big_number 1 (b ∷ bs) ≡ b = omega arith in
    ap (λ z. z ∷ numbers (replicate n 1) bs) one ∙ ap (λ z. b ∷ z) (ones_read n bs (omega (arith, le)))

pub ones_behind : (n : ℕ) (bs : List ℕ) → n ≤ length bs → behind (replicate n 1) bs ≡ drop n bs
ones_behind zero bs le = refl
ones_behind (suc n) [] le = absurd (omega (arith, le))
ones_behind (suc n) (b ∷ bs) le = ones_behind n bs (omega (arith, le))

-- ---- a core

abbrev core_with : ℕ → ℕ → ℕ → List ℕ → SavedCore
core_with place blank begun stored = record { place = place; zeros = blank; begun = begun; stored = stored }

same_core : {p q z y b c : ℕ} {s t : List ℕ} → p ≡ q → z ≡ y → b ≡ c → s ≡ t → core_with p z b s ≡ core_with q y c t
same_core e1 e2 e3 e4 = rw (e1, e2, e3, e4) refl

pub forty_stored : (bs : List ℕ) → numbers (replicate 40 16) bs ≡ numbers stored_widths bs
unfolding stored_widths
forty_stored bs = refl

pub core_read : (place blank begun : ℕ) (stored bs r1 r2 r3 : List ℕ) → place ≡ big_number 1 bs → r1 ≡ drop 1 bs → blank ≡ big_number 7 r1 → r2 ≡ drop 7 r1
    → begun ≡ big_number 8 r2 → r3 ≡ drop 8 r2 → stored ≡ numbers stored_widths r3 → core_with place blank begun stored ≡ core_of (numbers core_widths bs)
core_read place blank begun stored bs r1 r2 r3 e1 d1 e2 d2 e3 d3 e4 =
    let f2 : r2 ≡ drop 7 (drop 1 bs) = d2 ∙ ap (λ z. drop 7 z) d1 in
    let f3 : r3 ≡ drop 8 (drop 7 (drop 1 bs)) = d3 ∙ ap (λ z. drop 8 z) f2 in
    same_core e1 (e2 ∙ ap (λ z. big_number 7 z) d1) (e3 ∙ ap (λ z. big_number 8 z) f2) (e4 ∙ ap (λ z. numbers stored_widths z) f3)
