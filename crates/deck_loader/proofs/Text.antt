-- Bytes stored one by one, and what stands at each place then.
use Rattle.std.proofs.Common.{◌≡◌, ◌≢◌, ℕ, zero, suc, ◌+◌, ◌-◌, ◌<◌, ◌≤◌, Bool, true, false, cond, leb, ltb, ◌&&◌, List, [], ◌∷◌, ◌++◌, length, get_or, set, None, refl, sym, ◌∙◌, ap, subst, arith, zero-add, add-zero, inl, inr, ◌⊎◌, length-set, get_or-set_other, get_or-set_same}
use Rattle.std.proofs.lemmas.Bool.Decides.{nat_tests}
use Rattle.std.proofs.lemmas.Bool.{cases_lt}
use Rattle.std.specs.List.{slice_get}
use Rattle.deck_model.specs.declared.decks.Placed.{Placed}
use Rattle.deck_model.specs.declared.decks.Text.{Text}
use Rattle.deck_model.specs.Image.{text_at, text_byte, bytes_from}
use Rattle.deck_loader.specs.Written.{stored, written, AreInside}

pub length-stored : (at : ℕ) (ys xs : List ℕ) → length (stored at ys xs) ≡ length xs
length-stored at [] xs = refl
length-stored at (y ∷ ys) xs = length-stored (at + 1) ys (set xs at y) ∙ length-set xs at y

stored_below : (at : ℕ) (ys xs : List ℕ) (a : ℕ) → a < at → get_or (stored at ys xs) a 0 ≡ get_or xs a 0
stored_below at [] xs a h = refl
stored_below at (y ∷ ys) xs a h =
    let ne : a ≢ at = omega arith in
    stored_below (at + 1) ys (set xs at y) a (omega arith) ∙ get_or-set_other xs at a y 0 ne

stored_above : (at : ℕ) (ys xs : List ℕ) (a : ℕ) → at + length ys ≤ a → get_or (stored at ys xs) a 0 ≡ get_or xs a 0
stored_above at [] xs a h = refl
stored_above at (y ∷ ys) xs a h =
    let ne : a ≢ at = omega arith in
    stored_above (at + 1) ys (set xs at y) a (omega arith) ∙ get_or-set_other xs at a y 0 ne

stored_inside : (at : ℕ) (ys xs : List ℕ) (a k : ℕ) → at + length ys ≤ length xs → a ≡ at + k → k < length ys → get_or (stored at ys xs) a 0 ≡ get_or ys k 0
stored_inside at [] xs a k h e l = absurd (omega arith)
stored_inside at (y ∷ ys) xs a zero h e l =
    let same : a ≡ at = omega arith in
    let lt : at < length xs = omega arith in
    stored_below (at + 1) ys (set xs at y) a (omega arith) ∙ (ap (λ i. get_or (set xs at y) i 0) same ∙ get_or-set_same xs at y 0 lt)
stored_inside at (y ∷ ys) xs a (suc k) h e l =
    let n = length-set xs at y in
    stored_inside (at + 1) ys (set xs at y) a k (omega (arith, n, h)) (omega arith) (omega arith)

pub covers : ℕ → ℕ → ℕ → Bool
covers at n a = leb at a && ltb a (at + n)

outside : (at n a : ℕ) → covers at n a ≡ false → (a < at) ⊎ (at + n ≤ a)
unfolding covers
outside at n a e = elim (cases_lt a at) [ inl l ↦ inl l | inr g ↦ elim (cases_lt a (at + n)) [ inl k ↦ absurd (grind (arith, nat_tests)) | inr k ↦ inr k ] ]

stored_case : (at : ℕ) (ys xs : List ℕ) (a : ℕ) (b : Bool) → covers at (length ys) a ≡ b → at + length ys ≤ length xs → get_or (stored at ys xs) a 0 ≡ cond b (get_or ys (a - at) 0) (get_or xs a 0)
unfolding covers
stored_case at ys xs a true e h =
    let l : at ≤ a = grind (arith, nat_tests) in
    let k : a < at + length ys = grind (arith, nat_tests) in
    stored_inside at ys xs a (a - at) h (omega arith) (omega arith)
stored_case at ys xs a false e h =
    elim (outside at (length ys) a e) [ inl l ↦ stored_below at ys xs a l | inr k ↦ stored_above at ys xs a k ]

-- the byte at a after bytes were stored
pub stored_byte : (at : ℕ) (ys xs : List ℕ) (a : ℕ) → at + length ys ≤ length xs → get_or (stored at ys xs) a 0 ≡ cond (leb at a && ltb a (at + length ys)) (get_or ys (a - at) 0) (get_or xs a 0)
unfolding covers
stored_byte at ys xs a h = stored_case at ys xs a (covers at (length ys) a) refl h

-- ---- texts

byte_of : (ps : List Placed) (ts : List Text) (xs : List ℕ) (a : ℕ) → AreInside ps (length xs) ts → get_or (written ps ts xs) a 0 ≡ text_byte ps ts a (get_or xs a 0)
byte_of ps [] xs a h = refl
byte_of ps (t ∷ ts) xs a h =
    let at : ℕ = text_at ps t in
    let ys = t.bytes.items in
    let same = length-stored at ys xs in
    let P : ℕ → Type 0 = λ n. AreInside ps n ts in
    byte_of ps ts (stored at ys xs) a (subst P (sym same) h.1)
    ∙ ap (text_byte ps ts a) (stored_byte at ys xs a h.0)

-- ---- a list of bytes and a function that gives each

abbrev pub Shows : (ℕ → ℕ) → List ℕ → Type 0
Shows f xs = (a : ℕ) → a < length xs → get_or xs a 0 ≡ f a

pub texts_show : (ps : List Placed) (ts : List Text) (xs : List ℕ) → Shows (λ a. 0) xs → AreInside ps (length xs) ts → length (written ps ts xs) ≡ length xs → Shows (λ a. text_byte ps ts a 0) (written ps ts xs)
texts_show ps ts xs z h l = λ a k. byte_of ps ts xs a h ∙ ap (text_byte ps ts a) (z a (omega (arith, k, l)))

pub length-bytes_from : (f : ℕ → ℕ) (a n : ℕ) → length (bytes_from f a n) ≡ n
length-bytes_from f a zero = refl
length-bytes_from f a (suc n) = ap suc (length-bytes_from f (a + 1) n)

byte_at : (f : ℕ → ℕ) (a n k : ℕ) → k < n → get_or (bytes_from f a n) k 0 ≡ f (a + k)
byte_at f a zero k h = absurd (omega arith)
byte_at f a (suc n) zero h = ap f (sym (add-zero a))
byte_at f a (suc n) (suc k) h =
    let e : a + 1 + k ≡ a + suc k = omega arith in
    byte_at f (a + 1) n k (omega arith) ∙ ap f e

same_numbers : (xs ys : List ℕ) → length xs ≡ length ys → ((k : ℕ) → k < length xs → get_or xs k 0 ≡ get_or ys k 0) → xs ≡ ys
same_numbers [] [] e h = refl
same_numbers [] (y ∷ ys) e h = absurd (omega arith)
same_numbers (x ∷ xs) [] e h = absurd (omega arith)
same_numbers (x ∷ xs) (y ∷ ys) e h = ap (λ z. z ∷ xs) (h 0 (omega arith)) ∙ ap (λ zs. y ∷ zs) (same_numbers xs ys (omega arith) (λ k l. h (suc k) (omega arith)))

pub shown : (f : ℕ → ℕ) (xs : List ℕ) (n : ℕ) → Shows f xs → length xs ≡ n → xs ≡ bytes_from f 0 n
shown f xs n s e =
    same_numbers xs (bytes_from f 0 n) (e ∙ sym (length-bytes_from f 0 n))
    (λ k h. s k h ∙ (ap f (sym (zero-add k)) ∙ sym (byte_at f 0 n k (omega (arith, e, h)))))

pub bytes_from_same : (f g : ℕ → ℕ) (a n : ℕ) → ((k : ℕ) → a ≤ k → k < a + n → f k ≡ g k) → bytes_from f a n ≡ bytes_from g a n
bytes_from_same f g a zero h = refl
bytes_from_same f g a (suc n) h =
    ap (λ x. x ∷ bytes_from f (a + 1) n) (h a (omega arith) (omega arith))
    ∙ ap (λ xs. g a ∷ xs) (bytes_from_same f g (a + 1) n (λ k l m. h k (omega arith) (omega arith)))

pub bytes_from-push : (f : ℕ → ℕ) (a n m : ℕ) → m ≡ n + 1 → bytes_from f a m ≡ bytes_from f a n ++ f (a + n) ∷ []
bytes_from-push f a n zero e = absurd (omega arith)
bytes_from-push f a zero (suc zero) e = ap (λ k. f k ∷ []) (sym (add-zero a))
bytes_from-push f a zero (suc (suc m)) e = absurd (omega arith)
bytes_from-push f a (suc n) (suc m) e =
    let next : a + 1 + n ≡ a + suc n = omega arith in
    ap (λ xs. f a ∷ xs) (bytes_from-push f (a + 1) n m (omega arith) ∙ ap (λ k. bytes_from f (a + 1) n ++ f k ∷ []) next)

-- past the end a list has zeros
pub nothing_at : (xs : List ℕ) (i : ℕ) → slice_get xs i ≡ None → 0 ≡ get_or xs i 0
nothing_at [] i h = refl
nothing_at (x ∷ xs) zero h = absurd (grind (arith, nat_tests))
nothing_at (x ∷ xs) (suc i) h = nothing_at xs i h
