-- Two relocations one after the other.
use Rattle.std.proofs.Common.{◌≡◌, ℕ, zero, suc, ◌+◌, ◌-◌, ◌%◌, ◌^◌, ◌<◌, ◌≤◌, Bool, true, false, cond, leb, ltb, ◌&&◌, List, [], ◌∷◌, ◌++◌, length, get_or, refl, sym, ◌∙◌, ap, arith, ◌⊎◌, inl, inr, append-nil}
use Rattle.std.proofs.lemmas.Bool.Decides.{nat_tests}
use Rattle.byteorder.specs.Endian.{big_number, big_bytes}
use Rattle.byteorder.specs.Numbers.{length-bytes_high_first, big_from-bytes}
use Rattle.deck_model.specs.Image.{added, bytes_from, relocated_byte}
use Rattle.deck_loader.proofs.Text.{bytes_from_same}
use Rattle.link_model.proofs.Sums.{swapped, split, added_itself}

unfoldable pub covers : ℕ → ℕ → ℕ → Bool
covers at w a = leb at a && ltb a (at + w)

abbrev pub constant : (ℕ → ℕ) → ℕ → ℕ → ℕ
constant f at w = big_number w (bytes_from f at w)

abbrev pub new_byte : ℕ → ℕ → ℕ → ℕ → ℕ
new_byte at w n a = get_or (big_bytes w n) (a - at) 0

pub one_is : (at w : ℕ) (m : Bool) (v : ℕ) (f : ℕ → ℕ) (a : ℕ) → relocated_byte at w m v f a ≡ cond (covers at w a) (new_byte at w (added m w v (constant f at w)) a) (f a)
unfolding relocated_byte covers
one_is at w m v f a = refl

pub inside_of : (at w a : ℕ) → covers at w a ≡ true → (at ≤ a) × (a < at + w)
unfolding covers
inside_of at w a h = (grind (arith, nat_tests), grind (arith, nat_tests))

pub is_inside : (at w a : ℕ) → at ≤ a → a < at + w → covers at w a ≡ true
unfolding covers
is_inside at w a h k = grind (arith, nat_tests)

pub is_outside : (at w a : ℕ) → (a < at) ⊎ (at + w ≤ a) → covers at w a ≡ false
unfolding covers
is_outside at w a (inl h) = grind (arith, nat_tests)
is_outside at w a (inr h) = grind (arith, nat_tests)

pub same_byte : (at w : ℕ) (m : Bool) (v : ℕ) (f g : ℕ → ℕ) → ((a : ℕ) → f a ≡ g a) → (a : ℕ) → relocated_byte at w m v f a ≡ relocated_byte at w m v g a
same_byte at w m v f g h a =
    let e : bytes_from f at w ≡ bytes_from g at w = bytes_from_same f g at w (λ k l u. h k) in
    one_is at w m v f a
    ∙ (ap (λ bs. cond (covers at w a) (new_byte at w (added m w v (big_number w bs)) a) (f a)) e
    ∙ (ap (λ b. cond (covers at w a) (new_byte at w (added m w v (constant g at w)) a) b) (h a) ∙ sym (one_is at w m v g a)))

-- ---- the constant that a relocation leaves

later : (x : ℕ) (xs : List ℕ) (at k : ℕ) → at + 1 ≤ k → get_or (x ∷ xs) (k - at) 0 ≡ get_or xs (k - (at + 1)) 0
later x xs at k h =
    let e : k - at ≡ suc (k - (at + 1)) = omega arith in
    ap (λ i. get_or (x ∷ xs) i 0) e

read_back : (xs : List ℕ) (at : ℕ) → bytes_from (λ a. get_or xs (a - at) 0) at (length xs) ≡ xs
read_back [] at = refl
read_back (x ∷ xs) at =
    let z : at - at ≡ 0 = omega arith in
    ap (λ k. get_or (x ∷ xs) k 0 ∷ bytes_from (λ a. get_or (x ∷ xs) (a - at) 0) (at + 1) (length xs)) z
    ∙ ap (λ ys. x ∷ ys) (bytes_from_same (λ a. get_or (x ∷ xs) (a - at) 0) (λ a. get_or xs (a - (at + 1)) 0) (at + 1) (length xs) (λ k l u. later x xs at k l) ∙ read_back xs (at + 1))

pub new_constant : (at w n : ℕ) → bytes_from (new_byte at w n) at w ≡ big_bytes w n
new_constant at w n =
    let l : length (big_bytes w n) ≡ w = length-bytes_high_first w n in
    ap (bytes_from (new_byte at w n) at) (sym l) ∙ read_back (big_bytes w n) at

number_of : (w n : ℕ) → big_number w (big_bytes w n) ≡ n % 256 ^ w
number_of w n = ap (big_number w) (sym (append-nil (big_bytes w n))) ∙ big_from-bytes w n []

pub left : (at w : ℕ) (m : Bool) (v : ℕ) (f : ℕ → ℕ) → constant (relocated_byte at w m v f) at w ≡ added m w v (constant f at w)
left at w m v f =
    let n : ℕ = added m w v (constant f at w) in
    let e : bytes_from (relocated_byte at w m v f) at w ≡ bytes_from (new_byte at w n) at w =
    bytes_from_same (relocated_byte at w m v f) (new_byte at w n) at w (λ k l u. one_is at w m v f k ∙ ap (λ b. cond b (new_byte at w n k) (f k)) (is_inside at w k l u)) in
    ap (big_number w) (e ∙ new_constant at w n) ∙ (number_of w n ∙ added_itself m w v (constant f at w))

-- ---- two in one constant

cond_twice : (b : Bool) (x y z : ℕ) → cond b x (cond b y z) ≡ cond b x z
cond_twice true x y z = refl
cond_twice false x y z = refl

pub both_is : (at w : ℕ) (m : Bool) (v : ℕ) (n : Bool) (u : ℕ) (f : ℕ → ℕ) (a : ℕ) → relocated_byte at w m v (relocated_byte at w n u f) a ≡ cond (covers at w a) (new_byte at w (added m w v (added n w u (constant f at w))) a) (f a)
both_is at w m v n u f a =
    let inner = relocated_byte at w n u f in
    let x = new_byte at w (added m w v (added n w u (constant f at w))) a in
    one_is at w m v inner a
    ∙ (ap (λ k. cond (covers at w a) (new_byte at w (added m w v k) a) (inner a)) (left at w n u f)
    ∙ (ap (λ b. cond (covers at w a) x b) (one_is at w n u f a) ∙ cond_twice (covers at w a) x (new_byte at w (added n w u (constant f at w)) a) (f a)))

pub swap_same : (at w : ℕ) (m : Bool) (v : ℕ) (n : Bool) (u : ℕ) (f : ℕ → ℕ) (a : ℕ) → relocated_byte at w m v (relocated_byte at w n u f) a ≡ relocated_byte at w n u (relocated_byte at w m v f) a
swap_same at w m v n u f a =
    both_is at w m v n u f a
    ∙ (ap (λ k. cond (covers at w a) (new_byte at w k a) (f a)) (swapped m n w v u (constant f at w)) ∙ sym (both_is at w n u m v f a))

-- a value in two parts, the second with a word more
pub split_byte : (at w : ℕ) (m : Bool) (v o : ℕ) (f : ℕ → ℕ) → w ≤ 4 → (a : ℕ) → relocated_byte at w m (v + o) f a ≡ relocated_byte at w m (o + 4294967296) (relocated_byte at w m v f) a
split_byte at w m v o f h a =
    one_is at w m (v + o) f a
    ∙ (ap (λ k. cond (covers at w a) (new_byte at w k a) (f a)) (split m w v o (constant f at w) h) ∙ sym (both_is at w m (o + 4294967296) m v f a))

-- ---- two constants that share no byte

abbrev pub Disjoint : ℕ → ℕ → ℕ → ℕ → Type 0
Disjoint at w b x = (at + w ≤ b) ⊎ (b + x ≤ at)

outside_other : (at w b x a : ℕ) → Disjoint at w b x → at ≤ a → a < at + w → covers b x a ≡ false
outside_other at w b x a (inl d) h k = is_outside b x a (inl (omega arith))
outside_other at w b x a (inr d) h k = is_outside b x a (inr (omega arith))

-- the constant that another one does not reach
pub kept : (at w b x : ℕ) (n : Bool) (u : ℕ) (f : ℕ → ℕ) → Disjoint at w b x → constant (relocated_byte b x n u f) at w ≡ constant f at w
kept at w b x n u f d =
    ap (big_number w) (bytes_from_same (relocated_byte b x n u f) f at w (λ k l h. one_is b x n u f k ∙ ap (λ c. cond c (new_byte b x (added n x u (constant f b x)) k) (f k)) (outside_other at w b x k d l h)))

cond_swap : (b c : Bool) (x y z : ℕ) → (b ≡ true → c ≡ false) → cond b x (cond c y z) ≡ cond c y (cond b x z)
cond_swap true true x y z h = let e = h refl in absurd (grind (arith, nat_tests))
cond_swap true false x y z h = refl
cond_swap false c x y z h = refl

one_after : (at w : ℕ) (m : Bool) (v : ℕ) (b x : ℕ) (n : Bool) (u : ℕ) (f : ℕ → ℕ) (a : ℕ) → Disjoint at w b x → relocated_byte at w m v (relocated_byte b x n u f) a ≡ cond (covers at w a) (new_byte at w (added m w v (constant f at w)) a) (cond (covers b x a) (new_byte b x (added n x u (constant f b x)) a) (f a))
one_after at w m v b x n u f a d =
    let inner = relocated_byte b x n u f in
    one_is at w m v inner a
    ∙ (ap (λ k. cond (covers at w a) (new_byte at w (added m w v k) a) (inner a)) (kept at w b x n u f d)
    ∙ ap (λ k. cond (covers at w a) (new_byte at w (added m w v (constant f at w)) a) k) (one_is b x n u f a))

pub turned : (at w b x : ℕ) → Disjoint at w b x → Disjoint b x at w
turned at w b x (inl d) = inr d
turned at w b x (inr d) = inl d

pub swap_apart : (at w : ℕ) (m : Bool) (v : ℕ) (b x : ℕ) (n : Bool) (u : ℕ) (f : ℕ → ℕ) (a : ℕ) → Disjoint at w b x → relocated_byte at w m v (relocated_byte b x n u f) a ≡ relocated_byte b x n u (relocated_byte at w m v f) a
swap_apart at w m v b x n u f a d =
    one_after at w m v b x n u f a d
    ∙ (cond_swap (covers at w a) (covers b x a) (new_byte at w (added m w v (constant f at w)) a) (new_byte b x (added n x u (constant f b x)) a) (f a) (λ e. let i = inside_of at w a e in outside_other at w b x a d i.0 i.1)
    ∙ sym (one_after b x n u at w m v f a (turned at w b x d)))
