-- Masks over bytes: two masks give the same bytes exactly where they are one mask.
use Rattle.std.proofs.Common.{◌≡◌, ℕ, zero, suc, ◌+◌, ◌<◌, List, [], ◌∷◌, length, refl, sym, ap, ◌∙◌, subst, arith, bit_xor}
use Rattle.std.specs.Int.Bits.{xor_self, xor_assoc, xor_zero_l, xor_zero_r}
use Rattle.silicon.specs.Chip.{masked}

xor_cancel : (b x y : ℕ) → bit_xor b x ≡ bit_xor b y → x ≡ y
xor_cancel b x y e = sym (xor_zero_l x) ∙ ap (λ z. bit_xor z x) (sym (xor_self b)) ∙ xor_assoc b b x ∙ ap (bit_xor b) e ∙ sym (xor_assoc b b y) ∙ ap (λ z. bit_xor z y) (xor_self b) ∙ xor_zero_l y

-- the first byte, and the others
head_of : (x y : ℕ) (xs ys : List ℕ) → (x ∷ xs) ≡ (y ∷ ys) → x ≡ y
head_of x y xs ys e = cc

tail_of : (x y : ℕ) (xs ys : List ℕ) → (x ∷ xs) ≡ (y ∷ ys) → xs ≡ ys
tail_of x y xs ys e = cc

pub same_from_masked : (f g : ℕ → ℕ) (k : ℕ) (bs : List ℕ) → masked f k bs ≡ masked g k bs → (j : ℕ) → j < length bs → f (k + j) ≡ g (k + j)
unfolding masked
same_from_masked f g k [] e j h = absurd (omega arith)
same_from_masked f g k (b ∷ bs) e zero h =
    let z : k ≡ k + 0 = omega arith in
    subst (λ i. f i ≡ g i) z (xor_cancel b (f k) (g k) (head_of (bit_xor b (f k)) (bit_xor b (g k)) (masked f (k + 1) bs) (masked g (k + 1) bs) e))
same_from_masked f g k (b ∷ bs) e (suc j) h =
    let z : k + 1 + j ≡ k + suc j = omega arith in
    subst (λ i. f i ≡ g i) z (same_from_masked f g (k + 1) bs (tail_of (bit_xor b (f k)) (bit_xor b (g k)) (masked f (k + 1) bs) (masked g (k + 1) bs) e) j (omega arith))

pub masked_by_same : (f g : ℕ → ℕ) (k : ℕ) (bs : List ℕ) → ((j : ℕ) → j < length bs → f (k + j) ≡ g (k + j)) → masked f k bs ≡ masked g k bs
unfolding masked
masked_by_same f g k [] h = refl
masked_by_same f g k (b ∷ bs) h =
    let z : k + 0 ≡ k = omega arith in
    let first : f k ≡ g k = subst (λ i. f i ≡ g i) z (h 0 (omega arith)) in
    let rest = masked_by_same f g (k + 1) bs (λ j l. let q : k + suc j ≡ k + 1 + j = omega arith in subst (λ i. f i ≡ g i) q (h (suc j) (omega arith))) in
    cc

pub masked_none : (f : ℕ → ℕ) (k : ℕ) (bs : List ℕ) → ((j : ℕ) → j < length bs → f (k + j) ≡ 0) → masked f k bs ≡ bs
unfolding masked
masked_none f k [] h = refl
masked_none f k (b ∷ bs) h =
    let z : k + 0 ≡ k = omega arith in
    let first : f k ≡ 0 = subst (λ i. f i ≡ 0) z (h 0 (omega arith)) in
    let rest = masked_none f (k + 1) bs (λ j l. let q : k + suc j ≡ k + 1 + j = omega arith in subst (λ i. f i ≡ 0) q (h (suc j) (omega arith))) in
    let byte : bit_xor b (f k) ≡ b = ap (bit_xor b) first ∙ xor_zero_r b in
    cc

pub masked_length : (f : ℕ → ℕ) (k : ℕ) (bs : List ℕ) → length (masked f k bs) ≡ length bs
unfolding masked
masked_length f k [] = refl
masked_length f k (b ∷ bs) = ap suc (masked_length f (k + 1) bs)

pub told_apart : (f g : ℕ → ℕ) (bs : List ℕ) → masked f 0 bs ≡ masked g 0 bs → (k : ℕ) → k < length bs → f k ≡ g k
told_apart f g bs e k h =
    let z : 0 + k ≡ k = omega arith in
    subst (λ i. f i ≡ g i) z (same_from_masked f g 0 bs e k h)

pub told_alike : (f g : ℕ → ℕ) (bs : List ℕ) → ((k : ℕ) → k < length bs → f k ≡ g k) → masked f 0 bs ≡ masked g 0 bs
told_alike f g bs h = masked_by_same f g 0 bs (λ j l. let z : j ≡ 0 + j = omega arith in subst (λ i. f i ≡ g i) z (h j l))

pub told_none : (f : ℕ → ℕ) (bs : List ℕ) → ((k : ℕ) → k < length bs → f k ≡ 0) → masked f 0 bs ≡ bs
told_none f bs h = masked_none f 0 bs (λ j l. let z : j ≡ 0 + j = omega arith in subst (λ i. f i ≡ 0) z (h j l))
