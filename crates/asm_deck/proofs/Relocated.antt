-- A word to which a value is added: its own bytes after it, and those that it does not reach.
use Rattle.std.proofs.Common.{◌≡◌, ℕ, zero, suc, ◌+◌, ◌-◌, ◌%◌, ◌^◌, ◌<◌, ◌≤◌, Bool, true, false, cond, leb, ltb, ◌&&◌, List, [], ◌∷◌, ◌++◌, length, get_or, refl, sym, ◌∙◌, ap, arith, ◌⊎◌, inl, inr, append-nil}
use Rattle.std.proofs.lemmas.Bool.Decides.{nat_tests}
use Rattle.byteorder.specs.Endian.{big_number, big_bytes}
use Rattle.byteorder.specs.Numbers.{length-bytes_high_first, big_from-bytes}
use Rattle.deck_model.specs.Image.{bytes_from, relocated_byte}
use Rattle.asm_deck.specs.AssembledImage.{word_at}

unfoldable covers : ℕ → ℕ → Bool
covers at a = leb at a && ltb a (at + 4)

-- the bytes after a value is added to the word at a place
abbrev pub moved_word : ℕ → ℕ → (ℕ → ℕ) → ℕ → ℕ
moved_word at v f = relocated_byte at 4 false v f

abbrev new_byte : ℕ → ℕ → ℕ → ℕ
new_byte at n a = get_or (big_bytes 4 n) (a - at) 0

one_is : (at v : ℕ) (f : ℕ → ℕ) (a : ℕ) → moved_word at v f a ≡ cond (covers at a) (new_byte at ((word_at f at + v) % 256 ^ 4) a) (f a)
unfolding relocated_byte covers
one_is at v f a = refl

inside : (at a : ℕ) → at ≤ a → a < at + 4 → covers at a ≡ true
unfolding covers
inside at a h k = grind (arith, nat_tests)

outside : (at a : ℕ) → (a < at) ⊎ (at + 4 ≤ a) → covers at a ≡ false
unfolding covers
outside at a (inl h) = grind (arith, nat_tests)
outside at a (inr h) = grind (arith, nat_tests)

pub bytes_from_same : (f g : ℕ → ℕ) (at n : ℕ) → ((k : ℕ) → at ≤ k → k < at + n → f k ≡ g k) → bytes_from f at n ≡ bytes_from g at n
bytes_from_same f g at zero h = refl
bytes_from_same f g at (suc n) h =
    ap (λ x. x ∷ bytes_from f (at + 1) n) (h at (omega arith) (omega arith))
    ∙ ap (λ xs. g at ∷ xs) (bytes_from_same f g (at + 1) n (λ k l u. h k (omega arith) (omega arith)))

-- ---- the word itself

later : (x : ℕ) (xs : List ℕ) (at k : ℕ) → at + 1 ≤ k → get_or (x ∷ xs) (k - at) 0 ≡ get_or xs (k - (at + 1)) 0
later x xs at k h =
    let e : k - at ≡ suc (k - (at + 1)) = omega arith in
    ap (λ i. get_or (x ∷ xs) i 0) e

read_back : (xs : List ℕ) (at : ℕ) → bytes_from (λ a. get_or xs (a - at) 0) at (length xs) ≡ xs
read_back [] at = refl
read_back (x ∷ xs) at =
    let z : at - at ≡ 0 = omega arith in
    ap (λ k. get_or (x ∷ xs) k 0 ∷ bytes_from (λ a. get_or (x ∷ xs) (a - at) 0) (at + 1) (length xs)) z
    ∙ ap (λ ys. x ∷ ys) (bytes_from_same (λ a. get_or (x ∷ xs) (a - at) 0) (λ a. get_or xs (a - (at + 1)) 0) (at + 1) (length xs) (λ k l u. later x xs at k l) ∙ read_back xs (at + 1))

new_word : (at n : ℕ) → bytes_from (new_byte at n) at 4 ≡ big_bytes 4 n
new_word at n =
    let l : length (big_bytes 4 n) ≡ 4 = length-bytes_high_first 4 n in
    ap (bytes_from (new_byte at n) at) (sym l) ∙ read_back (big_bytes 4 n) at

pub number_of_word : (n : ℕ) → big_number 4 (big_bytes 4 n) ≡ n % 4294967296
number_of_word n = ap (big_number 4) (sym (append-nil (big_bytes 4 n))) ∙ big_from-bytes 4 n []

twice : (n : ℕ) → n % 4294967296 % 4294967296 ≡ n % 4294967296
twice n = omega arith

pub word_moved : (at v : ℕ) (f : ℕ → ℕ) → word_at (moved_word at v f) at ≡ (word_at f at + v) % 4294967296
word_moved at v f =
    let n : ℕ = (word_at f at + v) % 256 ^ 4 in
    let e : bytes_from (moved_word at v f) at 4 ≡ bytes_from (new_byte at n) at 4 =
    bytes_from_same (moved_word at v f) (new_byte at n) at 4 (λ k l u. one_is at v f k ∙ ap (λ b. cond b (new_byte at n k) (f k)) (inside at k l u)) in
    ap (big_number 4) (e ∙ new_word at n) ∙ (number_of_word n ∙ twice (word_at f at + v))

-- ---- other bytes, and other words

pub byte_kept : (at v : ℕ) (f : ℕ → ℕ) (a : ℕ) → (a < at) ⊎ (at + 4 ≤ a) → moved_word at v f a ≡ f a
byte_kept at v f a h = one_is at v f a ∙ ap (λ b. cond b (new_byte at ((word_at f at + v) % 256 ^ 4) a) (f a)) (outside at a h)

between : (at b k : ℕ) → (at + 4 ≤ b) ⊎ (b + 4 ≤ at) → at ≤ k → k < at + 4 → (k < b) ⊎ (b + 4 ≤ k)
between at b k (inl h) l u = inl (omega arith)
between at b k (inr h) l u = inr (omega arith)

pub word_kept : (at b v : ℕ) (f : ℕ → ℕ) → (at + 4 ≤ b) ⊎ (b + 4 ≤ at) → word_at (moved_word b v f) at ≡ word_at f at
word_kept at b v f h = ap (big_number 4) (bytes_from_same (moved_word b v f) f at 4 (λ k l u. byte_kept b v f k (between at b k h l u)))
