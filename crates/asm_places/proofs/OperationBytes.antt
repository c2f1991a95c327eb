-- Zeros, and the word of an address.
use Rattle.std.proofs.Common.{◌≡◌, ℕ, ◌+◌, ◌/◌, ◌%◌, ◌≤◌, List, [], ◌∷◌, ◌++◌, replicate, ◌∙◌, ap, arith}
use Rattle.std.proofs.lemmas.List.{append_assoc, replicate_more}
use Rattle.byteorder.specs.Endian.{big_bytes}

pub zeros_more : (old items new : List ℕ) (k : ℕ) → items ≡ old ++ replicate k 0 → new ≡ items ++ 0 ∷ [] → new ≡ old ++ replicate (k + 1) 0
zeros_more old items new k e f =
    f ∙ (ap (λ (xs : List ℕ). xs ++ 0 ∷ []) e
    ∙ (append_assoc old (replicate k 0) (0 ∷ []) ∙ ap (λ (xs : List ℕ). old ++ xs) (replicate_more k 0)))

pub zeros_all : (old items : List ℕ) (k n : ℕ) → items ≡ old ++ replicate k 0 → k ≤ n → n ≤ k → items ≡ old ++ replicate n 0
zeros_all old items k n e a b = let s : k ≡ n = omega (arith, a, b) in e ∙ ap (λ (m : ℕ). old ++ replicate m 0) s

-- a word is the number modulo 2^32
pub low_word : (n : ℕ) → big_bytes 4 (n % 4294967296) ≡ big_bytes 4 n
low_word n =
    let a : n % 4294967296 / 16777216 % 256 ≡ n / 16777216 % 256 = omega arith in
    let b : n % 4294967296 / 65536 % 256 ≡ n / 65536 % 256 = omega arith in
    let c : n % 4294967296 / 256 % 256 ≡ n / 256 % 256 = omega arith in
    let d : n % 4294967296 % 256 ≡ n % 256 = omega arith in
    ap (λ (x : ℕ). x ∷ n % 4294967296 / 65536 % 256 ∷ n % 4294967296 / 256 % 256 ∷ n % 4294967296 % 256 ∷ []) a
    ∙ (ap (λ (x : ℕ). n / 16777216 % 256 ∷ x ∷ n % 4294967296 / 256 % 256 ∷ n % 4294967296 % 256 ∷ []) b
    ∙ (ap (λ (x : ℕ). n / 16777216 % 256 ∷ n / 65536 % 256 ∷ x ∷ n % 4294967296 % 256 ∷ []) c
    ∙ ap (λ (x : ℕ). n / 16777216 % 256 ∷ n / 65536 % 256 ∷ n / 256 % 256 ∷ x ∷ []) d))
