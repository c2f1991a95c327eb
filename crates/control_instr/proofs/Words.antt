-- The bytes of one word more.
use Rattle.std.proofs.Common.{◌≡◌, ◌∙◌, ℕ, zero, suc, ◌+◌, List, ◌++◌, ap, sym, append_assoc, arith, add-zero}
use Rattle.std.specs.List.{range_with_len, flat_map}
use Rattle.std.proofs.lemmas.List.{append-nil}

words_from : (f : ℕ → List ℕ) (a k : ℕ)
    → flat_map f (range_with_len a (k + 1)) ≡ flat_map f (range_with_len a k) ++ f (a + k)
words_from f a zero = append-nil (f a) ∙ ap f (sym (add-zero a))
words_from f a (suc n) =
    let e : suc n + 1 ≡ suc (n + 1) = omega arith in
    let place : a + 1 + n ≡ a + suc n = omega arith in
    let rest = flat_map f (range_with_len (a + 1) n) in
    rw e
    (ap (λ ys. f a ++ ys) (words_from f (a + 1) n)
    ∙ (sym (append_assoc (f a) rest (f (a + 1 + n)))
    ∙ ap (λ p. (f a ++ rest) ++ f p) place))

pub words_step : (f : ℕ → List ℕ) (k : ℕ) (old new : List ℕ) → new ≡ old ++ f k
    → old ≡ flat_map f (range_with_len 0 k) → new ≡ flat_map f (range_with_len 0 (k + 1))
words_step f k old new more so_far =
    let place : k ≡ 0 + k = omega arith in
    let last = ap (λ p. flat_map f (range_with_len 0 k) ++ f p) place ∙ sym (words_from f 0 k) in
    more ∙ (ap (λ xs. xs ++ f k) so_far ∙ last)
