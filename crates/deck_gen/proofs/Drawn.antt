-- Draws after draws, and the instructions that are still to be drawn.
use Rattle.std.proofs.Common.{◌≡◌, ℕ, zero, suc, ◌+◌, ◌-◌, ◌*◌, ◌/◌, ◌%◌, ◌<◌, List, [], ◌∷◌, ◌++◌, refl, sym, ◌∙◌, ap, arith, append_assoc}
use Rattle.std.specs.Fn.{iterate}
use Rattle.program_model.specs.Draws.{next, draw, after}
use Rattle.program_model.specs.GeneratedDeck.{instruction, instructions, code}

pub after_after : (n m x : ℕ) → after m (after n x) ≡ after (n + m) x
unfolding after
after_after zero m x = let e : m ≡ 0 + m = omega arith in ap (λ k. iterate next k x) e
after_after (suc n) m x =
    let e : suc (n + m) ≡ suc n + m = omega arith in
    after_after n m (next x) ∙ ap (λ k. iterate next k x) e

pub draw_after : (n m x : ℕ) → draw m (after n x) ≡ draw (n + m) x
unfolding draw
draw_after n m x = ap (λ y. y / 65536) (after_after n m x)

pub after_none : (n x : ℕ) → n ≡ 0 → after n x ≡ x
unfolding after
after_none n x e = ap (λ k. iterate next k x) e

abbrev drawn : ℕ → List ℕ
drawn x = instruction (draw 1 x % 8) (draw 2 x) (draw 3 x)

first_drawn :
    (n m x : ℕ) → n ≡ suc m → instructions n x ≡ drawn x ++ instructions m (after 3 x)
first_drawn n m x e = ap (λ k. instructions k x) e

-- so many instructions were put, and the draws stand at the next
pub record InstructionsPut (count i x x0 : ℕ) (out out0 : List ℕ) : Type 0 where
  pub text : out ++ instructions (count - i) x ≡ out0 ++ instructions count x0
  pub rest : after (3 * (count - i)) x ≡ after (3 * count) x0

pub none_put : (count x : ℕ) (out : List ℕ) → InstructionsPut count 0 x x out out
none_put count x out =
    let e : count - 0 ≡ count = omega arith in
    record { text = ap (λ k. out ++ instructions k x) e; rest = ap (λ k. after (3 * k) x) e }

pub one_put :
    (count i x x0 y : ℕ) (out out0 more : List ℕ) → InstructionsPut count i x x0 out out0
    → i < count → more ≡ out ++ drawn x → y ≡ after 3 x
    → InstructionsPut count (i + 1) y x0 more out0
one_put count i x x0 y out out0 more h lt e s =
    let n : count - i ≡ suc (count - (i + 1)) = omega arith in
    let m : 3 + 3 * (count - (i + 1)) ≡ 3 * (count - i) = omega arith in
    let k = count - (i + 1) in
    record {
      text =
          ap (λ xs. xs ++ instructions k y) e
          ∙ append_assoc out (drawn x) (instructions k y)
          ∙ ap (λ z. out ++ (drawn x ++ instructions k z)) s
          ∙ ap (λ xs. out ++ xs) (sym (first_drawn (count - i) k x n))
          ∙ h.text;
      rest =
          ap (after (3 * k)) s ∙ after_after 3 (3 * k) x ∙ ap (λ j. after j x) m ∙ h.rest;
    }

-- ---- the whole code

abbrev pub start : List ℕ
start =
    0x05 ∷ 0xC0 ∷ 0xD2 ∷ 0x07 ∷ 0x00 ∷ 0x00 ∷ 0xC1 ∷ 0xFE ∷ 0x41 ∷ 0x30 ∷ 0x00 ∷ 0x07
    ∷ 0xAE ∷ 0x03 ∷ 0x00 ∷ 0x06 ∷ 0x46 ∷ 0x30 ∷ 0xC0 ∷ 0x0A ∷ 0x05 ∷ 0xC0 ∷ []

abbrev pub back : List ℕ
back = 0x47 ∷ 0xF0 ∷ 0xC0 ∷ 0x00 ∷ []

code_is : (x : ℕ) → (start ++ instructions 64 x) ++ back ≡ code x
unfolding code
code_is x = refl

pub code_put :
    (out : List ℕ) (x : ℕ) → ((out ++ start) ++ instructions 64 x) ++ back ≡ out ++ code x
code_put out x =
    ap (λ xs. xs ++ back) (append_assoc out start (instructions 64 x))
    ∙ append_assoc out (start ++ instructions 64 x) back
    ∙ ap (λ xs. out ++ xs) (code_is x)
