-- How long the drawn instructions and the text of the section are.
use Rattle.std.proofs.Common.{◌≡◌, ℕ, zero, suc, ◌+◌, ◌-◌, ◌*◌, ◌%◌, ◌≤◌, Bool, true, false, cond, List, [], ◌∷◌, ◌++◌, length, replicate, refl, arith, length-append, ◌==◌, ap, ◌∙◌}
use Rattle.std.proofs.Math.ListN.{length-replicate}
use Rattle.byteorder.specs.Endian.{big_bytes}
use Rattle.program_model.specs.Draws.{draw, after}
use Rattle.program_model.specs.GeneratedDeck.{two_registers, register_and_zero, word, field, instruction, instructions, code, operands, text, up_to}

one_of :
    (b : Bool) (xs ys : List ℕ) → length xs ≤ 6 → length ys ≤ 6 → length (cond b xs ys) ≤ 6
one_of true xs ys h k = h
one_of false xs ys h k = k

fields : (d e : ℕ) → length (field d ++ field e) ≤ 4
fields d e = omega (arith, length-append (field d) (field e))

length-instruction : (sort d e : ℕ) → length (instruction sort d e) ≤ 6
unfolding instruction
length-instruction sort d e =
    let two : (n : ℕ) → length (n ∷ two_registers d e ∷ []) ≤ 6 = λ n. omega arith in
    let four : (n : ℕ) → length (n ∷ register_and_zero d ∷ word e) ≤ 6 = λ n. omega arith in
    let six : (m n : ℕ) → length ((m ∷ n ∷ field d) ++ field e) ≤ 6 = λ m n. omega arith in
    one_of (sort == 0) _ _ (two 0x1A) (one_of (sort == 1) _ _ (two 0x17)
    (one_of (sort == 2) _ _ (four 0x5A) (one_of (sort == 3) _ _ (four 0x50)
    (one_of (sort == 4) _ _ (four 0x58) (one_of (sort == 5) _ _ (omega arith)
    (one_of (sort == 6) _ _ (six 0xFA 0x77) (six 0xD2 0x07)))))))

pub length-instructions : (n x : ℕ) → length (instructions n x) ≤ 6 * n
length-instructions zero x = omega arith
length-instructions (suc n) x =
    let here = length-instruction (draw 1 x % 8) (draw 2 x) (draw 3 x) in
    let more = length-instructions n (after 3 x) in
    omega (arith, length-append {A = ℕ})

-- the code, with these instructions in its loop
abbrev code_with : List ℕ → List ℕ
code_with drawn =
    big_bytes 2 0x05C0 ++ big_bytes 6 0xD2070000C1FE ++ big_bytes 4 0x41300007
    ++ big_bytes 4 0xAE030006 ++ big_bytes 4 0x4630C00A
    ++ big_bytes 2 0x05C0 ++ drawn ++ big_bytes 4 0x47F0C000

length-code_with : (drawn : List ℕ) → length (code_with drawn) ≡ 26 + length drawn
length-code_with drawn = omega (arith, length-append drawn (big_bytes 4 0x47F0C000))

pub length-code : (x : ℕ) → length (code x) ≤ 0x200
unfolding code
length-code x =
    let drawn = instructions 64 x in
    let a = length-code_with drawn in
    let b = length-instructions 64 x in
    omega (arith, a, b)

-- bytes with zeros up to an offset, and more behind them
length-up_to :
    (n : ℕ) (bytes more : List ℕ) → length bytes ≤ n
    → length (up_to n bytes ++ more) ≡ n + length more
length-up_to n bytes more h =
    omega (arith, length-append (up_to n bytes) more, length-append bytes (replicate (n - length bytes) 0), length-replicate {A = ℕ} (n - length bytes) 0)

length-operands : length operands ≡ 0x68
unfolding operands
length-operands = refl

pub length-text : (x : ℕ) → length (text x) ≡ 0x268
unfolding text
length-text x =
    let a = length-code x in
    let b = length-operands in
    let c = length-up_to 0x200 (code x) operands a in
    omega (arith, b, c)

-- the text as it is put: the code, filled up, and the operands
pub text_put :
    (x : ℕ) (put filled whole : List ℕ) → put ≡ code x → filled ≡ up_to 0x200 put
    → whole ≡ filled ++ operands → whole ≡ text x
unfolding text
text_put x put filled whole p f w =
    w ∙ ap (λ xs. xs ++ operands) (f ∙ ap (up_to 0x200) p)
