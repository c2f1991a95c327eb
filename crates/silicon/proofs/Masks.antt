-- A mask of one line, and one mask after another.
use Rattle.std.proofs.Common.{◌≡◌, ℕ, zero, suc, ◌+◌, ◌/◌, ◌<◌, ◌≤◌, ◌≢◌, Bool, true, false, cond, eqb, List, [], ◌∷◌, length, get_or, set, drop, refl, sym, ap, ◌∙◌, subst, arith, bit_xor, Option}
use Rattle.std.specs.Prelude.{◌&&◌}
use Rattle.std.specs.Int.Bits.{xor_assoc, xor_zero_r}
use Rattle.std.proofs.lemmas.Bool.Decides.{nat_tests}
use Rattle.run_model.specs.declared.faults.Strike.{Strike}
use Rattle.run_model.specs.declared.faults.Strike.TheVariants.{Packet}
use Rattle.run_model.specs.declared.faults.Unit.{Unit}
use Rattle.silicon.specs.Chip.{masked}
use Rattle.result_packet.specs.Bits.{flipped}
use Rattle.run_model.specs.Premise.{covers, same_unit}
use Rattle.run_model.specs.Script.{AllInRange}
use Rattle.run_model.specs.Strikes.{mask_byte, in_byte, weight}
use Rattle.run_model.specs.declared.faults.CoreNo.{CoreNo}
use Rattle.silicon.proofs.Masked.{masked_none, masked_by_same}
use Rattle.silicon.specs.Landing.{bit_mask}

-- a mask of one byte alone
masked_one : (f : ℕ → ℕ) (k p : ℕ) (bs : List ℕ) → ((j : ℕ) → j ≢ p → j < length bs → f (k + j) ≡ 0) → masked f k bs ≡ set bs p (bit_xor (get_or bs p 0) (f (k + p)))
unfolding masked
masked_one f k p [] z = refl
masked_one f k zero (b ∷ bs) z =
    let e : k + 0 ≡ k = omega arith in
    let rest : masked f (k + 1) bs ≡ bs = masked_none f (k + 1) bs (λ j l. let q : k + suc j ≡ k + 1 + j = omega arith in subst (λ i. f i ≡ 0) q (z (suc j) (omega arith) (omega arith))) in
    rw (e, rest) refl
masked_one f k (suc p) (b ∷ bs) z =
    let e : k + suc p ≡ k + 1 + p = omega arith in
    let first : f k ≡ 0 = (let q : k + 0 ≡ k = omega arith in subst (λ i. f i ≡ 0) q (z 0 (omega arith) (omega arith))) in
    let byte : bit_xor b (f k) ≡ b = ap (bit_xor b) first ∙ xor_zero_r b in
    let rest = masked_one f (k + 1) p bs (λ j ne l. let q : k + suc j ≡ k + 1 + j = omega arith in subst (λ i. f i ≡ 0) q (z (suc j) (omega arith) (omega arith))) in
    rw (e, byte, rest) refl

other_bit : (bit j : ℕ) → j ≢ bit / 8 → bit_mask bit j ≡ 0
other_bit bit j ne = grind (arith, nat_tests)

this_bit : (bit : ℕ) → bit_mask bit (bit / 8) ≡ weight bit
this_bit bit = grind (arith, nat_tests)

pub one_bit : (bit : ℕ) (bs : List ℕ) → flipped bit bs ≡ masked (bit_mask bit) 0 bs
unfolding flipped
one_bit bit bs =
    let z : 0 + bit / 8 ≡ bit / 8 = omega arith in
    let w : bit_mask bit (0 + bit / 8) ≡ weight bit = ap (bit_mask bit) z ∙ this_bit bit in
    sym (masked_one (bit_mask bit) 0 (bit / 8) bs (λ j ne l. other_bit bit (0 + j) (omega arith)) ∙ ap (λ x. set bs (bit / 8) (bit_xor (get_or bs (bit / 8) 0) x)) w)

three_hold : (a b c d : Bool) (x : ℕ) → (a && (b && c)) ≡ true → cond (a && (b && (c && d))) x 0 ≡ cond d x 0
three_hold true true true d x e = refl
three_hold true true false d x e = absurd cc
three_hold true false c d x e = absurd cc
three_hold false b c d x e = absurd cc

three_fail : (a b c d : Bool) (x : ℕ) → (a && (b && c)) ≡ false → cond (a && (b && (c && d))) x 0 ≡ 0
three_fail true true true d x e = absurd cc
three_fail true true false d x e = refl
three_fail true false c d x e = refl
three_fail false b c d x e = refl

pub strike_hits : (core : CoreNo) (from bit c n : ℕ) (unit u : Unit) (count : Option ℕ) (bs : List ℕ) → (eqb core.0 c && (same_unit unit u && covers from count n)) ≡ true
    → masked (bit_mask bit) 0 bs ≡ masked (in_byte (Packet core from unit bit count) c u n) 0 bs
strike_hits core from bit c n unit u count bs e = masked_by_same _ _ 0 bs (λ j l. sym (three_hold (eqb core.0 c) (same_unit unit u) (covers from count n) (eqb (bit / 8) (0 + j)) (weight bit) e))

pub strike_misses : (core : CoreNo) (from bit c n : ℕ) (unit u : Unit) (count : Option ℕ) (bs : List ℕ) → (eqb core.0 c && (same_unit unit u && covers from count n)) ≡ false
    → bs ≡ masked (in_byte (Packet core from unit bit count) c u n) 0 bs
strike_misses core from bit c n unit u count bs e = sym (masked_none _ 0 bs (λ j l. three_fail (eqb core.0 c) (same_unit unit u) (covers from count n) (eqb (bit / 8) (0 + j)) (weight bit) e))

pub no_mask : (f : ℕ → ℕ) (bs : List ℕ) → ((k : ℕ) → f k ≡ 0) → bs ≡ masked f 0 bs
no_mask f bs h = sym (masked_none f 0 bs (λ j l. h (0 + j)))

-- one mask after another
pub masked_twice : (f g : ℕ → ℕ) (k : ℕ) (bs : List ℕ) → masked g k (masked f k bs) ≡ masked (λ j. bit_xor (f j) (g j)) k bs
unfolding masked
masked_twice f g k [] = refl
masked_twice f g k (b ∷ bs) = let r = masked_twice f g (k + 1) bs in rw (xor_assoc b (f k) (g k), r) refl

mask_is : (s : Strike) (ss : List Strike) (c : ℕ) (u : Unit) (n k : ℕ) → bit_xor (in_byte s c u n k) (mask_byte ss c u n k) ≡ mask_byte (s ∷ ss) c u n k
unfolding mask_byte
mask_is s ss c u n k = refl

pub line_more : (s : Strike) (ss : List Strike) (c : ℕ) (u : Unit) (n : ℕ) (bs : List ℕ) → masked (mask_byte ss c u n) 0 (masked (in_byte s c u n) 0 bs) ≡ masked (mask_byte (s ∷ ss) c u n) 0 bs
line_more s ss c u n bs = masked_twice (in_byte s c u n) (mask_byte ss c u n) 0 bs ∙ masked_by_same _ _ 0 bs (λ j l. mask_is s ss c u n (0 + j))

pub mask_end : (c : ℕ) (u : Unit) (n : ℕ) (bs : List ℕ) → masked (mask_byte [] c u n) 0 bs ≡ bs
unfolding mask_byte
mask_end c u n bs = masked_none _ 0 bs (λ j l. refl)

pub lines_step : (ls : List Strike) (i : ℕ) (d : Strike) (c : ℕ) (u : Unit) (n : ℕ) (bs : List ℕ) → i < length ls
    → masked (mask_byte (drop (suc i) ls) c u n) 0 (masked (in_byte (get_or ls i d) c u n) 0 bs) ≡ masked (mask_byte (drop i ls) c u n) 0 bs
lines_step [] i d c u n bs h = absurd (omega arith)
lines_step (s ∷ ss) zero d c u n bs h = line_more s ss c u n bs
lines_step (s ∷ ss) (suc i) d c u n bs h = lines_step ss i d c u n bs (omega arith)

-- the element at i, in its range, and those after it
pub ranges_step : (ls : List Strike) (i : ℕ) → AllInRange (drop i ls) → AllInRange (drop (suc i) ls)
ranges_step [] i f = tt
ranges_step (s ∷ ss) zero f = f.1
ranges_step (s ∷ ss) (suc i) f = ranges_step ss i f

pub lines_end : (ls : List Strike) (i : ℕ) (c : ℕ) (u : Unit) (n : ℕ) (bs : List ℕ) → length ls ≤ i → masked (mask_byte (drop i ls) c u n) 0 bs ≡ bs
lines_end [] zero c u n bs h = mask_end c u n bs
lines_end [] (suc i) c u n bs h = mask_end c u n bs
lines_end (s ∷ ss) zero c u n bs h = absurd (omega arith)
lines_end (s ∷ ss) (suc i) c u n bs h = lines_end ss i c u n bs (omega arith)
