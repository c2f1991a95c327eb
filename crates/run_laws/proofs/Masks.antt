-- Bits of masks, and what they say of bytes.
use Rattle.std.proofs.Common.{◌≡◌, ℕ, zero, suc, ◌+◌, ◌-◌, ◌*◌, ◌/◌, ◌%◌, ◌^◌, ◌<◌, ◌≤◌, ◌≢◌, Bool, true, false, cond, eqb, List, [], ◌∷◌, count_by, refl, sym, ap, ◌∙◌, subst, arith, pow_pos, inl, inr}
use Rattle.std.specs.Prelude.{◌&&◌}
use Rattle.std.specs.Int.{bit_at}
use Rattle.std.specs.Int.Bits.{xor_lt}
use Rattle.std.proofs.lemmas.Nat.{pow_below}
use Rattle.std.proofs.lemmas.Nat.Bits.{bit_at_xor, bit_at-zero, bit_at-pow_same, bit_at-pow_other, same_from_bits_below}
use Rattle.std.proofs.lemmas.List.Sums.{sum_by-cons}
use Rattle.std.proofs.lemmas.Bool.{cases_eq}
use Rattle.std.proofs.lemmas.Bool.Decides.{nat_tests}
use Rattle.run_model.specs.declared.faults.Unit.{Unit}
use Rattle.run_model.specs.declared.faults.Unit.TheVariants.{A, B}
use Rattle.run_model.specs.declared.faults.Strike.{Strike}
use Rattle.run_model.specs.declared.faults.Strike.TheVariants.{Packet, Fetch, Store, Word}
use Rattle.run_model.specs.Premise.{covers, same_unit, hits_packet, hits_word, mask, is_odd, strikes_word, Within}
use Rattle.run_model.specs.Strikes.{mask_byte, in_byte, weight, same_masks, same_below, struck, hits_so_far, WithinAt, flips, in_word}

-- ---- one line
this_bit : (bit k j : ℕ) → j < 8
    → bit_at (cond (eqb (bit / 8) k) (weight bit) 0) (7 - j)
    ≡ cond {A = ℕ} (eqb bit (8 * k + j)) 1 0
this_bit bit k j h = elim (cases_eq bit (8 * k + j)) [
  | inl q ↦
      let a : eqb (bit / 8) k ≡ true =
      (let d : bit / 8 ≡ k = omega arith in grind (arith, nat_tests, d)) in
      let b : eqb bit (8 * k + j) ≡ true = grind (arith, nat_tests, q) in
      let p : 7 - j ≡ 7 - bit % 8 = omega arith in
      rw (a, b, p) (bit_at-pow_same (7 - bit % 8))
  | inr ne ↦
      let b : eqb bit (8 * k + j) ≡ false = grind (arith, nat_tests, ne) in
      elim (cases_eq (bit / 8) k) [
        | inl q ↦
            let a : eqb (bit / 8) k ≡ true = grind (arith, nat_tests, q) in
            let p : 7 - j ≢ 7 - bit % 8 = omega (arith, ne) in
            rw (a, b) (bit_at-pow_other (7 - bit % 8) (7 - j) p)
        | inr o ↦
            let a : eqb (bit / 8) k ≡ false = grind (arith, nat_tests, o) in
            rw (a, b) (bit_at-zero (7 - j))
      ]
]

by_tests : (a b d e f : Bool) (v i : ℕ) → bit_at (cond e v 0) i ≡ cond {A = ℕ} f 1 0
    → bit_at (cond (a && (b && (d && e))) v 0) i ≡ cond {A = ℕ} (((a && b) && f) && d) 1 0
by_tests true true true e true v i h = h
by_tests true true true e false v i h = h
by_tests true true false e true v i h = bit_at-zero i
by_tests true true false e false v i h = bit_at-zero i
by_tests true false d e f v i h = bit_at-zero i
by_tests false b d e f v i h = bit_at-zero i

line_bit : (s : Strike) (c : ℕ) (u : Unit) (n k j : ℕ) → j < 8
    → bit_at (in_byte s c u n k) (7 - j) ≡ cond {A = ℕ} (hits_packet c u n (8 * k + j) s) 1 0
line_bit (Packet core from unit bit count) c u n k j h =
    by_tests (eqb core.0 c) (same_unit unit u) (covers from count n) (eqb (bit / 8) k)
    (eqb bit (8 * k + j)) (weight bit) (7 - j) (this_bit bit k j h)
line_bit (Fetch core at bit) c u n k j h = bit_at-zero (7 - j)
line_bit (Store core at bit) c u n k j h = bit_at-zero (7 - j)
line_bit (Word core at word bit) c u n k j h = bit_at-zero (7 - j)

-- ---- all lines: a bit of the mask is the parity of the lines that hit it
pub lines_bit : (ls : List Strike) (c : ℕ) (u : Unit) (n k j : ℕ) → j < 8
    → bit_at (mask_byte ls c u n k) (7 - j) ≡ count_by (hits_packet c u n (8 * k + j)) ls % 2
unfolding mask_byte
lines_bit [] c u n k j h = bit_at-zero (7 - j)
lines_bit (s ∷ ss) c u n k j h =
    let r = lines_bit ss c u n k j h in
    let l = line_bit s c u n k j h in
    let x = bit_at_xor (in_byte s c u n k) (mask_byte ss c u n k) (7 - j) in
    let k2 = sum_by-cons (λ x. cond {A = ℕ} (hits_packet c u n (8 * k + j) x) 1 0) s ss in
    omega (arith, r, l, x, k2)

cond_small : (t : Bool) (p : ℕ) → p < 8 → cond t (2 ^ p) 0 < 2 ^ 8
cond_small true p h = pow_below p 8 h
cond_small false p h = pow_pos 8

line_small : (s : Strike) (c : ℕ) (u : Unit) (n k : ℕ) → in_byte s c u n k < 2 ^ 8
line_small (Packet core from unit bit count) c u n k = cond_small _ (7 - bit % 8) (omega arith)
line_small (Fetch core at bit) c u n k = pow_pos 8
line_small (Store core at bit) c u n k = pow_pos 8
line_small (Word core at word bit) c u n k = pow_pos 8

pub mask_small : (ls : List Strike) (c : ℕ) (u : Unit) (n k : ℕ) → mask_byte ls c u n k < 2 ^ 8
unfolding mask_byte
mask_small [] c u n k = pow_pos 8
mask_small (s ∷ ss) c u n k =
    xor_lt 8 (in_byte s c u n k) (mask_byte ss c u n k) (line_small s c u n k)
    (mask_small ss c u n k)

and_left : (a b : Bool) → (a && b) ≡ true → a ≡ true
and_left true b e = refl
and_left false b e = e

and_right : (a b : Bool) → (a && b) ≡ true → b ≡ true
and_right true b e = e
and_right false b e = absurd cc

-- masks are the same where all their bytes are
pub all_from_same : (n : ℕ) (f g : ℕ → ℕ) → same_below n f g ≡ true → (j : ℕ) → j < n → f j ≡ g j
all_from_same zero f g e j h = absurd (omega arith)
all_from_same (suc n) f g e j h = elim (cases_eq j n) [
  | inl q ↦ let here : eqb (f n) (g n) ≡ true = and_left (eqb (f n) (g n)) (same_below n f g) e in
      subst (λ i. f i ≡ g i) (sym q) (grind (arith, nat_tests))
  | inr ne ↦
      all_from_same n f g (and_right (eqb (f n) (g n)) (same_below n f g) e) j (omega arith)
]

pub same_from_all : (n : ℕ) (f g : ℕ → ℕ) → ((j : ℕ) → j < n → f j ≡ g j)
    → same_below n f g ≡ true
same_from_all zero f g h = refl
same_from_all (suc n) f g h = let e : eqb (f n) (g n) ≡ true =
    (let q = h n (omega arith) in grind (arith, nat_tests)) in
    rw e (same_from_all n f g (λ j l. h j (omega arith)))

pub bytes_alike : (ls : List Strike) (c n : ℕ) → same_masks ls c n ≡ true → (k : ℕ) → k < 512
    → mask_byte ls c A n k ≡ mask_byte ls c B n k
unfolding same_masks
bytes_alike ls c n e = all_from_same 512 (mask_byte ls c A n) (mask_byte ls c B n) e

pub masks_alike : (ls : List Strike) (c n : ℕ)
    → ((k : ℕ) → k < 512 → mask_byte ls c A n k ≡ mask_byte ls c B n k) → same_masks ls c n ≡ true
unfolding same_masks
masks_alike ls c n h = same_from_all 512 (mask_byte ls c A n) (mask_byte ls c B n) h

odd_same : (x y : ℕ) → x % 2 ≡ y % 2 → is_odd x ≡ is_odd y
odd_same x y e = ap (λ z. eqb z 1) e

not_odd : (x : ℕ) → is_odd x ≡ false → x % 2 ≡ 0
not_odd x e = grind (arith, nat_tests)

same_bit : (ls : List Strike) (c n b : ℕ)
    → mask_byte ls c A n (b / 8) ≡ mask_byte ls c B n (b / 8) → mask ls c A n b ≡ mask ls c B n b
same_bit ls c n b e =
    let j : b % 8 < 8 = omega arith in
    let at : 8 * (b / 8) + b % 8 ≡ b = omega arith in
    let x = lines_bit ls c A n (b / 8) (b % 8) j in
    let y = lines_bit ls c B n (b / 8) (b % 8) j in
    let both = sym x ∙ ap (λ m. bit_at m (7 - b % 8)) e ∙ y in
    subst (λ i. mask ls c A n i ≡ mask ls c B n i) at (odd_same _ _ both)

empty : (ls : List Strike) (c n k : ℕ) → k < 512 → ((b : ℕ) → b < 4096 → mask ls c A n b ≡ false)
    → mask_byte ls c A n k ≡ 0
empty ls c n k h none =
    same_from_bits_below 8 (mask_byte ls c A n k) 0 (mask_small ls c A n k) (pow_pos 8) (λ i l.
    let j : 7 - i < 8 = omega arith in
    let back : 7 - (7 - i) ≡ i = omega arith in
    let x = lines_bit ls c A n k (7 - i) j in
    let z = not_odd _ (none (8 * k + (7 - i)) (omega arith)) in
    subst (λ p. bit_at (mask_byte ls c A n k) p ≡ bit_at 0 i) back (x ∙ z ∙ sym (bit_at-zero i)))

-- ---- flipped positions of a word
word_tests : (a b d e : Bool) (v i : ℕ) → bit_at v i ≡ cond {A = ℕ} e 1 0
    → bit_at (cond (a && (b && d)) v 0) i ≡ cond {A = ℕ} ((a && b) && (d && e)) 1 0
word_tests true true true e v i h = h
word_tests true true false e v i h = bit_at-zero i
word_tests true false d e v i h = bit_at-zero i
word_tests false b d e v i h = bit_at-zero i

power_bit : (p i : ℕ) → bit_at (2 ^ p) i ≡ cond {A = ℕ} (eqb p i) 1 0
power_bit p i = elim (cases_eq p i) [
  | inl e ↦ let t : eqb p i ≡ true = grind (arith, nat_tests, e) in
      rw t (subst (λ k. bit_at (2 ^ p) k ≡ 1) e (bit_at-pow_same p))
  | inr ne ↦ let t : eqb p i ≡ false = grind (arith, nat_tests, ne) in
      let q : i ≢ p = omega (arith, ne) in rw t (bit_at-pow_other p i q)
]

word_bit : (s : Strike) (c n w b : ℕ)
    → bit_at (in_word s c n w) b ≡ cond {A = ℕ} (hits_word c n w b s) 1 0
word_bit (Packet core from unit bit count) c n w b = bit_at-zero b
word_bit (Fetch core at bit) c n w b = bit_at-zero b
word_bit (Store core at bit) c n w b = bit_at-zero b
word_bit (Word core at word bit) c n w b =
    word_tests (eqb core.0 c) (eqb at n) (eqb word w) (eqb bit b) (2 ^ bit) b (power_bit bit b)

pub flips_bit : (ls : List Strike) (c n w b : ℕ)
    → bit_at (flips ls c n w) b ≡ count_by (hits_word c n w b) ls % 2
unfolding flips
flips_bit [] c n w b = bit_at-zero b
flips_bit (s ∷ ss) c n w b =
    let r = flips_bit ss c n w b in
    let l = word_bit s c n w b in
    let x = bit_at_xor (in_word s c n w) (flips ss c n w) b in
    let k = sum_by-cons (λ x. cond {A = ℕ} (hits_word c n w b x) 1 0) s ss in
    omega (arith, r, l, x, k)

-- ---- words
counts_le : (s : Strike) (c n w : ℕ)
    → hits_so_far s c n w ≤ cond {A = ℕ} (strikes_word c w (n / 16) s) 1 0
counts_le (Packet core from unit bit count) c n w = omega arith
counts_le (Fetch core at bit) c n w = omega arith
counts_le (Store core at bit) c n w = omega arith
counts_le (Word core at word bit) c n w = grind (arith, nat_tests)

struck_le : (ls : List Strike) (c n w : ℕ)
    → struck ls c n w ≤ count_by (strikes_word c w (n / 16)) ls
unfolding struck
struck_le [] c n w = omega arith
struck_le (s ∷ ss) c n w =
    let r = struck_le ss c n w in
    let l = counts_le s c n w in
    let k = sum_by-cons (λ x. cond {A = ℕ} (strikes_word c w (n / 16) x) 1 0) s ss in
    omega (arith, r, l, k)

pub within_at : (ls : List Strike) → Within ls → (c n : ℕ) → c < 16 → WithinAt ls c n
unfolding same_masks
within_at ls h c n lc = record {
  masks = λ e k l.
      empty ls c n k l
      (h.masks c n lc
      (λ b lb.
      same_bit ls c n b
      (all_from_same 512 (mask_byte ls c A n) (mask_byte ls c B n) e (b / 8)
      (omega arith))));
  words = λ w lw. let s = struck_le ls c n w in let t = h.words c w (n / 16) lc lw in
      omega (arith, s, t);
}
