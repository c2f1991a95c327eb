-- The bits that an attempt flips are at most as many as the lines that strike the word then.
use Rattle.std.proofs.Common.{◌≡◌, ℕ, ◌+◌, ◌-◌, ◌/◌, ◌%◌, ◌^◌, ◌<◌, ◌≤◌, ◌≢◌, Bool, true, false, cond, eqb, List, [], ◌∷◌, arith, pow_pos, refl, subst}
use Rattle.std.specs.Prelude.{◌&&◌}
use Rattle.std.specs.Int.Bits.{xor_lt}
use Rattle.std.proofs.lemmas.Nat.{pow_below}
use Rattle.std.proofs.lemmas.Bool.Decides.{nat_tests}
use Rattle.run_model.specs.Code.{ones}
use Rattle.run_laws.proofs.Ones.{ones-xor-le, ones-zero, ones-pow-le}
use Rattle.run_model.specs.declared.faults.Strike.{Strike}
use Rattle.run_model.specs.declared.faults.Strike.TheVariants.{Packet, Fetch, Store, Word}
use Rattle.run_model.specs.Checkpoint.{width}
use Rattle.run_model.specs.Script.{InRange, AllInRange, core_no}
use Rattle.run_model.specs.Strikes.{in_word, flips, hits_so_far, struck}

-- a choice of a small number: at most one bit
ones_choice : (n : ℕ) (t : Bool) (bit : ℕ) → ones n (cond t (2 ^ bit) 0) ≤ cond t 1 0
ones_choice n true bit = ones-pow-le n bit
ones_choice n false bit = let z = ones-zero n in omega arith

small_choice : (t : Bool) (bit n : ℕ) → (t ≡ true → bit < n) → cond t (2 ^ bit) 0 < 2 ^ n
small_choice true bit n h = pow_below bit n (h refl)
small_choice false bit n h = pow_pos n

same_word : (core c at n word w : ℕ) → (eqb core c && (eqb at n && eqb word w)) ≡ true → word ≡ w
same_word core c at n word w e = grind (arith, nat_tests)

counts_first : (core at word c n w : ℕ)
    → cond (eqb core c && (eqb at n && eqb word w)) 1 0
    ≤ hits_so_far (Word (core_no core) at word 0) c n w
counts_first core at word c n w = grind (arith, nat_tests)

counts_step : (core at word c n w : ℕ) → 0 < n → n % 16 ≢ 0
    → cond (eqb core c && (eqb at n && eqb word w)) 1 0 + hits_so_far
    (Word (core_no core) at word 0) c (n - 1) w
    ≤ hits_so_far (Word (core_no core) at word 0) c n w
counts_step core at word c n w h ne = let q : (n - 1) / 16 ≡ n / 16 = omega arith in
    grind (arith, nat_tests, q)

line_first : (s : Strike) (c n w : ℕ) → ones (width w) (in_word s c n w) ≤ hits_so_far s c n w
line_first (Packet core from unit bit count) c n w = let z = ones-zero (width w) in omega arith
line_first (Fetch core at bit) c n w = let z = ones-zero (width w) in omega arith
line_first (Store core at bit) c n w = let z = ones-zero (width w) in omega arith
line_first (Word core at word bit) c n w =
    let o = ones_choice (width w) (eqb core.0 c && (eqb at n && eqb word w)) bit in
    let k = counts_first core.0 at word c n w in omega arith

line_step : (s : Strike) (c n w : ℕ) → 0 < n → n % 16 ≢ 0
    → ones (width w) (in_word s c n w) + hits_so_far s c (n - 1) w ≤ hits_so_far s c n w
line_step (Packet core from unit bit count) c n w h ne = let z = ones-zero (width w) in
    omega arith
line_step (Fetch core at bit) c n w h ne = let z = ones-zero (width w) in omega arith
line_step (Store core at bit) c n w h ne = let z = ones-zero (width w) in omega arith
line_step (Word core at word bit) c n w h ne =
    let o = ones_choice (width w) (eqb core.0 c && (eqb at n && eqb word w)) bit in
    let k = counts_step core.0 at word c n w h ne in omega arith

pub struck_first : (ls : List Strike) (c n w : ℕ)
    → ones (width w) (flips ls c n w) ≤ struck ls c n w
unfolding flips struck
struck_first [] c n w = let z = ones-zero (width w) in omega arith
struck_first (s ∷ ss) c n w =
    let r = struck_first ss c n w in
    let l = line_first s c n w in
    let x = ones-xor-le (width w) (in_word s c n w) (flips ss c n w) in
    omega arith

pub struck_step : (ls : List Strike) (c n w : ℕ) → 0 < n → n % 16 ≢ 0
    → ones (width w) (flips ls c n w) + struck ls c (n - 1) w ≤ struck ls c n w
unfolding flips struck
struck_step [] c n w h ne = let z = ones-zero (width w) in omega arith
struck_step (s ∷ ss) c n w h ne =
    let r = struck_step ss c n w h ne in
    let l = line_step s c n w h ne in
    let x = ones-xor-le (width w) (in_word s c n w) (flips ss c n w) in
    omega arith

line_small : (s : Strike) (c n w : ℕ) → InRange s → in_word s c n w < 2 ^ width w
line_small (Packet core from unit bit count) c n w h = pow_pos (width w)
line_small (Fetch core at bit) c n w h = pow_pos (width w)
line_small (Store core at bit) c n w h = pow_pos (width w)
line_small (Word core at word bit) c n w h =
    small_choice (eqb core.0 c && (eqb at n && eqb word w)) bit (width w)
    (λ e. subst (λ k. bit < width k) (same_word core.0 c at n word w e) h.3)

pub flips_small : (ls : List Strike) (c n w : ℕ) → AllInRange ls → flips ls c n w < 2 ^ width w
unfolding flips
flips_small [] c n w form = pow_pos (width w)
flips_small (s ∷ ss) c n w form =
    xor_lt (width w) (in_word s c n w) (flips ss c n w) (line_small s c n w form.0)
    (flips_small ss c n w form.1)
