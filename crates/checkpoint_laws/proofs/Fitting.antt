-- Each checkpoint word of registers fits its place.
use Rattle.std.proofs.Common.{◌≡◌, ℕ, ◌-◌, ◌^◌, ◌<◌, ◌≤◌, true, false, slice_index, refl, arith, inl, inr}
use Rattle.std.specs.Prelude.{nat_lt, ◌==◌}
use Rattle.std.proofs.lemmas.Bool.{cases_lt}
use Rattle.std.proofs.lemmas.Bool.Decides.{nat_tests}
use Rattle.std.proofs.lemmas.List.Elements.{All-get_or}
use Rattle.esa_model.specs.declared.machine.Registers.{Registers}
use Rattle.run_model.specs.Checkpoint.{word_of, values_below}
use Rattle.runit_ecc.specs.Bounds.{AreRegisters}
use Rattle.checkpoint_laws.specs.Stored.{ClocksFit}

is_lt : (a b : ℕ) → a < b → nat_lt a b ≡ true
is_lt a b h = grind (arith, nat_tests)

is_ge : (a b : ℕ) → b ≤ a → nat_lt a b ≡ false
is_ge a b h = grind (arith, nat_tests)

is_above : (a b : ℕ) → b < a → (a == b) ≡ false
is_above a b h = grind (arith, nat_tests)

narrow : (w : ℕ) → w < 36 → values_below w ≡ 32
unfolding values_below
narrow w h = let e = is_lt w 36 h in rw e refl

wide : (w : ℕ) → 36 ≤ w → values_below w ≡ 64
unfolding values_below
wide w h = let e = is_ge w 36 h in rw e refl

clock : (r : Registers) (w : ℕ) → 36 ≤ w → word_of r w ≡ slice_index r.clocks (w - 36)
unfolding word_of
clock r w h =
    let a = is_ge w 16 (omega (arith, h)) in
    let b = is_ge w 32 (omega (arith, h)) in
    let c : (w == 32) ≡ false = is_above w 32 (omega (arith, h)) in
    let d : (w == 33) ≡ false = is_above w 33 (omega (arith, h)) in
    let e : (w == 34) ≡ false = is_above w 34 (omega (arith, h)) in
    let f : (w == 35) ≡ false = is_above w 35 (omega (arith, h)) in
    rw (a, b, c, d, e, f) refl

pub word_fits : (r : Registers) → AreRegisters r → ClocksFit r → (w : ℕ) → w < 40
    → word_of r w < 2 ^ values_below w
word_fits r are clocks w lt = elim (cases_lt w 36) [
  | inl low ↦ rw (narrow w low) (are.small w low)
  | inr high ↦
      let four = are.clocks in
      let fits : slice_index r.clocks (w - 36) < 2 ^ 64 =
      All-get_or (λ d. d < 2 ^ 64) r.clocks (w - 36) 0 (omega (arith, high, lt, four)) clocks in
      rw (wide w high, clock r w high) fits
]
