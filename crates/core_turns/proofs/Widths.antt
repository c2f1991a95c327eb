-- Registers whose numbers have their widths.
use Rattle.std.proofs.Common.{◌≡◌, ℕ, ◌-◌, ◌<◌, ◌^◌, Bool, true, false, eqb, ltb, length, refl, arith, if◌then◌else◌}
use Rattle.std.specs.Prelude.{slice_index}
use Rattle.std.proofs.lemmas.List.Elements.{All-from_get_or}
use Rattle.std.proofs.lemmas.Bool.Decides.{nat_tests}
use Rattle.esa_model.specs.declared.machine.Registers.{Registers}
use Rattle.run_model.specs.Checkpoint.{word_of}
use Rattle.runit_ecc.specs.Bounds.{AreRegisters}
use Rattle.core_turns.specs.Held.{AreStorable}

choice : (t : Bool) (a b n : ℕ) → (t ≡ true → a < n) → (t ≡ false → b < n)
    → (if t then a else b) < n
choice true a b n f g = f refl
choice false a b n f g = g refl

last : (w x n : ℕ) → w < 36 → ltb w 32 ≡ false → eqb w 32 ≡ false → eqb w 33 ≡ false
    → eqb w 34 ≡ false → 0 < n → (if eqb w 35 then 0 else x) < n
last w x n below a b c d some =
    let e : eqb w 35 ≡ true = grind (arith, nat_tests) in rw e some

words_fit : (r : Registers) → length r.general ≡ 16 → length r.control ≡ 16
    → length r.clocks ≡ 4 → ((k : ℕ) → slice_index r.general k < 2 ^ 32)
    → ((k : ℕ) → slice_index r.control k < 2 ^ 32) → r.psw.w0 < 2 ^ 32 → r.psw.w1 < 2 ^ 32
    → r.prefix < 2 ^ 32 → AreRegisters r
unfolding word_of
words_fit r g c k general control w0 w1 prefix = record {
  generals = g;
  controls = c;
  clocks = k;
  small = λ w below.
      choice (ltb w 16) _ _ (2 ^ 32) (λ e. general w) (λ e16.
      choice (ltb w 32) _ _ (2 ^ 32) (λ e. control (w - 16)) (λ e32.
      choice (eqb w 32) _ _ (2 ^ 32) (λ e. w0) (λ e0.
      choice (eqb w 33) _ _ (2 ^ 32) (λ e. w1) (λ e1.
      choice (eqb w 34) _ _ (2 ^ 32) (λ e. prefix) (λ e2.
      last w (slice_index r.clocks (w - 36)) (2 ^ 32) below e32 e0 e1 e2 (omega arith))))));
}

pub registers_fit : (r : Registers) → length r.general ≡ 16 → length r.control ≡ 16
    → length r.clocks ≡ 4 → ((k : ℕ) → slice_index r.general k < 2 ^ 32)
    → ((k : ℕ) → slice_index r.control k < 2 ^ 32) → r.psw.w0 < 2 ^ 32 → r.psw.w1 < 2 ^ 32
    → r.prefix < 2 ^ 32 → ((k : ℕ) → slice_index r.clocks k < 2 ^ 64) → AreStorable r
registers_fit r g c k general control w0 w1 prefix clocks = record {
  registers = words_fit r g c k general control w0 w1 prefix;
  clocks = All-from_get_or (λ d. d < 2 ^ 64) r.clocks 0 (λ i lt. clocks i);
}
