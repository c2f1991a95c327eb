-- No row stores more bytes than its operand has.
use Rattle.std.proofs.Common.{◌≡◌, ◌≤◌, ℕ, zero, suc, ◌+◌, ◌*◌, ◌%◌, List, length, Bool, true, false, refl, arith}
use Rattle.std.specs.Prelude.{if◌then◌else◌, ◌==◌, nat_lt, slice_index}
use Rattle.std.specs.List.{range_with_len, flat_map}
use Rattle.byteorder.specs.Endian.{big_bytes, big_number}
use Rattle.esa_model.specs.declared.machine.Registers.{Registers}
use Rattle.esa_model.specs.declared.instructions.Decoded.{Decoded}
use Rattle.esa_model.specs.Line.{register_count}
use Rattle.esa_model.specs.ControlRows.{Control, prefix_bits, set_system_mask, store_then_and, store_then_or, load_psw, store_control, load_control, set_prefix, store_prefix, store_number, insert_key, reset_reference, set_key_from, is_on_boundary, row_done, controlled, stored_len}

-- so many words have four times as many bytes
words_len : (f : ℕ → ℕ) (a k : ℕ)
    → length (flat_map (λ n. big_bytes 4 (f n)) (range_with_len a k)) ≡ 4 * k
words_len f a zero = refl
words_len f a (suc k) = let rest = words_len f (a + 1) k in omega arith

-- ---- a choice of two rows, by what each stores

either : (b : Bool) (x y : Control) (m n : ℕ) → length x.stored ≤ m → length y.stored ≤ n
    → length (if b then x else y).stored ≤ (if b then m else n)
either true x y m n h k = h
either false x y m n h k = k

neither : (b : Bool) (x y : Control) (n : ℕ) → length x.stored ≡ 0 → length y.stored ≤ n
    → length (if b then x else y).stored ≤ n
neither true x y n h k = omega arith
neither false x y n h k = k

or_nothing : (b : Bool) (x y : Control) (n : ℕ) → length x.stored ≤ n → length y.stored ≡ 0
    → length (if b then x else y).stored ≤ n
or_nothing true x y n h k = h
or_nothing false x y n h k = omega arith

both : (b : Bool) (x y : Control) → length x.stored ≡ 0 → length y.stored ≡ 0
    → length (if b then x else y).stored ≡ 0
both true x y h k = h
both false x y h k = k

-- ---- the rows

of_prefix : (r : Registers) (size : ℕ) (operand : List ℕ)
    → length (set_prefix r size operand).stored ≡ 0
unfolding set_prefix
of_prefix r size operand =
    both (nat_lt size (prefix_bits (big_number 4 operand) + 4096)) _ _ refl refl

all_words : (r : Registers) (d : Decoded)
    → length (store_control r d).stored ≤ 4 * register_count d
unfolding store_control
all_words r d =
    let word : ℕ → ℕ = λ k. slice_index r.control ((d.r1 + k) % 16) in
    omega (arith, words_len word 0 (register_count d))

of_row : (op cpu size key : ℕ) (r : Registers) (d : Decoded) (operand : List ℕ)
    → length (row_done op cpu size key r d operand).stored ≤ stored_len op d
unfolding stored_len set_system_mask store_then_and store_then_or load_psw load_control store_prefix
    store_number insert_key reset_reference set_key_from
of_row op cpu size key r d operand =
    neither (op == 0x80) _ _ _ refl (
    neither (op == 0x82) _ _ _ refl (
    either (op == 0xAC) _ _ _ _ (omega arith) (
    either (op == 0xAD) _ _ _ _ (omega arith) (
    either (op == 0xB6) _ _ _ _ (all_words r d) (
    neither (op == 0xB7) _ _ _ refl (
    neither (op == 0xB210) _ _ _ (of_prefix r size operand) (
    either (op == 0xB211) _ _ _ _ (omega arith) (
    either (op == 0xB212) _ _ _ _ (omega arith) (
    neither (op == 0xB229) _ _ _ refl (
    neither (op == 0xB22A) _ _ _ refl (
    neither (op == 0xB22B) _ _ _ refl (omega arith))))))))))))

pub stored_fits : (op cpu size key : ℕ) (r : Registers) (d : Decoded) (operand : List ℕ)
    → length (controlled op cpu size key r d operand).stored ≤ stored_len op d
unfolding controlled
stored_fits op cpu size key r d operand =
    or_nothing (is_on_boundary op r d) _ _ _ (of_row op cpu size key r d operand) refl
