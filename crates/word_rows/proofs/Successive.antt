-- The bytes of registers, one register more at a time.
use Rattle.std.proofs.Common.{◌≡◌, ℕ, zero, suc, ◌+◌, ◌%◌, List, [], ◌++◌, refl, sym, ap, ◌∙◌, arith, append_assoc, append-nil}
use Rattle.std.specs.List.{flat_map, range_with_len}
use Rattle.byteorder.specs.Endian.{big_bytes}
use Rattle.esa_model.specs.declared.machine.Registers.{Registers}
use Rattle.esa_model.specs.declared.instructions.Decoded.{Decoded}
use Rattle.esa_model.specs.Line.{general, register_count}
use Rattle.esa_model.specs.Rows.Stores.{registers_stored}

abbrev pub register_bytes : Registers → Decoded → ℕ → List ℕ
register_bytes r d k = big_bytes 4 (general r ((d.r1 + k) % 16))

-- the bytes of the first n registers from R1 on
unfoldable pub stored_first : Registers → Decoded → ℕ → List ℕ
stored_first r d n = flat_map (register_bytes r d) (range_with_len 0 n)

flat_more : (f : ℕ → List ℕ) (a n : ℕ)
    → flat_map f (range_with_len a (n + 1)) ≡ flat_map f (range_with_len a n) ++ f (a + n)
flat_more f a zero = let e : a + 0 ≡ a = omega arith in rw e (append-nil (f a))
flat_more f a (suc n) =
    let e : a + suc n ≡ (a + 1) + n = omega arith in
    let j : suc n + 1 ≡ suc (n + 1) = omega arith in
    let rest = append_assoc (f a) (flat_map f (range_with_len (a + 1) n)) (f ((a + 1) + n)) in
    rw (e, j) (ap (λ (xs : List ℕ). f a ++ xs) (flat_more f (a + 1) n) ∙ sym rest)

pub stored_none : (r : Registers) (d : Decoded) → stored_first r d 0 ≡ []
unfolding stored_first
stored_none r d = refl

pub stored_all : (r : Registers) (d : Decoded) (n : ℕ) → n ≡ register_count d
    → stored_first r d n ≡ registers_stored r d
unfolding stored_first registers_stored
stored_all r d n e = ap (λ (k : ℕ). flat_map (register_bytes r d) (range_with_len 0 k)) e

pub stored_more : (r : Registers) (d : Decoded) (n : ℕ)
    → stored_first r d (n + 1) ≡ stored_first r d n ++ big_bytes 4 (general r ((d.r1 + n) % 16))
unfolding stored_first
stored_more r d n =
    let e : 0 + n ≡ n = omega arith in
    let before = flat_map (register_bytes r d) (range_with_len 0 n) in
    flat_more (register_bytes r d) 0 n ∙ ap (λ (k : ℕ). before ++ register_bytes r d k) e
