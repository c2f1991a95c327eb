-- What the latch of an instruction that was fetched tells of its fetch.
use Rattle.std.proofs.Common.{◌≡◌, ℕ, zero, suc, ◌+◌, ◌-◌, ◌<◌, List, ◌++◌, true, false, refl, sym, ap, ◌∙◌, arith}
use Rattle.std.specs.Prelude.{◌==◌, if◌then◌else◌, replicate, slice_index}
use Rattle.esa_model.specs.declared.machine.Registers.{Registers}
use Rattle.esa_model.specs.Word.{first_code}
use Rattle.esa_model.specs.Psw.{address}
use Rattle.esa_model.specs.Access.{Memory, whole, byte, bytes, codes}
use Rattle.esa_model.specs.Table.{length_of}
use Rattle.esa_model.specs.Line.{Side}
use Rattle.esa_model.specs.Unit.{start_code, fetch_len, fetch_code, fetched, fetched_blocks, unit}
use Rattle.operand_access.specs.Seen.{memory}
use Rattle.twin_units.specs.Units.{unit_of_bytes}

first_zero : (a x : ℕ) → (if a == 0 then x else a) ≡ 0 → a ≡ 0
first_zero zero x h = refl
first_zero (suc k) x h = absurd (grind (arith, h))

then_zero : (a x : ℕ) → (if a == 0 then x else a) ≡ 0 → x ≡ 0
then_zero zero x h = h
then_zero (suc k) x h = absurd (grind (arith, h))

starts : (r : Registers) (m : Memory) (at : ℕ) → fetch_code r m at ≡ 0 → start_code r m at ≡ 0
unfolding fetch_code
starts r m at h = first_zero (start_code r m at) (first_code (codes r m (whole at (fetch_len r m at) true false))) h

-- no byte of the instruction is refused
passes : (r : Registers) (m : Memory) (at : ℕ) → fetch_code r m at ≡ 0 → first_code (codes r m (whole at (fetch_len r m at) true false)) ≡ 0
unfolding fetch_code
passes r m at h = then_zero (start_code r m at) (first_code (codes r m (whole at (fetch_len r m at) true false))) h

by_first : (r : Registers) (m : Memory) (at : ℕ) → start_code r m at ≡ 0 → fetch_len r m at ≡ length_of (byte r m.storage at)
unfolding fetch_len
by_first r m at h = rw h refl

some_bytes : (first : ℕ) → 0 < length_of first
some_bytes first = grind arith

first_byte : (r : Registers) (s : List ℕ) (at n : ℕ) (zeros : List ℕ) → 0 < n → slice_index (bytes r s at n ++ zeros) 0 ≡ byte r s at
unfolding bytes
first_byte r s at zero zeros h = absurd (omega (arith, h))
first_byte r s at (suc k) zeros h = let e : at + 0 ≡ at = omega arith in ap (byte r s) e

begins : (r : Registers) (m : Memory) (at : ℕ) → 0 < fetch_len r m at → slice_index (fetched r m at) 0 ≡ byte r m.storage at
unfolding fetched
begins r m at h = first_byte r m.storage at (fetch_len r m at) (replicate (6 - fetch_len r m at) 0) h

-- its length is that of its first byte
pub fetched_len : (r : Registers) (m : Memory) (at : ℕ) → fetch_code r m at ≡ 0 → fetch_len r m at ≡ length_of (slice_index (fetched r m at) 0)
fetched_len r m at h =
    let len = by_first r m at (starts r m at h) in
    let some : 0 < fetch_len r m at = rw len (some_bytes (byte r m.storage at)) in
    len ∙ ap length_of (sym (begins r m at some))

unit_there : (r : Registers) (i : ℕ) (storage : List ℕ) (side : Side)
    → fetch_code r (memory storage side.keys) (address r.psw) ≡ 0
    → unit_of_bytes r i storage side (fetched r (memory storage side.keys) (address r.psw)) ≡ unit r i storage side
unfolding unit unit_of_bytes fetched_blocks
unit_there r i storage side h =
    let m : Memory = memory storage side.keys in
    let len = fetched_len r m (address r.psw) h in
    let code = passes r m (address r.psw) h in
    rw (sym len, code, h) refl

-- the unit of the bytes that are fetched is the unit
pub unit_known : (r : Registers) (i : ℕ) (storage : List ℕ) (side : Side) (bs : List ℕ)
    → fetch_code r (memory storage side.keys) (address r.psw) ≡ 0
    → bs ≡ fetched r (memory storage side.keys) (address r.psw)
    → unit_of_bytes r i storage side bs ≡ unit r i storage side
unit_known r i storage side bs h e = ap (unit_of_bytes r i storage side) e ∙ unit_there r i storage side h
