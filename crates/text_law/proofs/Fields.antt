-- The operands of a form give the fields from which they were printed.
use Rattle.std.proofs.Common.{◌≡◌, ℕ, ◌+◌, ◌-◌, ◌*◌, ◌/◌, ◌%◌, ◌<◌, ◌≤◌, Bool, true, false, cond, eqb, leb, ltb, ◌&&◌, List, [], ◌∷◌, Some, None, refl, arith}
use Rattle.std.proofs.lemmas.Bool.Decides.{nat_tests}
use Rattle.esa_model.specs.declared.instructions.Form.{Form}
use Rattle.esa_model.specs.declared.instructions.Form.TheVariants.{Rr, Rx, Rs, Si, S, Ri, Rsi, Rre, Ss1, Ss2}
use Rattle.esa_model.specs.declared.instructions.Decoded.{Decoded}
use Rattle.esa_table.specs.Encoding.{IsInRange, HasOnly}
use Rattle.asm_text.specs.declared.operands.Operand.{Operand as Printed}
use Rattle.asm_text.specs.declared.operands.Operand.TheVariants.{Number, Minus, Based, Indexed}
use Rattle.asm_text.specs.declared.operands.Operands.{Operands}
use Rattle.asm_text.specs.declared.operands.Operands.TheVariants.{One, Two, Three}
use Rattle.asm_text.specs.Operands.{signed, sized, registers, is_shift, operands_of}
use Rattle.asm_model.specs.declared.operands.Slot.{Slot}
use Rattle.asm_model.specs.declared.operands.Slot.TheVariants.{Reg1, Reg2, Both, Address1, Address2, Index2, Long, Sized1, Sized2, Byte, Half, SignedHalf, Target}
use Rattle.asm_model.specs.declared.operands.Given.{Given}
use Rattle.asm_model.specs.Words.{within}
use Rattle.asm_model.specs.Slots.{slots, code_of, half_of, minus_half, byte_of, filled, given, nothing_given}
use Rattle.text_law.specs.Between.{ignored_by}
use Rattle.text_law.proofs.Readings.{IsSmall}
use Rattle.text_law.proofs.Operands.{AreSmall, readings}

-- ---- fields

abbrev pub given_with : ℕ → ℕ → ℕ → ℕ → ℕ → ℕ → ℕ → ℕ → ℕ → Given
given_with row r1 r2 b1 d1 b2 d2 imm len = record {
  row = row;
  r1 = r1;
  r2 = r2;
  b1 = b1;
  d1 = d1;
  b2 = b2;
  d2 = d2;
  imm = imm;
  len = len;
  to = None;
}

-- the fields of an instruction without a name
abbrev pub given_of : Decoded → Given
given_of d = given_with d.row d.r1 d.r2 d.b1 d.d1 d.b2 d.d2 d.imm d.len

same :
    (r1 r2 b1 d1 b2 d2 imm len : ℕ) (d : Decoded) → r1 ≡ d.r1 → r2 ≡ d.r2 → b1 ≡ d.b1 → d1 ≡ d.d1
    → b2 ≡ d.b2 → d2 ≡ d.d2 → imm ≡ d.imm → len ≡ d.len
    → Some (given_with d.row r1 r2 b1 d1 b2 d2 imm len) ≡ Some (given_of d)
same r1 r2 b1 d1 b2 d2 imm len d e1 e2 e3 e4 e5 e6 e7 e8 = rw (e1, e2, e3, e4, e5, e6, e7, e8) refl

-- ---- numbers as fields

code_is : (n : ℕ) → code_of (n + 1) ≡ n
code_is n = grind (arith, nat_tests)

byte_is : (n : ℕ) → n < 256 → byte_of n ≡ n
byte_is n h = grind (arith, nat_tests)

left_is : (a b : ℕ) → b < 16 → (a * 16 + b) / 16 ≡ a
left_is a b h = omega arith

right_is : (a b : ℕ) → b < 16 → (a * 16 + b) % 16 ≡ b
right_is a b h = omega arith

half_is : (n : ℕ) → ltb n 32768 ≡ true → half_of n ≡ n
half_is n h = rw h refl

minus_is : (n : ℕ) → ltb n 32768 ≡ false → n < 65536 → minus_half (65536 - n) ≡ n
minus_is n h l =
    let low : 32768 ≤ n = grind (arith, nat_tests) in
    let e : leb (65536 - n) 32768 ≡ true = grind (arith, nat_tests) in
    rw e (omega arith)

-- ---- forms

abbrev Back : Decoded → List Slot → Operands → Type 0
Back d ss os = given ss (readings os) (nothing_given d.row) ≡ Some (given_of d)

one_back :
    (d : Decoded) → d.r2 ≡ 0 → d.b1 ≡ 0 → d.d1 ≡ 0 → d.b2 ≡ 0 → d.d2 ≡ 0 → d.imm ≡ 0 → d.len ≡ 0
    → Back d (Reg1 ∷ []) (One (Number d.r1))
unfolding filled
one_back d h1 h2 h3 h4 h5 h6 h7 =
    same d.r1 0 0 0 0 0 0 0 d refl (omega arith) (omega arith) (omega arith) (omega arith)
    (omega arith) (omega arith) (omega arith)

both_back :
    (d : Decoded) → d.r2 < 16 → d.b1 ≡ 0 → d.d1 ≡ 0 → d.b2 ≡ 0 → d.d2 ≡ 0 → d.imm ≡ 0 → d.len ≡ 0
    → Back d (Both ∷ []) (One (Number (d.r1 * 16 + d.r2)))
unfolding filled
both_back d l h2 h3 h4 h5 h6 h7 =
    same ((d.r1 * 16 + d.r2) / 16) ((d.r1 * 16 + d.r2) % 16) 0 0 0 0 0 0 d (left_is d.r1 d.r2 l)
    (right_is d.r1 d.r2 l) (omega arith) (omega arith) (omega arith) (omega arith) (omega arith)
    (omega arith)

registers_back :
    (d : Decoded) → d.b1 ≡ 0 → d.d1 ≡ 0 → d.b2 ≡ 0 → d.d2 ≡ 0 → d.imm ≡ 0 → d.len ≡ 0
    → Back d (Reg1 ∷ Reg2 ∷ []) (registers d)
unfolding filled
registers_back d h2 h3 h4 h5 h6 h7 =
    same d.r1 d.r2 0 0 0 0 0 0 d refl refl (omega arith) (omega arith) (omega arith)
    (omega arith) (omega arith) (omega arith)

rr_back :
    (a b : Bool) (d : Decoded) → cond a d.r2 0 ≡ 0 → IsInRange d → HasOnly Rr d
    → Back d (cond a (Reg1 ∷ []) (cond b (Both ∷ []) (Reg1 ∷ Reg2 ∷ [])))
    (cond a (One (Number d.r1)) (cond b (One (Number (d.r1 * 16 + d.r2))) (registers d)))
rr_back true b d i r h = one_back d i h.0 h.1 h.2 h.3 h.4 h.5
rr_back false true d i r h = both_back d r.r2 h.0 h.1 h.2 h.3 h.4 h.5
rr_back false false d i r h = registers_back d h.0 h.1 h.2 h.3 h.4 h.5

rre_back :
    (a : Bool) (d : Decoded) → cond a d.r2 0 ≡ 0 → HasOnly Rre d
    → Back d (cond a (Reg1 ∷ []) (Reg1 ∷ Reg2 ∷ [])) (cond a (One (Number d.r1)) (registers d))
rre_back true d i h = one_back d i h.0 h.1 h.2 h.3 h.4 h.5
rre_back false d i h = registers_back d h.0 h.1 h.2 h.3 h.4 h.5

rx_back :
    (d : Decoded) → HasOnly Rx d
    → Back d (Reg1 ∷ Index2 ∷ []) (Two (Number d.r1) (Indexed d.d2 d.r2 d.b2))
unfolding filled
rx_back d h =
    same d.r1 d.r2 0 0 d.b2 d.d2 0 0 d refl refl (omega arith) (omega arith) refl refl
    (omega arith) (omega arith)

rs_back :
    (a : Bool) (d : Decoded) → cond a d.r2 0 ≡ 0 → HasOnly Rs d
    → Back d (cond a (Reg1 ∷ Address2 ∷ []) (Reg1 ∷ Reg2 ∷ Address2 ∷ []))
    (cond a (Two (Number d.r1) (Based d.d2 d.b2))
    (Three (Number d.r1) (Number d.r2) (Based d.d2 d.b2)))
unfolding filled
rs_back true d i h =
    same d.r1 0 0 0 d.b2 d.d2 0 0 d refl (omega arith) (omega arith) (omega arith) refl refl
    (omega arith) (omega arith)
rs_back false d i h =
    same d.r1 d.r2 0 0 d.b2 d.d2 0 0 d refl refl (omega arith) (omega arith) refl refl
    (omega arith) (omega arith)

si_back :
    (d : Decoded) → HasOnly Si d
    → Back d (Address1 ∷ Byte ∷ []) (Two (Based d.d1 d.b1) (Number d.imm))
unfolding filled
si_back d h =
    same 0 0 d.b1 d.d1 0 0 (byte_of d.imm) 0 d (omega arith) (omega arith) refl refl (omega arith)
    (omega arith) (byte_is d.imm h.4) (omega arith)

s_back : (d : Decoded) → HasOnly S d → Back d (Address2 ∷ []) (One (Based d.d2 d.b2))
unfolding filled
s_back d h =
    same 0 0 0 0 d.b2 d.d2 0 0 d (omega arith) (omega arith) (omega arith) (omega arith) refl refl
    (omega arith) (omega arith)

-- a halfword with sign, in either slot
abbrev signed_by : Bool → ℕ → Printed
signed_by s n = cond s (Number n) (Minus (65536 - n))

half_back :
    (d : Decoded) (imm : ℕ) → imm ≡ d.imm → HasOnly Ri d
    → Some (given_with d.row d.r1 0 0 0 0 0 imm 0) ≡ Some (given_of d)
half_back d imm e h =
    same d.r1 0 0 0 0 0 imm 0 d refl (omega arith) (omega arith) (omega arith) (omega arith)
    (omega arith) e (omega arith)

signed_back :
    (s t : Bool) (d : Decoded) → ltb d.imm 32768 ≡ s → IsInRange d → HasOnly Ri d
    → Back d (cond t (Reg1 ∷ Target ∷ []) (Reg1 ∷ SignedHalf ∷ []))
    (Two (Number d.r1) (signed_by s d.imm))
unfolding filled
signed_back true true d e r h = half_back d (half_of d.imm) (half_is d.imm e) h
signed_back true false d e r h = half_back d (half_of d.imm) (half_is d.imm e) h
signed_back false true d e r h =
    half_back d (minus_half (65536 - d.imm)) (minus_is d.imm e r.imm) h
signed_back false false d e r h =
    half_back d (minus_half (65536 - d.imm)) (minus_is d.imm e r.imm) h

ri_back :
    (t m : Bool) (d : Decoded) → (t && m) ≡ false → IsInRange d → HasOnly Ri d
    → Back d (cond t (Reg1 ∷ Target ∷ []) (cond m (Reg1 ∷ Half ∷ []) (Reg1 ∷ SignedHalf ∷ [])))
    (Two (Number d.r1) (cond m (Number d.imm) (signed d.imm)))
unfolding filled
ri_back true true d e r h = absurd (cc)
ri_back true false d e r h = signed_back (ltb d.imm 32768) true d refl r h
ri_back false true d e r h = half_back d d.imm refl h
ri_back false false d e r h = signed_back (ltb d.imm 32768) false d refl r h

rsi_back :
    (s : Bool) (d : Decoded) → ltb d.imm 32768 ≡ s → IsInRange d → HasOnly Rsi d
    → Back d (Reg1 ∷ Reg2 ∷ Target ∷ []) (Three (Number d.r1) (Number d.r2) (signed_by s d.imm))
unfolding filled
rsi_back true d e r h =
    same d.r1 d.r2 0 0 0 0 (half_of d.imm) 0 d refl refl (omega arith) (omega arith) (omega arith)
    (omega arith) (half_is d.imm e) (omega arith)
rsi_back false d e r h =
    same d.r1 d.r2 0 0 0 0 (minus_half (65536 - d.imm)) 0 d refl refl (omega arith) (omega arith)
    (omega arith) (omega arith) (minus_is d.imm e r.imm) (omega arith)

ss1_back :
    (d : Decoded) → HasOnly Ss1 d
    → Back d (Long ∷ Address2 ∷ []) (Two (sized d.d1 d.len d.b1) (Based d.d2 d.b2))
unfolding filled
ss1_back d h =
    same 0 0 d.b1 d.d1 d.b2 d.d2 0 (code_of (d.len + 1)) d (omega arith) (omega arith) refl refl
    refl refl (omega arith) (code_is d.len)

ss2_back :
    (a : Bool) (d : Decoded) → HasOnly Ss2 d
    → Back d (cond a (Sized1 ∷ Address2 ∷ Reg2 ∷ []) (Sized1 ∷ Sized2 ∷ []))
    (cond a (Three (sized d.d1 d.r1 d.b1) (Based d.d2 d.b2) (Number d.r2))
    (Two (sized d.d1 d.r1 d.b1) (sized d.d2 d.r2 d.b2)))
unfolding filled
ss2_back true d h =
    same (code_of (d.r1 + 1)) d.r2 d.b1 d.d1 d.b2 d.d2 0 0 d (code_is d.r1) refl refl refl refl
    refl (omega arith) (omega arith)
ss2_back false d h =
    same (code_of (d.r1 + 1)) (code_of (d.r2 + 1)) d.b1 d.d1 d.b2 d.d2 0 0 d (code_is d.r1)
    (code_is d.r2) refl refl refl refl (omega arith) (omega arith)

apart : (o : ℕ) → (within 0xA74 0xA76 o && leb o 0xA71) ≡ false
apart o = grind (arith, nat_tests)

pub fields_back :
    (f : Form) (o : ℕ) (d : Decoded) → ignored_by f o d ≡ 0 → IsInRange d → HasOnly f d
    → given (slots f o) (readings (operands_of f o d)) (nothing_given d.row) ≡ Some (given_of d)
unfolding slots operands_of
fields_back Rr o d i r h = rr_back (eqb o 0x04) (eqb o 0x0A) d i r h
fields_back Rx o d i r h = rx_back d h
fields_back Rs o d i r h = rs_back (is_shift o) d i h
fields_back Si o d i r h = si_back d h
fields_back S o d i r h = s_back d h
fields_back Ri o d i r h = ri_back (within 0xA74 0xA76 o) (leb o 0xA71) d (apart o) r h
fields_back Rsi o d i r h = rsi_back (ltb d.imm 32768) d refl r h
fields_back Rre o d i r h = rre_back (eqb o 0xB222) d i h
fields_back Ss1 o d i r h = ss1_back d h
fields_back Ss2 o d i r h = ss2_back (eqb o 0xF0) d h

-- ---- the numbers are small

small_case : (b : Bool) (x y : Operands) → AreSmall x → AreSmall y → AreSmall (cond b x y)
small_case true x y h k = h
small_case false x y h k = k

signed_small : (s : Bool) (n : ℕ) → n < 65536 → ltb n 32768 ≡ s → IsSmall (signed_by s n)
signed_small true n h e = h
signed_small false n h e =
    let low : 32768 ≤ n = grind (arith, nat_tests) in
    omega arith

half_small : (m : Bool) (n : ℕ) → n < 65536 → IsSmall (cond m (Number n) (signed n))
half_small true n h = h
half_small false n h = signed_small (ltb n 32768) n h refl

register_small : (n : ℕ) → n < 16 → n < 65536
register_small n h = omega arith

address_small : (n : ℕ) → n < 4096 → n < 65536
address_small n h = omega arith

length_small : (n : ℕ) → n < 256 → n + 1 < 65536
length_small n h = omega arith

pub operands_small : (f : Form) (o : ℕ) (d : Decoded) → IsInRange d → AreSmall (operands_of f o d)
unfolding operands_of
operands_small Rr o d r =
    let a = register_small d.r1 r.r1 in
    let b = register_small d.r2 r.r2 in
    let both : d.r1 * 16 + d.r2 < 65536 = let x = r.r1 in let y = r.r2 in omega arith in
    let more : Operands = cond (eqb o 0x0A) (One (Number (d.r1 * 16 + d.r2))) (registers d) in
    small_case (eqb o 0x04) (One (Number d.r1)) more a
    (small_case (eqb o 0x0A) (One (Number (d.r1 * 16 + d.r2))) (registers d) both (a, b))
operands_small Rx o d r = (
  register_small d.r1 r.r1,
  (address_small d.d2 r.d2, register_small d.r2 r.r2, register_small d.b2 r.b2),
)
operands_small Rs o d r =
    let a = register_small d.r1 r.r1 in
    let c : IsSmall (Based d.d2 d.b2) = (address_small d.d2 r.d2, register_small d.b2 r.b2) in
    small_case (is_shift o) (Two (Number d.r1) (Based d.d2 d.b2))
    (Three (Number d.r1) (Number d.r2) (Based d.d2 d.b2)) (a, c)
    (a, register_small d.r2 r.r2, c)
operands_small Si o d r = ((address_small d.d1 r.d1, register_small d.b1 r.b1), r.imm)
operands_small S o d r = (address_small d.d2 r.d2, register_small d.b2 r.b2)
operands_small Ri o d r = (register_small d.r1 r.r1, half_small (leb o 0xA71) d.imm r.imm)
operands_small Rsi o d r = (
  register_small d.r1 r.r1,
  register_small d.r2 r.r2,
  signed_small (ltb d.imm 32768) d.imm r.imm refl,
)
operands_small Rre o d r =
    let a = register_small d.r1 r.r1 in
    small_case (eqb o 0xB222) (One (Number d.r1)) (registers d) a (a, register_small d.r2 r.r2)
operands_small Ss1 o d r = (
  (address_small d.d1 r.d1, length_small d.len r.len, register_small d.b1 r.b1),
  (address_small d.d2 r.d2, register_small d.b2 r.b2),
)
operands_small Ss2 o d r =
    let code1 : d.r1 + 1 < 65536 = let x = r.r1 in omega arith in
    let code2 : d.r2 + 1 < 65536 = let x = r.r2 in omega arith in
    let one : IsSmall (sized d.d1 d.r1 d.b1) =
    (address_small d.d1 r.d1, code1, register_small d.b1 r.b1) in
    let two = address_small d.d2 r.d2 in
    let base = register_small d.b2 r.b2 in
    small_case (eqb o 0xF0) (Three (sized d.d1 d.r1 d.b1) (Based d.d2 d.b2) (Number d.r2))
    (Two (sized d.d1 d.r1 d.b1) (sized d.d2 d.r2 d.b2)) (one, (two, base), register_small d.r2 r.r2)
    (one, (two, code2, base))
