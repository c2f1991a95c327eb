-- Decoding undoes encoding.
use Rattle.std.proofs.Common.{◌≡◌, ℕ, ◌+◌, ◌*◌, ◌/◌, ◌%◌, List, [], ◌∷◌, refl, arith, ap, ◌∙◌}
use Rattle.std.specs.Prelude.{◌==◌, if◌then◌else◌, IsTrue, Some, nat_lt, Bool, true, false, length, slice_index}
use Rattle.std.proofs.lemmas.Bool.Decides.{nat_tests}
use Rattle.esa_model.specs.declared.instructions.Form.{Form}
use Rattle.esa_model.specs.declared.instructions.Form.TheVariants.{Rr, Rx, Rs, Si, S, Ri, Rsi, Rre, Ss1, Ss2}
use Rattle.esa_model.specs.declared.instructions.Decoded.{Decoded}
use Rattle.esa_model.specs.Table.{row_numbered, number_of, decoded, fields, fields_at, fields_of, opcode_of, length_of}
use Rattle.esa_table.specs.Encoding.{is_short, fits, IsInRange, IsInstruction, HasOnly, encoded, filled, based, two_bytes}
use Rattle.esa_table.proofs.Known.{is_known_row}

-- ---- the opcode

abbrev number_by : ℕ → ℕ → ℕ
number_by a b = if a == 0xB2 then a * 256 + b else if a == 0xA7 then a * 16 + b % 16 else a

short_opcode : (low high o b : ℕ) → IsTrue (is_short low high o) → number_by o b ≡ o
short_opcode low high o b h = grind (arith, nat_tests)

long_opcode : (o : ℕ) → IsTrue (o / 256 == 0xB2) → number_by (o / 256) (o % 256) ≡ o
long_opcode o h = grind (arith, nat_tests)

half_opcode : (o r : ℕ) → IsTrue (o / 16 == 0xA7) → number_by (o / 16) (r * 16 + o % 16) ≡ o
half_opcode o r h = grind (arith, nat_tests)

-- ---- the fields

same_fields : (row r1 r2 b1 d1 b2 d2 imm len : ℕ) (d : Decoded)
    → row ≡ d.row → r1 ≡ d.r1 → r2 ≡ d.r2 → b1 ≡ d.b1 → d1 ≡ d.d1 → b2 ≡ d.b2 → d2 ≡ d.d2 → imm ≡ d.imm → len ≡ d.len
    → fields row r1 r2 b1 d1 b2 d2 imm len ≡ d
same_fields row r1 r2 b1 d1 b2 d2 imm len d e1 e2 e3 e4 e5 e6 e7 e8 e9 = rw (e1, e2, e3, e4, e5, e6, e7, e8, e9) refl

record ReadsBack (f : Form) (o : ℕ) (d : Decoded) (bytes : List ℕ) : Type 0 where
  opcode : opcode_of bytes ≡ o
  fields : fields_of f d.row bytes ≡ d

s_short : (o : ℕ) → nat_lt o 256 ≡ true → IsTrue (fits S o) → number_by o 0 ≡ o
s_short o e t = grind (arith, nat_tests)

s_long : (o : ℕ) → nat_lt o 256 ≡ false → IsTrue (fits S o) → number_by (o / 256) (o % 256) ≡ o
s_long o e t = grind (arith, nat_tests)

s_reads_back : (o : ℕ) (d : Decoded) (b : Bool) → nat_lt o 256 ≡ b
    → IsTrue (fits S o) → IsInRange d → HasOnly S d
    → ReadsBack S o d (filled
    (if b then o ∷ 0 ∷ based d.b2 d.d2 [] else two_bytes o (based d.b2 d.d2 [])))
s_reads_back o d true e t r h = record {
  opcode = s_short o e t;
  fields = same_fields _ _ _ _ _ _ _ _ _ d refl (omega arith) (omega arith) (omega arith)
      (omega arith) (omega arith) (omega arith) (omega arith) (omega arith);
}
s_reads_back o d false e t r h = record {
  opcode = s_long o e t;
  fields = same_fields _ _ _ _ _ _ _ _ _ d refl (omega arith) (omega arith) (omega arith)
      (omega arith) (omega arith) (omega arith) (omega arith) (omega arith);
}

read_back : (f : Form) (o : ℕ) (d : Decoded) → IsTrue (fits f o) → IsInRange d → HasOnly f d → ReadsBack f o d (filled (encoded f o d))
read_back Rr o d t r h = record {
  opcode = short_opcode 0 64 o _ t;
  fields = same_fields _ _ _ _ _ _ _ _ _ d refl (omega arith) (omega arith) (omega arith)
      (omega arith) (omega arith) (omega arith) (omega arith) (omega arith);
}
read_back Rx o d t r h = record {
  opcode = short_opcode 64 192 o _ t;
  fields = same_fields _ _ _ _ _ _ _ _ _ d refl (omega arith) (omega arith) (omega arith)
      (omega arith) (omega arith) (omega arith) (omega arith) (omega arith);
}
read_back Rs o d t r h = record {
  opcode = short_opcode 64 192 o _ t;
  fields = same_fields _ _ _ _ _ _ _ _ _ d refl (omega arith) (omega arith) (omega arith)
      (omega arith) (omega arith) (omega arith) (omega arith) (omega arith);
}
read_back Si o d t r h = record {
  opcode = short_opcode 64 192 o _ t;
  fields = same_fields _ _ _ _ _ _ _ _ _ d refl (omega arith) (omega arith) (omega arith)
      (omega arith) (omega arith) (omega arith) (omega arith) (omega arith);
}
read_back S o d t r h = s_reads_back o d (nat_lt o 256) refl t r h
read_back Ri o d t r h = record {
  opcode = half_opcode o d.r1 t;
  fields = same_fields _ _ _ _ _ _ _ _ _ d refl (omega arith) (omega arith) (omega arith)
      (omega arith) (omega arith) (omega arith) (omega arith) (omega arith);
}
read_back Rsi o d t r h = record {
  opcode = short_opcode 64 192 o _ t;
  fields = same_fields _ _ _ _ _ _ _ _ _ d refl (omega arith) (omega arith) (omega arith)
      (omega arith) (omega arith) (omega arith) (omega arith) (omega arith);
}
read_back Rre o d t r h = record {
  opcode = long_opcode o t;
  fields = same_fields _ _ _ _ _ _ _ _ _ d refl (omega arith) (omega arith) (omega arith)
      (omega arith) (omega arith) (omega arith) (omega arith) (omega arith);
}
read_back Ss1 o d t r h = record {
  opcode = short_opcode 192 256 o _ t;
  fields = same_fields _ _ _ _ _ _ _ _ _ d refl (omega arith) (omega arith) (omega arith)
      (omega arith) (omega arith) (omega arith) (omega arith) (omega arith);
}
read_back Ss2 o d t r h = record {
  opcode = short_opcode 192 256 o _ t;
  fields = same_fields _ _ _ _ _ _ _ _ _ d refl (omega arith) (omega arith) (omega arith)
      (omega arith) (omega arith) (omega arith) (omega arith) (omega arith);
}

found : (bytes : List ℕ) (d : Decoded) (o : ℕ) → opcode_of bytes ≡ o → number_of o ≡ Some d.row
    → fields_of (row_numbered d.row).form d.row bytes ≡ d → decoded bytes ≡ Some d
unfolding decoded
found bytes d o e k f = ap (fields_at bytes) (ap number_of e ∙ k) ∙ ap Some f

pub round : (d : Decoded) → IsInstruction d
    → decoded (filled (encoded (row_numbered d.row).form (row_numbered d.row).opcode d)) ≡ Some d
round d h =
    let row = row_numbered d.row in
    let k = is_known_row d.row h.row in
    let back = read_back row.form row.opcode d k.fit h.range h.form in
    found (filled (encoded row.form row.opcode d)) d row.opcode back.opcode k.number back.fields

-- ---- the length

s_length : (o : ℕ) (d : Decoded) (b : Bool) → nat_lt o 256 ≡ b → IsTrue (fits S o)
    → let bytes = if b then o ∷ 0 ∷ based d.b2 d.d2 [] else two_bytes o (based d.b2 d.d2 []) in length bytes ≡ length_of (slice_index bytes 0)
s_length o d true e t = grind (arith, nat_tests)
s_length o d false e t = grind (arith, nat_tests)

pub length_encoded : (f : Form) (o : ℕ) (d : Decoded) → IsTrue (fits f o)
    → length (encoded f o d) ≡ length_of (slice_index (encoded f o d) 0)
length_encoded Rr o d t = grind (arith, nat_tests)
length_encoded Rx o d t = grind (arith, nat_tests)
length_encoded Rs o d t = grind (arith, nat_tests)
length_encoded Si o d t = grind (arith, nat_tests)
length_encoded S o d t = s_length o d (nat_lt o 256) refl t
length_encoded Ri o d t = grind (arith, nat_tests)
length_encoded Rsi o d t = grind (arith, nat_tests)
length_encoded Rre o d t = grind (arith, nat_tests)
length_encoded Ss1 o d t = grind (arith, nat_tests)
length_encoded Ss2 o d t = grind (arith, nat_tests)
