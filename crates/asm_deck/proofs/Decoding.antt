-- Instructions are read back, whatever follows them.
use Rattle.std.proofs.Common.{◌≡◌, ℕ, zero, suc, ◌+◌, ◌-◌, ◌/◌, ◌%◌, ◌≤◌, Bool, true, false, cond, ltb, List, [], ◌∷◌, ◌++◌, length, Option, Some, None, refl, sym, ◌∙◌, ap, subst, arith, is_some}
use Rattle.std.proofs.lemmas.Bool.Decides.{nat_tests}
use Rattle.deck_model.specs.Image.{bytes_from}
use Rattle.esa_model.specs.Table.{row_numbered, number_of, decoded, fields_at, fields_of, opcode_of}
use Rattle.esa_model.specs.declared.instructions.Form.{Form}
use Rattle.esa_model.specs.declared.instructions.Form.TheVariants.{Rr, Rx, Rs, Si, S, Ri, Rsi, Rre, Ss1, Ss2}
use Rattle.esa_model.specs.declared.instructions.Decoded.{Decoded}
use Rattle.esa_table.specs.Encoding.{IsInstruction, encoded, filled, s_opcode, based}
use Rattle.esa_table.proofs.Round.{round}
use Rattle.asm_deck.specs.AssembledImage.{BeginsWith}

-- ---- the same opcode and fields

abbrev s_bytes : Bool → ℕ → Decoded → List ℕ
s_bytes b o d = cond b (o ∷ 0 ∷ based d.b2 d.d2 []) (o / 256 ∷ o % 256 ∷ based d.b2 d.d2 [])

s_same_opcode : (b : Bool) (o : ℕ) (d : Decoded) (more : List ℕ) → opcode_of (s_bytes b o d ++ more) ≡ opcode_of (filled (s_bytes b o d))
s_same_opcode true o d more = refl
s_same_opcode false o d more = refl

same_opcode : (f : Form) (o : ℕ) (d : Decoded) (more : List ℕ) → opcode_of (encoded f o d ++ more) ≡ opcode_of (filled (encoded f o d))
same_opcode Rr o d more = refl
same_opcode Rx o d more = refl
same_opcode Rs o d more = refl
same_opcode Si o d more = refl
same_opcode S o d more = s_same_opcode (ltb o 256) o d more
same_opcode Ri o d more = refl
same_opcode Rsi o d more = refl
same_opcode Rre o d more = refl
same_opcode Ss1 o d more = refl
same_opcode Ss2 o d more = refl

s_same_fields : (b : Bool) (o : ℕ) (d : Decoded) (n : ℕ) (more : List ℕ) → fields_of S n (s_bytes b o d ++ more) ≡ fields_of S n (filled (s_bytes b o d))
s_same_fields true o d n more = refl
s_same_fields false o d n more = refl

same_fields : (f : Form) (o : ℕ) (d : Decoded) (n : ℕ) (more : List ℕ) → fields_of f n (encoded f o d ++ more) ≡ fields_of f n (filled (encoded f o d))
same_fields Rr o d n more = refl
same_fields Rx o d n more = refl
same_fields Rs o d n more = refl
same_fields Si o d n more = refl
same_fields S o d n more = s_same_fields (ltb o 256) o d n more
same_fields Ri o d n more = refl
same_fields Rsi o d n more = refl
same_fields Rre o d n more = refl
same_fields Ss1 o d n more = refl
same_fields Ss2 o d n more = refl

row_of_fields : (f : Form) (n : ℕ) (bytes : List ℕ) → (fields_of f n bytes).row ≡ n
row_of_fields Rr n bytes = refl
row_of_fields Rx n bytes = refl
row_of_fields Rs n bytes = refl
row_of_fields Si n bytes = refl
row_of_fields S n bytes = refl
row_of_fields Ri n bytes = refl
row_of_fields Rsi n bytes = refl
row_of_fields Rre n bytes = refl
row_of_fields Ss1 n bytes = refl
row_of_fields Ss2 n bytes = refl

-- ---- whatever follows

abbrev row_or : Option Decoded → ℕ
row_or None = 0
row_or (Some d) = d.row

abbrev bytes_of : Decoded → List ℕ
bytes_of d = encoded (row_numbered d.row).form (row_numbered d.row).opcode d

more_case : (x : Option ℕ) (d : Decoded) (more : List ℕ) → fields_at (filled (bytes_of d)) x ≡ Some d → fields_at (bytes_of d ++ more) x ≡ Some d
more_case None d more h = let z : false ≡ true = ap is_some h in absurd (grind (arith, nat_tests))
more_case (Some n) d more h =
    let i : n ≡ d.row = sym (row_of_fields (row_numbered n).form n (filled (bytes_of d))) ∙ ap row_or h in
    let P : ℕ → Type 0 = λ m. fields_of (row_numbered m).form m (bytes_of d ++ more) ≡ fields_of (row_numbered m).form m (filled (bytes_of d)) in
    let same : P n = subst P (sym i) (same_fields (row_numbered d.row).form (row_numbered d.row).opcode d d.row more) in
    ap Some same ∙ h

pub decoded_more : (d : Decoded) (more : List ℕ) → IsInstruction d → decoded (encoded (row_numbered d.row).form (row_numbered d.row).opcode d ++ more) ≡ Some d
unfolding decoded
decoded_more d more h =
    ap (λ o. fields_at (bytes_of d ++ more) (number_of o)) (same_opcode (row_numbered d.row).form (row_numbered d.row).opcode d more)
    ∙ more_case (number_of (opcode_of (filled (bytes_of d)))) d more (round d h)

-- ---- in bytes by their places

s_long : (b : Bool) (o : ℕ) (d : Decoded) → length (s_bytes b o d) ≤ 6
s_long true o d = omega arith
s_long false o d = omega arith

at_most : (f : Form) (o : ℕ) (d : Decoded) → length (encoded f o d) ≤ 6
at_most Rr o d = omega arith
at_most Rx o d = omega arith
at_most Rs o d = omega arith
at_most Si o d = omega arith
at_most S o d = s_long (ltb o 256) o d
at_most Ri o d = omega arith
at_most Rsi o d = omega arith
at_most Rre o d = omega arith
at_most Ss1 o d = omega arith
at_most Ss2 o d = omega arith

begins : (g : ℕ → ℕ) (at : ℕ) (xs : List ℕ) (n : ℕ) → BeginsWith g at xs → length xs ≤ n → (more : List ℕ) × (bytes_from g at n ≡ xs ++ more)
begins g at [] n h l = (bytes_from g at n, refl)
begins g at (x ∷ xs) zero h l = absurd (omega arith)
begins g at (x ∷ xs) (suc n) h l =
    let r = begins g (at + 1) xs n h.1 (omega arith) in
    (r.0, ap (λ y. y ∷ bytes_from g (at + 1) n) h.0 ∙ ap (λ ys. x ∷ ys) r.1)

pub decoded_at : (g : ℕ → ℕ) (at : ℕ) (d : Decoded) → IsInstruction d → BeginsWith g at (encoded (row_numbered d.row).form (row_numbered d.row).opcode d) → decoded (bytes_from g at 6) ≡ Some d
decoded_at g at d h b =
    let r = begins g at (bytes_of d) 6 b (at_most (row_numbered d.row).form (row_numbered d.row).opcode d) in
    ap decoded r.1 ∙ decoded_more d r.0 h
