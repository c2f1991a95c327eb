-- A section of one instruction, and the end, have no refusal and are one section.
use Rattle.std.proofs.Common.{◌≡◌, ℕ, ◌+◌, ◌≤◌, Bool, true, false, ltb, not, List, [], ◌∷◌, length, Some, None, refl, ◌∙◌, ap, arith, append-nil}
use Rattle.std.proofs.lemmas.Bool.Decides.{nat_tests}
use Rattle.std.specs.List.{find}
use Rattle.esa_model.specs.declared.instructions.Form.{Form}
use Rattle.esa_model.specs.declared.instructions.Form.TheVariants.{Rr, Rx, Rs, Si, S, Ri, Rsi, Rre, Ss1, Ss2}
use Rattle.esa_model.specs.declared.instructions.Decoded.{Decoded}
use Rattle.esa_model.specs.Table.{row_numbered}
use Rattle.esa_table.specs.Encoding.{IsInRange, instruction_bytes}
use Rattle.asm_model.specs.declared.operands.Given.{Given}
use Rattle.asm_model.specs.declared.statements.Operation.TheVariants.{Section, End, Instruction}
use Rattle.asm_model.specs.declared.statements.Line.{Line}
use Rattle.asm_model.specs.declared.statements.Line.TheVariants.{Said}
use Rattle.asm_model.specs.declared.statements.Source.{Source}
use Rattle.asm_model.specs.declared.program.Defined.{Defined}
use Rattle.asm_model.specs.declared.refusal.AsmRefusal.TheVariants as refusal
use Rattle.asm_model.specs.Places.{State, Standing, form_length, start, after, standings, last}
use Rattle.asm_model.specs.Refused.{resolved, in_range, is_too_big, passes, is_out, refused, refusal_of}
use Rattle.asm_model.specs.Program.{assembly}
use Rattle.text_law.specs.Between.{only_section}
use Rattle.text_law.proofs.Fields.{given_of}

-- ---- the sources of the three lines

abbrev pub section_said : ℕ → Line
section_said m = Said (record { name = Some m; operation = Section })

abbrev pub instruction_said : Given → Line
instruction_said g = Said (record { name = None; operation = Instruction g })

abbrev pub end_said : Line
end_said = Said (record { name = None; operation = End None })

abbrev pub three : ℕ → Given → List Source
three m g =
    record { number = 1; line = section_said m } ∷ record { number = 2; line = instruction_said g }
    ∷ record { number = 3; line = end_said } ∷ []

-- ---- what stands before each of them

abbrev begun : ℕ → State
begun m = after start (section_said m)

abbrev filled : ℕ → Given → State
filled m g = after (begun m) (instruction_said g)

abbrev ended : ℕ → Given → State
ended m g = after (filled m g) end_said

abbrev first : ℕ → Standing
first m = record { number = 1; line = section_said m; before = start }

abbrev second : ℕ → Given → Standing
second m g = record { number = 2; line = instruction_said g; before = begun m }

abbrev third : ℕ → Given → Standing
third m g = record { number = 3; line = end_said; before = filled m g }

none_of_three :
    (p : Standing → Bool) (x y z : Standing) → p x ≡ false → p y ≡ false → p z ≡ false
    → find p (x ∷ y ∷ z ∷ []) ≡ None
none_of_three p x y z a b c = rw (a, b, c) refl

-- ---- nothing is too large

form_small : (f : Form) → form_length f ≤ 6
form_small Rr = omega arith
form_small Rx = omega arith
form_small Rs = omega arith
form_small Si = omega arith
form_small S = omega arith
form_small Ri = omega arith
form_small Rsi = omega arith
form_small Rre = omega arith
form_small Ss1 = omega arith
form_small Ss2 = omega arith

state_small :
    (t : State) → t.offset ≤ 6 → t.total ≡ 0 → t.section ≡ 1 → length t.externals ≡ 0
    → is_too_big t ≡ false
state_small t a b c d =
    let e : ltb 1048576 t.offset ≡ false = grind (arith, nat_tests) in
    let f : ltb 16777216 (t.total + t.offset) ≡ false = grind (arith, nat_tests) in
    let g : ltb 65535 (t.section + length t.externals) ≡ false = grind (arith, nat_tests) in
    rw (e, f, g) refl

none_passes : (m : ℕ) (g : Given) → find passes (standings start (three m g)) ≡ None
none_passes m g =
    let l = form_small (row_numbered g.row).form in
    none_of_three passes (first m) (second m g) (third m g) refl
    (state_small (filled m g) (omega (arith, l)) refl refl refl)
    (state_small (ended m g) (omega (arith, l)) refl refl refl)

-- ---- the fields are in range

range_is : (d : Decoded) → IsInRange d → in_range (given_of d) ≡ true
unfolding in_range
range_is d r =
    let a = r.r1 in
    let b = r.r2 in
    let c = r.b1 in
    let e = r.d1 in
    let f = r.b2 in
    let g = r.d2 in
    let i = r.imm in
    let l = r.len in
    let t1 : ltb d.r1 16 ≡ true = grind (arith, nat_tests) in
    let t2 : ltb d.r2 16 ≡ true = grind (arith, nat_tests) in
    let t3 : ltb d.b1 16 ≡ true = grind (arith, nat_tests) in
    let t4 : ltb d.d1 4096 ≡ true = grind (arith, nat_tests) in
    let t5 : ltb d.b2 16 ≡ true = grind (arith, nat_tests) in
    let t6 : ltb d.d2 4096 ≡ true = grind (arith, nat_tests) in
    let t7 : ltb d.imm 65536 ≡ true = grind (arith, nat_tests) in
    let t8 : ltb d.len 256 ≡ true = grind (arith, nat_tests) in
    rw (t1, t2, t3, t4, t5, t6, t7, t8) refl

none_out :
    (names : List Defined) (m : ℕ) (d : Decoded) → IsInRange d
    → find (is_out names) (standings start (three m (given_of d))) ≡ None
unfolding resolved
none_out names m d r =
    let g = given_of d in
    let within_range = ap not (range_is d r) in
    none_of_three (is_out names) (first m) (second m g) (third m g) refl within_range refl

-- ---- of the whole source

pub accepted : (m : ℕ) (d : Decoded) → IsInRange d → refusal_of (three m (given_of d)) ≡ None
unfolding refusal_of
accepted m d r =
    let g = given_of d in
    let ss = standings start (three m g) in
    let names = (last start (three m g)).names in
    let later = refused refusal.OutOfRange (find (is_out names) ss) None in
    ap (λ o. refused refusal.TooBig o later) (none_passes m g)
    ∙ ap (λ o. refused refusal.OutOfRange o None) (none_out names m d r)

pub assembled :
    (m : ℕ) (d : Decoded)
    → assembly (three m (given_of d)) ≡ only_section m (instruction_bytes d)
unfolding assembly resolved
assembled m d = ap (only_section m) (append-nil (instruction_bytes d))
