-- An instruction that is in range has the fields of its row, also with its name in place.
use Rattle.std.proofs.Common.{◌≡◌, ℕ, zero, suc, ◌+◌, ◌-◌, ◌<◌, ◌≤◌, ◌^◌, Bool, true, false, cond, not, leb, ltb, eqb, ◌&&◌, ◌||◌, List, [], ◌∷◌, Option, Some, None, refl, sym, ◌∙◌, ap, subst, arith, inl, inr, ◌⊎◌}
use Rattle.std.proofs.lemmas.Bool.Decides.{nat_tests}
use Rattle.esa_model.specs.Table.{row_numbered}
use Rattle.esa_model.specs.declared.instructions.Form.{Form}
use Rattle.esa_model.specs.declared.instructions.Form.TheVariants.{Rr, Rx, Rs, Si, S, Ri, Rsi, Rre, Ss1, Ss2}
use Rattle.esa_model.specs.declared.instructions.Decoded.{Decoded}
use Rattle.esa_table.specs.Encoding.{HasOnly, IsInRange, IsInstruction}
use Rattle.asm_model.specs.declared.operands.Goes.{Goes}
use Rattle.asm_model.specs.declared.operands.Goes.TheVariants.{First, Second, Half}
use Rattle.asm_model.specs.declared.operands.Reference.{Reference}
use Rattle.asm_model.specs.declared.operands.Given.{Given}
use Rattle.asm_model.specs.declared.program.Defined.{Defined}
use Rattle.asm_model.specs.declared.program.Base.{Base}
use Rattle.asm_model.specs.Places.{State}
use Rattle.asm_model.specs.Refused.{place_of, over, halfwords, by_base, by_goes, by_reference, resolved, in_range}
use Rattle.asm_model.specs.Program.{fields_given}
use Rattle.asm_laws.proofs.ReadNames.{both}
use Rattle.asm_laws.proofs.ReadFields.{ByteOrOver, OnlyFields, GoesTo, PointsBy, HasFields}

-- ---- a name in place changes one address, or the halfword

abbrev Changes : (Given → Type 0) → Goes → Given → Type 0
Changes P First g = (b d : ℕ) → P (record g { b1 = b; d1 = d })
Changes P Second g = (b d : ℕ) → P (record g { b2 = b; d2 = d })
Changes P Half g = (n : ℕ) → P (record g { imm = n })

by_base_on : (P : Given → Type 0) (f : ℕ → ℕ → Given) (names : List Defined) (to : ℕ) (b : Option Base) (g : Given) → P g → ((r d : ℕ) → P (f r d)) → P (by_base f names to b g)
by_base_on P f names to None g h k = h
by_base_on P f names to (Some b) g h k = k b.register _

by_goes_on : (P : Given → Type 0) (w : Goes) (names : List Defined) (s : State) (p : Defined) (to : ℕ) (g : Given) → P g → Changes P w g → P (by_goes w names s p to g)
by_goes_on P First names s p to g h k = by_base_on P (λ b d. record g { b1 = b; d1 = d }) names to s.base g h k
by_goes_on P Second names s p to g h k = by_base_on P (λ b d. record g { b2 = b; d2 = d }) names to s.base g h k
by_goes_on P Half names s p to g h k = k _

reference_on : (P : Given → Type 0) (w : Goes) (names : List Defined) (s : State) (to : Option Reference) (g : Given) → GoesTo w to → P g → Changes P w g → P (by_reference names s to g)
reference_on P w names s None g e h k = h
reference_on P w names s (Some r) g e h k = by_goes_on P r.goes names s _ _ g h (subst (λ x. Changes P x g) (sym e) k)

no_reference : (P : Given → Type 0) (names : List Defined) (s : State) (to : Option Reference) (g : Given) → to ≡ None → P g → P (by_reference names s to g)
no_reference P names s to g e h = subst (λ x. P (by_reference names s x g)) (sym e) h

-- ---- its fields are those of the form

fields_stay : (f : Form) (names : List Defined) (s : State) (g : Given) → HasFields f g → OnlyFields f (resolved names s g)
unfolding resolved
fields_stay Rr names s g h = no_reference (OnlyFields Rr) names s g.to g h.1 h.0
fields_stay Rx names s g h = reference_on (OnlyFields Rx) Second names s g.to g h.1 h.0 (λ b d. h.0)
fields_stay Rs names s g h = reference_on (OnlyFields Rs) Second names s g.to g h.1 h.0 (λ b d. h.0)
fields_stay Si names s g h = reference_on (OnlyFields Si) First names s g.to g h.1 h.0 (λ b d. h.0)
fields_stay S names s g h = reference_on (OnlyFields S) Second names s g.to g h.1 h.0 (λ b d. h.0)
fields_stay Ri names s g h = reference_on (OnlyFields Ri) Half names s g.to g h.1 h.0 (λ n. h.0)
fields_stay Rsi names s g h = reference_on (OnlyFields Rsi) Half names s g.to g h.1 h.0 (λ n. h.0)
fields_stay Rre names s g h = no_reference (OnlyFields Rre) names s g.to g h.1 h.0
fields_stay Ss1 names s g h = reference_on (OnlyFields Ss1) Second names s g.to g h.1 h.0 (λ b d. h.0)
fields_stay Ss2 names s g h = reference_on (OnlyFields Ss2) Second names s g.to g h.1 h.0 (λ b d. h.0)

abbrev HasRow : ℕ → Given → Type 0
HasRow n g = g.row ≡ n

row_changes : (w : Goes) (g : Given) → Changes (HasRow g.row) w g
row_changes First g = λ b d. refl
row_changes Second g = λ b d. refl
row_changes Half g = λ n. refl

reference_row : (names : List Defined) (s : State) (to : Option Reference) (g : Given) → (by_reference names s to g).row ≡ g.row
reference_row names s None g = refl
reference_row names s (Some r) g = by_goes_on (HasRow g.row) r.goes names s _ _ g refl (row_changes r.goes g)

pub resolved_row : (names : List Defined) (s : State) (g : Given) → (resolved names s g).row ≡ g.row
unfolding resolved
resolved_row names s g = reference_row names s g.to g

-- ---- in range

below : (a b : ℕ) → ltb a b ≡ true → a < b
below a b h = grind (arith, nat_tests)

pub ranges : (g : Given) → in_range g ≡ true → IsInRange (fields_given g)
unfolding in_range
ranges g h =
    let a = both (ltb g.r1 16) _ h in
    let b = both (ltb g.r2 16) _ a.1 in
    let c = both (ltb g.b1 16) _ b.1 in
    let d = both (ltb g.d1 4096) _ c.1 in
    let e = both (ltb g.b2 16) _ d.1 in
    let f = both (ltb g.d2 4096) _ e.1 in
    let i = both (ltb g.imm 65536) (ltb g.len 256) f.1 in
    record {
      r1 = below g.r1 16 a.0;
      r2 = below g.r2 16 b.0;
      b1 = below g.b1 16 c.0;
      d1 = below g.d1 4096 d.0;
      b2 = below g.b2 16 e.0;
      d2 = below g.d2 4096 f.0;
      imm = below g.imm 65536 i.0;
      len = below g.len 256 i.1;
    }

one_byte : (n : ℕ) → ByteOrOver n → n < 65536 → n < 256
one_byte n (inl h) k = h
one_byte n (inr h) k = absurd (omega (arith, h, k))

only : (f : Form) (g : Given) → OnlyFields f g → g.imm < 65536 → HasOnly f (fields_given g)
only Rr g h k = h
only Rx g h k = h
only Rs g h k = h
only Si g h k = (h.0, h.1, h.2, h.3, one_byte g.imm h.4 k, h.5)
only S g h k = h
only Ri g h k = h
only Rsi g h k = h
only Rre g h k = h
only Ss1 g h k = h
only Ss2 g h k = h

pub is_instruction : (names : List Defined) (s : State) (g : Given) → g.row < 134 → HasFields (row_numbered g.row).form g → in_range (resolved names s g) ≡ true → IsInstruction (fields_given (resolved names s g))
is_instruction names s g r h k =
    let e = resolved_row names s g in
    let n = ranges (resolved names s g) k in
    let o = fields_stay (row_numbered g.row).form names s g h in
    record {
      row = subst (λ x. x < 134) (sym e) r;
      range = n;
      form = only (row_numbered (resolved names s g).row).form (resolved names s g) (subst (λ x. OnlyFields (row_numbered x).form (resolved names s g)) (sym e) o) n.imm;
    }
