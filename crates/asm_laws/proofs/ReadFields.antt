-- The operands of an instruction give fields of its form alone.
use Rattle.std.proofs.Common.{◌≡◌, ℕ, zero, suc, ◌+◌, ◌-◌, ◌/◌, ◌%◌, ◌<◌, ◌≤◌, Bool, true, false, cond, leb, ltb, eqb, ◌&&◌, ◌||◌, List, [], ◌∷◌, Option, Some, None, refl, sym, ◌∙◌, ap, subst, arith, inl, inr, ◌⊎◌}
use Rattle.std.proofs.lemmas.Bool.Decides.{nat_tests}
use Rattle.std.proofs.lemmas.Bool.{cases_lt}
use Rattle.esa_model.specs.Table.{row_numbered}
use Rattle.esa_model.specs.declared.instructions.Form.{Form}
use Rattle.esa_model.specs.declared.instructions.Form.TheVariants.{Rr, Rx, Rs, Si, S, Ri, Rsi, Rre, Ss1, Ss2}
use Rattle.asm_model.specs.declared.operands.Operand.{Operand}
use Rattle.asm_model.specs.declared.operands.Operand.TheVariants.{Plain, Negative, Based, Indexed, Named, Bad}
use Rattle.asm_model.specs.declared.operands.Slot.{Slot}
use Rattle.asm_model.specs.declared.operands.Slot.TheVariants.{Reg1, Reg2, Both, Address1, Address2, Index2, Long, Sized1, Sized2, Byte, Half, SignedHalf, Target}
use Rattle.asm_model.specs.declared.operands.Goes.{Goes}
use Rattle.asm_model.specs.declared.operands.Goes.TheVariants.{First, Second, Half as HalfWord}
use Rattle.asm_model.specs.declared.operands.Reference.{Reference}
use Rattle.asm_model.specs.declared.operands.Given.{Given}
use Rattle.asm_model.specs.Words.{within}
use Rattle.asm_model.specs.Slots.{slots, half_of, minus_half, byte_of, register, signed_half, target, first, second, index, sized, filled, on_given, given, nothing_given, instruction}

-- ---- fields of a form

abbrev pub ByteOrOver : ℕ → Type 0
ByteOrOver n = (n < 256) ⊎ (n ≡ 65536)

abbrev pub OnlyFields : Form → Given → Type 0
OnlyFields Rr d = (d.b1 ≡ 0) × (d.d1 ≡ 0) × (d.b2 ≡ 0) × (d.d2 ≡ 0) × (d.imm ≡ 0) × (d.len ≡ 0)
OnlyFields Rx d = (d.b1 ≡ 0) × (d.d1 ≡ 0) × (d.imm ≡ 0) × (d.len ≡ 0)
OnlyFields Rs d = (d.b1 ≡ 0) × (d.d1 ≡ 0) × (d.imm ≡ 0) × (d.len ≡ 0)
OnlyFields Si d = (d.r1 ≡ 0) × (d.r2 ≡ 0) × (d.b2 ≡ 0) × (d.d2 ≡ 0) × ByteOrOver d.imm × (d.len ≡ 0)
OnlyFields S d = (d.r1 ≡ 0) × (d.r2 ≡ 0) × (d.b1 ≡ 0) × (d.d1 ≡ 0) × (d.imm ≡ 0) × (d.len ≡ 0)
OnlyFields Ri d = (d.r2 ≡ 0) × (d.b1 ≡ 0) × (d.d1 ≡ 0) × (d.b2 ≡ 0) × (d.d2 ≡ 0) × (d.len ≡ 0)
OnlyFields Rsi d = (d.b1 ≡ 0) × (d.d1 ≡ 0) × (d.b2 ≡ 0) × (d.d2 ≡ 0) × (d.len ≡ 0)
OnlyFields Rre d = (d.b1 ≡ 0) × (d.d1 ≡ 0) × (d.b2 ≡ 0) × (d.d2 ≡ 0) × (d.imm ≡ 0) × (d.len ≡ 0)
OnlyFields Ss1 d = (d.r1 ≡ 0) × (d.r2 ≡ 0) × (d.imm ≡ 0)
OnlyFields Ss2 d = (d.imm ≡ 0) × (d.len ≡ 0)

-- a name goes there
abbrev pub GoesTo : Goes → Option Reference → Type 0
GoesTo w None = Unit {0}
GoesTo w (Some r) = r.goes ≡ w

abbrev pub PointsBy : Form → Option Reference → Type 0
PointsBy Rr to = to ≡ None
PointsBy Rx to = GoesTo Second to
PointsBy Rs to = GoesTo Second to
PointsBy Si to = GoesTo First to
PointsBy S to = GoesTo Second to
PointsBy Ri to = GoesTo HalfWord to
PointsBy Rsi to = GoesTo HalfWord to
PointsBy Rre to = to ≡ None
PointsBy Ss1 to = GoesTo Second to
PointsBy Ss2 to = GoesTo Second to

abbrev pub HasFields : Form → Given → Type 0
HasFields f g = OnlyFields f g × PointsBy f g.to

-- ---- what a slot may give

abbrev OnSome : (Given → Type 0) → Option Given → Type 0
OnSome P None = Unit {0}
OnSome P (Some g) = P g

abbrev Points : (Given → Type 0) → Goes → Given → Type 0
Points P w g = (m n : ℕ) → P (record g { to = Some (record { goes = w; name = m; plus = n }) })

abbrev SlotGives : (Given → Type 0) → Slot → Given → Type 0
SlotGives P Reg1 g = (n : ℕ) → P (record g { r1 = n })
SlotGives P Reg2 g = (n : ℕ) → P (record g { r2 = n })
SlotGives P Both g = (n : ℕ) → P (record g { r1 = n / 16; r2 = n % 16 })
SlotGives P Byte g = (n : ℕ) → P (record g { imm = byte_of n })
SlotGives P Half g = (n : ℕ) → P (record g { imm = n })
SlotGives P SignedHalf g = (n : ℕ) → P (record g { imm = n })
SlotGives P Target g = ((n : ℕ) → P (record g { imm = n })) × Points P HalfWord g
SlotGives P Address1 g = ((d : ℕ) → P (record g { d1 = d })) × ((d b : ℕ) → P (record g { d1 = d; b1 = b })) × Points P First g
SlotGives P Address2 g = ((d : ℕ) → P (record g { d2 = d })) × ((d b : ℕ) → P (record g { d2 = d; b2 = b })) × Points P Second g
SlotGives P Index2 g = ((d : ℕ) → P (record g { d2 = d })) × ((d b : ℕ) → P (record g { d2 = d; b2 = b })) × Points P Second g × ((d x b : ℕ) → P (record g { d2 = d; r2 = x; b2 = b }))
SlotGives P Long g = (d l b : ℕ) → P (record g { d1 = d; len = l; b1 = b })
SlotGives P Sized1 g = (d l b : ℕ) → P (record g { d1 = d; r1 = l; b1 = b })
SlotGives P Sized2 g = (d l b : ℕ) → P (record g { d2 = d; r2 = l; b2 = b })

register_on : (P : Given → Type 0) (f : ℕ → Given) (o : Operand) → ((n : ℕ) → P (f n)) → OnSome P (register f o)
register_on P f (Plain n) h = h n
register_on P f (Negative n) h = tt
register_on P f (Based d b) h = tt
register_on P f (Indexed d x b) h = tt
register_on P f (Named m n) h = tt
register_on P f Bad h = tt

signed_on : (P : Given → Type 0) (g : Given) (o : Operand) → ((n : ℕ) → P (record g { imm = n })) → OnSome P (signed_half g o)
signed_on P g (Plain n) h = h (half_of n)
signed_on P g (Negative n) h = h (minus_half n)
signed_on P g (Based d b) h = tt
signed_on P g (Indexed d x b) h = tt
signed_on P g (Named m n) h = tt
signed_on P g Bad h = tt

target_on : (P : Given → Type 0) (g : Given) (o : Operand) → SlotGives P Target g → OnSome P (target g o)
target_on P g (Plain n) h = h.0 (half_of n)
target_on P g (Negative n) h = h.0 (minus_half n)
target_on P g (Based d b) h = tt
target_on P g (Indexed d x b) h = tt
target_on P g (Named m n) h = h.1 m n
target_on P g Bad h = tt

first_on : (P : Given → Type 0) (g : Given) (o : Operand) → SlotGives P Address1 g → OnSome P (first g o)
first_on P g (Plain d) h = h.0 d
first_on P g (Negative n) h = tt
first_on P g (Based d b) h = h.1 d b
first_on P g (Indexed d x b) h = tt
first_on P g (Named m n) h = h.2 m n
first_on P g Bad h = tt

second_on : (P : Given → Type 0) (g : Given) (o : Operand) → SlotGives P Address2 g → OnSome P (second g o)
second_on P g (Plain d) h = h.0 d
second_on P g (Negative n) h = tt
second_on P g (Based d b) h = h.1 d b
second_on P g (Indexed d x b) h = tt
second_on P g (Named m n) h = h.2 m n
second_on P g Bad h = tt

index_on : (P : Given → Type 0) (g : Given) (o : Operand) → SlotGives P Index2 g → OnSome P (index g o)
index_on P g (Plain d) h = h.0 d
index_on P g (Negative n) h = tt
index_on P g (Based d b) h = h.1 d b
index_on P g (Indexed d x b) h = h.3 d x b
index_on P g (Named m n) h = h.2 m n
index_on P g Bad h = tt

sized_on : (P : Given → Type 0) (f : ℕ → ℕ → ℕ → Given) (o : Operand) → ((d l b : ℕ) → P (f d l b)) → OnSome P (sized f o)
sized_on P f (Plain n) h = tt
sized_on P f (Negative n) h = tt
sized_on P f (Based d b) h = tt
sized_on P f (Indexed d l b) h = h d _ b
sized_on P f (Named m n) h = tt
sized_on P f Bad h = tt

filled_on : (P : Given → Type 0) (s : Slot) (g : Given) (o : Operand) → SlotGives P s g → OnSome P (filled s g o)
unfolding filled
filled_on P Reg1 g o h = register_on P (λ n. record g { r1 = n }) o h
filled_on P Reg2 g o h = register_on P (λ n. record g { r2 = n }) o h
filled_on P Both g o h = register_on P (λ n. record g { r1 = n / 16; r2 = n % 16 }) o h
filled_on P Byte g o h = register_on P (λ n. record g { imm = byte_of n }) o h
filled_on P Half g o h = register_on P (λ n. record g { imm = n }) o h
filled_on P SignedHalf g o h = signed_on P g o h
filled_on P Target g o h = target_on P g o h
filled_on P Address1 g o h = first_on P g o h
filled_on P Address2 g o h = second_on P g o h
filled_on P Index2 g o h = index_on P g o h
filled_on P Long g o h = sized_on P (λ d l b. record g { d1 = d; len = l; b1 = b }) o h
filled_on P Sized1 g o h = sized_on P (λ d l b. record g { d1 = d; r1 = l; b1 = b }) o h
filled_on P Sized2 g o h = sized_on P (λ d l b. record g { d2 = d; r2 = l; b2 = b }) o h

-- ---- the slots of a form

abbrev Fit : ℕ → Form → Given → Type 0
Fit row f g = (g.row ≡ row) × HasFields f g

abbrev Allowed : ℕ → Form → Slot → Type 0
Allowed row f s = (g : Given) → Fit row f g → SlotGives (Fit row f) s g

abbrev AllAllowed : ℕ → Form → List Slot → Type 0
AllAllowed row f [] = Unit {0}
AllAllowed row f (s ∷ ss) = Allowed row f s × AllAllowed row f ss

on_given_on : (P : Given → Type 0) (o : Option Given) (more : Given → Option Given) → OnSome (λ g. OnSome P (more g)) o → OnSome P (on_given o more)
on_given_on P None more h = tt
on_given_on P (Some g) more h = h

carried : (P Q : Given → Type 0) (o : Option Given) → ((g : Given) → P g → Q g) → OnSome P o → OnSome Q o
carried P Q None k h = tt
carried P Q (Some g) k h = k g h

given_on : (row : ℕ) (f : Form) (ss : List Slot) (os : List Operand) (g : Given) → AllAllowed row f ss → Fit row f g → OnSome (Fit row f) (given ss os g)
given_on row f [] [] g a h = h
given_on row f [] (o ∷ os) g a h = tt
given_on row f (s ∷ ss) [] g a h = tt
given_on row f (s ∷ ss) (o ∷ os) g a h =
    on_given_on (Fit row f) (filled s g o) (λ next. given ss os next)
    (carried (Fit row f) (λ next. OnSome (Fit row f) (given ss os next)) (filled s g o) (λ next k. given_on row f ss os next a.1 k)
    (filled_on (Fit row f) s g o (a.0 g h)))

byte_or_over : (b : Bool) (n : ℕ) → ltb n 256 ≡ b → ByteOrOver (cond b n 65536)
byte_or_over true n e = inl (grind (arith, nat_tests))
byte_or_over false n e = inr refl

all_case : (b : Bool) (row : ℕ) (f : Form) (xs ys : List Slot) → AllAllowed row f xs → AllAllowed row f ys → AllAllowed row f (cond b xs ys)
all_case true row f xs ys h k = h
all_case false row f xs ys h k = k

slots_allowed : (row : ℕ) (f : Form) (o : ℕ) → AllAllowed row f (slots f o)
unfolding slots
slots_allowed row Rr o =
    all_case (eqb o 0x04) row Rr (Reg1 ∷ []) (cond (eqb o 0x0A) (Both ∷ []) (Reg1 ∷ Reg2 ∷ [])) (λ g h n. h, tt)
    (all_case (eqb o 0x0A) row Rr (Both ∷ []) (Reg1 ∷ Reg2 ∷ []) (λ g h n. h, tt) (λ g h n. h, (λ g h n. h, tt)))
slots_allowed row Rx o = (λ g h n. h, (λ g h. (λ d. h, λ d b. h, λ m n. (h.0, (h.1.0, refl)), λ d x b. h), tt))
slots_allowed row Rs o =
    all_case (within 0x88 0x8F o) row Rs (Reg1 ∷ Address2 ∷ []) (Reg1 ∷ Reg2 ∷ Address2 ∷ [])
    (λ g h n. h, (λ g h. (λ d. h, λ d b. h, λ m n. (h.0, (h.1.0, refl))), tt))
    (λ g h n. h, (λ g h n. h, (λ g h. (λ d. h, λ d b. h, λ m n. (h.0, (h.1.0, refl))), tt)))
slots_allowed row Si o = (
  λ g h. (λ d. h, λ d b. h, λ m n. (h.0, (h.1.0, refl))),
  (
    λ g h n. (h.0, ((h.1.0.0, h.1.0.1, h.1.0.2, h.1.0.3, byte_or_over (ltb n 256) n refl, h.1.0.5), h.1.1)),
    tt,
  ),
)
slots_allowed row S o = (λ g h. (λ d. h, λ d b. h, λ m n. (h.0, (h.1.0, refl))), tt)
slots_allowed row Ri o =
    all_case (within 0xA74 0xA76 o) row Ri (Reg1 ∷ Target ∷ []) (cond (leb o 0xA71) (Reg1 ∷ Half ∷ []) (Reg1 ∷ SignedHalf ∷ []))
    (λ g h n. h, (λ g h. (λ n. h, λ m n. (h.0, (h.1.0, refl))), tt))
    (all_case (leb o 0xA71) row Ri (Reg1 ∷ Half ∷ []) (Reg1 ∷ SignedHalf ∷ []) (λ g h n. h, (λ g h n. h, tt)) (λ g h n. h, (λ g h n. h, tt)))
slots_allowed row Rsi o = (λ g h n. h, (λ g h n. h, (λ g h. (λ n. h, λ m n. (h.0, (h.1.0, refl))), tt)))
slots_allowed row Rre o =
    all_case (eqb o 0xB222) row Rre (Reg1 ∷ []) (Reg1 ∷ Reg2 ∷ []) (λ g h n. h, tt) (λ g h n. h, (λ g h n. h, tt))
slots_allowed row Ss1 o = (λ g h d l b. h, (λ g h. (λ d. h, λ d b. h, λ m n. (h.0, (h.1.0, refl))), tt))
slots_allowed row Ss2 o =
    all_case (eqb o 0xF0) row Ss2 (Sized1 ∷ Address2 ∷ Reg2 ∷ []) (Sized1 ∷ Sized2 ∷ [])
    (λ g h d l b. h, (λ g h. (λ d. h, λ d b. h, λ m n. (h.0, (h.1.0, refl))), (λ g h n. h, tt)))
    (λ g h d l b. h, (λ g h d l b. h, tt))

nothing_fits : (row : ℕ) (f : Form) → Fit row f (nothing_given row)
nothing_fits row Rr = (refl, ((refl, refl, refl, refl, refl, refl), refl))
nothing_fits row Rx = (refl, ((refl, refl, refl, refl), tt))
nothing_fits row Rs = (refl, ((refl, refl, refl, refl), tt))
nothing_fits row Si = (refl, ((refl, refl, refl, refl, inl (omega arith), refl), tt))
nothing_fits row S = (refl, ((refl, refl, refl, refl, refl, refl), tt))
nothing_fits row Ri = (refl, ((refl, refl, refl, refl, refl, refl), tt))
nothing_fits row Rsi = (refl, ((refl, refl, refl, refl, refl), tt))
nothing_fits row Rre = (refl, ((refl, refl, refl, refl, refl, refl), refl))
nothing_fits row Ss1 = (refl, ((refl, refl, refl), tt))
nothing_fits row Ss2 = (refl, ((refl, refl), tt))

pub given_fields : (row : ℕ) (os : List Operand) (g : Given) → instruction row os ≡ Some g → (g.row ≡ row) × HasFields (row_numbered row).form g
unfolding instruction
given_fields row os g e =
    let f = (row_numbered row).form in
    let o = (row_numbered row).opcode in
    subst (OnSome (Fit row f)) e (given_on row f (slots f o) os (nothing_given row) (slots_allowed row f o) (nothing_fits row f))
