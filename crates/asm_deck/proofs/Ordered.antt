-- Constants in the order of their places share no byte.
use Rattle.std.proofs.Common.{◌≡◌, ℕ, zero, suc, ◌+◌, ◌-◌, ◌*◌, ◌/◌, ◌<◌, ◌≤◌, List, [], ◌∷◌, length, get_or, refl, sym, ◌∙◌, ap, subst, arith, ◌⊎◌, inl, inr}
use Rattle.deck_model.specs.Image.{aligned}
use Rattle.asm_model.specs.Section.{SectionBytes}
use Rattle.asm_model.specs.declared.program.Constant.{Constant}
use Rattle.asm_deck.specs.LoadedSections.{load_at, section_bytes, constant_place}
use Rattle.asm_deck.specs.Accepted.{ConstantFits, ConstantsFit, IsBefore, AreOrdered}
use Rattle.asm_deck.proofs.Constants.{ApartFrom, AllApart}

low_at : (from : ℕ) (ss : List SectionBytes) (j : ℕ) → j < length ss → from ≤ load_at from ss j
low_at from [] j h = absurd (omega arith)
low_at from (s ∷ ss) zero h = omega arith
low_at from (s ∷ ss) (suc j) h = let l = low_at (aligned from + length s.bytes) ss j (omega arith) in let a : from ≤ aligned from = omega arith in omega (arith, l, a)

-- a section ends before a later one begins
pub ends_before : (from : ℕ) (ss : List SectionBytes) (k j : ℕ) → k < j → j < length ss → load_at from ss k + length (section_bytes ss k) ≤ load_at from ss j
ends_before from [] k j h l = absurd (omega arith)
ends_before from (s ∷ ss) zero zero h l = absurd (omega arith)
ends_before from (s ∷ ss) (suc k) zero h l = absurd (omega arith)
ends_before from (s ∷ ss) zero (suc j) h l = low_at (aligned from + length s.bytes) ss j (omega arith)
ends_before from (s ∷ ss) (suc k) (suc j) h l = ends_before (aligned from + length s.bytes) ss k j (omega arith) (omega arith)

one_apart : (o : ℕ) (ss : List SectionBytes) (ms : List ℕ) (c d : Constant) → ConstantFits ss ms c → ConstantFits ss ms d → (c.section < d.section) ⊎ ((c.section ≡ d.section) × (c.offset + 4 ≤ d.offset)) → (constant_place o ss c + 4 ≤ constant_place o ss d) ⊎ (constant_place o ss d + 4 ≤ constant_place o ss c)
one_apart o ss ms c d f g (inl h) =
    let a = f.0 in
    let b = f.2 in
    let e = g.1 in
    let m = ends_before o ss (c.section - 1) (d.section - 1) (omega (arith, a, h)) (omega (arith, a, h, e)) in
    inl (omega (arith, b, m))
one_apart o ss ms c d f g (inr h) =
    let e : load_at o ss (c.section - 1) ≡ load_at o ss (d.section - 1) = ap (λ k. load_at o ss (k - 1)) h.0 in
    let k = h.1 in
    inl (omega (arith, e, k))

all_before : (o : ℕ) (ss : List SectionBytes) (ms : List ℕ) (c : Constant) (ds : List Constant) → ConstantFits ss ms c → ConstantsFit ss ms ds → IsBefore c ds → ApartFrom o ss (constant_place o ss c) ds
all_before o ss ms c [] f g h = tt
all_before o ss ms c (d ∷ ds) f g h = (one_apart o ss ms c d f g.0 h.0, all_before o ss ms c ds f g.1 h.1)

pub ordered_apart : (o : ℕ) (ss : List SectionBytes) (ms : List ℕ) (cs : List Constant) → ConstantsFit ss ms cs → AreOrdered cs → AllApart o ss cs
ordered_apart o ss ms [] f h = tt
ordered_apart o ss ms (c ∷ cs) f h = (all_before o ss ms c cs f.0 f.1 h.0, ordered_apart o ss ms cs f.1 h.1)
