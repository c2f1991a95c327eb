-- Word strikes, one line after another.
use Rattle.std.proofs.Common.{◌≡◌, ℕ, zero, suc, ◌+◌, ◌*◌, ◌^◌, ◌<◌, ◌≤◌, ◌≢◌, Bool, true, false, cond, eqb, List, [], ◌∷◌, length, get_or, set, drop, refl, sym, ap, ◌∙◌, arith, bit_xor, inl, inr, get_or-set_other, get_or-set_same}
use Rattle.std.specs.Prelude.{◌&&◌}
use Rattle.std.specs.Int.Bits.{xor_assoc, xor_zero_r}
use Rattle.std.proofs.lemmas.Bool.{cases_eq}
use Rattle.std.proofs.lemmas.Bool.Decides.{nat_tests}
use Rattle.run_model.specs.declared.faults.Strike.{Strike}
use Rattle.run_model.specs.declared.faults.Strike.TheVariants.{Word}
use Rattle.run_model.specs.Strikes.{in_word, flips}
use Rattle.run_model.specs.declared.faults.CoreNo.{CoreNo}
use Rattle.silicon.specs.Landing.{LandsOne, LandsSoFar, LandsAll}

-- nothing is flipped
same_by : (t : Bool) (x v : ℕ) → v ≡ 0 → x ≡ cond t (bit_xor x v) x
same_by true x v e = sym (ap (bit_xor x) e ∙ xor_zero_r x)
same_by false x v e = refl

pub missed : (s : Strike) (core n : ℕ) (ws : List ℕ) → ((w : ℕ) → w < 40 → in_word s core n w ≡ 0) → LandsOne s core n ws ws
missed s core n ws h c w l = elim (cases_eq c core) [
  | inl q ↦ rw q (same_by (eqb core core) _ _ (h w l))
  | inr ne ↦ let f : eqb c core ≡ false = grind (arith, nat_tests, ne) in rw f refl
]

pub struck : (struck_core : CoreNo) (core at n word bit : ℕ) (ws : List ℕ) → core < 16 → length ws ≡ 640 → word < 40 → struck_core.0 ≡ core → at ≡ n → LandsOne (Word struck_core at word bit) core n ws (set ws (core * 40 + word) (bit_xor (get_or ws (core * 40 + word) 0) (2 ^ bit)))
struck s core at n word bit ws h len lw same e c w l = elim (cases_eq c core) [
  | inl q ↦ elim (cases_eq w word) [
    | inl p ↦
        let one : (eqb s.0 core && (eqb at n && eqb word word)) ≡ true = grind (arith, nat_tests, e, same) in
        let two : eqb core core ≡ true = grind (arith, nat_tests) in
        rw (q, p, one, two) (get_or-set_same ws (core * 40 + word) _ 0 (omega (arith, len)))
    | inr ne ↦
        let one : (eqb s.0 core && (eqb at n && eqb word w)) ≡ false = grind (arith, nat_tests, ne) in
        let two : eqb core core ≡ true = grind (arith, nat_tests) in
        let o : core * 40 + w ≢ core * 40 + word = omega (arith, ne) in
        rw (q, one, two) (get_or-set_other ws (core * 40 + word) (core * 40 + w) _ 0 o ∙ sym (xor_zero_r _))
  ]
  | inr ne ↦
      let f : eqb c core ≡ false = grind (arith, nat_tests, ne) in
      let o : c * 40 + w ≢ core * 40 + word = omega (arith, ne, l, lw) in
      rw f (get_or-set_other ws (core * 40 + word) (c * 40 + w) _ 0 o)
]

step_by : (t : Bool) (a b x f g r : ℕ) → b ≡ cond t (bit_xor a x) a → f ≡ bit_xor x g → cond t (bit_xor a f) a ≡ r → cond t (bit_xor b g) b ≡ r
step_by true a b x f g r e h k = ap (λ y. bit_xor y g) e ∙ xor_assoc a x g ∙ ap (bit_xor a) (sym h) ∙ k
step_by false a b x f g r e h k = e ∙ k

flips_next : (ls : List Strike) (i : ℕ) (d : Strike) (c n w : ℕ) → i < length ls → flips (drop i ls) c n w ≡ bit_xor (in_word (get_or ls i d) c n w) (flips (drop (suc i) ls) c n w)
unfolding flips
flips_next [] i d c n w h = absurd (omega arith)
flips_next (s ∷ ss) zero d c n w h = refl
flips_next (s ∷ ss) (suc i) d c n w h = flips_next ss i d c n w (omega arith)

pub lands_step : (ls : List Strike) (i : ℕ) (d : Strike) (core n : ℕ) (old now next : List ℕ) → i < length ls → LandsOne (get_or ls i d) core n now next → LandsSoFar (drop i ls) ls core n old now → LandsSoFar (drop (suc i) ls) ls core n old next
lands_step ls i d core n old now next h line far c w l = step_by (eqb c core) _ _ _ _ _ _ (line c w l) (flips_next ls i d core n w h) (far c w l)

flips_end : (ls : List Strike) (i c n w : ℕ) → length ls ≤ i → flips (drop i ls) c n w ≡ 0
unfolding flips
flips_end [] zero c n w h = refl
flips_end [] (suc i) c n w h = refl
flips_end (s ∷ ss) zero c n w h = absurd (omega arith)
flips_end (s ∷ ss) (suc i) c n w h = flips_end ss i c n w (omega arith)

pub lands_start : (ls : List Strike) (core n : ℕ) (old : List ℕ) → LandsSoFar (drop 0 ls) ls core n old old
lands_start ls core n old c w l = refl

pub lands_end : (ls : List Strike) (i core n : ℕ) (old now : List ℕ) → length ls ≤ i → LandsSoFar (drop i ls) ls core n old now → LandsAll ls core n old now
lands_end ls i core n old now h far c w l = same_by (eqb c core) _ _ (flips_end ls i core n w h) ∙ far c w l
