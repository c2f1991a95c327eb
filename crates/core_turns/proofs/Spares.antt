-- The spares of a pool and those of a state.
use Rattle.std.proofs.Common.{◌≡◌, ◌≢◌, ℕ, zero, suc, ◌+◌, ◌≤◌, Bool, false, cond, eqb, List, ◌∷◌, Some, Option, refl, sym, ap, ◌∙◌, arith, inl, inr, if◌then◌else◌}
use Rattle.std.specs.Prelude.{nat_lt}
use Rattle.std.proofs.lemmas.Bool.Decides.{nat_tests}
use Rattle.std.proofs.lemmas.Bool.{cases_eq}
use Rattle.esa_model.specs.Machine.{at}
use Rattle.run_laws.proofs.At.{at_same, at_other}
use Rattle.run_model.specs.Cores.{lowest}
use Rattle.core_states.specs.declared.cores.SpareCore.{SpareCore}
use Rattle.sparing.specs.Pools.{holds, stands, put, lowest_number}
use Rattle.sparing.proofs.Puts.{holds_put}
use Rattle.core_turns.specs.Held.{CorePool, SparesAre, spare_number}
use Rattle.core_turns.specs.Places.{in_pool}

lowest_same : (f g : ℕ → Bool) (a n : ℕ) → ((k : ℕ) → f k ≡ g k) → lowest f a n ≡ lowest g a n
lowest_same f g a zero h = refl
lowest_same f g a (suc n) h = ap (λ b. if b then Some a else lowest f (a + 1) n) (h a)
    ∙ ap (λ o. if g a then Some a else o) (lowest_same f g (a + 1) n h)

pub lowest_is : (p : CorePool) (f : ℕ → Bool) (o : Option ℕ) → SparesAre p f
    → o ≡ lowest_number spare_number p.spares → lowest f 0 16 ≡ o
unfolding lowest_number
lowest_is p f o are is = lowest_same f (stands spare_number p.spares) 0 16 are ∙ sym is

pub spares_same : (p q : CorePool) (f : ℕ → Bool) → q.spares ≡ p.spares → SparesAre p f
    → SparesAre q f
spares_same p q f e are k =
    are k ∙ ap (λ (xs : List SpareCore). stands spare_number xs k) (sym e)

once_head : (c h : ℕ) → cond (eqb c c) 1 0 + h ≤ 1 → h ≡ 0
once_head c h l = grind (arith, nat_tests)

none_here : (h : ℕ) → h ≡ 0 → nat_lt 0 h ≡ false
none_here h e = rw e refl

same_rest : (c j h : ℕ) → j ≢ c → nat_lt 0 (cond (eqb c j) 1 0 + h) ≡ nat_lt 0 h
same_rest c j h ne = let e : eqb c j ≡ false = grind (arith, nat_tests) in
    let z : 0 + h ≡ h = omega arith in rw (e, z) refl

-- the lowest is taken
pub spares_taken : (p q : CorePool) (s : SpareCore) (f : ℕ → Bool)
    → p.spares ≡ s ∷ q.spares → ((n : ℕ) → in_pool n p ≤ 1) → SparesAre p f
    → SparesAre q (at f s.core.0 false)
spares_taken p q s f e once are k = elim (cases_eq k s.core.0) [
  | inl same ↦
      let there : cond (eqb s.core.0 s.core.0) 1 0 + holds spare_number s.core.0 q.spares ≤ 1 =
      (let o = once s.core.0 in
      let h = ap (holds spare_number s.core.0) e in omega (arith, o, h)) in
      let none = once_head s.core.0 (holds spare_number s.core.0 q.spares) there in
      ap (at f s.core.0 false) same ∙ at_same f s.core.0 false
      ∙ sym (none_here (holds spare_number s.core.0 q.spares) none)
      ∙ ap (stands spare_number q.spares) (sym same)
  | inr ne ↦
      at_other f s.core.0 false k ne ∙ are k
      ∙ ap (λ (xs : List SpareCore). stands spare_number xs k) e
      ∙ same_rest s.core.0 k (holds spare_number k q.spares) ne
]

-- it is put back
pub spares_back : (p q r : CorePool) (s t : SpareCore) (f : ℕ → Bool)
    → p.spares ≡ s ∷ q.spares → t.core ≡ s.core → r.spares ≡ put spare_number t q.spares
    → SparesAre p f → SparesAre r f
spares_back p q r s t f e same is are k =
    are k ∙ ap (λ (xs : List SpareCore). stands spare_number xs k) e
    ∙ ap (λ (n : ℕ). nat_lt 0 (cond (eqb n k) 1 0 + holds spare_number k q.spares))
    (sym (ap (λ c. c.0) same))
    ∙ ap (nat_lt 0) (sym (holds_put spare_number k t q.spares))
    ∙ ap (λ (xs : List SpareCore). stands spare_number xs k) (sym is)
