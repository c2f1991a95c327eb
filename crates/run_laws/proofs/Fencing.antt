-- Which cores are fenced after a turn.
use Rattle.std.proofs.Common.{◌≡◌, ◌≢◌, ◌⊎◌, ℕ, zero, suc, ◌+◌, ◌<◌, Bool, true, false, List, refl, sym, ap, ◌∙◌, arith, eq-eqb, eqb-true, inl, inr}
use Rattle.std.specs.Prelude.{◌==◌, ◌&&◌, ◌||◌, not}
use Rattle.std.proofs.lemmas.Bool.{cases_eq, ne_eqb, true≢false}
use Rattle.run_model.specs.declared.faults.Mode.{Mode}
use Rattle.run_model.specs.declared.faults.Mode.TheVariants.{Running, Lost}
use Rattle.run_model.specs.declared.faults.Note.{Note}
use Rattle.run_model.specs.declared.logs.Config.{Config}
use Rattle.esa_model.specs.Machine.{at}
use Rattle.run_model.specs.Cores.{Cores, is_lost, belongs, serves, is_fenced, stopped}
use Rattle.run_model.specs.Lawful.{bit}
use Rattle.run_model.specs.Places.{Apart}
use Rattle.run_laws.proofs.At.{at_same, at_other, at_by}
use Rattle.run_laws.proofs.Rows.{spared}
use Rattle.run_laws.proofs.Standing.{serves_it}
use Rattle.run_laws.proofs.Midst.{no_and}

-- a core is fenced where its CPU stops, and no other
serves_none : (s : Cores) (k n : ℕ)
    → ((j : ℕ) → j < n → s.core j ≡ k → is_lost (s.mode j) ≡ false → ⊥) → serves s k n ≡ false
serves_none s k zero h = refl
serves_none s k (suc n) h =
    none_by (s.core n == k) (is_lost (s.mode n)) (serves s k n)
    (λ a b. h n (omega arith) (eqb-true (s.core n) k a) b)
    (serves_none s k n (λ j lt. h j (omega (arith, lt))))
  where
    none_by : (a b d : Bool) → (a ≡ true → b ≡ false → ⊥) → d ≡ false
        → ((a && not b) || d) ≡ false
    none_by true true d h e = e
    none_by true false d h e = absurd (h refl refl)
    none_by false b d h e = e

serves_same : (s s2 : Cores) (k n : ℕ)
    → ((j : ℕ) → j < n
    → ((s2.core j == k) && not (is_lost (s2.mode j)))
    ≡ ((s.core j == k) && not (is_lost (s.mode j)))) → serves s2 k n ≡ serves s k n
serves_same s s2 k zero h = refl
serves_same s s2 k (suc n) h = ap (λ b. b || serves s2 k n) (h n (omega arith))
    ∙ ap (λ b. ((s.core n == k) && not (is_lost (s.mode n))) || b)
    (serves_same s s2 k n (λ j lt. h j (omega (arith, lt))))

fenced_same : (c : Config) (s s2 : Cores) (k : ℕ) → s2.spare k ≡ s.spare k
    → serves s2 k c.cpus ≡ serves s k c.cpus → is_fenced c s2 k ≡ is_fenced c s k
unfolding is_fenced
fenced_same c s s2 k a b = rw (a, b) refl

pub fenced_not : (c : Config) (s : Cores) (k : ℕ)
    → (s.spare k ≡ true) ⊎ (serves s k c.cpus ≡ true) → is_fenced c s k ≡ false
unfolding is_fenced
fenced_not c s k (inl e) = ap (λ b. belongs c k && (not b && not (serves s k c.cpus))) e
    ∙ no_and (belongs c k)
fenced_not c s k (inr e) = ap (λ b. belongs c k && (not (s.spare k) && not b)) e
    ∙ ap (λ b. belongs c k && b) (no_and (not (s.spare k))) ∙ no_and (belongs c k)

pub fenced_no : (c : Config) (s : Cores) (k : ℕ) → belongs c k ≡ false → is_fenced c s k ≡ false
unfolding is_fenced
fenced_no c s k e = ap (λ b. b && (not (s.spare k) && not (serves s k c.cpus))) e

fenced_yes : (c : Config) (s : Cores) (k : ℕ) → belongs c k ≡ true → s.spare k ≡ false
    → serves s k c.cpus ≡ false → is_fenced c s k ≡ true
unfolding is_fenced
fenced_yes c s k a b d = rw (a, b, d) refl

-- the core that CPU i leaves
pub leaves : (c : Config) (s s2 : Cores) (i : ℕ) → i < c.cpus → Apart c s
    → is_lost (s.mode i) ≡ false
    → s2.spare (s.core i) ≡ false
    → ((j : ℕ) → j < c.cpus → s2.core j ≡ s.core i → is_lost (s2.mode j) ≡ false → ⊥)
    → ((k : ℕ) → k ≢ s.core i → is_fenced c s2 k ≡ is_fenced c s k)
    → (k : ℕ) → bit (is_fenced c s k) + bit (s.core i == k) ≡ bit (is_fenced c s2 k)
leaves c s s2 i lt a l free none same k = elim (cases_eq k (s.core i)) [
  | inl e ↦
      let before : is_fenced c s (s.core i) ≡ false =
      fenced_not c s (s.core i) (inr (serves_it s (s.core i) c.cpus i lt refl l)) in
      let after : is_fenced c s2 (s.core i) ≡ true =
      fenced_yes c s2 (s.core i) (a.own i lt) free (serves_none s2 (s.core i) c.cpus none) in
      let b : bit (is_fenced c s k) ≡ 0 = ap (λ z. bit (is_fenced c s z)) e ∙ ap bit before in
      let d : bit (is_fenced c s2 k) ≡ 1 = ap (λ z. bit (is_fenced c s2 z)) e ∙ ap bit after in
      let one : bit (s.core i == k) ≡ 1 = ap bit (eq-eqb (s.core i) k (sym e)) in
      omega (arith, b, d, one)
  | inr ne ↦
      let zero_bit : bit (s.core i == k) ≡ 0 = ap bit (ne_eqb (s.core i) k (λ e. ne (sym e))) in
      let b : bit (is_fenced c s2 k) ≡ bit (is_fenced c s k) = ap bit (same k ne) in
      omega (arith, zero_bit, b)
]

-- where CPU i stops
stop_serves : (s : Cores) (i k j : ℕ) → k ≢ s.core i
    → ((s.core j == k) && not (is_lost (at s.mode i Lost j)))
    ≡ ((s.core j == k) && not (is_lost (s.mode j)))
stop_serves s i k j ne =
    at_by (λ x. ((s.core j == k) && not (is_lost x))
    ≡ ((s.core j == k) && not (is_lost (s.mode j)))) s.mode i Lost j
    (λ e. let no_one : (s.core j == k) ≡ false =
    ne_eqb (s.core j) k (λ h. ne (sym h ∙ ap s.core e)) in
    ap (λ b. b && not (is_lost Lost)) no_one
    ∙ sym (ap (λ b. b && not (is_lost (s.mode j))) no_one))
    (λ n. refl)

not_lost_other : (s : Cores) (i j : ℕ) → is_lost (at s.mode i Lost j) ≡ false → j ≢ i
not_lost_other s i j h e =
    true≢false (sym (ap is_lost (ap (at s.mode i Lost) e ∙ at_same s.mode i Lost)) ∙ h)

pub stop_leaves : (c : Config) (s : Cores) (i : ℕ) → i < c.cpus → Apart c s
    → is_lost (s.mode i) ≡ false → (k : ℕ)
    → bit (is_fenced c s k) + bit (s.core i == k) ≡ bit (is_fenced c (stopped s i) k)
stop_leaves c s i lt a l = leaves c s (stopped s i) i lt a l (a.free i lt l)
    (λ j hj e h. let ne = not_lost_other s i j h in
    a.cores j i hj lt ne (ap is_lost (sym (at_other s.mode i Lost j ne)) ∙ h) l e)
    (λ k ne.
    fenced_same c s (stopped s i) k refl
    (serves_same s (stopped s i) k c.cpus (λ j hj. stop_serves s i k j ne)))

-- where it goes on on a spare
pub spare_leaves : (c : Config) (s : Cores) (i k2 : ℕ) (notes : List Note) → i < c.cpus
    → Apart c s → is_lost (s.mode i) ≡ false → s.spare k2 ≡ true → (k : ℕ)
    → bit (is_fenced c s k) + bit (s.core i == k)
    ≡ bit (is_fenced c (spared s i k2 notes).after k)
spare_leaves c s i k2 notes lt a l is =
    let s2 : Cores = (spared s i k2 notes).after in
    let apart : k2 ≢ s.core i = λ e. true≢false (sym is ∙ ap s.spare e ∙ a.free i lt l) in
    let old : (j : ℕ) → j ≢ i → is_lost (at s.mode i Running j) ≡ false
    → is_lost (s.mode j) ≡ false = λ j ne h. ap is_lost (sym (at_other s.mode i Running j ne))
    ∙ h in
    leaves c s s2 i lt a l
    (at_by (λ b. b ≡ false) s.spare k2 false (s.core i) (λ e. refl) (λ ne. a.free i lt l))
    (λ j hj e h. at_by (λ x. x ≡ s.core i
    → ⊥) s.core i k2 j (λ is2 e2. apart e2)
    (λ ne e2. a.cores j i hj lt ne (old j ne h) l e2) e)
    (λ k ne. elim (cases_eq k k2) [
      | inl e ↦
          let before : is_fenced c s k ≡ false = fenced_not c s k (inl (ap s.spare e ∙ is)) in
          let after : is_fenced c s2 k ≡ false =
          fenced_not c s2 k
          (inr (serves_it s2 k c.cpus i lt (at_same s.core i k2 ∙ sym e)
          (ap is_lost (at_same s.mode i Running)))) in
          after ∙ sym before
      | inr other ↦
          fenced_same c s s2 k (at_other s.spare k2 false k other)
          (serves_same s s2 k c.cpus (λ j hj. elim (cases_eq j i) [
            | inl e ↦
                let new_no : (at s.core i k2 j == k) ≡ false =
                ap (λ z. z == k) (ap (at s.core i k2) e ∙ at_same s.core i k2)
                ∙ ne_eqb k2 k (λ h. other (sym h)) in
                let old_no : (s.core j == k) ≡ false = ap (λ z. s.core z == k) e
                ∙ ne_eqb (s.core i) k (λ h. ne (sym h)) in
                ap (λ b. b && not (is_lost (at s.mode i Running j))) new_no
                ∙ sym (ap (λ b. b && not (is_lost (s.mode j))) old_no)
            | inr n ↦
                ap (λ z. (z == k) && not (is_lost (at s.mode i Running j)))
                (at_other s.core i k2 j n)
                ∙ ap (λ m. (s.core j == k) && not (is_lost m))
                (at_other s.mode i Running j n)
          ]))
    ])

-- a turn that moves no core
pub fenced_alike : (c : Config) (s s2 : Cores) (k : ℕ) → s2.spare k ≡ s.spare k
    → ((j : ℕ) → s2.core j ≡ s.core j) → ((j : ℕ) → is_lost (s2.mode j) ≡ is_lost (s.mode j))
    → is_fenced c s2 k ≡ is_fenced c s k
fenced_alike c s s2 k a b d =
    fenced_same c s s2 k a
    (serves_same s s2 k c.cpus (λ j hj. ap (λ z. (z == k) && not (is_lost (s2.mode j))) (b j)
    ∙ ap (λ z. (s.core j == k) && not z) (d j)))

pub mode_alike : (s : Cores) (i : ℕ) (m : Mode) → is_lost (s.mode i) ≡ false → is_lost m ≡ false
    → (j : ℕ) → is_lost (at s.mode i m j) ≡ is_lost (s.mode j)
mode_alike s i m a b j =
    at_by (λ x. is_lost x ≡ is_lost (s.mode j)) s.mode i m j (λ e. b
    ∙ sym (ap (λ z. is_lost (s.mode z)) e ∙ a)) (λ ne. refl)
