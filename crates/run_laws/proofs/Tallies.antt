-- Retries and failures since the last commit or transfer: what one turn more makes of their
-- numbers.
use Rattle.std.proofs.Common.{◌≡◌, ◌≢◌, ℕ, ◌+◌, ◌≤◌, Bool, true, false, List, [], ◌∷◌, ◌++◌, Option, refl, sym, ap, ◌∙◌, subst, arith, if◌then◌else◌, eq-eqb}
use Rattle.std.specs.Prelude.{⊤, ◌==◌, ◌&&◌, ◌||◌}
use Rattle.std.specs.List.{list_any}
use Rattle.std.proofs.lemmas.Bool.{ne_eqb}
use Rattle.run_model.specs.declared.faults.Mode.{Mode}
use Rattle.run_model.specs.declared.faults.Mode.TheVariants.{Running, Recovering, Lost}
use Rattle.run_model.specs.declared.faults.Note.{Note}
use Rattle.run_model.specs.declared.logs.What.{What}
use Rattle.run_model.specs.declared.logs.What.TheVariants as what
use Rattle.run_model.specs.declared.logs.Entry.{Entry}
use Rattle.esa_model.specs.declared.machine.Event.{Event}
use Rattle.run_model.specs.Cores.{Outline, entries_of, is_lost, stamped}
use Rattle.run_model.specs.Sorts.{how_many, is_fail, is_retry, is_spared, of_cpu, of_core}
use Rattle.run_model.specs.Since.{commits_of, clears, since}

-- what the entries say of a CPU with this mode, core and retries, at threshold t
abbrev pub fails_by : Mode → ℕ → ℕ → Type 0
fails_by Running n r = n ≡ r
fails_by Recovering n r = n ≡ r + 1
fails_by Lost n r = ⊤

pub record Tally (t : ℕ) (mode : Mode) (core r : ℕ) (os : List Outline) (i : ℕ) : Type 0 where
  pub most : r ≤ t
  pub retried : is_lost mode ≡ false → since i (of_cpu i is_retry) os ≡ r
  pub at_most : since i (of_cpu i is_retry) os ≤ t
  pub failed : fails_by mode (since i (of_core i core is_fail) os) r

-- ---- entries of one turn
pub and_no : (b : Bool) → (b && false) ≡ false
and_no true = refl
and_no false = refl

plus_none : (n : ℕ) → n ≡ 0 → 0 + n ≡ 0
plus_none n e = omega (arith, e)

plus_same : (n m : ℕ) → n ≡ m → 0 + n ≡ m
plus_same n m e = omega (arith, e)

any_mine : (p : What → Bool) (t i k : ℕ) (ws : List What)
    → list_any (of_cpu i p) (stamped t i k ws) ≡ list_any p ws
any_mine p t i k [] = refl
any_mine p t i k (w ∷ ws) = rw (eq-eqb i i refl) (ap (λ z. p w || z) (any_mine p t i k ws))

any_other : (p : What → Bool) (t i j k : ℕ) (ws : List What) → j ≢ i
    → list_any (of_cpu i p) (stamped t j k ws) ≡ false
any_other p t i j k [] ne = refl
any_other p t i j k (w ∷ ws) ne = let no : (j == i) ≡ false = ne_eqb j i ne in
    rw no (any_other p t i j k ws ne)

count_mine : (p : What → Bool) (t i k : ℕ) (ws : List What)
    → how_many (of_cpu i p) (stamped t i k ws) ≡ how_many p ws
count_mine p t i k [] = refl
count_mine p t i k (w ∷ ws) =
    ap (λ b. (if b && p w then 1 else 0) + how_many (of_cpu i p) (stamped t i k ws))
    (eq-eqb i i refl) ∙ ap (λ z. (if p w then 1 else 0) + z) (count_mine p t i k ws)

count_other : (p : What → Bool) (t i j k : ℕ) (ws : List What) → j ≢ i
    → how_many (of_cpu i p) (stamped t j k ws) ≡ 0
count_other p t i j k [] ne = refl
count_other p t i j k (w ∷ ws) ne =
    ap (λ b. (if b && p w then 1 else 0) + how_many (of_cpu i p) (stamped t j k ws))
    (ne_eqb j i ne)
    ∙ plus_none (how_many (of_cpu i p) (stamped t j k ws)) (count_other p t i j k ws ne)

core_mine : (p : What → Bool) (t i k : ℕ) (ws : List What)
    → how_many (of_core i k p) (stamped t i k ws) ≡ how_many p ws
core_mine p t i k [] = refl
core_mine p t i k (w ∷ ws) =
    ap (λ b.
    (if b && ((k == k) && p w) then 1 else 0) + how_many (of_core i k p) (stamped t i k ws))
    (eq-eqb i i refl)
    ∙ ap (λ b.
    (if b && p w then 1 else 0) + how_many (of_core i k p) (stamped t i k ws))
    (eq-eqb k k refl)
    ∙ ap (λ z. (if p w then 1 else 0) + z) (core_mine p t i k ws)

core_other : (p : What → Bool) (t i j k c : ℕ) (ws : List What) → j ≢ i
    → how_many (of_core i c p) (stamped t j k ws) ≡ 0
core_other p t i j k c [] ne = refl
core_other p t i j k c (w ∷ ws) ne =
    ap (λ b.
    (if b && ((k == c) && p w) then 1 else 0) + how_many (of_core i c p) (stamped t j k ws))
    (ne_eqb j i ne)
    ∙ plus_none (how_many (of_core i c p) (stamped t j k ws))
    (core_other p t i j k c ws ne)

-- corrected words count for nothing
pub any_notes : (p : What → Bool) → ((w b : ℕ) → p (what.Corrected w b) ≡ false)
    → (notes : List Note) (ws : List What) → list_any p (entries_of notes ++ ws) ≡ list_any p ws
any_notes p free [] ws = refl
any_notes p free (n ∷ ns) ws = ap (λ b. b || list_any p (entries_of ns ++ ws)) (free n.word n.bit)
    ∙ any_notes p free ns ws

count_notes : (p : What → Bool) → ((w b : ℕ) → p (what.Corrected w b) ≡ false)
    → (notes : List Note) (ws : List What) → how_many p (entries_of notes ++ ws) ≡ how_many p ws
count_notes p free [] ws = refl
count_notes p free (n ∷ ns) ws =
    ap (λ b. (if b then 1 else 0) + how_many p (entries_of ns ++ ws)) (free n.word n.bit)
    ∙ plus_same (how_many p (entries_of ns ++ ws)) (how_many p ws) (count_notes p free ns ws)

-- how many retries, failures and transfers a turn's entries name
pub record Sums (ws : List What) (r f : ℕ) (b : Bool) : Type 0 where
  pub retries : how_many is_retry ws ≡ r
  pub fails : how_many is_fail ws ≡ f
  pub transfers : list_any is_spared ws ≡ b

pub sums_notes : (notes : List Note) (ws : List What) (r f : ℕ) (b : Bool) → Sums ws r f b
    → Sums (entries_of notes ++ ws) r f b
sums_notes notes ws r f b s = record {
  retries = count_notes is_retry (λ w k. refl) notes ws ∙ s.retries;
  fails = count_notes is_fail (λ w k. refl) notes ws ∙ s.fails;
  transfers = any_notes is_spared (λ w k. refl) notes ws ∙ s.transfers;
}

-- ---- one outline more
since_kept : (i : ℕ) (p : Entry → Bool) (o : Outline) (os : List Outline) → clears i o ≡ false
    → since i p (o ∷ os) ≡ how_many p o.entries + since i p os
since_kept i p o os e = rw e refl

since_cleared : (i : ℕ) (p : Entry → Bool) (o : Outline) (os : List Outline) → clears i o ≡ true
    → since i p (o ∷ os) ≡ 0
since_cleared i p o os e = rw e refl

abbrev pub outline : ℕ → ℕ → ℕ → List What → Option Event → Outline
outline t i k ws e = record { entries = stamped t i k ws; event = e }

clears_mine : (t i k : ℕ) (ws : List What) (e : Option Event) (a b : Bool) → commits_of i e ≡ a
    → list_any is_spared ws ≡ b → clears i (outline t i k ws e) ≡ (a || b)
clears_mine t i k ws e a b p q = rw (p, any_mine is_spared t i k ws, q) refl

clears_other : (t i j k : ℕ) (ws : List What) (e : Option Event) → j ≢ i → commits_of i e ≡ false
    → clears i (outline t j k ws e) ≡ false
clears_other t i j k ws e ne p = rw (p, any_other is_spared t i j k ws ne) refl

-- a turn of this CPU that neither commits nor transfers
pub goes : (t : ℕ) (mode after : Mode) (k r r2 turn i a f : ℕ) (ws : List What) (e : Option Event)
    (os : List Outline) → commits_of i e ≡ false → Sums ws a f false → is_lost mode ≡ false
    → Tally t mode k r os i
    → r2 ≡ a + r → r2 ≤ t
    → (fails_by mode (since i (of_core i k is_fail) os) r
    → fails_by after (f + since i (of_core i k is_fail) os) r2)
    → Tally t after k r2 (outline turn i k ws e ∷ os) i
goes t mode after k r r2 turn i a f ws e os p s l y e2 le more =
    let no : clears i (outline turn i k ws e) ≡ false =
    clears_mine turn i k ws e false false p s.transfers in
    let retries : since i (of_cpu i is_retry) (outline turn i k ws e ∷ os)
    ≡ how_many (of_cpu i is_retry) (stamped turn i k ws) + since i (of_cpu i is_retry) os =
    since_kept i (of_cpu i is_retry) (outline turn i k ws e) os no in
    let mine : how_many (of_cpu i is_retry) (stamped turn i k ws) ≡ a =
    count_mine is_retry turn i k ws ∙ s.retries in
    let fails : since i (of_core i k is_fail) (outline turn i k ws e ∷ os)
    ≡ f + since i (of_core i k is_fail) os =
    since_kept i (of_core i k is_fail) (outline turn i k ws e) os no
    ∙ ap (λ z. z + since i (of_core i k is_fail) os) (core_mine is_fail turn i k ws
    ∙ s.fails) in
    record {
      most = le;
      retried = λ h. omega (arith, retries, mine, y.retried l, e2);
      at_most = omega (arith, retries, mine, y.retried l, e2, le);
      failed = subst (λ n. fails_by after n r2) (sym fails) (more y.failed);
    }

-- and one that does
pub cleared : (t : ℕ) (k k2 turn i : ℕ) (ws : List What) (e : Option Event) (os : List Outline)
    (a b : Bool) → commits_of i e ≡ a → list_any is_spared ws ≡ b → (a || b) ≡ true
    → Tally t Running k2 0 (outline turn i k ws e ∷ os) i
cleared t k k2 turn i ws e os a b p q one =
    let c : clears i (outline turn i k ws e) ≡ true = clears_mine turn i k ws e a b p q ∙ one in
    record {
      most = omega arith;
      retried = λ h. since_cleared i (of_cpu i is_retry) (outline turn i k ws e) os c;
      at_most = omega (arith, since_cleared i (of_cpu i is_retry) (outline turn i k ws e) os c);
      failed = since_cleared i (of_core i k2 is_fail) (outline turn i k ws e) os c;
    }

-- a turn in whose entries this CPU has no part
pub quiet : (t : ℕ) (mode : Mode) (core r i : ℕ) (o : Outline) (os : List Outline)
    → clears i o ≡ false → how_many (of_cpu i is_retry) o.entries ≡ 0
    → how_many (of_core i core is_fail) o.entries ≡ 0 → Tally t mode core r os i
    → Tally t mode core r (o ∷ os) i
quiet t mode core r i o os none a b y =
    let same : since i (of_cpu i is_retry) (o ∷ os) ≡ since i (of_cpu i is_retry) os =
    omega (arith, since_kept i (of_cpu i is_retry) o os none, a) in
    let same_fails : since i (of_core i core is_fail) os
    ≡ since i (of_core i core is_fail) (o ∷ os) =
    omega (arith, since_kept i (of_core i core is_fail) o os none, b) in
    record {
      most = y.most;
      retried = λ h. same ∙ y.retried h;
      at_most = omega (arith, same, y.at_most);
      failed = subst (λ n. fails_by mode n r) same_fails y.failed;
    }

pub other : (t : ℕ) (mode : Mode) (core r turn i j k : ℕ) (ws : List What) (e : Option Event)
    (os : List Outline) → j ≢ i → commits_of i e ≡ false → Tally t mode core r os i
    → Tally t mode core r (outline turn j k ws e ∷ os) i
other t mode core r turn i j k ws e os ne p y =
    quiet t mode core r i (outline turn j k ws e) os (clears_other turn i j k ws e ne p)
    (count_other is_retry turn i j k ws ne) (core_other is_fail turn i j k core ws ne) y

pub moved : (t : ℕ) (m m2 : Mode) (k k2 r r2 : ℕ) (os : List Outline) (i : ℕ) → m2 ≡ m → k2 ≡ k
    → r2 ≡ r → Tally t m k r os i → Tally t m2 k2 r2 os i
moved t m m2 k k2 r r2 os i a b d y =
    subst (λ z. Tally t z k2 r2 os i) (sym a)
    (subst (λ z. Tally t m z r2 os i) (sym b) (subst (λ z. Tally t m k z os i) (sym d) y))

pub sums_fenced : (ws : List What) (r f : ℕ) (b : Bool) → Sums ws r f b
    → Sums (what.Fenced ∷ ws) r f b
sums_fenced ws r f b s =
    record {
      retries = plus_same (how_many is_retry ws) r s.retries;
      fails = plus_same (how_many is_fail ws) f s.fails;
      transfers = s.transfers;
    }
