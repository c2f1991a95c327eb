-- Each core stands in one place, in every run.
use Rattle.std.proofs.Common.{◌≡◌, ◌≢◌, ℕ, zero, suc, ◌+◌, ◌<◌, ◌≤◌, Bool, true, false, List, [], ◌∷◌, Some, refl, sym, ap, ◌∙◌, subst, arith, if◌then◌else◌, eq-eqb, leb-true, inl, inr}
use Rattle.std.specs.Prelude.{◌==◌, ◌&&◌, ◌||◌, not, nat_lt, nat_le}
use Rattle.std.proofs.lemmas.Bool.{lt-ltb, cases_eq, true≢false, false≢true}
use Rattle.run_model.specs.declared.faults.Mode.{Mode}
use Rattle.run_model.specs.declared.faults.Mode.TheVariants.{Running, Recovering, Lost}
use Rattle.run_model.specs.declared.schedules.RunKind.{RunKind}
use Rattle.run_model.specs.declared.schedules.RunKind.TheVariants as kind
use Rattle.run_model.specs.declared.faults.Note.{Note}
use Rattle.run_model.specs.declared.logs.Config.{Config}
use Rattle.esa_model.specs.Machine.{at}
use Rattle.run_model.specs.Cores.{Cores, Met, Choice, lowest, is_lost, belongs, is_spare_number, serves, is_fenced, counted, stopped, make, return_by, cores_after, does, first_cores}
use Rattle.run_model.specs.Places.{Apart}
use Rattle.run_laws.proofs.At.{at_same, at_other, at_by}
use Rattle.run_laws.proofs.Rows.{Rows, does_by, commit, fail, retry, spared}

-- ---- the two truth values
pub and_l : (a b : Bool) → (a && b) ≡ true → a ≡ true
and_l true b e = refl
and_l false b e = e

pub and_r : (a b : Bool) → (a && b) ≡ true → b ≡ true
and_r true b e = e
and_r false b e = absurd (false≢true e)

pub and_both : (a b : Bool) → a ≡ true → b ≡ true → (a && b) ≡ true
and_both a b p q = rw (p, q) refl

pub not_true : (a : Bool) → not a ≡ true → a ≡ false
not_true true e = sym e
not_true false e = refl

pub or_l : (a b : Bool) → a ≡ true → (a || b) ≡ true
or_l a b e = rw e refl

pub or_r : (a b : Bool) → b ≡ true → (a || b) ≡ true
or_r true b e = refl
or_r false b e = e

-- ---- the lowest of a set is in it
lowest_is_by : (f : ℕ → Bool) (a n k : ℕ) (b : Bool) → f a ≡ b
    → (lowest f (a + 1) n ≡ Some k → f k ≡ true)
    → (if b then Some a else lowest f (a + 1) n) ≡ Some k → f k ≡ true
lowest_is_by f a n k true e ih h = let same : a ≡ k = cc h in subst (λ z. f z ≡ true) same e
lowest_is_by f a n k false e ih h = ih h

pub lowest_is : (f : ℕ → Bool) (a n k : ℕ) → lowest f a n ≡ Some k → f k ≡ true
lowest_is f a zero k h = absurd (cc h)
lowest_is f a (suc n) k h = lowest_is_by f a n k (f a) refl (lowest_is f (a + 1) n k) h

-- ---- a core that a CPU has
pub serves_it : (s : Cores) (k n j : ℕ) → j < n → s.core j ≡ k → is_lost (s.mode j) ≡ false
    → serves s k n ≡ true
serves_it s k zero j lt e l = absurd (omega arith)
serves_it s k (suc n) j lt e l = elim (cases_eq j n) [
  | inl is ↦
      or_l ((s.core n == k) && not (is_lost (s.mode n))) (serves s k n)
      (and_both (s.core n == k) (not (is_lost (s.mode n)))
      (eq-eqb (s.core n) k (ap s.core (sym is) ∙ e))
      (ap not (ap (λ z. is_lost (s.mode z)) (sym is) ∙ l)))
  | inr ne ↦
      or_r ((s.core n == k) && not (is_lost (s.mode n))) (serves s k n)
      (serves_it s k n j (omega (arith, lt, ne)) e l)
]

-- ---- turns that give no core another place
kept : (c : Config) (s s2 : Cores) → s2.core ≡ s.core → s2.spare ≡ s.spare
    → ((j : ℕ) → is_lost (s2.mode j) ≡ false → is_lost (s.mode j) ≡ false) → Apart c s
    → Apart c s2
kept c s s2 cores spares modes a = record {
  cores = λ i j hi hj ne li lj. rw cores (a.cores i j hi hj ne (modes i li) (modes j lj));
  free = λ i hi l. rw (cores, spares) (a.free i hi (modes i l));
  own = λ i hi. rw cores (a.own i hi);
  spares = λ k e. a.spares k (sym (ap (λ f. f k) spares) ∙ e);
}

-- a CPU that goes on
goes_on : (s : Cores) (i : ℕ) (m : Mode) → is_lost (s.mode i) ≡ false → (j : ℕ)
    → is_lost (at s.mode i m j) ≡ false → is_lost (s.mode j) ≡ false
goes_on s i m l j =
    at_by (λ x. is_lost x ≡ false
    → is_lost (s.mode j) ≡ false) s.mode i m j (λ e h. ap (λ z. is_lost (s.mode z)) e ∙ l)
    (λ ne h. h)

-- and one that stops
pub stops : (s : Cores) (i j : ℕ) → is_lost (at s.mode i Lost j) ≡ false
    → is_lost (s.mode j) ≡ false
stops s i j =
    at_by (λ x. is_lost x ≡ false
    → is_lost (s.mode j) ≡ false) s.mode i Lost j (λ e h. absurd (true≢false h)) (λ ne h. h)

running_not_lost : (s : Cores) (i : ℕ) → s.mode i ≡ Running → is_lost (s.mode i) ≡ false
running_not_lost s i e = ap is_lost e

recovering_not_lost : (s : Cores) (i : ℕ) → s.mode i ≡ Recovering → is_lost (s.mode i) ≡ false
recovering_not_lost s i e = ap is_lost e

-- ---- a spare that is taken
taken : (c : Config) (s : Cores) (i k : ℕ) (notes : List Note) → s.mode i ≡ Recovering
    → s.spare k ≡ true → Apart c s → Apart c (spared s i k notes).after
taken c s i k notes m is a =
    let old : (j : ℕ) → is_lost (at s.mode i Running j) ≡ false
    → is_lost (s.mode j) ≡ false = goes_on s i Running (recovering_not_lost s i m) in
    let other : (j : ℕ) → j < c.cpus → is_lost (s.mode j) ≡ false
    → s.core j ≢ k = λ j hj l e. true≢false (sym is ∙ ap s.spare (sym e) ∙ a.free j hj l) in
    record {
      cores = λ j1 j2 h1 h2 ne l1 l2.
          at_by (λ x. x ≢ at s.core i k j2) s.core i k j1
          (λ e1. at_by (λ y. k ≢ y) s.core i k j2 (λ e2. absurd (ne (e1 ∙ sym e2)))
          (λ n2 e. other j2 h2 (old j2 l2) (sym e)))
          (λ n1. at_by (λ y. s.core j1 ≢ y) s.core i k j2 (λ e2 e. other j1 h1 (old j1 l1) e)
          (λ n2. a.cores j1 j2 h1 h2 ne (old j1 l1) (old j2 l2)));
      free = λ j hj l.
          at_by (λ x. at s.spare k false x ≡ false) s.core i k j
          (λ e. at_same s.spare k false)
          (λ ne. at_other s.spare k false (s.core j) (other j hj (old j l))
          ∙ a.free j hj (old j l));
      own = λ j hj.
          at_by (λ x. belongs c x ≡ true) s.core i k j (λ e. a.spares k is) (λ ne. a.own j hj);
      spares =
          λ x. at_by (λ b. b ≡ true
          → belongs c x ≡ true) s.spare k false x (λ e h. absurd (false≢true h))
          (λ ne h. a.spares x h);
    }

apart_rows : (c : Config) (s : Cores) (i : ℕ) (w : Bool) → Apart c s
    → Rows c.threshold s i w (λ d. Apart c d.after)
apart_rows c s i w a = record {
  gone = λ m. a;
  waits = λ m w. a;
  commits = λ m w notes. kept c s (commit s i notes).after refl refl (λ j h. h) a;
  fails = λ m notes why n.
      kept c s (fail s i notes why n).after refl refl
      (goes_on s i Recovering (running_not_lost s i m)) a;
  scrub_lost = λ m notes w. kept c s (stopped s i) refl refl (stops s i) a;
  retries =
      λ m lt notes.
      kept c s (retry s i notes).after refl refl
      (goes_on s i Running (recovering_not_lost s i m)) a;
  retry_lost = λ m lt notes w. kept c s (stopped s i) refl refl (stops s i) a;
  none_left = λ m le none. kept c s (stopped s i) refl refl (stops s i) a;
  transfers = λ m le k is notes. taken c s i k notes m (lowest_is s.spare 0 16 k is) a;
  transfer_lost = λ m le k is notes w. kept c s (stopped s i) refl refl (stops s i) a;
}

-- ---- a core that comes back
pub fenced_parts : (c : Config) (s : Cores) (k : ℕ) → is_fenced c s k ≡ true
    → (belongs c k ≡ true) × (s.spare k ≡ false) × (serves s k c.cpus ≡ false)
unfolding is_fenced
fenced_parts c s k e = (
  and_l (belongs c k) _ e,
  not_true (s.spare k)
      (and_l (not (s.spare k)) (not (serves s k c.cpus)) (and_r (belongs c k) _ e)),
  not_true (serves s k c.cpus)
      (and_r (not (s.spare k)) (not (serves s k c.cpus)) (and_r (belongs c k) _ e)),
)

returned : (c : Config) (s : Cores) (k : ℕ) (b : Bool) → is_fenced c s k ≡ b → Apart c s
    → Apart c (return_by s k b).after
returned c s k false e a = kept c s (counted s) refl refl (λ j h. h) a
returned c s k true e a =
    let parts = fenced_parts c s k e in
    record {
      cores = a.cores;
      free = λ j hj l.
          at_other s.spare k true (s.core j)
          (λ is. true≢false (sym (serves_it s k c.cpus j hj is l) ∙ parts.2)) ∙ a.free j hj l;
      own = a.own;
      spares =
          λ x. at_by (λ b. b ≡ true
          → belongs c x ≡ true) s.spare k true x (λ is h. ap (belongs c) is ∙ parts.0)
          (λ ne h. a.spares x h);
    }

pub apart_make : (c : Config) (s : Cores) (k : RunKind) (x : Met) → Apart c s
    → Apart c (make c s k x).after
apart_make c s (kind.Turns i) x a =
    kept c (does c.threshold s i.0 x).after (counted (does c.threshold s i.0 x).after) refl refl
    (λ j h. h)
    (does_by c.threshold s i.0 x (λ d. Apart c d.after) (apart_rows c s i.0 x.waits a))
apart_make c s (kind.Key i) x a = kept c s (counted s) refl refl (λ j h. h) a
apart_make c s (kind.Return k) x a = returned c s k.0 (is_fenced c s k.0) refl a

pub apart_run : (c : Config) (s : Cores) (xs : List Choice) → Apart c s
    → Apart c (cores_after c s xs)
apart_run c s [] a = a
apart_run c s (x ∷ xs) a =
    apart_run c (make c s x.kind x.met).after xs (apart_make c s x.kind x.met a)

-- ---- the start
not_spare : (c : Config) (i : ℕ) (b : Bool) → nat_le 8 i ≡ b → i < 8
    → (b && nat_lt i (8 + c.spares)) ≡ false
not_spare c i true e lt = absurd (omega (arith, leb-true 8 i e))
not_spare c i false e lt = refl

pub apart_first : (c : Config) → c.cpus ≤ 8 → Apart c (first_cores c)
apart_first c few = record {
  cores = λ i j hi hj ne li lj e. ne e;
  free = λ i hi l. not_spare c i (nat_le 8 i) refl (omega (arith, hi, few));
  own = λ i hi. or_l (nat_lt i c.cpus) (is_spare_number c i) (lt-ltb i c.cpus hi);
  spares = λ k e. or_r (nat_lt k c.cpus) (is_spare_number c k) e;
}
