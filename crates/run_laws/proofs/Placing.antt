-- In a lawful log no core is with two CPUs, and none is both with a CPU and on hand.
use Rattle.std.proofs.Common.{◌≡◌, ℕ, ◌+◌, ◌<◌, ◌≤◌, Bool, true, false, List, [], ◌∷◌, ◌++◌, refl, sym, ap, ◌∙◌, arith, eqb-true}
use Rattle.std.specs.Prelude.{◌==◌, ◌&&◌, ◌||◌, not, nat_lt, nat_le}
use Rattle.std.proofs.lemmas.Bool.{false≢true, ltb-true, leb-true, false_from_ne_true}
use Rattle.run_model.specs.declared.logs.What.{What}
use Rattle.run_model.specs.declared.logs.What.TheVariants as what
use Rattle.run_model.specs.declared.logs.Entry.{Entry}
use Rattle.run_model.specs.declared.logs.Config.{Config}
use Rattle.esa_model.specs.Machine.{at}
use Rattle.run_model.specs.Script.{core_no}
use Rattle.run_model.specs.Cores.{lowest, is_spare_number}
use Rattle.run_model.specs.Sorts.{is_returned, is_fence, is_uncorrectable, is_spared_to}
use Rattle.run_model.specs.Lawful.{fence_by, fence, core_by, core_at, back, gone, fences, bit, on_hand, after_fence, allows, is_none, is_some_of, has_stop, in_turn, retried_in_vain, mine, fenced_ok, spared_ok, returned_ok, Meets, AllMeet, OnePlace}
use Rattle.run_model.specs.Since.{pushed}
use Rattle.run_laws.proofs.Standing.{and_l, and_r, lowest_is}
use Rattle.run_laws.proofs.Placed.{Placed, keeps, is_none_of, is_some_is, fences_one, spares_one, returns_one}

-- ---- one entry
pub record Somewhere (c : Config) (past : List Entry) : Type 0 where
  pub h : ℕ → Bool
  pub f : ℕ → Bool
  pub placed : Placed c past h f

hand_true : (c : Config) (past : List Entry) (h f : ℕ → Bool) (k : ℕ) → Placed c past h f
    → on_hand c past k ≡ true → h k ≡ true
hand_true c past h f k p e = by_bit (h k) (p.spares k)
  where
    by_bit : (b : Bool) → back k past + bit (is_spare_number c k) ≡ gone k past + bit b → b ≡ true
    by_bit true q = refl
    by_bit false q = let lt =
        ltb-true (gone k past) (back k past + bit (is_spare_number c k)) e in
        absurd (omega (arith, lt, q))

fenced_true : (c : Config) (past : List Entry) (h f : ℕ → Bool) (k : ℕ) → Placed c past h f
    → nat_lt (back k past) (fences k past) ≡ true → f k ≡ true
fenced_true c past h f k p e = by_bit (f k) (p.fenced k)
  where
    by_bit : (b : Bool) → fences k past ≡ back k past + bit b → b ≡ true
    by_bit true q = refl
    by_bit false q = let lt = ltb-true (back k past) (fences k past) e in
        absurd (omega (arith, lt, q))

fenced_at : (c : Config) (past : List Entry) (e : Entry) → e.what ≡ what.Fenced
    → fenced_ok c past e.turn e.cpu.0 e.what ≡ true
    → (is_none (fence e.cpu.0 past)
    && (in_turn e.turn is_uncorrectable past || retried_in_vain c.threshold (mine e.cpu.0 past)))
    ≡ true
fenced_at c past e is m = sym (ap (fenced_ok c past e.turn e.cpu.0) is) ∙ m

spared_at : (c : Config) (past : List Entry) (e : Entry) (k : ℕ)
    → e.what ≡ what.Spared (core_no k) → spared_ok c past e.turn e.what ≡ true
    → (after_fence e.turn past && is_some_of k (lowest (on_hand c past) 0 16)) ≡ true
spared_at c past e k is m = sym (ap (spared_ok c past e.turn) is) ∙ m

returned_at : (past : List Entry) (e : Entry) → e.what ≡ what.Returned
    → returned_ok past e.core.0 e.what ≡ true
    → nat_lt (back e.core.0 past) (fences e.core.0 past) ≡ true
returned_at past e is m = sym (ap (returned_ok past e.core.0) is) ∙ m

place : (c : Config) (last : ℕ) (past : List Entry) (e : Entry) (w : What) → e.what ≡ w
    → Meets c last past e → Somewhere c past → Somewhere c (e ∷ past)
place c last past e (what.Fail why n) is m s =
    record {
      h = s.h;
      f = s.f;
      placed =
          keeps c past s.h s.f e (ap is_returned is) (ap is_fence is)
          (λ k. ap (is_spared_to k) is) (λ o. ap (λ w. fence_by w e.turn o) is)
          (λ k. ap (λ w. core_by w k) is) s.placed;
    }
place c last past e (what.Retry r) is m s =
    record {
      h = s.h;
      f = s.f;
      placed =
          keeps c past s.h s.f e (ap is_returned is) (ap is_fence is)
          (λ k. ap (is_spared_to k) is) (λ o. ap (λ w. fence_by w e.turn o) is)
          (λ k. ap (λ w. core_by w k) is) s.placed;
    }
place c last past e (what.Corrected v b) is m s =
    record {
      h = s.h;
      f = s.f;
      placed =
          keeps c past s.h s.f e (ap is_returned is) (ap is_fence is)
          (λ k. ap (is_spared_to k) is) (λ o. ap (λ w. fence_by w e.turn o) is)
          (λ k. ap (λ w. core_by w k) is) s.placed;
    }
place c last past e (what.Uncorrectable v) is m s =
    record {
      h = s.h;
      f = s.f;
      placed =
          keeps c past s.h s.f e (ap is_returned is) (ap is_fence is)
          (λ k. ap (is_spared_to k) is) (λ o. ap (λ w. fence_by w e.turn o) is)
          (λ k. ap (λ w. core_by w k) is) s.placed;
    }
place c last past e what.NoSpare is m s =
    record {
      h = s.h;
      f = s.f;
      placed =
          keeps c past s.h s.f e (ap is_returned is) (ap is_fence is)
          (λ k. ap (is_spared_to k) is) (λ o. ap (λ w. fence_by w e.turn o) is)
          (λ k. ap (λ w. core_by w k) is) s.placed;
    }
place c last past e what.Stop is m s =
    record {
      h = s.h;
      f = s.f;
      placed =
          keeps c past s.h s.f e (ap is_returned is) (ap is_fence is)
          (λ k. ap (is_spared_to k) is) (λ o. ap (λ w. fence_by w e.turn o) is)
          (λ k. ap (λ w. core_by w k) is) s.placed;
    }
place c last past e what.Fenced is m s =
    let rest :
    (nat_lt e.cpu.0 c.cpus
    && (not (has_stop e.cpu.0 past)
    && (allows e.turn (fence e.cpu.0 past) && (core_at e.cpu.0 past == e.core.0))))
    ≡ true =
    sym (ap (λ w. is_returned w
    || (nat_lt e.cpu.0 c.cpus
    && (not (has_stop e.cpu.0 past)
    && (allows e.turn (fence e.cpu.0 past) && (core_at e.cpu.0 past == e.core.0)))))
    is) ∙ m.core in
    let lt = ltb-true e.cpu.0 c.cpus (and_l (nat_lt e.cpu.0 c.cpus) _ rest) in
    let own =
    eqb-true (core_at e.cpu.0 past) e.core.0
    (and_r (allows e.turn (fence e.cpu.0 past)) _
    (and_r (not (has_stop e.cpu.0 past)) _ (and_r (nat_lt e.cpu.0 c.cpus) _ rest))) in
    let unfenced =
    is_none_of (fence e.cpu.0 past)
    (and_l (is_none (fence e.cpu.0 past))
    (in_turn e.turn is_uncorrectable past
    || retried_in_vain c.threshold (mine e.cpu.0 past))
    (fenced_at c past e is m.fenced)) in
    record {
      h = s.h;
      f = at s.f e.core.0 true;
      placed = fences_one c past s.h s.f e is lt unfenced own s.placed;
    }
place c last past e (what.Spared k) is m s =
    let low =
    is_some_is k.0 (lowest (on_hand c past) 0 16)
    (and_r (after_fence e.turn past) _ (spared_at c past e k.0 is m.spared)) in
    record {
      h = at s.h k.0 false;
      f = s.f;
      placed =
          spares_one c past s.h s.f e k.0 is
          (hand_true c past s.h s.f k.0 s.placed (lowest_is (on_hand c past) 0 16 k.0 low))
          s.placed;
    }
place c last past e what.Returned is m s =
    record {
      h = at s.h e.core.0 true;
      f = at s.f e.core.0 false;
      placed =
          returns_one c past s.h s.f e is
          (fenced_true c past s.h s.f e.core.0 s.placed (returned_at past e is m.returned))
          s.placed;
    }

pub placed_all : (c : Config) (last : ℕ) (past es : List Entry) → AllMeet c last past es
    → Somewhere c past → Somewhere c (pushed es past)
placed_all c last past [] m s = s
placed_all c last past (e ∷ es) m s =
    placed_all c last (e ∷ past) es m.1 (place c last past e e.what refl m.0 s)

low_not_spare : (c : Config) (i : ℕ) (b : Bool) → nat_le 8 i ≡ b → i < 8
    → (b && nat_lt i (8 + c.spares)) ≡ false
low_not_spare c i true e lt = absurd (omega (arith, leb-true 8 i e))
low_not_spare c i false e lt = refl

pub placed_first : (c : Config) → c.cpus ≤ 8 → Somewhere c []
placed_first c few =
    record {
      h = is_spare_number c;
      f = λ k. false;
      placed =
          record {
            spares = λ k. refl;
            fenced = λ k. refl;
            apart = λ i j hi hj ne fi fj e. ne e;
            free = λ i hi fi.
                (low_not_spare c i (nat_le 8 i) refl (omega (arith, hi, few)), refl);
            one = λ k e. refl;
          };
    }

-- after all entries of a lawful log: no core is with two CPUs, and none is both with a CPU and on
-- hand
not_hand : (c : Config) (past : List Entry) (h f : ℕ → Bool) (k : ℕ) → Placed c past h f
    → h k ≡ false → on_hand c past k ≡ false
not_hand c past h f k p e =
    false_from_ne_true (on_hand c past k) (λ y. false≢true (sym e ∙ hand_true c past h f k p y))

all_before : (c : Config) (last : ℕ) (past es more : List Entry)
    → AllMeet c last past (es ++ more) → AllMeet c last past es
all_before c last past [] more m = tt
all_before c last past (e ∷ es) more m = (m.0, all_before c last (e ∷ past) es more m.1)

pub one_place : (c : Config) (last : ℕ) (es more : List Entry) → c.cpus ≤ 8
    → AllMeet c last [] (es ++ more) → OnePlace c (pushed es [])
one_place c last es more few m =
    let s = placed_all c last [] es (all_before c last [] es more m) (placed_first c few) in
    record {
      apart = s.placed.apart;
      free = λ i hi fi.
          not_hand c (pushed es []) s.h s.f (core_at i (pushed es [])) s.placed
          (s.placed.free i hi fi).0;
    }

-- no core is taken oftener than it was on hand
pub taken_most : (c : Config) (last : ℕ) (es : List Entry) (k : ℕ) → c.cpus ≤ 8
    → AllMeet c last [] es
    → gone k (pushed es []) ≤ back k (pushed es []) + bit (is_spare_number c k)
taken_most c last es k few m = let s = placed_all c last [] es m (placed_first c few) in
    let e = s.placed.spares k in omega (arith, e)
