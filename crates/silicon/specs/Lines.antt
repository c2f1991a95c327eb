-- The strikes of a script and where its attempts stand, where there is one. Source: choice of this project.
use Rattle.std.specs.Prelude.{ℕ, ◌<◌, ⊤, List, [], ◌∷◌, Option, Some, None, slice_index}
use Rattle.std.specs.Coded.{×_prop, Unit-prop, le_prop, Coded-set, coded_bool, coded_ℕ}
use Rattle.run_model.specs.Script.{CountInRange, InRange, AllInRange, OnceEach, InForm}
use Rattle.run_model.specs.declared.faults.Strike.{Strike}
use Rattle.run_model.specs.declared.faults.Strike.TheVariants.{Packet, Fetch, Store, Word}
use Rattle.fault_script.specs.Walk.{IsAt}
use Rattle.fault_script.specs.Walks.{IsOn}
use Rattle.fault_script.specs.declared.core_walks.CoreWalk.{CoreWalk}
use Rattle.fault_script.specs.declared.walking.Walk.{Walk}

abbrev pub lines_of : Option Walk → List Strike
lines_of None = []
lines_of (Some walk) = walk.ordered

-- so many attempts of a core were begun
abbrev pub IsWalked : Option Walk → ℕ → ℕ → Type 0
IsWalked None core begun = ⊤
IsWalked (Some walk) core begun = IsOn walk core begun

-- the same of each core, as a list has them
abbrev pub Follow : Option Walk → List ℕ → Type 0
Follow walk begun = (core : ℕ) → core < 16 → IsWalked walk core (slice_index begun core)

-- ---- that strikes are in form has at most one proof

three_prop : {A B C : Type 0} → IsProp A → IsProp B → IsProp C → IsProp (A × B × C)
three_prop h k l u v = λ i. (h u.0 v.0 i, k u.1 v.1 i, l u.2 v.2 i)

four_prop : {A B C D : Type 0} → IsProp A → IsProp B → IsProp C → IsProp D
    → IsProp (A × B × C × D)
four_prop h k l m u v = λ i. (h u.0 v.0 i, k u.1 v.1 i, l u.2 v.2 i, m u.3 v.3 i)

count_prop : (count : Option ℕ) → IsProp (CountInRange count)
count_prop None = Unit-prop
count_prop (Some count) = ×_prop le_prop le_prop

range_prop : (s : Strike) → IsProp (InRange s)
range_prop (Packet core first unit bit count) =
    four_prop le_prop le_prop le_prop (count_prop count)
range_prop (Fetch core first bit) = three_prop le_prop le_prop le_prop
range_prop (Store core first bit) = three_prop le_prop le_prop le_prop
range_prop (Word core first word bit) = four_prop le_prop le_prop le_prop le_prop

ranges_prop : (ls : List Strike) → IsProp (AllInRange ls)
ranges_prop [] = Unit-prop
ranges_prop (s ∷ ss) = ×_prop (range_prop s) (ranges_prop ss)

once_prop : (ls : List Strike) → IsProp (OnceEach ls)
once_prop [] = Unit-prop
once_prop (s ∷ ss) = ×_prop (Coded-set coded_bool _ _) (once_prop ss)

pub form_prop : (ls : List Strike) → IsProp (InForm ls)
form_prop ls u v = λ i. record {
  ranges = ranges_prop ls u.ranges v.ranges i;
  latches = once_prop ls u.latches v.latches i;
}

-- ---- and so has where the attempts of cores stand

at_prop : {ls : List Strike} {c n : ℕ} {w : CoreWalk} → IsProp (IsAt ls c n w)
at_prop {w = w} u v = λ i. record {
  low = Coded-set coded_ℕ _ _ u.low v.low i;
  high = Coded-set coded_ℕ _ _ u.high v.high i;
  to_come = Coded-set coded_ℕ _ _ u.to_come v.to_come i;
  ranges = ranges_prop w.live.items u.ranges v.ranges i;
  started = λ k d l. Coded-set coded_bool _ _ (u.started k d l) (v.started k d l) i;
  left = λ k d l. Coded-set coded_bool _ _ (u.left k d l) (v.left k d l) i;
  masks = λ x m k l. Coded-set coded_ℕ _ _ (u.masks x m k l) (v.masks x m k l) i;
  room = le_prop u.room v.room i;
}

on_prop : {walk : Walk} {c n : ℕ} → IsProp (IsOn walk c n)
on_prop u v = λ i. record {
  here = le_prop u.here v.here i;
  at = λ d. at_prop (u.at d) (v.at d) i;
}

walked_prop : (walk : Option Walk) (c n : ℕ) → IsProp (IsWalked walk c n)
walked_prop None c n = Unit-prop
walked_prop (Some walk) c n = on_prop

pub follow_prop : (walk : Option Walk) (begun : List ℕ) → IsProp (Follow walk begun)
follow_prop walk begun u v = λ i c l. walked_prop walk c (slice_index begun c) (u c l) (v c l) i
