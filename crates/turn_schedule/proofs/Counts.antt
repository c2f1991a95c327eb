-- Counts, clipped and as they are.
use Rattle.std.proofs.Common.{◌≡◌, ℕ, ◌+◌, ◌≤◌, ◌<◌, eqb, Bool, true, false, List, ◌⊎◌, inl, inr, Option, Some, None, min, sym, ◌∙◌, ap, refl, arith}
use Rattle.std.specs.Prelude.{option_map, if◌then◌else◌, ◌==◌, nat_le, nat_lt}
use Rattle.std.specs.Str.Parse.{digits_value}
use Rattle.std.proofs.lemmas.Bool.Decides.{nat_tests}
use Rattle.run_model.specs.Numbers.{is_decimal, number, number_up_to}
use Rattle.run_model.specs.Schedule.{from_one, count, judged}
use Rattle.run_model.specs.declared.schedules.Run.{Run}
use Rattle.turn_schedule.specs.Clipped.{clipped, clipped_if}

cases_bool : (b : Bool) → (b ≡ true) ⊎ (b ≡ false)
cases_bool true = inl refl
cases_bool false = inr refl

-- what a count says up to a million
abbrev pub clipped_count : List ℕ → Option ℕ
clipped_count t = option_map clipped (count t)

pub no_count : (t : List ℕ) → is_decimal t ≡ false → clipped_count t ≡ None
unfolding count number
no_count t h = rw h refl

-- a count by what is read of it up to a million
abbrev pub counted : Option ℕ → Option ℕ
counted None = Some 1000001
counted (Some n) = if n == 0 then None else Some n

count_is : (t : List ℕ) → is_decimal t ≡ true → count t ≡ from_one (Some (digits_value 10 t))
unfolding count number
count_is t h = rw h refl

small : (v : ℕ) → v ≤ 1000000 → option_map clipped (from_one (Some v)) ≡ counted (Some v)
small v le = elim (cases_bool (eqb v 0)) [
  | inl z ↦ rw z refl
  | inr s ↦ let m : min v 1000001 ≡ v = omega arith in rw s (ap (λ x. Some x) m)
]

great : (v : ℕ) → 1000000 < v → option_map clipped (from_one (Some v)) ≡ Some 1000001
great v lt =
    let z : eqb v 0 ≡ false = grind (arith, nat_tests) in
    let m : min v 1000001 ≡ 1000001 = omega arith in
    rw z (ap (λ x. Some x) m)

pub count_read :
    (t : List ℕ) (r : Option ℕ) → is_decimal t ≡ true → r ≡ number_up_to 1000000 t
    → clipped_count t ≡ counted r
unfolding number_up_to
count_read t r h e = elim (cases_bool (nat_le (digits_value 10 t) 1000000)) [
  | inl y ↦
      let le : digits_value 10 t ≤ 1000000 = grind (arith, nat_tests) in
      let q : number_up_to 1000000 t ≡ Some (digits_value 10 t) = rw (h, y) refl in
      ap (option_map clipped) (count_is t h) ∙ small (digits_value 10 t) le
      ∙ ap counted (sym (e ∙ q))
  | inr n ↦
      let lt : 1000000 < digits_value 10 t = grind (arith, nat_tests) in
      let q : number_up_to 1000000 t ≡ None = rw (h, n) refl in
      ap (option_map clipped) (count_is t h) ∙ great (digits_value 10 t) lt
      ∙ ap counted (sym (e ∙ q))
]

pub judged_clipped :
    (cpus number so_far : ℕ) (r : Option Run)
    → judged cpus number so_far (clipped_if r) ≡ judged cpus number so_far r
judged_clipped cpus number so_far None = refl
judged_clipped cpus number so_far (Some r) = elim (cases_bool (nat_le r.count 1000000)) [
  | inl y ↦
      let le : r.count ≤ 1000000 = grind (arith, nat_tests) in
      let m : min r.count 1000001 ≡ r.count = omega arith in
      ap (λ x. judged cpus number so_far (Some (record r { count = x }))) m
  | inr n ↦
      let lt : 1000000 < r.count = grind (arith, nat_tests) in
      let a : nat_lt 1000000 (so_far + min r.count 1000001) ≡ true = grind (arith, nat_tests) in
      let b : nat_lt 1000000 (so_far + r.count) ≡ true = grind (arith, nat_tests) in
      rw (a, b) refl
]
