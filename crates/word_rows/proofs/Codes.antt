-- The condition code of each value of words is below 5.
use Rattle.std.proofs.Common.{ℕ, ◌<◌, Bool, true, false, List, [], ◌∷◌, arith}
use Rattle.std.specs.Prelude.{◌==◌, if◌then◌else◌}
use Rattle.esa_model.specs.declared.machine.Value.{Value}
use Rattle.esa_model.specs.WordRows.{look, rr_rows, half_rows, shift_rows, rr_row, half_row, shift_row, test_code, load_positive_row, load_negative_row, load_and_test_row, load_complement_row, and_row, or_row, exclusive_or_row, compare_logical_row, load_row, compare_row, add_row, subtract_row, multiply_row, multiply_single_row, divide_row, add_logical_row, subtract_logical_row, load_half_row, compare_half_row, add_half_row, subtract_half_row, multiply_half_row, test_high_row, test_low_row, shift_right_logical_row, shift_left_logical_row, shift_right_row, shift_left_row, shift_right_double_logical_row, shift_left_double_logical_row, shift_right_double_row, shift_left_double_row}

either : (b : Bool) (m n : ℕ) → m < 5 → n < 5 → (if b then m else n) < 5
either true m n h g = h
either false m n h g = g

load_positive_small : (b : ℕ) → (load_positive_row b).cc < 5
unfolding load_positive_row
load_positive_small b = grind arith

load_negative_small : (b : ℕ) → (load_negative_row b).cc < 5
unfolding load_negative_row
load_negative_small b = grind arith

load_and_test_small : (b : ℕ) → (load_and_test_row b).cc < 5
unfolding load_and_test_row
load_and_test_small b = grind arith

load_complement_small : (b : ℕ) → (load_complement_row b).cc < 5
unfolding load_complement_row
load_complement_small b = grind arith

and_small : (a b : ℕ) → (and_row a b).cc < 5
unfolding and_row
and_small a b = grind arith

or_small : (a b : ℕ) → (or_row a b).cc < 5
unfolding or_row
or_small a b = grind arith

exclusive_or_small : (a b : ℕ) → (exclusive_or_row a b).cc < 5
unfolding exclusive_or_row
exclusive_or_small a b = grind arith

compare_logical_small : (a b : ℕ) → (compare_logical_row a b).cc < 5
unfolding compare_logical_row
compare_logical_small a b = grind arith

load_small : (b : ℕ) → (load_row b).cc < 5
unfolding load_row
load_small b = grind arith

compare_small : (a b : ℕ) → (compare_row a b).cc < 5
unfolding compare_row
compare_small a b = grind arith

add_small : (a b : ℕ) → (add_row a b).cc < 5
unfolding add_row
add_small a b = grind arith

subtract_small : (a b : ℕ) → (subtract_row a b).cc < 5
unfolding subtract_row
subtract_small a b = grind arith

multiply_small : (low b : ℕ) → (multiply_row low b).cc < 5
unfolding multiply_row
multiply_small low b = grind arith

multiply_single_small : (a b : ℕ) → (multiply_single_row a b).cc < 5
unfolding multiply_single_row
multiply_single_small a b = grind arith

divide_small : (a low b : ℕ) → (divide_row a low b).cc < 5
unfolding divide_row
divide_small a low b = grind arith

add_logical_small : (a b : ℕ) → (add_logical_row a b).cc < 5
unfolding add_logical_row
add_logical_small a b = grind arith

subtract_logical_small : (a b : ℕ) → (subtract_logical_row a b).cc < 5
unfolding subtract_logical_row
subtract_logical_small a b = grind arith

load_half_small : (b : ℕ) → (load_half_row b).cc < 5
unfolding load_half_row
load_half_small b = grind arith

compare_half_small : (a b : ℕ) → (compare_half_row a b).cc < 5
unfolding compare_half_row compare_row
compare_half_small a b = grind arith

add_half_small : (a b : ℕ) → (add_half_row a b).cc < 5
unfolding add_half_row add_row
add_half_small a b = grind arith

subtract_half_small : (a b : ℕ) → (subtract_half_row a b).cc < 5
unfolding subtract_half_row subtract_row
subtract_half_small a b = grind arith

multiply_half_small : (a b : ℕ) → (multiply_half_row a b).cc < 5
unfolding multiply_half_row multiply_single_row
multiply_half_small a b = grind arith

test_high_small : (a b : ℕ) → (test_high_row a b).cc < 5
unfolding test_high_row test_code
test_high_small a b = grind arith

test_low_small : (a b : ℕ) → (test_low_row a b).cc < 5
unfolding test_low_row test_code
test_low_small a b = grind arith

shift_right_logical_small : (a n : ℕ) → (shift_right_logical_row a n).cc < 5
unfolding shift_right_logical_row
shift_right_logical_small a n = grind arith

shift_left_logical_small : (a n : ℕ) → (shift_left_logical_row a n).cc < 5
unfolding shift_left_logical_row
shift_left_logical_small a n = grind arith

shift_right_small : (a n : ℕ) → (shift_right_row a n).cc < 5
unfolding shift_right_row
shift_right_small a n = grind arith

shift_left_small : (a n : ℕ) → (shift_left_row a n).cc < 5
unfolding shift_left_row
shift_left_small a n = grind arith

shift_right_double_logical_small : (a low n : ℕ) → (shift_right_double_logical_row a low n).cc < 5
unfolding shift_right_double_logical_row
shift_right_double_logical_small a low n = grind arith

shift_left_double_logical_small : (a low n : ℕ) → (shift_left_double_logical_row a low n).cc < 5
unfolding shift_left_double_logical_row
shift_left_double_logical_small a low n = grind arith

shift_right_double_small : (a low n : ℕ) → (shift_right_double_row a low n).cc < 5
unfolding shift_right_double_row
shift_right_double_small a low n = grind arith

shift_left_double_small : (a low n : ℕ) → (shift_left_double_row a low n).cc < 5
unfolding shift_left_double_row
shift_left_double_small a low n = grind arith

-- each row of a table has a code below 5
abbrev AreSmall : List (ℕ × (ℕ → ℕ → ℕ → Value)) → ℕ → ℕ → ℕ → Type 0
AreSmall [] a low b = Unit {0}
AreSmall (row ∷ rows) a low b = ((row.1 a low b).cc < 5) × AreSmall rows a low b

chosen : (c : Bool) (v w : Value) → v.cc < 5 → w.cc < 5 → (if c then v else w).cc < 5
chosen true v w h g = h
chosen false v w h g = g

look_small : (op : ℕ) (rows : List (ℕ × (ℕ → ℕ → ℕ → Value))) (a low b : ℕ) → AreSmall rows a low b
    → (look op rows a low b).cc < 5
look_small op [] a low b h = omega arith
look_small op (row ∷ rows) a low b h =
    chosen (row.0 == op) (row.1 a low b) (look op rows a low b) h.0 (look_small op rows a low b h.1)

pub rr_small : (op a low b : ℕ) → (rr_row op a low b).cc < 5
unfolding rr_row
rr_small op a low b =
    look_small op rr_rows a low b (
      load_positive_small b,
      (
        load_negative_small b,
        (
          load_and_test_small b,
          (
            load_complement_small b,
            (
              and_small a b,
              (
                compare_logical_small a b,
                (
                  or_small a b,
                  (
                    exclusive_or_small a b,
                    (
                      load_small b,
                      (
                        compare_small a b,
                        (
                          add_small a b,
                          (
                            subtract_small a b,
                            (
                              multiply_small low b,
                              (
                                divide_small a low b,
                                (
                                  add_logical_small a b,
                                  (
                                    subtract_logical_small a b,
                                    (
                                      and_small a b,
                                      (
                                        compare_logical_small a b,
                                        (
                                          or_small a b,
                                          (
                                            exclusive_or_small a b,
                                            (
                                              load_small b,
                                              (
                                                compare_small a b,
                                                (
                                                  add_small a b,
                                                  (
                                                    subtract_small a b,
                                                    (
                                                      multiply_small low b,
                                                      (
                                                        divide_small a low b,
                                                        (
                                                          add_logical_small a b,
                                                          (
                                                            subtract_logical_small a b,
                                                            (
                                                              multiply_single_small a b,
                                                              tt,
                                                            ),
                                                          ),
                                                        ),
                                                      ),
                                                    ),
                                                  ),
                                                ),
                                              ),
                                            ),
                                          ),
                                        ),
                                      ),
                                    ),
                                  ),
                                ),
                              ),
                            ),
                          ),
                        ),
                      ),
                    ),
                  ),
                ),
              ),
            ),
          ),
        ),
      ),
    )

pub half_small : (op a b : ℕ) → (half_row op a b).cc < 5
unfolding half_row
half_small op a b =
    look_small op half_rows a 0 b (
      load_half_small b,
      (
        compare_half_small a b,
        (
          add_half_small a b,
          (
            subtract_half_small a b,
            (
              multiply_half_small a b,
              (
                test_high_small a b,
                (
                  test_low_small a b,
                  tt,
                ),
              ),
            ),
          ),
        ),
      ),
    )

pub shift_small : (op a low n : ℕ) → (shift_row op a low n).cc < 5
unfolding shift_row
shift_small op a low n =
    look_small op shift_rows a low n (
      shift_right_logical_small a n,
      (
        shift_left_logical_small a n,
        (
          shift_right_small a n,
          (
            shift_left_small a n,
            (
              shift_right_double_logical_small a low n,
              (
                shift_left_double_logical_small a low n,
                (
                  shift_right_double_small a low n,
                  (
                    shift_left_double_small a low n,
                    tt,
                  ),
                ),
              ),
            ),
          ),
        ),
      ),
    )
