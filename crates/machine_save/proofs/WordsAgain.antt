-- The words of a save whose fields are good are those of the registers that they say.
use Rattle.std.specs.Prelude.{◌==◌, nat_lt}
use Rattle.std.proofs.Common.{◌≡◌, ℕ, zero, suc, ◌+◌, ◌-◌, ◌<◌, ◌≤◌, Bool, true, false, List, [], ◌∷◌, length, map, take, drop, get_or, replicate, slice_index, refl, sym, ap, subst, ◌∙◌, arith, length-drop}
use Rattle.std.specs.List.{range_with_len}
use Rattle.std.proofs.lemmas.Bool.{eqb-true}
use Rattle.std.proofs.lemmas.Bool.Decides.{nat_tests}
use Rattle.std.proofs.lemmas.List.{ext_get_or, get_or-drop, get_or-map, get_or-replicate, get_or-take, length-replicate, length-take-le}
use Rattle.std.proofs.lemmas.List.FromFn.{length-map-range_with_len, get_or-map-range_with_len}
use Rattle.esa_model.specs.declared.machine.Registers.{Registers}
use Rattle.run_model.specs.Checkpoint.{low_half, registers_of, word_of, words_of}
use Rattle.save_model.specs.Fields.{all_good}
use Rattle.save_model.specs.Parts.{is_word, word_fields, word_good}
use Rattle.save_model.proofs.SaveRead.{left_true, right_true}

each_word : (p m k : ℕ) (ws : List ℕ) → all_good (word_fields p m k ws) ≡ true
    → (j : ℕ) → j < length ws → word_good p m (k + j) (get_or ws j 0) ≡ true
each_word p m k [] e j lt = absurd (omega (arith, lt))
each_word p m k (w ∷ ws) e zero lt =
    let at : k ≡ k + 0 = omega arith in
    subst (λ q. word_good p m q w ≡ true) at (left_true (word_good p m k w) (all_good (word_fields p m (k + 1) ws)) e)
each_word p m k (w ∷ ws) e (suc j) lt =
    let at : k + 1 + j ≡ k + suc j = omega arith in
    subst (λ q. word_good p m q (get_or ws j 0) ≡ true) at
    (each_word p m (k + 1) ws (right_true (word_good p m k w) (all_good (word_fields p m (k + 1) ws)) e) j (omega (arith, lt)))

-- ---- of a core that does not run

zero_word : (p m k w : ℕ) (t : Bool) → (m == 0) ≡ t → t ≡ false → word_good p m k w ≡ true → w ≡ 0
zero_word p m k w true e f g = absurd (cc f)
zero_word p m k w false e f g = eqb-true w 0 (sym (rw e refl) ∙ g)

pub no_words : (p m : ℕ) (ws : List ℕ) → (m == 0) ≡ false → length ws ≡ 40
    → all_good (word_fields p m 0 ws) ≡ true → replicate 40 0 ≡ ws
no_words p m ws e long g =
    let r = length-replicate {A = ℕ} 40 0 in
    ext_get_or 0 (replicate 40 0) ws (r ∙ sym long) (λ i h.
    get_or-replicate {A = ℕ} 40 i 0 0 (omega (arith, h, r))
    ∙ sym (zero_word p m (0 + i) (get_or ws i 0) (m == 0) refl e (each_word p m 0 ws g i (omega (arith, h, r, long)))))

-- ---- of one that runs

low_kept : (p k w : ℕ) → k < 35 → is_word p k w ≡ true → low_half w ≡ w
low_kept p k w h e = grind (arith, nat_tests)

zero_kept : (p w : ℕ) → is_word p 35 w ≡ true → w ≡ 0
zero_kept p w e = eqb-true w 0 e

is_lt : (a b : ℕ) → a < b → nat_lt a b ≡ true
is_lt a b h = grind (arith, nat_tests)

is_ge : (a b : ℕ) → b ≤ a → nat_lt a b ≡ false
is_ge a b h = grind (arith, nat_tests)

is_not : (a b : ℕ) → b < a → (a == b) ≡ false
is_not a b h = grind (arith, nat_tests)

general_word : (r : Registers) (k : ℕ) → k < 16 → word_of r k ≡ slice_index r.general k
unfolding word_of
general_word r k h = let e = is_lt k 16 h in rw e refl

control_word : (r : Registers) (k : ℕ) → 16 ≤ k → k < 32 → word_of r k ≡ slice_index r.control (k - 16)
unfolding word_of
control_word r k l h = let e = is_ge k 16 l in let f = is_lt k 32 h in rw (e, f) refl

clock_word : (r : Registers) (k : ℕ) → 36 ≤ k → word_of r k ≡ slice_index r.clocks (k - 36)
unfolding word_of
clock_word r k h =
    let a = is_ge k 16 (omega (arith, h)) in
    let b = is_ge k 32 (omega (arith, h)) in
    let u : (k == 32) ≡ false = is_not k 32 (omega (arith, h)) in
    let v : (k == 33) ≡ false = is_not k 33 (omega (arith, h)) in
    let w : (k == 34) ≡ false = is_not k 34 (omega (arith, h)) in
    let x : (k == 35) ≡ false = is_not k 35 (omega (arith, h)) in
    rw (a, b, u, v, w, x) refl

-- each word is one of a machine with so many pages
abbrev AreWords : ℕ → List ℕ → Type 0
AreWords p ws = (k : ℕ) → k < 40 → is_word p k (get_or ws k 0) ≡ true

general_back : (p : ℕ) (ws : List ℕ) (k : ℕ) → length ws ≡ 40 → AreWords p ws → k < 16
    → word_of (registers_of ws) k ≡ get_or ws k 0
unfolding registers_of
general_back p ws k long g h =
    let l : length (take 16 ws) ≡ 16 = length-take-le 16 ws (omega (arith, long)) in
    general_word (registers_of ws) k h
    ∙ get_or-map low_half (take 16 ws) k 0 0 (omega (arith, l, h))
    ∙ ap low_half (get_or-take 16 ws k 0 h)
    ∙ low_kept p k (get_or ws k 0) (omega (arith, h)) (g k (omega (arith, h)))

control_back : (p : ℕ) (ws : List ℕ) (k : ℕ) → length ws ≡ 40 → AreWords p ws → 16 ≤ k → k < 32
    → word_of (registers_of ws) k ≡ get_or ws k 0
unfolding registers_of
control_back p ws k long g low h =
    let d = length-drop 16 ws in
    let l : length (take 16 (drop 16 ws)) ≡ 16 = length-take-le 16 (drop 16 ws) (omega (arith, long, d)) in
    let at : 16 + (k - 16) ≡ k = omega (arith, low) in
    control_word (registers_of ws) k low h
    ∙ get_or-map low_half (take 16 (drop 16 ws)) (k - 16) 0 0 (omega (arith, l, low, h))
    ∙ ap low_half (get_or-take 16 (drop 16 ws) (k - 16) 0 (omega (arith, low, h)) ∙ get_or-drop 16 ws (k - 16) 0
    ∙ ap (λ q. get_or ws q 0) at)
    ∙ low_kept p k (get_or ws k 0) (omega (arith, h)) (g k (omega (arith, h)))

clock_back : (ws : List ℕ) (k : ℕ) → 36 ≤ k → k < 40 → word_of (registers_of ws) k ≡ get_or ws k 0
unfolding registers_of
clock_back ws k low h =
    let at : 36 + (k - 36) ≡ k = omega (arith, low) in
    clock_word (registers_of ws) k low
    ∙ get_or-take 4 (drop 36 ws) (k - 36) 0 (omega (arith, low, h))
    ∙ get_or-drop 36 ws (k - 36) 0
    ∙ ap (λ q. get_or ws q 0) at

first_back : (p : ℕ) (ws : List ℕ) → AreWords p ws → word_of (registers_of ws) 32 ≡ get_or ws 32 0
unfolding registers_of word_of
first_back p ws g = low_kept p 32 (get_or ws 32 0) (omega arith) (g 32 (omega arith))

second_back : (p : ℕ) (ws : List ℕ) → AreWords p ws → word_of (registers_of ws) 33 ≡ get_or ws 33 0
unfolding registers_of word_of
second_back p ws g = low_kept p 33 (get_or ws 33 0) (omega arith) (g 33 (omega arith))

prefix_back : (p : ℕ) (ws : List ℕ) → AreWords p ws → word_of (registers_of ws) 34 ≡ get_or ws 34 0
unfolding registers_of word_of
prefix_back p ws g = low_kept p 34 (get_or ws 34 0) (omega arith) (g 34 (omega arith))

zero_back : (p : ℕ) (ws : List ℕ) → AreWords p ws → word_of (registers_of ws) 35 ≡ get_or ws 35 0
unfolding word_of
zero_back p ws g = sym (zero_kept p (get_or ws 35 0) (g 35 (omega arith)))

-- the words between the control registers and the clocks
between : (p : ℕ) (ws : List ℕ) (k : ℕ) → AreWords p ws → k < 4
    → word_of (registers_of ws) (32 + k) ≡ get_or ws (32 + k) 0
between p ws zero g h = first_back p ws g
between p ws (suc zero) g h = second_back p ws g
between p ws (suc (suc zero)) g h = prefix_back p ws g
between p ws (suc (suc (suc zero))) g h = zero_back p ws g
between p ws (suc (suc (suc (suc k)))) g h = absurd (omega (arith, h))

by_place : (p : ℕ) (ws : List ℕ) (k : ℕ) (a b c : Bool) → nat_lt k 16 ≡ a → nat_lt k 32 ≡ b
    → nat_lt k 36 ≡ c → length ws ≡ 40 → AreWords p ws → k < 40
    → word_of (registers_of ws) k ≡ get_or ws k 0
by_place p ws k true b c e f h long g lt = general_back p ws k long g (grind (arith, nat_tests))
by_place p ws k false true c e f h long g lt =
    control_back p ws k long g (grind (arith, nat_tests)) (grind (arith, nat_tests))
by_place p ws k false false true e f h long g lt =
    let low : 32 ≤ k = grind (arith, nat_tests) in
    let high : k < 36 = grind (arith, nat_tests) in
    let at : 32 + (k - 32) ≡ k = omega (arith, low) in
    subst (λ q. word_of (registers_of ws) q ≡ get_or ws q 0) at
    (between p ws (k - 32) g (omega (arith, low, high)))
by_place p ws k false false false e f h long g lt = clock_back ws k (grind (arith, nat_tests)) lt

run_word : (p m k w : ℕ) (t : Bool) → (m == 0) ≡ t → m ≡ 0 → word_good p m k w ≡ true
    → is_word p k w ≡ true
run_word p m k w true e f g = sym (rw e refl) ∙ g
run_word p m k w false e f g = absurd (grind (arith, nat_tests))

good_words : (p m : ℕ) (ws : List ℕ) → m ≡ 0 → length ws ≡ 40
    → all_good (word_fields p m 0 ws) ≡ true → AreWords p ws
good_words p m ws e long g k lt =
    let at : 0 + k ≡ k = omega arith in
    subst (λ q. is_word p q (get_or ws k 0) ≡ true) at
    (run_word p m (0 + k) (get_or ws k 0) (m == 0) refl e (each_word p m 0 ws g k (omega (arith, long, lt))))

pub words_back : (p m : ℕ) (ws : List ℕ) → m ≡ 0 → length ws ≡ 40
    → all_good (word_fields p m 0 ws) ≡ true → words_of (registers_of ws) ≡ ws
unfolding words_of
words_back p m ws e long g =
    let r : Registers = registers_of ws in
    let l = length-map-range_with_len (word_of r) 0 40 in
    ext_get_or 0 (map (word_of r) (range_with_len 0 40)) ws (l ∙ sym long) (λ i h.
    let lt : i < 40 = omega (arith, h, l) in
    get_or-map-range_with_len (word_of r) 0 40 i i 0 lt (omega arith)
    ∙ by_place p ws i (nat_lt i 16) (nat_lt i 32) (nat_lt i 36) refl refl refl long (good_words p m ws e long g) lt)
