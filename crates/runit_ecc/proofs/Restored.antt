-- Registers are what their checkpoint words say.
use Rattle.std.proofs.Common.{◌≡◌, ℕ, ◌+◌, ◌-◌, ◌<◌, ◌≤◌, ◌%◌, ◌^◌, true, false, List, ◌∷◌, [], ◌++◌, map, length, take, drop, slice_index, ◌∙◌, sym, ap, refl, arith, length-drop}
use Rattle.std.specs.Prelude.{nat_lt, ◌==◌}
use Rattle.std.proofs.lemmas.List.{length-map, get_or-take, get_or-drop, get_or-map, ext_get_or, length-take-le, map_more, take_all}
use Rattle.std.proofs.lemmas.Bool.Decides.{nat_tests}
use Rattle.esa_model.specs.declared.machine.Registers.{Registers}
use Rattle.run_model.specs.Checkpoint.{low_half, word_of, words_of, registers_of}
use Rattle.runit_ecc.specs.Bounds.{AreRegisters}

is_lt : (a b : ℕ) → a < b → nat_lt a b ≡ true
is_lt a b h = grind (arith, nat_tests)

is_ge : (a b : ℕ) → b ≤ a → nat_lt a b ≡ false
is_ge a b h = grind (arith, nat_tests)

is_other : (a b : ℕ) → b < a → (a == b) ≡ false
is_other a b h = grind (arith, nat_tests)

general_word : (r : Registers) (k : ℕ) → k < 16 → word_of r k ≡ slice_index r.general k
unfolding word_of
general_word r k h = let e = is_lt k 16 h in rw e refl

control_word : (r : Registers) (k : ℕ) → k < 16 → word_of r (16 + k) ≡ slice_index r.control k
unfolding word_of
control_word r k h =
    let e = is_ge (16 + k) 16 (omega arith) in
    let f = is_lt (16 + k) 32 (omega arith) in
    let g : 16 + k - 16 ≡ k = omega arith in
    rw (e, f, g) refl

clock_word : (r : Registers) (k : ℕ) → k < 4 → word_of r (36 + k) ≡ slice_index r.clocks k
unfolding word_of
clock_word r k h =
    let a = is_ge (36 + k) 16 (omega arith) in
    let b = is_ge (36 + k) 32 (omega arith) in
    let u : ((36 + k) == 32) ≡ false = is_other (36 + k) 32 (omega arith) in
    let v : ((36 + k) == 33) ≡ false = is_other (36 + k) 33 (omega arith) in
    let w : ((36 + k) == 34) ≡ false = is_other (36 + k) 34 (omega arith) in
    let x : ((36 + k) == 35) ≡ false = is_other (36 + k) 35 (omega arith) in
    let at : 36 + k - 36 ≡ k = omega arith in
    rw (a, b, u, v, w, x, at) refl

-- the halves of more words
pub halved : (words : List ℕ) (i : ℕ) → i < length words → map low_half (take (i + 1) words) ≡ map low_half (take i words) ++ low_half (slice_index words i) ∷ []
halved words i h = map_more low_half words i 0 h

-- words that are each a word of these registers
pub record Says (words : List ℕ) (r : Registers) : Type 0 where
  pub are : AreRegisters r
  pub count : length words ≡ 40
  pub each : (w : ℕ) → w < 40 → slice_index words w ≡ word_of r w

-- a word of 32 bits is its low half
low_word : (words : List ℕ) (r : Registers) → Says words r → (w : ℕ) → w < 36 → low_half (slice_index words w) ≡ word_of r w
low_word words r s w h =
    let b = s.are.small w h in
    let q : word_of r w % 2 ^ 32 ≡ word_of r w = grind arith in
    ap low_half (s.each w (omega arith)) ∙ q

general_back : (words : List ℕ) (r : Registers) → Says words r → map low_half (take 16 words) ≡ r.general
general_back words r s =
    let n = s.count in
    let l : length (take 16 words) ≡ 16 = length-take-le 16 words (omega arith) in
    let m : length (map low_half (take 16 words)) ≡ 16 = length-map (take 16 words) low_half ∙ l in
    let g = s.are.generals in
    ext_get_or 0 (map low_half (take 16 words)) r.general (omega arith) (λ i h. get_or-map low_half (take 16 words) i 0 0 (omega arith) ∙ ap low_half (get_or-take 16 words i 0 (omega arith)) ∙ low_word words r s i (omega arith) ∙ general_word r i (omega arith))

control_back : (words : List ℕ) (r : Registers) → Says words r → map low_half (take 16 (drop 16 words)) ≡ r.control
control_back words r s =
    let n = s.count in
    let d = length-drop 16 words in
    let rest = drop 16 words in
    let l : length (take 16 (drop 16 words)) ≡ 16 = length-take-le 16 (drop 16 words) (omega arith) in
    let m : length (map low_half (take 16 (drop 16 words))) ≡ 16 = length-map (take 16 (drop 16 words)) low_half ∙ l in
    let g = s.are.controls in
    ext_get_or 0 (map low_half (take 16 (drop 16 words))) r.control (omega arith) (λ i h. get_or-map low_half (take 16 (drop 16 words)) i 0 0 (omega arith) ∙ ap low_half (get_or-take 16 (drop 16 words) i 0 (omega arith) ∙ get_or-drop 16 words i 0) ∙ low_word words r s (16 + i) (omega arith) ∙ control_word r i (omega arith))

clocks_back : (words : List ℕ) (r : Registers) → Says words r → take 4 (drop 36 words) ≡ r.clocks
clocks_back words r s =
    let n = s.count in
    let d = length-drop 36 words in
    let l : length (take 4 (drop 36 words)) ≡ 4 = length-take-le 4 (drop 36 words) (omega arith) in
    let g = s.are.clocks in
    ext_get_or 0 (take 4 (drop 36 words)) r.clocks (omega arith) (λ i h. get_or-take 4 (drop 36 words) i 0 (omega arith) ∙ get_or-drop 36 words i 0 ∙ s.each (36 + i) (omega arith) ∙ clock_word r i (omega arith))

pub restored : (words : List ℕ) (r : Registers) → Says words r → registers_of words ≡ r
unfolding registers_of word_of
restored words r s =
    let g = general_back words r s in
    let c = control_back words r s in
    let k = clocks_back words r s in
    let a : low_half (slice_index words 32) ≡ r.psw.w0 = low_word words r s 32 (omega arith) in
    let b : low_half (slice_index words 33) ≡ r.psw.w1 = low_word words r s 33 (omega arith) in
    let p : low_half (slice_index words 34) ≡ r.prefix = low_word words r s 34 (omega arith) in
    rw (g, c, k, a, b, p) refl

pub restored_from : (words : List ℕ) (r : Registers) → AreRegisters r → length words ≡ 40 → ((w : ℕ) → w < 40 → slice_index words w ≡ word_of r w) → registers_of words ≡ r
restored_from words r a n e = restored words r (record { are = a; count = n; each = e })

pub zero_word : (r : Registers) → word_of r 35 ≡ 0
unfolding word_of
zero_word r = refl
