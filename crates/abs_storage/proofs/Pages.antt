-- Within a page successive addresses have successive places, and a page that begins inside is inside.
use Rattle.std.proofs.Common.{◌≡◌, ℕ, zero, suc, ◌+◌, ◌-◌, ◌/◌, ◌%◌, ◌<◌, ◌≤◌, Bool, true, false, refl, sym, ap, subst, ◌∙◌, arith, inl, inr}
use Rattle.std.specs.Prelude.{nat_lt, ◌==◌, ◌^◌, not, if◌then◌else◌}
use Rattle.std.proofs.lemmas.Bool.{cases_lt}
use Rattle.esa_model.specs.Access.{absolute}
use Rattle.abs_storage.specs.declared.pieces.Pieces.{Pieces}
use Rattle.abs_storage.specs.Places.{place_at, place_in, cut_of, first_part, second_part, begins_outside}

abbrev wrap_of : Bool → ℕ → ℕ
wrap_of wide n = if wide then n % 2 ^ 31 else n % 2 ^ 24

wrapped_next : (wide : Bool) (n : ℕ) → n % 4096 + 1 < 4096 → wrap_of wide (n + 1) ≡ wrap_of wide n + 1
wrapped_next true n h = grind (arith, h)
wrapped_next false n h = grind (arith, h)

wrapped_page : (wide : Bool) (n : ℕ) → wrap_of wide n % 4096 ≡ n % 4096
wrapped_page true n = grind arith
wrapped_page false n = grind arith

absolute_next : (prefix w : ℕ) → w % 4096 + 1 < 4096 → absolute prefix (w + 1) ≡ absolute prefix w + 1
absolute_next prefix w h =
    let d : (w + 1) / 4096 ≡ w / 4096 = omega (arith, h) in
    let m : (w + 1) % 4096 ≡ w % 4096 + 1 = omega (arith, h) in
    rw (d, m) (grind (arith, h))

absolute_page : (prefix w : ℕ) → absolute prefix w % 4096 ≡ w % 4096
absolute_page prefix w = grind arith

pub place_page : (prefix : ℕ) (wide : Bool) (n : ℕ) → place_at prefix wide n % 4096 ≡ n % 4096
unfolding place_at
place_page prefix wide n = absolute_page prefix (wrap_of wide n) ∙ wrapped_page wide n

place_next : (prefix : ℕ) (wide : Bool) (n : ℕ) → n % 4096 + 1 < 4096 → place_at prefix wide (n + 1) ≡ place_at prefix wide n + 1
unfolding place_at
place_next prefix wide n h =
    ap (absolute prefix) (wrapped_next wide n h)
    ∙ absolute_next prefix (wrap_of wide n) (let e = wrapped_page wide n in omega (arith, e, h))

pub place_more : (prefix : ℕ) (wide : Bool) (n k : ℕ) → n % 4096 + k < 4096 → place_at prefix wide (n + k) ≡ place_at prefix wide n + k
place_more prefix wide n zero h = let e : n + 0 ≡ n = omega arith in rw e (omega arith)
place_more prefix wide n (suc k) h =
    let e : n + suc k ≡ n + k + 1 = omega arith in
    ap (place_at prefix wide) e
    ∙ (place_next prefix wide (n + k) (omega (arith, h))
    ∙ (let i = place_more prefix wide n k (omega (arith, h)) in omega (arith, i)))

-- the bytes of the first piece
pub in_first : (prefix : ℕ) (wide : Bool) (real len k : ℕ) → k < first_part real len → place_at prefix wide (real + k) ≡ place_at prefix wide real + k
in_first prefix wide real len k h = place_more prefix wide real k (omega (arith, h))

-- those of the second
pub in_second : (prefix : ℕ) (wide : Bool) (real len k : ℕ) → len ≤ 256 → k < len → first_part real len ≤ k
    → place_at prefix wide (real + k) ≡ place_at prefix wide (real + first_part real len) + (k - first_part real len)
in_second prefix wide real len k most h g =
    let front : first_part real len ≡ 4096 - real % 4096 = omega arith in
    let start : (real + first_part real len) % 4096 ≡ 0 = rw front (omega arith) in
    let e : real + k ≡ real + first_part real len + (k - first_part real len) = omega arith in
    ap (place_at prefix wide) e
    ∙ place_more prefix wide (real + first_part real len) (k - first_part real len) (omega (arith, start))

pub page_inside : (size a k : ℕ) → size % 4096 ≡ 0 → a < size → a % 4096 + k < 4096 → a + k < size
page_inside size a k pages h g = omega arith

-- ---- the operand

pub covered : (prefix : ℕ) (wide : Bool) (real len k : ℕ) → len ≤ 256 → k < len → place_at prefix wide (real + k) ≡ place_in (cut_of prefix wide real len) k
unfolding cut_of
covered prefix wide real len k most h =
    elim (cases_lt k (first_part real len)) [
      | inl g ↦ in_first prefix wide real len k g ∙ (let t : nat_lt k (first_part real len) ≡ true = grind (arith, g) in rw t refl)
      | inr g ↦ in_second prefix wide real len k most h g
          ∙ (let t : nat_lt k (first_part real len) ≡ false = grind (arith, g) in
          let s : second_part real len == 0 ≡ false = grind (arith, g, h) in rw (t, s) refl)
    ]

first_in : (size : ℕ) (p : Pieces) → begins_outside size p ≡ false → p.first < size
first_in size p h = grind (arith, h)

second_in : (size : ℕ) (p : Pieces) → begins_outside size p ≡ false → 0 < p.second_len → p.second < size
second_in size p h g = grind (arith, h, g)

pub all_inside : (size prefix : ℕ) (wide : Bool) (real len k : ℕ) → size % 4096 ≡ 0 → len ≤ 256
    → begins_outside size (cut_of prefix wide real len) ≡ false → k < len → place_at prefix wide (real + k) < size
unfolding cut_of
all_inside size prefix wide real len k pages most h g =
    elim (cases_lt k (first_part real len)) [
      | inl f ↦
          let e = in_first prefix wide real len k f in
          let m = place_page prefix wide real in
          let i : place_at prefix wide real < size = first_in size (cut_of prefix wide real len) h in
          let j = page_inside size (place_at prefix wide real) k pages i (omega (arith, m, f)) in
          omega (arith, e, j)
      | inr f ↦
          let a : ℕ = real + first_part real len in
          let e = in_second prefix wide real len k most g f in
          let m = place_page prefix wide a in
          let s : second_part real len == 0 ≡ false = grind (arith, f, g) in
          let i : place_at prefix wide a < size = rw s at (second_in size (cut_of prefix wide real len) h (omega (arith, f, g))) in
          let start : a % 4096 ≡ 0 = omega (arith, f, g, most) in
          let j = page_inside size (place_at prefix wide a) (k - first_part real len) pages i (omega (arith, m, start, g, most)) in
          omega (arith, e, j)
    ]

second_out : (size prefix : ℕ) (wide : Bool) (real len : ℕ) →
    (if second_part real len == 0 then false else not (nat_lt (if second_part real len == 0 then 0 else place_at prefix wide (real + first_part real len)) size)) ≡ true
    → (first_part real len < len) × (size ≤ place_at prefix wide (real + first_part real len))
second_out size prefix wide real len h =
    elim (cases_lt (first_part real len) len) [
      | inl f ↦ (f, let s : second_part real len == 0 ≡ false = grind (arith, f) in let g = rw s at h in grind (arith, g))
      | inr f ↦ let s : second_part real len == 0 ≡ true = grind (arith, f) in let g = rw s at h in absurd cc
    ]

pub one_outside : (size prefix : ℕ) (wide : Bool) (real len : ℕ) → 0 < len
    → begins_outside size (cut_of prefix wide real len) ≡ true → (k : ℕ) × (k < len) × (size ≤ place_at prefix wide (real + k))
unfolding cut_of
one_outside size prefix wide real len some h =
    elim (cases_lt (place_at prefix wide real) size) [
      | inl f ↦
          let t : nat_lt (place_at prefix wide real) size ≡ true = grind (arith, f) in
          let o = second_out size prefix wide real len (rw t at h) in (first_part real len, o.0, o.1)
      | inr f ↦ (0, some, let e : real + 0 ≡ real = omega arith in rw e f)
    ]

-- ---- the same of pieces that are those of the operand

pub covered_by : (prefix : ℕ) (wide : Bool) (real len : ℕ) (p : Pieces) → p ≡ cut_of prefix wide real len → len ≤ 256
    → (k : ℕ) → k < len → place_at prefix wide (real + k) ≡ place_in p k
covered_by prefix wide real len p e most k h = covered prefix wide real len k most h ∙ ap (λ (q : Pieces). place_in q k) (sym e)

pub inside_by : (n size prefix : ℕ) (wide : Bool) (real len : ℕ) (p : Pieces) → p ≡ cut_of prefix wide real len → n ≡ size → n % 4096 ≡ 0 → len ≤ 256
    → begins_outside n p ≡ false → (k : ℕ) → k < len → place_at prefix wide (real + k) < size
inside_by n size prefix wide real len p e same pages most h k g =
    let i = all_inside n prefix wide real len k pages most (subst (λ (q : Pieces). begins_outside n q ≡ false) e h) g in
    omega (arith, i, same)

pub outside_by : (n size prefix : ℕ) (wide : Bool) (real len : ℕ) (p : Pieces) → p ≡ cut_of prefix wide real len → n ≡ size → 0 < len
    → begins_outside n p ≡ true → (k : ℕ) × (k < len) × (size ≤ place_at prefix wide (real + k))
outside_by n size prefix wide real len p e same some h =
    let o = one_outside n prefix wide real len some (subst (λ (q : Pieces). begins_outside n q ≡ true) e h) in
    (o.0, o.1, let f = o.2 in omega (arith, f, same))
