-- The places that a mask selects, one more at a time, and the condition code of inserted bytes.
use Rattle.std.proofs.Common.{◌≡◌, ℕ, zero, suc, ◌+◌, ◌-◌, ◌/◌, ◌%◌, ◌^◌, ◌<◌, Bool, false, List, [], ◌∷◌, ◌++◌, length, refl, ap, ◌∙◌, arith}
use Rattle.std.specs.Prelude.{◌==◌, nat_lt, if◌then◌else◌, slice_index}
use Rattle.std.specs.List.{filter, range_with_len, list_all}
use Rattle.std.proofs.lemmas.List.Elements.{filter-append}
use Rattle.esa_model.specs.MaskRows.{places, is_zero, inserted_code}

abbrev pub selects : ℕ → ℕ → Bool
selects mask k = mask / 2 ^ (3 - k) % 2 == 1

-- the places below n that a mask selects
unfoldable pub places_below : ℕ → ℕ → List ℕ
places_below mask n = filter (selects mask) (range_with_len 0 n)

range_more : (a n : ℕ) → range_with_len a (n + 1) ≡ range_with_len a n ++ ((a + n) ∷ [])
range_more a zero = let e : a + 0 ≡ a = omega arith in rw e refl
range_more a (suc n) =
    let e : a + suc n ≡ (a + 1) + n = omega arith in
    let j : suc n + 1 ≡ suc (n + 1) = omega arith in
    rw (e, j) (ap (λ (xs : List ℕ). a ∷ xs) (range_more (a + 1) n))

pub places_none : (mask : ℕ) → places_below mask 0 ≡ []
unfolding places_below
places_none mask = refl

pub places_all : (mask : ℕ) → places_below mask 4 ≡ places mask
unfolding places_below
places_all mask = refl

pub places_more : (mask n : ℕ)
    → places_below mask (n + 1)
    ≡ places_below mask n ++ (if mask / 2 ^ (3 - n) % 2 == 1 then n ∷ [] else [])
unfolding places_below
places_more mask n =
    let e : 0 + n ≡ n = omega arith in
    let more = range_more 0 n ∙ ap (λ (k : ℕ). range_with_len 0 n ++ (k ∷ [])) e in
    ap (filter (selects mask)) more ∙ filter-append (selects mask) (range_with_len 0 n) (n ∷ [])

-- a place after the last counts as the last
pub unit_last : (k : ℕ) → 2 < k → 256 ^ (3 - k) ≡ 1
unit_last k h = let e : 3 - k ≡ 0 = omega (arith, h) in rw e refl

pub code_by : (bs : List ℕ)
    → inserted_code bs
    ≡ (if list_all is_zero bs then 0 else if nat_lt (slice_index bs 0) 128 then 2 else 1)
code_by [] = refl
code_by (b ∷ bs) = refl

pub some_by : (bs : List ℕ) → list_all is_zero bs ≡ false → 0 < length bs
some_by [] h = absurd (grind (arith, h))
some_by (b ∷ bs) h = omega arith
