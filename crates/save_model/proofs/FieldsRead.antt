-- Fields are read as they were written, and their sizes.
use Rattle.std.proofs.Common.{◌≡◌, ℕ, zero, suc, ◌+◌, List, [], ◌∷◌, ◌++◌, length, drop, refl, sym, ap, ◌∙◌, append_assoc, arith, length-append}
use Rattle.std.proofs.Math.Nat.{mod-eq_of_lt}
use Rattle.byteorder.specs.Endian.{big_bytes, big_number}
use Rattle.byteorder.specs.Numbers.{big_from-bytes, length-bytes_high_first}
use Rattle.save_model.specs.Fields.{Field, AllFit, bytes_of_fields, widths, values, size, numbers, behind}

pub drop_front : (xs ys : List ℕ) (n : ℕ) → length xs ≡ n → drop n (xs ++ ys) ≡ ys
drop_front [] ys zero e = refl
drop_front [] ys (suc n) e = absurd (omega (arith, e))
drop_front (x ∷ xs) ys zero e = absurd (omega (arith, e))
drop_front (x ∷ xs) ys (suc n) e = drop_front xs ys n (omega (arith, e))

append_fields : (fs gs : List Field) → bytes_of_fields (fs ++ gs) ≡ bytes_of_fields fs ++ bytes_of_fields gs
append_fields [] gs = refl
append_fields (f ∷ fs) gs =
    ap (λ z. big_bytes f.width f.value ++ z) (append_fields fs gs)
    ∙ sym (append_assoc (big_bytes f.width f.value) (bytes_of_fields fs) (bytes_of_fields gs))

-- two lists of fields, one behind the other, before a rest
pub fields_flat : (fs gs : List Field) (rest : List ℕ)
    → bytes_of_fields (fs ++ gs) ++ rest ≡ bytes_of_fields fs ++ (bytes_of_fields gs ++ rest)
fields_flat fs gs rest =
    ap (λ z. z ++ rest) (append_fields fs gs) ∙ append_assoc (bytes_of_fields fs) (bytes_of_fields gs) rest

pub size_fields : (fs : List Field) → length (bytes_of_fields fs) ≡ size fs
size_fields [] = refl
size_fields (f ∷ fs) =
    length-append (big_bytes f.width f.value) (bytes_of_fields fs)
    ∙ ap (λ n. n + length (bytes_of_fields fs)) (length-bytes_high_first f.width f.value)
    ∙ ap (λ n. f.width + n) (size_fields fs)

pub size_append : (fs gs : List Field) → size (fs ++ gs) ≡ size fs + size gs
size_append [] gs = omega arith
size_append (f ∷ fs) gs = let e = size_append fs gs in omega (arith, e)

pub fit_front : (fs gs : List Field) → AllFit (fs ++ gs) → AllFit fs
fit_front [] gs h = tt
fit_front (f ∷ fs) gs h = (h.0, fit_front fs gs h.1)

pub fit_behind : (fs gs : List Field) → AllFit (fs ++ gs) → AllFit gs
fit_behind [] gs h = h
fit_behind (f ∷ fs) gs h = fit_behind fs gs h.1

pub fit_both : (fs gs : List Field) → AllFit fs → AllFit gs → AllFit (fs ++ gs)
fit_both [] gs h k = k
fit_both (f ∷ fs) gs h k = (h.0, fit_both fs gs h.1 k)

-- what stands behind them
pub fields_behind : (fs : List Field) (rest : List ℕ) → behind (widths fs) (bytes_of_fields fs ++ rest) ≡ rest
fields_behind [] rest = refl
fields_behind (f ∷ fs) rest =
    let written : List ℕ = big_bytes f.width f.value in
    ap (λ z. behind (widths fs) (drop f.width z)) (append_assoc written (bytes_of_fields fs) rest)
    ∙ ap (λ z. behind (widths fs) z) (drop_front written (bytes_of_fields fs ++ rest) f.width (length-bytes_high_first f.width f.value))
    ∙ fields_behind fs rest

-- what was written is read
pub fields_read : (fs : List Field) (rest : List ℕ) → AllFit fs → numbers (widths fs) (bytes_of_fields fs ++ rest) ≡ values fs
fields_read [] rest h = refl
fields_read (f ∷ fs) rest h =
    let written : List ℕ = big_bytes f.width f.value in
    let more : List ℕ = bytes_of_fields fs ++ rest in
    let flat : (written ++ bytes_of_fields fs) ++ rest ≡ written ++ more = append_assoc written (bytes_of_fields fs) rest in
    let first : big_number f.width (written ++ more) ≡ f.value = big_from-bytes f.width f.value more ∙ mod-eq_of_lt h.0 in
    let left : drop f.width (written ++ more) ≡ more = drop_front written more f.width (length-bytes_high_first f.width f.value) in
    ap (λ z. big_number f.width z ∷ numbers (widths fs) (drop f.width z)) flat
    ∙ ap (λ z. z ∷ numbers (widths fs) (drop f.width (written ++ more))) first
    ∙ ap (λ z. f.value ∷ numbers (widths fs) z) left
    ∙ ap (λ z. f.value ∷ z) (fields_read fs rest h.1)
