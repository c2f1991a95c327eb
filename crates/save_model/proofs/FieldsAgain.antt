-- Bytes that are read as fields are written as they stood.
use Rattle.std.proofs.Common.{◌≡◌, ℕ, zero, suc, ◌+◌, ◌*◌, ◌/◌, ◌%◌, ◌^◌, ◌<◌, ◌≤◌, List, [], ◌∷◌, ◌++◌, length, drop, take, refl, sym, ap, ◌∙◌, append_assoc, append-nil, arith, length-drop, subst}
use Rattle.std.specs.Prelude.{slice_index}
use Rattle.std.specs.Int.{byte_at}
use Rattle.std.proofs.Math.Nat.{mod-eq_of_lt, mod-lt, mul-add-mod_self_right}
use Rattle.std.proofs.lemmas.Nat.{div-mul-add}
use Rattle.std.proofs.lemmas.List.{length-take-le, take-append-drop}
use Rattle.byteorder.specs.Endian.{big_bytes, big_number, big_from}
use Rattle.byteorder.specs.Numbers.{big_from-cons, big_from-bytes, big_from-lt, big_from-take, length-bytes_high_first}
use Rattle.save_model.specs.Fields.{Field, AllFit, AreBytes, bytes_of_fields, widths, values, size, numbers, behind}
use Rattle.save_model.proofs.FieldsRead.{fields_flat, fit_both}

-- ---- lists of bytes

pub drop_bytes : (w : ℕ) (bs : List ℕ) → AreBytes bs → AreBytes (drop w bs)
drop_bytes zero bs h = h
drop_bytes (suc w) [] h = h
drop_bytes (suc w) (b ∷ bs) h = drop_bytes w bs (λ i. h (suc i))

take_bytes : (w : ℕ) (bs : List ℕ) → AreBytes bs → AreBytes (take w bs)
take_bytes zero bs h i = omega arith
take_bytes (suc w) [] h i = h i
take_bytes (suc w) (b ∷ bs) h zero = h zero
take_bytes (suc w) (b ∷ bs) h (suc i) = take_bytes w bs (λ j. h (suc j)) i

pub behind_bytes : (ws bs : List ℕ) → AreBytes bs → AreBytes (behind ws bs)
behind_bytes [] bs h = h
behind_bytes (w ∷ ws) bs h = behind_bytes ws (drop w bs) (drop_bytes w bs h)

byte_small : (k x : ℕ) → byte_at k x < 256
byte_small zero x = mod-lt x (omega arith)
byte_small (suc k) x = mod-lt (x / 256 ^ suc k) (omega arith)

written_bytes : (w x : ℕ) → AreBytes (big_bytes w x)
written_bytes zero x i = omega arith
written_bytes (suc w) x zero = byte_small w x
written_bytes (suc w) x (suc i) = written_bytes w x i

-- ---- the number of so many bytes says them

digits_alike : (c a b r s : ℕ) → r < c → s < c → a * c + r ≡ b * c + s → (a ≡ b) × (r ≡ s)
digits_alike c a b r s low high e = (
  sym (div-mul-add a c r low) ∙ ap (λ z. z / c) e ∙ div-mul-add b c s high,
  sym (mul-add-mod_self_right a c r ∙ mod-eq_of_lt low) ∙ ap (λ z. z % c) e ∙ mul-add-mod_self_right b c s ∙ mod-eq_of_lt high,
)

bytes_alike : (n : ℕ) (xs ys : List ℕ) → length xs ≡ n → length ys ≡ n → AreBytes xs → AreBytes ys → big_from 0 n xs ≡ big_from 0 n ys → xs ≡ ys
bytes_alike zero [] [] lx ly hx hy e = refl
bytes_alike zero [] (y ∷ ys) lx ly hx hy e = absurd (omega (arith, ly))
bytes_alike zero (x ∷ xs) ys lx ly hx hy e = absurd (omega (arith, lx))
bytes_alike (suc n) [] ys lx ly hx hy e = absurd (omega (arith, lx))
bytes_alike (suc n) (x ∷ xs) [] lx ly hx hy e = absurd (omega (arith, ly))
bytes_alike (suc n) (x ∷ xs) (y ∷ ys) lx ly hx hy e =
    let flat : x * 256 ^ n + big_from 0 n xs ≡ y * 256 ^ n + big_from 0 n ys =
    ap (λ z. x * 256 ^ n + z) (sym (big_from-cons 0 n x xs)) ∙ e ∙ ap (λ z. y * 256 ^ n + z) (big_from-cons 0 n y ys) in
    let low = big_from-lt 0 n xs (λ i. hx (suc i)) in
    let high = big_from-lt 0 n ys (λ i. hy (suc i)) in
    let both = digits_alike (256 ^ n) x y (big_from 0 n xs) (big_from 0 n ys) low high flat in
    ap (λ z. z ∷ xs) both.0
    ∙ ap (λ z. y ∷ z) (bytes_alike n xs ys (omega (arith, lx)) (omega (arith, ly)) (λ i. hx (suc i)) (λ i. hy (suc i)) both.1)

-- one number
number_again : (w : ℕ) (bs : List ℕ) → w ≤ length bs → AreBytes bs → big_bytes w (big_number w bs) ++ drop w bs ≡ bs
number_again w bs room h =
    let n : ℕ = big_number w bs in
    let written : List ℕ = big_bytes w n in
    let small : n < 256 ^ w = big_from-lt 0 w bs h in
    let same : big_from 0 w written ≡ big_from 0 w (take w bs) =
    ap (λ z. big_from 0 w z) (sym (append-nil written)) ∙ big_from-bytes w n [] ∙ mod-eq_of_lt small ∙ sym (big_from-take 0 w w bs (omega arith)) in
    let alike : written ≡ take w bs =
    bytes_alike w written (take w bs) (length-bytes_high_first w n) (length-take-le w bs room) (written_bytes w n) (take_bytes w bs h) same in
    ap (λ z. z ++ drop w bs) alike ∙ take-append-drop w bs

-- ---- fields

fields_again : (fs : List Field) (bs : List ℕ) → size fs ≤ length bs → AreBytes bs → values fs ≡ numbers (widths fs) bs → bytes_of_fields fs ++ behind (widths fs) bs ≡ bs
fields_again [] bs room h e = refl
fields_again (f ∷ fs) bs room h e =
    let first : f.value ≡ big_number f.width bs = ap (λ xs. slice_index xs 0) e in
    let more : values fs ≡ numbers (widths fs) (drop f.width bs) = ap (λ xs. drop 1 xs) e in
    let left = length-drop f.width bs in
    append_assoc (big_bytes f.width f.value) (bytes_of_fields fs) (behind (widths fs) (drop f.width bs))
    ∙ ap (λ z. big_bytes f.width f.value ++ z) (fields_again fs (drop f.width bs) (omega (arith, left, room)) (drop_bytes f.width bs h) more)
    ∙ ap (λ z. big_bytes f.width z ++ drop f.width bs) first
    ∙ number_again f.width bs (omega (arith, room)) h

fields_fit : (fs : List Field) (bs : List ℕ) → AreBytes bs → values fs ≡ numbers (widths fs) bs → AllFit fs
fields_fit [] bs h e = tt
fields_fit (f ∷ fs) bs h e =
    let first : f.value ≡ big_number f.width bs = ap (λ xs. slice_index xs 0) e in
    let more : values fs ≡ numbers (widths fs) (drop f.width bs) = ap (λ xs. drop 1 xs) e in
    let small : big_number f.width bs < 256 ^ f.width = big_from-lt 0 f.width bs h in
    (subst (λ z. z < 256 ^ f.width) (sym first) small, fields_fit fs (drop f.width bs) (drop_bytes f.width bs h) more)

-- these fields stood in front of a rest
pub record Stood (fs : List Field) (bs rest : List ℕ) : Type 0 where
  pub again : bytes_of_fields fs ++ rest ≡ bs
  pub fit : AllFit fs

pub stood : (fs : List Field) (ws bs : List ℕ) → widths fs ≡ ws → values fs ≡ numbers ws bs → size fs ≤ length bs → AreBytes bs → Stood fs bs (behind ws bs)
stood fs ws bs same e room h =
    let read : values fs ≡ numbers (widths fs) bs = e ∙ ap (λ z. numbers z bs) (sym same) in
    record {
      again = ap (λ z. bytes_of_fields fs ++ behind z bs) (sym same) ∙ fields_again fs bs room h read;
      fit = fields_fit fs bs h read;
    }

pub stood_both : (fs gs : List Field) (bs between rest : List ℕ) → Stood fs bs between → Stood gs between rest → Stood (fs ++ gs) bs rest
stood_both fs gs bs between rest a b = record {
  again = fields_flat fs gs rest ∙ ap (λ z. bytes_of_fields fs ++ z) b.again ∙ a.again;
  fit = fit_both fs gs a.fit b.fit;
}

pub stood_none : (bs : List ℕ) → Stood [] bs bs
stood_none bs = record { again = refl; fit = tt }

-- ---- how long they are

pub numbers_long : (ws bs : List ℕ) → length (numbers ws bs) ≡ length ws
numbers_long [] bs = refl
numbers_long (w ∷ ws) bs = let e = numbers_long ws (drop w bs) in omega (arith, e)

abbrev pub total : List ℕ → ℕ
total [] = 0
total (w ∷ ws) = w + total ws

pub behind_long : (ws bs : List ℕ) → total ws ≤ length bs → length (behind ws bs) + total ws ≡ length bs
behind_long [] bs room = omega arith
behind_long (w ∷ ws) bs room =
    let left = length-drop w bs in
    let e = behind_long ws (drop w bs) (omega (arith, left, room)) in
    omega (arith, e, left, room)
