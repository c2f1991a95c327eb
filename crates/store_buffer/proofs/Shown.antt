-- Storing the oldest piece leaves what the storage shows through the pieces.
use Rattle.std.proofs.Common.{◌≡◌, ◌≢◌, ℕ, zero, suc, ◌+◌, ◌-◌, ◌<◌, ◌≤◌, true, false, List, [], ◌∷◌, length, refl, sym, ap, ◌∙◌, subst, inl, inr, arith}
use Rattle.std.specs.Prelude.{nat_le, slice_set, slice_get, drop, Option, Some, None, IfSome}
use Rattle.std.specs.Option.{option_or}
use Rattle.std.proofs.lemmas.Bool.{cases_lt}
use Rattle.std.proofs.lemmas.Option.{slice_get_past}
use Rattle.esa_model.specs.Apply.{Piece, put_all}
use Rattle.store_buffer.specs.Waiting.{byte_of, newest, shown, oldest_of, oldest_span, stored_in}
use Rattle.store_buffer.proofs.Newest.{or_assoc}

pub set_length : (s : List ℕ) (i x : ℕ) → length (slice_set s i x) ≡ length s
set_length [] i x = refl
set_length (y ∷ s) zero x = refl
set_length (y ∷ s) (suc i) x = ap (λ (k : ℕ). suc k) (set_length s i x)

pub put_length : (a : ℕ) (xs s : List ℕ) → length (put_all a xs s) ≡ length s
put_length a [] s = refl
put_length a (x ∷ xs) s = put_length (a + 1) xs (slice_set s a x) ∙ set_length s a x

get_same : (s : List ℕ) (i x : ℕ) → i < length s → slice_get (slice_set s i x) i ≡ Some x
get_same [] i x h = absurd (omega (arith, h))
get_same (y ∷ s) zero x h = refl
get_same (y ∷ s) (suc i) x h = get_same s i x (omega (arith, h))

pub get_other : (s : List ℕ) (i j x : ℕ) → i ≢ j → slice_get (slice_set s i x) j ≡ slice_get s j
get_other [] i j x h = refl
get_other (y ∷ s) zero zero x h = absurd (h refl)
get_other (y ∷ s) zero (suc j) x h = refl
get_other (y ∷ s) (suc i) zero x h = refl
get_other (y ∷ s) (suc i) (suc j) x h = get_other s i j x (λ e. h (ap (λ (k : ℕ). suc k) e))

-- a byte inside the storage after a piece was stored
pub put_get : (at a : ℕ) (xs s : List ℕ) → a < length s → slice_get (put_all at xs s) a ≡ option_or (byte_of (record { at = at; bytes = xs }) a) (slice_get s a)
put_get at a [] s h =
    elim (cases_lt a at) [
      | inl low ↦ let e : nat_le at a ≡ false = grind (arith, low) in rw e refl
      | inr high ↦ let e : nat_le at a ≡ true = grind (arith, high) in rw e refl
    ]
put_get at a (x ∷ xs) s h =
    let i = put_get (at + 1) a xs (slice_set s at x) (let e = set_length s at x in omega (arith, e, h)) in
    elim (cases_lt a at) [
      | inl low ↦
          let e : nat_le at a ≡ false = grind (arith, low) in
          let f : nat_le (at + 1) a ≡ false = grind (arith, low) in
          let ne : at ≢ a = omega (arith, low) in
          let o = get_other s at a x ne in
          rw (i, e, f, o) refl
      | inr high ↦ elim (cases_lt at a) [
        | inl above ↦
            let e : nat_le at a ≡ true = grind (arith, high) in
            let f : nat_le (at + 1) a ≡ true = grind (arith, above) in
            let ne : at ≢ a = omega (arith, above) in
            let o = get_other s at a x ne in
            let d : a - at ≡ suc (a - (at + 1)) = omega (arith, above) in
            rw (i, e, f, o, d) refl
        | inr even ↦
            let same : at ≡ a = omega (arith, high, even) in
            let e : nat_le at a ≡ true = grind (arith, high) in
            let f : nat_le (at + 1) a ≡ false = grind (arith, even) in
            let d : a - at ≡ 0 = omega (arith, even) in
            let o : slice_get (slice_set s at x) a ≡ Some x = subst (λ (k : ℕ). slice_get (slice_set s at x) k ≡ Some x) same (get_same s at x (omega (arith, h, same))) in
            rw (i, e, f, o, d) refl
      ]
    ]

-- a piece has no byte past its end
byte_past : (p : Piece) (a : ℕ) → p.at + length p.bytes ≤ a → byte_of p a ≡ None
byte_past p a h =
    let e : nat_le p.at a ≡ true = grind (arith, h) in
    rw e (slice_get_past p.bytes (a - p.at) (omega (arith, h)))

-- any byte after a piece was stored that lies inside
stored_get : (p : Piece) (s : List ℕ) (a : ℕ) → p.at + length p.bytes ≤ length s
    → slice_get (put_all p.at p.bytes s) a ≡ option_or (byte_of p a) (slice_get s a)
stored_get p s a h =
    elim (cases_lt a (length s)) [
      | inl low ↦ put_get p.at a p.bytes s low
      | inr high ↦
          let l = put_length p.at p.bytes s in
          slice_get_past (put_all p.at p.bytes s) a (omega (arith, l, high))
          ∙ sym (rw (byte_past p a (omega (arith, h, high))) (slice_get_past s a high))
    ]

one_shown : (p : Piece) (ps : List Piece) (s : List ℕ) → p.at + length p.bytes ≤ length s
    → (a : ℕ) → shown ps (put_all p.at p.bytes s) a ≡ shown (p ∷ ps) s a
one_shown p ps s h a =
    ap (λ (o : Option ℕ). option_or (newest ps a) o) (stored_get p s a h)
    ∙ sym (or_assoc (newest ps a) (byte_of p a) (slice_get s a))

pub left_shown : (ps : List Piece) (s : List ℕ) → IfSome (oldest_span ps) (λ w. w.at + w.len ≤ length s)
    → (a : ℕ) → shown (drop 1 ps) (stored_in (oldest_of ps) s) a ≡ shown ps s a
left_shown [] s h a = refl
left_shown (p ∷ ps) s h a = one_shown p ps s h a
