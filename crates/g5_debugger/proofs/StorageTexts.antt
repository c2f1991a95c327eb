-- The text of some bytes of the storage, byte by byte.
use Rattle.std.proofs.Common.{◌≡◌, ℕ, ◌+◌, ◌-◌, ◌<◌, ◌≤◌, true, false, nat_lt, List, [], ◌∷◌, ◌++◌, length, take, drop, get_or, refl, sym, ap, ◌∙◌, arith, append-nil, codes, length-drop, Some, None, inl, inr}
use Rattle.std.specs.Prelude.{slice_get}
use Rattle.std.proofs.lemmas.Bool.{lt-ltb}
use Rattle.std.proofs.lemmas.Bool.Decides.{nat_tests}
use Rattle.std.proofs.lemmas.Grind.{flat_map-append}
use Rattle.std.proofs.lemmas.List.{get_or-drop, length-take, take_more}
use Rattle.std.proofs.lemmas.Option.{get_or_from_slice_get, slice_get_cases, slice_get_within}
use Rattle.program_model.specs.Debugger.{storage_text}
use Rattle.run_model.specs.Numbers.{hex_text}
use Rattle.run_model.specs.Trace.{bytes_text}

-- so many bytes from an address on are there, and this is their text
pub record AreRead (storage : List ℕ) (at n : ℕ) (text : List ℕ) : Type 0 where
  pub text_is : text ≡ bytes_text (take n (drop at storage))
  pub there : length (take n (drop at storage)) ≡ n

pub none_read : (storage : List ℕ) (at : ℕ) (text : List ℕ) → text ≡ []
    → AreRead storage at 0 text
none_read storage at text none = record { text_is = none; there = refl }

pub one_read : (storage : List ℕ) (at n b : ℕ) (text more : List ℕ) → AreRead storage at n text
    → slice_get storage (at + n) ≡ Some b → more ≡ text ++ hex_text 2 b
    → AreRead storage at (n + 1) more
one_read storage at n b text more so got is =
    let back : List ℕ = drop at storage in
    let inside : at + n < length storage = slice_get_within storage (at + n) b got in
    let long : length back ≡ length storage - at = length-drop at storage in
    let last : get_or back n 0 ≡ b =
    get_or-drop at storage n 0 ∙ get_or_from_slice_get storage (at + n) b 0 got in
    let longer : take (n + 1) back ≡ take n back ++ b ∷ [] =
    take_more back n 0 (omega (arith, inside, long))
    ∙ ap (λ q. take n back ++ q ∷ []) last in
    let count = length-take (n + 1) back in
    record {
      text_is = is ∙ ap (λ t. t ++ hex_text 2 b) so.text_is
          ∙ ap (λ t. bytes_text (take n back) ++ t) (sym (append-nil (hex_text 2 b)))
          ∙ sym (flat_map-append (λ q. hex_text 2 q) (take n back) (b ∷ []))
          ∙ ap bytes_text (sym longer);
      there = omega (arith, count, inside, long);
    }

-- a byte that is not there
pub past_storage : (storage : List ℕ) (at n count : ℕ) → n < count
    → slice_get storage (at + n) ≡ None → codes "outside" ≡ storage_text storage at count
past_storage storage at n count lt none =
    let out : nat_lt (length storage) (at + count) ≡ true =
    lt-ltb (length storage) (at + count) (omega (arith, lt, past storage (at + n) none)) in
    rw out refl
  where
    past : (xs : List ℕ) (i : ℕ) → slice_get xs i ≡ None → length xs ≤ i
    past xs i e = elim ((slice_get_cases xs i).1) [
      | inl h ↦ absurd (cc (h.2, e))
      | inr h ↦ h.0
    ]

pub all_read : (storage : List ℕ) (at n count : ℕ) (text : List ℕ) → n ≡ count → 1 ≤ count
    → AreRead storage at n text → text ≡ storage_text storage at count
all_read storage at n count text e some so =
    let long = length-drop at storage in
    let taken = length-take n (drop at storage) in
    let within : nat_lt (length storage) (at + count) ≡ false =
    grind (arith, nat_tests, e, some, long, taken, so.there) in
    so.text_is ∙ ap (λ q. bytes_text (take q (drop at storage))) e ∙ rw within refl

-- two digits each
pub length_byte : (b : ℕ) → length (hex_text 2 b) ≡ 2
unfolding hex_text
length_byte b = refl
