-- Parts that are put one after another behind what was there.
use Rattle.std.proofs.Common.{◌≡◌, ℕ, ◌+◌, ◌*◌, ◌<◌, ◌≤◌, List, [], ◌∷◌, ◌++◌, length, take, get_or, sym, ap, ◌∙◌, append_assoc, append-nil, arith}
use Rattle.std.specs.List.{flat_map}
use Rattle.std.proofs.lemmas.List.{take_more, take_all}
use Rattle.std.proofs.lemmas.Grind.{flat_map-append}

-- `i` of the parts `xs`, of `size` bytes each, stand behind the bytes `a`
pub record Putting {X : Type 0} (f : X → List ℕ) (size : ℕ) (xs : List X) (i : ℕ) (a b : List ℕ) (room now : ℕ) : Type 0 where
  pub items : b ≡ a ++ flat_map f (take i xs)
  pub capacity : room ≤ now
  pub long : length b ≡ length a + size * i

pub putting_start : {X : Type 0} (f : X → List ℕ) (size : ℕ) (xs : List X) (a : List ℕ) (room : ℕ) → Putting f size xs 0 a a room room
putting_start f size xs a room = record { items = sym (append-nil a); capacity = omega arith; long = omega arith }

one_more : {X : Type 0} (f : X → List ℕ) (xs : List X) (i : ℕ) (d : X) → i < length xs
    → flat_map f (take (i + 1) xs) ≡ flat_map f (take i xs) ++ f (get_or xs i d)
one_more f xs i d lt =
    ap (flat_map f) (take_more xs i d lt)
    ∙ flat_map-append f (take i xs) (get_or xs i d ∷ [])
    ∙ ap (λ z. flat_map f (take i xs) ++ z) (append-nil (f (get_or xs i d)))

pub putting_next : {X : Type 0} (f : X → List ℕ) (size : ℕ) (xs : List X) (i : ℕ) (d : X) (a b c : List ℕ) (room now new : ℕ) → i < length xs → Putting f size xs i a b room now
    → c ≡ b ++ f (get_or xs i d) → now ≤ new → length c ≡ length b + size → Putting f size xs (i + 1) a c room new
putting_next f size xs i d a b c room now new lt so grew more long = record {
  items =
      grew
      ∙ ap (λ z. z ++ f (get_or xs i d)) so.items
      ∙ append_assoc a (flat_map f (take i xs)) (f (get_or xs i d))
      ∙ ap (λ z. a ++ z) (sym (one_more f xs i d lt));
  capacity = omega (arith, so.capacity, more);
  long = omega (arith, so.long, long);
}

pub putting_end : {X : Type 0} (f : X → List ℕ) (size : ℕ) (xs : List X) (i : ℕ) (a b : List ℕ) (room now : ℕ) → length xs ≤ i → Putting f size xs i a b room now → b ≡ a ++ flat_map f xs
putting_end f size xs i a b room now le so = so.items ∙ ap (λ z. a ++ flat_map f z) (take_all i xs le)
