-- How much of a card the relocations read so far fill.
use Rattle.std.proofs.Common.{◌≡◌, ℕ, ◌+◌, ◌-◌, ◌*◌, ◌<◌, ◌≤◌, Bool, true, false, cond, ltb, List, [], ◌∷◌, ◌++◌, length, drop, map, Some, None, refl, sym, ◌∙◌, ap, subst, arith, append_assoc, length-append, length-drop}
use Rattle.std.proofs.lemmas.Bool.Decides.{nat_tests}
use Rattle.std.proofs.lemmas.List.{length-map, map-append}
use Rattle.std.proofs.lemmas.List.Folds.{list_all-append}
use Rattle.std.specs.List.{list_all}
use Rattle.deck_model.specs.Card.{raw_item, rld_item, omits_next, short_item, whole_item, no_item}
use Rattle.deck_model.specs.CardWriting.{rld_item_fits, rld_size, same_pointers}
use Rattle.deck_model.specs.declared.cards.RawItem.{RawItem}
use Rattle.deck_model.specs.declared.cards.RldItem.{RldItem}
use Rattle.card_deck.specs.Results.{RldFit}

size_push : (xs : List RldItem) (o : Bool) (i j : RldItem) → rld_size o (xs ++ i ∷ j ∷ []) ≡ rld_size o (xs ++ i ∷ []) + cond (same_pointers i j) 4 8
size_push [] o i j = omega arith
size_push (x ∷ []) o i j = let r = size_push [] (same_pointers x i) i j in omega (arith, r)
size_push (x ∷ y ∷ ys) o i j = let r = size_push (y ∷ ys) (same_pointers x y) i j in omega (arith, r)

-- so many bytes of a card, of which some are left; what the next item may add
pub record Filling (size left : ℕ) (omits : Bool) (before : RawItem) (items : List RawItem) : Type 0 where
  pub some : size ≤ 8 * length items + left
  pub each : list_all rld_item_fits (map rld_item items) ≡ true
  pub filled : rld_size false (map rld_item items) + left ≤ size
  pub next : (j : RldItem) → (omits ≡ true → same_pointers (rld_item before) j ≡ true) → rld_size false (map rld_item items ++ j ∷ []) + left ≤ size + cond omits 4 8

pub filling_start : (size : ℕ) → Filling size size false no_item []
filling_start size = record { some = omega arith; each = refl; filled = omega arith; next = λ j h. omega arith }

some_test : (t : Bool) (x i : RawItem) → cond t None (Some x) ≡ Some i → (t ≡ false) × (x ≡ i)
some_test true x i e = absurd (grind (arith, nat_tests))
some_test false x i e = (refl, grind (arith, nat_tests))

short_same : (b i : RawItem) (bytes : List ℕ) → short_item b bytes ≡ i → same_pointers (rld_item b) (rld_item i) ≡ true
short_same b i bytes e = let same : same_pointers (rld_item b) (rld_item (short_item b bytes)) ≡ true = grind (arith, nat_tests) in ap (λ x. same_pointers (rld_item b) (rld_item x)) (sym e) ∙ same

read_facts : (o : Bool) (b i : RawItem) (bytes : List ℕ) → raw_item o b bytes ≡ Some i → (cond o 4 8 ≤ length bytes) × (o ≡ true → same_pointers (rld_item b) (rld_item i) ≡ true)
read_facts true b i bytes e =
    let f = some_test (ltb (length bytes) 4) (short_item b bytes) i e in
    let t = f.0 in
    let long : 4 ≤ length bytes = grind (arith, nat_tests) in
    (long, λ h. short_same b i bytes f.1)
read_facts false b i bytes e =
    let f = some_test (ltb (length bytes) 8) (whole_item bytes) i e in
    let t = f.0 in
    let long : 8 ≤ length bytes = grind (arith, nat_tests) in
    (long, λ h. absurd (grind (arith, nat_tests)))

item_fits : (i : RawItem) → i.address < 16777216 → rld_item_fits (rld_item i) ≡ true
item_fits i h = grind (arith, nat_tests)

all_push : (xs : List RldItem) (i : RldItem) → list_all rld_item_fits xs ≡ true → rld_item_fits i ≡ true → list_all rld_item_fits (xs ++ i ∷ []) ≡ true
all_push xs i h k = list_all-append rld_item_fits xs (i ∷ []) ∙ rw h (rw k refl)

eight : (o : Bool) → cond o 4 8 ≤ 8
eight true = omega arith
eight false = omega arith

next_fits : (b : Bool) (m size left : ℕ) (s : Bool) → (b ≡ true → s ≡ true) → m + left ≤ size → m + cond s 4 8 + left ≤ size + cond b 4 8
next_fits true m size left s h k = rw (h refl) (omega (arith, k))
next_fits false m size left true h k = omega (arith, k)
next_fits false m size left false h k = omega (arith, k)

pub filling_next : (size : ℕ) (o : Bool) (b i : RawItem) (items : List RawItem) (bytes after : List ℕ) → Filling size (length bytes) o b items → raw_item o b bytes ≡ Some i → i.address < 16777216 → after ≡ drop (cond o 4 8) bytes → Filling size (length after) (omits_next i) i (items ++ i ∷ [])
filling_next size o b i items bytes after f e h a =
    let x = rld_item i in
    let r = read_facts o b i bytes e in
    let m : map rld_item (items ++ i ∷ []) ≡ map rld_item items ++ x ∷ [] = map-append rld_item items (i ∷ []) in
    let l : length after ≡ length bytes - cond o 4 8 = ap length a ∙ length-drop (cond o 4 8) bytes in
    let one = f.next x r.1 in
    let filled : rld_size false (map rld_item items ++ x ∷ []) + length after ≤ size = omega (arith, one, l, r.0) in
    let n : length (items ++ i ∷ []) ≡ length items + 1 = length-append items (i ∷ []) in
    let old = f.some in
    record {
      some = omega (arith, old, n, l, r.0, eight o);
      each = ap (list_all rld_item_fits) m ∙ all_push (map rld_item items) x f.each (item_fits i h);
      filled = let P : List RldItem → Type 0 = λ xs. rld_size false xs + length after ≤ size in subst P (sym m) filled;
      next = λ j k.
          let P : List RldItem → Type 0 = λ xs. rld_size false (xs ++ j ∷ []) + length after ≤ size + cond (omits_next i) 4 8 in
          let Q : List RldItem → Type 0 = λ xs. rld_size false xs + length after ≤ size + cond (omits_next i) 4 8 in
          let s = size_push (map rld_item items) false x j in
          let g = next_fits (omits_next i) (rld_size false (map rld_item items ++ x ∷ [])) size (length after) (same_pointers x j) k filled in
          let t : rld_size false (map rld_item items ++ x ∷ j ∷ []) + length after ≤ size + cond (omits_next i) 4 8 = omega (arith, s, g) in
          subst P (sym m) (subst Q (sym (append_assoc (map rld_item items) (x ∷ []) (j ∷ []))) t);
    }

pub filling_end : (size left : ℕ) (o : Bool) (b : RawItem) (items : List RawItem) → Filling size left o b items → left ≡ 0 → 0 < size → RldFit size (map rld_item items)
filling_end size left o b items f z h =
    let s = f.some in
    let n : length (map rld_item items) ≡ length items = length-map items rld_item in
    let g = f.filled in
    record { some = omega (arith, s, n, z, h); each = f.each; filled = omega (arith, g, z) }
