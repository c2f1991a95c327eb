-- Cards of relocations that share their pointers, written card by card.
use Rattle.std.proofs.Common.{◌≡◌, ◌≢◌, ℕ, zero, suc, ◌+◌, ◌*◌, ◌<◌, ◌≤◌, Bool, true, false, cond, leb, ltb, eqb, ◌&&◌, IsTrue, List, [], ◌∷◌, ◌++◌, length, refl, sym, ◌∙◌, ap, subst, arith, append_assoc}
use Rattle.std.proofs.lemmas.Bool.Decides.{nat_tests}
use Rattle.std.specs.List.{list_all}
use Rattle.deck_model.specs.Card.{rld}
use Rattle.deck_model.specs.CardWriting.{card_bytes, card_fits, rld_size, rld_item_fits, next_same}
use Rattle.deck_model.specs.declared.cards.Card.{Card}
use Rattle.deck_model.specs.declared.cards.RldItem.{RldItem}
use Rattle.deck_cards.specs.RelocationCards.{rld_closed, rld_cards, SharePointers}
use Rattle.deck_cards.specs.NumberedCards.{sequence, deck_bytes}

pub shared_push : (t p : ℕ) (is : List RldItem) (i : RldItem) → SharePointers t p is → (i.target ≡ t) × (i.place ≡ p) × (rld_item_fits i ≡ true) → SharePointers t p (is ++ i ∷ [])
shared_push t p [] i h k = (k.0, k.1, k.2, tt)
shared_push t p (j ∷ is) i h k = (h.0, h.1, h.2, shared_push t p is i h.3 k)

shared_fit : (t p : ℕ) (is : List RldItem) → SharePointers t p is → list_all rld_item_fits is ≡ true
shared_fit t p [] h = refl
shared_fit t p (i ∷ is) h = rw h.2 (shared_fit t p is h.3)

-- an item after one by the same section omits its pointers
shared_next : (t p : ℕ) (i : RldItem) (is : List RldItem) → SharePointers t p (i ∷ is) → rld_size (next_same i is) is ≤ cond (next_same i is) 0 4 + 4 * length is → rld_size (next_same i is) is ≤ 4 * length is
shared_next t p i [] h k = omega arith
shared_next t p i (j ∷ js) h k =
    let a : eqb j.target i.target ≡ true = let x = h.0 in let y = h.3.0 in grind (arith, nat_tests) in
    let b : eqb j.place i.place ≡ true = let x = h.1 in let y = h.3.1 in grind (arith, nat_tests) in
    let s : next_same i (j ∷ js) ≡ true = rw a b in
    let size : ℕ = rld_size (next_same i (j ∷ js)) (j ∷ js) in
    let P : Bool → Type 0 = λ c. size ≤ cond c 0 4 + 4 * length (j ∷ js) in
    let m = subst P s k in
    omega (arith, m)

shared_size : (t p : ℕ) (omits : Bool) (is : List RldItem) → SharePointers t p is → rld_size omits is ≤ cond omits 0 4 + 4 * length is
shared_size t p omits [] h = omega arith
shared_size t p true (i ∷ is) h = let r = shared_next t p i is h (shared_size t p (next_same i is) is h.3) in omega (arith, r)
shared_size t p false (i ∷ is) h = let r = shared_next t p i is h (shared_size t p (next_same i is) is h.3) in omega (arith, r)

pub card_of_shared : (t p : ℕ) (is : List RldItem) → 0 < length is → length is ≤ 13 → SharePointers t p is → IsTrue (card_fits (rld is))
card_of_shared t p is a b h =
    let s : rld_size false is ≤ 4 + 4 * length is = shared_size t p false is h in
    let x : ltb 0 (length is) ≡ true = grind (arith, nat_tests) in
    let m : rld_size false is ≤ 56 = omega (arith, s, b) in
    let y : leb (rld_size false is) 56 ≡ true = grind (arith, nat_tests) in
    rw x (rw (shared_fit t p is h) (rw y refl))

pub none_closed : (is : List RldItem) (number : ℕ) (old : List ℕ) (more : List Card) → length is ≡ 0 → old ++ deck_bytes number more ≡ old ++ deck_bytes number (rld_closed is more)
none_closed [] number old more e = refl
none_closed (i ∷ is) number old more e = absurd (omega arith)

pub one_closed : (is : List RldItem) (number next : ℕ) (old new : List ℕ) (more : List Card) → length is ≢ 0 → next ≡ number + 1 → new ≡ old ++ card_bytes (rld is) (sequence number) → new ++ deck_bytes next more ≡ old ++ deck_bytes number (rld_closed is more)
one_closed [] number next old new more e n h = absurd (e refl)
one_closed (i ∷ is) number next old new more e n h =
    ap (λ k. new ++ deck_bytes k more) n
    ∙ (ap (λ xs. xs ++ deck_bytes (number + 1) more) h ∙ append_assoc old (card_bytes (rld (i ∷ is)) (sequence number)) (deck_bytes (number + 1) more))

pub full_chunk : (more : List Card) (held is : List RldItem) (i : RldItem) → length held ≡ 13 → rld_closed held (rld_cards more (i ∷ []) is) ≡ rld_cards more held (i ∷ is)
full_chunk more held is i e = let t : eqb (length held) 13 ≡ true = grind (arith, nat_tests) in sym (rw t refl)

pub part_chunk : (more : List Card) (held is : List RldItem) (i : RldItem) → length held ≢ 13 → rld_cards more (held ++ i ∷ []) is ≡ rld_cards more held (i ∷ is)
part_chunk more held is i e = let t : eqb (length held) 13 ≡ false = grind (arith, nat_tests) in sym (rw t refl)
