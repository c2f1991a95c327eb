-- A deck made of cards that can be written is read as its cards.
use Rattle.std.proofs.Common.{◌≡◌, ℕ, zero, suc, ◌+◌, ◌-◌, ◌*◌, ◌/◌, ◌%◌, ◌<◌, ◌≤◌, Bool, true, false, cond, eqb, List, [], ◌∷◌, ◌++◌, length, take, drop, Result, Ok, Err, refl, sym, ◌∙◌, ap, subst, arith, length-append}
use Rattle.std.proofs.lemmas.Bool.Decides.{nat_tests}
use Rattle.std.proofs.Math.Seq.{take-append_seam, drop-append_seam}
use Rattle.deck_model.specs.Card.{card_of}
use Rattle.deck_model.specs.CardWriting.{card_bytes}
use Rattle.deck_model.specs.Deck.{is_end, with_first, first_card, cards_from, cards_of, ends, listing_of, listing_or_refusal, listing}
use Rattle.deck_model.specs.declared.cards.Card.{Card}
use Rattle.deck_model.specs.declared.cards.CardRefusal.{CardRefusal}
use Rattle.deck_model.specs.declared.decks.Numbered.{Numbered}
use Rattle.deck_model.specs.declared.decks.DeckRefusal.{DeckRefusal}
use Rattle.deck_cards.specs.Writable.{AreWritable}
use Rattle.deck_cards.proofs.Lengths.{readable}
use Rattle.deck_cards.specs.NumberedCards.{sequence, numbered, deck_bytes}

length-sequence : (n : ℕ) → length (sequence n) ≡ 8
unfolding sequence
length-sequence n = refl

take_front : (xs ys : List ℕ) (n : ℕ) → length xs ≡ n → take n (xs ++ ys) ≡ xs
take_front xs ys n h = ap (λ k. take k (xs ++ ys)) (sym h) ∙ take-append_seam xs ys

drop_front : (xs ys : List ℕ) (n : ℕ) → length xs ≡ n → drop n (xs ++ ys) ≡ ys
drop_front xs ys n h = ap (λ k. drop k (xs ++ ys)) (sym h) ∙ drop-append_seam xs ys

pub cards_read : (cs : List Card) (n m : ℕ) → AreWritable cs → cards_from (length cs) n m (deck_bytes n cs) ≡ Ok (numbered n m cs)
cards_read [] n m h = refl
cards_read (c ∷ cs) n m h =
    let r = readable c h.0 h.1 in
    let xs = card_bytes c (sequence n) in
    let ys = deck_bytes (n + 1) cs in
    let w : ℕ = cond (is_end c) (m + 1) m in
    let l : length xs ≡ 80 = r.long (sequence n) (length-sequence n) in
    ap (λ bs. first_card n m (card_of bs) (λ owner. cards_from (length cs) (n + 1) owner (drop 80 (xs ++ ys)))) (take_front xs ys 80 l)
    ∙ (ap (λ r. first_card n m r (λ owner. cards_from (length cs) (n + 1) owner (drop 80 (xs ++ ys)))) (r.back (sequence n))
    ∙ (ap (λ bs. with_first (record { number = n; owner = m; card = c }) (cards_from (length cs) (n + 1) w bs)) (drop_front xs ys 80 l)
    ∙ ap (with_first (record { number = n; owner = m; card = c })) (cards_read cs (n + 1) w h.2)))

pub length_deck : (cs : List Card) (n : ℕ) → AreWritable cs → length (deck_bytes n cs) ≡ 80 * length cs
length_deck [] n h = refl
length_deck (c ∷ cs) n h =
    let l = (readable c h.0 h.1).long (sequence n) (length-sequence n) in
    let r = length_deck cs (n + 1) h.2 in
    length-append (card_bytes c (sequence n)) (deck_bytes (n + 1) cs) ∙ omega (arith, l, r)

pub deck_read : (cs : List Card) → AreWritable cs → ends false (numbered 1 0 cs) ≡ true → listing (deck_bytes 1 cs) ≡ Ok (listing_of (numbered 1 0 cs))
unfolding listing cards_of
deck_read cs h e =
    let l = length_deck cs 1 h in
    let whole : length (deck_bytes 1 cs) % 80 ≡ 0 = omega (arith, l) in
    let count : length (deck_bytes 1 cs) / 80 ≡ length cs = omega (arith, l) in
    let t : eqb (length (deck_bytes 1 cs) % 80) 0 ≡ true = grind (arith, nat_tests) in
    rw t (ap (λ k. listing_or_refusal (cards_from k 1 0 (deck_bytes 1 cs))) count
    ∙ (ap listing_or_refusal (cards_read cs 1 0 h) ∙ rw e refl))
