-- The generated deck has an image, which is entered at X'10000'.
use Rattle.std.proofs.Common.{◌≡◌, ℕ, zero, suc, ◌+◌, ◌-◌, ◌*◌, ◌/◌, ◌%◌, ◌<◌, ◌≤◌, true, false, List, [], ◌∷◌, ◌++◌, length, take, drop, Option, Some, None, Ok, refl, sym, ◌∙◌, ap, subst, arith, length-append, length-drop, length-take, lit<, lit≤}
use Rattle.std.specs.Prelude.{◌==◌, nat_lt, if◌then◌else◌, IsOkAnd}
use Rattle.std.specs.List.{find}
use Rattle.std.proofs.Math.Seq.{take-append_seam, drop-append_seam}
use Rattle.std.proofs.lemmas.Bool.Decides.{nat_tests}
use Rattle.byteorder.specs.Endian.{big_bytes}
use Rattle.deck_model.specs.Card.{card_of, esd, txt, rld, put}
use Rattle.deck_model.specs.CardWriting.{card_bytes, esd_bytes, txt_bytes, rld_card_bytes, end_bytes, esd_item_bytes, with_data, blank_card}
use Rattle.deck_model.specs.Deck.{is_end, first_card, with_first, cards_from, cards_of, Listing, listing_of, listing, listing_or_refusal}
use Rattle.deck_model.specs.Image.{Image, image, image_at, image_of, violation, later_violation, places, section, is_text_outside, unless_refused}
use Rattle.deck_model.specs.declared.cards.Card.{Card}
use Rattle.deck_model.specs.declared.cards.Card.TheVariants.{End}
use Rattle.deck_model.specs.declared.decks.Numbered.{Numbered}
use Rattle.deck_model.specs.declared.decks.Placed.{Placed}
use Rattle.deck_model.specs.declared.decks.Text.{Text}
use Rattle.deck_model.specs.declared.decks.DeckRefusal.{DeckRefusal}
use Rattle.card_deck.proofs.Law.{esd_back, txt_back, rld_back, end_none_back}
use Rattle.program_model.specs.GeneratedDeck.{text, text_cards, cards, deck, restart_address}
use Rattle.program_model.specs.GeneratedDeck.{section as gen_section}
use Rattle.deck_gen.specs.Parts.{blank_sequence, bytes_of_cards}
use Rattle.deck_gen.proofs.Lengths.{length-text}

-- ---- the cards read back

abbrev one : Card → List ℕ
one c = card_bytes c blank_sequence

pub record Reads (c : Card) : Type 0 where
  long : length (one c) ≡ 80
  back : card_of (one c) ≡ Ok c

abbrev pub AllRead : List Card → Type 0
AllRead [] = Unit {0}
AllRead (c ∷ cs) = Reads c × AllRead cs

abbrev numbered : ℕ → ℕ → List Card → List Numbered
numbered n m [] = []
numbered n m (c ∷ cs) =
    record { number = n; owner = m; card = c }
    ∷ numbered (n + 1) (if is_end c then m + 1 else m) cs

front : (xs ys : List ℕ) → length xs ≡ 80 → take 80 (xs ++ ys) ≡ xs
front xs ys h = ap (λ k. take k (xs ++ ys)) (sym h) ∙ take-append_seam xs ys

behind : (xs ys : List ℕ) → length xs ≡ 80 → drop 80 (xs ++ ys) ≡ ys
behind xs ys h = ap (λ k. drop k (xs ++ ys)) (sym h) ∙ drop-append_seam xs ys

cards_back :
    (cs : List Card) (n m : ℕ) → AllRead cs
    → cards_from (length cs) n m (bytes_of_cards cs) ≡ Ok (numbered n m cs)
cards_back [] n m h = refl
cards_back (c ∷ cs) n m h =
    let rest = bytes_of_cards cs in
    let whole = one c ++ rest in
    let owner = if is_end c then m + 1 else m in
    let first : Numbered = record { number = n; owner = m; card = c } in
    let r = h.0 in
    ap (λ k. first_card n m k (λ o. cards_from (length cs) (n + 1) o (drop 80 whole)))
    (ap card_of (front (one c) rest r.long) ∙ r.back)
    ∙ ap (λ xs. with_first first (cards_from (length cs) (n + 1) owner xs))
    (behind (one c) rest r.long)
    ∙ ap (with_first first) (cards_back cs (n + 1) owner h.1)

pub length-cards : (cs : List Card) → AllRead cs → length (bytes_of_cards cs) ≡ 80 * length cs
length-cards [] h = refl
length-cards (c ∷ cs) h =
    let r = h.0 in
    let l = r.long in
    let more = length-cards cs h.1 in
    omega (arith, length-append (one c) (bytes_of_cards cs), l, more)

cards_of_back :
    (cs : List Card) → AllRead cs → cards_of (bytes_of_cards cs) ≡ Ok (numbered 1 0 cs)
unfolding cards_of
cards_of_back cs h =
    let bytes = bytes_of_cards cs in
    let l = length-cards cs h in
    let z : (length bytes % 80 == 0) ≡ true = grind (arith, nat_tests) in
    let d : length bytes / 80 ≡ length cs = omega (arith, l) in
    rw z (ap (λ k. cards_from k 1 0 bytes) d ∙ cards_back cs 1 0 h)

-- ---- the generated cards do

length-txt :
    (at : ℕ) (bytes : List ℕ) → length bytes ≤ 64
    → length (txt_bytes 1 at bytes blank_sequence) ≡ 80
unfolding txt_bytes with_data put blank_card
length-txt at bytes h =
    let card = put 10 (big_bytes 2 (length bytes)) (put 14 (big_bytes 2 1)
    (put 5 (big_bytes 3 at) (blank_card 0xE3E7E3 blank_sequence))) in
    let l = length-append bytes (drop (16 + length bytes) card) in
    let m = length-drop (16 + length bytes) card in
    omega (arith, l, m)

section_reads : Reads (esd 1 (gen_section ∷ []))
unfolding esd_bytes esd_item_bytes with_data put blank_card
section_reads = record {
  long = refl;
  back =
      esd_back 1 (gen_section ∷ []) blank_sequence (lit< tt) (lit< tt) (lit≤ tt) (refl, tt) refl;
}

restart_reads : Reads (rld (restart_address ∷ []))
unfolding rld_card_bytes with_data put blank_card
restart_reads = record {
  long = refl;
  back =
      rld_back (restart_address ∷ []) blank_sequence (lit< tt) (lit≤ tt)
      (lit< tt, lit< tt, tt) refl;
}

end_reads : Reads (End None)
unfolding end_bytes put blank_card
end_reads = record { long = refl; back = end_none_back blank_sequence }

text_reads :
    (at : ℕ) (bytes : List ℕ) → at < 10000 → length bytes ≡ 56 → Reads (txt 1 at bytes)
text_reads at bytes h l = record {
  long = length-txt at bytes (omega (arith, l));
  back =
      txt_back 1 at bytes blank_sequence (lit< tt) (grind (arith, nat_tests)) (omega (arith, l))
      (omega (arith, l));
}

length-front : (n : ℕ) (xs : List ℕ) → n ≤ length xs → length (take n xs) ≡ n
length-front n xs h = simp length-take (omega arith)

texts_read :
    (k at : ℕ) (t : List ℕ) → length t ≡ 56 * k → at + 56 * k < 10000
    → AllRead (text_cards k at t)
texts_read zero at t l h = tt
texts_read (suc k) at t l h =
    let d = length-drop 56 t in (
      text_reads at (take 56 t) (omega arith) (length-front 56 t (omega arith)),
      texts_read k (at + 56) (drop 56 t) (omega (arith, d)) (omega arith),
    )

both_read : (cs ds : List Card) → AllRead cs → AllRead ds → AllRead (cs ++ ds)
both_read [] ds h k = k
both_read (c ∷ cs) ds h k = (h.0, both_read cs ds h.1 k)

abbrev last_two : List Card
last_two = rld (restart_address ∷ []) ∷ End None ∷ []

pub all_read : (x : ℕ) → AllRead (cards x)
unfolding cards
all_read x =
    both_read (esd 1 (gen_section ∷ []) ∷ text_cards 11 0 (text x)) last_two
    (section_reads, texts_read 11 0 (text x) (length-text x) (lit< tt))
    (restart_reads, (end_reads, tt))

-- ---- the deck as lists

abbrev texts_from : ℕ → ℕ → ℕ → List ℕ → List Text
texts_from zero n at t = []
texts_from (suc k) n at t =
    record { number = n; owner = 0; id = 1; address = at; bytes = record { items = take 56 t } }
    ∷ texts_from k (n + 1) (at + 56) (drop 56 t)

-- all but the texts is known
abbrev lists : List Text → Listing
lists texts =
    record (listing_of (numbered 1 0 (esd 1 (gen_section ∷ [])
    ∷ text_cards 11 0 [] ++ last_two))) { texts = texts }

listing_back : (x : ℕ) → listing (deck x) ≡ Ok (lists (texts_from 11 2 0 (text x)))
unfolding listing deck cards
listing_back x =
    let cs = esd 1 (gen_section ∷ []) ∷ text_cards 11 0 (text x) ++ last_two in
    ap listing_or_refusal (cards_of_back cs (all_read x))

-- ---- no violation

-- the section's place
abbrev at_origin : List Text → List Placed
at_origin texts = places 65536 (lists texts)

text_inside :
    (texts : List Text) (n at : ℕ) (bytes : List ℕ) → at + length bytes ≤ 0x268
    → is_text_outside (at_origin texts)
    (record { number = n; owner = 0; id = 1; address = at; bytes = record { items = bytes } })
    ≡ false
unfolding places section
text_inside texts n at bytes h =
    let a : nat_lt at 0 ≡ false = grind (arith, nat_tests) in
    let b : nat_lt 0x268 (at + length bytes - 0) ≡ false = grind (arith, nat_tests) in
    rw (a, b) refl

none_outside :
    (texts : List Text) (k n at : ℕ) (t : List ℕ) → length t ≡ 56 * k → at + 56 * k ≤ 0x268
    → find (is_text_outside (at_origin texts)) (texts_from k n at t) ≡ None
none_outside texts zero n at t l h = refl
none_outside texts (suc k) n at t l h =
    let d = length-drop 56 t in
    let f = length-front 56 t (omega arith) in
    let here = text_inside texts n at (take 56 t) (omega (arith, f)) in
    let more = none_outside texts k (n + 1) (at + 56) (drop 56 t) (omega (arith, d)) (omega arith) in
    rw here more

no_violation :
    (size : ℕ) (texts : List Text) → 66152 ≤ size
    → find (is_text_outside (at_origin texts)) texts ≡ None
    → violation size (lists texts) (at_origin texts) ≡ None
unfolding later_violation places section
no_violation size texts h e =
    let room : nat_lt size 66152 ≡ false = grind (arith, nat_tests) in
    rw (e, room) refl

accepted :
    (size : ℕ) (texts : List Text) (r : Option DeckRefusal) → r ≡ None → (i : Image)
    → i.entry ≡ 65536 → IsOkAnd (unless_refused r i) (λ (j : Image). j.entry ≡ 65536)
accepted size texts None h i e = e
accepted size texts (Some r) h i e = absurd (cc)

pub has_image :
    (size x : ℕ) → 66152 ≤ size
    → IsOkAnd (image size (deck x)) (λ (i : Image). i.entry ≡ 65536)
unfolding image_at places
has_image size x h =
    let texts = texts_from 11 2 0 (text x) in
    let none = none_outside texts 11 2 0 (text x) (length-text x) (lit≤ tt) in
    let v = no_violation size texts h none in
    subst (λ l. IsOkAnd (image_of 65536 size l) (λ (i : Image). i.entry ≡ 65536))
    (sym (listing_back x))
    (accepted size texts (violation size (lists texts) (at_origin texts)) v _ refl)
