-- A card that can be written has 80 bytes and is read back.
use Rattle.std.proofs.Common.{◌≡◌, ℕ, ◌+◌, ◌-◌, ◌<◌, ◌≤◌, Bool, true, false, ltb, leb, ◌&&◌, IsTrue, List, [], ◌∷◌, ◌++◌, length, take, drop, replicate, Some, None, Ok, refl, sym, ◌∙◌, ap, arith, length-append}
use Rattle.std.proofs.lemmas.Bool.Decides.{nat_tests}
use Rattle.std.proofs.lemmas.List.{length-take-le, length-drop}
use Rattle.std.specs.List.{flat_map, list_all}
use Rattle.byteorder.specs.Endian.{big_bytes}
use Rattle.byteorder.specs.Numbers.{length-bytes_high_first}
use Rattle.deck_model.specs.Card.{put, card_of}
use Rattle.deck_model.specs.CardWriting.{card_fits, card_bytes, blank_card, with_data, esd_bytes, txt_bytes, rld_bytes, rld_size, rld_card_bytes, end_bytes, esd_item_bytes, esd_item_fits, rld_item_fits, next_same}
use Rattle.deck_model.specs.declared.cards.Card.{Card}
use Rattle.deck_model.specs.declared.cards.Card.TheVariants.{Esd, Txt, Rld, End, Sym}
use Rattle.deck_model.specs.declared.cards.EsdItem.{EsdItem}
use Rattle.deck_model.specs.declared.cards.EntryPoint.{EntryPoint}
use Rattle.deck_model.specs.declared.cards.RldItem.{RldItem}
use Rattle.card_deck.proofs.Law.{AreNamed as LawNamed, esd_back, txt_back, rld_back, end_some_back, end_none_back, sym_back, length-esd_bytes, list_all_head, list_all_rest}
use Rattle.deck_cards.specs.Writable.{AreNamed, IsTyped}

-- ---- 80 bytes

length-put : (at : ℕ) (ys xs : List ℕ) (n : ℕ) → length xs ≡ n → at + length ys ≤ n → length (put at ys xs) ≡ n
unfolding put
length-put at ys xs n e h =
    let t : length (take at xs) ≡ at = length-take-le at xs (omega arith) in
    let d : length (drop (at + length ys) xs) ≡ length xs - (at + length ys) = length-drop (at + length ys) xs in
    let a = length-append ys (drop (at + length ys) xs) in
    length-append (take at xs) (ys ++ drop (at + length ys) xs) ∙ omega (arith, t, d, a, e, h)

length-blank : (kind : ℕ) (s : List ℕ) → length s ≡ 8 → length (blank_card kind s) ≡ 80
unfolding blank_card
length-blank kind s h =
    let k = length-bytes_high_first 3 kind in
    let one = length-put 0 (2 ∷ []) (replicate 80 64) 80 refl (omega arith) in
    let two = length-put 1 (big_bytes 3 kind) (put 0 (2 ∷ []) (replicate 80 64)) 80 one (omega (arith, k)) in
    length-put 72 s (put 1 (big_bytes 3 kind) (put 0 (2 ∷ []) (replicate 80 64))) 80 two (omega (arith, h))

length-with : (bytes card : List ℕ) → length card ≡ 80 → length bytes ≤ 56 → length (with_data bytes card) ≡ 80
unfolding with_data
length-with bytes card h k =
    let n = length-bytes_high_first 2 (length bytes) in
    let one = length-put 10 (big_bytes 2 (length bytes)) card 80 h (omega (arith, n)) in
    length-put 16 bytes (put 10 (big_bytes 2 (length bytes)) card) 80 one (omega (arith, k))

length-esd_card : (id : ℕ) (is : List EsdItem) (s : List ℕ) → LawNamed is → length is ≤ 3 → length s ≡ 8 → length (esd_bytes id is s) ≡ 80
unfolding esd_bytes
length-esd_card id is s n l h =
    let k = length-bytes_high_first 2 id in
    let d = length-esd_bytes is n in
    length-with (flat_map esd_item_bytes is) (put 14 (big_bytes 2 id) (blank_card 0xC5E2C4 s)) (length-put 14 (big_bytes 2 id) (blank_card 0xC5E2C4 s) 80 (length-blank 0xC5E2C4 s h) (omega (arith, k))) (omega (arith, d, l))

length-txt_card : (id address : ℕ) (bytes s : List ℕ) → length bytes ≤ 56 → length s ≡ 8 → length (txt_bytes id address bytes s) ≡ 80
unfolding txt_bytes
length-txt_card id address bytes s l h =
    let k = length-bytes_high_first 2 id in
    let a = length-bytes_high_first 3 address in
    let one = length-put 5 (big_bytes 3 address) (blank_card 0xE3E7E3 s) 80 (length-blank 0xE3E7E3 s h) (omega (arith, a)) in
    length-with bytes (put 14 (big_bytes 2 id) (put 5 (big_bytes 3 address) (blank_card 0xE3E7E3 s))) (length-put 14 (big_bytes 2 id) (put 5 (big_bytes 3 address) (blank_card 0xE3E7E3 s)) 80 one (omega (arith, k))) l

length-rld_bytes : (omits : Bool) (is : List RldItem) → length (rld_bytes omits is) ≡ rld_size omits is
length-rld_bytes omits [] = refl
length-rld_bytes true (i ∷ is) = let r = length-rld_bytes (next_same i is) is in omega (arith, r)
length-rld_bytes false (i ∷ is) = let r = length-rld_bytes (next_same i is) is in omega (arith, r)

length-rld_card : (is : List RldItem) (s : List ℕ) → rld_size false is ≤ 56 → length s ≡ 8 → length (rld_card_bytes is s) ≡ 80
unfolding rld_card_bytes
length-rld_card is s l h = let d = length-rld_bytes false is in length-with (rld_bytes false is) (blank_card 0xD9D3C4 s) (length-blank 0xD9D3C4 s h) (omega (arith, d, l))

length-end_card : (e : EntryPoint) (s : List ℕ) → length s ≡ 8 → length (end_bytes (Some e) s) ≡ 80
unfolding end_bytes
length-end_card e s h =
    let k = length-bytes_high_first 2 e.id in
    let a = length-bytes_high_first 3 e.address in
    let one = length-put 5 (big_bytes 3 e.address) (blank_card 0xC5D5C4 s) 80 (length-blank 0xC5D5C4 s h) (omega (arith, a)) in
    length-put 14 (big_bytes 2 e.id) (put 5 (big_bytes 3 e.address) (blank_card 0xC5D5C4 s)) 80 one (omega (arith, k))

length-no_end : (s : List ℕ) → length s ≡ 8 → length (end_bytes None s) ≡ 80
unfolding end_bytes
length-no_end s h = length-blank 0xC5D5C4 s h

-- ---- cards that can be read

pub record Reads (c : Card) : Type 0 where
  pub back : (s : List ℕ) → card_of (card_bytes c s) ≡ Ok c
  pub long : (s : List ℕ) → length s ≡ 8 → length (card_bytes c s) ≡ 80

are_named : (is : List EsdItem) → AreNamed is → LawNamed is
are_named [] h = tt
are_named (i ∷ is) h = (h.0, are_named is h.1)

both : (b c : Bool) → IsTrue (b && c) → IsTrue b × IsTrue c
both b c h = (list_all_head b c h, list_all_rest b c h)

some : (n : ℕ) → IsTrue (ltb 0 n) → 0 < n
some n h = grind (arith, nat_tests)

few : (n m : ℕ) → IsTrue (leb n m) → n ≤ m
few n m h = grind (arith, nat_tests)

pub readable : (c : Card) → IsTrue (card_fits c) → IsTyped c → Reads c
readable (Esd c) f t =
    let is = c.items.items in
    let b = both (ltb 0 (length is)) (list_all esd_item_fits is) f in
    let n = are_named is t.2 in
    record {
      back = λ s. esd_back c.first_id is s t.0 (some (length is) b.0) t.1 n b.1;
      long = λ s h. length-esd_card c.first_id is s n t.1 h;
    }
readable (Txt c) f t =
    let bytes = c.bytes.items in
    let b = both (ltb 0 (length bytes)) (ltb c.address 16777216) f in
    record {
      back = λ s. txt_back c.id c.address bytes s t.0 b.1 (some (length bytes) b.0) t.1;
      long = λ s h. length-txt_card c.id c.address bytes s t.1 h;
    }
readable (Rld c) f t =
    let is = c.items.items in
    let b = both (ltb 0 (length is)) (list_all rld_item_fits is && leb (rld_size false is) 56) f in
    let d = both (list_all rld_item_fits is) (leb (rld_size false is) 56) b.1 in
    let size = few (rld_size false is) 56 d.1 in
    record {
      back = λ s. rld_back is s (some (length is) b.0) size t d.0;
      long = λ s h. length-rld_card is s size h;
    }
readable (End (Some e)) f t = record {
  back = λ s. end_some_back e s t f;
  long = λ s h. length-end_card e s h;
}
readable (End None) f t = record {
  back = λ s. end_none_back s;
  long = λ s h. length-no_end s h;
}
readable Sym f t = record {
  back = λ s. sym_back s;
  long = λ s h. length-blank 0xE2E8D4 s h;
}
