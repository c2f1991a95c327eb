-- The lists of the assembled cards, and that the cards can be written.
use Rattle.std.proofs.Common.{◌≡◌, ◌≢◌, ℕ, zero, suc, ◌+◌, ◌-◌, ◌*◌, ◌<◌, ◌≤◌, Bool, true, false, cond, not, leb, ltb, eqb, ◌&&◌, ◌||◌, IsTrue, List, [], ◌∷◌, ◌++◌, length, get_or, Option, Some, None, Ok, refl, sym, ◌∙◌, ap, subst, arith, append_assoc}
use Rattle.std.proofs.lemmas.Bool.Decides.{nat_tests}
use Rattle.byteorder.specs.Numbers.{length-bytes_high_first}
use Rattle.deck_model.specs.Card.{esd, txt, rld}
use Rattle.deck_model.specs.CardWriting.{card_fits}
use Rattle.deck_model.specs.Deck.{Listing, listing, listing_of, ends, is_end}
use Rattle.deck_model.specs.declared.cards.Card.{Card}
use Rattle.deck_model.specs.declared.decks.Item.{Item}
use Rattle.deck_cards.specs.NumberedCards.{numbered, deck_bytes}
use Rattle.deck_cards.specs.TextCards.{Run, text_cards}
use Rattle.deck_cards.specs.Writable.{AreWritable, IsTyped}
use Rattle.deck_cards.proofs.Reading.{deck_read}
use Rattle.asm_model.specs.Section.{SectionBytes}
use Rattle.asm_model.specs.declared.program.Constant.{Constant}
use Rattle.asm_model.specs.declared.program.Defined.{Defined}
use Rattle.asm_deck.specs.AssembledCards.{section_item, external_item, section_cards, external_cards, section_runs, section_texts, constant_item, constant_cards, end_card, assembled_cards}
use Rattle.asm_deck.specs.LoadedSections.{no_section, section_bytes}
use Rattle.asm_deck.specs.Accepted.{LengthsFit, TargetFits, ConstantFits, ConstantsFit, EntryFits, IsAccepted}
use Rattle.asm_deck.proofs.Items.{item_for, outer_for, section_items, external_items, all_items, Piece, pieces, all_pieces, TextsAre, ConstantsAre, EntryIs, UseFits, UsesFit, IsListed}
use Rattle.asm_deck.proofs.Runs.{RunsFit, section_fit}

-- ---- lists

abbrev Tail : List Item → List Piece → List Constant → Option Defined → ℕ → ℕ → Listing → Type 0
Tail is ds cs e n m l = (l.items ≡ is) × TextsAre ds l.texts × ConstantsAre cs l.relocations × EntryIs e l.entries × UsesFit n m l.uses

-- cards from any number on
abbrev Tails : List Item → List Piece → List Constant → Option Defined → ℕ → ℕ → List Card → Type 0
Tails is ds cs e n m more = (j : ℕ) → Tail is ds cs e n m (listing_of (numbered j 0 more))

end_tail : (e : Option Defined) (ss : List SectionBytes) (m : ℕ) → EntryFits ss e → Tails [] [] [] e (length ss) m (end_card e ∷ [])
end_tail None ss m h k = (refl, tt, tt, tt, tt)
end_tail (Some d) ss m h k = (refl, tt, tt, (refl, refl, refl), (refl, (h.0, h.1), tt))

target_use : (b : Bool) (ss : List SectionBytes) (ms : List ℕ) (d : ℕ) → TargetFits b ss ms d → (1 ≤ d) × (d < 1 + length ss + length ms)
target_use true ss ms d h = let a = h.0 in let b = h.1 in (omega (arith, a), b)
target_use false ss ms d h = let a = h.0 in let b = h.1 in (a, omega (arith, b))

constants_tail : (cs : List Constant) (ss : List SectionBytes) (ms : List ℕ) (e : Option Defined) → EntryFits ss e → ConstantsFit ss ms cs → Tails [] [] cs e (length ss) (length ms) (constant_cards cs ++ end_card e ∷ [])
constants_tail [] ss ms e h f k = end_tail e ss (length ms) h k
constants_tail (c ∷ cs) ss ms e h f k =
    let t = constants_tail cs ss ms e h f.1 (k + 1) in
    (t.0, t.1, (refl, refl, t.2), t.3, (refl, (f.0.0, f.0.1), (refl, target_use c.external ss ms c.target f.0.3, t.4)))

one_text_tail : (id : ℕ) (rs : List Run) (ds : List Piece) (cs : List Constant) (n m : ℕ) (e : Option Defined) (more : List Card) → 1 ≤ id → id ≤ n → Tails [] ds cs e n m more → Tails [] (pieces id rs ++ ds) cs e n m (text_cards id rs ++ more)
one_text_tail id [] ds cs n m e more a b h k = h k
one_text_tail id (r ∷ rs) ds cs n m e more a b h k =
    let t = one_text_tail id rs ds cs n m e more a b h (k + 1) in
    (t.0, (refl, refl, refl, refl, t.1), t.2, t.3, (refl, (a, b), t.4))

texts_tail : (id : ℕ) (ss : List SectionBytes) (cs : List Constant) (n m : ℕ) (e : Option Defined) (more : List Card) → 1 ≤ id → id + length ss ≤ n + 1 → Tails [] [] cs e n m more → Tails [] (all_pieces id ss) cs e n m (section_texts id ss ++ more)
texts_tail id [] cs n m e more a b h = h
texts_tail id (s ∷ ss) cs n m e more a b h =
    let rest = texts_tail (id + 1) ss cs n m e more (omega arith) (omega arith) h in
    let x = append_assoc (text_cards id (section_runs s)) (section_texts (id + 1) ss) more in
    subst (λ cards. Tails [] (all_pieces id (s ∷ ss)) cs e n m cards) (sym x)
    (one_text_tail id (section_runs s) (all_pieces (id + 1) ss) cs n m e (section_texts (id + 1) ss ++ more) a (omega arith) rest)

externals_tail : (id : ℕ) (ms : List ℕ) (ds : List Piece) (cs : List Constant) (n m : ℕ) (e : Option Defined) (more : List Card) → Tails [] ds cs e n m more → Tail (external_items id ms) ds cs e n m (listing_of (numbered id 0 (external_cards id ms ++ more)))
externals_tail id [] ds cs n m e more h = h id
externals_tail id (q ∷ ms) ds cs n m e more h =
    let t = externals_tail (id + 1) ms ds cs n m e more h in
    (ap (λ is. outer_for id q ∷ is) t.0, t.1, t.2, t.3, t.4)

sections_tail : (id : ℕ) (ss : List SectionBytes) (is : List Item) (ds : List Piece) (cs : List Constant) (n m : ℕ) (e : Option Defined) (more : List Card) → Tail is ds cs e n m (listing_of (numbered (id + length ss) 0 more)) → Tail (section_items id ss ++ is) ds cs e n m (listing_of (numbered id 0 (section_cards id ss ++ more)))
sections_tail id [] is ds cs n m e more h = let z : id + 0 ≡ id = omega arith in subst (λ j. Tail is ds cs e n m (listing_of (numbered j 0 more))) z h
sections_tail id (s ∷ ss) is ds cs n m e more h =
    let z : id + suc (length ss) ≡ id + 1 + length ss = omega arith in
    let t = sections_tail (id + 1) ss is ds cs n m e more (subst (λ j. Tail is ds cs e n m (listing_of (numbered j 0 more))) z h) in
    (ap (λ js. item_for id s ∷ js) t.0, t.1, t.2, t.3, t.4)

listed : (ss : List SectionBytes) (ms : List ℕ) (cs : List Constant) (e : Option Defined) → IsAccepted ss ms cs e → IsListed ss ms cs e (listing_of (numbered 1 0 (assembled_cards ss ms cs e)))
listed ss ms cs e f =
    let last = constant_cards cs ++ end_card e ∷ [] in
    let texts = section_texts 1 ss ++ last in
    let t = sections_tail 1 ss (external_items (1 + length ss) ms) (all_pieces 1 ss) cs (length ss) (length ms) e (external_cards (1 + length ss) ms ++ texts)
    (externals_tail (1 + length ss) ms (all_pieces 1 ss) cs (length ss) (length ms) e texts
    (texts_tail 1 ss cs (length ss) (length ms) e last (omega arith) (omega arith) (constants_tail cs ss ms e f.entry f.constants))) in
    record { items = t.0; texts = t.1; constants = t.2; entries = t.3; uses = t.4 }

-- ---- the last card is an END card

abbrev EndsWell : List Card → Type 0
EndsWell cs = (b : Bool) (n m : ℕ) → ends b (numbered n m cs) ≡ true

front_ends : (cs ds : List Card) → EndsWell ds → EndsWell (cs ++ ds)
front_ends [] ds h = h
front_ends (c ∷ cs) ds h = λ b n m. front_ends cs ds h (is_end c) (n + 1) (cond (is_end c) (m + 1) m)

end_ends : (e : Option Defined) → EndsWell (end_card e ∷ [])
end_ends None b n m = refl
end_ends (Some d) b n m = refl

assembled_ends : (ss : List SectionBytes) (ms : List ℕ) (cs : List Constant) (e : Option Defined) → ends false (numbered 1 0 (assembled_cards ss ms cs e)) ≡ true
assembled_ends ss ms cs e =
    let last = constant_cards cs ++ end_card e ∷ [] in
    let texts = section_texts 1 ss ++ last in
    front_ends (section_cards 1 ss) (external_cards (1 + length ss) ms ++ texts)
    (front_ends (external_cards (1 + length ss) ms) texts
    (front_ends (section_texts 1 ss) last (front_ends (constant_cards cs) (end_card e ∷ []) (end_ends e)))) false 1 0

-- ---- the cards can be written

writable_append : (cs ds : List Card) → AreWritable cs → AreWritable ds → AreWritable (cs ++ ds)
writable_append [] ds h k = k
writable_append (c ∷ cs) ds h k = (h.0, h.1, writable_append cs ds h.2 k)

section_card_fits : (n : ℕ) → n ≤ 1048576 → IsTrue ((ltb 0 16777216 && ltb n 16777216) && true)
section_card_fits n h = let k : n < 16777216 = omega arith in let x : ltb n 16777216 ≡ true = grind (arith, nat_tests) in rw x refl

sections_writable : (id : ℕ) (ss : List SectionBytes) → id + length ss ≤ 65536 → LengthsFit ss → AreWritable (section_cards id ss)
sections_writable id [] h l = tt
sections_writable id (s ∷ ss) h l = (
  section_card_fits (length s.bytes) l.0,
  (omega arith, omega arith, (length-bytes_high_first 8 s.name, tt)),
  sections_writable (id + 1) ss (omega arith) l.1,
)

externals_writable : (id : ℕ) (ms : List ℕ) → id + length ms ≤ 65536 → AreWritable (external_cards id ms)
externals_writable id [] h = tt
externals_writable id (m ∷ ms) h = (refl, (omega arith, omega arith, (length-bytes_high_first 8 m, tt)), externals_writable (id + 1) ms (omega arith))

text_fits : (n at : ℕ) → 0 < n → at < 16777216 → IsTrue (ltb 0 n && ltb at 16777216)
text_fits n at h k =
    let a : ltb 0 n ≡ true = grind (arith, nat_tests) in
    let b : ltb at 16777216 ≡ true = grind (arith, nat_tests) in
    rw a (rw b refl)

text_writable : (id n : ℕ) (rs : List Run) → id < 65536 → n ≤ 1048576 → RunsFit n rs → AreWritable (text_cards id rs)
text_writable id n [] h l f = tt
text_writable id n (r ∷ rs) h l f =
    let a = f.0 in
    let b = f.2 in
    (text_fits (length r.bytes) r.at a (omega (arith, a, b, l)), (h, f.1), text_writable id n rs h l f.3)

texts_writable : (id : ℕ) (ss : List SectionBytes) → id + length ss ≤ 65536 → LengthsFit ss → AreWritable (section_texts id ss)
texts_writable id [] h l = tt
texts_writable id (s ∷ ss) h l =
    writable_append (text_cards id (section_runs s)) (section_texts (id + 1) ss)
    (text_writable id (length s.bytes) (section_runs s) (omega arith) l.0 (section_fit s))
    (texts_writable (id + 1) ss (omega arith) l.1)

bytes_low : (k : ℕ) (ss : List SectionBytes) → LengthsFit ss → length (section_bytes ss k) ≤ 1048576
bytes_low k [] h = omega arith
bytes_low zero (s ∷ ss) h = h.0
bytes_low (suc k) (s ∷ ss) h = bytes_low k ss h.1

constant_card_fits : (c : Constant) → c.offset < 16777216 → IsTrue (card_fits (rld (constant_item c ∷ [])))
constant_card_fits c h = let x : ltb c.offset 16777216 ≡ true = grind (arith, nat_tests) in rw x refl

constants_writable : (ss : List SectionBytes) (ms : List ℕ) (cs : List Constant) → length ss + length ms < 65536 → LengthsFit ss → ConstantsFit ss ms cs → AreWritable (constant_cards cs)
constants_writable ss ms [] h l f = tt
constants_writable ss ms (c ∷ cs) h l f =
    let a = f.0.1 in
    let t = target_use c.external ss ms c.target f.0.3 in
    let b = t.1 in
    let x = f.0.2 in
    let y = bytes_low (c.section - 1) ss l in (
      constant_card_fits c (omega (arith, x, y)),
      (omega (arith, b, h), omega (arith, a, h), tt),
      constants_writable ss ms cs h l f.1,
    )

entry_card_fits : (a : ℕ) → a < 1048576 → IsTrue (ltb a 16777216 && not (eqb a 0x404040))
entry_card_fits a h =
    let x : ltb a 16777216 ≡ true = let k : a < 16777216 = omega arith in grind (arith, nat_tests) in
    let y : eqb a 0x404040 ≡ false = grind (arith, nat_tests) in
    rw x (rw y refl)

end_writable : (ss : List SectionBytes) (e : Option Defined) → length ss < 65536 → LengthsFit ss → EntryFits ss e → AreWritable (end_card e ∷ [])
end_writable ss None n l h = (refl, tt, tt)
end_writable ss (Some d) n l h =
    let a = h.1 in
    let b = h.2 in
    let y = bytes_low (d.section - 1) ss l in
    (entry_card_fits d.offset (omega (arith, b, y)), omega (arith, a, n), tt)

assembled_writable : (ss : List SectionBytes) (ms : List ℕ) (cs : List Constant) (e : Option Defined) → IsAccepted ss ms cs e → AreWritable (assembled_cards ss ms cs e)
assembled_writable ss ms cs e f =
    let n = f.count in
    let last = constant_cards cs ++ end_card e ∷ [] in
    let texts = section_texts 1 ss ++ last in
    writable_append (section_cards 1 ss) (external_cards (1 + length ss) ms ++ texts) (sections_writable 1 ss (omega (arith, n)) f.lengths)
    (writable_append (external_cards (1 + length ss) ms) texts (externals_writable (1 + length ss) ms (omega (arith, n)))
    (writable_append (section_texts 1 ss) last (texts_writable 1 ss (omega (arith, n)) f.lengths)
    (writable_append (constant_cards cs) (end_card e ∷ []) (constants_writable ss ms cs n f.lengths f.constants) (end_writable ss e (omega (arith, n)) f.lengths f.entry))))

pub assembled_listing : (ss : List SectionBytes) (ms : List ℕ) (cs : List Constant) (e : Option Defined) → IsAccepted ss ms cs e → (l : Listing) × ((listing (deck_bytes 1 (assembled_cards ss ms cs e)) ≡ Ok l) × IsListed ss ms cs e l)
assembled_listing ss ms cs e f = (listing_of (numbered 1 0 (assembled_cards ss ms cs e)), (deck_read (assembled_cards ss ms cs e) (assembled_writable ss ms cs e f) (assembled_ends ss ms cs e), listed ss ms cs e f))
