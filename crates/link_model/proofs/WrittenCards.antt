-- The cards of the linked deck can be written, and their deck has the image of the deck.
use Rattle.std.proofs.Common.{◌≡◌, ◌≢◌, ◌*◌, ℕ, zero, suc, ◌+◌, ◌<◌, ◌≤◌, Bool, true, false, cond, eqb, ltb, leb, ◌&&◌, IsTrue, List, [], ◌∷◌, ◌++◌, length, map, Some, Ok, refl, sym, ◌∙◌, ap, subst, arith, length-append}
use Rattle.std.proofs.lemmas.Bool.Decides.{nat_tests}
use Rattle.deck_model.specs.Card.{esd, rld}
use Rattle.deck_model.specs.CardWriting.{rld_item_fits, entry_fits, esd_item_fits}
use Rattle.deck_model.specs.Deck.{Listing, listing, listing_of}
use Rattle.deck_model.specs.Image.{places, image_at, image_of, image_byte}
use Rattle.deck_model.specs.declared.cards.Card.{Card}
use Rattle.deck_model.specs.declared.cards.EsdItem.{EsdItem}
use Rattle.deck_model.specs.declared.cards.RldItem.{RldItem}
use Rattle.deck_model.specs.declared.decks.Item.{Item}
use Rattle.deck_model.specs.declared.decks.Placed.{Placed}
use Rattle.deck_model.specs.declared.decks.Relocation.{Relocation}
use Rattle.card_deck.specs.Results.{PointersFit}
use Rattle.deck_cards.specs.NumberedCards.{numbered, deck_bytes}
use Rattle.deck_cards.specs.TextCards.{Run, closed, next_run, runs, text_cards}
use Rattle.deck_cards.specs.RelocationCards.{SharePointers, rld_closed, next_item, rld_cards}
use Rattle.deck_cards.specs.Writable.{AreWritable}
use Rattle.deck_cards.proofs.Reading.{deck_read}
use Rattle.deck_cards.proofs.RelocationSteps.{shared_push, card_of_shared}
use Rattle.deck_loader.specs.Written.{ConstantsAreInside}
use Rattle.deck_loader.proofs.Text.{length-bytes_from}
use Rattle.link_model.specs.Linked.{whole_length, one_section, label_card, stands, end_card, linked_cards}
use Rattle.link_model.proofs.Relative.{Relative, by_origin, kept}
use Rattle.link_model.proofs.Moving.{relative}
use Rattle.link_model.proofs.Links.{labels, constant_item, constants_of, linked_runs, Links, LabelsFit, Fits}
use Rattle.link_model.proofs.CardLists.{last_cards, later_cards, cards_are, linked_lists, linked_ends, linked_known}
use Rattle.link_model.proofs.LinkedViolation.{images_same}

writable_append : (cs ds : List Card) → AreWritable cs → AreWritable ds → AreWritable (cs ++ ds)
writable_append [] ds h k = k
writable_append (c ∷ cs) ds h k = (h.0, h.1, writable_append cs ds h.2 k)

-- ---- labels

one_fits : (b : Bool) → IsTrue b → IsTrue (b && true)
one_fits true h = h
one_fits false h = absurd (grind (arith, nat_tests))

labels_writable : (is : List EsdItem) → LabelsFit is → AreWritable (map label_card is)
labels_writable [] h = tt
labels_writable (i ∷ is) h = (one_fits (esd_item_fits i) h.1, (omega arith, omega arith, (h.0, tt)), labels_writable is h.2)

-- ---- text

abbrev RunsFit : List Run → Type 0
RunsFit [] = Unit {0}
RunsFit (r ∷ rs) = (r.at < 16777216) × (0 < length r.bytes) × (length r.bytes ≤ 56) × RunsFit rs

closed_fit : (f : ℕ → ℕ) (at held n : ℕ) (more : List Run) → held ≤ 56 → at + held ≤ n → n < 16777216 → RunsFit more → RunsFit (closed f at held more)
closed_fit f at zero n more a b c h = h
closed_fit f at (suc m) n more a b c h = let e = length-bytes_from f at (suc m) in (omega arith, omega (arith, e), omega (arith, e, a), h)

runs_fit_case : (b c : Bool) (on : ℕ → Bool) (f : ℕ → ℕ) (n at held m : ℕ) → eqb held 56 ≡ c → held ≤ 56 → at + held + suc m ≤ n → n < 16777216 → ((p q : ℕ) → q ≤ 56 → p + q + m ≤ n → RunsFit (runs on f p q m)) → RunsFit (next_run b c f at held (λ p q. runs on f p q m))
runs_fit_case true true on f n at held m e l h k ih = closed_fit f at held n (runs on f (at + held) 1 m) l (omega arith) k (ih (at + held) 1 (omega arith) (omega arith))
runs_fit_case true false on f n at held m e l h k ih = let s : held < 56 = grind (arith, nat_tests) in ih at (held + 1) (omega arith) (omega arith)
runs_fit_case false c on f n at held m e l h k ih = closed_fit f at held n (runs on f (at + held + 1) 0 m) l (omega arith) k (ih (at + held + 1) 0 (omega arith) (omega arith))

runs_fit : (on : ℕ → Bool) (f : ℕ → ℕ) (n at held m : ℕ) → held ≤ 56 → at + held + m ≤ n → n < 16777216 → RunsFit (runs on f at held m)
runs_fit on f n at held zero l h k = closed_fit f at held n [] l (omega arith) k tt
runs_fit on f n at held (suc m) l h k = runs_fit_case (on (at + held)) (eqb held 56) on f n at held m refl l h k (λ p q a b. runs_fit on f n p q m a b k)

text_fits : (n at : ℕ) → 0 < n → at < 16777216 → IsTrue (ltb 0 n && ltb at 16777216)
text_fits n at h k =
    let a : ltb 0 n ≡ true = grind (arith, nat_tests) in
    let b : ltb at 16777216 ≡ true = grind (arith, nat_tests) in
    rw a (rw b refl)

texts_writable : (rs : List Run) → RunsFit rs → AreWritable (text_cards 1 rs)
texts_writable [] h = tt
texts_writable (r ∷ rs) h = (text_fits (length r.bytes) r.at h.1 h.0, (omega arith, h.2), texts_writable rs h.3)

-- ---- constants

abbrev ConstantsFit : ℕ → List Relative → Type 0
ConstantsFit n [] = Unit {0}
ConstantsFit n (r ∷ rs) = (1 ≤ r.width) × (r.width ≤ 4) × (r.at + r.width ≤ n) × ConstantsFit n rs

fit_of : (n : ℕ) (items : List Item) (ps : List Placed) (rs : List Relocation) → ConstantsAreInside ps n rs → ConstantsFit n (map (relative items ps) rs)
fit_of n items ps [] h = tt
fit_of n items ps (r ∷ rs) h = (h.0, h.1, h.2, fit_of n items ps rs h.3)

kept_fit_case : (b : Bool) (n : ℕ) (r : Relative) (ks : List Relative) → (1 ≤ r.width) × (r.width ≤ 4) × (r.at + r.width ≤ n) → ConstantsFit n ks → ConstantsFit n (cond b (by_origin r ∷ ks) ks)
kept_fit_case true n r ks h k = (h.0, h.1, h.2, k)
kept_fit_case false n r ks h k = k

kept_fit : (n : ℕ) (rs : List Relative) → ConstantsFit n rs → ConstantsFit n (kept rs)
kept_fit n [] h = tt
kept_fit n (r ∷ rs) h = kept_fit_case r.moves n r (kept rs) (h.0, h.1, h.2) (kept_fit n rs h.3)

pub item_fits : (r : Relative) (n : ℕ) → 1 ≤ r.width → r.width ≤ 4 → r.at + r.width ≤ n → n < 16777216 → rld_item_fits (constant_item r) ≡ true
item_fits r n a b c d =
    let x : ltb r.at 16777216 ≡ true = let y : r.at < 16777216 = omega arith in grind (arith, nat_tests) in
    let y : leb 1 r.width ≡ true = grind (arith, nat_tests) in
    let z : leb r.width 4 ≡ true = grind (arith, nat_tests) in
    rw x (rw y z)

shared_of : (n : ℕ) (rs : List Relative) → n < 16777216 → ConstantsFit n rs → SharePointers 1 1 (map constant_item rs)
shared_of n [] k h = tt
shared_of n (r ∷ rs) k h = (refl, refl, item_fits r n h.0 h.1 h.2 k, shared_of n rs k h.3)

pointers_of : (is : List RldItem) → SharePointers 1 1 is → PointersFit is
pointers_of [] h = tt
pointers_of (i ∷ is) h = let a = h.0 in let b = h.1 in (omega (arith, a), omega (arith, b), pointers_of is h.3)

closed_writable : (held : List RldItem) (more : List Card) → SharePointers 1 1 held → length held ≤ 13 → AreWritable more → AreWritable (rld_closed held more)
closed_writable [] more h l m = m
closed_writable (i ∷ is) more h l m =
    let some : 0 < length (i ∷ is) = omega arith in
    (card_of_shared 1 1 (i ∷ is) some l h, pointers_of (i ∷ is) h, m)

chunk_case : (b : Bool) (more : List Card) (held : List RldItem) (i : RldItem) (is : List RldItem) → eqb (length held) 13 ≡ b → length held ≤ 13 → SharePointers 1 1 held → SharePointers 1 1 (i ∷ is) → ((ks : List RldItem) → length ks ≤ 13 → SharePointers 1 1 ks → AreWritable (rld_cards more ks is)) → AreWritable (next_item b held i (λ ks. rld_cards more ks is))
chunk_case true more held i is e l h k ih = closed_writable held (rld_cards more (i ∷ []) is) h l (ih (i ∷ []) (omega arith) (k.0, k.1, k.2, tt))
chunk_case false more held i is e l h k ih =
    let n = length-append held (i ∷ []) in
    let m : length held < 13 = grind (arith, nat_tests) in
    ih (held ++ i ∷ []) (omega (arith, n, m)) (shared_push 1 1 held i h (k.0, k.1, k.2))

chunks_writable : (more : List Card) (is held : List RldItem) → length held ≤ 13 → SharePointers 1 1 held → SharePointers 1 1 is → AreWritable more → AreWritable (rld_cards more held is)
chunks_writable more [] held l h k m = closed_writable held more h l m
chunks_writable more (i ∷ is) held l h k m = chunk_case (eqb (length held) 13) more held i is refl l h k (λ ks n o. chunks_writable more is ks n o k.3 m)

-- ---- all

section_fits : (n : ℕ) → n < 16777216 → IsTrue (esd_item_fits (one_section n) && true)
section_fits n h = let x : ltb n 16777216 ≡ true = grind (arith, nat_tests) in rw x refl

entry_fits_of : (e : ℕ) → e < 16777216 → e ≢ 0x404040 → IsTrue (entry_fits (Some (record { address = e; id = 1 })))
entry_fits_of e h k =
    let x : ltb e 16777216 ≡ true = grind (arith, nat_tests) in
    let y : eqb e 0x404040 ≡ false = grind (arith, nat_tests) in
    rw x (rw y refl)

later_writable : (l : Listing) (e : ℕ) → Fits l e → AreWritable (later_cards l e)
later_writable l e f =
    let ps = places 0 l in
    let n : ℕ = whole_length ps in
    let small = f.small in
    let low = f.inside in
    let one : AreWritable (end_card e ∷ []) = (entry_fits_of e (omega (arith, small, low)) f.named, omega arith, tt) in
    let shared = shared_of n (constants_of l) small (kept_fit n (map (relative l.items ps) l.relocations) (fit_of n l.items ps l.relocations f.linkable.4)) in
    writable_append (map label_card (labels ps l.items)) (text_cards 1 (linked_runs l) ++ last_cards l e) (labels_writable (labels ps l.items) f.labels)
    (writable_append (text_cards 1 (linked_runs l)) (last_cards l e) (texts_writable (linked_runs l) (runs_fit (stands l ps) (image_byte l ps) n 0 0 n (omega arith) (omega arith) small))
    (chunks_writable (end_card e ∷ []) (map constant_item (constants_of l)) [] (omega arith) tt shared one))

pub linked_writable : (l : Listing) (e : ℕ) → Fits l e → AreWritable (linked_cards l e)
linked_writable l e f =
    subst AreWritable (sym (cards_are l e))
    (section_fits (whole_length (places 0 l)) f.small, (omega arith, omega arith, (refl, tt)), later_writable l e f)

-- ---- the deck of the cards

pub linked_listing : (l : Listing) (e : ℕ) → Fits l e → listing (deck_bytes 1 (linked_cards l e)) ≡ Ok (listing_of (numbered 1 0 (linked_cards l e)))
linked_listing l e f = deck_read (linked_cards l e) (linked_writable l e f) (linked_ends l e)

pub linked_images : (n o k : ℕ) (l : Listing) (e : ℕ) → o ≡ 8 * k → o ≤ n → Fits l e → image_at o n (deck_bytes 1 (linked_cards l e)) ≡ image_of o n (Ok l)
unfolding image_at
linked_images n o k l e h s f =
    let j = listing_of (numbered 1 0 (linked_cards l e)) in
    let t = linked_lists l e in
    ap (image_of o n) (linked_listing l e f)
    ∙ images_same n o k l j e h s f.linkable f.fine f.inside (linked_known l j e t f.labels) t
