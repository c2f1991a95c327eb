-- What the passes over an accepted deck tell of it.
use Rattle.std.proofs.Common.{◌≡◌, ℕ, ◌<◌, ◌≤◌, false, eqb, List, [], length, Option, Some, None, Ok, Err, refl, sym, ◌∙◌, ap, subst, arith}
use Rattle.std.specs.List.{find, list_any}
use Rattle.deck_model.specs.Deck.{Listing}
use Rattle.deck_model.specs.Image.{places, violation, entry, item_number, relocation_number, has_no_room}
use Rattle.deck_model.specs.Linking.{first_clash}
use Rattle.deck_model.specs.declared.decks.Placed.{Placed}
use Rattle.deck_loader.specs.Listed.{WidthsFit}
use Rattle.link_model.proofs.Fitting.{ends_in, no_item}
use Rattle.link_model.specs.Link.{is_far_label, link_listing}
use Rattle.link_model.specs.Linked.{whole_length, linked_cards}
use Rattle.deck_link.specs.Answers.{IsRead}
use Rattle.deck_link.specs.Constants.{constants_for, ConstantsIn}
use Rattle.deck_link.specs.Marks.{clash_in}
use Rattle.deck_link.specs.Sound.{Sound}
use Rattle.deck_link.specs.Parts.{cards_of, PartsFit, ArePartsOf}
use Rattle.deck_link.specs.declared.constants.Constant.{Constant}
use Rattle.deck_link.specs.declared.parts.Parts.{Parts}
use Rattle.program_model.specs.declared.refusals.LinkRefusal.TheVariants.{TooLong}
use Rattle.deck_cards.specs.NumberedCards.{deck_bytes}
use Rattle.deck_link.proofs.Accepting.{sound_room, constants_within, no_number, sound_fits, too_long, short_enough}
use Rattle.deck_link.proofs.Made.{parts_cards, parts_fit}
use Rattle.deck_link.proofs.Gathered.{same_clash}

pub placed_room : (l : Listing) (ps : List Placed) → violation 16711680 l (places 0 l) ≡ None → ps ≡ places 0 l → list_any (has_no_room 16711680) ps ≡ false
placed_room l ps v p = ap (list_any (has_no_room 16711680)) p ∙ sound_room l v

pub placed_length : (l : Listing) (ps : List Placed) → violation 16711680 l (places 0 l) ≡ None → ps ≡ places 0 l → whole_length ps ≤ 16711680
placed_length l ps v p = ends_in 16711680 ps (placed_room l ps v p)

constants_are : (l : Listing) (ps : List Placed) (cs ds : List Constant) → ps ≡ places 0 l → cs ≡ constants_for l.items ps l.relocations → ds ≡ cs → ds ≡ constants_for l.items (places 0 l) l.relocations
constants_are l ps cs ds p c d = d ∙ (c ∙ ap (λ qs. constants_for l.items qs l.relocations) p)

pub gathered_within : (l : Listing) (ps : List Placed) (n : ℕ) (cs ds : List Constant) → violation 16711680 l (places 0 l) ≡ None → WidthsFit l.relocations → ps ≡ places 0 l → n ≡ whole_length ps → cs ≡ constants_for l.items ps l.relocations → ds ≡ cs → ConstantsIn n ds
gathered_within l ps n cs ds v w p m c d =
    let P : ℕ → List Constant → Type 0 = λ k xs. ConstantsIn k xs in
    let k : n ≡ whole_length (places 0 l) = m ∙ ap whole_length p in
    let all = constants_within l v w in
    subst (λ j. P j ds) (sym k)
    (subst (P (whole_length (places 0 l))) (sym (constants_are l ps cs ds p c d)) all)

pub clash_told : (l : Listing) (ps : List Placed) (cs ds : List Constant) (o : Option ℕ) → ps ≡ places 0 l → cs ≡ constants_for l.items ps l.relocations → ds ≡ cs → o ≡ clash_in [] ds → relocation_number (first_clash (places 0 l) [] l.relocations) ≡ o
clash_told l ps cs ds o p c d e =
    sym (e ∙ (ap (clash_in []) (constants_are l ps cs ds p c d) ∙ same_clash l.items (places 0 l) [] l.relocations))

pub far_told : (l : Listing) (ps : List Placed) (o : Option ℕ) → ps ≡ places 0 l → o ≡ item_number (find (is_far_label ps) l.items) → item_number (find (is_far_label (places 0 l)) l.items) ≡ o
far_told l ps o p e = sym (e ∙ ap (λ qs. item_number (find (is_far_label qs) l.items)) p)

pub told_sound : (l : Listing) (e : ℕ) → IsRead l → violation 16711680 l (places 0 l) ≡ None → relocation_number (first_clash (places 0 l) [] l.relocations) ≡ None → item_number (find (is_far_label (places 0 l)) l.items) ≡ None → entry (places 0 l) l.entries ≡ Some e → eqb e 0x404040 ≡ false → Sound l e
told_sound l e r v c f x n = record {
  read = r;
  sound = v;
  clash = no_number (first_clash (places 0 l) [] l.relocations) c;
  labels = no_item (find (is_far_label (places 0 l)) l.items) f;
  entry = x;
  named = n;
}

-- ---- the parts

short_parts : (l : Listing) (e : ℕ) (p : Parts) → Sound l e → ArePartsOf l e p → p.extent ≤ 16711680
short_parts l e p s a =
    let x = a.extent in
    let y = placed_length l (places 0 l) s.sound refl in
    omega (arith, x, y)

pub made_fit : (l : Listing) (e : ℕ) (p : Parts) → Sound l e → ArePartsOf l e p → PartsFit p
made_fit l e p s a = parts_fit l e p (sound_fits l e s) a (short_parts l e p s a)

pub made_long : (l : Listing) (e : ℕ) (p : Parts) (n : ℕ) → Sound l e → ArePartsOf l e p → n ≡ length (cards_of p) → 200000 < n → link_listing (Ok l) ≡ Err TooLong
made_long l e p n s a c h =
    let k : n ≡ length (linked_cards l e) = c ∙ ap length (parts_cards l e p a (short_parts l e p s a)) in
    too_long l e s (subst (λ m. 200000 < m) k h)

pub made_short : (l : Listing) (e : ℕ) (p : Parts) (n : ℕ) (b : List ℕ) → Sound l e → ArePartsOf l e p → n ≡ length (cards_of p) → n ≤ 200000 → b ≡ deck_bytes 1 (cards_of p) → link_listing (Ok l) ≡ Ok b
made_short l e p n b s a c h x =
    let cards = parts_cards l e p a (short_parts l e p s a) in
    let k : n ≡ length (linked_cards l e) = c ∙ ap length cards in
    short_enough l e b s (subst (λ m. m ≤ 200000) k h) (x ∙ ap (deck_bytes 1) cards)
