-- The assembled deck has no violation but want of room, and its image.
use Rattle.std.proofs.Common.{◌≡◌, ℕ, ◌+◌, ◌-◌, Bool, true, false, ltb, ◌||◌, List, [], ◌∷◌, ◌++◌, length, reverse, Option, Some, None, Result, Ok, Err, refl, sym, ◌∙◌, ap, arith}
use Rattle.std.specs.List.{find, list_any}
use Rattle.deck_model.specs.Deck.{Listing, listing}
use Rattle.deck_model.specs.Image.{places, place, same_id, same_name, first_doubled, is_unknown, is_unresolved, aligned, is_text_outside, is_constant_outside, entry, has_no_room, violation, doubled_violation, later_violation, room_refused, unless_refused, or_zero, image_at, image_of, Image, image_byte, bytes_from, text_byte, byte_after}
use Rattle.deck_model.specs.declared.decks.DeckRefusal.{DeckRefusal}
use Rattle.deck_model.specs.declared.decks.Placed.{Placed}
use Rattle.deck_cards.specs.NumberedCards.{deck_bytes}
use Rattle.asm_model.specs.Section.{SectionBytes}
use Rattle.asm_model.specs.declared.program.Constant.{Constant}
use Rattle.asm_model.specs.declared.program.Defined.{Defined}
use Rattle.asm_deck.specs.AssembledCards.{assembled_cards}
use Rattle.asm_deck.specs.LoadedSections.{passes, entry_at}
use Rattle.asm_deck.specs.Accepted.{IsAccepted}
use Rattle.asm_deck.specs.AssembledImage.{room_or, IsImage}
use Rattle.asm_deck.proofs.Items.{section_items, external_items, all_items, placed_from, IsListed}
use Rattle.asm_deck.proofs.SectionText.{text_held}
use Rattle.asm_deck.proofs.Places.{places_are, are_found}
use Rattle.asm_deck.proofs.Constants.{constants_moved, others_stay}
use Rattle.asm_deck.proofs.Ordered.{ordered_apart}
use Rattle.asm_deck.proofs.Lists.{assembled_listing}
use Rattle.asm_deck.proofs.Used.{ids_differ, names_differ, items_counted, externals_counted, uses_known, outers_resolved, sections_resolved}
use Rattle.asm_deck.proofs.Inside.{all_inside, constants_inside, entry_is}

room_is : (n id from : ℕ) (ss : List SectionBytes) → list_any (has_no_room n) (placed_from id from ss) ≡ passes n from ss
room_is n id from [] = refl
room_is n id from (s ∷ ss) = ap (λ b. ltb n (aligned from + length s.bytes) || b) (room_is n (id + 1) (aligned from + length s.bytes) ss)

room_case : (b : Bool) (i : Image) → unless_refused (room_refused b) i ≡ room_or b i
room_case true i = refl
room_case false i = refl

-- where nothing else is refused
none_doubled : (l : Listing) (more : Option DeckRefusal) → first_doubled same_id [] l.items ≡ None → first_doubled same_name [] l.items ≡ None → doubled_violation l more ≡ more
none_doubled l more a b = rw a (rw b refl)

room_alone : (n : ℕ) (l : Listing) (ps : List Placed) (e : ℕ) → find (is_unknown l.items) l.uses ≡ None → find (is_text_outside ps) l.texts ≡ None → find (is_constant_outside ps) l.relocations ≡ None → entry ps l.entries ≡ Some e → find (is_unresolved l.items) l.items ≡ None → later_violation n l ps ≡ room_refused (list_any (has_no_room n) ps)
unfolding later_violation
room_alone n l ps e a b c d f = rw a (rw b (rw c (rw d (rw f refl))))

no_violation : (o n : ℕ) (ss : List SectionBytes) (ms : List ℕ) (cs : List Constant) (e : Option Defined) (l : Listing) → IsAccepted ss ms cs e → IsListed ss ms cs e l → places o l ≡ placed_from 1 o ss → violation n l (places o l) ≡ room_refused (passes n o ss)
no_violation o n ss ms cs e l f a q =
    let items = a.items in
    let ps = placed_from 1 o ss in
    let st = are_found o ss in
    let ids : first_doubled same_id [] l.items ≡ None = ap (first_doubled same_id []) items ∙ ids_differ 1 [] (all_items ss ms) (items_counted 1 ss (external_items (1 + length ss) ms) (externals_counted (1 + length ss) ms)) tt in
    let named : first_doubled same_name [] l.items ≡ None = ap (first_doubled same_name []) items ∙ names_differ 1 (1 + length ss) [] ss ms [] f.names f.differ (λ q. refl) in
    let known : find (is_unknown l.items) l.uses ≡ None = ap (λ is. find (is_unknown is) l.uses) items ∙ uses_known ss ms l.uses a.uses in
    let resolved : find (is_unresolved l.items) l.items ≡ None = ap (λ is. find (is_unresolved is) is) items ∙ sections_resolved (all_items ss ms) 1 ss (external_items (1 + length ss) ms) (outers_resolved ss ms ms (1 + length ss) f.names f.externals) in
    ap (violation n l) q
    ∙ (none_doubled l (later_violation n l ps) ids named
    ∙ (room_alone n l ps (entry_at o ss e) known (all_inside ps 1 o ss l.texts st a.texts) (constants_inside ps o ss ms cs l.relocations st f.constants a.constants) (entry_is ps o ss e l.entries refl st f.some f.entry a.entries) resolved
    ∙ ap room_refused (room_is n 1 o ss)))

pub assembled_image : (o n : ℕ) (ss : List SectionBytes) (ms : List ℕ) (cs : List Constant) (e : Option Defined) → IsAccepted ss ms cs e → (f : ℕ → ℕ) × ((g : ℕ → ℕ) × IsImage o n ss ms cs e f g)
unfolding image_at places
assembled_image o n ss ms cs e t =
    let r = assembled_listing ss ms cs e t in
    let l = r.0 in
    let a = r.1.1 in
    let ps = placed_from 1 o ss in
    let q : places o l ≡ ps = ap (λ is. place o l.texts is) a.items ∙ places_are o l.texts ss ms a.texts in
    let st = are_found o ss in
    let apart = ordered_apart o ss ms cs t.constants t.ordered in
    let f : ℕ → ℕ = λ b. text_byte ps l.texts b 0 in
    let g : ℕ → ℕ = byte_after (all_items ss ms) ps (reverse l.relocations) f in
    let so : List ℕ → ℕ → Image = λ bs x. record { bytes = bs; entry = x } in
    let entry_of_deck : entry (places o l) l.entries ≡ Some (entry_at o ss e) = ap (λ p. entry p l.entries) q ∙ entry_is ps o ss e l.entries refl st t.some t.entry a.entries in
    let bytes : bytes_from (image_byte l (places o l)) 0 n ≡ bytes_from g 0 n = ap (λ p. bytes_from (image_byte l p) 0 n) q ∙ ap (λ is. bytes_from (byte_after is ps (reverse l.relocations) f) 0 n) a.items in
    let whole : image_at o n (deck_bytes 1 (assembled_cards ss ms cs e)) ≡ room_or (passes n o ss) (so (bytes_from g 0 n) (entry_at o ss e)) =
    ap (image_of o n) r.1.0
    ∙ (ap (λ v. unless_refused v (so (bytes_from (image_byte l (places o l)) 0 n) (or_zero (entry (places o l) l.entries)))) (no_violation o n ss ms cs e l t a q)
    ∙ (ap (λ bs. unless_refused (room_refused (passes n o ss)) (so bs (or_zero (entry (places o l) l.entries)))) bytes
    ∙ (ap (λ x. unless_refused (room_refused (passes n o ss)) (so (bytes_from g 0 n) (or_zero x))) entry_of_deck
    ∙ room_case (passes n o ss) (so (bytes_from g 0 n) (entry_at o ss e))))) in (
      f,
      (
        g,
        record {
          image = whole;
          sections = text_held ps 1 o ss l.texts st a.texts;
          constants = constants_moved ps o ss ms cs l.relocations f st t.names t.constants apart a.constants;
          others = λ b k. others_stay ps o ss ms cs l.relocations f b st t.constants a.constants k;
        },
      ),
    )
