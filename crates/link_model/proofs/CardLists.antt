-- The lists of the linked deck's cards.
use Rattle.std.proofs.Common.{◌≡◌, ℕ, suc, ◌+◌, ◌<◌, ◌≤◌, Bool, true, false, cond, eqb, ltb, ◌&&◌, IsTrue, List, [], ◌∷◌, ◌++◌, length, map, refl, sym, ◌∙◌, ap, subst, arith, append_assoc}
use Rattle.std.proofs.lemmas.Bool.Decides.{nat_tests}
use Rattle.std.proofs.lemmas.List.{map-append}
use Rattle.std.specs.List.{find}
use Rattle.deck_model.specs.Card.{esd, rld}
use Rattle.deck_model.specs.Deck.{Listing, listing_of, ends, is_end, is_label, rld_list, pointer_uses}
use Rattle.deck_model.specs.Image.{has_id, is_section_found, places}
use Rattle.deck_model.specs.declared.cards.Card.{Card}
use Rattle.deck_model.specs.declared.cards.EsdItem.{EsdItem}
use Rattle.deck_model.specs.declared.cards.RldItem.{RldItem}
use Rattle.deck_model.specs.declared.decks.Item.{Item}
use Rattle.deck_model.specs.declared.decks.Placed.{Placed}
use Rattle.deck_model.specs.declared.decks.Text.{Text}
use Rattle.deck_model.specs.declared.decks.Relocation.{Relocation}
use Rattle.deck_model.specs.declared.decks.Use.{Use}
use Rattle.deck_cards.specs.NumberedCards.{numbered}
use Rattle.deck_cards.specs.TextCards.{Run, text_cards}
use Rattle.deck_cards.specs.RelocationCards.{rld_closed, next_item, rld_cards}
use Rattle.deck_loader.specs.Listed.{TextsKnown}
use Rattle.link_model.specs.Linked.{is_named, whole_length, one_section, label_of, label_card, linked_items, end_card, linked_cards}
use Rattle.link_model.proofs.Relative.{Relative}
use Rattle.link_model.proofs.Moving.{ConstantsKnown, LabelKnown, ItemsKnown, Known}
use Rattle.link_model.proofs.Links.{first_item, labels, labels_are, constant_item, items_are, constants_of, linked_runs, LabelsAre, LaterItems, TextsAre, ConstantsAre, UsesAre, EntryIs, Links, LabelsFit}
use Rattle.link_model.proofs.LinkedBytes.{one_item}

-- ---- the cards

abbrev pub last_cards : Listing → ℕ → List Card
last_cards l e = rld_cards (end_card e ∷ []) [] (map constant_item (constants_of l))

abbrev pub later_cards : Listing → ℕ → List Card
later_cards l e = map label_card (labels (places 0 l) l.items) ++ (text_cards 1 (linked_runs l) ++ last_cards l e)

pub cards_are : (l : Listing) (e : ℕ) → linked_cards l e ≡ esd 1 (one_section (whole_length (places 0 l)) ∷ []) ∷ later_cards l e
unfolding linked_cards
cards_are l e =
    let ps = places 0 l in
    let first = esd 1 (one_section (whole_length ps) ∷ []) in
    let texts = text_cards 1 (linked_runs l) in
    ap (λ es. first ∷ (map label_card es ++ (texts ++ rld_cards (end_card e ∷ []) [] (linked_items l.items ps l.relocations)))) (labels_are ps l.items)
    ∙ ap (λ is. first ∷ (map label_card (labels ps l.items) ++ (texts ++ rld_cards (end_card e ∷ []) [] is))) (items_are l.items ps l.relocations)

-- ---- lists

abbrev Tail : List EsdItem → List Run → List Relative → ℕ → Listing → Type 0
Tail es rs ks e k = LabelsAre es k.items × TextsAre rs k.texts × ConstantsAre ks k.relocations × EntryIs e k.entries × UsesAre k.uses

end_tail : (e n : ℕ) → Tail [] [] [] e (listing_of (numbered n 0 (end_card e ∷ [])))
end_tail e n = (tt, tt, tt, (refl, refl, refl), (refl, refl, tt))

rlds : (n : ℕ) (rs ks : List Relative) (ss : List Relocation) → ConstantsAre ks ss → ConstantsAre (rs ++ ks) (rld_list n 0 (map constant_item rs) ++ ss)
rlds n [] ks ss h = h
rlds n (r ∷ rs) ks ss h = (refl, refl, rlds n rs ks ss h)

rld_uses : (n : ℕ) (rs : List Relative) (us : List Use) → UsesAre us → UsesAre (pointer_uses n 0 (map constant_item rs) ++ us)
rld_uses n [] us h = h
rld_uses n (r ∷ rs) us h = (refl, refl, (refl, refl, rld_uses n rs us h))

closed_tail : (rs ks : List Relative) (e : ℕ) (more : List Card) (n : ℕ) → ((m : ℕ) → Tail [] [] ks e (listing_of (numbered m 0 more))) → Tail [] [] (rs ++ ks) e (listing_of (numbered n 0 (rld_closed (map constant_item rs) more)))
closed_tail [] ks e more n h = h n
closed_tail (r ∷ rs) ks e more n h =
    let k = listing_of (numbered (n + 1) 0 more) in
    let t = h (n + 1) in
    (t.0, t.1, rlds n (r ∷ rs) ks k.relocations t.2, t.3, rld_uses n (r ∷ rs) k.uses t.4)

chunk_case : (b : Bool) (held : List Relative) (r : Relative) (rs : List Relative) (e n : ℕ) (more : List Card) → ((ks : List Relative) (m : ℕ) → Tail [] [] (ks ++ rs) e (listing_of (numbered m 0 (rld_cards more (map constant_item ks) (map constant_item rs))))) → Tail [] [] (held ++ r ∷ rs) e (listing_of (numbered n 0 (next_item b (map constant_item held) (constant_item r) (λ is. rld_cards more is (map constant_item rs)))))
chunk_case true held r rs e n more ih = closed_tail held (r ∷ rs) e (rld_cards more (constant_item r ∷ []) (map constant_item rs)) n (λ m. ih (r ∷ []) m)
chunk_case false held r rs e n more ih =
    let a : (held ++ r ∷ []) ++ rs ≡ held ++ r ∷ rs = append_assoc held (r ∷ []) rs in
    let b : map constant_item (held ++ r ∷ []) ≡ map constant_item held ++ constant_item r ∷ [] = map-append constant_item held (r ∷ []) in
    subst (λ is. Tail [] [] (held ++ r ∷ rs) e (listing_of (numbered n 0 (rld_cards more is (map constant_item rs))))) b
    (subst (λ ks. Tail [] [] ks e (listing_of (numbered n 0 (rld_cards more (map constant_item (held ++ r ∷ [])) (map constant_item rs))))) a (ih (held ++ r ∷ []) n))

chunks_tail : (rs held : List Relative) (e n : ℕ) (more : List Card) → ((m : ℕ) → Tail [] [] [] e (listing_of (numbered m 0 more))) → Tail [] [] (held ++ rs) e (listing_of (numbered n 0 (rld_cards more (map constant_item held) (map constant_item rs))))
chunks_tail [] held e n more h = closed_tail held [] e more n h
chunks_tail (r ∷ rs) held e n more h = chunk_case (eqb (length (map constant_item held)) 13) held r rs e n more (λ ks m. chunks_tail rs ks e m more h)

texts_tail : (rs : List Run) (ks : List Relative) (e n : ℕ) (more : List Card) → ((m : ℕ) → Tail [] [] ks e (listing_of (numbered m 0 more))) → Tail [] rs ks e (listing_of (numbered n 0 (text_cards 1 rs ++ more)))
texts_tail [] ks e n more h = h n
texts_tail (r ∷ rs) ks e n more h =
    let t = texts_tail rs ks e (n + 1) more h in
    (t.0, (refl, refl, refl, refl, t.1), t.2, t.3, (refl, refl, t.4))

label_case : (b : Bool) (ps : List Placed) (i : Item) (is : List Item) (rs : List Run) (ks : List Relative) (e n : ℕ) (more : List Card) → ((m : ℕ) → Tail (labels ps is) rs ks e (listing_of (numbered m 0 (map label_card (labels ps is) ++ more)))) → Tail (cond b (label_of ps i ∷ labels ps is) (labels ps is)) rs ks e (listing_of (numbered n 0 (map label_card (cond b (label_of ps i ∷ labels ps is) (labels ps is)) ++ more)))
label_case true ps i is rs ks e n more ih = let t = ih (n + 1) in ((refl, refl, t.0), t.1, t.2, t.3, (refl, refl, t.4))
label_case false ps i is rs ks e n more ih = ih n

labels_tail : (ps : List Placed) (is : List Item) (rs : List Run) (ks : List Relative) (e n : ℕ) (more : List Card) → ((m : ℕ) → Tail [] rs ks e (listing_of (numbered m 0 more))) → Tail (labels ps is) rs ks e (listing_of (numbered n 0 (map label_card (labels ps is) ++ more)))
labels_tail ps [] rs ks e n more h = h n
labels_tail ps (i ∷ is) rs ks e n more h = label_case (is_named i) ps i is rs ks e n more (λ m. labels_tail ps is rs ks e m more h)

pub linked_lists : (l : Listing) (e : ℕ) → Links l (listing_of (numbered 1 0 (linked_cards l e))) e
linked_lists l e =
    let ps = places 0 l in
    let t = labels_tail ps l.items (linked_runs l) (constants_of l) e 2 (text_cards 1 (linked_runs l) ++ last_cards l e)
    (λ m. texts_tail (linked_runs l) (constants_of l) e m (last_cards l e) (λ k. chunks_tail (constants_of l) [] e k (end_card e ∷ []) (λ j. end_tail e j))) in
    subst (λ cs. Links l (listing_of (numbered 1 0 cs)) e) (sym (cards_are l e))
    (record { items = (refl, t.0); texts = t.1; constants = t.2; entries = t.3; uses = t.4 })

-- ---- the last card is an END card

abbrev EndsWell : List Card → Type 0
EndsWell cs = (b : Bool) (n m : ℕ) → ends b (numbered n m cs) ≡ true

one_more : (c : Card) (cs : List Card) → EndsWell cs → EndsWell (c ∷ cs)
one_more c cs h b n m = h (is_end c) (n + 1) (cond (is_end c) (m + 1) m)

front_ends : (cs ds : List Card) → EndsWell ds → EndsWell (cs ++ ds)
front_ends [] ds h = h
front_ends (c ∷ cs) ds h = one_more c (cs ++ ds) (front_ends cs ds h)

closed_ends : (is : List RldItem) (more : List Card) → EndsWell more → EndsWell (rld_closed is more)
closed_ends [] more h = h
closed_ends (i ∷ is) more h = one_more (rld (i ∷ is)) more h

chunk_ends_case : (b : Bool) (held : List RldItem) (i : RldItem) (is : List RldItem) (more : List Card) → ((ks : List RldItem) → EndsWell (rld_cards more ks is)) → EndsWell (next_item b held i (λ ks. rld_cards more ks is))
chunk_ends_case true held i is more ih = closed_ends held (rld_cards more (i ∷ []) is) (ih (i ∷ []))
chunk_ends_case false held i is more ih = ih (held ++ i ∷ [])

chunks_end : (is held : List RldItem) (more : List Card) → EndsWell more → EndsWell (rld_cards more held is)
chunks_end [] held more h = closed_ends held more h
chunks_end (i ∷ is) held more h = chunk_ends_case (eqb (length held) 13) held i is more (λ ks. chunks_end is ks more h)

last_ends : (e : ℕ) → EndsWell (end_card e ∷ [])
last_ends e b n m = refl

pub linked_ends : (l : Listing) (e : ℕ) → ends false (numbered 1 0 (linked_cards l e)) ≡ true
linked_ends l e =
    let names = map label_card (labels (places 0 l) l.items) in
    let texts = text_cards 1 (linked_runs l) in
    subst (λ cs. ends false (numbered 1 0 cs) ≡ true) (sym (cards_are l e))
    (one_more (esd 1 (one_section (whole_length (places 0 l)) ∷ [])) (later_cards l e)
    (front_ends names (texts ++ last_cards l e)
    (front_ends texts (last_cards l e) (chunks_end (map constant_item (constants_of l)) [] (end_card e ∷ []) (last_ends e)))) false 1 0)

-- ---- what the linked deck is known for

known_one : (es : List EsdItem) (n : ℕ) (js : List Item) (w d : ℕ) → LaterItems es n js → w ≡ 0 → d ≡ 1 → is_section_found (find (has_id w d) js) ≡ true
known_one es n js w d h e f = ap (λ x. is_section_found (find (has_id x d) js)) e ∙ (ap (λ x. is_section_found (find (has_id 0 x) js)) f ∙ ap is_section_found (one_item es n js h))

texts_known : (es : List EsdItem) (n : ℕ) (js : List Item) (rs : List Run) (ts : List Text) → LaterItems es n js → TextsAre rs ts → TextsKnown js ts
texts_known es n js [] [] h t = tt
texts_known es n js [] (x ∷ ts) h t = absurd t
texts_known es n js (r ∷ rs) [] h t = absurd t
texts_known es n js (r ∷ rs) (x ∷ ts) h t = (known_one es n js x.owner x.id h t.0 t.1, texts_known es n js rs ts h t.4)

constants_known : (es : List EsdItem) (n : ℕ) (js : List Item) (rs : List Relative) (ss : List Relocation) → LaterItems es n js → ConstantsAre rs ss → ConstantsKnown js ss
constants_known es n js [] [] h t = tt
constants_known es n js [] (s ∷ ss) h t = absurd t
constants_known es n js (r ∷ rs) [] h t = absurd t
constants_known es n js (r ∷ rs) (s ∷ ss) h t = (known_one es n js s.owner s.item.place h t.0 (ap (λ (x : RldItem). x.place) t.1), constants_known es n js rs ss h t.2)

label_known : (b : Bool) (js : List Item) (j : Item) → (b ≡ true → is_section_found (find (has_id j.owner j.item.extent) js) ≡ true) → LabelKnown js b j
label_known true js j h = h refl
label_known false js j h = tt

address_low : (a : ℕ) (b : Bool) → IsTrue (ltb a 16777216 && b) → a ≤ 4294967296
address_low a b h = let k : a < 16777216 = grind (arith, nat_tests) in omega arith

items_case : (b : Bool) (ps : List Placed) (i : Item) (is js all : List Item) (es : List EsdItem) (n : ℕ) → LaterItems es n all → ((ks : List Item) → LabelsFit (labels ps is) → LabelsAre (labels ps is) ks → ItemsKnown all ks) → LabelsFit (cond b (label_of ps i ∷ labels ps is) (labels ps is)) → LabelsAre (cond b (label_of ps i ∷ labels ps is) (labels ps is)) js → ItemsKnown all js
items_case true ps i is [] all es n h ih f t = absurd t
items_case true ps i is (j ∷ js) all es n h ih f t =
    let x : j.item.extent ≡ 1 = ap (λ (k : EsdItem). k.extent) t.0 in
    let a : j.item.address ≡ (label_of ps i).address = ap (λ (k : EsdItem). k.address) t.0 in
    let low : (label_of ps i).address ≤ 4294967296 = address_low (label_of ps i).address (ltb 1 65536) f.1 in (
      label_known (is_label j.item.sort) all j (λ e. known_one es n all j.owner j.item.extent h t.1 x),
      subst (λ y. y ≤ 4294967296) (sym a) low,
      ih js f.2 t.2,
    )
items_case false ps i is js all es n h ih f t = ih js f t

later_known : (ps : List Placed) (is js all : List Item) (es : List EsdItem) (n : ℕ) → LaterItems es n all → LabelsFit (labels ps is) → LabelsAre (labels ps is) js → ItemsKnown all js
later_known ps [] [] all es n h f t = tt
later_known ps [] (j ∷ js) all es n h f t = absurd t
later_known ps (i ∷ is) js all es n h f t = items_case (is_named i) ps i is js all es n h (λ ks g u. later_known ps is ks all es n h g u) f t

first_no_label : (n : ℕ) (j : Item) → j ≡ first_item n → is_label j.item.sort ≡ true → ⊥
first_no_label n j h e = let z : false ≡ true = sym (ap (λ (i : Item). is_label i.item.sort) h) ∙ e in absurd (grind (arith, nat_tests))

items_known : (ps : List Placed) (n : ℕ) (is js all : List Item) → LaterItems (labels ps is) n all → LaterItems (labels ps is) n js → LabelsFit (labels ps is) → ItemsKnown all js
items_known ps n is [] all h t f = absurd t
items_known ps n is (j ∷ js) all h t f = (
  label_known (is_label j.item.sort) all j (λ e. absurd (first_no_label n j t.0 e)),
  subst (λ (i : Item). i.item.address ≤ 4294967296) (sym t.0) (omega arith),
  later_known ps is js all (labels ps is) n h f t.1,
)

pub linked_known : (l j : Listing) (e : ℕ) → Links l j e → LabelsFit (labels (places 0 l) l.items) → Known j
linked_known l j e t f =
    let ps = places 0 l in
    let n : ℕ = whole_length ps in
    let es = labels ps l.items in
    record {
      texts = texts_known es n j.items (linked_runs l) j.texts t.items t.texts;
      constants = constants_known es n j.items (constants_of l) j.relocations t.items t.constants;
      items = items_known ps n l.items j.items j.items t.items t.items f;
    }
