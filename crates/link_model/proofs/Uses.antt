-- The sections of constants and labels are among the uses of a deck.
use Rattle.std.proofs.Common.{◌≡◌, ℕ, ◌+◌, Bool, true, false, cond, not, List, [], ◌∷◌, ◌++◌, Option, Some, None, Result, Ok, Err, refl, sym, ◌∙◌, ap, subst, arith}
use Rattle.std.proofs.lemmas.Bool.Decides.{nat_tests}
use Rattle.std.specs.List.{find}
use Rattle.deck_model.specs.Deck.{Listing, listing, listing_of, listing_or_refusal, cards_of, ends, uses_of, items_of, relocations_of, esd_list, label_uses, rld_list, pointer_uses, is_label}
use Rattle.deck_model.specs.Image.{has_id, is_unknown, is_section_found}
use Rattle.deck_model.specs.declared.cards.Card.{Card}
use Rattle.deck_model.specs.declared.cards.Card.TheVariants.{Esd, Txt, Rld, End, Sym}
use Rattle.deck_model.specs.declared.cards.EsdItem.{EsdItem}
use Rattle.deck_model.specs.declared.cards.RldItem.{RldItem}
use Rattle.deck_model.specs.declared.decks.DeckRefusal.{DeckRefusal}
use Rattle.deck_model.specs.declared.decks.DeckRefusal.TheVariants as deck
use Rattle.deck_model.specs.declared.decks.Item.{Item}
use Rattle.deck_model.specs.declared.decks.Numbered.{Numbered}
use Rattle.deck_model.specs.declared.decks.Relocation.{Relocation}
use Rattle.deck_model.specs.declared.decks.Use.{Use}
use Rattle.deck_loader.proofs.Cards.{none_case, by_end}
use Rattle.link_model.proofs.Moving.{ConstantsKnown, LabelKnown, LabelsKnown}
use Rattle.link_model.proofs.Links.{ConstantsAreUsed, LabelsAreUsed}

found_by : (b : Bool) → not b ≡ false → b ≡ true
found_by true h = refl
found_by false h = absurd (grind (arith, nat_tests))

none_after : {X : Type 0} (p : X → Bool) (xs ys : List X) → find p (xs ++ ys) ≡ None → find p ys ≡ None
none_after p [] ys h = h
none_after p (x ∷ xs) ys h = none_after p xs ys (none_case (p x) x (find p (xs ++ ys)) h).1

abbrev use_of : ℕ → ℕ → ℕ → Bool → Use
use_of n m d b = record { number = n; owner = m; id = d; any = b }

constants_step : (items : List Item) (n m : ℕ) (is : List RldItem) (us : List Use) (rs : List Relocation) → find (is_unknown items) (pointer_uses n m is ++ us) ≡ None → ConstantsKnown items rs → ConstantsKnown items (rld_list n m is ++ rs)
constants_step items n m [] us rs h k = k
constants_step items n m (i ∷ is) us rs h k =
    let a = none_case (is_unknown items (use_of n m i.place false)) (use_of n m i.place false) (find (is_unknown items) (use_of n m i.target true ∷ (pointer_uses n m is ++ us))) h in
    let b = none_case (is_unknown items (use_of n m i.target true)) (use_of n m i.target true) (find (is_unknown items) (pointer_uses n m is ++ us)) a.1 in
    (found_by (is_section_found (find (has_id m i.place) items)) a.0, constants_step items n m is us rs b.1 k)

constants_card : (items : List Item) (n m : ℕ) (c : Card) (us : List Use) (rs : List Relocation) → find (is_unknown items) (uses_of n m c ++ us) ≡ None → ConstantsKnown items rs → ConstantsKnown items (relocations_of n m c ++ rs)
constants_card items n m (Esd c) us rs h k = k
constants_card items n m (Txt c) us rs h k = k
constants_card items n m (Rld c) us rs h k = constants_step items n m c.items.items us rs h k
constants_card items n m (End e) us rs h k = k
constants_card items n m Sym us rs h k = k

constants_used : (items : List Item) (cs : List Numbered) → find (is_unknown items) (listing_of cs).uses ≡ None → ConstantsKnown items (listing_of cs).relocations
constants_used items [] h = tt
constants_used items (c ∷ cs) h =
    let later = none_after (is_unknown items) (uses_of c.number c.owner c.card) (listing_of cs).uses h in
    constants_card items c.number c.owner c.card (listing_of cs).uses (listing_of cs).relocations h (constants_used items cs later)

-- ---- labels

label_case : (b : Bool) (items : List Item) (n m d : ℕ) (j : Item) (us : List Use) → j.owner ≡ m → j.item.extent ≡ d → find (is_unknown items) (cond b (use_of n m d false ∷ us) us) ≡ None → LabelKnown items b j × (find (is_unknown items) us ≡ None)
label_case true items n m d j us e f h =
    let a = none_case (is_unknown items (use_of n m d false)) (use_of n m d false) (find (is_unknown items) us) h in
    let k = found_by (is_section_found (find (has_id m d) items)) a.0 in
    (ap (λ w. is_section_found (find (has_id w j.item.extent) items)) e ∙ (ap (λ x. is_section_found (find (has_id m x) items)) f ∙ k), a.1)
label_case false items n m d j us e f h = (tt, h)

uses_front : (b : Bool) (u : Use) (us vs : List Use) → cond b (u ∷ us) us ++ vs ≡ cond b (u ∷ (us ++ vs)) (us ++ vs)
uses_front true u us vs = refl
uses_front false u us vs = refl

labels_step : (items : List Item) (n m id : ℕ) (is : List EsdItem) (us : List Use) (js : List Item) → find (is_unknown items) (label_uses n m is ++ us) ≡ None → LabelsKnown items js → LabelsKnown items (esd_list n m id is ++ js)
labels_step items n m id [] us js h k = k
labels_step items n m id (i ∷ is) us js h k =
    let j : Item = record { number = n; owner = m; id = id; item = i } in
    let f = ap (find (is_unknown items)) (sym (uses_front (is_label i.sort) (use_of n m i.extent false) (label_uses n m is) us)) ∙ h in
    let r = label_case (is_label i.sort) items n m i.extent j (label_uses n m is ++ us) refl refl f in
    (r.0, labels_step items n m (cond (is_label i.sort) id (id + 1)) is us js r.1 k)

labels_card : (items : List Item) (n m : ℕ) (c : Card) (us : List Use) (js : List Item) → find (is_unknown items) (uses_of n m c ++ us) ≡ None → LabelsKnown items js → LabelsKnown items (items_of n m c ++ js)
labels_card items n m (Esd c) us js h k = labels_step items n m c.first_id c.items.items us js h k
labels_card items n m (Txt c) us js h k = k
labels_card items n m (Rld c) us js h k = k
labels_card items n m (End e) us js h k = k
labels_card items n m Sym us js h k = k

labels_used : (items : List Item) (cs : List Numbered) → find (is_unknown items) (listing_of cs).uses ≡ None → LabelsKnown items (listing_of cs).items
labels_used items [] h = tt
labels_used items (c ∷ cs) h =
    let later = none_after (is_unknown items) (uses_of c.number c.owner c.card) (listing_of cs).uses h in
    labels_card items c.number c.owner c.card (listing_of cs).uses (listing_of cs).items h (labels_used items cs later)

by_cards : (r : Result (List Numbered) DeckRefusal) (l : Listing) → listing_or_refusal r ≡ Ok l → ConstantsAreUsed l × LabelsAreUsed l
by_cards (Err e) l h = absurd (grind (arith, nat_tests))
by_cards (Ok cs) l h =
    let P : Listing → Type 0 = λ k. ConstantsAreUsed k × LabelsAreUsed k in
    subst P (by_end (ends false cs) cs l h) (λ items u. constants_used items cs u, λ items u. labels_used items cs u)

pub uses_known : (bytes : List ℕ) (l : Listing) → listing bytes ≡ Ok l → ConstantsAreUsed l × LabelsAreUsed l
unfolding listing
uses_known bytes l h = by_cards (cards_of bytes) l h
