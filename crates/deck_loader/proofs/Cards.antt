-- Steps over the cards of a deck.
use Rattle.std.proofs.Common.{◌≡◌, ◌≢◌, ℕ, zero, suc, ◌+◌, ◌/◌, ◌%◌, eqb, length, Bool, true, false, cond, not, List, [], ◌∷◌, ◌++◌, take, drop, Option, Some, None, Result, Ok, Err, refl, sym, ◌∙◌, ap, subst, arith, append_assoc, append-nil}
use Rattle.std.proofs.lemmas.Bool.Decides.{nat_tests}
use Rattle.std.specs.List.{find}
use Rattle.deck_model.specs.Card.{card_of}
use Rattle.deck_model.specs.Deck.{Listing, listing, listing_of, listing_or_refusal, cards_of, cards_from, with_first, ends, is_end, card_refusal, texts_of, uses_of, esd_list, label_uses, rld_list, pointer_uses}
use Rattle.deck_model.specs.Image.{is_unknown, is_section_found, has_id}
use Rattle.deck_model.specs.declared.cards.Card.{Card}
use Rattle.deck_model.specs.declared.cards.Card.TheVariants.{Esd, Txt, Rld, End, Sym}
use Rattle.deck_model.specs.declared.cards.CardRefusal.{CardRefusal}
use Rattle.deck_model.specs.declared.cards.CardRefusal.TheVariants.{BadFirstByte, UnknownCard, BadCount, Unsupported}
use Rattle.deck_model.specs.declared.decks.DeckRefusal.{DeckRefusal}
use Rattle.deck_model.specs.declared.decks.DeckRefusal.TheVariants.{NoEnd, NotCards}
use Rattle.deck_model.specs.declared.decks.Numbered.{Numbered}
use Rattle.deck_model.specs.declared.decks.Item.{Item}
use Rattle.deck_model.specs.declared.decks.Text.{Text}
use Rattle.deck_model.specs.declared.decks.Relocation.{Relocation}
use Rattle.deck_model.specs.declared.decks.Entry.{Entry}
use Rattle.deck_model.specs.declared.decks.Use.{Use}
use Rattle.deck_loader.specs.Listed.{Refuses, no_listing, with_card, joined, onto, TextsKnown, TextsAreUsed}

abbrev so : List Item → List Text → List Relocation → List Entry → List Use → Listing
so is ts rs es us = record { items = is; texts = ts; relocations = rs; entries = es; uses = us }

abbrev numbered : ℕ → ℕ → Card → Numbered
numbered n m c = record { number = n; owner = m; card = c }

joined_step : (n m : ℕ) (l : Listing) (c : Card) (cs : List Numbered) → joined l (listing_of (numbered n m c ∷ cs)) ≡ joined (with_card n m l c) (listing_of cs)
joined_step n m l (Esd c) cs =
    let k = listing_of cs in
    let xs = esd_list n m c.first_id c.items.items in
    let us = label_uses n m c.items.items in
    ap (λ z. so z (l.texts ++ k.texts) (l.relocations ++ k.relocations) (l.entries ++ k.entries) (l.uses ++ (us ++ k.uses))) (sym (append_assoc l.items xs k.items))
    ∙ ap (so ((l.items ++ xs) ++ k.items) (l.texts ++ k.texts) (l.relocations ++ k.relocations) (l.entries ++ k.entries)) (sym (append_assoc l.uses us k.uses))
joined_step n m l (Txt c) cs =
    let k = listing_of cs in
    let x : Text = record { number = n; owner = m; id = c.id; address = c.address; bytes = c.bytes } in
    let u : Use = record { number = n; owner = m; id = c.id; any = false } in
    ap (λ z. so (l.items ++ k.items) z (l.relocations ++ k.relocations) (l.entries ++ k.entries) (l.uses ++ (u ∷ k.uses))) (sym (append_assoc l.texts (x ∷ []) k.texts))
    ∙ ap (so (l.items ++ k.items) ((l.texts ++ x ∷ []) ++ k.texts) (l.relocations ++ k.relocations) (l.entries ++ k.entries)) (sym (append_assoc l.uses (u ∷ []) k.uses))
joined_step n m l (Rld c) cs =
    let k = listing_of cs in
    let xs = rld_list n m c.items.items in
    let us = pointer_uses n m c.items.items in
    ap (λ z. so (l.items ++ k.items) (l.texts ++ k.texts) z (l.entries ++ k.entries) (l.uses ++ (us ++ k.uses))) (sym (append_assoc l.relocations xs k.relocations))
    ∙ ap (so (l.items ++ k.items) (l.texts ++ k.texts) ((l.relocations ++ xs) ++ k.relocations) (l.entries ++ k.entries)) (sym (append_assoc l.uses us k.uses))
joined_step n m l (End None) cs = refl
joined_step n m l (End (Some e)) cs =
    let k = listing_of cs in
    let x : Entry = record { number = n; owner = m; address = e.address; id = e.id } in
    let u : Use = record { number = n; owner = m; id = e.id; any = false } in
    ap (λ z. so (l.items ++ k.items) (l.texts ++ k.texts) (l.relocations ++ k.relocations) z (l.uses ++ (u ∷ k.uses))) (sym (append_assoc l.entries (x ∷ []) k.entries))
    ∙ ap (so (l.items ++ k.items) (l.texts ++ k.texts) (l.relocations ++ k.relocations) ((l.entries ++ x ∷ []) ++ k.entries)) (sym (append_assoc l.uses (u ∷ []) k.uses))
joined_step n m l Sym cs = refl

onto_step : (n m : ℕ) (l : Listing) (ended : Bool) (c : Card) (r : Result (List Numbered) DeckRefusal) → onto l ended (with_first (numbered n m c) r) ≡ onto (with_card n m l c) (is_end c) r
onto_step n m l ended c (Err e) = refl
onto_step n m l ended c (Ok cs) = ap (λ k. cond (ends (is_end c) cs) (Ok k) (Err NoEnd)) (joined_step n m l c cs)

pub card_next : (n m number owner : ℕ) (l : Listing) (ended : Bool) (bytes : List ℕ) (c : Card) → n ≡ m + 1 → card_of (take 80 bytes) ≡ Ok c → onto l ended (cards_from n number owner bytes) ≡ onto (with_card number owner l c) (is_end c) (cards_from m (number + 1) (cond (is_end c) (owner + 1) owner) (drop 80 bytes))
card_next zero m number owner l ended bytes c e h = absurd (omega arith)
card_next (suc n) m number owner l ended bytes c e h =
    let s : n ≡ m = omega arith in
    rw h (onto_step number owner l ended c (cards_from n (number + 1) (cond (is_end c) (owner + 1) owner) (drop 80 bytes))
    ∙ ap (λ k. onto (with_card number owner l c) (is_end c) (cards_from k (number + 1) (cond (is_end c) (owner + 1) owner) (drop 80 bytes))) s)

pub card_refused : (n m number owner : ℕ) (l : Listing) (ended : Bool) (bytes : List ℕ) (r : CardRefusal) → n ≡ m + 1 → card_of (take 80 bytes) ≡ Err r → onto l ended (cards_from n number owner bytes) ≡ Err (card_refusal number r)
card_refused zero m number owner l ended bytes r e h = absurd (omega arith)
card_refused (suc n) m number owner l ended bytes r e h = rw h refl

pub card_refuses : (reading : Result Listing DeckRefusal) (n : ℕ) (r : CardRefusal) (d : DeckRefusal) → reading ≡ Err (card_refusal n r) → d ≡ card_refusal n r → Refuses reading d
card_refuses reading n BadFirstByte d e h = rw h e
card_refuses reading n UnknownCard d e h = rw h e
card_refuses reading n BadCount d e h = rw h e
card_refuses reading n (Unsupported k) d e h = rw h e

cards_start : (bytes : List ℕ) (n : ℕ) → length bytes % 80 ≡ 0 → n ≡ length bytes / 80 → cards_of bytes ≡ cards_from n 1 0 bytes
unfolding cards_of
cards_start bytes n h e = let t : eqb (length bytes % 80) 0 ≡ true = grind (arith, nat_tests) in rw t (ap (λ k. cards_from k 1 0 bytes) (sym e))

pub not_cards : (bytes : List ℕ) → length bytes % 80 ≢ 0 → listing bytes ≡ Err NotCards
unfolding listing cards_of
not_cards bytes h = let t : eqb (length bytes % 80) 0 ≡ false = grind (arith, nat_tests) in rw t refl

onto_none : (r : Result (List Numbered) DeckRefusal) → onto no_listing false r ≡ listing_or_refusal r
onto_none (Err e) = refl
onto_none (Ok cs) = refl

-- before the first card
pub onto_start : (bytes : List ℕ) (n : ℕ) (l : Listing) → length bytes % 80 ≡ 0 → n ≡ length bytes / 80 → l ≡ no_listing → onto l false (cards_from n 1 0 bytes) ≡ listing bytes
unfolding listing
onto_start bytes n l h e k = ap (λ k. onto k false (cards_from n 1 0 bytes)) k ∙ (onto_none (cards_from n 1 0 bytes) ∙ ap listing_or_refusal (sym (cards_start bytes n h e)))

-- after the last one
pub onto_end : (l : Listing) → joined l no_listing ≡ l
onto_end l =
    ap (λ z. so z (l.texts ++ []) (l.relocations ++ []) (l.entries ++ []) (l.uses ++ [])) (append-nil l.items)
    ∙ (ap (λ z. so l.items z (l.relocations ++ []) (l.entries ++ []) (l.uses ++ [])) (append-nil l.texts)
    ∙ (ap (λ z. so l.items l.texts z (l.entries ++ []) (l.uses ++ [])) (append-nil l.relocations)
    ∙ (ap (λ z. so l.items l.texts l.relocations z (l.uses ++ [])) (append-nil l.entries)
    ∙ ap (so l.items l.texts l.relocations l.entries) (append-nil l.uses))))

-- ---- each text uses an ESDID

pub none_case : {X : Type 0} (b : Bool) (x : X) (r : Option X) → cond b (Some x) r ≡ None → (b ≡ false) × (r ≡ None)
none_case true x r h = absurd (grind (arith, nat_tests))
none_case false x r h = (refl, h)

none_after : {X : Type 0} (p : X → Bool) (xs ys : List X) → find p (xs ++ ys) ≡ None → find p ys ≡ None
none_after p [] ys h = h
none_after p (x ∷ xs) ys h = none_after p xs ys (none_case (p x) x (find p (xs ++ ys)) h).1

found_by : (b : Bool) → not b ≡ false → b ≡ true
found_by true h = refl
found_by false h = absurd (grind (arith, nat_tests))

used_step : (items : List Item) (n m : ℕ) (c : Card) (us : List Use) (ts : List Text) → find (is_unknown items) (uses_of n m c ++ us) ≡ None → TextsKnown items ts → TextsKnown items (texts_of n m c ++ ts)
used_step items n m (Esd c) us ts h k = k
used_step items n m (Txt c) us ts h k =
    let u : Use = record { number = n; owner = m; id = c.id; any = false } in
    (found_by (is_section_found (find (has_id m c.id) items)) (none_case (is_unknown items u) u (find (is_unknown items) us) h).0, k)
used_step items n m (Rld c) us ts h k = k
used_step items n m (End e) us ts h k = k
used_step items n m Sym us ts h k = k

used_texts : (items : List Item) (cs : List Numbered) → find (is_unknown items) (listing_of cs).uses ≡ None → TextsKnown items (listing_of cs).texts
used_texts items [] h = tt
used_texts items (c ∷ cs) h =
    let later = none_after (is_unknown items) (uses_of c.number c.owner c.card) (listing_of cs).uses h in
    used_step items c.number c.owner c.card (listing_of cs).uses (listing_of cs).texts h (used_texts items cs later)

pub by_end : (b : Bool) (cs : List Numbered) (l : Listing) → cond b (Ok (listing_of cs)) (Err NoEnd) ≡ Ok l → listing_of cs ≡ l
by_end true cs l h = grind (arith, nat_tests)
by_end false cs l h = absurd (grind (arith, nat_tests))

by_cards : (r : Result (List Numbered) DeckRefusal) (l : Listing) → listing_or_refusal r ≡ Ok l → TextsAreUsed l
by_cards (Err e) l h = absurd (grind (arith, nat_tests))
by_cards (Ok cs) l h =
    let P : Listing → Type 0 = λ k. TextsAreUsed k in
    subst P (by_end (ends false cs) cs l h) (λ items u. used_texts items cs u)

pub used_of : (bytes : List ℕ) (l : Listing) → listing bytes ≡ Ok l → TextsAreUsed l
unfolding listing
used_of bytes l h = by_cards (cards_of bytes) l h
