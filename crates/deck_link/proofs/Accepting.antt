-- What is answered for a deck without a violation, and that one without a refusal fits.
use Rattle.std.proofs.Common.{◌≡◌, ℕ, ◌+◌, ◌*◌, ◌<◌, ◌≤◌, true, false, cond, eqb, ltb, List, [], ◌∷◌, length, Option, Some, None, Result, Ok, Err, IfOk, refl, sym, ◌∙◌, ap, subst, arith}
use Rattle.std.proofs.lemmas.Bool.Decides.{nat_tests}
use Rattle.std.specs.List.{find, list_any}
use Rattle.deck_model.specs.Deck.{Listing, listing}
use Rattle.deck_model.specs.Image.{Image, places, violation, later_violation, first_doubled, same_id, same_name, entry, or_zero, item_number, relocation_number, refused, has_no_room, image_of, image_byte, bytes_from, unless_refused}
use Rattle.deck_model.specs.Linking.{first_clash}
use Rattle.deck_model.specs.declared.decks.Placed.{Placed}
use Rattle.deck_model.specs.declared.decks.Relocation.{Relocation}
use Rattle.deck_model.specs.declared.decks.DeckRefusal.{DeckRefusal}
use Rattle.deck_model.specs.declared.decks.DeckRefusal.TheVariants as deck
use Rattle.program_model.specs.declared.refusals.LinkRefusal.{LinkRefusal}
use Rattle.program_model.specs.declared.refusals.LinkRefusal.TheVariants.{Deck, Clash, Label, BlankEntry, TooLong}
use Rattle.deck_cards.specs.NumberedCards.{deck_bytes}
use Rattle.deck_cards.proofs.Reading.{length_deck}
use Rattle.deck_loader.specs.Listed.{Refuses, ItemsTyped, WidthsFit}
use Rattle.deck_loader.proofs.Cards.{used_of}
use Rattle.deck_loader.proofs.Inside.{refused_none, accepted_of, inside_constants}
use Rattle.link_model.specs.Linked.{whole_length, linked_cards}
use Rattle.link_model.specs.Link.{is_far_label, refused_by, unless_violated, unless_long, linked_from, link_listing, link_of}
use Rattle.link_model.specs.Loading.{ReadTyped}
use Rattle.link_model.proofs.Links.{Fits, Taken}
use Rattle.link_model.proofs.Fitting.{taken_fits, no_item}
use Rattle.link_model.proofs.Uses.{uses_known}
use Rattle.link_model.proofs.Origins.{violation_moved}
use Rattle.link_model.proofs.WrittenCards.{linked_writable}
use Rattle.deck_link.specs.Answers.{Refused, loading_refusal}
use Rattle.deck_link.specs.Constants.{constants_for, ConstantsIn}
use Rattle.deck_link.specs.Sound.{Sound}
use Rattle.deck_link.proofs.Gathered.{same_inside}

-- ---- in general

pub map_ok : {A E : Type 0} {P Q : A → Type 0} (r : Result A E) → ((a : A) → P a → Q a) → IfOk r P → IfOk r Q
map_ok (Ok a) f h = f a h
map_ok (Err e) f h = tt

-- ---- a deck that is read

ok_same : (a b : Listing) (r : Result Listing DeckRefusal) → r ≡ Ok a → r ≡ Ok b → a ≡ b
ok_same a b (Ok x) h k =
    let e : x ≡ a = grind (arith, nat_tests) in
    let f : x ≡ b = grind (arith, nat_tests) in
    sym e ∙ f
ok_same a b (Err x) h k = absurd (grind (arith, nat_tests))

pub typed_read : (d : List ℕ) (l : Listing) → listing d ≡ Ok l → ItemsTyped l.items → WidthsFit l.relocations → ReadTyped d
typed_read d l e t w =
    let P : Listing → Type 0 = λ k. ItemsTyped k.items in
    let Q : Listing → Type 0 = λ k. WidthsFit k.relocations in
    record {
      items = λ k f. subst P (ok_same l k (listing d) e f) t;
      widths = λ k f. subst Q (ok_same l k (listing d) e f) w;
    }

-- ---- a deck that is not loaded

pub deck_refused : (linked : Result (List ℕ) LinkRefusal) {A : Type 0} (reading : Result A DeckRefusal) (r : DeckRefusal) → ((x : DeckRefusal) → reading ≡ Err x → linked ≡ Err (Deck x)) → Refuses reading r → Refused linked (loading_refusal r)
deck_refused linked reading deck.NoMemory f h = tt
deck_refused linked reading deck.NotCards f h = f deck.NotCards h
deck_refused linked reading deck.NoEnd f h = f deck.NoEnd h
deck_refused linked reading deck.EntryOutside f h = f deck.EntryOutside h
deck_refused linked reading deck.NoRoom f h = f deck.NoRoom h
deck_refused linked reading (deck.BadFirstByte n) f h = f (deck.BadFirstByte n) h
deck_refused linked reading (deck.UnknownCard n) f h = f (deck.UnknownCard n) h
deck_refused linked reading (deck.BadCount n) f h = f (deck.BadCount n) h
deck_refused linked reading (deck.Unsupported n) f h = f (deck.Unsupported n) h
deck_refused linked reading (deck.DuplicateId n) f h = f (deck.DuplicateId n) h
deck_refused linked reading (deck.DuplicateName n) f h = f (deck.DuplicateName n) h
deck_refused linked reading (deck.UnknownId n) f h = f (deck.UnknownId n) h
deck_refused linked reading (deck.TextOutside n) f h = f (deck.TextOutside n) h
deck_refused linked reading (deck.RldOutside n) f h = f (deck.RldOutside n) h
deck_refused linked reading (deck.Unresolved n) f h = f (deck.Unresolved n) h

pub unread : (d : List ℕ) (x : DeckRefusal) → listing d ≡ Err x → link_of d ≡ Err (Deck x)
unfolding link_of
unread d x e = ap link_listing e

pub link_read : (d : List ℕ) (l : Listing) → listing d ≡ Ok l → link_listing (Ok l) ≡ link_of d
unfolding link_of
link_read d l e = sym (ap link_listing e)

-- the violation at the load origin is that at origin 0
at_load : (l : Listing) → violation 16777216 l (places 65536 l) ≡ violation 16711680 l (places 0 l)
at_load l = violation_moved 65536 8192 16711680 l refl

violated_case : (o : Option DeckRefusal) (i : Image) (more : Result (List ℕ) LinkRefusal) (x : DeckRefusal) → unless_refused o i ≡ Err x → unless_violated o more ≡ Err (Deck x)
violated_case None i more x h = absurd (grind (arith, nat_tests))
violated_case (Some y) i more x h = let e : y ≡ x = grind (arith, nat_tests) in ap (λ z. Err (Deck z)) e

-- what follows where there is no violation
later_answer : Listing → Result (List ℕ) LinkRefusal
later_answer l =
    let ps = places 0 l in
    refused_by Clash (relocation_number (first_clash ps [] l.relocations)) (refused_by Label (item_number (find (is_far_label ps) l.items)) (linked_from l (or_zero (entry ps l.entries))))

listing_answer : (l : Listing) → link_listing (Ok l) ≡ unless_violated (violation 16711680 l (places 0 l)) (later_answer l)
unfolding later_answer
listing_answer l = let more = later_answer l in ap (λ v. unless_violated v more) (at_load l)

pub unloaded : (l : Listing) (x : DeckRefusal) → image_of 0 16711680 (Ok l) ≡ Err x → link_listing (Ok l) ≡ Err (Deck x)
unloaded l x h =
    let ps = places 0 l in
    listing_answer l ∙ violated_case (violation 16711680 l ps) (record { bytes = bytes_from (image_byte l ps) 0 16711680; entry = or_zero (entry ps l.entries) }) (later_answer l) x h

-- ---- a deck without a violation

sound_answer : (l : Listing) → violation 16711680 l (places 0 l) ≡ None → link_listing (Ok l) ≡ later_answer l
sound_answer l v = listing_answer l ∙ ap (λ o. unless_violated o (later_answer l)) v

pub clash_refused : (l : Listing) (n : ℕ) → violation 16711680 l (places 0 l) ≡ None → relocation_number (first_clash (places 0 l) [] l.relocations) ≡ Some n → link_listing (Ok l) ≡ Err (Clash n)
unfolding later_answer
clash_refused l n v c = sound_answer l v ∙ rw c refl

pub label_refused : (l : Listing) (n : ℕ) → violation 16711680 l (places 0 l) ≡ None → relocation_number (first_clash (places 0 l) [] l.relocations) ≡ None → item_number (find (is_far_label (places 0 l)) l.items) ≡ Some n → link_listing (Ok l) ≡ Err (Label n)
unfolding later_answer
label_refused l n v c f = sound_answer l v ∙ rw c (rw f refl)

from_entry : (l : Listing) (e : ℕ) → violation 16711680 l (places 0 l) ≡ None → relocation_number (first_clash (places 0 l) [] l.relocations) ≡ None → item_number (find (is_far_label (places 0 l)) l.items) ≡ None → entry (places 0 l) l.entries ≡ Some e → link_listing (Ok l) ≡ linked_from l e
unfolding later_answer
from_entry l e v c f x = sound_answer l v ∙ rw c (rw f (rw x refl))

pub entry_refused : (l : Listing) (e : ℕ) → violation 16711680 l (places 0 l) ≡ None → relocation_number (first_clash (places 0 l) [] l.relocations) ≡ None → item_number (find (is_far_label (places 0 l)) l.items) ≡ None → entry (places 0 l) l.entries ≡ Some e → e ≡ 0x404040 → link_listing (Ok l) ≡ Err BlankEntry
entry_refused l e v c f x b =
    let t : eqb e 0x404040 ≡ true = grind (arith, nat_tests) in
    from_entry l e v c f x ∙ rw t refl

-- ---- where its constants are

roomy : (n : ℕ) (ps : List Placed) → whole_length ps ≤ n → list_any (has_no_room n) ps ≡ false
roomy n [] h = refl
roomy n (p ∷ ps) h =
    let a : p.at + p.length ≤ n = omega arith in
    let b : whole_length ps ≤ n = omega arith in
    let e : ltb n (p.at + p.length) ≡ false = grind (arith, nat_tests) in
    rw e (roomy n ps b)

sound_later : (l : Listing) → violation 16711680 l (places 0 l) ≡ None → later_violation 16711680 l (places 0 l) ≡ None
sound_later l v =
    let later : Option DeckRefusal = later_violation 16711680 l (places 0 l) in
    let names : Option DeckRefusal = refused deck.DuplicateName (item_number (first_doubled same_name [] l.items)) later in
    let i = refused_none deck.DuplicateId (item_number (first_doubled same_id [] l.items)) names v in
    (refused_none deck.DuplicateName (item_number (first_doubled same_name [] l.items)) later i.1).1

pub sound_room : (l : Listing) → violation 16711680 l (places 0 l) ≡ None → list_any (has_no_room 16711680) (places 0 l) ≡ false
sound_room l v = (accepted_of 16711680 l (places 0 l) (sound_later l v)).room

pub constants_within : (l : Listing) → violation 16711680 l (places 0 l) ≡ None → WidthsFit l.relocations → ConstantsIn (whole_length (places 0 l)) (constants_for l.items (places 0 l) l.relocations)
constants_within l v w =
    let ps = places 0 l in
    let n : ℕ = whole_length ps in
    let a = accepted_of 16711680 l ps (sound_later l v) in
    same_inside n l.items ps l.relocations (inside_constants n ps l.relocations (roomy n ps (omega arith)) w a.constants)

-- ---- a deck that nothing refuses but its length

pub no_number : (o : Option Relocation) → relocation_number o ≡ None → o ≡ None
no_number None h = refl
no_number (Some r) h = absurd (grind (arith, nat_tests))

relocation_none : (o : Option Relocation) → o ≡ None → relocation_number o ≡ None
relocation_none o h = ap relocation_number h

pub sound_taken : (l : Listing) (e : ℕ) → Sound l e → Taken l e
sound_taken l e s =
    let later : Option DeckRefusal = later_violation 16711680 l (places 0 l) in
    let names : Option DeckRefusal = refused deck.DuplicateName (item_number (first_doubled same_name [] l.items)) later in
    let i = refused_none deck.DuplicateId (item_number (first_doubled same_id [] l.items)) names s.sound in
    let j = refused_none deck.DuplicateName (item_number (first_doubled same_name [] l.items)) later i.1 in
    let u = uses_known s.read.deck l s.read.read in
    record {
      texts = used_of s.read.deck l s.read.read;
      constants = u.0;
      items = u.1;
      typed = s.read.items;
      widths = s.read.widths;
      ids = no_item (first_doubled same_id [] l.items) i.0;
      names = no_item (first_doubled same_name [] l.items) j.0;
      accepted = j.1;
      clash = s.clash;
      labels = s.labels;
      entry = s.entry;
      named = s.named;
    }

pub sound_fits : (l : Listing) (e : ℕ) → Sound l e → Fits l e
sound_fits l e s = taken_fits l e (sound_taken l e s)

pub sound_linked : (l : Listing) (e : ℕ) → Sound l e → link_listing (Ok l) ≡ unless_long (deck_bytes 1 (linked_cards l e))
sound_linked l e s =
    from_entry l e s.sound (relocation_none (first_clash (places 0 l) [] l.relocations) s.clash) (ap item_number s.labels) s.entry
    ∙ ap (λ b. cond b (Err BlankEntry) (unless_long (deck_bytes 1 (linked_cards l e)))) s.named

deck_long : (l : Listing) (e : ℕ) → Sound l e → length (deck_bytes 1 (linked_cards l e)) ≡ 80 * length (linked_cards l e)
deck_long l e s = length_deck (linked_cards l e) 1 (linked_writable l e (sound_fits l e s))

pub too_long : (l : Listing) (e : ℕ) → Sound l e → 200000 < length (linked_cards l e) → link_listing (Ok l) ≡ Err TooLong
too_long l e s h =
    let n = deck_long l e s in
    let m : 16000000 < length (deck_bytes 1 (linked_cards l e)) = omega (arith, n, h) in
    let t : ltb 16000000 (length (deck_bytes 1 (linked_cards l e))) ≡ true = grind (arith, nat_tests) in
    sound_linked l e s ∙ ap (λ b. cond b (Err TooLong) (Ok (deck_bytes 1 (linked_cards l e)))) t

pub short_enough : (l : Listing) (e : ℕ) (b : List ℕ) → Sound l e → length (linked_cards l e) ≤ 200000 → b ≡ deck_bytes 1 (linked_cards l e) → link_listing (Ok l) ≡ Ok b
short_enough l e b s h k =
    let n = deck_long l e s in
    let m : length (deck_bytes 1 (linked_cards l e)) ≤ 16000000 = omega (arith, n, h) in
    let t : ltb 16000000 (length (deck_bytes 1 (linked_cards l e))) ≡ false = grind (arith, nat_tests) in
    sound_linked l e s ∙ (ap (λ x. cond x (Err TooLong) (Ok (deck_bytes 1 (linked_cards l e)))) t ∙ ap Ok (sym k))
