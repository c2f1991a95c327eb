-- The linked deck is loaded as the deck is, from every origin.
use Rattle.std.proofs.Common.{◌≡◌, ℕ, ◌+◌, ◌*◌, ◌<◌, ◌≤◌, Bool, true, false, cond, eqb, ltb, List, [], length, Option, Some, None, Result, Ok, Err, refl, sym, ◌∙◌, ap, arith}
use Rattle.std.proofs.lemmas.Bool.Decides.{nat_tests}
use Rattle.std.specs.List.{find, list_any}
use Rattle.deck_model.specs.Deck.{Listing, listing}
use Rattle.deck_model.specs.Image.{Image, places, load_origin, violation, later_violation, first_doubled, same_id, same_name, entry, or_zero, item_number, relocation_number, text_number, use_number, refused, entry_refused, room_refused, is_unknown, is_text_outside, is_constant_outside, is_unresolved, has_no_room, image_at, image_of, image_byte, bytes_from, unless_refused}
use Rattle.deck_model.specs.Linking.{greatest_storage, image_from, first_clash}
use Rattle.deck_model.specs.declared.decks.Placed.{Placed}
use Rattle.deck_model.specs.declared.decks.Relocation.{Relocation}
use Rattle.deck_model.specs.declared.decks.DeckRefusal.{DeckRefusal}
use Rattle.deck_model.specs.declared.decks.DeckRefusal.TheVariants as refusal
use Rattle.program_model.specs.declared.refusals.LinkRefusal.{LinkRefusal}
use Rattle.program_model.specs.declared.refusals.LinkRefusal.TheVariants.{Deck, Clash, Label, BlankEntry, TooLong}
use Rattle.deck_cards.specs.NumberedCards.{deck_bytes}
use Rattle.deck_loader.proofs.Cards.{used_of}
use Rattle.deck_loader.proofs.Inside.{refused_none}
use Rattle.link_model.specs.Linked.{linked_cards}
use Rattle.link_model.specs.Link.{is_far_label, refused_by, unless_violated, unless_long, linked_from, link_listing, link_of}
use Rattle.link_model.specs.Loading.{listed_address, name_address, LoadAlike, ReadTyped}
use Rattle.link_model.proofs.Links.{Fits, Taken}
use Rattle.link_model.proofs.Fitting.{taken_fits, no_item}
use Rattle.link_model.proofs.Uses.{uses_known}
use Rattle.link_model.proofs.Origins.{later_at}
use Rattle.link_model.proofs.Names.{names_found}
use Rattle.link_model.proofs.WrittenCards.{linked_images}

pub not_refused : (r : ℕ → LinkRefusal) (o : Option ℕ) (more : Result (List ℕ) LinkRefusal) (b : List ℕ) → refused_by r o more ≡ Ok b → (o ≡ None) × (more ≡ Ok b)
not_refused r None more b h = (refl, h)
not_refused r (Some n) more b h = absurd (grind (arith, nat_tests))

not_violated : (o : Option DeckRefusal) (more : Result (List ℕ) LinkRefusal) (b : List ℕ) → unless_violated o more ≡ Ok b → (o ≡ None) × (more ≡ Ok b)
not_violated None more b h = (refl, h)
not_violated (Some r) more b h = absurd (grind (arith, nat_tests))

long_case : (t : Bool) (bytes b : List ℕ) → cond t (Err TooLong) (Ok bytes) ≡ Ok b → bytes ≡ b
long_case true bytes b h = absurd (grind (arith, nat_tests))
long_case false bytes b h = grind (arith, nat_tests)

blank_case : (t : Bool) (bytes b : List ℕ) → cond t (Err BlankEntry) (unless_long bytes) ≡ Ok b → (t ≡ false) × (bytes ≡ b)
blank_case true bytes b h = absurd (grind (arith, nat_tests))
blank_case false bytes b h = (refl, long_case (ltb 16000000 (length bytes)) bytes b h)

pub no_relocation : (o : Option Relocation) → relocation_number o ≡ None → o ≡ None
no_relocation None h = refl
no_relocation (Some u) h = absurd (grind (arith, nat_tests))

some_entry : (o : Option ℕ) (more : Option DeckRefusal) → entry_refused o more ≡ None → o ≡ Some (or_zero o)
some_entry None more h = absurd (grind (arith, nat_tests))
some_entry (Some e) more h = refl

entry_is : (n : ℕ) (l : Listing) (ps : List Placed) → later_violation n l ps ≡ None → entry ps l.entries ≡ Some (or_zero (entry ps l.entries))
unfolding later_violation
entry_is n l ps h =
    let room : Option DeckRefusal = room_refused (list_any (has_no_room n) ps) in
    let unresolved : Option DeckRefusal = refused refusal.Unresolved (item_number (find (is_unresolved l.items) l.items)) room in
    let entries : Option DeckRefusal = entry_refused (entry ps l.entries) unresolved in
    let constants : Option DeckRefusal = refused refusal.RldOutside (relocation_number (find (is_constant_outside ps) l.relocations)) entries in
    let texts : Option DeckRefusal = refused refusal.TextOutside (text_number (find (is_text_outside ps) l.texts)) constants in
    let a = refused_none refusal.UnknownId (use_number (find (is_unknown l.items) l.uses)) texts h in
    let b = refused_none refusal.TextOutside (text_number (find (is_text_outside ps) l.texts)) constants a.1 in
    let c = refused_none refusal.RldOutside (relocation_number (find (is_constant_outside ps) l.relocations)) entries b.1 in
    some_entry (entry ps l.entries) unresolved c.1

-- a deck that was linked, with its entry
pub record IsLinked (l : Listing) (b : List ℕ) : Type 0 where
  pub entry : ℕ
  pub taken : Taken l entry
  pub bytes : deck_bytes 1 (linked_cards l entry) ≡ b

pub linked_of : (d b : List ℕ) (l : Listing) → listing d ≡ Ok l → ReadTyped d → link_listing (Ok l) ≡ Ok b → IsLinked l b
linked_of d b l e t h =
    let ps = places 0 l in
    let z : ℕ = or_zero (entry ps l.entries) in
    let last = linked_from l z in
    let labels = refused_by Label (item_number (find (is_far_label ps) l.items)) last in
    let clashes = refused_by Clash (relocation_number (first_clash ps [] l.relocations)) labels in
    let v = not_violated (violation 16777216 l (places 65536 l)) clashes b h in
    let c = not_refused Clash (relocation_number (first_clash ps [] l.relocations)) labels b v.1 in
    let f = not_refused Label (item_number (find (is_far_label ps) l.items)) last b c.1 in
    let g = blank_case (eqb z 0x404040) (deck_bytes 1 (linked_cards l z)) b f.1 in
    let later : Option DeckRefusal = later_violation 16777216 l (places 65536 l) in
    let names : Option DeckRefusal = refused refusal.DuplicateName (item_number (first_doubled same_name [] l.items)) later in
    let i = refused_none refusal.DuplicateId (item_number (first_doubled same_id [] l.items)) names v.0 in
    let j = refused_none refusal.DuplicateName (item_number (first_doubled same_name [] l.items)) later i.1 in
    let accepted : later_violation 16711680 l ps ≡ None = sym (later_at 65536 8192 16711680 l refl) ∙ j.1 in
    let u = uses_known d l e in
    record {
      entry = z;
      taken = record {
        texts = used_of d l e;
        constants = u.0;
        items = u.1;
        typed = t.items l e;
        widths = t.widths l e;
        ids = no_item (first_doubled same_id [] l.items) i.0;
        names = no_item (first_doubled same_name [] l.items) j.0;
        accepted = accepted;
        clash = no_relocation (first_clash ps [] l.relocations) c.0;
        labels = no_item (find (is_far_label ps) l.items) f.0;
        entry = entry_is 16711680 l ps accepted;
        named = g.0;
      };
      bytes = g.1;
    }

-- a deck of bytes that is loaded as the lists are
record LoadedAs (b : List ℕ) (r : Result Listing DeckRefusal) : Type 0 where
  images : (k : ℕ) → 8 * k < 16777216 → image_at (8 * k) 16777216 b ≡ image_of (8 * k) 16777216 r
  names : (k q : ℕ) → name_address (8 * k) q b ≡ listed_address (8 * k) q r

loaded_as : (d b : List ℕ) (r : Result Listing DeckRefusal) → listing d ≡ r → ReadTyped d → link_listing r ≡ Ok b → LoadedAs b r
loaded_as d b (Err x) e t h = absurd (grind (arith, nat_tests))
loaded_as d b (Ok l) e t h =
    let i = linked_of d b l e t h in
    let f = taken_fits l i.entry i.taken in
    record {
      images = λ k s. ap (image_at (8 * k) 16777216) (sym i.bytes) ∙ linked_images 16777216 (8 * k) k l i.entry refl (omega arith) f;
      names = λ k q. ap (name_address (8 * k) q) (sym i.bytes) ∙ names_found (8 * k) k q l i.entry refl f i.taken.labels;
    }

pub load_alike : (d b : List ℕ) → ReadTyped d → link_of d ≡ Ok b → LoadAlike b d
unfolding link_of image_at name_address
load_alike d b t h =
    let a = loaded_as d b (listing d) refl t h in
    record { images = a.images; names = a.names }

-- ---- a deck that cannot be loaded

violated_case : (o : Option DeckRefusal) (i : Image) (more : Result (List ℕ) LinkRefusal) (r : DeckRefusal) → unless_refused o i ≡ Err r → unless_violated o more ≡ Err (Deck r)
violated_case None i more r h = absurd (grind (arith, nat_tests))
violated_case (Some x) i more r h = let e : x ≡ r = grind (arith, nat_tests) in ap (λ y. Err (Deck y)) e

refused_case : (l : Result Listing DeckRefusal) (r : DeckRefusal) → image_of 65536 16777216 l ≡ Err r → link_listing l ≡ Err (Deck r)
refused_case (Err x) r h = let e : x ≡ r = grind (arith, nat_tests) in ap (λ y. Err (Deck y)) e
refused_case (Ok l) r h =
    let ps = places 0 l in
    let more = refused_by Clash (relocation_number (first_clash ps [] l.relocations)) (refused_by Label (item_number (find (is_far_label ps) l.items)) (linked_from l (or_zero (entry ps l.entries)))) in
    let qs = places 65536 l in
    violated_case (violation 16777216 l qs) (record { bytes = bytes_from (image_byte l qs) 0 16777216; entry = or_zero (entry qs l.entries) }) more r h

pub refused_as_loaded : (d : List ℕ) (r : DeckRefusal) → image_from load_origin d ≡ Err r → link_of d ≡ Err (Deck r)
unfolding link_of image_at
refused_as_loaded d r h = refused_case (listing d) r h
