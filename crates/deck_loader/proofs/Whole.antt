-- From the passes to the image.
use Rattle.std.proofs.Common.{◌≡◌, ℕ, List, [], Some, None, Result, Ok, Err, refl, ap}
use Rattle.deck_model.specs.Deck.{Listing, listing}
use Rattle.deck_model.specs.Image.{Image, image_at, image_of, unless_refused, violation, later_violation, first_doubled, same_id, same_name, item_number, places, place, entry, image_byte, bytes_from}
use Rattle.deck_model.specs.declared.decks.Placed.{Placed}
use Rattle.deck_model.specs.declared.decks.DeckRefusal.{DeckRefusal}
use Rattle.deck_model.specs.declared.decks.DeckRefusal.TheVariants.{NotCards, BadFirstByte, UnknownCard, BadCount, Unsupported, NoEnd, DuplicateId, DuplicateName, UnknownId, TextOutside, RldOutside, EntryOutside, Unresolved, NoRoom, NoMemory}
use Rattle.deck_loader.specs.Listed.{Refuses}

pub refuses_by : {A : Type 0} → (reading : Result A DeckRefusal) (r : DeckRefusal) → reading ≡ Err r → Refuses reading r
refuses_by reading NoMemory e = tt
refuses_by reading NotCards e = e
refuses_by reading NoEnd e = e
refuses_by reading EntryOutside e = e
refuses_by reading NoRoom e = e
refuses_by reading (BadFirstByte n) e = e
refuses_by reading (UnknownCard n) e = e
refuses_by reading (BadCount n) e = e
refuses_by reading (Unsupported n) e = e
refuses_by reading (DuplicateId n) e = e
refuses_by reading (DuplicateName n) e = e
refuses_by reading (UnknownId n) e = e
refuses_by reading (TextOutside n) e = e
refuses_by reading (RldOutside n) e = e
refuses_by reading (Unresolved n) e = e

pub image_is : (o n : ℕ) (d : List ℕ) (l : Result Listing DeckRefusal) → listing d ≡ l → image_at o n d ≡ image_of o n l
unfolding image_at
image_is o n d l e = ap (image_of o n) e

pub refuses_image : (o n : ℕ) (d : List ℕ) (r : DeckRefusal) → Refuses (listing d) r → Refuses (image_at o n d) r
refuses_image o size d NoMemory h = tt
refuses_image o size d NotCards h = image_is o size d (Err (NotCards)) h
refuses_image o size d NoEnd h = image_is o size d (Err (NoEnd)) h
refuses_image o size d EntryOutside h = image_is o size d (Err (EntryOutside)) h
refuses_image o size d NoRoom h = image_is o size d (Err (NoRoom)) h
refuses_image o size d (BadFirstByte n) h = image_is o size d (Err (BadFirstByte n)) h
refuses_image o size d (UnknownCard n) h = image_is o size d (Err (UnknownCard n)) h
refuses_image o size d (BadCount n) h = image_is o size d (Err (BadCount n)) h
refuses_image o size d (Unsupported n) h = image_is o size d (Err (Unsupported n)) h
refuses_image o size d (DuplicateId n) h = image_is o size d (Err (DuplicateId n)) h
refuses_image o size d (DuplicateName n) h = image_is o size d (Err (DuplicateName n)) h
refuses_image o size d (UnknownId n) h = image_is o size d (Err (UnknownId n)) h
refuses_image o size d (TextOutside n) h = image_is o size d (Err (TextOutside n)) h
refuses_image o size d (RldOutside n) h = image_is o size d (Err (RldOutside n)) h
refuses_image o size d (Unresolved n) h = image_is o size d (Err (Unresolved n)) h

pub places_are : (o : ℕ) (l : Listing) (ps : List Placed) → ps ≡ place o l.texts l.items → ps ≡ places o l
unfolding places
places_are o l ps e = e

-- past the doubled ones, the first violation is the later one
pub later_err : (n : ℕ) (l : Listing) (ps : List Placed) (i : Image) (r : DeckRefusal) → item_number (first_doubled same_id [] l.items) ≡ None → item_number (first_doubled same_name [] l.items) ≡ None → later_violation n l ps ≡ Some r → unless_refused (violation n l ps) i ≡ Err r
later_err n l ps i r a b c = rw a (rw b (rw c refl))

pub no_violation : (n : ℕ) (l : Listing) (ps : List Placed) → item_number (first_doubled same_id [] l.items) ≡ None → item_number (first_doubled same_name [] l.items) ≡ None → later_violation n l ps ≡ None → violation n l ps ≡ None
no_violation n l ps a b c = rw a (rw b c)

-- the image of a deck without a violation
pub sound_image : (o n : ℕ) (l : Listing) (bytes : List ℕ) (e : ℕ) → violation n l (places o l) ≡ None → bytes ≡ bytes_from (image_byte l (places o l)) 0 n → entry (places o l) l.entries ≡ Some e → image_of o n (Ok l) ≡ Ok (record { bytes = bytes; entry = e })
sound_image o n l bytes e v b x = rw v (rw x (rw b refl))
