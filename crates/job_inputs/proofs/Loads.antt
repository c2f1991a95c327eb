-- A storage of zeros, and one with an image.
use Rattle.std.proofs.Common.{◌≡◌, ℕ, List, sym, ◌∙◌, ap, length, replicate, Option, Some, None, Result, Ok, Err}
use Rattle.std.proofs.lemmas.List.{length-replicate}
use Rattle.deck_model.specs.Deck.{Listing, listing}
use Rattle.deck_model.specs.Image.{Image, image, image_at, image_of, image_byte, unless_refused, violation, places}
use Rattle.deck_model.specs.declared.decks.DeckRefusal.{DeckRefusal}
use Rattle.deck_loader.proofs.Text.{length-bytes_from}

pub zero_all : (s : List ℕ) (n : ℕ) → s ≡ replicate n 0 → s ≡ replicate (length s) 0
zero_all s n e = e ∙ ap (λ k. replicate k 0) (sym (ap length e ∙ length-replicate n 0))

pub size_of : (s : List ℕ) (n : ℕ) → s ≡ replicate n 0 → length s ≡ n
size_of s n e = ap length e ∙ length-replicate n 0

unrefused : (v : Option DeckRefusal) (j i : Image) → unless_refused v j ≡ Ok i → j ≡ i
unrefused None j i e = cc
unrefused (Some r) j i e = absurd (let both : Err r ≡ Ok i = e in cc)

of_listing : (o size : ℕ) (l : Result Listing DeckRefusal) (i : Image) →
    image_of o size l ≡ Ok i → length i.bytes ≡ size
of_listing o size (Err r) i e = absurd (let both : Err r ≡ Ok i = e in cc)
of_listing o size (Ok l) i e =
    ap (λ (j : Image). length j.bytes) (sym (unrefused (violation size l (places o l)) _ i e))
    ∙ length-bytes_from (image_byte l (places o l)) 0 size

-- an image has the size that it was made for
pub image_long : (size : ℕ) (deck : List ℕ) (i : Image) →
    image size deck ≡ Ok i → length i.bytes ≡ size
unfolding image_at
image_long size deck i e = of_listing 65536 size (listing deck) i e
