-- Texts and relocations carried out leave the bytes of the image.
use Rattle.std.proofs.Common.{◌≡◌, ℕ, zero, suc, List, [], ◌∷◌, length, get_or, replicate, refl, sym, ◌∙◌, ap, subst}
use Rattle.std.proofs.lemmas.List.{length-replicate}
use Rattle.deck_model.specs.Deck.{Listing}
use Rattle.deck_model.specs.Image.{bytes_from, image_byte, text_at, text_byte}
use Rattle.deck_model.specs.declared.decks.Placed.{Placed}
use Rattle.deck_model.specs.declared.decks.Text.{Text}
use Rattle.deck_loader.specs.Written.{stored, written, relocate, AreInside, ConstantsAreInside}
use Rattle.deck_loader.proofs.Text.{Shows, length-stored, texts_show, shown}
use Rattle.deck_loader.proofs.Constants.{relocate_shows, length-relocate}

zeros_at : (n k : ℕ) → ◌≡◌ {A = ℕ} (get_or (replicate n 0) k 0) 0
zeros_at zero k = refl
zeros_at (suc n) zero = refl
zeros_at (suc n) (suc k) = zeros_at n k

pub length-written : (ps : List Placed) (ts : List Text) (xs : List ℕ) → length (written ps ts xs) ≡ length xs
length-written ps [] xs = refl
length-written ps (t ∷ ts) xs = length-written ps ts (stored (text_at ps t) t.bytes.items xs) ∙ length-stored (text_at ps t) t.bytes.items xs

pub carried : (l : Listing) (ps : List Placed) (xs : List ℕ) → xs ≡ replicate (length xs) 0 → AreInside ps (length xs) l.texts → ConstantsAreInside ps (length xs) l.relocations → relocate l.items ps l.relocations (written ps l.texts xs) ≡ bytes_from (image_byte l ps) 0 (length xs)
carried l ps xs z t r =
    let n : ℕ = length xs in
    let ys = written ps l.texts xs in
    let f : ℕ → ℕ = λ a. text_byte ps l.texts a 0 in
    let none : Shows (λ a. 0) xs = λ a k. ap (λ bytes. get_or bytes a 0) z ∙ zeros_at n a in
    let long : length ys ≡ n = length-written ps l.texts xs in
    let texts : Shows f ys = texts_show ps l.texts xs none t long in
    let P : ℕ → Type 0 = λ m. ConstantsAreInside ps m l.relocations in
    shown (image_byte l ps) (relocate l.items ps l.relocations ys) n
    (relocate_shows l.items ps l.relocations f ys (subst P (sym long) r) texts)
    (length-relocate l.items ps l.relocations ys ∙ long)

-- a list of zeros is one of its own length
pub fresh_zeros : (n : ℕ) (xs : List ℕ) → xs ≡ replicate n 0 → xs ≡ replicate (length xs) 0
fresh_zeros n xs e = e ∙ ap (λ m. replicate m 0) (sym (ap length e ∙ length-replicate n 0))
