-- Constants relocated one after another leave at each place the byte that the relocations give.
use Rattle.std.proofs.Common.{◌≡◌, ℕ, ◌+◌, ◌-◌, ◌<◌, ◌≤◌, Bool, cond, leb, ltb, ◌&&◌, List, [], ◌∷◌, ◌++◌, length, get_or, reverse, refl, sym, ◌∙◌, ap, subst, arith}
use Rattle.std.proofs.lemmas.Grind.{reverse_onto}
use Rattle.byteorder.specs.Endian.{big_number, big_bytes}
use Rattle.byteorder.specs.Numbers.{length-bytes_high_first}
use Rattle.deck_model.specs.declared.decks.Item.{Item}
use Rattle.deck_model.specs.declared.decks.Placed.{Placed}
use Rattle.deck_model.specs.declared.decks.Relocation.{Relocation}
use Rattle.deck_model.specs.Image.{added, bytes_from, relocated_byte, byte_after, constant_at, value}
use Rattle.deck_loader.specs.Written.{relocated, relocate, ConstantsAreInside}
use Rattle.deck_loader.proofs.Text.{Shows, stored_byte, length-stored, bytes_from_same}

abbrev sum_bytes : ℕ → Bool → ℕ → List ℕ → List ℕ
sum_bytes width minus v constant = big_bytes width (added minus width v (big_number width constant))

relocated_shows : (at width : ℕ) (minus : Bool) (v : ℕ) (f : ℕ → ℕ) (xs : List ℕ) → at + width ≤ length xs → Shows f xs → (a : ℕ) → a < length xs → get_or (relocated at width minus v xs) a 0 ≡ relocated_byte at width minus v f a
unfolding relocated relocated_byte
relocated_shows at width minus v f xs h s a k =
    let old = bytes_from (λ i. get_or xs i 0) at width in
    let new = bytes_from f at width in
    let same : old ≡ new = bytes_from_same (λ i. get_or xs i 0) f at width (λ i l m. s i (omega arith)) in
    let ys = sum_bytes width minus v old in
    let n : length ys ≡ width = length-bytes_high_first width (added minus width v (big_number width old)) in
    stored_byte at ys xs a (omega (arith, n, h))
    ∙ (ap (λ m. cond (leb at a && ltb a (at + m)) (get_or ys (a - at) 0) (get_or xs a 0)) n
    ∙ (ap (λ c. cond (leb at a && ltb a (at + width)) (get_or (sum_bytes width minus v c) (a - at) 0) (get_or xs a 0)) same
    ∙ ap (cond (leb at a && ltb a (at + width)) (get_or (sum_bytes width minus v new) (a - at) 0)) (s a k)))

pub length-relocated : (at width : ℕ) (minus : Bool) (v : ℕ) (xs : List ℕ) → length (relocated at width minus v xs) ≡ length xs
unfolding relocated
length-relocated at width minus v xs = length-stored at (sum_bytes width minus v (bytes_from (λ i. get_or xs i 0) at width)) xs

pub length-relocate : (items : List Item) (ps : List Placed) (rs : List Relocation) (xs : List ℕ) → length (relocate items ps rs xs) ≡ length xs
length-relocate items ps [] xs = refl
length-relocate items ps (r ∷ rs) xs =
    length-relocate items ps rs (relocated (constant_at ps r) r.item.width r.item.minus (value items ps r) xs)
    ∙ length-relocated (constant_at ps r) r.item.width r.item.minus (value items ps r) xs

abbrev after_one : List Item → List Placed → Relocation → (ℕ → ℕ) → ℕ → ℕ
after_one items ps r f = relocated_byte (constant_at ps r) r.item.width r.item.minus (value items ps r) f

first_last : (items : List Item) (ps : List Placed) (es : List Relocation) (r : Relocation) (f : ℕ → ℕ) → byte_after items ps (es ++ r ∷ []) f ≡ byte_after items ps es (after_one items ps r f)
first_last items ps [] r f = refl
first_last items ps (e ∷ es) r f = ap (after_one items ps e) (first_last items ps es r f)

pub relocate_shows : (items : List Item) (ps : List Placed) (rs : List Relocation) (f : ℕ → ℕ) (xs : List ℕ) → ConstantsAreInside ps (length xs) rs → Shows f xs → Shows (byte_after items ps (reverse rs) f) (relocate items ps rs xs)
relocate_shows items ps [] f xs h s = s
relocate_shows items ps (r ∷ rs) f xs h s =
    let ys = relocated (constant_at ps r) r.item.width r.item.minus (value items ps r) xs in
    let n = length-relocated (constant_at ps r) r.item.width r.item.minus (value items ps r) xs in
    let g = after_one items ps r f in
    let one : Shows g ys = λ a k. relocated_shows (constant_at ps r) r.item.width r.item.minus (value items ps r) f xs h.2 s a (omega (arith, n, k)) in
    let P : ℕ → Type 0 = λ m. ConstantsAreInside ps m rs in
    let Q : (ℕ → ℕ) → Type 0 = λ b. Shows b (relocate items ps rs ys) in
    let e : byte_after items ps (reverse (r ∷ rs)) f ≡ byte_after items ps (reverse rs) g = ap (λ es. byte_after items ps es f) (reverse_onto rs r []) ∙ first_last items ps (reverse rs) r f in
    subst Q (sym e) (relocate_shows items ps rs g ys (subst P (sym n) h.3) one)
