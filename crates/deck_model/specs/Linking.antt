-- What linking looks at: the image of a deck from every origin on, and relocated constants that
-- clash.
-- Source: choice of this project.
use Rattle.std.specs.Prelude.{ℕ, ◌+◌, ◌==◌, Bool, ◌&&◌, not, nat_lt, if◌then◌else◌, List, [], ◌∷◌, Option, Some, None, Result}
use Rattle.std.specs.List.{list_any}
use Rattle.deck_model.specs.Image.{Image, image_at, constant_at}
use Rattle.deck_model.specs.declared.decks.Placed.{Placed}
use Rattle.deck_model.specs.declared.decks.Relocation.{Relocation}
use Rattle.deck_model.specs.declared.decks.DeckRefusal.{DeckRefusal}

-- the greatest storage: the bytes that an address of 24 bits reaches
abbrev pub greatest_storage : ℕ
greatest_storage = 16777216

-- the image of a deck whose first section is loaded at an origin, a multiple of 8 in that storage
abbrev pub image_from : ℕ → List ℕ → Result Image DeckRefusal
image_from origin deck_bytes = image_at origin greatest_storage deck_bytes

-- two relocated constants share a byte and differ in place or width
abbrev pub clashes : List Placed → Relocation → Relocation → Bool
clashes ps r s =
    let a = constant_at ps r in
    let b = constant_at ps s in
    not ((a == b) && (r.item.width == s.item.width))
    && (nat_lt a (b + s.item.width) && nat_lt b (a + r.item.width))

-- the first that clashes with an earlier one; the earlier ones stand with the last of them first
abbrev pub first_clash : List Placed → List Relocation → List Relocation → Option Relocation
first_clash ps earlier [] = None
first_clash ps earlier (r ∷ rs) =
    if list_any (clashes ps r) earlier then Some r else first_clash ps (r ∷ earlier) rs
