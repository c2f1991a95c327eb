-- The keys by which items and sections are found. Source: choice of this project.
use Rattle.std.specs.Prelude.{ℕ, ◌==◌, if◌then◌else◌, Option, Some, None}
use Rattle.deck_model.specs.Deck.{is_label}
use Rattle.deck_model.specs.Image.{names, name_of, blank_name}
use Rattle.deck_model.specs.declared.decks.Item.{Item}
use Rattle.deck_model.specs.declared.decks.Placed.{Placed}
use Rattle.deck_loader.specs.Keys.{item_key}

abbrev pub id_key : Item → Option ℕ
id_key i = if is_label i.item.sort then None else Some (item_key i.owner i.id)

abbrev pub name_key : Item → Option ℕ
name_key i =
    if names i.item.sort then (if name_of i == blank_name then None else Some (name_of i)) else None

abbrev pub placed_key : Placed → Option ℕ
placed_key p = Some (item_key p.item.owner p.item.id)
