-- Constants stand for the relocations of the deck.
use Rattle.std.proofs.Common.{◌≡◌, ◌<◌, ◌≤◌, ℕ, ◌+◌, Bool, true, false, cond, leb, ltb, ◌||◌, List, [], ◌∷◌, map, Option, Some, refl, ◌∙◌, ap, arith}
use Rattle.std.proofs.lemmas.Bool.Decides.{nat_tests}
use Rattle.std.specs.List.{list_any, filter}
use Rattle.deck_model.specs.CardWriting.{rld_item_fits}
use Rattle.deck_model.specs.Image.{relocation_number}
use Rattle.deck_model.specs.Linking.{clashes, first_clash}
use Rattle.deck_model.specs.declared.decks.Item.{Item}
use Rattle.deck_model.specs.declared.decks.Placed.{Placed}
use Rattle.deck_model.specs.declared.decks.Relocation.{Relocation}
use Rattle.deck_cards.specs.RelocationCards.{SharePointers}
use Rattle.deck_loader.specs.Written.{ConstantsAreInside}
use Rattle.link_model.specs.Linked.{moves, constant_reaches, linked_item, linked_items}
use Rattle.deck_link.specs.Constants.{constant_for, constants_for, constant_item, constant_items, is_moving, reached, ConstantsIn}
use Rattle.deck_link.specs.Marks.{clash, clash_in}
use Rattle.deck_link.specs.declared.constants.Constant.{Constant}

any_map : (items : List Item) (ps : List Placed) (r : Relocation) (ss : List Relocation) → list_any (clash (constant_for items ps r)) (constants_for items ps ss) ≡ list_any (clashes ps r) ss
any_map items ps r [] = refl
any_map items ps r (s ∷ ss) = ap (λ b. clashes ps r s || b) (any_map items ps r ss)

clash_case : (b : Bool) (r : Relocation) (o : Option ℕ) (p : Option Relocation) → o ≡ relocation_number p → cond b (Some r.number) o ≡ relocation_number (cond b (Some r) p)
clash_case true r o p h = refl
clash_case false r o p h = h

pub same_clash : (items : List Item) (ps : List Placed) (earlier rs : List Relocation) → clash_in (constants_for items ps earlier) (constants_for items ps rs) ≡ relocation_number (first_clash ps earlier rs)
same_clash items ps earlier [] = refl
same_clash items ps earlier (r ∷ rs) =
    let more = clash_in (constants_for items ps (r ∷ earlier)) (constants_for items ps rs) in
    ap (λ b. cond b (Some r.number) more) (any_map items ps r earlier)
    ∙ clash_case (list_any (clashes ps r) earlier) r more (first_clash ps (r ∷ earlier) rs) (same_clash items ps (r ∷ earlier) rs)

items_case : (b : Bool) (items : List Item) (ps : List Placed) (r : Relocation) (cs : List Constant) (rs : List Relocation) → map constant_item (filter is_moving cs) ≡ map (linked_item ps) (filter (moves items) rs) → map constant_item (cond b (constant_for items ps r ∷ filter is_moving cs) (filter is_moving cs)) ≡ map (linked_item ps) (cond b (r ∷ filter (moves items) rs) (filter (moves items) rs))
items_case true items ps r cs rs h = ap (λ is. linked_item ps r ∷ is) h
items_case false items ps r cs rs h = h

pub same_items : (items : List Item) (ps : List Placed) (rs : List Relocation) → constant_items (constants_for items ps rs) ≡ linked_items items ps rs
same_items items ps [] = refl
same_items items ps (r ∷ rs) = items_case (moves items r) items ps r (constants_for items ps rs) rs (same_items items ps rs)

pub same_inside : (n : ℕ) (items : List Item) (ps : List Placed) (rs : List Relocation) → ConstantsAreInside ps n rs → ConstantsIn n (constants_for items ps rs)
same_inside n items ps [] h = tt
same_inside n items ps (r ∷ rs) h = (h.0, h.1, h.2, same_inside n items ps rs h.3)

pub same_reached : (items : List Item) (ps : List Placed) (a : ℕ) (rs : List Relocation) → list_any (reached a) (constants_for items ps rs) ≡ list_any (constant_reaches ps a) rs
same_reached items ps a [] = refl
same_reached items ps a (r ∷ rs) = ap (λ b. constant_reaches ps a r || b) (same_reached items ps a rs)

item_fits : (c : Constant) → 1 ≤ c.width → c.width ≤ 4 → c.at + c.width ≤ 16711680 → rld_item_fits (constant_item c) ≡ true
item_fits c a b d =
    let x : ltb c.at 16777216 ≡ true = let y : c.at < 16777216 = omega (arith, a, d) in grind (arith, nat_tests) in
    let y : leb 1 c.width ≡ true = grind (arith, nat_tests) in
    let z : leb c.width 4 ≡ true = grind (arith, nat_tests) in
    rw x (rw y z)

shared_case : (b : Bool) (c : Constant) (cs : List Constant) → rld_item_fits (constant_item c) ≡ true → SharePointers 1 1 (map constant_item cs) → SharePointers 1 1 (map constant_item (cond b (c ∷ cs) cs))
shared_case true c cs f h = (refl, refl, f, h)
shared_case false c cs f h = h

pub shared_items : (cs : List Constant) → ConstantsIn 16711680 cs → SharePointers 1 1 (constant_items cs)
shared_items [] h = tt
shared_items (c ∷ cs) h = shared_case c.moves c (filter is_moving cs) (item_fits c h.0 h.1 h.2) (shared_items cs h.3)
