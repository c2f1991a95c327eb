-- The first key that stands earlier is the first doubled item.
use Rattle.std.proofs.Common.{◌≡◌, ℕ, suc, ◌+◌, ◌<◌, Bool, true, false, cond, not, eqb, ◌&&◌, ◌||◌, List, [], ◌∷◌, ◌++◌, length, map, get_or, Option, Some, None, refl, sym, ◌∙◌, ap, arith, append_assoc, length-append, All, subst}
use Rattle.std.proofs.lemmas.List.{get_or_default, length-map, map-append}
use Rattle.std.specs.Option.{IfSome}
use Rattle.std.proofs.lemmas.Option.{slice_get_read}
use Rattle.std.specs.List.{list_any}
use Rattle.deck_model.specs.Deck.{is_label}
use Rattle.deck_model.specs.Image.{has_id, defines, name_of, names, blank_name, first_doubled, same_id, same_name, item_number}
use Rattle.deck_model.specs.declared.decks.Item.{Item}
use Rattle.std.specs.declared.collections.BTreeMap.{BTreeMap}
use Rattle.std.specs.declared.alloc.Global.{Global}
use Rattle.deck_loader.specs.Indexed.{IndexesIds, IndexesNames}
use Rattle.deck_loader.specs.Keys.{is_key, first_at, stands_in, first_again, item_key, at_place, Places}
use Rattle.deck_loader.specs.ItemKeys.{id_key, name_key}
use Rattle.deck_loader.proofs.Items.{get_seam, found_or, id_key_is, name_key_is}

abbrev pub Each : (Item → Type 0) → List Item → Type 0
Each P [] = Unit {0}
Each P (x ∷ xs) = P x × Each P xs

each_push : (P : Item → Type 0) (xs : List Item) (x : Item) → Each P xs → P x → Each P (xs ++ x ∷ [])
each_push P [] x h p = (p, tt)
each_push P (y ∷ xs) x h p = (h.0, each_push P xs x h.1 p)

pub doubled_found : (P : Item → Type 0) (same : Item → Item → Bool) (key : Item → Option ℕ) → ((i : Item) (js : List Item) → P i → Each P js → list_any (same i) js ≡ stands_in (key i) (map key js)) → (pre xs : List Item) → Each P pre → Each P xs → at_place (pre ++ xs) (first_again (length pre) (map key pre) (map key xs)) ≡ first_doubled same pre xs
doubled_found P same key st pre [] hp hx = refl
doubled_found P same key st pre (x ∷ xs) hp hx =
    let whole : (pre ++ x ∷ []) ++ xs ≡ pre ++ x ∷ xs = append_assoc pre (x ∷ []) xs in
    let n : length (pre ++ x ∷ []) ≡ length pre + 1 = length-append pre (x ∷ []) in
    let m : map key (pre ++ x ∷ []) ≡ map key pre ++ key x ∷ [] = map-append key pre (x ∷ []) in
    let r = doubled_found P same key st (pre ++ x ∷ []) xs (each_push P pre x hp hx.0) hx.1 in
    let tail : at_place (pre ++ x ∷ xs) (first_again (length pre + 1) (map key pre ++ key x ∷ []) (map key xs)) ≡ first_doubled same (pre ++ x ∷ []) xs =
    ap (λ w. at_place w (first_again (length pre + 1) (map key pre ++ key x ∷ []) (map key xs))) (sym whole)
    ∙ (ap (λ k. at_place ((pre ++ x ∷ []) ++ xs) (first_again k (map key pre ++ key x ∷ []) (map key xs))) (sym n)
    ∙ (ap (λ ks. at_place ((pre ++ x ∷ []) ++ xs) (first_again (length (pre ++ x ∷ [])) ks (map key xs))) (sym m) ∙ r)) in
    found_or (pre ++ x ∷ xs) (stands_in (key x) (map key pre)) (length pre) x (first_again (length pre + 1) (map key pre ++ key x ∷ []) (map key xs)) (first_doubled same (pre ++ x ∷ []) xs) (get_seam pre x xs) tail
    ∙ ap (λ b. cond b (Some x) (first_doubled same (pre ++ x ∷ []) xs)) (sym (st x pre hx.0 hp))

none_passes : (js : List Item) → list_any (λ (j : Item). false) js ≡ false
none_passes [] = refl
none_passes (j ∷ js) = none_passes js

abbrev pub Small : Item → Type 0
Small i = i.id < 4294967296

any_id : (b : Bool) (o d : ℕ) (js : List Item) → d < 4294967296 → Each Small js → list_any (λ (j : Item). not b && has_id o d j) js ≡ stands_in (cond b None (Some (item_key o d))) (map id_key js)
any_id true o d js h e = none_passes js
any_id false o d [] h e = refl
any_id false o d (j ∷ js) h e =
    ap (λ b. b || list_any (λ (j : Item). has_id o d j) js) (sym (id_key_is (is_label j.item.sort) j.owner j.id o d e.0 h))
    ∙ ap (λ b. is_key (item_key o d) (id_key j) || b) (any_id false o d js h e.1)

pub ids_doubled : (items : List Item) → Each Small items → at_place items (first_again 0 [] (map id_key items)) ≡ first_doubled same_id [] items
ids_doubled items h = doubled_found Small same_id id_key (λ i js p e. any_id (is_label i.item.sort) i.owner i.id js p e) [] items tt h

any_name : (named blank : Bool) (n : ℕ) (js : List Item) → list_any (λ (j : Item). named && (not blank && defines n j)) js ≡ stands_in (cond named (cond blank None (Some n)) None) (map name_key js)
any_name true true n js = none_passes js
any_name false blank n js = none_passes js
any_name true false n [] = refl
any_name true false n (j ∷ js) =
    ap (λ b. b || list_any (λ (j : Item). defines n j) js) (sym (name_key_is (names j.item.sort) (eqb (name_of j) blank_name) (name_of j) n))
    ∙ ap (λ b. is_key n (name_key j) || b) (any_name true false n js)

each_unit : (items : List Item) → Each (λ _. Unit {0}) items
each_unit [] = tt
each_unit (i ∷ is) = (tt, each_unit is)

pub names_doubled : (items : List Item) → at_place items (first_again 0 [] (map name_key items)) ≡ first_doubled same_name [] items
names_doubled items = doubled_found (λ _. Unit {0}) same_name name_key (λ i js p e. any_name (names i.item.sort) (eqb (name_of i) blank_name) (name_of i) js) [] items tt (each_unit items)

pub each_small : (items : List Item) → All Small items → Each Small items
each_small [] h = tt
each_small (i ∷ is) h = (h 0 i (omega arith), each_small is (λ k d l. h (suc k) d (omega arith)))

-- ---- from keys to items

pub ids_ok : (items : List Item) (keys : List (Option ℕ)) (m : BTreeMap ℕ ℕ Global) → keys ≡ map id_key items → All Small items → first_again 0 [] keys ≡ None → Places keys m → (item_number (first_doubled same_id [] items) ≡ None) × IndexesIds items m
ids_ok items keys m e s h p =
    (ap item_number (sym (ids_doubled items (each_small items s)) ∙ ap (at_place items) (ap (first_again 0 []) (sym e) ∙ h)), record { at = λ q. p q ∙ ap (first_at q 0) e; small = s })

pub ids_some : (items : List Item) (keys : List (Option ℕ)) (i : ℕ) (d : Item) (o : Option ℕ) → keys ≡ map id_key items → All Small items → o ≡ first_again 0 [] keys → o ≡ Some i → IfSome o (λ k. k < length keys) → item_number (first_doubled same_id [] items) ≡ Some (get_or items i d).number
ids_some items keys i d o e s a h n =
    let P : Option ℕ → Type 0 = λ r. IfSome r (λ k. k < length keys) in
    let in_keys : i < length keys = subst P h n in
    let l : length keys ≡ length items = ap length e ∙ length-map items id_key in
    let lt : i < length items = omega (arith, in_keys, l) in
    let x : Item = get_or items i d in
    let g = slice_get_read items (length items) i x refl lt (get_or_default items i d x lt) in
    ap item_number (sym (ids_doubled items (each_small items s)) ∙ (ap (at_place items) (ap (first_again 0 []) (sym e) ∙ (sym a ∙ h)) ∙ g))

pub names_ok : (items : List Item) (keys : List (Option ℕ)) (m : BTreeMap ℕ ℕ Global) → keys ≡ map name_key items → first_again 0 [] keys ≡ None → Places keys m → (item_number (first_doubled same_name [] items) ≡ None) × IndexesNames items m
names_ok items keys m e h p =
    (ap item_number (sym (names_doubled items) ∙ ap (at_place items) (ap (first_again 0 []) (sym e) ∙ h)), record { at = λ q. p q ∙ ap (first_at q 0) e })

pub names_some : (items : List Item) (keys : List (Option ℕ)) (i : ℕ) (d : Item) (o : Option ℕ) → keys ≡ map name_key items → o ≡ first_again 0 [] keys → o ≡ Some i → IfSome o (λ k. k < length keys) → item_number (first_doubled same_name [] items) ≡ Some (get_or items i d).number
names_some items keys i d o e a h n =
    let P : Option ℕ → Type 0 = λ r. IfSome r (λ k. k < length keys) in
    let in_keys : i < length keys = subst P h n in
    let l : length keys ≡ length items = ap length e ∙ length-map items name_key in
    let lt : i < length items = omega (arith, in_keys, l) in
    let x : Item = get_or items i d in
    let g = slice_get_read items (length items) i x refl lt (get_or_default items i d x lt) in
    ap item_number (sym (names_doubled items) ∙ (ap (at_place items) (ap (first_again 0 []) (sym e) ∙ (sym a ∙ h)) ∙ g))
