-- Reading what was written gives the card.
use Rattle.std.proofs.Common.{◌≡◌, ◌≢◌, ℕ, zero, suc, ◌+◌, ◌-◌, ◌*◌, ◌/◌, ◌%◌, ◌<◌, ◌≤◌, Bool, true, false, cond, ◌&&◌, ltb, IsTrue, List, [], ◌∷◌, ◌++◌, length, get_or, take, drop, Some, None, Result, Ok, Err, refl, sym, ◌∙◌, ap, arith, append_assoc, append-nil, length-append, All, ◌==◌, ◌||◌, if◌then◌else◌}
use Rattle.std.proofs.lemmas.Bool.Decides.{nat_tests}
use Rattle.std.proofs.Math.Nat.{mod-eq_of_lt}
use Rattle.std.proofs.Math.Seq.{take-append_seam}
use Rattle.std.specs.List.{flat_map, list_all}
use Rattle.byteorder.specs.Endian.{big_number, big_bytes}
use Rattle.byteorder.specs.Numbers.{big_from-bytes}
use Rattle.deck_model.specs.Card.{put, sort_of, sort_code, address_read, extent_read, esd_item, esd_items, esd_next, esd_card, esd_of, txt_of, rld_of, end_of, card_of, esd, txt, rld, blank_address, raw_item, raw_items, rld_raws, rld_items, rld_item, rld_card, rld_filled, omits_next, no_item}
use Rattle.deck_model.specs.CardWriting.{fits_24, rld_item_fits, rld_size, rld_bytes, flag_of, next_same, extents_fit, esd_item_fits, blank_card, with_data, esd_item_bytes, esd_bytes, txt_bytes, rld_card_bytes, end_bytes, entry_fits}
use Rattle.deck_model.specs.declared.cards.Card.{Card}
use Rattle.deck_model.specs.declared.cards.Sort.{Sort}
use Rattle.deck_model.specs.declared.cards.Sort.TheVariants.{Section, Private, Label, External, Weak}
use Rattle.deck_model.specs.declared.cards.EsdItem.{EsdItem}
use Rattle.card_deck.specs.Results.{PointersFit}
use Rattle.card_deck.proofs.Raws.{raws_next, raws_end}
use Rattle.deck_model.specs.declared.cards.RldItem.{RldItem}
use Rattle.deck_model.specs.declared.cards.RawItem.{RawItem}
use Rattle.deck_model.specs.declared.cards.EntryPoint.{EntryPoint}
use Rattle.deck_model.specs.declared.cards.CardRefusal.{CardRefusal}
use Rattle.deck_model.specs.declared.cards.CardRefusal.TheVariants.{BadCount}
use Rattle.deck_model.specs.declared.cards.Card.TheVariants.{End, Sym}

pub three_read : (v : ℕ) (more : List ℕ) → v < 16777216 → big_number 3 (big_bytes 3 v ++ more) ≡ v
three_read v more h = big_from-bytes 3 v more ∙ mod-eq_of_lt h

pub two_read : (v : ℕ) (more : List ℕ) → v < 65536 → big_number 2 (big_bytes 2 v ++ more) ≡ v
two_read v more h = big_from-bytes 2 v more ∙ mod-eq_of_lt h

-- ---- names

pub data Eight : List ℕ → Type 0 where
  eight : (a b c d e f g h : ℕ) → Eight (a ∷ b ∷ c ∷ d ∷ e ∷ f ∷ g ∷ h ∷ [])

pub are_eight : (xs : List ℕ) → length xs ≡ 8 → Eight xs
are_eight [] h = absurd (omega arith)
are_eight (a ∷ []) h = absurd (omega arith)
are_eight (a ∷ b ∷ []) h = absurd (omega arith)
are_eight (a ∷ b ∷ c ∷ []) h = absurd (omega arith)
are_eight (a ∷ b ∷ c ∷ d ∷ []) h = absurd (omega arith)
are_eight (a ∷ b ∷ c ∷ d ∷ e ∷ []) h = absurd (omega arith)
are_eight (a ∷ b ∷ c ∷ d ∷ e ∷ f ∷ []) h = absurd (omega arith)
are_eight (a ∷ b ∷ c ∷ d ∷ e ∷ f ∷ g ∷ []) h = absurd (omega arith)
are_eight (a ∷ b ∷ c ∷ d ∷ e ∷ f ∷ g ∷ i ∷ []) h = eight a b c d e f g i
are_eight (a ∷ b ∷ c ∷ d ∷ e ∷ f ∷ g ∷ i ∷ j ∷ more) h = absurd (omega arith)

-- ---- ESD items

pub sort_read : (s : Sort) → sort_of (sort_code s) ≡ Some s
sort_read Section = refl
sort_read Private = refl
sort_read Label = refl
sort_read External = refl
sort_read Weak = refl

abbrev item_of : List ℕ → Sort → ℕ → ℕ → EsdItem
item_of name s a e = record { name = name; sort = s; address = a; extent = e }

address_back : (name : List ℕ) → Eight name → (s : Sort) (a e : ℕ) (more : List ℕ) → IsTrue (extents_fit s a e) → address_read s (esd_item_bytes (item_of name s a e) ++ more) ≡ a
unfolding esd_item_bytes put
address_back _ (eight n0 n1 n2 n3 n4 n5 n6 n7) Section a e more h = three_read a [] (grind (arith, nat_tests))
address_back _ (eight n0 n1 n2 n3 n4 n5 n6 n7) Private a e more h = three_read a [] (grind (arith, nat_tests))
address_back _ (eight n0 n1 n2 n3 n4 n5 n6 n7) Label a e more h = three_read a [] (grind (arith, nat_tests))
address_back _ (eight n0 n1 n2 n3 n4 n5 n6 n7) External a e more h = grind (arith, nat_tests)
address_back _ (eight n0 n1 n2 n3 n4 n5 n6 n7) Weak a e more h = grind (arith, nat_tests)

extent_back : (name : List ℕ) → Eight name → (s : Sort) (a e : ℕ) (more : List ℕ) → IsTrue (extents_fit s a e) → extent_read s (esd_item_bytes (item_of name s a e) ++ more) ≡ e
unfolding esd_item_bytes put
extent_back _ (eight n0 n1 n2 n3 n4 n5 n6 n7) Section a e more h = three_read e [] (grind (arith, nat_tests))
extent_back _ (eight n0 n1 n2 n3 n4 n5 n6 n7) Private a e more h = three_read e [] (grind (arith, nat_tests))
extent_back _ (eight n0 n1 n2 n3 n4 n5 n6 n7) Label a e more h = two_read e [] (grind (arith, nat_tests))
extent_back _ (eight n0 n1 n2 n3 n4 n5 n6 n7) External a e more h = grind (arith, nat_tests)
extent_back _ (eight n0 n1 n2 n3 n4 n5 n6 n7) Weak a e more h = grind (arith, nat_tests)

sort_back : (name : List ℕ) → Eight name → (s : Sort) (a e : ℕ) (more : List ℕ) → sort_of (get_or (esd_item_bytes (item_of name s a e) ++ more) 8 0) ≡ Some s
unfolding esd_item_bytes put
sort_back _ (eight n0 n1 n2 n3 n4 n5 n6 n7) s a e more = sort_read s

name_back : (name : List ℕ) → Eight name → (s : Sort) (a e : ℕ) (more : List ℕ) → take 8 (esd_item_bytes (item_of name s a e) ++ more) ≡ name
unfolding esd_item_bytes put
name_back _ (eight n0 n1 n2 n3 n4 n5 n6 n7) s a e more = refl

rest_back : (name : List ℕ) → Eight name → (s : Sort) (a e : ℕ) (more : List ℕ) → drop 16 (esd_item_bytes (item_of name s a e) ++ more) ≡ more
unfolding esd_item_bytes put
rest_back _ (eight n0 n1 n2 n3 n4 n5 n6 n7) s a e more = refl

rest_length : (name : List ℕ) → Eight name → (s : Sort) (a e : ℕ) → length (esd_item_bytes (item_of name s a e)) ≡ 16
unfolding esd_item_bytes put
rest_length _ (eight n0 n1 n2 n3 n4 n5 n6 n7) s a e = refl

pub item_back : (i : EsdItem) (more : List ℕ) → length i.name ≡ 8 → IsTrue (esd_item_fits i) → esd_item (esd_item_bytes i ++ more) ≡ Ok i
unfolding esd_item
item_back i more h f =
    let n = are_eight i.name h in
    let bytes = esd_item_bytes i ++ more in
    rw (sort_back i.name n i.sort i.address i.extent more)
    (ap (λ x. Ok (item_of x i.sort (address_read i.sort bytes) (extent_read i.sort bytes))) (name_back i.name n i.sort i.address i.extent more)
    ∙ (ap (λ x. Ok (item_of i.name i.sort x (extent_read i.sort bytes))) (address_back i.name n i.sort i.address i.extent more f)
    ∙ ap (λ x. Ok (item_of i.name i.sort i.address x)) (extent_back i.name n i.sort i.address i.extent more f)))

-- names have eight bytes
abbrev pub AreNamed : List EsdItem → Type 0
AreNamed [] = Unit {0}
AreNamed (i ∷ is) = (length i.name ≡ 8) × AreNamed is

pub are_named : (is : List EsdItem) → All (λ (i : EsdItem). length i.name ≡ 8) is → AreNamed is
are_named [] h = tt
are_named (i ∷ is) h = (h 0 i (omega arith), are_named is (λ k d l. h (suc k) d (omega arith)))

pub list_all_rest : (b c : Bool) → IsTrue (b && c) → IsTrue c
list_all_rest true c h = h
list_all_rest false c h = absurd (grind (arith, nat_tests))

pub list_all_head : (b c : Bool) → IsTrue (b && c) → IsTrue b
list_all_head true c h = refl
list_all_head false c h = absurd (grind (arith, nat_tests))

pub items_back : (is e : List EsdItem) (more : List ℕ) → AreNamed is → IsTrue (list_all esd_item_fits is) → esd_items (length is) e (flat_map esd_item_bytes is ++ more) ≡ Ok (e ++ is)
items_back [] e more n h = ap Ok (sym (append-nil e))
items_back (i ∷ is) e more n h =
    let f = list_all_head (esd_item_fits i) (list_all esd_item_fits is) h in
    let g = list_all_rest (esd_item_fits i) (list_all esd_item_fits is) h in
    let tail = flat_map esd_item_bytes is ++ more in
    let whole : flat_map esd_item_bytes (i ∷ is) ++ more ≡ esd_item_bytes i ++ tail = append_assoc (esd_item_bytes i) (flat_map esd_item_bytes is) more in
    ap (λ bytes. esd_items (suc (length is)) e bytes) whole
    ∙ (ap (λ r. esd_next e r (λ items. esd_items (length is) items (drop 16 (esd_item_bytes i ++ tail)))) (item_back i tail n.0 f)
    ∙ (ap (λ bytes. esd_items (length is) (e ++ i ∷ []) bytes) (rest_back i.name (are_eight i.name n.0) i.sort i.address i.extent tail)
    ∙ (items_back is (e ++ i ∷ []) more n.1 g ∙ ap Ok (append_assoc e (i ∷ []) is))))

pub length-esd_bytes : (is : List EsdItem) → AreNamed is → length (flat_map esd_item_bytes is) ≡ 16 * length is
length-esd_bytes [] n = refl
length-esd_bytes (i ∷ is) n =
    let r = length-esd_bytes is n.1 in
    let h = rest_length i.name (are_eight i.name n.0) i.sort i.address i.extent in
    length-append (esd_item_bytes i) (flat_map esd_item_bytes is) ∙ omega (arith, r, h)

-- ---- ESD cards

abbrev esd_body : ℕ → ℕ → List ℕ → Result Card CardRefusal
esd_body count id more = if (count == 16) || ((count == 32) || (count == 48)) then esd_card id (esd_items (count / 16) [] more) else Err BadCount

esd_counted : (is : List EsdItem) (id : ℕ) (more : List ℕ) → 0 < length is → length is ≤ 3 → esd_body (16 * length is) id more ≡ esd_card id (esd_items (length is) [] more)
esd_counted [] id more h k = absurd (omega arith)
esd_counted (a ∷ []) id more h k = refl
esd_counted (a ∷ b ∷ []) id more h k = refl
esd_counted (a ∷ b ∷ c ∷ []) id more h k = refl
esd_counted (a ∷ b ∷ c ∷ d ∷ is) id more h k = absurd (omega arith)

abbrev below : List ℕ → List ℕ → List ℕ
below bytes card = drop (16 + length bytes) (take 10 card ++ (big_bytes 2 (length bytes) ++ drop 12 card))

esd_read : (id : ℕ) (is : List EsdItem) (s : List ℕ) → id < 65536 → length (flat_map esd_item_bytes is) < 65536 → card_of (esd_bytes id is s) ≡ esd_body (length (flat_map esd_item_bytes is)) id (flat_map esd_item_bytes is ++ below (flat_map esd_item_bytes is) (put 14 (big_bytes 2 id) (blank_card 0xC5E2C4 s)))
unfolding card_of esd_of esd_bytes with_data put blank_card
esd_read id is s h k =
    let data_bytes = flat_map esd_item_bytes is in
    let more = data_bytes ++ below data_bytes (put 14 (big_bytes 2 id) (blank_card 0xC5E2C4 s)) in
    ap (λ n. esd_body n (big_number 2 (big_bytes 2 id)) more) (two_read (length data_bytes) [] k) ∙ ap (λ n. esd_body (length data_bytes) n more) (two_read id [] h)

pub esd_back : (id : ℕ) (is : List EsdItem) (s : List ℕ) → id < 65536 → 0 < length is → length is ≤ 3 → AreNamed is → IsTrue (list_all esd_item_fits is) → card_of (esd_bytes id is s) ≡ Ok (esd id is)
esd_back id is s h a b n f =
    let data_bytes = flat_map esd_item_bytes is in
    let more = below data_bytes (put 14 (big_bytes 2 id) (blank_card 0xC5E2C4 s)) in
    let l = length-esd_bytes is n in
    esd_read id is s h (omega arith)
    ∙ (ap (λ c. esd_body c id (data_bytes ++ more)) l
    ∙ (esd_counted is id (data_bytes ++ more) a b
    ∙ ap (esd_card id) (items_back is [] more n f)))

-- ---- TXT cards

abbrev txt_body : ℕ → ℕ → ℕ → List ℕ → Result Card CardRefusal
txt_body count id address more = if (count == 0) || ltb 56 count then Err BadCount else Ok (txt id address (take count more))

txt_read : (id address : ℕ) (bytes s : List ℕ) → id < 65536 → address < 16777216 → length bytes < 65536 → card_of (txt_bytes id address bytes s) ≡ txt_body (length bytes) id address (bytes ++ below bytes (put 14 (big_bytes 2 id) (put 5 (big_bytes 3 address) (blank_card 0xE3E7E3 s))))
unfolding card_of txt_of txt_bytes with_data put blank_card
txt_read id address bytes s h a k =
    let more = bytes ++ below bytes (put 14 (big_bytes 2 id) (put 5 (big_bytes 3 address) (blank_card 0xE3E7E3 s))) in
    ap (λ n. txt_body n (big_number 2 (big_bytes 2 id)) (big_number 3 (big_bytes 3 address)) more) (two_read (length bytes) [] k)
    ∙ (ap (λ n. txt_body (length bytes) n (big_number 3 (big_bytes 3 address)) more) (two_read id [] h)
    ∙ ap (λ n. txt_body (length bytes) id n more) (three_read address [] a))

txt_counted : (n : ℕ) → 0 < n → n ≤ 56 → ((n == 0) || ltb 56 n) ≡ false
txt_counted n h k = grind (arith, nat_tests)

pub txt_back : (id address : ℕ) (bytes s : List ℕ) → id < 65536 → IsTrue (fits_24 address) → 0 < length bytes → length bytes ≤ 56 → card_of (txt_bytes id address bytes s) ≡ Ok (txt id address bytes)
txt_back id address bytes s h a k l =
    let more = below bytes (put 14 (big_bytes 2 id) (put 5 (big_bytes 3 address) (blank_card 0xE3E7E3 s))) in
    let small : address < 16777216 = grind (arith, nat_tests) in
    txt_read id address bytes s h small (omega arith) ∙ rw (txt_counted (length bytes) k l) (ap (λ x. Ok (txt id address x)) (take-append_seam bytes more))

-- ---- END and SYM cards

pub end_none_back : (s : List ℕ) → card_of (end_bytes None s) ≡ Ok (End None)
unfolding card_of end_of end_bytes put blank_card
end_none_back s = refl

abbrev end_body : ℕ → ℕ → Result Card CardRefusal
end_body address id = Ok (if address == blank_address then End None else End (Some (record { address = address; id = id })))

end_read : (e : EntryPoint) (s : List ℕ) → e.id < 65536 → e.address < 16777216 → card_of (end_bytes (Some e) s) ≡ end_body e.address e.id
unfolding card_of end_of end_bytes put blank_card
end_read e s h a =
    ap (λ n. end_body n (big_number 2 (big_bytes 2 e.id))) (three_read e.address [] a) ∙ ap (λ n. end_body e.address n) (two_read e.id [] h)

pub end_some_back : (e : EntryPoint) (s : List ℕ) → e.id < 65536 → IsTrue (entry_fits (Some e)) → card_of (end_bytes (Some e) s) ≡ Ok (End (Some e))
end_some_back e s h a =
    let small : e.address < 16777216 = grind (arith, nat_tests) in
    let other : (e.address == blank_address) ≡ false = grind (arith, nat_tests) in
    end_read e s h small ∙ rw other refl

pub sym_back : (s : List ℕ) → card_of (blank_card 0xE2E8D4 s) ≡ Ok Sym
unfolding card_of put blank_card
sym_back s = refl

-- ---- RLD cards

abbrev item_so : RldItem → Bool → ℕ → Bool → RldItem
item_so i v w m = record { target = i.target; place = i.place; v_type = v; width = w; minus = m; address = i.address }

abbrev raw_so : ℕ → ℕ → ℕ → ℕ → RawItem
raw_so t p f a = record { target = t; place = p; flag = f; address = a }

-- the item as it stands
abbrev raw : RldItem → List RldItem → RawItem
raw i is = record { target = i.target; place = i.place; flag = flag_of (next_same i is) i; address = i.address }

abbrev raws : List RldItem → List RawItem
raws [] = []
raws (i ∷ is) = raw i is ∷ raws is

flag_sort : (v m o : Bool) (w : ℕ) → 1 ≤ w → w ≤ 4 → ((cond v 16 0 + ((w - 1) * 4 + (cond m 2 0 + cond o 1 0))) / 16 == 1) ≡ v
flag_sort true true true w h k = grind (arith, nat_tests)
flag_sort true true false w h k = grind (arith, nat_tests)
flag_sort true false true w h k = grind (arith, nat_tests)
flag_sort true false false w h k = grind (arith, nat_tests)
flag_sort false true true w h k = grind (arith, nat_tests)
flag_sort false true false w h k = grind (arith, nat_tests)
flag_sort false false true w h k = grind (arith, nat_tests)
flag_sort false false false w h k = grind (arith, nat_tests)

flag_width : (v m o : Bool) (w : ℕ) → 1 ≤ w → w ≤ 4 → (cond v 16 0 + ((w - 1) * 4 + (cond m 2 0 + cond o 1 0))) / 4 % 4 + 1 ≡ w
flag_width true true true w h k = omega arith
flag_width true true false w h k = omega arith
flag_width true false true w h k = omega arith
flag_width true false false w h k = omega arith
flag_width false true true w h k = omega arith
flag_width false true false w h k = omega arith
flag_width false false true w h k = omega arith
flag_width false false false w h k = omega arith

flag_minus : (v m o : Bool) (w : ℕ) → 1 ≤ w → w ≤ 4 → ((cond v 16 0 + ((w - 1) * 4 + (cond m 2 0 + cond o 1 0))) / 2 % 2 == 1) ≡ m
flag_minus true true true w h k = grind (arith, nat_tests)
flag_minus true true false w h k = grind (arith, nat_tests)
flag_minus true false true w h k = grind (arith, nat_tests)
flag_minus true false false w h k = grind (arith, nat_tests)
flag_minus false true true w h k = grind (arith, nat_tests)
flag_minus false true false w h k = grind (arith, nat_tests)
flag_minus false false true w h k = grind (arith, nat_tests)
flag_minus false false false w h k = grind (arith, nat_tests)

flag_omits : (v m o : Bool) (w : ℕ) → 1 ≤ w → w ≤ 4 → ((cond v 16 0 + ((w - 1) * 4 + (cond m 2 0 + cond o 1 0))) % 2 == 1) ≡ o
flag_omits true true true w h k = grind (arith, nat_tests)
flag_omits true true false w h k = grind (arith, nat_tests)
flag_omits true false true w h k = grind (arith, nat_tests)
flag_omits true false false w h k = grind (arith, nat_tests)
flag_omits false true true w h k = grind (arith, nat_tests)
flag_omits false true false w h k = grind (arith, nat_tests)
flag_omits false false true w h k = grind (arith, nat_tests)
flag_omits false false false w h k = grind (arith, nat_tests)

flag_low : (v m o : Bool) (w : ℕ) → 1 ≤ w → w ≤ 4 → ltb 1 ((cond v 16 0 + ((w - 1) * 4 + (cond m 2 0 + cond o 1 0))) / 16) ≡ false
flag_low true true true w h k = grind (arith, nat_tests)
flag_low true true false w h k = grind (arith, nat_tests)
flag_low true false true w h k = grind (arith, nat_tests)
flag_low true false false w h k = grind (arith, nat_tests)
flag_low false true true w h k = grind (arith, nat_tests)
flag_low false true false w h k = grind (arith, nat_tests)
flag_low false false true w h k = grind (arith, nat_tests)
flag_low false false false w h k = grind (arith, nat_tests)

item_again : (i : RldItem) (is : List RldItem) → 1 ≤ i.width → i.width ≤ 4 → rld_item (raw i is) ≡ i
item_again i is h k =
    let o = next_same i is in
    ap (λ v. item_so i v ((raw i is).flag / 4 % 4 + 1) ((raw i is).flag / 2 % 2 == 1)) (flag_sort i.v_type i.minus o i.width h k)
    ∙ (ap (λ w. item_so i i.v_type w ((raw i is).flag / 2 % 2 == 1)) (flag_width i.v_type i.minus o i.width h k)
    ∙ ap (λ m. item_so i i.v_type i.width m) (flag_minus i.v_type i.minus o i.width h k))

width_fits : (i : RldItem) → IsTrue (rld_item_fits i) → (1 ≤ i.width) × (i.width ≤ 4) × (i.address < 16777216)
width_fits i h =
    let a : i.address < 16777216 = grind (arith, nat_tests) in
    let b : 1 ≤ i.width = grind (arith, nat_tests) in
    let c : i.width ≤ 4 = grind (arith, nat_tests) in
    (b, c, a)

-- the second walk, over the items as they stand
items_again : (is e : List RldItem) → IsTrue (list_all rld_item_fits is) → rld_items e (raws is) ≡ Ok (e ++ is)
items_again [] e h = ap Ok (sym (append-nil e))
items_again (i ∷ is) e h =
    let f = width_fits i (list_all_head (rld_item_fits i) (list_all rld_item_fits is) h) in
    let g = list_all_rest (rld_item_fits i) (list_all rld_item_fits is) h in
    rw (flag_low i.v_type i.minus (next_same i is) i.width f.0 f.1)
    (ap (λ j. rld_items (e ++ j ∷ []) (raws is)) (item_again i is f.0 f.1)
    ∙ (items_again is (e ++ i ∷ []) g ∙ ap Ok (append_assoc e (i ∷ []) is)))

-- the first item has the pointers of the one before, where it omits them
abbrev Follows : Bool → RawItem → List RldItem → Type 0
Follows omits before [] = Unit {0}
Follows omits before (i ∷ is) = omits ≡ true → (i.target ≡ before.target) × (i.place ≡ before.place)

next_follows : (i : RldItem) (is : List RldItem) → Follows (next_same i is) (raw i is) is
next_follows i [] = tt
next_follows i (j ∷ js) = λ h.
    let t : j.target ≡ i.target = grind (arith, nat_tests) in
    let p : j.place ≡ i.place = grind (arith, nat_tests) in
    (t, p)

at_least : (n m : ℕ) → m ≤ n → ltb n m ≡ false
at_least n m h = grind (arith, nat_tests)

first_raw : (omits : Bool) (before : RawItem) (i : RldItem) (is : List RldItem) → Follows omits before (i ∷ is) → i.target < 65536 → i.place < 65536 → i.address < 16777216 → raw_item omits before (rld_bytes omits (i ∷ is)) ≡ Some (raw i is)
first_raw true before i is f t p a =
    let same = f refl in
    let fl : ℕ = flag_of (next_same i is) i in
    rw (at_least (length (rld_bytes true (i ∷ is))) 4 (omega arith))
    (ap (λ n. Some (raw_so before.target before.place fl n)) (three_read i.address [] a)
    ∙ (ap (λ n. Some (raw_so n before.place fl i.address)) (sym same.0)
    ∙ ap (λ n. Some (raw_so i.target n fl i.address)) (sym same.1)))
first_raw false before i is f t p a =
    let fl : ℕ = flag_of (next_same i is) i in
    rw (at_least (length (rld_bytes false (i ∷ is))) 8 (omega arith))
    (ap (λ n. Some (raw_so (big_number 2 (big_bytes 2 i.target)) (big_number 2 (big_bytes 2 i.place)) fl n)) (three_read i.address [] a)
    ∙ (ap (λ n. Some (raw_so n (big_number 2 (big_bytes 2 i.place)) fl i.address)) (two_read i.target [] t)
    ∙ ap (λ n. Some (raw_so i.target n fl i.address)) (two_read i.place [] p)))

rest_of : (omits : Bool) (i : RldItem) (is : List RldItem) → drop (cond omits 4 8) (rld_bytes omits (i ∷ is)) ≡ rld_bytes (next_same i is) is
rest_of true i is = refl
rest_of false i is = refl

some_bytes : (omits : Bool) (i : RldItem) (is : List RldItem) → length (rld_bytes omits (i ∷ is)) ≢ 0
some_bytes true i is = λ e. absurd (omega arith)
some_bytes false i is = λ e. absurd (omega arith)

no_follows : (is : List RldItem) → Follows false no_item is
no_follows [] = tt
no_follows (i ∷ is) = λ h. absurd (grind (arith, nat_tests))

walk_again : (n : ℕ) (omits : Bool) (before : RawItem) (e : List RawItem) (is : List RldItem) → length is ≤ n → Follows omits before is → PointersFit is → IsTrue (list_all rld_item_fits is) → raw_items n e omits before (rld_bytes omits is) ≡ Some (e ++ raws is)
walk_again n omits before e [] l f p h = raws_end n e omits before [] refl ∙ ap Some (sym (append-nil e))
walk_again zero omits before e (i ∷ is) l f p h = absurd (omega arith)
walk_again (suc n) omits before e (i ∷ is) l f p h =
    let w = width_fits i (list_all_head (rld_item_fits i) (list_all rld_item_fits is) h) in
    let g = list_all_rest (rld_item_fits i) (list_all rld_item_fits is) h in
    let o = omits_next (raw i is) in
    let same : o ≡ next_same i is = flag_omits i.v_type i.minus (next_same i is) i.width w.0 w.1 in
    raws_next (suc n) n e omits before (raw i is) (rld_bytes omits (i ∷ is)) (omega arith) (some_bytes omits i is) (first_raw omits before i is f p.0 p.1 w.2)
    ∙ (ap (λ b. raw_items n (e ++ raw i is ∷ []) b (raw i is) (drop (cond omits 4 8) (rld_bytes omits (i ∷ is)))) same
    ∙ (ap (raw_items n (e ++ raw i is ∷ []) (next_same i is) (raw i is)) (rest_of omits i is)
    ∙ (walk_again n (next_same i is) (raw i is) (e ++ raw i is ∷ []) is (omega arith) (next_follows i is) p.2 g
    ∙ ap Some (append_assoc e (raw i is ∷ []) (raws is)))))

length-rld_bytes : (omits : Bool) (is : List RldItem) → length (rld_bytes omits is) ≡ rld_size omits is
length-rld_bytes omits [] = refl
length-rld_bytes true (i ∷ is) = let r = length-rld_bytes (next_same i is) is in omega (arith, r)
length-rld_bytes false (i ∷ is) = let r = length-rld_bytes (next_same i is) is in omega (arith, r)

size_is : (omits : Bool) (is : List RldItem) → 4 * length is ≤ rld_size omits is
size_is omits [] = omega arith
size_is true (i ∷ is) = let r = size_is (next_same i is) is in omega (arith, r)
size_is false (i ∷ is) = let r = size_is (next_same i is) is in omega (arith, r)

few_items : (is : List RldItem) → rld_size false is ≤ 56 → length is ≤ 13
few_items [] h = omega arith
few_items (i ∷ is) h = let r = size_is (next_same i is) is in omega (arith, r, h)

some_size : (is : List RldItem) → 0 < length is → 8 ≤ rld_size false is
some_size [] h = absurd (omega arith)
some_size (i ∷ is) h = omega arith

abbrev rld_body : ℕ → List ℕ → Result Card CardRefusal
rld_body count more = if ltb count 8 || ltb 56 count then Err BadCount else rld_filled (rld_raws (take count more))

rld_read : (is : List RldItem) (s : List ℕ) → length (rld_bytes false is) < 65536 → card_of (rld_card_bytes is s) ≡ rld_body (length (rld_bytes false is)) (rld_bytes false is ++ below (rld_bytes false is) (blank_card 0xD9D3C4 s))
unfolding card_of rld_of rld_card_bytes with_data put blank_card
rld_read is s k =
    let bytes = rld_bytes false is in
    ap (λ n. rld_body n (bytes ++ below bytes (blank_card 0xD9D3C4 s))) (two_read (length bytes) [] k)

rld_counted : (n : ℕ) → 8 ≤ n → n ≤ 56 → (ltb n 8 || ltb 56 n) ≡ false
rld_counted n h k = grind (arith, nat_tests)

raws_again : (is : List RldItem) → rld_size false is ≤ 56 → PointersFit is → IsTrue (list_all rld_item_fits is) → rld_raws (rld_bytes false is) ≡ Some (raws is)
unfolding rld_raws
raws_again is h p f = walk_again 13 false no_item [] is (few_items is h) (no_follows is) p f

pub rld_back : (is : List RldItem) (s : List ℕ) → 0 < length is → rld_size false is ≤ 56 → PointersFit is → IsTrue (list_all rld_item_fits is) → card_of (rld_card_bytes is s) ≡ Ok (rld is)
rld_back is s h k p f =
    let bytes = rld_bytes false is in
    let more = below bytes (blank_card 0xD9D3C4 s) in
    let l = length-rld_bytes false is in
    let m = some_size is h in
    rld_read is s (omega arith)
    ∙ (rw (rld_counted (length bytes) (omega arith) (omega arith)) (ap (λ x. rld_filled (rld_raws x)) (take-append_seam bytes more))
    ∙ (ap rld_filled (raws_again is k p f) ∙ ap rld_card (items_again is [] f)))
