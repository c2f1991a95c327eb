-- The runs of a deck hold its image at origin 0.
use Rattle.std.proofs.Common.{◌≡◌, ℕ, zero, suc, ◌+◌, ◌-◌, ◌<◌, ◌≤◌, Bool, true, false, cond, leb, ltb, eqb, ◌&&◌, ◌||◌, List, [], ◌∷◌, ◌++◌, length, get_or, map, reverse, refl, sym, ◌∙◌, ap, arith, ◌⊎◌, inl, inr}
use Rattle.std.proofs.lemmas.Bool.Decides.{nat_tests}
use Rattle.std.proofs.lemmas.Grind.{reverse_onto}
use Rattle.std.specs.List.{list_any}
use Rattle.deck_model.specs.Deck.{Listing}
use Rattle.deck_model.specs.Image.{added, text_at, constant_at, text_byte, value, relocated_byte, image_byte, places}
use Rattle.deck_model.specs.declared.decks.Item.{Item}
use Rattle.deck_model.specs.declared.decks.Placed.{Placed}
use Rattle.deck_model.specs.declared.decks.Text.{Text}
use Rattle.deck_model.specs.declared.decks.Relocation.{Relocation}
use Rattle.deck_cards.specs.TextCards.{reaches, runs_of, run_byte}
use Rattle.deck_cards.proofs.RunBytes.{reach_in, reach_true, and_true, and_false, runs_hold as runs_byte}
use Rattle.deck_loader.specs.Written.{AreInside, ConstantsAreInside}
use Rattle.link_model.specs.Linked.{text_reaches, constant_reaches, stands}
use Rattle.link_model.proofs.Relative.{Relative, folded}
use Rattle.link_model.proofs.Moving.{relative, relatives}
use Rattle.link_model.proofs.Bytes.{one_is, covers, constant, new_byte}
use Rattle.link_model.proofs.Values.{image_folded}

-- ---- where nothing stands

either_false : (b c : Bool) → (b || c) ≡ false → (b ≡ false) × (c ≡ false)
either_false true c h = absurd (grind (arith, nat_tests))
either_false false c h = (refl, h)

text_none : (ps : List Placed) (ts : List Text) (a before : ℕ) → list_any (text_reaches ps a) ts ≡ false → text_byte ps ts a before ≡ before
text_none ps [] a before h = refl
text_none ps (t ∷ ts) a before h =
    let e = either_false (text_reaches ps a t) (list_any (text_reaches ps a) ts) h in
    ap (λ b. text_byte ps ts a (cond b (get_or t.bytes.items (a - text_at ps t) 0) before)) e.0 ∙ text_none ps ts a before e.1

covers_is : (at w a : ℕ) → covers at w a ≡ reaches at w a
unfolding covers
covers_is at w a = refl

folded_none : (items : List Item) (ps : List Placed) (rs : List Relocation) (f : ℕ → ℕ) (a : ℕ) → list_any (constant_reaches ps a) rs ≡ false → folded (map (relative items ps) rs) f a ≡ f a
folded_none items ps [] f a h = refl
folded_none items ps (r ∷ rs) f a h =
    let e = either_false (constant_reaches ps a r) (list_any (constant_reaches ps a) rs) h in
    let at : ℕ = constant_at ps r in
    let w : ℕ = r.item.width in
    let before = folded (map (relative items ps) rs) f in
    one_is at w r.item.minus (value items ps r) before a
    ∙ (ap (λ c. cond c (new_byte at w (added r.item.minus w (value items ps r) (constant before at w)) a) (before a)) (covers_is at w a ∙ e.0)
    ∙ folded_none items ps rs f a e.1)

any_append : (q : Relocation → Bool) (xs ys : List Relocation) → list_any q xs ≡ false → list_any q ys ≡ false → list_any q (xs ++ ys) ≡ false
any_append q [] ys h k = k
any_append q (x ∷ xs) ys h k =
    let e = either_false (q x) (list_any q xs) h in
    ap (λ b. b || list_any q (xs ++ ys)) e.0 ∙ any_append q xs ys e.1 k

any_reverse : (q : Relocation → Bool) (xs : List Relocation) → list_any q xs ≡ false → list_any q (reverse xs) ≡ false
any_reverse q [] h = refl
any_reverse q (x ∷ xs) h =
    let e = either_false (q x) (list_any q xs) h in
    ap (list_any q) (reverse_onto xs x []) ∙ any_append q (reverse xs) (x ∷ []) (any_reverse q xs e.1) (ap (λ b. b || false) e.0)

pub stands_not : (l : Listing) (a : ℕ) → stands l (places 0 l) a ≡ false → image_byte l (places 0 l) a ≡ 0
stands_not l a h =
    let ps = places 0 l in
    let e = either_false (list_any (text_reaches ps a) l.texts) (list_any (constant_reaches ps a) l.relocations) h in
    image_folded l a
    ∙ (folded_none l.items ps (reverse l.relocations) (λ b. text_byte ps l.texts b 0) a (any_reverse (constant_reaches ps a) l.relocations e.1)
    ∙ text_none ps l.texts a 0 e.0)

-- ---- where something stands is inside

one_true : (b c : Bool) → (b || c) ≡ true → (b ≡ true) ⊎ (c ≡ true)
one_true true c h = inl refl
one_true false c h = inr h

text_inside : (ps : List Placed) (n : ℕ) (ts : List Text) (a : ℕ) → AreInside ps n ts → list_any (text_reaches ps a) ts ≡ true → a < n
text_inside ps n [] a i h = absurd (grind (arith, nat_tests))
text_inside ps n (t ∷ ts) a i h =
    elim (one_true (text_reaches ps a t) (list_any (text_reaches ps a) ts) h) [
      | inl e ↦ (let k = reach_in (text_at ps t) (length t.bytes.items) a e in omega (arith, k.1, i.0))
      | inr e ↦ text_inside ps n ts a i.1 e
    ]

constant_inside : (ps : List Placed) (n : ℕ) (rs : List Relocation) (a : ℕ) → ConstantsAreInside ps n rs → list_any (constant_reaches ps a) rs ≡ true → a < n
constant_inside ps n [] a i h = absurd (grind (arith, nat_tests))
constant_inside ps n (r ∷ rs) a i h =
    elim (one_true (constant_reaches ps a r) (list_any (constant_reaches ps a) rs) h) [
      | inl e ↦ (let k = reach_in (constant_at ps r) r.item.width a e in omega (arith, k.1, i.2))
      | inr e ↦ constant_inside ps n rs a i.3 e
    ]

pub stands_inside : (l : Listing) (ps : List Placed) (n a : ℕ) → AreInside ps n l.texts → ConstantsAreInside ps n l.relocations → stands l ps a ≡ true → a < n
stands_inside l ps n a t c h =
    elim (one_true (list_any (text_reaches ps a) l.texts) (list_any (constant_reaches ps a) l.relocations) h) [
      | inl e ↦ text_inside ps n l.texts a t e
      | inr e ↦ constant_inside ps n l.relocations a c e
    ]

-- ---- the runs of a deck hold its image at origin 0

held_case : (b : Bool) (l : Listing) (n a : ℕ) → AreInside (places 0 l) n l.texts → ConstantsAreInside (places 0 l) n l.relocations → stands l (places 0 l) a ≡ b → cond (reaches 0 n a && b) (image_byte l (places 0 l) a) 0 ≡ image_byte l (places 0 l) a
held_case true l n a t c e =
    let h = stands_inside l (places 0 l) n a t c e in
    let x = image_byte l (places 0 l) a in
    ap (λ b. cond b x 0) (and_true (reaches 0 n a) ∙ reach_true 0 n a (omega arith) (omega (arith, h)))
held_case false l n a t c e =
    let x = image_byte l (places 0 l) a in
    ap (λ b. cond b x 0) (and_false (reaches 0 n a)) ∙ sym (stands_not l a e)

pub runs_hold : (l : Listing) (n a : ℕ) → AreInside (places 0 l) n l.texts → ConstantsAreInside (places 0 l) n l.relocations → run_byte (runs_of (stands l (places 0 l)) (image_byte l (places 0 l)) n) a 0 ≡ image_byte l (places 0 l) a
runs_hold l n a t c =
    let on = stands l (places 0 l) in
    let f = image_byte l (places 0 l) in
    runs_byte on f n a 0 ∙ held_case (on a) l n a t c refl
