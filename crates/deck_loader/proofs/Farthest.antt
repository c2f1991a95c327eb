-- The farthest text of a section, by the ends that are kept under keys.
use Rattle.std.proofs.Common.{◌≡◌, ℕ, suc, ◌+◌, ◌-◌, ◌<◌, ◌≤◌, max, Bool, true, false, cond, eqb, ◌&&◌, List, [], ◌∷◌, ◌++◌, length, All, refl, sym, ◌∙◌, ap, arith}
use Rattle.std.proofs.lemmas.Bool.Decides.{nat_tests}
use Rattle.deck_model.specs.Image.{farthest, length_of}
use Rattle.deck_model.specs.declared.decks.Item.{Item}
use Rattle.deck_model.specs.declared.decks.Text.{Text}
use Rattle.deck_loader.specs.Keys.{item_key}
use Rattle.deck_loader.specs.Indexed.{last_end}
use Rattle.deck_loader.proofs.Items.{one_number}

max_case : (b : Bool) (e m c f : ℕ) → f ≡ m - c → max (cond b (e - c) 0) f ≡ max (cond b e 0) m - c
max_case true e m c f h = omega (arith, h)
max_case false e m c f h = omega (arith, h)

pub farthest_is : (s : Item) (ts : List Text) → s.id < 4294967296 → All (λ (t : Text). t.id < 4294967296) ts → farthest s ts ≡ last_end (item_key s.owner s.id) ts - s.item.address
farthest_is s [] h k = omega arith
farthest_is s (t ∷ ts) h k =
    let e : ℕ = t.address + length t.bytes.items in
    let q : ℕ = item_key s.owner s.id in
    let r = farthest_is s ts h (λ i d l. k (suc i) d (omega arith)) in
    let same = one_number t.owner t.id s.owner s.id (k 0 t (omega arith)) h in
    max_case (eqb t.owner s.owner && eqb t.id s.id) e (last_end q ts) s.item.address (farthest s ts) r
    ∙ ap (λ b. max (cond b e 0) (last_end q ts) - s.item.address) (sym same)

max_swap : (a b c : ℕ) → max a (max b c) ≡ max b (max a c)
max_swap a b c = omega arith

pub last_end-push : (q : ℕ) (ts : List Text) (t : Text) → last_end q (ts ++ t ∷ []) ≡ max (cond (eqb (item_key t.owner t.id) q) (t.address + length t.bytes.items) 0) (last_end q ts)
last_end-push q [] t = refl
last_end-push q (x ∷ ts) t =
    let a = cond (eqb (item_key x.owner x.id) q) (x.address + length x.bytes.items) 0 in
    let b = cond (eqb (item_key t.owner t.id) q) (t.address + length t.bytes.items) 0 in
    ap (max a) (last_end-push q ts t) ∙ max_swap a b (last_end q ts)

pub max_low : (b : Bool) (e m n : ℕ) → e ≤ n → m ≤ n → max (cond b e 0) m ≤ n
max_low true e m n h k = omega (arith, h, k)
max_low false e m n h k = omega (arith, h, k)

pub length_far : (s : Item) (ts : List Text) (n : ℕ) → s.item.extent ≡ 0 → n ≡ farthest s ts → n ≡ length_of ts s
length_far s ts n e h = let t : eqb s.item.extent 0 ≡ true = grind (arith, nat_tests) in rw t h
