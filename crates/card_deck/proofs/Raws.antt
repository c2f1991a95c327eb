-- Steps over the items of an RLD card.
use Rattle.std.proofs.Common.{◌≡◌, ◌≢◌, ℕ, zero, suc, ◌+◌, Bool, false, cond, eqb, List, [], ◌∷◌, ◌++◌, length, drop, Some, None, refl, ap, arith}
use Rattle.std.proofs.lemmas.Bool.Decides.{nat_tests}
use Rattle.deck_model.specs.declared.cards.RawItem.{RawItem}
use Rattle.deck_model.specs.Card.{raw_item, raw_items, omits_next}

some_left : (bytes : List ℕ) → length bytes ≢ 0 → eqb (length bytes) 0 ≡ false
some_left bytes h = grind (arith, nat_tests)

pub raws_next : (n m : ℕ) (e : List RawItem) (o : Bool) (b i : RawItem) (bytes : List ℕ) → n ≡ m + 1 → length bytes ≢ 0 → raw_item o b bytes ≡ Some i → raw_items n e o b bytes ≡ raw_items m (e ++ i ∷ []) (omits_next i) i (drop (cond o 4 8) bytes)
raws_next zero m e o b i bytes k h r = absurd (omega arith)
raws_next (suc n) m e o b i bytes k h r =
    let s : n ≡ m = omega arith in
    rw (some_left bytes h) (rw r (ap (λ n. raw_items n (e ++ i ∷ []) (omits_next i) i (drop (cond o 4 8) bytes)) s))

pub raws_none : (n m : ℕ) (e : List RawItem) (o : Bool) (b : RawItem) (bytes : List ℕ) → n ≡ m + 1 → length bytes ≢ 0 → raw_item o b bytes ≡ None → raw_items n e o b bytes ≡ None
raws_none zero m e o b bytes k h r = absurd (omega arith)
raws_none (suc n) m e o b bytes k h r = rw (some_left bytes h) (rw r refl)

pub raws_end : (n : ℕ) (e : List RawItem) (o : Bool) (b : RawItem) (bytes : List ℕ) → length bytes ≡ 0 → raw_items n e o b bytes ≡ Some e
raws_end zero e o b bytes h = rw h refl
raws_end (suc n) e o b bytes h = rw h refl

pub raws_full : (e : List RawItem) (o : Bool) (b : RawItem) (bytes : List ℕ) → length bytes ≢ 0 → raw_items 0 e o b bytes ≡ None
raws_full e o b bytes h = rw (some_left bytes h) refl
