-- The lines that are left to be written.
use Rattle.std.proofs.Common.{◌≡◌, ℕ, suc, ◌+◌, ◌-◌, ◌<◌, ◌≤◌, List, [], ◌++◌, sym, ◌∙◌, ap, arith}
use Rattle.std.specs.Prelude.{Option}
use Rattle.asm_text.specs.Lines.{listing, on_next}

-- a line more
pub one_less : (storage line text : List ℕ) (count made at : ℕ) (next : Option ℕ) → text ≡ line
    → made < count
    → ((n : ℕ) → listing storage (suc n) at ≡ line ++ on_next next (λ a. listing storage n a))
    → listing storage (count - made) at
    ≡ text ++ on_next next (λ a. listing storage (count - (made + 1)) a)
one_less storage line text count made at next same h e =
    let is : count - made ≡ suc (count - (made + 1)) = omega (arith, h) in
    ap (λ n. listing storage n at) is ∙ e (count - (made + 1))
    ∙ ap (λ xs. xs ++ on_next next (λ a. listing storage (count - (made + 1)) a)) (sym same)

-- none is left
pub none_left : (storage : List ℕ) (count made at : ℕ) → count ≤ made
    → listing storage (count - made) at ≡ []
unfolding listing
none_left storage count made at h =
    let is : count - made ≡ 0 = omega (arith, h) in ap (λ n. listing storage n at) is
