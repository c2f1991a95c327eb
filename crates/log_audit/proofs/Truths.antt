-- The two truth values.
use Rattle.std.proofs.Common.{◌≡◌, Bool, true, false, refl, sym}
use Rattle.std.specs.Prelude.{◌&&◌}
use Rattle.std.proofs.lemmas.Bool.{false≢true}

pub and_l : (a b : Bool) → (a && b) ≡ true → a ≡ true
and_l true b e = refl
and_l false b e = e

pub and_r : (a b : Bool) → (a && b) ≡ true → b ≡ true
and_r true b e = e
and_r false b e = absurd (false≢true e)

-- the second counts only where the first holds
pub and_same : (a b d : Bool) → (a ≡ true → b ≡ d) → (a && b) ≡ (a && d)
and_same true b d h = h refl
and_same false b d h = refl

pub same_by : (a b : Bool) → (a ≡ true → b ≡ true) → (b ≡ true → a ≡ true) → a ≡ b
same_by true b f g = sym (f refl)
same_by false true f g = g refl
same_by false false f g = refl
