-- One byte more of a move, and of a translation.
use Rattle.std.proofs.Common.{◌≡◌, ℕ, suc, ◌+◌, List, [], ◌∷◌, ◌++◌, refl, arith}
use Rattle.esa_model.specs.declared.machine.Registers.{Registers}
use Rattle.esa_model.specs.Access.{byte, written}
use Rattle.esa_model.specs.Rows.Bytes.{moved, moved_byte, translated}

pub moved_none : (op : ℕ) (r : Registers) (s : List ℕ) (to from : ℕ) → moved op r s to from 0 ≡ []
unfolding moved
moved_none op r s to from = refl

pub moved_more : (op : ℕ) (r : Registers) (s : List ℕ) (to from n : ℕ)
    → moved op r s to from (n + 1)
    ≡ moved op r s to from n
    ++ (moved_byte op r to from n (written r to (moved op r s to from n) s) ∷ [])
unfolding moved
moved_more op r s to from n = let e : n + 1 ≡ suc n = omega arith in rw e refl

pub translated_none : (r : Registers) (s : List ℕ) (to table : ℕ) → translated r s to table 0 ≡ []
unfolding translated
translated_none r s to table = refl

pub translated_more : (r : Registers) (s : List ℕ) (to table n : ℕ)
    → translated r s to table (n + 1)
    ≡ translated r s to table n
    ++ (byte r (written r to (translated r s to table n) s) (table + byte r s (to + n)) ∷ [])
unfolding translated
translated_more r s to table n = let e : n + 1 ≡ suc n = omega arith in rw e refl
