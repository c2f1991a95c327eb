-- Bytes that are moved from the front of a list.
use Rattle.std.proofs.Common.{◌≡◌, ℕ, ◌+◌, ◌<◌, List, [], ◌∷◌, ◌++◌, length, take, drop, min, refl, sym, ◌∙◌, ap, arith}
use Rattle.std.proofs.lemmas.List.{take-append-drop, drop-drop}
use Rattle.std.proofs.Math.Seq.{take-append_seam}

-- the first n bytes from a place on, put before others, are the first n there
pub moved : (bytes part rest : List ℕ) (at n : ℕ) → part ≡ take n (drop at bytes) → length part ≡ n → drop at bytes ≡ take n (part ++ rest) ++ drop (at + n) bytes
moved bytes part rest at n is len =
    let front : take n (part ++ rest) ≡ part = ap (λ k. take k (part ++ rest)) (sym len) ∙ take-append_seam part rest in
    rw front (sym (take-append-drop n (drop at bytes)) ∙ cc (is, drop-drop n at bytes))

pub is_nil : (xs : List ℕ) → length xs ≡ 0 → xs ≡ []
is_nil [] e = refl
is_nil (x ∷ xs) e = absurd (omega arith)

-- none was moved into some room in a step of some bytes, so none was left
pub end_of_moved : (bytes into : List ℕ) (at n most : ℕ) → n ≡ min (min (length (drop at bytes)) (length into)) most → n ≡ 0 → 0 < length into → 0 < most → drop at bytes ≡ []
end_of_moved bytes into at n most count zero room some = is_nil (drop at bytes) (omega arith)
