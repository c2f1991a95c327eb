-- Bytes that were copied one by one.
use Rattle.std.proofs.Common.{◌≡◌, ℕ, ◌+◌, ◌<◌, ◌≤◌, List, length, get_or, slice_set, refl, sym, subst, ◌∙◌}
use Rattle.std.proofs.lemmas.Option.{unwrap_or-slice_get}
use Rattle.saved_machine.specs.Saved.{byte_at, first_bytes}
use Rattle.machine_save.proofs.Filling.{Filling, filling_end, filling_next}
use Rattle.saved_machine.proofs.StandingAgain.{whole}

filled : (bytes xs : List ℕ) (n i : ℕ) → n ≤ i → i ≤ n → Filling (byte_at bytes) n i xs
    → xs ≡ first_bytes bytes n
unfolding first_bytes
filled bytes xs n i le ge so = filling_end (byte_at bytes) n i xs le ge so

-- one more
pub copy_next : (bytes now new : List ℕ) (at : ℕ) → at < length bytes
    → Filling (byte_at bytes) (length bytes) at now → new ≡ slice_set now at (get_or bytes at 0)
    → Filling (byte_at bytes) (length bytes) (at + 1) new
copy_next bytes now new at lt so e =
    subst (λ xs. Filling (byte_at bytes) (length bytes) (at + 1) xs) (sym e)
    (filling_next (byte_at bytes) (length bytes) at now (get_or bytes at 0) lt so
    (sym (unwrap_or-slice_get bytes at 0)))

pub copied : (bytes xs : List ℕ) (i : ℕ) → length bytes ≤ i → i ≤ length bytes
    → Filling (byte_at bytes) (length bytes) i xs → xs ≡ bytes
copied bytes xs i le ge so = filled bytes xs (length bytes) i le ge so ∙ whole bytes (length bytes) refl
