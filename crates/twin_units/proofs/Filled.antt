-- Bytes at the front of zeros.
use Rattle.std.proofs.Common.{◌≡◌, ℕ, List, ◌++◌, drop, length, refl}
use Rattle.std.specs.Prelude.{replicate}
use Rattle.std.proofs.lemmas.List.{drop-replicate}
use Rattle.esa_model.specs.Packet.{filled}

pub padded : (bs copied : List ℕ) → copied ≡ bs → copied ++ drop (length bs) (replicate 256 0) ≡ filled 256 bs
padded bs copied e = rw (e, drop-replicate {X = ℕ} (length bs) 256 0) refl
