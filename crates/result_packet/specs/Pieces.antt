-- The pieces that a packet stores, in their order; an empty piece and one that is not wholly inside are left out.
-- Source: choice of this project.
use Rattle.std.specs.Prelude.{ℕ, ◌+◌, ◌≤◌, ◌==◌, nat_le, not, ◌&&◌, if◌then◌else◌, List, [], ◌∷◌, ◌++◌, length}
use Rattle.std.specs.Prelude.{Option, Some, None, ⊤}
use Rattle.esa_model.specs.declared.events.Interruption.{Interruption}
use Rattle.esa_model.specs.declared.machine.Psw.{Psw}
use Rattle.esa_model.specs.Access.{absolute}
use Rattle.esa_model.specs.Machine.{psw_bytes, identification_bytes}
use Rattle.esa_model.specs.Places.{old_at, identification_at}
use Rattle.esa_model.specs.Packet.{Fields}
use Rattle.esa_model.specs.PacketCodes.{interruption_of}
use Rattle.esa_model.specs.Apply.{Piece, first_bytes, second_bytes}

-- a piece more, for a storage of so many bytes
abbrev pub added : ℕ → ℕ → List ℕ → List Piece → List Piece
added size at bytes ps =
    if nat_le (at + length bytes) size && not (length bytes == 0) then ps ++ (record { at = at; bytes = bytes } ∷ []) else ps

-- the old PSW and the identification, where there is an interruption; their real addresses lie in page 0
abbrev pub with_swap : ℕ → ℕ → Option Interruption → Psw → ℕ → List Piece → List Piece
with_swap prefix size None old identification ps = ps
with_swap prefix size (Some k) old identification ps =
    added size (absolute prefix (identification_at k)) (identification_bytes k identification)
    (added size (absolute prefix (old_at k)) (psw_bytes old) ps)

-- the pieces of a packet, by the prefix before the event
unfoldable pub stores_of : ℕ → ℕ → Fields → List Piece
stores_of prefix size f =
    with_swap prefix size (interruption_of f.kind) f.old f.identification
    (added size f.second_at (second_bytes f) (added size f.first_at (first_bytes f) []))

-- each piece has 1 to 256 bytes inside a storage of so many
abbrev pub Holdable : ℕ → List Piece → Type 0
Holdable n [] = ⊤
Holdable n (p ∷ ps) = (1 ≤ length p.bytes) × (length p.bytes ≤ 256) × (p.at + length p.bytes ≤ n) × Holdable n ps
