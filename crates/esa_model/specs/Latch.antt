-- The fetch latch of an event: what stands between the fetch and the two result units.
-- Source: choice of this project.
use Rattle.std.specs.Prelude.{ℕ, zero, suc, ◌+◌, ◌%◌, ◌/◌, ◌==◌, if◌then◌else◌, List, [], ◌∷◌, ◌++◌, Bool, replicate}
use Rattle.esa_model.specs.declared.machine.Registers.{Registers}
use Rattle.esa_model.specs.declared.machine.Due.{Due}
use Rattle.esa_model.specs.declared.machine.Due.TheVariants.{Idle, Early, External, Restart, UnitOfOperation}
use Rattle.esa_model.specs.Psw.{address}
use Rattle.esa_model.specs.Access.{Memory, bytes}
use Rattle.esa_model.specs.Line.{Side}
use Rattle.esa_model.specs.Bus.{signals_of}
use Rattle.esa_model.specs.Event.{due}
use Rattle.esa_model.specs.Unit.{start_code, fetch_len, fetch_code, fetched}

-- the first halfword where it was fetched, and zeros
abbrev pub first_halfword : Registers → Memory → ℕ → List ℕ
first_halfword r m at = if start_code r m at == 0 then bytes r m.storage at 2 ++ replicate 4 0 else replicate 6 0

-- byte 0 tells the event: 0 unit of operation, 1 external, 2 restart, 3 early exception, 4 refused fetch; byte 1 is
-- the instruction's length in bytes, of a refused fetch the program code; bytes 2-7 are the instruction
abbrev pub unit_latch : Registers → Memory → List ℕ
unit_latch r m =
    let at = address r.psw in
    let code = fetch_code r m at in
    if code == 0 then 0 ∷ fetch_len r m at ∷ fetched r m at else 4 ∷ code ∷ first_halfword r m at

abbrev pub latch_of : Registers → Memory → Due → List ℕ
latch_of r m Idle = replicate 8 0
latch_of r m Early = 3 ∷ replicate 7 0
latch_of r m (External q) = 1 ∷ replicate 7 0
latch_of r m Restart = 2 ∷ replicate 7 0
latch_of r m UnitOfOperation = unit_latch r m

-- the eight bytes for the event that is due at a CPU
unfoldable pub latch : Registers → ℕ → List ℕ → Side → List ℕ
latch r i storage side = latch_of r (record { storage = storage; keys = side.keys }) (due r side.clock (signals_of side.bus i))

-- how many of the bits of a byte are one
abbrev pub ones : ℕ → ℕ → ℕ
ones zero b = 0
ones (suc k) b = b % 2 + ones k (b / 2)

abbrev pub ones_of : List ℕ → ℕ
ones_of [] = 0
ones_of (b ∷ bs) = ones 8 b + ones_of bs

-- the parity bit of so many bytes: with it the number of ones is odd
unfoldable pub parity_bit : List ℕ → Bool
parity_bit bs = ones_of bs % 2 == 0

abbrev pub bit_number : Bool → ℕ
bit_number b = if b then 1 else 0

-- a latch whose bytes and parity bit have an odd number of ones is good
unfoldable pub is_good : List ℕ → Bool → Bool
is_good bs odd = (ones_of bs + bit_number odd) % 2 == 1
