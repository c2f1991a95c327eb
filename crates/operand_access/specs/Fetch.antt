-- What the fetch of an instruction gives.
-- Source: Principles of Operation, chapter on program execution (instruction length). That bytes
-- which are not fetched are zero is a choice of this project.
use Rattle.std.specs.Prelude.{ℕ, ◌-◌, ◌==◌, ◌++◌, true, false, if◌then◌else◌, List, length, replicate}
use Rattle.esa_model.specs.declared.machine.Registers.{Registers}
use Rattle.esa_model.specs.Access.{Memory, bytes, whole}
use Rattle.operand_access.specs.Seen.{IsInside}
use Rattle.esa_model.specs.Unit.{start_code, fetch_len, fetch_code}

-- the length by the first halfword, or zero where that was refused
unfoldable pub length_known : Registers → Memory → ℕ → ℕ
length_known r m at = if start_code r m at == 0 then fetch_len r m at else 0

-- how many bytes are fetched: none, the first halfword, or all
unfoldable pub fetched_count : Registers → Memory → ℕ → ℕ
fetched_count r m at =
    if start_code r m at == 0
    then (if fetch_code r m at == 0 then fetch_len r m at else 2)
    else 0

-- so many bytes and zeros
unfoldable pub front : Registers → List ℕ → ℕ → ℕ → List ℕ
front r storage at n = bytes r storage at n ++ replicate (6 - n) 0

-- the bytes that are fetched, and zeros in place of the others
abbrev pub known_bytes : Registers → Memory → ℕ → List ℕ
known_bytes r m at = front r m.storage at (fetched_count r m at)

-- the length of an instruction whose length is not known
abbrev pub counted_len : ℕ → ℕ
counted_len len = if len == 0 then 2 else len

-- so many bytes from an address on are inside the storage
abbrev pub AreThere : Registers → List ℕ → ℕ → ℕ → Type 0
AreThere r storage at len = IsInside r (length storage) (whole at len true false)
