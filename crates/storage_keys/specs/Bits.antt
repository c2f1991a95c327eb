-- Bits of a key, numbered from the left of its byte.
-- Source: Principles of Operation, chapter on storage (storage key). That a block outside allows
-- nothing is a choice of this project.
use Rattle.std.specs.Prelude.{ℕ, Bool, false, if◌then◌else◌, List, Option, Some, None, slice_set}
use Rattle.esa_model.specs.Access.{allows}
use Rattle.esa_model.specs.Machine.{with_reference, with_change, key_at}

-- whether a block's key allows an access to the PSW's key; a block that is not there does not
abbrev pub allowed : Bool → ℕ → Option ℕ → Bool
allowed store psw_key None = false
allowed store psw_key (Some key) = allows store psw_key key

-- the key with its reference bit and, where asked, its change bit one
abbrev pub marked : Bool → ℕ → ℕ
marked change key = if change then with_change key else with_reference key

-- the keys, one of them so marked; a block that is not there is passed over
abbrev pub touched : Bool → ℕ → List ℕ → List ℕ
touched change block keys = slice_set keys block (marked change (key_at keys block))
