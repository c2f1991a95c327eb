-- The sorts of log entries, by what they say. Source: choice of this project.
use Rattle.std.specs.Prelude.{ℕ, ◌+◌, Bool, true, false, ◌==◌, ◌&&◌, ◌||◌, if◌then◌else◌, List, [], ◌∷◌}
use Rattle.run_model.specs.declared.logs.Entry.{Entry}
use Rattle.run_model.specs.declared.logs.What.{What}
use Rattle.run_model.specs.declared.logs.What.TheVariants.{Fail, Retry, Corrected, Uncorrectable, Fenced, Spared, NoSpare, Stop, Returned}

abbrev pub is_fail : What → Bool
is_fail (Fail why n) = true
is_fail w = false

abbrev pub is_retry : What → Bool
is_retry (Retry r) = true
is_retry w = false

-- the retry of this number
abbrev pub is_retry_of : ℕ → What → Bool
is_retry_of n (Retry r) = r == n
is_retry_of n w = false

abbrev pub is_corrected : What → Bool
is_corrected (Corrected word bit) = true
is_corrected w = false

abbrev pub is_uncorrectable : What → Bool
is_uncorrectable (Uncorrectable word) = true
is_uncorrectable w = false

abbrev pub is_fence : What → Bool
is_fence Fenced = true
is_fence w = false

abbrev pub is_spared : What → Bool
is_spared (Spared k) = true
is_spared w = false

-- a transfer to this core
abbrev pub is_spared_to : ℕ → What → Bool
is_spared_to n (Spared k) = k.0 == n
is_spared_to n w = false

abbrev pub is_no_spare : What → Bool
is_no_spare NoSpare = true
is_no_spare w = false

abbrev pub is_stop : What → Bool
is_stop Stop = true
is_stop w = false

abbrev pub is_returned : What → Bool
is_returned Returned = true
is_returned w = false

-- why a CPU is check-stopped
abbrev pub is_reason : What → Bool
is_reason w = is_uncorrectable w || is_no_spare w

-- ---- of whole entries

abbrev pub of_sort : (What → Bool) → Entry → Bool
of_sort sort e = sort e.what

abbrev pub is_stop_entry : Entry → Bool
is_stop_entry e = of_sort is_stop e

abbrev pub is_returned_entry : Entry → Bool
is_returned_entry e = of_sort is_returned e

-- an entry of CPU i
abbrev pub of_cpu : ℕ → (What → Bool) → Entry → Bool
of_cpu i sort e = (e.cpu.0 == i) && sort e.what

-- one of core k of CPU i
abbrev pub of_core : ℕ → ℕ → (What → Bool) → Entry → Bool
of_core i k sort e = (e.cpu.0 == i) && ((e.core.0 == k) && sort e.what)

-- how many of a list pass a test
abbrev pub how_many : {A : Type 0} → (A → Bool) → List A → ℕ
how_many test [] = 0
how_many test (x ∷ xs) = (if test x then 1 else 0) + how_many test xs
