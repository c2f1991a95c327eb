-- States and requests of CPUs at the start, the requests that are pending, and which event is due at a CPU.
-- Source: Principles of Operation, chapters on interruptions (external requests, their masks, their codes and their order)
-- and on control (stopped, operating and check-stop state; wait; timing). The order of an early exception, external requests,
-- a pending restart, wait and a unit of operation, and the lowest sending CPU first, are choices of this project.
use Rattle.std.specs.Prelude.{ℕ, ◌+◌, ◌-◌, ◌==◌, if◌then◌else◌, List, [], ◌∷◌, ◌++◌, Bool, false, Option, Some, None, find, replicate, slice_get, slice_index}
use Rattle.std.specs.Option.{unwrap_or}
use Rattle.esa_model.specs.declared.machine.CpuNo.{CpuNo}
use Rattle.esa_model.specs.declared.machine.Registers.{Registers}
use Rattle.esa_model.specs.declared.machine.Signals.{Signals}
use Rattle.esa_model.specs.declared.machine.CpuState.{CpuState}
use Rattle.esa_model.specs.declared.machine.CpuState.TheVariants.{Operating, Stopped, CheckStop}
use Rattle.esa_model.specs.declared.machine.Request.{Request}
use Rattle.esa_model.specs.declared.machine.Request.TheVariants.{Key, Malfunction, Emergency, ExternalCall, Comparator, Timer}
use Rattle.esa_model.specs.declared.machine.Due.{Due}
use Rattle.esa_model.specs.declared.machine.Due.TheVariants.{Idle, Early, External, Restart, UnitOfOperation}
use Rattle.esa_model.specs.Word.{bits}
use Rattle.esa_model.specs.Bus.{cpu_no, quiet}
use Rattle.esa_model.specs.Clocks.{passes_comparator, is_timer_negative}
use Rattle.esa_model.specs.Psw.{is_early, is_open, is_waiting}

-- at the start: CPU 0 is operating, the others are stopped, and nothing is pending
unfoldable pub signals_at_start : ℕ → List Signals
signals_at_start cpus = quiet Operating ∷ replicate (cpus - 1) (quiet Stopped)

-- ---- requests

-- whether a request is pending
abbrev pub has_call : Option CpuNo → ℕ → Bool
has_call None c = false
has_call (Some d) c = d.0 == c

-- those of the clock comparator and the timer are no signals of the bus
unfoldable pub is_pending : Signals → Request → Bool
is_pending s Key = s.key
is_pending s (Malfunction c) = unwrap_or (slice_get s.malfunction c.0) false
is_pending s (Emergency c) = unwrap_or (slice_get s.emergency c.0) false
is_pending s (ExternalCall c) = has_call s.external_call c.0
is_pending s Comparator = false
is_pending s Timer = false

-- the code that an external interruption stores
abbrev pub request_code : Request → ℕ
request_code Key = 0x0040
request_code (Malfunction c) = 0x1200
request_code (Emergency c) = 0x1201
request_code (ExternalCall c) = 0x1202
request_code Comparator = 0x1004
request_code Timer = 0x1005

-- the CPU that sent it, or zero
abbrev pub sender_of : Request → ℕ
sender_of Key = 0
sender_of (Malfunction c) = c.0
sender_of (Emergency c) = c.0
sender_of (ExternalCall c) = c.0
sender_of Comparator = 0
sender_of Timer = 0

-- the bit of control register 0 that enables it
abbrev pub mask_bit : Request → ℕ
mask_bit Key = 25
mask_bit (Malfunction c) = 16
mask_bit (Emergency c) = 17
mask_bit (ExternalCall c) = 18
mask_bit Comparator = 20
mask_bit Timer = 21

abbrev pub masked : ℕ → ℕ → Bool
masked cr0 bit = bits cr0 bit bit == 1

-- ---- the requests that are pending, in the order in which they are taken

-- those of one sort, by ascending sender: the first element is that of CPU number k
abbrev pub from_senders : (CpuNo → Request) → ℕ → List Bool → List Request
from_senders sort k [] = []
from_senders sort k (b ∷ bs) = if b then sort (cpu_no k) ∷ from_senders sort (k + 1) bs else from_senders sort (k + 1) bs

abbrev pub from_call : Option CpuNo → List Request
from_call None = []
from_call (Some c) = ExternalCall c ∷ []

-- the clock comparator's while the clock is greater, the timer's while its leftmost bit is one
abbrev pub from_clocks : List ℕ → ℕ → List Request
from_clocks words clock =
    (if passes_comparator words clock then Comparator ∷ [] else []) ++ (if is_timer_negative words clock then Timer ∷ [] else [])

unfoldable pub requests : List ℕ → ℕ → Signals → List Request
requests words clock s =
    (if s.key then Key ∷ [] else []) ++ (from_senders Malfunction 0 s.malfunction ++
    (from_senders Emergency 0 s.emergency ++ (from_call s.external_call ++ from_clocks words clock)))

-- the request that is taken: the first that its bit of control register 0 enables, none where PSW bit 7 is zero
unfoldable pub enabled : Registers → ℕ → Signals → Option Request
enabled r clock s =
    if is_open r.psw then find (λ q. masked (slice_index r.control 0) (mask_bit q)) (requests r.clocks clock s) else None

-- ---- the event

abbrev pub taken_or : Option Request → Due → Due
taken_or None otherwise = otherwise
taken_or (Some q) otherwise = External q

abbrev pub due_in : CpuState → Registers → ℕ → Signals → Due
due_in CheckStop r clock s = Idle
due_in Stopped r clock s = if s.restart then Restart else Idle
due_in Operating r clock s =
    if is_early r.psw then Early else
    taken_or (enabled r clock s) (if s.restart then Restart else if is_waiting r.psw then Idle else UnitOfOperation)

-- the event that is due at a CPU with these registers and signals, at this clock
unfoldable pub due : Registers → ℕ → Signals → Due
due r clock s = due_in s.state r clock s
