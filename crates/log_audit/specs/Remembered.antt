-- What one pass over the entries of a log remembers of those so far, and how it judges the next by
-- that. Source: choice of this project.
use Rattle.std.specs.Prelude.{ℕ, ◌+◌, ◌-◌, Bool, true, false, ◌==◌, ◌&&◌, ◌||◌, not, nat_lt, nat_le, if◌then◌else◌, List, [], ◌∷◌, Option, None}
use Rattle.run_model.specs.Cores.{is_spare_number}
use Rattle.run_model.specs.Sorts.{is_corrected, is_fail, is_fence, is_reason, is_returned, is_stop, is_uncorrectable}
use Rattle.run_model.specs.Lawful.{after_fence_by, allows, bit, core_by, fence_by, is_none, is_some_of}
use Rattle.run_model.specs.declared.logs.Config.{Config}
use Rattle.run_model.specs.declared.logs.Entry.{Entry}
use Rattle.run_model.specs.declared.logs.What.{What}
use Rattle.run_model.specs.declared.logs.What.TheVariants.{Retry, Fenced, Spared, NoSpare, Stop, Returned}
use Rattle.log_audit.specs.declared.memory.KnownCpu.{KnownCpu}
use Rattle.log_audit.specs.declared.memory.LastTurn.{LastTurn}
use Rattle.log_audit.specs.Points.{Points}

-- ---- of a CPU

abbrev pub retry_number : What → ℕ
retry_number (Retry r) = r
retry_number w = 0

-- how far the retries go back without a gap to the first, up to an entry, by what stands before it
abbrev pub chain_by : What → Bool → ℕ → ℕ
chain_by (Retry r) failed chain = if failed && ((r == 1) || (chain + 1 == r)) then r else 0
chain_by w failed chain = 0

abbrev pub learn : What → ℕ → KnownCpu → KnownCpu
learn w turn k = if is_corrected w then k else record {
  stopped = is_stop w || k.stopped;
  fenced = fence_by w turn k.fenced;
  core = core_by w k.core;
  failed = is_fail w;
  retry = retry_number w;
  retry_before = k.retry;
  chain = chain_by w k.failed k.chain_before;
  chain_before = k.chain;
}

abbrev pub unknown : ℕ → KnownCpu
unknown i = record {
  stopped = false;
  fenced = None;
  core = i;
  failed = false;
  retry = 0;
  retry_before = 0;
  chain = 0;
  chain_before = 0;
}

unfoldable pub known : ℕ → List Entry → KnownCpu
known i [] = unknown i
known i (e ∷ past) = if e.cpu.0 == i then learn e.what e.turn (known i past) else known i past

-- ---- of the last entry's turn

abbrev pub recall : Entry → LastTurn → LastTurn
recall e r = record {
  turn = e.turn;
  cpu = e.cpu.0;
  returned = is_returned e.what;
  uncorrectable = is_uncorrectable e.what || ((r.turn == e.turn) && r.uncorrectable);
  reason = is_reason e.what || ((r.turn == e.turn) && r.reason);
  fenced = is_fence e.what || ((r.turn == e.turn) && r.fenced);
  just_fenced = after_fence_by e.what true ((r.turn == e.turn) && r.just_fenced);
}

abbrev pub no_turn : LastTurn
no_turn = record {
  turn = 0;
  cpu = 0;
  returned = false;
  uncorrectable = false;
  reason = false;
  fenced = false;
  just_fenced = false;
}

unfoldable pub recent : List Entry → LastTurn
recent [] = no_turn
recent (e ∷ past) = recall e (recent past)

-- ---- the points by these

abbrev pub turn_by : ℕ → LastTurn → Entry → Bool
turn_by last r e =
    nat_le 1 e.turn
    && (nat_le e.turn last
    && (nat_lt r.turn e.turn
    || ((r.turn == e.turn)
    && ((r.cpu == e.cpu.0) && (not r.returned && not (is_returned e.what))))))

abbrev pub core_known : Config → KnownCpu → Entry → Bool
core_known c k e =
    is_returned e.what
    || (nat_lt e.cpu.0 c.cpus
    && (not k.stopped && (allows e.turn k.fenced && (k.core == e.core.0))))

-- it may be retried by this number
abbrev pub failed_to : ℕ → KnownCpu → Bool
failed_to r k = k.failed && ((r == 1) || (k.retry_before == r - 1))

-- it was retried so often, and in vain
abbrev pub failed_all : ℕ → KnownCpu → Bool
failed_all threshold k = k.failed && ((threshold == 0) || (k.chain_before == threshold))

abbrev pub retry_by : Config → KnownCpu → What → Bool
retry_by c k (Retry r) = nat_le 1 r && (nat_le r c.threshold && failed_to r k)
retry_by c k w = true

abbrev pub now_and : LastTurn → ℕ → Bool → Bool
now_and r turn b = (r.turn == turn) && b

abbrev pub fenced_by : Config → KnownCpu → LastTurn → ℕ → What → Bool
fenced_by c k r turn Fenced =
    is_none k.fenced && (now_and r turn r.uncorrectable || failed_all c.threshold k)
fenced_by c k r turn w = true

-- by the lowest core on hand
abbrev pub spared_by : LastTurn → ℕ → Option ℕ → What → Bool
spared_by r turn lowest (Spared k) = now_and r turn r.just_fenced && is_some_of k.0 lowest
spared_by r turn lowest NoSpare = now_and r turn r.just_fenced && is_none lowest
spared_by r turn lowest w = true

abbrev pub stop_by : LastTurn → ℕ → What → Bool
stop_by r turn Stop = now_and r turn r.reason && now_and r turn r.fenced
stop_by r turn w = true

-- whether the core is fenced more often than returned
abbrev pub returned_by : Bool → What → Bool
returned_by fenced Returned = fenced
returned_by fenced w = true

abbrev pub points_by : Config → ℕ → KnownCpu → LastTurn → Option ℕ → Bool → Entry → Points
points_by c last k r lowest fenced e = record {
  turn = turn_by last r e;
  core = core_known c k e;
  retry = retry_by c k e.what;
  fenced = fenced_by c k r e.turn e.what;
  spared = spared_by r e.turn lowest e.what;
  stop = stop_by r e.turn e.what;
  returned = returned_by fenced e.what;
}

-- ---- of cores

-- a core is on hand by how often it was taken and returned
abbrev pub hand : Config → (ℕ → ℕ) → (ℕ → ℕ) → ℕ → Bool
hand c gone back k = nat_lt (gone k) (back k + bit (is_spare_number c k))
