-- When a list of log entries is lawful: each entry meets seven points, in terms of the entries
-- before it, which are given latest first. Source: choice of this project.
use Rattle.std.specs.Prelude.{⊤, ◌≡◌, ◌≢◌, ℕ, zero, suc, ◌+◌, ◌-◌, ◌<◌, List, [], ◌∷◌, Bool, true, false, Option, Some, None, ◌==◌, ◌&&◌, ◌||◌, not, nat_lt, nat_le, if◌then◌else◌, refl}
use Rattle.std.specs.List.{list_any}
use Rattle.run_model.specs.declared.logs.Config.{Config}
use Rattle.run_model.specs.declared.logs.Entry.{Entry}
use Rattle.run_model.specs.declared.logs.What.{What}
use Rattle.run_model.specs.declared.logs.What.TheVariants as what
use Rattle.run_model.specs.Sorts.{is_fail, is_retry_of, is_uncorrectable, is_fence, is_spared_to, is_reason, is_returned, is_stop, is_returned_entry, of_cpu, how_many}
use Rattle.run_model.specs.declared.faults.Cause.TheVariants.{Fetch}
use Rattle.run_model.specs.Cores.{is_spare_number, lowest, entry}

-- ---- what the earlier entries say of a CPU

abbrev pub has_stop : ℕ → List Entry → Bool
has_stop i past = list_any (of_cpu i is_stop) past

-- the turn of its FENCED since its last SPARED
abbrev pub fence_by : What → ℕ → Option ℕ → Option ℕ
fence_by what.Fenced turn before = Some turn
fence_by (what.Spared k) turn before = None
fence_by w turn before = before

abbrev pub fence : ℕ → List Entry → Option ℕ
fence i [] = None
fence i (e ∷ es) = if e.cpu.0 == i then fence_by e.what e.turn (fence i es) else fence i es

-- its core: that of its last SPARED, or its own number
abbrev pub core_by : What → ℕ → ℕ
core_by (what.Spared k) before = k.0
core_by w before = before

abbrev pub core_at : ℕ → List Entry → ℕ
core_at i [] = i
core_at i (e ∷ es) = if e.cpu.0 == i then core_by e.what (core_at i es) else core_at i es

-- its entries other than CORRECTED
abbrev pub mine_by : What → List What → List What
mine_by (what.Corrected word bit) ws = ws
mine_by w ws = w ∷ ws

abbrev pub mine : ℕ → List Entry → List What
mine i [] = []
mine i (e ∷ es) = if e.cpu.0 == i then mine_by e.what (mine i es) else mine i es

-- the last of these are FAIL, RETRY 1, FAIL and so on to RETRY n
abbrev pub retried : ℕ → List What → Bool
retried zero ws = true
retried (suc n) [] = false
retried (suc n) (w ∷ []) = false
retried (suc n) (w ∷ v ∷ ws) = is_retry_of (suc n) w && (is_fail v && retried n ws)

-- and then a further FAIL
abbrev pub retried_in_vain : ℕ → List What → Bool
retried_in_vain n [] = false
retried_in_vain n (w ∷ ws) = is_fail w && retried n ws

abbrev pub head_is : (What → Bool) → List What → Bool
head_is sort [] = false
head_is sort (w ∷ ws) = sort w

-- the last of these is FAIL, and where r is above 1 the one before it RETRY r - 1
abbrev pub may_retry : ℕ → List What → Bool
may_retry r [] = false
may_retry r (w ∷ ws) = is_fail w && ((r == 1) || head_is (is_retry_of (r - 1)) ws)

-- ---- what they say of a turn

abbrev pub in_turn : ℕ → (What → Bool) → List Entry → Bool
in_turn turn sort past = list_any (λ (e : Entry). (e.turn == turn) && sort e.what) past

-- the last other than CORRECTED is a FENCED of that turn
abbrev pub after_fence_by : What → Bool → Bool → Bool
after_fence_by (what.Corrected word bit) now before = before
after_fence_by what.Fenced now before = now
after_fence_by w now before = false

abbrev pub after_fence : ℕ → List Entry → Bool
after_fence turn [] = false
after_fence turn (e ∷ es) = after_fence_by e.what (e.turn == turn) (after_fence turn es)

-- ---- what they say of a core

abbrev pub back : ℕ → List Entry → ℕ
back k past = how_many (λ (e : Entry). (e.core.0 == k) && is_returned e.what) past

abbrev pub gone : ℕ → List Entry → ℕ
gone k past = how_many (λ (e : Entry). is_spared_to k e.what) past

abbrev pub fences : ℕ → List Entry → ℕ
fences k past = how_many (λ (e : Entry). (e.core.0 == k) && is_fence e.what) past

abbrev pub bit : Bool → ℕ
bit b = if b then 1 else 0

-- it is a spare by number or was returned, and was not taken since
abbrev pub on_hand : Config → List Entry → ℕ → Bool
on_hand c past k = nat_lt (gone k past) (back k past + bit (is_spare_number c k))

-- ---- the points

-- 1: the turn is one of the log's, and not below the one before; two entries of a turn name one
-- CPU, and no return
abbrev pub follows : List Entry → Entry → Bool
follows [] e = true
follows (p ∷ ps) e =
    nat_lt p.turn e.turn
    || ((p.turn == e.turn)
    && ((p.cpu.0 == e.cpu.0) && (not (is_returned p.what) && not (is_returned e.what))))

abbrev pub turn_ok : ℕ → List Entry → Entry → Bool
turn_ok last past e = nat_le 1 e.turn && (nat_le e.turn last && follows past e)

-- 2: the CPU is the machine's and has no STOP; if it has a FENCED, the entry is of that turn; the
-- core is its own
abbrev pub allows : ℕ → Option ℕ → Bool
allows turn None = true
allows turn (Some fenced) = fenced == turn

abbrev pub core_ok : Config → List Entry → Entry → Bool
core_ok c past e =
    is_returned e.what
    || (nat_lt e.cpu.0 c.cpus
    && (not (has_stop e.cpu.0 past)
    && (allows e.turn (fence e.cpu.0 past) && (core_at e.cpu.0 past == e.core.0))))

-- 3: a RETRY has a number from 1 to the threshold, and comes after its FAIL
abbrev pub retry_ok : Config → List Entry → ℕ → What → Bool
retry_ok c past i (what.Retry r) = nat_le 1 r && (nat_le r c.threshold && may_retry r (mine i past))
retry_ok c past i w = true

-- 4: a FENCED is the first since the last SPARED, and comes after an UNCORRECTABLE of its turn or a
-- FAIL past the threshold
abbrev pub is_none : Option ℕ → Bool
is_none None = true
is_none (Some k) = false

abbrev pub fenced_ok : Config → List Entry → ℕ → ℕ → What → Bool
fenced_ok c past turn i what.Fenced =
    is_none (fence i past)
    && (in_turn turn is_uncorrectable past || retried_in_vain c.threshold (mine i past))
fenced_ok c past turn i w = true

-- 5: SPARED and NOSPARE come after a FENCED of their turn; the core is the lowest on hand, or none
-- is
abbrev pub is_some_of : ℕ → Option ℕ → Bool
is_some_of k None = false
is_some_of k (Some j) = j == k

abbrev pub spared_ok : Config → List Entry → ℕ → What → Bool
spared_ok c past turn (what.Spared k) =
    after_fence turn past && is_some_of k.0 (lowest (on_hand c past) 0 16)
spared_ok c past turn what.NoSpare = after_fence turn past && is_none (lowest (on_hand c past) 0 16)
spared_ok c past turn w = true

-- 6: a STOP comes after an UNCORRECTABLE or a NOSPARE of its turn, and a FENCED of it
abbrev pub stop_ok : List Entry → ℕ → What → Bool
stop_ok past turn what.Stop = in_turn turn is_reason past && in_turn turn is_fence past
stop_ok past turn w = true

-- 7: a returned core was fenced more often than it was returned
abbrev pub returned_ok : List Entry → ℕ → What → Bool
returned_ok past k what.Returned = nat_lt (back k past) (fences k past)
returned_ok past k w = true

-- an entry of a log of so many turns meets all points
pub record Meets (c : Config) (last : ℕ) (past : List Entry) (e : Entry) : Type 0 where
  pub turn : turn_ok last past e ≡ true
  pub core : core_ok c past e ≡ true
  pub retry : retry_ok c past e.cpu.0 e.what ≡ true
  pub fenced : fenced_ok c past e.turn e.cpu.0 e.what ≡ true
  pub spared : spared_ok c past e.turn e.what ≡ true
  pub stop : stop_ok past e.turn e.what ≡ true
  pub returned : returned_ok past e.core.0 e.what ≡ true

-- these entries do, each after those before it
abbrev pub AllMeet : Config → ℕ → List Entry → List Entry → Type 0
AllMeet c last past [] = ⊤
AllMeet c last past (e ∷ es) = Meets c last past e × AllMeet c last (e ∷ past) es

-- the entries of a log under this head, with the numbers of its tail
pub record Lawful (c : Config) (turns returned : ℕ) (es : List Entry) : Type 0 where
  pub all : AllMeet c turns [] es
  pub tail : how_many is_returned_entry es ≡ returned

-- ---- where the cores are after these entries

-- A core is with a CPU where point 2 gives it for a CPU that has no FENCED since its last SPARED.
-- No core is with two CPUs, and none is both with a CPU and on hand.
pub record OnePlace (c : Config) (past : List Entry) : Type 0 where
  pub apart : (i j : ℕ) → i < c.cpus → j < c.cpus → i ≢ j
      → fence i past ≡ None → fence j past ≡ None → core_at i past ≢ core_at j past
  pub free : (i : ℕ) → i < c.cpus → fence i past ≡ None → on_hand c past (core_at i past) ≡ false

-- ---- worked values: one CPU, no spare and a threshold of zero

abbrev no_retries : Config
no_retries = record { cpus = 1; spares = 0; pages = 32; threshold = 0 }

pub retry_past_threshold :
    retry_ok no_retries (entry 1 0 0 (what.Fail Fetch 0) ∷ []) 0 (what.Retry 1) ≡ false
retry_past_threshold = refl

abbrev given_up : List Entry
given_up = entry 2 0 0 what.Fenced ∷ entry 1 0 0 (what.Fail Fetch 0) ∷ []

pub fenced_past_threshold :
    fenced_ok no_retries (entry 1 0 0 (what.Fail Fetch 0) ∷ []) 2 0 what.Fenced ≡ true
fenced_past_threshold = refl

pub none_on_hand : spared_ok no_retries given_up 2 what.NoSpare ≡ true
none_on_hand = refl

pub stop_without_reason : stop_ok given_up 2 what.Stop ≡ false
stop_without_reason = refl

pub after_its_fence : core_ok no_retries given_up (entry 3 0 0 (what.Fail Fetch 1)) ≡ false
after_its_fence = refl

pub returned_once : returned_ok given_up 0 what.Returned ≡ true
returned_once = refl
