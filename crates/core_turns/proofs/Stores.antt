-- What the silicon stores after a turn of a CPU is what the fate of the turn says.
use Rattle.std.proofs.Common.{◌≡◌, ◌≢◌, ℕ, Bool, true, false, List, [], Option, Some, None, refl, sym, ap, ◌∙◌, subst, if◌then◌else◌}
use Rattle.std.specs.Prelude.{nat_lt}
use Rattle.std.proofs.lemmas.Bool.{true≢false}
use Rattle.esa_model.specs.Machine.{Machine, at, idle, next}
use Rattle.esa_model.specs.declared.machine.Registers.{Registers}
use Rattle.run_model.specs.declared.faults.Cause.{Cause}
use Rattle.run_model.specs.declared.faults.Mode.{Mode}
use Rattle.run_model.specs.declared.faults.Mode.TheVariants.{Running, Recovering, Lost}
use Rattle.run_model.specs.declared.logs.What.{What}
use Rattle.run_model.specs.Cores.{Cores, Did, is_lost, lowest, idles, attempt_by, scrub_by, recover_by, spare_by, transfer_by, by_mode, runs}
use Rattle.run_model.specs.Fate.{Bits, Fate, bits, bits_by, recover_bits, run_bits, sight}
use Rattle.run_model.specs.Reading.{Reading}
use Rattle.run_model.specs.Strikes.{cause}
use Rattle.run_laws.proofs.At.{at_same}
use Rattle.run_laws.proofs.Standing.{lowest_is}
use Rattle.silicon.specs.Chip.{Chip, Stays}
use Rattle.core_states.specs.Words.{is_due, read_core, scrub_reading, Fills}
use Rattle.core_states.specs.Read.{registers_read}
use Rattle.checkpoint_laws.specs.Stored.{StoredAs}
use Rattle.checkpoint_laws.specs.Turn.{AfterTurn, BeforeTurn}
use Rattle.checkpoint_laws.proofs.Exits.{others_after, waiting_after, lost_after, failed_after, stepped_after, recovered_after, handed_after, unhanded_after, unspared_after}
use Rattle.checkpoint_laws.proofs.Kept.{stays}
use Rattle.core_turns.specs.ChipAfter.{AttemptedChip, ChipByMode, DueChip, HandedChip, RecoveredChip, RunningChip, ScrubbedChip, TransferredChip}
use Rattle.core_turns.specs.Meeting.{met_on_chip}
use Rattle.core_turns.specs.Following.{Leaves, registers_then}

-- the same where the CPU is not lost before
record LeavesLive (z z2 : Chip) (s : Fate) (b : Bits) (d : Did) (i : ℕ) (r : Registers) : Type 0 where
  begun : (k : ℕ) → z.begun k ≡ s.begun k → z2.begun k ≡ b.begun k
  own : is_lost (d.after.mode i) ≡ false
      → StoredAs z2 (d.after.core i) r (b.wrong (d.after.core i))
  others : (k : ℕ) (q : Registers) → k ≢ s.cores.core i → s.cores.spare k ≡ false
      → StoredAs z k q (s.wrong k) → StoredAs z2 k q (b.wrong k)

of_live : (z z2 : Chip) (s : Fate) (b : Bits) (d : Did) (i : ℕ) (r : Registers)
    → is_lost (s.cores.mode i) ≡ false → LeavesLive z z2 s b d i r → Leaves z z2 s b d i r
of_live z z2 s b d i r live h = record {
  begun = h.begun;
  own = h.own;
  others = λ k q ne free there. h.others k q (ne live) free there;
}

-- ---- from what a core stores after the turn

-- a core that is not the CPU's and no spare is not the one that was changed
abbrev Elsewhere : Fate → ℕ → ℕ → Type 0
Elsewhere s i c = (k : ℕ) → k ≢ s.cores.core i → s.cores.spare k ≡ false → k ≢ c

leaves_by : (z z2 : Chip) (s : Fate) (b : Bits) (d : Did) (i c : ℕ) (r q : Registers)
    → AfterTurn z z2 s b c q → Elsewhere s i c
    → (is_lost (d.after.mode i) ≡ false → (d.after.core i ≡ c) × (r ≡ q))
    → LeavesLive z z2 s b d i r
leaves_by z z2 s b d i c r q h away own = record {
  begun = h.begun;
  own = λ live.
      subst (λ k. StoredAs z2 k r (b.wrong k)) (sym (own live).0)
      (subst (λ x. StoredAs z2 c x (b.wrong c)) (sym (own live).1) h.stored);
  others = λ k p ne free there. others_after z z2 s b c k q p h (away k ne free) there;
}

own_elsewhere : (s : Fate) (i : ℕ) → Elsewhere s i (s.cores.core i)
own_elsewhere s i k ne free = ne

spare_elsewhere : (s : Fate) (i c : ℕ) → lowest s.cores.spare 0 16 ≡ Some c → Elsewhere s i c
spare_elsewhere s i c is k ne free e =
    true≢false (sym (lowest_is s.cores.spare 0 16 c is) ∙ (ap s.cores.spare (sym e) ∙ free))

-- a CPU that is lost then
gone : (P : Type 0) (s : Cores) (i : ℕ) → is_lost (at s.mode i Lost i) ≡ false → P
gone P s i live = absurd (true≢false (sym (ap is_lost (at_same s.mode i Lost)) ∙ live))

-- ---- running

not_due : (z : Chip) (c : ℕ) → is_due z c ≡ false → (scrub_reading z c).lost ≡ None
unfolding scrub_reading
not_due z c is = rw is refl

due : (z : Chip) (c : ℕ) (lost : Option ℕ) → is_due z c ≡ true → (read_core z c).lost ≡ lost
    → (scrub_reading z c).lost ≡ lost
unfolding scrub_reading
due z c lost is reads = rw is reads

attempt_leaves : (m : Machine) (z z2 : Chip) (s : Fate) (i : ℕ) (r2 : Registers) (whats : List What)
    (n : ℕ) (why : Option Cause)
    → BeforeTurn z s (s.cores.core i) (m.registers i) → idle m i ≡ false
    → (scrub_reading z (s.cores.core i)).lost ≡ None
    → why ≡ cause z.lines (s.cores.core i) (z.begun (s.cores.core i))
    → ((attempt_by s.cores i whats n why).event ≡ (attempt_by s.cores i whats n None).event
    → r2 ≡ (next m i).registers i)
    → AttemptedChip (s.cores.core i) (m.registers i) r2 why z z2
    → LeavesLive z z2 s (run_bits z.lines (sight m i) s (s.cores.core i))
    (attempt_by s.cores i whats n why) i
    (registers_then m i (attempt_by s.cores i whats n why))
attempt_leaves m z z2 s i r2 whats n None h busy none is step chip =
    leaves_by z z2 s (run_bits z.lines (sight m i) s (s.cores.core i))
    (attempt_by s.cores i whats n None) i (s.cores.core i) ((next m i).registers i) r2
    (stepped_after z chip.begun z2 s m i (s.cores.core i) (m.registers i) r2 h busy none
    chip.attempts (sym is) chip.changes refl (step refl))
    (own_elsewhere s i) (λ live. (refl, sym (step refl)))
attempt_leaves m z z2 s i r2 whats n (Some why) h busy none is step chip =
    leaves_by z z2 s (run_bits z.lines (sight m i) s (s.cores.core i))
    (attempt_by s.cores i whats n (Some why)) i (s.cores.core i) (m.registers i) (m.registers i)
    (failed_after z z2 s (sight m i) (s.cores.core i) (m.registers i) why h busy none chip (sym is))
    (own_elsewhere s i) (λ live. (refl, refl))

scrub_leaves : (m : Machine) (z z2 : Chip) (s : Fate) (i : ℕ) (r2 : Registers) (w : Bool)
    (why : Option Cause) (o : Option ℕ)
    → BeforeTurn z s (s.cores.core i) (m.registers i) → idle m i ≡ false
    → is_due z (s.cores.core i) ≡ true → (read_core z (s.cores.core i)).lost ≡ o
    → why ≡ cause z.lines (s.cores.core i) (z.begun (s.cores.core i))
    → ((scrub_by s.cores i (met_on_chip z w (s.cores.core i) why) o).event
    ≡ (attempt_by s.cores i [] 0 None).event → r2 ≡ (next m i).registers i)
    → ScrubbedChip (s.cores.core i) (m.registers i) r2 why o z z2
    → LeavesLive z z2 s (run_bits z.lines (sight m i) s (s.cores.core i))
    (scrub_by s.cores i (met_on_chip z w (s.cores.core i) why) o) i
    (registers_then m i (scrub_by s.cores i (met_on_chip z w (s.cores.core i) why) o))
scrub_leaves m z z2 s i r2 w why None h busy reads none is step chip =
    attempt_leaves m z z2 s i r2 _ (z.begun (s.cores.core i)) why h busy
    (due z (s.cores.core i) None reads none) is step chip
scrub_leaves m z z2 s i r2 w why (Some k) h busy reads lost is step chip =
    leaves_by z z2 s (run_bits z.lines (sight m i) s (s.cores.core i))
    (scrub_by s.cores i (met_on_chip z w (s.cores.core i) why) (Some k)) i (s.cores.core i) _
    (m.registers i)
    (lost_after z z2 s (sight m i) (s.cores.core i) k (m.registers i) h busy
    (due z (s.cores.core i) (Some k) reads lost) chip)
    (own_elsewhere s i) (gone _ s.cores i)

due_leaves : (m : Machine) (z z2 : Chip) (s : Fate) (i : ℕ) (r2 : Registers) (w : Bool)
    (why : Option Cause) (b : Bool)
    → BeforeTurn z s (s.cores.core i) (m.registers i) → idle m i ≡ false
    → is_due z (s.cores.core i) ≡ b
    → why ≡ cause z.lines (s.cores.core i) (z.begun (s.cores.core i))
    → ((if b then scrub_by s.cores i (met_on_chip z w (s.cores.core i) why)
    (read_core z (s.cores.core i)).lost
    else attempt_by s.cores i [] (z.begun (s.cores.core i)) why).event
    ≡ (attempt_by s.cores i [] 0 None).event → r2 ≡ (next m i).registers i)
    → DueChip (s.cores.core i) (m.registers i) r2 why b z z2
    → LeavesLive z z2 s (run_bits z.lines (sight m i) s (s.cores.core i))
    (if b then scrub_by s.cores i (met_on_chip z w (s.cores.core i) why)
    (read_core z (s.cores.core i)).lost
    else attempt_by s.cores i [] (z.begun (s.cores.core i)) why) i
    (registers_then m i (if b then scrub_by s.cores i (met_on_chip z w (s.cores.core i) why)
    (read_core z (s.cores.core i)).lost
    else attempt_by s.cores i [] (z.begun (s.cores.core i)) why))
due_leaves m z z2 s i r2 w why true h busy is cause_is step chip =
    scrub_leaves m z z2 s i r2 w why (read_core z (s.cores.core i)).lost h busy is refl cause_is
    step chip
due_leaves m z z2 s i r2 w why false h busy is cause_is step chip =
    attempt_leaves m z z2 s i r2 [] (z.begun (s.cores.core i)) why h busy
    (not_due z (s.cores.core i) is) cause_is step chip

running_leaves : (m : Machine) (z z2 : Chip) (s : Fate) (i : ℕ) (r2 : Registers) (w : Bool)
    (why : Option Cause) → BeforeTurn z s (s.cores.core i) (m.registers i) → idle m i ≡ w
    → why ≡ cause z.lines (s.cores.core i) (z.begun (s.cores.core i))
    → ((runs s.cores i (met_on_chip z w (s.cores.core i) why)).event
    ≡ (attempt_by s.cores i [] 0 None).event → r2 ≡ (next m i).registers i)
    → RunningChip (s.cores.core i) (m.registers i) r2 why w z z2
    → LeavesLive z z2 s (run_bits z.lines (sight m i) s (s.cores.core i))
    (runs s.cores i (met_on_chip z w (s.cores.core i) why)) i
    (registers_then m i (runs s.cores i (met_on_chip z w (s.cores.core i) why)))
running_leaves m z z2 s i r2 true why h waits is step chip =
    leaves_by z z2 s (run_bits z.lines (sight m i) s (s.cores.core i)) (idles s.cores i) i
    (s.cores.core i) (m.registers i) (m.registers i)
    (waiting_after z z2 s (sight m i) (s.cores.core i) (m.registers i) h waits chip)
    (own_elsewhere s i) (λ live. (refl, refl))
running_leaves m z z2 s i r2 false why h waits is step chip =
    due_leaves m z z2 s i r2 false why (is_due z (s.cores.core i)) h waits refl is step chip

-- ---- recovering

retry_leaves : (m : Machine) (z z2 : Chip) (t : ℕ) (s : Fate) (i : ℕ) (r : Reading) (o : Option ℕ)
    → AfterTurn z z2 s (recover_bits t s i (s.cores.core i)) (s.cores.core i) (m.registers i)
    → LeavesLive z z2 s (recover_bits t s i (s.cores.core i)) (recover_by s.cores i r o) i
    (registers_then m i (recover_by s.cores i r o))
retry_leaves m z z2 t s i r None h =
    leaves_by z z2 s (recover_bits t s i (s.cores.core i)) (recover_by s.cores i r None) i
    (s.cores.core i) (m.registers i) (m.registers i) h (own_elsewhere s i) (λ live. (refl, refl))
retry_leaves m z z2 t s i r (Some w) h =
    leaves_by z z2 s (recover_bits t s i (s.cores.core i)) (recover_by s.cores i r (Some w)) i
    (s.cores.core i) _ (m.registers i) h (own_elsewhere s i) (gone _ s.cores i)

-- the spare gets the registers that the words of the core say
spare_leaves : (m : Machine) (z z2 : Chip) (t : ℕ) (s : Fate) (i k : ℕ) (r : Reading)
    (o : Option ℕ) → BeforeTurn z s (s.cores.core i) (m.registers i)
    → nat_lt (s.cores.retries i) t ≡ false → lowest s.cores.spare 0 16 ≡ Some k
    → (read_core z (s.cores.core i)).lost ≡ o
    → ((read_core z (s.cores.core i)).lost ≡ None
    → registers_read z (s.cores.core i) ≡ m.registers i)
    → HandedChip (s.cores.core i) k o z z2
    → LeavesLive z z2 s (recover_bits t s i (s.cores.core i)) (spare_by s.cores i k r o) i
    (registers_then m i (spare_by s.cores i k r o))
spare_leaves m z z2 t s i k r None h many spare none says chip =
    leaves_by z z2 s (recover_bits t s i (s.cores.core i)) (spare_by s.cores i k r None) i k
    (m.registers i) (m.registers i)
    (handed_after z z2 t s i (s.cores.core i) k (m.registers i) h many spare none
    (subst (λ x. Fills k x z z2) (says none) chip))
    (spare_elsewhere s i k spare) (λ live. (at_same s.cores.core i k, refl))
spare_leaves m z z2 t s i k r (Some w) h many spare lost says chip =
    leaves_by z z2 s (recover_bits t s i (s.cores.core i)) (spare_by s.cores i k r (Some w)) i
    (s.cores.core i) _ (m.registers i)
    (unhanded_after z z2 t s i (s.cores.core i) k w (m.registers i) h many spare lost chip)
    (own_elsewhere s i) (gone _ s.cores i)

transfer_leaves : (m : Machine) (z z2 : Chip) (t : ℕ) (s : Fate) (i : ℕ) (r : Reading)
    (o : Option ℕ) → BeforeTurn z s (s.cores.core i) (m.registers i)
    → nat_lt (s.cores.retries i) t ≡ false → lowest s.cores.spare 0 16 ≡ o
    → r ≡ read_core z (s.cores.core i)
    → ((read_core z (s.cores.core i)).lost ≡ None
    → registers_read z (s.cores.core i) ≡ m.registers i)
    → TransferredChip (s.cores.core i) o z z2
    → LeavesLive z z2 s (recover_bits t s i (s.cores.core i)) (transfer_by s.cores i r o) i
    (registers_then m i (transfer_by s.cores i r o))
transfer_leaves m z z2 t s i r None h many none is says chip =
    leaves_by z z2 s (recover_bits t s i (s.cores.core i)) (transfer_by s.cores i r None) i
    (s.cores.core i) _ (m.registers i)
    (unspared_after z z2 t s i (s.cores.core i) (m.registers i) h many none chip)
    (own_elsewhere s i) (gone _ s.cores i)
transfer_leaves m z z2 t s i r (Some k) h many spare is says chip =
    subst (λ (x : Reading). LeavesLive z z2 s (recover_bits t s i (s.cores.core i))
    (spare_by s.cores i k x x.lost) i (registers_then m i (spare_by s.cores i k x x.lost)))
    (sym is)
    (spare_leaves m z z2 t s i k (read_core z (s.cores.core i))
    (read_core z (s.cores.core i)).lost h many spare refl says chip)

recovering_leaves : (m : Machine) (z z2 : Chip) (t : ℕ) (s : Fate) (i : ℕ) (b : Bool)
    → BeforeTurn z s (s.cores.core i) (m.registers i) → nat_lt (s.cores.retries i) t ≡ b
    → ((read_core z (s.cores.core i)).lost ≡ None
    → registers_read z (s.cores.core i) ≡ m.registers i)
    → RecoveredChip (s.cores.core i) (lowest s.cores.spare 0 16) b z z2
    → LeavesLive z z2 s (recover_bits t s i (s.cores.core i))
    (if b then recover_by s.cores i (read_core z (s.cores.core i))
    (read_core z (s.cores.core i)).lost
    else transfer_by s.cores i (read_core z (s.cores.core i)) (lowest s.cores.spare 0 16)) i
    (registers_then m i (if b then recover_by s.cores i (read_core z (s.cores.core i))
    (read_core z (s.cores.core i)).lost
    else transfer_by s.cores i (read_core z (s.cores.core i)) (lowest s.cores.spare 0 16)))
recovering_leaves m z z2 t s i true h few says chip =
    retry_leaves m z z2 t s i (read_core z (s.cores.core i)) (read_core z (s.cores.core i)).lost
    (recovered_after z z2 t s i (s.cores.core i) (m.registers i)
    (read_core z (s.cores.core i)).lost h few refl chip)
recovering_leaves m z z2 t s i false h many says chip =
    transfer_leaves m z z2 t s i (read_core z (s.cores.core i)) (lowest s.cores.spare 0 16) h many
    refl refl says chip

-- ---- lost

lost_leaves : (m : Machine) (z z2 : Chip) (s : Fate) (i : ℕ) → s.cores.mode i ≡ Lost
    → Stays z z2 → Leaves z z2 s (bits s) (idles s.cores i) i (m.registers i)
lost_leaves m z z2 s i is same = record {
  begun = λ k was. same.begun k ∙ was;
  own = λ live. absurd (true≢false (sym (ap is_lost is) ∙ live));
  others = λ k q ne free there.
      stays z z2 k q (s.wrong k) (s.wrong k) there (λ w lt. same.word k w lt) (λ w lt. refl);
}

-- ---- a turn of a CPU in any mode

pub turn_leaves : (m : Machine) (z z2 : Chip) (t : ℕ) (s : Fate) (i : ℕ) (r2 : Registers)
    (w : Bool) (why : Option Cause) (mode : Mode) → s.cores.mode i ≡ mode
    → (is_lost (s.cores.mode i) ≡ false → BeforeTurn z s (s.cores.core i) (m.registers i))
    → idle m i ≡ w → why ≡ cause z.lines (s.cores.core i) (z.begun (s.cores.core i))
    → ((read_core z (s.cores.core i)).lost ≡ None → is_lost (s.cores.mode i) ≡ false
    → registers_read z (s.cores.core i) ≡ m.registers i)
    → ((by_mode t s.cores i (met_on_chip z w (s.cores.core i) why) mode).event
    ≡ (attempt_by s.cores i [] 0 None).event → r2 ≡ (next m i).registers i)
    → ChipByMode t s.cores i w why (m.registers i) r2 mode z z2
    → Leaves z z2 s (bits_by z.lines t (sight m i) s i mode)
    (by_mode t s.cores i (met_on_chip z w (s.cores.core i) why) mode) i
    (registers_then m i (by_mode t s.cores i (met_on_chip z w (s.cores.core i) why) mode))
turn_leaves m z z2 t s i r2 w why Lost is h waits cause_is says step chip =
    lost_leaves m z z2 s i is chip
turn_leaves m z z2 t s i r2 w why Recovering is h waits cause_is says step chip =
    let live : is_lost (s.cores.mode i) ≡ false = ap is_lost is in
    of_live z z2 s (recover_bits t s i (s.cores.core i)) _ i _ live
    (recovering_leaves m z z2 t s i (nat_lt (s.cores.retries i) t) (h live) refl
    (λ none. says none live) chip)
turn_leaves m z z2 t s i r2 w why Running is h waits cause_is says step chip =
    of_live z z2 s (run_bits z.lines (sight m i) s (s.cores.core i)) _ i _ (ap is_lost is)
    (running_leaves m z z2 s i r2 w why (h (ap is_lost is)) waits cause_is step chip)
