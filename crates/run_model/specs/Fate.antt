-- The fate of a turn: what it meets by the strikes of a script, and the wrong positions that it
-- leaves.
-- Source: choice of this project. Of storage and instructions fate knows only whether a CPU is
-- idle, and which checkpoint words its step changes.
use Rattle.std.specs.Prelude.{ℕ, ◌+◌, ◌%◌, List, [], Bool, true, false, Option, Some, None, ◌==◌, not, nat_lt, if◌then◌else◌, bit_xor}
use Rattle.esa_model.specs.Machine.{Machine, idle, next, at}
use Rattle.run_model.specs.declared.faults.Cause.{Cause}
use Rattle.run_model.specs.declared.faults.Mode.{Mode}
use Rattle.run_model.specs.declared.faults.Mode.TheVariants.{Running, Recovering, Lost}
use Rattle.run_model.specs.declared.faults.Strike.{Strike}
use Rattle.run_model.specs.declared.logs.Config.{Config}
use Rattle.run_model.specs.declared.schedules.RunKind.{RunKind}
use Rattle.run_model.specs.declared.schedules.RunKind.TheVariants.{Turns, Key, Return}
use Rattle.run_model.specs.Checkpoint.{word_of}
use Rattle.run_model.specs.Strikes.{cause, flips, SoundAt}
use Rattle.run_model.specs.Reading.{Reading, read_words, mended}
use Rattle.run_model.specs.Cores.{Cores, Met, Made, Outline, make, lowest, first_cores}

-- the cores, per core the attempts begun, and the wrong positions of its words
pub record Fate : Type 0 where
  pub cores : Cores
  pub begun : ℕ → ℕ
  pub wrong : ℕ → ℕ → ℕ

abbrev pub first_fate : Config → Fate
first_fate c = record { cores = first_cores c; begun = λ k. 0; wrong = λ k w. 0 }

-- what fate sees of the machine at a turn of a CPU
pub record Sight : Type 0 where
  pub waits : Bool
  pub changes : ℕ → Bool  -- whether its step changes the value of this checkpoint word

abbrev pub sight : Machine → ℕ → Sight
sight m i = record {
  waits = idle m i;
  changes = λ w. not (word_of ((next m i).registers i) w == word_of (m.registers i) w);
}

-- the reading of a core
abbrev pub read : Fate → ℕ → Reading
read s c = read_words (s.wrong c)

-- ---- what a turn of CPU i meets

abbrev pub met_on : List Strike → Bool → Fate → ℕ → Met
met_on ls waits s c = record {
  waits = waits;
  scrubs = s.begun c % 16 == 0;
  reading = read s c;
  attempt = s.begun c;
  cause = cause ls c (s.begun c);
}

unfoldable pub met : List Strike → Sight → Fate → ℕ → Met
met ls g s i = met_on ls g.waits s (s.cores.core i)

-- ---- the attempts begun and the wrong positions after it

pub record Bits : Type 0 where
  pub begun : ℕ → ℕ
  pub wrong : ℕ → ℕ → ℕ

abbrev pub bits : Fate → Bits
bits s = record { begun = s.begun; wrong = s.wrong }

-- core c was read, up to the lost word if there is one
abbrev pub mend : Fate → ℕ → Option ℕ → Bits
mend s c lost = record { begun = s.begun; wrong = at s.wrong c (mended (s.wrong c) lost) }

-- attempt n of core c begins: the strikes on its words land
abbrev pub strike : List Strike → ℕ → ℕ → Bits → Bits
strike ls c n b = record {
  begun = at b.begun c (n + 1);
  wrong = at b.wrong c (λ w. bit_xor (b.wrong c w) (flips ls c n w));
}

-- it commits: the words whose value the step changes are written; it fails: nothing is
abbrev pub written : Sight → ℕ → Option Cause → Bits → Bits
written g c None b = record {
  begun = b.begun;
  wrong = at b.wrong c (λ w. if g.changes w then 0 else b.wrong c w);
}
written g c (Some why) b = b

abbrev pub attempted : List Strike → Sight → ℕ → ℕ → Bits → Bits
attempted ls g c n b = written g c (cause ls c n) (strike ls c n b)

abbrev pub scrub_bits : List Strike → Sight → Fate → ℕ → Option ℕ → Bits
scrub_bits ls g s c (Some w) = mend s c (Some w)
scrub_bits ls g s c None = attempted ls g c (s.begun c) (mend s c None)

abbrev pub run_bits : List Strike → Sight → Fate → ℕ → Bits
run_bits ls g s c =
    if g.waits then bits s
    else (if s.begun c % 16 == 0 then scrub_bits ls g s c (read s c).lost
    else attempted ls g c (s.begun c) (bits s))

-- all words of spare k are written, where the words of the core before are read well
abbrev pub spare_bits : Fate → ℕ → Option ℕ → Bits
spare_bits s k None = record { begun = s.begun; wrong = at s.wrong k (λ w. 0) }
spare_bits s k (Some w) = bits s

abbrev pub transfer_bits : Fate → ℕ → Option ℕ → Bits
transfer_bits s c None = bits s
transfer_bits s c (Some k) = spare_bits s k (read s c).lost

abbrev pub recover_bits : ℕ → Fate → ℕ → ℕ → Bits
recover_bits threshold s i c =
    if nat_lt (s.cores.retries i) threshold then mend s c (read s c).lost
    else transfer_bits s c (lowest s.cores.spare 0 16)

abbrev pub bits_by : List Strike → ℕ → Sight → Fate → ℕ → Mode → Bits
bits_by ls threshold g s i Lost = bits s
bits_by ls threshold g s i Recovering = recover_bits threshold s i (s.cores.core i)
bits_by ls threshold g s i Running = run_bits ls g s (s.cores.core i)

-- ---- the fate of a turn of any kind

-- of a key or return turn nothing is met
abbrev pub nothing_met : Met
nothing_met = record {
  waits = true;
  scrubs = false;
  reading = record { notes = []; lost = None };
  attempt = 0;
  cause = None;
}

abbrev pub met_by : List Strike → (ℕ → Sight) → Fate → RunKind → Met
met_by ls g s (Turns i) = met ls (g i.0) s i.0
met_by ls g s (Key i) = nothing_met
met_by ls g s (Return k) = nothing_met

abbrev pub bits_of : List Strike → ℕ → (ℕ → Sight) → Fate → RunKind → Bits
bits_of ls threshold g s (Turns i) = bits_by ls threshold (g i.0) s i.0 (s.cores.mode i.0)
bits_of ls threshold g s (Key i) = bits s
bits_of ls threshold g s (Return k) = bits s

abbrev pub fate_of : Made → Bits → Fate
fate_of d b = record { cores = d.after; begun = b.begun; wrong = b.wrong }

-- what the turn makes of the cores
abbrev pub makes : List Strike → Config → (ℕ → Sight) → Fate → RunKind → Made
makes ls c g s k = make c s.cores k (met_by ls g s k)

pub record Fated : Type 0 where
  pub outline : Outline
  pub after : Fate

-- its entries and event, and the state after it; g is what is seen of the machine at each CPU
abbrev pub fate : List Strike → Config → (ℕ → Sight) → Fate → RunKind → Fated
fate ls c g s k = record {
  outline = (makes ls c g s k).outline;
  after = fate_of (makes ls c g s k) (bits_of ls c.threshold g s k);
}

-- the premise at every attempt that was begun
abbrev pub Sound : List Strike → Fate → Type 0
Sound ls s = SoundAt ls s.begun
