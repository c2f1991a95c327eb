-- How the 40 checkpoint words of a core read, by the positions that are wrong in each.
-- Source: choice of this project; one wrong position is corrected, as R. W. Hamming's code with an
-- overall parity does. The wrong positions of a word are one number, in which position p has the
-- weight 2^p.
use Rattle.std.specs.Prelude.{ℕ, zero, suc, ◌+◌, ◌-◌, ◌<◌, ◌≤◌, ◌≡◌, Bool, true, false, ◌==◌, ◌&&◌, nat_lt, if◌then◌else◌, List, [], ◌∷◌, ◌++◌, Option, Some, None}
use Rattle.run_model.specs.declared.faults.Note.{Note}
use Rattle.run_model.specs.declared.faults.Strike.{Strike}
use Rattle.run_model.specs.declared.readings.Read.{Read}
use Rattle.run_model.specs.declared.readings.Read.TheVariants.{Clean, Corrected, Uncorrectable}
use Rattle.run_model.specs.declared.readings.Mark.{Mark}
use Rattle.run_model.specs.declared.readings.Mark.TheVariants.{Plain, Fixed, Bad}
use Rattle.run_model.specs.Checkpoint.{width, checks}
use Rattle.run_model.specs.Code.{ones, highest, read_of, encoded}
use Rattle.run_model.specs.Strikes.{struck}

-- ---- one word

-- how word w reads with these wrong positions
unfoldable pub mark : ℕ → ℕ → Mark
mark w e =
    if ones (width w) e == 0 then Plain
    else (if ones (width w) e == 1 then Fixed (highest (width w) e) else Bad)

-- the stored form of word w
unfoldable pub code : ℕ → ℕ → ℕ
code w v = encoded (width w) (checks w) v

-- how a stored word reads, and its value
abbrev pub mark_by : Read → Mark
mark_by (Clean v) = Plain
mark_by (Corrected v p) = Fixed p
mark_by Uncorrectable = Bad

abbrev pub value_by : Read → ℕ
value_by (Clean v) = v
value_by (Corrected v p) = v
value_by Uncorrectable = 0

unfoldable pub mark_of : ℕ → ℕ → Mark
mark_of w stored = mark_by (read_of (width w) (checks w) stored)

unfoldable pub value : ℕ → ℕ → ℕ
value w stored = value_by (read_of (width w) (checks w) stored)

-- ---- the words of a core in their order, up to the first that is lost

pub record Reading : Type 0 where
  pub notes : List Note  -- the words that were corrected
  pub lost : Option ℕ

abbrev pub on_mark : Mark → List Note → ℕ → (List Note → Reading) → Reading
on_mark Plain notes w rest = rest notes
on_mark (Fixed p) notes w rest = rest (notes ++ record { word = w; bit = p } ∷ [])
on_mark Bad notes w rest = record { notes = notes; lost = Some w }

-- so many words from number w on, after those whose notes are given
unfoldable pub reading : (ℕ → Mark) → List Note → ℕ → ℕ → Reading
reading marks notes w zero = record { notes = notes; lost = None }
reading marks notes w (suc n) = on_mark (marks w) notes w (λ more. reading marks more (w + 1) n)

-- all words of a core with these wrong positions
abbrev pub read_words : (ℕ → ℕ) → Reading
read_words wrong = reading (λ w. mark w (wrong w)) [] 0 40

-- ---- what a reading writes back

abbrev pub is_fixed : Mark → Bool
is_fixed Plain = false
is_fixed (Fixed p) = true
is_fixed Bad = false

abbrev pub is_before : ℕ → Option ℕ → Bool
is_before w None = true
is_before w (Some k) = nat_lt w k

-- the wrong positions after it: a word that was corrected has none
abbrev pub mended : (ℕ → ℕ) → Option ℕ → ℕ → ℕ
mended wrong lost w = if is_fixed (mark w (wrong w)) && is_before w lost then 0 else wrong w

-- ---- the bound on wrong positions

-- A core that has begun no attempt has none. Of any other core those of a word are at most as many
-- as the lines that struck it in the block of the core's last begun attempt.
pub record BoundAt (ls : List Strike) (c n : ℕ) (wrong : ℕ → ℕ) : Type 0 where
  pub fresh : n ≡ 0 → (w : ℕ) → w < 40 → wrong w ≡ 0
  pub few : 0 < n → (w : ℕ) → w < 40 → ones (width w) (wrong w) ≤ struck ls c (n - 1) w
