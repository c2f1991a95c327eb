-- A run without strikes: nothing is wrong, and each turn commits or is idle.
use Rattle.std.proofs.Common.{◌≡◌, ◌⊎◌, ℕ, zero, suc, ◌+◌, Bool, true, false, List, [], ◌∷◌, ◌++◌, Option, Some, None, refl, sym, ap, ◌∙◌, subst, arith, if◌then◌else◌, inl, inr}
use Rattle.std.specs.Prelude.{◌==◌, ◌%◌, ◌&&◌, bit_xor}
use Rattle.std.specs.List.{list_any}
use Rattle.std.proofs.lemmas.Bool.{false≢true, true≢false}
use Rattle.run_model.specs.declared.readings.Mark.{Mark}
use Rattle.run_model.specs.declared.readings.Mark.TheVariants.{Plain}
use Rattle.run_model.specs.declared.faults.Mode.{Mode}
use Rattle.run_model.specs.declared.faults.Mode.TheVariants.{Running, Recovering}
use Rattle.run_model.specs.declared.faults.Cause.{Cause}
use Rattle.run_model.specs.declared.schedules.RunKind.TheVariants as kind
use Rattle.run_model.specs.declared.faults.Note.{Note}
use Rattle.run_model.specs.declared.logs.What.{What}
use Rattle.run_model.specs.declared.logs.What.TheVariants as what
use Rattle.esa_model.specs.declared.machine.CpuNo.{CpuNo}
use Rattle.esa_model.specs.declared.machine.Event.{Event}
use Rattle.esa_model.specs.declared.machine.Event.TheVariants as event
use Rattle.run_model.specs.declared.logs.Config.{Config}
use Rattle.esa_model.specs.Machine.{idle}
use Rattle.std.proofs.lemmas.Nat.Bits.{bit_at-zero}
use Rattle.run_model.specs.Checkpoint.{width}
use Rattle.run_model.specs.Code.{ones}
use Rattle.run_model.specs.Strikes.{cause, flips, same_masks, mask_byte, fetch_bit, store_bit}
use Rattle.esa_model.specs.Machine.{at}
use Rattle.esa_model.specs.Bus.{cpu_no}
use Rattle.run_model.specs.Cores.{Cores, Met, Did, entries_of, is_lost, idles, by_mode, runs, scrub_by, attempt_by, does}
use Rattle.run_model.specs.Reading.{mark, reading, is_fixed, is_before, mended}
use Rattle.run_model.specs.Fate.{Fate, Sight, sight, Bits, bits, read, met, mend, written, strike, attempted, scrub_bits, bits_by}
use Rattle.run_model.specs.Runs.{Model, fate_at, turned}
use Rattle.run_model.specs.Sorts.{is_stop}
use Rattle.run_laws.proofs.At.{at_by}
use Rattle.run_laws.proofs.Rows.{Rows, commit}
use Rattle.run_laws.proofs.Tallies.{any_notes}

-- ---- the run with faults
abbrev pub Alive : Cores → Type 0
Alive s = (i : ℕ) → is_lost (s.mode i) ≡ false

abbrev pub is_stop_event : Option Event → Bool
is_stop_event None = false
is_stop_event (Some (event.Commit i)) = false
is_stop_event (Some (event.Idle i)) = false
is_stop_event (Some (event.Stop i)) = true
is_stop_event (Some (event.Key i)) = false

-- a turn of CPU i of a machine where none is lost: it stops by an entry, is idle where the CPU is,
-- and commits where it is not
pub record Turns (waits : Bool) (i : ℕ) (d : Did) : Type 0 where
  pub stops : is_stop_event d.event ≡ true → list_any is_stop d.whats ≡ true
  pub event : (d.event ≡ None) ⊎ (is_stop_event d.event ≡ true)
      ⊎ (d.event
      ≡ (if waits then Some (event.Idle (cpu_no i)) else Some (event.Commit (cpu_no i))))
  pub alive : is_stop_event d.event ≡ false → Alive d.after

alive_at : (s : Cores) (i : ℕ) (m : Mode) → is_lost m ≡ false → Alive s → (j : ℕ)
    → is_lost (at s.mode i m j) ≡ false
alive_at s i m l a j = at_by (λ x. is_lost x ≡ false) s.mode i m j (λ e. l) (λ ne. a j)

by_notes : (notes : List Note) (ws : List What) → list_any is_stop ws ≡ true
    → list_any is_stop (entries_of notes ++ ws) ≡ true
by_notes notes ws e = any_notes is_stop (λ w b. refl) notes ws ∙ e

pub turns_rows : (t : ℕ) (s : Cores) (i : ℕ) (w : Bool) → Alive s → Rows t s i w (Turns w i)
turns_rows t s i w a = record {
  gone = λ m. absurd (true≢false (sym (ap is_lost m) ∙ a i));
  waits = λ m is. record {
    stops = λ h. absurd (false≢true h);
    event = inr
        (inr (ap
        (λ b. if b then Some (event.Idle (cpu_no i)) else Some (event.Commit (cpu_no i)))
        (sym is)));
    alive = λ h. a;
  };
  commits =
      λ m is notes. record {
        stops = λ h. absurd (false≢true h);
        event = inr
            (inr (ap
            (λ b. if b then Some (event.Idle (cpu_no i))
            else Some (event.Commit (cpu_no i))) (sym is)));
        alive = λ h. a;
      };
  fails = λ m notes why n. record {
    stops = λ h. absurd (false≢true h);
    event = inl refl;
    alive = λ h. alive_at s i Recovering refl a;
  };
  scrub_lost =
      λ m notes k.
      record {
        stops =
            λ h. by_notes notes (what.Uncorrectable k ∷ what.Fenced ∷ what.Stop ∷ []) refl;
        event = inr (inl refl);
        alive = λ h. absurd (true≢false h);
      };
  retries =
      λ m lt notes. record {
        stops = λ h. absurd (false≢true h);
        event = inl refl;
        alive = λ h. alive_at s i Running refl a;
      };
  retry_lost =
      λ m lt notes k.
      record {
        stops =
            λ h. by_notes notes (what.Uncorrectable k ∷ what.Fenced ∷ what.Stop ∷ []) refl;
        event = inr (inl refl);
        alive = λ h. absurd (true≢false h);
      };
  none_left =
      λ m le none. record {
        stops = λ h. refl;
        event = inr (inl refl);
        alive = λ h. absurd (true≢false h);
      };
  transfers =
      λ m le k is notes. record {
        stops = λ h. absurd (false≢true h);
        event = inl refl;
        alive = λ h. alive_at s i Running refl a;
      };
  transfer_lost =
      λ m le k is notes u.
      record {
        stops = λ h. by_notes notes (what.Uncorrectable u ∷ what.Stop ∷ []) refl;
        event = inr (inl refl);
        alive = λ h. absurd (true≢false h);
      };
}

-- ---- the run without
pub record Clean (s : Fate) : Type 0 where
  pub modes : (i : ℕ) → s.cores.mode i ≡ Running
  pub none : (c w : ℕ) → s.wrong c w ≡ 0

ones_none : (n : ℕ) → ones n 0 ≡ 0
ones_none zero = refl
ones_none (suc n) = let b = bit_at-zero n in let r = ones_none n in omega (arith, b, r)

mark_none : (w e : ℕ) → e ≡ 0 → mark w e ≡ Plain
unfolding mark
mark_none w e z = rw (z, ones_none (width w)) refl

reading_clean : (f : ℕ → Mark) → ((w : ℕ) → f w ≡ Plain) → (notes : List Note) (w n : ℕ)
    → reading f notes w n ≡ record { notes = notes; lost = None }
unfolding reading
reading_clean f h notes w zero = refl
reading_clean f h notes w (suc n) = rw (h w) (reading_clean f h notes (w + 1) n)

read_clean : (s : Fate) (c : ℕ) → Clean s → read s c ≡ record { notes = []; lost = None }
read_clean s c k =
    reading_clean (λ w. mark w (s.wrong c w))
    (λ w. mark_none w (s.wrong c w) (k.none c w)) [] 0 40

-- what a running CPU does where nothing is wrong
abbrev pub clean_did : Cores → ℕ → Bool → Did
clean_did s i true = idles s i
clean_did s i false = commit s i []

clean_scrub : (s : Cores) (i : ℕ) (x : Met) (b : Bool)
    → x.reading ≡ record { notes = []; lost = None } → x.cause ≡ None
    → (if b then scrub_by s i x x.reading.lost else attempt_by s i [] x.attempt x.cause)
    ≡ commit s i []
clean_scrub s i x true e z = ap (λ r. scrub_by s i (record x { reading = r }) r.lost) e
    ∙ ap (λ o. attempt_by s i [] x.attempt o) z
clean_scrub s i x false e z = ap (λ o. attempt_by s i [] x.attempt o) z

clean_run : (s : Cores) (i : ℕ) (x : Met) (b : Bool) → x.waits ≡ b
    → x.reading ≡ record { notes = []; lost = None } → x.cause ≡ None
    → runs s i x ≡ clean_did s i b
clean_run s i x true w e z =
    ap (λ b. if b then idles s i
    else (if x.scrubs then scrub_by s i x x.reading.lost
    else attempt_by s i [] x.attempt x.cause)) w
clean_run s i x false w e z =
    ap (λ b. if b then idles s i
    else (if x.scrubs then scrub_by s i x x.reading.lost
    else attempt_by s i [] x.attempt x.cause)) w ∙ clean_scrub s i x x.scrubs e z

no_cause : (c n : ℕ) → cause [] c n ≡ None
unfolding cause same_masks mask_byte fetch_bit store_bit
no_cause c n = refl

no_flips : (c n w : ℕ) → flips [] c n w ≡ 0
unfolding flips
no_flips c n w = refl

clean_does : (t : ℕ) (g : Sight) (s : Fate) (i : ℕ) → Clean s
    → does t s.cores i (met [] g s i) ≡ clean_did s.cores i g.waits
unfolding does met
clean_does t g s i k = ap (λ z. by_mode t s.cores i (met [] g s i) z) (k.modes i)
    ∙ clean_run s.cores i (met [] g s i) g.waits refl (read_clean s (s.cores.core i) k)
    (no_cause (s.cores.core i) (s.begun (s.cores.core i)))

-- no word gets a wrong bit
abbrev pub NoneIn : Bits → Type 0
NoneIn b = (c w : ℕ) → b.wrong c w ≡ 0

zero_if : (b : Bool) (n : ℕ) → n ≡ 0 → (if b then 0 else n) ≡ 0
zero_if true n e = refl
zero_if false n e = e

mend_clean : (s : Fate) (k : ℕ) (o : Option ℕ) → Clean s → NoneIn (mend s k o)
mend_clean s k o h c w =
    at_by (λ f. f w ≡ 0) s.wrong k (mended (s.wrong k) o) c
    (λ e. zero_if (is_fixed (mark w (s.wrong k w)) && is_before w o) (s.wrong k w)
    (h.none k w)) (λ ne. h.none c w)

flipped_none : (a n c w : ℕ) → a ≡ 0 → bit_xor a (flips [] c n w) ≡ 0
flipped_none a n c w e = rw (e, no_flips c n w) refl

written_clean : (g : Sight) (k : ℕ) (o : Option Cause) (b : Bits) → NoneIn b
    → NoneIn (written g k o b)
written_clean g k None b h c w =
    at_by (λ f. f w ≡ 0) b.wrong k (λ v. if g.changes v then 0 else b.wrong k v) c
    (λ e. zero_if (g.changes w) (b.wrong k w) (h k w)) (λ ne. h c w)
written_clean g k (Some why) b h c w = h c w

strike_clean : (k n : ℕ) (b : Bits) → NoneIn b → NoneIn (strike [] k n b)
strike_clean k n b h c w =
    at_by (λ f. f w ≡ 0) b.wrong k (λ v. bit_xor (b.wrong k v) (flips [] k n v)) c
    (λ e. flipped_none (b.wrong k w) n k w (h k w)) (λ ne. h c w)

begin_clean : (g : Sight) (k n : ℕ) (b : Bits) → NoneIn b → NoneIn (attempted [] g k n b)
begin_clean g k n b h = written_clean g k (cause [] k n) (strike [] k n b) (strike_clean k n b h)

scrub_clean : (g : Sight) (s : Fate) (k : ℕ) (o : Option ℕ) → Clean s
    → NoneIn (scrub_bits [] g s k o)
scrub_clean g s k None h = begin_clean g k (s.begun k) (mend s k None) (mend_clean s k None h)
scrub_clean g s k (Some u) h = mend_clean s k (Some u) h

run_clean : (g : Sight) (s : Fate) (k : ℕ) (a b : Bool) → Clean s
    → NoneIn
    (if a then bits s
    else (if b then scrub_bits [] g s k (read s k).lost
    else attempted [] g k (s.begun k) (bits s)))
run_clean g s k true b h = h.none
run_clean g s k false true h = scrub_clean g s k (read s k).lost h
run_clean g s k false false h = begin_clean g k (s.begun k) (bits s) h.none

bits_clean : (t : ℕ) (g : Sight) (s : Fate) (i : ℕ) → Clean s
    → NoneIn (bits_by [] t g s i (s.cores.mode i))
bits_clean t g s i h =
    subst (λ z. NoneIn (bits_by [] t g s i z)) (sym (h.modes i))
    (run_clean g s (s.cores.core i) g.waits (s.begun (s.cores.core i) % 16 == 0) h)

clean_modes : (s : Cores) (i : ℕ) (b : Bool) → ((j : ℕ) → s.mode j ≡ Running) → (j : ℕ)
    → (clean_did s i b).after.mode j ≡ Running
clean_modes s i true h j = h j
clean_modes s i false h j = h j

clean_event : (s : Cores) (i : ℕ) (b : Bool)
    → (clean_did s i b).event
    ≡ (if b then Some (event.Idle (cpu_no i)) else Some (event.Commit (cpu_no i)))
clean_event s i true = refl
clean_event s i false = refl

pub clean_turn : (c : Config) (y : Model) (i : CpuNo) → Clean y.fate
    → ((fate_at [] c y (kind.Turns i)).outline.event
    ≡ (if idle y.machine i.0 then Some (event.Idle i) else Some (event.Commit i)))
    × Clean (turned [] c y (kind.Turns i)).fate
unfolding turned
clean_turn c y i k =
    let d = clean_does c.threshold (sight y.machine i.0) y.fate i.0 k in (
      ap (λ (z : Did). z.event) d ∙ clean_event y.fate.cores i.0 (idle y.machine i.0),
      record {
        modes = λ j. ap (λ (z : Did). z.after.mode j) d
            ∙ clean_modes y.fate.cores i.0 (idle y.machine i.0) k.modes j;
        none = bits_clean c.threshold (sight y.machine i.0) y.fate i.0 k;
      },
    )

pub clean_key : (c : Config) (y : Model) (i : CpuNo) → Clean y.fate
    → Clean (turned [] c y (kind.Key i)).fate
unfolding turned
clean_key c y i k = record { modes = k.modes; none = k.none }
