-- How long the generated texts are: each is within the limit of its input.
use Rattle.std.proofs.Common.{◌≡◌, ℕ, zero, suc, ◌+◌, ◌-◌, ◌*◌, ◌/◌, ◌%◌, ◌^◌, ◌<◌, ◌≤◌, List, [], ◌∷◌, ◌++◌, length, min, Option, Some, None, refl, ap, arith, length-append, lit<}
use Rattle.std.specs.Prelude.{codes}
use Rattle.std.proofs.lemmas.Fmt.{length-decimal-le}
use Rattle.run_model.specs.Numbers.{decimal}
use Rattle.run_model.specs.Script.{CountInRange, InRange, AllInRange}
use Rattle.run_model.specs.declared.faults.Strike.{Strike}
use Rattle.run_model.specs.declared.faults.Strike.TheVariants.{Packet, Fetch, Store, Word}
use Rattle.run_model.specs.declared.faults.Unit.{Unit as UnitOf}
use Rattle.run_model.specs.declared.faults.Unit.TheVariants.{A, B}
use Rattle.program_model.specs.Draws.{draw, after}
use Rattle.program_model.specs.GeneratedDeck.{cards, deck, deck_draws}
use Rattle.program_model.specs.Generator.{turns_of, run_text, drawn_runs, later_runs, schedule, schedule_draws, unit_text, attempts_text, and_number, strike_text, strikes, script, generated}
use Rattle.deck_gen.specs.Accepted.{AreInLimits}
use Rattle.deck_gen.specs.Parts.{behind_blanks}
use Rattle.deck_gen.proofs.DrawnStrikes.{in_form, length-strikes}
use Rattle.deck_gen.proofs.Lines.{first_line, no_line}
use Rattle.deck_gen.proofs.ReadDeck.{all_read, length-cards}
use Rattle.deck_gen.proofs.ReadLines.{few_positions}
use Rattle.deck_gen.proofs.Runs.{taken, next_run, one_run}

-- ---- the deck has 14 cards

length-deck : (x : ℕ) → length (deck x) ≡ 1120
unfolding deck cards
length-deck x = length-cards (cards x) (all_read x)

-- ---- texts one behind another

three : (a b c : List ℕ) → length ((a ++ b) ++ c) ≡ length a + length b + length c
three a b c = omega (arith, length-append (a ++ b) c, length-append a b)

four :
    (a b c d : List ℕ)
    → length (((a ++ b) ++ c) ++ d) ≡ length a + length b + length c + length d
four a b c d = omega (arith, length-append ((a ++ b) ++ c) d, three a b c)

seven :
    (a b c d e f g : List ℕ)
    → length ((((((a ++ b) ++ c) ++ d) ++ e) ++ f) ++ g)
    ≡ length a + length b + length c + length d + length e + length f + length g
seven a b c d e f g =
    let front = ((a ++ b) ++ c) ++ d in
    omega (arith, four a b c d, three front e f, length-append ((front ++ e) ++ f) g)

-- ---- the schedule: at most five bytes for a word and the blank before it

-- of turns of one of 8 CPUs, at most 32 of them
length-run : (cpu n : ℕ) → cpu < 8 → n ≤ 32 → length (run_text (turns_of cpu n)) ≤ 4
length-run cpu n h k =
    let a = length-decimal-le 1 cpu (lit< tt) (omega arith) (omega arith) in
    let b = length-decimal-le 2 n (lit< tt) (omega arith) (omega arith) in
    omega (arith, a, b, three (decimal cpu) (codes "*") (decimal n))

length-later :
    (most left x : ℕ) → length (behind_blanks (drawn_runs most left x)) ≤ 5 * most
length-later zero left x = omega arith
length-later (suc most) zero x = omega arith
length-later (suc most) (suc left) x =
    let n : ℕ = suc left in
    let rest = drawn_runs most (n - taken n x) (after 2 x) in
    let word = codes " " ++ run_text (next_run n x) in
    let here = length-run (draw 1 x % 8) (taken n x) (omega arith) (omega arith) in
    let more = length-later most (n - taken n x) (after 2 x) in
    let both = length-append word (behind_blanks rest) in
    let whole = ap (λ runs. length (behind_blanks runs)) (one_run most n x (omega arith)) in
    omega (arith, here, more, both, whole)

length-schedule : (turns x : ℕ) → turns ≤ 1000000 → length (schedule turns x) ≤ 1048576
unfolding schedule later_runs
length-schedule turns x h =
    let first = length-run 0 (min turns 32) (lit< tt) (omega arith) in
    let most = (turns - 32 + 7) / 8 in
    let more = length-later most (turns - 32) x in
    let later = behind_blanks (drawn_runs most (turns - 32) x) in
    omega (arith, first, more, length-append (run_text (turns_of 0 (min turns 32))) later)

-- ---- the script: at most 40 bytes for a line

length-number : (n : ℕ) → n < 10 ^ 7 → length (and_number n) ≤ 8
length-number n h =
    let a = length-decimal-le 7 n (lit< tt) h (omega arith) in omega (arith, a)

length-unit : (u : UnitOf) → length (unit_text u) ≡ 1
length-unit A = refl
length-unit B = refl

length-attempts : (k : Option ℕ) → CountInRange k → length (attempts_text k) ≤ 7
length-attempts None h = omega arith
length-attempts (Some n) h =
    length-decimal-le 7 n (lit< tt) (omega (arith, h.1)) (omega (arith, h.1))

length-strike : (s : Strike) → InRange s → length (strike_text s) ≤ 40
length-strike (Packet c n u b k) h =
    let core = length-number c.0 (omega (arith, h.0)) in
    let at = length-number n (omega (arith, h.1)) in
    let bit = length-number b (omega (arith, h.2)) in
    let count = length-attempts k h.3 in
    let whole =
    seven (decimal c.0) (and_number n) (codes " ") (unit_text u) (and_number b) (codes " ")
    (attempts_text k) in
    omega (arith, core, at, bit, count, length-unit u, whole)
length-strike (Fetch c n b) h =
    let core = length-number c.0 (omega (arith, h.0)) in
    let at = length-number n (omega (arith, h.1)) in
    let bit = length-number b (omega (arith, h.2)) in
    omega (arith, core, at, bit, three (decimal c.0) (and_number n) (and_number b))
length-strike (Store c n b) h =
    let core = length-number c.0 (omega (arith, h.0)) in
    let at = length-number n (omega (arith, h.1)) in
    let bit = length-number b (omega (arith, h.2)) in
    omega (arith, core, at, bit, three (decimal c.0) (and_number n) (and_number b))
length-strike (Word c n w b) h =
    let core = length-number c.0 (omega (arith, h.0)) in
    let at = length-number n (omega (arith, h.1)) in
    let word = length-number w (omega (arith, h.2)) in
    let bit = length-number b (omega (arith, h.3, few_positions w)) in
    let whole = four (decimal c.0) (and_number n) (and_number w) (and_number b) in
    omega (arith, core, at, word, bit, whole)

length-script : (ss : List Strike) → AllInRange ss → length (script ss) ≤ 41 * length ss
length-script [] h = let e = ap length no_line in omega (arith, e)
length-script (s ∷ ss) h =
    let here = length-strike s h.0 in
    let more = length-script ss h.1 in
    let line = length-append (strike_text s) (10 ∷ []) in
    let both = length-append (strike_text s ++ 10 ∷ []) (script ss) in
    let whole = ap length (first_line s ss) in
    omega (arith, here, more, line, both, whole)

-- ---- all three

pub are_in_limits :
    (number turns : ℕ) (cards words lines : List ℕ) → turns ≤ 1000000
    → cards ≡ (generated number turns).deck → words ≡ (generated number turns).schedule
    → lines ≡ (generated number turns).script → AreInLimits cards words lines
unfolding generated
are_in_limits number turns cards words lines h d s l =
    let x = after deck_draws number in
    let y = after (schedule_draws turns x) x in
    let few : turns / 500 ≤ 10000 = omega arith in
    let long = length-script (strikes (turns / 500) 0 y) (in_form (turns / 500) y few).ranges in
    let count = length-strikes (turns / 500) 0 y in
    record {
      cards = omega (arith, ap length d, length-deck number);
      words = omega (arith, ap length s, length-schedule turns x h);
      lines = omega (arith, ap length l, long, count);
    }
