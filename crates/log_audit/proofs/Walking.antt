-- The pass over the entries.
use Rattle.std.proofs.Common.{◌≡◌, ℕ, ◌+◌, ◌<◌, ◌≤◌, ◌^◌, Bool, true, false, List, [], ◌∷◌, length, Option, Some, None, Ok, Err, refl, sym, ap, ◌∙◌, arith}
use Rattle.run_model.specs.declared.logs.Config.{Config}
use Rattle.run_model.specs.declared.logs.Entry.{Entry}
use Rattle.run_model.specs.Lawful.{Meets, bit}
use Rattle.run_model.specs.Sorts.{how_many, is_returned_entry, is_stop_entry}
use Rattle.program_model.specs.declared.refusals.AuditRefusal.{AuditRefusal}
use Rattle.log_audit.specs.declared.judging.Tally.{Tally}
use Rattle.log_audit.specs.declared.memory.Memory.{Memory}
use Rattle.log_audit.specs.Form.{entries_in, fed_lines}
use Rattle.log_audit.specs.Next.{BeginsWithEntry}
use Rattle.log_audit.specs.Points.{first_failed, first_refusal, or_else, points, unless}
use Rattle.log_audit.specs.Remembers.{HasRoom, Remembers}
use Rattle.log_audit.specs.Tallies.{is_spared_entry, tally, tally_of}
use Rattle.log_audit.proofs.Agreeing.{none_meets}
use Rattle.log_audit.proofs.Cutting.{entries_step}

abbrev pub entries_of : List ℕ → List Entry
entries_of text = entries_in (fed_lines text)

-- how many are counted, and how many are left
pub record Counts (test : Entry → Bool) (n counted : ℕ) (left all : List Entry) : Type 0 where
  pub sum : counted + how_many test left ≡ how_many test all
  pub few : counted ≤ n

-- what is known behind the line of this number
pub record Passing (c : Config) (last : ℕ) (from rest : List ℕ) (number : ℕ) (m : Memory)
    (t : Tally) : Type 0 where
  pub n : ℕ
  pub past : List Entry
  pub remembers : Remembers past n m
  pub count : number ≡ n + 1
  pub numbered : number + length rest ≤ length from + 1
  pub left :
      first_refusal c last 2 [] (entries_of from)
      ≡ first_refusal c last (number + 1) past (entries_of rest)
  pub returned : Counts is_returned_entry n t.returned (entries_of rest) (entries_of from)
  pub spared : Counts is_spared_entry n t.spared (entries_of rest) (entries_of from)
  pub stopped : Counts is_stop_entry n t.stopped (entries_of rest) (entries_of from)

pub passing_start :
    (c : Config) (last : ℕ) (from : List ℕ) (m : Memory) → Remembers [] 0 m
    → Passing c last from from 1 m (tally 0 0 0)
passing_start c last from m h = record {
  n = 0;
  past = [];
  remembers = h;
  count = refl;
  numbered = omega arith;
  left = refl;
  returned = record { sum = omega arith; few = omega arith };
  spared = record { sum = omega arith; few = omega arith };
  stopped = record { sum = omega arith; few = omega arith };
}

few_entries :
    (c : Config) (last : ℕ) (from rest : List ℕ) (number : ℕ) (m : Memory) (t : Tally)
    → length from + 1 < 2 ^ 32 → (h : Passing c last from rest number m t) → h.n < 2 ^ 32
few_entries c last from rest number m t long h =
    let a = h.count in let b = h.numbered in omega (arith, a, b, long)

pub room_now :
    (c : Config) (last : ℕ) (from rest : List ℕ) (number : ℕ) (m : Memory) (t : Tally)
    → length from + 1 < 2 ^ 32 → Passing c last from rest number m t → HasRoom m
room_now c last from rest number m t long h =
    let few = few_entries c last from rest number m t long h in
    let r = h.remembers in
    record {
      returned = λ k lt. omega (arith, r.returned_few k lt, few);
      taken = λ k lt. omega (arith, r.taken_few k lt, few);
      fenced = λ k lt. omega (arith, r.fenced_few k lt, few);
    }

pub count_room :
    (c : Config) (last : ℕ) (from rest : List ℕ) (number : ℕ) (m : Memory) (t : Tally)
    → length from + 1 < 2 ^ 32 → Passing c last from rest number m t
    → (t.returned < 2 ^ 32) × (t.spared < 2 ^ 32) × (t.stopped < 2 ^ 32)
count_room c last from rest number m t long h =
    let few = few_entries c last from rest number m t long h in (
      omega (arith, h.returned.few, few),
      omega (arith, h.spared.few, few),
      omega (arith, h.stopped.few, few),
    )

-- ---- at an entry

abbrev then_left : Config → ℕ → ℕ → List Entry → Entry → List ℕ → Option AuditRefusal
    → Option AuditRefusal
then_left c last number past e after failed =
    or_else failed (first_refusal c last (number + 2) (e ∷ past) (entries_of after))

left_here :
    (c : Config) (last : ℕ) (from rest after : List ℕ) (number : ℕ) (m : Memory) (t : Tally)
    (e : Entry) (h : Passing c last from rest number m t)
    → BeginsWithEntry (fed_lines rest) e (fed_lines after)
    → first_refusal c last 2 [] (entries_of from)
    ≡ then_left c last number h.past e after
    (first_failed (number + 1) (points c last h.past e))
left_here c last from rest after number m t e h b =
    let two : number + 1 + 1 ≡ number + 2 = omega arith in
    let failed = first_failed (number + 1) (points c last h.past e) in
    h.left
    ∙ ap (first_refusal c last (number + 1) h.past)
    (entries_step (fed_lines rest) e (fed_lines after) b)
    ∙ ap (λ k. or_else failed (first_refusal c last k (e ∷ h.past) (entries_of after))) two

pub refused_here :
    (c : Config) (last : ℕ) (from rest after : List ℕ) (number : ℕ) (m : Memory) (t : Tally)
    (e : Entry) (o : Option AuditRefusal) (r : AuditRefusal)
    → (h : Passing c last from rest number m t)
    → BeginsWithEntry (fed_lines rest) e (fed_lines after)
    → ((past : List Entry) (n : ℕ) → Remembers past n m
    → o ≡ first_failed (number + 1) (points c last past e))
    → o ≡ Some r
    → Err r ≡ unless (first_refusal c last 2 [] (entries_of from)) (tally_of (entries_of from))
refused_here c last from rest after number m t e o r h b judge is =
    let failed : first_failed (number + 1) (points c last h.past e) ≡ Some r =
    sym (judge h.past h.n h.remembers) ∙ is in
    sym
    (ap (λ z. unless z (tally_of (entries_of from)))
    (left_here c last from rest after number m t e h b
    ∙ ap (then_left c last number h.past e after) failed))

counts_more :
    (test : Entry → Bool) (n counted : ℕ) (rest after all : List Entry) (e : Entry)
    → rest ≡ e ∷ after → Counts test n counted rest all
    → Counts test (n + 1) (bit (test e) + counted) after all
counts_more test n counted rest after all e is h =
    let more : how_many test rest ≡ bit (test e) + how_many test after = ap (how_many test) is in
    let one = bit_le (test e) in
    record {
      sum = omega (arith, h.sum, more);
      few = omega (arith, h.few, one);
    }
  where
    bit_le : (x : Bool) → bit x ≤ 1
    bit_le true = omega arith
    bit_le false = omega arith

pub passed_here :
    (c : Config) (last : ℕ) (from rest after : List ℕ) (number : ℕ) (m new : Memory)
    (t : Tally) (e : Entry) (o : Option AuditRefusal)
    → c.cpus ≤ 8 → (h : Passing c last from rest number m t)
    → BeginsWithEntry (fed_lines rest) e (fed_lines after) → length after < length rest
    → ((past : List Entry) (n : ℕ) → Remembers past n m
    → o ≡ first_failed (number + 1) (points c last past e))
    → o ≡ None
    → ((c : Config) (turns : ℕ) (past : List Entry) (n : ℕ) → c.cpus ≤ 8
    → Meets c turns past e → Remembers past n m → Remembers (e ∷ past) (n + 1) new)
    → Passing c last from after (number + 1) new
    (tally (bit (is_returned_entry e) + t.returned) (bit (is_spared_entry e) + t.spared)
    (bit (is_stop_entry e) + t.stopped))
passed_here c last from rest after number m new t e o few h b lt judge is more =
    let met : first_failed (number + 1) (points c last h.past e) ≡ None =
    sym (judge h.past h.n h.remembers) ∙ is in
    let split = entries_step (fed_lines rest) e (fed_lines after) b in
    let two : number + 2 ≡ number + 1 + 1 = omega arith in
    record {
      n = h.n + 1;
      past = e ∷ h.past;
      remembers =
          more c last h.past h.n few (none_meets (number + 1) c last h.past e met) h.remembers;
      count = ap (λ z. z + 1) h.count;
      numbered = let g = h.numbered in omega (arith, g, lt);
      left =
          left_here c last from rest after number m t e h b
          ∙ ap (then_left c last number h.past e after) met
          ∙ ap (λ k. first_refusal c last k (e ∷ h.past) (entries_of after)) two;
      returned = counts_more is_returned_entry h.n t.returned _ _ _ e split h.returned;
      spared = counts_more is_spared_entry h.n t.spared _ _ _ e split h.spared;
      stopped = counts_more is_stop_entry h.n t.stopped _ _ _ e split h.stopped;
    }

-- ---- at the end

all_counted :
    (test : Entry → Bool) (n counted : ℕ) (rest all : List Entry) → rest ≡ []
    → Counts test n counted rest all → counted ≡ how_many test all
all_counted test n counted rest all none h =
    let zero_left : how_many test rest ≡ 0 = ap (how_many test) none in
    omega (arith, h.sum, zero_left)

pub passed_all :
    (c : Config) (last : ℕ) (from rest : List ℕ) (number : ℕ) (m : Memory) (t : Tally)
    → Passing c last from rest number m t → entries_of rest ≡ []
    → Ok t ≡ unless (first_refusal c last 2 [] (entries_of from)) (tally_of (entries_of from))
passed_all c last from rest number m t h none =
    let es = entries_of from in
    let r = how_many is_returned_entry es in
    let s = how_many is_spared_entry es in
    let same : t ≡ tally_of es =
    ap (λ z. tally z t.spared t.stopped)
    (all_counted is_returned_entry h.n t.returned _ es none h.returned)
    ∙ ap (λ z. tally r z t.stopped)
    (all_counted is_spared_entry h.n t.spared _ es none h.spared)
    ∙ ap (λ z. tally r s z) (all_counted is_stop_entry h.n t.stopped _ es none h.stopped) in
    ap (λ z. Ok z) same
    ∙ sym
    (ap (λ z. unless z (tally_of es))
    (h.left ∙ ap (first_refusal c last (number + 1) h.past) none))
