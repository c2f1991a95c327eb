-- The head of a log that is read, and where the cores are along its entries.
use Rattle.std.proofs.Common.{◌≡◌, ℕ, ◌≤◌, Bool, true, false, List, [], ◌∷◌, Option, Some, None, Result, Ok, Err, refl, sym, ap, ◌∙◌, subst, if◌then◌else◌, leb-true}
use Rattle.std.specs.Prelude.{◌==◌, ◌&&◌, nat_le, option_and_then, codes}
use Rattle.std.specs.Str.Parse.{digits_value}
use Rattle.run_model.specs.Numbers.{is_decimal, number_up_to}
use Rattle.run_model.specs.Schedule.{from_one}
use Rattle.run_model.specs.Script.{fields}
use Rattle.run_model.specs.LogLines.{Heading, heading}
use Rattle.run_model.specs.LogReading.{are_head_words, content, head_in, head_of, heading_in, heading_of}
use Rattle.run_model.specs.Lawful.{AllMeet}
use Rattle.run_laws.proofs.Placing.{one_place}
use Rattle.service_log.specs.Headings.{head_of_line}
use Rattle.log_audit.specs.Form.{Body, Log, body_from, by_lines, fed_lines, log_in, under_head}
use Rattle.log_audit.specs.Verdict.{IsLawfulLog, config_of}
use Rattle.log_audit.specs.Written.{CoresInOnePlace}
use Rattle.log_audit.proofs.Truths.{and_r}
use Rattle.log_audit.proofs.Verdicts.{yes_exactly}

-- ---- at most eight CPUs

most_by :
    (b : Bool) (v n most : ℕ) → (b ≡ true → v ≤ most) → (if b then Some v else None) ≡ Some n
    → n ≤ most
most_by true v n most le h = let same : v ≡ n = cc in subst (λ z. z ≤ most) same (le refl)
most_by false v n most le h = absurd (cc)

number_most : (most n : ℕ) (t : List ℕ) → number_up_to most t ≡ Some n → n ≤ most
unfolding number_up_to
number_most most n t h =
    most_by (is_decimal t && nat_le (digits_value 10 t) most) (digits_value 10 t) n most
    (λ y. leb-true (digits_value 10 t) most (and_r (is_decimal t) _ y)) h

one_by : (b : Bool) (m n : ℕ) → (if b then None else Some m) ≡ Some n → Some m ≡ Some n
one_by true m n h = absurd (cc)
one_by false m n h = h

from_one_of : (o : Option ℕ) (n : ℕ) → from_one o ≡ Some n → o ≡ Some n
from_one_of None n h = absurd (cc)
from_one_of (Some m) n h = one_by (m == 0) m n h

heading_cpus :
    (c s t : Option ℕ) (h : Heading) → heading_of c s t ≡ Some h → c ≡ Some h.cpus
heading_cpus None s t h e = absurd (cc)
heading_cpus (Some c) None t h e = absurd (cc)
heading_cpus (Some c) (Some s) None h e = absurd (cc)
heading_cpus (Some c) (Some s) (Some t) h e =
    let same : heading c s t ≡ h = cc in ap (λ z. Some z.cpus) same

few_cpus : (c s t : List ℕ) (h : Heading) → heading_in c s t ≡ Some h → h.cpus ≤ 8
few_cpus c s t h e =
    number_most 8 h.cpus c
    (from_one_of (number_up_to 8 c) h.cpus (heading_cpus (from_one (number_up_to 8 c)) _ _ h e))

few_by :
    (b : Bool) (c s t : List ℕ) (h : Heading)
    → (if b then heading_in c s t else None) ≡ Some h → h.cpus ≤ 8
few_by true c s t h e = few_cpus c s t h e
few_by false c s t h e = absurd (cc)

few_in :
    (version : List ℕ) (fs : List (List ℕ)) (h : Heading) → head_of version fs ≡ Some h
    → h.cpus ≤ 8
few_in version (g ∷ v ∷ cw ∷ c ∷ sw ∷ s ∷ tw ∷ t ∷ []) h e =
    few_by (are_head_words version g v cw sw tw) c s t h e
few_in version _ h e = absurd (cc)

few_of : (o : Option (List ℕ)) (h : Heading) → option_and_then head_in o ≡ Some h → h.cpus ≤ 8
unfolding head_in
few_of None h e = absurd (cc)
few_of (Some t) h e = few_in (codes "2") (fields t) h e

few_of_line : (line : List ℕ) (h : Heading) → head_of_line line ≡ Some h → h.cpus ≤ 8
unfolding head_of_line
few_of_line line h e = few_of (content line) h e

head_read :
    (o : Option Heading) (r : Result Body ℕ) (l : Log) → under_head o r ≡ Ok l
    → o ≡ Some l.heading
head_read None r l e = absurd (cc)
head_read (Some h) (Ok b) l e =
    let same : record { heading = h; body = b } ≡ l = cc in ap (λ z. Some z.heading) same
head_read (Some h) (Err n) l e = absurd (cc)

few_in_lines : (ls : List (List ℕ)) (l : Log) → by_lines ls ≡ Ok l → l.heading.cpus ≤ 8
few_in_lines [] l e = absurd (cc)
few_in_lines (line ∷ ls) l e =
    few_of_line line l.heading (head_read (head_of_line line) (body_from 2 ls) l e)

few_in_log : (log : List ℕ) (l : Log) → log_in log ≡ Ok l → l.heading.cpus ≤ 8
unfolding log_in
few_in_log log l e = few_in_lines (fed_lines log) l e

-- ---- the cores along its entries

pub cores_in_one_place : CoresInOnePlace
cores_in_one_place log a l es more answered is split =
    let h : IsLawfulLog log a = (yes_exactly log a).0 answered in
    let same : h.log ≡ l = let e = sym h.form ∙ is in cc in
    let Met : Log → Type 0 =
    λ z. AllMeet (config_of z.heading) z.body.ending.turns [] z.body.entries in
    let meets : Met l = subst Met same h.lawful.all in
    one_place (config_of l.heading) l.body.ending.turns es more (few_in_log log l is)
    (subst (AllMeet (config_of l.heading) l.body.ending.turns []) split meets)
