-- Worked values: logs and the verdicts on them. Source: choice of this project.
use Rattle.std.specs.Prelude.{ℕ, ◌≡◌, List, [], ◌∷◌, ◌++◌, map, Ok, Err, codes, refl}
use Rattle.run_model.specs.Numbers.{is_decimal, number_up_to}
use Rattle.run_model.specs.Script.{fields}
use Rattle.run_model.specs.LogReading.{byte_in, cause_in, content, cpu_in, entry_in, head_in, long_in, one_field, read_entry, tail_in, three_fields, two_fields}
use Rattle.service_log.specs.Headings.{head_of_line, tail_of_line}
use Rattle.program_model.specs.declared.refusals.AuditRefusal.{AuditRefusal}
use Rattle.program_model.specs.declared.refusals.AuditRefusal.TheVariants.{BadLine, Turn, Core, Retry, Fenced, Spared, Stop, Returned, Tail}
use Rattle.log_audit.specs.declared.auditing.Audited.{Audited}
use Rattle.log_audit.specs.Form.{fed_lines, log_in}
use Rattle.log_audit.specs.Verdict.{audited}

pub two_lines : fed_lines (codes "ab\n\ncd") ≡ codes "ab\n" ∷ codes "\n" ∷ codes "cd" ∷ []
two_lines = refl

abbrev counts : ℕ → ℕ → ℕ → Audited
counts turns spared stopped =
    record { turns = turns; spared = spared; stopped = stopped }

-- one CPU, no spare, and no retry
abbrev no_retries : List ℕ
no_retries = codes "G5LOG 2 CPUS 1 SPARES 0 THRESHOLD 0\n"

abbrev given_up : List ℕ
given_up = codes "1 0 0 FAIL FETCH 0\n2 0 0 FENCED\n"

-- one CPU, one spare, and one retry
abbrev one_retry : List ℕ
one_retry = codes "G5LOG 2 CPUS 1 SPARES 1 THRESHOLD 1\n"

abbrev retried : List ℕ
retried = codes "1 0 0 FAIL STORE 0\n2 0 0 RETRY 1\n3 0 0 FAIL STORE 1\n"

abbrev spared : List ℕ
spared = codes "4 0 0 FENCED\n4 0 0 CORRECTED 5 10\n4 0 0 SPARED 8\n"

abbrev lawful : List (List ℕ × Audited)
lawful =
    (no_retries ++ codes "END 0 RETURNED 0\n", counts 0 0 0)
    ∷ (
      no_retries ++ given_up ++ codes "2 0 0 NOSPARE\n2 0 0 STOP\nEND 2 RETURNED 0\n",
      counts 2 0 1,
    )
    ∷ (one_retry ++ retried ++ spared ++ codes "END 9 RETURNED 0\n", counts 9 1 0)
    ∷ (
      one_retry ++ retried ++ spared ++ codes "5 - 0 RETURNED\nEND 5 RETURNED 1\n",
      counts 5 1 0,
    )
    ∷ []

pub verdicts : map (λ a. audited a.0) lawful ≡ map (λ a. Ok a.1) lawful
unfolding audited log_in head_of_line tail_of_line content head_in tail_in fields read_entry
    entry_in one_field two_fields three_fields cause_in cpu_in long_in byte_in number_up_to
    is_decimal
verdicts = refl

abbrev lawless : List (List ℕ × AuditRefusal)
lawless =
    ([], BadLine 1)
    ∷ (no_retries, BadLine 1)
    ∷ (codes "END 0 RETURNED 0\n", BadLine 1)
    ∷ (no_retries ++ codes "END 0 RETURNED 0", BadLine 2)
    ∷ (no_retries ++ given_up, BadLine 3)
    ∷ (no_retries ++ codes "END 0 RETURNED 0\nEND 0 RETURNED 0\n", BadLine 2)
    ∷ (no_retries ++ given_up ++ codes "2 0 0 STOP\nx\n", BadLine 5)
    ∷ (no_retries ++ given_up ++ codes "END 1 RETURNED 0\n", Turn 3)
    ∷ (no_retries ++ given_up ++ codes "3 0 0 FAIL FETCH 1\nEND 3 RETURNED 0\n", Core 4)
    ∷ (
      no_retries ++ codes "1 0 0 FAIL FETCH 0\n2 0 0 RETRY 1\nEND 2 RETURNED 0\n",
      Retry 3,
    )
    ∷ (one_retry ++ given_up ++ codes "END 2 RETURNED 0\n", Fenced 3)
    ∷ (one_retry ++ retried ++ codes "4 0 0 FENCED\n4 0 0 NOSPARE\nEND 4 RETURNED 0\n", Spared 6)
    ∷ (no_retries ++ given_up ++ codes "2 0 0 STOP\nEND 2 RETURNED 0\n", Stop 4)
    ∷ (no_retries ++ codes "1 - 0 RETURNED\nEND 1 RETURNED 1\n", Returned 2)
    ∷ (
      one_retry ++ retried ++ spared ++ codes "5 - 0 RETURNED\nEND 5 RETURNED 0\n",
      Tail,
    )
    ∷ []

pub refusals : map (λ r. audited r.0) lawless ≡ map (λ r. Err r.1) lawless
unfolding audited log_in head_of_line tail_of_line content head_in tail_in fields read_entry
    entry_in one_field two_fields three_fields cause_in cpu_in long_in byte_in number_up_to
    is_decimal
refusals = refl
