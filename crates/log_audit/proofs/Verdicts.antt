-- The verdict, and where it is yes.
use Rattle.std.proofs.Common.{◌≡◌, ℕ, ◌+◌, Bool, true, false, List, [], ◌∷◌, Option, Some, None, Result, Ok, Err, refl, sym, ap, ◌∙◌, if◌then◌else◌, eqb-true, eq-eqb, subst}
use Rattle.std.specs.Prelude.{◌==◌}
use Rattle.run_model.specs.LogLines.{Heading}
use Rattle.run_model.specs.LogReading.{read_entry}
use Rattle.run_model.specs.LogReading.{Ending as EndNumbers}
use Rattle.run_model.specs.declared.logs.Config.{Config}
use Rattle.run_model.specs.declared.logs.Entry.{Entry}
use Rattle.run_model.specs.Lawful.{AllMeet}
use Rattle.run_model.specs.Sorts.{how_many, is_returned_entry}
use Rattle.service_log.specs.Headings.{tail_of_line}
use Rattle.program_model.specs.declared.refusals.AuditRefusal.{AuditRefusal}
use Rattle.program_model.specs.declared.refusals.AuditRefusal.TheVariants.{BadLine, Tail}
use Rattle.log_audit.specs.declared.auditing.Audited.{Audited}
use Rattle.log_audit.specs.declared.judging.Tally.{Tally}
use Rattle.log_audit.specs.Form.{Body, Log, body_from, ending_of, entries_in, last_line, line_between, log_in, under_head, while_entry}
use Rattle.log_audit.specs.Next.{as_refusal}
use Rattle.log_audit.specs.Points.{first_failed, first_refusal, or_else, points, unless}
use Rattle.log_audit.specs.Tallies.{tally_of}
use Rattle.log_audit.specs.Verdict.{IsLawfulLog, YesExactlyWhereLawful, YesWhereLawful, audited, config_of, count_refusal, counted, entry_refusal, judged, refusal_of, tail_refusal}
use Rattle.log_audit.proofs.Agreeing.{meets_none, none_meets}

-- ---- the lines behind the head

last_entries :
    (n : ℕ) (t : Option EndNumbers) (b : Body) → last_line n t ≡ Ok b → b.entries ≡ []
last_entries n None b h = absurd (cc)
last_entries n (Some t) b h =
    let same : record { entries = []; ending = t } ≡ b = cc in ap (λ z. z.entries) (sym same)

between_entries :
    (n : ℕ) (o : Option Entry) (r : Result Body ℕ) (es : List Entry) (b : Body)
    → ((d : Body) → r ≡ Ok d → d.entries ≡ es) → line_between n o r ≡ Ok b
    → b.entries ≡ while_entry o es
between_entries n None r es b ih h = absurd (cc)
between_entries n (Some e) (Ok d) es b ih h =
    let same : record { entries = e ∷ d.entries; ending = d.ending } ≡ b = cc in
    ap (λ z. z.entries) (sym same) ∙ ap (λ z. e ∷ z) (ih d refl)
between_entries n (Some e) (Err k) es b ih h = absurd (cc)

body_entries :
    (n : ℕ) (ls : List (List ℕ)) (b : Body) → body_from n ls ≡ Ok b → b.entries ≡ entries_in ls
body_entries n [] b h = absurd (cc)
body_entries n (l ∷ []) b h = last_entries n (tail_of_line l) b h
body_entries n (l ∷ m ∷ ls) b h =
    between_entries n (read_entry l) (body_from (n + 1) (m ∷ ls)) (entries_in (m ∷ ls)) b
    (body_entries (n + 1) (m ∷ ls)) h

abbrev body : List Entry → EndNumbers → Body
body es t = record { entries = es; ending = t }

ends_by :
    (n : ℕ) (ls : List (List ℕ)) (t : EndNumbers) (r : Result Body ℕ) → body_from n ls ≡ r
    → Ok t ≡ as_refusal (ending_of r) → body_from n ls ≡ Ok (body (entries_in ls) t)
ends_by n ls t (Ok b) is h =
    let same : t ≡ b.ending = cc in
    is
    ∙ ap (λ z. Ok (body z b.ending)) (body_entries n ls b is)
    ∙ ap (λ z. Ok (body (entries_in ls) z)) (sym same)
ends_by n ls t (Err k) is h = absurd (cc)

pub body_is :
    (n : ℕ) (ls : List (List ℕ)) (t : EndNumbers)
    → Ok t ≡ as_refusal (ending_of (body_from n ls))
    → body_from n ls ≡ Ok (body (entries_in ls) t)
body_is n ls t h = ends_by n ls t (body_from n ls) refl h

bad_by :
    (h : Heading) (r : Result Body ℕ) (x : AuditRefusal)
    → Err x ≡ as_refusal (ending_of r) → Err x ≡ judged (under_head (Some h) r)
bad_by h (Ok b) x e = absurd (cc)
bad_by h (Err n) x e = let same : x ≡ BadLine n = cc in ap (λ z. Err z) same

pub bad_body :
    (h : Heading) (ls : List (List ℕ)) (x : AuditRefusal)
    → Err x ≡ as_refusal (ending_of (body_from 2 ls))
    → Err x ≡ judged (under_head (Some h) (body_from 2 ls))
bad_body h ls x e = bad_by h (body_from 2 ls) x e

-- ---- the verdict on them

abbrev log : Heading → List Entry → EndNumbers → Log
log h es t = record { heading = h; body = body es t }

refused_by :
    {A : Type 0} (o : Option AuditRefusal) (v : A) (x : AuditRefusal) → Err x ≡ unless o v
    → o ≡ Some x
refused_by None v x e = absurd (cc)
refused_by (Some r) v x e = cc

passed_by :
    {A : Type 0} (o : Option AuditRefusal) (v w : A) → Ok w ≡ unless o v
    → (o ≡ None) × (w ≡ v)
passed_by None v w e = (refl, cc)
passed_by (Some r) v w e = absurd (cc)

judged_body :
    (h : Heading) (ls : List (List ℕ)) (t : EndNumbers)
    → Ok t ≡ as_refusal (ending_of (body_from 2 ls))
    → judged (under_head (Some h) (body_from 2 ls))
    ≡ unless (refusal_of (log h (entries_in ls) t)) (counted (log h (entries_in ls) t))
judged_body h ls t e = ap (λ r. judged (under_head (Some h) r)) (body_is 2 ls t e)

pub refused_body :
    (h : Heading) (ls : List (List ℕ)) (t : EndNumbers) (x : AuditRefusal)
    → Ok t ≡ as_refusal (ending_of (body_from 2 ls))
    → Err x
    ≡ unless (first_refusal (config_of h) t.turns 2 [] (entries_in ls)) (tally_of (entries_in ls))
    → Err x ≡ judged (under_head (Some h) (body_from 2 ls))
refused_body h ls t x e f =
    let l = log h (entries_in ls) t in
    let r = refused_by (entry_refusal l) (tally_of (entries_in ls)) x f in
    sym
    (judged_body h ls t e ∙ ap (λ z. unless (or_else z (count_refusal l)) (counted l)) r)

-- by whether the returned cores are as many as the tail says
abbrev pub by_count : EndNumbers → Tally → Bool → Result Audited AuditRefusal
by_count t n same =
    unless (if same then None else Some Tail)
    (record { turns = t.turns; spared = n.spared; stopped = n.stopped })

pub tail_body :
    (h : Heading) (ls : List (List ℕ)) (t : EndNumbers) (n : Tally) (b : Bool)
    → Ok t ≡ as_refusal (ending_of (body_from 2 ls))
    → Ok n
    ≡ unless (first_refusal (config_of h) t.turns 2 [] (entries_in ls)) (tally_of (entries_in ls))
    → (n.returned == t.returned) ≡ b
    → judged (under_head (Some h) (body_from 2 ls)) ≡ by_count t n b
tail_body h ls t n b e f q =
    let es = entries_in ls in
    let l = log h es t in
    let p = passed_by (entry_refusal l) (tally_of es) n f in
    judged_body h ls t e
    ∙ ap (λ z. unless (or_else z (count_refusal l)) (counted l)) p.0
    ∙ ap (λ (z : Tally). by_count t z (z.returned == t.returned)) (sym p.1)
    ∙ ap (by_count t n) q

-- ---- no refusal exactly where all entries meet all points

none_first :
    (o behind : Option AuditRefusal) → or_else o behind ≡ None
    → (o ≡ None) × (behind ≡ None)
none_first None behind h = (refl, h)
none_first (Some r) behind h = absurd (cc)

none_all :
    (c : Config) (last n : ℕ) (past es : List Entry) → first_refusal c last n past es ≡ None
    → AllMeet c last past es
none_all c last n past [] h = tt
none_all c last n past (e ∷ es) h =
    let behind = first_refusal c last (n + 1) (e ∷ past) es in
    let p = none_first (first_failed n (points c last past e)) behind h in
    (none_meets n c last past e p.0, none_all c last (n + 1) (e ∷ past) es p.1)

all_none :
    (c : Config) (last n : ℕ) (past es : List Entry) → AllMeet c last past es
    → first_refusal c last n past es ≡ None
all_none c last n past [] m = refl
all_none c last n past (e ∷ es) m =
    let behind = first_refusal c last (n + 1) (e ∷ past) es in
    ap (λ o. or_else o behind) (meets_none n c last past e m.0)
    ∙ all_none c last (n + 1) (e ∷ past) es m.1

tail_none :
    (told n : ℕ) (b : Bool) → (n == told) ≡ b → (if b then None else Some Tail) ≡ None
    → n ≡ told
tail_none told n true q h = eqb-true n told q
tail_none told n false q h = absurd (cc)

none_tail : (told n : ℕ) → n ≡ told → tail_refusal told n ≡ None
none_tail told n e = ap (λ b. if b then None else Some Tail) (eq-eqb n told e)

lawful_log :
    (text : List ℕ) (a : Audited) (r : Result Log ℕ) → log_in text ≡ r → judged r ≡ Ok a
    → IsLawfulLog text a
lawful_log text a (Err n) is h = absurd (cc)
lawful_log text a (Ok l) is h =
    let p = passed_by (refusal_of l) (counted l) a (sym h) in
    let o = none_first (entry_refusal l) (count_refusal l) p.0 in
    record {
      log = l;
      form = is;
      lawful =
          record {
            all = none_all (config_of l.heading) l.body.ending.turns 2 [] l.body.entries o.0;
            tail =
                tail_none l.body.ending.returned (how_many is_returned_entry l.body.entries) _
                refl o.1;
          };
      counts = p.1;
    }

judged_yes : (text : List ℕ) (a : Audited) → IsLawfulLog text a → judged (log_in text) ≡ Ok a
judged_yes text a h =
    let l = h.log in
    let n = how_many is_returned_entry l.body.entries in
    let met =
    all_none (config_of l.heading) l.body.ending.turns 2 [] l.body.entries h.lawful.all in
    ap judged h.form
    ∙ ap (λ o. unless (or_else o (count_refusal l)) (counted l)) met
    ∙ ap (λ o. unless o (counted l)) (none_tail l.body.ending.returned n h.lawful.tail)
    ∙ ap (λ z. Ok z) (sym h.counts)

pub yes_exactly : YesExactlyWhereLawful
unfolding audited
yes_exactly text a = (λ h. lawful_log text a (log_in text) refl h, λ h. judged_yes text a h)

pub yes_by :
    (text : List ℕ) (answer : Result Audited AuditRefusal) → answer ≡ audited text
    → YesWhereLawful text answer
yes_by text answer is = subst (YesWhereLawful text) (sym is) (yes_exactly text)
