-- What is remembered decides as the definition does.
use Rattle.std.proofs.Common.{◌≡◌, ℕ, ◌-◌, ◌≤◌, Bool, true, false, List, Option, None, refl, sym, ap, ◌∙◌, subst, arith, leb-true}
use Rattle.std.specs.Prelude.{◌==◌, ◌&&◌, ◌||◌, not, nat_lt, nat_le}
use Rattle.std.proofs.lemmas.Bool.{false_from_ne_true, ltb-true}
use Rattle.run_model.specs.declared.logs.What.{What}
use Rattle.run_model.specs.declared.logs.What.TheVariants as what
use Rattle.run_model.specs.declared.logs.Entry.{Entry}
use Rattle.run_model.specs.declared.logs.Config.{Config}
use Rattle.run_model.specs.Cores.{lowest}
use Rattle.run_model.specs.Sorts.{is_fail, is_fence, is_reason, is_returned, is_uncorrectable}
use Rattle.run_model.specs.Lawful.{Meets, allows, back, core_ok, fence, fences, fenced_ok, has_stop, head_is, in_turn, is_none, is_some_of, after_fence, may_retry, mine, on_hand, retried_in_vain, retry_ok, returned_ok, spared_ok, stop_ok}
use Rattle.program_model.specs.declared.refusals.AuditRefusal.{AuditRefusal}
use Rattle.log_audit.specs.declared.memory.KnownCpu.{KnownCpu}
use Rattle.log_audit.specs.declared.memory.LastTurn.{LastTurn}
use Rattle.log_audit.specs.Points.{Points, first_failed, first_of, points}
use Rattle.log_audit.specs.Remembered.{core_known, failed_all, failed_to, fenced_by, known, now_and, points_by, recent, retry_by, returned_by, spared_by, stop_by, turn_by}
use Rattle.log_audit.proofs.Chains.{in_vain_is, may_retry_is}
use Rattle.log_audit.proofs.Knowing.{KnownIs, known_is}
use Rattle.log_audit.proofs.Truths.{and_same}
use Rattle.log_audit.specs.Remembers.{Sorted, last_turn}
use Rattle.log_audit.proofs.Turned.{RecentIs, near_same, now_same, recent_is, turn_ok_le, turn_same}

-- ---- the points one by one

abbrev core_test : Config → Entry → Bool → Option ℕ → ℕ → Bool
core_test c e stopped fenced core =
    is_returned e.what
    || (nat_lt e.cpu.0 c.cpus && (not stopped && (allows e.turn fenced && (core == e.core.0))))

core_same :
    (c : Config) (past : List Entry) (k : KnownCpu) (e : Entry) → KnownIs e.cpu.0 past k
    → core_known c k e ≡ core_ok c past e
core_same c past k e h =
    ap (λ b. core_test c e b k.fenced k.core) h.stopped
    ∙ ap (λ o. core_test c e (has_stop e.cpu.0 past) o k.core) h.fenced
    ∙ ap (λ n. core_test c e (has_stop e.cpu.0 past) (fence e.cpu.0 past) n) h.core

failed_to_same :
    (i r : ℕ) (past : List Entry) (k : KnownCpu) → KnownIs i past k → 1 ≤ r
    → failed_to r k ≡ may_retry r (mine i past)
failed_to_same i r past k h le =
    ap (λ b. b && ((r == 1) || (k.retry_before == r - 1))) h.failed
    ∙ ap (λ n. head_is is_fail (mine i past) && ((r == 1) || (n == r - 1))) h.retry_before
    ∙ sym (may_retry_is r (mine i past) le)

failed_all_same :
    (i t : ℕ) (past : List Entry) (k : KnownCpu) → KnownIs i past k
    → failed_all t k ≡ retried_in_vain t (mine i past)
failed_all_same i t past k h =
    ap (λ b. b && ((t == 0) || (k.chain_before == t))) h.failed
    ∙ ap (λ n. head_is is_fail (mine i past) && ((t == 0) || (n == t))) h.chain_before
    ∙ sym (in_vain_is t (mine i past))

retry_same :
    (c : Config) (i : ℕ) (past : List Entry) (k : KnownCpu) (w : What) → KnownIs i past k
    → retry_by c k w ≡ retry_ok c past i w
retry_same c i past k (what.Retry r) h =
    and_same (nat_le 1 r) _ _
    (λ le. ap (λ b. nat_le r c.threshold && b) (failed_to_same i r past k h (leb-true 1 r le)))
retry_same c i past k _ h = refl

fenced_same :
    (c : Config) (t i : ℕ) (past : List Entry) (k : KnownCpu) (r : LastTurn) (w : What)
    → Sorted past → KnownIs i past k → RecentIs past r → last_turn past ≤ t
    → fenced_by c k r t w ≡ fenced_ok c past t i w
fenced_same c t i past k r what.Fenced s h g le =
    ap (λ o. is_none o && (now_and r t r.uncorrectable || failed_all c.threshold k)) h.fenced
    ∙ ap (λ b. is_none (fence i past) && (b || failed_all c.threshold k))
    (now_same t past r r.uncorrectable is_uncorrectable s g le g.uncorrectable)
    ∙ ap (λ b. is_none (fence i past) && (in_turn t is_uncorrectable past || b))
    (failed_all_same i c.threshold past k h)
fenced_same c t i past k r _ s h g le = refl

spared_same :
    (c : Config) (t : ℕ) (past : List Entry) (r : LastTurn) (o : Option ℕ) (w : What)
    → Sorted past → RecentIs past r → last_turn past ≤ t → o ≡ lowest (on_hand c past) 0 16
    → spared_by r t o w ≡ spared_ok c past t w
spared_same c t past r o (what.Spared k) s g le e =
    ap (λ b. b && is_some_of k.0 o) (near_same t past r s g le)
    ∙ ap (λ z. after_fence t past && is_some_of k.0 z) e
spared_same c t past r o what.NoSpare s g le e =
    ap (λ b. b && is_none o) (near_same t past r s g le)
    ∙ ap (λ z. after_fence t past && is_none z) e
spared_same c t past r o _ s g le e = refl

stop_same :
    (t : ℕ) (past : List Entry) (r : LastTurn) (w : What) → Sorted past → RecentIs past r
    → last_turn past ≤ t → stop_by r t w ≡ stop_ok past t w
stop_same t past r what.Stop s g le =
    ap (λ b. b && now_and r t r.fenced) (now_same t past r r.reason is_reason s g le g.reason)
    ∙ ap (λ b. in_turn t is_reason past && b) (now_same t past r r.fenced is_fence s g le g.fenced)
stop_same t past r _ s g le = refl

returned_same :
    (past : List Entry) (k : ℕ) (f : Bool) (w : What)
    → f ≡ nat_lt (back k past) (fences k past) → returned_by f w ≡ returned_ok past k w
returned_same past k f what.Returned e = e
returned_same past k f _ e = refl

-- ---- all of them

record SamePoints (a b : Points) : Type 0 where
  core : a.core ≡ b.core
  retry : a.retry ≡ b.retry
  fenced : a.fenced ≡ b.fenced
  spared : a.spared ≡ b.spared
  stop : a.stop ≡ b.stop
  returned : a.returned ≡ b.returned

-- the others count only where the first is met
refusal_same :
    (n : ℕ) (a b : Points) → a.turn ≡ b.turn → (b.turn ≡ true → SamePoints a b)
    → first_failed n a ≡ first_failed n b
refusal_same n a b t h =
    ap (λ z. first_of n z a.core a.retry a.fenced a.spared a.stop a.returned) t
    ∙ by_turn b.turn refl
  where
    by_turn :
        (x : Bool) → b.turn ≡ x
        → first_of n b.turn a.core a.retry a.fenced a.spared a.stop a.returned
        ≡ first_of n b.turn b.core b.retry b.fenced b.spared b.stop b.returned
    by_turn true e =
        let p = h e in
        ap (λ z. first_of n b.turn z a.retry a.fenced a.spared a.stop a.returned) p.core
        ∙ ap (λ z. first_of n b.turn b.core z a.fenced a.spared a.stop a.returned) p.retry
        ∙ ap (λ z. first_of n b.turn b.core b.retry z a.spared a.stop a.returned) p.fenced
        ∙ ap (λ z. first_of n b.turn b.core b.retry b.fenced z a.stop a.returned) p.spared
        ∙ ap (λ z. first_of n b.turn b.core b.retry b.fenced b.spared z a.returned) p.stop
        ∙ ap (λ z. first_of n b.turn b.core b.retry b.fenced b.spared b.stop z) p.returned
    by_turn false e =
        ap (λ z. first_of n z a.core a.retry a.fenced a.spared a.stop a.returned) e
        ∙ sym (ap (λ z. first_of n z b.core b.retry b.fenced b.spared b.stop b.returned) e)

-- one entry is judged by what is remembered as by all before it
pub judged_same :
    (n : ℕ) (c : Config) (last : ℕ) (past : List Entry) (e : Entry) (k : KnownCpu)
    (r : LastTurn) (o : Option ℕ) (f : Bool)
    → Sorted past → k ≡ known e.cpu.0 past → r ≡ recent past
    → o ≡ lowest (on_hand c past) 0 16 → f ≡ nat_lt (back e.core.0 past) (fences e.core.0 past)
    → first_failed n (points_by c last k r o f e) ≡ first_failed n (points c last past e)
judged_same n c last past e k r o f s ek er eo ef =
    let h : KnownIs e.cpu.0 past k =
    subst (λ z. KnownIs e.cpu.0 past z) (sym ek) (known_is e.cpu.0 past) in
    let g : RecentIs past r = subst (λ z. RecentIs past z) (sym er) (recent_is past s) in
    refusal_same n (points_by c last k r o f e) (points c last past e)
    (ap (λ z. turn_by last z e) er ∙ turn_same last past e)
    (λ t.
    let le = turn_ok_le last past e t in
    record {
      core = core_same c past k e h;
      retry = retry_same c e.cpu.0 past k e.what h;
      fenced = fenced_same c e.turn e.cpu.0 past k r e.what s h g le;
      spared = spared_same c e.turn past r o e.what s g le eo;
      stop = stop_same e.turn past r e.what s g le;
      returned = returned_same past e.core.0 f e.what ef;
    })

-- ---- no refusal exactly where an entry meets all points

pub meets_none :
    (n : ℕ) (c : Config) (last : ℕ) (past : List Entry) (e : Entry) → Meets c last past e
    → first_failed n (points c last past e) ≡ None
meets_none n c last past e m =
    rw (m.turn, m.core, m.retry, m.fenced, m.spared, m.stop, m.returned) refl

abbrev AllTrue : Bool → Bool → Bool → Bool → Bool → Bool → Bool → Type 0
AllTrue a b d e f g i =
    (a ≡ true) × (b ≡ true) × (d ≡ true) × (e ≡ true) × (f ≡ true) × (g ≡ true) × (i ≡ true)

none_by : (n : ℕ) (a b d e f g i : Bool) → first_of n a b d e f g i ≡ None → AllTrue a b d e f g i
none_by n true true true true true true true h = (refl, refl, refl, refl, refl, refl, refl)
none_by n true true true true true true false h = absurd (cc h)
none_by n true true true true true false i h = absurd (cc h)
none_by n true true true true false g i h = absurd (cc h)
none_by n true true true false f g i h = absurd (cc h)
none_by n true true false e f g i h = absurd (cc h)
none_by n true false d e f g i h = absurd (cc h)
none_by n false b d e f g i h = absurd (cc h)

pub none_meets :
    (n : ℕ) (c : Config) (last : ℕ) (past : List Entry) (e : Entry)
    → first_failed n (points c last past e) ≡ None → Meets c last past e
none_meets n c last past e h =
    let t : Points = points c last past e in
    let p = none_by n t.turn t.core t.retry t.fenced t.spared t.stop t.returned h in
    record {
      turn = p.0;
      core = p.1;
      retry = p.2;
      fenced = p.3;
      spared = p.4;
      stop = p.5;
      returned = p.6;
    }

-- ---- of a CPU that the machine has not nothing need be known

-- the CPU goes on, and is on the core of the entry
abbrev is_on : KnownCpu → Entry → Bool
is_on k e = not k.stopped && (allows e.turn k.fenced && (k.core == e.core.0))

-- the refusal by what an entry says, and whether the second point is met
abbrev refusal_with :
    ℕ → Config → ℕ → KnownCpu → LastTurn → Option ℕ → Bool → Entry → What → Bool
    → Option AuditRefusal
refusal_with n c last k r o f e w core =
    first_of n (turn_by last r e) core (retry_by c k w) (fenced_by c k r e.turn w)
    (spared_by r e.turn o w) (stop_by r e.turn w) (returned_by f w)

abbrev refusal_at :
    ℕ → Config → ℕ → KnownCpu → LastTurn → Option ℕ → Bool → Entry → What → Option AuditRefusal
refusal_at n c last k r o f e w =
    refusal_with n c last k r o f e w (is_returned w || (nat_lt e.cpu.0 c.cpus && is_on k e))

no_core :
    (n : ℕ) (c : Config) (last : ℕ) (k l : KnownCpu) (r : LastTurn) (o : Option ℕ) (f : Bool)
    (e : Entry)
    → is_returned e.what ≡ false → nat_lt e.cpu.0 c.cpus ≡ false
    → first_failed n (points_by c last k r o f e) ≡ first_failed n (points_by c last l r o f e)
no_core n c last k l r o f e plain far =
    let one : (m : KnownCpu) → core_known c m e ≡ false =
    λ m. ap (λ z. z || (nat_lt e.cpu.0 c.cpus && is_on m e)) plain ∙ ap (λ z. z && is_on m e) far in
    ap (λ z. refusal_with n c last k r o f e e.what z) (one k)
    ∙ sym (ap (λ z. refusal_with n c last l r o f e e.what z) (one l))

returned_only :
    (n : ℕ) (c : Config) (last : ℕ) (k l : KnownCpu) (r : LastTurn) (o : Option ℕ) (f : Bool)
    (e : Entry) (w : What)
    → e.what ≡ w → nat_lt e.cpu.0 c.cpus ≡ false
    → first_failed n (points_by c last k r o f e) ≡ first_failed n (points_by c last l r o f e)
returned_only n c last k l r o f e what.Returned is far =
    ap (refusal_at n c last k r o f e) is ∙ sym (ap (refusal_at n c last l r o f e) is)
returned_only n c last k l r o f e _ is far = no_core n c last k l r o f e (ap is_returned is) far

pub far_same :
    (n : ℕ) (c : Config) (last : ℕ) (k l : KnownCpu) (r : LastTurn) (o : Option ℕ) (f : Bool)
    (e : Entry)
    → c.cpus ≤ e.cpu.0
    → first_failed n (points_by c last k r o f e) ≡ first_failed n (points_by c last l r o f e)
far_same n c last k l r o f e le =
    returned_only n c last k l r o f e e.what refl
    (false_from_ne_true (nat_lt e.cpu.0 c.cpus)
    (λ h. let lt = ltb-true e.cpu.0 c.cpus h in absurd (omega (arith, lt, le))))
