-- What is known of the last turn is what its entries say.
use Rattle.std.proofs.Common.{◌≡◌, ℕ, ◌<◌, ◌≤◌, Bool, true, false, List, [], ◌∷◌, refl, sym, ap, ◌∙◌, arith, eq-eqb, eqb-true, inl, inr}
use Rattle.std.specs.Prelude.{◌==◌, ◌&&◌, ◌||◌, not, nat_le, nat_lt}
use Rattle.std.proofs.lemmas.Bool.{cases_eq, leb-true, lt-ltb, ltb-true, ne_eqb}
use Rattle.run_model.specs.declared.logs.What.{What}
use Rattle.run_model.specs.declared.logs.What.TheVariants as what
use Rattle.run_model.specs.declared.logs.Entry.{Entry}
use Rattle.run_model.specs.Sorts.{is_fence, is_reason, is_returned, is_uncorrectable}
use Rattle.run_model.specs.Lawful.{after_fence, after_fence_by, follows, in_turn, turn_ok}
use Rattle.log_audit.specs.declared.memory.LastTurn.{LastTurn}
use Rattle.log_audit.specs.Remembered.{now_and, recent, turn_by}
use Rattle.log_audit.specs.Remembers.{Sorted, last_turn}
use Rattle.log_audit.proofs.Truths.{and_l, and_r, and_same}

pub record RecentIs (past : List Entry) (r : LastTurn) : Type 0 where
  pub turn : r.turn ≡ last_turn past
  pub uncorrectable : r.uncorrectable ≡ in_turn (last_turn past) is_uncorrectable past
  pub reason : r.reason ≡ in_turn (last_turn past) is_reason past
  pub fenced : r.fenced ≡ in_turn (last_turn past) is_fence past
  pub just_fenced : r.just_fenced ≡ after_fence (last_turn past) past

none_later :
    (t : ℕ) (p : What → Bool) (past : List Entry) → Sorted past → last_turn past < t
    → in_turn t p past ≡ false
none_later t p [] s lt = refl
none_later t p (e ∷ es) s lt =
    ap (λ b. (b && p e.what) || in_turn t p es) (ne_eqb e.turn t (λ h. omega (arith, h, lt)))
    ∙ none_later t p es s.1 (omega (arith, s.0, lt))

near_by : (w : What) (rest : Bool) → rest ≡ false → after_fence_by w false rest ≡ false
near_by (what.Corrected w b) rest e = e
near_by _ rest e = refl

near_later :
    (t : ℕ) (past : List Entry) → Sorted past → last_turn past < t → after_fence t past ≡ false
near_later t [] s lt = refl
near_later t (e ∷ es) s lt =
    ap (λ b. after_fence_by e.what b (after_fence t es))
    (ne_eqb e.turn t (λ h. omega (arith, h, lt)))
    ∙ near_by e.what (after_fence t es) (near_later t es s.1 (omega (arith, s.0, lt)))

-- what is asked of this turn is what is remembered of the last one, if it is the same
asked :
    (t : ℕ) (p : What → Bool) (past : List Entry) → Sorted past → last_turn past ≤ t
    → in_turn t p past ≡ ((last_turn past == t) && in_turn (last_turn past) p past)
asked t p past s le = elim (cases_eq (last_turn past) t) [
  | inl is ↦
      ap (λ n. in_turn n p past) (sym is)
      ∙ sym (ap (λ b. b && in_turn (last_turn past) p past) (eq-eqb (last_turn past) t is))
  | inr ne ↦
      none_later t p past s (omega (arith, ne, le))
      ∙ sym (ap (λ b. b && in_turn (last_turn past) p past) (ne_eqb (last_turn past) t ne))
]

asked_near :
    (t : ℕ) (past : List Entry) → Sorted past → last_turn past ≤ t
    → after_fence t past ≡ ((last_turn past == t) && after_fence (last_turn past) past)
asked_near t past s le = elim (cases_eq (last_turn past) t) [
  | inl is ↦
      ap (λ n. after_fence n past) (sym is)
      ∙ sym (ap (λ b. b && after_fence (last_turn past) past) (eq-eqb (last_turn past) t is))
  | inr ne ↦
      near_later t past s (omega (arith, ne, le))
      ∙ sym (ap (λ b. b && after_fence (last_turn past) past) (ne_eqb (last_turn past) t ne))
]

in_now :
    (p : What → Bool) (past : List Entry) (e : Entry) (r : LastTurn) (b : Bool)
    → Sorted (e ∷ past) → r.turn ≡ last_turn past → b ≡ in_turn (last_turn past) p past
    → (p e.what || ((r.turn == e.turn) && b)) ≡ in_turn e.turn p (e ∷ past)
in_now p past e r b s t h =
    ap (λ n. p e.what || ((n == e.turn) && b)) t
    ∙ ap (λ z. p e.what || ((last_turn past == e.turn) && z)) h
    ∙ ap (λ z. p e.what || z) (sym (asked e.turn p past s.1 s.0))
    ∙ ap (λ z. (z && p e.what) || in_turn e.turn p past) (sym (eq-eqb e.turn e.turn refl))

near_now :
    (past : List Entry) (e : Entry) (r : LastTurn) → Sorted (e ∷ past)
    → r.turn ≡ last_turn past → r.just_fenced ≡ after_fence (last_turn past) past
    → after_fence_by e.what true ((r.turn == e.turn) && r.just_fenced)
    ≡ after_fence e.turn (e ∷ past)
near_now past e r s t h =
    ap (λ n. after_fence_by e.what true ((n == e.turn) && r.just_fenced)) t
    ∙ ap (λ z. after_fence_by e.what true ((last_turn past == e.turn) && z)) h
    ∙ ap (λ z. after_fence_by e.what true z) (sym (asked_near e.turn past s.1 s.0))
    ∙ ap (λ z. after_fence_by e.what z (after_fence e.turn past)) (sym (eq-eqb e.turn e.turn refl))

pub recent_is : (past : List Entry) → Sorted past → RecentIs past (recent past)
unfolding recent
recent_is [] s = record {
  turn = refl;
  uncorrectable = refl;
  reason = refl;
  fenced = refl;
  just_fenced = refl;
}
recent_is (e ∷ past) s =
    let h = recent_is past s.1 in
    let r : LastTurn = recent past in
    record {
      turn = refl;
      uncorrectable = in_now is_uncorrectable past e r r.uncorrectable s h.turn h.uncorrectable;
      reason = in_now is_reason past e r r.reason s h.turn h.reason;
      fenced = in_now is_fence past e r r.fenced s h.turn h.fenced;
      just_fenced = near_now past e r s h.turn h.just_fenced;
    }

-- ---- the turns of a log whose entries meet the first point never fall

follows_by :
    (past : List Entry) (e : Entry) → 1 ≤ e.turn
    → (nat_lt (recent past).turn e.turn
    || (((recent past).turn == e.turn)
    && (((recent past).cpu == e.cpu.0)
    && (not (recent past).returned && not (is_returned e.what)))))
    ≡ follows past e
unfolding recent
follows_by [] e le =
    ap (λ b. b || ((0 == e.turn) && ((0 == e.cpu.0) && (not false && not (is_returned e.what)))))
    (lt-ltb 0 e.turn (omega (arith, le)))
follows_by (p ∷ ps) e le = refl

pub turn_same :
    (last : ℕ) (past : List Entry) (e : Entry)
    → turn_by last (recent past) e ≡ turn_ok last past e
turn_same last past e =
    and_same (nat_le 1 e.turn) _ _
    (λ le. ap (λ b. nat_le e.turn last && b) (follows_by past e (leb-true 1 e.turn le)))

follows_le : (past : List Entry) (e : Entry) → follows past e ≡ true → last_turn past ≤ e.turn
follows_le [] e h = omega arith
follows_le (p ∷ ps) e h = by_cases (nat_lt p.turn e.turn) refl h
  where
    by_cases :
        (b : Bool) → nat_lt p.turn e.turn ≡ b
        → (b
        || ((p.turn == e.turn)
        && ((p.cpu.0 == e.cpu.0) && (not (is_returned p.what) && not (is_returned e.what)))))
        ≡ true
        → p.turn ≤ e.turn
    by_cases true is g =
        let lt : p.turn < e.turn = ltb-true p.turn e.turn is in omega (arith, lt)
    by_cases false is g =
        let same : p.turn ≡ e.turn = eqb-true p.turn e.turn (and_l (p.turn == e.turn) _ g) in
        omega (arith, same)

pub turn_ok_le :
    (last : ℕ) (past : List Entry) (e : Entry) → turn_ok last past e ≡ true
    → last_turn past ≤ e.turn
turn_ok_le last past e h =
    follows_le past e (and_r (nat_le e.turn last) _ (and_r (nat_le 1 e.turn) _ h))

-- ---- what is asked of this turn

pub now_same :
    (t : ℕ) (past : List Entry) (r : LastTurn) (b : Bool) (p : What → Bool) → Sorted past
    → RecentIs past r → last_turn past ≤ t → b ≡ in_turn (last_turn past) p past
    → now_and r t b ≡ in_turn t p past
now_same t past r b p s h le e =
    ap (λ n. (n == t) && b) h.turn ∙ ap (λ z. (last_turn past == t) && z) e
    ∙ sym (asked t p past s le)

pub near_same :
    (t : ℕ) (past : List Entry) (r : LastTurn) → Sorted past → RecentIs past r
    → last_turn past ≤ t → now_and r t r.just_fenced ≡ after_fence t past
near_same t past r s h le =
    ap (λ n. (n == t) && r.just_fenced) h.turn
    ∙ ap (λ z. (last_turn past == t) && z) h.just_fenced ∙ sym (asked_near t past s le)
