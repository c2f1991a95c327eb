-- How the turns end that stop a CPU, and chains of retries.
use Rattle.std.proofs.Common.{◌≡◌, ℕ, zero, suc, ◌+◌, ◌<◌, ◌≤◌, Bool, true, false, List, [], ◌∷◌, Option, Some, None, refl, sym, ap, ◌∙◌, subst, arith, if◌then◌else◌, eq-eqb, inl, inr}
use Rattle.std.specs.Prelude.{◌==◌, ◌-◌, ◌&&◌, ◌||◌, nat_lt}
use Rattle.std.proofs.lemmas.Bool.{cases_eq, ne_eqb, false≢true, lt-ltb, ltb-true, false_from_ne_true}
use Rattle.run_model.specs.declared.faults.Mode.{Mode}
use Rattle.run_model.specs.declared.faults.Mode.TheVariants.{Lost}
use Rattle.run_model.specs.declared.logs.What.{What}
use Rattle.run_model.specs.declared.logs.What.TheVariants as what
use Rattle.run_model.specs.declared.logs.Entry.{Entry}
use Rattle.run_model.specs.declared.logs.Config.{Config}
use Rattle.esa_model.specs.Machine.{at}
use Rattle.run_model.specs.Cores.{Cores, lowest, is_spare_number, is_fenced, entry, stamped}
use Rattle.run_model.specs.Since.{pushed}
use Rattle.run_model.specs.Sorts.{is_fail, is_fence, is_uncorrectable, is_reason, is_retry_of}
use Rattle.run_model.specs.Lawful.{follows, fence, mine, retried, retried_in_vain, head_is, may_retry, in_turn, back, gone, fences, bit, on_hand, after_fence, is_none, AllMeet}
use Rattle.run_laws.proofs.At.{at_same, at_other}
use Rattle.run_laws.proofs.Standing.{and_l, and_r, and_both, or_l, or_r}
use Rattle.run_laws.proofs.Midst.{last_turn, Mid, meets, no_and, push_plain, push_fenced, OnCore, FitsMode, End}

-- ---- what the log says of all cores
pub record Fits (c : Config) (s : Cores) (past : List Entry) : Type 0 where
  pub turns : last_turn past ≤ s.turns
  pub cpus : (i : ℕ) → i < c.cpus
      → FitsMode c.threshold (s.mode i) (s.core i) (s.retries i) past i
  pub spares : (k : ℕ) → back k past + bit (is_spare_number c k) ≡ gone k past + bit (s.spare k)
  pub fenced : (k : ℕ) → fences k past ≡ back k past + bit (is_fenced c s k)

pub fits_as : (t : ℕ) (m m2 : Mode) (core core2 r r2 : ℕ) (past : List Entry) (i : ℕ) → m2 ≡ m
    → core2 ≡ core → r2 ≡ r → FitsMode t m core r past i → FitsMode t m2 core2 r2 past i
fits_as t m m2 core core2 r r2 past i a b d y =
    subst (λ z. FitsMode t z core2 r2 past i) (sym a)
    (subst (λ z. FitsMode t m z r2 past i) (sym b)
    (subst (λ z. FitsMode t m core z past i) (sym d) y))

pub follows_new : (past : List Entry) (e : Entry) → last_turn past < e.turn
    → follows past e ≡ true
follows_new [] e lt = refl
follows_new (p ∷ ps) e lt = or_l (nat_lt p.turn e.turn) _ (lt-ltb p.turn e.turn lt)

pub start : (c : Config) (last : ℕ) (s : Cores) (i : ℕ) (past : List Entry) → i < c.cpus
    → s.turns + 1 ≤ last → Fits c s past → OnCore i (s.core i) past
    → Mid c last (s.turns + 1) i (s.core i) None (mine i past) s.spare
    (λ k. bit (is_fenced c s k)) past
start c last s i past lt room f o = record {
  low = omega arith;
  high = room;
  cpu = lt;
  turn = λ w plain.
      follows_new past (entry (s.turns + 1) i (s.core i) w) (omega (arith, f.turns));
  stop = o.stop;
  fence_is = o.fence_is;
  allowed = refl;
  core_is = o.core_is;
  mine_is = refl;
  spares = f.spares;
  fenced = f.fenced;
}

-- which cores are on hand
hand_by : (n m b d : ℕ) (spare : Bool) → b + d ≡ n + bit spare → nat_lt n (b + d) ≡ spare
hand_by n m b d true e = lt-ltb n (b + d) (omega (arith, e))
hand_by n m b d false e = not_less n (b + d) (omega (arith, e))
  where
    not_less : (x y : ℕ) → y ≤ x → nat_lt x y ≡ false
    not_less x y le =
        false_from_ne_true (nat_lt x y) (λ h. let lt = ltb-true x y h in
        absurd (omega (arith, lt, le)))

lowest_same : (f g : ℕ → Bool) (a n : ℕ) → ((k : ℕ) → f k ≡ g k) → lowest f a n ≡ lowest g a n
lowest_same f g a zero h = refl
lowest_same f g a (suc n) h = ap (λ b. if b then Some a else lowest f (a + 1) n) (h a)
    ∙ ap (λ o. if g a then Some a else o) (lowest_same f g (a + 1) n h)

pub lowest_hand : (c : Config) (spare : ℕ → Bool) (past : List Entry)
    → ((k : ℕ) → back k past + bit (is_spare_number c k) ≡ gone k past + bit (spare k))
    → lowest (on_hand c past) 0 16 ≡ lowest spare 0 16
lowest_hand c spare past h =
    lowest_same (on_hand c past) spare 0 16
    (λ k. hand_by (gone k past) 0 (back k past) (bit (is_spare_number c k)) (spare k) (h k))

-- ---- the ends of turns
pub stop_end : (c : Config) (last t i core r : ℕ) (f : Option ℕ) (ws : List What) (spare is : ℕ
    → Bool) (fc : ℕ → ℕ) (past : List Entry) (mode : Mode) → mode ≡ Lost
    → Mid c last t i core f ws spare fc past → ((k : ℕ) → fc k ≡ bit (is k))
    → End c i mode core r spare is (entry t i core what.Stop ∷ past)
stop_end c last t i core r f ws spare is fc past mode lost m h = record {
  fits = subst (λ z. FitsMode c.threshold z core r (entry t i core what.Stop ∷ past) i)
      (sym lost) tt;
  spares = λ k. let none : bit ((core == k) && false) ≡ 0 = ap bit (no_and (core == k)) in
      omega (arith, none, m.spares k);
  fenced = λ k. let none : bit ((core == k) && false) ≡ 0 = ap bit (no_and (core == k)) in
      omega (arith, none, m.fenced k, h k);
}

pub now : (t : ℕ) (b : Bool) → ((t == t) && b) ≡ b
now t b = ap (λ z. z && b) (eq-eqb t t refl)

-- UNCORRECTABLE, FENCED, STOP
pub lost_tail : (c : Config) (last t i core r : ℕ) (ws : List What) (spare is : ℕ → Bool) (fc : ℕ
    → ℕ) (mode : Mode) (w : ℕ) → mode ≡ Lost → ((k : ℕ) → fc k + bit (core == k) ≡ bit (is k))
    → (past : List Entry) → Mid c last t i core None ws spare fc past
    → AllMeet c last past (stamped t i core (what.Uncorrectable w ∷ what.Fenced ∷ what.Stop ∷ []))
    × End c i mode core r spare is
    (pushed (stamped t i core (what.Uncorrectable w ∷ what.Fenced ∷ what.Stop ∷ [])) past)
lost_tail c last t i core r ws spare is fc mode w lost count past m =
    let u : What = what.Uncorrectable w in
    let past1 : List Entry = entry t i core u ∷ past in
    let past2 : List Entry = entry t i core what.Fenced ∷ past1 in
    let m1 =
    push_plain c last t i core None ws spare fc past u m
    (record {
      returned = refl;
      stop = refl;
      fence = refl;
      keeps = λ t o. refl;
      core = λ k. refl;
      spared = λ k. refl;
    }) in
    let m2 = push_fenced c last t i core None (u ∷ ws) spare fc past1 m1 in
    let seen : in_turn t is_uncorrectable past1 ≡ true = or_l ((t == t) && true) _ (now t true) in
    let fence_ok :
    (is_none (fence i past1)
    && (in_turn t is_uncorrectable past1 || retried_in_vain c.threshold (mine i past1)))
    ≡ true =
    and_both (is_none (fence i past1)) _ (ap is_none m1.fence_is)
    (or_l (in_turn t is_uncorrectable past1) _ seen) in
    let reason : in_turn t is_reason past2 ≡ true =
    or_r ((t == t) && false) _ (or_l ((t == t) && true) _ (now t true)) in
    let there : in_turn t is_fence past2 ≡ true = or_l ((t == t) && true) _ (now t true) in (
      (
        meets c last t i core None ws spare fc past u m refl refl refl refl refl refl,
        (
          meets c last t i core None
              (u ∷ ws) spare fc past1 what.Fenced m1 refl refl fence_ok refl refl refl,
          (
            meets c last t i core (Some t) (what.Fenced ∷ u ∷ ws) spare
                (λ k. fc k + bit (core == k)) past2 what.Stop m2 refl refl refl refl
                (and_both (in_turn t is_reason past2) (in_turn t is_fence past2) reason there)
                refl,
            tt,
          ),
        ),
      ),
      stop_end c last t i core r (Some t) (what.Fenced ∷ u ∷ ws) spare is
          (λ k. fc k + bit (core == k)) past2 mode lost m2 count,
    )

-- FENCED, NOSPARE, STOP
pub none_tail : (c : Config) (last t i core r : ℕ) (ws : List What) (spare is : ℕ → Bool) (fc : ℕ
    → ℕ) (mode : Mode) → mode ≡ Lost → ((k : ℕ) → fc k + bit (core == k) ≡ bit (is k))
    → retried_in_vain c.threshold ws ≡ true → lowest spare 0 16 ≡ None → (past : List Entry)
    → Mid c last t i core None ws spare fc past
    → AllMeet c last past (stamped t i core (what.Fenced ∷ what.NoSpare ∷ what.Stop ∷ []))
    × End c i mode core r spare is
    (pushed (stamped t i core (what.Fenced ∷ what.NoSpare ∷ what.Stop ∷ [])) past)
none_tail c last t i core r ws spare is fc mode lost count failed none past m =
    let past1 : List Entry = entry t i core what.Fenced ∷ past in
    let past2 : List Entry = entry t i core what.NoSpare ∷ past1 in
    let m1 = push_fenced c last t i core None ws spare fc past m in
    let m2 =
    push_plain c last t i core (Some t) (what.Fenced ∷ ws) spare
    (λ k. fc k + bit (core == k)) past1 what.NoSpare m1
    (record {
      returned = refl;
      stop = refl;
      fence = refl;
      keeps = λ t o. refl;
      core = λ k. refl;
      spared = λ k. refl;
    }) in
    let fence_ok :
    (is_none (fence i past)
    && (in_turn t is_uncorrectable past || retried_in_vain c.threshold (mine i past)))
    ≡ true =
    and_both (is_none (fence i past)) _ (ap is_none m.fence_is)
    (or_r (in_turn t is_uncorrectable past) _
    (ap (retried_in_vain c.threshold) m.mine_is ∙ failed)) in
    let spare_ok : (after_fence t past1 && is_none (lowest (on_hand c past1) 0 16)) ≡ true =
    and_both (after_fence t past1) _ (eq-eqb t t refl)
    (ap is_none (lowest_hand c spare past1 m1.spares ∙ none)) in
    let reason : in_turn t is_reason past2 ≡ true = or_l ((t == t) && true) _ (now t true) in
    let there : in_turn t is_fence past2 ≡ true =
    or_r ((t == t) && false) _ (or_l ((t == t) && true) _ (now t true)) in (
      (
        meets c last t i core None ws spare fc past what.Fenced m refl refl fence_ok refl refl
            refl,
        (
          meets c last t i core (Some t) (what.Fenced ∷ ws) spare
              (λ k. fc k + bit (core == k)) past1 what.NoSpare m1 refl refl refl spare_ok refl
              refl,
          (
            meets c last t i core (Some t) (what.NoSpare ∷ what.Fenced ∷ ws) spare
                (λ k. fc k + bit (core == k)) past2 what.Stop m2 refl refl refl refl
                (and_both (in_turn t is_reason past2) (in_turn t is_fence past2) reason there)
                refl,
            tt,
          ),
        ),
      ),
      stop_end c last t i core r (Some t) (what.NoSpare ∷ what.Fenced ∷ ws) spare is
          (λ k. fc k + bit (core == k)) past2 mode lost m2 count,
    )

-- ---- chains of retries
suc_is : (n : ℕ) → n + 1 ≡ suc n
suc_is n = omega arith

pub retried_more : (r : ℕ) (ws : List What) → retried_in_vain r ws ≡ true
    → retried (r + 1) (what.Retry (r + 1) ∷ ws) ≡ true
retried_more r [] e = absurd (false≢true e)
retried_more r (w ∷ ws) e =
    subst (λ n. retried n (what.Retry (r + 1) ∷ w ∷ ws) ≡ true) (sym (suc_is r))
    (and_both ((r + 1) == suc r) _ (eq-eqb (r + 1) (suc r) (suc_is r)) e)

head_retried : (n : ℕ) (ws : List What) → retried (suc n) ws ≡ true
    → head_is (is_retry_of (suc n)) ws ≡ true
head_retried n [] e = e
head_retried n (w ∷ []) e = absurd (false≢true e)
head_retried n (w ∷ v ∷ ws) e = and_l (is_retry_of (suc n) w) _ e

one_or_more : (r : ℕ) (ws : List What) → retried r ws ≡ true
    → (((r + 1) == 1) || head_is (is_retry_of (r + 1 - 1)) ws) ≡ true
one_or_more zero ws e = refl
one_or_more (suc n) ws e = let same : suc n + 1 - 1 ≡ suc n = omega arith in
    or_r ((suc n + 1) == 1) _
    (subst (λ k. head_is (is_retry_of k) ws ≡ true) (sym same) (head_retried n ws e))

pub follow : (r : ℕ) (ws : List What) → retried_in_vain r ws ≡ true → may_retry (r + 1) ws ≡ true
follow r [] e = absurd (false≢true e)
follow r (w ∷ ws) e =
    and_both (is_fail w) _ (and_l (is_fail w) (retried r ws) e)
    (one_or_more r ws (and_r (is_fail w) (retried r ws) e))

-- a spare that is taken is one more that is gone
pub spare_gone : (k2 k : ℕ) (p : List Entry) (spare : ℕ → Bool) (n : ℕ) (b : Bool)
    → spare k2 ≡ true → back k p + n ≡ gone k p + bit (spare k)
    → (bit (b && false) + back k p) + n ≡ (bit (k2 == k) + gone k p) + bit (at spare k2 false k)
spare_gone k2 k p spare n b is e = elim (cases_eq k k2) [
  | inl same ↦
      let none : bit (b && false) ≡ 0 = ap bit (no_and b) in
      let one : bit (k2 == k) ≡ 1 = ap bit (eq-eqb k2 k (sym same)) in
      let old : bit (spare k) ≡ 1 = ap bit (ap spare same ∙ is) in
      let new : bit (at spare k2 false k) ≡ 0 =
      ap bit (ap (at spare k2 false) same ∙ at_same spare k2 false) in
      omega (arith, none, one, old, new, e)
  | inr ne ↦
      let none : bit (b && false) ≡ 0 = ap bit (no_and b) in
      let zero_bit : bit (k2 == k) ≡ 0 = ap bit (ne_eqb k2 k (λ h. ne (sym h))) in
      let new : bit (at spare k2 false k) ≡ bit (spare k) =
      ap bit (at_other spare k2 false k ne) in
      omega (arith, none, zero_bit, new, e)
]
