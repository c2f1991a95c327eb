-- What is known of the CPUs and cores of a save whose fields are good.
use Rattle.std.specs.Prelude.{⊤, ◌==◌, ◌&&◌, ◌||◌, nat_le, nat_lt, not, if◌then◌else◌, slice_get, Option, Some, None}
use Rattle.std.proofs.Common.{◌≡◌, ℕ, zero, suc, ◌+◌, ◌≤◌, Bool, true, false, cond, List, [], ◌∷◌, ◌++◌, refl, ap, subst, ◌∙◌, arith}
use Rattle.std.proofs.lemmas.Bool.{eqb-true}
use Rattle.std.proofs.lemmas.Bool.Decides.{nat_tests}
use Rattle.run_model.specs.Cores.{belongs}
use Rattle.save_model.specs.Fields.{Field, all_good, first_bad}
use Rattle.save_model.specs.Parts.{config_of, core_fields, core_good, cores_fields, cpu_fields, cpus_fields, is_with_cpu, mode_good, place_good, word_fields}
use Rattle.save_model.specs.declared.parts.SaveHead.{SaveHead}
use Rattle.save_model.specs.declared.parts.SavedCore.{SavedCore}
use Rattle.save_model.specs.declared.parts.SavedCpu.{SavedCpu}
use Rattle.save_model.proofs.SaveRead.{left_true, right_true}

-- ---- fields

tail_good : (t : Bool) (at : ℕ) (o : Option ℕ) → cond t o (Some at) ≡ None → (t ≡ true) × (o ≡ None)
tail_good true at o e = (refl, e)
tail_good false at o e = absurd (cc e)

both_true : (a b : Bool) → a ≡ true → b ≡ true → (a && b) ≡ true
both_true true true p q = refl
both_true true false p q = q
both_true false b p q = p

pub good_all : (at : ℕ) (fs : List Field) → first_bad at fs ≡ None → all_good fs ≡ true
good_all at [] e = refl
good_all at (f ∷ fs) e =
    let p = tail_good f.good at (first_bad (at + f.width) fs) e in
    both_true f.good (all_good fs) p.0 (good_all (at + f.width) fs p.1)

pub both_good : (fs gs : List Field) → all_good (fs ++ gs) ≡ true
    → (all_good fs ≡ true) × (all_good gs ≡ true)
both_good [] gs e = (refl, e)
both_good (f ∷ fs) gs e =
    let first = left_true f.good (all_good (fs ++ gs)) e in
    let r = both_good fs gs (right_true f.good (all_good (fs ++ gs)) e) in
    (both_true f.good (all_good fs) first r.0, r.1)

-- ---- a CPU behind others

pub record CpuGood (h : SaveHead) (before : List SavedCpu) (c : SavedCpu) : Type 0 where
  pub mode : mode_good c.mode c.state ≡ true
  pub core : core_good h before c.mode c.core ≡ true
  pub state : nat_le c.state 2 ≡ true
  pub restart : nat_le c.restart 1 ≡ true
  pub key : nat_le c.key 1 ≡ true
  pub call : (nat_lt c.external_call h.cpus || (c.external_call == 255)) ≡ true
  pub zeros : (c.zeros == 0) ≡ true
  pub words : all_good (word_fields h.pages c.mode 0 c.words) ≡ true

-- each of them is good
abbrev pub AreGood : List Field → Type 0
AreGood [] = ⊤
AreGood (f ∷ fs) = (f.good ≡ true) × AreGood fs

pub are_good : (fs : List Field) → all_good fs ≡ true → AreGood fs
are_good [] e = tt
are_good (f ∷ fs) e =
    (left_true f.good (all_good fs) e, are_good fs (right_true f.good (all_good fs) e))

all_again : (fs : List Field) → AreGood fs → all_good fs ≡ true
all_again [] a = refl
all_again (f ∷ fs) a = both_true f.good (all_good fs) a.0 (all_again fs a.1)

cpu_good : (h : SaveHead) (before : List SavedCpu) (c : SavedCpu)
    → all_good (cpu_fields h before c) ≡ true → CpuGood h before c
cpu_good h before c e =
    let a = are_good (cpu_fields h before c) e in
    record {
      mode = a.0;
      core = a.1.0;
      state = a.1.1.1.0;
      restart = a.1.1.1.1.0;
      key = a.1.1.1.1.1.0;
      call = a.1.1.1.1.1.1.1.1.0;
      zeros = a.1.1.1.1.1.1.1.1.1.0;
      words = all_again (word_fields h.pages c.mode 0 c.words) a.1.1.1.1.1.1.1.1.1.1;
    }

pub each_good : (h : SaveHead) (before cs : List SavedCpu) → all_good (cpus_fields h before cs) ≡ true
    → (j : ℕ) (c : SavedCpu) → slice_get cs j ≡ Some c → (b : List SavedCpu) × CpuGood h b c
each_good h before [] e j c got = absurd (cc got)
each_good h before (d ∷ cs) e zero c got =
    let p = both_good (cpu_fields h before d) (cpus_fields h (before ++ d ∷ []) cs) e in
    let same : d ≡ c = cc got in
    (before, subst (λ q. CpuGood h before q) same (cpu_good h before d p.0))
each_good h before (d ∷ cs) e (suc j) c got =
    let p = both_good (cpu_fields h before d) (cpus_fields h (before ++ d ∷ []) cs) e in
    each_good h (before ++ d ∷ []) cs p.1 j c got

-- ---- how often a core is with a CPU

abbrev pub bit_of : Bool → ℕ
bit_of b = if b then 1 else 0

abbrev pub serves : SavedCpu → ℕ → Bool
serves c k = nat_le c.mode 1 && (c.core == k)

abbrev pub served : List SavedCpu → ℕ → ℕ
served [] k = 0
served (c ∷ cs) k = bit_of (serves c k) + served cs k

any_by : (t : Bool) (n : ℕ) → (t || nat_lt 0 n) ≡ nat_lt 0 (bit_of t + n)
any_by true n = grind (arith, nat_tests)
any_by false n = grind (arith, nat_tests)

pub any_served : (cs : List SavedCpu) (k : ℕ) → is_with_cpu cs k ≡ nat_lt 0 (served cs k)
any_served [] k = refl
any_served (c ∷ cs) k =
    ap (λ b. serves c k || b) (any_served cs k) ∙ any_by (serves c k) (served cs k)

or_assoc : (a b c : Bool) → (a || (b || c)) ≡ ((a || b) || c)
or_assoc true b c = refl
or_assoc false b c = refl

or_false : (a : Bool) → (a || false) ≡ (false || a)
or_false true = refl
or_false false = refl

any_more : (xs : List SavedCpu) (c : SavedCpu) (k : ℕ)
    → is_with_cpu (xs ++ c ∷ []) k ≡ (is_with_cpu xs k || serves c k)
any_more [] c k = or_false (serves c k)
any_more (x ∷ xs) c k =
    ap (λ b. serves x k || b) (any_more xs c k) ∙ or_assoc (serves x k) (is_with_cpu xs k) (serves c k)

bit_le : (b : Bool) → bit_of b + 0 ≤ 1
bit_le true = omega arith
bit_le false = omega arith

step_by : (b t : Bool) (n : ℕ) → (t ≡ true → b ≡ false) → bit_of (b || t) + n ≤ 1
    → bit_of b + (bit_of t + n) ≤ 1
step_by true true n h le = absurd (cc (h refl))
step_by true false n h le = omega (arith, le)
step_by false true n h le = omega (arith, le)
step_by false false n h le = omega (arith, le)

core_free : (g m i : Bool) → (g && not (m && i)) ≡ true → m ≡ true → i ≡ false
core_free true true true e p = absurd (cc e)
core_free true true false e p = refl
core_free true false i e p = absurd (cc p)
core_free false m i e p = absurd (cc e)

not_before : (h : SaveHead) (before : List SavedCpu) (c : SavedCpu) (k : ℕ) → CpuGood h before c
    → serves c k ≡ true → is_with_cpu before k ≡ false
not_before h before c k g e =
    let alive = left_true (nat_le c.mode 1) (c.core == k) e in
    let same : c.core ≡ k = eqb-true c.core k (right_true (nat_le c.mode 1) (c.core == k) e) in
    subst (λ q. is_with_cpu before q ≡ false) same
    (core_free (belongs (config_of h) c.core) (nat_le c.mode 1) (is_with_cpu before c.core) g.core alive)

pub once_served : (h : SaveHead) (before cs : List SavedCpu)
    → all_good (cpus_fields h before cs) ≡ true
    → (k : ℕ) → bit_of (is_with_cpu before k) + served cs k ≤ 1
once_served h before [] e k = bit_le (is_with_cpu before k)
once_served h before (c ∷ cs) e k =
    let p = both_good (cpu_fields h before c) (cpus_fields h (before ++ c ∷ []) cs) e in
    let rest = once_served h (before ++ c ∷ []) cs p.1 k in
    let g = cpu_good h before c p.0 in
    step_by (is_with_cpu before k) (serves c k) (served cs k) (not_before h before c k g)
    (subst (λ b. bit_of b + served cs k ≤ 1) (any_more before c k) rest)

zero_before : (n : ℕ) → nat_lt 0 n ≡ nat_lt 0 (0 + n)
zero_before n = grind (arith, nat_tests)

belongs_by : (c : SavedCpu) (k n : ℕ) (t : Bool) (P : ℕ → Bool) → serves c k ≡ t → P c.core ≡ true
    → (nat_lt 0 n ≡ true → P k ≡ true) → nat_lt 0 (bit_of t + n) ≡ true → P k ≡ true
belongs_by c k n true P e g rest lt =
    subst (λ q. P q ≡ true) (eqb-true c.core k (right_true (nat_le c.mode 1) (c.core == k) e)) g
belongs_by c k n false P e g rest lt = rest (zero_before n ∙ lt)

pub belongs_served : (h : SaveHead) (before cs : List SavedCpu)
    → all_good (cpus_fields h before cs) ≡ true
    → (k : ℕ) → nat_lt 0 (served cs k) ≡ true → belongs (config_of h) k ≡ true
belongs_served h before [] e k lt = absurd (cc lt)
belongs_served h before (c ∷ cs) e k lt =
    let p = both_good (cpu_fields h before c) (cpus_fields h (before ++ c ∷ []) cs) e in
    let g = cpu_good h before c p.0 in
    belongs_by c k (served cs k) (serves c k) (belongs (config_of h)) refl
    (left_true (belongs (config_of h) c.core) (not (nat_le c.mode 1 && is_with_cpu before c.core)) g.core)
    (belongs_served h (before ++ c ∷ []) cs p.1 k) lt

-- ---- a core

pub record CoreGood (h : SaveHead) (cs : List SavedCpu) (k : ℕ) (c : SavedCore) : Type 0 where
  pub place : place_good h cs k c.place ≡ true
  pub zeros : (c.zeros == 0) ≡ true

core_is_good : (h : SaveHead) (cs : List SavedCpu) (k : ℕ) (c : SavedCore)
    → all_good (core_fields h cs k c) ≡ true → CoreGood h cs k c
core_is_good h cs k c e =
    let a = are_good (core_fields h cs k c) e in
    record { place = a.0; zeros = a.1.0 }

pub each_core_good : (h : SaveHead) (cs : List SavedCpu) (k : ℕ) (xs : List SavedCore)
    → all_good (cores_fields h cs k xs) ≡ true
    → (j : ℕ) (c : SavedCore) → slice_get xs j ≡ Some c → CoreGood h cs (k + j) c
each_core_good h cs k [] e j c got = absurd (cc got)
each_core_good h cs k (x ∷ xs) e zero c got =
    let p = both_good (core_fields h cs k x) (cores_fields h cs (k + 1) xs) e in
    let same : x ≡ c = cc got in
    let at : k ≡ k + 0 = omega arith in
    subst (λ q. CoreGood h cs q c) at
    (subst (λ q. CoreGood h cs k q) same (core_is_good h cs k x p.0))
each_core_good h cs k (x ∷ xs) e (suc j) c got =
    let p = both_good (core_fields h cs k x) (cores_fields h cs (k + 1) xs) e in
    let at : k + 1 + j ≡ k + suc j = omega arith in
    subst (λ q. CoreGood h cs q c) at (each_core_good h cs (k + 1) xs p.1 j c got)
