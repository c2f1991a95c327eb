-- In the midst of a turn of a CPU: what the entries so far say, and how one entry more keeps it.
use Rattle.std.proofs.Common.{◌≡◌, ℕ, ◌+◌, ◌<◌, ◌≤◌, Bool, true, false, List, [], ◌∷◌, ◌++◌, Option, Some, None, refl, ap, ◌∙◌, arith, if◌then◌else◌, eq-eqb}
use Rattle.std.specs.Prelude.{⊤, ◌==◌, ◌&&◌, ◌||◌, not, nat_lt, nat_le}
use Rattle.std.proofs.lemmas.Bool.{lt-ltb, le-leb}
use Rattle.run_model.specs.declared.faults.Mode.{Mode}
use Rattle.run_model.specs.declared.faults.Mode.TheVariants.{Running, Recovering, Lost}
use Rattle.run_model.specs.declared.faults.Note.{Note}
use Rattle.run_model.specs.declared.logs.What.{What}
use Rattle.run_model.specs.declared.logs.What.TheVariants as what
use Rattle.run_model.specs.declared.logs.Entry.{Entry}
use Rattle.run_model.specs.declared.logs.Config.{Config}
use Rattle.run_model.specs.Cores.{entries_of, is_spare_number, entry, stamped}
use Rattle.run_model.specs.Since.{pushed}
use Rattle.run_model.specs.Sorts.{is_stop, is_returned, is_fence, is_spared_to}
use Rattle.run_model.specs.Lawful.{follows, has_stop, fence_by, fence, core_by, core_at, mine_by, mine, retried, retried_in_vain, back, gone, fences, bit, allows, retry_ok, fenced_ok, spared_ok, stop_ok, returned_ok, Meets, AllMeet}
use Rattle.run_laws.proofs.Standing.{and_both, or_r}

abbrev pub last_turn : List Entry → ℕ
last_turn [] = 0
last_turn (p ∷ ps) = p.turn

-- in the midst of turn t of CPU i, which has this core
pub record Mid (c : Config) (last t i core : ℕ) (f : Option ℕ) (ws : List What) (spare : ℕ
    → Bool) (fc : ℕ → ℕ) (past : List Entry) : Type 0 where
  pub low : 1 ≤ t
  pub high : t ≤ last
  pub cpu : i < c.cpus
  pub turn : (w : What) → is_returned w ≡ false → follows past (entry t i core w) ≡ true
  pub stop : has_stop i past ≡ false
  pub fence_is : fence i past ≡ f
  pub allowed : allows t f ≡ true
  pub core_is : core_at i past ≡ core
  pub mine_is : mine i past ≡ ws
  pub spares : (k : ℕ) → back k past + bit (is_spare_number c k) ≡ gone k past + bit (spare k)
  pub fenced : (k : ℕ) → fences k past ≡ back k past + fc k

-- an entry that is not RETURNED meets the first two points
pub meets : (c : Config) (last t i core : ℕ) (f : Option ℕ) (ws : List What) (spare : ℕ
    → Bool) (fc : ℕ → ℕ) (past : List Entry) (w : What) → Mid c last t i core f ws spare fc past
    → is_returned w ≡ false
    → retry_ok c past i w ≡ true → fenced_ok c past t i w ≡ true → spared_ok c past t w ≡ true
    → stop_ok past t w ≡ true → returned_ok past core w ≡ true
    → Meets c last past (entry t i core w)
meets c last t i core f ws spare fc past w m plain a b d e r = record {
  turn = and_both (nat_le 1 t) (nat_le t last && follows past (entry t i core w))
      (le-leb 1 t m.low)
      (and_both (nat_le t last) (follows past (entry t i core w)) (le-leb t last m.high)
      (m.turn w plain));
  core = or_r (is_returned w) _
      (and_both (nat_lt i c.cpus) _ (lt-ltb i c.cpus m.cpu)
      (and_both (not (has_stop i past)) _ (ap not m.stop)
      (and_both (allows t (fence i past)) (core_at i past == core)
      (ap (allows t) m.fence_is ∙ m.allowed)
      (eq-eqb (core_at i past) core m.core_is))));
  retry = a;
  fenced = b;
  spared = d;
  stop = e;
  returned = r;
}

same_turn : (t i core : ℕ) (w v : What) → is_returned w ≡ false → is_returned v ≡ false
    → (past : List Entry) → follows (entry t i core w ∷ past) (entry t i core v) ≡ true
same_turn t i core w v p q past =
    or_r (nat_lt t t) _
    (and_both (t == t) _ (eq-eqb t t refl)
    (and_both (i == i) _ (eq-eqb i i refl)
    (and_both (not (is_returned w)) (not (is_returned v)) (ap not p) (ap not q))))

pub no_and : (b : Bool) → (b && false) ≡ false
no_and true = refl
no_and false = refl

pub and_yes : (b : Bool) → (b && true) ≡ b
and_yes true = refl
and_yes false = refl

-- an entry of this turn is pushed
pub push : (c : Config) (last t i core : ℕ) (f : Option ℕ) (ws : List What) (spare : ℕ
    → Bool) (fc : ℕ → ℕ) (past : List Entry) (w : What) (f2 : Option ℕ) (spare2 : ℕ
    → Bool) (fc2 : ℕ → ℕ) → Mid c last t i core f ws spare fc past
    → is_returned w ≡ false → is_stop w ≡ false → fence_by w t f ≡ f2 → allows t f2 ≡ true
    → ((k : ℕ) → core_by w k ≡ k)
    → ((k : ℕ)
    → back k past + bit (is_spare_number c k)
    ≡ (bit (is_spared_to k w) + gone k past) + bit (spare2 k))
    → ((k : ℕ) → bit ((core == k) && is_fence w) + fences k past ≡ back k past + fc2 k)
    → Mid c last t i core f2 (mine_by w ws) spare2 fc2 (entry t i core w ∷ past)
push c last t i core f ws spare fc past w f2 spare2 fc2 m plain going fence_step ok stay hand
    count = record {
      low = m.low;
      high = m.high;
      cpu = m.cpu;
      turn = λ v q. same_turn t i core w v plain q past;
      stop = ap (λ b. ((i == i) && b) || has_stop i past) going
          ∙ ap (λ b. b || has_stop i past) (no_and (i == i)) ∙ m.stop;
      fence_is =
          ap (λ b. if b then fence_by w t (fence i past) else fence i past) (eq-eqb i i refl)
          ∙ ap (fence_by w t) m.fence_is ∙ fence_step;
      allowed = ok;
      core_is =
          ap (λ b. if b then core_by w (core_at i past) else core_at i past) (eq-eqb i i refl)
          ∙ stay (core_at i past) ∙ m.core_is;
      mine_is = ap (λ b. if b then mine_by w (mine i past) else mine i past) (eq-eqb i i refl)
          ∙ ap (mine_by w) m.mine_is;
      spares = λ k. let none : bit ((core == k) && is_returned w) ≡ 0 =
          ap (λ b. bit ((core == k) && b)) plain ∙ ap bit (no_and (core == k)) in
          omega (arith, none, hand k);
      fenced = λ k. let none : bit ((core == k) && is_returned w) ≡ 0 =
          ap (λ b. bit ((core == k) && b)) plain ∙ ap bit (no_and (core == k)) in
          omega (arith, none, count k);
    }

-- an entry that neither stops, fences, spares nor returns
pub record Plain (w : What) : Type 0 where
  pub returned : is_returned w ≡ false
  pub stop : is_stop w ≡ false
  pub fence : is_fence w ≡ false
  pub keeps : (t : ℕ) (o : Option ℕ) → fence_by w t o ≡ o
  pub core : (k : ℕ) → core_by w k ≡ k
  pub spared : (k : ℕ) → is_spared_to k w ≡ false

pub push_plain : (c : Config) (last t i core : ℕ) (f : Option ℕ) (ws : List What) (spare : ℕ
    → Bool) (fc : ℕ → ℕ) (past : List Entry) (w : What) → Mid c last t i core f ws spare fc past
    → Plain w → Mid c last t i core f (mine_by w ws) spare fc (entry t i core w ∷ past)
push_plain c last t i core f ws spare fc past w m p =
    push c last t i core f ws spare fc past w f spare fc m p.returned p.stop
    (p.keeps t f) m.allowed p.core
    (λ k. let none : bit (is_spared_to k w) ≡ 0 = ap bit (p.spared k) in
    omega (arith, none, m.spares k))
    (λ k. let none : bit ((core == k) && is_fence w) ≡ 0 =
    ap (λ b. bit ((core == k) && b)) p.fence ∙ ap bit (no_and (core == k)) in
    omega (arith, none, m.fenced k))

pub push_fenced : (c : Config) (last t i core : ℕ) (f : Option ℕ) (ws : List What) (spare : ℕ
    → Bool) (fc : ℕ → ℕ) (past : List Entry) → Mid c last t i core f ws spare fc past
    → Mid c last t i core (Some t) (what.Fenced ∷ ws) spare (λ k. fc k + bit (core == k))
    (entry t i core what.Fenced ∷ past)
push_fenced c last t i core f ws spare fc past m =
    push c last t i core f ws spare fc past what.Fenced (Some t) spare
    (λ k. fc k + bit (core == k)) m refl refl refl (eq-eqb t t refl) (λ k. refl)
    (λ k. omega (arith, m.spares k))
    (λ k. let same : bit ((core == k) && true) ≡ bit (core == k) = ap bit (and_yes (core == k)) in
    omega (arith, same, m.fenced k))

-- corrected words, and then what follows them
pub notes_then : (c : Config) (last t i core : ℕ) (f : Option ℕ) (ws : List What) (spare : ℕ
    → Bool) (fc : ℕ → ℕ) (Fin R : List Entry → Type 0) (ts : List What)
    → ((past : List Entry) (w b : ℕ) → R past → R (entry t i core (what.Corrected w b) ∷ past))
    → ((past : List Entry) → Mid c last t i core f ws spare fc past → R past
    → AllMeet c last past (stamped t i core ts) × Fin (pushed (stamped t i core ts) past))
    → (notes : List Note) (past : List Entry) → Mid c last t i core f ws spare fc past → R past
    → AllMeet c last past (stamped t i core (entries_of notes ++ ts))
    × Fin (pushed (stamped t i core (entries_of notes ++ ts)) past)
notes_then c last t i core f ws spare fc Fin R ts keep more [] past m r = more past m r
notes_then c last t i core f ws spare fc Fin R ts keep more (n ∷ ns) past m r =
    let w : What = what.Corrected n.word n.bit in
    let first : Meets c last past (entry t i core w) =
    meets c last t i core f ws spare fc past w m refl refl refl refl refl refl in
    let rest =
    notes_then c last t i core f ws spare fc Fin R ts keep more ns (entry t i core w ∷ past)
    (push_plain c last t i core f ws spare fc past w m
    (record {
      returned = refl;
      stop = refl;
      fence = refl;
      keeps = λ t o. refl;
      core = λ k. refl;
      spared = λ k. refl;
    })) (keep past n.word n.bit r) in
    ((first, rest.0), rest.1)

-- ---- what the entries say of a CPU between turns
pub record OnCore (i core : ℕ) (past : List Entry) : Type 0 where
  pub stop : has_stop i past ≡ false
  pub fence_is : fence i past ≡ None
  pub core_is : core_at i past ≡ core

abbrev pub FitsMode : ℕ → Mode → ℕ → ℕ → List Entry → ℕ → Type 0
FitsMode t Running core r past i = OnCore i core past × (r ≤ t) × (retried r (mine i past) ≡ true)
FitsMode t Recovering core r past i =
    OnCore i core past × (r ≤ t) × (retried_in_vain r (mine i past) ≡ true)
FitsMode t Lost core r past i = ⊤

-- the end of a turn of CPU i
pub record End (c : Config) (i : ℕ) (mode : Mode) (core r : ℕ) (spare fc_is : ℕ
    → Bool) (past : List Entry) : Type 0 where
  pub fits : FitsMode c.threshold mode core r past i
  pub spares : (k : ℕ) → back k past + bit (is_spare_number c k) ≡ gone k past + bit (spare k)
  pub fenced : (k : ℕ) → fences k past ≡ back k past + bit (fc_is k)
