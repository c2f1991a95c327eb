-- What is known of a CPU is what its entries say.
use Rattle.std.proofs.Common.{◌≡◌, ◌≢◌, ℕ, Bool, true, false, List, [], ◌∷◌, Option, refl, sym, ap, ◌∙◌, subst, if◌then◌else◌, eq-eqb, inl, inr}
use Rattle.std.specs.Prelude.{◌==◌, ◌&&◌, ◌||◌}
use Rattle.std.proofs.lemmas.Bool.{cases_eq, ne_eqb, false≢true, true≢false}
use Rattle.run_model.specs.declared.logs.What.{What}
use Rattle.run_model.specs.declared.logs.What.TheVariants as what
use Rattle.run_model.specs.declared.logs.Entry.{Entry}
use Rattle.run_model.specs.Sorts.{is_corrected, is_fail, is_stop}
use Rattle.run_model.specs.Lawful.{core_at, core_by, fence, fence_by, has_stop, head_is, mine, mine_by}
use Rattle.log_audit.specs.declared.memory.KnownCpu.{KnownCpu}
use Rattle.log_audit.specs.Remembered.{chain_by, known, learn, retry_number}

abbrev pub number : List What → ℕ
number [] = 0
number (w ∷ ws) = retry_number w

abbrev pub tail : List What → List What
tail [] = []
tail (w ∷ ws) = ws

abbrev pub chain : List What → ℕ
chain [] = 0
chain (w ∷ []) = 0
chain (w ∷ v ∷ ws) = chain_by w (is_fail v) (chain ws)

chain_none : (w : What) → 0 ≡ chain_by w false 0
chain_none (what.Retry r) = refl
chain_none _ = refl

chain_cons :
    (w : What) (ws : List What)
    → chain (w ∷ ws) ≡ chain_by w (head_is is_fail ws) (chain (tail ws))
chain_cons w [] = chain_none w
chain_cons w (v ∷ ws) = refl

pub record KnownIs (i : ℕ) (past : List Entry) (k : KnownCpu) : Type 0 where
  pub stopped : k.stopped ≡ has_stop i past
  pub fenced : k.fenced ≡ fence i past
  pub core : k.core ≡ core_at i past
  pub failed : k.failed ≡ head_is is_fail (mine i past)
  pub retry : k.retry ≡ number (mine i past)
  pub retry_before : k.retry_before ≡ number (tail (mine i past))
  pub chain_is : k.chain ≡ chain (mine i past)
  pub chain_before : k.chain_before ≡ chain (tail (mine i past))

mine_more : (w : What) (ws : List What) → is_corrected w ≡ false → mine_by w ws ≡ w ∷ ws
mine_more (what.Corrected w b) ws e = absurd (true≢false e)
mine_more _ ws e = refl

corrected_only :
    (w : What) (t : ℕ) (ws : List What) → is_corrected w ≡ true
    → (mine_by w ws ≡ ws) × (is_stop w ≡ false) × ((o : Option ℕ) → fence_by w t o ≡ o)
    × ((c : ℕ) → core_by w c ≡ c)
corrected_only (what.Corrected w b) t ws e = (refl, refl, λ o. refl, λ c. refl)
corrected_only _ t ws e = absurd (false≢true e)

-- what an entry changes, where it is of that CPU

abbrev mine_now : Entry → List What → Bool → List What
mine_now e ws own = if own then mine_by e.what ws else ws

abbrev fence_now : Entry → Option ℕ → Bool → Option ℕ
fence_now e before own = if own then fence_by e.what e.turn before else before

abbrev core_now : Entry → ℕ → Bool → ℕ
core_now e before own = if own then core_by e.what before else before

abbrev stop_now : Entry → Bool → Bool → Bool
stop_now e before own = (own && is_stop e.what) || before

abbrev known_now : Entry → KnownCpu → Bool → KnownCpu
known_now e k own = if own then learn e.what e.turn k else k

abbrev learned_more : What → ℕ → KnownCpu → KnownCpu
learned_more w turn k = record {
  stopped = is_stop w || k.stopped;
  fenced = fence_by w turn k.fenced;
  core = core_by w k.core;
  failed = is_fail w;
  retry = retry_number w;
  retry_before = k.retry;
  chain = chain_by w k.failed k.chain_before;
  chain_before = k.chain;
}

learned :
    (i : ℕ) (past : List Entry) (k : KnownCpu) (e : Entry) (b : Bool)
    → is_corrected e.what ≡ b → e.cpu.0 ≡ i → KnownIs i past k
    → KnownIs i (e ∷ past) (learn e.what e.turn k)
learned i past k e true c is h =
    let p = corrected_only e.what e.turn (mine i past) c in
    let own : (e.cpu.0 == i) ≡ true = eq-eqb e.cpu.0 i is in
    let same : mine i (e ∷ past) ≡ mine i past =
    ap (mine_now e (mine i past)) own ∙ p.0 in
    subst (λ z. KnownIs i (e ∷ past) z)
    (ap (λ b. if b then k else learned_more e.what e.turn k) (sym c))
    (record {
      stopped =
          h.stopped
          ∙ sym (ap (stop_now e (has_stop i past)) own ∙ ap (λ b. b || has_stop i past) p.1);
      fenced = h.fenced ∙ sym (ap (fence_now e (fence i past)) own ∙ p.2 (fence i past));
      core = h.core ∙ sym (ap (core_now e (core_at i past)) own ∙ p.3 (core_at i past));
      failed = h.failed ∙ ap (head_is is_fail) (sym same);
      retry = h.retry ∙ ap number (sym same);
      retry_before = h.retry_before ∙ ap (λ z. number (tail z)) (sym same);
      chain_is = h.chain_is ∙ ap chain (sym same);
      chain_before = h.chain_before ∙ ap (λ z. chain (tail z)) (sym same);
    })
learned i past k e false c is h =
    let own : (e.cpu.0 == i) ≡ true = eq-eqb e.cpu.0 i is in
    let more : mine i (e ∷ past) ≡ e.what ∷ mine i past =
    ap (mine_now e (mine i past)) own
    ∙ mine_more e.what (mine i past) c in
    subst (λ z. KnownIs i (e ∷ past) z)
    (ap (λ b. if b then k else learned_more e.what e.turn k) (sym c))
    (record {
      stopped =
          ap (λ b. is_stop e.what || b) h.stopped ∙ sym (ap (stop_now e (has_stop i past)) own);
      fenced =
          ap (fence_by e.what e.turn) h.fenced ∙ sym (ap (fence_now e (fence i past)) own);
      core = ap (core_by e.what) h.core ∙ sym (ap (core_now e (core_at i past)) own);
      failed = ap (head_is is_fail) (sym more);
      retry = ap number (sym more);
      retry_before = h.retry ∙ ap (λ z. number (tail z)) (sym more);
      chain_is =
          ap (λ b. chain_by e.what b k.chain_before) h.failed
          ∙ ap (chain_by e.what (head_is is_fail (mine i past))) h.chain_before
          ∙ sym (chain_cons e.what (mine i past)) ∙ ap chain (sym more);
      chain_before = h.chain_is ∙ ap (λ z. chain (tail z)) (sym more);
    })

unlearned :
    (i : ℕ) (past : List Entry) (k : KnownCpu) (e : Entry) → e.cpu.0 ≢ i → KnownIs i past k
    → KnownIs i (e ∷ past) k
unlearned i past k e ne h =
    let none : (e.cpu.0 == i) ≡ false = ne_eqb e.cpu.0 i ne in
    let same : mine i (e ∷ past) ≡ mine i past =
    ap (mine_now e (mine i past)) none in
    record {
      stopped = h.stopped ∙ sym (ap (stop_now e (has_stop i past)) none);
      fenced = h.fenced ∙ sym (ap (fence_now e (fence i past)) none);
      core = h.core ∙ sym (ap (core_now e (core_at i past)) none);
      failed = h.failed ∙ ap (head_is is_fail) (sym same);
      retry = h.retry ∙ ap number (sym same);
      retry_before = h.retry_before ∙ ap (λ z. number (tail z)) (sym same);
      chain_is = h.chain_is ∙ ap chain (sym same);
      chain_before = h.chain_before ∙ ap (λ z. chain (tail z)) (sym same);
    }

pub known_is : (i : ℕ) (past : List Entry) → KnownIs i past (known i past)
unfolding known
known_is i [] = record {
  stopped = refl;
  fenced = refl;
  core = refl;
  failed = refl;
  retry = refl;
  retry_before = refl;
  chain_is = refl;
  chain_before = refl;
}
known_is i (e ∷ past) = elim (cases_eq e.cpu.0 i) [
  | inl is ↦
      subst (λ z. KnownIs i (e ∷ past) z)
      (sym (ap (known_now e (known i past)) (eq-eqb e.cpu.0 i is)))
      (learned i past (known i past) e (is_corrected e.what) refl is (known_is i past))
  | inr ne ↦
      subst (λ z. KnownIs i (e ∷ past) z)
      (sym (ap (known_now e (known i past)) (ne_eqb e.cpu.0 i ne)))
      (unlearned i past (known i past) e ne (known_is i past))
]
