-- Where the cores stand after one entry more of a log.
use Rattle.std.proofs.Common.{◌≡◌, ◌≢◌, ℕ, ◌+◌, ◌<◌, Bool, true, false, List, ◌∷◌, Option, Some, None, refl, sym, ap, ◌∙◌, arith, if◌then◌else◌, eq-eqb, eqb-true, inl, inr}
use Rattle.std.specs.Prelude.{◌==◌, ◌&&◌}
use Rattle.std.proofs.lemmas.Bool.{cases_eq, ne_eqb, false≢true, true≢false}
use Rattle.run_model.specs.declared.logs.What.TheVariants as what
use Rattle.run_model.specs.declared.logs.Entry.{Entry}
use Rattle.run_model.specs.declared.logs.Config.{Config}
use Rattle.esa_model.specs.Machine.{at}
use Rattle.run_model.specs.Script.{core_no}
use Rattle.run_model.specs.Cores.{is_spare_number}
use Rattle.run_model.specs.Sorts.{is_returned, is_fence, is_spared_to}
use Rattle.run_model.specs.Lawful.{fence_by, fence, core_by, core_at, back, gone, fences, bit, is_none, is_some_of}
use Rattle.run_laws.proofs.At.{at_same, at_other, at_by}

pub record Placed (c : Config) (past : List Entry) (h f : ℕ → Bool) : Type 0 where
  pub spares : (k : ℕ) → back k past + bit (is_spare_number c k) ≡ gone k past + bit (h k)
  pub fenced : (k : ℕ) → fences k past ≡ back k past + bit (f k)
  pub apart : (i j : ℕ) → i < c.cpus → j < c.cpus → i ≢ j → fence i past ≡ None
      → fence j past ≡ None → core_at i past ≢ core_at j past
  pub free : (i : ℕ) → i < c.cpus → fence i past ≡ None
      → (h (core_at i past) ≡ false) × (f (core_at i past) ≡ false)
  pub one : (k : ℕ) → h k ≡ true → f k ≡ false

no_and : (b : Bool) → (b && false) ≡ false
no_and true = refl
no_and false = refl

and_yes : (b : Bool) → (b && true) ≡ b
and_yes true = refl
and_yes false = refl

either : {A : Type 0} (b : Bool) (x : A) → (if b then x else x) ≡ x
either true x = refl
either false x = refl

-- an entry that names no place
pub keeps : (c : Config) (past : List Entry) (h f : ℕ → Bool) (e : Entry)
    → is_returned e.what ≡ false
    → is_fence e.what ≡ false → ((k : ℕ) → is_spared_to k e.what ≡ false)
    → ((o : Option ℕ) → fence_by e.what e.turn o ≡ o) → ((k : ℕ) → core_by e.what k ≡ k)
    → Placed c past h f → Placed c (e ∷ past) h f
keeps c past h f e a b d g i p =
    let fence_same : (n : ℕ)
    → fence n (e ∷ past) ≡ fence n past =
    λ n. ap (λ z. if e.cpu.0 == n then z else fence n past) (g (fence n past))
    ∙ either (e.cpu.0 == n) (fence n past) in
    let core_same : (n : ℕ)
    → core_at n (e ∷ past) ≡ core_at n past =
    λ n. ap (λ z. if e.cpu.0 == n then z else core_at n past) (i (core_at n past))
    ∙ either (e.cpu.0 == n) (core_at n past) in
    let no_back : (k : ℕ)
    → bit ((e.core.0 == k) && is_returned e.what) ≡ 0 =
    λ k. ap (λ z. bit ((e.core.0 == k) && z)) a ∙ ap bit (no_and (e.core.0 == k)) in
    let no_fence : (k : ℕ)
    → bit ((e.core.0 == k) && is_fence e.what) ≡ 0 =
    λ k. ap (λ z. bit ((e.core.0 == k) && z)) b ∙ ap bit (no_and (e.core.0 == k)) in
    let no_gone : (k : ℕ) → bit (is_spared_to k e.what) ≡ 0 = λ k. ap bit (d k) in
    record {
      spares = λ k. omega (arith, no_back k, no_gone k, p.spares k);
      fenced = λ k. omega (arith, no_back k, no_fence k, p.fenced k);
      apart = λ m n hm hn ne fm fn eq.
          p.apart m n hm hn ne (sym (fence_same m) ∙ fm) (sym (fence_same n) ∙ fn)
          (sym (core_same m) ∙ eq ∙ core_same n);
      free = λ n hn fn. let q = p.free n hn (sym (fence_same n) ∙ fn) in
          (ap h (core_same n) ∙ q.0, ap f (core_same n) ∙ q.1);
      one = p.one;
    }

pub is_none_of : (o : Option ℕ) → is_none o ≡ true → o ≡ None
is_none_of None e = refl
is_none_of (Some k) e = absurd (false≢true e)

pub is_some_is : (k : ℕ) (o : Option ℕ) → is_some_of k o ≡ true → o ≡ Some k
is_some_is k None e = absurd (false≢true e)
is_some_is k (Some j) e = ap (λ z. Some z) (eqb-true j k e)

-- a core that is fenced: it was with this CPU, and is with none
pub fences_one : (c : Config) (past : List Entry) (h f : ℕ → Bool) (e : Entry)
    → e.what ≡ what.Fenced
    → e.cpu.0 < c.cpus → fence e.cpu.0 past ≡ None → core_at e.cpu.0 past ≡ e.core.0
    → Placed c past h f → Placed c (e ∷ past) h (at f e.core.0 true)
fences_one c past h f e is lt unfenced own p =
    let q = p.free e.cpu.0 lt unfenced in
    let now_some : (n : ℕ) → e.cpu.0 ≡ n
    → fence n (e ∷ past) ≡ Some e.turn =
    λ n eq. ap (λ b. if b then fence_by e.what e.turn (fence n past) else fence n past)
    (eq-eqb e.cpu.0 n eq) ∙ ap (λ w. fence_by w e.turn (fence n past)) is in
    let was : (n : ℕ) → fence n (e ∷ past) ≡ None
    → (e.cpu.0 ≢ n) × (fence n past ≡ None) × (core_at n (e ∷ past) ≡ core_at n past) =
    λ n h0. elim (cases_eq e.cpu.0 n) [
      | inl eq ↦ absurd (cc (h0, now_some n eq))
      | inr ne ↦ (
        ne,
        sym
            (ap (λ b. if b then fence_by e.what e.turn (fence n past) else fence n past)
            (ne_eqb e.cpu.0 n ne))
            ∙ h0,
        ap
            (λ b. if b then core_by e.what (core_at n past) else core_at n past)
            (ne_eqb e.cpu.0 n ne),
      )
    ] in
    let no_back : (k : ℕ)
    → bit ((e.core.0 == k) && is_returned e.what) ≡ 0 =
    λ k. ap (λ w. bit ((e.core.0 == k) && is_returned w)) is
    ∙ ap bit (no_and (e.core.0 == k)) in
    let no_gone : (k : ℕ)
    → bit (is_spared_to k e.what) ≡ 0 = λ k. ap (λ w. bit (is_spared_to k w)) is in
    let one_fence : (k : ℕ)
    → bit ((e.core.0 == k) && is_fence e.what) ≡ bit (e.core.0 == k) =
    λ k. ap (λ w. bit ((e.core.0 == k) && is_fence w)) is
    ∙ ap bit (and_yes (e.core.0 == k)) in
    record {
      spares = λ k. omega (arith, no_back k, no_gone k, p.spares k);
      fenced = λ k. elim (cases_eq k e.core.0) [
        | inl eq ↦
            let old : bit (f k) ≡ 0 = ap bit (ap f (eq ∙ sym own) ∙ q.1) in
            let new : bit (at f e.core.0 true k) ≡ 1 =
            ap bit (ap (at f e.core.0 true) eq ∙ at_same f e.core.0 true) in
            let here : bit (e.core.0 == k) ≡ 1 = ap bit (eq-eqb e.core.0 k (sym eq)) in
            omega (arith, no_back k, one_fence k, p.fenced k, old, new, here)
        | inr ne ↦
            let new : bit (at f e.core.0 true k) ≡ bit (f k) =
            ap bit (at_other f e.core.0 true k ne) in
            let here : bit (e.core.0 == k) ≡ 0 = ap bit (ne_eqb e.core.0 k (λ z. ne (sym z))) in
            omega (arith, no_back k, one_fence k, p.fenced k, new, here)
      ];
      apart = λ m n hm hn ne fm fn eq. let a = was m fm in let b = was n fn in
          p.apart m n hm hn ne a.1 b.1 (sym a.2 ∙ eq ∙ b.2);
      free = λ n hn fn. let a = was n fn in let r = p.free n hn a.1 in (
        ap h a.2 ∙ r.0,
        ap (at f e.core.0 true) a.2
            ∙ at_other f e.core.0 true (core_at n past)
            (λ z. p.apart n e.cpu.0 hn lt (λ z2. a.0 (sym z2)) a.1 unfenced (z ∙ sym own))
            ∙ r.1,
      );
      one = λ k. at_by (λ b. h k ≡ true
          → b ≡ false) f e.core.0 true k
          (λ eq hk. absurd (false≢true (sym q.0 ∙ ap h (own ∙ sym eq) ∙ hk)))
          (λ ne hk. p.one k hk);
    }

-- a spare that a CPU goes on on
pub spares_one : (c : Config) (past : List Entry) (h f : ℕ → Bool) (e : Entry) (k2 : ℕ)
    → e.what ≡ what.Spared (core_no k2) → h k2 ≡ true → Placed c past h f
    → Placed c (e ∷ past) (at h k2 false) f
spares_one c past h f e k2 is hand p =
    let mine_core : (n : ℕ) → e.cpu.0 ≡ n
    → core_at n (e ∷ past) ≡ k2 =
    λ n eq. ap (λ b. if b then core_by e.what (core_at n past) else core_at n past)
    (eq-eqb e.cpu.0 n eq) ∙ ap (λ w. core_by w (core_at n past)) is in
    let other_core : (n : ℕ) → e.cpu.0 ≢ n
    → core_at n (e ∷ past) ≡ core_at n past =
    λ n ne. ap (λ b. if b then core_by e.what (core_at n past) else core_at n past)
    (ne_eqb e.cpu.0 n ne) in
    let other_fence : (n : ℕ) → e.cpu.0 ≢ n → fence n (e ∷ past) ≡ None
    → fence n past ≡ None =
    λ n ne h0.
    sym (ap (λ b. if b then fence_by e.what e.turn (fence n past) else fence n past)
    (ne_eqb e.cpu.0 n ne)) ∙ h0 in
    let no_back : (k : ℕ)
    → bit ((e.core.0 == k) && is_returned e.what) ≡ 0 =
    λ k. ap (λ w. bit ((e.core.0 == k) && is_returned w)) is
    ∙ ap bit (no_and (e.core.0 == k)) in
    let no_fence : (k : ℕ)
    → bit ((e.core.0 == k) && is_fence e.what) ≡ 0 =
    λ k. ap (λ w. bit ((e.core.0 == k) && is_fence w)) is ∙ ap bit (no_and (e.core.0 == k)) in
    let one_gone : (k : ℕ)
    → bit (is_spared_to k e.what) ≡ bit (k2 == k) =
    λ k. ap (λ w. bit (is_spared_to k w)) is in
    let not_there : (n : ℕ) → n < c.cpus → fence n past ≡ None
    → core_at n past ≢ k2 =
    λ n hn fn eq. true≢false (sym hand ∙ ap h (sym eq) ∙ (p.free n hn fn).0) in
    record {
      spares = λ k. elim (cases_eq k k2) [
        | inl eq ↦
            let old : bit (h k) ≡ 1 = ap bit (ap h eq ∙ hand) in
            let new : bit (at h k2 false k) ≡ 0 =
            ap bit (ap (at h k2 false) eq ∙ at_same h k2 false) in
            let here : bit (k2 == k) ≡ 1 = ap bit (eq-eqb k2 k (sym eq)) in
            omega (arith, no_back k, one_gone k, p.spares k, old, new, here)
        | inr ne ↦
            let new : bit (at h k2 false k) ≡ bit (h k) = ap bit (at_other h k2 false k ne) in
            let here : bit (k2 == k) ≡ 0 = ap bit (ne_eqb k2 k (λ z. ne (sym z))) in
            omega (arith, no_back k, one_gone k, p.spares k, new, here)
      ];
      fenced = λ k. omega (arith, no_back k, no_fence k, p.fenced k);
      apart = λ m n hm hn ne fm fn eq. elim (cases_eq e.cpu.0 m) [
        | inl em ↦ let en : e.cpu.0 ≢ n = λ z. ne (sym em ∙ z) in
            not_there n hn (other_fence n en fn) (sym (other_core n en) ∙ sym eq
            ∙ mine_core m em)
        | inr em ↦ elim (cases_eq e.cpu.0 n) [
          | inl en ↦
              not_there m hm (other_fence m em fm) (sym (other_core m em) ∙ eq ∙ mine_core n en)
          | inr en ↦
              p.apart m n hm hn ne (other_fence m em fm) (other_fence n en fn)
              (sym (other_core m em) ∙ eq ∙ other_core n en)
        ]
      ];
      free = λ n hn fn. elim (cases_eq e.cpu.0 n) [
        | inl en ↦ (
          ap (at h k2 false) (mine_core n en) ∙ at_same h k2 false,
          ap f (mine_core n en)
              ∙ p.one k2 hand,
        )
        | inr en ↦ let r = p.free n hn (other_fence n en fn) in (
          ap (at h k2 false) (other_core n en)
              ∙ at_other h k2 false (core_at n past) (not_there n hn (other_fence n en fn))
              ∙ r.0,
          ap f (other_core n en) ∙ r.1,
        )
      ];
      one = λ k. at_by (λ b. b ≡ true
          → f k ≡ false) h k2 false k (λ eq z. absurd (false≢true z)) (λ ne z. p.one k z);
    }

-- a core that comes back
pub returns_one : (c : Config) (past : List Entry) (h f : ℕ → Bool) (e : Entry)
    → e.what ≡ what.Returned → f e.core.0 ≡ true → Placed c past h f
    → Placed c (e ∷ past) (at h e.core.0 true) (at f e.core.0 false)
returns_one c past h f e is there p =
    let fence_same : (n : ℕ)
    → fence n (e ∷ past) ≡ fence n past =
    λ n. ap (λ w. if e.cpu.0 == n then fence_by w e.turn (fence n past) else fence n past) is
    ∙ either (e.cpu.0 == n) (fence n past) in
    let core_same : (n : ℕ)
    → core_at n (e ∷ past) ≡ core_at n past =
    λ n. ap (λ w. if e.cpu.0 == n then core_by w (core_at n past) else core_at n past) is
    ∙ either (e.cpu.0 == n) (core_at n past) in
    let one_back : (k : ℕ)
    → bit ((e.core.0 == k) && is_returned e.what) ≡ bit (e.core.0 == k) =
    λ k. ap (λ w. bit ((e.core.0 == k) && is_returned w)) is
    ∙ ap bit (and_yes (e.core.0 == k)) in
    let no_fence : (k : ℕ)
    → bit ((e.core.0 == k) && is_fence e.what) ≡ 0 =
    λ k. ap (λ w. bit ((e.core.0 == k) && is_fence w)) is ∙ ap bit (no_and (e.core.0 == k)) in
    let no_gone : (k : ℕ)
    → bit (is_spared_to k e.what) ≡ 0 = λ k. ap (λ w. bit (is_spared_to k w)) is in
    let not_hand : h e.core.0 ≡ false = by_hand (h e.core.0) (λ z. p.one e.core.0 z) in
    record {
      spares = λ k. elim (cases_eq k e.core.0) [
        | inl eq ↦
            let old : bit (h k) ≡ 0 = ap bit (ap h eq ∙ not_hand) in
            let new : bit (at h e.core.0 true k) ≡ 1 =
            ap bit (ap (at h e.core.0 true) eq ∙ at_same h e.core.0 true) in
            let here : bit (e.core.0 == k) ≡ 1 = ap bit (eq-eqb e.core.0 k (sym eq)) in
            omega (arith, one_back k, no_gone k, p.spares k, old, new, here)
        | inr ne ↦
            let new : bit (at h e.core.0 true k) ≡ bit (h k) =
            ap bit (at_other h e.core.0 true k ne) in
            let here : bit (e.core.0 == k) ≡ 0 = ap bit (ne_eqb e.core.0 k (λ z. ne (sym z))) in
            omega (arith, one_back k, no_gone k, p.spares k, new, here)
      ];
      fenced = λ k. elim (cases_eq k e.core.0) [
        | inl eq ↦
            let old : bit (f k) ≡ 1 = ap bit (ap f eq ∙ there) in
            let new : bit (at f e.core.0 false k) ≡ 0 =
            ap bit (ap (at f e.core.0 false) eq ∙ at_same f e.core.0 false) in
            let here : bit (e.core.0 == k) ≡ 1 = ap bit (eq-eqb e.core.0 k (sym eq)) in
            omega (arith, one_back k, no_fence k, p.fenced k, old, new, here)
        | inr ne ↦
            let new : bit (at f e.core.0 false k) ≡ bit (f k) =
            ap bit (at_other f e.core.0 false k ne) in
            let here : bit (e.core.0 == k) ≡ 0 = ap bit (ne_eqb e.core.0 k (λ z. ne (sym z))) in
            omega (arith, one_back k, no_fence k, p.fenced k, new, here)
      ];
      apart = λ m n hm hn ne fm fn eq.
          p.apart m n hm hn ne (sym (fence_same m) ∙ fm) (sym (fence_same n) ∙ fn)
          (sym (core_same m) ∙ eq ∙ core_same n);
      free = λ n hn fn.
          let r = p.free n hn (sym (fence_same n) ∙ fn) in
          let far : core_at n past ≢ e.core.0 =
          λ z. true≢false (sym there ∙ ap f (sym z) ∙ r.1) in (
            ap (at h e.core.0 true) (core_same n) ∙ at_other h e.core.0 true (core_at n past) far
                ∙ r.0,
            ap (at f e.core.0 false) (core_same n)
                ∙ at_other f e.core.0 false (core_at n past) far ∙ r.1,
          );
      one = λ k. at_by (λ b. at h e.core.0 true k ≡ true
          → b ≡ false) f e.core.0 false k (λ eq z. refl)
          (λ ne z. p.one k (sym (at_other h e.core.0 true k ne) ∙ z));
    }
  where
    by_hand : (b : Bool) → (b ≡ true → f e.core.0 ≡ false) → b ≡ false
    by_hand true g = absurd (true≢false (sym there ∙ g refl))
    by_hand false g = refl
