-- A core that was fenced is a spare; another stays what it is.
use Rattle.std.specs.Prelude.{nat_lt}
use Rattle.std.proofs.Common.{◌≡◌, ◌+◌, Some, true, false, refl, sym, ap, ◌∙◌, subst}
use Rattle.run_model.specs.declared.logs.What.TheVariants.{Returned}
use Rattle.run_model.specs.Cores.{entry}
use Rattle.sparing.specs.Pools.{TakenOut, holds, put}
use Rattle.core_turns.specs.Held.{CorePool, fenced_number, spare_number}
use Rattle.g5_machine.specs.Counts.{Counted}
use Rattle.g5_machine.proofs.Bringing.{absent_then, placed_back, spares_back, was_fenced}
use Rattle.g5_machine.proofs.Returned.{follows_return, obeys_return}
use Rattle.g5_machine.proofs.machine.Machine.return_core.Goals as goal

pub add-requires-clause-absent : goal.add-requires-clause-absent
add-requires-clause-absent c =
    let k = c.args.core.0 in
    let p = c.args.self.now.pool in
    let out = c.in-Some.ensures.1 in
    let number : c.repaired.result.core.0 ≡ k = ap (λ n. n.0) c.repaired.ensures ∙ out.number in
    let p1 = c.bring_back.new.self in
    subst (λ n. (holds spare_number n p1.spares ≡ 0) × (holds fenced_number n p1.fenced ≡ 0)) (sym number)
    (absent_then p p1 k c.in-Some.fenced (c.each_stands_once.ensures.once k) out c.in-Some.ensures.0)

pub invariant_of-self-in-Some : goal.invariant_of-self-in-Some
invariant_of-self-in-Some c =
    let m = c.args.self.now in
    let k = c.args.core.0 in
    let s = c.repaired.result in
    let p2 = c.add.new.self in
    let number : s.core.0 ≡ k = ap (λ n. n.0) c.repaired.ensures ∙ c.in-Some.ensures.1.number in
    let more : p2.spares ≡ put spare_number s m.pool.spares =
    ap (λ (q : CorePool). q.spares) c.add.ensures
    ∙ ap (λ q. put spare_number s q) c.in-Some.ensures.0 in
    let out : TakenOut fenced_number k c.in-Some.fenced m.pool.fenced p2.fenced =
    subst (λ q. TakenOut fenced_number k c.in-Some.fenced m.pool.fenced q)
    (sym (ap (λ (q : CorePool). q.fenced) c.add.ensures)) c.in-Some.ensures.1 in
    record {
      fits = m.fits;
      there = m.there;
      placed = placed_back m.config m.cpus.items m.pool p2 k c.in-Some.fenced s m.placed number more out;
    }

pub returns-in-None-clause-follows : goal.returns-in-None-clause-follows
returns-in-None-clause-follows c = λ z x st bounded sound.
    let m = c.args.self.now in
    let none = ap (λ n. nat_lt 0 n) c.in-None.ensures.0 in
    follows_return false m _ c.args.core z x _ st bounded m.fits.cpus m.placed none refl refl refl refl
    c.add_turn.ensures.counts
    (λ spare are. rw c.in-None.ensures.1 are)

pub returns-in-None-clause-obeys : goal.returns-in-None-clause-obeys
returns-in-None-clause-obeys c = λ s st.
    let m = c.args.self.now in
    let none = ap (λ n. nat_lt 0 n) c.in-None.ensures.0 in
    obeys_return false m _ c.args.core s _ st m.fits.cpus m.placed none refl refl
    c.add_turn.ensures.counts
    (λ spare are. rw c.in-None.ensures.1 are)

pub returns-in-Some-clause-follows : goal.returns-in-Some-clause-follows
returns-in-Some-clause-follows c = λ z x st bounded sound.
    let m = c.args.self.now in
    let k = c.args.core.0 in
    let s = c.repaired.result in
    let p2 = c.add.new.self in
    let out = c.in-Some.ensures.1 in
    let number : s.core.0 ≡ k = ap (λ n. n.0) c.repaired.ensures ∙ out.number in
    let more : p2.spares ≡ put spare_number s m.pool.spares =
    ap (λ (q : CorePool). q.spares) c.add.ensures
    ∙ ap (λ q. put spare_number s q) c.in-Some.ensures.0 in
    let turn : c.turns.result ≡ m.counts.turns + 1 =
    c.turns.ensures.turns ∙ ap (λ (n : Counted). n.turns) c.add_turn.ensures.counts in
    follows_return true m _ c.args.core z x _ st bounded m.fits.cpus m.placed
    (was_fenced m.pool c.bring_back.new.self k c.in-Some.fenced out)
    (ap (λ n. Some (entry n 255 k Returned)) turn) refl refl refl c.add_turn.ensures.counts
    (λ spare are. spares_back m.pool p2 spare k s are number more)

pub returns-in-Some-clause-obeys : goal.returns-in-Some-clause-obeys
returns-in-Some-clause-obeys c = λ q st.
    let m = c.args.self.now in
    let k = c.args.core.0 in
    let s = c.repaired.result in
    let p2 = c.add.new.self in
    let out = c.in-Some.ensures.1 in
    let number : s.core.0 ≡ k = ap (λ n. n.0) c.repaired.ensures ∙ out.number in
    let more : p2.spares ≡ put spare_number s m.pool.spares =
    ap (λ (r : CorePool). r.spares) c.add.ensures
    ∙ ap (λ r. put spare_number s r) c.in-Some.ensures.0 in
    let turn : c.turns.result ≡ m.counts.turns + 1 =
    c.turns.ensures.turns ∙ ap (λ (n : Counted). n.turns) c.add_turn.ensures.counts in
    obeys_return true m _ c.args.core q _ st m.fits.cpus m.placed
    (was_fenced m.pool c.bring_back.new.self k c.in-Some.fenced out)
    (ap (λ n. Some (entry n 255 k Returned)) turn) refl c.add_turn.ensures.counts
    (λ spare are. spares_back m.pool p2 spare k s are number more)
