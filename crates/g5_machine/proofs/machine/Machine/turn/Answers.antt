-- The turn of a CPU, seen from the whole machine.
use Rattle.std.specs.Prelude.{min, slice_get}
use Rattle.std.proofs.Common.{
  ◌≡◌,
  ◌<◌,
  ◌-◌,
  ◌+◌,
  ℕ,
  true,
  length,
  Option,
  Some,
  refl,
  sym,
  ap,
  ◌∙◌,
  subst,
  rules,
}
use Rattle.std.proofs.lemmas.List.{length-set}
use Rattle.std.proofs.lemmas.Option.{slice_get_read}
use Rattle.core_turns.specs.ChipAfter.{TurnChanges}
use Rattle.core_turns.specs.Handing.{Finds, HandsIn}
use Rattle.core_turns.specs.Held.{core_of}
use Rattle.core_turns.specs.Made.{made}
use Rattle.core_turns.specs.Meeting.{next_cause, why_met}
use Rattle.core_turns.specs.Places.{EachInOnePlace}
use Rattle.core_turns.specs.Recovered.{Recovers}
use Rattle.core_turns.specs.declared.held.Held.{Held}
use Rattle.core_turns.proofs.Sums.{once, set_twice, still_placed}
use Rattle.g5_machine.specs.Fits.{IsFitting, all_there}
use Rattle.g5_machine.proofs.Obeying.{before_turn, follows_of, goes_of, held_before, held_then, obeys_of, there_at, there_set}
use Rattle.g5_machine.proofs.machine.Machine.turn.Goals as goal

pub turn_held-turned-requires-clause-once : goal.turn_held-turned-requires-clause-once
turn_held-turned-requires-clause-once g c =
    let m = c.args.self.now in
    let cpus = m.cpus.items in
    let i = c.args.cpu.0 in
    let inside : i < length cpus = subst (λ (n : ℕ). i < n) m.fits.cpus c.requires.known in
    let got : slice_get cpus i ≡ Some c.replace-held.result =
    slice_get_read cpus _ i c.index_mut.result.now refl inside c.index_mut.ensures.value
    ∙ ap (λ (h : Held). Some h) (sym c.replace-held.ensures.value) in
    once m.config cpus m.pool i c.replace-held.result got m.placed

pub invariant_of-self : goal.invariant_of-self
invariant_of-self g c =
    let m = c.args.self.now in
    let cpus = m.cpus.items in
    let i = c.args.cpu.0 in
    let t = made c.turn_held-turned.result c.turn_held-turned.new.written in
    let inside : i < length cpus = subst (λ (n : ℕ). i < n) m.fits.cpus c.requires.known in
    let got : slice_get cpus i ≡ Some c.replace-held.result =
    slice_get_read cpus _ i c.index_mut.result.now refl inside c.index_mut.ensures.value
    ∙ ap (λ (h : Held). Some h) (sym c.replace-held.ensures.value) in
    let twice = sym (set_twice cpus i c.replace-held.new.dest t.held) in
    let here = c.turn_held-turned.ensures.there (there_at cpus i c.replace-held.result m.there got) in
    record {
      fits = subst (λ (n : ℕ). IsFitting m.config n)
          (sym (length-set cpus i t.held) ∙ ap length twice) m.fits;
      there = subst (λ q. all_there q ≡ true) twice (there_set cpus i t.held m.there here);
      placed = subst (λ q. EachInOnePlace m.config q c.turn_held-turned.new.pool) twice
          (still_placed m.config cpus m.pool c.turn_held-turned.new.pool i c.replace-held.result
          t.held got m.placed c.turn_held-turned.ensures.moves);
    }

pub returns-clause-follows : goal.returns-clause-follows
returns-clause-follows g c = λ ea eb x st bounded sound.
    let m = c.args.self.now in
    let cpus = m.cpus.items in
    let i = c.args.cpu.0 in
    let z = g.Z.Silicon.seen c.args.z.now in
    let h = c.replace-held.result in
    let t = made c.turn_held-turned.result c.turn_held-turned.new.written in
    let inside : i < length cpus = subst (λ (n : ℕ). i < n) m.fits.cpus c.requires.known in
    let got : slice_get cpus i ≡ Some h =
    slice_get_read cpus _ i c.index_mut.result.now refl inside c.index_mut.ensures.value
    ∙ ap (λ (q : Held). Some q) (sym c.replace-held.ensures.value) in
    let number : c.turns.result + 1 ≡ m.counts.turns + 1 =
    ap (λ n. n + 1) c.turns.ensures.turns in
    let f = c.turn_held-turned.ensures.follows ea eb m.config x refl
    (before_turn m c.args.cpu z x h (c.turns.result + 1) st bounded
    (g.met.Z.Silicon.formed c.args.z.now) c.requires.known m.fits.cpus got m.there number sound) in
    let read : c.min-read.result
    ≡ min (length m.side.console - length c.turn_held-turned.new.side.console) 256 =
    rw (sym c.console_left-left.ensures, sym c.console_left.ensures) (search rules) in
    follows_of m _ c.args.cpu z _ _ t _ c.turn_held-turned.new.written x h st bounded c.requires.known got m.placed
    (set_twice cpus i c.replace-held.new.dest t.held)
    (c.count.ensures.counts ∙ rw (read, c.len.ensures.value) refl) refl f

pub returns-clause-hands : goal.returns-clause-hands
returns-clause-hands g c = λ ea eb x st bounded sound.
    let m = c.args.self.now in
    let cpus = m.cpus.items in
    let i = c.args.cpu.0 in
    let h = c.replace-held.result in
    let inside : i < length cpus = subst (λ (n : ℕ). i < n) m.fits.cpus c.requires.known in
    let got : slice_get cpus i ≡ Some h =
    slice_get_read cpus _ i c.index_mut.result.now refl inside c.index_mut.ensures.value
    ∙ ap (λ (q : Held). Some q) (sym c.replace-held.ensures.value) in
    let number : c.turns.result + 1 ≡ m.counts.turns + 1 =
    ap (λ n. n + 1) c.turns.ensures.turns in
    c.turn_held-turned.ensures.hands ea eb m.config x refl
    (before_turn m c.args.cpu (g.Z.Silicon.seen c.args.z.now) x h (c.turns.result + 1) st
    bounded (g.met.Z.Silicon.formed c.args.z.now) c.requires.known m.fits.cpus got m.there number
    sound)

pub returns-clause-obeys : goal.returns-clause-obeys
returns-clause-obeys g c = λ s st.
    let m = c.args.self.now in
    let cpus = m.cpus.items in
    let i = c.args.cpu.0 in
    let h = c.replace-held.result in
    let t = made c.turn_held-turned.result c.turn_held-turned.new.written in
    let inside : i < length cpus = subst (λ (n : ℕ). i < n) m.fits.cpus c.requires.known in
    let got : slice_get cpus i ≡ Some h =
    slice_get_read cpus _ i c.index_mut.result.now refl inside c.index_mut.ensures.value
    ∙ ap (λ (q : Held). Some q) (sym c.replace-held.ensures.value) in
    let number : c.turns.result + 1 ≡ m.counts.turns + 1 =
    ap (λ n. n + 1) c.turns.ensures.turns in
    obeys_of m _ c.args.cpu (g.Z.Silicon.seen c.args.z.now) _ t _ c.turn_held-turned.new.written h
    _ c.min-read.result
    c.len.result s st got number (set_twice cpus i c.replace-held.new.dest t.held)
    c.count.ensures.counts refl c.turn_held-turned.ensures.goes

pub returns-clause-goes : goal.returns-clause-goes
returns-clause-goes g c = λ h after there now.
    let m = c.args.self.now in
    let cpus = m.cpus.items in
    let i = c.args.cpu.0 in
    let was = c.replace-held.result in
    let t = made c.turn_held-turned.result c.turn_held-turned.new.written in
    let inside : i < length cpus = subst (λ (n : ℕ). i < n) m.fits.cpus c.requires.known in
    let got : slice_get cpus i ≡ Some was =
    slice_get_read cpus _ i c.index_mut.result.now refl inside c.index_mut.ensures.value
    ∙ ap (λ (q : Held). Some q) (sym c.replace-held.ensures.value) in
    let number : c.turns.result + 1 ≡ m.counts.turns + 1 =
    ap (λ n. n + 1) c.turns.ensures.turns in
    goes_of m _ c.args.cpu (g.Z.Silicon.seen c.args.z.now) _ _ _ was t.held h after _ got number
    (set_twice cpus i c.replace-held.new.dest t.held) c.turn_held-turned.ensures.goes there now

pub returns-clause-chip : goal.returns-clause-chip
returns-clause-chip g c = λ h after there now.
    let m = c.args.self.now in
    let cpus = m.cpus.items in
    let i = c.args.cpu.0 in
    let was = c.replace-held.result in
    let inside : i < length cpus = subst (λ (n : ℕ). i < n) m.fits.cpus c.requires.known in
    let got : slice_get cpus i ≡ Some was =
    slice_get_read cpus _ i c.index_mut.result.now refl inside c.index_mut.ensures.value
    ∙ ap (λ (q : Held). Some q) (sym c.replace-held.ensures.value) in
    let t = made c.turn_held-turned.result c.turn_held-turned.new.written in
    let z = g.Z.Silicon.seen c.args.z.now in
    held_then (λ p q. TurnChanges m.config.threshold i p m.side m.pool (why_met z p t.outcome) q z
    (g.Z.Silicon.seen c.turn_held-turned.new.z)) cpus _ i was t.held h after got
    (set_twice cpus i c.replace-held.new.dest t.held) c.turn_held-turned.ensures.chip there now

pub returns-clause-recovered : goal.returns-clause-recovered
returns-clause-recovered g c = λ h after there now.
    let m = c.args.self.now in
    let cpus = m.cpus.items in
    let i = c.args.cpu.0 in
    let was = c.replace-held.result in
    let inside : i < length cpus = subst (λ (n : ℕ). i < n) m.fits.cpus c.requires.known in
    let got : slice_get cpus i ≡ Some was =
    slice_get_read cpus _ i c.index_mut.result.now refl inside c.index_mut.ensures.value
    ∙ ap (λ (q : Held). Some q) (sym c.replace-held.ensures.value) in
    let t = made c.turn_held-turned.result c.turn_held-turned.new.written in
    held_then (λ p q. Recovers p (g.Z.Silicon.seen c.args.z.now) q) cpus _ i was t.held h after got
    (set_twice cpus i c.replace-held.new.dest t.held) c.turn_held-turned.ensures.recovered there now

pub returns-clause-causes : goal.returns-clause-causes
returns-clause-causes g c = λ ea eb h there.
    let m = c.args.self.now in
    let cpus = m.cpus.items in
    let i = c.args.cpu.0 in
    let was = c.replace-held.result in
    let inside : i < length cpus = subst (λ (n : ℕ). i < n) m.fits.cpus c.requires.known in
    let got : slice_get cpus i ≡ Some was =
    slice_get_read cpus _ i c.index_mut.result.now refl inside c.index_mut.ensures.value
    ∙ ap (λ (q : Held). Some q) (sym c.replace-held.ensures.value) in
    let z = g.Z.Silicon.seen c.args.z.now in
    held_before (λ p. why_met z p c.turn_held-turned.result.outcome ≡ next_cause z (core_of p))
    cpus i was h got (c.turn_held-turned.ensures.causes ea eb) there

pub returns-clause-finds : goal.returns-clause-finds
returns-clause-finds g c = λ h there.
    let m = c.args.self.now in
    let cpus = m.cpus.items in
    let i = c.args.cpu.0 in
    let was = c.replace-held.result in
    let inside : i < length cpus = subst (λ (n : ℕ). i < n) m.fits.cpus c.requires.known in
    let got : slice_get cpus i ≡ Some was =
    slice_get_read cpus _ i c.index_mut.result.now refl inside c.index_mut.ensures.value
    ∙ ap (λ (q : Held). Some q) (sym c.replace-held.ensures.value) in
    held_before (λ p. Finds p (g.Z.Silicon.seen c.args.z.now) i m.memory.bytes m.side
    (g.P.ResultUnit.seen c.turn_held-turned.new.a) (g.Q.ResultUnit.seen c.turn_held-turned.new.b)
    c.turn_held-turned.result.outcome) cpus i was h got c.turn_held-turned.ensures.finds there

pub returns-clause-tape : goal.returns-clause-tape
returns-clause-tape g c = λ h there.
    let m = c.args.self.now in
    let cpus = m.cpus.items in
    let i = c.args.cpu.0 in
    let was = c.replace-held.result in
    let inside : i < length cpus = subst (λ (n : ℕ). i < n) m.fits.cpus c.requires.known in
    let got : slice_get cpus i ≡ Some was =
    slice_get_read cpus _ i c.index_mut.result.now refl inside c.index_mut.ensures.value
    ∙ ap (λ (q : Held). Some q) (sym c.replace-held.ensures.value) in
    held_before (λ p. HandsIn p (g.Z.Silicon.seen c.args.z.now) i m.memory.bytes m.side
    (g.P.ResultUnit.seen c.turn_held-turned.new.a) (g.Q.ResultUnit.seen c.turn_held-turned.new.b)
    c.turn_held-turned.result.outcome (g.Z.Silicon.tape c.args.z.now)
    (g.Z.Silicon.tape c.turn_held-turned.new.z)) cpus i was h got c.turn_held-turned.ensures.tape
    there
