-- The key changes the bus, the clock and the count of turns alone.
use Rattle.std.proofs.Common.{refl}
use Rattle.g5_machine.proofs.Keying.{follows_key, obeys_key}
use Rattle.g5_machine.proofs.machine.Machine.key.Goals as goal

pub returns-clause-follows : goal.returns-clause-follows
returns-clause-follows c = λ z x st bounded sound.
    follows_key c.args.self.now _ c.args.cpu z x st bounded refl refl refl
    (rw (c.advance_clock.ensures, c.press_key.ensures) refl) c.add_turn.ensures.counts

pub returns-clause-obeys : goal.returns-clause-obeys
returns-clause-obeys c = λ s st.
    obeys_key c.args.self.now _ c.args.cpu s st refl refl c.add_turn.ensures.counts
