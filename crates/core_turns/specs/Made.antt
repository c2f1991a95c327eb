-- What a turn leaves and tells, with what it wrote.
-- Source: choice of this project.
use Rattle.esa_model.specs.declared.machine.Psw.{Psw}
use Rattle.result_packet.specs.declared.written.Written.{Written}
use Rattle.core_turns.specs.declared.held.Held.{Held}
use Rattle.core_turns.specs.declared.held.Turned.{Turned}
use Rattle.core_turns.specs.declared.outcomes.Outcome.{Outcome}

pub record Made : Type 0 where
  pub held : Held
  pub outcome : Outcome
  pub psw : Psw
  pub written : Written

abbrev pub made : Turned → Written → Made
made t w = record { held = t.held; outcome = t.outcome; psw = t.psw; written = w }
