use Rattle.machine_save.proofs.again.signals_of.Goals as goal

pub returns : goal.returns
returns c = record {
  state = c.state_of.ensures;
  restart = c.is_one.ensures;
  key = c.is_one-2.ensures;
  malfunction = c.flags_of.ensures;
  emergency = c.flags_of-2.ensures;
  external_call = c.call_of.ensures.value;
  flags = c.have_flags.ensures;
  caller = record { caller = c.call_of.ensures.caller };
}
