use Rattle.asm_places.proofs.ProgramSteps.{assembly_is}
use Rattle.asm_places.proofs.program.program.Goals as goal

pub returns : goal.returns
returns c =
    let w = c.in_ok-held.field-0 in
    assembly_is c.args.sources.now c.args.places w.sections.items c.in_ok-closed.field-0.items w.held c.into_externals.result.items w.constants.items c.names.result.now c.entry_of-entry.result
    c.requires.places c.in_ok-closed.ensures c.in_ok-held.ensures.sections c.into_externals.ensures c.in_ok-held.ensures.constants c.names.ensures c.entry_of-entry.ensures
