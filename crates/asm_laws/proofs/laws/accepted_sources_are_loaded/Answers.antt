use Rattle.std.proofs.Common.{ℕ}
use Rattle.asm_model.specs.Line.{sources}
use Rattle.asm_model.specs.Program.{assembly}
use Rattle.asm_deck.proofs.Image.{assembled_image}
use Rattle.asm_laws.proofs.ReadLines.{sources_read}
use Rattle.asm_laws.proofs.WholeSource.{accepted, all_loaded}
use Rattle.asm_laws.proofs.laws.accepted_sources_are_loaded.Goals as goal

pub returns : goal.returns
returns c = λ origin size text h k.
    let xs = sources text in
    let a = assembly xs in
    let i = assembled_image origin size a.sections a.externals a.constants a.entry (accepted xs (sources_read text) h k) in
    (i.0, (i.1.0, (i.1.1, all_loaded origin size xs i.0 i.1.0 (sources_read text) h i.1.1)))
