use Rattle.esa_asm.proofs.TextAssembled.{text_is_assembled}
use Rattle.esa_asm.proofs.texts.text.Goals as goal

pub returns-clause-assembles : goal.returns-clause-assembles
returns-clause-assembles c name m n g =
    text_is_assembled name m c.args.d.now n c.requires g
