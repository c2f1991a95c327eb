use Rattle.std.proofs.Common.{◌∙◌}
use Rattle.save_reading.proofs.Numbering.{core_read, forty_stored}
use Rattle.save_reading.proofs.reader.Reader.core.Goals as goal

pub returns-clause-value : goal.returns-clause-value
returns-clause-value c = core_read c.byte-place.result c.seven-zeros.result c.eight-begun.result c.sixteens.new.words c.args.self.now.rest.now c.byte-place.new.self.rest.now c.seven-zeros.new.self.rest.now c.eight-begun.new.self.rest.now
    c.byte-place.ensures.value c.byte-place.ensures.rest c.seven-zeros.ensures.value c.seven-zeros.ensures.rest c.eight-begun.ensures.value c.eight-begun.ensures.rest (c.sixteens.ensures.value ∙ forty_stored c.eight-begun.new.self.rest.now)
