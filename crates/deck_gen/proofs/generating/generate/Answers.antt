use Rattle.deck_gen.proofs.Reading.{is_deck, is_input, is_schedule, is_script}
use Rattle.deck_gen.proofs.Sizes.{are_in_limits}
use Rattle.deck_gen.proofs.generating.generate.Goals as goal

pub returns-clause-image : goal.returns-clause-image
returns-clause-image c =
    is_deck c.args.number c.args.turns c.in_ok-texts.texts.deck.items c.in_ok-texts.ensures.deck

pub returns-clause-turns : goal.returns-clause-turns
returns-clause-turns c =
    is_schedule c.args.number c.args.turns c.in_ok-texts.texts.schedule.items c.requires.some
    c.requires.few c.in_ok-texts.ensures.schedule

pub returns-clause-strikes : goal.returns-clause-strikes
returns-clause-strikes c =
    is_script c.args.number c.args.turns c.in_ok-texts.texts.script.items c.requires.few
    c.in_ok-texts.ensures.script

pub returns-clause-limits : goal.returns-clause-limits
returns-clause-limits c =
    are_in_limits c.args.number c.args.turns c.in_ok-texts.texts.deck.items
    c.in_ok-texts.texts.schedule.items c.in_ok-texts.texts.script.items c.requires.few
    c.in_ok-texts.ensures.deck c.in_ok-texts.ensures.schedule c.in_ok-texts.ensures.script

pub returns-clause-input : goal.returns-clause-input
returns-clause-input c = is_input c.args.number c.args.turns c.requires.some c.requires.few

pub returns-in_err-texts-clause-input : goal.returns-in_err-texts-clause-input
returns-in_err-texts-clause-input c =
    is_input c.args.number c.args.turns c.requires.some c.requires.few
