use Rattle.std.proofs.Common.{◌≡◌, ◌∙◌, ap, refl}
use Rattle.machine_runs.specs.Views.{view_of}
use Rattle.program_model.specs.Debugger.{question}
use Rattle.run_model.specs.declared.logs.Config.{Config}
use Rattle.g5_debugger.proofs.Commanded.{commands_none, commands_some}
use Rattle.g5_debugger.proofs.Saying.{says_as}
use Rattle.g5_debugger.proofs.session.Session.command.Goals as goal

pub returns-in_default-clause-commands : goal.returns-in_default-clause-commands
returns-in_default-clause-commands g c =
    let s = c.args.self.now in
    let same : c.config.result.now ≡ s.engine.machine.config = cc in
    commands_none (question s.engine.machine.config.cpus c.args.line.now) s
    (view_of s.engine (g.Z.Silicon.seen c.args.z.now) (g.Z.Silicon.tape c.args.z.now))
    (c.in_default.ensures.value ∙ ap (λ (k : Config). question k.cpus c.args.line.now) same)

pub returns-clause-commands : goal.returns-clause-commands
returns-clause-commands g c =
    let s = c.args.self.now in
    let same : c.config.result.now ≡ s.engine.machine.config = cc in
    commands_some (question s.engine.machine.config.cpus c.args.line.now) c.in-Some.asked
    c.turns_of.result s c.make.new.self c.answer.result
    (g.Z.Silicon.seen c.args.z.now) (g.Z.Silicon.seen c.make.new.z)
    (g.Z.Silicon.tape c.args.z.now) (g.Z.Silicon.tape c.make.new.z)
    (c.in-Some.ensures.value ∙ ap (λ (k : Config). question k.cpus c.args.line.now) same)
    c.turns_of.ensures c.make.ensures.schedule c.make.ensures.makes c.answer.ensures.quit
    c.answer.ensures.text

pub returns-clause-says : goal.returns-clause-says
returns-clause-says g c = λ d is sound.
    let s = c.args.self.now in
    let v = view_of s.engine (g.Z.Silicon.seen c.args.z.now) (g.Z.Silicon.tape c.args.z.now) in
    let w = view_of c.make.new.self.engine (g.Z.Silicon.seen c.make.new.z)
    (g.Z.Silicon.tape c.make.new.z) in
    says_as v.lines v.config (question s.engine.machine.config.cpus c.args.line.now) d s
    c.make.new.self v w c.answer.result refl refl (returns-clause-commands g c) is sound
