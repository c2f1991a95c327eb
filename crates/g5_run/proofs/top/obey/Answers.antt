use Rattle.g5_run.specs.Leaving.{beside, silicon_after}
use Rattle.std.proofs.Common.{◌≡◌, ◌∙◌, Some, ap, refl, subst}
use Rattle.std.specs.Prelude.{map, string_bytes}
use Rattle.g5_words.specs.Asked.{asked_by, job_names, session_names}
use Rattle.g5_words.specs.declared.refusal.WordsRefused.TheVariants as refused
use Rattle.g5_run.specs.Asked.{asked}
use Rattle.g5_run.specs.Built.{IsSoundly, built_as}
use Rattle.g5_run.specs.declared.top.Built.TheVariants as variant
use Rattle.g5_run.proofs.KeysKept.{session_keys}
use Rattle.g5_run.proofs.Telling.{asked_is, asked_none, asm_ends, audit_ends, debug_ends, dis_ends, gen_ends, link_ends, migrate_ends, run_ends}
use Rattle.g5_run.proofs.top.obey.Goals as goal

pub returns-in-Err-Usage-clause-ends : goal.returns-in-Err-Usage-clause-ends
returns-in-Err-Usage-clause-ends g c =
    let words = map string_bytes c.args.words.now in
    let usage : c.in-Err-Usage.field-0 ≡ refused.Usage = cc c.in-Err-Usage.field-0-is in (
      asked_none words (c.in-Err-Usage.ensures.usage usage),
      record { untouched = record { numbers = refl; out = refl }; said = c.say.ensures },
    )

pub returns-in-Some-Run-clause-ends : goal.returns-in-Some-Run-clause-ends
returns-in-Some-Run-clause-ends g c =
    let words = map string_bytes c.args.words.now in
    let built : c.in-Some-Run.field-0 ≡ variant.Run c.in-Some-Run.names c.in-Some-Run.config =
    cc c.in-Some-Run.field-0-is in
    run_ends (asked words) (job_names c.in-Some-Run.names) c.in-Some-Run.config
    (g.F.Shelf.seen c.args.shelf.now) (g.F.Shelf.seen c.run_command.new.shelf)
    (g.O.Sink.seen c.args.out.now) (g.O.Sink.seen c.run_command.new.out)
    (g.E.Sink.seen c.args.err.now) (g.E.Sink.seen c.run_command.new.err)
    (beside (silicon_after (g.Z.Silicon.seen c.run_command.new.silicon)
    (g.Z.Silicon.tape c.args.silicon.now) (g.Z.Silicon.tape c.run_command.new.silicon))
    (g.I.Source.seen c.args.keys.now) (g.I.Source.seen c.args.keys.now))
    c.run_command.result
    (asked_is words (asked_by c.in-Ok.command) c.in-Ok.ensures.ok
    ∙ c.in-Some-Run.ensures.asked ∙ ap (λ b. Some (built_as b)) built)
    (subst IsSoundly built (c.in-Some-Run.ensures.sound c.in-Ok.ensures.sound)).1 c.run_command.ensures

pub returns-in-Some-Debug-clause-ends : goal.returns-in-Some-Debug-clause-ends
returns-in-Some-Debug-clause-ends g c =
    let words = map string_bytes c.args.words.now in
    let built : c.in-Some-Debug.field-0 ≡ variant.Debug c.in-Some-Debug.names c.in-Some-Debug.config =
    cc c.in-Some-Debug.field-0-is in
    debug_ends (asked words) (session_names c.in-Some-Debug.names) c.in-Some-Debug.config
    (g.F.Shelf.seen c.args.shelf.now) (g.F.Shelf.seen c.converse_and_say.new.shelf)
    (g.O.Sink.seen c.args.out.now) (g.O.Sink.seen c.converse_and_say.new.out)
    (g.E.Sink.seen c.args.err.now) (g.E.Sink.seen c.converse_and_say.new.err)
    (beside (silicon_after (g.Z.Silicon.seen c.converse_and_say.new.silicon)
    (g.Z.Silicon.tape c.args.silicon.now) (g.Z.Silicon.tape c.converse_and_say.new.silicon))
    (g.I.Source.seen c.args.keys.now) (g.I.Source.seen c.converse_and_say.new.keys))
    c.converse_and_say.result
    (asked_is words (asked_by c.in-Ok.command) c.in-Ok.ensures.ok
    ∙ c.in-Some-Debug.ensures.asked ∙ ap (λ b. Some (built_as b)) built)
    (subst IsSoundly built (c.in-Some-Debug.ensures.sound c.in-Ok.ensures.sound))
    c.converse_and_say.ensures

pub returns-in-Some-Debug-clause-keys : goal.returns-in-Some-Debug-clause-keys
returns-in-Some-Debug-clause-keys g c =
    let words = map string_bytes c.args.words.now in
    let built : c.in-Some-Debug.field-0 ≡ variant.Debug c.in-Some-Debug.names c.in-Some-Debug.config =
    cc c.in-Some-Debug.field-0-is in
    session_keys (asked words) (session_names c.in-Some-Debug.names) c.in-Some-Debug.config
    (g.I.Source.seen c.args.keys.now) (g.I.Source.seen c.converse_and_say.new.keys)
    (asked_is words (asked_by c.in-Ok.command) c.in-Ok.ensures.ok
    ∙ c.in-Some-Debug.ensures.asked ∙ ap (λ b. Some (built_as b)) built)

pub returns-in-Some-Gen-clause-ends : goal.returns-in-Some-Gen-clause-ends
returns-in-Some-Gen-clause-ends g c =
    let words = map string_bytes c.args.words.now in
    let built : c.in-Some-Gen.field-0 ≡ variant.Gen c.in-Some-Gen.number c.in-Some-Gen.turns =
    cc c.in-Some-Gen.field-0-is in
    let sound = subst IsSoundly built (c.in-Some-Gen.ensures.sound c.in-Ok.ensures.sound) in
    gen_ends (asked words) c.in-Some-Gen.number c.in-Some-Gen.turns (g.F.Shelf.seen c.args.shelf.now)
    (g.O.Sink.seen c.args.out.now) (g.O.Sink.seen c.generate_and_run.new.out)
    (g.E.Sink.seen c.args.err.now) (g.E.Sink.seen c.generate_and_run.new.err)
    (beside (silicon_after (g.Z.Silicon.seen c.generate_and_run.new.silicon)
    (g.Z.Silicon.tape c.args.silicon.now) (g.Z.Silicon.tape c.generate_and_run.new.silicon))
    (g.I.Source.seen c.args.keys.now) (g.I.Source.seen c.args.keys.now))
    c.generate_and_run.result
    (asked_is words (asked_by c.in-Ok.command) c.in-Ok.ensures.ok
    ∙ c.in-Some-Gen.ensures.asked ∙ ap (λ b. Some (built_as b)) built)
    sound.0 sound.1 c.generate_and_run.ensures

pub returns-in-Some-Migrate-clause-ends : goal.returns-in-Some-Migrate-clause-ends
returns-in-Some-Migrate-clause-ends g c =
    let words = map string_bytes c.args.words.now in
    let built : c.in-Some-Migrate.field-0 ≡ variant.Migrate c.in-Some-Migrate.old c.in-Some-Migrate.new =
    cc c.in-Some-Migrate.field-0-is in
    migrate_ends (asked words) c.in-Some-Migrate.old.now c.in-Some-Migrate.new.now
    (g.F.Shelf.seen c.args.shelf.now) (g.F.Shelf.seen c.migrate_and_say.new.shelf)
    (g.O.Sink.seen c.args.out.now) (g.E.Sink.seen c.args.err.now)
    (g.E.Sink.seen c.migrate_and_say.new.err)
    (beside (silicon_after (g.Z.Silicon.seen c.args.silicon.now) (g.Z.Silicon.tape c.args.silicon.now)
    (g.Z.Silicon.tape c.args.silicon.now)) (g.I.Source.seen c.args.keys.now)
    (g.I.Source.seen c.args.keys.now)) c.migrate_and_say.result
    (asked_is words (asked_by c.in-Ok.command) c.in-Ok.ensures.ok
    ∙ c.in-Some-Migrate.ensures.asked ∙ ap (λ b. Some (built_as b)) built)
    c.migrate_and_say.ensures

pub returns-in-Some-Asm-clause-ends : goal.returns-in-Some-Asm-clause-ends
returns-in-Some-Asm-clause-ends g c =
    let words = map string_bytes c.args.words.now in
    let built : c.in-Some-Asm.field-0 ≡ variant.Asm c.in-Some-Asm.source c.in-Some-Asm.deck =
    cc c.in-Some-Asm.field-0-is in
    asm_ends (asked words) c.in-Some-Asm.source.now c.in-Some-Asm.deck.now
    (g.F.Shelf.seen c.args.shelf.now) (g.F.Shelf.seen c.assemble_and_say.new.shelf)
    (g.O.Sink.seen c.args.out.now) (g.E.Sink.seen c.args.err.now)
    (g.E.Sink.seen c.assemble_and_say.new.err)
    (beside (silicon_after (g.Z.Silicon.seen c.args.silicon.now) (g.Z.Silicon.tape c.args.silicon.now)
    (g.Z.Silicon.tape c.args.silicon.now)) (g.I.Source.seen c.args.keys.now)
    (g.I.Source.seen c.args.keys.now)) c.assemble_and_say.result
    (asked_is words (asked_by c.in-Ok.command) c.in-Ok.ensures.ok
    ∙ c.in-Some-Asm.ensures.asked ∙ ap (λ b. Some (built_as b)) built)
    c.assemble_and_say.ensures

pub returns-in-Some-Dis-clause-ends : goal.returns-in-Some-Dis-clause-ends
returns-in-Some-Dis-clause-ends g c =
    let words = map string_bytes c.args.words.now in
    let built : c.in-Some-Dis.field-0
    ≡ variant.Dis c.in-Some-Dis.deck c.in-Some-Dis.address c.in-Some-Dis.count =
    cc c.in-Some-Dis.field-0-is in
    dis_ends (asked words) c.in-Some-Dis.deck.now c.in-Some-Dis.address c.in-Some-Dis.count
    (g.F.Shelf.seen c.args.shelf.now) (g.F.Shelf.seen c.disassemble_and_say.new.shelf)
    (g.O.Sink.seen c.args.out.now) (g.O.Sink.seen c.disassemble_and_say.new.out)
    (g.E.Sink.seen c.args.err.now) (g.E.Sink.seen c.disassemble_and_say.new.err)
    (beside (silicon_after (g.Z.Silicon.seen c.args.silicon.now) (g.Z.Silicon.tape c.args.silicon.now)
    (g.Z.Silicon.tape c.args.silicon.now)) (g.I.Source.seen c.args.keys.now)
    (g.I.Source.seen c.args.keys.now)) c.disassemble_and_say.result
    (asked_is words (asked_by c.in-Ok.command) c.in-Ok.ensures.ok
    ∙ c.in-Some-Dis.ensures.asked ∙ ap (λ b. Some (built_as b)) built)
    c.disassemble_and_say.ensures

pub link_and_say-requires-clause-command : goal.link_and_say-requires-clause-command
link_and_say-requires-clause-command g c =
    let built : c.in-Some-Link.field-0 ≡ variant.Link c.in-Some-Link.out c.in-Some-Link.decks =
    cc c.in-Some-Link.field-0-is in
    c.in-Some-Link.ensures.same ∙ ap built_as built

pub link_and_say-requires-clause-some : goal.link_and_say-requires-clause-some
link_and_say-requires-clause-some g c =
    let built : c.in-Some-Link.field-0 ≡ variant.Link c.in-Some-Link.out c.in-Some-Link.decks =
    cc c.in-Some-Link.field-0-is in
    (subst IsSoundly built (c.in-Some-Link.ensures.sound c.in-Ok.ensures.sound)).0

pub link_and_say-requires-clause-few : goal.link_and_say-requires-clause-few
link_and_say-requires-clause-few g c =
    let built : c.in-Some-Link.field-0 ≡ variant.Link c.in-Some-Link.out c.in-Some-Link.decks =
    cc c.in-Some-Link.field-0-is in
    (subst IsSoundly built (c.in-Some-Link.ensures.sound c.in-Ok.ensures.sound)).1

pub returns-in-Some-Link-clause-ends : goal.returns-in-Some-Link-clause-ends
returns-in-Some-Link-clause-ends g c =
    let words = map string_bytes c.args.words.now in
    let built : c.in-Some-Link.field-0 ≡ variant.Link c.in-Some-Link.out c.in-Some-Link.decks =
    cc c.in-Some-Link.field-0-is in
    link_ends (asked words) c.in-Some-Link.out.now (map (λ d. d.now) c.in-Some-Link.decks.now)
    (g.F.Shelf.seen c.args.shelf.now) (g.F.Shelf.seen c.link_and_say.new.shelf)
    (g.O.Sink.seen c.args.out.now) (g.E.Sink.seen c.args.err.now)
    (g.E.Sink.seen c.link_and_say.new.err)
    (beside (silicon_after (g.Z.Silicon.seen c.args.silicon.now) (g.Z.Silicon.tape c.args.silicon.now)
    (g.Z.Silicon.tape c.args.silicon.now)) (g.I.Source.seen c.args.keys.now)
    (g.I.Source.seen c.args.keys.now)) c.link_and_say.result
    (asked_is words (asked_by c.in-Ok.command) c.in-Ok.ensures.ok
    ∙ c.in-Some-Link.ensures.asked ∙ ap (λ b. Some (built_as b)) built)
    c.link_and_say.ensures

pub returns-in-Some-Audit-clause-ends : goal.returns-in-Some-Audit-clause-ends
returns-in-Some-Audit-clause-ends g c =
    let words = map string_bytes c.args.words.now in
    let built : c.in-Some-Audit.field-0 ≡ variant.Audit c.in-Some-Audit.log =
    cc c.in-Some-Audit.field-0-is in
    audit_ends (asked words) c.in-Some-Audit.log.now (g.F.Shelf.seen c.args.shelf.now)
    (g.F.Shelf.seen c.audit_and_say.new.shelf) (g.O.Sink.seen c.args.out.now)
    (g.O.Sink.seen c.audit_and_say.new.out) (g.E.Sink.seen c.args.err.now)
    (g.E.Sink.seen c.audit_and_say.new.err)
    (beside (silicon_after (g.Z.Silicon.seen c.args.silicon.now) (g.Z.Silicon.tape c.args.silicon.now)
    (g.Z.Silicon.tape c.args.silicon.now)) (g.I.Source.seen c.args.keys.now)
    (g.I.Source.seen c.args.keys.now)) c.audit_and_say.result
    (asked_is words (asked_by c.in-Ok.command) c.in-Ok.ensures.ok
    ∙ c.in-Some-Audit.ensures.asked ∙ ap (λ b. Some (built_as b)) built)
    c.audit_and_say.ensures

pub returns-in-None-clause-ends : goal.returns-in-None-clause-ends
returns-in-None-clause-ends g c =
    let words = map string_bytes c.args.words.now in (
      asked_is words (asked_by c.in-Ok.command) c.in-Ok.ensures.ok ∙ c.in-None.ensures.asked,
      record { untouched = record { numbers = refl; out = refl }; said = c.say-in-None.ensures },
    )
