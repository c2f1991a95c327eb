use Rattle.std.proofs.Common.{arith, ◌≡◌, ◌≤◌, ◌∙◌, ap, sym, ◌++◌, not, length, drop, length-append, append_assoc, Some, ◌+◌}
use Rattle.std.specs.Prelude.{slice_index_or}
use Rattle.run_model.specs.Trace.{changes_text}
use Rattle.trace_text.specs.Spelling.{spelled, spelled_byte, goes_on}
use Rattle.trace_text.proofs.Stretches.{spelled_whole, one_byte, room_for, none}
use Rattle.trace_text.proofs.changes.put_changes.Goals as goal

pub loop-c-init : goal.loop-c-init
loop-c-init c = ap (λ x. c.args.out.now.items ++ x) (spelled_whole c.args.changed.now)

pub put_byte-requires : goal.put_byte-requires
put_byte-requires c =
    let cs = c.args.changed.now in
    let i = c.loop-c.c-index in
    let out = c.loop-c.out.items in
    let b = slice_index_or cs i none in
    let byte = spelled_byte (not (goes_on c.loop-c.next b)) b in
    let rest = spelled (Some (b.at + 1)) (drop (i + 1) cs) in
    let whole = c.args.out.now.items ++ changes_text cs in
    let this = one_byte c.loop-c.next cs i (omega arith) in
    let step : out ++ (byte ++ rest) ≡ whole = ap (λ x. out ++ x) (sym this) ∙ c.loop-c.invariant in
    let l = length-append c.args.out.now.items (changes_text cs) in
    let fits : length whole ≤ 2048 = omega arith in
    let room = room_for out byte rest whole step fits in
    let is = ap (λ x. length (spelled_byte (not x) b)) c.follows.ensures in
    omega arith

pub loop-c-preserved : goal.loop-c-preserved
loop-c-preserved c =
    let cs = c.args.changed.now in
    let i = c.loop-c.c-index in
    let out = c.loop-c.out.items in
    let b = slice_index_or cs i none in
    let byte = spelled_byte (not (goes_on c.loop-c.next b)) b in
    let rest = spelled (Some (b.at + 1)) (drop (i + 1) cs) in
    ap (λ n. c.put_byte.new.out.items ++ spelled (Some (n + 1)) (drop (i + 1) cs)) c.from.ensures
    ∙ ap (λ x. x ++ rest) c.put_byte.ensures
    ∙ ap (λ x. (out ++ spelled_byte (not x) b) ++ rest) c.follows.ensures
    ∙ append_assoc out byte rest
    ∙ ap (λ x. out ++ x) (sym (one_byte c.loop-c.next cs i (omega arith)))
    ∙ c.loop-c.invariant
