use Rattle.std.proofs.Common.{◌≡◌, ◌∙◌, ◌+◌, ◌++◌, ap, arith, length, length-append, None, Some, subst, sym}
use Rattle.std.specs.Prelude.{slice_get}
use Rattle.g5_debugger.proofs.StorageTexts.{all_read, length_byte, none_read, one_read, past_storage}
use Rattle.g5_debugger.proofs.answers.memory_text.Goals as goal

pub bytes-init : goal.bytes-init
bytes-init c =
    let empty = c.new-out.ensures in
    let none = ap length empty in (
      λ z x st. none_read x.machine.storage c.args.at c.new-out.result.items empty,
      omega (arith, none),
      omega arith,
    )

pub returns-in_default : goal.returns-in_default
returns-in_default c = λ z x st.
    c.text.ensures
    ∙ past_storage x.machine.storage c.args.at c.bytes.i c.args.count c.bytes-test.true
    (subst (λ q. slice_get x.machine.storage (c.args.at + q) ≡ None) c.from.ensures
    (sym (c.in_default.ensures z x st)))

pub bytes-preserved : goal.bytes-preserved
bytes-preserved c =
    let out = c.bytes.out.items in
    let b = c.in-Some.byte in
    let more = c.put_text.ensures ∙ ap (λ t. out ++ t) (c.deref.ensures.0 ∙ c.hex2.ensures) in
    let put = ap length c.put_text.ensures in
    let long = length-append out c.deref.result.now in
    let byte = ap length (c.deref.ensures.0 ∙ c.hex2.ensures) in
    let two = length_byte b in
    let less = c.bytes-test.true in
    let was = c.bytes.invariant.1 in (
      λ z x st. one_read x.machine.storage c.args.at c.bytes.i b out c.put_text.new.out.items
          (c.bytes.invariant.0 z x st)
          (subst (λ q. slice_get x.machine.storage (c.args.at + q) ≡ Some b) c.from.ensures
          (sym (c.in-Some.ensures z x st)))
          more,
      omega (arith, put, long, byte, two, was),
      omega (arith, less),
    )

pub returns : goal.returns
returns c =
    let most = c.bytes.invariant.2 in
    let end = c.bytes-test.false in
    λ z x st. all_read x.machine.storage c.args.at c.bytes.i c.args.count c.bytes.out.items
    (omega (arith, most, end)) c.requires.some (c.bytes.invariant.0 z x st)
