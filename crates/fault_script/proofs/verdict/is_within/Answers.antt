use Rattle.fault_script.proofs.verdict.is_within.Goals as goal

pub returns-then-masks : goal.returns-then-masks
returns-then-masks c =
    let m = c.in_ok-masks.ensures in
    let w = c.in_ok-words.ensures in
    (λ h. record { masks = m.0 c.if-masks.true; words = w.0 h }, λ h. w.1 h.words)
