use Rattle.std.proofs.Common.{◌≡◌, ℕ, ◌+◌, ◌-◌, ◌^◌, ap, ◌∙◌, flat_map, arith}
use Rattle.std.specs.Vec.{vec_capacity}
use Rattle.fault_script.specs.Index.{key, if_lasting}
use Rattle.fault_script.specs.Walk.{count_below}
use Rattle.fault_script.proofs.Live.{live_start}
use Rattle.fault_script.proofs.Walks.{below_more_q}
use Rattle.fault_script.proofs.core_walks.CoreWalk.start.Goals as goal

pub overflow_sub-next_core : goal.overflow_sub-next_core
overflow_sub-next_core c =
    let q = c.number-q.result in
    let rises = below_more_q q (q + 2 ^ 64) (flat_map if_lasting c.args.ordered.now) (omega arith) in
    rw (c.first_lasting-to_come.ensures, c.first_lasting-next_core.ensures) rises

pub returns : goal.returns
returns c =
    let ls = c.args.ordered.now in
    let ms = flat_map if_lasting ls in
    let core = c.args.core.0 in
    let q = c.number-q.ensures in
    let first : c.first-first.result ≡ count_below (key core 0) ls = c.first-first.ensures ∙ ap (λ (p : ℕ). count_below p ls) q in
    let come : c.first_lasting-to_come.result ≡ count_below (key core 0) ms = c.first_lasting-to_come.ensures ∙ ap (λ (p : ℕ). count_below p ms) q in
    let z : c.number-q.result + 2 ^ 64 ≡ key (core + 1) 0 = omega (arith, q) in
    let next : c.first_lasting-next_core.result ≡ count_below (key (core + 1) 0) ms = c.first_lasting-next_core.ensures ∙ ap (λ (p : ℕ). count_below p ms) z in
    let room : vec_capacity c.in_ok-live.live ≡ count_below (key (core + 1) 0) ms - c.first_lasting-to_come.result = c.in_ok-live.ensures.exact ∙ ap (λ (p : ℕ). p - c.first_lasting-to_come.result) next in
    live_start ls core _ first first come c.in_ok-live.ensures.items room
