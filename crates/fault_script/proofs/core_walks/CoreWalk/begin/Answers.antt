use Rattle.std.proofs.Common.{◌≡◌, ℕ, ◌+◌, ◌-◌, ◌≤◌, ◌<◌, ◌^◌, ◌++◌, refl, sym, ap, ◌∙◌, length, filter, flat_map, arith}
use Rattle.std.specs.Vec.{vec_capacity}
use Rattle.fault_script.specs.Index.{key, if_lasting}
use Rattle.fault_script.specs.Totals.{is_left, IsNextPart}
use Rattle.fault_script.specs.Walk.{count_below, before}
use Rattle.fault_script.proofs.Live.{next_count, to_next_core, live_step, rises_one}
use Rattle.fault_script.proofs.Walks.{below_more_q}
use Rattle.fault_script.proofs.core_walks.CoreWalk.begin.Goals as goal

pub past-high-requires : goal.past-high-requires
unfolding before
past-high-requires c = c.requires.high ∙ ap (λ (q : ℕ). count_below q c.args.ordered.now) (sym c.number-q.ensures)

pub past_lasting-to_come-requires : goal.past_lasting-to_come-requires
unfolding before
past_lasting-to_come-requires c = c.requires.to_come ∙ ap (λ (q : ℕ). count_below q (flat_map if_lasting c.args.ordered.now)) (sym c.number-q.ensures)

pub lasting_between-requires-clause-order : goal.lasting_between-requires-clause-order
unfolding before
lasting_between-requires-clause-order c =
    let ms = flat_map if_lasting c.args.ordered.now in
    let q = c.number-q.result in
    let from : c.args.self.now.to_come ≡ count_below q ms = c.requires.to_come ∙ ap (λ (p : ℕ). count_below p ms) (sym c.number-q.ensures) in
    let rises = below_more_q q (q + 1) ms (omega arith) in
    rw (from, c.past_lasting-to_come.ensures) rises

pub add-requires : goal.add-requires
add-requires c =
    let ms = flat_map if_lasting c.args.ordered.now in
    let core = c.args.core.0 in
    let n = c.args.begun in
    let to : c.past_lasting-to_come.result ≡ before ms core (n + 1) = c.past_lasting-to_come.ensures ∙ next_count c.number-q.result core n ms c.number-q.ensures in
    let small : n < 2 ^ 64 = omega arith in
    let next = to_next_core core n ms small in
    let size = c.lasting_between.ensures.length in
    let room = c.requires.room in
    omega (arith, to, next, size, room)

pub returns : goal.returns
returns c =
    let ls = c.args.ordered.now in
    let ms = flat_map if_lasting ls in
    let core = c.args.core.0 in
    let n = c.args.begun in
    let old = c.args.self.now in
    let part = c.lasting_between.result.now in
    let high : c.past-high.result ≡ before ls core (n + 1) = c.past-high.ensures ∙ next_count c.number-q.result core n ls c.number-q.ensures in
    let to : c.past_lasting-to_come.result ≡ before ms core (n + 1) = c.past_lasting-to_come.ensures ∙ next_count c.number-q.result core n ms c.number-q.ensures in
    let small : n < 2 ^ 64 = omega arith in
    let next : IsNextPart ls part core n = c.lasting_between.ensures.part core n c.requires.to_come to in
    let from : old.to_come ≡ before ms core n = c.requires.to_come in
    let rises : old.to_come ≤ c.past_lasting-to_come.result = rw (from, to) (rises_one ms core n) in
    let live : c.keep_left.new.live.items ≡ filter (is_left n) (old.live.items ++ part) = c.keep_left.ensures.items ∙ ap (filter (is_left n)) c.add.ensures.items in
    let more = c.add.ensures.room in
    let same = c.keep_left.ensures.room in
    let room : vec_capacity old.live ≤ vec_capacity c.keep_left.new.live = omega (arith, more, same) in
    live_step ls part core n old _ c.requires small next c.lasting_between.ensures.ranges refl high to rises c.lasting_between.ensures.length live room
