use Rattle.std.proofs.Common.{◌∙◌, List, sym, subst, ℕ}
use Rattle.esa_model.specs.Packet.{read}
use Rattle.esa_model.specs.Apply.{applied_storage, piece, first_bytes, second_bytes}
use Rattle.result_packet.specs.declared.change_log.Touched.{Touched}
use Rattle.result_packet.specs.Changes.{Tells}
use Rattle.result_packet.proofs.Log.{told_none, told_whole}
use Rattle.result_packet.proofs.apply_rest.note_told.Goals as goal

pub returns-clause-changed : goal.returns-clause-changed
unfolding applied_storage
returns-clause-changed g c =
    let before = g.V.View.bytes c.args.view.now in
    let f = read c.args.p.now in
    let pieces : List ℕ = piece f.second_at (second_bytes f) (piece f.first_at (first_bytes f) before) in
    let first = subst (λ (ts : List Touched). Tells 0 before before ts) (sym c.clear.ensures) (told_none 0 before) in
    let second : Tells 0 before pieces c.note_pieces.new.log = c.note_pieces.ensures.log before first in
    let all = subst (λ (os : List ℕ). Tells 0 os (applied_storage c.args.r.now f before) c.note_interruption.new.log) c.note_pieces.ensures.same
    (c.note_interruption.ensures.log pieces (subst (λ (os : List ℕ). Tells 0 os pieces c.note_pieces.new.log) (sym c.note_pieces.ensures.same) second)) in
    c.put_differing.ensures ∙ sym (told_whole before (applied_storage c.args.r.now f before) c.note_interruption.new.log all)
