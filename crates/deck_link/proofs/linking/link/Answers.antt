use Rattle.std.proofs.Common.{◌≡◌, ℕ, List, Result, Ok, IfOk, IfErr, sym, subst}
use Rattle.deck_model.specs.Deck.{listing}
use Rattle.program_model.specs.declared.refusals.LinkRefusal.{LinkRefusal}
use Rattle.deck_loader.specs.Listed.{listed}
use Rattle.link_model.specs.Link.{link_of}
use Rattle.link_model.proofs.Whole.{load_alike}
use Rattle.deck_link.specs.Answers.{Refused}
use Rattle.deck_link.proofs.Accepting.{map_ok, typed_read, deck_refused, unread, link_read}
use Rattle.deck_link.proofs.linking.link.Goals as goal

pub link_lists-requires-clause-read : goal.link_lists-requires-clause-read
link_lists-requires-clause-read c = record {
  deck = c.args.deck.now;
  read = c.in-Ok.ensures.lists;
  items = c.in-Ok.ensures.typed;
  widths = c.in-Ok.ensures.widths;
}

pub returns-in-Ok-clause-linked : goal.returns-in-Ok-clause-linked
returns-in-Ok-clause-linked c =
    let P : Result (List ℕ) LinkRefusal → Type 0 = λ x. IfOk c.link_lists.result (λ b. x ≡ Ok b.items) in
    subst P (link_read c.args.deck.now (listed c.in-Ok.lists) c.in-Ok.ensures.lists) c.link_lists.ensures.linked

pub returns-in-Ok-clause-refused : goal.returns-in-Ok-clause-refused
returns-in-Ok-clause-refused c =
    let P : Result (List ℕ) LinkRefusal → Type 0 = λ x. IfErr c.link_lists.result (λ r. Refused x r) in
    subst P (link_read c.args.deck.now (listed c.in-Ok.lists) c.in-Ok.ensures.lists) c.link_lists.ensures.refused

pub returns-in-Ok-clause-alike : goal.returns-in-Ok-clause-alike
returns-in-Ok-clause-alike c =
    let d = c.args.deck.now in
    let l = listed c.in-Ok.lists in
    let read = c.in-Ok.ensures in
    let P : Result (List ℕ) LinkRefusal → Type 0 = λ x. IfOk c.link_lists.result (λ b. x ≡ Ok b.items) in
    map_ok c.link_lists.result (λ b h. load_alike d b.items (typed_read d l read.lists read.typed read.widths) h)
    (subst P (link_read d l read.lists) c.link_lists.ensures.linked)

pub returns-in-Err-clause-refused : goal.returns-in-Err-clause-refused
returns-in-Err-clause-refused c =
    let d = c.args.deck.now in
    subst (Refused (link_of d)) (sym c.loading_refused.ensures)
    (deck_refused (link_of d) (listing d) c.in-Err.r (λ x e. unread d x e) c.in-Err.ensures.lists)
