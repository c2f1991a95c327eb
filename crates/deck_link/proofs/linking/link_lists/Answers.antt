use Rattle.std.proofs.Common.{◌≡◌, Ok, IfOk, IfErr, sym, subst}
use Rattle.deck_model.specs.Deck.{Listing}
use Rattle.deck_model.specs.Image.{image_of}
use Rattle.deck_loader.proofs.Cards.{used_of}
use Rattle.deck_loader.specs.Accepted.{AcceptedAs}
use Rattle.deck_loader.specs.Listed.{listed}
use Rattle.link_model.specs.Link.{link_listing}
use Rattle.deck_link.specs.Answers.{IsRead, Refused}
use Rattle.deck_link.proofs.Accepting.{deck_refused, unloaded}
use Rattle.deck_link.proofs.linking.link_lists.Goals as goal

pub accept_lists-requires-clause-widths : goal.accept_lists-requires-clause-widths
accept_lists-requires-clause-widths c = c.requires.read.widths

pub accept_lists-requires-clause-used : goal.accept_lists-requires-clause-used
accept_lists-requires-clause-used c = let r = c.requires.read in used_of r.deck (listed c.args.lists) r.read

pub link_accepted-requires-clause-read : goal.link_accepted-requires-clause-read
link_accepted-requires-clause-read c = subst IsRead (sym c.in-Ok.ensures.accepted.lists) c.requires.read

pub link_accepted-requires-clause-accepted : goal.link_accepted-requires-clause-accepted
link_accepted-requires-clause-accepted c =
    let P : Listing → Type 0 = λ l. AcceptedAs 0 16711680 l c.in-Ok.deck in
    subst P (sym c.in-Ok.ensures.accepted.lists) c.in-Ok.ensures.accepted

pub returns-in-Ok-clause-linked : goal.returns-in-Ok-clause-linked
returns-in-Ok-clause-linked c =
    let P : Listing → Type 0 = λ l. IfOk c.link_accepted.result (λ b. link_listing (Ok l) ≡ Ok b.items) in
    subst P c.in-Ok.ensures.accepted.lists c.link_accepted.ensures.linked

pub returns-in-Ok-clause-refused : goal.returns-in-Ok-clause-refused
returns-in-Ok-clause-refused c =
    let P : Listing → Type 0 = λ l. IfErr c.link_accepted.result (λ r. Refused (link_listing (Ok l)) r) in
    subst P c.in-Ok.ensures.accepted.lists c.link_accepted.ensures.refused

pub returns-in-Err-clause-refused : goal.returns-in-Err-clause-refused
returns-in-Err-clause-refused c =
    let l = listed c.args.lists in
    subst (Refused (link_listing (Ok l))) (sym c.loading_refused.ensures)
    (deck_refused (link_listing (Ok l)) (image_of 0 16711680 (Ok l)) c.in-Err.r (λ x e. unloaded l x e) c.in-Err.ensures.refused)
