use Rattle.std.proofs.Common.{Some, sym, ◌∙◌, ap}
use Rattle.operations.specs.Views.{listed_row_view}
use Rattle.offer.specs.Offers.{first_of, offers_of}
use Rattle.offer.specs.GoingOver.{first_with}
use Rattle.offer.proofs.FirstOffers.{first_alone, row_left, row_taken}
use Rattle.offer.proofs.first.first_offer.Goals as goal

pub loop-interface-init : goal.loop-interface-init
loop-interface-init c = ap (λ rows. first_of (offers_of c.args.tried.now rows)) c.into_iter-interface-iterator.ensures.into_iter_gives

pub loop-interface-preserved-then-is_next : goal.loop-interface-preserved-then-is_next
loop-interface-preserved-then-is_next c =
    let tried = c.args.tried.now in
    let row = listed_row_view (c.in-Some.interface, c.in-Some.row) in
    ap (λ interface. first_with (Some (record { interface = interface; penalty = row.1.penalty })) (offers_of tried c.next.new.self)) c.copy.ensures
    ∙ row_taken tried c.loop-interface.first row c.next.new.self (sym c.is_next.ensures ∙ c.if-is_next.true)
    ∙ ap (λ rows. first_with c.loop-interface.first (offers_of tried rows)) (sym c.in-Some.ensures.steps) ∙ c.loop-interface.invariant

pub loop-interface-preserved : goal.loop-interface-preserved
loop-interface-preserved c =
    let tried = c.args.tried.now in
    let row = listed_row_view (c.in-Some.interface, c.in-Some.row) in
    row_left tried c.loop-interface.first row c.next.new.self (sym c.is_next.ensures ∙ c.if-is_next.false)
    ∙ ap (λ rows. first_with c.loop-interface.first (offers_of tried rows)) (sym c.in-Some.ensures.steps) ∙ c.loop-interface.invariant

pub returns : goal.returns
returns c = first_alone c.loop-interface.first ∙ ap (λ rows. first_with c.loop-interface.first (offers_of c.args.tried.now rows)) (sym c.in-None.ensures.steps.0) ∙ c.loop-interface.invariant
