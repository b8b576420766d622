use Rattle.std.proofs.Common.{sym, ◌∙◌, ap}
use Rattle.site_desk.specs.Passes.{step_of}
use Rattle.stored_desk.proofs.Appending.{appends_moves}
use Rattle.stored_desk.proofs.history.HistoryPrefix.append.Goals as goal

pub compare_exchange-found-requires : goal.compare_exchange-found-requires
compare_exchange-found-requires g c =
    let h = c.args.writer.now.word_is in
    let offer = c.plain-offer.ensures in
    let pen = c.no_pen-pen.ensures in (
      ap (λ w. w.tracked) h,
      c.self.invariant.1 ∙ sym (ap (λ w. w.book) h),
      pen.0 ∙ (c.self.invariant.1 ∙ sym (ap (λ w. w.book) h)),
      offer.0,
      rw (ap (λ w. w.key) h, pen.1, offer.1, offer.3) (appends_moves c.self.inside.seen.log (step_of c.args.receipt.now) c.self.inside.len (sym c.self.invariant.0)),
    )
