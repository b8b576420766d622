use Rattle.std.proofs.Common.{◌∙◌, ap, [], refl, sym, subst}
use Rattle.std.proofs.lemmas.Result.{IfOk-weaker}
use Rattle.ami_session.specs.FieldValues.{name_of}
use Rattle.sites_world.specs.declared.event.Event.TheVariants as event
use Rattle.scripts.specs.LineSteps.{IsOutput, place_of}
use Rattle.scripts.specs.Script.{given_by_count, given_by_event, given_by_offer, written_alone}
use Rattle.script_lines.specs.ScriptLines.{Count, Cut, Nothing, Offer, Sense, Show, Take, Unknown, Whole, queue_in, tried_in}
use Rattle.script_lines.specs.Views.{sense}
use Rattle.scripts.proofs.Replying.{count_understood, line_holds, output_unknown}
use Rattle.scripts.proofs.script.Script.run_line.Goals as goal
use Rattle.scripts.proofs.script.Script.run_line.Goals.{in-Nothing, in-Count+in_ok-text-in-Count, in-Offer+in_ok-text-in-Offer, in-Cut+in_ok-text-in-Cut, in-Whole+in_ok-text-in-Whole, in-Take+in_ok-text-in-Take, in-Show+in_ok-text-in-Show}

pub returns-in-Unknown-clause-ok : goal.returns-in-Unknown-clause-ok
returns-in-Unknown-clause-ok c =
    let place = place_of c.args.self.now in
    IfOk-weaker c.not_understood.result _ _
    (λ output is. λ w at.
    subst (λ (x : Sense). IsOutput place w c.args.number x c.args.self.now.world output) (ap sense (sym c.in-Unknown.is) ∙ c.read_line.ensures)
    (output_unknown place w c.args.number Unknown c.args.self.now.world output refl at is)) c.not_understood.ensures

pub returns-clause-ok : goal.returns-clause-ok
returns-clause-ok c = λ w at. let place = place_of c.args.self.now in elim c.match-read_line.branch [
  | in-Nothing b ↦ line_holds place w c.args.number _ Nothing _ c.args.self.now _ b.new-text.result (written_alone w [])
      (ap sense (sym b.in-Nothing.is) ∙ c.read_line.ensures) b.self-is b.text-is refl refl (record { stands = at; is = b.new-text.ensures.items })
  | in-Count+in_ok-text-in-Count b ↦ line_holds place w c.args.number _ (Count b.in-Count.site b.in-Count.calls b.in-Count.queue.now) _ b.run_count.new.self _ b.in_ok-text-in-Count.text (given_by_count place w b.in-Count.site b.in-Count.calls (name_of b.in-Count.queue.now))
      (ap sense (sym b.in-Count.is) ∙ c.read_line.ensures) b.self-is b.text-is refl (count_understood place w b.in-Count.site b.in-Count.calls (name_of b.in-Count.queue.now)) (b.in_ok-text-in-Count.ensures.ok w at)
  | in-Offer+in_ok-text-in-Offer b ↦ line_holds place w c.args.number _ (Offer b.in-Offer.site b.in-Offer.parts.now) _ c.args.self.now _ b.in_ok-text-in-Offer.text (given_by_offer place w b.in-Offer.site (queue_in b.in-Offer.parts.now) (tried_in b.in-Offer.parts.now))
      (ap sense (sym b.in-Offer.is) ∙ c.read_line.ensures) b.self-is b.text-is refl refl (record { stands = at; is = b.in_ok-text-in-Offer.ensures w at })
  | in-Cut+in_ok-text-in-Cut b ↦ line_holds place w c.args.number _ (Cut b.in-Cut.site) _ b.run_event.new.self _ b.in_ok-text-in-Cut.text (given_by_event place w (event.Cut b.in-Cut.site))
      (ap sense (sym b.in-Cut.is) ∙ c.read_line.ensures) b.self-is b.text-is refl refl (b.in_ok-text-in-Cut.ensures.ok w at)
  | in-Whole+in_ok-text-in-Whole b ↦ line_holds place w c.args.number _ (Whole b.in-Whole.site) _ b.run_event-in-Whole.new.self _ b.in_ok-text-in-Whole.text (given_by_event place w (event.Whole b.in-Whole.site))
      (ap sense (sym b.in-Whole.is) ∙ c.read_line.ensures) b.self-is b.text-is refl refl (b.in_ok-text-in-Whole.ensures.ok w at)
  | in-Take+in_ok-text-in-Take b ↦ line_holds place w c.args.number _ (Take b.in-Take.site b.in-Take.entry) _ b.run_event-in-Take.new.self _ b.in_ok-text-in-Take.text (given_by_event place w (event.Take b.in-Take.site b.in-Take.entry))
      (ap sense (sym b.in-Take.is) ∙ c.read_line.ensures) b.self-is b.text-is refl refl (b.in_ok-text-in-Take.ensures.ok w at)
  | in-Show+in_ok-text-in-Show b ↦ line_holds place w c.args.number _ (Show b.in-Show.entry) _ c.args.self.now _ b.in_ok-text-in-Show.text (written_alone w b.in_ok-text-in-Show.text.items)
      (ap sense (sym b.in-Show.is) ∙ c.read_line.ensures) b.self-is b.text-is (b.in_ok-text-in-Show.text.items, b.in_ok-text-in-Show.ensures w at, refl) refl (record { stands = at; is = refl })
]
