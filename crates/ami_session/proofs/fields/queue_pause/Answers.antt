use Rattle.std.proofs.Common.{◌≡◌, ℕ, Bool, true, false, List, [], Some, codes, if◌then◌else◌, refl, sym, ap, ◌∙◌}
use Rattle.std.specs.Option.{option_map}
use Rattle.dots.specs.Values.{PauseState}
use Rattle.ami_text.specs.MessageFields.{value_of}
use Rattle.replica.specs.declared.command.Command.TheVariants.{Pause}
use Rattle.status_report.specs.declared.asks.Ask.TheVariants.{Command}
use Rattle.ami_session.specs.Actions.{is_unread, Name, pause_in, text_at}
use Rattle.ami_session.specs.FieldValues.{name_of, text_of}
use Rattle.ami_session.proofs.TableSteps.{always_read, name_is, name_read, skip, text_is, text_read}
use Rattle.ami_session.proofs.fields.queue_pause.Goals as goal

-- a pause that is made of a reason has it where it is paused
made : (pause : PauseState) (yes : Bool) (reason : List ℕ) → pause.paused ≡ yes → (yes ≡ true → pause.reason ≡ reason) → (yes ≡ false → pause.reason ≡ [])
    → pause ≡ record { paused = yes; reason = if yes then reason else [] }
made pause true reason paused has dropped = λ k. record { paused = paused k; reason = has refl k }
made pause false reason paused has dropped = λ k. record { paused = paused k; reason = dropped refl k }

pub returns : goal.returns
returns c =
    let m = c.args.message.now in
    let interface : name_of (text_at (codes "Interface") m) ≡ Some c.in-Some.interface = ap name_of (sym c.text_at.ensures) ∙ sym c.interface_of.ensures ∙ c.in-Some.is in
    let reason : text_of (text_at (codes "Reason") m) ≡ Some c.in-Some-text_of.reason = ap text_of (sym c.text_at-2.ensures) ∙ sym c.text_of.ensures ∙ c.in-Some-text_of.is in
    let queue : is_unread Name (value_of (codes "Queue") m) ≡ false = ap (is_unread Name) (sym c.get.ensures) ∙ c.in-Some-optional_queue.ensures.0 in
    let pause : c.new.result ≡ pause_in m =
    made c.new.result c.args.paused c.in-Some-text_of.reason c.new.ensures.paused c.new.ensures.reason c.new.ensures.dropped
    ∙ (λ k. record { paused = c.requires.paused k; reason = if c.requires.paused k then text_is (text_at (codes "Reason") m) _ reason k else [] })
    in
    record {
      readable =
          ap (option_map (λ f. f.name))
          (skip _ _ _ (name_read (value_of (codes "Interface") m) _ interface)
          ∙ skip _ _ _ (always_read (value_of (codes "Paused") m))
          ∙ skip _ _ _ queue
          ∙ skip _ _ _ (text_read (value_of (codes "Reason") m) _ reason));
      asked = λ k. Command (Pause ((c.in-Some-optional_queue.ensures.1 ∙ c.get.ensures) k) (name_is (text_at (codes "Interface") m) _ interface k) (pause k));
    }
