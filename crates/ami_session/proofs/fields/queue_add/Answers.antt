use Rattle.std.proofs.Common.{◌≡◌, Some, codes, unwrap_or, sym, ap, ◌∙◌}
use Rattle.std.specs.Option.{option_map}
use Rattle.ami_text.specs.MessageFields.{value_of}
use Rattle.replica.specs.declared.command.Command.TheVariants.{Add}
use Rattle.status_report.specs.declared.asks.Ask.TheVariants.{Command}
use Rattle.ami_session.specs.Actions.{text_at}
use Rattle.ami_session.specs.FieldValues.{name_of, penalty_of, text_of}
use Rattle.ami_session.proofs.TableSteps.{always_read, name_is, name_read, penalty_is, penalty_read, skip, text_is, text_read}
use Rattle.ami_session.proofs.fields.queue_add.Goals as goal

pub returns : goal.returns
returns c =
    let m = c.args.message.now in
    let queue : name_of (text_at (codes "Queue") m) ≡ Some c.in-Some.queue = ap name_of (sym c.text_at.ensures) ∙ sym c.queue_of.ensures ∙ c.in-Some.is in
    let interface : name_of (text_at (codes "Interface") m) ≡ Some c.in-Some-interface_of.interface = ap name_of (sym c.text_at-2.ensures) ∙ sym c.interface_of.ensures ∙ c.in-Some-interface_of.is in
    let penalty : penalty_of (unwrap_or (value_of (codes "Penalty") m) (codes "0")) ≡ Some c.in-Some-penalty_in.penalty = sym c.penalty_in.ensures ∙ c.in-Some-penalty_in.is in
    let name : text_of (text_at (codes "MemberName") m) ≡ Some c.in-Some-text_of.name = ap text_of (sym c.text_at-3.ensures) ∙ sym c.text_of.ensures ∙ c.in-Some-text_of.is in
    let state : text_of (text_at (codes "StateInterface") m) ≡ Some c.in-Some-text_of-2.state = ap text_of (sym c.text_at-4.ensures) ∙ sym c.text_of-2.ensures ∙ c.in-Some-text_of-2.is in
    record {
      readable =
          ap (option_map (λ f. f.name))
          (skip _ _ _ (name_read (value_of (codes "Queue") m) _ queue)
          ∙ skip _ _ _ (name_read (value_of (codes "Interface") m) _ interface)
          ∙ skip _ _ _ (penalty_read (value_of (codes "Penalty") m) _ penalty)
          ∙ skip _ _ _ (always_read (value_of (codes "Paused") m))
          ∙ skip _ _ _ (text_read (value_of (codes "MemberName") m) _ name)
          ∙ skip _ _ _ (text_read (value_of (codes "StateInterface") m) _ state));
      asked = λ k.
          Command (Add (name_is (text_at (codes "Queue") m) _ queue k) (name_is (text_at (codes "Interface") m) _ interface k)
          (penalty_is (unwrap_or (value_of (codes "Penalty") m) (codes "0")) _ penalty k) (c.requires.paused k) (record { name = text_is (text_at (codes "MemberName") m) _ name k; state = text_is (text_at (codes "StateInterface") m) _ state k }));
    }
