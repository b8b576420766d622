use Rattle.site_pumps.proofs.Carrying.{sender_begun, sender_given}
use Rattle.site_pumps.proofs.laws.a_sender_sends_what_it_is_given.Goals as goal

pub returns : goal.returns
returns c = record {
  all = sender_given;
  begun = sender_begun;
}
