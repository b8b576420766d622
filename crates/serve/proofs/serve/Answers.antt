use Rattle.std.proofs.Common.{◌≡◌, ◌∙◌, Bool, Result, Ok, Err, IsErrAnd, ap, sym, arith, rules}
use Rattle.std.specs.Io.KnownBytes.{Appends}
use Rattle.std.proofs.lemmas.Grind.{common_steps}
use Rattle.std.proofs.lemmas.Result.{err_from_is_err_and}
use Rattle.ami_text.specs.Devices.{HasTaken}
use Rattle.ami_text.specs.FeedStates.{FeedState}
use Rattle.ami_session.specs.Text.{greeting}
use Rattle.serve.specs.declared.serve_fault.ServeFault.{ServeFault}
use Rattle.serve.specs.declared.serve_fault.ServeFault.TheVariants.{Turns, Write}
use Rattle.serve.proofs.Coming.{next_so}
use Rattle.serve.proofs.Serving.{answering_breaks, given_few, going_on, going_start, greeting_breaks, reading_breaks, served_at_end, served_by_end, turns_over}
use Rattle.serve.proofs.Working.{no_work, work_broken, work_said, work_so_far}
use Rattle.serve.proofs.serve.Goals as goal

err_is : {T : Type 0} (r : Result T ServeFault) (a b : ServeFault) → r ≡ Err a → r ≡ Err b → a ≡ b
err_is r a b one other = cc

-- the result says whether a message ends the session
as_reported : (reported end is : Bool) → reported ≡ end → reported ≡ is → end ≡ is
as_reported reported end is reports test = sym reports ∙ test

-- the exit of a `?` gives the fault that came
gives : {T : Type 0} (r : Result T ServeFault) (fault : ServeFault) → IsErrAnd r (λ reported. reported ≡ fault) → r ≡ Err fault
gives r fault h = let reported = err_from_is_err_and r h in reported.1 ∙ ap Err reported.2

pub returns-in_err-map_err-clause-left : goal.returns-in_err-map_err-clause-left
returns-in_err-map_err-clause-left g c =
    let write : c.in_err-map_err.field-0.0 ≡ Write = first_of (search rules, grind (arith, common_steps)) in
    let begun : HasTaken (g.W.Sink.taken c.args.writer.now) (g.W.Sink.taken c.greet.new.writer) (greeting c.args.session) = first_of (search rules, grind (arith, common_steps)) in
    rw (gives c.from_residual.result c.in_err-map_err.field-0.0 c.from_residual.ensures.1)
    (greeting_breaks g.D.Desk.answers g.D.Desk.refuses c.in_err-map_err.field-0.0 c.args.session c.args.desk.now _ _ _ c.messages_so_far.ensures.none write begun)

pub returns-in_err-map_err-clause-desk : goal.returns-in_err-map_err-clause-desk
returns-in_err-map_err-clause-desk g c = no_work g.D.Desk.answers g.D.Desk.refuses _

pub messages-init : goal.messages-init
messages-init g c =
    let feed = c.new-incoming.ensures.feed in
    let written : Appends (g.W.Sink.taken c.args.writer.now) (g.W.Sink.taken c.greet.new.writer) (greeting c.args.session) = first_of (search rules, grind (arith, common_steps)) in
    record {
      reading = record {
        works = c.requires.reader;
        feed = ap (λ (f : FeedState). f.fault) feed;
        goes_on = λ less. absurd (omega (arith, less, c.new-incoming.ensures.reads));
      };
      writer = first_of (search rules, grind (arith, common_steps));
      counted = omega (arith, c.new-incoming.ensures.reads);
      going = going_start g.D.Desk.answers c.args.session c.args.desk.now _ _ _ _ _ c.messages_so_far.ensures.none (ap (λ (f : FeedState). f.held) feed) c.new-incoming.ensures.reads written;
    }

pub returns-in_default-clause-served : goal.returns-in_default-clause-served
returns-in_default-clause-served g c =
    let is = c.in_ok-message.was ∙ ap Ok c.in_default.is in
    served_at_end g.D.Desk.answers _ _ _ _ _ _ _ _ _ _ _ _ _ _ c.stream_of_two_pieces.ensures.rest (c.next_message.ensures.ended is)
    c.messages.invariant.going (next_so _ _ _ _ _ _ _ _ is c.next_message.ensures.come)

pub returns-in_default-clause-bytes : goal.returns-in_default-clause-bytes
returns-in_default-clause-bytes g c = given_few g.D.Desk.answers _ _ _ _ _ _ _ _ _ _ _ _ _ c.messages.invariant.going c.next_message.ensures.come

pub returns-in_default-clause-desk : goal.returns-in_default-clause-desk
returns-in_default-clause-desk g c = work_so_far g.D.Desk.answers g.D.Desk.refuses _ _ _ _ _ _ _ _ _ _ c.messages.invariant.going

pub returns-in_err-message-clause-left : goal.returns-in_err-message-clause-left
returns-in_err-message-clause-left g c =
    rw (gives c.from_residual-in_err-message.result c.in_err-message.field-0.0 c.from_residual-in_err-message.ensures.1)
    (reading_breaks g.D.Desk.answers g.D.Desk.refuses c.in_err-message.field-0.0 _ _ _ _ _ _ _ _ _ _ _ _ _ c.stream_of_two_pieces.ensures.rest c.messages_so_far.ensures.more
    c.messages.invariant.going (next_so _ _ _ _ _ _ _ _ c.in_err-message.was c.next_message.ensures.come))

pub returns-in_err-message-clause-bytes : goal.returns-in_err-message-clause-bytes
returns-in_err-message-clause-bytes g c = given_few g.D.Desk.answers _ _ _ _ _ _ _ _ _ _ _ _ _ c.messages.invariant.going c.next_message.ensures.come

pub returns-in_err-message-clause-desk : goal.returns-in_err-message-clause-desk
returns-in_err-message-clause-desk g c = work_so_far g.D.Desk.answers g.D.Desk.refuses _ _ _ _ _ _ _ _ _ _ c.messages.invariant.going

pub returns-in_err-message-clause-turns : goal.returns-in_err-message-clause-turns
returns-in_err-message-clause-turns g c = λ turns.
    let fault = c.in_err-message.field-0.0 in
    let is : fault ≡ Turns = err_is c.from_residual-in_err-message.result fault Turns (gives c.from_residual-in_err-message.result fault c.from_residual-in_err-message.ensures.1) turns in
    let reported = c.in_err-message.ensures.has_read.turns (ap Err is) in
    (reported.1, turns_over g.D.Desk.answers _ _ _ _ _ _ _ _ _ _ _ _ _ reported.0 c.messages.invariant.going c.next_message.ensures.come)

pub returns-then-ends-clause-served : goal.returns-then-ends-clause-served
returns-then-ends-clause-served g c =
    let laws = c.messages_so_far.ensures in
    let is = c.in_ok-message.was ∙ ap Ok c.in-Some.is in
    served_by_end g.D.Desk.answers _ _ _ _ _ _ _ _ _ _ _ _ _ c.in-Some.message _ _ _ c.stream_of_two_pieces.ensures.rest laws.more laws.later
    c.messages.invariant.going (next_so _ _ _ _ _ _ _ _ is c.next_message.ensures.come) c.in_ok-ends.ensures.performed.said (as_reported _ _ _ c.in_ok-ends.ensures.ends c.if-ends.true)

pub returns-then-ends-clause-bytes : goal.returns-then-ends-clause-bytes
returns-then-ends-clause-bytes g c = given_few g.D.Desk.answers _ _ _ _ _ _ _ _ _ _ _ _ _ c.messages.invariant.going c.next_message.ensures.come

pub returns-then-ends-clause-desk : goal.returns-then-ends-clause-desk
returns-then-ends-clause-desk g c = work_said g.D.Desk.answers g.D.Desk.refuses _ _ _ _ _ _ _ _ _ _ _ _ _ c.messages.invariant.going c.in_ok-ends.ensures.performed.said

pub returns-in_err-ends-clause-left : goal.returns-in_err-ends-clause-left
returns-in_err-ends-clause-left g c =
    let laws = c.messages_so_far.ensures in
    let is = c.in_ok-message.was ∙ ap Ok c.in-Some.is in
    rw (gives c.from_residual-in_err-ends.result c.in_err-ends.field-0.0 c.from_residual-in_err-ends.ensures.1)
    (answering_breaks g.D.Desk.answers g.D.Desk.refuses c.in_err-ends.field-0.0 _ _ _ _ _ _ _ _ _ _ _ _ _ c.in-Some.message _ _ c.stream_of_two_pieces.ensures.rest laws.more laws.later
    c.messages.invariant.going (next_so _ _ _ _ _ _ _ _ is c.next_message.ensures.come) c.in_err-ends.ensures.performed.fault)

pub returns-in_err-ends-clause-bytes : goal.returns-in_err-ends-clause-bytes
returns-in_err-ends-clause-bytes g c = given_few g.D.Desk.answers _ _ _ _ _ _ _ _ _ _ _ _ _ c.messages.invariant.going c.next_message.ensures.come

pub returns-in_err-ends-clause-desk : goal.returns-in_err-ends-clause-desk
returns-in_err-ends-clause-desk g c =
    work_broken g.D.Desk.answers g.D.Desk.refuses c.in_err-ends.field-0.0 _ _ _ _ _ _ _ _ _ _ _ _ _ c.messages.invariant.going c.in_err-ends.ensures.performed.fault

pub messages-preserved : goal.messages-preserved
messages-preserved g c =
    let laws = c.messages_so_far.ensures in
    let is = c.in_ok-message.was ∙ ap Ok c.in-Some.is in
    record {
      reading = record {
        works = c.in_ok-message.ensures.has_read.reader.works;
        feed = c.in_ok-message.ensures.has_read.feed;
        goes_on = rw c.in-Some.is at c.in_ok-message.ensures.goes_on;
      };
      writer = c.in_ok-ends.ensures.performed.writer.works;
      counted = let now = rw c.in-Some.is at c.in_ok-message.ensures.counted in omega (arith, now, c.messages.invariant.counted);
      going = going_on g.D.Desk.answers _ _ _ _ _ _ _ _ _ _ _ _ _ _ c.in-Some.message _ _ c.stream_of_two_pieces.ensures.rest laws.more laws.later
          c.messages.invariant.going (next_so _ _ _ _ _ _ _ _ is c.next_message.ensures.come) c.in_ok-ends.ensures.performed.said c.in_ok-ends.ensures.session (as_reported _ _ _ c.in_ok-ends.ensures.ends c.if-ends.false);
    }
