use Rattle.std.proofs.Common.{◌∙◌, ◌≤◌, ◌+◌, [], ◌∷◌, Ok, Err, ap, arith, length, sym}
use Rattle.std.proofs.lemmas.Result.{err_from_is_err_and}
use Rattle.ami_text.specs.Stream.{Gives}
use Rattle.serve.specs.Steps.{IsWanted}
use Rattle.serve.proofs.Coming.{broken_came, come_none, come_so, fault_next, held_so, left_within, next_so, none_came, piece_came}
use Rattle.serve.proofs.incoming.next_message.Goals as goal

pub returns-in-Some-clause-come : goal.returns-in-Some-clause-come
returns-in-Some-clause-come g c =
    let laws = c.messages_so_far.ensures in
    let held = c.pieces.incoming.feed.held in
    let rest = c.next_message.new.self.held in
    let message = c.in-Some.message in
    let first = rw c.in-Some.is at c.in_ok-message.ensures.message in
    come_so _ _ _ _ _ (λ stream. Gives stream [] held × IsWanted _ stream) _
    (λ stream x. (laws.later stream held rest [] (message ∷ []) x.0 (laws.one held rest message first), x.1)) c.pieces.invariant.come

pub returns-in_err-message-clause-come : goal.returns-in_err-message-clause-come
returns-in_err-message-clause-come g c =
    let reported = err_from_is_err_and c.from_residual.result c.from_residual.ensures.1 in
    next_so _ _ _ _ _ _ _ _ (sym reported.1)
    (come_so _ _ _ _ _ (λ stream. Gives stream [] c.pieces.incoming.feed.held × IsWanted _ stream) _
    (λ stream x. fault_next c.in_err-message.field-0.0 reported.0 c.pieces.incoming.feed _ _ stream reported.2 c.pieces.invariant.reading.feed c.in_err-message.ensures.fault x.0 x.1)
    c.pieces.invariant.come)

pub pieces-init : goal.pieces-init
pieces-init g c = record {
  reading = c.requires.reading;
  counted = omega arith;
  come = come_none _ _ _ c.messages_so_far.ensures.none;
  ahead = omega arith;
}

pub pieces-preserved : goal.pieces-preserved
pieces-preserved g c =
    let laws = c.messages_so_far.ensures in
    let rest = c.next_message.ensures.rest (c.in_ok-message.was ∙ ap Ok c.in_default.is) in
    let is = c.in_ok-read_piece.was ∙ ap Ok c.if-not-branch.false in
    let held = c.pieces.incoming.feed.held in
    let left = c.next_message.new.self.held in
    let before = come_so _ _ _ _ _ (λ stream. Gives stream [] held × IsWanted _ stream) (λ stream. Gives stream [] left) (λ stream x. laws.later stream held left [] [] x.0 rest.0) c.pieces.invariant.come in
    let more = c.read_piece.ensures.more is in
    let read = c.in_ok-read_piece.ensures.has_read in
    let short : length c.read_piece.new.incoming.feed.held ≤ length left + 1024 = omega (arith, more.0, more.1) in
    record {
      reading = record { works = read.reader.works; feed = read.feed; goes_on = λ less. c.read_piece.ensures.goes_on is };
      counted = omega (arith, c.read_piece.ensures.counted is, c.pieces.invariant.counted);
      come = piece_came _ _ _ _ left _ _ _ _ laws.more rest.1 short before (held_so _ _ left _ _ _ _ _ is c.read_piece.ensures.come);
      ahead = omega (arith, more.1, left_within held left rest.0, c.pieces.invariant.ahead);
    }

pub returns-then-not-branch-clause-come : goal.returns-then-not-branch-clause-come
returns-then-not-branch-clause-come g c =
    let laws = c.messages_so_far.ensures in
    let rest = c.next_message.ensures.rest (c.in_ok-message.was ∙ ap Ok c.in_default.is) in
    let is = c.in_ok-read_piece.was ∙ ap Ok c.if-not-branch.true in
    let held = c.pieces.incoming.feed.held in
    let left = c.next_message.new.self.held in
    let before = come_so _ _ _ _ _ (λ stream. Gives stream [] held × IsWanted _ stream) (λ stream. Gives stream [] left) (λ stream x. laws.later stream held left [] [] x.0 rest.0) c.pieces.invariant.come in
    none_came _ _ _ _ left _ _ _ _ laws.more rest.1 before (held_so _ _ left _ _ _ _ _ is c.read_piece.ensures.come)

pub returns-in_err-read_piece-clause-come : goal.returns-in_err-read_piece-clause-come
returns-in_err-read_piece-clause-come g c =
    let laws = c.messages_so_far.ensures in
    let rest = c.next_message.ensures.rest (c.in_ok-message.was ∙ ap Ok c.in_default.is) in
    let held = c.pieces.incoming.feed.held in
    let left = c.next_message.new.self.held in
    let before = come_so _ _ _ _ _ (λ stream. Gives stream [] held × IsWanted _ stream) (λ stream. Gives stream [] left) (λ stream x. laws.later stream held left [] [] x.0 rest.0) c.pieces.invariant.come in
    let reported = err_from_is_err_and c.from_residual-in_err-read_piece.result c.from_residual-in_err-read_piece.ensures.1 in
    next_so _ _ _ _ _ _ _ _ (sym (reported.1 ∙ ap Err reported.2))
    (broken_came c.in_err-read_piece.field-0.0 _ _ _ _ left _ _ _ _ laws.more rest.1 before (held_so _ _ left _ _ _ _ _ c.in_err-read_piece.was c.read_piece.ensures.come))
