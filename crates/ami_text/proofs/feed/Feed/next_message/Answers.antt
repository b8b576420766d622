use Rattle.std.proofs.Common.{◌≡◌, ap, inl}
use Rattle.ami_text.specs.FeedStates.{FeedState}
use Rattle.ami_text.proofs.Bounds.{length_rest}
use Rattle.ami_text.proofs.Existence.{rest_shorter}
use Rattle.ami_text.proofs.Feeding.{message_given, outcome_of_message, outcome_of_rest, reached_start, rest_given}
use Rattle.ami_text.proofs.Outcome.{outcome_message, outcome_rest, outcome_fault}
use Rattle.ami_text.proofs.feed.Feed.next_message.Goals as goal

pub invariant_of-self : goal.invariant_of-self
invariant_of-self c = (reached_start c.take_front.new.self, c.self.invariant.1)

pub returns-in_ok-message-in-Message-clause-message :
    goal.returns-in_ok-message-in-Message-clause-message
returns-in_ok-message-in-Message-clause-message c =
    let is : c.self.inside.held ≡ c.args.self.now.held = ap (λ (h : FeedState). h.held) c.self.view_is in
    rw (c.take_front.ensures, is) (message_given c.args.self.now.held c.in-Message.end c.in-Message.next c.in_ok-message-in-Message.message
    (rw (c.as_slice.ensures, is) at c.in-Message.ensures) (rw (c.as_slice-in-Message.ensures, is) at c.in_ok-message-in-Message.ensures))

pub returns-in_ok-message-in-Message-clause-shorter :
    goal.returns-in_ok-message-in-Message-clause-shorter
returns-in_ok-message-in-Message-clause-shorter c =
    rest_shorter c.args.self.now.held _ c.in_ok-message-in-Message.message (returns-in_ok-message-in-Message-clause-message c)

pub returns-in-Rest-clause-rest : goal.returns-in-Rest-clause-rest
returns-in-Rest-clause-rest c = λ _.
    let is : c.self.inside.held ≡ c.args.self.now.held = ap (λ (h : FeedState). h.held) c.self.view_is in
    let found = rw (c.as_slice.ensures, is) at c.in-Rest.ensures in
    rw (c.take_front-in-Rest.ensures, is) (rest_given c.args.self.now.held c.in-Rest.empty c.in-Rest.progress found, found.is_rest)

pub returns-in-Rest-clause-rest_length : goal.returns-in-Rest-clause-rest_length
returns-in-Rest-clause-rest_length c = λ none. length_rest _ (returns-in-Rest-clause-rest c none).1

pub invariant_of-self-in-Rest : goal.invariant_of-self-in-Rest
invariant_of-self-in-Rest c =
    let found = rw c.as_slice.ensures at c.in-Rest.ensures in (rw c.take_front-in-Rest.ensures found.reached, c.self.invariant.1)

pub returns-in_err-message-in-Message-clause-rest_shown :
    goal.returns-in_err-message-in-Message-clause-rest_shown
returns-in_err-message-in-Message-clause-rest_shown c = λ works rest g r.
    let is : c.self.inside.held ≡ c.args.self.now.held = ap (λ (h : FeedState). h.held) c.self.view_is in
    let shown = outcome_rest c.args.self.now.held g.0 rest g.1 g.2 r in
    let found = outcome_of_message c.args.self.now.held c.in-Message.end c.in-Message.next (rw (c.as_slice.ensures, is) at c.in-Message.ensures) in
    cc (shown, found.2)

pub returns-in_err-message-in-Message-clause-fault_shown :
    goal.returns-in_err-message-in-Message-clause-fault_shown
returns-in_err-message-in-Message-clause-fault_shown c = λ works f has.
    let is : c.self.inside.held ≡ c.args.self.now.held = ap (λ (h : FeedState). h.held) c.self.view_is in
    let shown = outcome_fault f c.args.self.now.held has in
    let found = outcome_of_message c.args.self.now.held c.in-Message.end c.in-Message.next (rw (c.as_slice.ensures, is) at c.in-Message.ensures) in
    cc (shown, found.2)

pub returns-in_ok-message-in-Message-clause-message_shown :
    goal.returns-in_ok-message-in-Message-clause-message_shown
returns-in_ok-message-in-Message-clause-message_shown c = λ works m rest first.
    let shown = outcome_message c.args.self.now.held m rest first in
    let found = outcome_message c.args.self.now.held c.in_ok-message-in-Message.message _ (returns-in_ok-message-in-Message-clause-message c) in
    inl (cc (shown, found))

pub returns-in_ok-message-in-Message-clause-rest_shown :
    goal.returns-in_ok-message-in-Message-clause-rest_shown
returns-in_ok-message-in-Message-clause-rest_shown c = λ works rest g r.
    let shown = outcome_rest c.args.self.now.held g.0 rest g.1 g.2 r in
    let found = outcome_message c.args.self.now.held c.in_ok-message-in-Message.message _ (returns-in_ok-message-in-Message-clause-message c) in
    cc (shown, found)

pub returns-in_ok-message-in-Message-clause-fault_shown :
    goal.returns-in_ok-message-in-Message-clause-fault_shown
returns-in_ok-message-in-Message-clause-fault_shown c = λ works f has.
    let shown = outcome_fault f c.args.self.now.held has in
    let found = outcome_message c.args.self.now.held c.in_ok-message-in-Message.message _ (returns-in_ok-message-in-Message-clause-message c) in
    cc (shown, found)

pub returns-in-Rest-clause-message_shown : goal.returns-in-Rest-clause-message_shown
returns-in-Rest-clause-message_shown c = λ works m rest first.
    let is : c.self.inside.held ≡ c.args.self.now.held = ap (λ (h : FeedState). h.held) c.self.view_is in
    let shown = outcome_message c.args.self.now.held m rest first in
    let found = outcome_of_rest c.args.self.now.held c.in-Rest.empty c.in-Rest.progress (rw (c.as_slice.ensures, is) at c.in-Rest.ensures) in
    absurd (cc (shown, found))

pub returns-in-Rest-clause-fault_shown : goal.returns-in-Rest-clause-fault_shown
returns-in-Rest-clause-fault_shown c = λ works f has.
    let is : c.self.inside.held ≡ c.args.self.now.held = ap (λ (h : FeedState). h.held) c.self.view_is in
    let shown = outcome_fault f c.args.self.now.held has in
    let found = outcome_of_rest c.args.self.now.held c.in-Rest.empty c.in-Rest.progress (rw (c.as_slice.ensures, is) at c.in-Rest.ensures) in
    cc (shown, found)

pub returns-in-Fault-clause-message_shown : goal.returns-in-Fault-clause-message_shown
returns-in-Fault-clause-message_shown c = λ works m rest first.
    let is : c.self.inside.held ≡ c.args.self.now.held = ap (λ (h : FeedState). h.held) c.self.view_is in
    let shown = outcome_message c.args.self.now.held m rest first in
    let found = outcome_fault c.in-Fault.fault c.args.self.now.held (rw (c.as_slice.ensures, is) at c.in-Fault.ensures) in
    absurd (cc (shown, found))

pub returns-in-Fault-clause-rest_shown : goal.returns-in-Fault-clause-rest_shown
returns-in-Fault-clause-rest_shown c = λ works rest g r.
    let is : c.self.inside.held ≡ c.args.self.now.held = ap (λ (h : FeedState). h.held) c.self.view_is in
    let shown = outcome_rest c.args.self.now.held g.0 rest g.1 g.2 r in
    let found = outcome_fault c.in-Fault.fault c.args.self.now.held (rw (c.as_slice.ensures, is) at c.in-Fault.ensures) in
    cc (shown, found)

pub returns-in-Fault-clause-fault_shown : goal.returns-in-Fault-clause-fault_shown
returns-in-Fault-clause-fault_shown c = λ works f has.
    let is : c.self.inside.held ≡ c.args.self.now.held = ap (λ (h : FeedState). h.held) c.self.view_is in
    let shown = outcome_fault f c.args.self.now.held has in
    let found = outcome_fault c.in-Fault.fault c.args.self.now.held (rw (c.as_slice.ensures, is) at c.in-Fault.ensures) in
    cc (shown, found)
