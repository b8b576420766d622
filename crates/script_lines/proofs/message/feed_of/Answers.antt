use Rattle.std.proofs.Common.{◌++◌, ap, ◌∙◌}
use Rattle.ami_text.specs.FeedStates.{FeedState}
use Rattle.script_lines.proofs.message.feed_of.Goals as goal

pub returns : goal.returns
returns c =
    let new = c.new-feed.ensures in
    let works = ap (λ (h : FeedState). h.fault) new in
    let fed = c.deref.result.now in
    let held = c.in_ok-feed.ensures.fed works ∙ ap (λ (h : FeedState). h.held ++ fed) new ∙ c.deref.ensures.value ∙ c.in_ok-stream.ensures in
    λ i. record { held = held i; fault = (c.feed.ensures.fault ∙ works) i }
