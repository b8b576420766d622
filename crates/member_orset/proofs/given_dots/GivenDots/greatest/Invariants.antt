use Rattle.std.proofs.Common.{◌≡◌, ◌≤◌, ◌<◌, ◌^◌, true, take}
use Rattle.std.specs.List.{All}
use Rattle.member_orset.specs.Gathering.{is_given}
use Rattle.member_orset.proofs.given_dots.GivenDots.greatest.Given as goal

abbrev pub invariant-loop-dot : goal.invariant-loop-dot
invariant-loop-dot l = record {
  limit : l.greatest ≤ 2 ^ 40;
  least : All (λ d. d.site ≡ l.site → 1 ≤ d.count) (take l.dot-index l.those);
  most : All (λ d. d.site ≡ l.site → d.count ≤ l.greatest) (take l.dot-index l.those);
  reached : 0 < l.greatest → is_given (take l.dot-index l.those) (record { site = l.site; count = l.greatest }) ≡ true;
}
