use Rattle.std.proofs.Common.{◌≡◌}
use Rattle.offer.specs.Offers.{first_of, offers_of}
use Rattle.offer.specs.GoingOver.{first_with}
use Rattle.offer.proofs.first.first_offer.Given as goal

-- the first so far, with the offers of the rows that are left, makes the first of all
abbrev pub invariant-loop-interface : goal.invariant-loop-interface
invariant-loop-interface l = first_with l.first (offers_of l.tried l.interface-iterator) ≡ first_of (offers_of l.tried l.fn.rows)
