-- Steps that are saved behind those before.
use Rattle.std.proofs.Common.{◌≡◌, ◌∙◌, ◌+◌, ◌≤◌, List, ◌++◌, length, sym, ap, arith, length-append, subst}
use mathlib.Core.List.{IsPrefix}
use Rattle.replica.specs.Site.{IsSameSite, SiteState}
use Rattle.site_journal.specs.Legal.{LeadAll}
use Rattle.site_journal.specs.declared.step.Step.{Step}
use Rattle.stored_desk.specs.Recorded.{IsLegalHistory, IsRest}
use Rattle.stored_desk.proofs.Prefixes.{prefix_shorter, prefix_whole}
use Rattle.stored_desk.proofs.Recording.{lead_from}

-- what stands behind as many steps as are saved is the rest, since both are prefixes of one history
pub rest_whole : (saved history rest : List Step) → IsRest history rest (length saved) → (length saved ≤ length history → IsPrefix saved history) → history ≡ saved ++ rest
rest_whole saved history rest is this =
    let len : length history ≡ length saved + length rest = omega (arith, ap length is.all, length-append is.before rest, is.count) in
    let mine : IsPrefix saved history = this (omega (arith, len)) in
    let other : IsPrefix is.before history = (rest, sym is.all) in
    let begins : IsPrefix is.before saved = prefix_shorter is.before saved history other mine (omega (arith, is.count)) in
    let same : is.before ≡ saved = prefix_whole is.before saved begins (omega (arith, is.count)) in
    is.all ∙ ap (λ l. l ++ rest) same

-- a site that says the same at first can do the same steps, which are those that are saved and the rest
pub legal_rest : (begun base : SiteState) (saved rest history : List Step) → IsSameSite begun base → saved ++ rest ≡ history → IsLegalHistory base history → IsLegalHistory begun (saved ++ rest)
legal_rest begun base saved rest history same all legal = record {
  state = legal.state;
  lead = lead_from begun base legal.state (saved ++ rest) same (subst (λ (l : List Step). LeadAll base l legal.state) (sym all) legal.lead);
}
