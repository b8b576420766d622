use Rattle.std.proofs.Common.{ℕ, ◌≡◌, ◌+◌, ◌-◌, ◌≤◌, Bool, true, false, not, refl, ap, sym, subst, ◌∙◌, arith}
use Rattle.std.specs.FinSet as set
use Rattle.dots.specs.DotSets.{dots_between, run_count, set_of}
use Rattle.dots.proofs.Runs.{runs_of_set}
use Rattle.live_cells.specs.PlacedLists.{is_placed}
use Rattle.member_orset.specs.Gathering.{IsGathered, part_before, runs_after}
use Rattle.member_orset.proofs.SeenDots.{before_it, from_one, next_site, none_past, part_inside, part_outside, runs_grown}
use Rattle.member_orset.proofs.SiteWalk.{piece_here, piece_of}
use Rattle.member_orset.proofs.site_walk.gather_site.Goals.{else-piece, then-piece}
use Rattle.member_orset.proofs.site_walk.gather_site.Goals as goal

at_most : (runs : ℕ) (begins : Bool) → runs_after runs begins ≤ runs + 1
at_most runs true = omega arith
at_most runs false = omega arith

pub loop-first-init : goal.loop-first-init
loop-first-init c =
    let few = c.requires in
    let site = c.site-site.ensures.value in
    let count = c.in-Some.ensures.value.1 in
    record {
      least = omega arith;
      most = omega arith;
      few = omega arith;
      come = omega arith;
      runs = refl;
      dots = refl;
      given = refl;
      last = refl;
      before = λ known dots are name. sym name.not_zero;
      gathered = λ known dots are name g. subst (IsGathered c.args.gathered.now) (sym (from_one dots c.args.last.site name.not_zero)) g;
    }

pub go_to-requires : goal.go_to-requires
go_to-requires c =
    let v = c.loop-first.invariant in
    let come = v.come in
    let count = c.in-Some-new.ensures.value.1 in
    let end = c.count-end.ensures.value in
    let last = ap (λ d. d.count) v.last in (
      c.loop-first.walk.of_site ∙ ap (λ d. d.site) v.last ∙ sym (c.in-Some-new.ensures.value.0 ∙ c.site-site.ensures.value),
      omega arith,
      omega arith,
    )

pub invariant_of-run : goal.invariant_of-run
invariant_of-run c =
    let site = c.args.last.site in
    let v = c.loop-first.invariant in
    let first = c.loop-first.first in
    let piece = c.piece-piece.result in
    let end = c.count-end.ensures.value in
    let e = c.go_to.ensures in
    let site_is = ap (λ d. d.site) e.from ∙ c.in-Some-new.ensures.value.0 ∙ c.site-site.ensures.value in
    let first_is = ap (λ d. d.count) e.from ∙ c.in-Some-new.ensures.value.1 in
    let all = set_of c.args.runs.list.now in
    let is0 =
    piece_here all c.args.runs.list.now _ c.args.dots.list.now _ c.args.given.list.now _ c.args.last _ _ site first piece (e.runs ∙ v.runs) (e.dots ∙ v.dots) (e.given ∙ v.given) (e.last ∙ v.last) site_is first_is
    (runs_of_set c.args.runs.list.now c.args.runs.apart) (c.piece-piece.ensures all) in
    let order : first ≤ c.args.last.count = omega arith in
    let some : first ≤ piece.last = is0.some order in
    let within = is0.within in
    let least = v.least in
    let limit = c.count-end.ensures.limit in
    record {
      site = c.site-site.ensures.limit;
      least = least;
      ordered = some;
      most = omega arith;
    }

pub add-requires : goal.add-requires
add-requires c =
    let few = c.loop-first.invariant.few in
    let site = c.site-site.ensures.value in
    let limit = c.site-site.ensures.limit in
    let most = c.count-end.ensures.limit in
    omega arith

pub overflow_add-first : goal.overflow_add-first
overflow_add-first c =
    let site = c.args.last.site in
    let v = c.loop-first.invariant in
    let first = c.loop-first.first in
    let piece = c.piece-piece.result in
    let end = c.count-end.ensures.value in
    let e = c.go_to.ensures in
    let site_is = ap (λ d. d.site) e.from ∙ c.in-Some-new.ensures.value.0 ∙ c.site-site.ensures.value in
    let first_is = ap (λ d. d.count) e.from ∙ c.in-Some-new.ensures.value.1 in
    let all = set_of c.args.runs.list.now in
    let is0 =
    piece_here all c.args.runs.list.now _ c.args.dots.list.now _ c.args.given.list.now _ c.args.last _ _ site first piece (e.runs ∙ v.runs) (e.dots ∙ v.dots) (e.given ∙ v.given) (e.last ∙ v.last) site_is first_is
    (runs_of_set c.args.runs.list.now c.args.runs.apart) (c.piece-piece.ensures all) in
    let order : first ≤ c.args.last.count = omega arith in
    let some : first ≤ piece.last = is0.some order in
    let within = is0.within in
    let limit = c.count-end.ensures.limit in
    omega arith

pub loop-first-smaller : goal.loop-first-smaller
loop-first-smaller c =
    let site = c.args.last.site in
    let v = c.loop-first.invariant in
    let first = c.loop-first.first in
    let piece = c.piece-piece.result in
    let end = c.count-end.ensures.value in
    let e = c.go_to.ensures in
    let site_is = ap (λ d. d.site) e.from ∙ c.in-Some-new.ensures.value.0 ∙ c.site-site.ensures.value in
    let first_is = ap (λ d. d.count) e.from ∙ c.in-Some-new.ensures.value.1 in
    let all = set_of c.args.runs.list.now in
    let is0 =
    piece_here all c.args.runs.list.now _ c.args.dots.list.now _ c.args.given.list.now _ c.args.last _ _ site first piece (e.runs ∙ v.runs) (e.dots ∙ v.dots) (e.given ∙ v.given) (e.last ∙ v.last) site_is first_is
    (runs_of_set c.args.runs.list.now c.args.runs.apart) (c.piece-piece.ensures all) in
    let order : first ≤ c.args.last.count = omega arith in
    let some : first ≤ piece.last = is0.some order in
    let within = is0.within in
    omega arith

pub loop-first-preserved : goal.loop-first-preserved
loop-first-preserved c =
    let site = c.args.last.site in
    let v = c.loop-first.invariant in
    let first = c.loop-first.first in
    let piece = c.piece-piece.result in
    let end = c.count-end.ensures.value in
    let e = c.go_to.ensures in
    let site_is = ap (λ d. d.site) e.from ∙ c.in-Some-new.ensures.value.0 ∙ c.site-site.ensures.value in
    let first_is = ap (λ d. d.count) e.from ∙ c.in-Some-new.ensures.value.1 in
    let all = set_of c.args.runs.list.now in
    let is0 =
    piece_here all c.args.runs.list.now _ c.args.dots.list.now _ c.args.given.list.now _ c.args.last _ _ site first piece (e.runs ∙ v.runs) (e.dots ∙ v.dots) (e.given ∙ v.given) (e.last ∙ v.last) site_is first_is
    (runs_of_set c.args.runs.list.now c.args.runs.apart) (c.piece-piece.ensures all) in
    let order : first ≤ c.args.last.count = omega arith in
    let some : first ≤ piece.last = is0.some order in
    let within = is0.within in
    let least = v.least in
    let few = v.few in
    let next : piece.last ≡ (piece.last + 1) - 1 = omega arith in
    record {
      least = omega arith;
      most = omega arith;
      few = elim c.if-piece.branch [
        | then-piece w ↦
            let more = w.add.ensures.runs in
            let most = at_most c.loop-first.gathered.runs (not c.loop-first.goes_on) in
            let same = ap (λ s. s.runs) w.gathered-is in
            omega arith
        | else-piece w ↦ let same = ap (λ s. s.runs) w.gathered-is in omega arith
      ];
      come = omega arith;
      runs = e.runs ∙ v.runs;
      dots = e.dots ∙ v.dots;
      given = e.given ∙ v.given;
      last = e.last ∙ v.last;
      before = λ known dots are name.
          let is =
          piece_here known c.args.runs.list.now _ c.args.dots.list.now _ c.args.given.list.now _ c.args.last _ _ site first piece (e.runs ∙ v.runs) (e.dots ∙ v.dots) (e.given ∙ v.given) (e.last ∙ v.last) site_is first_is are
          (c.piece-piece.ensures known) in
          sym (is.same piece.last some (omega arith)) ∙ sym (name.same piece.last (omega arith) within) ∙ (λ i. set.contains dots (record { site = site; count = next i }));
      gathered = λ known dots are name g.
          let is =
          piece_here known c.args.runs.list.now _ c.args.dots.list.now _ c.args.given.list.now _ c.args.last _ _ site first piece (e.runs ∙ v.runs) (e.dots ∙ v.dots) (e.given ∙ v.given) (e.last ∙ v.last) site_is first_is are
          (c.piece-piece.ensures known) in
          let named = piece_of known (is_placed c.args.dots.list.now) c.args.given.list.now site first c.args.last.count dots piece name least is in
          let old = v.gathered known dots are name g in
          let part = part_before dots site first in
          elim c.if-piece.branch [
            | then-piece w ↦
                let same : set.union part (dots_between c.site-site.result first piece.last) ≡ set.union part (dots_between site first piece.last) =
                λ i. set.union part (dots_between (c.site-site.ensures.value i) first piece.last) in
                let runs : run_count (set.union part (dots_between c.site-site.result first piece.last)) ≡ runs_after (run_count part) (not c.loop-first.goes_on) =
                ap run_count same ∙ runs_grown part site first least (λ n h. none_past dots site first n h) piece.last some
                ∙ ap (λ b. runs_after (run_count part) (not b)) (before_it dots site first least ∙ sym (v.before known dots are name)) in
                subst (λ s. IsGathered s (part_before dots site (piece.last + 1))) (sym w.gathered-is)
                (subst (IsGathered w.add.new.self) (same ∙ sym (part_inside dots site first piece.last some (λ n lo hi. named.same n lo hi ∙ w.if-piece.true))) (w.add.ensures.gathered part old runs))
            | else-piece w ↦
                subst (λ s. IsGathered s (part_before dots site (piece.last + 1))) (sym w.gathered-is)
                (subst (IsGathered c.loop-first.gathered) (sym (part_outside dots site first piece.last some (λ n lo hi. named.same n lo hi ∙ w.if-piece.false))) old)
          ];
    }

pub returns-clause-gathered : goal.returns-clause-gathered
returns-clause-gathered c known dots are name g =
    let most = c.loop-first.invariant.most in
    let last = c.count-end.ensures.value in
    let end : c.loop-first.first ≡ c.args.last.count + 1 = omega arith in
    subst (IsGathered c.loop-first.gathered)
    (ap (part_before dots c.args.last.site) end ∙ next_site dots c.args.last.site c.args.last.count name.none_past)
    (c.loop-first.invariant.gathered known dots are name g)
