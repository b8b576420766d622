use Rattle.std.proofs.Common.{◌≡◌, ◌≢◌, ◌<◌, None, Some, get_or, length, sym, ap, subst, ◌∙◌, arith}
use Rattle.dots.specs.DotSets.{Run}
use Rattle.live_cells.specs.declared.placed.Placed.{Placed}
use Rattle.live_cells.specs.PlacedLists.{IsFirstIn, IsNextIn, is_placed}
use Rattle.live_cells.proofs.Pieces.{agrees, beyond, differs, dots_elsewhere, past_dots}
use Rattle.live_cells.proofs.NextDots.{first_in, none_between}
use Rattle.live_cells.proofs.placed_dots.PlacedDots.next_in.Goals as goal

pub returns-then-place-self : goal.returns-then-place-self
returns-then-place-self c =
    subst (λ (r : Run). IsNextIn c.args.self.list.now r.site r.first r.last None) c.run.view_is (λ n lo hi.
    let from = c.in_ok-from.from in
    let first = c.in_ok-from.ensures.value.1 in
    ap (λ s. is_placed c.args.self.list.now (record { site = s; count = n })) (sym c.in_ok-from.ensures.value.0)
    ∙ past_dots c.args.self.list.now from c.place-place.result n c.args.self.rise c.place-place.ensures.before c.if-place-self.true (omega arith))

pub returns-then-ne : goal.returns-then-ne
returns-then-ne c =
    subst (λ (r : Run). IsNextIn c.args.self.list.now r.site r.first r.last None) c.run.view_is (λ n lo hi.
    let dots = c.args.self.list.now in
    let from = c.in_ok-from.from in
    let first = c.in_ok-from.ensures.value.1 in
    let x = c.index-self-place.result in
    let inside : c.place-place.result < length dots = let w = c.place-place.ensures.within in let m = c.if-place-self.false in omega arith in
    let different = differs _ _ (sym c.ne.ensures ∙ c.if-ne.true) in
    let other : x.dot.site ≢ from.site = λ e. different (c.site.ensures.value ∙ sym (ap (λ y. y.dot.site) c.index-self-place.is) ∙ e ∙ c.in_ok-from.ensures.value.0) in
    let after = beyond dots from c.place-place.result x inside c.index-self-place.is c.place-place.ensures.after (λ e. other (ap (λ y. y.site) (sym e))) in
    ap (λ s. is_placed dots (record { site = s; count = n })) (sym c.in_ok-from.ensures.value.0)
    ∙ dots_elsewhere dots from c.place-place.result x c.args.self.rise inside c.place-place.ensures.before c.index-self-place.is after other n (omega arith))

pub returns-then-count-last : goal.returns-then-count-last
returns-then-count-last c =
    subst (λ (r : Run). IsNextIn c.args.self.list.now r.site r.first r.last None) c.run.view_is (λ n lo hi.
    let dots = c.args.self.list.now in
    let from = c.in_ok-from.from in
    let first = c.in_ok-from.ensures.value.1 in
    let x = c.index-self-place.result in
    let inside : c.place-place.result < length dots = let w = c.place-place.ensures.within in let m = c.if-place-self.false in omega arith in
    let same : x.dot.site ≡ from.site = ap (λ y. y.dot.site) c.index-self-place.is ∙ sym c.site.ensures.value ∙ agrees _ _ (sym c.ne.ensures ∙ c.if-ne.false) ∙ sym c.in_ok-from.ensures.value.0 in
    let count = c.count.ensures.value in
    let is = ap (λ y. y.dot.count) c.index-self-place.is in
    ap (λ s. is_placed dots (record { site = s; count = n })) (sym c.in_ok-from.ensures.value.0)
    ∙ none_between dots from c.place-place.result x c.args.self.rise inside c.place-place.ensures.before c.index-self-place.is c.place-place.ensures.after same n (omega arith) (omega arith))

pub returns : goal.returns
returns c =
    let dots = c.args.self.list.now in
    let from = c.in_ok-from.from in
    let x = c.index-self-place.result in
    let inside : c.place-place.result < length dots = let w = c.place-place.ensures.within in let m = c.if-place-self.false in omega arith in
    let same : x.dot.site ≡ from.site = ap (λ y. y.dot.site) c.index-self-place.is ∙ sym c.site.ensures.value ∙ agrees _ _ (sym c.ne.ensures ∙ c.if-ne.false) ∙ sym c.in_ok-from.ensures.value.0 in
    let count = c.count.ensures.value in
    let is = ap (λ y. y.dot.count) c.index-self-place.is in
    subst (λ (r : Run). IsNextIn dots r.site r.first r.last (Some (get_or dots c.place-place.result x).dot)) c.run.view_is
    (subst (λ (y : Placed). IsFirstIn dots c.run.inside.site c.run.inside.first c.run.inside.last y.dot) c.index-self-place.is
    (first_in dots from c.place-place.result x c.args.self.rise inside c.place-place.ensures.before c.index-self-place.is c.place-place.ensures.after same
    c.run.inside.site c.run.inside.first c.run.inside.last c.in_ok-from.ensures.value.0 c.in_ok-from.ensures.value.1 (omega arith)))
