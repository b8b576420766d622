use Rattle.std.proofs.Common.{rules, ◌≡◌, ◌∙◌, ◌+◌, Some, ap, arith, length, slice_get, subst, vec_len}
use Rattle.launcher.specs.Places.{AtEach}
use Rattle.server.specs.Tasks.{IsReady, tasks_for}
use Rattle.server.specs.declared.ready_site.ReadySite.{ReadySite}
use Rattle.server.proofs.PlaceLemmas.{each_from, each_front, each_itself, each_none, each_pop}
use Rattle.server.proofs.preparing.sites_with.Goals as goal

-- no site yet, and all listeners are left
pub loop-listener-init : goal.loop-listener-init
loop-listener-init c = (
  omega (arith, c.in-Ok.ensures.len),
  search rules,
  c.requires.links.to,
  c.requires.links.from,
  c.requires.links.from_others,
  each_itself c.args.links.to.items,
  each_itself c.args.links.from.items,
  each_none (λ k (site : ReadySite). IsReady (c.args.clients.now.session.now.places + 1) c.args.links (vec_len c.args.listeners + k) site) c.in-Ok.sites.items (omega (arith, c.in-Ok.ensures.len, c.in-Ok.sites.ok.0)),
)

-- a site has few peers
pub ready_site-requires-clause-links : goal.ready_site-requires-clause-links
ready_site-requires-clause-links c =
    let others = each_pop (λ k from. vec_len from + 1 ≡ vec_len c.args.listeners) c.loop-listener.links.from.items c.pop-in-Some.new.self.from.items c.in-Some-pop.ends.from c.in-Some-pop.ensures.from c.loop-listener.invariant.4 in
    omega (arith, others.1, c.requires.few)

-- the site of one listener more
pub loop-listener-preserved : goal.loop-listener-preserved
loop-listener-preserved c =
    let was = c.loop-listener.invariant in
    let less = c.in-Some.ensures.cases in
    let left = c.in-Some-pop.ensures.left in
    let others = each_pop (λ k from. vec_len from + 1 ≡ vec_len c.args.listeners) c.loop-listener.links.from.items c.pop-in-Some.new.self.from.items c.in-Some-pop.ends.from c.in-Some-pop.ensures.from was.4 in
    let to = each_pop (λ place to. slice_get c.args.links.to.items place ≡ Some to) c.loop-listener.links.to.items c.pop-in-Some.new.self.to.items c.in-Some-pop.ends.to c.in-Some-pop.ensures.to was.5 in
    let from = each_pop (λ place from. slice_get c.args.links.from.items place ≡ Some from) c.loop-listener.links.from.items c.pop-in-Some.new.self.from.items c.in-Some-pop.ends.from c.in-Some-pop.ensures.from was.6 in
    let number : c.in-Some-new.number ≡ vec_len c.pop.new.self = search rules in
    let made = c.in-Ok-ready_site.ensures in
    let place = vec_len c.pop.new.self in
    let at_to : length c.pop-in-Some.new.self.to.items ≡ place = (let e = left.0 in omega (arith, e, was.2, less, c.pop-in-Some.new.self.to.ok.0)) in
    let at_from : length c.pop-in-Some.new.self.from.items ≡ place = (let e = left.1 in omega (arith, e, was.3, less, c.pop-in-Some.new.self.from.ok.0)) in (
      omega (arith, c.insert_first.ensures.len, was.0, less),
      (let e = c.insert_first.ensures.capacity in omega (arith, e, was.1)),
      (let e = left.0 in omega (arith, e, was.2, less)),
      (let e = left.1 in omega (arith, e, was.3, less)),
      others.0,
      to.0,
      from.0,
      each_front (λ at (one : ReadySite). IsReady (c.args.clients.now.session.now.places + 1) c.args.links at one) c.loop-listener.sites.items c.insert_first.new.list.items _ place c.insert_first.ensures.items
          (subst (λ n. AtEach (λ k (one : ReadySite). IsReady (c.args.clients.now.session.now.places + 1) c.args.links (n + k) one) c.loop-listener.sites.items) (omega (arith, less)) was.7)
          (record {
            number = made.number ∙ number;
            ends = c.in-Some-pop.ends;
            to = subst (λ n. slice_get c.args.links.to.items n ≡ Some c.in-Some-pop.ends.to) at_to to.1;
            from = subst (λ n. slice_get c.args.links.from.items n ≡ Some c.in-Some-pop.ends.from) at_from from.1;
            tasks_are = made.tasks ∙ ap (λ n. tasks_for n (c.args.clients.now.session.now.places + 1) c.in-Some-pop.ends) number;
          }),
    )

pub returns-clause-each : goal.returns-clause-each
returns-clause-each c = let none : vec_len c.loop-listener.listeners ≡ 0 = search rules in
    each_from (λ at (one : ReadySite). IsReady (c.args.clients.now.session.now.places + 1) c.args.links at one) c.loop-listener.sites.items (vec_len c.loop-listener.listeners) none c.loop-listener.invariant.7
