-- Sites that are linked one after the other.
use Rattle.std.proofs.Common.{◌≡◌, ◌≢◌, ◌∙◌, ◌+◌, ◌<◌, ◌≤◌, inl, inr, ℕ, zero, suc, List, [], ◌∷◌, ◌++◌, Some, length, length-append, map, set, slice_get, slice_index_or, take, refl, sym, ap, subst, ⊎_elim, arith}
use Rattle.std.proofs.Math.ListN.{get_or-append}
use Rattle.std.proofs.Math.Seq.{get_or-append_seam, take-append_seam}
use Rattle.std.proofs.lemmas.Bool.{cases_eq, cases_lt}
use Rattle.std.proofs.lemmas.Bool.Decides.{nat_tests}
use Rattle.std.proofs.lemmas.List.{get_or-map, get_or-set_other, get_or-set_same, get_or_past, length-map, map-append, map-set}
use Rattle.std.proofs.lemmas.Option.{none-some, same_Some, slice_get_within}
use Rattle.site_links.specs.Linking.{AreLinked, IsLinkedFrom, IsNewLink, ends_of, place_of}
use Rattle.site_links.specs.Links.{Receiving, Sending}

-- ---- places

placed_before : (own other : ℕ) → other ≤ own → place_of own other ≡ other
placed_before own other low = grind (arith, nat_tests)

pub placed_behind : (own other : ℕ) → own < other → place_of own other + 1 ≡ other
placed_behind own other high = grind (arith, nat_tests)

-- a place that is defined by cases
pub placed_at : (own other place : ℕ) → (other ≤ own → place ≡ other) → (own < other → place + 1 ≡ other) → place ≡ place_of own other
placed_at own other place before behind = ⊎_elim
    (λ (high : own < other). omega (arith, behind high, placed_behind own other high))
    (λ (low : other ≤ own). omega (arith, before low, placed_before own other low))
    (cases_lt own other)

-- the next site's place among those of another one, and among its own
next_place : (own site : ℕ) → site ≢ own → place_of site own + 1 ≡ place_of site (own + 1)
next_place own site apart = ⊎_elim
    (λ (high : site < own). omega (arith, placed_behind site own high, placed_behind site (own + 1) (omega (arith, high))))
    (λ (low : own ≤ site). omega (arith, placed_before site own low, placed_before site (own + 1) (omega (arith, low, apart))))
    (cases_lt site own)

own_place : (own : ℕ) → place_of own own ≡ place_of own (own + 1)
own_place own = omega (arith, placed_before own own (omega arith), placed_behind own (own + 1) (omega arith))

-- an earlier site stands at an earlier place
earlier_place : (own site other : ℕ) → other < own → site ≢ other → site ≢ own → place_of site other < place_of site own
earlier_place own site other before apart beside = ⊎_elim
    (λ (high : site < own). ⊎_elim
    (λ (late : site < other). omega (arith, placed_behind site own high, placed_behind site other late, before))
    (λ (early : other ≤ site). omega (arith, placed_behind site own high, placed_before site other early, apart, early, high))
    (cases_lt site other))
    (λ (low : own ≤ site). omega (arith, placed_before site own low, placed_before site other (omega (arith, low, before)), before))
    (cases_lt site own)

-- ---- ends

got_below : {E : Type 0} (xs ys : List E) (place : ℕ) → place < length xs → slice_get (xs ++ ys) place ≡ slice_get xs place
got_below [] ys place low = absurd (omega (arith, low))
got_below (x ∷ xs) ys zero low = refl
got_below (x ∷ xs) ys (suc place) low = got_below xs ys place (omega (arith, low))

got_last : {E : Type 0} (xs : List E) (x : E) → slice_get (xs ++ x ∷ []) (length xs) ≡ Some x
got_last [] x = refl
got_last (y ∷ ys) x = got_last ys x

-- who has an end is one of the sites
within : {E : Type 0} (ends : List (List E)) (site place : ℕ) (e : E) → slice_get (ends_of ends site) place ≡ Some e → site < length ends
within ends site place e at = ⊎_elim (λ low. low) (λ past. absurd (none-some e (ap (λ l. slice_get l place) (sym (get_or_past ends site [] past)) ∙ at))) (cases_lt site (length ends))

-- ---- one site

pub linked_none : (own : ℕ) (all : List (List Sending)) → IsLinkedFrom own 0 [] all all
linked_none own all = record { linked = λ other apart low. absurd (omega (arith, low)); stays = λ site is. refl }

-- a site isn't linked from itself
pub linked_own : (own reached : ℕ) (from : List Receiving) (old new : List (List Sending)) → reached ≡ own → IsLinkedFrom own reached from old new
    → IsLinkedFrom own (reached + 1) from old new
linked_own own reached from old new is was = record {
  linked = λ other apart low. was.linked other apart (omega (arith, low, apart, is));
  stays = λ site at. was.stays site (⊎_elim inl (λ past. inr (omega (arith, past))) at);
}

-- a site was linked from one more site
pub linked_one : (own other : ℕ) (from all : List Receiving) (old mid new : List (List Sending)) (sender : Sending) (receiver : Receiving)
    → other ≢ own → other < length mid → length from ≡ place_of own other → IsNewLink sender receiver → all ≡ from ++ receiver ∷ []
    → new ≡ set mid other (ends_of mid other ++ sender ∷ [])
    → IsLinkedFrom own other from old mid → IsLinkedFrom own (other + 1) all old new
linked_one own other from all old mid new sender receiver apart low next one more put was =
    let kept : (site : ℕ) → site ≢ other → ends_of new site ≡ ends_of mid site = λ site beside. ap (λ l. ends_of l site) put ∙ get_or-set_other mid other site (ends_of mid other ++ sender ∷ []) [] beside in record {
      linked = λ site beside below. ⊎_elim
          (λ (before : site < other). let were = was.linked site beside before in (
            were.0,
            were.1,
            were.2,
            kept site (λ is. omega (arith, is, before)) ∙ were.3,
            ap (λ l. slice_get l (place_of own site)) more ∙ got_below from (receiver ∷ []) (place_of own site) (slice_get_within from (place_of own site) were.1 were.4) ∙ were.4,
          ))
          (λ (behind : other ≤ site). let is : other ≡ site = omega (arith, behind, below) in (
            sender,
            receiver,
            one,
            subst (λ n. ends_of new n ≡ ends_of old n ++ sender ∷ []) is
                (ap (λ l. ends_of l other) put ∙ get_or-set_same mid other (ends_of mid other ++ sender ∷ []) [] low ∙ ap (λ l. l ++ sender ∷ []) (was.stays other (inr (omega arith)))),
            subst (λ n. slice_get all (place_of own n) ≡ Some receiver) is (ap (slice_get all) (sym next) ∙ ap (λ l. slice_get l (length from)) more ∙ got_last from receiver),
          ))
          (cases_lt site other);
      stays = λ site is. ⊎_elim
          (λ (same : site ≡ own). kept site (λ there. apart (sym there ∙ same)) ∙ was.stays site (inl same))
          (λ (past : other + 1 ≤ site). kept site (λ there. omega (arith, past, there)) ∙ was.stays site (inr (omega (arith, past)))) is;
    }

-- a site was linked from one more site, with ends that are part of another value
pub linked_at : {A : Type 0} (f : A → List Sending) (own other : ℕ) (from all : List Receiving) (old : List (List Sending)) (to new : List A) (x v : A) (sender : Sending)
    (receiver : Receiving)
    → other ≢ own → other < length to → length from ≡ place_of own other → IsNewLink sender receiver → all ≡ from ++ receiver ∷ []
    → f v ≡ f (slice_index_or to other x) ++ sender ∷ [] → new ≡ set to other v
    → IsLinkedFrom own other from old (map f to) → IsLinkedFrom own (other + 1) all old (map f new)
linked_at f own other from all old to new x v sender receiver apart low next one more grown put was =
    let its = get_or-map f to other x [] low in
    linked_one own other from all old (map f to) (map f new) sender receiver apart (omega (arith, low, length-map to f)) next one more
    (ap (map f) put ∙ map-set f to other v ∙ ap (set (map f to) other) (grown ∙ ap (λ l. l ++ sender ∷ []) (sym its))) was

-- ---- all sites

-- each site has an end for each one so far
pub counted_more : (own : ℕ) (old new : List (List Sending)) (row : List Receiving) → IsLinkedFrom own (length new) row old new
    → ((site : ℕ) → site < length new → length (ends_of old site) ≡ place_of site own)
    → (site : ℕ) → site < length new → length (ends_of new site) ≡ place_of site (own + 1)
counted_more own old new row linked counts site low = ⊎_elim
    (λ (is : site ≡ own). let same = ap length (linked.stays site (inl is)) in same ∙ counts site low ∙ subst (λ n. place_of n own ≡ place_of n (own + 1)) (sym is) (own_place own))
    (λ (apart : site ≢ own). let e = linked.linked site apart low in let more = ap length e.3 in
    omega (arith, more, length-append (ends_of old site) (e.0 ∷ []), counts site low, next_place own site apart))
    (cases_eq site own)

-- what a site has for an earlier one it had before
sent_before : (own site other : ℕ) (sender : Sending) (old new : List (List Sending)) (row : List Receiving) → IsLinkedFrom own (length new) row old new
    → length (ends_of old site) ≡ place_of site own → other < own → site ≢ other
    → slice_get (ends_of new site) (place_of site other) ≡ Some sender → slice_get (ends_of old site) (place_of site other) ≡ Some sender
sent_before own site other sender old new row linked count before apart at = ⊎_elim
    (λ (is : site ≡ own). ap (λ l. slice_get l (place_of site other)) (sym (linked.stays site (inl is))) ∙ at)
    (λ (beside : site ≢ own). let e = linked.linked site beside (within new site (place_of site other) sender at) in
    sym (got_below (ends_of old site) (e.0 ∷ []) (place_of site other) (omega (arith, count, earlier_place own site other before apart beside))) ∙ ap (λ l. slice_get l (place_of site other)) (sym e.3) ∙ at)
    (cases_eq site own)

-- the ends of the last site that was linked
linked_last : (own site : ℕ) (sender : Sending) (receiver : Receiving) (old new : List (List Sending)) (row : List Receiving) → IsLinkedFrom own (length new) row old new
    → length (ends_of old site) ≡ place_of site own → site ≢ own
    → slice_get (ends_of new site) (place_of site own) ≡ Some sender → slice_get row (place_of own site) ≡ Some receiver → IsNewLink sender receiver
linked_last own site sender receiver old new row linked count apart sends receives =
    let e = linked.linked site apart (within new site (place_of site own) sender sends) in
    let its : sender ≡ e.0 = same_Some sender e.0 (sym sends ∙ ap (λ l. slice_get l (place_of site own)) e.3 ∙ ap (slice_get (ends_of old site ++ e.0 ∷ [])) (sym count) ∙ got_last (ends_of old site) e.0) in
    let other : receiver ≡ e.1 = same_Some receiver e.1 (sym receives ∙ e.4) in
    subst (λ s. IsNewLink s receiver) (sym its) (subst (IsNewLink e.0) (sym other) e.2)

-- one site more is linked from all others
pub linked_more : (own : ℕ) (old new : List (List Sending)) (from all : List (List Receiving)) (row : List Receiving) → own ≡ length from → all ≡ from ++ row ∷ []
    → IsLinkedFrom own (length new) row old new → ((site : ℕ) → site < length new → length (ends_of old site) ≡ place_of site own)
    → AreLinked old from → AreLinked new all
linked_more own old new from all row last more linked counts were site other sender receiver apart sends receives =
    let count = counts site (within new site (place_of site other) sender sends) in
    let low = within all other (place_of other site) receiver receives in
    ⊎_elim
    (λ (before : other < own). were site other sender receiver apart (sent_before own site other sender old new row linked count before apart sends)
    (ap (λ l. slice_get l (place_of other site)) (sym (ap (λ l. ends_of l other) more ∙ get_or-append from (row ∷ []) [] other (omega (arith, before, last)))) ∙ receives))
    (λ (behind : own ≤ other). let wide = ap length more in let is : other ≡ own = omega (arith, low, wide, length-append from (row ∷ []), last, behind) in
    let row_is : ends_of all own ≡ row = ap (λ l. ends_of l own) more ∙ ap (ends_of (from ++ row ∷ [])) last ∙ get_or-append_seam from row [] [] in
    linked_last own site sender receiver old new row linked count (λ there. apart (there ∙ sym is))
    (subst (λ n. slice_get (ends_of new site) (place_of site n) ≡ Some sender) is sends)
    (ap (λ l. slice_get l (place_of own site)) (sym row_is) ∙ subst (λ n. slice_get (ends_of all n) (place_of n site) ≡ Some receiver) is receives))
    (cases_lt other own)

-- the same of ends that lie in something else, behind whose front the rest was left out
pub linked_next : {A B : Type 0} (f : A → List Sending) (g : B → List Receiving) (sites own n : ℕ) (to lent new rest : List A) (from all : List B) (row : B)
    → lent ≡ to → length new ≡ length lent → n ≡ length to → n ≡ sites → own ≡ length from → all ≡ from ++ row ∷ []
    → IsLinkedFrom own (length lent) (g row) (map f lent) (map f new)
    → ((site : ℕ) → site < sites → length (ends_of (map f to) site) ≡ place_of site own) → AreLinked (map f to) (map g from)
    → ((site : ℕ) → site < sites → length (ends_of (map f (take n (new ++ rest))) site) ≡ place_of site (own + 1)) × AreLinked (map f (take n (new ++ rest))) (map g all)
linked_next {A = A} f g sites own n to lent new rest from all row same long wide number last more linked counts were =
    let long' = ap length same in
    let whole : take n (new ++ rest) ≡ new = ap (λ m. take m (new ++ rest)) (omega (arith, wide, long, long')) ∙ take-append_seam new rest in
    let size : length lent ≡ length (map f new) = omega (arith, long, length-map new f) in
    let all_sites : sites ≡ length (map f new) = omega (arith, size, number, wide, long') in
    let linked' = subst (λ (x : List A). IsLinkedFrom own (length (map f new)) (g row) (map f x) (map f new)) same
    (subst (λ m. IsLinkedFrom own m (g row) (map f lent) (map f new)) size linked) in
    let counts' : (site : ℕ) → site < length (map f new) → length (ends_of (map f to) site) ≡ place_of site own = λ site low. counts site (omega (arith, low, all_sites)) in (
      (λ site low. subst (λ (x : List A). length (ends_of (map f x) site) ≡ place_of site (own + 1)) (sym whole)
          (counted_more own (map f to) (map f new) (g row) linked' counts' site (omega (arith, low, all_sites)))),
      subst (λ (x : List A). AreLinked (map f x) (map g all)) (sym whole)
          (linked_more own (map f to) (map f new) (map g from) (map g all) (g row) (omega (arith, last, length-map from g)) (ap (map g) more ∙ map-append g from (row ∷ [])) linked' counts' were),
    )
